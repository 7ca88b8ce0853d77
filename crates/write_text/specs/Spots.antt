-- A statement's text at a spot, and the pieces around and between its children. Assumes nothing.
use Rattle.std.specs.Prelude.{Bool, false, not, cond, ◌||◌, List, [], ◌∷◌, ℕ, suc, ◌+◌, ◌≤◌, eqb, length}
use Rattle.sets.specs.Numbers.{listed}
use Rattle.rules.specs.Statements.{Stmt}
use Rattle.tables.specs.Table.{statements, Has}
use Rattle.tables.specs.declared.Table.{Table}
use Rattle.text.specs.Tokens.{NOTHING, PAUSE, EMIT, PRESENT, THEN, ELSE, END, SUSPEND, WHEN, LOOP, TRAP, IN, EXIT, SIGNAL, SEMICOLON, BRACKET, CLOSED, BESIDE}
use Rattle.text.specs.Shown.{Forms, forms, signal_word, trap_word, arms_text, chain_text, basic_text, word, blank}
use Rattle.write_text.specs.Pieces.{row_text, opening_name, closing_name}
use Rattle.write_text.specs.declared.statements.Level.{Level}
use Rattle.write_text.specs.declared.statements.Level.TheVariants.{Basic, Sequence, Whole}
use Rattle.write_text.specs.declared.statements.Spot.{Spot}

-- A statement where a basic one is due, where a sequence is, and where any is.
unfoldable pub at_level : Level → Forms → ℕ → List ℕ → List ℕ
unfolding arms_text
at_level Basic f d r = basic_text f.as_basic d r
at_level Sequence f d r = chain_text f.as_chain d r
at_level Whole f d r = arms_text f.as_arms d r

unfoldable pub statement_text : Spot → Stmt → List ℕ → List ℕ
unfolding at_level forms
statement_text s t r = at_level s.level (forms (signal_word s.inputs s.outputs) trap_word s.traps t) s.indent r

-- A sequence or a parallel without brackets, by its kind and what is due.
unfoldable pub bare : ℕ → Level → Bool
bare k Basic = false
bare k Sequence = eqb k 21
bare k Whole = eqb k 21 || eqb k 23

-- A statement's first word, by its kind; the word behind its first name; and its last.
unfoldable pub first_word : ℕ → List ℕ
first_word k =
    cond (eqb k 16) (word NOTHING [])
    (cond (eqb k 17) (word PAUSE [])
    (cond (eqb k 18) (word EMIT (blank []))
    (cond (eqb k 19) (word PRESENT (blank []))
    (cond (eqb k 20) (word SUSPEND [])
    (cond (eqb k 22) (word LOOP []) (cond (eqb k 24) (word TRAP (blank [])) (cond (eqb k 25) (word EXIT (blank [])) (cond (eqb k 26) (word SIGNAL (blank [])) (BRACKET ∷ [])))))))))

unfoldable pub middle_word : ℕ → List ℕ
unfolding listed
middle_word k = cond (eqb k 19) (blank (word THEN [])) (cond (listed (24 ∷ 26 ∷ []) k) (blank (word IN [])) [])

unfoldable pub last_word : ℕ → List ℕ
unfolding listed
last_word k = cond (listed (19 ∷ 22 ∷ 24 ∷ 26 ∷ []) k) (word END []) (cond (eqb k 20) (word WHEN (blank [])) (cond (listed (21 ∷ 23 ∷ []) k) (CLOSED ∷ []) []))

unfoldable pub opening_text : Spot → ℕ → ℕ → List ℕ → List ℕ
unfolding bare row_text opening_name first_word middle_word
opening_text s k x r = cond (bare k s.level) r (row_text s.indent (first_word k) (opening_name k x s.traps s.inputs s.outputs) (middle_word k) r)

unfoldable pub closing_text : Spot → ℕ → ℕ → List ℕ → List ℕ
unfolding bare row_text closing_name last_word
closing_text s k x r = cond (bare k s.level) r (row_text s.indent (last_word k) (closing_name k x s.inputs s.outputs) [] r)

unfoldable pub between_text : ℕ → ℕ → ℕ → List ℕ → List ℕ
unfolding row_text
between_text k outer inner r =
    cond (eqb k 19) (row_text outer (word ELSE []) [] [] r) (cond (eqb k 23) (row_text inner (BESIDE ∷ BESIDE ∷ []) [] [] r) (SEMICOLON ∷ r))

-- The children's spots.
unfoldable pub first_level : ℕ → Level
first_level k = cond (eqb k 21) Basic (cond (eqb k 23) Sequence Whole)

unfoldable pub second_level : ℕ → Level
second_level k = cond (eqb k 21) Sequence Whole

unfoldable pub inside : Spot → ℕ → Level → ℕ → Spot
unfolding bare
inside s k l to = record {
  to = to;
  level = l;
  indent = cond (not (bare k s.level)) (suc s.indent) s.indent;
  traps = cond (eqb k 24) (suc s.traps) s.traps;
  inputs = s.inputs;
  outputs = s.outputs;
}

-- A statement stands at i, within the table's 512 rows.
pub record Stands (tab : Table) (i : ℕ) (t : Stmt) : Type 0 where
  pub has : Has tab i t
  pub room : i + statements t ≤ 512

-- Some statement stands there, and its text with what follows is not too long; a statement's number is at least how many it is inside of.
pub record Asks (tab : Table) (at : ℕ) (s : Spot) : Type 0 where
  pub tree : Stmt
  pub stands : Stands tab at tree
  pub rest : List ℕ
  pub short : s.to + length (statement_text s tree rest) ≤ 1000000
  pub few_open : s.indent ≤ at
  pub few_traps : s.traps ≤ at
