-- The text that is written for a block: names made from numbers, brackets where the grammar needs them, and the layout. Assumes nothing.
use Rattle.std.specs.Prelude.{cond, List, [], ◌∷◌, ◌++◌, map, ℕ, zero, suc, ◌+◌, ◌-◌, ◌*◌, ◌/◌, ◌%◌, ltb, get_or, replicate}
use Rattle.rules.specs.Statements.{depth, Stmt, nothing, pause, emit, present?◌then◌else◌, suspend◌on◌, ◌⨾◌, loop, ◌parallel◌, trap, exit, local, from}
use Rattle.block.specs.Format.{Header}
use Rattle.text.specs.Tokens.{keywords, NOTHING, PAUSE, EMIT, PRESENT, THEN, ELSE, END, SUSPEND, WHEN, LOOP, TRAP, IN, EXIT, SIGNAL, VERSION, INPUT, OUTPUT}
use Rattle.text.specs.Tokens.{COMMA, SEMICOLON, BRACKET, CLOSED, BESIDE}
use Rattle.text.specs.Grammar.{Arms, only, ◌beside◌, Chain, alone, ◌before◌, Basic, Nothing, Pause, Emit, Exit, Present, Suspend, Loop, Trap, Signal, Bracket, Text}

-- A number in decimal, before some bytes. Each step takes a digit off, so there are never more steps than the number and one.
unfoldable pub decimal_in : ℕ → ℕ → List ℕ → List ℕ
decimal_in zero n r = r
decimal_in (suc f) n r = cond (ltb n 10) ((48 + n % 10) ∷ r) (decimal_in f (n / 10) ((48 + n % 10) ∷ r))

abbrev pub decimal : ℕ → List ℕ
decimal n = decimal_in (suc n) n []

-- A signal's name is its number behind `I`, `O` or `S`, as it is an input, an output or a local; a trap's is behind `T` the number of
-- traps around it.
abbrev pub letter : ℕ → ℕ → ℕ → ℕ
letter i o s = cond (ltb s i) 73 (cond (ltb s (i + o)) 79 83)

abbrev pub signal_word : ℕ → ℕ → ℕ → List ℕ
signal_word i o s = letter i o s ∷ decimal s

abbrev pub trap_word : ℕ → List ℕ
trap_word j = 84 ∷ decimal j

-- A statement as a basic one, as a sequence and as a whole: in brackets where the grammar needs them.
pub record Forms : Type 0 where
  pub as_arms : Arms
  pub as_chain : Chain
  pub as_basic : Basic

abbrev pub of_basic : Basic → Forms
of_basic b = record { as_arms = only (alone b); as_chain = alone b; as_basic = b }

abbrev pub of_chain : Chain → Forms
of_chain c = record { as_arms = only c; as_chain = c; as_basic = Bracket (only c) }

abbrev pub of_arms : Arms → Forms
of_arms p = record { as_arms = p; as_chain = alone (Bracket p); as_basic = Bracket p }

-- The tree of a statement among k traps, with the names of signals and traps.
unfoldable pub forms : (ℕ → List ℕ) → (ℕ → List ℕ) → ℕ → Stmt → Forms
forms f g k nothing = of_basic Nothing
forms f g k (pause n) = of_basic Pause
forms f g k (emit s) = of_basic (Emit (f s))
forms f g k (present? s then p else q) = of_basic (Present (f s) (forms f g k p).as_arms (forms f g k q).as_arms)
forms f g k (suspend p on s) = of_basic (Suspend (forms f g k p).as_arms (f s))
forms f g k (p ⨾ q) = of_chain ((forms f g k p).as_basic before (forms f g k q).as_chain)
forms f g k (loop p) = of_basic (Loop (forms f g k p).as_arms)
forms f g k (p parallel q) = of_arms ((forms f g k p).as_chain beside (forms f g k q).as_arms)
forms f g k (trap p) = of_basic (Trap (g k) (forms f g (suc k) p).as_arms)
forms f g k (exit (depth d)) = of_basic (Exit (g (k - 1 - d)))
forms f g k (local s p) = of_basic (Signal (f s) (forms f g k p).as_arms)

-- The text of a block.
unfoldable pub shown : Header → Stmt → Text
unfolding from forms
shown h p =
    let i = h.inputs in
    let o = h.outputs in
    let f = signal_word i o in
    record { version = h.version; inputs = map f (from 0 i); outputs = map f (from i o); body = (forms f trap_word 0 p).as_arms }

-- The layout, each piece before what follows: a new line with two blanks for each construct that is open; a keyword.
abbrev pub line : ℕ → List ℕ → List ℕ
line d r = 10 ∷ replicate (2 * d) 32 ++ r

abbrev pub word : ℕ → List ℕ → List ℕ
word k r = get_or keywords k [] ++ r

abbrev pub blank : List ℕ → List ℕ
blank r = 32 ∷ r

-- A new line before every basic statement, before `else`, `end`, `when`, `]` and `||`; one blank between the words of a line.
unfoldable mutual
  pub arms_text : Arms → ℕ → List ℕ → List ℕ
  arms_text (only c) d r = chain_text c d r
  arms_text (c beside p) d r = chain_text c d (line d (BESIDE ∷ BESIDE ∷ arms_text p d r))

  pub chain_text : Chain → ℕ → List ℕ → List ℕ
  chain_text (alone b) d r = basic_text b d r
  chain_text (b before c) d r = basic_text b d (SEMICOLON ∷ chain_text c d r)

  pub basic_text : Basic → ℕ → List ℕ → List ℕ
  basic_text Nothing d r = line d (word NOTHING r)
  basic_text Pause d r = line d (word PAUSE r)
  basic_text (Emit x) d r = line d (word EMIT (blank (x ++ r)))
  basic_text (Exit x) d r = line d (word EXIT (blank (x ++ r)))
  basic_text (Present x p q) d r =
      line d (word PRESENT (blank (x ++ blank (word THEN (arms_text p (suc d) (line d (word ELSE (arms_text q (suc d) (line d (word END r))))))))))
  basic_text (Suspend p x) d r = line d (word SUSPEND (arms_text p (suc d) (line d (word WHEN (blank (x ++ r))))))
  basic_text (Loop p) d r = line d (word LOOP (arms_text p (suc d) (line d (word END r))))
  basic_text (Trap x p) d r = line d (word TRAP (blank (x ++ blank (word IN (arms_text p (suc d) (line d (word END r)))))))
  basic_text (Signal x p) d r = line d (word SIGNAL (blank (x ++ blank (word IN (arms_text p (suc d) (line d (word END r)))))))
  basic_text (Bracket p) d r = line d (BRACKET ∷ arms_text p (suc d) (line d (CLOSED ∷ r)))

-- The header: names with a comma and a blank between them; a part without names is left out.
unfoldable pub names_text : List ℕ → List (List ℕ) → List ℕ → List ℕ
names_text x [] r = x ++ (SEMICOLON ∷ r)
names_text x (y ∷ ys) r = x ++ (COMMA ∷ blank (names_text y ys r))

unfoldable pub part_text : ℕ → List (List ℕ) → List ℕ → List ℕ
unfolding names_text
part_text k [] r = r
part_text k (x ∷ xs) r = line 0 (word k (blank (names_text x xs r)))

-- The whole text, with a line feed at its end.
unfoldable pub text_bytes : Text → List ℕ
unfolding part_text arms_text decimal_in
text_bytes t =
    word VERSION (blank (decimal t.version ++ (SEMICOLON ∷ part_text INPUT t.inputs (part_text OUTPUT t.outputs (arms_text t.body 0 (10 ∷ []))))))
