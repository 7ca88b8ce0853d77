-- How long a text is: a statement inside d constructs, at most 63, takes at most 268 bytes for each statement in it and 2 d, less 259, by
-- induction on it; the header and the last line feed take at most 348. Assumes nothing.
use mathlib.Core.Path.{◌≡◌, ap}
use mathlib.Core.List.{List, [], ◌∷◌, ◌++◌, map}
use Prim.Native.Nat.{ℕ, zero, suc, ◌+◌, ◌-◌, ◌*◌, ◌≤◌, ◌<◌}
use native.Mathlib.Nat.{le-max_left, le-max_right}
use native.Mathlib.Omega.{arith}
use lib.ListN.{length, replicate, length-append, length-replicate}
use Rattle.rules.specs.Statements.{depth, Stmt, nothing, pause, emit, present?◌then◌else◌, suspend◌on◌, ◌⨾◌, loop, ◌parallel◌, trap, exit, local, from}
use Rattle.tables.specs.Table.{statements, Small}
use Rattle.block.specs.Format.{Header}
use Rattle.block.specs.Good.{path}
use Rattle.text.specs.Tokens.{INPUT, OUTPUT, SEMICOLON, COMMA, BRACKET, CLOSED, BESIDE, NOTHING, PAUSE, EMIT, PRESENT, THEN, ELSE, END, SUSPEND, WHEN, LOOP, TRAP, IN, EXIT, SIGNAL}
use Rattle.text.specs.Grammar.{Arms, Basic, Nothing, Pause, Emit, Exit, Present, Suspend, Loop, Trap, Signal}
use Rattle.text.specs.Shown.{forms, of_basic, shown, signal_word, trap_word, decimal, line, word, blank, arms_text, basic_text, names_text, part_text, text_bytes}
use Rattle.text.proofs.Words.{decimal_length}
use Rattle.write_text.specs.Spots.{at_level}
use Rattle.write_text.specs.declared.statements.Level.{Level}
use Rattle.write_text.specs.declared.statements.Level.TheVariants as level
use Rattle.write_text.proofs.StatementLaws.{basic_any}

length_line : (d : ℕ) (r : List ℕ) → length (line d r) ≡ 1 + (2 * d + length r)
length_line d r =
    let both = length-append (replicate (2 * d) 32) r in
    let blanks : length {A = ℕ} (replicate (2 * d) 32) ≡ 2 * d = length-replicate (2 * d) 32 in
    omega (arith, both, blanks)

-- A name has at most three bytes.
signal_short : (i o s : ℕ) (r : List ℕ) → s < 64 → length (signal_word i o s ++ r) ≤ 3 + length r
signal_short i o s r l = omega (arith, length-append (signal_word i o s) r, decimal_length 1 (suc s) s [] (omega (arith, l)))

trap_short : (j : ℕ) (r : List ℕ) → j < 64 → length (trap_word j ++ r) ≤ 3 + length r
trap_short j r l = omega (arith, length-append (trap_word j) r, decimal_length 1 (suc j) j [] (omega (arith, l)))

some_path : (p : Stmt) → 1 ≤ path p
unfolding path
some_path nothing = omega arith
some_path (pause n) = omega arith
some_path (emit s) = omega arith
some_path (present? s then p else q) = omega arith
some_path (suspend p on s) = omega arith
some_path (p ⨾ q) = omega arith
some_path (loop p) = omega arith
some_path (p parallel q) = omega arith
some_path (trap p) = omega arith
some_path (exit d) = omega arith
some_path (local s p) = omega arith

module _ (i o : ℕ) where
  abbrev f : ℕ → List ℕ
  f = signal_word i o

  abbrev said : Level → Stmt → ℕ → ℕ → List ℕ → List ℕ
  said n p d k r = at_level n (forms f trap_word k p) d r

  unfoldable Most : Stmt → Type 0
  Most p = (n : Level) (d k : ℕ) (r : List ℕ) → Small p → k ≤ d → d + path p ≤ 64 → length (said n p d k r) + 259 ≤ 268 * statements p + 2 * d + length r

  -- A basic statement, whatever is due.
  as_basic : (b : Basic) (n : Level) (d m : ℕ) (r : List ℕ) → length (basic_text b d r) + 259 ≤ m → length (at_level n (of_basic b) d r) + 259 ≤ m
  as_basic b n d m r l = omega (arith, l, ap length (basic_any n b d r))

  most_nothing : Most nothing
  unfolding Most path statements forms arms_text
  most_nothing n d k r s j l = as_basic Nothing n d _ r (omega (arith, l, length_line d (word NOTHING r)))

  most_pause : (m : ℕ) → Most (pause m)
  unfolding Most path statements forms arms_text
  most_pause m n d k r s j l = as_basic Pause n d _ r (omega (arith, l, length_line d (word PAUSE r)))

  most_emit : (x : ℕ) → Most (emit x)
  unfolding Most path statements forms arms_text Small
  most_emit x n d k r s j l = as_basic (Emit (f x)) n d _ r (omega (arith, l, length_line d (word EMIT (blank (f x ++ r))), signal_short i o x r s))

  most_exit : (x : ℕ) → Most (exit (depth x))
  unfolding Most path statements forms arms_text
  most_exit x n d k r s j l =
      let w = trap_word (k - 1 - x) in
      as_basic (Exit w) n d _ r (omega (arith, l, length_line d (word EXIT (blank (w ++ r))), trap_short (k - 1 - x) r (omega (arith, j, l))))

  -- What is open around a statement that has a child.
  few : (d : ℕ) (p : Stmt) → suc d + path p ≤ 64 → d ≤ 62
  few d p l = omega (arith, l, some_path p)

  abbrev arms_of : ℕ → Stmt → Arms
  arms_of k p = (forms f trap_word k p).as_arms

  most_present : (x : ℕ) (p q : Stmt) → Most p → Most q → Most (present? x then p else q)
  unfolding Most path statements forms arms_text at_level Small
  most_present x p q ih jh n d k r s j l =
      let a = le-max_left (path p) (path q) in
      let b = le-max_right (path p) (path q) in
      let last = line d (word END r) in
      let second = said level.Whole q (suc d) k last in
      let mid = line d (word ELSE second) in
      let rest = blank (word THEN (said level.Whole p (suc d) k mid)) in
      as_basic (Present (f x) (arms_of k p) (arms_of k q)) n d _ r
      (omega (
        arith,
        few d p (omega (arith, a, l)),
        length_line d (word END r),
        jh level.Whole (suc d) k last s.2 (omega (arith, j)) (omega (arith, b, l)),
        length_line d (word ELSE second),
        ih level.Whole (suc d) k mid s.1 (omega (arith, j)) (omega (arith, a, l)),
        signal_short i o x rest s.0,
        length_line d (word PRESENT (blank (f x ++ rest))),
      ))

  most_suspend : (x : ℕ) (p : Stmt) → Most p → Most (suspend p on x)
  unfolding Most path statements forms arms_text at_level Small
  most_suspend x p ih n d k r s j l =
      let last = line d (word WHEN (blank (f x ++ r))) in
      as_basic (Suspend (arms_of k p) (f x)) n d _ r
      (omega (
        arith,
        few d p (omega (arith, l)),
        length_line d (word WHEN (blank (f x ++ r))),
        signal_short i o x r s.0,
        ih level.Whole (suc d) k last s.1 (omega (arith, j)) (omega (arith, l)),
        length_line d (word SUSPEND (said level.Whole p (suc d) k last)),
      ))

  most_loop : (p : Stmt) → Most p → Most (loop p)
  unfolding Most path statements forms arms_text at_level Small
  most_loop p ih n d k r s j l =
      let last = line d (word END r) in
      as_basic (Loop (arms_of k p)) n d _ r
      (omega (arith, few d p (omega (arith, l)), length_line d (word END r), ih level.Whole (suc d) k last s (omega (arith, j)) (omega (arith, l)), length_line d (word LOOP (said level.Whole p (suc d) k last))))

  most_trap : (p : Stmt) → Most p → Most (trap p)
  unfolding Most path statements forms arms_text at_level Small
  most_trap p ih n d k r s j l =
      let last = line d (word END r) in
      let rest = blank (word IN (said level.Whole p (suc d) (suc k) last)) in
      as_basic (Trap (trap_word k) (arms_of (suc k) p)) n d _ r
      (omega (
        arith,
        few d p (omega (arith, l)),
        length_line d (word END r),
        ih level.Whole (suc d) (suc k) last s (omega (arith, j)) (omega (arith, l)),
        trap_short k rest (omega (arith, few d p (omega (arith, l)), j)),
        length_line d (word TRAP (blank (trap_word k ++ rest))),
      ))

  most_local : (x : ℕ) (p : Stmt) → Most p → Most (local x p)
  unfolding Most path statements forms arms_text at_level Small
  most_local x p ih n d k r s j l =
      let last = line d (word END r) in
      let rest = blank (word IN (said level.Whole p (suc d) k last)) in
      as_basic (Signal (f x) (arms_of k p)) n d _ r
      (omega (
        arith,
        few d p (omega (arith, l)),
        length_line d (word END r),
        ih level.Whole (suc d) k last s.1 (omega (arith, j)) (omega (arith, l)),
        signal_short i o x rest s.0,
        length_line d (word SIGNAL (blank (f x ++ rest))),
      ))

  module _ (p q : Stmt) (ih : Most p) (jh : Most q) where
    in_sequence : (d k : ℕ) (r : List ℕ) → Small p → Small q → k ≤ d → d + path p ≤ 64 → d + path q ≤ 64
        → length (said level.Basic p d k (SEMICOLON ∷ said level.Sequence q d k r)) + 517 ≤ 268 * (statements p + statements q) + 4 * d + length r
    unfolding Most
    in_sequence d k r s u j l m = omega (arith, ih level.Basic d k (SEMICOLON ∷ said level.Sequence q d k r) s j l, jh level.Sequence d k r u j m)

    in_parallel : (d k : ℕ) (r : List ℕ) → Small p → Small q → k ≤ d → d + path p ≤ 64 → d + path q ≤ 64
        → length (said level.Sequence p d k (line d (BESIDE ∷ BESIDE ∷ said level.Whole q d k r))) + 515 ≤ 268 * (statements p + statements q) + 6 * d + length r
    unfolding Most
    in_parallel d k r s u j l m =
        let rest = BESIDE ∷ BESIDE ∷ said level.Whole q d k r in omega (arith, ih level.Sequence d k (line d rest) s j l, jh level.Whole d k r u j m, length_line d rest)

    most_sequence : Most (p ⨾ q)
    unfolding Most path statements forms arms_text at_level Small
    most_sequence level.Basic d k r s j l =
        let a = le-max_left (path p) (path q) in
        let b = le-max_right (path p) (path q) in
        let last = line d (CLOSED ∷ r) in
        let whole = in_sequence (suc d) k last s.0 s.1 (omega (arith, j)) (omega (arith, a, l)) (omega (arith, b, l)) in
        omega (arith, few d p (omega (arith, a, l)), whole, length_line d (CLOSED ∷ r), length_line d (BRACKET ∷ said level.Basic p (suc d) k (SEMICOLON ∷ said level.Sequence q (suc d) k last)))
    most_sequence level.Sequence d k r s j l =
        let a = le-max_left (path p) (path q) in
        let b = le-max_right (path p) (path q) in
        omega (arith, few d p (omega (arith, a, l)), in_sequence d k r s.0 s.1 j (omega (arith, a, l)) (omega (arith, b, l)))
    most_sequence level.Whole d k r s j l =
        let a = le-max_left (path p) (path q) in
        let b = le-max_right (path p) (path q) in
        omega (arith, few d p (omega (arith, a, l)), in_sequence d k r s.0 s.1 j (omega (arith, a, l)) (omega (arith, b, l)))

    bracketed : (d k : ℕ) (r : List ℕ) → Small p → Small q → k ≤ d → suc d + path p ≤ 64 → suc d + path q ≤ 64
        → length (line d (BRACKET ∷ said level.Sequence p (suc d) k (line (suc d) (BESIDE ∷ BESIDE ∷ said level.Whole q (suc d) k (line d (CLOSED ∷ r)))))) + 259 ≤ 268 * (1 + statements p + statements q) + 2 * d + length r
    bracketed d k r s u j a b =
        let last = line d (CLOSED ∷ r) in
        let inner = said level.Sequence p (suc d) k (line (suc d) (BESIDE ∷ BESIDE ∷ said level.Whole q (suc d) k last)) in
        let whole = in_parallel (suc d) k last s u (omega (arith, j)) a b in
        omega (arith, few d p a, whole, length_line d (CLOSED ∷ r), length_line d (BRACKET ∷ inner))

    most_parallel : Most (p parallel q)
    unfolding Most path statements forms arms_text at_level Small
    most_parallel level.Basic d k r s j l = bracketed d k r s.0 s.1 j (omega (arith, le-max_left (path p) (path q), l)) (omega (arith, le-max_right (path p) (path q), l))
    most_parallel level.Sequence d k r s j l = bracketed d k r s.0 s.1 j (omega (arith, le-max_left (path p) (path q), l)) (omega (arith, le-max_right (path p) (path q), l))
    most_parallel level.Whole d k r s j l =
        let a = le-max_left (path p) (path q) in
        let b = le-max_right (path p) (path q) in
        let whole = in_parallel d k r s.0 s.1 j (omega (arith, a, l)) (omega (arith, b, l)) in omega (arith, few d p (omega (arith, a, l)), whole)

  most : (p : Stmt) → Most p
  most nothing = most_nothing
  most (pause n) = most_pause n
  most (emit x) = most_emit x
  most (present? x then p else q) = most_present x p q (most p) (most q)
  most (suspend p on x) = most_suspend x p (most p)
  most (p ⨾ q) = most_sequence p q (most p) (most q)
  most (loop p) = most_loop p (most p)
  most (p parallel q) = most_parallel p q (most p) (most q)
  most (trap p) = most_trap p (most p)
  most (exit (depth x)) = most_exit x
  most (local x p) = most_local x p (most p)

  -- The header's names: a name and a comma with its blank, or the semicolon, take at most five bytes.
  names_short : (m n : ℕ) (r : List ℕ) → n + m < 64 → length (names_text (f n) (map f (from (suc n) m)) r) + 1 ≤ 5 * suc m + length r
  unfolding names_text from
  names_short zero n r l = omega (arith, signal_short i o n (SEMICOLON ∷ r) (omega (arith, l)))
  names_short (suc m) n r l =
      let rest = names_text (f (suc n)) (map f (from (suc (suc n)) m)) r in
      omega (arith, signal_short i o n (COMMA ∷ blank rest) (omega (arith, l)), names_short m (suc n) r (omega (arith, l)))

  inputs_short : (m n : ℕ) (r : List ℕ) → n + m ≤ 64 → length (part_text INPUT (map f (from n m)) r) ≤ 6 + 5 * m + length r
  unfolding part_text from
  inputs_short zero n r l = omega arith
  inputs_short (suc m) n r l =
      let rest = names_text (f n) (map f (from (suc n) m)) r in omega (arith, names_short m n r (omega (arith, l)), length_line 0 (word INPUT (blank rest)))

  outputs_short : (m n : ℕ) (r : List ℕ) → n + m ≤ 64 → length (part_text OUTPUT (map f (from n m)) r) ≤ 7 + 5 * m + length r
  unfolding part_text from
  outputs_short zero n r l = omega arith
  outputs_short (suc m) n r l =
      let rest = names_text (f n) (map f (from (suc n) m)) r in omega (arith, names_short m n r (omega (arith, l)), length_line 0 (word OUTPUT (blank rest)))

-- The text of a block within the limits: its version's digits come to what the rest takes.
pub text_short : (h : Header) (p : Stmt) → h.inputs + h.outputs ≤ 64 → Small p → path p ≤ 64 → statements p ≤ 512
    → length (text_bytes (shown h p)) ≤ 137300 + length (decimal h.version)
unfolding text_bytes shown Most at_level
text_short h p l s d n =
    let i = h.inputs in
    let o = h.outputs in
    let body = at_level level.Whole (forms (signal_word i o) trap_word 0 p) 0 (10 ∷ []) in
    let outs = part_text OUTPUT (map (signal_word i o) (from i o)) body in
    let ins = part_text INPUT (map (signal_word i o) (from 0 i)) outs in
    omega (
      arith,
      most i o p level.Whole 0 0 (10 ∷ []) s (omega arith) (omega (arith, d)),
      outputs_short i o o i body (omega (arith, l)),
      inputs_short i o i 0 outs (omega (arith, l)),
      length-append (decimal h.version) (SEMICOLON ∷ ins),
    )

pub text_most : (h : Header) (p : Stmt) → h.version < 65536 → h.inputs + h.outputs ≤ 64 → Small p → path p ≤ 64 → statements p ≤ 512 → length (text_bytes (shown h p)) ≤ 137305
text_most h p v l s d n = omega (arith, text_short h p l s d n, decimal_length 4 (suc h.version) h.version [] (omega (arith, v)))
