-- An undecided test is reached exactly when must has no code: by induction over the statement, started and resumed. Each form makes of parts that
-- are decided one way or the other a whole that is; of a sequence whose first part gives 0 the second decides. Assumes nothing.
use mathlib.Core.Path.{◌≡◌, subst}
use mathlib.Core.Logic.{◌⊎◌, inl, inr}
use mathlib.Core.Bool.{false}
use Prim.Native.Nat.{ℕ, ◌+◌}
use lib.Dec.{T, eqb, eqb→eq}
use Rattle.sets.specs.Numbers.{Numbers, empty, single, union, without, only_if, down}
use Rattle.sets.proofs.Members.{cases, single_in, union_left, union_right, union_out, without_in, only_if_in, only_if_test, only_if_member, eqb_in, of_false}
use Rattle.sets.proofs.Maxima.{maxima_in, maxima_out, downs_in, downs_out}
use Rattle.rules.specs.Statements.{code, Stmt, nothing, pause, emit, present?◌then◌else◌, suspend◌on◌, ◌⨾◌, loop, ◌parallel◌, trap, exit, local, statements}
use Rattle.rules.specs.Events.{Status, present, absent, unknown, Event, giving}
use Rattle.rules.specs.Instant.{chain, active, started, resumed}
use Rattle.rules.specs.MustCan.{must, Given, choose, caught, both, followed, gives}
use Rattle.rules.specs.States.{executed_as, kept_by}
use Rattle.rules.specs.Taken.{undecided_test, wants_test, itself_if, taken_started, taken_resumed}
use Rattle.rules.proofs.OneCode.{OneCode, one_code}
use Rattle.theorems.proofs.Cases.{active_part, active_arm}
use Rattle.theorems.proofs.Exact.{FirstOrBoth, only_first, then_second, first_or_both}

-- A code and no number, or a number and no code.
pub data Decides (a : Given) (X : Numbers) : Type 0 where
  has_code : (c : ℕ) → T (a.codes c) → ((n : ℕ) → T (X n) → ⊥) → Decides a X
  has_test : (n : ℕ) → T (X n) → ((c : ℕ) → T (a.codes c) → ⊥) → Decides a X

sure : (ss : Numbers) (c : ℕ) → Decides (record { signals = ss; codes = single c }) empty
sure ss c = has_code c (single_in c) (λ n t. t)

under_trap : {a : Given} {X : Numbers} → Decides a X → Decides (caught a) X
under_trap {a} (has_code c t f) = has_code (down c) (downs_in a.codes c t) f
under_trap {a} (has_test n t f) = has_test n t (λ c u. let r = downs_out a.codes c u in f r.0 r.1)

under_local : {a : Given} {X ss : Numbers} → Decides a X → Decides (record { signals = ss; codes = a.codes }) X
under_local (has_code c t f) = has_code c t f
under_local (has_test n t f) = has_test n t f

tested : (v : Status) (i : ℕ) {a b : Given} {X Y : Numbers} → Decides a X → Decides b Y
    → Decides (choose must v a b a b) (union (itself_if (wants_test undecided_test v) i) (kept_by v X Y))
tested present i d e = d
tested absent i d e = e
tested unknown i d e = has_test i (union_left (single i) empty i (single_in i)) (λ c t. t)

side_by_side : {a b : Given} {X Y : Numbers} → Decides a X → Decides b Y → Decides (both a b) (union X Y)
side_by_side {a} {b} {X} {Y} (has_code c t f) (has_code d u g) = has_code _ (maxima_in a.codes b.codes c d t u) (λ n x. pick n (union_out X Y n x))
  where
    pick : (n : ℕ) → T (X n) ⊎ T (Y n) → ⊥
    pick n (inl x) = f n x
    pick n (inr y) = g n y
side_by_side {a} {b} {X} {Y} (has_test n t f) e =
    has_test n (union_left X Y n t) (λ c u. let r = maxima_out a.codes b.codes c u in f r.0 r.2)
side_by_side {a} {b} {X} {Y} (has_code c t f) (has_test n u g) =
    has_test n (union_right X Y n u) (λ d x. let r = maxima_out a.codes b.codes d x in g r.1 r.3)

module _ (a b : Given) (X Y : Numbers) (o : OneCode a) where
  -- Both parts, the first with code 0.
  goes_on : T (a.codes 0) → ((n : ℕ) → T (X n) → ⊥) → Decides b Y → Decides (followed a b) (union X (only_if (a.codes 0) Y))
  goes_on z f (has_code d u g) =
      has_code d (union_right (without 0 a.codes) (only_if (a.codes 0) b.codes) d (only_if_in (a.codes 0) b.codes d z u))
      (λ n x. pick n (union_out X (only_if (a.codes 0) Y) n x))
    where
      pick : (n : ℕ) → T (X n) ⊎ T (only_if (a.codes 0) Y n) → ⊥
      pick n (inl x) = f n x
      pick n (inr y) = g n (only_if_member (a.codes 0) Y n y)
  goes_on z f (has_test n u g) =
      has_test n (union_right X (only_if (a.codes 0) Y) n (only_if_in (a.codes 0) Y n z u)) (λ d x. pick d (first_or_both a b d x))
    where
      pick : (d : ℕ) → FirstOrBoth a b d → ⊥
      pick d (only_first t m) = m (o.equal d 0 t z)
      pick d (then_second y t) = g d t

  -- The first alone, with another code.
  stops : (c : ℕ) → T (a.codes c) → (c ≡ 0 → ⊥) → ((n : ℕ) → T (X n) → ⊥) → Decides (followed a b) (union X (only_if (a.codes 0) Y))
  stops c t m f =
      has_code c (union_left (without 0 a.codes) (only_if (a.codes 0) b.codes) c (without_in 0 a.codes c t m))
      (λ n x. pick n (union_out X (only_if (a.codes 0) Y) n x))
    where
      pick : (n : ℕ) → T (X n) ⊎ T (only_if (a.codes 0) Y n) → ⊥
      pick n (inl x) = f n x
      pick n (inr y) = m (o.equal c 0 t (only_if_test (a.codes 0) Y n y))

sequel : {a b : Given} {X Y : Numbers} → OneCode a → Decides a X → Decides b Y → Decides (followed a b) (union X (only_if (a.codes 0) Y))
sequel {a} {b} {X} {Y} o (has_code c t f) e = pick (cases (eqb c 0))
  where
    pick : T (eqb c 0) ⊎ (eqb c 0 ≡ false) → Decides (followed a b) (union X (only_if (a.codes 0) Y))
    pick (inl z) = goes_on a b X Y o (subst (λ (k : ℕ). T (a.codes k)) (eqb→eq c 0 z) t) f e
    pick (inr z) = stops a b X Y o c t (λ q. of_false z (eqb_in q)) f
sequel {a} {b} {X} {Y} o (has_test n t f) e = has_test n (union_left X (only_if (a.codes 0) Y) n t) (λ d x. pick d (first_or_both a b d x))
  where
    pick : (d : ℕ) → FirstOrBoth a b d → ⊥
    pick d (only_first u m) = f d u
    pick d (then_second y u) = f 0 y

pub started_decides : (p : Stmt) (i : ℕ) (E : Event) → Decides (gives must (started p) E) (taken_started undecided_test i p E)
unfolding gives started taken_started
started_decides nothing i E = sure empty 0
started_decides (pause n) i E = sure empty 1
started_decides (emit s) i E = sure (single s) 0
started_decides (present? s then p else q) i E = tested (E s) i (started_decides p (i + 1) E) (started_decides q (i + 1 + statements p) E)
started_decides (suspend p on s) i E = started_decides p (i + 1) E
started_decides (p ⨾ q) i E = sequel (one_code (started p) E) (started_decides p (i + 1) E) (started_decides q (i + 1 + statements p) E)
started_decides (loop p) i E = started_decides p (i + 1) E
started_decides (p parallel q) i E = side_by_side (started_decides p (i + 1) E) (started_decides q (i + 1 + statements p) E)
started_decides (trap p) i E = under_trap (started_decides p (i + 1) E)
started_decides (exit d) i E = sure empty (code d)
started_decides (local s p) i E = under_local (started_decides p (i + 1) (giving E s (executed_as s (started p) E)))

pub resumed_decides : (A : Numbers) (p : Stmt) (i : ℕ) (E : Event) → Decides (gives must (resumed A p) E) (taken_resumed undecided_test A i p E)
unfolding gives resumed taken_resumed
resumed_decides A nothing i E = sure empty 0
resumed_decides A (pause n) i E = sure empty 0
resumed_decides A (emit s) i E = sure empty 0
resumed_decides A (present? s then p else q) i E =
    active_part Decides (active A p) (resumed A p) (resumed A q) E (resumed_decides A p (i + 1) E) (resumed_decides A q (i + 1 + statements p) E)
resumed_decides A (suspend p on s) i E = tested (E s) i (sure empty 1) (resumed_decides A p (i + 1) E)
resumed_decides A (p ⨾ q) i E =
    active_part Decides (active A p) (chain (resumed A p) (started q)) (resumed A q) E
    (sequel (one_code (resumed A p) E) (resumed_decides A p (i + 1) E) (started_decides q (i + 1 + statements p) E))
    (resumed_decides A q (i + 1 + statements p) E)
resumed_decides A (loop p) i E = sequel (one_code (resumed A p) E) (resumed_decides A p (i + 1) E) (started_decides p (i + 1) E)
resumed_decides A (p parallel q) i E =
    side_by_side (active_arm Decides (active A p) (resumed A p) E (sure empty 0) (resumed_decides A p (i + 1) E))
    (active_arm Decides (active A q) (resumed A q) E (sure empty 0) (resumed_decides A q (i + 1 + statements p) E))
resumed_decides A (trap p) i E = under_trap (resumed_decides A p (i + 1) E)
resumed_decides A (exit d) i E = sure empty 0
resumed_decides A (local s p) i E = under_local (resumed_decides A p (i + 1) (giving E s (executed_as s (resumed A p) E)))
