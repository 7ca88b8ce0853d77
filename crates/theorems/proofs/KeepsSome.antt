-- Code 1 exactly when something is kept: whatever stays in a started statement, or in one resumed with an active pause, stays with at
-- least one pause, and an execution with code 1 has come to such a place; by induction. Assumes nothing.
use mathlib.Core.Path.{◌≡◌, refl, sym, ◌∙◌, subst}
use mathlib.Core.Logic.{◌⊎◌, inl, inr}
use mathlib.Core.Bool.{Bool, false, cond, ◌||◌}
use mathlib.Core.List.{List, [], ◌∷◌, ◌++◌}
use Prim.Native.Nat.{ℕ, zero, suc, ◌≤◌, max}
use native.Mathlib.Nat.{le_of_lt, lt_of_not-le, max-eq_left, max-eq_right}
use native.Mathlib.Decide.{dec_le}
use native.Mathlib.Omega.{arith}
use lib.Dec.{T, eqb, eqb_refl}
use Rattle.sets.specs.Numbers.{Numbers, union, only_if, down, listed}
use Rattle.sets.proofs.Members.{of_false, or_left, or_right, or_out, and_in, eqb_in, union_left, union_right, only_if_in}
use Rattle.rules.specs.Statements.{Depth, depth, code, Stmt, nothing, pause, emit, present?◌then◌else◌, suspend◌on◌, ◌⨾◌, loop, ◌parallel◌, trap, exit, local, pauses}
use Rattle.rules.specs.Instant.{Step, done, stay, say, leave, test, catch, scope, chain, beside, any, active, held, started, resumed}
use Rattle.rules.specs.Coherence.{Locals, Execution, assigning, execute}
use Rattle.theorems.specs.Reactions.{Some}
use Rattle.theorems.proofs.Cases.{by_test, by_first}

-- Every `stay` of a step keeps some pause.
abbrev pub Stays : Step → Type 0
Stays done = Unit {0}
Stays (stay A) = Some A
Stays (say s) = Unit {0}
Stays (leave d) = Unit {0}
Stays (test s p q) = Stays p × Stays q
Stays (catch p) = Stays p
Stays (scope s p) = Stays p
Stays (chain p q) = Stays p × Stays q
Stays (beside p q) = Stays p × Stays q

-- A member among those listed.
pub any_out : (A : Numbers) (ns : List ℕ) → T (any A ns) → (n : ℕ) × T (A n) × T (listed ns n)
unfolding any listed
any_out A [] t = absurd t
any_out A (k ∷ ns) t = go (or_out (A k) (any A ns) t) (any_out A ns)
  where
    go : T (A k) ⊎ T (any A ns) → (T (any A ns) → (n : ℕ) × T (A n) × T (listed ns n)) → (n : ℕ) × T (A n) × T (eqb n k || listed ns n)
    go (inl s) f = (k, s, or_left (eqb k k) (listed ns k) (eqb_refl k))
    go (inr s) f = let r = f s in (r.0, r.1, or_right (eqb r.0 k) (listed ns r.0) r.2)

pub any_in : (A : Numbers) (ns : List ℕ) (n : ℕ) → T (A n) → T (listed ns n) → T (any A ns)
unfolding any listed
any_in A [] n s t = absurd t
any_in A (k ∷ ns) n s t = go (or_out (eqb n k) (listed ns n) t) (any_in A ns n s)
  where
    go : T (eqb n k) ⊎ T (listed ns n) → (T (listed ns n) → T (any A ns)) → T (A k || any A ns)
    go (inl e) f = or_left (A k) (any A ns) (subst (λ (x : ℕ). T (A x)) (lib.Dec.eqb→eq n k e) s)
    go (inr l) f = or_right (A k) (any A ns) (f l)

pub any_append : (A : Numbers) (xs ys : List ℕ) → T (any A (xs ++ ys)) → T (any A xs) ⊎ T (any A ys)
unfolding any
any_append A [] ys t = inr t
any_append A (x ∷ xs) ys t = go (or_out (A x) (any A (xs ++ ys)) t) (any_append A xs ys)
  where
    go : T (A x) ⊎ T (any A (xs ++ ys)) → (T (any A (xs ++ ys)) → T (any A xs) ⊎ T (any A ys)) → T (A x || any A xs) ⊎ T (any A ys)
    go (inl s) f = inl (or_left (A x) (any A xs) s)
    go (inr s) f = next (f s)
      where
        next : T (any A xs) ⊎ T (any A ys) → T (A x || any A xs) ⊎ T (any A ys)
        next (inl r) = inl (or_right (A x) (any A xs) r)
        next (inr r) = inr r

pub stays_started : (p : Stmt) → Stays (started p)
unfolding started
stays_started nothing = tt
stays_started (pause n) = (n, eqb_refl n)
stays_started (emit s) = tt
stays_started (present? s then p else q) = (stays_started p, stays_started q)
stays_started (suspend p on s) = stays_started p
stays_started (p ⨾ q) = (stays_started p, stays_started q)
stays_started (loop p) = stays_started p
stays_started (p parallel q) = (stays_started p, stays_started q)
stays_started (trap p) = stays_started p
stays_started (exit d) = tt
stays_started (local s p) = stays_started p

-- One of two parts is active: the first is resumed if it is, and else the second.
one_resumed : (z : Bool) {B : Type 0} (p q : Step) → T z ⊎ B → (T z → Stays p) → (B → Stays q) → Stays (cond z p q)
one_resumed z {B} p q h f g = by_test Stays z p q f (λ e. other h e)
  where
    other : T z ⊎ B → z ≡ false → Stays q
    other (inl t) e = absurd (of_false e t)
    other (inr b) e = g b

pub stays_resumed : (A : Numbers) (p : Stmt) → T (active A p) → Stays (resumed A p)
unfolding resumed active any pauses held
stays_resumed A nothing h = tt
stays_resumed A (pause n) h = tt
stays_resumed A (emit s) h = tt
stays_resumed A (present? s then p else q) h =
    one_resumed (active A p) (resumed A p) (resumed A q) (any_append A (pauses p) (pauses q) h) (stays_resumed A p) (stays_resumed A q)
stays_resumed A (suspend p on s) h =
    let r = any_out A (pauses p) h in
    ((r.0, and_in (A r.0) (listed (pauses p) r.0) r.1 r.2), stays_resumed A p h)
stays_resumed A (p ⨾ q) h =
    one_resumed (active A p) (chain (resumed A p) (started q)) (resumed A q) (any_append A (pauses p) (pauses q) h)
    (λ t. (stays_resumed A p t, stays_started q)) (stays_resumed A q)
stays_resumed A (loop p) h = (stays_resumed A p h, stays_started p)
stays_resumed A (p parallel q) h =
    (by_test Stays (active A p) (resumed A p) done (stays_resumed A p) (λ e. tt), by_test Stays (active A q) (resumed A q) done (stays_resumed A q) (λ e. tt))
stays_resumed A (trap p) h = stays_resumed A p h
stays_resumed A (exit d) h = tt
stays_resumed A (local s p) h = stays_resumed A p h

-- Executions.
pub record KeepsSome (r : Execution) : Type 0 where
  pub some_kept : r.completes ≡ 1 → Some r.keeps

other_code : {r : Execution} → (r.completes ≡ 1 → ⊥) → KeepsSome r
other_code f = record { some_kept = λ e. absurd (f e) }

down_is_one : (c : ℕ) → down c ≡ 1 → c ≡ 1
unfolding down
down_is_one zero e = absurd (omega arith)
down_is_one (suc zero) e = refl
down_is_one (suc (suc zero)) e = absurd (omega arith)
down_is_one (suc (suc (suc c))) e = absurd (omega arith)

pub exit_code : (d : Depth) → code d ≡ 1 → ⊥
unfolding code
exit_code (depth d) e = omega arith

pub max_is_one : (a b : ℕ) → max a b ≡ 1 → (a ≡ 1) ⊎ (b ≡ 1)
max_is_one a b e = go (dec_le a b)
  where
    go : Dec (a ≤ b) → (a ≡ 1) ⊎ (b ≡ 1)
    go (yes h) = inr (sym (max-eq_right h) ∙ e)
    go (no h) = inl (sym (max-eq_left (le_of_lt (lt_of_not-le h))) ∙ e)

kept_if_one : (c : ℕ) (K : Numbers) → c ≡ 1 → Some K → Some (only_if (eqb c 1) K)
kept_if_one c K e k = (k.0, only_if_in (eqb c 1) K k.0 (eqb_in e) k.1)

beside_some : (a b : Execution) (c : ℕ) (e : Numbers) → c ≡ max a.completes b.completes → KeepsSome a → KeepsSome b
    → KeepsSome (record { emitted = e; completes = c; keeps = only_if (eqb c 1) (union a.keeps b.keeps) })
beside_some a b c e m f g = record { some_kept = λ o. kept_if_one c (union a.keeps b.keeps) o (go (max_is_one a.completes b.completes (sym m ∙ o))) }
  where
    go : (a.completes ≡ 1) ⊎ (b.completes ≡ 1) → Some (union a.keeps b.keeps)
    go (inl o) = let k = f.some_kept o in (k.0, union_left a.keeps b.keeps k.0 k.1)
    go (inr o) = let k = g.some_kept o in (k.0, union_right a.keeps b.keeps k.0 k.1)

pub run_keeps_some : (p : Step) → Stays p → (l : Locals p) (W : Numbers) → KeepsSome (execute p l W)
unfolding execute
run_keeps_some done s l W = other_code (λ e. omega arith)
run_keeps_some (stay A) s l W = record { some_kept = λ e. s }
run_keeps_some (say n) s l W = other_code (λ e. omega arith)
run_keeps_some (leave d) s l W = other_code (exit_code d)
run_keeps_some (test n p q) s l W = by_test KeepsSome (W n) (execute p l.0 W) (execute q l.1 W) (λ t. run_keeps_some p s.0 l.0 W) (λ e. run_keeps_some q s.1 l.1 W)
run_keeps_some (catch p) s l W =
    let r = execute p l W in
    record {
      some_kept = λ e. kept_if_one (down r.completes) r.keeps e ((run_keeps_some p s l W).some_kept (down_is_one r.completes e));
    }
run_keeps_some (scope n p) s l W = record { some_kept = (run_keeps_some p s l.1 (assigning W n l.0)).some_kept }
run_keeps_some (chain p q) s l W =
    by_first KeepsSome (execute p l.0 W) (execute q l.1 W) (λ t. record { some_kept = (run_keeps_some q s.1 l.1 W).some_kept }) (λ e. run_keeps_some p s.0 l.0 W)
run_keeps_some (beside p q) s l W =
    let a = execute p l.0 W in
    let b = execute q l.1 W in
    beside_some a b (max a.completes b.completes) (union a.emitted b.emitted) refl
    (run_keeps_some p s.0 l.0 W) (run_keeps_some q s.1 l.1 W)
