-- Every exit finds its trap: with k traps around a statement its codes are below k + 2, by induction over the statement, started and
-- resumed; so a block's own codes are 0 and 1. Assumes nothing.
use mathlib.Core.Path.{◌≡◌, subst}
use mathlib.Core.Logic.{◌⊎◌, inl, inr}
use mathlib.Core.Bool.{Bool, cond}
use Prim.Native.Nat.{ℕ, zero, suc, ◌+◌, ◌<◌, max}
use native.Mathlib.Omega.{arith}
use lib.Dec.{T}
use Rattle.sets.specs.Numbers.{Numbers, single, union, without, only_if, maxima, down, downs}
use Rattle.sets.proofs.Members.{single_out, union_out, without_member, only_if_member}
use Rattle.sets.proofs.Maxima.{maxima_out, downs_out}
use Rattle.rules.specs.Statements.{depth, code, Stmt, nothing, pause, emit, present?◌then◌else◌, suspend◌on◌, ◌⨾◌, loop, ◌parallel◌, trap, exit, local, Trapped}
use Rattle.rules.specs.Instant.{Step, done, chain, active, started, resumed}
use Rattle.rules.specs.States.{State, fresh, running, finished, step}
use Rattle.rules.specs.Coherence.{execute}
use Rattle.theorems.specs.Checked.{ZeroOrOne}
use Rattle.theorems.proofs.Cases.{by_test}
use Rattle.theorems.proofs.Ends.{codes_after, ends, given_ends, run_ends}

-- All members are below k + 2.
pub record Under (k : ℕ) (a : Numbers) : Type 0 where
  pub below : (c : ℕ) → T (a c) → c < k + 2

under_single : (k c : ℕ) → c < k + 2 → Under k (single c)
under_single k c h = record { below = λ n t. let e = single_out c n t in omega arith }

under_union : {k : ℕ} {a b : Numbers} → Under k a → Under k b → Under k (union a b)
under_union {k} {a} {b} f g = record { below = λ c t. go c (union_out a b c t) }
  where
    go : (c : ℕ) → T (a c) ⊎ T (b c) → c < k + 2
    go c (inl t) = f.below c t
    go c (inr t) = g.below c t

under_after : {k : ℕ} {a b : Numbers} → Under k a → Under k b → Under k (codes_after a b)
under_after {k} {a} {b} f g = record { below = λ c t. go c (union_out (without 0 a) (only_if (a 0) b) c t) }
  where
    go : (c : ℕ) → T (without 0 a c) ⊎ T (only_if (a 0) b c) → c < k + 2
    go c (inl t) = f.below c (without_member 0 a c t)
    go c (inr t) = g.below c (only_if_member (a 0) b c t)

under_maxima : {k : ℕ} {a b : Numbers} → Under k a → Under k b → Under k (maxima a b)
under_maxima {k} {a} {b} f g = record { below = go }
  where
    go : (c : ℕ) → T (maxima a b c) → c < k + 2
    go c t =
        let r = maxima_out a b c t in
        let x = f.below r.0 r.2 in
        let y = g.below r.1 r.3 in
        let e : max r.0 r.1 ≡ c = r.4 in
        omega arith

down_under : (k c : ℕ) → c < suc k + 2 → down c < k + 2
unfolding down
down_under k zero h = omega arith
down_under k (suc zero) h = omega arith
down_under k (suc (suc zero)) h = omega arith
down_under k (suc (suc (suc c))) h = omega arith

under_downs : {k : ℕ} {a : Numbers} → Under (suc k) a → Under k (downs a)
under_downs {k} {a} f = record { below = go }
  where
    go : (c : ℕ) → T (downs a c) → c < k + 2
    go c t = let r = downs_out a c t in subst (λ (x : ℕ). x < k + 2) r.2 (down_under k r.0 (f.below r.0 r.1))

under_cond : {k : ℕ} (z : Bool) (p q : Step) → Under k (ends p) → Under k (ends q) → Under k (ends (cond z p q))
under_cond {k} z p q f g = by_test (λ (S : Step). Under k (ends S)) z p q (λ t. f) (λ e. g)

started_under : (p : Stmt) (k : ℕ) → Trapped k p → Under k (ends (started p))
unfolding ends started Trapped code
started_under nothing k h = under_single k 0 (omega arith)
started_under (pause n) k h = under_single k 1 (omega arith)
started_under (emit s) k h = under_single k 0 (omega arith)
started_under (present? s then p else q) k h = under_union (started_under p k h.0) (started_under q k h.1)
started_under (suspend p on s) k h = started_under p k h
started_under (p ⨾ q) k h = under_after (started_under p k h.0) (started_under q k h.1)
started_under (loop p) k h = started_under p k h
started_under (p parallel q) k h = under_maxima (started_under p k h.0) (started_under q k h.1)
started_under (trap p) k h = under_downs (started_under p (suc k) h)
started_under (exit (depth d)) k h = under_single k (d + 2) (omega arith)
started_under (local s p) k h = started_under p k h

done_under : (k : ℕ) → Under k (ends done)
unfolding ends
done_under k = under_single k 0 (omega arith)

resumed_under : (A : Numbers) (p : Stmt) (k : ℕ) → Trapped k p → Under k (ends (resumed A p))
unfolding ends resumed Trapped
resumed_under A nothing k h = done_under k
resumed_under A (pause n) k h = done_under k
resumed_under A (emit s) k h = done_under k
resumed_under A (present? s then p else q) k h = under_cond (active A p) (resumed A p) (resumed A q) (resumed_under A p k h.0) (resumed_under A q k h.1)
resumed_under A (suspend p on s) k h = under_union (under_single k 1 (omega arith)) (resumed_under A p k h)
resumed_under A (p ⨾ q) k h =
    under_cond (active A p) (chain (resumed A p) (started q)) (resumed A q) (under_after (resumed_under A p k h.0) (started_under q k h.1)) (resumed_under A q k h.1)
resumed_under A (loop p) k h = under_after (resumed_under A p k h) (started_under p k h)
resumed_under A (p parallel q) k h =
    under_maxima (under_cond (active A p) (resumed A p) done (resumed_under A p k h.0) (done_under k)) (under_cond (active A q) (resumed A q) done (resumed_under A q k h.1) (done_under k))
resumed_under A (trap p) k h = under_downs (resumed_under A p (suc k) h)
resumed_under A (exit d) k h = done_under k
resumed_under A (local s p) k h = resumed_under A p k h

step_under : (p : Stmt) (st : State) → Trapped 0 p → Under 0 (ends (step p st))
unfolding step started
step_under p fresh h = started_under p 0 h
step_under p (running A) h = resumed_under A p 0 h
step_under p finished h = done_under 0

zero_or_one : (c : ℕ) → c < 0 + 2 → (c ≡ 0) ⊎ (c ≡ 1)
zero_or_one zero h = inl (omega arith)
zero_or_one (suc zero) h = inr (omega arith)
zero_or_one (suc (suc c)) h = absurd (omega arith)

-- From any state, a block's codes are 0 and 1.
pub root_codes : (p : Stmt) (st : State) → Trapped 0 p → ZeroOrOne (step p st)
root_codes p st h = record {
  if_given = λ k E c t. zero_or_one c ((step_under p st h).below c ((given_ends k (step p st) E).at c t));
  if_executed = λ l W. zero_or_one (execute (step p st) l W).completes ((step_under p st h).below (execute (step p st) l W).completes (run_ends (step p st) l W));
}
