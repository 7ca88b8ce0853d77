-- The codes of a step with every signal, locals too, held unknown, bound what must and can give at any event under any mark and what
-- any execution completes with: by induction over the step. Assumes nothing.
use mathlib.Core.Path.{subst}
use Prim.Native.Nat.{ℕ}
use lib.Dec.{T, eqb→eq, eqb_refl}
use Rattle.sets.specs.Numbers.{Numbers, single, union, without, only_if, maxima, downs, Within}
use Rattle.sets.proofs.Members.{of_false, eqb_in, union_left, union_right, without_in, only_if_in, within_refl, within_trans, within_empty, within_left}
use Rattle.sets.proofs.Members.{within_right, union_mono, without_mono, only_if_mono, maxima_mono, downs_mono}
use Rattle.sets.proofs.Maxima.{maxima_in, downs_in}
use Rattle.rules.specs.Statements.{code}
use Rattle.rules.specs.Events.{Status, present, absent, unknown, Event, giving}
use Rattle.rules.specs.Instant.{Step, done, stay, say, leave, test, catch, scope, chain, beside}
use Rattle.rules.specs.MustCan.{Question, must, can, Given, in_doubt, choose, onward, absence_asked, local_status, gives}
use Rattle.rules.specs.Coherence.{Locals, Execution, assigning, run_on, execute}
use Rattle.theorems.proofs.Cases.{by_test, by_first}

-- One after the other.
abbrev pub codes_after : Numbers → Numbers → Numbers
codes_after a b = union (without 0 a) (only_if (a 0) b)

unfoldable pub ends : Step → Numbers
ends done = single 0
ends (stay A) = single 1
ends (say s) = single 0
ends (leave d) = single (code d)
ends (test s p q) = union (ends p) (ends q)
ends (catch p) = downs (ends p)
ends (scope s p) = ends p
ends (chain p q) = codes_after (ends p) (ends q)
ends (beside p q) = maxima (ends p) (ends q)

pub codes_after_mono : {a b c d : Numbers} → Within a b → Within c d → Within (codes_after a c) (codes_after b d)
codes_after_mono {a} {b} f g = union_mono (without_mono 0 f) (only_if_mono (a 0) (b 0) (f.at 0) g)

choose_ends : (k : Question) (v : Status) (p q p? q? : Given) (a b : Numbers) → Within p.codes a → Within q.codes b → Within p?.codes a → Within q?.codes b
    → Within (choose k v p q p? q?).codes (union a b)
choose_ends k present p q p? q? a b f g h i = within_trans f (within_left a b)
choose_ends k absent p q p? q? a b f g h i = within_trans g (within_right a b)
choose_ends must unknown p q p? q? a b f g h i = within_empty
choose_ends (can m) unknown p q p? q? a b f g h i = union_mono h i

pub given_ends : (k : Question) (p : Step) (E : Event) → Within (gives k p E).codes (ends p)
unfolding gives ends
given_ends k done E = within_refl
given_ends k (stay A) E = within_refl
given_ends k (say s) E = within_refl
given_ends k (leave d) E = within_refl
given_ends k (test s p q) E =
    choose_ends k (E s) (gives k p E) (gives k q E) (gives (in_doubt k) p E) (gives (in_doubt k) q E) (ends p) (ends q)
    (given_ends k p E) (given_ends k q E) (given_ends (in_doubt k) p E) (given_ends (in_doubt k) q E)
given_ends k (catch p) E = downs_mono (given_ends k p E)
given_ends k (scope s p) E =
    given_ends k p (giving E s (local_status k s (gives must p (giving E s unknown)) (gives (absence_asked k) p (giving E s unknown))))
given_ends k (chain p q) E = codes_after_mono (given_ends k p E) (given_ends (onward k ((gives must p E).codes 0)) q E)
given_ends k (beside p q) E = maxima_mono (given_ends k p E) (given_ends k q E)

run_on_ends : (a b : Numbers) (r s : Execution) → T (a r.completes) → T (b s.completes) → T (codes_after a b (run_on r s).completes)
run_on_ends a b r s f g = by_first (λ (x : Execution). T (codes_after a b x.completes)) r s
    (λ t. union_right (without 0 a) (only_if (a 0) b) s.completes (only_if_in (a 0) b s.completes (subst (λ (n : ℕ). T (a n)) (eqb→eq r.completes 0 t) f) g))
    (λ e. union_left (without 0 a) (only_if (a 0) b) r.completes (without_in 0 a r.completes f (λ z. of_false e (eqb_in z))))

pub run_ends : (p : Step) (l : Locals p) (W : Numbers) → T (ends p (execute p l W).completes)
unfolding ends execute
run_ends done l W = tt
run_ends (stay A) l W = tt
run_ends (say s) l W = tt
run_ends (leave d) l W = eqb_refl (code d)
run_ends (test s p q) l W = by_test (λ (r : Execution). T (union (ends p) (ends q) r.completes)) (W s) (execute p l.0 W) (execute q l.1 W)
    (λ t. union_left (ends p) (ends q) (execute p l.0 W).completes (run_ends p l.0 W))
    (λ e. union_right (ends p) (ends q) (execute q l.1 W).completes (run_ends q l.1 W))
run_ends (catch p) l W = downs_in (ends p) (execute p l W).completes (run_ends p l W)
run_ends (scope s p) l W = run_ends p l.1 (assigning W s l.0)
run_ends (chain p q) l W = run_on_ends (ends p) (ends q) (execute p l.0 W) (execute q l.1 W) (run_ends p l.0 W) (run_ends q l.1 W)
run_ends (beside p q) l W =
    maxima_in (ends p) (ends q) (execute p l.0 W).completes (execute q l.1 W).completes (run_ends p l.0 W) (run_ends q l.1 W)
