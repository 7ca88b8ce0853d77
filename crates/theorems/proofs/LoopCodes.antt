-- The codes of the loop check bound those of every started statement, by induction over the statement, so that no loop body, wherever
-- the loop stands, ends with code 0 in the instant it began. Assumes nothing.
use mathlib.Core.Path.{subst}
use mathlib.Core.Bool.{not, ◌&&◌}
use Prim.Native.Nat.{ℕ}
use lib.Dec.{T, T_not}
use Rattle.sets.specs.Numbers.{Numbers, without, Within}
use Rattle.sets.proofs.Members.{and_left, and_right, without_in, within_refl, within_trans, union_mono, maxima_mono, downs_mono}
use Rattle.rules.specs.Statements.{Stmt, nothing, pause, emit, present?◌then◌else◌, suspend◌on◌, ◌⨾◌, loop, ◌parallel◌, trap, exit, local}
use Rattle.rules.specs.Events.{Event}
use Rattle.rules.specs.Instant.{started}
use Rattle.rules.specs.MustCan.{Question, gives}
use Rattle.rules.specs.Loops.{codes_of, loops_pass}
use Rattle.rules.specs.Coherence.{Locals, execute}
use Rattle.theorems.specs.Checked.{NeverZero, StandsIn, itself, in_then, in_else, in_suspend, in_first, in_second, in_loop, in_left, in_right, in_trap, in_local}
use Rattle.theorems.proofs.Ends.{ends, codes_after_mono, given_ends, run_ends}

zero_free : (a : Numbers) → T (not (a 0)) → Within a (without 0 a)
zero_free a f = record { at = λ n t. without_in 0 a n t (λ e. T_not (a 0) f (subst (λ (x : ℕ). T (a x)) e t)) }

ends_in_codes : (p : Stmt) → T (loops_pass p) → Within (ends (started p)) (codes_of p)
unfolding ends started codes_of loops_pass
ends_in_codes nothing h = within_refl
ends_in_codes (pause n) h = within_refl
ends_in_codes (emit s) h = within_refl
ends_in_codes (present? s then p else q) h =
    union_mono (ends_in_codes p (and_left (loops_pass p) (loops_pass q) h)) (ends_in_codes q (and_right (loops_pass p) (loops_pass q) h))
ends_in_codes (suspend p on s) h = ends_in_codes p h
ends_in_codes (p ⨾ q) h =
    codes_after_mono (ends_in_codes p (and_left (loops_pass p) (loops_pass q) h)) (ends_in_codes q (and_right (loops_pass p) (loops_pass q) h))
ends_in_codes (loop p) h =
    within_trans (ends_in_codes p (and_right (not (codes_of p 0)) (loops_pass p) h))
    (zero_free (codes_of p) (and_left (not (codes_of p 0)) (loops_pass p) h))
ends_in_codes (p parallel q) h =
    maxima_mono (ends_in_codes p (and_left (loops_pass p) (loops_pass q) h)) (ends_in_codes q (and_right (loops_pass p) (loops_pass q) h))
ends_in_codes (trap p) h = downs_mono (ends_in_codes p h)
ends_in_codes (exit d) h = within_refl
ends_in_codes (local s p) h = ends_in_codes p h

-- What must and can give a started statement at any event, under either mark, lies within the check's codes; and so does every run.
pub given_codes : (p : Stmt) → T (loops_pass p) → (k : Question) (E : Event) → Within (gives k (started p) E).codes (codes_of p)
given_codes p h k E = within_trans (given_ends k (started p) E) (ends_in_codes p h)

pub run_codes : (p : Stmt) → T (loops_pass p) → (l : Locals (started p)) (W : Numbers) → T (codes_of p (execute (started p) l W).completes)
run_codes p h l W = (ends_in_codes p h).at (execute (started p) l W).completes (run_ends (started p) l W)

-- Every part of a statement whose loops pass has loops that pass.
part_passes : {q p : Stmt} → StandsIn q p → T (loops_pass p) → T (loops_pass q)
unfolding loops_pass
part_passes itself h = h
part_passes (in_then {p = p} {r = r} m) h = part_passes m (and_left (loops_pass p) (loops_pass r) h)
part_passes (in_else {p = p} {r = r} m) h = part_passes m (and_right (loops_pass p) (loops_pass r) h)
part_passes (in_suspend m) h = part_passes m h
part_passes (in_first {p = p} {r = r} m) h = part_passes m (and_left (loops_pass p) (loops_pass r) h)
part_passes (in_second {p = p} {r = r} m) h = part_passes m (and_right (loops_pass p) (loops_pass r) h)
part_passes (in_loop {p = p} m) h = part_passes m (and_right (not (codes_of p 0)) (loops_pass p) h)
part_passes (in_left {p = p} {r = r} m) h = part_passes m (and_left (loops_pass p) (loops_pass r) h)
part_passes (in_right {p = p} {r = r} m) h = part_passes m (and_right (loops_pass p) (loops_pass r) h)
part_passes (in_trap m) h = part_passes m h
part_passes (in_local m) h = part_passes m h

-- A loop's body, started, never has code 0.
module _ (q p : Stmt) (part : StandsIn (loop q) p) (h : T (loops_pass p)) where
  body_checked : T (not (codes_of q 0) && loops_pass q)
  unfolding loops_pass
  body_checked = part_passes part h

  no_zero : T (codes_of q 0) → ⊥
  no_zero t = T_not (codes_of q 0) (and_left (not (codes_of q 0)) (loops_pass q) body_checked) t

  body_passes : T (loops_pass q)
  body_passes = and_right (not (codes_of q 0)) (loops_pass q) body_checked

  pub loop_body_never_zero : NeverZero (started q)
  loop_body_never_zero = record {
    not_given = λ k E t. no_zero ((given_codes q body_passes k E).at 0 t);
    not_executed = λ l W e. no_zero (subst (λ (n : ℕ). T (codes_of q n)) e (run_codes q body_passes l W));
  }
