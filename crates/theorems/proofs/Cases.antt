-- A choice by a test is taken by its two cases, each knowing which way the test went. Assumes nothing.
use mathlib.Core.Path.{◌≡◌, refl}
use mathlib.Core.Bool.{Bool, true, false, cond}
use lib.Dec.{T, eqb}
use Rattle.sets.specs.Numbers.{Numbers, empty, union, only_if}
use Rattle.rules.specs.Events.{Event}
use Rattle.rules.specs.Instant.{Step, done}
use Rattle.rules.specs.MustCan.{must, Given, gives}
use Rattle.rules.specs.Coherence.{Execution, run_on}

pub by_test : {A : Type 0} (P : A → Type 0) (z : Bool) (x y : A) → (T z → P x) → (z ≡ false → P y) → P (cond z x y)
by_test P true x y f g = f tt
by_test P false x y f g = g refl

-- Two executions one after the other, the first with code 0.
abbrev pub both_of : Execution → Execution → Execution
both_of a b = record { emitted = union a.emitted b.emitted; completes = b.completes; keeps = b.keeps }

pub by_first : (P : Execution → Type 0) (a b : Execution) → (T (eqb a.completes 0) → P (both_of a b)) → (eqb a.completes 0 ≡ false → P a) → P (run_on a b)
by_first P a b f g = by_test P (eqb a.completes 0) (both_of a b) a f g

-- The part that an active pause chooses, and an arm of a parallel, which without one gives 0: what must gives with what is reached.
pub active_part : (R : Given → Numbers → Type 0) (b : Bool) (P Q : Step) (E : Event) {X Y : Numbers} → R (gives must P E) X → R (gives must Q E) Y → R (gives must (cond b P Q) E) (cond b X Y)
active_part R true P Q E d e = d
active_part R false P Q E d e = e

pub active_arm : (R : Given → Numbers → Type 0) (b : Bool) (P : Step) (E : Event) {X : Numbers} → R (gives must done E) empty → R (gives must P E) X → R (gives must (cond b P done) E) (only_if b X)
active_arm R true P E z d = d
active_arm R false P E z d = z
