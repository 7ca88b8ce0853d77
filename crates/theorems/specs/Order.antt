-- How events compare, and what is given at them. Assumes nothing.
use Rattle.std.specs.Prelude.{◌≡◌, ℕ, T, ltb}
use Rattle.sets.specs.Numbers.{Numbers, single, Within}
use Rattle.rules.specs.Statements.{Block}
use Rattle.rules.specs.Events.{Status, present, absent, unknown, Event, known, Hearing, input_status}
use Rattle.rules.specs.MustCan.{Given}
use Rattle.rules.specs.Coherence.{Execution}

-- A known status is the same in the second.
abbrev pub Below : Status → Status → Type 0
Below present w = w ≡ present
Below absent w = w ≡ absent
Below unknown w = Unit {0}

infix 4 ◌⊑◌
-- Every known status of the first event is the same in the second.
pub record ◌⊑◌ (E F : Event) : Type 0 where
  pub at : (n : ℕ) → Below (E n) (F n)

-- The events agree, or compare, on these signals.
pub record Agree (R : Numbers) (E F : Event) : Type 0 where
  pub at : (n : ℕ) → T (R n) → E n ≡ F n

pub record BelowOn (R : Numbers) (E F : Event) : Type 0 where
  pub at : (n : ℕ) → T (R n) → Below (E n) (F n)

-- Every input status that is known to the first hearing is the same in the second.
pub record HearsMore (b : Block) (h h' : Hearing) : Type 0 where
  pub at : (n : ℕ) → T (ltb n b.inputs) → Below (input_status h n) (input_status h' n)

-- A choice for the inputs not heard: present exactly those of a set that agrees with what is heard.
pub record Choice (b : Block) (heard : Hearing) (given : Numbers) : Type 0 where
  pub at : (n : ℕ) → T (ltb n b.inputs) → Below (input_status heard n) (known (given n))

-- The event in which every status is known: present for the members.
abbrev pub whole : Numbers → Event
whole W n = known (W n)

-- All that the first gives, the second gives.
pub record Inside (a b : Given) : Type 0 where
  pub of_signals : Within a.signals b.signals
  pub of_codes : Within a.codes b.codes

-- An execution as something given: the signals emitted and the one code.
abbrev pub outcome : Execution → Given
outcome r = record { signals = r.emitted; codes = single r.completes }

-- An execution lies between what must be and what can be.
pub record Between (least most : Given) (r : Execution) : Type 0 where
  pub lower : Inside least (outcome r)
  pub upper : Inside (outcome r) most
