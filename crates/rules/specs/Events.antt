-- Events: a status for each signal. Assumes nothing.
use Rattle.std.specs.Prelude.{Bool, true, false, not, cond, ◌&&◌, List, ℕ, ◌-◌, eqb, ltb, get_or}
use Rattle.sets.specs.Numbers.{Numbers}
use Rattle.rules.specs.Statements.{Block}

pub data Status : Type 0 where
  present absent unknown : Status

-- An event gives each signal present, absent or unknown.
abbrev pub Event : Type 0
Event = ℕ → Status

-- The event with signal s given the status v.
abbrev pub giving : Event → ℕ → Status → Event
giving E s v n = cond (eqb n s) v (E n)

-- Present or absent: a known status.
abbrev pub known : Bool → Status
known b = cond b present absent

-- What is heard of the inputs: the set of those present and the set of those absent. The rest are unknown.
pub record Hearing : Type 0 where
  pub heard_present : Numbers
  pub heard_absent : Numbers

-- A status from two tests: present by the first, else absent by the second, else unknown.
abbrev pub status_of : Bool → Bool → Status
status_of true also = present
status_of false true = absent
status_of false false = unknown

abbrev pub input_status : Hearing → ℕ → Status
input_status heard n = status_of (heard.heard_present n) (heard.heard_absent n)

-- No unknowns: an input is present when it is in the input set, and the other inputs are absent.
abbrev pub all_heard : Block → Numbers → Hearing
all_heard b given = record { heard_present = given; heard_absent = λ n. ltb n b.inputs && not (given n) }

-- The event of a round: the inputs as they are heard, the outputs with their statuses in order, and what lies beyond unknown.
unfoldable pub event : Block → Hearing → List Status → Event
event b heard outs n = cond (ltb n b.inputs) (input_status heard n) (get_or outs (n - b.inputs) unknown)
