-- Must and can in one instant. Assumes nothing.
use Rattle.std.specs.Prelude.{Bool, true, false, ◌&&◌, ℕ}
use Rattle.sets.specs.Numbers.{Numbers, empty, single, union, without, only_if, maxima, downs}
use Rattle.rules.specs.Statements.{code}
use Rattle.rules.specs.Events.{Status, present, absent, unknown, Event, giving}
use Rattle.rules.specs.Instant.{Step, done, stay, say, leave, test, catch, scope, chain, beside}

-- Can carries a mark: plus (surely executed) or open (`opened` here: the language keeps the word open to itself).
pub data Mark : Type 0 where
  plus opened : Mark

-- The two questions, can with its mark.
pub data Question : Type 0 where
  must : Question
  can : Mark → Question

-- Must gives signals and at most one code (none: an empty set); can gives signals and a set of codes.
pub record Given : Type 0 where
  pub signals : Numbers
  pub codes : Numbers

abbrev pub nothing_known : Given
nothing_known = record { signals = empty; codes = empty }

abbrev pub either : Given → Given → Given
either a b = record { signals = union a.signals b.signals; codes = union a.codes b.codes }

-- Under a status that is not known, can goes on with open mark.
abbrev pub in_doubt : Question → Question
in_doubt must = must
in_doubt (can m) = can opened

-- A tested status chooses; unknown, must is empty with no code, and can is the union of both in doubt.
abbrev pub choose : Question → Status → Given → Given → Given → Given → Given
choose k present p q p? q? = p
choose k absent p q p? q? = q
choose must unknown p q p? q? = nothing_known
choose (can m) unknown p q p? q? = either p? q?

-- A trap: signals as the body, codes down.
abbrev pub caught : Given → Given
caught a = record { signals = a.signals; codes = downs a.codes }

-- A parallel: union of signals, maxima of codes.
abbrev pub both : Given → Given → Given
both a b = record { signals = union a.signals b.signals; codes = maxima a.codes b.codes }

-- A sequence: the second part counts only if 0 is in the first's codes, which is then removed.
abbrev pub followed : Given → Given → Given
followed a b = record {
  signals = union a.signals (only_if (a.codes 0) b.signals);
  codes = union (without 0 a.codes) (only_if (a.codes 0) b.codes);
}

-- The second part's question: the mark stays plus only if it was plus and the first must give 0.
abbrev pub onward : Question → Bool → Question
onward must gives_0 = must
onward (can plus) true = can plus
onward (can plus) false = can opened
onward (can opened) gives_0 = can opened

-- Can asks for a local's signal in must only if the mark is plus; must itself always does.
abbrev pub asks_must : Question → Bool
asks_must must = true
asks_must (can plus) = true
asks_must (can opened) = false

-- A local's signal is absent if it is not in the body's can: can asks for that under the mark at hand, must under plus.
abbrev pub absence_asked : Question → Question
absence_asked must = can plus
absence_asked (can m) = can m

-- A status marked: present if in must, absent if not in can, else as it was.
abbrev pub marked : Bool → Bool → Status → Status
marked true in_can v = present
marked false false v = absent
marked false true v = v

-- A local's status, from its body analysed with the signal unknown.
abbrev pub local_status : Question → ℕ → Given → Given → Status
local_status k s body_must body_can = marked (asks_must k && body_must.signals s) (body_can.signals s) unknown

-- A local: its signal is removed from the result.
abbrev pub hidden : ℕ → Given → Given
hidden s a = record { signals = without s a.signals; codes = a.codes }

-- What must, or can with a mark, gives at an event.
unfoldable pub gives : Question → Step → Event → Given
gives k done E = record { signals = empty; codes = single 0 }
gives k (stay A) E = record { signals = empty; codes = single 1 }
gives k (say s) E = record { signals = single s; codes = single 0 }
gives k (leave d) E = record { signals = empty; codes = single (code d) }
gives k (test s p q) E = choose k (E s) (gives k p E) (gives k q E) (gives (in_doubt k) p E) (gives (in_doubt k) q E)
gives k (catch p) E = caught (gives k p E)
gives k (chain p q) E = followed (gives k p E) (gives (onward k ((gives must p E).codes 0)) q E)
gives k (beside p q) E = both (gives k p E) (gives k q E)
gives k (scope s p) E =
    hidden s (gives k p (giving E s (local_status k s (gives must p (giving E s unknown)) (gives (absence_asked k) p (giving E s unknown)))))
