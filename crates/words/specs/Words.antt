-- What the evaluator's words stand for: an event is two words, what must or can gives is a word of signals and one of codes, what is kept
-- is a word of codes and a set of pauses. Assumes nothing.
use Rattle.std.specs.Prelude.{◌≡◌, ℕ}
use Rattle.sets.specs.Numbers.{Numbers, empty, single, only_if}
use Rattle.sets.specs.Words.{bits, set_of}
use Rattle.rules.specs.Events.{Status, present, absent, unknown, Event, Hearing, status_of}
use Rattle.rules.specs.MustCan.{Mark, plus, opened, Given}
use Rattle.words.specs.declared.events.Heard.{Heard}
use Rattle.words.specs.declared.given.GivenWords.{GivenWords}
use Rattle.words.specs.declared.pauses.Kept.{Kept}
use Rattle.words.specs.declared.given.Mark as code
use Rattle.words.specs.declared.given.Mark.TheVariants.{Plus, Open}
use Rattle.words.specs.declared.events.Seen.{Seen}
use Rattle.words.specs.declared.events.Seen.TheVariants.{Present, Absent, Unknown}

-- The event of two words.
unfoldable pub event_of : Heard → Event
event_of e n = status_of (bits e.present n) (bits e.absent n)

-- What two words say of the inputs.
abbrev pub hearing_of : Heard → Hearing
hearing_of e = record { heard_present = bits e.present; heard_absent = bits e.absent }

-- A status of the code.
abbrev pub seen_as : Seen → Status
seen_as Present = present
seen_as Absent = absent
seen_as Unknown = unknown

-- A mark of the code.
abbrev pub mark_of : code.Mark → Mark
mark_of Plus = plus
mark_of Open = opened

-- The signals and the codes of two words.
unfoldable pub given_of : GivenWords → Given
given_of g = record { signals = bits g.signals; codes = bits g.codes }

-- No signal and one code; one signal and code 0.
abbrev pub quiet : ℕ → Given
quiet c = record { signals = empty; codes = single c }

abbrev pub loud : ℕ → Given
loud s = record { signals = single s; codes = single 0 }

-- These codes, and these pauses if 1 is among them.
pub record KeptWith (r : Kept) (C A : Numbers) : Type 0 where
  pub codes_are : bits r.codes ≡ C
  pub pauses_are : set_of r.pauses ≡ only_if (C 1) A
