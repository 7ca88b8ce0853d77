-- What a walk keeps, and when that is true. Assumes nothing.
use Rattle.std.specs.Prelude.{◌≡◌, Bool, ◌&&◌, ◌||◌, List, ℕ, ◌+◌, ◌*◌, ◌/◌, ◌%◌, ◌<◌, length, get_or}
use Rattle.sets.specs.Numbers.{Numbers}
use Rattle.sets.specs.Words.{bits}
use Rattle.rules.specs.Events.{unknown, Event}
use Rattle.rules.specs.Instant.{Step}
use Rattle.rules.specs.MustCan.{Mark, plus, opened, Question, must, can, local_status, gives}
use Rattle.theorems.specs.Order.{Agree}
use Rattle.tables.specs.declared.Table.{Table}
use Rattle.words.specs.declared.events.Heard.{Heard}
use Rattle.words.specs.declared.given.GivenWords.{GivenWords}
use Rattle.words.specs.Words.{event_of, given_of}
use Rattle.forms.specs.declared.form.Going.{Going}
use Rattle.forms.specs.declared.form.Going.TheVariants.{Started, Resumed, Held, Idle}
use Rattle.forms.specs.declared.form.Task.{Task}
use Rattle.forms.specs.declared.form.Form.{Form}
use Rattle.forms.specs.declared.form.Form.TheVariants.{Same}
use Rattle.forms.specs.Forms.{Live, Shows}
use Rattle.walk.specs.declared.memo.Found.{Found}
use Rattle.walk.specs.declared.memo.Entry.{Entry}

-- The words are what the question gives, for whatever the form shows, at every event that agrees with this one on the signals asked for.
pub record GivesOn (k : Question) (tab : Table) (live : List Bool) (f : Form) (e : Heard) (R : Numbers) (x : GivenWords) : Type 0 where
  pub at : (A : Numbers) → Live tab A live → (p : Step) → Shows tab A f p → (F : Event) → Agree R (event_of e) F → given_of x ≡ gives k p F

-- Can under a mark, and must if the mark is plus.
pub record WalkedOn (m : Mark) (tab : Table) (live : List Bool) (f : Form) (e : Heard) (r : Found) : Type 0 where
  pub in_must : m ≡ plus → GivesOn must tab live f e (bits r.reads) r.said.must
  pub in_can : GivesOn (can m) tab live f e (bits r.reads) r.said.can

-- A task and a mark as one number, which is not 0.
abbrev pub going_number : Going → ℕ
going_number Started = 0
going_number Resumed = 1
going_number Held = 2
going_number Idle = 3

abbrev pub mark_number : Mark → ℕ
mark_number plus = 1
mark_number opened = 2

unfoldable pub tag_of : Task → Mark → ℕ
tag_of c m = 8 * c.at + 2 * going_number c.going + mark_number m

-- An entry is true: what it says was found of the task that its tag names, under the mark, at its event.
pub record Remembers (tab : Table) (live : List Bool) (x : Entry) : Type 0 where
  pub of_task : (c : Task) (m : Mark) → x.tag ≡ tag_of c m → WalkedOn m tab live (Same c) x.event x.found

-- The entry of number i, in eight words.
unfoldable pub entry_of : List ℕ → ℕ → Entry
entry_of ws i = record {
  tag = get_or ws (8 * i) 0;
  event = record { present = get_or ws (8 * i + 1) 0; absent = get_or ws (8 * i + 2) 0 };
  found = record {
    said = record {
      must = record { signals = get_or ws (8 * i + 4) 0; codes = get_or ws (8 * i + 6) 0 % 4294967296 };
      can = record { signals = get_or ws (8 * i + 5) 0; codes = get_or ws (8 * i + 7) 0 % 4294967296 };
    };
    reads = get_or ws (8 * i + 3) 0;
  };
}

-- Every entry is true.
pub record Sound (tab : Table) (live : List Bool) (ws : List ℕ) : Type 0 where
  pub entry : (i : ℕ) → i < length ws / 8 → Remembers tab live (entry_of ws i)

-- Of these signals, those with a known status.
abbrev pub known_on : Heard → Numbers → Numbers
known_on e R n = R n && (bits e.present n || bits e.absent n)

-- A local's body, asked with its signal unknown: what was found of it at an event that has no status which this one has not. Where that leaves the local
-- unknown, it is this event.
pub record Settling (m : Mark) (tab : Table) (live : List Bool) (s : ℕ) (p : Task) (doubt : Heard) (x : Entry) : Type 0 where
  pub found_is : WalkedOn m tab live (Same p) x.event x.found
  pub agrees : Agree (known_on x.event (bits x.found.reads)) (event_of x.event) (event_of doubt)
  pub fresh : s < 64 → local_status (can m) s (given_of x.found.said.must) (given_of x.found.said.can) ≡ unknown → x.event ≡ doubt
