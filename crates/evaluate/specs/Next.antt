-- What the walk of the next state gives. Assumes nothing.
use Rattle.std.specs.Prelude.{◌≡◌, Bool, List}
use Rattle.sets.specs.Numbers.{Numbers}
use Rattle.sets.specs.Words.{bits, set_of}
use Rattle.rules.specs.Events.{Event}
use Rattle.rules.specs.Instant.{Step}
use Rattle.rules.specs.States.{kept}
use Rattle.rules.specs.MustCan.{must, gives}
use Rattle.tables.specs.declared.Table.{Table}
use Rattle.words.specs.declared.events.Heard.{Heard}
use Rattle.words.specs.declared.pauses.Kept.{Kept}
use Rattle.words.specs.Words.{event_of}
use Rattle.forms.specs.declared.form.Form.{Form}
use Rattle.forms.specs.Forms.{Live, Shows}

-- Must's codes and the pauses kept, of a step at an event; A is active.
pub record KeptAs (r : Kept) (p : Step) (E : Event) : Type 0 where
  pub codes_are : bits r.codes ≡ (gives must p E).codes
  pub pauses_are : set_of r.pauses ≡ kept p E

pub record Keeping (A : Numbers) (tab : Table) (live : List Bool) (f : Form) (e : Heard) (r : Kept) : Type 0 where
  pub at : Live tab A live → (p : Step) → Shows tab A f p → KeptAs r p (event_of e)
