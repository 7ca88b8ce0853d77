-- `walk::memo::tag_of` meets its contract: the numbers put together.
-- Assumes nothing.
use mathlib.Core.Path.{◌≡◌, refl}
use Prim.Native.Nat.{◌+◌}
use denote.Enum.Declared as variants
use Rattle.forms.specs.declared.form.Going.{Going}
use Rattle.forms.specs.declared.form.Going.TheVariants.{Started, Resumed, Held, Idle}
use Rattle.forms.specs.contracts.form.Going.{the_type as going_type}
use Rattle.words.specs.declared.given.Mark as code
use Rattle.words.specs.declared.given.Mark.TheVariants.{Plus, Open}
use Rattle.words.specs.contracts.given.Mark.{the_type as mark_type}
use Rattle.words.specs.Words.{mark_of}
use Rattle.walk.specs.Memo.{going_number, mark_number}
use Rattle.walk.proofs.Entries.{tag_is}
use Rattle.walk.proofs.memo.tag_of.Goals as goal

its_going : (g : Going) → variants.tag_of going_type g ≡ going_number g
its_going Started = refl
its_going Resumed = refl
its_going Held = refl
its_going Idle = refl

its_mark : (m : code.Mark) → variants.tag_of mark_type m + 1 ≡ mark_number (mark_of m)
its_mark Plus = refl
its_mark Open = refl

pub returns : goal.returns
returns c = tag_is c.args.task (mark_of c.args.mark) refl (its_going c.args.task.going) (its_mark c.args.mark)
