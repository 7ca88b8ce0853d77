-- `write::put_entry`: the five stores make the entry. Assumes nothing.
use mathlib.Core.Path.{refl}
use Rattle.shelf.specs.Calls.{entry}
use Rattle.shelf.proofs.Stored.{entry_stored}
use Rattle.shelf.proofs.write.put_entry.Goals as goal

pub returns : goal.returns
returns c =
    entry_stored c.args.part.now (entry c.args.party c.args.name c.args.block.now) refl c.put_number.ensures
    c.put_number-2.ensures c.put_number-3.ensures c.put_number-4.ensures c.copy_at.ensures
