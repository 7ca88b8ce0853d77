-- `state::put_state`: the fields that are laid make the record. Assumes nothing.
use Rattle.records.proofs.Writing.{state_stored}
use Rattle.records.proofs.state.put_state.Goals as goal

pub returns : goal.returns
returns c =
    state_stored c.args.state.now c.args.version c.args.statements c.args.phase c.args.active c.requires c.put_fields.ensures
