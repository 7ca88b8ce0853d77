-- `log::write_at_end`: the record is at the front of the part from the end on. Assumes nothing.
use mathlib.Core.Path.{refl}
use Rattle.records.proofs.Writing.{lent_on}
use Rattle.records.proofs.log.write_at_end.Goals as goal

pub returns : goal.returns
returns c = (
  refl,
  lent_on c.args.log.now c.args.end (record
      { inputs_present = c.args.present; inputs_absent = c.args.absent; outputs_present = c.args.outputs; code = c.args.code.0; rounds = c.args.rounds })
      c.write_record.ensures,
)
