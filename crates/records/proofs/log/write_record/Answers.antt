-- `log::write_record`: the fields that are laid make the record. Assumes nothing.
use Rattle.records.proofs.Writing.{log_stored}
use Rattle.records.proofs.log.write_record.Goals as goal

pub returns : goal.returns
returns c =
    log_stored c.args.part.now
    (record { inputs_present = c.args.present; inputs_absent = c.args.absent; outputs_present = c.args.outputs; code = c.args.code.0; rounds = c.args.rounds }) c.requires
    c.put_fields.ensures
