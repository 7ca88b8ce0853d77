-- `put_records`: the records stored so far stand one after the other. Assumes nothing.
use Rattle.convert.proofs.FormLaws.{none_stored, record_fits, record_stored}
use Rattle.convert.proofs.put_records.Goals as goal

pub loop-kind-init : goal.loop-kind-init
loop-kind-init c = none_stored _ _

pub put_record-end-requires : goal.put_record-end-requires
put_record-end-requires c = record_fits c.args.records.now c.loop-kind.kind-index c.loop-kind-test.true c.loop-kind.invariant c.requires

pub loop-kind-preserved : goal.loop-kind-preserved
loop-kind-preserved c =
    record_stored c.args.records.now c.loop-kind.kind-index c.loop-kind-test.true c.loop-kind.invariant c.put_record-end.ensures.value c.put_record-end.ensures.out_after
