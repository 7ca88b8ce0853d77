-- `walk::put_last`: the end of an abort's form, or nothing. Assumes nothing.
use Rattle.convert.proofs.PutLaws.{end_room, end_left, nothing_left}
use Rattle.convert.proofs.walk.put_last.Goals as goal

pub put_abort_end-requires : goal.put_abort_end-requires
put_abort_end-requires c = end_room c.requires c.if-kind-eq35.true

pub returns-then-kind-eq35 : goal.returns-then-kind-eq35
returns-then-kind-eq35 c = end_left _ _ _ c.if-kind-eq35.true c.put_abort_end.ensures.value c.put_abort_end.ensures.out_after

pub returns : goal.returns
returns c = nothing_left _ _ _ _ c.if-kind-eq35.false
