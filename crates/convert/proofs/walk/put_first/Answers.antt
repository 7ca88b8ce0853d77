-- `walk::put_first`: each arm by its kind; the records of a form, or the record itself. Assumes nothing.
use native.Mathlib.Omega.{arith}
use Rattle.convert.proofs.PutLaws.{exit_room, halt_room, sustain_room, await_room, abort_room, record_room}
use Rattle.convert.proofs.PutLaws.{exit_left, halt_left, sustain_left, await_left, abort_left, record_left}
use Rattle.convert.proofs.walk.put_first.Goals as goal

pub sent-d-requires : goal.sent-d-requires
sent-d-requires c = (omega (arith, c.requires.few), c.requires.exits c.in-25.is)

pub put_record-requires : goal.put_record-requires
put_record-requires c = exit_room c.requires c.in-25.is

pub put_halt-requires : goal.put_halt-requires
put_halt-requires c = halt_room c.requires c.in-32.is

pub put_sustain-requires : goal.put_sustain-requires
put_sustain-requires c = sustain_room c.requires c.in-33.is

pub put_await-requires : goal.put_await-requires
put_await-requires c = await_room c.requires c.in-34.is

pub put_abort-requires : goal.put_abort-requires
put_abort-requires c = abort_room c.requires c.in-35.is

pub put_record-requires-in_default : goal.put_record-requires-in_default
put_record-requires-in_default c =
    record_room c.requires c.in_default.in_default-own.rest.0.0.0.0.1 c.in_default.in_default-own.rest.0.0.0.1 c.in_default.in_default-own.rest.0.0.1 c.in_default.in_default-own.rest.0.1 c.in_default.in_default-own.rest.1

pub returns-in-25 : goal.returns-in-25
returns-in-25 c = exit_left _ _ _ _ c.in-25.is c.sent-d.ensures.0 c.put_record.ensures.value c.put_record.ensures.out_after

pub returns-in-32 : goal.returns-in-32
returns-in-32 c = halt_left _ _ _ _ c.in-32.is c.put_halt.ensures.value c.put_halt.ensures.out_after

pub returns-in-33 : goal.returns-in-33
returns-in-33 c = sustain_left _ _ _ _ c.in-33.is c.put_sustain.ensures.value c.put_sustain.ensures.out_after

pub returns-in-34 : goal.returns-in-34
returns-in-34 c = await_left _ _ _ _ c.in-34.is c.put_await.ensures.value c.put_await.ensures.out_after

pub returns-in-35 : goal.returns-in-35
returns-in-35 c = abort_left _ _ _ _ c.in-35.is c.put_abort.ensures.value c.put_abort.ensures.out_after

pub returns-in_default : goal.returns-in_default
returns-in_default c =
    record_left _ _ _ _ c.in_default.in_default-own.rest.0.0.0.0.1 c.in_default.in_default-own.rest.0.0.0.1 c.in_default.in_default-own.rest.0.0.1 c.in_default.in_default-own.rest.0.1 c.in_default.in_default-own.rest.1 c.put_record-in_default.ensures.value c.put_record-in_default.ensures.out_after
