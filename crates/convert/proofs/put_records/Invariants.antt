-- `put_records`: the records stored so far stand one after the other. Assumes nothing.
use lib.ListN.{take}
use Rattle.convert.specs.Walk.{bytes_of}
use Rattle.convert.proofs.FormLaws.{Stored}
use Rattle.convert.proofs.put_records.Given as goal

abbrev pub invariant-loop-kind : goal.invariant-loop-kind
invariant-loop-kind l = Stored l.initial.out l.at (bytes_of (take l.kind-index l.records)) l.out l.end
