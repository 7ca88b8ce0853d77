-- `header::put_names`: the names from the next one on are left to put.
use Prim.Native.Nat.{◌+◌}
use Rattle.text.specs.Shown.{signal_word}
use Rattle.write_text.proofs.HeaderLaws.{NamesLeft}
use Rattle.write_text.proofs.header.put_names.Given as goal

abbrev pub invariant-loop-s : goal.invariant-loop-s
invariant-loop-s l = NamesLeft (signal_word l.inputs l.outputs) (l.start + l.count) l.initial.at (l.start + 1) l.initial.out l.out l.at l.s
