-- So many numbers took at most 21 bytes each.
use Rattle.std.proofs.Common.{◌+◌, ◌*◌, ◌≤◌}
use Rattle.lines.proofs.Text.put_line.Given as goal

abbrev pub invariant-loop-n : goal.invariant-loop-n
invariant-loop-n g l = l.self ≤ l.initial.self + 21 * l.n-index
