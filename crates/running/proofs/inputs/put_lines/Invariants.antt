-- Each chunk before took at most 126 bytes of text, and is gone from what is left of the sets.
use Rattle.std.proofs.Common.{◌≡◌, ◌*◌, ◌-◌, ◌≤◌, length}
use Rattle.running.proofs.inputs.put_lines.Given as goal

abbrev pub invariant-loop-i : goal.invariant-loop-i
invariant-loop-i l = (l.text ≤ 126 * l.i-iterator.count) × (l.i-iterator.iter.size ≡ 8)
    × (length l.i-iterator.iter.rest.now ≡ length l.sets - 8 * l.i-iterator.count)
