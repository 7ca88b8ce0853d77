-- `exits::sent`: mark by mark, from the innermost on; the number of marks falls. Assumes nothing.
use Rattle.convert.proofs.exits.+sent.Given as goal

abbrev pub decreases-sent : goal.decreases-sent
decreases-sent l = l.count
