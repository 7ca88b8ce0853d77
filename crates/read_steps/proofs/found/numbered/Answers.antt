-- `found::numbered`: the signal with the number, where there is one. Assumes nothing.
use mathlib.Core.Path.{sym, ap}
use Rattle.read_steps.specs.Found.{found_as}
use Rattle.read_steps.proofs.found.numbered.Goals as goal

pub returns-in-Some : goal.returns-in-Some
unfolding found_as
returns-in-Some c = sym (ap found_as c.in-Some.is)

pub returns-in-None : goal.returns-in-None
unfolding found_as
returns-in-None c = sym (ap found_as c.in-None.is)
