-- `maze::corridors::gives_one` meets its contract: by the kind.
-- Assumes nothing.
use mathlib.Core.Path.{sym, ap, ◌∙◌}
use lib.Dec.{eqb}
use borrow.Author.Tests.{eq-eqb, ne_eqb}
use Rattle.maze.specs.Ways.{gives_one}
use Rattle.maze.proofs.corridors.gives_one.Goals as goal

pub returns-in-18 : goal.returns-in-18
unfolding gives_one
returns-in-18 c = ap (eqb _) c.wide.ensures.0 ∙ sym (simp (eq-eqb _ 18 c.in-18.is))

pub returns-in_default : goal.returns-in_default
unfolding gives_one
returns-in_default c = sym (simp (ne_eqb _ 18 c.in_default.in_default-own.rest.1))
