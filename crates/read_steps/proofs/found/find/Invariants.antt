-- `found::find`: through the header's names, then the levels, the innermost last. Assumes nothing.
use mathlib.Core.Path.{◌≡◌}
use Rattle.read_steps.specs.Levels.{levels_in}
use Rattle.read_steps.specs.Found.{word_at, header_found, through_all}
use Rattle.read_steps.proofs.found.find.Given as goal

abbrev pub invariant-loop-level : goal.invariant-loop-level
invariant-loop-level l = l.f ≡ through_all l.text (levels_in l.levels l.level-index) (word_at l.text l.name) (header_found l.text l.end (word_at l.text l.name))
