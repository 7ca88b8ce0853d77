-- `values::excerpt`: the part's values as the library gives them. Assumes nothing.
use mathlib.Core.Path.{ap, ◌∙◌}
use Rattle.foldheron.specs.Answers.{part_told, part_values}
use Rattle.values.proofs.Known.{with_number}
use Rattle.values.proofs.excerpt.Goals as goal

pub returns-in-Ok : goal.returns-in-Ok
unfolding part_told
returns-in-Ok c = ap part_values c.in-Ok.ensures.value

pub returns-in-Err : goal.returns-in-Err
unfolding part_told
returns-in-Err c = with_number _ c.number_of.ensures ∙ ap part_values c.in-Err.ensures.value
