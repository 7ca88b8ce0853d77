-- `values::whole::led`: what there is by its own values, and a refusal as its definition says it. Assumes nothing.
use mathlib.Core.Path.{◌∙◌, sym, ap}
use Rattle.maze.specs.Ways.{way_told}
use Rattle.foldheron.specs.Answers.{FoundCorridor}
use Rattle.values.specs.Whole.{way_values}
use Rattle.values.proofs.Known.{with_number}
use Rattle.values.proofs.whole.led.Goals as goal

pub returns-in-Ok : goal.returns-in-Ok
unfolding way_told
returns-in-Ok c = c.shown.ensures ∙ ap (λ (a : FoundCorridor). way_values (way_told a)) (sym c.in-Ok.is)

pub returns-in-Err : goal.returns-in-Err
unfolding way_told way_values
returns-in-Err c = with_number _ c.number_of.ensures ∙ ap (λ (a : FoundCorridor). way_values (way_told a)) (sym c.in-Err.is)
