-- `values::whole::corridor`: what the library says of the room that is named. Assumes nothing.
use mathlib.Core.Path.{◌∙◌, ap}
use Rattle.mazes.specs.Mazes.{Room}
use Rattle.maze.specs.Views.{view}
use Rattle.maze.specs.Ways.{way_in}
use Rattle.values.specs.Whole.{way_values, room_by}
use Rattle.values.proofs.Rooms.{room_told}
use Rattle.values.proofs.whole.corridor.Goals as goal

pub returns : goal.returns
returns c =
    let named = room_by c.args.room c.args.first c.args.second in
    c.led.ensures
    ∙ ap way_values (c.corridor.ensures ∙ ap (λ (r : Room). way_in (view c.args.block.now c.args.inputs) r c.args.n) c.room_by-named.ensures ∙ room_told c.args.block.now c.args.inputs c.args.n named)
