-- `maze::ways::past_reading` meets its contract: INPUT, FORM, then the room, one lemma for each way.
-- Assumes nothing.
use Rattle.maze.specs.Ways.{way_told}
use Rattle.maze.proofs.ViewLaws.{few_rows, input_way, form_way}
use Rattle.maze.proofs.WayLaws.{refused_told, shown_told}
use Rattle.maze.proofs.ways.past_reading.Goals as goal

pub returns-then-input_over : goal.returns-then-input_over
returns-then-input_over c = λ g o. rw c.at.ensures (refused_told _ _ _ _ (input_way o c.args.inputs c.input_over.ensures c.if-input_over.true))

pub in_form-requires : goal.in_form-requires
in_form-requires c = few_rows c.requires.1

pub returns-then-in_form : goal.returns-then-in_form
unfolding way_told
returns-then-in_form c =
    λ g o. shown_told o c.args.inputs _ _ c.input_over.ensures c.if-input_over.false c.in_form.ensures c.if-in_form.true
    (c.from_room.ensures g o)

pub returns : goal.returns
returns c =
    λ g o. rw c.at-2.ensures (refused_told _ _ _ _
    (form_way o c.args.inputs c.input_over.ensures c.if-input_over.false c.in_form.ensures c.if-in_form.false))
