-- `maze::view::past_reading` meets its contract: INPUT, FORM, then the rooms, one lemma for each way.
-- Assumes nothing.
use Rattle.maze.proofs.ViewLaws.{few_rows, input_way, form_way, shown_way}
use Rattle.maze.proofs.view.past_reading.Goals as goal

pub returns-then-input_over : goal.returns-then-input_over
returns-then-input_over c = λ g o. rw c.at.ensures (input_way o c.args.inputs c.input_over.ensures c.if-input_over.true)

pub in_form-requires : goal.in_form-requires
in_form-requires c = few_rows c.requires.1

pub returns-then-in_form : goal.returns-then-in_form
returns-then-in_form c =
    λ g o. shown_way o c.args.inputs c.input_over.ensures c.if-input_over.false c.in_form.ensures c.if-in_form.true
    (c.rooms_of.ensures g o)

pub returns : goal.returns
returns c = λ g o. rw c.at-2.ensures (form_way o c.args.inputs c.input_over.ensures c.if-input_over.false c.in_form.ensures c.if-in_form.false)
