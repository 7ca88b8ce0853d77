-- `found::inside`: the level declares this name, another, or nothing. Assumes nothing.
use mathlib.Core.Path.{sym, ◌∙◌}
use Rattle.read_steps.proofs.FoundLaws.{through_trap, through_signal, through_none}
use Rattle.read_steps.proofs.found.inside.Goals as goal

pub returns-then-same_word : goal.returns-then-same_word
returns-then-same_word c = through_trap c.args.text.now c.args.l _ c.args.f c.in-TrapBody.is (sym c.same_word.ensures ∙ c.if-same_word.true)

pub returns-else-same_word : goal.returns-else-same_word
returns-else-same_word c =
    c.deeper.ensures ∙ through_trap c.args.text.now c.args.l _ c.args.f c.in-TrapBody.is (sym c.same_word.ensures ∙ c.if-same_word.false)

pub returns-then-same_word-2 : goal.returns-then-same_word-2
returns-then-same_word-2 c = through_signal c.args.text.now c.args.l _ c.args.f c.in-SignalBody.is (sym c.same_word-in-SignalBody.ensures ∙ c.if-same_word-2.true)

pub returns-else-same_word-2 : goal.returns-else-same_word-2
returns-else-same_word-2 c = through_signal c.args.text.now c.args.l _ c.args.f c.in-SignalBody.is (sym c.same_word-in-SignalBody.ensures ∙ c.if-same_word-2.false)

pub returns-in_default : goal.returns-in_default
returns-in_default c = through_none c.args.text.now c.args.l _ c.args.f c.in_default.not-TrapBody c.in_default.not-SignalBody
