-- `found::pass`: only a name counts. Assumes nothing.
use mathlib.Core.Path.{sym, ◌∙◌}
use Rattle.read_steps.proofs.FoundLaws.{no_name, one_name}
use Rattle.read_steps.proofs.found.pass.Goals as goal

pub returns-then-same_word : goal.returns-then-same_word
returns-then-same_word c = one_name c.args.text.now c.args.start _ c.args.p c.in-Name.is (sym c.same_word.ensures ∙ c.if-same_word.true)

pub returns-else-same_word : goal.returns-else-same_word
returns-else-same_word c = one_name c.args.text.now c.args.start _ c.args.p c.in-Name.is (sym c.same_word.ensures ∙ c.if-same_word.false)

pub returns-in_default : goal.returns-in_default
returns-in_default c = sym (no_name c.args.text.now c.args.kind c.args.start _ c.args.p c.in_default.not-Name)
