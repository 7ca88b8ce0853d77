-- `reading::may_end`: three tests, one after the other. Assumes nothing.
use mathlib.Core.Path.{◌∙◌}
use Rattle.read_text.proofs.ScanLaws.{not_there, behind_none, by_level}
use Rattle.read_text.proofs.reading.may_end.Goals as goal

pub returns-then-ne : goal.returns-then-ne
returns-then-ne c = not_there c.args.r c.ne.ensures c.if-ne.true

pub returns-then-ne-2 : goal.returns-then-ne-2
returns-then-ne-2 c = behind_none c.args.r c.ne.ensures c.if-ne.false c.ne-2.ensures c.if-ne-2.true

pub returns : goal.returns
returns c = c.eq.ensures ∙ by_level c.args.r c.ne.ensures c.if-ne.false c.ne-2.ensures c.if-ne-2.false c.closer.ensures
