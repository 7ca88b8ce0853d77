-- `walk::good_block`: the check's answer, good or not. Assumes nothing.
use mathlib.Core.Path.{◌∙◌}
use Rattle.shelf.proofs.Walking.{says_good}
use Rattle.shelf.proofs.walk.good_block.Goals as goal

pub returns : goal.returns
returns c = c.is_ok.ensures.value ∙ says_good c.checked.ensures.1
