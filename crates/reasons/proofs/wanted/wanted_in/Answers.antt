-- `reasons::wanted::wanted_in` meets its contract: by the variant that the form is; all but two are one law.
-- Assumes nothing.
use Rattle.reasons.specs.Taking.{hit}
use Rattle.reasons.proofs.LeafLaws.{by_form, by_test, by_other}
use Rattle.reasons.proofs.wanted.wanted_in.Goals as goal

pub returns-in-Say : goal.returns-in-Say
unfolding hit
returns-in-Say c = λ n. by_form _ _ c.in-Say.is c.wants_emit.ensures

pub returns-in-Test : goal.returns-in-Test
returns-in-Test c = λ n. by_test _ _ c.in-Test.is c.wants_test.ensures c.status_at.ensures n

pub returns-in_default : goal.returns-in_default
returns-in_default c = λ n. by_other _ _ _ c.in_default.not-Say c.in_default.not-Test c.wants.ensures
