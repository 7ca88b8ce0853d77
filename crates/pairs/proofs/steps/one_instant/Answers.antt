-- `steps::one_instant` meets its contract: both react, and what they tell is compared.
-- Assumes nothing.
use mathlib.Core.Path.{refl}
use native.Mathlib.Omega.{arith}
use Rattle.words.specs.Words.{hearing_of}
use Rattle.pairs.proofs.StepLaws.{both_step}
use Rattle.pairs.proofs.steps.one_instant.Goals as goal

pub all_heard-heard-requires : goal.all_heard-heard-requires
all_heard-heard-requires c = omega (arith, c.requires.0)

pub returns : goal.returns
returns c =
    λ t u a e. both_step _ _ c.args.p c.args.set (hearing_of c.all_heard-heard.result) c.react-r.result c.react-q.result c.args.inputs c.all_heard-heard.ensures refl refl
    (c.react-r.ensures t a) (c.react-q.ensures u e) _ c.next_pair.ensures
