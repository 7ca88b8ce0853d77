-- `steps::next_pair` meets its contract: one lemma for each way.
-- Assumes nothing.
use borrow.Author.Rules.{rules}
use Rattle.pairs.proofs.StepLaws.{outputs_apart, codes_apart, both_go, both_stay, first_only, second_only}
use Rattle.pairs.proofs.steps.next_pair.Goals as goal

pub returns-in-Some-Some : goal.returns-in-Some-Some
returns-in-Some-Some c =
    λ b d. both_go c.args.r c.args.q (search rules) (search rules) b d c.args.p c.in-Some-Some.is-0 c.in-Some-Some.is-1 c.if-r-q.true c.if-a-c.true _ c.next_states.ensures.phase
    c.next_states.ensures.first c.next_states.ensures.second

pub returns-in-None-None : goal.returns-in-None-None
returns-in-None-None c = λ b d. both_stay c.args.r c.args.q (search rules) (search rules) b d c.args.p c.in-None-None.is-0 c.in-None-None.is-1

pub returns-in_default : goal.returns-in_default
returns-in_default c = λ b d. codes_apart c.args.r c.args.q (search rules) (search rules) b d c.args.p c.in-Some-Some.is-0 c.in-Some-Some.is-1 c.if-a-c.false

pub returns-in_default-2 : goal.returns-in_default-2
returns-in_default-2 c = λ b d. outputs_apart c.args.r c.args.q (search rules) (search rules) b d c.args.p c.in-Some-Some.is-0 c.in-Some-Some.is-1 c.if-r-q.false

pub returns-in_default-3 : goal.returns-in_default-3
returns-in_default-3 c = λ b d. first_only c.args.r c.args.q (search rules) (search rules) b d c.args.p c.in_default.is-0 c.in_default.is-1

pub returns-in_default-4 : goal.returns-in_default-4
returns-in_default-4 c = λ b d. second_only c.args.r c.args.q (search rules) (search rules) b d c.args.p c.in_default.is-0 c.in_default.is-1
