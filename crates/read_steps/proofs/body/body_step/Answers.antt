-- `body::body_step`: a sign has its move, a name is looked up, any other token is at fault. Assumes nothing.
use mathlib.Core.Path.{sym, subst}
use Rattle.read_steps.specs.Holding.{Safe}
use Rattle.read_steps.proofs.TokenLaws.{sign_safe, name_safe, takes_name, takes_sign, takes_stray}
use Rattle.read_steps.proofs.body.body_step.Goals as goal

pub make-requires-clause-safe : goal.make-requires-clause-safe
make-requires-clause-safe c = subst Safe (sym c.sign_move-m.ensures) (sign_safe _ _ _)

pub make-requires-in-Name-clause-safe : goal.make-requires-in-Name-clause-safe
make-requires-in-Name-clause-safe c = subst Safe (sym c.name_move-m.ensures) (name_safe _ _ _)

pub returns-in-Sign : goal.returns-in-Sign
returns-in-Sign c = record { takes = λ at g h e. takes_sign c.args.text.now c.args.t h c.make.ensures c.in-Sign.is c.closer.ensures c.sign_move-m.ensures }

pub returns-in-Name : goal.returns-in-Name
returns-in-Name c =
    record { takes = λ at g h e. takes_name c.args.text.now c.args.t h c.make-in-Name.ensures c.args.end e c.in-Name.is c.find-f.ensures c.name_move-m.ensures }

pub returns-in-Number : goal.returns-in-Number
returns-in-Number c = record { takes = λ at g h e. takes_stray c.args.text.now c.args.t g c.in-Number.is }
