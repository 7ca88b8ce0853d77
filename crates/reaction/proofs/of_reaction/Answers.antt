-- `of_reaction` meets its contract: by whether something is done.
use Rattle.std.proofs.Common.{rules}
use Rattle.reaction.proofs.Ways.{doubt_way}
use Rattle.reaction.proofs.of_reaction.Goals as goal

pub returns-in-Some : goal.returns-in-Some
returns-in-Some c = λ b a x given h. c.of_done.ensures b a x c.in-Some.is given h

pub returns-in-None : goal.returns-in-None
returns-in-None c =
    λ b a x given h. doubt_way b c.args.r (record { present_fits = search rules; absent_fits = search rules }) given a x c.in-None.is
