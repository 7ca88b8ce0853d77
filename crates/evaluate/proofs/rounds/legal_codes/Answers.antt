-- `evaluate::rounds::legal_codes` meets its contract: a remainder by 2 ^ 18 keeps the bits below 18.
-- Assumes nothing.
use Rattle.evaluate.proofs.RoundLaws.{legal_is}
use Rattle.evaluate.proofs.rounds.legal_codes.Goals as goal

pub returns : goal.returns
returns c = legal_is c.args.codes
