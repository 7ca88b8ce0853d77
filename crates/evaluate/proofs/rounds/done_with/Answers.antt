-- `evaluate::rounds::done_with` meets its contract: what is kept goes by the code, and is counted. Assumes nothing.
use Rattle.evaluate.proofs.RoundLaws.{kept_done}
use mathlib.Core.Path.{refl}
use Rattle.sets.specs.Words.{set_of}
use Rattle.evaluate.proofs.rounds.done_with.Goals as goal

pub returns : goal.returns
returns c = kept_done c.args.code.0 (set_of c.args.pauses) refl c.kept_for-kept.ensures c.pause_count.ensures
