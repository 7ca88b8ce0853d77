-- `moves::after_move`: a sequence, a parallel, or what closes the level. Assumes nothing.
use mathlib.Core.Path.{sym, ap, ◌∙◌}
use Rattle.read_steps.specs.Moves.{after_move}
use Rattle.read_steps.proofs.MoveLaws.{after_other}
use Rattle.read_steps.proofs.moves.after_move.Goals as goal

pub returns-then-sign-eq-SEMICOLON : goal.returns-then-sign-eq-SEMICOLON
unfolding after_move
returns-then-sign-eq-SEMICOLON c = ap (after_move c.args.closer) (sym c.if-sign-eq-SEMICOLON.true)

pub returns-then-sign-eq-BESIDE : goal.returns-then-sign-eq-BESIDE
unfolding after_move
returns-then-sign-eq-BESIDE c = ap (after_move c.args.closer) (sym c.if-sign-eq-BESIDE.true)

pub returns : goal.returns
returns c = c.closed_move.ensures ∙ after_other c.args.closer c.args.sign c.if-sign-eq-SEMICOLON.false c.if-sign-eq-BESIDE.false
