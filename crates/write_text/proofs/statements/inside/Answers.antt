-- `statements::inside`: field by field. Assumes nothing.
use Rattle.write_text.proofs.SpotLaws.{is_inside, one_more}
use Rattle.write_text.proofs.statements.inside.Goals as goal

pub returns : goal.returns
returns c =
    is_inside c.args.spot c.args.kind c.args.level c.args.to c.bare.ensures (one_more _ _ c.from.ensures) (one_more _ _ c.from-2.ensures)
