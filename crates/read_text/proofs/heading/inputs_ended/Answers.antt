-- `heading::inputs_ended`: the lead at the end of the inputs. Assumes nothing.
use Rattle.read_text.proofs.ReaderLaws.{leads_inputs}
use Rattle.read_text.proofs.heading.inputs_ended.Goals as goal

pub returns : goal.returns
returns c = leads_inputs c.args.r
