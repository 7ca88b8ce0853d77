-- `heading::after_name`: a row for each list of names. Assumes nothing.
use mathlib.Core.Path.{sym, ap}
use Rattle.read_text.specs.Reading.{after_name}
use Rattle.read_text.proofs.HeadLaws.{name_other}
use Rattle.read_text.proofs.heading.after_name.Goals as goal

pub returns-in-InputName : goal.returns-in-InputName
unfolding after_name
returns-in-InputName c = sym (ap after_name c.in-InputName.is)

pub returns-in-OutputName : goal.returns-in-OutputName
unfolding after_name
returns-in-OutputName c = sym (ap after_name c.in-OutputName.is)

pub returns-in_default : goal.returns-in_default
returns-in_default c = name_other c.args.awaits c.in_default.not-InputName c.in_default.not-OutputName
