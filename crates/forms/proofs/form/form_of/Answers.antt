-- `forms::form::form_of` meets its contract: by how the task is taken.
-- Assumes nothing.
use Rattle.forms.proofs.FormLaws.{idle_formed, keep_formed, going_formed}
use Rattle.forms.specs.declared.form.Going.TheVariants.{Started, Resumed}
use Rattle.forms.proofs.form.form_of.Goals as goal

pub returns-in-Started : goal.returns-in-Started
returns-in-Started c = going_formed c.args.task Started c.started_form.result c.in-Started.is (c.started_form.ensures c.args.live.now)

pub returns-in-Resumed : goal.returns-in-Resumed
returns-in-Resumed c = going_formed c.args.task Resumed c.resumed_form.result c.in-Resumed.is c.resumed_form.ensures

pub returns-in-Held : goal.returns-in-Held
returns-in-Held c = keep_formed c.args.task c.requires c.in-Held.is

pub returns-in-Idle : goal.returns-in-Idle
returns-in-Idle c = idle_formed c.args.task c.in-Idle.is
