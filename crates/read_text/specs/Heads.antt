-- The header's table as the code has it, and where it leads. Assumes nothing.
use Rattle.std.specs.Prelude.{cond, ℕ, eqb}
use Rattle.std.proofs.Math.Option.{Option, none}
use Rattle.text.specs.Tokens.{sign, VERSION, INPUT, OUTPUT, COMMA, SEMICOLON}
use Rattle.text.specs.Reader.{Due, version_due, number_due, version_closed, inputs_due, outputs_due, input_name, input_named, output_name, output_named, body_due}
use Rattle.text.specs.Reader.{Heading, Reader, now, inputs_end, body_start, body_step}
use Rattle.read_text.specs.declared.heading.Awaits.{Awaits}
use Rattle.read_text.specs.declared.heading.Awaits.TheVariants.{VersionDue, NumberDue, VersionClosed, InputsDue, OutputsDue, InputName, InputNamed, OutputName, OutputNamed, BodyDue, Statement}
use Rattle.read_text.specs.declared.heading.Lead.{Lead}
use Rattle.read_text.specs.declared.heading.Lead.TheVariants.{Fault, Next, InputsEnd, Body}

unfoldable pub awaits_of : Due → Awaits
awaits_of version_due = VersionDue
awaits_of number_due = NumberDue
awaits_of version_closed = VersionClosed
awaits_of inputs_due = InputsDue
awaits_of outputs_due = OutputsDue
awaits_of input_name = InputName
awaits_of input_named = InputNamed
awaits_of output_name = OutputName
awaits_of output_named = OutputNamed
awaits_of body_due = BodyDue

-- What is awaited in a header; the statement is past it.
unfoldable pub due_of : Awaits → Due
due_of VersionDue = version_due
due_of NumberDue = number_due
due_of VersionClosed = version_closed
due_of InputsDue = inputs_due
due_of OutputsDue = outputs_due
due_of InputName = input_name
due_of InputNamed = input_named
due_of OutputName = output_name
due_of OutputNamed = output_named
due_of BodyDue = body_due
due_of Statement = body_due

unfoldable pub head_sign : Awaits → ℕ → Lead
head_sign VersionDue k = cond (eqb k VERSION) (Next NumberDue) Fault
head_sign NumberDue k = Fault
head_sign VersionClosed k = cond (eqb k SEMICOLON) (Next InputsDue) Fault
head_sign InputsDue k = cond (eqb k INPUT) (Next InputName) (cond (eqb k OUTPUT) (Next OutputName) Body)
head_sign OutputsDue k = cond (eqb k OUTPUT) (Next OutputName) Body
head_sign InputName k = Fault
head_sign InputNamed k = cond (eqb k COMMA) (Next InputName) (cond (eqb k SEMICOLON) InputsEnd Fault)
head_sign OutputName k = Fault
head_sign OutputNamed k = cond (eqb k COMMA) (Next OutputName) (cond (eqb k SEMICOLON) (Next BodyDue) Fault)
head_sign BodyDue k = Body
head_sign Statement k = Fault

-- What a lead does to a header.
unfoldable pub headed : Heading → ℕ → Lead → Option Reader
unfolding due_of body_step
headed g k Fault = none
headed g k (Next a) = now g (due_of a)
headed g k InputsEnd = inputs_end g
headed g k Body = body_step g (body_start g) (sign k)
