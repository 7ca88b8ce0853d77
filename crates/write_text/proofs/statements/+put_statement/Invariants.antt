-- `statements::put_statement`: each way is a law of StatementLaws, from the opening piece on. The measure is what is left of the table.
-- Assumes nothing.
use Prim.Native.Nat.{◌-◌}
use Rattle.write_text.proofs.statements.+put_statement.Given as goal

abbrev pub decreases-put_statement : goal.decreases-put_statement
decreases-put_statement l = 512 - l.at
