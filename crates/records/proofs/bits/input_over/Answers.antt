-- `bits::input_over`: the definition is the leaf's. Assumes nothing.
use Rattle.records.specs.StateRecord.{undeclared_input}
use Rattle.records.proofs.bits.input_over.Goals as goal

pub returns : goal.returns
unfolding undeclared_input
returns c = c.bit_from.ensures
