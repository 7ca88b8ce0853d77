-- `names::lettered`: the letter is the lowest byte. Assumes nothing.
use mathlib.Core.Path.{ap}
use Prim.Native.Nat.{ℕ, ◌+◌, ◌*◌}
use borrow.Author.Rules.{rules}
use Rattle.write_text.proofs.NameLaws.{letter_before}
use Rattle.write_text.proofs.names.lettered.Goals as goal

pub returns : goal.returns
returns c =
    letter_before _ _ _ c.requires (search rules) c.digits.ensures.upper_bound c.digits.ensures.result_value (ap (λ (x : ℕ). x + 256 * c.digits.result) c.from.ensures)
