-- `names::signal_name`: its letter before its number. Assumes nothing.
use mathlib.Core.Path.{◌∙◌, ap}
use mathlib.Core.List.{◌∷◌}
use Prim.Native.Nat.{ℕ}
use native.Mathlib.Omega.{arith}
use Rattle.text.specs.Shown.{decimal}
use Rattle.write_text.proofs.NameLaws.{letter_range}
use Rattle.write_text.proofs.names.signal_name.Goals as goal

pub lettered-requires : goal.lettered-requires
lettered-requires c =
    let r = letter_range c.args.inputs c.args.outputs c.args.s in omega (arith, c.letter_of.ensures, r.0)

pub returns : goal.returns
returns c = c.lettered.ensures ∙ ap (λ (x : ℕ). x ∷ decimal c.args.s) c.letter_of.ensures
