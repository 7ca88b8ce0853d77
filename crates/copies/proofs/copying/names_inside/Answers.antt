-- `copying::names_inside`: only a local sets a name anew.
use mathlib.Core.Path.{ap, ◌∙◌}
use mathlib.Core.Logic.{inl, inr}
use Rattle.std.proofs.Common.{arith, rules, set}
use Rattle.copies.specs.Copying.{names_of}
use Rattle.copies.proofs.CopyLaws.{names_set, names_local, names_kept}
use Rattle.copies.proofs.copying.names_inside.Goals as goal

pub returns-then-operand-lt64 : goal.returns-then-operand-lt64
returns-then-operand-lt64 c =
    λ h. ap (λ n. names_of (set c.args.names n c.args.next)) c.wide.ensures.0 ∙ names_set c.args.names c.args.operand c.args.next (search rules)
    ∙ names_local c.args.kind c.args.operand c.args.next (names_of c.args.names) c.if-kind-eq-LOCAL.true

pub returns-else-kind-eq-LOCAL : goal.returns-else-kind-eq-LOCAL
returns-else-kind-eq-LOCAL c = λ h. names_kept _ _ _ _ (λ e. absurd (elim c.else-kind-eq-LOCAL.either [ inl p ↦ omega (arith, h e) | inr q ↦ q e ]))
