-- `clash::flag_of`: a pause by the set, any other statement by the flags of its parts. Assumes nothing.
use mathlib.Core.Path.{refl, sym, ◌∙◌}
use native.Mathlib.Omega.{arith}
use Rattle.sets.proofs.Members.{of_false}
use Rattle.records.proofs.Steps.{true_false}
use Rattle.records.proofs.Quiet.{pause_flag, part_flag, told_flag}
use Rattle.records.proofs.clash.flag_of.Goals as goal

pub returns-then-table-i-eq17 : goal.returns-then-table-i-eq17
returns-then-table-i-eq17 c = λ count f Q. pause_flag f c.if-table-i-eq17.true c.is_active.ensures

pub returns-then-table-i-lt2 : goal.returns-then-table-i-lt2
returns-then-table-i-lt2 c =
    λ count f Q.
    part_flag Q c.if-table-i-eq17.false (λ h l t. absurd (omega (arith, h, c.if-table-i-lt2.true))) (λ h l d s t. absurd (omega (arith, h, c.if-table-i-lt2.true)))

pub returns-then-has_two_parts : goal.returns-then-has_two_parts
returns-then-has_two_parts c =
    λ count f Q.
    part_flag Q c.if-table-i-eq17.false (λ h l t. absurd (of_false c.if-flag_at.false (told_flag c.args.live.now refl c.flag_at.ensures l t)))
    (λ h l d s t. told_flag c.args.live.now (c.second_at.ensures.0 l) c.flag_at-then-has_two_parts.ensures s t)

pub returns : goal.returns
returns c =
    λ count f Q.
    part_flag Q c.if-table-i-eq17.false (λ h l t. absurd (of_false c.if-flag_at.false (told_flag c.args.live.now refl c.flag_at.ensures l t)))
    (λ h l d s t. absurd (true_false d (sym c.has_two_parts.ensures ∙ c.if-has_two_parts.false)))
