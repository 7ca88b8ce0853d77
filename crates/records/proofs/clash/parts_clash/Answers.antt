-- `clash::parts_clash`: a parallel parts what is compatible, and no other statement parts two where one of its parts has no flag. Assumes nothing.
use mathlib.Core.Path.{refl, sym, ◌∙◌}
use lib.ListN.{get_or}
use borrow.Author.Tests.{eq-eqb}
use Rattle.sets.proofs.Members.{of_true, of_false}
use Rattle.records.proofs.Steps.{true_false}
use Rattle.records.proofs.Quiet.{part_agree, told_flag}
use Rattle.records.proofs.clash.parts_clash.Goals as goal
use Rattle.records.proofs.clash.parts_clash.Goals.{then-table-i-ne23, else-table-i-ne23, then-has_two_parts, else-has_two_parts}

pub returns-then-flag_at : goal.returns-then-flag_at
returns-then-flag_at c =
    λ count active Q e. part_agree Q (λ d l t s u. absurd (of_false e (told_flag c.args.live.now (c.second_at.ensures.0 l) c.flag_at-then-flag_at.ensures s u)))

pub returns-else-flag_at : goal.returns-else-flag_at
returns-else-flag_at c =
    λ count active Q e. part_agree Q (λ d l t s u. elim c.if-has_two_parts.branch [
      | then-has_two_parts w ↦ absurd (of_false (sym w.value-is ∙ e) (told_flag c.args.live.now refl w.flag_at.ensures l t))
      | else-has_two_parts w ↦ elim c.if-table-i-ne23.branch [
        | then-table-i-ne23 v ↦ absurd (true_false d (sym v.has_two_parts.ensures ∙ sym v.value-is ∙ w.if-has_two_parts.false))
        | else-table-i-ne23 v ↦ of_true (eq-eqb (get_or c.args.table.now.kinds c.args.i 0) 23 v.if-table-i-ne23.false)
      ]
    ])
