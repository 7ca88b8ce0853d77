-- `state::names_block`: the length and the two fields, one law of Reading for each way. Assumes nothing.
use mathlib.Core.Path.{sym, ◌∙◌}
use lib.ListN.{length}
use borrow.Author.Tests.{eqb-true, eqb-false}
use Rattle.records.proofs.Reading.{named_unsized, named_other, named_by}
use Rattle.records.proofs.state.names_block.Goals as goal
use Rattle.records.proofs.state.names_block.Goals.{then-state-eq-SIZE, else-state-eq-SIZE}

pub returns-then-field_at-version : goal.returns-then-field_at-version
returns-then-field_at-version c = elim c.if-state-eq-SIZE.branch [
  | then-state-eq-SIZE w ↦ named_by c.args.version c.args.statements c.args.state.now w.field_at.ensures c.field_at-then-field_at-version.ensures w.if-state-eq-SIZE.true
      (eqb-true w.field_at.result c.args.version (sym w.value-is ∙ c.if-field_at-version.true))
  | else-state-eq-SIZE w ↦ absurd (w.if-state-eq-SIZE.false (eqb-true (length c.args.state.now) 26 (sym w.value-is ∙ c.if-field_at-version.true)))
]

pub returns-else-field_at-version : goal.returns-else-field_at-version
returns-else-field_at-version c = c.if-field_at-version.false ∙ elim c.if-state-eq-SIZE.branch [
  | then-state-eq-SIZE w ↦ named_other c.args.version c.args.statements c.args.state.now w.field_at.ensures w.if-state-eq-SIZE.true
      (eqb-false w.field_at.result c.args.version (sym w.value-is ∙ c.if-field_at-version.false))
  | else-state-eq-SIZE w ↦ named_unsized c.args.version c.args.statements c.args.state.now w.if-state-eq-SIZE.false
]
