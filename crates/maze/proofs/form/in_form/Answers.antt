-- `maze::form::in_form` meets its contract: every row before i fits, and the root is not nothing.
-- Assumes nothing.
use native.Mathlib.Omega.{arith}
use mathlib.Core.Path.{sym}
use Rattle.maze.proofs.RowLaws.{none_yet, one_more, all_rows, bad_root, bad_row}
use Rattle.maze.proofs.form.in_form.Goals as goal

pub returns-then-is_nothing : goal.returns-then-is_nothing
returns-then-is_nothing c = bad_root _ _ _ c.is_nothing.ensures c.if-is_nothing.true

pub loop-i-init : goal.loop-i-init
loop-i-init c = sym (none_yet _ _)

pub loop-i-preserved : goal.loop-i-preserved
loop-i-preserved c = one_more _ _ c.loop-i.i c.loop-i.invariant c.row_fits.ensures c.if-not-row_fits.false

pub returns-then-not-row_fits : goal.returns-then-not-row_fits
returns-then-not-row_fits c =
    bad_row _ _ _ c.loop-i.i c.is_nothing.ensures c.if-is_nothing.false c.loop-i-test.true c.row_fits.ensures c.if-not-row_fits.true

pub returns : goal.returns
returns c =
    all_rows _ _ _ c.loop-i.i c.is_nothing.ensures c.if-is_nothing.false c.loop-i.invariant
    (omega (arith, c.loop-i.auto.i-end, c.loop-i-test.false))
