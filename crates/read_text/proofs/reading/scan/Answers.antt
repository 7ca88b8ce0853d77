-- `reading::scan`: the outcome of the text is that of the reader so far on the tokens that are left. Assumes nothing.
use mathlib.Core.Path.{sym, ◌∙◌}
use native.Mathlib.Omega.{arith}
use Rattle.std.proofs.Common.{rules, ◌≡◌}
use Rattle.read_text.specs.Reading.{refused_as}
use Rattle.std.proofs.lemmas.Result.{err_from_is_err_and}
use Rattle.read_text.proofs.ScanLaws.{going_first, less_left, ready, going_on, going_stops, stopped, went_with, scan_ends, scan_breaks}
use Rattle.read_text.proofs.reading.scan.Goals as goal

pub loop-t-init : goal.loop-t-init
loop-t-init c = going_first c.requires.out_len c.first_reader-r.ensures

pub returns-then-may_end : goal.returns-then-may_end
returns-then-may_end c = scan_ends c.loop-t.invariant c.token_at-t.ensures c.if-text-place.true (sym c.may_end.ensures ∙ c.if-may_end.true)

pub returns-then-text-place : goal.returns-then-text-place
returns-then-text-place c =
    rw c.refused.ensures (scan_breaks c.loop-t.invariant c.token_at-t.ensures c.if-text-place.true (sym c.may_end.ensures ∙ c.if-may_end.false))

pub take-requires : goal.take-requires
take-requires c = ready c.loop-t.invariant (record { front = c.token_at-t.ensures; inside = omega (arith, c.if-text-place.false) })

pub returns-in_err-r : goal.returns-in_err-r
returns-in_err-r c =
    let p = err_from_is_err_and c.from_residual.result c.from_residual.ensures.1 in
    let w = stopped _ c.take.result c.map_err.ensures.cases c.in_err-r.was in
    let e : c.in_err-r.field-0.0 ≡ refused_as w.0 c.token_at-t.result.start = search rules in
    rw (p.1, p.2, e)
    (going_stops c.loop-t.invariant (record { front = c.token_at-t.ensures; inside = omega (arith, c.if-text-place.false) }) c.take.ensures w.1)

pub loop-t-smaller : goal.loop-t-smaller
loop-t-smaller c = less_left c.loop-t.invariant (record { front = c.token_at-t.ensures; inside = omega (arith, c.if-text-place.false) })

pub loop-t-preserved : goal.loop-t-preserved
loop-t-preserved c =
    going_on c.loop-t.invariant (record { front = c.token_at-t.ensures; inside = omega (arith, c.if-text-place.false) }) c.take.ensures (went_with _ c.take.result c.map_err.ensures.cases c.in_ok-r.was)
