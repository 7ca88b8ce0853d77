-- `found::in_header`: the names passed so far, and the one looked for among them. Assumes nothing.
use mathlib.Core.Path.{◌∙◌}
use native.Mathlib.Omega.{arith}
use Rattle.text.proofs.Views.{here}
use Rattle.read_steps.proofs.FoundLaws.{pass_start, pass_more, pass_end, pass_past}
use Rattle.read_steps.proofs.found.in_header.Goals as goal

pub loop-t-init : goal.loop-t-init
loop-t-init c = pass_start _ _ _

pub returns-then-text-start : goal.returns-then-text-start
returns-then-text-start c = c.numbered.ensures ∙ pass_end c.loop-t.invariant c.token_at-t.ensures c.if-text-start.true

pub returns-then-end-start : goal.returns-then-end-start
returns-then-end-start c =
    c.numbered-then-end-start.ensures ∙ pass_past c.loop-t.invariant c.token_at-t.ensures (omega (arith, c.if-text-start.false))
    c.if-end-start.true

pub pass-p-requires : goal.pass-p-requires
pass-p-requires c =
    let h = here c.args.text.now c.loop-t.at c.token_at-t.ensures (omega
    (arith, c.if-text-start.false)) in
    omega (arith, c.loop-t.invariant.few, h.later, c.if-text-start.false)

pub loop-t-smaller : goal.loop-t-smaller
loop-t-smaller c =
    let h = here c.args.text.now c.loop-t.at c.token_at-t.ensures (omega
    (arith, c.if-text-start.false)) in
    omega (arith, h.later, h.longer, h.within)

pub loop-t-preserved : goal.loop-t-preserved
loop-t-preserved c =
    pass_more c.loop-t.invariant c.token_at-t.ensures (omega (arith, c.if-text-start.false)) (omega
    (arith, c.if-end-start.false)) c.pass-p.ensures
