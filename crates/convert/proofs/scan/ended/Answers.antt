-- `scan::ended`: each return is one end of the reading. Assumes nothing.
use mathlib.Core.Path.{sym, ◌∙◌}
use Rattle.convert.proofs.ScanEnds.{end_bytes, end_locals, end_loop, end_limit, end_good}
use Rattle.convert.proofs.scan.ended.Goals as goal
use Rattle.convert.proofs.scan.ended.Goals.{then-place-b-via-then-place-b, then-place-b-via-else-place-b+then-m-d}

pub returns-then-place-b : goal.returns-then-place-b
returns-then-place-b c =
    rw c.at.ensures
    (elim c.then-place-b.branch [
      | then-place-b-via-then-place-b w ↦ end_bytes _ _ _ c.requires.1 w.if-place-b.true
      | then-place-b-via-else-place-b+then-m-d w ↦ end_locals _ _ _ c.requires.1 w.if-place-b.false w.if-m-d.true
    ])

pub returns-in-Some : goal.returns-in-Some
returns-in-Some c = rw c.at-in-Some.ensures (end_loop _ _ _ c.requires.1 c.if-place-b.false c.if-m-d.false c.in-Some.is)

pub returns-then-over_limits : goal.returns-then-over_limits
returns-then-over_limits c =
    rw c.at-then-over_limits.ensures
    (end_limit _ _ _ c.requires.1 c.if-place-b.false c.if-m-d.false c.in_default.is (sym c.over_limits.ensures ∙ c.if-over_limits.true))

pub returns : goal.returns
returns c =
    end_good _ _ _ c.requires.1 c.if-place-b.false c.if-m-d.false c.in_default.is (sym c.over_limits.ensures ∙ c.if-over_limits.false)
