-- `evaluate::rounds::all_rounds` meets its contract: after k rounds the rest of the fuel leads to the same end, and where no output is undecided
-- the next round is the last. The memory stays sound.
-- Assumes nothing.
use mathlib.Core.Path.{◌≡◌, refl, sym, subst, ◌∙◌}
use Prim.Native.Nat.{ℕ, ◌+◌}
use native.Mathlib.Omega.{arith}
use borrow.Author.Rules.{rules}
use Rattle.walk.specs.Memo.{Sound}
use Rattle.evaluate.specs.Reacts.{Ends}
use Rattle.evaluate.proofs.RoundLaws.{progress_none, progress_decided, progress_more, progress_stop, progress_end}
use Rattle.evaluate.proofs.rounds.all_rounds.Goals as goal

pub loop-rounds-init : goal.loop-rounds-init
loop-rounds-init c = (progress_none c.args.inputs c.args.outputs, c.requires.2, refl)

pub undecided_of-requires : goal.undecided_of-requires
undecided_of-requires c = c.requires.0

pub returns-then-undecided_of-eq0 : goal.returns-then-undecided_of-eq0
returns-then-undecided_of-eq0 c =
    (progress_decided c.loop-rounds.invariant.0 (search rules) (sym c.undecided_of.ensures ∙ c.if-undecided_of-eq0.true), c.loop-rounds.invariant.1)

pub round_of-next-requires : goal.round_of-next-requires
round_of-next-requires c = (c.requires.0, c.requires.1, c.loop-rounds.invariant.1)

pub returns-then-eq : goal.returns-then-eq
returns-then-eq c =
    (progress_stop c.loop-rounds.invariant.0 (search rules) c.round_of-next.ensures.0 (sym c.eq.ensures ∙ c.if-eq.true), c.round_of-next.ensures.1)

pub loop-rounds-preserved : goal.loop-rounds-preserved
loop-rounds-preserved c = (
  progress_more c.loop-rounds.invariant.0 (search rules) c.round_of-next.ensures.0 (sym c.eq.ensures ∙ c.if-eq.false),
  c.round_of-next.ensures.1,
  search rules,
)

pub returns : goal.returns
returns c =
    let e : c.args.outputs + 1 ≡ c.loop-rounds.rounds = omega arith in
    subst (λ (k : ℕ). Ends c.args.table.now c.args.live.now c.args.task c.args.inputs c.args.outputs c.args.given (record { marks = c.loop-rounds.marks; rounds = k })
    × Sound c.args.table.now c.args.live.now c.loop-rounds.memo) (sym e) (progress_end c.loop-rounds.invariant.0 (omega arith) (omega arith), c.loop-rounds.invariant.1)
