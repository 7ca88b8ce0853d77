-- `steps::open_step`: one place too many, or a new one behind a record. Assumes nothing.
use native.Mathlib.Omega.{arith}
use Rattle.read_steps.proofs.StepLaws.{open_burst, open_held}
use Rattle.read_steps.proofs.LevelLaws.{stored}
use Rattle.read_steps.proofs.steps.open_step.Goals as goal

pub returns-then-depth-eq1024 : goal.returns-then-depth-eq1024
returns-then-depth-eq1024 c =
    record { does = λ text at g h ok. open_burst text h c.args.kind c.args.operand c.args.level c.args.mode c.args.name c.requires.sized c.if-depth-eq1024.true }

pub returns : goal.returns
returns c =
    record {
      does = λ text at g h ok. open_held text h c.args.kind c.args.operand c.args.level c.args.mode c.args.name
          c.requires.sized ok (stored c.args.levels.now c.args.s.depth c.args.s.top (omega arith))
          c.if-depth-eq1024.false (c.append-size.ensures g.block h.written) c.next_number-next.ensures;
    }
