-- `bytes::append`: too many records already, or one more behind them. Assumes nothing.
use mathlib.Core.Path.{ap, ◌∙◌}
use Prim.Native.Nat.{ℕ, ◌+◌}
use native.Mathlib.Omega.{arith}
use lib.ListN.{length-append}
use lib.Seq.{sets}
use Rattle.writing.specs.Written.{record_bytes}
use Rattle.read_steps.proofs.ByteLaws.{still_over, appended}
use Rattle.read_steps.proofs.bytes.append.Goals as goal

pub returns-then-size-gt3072 : goal.returns-then-size-gt3072
returns-then-size-gt3072 c = λ b w. still_over w c.if-size-gt3072.true (omega (arith, length-append b (record_bytes c.args.kind c.args.operand)))

pub put_record-end-requires : goal.put_record-end-requires
put_record-end-requires c = omega (arith, c.requires.out_len, c.requires.sized.few_bytes, c.wide.ensures.0, c.if-size-gt3072.false)

pub overflow_sub-result : goal.overflow_sub-result
overflow_sub-result c = omega (arith, c.put_record-end.ensures.value)

pub overflow_cast-result : goal.overflow_cast-result
overflow_cast-result c =
    record {
      fits = omega
          (arith, c.put_record-end.ensures.value, c.requires.sized.few_bytes, c.wide.ensures.0, c.if-size-gt3072.false);
    }

pub returns : goal.returns
returns c =
    λ b w. appended w (omega (arith, c.if-size-gt3072.false)) c.args.operand c.requires.sized (c.put_record-end.ensures.out_after ∙ ap (λ
    (n : ℕ). sets c.args.out.now (14 + n) (record_bytes c.args.kind c.args.operand)) c.wide.ensures.0) (omega
    (arith, c.put_record-end.ensures.value, c.wide.ensures.0))
