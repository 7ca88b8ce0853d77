-- `bytes::insert`: too many records already, one behind them, or one before bytes that are moved up. Assumes nothing.
use mathlib.Core.Path.{refl, ap, ◌∙◌}
use Prim.Native.Nat.{ℕ, ◌+◌, ◌≤◌}
use native.Mathlib.Omega.{arith}
use lib.Seq.{sets}
use Rattle.writing.specs.Written.{record_bytes}
use Rattle.read_steps.proofs.ByteLaws.{still_over, inserted_last, inserted_between, inserted_longer, shifted}
use Rattle.read_steps.proofs.bytes.insert.Goals as goal

pub returns-then-size-gt3072 : goal.returns-then-size-gt3072
returns-then-size-gt3072 c = λ b p e w. still_over w c.if-size-gt3072.true (inserted_longer c.args.kind p b)

pub put_record-requires : goal.put_record-requires
put_record-requires c =
    omega
    (arith, c.requires.out_len, c.requires.short.four_bytes, c.wide-end.ensures.0, c.if-size-gt3072.false)

pub overflow_add-result : goal.overflow_add-result
overflow_add-result c = omega (arith, c.if-size-gt3072.false)

pub returns-then-size-at : goal.returns-then-size-at
returns-then-size-at c =
    λ b p e w.
    let fits : c.args.size ≤ 3072 = omega (arith, c.if-size-gt3072.false) in
    inserted_last w fits p c.requires.short (omega (arith, e fits, c.if-size-at.true))
    (c.put_record.ensures.out_after ∙ ap (λ (n : ℕ). sets c.args.out.now (14 + n) (record_bytes c.args.kind 0)) c.wide-end.ensures.0) refl

pub put_record-requires-2 : goal.put_record-requires-2
put_record-requires-2 c =
    omega (arith, c.requires.out_len, c.requires.short.four_bytes, c.wide-from.ensures.0, c.wide-end.ensures.0, c.if-size-gt3072.false, c.if-size-at.false, c.copy_within.ensures.len)

pub overflow_add-result-2 : goal.overflow_add-result-2
overflow_add-result-2 c = omega (arith, c.if-size-gt3072.false)

pub returns : goal.returns
returns c =
    λ b p e w.
    let fits : c.args.size ≤ 3072 = omega (arith, c.if-size-gt3072.false) in
    inserted_between w fits c.requires.short (omega
    (arith, c.if-size-at.false)) (e fits)
    c.wide-from.result c.wide-end.result
    c.wide-from.ensures.0
    c.wide-end.ensures.0
    (shifted (omega (arith, c.wide-end.ensures.0, c.wide-from.ensures.0, c.if-size-at.false)) c.copy_within.ensures.len c.copy_within.ensures.by_index.0
    c.copy_within.ensures.by_index.1)
    c.put_record-2.ensures.out_after
