-- `tokens::keyword`: a word that is too long, or one found by its key. Assumes nothing.
use native.Mathlib.Omega.{arith}
use Rattle.text.proofs.Keys.{too_long, by_key, field_short}
use Rattle.text.proofs.tokens.keyword.Goals as goal

pub returns-then-size-gt7 : goal.returns-then-size-gt7
returns-then-size-gt7 c = too_long c.args.word.now c.if-size-gt7.true

pub overflow_mul-number_at : goal.overflow_mul-number_at
overflow_mul-number_at c =
    let small = field_short c.args.word.now (record { byte = λ i. (c.type_inv.word i).fits }) c.if-size-gt7.false in
    omega (arith, small, c.number_at.ensures)

pub overflow_add-number_at : goal.overflow_add-number_at
overflow_add-number_at c =
    let small = field_short c.args.word.now (record { byte = λ i. (c.type_inv.word i).fits }) c.if-size-gt7.false in
    omega (arith, small, c.number_at.ensures, c.if-size-gt7.false)

pub returns : goal.returns
returns c = by_key c.args.word.now (record { byte = λ i. (c.type_inv.word i).fits }) c.if-size-gt7.false c.number_at.ensures c.keyword_with.ensures
