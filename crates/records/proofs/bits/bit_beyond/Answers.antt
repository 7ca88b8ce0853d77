-- `bits::bit_beyond`: below 64 the first word is tested from the count on and the second whole. Assumes nothing.
use mathlib.Core.Path.{sym, ◌∙◌}
use lib.ListN.{get_or}
use mir.Syntax.{w64}
use mir.Val.{Fits}
use borrow.Author.Rules.{rules}
use Rattle.records.proofs.TwoWords.{beyond_low, beyond_high, beyond_second, shift_set, shift_clear}
use Rattle.records.proofs.bits.bit_beyond.Goals as goal

pub returns-then-bit_from : goal.returns-then-bit_from
returns-then-bit_from c =
    let low : Fits w64 (get_or c.args.active 0 0) = search rules in let high : Fits w64 (get_or c.args.active 1 0) = search rules in
    c.if-bit_from.true ∙ sym (beyond_low (get_or c.args.active 0 0) (get_or c.args.active 1 0) low.fits high.fits c.args.pauses (shift_set (get_or c.args.active 0 0) c.args.pauses c.bit_from.ensures c.if-bit_from.true))

pub returns-else-bit_from : goal.returns-else-bit_from
returns-else-bit_from c =
    let low : Fits w64 (get_or c.args.active 0 0) = search rules in let high : Fits w64 (get_or c.args.active 1 0) = search rules in
    sym (beyond_high (get_or c.args.active 0 0) (get_or c.args.active 1 0) low.fits high.fits c.args.pauses c.if-pauses-lt64.true
    (shift_clear (get_or c.args.active 0 0) c.args.pauses c.bit_from.ensures c.if-bit_from.false))

pub returns-else-pauses-lt64 : goal.returns-else-pauses-lt64
returns-else-pauses-lt64 c =
    let low : Fits w64 (get_or c.args.active 0 0) = search rules in let high : Fits w64 (get_or c.args.active 1 0) = search rules in
    c.bit_from-else-pauses-lt64.ensures ∙ sym (beyond_second (get_or c.args.active 0 0) (get_or c.args.active 1 0) low.fits high.fits c.args.pauses c.if-pauses-lt64.false)
