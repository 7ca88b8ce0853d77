-- `scan::scan_at` meets its contract. Each return is one way through the reading, and its lemma stands in ScanWays. The measure is the room on the path.
-- Assumes nothing.
use native.Mathlib.Omega.{arith}
use native.Mathlib.Nat.{pos_of_ne-zero}
use mathlib.Core.Path.{refl, sym, ap, ◌∙◌}
use Rattle.tables.specs.Kinds.{length_of}
use Rattle.convert.proofs.ScanTests.{tested, shaped₂}
use Rattle.convert.proofs.ScanWays.{passed_on, stood, in_hand, end_fault, end_none, end_first, end_one, end_second, end_two, ready_first, ready_second, small_first, small_second}
use Rattle.convert.proofs.scan.+scan_at.Goals as goal

pub stands-requires : goal.stands-requires
stands-requires t c = record { b_len_bound = c.requires.0.fits; locals_bound = c.requires.0.signals }

pub returns-in_err-stands : goal.returns-in_err-stands
returns-in_err-stands t c = end_fault _ _ _ _ c.stands.ensures c.in_err-stands.was (passed_on c.from_residual.result c.from_residual.ensures)

pub overflow_add-at : goal.overflow_add-at
overflow_add-at t c = let s = stood c.args.b.now c.args.d c.args.c c.args.r _ _ refl refl c.stands.ensures c.in_ok-stands.was in omega (arith, s.in_block, c.requires.0.fits)

pub two_bytes-kind-requires : goal.two_bytes-kind-requires
two_bytes-kind-requires t c = let s = stood c.args.b.now c.args.d c.args.c c.args.r _ _ refl refl c.stands.ensures c.in_ok-stands.was in omega (arith, s.in_block, c.requires.0.fits)

pub overflow_add-at-2 : goal.overflow_add-at-2
overflow_add-at-2 t c = let s = stood c.args.b.now c.args.d c.args.c c.args.r _ _ refl refl c.stands.ensures c.in_ok-stands.was in omega (arith, s.in_block, c.requires.0.fits)

pub two_bytes-operand-requires : goal.two_bytes-operand-requires
two_bytes-operand-requires t c = let s = stood c.args.b.now c.args.d c.args.c c.args.r _ _ refl refl c.stands.ensures c.in_ok-stands.was in omega (arith, s.in_block, c.requires.0.fits)

pub unwrap-shape-requires : goal.unwrap-shape-requires
unwrap-shape-requires t c =
    let s = stood _ _ _ _ _ _ c.two_bytes-kind.ensures c.two_bytes-operand.ensures c.stands.ensures c.in_ok-stands.was in
    rw (c.wide_shape_of.ensures, (tested s.seen_as).its_shape) (refl)

pub passed-next-requires : goal.passed-next-requires
passed-next-requires t c =
    let s = stood _ _ _ _ _ _ c.two_bytes-kind.ensures c.two_bytes-operand.ensures c.stands.ensures c.in_ok-stands.was in
    let shape = shaped₂ s.seen_as (sym c.wide_shape_of.ensures ∙ c.unwrap-shape.ensures) in (
      shape.length_is ∙ ap length_of (sym c.tested_as-like.ensures),
      omega (arith, s.in_block, c.requires.0.fits),
      omega (arith, s.passes.counted),
      omega (arith, c.requires.0.few_pauses),
      omega (arith, c.requires.0.few_locals, c.requires.0.signals),
    )

pub inner-around-requires : goal.inner-around-requires
inner-around-requires t c =
    let s = stood _ _ _ _ _ _ c.two_bytes-kind.ensures c.two_bytes-operand.ensures c.stands.ensures c.in_ok-stands.was in
    let g = s.passes in
    (pos_of_ne-zero g.roomy, omega (arith, c.requires.0.few_traps), omega (arith, c.requires.0.few_nested), λ e. let z = g.declaring (sym c.tested_as-like.ensures ∙ e) in omega (arith, z.0, z.1, c.requires.0.signals))

pub returns-then-shape-eq0 : goal.returns-then-shape-eq0
returns-then-shape-eq0 t c =
    let s = stood _ _ _ _ _ _ c.two_bytes-kind.ensures c.two_bytes-operand.ensures c.stands.ensures c.in_ok-stands.was in
    let hand = in_hand c.requires s c.tested_as-like.ensures c.inner-around.ensures c.passed-next.ensures in
    let below = (shaped₂ hand.its_record.seen_as (sym c.wide_shape_of.ensures ∙ c.unwrap-shape.ensures)).children_are in
    end_none hand (sym below ∙ c.if-shape-eq0.true) c.of_none.ensures

pub scan_at-requires : goal.scan_at-requires
scan_at-requires t c =
    let s = stood _ _ _ _ _ _ c.two_bytes-kind.ensures c.two_bytes-operand.ensures c.stands.ensures c.in_ok-stands.was in
    let hand = in_hand c.requires s c.tested_as-like.ensures c.inner-around.ensures c.passed-next.ensures in
    (omega (arith, hand.room_left, c.decreases), ready_first hand)

pub returns-in_err-first : goal.returns-in_err-first
returns-in_err-first t c =
    let s = stood _ _ _ _ _ _ c.two_bytes-kind.ensures c.two_bytes-operand.ensures c.stands.ensures c.in_ok-stands.was in
    let hand = in_hand c.requires s c.tested_as-like.ensures c.inner-around.ensures c.passed-next.ensures in
    let below = (shaped₂ hand.its_record.seen_as (sym c.wide_shape_of.ensures ∙ c.unwrap-shape.ensures)).children_are in
    end_first hand c.scan_at.ensures (λ e. c.if-shape-eq0.false (below ∙ e)) c.in_err-first.was (passed_on c.from_residual-in_err-first.result c.from_residual-in_err-first.ensures)

pub of_one-requires : goal.of_one-requires
of_one-requires t c =
    let s = stood _ _ _ _ _ _ c.two_bytes-kind.ensures c.two_bytes-operand.ensures c.stands.ensures c.in_ok-stands.was in
    let hand = in_hand c.requires s c.tested_as-like.ensures c.inner-around.ensures c.passed-next.ensures in
    small_first hand c.scan_at.ensures c.in_ok-first.was

pub returns-then-shape-eq1 : goal.returns-then-shape-eq1
returns-then-shape-eq1 t c =
    let s = stood _ _ _ _ _ _ c.two_bytes-kind.ensures c.two_bytes-operand.ensures c.stands.ensures c.in_ok-stands.was in
    let hand = in_hand c.requires s c.tested_as-like.ensures c.inner-around.ensures c.passed-next.ensures in
    let below = (shaped₂ hand.its_record.seen_as (sym c.wide_shape_of.ensures ∙ c.unwrap-shape.ensures)).children_are in
    end_one hand c.scan_at.ensures c.in_ok-first.was (sym below ∙ c.if-shape-eq1.true) c.of_one.ensures

pub scan_at-requires-2 : goal.scan_at-requires-2
scan_at-requires-2 t c =
    let s = stood _ _ _ _ _ _ c.two_bytes-kind.ensures c.two_bytes-operand.ensures c.stands.ensures c.in_ok-stands.was in
    let hand = in_hand c.requires s c.tested_as-like.ensures c.inner-around.ensures c.passed-next.ensures in
    (omega (arith, hand.room_left, c.decreases), ready_second hand c.scan_at.ensures c.in_ok-first.was)

pub returns-in_err-second : goal.returns-in_err-second
returns-in_err-second t c =
    let s = stood _ _ _ _ _ _ c.two_bytes-kind.ensures c.two_bytes-operand.ensures c.stands.ensures c.in_ok-stands.was in
    let hand = in_hand c.requires s c.tested_as-like.ensures c.inner-around.ensures c.passed-next.ensures in
    let below = (shaped₂ hand.its_record.seen_as (sym c.wide_shape_of.ensures ∙ c.unwrap-shape.ensures)).children_are in
    end_second hand c.scan_at.ensures c.in_ok-first.was c.scan_at-2.ensures (λ e. c.if-shape-eq0.false (below ∙ e)) (λ e. c.if-shape-eq1.false (below ∙ e))
    c.in_err-second.was (passed_on c.from_residual-in_err-second.result c.from_residual-in_err-second.ensures)

pub of_two-requires : goal.of_two-requires
of_two-requires t c =
    let s = stood _ _ _ _ _ _ c.two_bytes-kind.ensures c.two_bytes-operand.ensures c.stands.ensures c.in_ok-stands.was in
    let hand = in_hand c.requires s c.tested_as-like.ensures c.inner-around.ensures c.passed-next.ensures in
    (small_first hand c.scan_at.ensures c.in_ok-first.was, small_second hand c.scan_at.ensures c.in_ok-first.was c.scan_at-2.ensures c.in_ok-second.was)

pub returns : goal.returns
returns t c =
    let s = stood _ _ _ _ _ _ c.two_bytes-kind.ensures c.two_bytes-operand.ensures c.stands.ensures c.in_ok-stands.was in
    let hand = in_hand c.requires s c.tested_as-like.ensures c.inner-around.ensures c.passed-next.ensures in
    let below = (shaped₂ hand.its_record.seen_as (sym c.wide_shape_of.ensures ∙ c.unwrap-shape.ensures)).children_are in
    end_two hand c.scan_at.ensures c.in_ok-first.was c.scan_at-2.ensures c.in_ok-second.was (λ e. c.if-shape-eq0.false (below ∙ e)) (λ e. c.if-shape-eq1.false (below ∙ e))
    c.of_two.ensures
