-- `put_doubled`: the measures decide the limits, then the room; the header and the records are the doubled block's bytes. Assumes nothing.
use mathlib.Core.Path.{sym, ap, ◌∙◌}
use Prim.Native.Nat.{ℕ, ◌+◌}
use native.Mathlib.Omega.{arith}
use lib.ListN.{length}
use lib.Seq.{length-sets}
use Rattle.copies.proofs.DoublingLaws.{limit_answered, enough_lent, room_answered, writes_all, all_written}
use Rattle.std.proofs.lemmas.Result.{err_from_is_err_and}
use Rattle.copies.proofs.put_doubled.Goals as goal

pub overflow_add-signals : goal.overflow_add-signals
overflow_add-signals c = omega (arith, c.requires.1.1.signals, c.requires.1.1.its_inputs, c.requires.1.1.its_outputs)

pub size_at-size-requires : goal.size_at-size-requires
size_at-size-requires c = record { tree = c.requires.1.0; lies = c.requires.1.1.lies }

pub within-requires : goal.within-requires
within-requires c = omega (arith, c.requires.1.1.signals, c.requires.1.1.its_inputs, c.requires.1.1.its_outputs)

pub returns-then-not-within : goal.returns-then-not-within
returns-then-not-within c =
    λ h t d. rw c.at.ensures (limit_answered d (c.size_at-size.ensures t d.lies) c.args.out.now (sym (c.if-not-within.true) ∙ c.within.ensures))

pub returns-in_err-bytes : goal.returns-in_err-bytes
returns-in_err-bytes c =
    λ h t d.
    let p = err_from_is_err_and c.from_residual.result c.from_residual.ensures.1 in
    rw (p.1, p.2)
    (room_answered d (c.size_at-size.ensures t d.lies) (sym (c.if-not-within.false) ∙ c.within.ensures) c.args.out.now
    (ap (λ (n : ℕ). 14 + n) c.wide.ensures.0) c.in_room.ensures c.in_err-bytes.was)

pub put_header-requires : goal.put_header-requires
put_header-requires c =
    omega (
      arith,
      enough_lent c.requires.1.1 (c.size_at-size.ensures c.requires.1.0 c.requires.1.1.lies) (sym (c.if-not-within.false) ∙ c.within.ensures) c.args.out.now
          (ap (λ (n : ℕ). 14 + n) c.wide.ensures.0) c.in_room.ensures c.in_ok-bytes.was,
    )

pub put_copy-requires : goal.put_copy-requires
put_copy-requires c =
    let m = c.size_at-size.ensures c.requires.1.0 c.requires.1.1.lies in
    let good = sym (c.if-not-within.false) ∙ c.within.ensures in
    let n = ap (λ (n : ℕ). 14 + n) c.wide.ensures.0 in
    let l = enough_lent c.requires.1.1 m good c.args.out.now n c.in_room.ensures c.in_ok-bytes.was in
    writes_all c.requires.1.1 m good n (omega (arith, l, simp length-sets at (ap length c.put_header.ensures)))

pub returns : goal.returns
returns c =
    λ h t d.
    all_written d (c.size_at-size.ensures t d.lies) (sym (c.if-not-within.false) ∙ c.within.ensures) c.args.out.now
    (ap (λ (n : ℕ). 14 + n) c.wide.ensures.0) c.in_room.ensures c.in_ok-bytes.was c.put_header.ensures c.own_names.ensures
    (c.put_copy.ensures t 0 d.lies)
