-- `walk::memo::entry_at` meets its contract: each word is the list's.
-- Assumes nothing.
use mathlib.Core.Path.{ap, ◌∙◌}
use Prim.Native.Nat.{ℕ, ◌%◌}
use Rattle.walk.proofs.Entries.{entry_read}
use Rattle.walk.proofs.memo.entry_at.Goals as goal

pub returns : goal.returns
returns c =
    λ tab live s.
    entry_read c.args.memo.now c.args.i c.if-memo-i.false c.word_at-tag.ensures c.word_at-present.ensures
    c.word_at-absent.ensures c.word_at-reads.ensures c.word_at-must_signals.ensures c.word_at-can_signals.ensures
    (c.codes_in-must_codes.ensures ∙ ap (λ (z : ℕ). z % 4294967296) c.word_at.ensures) (c.codes_in-can_codes.ensures ∙ ap (λ (z : ℕ). z % 4294967296) c.word_at-2.ensures) s
