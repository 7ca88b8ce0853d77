-- `walk::memo::note` meets its contract: the entry is the one written, and the others stay.
-- Assumes nothing.
use mathlib.Core.Path.{refl}
use borrow.Author.Rules.{rules}
use Rattle.walk.proofs.Entries.{noted_as}
use Rattle.walk.proofs.memo.note.Goals as goal

pub returns-then-i-memo : goal.returns-then-i-memo
returns-then-i-memo c =
    λ tab live s r.
    noted_as c.args.memo.now c.args.i c.args.new c.if-i-memo.true
    c.put_first.ensures c.put_last.ensures (refl, search rules) (refl, search rules) s r

pub returns-else-i-memo : goal.returns-else-i-memo
returns-else-i-memo c = λ tab live s r. s
