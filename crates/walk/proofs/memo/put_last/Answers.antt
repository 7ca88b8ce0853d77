-- `walk::memo::put_last` meets its contract: four words one after the other.
-- Assumes nothing.
use mathlib.Core.Path.{ap, ◌∙◌}
use mathlib.Core.List.{List}
use Prim.Native.Nat.{ℕ, ◌+◌}
use lib.ListN.{set}
use Rattle.walk.proofs.memo.put_last.Goals as goal

pub returns : goal.returns
returns c =
    c.put_word-4.ensures ∙ ap (λ (l : List ℕ). set l (c.args.j + 7) c.args.d)
    (c.put_word-3.ensures ∙ ap (λ (l : List ℕ). set l (c.args.j + 6) c.args.c) (c.put_word-2.ensures ∙ ap (λ (l : List ℕ). set l (c.args.j + 5) c.args.b) c.put_word.ensures))
