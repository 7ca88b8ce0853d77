-- `search::keep` meets its contract: found, left out or stored.
-- Assumes nothing.
use mathlib.Core.Path.{◌≡◌, refl, sym, ◌∙◌}
use mathlib.Core.Bool.{true, false, true≢false}
use Prim.Native.Nat.{ℕ, ◌<◌}
use Rattle.std.specs.Prelude.{Option, None, Some, is_some}
use Rattle.pairs.specs.Rows.{row_at, NotAmong, Finds}
use Rattle.pairs.specs.declared.rows.Pair.{Pair}
use Rattle.pairs.specs.declared.rows.Rows.{Rows}
use Rattle.alike.specs.Ends.{again, left_out, stored}
use Rattle.alike.proofs.search.keep.Goals as goal

there : (rows : Rows) (p : Pair) (r : Option ℕ) → Finds rows p r → is_some r ≡ true → (k : ℕ) × (k < rows.count) × (row_at rows k ≡ p)
unfolding Finds
there rows p None f e = absurd (true≢false (sym e))
there rows p (Some k) f e = (k, f.0, f.1)

nowhere : (rows : Rows) (p : Pair) (r : Option ℕ) → Finds rows p r → is_some r ≡ false → NotAmong rows rows.count p
unfolding Finds
nowhere rows p None f e = f
nowhere rows p (Some k) f e = absurd (true≢false e)

pub returns-then-is_some : goal.returns-then-is_some
returns-then-is_some c = let f = there _ _ _ c.find.ensures (sym c.is_some.ensures ∙ c.if-is_some.true) in again f.0 f.1 f.2 refl refl refl

pub returns-then-count-ge1024 : goal.returns-then-count-ge1024
returns-then-count-ge1024 c = left_out (nowhere _ _ _ c.find.ensures (sym c.is_some.ensures ∙ c.if-is_some.false)) c.if-count-ge1024.true refl refl refl

pub returns : goal.returns
returns c = stored (nowhere _ _ _ c.find.ensures (sym c.is_some.ensures ∙ c.if-is_some.false)) c.if-count-ge1024.false c.push.ensures refl refl
