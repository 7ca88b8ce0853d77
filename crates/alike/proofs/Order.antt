-- Shorter runs and, among equally long ones, those earlier in numeric order come first: one number for each run says both. Assumes nothing.
use mathlib.Core.Path.{◌≡◌, refl, sym, ap₂}
use Prim.Native.Nat.{ℕ, ◌+◌, ◌*◌, ◌≤◌, ◌<◌}
use native.Mathlib.Omega.{arith}
use native.Mathlib.Decide.{dec_le}
use lib.Dec.{T}
use Rattle.pairs.specs.Runs.{Run, start, ◌▸◌, size, numeric, Comparison, Input, shows, First}

-- The bytes of a run after a 1.
unfoldable pub rank : Run → ℕ
rank start = 1
rank (r ▸ s) = rank r * 256 + s

pub rank_start : rank start ≡ 1
unfolding rank
rank_start = refl

pub rank_more : (r : Run) (s : ℕ) → rank (r ▸ s) ≡ rank r * 256 + s
unfolding rank
rank_more r s = refl

pub rank_some : (r : Run) → 0 < rank r
unfolding rank
rank_some start = omega arith
rank_some (r ▸ s) = let h = rank_some r in omega (arith, h)

module _ (m : Comparison) (few : m.sets ≤ 256) where
  -- a shorter run has the lower number
  pub shorter_first : (v w : Run) → Input m v → size v < size w → rank v < rank w
  unfolding rank size Input
  shorter_first start start i l = absurd (omega arith)
  shorter_first start (w ▸ s) i l = let h = rank_some w in omega (arith, h)
  shorter_first (v ▸ t) start i l = absurd (omega arith)
  shorter_first (v ▸ t) (w ▸ s) i l =
      let h : rank v < rank w = shorter_first v w i.0 (omega arith) in
      let k : t < m.sets = i.1 in
      omega (arith, h, k, few)

  pub size_rank : (v w : Run) → Input m v → rank w ≤ rank v → size w ≤ size v
  size_rank v w i l = go (dec_le (size w) (size v))
    where
      go : Dec (size w ≤ size v) → size w ≤ size v
      go (yes h) = h
      go (no h) = let k : rank v < rank w = shorter_first v w i (omega arith) in absurd (omega arith)

  -- and where both are equally long it is the numeric order
  level : (v w : Run) → size v ≡ size w → rank v + numeric w ≡ rank w + numeric v
  unfolding rank size numeric
  level start start e = refl
  level start (w ▸ s) e = absurd (omega arith)
  level (v ▸ t) start e = absurd (omega arith)
  level (v ▸ t) (w ▸ s) e = let h : rank v + numeric w ≡ rank w + numeric v = level v w (omega arith) in omega arith

  pub first_of : (w : Run) → Input m w → T (shows m w) → ((v : Run) → Input m v → T (shows m v) → rank w ≤ rank v) → First m w
  first_of w i t f = record {
    is_input = i;
    is_shown = t;
    shortest = λ v j u. size_rank v w j (f v j u);
    first = λ v j u e. let h : rank w ≤ rank v = f v j u in let k : rank v + numeric w ≡ rank w + numeric v = level v w e in omega arith;
  }

  -- Two runs that are both the first are the same run.
  same_run : (v w : Run) → Input m v → Input m w → size v ≡ size w → numeric v ≡ numeric w → v ≡ w
  unfolding size numeric Input
  same_run start start i j e d = refl
  same_run start (w ▸ s) i j e d = absurd (omega arith)
  same_run (v ▸ t) start i j e d = absurd (omega arith)
  same_run (v ▸ t) (w ▸ s) i j e d =
      let h : t < m.sets = i.1 in
      let k : s < m.sets = j.1 in
      let n : numeric v ≡ numeric w = omega (arith, few) in
      let o : t ≡ s = omega (arith, few) in
      ap₂ ◌▸◌ (same_run v w i.0 j.0 (omega arith) n) o

  pub one_first : (v w : Run) → First m v → First m w → v ≡ w
  one_first v w f g =
      let a : size v ≤ size w = f.shortest w g.is_input g.is_shown in
      let b : size w ≤ size v = g.shortest v f.is_input f.is_shown in
      let e : size v ≡ size w = omega arith in
      let c : numeric v ≤ numeric w = f.first w g.is_input g.is_shown (sym e) in
      let d : numeric w ≤ numeric v = g.first v f.is_input f.is_shown e in
      same_run v w f.is_input g.is_input e (omega arith)
