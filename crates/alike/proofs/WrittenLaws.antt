-- The run to a pair, read off its rows from the end to the front. Assumes nothing.
use mathlib.Core.Path.{◌≡◌, refl, sym, ap, ap₂, ◌∙◌}
use mathlib.Core.List.{List, [], ◌∷◌, ◌++◌, append_assoc}
use Prim.Native.Nat.{ℕ, zero, suc, ◌+◌, ◌-◌, ◌≤◌, ◌<◌}
use native.Mathlib.Nat.{le_of_suc-le-suc, not-suc-le-zero}
use native.Mathlib.Omega.{arith}
use lib.ListN.{length, set, drop}
use Rattle.pairs.specs.Runs.{Run, start, ◌▸◌, size, bytes_of}
use Rattle.alike.specs.Ends.{link_at, Linked}
use Rattle.alike.specs.declared.search.Link.{Link}

drop_set : (l : List ℕ) (i x : ℕ) → i < length l → drop i (set l i x) ≡ x ∷ drop (suc i) l
drop_set [] i x h = absurd (not-suc-le-zero h)
drop_set (y ∷ l) zero x h = refl
drop_set (y ∷ l) (suc i) x h = drop_set l i x (le_of_suc-le-suc h)

size_start : size start ≡ 0
unfolding size
size_start = refl

size_more : (r : Run) (s : ℕ) → size (r ▸ s) ≡ suc (size r)
unfolding size
size_more r s = refl

no_bytes : (r : Run) → size r ≡ 0 → bytes_of r ≡ []
unfolding size bytes_of
no_bytes start e = refl
no_bytes (r ▸ s) e = absurd (omega arith)

bytes_more : (r : Run) (s : ℕ) → bytes_of (r ▸ s) ≡ bytes_of r ++ (s ∷ [])
unfolding bytes_of
bytes_more r s = refl

module _ {links : List Link} {walk : ℕ → Run} {count : ℕ} (l : Linked links walk count) where
  -- a pair after the first has a run of one set more than its parent's
  pub one_more : (k : ℕ) → 0 < k → k < count → size (walk k) ≡ suc (size (walk (link_at links k).parent))
  one_more k h n = ap size (l.linked k h n) ∙ size_more (walk (link_at links k).parent) (link_at links k).set

  pub none_left : (k : ℕ) → k ≤ 0 → size (walk k) ≡ 0
  none_left k h = let z : k ≡ 0 = omega arith in ap (λ (j : ℕ). size (walk j)) z ∙ ap size l.begins ∙ size_start

  -- a pair with a run of some sets is not the first
  not_first : (k i : ℕ) → 0 < i → i ≡ size (walk k) → 0 < k
  not_first zero i h e = let o = none_left 0 (omega arith) in absurd (omega (arith, h, e, o))
  not_first (suc k) i h e = omega arith

  pub falls_on : (k i : ℕ) → 0 < i → k < count → i ≡ size (walk k) → (link_at links k).parent ≤ k
  falls_on k i h n e = let f = l.falls k (not_first k i h e) n in omega (arith, f)

  -- one set is written before the others
  pub one_written : (k i : ℕ) (run target : List ℕ) → 0 < i → k < count → i ≡ size (walk k) → i ≤ length run → bytes_of (walk k) ++ drop i run ≡ target
      → (i - 1 ≡ size (walk (link_at links k).parent))
      × (bytes_of (walk (link_at links k).parent) ++ drop (i - 1) (set run (i - 1) (link_at links k).set) ≡ target)
  one_written k i run target h n e f t =
      let g = not_first k i h e in
      let o = one_more k g n in
      let u : suc (i - 1) ≡ i = omega (arith, h) in
      let d = drop_set run (i - 1) (link_at links k).set (omega (arith, u, f)) in
      let b : bytes_of (walk k) ≡ bytes_of (walk (link_at links k).parent) ++ ((link_at links k).set ∷ []) =
      ap bytes_of (l.linked k g n) ∙ bytes_more (walk (link_at links k).parent) (link_at links k).set in (
        omega (arith, e, o),
        ap (λ (r : List ℕ). bytes_of (walk (link_at links k).parent) ++ r) (d ∙ ap {B = List ℕ} (λ (q : ℕ). (link_at links k).set ∷ drop q run) u)
            ∙ sym (append_assoc (bytes_of (walk (link_at links k).parent)) ((link_at links k).set ∷ []) (drop i run))
            ∙ ap (λ (r : List ℕ). r ++ drop i run) (sym b) ∙ t,
      )

  -- all are written
  pub all_written : (k i at s n : ℕ) (run entry : List ℕ) → i ≤ 0 → i ≡ size (walk k) → n ≡ size (walk at) → n < length entry
      → bytes_of (walk k) ++ drop i run ≡ bytes_of (walk at) ++ drop n (set entry n s)
      → run ≡ bytes_of (walk at ▸ s) ++ drop (size (walk at ▸ s)) entry
  all_written k i at s n run entry h e f m t =
      let z : i ≡ 0 = omega arith in
      let q : suc n ≡ size (walk at ▸ s) = ap suc f ∙ sym (size_more (walk at) s) in
      sym (ap₂ (λ (x : List ℕ) (y : ℕ). x ++ drop y run) (no_bytes (walk k) (sym e ∙ z)) z) ∙ t
      ∙ ap (λ (r : List ℕ). bytes_of (walk at) ++ r) (drop_set entry n s m)
      ∙ sym (append_assoc (bytes_of (walk at)) (s ∷ []) (drop (suc n) entry))
      ∙ ap₂ (λ (x : List ℕ) (y : ℕ). x ++ drop y entry) (sym (bytes_more (walk at) s)) q

  pub its_length : (at s n : ℕ) → n ≡ size (walk at) → n + 1 ≡ size (walk at ▸ s)
  its_length at s n f = let o = size_more (walk at) s in omega (arith, f, o)
