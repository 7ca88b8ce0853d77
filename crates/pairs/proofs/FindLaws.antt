-- A pair that is looked for among the first rows. Assumes nothing.
use Rattle.std.proofs.Common.{◌≡◌, ℕ, ◌<◌, ◌≤◌, take, length, get_or, subst, sym, arith}
use Rattle.std.proofs.lemmas.List.{length-take-le, get_or-take}
use Rattle.std.specs.List.{AllWithin, HoldsAt}
use Rattle.std.specs.Option.{MatchOption}
use Rattle.std.specs.Prelude.{Option, None, Some}
use Rattle.pairs.specs.Rows.{no_pair, row_at, NotAmong, Finds}
use Rattle.pairs.specs.declared.rows.Pair.{Pair}
use Rattle.pairs.specs.declared.rows.Rows.{Rows}

module _ (rows : Rows) (p : Pair) where
  within : rows.count ≤ length rows.pairs
  within = omega (arith, rows.few, rows.all)

  row_in : (k : ℕ) → k < rows.count → get_or (take rows.count rows.pairs) k no_pair ≡ row_at rows k
  row_in k h = get_or-take rows.count rows.pairs k no_pair h

  none_in : (n : ℕ) → n ≤ rows.count → AllWithin (λ (x : Pair). x ≡ p → ⊥) (take rows.count rows.pairs) 0 n → NotAmong rows n p
  none_in n l a k h e = a k no_pair (omega arith) h (subst (λ (x : Pair). x ≡ p) (sym (row_in k (omega arith))) e)

  pub found : (r : Option ℕ) → MatchOption r (AllWithin (λ (x : Pair). x ≡ p → ⊥) (take rows.count rows.pairs) 0 (length (take rows.count rows.pairs)))
      (λ i. (i < length (take rows.count rows.pairs)) × HoldsAt (λ (x : Pair). x ≡ p) (take rows.count rows.pairs) i × AllWithin (λ (x : Pair). x ≡ p → ⊥) (take rows.count rows.pairs) 0 i)
      → Finds rows p r
  unfolding Finds
  found None a = none_in rows.count (omega arith) (subst (AllWithin (λ (x : Pair). x ≡ p → ⊥) (take rows.count rows.pairs) 0) (length-take-le rows.count rows.pairs within) a)
  found (Some k) a =
      let h : k < rows.count = omega (arith, a.0, length-take-le rows.count rows.pairs within) in
      (h, subst (λ (x : Pair). x ≡ p) (row_in k h) (a.1 no_pair), none_in k (omega arith) a.2)
