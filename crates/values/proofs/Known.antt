-- Values that are known one by one, and a block that is copied to the front of the bytes lent for it. Assumes nothing.
use mathlib.Core.Path.{◌≡◌, refl, ap, ◌∙◌}
use mathlib.Core.List.{List, [], ◌∷◌, ◌++◌}
use Prim.Native.Nat.{ℕ, ◌≤◌}
use lib.ListN.{length, drop}
use lib.Seq.{sets}
use Rattle.std.specs.Prelude.{Option, Some, None, Ok, Err, unwrap_or}
use Rattle.records.proofs.Bytes.{sets_front}
use Rattle.shelf.specs.Answered.{shelved_values}
use Rattle.foldheron.specs.Answers.{Begun, begun_values}
use Rattle.values.specs.Whole.{likeness_values}

-- One value for another at the front.
pub with_number : {m n : ℕ} (xs : List ℕ) → m ≡ n → m ∷ xs ≡ n ∷ xs
with_number xs e = ap (λ (x : ℕ). x ∷ xs) e

-- A block copied to the front.
pub copied_over : (part out : List ℕ) {p out' : List ℕ} → p ≡ part → length part ≤ length out → out' ≡ sets out 0 p → out' ≡ part ++ drop (length part) out
copied_over part out e l q = q ∙ ap (sets out 0) e ∙ sets_front part out l

-- A fresh state's answer has the values of a call on a shelf.
pub done_values : (r : Begun) → shelved_values r ≡ begun_values r
unfolding shelved_values begun_values
done_values (Ok done) = refl
done_values (Err r) = refl

-- The size of a run, 0 where there is none.
pub run_size : {n : ℕ} (o : Option ℕ) → n ≡ unwrap_or o 0 → 0 ∷ 0 ∷ 0 ∷ n ∷ [] ≡ likeness_values (Ok o)
unfolding likeness_values
run_size None e = ap (λ (k : ℕ). 0 ∷ 0 ∷ 0 ∷ k ∷ []) e
run_size (Some n) e = ap (λ (k : ℕ). 0 ∷ 0 ∷ 0 ∷ k ∷ []) e

-- Three values that are known one by one.
pub three_values : {a b c x y z : ℕ} → a ≡ x → b ≡ y → c ≡ z → a ∷ b ∷ c ∷ [] ≡ x ∷ y ∷ z ∷ []
three_values p q r = λ i. p i ∷ q i ∷ r i ∷ []
