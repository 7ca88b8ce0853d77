-- The two input sets: a signal in both shows in the words' common bits, and the inputs that a set leaves out, taken as absent, bring no INPUT
-- of their own. Assumes nothing.
use mathlib.Core.Path.{◌≡◌, refl, sym, ap, ap₂, ◌∙◌, subst}
use mathlib.Core.Bool.{Bool, true, false, not, ◌&&◌, ◌||◌}
use Prim.Native.Nat.{ℕ, ◌+◌, ◌/◌, ◌^◌, ◌<◌}
use native.Mathlib.Omega.{arith}
use lib.Dec.{T, eqb, ltb, T_not, not_T, eqb→eq}
use lib.Bits.{bit_and, and_lt}
use borrow.Author.Tests.{le-ltb, eq-eqb}
use Rattle.sets.specs.Words.{bits}
use Rattle.sets.proofs.Members.{same, is_false, of_false, and_left, and_right, eqb_in}
use Rattle.sets.proofs.Maxima.{some_to_in, some_to_out}
use Rattle.sets.proofs.Words.{bits_and, bits_ext, bits_shift, bits_zero}
use Rattle.records.specs.StateRecord.{undeclared_input, in_both, bad_inputs}
use Rattle.records.proofs.TwoWords.{some_bit, below_width}

-- A common bit of two words is a signal in both sets.
pub common_bits : (present absent : ℕ) → present < 2 ^ 64 → absent < 2 ^ 64 → not (eqb (bit_and present absent) 0) ≡ in_both present absent
unfolding in_both
common_bits present absent p a = same (not (eqb both 0)) (in_both present absent) to from
  where
    both : ℕ
    both = bit_and present absent

    to : T (not (eqb both 0)) → T (in_both present absent)
    to t =
        let r = some_bit both (and_lt 64 present absent p a) (λ z. T_not (eqb both 0) t (eqb_in z)) in
        let l : r.0 < 64 = below_width both (and_lt 64 present absent p a) r.1 in
        some_to_in (λ n. bits present n && bits absent n) 63 (omega arith) (subst T (bits_and present absent r.0) r.1)

    from : T (in_both present absent) → T (not (eqb both 0))
    from t =
        let r = some_to_out (λ n. bits present n && bits absent n) 63 t in
        not_T (eqb both 0)
        (λ z. of_false (bits_zero r.0) (subst T (sym (bits_and present absent r.0) ∙ ap (λ (w : ℕ). bits w r.0) (eqb→eq both 0 z)) r.2))

-- The ways through the tests.
module _ (inputs present absent : ℕ) where
  pub wrong_present : {over : Bool} → over ≡ undeclared_input inputs present → over ≡ true → true ≡ bad_inputs inputs present absent
  unfolding bad_inputs
  wrong_present e t = sym (ap (λ (b : Bool). b || (undeclared_input inputs absent || in_both present absent)) (sym e ∙ t))

  module _ {over : Bool} (e : over ≡ undeclared_input inputs present) (f : over ≡ false) {also : Bool} (g : also ≡ undeclared_input inputs absent) where
    pub wrong_absent : also ≡ true → true ≡ bad_inputs inputs present absent
    unfolding bad_inputs
    wrong_absent t = sym (ap₂ (λ (x y : Bool). x || (y || in_both present absent)) (sym e ∙ f) (sym g ∙ t))

    pub wrong_both : present < 2 ^ 64 → absent < 2 ^ 64 → also ≡ false → not (eqb (bit_and present absent) 0) ≡ bad_inputs inputs present absent
    unfolding bad_inputs
    wrong_both p a t = common_bits present absent p a ∙ sym (ap₂ (λ (x y : Bool). x || (y || in_both present absent)) (sym e ∙ f) (sym g ∙ t))

-- No unknowns: with every other input absent, INPUT is a bad bit in the present set.
module _ (inputs given rest : ℕ) (r : (n : ℕ) → bits rest n ≡ (ltb n inputs && not (bits given n))) where
  nothing_over : undeclared_input inputs rest ≡ false
  unfolding undeclared_input
  nothing_over = ap not (eq-eqb (rest / 2 ^ inputs) 0 (bits_ext none))
    where
      none : (n : ℕ) → bits (rest / 2 ^ inputs) n ≡ bits 0 n
      none n =
          sym (bits_shift rest inputs n) ∙ r (inputs + n) ∙ ap (λ (b : Bool). b && not (bits given (inputs + n))) (le-ltb (inputs + n) inputs (omega arith))
          ∙ sym (bits_zero n)

  nothing_in_both : in_both given rest ≡ false
  unfolding in_both
  nothing_in_both = is_false (in_both given rest) no
    where
      no : T (in_both given rest) → ⊥
      no t =
          let m = some_to_out (λ n. bits given n && bits rest n) 63 t in
          let here : T (bits given m.0) = and_left (bits given m.0) (bits rest m.0) m.2 in
          let there : T (bits rest m.0) = and_right (bits given m.0) (bits rest m.0) m.2 in
          T_not (bits given m.0) (and_right (ltb m.0 inputs) (not (bits given m.0)) (subst T (r m.0) there)) here

  pub no_unknowns : bad_inputs inputs given rest ≡ undeclared_input inputs given
  unfolding bad_inputs
  no_unknowns =
      ap₂ (λ (x y : Bool). undeclared_input inputs given || (x || y)) nothing_over nothing_in_both
      ∙ or_none (undeclared_input inputs given)
    where
      or_none : (b : Bool) → (b || (false || false)) ≡ b
      or_none true = refl
      or_none false = refl
