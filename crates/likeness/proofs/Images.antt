-- Sets of pauses that stand for others: the relation goes through every form, whatever the pauses are. Assumes nothing.
use mathlib.Core.Path.{◌≡◌, refl, sym, ◌∙◌, ap, subst⁻¹}
use mathlib.Core.Logic.{◌⊎◌, inl, inr}
use Prim.Native.Nat.{ℕ}
use lib.Dec.{T, eqb_refl}
use Rattle.sets.specs.Numbers.{Numbers, single, union}
use Rattle.sets.proofs.Members.{eqb_in, single_out, union_left, union_right, union_out}
use Rattle.likeness.specs.Likeness.{Closed, Image}

pub image_closed : (o : ℕ → ℕ) → Closed (Image o)
image_closed o = record { none = record { there = λ m t. t; back = λ n t. absurd t }; both = image_both }
  where
    image_both : {A A' B B' : Numbers} → Image o A A' → Image o B B' → Image o (union A B) (union A' B')
    image_both {A} {A'} {B} {B'} f g = record { there = λ m t. to m (union_out A' B' m t); back = λ n t. from n (union_out A B n t) }
      where
        to : (m : ℕ) → T (A' m) ⊎ T (B' m) → T (union A B (o m))
        to m (inl t) = union_left A B (o m) (f.there m t)
        to m (inr t) = union_right A B (o m) (g.there m t)

        from : (n : ℕ) → T (A n) ⊎ T (B n) → (m : ℕ) × T (union A' B' m) × (o m ≡ n)
        from n (inl t) = let r = f.back n t in (r.0, union_left A' B' r.0 r.1, r.2)
        from n (inr t) = let r = g.back n t in (r.0, union_right A' B' r.0 r.1, r.2)

pub image_single : (o : ℕ → ℕ) (m n : ℕ) → o m ≡ n → Image o (single n) (single m)
image_single o m n e = record {
  there = λ x t. eqb_in (ap o (single_out m x t) ∙ e);
  back = λ x t. (m, eqb_refl m, e ∙ sym (single_out n x t));
}
