-- A number of the list is that of its refusal, by the list and so for any list of refusals; and different refusals have different numbers, none of them 0. Assumes nothing.
use mathlib.Core.Path.{◌≡◌, refl, sym, ◌∙◌, ap, subst}
use mathlib.Core.Bool.{Bool, true, false, cond}
use mathlib.Core.List.{List, [], ◌∷◌}
use Prim.Native.Nat.{ℕ, suc, zero, ◌≤◌}
use native.Mathlib.Omega.{arith}
use lib.Dec.{T, eqb}
use borrow.Author.Tests.{eq-eqb, ne_eqb}
use native.Mathlib.Decide.{ℕ_discrete}
use Rattle.refusals.specs.declared.Why.{Why}
use Rattle.refusals.specs.declared.Why.TheVariants.{Broken, Kind, Edition, Limit, Signal, Exit, Shape, Loop, State, Clash, Input, Room, NotConstructive}
use Rattle.refusals.specs.declared.Why.TheVariants.{Index, Text, Question, OtherBlock, Party, Shelf, Taken, Quota, Absent, Interface, Wide, Pairs, Form}
use Rattle.refusals.specs.Refusals.{number, refusals, has_number, first_with, has_refusal, why_of}

number_in : (ws : List Why) (n : ℕ) → T (has_number ws n) → number (first_with ws n) ≡ n
unfolding has_number first_with
number_in [] n h = absurd h
number_in (w ∷ ws) n h = go (ℕ_discrete n (number w)) (λ t. number_in ws n t)
  where
    go : Dec (n ≡ number w) → (T (has_number ws n) → number (first_with ws n) ≡ n) → number (cond (eqb n (number w)) w (first_with ws n)) ≡ n
    go (yes e) rest = ap (λ (b : Bool). number (cond b w (first_with ws n))) (eq-eqb n (number w) e) ∙ sym e
    go (no e) rest =
        let f : eqb n (number w) ≡ false = ne_eqb n (number w) e in
        ap (λ (b : Bool). number (cond b w (first_with ws n))) f ∙ rest (subst (λ (b : Bool). T (cond b true (has_number ws n))) f h)

pub number_back : (n : ℕ) → T (has_refusal n) → number (why_of n) ≡ n
number_back n h = number_in refusals n h

-- A number of none of the list has INDEX.
none_in : (ws : List Why) (n : ℕ) → has_number ws n ≡ false → first_with ws n ≡ Index
unfolding has_number first_with
none_in [] n h = refl
none_in (w ∷ ws) n h = go (ℕ_discrete n (number w)) (none_in ws n)
  where
    go : Dec (n ≡ number w) → (has_number ws n ≡ false → first_with ws n ≡ Index) → cond (eqb n (number w)) w (first_with ws n) ≡ Index
    go (yes e) rest = absurd (subst T (sym (ap (λ (b : Bool). cond b true (has_number ws n)) (eq-eqb n (number w) e)) ∙ h) tt)
    go (no e) rest =
        let f : eqb n (number w) ≡ false = ne_eqb n (number w) e in
        ap (λ (b : Bool). cond b w (first_with ws n)) f ∙ rest (sym (ap (λ (b : Bool). cond b true (has_number ws n)) f) ∙ h)

pub no_refusal : (n : ℕ) → has_refusal n ≡ false → why_of n ≡ Index
no_refusal n h = none_in refusals n h

-- Those of a block are in the list.
pub of_a_block : (n : ℕ) → 1 ≤ n → n ≤ 8 → T (has_refusal n)
unfolding has_number number
of_a_block zero l h = absurd (omega arith)
of_a_block (suc zero) l h = tt
of_a_block (suc (suc zero)) l h = tt
of_a_block (suc (suc (suc zero))) l h = tt
of_a_block (suc (suc (suc (suc zero)))) l h = tt
of_a_block (suc (suc (suc (suc (suc zero))))) l h = tt
of_a_block (suc (suc (suc (suc (suc (suc zero)))))) l h = tt
of_a_block (suc (suc (suc (suc (suc (suc (suc zero))))))) l h = tt
of_a_block (suc (suc (suc (suc (suc (suc (suc (suc zero)))))))) l h = tt
of_a_block (suc (suc (suc (suc (suc (suc (suc (suc (suc n))))))))) l h = absurd (omega arith)

-- The number gives the refusal back.
pub why_back : (w : Why) → why_of (number w) ≡ w
unfolding first_with number
why_back Broken = refl
why_back Kind = refl
why_back Edition = refl
why_back Limit = refl
why_back Signal = refl
why_back Exit = refl
why_back Shape = refl
why_back Loop = refl
why_back State = refl
why_back Clash = refl
why_back Input = refl
why_back Room = refl
why_back NotConstructive = refl
why_back Index = refl
why_back Text = refl
why_back Question = refl
why_back OtherBlock = refl
why_back Party = refl
why_back Shelf = refl
why_back Taken = refl
why_back Quota = refl
why_back Absent = refl
why_back Interface = refl
why_back Wide = refl
why_back Pairs = refl
why_back Form = refl

pub numbers_differ : (v w : Why) → number v ≡ number w → v ≡ w
numbers_differ v w e = sym (why_back v) ∙ ap why_of e ∙ why_back w

pub number_above : (w : Why) → number w ≡ 0 → ⊥
unfolding first_with number
number_above w e = let d : w ≡ Index = sym (why_back w) ∙ ap why_of e in let z : ◌≡◌ {A = ℕ} 14 0 = sym (ap number d) ∙ e in omega arith
