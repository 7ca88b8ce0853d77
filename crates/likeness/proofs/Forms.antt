-- Likeness goes through every form of step: each equation of must, can and of what is kept has on both sides the same statuses, codes and
-- marks. A second part behind a first that never gives 0 changes nothing. Assumes nothing.
use mathlib.Core.Path.{◌≡◌, refl, sym, ◌∙◌, ap, ap₂, subst, subst⁻¹}
use mathlib.Core.Logic.{◌⊎◌, inl, inr}
use mathlib.Core.Bool.{Bool, true, false, not, cond, ◌&&◌, ◌||◌}
use Prim.Native.Nat.{ℕ}
use lib.Dec.{T, eqb, eqb→eq, eqb_refl}
use Rattle.sets.specs.Numbers.{Numbers, empty, single, union, without, only_if, maxima, downs}
use Rattle.sets.proofs.Members.{same, is_true, is_false, eqb_in, eqb_not, or_out, and_in, without_in, without_member, only_if_in, only_if_test, only_if_member, union_left, union_out, ext_T}
use Rattle.rules.specs.Statements.{Depth}
use Rattle.rules.specs.Events.{Status, present, absent, unknown, Event, giving}
use Rattle.rules.specs.Instant.{Step, done, stay, say, leave, test, catch, scope, chain, beside}
use Rattle.rules.specs.MustCan.{Question, must, can, Given, in_doubt, choose, followed, onward, absence_asked, asks_must, marked, local_status, hidden, gives}
use Rattle.rules.specs.States.{executed_as, kept_by, kept}
use Rattle.theorems.proofs.Kept.{kept_at_one}
use Rattle.likeness.specs.Likeness.{naming, Distinct, SameEvent, SameGiven, Closed, Like, Alike}

-- A choice by the same status.
same_choose : {D : Numbers} {ρ : ℕ → ℕ} (k : Question) (v : Status) {p q p? q? p' q' p?' q?' : Given} → SameGiven D ρ p p' → SameGiven D ρ q q'
    → SameGiven D ρ p? p?' → SameGiven D ρ q? q?' → SameGiven D ρ (choose k v p q p? q?) (choose k v p' q' p?' q?')
same_choose k present a b c d = a
same_choose k absent a b c d = b
same_choose must unknown a b c d = record { of_signals = λ s t. refl; of_codes = refl }
same_choose (can m) unknown a b c d = record { of_signals = λ s t. ap₂ ◌||◌ (c.of_signals s t) (d.of_signals s t); of_codes = ap₂ union c.of_codes d.of_codes }

same_followed : {D : Numbers} {ρ : ℕ → ℕ} {a b a' b' : Given} → SameGiven D ρ a a' → SameGiven D ρ b b' → SameGiven D ρ (followed a b) (followed a' b')
same_followed f g = record {
  of_signals = λ s t. ap₂ ◌||◌ (f.of_signals s t) (ap₂ ◌&&◌ (ap (λ (c : Numbers). c 0) f.of_codes) (g.of_signals s t));
  of_codes = λ i. union (without 0 (f.of_codes i)) (only_if (f.of_codes i 0) (g.of_codes i));
}

-- What is kept where the same code is there.
pub kept_where : {R : Numbers → Numbers → Type 0} → Closed R → (z z' : Bool) {A A' : Numbers} → z' ≡ z → R A A' → R (only_if z A) (only_if z' A')
kept_where {R} c z z' {A} {A'} e r = subst⁻¹ (λ (x : Bool). R (only_if z A) (only_if x A')) e (go z)
  where
    go : (x : Bool) → R (only_if x A) (only_if x A')
    go true = r
    go false = c.none

pub kept_chosen : {R : Numbers → Numbers → Type 0} → Closed R → (v : Status) {A A' B B' : Numbers} → R A A' → R B B' → R (kept_by v A B) (kept_by v A' B')
kept_chosen c present r s = r
kept_chosen c absent r s = s
kept_chosen c unknown r s = c.none

module _ {R : Numbers → Numbers → Type 0} (c : Closed R) {D : Numbers} {ρ : ℕ → ℕ} where
  pub like_done : Like R D ρ done done
  unfolding gives kept
  like_done = record { gives_same = λ k e. record { of_signals = λ s t. refl; of_codes = refl }; keeps = λ e. c.none }

  pub like_stay : {A A' : Numbers} → R A A' → Like R D ρ (stay A) (stay A')
  unfolding gives kept
  like_stay r = record { gives_same = λ k e. record { of_signals = λ s t. refl; of_codes = refl }; keeps = λ e. r }

  pub like_say : Distinct D ρ → (s : ℕ) → T (D s) → Like R D ρ (say s) (say (ρ s))
  unfolding gives kept
  like_say a s d = record {
    gives_same = λ k e. record {
      of_signals = λ x t. same (eqb (ρ x) (ρ s)) (eqb x s) (λ i. eqb_in (a.same_signal x s t d (eqb→eq (ρ x) (ρ s) i))) (λ i. eqb_in (ap ρ (eqb→eq x s i)));
      of_codes = refl;
    };
    keeps = λ e. c.none;
  }

  pub like_leave : (d : Depth) → Like R D ρ (leave d) (leave d)
  unfolding gives kept
  like_leave d = record { gives_same = λ k e. record { of_signals = λ s t. refl; of_codes = refl }; keeps = λ e. c.none }

  test_gives : (s : ℕ) {p q p' q' : Step} → T (D s) → Like R D ρ p p' → Like R D ρ q q' → (k : Question) {E E' : Event} → SameEvent D ρ E E'
      → SameGiven D ρ (gives k (test s p q) E) (gives k (test (ρ s) p' q') E')
  unfolding gives
  test_gives s {p} {q} {p'} {q'} d f g k {E} {E'} e =
      subst⁻¹ (λ (v : Status). SameGiven D ρ (choose k (E s) (gives k p E) (gives k q E) (gives (in_doubt k) p E) (gives (in_doubt k) q E))
      (choose k v (gives k p' E') (gives k q' E') (gives (in_doubt k) p' E') (gives (in_doubt k) q' E'))) (e.at s d)
      (same_choose k (E s) (f.gives_same k e) (g.gives_same k e) (f.gives_same (in_doubt k) e) (g.gives_same (in_doubt k) e))

  pub like_test : (s : ℕ) {p q p' q' : Step} → T (D s) → Like R D ρ p p' → Like R D ρ q q' → Like R D ρ (test s p q) (test (ρ s) p' q')
  unfolding kept
  like_test s {p} {q} {p'} {q'} d f g = record {
    gives_same = λ k e. test_gives s d f g k e;
    keeps = λ {E} {E'} e.
        kept_where c ((gives must (test s p q) E).codes 1) ((gives must (test (ρ s) p' q') E').codes 1) (ap (λ (x : Numbers). x 1) (test_gives s d f g must e).of_codes)
        (subst⁻¹ (λ (v : Status). R (kept_by (E s) (kept p E) (kept q E)) (kept_by v (kept p' E') (kept q' E'))) (e.at s d) (kept_chosen c (E s) (f.keeps e) (g.keeps e)));
  }

  pub like_catch : {p p' : Step} → Like R D ρ p p' → Like R D ρ (catch p) (catch p')
  unfolding gives kept
  like_catch {p} {p'} f = record {
    gives_same = λ k e. record { of_signals = (f.gives_same k e).of_signals; of_codes = ap downs (f.gives_same k e).of_codes };
    keeps = λ {E} {E'} e. kept_where c (downs (gives must p E).codes 1) (downs (gives must p' E').codes 1) (ap (λ (x : Numbers). downs x 1) (f.gives_same must e).of_codes) (f.keeps e);
  }

  pub like_beside : {p q p' q' : Step} → Like R D ρ p p' → Like R D ρ q q' → Like R D ρ (beside p q) (beside p' q')
  unfolding gives kept
  like_beside {p} {q} {p'} {q'} f g = record {
    gives_same = λ k e. record {
      of_signals = λ s t. ap₂ ◌||◌ ((f.gives_same k e).of_signals s t) ((g.gives_same k e).of_signals s t);
      of_codes = ap₂ maxima (f.gives_same k e).of_codes (g.gives_same k e).of_codes;
    };
    keeps = λ {E} {E'} e.
        kept_where c (maxima (gives must p E).codes (gives must q E).codes 1) (maxima (gives must p' E').codes (gives must q' E').codes 1)
        (λ i. maxima ((f.gives_same must e).of_codes i) ((g.gives_same must e).of_codes i) 1) (c.both (f.keeps e) (g.keeps e));
  }

  chain_gives : {p q p' q' : Step} → Like R D ρ p p' → Like R D ρ q q' → (k : Question) {E E' : Event} → SameEvent D ρ E E'
      → SameGiven D ρ (gives k (chain p q) E) (gives k (chain p' q') E')
  unfolding gives
  chain_gives {p} {q} {p'} {q'} f g k {E} {E'} e =
      same_followed (f.gives_same k e)
      (subst⁻¹ (λ (z : Bool). SameGiven D ρ (gives (onward k ((gives must p E).codes 0)) q E) (gives (onward k z) q' E')) (ap (λ (x : Numbers). x 0) (f.gives_same must e).of_codes)
      (g.gives_same (onward k ((gives must p E).codes 0)) e))

  pub like_chain : {p q p' q' : Step} → Like R D ρ p p' → Like R D ρ q q' → Like R D ρ (chain p q) (chain p' q')
  unfolding kept
  like_chain {p} {q} {p'} {q'} f g = record {
    gives_same = λ k e. chain_gives f g k e;
    keeps = λ {E} {E'} e.
        kept_where c ((gives must (chain p q) E).codes 1) ((gives must (chain p' q') E').codes 1) (ap (λ (x : Numbers). x 1) (chain_gives f g must e).of_codes)
        (c.both (f.keeps e) (kept_where c ((gives must p E).codes 0) ((gives must p' E').codes 0) (ap (λ (x : Numbers). x 0) (f.gives_same must e).of_codes) (g.keeps e)));
  }

  -- Who is like a step is like every step that is the same.
  pub like_alike : {p p' q : Step} → Like R D ρ p p' → Alike p' q → Like R D ρ p q
  like_alike {p} {p'} {q} f a = record {
    gives_same = λ k {E} {E'} e. subst (λ (g : Given). SameGiven D ρ (gives k p E) g) (a.gives_alike k E') (f.gives_same k e);
    keeps = λ {E} {E'} e. subst (λ (A : Numbers). R (kept p E) A) (a.kept_alike E') (f.keeps e);
  }

-- A local: its signal s is new to those in question, and its other name n to theirs.
module _ (D : Numbers) (ρ : ℕ → ℕ) (s n : ℕ) (new : T (D s) → ⊥) (fresh : (x : ℕ) → T (D x) → ρ x ≡ n → ⊥) where
  abbrev pub D⁺ : Numbers
  D⁺ = union (single s) D

  its_name : naming ρ s n s ≡ n
  its_name = ap (λ (z : Bool). cond z n (ρ s)) (is_true (eqb s s) (eqb_refl s))

  not_it : (x : ℕ) → T (D x) → eqb x s ≡ false
  not_it x d = eqb_not x s (λ e. new (subst (λ (y : ℕ). T (D y)) e d))

  pub other_name : (x : ℕ) → T (D x) → naming ρ s n x ≡ ρ x
  other_name x d = ap (λ (z : Bool). cond z n (ρ x)) (not_it x d)

  it_or_other : (P : ℕ → Type 0) → P s → ((x : ℕ) → T (D x) → P x) → (x : ℕ) → T (D⁺ x) → P x
  it_or_other P f g x t = go (or_out (eqb x s) (D x) t)
    where
      go : T (eqb x s) ⊎ T (D x) → P x
      go (inl e) = subst⁻¹ P (eqb→eq x s e) f
      go (inr d) = g x d

  pub naming_apart : Distinct D ρ → Distinct D⁺ (naming ρ s n)
  naming_apart a = record { same_signal = λ x y t u e. it_or_other (λ x. naming ρ s n x ≡ naming ρ s n y → x ≡ y) (it y u) (λ x d. other x d y u) x t e }
    where
      it : (y : ℕ) → T (D⁺ y) → naming ρ s n s ≡ naming ρ s n y → s ≡ y
      it y u = it_or_other (λ y. naming ρ s n s ≡ naming ρ s n y → s ≡ y) (λ e. refl) (λ y d e. absurd (fresh y d (sym (other_name y d) ∙ sym e ∙ its_name))) y u

      other : (x : ℕ) → T (D x) → (y : ℕ) → T (D⁺ y) → naming ρ s n x ≡ naming ρ s n y → x ≡ y
      other x d y u =
          it_or_other (λ y. naming ρ s n x ≡ naming ρ s n y → x ≡ y) (λ e. absurd (fresh x d (sym (other_name x d) ∙ e ∙ its_name)))
          (λ y i e. a.same_signal x y d i (sym (other_name x d) ∙ e ∙ other_name y i)) y u

  giving_same : {E E' : Event} (v : Status) → SameEvent D ρ E E' → SameEvent D⁺ (naming ρ s n) (giving E s v) (giving E' n v)
  giving_same {E} {E'} v e = record { at = it_or_other (λ x. giving E' n v (naming ρ s n x) ≡ giving E s v x) it other }
    where
      it : giving E' n v (naming ρ s n s) ≡ giving E s v s
      it =
          ap (giving E' n v) its_name ∙ ap (λ (z : Bool). cond z v (E' n)) (is_true (eqb n n) (eqb_refl n))
          ∙ sym (ap (λ (z : Bool). cond z v (E s)) (is_true (eqb s s) (eqb_refl s)))

      other : (x : ℕ) → T (D x) → giving E' n v (naming ρ s n x) ≡ giving E s v x
      other x d =
          ap (giving E' n v) (other_name x d) ∙ ap (λ (z : Bool). cond z v (E' (ρ x))) (eqb_not (ρ x) n (fresh x d)) ∙ e.at x d
          ∙ sym (ap (λ (z : Bool). cond z v (E x)) (not_it x d))

  module _ {R : Numbers → Numbers → Type 0} (c : Closed R) {p p' : Step} (f : Like R D⁺ (naming ρ s n) p p') {E E' : Event} (e : SameEvent D ρ E E') where
    signal_same : (k : Question) (v : Status) → (gives k p' (giving E' n v)).signals n ≡ (gives k p (giving E s v)).signals s
    signal_same k v =
        sym (ap (gives k p' (giving E' n v)).signals its_name)
        ∙ (f.gives_same k (giving_same v e)).of_signals s (union_left (single s) D s (eqb_refl s))

    status_same : (k : Question) → local_status k n (gives must p' (giving E' n unknown)) (gives (absence_asked k) p' (giving E' n unknown))
        ≡ local_status k s (gives must p (giving E s unknown)) (gives (absence_asked k) p (giving E s unknown))
    status_same k = ap₂ (λ (x y : Bool). marked (asks_must k && x) y unknown) (signal_same must unknown) (signal_same (absence_asked k) unknown)

    same_hidden : {a a' : Given} → SameGiven D⁺ (naming ρ s n) a a' → SameGiven D ρ (hidden s a) (hidden n a')
    same_hidden {a} {a'} g = record {
      of_signals = λ x d.
          ap₂ (λ (y z : Bool). y && not z) (sym (ap a'.signals (other_name x d)) ∙ g.of_signals x (Rattle.sets.proofs.Members.union_right (single s) D x d))
          (eqb_not (ρ x) n (fresh x d) ∙ sym (not_it x d));
      of_codes = g.of_codes;
    }

    scope_gives : (k : Question) → SameGiven D ρ (gives k (scope s p) E) (gives k (scope n p') E')
    unfolding gives
    scope_gives k =
        subst⁻¹ (λ (v : Status). SameGiven D ρ (gives k (scope s p) E) (hidden n (gives k p' (giving E' n v)))) (status_same k)
        (same_hidden (f.gives_same k (giving_same _ e)))

    scope_keeps : R (kept (scope s p) E) (kept (scope n p') E')
    unfolding kept
    scope_keeps =
        kept_where c ((gives must (scope s p) E).codes 1) ((gives must (scope n p') E').codes 1) (ap (λ (x : Numbers). x 1) (scope_gives must).of_codes)
        (subst⁻¹ (λ (v : Status). R (kept p (giving E s (executed_as s p E))) (kept p' (giving E' n v))) (status_same must) (f.keeps (giving_same _ e)))

  pub like_scope : {R : Numbers → Numbers → Type 0} → Closed R → {p p' : Step} → Like R D⁺ (naming ρ s n) p p' → Like R D ρ (scope s p) (scope n p')
  like_scope c f = record { gives_same = λ k e. scope_gives c f e k; keeps = λ e. scope_keeps c f e }

-- A step that gives no 0, in must or in can, at any event. Behind it nothing is reached.
abbrev pub GivesNoZero : Step → Type 0
GivesNoZero S = (k : Question) (E : Event) → T ((gives k S E).codes 0) → ⊥

module _ (p q : Step) (never : GivesNoZero p) where
  followed_first : (a b : Given) → a.codes 0 ≡ false → followed a b ≡ a
  followed_first a b e = λ i. record { signals = signals i; codes = codes i }
    where
      signals : union a.signals (only_if (a.codes 0) b.signals) ≡ a.signals
      signals = ext_T (λ n t. pick n (union_out a.signals (only_if (a.codes 0) b.signals) n t)) (λ n t. union_left a.signals (only_if (a.codes 0) b.signals) n t)
        where
          pick : (n : ℕ) → T (a.signals n) ⊎ T (only_if (a.codes 0) b.signals n) → T (a.signals n)
          pick n (inl t) = t
          pick n (inr t) = absurd (subst T e (only_if_test (a.codes 0) b.signals n t))

      codes : union (without 0 a.codes) (only_if (a.codes 0) b.codes) ≡ a.codes
      codes = ext_T (λ n t. pick n (union_out (without 0 a.codes) (only_if (a.codes 0) b.codes) n t))
          (λ n t. union_left (without 0 a.codes) (only_if (a.codes 0) b.codes) n (without_in 0 a.codes n t (λ z. subst T (ap a.codes z ∙ e) t)))
        where
          pick : (n : ℕ) → T (without 0 a.codes n) ⊎ T (only_if (a.codes 0) b.codes n) → T (a.codes n)
          pick n (inl t) = without_member 0 a.codes n t
          pick n (inr t) = absurd (subst T e (only_if_test (a.codes 0) b.codes n t))

  first_gives : (k : Question) (E : Event) → gives k p E ≡ gives k (chain p q) E
  unfolding gives
  first_gives k E = sym (followed_first (gives k p E) (gives (onward k ((gives must p E).codes 0)) q E) (is_false ((gives k p E).codes 0) (never k E)))

  first_keeps : (E : Event) → kept p E ≡ kept (chain p q) E
  unfolding kept
  first_keeps E = ext_T there back
    where
      z : Bool
      z = (gives must p E).codes 0

      there : (n : ℕ) → T (kept p E n) → T (only_if ((gives must (chain p q) E).codes 1) (union (kept p E) (only_if z (kept q E))) n)
      there n t =
          only_if_in ((gives must (chain p q) E).codes 1) (union (kept p E) (only_if z (kept q E))) n
          (subst (λ (g : Given). T (g.codes 1)) (first_gives must E) (kept_at_one p E n t)) (union_left (kept p E) (only_if z (kept q E)) n t)

      pick : (n : ℕ) → T (kept p E n) ⊎ T (only_if z (kept q E) n) → T (kept p E n)
      pick n (inl t) = t
      pick n (inr t) = absurd (never must E (only_if_test z (kept q E) n t))

      back : (n : ℕ) → T (only_if ((gives must (chain p q) E).codes 1) (union (kept p E) (only_if z (kept q E))) n) → T (kept p E n)
      back n t = pick n (union_out (kept p E) (only_if z (kept q E)) n (only_if_member ((gives must (chain p q) E).codes 1) (union (kept p E) (only_if z (kept q E))) n t))

  pub first_alone : Alike p (chain p q)
  first_alone = record { gives_alike = first_gives; kept_alike = first_keeps }

-- Whatever goes on with a step that gives no 0 gives none.
pub ends_not : (p q : Step) → GivesNoZero q → GivesNoZero (chain p q)
unfolding gives
ends_not p q never k E t = go (union_out (without 0 a) (only_if (a 0) b) 0 t)
  where
    a : Numbers
    a = (gives k p E).codes

    b : Numbers
    b = (gives (onward k ((gives must p E).codes 0)) q E).codes

    go : T (without 0 a 0) ⊎ T (only_if (a 0) b 0) → ⊥
    go (inl s) = Rattle.sets.proofs.Members.without_other 0 a 0 s refl
    go (inr s) = never (onward k ((gives must p E).codes 0)) E (only_if_member (a 0) b 0 s)

-- A step like one that gives no 0 gives none: every event is the same as one of the other.
pub like_never : {R : Numbers → Numbers → Type 0} {D : Numbers} {ρ : ℕ → ℕ} {p p' : Step} → Like R D ρ p p' → GivesNoZero p → GivesNoZero p'
like_never {ρ = ρ} f never k E t = never k (λ s. E (ρ s)) (subst (λ (a : Numbers). T (a 0)) (f.gives_same k (record { at = λ s d. refl })).of_codes t)
