-- The pauses of a conversion stand for the stops: each stop has its pause, and the watching pause of an abort is active exactly while the body is. By
-- induction over the statement; what lies outside a statement's own numbers changes nothing. Assumes nothing.
use mathlib.Core.Path.{◌≡◌, refl, sym, ◌∙◌, ap, ap₂, subst, subst⁻¹}
use mathlib.Core.Logic.{◌⊎◌, inl, inr}
use mathlib.Core.Bool.{Bool, true, false, cond, ◌&&◌, ◌||◌, or_assoc}
use mathlib.Core.List.{List, [], ◌∷◌, ◌++◌}
use Prim.Native.Nat.{ℕ, zero, suc, ◌+◌, ◌≤◌, ◌<◌}
use native.Mathlib.Nat.{add-zero, zero-add, suc-add, add-suc}
use native.Mathlib.Omega.{arith}
use lib.Dec.{T}
use Rattle.sets.specs.Numbers.{Numbers, empty, union, listed}
use Rattle.sets.proofs.Members.{same, is_false, or_left, or_right, or_out, and_in, and_left, and_right, union_left, union_right, union_out}
use Rattle.rules.specs.Statements.{from}
use Rattle.rules.specs.Instant.{any}
use Rattle.theorems.proofs.Numbering.{from_in, from_out}
use Rattle.theorems.proofs.KeepsSome.{any_in, any_out}
use Rattle.likeness.specs.Likeness.{Closed}
use Rattle.everyday.specs.Statements.{Alone, Around, Between, Everyday, alone, around, between, is_stop, stops}
use Rattle.everyday.specs.Meaning.{active₂, held₂}
use Rattle.everyday.specs.Conversion.{watches, pauses_made}

-- Members of a stretch of numbers.
module _ (A : Numbers) (i n : ℕ) where
  pub some_from : T (any A (from i n)) → (m : ℕ) × T (A m) × (i ≤ m) × (m < i + n)
  some_from t =
      let r = any_out A (from i n) t in
      let l = from_out i n r.0 r.2 in
      (r.0, r.1, l.0, l.1)

  pub in_from : (m : ℕ) → T (A m) → i ≤ m → m < i + n → T (any A (from i n))
  in_from m t l u = any_in A (from i n) m t (from_in i n m l u)

pub any_same : {A B : Numbers} (i n : ℕ) → ((m : ℕ) → i ≤ m → m < i + n → B m ≡ A m) → any B (from i n) ≡ any A (from i n)
any_same {A} {B} i n e =
    same (any B (from i n)) (any A (from i n))
    (λ t. let r = some_from B i n t in in_from A i n r.0 (subst T (e r.0 r.2 r.3) r.1) r.2 r.3)
    (λ t. let r = some_from A i n t in in_from B i n r.0 (subst⁻¹ T (e r.0 r.2 r.3) r.1) r.2 r.3)

pub from_add : (i m n : ℕ) → from i (m + n) ≡ from i m ++ from (i + m) n
unfolding from
from_add i zero n = ap₂ from (sym (add-zero i)) (zero-add n)
from_add i (suc m) n =
    ap (from i) (suc-add m n)
    ∙ ap (λ (xs : List ℕ). i ∷ xs) (from_add (suc i) m n ∙ ap (λ (k : ℕ). from (suc i) m ++ from k n) (suc-add i m ∙ sym (add-suc i m)))

any_append : (A : Numbers) (xs ys : List ℕ) → any A (xs ++ ys) ≡ (any A xs || any A ys)
unfolding any
any_append A [] ys = refl
any_append A (x ∷ xs) ys = ap (λ (z : Bool). A x || z) (any_append A xs ys) ∙ sym (or_assoc (A x) (any A xs) (any A ys))

pub any_add : (A : Numbers) (i m n : ℕ) → any A (from i (m + n)) ≡ (any A (from i m) || any A (from (i + m) n))
any_add A i m n = ap (any A) (from_add i m n) ∙ any_append A (from i m) (from (i + m) n)

-- One number more, or none.
one_here : (z : Bool) (i : ℕ) → T z → i < i + cond z 1 0
one_here true i t = omega arith
one_here false i t = absurd t

any_one : (A : Numbers) (i : ℕ) (z : Bool) → any A (from i (cond z 1 0)) ≡ (z && A i)
unfolding any from
any_one A i true = Rattle.sets.proofs.Members.same (A i || false) (A i) (λ t. go (or_out (A i) false t)) (λ t. or_left (A i) false t)
  where
    go : T (A i) ⊎ T false → T (A i)
    go (inl s) = s
    go (inr s) = absurd s
any_one A i false = refl

-- A has the active stops, numbered from i, and B the active pauses, numbered from j.
unfoldable pub Standing : ℕ → ℕ → Everyday → Numbers → Numbers → Type 0
unfolding is_stop watches stops pauses_made active₂
Standing i j (alone a) A B = T (is_stop a) → B j ≡ A i
Standing i j (around f p) A B = Standing i j p A B × (T (watches f) → B (j + pauses_made p) ≡ active₂ i A p)
Standing i j (between o p q) A B = Standing i j p A B × Standing (i + stops p) (j + pauses_made p) q A B

pub active_same : (i : ℕ) (p : Everyday) {A A₁ : Numbers} → ((n : ℕ) → i ≤ n → n < i + stops p → A₁ n ≡ A n) → active₂ i A₁ p ≡ active₂ i A p
unfolding active₂
active_same i p e = any_same i (stops p) e

pub standing_same : (i j : ℕ) (p : Everyday) {A A₁ B B₁ : Numbers} → ((n : ℕ) → i ≤ n → n < i + stops p → A₁ n ≡ A n)
    → ((m : ℕ) → j ≤ m → m < j + pauses_made p → B₁ m ≡ B m) → Standing i j p A B → Standing i j p A₁ B₁
unfolding Standing stops pauses_made
standing_same i j (alone a) e f st = λ t.
    f j (omega arith) (one_here (is_stop a) j t) ∙ st t ∙ sym (e i (omega arith) (one_here (is_stop a) i t))
standing_same i j (around g p) e f st = (
  standing_same i j p e (λ m l u. f m l (omega arith)) st.0,
  λ t. f (j + pauses_made p) (omega arith) (let h = one_here (watches g) (j + pauses_made p) t in omega (arith, h)) ∙ st.1 t ∙ sym (active_same i p e),
)
standing_same i j (between o p q) e f st = (
  standing_same i j p (λ n l u. e n l (omega arith)) (λ m l u. f m l (omega arith)) st.0,
  standing_same (i + stops p) (j + pauses_made p) q (λ n l u. e n (omega arith) (omega arith)) (λ m l u. f m (omega arith) (omega arith)) st.1,
)

active_none : (i : ℕ) (p : Everyday) → active₂ i empty p ≡ false
unfolding active₂
active_none i p = is_false (any empty (from i (stops p))) (λ t. (some_from empty i (stops p) t).1)

pub standing_none : (i j : ℕ) (p : Everyday) → Standing i j p empty empty
unfolding Standing
standing_none i j (alone a) = λ t. refl
standing_none i j (around f p) = (standing_none i j p, λ t. sym (active_none i p))
standing_none i j (between o p q) = (standing_none i j p, standing_none (i + stops p) (j + pauses_made p) q)

active_both : (i : ℕ) (p : Everyday) (A B : Numbers) → active₂ i (union A B) p ≡ (active₂ i A p || active₂ i B p)
unfolding active₂
active_both i p A B =
    same (any (union A B) (from i (stops p))) (any A (from i (stops p)) || any B (from i (stops p)))
    (λ t. let r = some_from (union A B) i (stops p) t in there r.0 r.2 r.3 (union_out A B r.0 r.1))
    (λ t. back (or_out (any A (from i (stops p))) (any B (from i (stops p))) t))
  where
    there : (m : ℕ) → i ≤ m → m < i + stops p → T (A m) ⊎ T (B m) → T (any A (from i (stops p)) || any B (from i (stops p)))
    there m l u (inl s) = or_left (any A (from i (stops p))) (any B (from i (stops p))) (in_from A i (stops p) m s l u)
    there m l u (inr s) = or_right (any A (from i (stops p))) (any B (from i (stops p))) (in_from B i (stops p) m s l u)

    back : T (any A (from i (stops p))) ⊎ T (any B (from i (stops p))) → T (any (union A B) (from i (stops p)))
    back (inl s) = let r = some_from A i (stops p) s in in_from (union A B) i (stops p) r.0 (union_left A B r.0 r.1) r.2 r.3
    back (inr s) = let r = some_from B i (stops p) s in in_from (union A B) i (stops p) r.0 (union_right A B r.0 r.1) r.2 r.3

standing_both : (i j : ℕ) (p : Everyday) (A A' B B' : Numbers) → Standing i j p A A' → Standing i j p B B' → Standing i j p (union A B) (union A' B')
unfolding Standing
standing_both i j (alone a) A A' B B' f g = λ t. ap₂ ◌||◌ (f t) (g t)
standing_both i j (around h p) A A' B B' f g = (standing_both i j p A A' B B' f.0 g.0, λ t. ap₂ ◌||◌ (f.1 t) (g.1 t) ∙ sym (active_both i p A B))
standing_both i j (between o p q) A A' B B' f g =
    (standing_both i j p A A' B B' f.0 g.0, standing_both (i + stops p) (j + pauses_made p) q A A' B B' f.1 g.1)

-- A pause of the conversion is active exactly while a stop of the statement is.
pub active_there : (i j : ℕ) (p : Everyday) (A B : Numbers) → Standing i j p A B → any B (from j (pauses_made p)) ≡ active₂ i A p
unfolding Standing active₂ stops pauses_made
active_there i j (alone a) A B st = any_one B j (is_stop a) ∙ go (is_stop a) st ∙ sym (any_one A i (is_stop a))
  where
    go : (z : Bool) → (T z → B j ≡ A i) → (z && B j) ≡ (z && A i)
    go true e = e tt
    go false e = refl
active_there i j (around f p) A B st =
    any_add B j (pauses_made p) (cond (watches f) 1 0) ∙ ap₂ ◌||◌ (active_there i j p A B st.0) (any_one B (j + pauses_made p) (watches f))
    ∙ go (watches f) st.1
  where
    go : (z : Bool) → (T z → B (j + pauses_made p) ≡ any A (from i (stops p))) → (any A (from i (stops p)) || (z && B (j + pauses_made p))) ≡ any A (from i (stops p))
    go true e = ap (λ (x : Bool). any A (from i (stops p)) || x) (e tt) ∙ twice (any A (from i (stops p)))
      where
        twice : (x : Bool) → (x || x) ≡ x
        twice true = refl
        twice false = refl
    go false e = alone_or (any A (from i (stops p)))
      where
        alone_or : (x : Bool) → (x || false) ≡ x
        alone_or true = refl
        alone_or false = refl
active_there i j (between o p q) A B st =
    any_add B j (pauses_made p) (pauses_made q) ∙ ap₂ ◌||◌ (active_there i j p A B st.0) (active_there (i + stops p) (j + pauses_made p) q A B st.1)
    ∙ sym (any_add A i (stops p) (stops q))

-- An active stop has an active pause.
pub stop_active : (i j : ℕ) (a : Alone) (A B : Numbers) → Standing i j (alone a) A B → T (active₂ i A (alone a)) → T (is_stop a) → T (B j)
unfolding Standing active₂ stops
stop_active i j a A B st t u = subst⁻¹ T (st u) (and_right (is_stop a) (A i) (subst T (any_one A i (is_stop a)) t))

-- What a statement and its conversion keep: sets of their own numbers that stand for one another.
pub record Keeps (i j : ℕ) (p : Everyday) (K K' : Numbers) : Type 0 where
  pub in_stops : (n : ℕ) → T (K n) → (i ≤ n) × (n < i + stops p)
  pub in_pauses : (m : ℕ) → T (K' m) → (j ≤ m) × (m < j + pauses_made p)
  pub stands : Standing i j p K K'

pub keeps_closed : (i j : ℕ) (p : Everyday) → Closed (Keeps i j p)
keeps_closed i j p = record {
  none = record { in_stops = λ n t. absurd t; in_pauses = λ m t. absurd t; stands = standing_none i j p };
  both = keeps_both;
}
  where
    either : (A B : Numbers) (P : ℕ → Type 0) → ((n : ℕ) → T (A n) → P n) → ((n : ℕ) → T (B n) → P n) → (n : ℕ) → T (A n) ⊎ T (B n) → P n
    either A B P f g n (inl t) = f n t
    either A B P f g n (inr t) = g n t

    keeps_both : {A A' B B' : Numbers} → Keeps i j p A A' → Keeps i j p B B' → Keeps i j p (union A B) (union A' B')
    keeps_both {A} {A'} {B} {B'} f g = record {
      in_stops = λ n t. either A B (λ n. (i ≤ n) × (n < i + stops p)) f.in_stops g.in_stops n (union_out A B n t);
      in_pauses = λ m t. either A' B' (λ m. (j ≤ m) × (m < j + pauses_made p)) f.in_pauses g.in_pauses m (union_out A' B' m t);
      stands = standing_both i j p A A' B B' f.stands g.stands;
    }

-- From a part to the whole.
pub keeps_around : (i j : ℕ) (f : Around) (p : Everyday) → watches f ≡ false → (K K' : Numbers) → Keeps i j p K K' → Keeps i j (around f p) K K'
unfolding Standing stops pauses_made
keeps_around i j f p e K K' k = record {
  in_stops = k.in_stops;
  in_pauses = λ m t. let r = k.in_pauses m t in let u = r.1 in (r.0, omega arith);
  stands = (k.stands, λ t. absurd (Rattle.sets.proofs.Members.of_false e t));
}

module _ (i j : ℕ) (o : Between) (p q : Everyday) (K K' : Numbers) where
  outside : (A : Numbers) (i₀ n₀ i₁ n₁ : ℕ) → ((n : ℕ) → T (A n) → (i₀ ≤ n) × (n < i₀ + n₀)) → (i₀ + n₀ ≤ i₁) ⊎ (i₁ + n₁ ≤ i₀) → (n : ℕ) → i₁ ≤ n → n < i₁ + n₁ → A n ≡ empty n
  outside A i₀ n₀ i₁ n₁ f apart n l u = is_false (A n) (λ t. let r = f n t in let x = r.0 in let y = r.1 in go x y apart)
    where
      go : i₀ ≤ n → n < i₀ + n₀ → (i₀ + n₀ ≤ i₁) ⊎ (i₁ + n₁ ≤ i₀) → ⊥
      go x y (inl h) = omega arith
      go x y (inr h) = omega arith

  pub keeps_first : Keeps i j p K K' → Keeps i j (between o p q) K K'
  unfolding Standing stops pauses_made
  keeps_first k = record {
    in_stops = λ n t. let r = k.in_stops n t in let u = r.1 in (r.0, omega arith);
    in_pauses = λ m t. let r = k.in_pauses m t in let u = r.1 in (r.0, omega arith);
    stands = (
      k.stands,
      standing_same (i + stops p) (j + pauses_made p) q
          (outside K i (stops p) (i + stops p) (stops q) k.in_stops (inl (omega arith)))
          (outside K' j (pauses_made p) (j + pauses_made p) (pauses_made q) k.in_pauses (inl (omega arith)))
          (standing_none (i + stops p) (j + pauses_made p) q),
    );
  }

  pub keeps_second : Keeps (i + stops p) (j + pauses_made p) q K K' → Keeps i j (between o p q) K K'
  unfolding Standing stops pauses_made
  keeps_second k = record {
    in_stops = λ n t. let r = k.in_stops n t in let l = r.0 in let u = r.1 in (omega arith, omega arith);
    in_pauses = λ m t. let r = k.in_pauses m t in let l = r.0 in let u = r.1 in (omega arith, omega arith);
    stands = (
      standing_same i j p
          (outside K (i + stops p) (stops q) i (stops p) k.in_stops (inr (omega arith)))
          (outside K' (j + pauses_made p) (pauses_made q) j (pauses_made p) k.in_pauses (inr (omega arith)))
          (standing_none i j p),
      k.stands,
    );
  }

-- What is held of active stops and pauses.
pub held_keeps : (i j : ℕ) (p : Everyday) (A B : Numbers) → Standing i j p A B → Keeps i j p (held₂ i A p) (λ m. B m && listed (from j (pauses_made p)) m)
unfolding held₂
held_keeps i j p A B st = record {
  in_stops = λ n t. from_out i (stops p) n (and_right (A n) (listed (from i (stops p)) n) t);
  in_pauses = λ m t. from_out j (pauses_made p) m (and_right (B m) (listed (from j (pauses_made p)) m) t);
  stands = standing_same i j p (inside A i (stops p)) (inside B j (pauses_made p)) st;
}
  where
    inside : (X : Numbers) (k n : ℕ) (m : ℕ) → k ≤ m → m < k + n → (X m && listed (from k n) m) ≡ X m
    inside X k n m l u = same (X m && listed (from k n) m) (X m) (and_left (X m) (listed (from k n) m)) (λ t. and_in (X m) (listed (from k n) m) t (from_in k n m l u))
