-- Every text of the grammar has exactly one reading: two texts with the same tokens are the same. A reader gives every tree back from
-- its tokens with what follows them, where that does not go on with it; so the tokens determine the tree. Assumes nothing.
use mathlib.Core.Path.{◌≡◌, refl, sym, ap, ap₂, ◌∙◌, subst}
use mathlib.Core.Bool.{Bool, false, cond, ◌||◌}
use mathlib.Core.List.{List, [], ◌∷◌}
use mathlib.Core.Option.{Option, none, some}
use Prim.Native.Nat.{ℕ, zero, suc, ◌+◌, ◌≤◌}
use native.Mathlib.Omega.{arith}
use lib.Dec.{T, eqb, leb}
use Rattle.text.specs.Tokens.{Token, sign, name, number, no_token, NOTHING, PAUSE, EMIT, PRESENT, ELSE, END, SUSPEND, WHEN, LOOP, TRAP, EXIT, SIGNAL, INPUT, OUTPUT}
use Rattle.text.specs.Tokens.{COMMA, SEMICOLON, BRACKET, CLOSED, BESIDE}
use Rattle.text.specs.Grammar.{Arms, only, ◌beside◌, Chain, alone, ◌before◌, Basic, Nothing, Pause, Emit, Exit, Present, Suspend, Loop, Trap, Signal, Bracket}
use Rattle.text.specs.Grammar.{Text, arms, chain, basic, names, part, spelt}
use Rattle.text.specs.Meaning.{go_on}
use Rattle.text.proofs.Options.{one_value}

-- A tree that was read and the tokens behind it.
record Got (A : Type 0) : Type 0 where
  its : A
  rest : List Token

abbrev got : {A : Type 0} → A → List Token → Option (Got A)
got a k = some (record { its = a; rest = k })

-- The tokens begin with this sign; what is behind the first token; the name there.
abbrev begins : ℕ → List Token → Bool
begins s [] = false
begins s (sign k ∷ ts) = eqb k s
begins s (name x ∷ ts) = false
begins s (number v ∷ ts) = false
begins s (no_token ∷ ts) = false

abbrev behind : List Token → List Token
behind [] = []
behind (t ∷ ts) = ts

abbrev first_name : List Token → List ℕ
first_name [] = []
first_name (sign k ∷ ts) = []
first_name (name x ∷ ts) = x
first_name (number v ∷ ts) = []
first_name (no_token ∷ ts) = []

abbrev pub first_sign : List Token → ℕ
first_sign [] = 100
first_sign (sign k ∷ ts) = k
first_sign (name x ∷ ts) = 100
first_sign (number v ∷ ts) = 100
first_sign (no_token ∷ ts) = 100

-- The reader. It does not look whether the words that close are there: it only has to give back what was spelt.
mutual
  read_arms : ℕ → List Token → Option (Got Arms)
  read_arms zero ts = none
  read_arms (suc n) ts =
      go_on (read_chain n ts) λ c. cond (begins BESIDE c.rest) (go_on (read_arms n (behind c.rest)) λ p. got (c.its beside p.its) p.rest) (got (only c.its) c.rest)

  read_chain : ℕ → List Token → Option (Got Chain)
  read_chain zero ts = none
  read_chain (suc n) ts =
      go_on (read_basic n ts) λ b. cond (begins SEMICOLON b.rest) (go_on (read_chain n (behind b.rest)) λ c. got (b.its before c.its) c.rest) (got (alone b.its) b.rest)

  read_basic : ℕ → List Token → Option (Got Basic)
  read_basic zero ts = none
  read_basic (suc n) ts =
      let k = behind ts in
      let x = first_name k in
      let s = first_sign ts in
      cond (eqb s NOTHING) (got Nothing k)
      (cond (eqb s PAUSE) (got Pause k)
      (cond (eqb s EMIT) (got (Emit x) (behind k))
      (cond (eqb s EXIT) (got (Exit x) (behind k))
      (cond (eqb s PRESENT) (go_on (read_arms n (behind (behind k))) λ p. go_on (read_arms n (behind p.rest)) λ q. got (Present x p.its q.its) (behind q.rest))
      (cond (eqb s SUSPEND) (go_on (read_arms n k) λ p. got (Suspend p.its (first_name (behind p.rest))) (behind (behind p.rest)))
      (cond (eqb s LOOP) (go_on (read_arms n k) λ p. got (Loop p.its) (behind p.rest))
      (cond (eqb s TRAP) (go_on (read_arms n (behind (behind k))) λ p. got (Trap x p.its) (behind p.rest))
      (cond (eqb s SIGNAL) (go_on (read_arms n (behind (behind k))) λ p. got (Signal x p.its) (behind p.rest))
      (go_on (read_arms n k) λ p. got (Bracket p.its) (behind p.rest))))))))))

-- How deep the reader goes into a tree.
mutual
  arms_size : Arms → ℕ
  arms_size (only c) = 1 + chain_size c
  arms_size (c beside p) = 1 + chain_size c + arms_size p

  chain_size : Chain → ℕ
  chain_size (alone b) = 1 + basic_size b
  chain_size (b before c) = 1 + basic_size b + chain_size c

  basic_size : Basic → ℕ
  basic_size Nothing = 1
  basic_size Pause = 1
  basic_size (Emit x) = 1
  basic_size (Exit x) = 1
  basic_size (Present x p q) = 1 + arms_size p + arms_size q
  basic_size (Suspend p x) = 1 + arms_size p
  basic_size (Loop p) = 1 + arms_size p
  basic_size (Trap x p) = 1 + arms_size p
  basic_size (Signal x p) = 1 + arms_size p
  basic_size (Bracket p) = 1 + arms_size p

-- What follows does not go on with a sequence, or with a statement.
record EndsChain (k : List Token) : Type 0 where
  no_semicolon : begins SEMICOLON k ≡ false

record Ends (k : List Token) : Type 0 where
  no_more : begins SEMICOLON k ≡ false
  no_arm : begins BESIDE k ≡ false

through : {A B : Type 0} {o : Option A} {a : A} (f : A → Option B) → o ≡ some a → go_on o f ≡ f a
through f e = ap (λ o. go_on o f) e

mutual
  unfolding read_arms arms arms_size

  back_arms : (p : Arms) (n : ℕ) (k : List Token) → arms_size p ≤ n → Ends k → read_arms n (arms p k) ≡ got p k
  back_arms (only c) zero k l e = absurd (omega (arith, l))
  back_arms (only c) (suc n) k l e =
      through _ (back_chain c n k (omega (arith, l)) (record { no_semicolon = e.no_more }))
      ∙ ap (λ (z : Bool). cond z (go_on (read_arms n (behind k)) λ p. got (c beside p.its) p.rest) (got (only c) k)) e.no_arm
  back_arms (c beside p) zero k l e = absurd (omega (arith, l))
  back_arms (c beside p) (suc n) k l e =
      through _ (back_chain c n (sign BESIDE ∷ arms p k) (omega (arith, l)) (record { no_semicolon = refl })) ∙ through _ (back_arms p n k (omega (arith, l)) e)

  back_chain : (c : Chain) (n : ℕ) (k : List Token) → chain_size c ≤ n → EndsChain k → read_chain n (chain c k) ≡ got c k
  back_chain (alone b) zero k l e = absurd (omega (arith, l))
  back_chain (alone b) (suc n) k l e = through _ (back_basic b n k (omega (arith, l)))
      ∙ ap (λ (z : Bool). cond z (go_on (read_chain n (behind k)) λ c. got (b before c.its) c.rest) (got (alone b) k)) e.no_semicolon
  back_chain (b before c) zero k l e = absurd (omega (arith, l))
  back_chain (b before c) (suc n) k l e = through _ (back_basic b n (sign SEMICOLON ∷ chain c k) (omega (arith, l))) ∙ through _ (back_chain c n k (omega (arith, l)) e)

  back_basic : (b : Basic) (n : ℕ) (k : List Token) → basic_size b ≤ n → read_basic n (basic b k) ≡ got b k
  back_basic Nothing zero k l = absurd (omega (arith, l))
  back_basic Nothing (suc n) k l = refl
  back_basic Pause zero k l = absurd (omega (arith, l))
  back_basic Pause (suc n) k l = refl
  back_basic (Emit x) zero k l = absurd (omega (arith, l))
  back_basic (Emit x) (suc n) k l = refl
  back_basic (Exit x) zero k l = absurd (omega (arith, l))
  back_basic (Exit x) (suc n) k l = refl
  back_basic (Present x p q) zero k l = absurd (omega (arith, l))
  back_basic (Present x p q) (suc n) k l =
      through _ (back_arms p n (sign ELSE ∷ arms q (sign END ∷ k)) (omega (arith, l)) (record { no_more = refl; no_arm = refl }))
      ∙ through _ (back_arms q n (sign END ∷ k) (omega (arith, l)) (record { no_more = refl; no_arm = refl }))
  back_basic (Suspend p x) zero k l = absurd (omega (arith, l))
  back_basic (Suspend p x) (suc n) k l = through _ (back_arms p n (sign WHEN ∷ name x ∷ k) (omega (arith, l)) (record { no_more = refl; no_arm = refl }))
  back_basic (Loop p) zero k l = absurd (omega (arith, l))
  back_basic (Loop p) (suc n) k l = through _ (back_arms p n (sign END ∷ k) (omega (arith, l)) (record { no_more = refl; no_arm = refl }))
  back_basic (Trap x p) zero k l = absurd (omega (arith, l))
  back_basic (Trap x p) (suc n) k l = through _ (back_arms p n (sign END ∷ k) (omega (arith, l)) (record { no_more = refl; no_arm = refl }))
  back_basic (Signal x p) zero k l = absurd (omega (arith, l))
  back_basic (Signal x p) (suc n) k l = through _ (back_arms p n (sign END ∷ k) (omega (arith, l)) (record { no_more = refl; no_arm = refl }))
  back_basic (Bracket p) zero k l = absurd (omega (arith, l))
  back_basic (Bracket p) (suc n) k l = through _ (back_arms p n (sign CLOSED ∷ k) (omega (arith, l)) (record { no_more = refl; no_arm = refl }))

-- Two statements with the same tokens are the same statement.
pub one_statement : (p q : Arms) → arms p [] ≡ arms q [] → p ≡ q
one_statement p q e =
    let n = arms_size p + arms_size q in
    let there : Ends [] = record { no_more = refl; no_arm = refl } in
    ap (λ (g : Got Arms). g.its)
    (one_value (sym (back_arms p n [] (omega arith) there) ∙ ap (read_arms n) e ∙ back_arms q n [] (omega arith) there))

-- A statement begins with none of the header's words.
abbrev pub opens : ℕ → Bool
opens s = leb s SIGNAL || eqb s BRACKET

mutual
  unfolding arms

  pub arms_open : (p : Arms) (k : List Token) → T (opens (first_sign (arms p k)))
  arms_open (only c) k = chain_open c k
  arms_open (c beside p) k = chain_open c (sign BESIDE ∷ arms p k)

  chain_open : (c : Chain) (k : List Token) → T (opens (first_sign (chain c k)))
  chain_open (alone b) k = basic_open b k
  chain_open (b before c) k = basic_open b (sign SEMICOLON ∷ chain c k)

  basic_open : (b : Basic) (k : List Token) → T (opens (first_sign (basic b k)))
  basic_open Nothing k = tt
  basic_open Pause k = tt
  basic_open (Emit x) k = tt
  basic_open (Exit x) k = tt
  basic_open (Present x p q) k = tt
  basic_open (Suspend p x) k = tt
  basic_open (Loop p) k = tt
  basic_open (Trap x p) k = tt
  basic_open (Signal x p) k = tt
  basic_open (Bracket p) k = tt

body_first : (s : ℕ) (p : Arms) → opens s ≡ false → first_sign (arms p []) ≡ s → ⊥
body_first s p f e = subst T f (subst (λ (n : ℕ). T (opens n)) e (arms_open p []))

outputs_first : (xs : List (List ℕ)) (p : Arms) → first_sign (part OUTPUT xs (arms p [])) ≡ INPUT → ⊥
unfolding part
outputs_first [] p e = body_first INPUT p refl e
outputs_first (x ∷ xs) p e = omega (arith, e)

-- The names of a part, and the part with what follows it where that does not begin with the part's word.
names_same : (xs ys : List (List ℕ)) (x y : List ℕ) (k j : List Token) → names x xs k ≡ names y ys j → (x ≡ y) × (xs ≡ ys) × (k ≡ j)
unfolding names
names_same [] [] x y k j e = (ap first_name e, refl, ap (λ ts. behind (behind ts)) e)
names_same [] (z ∷ ys) x y k j e = let q : SEMICOLON ≡ COMMA = ap (λ ts. first_sign (behind ts)) e in absurd (omega (arith, q))
names_same (z ∷ xs) [] x y k j e = let q : COMMA ≡ SEMICOLON = ap (λ ts. first_sign (behind ts)) e in absurd (omega (arith, q))
names_same (u ∷ xs) (v ∷ ys) x y k j e =
    let r = names_same xs ys u v k j (ap (λ ts. behind (behind ts)) e) in
    (ap first_name e, ap₂ (λ (a : List ℕ) (l : List (List ℕ)). a ∷ l) r.0 r.1, r.2)

part_same : (s : ℕ) (xs ys : List (List ℕ)) (k j : List Token) → (first_sign k ≡ s → ⊥) → (first_sign j ≡ s → ⊥) → part s xs k ≡ part s ys j → (xs ≡ ys) × (k ≡ j)
unfolding part names
part_same s [] [] k j f g e = (refl, e)
part_same s [] (y ∷ ys) k j f g e = absurd (f (ap first_sign e))
part_same s (x ∷ xs) [] k j f g e = absurd (g (sym (ap first_sign e)))
part_same s (x ∷ xs) (y ∷ ys) k j f g e =
    let r = names_same xs ys x y k j (ap behind e) in
    (ap₂ (λ (a : List ℕ) (l : List (List ℕ)). a ∷ l) r.0 r.1, r.2)

first_number : List Token → ℕ
first_number [] = 0
first_number (sign k ∷ ts) = 0
first_number (name x ∷ ts) = 0
first_number (number v ∷ ts) = v
first_number (no_token ∷ ts) = 0

-- Two texts with the same tokens are the same text.
pub one_reading : (t u : Text) → spelt t ≡ spelt u → t ≡ u
unfolding spelt first_number
one_reading t u e =
    let i = part_same INPUT t.inputs u.inputs _ _ (outputs_first t.outputs t.body) (outputs_first u.outputs u.body) (ap (λ ts. behind (behind (behind ts))) e) in
    let o = part_same OUTPUT t.outputs u.outputs _ _ (body_first OUTPUT t.body refl) (body_first OUTPUT u.body refl) i.1 in
    let p = one_statement t.body u.body o.1 in
    let v = ap (λ ts. first_number (behind ts)) e in
    λ r. record { version = v r; inputs = i.0 r; outputs = o.0 r; body = p r }
