-- The tokens from a place on: what stands at the front behind the spaces, and then the tokens behind it. Assumes nothing.
use mathlib.Core.Path.{◌≡◌, refl, sym, ap, ap₂, ◌∙◌, subst}
use mathlib.Core.Bool.{Bool, true, false, cond, ◌&&◌}
use mathlib.Core.List.{List, [], ◌∷◌}
use mathlib.Core.Option.{Option, none, some}
use Prim.Native.Nat.{ℕ, zero, suc, ◌+◌, ◌≤◌, ◌<◌}
use native.Mathlib.Omega.{arith}
use borrow.Author.Tests.{ne_eqb}
use lib.Dec.{eqb}
use lib.ListN.{length, get_or, drop, length-drop, drop_of_length-le}
use lib.Seq.{drop-cons, drop-drop, get_or-drop}
use Rattle.text.specs.Tokens.{Token, sign, no_token, is_space, in_word, spaces_of, word_of, word_token, is_mark, mark_token, mark_size, BESIDE, Placed, placed}
use Rattle.text.specs.Coded.{kind_of, front, front_size, kind_held, FrontAt, past_spaces, tokens_from, fronted}
use Rattle.text.specs.declared.tokens.Kind.TheVariants.{End}
use Rattle.text.specs.declared.tokens.Token.{Token as CodedToken}

-- More steps than bytes change nothing.
word_some : (b : ℕ) (bs : List ℕ) → in_word b ≡ true → 0 < length (word_of (b ∷ bs))
unfolding word_of
word_some b bs e = subst (λ (z : Bool). 0 < length (cond z (b ∷ word_of bs) [])) (sym e) (omega arith)

mark_some : (b : ℕ) (bs : List ℕ) → 0 < mark_size b bs
mark_some b bs = go (eqb b BESIDE && eqb (get_or bs 0 0) BESIDE)
  where
    go : (z : Bool) → 0 < cond z 2 1
    go true = omega arith
    go false = omega arith

-- The tokens from a word on, and from another byte on.
abbrev worded : ℕ → ℕ → ℕ → List ℕ → List Placed
worded n at b bs = record { place = at; token = word_token (word_of (b ∷ bs)) } ∷ placed n (at + length (word_of (b ∷ bs))) (drop (length (word_of (b ∷ bs))) (b ∷ bs))

abbrev marked : ℕ → ℕ → ℕ → List ℕ → List Placed
marked n at b bs = record { place = at; token = mark_token b bs } ∷ placed n (at + mark_size b bs) (drop (mark_size b bs) (b ∷ bs))

shorter : (k n : ℕ) (b : ℕ) (bs : List ℕ) → length (b ∷ bs) ≤ suc n → 0 < k → length (drop k (b ∷ bs)) ≤ n
shorter k n b bs l h = omega (arith, length-drop k (b ∷ bs), l, h)

pub enough : (n m at : ℕ) (bs : List ℕ) → length bs ≤ n → length bs ≤ m → placed n at bs ≡ placed m at bs
unfolding placed
enough zero zero at bs l h = refl
enough zero (suc m) at [] l h = refl
enough zero (suc m) at (b ∷ bs) l h = absurd (omega (arith, l))
enough (suc n) zero at [] l h = refl
enough (suc n) zero at (b ∷ bs) l h = absurd (omega (arith, h))
enough (suc n) (suc m) at [] l h = refl
enough (suc n) (suc m) at (b ∷ bs) l h =
    let w = length (word_of (b ∷ bs)) in
    let z = mark_size b bs in
    go (is_space b) (in_word b) refl (enough n m (at + 1) bs (omega (arith, l)) (omega (arith, h)))
    (λ p. ap (λ (x : List Placed). record { place = at; token = word_token (word_of (b ∷ bs)) } ∷ x) (enough n m (at + w) (drop w (b ∷ bs)) (shorter w n b bs l p) (shorter w m b bs h p)))
    (ap (λ (x : List Placed). record { place = at; token = mark_token b bs } ∷ x)
    (enough n m (at + z) (drop z (b ∷ bs)) (shorter z n b bs l (mark_some b bs)) (shorter z m b bs h (mark_some b bs))))
  where
    go : (x y : Bool) → in_word b ≡ y
        → placed n (at + 1) bs ≡ placed m (at + 1) bs
        → (0 < length (word_of (b ∷ bs)) → worded n at b bs ≡ worded m at b bs)
        → marked n at b bs ≡ marked m at b bs
        → cond x (placed n (at + 1) bs) (cond y (worded n at b bs) (marked n at b bs))
        ≡ cond x (placed m (at + 1) bs) (cond y (worded m at b bs) (marked m at b bs))
    go true y e p q r = p
    go false true e p q r = q (word_some b bs e)
    go false false e p q r = r

-- Spaces are passed over.
past : (n at : ℕ) (bs : List ℕ) → length bs ≤ n → placed n at bs ≡ placed n (at + spaces_of bs) (drop (spaces_of bs) bs)
unfolding placed spaces_of
past zero at bs l = refl
past (suc n) at [] l = refl
past (suc n) at (b ∷ bs) l = go (is_space b) refl (past n (at + 1) bs (omega (arith, l)))
  where
    go : (z : Bool) → is_space b ≡ z → placed n (at + 1) bs ≡ placed n (at + 1 + spaces_of bs) (drop (spaces_of bs) bs)
        → placed (suc n) at (b ∷ bs) ≡ placed (suc n) (at + cond z (suc (spaces_of bs)) 0) (drop (cond z (suc (spaces_of bs)) 0) (b ∷ bs))
    go true e h =
        let k : at + 1 + spaces_of bs ≡ at + suc (spaces_of bs) = omega arith in
        let more = length-drop (spaces_of bs) bs in
        ap (λ (z : Bool). cond z (placed n (at + 1) bs) (cond (in_word b) (worded n at b bs) (marked n at b bs))) e
        ∙ h ∙ ap (λ (a : ℕ). placed n a (drop (spaces_of bs) bs)) k ∙ enough n (suc n) (at + suc (spaces_of bs)) (drop (spaces_of bs) bs) (omega (arith, more, l)) (omega (arith, more, l))
    go false e h = let k : at ≡ at + 0 = omega arith in ap (λ (a : ℕ). placed (suc n) a (b ∷ bs)) k

no_more : (bs : List ℕ) → spaces_of (drop (spaces_of bs) bs) ≡ 0
unfolding spaces_of
no_more [] = refl
no_more (b ∷ bs) = go (is_space b) refl (no_more bs)
  where
    go : (z : Bool) → is_space b ≡ z → spaces_of (drop (spaces_of bs) bs) ≡ 0 → spaces_of (drop (cond z (suc (spaces_of bs)) 0) (b ∷ bs)) ≡ 0
    go true e h = h
    go false e h = ap (λ (z : Bool). cond z (suc (spaces_of bs)) 0) e

-- The first token where no space stands.
first : (n at : ℕ) (bs : List ℕ) → length bs ≤ n → spaces_of bs ≡ 0 → placed n at bs ≡ fronted (front bs) at (placed n (at + front_size bs) (drop (front_size bs) bs))
unfolding placed spaces_of front front_size fronted
first zero at [] l s = refl
first zero at (b ∷ bs) l s = absurd (omega (arith, l))
first (suc n) at [] l s = refl
first (suc n) at (b ∷ bs) l s = go (is_space b) (in_word b) refl s
  where
    go : (x y : Bool) → in_word b ≡ y → cond x (suc (spaces_of bs)) 0 ≡ 0
        → cond x (placed n (at + 1) bs) (cond y (worded n at b bs) (marked n at b bs))
        ≡ record { place = at; token = cond y (word_token (word_of (b ∷ bs))) (mark_token b bs) }
        ∷ placed (suc n) (at + cond y (length (word_of (b ∷ bs))) (mark_size b bs)) (drop (cond y (length (word_of (b ∷ bs))) (mark_size b bs)) (b ∷ bs))
    go true y e s = absurd (omega (arith, s))
    go false true e s =
        let w = length (word_of (b ∷ bs)) in
        let few = shorter w n b bs l (word_some b bs e) in
        ap (λ (l : List Placed). record { place = at; token = word_token (word_of (b ∷ bs)) } ∷ l) (enough n (suc n) (at + w) (drop w (b ∷ bs)) few (omega (arith, few)))
    go false false e s =
        let z = mark_size b bs in
        let few = shorter z n b bs l (mark_some b bs) in
        ap (λ (l : List Placed). record { place = at; token = mark_token b bs } ∷ l) (enough n (suc n) (at + z) (drop z (b ∷ bs)) few (omega (arith, few)))

-- One token, then those from its end on.
module _ (text : List ℕ) (at : ℕ) where
  abbrev pub next_token : Option Token
  next_token = front (drop (past_spaces text at) text)

  pub one_token : {r : CodedToken} → FrontAt text (past_spaces text at) r → tokens_from text at ≡ fronted next_token r.start (tokens_from text r.end)
  one_token {r} f =
      let n = length text in
      let bs = drop at text in
      let k = spaces_of bs in
      let few = length-drop at text in
      let fewer = length-drop k bs in
      let cut : drop k bs ≡ drop (at + k) text = drop-drop k at text in
      let z = front_size (drop (at + k) text) in
      past n at bs (omega (arith, few)) ∙ first n (at + k) (drop k bs) (omega (arith, few, fewer)) (no_more bs)
      ∙ ap (λ (l : List ℕ). fronted (front l) (at + k) (placed n (at + k + front_size l) (drop (front_size l) l))) cut
      ∙ ap (λ (l : List ℕ). fronted next_token (at + k) (placed n (at + k + z) l)) (drop-drop z (at + k) text)
      ∙ ap₂ (λ (a e : ℕ). fronted next_token a (tokens_from text e)) (sym f.its_start) (sym f.its_end)

-- What stands at the front: a word, a mark, or nothing.
module _ (text : List ℕ) (at : ℕ) where
  pub at_word : at < length text → in_word (get_or text at 0) ≡ true
      → (front (drop at text) ≡ some (word_token (word_of (drop at text)))) × (front_size (drop at text) ≡ length (word_of (drop at text)))
  unfolding front front_size
  at_word l e =
      let d = drop-cons text at 0 l in
      subst (λ (x : List ℕ). (front x ≡ some (word_token (word_of x))) × (front_size x ≡ length (word_of x))) (sym d) (
        ap (λ (z : Bool). some (cond z (word_token (word_of (get_or text at 0 ∷ drop (suc at) text))) (mark_token (get_or text at 0) (drop (suc at) text)))) e,
        ap (λ (z : Bool). cond z (length (word_of (get_or text at 0 ∷ drop (suc at) text))) (mark_size (get_or text at 0) (drop (suc at) text))) e,
      )

  pub at_mark : at < length text → in_word (get_or text at 0) ≡ false
      → (front (drop at text) ≡ some (mark_token (get_or text at 0) (drop (suc at) text))) × (front_size (drop at text) ≡ mark_size (get_or text at 0) (drop (suc at) text))
  unfolding front front_size
  at_mark l e =
      let d = drop-cons text at 0 l in
      subst (λ (x : List ℕ). (front x ≡ some (mark_token (get_or text at 0) (drop (suc at) text))) × (front_size x ≡ mark_size (get_or text at 0) (drop (suc at) text))) (sym d) (
        ap (λ (z : Bool). some (cond z (word_token (word_of (get_or text at 0 ∷ drop (suc at) text))) (mark_token (get_or text at 0) (drop (suc at) text)))) e,
        ap (λ (z : Bool). cond z (length (word_of (get_or text at 0 ∷ drop (suc at) text))) (mark_size (get_or text at 0) (drop (suc at) text))) e,
      )

  pub at_end : length text ≤ at → (front (drop at text) ≡ none) × (front_size (drop at text) ≡ 0)
  unfolding front front_size
  at_end l = let d = drop_of_length-le text l in (ap front d, ap front_size d)

-- A mark of one byte, two strokes, one stroke alone, and any other byte.
module _ (b : ℕ) (bs : List ℕ) where
  abbrev Marked : Token → ℕ → Type 0
  Marked t z = (mark_token b bs ≡ t) × (mark_size b bs ≡ z)

  pub one_mark : is_mark b ≡ true → Marked (sign b) 1
  one_mark e =
      let other = ne_eqb b BESIDE (λ h. let z = sym e ∙ ap is_mark h in let z : ◌≡◌ {A = ℕ} 0 1 = cc in omega arith) in
      (ap (λ (z : Bool). cond z (sign b) (cond (eqb b BESIDE && eqb (get_or bs 0 0) BESIDE) (sign BESIDE) no_token)) e, ap (λ (z : Bool). cond (z && eqb (get_or bs 0 0) BESIDE) 2 1) other)

  pub two_strokes : b ≡ BESIDE → get_or bs 0 0 ≡ BESIDE → Marked (sign BESIDE) 2
  two_strokes e h =
      (ap₂ (λ (c d : ℕ). cond (is_mark c) (sign c) (cond (eqb c BESIDE && eqb d BESIDE) (sign BESIDE) no_token)) e h, ap₂ (λ (c d : ℕ). cond (eqb c BESIDE && eqb d BESIDE) 2 1) e h)

  pub one_stroke : is_mark b ≡ false → (get_or bs 0 0 ≡ BESIDE → ⊥) → Marked no_token 1
  one_stroke e h =
      let other = ne_eqb (get_or bs 0 0) BESIDE h in (
        ap₂ (λ (x y : Bool). cond x (sign b) (cond (eqb b BESIDE && y) (sign BESIDE) no_token)) e other ∙ neither (eqb b BESIDE),
        ap (λ (y : Bool). cond (eqb b BESIDE && y) 2 1) other ∙ small (eqb b BESIDE),
      )
    where
      neither : (x : Bool) → cond (x && false) (sign BESIDE) no_token ≡ no_token
      neither true = refl
      neither false = refl

      small : (x : Bool) → ◌≡◌ {A = ℕ} (cond (x && false) 2 1) 1
      small true = refl
      small false = refl

  pub no_mark : is_mark b ≡ false → (b ≡ BESIDE → ⊥) → Marked no_token 1
  no_mark e h =
      let other = ne_eqb b BESIDE h in
      (ap₂ (λ (x y : Bool). cond x (sign b) (cond (y && eqb (get_or bs 0 0) BESIDE) (sign BESIDE) no_token)) e other, ap (λ (y : Bool). cond (y && eqb (get_or bs 0 0) BESIDE) 2 1) other)

-- The code's token for what stands at the front.
pub held : {text : List ℕ} {at : ℕ} {r : CodedToken} (t : Token) (z : ℕ) → front (drop at text) ≡ some t → front_size (drop at text) ≡ z
    → r.kind ≡ kind_of t → r.start ≡ at → r.end ≡ at + z → FrontAt text at r
unfolding kind_held
held {at = at} t z f s k b e = record { its_kind = k ∙ sym (ap kind_held f); its_start = b; its_end = e ∙ sym (ap (λ (n : ℕ). at + n) s) }

pub held_end : {text : List ℕ} {at : ℕ} {r : CodedToken} → length text ≤ at → r.kind ≡ End → r.start ≡ at → r.end ≡ at → FrontAt text at r
unfolding kind_held
held_end {text} {at} l k b e =
    let f = at_end text at l in
    let z : at ≡ at + 0 = omega arith in
    record { its_kind = k ∙ sym (ap kind_held f.0); its_start = b; its_end = e ∙ z ∙ sym (ap (λ (n : ℕ). at + n) f.1) }

-- The byte behind a place.
pub behind : (s : List ℕ) (at : ℕ) → get_or (drop (suc at) s) 0 0 ≡ get_or s (at + 1) 0
behind s at = get_or-drop (suc at) s 0 0 ∙ ap (λ (n : ℕ). get_or s n 0) (omega arith)

pub nothing_behind : (s : List ℕ) (at : ℕ) → length s ≤ at + 1 → get_or (drop (suc at) s) 0 0 ≡ BESIDE → ⊥
nothing_behind s at l e =
    let h : length s ≤ suc at = omega (arith, l) in
    let none : drop (suc at) s ≡ [] = drop_of_length-le s h in
    omega (arith, ap (λ (x : List ℕ). get_or x 0 0) none, e)
