-- Bytes put one after the other: what is left to put follows what was put, so pieces are joined by what stands behind them and no law of
-- `++` is needed. Assumes nothing.
use mathlib.Core.Path.{◌≡◌, refl, sym, ap, ◌∙◌}
use mathlib.Core.Bool.{Bool, cond}
use mathlib.Core.List.{List, [], ◌∷◌, ◌++◌}
use Prim.Native.Nat.{ℕ, zero, suc, ◌+◌, ◌-◌, ◌*◌, ◌/◌, ◌%◌, ◌^◌, ◌≤◌, ◌<◌}
use native.Mathlib.Nat.{pow-suc}
use native.Mathlib.Omega.{arith}
use borrow.Author.Tests.{eq-eqb, ne_eqb}
use lib.ListN.{length, get_or, set, drop, replicate}
use Rattle.std.proofs.lemmas.List.{drop_more, drop_all}
use lib.Seq.{sets, length-sets}
use Rattle.text.specs.Shown.{line}
use Rattle.write_text.specs.Pieces.{Left, Puts, coded_in, coded, row_text}

module _ {a : List ℕ} {t : ℕ} where
  pub none_put : {F : List ℕ → List ℕ} → Left a a t t F F
  none_put = record { stores = λ r. refl; ends = λ r. refl }

  pub byte_put : (x : ℕ) {G : List ℕ → List ℕ} {b : List ℕ} {m : ℕ} → b ≡ set a t x → m ≡ t + 1 → Left a b t m (λ r. x ∷ G r) G
  byte_put x {G} {m = m} e f =
      let next : t + 1 ≡ suc t = omega arith in
      record {
        stores = λ r. ap (λ (l : List ℕ). sets l m (G r)) e ∙ ap (λ (k : ℕ). sets (set a t x) k (G r)) (f ∙ next);
        ends = λ r. omega (arith, f);
      }

  module _ {b : List ℕ} {m : ℕ} where
    pub and_then : {F G H : List ℕ → List ℕ} {c : List ℕ} {e : ℕ} → Left a b t m F G → Left b c m e G H → Left a c t e F H
    and_then p q = record { stores = λ r. q.stores r ∙ p.stores r; ends = λ r. q.ends r ∙ p.ends r }

    -- A piece before whatever follows it.
    pub before : {F : List ℕ → List ℕ} (K : List ℕ → List ℕ) → Puts a b t m F → Left a b t m (λ r. F (K r)) K
    before K p = record { stores = λ r. p.stores (K r); ends = λ r. p.ends (K r) }

    -- The same bytes in other words.
    pub told_as : {F G H : List ℕ → List ℕ} → ((r : List ℕ) → F r ≡ G r) → Left a b t m F H → Left a b t m G H
    told_as e p = record {
      stores = λ r. p.stores r ∙ ap (λ (l : List ℕ). sets a t l) (e r);
      ends = λ r. p.ends r ∙ ap (λ (l : List ℕ). t + length l) (e r);
    }

    pub left_as : {F G H : List ℕ → List ℕ} → ((r : List ℕ) → G r ≡ H r) → Left a b t m F G → Left a b t m F H
    left_as e p = record {
      stores = λ r. ap (λ (l : List ℕ). sets b m l) (sym (e r)) ∙ p.stores r;
      ends = λ r. ap (λ (l : List ℕ). m + length l) (sym (e r)) ∙ p.ends r;
    }

    pub same_size : {F : List ℕ → List ℕ} → Puts a b t m F → length b ≡ length a
    same_size {F} p = ap length (p.stores []) ∙ length-sets a t (F [])

-- The bytes of a number.
pub no_bytes : (f n : ℕ) → n ≡ 0 → coded_in f n ≡ []
unfolding coded_in
no_bytes zero n e = refl
no_bytes (suc f) n e = ap (λ (z : Bool). cond z [] ((n % 256) ∷ coded_in f (n / 256))) (eq-eqb n 0 e)

pub more_bytes : (f n : ℕ) → (n ≡ 0 → ⊥) → coded_in (suc f) n ≡ (n % 256) ∷ coded_in f (n / 256)
unfolding coded_in
more_bytes f n e = ap (λ (z : Bool). cond z [] ((n % 256) ∷ coded_in f (n / 256))) (ne_eqb n 0 e)

-- A name is left to put, in at most so many bytes.
pub record NameLeft (out₀ out : List ℕ) (to word at left : ℕ) : Type 0 where
  pub bytes : ℕ
  pub small : left < 256 ^ bytes
  pub room : at + bytes ≤ to + 8
  pub rest : Left out₀ out to at (λ x. coded word ++ x) (λ x. coded_in bytes left ++ x)

pub name_begun : (out : List ℕ) (to word : ℕ) → word < 2 ^ 64 → NameLeft out out to word to word
name_begun out to word l = record { bytes = 8; small = omega (arith, l); room = omega arith; rest = none_put }

pub name_ended : {out₀ out : List ℕ} {to word at left : ℕ} → NameLeft out₀ out to word at left → left ≡ 0 → Puts out₀ out to at (λ x. coded word ++ x)
name_ended {left = left} w e = left_as (λ r. ap (λ (l : List ℕ). l ++ r) (no_bytes w.bytes left e)) w.rest

pub name_more : {out₀ out : List ℕ} {to word at left : ℕ} → NameLeft out₀ out to word at left → (left ≡ 0 → ⊥)
    → {b : List ℕ} {m : ℕ} → b ≡ set out at (left % 256) → m ≡ at + 1 → NameLeft out₀ b to word m (left / 256)
name_more {out₀} {out} {to} {word} {at} {left} w n {b} {m} e f = go w.bytes w.small w.room w.rest
  where
    go : (k : ℕ) → left < 256 ^ k → at + k ≤ to + 8 → Left out₀ out to at (λ x. coded word ++ x) (λ x. coded_in k left ++ x) → NameLeft out₀ b to word m (left / 256)
    go zero s l p = absurd (n (omega (arith, s)))
    go (suc k) s l p = record {
      bytes = k;
      small = omega (arith, s, pow-suc 256 k);
      room = omega (arith, l, f);
      rest = and_then (left_as (λ r. ap (λ (l : List ℕ). l ++ r) (more_bytes k left n)) p) (byte_put (left % 256) e f);
    }

-- A word's bytes from i on are left to put.
abbrev pub WordLeft : List ℕ → List ℕ → ℕ → ℕ → List ℕ → ℕ → Type 0
WordLeft out₀ out to at word i = (at ≡ to + i) × Left out₀ out to at (λ x. word ++ x) (λ x. drop i word ++ x)

pub word_more : {out₀ out : List ℕ} {to at : ℕ} (word : List ℕ) {i : ℕ} → WordLeft out₀ out to at word i → i < length word
    → {b : List ℕ} {m : ℕ} → b ≡ set out at (get_or word i 0) → m ≡ at + 1 → WordLeft out₀ b to m word (i + 1)
word_more word {i} w l e f =
    let next : drop i word ≡ get_or word i 0 ∷ drop (i + 1) word = drop_more word i 0 l in
    (omega (arith, w.0, f), and_then (left_as (λ r. ap (λ (l : List ℕ). l ++ r) next) w.1) (byte_put (get_or word i 0) e f))

pub word_ended : {out₀ out : List ℕ} {to at : ℕ} (word : List ℕ) {i : ℕ} → WordLeft out₀ out to at word i → length word ≤ i → Puts out₀ out to at (λ x. word ++ x)
word_ended word {i} w l = left_as (λ r. ap (λ (l : List ℕ). l ++ r) (drop_all i word l)) w.1

-- The blanks from i on are left to put.
abbrev pub BlanksLeft : List ℕ → List ℕ → ℕ → ℕ → ℕ → ℕ → Type 0
BlanksLeft out₀ out to at n i = (at ≡ to + i) × Left out₀ out to at (λ r. replicate n 32 ++ r) (λ r. replicate (n - i) 32 ++ r)

pub blanks_begun : (out : List ℕ) (to n : ℕ) → BlanksLeft out out to to n 0
blanks_begun out to n = let all : n ≡ n - 0 = omega arith in (omega arith, left_as (λ r. ap (λ (k : ℕ). replicate k 32 ++ r) all) none_put)

pub blanks_more : {out₀ out : List ℕ} {to at n i : ℕ} → BlanksLeft out₀ out to at n i → i < n → {b : List ℕ} {m : ℕ} → b ≡ set out at 32 → m ≡ at + 1 → BlanksLeft out₀ b to m n (i + 1)
blanks_more {n = n} {i} w l e f =
    let one : n - i ≡ suc (n - (i + 1)) = omega (arith, l) in
    (omega (arith, w.0, f), and_then (left_as (λ r. ap (λ (k : ℕ). replicate k 32 ++ r) one) w.1) (byte_put 32 e f))

pub line_put : {out b c : List ℕ} {to m at n i : ℕ} (d : ℕ) → b ≡ set out to 10 → m ≡ to + 1 → n ≡ 2 * d → BlanksLeft b c m at n i → n ≤ i → Puts out c to at (line d)
line_put {n = n} {i} d e f g w l =
    let none : n - i ≡ 0 = omega (arith, l) in
    and_then (left_as (λ r. ap (λ (k : ℕ). replicate k 32 ++ r) (sym g)) (byte_put 10 e f)) (left_as (λ r. ap (λ (k : ℕ). replicate k 32 ++ r) none) w.1)

-- A line of words.
pub row_none : {out : List ℕ} {to : ℕ} (d : ℕ) (first name last : List ℕ) → first ≡ [] → Puts out out to to (row_text d first name last)
unfolding row_text
row_none d first name last e = told_as (λ r. sym (ap (λ (l : List ℕ). row_text d l name last r) e)) none_put

pub row_put : {a b c d e : List ℕ} {i j k l m : ℕ} (n : ℕ) (first name last : List ℕ) → (first ≡ [] → ⊥) → Puts a b i j (line n) → Puts b c j k (λ x. first ++ x)
    → Puts c d k l (λ x. name ++ x) → Puts d e l m (λ x. last ++ x) → Puts a e i m (row_text n first name last)
unfolding row_text
row_put n [] name last ne p q s t = absurd (ne refl)
row_put n (x ∷ first) name last ne p q s t =
    and_then (before (λ r. (x ∷ first) ++ (name ++ (last ++ r))) p) (and_then (before (λ r. name ++ (last ++ r)) q) (and_then (before (λ r. last ++ r) s) t))
