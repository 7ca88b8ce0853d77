-- Counts that stop at 4,000 are those of the tree: the cap goes through sums and the longer path, and each statement's own records and
-- its children's make up its count, the child of a loop twice. By the statement's children. Assumes nothing.
use mathlib.Core.Path.{◌≡◌, refl, sym, ◌∙◌, ap, ap₂, subst}
use mathlib.Core.Bool.{Bool, cond}
use mathlib.Core.List.{◌++◌}
use Prim.Native.Nat.{ℕ, ◌+◌, ◌≤◌, ◌<◌, max}
use native.Mathlib.Nat.{max-eq_left, max-eq_right}
use native.Mathlib.Decide.{dec_le, ℕ_discrete}
use native.Mathlib.Omega.{arith}
use lib.ListN.{length, length-append}
use borrow.Author.Tests.{lt-ltb, le-ltb, ne_eqb}
use Rattle.sets.specs.Numbers.{listed}
use Rattle.rules.specs.Statements.{Stmt, present?◌then◌else◌, suspend◌on◌, ◌⨾◌, loop, ◌parallel◌, trap, local, pauses}
use Rattle.tables.specs.Table.{kind_of, statements}
use Rattle.block.specs.Format.{preorder, bytes}
use Rattle.tables.specs.Kinds.{shape, length_of}
use Rattle.block.specs.Good.{path, locals}
use Rattle.block.proofs.Built.{bytes_append}
use Rattle.likeness.specs.Likeness.{naming}
use Rattle.doubled.specs.Copies.{copies, renamed}
use Rattle.copies.specs.declared.sizes.Size.{Size}
use Rattle.copies.specs.Nodes.{NoChild, a_nothing, a_pause, an_emit, an_exit, OneChild, a_suspend, a_trap, a_local, TwoChildren, a_present, a_sequence, a_parallel}
use Rattle.copies.specs.Sizes.{capped, own_size, onto_size, side_size, Counts, SizeOf, Measured}

pub capped_small : (n : ℕ) → n ≤ 4000 → capped n ≡ n
unfolding capped
capped_small n l = ap (λ (z : Bool). cond z 4000 n) (le-ltb 4000 n l)

pub capped_large : (n : ℕ) → 4000 < n → capped n ≡ 4000
unfolding capped
capped_large n l = ap (λ (z : Bool). cond z 4000 n) (lt-ltb 4000 n l)

-- By the two cases.
by_cap : (P : ℕ → Type 0) (n : ℕ) → (n ≤ 4000 → P n) → (4000 < n → P 4000) → P (capped n)
by_cap P n f g = go (dec_le n 4000)
  where
    go : Dec (n ≤ 4000) → P (capped n)
    go (yes l) = subst P (sym (capped_small n l)) (f l)
    go (no l) = let h : 4000 < n = omega arith in subst P (sym (capped_large n h)) (g h)

-- The cap goes through a sum and through the longer of two.
capped_plus : (m n : ℕ) → capped (capped m + capped n) ≡ capped (m + n)
capped_plus m n =
    by_cap (λ (x : ℕ). capped (x + capped n) ≡ capped (m + n)) m
    (λ l. by_cap (λ (y : ℕ). capped (m + y) ≡ capped (m + n)) n (λ k. refl)
    (λ k. by_cap (λ (z : ℕ). z ≡ capped (m + n)) (m + 4000) (λ h. whole m n k (omega arith)) (λ h. sym (capped_large (m + n) (omega arith)))))
    (λ l. by_cap (λ (y : ℕ). capped (4000 + y) ≡ capped (m + n)) n
    (λ k. by_cap (λ (z : ℕ). z ≡ capped (m + n)) (4000 + n) (λ h. whole_left m n l (omega arith)) (λ h. sym (capped_large (m + n) (omega arith))))
    (λ k. capped_large 8000 (omega arith) ∙ sym (capped_large (m + n) (omega arith))))
  where
    whole : (m n : ℕ) → 4000 < n → m ≡ 0 → m + 4000 ≡ capped (m + n)
    whole m n k e = let r = capped_large (m + n) (omega arith) in omega arith

    whole_left : (m n : ℕ) → 4000 < m → n ≡ 0 → 4000 + n ≡ capped (m + n)
    whole_left m n k e = let r = capped_large (m + n) (omega arith) in omega arith

capped_max : (m n : ℕ) → max (capped m) (capped n) ≡ capped (max m n)
capped_max m n = go (dec_le m n)
  where
    mono : (m n : ℕ) → m ≤ n → capped m ≤ capped n
    mono m n l = by_cap (λ (x : ℕ). x ≤ capped n) m (λ h. by_cap (λ (y : ℕ). m ≤ y) n (λ k. l) (λ k. h)) (λ h. by_cap (λ (y : ℕ). 4000 ≤ y) n (λ k. omega arith) (λ k. omega arith))

    go : Dec (m ≤ n) → max (capped m) (capped n) ≡ capped (max m n)
    go (yes l) = max-eq_right (mono m n l) ∙ ap capped (sym (max-eq_right l))
    go (no l) = let k : n ≤ m = omega arith in max-eq_left (mono n m k) ∙ ap capped (sym (max-eq_left k))

-- A kind's own records, by the ranges that the code tells apart.
abbrev plain : Size
plain = record { statements = 1; pauses = 0; locals = 0; path = 1; bytes = 4 }

abbrev long : Size
long = record { statements = 1; pauses = 0; locals = 0; path = 1; bytes = 6 }

pub own_plain : (k : ℕ) → (k ≡ 17 → ⊥) → (k ≡ 18 → ⊥) → (k ≡ 19 → ⊥) → (k ≡ 20 → ⊥) → (k ≡ 25 → ⊥) → (k ≡ 22 → ⊥) → (k ≡ 26 → ⊥) → plain ≡ own_size k
unfolding own_size listed
own_plain k a b c d e f g = sym (simp (ne_eqb k 17 a, ne_eqb k 18 b, ne_eqb k 19 c, ne_eqb k 20 d, ne_eqb k 25 e, ne_eqb k 22 f, ne_eqb k 26 g))

pub own_long : (k : ℕ) → 18 ≤ k → k ≤ 20 → long ≡ own_size k
unfolding own_size listed
own_long k l h = go (ℕ_discrete k 18) (ℕ_discrete k 19)
  where
    go : Dec (k ≡ 18) → Dec (k ≡ 19) → long ≡ own_size k
    go (yes e) y = sym (ap own_size e)
    go (no e) (yes f) = sym (ap own_size f)
    go (no e) (no f) = let g : k ≡ 20 = omega arith in sym (ap own_size g)

-- A sum of two counts.
sum : (m n total : ℕ) {r a b : ℕ} → r ≡ capped (a + b) → a ≡ capped m → b ≡ capped n → total ≡ m + n → r ≡ capped total
sum m n total e f g h = e ∙ ap₂ (λ (x y : ℕ). capped (x + y)) f g ∙ capped_plus m n ∙ ap capped (sym h)

-- The counts of a statement, from its own records and from what stands below it.
onto_of : {own below : Size} {s p l d b s' p' l' d' b' : ℕ} (t : Stmt) → Counts own s p l d b → Counts below s' p' l' d' b'
    → statements t ≡ s + s' → length (pauses t) ≡ p + p' → length (locals t) ≡ l + l' → path t ≡ d + d' → bytes (preorder t) ≡ b + b' → SizeOf (onto_size own below) t
onto_of {s = s} {p = p} {l = l} {d = d} {b = b} {s' = s'} {p' = p'} {l' = l'} {d' = d'} {b' = b'} t f g e1 e2 e3 e4 e5 = record {
  of_statements = sum s s' (statements t) refl f.of_statements g.of_statements e1;
  of_pauses = sum p p' (length (pauses t)) refl f.of_pauses g.of_pauses e2;
  of_locals = sum l l' (length (locals t)) refl f.of_locals g.of_locals e3;
  of_path = sum d d' (path t) refl f.of_path g.of_path e4;
  of_bytes = sum b b' (bytes (preorder t)) refl f.of_bytes g.of_bytes e5;
}

-- What two parts make up.
side_of : {x y : Size} (p q : Stmt) → SizeOf x p → SizeOf y q
    → Counts (side_size x y) (statements p + statements q) (length (pauses p ++ pauses q)) (length (locals p ++ locals q)) (max (path p) (path q)) (bytes (preorder p ++ preorder q))
side_of p q f g = record {
  of_statements = sum (statements p) (statements q) (statements p + statements q) refl f.of_statements g.of_statements refl;
  of_pauses = sum (length (pauses p)) (length (pauses q)) (length (pauses p ++ pauses q)) refl f.of_pauses g.of_pauses (length-append (pauses p) (pauses q));
  of_locals = sum (length (locals p)) (length (locals q)) (length (locals p ++ locals q)) refl f.of_locals g.of_locals (length-append (locals p) (locals q));
  of_path = ap₂ max f.of_path g.of_path ∙ capped_max (path p) (path q);
  of_bytes = sum (bytes (preorder p)) (bytes (preorder q)) (bytes (preorder p ++ preorder q)) refl f.of_bytes g.of_bytes (bytes_append (preorder p) (preorder q));
}

-- A kind's own records are few, so that the cap leaves them.
few : (r : Size) → r.statements ≤ 4000 → r.pauses ≤ 4000 → r.locals ≤ 4000 → r.path ≤ 4000 → r.bytes ≤ 4000
    → Counts r r.statements r.pauses r.locals r.path r.bytes
few r a b c d e = record {
  of_statements = sym (capped_small _ a);
  of_pauses = sym (capped_small _ b);
  of_locals = sym (capped_small _ c);
  of_path = sym (capped_small _ d);
  of_bytes = sym (capped_small _ e);
}

-- Each statement by its children.
pub leaf_measured : {t : Stmt} {own : Size} → NoChild t → own ≡ own_size (kind_of t) → Measured t own
unfolding own_size capped listed kind_of copies renamed statements pauses locals path preorder bytes length_of shape
leaf_measured {t} {own} v e = subst (λ (r : Size). Measured t r) (sym e) (go v)
  where
    go : {t : Stmt} → NoChild t → Measured t (own_size (kind_of t))
    go a_nothing = record { counts = λ ρ n j. record { of_statements = refl; of_pauses = refl; of_locals = refl; of_path = refl; of_bytes = refl } }
    go a_pause = record { counts = λ ρ n j. record { of_statements = refl; of_pauses = refl; of_locals = refl; of_path = refl; of_bytes = refl } }
    go an_emit = record { counts = λ ρ n j. record { of_statements = refl; of_pauses = refl; of_locals = refl; of_path = refl; of_bytes = refl } }
    go an_exit = record { counts = λ ρ n j. record { of_statements = refl; of_pauses = refl; of_locals = refl; of_path = refl; of_bytes = refl } }

module _ {p : Stmt} {m : Size} (f : Measured p m) where
  over_sized : {t : Stmt} → OneChild t p → Measured t (onto_size (own_size (kind_of t)) m)
  unfolding own_size listed kind_of copies renamed statements pauses locals path preorder bytes length_of shape
  over_sized (a_suspend {s = s}) = record {
    counts = λ ρ n j. onto_of (renamed ρ n (copies j (suspend p on s))) (few (own_size 20) (omega arith) (omega arith) (omega arith) (omega arith) (omega arith)) (f.counts ρ n j)
        refl (omega arith) (omega arith) refl refl;
  }
  over_sized a_trap = record {
    counts = λ ρ n j. onto_of (renamed ρ n (copies j (trap p))) (few (own_size 24) (omega arith) (omega arith) (omega arith) (omega arith) (omega arith)) (f.counts ρ n j)
        refl (omega arith) (omega arith) refl refl;
  }
  over_sized (a_local {s = s}) = record {
    counts = λ ρ n j. onto_of (renamed ρ n (copies j (local s p))) (few (own_size 26) (omega arith) (omega arith) (omega arith) (omega arith) (omega arith))
        (f.counts (naming ρ s n) (n + 1) j) refl (omega arith) (omega arith) refl refl;
  }

  pub over_measured : {t : Stmt} {own r : Size} → OneChild t p → own ≡ own_size (kind_of t) → r ≡ onto_size own m → Measured t r
  over_measured {t} v e g = subst (λ (r : Size). Measured t r) (sym (g ∙ ap (λ (o : Size). onto_size o m) e)) (over_sized v)

  -- A loop's own two records, and its body twice.
  loop_sized : Measured (loop p) (onto_size (own_size 22) (side_size m m))
  unfolding own_size listed kind_of copies renamed statements pauses locals path preorder bytes length_of shape
  loop_sized = record {
    counts = λ ρ n j.
        onto_of (renamed ρ n (copies j (loop p))) (few (own_size 22) (omega arith) (omega arith) (omega arith) (omega arith) (omega arith))
        (side_of (renamed ρ n (copies j p)) (renamed ρ (n + length (locals (copies j p))) (copies (j + length (pauses (copies j p))) p)) (f.counts ρ n j)
        (f.counts ρ (n + length (locals (copies j p))) (j + length (pauses (copies j p)))))
        (omega arith) (omega arith) (omega arith) (omega arith) (omega arith);
  }

  pub loop_measured : {t : Stmt} {own body r : Size} → t ≡ loop p → own ≡ own_size (kind_of t) → body ≡ side_size m m → r ≡ onto_size own body → Measured t r
  unfolding kind_of
  loop_measured {t} {own} {body} {r} e f g h =
      subst (λ (u : Stmt). Measured u r) (sym e)
      (subst (λ (r : Size). Measured (loop p) r) (sym (h ∙ ap₂ onto_size (f ∙ ap (λ (u : Stmt). own_size (kind_of u)) e) g)) loop_sized)

module _ {p q : Stmt} {m o : Size} (f : Measured p m) (g : Measured q o) where
  joins_sized : {t : Stmt} → TwoChildren t p q → Measured t (onto_size (own_size (kind_of t)) (side_size m o))
  unfolding own_size listed kind_of copies renamed statements pauses locals path preorder bytes length_of shape
  joins_sized (a_present {s = s}) = record {
    counts = λ ρ n j.
        onto_of (renamed ρ n (copies j (present? s then p else q))) (few (own_size 19) (omega arith) (omega arith) (omega arith) (omega arith) (omega arith))
        (side_of (renamed ρ n (copies j p)) (renamed ρ (n + length (locals (copies j p))) (copies (j + length (pauses (copies j p))) q)) (f.counts ρ n j)
        (g.counts ρ (n + length (locals (copies j p))) (j + length (pauses (copies j p)))))
        (omega arith) (omega arith) (omega arith) refl refl;
  }
  joins_sized a_sequence = record {
    counts = λ ρ n j.
        onto_of (renamed ρ n (copies j (p ⨾ q))) (few (own_size 21) (omega arith) (omega arith) (omega arith) (omega arith) (omega arith))
        (side_of (renamed ρ n (copies j p)) (renamed ρ (n + length (locals (copies j p))) (copies (j + length (pauses (copies j p))) q)) (f.counts ρ n j)
        (g.counts ρ (n + length (locals (copies j p))) (j + length (pauses (copies j p)))))
        (omega arith) (omega arith) (omega arith) refl refl;
  }
  joins_sized a_parallel = record {
    counts = λ ρ n j.
        onto_of (renamed ρ n (copies j (p parallel q))) (few (own_size 23) (omega arith) (omega arith) (omega arith) (omega arith) (omega arith))
        (side_of (renamed ρ n (copies j p)) (renamed ρ (n + length (locals (copies j p))) (copies (j + length (pauses (copies j p))) q)) (f.counts ρ n j)
        (g.counts ρ (n + length (locals (copies j p))) (j + length (pauses (copies j p)))))
        (omega arith) (omega arith) (omega arith) refl refl;
  }

  pub joins_measured : {t : Stmt} {own both r : Size} → TwoChildren t p q → own ≡ own_size (kind_of t) → both ≡ side_size m o → r ≡ onto_size own both → Measured t r
  joins_measured {t} v e h k = subst (λ (r : Size). Measured t r) (sym (k ∙ ap₂ onto_size e h)) (joins_sized v)
