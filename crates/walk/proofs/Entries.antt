-- Entries of eight words: a tag names one task and mark, what is written is read, and the other entries stay as they were. Two words agree on a set where what they
-- differ in has no member of it.
-- Assumes nothing.
use mathlib.Core.Path.{◌≡◌, refl, sym, ap, ap₂, ◌∙◌, subst, subst⁻¹}
use mathlib.Core.Bool.{Bool, true, false, not, cond, xor, ◌&&◌, ◌||◌}
use mathlib.Core.List.{List}
use Prim.Native.Nat.{ℕ, ◌+◌, ◌*◌, ◌/◌, ◌%◌, ◌<◌}
use native.Mathlib.Omega.{arith}
use lib.Dec.{T, eqb, lit<}
use lib.ListN.{length, get_or, set, length-set}
use lib.Seq.{get_or-set_same, get_or-set_other, lt-length-set}
use borrow.Author.Tests.{eqb-true, eqb-false}
use lib.Bits.{bit_and, bit_or, bit_xor}
use Rattle.sets.specs.Words.{bits}
use Rattle.sets.proofs.Members.{ext}
use Rattle.sets.proofs.Words.{bits_zero, bits_and, bits_or, bits_xor}
use Rattle.rules.specs.Events.{unknown, status_of}
use Rattle.rules.specs.MustCan.{Mark, plus, opened}
use Rattle.theorems.specs.Order.{Agree}
use Rattle.tables.specs.declared.Table.{Table}
use Rattle.words.specs.declared.events.Heard.{Heard}
use Rattle.words.specs.declared.events.Seen.{Seen}
use Rattle.words.specs.declared.events.Seen.TheVariants.{Present, Absent, Unknown}
use Rattle.words.specs.Words.{event_of, seen_as}
use Rattle.forms.specs.declared.form.Going.{Going}
use Rattle.forms.specs.declared.form.Going.TheVariants.{Started, Resumed, Held, Idle}
use Rattle.forms.specs.declared.form.Task.{Task}
use Rattle.forms.specs.declared.form.Form.TheVariants.{Same}
use Rattle.walk.specs.declared.memo.Entry.{Entry}
use denote.Enum.Bare.{sameb}
use Rattle.words.specs.contracts.events.Seen.{the_type as seen_type}
use Rattle.walk.specs.Memo.{WalkedOn, going_number, mark_number, tag_of, Remembers, entry_of, Sound, known_on}

abbrev going_from : ℕ → Going
going_from n = cond (eqb n 0) Started (cond (eqb n 1) Resumed (cond (eqb n 2) Held Idle))

abbrev mark_from : ℕ → Mark
mark_from n = cond (eqb n 1) plus opened

going_back : (g : Going) → going_from (going_number g) ≡ g
going_back Started = refl
going_back Resumed = refl
going_back Held = refl
going_back Idle = refl

mark_back : (m : Mark) → mark_from (mark_number m) ≡ m
mark_back plus = refl
mark_back opened = refl

going_few : (g : Going) → going_number g < 4
going_few Started = omega arith
going_few Resumed = omega arith
going_few Held = omega arith
going_few Idle = omega arith

mark_few : (m : Mark) → (0 < mark_number m) × (mark_number m < 3)
mark_few plus = (omega arith, omega arith)
mark_few opened = (omega arith, omega arith)

-- The tag of a task is no other's, and not 0.
tag_parts : (a b g h m n : ℕ) → g < 4 → h < 4 → 0 < m → m < 3 → 0 < n → n < 3 → 8 * a + 2 * g + m ≡ 8 * b + 2 * h + n → (a ≡ b) × (g ≡ h) × (m ≡ n)
tag_parts a b g h m n p q r s t u e = (omega arith, omega arith, omega arith)

pub tag_one : (c d : Task) (m n : Mark) → tag_of c m ≡ tag_of d n → (c ≡ d) × (m ≡ n)
unfolding tag_of
tag_one c d m n e =
    let p = tag_parts c.at d.at (going_number c.going) (going_number d.going) (mark_number m) (mark_number n) (going_few c.going) (going_few d.going)
    (mark_few m).0 (mark_few m).1 (mark_few n).0 (mark_few n).1 e in
    let g : c.going ≡ d.going = sym (going_back c.going) ∙ ap going_from p.1 ∙ going_back d.going in (
      λ i. record { at = p.0 i; going = g i },
      sym (mark_back m) ∙ ap mark_from p.2 ∙ mark_back n,
    )

tag_some : (c : Task) (m : Mark) → 0 ≡ tag_of c m → ⊥
unfolding tag_of
tag_some c m e = let b = (mark_few m).0 in omega (arith, b, e)

module _ {tab : Table} {live : List Bool} where
  pub no_entry : {x : Entry} → x.tag ≡ 0 → Remembers tab live x
  no_entry e = record { of_task = λ c m t. absurd (tag_some c m (sym e ∙ t)) }

  pub new_entry : {x : Entry} (c : Task) (m : Mark) → x.tag ≡ tag_of c m → WalkedOn m tab live (Same c) x.event x.found → Remembers tab live x
  new_entry {x} c m t w = record {
    of_task = λ d n u.
        let e = tag_one c d m n (sym t ∙ u) in
        subst (λ (y : Task). WalkedOn n tab live (Same y) x.event x.found) e.0 (subst (λ (y : Mark). WalkedOn y tab live (Same c) x.event x.found) e.1 w);
  }

-- Words that differ in no member of a set.
true_not : true ≡ false → ⊥
true_not e = subst T e tt

same_both : (a b : Bool) → xor a b ≡ false → a ≡ b
unfolding xor
same_both true true e = refl
same_both true false e = absurd (true_not e)
same_both false true e = absurd (true_not e)
same_both false false e = refl

neither : (x y f : Bool) → T f → ((x || y) && f) ≡ false → (x ≡ false) × (y ≡ false)
neither x y false t e = absurd t
neither true y true t e = absurd (true_not e)
neither false true true t e = absurd (true_not e)
neither false false true t e = (refl, refl)

pub words_agree : (a b : Heard) (on : ℕ) → bit_and (bit_or (bit_xor a.present b.present) (bit_xor a.absent b.absent)) on ≡ 0 → Agree (bits on) (event_of a) (event_of b)
unfolding event_of
words_agree a b on e = record {
  at = λ n t.
      let w = neither (xor (bits a.present n) (bits b.present n)) (xor (bits a.absent n) (bits b.absent n)) (bits on n) t
      (sym (bits_and (bit_or (bit_xor a.present b.present) (bit_xor a.absent b.absent)) on n
      ∙ ap (λ (y : Bool). y && bits on n) (bits_or (bit_xor a.present b.present) (bit_xor a.absent b.absent) n
      ∙ ap₂ ◌||◌ (bits_xor a.present b.present n) (bits_xor a.absent b.absent n)))
      ∙ ap (λ (y : ℕ). bits y n) e ∙ bits_zero n) in
      ap₂ status_of (same_both (bits a.present n) (bits b.present n) w.0) (same_both (bits a.absent n) (bits b.absent n) w.1);
}

-- Eight words written from a place on: the others are as they were, and each is read where it was written.
module _ (ws : List ℕ) (j : ℕ) (a0 a1 a2 a3 a4 a5 a6 a7 : ℕ) where
  abbrev w1 : List ℕ
  w1 = set ws j a0

  abbrev w2 : List ℕ
  w2 = set w1 (j + 1) a1

  abbrev w3 : List ℕ
  w3 = set w2 (j + 2) a2

  abbrev w4 : List ℕ
  w4 = set w3 (j + 3) a3

  abbrev w5 : List ℕ
  w5 = set w4 (j + 4) a4

  abbrev w6 : List ℕ
  w6 = set w5 (j + 5) a5

  abbrev w7 : List ℕ
  w7 = set w6 (j + 6) a6

  abbrev w8 : List ℕ
  w8 = set w7 (j + 7) a7

  others : (k : ℕ) → ((n : ℕ) → n < 8 → k ≡ j + n → ⊥) → get_or w8 k 0 ≡ get_or ws k 0
  others k o =
      get_or-set_other w7 (j + 7) k a7 0 (o 7 (lit< tt))
      ∙ get_or-set_other w6 (j + 6) k a6 0 (o 6 (lit< tt))
      ∙ get_or-set_other w5 (j + 5) k a5 0 (o 5 (lit< tt))
      ∙ get_or-set_other w4 (j + 4) k a4 0 (o 4 (lit< tt))
      ∙ get_or-set_other w3 (j + 3) k a3 0 (o 3 (lit< tt))
      ∙ get_or-set_other w2 (j + 2) k a2 0 (o 2 (lit< tt))
      ∙ get_or-set_other w1 (j + 1) k a1 0 (o 1 (lit< tt))
      ∙ get_or-set_other ws j k a0 0 (λ q. o 0 (lit< tt) (omega (arith, q)))

  word_0 : j + 7 < length ws → get_or w8 j 0 ≡ a0
  word_0 h =
      get_or-set_other w7 (j + 7) j a7 0 (λ q. omega (arith, q))
      ∙ get_or-set_other w6 (j + 6) j a6 0 (λ q. omega (arith, q))
      ∙ get_or-set_other w5 (j + 5) j a5 0 (λ q. omega (arith, q))
      ∙ get_or-set_other w4 (j + 4) j a4 0 (λ q. omega (arith, q))
      ∙ get_or-set_other w3 (j + 3) j a3 0 (λ q. omega (arith, q))
      ∙ get_or-set_other w2 (j + 2) j a2 0 (λ q. omega (arith, q))
      ∙ get_or-set_other w1 (j + 1) j a1 0 (λ q. omega (arith, q))
      ∙ get_or-set_same ws j a0 0 (omega (arith, h))

  word_1 : j + 7 < length ws → get_or w8 (j + 1) 0 ≡ a1
  word_1 h =
      get_or-set_other w7 (j + 7) (j + 1) a7 0 (λ q. omega (arith, q))
      ∙ get_or-set_other w6 (j + 6) (j + 1) a6 0 (λ q. omega (arith, q))
      ∙ get_or-set_other w5 (j + 5) (j + 1) a5 0 (λ q. omega (arith, q))
      ∙ get_or-set_other w4 (j + 4) (j + 1) a4 0 (λ q. omega (arith, q))
      ∙ get_or-set_other w3 (j + 3) (j + 1) a3 0 (λ q. omega (arith, q))
      ∙ get_or-set_other w2 (j + 2) (j + 1) a2 0 (λ q. omega (arith, q))
      ∙ get_or-set_same w1 (j + 1) a1 0 (lt-length-set ws j a0 (omega (arith, h)))

  word_2 : j + 7 < length ws → get_or w8 (j + 2) 0 ≡ a2
  word_2 h =
      get_or-set_other w7 (j + 7) (j + 2) a7 0 (λ q. omega (arith, q))
      ∙ get_or-set_other w6 (j + 6) (j + 2) a6 0 (λ q. omega (arith, q))
      ∙ get_or-set_other w5 (j + 5) (j + 2) a5 0 (λ q. omega (arith, q))
      ∙ get_or-set_other w4 (j + 4) (j + 2) a4 0 (λ q. omega (arith, q))
      ∙ get_or-set_other w3 (j + 3) (j + 2) a3 0 (λ q. omega (arith, q))
      ∙ get_or-set_same w2 (j + 2) a2 0 (lt-length-set w1 (j + 1) a1 (lt-length-set ws j a0 (omega (arith, h))))

  word_3 : j + 7 < length ws → get_or w8 (j + 3) 0 ≡ a3
  word_3 h =
      get_or-set_other w7 (j + 7) (j + 3) a7 0 (λ q. omega (arith, q))
      ∙ get_or-set_other w6 (j + 6) (j + 3) a6 0 (λ q. omega (arith, q))
      ∙ get_or-set_other w5 (j + 5) (j + 3) a5 0 (λ q. omega (arith, q))
      ∙ get_or-set_other w4 (j + 4) (j + 3) a4 0 (λ q. omega (arith, q))
      ∙ get_or-set_same w3 (j + 3) a3 0 (lt-length-set w2 (j + 2) a2 (lt-length-set w1 (j + 1) a1 (lt-length-set ws j a0 (omega (arith, h)))))

  word_4 : j + 7 < length ws → get_or w8 (j + 4) 0 ≡ a4
  word_4 h =
      get_or-set_other w7 (j + 7) (j + 4) a7 0 (λ q. omega (arith, q))
      ∙ get_or-set_other w6 (j + 6) (j + 4) a6 0 (λ q. omega (arith, q))
      ∙ get_or-set_other w5 (j + 5) (j + 4) a5 0 (λ q. omega (arith, q))
      ∙ get_or-set_same w4 (j + 4) a4 0 (lt-length-set w3 (j + 3) a3 (lt-length-set w2 (j + 2) a2 (lt-length-set w1 (j + 1) a1 (lt-length-set ws j a0 (omega (arith, h))))))

  word_5 : j + 7 < length ws → get_or w8 (j + 5) 0 ≡ a5
  word_5 h =
      get_or-set_other w7 (j + 7) (j + 5) a7 0 (λ q. omega (arith, q))
      ∙ get_or-set_other w6 (j + 6) (j + 5) a6 0 (λ q. omega (arith, q))
      ∙ get_or-set_same w5 (j + 5) a5 0 (lt-length-set w4 (j + 4) a4 (lt-length-set w3 (j + 3) a3 (lt-length-set w2 (j + 2) a2 (lt-length-set w1 (j + 1) a1 (lt-length-set ws j a0 (omega (arith, h)))))))

  word_6 : j + 7 < length ws → get_or w8 (j + 6) 0 ≡ a6
  word_6 h =
      get_or-set_other w7 (j + 7) (j + 6) a7 0 (λ q. omega (arith, q))
      ∙ get_or-set_same w6 (j + 6) a6 0 (lt-length-set w5 (j + 5) a5 (lt-length-set w4 (j + 4) a4
      (lt-length-set w3 (j + 3) a3 (lt-length-set w2 (j + 2) a2 (lt-length-set w1 (j + 1) a1 (lt-length-set ws j a0 (omega (arith, h))))))))

  word_7 : j + 7 < length ws → get_or w8 (j + 7) 0 ≡ a7
  word_7 h =
      get_or-set_same w7 (j + 7) a7 0 (lt-length-set w6 (j + 6) a6 (lt-length-set w5 (j + 5) a5 (lt-length-set w4 (j + 4) a4
      (lt-length-set w3 (j + 3) a3 (lt-length-set w2 (j + 2) a2 (lt-length-set w1 (j + 1) a1 (lt-length-set ws j a0 (omega (arith, h)))))))))

  length_8 : length w8 ≡ length ws
  length_8 =
      length-set w7 (j + 7) a7
      ∙ length-set w6 (j + 6) a6
      ∙ length-set w5 (j + 5) a5
      ∙ length-set w4 (j + 4) a4
      ∙ length-set w3 (j + 3) a3
      ∙ length-set w2 (j + 2) a2
      ∙ length-set w1 (j + 1) a1
      ∙ length-set ws j a0

mod_small : (c : ℕ) → c < 4294967296 → c % 4294967296 ≡ c
mod_small c h = omega (arith, h)

-- What an entry writes.
abbrev written : List ℕ → ℕ → Entry → List ℕ
written ws i x =
    w8 ws (8 * i) x.tag x.event.present x.event.absent x.found.reads x.found.said.must.signals x.found.said.can.signals
    x.found.said.must.codes x.found.said.can.codes

module _ (ws : List ℕ) (i : ℕ) (x : Entry) where
  entry_new : i < length ws / 8 → x.found.said.must.codes < 4294967296 → x.found.said.can.codes < 4294967296 → entry_of (written ws i x) i ≡ x
  unfolding entry_of
  entry_new l p q =
      let h : 8 * i + 7 < length ws = omega (arith, l) in
      let t = x.tag in
      let y = x.event in
      let r = x.found.reads in
      let m = x.found.said.must in
      let c = x.found.said.can in
      λ k. record {
        tag = word_0 ws (8 * i) t y.present y.absent r m.signals c.signals m.codes c.codes h k;
        event = record {
          present = word_1 ws (8 * i) t y.present y.absent r m.signals c.signals m.codes c.codes h k;
          absent = word_2 ws (8 * i) t y.present y.absent r m.signals c.signals m.codes c.codes h k;
        };
        found = record {
          said = record {
            must = record {
              signals = word_4 ws (8 * i) t y.present y.absent r m.signals c.signals m.codes c.codes h k;
              codes = (ap (λ (z : ℕ). z % 4294967296) (word_6 ws (8 * i) t y.present y.absent r m.signals c.signals m.codes c.codes h) ∙ mod_small m.codes p) k;
            };
            can = record {
              signals = word_5 ws (8 * i) t y.present y.absent r m.signals c.signals m.codes c.codes h k;
              codes = (ap (λ (z : ℕ). z % 4294967296) (word_7 ws (8 * i) t y.present y.absent r m.signals c.signals m.codes c.codes h) ∙ mod_small c.codes q) k;
            };
          };
          reads = word_3 ws (8 * i) t y.present y.absent r m.signals c.signals m.codes c.codes h k;
        };
      }

  elsewhere : (n : ℕ) → (n ≡ i → ⊥) → (m : ℕ) → m < 8 → get_or (written ws i x) (8 * n + m) 0 ≡ get_or ws (8 * n + m) 0
  elsewhere n d m l =
      others ws (8 * i) x.tag x.event.present x.event.absent x.found.reads x.found.said.must.signals x.found.said.can.signals
      x.found.said.must.codes x.found.said.can.codes (8 * n + m) (λ k b e. d (omega (arith, l, b, e)))

  entry_old : (n : ℕ) → (n ≡ i → ⊥) → entry_of (written ws i x) n ≡ entry_of ws n
  unfolding entry_of
  entry_old n d =
      let at_0 : get_or (written ws i x) (8 * n) 0 ≡ get_or ws (8 * n) 0 =
      others ws (8 * i) x.tag x.event.present x.event.absent x.found.reads x.found.said.must.signals x.found.said.can.signals
      x.found.said.must.codes x.found.said.can.codes (8 * n) (λ k b e. d (omega (arith, b, e))) in
      λ k. record {
        tag = at_0 k;
        event = record { present = elsewhere n d 1 (lit< tt) k; absent = elsewhere n d 2 (lit< tt) k };
        found = record {
          said = record {
            must = record { signals = elsewhere n d 4 (lit< tt) k; codes = elsewhere n d 6 (lit< tt) k % 4294967296 };
            can = record { signals = elsewhere n d 5 (lit< tt) k; codes = elsewhere n d 7 (lit< tt) k % 4294967296 };
          };
          reads = elsewhere n d 3 (lit< tt) k;
        };
      }

-- A true entry written keeps every entry true.
pub noted : {tab : Table} {live : List Bool} (ws : List ℕ) (i : ℕ) (x : Entry) → i < length ws / 8 → x.found.said.must.codes < 4294967296 → x.found.said.can.codes < 4294967296
    → Sound tab live ws → Remembers tab live x → Sound tab live (written ws i x)
noted {tab} {live} ws i x l p q s r = record { entry = λ n b. go n b (eqb n i) refl }
  where
    long : length (written ws i x) ≡ length ws
    long =
        length_8 ws (8 * i) x.tag x.event.present x.event.absent x.found.reads x.found.said.must.signals x.found.said.can.signals
        x.found.said.must.codes x.found.said.can.codes

    go : (n : ℕ) → n < length (written ws i x) / 8 → (z : Bool) → eqb n i ≡ z → Remembers tab live (entry_of (written ws i x) n)
    go n b true e = subst⁻¹ (λ (k : ℕ). Remembers tab live (entry_of (written ws i x) k)) (eqb-true n i e) (subst⁻¹ (Remembers tab live) (entry_new ws i x l p q) r)
    go n b false e =
        subst⁻¹ (Remembers tab live) (entry_old ws i x n (eqb-false n i e)) (s.entry n (subst (λ (k : ℕ). n < k / 8) long b))

-- As the code writes it, and reads it.
pub noted_as : {tab : Table} {live : List Bool} (ws : List ℕ) {mid end : List ℕ} (i : ℕ) (x : Entry) {y z : ℕ} → i < length ws / 8
    → mid ≡ set (set (set (set ws (8 * i) x.tag) (8 * i + 1) x.event.present) (8 * i + 2) x.event.absent) (8 * i + 3) x.found.reads
    → end ≡ set (set (set (set mid (8 * i + 4) x.found.said.must.signals) (8 * i + 5) x.found.said.can.signals) (8 * i + 6) y) (8 * i + 7) z
    → (y ≡ x.found.said.must.codes) × (y < 4294967296) → (z ≡ x.found.said.can.codes) × (z < 4294967296)
    → Sound tab live ws → Remembers tab live x → Sound tab live end
noted_as {tab} {live} ws i x l p q e f s r =
    subst⁻¹ (Sound tab live)
    (q ∙ (λ k. set (set (set (set (p k) (8 * i + 4) x.found.said.must.signals) (8 * i + 5) x.found.said.can.signals) (8 * i + 6) (e.0 k)) (8 * i + 7) (f.0 k)))
    (noted ws i x l (subst (λ (n : ℕ). n < 4294967296) e.0 e.1) (subst (λ (n : ℕ). n < 4294967296) f.0 f.1) s r)

pub entry_read : {tab : Table} {live : List Bool} (ws : List ℕ) (i : ℕ) → i < length ws / 8 → {t p a r m c y z : ℕ} → t ≡ get_or ws (8 * i) 0 → p ≡ get_or ws (8 * i + 1) 0
    → a ≡ get_or ws (8 * i + 2) 0 → r ≡ get_or ws (8 * i + 3) 0 → m ≡ get_or ws (8 * i + 4) 0 → c ≡ get_or ws (8 * i + 5) 0 → y ≡ get_or ws (8 * i + 6) 0 % 4294967296
    → z ≡ get_or ws (8 * i + 7) 0 % 4294967296 → Sound tab live ws
    → Remembers tab live (record {
      tag = t;
      event = record { present = p; absent = a };
      found = record { said = record { must = record { signals = m; codes = y }; can = record { signals = c; codes = z } }; reads = r };
    })
unfolding entry_of
entry_read {tab} {live} ws i l q0 q1 q2 q3 q4 q5 q6 q7 s =
    let same : _ ≡ entry_of ws i = λ k. record {
      tag = q0 k;
      event = record { present = q1 k; absent = q2 k };
      found = record { said = record { must = record { signals = q4 k; codes = q6 k }; can = record { signals = q5 k; codes = q7 k } }; reads = q3 k };
    } in
    subst⁻¹ (Remembers tab live) same (s.entry i l)

pub no_words : {tab : Table} {live : List Bool} (ws : List ℕ) → length ws < 8 → Sound tab live ws
no_words ws h = record { entry = λ i b. absurd (omega (arith, h, b)) }

pub tag_is : (c : Task) (m : Mark) {a g n : ℕ} → a ≡ c.at → g ≡ going_number c.going → n ≡ mark_number m → 8 * a + 2 * g + n ≡ tag_of c m
unfolding tag_of
tag_is c m p q r = λ i. 8 * p i + 2 * q i + r i

pub known_word : (e : Heard) (w : ℕ) → bits (bit_and w (bit_or e.present e.absent)) ≡ known_on e (bits w)
known_word e w = ext (λ n. bits_and w (bit_or e.present e.absent) n ∙ ap (λ (y : Bool). bits w n && y) (bits_or e.present e.absent n))

-- A status that is not unknown, by the test.
pub known_seen : (v : Seen) {b : Bool} → b ≡ not (sameb seen_type v Unknown) → b ≡ true → v ≡ Unknown → ⊥
known_seen Present e t q = let z : ◌≡◌ {A = ℕ} 0 1 = cc in omega arith
known_seen Absent e t q = let z : ◌≡◌ {A = ℕ} 0 1 = cc in omega arith
known_seen Unknown e t q = let z : ◌≡◌ {A = ℕ} 0 1 = ap (λ (x : Bool). cond x 0 1) (sym t ∙ e) in omega arith

pub still_open : (v : Seen) → seen_as v ≡ unknown → v ≡ Unknown
still_open Present e = absurd (let z : ◌≡◌ {A = ℕ} 0 1 = cc in omega arith)
still_open Absent e = absurd (let z : ◌≡◌ {A = ℕ} 0 1 = cc in omega arith)
still_open Unknown e = refl
