-- Records written behind others, put in between them, and changed: what the lent bytes then hold. Assumes nothing.
use mathlib.Core.Path.{◌≡◌, refl, sym, ap, ap₂, ◌∙◌, subst}
use mathlib.Core.List.{List, [], ◌∷◌, ◌++◌, append-nil}
use Prim.Native.Nat.{ℕ, zero, suc, ◌+◌, ◌-◌, ◌/◌, ◌%◌, ◌≤◌, ◌<◌}
use native.Mathlib.Omega.{arith}
use mathlib.Core.Bool.{Bool, true, false, not}
use lib.Dec.{T, leb, leb→le, nleb→lt}
use lib.ListN.{length, get_or, set, take, drop, length-set, length-append, length-take, length-drop, drop_of_length-le, get_or-append}
use lib.Seq.{sets, length-sets, sets-eq, drop-set-add, take-set-lt, set_out, take_at, take_all, length-take-le, get_or-take, get_or-drop, get_or-append-add, get_or-set_same, get_or-set_other, ext_get_or}
use Rattle.std.specs.List.{CopiedTo, SameBelow}
use Rattle.tables.specs.Kinds.{length_of}
use Rattle.records.specs.Numerals.{in_bytes}
use Rattle.writing.specs.Written.{record_bytes}
use Rattle.text.specs.Machine.{inserted, operand_set}
use Rattle.read_steps.specs.Records.{Sized, Short, Written, Grown, Shifted}

-- What was stored one after the other, and what lies below it.
pub stored_below : (l vs : List ℕ) (k j : ℕ) → j < k → get_or (sets l k vs) j 0 ≡ get_or l j 0
stored_below l [] k j h = refl
stored_below l (a ∷ vs) k j h = stored_below (set l k a) vs (suc k) j (omega (arith, h)) ∙ get_or-set_other l k j a 0 (λ e. omega (arith, e, h))

pub stored_at : (l vs : List ℕ) (k j : ℕ) → k + length vs ≤ length l → j < length vs → get_or (sets l k vs) (k + j) 0 ≡ get_or vs j 0
stored_at l [] k j h m = absurd (omega (arith, m))
stored_at l (a ∷ vs) k zero h m =
    let e : k + 0 ≡ k = omega arith in
    ap (λ (i : ℕ). get_or (sets (set l k a) (suc k) vs) i 0) e ∙ stored_below (set l k a) vs (suc k) k (omega arith) ∙ get_or-set_same l k a 0 (omega (arith, h))
stored_at l (a ∷ vs) k (suc j) h m =
    let e : k + suc j ≡ suc k + j = omega arith in
    ap (λ (i : ℕ). get_or (sets (set l k a) (suc k) vs) i 0) e ∙ stored_at (set l k a) vs (suc k) j (omega (arith, h, length-set l k a)) (omega (arith, m))

drop_sets : (n i : ℕ) (l vs : List ℕ) → drop n (sets l (n + i) vs) ≡ sets (drop n l) i vs
drop_sets n i l [] = refl
drop_sets n i l (a ∷ vs) =
    let e : suc (n + i) ≡ n + suc i = omega arith in
    ap (λ (k : ℕ). drop n (sets (set l (n + i) a) k vs)) e ∙ drop_sets n (suc i) (set l (n + i) a) vs ∙ ap (λ (m : List ℕ). sets m (suc i) vs) (drop-set-add n l i a)

take_sets : (l vs : List ℕ) (s : ℕ) → s + length vs ≤ length l → take (s + length vs) (sets l s vs) ≡ take s l ++ vs
take_sets l vs s h =
    let e : length (take s l ++ vs) ≡ s + length vs = length-append (take s l) vs ∙ ap (λ (n : ℕ). n + length vs) (length-take-le s l (omega (arith, h))) in
    ap (take (s + length vs)) (sets-eq vs l s h) ∙ take_at (take s l ++ vs) (drop (s + length vs) l) (s + length vs) e

stored_above : (l vs : List ℕ) (k j : ℕ) → k + length vs ≤ j → get_or (sets l k vs) j 0 ≡ get_or l j 0
stored_above l [] k j h = refl
stored_above l (a ∷ vs) k j h = stored_above (set l k a) vs (suc k) j (omega (arith, h)) ∙ get_or-set_other l k j a 0 (λ e. omega (arith, e, h))

-- Where the records are too many already, no fewer follow.
pub still_over : {out : List ℕ} {size : ℕ} {b b' : List ℕ} → Written out size b → 3072 < size → length b ≤ length b' → Grown out size size b'
still_over w l m =
    record {
      written = record {
        roomy = w.roomy;
        counted = λ h. absurd (omega (arith, h, l));
        held = λ h. absurd (omega (arith, h, l));
        over = λ h. omega
            (arith, w.over l, m);
      };
      no_less = omega arith;
    }

-- A record at the end.
module _ {out : List ℕ} {size : ℕ} {b : List ℕ} (w : Written out size b) (fits : size ≤ 3072) where
  pub appended : {k : ℕ} (x : ℕ) {out' : List ℕ} {r : ℕ} → Sized k → out' ≡ sets out (14 + size) (record_bytes k x) → r ≡ size + length_of k → Grown out' size r (b ++ record_bytes k x)
  appended {k} x {out'} {r} z e f =
      let n = z.its_bytes x in
      let m = length-append b (record_bytes k x) in
      let room : length out' ≡ 3092 = ap length e ∙ length-sets out (14 + size) (record_bytes k x) ∙ w.roomy in
      let there : size + length (record_bytes k x) ≤ length (drop 14 out) = omega (arith, n, z.few_bytes, length-drop 14 out, w.roomy, fits) in
      let end : r ≡ size + length (record_bytes k x) = f ∙ ap (λ (i : ℕ). size + i) (sym n) in
      let bytes : take r (drop 14 out') ≡ b ++ record_bytes k x =
      ap₂ (λ (i : ℕ) (l : List ℕ). take i (drop 14 l)) end e ∙ ap (take (size + length (record_bytes k x))) (drop_sets 14 size out (record_bytes k x))
      ∙ take_sets (drop 14 out) (record_bytes k x) size there ∙ ap (λ (l : List ℕ). l ++ record_bytes k x) (w.held fits) in
      record {
        written = record { roomy = room; counted = λ h. omega (arith, m, w.counted fits, end); held = λ h. bytes; over = λ h. omega (arith, m, w.counted fits, end, h) };
        no_less = omega (arith, f);
      }

  -- A record behind the last byte is one at the end.
  pub inserted_last : {k : ℕ} (a : ℕ) {out' : List ℕ} {r : ℕ} → Short k → size ≤ a → out' ≡ sets out (14 + size) (record_bytes k 0) → r ≡ size + 4 → Grown out' size r (inserted k a b)
  inserted_last {k} a {out'} {r} s l e f =
      let n : length b ≤ a = omega (arith, w.counted fits, l) in
      let all : inserted k a b ≡ b ++ record_bytes k 0 =
      ap₂ (λ (x y : List ℕ). x ++ (record_bytes k 0 ++ y)) (take_all a b n) (drop_of_length-le b n) ∙ ap (λ (x : List ℕ). b ++ x) (append-nil (record_bytes k 0)) in
      subst (Grown out' size r) (sym all) (appended 0 s.sized e (f ∙ ap (λ (i : ℕ). size + i) (sym s.four_bytes)))

-- A record before some bytes, which were moved up.
module _ {out : List ℕ} {size : ℕ} {b : List ℕ} (w : Written out size b) (fits : size ≤ 3072) {k at : ℕ} (s : Short k) (l : at < size)
    {mid : List ℕ} (h : Shifted out (14 + at) (14 + size) mid) {out' : List ℕ} (e : out' ≡ sets mid (14 + at) (record_bytes k 0)) where
  four : length (record_bytes k 0) ≡ 4
  four = s.sized.its_bytes 0 ∙ s.four_bytes

  byte : (j : ℕ) → j < size → get_or b j 0 ≡ get_or out (14 + j) 0
  byte j m = ap (λ (x : List ℕ). get_or x j 0) (sym (w.held fits)) ∙ get_or-take size (drop 14 out) j 0 m ∙ get_or-drop 14 out j 0

  left : (j : ℕ) → j < size + 4 → get_or (take (size + 4) (drop 14 out')) j 0 ≡ get_or (sets mid (14 + at) (record_bytes k 0)) (14 + j) 0
  left j m = get_or-take (size + 4) (drop 14 out') j 0 m ∙ get_or-drop 14 out' j 0 ∙ ap (λ (x : List ℕ). get_or x (14 + j) 0) e

  front : length (take at b) ≡ at
  front = length-take-le at b (omega (arith, w.counted fits, l))

  low : (j : ℕ) → j < at → get_or (sets mid (14 + at) (record_bytes k 0)) (14 + j) 0 ≡ get_or (inserted k at b) j 0
  low j m =
      stored_below mid (record_bytes k 0) (14 + at) (14 + j) (omega (arith, m)) ∙ h.low (14 + j) (omega (arith, m)) ∙ sym (byte j (omega (arith, m, l)))
      ∙ sym (get_or-append (take at b) (record_bytes k 0 ++ drop at b) 0 j (omega (arith, front, m)) ∙ get_or-take at b j 0 m)

  middle : (i : ℕ) → i < 4 → get_or (sets mid (14 + at) (record_bytes k 0)) (14 + (at + i)) 0 ≡ get_or (inserted k at b) (at + i) 0
  middle i m =
      let n : 14 + (at + i) ≡ 14 + at + i = omega arith in
      let p : at + i ≡ length (take at b) + i = ap (λ (x : ℕ). x + i) (sym front) in
      ap (λ (x : ℕ). get_or (sets mid (14 + at) (record_bytes k 0)) x 0) n
      ∙ stored_at mid (record_bytes k 0) (14 + at) i (omega (arith, four, h.same_size, w.roomy, fits, l)) (omega (arith, four, m))
      ∙ sym (ap (λ (x : ℕ). get_or (inserted k at b) x 0) p ∙ get_or-append-add (take at b) (record_bytes k 0 ++ drop at b) i 0 ∙ get_or-append (record_bytes k 0) (drop at b) 0 i (omega
      (arith, four, m)))

  high : (i : ℕ) → at + i < size → get_or (sets mid (14 + at) (record_bytes k 0)) (14 + (at + (4 + i))) 0 ≡ get_or (inserted k at b) (at + (4 + i)) 0
  high i m =
      let n : 14 + (at + (4 + i)) ≡ 14 + (at + i) + 4 = omega arith in
      let p : at + (4 + i) ≡ length (take at b) + (4 + i) = ap (λ (x : ℕ). x + (4 + i)) (sym front) in
      let q : 4 + i ≡ length (record_bytes k 0) + i = ap (λ (x : ℕ). x + i) (sym four) in
      stored_above mid (record_bytes k 0) (14 + at) (14 + (at + (4 + i))) (omega (arith, four))
      ∙ ap (λ (x : ℕ). get_or mid x 0) n ∙ h.moved_up (14 + (at + i)) (omega arith) (omega (arith, m)) ∙ sym (byte (at + i) m)
      ∙ sym (ap (λ (x : ℕ). get_or (inserted k at b) x 0) p ∙ get_or-append-add (take at b) (record_bytes k 0 ++ drop at b) (4 + i) 0
      ∙ ap (λ (x : ℕ). get_or (record_bytes k 0 ++ drop at b) x 0) q ∙ get_or-append-add (record_bytes k 0) (drop at b) i 0 ∙ get_or-drop at b i 0)

  long : length (inserted k at b) ≡ size + 4
  long = omega (arith, length-append (take at b) (record_bytes k 0 ++ drop at b), front, length-append (record_bytes k 0) (drop at b), four, length-drop at b, w.counted fits, l)

  room : length out' ≡ 3092
  room = ap length e ∙ length-sets mid (14 + at) (record_bytes k 0) ∙ h.same_size ∙ w.roomy

  taken : length (take (size + 4) (drop 14 out')) ≡ size + 4
  taken = length-take-le (size + 4) (drop 14 out') (omega (arith, length-drop 14 out', room, fits))

  each : (j : ℕ) → j < size + 4 → get_or (sets mid (14 + at) (record_bytes k 0)) (14 + j) 0 ≡ get_or (inserted k at b) j 0
  each j m = split (leb (suc j) at) refl
    where
      split : (z : Bool) → leb (suc j) at ≡ z → get_or (sets mid (14 + at) (record_bytes k 0)) (14 + j) 0 ≡ get_or (inserted k at b) j 0
      split true t = low j (leb→le (suc j) at (subst T (sym t) tt))
      split false t = rest (nleb→lt (suc j) at (subst (λ (z : Bool). T (not z)) (sym t) tt)) (leb (j - at) 3) refl
        where
          rest : at < suc j → (z : Bool) → leb (j - at) 3 ≡ z → get_or (sets mid (14 + at) (record_bytes k 0)) (14 + j) 0 ≡ get_or (inserted k at b) j 0
          rest g true t =
              let o = leb→le (j - at) 3 (subst T (sym t) tt) in
              let q : at + (j - at) ≡ j = omega (arith, g) in
              subst (λ (x : ℕ). get_or (sets mid (14 + at) (record_bytes k 0)) (14 + x) 0 ≡ get_or (inserted k at b) x 0) q (middle (j - at) (omega (arith, o)))
          rest g false t =
              let o = nleb→lt (j - at) 3 (subst (λ (z : Bool). T (not z)) (sym t) tt) in
              let q : at + (4 + (j - at - 4)) ≡ j = omega (arith, g, o) in
              subst (λ (x : ℕ). get_or (sets mid (14 + at) (record_bytes k 0)) (14 + x) 0 ≡ get_or (inserted k at b) x 0) q (high (j - at - 4) (omega (arith, g, o, m)))

  bytes : take (size + 4) (drop 14 out') ≡ inserted k at b
  bytes = ext_get_or 0 (take (size + 4) (drop 14 out')) (inserted k at b) (taken ∙ sym long) (λ j m. let n : j < size + 4 = omega (arith, m, taken) in left j n ∙ each j n)

  between : Grown out' size (size + 4) (inserted k at b)
  between = record { written = record { roomy = room; counted = λ h. long; held = λ h. bytes; over = λ h. omega (arith, long, h) }; no_less = omega arith }

pub inserted_between : {out : List ℕ} {size : ℕ} {b : List ℕ} → Written out size b → size ≤ 3072 → {k at a : ℕ} → Short k → at < size → at ≡ a → (n m : ℕ) → n ≡ at → m ≡ size → {mid : List ℕ}
    → Shifted out (14 + n) (14 + m) mid → {out' : List ℕ} → out' ≡ sets mid (14 + n) (record_bytes k 0) → Grown out' size (size + 4) (inserted k a b)
inserted_between {out} {size} {b} w fits {k} {at} {a} s l q n m p r {mid} h {out'} e =
    subst (λ (i : ℕ). Grown out' size (size + 4) (inserted k i b)) q
    (between w fits s l (subst (λ (i : ℕ). Shifted out (14 + i) (14 + size) mid) p (subst (λ (i : ℕ). Shifted out (14 + n) (14 + i) mid) r h))
    (e ∙ ap (λ (i : ℕ). sets mid (14 + i) (record_bytes k 0)) p))

-- What the library copies within the bytes lies four places further up.
pub shifted : {l m : List ℕ} {from to : ℕ} → from ≤ to → length m ≡ length l → CopiedTo l m from (from + 4) (to - from) → SameBelow l m (from + 4) → Shifted l from to m
shifted {l} {m} {from} {to} h e c b = record {
  same_size = e;
  low = λ j n. b j 0 n;
  moved_up = λ j n o. c (j + 4) 0 (omega (arith, n)) (omega (arith, n, o, h)) ∙ ap (λ (k : ℕ). get_or l k 0) (let i : from + (j + 4 - (from + 4)) ≡ j = omega (arith, n) in i);
}

-- One byte changed, and an operand of two.
module _ {out : List ℕ} {size : ℕ} {b : List ℕ} (w : Written out size b) (at v : ℕ) where
  pub byte_over : 3072 < size → Written out size (set b at v)
  byte_over l = let n : length b ≤ length (set b at v) = omega (arith, length-set b at v) in (still_over w l n).written

  pub byte_past : size ≤ 3072 → size ≤ at → Written out size (set b at v)
  byte_past l m = subst (Written out size) (sym (set_out b at v (omega (arith, w.counted l, m)))) w

  pub byte_set : size ≤ 3072 → at < size → Written (set out (14 + at) v) size (set b at v)
  byte_set l m = record {
    roomy = length-set out (14 + at) v ∙ w.roomy;
    counted = λ h. length-set b at v ∙ w.counted l;
    held = λ h. ap (take size) (drop-set-add 14 out at v) ∙ take-set-lt size (drop 14 out) at v m ∙ ap (λ (x : List ℕ). set x at v) (w.held l);
    over = λ h. omega (arith, h, l);
  }

pub operand_bytes_set : {out : List ℕ} {size : ℕ} (b : List ℕ) (at a x n m : ℕ) → (size ≤ 3072 → at ≡ a) → n ≡ at → m ≡ at
    → Written out size (set (set b (n + 4) (x % 256)) (m + 5) (x / 256 % 256)) → Written out size (operand_set x a b)
unfolding operand_set in_bytes
operand_bytes_set {out} {size} b at a x n m e p q v =
    let w = subst (λ (i : ℕ). Written out size (set (set b (i + 4) (x % 256)) (at + 5) (x / 256 % 256))) p (subst (λ (i : ℕ). Written out size (set (set b (n + 4) (x % 256)) (i + 5)
    (x / 256 % 256))) q v) in
    let f : at + 5 ≡ suc (at + 4) = omega arith in
    let same : length (set (set b (at + 4) (x % 256)) (at + 5) (x / 256 % 256)) ≡ length (set (set b (a + 4) (x % 256)) (suc (a + 4)) (x / 256 % 256)) = simp length-set in
    record {
      roomy = w.roomy;
      counted = λ h. sym same ∙ w.counted h;
      held = λ h. w.held h ∙ ap (λ (i : ℕ). set (set b (at + 4) (x % 256)) i (x / 256 % 256)) f ∙ ap (λ (i : ℕ). set (set b (i + 4) (x % 256)) (suc (i + 4)) (x / 256 % 256)) (e h);
      over = λ h. omega (arith, same, w.over h);
    }

pub inserted_longer : (k a : ℕ) (b : List ℕ) → length b ≤ length (inserted k a b)
inserted_longer k a b =
    omega (arith, length-append (take a b) (record_bytes k 0 ++ drop a b), length-append (record_bytes k 0) (drop a b), length-take a b, length-drop a b)
