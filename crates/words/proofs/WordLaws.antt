-- Each rule over words is the rule over sets: a law for each way through the functions of words.rt, bit by bit. Assumes nothing.
use mathlib.Core.Path.{◌≡◌, refl, fun_ext, sym, ap, ap₂, ◌∙◌}
use mathlib.Core.Bool.{Bool, true, false, not, cond, ◌&&◌, ◌||◌, or-false}
use Prim.Native.Nat.{ℕ, ◌*◌, ◌%◌, ◌^◌, ◌<◌}
use lib.Dec.{eqb}
use lib.Bits.{bit_and, bit_or, bit_xor}
use Rattle.sets.specs.Numbers.{Numbers, empty, single, union, without, only_if, maxima, downs}
use Rattle.sets.specs.Words.{bits}
use Rattle.sets.proofs.Members.{ext}
use Rattle.sets.proofs.Words.{bits_zero, bits_or, bits_less, bits_mask_test, is_set, is_single, is_shift, is_same}
use Rattle.rules.specs.Events.{Status, present, absent, unknown, giving, status_of}
use Rattle.rules.specs.MustCan.{plus, opened, can, Given, nothing_known, either, caught, both, followed, marked, local_status, hidden}
use Rattle.words.specs.declared.events.Heard.{Heard}
use Rattle.words.specs.declared.given.GivenWords.{GivenWords}
use Rattle.words.specs.declared.given.MustCan.{MustCan}
use Rattle.words.specs.declared.events.Seen.{Seen}
use Rattle.words.specs.Words.{event_of, seen_as, given_of, quiet, loud}

pub given_eq : {a b : Given} → a.signals ≡ b.signals → a.codes ≡ b.codes → a ≡ b
given_eq p q = λ i. record { signals = p i; codes = q i }

-- One member.
pub bits_none : bits 0 ≡ empty
bits_none = ext bits_zero

pub shifted : (w : ℕ) {s : ℕ} → s < w → bits ((1 * 2 ^ s) % 2 ^ w) ≡ single s
shifted w h = is_set (is_shift w h)

pub power_of : (b s : ℕ) → bits b ≡ single s → b ≡ 2 ^ s
power_of b s e = is_same (record { bit = λ n. ap (λ (f : Numbers). f n) e }) (is_single s)

not_not : (b : Bool) → not (not b) ≡ b
not_not true = refl
not_not false = refl

pub test_bit : (w b s : ℕ) → bits b ≡ single s → not (eqb (bit_and w b) 0) ≡ bits w s
test_bit w b s e = ap (λ (x : ℕ). not (eqb (bit_and w x) 0)) (power_of b s e) ∙ ap not (bits_mask_test w s) ∙ not_not (bits w s)

-- Statuses.
module _ (e : Heard) (s : ℕ) where
  pub seen_present : bits e.present s ≡ true → present ≡ event_of e s
  unfolding event_of
  seen_present p = rw p

  pub seen_absent : bits e.present s ≡ false → bits e.absent s ≡ true → absent ≡ event_of e s
  unfolding event_of
  seen_absent p q = rw (p, q)

  pub seen_unknown : bits e.present s ≡ false → bits e.absent s ≡ false → unknown ≡ event_of e s
  unfolding event_of
  seen_unknown p q = rw (p, q)

pub with_bit : (x b s : ℕ) → bits b ≡ single s → (n : ℕ) → bits (bit_or x b) n ≡ (bits x n || eqb n s)
with_bit x b s e n = bits_or x b n ∙ ap (λ (f : Numbers). bits x n || f n) e

pub without_bit : (x b s : ℕ) → bits b ≡ single s → (n : ℕ) → bits (bit_and x (bit_xor x b)) n ≡ (bits x n && not (eqb n s))
without_bit x b s e n = bits_less x b n ∙ ap (λ (f : Numbers). bits x n && not (f n)) e

now_present : (x y z : Bool) → status_of (x || z) y ≡ cond z present (status_of x y)
now_present true y true = refl
now_present true y false = refl
now_present false y true = refl
now_present false y false = refl

now_absent : (x y z : Bool) → status_of (x && not z) (y || z) ≡ cond z absent (status_of x y)
now_absent true true true = refl
now_absent true false true = refl
now_absent true y false = refl
now_absent false true true = refl
now_absent false false true = refl
now_absent false true false = refl
now_absent false false false = refl

now_unknown : (x y z : Bool) → status_of (x && not z) (y && not z) ≡ cond z unknown (status_of x y)
now_unknown true true true = refl
now_unknown true false true = refl
now_unknown true y false = refl
now_unknown false true true = refl
now_unknown false false true = refl
now_unknown false true false = refl
now_unknown false false false = refl

module _ (e : Heard) (b s : ℕ) (one : bits b ≡ single s) where
  pub give_present : event_of (record { present = bit_or e.present b; absent = e.absent }) ≡ giving (event_of e) s present
  unfolding event_of
  give_present = fun_ext (λ n. ap (λ (x : Bool). status_of x (bits e.absent n)) (with_bit e.present b s one n) ∙ now_present (bits e.present n) (bits e.absent n) (eqb n s))

  pub give_absent : event_of (record { present = bit_and e.present (bit_xor e.present b); absent = bit_or e.absent b }) ≡ giving (event_of e) s absent
  unfolding event_of
  give_absent = fun_ext (λ n. ap₂ status_of (without_bit e.present b s one n) (with_bit e.absent b s one n) ∙ now_absent (bits e.present n) (bits e.absent n) (eqb n s))

  pub give_unknown : event_of (record { present = bit_and e.present (bit_xor e.present b); absent = bit_and e.absent (bit_xor e.absent b) }) ≡ giving (event_of e) s unknown
  unfolding event_of
  give_unknown = fun_ext (λ n. ap₂ status_of (without_bit e.present b s one n) (without_bit e.absent b s one n) ∙ now_unknown (bits e.present n) (bits e.absent n) (eqb n s))

-- What is given at once.
pub quiet_is : (b c : ℕ) → bits b ≡ single c → given_of (record { signals = 0; codes = b }) ≡ quiet c
unfolding given_of
quiet_is b c e = given_eq bits_none e

pub loud_is : (b s : ℕ) → bits b ≡ single s → given_of (record { signals = b; codes = 1 }) ≡ loud s
unfolding given_of
loud_is b s e = given_eq e (is_set (is_single 0))

pub nothing_is : given_of (record { signals = 0; codes = 0 }) ≡ nothing_known
unfolding given_of
nothing_is = given_eq bits_none bits_none

pub union_is : (x y : ℕ) → bits (bit_or x y) ≡ union (bits x) (bits y)
union_is x y = ext (bits_or x y)

pub either_is : (a b : GivenWords) → given_of (record { signals = bit_or a.signals b.signals; codes = bit_or a.codes b.codes }) ≡ either (given_of a) (given_of b)
unfolding given_of
either_is a b = given_eq (union_is a.signals b.signals) (union_is a.codes b.codes)

pub caught_is : (a : GivenWords) (w : ℕ) → bits w ≡ downs (bits a.codes) → given_of (record { signals = a.signals; codes = w }) ≡ caught (given_of a)
unfolding given_of
caught_is a w e = given_eq refl e

pub both_is : (a b : GivenWords) (w : ℕ) → bits w ≡ maxima (bits a.codes) (bits b.codes)
    → given_of (record { signals = bit_or a.signals b.signals; codes = w }) ≡ both (given_of a) (given_of b)
unfolding given_of
both_is a b w e = given_eq (union_is a.signals b.signals) e

-- A sequence.
or_empty : (f : Numbers) → f ≡ union f (only_if false empty)
or_empty f = ext (λ n. sym (or-false (f n)))

rest_is : (a : ℕ) → bits (bit_and a (bit_xor a 1)) ≡ without 0 (bits a)
rest_is a = ext (λ n. without_bit a 1 0 (is_set (is_single 0)) n)

pub goes_on : (a b : ℕ) → bits a 0 ≡ true → bits (bit_or (bit_and a (bit_xor a 1)) b) ≡ union (without 0 (bits a)) (only_if (bits a 0) (bits b))
goes_on a b e = union_is (bit_and a (bit_xor a 1)) b ∙ ap₂ (λ (x : Numbers) (z : Bool). union x (only_if z (bits b))) (rest_is a) (sym e)

module _ (a b : GivenWords) (w : ℕ) (codes : bits w ≡ union (without 0 (bits a.codes)) (only_if (bits a.codes 0) (bits b.codes))) where
  pub followed_on : bits a.codes 0 ≡ true → given_of (record { signals = bit_or a.signals b.signals; codes = w }) ≡ followed (given_of a) (given_of b)
  unfolding given_of
  followed_on e = given_eq (union_is a.signals b.signals ∙ ap (λ (z : Bool). union (bits a.signals) (only_if z (bits b.signals))) (sym e)) codes

  pub followed_not : bits a.codes 0 ≡ false → given_of (record { signals = a.signals; codes = w }) ≡ followed (given_of a) (given_of b)
  unfolding given_of
  followed_not e = given_eq (or_empty (bits a.signals) ∙ ap (λ (z : Bool). union (bits a.signals) (only_if z (bits b.signals))) (sym e)) codes

-- A local.
pub hidden_is : (a : GivenWords) (b s : ℕ) → bits b ≡ single s → given_of (record { signals = bit_and a.signals (bit_xor a.signals b); codes = a.codes }) ≡ hidden s (given_of a)
unfolding given_of
hidden_is a b s one = given_eq (ext (without_bit a.signals b s one)) refl

module _ (a : MustCan) (s : ℕ) {sure may : Bool} (u : sure ≡ bits a.must.signals s) (v : may ≡ bits a.can.signals s) where
  pub settled_plus : marked sure may unknown ≡ local_status (can plus) s (given_of a.must) (given_of a.can)
  unfolding given_of
  settled_plus = ap₂ (λ (x y : Bool). marked x y unknown) u v

  pub settled_open : marked false may unknown ≡ local_status (can opened) s (given_of a.must) (given_of a.can)
  unfolding given_of
  settled_open = ap (λ (y : Bool). marked false y unknown) v

-- A status that a match has told.
pub told_as : {v w : Seen} {P : Type 0} {y : Status} → v ≡ w → (P → seen_as v ≡ y) → P → seen_as w ≡ y
told_as e f h = sym (ap seen_as e) ∙ f h
