-- Each form of a step keeps inclusion: the laws of sets, once for signals and once for codes. Assumes nothing.
use mathlib.Core.Path.{◌≡◌}
use mathlib.Core.Bool.{Bool}
use Prim.Native.Nat.{ℕ}
use lib.Dec.{T}
use Rattle.sets.specs.Numbers.{Numbers, only_if, Within}
use Rattle.sets.proofs.Members.{within_refl, within_trans, within_antisym, within_empty, within_left, within_right, union_mono, without_mono, only_if_in}
use Rattle.sets.proofs.Members.{only_if_test, only_if_member, maxima_mono, downs_mono}
use Rattle.rules.specs.MustCan.{Given, nothing_known, either, caught, both, followed, hidden}
use Rattle.theorems.specs.Order.{Inside}

pub inside_refl : {a : Given} → Inside a a
inside_refl = record { of_signals = within_refl; of_codes = within_refl }

pub inside_trans : {a b c : Given} → Inside a b → Inside b c → Inside a c
inside_trans f g = record { of_signals = within_trans f.of_signals g.of_signals; of_codes = within_trans f.of_codes g.of_codes }

pub inside_antisym : {a b : Given} → Inside a b → Inside b a → a ≡ b
inside_antisym f g = λ i. record {
  signals = within_antisym f.of_signals g.of_signals i;
  codes = within_antisym f.of_codes g.of_codes i;
}

pub inside_nothing : {a : Given} → Inside nothing_known a
inside_nothing = record { of_signals = within_empty; of_codes = within_empty }

pub either_left : (a b : Given) → Inside a (either a b)
either_left a b = record { of_signals = within_left a.signals b.signals; of_codes = within_left a.codes b.codes }

pub either_right : (a b : Given) → Inside b (either a b)
either_right a b = record { of_signals = within_right a.signals b.signals; of_codes = within_right a.codes b.codes }

pub either_inside : {a b c d : Given} → Inside a b → Inside c d → Inside (either a c) (either b d)
either_inside f g = record { of_signals = union_mono f.of_signals g.of_signals; of_codes = union_mono f.of_codes g.of_codes }

pub caught_inside : {a b : Given} → Inside a b → Inside (caught a) (caught b)
caught_inside f = record { of_signals = f.of_signals; of_codes = downs_mono f.of_codes }

pub hidden_inside : (s : ℕ) {a b : Given} → Inside a b → Inside (hidden s a) (hidden s b)
hidden_inside s f = record { of_signals = without_mono s f.of_signals; of_codes = f.of_codes }

pub both_inside : {a b c d : Given} → Inside a b → Inside c d → Inside (both a c) (both b d)
both_inside f g = record { of_signals = union_mono f.of_signals g.of_signals; of_codes = maxima_mono f.of_codes g.of_codes }

-- The second part is looked at only where 0 is in the first's codes.
guarded : (x y : Bool) {a b : Numbers} → (T x → T y) → (T x → Within a b) → Within (only_if x a) (only_if y b)
guarded x y {a} {b} h f = record {
  at = λ n t. only_if_in y b n (h (only_if_test x a n t)) ((f (only_if_test x a n t)).at n (only_if_member x a n t));
}

pub followed_inside : {a b c d : Given} → Inside a b → (T (a.codes 0) → Inside c d) → Inside (followed a c) (followed b d)
followed_inside {a} {b} f g = record {
  of_signals = union_mono f.of_signals (guarded (a.codes 0) (b.codes 0) (f.of_codes.at 0) (λ t. (g t).of_signals));
  of_codes = union_mono (without_mono 0 f.of_codes) (guarded (a.codes 0) (b.codes 0) (f.of_codes.at 0) (λ t. (g t).of_codes));
}
