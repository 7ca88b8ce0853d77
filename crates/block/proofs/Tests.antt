-- The tests for a record at fault: the numbers that they give, and the code's refusal for each. Assumes nothing.
use mathlib.Core.Path.{◌≡◌, refl, sym, ap, ◌∙◌}
use mathlib.Core.Bool.{Bool, true, false, not, cond, ◌&&◌, ◌||◌}
use mathlib.Core.List.{List}
use Prim.Native.Nat.{ℕ, zero, suc, ◌+◌, ◌≤◌, ◌<◌}
use lib.Dec.{ltb, leb, eqb}
use lib.ListN.{length}
use mathlib.Core.Logic.{◌⊎◌, inl, inr}
use borrow.Author.Tests.{le-leb, lt-leb, eq-eqb, ne_eqb}
use Rattle.block.specs.Format.{Header, Around, Sofar, two_bytes, is_broken, declared_here, over_limit, wrong_signal, wrong_exit, kind_at, length_at, operand_at, fault_as, statement_fault}
use Rattle.tables.specs.Kinds.{length_of}
use Rattle.std.specs.Prelude.{Ok, Err}
use Rattle.refusals.specs.Refusals.{number, why_of}
use Rattle.refusals.specs.declared.Why.{Why}
use Rattle.refusals.specs.declared.Refused.{Refused}
use Rattle.refusals.proofs.Laws.{why_back, number_above}
use Rattle.block.specs.Told.{tested}
use Rattle.block.specs.Format.{header, header_fault_in}

-- The code's refusal by name is that of the number.
pub at_fault : (w : Why) {n at : ℕ} {e : Refused} → n ≡ number w → e ≡ record { why = w; place = at } → Err e ≡ tested n at
unfolding tested
at_fault w {n = zero} f r = absurd (number_above w (sym f))
at_fault w {n = suc n} {at = at} f r = ap Err (r ∙ (λ i. record { why = (sym (why_back w) ∙ ap why_of (sym f)) i; place = at }))

pub no_fault_at : (at : ℕ) {n : ℕ} → n ≡ 0 → Ok tt ≡ tested n at
unfolding tested
no_fault_at at f = sym (ap (λ (n : ℕ). tested n at) f)

pub or_false : (x : Bool) → (x || false) ≡ x
or_false true = refl
or_false false = refl

-- A wrong signal, by the record's kind.
module _ (h : Header) (a : Around) (r : Sofar) (k s : ℕ) where
  pub signal_emit : k ≡ 18 → wrong_signal h a r k s ≡ not (leb h.inputs s && declared_here h a s)
  unfolding wrong_signal
  signal_emit e = simp (e, or_false)

  pub signal_test : (k ≡ 19) ⊎ (k ≡ 20) → wrong_signal h a r k s ≡ not (declared_here h a s)
  unfolding wrong_signal
  signal_test (inl e) = simp (e, or_false)
  signal_test (inr e) = simp (e, or_false)

  pub signal_local : k ≡ 26 → wrong_signal h a r k s ≡ not (ltb r.locals h.locals && eqb s (h.inputs + h.outputs + r.locals))
  unfolding wrong_signal
  signal_local e = simp e

  pub signal_none : (k ≡ 18 → ⊥) → (k ≡ 19 → ⊥) → (k ≡ 20 → ⊥) → (k ≡ 26 → ⊥) → wrong_signal h a r k s ≡ false
  unfolding wrong_signal
  signal_none x y z w = simp (ne_eqb k 18 x, ne_eqb k 19 y, ne_eqb k 20 z, ne_eqb k 26 w)

pub exit_depth : (a : Around) (k d : ℕ) → k ≡ 25 → wrong_exit a k d ≡ leb a.traps d
unfolding wrong_exit
exit_depth a k d e = simp e

pub exit_none : (a : Around) (k d : ℕ) → (k ≡ 25 → ⊥) → wrong_exit a k d ≡ false
unfolding wrong_exit
exit_none a k d n = simp (ne_eqb k 25 n)

-- A record's number as one of kind k, by the first test that fails. Its length and operand are l and x.
module _ (room : ℕ) (b : List ℕ) (h : Header) (a : Around) (r : Sofar) (k : ℕ) where
  abbrev fault : ℕ
  fault = fault_as room b h a r k

  pub as_broken : is_broken b r.place ≡ true → fault ≡ 1
  unfolding fault_as
  as_broken e = simp e

  module _ (whole : is_broken b r.place ≡ false) (l : ℕ) (el : l ≡ length_at b r.place) where
    pub as_kind : (length_of k ≡ l → ⊥) → fault ≡ 2
    unfolding fault_as
    as_kind n = simp (whole, ← el, ne_eqb (length_of k) l n)

    module _ (right : length_of k ≡ l) where
      pub as_limit : over_limit room a r k ≡ true → fault ≡ 4
      unfolding fault_as
      as_limit e = simp (whole, ← el, eq-eqb (length_of k) l right, e)

      module _ (within : over_limit room a r k ≡ false) (x : ℕ) (ex : x ≡ operand_at b r.place) where
        pub as_signal : wrong_signal h a r k x ≡ true → fault ≡ 5
        unfolding fault_as
        as_signal e = simp (whole, ← el, ← ex, eq-eqb (length_of k) l right, within, e)

        pub as_last : wrong_signal h a r k x ≡ false → (z : Bool) → z ≡ wrong_exit a k x → fault ≡ cond z 6 0
        unfolding fault_as
        as_last n z e = simp (whole, ← el, ← ex, eq-eqb (length_of k) l right, within, n, ← e)

-- A statement's record: none left, or as one of its own kind.
pub fault_shape : (room : ℕ) (b : List ℕ) (h : Header) (a : Around) (r : Sofar) → length b ≤ r.place → statement_fault room b h a r ≡ 7
unfolding statement_fault
fault_shape room b h a r g = simp (le-leb (length b) r.place g)

pub fault_due : (room : ℕ) (b : List ℕ) (h : Header) (a : Around) (r : Sofar) → r.place < length b → (k : ℕ) → k ≡ kind_at b r.place
    → statement_fault room b h a r ≡ fault_as room b h a r k
unfolding statement_fault
fault_due room b h a r due k e =
    ap (λ (z : Bool). cond z 7 (fault_as room b h a r (kind_at b r.place))) (lt-leb (length b) r.place due) ∙ ap (fault_as room b h a r) (sym e)

-- The header's number where edition v is due and only the count of the signals is left to test.
pub header_signals : (v : ℕ) (b : List ℕ) → is_broken b 0 ≡ false → kind_at b 0 ≡ 1 → length_at b 0 ≡ 14 → two_bytes b 4 ≡ v → (t : Bool)
    → t ≡ ltb 64 (two_bytes b 8 + two_bytes b 10 + two_bytes b 12) → header_fault_in v b ≡ cond t 4 0
unfolding header_fault_in header
header_signals v b whole kind long edition t e =
    simp (whole, eq-eqb (kind_at b 0) 1 kind, eq-eqb (length_at b 0) 14 long, eq-eqb (two_bytes b 4) v edition, ← e)
