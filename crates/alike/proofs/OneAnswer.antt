-- No two different answers, or lent bytes afterwards, meet the contract of `alike`. Assumes nothing.
use mathlib.Core.Path.{◌≡◌, refl, sym, ap, ◌∙◌, subst}
use mathlib.Core.Bool.{Bool, true, false, cond, ◌&&◌}
use mathlib.Core.List.{List, ◌++◌}
use Prim.Native.Nat.{ℕ, ◌^◌, ◌≤◌}
use native.Mathlib.Omega.{arith}
use lib.Dec.{eqb, ltb}
use lib.ListN.{length, drop}
use lib.Pow.{pow_mono}
use borrow.Author.Tests.{ltb-false}
use Rattle.sets.proofs.Members.{of_false}
use Rattle.block.specs.Format.{Good, Reading, good, turned_down, reading}
use Rattle.reaction.specs.Instants.{block_of}
use Rattle.pairs.specs.Runs.{Run, size, bytes_of, Comparison}
use Rattle.pairs.specs.Blocks.{comparison}
use Rattle.alike.specs.Ends.{most}
use Rattle.alike.specs.Calls.{Front, first_stopped, second_stopped, stopped, ready, try_both, try_second, try_first, front, Compared, Owed}
use Rattle.std.specs.Prelude.{Option, None, Some, Result, Ok, Err}
use Rattle.alike.specs.declared.NotCompared.{NotCompared}
use Rattle.alike.proofs.Order.{one_first}

-- which front it is, and its first block
abbrev front_case : Front → ℕ
front_case (first_stopped n at) = 0
front_case (second_stopped n at) = 1
front_case (stopped n) = 2
front_case (ready g h) = 3

abbrev first_of : Good → Front → Good
first_of k (first_stopped n at) = k
first_of k (second_stopped n at) = k
first_of k (stopped n) = k
first_of k (ready g h) = g

-- Blocks that are compared have at most 6 inputs.
module _ (g h : Good) where
  both_few : (k l : Good) (p q r : Bool) → ltb 6 k.header.inputs ≡ q
      → cond p (cond q (stopped 24) (cond r (stopped 12) (ready k l))) (stopped 23) ≡ ready g h → g.header.inputs ≤ 6
  both_few k l true true r e d = let z : ◌≡◌ {A = ℕ} 2 3 = ap front_case d in absurd (omega arith)
  both_few k l true false true e d = let z : ◌≡◌ {A = ℕ} 2 3 = ap front_case d in absurd (omega arith)
  both_few k l true false false e d =
      let f : k ≡ g = ap (first_of k) d in
      subst (λ (x : Good). x.header.inputs ≤ 6) f (ltb-false 6 k.header.inputs e)
  both_few k l false q r e d = let z : ◌≡◌ {A = ℕ} 2 3 = ap front_case d in absurd (omega arith)

  ready_few : (x y : Reading) (n : ℕ) → try_first x y n ≡ ready g h → g.header.inputs ≤ 6
  unfolding try_first try_second try_both
  ready_few (turned_down a at) y n d = let z : ◌≡◌ {A = ℕ} 0 3 = ap front_case d in absurd (omega arith)
  ready_few (good k) (turned_down a at) n d = let z : ◌≡◌ {A = ℕ} 1 3 = ap front_case d in absurd (omega arith)
  ready_few (good k) (good l) n d =
      both_few k l (eqb k.header.inputs l.header.inputs && eqb k.header.outputs l.header.outputs) (ltb 6 k.header.inputs) (ltb n most) refl d

-- Two blocks compared have one answer.
module _ (m : Comparison) (few : m.sets ≤ 256) (run x y : List ℕ) where
  one_compared : (a b : Result (Option ℕ) NotCompared) → Compared m a run x → Compared m b run y → (a ≡ b) × (x ≡ y)
  unfolding Compared
  one_compared (Ok None) (Ok None) c d = (refl, c.2 ∙ sym d.2)
  one_compared (Ok None) (Ok (Some n)) c d = absurd (of_false (c.0.none_shows d.0 d.1.is_input) d.1.is_shown)
  one_compared (Ok None) (Err e) c d = absurd (c.1 d.1)
  one_compared (Ok (Some n)) (Ok None) c d = absurd (of_false (d.0.none_shows c.0 c.1.is_input) c.1.is_shown)
  one_compared (Ok (Some n)) (Ok (Some k)) c d =
      let e : c.0 ≡ d.0 = one_first m few c.0 d.0 c.1 d.1 in (
        ap (λ (i : ℕ). Ok (Some i)) (c.3 ∙ ap size e ∙ sym d.3),
        c.4 ∙ ap (λ (w : Run). bytes_of w ++ drop (size w) run) e ∙ sym d.4,
      )
  one_compared (Ok (Some n)) (Err e) c d = absurd (c.2 d.1)
  one_compared (Err e) (Ok None) c d = absurd (d.1 c.1)
  one_compared (Err e) (Ok (Some n)) c d = absurd (d.2 c.1)
  one_compared (Err e) (Err f) c d = (ap Err (c.0 ∙ sym d.0), c.2 ∙ sym d.2)

one_owed : (f : Front) → ((g h : Good) → f ≡ ready g h → g.header.inputs ≤ 6) → (a b : Result (Option ℕ) NotCompared) (run x y : List ℕ) → Owed f a run x → Owed f b run y → (a ≡ b) × (x ≡ y)
unfolding Owed
one_owed (first_stopped n at) few a b run x y c d = (c.0 ∙ sym d.0, c.1 ∙ sym d.1)
one_owed (second_stopped n at) few a b run x y c d = (c.0 ∙ sym d.0, c.1 ∙ sym d.1)
one_owed (stopped n) few a b run x y c d = (c.0 ∙ sym d.0, c.1 ∙ sym d.1)
one_owed (ready g h) few a b run x y c d =
    let l : g.header.inputs ≤ 6 = few g h refl in
    let e : 2 ^ g.header.inputs ≤ 2 ^ 6 = pow_mono l in
    one_compared (comparison (block_of g) (block_of h)) (omega (arith, e)) run x y a b c d

-- The contract settles the answer and every lent byte.
pub one_likeness : (first second run : List ℕ) (a b : Result (Option ℕ) NotCompared) (x y : List ℕ)
    → Owed (front first second run) a run x → Owed (front first second run) b run y → (a ≡ b) × (x ≡ y)
one_likeness first second run a b x y c d =
    one_owed (front first second run) (λ g h. ready_few g h (reading first) (reading second) (length run)) a b run x y c d
