-- Pairs and the states that they stand for: a pair settles its states, and the states their pair. Assumes nothing.
use mathlib.Core.Path.{◌≡◌, refl, sym, ap, ◌∙◌}
use mathlib.Core.List.{List}
use Prim.Native.Nat.{ℕ, ◌<◌}
use native.Mathlib.Omega.{arith}
use native.Mathlib.Decide.{dec_lt}
use lib.ListN.{get_or, length}
use Rattle.std.proofs.lemmas.List.{ext_get_or}
use Rattle.sets.specs.Numbers.{Numbers}
use Rattle.sets.specs.Words.{word, set_of}
use Rattle.rules.specs.States.{phase_of}
use Rattle.records.specs.StateRecord.{upper}
use Rattle.records.proofs.TwoWords.{words_low, words_high}
use Rattle.evaluate.specs.Reacts.{state_of}
use Rattle.records.specs.declared.state.Phase.{Phase}
use Rattle.records.specs.declared.state.Phase.TheVariants.{Fresh, Running, Finished}
use Rattle.pairs.specs.Blocks.{States}
use Rattle.pairs.specs.Rows.{Words, Holds}
use Rattle.pairs.specs.declared.rows.Pair.{Pair}

-- Two pairs of states with one pair are the same.
pub same_states : {x y : States} {p : Pair} → Holds x p → Holds y p → x ≡ y
same_states h k = λ i. record { of_first = (h.first_is ∙ sym k.first_is) i; of_second = (h.second_is ∙ sym k.second_is) i }

-- A set has one array.
words_same : {a b : List ℕ} → Words a → Words b → set_of a ≡ set_of b → a ≡ b
words_same {a} {b} h k e = ext_get_or 0 a b (h.two ∙ sym k.two) (λ i l. at i l (dec_lt i 1))
  where
    low : get_or a 0 0 ≡ get_or b 0 0
    low = sym (words_low (get_or a 0 0) (get_or a 1 0) h.low_fits h.high_fits) ∙ ap (word 64) e ∙ words_low (get_or b 0 0) (get_or b 1 0) k.low_fits k.high_fits

    high : get_or a 1 0 ≡ get_or b 1 0
    high = sym (words_high (get_or a 0 0) (get_or a 1 0) h.low_fits h.high_fits) ∙ ap (λ (A : Numbers). word 64 (upper A)) e ∙ words_high (get_or b 0 0) (get_or b 1 0) k.low_fits k.high_fits

    at : (i : ℕ) → i < length a → Dec (i < 1) → get_or a i 0 ≡ get_or b i 0
    at i l (yes n) = let z : i ≡ 0 = omega arith in rw z low
    at i l (no n) = let z : i ≡ 1 = omega (arith, l, h.two) in rw z high

-- A state has one phase.
one_phase : (p q : Phase) (A B : Numbers) → phase_of (state_of p A) ≡ phase_of (state_of q B) → p ≡ q
unfolding phase_of
one_phase Fresh Fresh A B e = refl
one_phase Fresh Running A B e = absurd (omega arith)
one_phase Fresh Finished A B e = absurd (omega arith)
one_phase Running Fresh A B e = absurd (omega arith)
one_phase Running Running A B e = refl
one_phase Running Finished A B e = absurd (omega arith)
one_phase Finished Fresh A B e = absurd (omega arith)
one_phase Finished Running A B e = absurd (omega arith)
one_phase Finished Finished A B e = refl

-- States have one pair.
pub same_pair : {x : States} {p q : Pair} → Holds x p → Holds x q → p ≡ q
same_pair {x} {p} {q} h k = λ i. record {
  phase = one_phase p.phase q.phase (set_of p.first) (set_of q.first) (ap phase_of (sym h.first_is ∙ k.first_is)) i;
  first = words_same h.first_words k.first_words (sym h.first_active ∙ k.first_active) i;
  second = words_same h.second_words k.second_words (sym h.second_active ∙ k.second_active) i;
}
