-- The answers, for callers: which state a held one stands for, and that no contract lets two differing answers pass. Assumes nothing.
use mathlib.Core.Path.{◌≡◌, refl, sym, ap, ap₂, ◌∙◌, subst}
use mathlib.Core.Bool.{Bool}
use mathlib.Core.List.{List}
use mathlib.Core.Option.{Option, none, some}
use Prim.Native.Nat.{ℕ, ◌<◌}
use native.Mathlib.Omega.{arith}
use lib.Dec.{T}
use lib.ListN.{length, replicate, length-replicate}
use Rattle.sets.specs.Numbers.{Numbers, empty}
use Rattle.sets.specs.Words.{word, two_words, set_of}
use Rattle.rules.specs.Statements.{Stmt}
use Rattle.rules.specs.States.{State, fresh, running, finished, phase_of, active_of}
use Rattle.records.specs.Numerals.{Bytes}
use Rattle.records.specs.StateRecord.{Found, not_a_state, state, upper, read_state, Pair, first_clash}
use Rattle.records.specs.LogRecord.{no_room}
use Rattle.records.specs.Held.{phase_held, phase_number, state_held, held_of}
use Rattle.records.specs.Clashing.{pair_of, Searchable}
use Rattle.records.specs.declared.state.Held.{Held}
use Rattle.records.specs.declared.state.Phase.TheVariants.{Fresh, Running, Finished}
use Rattle.std.specs.Prelude.{Option as Perhaps, Some, None}
use Rattle.std.proofs.lemmas.Option.{none-some, same_Some}
use Rattle.records.proofs.TwoWords.{set_of_words}
use Rattle.records.proofs.LegalStates.{found_below, found_in_block}

other : {X : Type 0} (m n : ℕ) → (m < n) → m ≡ n → X
other m n h e = absurd (omega arith)

-- None is no state; what is held is a state as the code holds it, and its phase tells which.
pub held_none : (f : Found) → held_of f ≡ None → f ≡ not_a_state
unfolding held_of
held_none not_a_state e = refl
held_none (state st) e = absurd (none-some (state_held st) (sym e))

pub held_some : (f : Found) (h : Held) → held_of f ≡ Some h → (st : State) × (f ≡ state st) × (h ≡ state_held st)
unfolding held_of
held_some not_a_state h e = absurd (none-some h e)
held_some (state st) h e = (st, refl, same_Some h (state_held st) (sym e))

pub held_fresh : (st : State) → phase_held st ≡ Fresh → st ≡ fresh
unfolding phase_held phase_number
held_fresh fresh e = refl
held_fresh (running A) e = other 0 1 (omega arith) (sym (ap phase_number e))
held_fresh finished e = other 0 2 (omega arith) (sym (ap phase_number e))

pub held_running : (st : State) → phase_held st ≡ Running → (A : Numbers) × (st ≡ running A)
unfolding phase_held phase_number
held_running fresh e = other 0 1 (omega arith) (ap phase_number e)
held_running (running A) e = (A, refl)
held_running finished e = other 1 2 (omega arith) (sym (ap phase_number e))

pub held_finished : (st : State) → phase_held st ≡ Finished → st ≡ finished
unfolding phase_held phase_number
held_finished fresh e = other 0 2 (omega arith) (ap phase_number e)
held_finished (running A) e = other 1 2 (omega arith) (ap phase_number e)
held_finished finished e = refl

-- The number of a state's phase is the definition's.
pub number_held : (st : State) → phase_number (phase_held st) ≡ phase_of st
unfolding phase_held phase_number phase_of
number_held fresh = refl
number_held (running A) = refl
number_held finished = refl

-- The words of a state found in bytes have its active set, and no pause at or above the count.
none_active : two_words 64 (word 64 empty) (word 64 (upper empty)) ≡ empty
none_active = set_of_words empty (λ n t. absurd t)

module _ (n : ℕ) (bs : List ℕ) (b : Bytes bs) where
  pub held_set : (st : State) → read_state n bs ≡ state st → set_of (state_held st).active ≡ active_of st
  unfolding active_of
  held_set fresh e = none_active
  held_set (running A) e = set_of_words A (found_below n bs b A e)
  held_set finished e = none_active

  pub held_in_block : (st : State) → read_state n bs ≡ state st → (k : ℕ) → T (set_of (state_held st).active k) → k < n
  unfolding active_of
  held_in_block st e k t = go st e (subst (λ (A : Numbers). T (A k)) (held_set st e) t)
    where
      go : (s : State) → read_state n bs ≡ state s → T (active_of s k) → k < n
      go fresh q u = absurd u
      go (running A) q u = found_in_block n bs b A q k u
      go finished q u = absurd u

-- No two differing answers.
abbrev first_in : Option Pair → ℕ
first_in none = 0
first_in (some p) = p.first

abbrev second_in : Option Pair → ℕ
second_in none = 0
second_in (some p) = p.second

pub pair_of_one : (a b : Perhaps (ℕ × ℕ)) → pair_of a ≡ pair_of b → a ≡ b
unfolding pair_of
pair_of_one None None e = refl
pair_of_one None (Some p) e = let z : ◌≡◌ {A = ℕ} 0 1 = cc in absurd (omega arith)
pair_of_one (Some p) None e = let z : ◌≡◌ {A = ℕ} 0 1 = cc in absurd (omega arith)
pair_of_one (Some p) (Some q) e = ap₂ (λ (m n : ℕ). Some (m, n)) (ap first_in e) (ap second_in e)

pub clash_one : (kinds sizes : List ℕ) (count : ℕ) (active : List ℕ) (r s : Perhaps (ℕ × ℕ)) → (t : Stmt) × Searchable kinds sizes count active t
    → ((t : Stmt) → Searchable kinds sizes count active t → pair_of r ≡ first_clash t (set_of active))
    → ((t : Stmt) → Searchable kinds sizes count active t → pair_of s ≡ first_clash t (set_of active)) → r ≡ s
clash_one kinds sizes count active r s w f g = pair_of_one r s (f w.0 w.1 ∙ sym (g w.0 w.1))

pub no_room_one : (len end : ℕ) (r s : Bool) → ((log : List ℕ) → length log ≡ len → r ≡ no_room log end)
    → ((log : List ℕ) → length log ≡ len → s ≡ no_room log end) → r ≡ s
no_room_one len end r s f g = f (replicate len 0) (length-replicate len 0) ∙ sym (g (replicate len 0) (length-replicate len 0))
