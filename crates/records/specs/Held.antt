-- How the words that the code passes stand for the states and sets of the rules. Assumes nothing.
use Rattle.std.specs.Prelude.{Option, Some, None, List, [], ◌∷◌, ℕ, get_or}
use Rattle.sets.specs.Numbers.{Numbers}
use Rattle.sets.specs.Words.{word}
use Rattle.rules.specs.States.{State, fresh, running, finished, active_of}
use Rattle.records.specs.Fields.{laid}
use Rattle.records.specs.StateRecord.{Found, not_a_state, state, upper, state_widths, state_values, low_in, high_in}
use Rattle.records.specs.declared.state.Held.{Held}
use Rattle.records.specs.declared.state.Phase.{Phase}
use Rattle.records.specs.declared.state.Phase.TheVariants.{Fresh, Running, Finished}

-- The two words of a set.
abbrev pub words_of : Numbers → List ℕ
words_of A = word 64 A ∷ word 64 (upper A) ∷ []

-- The two words in a state record.
abbrev pub words_in : List ℕ → List ℕ
words_in bs = low_in bs ∷ high_in bs ∷ []

-- The phase of a state, as the code holds it.
unfoldable pub phase_held : State → Phase
phase_held fresh = Fresh
phase_held (running A) = Running
phase_held finished = Finished

-- Phase 0 fresh, 1 running, 2 finished.
unfoldable pub phase_number : Phase → ℕ
phase_number Fresh = 0
phase_number Running = 1
phase_number Finished = 2

-- A state as the code holds it: its phase and the two words.
abbrev pub state_held : State → Held
state_held st = record { phase = phase_held st; active = words_of (active_of st) }

-- What is found in a state record, as the code holds it.
unfoldable pub held_of : Found → Option Held
held_of not_a_state = None
held_of (state st) = Some (state_held st)

-- The bytes of a state record, from the block's version and statement count, the phase's number and the two words.
unfoldable pub state_bytes : ℕ → ℕ → ℕ → List ℕ → List ℕ
unfolding laid
state_bytes version statements phase ws = laid state_widths (state_values version statements phase (get_or ws 0 0) (get_or ws 1 0))
