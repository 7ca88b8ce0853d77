-- The state record: its fields, the refusals 9, 17 and 10, and the input sets' 11. Assumes nothing.
use Rattle.std.specs.Prelude.{Bool, not, cond, ◌&&◌, ◌||◌, List, [], ◌∷◌, ℕ, ◌+◌, ◌/◌, ◌^◌, eqb, ltb, leb, length}
use Rattle.std.proofs.Math.Option.{Option, none, some}
use Rattle.sets.specs.Numbers.{Numbers, some_to, lowest}
use Rattle.sets.specs.Words.{bits, word, two_words}
use Rattle.rules.specs.Statements.{Stmt}
use Rattle.rules.specs.States.{State, fresh, running, finished, phase_of, active_of, compatible}
use Rattle.records.specs.Fields.{size, laid, value}

-- The members from 64 on, as the second word holds them.
abbrev pub upper : Numbers → Numbers
upper A n = A (64 + n)

-- The fields and how many bytes each has: length, kind, the block's version and its statement count, phase, then two 64-bit words.
abbrev pub state_widths : List ℕ
state_widths = 2 ∷ 2 ∷ 2 ∷ 2 ∷ 2 ∷ 8 ∷ 8 ∷ []

abbrev pub state_size : ℕ
state_size = size state_widths

-- Their values: the kind is 2, and bit n of the 128 is for pause n.
abbrev pub state_values : ℕ → ℕ → ℕ → ℕ → ℕ → List ℕ
state_values version statements phase low high = state_size ∷ 2 ∷ version ∷ statements ∷ phase ∷ low ∷ high ∷ []

-- The record of a state of a block with this version and so many statements.
unfoldable pub state_record : ℕ → ℕ → State → List ℕ
unfolding laid word phase_of active_of
state_record version statements st =
    laid state_widths (state_values version statements (phase_of st) (word 64 (active_of st)) (word 64 (upper (active_of st))))

-- The values in some bytes.
abbrev pub length_in : List ℕ → ℕ
length_in bs = value state_widths 0 bs

abbrev pub kind_in : List ℕ → ℕ
kind_in bs = value state_widths 1 bs

abbrev pub version_in : List ℕ → ℕ
version_in bs = value state_widths 2 bs

abbrev pub statements_in : List ℕ → ℕ
statements_in bs = value state_widths 3 bs

abbrev pub phase_in : List ℕ → ℕ
phase_in bs = value state_widths 4 bs

abbrev pub low_in : List ℕ → ℕ
low_in bs = value state_widths 5 bs

abbrev pub high_in : List ℕ → ℕ
high_in bs = value state_widths 6 bs

-- A record that holds a state, or none: STATE.
pub data Found : Type 0 where
  not_a_state : Found
  state : State → Found

-- The active set in a record.
abbrev pub active_in : List ℕ → Numbers
active_in bs = two_words 64 (low_in bs) (high_in bs)

abbrev pub none_active : List ℕ → Bool
none_active bs = eqb (low_in bs) 0 && eqb (high_in bs) 0

-- A bit at or above the pause count.
unfoldable pub beyond : ℕ → Numbers → Bool
beyond pauses A = some_to (λ n. A n && leb pauses n) 127

-- What the phase asks of the bits: none while fresh or finished; while running at least one, and each a pause of the block.
unfoldable pub in_phase : ℕ → ℕ → List ℕ → Found
in_phase phase pauses bs =
    cond (eqb phase 0 && none_active bs) (state fresh)
    (cond (eqb phase 1 && not (none_active bs) && not (beyond pauses (active_in bs))) (state (running (active_in bs)))
    (cond (eqb phase 2 && none_active bs) (state finished)
    not_a_state))

-- The state that a record holds for a block of so many pauses: bytes of its size, that length, kind 2, a phase with bits that fit it.
unfoldable pub read_state : ℕ → List ℕ → Found
read_state pauses bs =
    cond (eqb (length bs) state_size && eqb (length_in bs) state_size && eqb (kind_in bs) 2) (in_phase (phase_in bs) pauses bs) not_a_state

-- The record names a block of this version and so many statements; one that does not is OTHER BLOCK's.
unfoldable pub names_block : ℕ → ℕ → List ℕ → Bool
names_block version statements bs = eqb (length bs) state_size && eqb (version_in bs) version && eqb (statements_in bs) statements

-- Two active pauses are not compatible; the first is the lower.
unfoldable pub clashes : Stmt → Numbers → ℕ → ℕ → Bool
clashes p A m n = A m && A n && ltb m n && not (compatible p m n)

-- The first bad pair: the lowest first pause, then the lowest second.
pub record Pair : Type 0 where
  pub first : ℕ
  pub second : ℕ

abbrev pub paired : ℕ → Option ℕ → Option Pair
paired m none = none
paired m (some n) = some (record { first = m; second = n })

abbrev pub with_second : Stmt → Numbers → Option ℕ → Option Pair
with_second p A none = none
with_second p A (some m) = paired m (lowest 128 (clashes p A m))

unfoldable pub first_clash : Stmt → Numbers → Option Pair
unfolding clashes
first_clash p A = with_second p A (lowest 128 (λ m. some_to (clashes p A m) 127))

-- INPUT: a bit set at or above the number of inputs.
unfoldable pub undeclared_input : ℕ → ℕ → Bool
undeclared_input inputs given = not (eqb (given / 2 ^ inputs) 0)

-- A signal in both sets.
unfoldable pub in_both : ℕ → ℕ → Bool
in_both present absent = some_to (λ n. bits present n && bits absent n) 63

-- INPUT, of the inputs heard present and the inputs heard absent: a bad bit in either set, or a signal in both.
unfoldable pub bad_inputs : ℕ → ℕ → ℕ → Bool
bad_inputs inputs present absent = undeclared_input inputs present || (undeclared_input inputs absent || in_both present absent)
