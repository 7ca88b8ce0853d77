-- Demand 1: every block, state record, input set and log gets an answer and the call ends; a bad one gets the first refusal in the written
-- order; a refused instant changes no byte of state or log. Here are the tests, each on its own and in document 01's words, the order in which
-- they are written, and what is promised besides. Assumes nothing.
use Rattle.std.specs.Prelude.{◌≡◌, ◌⊎◌, ◌≢◌, true, false, cond, List, [], ◌∷◌, ◌++◌, ℕ, ◌+◌, ◌≤◌, ◌<◌, T, eqb, length, get_or, take, drop}
use contract.Lifetimes.{Lfts}
use borrow.Fn.Kinds.{ParamKind, In, Dens}
use Rattle.sets.specs.Numbers.{Numbers}
use Rattle.sets.specs.Words.{bits, word}
use Rattle.rules.specs.Statements.{Block, nothing}
use Rattle.rules.specs.Events.{Status, present, Hearing, event}
use Rattle.rules.specs.MustCan.{must, gives}
use Rattle.rules.specs.States.{State, active_of, compatible, step}
use Rattle.rules.specs.Rounds.{begin, Rounds, Answer, answered, not_constructive, outputs_with, react}
use Rattle.rules.specs.Reasons.{Asked, refused, is_present, not_executed}
use Rattle.theorems.specs.Why.{WasNotExecuted}
use Rattle.block.specs.Format.{BROKEN, KIND, EDITION, LIMIT, SIGNAL, EXIT, SHAPE, LOOP, Good, Reading, good, turned_down, reading}
use Rattle.records.specs.StateRecord.{length_in, kind_in, version_in, statements_in, phase_in, state, active_in, none_active, read_state}
use Rattle.records.specs.LogRecord.{log_record}
use Rattle.reaction.specs.Fronts.{STATE, OTHER_BLOCK, INPUT}
use Rattle.reaction.specs.Instants.{CLASH, ROOM, NOT_CONSTRUCTIVE, block_of, Told, heard_in, heard_of}
use Rattle.reaction.specs.declared.Given.{Given}
use Rattle.reaction.specs.declared.Given.TheVariants.{All, Two}
use Rattle.foldheron.specs.Answers.{Logging, answer_in}
use Rattle.foldheron.specs.Reasons.{QUESTION}
use Rattle.reaction.specs.Answers.{instant_told}
use Rattle.promises.specs.Tests.{Test}
use Rattle.promises.specs.FirstRecord.{Decides}

abbrev pub INDEX : ℕ
INDEX = 14

-- 1 to 8: the block is turned down with this number, at some place (`FirstRecord` has the tests of each record and their order).
pub record TurnedDown (b : List ℕ) (n : ℕ) : Type 0 where
  pub place : ℕ
  pub decided : Decides b n place

-- 9 STATE, for a block with so many pauses: not 26 bytes, wrong length, kind or phase, a bit at or above the pause count, bits set while fresh or
-- finished, none while running.
pub data WrongState (pauses : ℕ) (s : List ℕ) : Type 0 where
  not_26_bytes : length s ≢ 26 → WrongState pauses s
  wrong_length : length_in s ≢ 26 → WrongState pauses s
  wrong_kind : kind_in s ≢ 2 → WrongState pauses s
  wrong_phase : 3 ≤ phase_in s → WrongState pauses s
  bit_beyond : (n : ℕ) → n < 128 → T (active_in s n) → pauses ≤ n → WrongState pauses s
  bits_while_fresh : phase_in s ≡ 0 → none_active s ≡ false → WrongState pauses s
  none_while_running : phase_in s ≡ 1 → none_active s ≡ true → WrongState pauses s
  bits_while_finished : phase_in s ≡ 2 → none_active s ≡ false → WrongState pauses s

pub record NoState (b s : List ℕ) : Type 0 where
  pub block : Good
  pub is_good : reading b ≡ good block
  pub wrong : WrongState block.pauses s

-- 17 OTHER BLOCK: the record has another version than the block, or another statement count.
pub record OtherBlock (b s : List ℕ) : Type 0 where
  pub block : Good
  pub is_good : reading b ≡ good block
  pub other : (version_in s ≢ block.header.version) ⊎ (statements_in s ≢ block.statements)

-- 10 CLASH: two active pauses, of the 128, are not compatible.
pub record Incompatible (g : Good) (A : Numbers) (m n : ℕ) : Type 0 where
  pub first_active : T (A m)
  pub second_active : T (A n)
  pub lower : m < n
  pub of_the_128 : n < 128
  pub not_compatible : T (compatible g.body m n) → ⊥

-- The first such pair: the lowest first pause, then the lowest second.
pub record FirstPair (g : Good) (A : Numbers) (m n : ℕ) : Type 0 where
  pub is_pair : Incompatible g A m n
  pub lowest_first : (i j : ℕ) → Incompatible g A i j → m ≤ i
  pub then_lowest_second : (j : ℕ) → Incompatible g A m j → n ≤ j

-- A good block's record has 26 bytes that hold this state.
pub record HeldBy (b s : List ℕ) (g : Good) (st : State) : Type 0 where
  pub is_good : reading b ≡ good g
  pub is_found : read_state g.pauses s ≡ state st

pub record Clashing (b s : List ℕ) : Type 0 where
  pub block : Good
  pub is_good : reading b ≡ good block
  pub first : ℕ
  pub second : ℕ
  pub clash : Incompatible block (active_in s) first second

-- 11 INPUT: a bit set at or above the number of inputs; of two sets, in either of them, or a signal in both.
pub record BadBit (inputs w : ℕ) : Type 0 where
  pub signal : ℕ
  pub is_set : T (bits w signal)
  pub at_or_above : inputs ≤ signal

pub record InBoth (p a : ℕ) : Type 0 where
  pub signal : ℕ
  pub of_the_64 : signal < 64
  pub is_present : T (bits p signal)
  pub is_absent : T (bits a signal)

abbrev pub WrongInputs : ℕ → Given → Type 0
WrongInputs inputs (All w) = BadBit inputs w
WrongInputs inputs (Two p a) = BadBit inputs p ⊎ (BadBit inputs a ⊎ InBoth p a)

pub record BadInputs (b : List ℕ) (w : Given) : Type 0 where
  pub block : Good
  pub is_good : reading b ≡ good block
  pub wrong : WrongInputs block.header.inputs w

-- 12 ROOM: end beyond the log, or fewer than 32 bytes after it.
abbrev pub NoRoom : List ℕ → ℕ → Type 0
NoRoom log end = (length log < end) ⊎ (length log < end + 32)

-- 13 NOT CONSTRUCTIVE: the final round leaves the code unknown.
pub record Unsettled (b s : List ℕ) (w : Given) : Type 0 where
  pub block : Good
  pub from : State
  pub held : HeldBy b s block from
  pub rounds : ℕ
  pub final : List Status
  pub final_round : Rounds (block_of block) (step block.body from) (heard_of block w) (begin (block_of block)) rounds final
  pub no_code : (c : ℕ) → T ((gives must (step block.body from) (event (block_of block) (heard_of block w) final)).codes c) → ⊥

-- 14 INDEX: a statement number at or above the count.
pub record NoStatement (b : List ℕ) (n : ℕ) : Type 0 where
  pub block : Good
  pub is_good : reading b ≡ good block
  pub at_or_above : block.statements ≤ n

-- 16 QUESTION: the thing asked about is not so, of the instant of a good block from the state that its record holds. So it is, where the instant is refused with 13;
-- of an answered one where the signal is an output and present, or where the statement is an emit that was not executed.
abbrev pub IsSo : Asked → Block → State → Hearing → Answer → Type 0
IsSo refused k st heard (answered vs c st' n) = ⊥
IsSo refused k st heard (not_constructive vs n) = Unit {0}
IsSo (is_present x) k st heard (answered vs c st' n) = T (outputs_with present k vs x)
IsSo (is_present x) k st heard (not_constructive vs n) = ⊥
IsSo (not_executed m) k st heard (answered vs c st' n) = WasNotExecuted k.body st (event k heard vs) m
IsSo (not_executed m) k st heard (not_constructive vs n) = ⊥

pub record NotSo (b s : List ℕ) (w : Given) (asked : Asked) : Type 0 where
  pub block : Good
  pub from : State
  pub held : HeldBy b s block from
  pub not_so : IsSo asked (block_of block) from (heard_of block w) (react (block_of block) from (heard_of block w)) → ⊥

-- The tests in the written order. Of a block, 1 to 8; of `fresh` then another size than 26 bytes; of an excerpt then 14;
abbrev pub of_block : List ℕ → List ℕ → List Test
of_block b [] = []
of_block b (n ∷ ns) = record { number = n; Applies = TurnedDown b n } ∷ of_block b ns

abbrev pub one_to_8 : List ℕ
one_to_8 = BROKEN ∷ KIND ∷ EDITION ∷ LIMIT ∷ SIGNAL ∷ EXIT ∷ SHAPE ∷ LOOP ∷ []

abbrev pub block_tests : List ℕ → List Test
block_tests b = of_block b one_to_8

abbrev pub fresh_tests : List ℕ → List ℕ → List Test
fresh_tests b s = block_tests b ++ record { number = STATE; Applies = length s ≢ 26 } ∷ []

abbrev pub excerpt_tests : List ℕ → ℕ → List Test
excerpt_tests b n = block_tests b ++ record { number = INDEX; Applies = NoStatement b n } ∷ []

-- of an instant then 9, 17, 10, 11, 12 (log call only), 13.
abbrev pub state_test : List ℕ → List ℕ → Test
state_test b s = record { number = STATE; Applies = NoState b s }

abbrev pub names_test : List ℕ → List ℕ → Test
names_test b s = record { number = OTHER_BLOCK; Applies = OtherBlock b s }

abbrev pub clash_test : List ℕ → List ℕ → Test
clash_test b s = record { number = CLASH; Applies = Clashing b s }

abbrev pub input_test : List ℕ → Given → Test
input_test b w = record { number = INPUT; Applies = BadInputs b w }

abbrev pub room_test : List ℕ → ℕ → Test
room_test log end = record { number = ROOM; Applies = NoRoom log end }

abbrev pub code_test : List ℕ → List ℕ → Given → Test
code_test b s w = record { number = NOT_CONSTRUCTIVE; Applies = Unsettled b s w }

abbrev pub instant_tests : List ℕ → List ℕ → Given → List Test
instant_tests b s w = block_tests b ++ state_test b s ∷ names_test b s ∷ clash_test b s ∷ input_test b w ∷ code_test b s w ∷ []

abbrev pub logged_tests : List ℕ → List ℕ → Given → List ℕ → ℕ → List Test
logged_tests b s w log end = block_tests b ++ state_test b s ∷ names_test b s ∷ clash_test b s ∷ input_test b w ∷ room_test log end ∷ code_test b s w ∷ []

-- of a question 9, 17, 10, 11, then 16.
abbrev pub question_test : List ℕ → List ℕ → Given → Asked → Test
question_test b s w asked = record { number = QUESTION; Applies = NotSo b s w asked }

abbrev pub reason_tests : List ℕ → List ℕ → Given → Asked → List Test
reason_tests b s w asked = block_tests b ++ state_test b s ∷ names_test b s ∷ clash_test b s ∷ input_test b w ∷ question_test b s w asked ∷ []

-- A function gets by with any arguments and returns: nothing is asked of a caller, and its own code meets its contract, which is to return with
-- what the contract says. A function is given by its number of lifetimes, its parameters' kinds, its `Asked` and its `statement`.
pub record Returns (n : ℕ) (ps : List (ParamKind n)) (Asked : In n ps) (statement : Type 1 → Type 2) : Type 2 where
  pub nothing_asked : (κs : Lfts n) (a : Dens κs ps) → Asked κs a
  pub returns : (M : Type 1) → statement M

-- There is an answer, and no other.
pub record ExactlyOne {A : Type 0} (Is : A → Type 0) : Type 0 where
  pub the_one : A
  pub it_is : Is the_one
  pub no_other : (x : A) → Is x → x ≡ the_one

-- What a run logs: the record of each answered instant, of what was heard and what it told, one after the other; nothing of a refused one.
abbrev pub record_of : Block → Given → Told → List ℕ
record_of k w t = log_record (record {
  inputs_present = word 64 (heard_in k w).heard_present;
  inputs_absent = word 64 (heard_in k w).heard_absent;
  outputs_present = t.present_outputs;
  code = t.code;
  rounds = t.rounds;
})

unfoldable pub records : Block → List Given → List Logging → List ℕ
records k [] rs = []
records k (w ∷ ws) [] = []
records k (w ∷ ws) (r ∷ rs) = cond (eqb (instant_told (answer_in r)).number 0) (record_of k w (instant_told (answer_in r))) [] ++ records k ws rs

-- The block that was read; of one that is turned down nothing is logged.
abbrev pub block_read : Reading → Block
block_read (good g) = block_of g
block_read (turned_down n at) = record { inputs = 0; outputs = 0; body = nothing }

-- A log in which bytes were written from an end on, and nothing else: what was there before the end, the bytes, and what was there behind them.
abbrev pub written_from : ℕ → List ℕ → List ℕ → List ℕ
written_from end bs log = take end log ++ (bs ++ drop (end + length bs) log)

-- The number and the place that an answer's values begin with.
abbrev pub number_in : List ℕ → ℕ
number_in values = get_or values 0 0

abbrev pub place_in : List ℕ → ℕ
place_in values = get_or values 1 0

-- The pair in a reason's values.
abbrev pub first_in : List ℕ → ℕ
first_in values = get_or values 2 0

abbrev pub second_in : List ℕ → ℕ
second_in values = get_or values 3 0

-- Where an answer's place is: of 1 to 8 the one at which the block is turned down with this number, else 0.
pub data PlacedBy (b : List ℕ) : ℕ → ℕ → Type 0 where
  in_block : (n at : ℕ) → Decides b n at → PlacedBy b n at
  at_0 : (n : ℕ) (g : Good) → reading b ≡ good g → PlacedBy b n 0

-- The pair of a CLASH: the first of the state that the record holds.
pub record PairOf (b s : List ℕ) (m n : ℕ) : Type 0 where
  pub block : Good
  pub from : State
  pub held : HeldBy b s block from
  pub is_first : FirstPair block (active_of from) m n

-- What is promised of the log over a run: the records of its answered instants stand one after the other from the first end on, and all else is
-- as it was; the caller's end lies behind the last of them.
pub record LoggedRun (k : Block) (log : List ℕ) (end : ℕ) (ws : List Given) (rs : List Logging) (log' : List ℕ) (end' : ℕ) : Type 0 where
  pub log_is : log' ≡ written_from end (records k ws rs) log
  pub end_is : end' ≡ end + length (records k ws rs)
  pub same_length : length log' ≡ length log
