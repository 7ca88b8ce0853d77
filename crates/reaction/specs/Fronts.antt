-- The tests before the rules, in their written order, on the caller's bytes: the block's 1 to 8, then 9, 17, 10 and 11. Assumes nothing.
use Rattle.std.specs.Prelude.{Bool, cond, List, ℕ}
use Rattle.std.proofs.Math.Option.{Option, none, some}
use Rattle.rules.specs.States.{State, active_of}
use Rattle.block.specs.Format.{Good, Reading, good, turned_down, reading}
use Rattle.records.specs.StateRecord.{Found, not_a_state, state, read_state, names_block, Pair, first_clash, undeclared_input, bad_inputs}
use Rattle.reaction.specs.declared.Given.{Given}
use Rattle.reaction.specs.declared.Given.TheVariants.{All, Two}

abbrev pub STATE : ℕ
STATE = 9

abbrev pub OTHER_BLOCK : ℕ
OTHER_BLOCK = 17

abbrev pub INPUT : ℕ
INPUT = 11

-- What the tests come to: turned down with a number and a place, a clash with its pair, or all passed, with the block and the state that were found.
pub data Front : Type 0 where
  stopped : ℕ → ℕ → Front
  clashing : Pair → Front
  ready : Good → State → Front

-- INPUT, of the number of inputs: of one set, a bit at or above it; of two, the inputs present and the inputs absent, also a signal in both.
unfoldable pub wrong_inputs : ℕ → Given → Bool
wrong_inputs inputs (All set) = undeclared_input inputs set
wrong_inputs inputs (Two present absent) = bad_inputs inputs present absent

-- The same for a block that was read and a state that was found.
unfoldable pub try_inputs : Good → State → Given → Front
try_inputs g st given = cond (wrong_inputs g.header.inputs given) (stopped INPUT 0) (ready g st)

unfoldable pub try_clash : Good → State → Given → Option Pair → Front
try_clash g st given (some pair) = clashing pair
try_clash g st given none = try_inputs g st given

-- CLASH, for a state that was found.
abbrev pub clash_tried : Good → State → Given → Front
clash_tried g st given = try_clash g st given (first_clash g.body (active_of st))

-- OTHER BLOCK, for a state that was found: the record names this block by its version and its statement count, or it is another's.
unfoldable pub try_names : Good → State → List ℕ → Given → Front
try_names g st s given = cond (names_block g.header.version g.statements s) (clash_tried g st given) (stopped OTHER_BLOCK 0)

-- STATE, for a block that was read.
unfoldable pub try_state : Good → List ℕ → Given → Found → Front
try_state g s given not_a_state = stopped STATE 0
try_state g s given (state st) = try_names g st s given

unfoldable pub try_block : List ℕ → Given → Reading → Front
try_block s given (turned_down n at) = stopped n at
try_block s given (good g) = try_state g s given (read_state g.pauses s)

-- All of them, for a block's bytes, a state's bytes and the inputs.
unfoldable pub front : List ℕ → List ℕ → Given → Front
front b s given = try_block s given (reading b)
