-- The block that `convert` writes, over the calls: what is promised of it, and the tests of the call in their order. Assumes nothing.
use Rattle.std.specs.Prelude.{◌≡◌, ◌≢◌, false, cond, List, [], ◌∷◌, ◌++◌, ℕ, ◌<◌, length, take, drop}
use Rattle.rules.specs.States.{State, fresh}
use Rattle.rules.specs.Rounds.{Answer}
use Rattle.theorems.specs.Traces.{after}
use Rattle.block.specs.Format.{LIMIT, Header}
use Rattle.foldheron.specs.Answers.{Checked}
use Rattle.std.specs.Prelude.{Ok}
use Rattle.block.specs.declared.whole.Summary.{Summary}
use Rattle.foldheron.specs.Answers.{Wrote}
use Rattle.writing.specs.Answers.{wrote_values}
use Rattle.writing.specs.Written.{block_bytes}
use Rattle.foldheron.specs.Answers.{check_values}
use Rattle.doubled.specs.Copies.{within_limits}
use Rattle.everyday.specs.Statements.{Everyday}
use Rattle.everyday.specs.Conversion.{converted}
use Rattle.everyday.specs.Instants.{Block₂, interface, react₂}
use Rattle.converting.specs.Format.{good₂, turned_down₂, reading₂}
use Rattle.reaction.specs.Fronts.{INPUT, wrong_inputs}
use Rattle.reaction.specs.Instants.{ROOM, Told, told_refusal, told_reaction, heard_in}
use Rattle.reaction.specs.Answers.{instant_told}
use Rattle.reaction.specs.declared.Given.{Given}
use Rattle.foldheron.specs.Answers.{Instant}
use Rattle.promises.specs.Calls.{CheckCalled}
use Rattle.promises.specs.Tests.{Test}
use Rattle.promises.specs.Demand1.{one_to_8, number_in}
use Rattle.promises.specs.Beside.{Ran, SameButActive}

-- What a block of edition 2 means in an instant, and from a state on, told as calls are: inputs that it does not have get 11 and leave the state.
abbrev pub meant : Block₂ → State → Given → Answer
meant k st w = react₂ k st (heard_in (interface k) w)

unfoldable pub told_directly : Block₂ → State → List Given → List Told
told_directly k st [] = []
told_directly k st (w ∷ ws) =
    cond (wrong_inputs k.inputs w) (told_refusal INPUT 0 0 0 ∷ told_directly k st ws)
    (told_reaction (interface k) (meant k st w) ∷ told_directly k (after st (meant k st w)) ws)

-- In every instant what is meant and what a call is told are as R says.
pub data ToldAs (R : Told → Told → Type 0) : List Told → List Instant → Type 0 where
  at_end : ToldAs R [] []
  and_then : {t : Told} {r : Instant} {ts : List Told} {rs : List Instant} → R t (instant_told r) → ToldAs R ts rs → ToldAs R (t ∷ ts) (r ∷ rs)

-- A good block of edition 2.
pub record GoodWide (b : List ℕ) : Type 0 where
  pub header : Header
  pub body : Everyday
  pub is_read : reading₂ b ≡ good₂ header body

abbrev pub wide_block : Header → Everyday → Block₂
wide_block h p = record { inputs = h.inputs; outputs = h.outputs; body = p }

-- `check` says Good, with the version, inputs, outputs and locals of this header.
pub record GoodWith (h : Header) (r : Checked) : Type 0 where
  pub says : Summary
  pub is_good : r ≡ Ok says
  pub version_kept : says.version ≡ h.version
  pub inputs_kept : says.inputs ≡ h.inputs
  pub outputs_kept : says.outputs ≡ h.outputs
  pub locals_kept : says.locals ≡ h.locals

-- The bytes written are a good block's, and under any run of calls from fresh, undeclared inputs too, they are told what the block of edition 2 means: outputs, code, 13, final
-- statuses and rounds.
pub record MeansTheSame (h : Header) (p : Everyday) (written : List ℕ) : Type 0 where
  pub is_good : {r : Checked} → CheckCalled written r → GoodWith h r
  pub as_meant : (ws : List Given) (rs : List Instant) → Ran written ws rs → ToldAs SameButActive (told_directly (wide_block h p) fresh ws) rs

-- Of n bytes written: they stand in front of the lent bytes, and those behind them stay.
pub record WroteConverted (b out : List ℕ) (n : ℕ) (out' : List ℕ) : Type 0 where
  pub block : GoodWide b
  pub converted_block : MeansTheSame block.header block.body (take n out')
  pub n_of_them : length (take n out') ≡ n
  pub rest_stays : drop n out' ≡ drop n out

-- The bytes of its conversion.
abbrev pub converted_bytes : Header → Everyday → List ℕ
converted_bytes h p = block_bytes h (converted p)

-- Of a good block of edition 2, the call gives 4 exactly where `check` gives 4 for the conversion's bytes, and else `check` says Good.
pub record LimitOfConverted (r : Wrote) (c : Checked) : Type 0 where
  pub four_where_four : number_in (check_values c) ≡ LIMIT → number_in (wrote_values r) ≡ LIMIT
  pub only_there : number_in (wrote_values r) ≡ LIMIT → number_in (check_values c) ≡ LIMIT
  pub good_else : number_in (wrote_values r) ≢ LIMIT → number_in (check_values c) ≡ 0

-- 1 to 8: read as edition 2 the block is turned down with this number.
pub record TurnedDownWide (b : List ℕ) (n : ℕ) : Type 0 where
  pub place : ℕ
  pub is_read : reading₂ b ≡ turned_down₂ n place

-- 4: the conversion passes a limit.
pub record PassesLimitWide (b : List ℕ) : Type 0 where
  pub block : GoodWide b
  pub over : within_limits block.header (converted block.body) ≡ false

-- 12: fewer bytes are lent than it has.
pub record TooFewLentWide (b : List ℕ) (lent : ℕ) : Type 0 where
  pub block : GoodWide b
  pub fewer : lent < length (converted_bytes block.header block.body)

-- The tests in the written order: 1 to 8 of the input, 4 where the result passes a limit, 12.
abbrev pub of_wide : List ℕ → List ℕ → List Test
of_wide b [] = []
of_wide b (n ∷ ns) = record { number = n; Applies = TurnedDownWide b n } ∷ of_wide b ns

abbrev pub late_tests : List ℕ → ℕ → List Test
late_tests b lent = record { number = LIMIT; Applies = PassesLimitWide b } ∷ record { number = ROOM; Applies = TooFewLentWide b lent } ∷ []

abbrev pub convert_tests : List ℕ → ℕ → List Test
convert_tests b lent = of_wide b one_to_8 ++ late_tests b lent

-- The place: of 1 to 8 where the block is turned down, else 0.
pub data PlacedWide (b : List ℕ) : ℕ → ℕ → Type 0 where
  in_block : (n at : ℕ) → reading₂ b ≡ turned_down₂ n at → PlacedWide b n at
  at_0 : (n : ℕ) → GoodWide b → PlacedWide b n 0
