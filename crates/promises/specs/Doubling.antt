-- The block that `double_loops` writes, over the calls: what is promised of it, and the tests of the call in their order. Assumes nothing.
use Rattle.std.specs.Prelude.{◌≡◌, ◌≢◌, false, List, [], ◌∷◌, ◌++◌, ℕ, ◌<◌, length, take, drop}
use Rattle.block.specs.Format.{LIMIT, Good, good, reading}
use Rattle.foldheron.specs.Answers.{Checked}
use Rattle.std.specs.Prelude.{Ok}
use Rattle.block.specs.declared.whole.Summary.{Summary}
use Rattle.foldheron.specs.Answers.{Wrote}
use Rattle.writing.specs.Answers.{wrote_values}
use Rattle.foldheron.specs.Answers.{check_values}
use Rattle.writing.specs.Written.{block_bytes}
use Rattle.doubled.specs.Copies.{doubled, doubled_header, within_limits}
use Rattle.reaction.specs.Instants.{ROOM}
use Rattle.reaction.specs.declared.Given.{Given}
use Rattle.foldheron.specs.Answers.{Instant}
use Rattle.promises.specs.Calls.{CheckCalled}
use Rattle.promises.specs.Tests.{Test}
use Rattle.promises.specs.Demand1.{block_tests, number_in}
use Rattle.promises.specs.Beside.{Ran, Each, SameButActive}

-- `check` says Good, with the version, the inputs and the outputs that it said of the block itself.
pub record GoodToo (said : Summary) (r : Checked) : Type 0 where
  pub says : Summary
  pub is_good : r ≡ Ok says
  pub version_kept : says.version ≡ said.version
  pub inputs_kept : says.inputs ≡ said.inputs
  pub outputs_kept : says.outputs ≡ said.outputs

-- The bytes written are a good block's, and under any run of calls from fresh, undeclared inputs too, both blocks are told the same: outputs, code, 13, final statuses and rounds.
pub record SameBlockDoubled (b written : List ℕ) : Type 0 where
  pub is_good : {said : Summary} {r : Checked} → CheckCalled b (Ok said) → CheckCalled written r → GoodToo said r
  pub same_answers : (ws : List Given) (rs rs' : List Instant) → Ran b ws rs → Ran written ws rs' → Each SameButActive rs rs'

-- Of n bytes written: they stand in front of the lent bytes, and those behind them stay.
pub record WroteDoubled (b out : List ℕ) (n : ℕ) (out' : List ℕ) : Type 0 where
  pub doubled_block : SameBlockDoubled b (take n out')
  pub n_of_them : length (take n out') ≡ n
  pub rest_stays : drop n out' ≡ drop n out

-- The bytes of a good block doubled.
abbrev pub doubled_bytes : Good → List ℕ
doubled_bytes g = block_bytes (doubled_header g.header g.body) (doubled g.header g.body)

-- Of a good block, the call gives 4 exactly where `check` gives 4 for the doubled block's bytes, and else `check` says Good.
pub record LimitOfDoubled (r : Wrote) (c : Checked) : Type 0 where
  pub four_where_four : number_in (check_values c) ≡ LIMIT → number_in (wrote_values r) ≡ LIMIT
  pub only_there : number_in (wrote_values r) ≡ LIMIT → number_in (check_values c) ≡ LIMIT
  pub good_else : number_in (wrote_values r) ≢ LIMIT → number_in (check_values c) ≡ 0

-- 4: the doubled block passes a limit.
pub record PassesLimit (b : List ℕ) : Type 0 where
  pub block : Good
  pub is_good : reading b ≡ good block
  pub over : within_limits (doubled_header block.header block.body) (doubled block.header block.body) ≡ false

-- 12: fewer bytes are lent than it has.
pub record TooFewLent (b : List ℕ) (lent : ℕ) : Type 0 where
  pub block : Good
  pub is_good : reading b ≡ good block
  pub fewer : lent < length (doubled_bytes block)

-- The tests in the written order: 1 to 8, 4 where the doubled block passes a limit, 12.
abbrev pub double_tests : List ℕ → ℕ → List Test
double_tests b lent = block_tests b ++ record { number = LIMIT; Applies = PassesLimit b } ∷ record { number = ROOM; Applies = TooFewLent b lent } ∷ []
