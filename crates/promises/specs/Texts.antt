-- Blocks as text, over the calls: what is promised of the text that `write_text` writes, with the tests of the call in their order, and of the block that `read_text` reads. Assumes nothing.
use Rattle.std.specs.Prelude.{◌≡◌, List, [], ◌∷◌, ◌++◌, ℕ, ◌≤◌, ◌<◌, length, take, drop}
use Rattle.std.proofs.Math.Option.{some}
use Rattle.block.specs.Format.{Good, good, reading}
use Rattle.writing.specs.Answers.{writes}
use Rattle.foldheron.specs.Answers.{Wrote}
use Rattle.std.specs.Prelude.{Ok}
use Rattle.text.specs.Tokens.{tokens}
use Rattle.text.specs.Grammar.{Text, spelt}
use Rattle.text.specs.Meaning.{Blocked, text_means}
use Rattle.text.specs.Shown.{shown, text_bytes}
use Rattle.text.specs.Reader.{block_of, text_read}
use Rattle.reaction.specs.Instants.{ROOM}
use Rattle.promises.specs.Tests.{Test}
use Rattle.promises.specs.Demand1.{block_tests}

-- As many bytes as the longest text has at most.
abbrev pub TEXT_MOST : ℕ
TEXT_MOST = 137305

-- Of n bytes written: they stand in front of the lent bytes, are a text that stands for the block, and those behind them stay.
pub record WroteText (b out : List ℕ) (n : ℕ) (out' : List ℕ) : Type 0 where
  pub stands_for_the_block : text_read (take n out') ≡ writes b
  pub n_of_them : length (take n out') ≡ n
  pub at_most : n ≤ TEXT_MOST
  pub rest_stays : drop n out' ≡ drop n out

-- The bytes of a good block's text.
abbrev pub text_of : Good → List ℕ
text_of g = text_bytes (shown g.header g.body)

-- 12: fewer bytes are lent than it has.
pub record TooFewForText (b : List ℕ) (lent : ℕ) : Type 0 where
  pub block : Good
  pub is_good : reading b ≡ good block
  pub fewer : lent < length (text_of block)

-- The tests in the written order: 1 to 8, 12.
abbrev pub write_tests : List ℕ → ℕ → List Test
write_tests b lent = block_tests b ++ record { number = ROOM; Applies = TooFewForText b lent } ∷ []

-- A text of the grammar, its names in order, that stands for a block with these bytes, which read good.
pub record StandsFor (text bs : List ℕ) : Type 0 where
  pub its_text : Text
  pub its_block : Blocked
  pub its_tokens : tokens text ≡ spelt its_text
  pub its_meaning : text_means its_text ≡ some its_block
  pub its_bytes : block_of its_block ≡ writes bs
  pub read : Good
  pub reads_good : reading bs ≡ good read

-- Of n bytes read from a text: they stand in front of the lent bytes, are the block that the text stands for, and those behind them stay.
pub record ReadText (text out : List ℕ) (n : ℕ) (out' : List ℕ) : Type 0 where
  pub stands_for : StandsFor text (take n out')
  pub n_of_them : length (take n out') ≡ n
  pub rest_stays : drop n out' ≡ drop n out

-- A call that gave back a block.
pub record GaveBack (b lent : List ℕ) (r : Wrote) (lent' : List ℕ) : Type 0 where
  pub answer_is : r ≡ Ok (length b)
  pub bytes_are : lent' ≡ b ++ drop (length b) lent
