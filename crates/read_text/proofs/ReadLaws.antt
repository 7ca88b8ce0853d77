-- Theorems of the reader for who calls it: what it writes is a good block and fits into 3,086 bytes; a text's layout does not matter; and a text that
-- stands for a block over its limits gets 4 at place 0. They follow from the definitions alone. Assumes nothing.
use mathlib.Core.Path.{◌≡◌, refl, sym, ap, ◌∙◌}
use mathlib.Core.Bool.{Bool, true, false, cond}
use mathlib.Core.List.{List}
use mathlib.Core.Option.{some}
use Prim.Native.Nat.{ℕ, ◌+◌, ◌≤◌, ◌<◌}
use native.Mathlib.Decide.{dec_le}
use native.Mathlib.Omega.{arith}
use lib.Dec.{ltb}
use lib.ListN.{length}
use Rattle.block.specs.Format.{Good, Reading, good, turned_down, reading}
use Rattle.block.proofs.GoodReadings.{read_whole}
use Rattle.writing.specs.Answers.{writes, refuses, roomed}
use Rattle.writing.proofs.Stores.{enough}
use Rattle.text.specs.Tokens.{tokens}
use Rattle.text.specs.Grammar.{Text, spelt}
use Rattle.text.specs.Meaning.{Blocked, text_means}
use Rattle.text.specs.Reader.{checked, block_of, text_read}
use Rattle.text.proofs.Places.{text_gets, only_grammar}
use Rattle.read_text.proofs.EndingLaws.{signals, bytes, many_signals, few_signals, whole_length, too_large}

-- A block that is written was read as good.
record GoodOne (bs : List ℕ) : Type 0 where
  read : Good
  reads : reading bs ≡ good read

checked_good : (b bs : List ℕ) (x : Reading) → reading b ≡ x → checked b x ≡ writes bs → GoodOne bs
checked_good b bs (good g) q e = let s : b ≡ bs = cc in record { read = g; reads = sym (ap reading s) ∙ q }
checked_good b bs (turned_down n at) q e = let z : ◌≡◌ {A = ℕ} 0 1 = cc in absurd (omega arith)

block_good : (b : Blocked) (bs : List ℕ) → block_of b ≡ writes bs → GoodOne bs
unfolding block_of
block_good b bs e = go (ltb 64 (signals b)) e
  where
    go : (z : Bool) → cond z (refuses 4 0) (checked (bytes b) (reading (bytes b))) ≡ writes bs → GoodOne bs
    go true e = let z : ◌≡◌ {A = ℕ} 0 1 = cc in absurd (omega arith)
    go false e = checked_good (bytes b) bs (reading (bytes b)) refl e

-- What is written is a good block.
pub read_good : (text bs : List ℕ) → text_read text ≡ writes bs → (g : Good) × (reading bs ≡ good g)
read_good text bs e = let o = only_grammar text bs e in let r = block_good o.its_block bs o.its_bytes in (r.read, r.reads)

-- Who lends 3,086 bytes never meets 12.
pub read_most : (text bs : List ℕ) → text_read text ≡ writes bs → length bs ≤ 3086
read_most text bs e = let g = read_good text bs e in (read_whole bs g.0 g.1).size

pub room_enough : (text bs : List ℕ) (lent : ℕ) → text_read text ≡ writes bs → 3086 ≤ lent → roomed (text_read text) lent ≡ writes bs
room_enough text bs lent e l = ap (λ w. roomed w lent) e ∙ enough bs lent (omega (arith, read_most text bs e, l))

-- Two texts with the same tokens stand for the same block, whatever stands between these.
pub any_layout : (text other bs : List ℕ) → tokens text ≡ tokens other → text_read text ≡ writes bs → text_read other ≡ writes bs
any_layout text other bs s e =
    let o = only_grammar text bs e in
    text_gets other o.its_text o.its_block (sym s ∙ o.its_tokens) o.its_meaning ∙ o.its_bytes

-- The limits that the block's header and size have: over 64 signals, 65,536 among them, and over 3,072 bytes of records.
module _ (text : List ℕ) (t : Text) (b : Blocked) (e : tokens text ≡ spelt t) (m : text_means t ≡ some b) where
  pub over_64_signals : 64 < b.header.inputs + b.header.outputs + b.header.locals → text_read text ≡ refuses 4 0
  over_64_signals l = text_gets text t b e m ∙ many_signals b l

  pub over_3072_bytes : 3072 < length b.records → text_read text ≡ refuses 4 0
  over_3072_bytes l = text_gets text t b e m ∙ go (dec_le (signals b) 64)
    where
      go : Dec (signals b ≤ 64) → block_of b ≡ refuses 4 0
      go (yes n) = few_signals b n ∙ too_large (bytes b) (omega (arith, l, whole_length b))
      go (no n) = many_signals b (omega (arith, n))
