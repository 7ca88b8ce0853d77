-- Blocks from text over the calls (`specs/Texts`). What `read_text` is to write comes by cases on what the text gets, which the theorems of `text` tie to the grammar and to the place at
-- fault; what `write_text` wrote is read back by the two calls' contracts. Assumes nothing.
use mathlib.Core.Path.{◌≡◌, refl, sym, ap, ◌∙◌, subst⁻¹}
use mathlib.Core.Logic.{◌≢◌}
use mathlib.Core.Bool.{Bool, true, false, cond}
use mathlib.Core.List.{List, [], ◌++◌}
use mathlib.Core.Option.{some}
use Prim.Native.Nat.{ℕ, ◌+◌, ◌≤◌}
use native.Mathlib.Omega.{arith}
use lib.Dec.{ltb}
use lib.ListN.{length, take}
use borrow.Author.Tests.{ltb-true}
use Rattle.refusals.specs.Refusals.{number, has_number}
use Rattle.refusals.proofs.Laws.{number_back}
use Rattle.block.specs.Format.{Good, Reading, good, turned_down, reading}
use Rattle.block.proofs.GoodReadings.{numbers}
use Rattle.records.specs.Numerals.{Bytes}
use Rattle.writing.specs.Written.{header_bytes}
use Rattle.foldheron.specs.Answers.{Wrote}
use Rattle.std.specs.Prelude.{Ok}
use Rattle.writing.specs.Answers.{Writing, writes, refuses, roomed, wrote_values, wrote_owed, out_owed}
use Rattle.text.specs.Tokens.{tokens_placed, tokens}
use Rattle.text.specs.Grammar.{Text, spelt}
use Rattle.text.specs.Meaning.{Blocked, text_means}
use Rattle.text.specs.Faults.{Fault}
use Rattle.text.specs.Reader.{Outcome, stands, outside, over, begun, read_placed, checked, block_of, owed, text_read}
use Rattle.text.proofs.Places.{text_gets, only_grammar}
use Rattle.text.proofs.FaultPlace.{place_at_fault}
use Rattle.read_text.proofs.read_text.Kinds as read_text_kinds
use Rattle.read_text.proofs.read_text.Reads as read_text_reads
use Rattle.read_text.proofs.read_text.Statement as read_text_statement
use Rattle.read_text.proofs.read_text.Met as read_text_met
use Rattle.promises.specs.Texts.{StandsFor, ReadText, GaveBack}
use Rattle.promises.specs.Calls.{WriteTextCalled, ReadTextCalled}
use Rattle.promises.specs.Demand1.{Returns, ExactlyOne, number_in, place_in}
use Rattle.promises.proofs.Learnt.{read_text_says}
use Rattle.promises.proofs.Exists.{named_in_block}
use Rattle.promises.proofs.Demand1.{anywhere}
use Rattle.promises.proofs.Written.{wrote_told_apart, Named, an_answer, refused_stays, written_in_front}
use Rattle.promises.proofs.Texts.{the_text_stands_for_the_block}

-- Nothing is asked of a caller, and the call returns;
pub read_text_returns : Returns 2 read_text_kinds.ps read_text_reads.Asked read_text_statement.statement
read_text_returns = record { nothing_asked = λ κs a. tt; returns = λ M. read_text_met.met }

-- for all that is lent there is exactly one answer, with exactly one content of each lent byte afterwards.
abbrev bytes_of : Blocked → List ℕ
bytes_of b = header_bytes b.header ++ b.records

named_checked : (bs : List ℕ) → Named (checked bs (reading bs))
unfolding Named
named_checked bs = go (reading bs) refl
  where
    go : (x : Reading) → reading bs ≡ x → Named (checked bs x)
    go (good g) e = tt
    go (turned_down n at) e = named_in_block bs n at e

named_block : (b : Blocked) → Named (block_of b)
unfolding Named block_of has_number number
named_block b = go (ltb 64 (b.header.inputs + b.header.outputs + b.header.locals))
  where
    go : (x : Bool) → Named (cond x (refuses 4 0) (checked (bytes_of b) (reading (bytes_of b))))
    go true = number_back 4 tt
    go false = named_checked (bytes_of b)

named_read : (text : List ℕ) → Named (text_read text)
unfolding Named text_read owed has_number number
named_read text = go (read_placed begun (tokens_placed text) (length text))
  where
    go : (o : Outcome) → Named (owed o)
    go (stands b) = named_block b
    go (outside at) = number_back 15 tt
    go over = number_back 4 tt

pub read_text_has_one_answer : (text out : List ℕ) → ExactlyOne (λ (x : Wrote × List ℕ). ReadTextCalled text out x.0 x.1)
read_text_has_one_answer text out =
    let a = an_answer (text_read text) (length out) (named_read text) in
    record {
      the_one = (a.0, out_owed (roomed (text_read text) (length out)) out);
      it_is = record { call = record { lifetimes = ([], ([], tt)); places = anywhere; learnt = (a.1, refl) } };
      no_other = λ x c i. (wrote_told_apart x.0 a.0 ((read_text_says c).0 ∙ sym a.1) i, (read_text_says c).1 i);
    }

-- The bytes that are to be written for a block read good.
good_written : (b : Blocked) (bs : List ℕ) → block_of b ≡ writes bs → (g : Good) × (reading bs ≡ good g)
unfolding block_of
good_written b bs e = go (ltb 64 (b.header.inputs + b.header.outputs + b.header.locals)) (reading (bytes_of b)) refl e
  where
    go : (x : Bool) (y : Reading) → reading (bytes_of b) ≡ y → cond x (refuses 4 0) (checked (bytes_of b) y) ≡ writes bs → (g : Good) × (reading bs ≡ good g)
    go true y q e = let z : ◌≡◌ {A = ℕ} 0 1 = cc in absurd (omega arith)
    go false (turned_down n at) q e = let z : ◌≡◌ {A = ℕ} 0 1 = cc in absurd (omega arith)
    go false (good g) q e = let same : bytes_of b ≡ bs = cc in (g, ap reading (sym same) ∙ q)

-- Where 15 comes of what is to be written, its place is the place at fault.
abbrev FifteenAt : List ℕ → ℕ → Writing → Type 0
FifteenAt text lent w = number_in (wrote_owed (roomed w lent)) ≡ 15 → Fault (length text) (tokens_placed text) (place_in (wrote_owed (roomed w lent)))

module _ (text : List ℕ) where
  -- A refusal leaves all lent bytes.
  pub a_refused_read_text_changes_nothing : {out out' : List ℕ} {r : Wrote} → ReadTextCalled text out r out' → number_in (wrote_values r) ≢ 0 → out' ≡ out
  a_refused_read_text_changes_nothing {out} c h =
      (read_text_says c).1 ∙ refused_stays (roomed (text_read text) (length out)) out (λ z. h (ap number_in (read_text_says c).0 ∙ z))

  -- "15 TEXT with the byte place for text outside the grammar or a name undeclared or declared again in its scope": the place of 15 is the place at fault;
  pub fifteen_is_where_the_text_is_at_fault : {out out' : List ℕ} {r : Wrote} → ReadTextCalled text out r out' → number_in (wrote_values r) ≡ 15
      → Fault (length text) (tokens_placed text) (place_in (wrote_values r))
  unfolding text_read owed block_of roomed wrote_owed
  fifteen_is_where_the_text_is_at_fault {out} {out'} {r} c h =
      subst⁻¹ (λ (l : List ℕ). Fault (length text) (tokens_placed text) (place_in l)) (read_text_says c).0
      (go (read_placed begun (tokens_placed text) (length text)) refl (sym (ap number_in (read_text_says c).0) ∙ h))
    where
      roomy : (bs : List ℕ) (x : Bool) → number_in (wrote_owed (cond x (refuses 12 0) (writes bs))) ≡ 15
          → Fault (length text) (tokens_placed text) (place_in (wrote_owed (cond x (refuses 12 0) (writes bs))))
      roomy bs true h = let k : ◌≡◌ {A = ℕ} 12 15 = h in absurd (omega arith)
      roomy bs false h = let k : ◌≡◌ {A = ℕ} 0 15 = h in absurd (omega arith)

      block_read : (bs : List ℕ) (y : Reading) → reading bs ≡ y → FifteenAt text (length out) (checked bs y)
      block_read bs (good g) q h = roomy bs (ltb (length out) (length bs)) h
      block_read bs (turned_down n at) q h = let k : n ≡ 15 = h in let l = numbers bs n at q in absurd (omega (arith, l.1, k))

      limited : (b : Blocked) (x : Bool) → FifteenAt text (length out) (cond x (refuses 4 0) (checked (bytes_of b) (reading (bytes_of b))))
      limited b true h = let k : ◌≡◌ {A = ℕ} 4 15 = h in absurd (omega arith)
      limited b false h = block_read (bytes_of b) (reading (bytes_of b)) refl h

      go : (o : Outcome) → read_placed begun (tokens_placed text) (length text) ≡ o → FifteenAt text (length out) (owed o)
      go (outside at) q h = place_at_fault text at q
      go over q h = let k : ◌≡◌ {A = ℕ} 4 15 = h in absurd (omega arith)
      go (stands b) q h = limited b (ltb 64 (b.header.inputs + b.header.outputs + b.header.locals)) h

  -- "then 1 to 8 on the block read; both then 12 for too small an output": a text of the grammar with its names in order gets what its block gets;
  pub a_text_gets_what_its_block_gets : (t : Text) (b : Blocked) → tokens text ≡ spelt t → text_means t ≡ some b → {out out' : List ℕ} {r : Wrote} → ReadTextCalled text out r out'
      → wrote_values r ≡ wrote_owed (roomed (block_of b) (length out))
  a_text_gets_what_its_block_gets t b e m {out} c = (read_text_says c).0 ∙ ap (λ (w : Writing). wrote_owed (roomed w (length out))) (text_gets text t b e m)

  -- and what is written is the good block of such a text.
  pub what_is_read_is_of_the_grammar_and_good : {n : ℕ} {out out' : List ℕ} → ReadTextCalled text out (Ok n) out' → ReadText text out n out'
  what_is_read_is_of_the_grammar_and_good {n} {out} {out'} c =
      let f = written_in_front (text_read text) (named_read text) out n out' (read_text_says c).0 (read_text_says c).1 in
      let o = only_grammar text f.bytes f.to_write in
      let g = good_written o.its_block f.bytes o.its_bytes in
      record {
        stands_for = subst⁻¹ (StandsFor text) f.in_front (record {
          its_text = o.its_text;
          its_block = o.its_block;
          its_tokens = o.its_tokens;
          its_meaning = o.its_meaning;
          its_bytes = o.its_bytes;
          read = g.0;
          reads_good = g.1;
        });
        n_of_them = f.n_of_them;
        rest_stays = f.rest_stays;
      }

-- "Reading what was written must give back the same block bytes", over the two calls.
pub what_was_written_is_read_back : (b : List ℕ) → Bytes b → {n : ℕ} {out out' : List ℕ} → WriteTextCalled b out (Ok n) out' → {lent lent' : List ℕ} {r : Wrote}
    → ReadTextCalled (take n out') lent r lent' → length b ≤ length lent → GaveBack b lent r lent'
unfolding roomed wrote_owed out_owed wrote_values
what_was_written_is_read_back b bytes {n} {out} {out'} w {lent} {lent'} {r} c l =
    let back : text_read (take n out') ≡ writes b = (the_text_stands_for_the_block b bytes w).stands_for_the_block in
    let owed_is : roomed (text_read (take n out')) (length lent) ≡ writes b = ap (λ (x : Writing). roomed x (length lent)) back ∙ fits (ltb (length lent) (length b)) refl in
    record {
      answer_is = wrote_told_apart r (Ok (length b)) ((read_text_says c).0 ∙ ap wrote_owed owed_is);
      bytes_are = (read_text_says c).1 ∙ ap (λ (x : Writing). out_owed x lent) owed_is;
    }
  where
    fits : (x : Bool) → ltb (length lent) (length b) ≡ x → cond x (refuses 12 0) (writes b) ≡ writes b
    fits false q = refl
    fits true q = let k = ltb-true (length lent) (length b) q in absurd (omega (arith, k, l))
