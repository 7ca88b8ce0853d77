-- Blocks as text over the calls (`specs/Texts`). What `write_text` is to write comes by cases on the block's reading; what is then written is read back as the block
-- (`write_text/proofs/ReadBack`), and has at most 137,305 bytes. Assumes nothing.
use mathlib.Core.Path.{◌≡◌, refl, sym, ap, ◌∙◌, subst, subst⁻¹}
use mathlib.Core.Logic.{inl, inr, ◌≢◌}
use mathlib.Core.Bool.{Bool, true, false, cond}
use mathlib.Core.List.{List, [], ◌∷◌}
use Prim.Native.Nat.{ℕ, ◌≤◌, ◌<◌}
use native.Mathlib.Omega.{arith}
use lib.Dec.{ltb}
use lib.ListN.{length, take}
use borrow.Author.Tests.{ltb-true, ltb-false}
use Rattle.block.specs.Format.{Good, Reading, good, turned_down, reading}
use Rattle.block.proofs.GoodReadings.{numbers}
use Rattle.records.specs.Numerals.{Bytes}
use Rattle.foldheron.specs.Answers.{Wrote}
use Rattle.std.specs.Prelude.{Ok}
use Rattle.writing.specs.Answers.{Writing, writes, refuses, roomed, wrote_values, wrote_owed, out_owed}
use Rattle.text.specs.Reader.{text_read}
use Rattle.write_text.specs.WriteText.{text_writing, text_writing_of}
use Rattle.write_text.proofs.ReadBack.{read_back, one_block, written_most}
use Rattle.write_text.proofs.write_text.Kinds as write_text_kinds
use Rattle.write_text.proofs.write_text.Reads as write_text_reads
use Rattle.write_text.proofs.write_text.Statement as write_text_statement
use Rattle.write_text.proofs.write_text.Met as write_text_met
use Rattle.reaction.specs.Instants.{ROOM}
use Rattle.promises.specs.Texts.{TEXT_MOST, WroteText, text_of, TooFewForText, write_tests}
use Rattle.promises.specs.Calls.{WriteTextCalled}
use Rattle.promises.specs.Tests.{Test, First}
use Rattle.promises.specs.Demand1.{Returns, ExactlyOne, one_to_8, number_in, place_in, PlacedBy, in_block, at_0}
use Rattle.promises.proofs.Learnt.{write_text_says}
use Rattle.promises.proofs.Exists.{named_in_block}
use Rattle.promises.proofs.FirstRecord.{turned_down_decides}
use Rattle.promises.proofs.FirstRefusal.{past_block, of_the_block}
use Rattle.promises.proofs.Demand1.{anywhere}
use Rattle.promises.proofs.Likeness.{one_reading}
use Rattle.promises.proofs.Written.{wrote_told_apart, Named, an_answer, refused_stays, written_in_front}

-- How the tests come out, each with what it found.
module _ (b : List ℕ) (lent : ℕ) (P : Writing → Type 0) (bad : (n at : ℕ) → reading b ≡ turned_down n at → P (refuses n at))
    (short : (g : Good) → reading b ≡ good g → lent < length (text_of g) → P (refuses ROOM 0))
    (fits : (g : Good) → reading b ≡ good g → length (text_of g) ≤ lent → P (writes (text_of g))) where
  by_tests : P (roomed (text_writing b) lent)
  unfolding text_writing text_writing_of roomed
  by_tests = go (reading b) refl
    where
      roomy : (g : Good) → reading b ≡ good g → (x : Bool) → ltb lent (length (text_of g)) ≡ x → P (cond x (refuses ROOM 0) (writes (text_of g)))
      roomy g e true q = short g e (ltb-true lent (length (text_of g)) q)
      roomy g e false q = fits g e (ltb-false lent (length (text_of g)) q)

      go : (x : Reading) → reading b ≡ x → P (roomed (text_writing_of x) lent)
      go (turned_down n at) e = bad n at e
      go (good g) e = roomy g e _ refl

-- Nothing is asked of a caller, and the call returns;
pub write_text_returns : Returns 2 write_text_kinds.ps write_text_reads.Asked write_text_statement.statement
write_text_returns = record { nothing_asked = λ κs a. tt; returns = λ M. write_text_met.met }

-- for all that is lent there is exactly one answer, with exactly one content of each lent byte afterwards.
named_text : (b : List ℕ) → Named (text_writing b)
unfolding Named text_writing text_writing_of
named_text b = go (reading b) refl
  where
    go : (x : Reading) → reading b ≡ x → Named (text_writing_of x)
    go (good g) e = tt
    go (turned_down n at) e = named_in_block b n at e

pub write_text_has_one_answer : (b out : List ℕ) → ExactlyOne (λ (x : Wrote × List ℕ). WriteTextCalled b out x.0 x.1)
write_text_has_one_answer b out =
    let a = an_answer (text_writing b) (length out) (named_text b) in
    record {
      the_one = (a.0, out_owed (roomed (text_writing b) (length out)) out);
      it_is = record { call = record { lifetimes = ([], ([], tt)); places = anywhere; learnt = (a.1, refl) } };
      no_other = λ x c i. (wrote_told_apart x.0 a.0 ((write_text_says c).0 ∙ sym a.1) i, (write_text_says c).1 i);
    }

module _ (b : List ℕ) where
  -- "the writer 1 to 8; both then 12 for too small an output": the number given back is that of the first test in this order that applies;
  abbrev late : ℕ → List Test
  late lent = record { number = ROOM; Applies = TooFewForText b lent } ∷ []

  roomed_first : (lent : ℕ) → First (write_tests b lent) (number_in (wrote_owed (roomed (text_writing b) lent)))
  unfolding wrote_owed
  roomed_first lent =
      by_tests b lent (λ w. First (write_tests b lent) (number_in (wrote_owed w))) (λ n at e. of_the_block b n at e (late lent))
      (λ g e l. past_block b g e one_to_8 (late lent) ROOM (inl (record { block = g; is_good = e; fewer = l }, refl)))
      (λ g e l. past_block b g e one_to_8 (late lent) 0 (inr (has_room g e l, refl)))
    where
      has_room : (g : Good) → reading b ≡ good g → length (text_of g) ≤ lent → TooFewForText b lent → ⊥
      has_room g e l t =
          let k : lent < length (text_of g) = subst (λ (x : Good). lent < length (text_of x)) (one_reading b g t.block e t.is_good) t.fewer in
          omega arith

  pub write_text_gives_the_first : {out out' : List ℕ} {r : Wrote} → WriteTextCalled b out r out' → First (write_tests b (length out)) (number_in (wrote_values r))
  write_text_gives_the_first {out} c = subst (First (write_tests b (length out))) (sym (ap number_in (write_text_says c).0)) (roomed_first (length out))

  -- its place is where the block is turned down, else 0;
  pub write_text_gives_its_place : {out out' : List ℕ} {r : Wrote} → WriteTextCalled b out r out' → PlacedBy b (number_in (wrote_values r)) (place_in (wrote_values r))
  unfolding wrote_owed
  write_text_gives_its_place {out} c = subst⁻¹ (λ (l : List ℕ). PlacedBy b (number_in l) (place_in l)) (write_text_says c).0
      (by_tests b (length out) (λ w. PlacedBy b (number_in (wrote_owed w)) (place_in (wrote_owed w))) (λ n at e. in_block n at (turned_down_decides b n at e))
      (λ g e l. at_0 ROOM g e) (λ g e l. at_0 0 g e))

  -- and a refusal leaves every lent byte.
  pub a_refused_write_text_changes_nothing : {out out' : List ℕ} {r : Wrote} → WriteTextCalled b out r out' → number_in (wrote_values r) ≢ 0 → out' ≡ out
  a_refused_write_text_changes_nothing {out} c h =
      (write_text_says c).1 ∙ refused_stays (roomed (text_writing b) (length out)) out (λ z. h (ap number_in (write_text_says c).0 ∙ z))

  -- "Reading what was written must give back the same block bytes", and 137,305 bytes are enough for any block;
  module _ (bytes : Bytes b) where
    pub the_text_stands_for_the_block : {n : ℕ} {out out' : List ℕ} → WriteTextCalled b out (Ok n) out' → WroteText b out n out'
    the_text_stands_for_the_block {n} {out} {out'} c =
        let f = written_in_front (text_writing b) (named_text b) out n out' (write_text_says c).0 (write_text_says c).1 in
        record {
          stands_for_the_block = ap text_read f.in_front ∙ read_back b f.bytes bytes f.to_write;
          n_of_them = f.n_of_them;
          at_most = subst (λ (m : ℕ). m ≤ TEXT_MOST) (sym (ap length f.in_front) ∙ f.n_of_them) (written_most b f.bytes bytes f.to_write);
          rest_stays = f.rest_stays;
        }

    pub with_the_most_lent_never_12 : {out out' : List ℕ} {r : Wrote} → WriteTextCalled b out r out' → TEXT_MOST ≤ length out → number_in (wrote_values r) ≢ ROOM
    unfolding wrote_owed text_writing text_writing_of
    with_the_most_lent_never_12 {out} c most z =
        by_tests b (length out) (λ w. number_in (wrote_owed w) ≡ ROOM → ⊥) (λ n at e y. let k : n ≡ 12 = y in let h = numbers b n at e in omega (arith, h.1, k))
        (λ g e l y. let k = written_most b (text_of g) bytes (ap text_writing_of e) in omega (arith, k, l, most))
        (λ g e l y. let k : ◌≡◌ {A = ℕ} 0 12 = y in omega arith) (sym (ap number_in (write_text_says c).0) ∙ z)

-- and two blocks with one text are one block.
pub two_blocks_with_one_text_are_one : (b c : List ℕ) → Bytes b → Bytes c → {n m : ℕ} {out out' lent lent' : List ℕ} → WriteTextCalled b out (Ok n) out'
    → WriteTextCalled c lent (Ok m) lent' → take n out' ≡ take m lent' → b ≡ c
two_blocks_with_one_text_are_one b c s u {n} {m} {out} {out'} {lent} {lent'} x y e =
    let f = written_in_front (text_writing b) (named_text b) out n out' (write_text_says x).0 (write_text_says x).1 in
    let g = written_in_front (text_writing c) (named_text c) lent m lent' (write_text_says y).0 (write_text_says y).1 in
    one_block b c f.bytes s u f.to_write (g.to_write ∙ ap writes (sym g.in_front ∙ sym e ∙ f.in_front))
