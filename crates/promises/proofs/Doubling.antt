-- Request 12 over the calls (`specs/Doubling`). What was written is the doubled block's bytes, which read back good; along the calls on both blocks goes one run of the rules, of which
-- it is proved that both answer the same. Assumes nothing.
use mathlib.Core.Path.{◌≡◌, refl, sym, ap, ap₂, ◌∙◌, subst, subst⁻¹}
use mathlib.Core.Logic.{inl, inr, ◌≢◌}
use mathlib.Core.Bool.{Bool, true, false, cond, ◌&&◌, true≢false}
use mathlib.Core.List.{List, [], ◌∷◌, ◌++◌, map}
use Rattle.std.specs.Prelude.{Option, Some, None}
use Prim.Native.Nat.{ℕ, zero, suc, ◌-◌, ◌≤◌, ◌<◌}
use native.Mathlib.Omega.{arith}
use lib.Dec.{leb, ltb}
use lib.ListN.{length, get_or, take, drop}
use lib.Seq.{take_at, drop_at}
use borrow.Author.Tests.{ltb-true, ltb-false}
use Rattle.sets.specs.Words.{word}
use Rattle.refusals.specs.Refusals.{number, why_of}
use Rattle.refusals.specs.declared.Why.TheVariants as Why
use Rattle.rules.specs.Statements.{Block, Stmt}
use Rattle.rules.specs.Events.{Status, present, absent, unknown, Hearing}
use Rattle.rules.specs.States.{State}
use Rattle.rules.specs.Rounds.{same, outputs_with, Answer, react}
use Rattle.theorems.specs.Traces.{InputSet, after, run}
use Rattle.likeness.specs.Runs.{SameAnswer, both_answered, both_refused, SameRun, and_then}
use Rattle.likeness.proofs.Runs.{with_body, heard_there}
use Rattle.tables.specs.Table.{kind_of, operand_of}
use Rattle.block.specs.Format.{LIMIT, Header, Good, Reading, good, turned_down, reading}
use Rattle.tables.specs.declared.kinds.Shape.{Shape}
use Rattle.tables.specs.Kinds.{shape}
use Rattle.block.specs.Told.{summary_of}
use Rattle.block.specs.declared.whole.Summary.{Summary}
use Rattle.foldheron.specs.Answers.{Checked}
use Rattle.std.specs.Prelude.{Ok, Err}
use Rattle.block.proofs.GoodReadings.{numbers as refusal_numbers}
use Rattle.foldheron.specs.Answers.{check_values, check_owed}
use Rattle.foldheron.proofs.Owed.{check_told_apart}
use Rattle.records.specs.Numerals.{Bytes, in_bytes}
use Rattle.writing.specs.Written.{operand_bytes, shaped_bytes, records, header_bytes, block_bytes, written}
use Rattle.foldheron.specs.Answers.{Wrote, refusal_at}
use Rattle.copies.proofs.double_loops.Kinds as double_kinds
use Rattle.copies.proofs.double_loops.Reads as double_reads
use Rattle.copies.proofs.double_loops.Statement as double_statement
use Rattle.copies.proofs.double_loops.Met as double_met
use Rattle.writing.specs.Answers.{Writing, writes, refuses, roomed, wrote_values, wrote_owed, out_owed}
use Rattle.doubled.specs.Copies.{doubled, doubled_header, within_limits, doubled_writing, doubling, doubling_of}
use Rattle.doubled.proofs.OnBytes.{runs_are_the_same, reads_back_good, over_a_limit_reads_4}
use Rattle.reaction.specs.Fronts.{INPUT, wrong_inputs}
use Rattle.reaction.specs.Instants.{ROOM, block_of, heard_of, told_refusal, told_reaction}
use Rattle.reaction.specs.declared.Given.{Given}
use Rattle.reaction.specs.declared.Given.TheVariants.{All, Two}
use Rattle.foldheron.specs.Answers.{Instant}
use Rattle.promises.specs.Beside.{Ran, Each, SameButActive}
use Rattle.promises.specs.Doubling.{GoodToo, SameBlockDoubled, WroteDoubled, LimitOfDoubled, doubled_bytes, PassesLimit, TooFewLent, double_tests}
use Rattle.promises.specs.Calls.{CheckCalled, DoubleCalled}
use Rattle.promises.specs.Tests.{Test, First}
use Rattle.promises.specs.Demand1.{Returns, ExactlyOne, one_to_8, number_in, place_in, PlacedBy, in_block, at_0}
use Rattle.promises.specs.Promised.{input_set}
use Rattle.promises.proofs.Records.{no_bytes, both_bytes, in_bytes_bytes}
use Rattle.promises.proofs.Learnt.{check_says, double_says}
use Rattle.promises.proofs.Exists.{named_in_block}
use Rattle.promises.proofs.FirstRecord.{turned_down_decides}
use Rattle.promises.proofs.FirstRefusal.{past_block, of_the_block}
use Rattle.promises.proofs.Demand1.{anywhere}
use Rattle.promises.proofs.Likeness.{one_reading}
use Rattle.promises.proofs.Calls.{good_is_read}
use Rattle.promises.proofs.Written.{wrote_told_apart, refused_stays}
use Rattle.promises.proofs.Beside.{few, declared, answer_from, told_from_fresh, beside}

abbrev InLimits : Good → Type 0
InLimits g = within_limits (doubled_header g.header g.body) (doubled g.header g.body) ≡ true

-- A block's bytes are bytes.
operand_is_bytes : (n x : ℕ) → Bytes (operand_bytes n x)
operand_is_bytes zero x = no_bytes
operand_is_bytes (suc n) x = in_bytes_bytes 2 x

record_is_bytes : (k x : ℕ) (o : Option Shape) → Bytes (shaped_bytes k x o)
unfolding shaped_bytes
record_is_bytes k x None = no_bytes
record_is_bytes k x (Some s) = both_bytes _ _ (in_bytes_bytes 2 s.length) (both_bytes _ _ (in_bytes_bytes 2 k) (operand_is_bytes s.operands x))

records_are_bytes : (ps : List Stmt) → Bytes (records ps)
unfolding records
records_are_bytes [] = no_bytes
records_are_bytes (p ∷ ps) = both_bytes _ _ (record_is_bytes (kind_of p) (operand_of p) (shape (kind_of p))) (records_are_bytes ps)

pub block_is_bytes : (h : Header) (t : Stmt) → Bytes (block_bytes h t)
unfolding block_bytes header_bytes
block_is_bytes h t = both_bytes _ _ (field 14 _ (field 1 _ (field 1 _ (field h.version _ (field h.inputs _ (field h.outputs _ (in_bytes_bytes 2 h.locals))))))) (records_are_bytes _)
  where
    field : (x : ℕ) (rest : List ℕ) → Bytes rest → Bytes (in_bytes 2 x ++ rest)
    field x rest b = both_bytes (in_bytes 2 x) rest (in_bytes_bytes 2 x) b

-- The same answer is told the same, of blocks with as many inputs.
same_outputs : (v : Status) (b d : Block) → b.inputs ≡ d.inputs → (vs : List Status) → word 64 (outputs_with v b vs) ≡ word 64 (outputs_with v d vs)
unfolding outputs_with
same_outputs v b d e vs = ap (λ (i : ℕ). word 64 (λ n. leb i n && same (get_or vs (n - i) unknown) v)) e

pub told_same : (b d : Block) → b.inputs ≡ d.inputs → {x y : Answer} → SameAnswer x y → SameButActive (told_reaction b x) (told_reaction d y)
told_same b d e (both_answered {vs = vs}) = record {
  same_number = refl;
  same_place = refl;
  same_present = same_outputs present b d e vs;
  same_absent = refl;
  same_undecided = refl;
  same_code = refl;
  same_rounds = refl;
}
told_same b d e (both_refused {vs = vs}) = record {
  same_number = refl;
  same_place = refl;
  same_present = same_outputs present b d e vs;
  same_absent = same_outputs absent b d e vs;
  same_undecided = refl;
  same_code = refl;
  same_rounds = refl;
}

pub first_same : {a a' : Answer} {more more' : List Answer} → SameRun (a ∷ more) (a' ∷ more') → SameAnswer a a' × SameRun more more'
first_same (and_then s r) = (s, r)

-- A good block and its doubled one.
abbrev there : Good → Good
there g = written (doubled_header g.header g.body) (doubled g.header g.body)

module _ (b : List ℕ) (bytes : Bytes b) (g : Good) (e : reading b ≡ good g) where
  abbrev after_doubling : Block
  after_doubling = with_body (block_of g) (doubled g.header g.body)

  its_block : block_of (there g) ≡ after_doubling
  unfolding doubled_header
  its_block = refl

  same_inputs : g.header.inputs ≡ (there g).header.inputs
  unfolding doubled_header
  same_inputs = refl

  heard_same : (w : Given) → heard_of (there g) w ≡ heard_of g w
  unfolding doubled_header
  heard_same (All set) = refl
  heard_same (Two p a) = refl

  -- From here on both answer the same to whatever declared inputs come.
  record Matched (st su : State) (ws : List Given) : Type 0 where
    runs : (givens : List (InputSet (block_of g)))
        → SameRun (run (block_of g) st givens) (run after_doubling su (map (heard_there (block_of g) (doubled g.header g.body)) givens))

  onward : (st su : State) (w : Given) (ws : List Given) → wrong_inputs g.header.inputs w ≡ false → Matched st su (w ∷ ws)
      → SameButActive (told_reaction (block_of g) (answer_from g st w)) (told_reaction (block_of (there g)) (answer_from (there g) su w))
      × Matched (after st (answer_from g st w)) (after su (answer_from (there g) su w)) ws
  unfolding run declared
  onward st su w ws f q = (
    told_same (block_of g) (block_of (there g)) same_inputs (subst⁻¹ (SameAnswer (answer_from g st w)) answer_is (both []).0),
    record { runs = λ givens. subst⁻¹ (λ (a : Answer). Rest (after su a) givens) answer_is (both givens).1 },
  )
    where
      x : InputSet (block_of g)
      x = input_set (declared g (few b g e) w f)

      Rest : State → List (InputSet (block_of g)) → Type 0
      Rest s givens =
          SameRun (run (block_of g) (after st (answer_from g st w)) givens)
          (run after_doubling s (map (heard_there (block_of g) (doubled g.header g.body)) givens))

      answer_is : answer_from (there g) su w ≡ react after_doubling su (heard_of g w)
      answer_is = ap₂ (λ (d : Block) (k : Hearing). react d su k) its_block (heard_same w)

      both : (givens : List (InputSet (block_of g))) → SameAnswer (answer_from g st w) (react after_doubling su (heard_of g w)) × Rest (after su (react after_doubling su (heard_of g w))) givens
      both givens = first_same (q.runs (x ∷ givens))

  all_same : {bs : List ℕ} → reading bs ≡ good (there g) → Bytes bs → (ws : List Given) (rs rs' : List Instant) → Ran b ws rs → Ran bs ws rs' → Each SameButActive rs rs'
  all_same {bs} d bytes_there ws rs rs' x y =
      beside g (there g) same_inputs SameButActive eleven Matched (λ st su w us q. record { runs = q.runs }) onward (told_from_fresh b g e bytes x)
      (told_from_fresh bs (there g) d bytes_there y) (record { runs = runs_are_the_same b bytes g e })
    where
      eleven : SameButActive (told_refusal INPUT 0 0 0) (told_refusal INPUT 0 0 0)
      eleven = record {
        same_number = refl;
        same_place = refl;
        same_present = refl;
        same_absent = refl;
        same_undecided = refl;
        same_code = refl;
        same_rounds = refl;
      }

-- How the tests come out, each with what it found.
module _ (b : List ℕ) (lent : ℕ) (P : Writing → Type 0) (bad : (n at : ℕ) → reading b ≡ turned_down n at → P (refuses n at)) (over : PassesLimit b → P (refuses LIMIT 0))
    (short : (g : Good) → reading b ≡ good g → InLimits g → lent < length (doubled_bytes g) → P (refuses ROOM 0))
    (fits : (g : Good) → reading b ≡ good g → InLimits g → length (doubled_bytes g) ≤ lent → P (writes (doubled_bytes g))) where
  by_tests : P (roomed (doubling b) lent)
  unfolding doubling doubling_of doubled_writing roomed
  by_tests = go (reading b) refl
    where
      roomy : (g : Good) → reading b ≡ good g → InLimits g → (x : Bool) → ltb lent (length (doubled_bytes g)) ≡ x → P (cond x (refuses ROOM 0) (writes (doubled_bytes g)))
      roomy g e w true q = short g e w (ltb-true lent (length (doubled_bytes g)) q)
      roomy g e w false q = fits g e w (ltb-false lent (length (doubled_bytes g)) q)

      limited : (g : Good) → reading b ≡ good g → (x : Bool) → within_limits (doubled_header g.header g.body) (doubled g.header g.body) ≡ x
          → P (roomed (cond x (writes (doubled_bytes g)) (refuses LIMIT 0)) lent)
      limited g e true q = roomy g e q (ltb lent (length (doubled_bytes g))) refl
      limited g e false q = over (record { block = g; is_good = e; over = q })

      go : (x : Reading) → reading b ≡ x → P (roomed (doubling_of x) lent)
      go (turned_down n at) e = bad n at e
      go (good g) e = limited g e _ refl

-- Nothing is asked of a caller, and the call returns;
pub double_loops_returns : Returns 2 double_kinds.ps double_reads.Asked double_statement.statement
double_loops_returns = record { nothing_asked = λ κs a. tt; returns = λ M. double_met.met }

-- for all that is lent there is exactly one answer, with exactly one content of each lent byte afterwards.
nth : ℕ → List ℕ → ℕ
nth n l = get_or l n 0

a_doubling : (b : List ℕ) (lent : ℕ) → (r : Wrote) × (wrote_values r ≡ wrote_owed (roomed (doubling b) lent))
unfolding wrote_values wrote_owed number
a_doubling b lent =
    by_tests b lent (λ w. (r : Wrote) × (wrote_values r ≡ wrote_owed w))
    (λ n at e. (Err (refusal_at (why_of n) at), ap (λ (m : ℕ). m ∷ at ∷ 0 ∷ []) (named_in_block b n at e))) (λ p. (Err (refusal_at Why.Limit 0), refl))
    (λ g e w l. (Err (refusal_at Why.Room 0), refl)) (λ g e w l. (Ok (length (doubled_bytes g)), refl))

pub double_loops_has_one_answer : (b out : List ℕ) → ExactlyOne (λ (x : Wrote × List ℕ). DoubleCalled b out x.0 x.1)
double_loops_has_one_answer b out =
    let a = a_doubling b (length out) in
    record {
      the_one = (a.0, out_owed (roomed (doubling b) (length out)) out);
      it_is = record { call = record { lifetimes = ([], ([], tt)); places = anywhere; learnt = (a.1, refl) } };
      no_other = λ x c i. (wrote_told_apart x.0 a.0 ((double_says c).0 ∙ sym a.1) i, (double_says c).1 i);
    }

module _ (b : List ℕ) where
  -- "Refusals: 1 to 8, 4 where the doubled block passes a limit (place 0), 12 for the output": the number given back is that of the first test in this order that applies;
  abbrev late : ℕ → List Test
  late lent = record { number = LIMIT; Applies = PassesLimit b } ∷ record { number = ROOM; Applies = TooFewLent b lent } ∷ []

  written_doubled : (g : Good) → reading b ≡ good g → InLimits g → doubling b ≡ writes (doubled_bytes g)
  unfolding doubling doubling_of doubled_writing
  written_doubled g e w = ap doubling_of e ∙ ap (λ (x : Bool). cond x (writes (doubled_bytes g)) (refuses LIMIT 0)) w

  in_limits : (g : Good) → reading b ≡ good g → InLimits g → PassesLimit b → ⊥
  in_limits g e w t =
      true≢false (sym w ∙ ap (λ (x : Good). within_limits (doubled_header x.header x.body) (doubled x.header x.body)) (one_reading b t.block g t.is_good e) ∙ t.over)

  roomed_first : (lent : ℕ) → First (double_tests b lent) (number_in (wrote_owed (roomed (doubling b) lent)))
  unfolding wrote_owed
  roomed_first lent =
      by_tests b lent (λ w. First (double_tests b lent) (number_in (wrote_owed w))) (λ n at e. of_the_block b n at e (late lent))
      (λ p. past_block b p.block p.is_good one_to_8 (late lent) LIMIT (inl (p, refl)))
      (λ g e w l. past_block b g e one_to_8 (late lent) ROOM (inr (in_limits g e w, inl (record { block = g; is_good = e; fewer = l }, refl))))
      (λ g e w l. past_block b g e one_to_8 (late lent) 0 (inr (in_limits g e w, inr (has_room g e l, refl))))
    where
      has_room : (g : Good) → reading b ≡ good g → length (doubled_bytes g) ≤ lent → TooFewLent b lent → ⊥
      has_room g e l t =
          let k : lent < length (doubled_bytes g) = subst (λ (x : Good). lent < length (doubled_bytes x)) (one_reading b g t.block e t.is_good) t.fewer in
          omega arith

  pub double_loops_gives_the_first : {out out' : List ℕ} {r : Wrote} → DoubleCalled b out r out' → First (double_tests b (length out)) (number_in (wrote_values r))
  double_loops_gives_the_first {out} c = subst (First (double_tests b (length out))) (sym (ap number_in (double_says c).0)) (roomed_first (length out))

  -- its place is where the block is turned down, else 0;
  pub double_loops_gives_its_place : {out out' : List ℕ} {r : Wrote} → DoubleCalled b out r out' → PlacedBy b (number_in (wrote_values r)) (place_in (wrote_values r))
  unfolding wrote_owed
  double_loops_gives_its_place {out} c = subst⁻¹ (λ (l : List ℕ). PlacedBy b (number_in l) (place_in l)) (double_says c).0
      (by_tests b (length out) (λ w. PlacedBy b (number_in (wrote_owed w)) (place_in (wrote_owed w))) (λ n at e. in_block n at (turned_down_decides b n at e))
      (λ p. at_0 LIMIT p.block p.is_good) (λ g e w l. at_0 ROOM g e) (λ g e w l. at_0 0 g e))

  -- and a refusal leaves every lent byte.
  pub a_refused_double_loops_changes_nothing : {out out' : List ℕ} {r : Wrote} → DoubleCalled b out r out' → number_in (wrote_values r) ≢ 0 → out' ≡ out
  a_refused_double_loops_changes_nothing {out} c h =
      (double_says c).1 ∙ refused_stays (roomed (doubling b) (length out)) out (λ z. h (ap number_in (double_says c).0 ∙ z))

  -- "Prove that from fresh, any input run gives the same outputs, codes and 13 on both blocks": what was written is checked Good, with the header else kept, and is told the same
  -- by calls from fresh.
  module _ (bytes : Bytes b) where
    good_too : (g : Good) → reading b ≡ good g → (bs : List ℕ) → reading bs ≡ good (there g) → {said : Summary} {r : Checked} → CheckCalled b (Ok said) → CheckCalled bs r
        → GoodToo said r
    unfolding check_values check_owed doubled_header
    good_too g e bs d {said} {r} c k =
        let x = good_is_read b said c in
        let is : said ≡ summary_of g = x.its_summary ∙ ap summary_of (one_reading b g x.block e x.its_reading) in
        record {
          says = summary_of (there g);
          is_good = check_told_apart r (Ok (summary_of (there g))) (check_says bs k ∙ ap check_owed d);
          version_kept = ap (λ (y : Summary). y.version) (sym is);
          inputs_kept = ap (λ (y : Summary). y.inputs) (sym is);
          outputs_kept = ap (λ (y : Summary). y.outputs) (sym is);
        }

    is_doubled : (g : Good) → reading b ≡ good g → InLimits g → SameBlockDoubled b (doubled_bytes g)
    is_doubled g e w =
        let d : reading (doubled_bytes g) ≡ good (there g) = reads_back_good b bytes g e (doubled_bytes g) (written_doubled g e w) in
        record {
          is_good = good_too g e (doubled_bytes g) d;
          same_answers = all_same b bytes g e d (block_is_bytes (doubled_header g.header g.body) (doubled g.header g.body));
        }

    pub the_doubled_block_is_good_and_is_told_the_same : {n : ℕ} {out out' : List ℕ} → DoubleCalled b out (Ok n) out' → WroteDoubled b out n out'
    unfolding wrote_values wrote_owed out_owed nth
    the_doubled_block_is_good_and_is_told_the_same {n} {out} {out'} c =
        by_tests b (length out) (λ w. 0 ∷ 0 ∷ n ∷ [] ≡ wrote_owed w → out' ≡ out_owed w out → WroteDoubled b out n out')
        (λ k at e v q. let z : 0 ≡ k = ap (nth 0) v in let l : 1 ≤ k = (refusal_numbers b k at e).0 in absurd (omega arith))
        (λ p v q. let z : ◌≡◌ {A = ℕ} 0 4 = ap (nth 0) v in absurd (omega arith))
        (λ g e w l v q. let z : ◌≡◌ {A = ℕ} 0 12 = ap (nth 0) v in absurd (omega arith))
        (λ g e w l v q. wrote g e w (ap (nth 2) v) q) (double_says c).0 (double_says c).1
      where
        wrote : (g : Good) → reading b ≡ good g → InLimits g → n ≡ length (doubled_bytes g) → out' ≡ doubled_bytes g ++ drop (length (doubled_bytes g)) out → WroteDoubled b out n out'
        wrote g e w k q =
            let front_is : take n out' ≡ doubled_bytes g = ap (take n) q ∙ take_at (doubled_bytes g) (drop (length (doubled_bytes g)) out) n (sym k) in
            record {
              doubled_block = subst⁻¹ (SameBlockDoubled b) front_is (is_doubled g e w);
              n_of_them = ap length front_is ∙ sym k;
              rest_stays = ap (drop n) q ∙ drop_at (doubled_bytes g) (drop (length (doubled_bytes g)) out) n (sym k) ∙ ap (λ (i : ℕ). drop i out) (sym k);
            }

    abbrev OverLimits : Good → Type 0
    OverLimits g = within_limits (doubled_header g.header g.body) (doubled g.header g.body) ≡ false

    record Limits (v u : ℕ) : Type 0 where
      back : u ≡ LIMIT → v ≡ LIMIT
      there : v ≡ LIMIT → u ≡ LIMIT
      else_good : v ≢ LIMIT → u ≡ 0

    not_both : (n at : ℕ) (g : Good) → turned_down n at ≡ good g → ⊥
    not_both n at g q = let z : ◌≡◌ {A = ℕ} 0 1 = cc in absurd (omega arith)

    over : (g : Good) → reading b ≡ good g → OverLimits g → Limits LIMIT (number_in (check_owed (reading (doubled_bytes g))))
    unfolding check_owed
    over g e q =
        let x = over_a_limit_reads_4 b bytes g e q in
        let u : number_in (check_owed (reading (doubled_bytes g))) ≡ LIMIT = ap (λ (y : Reading). number_in (check_owed y)) x.1 in
        record { back = λ z. refl; there = λ z. u; else_good = λ z. absurd (z refl) }

    within : (g : Good) → reading b ≡ good g → (n : ℕ) → n ≢ LIMIT → InLimits g → Limits n (number_in (check_owed (reading (doubled_bytes g))))
    unfolding check_owed
    within g e n f w =
        let d = reads_back_good b bytes g e (doubled_bytes g) (written_doubled g e w) in
        let u : number_in (check_owed (reading (doubled_bytes g))) ≡ 0 = ap (λ (y : Reading). number_in (check_owed y)) d in
        record { back = λ z. let y : ◌≡◌ {A = ℕ} 0 4 = sym u ∙ z in absurd (omega arith); there = λ z. absurd (f z); else_good = λ z. u }

    -- 4 is given exactly where the doubled block's own bytes are turned down with 4. (They are `doubled_bytes`; with over 65,535 locals the header's two bytes hold the count's remainder,
    -- but then the bytes are over 3,086, which is 4 before the header is read.)
    pub four_exactly_where_the_doubled_bytes_are_4 : (g : Good) → reading b ≡ good g → {out out' : List ℕ} {r : Wrote} {c : Checked} → DoubleCalled b out r out'
        → CheckCalled (doubled_bytes g) c → LimitOfDoubled r c
    unfolding wrote_owed
    four_exactly_where_the_doubled_bytes_are_4 g e {out} {out'} {r} {c} d k =
        let x = by_tests b (length out) (λ w. Limits (number_in (wrote_owed w)) (number_in (check_owed (reading (doubled_bytes g))))) (λ n at q. absurd (not_both n at g (sym q ∙ e)))
        (λ p. over g e (subst (λ (x : Good). OverLimits x) (one_reading b g p.block e p.is_good) p.over))
        (λ h q w l. within g e ROOM (λ z. omega arith) (subst (λ (x : Good). InLimits x) (one_reading b g h e q) w))
        (λ h q w l. within g e 0 (λ z. omega arith) (subst (λ (x : Good). InLimits x) (one_reading b g h e q) w)) in
        let v = ap number_in (double_says d).0 in
        let u = ap number_in (check_says (doubled_bytes g) k) in
        record {
          four_where_four = λ z. v ∙ x.back (sym u ∙ z);
          only_there = λ z. u ∙ x.there (sym v ∙ z);
          good_else = λ z. u ∙ x.else_good (λ y. z (v ∙ y));
        }
