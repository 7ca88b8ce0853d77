-- Request 9 over the calls (`specs/Conversion`). What was written is the conversion's bytes, which read back good; along the calls on them goes one run of the direct meaning, of
-- which it is proved that both answer the same. Assumes nothing.
use mathlib.Core.Path.{◌≡◌, refl, sym, ap, ◌∙◌, subst, subst⁻¹}
use mathlib.Core.Logic.{inl, inr, ◌≢◌}
use mathlib.Core.Bool.{Bool, true, false, cond, ◌||◌, true≢false}
use mathlib.Core.List.{List, [], ◌∷◌, ◌++◌, map}
use Prim.Native.Nat.{ℕ, ◌≤◌, ◌<◌}
use native.Mathlib.Omega.{arith}
use lib.Dec.{T, lit≤, eqb, ltb}
use lib.ListN.{length}
use borrow.Author.Tests.{eqb-true, eqb-false, ltb-true, ltb-false}
use Rattle.sets.specs.Numbers.{listed}
use Rattle.refusals.proofs.Laws.{number_back, of_a_block}
use Rattle.rules.specs.Events.{Hearing}
use Rattle.rules.specs.States.{State, fresh}
use Rattle.theorems.specs.Traces.{InputSet, after, run}
use Rattle.likeness.specs.Runs.{SameAnswer, SameRun}
use Rattle.likeness.proofs.Runs.{heard_there}
use Rattle.block.specs.Format.{LIMIT, Header, Good, Reading, good, reading}
use Rattle.block.specs.Told.{summary_of}
use Rattle.foldheron.specs.Answers.{Checked}
use Rattle.std.specs.Prelude.{Ok}
use Rattle.foldheron.specs.Answers.{check_values, check_owed}
use Rattle.foldheron.proofs.Owed.{check_told_apart}
use Rattle.records.specs.Numerals.{Bytes}
use Rattle.writing.specs.Written.{written}
use Rattle.foldheron.specs.Answers.{Wrote}
use Rattle.writing.specs.Answers.{Writing, writes, refuses, roomed, wrote_values, wrote_owed, out_owed}
use Rattle.doubled.specs.Copies.{within_limits}
use Rattle.everyday.specs.Statements.{Everyday}
use Rattle.everyday.specs.Conversion.{converted}
use Rattle.everyday.specs.Instants.{Block₂, interface, react₂, run₂}
use Rattle.everyday.proofs.Runs.{conversion}
use Rattle.converting.specs.Format.{Reading₂, good₂, turned_down₂, reading₂}
use Rattle.converting.specs.Conversions.{converting, converting_of, converting_tree}
use Rattle.converting.proofs.OnBytes.{runs_agree, reads_back_good, over_a_limit_reads_4}
use Rattle.convert.proofs.convert.Kinds as convert_kinds
use Rattle.convert.proofs.convert.Reads as convert_reads
use Rattle.convert.proofs.convert.Statement as convert_statement
use Rattle.convert.proofs.convert.Met as convert_met
use Rattle.reaction.specs.Fronts.{INPUT, wrong_inputs}
use Rattle.reaction.specs.Instants.{ROOM, block_of, heard_in, heard_of, Told, told_refusal, told_reaction}
use Rattle.reaction.specs.declared.Given.{Given}
use Rattle.reaction.specs.declared.Given.TheVariants.{All, Two}
use Rattle.foldheron.specs.Answers.{Instant}
use Rattle.promises.specs.Beside.{SameButActive}
use Rattle.promises.specs.Conversion.{meant, told_directly, ToldAs, at_end, and_then, wide_block, GoodWith, MeansTheSame, WroteConverted, converted_bytes}
use Rattle.promises.specs.Conversion.{LimitOfConverted, PassesLimitWide, TooFewLentWide, of_wide, late_tests, convert_tests, PlacedWide, in_block, at_0}
use Rattle.promises.specs.Calls.{CheckCalled, ConvertCalled}
use Rattle.promises.specs.Tests.{Test, First}
use Rattle.promises.specs.Demand1.{Returns, ExactlyOne, one_to_8, number_in, place_in}
use Rattle.promises.specs.Promised.{input_set}
use Rattle.promises.proofs.Learnt.{check_says, convert_says}
use Rattle.promises.proofs.FirstRefusal.{among}
use Rattle.promises.proofs.Demand1.{anywhere}
use Rattle.promises.proofs.Written.{Named, an_answer, wrote_told_apart, refused_stays, InFront, written_in_front}
use Rattle.promises.proofs.Beside.{few, declared, answer_from, ToldFrom, nothing_told, refused_11, reacts, told_from_fresh}
use Rattle.promises.proofs.Doubling.{block_is_bytes, told_same, first_same}
use Rattle.promises.proofs.ConversionNumbers.{numbers₂, named₂}

same_told : (t : Told) → SameButActive t t
same_told t = record {
  same_number = refl;
  same_place = refl;
  same_present = refl;
  same_absent = refl;
  same_undecided = refl;
  same_code = refl;
  same_rounds = refl;
}

-- Along a run of calls on the conversion goes the direct meaning.
module _ (h : Header) (p : Everyday) where
  abbrev wide : Block₂
  wide = wide_block h p

  abbrev there : Good
  there = written h (converted p)

  heard_same : (w : Given) → heard_in (interface wide) w ≡ heard_of there w
  heard_same (All set) = refl
  heard_same (Two p a) = refl

  -- From here on both answer the same to whatever declared inputs come.
  record Matched (st su : State) : Type 0 where
    runs : (givens : List (InputSet (interface wide))) → SameRun (run₂ wide st givens) (run (conversion wide) su (map (heard_there (interface wide) (converted p)) givens))

  module _ (bs : List ℕ) (d : reading bs ≡ good there) where
    onward : (st su : State) (w : Given) → wrong_inputs h.inputs w ≡ false → Matched st su
        → SameButActive (told_reaction (interface wide) (meant wide st w)) (told_reaction (block_of there) (answer_from there su w)) × Matched (after st (meant wide st w)) (after su (answer_from there su w))
    unfolding run run₂ declared
    onward st su w f q =
        subst⁻¹ (λ (k : Hearing).
        SameButActive (told_reaction (interface wide) (react₂ wide st k)) (told_reaction (block_of there) (answer_from there su w))
        × Matched (after st (react₂ wide st k)) (after su (answer_from there su w))) (heard_same w)
        (told_same (interface wide) (block_of there) refl (both []).0, record { runs = λ givens. (both givens).1 })
      where
        its_set : InputSet (block_of there)
        its_set = input_set (declared there (few bs there d) w f)

        x : InputSet (interface wide)
        x = record { heard = its_set.heard; present_declared = its_set.present_declared; absent_declared = its_set.absent_declared; apart = its_set.apart }

        Rest : List (InputSet (interface wide)) → Type 0
        Rest givens =
            SameRun (run₂ wide (after st (react₂ wide st (heard_of there w))) givens)
            (run (conversion wide) (after su (answer_from there su w)) (map (heard_there (interface wide) (converted p)) givens))

        both : (givens : List (InputSet (interface wide))) → SameAnswer (react₂ wide st (heard_of there w)) (answer_from there su w) × Rest givens
        both givens = first_same (q.runs (x ∷ givens))

    as_told : {su : State} {ws : List Given} {rs : List Instant} → ToldFrom there su ws rs → (st : State) → Matched st su → ToldAs SameButActive (told_directly wide st ws) rs
    unfolding told_directly
    as_told nothing_told st q = at_end
    as_told (refused_11 {w = w} {ws = ws} {r = r} {rs = rs} f e t) st q =
        subst⁻¹ (λ (x : Bool). ToldAs SameButActive (cond x (told_refusal INPUT 0 0 0 ∷ told_directly wide st ws)
        (told_reaction (interface wide) (meant wide st w) ∷ told_directly wide (after st (meant wide st w)) ws)) (r ∷ rs)) f
        (and_then (subst⁻¹ (SameButActive (told_refusal INPUT 0 0 0)) e (same_told (told_refusal INPUT 0 0 0))) (as_told t st q))
    as_told (reacts {st = su} {w = w} {ws = ws} {r = r} {rs = rs} f e t) st q =
        let y = onward st su w f q in
        subst⁻¹ (λ (x : Bool). ToldAs SameButActive (cond x (told_refusal INPUT 0 0 0 ∷ told_directly wide st ws)
        (told_reaction (interface wide) (meant wide st w) ∷ told_directly wide (after st (meant wide st w)) ws)) (r ∷ rs)) f
        (and_then (subst⁻¹ (SameButActive (told_reaction (interface wide) (meant wide st w))) e y.0) (as_told t (after st (meant wide st w)) y.1))

module _ (b : List ℕ) where
  abbrev InLimits : Header → Everyday → Type 0
  InLimits h p = within_limits h (converted p) ≡ true

  one_reading : (h k : Header) (p q : Everyday) → reading₂ b ≡ good₂ h p → reading₂ b ≡ good₂ k q → (h ≡ k) × (p ≡ q)
  one_reading h k p q e d = let x : good₂ h p ≡ good₂ k q = sym e ∙ d in (cc, cc)

  -- How the tests come out, each with what it found.
  module _ (lent : ℕ) (P : Writing → Type 0) (bad : (n at : ℕ) → reading₂ b ≡ turned_down₂ n at → P (refuses n at)) (over : PassesLimitWide b → P (refuses LIMIT 0))
      (short : (h : Header) (p : Everyday) → reading₂ b ≡ good₂ h p → InLimits h p → lent < length (converted_bytes h p) → P (refuses ROOM 0))
      (fits : (h : Header) (p : Everyday) → reading₂ b ≡ good₂ h p → InLimits h p → length (converted_bytes h p) ≤ lent → P (writes (converted_bytes h p))) where
    by_tests : P (roomed (converting b) lent)
    unfolding converting converting_of converting_tree roomed
    by_tests = go (reading₂ b) refl
      where
        roomy : (h : Header) (p : Everyday) → reading₂ b ≡ good₂ h p → InLimits h p → (x : Bool) → ltb lent (length (converted_bytes h p)) ≡ x
            → P (cond x (refuses ROOM 0) (writes (converted_bytes h p)))
        roomy h p e w true q = short h p e w (ltb-true lent (length (converted_bytes h p)) q)
        roomy h p e w false q = fits h p e w (ltb-false lent (length (converted_bytes h p)) q)

        limited : (h : Header) (p : Everyday) → reading₂ b ≡ good₂ h p → (x : Bool) → within_limits h (converted p) ≡ x
            → P (roomed (cond x (writes (converted_bytes h p)) (refuses LIMIT 0)) lent)
        limited h p e true q = roomy h p e q (ltb lent (length (converted_bytes h p))) refl
        limited h p e false q = over (record { block = record { header = h; body = p; is_read = e }; over = q })

        go : (x : Reading₂) → reading₂ b ≡ x → P (roomed (converting_of x) lent)
        go (turned_down₂ n at) e = bad n at e
        go (good₂ h p) e = limited h p e _ refl

  named : Named (converting b)
  unfolding Named converting converting_of converting_tree
  named = go (reading₂ b) refl
    where
      limited : (x : Bool) (bs : List ℕ) → Named (cond x (writes bs) (refuses LIMIT 0))
      limited true bs = tt
      limited false bs = number_back LIMIT (of_a_block LIMIT (lit≤ tt) (lit≤ tt))

      go : (x : Reading₂) → reading₂ b ≡ x → Named (converting_of x)
      go (turned_down₂ n at) e = named₂ b n at e
      go (good₂ h p) e = limited (within_limits h (converted p)) (converted_bytes h p)

-- Nothing is asked of a caller, and the call returns;
pub convert_returns : Returns 2 convert_kinds.ps convert_reads.Asked convert_statement.statement
convert_returns = record { nothing_asked = λ κs a. tt; returns = λ M. convert_met.met }

-- for all that is lent there is exactly one answer, with exactly one content of each lent byte afterwards.
pub convert_has_one_answer : (b out : List ℕ) → ExactlyOne (λ (x : Wrote × List ℕ). ConvertCalled b out x.0 x.1)
convert_has_one_answer b out =
    let a = an_answer (converting b) (length out) (named b) in
    record {
      the_one = (a.0, out_owed (roomed (converting b) (length out)) out);
      it_is = record { call = record { lifetimes = ([], ([], tt)); places = anywhere; learnt = (a.1, refl) } };
      no_other = λ x c i. (wrote_told_apart x.0 a.0 ((convert_says c).0 ∙ sym a.1) i, (convert_says c).1 i);
    }

module _ (b : List ℕ) where
  -- "1 to 8 on its input, 4 where the result passes a limit (place 0), 12 for too small an output": the number given back is that of the first test in this order that applies;
  past_wide : (h : Header) (p : Everyday) → reading₂ b ≡ good₂ h p → (ns : List ℕ) (ts : List Test) (n : ℕ) → First ts n → First (of_wide b ns ++ ts) n
  past_wide h p e [] ts n f = f
  past_wide h p e (k ∷ ns) ts n f = inr ((λ t. good_or_not (sym e ∙ t.is_read)), past_wide h p e ns ts n f)
    where
      good_or_not : {at : ℕ} → good₂ h p ≡ turned_down₂ k at → ⊥
      good_or_not q = let z : ◌≡◌ {A = ℕ} 0 1 = cc in absurd (omega arith)

  one_of : (n at : ℕ) → reading₂ b ≡ turned_down₂ n at → (ns : List ℕ) → T (listed ns n) → (ts : List Test) → First (of_wide b ns ++ ts) n
  unfolding listed
  one_of n at e [] h ts = absurd h
  one_of n at e (k ∷ ns) h ts = go (eqb n k) refl h (λ l. one_of n at e ns l ts)
    where
      same_number : {place : ℕ} → turned_down₂ n at ≡ turned_down₂ k place → n ≡ k
      same_number q = cc

      go : (x : Bool) → eqb n k ≡ x → T (x || listed ns n) → (T (listed ns n) → First (of_wide b ns ++ ts) n) → First (of_wide b (k ∷ ns) ++ ts) n
      go true q h rest =
          let d : n ≡ k = eqb-true n k q in
          inl (record { place = at; is_read = e ∙ ap (λ (m : ℕ). turned_down₂ m at) d }, d)
      go false q h rest = inr ((λ t. eqb-false n k q (same_number (sym e ∙ t.is_read))), rest h)

  in_limits : (h : Header) (p : Everyday) → reading₂ b ≡ good₂ h p → InLimits b h p → PassesLimitWide b → ⊥
  in_limits h p e w t =
      let s = one_reading b h t.block.header p t.block.body e t.block.is_read in
      true≢false (sym w ∙ (λ i. within_limits (s.0 i) (converted (s.1 i))) ∙ t.over)

  roomed_first : (lent : ℕ) → First (convert_tests b lent) (number_in (wrote_owed (roomed (converting b) lent)))
  unfolding wrote_owed
  roomed_first lent =
      by_tests b lent (λ w. First (convert_tests b lent) (number_in (wrote_owed w)))
      (λ n at e. let r = numbers₂ b n at e in one_of n at e one_to_8 (among n r.0 r.1) (late_tests b lent))
      (λ t. past_wide t.block.header t.block.body t.block.is_read one_to_8 (late_tests b lent) LIMIT (inl (t, refl)))
      (λ h p e w l. past_wide h p e one_to_8 (late_tests b lent) ROOM (inr (in_limits h p e w, inl (record { block = record { header = h; body = p; is_read = e }; fewer = l }, refl))))
      (λ h p e w l. past_wide h p e one_to_8 (late_tests b lent) 0 (inr (in_limits h p e w, inr (has_room h p e l, refl))))
    where
      has_room : (h : Header) (p : Everyday) → reading₂ b ≡ good₂ h p → length (converted_bytes h p) ≤ lent → TooFewLentWide b lent → ⊥
      has_room h p e l t =
          let s = one_reading b t.block.header h t.block.body p t.block.is_read e in
          let k : lent < length (converted_bytes h p) = subst (λ (n : ℕ). lent < n) (λ i. length (converted_bytes (s.0 i) (s.1 i))) t.fewer in
          omega arith

  pub convert_gives_the_first : {out out' : List ℕ} {r : Wrote} → ConvertCalled b out r out' → First (convert_tests b (length out)) (number_in (wrote_values r))
  convert_gives_the_first {out} c = subst (First (convert_tests b (length out))) (sym (ap number_in (convert_says c).0)) (roomed_first (length out))

  -- its place is where the block is turned down, else 0;
  pub convert_gives_its_place : {out out' : List ℕ} {r : Wrote} → ConvertCalled b out r out' → PlacedWide b (number_in (wrote_values r)) (place_in (wrote_values r))
  unfolding wrote_owed
  convert_gives_its_place {out} c = subst⁻¹ (λ (l : List ℕ). PlacedWide b (number_in l) (place_in l)) (convert_says c).0
      (by_tests b (length out) (λ w. PlacedWide b (number_in (wrote_owed w)) (place_in (wrote_owed w))) (λ n at e. in_block n at e) (λ t. at_0 LIMIT t.block)
      (λ h p e w l. at_0 ROOM (record { header = h; body = p; is_read = e })) (λ h p e w l. at_0 0 (record { header = h; body = p; is_read = e })))

  -- and a refusal leaves every lent byte.
  pub a_refused_convert_changes_nothing : {out out' : List ℕ} {r : Wrote} → ConvertCalled b out r out' → number_in (wrote_values r) ≢ 0 → out' ≡ out
  a_refused_convert_changes_nothing {out} c k =
      (convert_says c).1 ∙ refused_stays (roomed (converting b) (length out)) out (λ z. k (ap number_in (convert_says c).0 ∙ z))

  -- "Prove the conversion agrees with it from fresh in outputs, codes and refusals 13": what was written is checked Good, with the header else kept, and is told by calls from fresh
  -- what the block means.
  module _ (bytes : Bytes b) where
    good_with : (h : Header) (p : Everyday) (bs : List ℕ) → reading bs ≡ good (written h (converted p)) → {r : Checked} → CheckCalled bs r → GoodWith h r
    unfolding check_values check_owed
    good_with h p bs d {r} k = record {
      says = summary_of (written h (converted p));
      is_good = check_told_apart r (Ok (summary_of (written h (converted p)))) (check_says bs k ∙ ap check_owed d);
      version_kept = refl;
      inputs_kept = refl;
      outputs_kept = refl;
      locals_kept = refl;
    }

    written_converted : (h : Header) (p : Everyday) → reading₂ b ≡ good₂ h p → InLimits b h p → converting b ≡ writes (converted_bytes h p)
    unfolding converting converting_of converting_tree
    written_converted h p e w = ap converting_of e ∙ ap (λ (x : Bool). cond x (writes (converted_bytes h p)) (refuses LIMIT 0)) w

    means_the_same : (h : Header) (p : Everyday) → reading₂ b ≡ good₂ h p → (bs : List ℕ) → converting b ≡ writes bs → bs ≡ converted_bytes h p → MeansTheSame h p bs
    means_the_same h p e bs w is =
        let d : reading bs ≡ good (written h (converted p)) = reads_back_good b bytes h p e bs w in
        record {
          is_good = good_with h p bs d;
          as_meant = λ ws rs x.
              as_told h p bs d (told_from_fresh bs (written h (converted p)) d (subst⁻¹ Bytes is (block_is_bytes h (converted p))) x) fresh
              (record { runs = runs_agree b bytes h p e });
        }

    bytes_are : (h : Header) (p : Everyday) → reading₂ b ≡ good₂ h p → (bs : List ℕ) → converting b ≡ writes bs → bs ≡ converted_bytes h p
    unfolding converting converting_of converting_tree
    bytes_are h p e bs w = cases (within_limits h (converted p)) (sym (ap converting_of e) ∙ w)
      where
        cases : (x : Bool) → cond x (writes (converted_bytes h p)) (refuses LIMIT 0) ≡ writes bs → bs ≡ converted_bytes h p
        cases true q = cc
        cases false q = let z : ◌≡◌ {A = ℕ} 0 1 = cc in absurd (omega arith)

    pub the_converted_block_is_good_and_means_the_same : {n : ℕ} {out out' : List ℕ} → ConvertCalled b out (Ok n) out' → WroteConverted b out n out'
    unfolding converting converting_of
    the_converted_block_is_good_and_means_the_same {n} {out} {out'} c =
        let f = written_in_front (converting b) (named b) out n out' (convert_says c).0 (convert_says c).1 in
        go f (reading₂ b) refl
      where
        go : InFront (converting b) out n out' → (x : Reading₂) → reading₂ b ≡ x → WroteConverted b out n out'
        go f (turned_down₂ k at) e =
            let z : refuses k at ≡ writes f.bytes = sym (ap converting_of e) ∙ f.to_write in
            let y : ◌≡◌ {A = ℕ} 0 1 = cc in absurd (omega arith)
        go f (good₂ h p) e = record {
          block = record { header = h; body = p; is_read = e };
          converted_block = subst⁻¹ (MeansTheSame h p) f.in_front (means_the_same h p e f.bytes f.to_write (bytes_are h p e f.bytes f.to_write));
          n_of_them = f.n_of_them;
          rest_stays = f.rest_stays;
        }

    record Limits (v u : ℕ) : Type 0 where
      back : u ≡ LIMIT → v ≡ LIMIT
      there : v ≡ LIMIT → u ≡ LIMIT
      else_good : v ≢ LIMIT → u ≡ 0

    module _ (h : Header) (p : Everyday) (e : reading₂ b ≡ good₂ h p) where
      checked : ℕ
      checked = number_in (check_owed (reading (converted_bytes h p)))

      over : within_limits h (converted p) ≡ false → Limits LIMIT checked
      unfolding check_owed checked
      over q =
          let u : number_in (check_owed (reading (converted_bytes h p))) ≡ LIMIT = ap (λ (y : Reading). number_in (check_owed y)) (over_a_limit_reads_4 b bytes h p e q).1 in
          record { back = λ z. refl; there = λ z. u; else_good = λ z. absurd (z refl) }

      within : (n : ℕ) → n ≢ LIMIT → InLimits b h p → Limits n checked
      unfolding check_owed checked
      within n f w =
          let d = reads_back_good b bytes h p e (converted_bytes h p) (written_converted h p e w) in
          let u : number_in (check_owed (reading (converted_bytes h p))) ≡ 0 = ap (λ (y : Reading). number_in (check_owed y)) d in
          record { back = λ z. let y : ◌≡◌ {A = ℕ} 0 4 = sym u ∙ z in absurd (omega arith); there = λ z. absurd (f z); else_good = λ z. u }

      again : (k : Header) (q : Everyday) → reading₂ b ≡ good₂ k q → (x : Bool) → within_limits k (converted q) ≡ x → within_limits h (converted p) ≡ x
      again k q d x w = let s = one_reading b h k p q e d in (λ i. within_limits (s.0 i) (converted (s.1 i))) ∙ w

      -- 4 is given exactly where the conversion's own bytes are turned down with 4.
      pub four_exactly_where_the_converted_bytes_are_4 : {out out' : List ℕ} {r : Wrote} {c : Checked} → ConvertCalled b out r out' → CheckCalled (converted_bytes h p) c → LimitOfConverted r c
      unfolding wrote_owed checked
      four_exactly_where_the_converted_bytes_are_4 {out} {out'} {r} {c} d k =
          let x = by_tests b (length out) (λ w. Limits (number_in (wrote_owed w)) checked) (λ n at q. absurd (not_both n at (sym q ∙ e)))
          (λ t. over (again t.block.header t.block.body t.block.is_read false t.over))
          (λ g q s w l. within ROOM (λ z. omega arith) (again g q s true w)) (λ g q s w l. within 0 (λ z. omega arith) (again g q s true w)) in
          let v = ap number_in (convert_says d).0 in
          let u = ap number_in (check_says (converted_bytes h p) k) in
          record {
            four_where_four = λ z. v ∙ x.back (sym u ∙ z);
            only_there = λ z. u ∙ x.there (sym v ∙ z);
            good_else = λ z. u ∙ x.else_good (λ y. z (v ∙ y));
          }
        where
          not_both : (n at : ℕ) → turned_down₂ n at ≡ good₂ h p → ⊥
          not_both n at q = let z : ◌≡◌ {A = ℕ} 0 1 = cc in absurd (omega arith)
