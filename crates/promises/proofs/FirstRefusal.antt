-- The number that a call gives back is that of the first test that applies: by cases on what each test finds, in their order. A test that
-- applies found what the call's definition found, since a block has one reading and a record holds one state. Assumes nothing.
use mathlib.Core.Path.{◌≡◌, refl, sym, ap, ◌∙◌, subst}
use mathlib.Core.Logic.{◌⊎◌, inl, inr, ⊎_elim, ◌≢◌}
use mathlib.Core.Bool.{Bool, true, false, cond, true≢false, ◌||◌}
use mathlib.Core.List.{List, [], ◌∷◌, ◌++◌}
use mathlib.Core.Option.{Option, none, some}
use Prim.Native.Nat.{ℕ, zero, suc, ◌≤◌, ◌<◌}
use native.Mathlib.Omega.{arith}
use lib.Dec.{T, eqb, ltb}
use lib.ListN.{length}
use borrow.Author.Tests.{eqb-true, eqb-false, ltb-true, ltb-false}
use Rattle.sets.specs.Numbers.{Numbers, listed}
use Rattle.rules.specs.States.{State, fresh, active_of}
use Rattle.rules.specs.Rounds.{Answer, answered, not_constructive, react}
use Rattle.block.specs.Format.{Good, Reading, good, turned_down, reading, preorder, numbered, bytes, offset}
use Rattle.block.proofs.GoodReadings.{numbers}
use Rattle.records.specs.StateRecord.{version_in, statements_in, Found, not_a_state, state, active_in, read_state, names_block, state_record, Pair, first_clash}
use Rattle.records.specs.LogRecord.{no_room}
use Rattle.records.proofs.Reading.{found_sized, named_version, named_statements, named_not}
use Rattle.reaction.specs.Fronts.{STATE, OTHER_BLOCK, INPUT, Front, stopped, clashing, ready, wrong_inputs, try_inputs, try_clash, clash_tried, try_names, try_state, try_block, front}
use Rattle.reaction.specs.Instants.{CLASH, ROOM, Verdict, reacted, block_of, goes_on, verdict, told, heard_of}
use Rattle.reaction.specs.declared.Given.{Given}
use Rattle.foldheron.specs.Answers.{PartTold}
use Rattle.foldheron.specs.Answers.{check_owed, begun_owed, state_owed, absent_part, part_owed}
use Rattle.promises.specs.Tests.{Test, First}
use Rattle.promises.specs.Demand1.{NoState, OtherBlock, Incompatible, HeldBy, Clashing, WrongInputs, BadInputs, Unsettled, of_block, one_to_8}
use Rattle.promises.specs.Demand1.{block_tests, state_test, names_test, clash_test, input_test, code_test, room_test, fresh_tests, excerpt_tests}
use Rattle.promises.specs.Demand1.{instant_tests, logged_tests, INDEX, NoStatement, number_in, place_in, PairOf, PlacedBy, in_block}
use Rattle.promises.specs.Demand1.{at_0}
use Rattle.promises.proofs.Records.{checked}
use Rattle.promises.proofs.FirstRecord.{turned_down_decides, decides_alone}
use Rattle.promises.proofs.Tests.{wrong_read, read_wrong, found_set, set_found}
use Rattle.promises.proofs.Tests.{none_clash, first_pair, inputs_none, inputs_some, room_missing, room_there, NoCode, code_unknown, code_known}

-- 1 to 8.
good_or_not : {A : Type 0} (g : Good) (n at : ℕ) → good g ≡ turned_down n at → A
good_or_not g n at e = let z : ◌≡◌ {A = ℕ} 0 1 = cc in absurd (omega arith)

pub past_block : (b : List ℕ) (g : Good) → reading b ≡ good g → (ns : List ℕ) (ts : List Test) (n : ℕ) → First ts n → First (of_block b ns ++ ts) n
past_block b g e [] ts n f = f
past_block b g e (k ∷ ns) ts n f = inr ((λ t. good_or_not g k t.place (sym e ∙ decides_alone b k t.place t.decided)), past_block b g e ns ts n f)

same_number : (n at k place : ℕ) → turned_down n at ≡ turned_down k place → n ≡ k
same_number n at k place e = cc

one_of : (b : List ℕ) (n at : ℕ) → reading b ≡ turned_down n at → (ns : List ℕ) → T (listed ns n) → (ts : List Test) → First (of_block b ns ++ ts) n
unfolding listed
one_of b n at e [] h ts = absurd h
one_of b n at e (k ∷ ns) h ts = go (eqb n k) refl h (λ l. one_of b n at e ns l ts)
  where
    go : (x : Bool) → eqb n k ≡ x → T (x || listed ns n) → (T (listed ns n) → First (of_block b ns ++ ts) n) → First (of_block b (k ∷ ns) ++ ts) n
    go true q h rest =
        let d : n ≡ k = eqb-true n k q in
        inl (record { place = at; decided = turned_down_decides b k at (e ∙ ap (λ (m : ℕ). turned_down m at) d) }, d)
    go false q h rest = inr ((λ t. eqb-false n k q (same_number n at k t.place (sym e ∙ decides_alone b k t.place t.decided))), rest h)

pub among : (n : ℕ) → 1 ≤ n → n ≤ 8 → T (listed one_to_8 n)
unfolding listed
among zero l h = absurd (omega arith)
among (suc zero) l h = tt
among (suc (suc zero)) l h = tt
among (suc (suc (suc zero))) l h = tt
among (suc (suc (suc (suc zero)))) l h = tt
among (suc (suc (suc (suc (suc zero))))) l h = tt
among (suc (suc (suc (suc (suc (suc zero)))))) l h = tt
among (suc (suc (suc (suc (suc (suc (suc zero))))))) l h = tt
among (suc (suc (suc (suc (suc (suc (suc (suc zero)))))))) l h = tt
among (suc (suc (suc (suc (suc (suc (suc (suc (suc n))))))))) l h = absurd (omega arith)

pub of_the_block : (b : List ℕ) (n at : ℕ) → reading b ≡ turned_down n at → (ts : List Test) → First (block_tests b ++ ts) n
of_the_block b n at e ts = let r = numbers b n at e in one_of b n at e one_to_8 (among n r.0 r.1) ts

-- 9, 17, 10, 11, then the tests in the middle (of the log call, 12), then 13.
module _ (b s : List ℕ) (w : Given) (g : Good) (e : reading b ≡ good g) where
  pub same_block : (x : Good) → reading b ≡ good x → g ≡ x
  same_block x q = let d : good g ≡ good x = sym e ∙ q in cc

  module _ (st : State) (h : read_state g.pauses s ≡ state st) where
    pub same_state : (x : Good) (y : State) → HeldBy b s x y → st ≡ y
    same_state x y q =
        let d : state st ≡ state y = sym h ∙ ap (λ (z : Good). read_state z.pauses s) (same_block x q.is_good) ∙ q.is_found in
        cc

    held : HeldBy b s g st
    held = record { is_good = e; is_found = h }

    -- a pair in the record's words is one of the state
    moved : (x : Good) (B C : Numbers) (m n : ℕ) → ((k : ℕ) → T (B k) → T (C k)) → Incompatible x B m n → Incompatible x C m n
    moved x B C m n f c = record {
      first_active = f m c.first_active;
      second_active = f n c.second_active;
      lower = c.lower;
      of_the_128 = c.of_the_128;
      not_compatible = c.not_compatible;
    }

    other_none : names_block g.header.version g.statements s ≡ true → OtherBlock b s → ⊥
    other_none q t =
        ⊎_elim (λ f. f (named_version g.header.version g.statements s q)) (λ f. f (named_statements g.header.version g.statements s q))
        (subst (λ (x : Good). (version_in s ≢ x.header.version) ⊎ (statements_in s ≢ x.statements)) (sym (same_block t.block t.is_good)) t.other)

    other_some : names_block g.header.version g.statements s ≡ false → OtherBlock b s
    other_some q = record { block = g; is_good = e; other = named_not g.header.version g.statements s (found_sized g.pauses s st h) q }

    clash_none : first_clash g.body (active_of st) ≡ none → Clashing b s → ⊥
    clash_none q t =
        none_clash g (active_of st) q t.first t.second
        (moved g (active_in s) (active_of st) t.first t.second (found_set g.pauses s st h)
        (subst (λ (x : Good). Incompatible x (active_in s) t.first t.second) (sym (same_block t.block t.is_good)) t.clash))

    pub its_pair : (pair : Pair) → first_clash g.body (active_of st) ≡ some pair → PairOf b s pair.first pair.second
    its_pair pair q = record { block = g; from = st; held = held; is_first = first_pair g (active_of st) pair q }

    clash_some : (pair : Pair) → first_clash g.body (active_of st) ≡ some pair → Clashing b s
    clash_some pair q = record {
      block = g;
      is_good = e;
      first = pair.first;
      second = pair.second;
      clash = moved g (active_of st) (active_in s) pair.first pair.second (set_found g.pauses s st h) (first_pair g (active_of st) pair q).is_pair;
    }

    input_none : wrong_inputs g.header.inputs w ≡ false → BadInputs b w → ⊥
    input_none q t =
        inputs_none g.header.inputs w q
        (subst (λ (x : Good). WrongInputs x.header.inputs w) (sym (same_block t.block t.is_good)) t.wrong)

    input_some : wrong_inputs g.header.inputs w ≡ true → BadInputs b w
    input_some q = record { block = g; is_good = e; wrong = inputs_some g.header.inputs w q }

    unsettled : NoCode (block_of g) st (heard_of g w) → Unsettled b s w
    unsettled d = record {
      block = g;
      from = st;
      held = held;
      rounds = d.rounds;
      final = d.final;
      final_round = d.final_round;
      no_code = d.no_code;
    }

    settled : Unsettled b s w → NoCode (block_of g) st (heard_of g w)
    settled t =
        subst (λ (y : State). NoCode (block_of g) y (heard_of g w)) (sym (same_state t.block t.from t.held))
        (subst (λ (x : Good). NoCode (block_of x) t.from (heard_of x w)) (sym (same_block t.block t.held.is_good))
        (record { rounds = t.rounds; final = t.final; final_round = t.final_round; no_code = t.no_code }))

    code_first : (a : Answer) → react (block_of g) st (heard_of g w) ≡ a → First (code_test b s w ∷ []) (told (reacted (block_of g) a)).number
    unfolding told
    code_first (not_constructive vs n) q = inl (unsettled (code_unknown (block_of g) st (heard_of g w) (checked b g e) vs n q), refl)
    code_first (answered vs c st' n) q = inr ((λ t. code_known (block_of g) st (heard_of g w) (checked b g e) vs c st' n q (settled t)), refl)

    -- The tests that come last apply to what is made of a state that was found.
    module _ (made : Front → ℕ) (stops : (n at : ℕ) → made (stopped n at) ≡ n) (clashes : (pair : Pair) → made (clashing pair) ≡ CLASH) (late : List Test)
        (last : First late (made (ready g st))) where
      inputs_first : First (input_test b w ∷ late) (made (try_inputs g st w))
      unfolding try_inputs
      inputs_first = go (wrong_inputs g.header.inputs w) refl
        where
          go : (x : Bool) → wrong_inputs g.header.inputs w ≡ x → First (input_test b w ∷ late) (made (cond x (stopped INPUT 0) (ready g st)))
          go true q = inl (input_some q, stops INPUT 0)
          go false q = inr (input_none q, last)

      clash_first : (c : Option Pair) → first_clash g.body (active_of st) ≡ c → First (clash_test b s ∷ input_test b w ∷ late) (made (try_clash g st w c))
      unfolding try_clash
      clash_first none q = inr (clash_none q, inputs_first)
      clash_first (some pair) q = inl (clash_some pair q, clashes pair)

      names_first : First (names_test b s ∷ clash_test b s ∷ input_test b w ∷ late) (made (try_names g st s w))
      unfolding try_names
      names_first = go (names_block g.header.version g.statements s) refl
        where
          go : (x : Bool) → names_block g.header.version g.statements s ≡ x
              → First (names_test b s ∷ clash_test b s ∷ input_test b w ∷ late) (made (cond x (clash_tried g st w) (stopped OTHER_BLOCK 0)))
          go true q = inr (other_none q, clash_first (first_clash g.body (active_of st)) refl)
          go false q = inl (other_some q, stops OTHER_BLOCK 0)

  module _ (made : Front → ℕ) (stops : (n at : ℕ) → made (stopped n at) ≡ n) (clashes : (pair : Pair) → made (clashing pair) ≡ CLASH) (late : List Test)
      (last : (st : State) → read_state g.pauses s ≡ state st → First late (made (ready g st))) where
    state_first : (f : Found) → read_state g.pauses s ≡ f → First (state_test b s ∷ names_test b s ∷ clash_test b s ∷ input_test b w ∷ late) (made (try_state g s w f))
    unfolding try_state
    state_first not_a_state q = inl (record { block = g; is_good = e; wrong = read_wrong g.pauses s q }, stops STATE 0)
    state_first (state st) q = inr (right, names_first st q made stops clashes late (last st q))
      where
        right : NoState b s → ⊥
        right t =
            let d : not_a_state ≡ state st = sym (wrong_read t.block.pauses s t.wrong) ∙ ap (λ (x : Good). read_state x.pauses s) (sym (same_block t.block t.is_good)) ∙ q in
            let z : ◌≡◌ {A = ℕ} 0 1 = cc in
            omega arith

-- So for any call that makes these tests: a number is made of what they come to, and of a block and a state that pass it is that of the tests that come last.
pub front_first : (b s : List ℕ) (w : Given) (made : Front → ℕ) → ((n at : ℕ) → made (stopped n at) ≡ n) → ((pair : Pair) → made (clashing pair) ≡ CLASH)
    → (late : List Test) → ((g : Good) → reading b ≡ good g → (st : State) → read_state g.pauses s ≡ state st → First late (made (ready g st)))
    → First (block_tests b ++ state_test b s ∷ names_test b s ∷ clash_test b s ∷ input_test b w ∷ late) (made (front b s w))
unfolding front try_block
front_first b s w made stops clashes late last = go (reading b) refl
  where
    all : List Test
    all = state_test b s ∷ names_test b s ∷ clash_test b s ∷ input_test b w ∷ late

    go : (x : Reading) → reading b ≡ x → First (block_tests b ++ all) (made (try_block s w x))
    go (good g) e = past_block b g e one_to_8 all (made (try_state g s w (read_state g.pauses s)))
        (state_first b s w g e made stops clashes late (λ st q. last g e st q) (read_state g.pauses s) refl)
    go (turned_down n at) e = subst (First (block_tests b ++ all)) (sym (stops n at)) (of_the_block b n at e all)

pub verdict_first : (b s : List ℕ) (w : Given) (roomless : Bool) (middle : List Test) → (roomless ≡ true → (ts : List Test) → First (middle ++ ts) ROOM)
    → (roomless ≡ false → (ts : List Test) (n : ℕ) → First ts n → First (middle ++ ts) n)
    → First (block_tests b ++ state_test b s ∷ names_test b s ∷ clash_test b s ∷ input_test b w ∷ (middle ++ code_test b s w ∷ [])) (told (verdict b s w roomless)).number
unfolding told verdict goes_on
verdict_first b s w roomless middle full room =
    front_first b s w (λ x. (told (goes_on w roomless x)).number) (λ n at. refl) (λ pair. refl) (middle ++ code_test b s w ∷ []) (λ g e st q. go g e st q roomless refl)
  where
    go : (g : Good) → reading b ≡ good g → (st : State) → read_state g.pauses s ≡ state st → (y : Bool) → roomless ≡ y
        → First (middle ++ code_test b s w ∷ []) (told (goes_on w y (ready g st))).number
    go g e st q true r = full r (code_test b s w ∷ [])
    go g e st q false r = room r (code_test b s w ∷ []) _ (code_first b s w g e st q (react (block_of g) st (heard_of g w)) refl)

-- The place, and the pair of a CLASH.
past_tests : (b s : List ℕ) (w : Given) (roomless : Bool) (g : Good) → reading b ≡ good g
    → ((told (goes_on w roomless (try_state g s w (read_state g.pauses s)))).place ≡ 0)
    × ((told (goes_on w roomless (try_state g s w (read_state g.pauses s)))).number ≡ CLASH
    → PairOf b s (told (goes_on w roomless (try_state g s w (read_state g.pauses s)))).first (told (goes_on w roomless (try_state g s w (read_state g.pauses s)))).second)
unfolding told try_state try_names try_clash try_inputs goes_on
past_tests b s w roomless g e = on_state (read_state g.pauses s) refl
  where
    Fine : Verdict → Type 0
    Fine v = ((told v).place ≡ 0) × ((told v).number ≡ CLASH → PairOf b s (told v).first (told v).second)

    on_answer : (a : Answer) → Fine (reacted (block_of g) a)
    on_answer (answered vs c st n) = (refl, λ z. absurd (omega arith))
    on_answer (not_constructive vs n) = (refl, λ z. absurd (omega arith))

    on_inputs : (st : State) (x y : Bool) → Fine (goes_on w y (cond x (stopped INPUT 0) (ready g st)))
    on_inputs st true y = (refl, λ z. absurd (omega arith))
    on_inputs st false true = (refl, λ z. absurd (omega arith))
    on_inputs st false false = on_answer (react (block_of g) st (heard_of g w))

    on_clash : (st : State) → read_state g.pauses s ≡ state st → (c : Option Pair) → first_clash g.body (active_of st) ≡ c → Fine (goes_on w roomless (try_clash g st w c))
    on_clash st h none q = on_inputs st (wrong_inputs g.header.inputs w) roomless
    on_clash st h (some pair) q = (refl, λ z. its_pair b s w g e st h pair q)

    on_names : (st : State) → read_state g.pauses s ≡ state st → (x : Bool) → Fine (goes_on w roomless (cond x (clash_tried g st w) (stopped OTHER_BLOCK 0)))
    on_names st h true = on_clash st h (first_clash g.body (active_of st)) refl
    on_names st h false = (refl, λ z. absurd (omega arith))

    on_state : (f : Found) → read_state g.pauses s ≡ f → Fine (goes_on w roomless (try_state g s w f))
    on_state not_a_state q = (refl, λ z. absurd (omega arith))
    on_state (state st) q = on_names st q (names_block g.header.version g.statements s)

module _ (b s : List ℕ) (w : Given) (roomless : Bool) where
  pub verdict_placed : PlacedBy b (told (verdict b s w roomless)).number (told (verdict b s w roomless)).place
  unfolding told verdict front try_block goes_on
  verdict_placed = go (reading b) refl
    where
      go : (x : Reading) → reading b ≡ x → PlacedBy b (told (goes_on w roomless (try_block s w x))).number (told (goes_on w roomless (try_block s w x))).place
      go (good g) e =
          subst (λ (at : ℕ). PlacedBy b (told (goes_on w roomless (try_state g s w (read_state g.pauses s)))).number at) (sym (past_tests b s w roomless g e).0)
          (at_0 (told (goes_on w roomless (try_state g s w (read_state g.pauses s)))).number g e)
      go (turned_down n at) e = in_block n at (turned_down_decides b n at e)

  pub verdict_paired : (told (verdict b s w roomless)).number ≡ CLASH → PairOf b s (told (verdict b s w roomless)).first (told (verdict b s w roomless)).second
  unfolding told verdict front try_block goes_on
  verdict_paired = go (reading b) refl
    where
      go : (x : Reading) → reading b ≡ x → (told (goes_on w roomless (try_block s w x))).number ≡ CLASH
          → PairOf b s (told (goes_on w roomless (try_block s w x))).first (told (goes_on w roomless (try_block s w x))).second
      go (good g) e q = (past_tests b s w roomless g e).1 q
      go (turned_down n at) e q = let h : n ≤ 8 = (numbers b n at e).1 in absurd (omega arith)

-- The calls that read a block: what they owe gives the first, at its place.
module _ (b : List ℕ) where
  same_good : {g x : Good} → reading b ≡ good g → reading b ≡ good x → g ≡ x
  same_good {g} {x} e q = let d : good g ≡ good x = sym e ∙ q in cc

  pub check_first : First (block_tests b) (number_in (check_owed (reading b)))
  unfolding check_owed
  check_first = go (reading b) refl
    where
      go : (x : Reading) → reading b ≡ x → First (block_tests b) (number_in (check_owed x))
      go (good g) e = past_block b g e one_to_8 [] 0 refl
      go (turned_down n at) e = of_the_block b n at e []

  pub check_placed : PlacedBy b (number_in (check_owed (reading b))) (place_in (check_owed (reading b)))
  unfolding check_owed
  check_placed = go (reading b) refl
    where
      go : (x : Reading) → reading b ≡ x → PlacedBy b (number_in (check_owed x)) (place_in (check_owed x))
      go (good g) e = at_0 0 g e
      go (turned_down n at) e = in_block n at (turned_down_decides b n at e)

  module _ (s : List ℕ) where
    pub fresh_first : First (fresh_tests b s) (number_in (begun_owed (reading b) s))
    unfolding begun_owed
    fresh_first = go (reading b) refl
      where
        size : Test
        size = record { number = STATE; Applies = length s ≢ 26 }

        sized : (x : Bool) → eqb (length s) 26 ≡ x → First (size ∷ []) (number_in (cond x (0 ∷ 0 ∷ []) (9 ∷ 0 ∷ [])))
        sized true q = inr ((λ h. h (eqb-true (length s) 26 q)), refl)
        sized false q = inl (eqb-false (length s) 26 q, refl)

        go : (x : Reading) → reading b ≡ x → First (fresh_tests b s) (number_in (begun_owed x s))
        go (good g) e = past_block b g e one_to_8 (size ∷ []) (number_in (begun_owed (good g) s)) (sized (eqb (length s) 26) refl)
        go (turned_down n at) e = of_the_block b n at e (size ∷ [])

    pub fresh_placed : PlacedBy b (number_in (begun_owed (reading b) s)) (place_in (begun_owed (reading b) s))
    unfolding begun_owed
    fresh_placed = go (reading b) refl
      where
        sized : (g : Good) → reading b ≡ good g → (x : Bool) → PlacedBy b (number_in (cond x (0 ∷ 0 ∷ []) (9 ∷ 0 ∷ []))) (place_in (cond x (0 ∷ 0 ∷ []) (9 ∷ 0 ∷ [])))
        sized g e true = at_0 0 g e
        sized g e false = at_0 9 g e

        go : (x : Reading) → reading b ≡ x → PlacedBy b (number_in (begun_owed x s)) (place_in (begun_owed x s))
        go (good g) e = sized g e (eqb (length s) 26)
        go (turned_down n at) e = in_block n at (turned_down_decides b n at e)

    pub fresh_stays : number_in (begun_owed (reading b) s) ≢ 0 → state_owed (reading b) s ≡ s
    unfolding begun_owed state_owed
    fresh_stays = go (reading b)
      where
        sized : (v k : ℕ) (x : Bool) → number_in (cond x (0 ∷ 0 ∷ []) (9 ∷ 0 ∷ [])) ≢ 0 → cond x (state_record v k fresh) s ≡ s
        sized v k true h = absurd (h refl)
        sized v k false h = refl

        go : (x : Reading) → number_in (begun_owed x s) ≢ 0 → state_owed x s ≡ s
        go (good g) h = sized g.header.version g.statements (eqb (length s) 26) h
        go (turned_down n at) h = refl

  module _ (n : ℕ) where
    found : Good → PartTold
    found g = record { number = 0; place = 0; offset = offset g.body n; size = bytes (preorder (numbered g.body n)) }

    pub part_first : First (excerpt_tests b n) (part_owed (reading b) n).number
    unfolding part_owed found
    part_first = go (reading b) refl
      where
        index : Test
        index = record { number = INDEX; Applies = NoStatement b n }

        counted : (g : Good) → reading b ≡ good g → (x : Bool) → ltb n g.statements ≡ x → First (index ∷ []) (cond x (found g) (absent_part 14 0)).number
        counted g e true q =
            inr (
              (λ t. let l : n < g.statements = ltb-true n g.statements q in
                  let h : g.statements ≤ n = subst (λ (y : Good). y.statements ≤ n) (sym (same_good {g = g} {x = t.block} e t.is_good)) t.at_or_above in
                  omega arith),
              refl,
            )
        counted g e false q = inl (record { block = g; is_good = e; at_or_above = ltb-false n g.statements q }, refl)

        go : (x : Reading) → reading b ≡ x → First (excerpt_tests b n) (part_owed x n).number
        go (good g) e = past_block b g e one_to_8 (index ∷ []) (part_owed (good g) n).number (counted g e (ltb n g.statements) refl)
        go (turned_down k at) e = of_the_block b k at e (index ∷ [])

    pub part_placed : PlacedBy b (part_owed (reading b) n).number (part_owed (reading b) n).place
    unfolding part_owed found
    part_placed = go (reading b) refl
      where
        counted : (g : Good) → reading b ≡ good g → (x : Bool) → PlacedBy b (cond x (found g) (absent_part 14 0)).number (cond x (found g) (absent_part 14 0)).place
        counted g e true = at_0 0 g e
        counted g e false = at_0 14 g e

        go : (x : Reading) → reading b ≡ x → PlacedBy b (part_owed x n).number (part_owed x n).place
        go (good g) e = counted g e (ltb n g.statements)
        go (turned_down k at) e = in_block k at (turned_down_decides b k at e)

    pub part_absent : (part_owed (reading b) n).number ≢ 0 → (part_owed (reading b) n).size ≡ 0
    unfolding part_owed found
    part_absent = go (reading b)
      where
        counted : (g : Good) (x : Bool) → (cond x (found g) (absent_part 14 0)).number ≢ 0 → (cond x (found g) (absent_part 14 0)).size ≡ 0
        counted g true h = absurd (h refl)
        counted g false h = refl

        go : (x : Reading) → (part_owed x n).number ≢ 0 → (part_owed x n).size ≡ 0
        go (good g) h = counted g (ltb n g.statements) h
        go (turned_down k at) h = refl

-- Without a log there is no test in the middle, and with one there is ROOM.
pub instant_first : (b s : List ℕ) (w : Given) → First (instant_tests b s w) (told (verdict b s w false)).number
instant_first b s w = verdict_first b s w false [] (λ e ts. absurd (true≢false (sym e))) (λ e ts n f. f)

pub logged_first : (b s : List ℕ) (w : Given) (log : List ℕ) (end : ℕ) → First (logged_tests b s w log end) (told (verdict b s w (no_room log end))).number
logged_first b s w log end =
    verdict_first b s w (no_room log end) (room_test log end ∷ []) (λ e ts. inl (room_missing log end e, refl)) (λ e ts n f. inr (room_there log end e, f))
