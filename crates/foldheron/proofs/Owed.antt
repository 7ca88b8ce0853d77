-- What each call answers is what it owes: a lemma for each way through the calls that read a block, and that different answers have
-- different values.
use mathlib.Core.Path.{◌≡◌, refl, sym, ◌∙◌, ap, subst}
use mathlib.Core.List.{List, [], ◌∷◌}
use Prim.Native.Nat.{ℕ, ◌+◌, ◌-◌, ◌≤◌, ◌<◌}
use native.Mathlib.Nat.{zero-add}
use native.Mathlib.Omega.{arith}
use lib.ListN.{length, get_or}
use denote.Ref.{Bor}
use borrow.Author.Tests.{eq-eqb, ne_eqb, lt-ltb, le-ltb}
use Rattle.std.specs.Prelude.{Ok, Err}
use Rattle.refusals.specs.Refusals.{number}
use Rattle.refusals.specs.declared.Why.TheVariants.{State, Index}
use Rattle.refusals.specs.declared.Refused.{Refused}
use Rattle.refusals.proofs.Laws.{numbers_differ, number_above}
use Rattle.rules.specs.Statements.{Stmt}
use Rattle.rules.specs.States.{fresh}
use Rattle.tables.specs.Table.{Has, statements}
use Rattle.tables.specs.declared.Table.{Table}
use Rattle.block.specs.Format.{Good, Reading, good, reading, preorder, numbered, bytes, offset}
use Rattle.block.specs.Told.{ReadWhole}
use Rattle.tables.specs.Codes.{Tabled, Listed}
use Rattle.block.specs.declared.whole.Summary.{Summary}
use Rattle.records.specs.StateRecord.{state_size, state_record}
use Rattle.records.specs.Held.{state_bytes, phase_number}
use Rattle.records.specs.declared.state.Phase.TheVariants.{Fresh}
use Rattle.records.proofs.Writing.{fresh_written as fresh_record}
use Rattle.block.proofs.Answered.{was_good, was_turned_down, has_body}
use Rattle.block.proofs.GoodReadings.{Sound, sound}
use Rattle.tables.proofs.Places.{At, at_number, has_row}
use Rattle.block.proofs.Offsets.{tabled_listed, offset_below, offset_most}
use Rattle.foldheron.specs.Answers.{Checked, check_values, check_owed, Begun, begun_values, begun_owed, state_owed, PartTold, FoundPart, part_told, part_owed, refusal_at}
use Rattle.records.specs.Parts.{LiesAt}
use Rattle.foldheron.specs.declared.Part.{Part}

module _ (b : List ℕ) {tab : Table} {a : Checked} (w : ReadWhole (reading b) tab a) where
  module _ {r : Refused} (e : a ≡ Err r) where
    check_refused : check_values (Err r) ≡ check_owed (reading b)
    unfolding check_values check_owed
    check_refused = ap check_owed (sym (was_turned_down b w e))

    pub fresh_refused : (state : List ℕ) → begun_values (Err r) ≡ begun_owed (reading b) state
    unfolding begun_values begun_owed
    fresh_refused state = ap (λ (x : Reading). begun_owed x state) (sym (was_turned_down b w e))

    pub state_stays : (state : List ℕ) → state ≡ state_owed (reading b) state
    unfolding state_owed
    state_stays state = ap (λ (x : Reading). state_owed x state) (sym (was_turned_down b w e))

    pub part_refused : (i : ℕ) → part_told (Err r) ≡ part_owed (reading b) i
    unfolding part_told part_owed
    part_refused i = ap (λ (x : Reading). part_owed x i) (sym (was_turned_down b w e))

  module _ {s : Summary} (e : a ≡ Ok s) where
    abbrev g : Good
    g = (was_good w e).0

    is_good : reading b ≡ good g
    is_good = (was_good w e).1

    check_good : check_values (Ok s) ≡ check_owed (reading b)
    unfolding check_values check_owed
    check_good = ap (λ (s : Summary). check_values (Ok s)) (sym (was_good w e).2) ∙ ap check_owed (sym is_good)

    pub fresh_written : (state : List ℕ) → length state ≡ state_size → begun_values (Ok tt) ≡ begun_owed (reading b) state
    unfolding begun_values begun_owed
    fresh_written state l =
        let q : begun_owed (good g) state ≡ 0 ∷ 0 ∷ [] = simp (eq-eqb (length state) state_size l) in
        sym (ap (λ (x : Reading). begun_owed x state) is_good ∙ q)

    pub state_written : (state : List ℕ) → length state ≡ state_size → state_bytes s.version s.statements (phase_number Fresh) (0 ∷ 0 ∷ []) ≡ state_owed (reading b) state
    unfolding state_owed phase_number
    state_written state l =
        let q : state_owed (good g) state ≡ state_record g.header.version g.statements fresh = simp (eq-eqb (length state) state_size l) in
        fresh_record s.version s.statements ∙ ap (λ (y : Summary). state_record y.version y.statements fresh) (sym (was_good w e).2)
        ∙ sym (ap (λ (x : Reading). state_owed x state) is_good ∙ q)

    pub other_size : (state : List ℕ) → (length state ≡ state_size → ⊥) → begun_values (Err (refusal_at State 0)) ≡ begun_owed (reading b) state
    unfolding begun_values begun_owed number
    other_size state n =
        let q : begun_owed (good g) state ≡ 9 ∷ 0 ∷ [] = simp (ne_eqb (length state) state_size n) in
        sym (ap (λ (x : Reading). begun_owed x state) is_good ∙ q)

    pub other_stays : (state : List ℕ) → (length state ≡ state_size → ⊥) → state ≡ state_owed (reading b) state
    unfolding state_owed
    other_stays state n =
        let q : state_owed (good g) state ≡ state = simp (ne_eqb (length state) state_size n) in
        sym (ap (λ (x : Reading). state_owed x state) is_good ∙ q)

    -- The part of a good block.
    facts : Sound b g
    facts = sound b g is_good

    count_is : s.statements ≡ statements g.body
    count_is = ap (λ (s : Summary). s.statements) (sym (was_good w e).2) ∙ facts.counted

    pub part_past : (i : ℕ) → s.statements ≤ i → part_told (Err (refusal_at Index 0)) ≡ part_owed (reading b) i
    unfolding part_told part_owed number
    part_past i l =
        let m : g.statements ≤ i = omega (arith, count_is, facts.counted) in
        let q : part_owed (good g) i ≡ part_told (Err (refusal_at Index 0)) = simp (le-ltb i g.statements m) in
        sym (ap (λ (x : Reading). part_owed x i) is_good ∙ q)

    module _ (i : ℕ) (l : i < s.statements) where
      tabled : Tabled tab (statements g.body) g.body
      tabled = record { has = has_body w is_good; small = facts.small; counted = refl }

      there : At tab 0 g.body i
      there = at_number 0 g.body (has_body w is_good) facts.small i (omega (arith, count_is))

      pub few : i < 512
      few = omega (arith, count_is, facts.counted, facts.few_statements)

      size_is : get_or tab.sizes i 0 ≡ statements (numbered g.body i)
      size_is = (has_row (numbered g.body i) (subst (λ (j : ℕ). Has tab j (numbered g.body i)) (zero-add i) there.has)).its_size

      pub past_few : {m : ℕ} → m ≡ i + get_or tab.sizes i 0 → m ≤ 512
      past_few q = omega (arith, q, size_is, there.within, facts.counted, facts.few_statements)

      -- Where the part starts and ends.
      module _ {m start end : ℕ} (q : m ≡ i + get_or tab.sizes i 0) (f : (t : Stmt) → Listed tab.kinds t → i ≤ statements t → start ≡ offset t i)
          (h : (t : Stmt) → Listed tab.kinds t → m ≤ statements t → end ≡ offset t m) where
        start_is : start ≡ offset g.body i
        start_is = f g.body (tabled_listed g.body tabled) (omega (arith, count_is))

        end_is : end ≡ offset g.body i + bytes (preorder (numbered g.body i))
        end_is =
            h g.body (tabled_listed g.body tabled) (omega (arith, q, size_is, there.within))
            ∙ ap (λ (j : ℕ). offset g.body j) (q ∙ ap (λ (j : ℕ). i + j) size_is) ∙ offset_below g.body i there

        pub start_first : start ≤ end
        start_first = omega (arith, start_is, end_is)

        pub end_within : end ≤ length b
        end_within = omega (arith, end_is, offset_below g.body i there, offset_most g.body (i + statements (numbered g.body i)), facts.whole)

        pub part_found : part_told (Ok (record { offset = start; size = end - start })) ≡ part_owed (reading b) i
        unfolding part_told part_owed
        part_found =
            let k : i < g.statements = omega (arith, count_is, facts.counted) in
            let o : part_owed (good g) i ≡ record { number = 0; place = 0; offset = offset g.body i; size = bytes (preorder (numbered g.body i)) } = simp (lt-ltb i g.statements k) in
            let d : end - start ≡ bytes (preorder (numbered g.body i)) = omega (arith, start_is, end_is) in
            (λ j. record { number = 0; place = 0; offset = start_is j; size = d j }) ∙ sym (ap (λ (x : Reading). part_owed x i) is_good ∙ o)

        pub part_within : start + (end - start) ≤ length b
        part_within = omega (arith, start_first, end_within)

  -- Either way, what is read is what a check owes.
  pub check_is : check_values a ≡ check_owed (reading b)
  check_is = go a refl
    where
      go : (x : Checked) → a ≡ x → check_values a ≡ check_owed (reading b)
      go (Ok s) e = ap check_values e ∙ check_good e
      go (Err r) e = ap check_values e ∙ check_refused e

-- The part as it is cut out of the block.
pub part_cut : (r b : Bor (List ℕ)) (p : Part) {q : PartTold} → part_told (Ok p) ≡ q → LiesAt r b p.offset (p.offset + p.size - p.offset) → LiesAt r b q.offset q.size
unfolding part_told
part_cut r b p {q} e l =
    let d : p.offset + p.size - p.offset ≡ p.size = omega arith in
    subst (λ (x : PartTold). LiesAt r b x.offset x.size) e (subst (LiesAt r b p.offset) d l)

-- Different answers have different values: an answer's number and values give the answer back.
nth : ℕ → List ℕ → ℕ
nth n l = get_or l n 0

pub check_told_apart : (x y : Checked) → check_values x ≡ check_values y → x ≡ y
unfolding check_values nth
check_told_apart (Ok s) (Ok t) e = λ i. Ok (record {
  version = ap (nth 2) e i;
  inputs = ap (nth 3) e i;
  outputs = ap (nth 4) e i;
  locals = ap (nth 5) e i;
  statements = ap (nth 6) e i;
  pauses = ap (nth 7) e i;
})
check_told_apart (Ok s) (Err r) e = absurd (number_above r.why (sym (ap (nth 0) e)))
check_told_apart (Err r) (Ok s) e = absurd (number_above r.why (ap (nth 0) e))
check_told_apart (Err r) (Err q) e = λ i. Err (refusal_at (numbers_differ r.why q.why (ap (nth 0) e) i) (ap (nth 1) e i))

pub begun_told_apart : (x y : Begun) → begun_values x ≡ begun_values y → x ≡ y
unfolding begun_values nth
begun_told_apart (Ok done) (Ok too) e = refl
begun_told_apart (Ok done) (Err r) e = absurd (number_above r.why (sym (ap (nth 0) e)))
begun_told_apart (Err r) (Ok done) e = absurd (number_above r.why (ap (nth 0) e))
begun_told_apart (Err r) (Err q) e = λ i. Err (refusal_at (numbers_differ r.why q.why (ap (nth 0) e) i) (ap (nth 1) e i))

pub part_told_apart : (x y : FoundPart) → part_told x ≡ part_told y → x ≡ y
unfolding part_told
part_told_apart (Ok p) (Ok q) e = λ i. Ok (record { offset = (e i).offset; size = (e i).size })
part_told_apart (Ok p) (Err r) e = absurd (number_above r.why (sym (ap (λ (t : PartTold). t.number) e)))
part_told_apart (Err r) (Ok q) e = absurd (number_above r.why (ap (λ (t : PartTold). t.number) e))
part_told_apart (Err r) (Err q) e = λ i. Err (refusal_at (numbers_differ r.why q.why (ap (λ (t : PartTold). t.number) e) i) ((e i).place))
