-- One lemma for each way through the call, and who wins by the words: a bit of the winning word is a signal present in the final round, and that is a room that wins. Assumes nothing.
use Rattle.std.specs.Prelude.{Result, Ok, Err}
use Rattle.refusals.specs.declared.Refused.{Refused}
use mathlib.Core.Path.{◌≡◌, refl, sym, ◌∙◌, ap, ap₂, subst, subst⁻¹}
use mathlib.Core.Logic.{◌⊎◌, inl, inr}
use mathlib.Core.Bool.{Bool, true, false, not, cond, ◌&&◌, ◌||◌, true≢false}
use mathlib.Core.List.{List}
use mathlib.Core.Option.{Option, none, some}
use Prim.Native.Nat.{ℕ, ◌+◌, ◌-◌, ◌/◌, ◌^◌, ◌≤◌, ◌<◌}
use native.Mathlib.Decide.{dec_lt}
use native.Mathlib.Omega.{arith}
use lib.Dec.{T, eqb, ltb, ltb→lt}
use lib.Bits.{bit_and, bit_or, bit_xor}
use lib.ListN.{length, get_or, get_or-eq_default}
use borrow.Author.Tests.{lt-ltb, le-ltb, le-leb, lt-leb, ltb-false, eqb-true}
use Rattle.refusals.specs.Refusals.{number}
use Rattle.refusals.specs.declared.Why.{Why}
use Rattle.sets.specs.Numbers.{Numbers, lowest}
use Rattle.sets.specs.Words.{bits}
use Rattle.sets.proofs.Members.{is_true, is_false, of_true, cases, and_in, and_left, and_right}
use Rattle.sets.proofs.Words.{bits_or, bits_less}
use Rattle.rules.specs.Statements.{Block}
use Rattle.rules.specs.Events.{Status, present, absent, unknown, known, Hearing, all_heard, event}
use Rattle.rules.specs.Instant.{started}
use Rattle.rules.specs.MustCan.{must, gives}
use Rattle.rules.specs.States.{fresh, step, kept}
use Rattle.rules.specs.Rounds.{same, outputs_with, Settled, answer, code_width, react, final_of}
use Rattle.rules.proofs.RoundLaws.{same_is}
use Rattle.theorems.specs.Reach.{at_first}
use Rattle.theorems.proofs.Reach.{event_output, reached_length}
use Rattle.theorems.proofs.RoundsEnd.{final, last_reached}
use Rattle.tables.specs.declared.Table.{Table}
use Rattle.block.specs.Format.{Good, Reading, good, reading}
use Rattle.block.specs.Told.{ReadWhole}
use Rattle.block.specs.declared.whole.Summary.{Summary}
use Rattle.block.proofs.Answered.{was_turned_down}
use Rattle.block.proofs.GoodReadings.{sound}
use Rattle.records.specs.StateRecord.{undeclared_input}
use Rattle.records.proofs.TwoWords.{none_from}
use Rattle.words.specs.declared.events.Heard.{Heard}
use Rattle.words.specs.Words.{hearing_of}
use Rattle.evaluate.specs.declared.rounds.Reacted.{Reacted}
use Rattle.evaluate.specs.Reacts.{IsAnswer, OutputsAre}
use Rattle.reaction.specs.Instants.{block_of}
use Rattle.reaction.specs.Outcomes.{Opened}
use Rattle.reaction.proofs.Fronts.{placed, same_block}
use Rattle.mazes.specs.Mazes.{of_form}
use Rattle.mazes.specs.AsRounds.{final_status, AsRounds}
use Rattle.mazes.proofs.Forms.{of_form_is}
use Rattle.mazes.proofs.AsRounds.{input_is, as_rounds}
use Rattle.maze.specs.declared.Rooms.{Rooms}
use Rattle.maze.specs.Rows.{rows_fit}
use Rattle.maze.specs.Views.{refused, shown, try_form, try_inputs, try_block, view, Shows, Views, EndsOf}
use Rattle.maze.proofs.RowLaws.{rows_are}

-- The words.
pub ends_are : (i o : ℕ) (heard : Heard) (p a all : ℕ) → ((n : ℕ) → bits all n ≡ ltb n (i + o))
    → EndsOf i o heard p a (record {
      winning = bit_or heard.present p;
      losing = bit_or heard.absent a;
      drawn = bit_and all (bit_xor all (bit_or (bit_or heard.present p) (bit_or heard.absent a)));
    })
ends_are i o heard p a all f = record {
  winning_is = λ n. bits_or heard.present p n;
  losing_is = λ n. bits_or heard.absent a n;
  drawn_is = λ n.
      bits_less all (bit_or (bit_or heard.present p) (bit_or heard.absent a)) n
      ∙ ap₂ (λ (x y : Bool). x && not y) (f n) (bits_or (bit_or heard.present p) (bit_or heard.absent a) n);
}

-- The outputs' words of a reaction are those of the final statuses.
outputs_of : (b : Block) (r : Settled) (o : Option ℕ) (A : Numbers) (x : Reacted) → IsAnswer b (answer r o A) x → OutputsAre b r.statuses r.rounds x
unfolding IsAnswer answer
outputs_of b r none A x h = h.outputs_are
outputs_of b r (some c) A x h = h.outputs_are

final_outputs : (b : Block) (heard : Hearing) (x : Reacted) → IsAnswer b (react b fresh heard) x
    → OutputsAre b (final_of b fresh heard).statuses (final_of b fresh heard).rounds x
unfolding react
final_outputs b heard x h =
    let r = final_of b fresh heard in
    let p = step b.body fresh in
    let E = event b heard r.statuses in
    outputs_of b r (lowest code_width (gives must p E).codes) (kept p E) x h

-- A status that is none of two is the third.
rest_is : (v : Status) → not (same v present || same v absent) ≡ same v unknown
rest_is present = refl
rest_is absent = refl
rest_is unknown = refl

known_present : (z : Bool) → (z || false) ≡ same (known z) present
known_present true = refl
known_present false = refl

known_absent : (z : Bool) → (not z || false) ≡ same (known z) absent
known_absent true = refl
known_absent false = refl

module _ (b : Block) (given : Numbers) (declared : (n : ℕ) → T (given n) → n < b.inputs) where
  abbrev outs : List Status
  outs = (final_of b fresh (all_heard b given)).statuses

  not_an_output : (v : Status) (n : ℕ) → T (ltb n b.inputs) → outputs_with v b outs n ≡ false
  unfolding outputs_with
  not_an_output v n t = ap (λ (z : Bool). z && same (get_or outs (n - b.inputs) unknown) v) (lt-leb b.inputs n (ltb→lt n b.inputs t))

  an_output : (v : Status) (n : ℕ) → ltb n b.inputs ≡ false → outputs_with v b outs n ≡ same (final_status b given n) v
  unfolding outputs_with final_status
  an_output v n e =
      ap (λ (z : Bool). z && same (get_or outs (n - b.inputs) unknown) v) (le-leb b.inputs n (ltb-false n b.inputs e))
      ∙ ap (λ (w : Status). same w v) (sym (event_output b (all_heard b given) outs (n - b.inputs) n e refl))

  status_of_input : (n : ℕ) → T (ltb n b.inputs) → final_status b given n ≡ known (given n)
  unfolding final_status
  status_of_input n t = input_is b given outs n t

  not_given : (n : ℕ) → ltb n b.inputs ≡ false → given n ≡ false
  not_given n e = is_false (given n) (λ t. let l = declared n t in let h = ltb-false n b.inputs e in absurd (omega arith))

  present_bit : (n : ℕ) → (given n || outputs_with present b outs n) ≡ same (final_status b given n) present
  present_bit n = go (cases (ltb n b.inputs))
    where
      go : T (ltb n b.inputs) ⊎ (ltb n b.inputs ≡ false) → (given n || outputs_with present b outs n) ≡ same (final_status b given n) present
      go (inl t) =
          ap (λ (z : Bool). given n || z) (not_an_output present n t) ∙ known_present (given n) ∙ ap (λ (v : Status). same v present) (sym (status_of_input n t))
      go (inr e) = ap₂ (λ (x y : Bool). x || y) (not_given n e) (an_output present n e)

  absent_bit : (n : ℕ) → (ltb n b.inputs && not (given n) || outputs_with absent b outs n) ≡ same (final_status b given n) absent
  absent_bit n = go (cases (ltb n b.inputs))
    where
      go : T (ltb n b.inputs) ⊎ (ltb n b.inputs ≡ false) → (ltb n b.inputs && not (given n) || outputs_with absent b outs n) ≡ same (final_status b given n) absent
      go (inl t) =
          ap₂ (λ (x y : Bool). x && not (given n) || y) (is_true (ltb n b.inputs) t) (not_an_output absent n t) ∙ known_absent (given n)
          ∙ ap (λ (v : Status). same v absent) (sym (status_of_input n t))
      go (inr e) = ap₂ (λ (x y : Bool). x && not (given n) || y) e (an_output absent n e)

  -- A signal that is not declared is undecided.
  beyond : (n : ℕ) → b.inputs + b.outputs ≤ n → final_status b given n ≡ unknown
  unfolding final_status step
  beyond n l =
      let reached = last_reached b (started b.body) (all_heard b given) at_first (final b fresh (all_heard b given)).ends in
      let long : length outs ≡ b.outputs = reached_length b (started b.body) (all_heard b given) reached in
      event_output b (all_heard b given) outs (n - b.inputs) n (le-ltb n b.inputs (omega arith)) refl
      ∙ get_or-eq_default outs unknown {n = n - b.inputs} (omega (arith, long))

  is_declared : (n : ℕ) (v : Status) → final_status b given n ≡ v → (v ≡ unknown → ⊥) → n < b.inputs + b.outputs
  is_declared n v e f = go (dec_lt n (b.inputs + b.outputs))
    where
      go : Dec (n < b.inputs + b.outputs) → n < b.inputs + b.outputs
      go (yes l) = l
      go (no l) = absurd (f (sym e ∙ beyond n (omega arith)))

  present_known : present ≡ unknown → ⊥
  present_known e = let z : ◌≡◌ {A = ℕ} 0 1 = cc in absurd (omega arith)

  absent_known : absent ≡ unknown → ⊥
  absent_known e = let z : ◌≡◌ {A = ℕ} 0 1 = cc in absurd (omega arith)

  -- The three words.
  module _ (ended : (n : ℕ) → n < b.inputs + b.outputs → AsRounds b given n) (r : Rooms)
      (w : (n : ℕ) → bits r.winning n ≡ same (final_status b given n) present) (l : (n : ℕ) → bits r.losing n ≡ same (final_status b given n) absent)
      (d : (n : ℕ) → bits r.drawn n ≡ (ltb n (b.inputs + b.outputs) && same (final_status b given n) unknown)) where
    pub shows : Shows b given r
    shows = record {
      wins = λ n. (
        (λ t.
            let e = same_is (final_status b given n) present (subst T (w n) t) in
            let h = is_declared n present e present_known in (h, (ended n h).winning_is_present.1 e)),
        (λ h. subst⁻¹ T (w n) (subst⁻¹ (λ (v : Status). T (same v present)) ((ended n h.0).winning_is_present.0 h.1) tt)),
      );
      loses = λ n. (
        (λ t.
            let e = same_is (final_status b given n) absent (subst T (l n) t) in
            let h = is_declared n absent e absent_known in (h, (ended n h).losing_is_absent.1 e)),
        (λ h. subst⁻¹ T (l n) (subst⁻¹ (λ (v : Status). T (same v absent)) ((ended n h.0).losing_is_absent.0 h.1) tt)),
      );
      draws = λ n. (
        (λ t.
            let u = subst T (d n) t in
            let h = ltb→lt n (b.inputs + b.outputs) (and_left (ltb n (b.inputs + b.outputs)) (same (final_status b given n) unknown) u) in
            let e = same_is (final_status b given n) unknown (and_right (ltb n (b.inputs + b.outputs)) (same (final_status b given n) unknown) u) in
            (h, (ended n h).draw_is_undecided.1 e)),
        (λ h. subst⁻¹ T (d n) (and_in (ltb n (b.inputs + b.outputs)) (same (final_status b given n) unknown)
            (of_true (lt-ltb n (b.inputs + b.outputs) h.0))
            (subst⁻¹ (λ (v : Status). T (same v unknown)) ((ended n h.0).draw_is_undecided.0 h.1) tt))),
      );
    }

-- An input set with no bit at or above the number of inputs.
declared_inputs : (k w : ℕ) → undeclared_input k w ≡ false → (n : ℕ) → T (bits w n) → n < k
unfolding undeclared_input
declared_inputs k w e n t = go (dec_lt n k)
  where
    not_out : (x : Bool) → not x ≡ false → x ≡ true
    not_out true q = refl
    not_out false q = absurd (true≢false q)

    go : Dec (n < k) → n < k
    go (yes l) = l
    go (no l) = absurd (none_from w k (eqb-true (w / 2 ^ k) 0 (not_out (eqb (w / 2 ^ k) 0) e)) (omega arith) t)

-- The rooms of a block that was read.
module _ {tab : Table} {s : Summary} {g : Good} (o : Opened tab s g) (given : ℕ) where
  pub rooms_way : {heard : Heard} (x : Reacted) {r : Rooms} → ((b : Block) → b.inputs ≡ s.inputs → hearing_of heard ≡ all_heard b (bits given))
      → IsAnswer (record { inputs = s.inputs; outputs = s.outputs; body = g.body }) (react (record { inputs = s.inputs; outputs = s.outputs; body = g.body }) fresh (hearing_of heard)) x
      → EndsOf s.inputs s.outputs heard x.marks.present x.marks.absent r
      → undeclared_input g.header.inputs given ≡ false → of_form g.body ≡ true → Shows (block_of g) (bits given) r
  rooms_way {heard} x {r} h a e u f =
      shows b (bits given) (declared_inputs g.header.inputs given u) ended r
      (λ n. e.winning_is n ∙ ap₂ (λ (v y : Bool). v || y) (at_heard n) (ap (λ (A : Numbers). A n) out.present_is) ∙ won n)
      (λ n. e.losing_is n ∙ ap₂ (λ (v y : Bool). v || y) (at_unheard n) (ap (λ (A : Numbers). A n) out.absent_is) ∙ gone n)
      (λ n.
      e.drawn_is n
      ∙ ap₂ (λ (m : ℕ) (y : Bool). ltb n m && not y) (ap₂ (λ (i j : ℕ). i + j) (ap (λ (y : Block). y.inputs) q) (ap (λ (y : Block). y.outputs) q))
      (ap₂ (λ (v y : Bool). v || y)
      (e.winning_is n ∙ ap₂ (λ (v y : Bool). v || y) (at_heard n) (ap (λ (A : Numbers). A n) out.present_is) ∙ won n)
      (e.losing_is n ∙ ap₂ (λ (v y : Bool). v || y) (at_unheard n) (ap (λ (A : Numbers). A n) out.absent_is) ∙ gone n))
      ∙ ap (λ (y : Bool). ltb n (b.inputs + b.outputs) && y) (rest_is (final_status b (bits given) n)))
    where
      b : Block
      b = block_of g

      q : ◌≡◌ {A = Block} (record { inputs = s.inputs; outputs = s.outputs; body = g.body }) (block_of g)
      q = same_block o

      heard_is : hearing_of heard ≡ all_heard (block_of g) (bits given)
      heard_is = h (block_of g) (sym (ap (λ (y : Block). y.inputs) q))

      out : OutputsAre (block_of g) (final_of (block_of g) fresh (all_heard (block_of g) (bits given))).statuses (final_of (block_of g) fresh (all_heard (block_of g) (bits given))).rounds x
      out =
          final_outputs (block_of g) (all_heard (block_of g) (bits given)) x
          (subst (λ (k : Hearing). IsAnswer (block_of g) (react (block_of g) fresh k) x) heard_is
          (subst (λ (y : Block). IsAnswer y (react y fresh (hearing_of heard)) x) q a))

      ended : (n : ℕ) → n < (block_of g).inputs + (block_of g).outputs → AsRounds (block_of g) (bits given) n
      ended = as_rounds (block_of g) (bits given) (of_form_is g.body (of_true f)) (sound o.bytes g o.its_reading).scoped

      at_heard : (n : ℕ) → bits heard.present n ≡ bits given n
      at_heard n = ap (λ (k : Hearing). k.heard_present n) heard_is

      at_unheard : (n : ℕ) → bits heard.absent n ≡ (ltb n g.header.inputs && not (bits given n))
      at_unheard n = ap (λ (k : Hearing). k.heard_absent n) heard_is

      won : (n : ℕ) → (bits given n || outputs_with present (block_of g) (final_of (block_of g) fresh (all_heard (block_of g) (bits given))).statuses n)
          ≡ same (final_status (block_of g) (bits given) n) present
      won = present_bit (block_of g) (bits given) (declared_inputs g.header.inputs given u)

      gone : (n : ℕ)
          → (ltb n g.header.inputs && not (bits given n) || outputs_with absent (block_of g) (final_of (block_of g) fresh (all_heard (block_of g) (bits given))).statuses n)
          ≡ same (final_status (block_of g) (bits given) n) absent
      gone = absent_bit (block_of g) (bits given) (declared_inputs g.header.inputs given u)

  -- The tests.
  pub its_inputs : undeclared_input s.inputs given ≡ undeclared_input g.header.inputs given
  its_inputs = ap (λ (y : Summary). undeclared_input y.inputs given) o.summed

  pub input_way : {x : Bool} → x ≡ undeclared_input s.inputs given → x ≡ true → Views (try_inputs g given) (Err (record { why = Why.Input; place = 0 }))
  unfolding try_inputs Views number
  input_way {x} d t = subst (λ (y : Bool). Views (cond y (refused 11 0) (try_form g given)) (Err (record { why = Why.Input; place = 0 }))) (sym t ∙ d ∙ its_inputs) (refl, refl)

  pub its_form : {x : Bool} → x ≡ rows_fit tab.kinds tab.sizes s.statements → x ≡ of_form g.body
  its_form d = rows_are tab g.body (placed o) (ap (λ (y : Summary). y.statements) o.summed ∙ (sound o.bytes g o.its_reading).counted) d

  pub form_way : {x y : Bool} → x ≡ undeclared_input s.inputs given → x ≡ false → y ≡ rows_fit tab.kinds tab.sizes s.statements → y ≡ false
      → Views (try_inputs g given) (Err (record { why = Why.Form; place = 0 }))
  unfolding try_inputs try_form Views number
  form_way {x} {y} d f e k =
      subst (λ (z : Bool). Views (cond z (refused 11 0) (try_form g given)) (Err (record { why = Why.Form; place = 0 }))) (sym f ∙ d ∙ its_inputs)
      (subst (λ (z : Bool). Views (cond z (shown (block_of g) (bits given)) (refused 26 0)) (Err (record { why = Why.Form; place = 0 }))) (sym k ∙ its_form e) (refl, refl))

  pub shown_way : {x y : Bool} {r : Rooms} → x ≡ undeclared_input s.inputs given → x ≡ false → y ≡ rows_fit tab.kinds tab.sizes s.statements → y ≡ true
      → (undeclared_input g.header.inputs given ≡ false → of_form g.body ≡ true → Shows (block_of g) (bits given) r) → Views (try_inputs g given) (Ok r)
  unfolding try_inputs try_form Views
  shown_way {x} {y} {r} d f e k h =
      let u : undeclared_input g.header.inputs given ≡ false = sym its_inputs ∙ sym d ∙ f in
      let v : of_form g.body ≡ true = sym (its_form e) ∙ k in
      subst⁻¹ (λ (z : Bool). Views (cond z (refused 11 0) (try_form g given)) (Ok r)) u
      (subst⁻¹ (λ (z : Bool). Views (cond z (shown (block_of g) (bits given)) (refused 26 0)) (Ok r)) v (h u v))

-- The reading.
module _ (b : List ℕ) (given : ℕ) {tab : Table} {x : Result Summary Refused} (w : ReadWhole (reading b) tab x) where
  pub block_fails : {r : Refused} → x ≡ Err r → Views (view b given) (Err r)
  unfolding view try_block Views
  block_fails {r} e = subst⁻¹ (λ (y : Reading). Views (try_block given y) (Err r)) (was_turned_down b w e) (refl, refl)

pub block_way : (b : List ℕ) (given : ℕ) {g : Good} (r : Result Rooms Refused) → reading b ≡ good g → Views (try_inputs g given) r → Views (view b given) r
unfolding view try_block
block_way b given {g} r e h = subst⁻¹ (λ (y : Reading). Views (try_block given y) r) e h

-- The table has room for every row of a block that was read.
pub few_rows : {tab : Table} {s : Summary} {g : Good} → Opened tab s g → s.statements ≤ 512
few_rows {s = s} {g = g} o =
    let e : s.statements ≡ g.statements = ap (λ (y : Summary). y.statements) o.summed in
    let h : g.statements ≤ 512 = (sound o.bytes g o.its_reading).few_statements in
    omega arith
