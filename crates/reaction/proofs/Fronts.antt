-- One lemma for each way through the tests before the rules: what was found on the way decides what they come to. Assumes nothing.
use mathlib.Core.Path.{◌≡◌, refl, sym, ◌∙◌, ap, subst}
use mathlib.Core.Bool.{Bool, true, false, cond}
use mathlib.Core.List.{List}
use mathlib.Core.Option.{Option}
use Prim.Native.Nat.{ℕ, ◌+◌, ◌≤◌, ◌<◌}
use native.Mathlib.Omega.{arith}
use lib.Dec.{T}
use Rattle.std.specs.Prelude.{Option as Perhaps, Some, None, Result, Ok, Err}
use Rattle.refusals.specs.Refusals.{number}
use Rattle.refusals.specs.declared.Refused.{Refused}
use Rattle.refusals.specs.declared.Why.{Why}
use Rattle.sets.specs.Words.{set_of}
use Rattle.rules.specs.Statements.{Block}
use Rattle.rules.specs.States.{State, fresh, running, finished, active_of}
use Rattle.tables.specs.Table.{statements}
use Rattle.tables.specs.declared.Table.{Table}
use Rattle.block.specs.Format.{Good, Reading, good, reading}
use Rattle.block.specs.Told.{ReadWhole}
use Rattle.block.specs.declared.whole.Summary.{Summary}
use Rattle.block.proofs.Answered.{was_good, was_turned_down, has_body}
use Rattle.block.proofs.GoodReadings.{Sound, sound}
use Rattle.records.specs.Numerals.{Bytes}
use Rattle.records.specs.StateRecord.{Found, state, read_state, names_block, Pair as Pairing, first_clash}
use Rattle.records.specs.Held.{phase_held, held_of}
use Rattle.records.specs.declared.state.Held.{Held}
use Rattle.records.proofs.Answers.{held_none, held_some, held_set, held_in_block}
use Rattle.records.specs.Clashing.{pair_of, Searchable, Bounded}
use Rattle.forms.specs.Forms.{At}
use Rattle.evaluate.specs.Reacts.{state_of}
use Rattle.reaction.specs.declared.Given.{Given}
use Rattle.reaction.specs.declared.Grounds.{Grounds}
use Rattle.reaction.specs.declared.Stopped.{Stopped}
use Rattle.reaction.specs.declared.Stopped.TheVariants as halt
use Rattle.reaction.specs.Fronts.{stopped, ready, wrong_inputs, try_inputs, try_clash, clash_tried, try_names, try_state, try_block, front}
use Rattle.reaction.specs.Instants.{block_of}
use Rattle.reaction.specs.Outcomes.{Opened, Begins, Means, Meets}

-- the state that a phase and its active pauses stand for
phase_state : (st : State) {A : _} → A ≡ active_of st → st ≡ state_of (phase_held st) A
unfolding phase_held active_of
phase_state fresh e = refl
phase_state (running X) e = ap running (sym e)
phase_state finished e = refl

-- what a block that was read gives: it is placed in the table, and its numbers are within bounds
module _ {tab : Table} {s : Summary} {g : Good} (o : Opened tab s g) where
  facts : Sound o.bytes g
  facts = sound o.bytes g o.its_reading

  pub placed : At tab 0 g.body
  placed = record {
    has = o.stands;
    small = facts.small;
    room = let e : g.statements ≡ statements g.body = facts.counted in let h : g.statements ≤ 512 = facts.few_statements in omega arith;
  }

  pub few_signals : s.inputs + s.outputs ≤ 64
  few_signals =
      let e : s.inputs ≡ g.header.inputs = ap (λ (x : Summary). x.inputs) o.summed in
      let f : s.outputs ≡ g.header.outputs = ap (λ (x : Summary). x.outputs) o.summed in
      let h : g.header.inputs + g.header.outputs + g.header.locals ≤ 64 = facts.signals in
      omega arith

  -- the block that the evaluator is given is the reading's
  pub same_block : ◌≡◌ {A = Block} (record { inputs = s.inputs; outputs = s.outputs; body = g.body }) (block_of g)
  same_block = λ i. record { inputs = (o.summed i).inputs; outputs = (o.summed i).outputs; body = g.body }

  -- the search for a clash may begin
  pub searchable : (set : List ℕ) → ((k : ℕ) → T (set_of set k) → k < g.pauses) → Searchable tab.kinds tab.sizes s.statements set g.body
  searchable set h = record {
    operands = tab.operands;
    has = o.stands;
    numbered = facts.pauses_numbered;
    counted = sym facts.counted ∙ sym (ap (λ (x : Summary). x.statements) o.summed);
    few = let e : s.statements ≡ g.statements = ap (λ (x : Summary). x.statements) o.summed in let h : g.statements ≤ 512 = facts.few_statements in omega arith;
    in_block = λ n t. subst (λ (k : ℕ). n < k) facts.paused (h n t);
  }

  pub bounded : (set : List ℕ) → ((k : ℕ) → T (set_of set k) → k < g.pauses) → Bounded s.pauses set
  bounded set h =
      let e : g.pauses ≡ s.pauses = sym (ap (λ (x : Summary). x.pauses) o.summed) in
      record { bound = λ n t. subst (λ (k : ℕ). n < k) e (h n t); width = subst (λ (k : ℕ). k ≤ 128) e facts.few_pauses }

  -- a state was found in the lent bytes
  module _ (bs : List ℕ) (bytes : Bytes bs) {p : Perhaps Held} (held : p ≡ held_of (read_state s.pauses bs)) where
    found : p ≡ held_of (read_state g.pauses bs)
    found = held ∙ ap (λ (x : Summary). held_of (read_state x.pauses bs)) o.summed

    pub record Took (h : Held) : Type 0 where
      pub st : State
      pub its_state : read_state g.pauses bs ≡ state st
      pub begins : Begins st h.phase h.active
      pub in_block : (k : ℕ) → T (set_of h.active k) → k < g.pauses

    pub took : {h : Held} → p ≡ Some h → Took h
    took {h} e =
        let w = held_some (read_state g.pauses bs) h (sym found ∙ e) in
        let same : set_of h.active ≡ active_of w.0 = ap (λ (x : Held). set_of x.active) w.2 ∙ held_set g.pauses bs bytes w.0 w.1 in record {
          st = w.0;
          its_state = w.1;
          begins = record { state_is = phase_state w.0 same ∙ ap (λ (x : Held). state_of x.phase (set_of h.active)) (sym w.2); set_is = same };
          in_block = λ k t. held_in_block g.pauses bs bytes w.0 w.1 k (subst (λ (x : Held). T (set_of x.active k)) w.2 t);
        }

    -- or none
    pub no_state_way : (given : Given) → p ≡ None → {r : Refused} → r ≡ record { why = Why.State; place = 0 } → Meets (try_state g bs given (read_state g.pauses bs)) tab (Err (halt.Refused r))
    unfolding try_state Means number
    no_state_way given e {r} d =
        subst (λ (f : Found). Meets (try_state g bs given f) tab (Err (halt.Refused r)))
        (sym (held_none (read_state g.pauses bs) (sym found ∙ e))) (record { means = record { why = Why.State; is_refused = ap (λ (x : Refused). Err (halt.Refused x)) d; its_number = refl } })

    -- the tests that follow, for the state that was found
    module _ (given : Given) {h : Held} (e : p ≡ Some h) {names : Bool} (n : names ≡ names_block s.version s.statements bs) where
      its : Took h
      its = took e

      its_names : names ≡ names_block g.header.version g.statements bs
      its_names = n ∙ ap (λ (y : Summary). names_block y.version y.statements bs) o.summed

      from_state : {r : Result Grounds Stopped} → Meets (try_names g its.st bs given) tab r → Meets (try_state g bs given (read_state g.pauses bs)) tab r
      unfolding try_state
      from_state {r} m = subst (λ (f : Found). Meets (try_state g bs given f) tab r) (sym its.its_state) m

      pub other_way : names ≡ false → {r : Refused} → r ≡ record { why = Why.OtherBlock; place = 0 } → Meets (try_state g bs given (read_state g.pauses bs)) tab (Err (halt.Refused r))
      unfolding try_names Means number
      other_way f {r} d =
          from_state (subst (λ (y : Bool). Meets (cond y (clash_tried g its.st given) (stopped 17 0)) tab (Err (halt.Refused r)))
          (sym f ∙ its_names) (record { means = record { why = Why.OtherBlock; is_refused = ap (λ (x : Refused). Err (halt.Refused x)) d; its_number = refl } }))

      module _ (t : names ≡ true) (c : Perhaps (ℕ × ℕ)) (d : pair_of c ≡ first_clash g.body (set_of h.active)) where
        its_clash : pair_of c ≡ first_clash g.body (active_of its.st)
        its_clash = d ∙ ap (first_clash g.body) its.begins.set_is

        from_names : {r : Result Grounds Stopped} → Meets (clash_tried g its.st given) tab r → Meets (try_state g bs given (read_state g.pauses bs)) tab r
        unfolding try_names
        from_names {r} m = from_state (subst (λ (y : Bool). Meets (cond y (clash_tried g its.st given) (stopped 17 0)) tab r) (sym t ∙ its_names) m)

        pub pair_way : {m n : ℕ} → c ≡ Some (m, n) → Meets (try_state g bs given (read_state g.pauses bs)) tab (Err (halt.Clash m n))
        unfolding pair_of try_clash Means
        pair_way {m} {n} q =
            from_names (subst (λ (x : Option Pairing). Meets (try_clash g its.st given x) tab (Err (halt.Clash m n))) (ap pair_of (sym q) ∙ its_clash) (record { means = refl }))

        module _ (q : c ≡ None) {wrong : Bool} (w : wrong ≡ wrong_inputs s.inputs given) where
          its_test : wrong ≡ wrong_inputs g.header.inputs given
          its_test = w ∙ ap (λ (x : Summary). wrong_inputs x.inputs given) o.summed

          from_clash : {r : Result Grounds Stopped} → Meets (try_inputs g its.st given) tab r → Meets (try_state g bs given (read_state g.pauses bs)) tab r
          unfolding pair_of try_clash
          from_clash {r} m = from_names (subst (λ (x : Option Pairing). Meets (try_clash g its.st given x) tab r) (ap pair_of (sym q) ∙ its_clash) m)

          pub input_way : wrong ≡ true → {r : Refused} → r ≡ record { why = Why.Input; place = 0 } → Meets (try_state g bs given (read_state g.pauses bs)) tab (Err (halt.Refused r))
          unfolding try_inputs Means number
          input_way b {r} d =
              from_clash (subst (λ (x : Bool). Meets (cond x (stopped 11 0) (ready g its.st)) tab (Err (halt.Refused r)))
              (sym b ∙ its_test) (record { means = record { why = Why.Input; is_refused = ap (λ (x : Refused). Err (halt.Refused x)) d; its_number = refl } }))

          pub passed_way : wrong ≡ false → Meets (try_state g bs given (read_state g.pauses bs)) tab (Ok (record { summary = s; phase = h.phase; active = h.active }))
          unfolding try_inputs Means
          passed_way b =
              from_clash (subst (λ (x : Bool). Meets (cond x (stopped 11 0) (ready g its.st)) tab (Ok (record { summary = s; phase = h.phase; active = h.active })))
              (sym b ∙ its_test) (record { means = record { grounds = record { summary = s; phase = h.phase; active = h.active }; is_ready = refl; opened = o; begins = its.begins } }))

-- a block was looked for and not found
module _ (b : List ℕ) {tab : Table} {x : Result Summary Refused} (w : ReadWhole (reading b) tab x) where
  pub block_fails : (s : List ℕ) (given : Given) {e : Refused} → x ≡ Err e → Meets (front b s given) tab (Err (halt.Refused e))
  unfolding front try_block Means
  block_fails s given {e} q =
      subst (λ (y : Reading). Meets (try_block s given y) tab (Err (halt.Refused e))) (sym (was_turned_down b w q)) (record { means = record { why = e.why; is_refused = refl; its_number = refl } })

  -- or read
  pub block_reads : {s : Summary} → x ≡ Ok s → (g : Good) × Opened tab s g × (reading b ≡ good g)
  block_reads e =
      let r = was_good w e in
      (r.0, record { bytes = b; its_reading = r.1; stands = has_body w r.1; summed = sym r.2 }, r.1)

  pub block_way : (s : List ℕ) (given : Given) {g : Good} {r : Result Grounds Stopped} → reading b ≡ good g → Meets (try_state g s given (read_state g.pauses s)) tab r
      → Meets (front b s given) tab r
  unfolding front try_block
  block_way s given {g} {r} e m = subst (λ (y : Reading). Meets (try_block s given y) tab r) (sym e) m
