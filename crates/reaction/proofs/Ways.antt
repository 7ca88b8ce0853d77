-- One lemma for each way on from the tests: the answer stands for what the instant comes to. Assumes nothing.
use mathlib.Core.Path.{◌≡◌, refl, sym, ◌∙◌, ap, ap₂, subst}
use mathlib.Core.Bool.{Bool, true, false}
use mathlib.Core.List.{List}
use Prim.Native.Nat.{ℕ, ◌^◌, ◌<◌}
use lib.ListN.{get_or}
use mir.Val.{Fits}
use mir.Syntax.{w64}
use Rattle.std.specs.Prelude.{Some, None, Result, Ok, Err}
use Rattle.std.proofs.lemmas.Option.{none-some, same_Some}
use Rattle.refusals.specs.Refusals.{number}
use Rattle.refusals.specs.declared.Refused.{Refused}
use Rattle.refusals.specs.declared.Why.{Why}
use Rattle.sets.specs.Numbers.{Numbers, count}
use Rattle.sets.specs.Words.{bits, word, set_of}
use Rattle.sets.proofs.Members.{eqb_not}
use Rattle.sets.proofs.Words.{is_word}
use Rattle.rules.specs.Statements.{Block}
use Rattle.rules.specs.Events.{Status, present, absent, Hearing}
use Rattle.rules.specs.States.{State, phase_of, active_of, next}
use Rattle.rules.specs.Rounds.{outputs_with, Answer, answered, not_constructive, react}
use Rattle.tables.specs.declared.Table.{Table}
use Rattle.block.specs.Format.{Good}
use Rattle.block.specs.declared.whole.Summary.{Summary}
use Rattle.records.specs.Held.{phase_number}
use Rattle.records.specs.declared.state.Phase.{Phase}
use Rattle.records.specs.declared.state.Phase.TheVariants.{Running, Finished}
use Rattle.records.proofs.Writing.{written_state}
use Rattle.words.specs.Words.{hearing_of}
use Rattle.words.specs.declared.events.Heard.{Heard}
use Rattle.evaluate.specs.Reacts as evaluate
use Rattle.evaluate.specs.declared.rounds.Reacted.{Reacted}
use Rattle.evaluate.specs.declared.rounds.Done.{Done}
use Rattle.reaction.specs.declared.Given.{Given}
use Rattle.reaction.specs.declared.Grounds.{Grounds}
use Rattle.reaction.specs.declared.Outcome.{Outcome}
use Rattle.reaction.specs.declared.Stopped.{Stopped}
use Rattle.reaction.specs.declared.Stopped.TheVariants as halt
use Rattle.reaction.specs.declared.Unanswered.{Unanswered}
use Rattle.reaction.specs.declared.Unanswered.TheVariants as doubt
use Rattle.reaction.specs.Fronts.{Front, stopped, clashing, ready, front}
use Rattle.reaction.specs.Instants.{refused, clash, reacted, block_of, heard_in, heard_of, goes_on, verdict, told_reaction, told_refusal, told}
use Rattle.reaction.specs.Answers.{stopped_as, instant_told}
use Rattle.reaction.specs.Outcomes.{answer_in, Writes, Hears, case_of, case_for, Comes, Opened, Begins, Means, Meets}
use Rattle.reaction.proofs.Fronts.{same_block}

-- turned down
refused_comes : (given : Given) (n : ℕ) (r : Refused) → number r.why ≡ n → Comes given (refused n r.place) (Err (doubt.Refused r))
unfolding instant_told told Writes Hears case_of case_for
refused_comes given n r d = record { same_case = refl; told_is = ap (λ (m : ℕ). told_refusal m r.place 0 0) d; writes = tt; hears = tt }

clash_comes : (given : Given) (k n : ℕ) → Comes given (clash (record { first = k; second = n })) (Err (doubt.Clash k n))
unfolding instant_told told Writes Hears case_of case_for
clash_comes given k n = record { same_case = refl; told_is = refl; writes = tt; hears = tt }

-- a set of signals as a word
signals_word : (A : Numbers) (w : ℕ) → bits w ≡ A → w < 2 ^ 64 → w ≡ word 64 A
signals_word A w e h = is_word 64 (record { bit = λ n. ap (λ (f : Numbers). f n) e }) h

-- the phase after a code
pub running_phase : (c : ℕ) → c ≡ 1 → (A : Numbers) → phase_number Running ≡ phase_of (next c A)
unfolding next phase_of phase_number
running_phase c e A = rw e

pub finished_phase : (c : ℕ) → (c ≡ 1 → ⊥) → (A : Numbers) → phase_number Finished ≡ phase_of (next c A)
unfolding next phase_of phase_number
finished_phase c e A = rw (eqb_not c 1 e)

-- what is known of the evaluator's numbers: they fit their types
pub record Fitting (r : Reacted) : Type 0 where
  pub present_fits : r.marks.present < 2 ^ 64
  pub absent_fits : r.marks.absent < 2 ^ 64

pub record Kept (d : Done) : Type 0 where
  pub low_fits : Fits w64 (get_or d.kept 0 0)
  pub high_fits : Fits w64 (get_or d.kept 1 0)

-- and so do the two sets
pub record Wide (heard : Heard) : Type 0 where
  pub present_wide : heard.present < 2 ^ 64
  pub absent_wide : heard.absent < 2 ^ 64

module _ (b : Block) (r : Reacted) (fits : Fitting r) where
  -- something is done
  module _ (d : Done) (kept : Kept d) (phase : Phase) (its_number : (A : Numbers) → phase_number phase ≡ phase_of (next d.code.0 A))
      (heard : Heard) (wide : Wide heard) (given : Given) (h : hearing_of heard ≡ heard_in b given) where
    abbrev its_outcome : Outcome
    its_outcome = record {
      reaction = record { present = r.marks.present; code = d.code; rounds = r.rounds; active = d.active };
      phase = phase;
      kept = d.kept;
      heard = heard;
    }

    answered_comes : (outs : List Status) (c : ℕ) (st : State) (n : ℕ) → evaluate.OutputsAre b outs n r → evaluate.DoneAs c st d
        → Comes given (reacted b (answered outs c st n)) (Ok its_outcome)
    unfolding instant_told told Writes Hears case_of case_for
    answered_comes outs c st n a e = record {
      same_case = refl;
      told_is = fields;
      writes = λ v n. written_state v n st (phase_number phase) d.kept kept.low_fits.fits kept.high_fits.fits its_phase e.kept_is;
      hears = (
        signals_word (heard_in b given).heard_present heard.present (ap (λ (x : Hearing). x.heard_present) h) wide.present_wide,
        signals_word (heard_in b given).heard_absent heard.absent (ap (λ (x : Hearing). x.heard_absent) h) wide.absent_wide,
      );
    }
      where
        its_phase : phase_number phase ≡ phase_of st
        its_phase = its_number (set_of d.kept) ∙ ap (λ (x : ℕ). phase_of (next x (set_of d.kept))) e.code_is ∙ ap phase_of (sym e.state_is)

        its_active : d.active ≡ count 128 (active_of st)
        its_active = e.active_is ∙ ap (count 128) e.kept_is

        fields : instant_told (answer_in (Ok its_outcome)) ≡ told_reaction b (answered outs c st n)
        fields = λ i. record {
          number = 0;
          place = 0;
          first = 0;
          second = 0;
          present_outputs = signals_word (outputs_with present b outs) r.marks.present a.present_is fits.present_fits i;
          absent_outputs = 0;
          undecided_outputs = 0;
          rounds = a.rounds_is i;
          code = e.code_is i;
          active = its_active i;
        }

    pub done_way : (a : Answer) → evaluate.IsAnswer b a r → r.done ≡ Some d → Comes given (reacted b a) (Ok its_outcome)
    unfolding evaluate.IsAnswer
    done_way (answered outs c st n) x e =
        answered_comes outs c st n x.outputs_are (subst (λ (y : Done). evaluate.DoneAs c st y) (same_Some x.done d (sym x.done_is ∙ e)) x.done_as)
    done_way (not_constructive outs n) x e = absurd (none-some d (sym x.done_is ∙ e))

  -- or nothing
  doubted_comes : (given : Given) (outs : List Status) (n : ℕ) → evaluate.OutputsAre b outs n r
      → Comes given (reacted b (not_constructive outs n))
      (Err (doubt.NotConstructive (record { present = r.marks.present; absent = r.marks.absent; undecided = r.undecided; rounds = r.rounds })))
  unfolding instant_told told Writes Hears case_of case_for
  doubted_comes given outs n a = record {
    same_case = refl;
    told_is = λ i. record {
      number = 13;
      place = 0;
      first = 0;
      second = 0;
      present_outputs = signals_word (outputs_with present b outs) r.marks.present a.present_is fits.present_fits i;
      absent_outputs = signals_word (outputs_with absent b outs) r.marks.absent a.absent_is fits.absent_fits i;
      undecided_outputs = a.undecided_is i;
      rounds = a.rounds_is i;
      code = 0;
      active = 0;
    };
    writes = tt;
    hears = tt;
  }

  pub doubt_way : (given : Given) (a : Answer) → evaluate.IsAnswer b a r → r.done ≡ None
      → Comes given (reacted b a) (Err (doubt.NotConstructive (record { present = r.marks.present; absent = r.marks.absent; undecided = r.undecided; rounds = r.rounds })))
  unfolding evaluate.IsAnswer
  doubt_way given (answered outs c st n) x e = absurd (none-some x.done (sym e ∙ x.done_is))
  doubt_way given (not_constructive outs n) x e = doubted_comes given outs n x.outputs_are

-- all tests passed: ROOM, then the rules
module _ {tab : Table} {s : Summary} {g : Good} (o : Opened tab s g) (st : State) (given : Given) {roomless : Bool} where
  pub room_way : roomless ≡ true → {r : Refused} → r ≡ record { why = Why.Room; place = 0 } → Comes given (goes_on given roomless (ready g st)) (Err (doubt.Refused r))
  unfolding goes_on number
  room_way t {r} e =
      subst (λ (x : Bool). Comes given (goes_on given x (ready g st)) (Err (doubt.Refused r))) (sym t)
      (subst (λ (x : Refused). Comes given (refused 12 0) (Err (doubt.Refused x))) (sym e) (refused_comes given 12 (record { why = Why.Room; place = 0 }) refl))

  pub react_way : (r : Reacted) (heard : Heard) {out : Result Outcome Unanswered} {phase : Phase} {set : List ℕ} → Begins st phase set
      → evaluate.Reacts (record { inputs = s.inputs; outputs = s.outputs; body = g.body }) phase (set_of set) (hearing_of heard) r
      → ((b : Block) → b.inputs ≡ s.inputs → hearing_of heard ≡ heard_in b given)
      → ((b : Block) (a : Answer) → evaluate.IsAnswer b a r → (x : Given) → hearing_of heard ≡ heard_in b x → Comes x (reacted b a) out)
      → roomless ≡ false → Comes given (goes_on given roomless (ready g st)) out
  unfolding evaluate.Reacts goes_on
  react_way r heard {out} {phase} {set} begins e all f m =
      subst (λ (x : Bool). Comes given (goes_on given x (ready g st)) out) (sym m)
      (f (block_of g) (react (block_of g) st (heard_of g given)) its_answer given its_hearing)
    where
      its_hearing : hearing_of heard ≡ heard_of g given
      its_hearing = all (block_of g) (sym (ap (λ (x : Summary). x.inputs) o.summed))

      summed_block : Block
      summed_block = record { inputs = s.inputs; outputs = s.outputs; body = g.body }

      its_state : evaluate.state_of phase (set_of set) ≡ st
      its_state = sym begins.state_is

      its_answer : evaluate.IsAnswer (block_of g) (react (block_of g) st (heard_of g given)) r
      its_answer =
          subst (λ (h : Hearing). evaluate.IsAnswer (block_of g) (react (block_of g) st h) r) its_hearing
          (subst (λ (b : Block). evaluate.IsAnswer b (react b st (hearing_of heard)) r) (same_block o)
          (subst (λ (q : State). evaluate.IsAnswer summed_block (react summed_block q (hearing_of heard)) r) its_state e))

-- what the code found before the rules says what the tests came to
module _ (tab : Table) where
  stopped_comes : (given : Given) (roomless : Bool) (x : Front) (w : Stopped) → Means x tab (Err w) → Comes given (goes_on given roomless x) (Err (stopped_as w))
  unfolding Means goes_on
  stopped_comes given roomless (stopped n at) w m =
      let e : w ≡ halt.Refused (record { why = m.why; place = at }) = cc (m.is_refused) in
      subst (λ (y : Stopped). Comes given (refused n at) (Err (stopped_as y))) (sym e) (refused_comes given n (record { why = m.why; place = at }) m.its_number)
  stopped_comes given roomless (clashing pair) w m =
      let e : w ≡ halt.Clash pair.first pair.second = cc m in
      subst (λ (y : Stopped). Comes given (clash pair) (Err (stopped_as y))) (sym e) (clash_comes given pair.first pair.second)
  stopped_comes given roomless (ready g st) w m = let z : ⊥ = cc (m.is_ready) in absurd z

  -- the same of what the tests came to, for each call that goes by them
  pub stopped_in : (x : Front) (e : Refused) → Means x tab (Err (halt.Refused e)) → x ≡ stopped (number e.why) e.place
  unfolding Means
  stopped_in (stopped n at) e m =
      let q : e ≡ record { why = m.why; place = at } = cc (m.is_refused) in
      ap₂ stopped (sym m.its_number ∙ ap (λ (r : Refused). number r.why) (sym q)) (ap (λ (r : Refused). r.place) (sym q))
  stopped_in (clashing pair) e m = let z : ⊥ = cc m in absurd z
  stopped_in (ready g st) e m = let z : ⊥ = cc (m.is_ready) in absurd z

  pub clash_in : (x : Front) (k n : ℕ) → Means x tab (Err (halt.Clash k n)) → x ≡ clashing (record { first = k; second = n })
  unfolding Means
  clash_in (stopped i at) k n m = let z : ⊥ = cc (m.is_refused) in absurd z
  clash_in (clashing pair) k n m =
      let p : pair.first ≡ k = cc m in
      let q : pair.second ≡ n = cc m in
      λ i. clashing (record { first = p i; second = q i })
  clash_in (ready g st) k n m = let z : ⊥ = cc (m.is_ready) in absurd z

  -- all tests passed: the block, the state, and that they stand in the table and in the words
  pub record Going (x : Front) (r : Grounds) : Type 0 where
    pub its_good : Good
    pub its_state : State
    pub is_ready : x ≡ ready its_good its_state
    pub opened : Opened tab r.summary its_good
    pub begins : Begins its_state r.phase r.active

  going : (x : Front) (r : Grounds) → Means x tab (Ok r) → Going x r
  unfolding Means
  going (stopped n at) r m = let z : ⊥ = cc (m.is_refused) in absurd z
  going (clashing pair) r m = let z : ⊥ = cc m in absurd z
  going (ready g st) r m =
      let e : m.grounds ≡ r = cc (m.is_ready) in
      record { its_good = g; its_state = st; is_ready = refl; opened = subst (λ (y : Grounds). Opened tab y.summary g) e m.opened; begins = subst (λ (y : Grounds). Begins st y.phase y.active) e m.begins }

pub gone_in : {tab : Table} {a : Result Grounds Stopped} {x : Front} → Meets x tab a → {r : Grounds} → a ≡ Ok r → Going tab x r
gone_in {tab} {a} {x} m {r} e = going tab x r (subst (λ (y : Result Grounds Stopped). Means x tab y) e m.means)

module _ {tab : Table} {a : Result Grounds Stopped} (b s : List ℕ) (given : Given) (roomless : Bool) (m : Meets (front b s given) tab a) where
  pub stopped_way : {w : Stopped} → a ≡ Err w → {u : Unanswered} → u ≡ stopped_as w → Comes given (verdict b s given roomless) (Err u)
  unfolding verdict
  stopped_way {w} e {u} d =
      subst (λ (y : Unanswered). Comes given (goes_on given roomless (front b s given)) (Err y)) (sym d)
      (stopped_comes tab given roomless (front b s given) w (subst (λ (y : Result Grounds Stopped). Means (front b s given) tab y) e m.means))

  pub ready_way : {g : Good} {st : State} {out : Result Outcome Unanswered} → front b s given ≡ ready g st → Comes given (goes_on given roomless (ready g st)) out
      → Comes given (verdict b s given roomless) out
  unfolding verdict
  ready_way {out = out} e c = subst (λ (x : Front). Comes given (goes_on given roomless x) out) (sym e) c
