-- The calls of an instant: what each answer says of the verdict behind it. A number tells the cases apart, so by cases on the verdict.
-- Assumes nothing.
use mathlib.Core.Path.{◌≡◌, refl, sym, ◌∙◌, ap, ap₂, subst}
use mathlib.Core.Logic.{◌≢◌}
use mathlib.Core.Bool.{Bool, true, false, cond}
use mathlib.Core.List.{List, [], ◌∷◌}
use mathlib.Core.Option.{Option, none, some}
use Prim.Native.Nat.{ℕ, ◌+◌, ◌≤◌}
use native.Mathlib.Omega.{arith}
use lib.Dec.{T}
use lib.ListN.{length}
use Rattle.std.specs.Prelude.{Result, Ok, Err, IsErr, IsErrAnd}
use Rattle.refusals.specs.Refusals.{number, has_number, has_refusal}
use Rattle.refusals.proofs.Laws.{of_a_block}
use Rattle.rules.specs.States.{State, active_of}
use Rattle.sets.specs.Words.{word}
use Rattle.rules.specs.Events.{present}
use Rattle.rules.specs.Rounds.{outputs_with, answered, not_constructive}
use Rattle.block.specs.Format.{Good, Reading, good, turned_down, reading}
use Rattle.block.proofs.GoodReadings.{InRange, numbers}
use Rattle.records.specs.StateRecord.{state_size, version_in, statements_in, Found, not_a_state, state, read_state, names_block, Pair as Pairing, first_clash}
use Rattle.records.specs.LogRecord.{log_size, no_room, logged_at}
use Rattle.records.specs.Held.{state_bytes, phase_number}
use Rattle.records.proofs.Reading.{found_sized}
use Rattle.reaction.specs.declared.Given.{Given}
use Rattle.reaction.specs.declared.Unanswered.{Unanswered}
use Rattle.reaction.specs.declared.Unanswered.TheVariants.{Refused, Clash, NotConstructive}
use Rattle.reaction.specs.declared.Outcome.{Outcome}
use Rattle.reaction.specs.Fronts.{stopped, ready, wrong_inputs, try_inputs, try_clash, clash_tried, try_names, try_state, try_block, front}
use Rattle.reaction.specs.Instants.{Verdict, refused, clash, reacted, Told, told, goes_on, verdict, state_after, log_after, end_after}
use Rattle.reaction.specs.Answers.{instant_told}
use Rattle.reaction.specs.Outcomes.{Writes, Hears, case_of, case_for, Comes}

-- What the tests leave behind: a refusal's number is a listed one, and a reaction has as many lent bytes as a state's record and room in the log.
unfoldable pub Leaves : Verdict → List ℕ → Bool → Type 0
Leaves (refused n at) s roomless = T (has_refusal n)
Leaves (clash pair) s roomless = Unit {0}
Leaves (reacted b a) s roomless = (length s ≡ state_size) × (roomless ≡ false)

module _ (given : Given) (roomless : Bool) (s : List ℕ) where
  inputs_leave : (g : Good) (st : State) → length s ≡ state_size → Leaves (goes_on given roomless (try_inputs g st given)) s roomless
  unfolding Leaves try_inputs goes_on has_number number
  inputs_leave g st h = go (wrong_inputs g.header.inputs given) roomless refl
    where
      go : (x y : Bool) → roomless ≡ y → Leaves (goes_on given y (cond x (stopped 11 0) (ready g st))) s roomless
      go true y e = tt
      go false true e = tt
      go false false e = (h, e)

  clash_leaves : (g : Good) (st : State) → length s ≡ state_size → (c : Option Pairing) → Leaves (goes_on given roomless (try_clash g st given c)) s roomless
  unfolding Leaves try_clash goes_on
  clash_leaves g st h none = inputs_leave g st h
  clash_leaves g st h (some pair) = tt

  names_leave : (g : Good) (st : State) → length s ≡ state_size → Leaves (goes_on given roomless (try_names g st s given)) s roomless
  unfolding Leaves try_names goes_on has_number number
  names_leave g st h = go (names_block g.header.version g.statements s)
    where
      go : (x : Bool) → Leaves (goes_on given roomless (cond x (clash_tried g st given) (stopped 17 0))) s roomless
      go true = clash_leaves g st h (first_clash g.body (active_of st))
      go false = tt

  state_leaves : (g : Good) (f : Found) → read_state g.pauses s ≡ f → Leaves (goes_on given roomless (try_state g s given f)) s roomless
  unfolding Leaves try_state goes_on has_number number
  state_leaves g not_a_state e = tt
  state_leaves g (state st) e = names_leave g st (found_sized g.pauses s st e)

pub leaves : (b s : List ℕ) (given : Given) (roomless : Bool) → Leaves (verdict b s given roomless) s roomless
unfolding Leaves verdict front try_block goes_on
leaves b s given roomless = go (reading b) refl
  where
    go : (x : Reading) → reading b ≡ x → Leaves (goes_on given roomless (try_block s given x)) s roomless
    go (good g) e = state_leaves given roomless s g (read_state g.pauses s) refl
    go (turned_down n at) e = let r : InRange n = numbers b n at e in of_a_block n r.0 r.1

-- two numbers that are equal and are not
apart : {A : Type 0} (m n : ℕ) → m ≡ n → m ≢ n → A
apart m n e f = absurd (f e)

-- An answered instant comes from an answer of the rules, and has its fields.
pub record WasAnswered (given : Given) (v : Verdict) (s : List ℕ) (roomless : Bool) (o : Outcome) : Type 0 where
  pub sized : length s ≡ state_size
  pub room : roomless ≡ false
  pub state_is : state_after s v ≡ state_bytes (version_in s) (statements_in s) (phase_number o.phase) o.kept
  pub log_is : (log : List ℕ) (end : ℕ)
      → log_after log end given v ≡ logged_at log end (record {
        inputs_present = o.heard.present;
        inputs_absent = o.heard.absent;
        outputs_present = o.reaction.present;
        code = o.reaction.code.0;
        rounds = o.reaction.rounds;
      })
  pub end_is : (end : ℕ) → end_after end v ≡ end + log_size

answered_by : (given : Given) (v : Verdict) (s : List ℕ) (roomless : Bool) (o : Outcome) → Leaves v s roomless → Comes given v (Ok o) → WasAnswered given v s roomless o
unfolding Leaves told instant_told Writes Hears case_of case_for state_after log_after end_after
answered_by given (refused n at) s roomless o l c = apart 2 0 c.same_case (omega arith)
answered_by given (clash pair) s roomless o l c = apart 2 1 c.same_case (omega arith)
answered_by given (reacted b (not_constructive outs n)) s roomless o l c = apart 2 3 c.same_case (omega arith)
answered_by given (reacted b (answered outs k st n)) s roomless o l c = record {
  sized = l.0;
  room = l.1;
  state_is = sym (c.writes (version_in s) (statements_in s));
  log_is =
      λ log end. ap₂ (λ (p a : ℕ). logged_at log end (record { inputs_present = p; inputs_absent = a; outputs_present = word 64 (outputs_with present b outs); code = k; rounds = n }))
      (sym c.hears.0) (sym c.hears.1)
      ∙ ap (λ (x : Told). logged_at log end (record {
        inputs_present = o.heard.present;
        inputs_absent = o.heard.absent;
        outputs_present = x.present_outputs;
        code = x.code;
        rounds = x.rounds;
      })) (sym c.told_is);
  end_is = λ end. refl;
}

-- Any other answer leaves state and log, and gives end 0.
pub record Refuses (v : Verdict) : Type 0 where
  pub state_stays : (s : List ℕ) → state_after s v ≡ s
  pub log_stays : (log : List ℕ) (end : ℕ) (given : Given) → log_after log end given v ≡ log
  pub no_end : (end : ℕ) → end_after end v ≡ 0

other : (u : Unanswered) → case_of (Err u) ≡ 2 → ⊥
unfolding case_of
other (NotConstructive d) e = omega arith
other (Clash m n) e = omega arith
other (Refused r) e = omega arith

refuses : (given : Given) (v : Verdict) (u : Unanswered) → Comes given v (Err u) → Refuses v
unfolding case_for state_after log_after end_after
refuses given (refused n at) u c = record { state_stays = λ s. refl; log_stays = λ log end given. refl; no_end = λ end. refl }
refuses given (clash pair) u c = record { state_stays = λ s. refl; log_stays = λ log end given. refl; no_end = λ end. refl }
refuses given (reacted b (answered outs k st n)) u c = absurd (other u c.same_case)
refuses given (reacted b (not_constructive outs n)) u c = record { state_stays = λ s. refl; log_stays = λ log end given. refl; no_end = λ end. refl }

-- So for the calls: what an answered instant writes, and that any other leaves every byte.
module _ (b s : List ℕ) (given : Given) (roomless : Bool) where
  pub was_answered : {o : Outcome} → Comes given (verdict b s given roomless) (Ok o) → WasAnswered given (verdict b s given roomless) s roomless o
  was_answered {o} c = answered_by given (verdict b s given roomless) s roomless o (leaves b s given roomless) c

  pub was_not : {u : Unanswered} → Comes given (verdict b s given roomless) (Err u) → Refuses (verdict b s given roomless)
  was_not {u} c = refuses given (verdict b s given roomless) u c

-- With a log, what comes of the room that was found is what comes of the log.
pub with_log : (b s : List ℕ) (given : Given) (log : List ℕ) (end : ℕ) {x : Bool} {a : Result Outcome Unanswered} → x ≡ no_room log end → Comes given (verdict b s given x) a
    → Comes given (verdict b s given (no_room log end)) a
with_log b s given log end {x} {a} e c = subst (λ (y : Bool). Comes given (verdict b s given y) a) e c

-- What a `?` passes on.
pub passed_on : {T E : Type 0} {e : E} (r : Result T E) → IsErr r × IsErrAnd r (λ f. f ≡ e) → r ≡ Err e
passed_on (Ok x) h = absurd h.1
passed_on (Err f) h = ap Err h.1
