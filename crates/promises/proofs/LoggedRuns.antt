-- What a refused call leaves, and the log over a run: each answered call writes one record at the end, so by induction over the calls the
-- records stand one after the other. Assumes nothing.
use mathlib.Core.Path.{◌≡◌, refl, sym, ap, ap₂, ◌∙◌, subst}
use mathlib.Core.Logic.{◌≢◌}
use mathlib.Core.Bool.{Bool, true, false, cond}
use mathlib.Core.List.{List, [], ◌∷◌, ◌++◌, map, append_assoc}
use mathlib.Core.Option.{Option, none, some}
use Prim.Native.Nat.{ℕ, ◌+◌, ◌*◌, ◌≤◌}
use native.Mathlib.Omega.{arith}
use lib.Dec.{T, eqb}
use lib.ListN.{length, take, drop, length-append, take-append-drop}
use lib.Seq.{take_at, drop-append-add, drop-drop, length-take-le}
use borrow.Author.Tests.{eqb-true, eqb-false}
use Rattle.refusals.specs.Refusals.{number, has_number, has_refusal}
use Rattle.rules.specs.Statements.{Block}
use Rattle.rules.specs.States.{State, active_of}
use Rattle.rules.specs.Rounds.{answered, not_constructive}
use Rattle.block.specs.Format.{Good, Reading, good, turned_down, reading}
use Rattle.records.specs.StateRecord.{Found, not_a_state, state, read_state, names_block, Pair, first_clash}
use Rattle.records.specs.LogRecord.{logged_at, no_room}
use Rattle.records.proofs.Back.{log_length}
use Rattle.records.proofs.Logs.{has_room, logged_length}
use Rattle.reaction.specs.Instants.{Verdict, refused, clash, reacted, Told, told, state_after, log_after, end_after, block_of, goes_on, verdict}
use Rattle.reaction.specs.Fronts.{INPUT, OTHER_BLOCK, stopped, ready, wrong_inputs, try_inputs, try_clash, clash_tried, try_names, try_state, try_block, front}
use Rattle.reaction.specs.declared.Given.{Given}
use Rattle.reaction.specs.declared.Given.TheVariants.{All, Two}
use Rattle.foldheron.specs.Answers.{Instant, Logging, answer_in, end_in}
use Rattle.reaction.specs.declared.Unanswered.{Unanswered}
use Rattle.std.specs.Prelude.{Ok, Err}
use Rattle.refusals.proofs.Laws.{number_above}
use Rattle.reaction.specs.Answers.{instant_told}
use Rattle.foldheron.proofs.Calls.{Leaves, leaves}
use Rattle.promises.specs.Calls as calls
use Rattle.promises.specs.Calls.{Calls, CalledFor, LoggedFor, with_set, with_two, went_on, LoggedCalls, no_call, one_more}
use Rattle.promises.specs.Demand1.{record_of, records, block_read, written_from, LoggedRun}
use Rattle.promises.proofs.Learnt.{logged_answer, logged_end, logged_log}
use Rattle.promises.proofs.Runs.{same_verdict}

-- A refusal leaves every byte and gives end 0.
pub record Left (v : Verdict) (s log : List ℕ) (end : ℕ) (w : Given) : Type 0 where
  pub state_stays : state_after s v ≡ s
  pub log_stays : log_after log end w v ≡ log
  pub no_end : end_after end v ≡ 0

pub left : (v : Verdict) (s log : List ℕ) (end : ℕ) (w : Given) → (told v).number ≢ 0 → Left v s log end w
unfolding told state_after log_after end_after
left (refused n at) s log end w h = record { state_stays = refl; log_stays = refl; no_end = refl }
left (clash pair) s log end w h = record { state_stays = refl; log_stays = refl; no_end = refl }
left (reacted b (answered vs c st n)) s log end w h = absurd (h refl)
left (reacted b (not_constructive vs n)) s log end w h = record { state_stays = refl; log_stays = refl; no_end = refl }

-- The rules react as the block that was read.
unfoldable On : Block → Verdict → Type 0
On k (refused n at) = Unit {0}
On k (clash pair) = Unit {0}
On k (reacted b a) = b ≡ k

on_inputs : (g : Good) (st : State) (w : Given) (roomless : Bool) → On (block_of g) (goes_on w roomless (try_inputs g st w))
unfolding On try_inputs goes_on
on_inputs g st w roomless = go (wrong_inputs g.header.inputs w) roomless
  where
    go : (x y : Bool) → On (block_of g) (goes_on w y (cond x (stopped INPUT 0) (ready g st)))
    go true y = tt
    go false true = tt
    go false false = refl

on_state : (g : Good) (s : List ℕ) (w : Given) (roomless : Bool) (f : Found) → On (block_of g) (goes_on w roomless (try_state g s w f))
unfolding On try_state try_names try_clash goes_on
on_state g s w roomless not_a_state = tt
on_state g s w roomless (state st) = named (names_block g.header.version g.statements s)
  where
    clear : (o : Option Pair) → On (block_of g) (goes_on w roomless (try_clash g st w o))
    clear none = on_inputs g st w roomless
    clear (some pair) = tt

    named : (x : Bool) → On (block_of g) (goes_on w roomless (cond x (clash_tried g st w) (stopped OTHER_BLOCK 0)))
    named true = clear (first_clash g.body (active_of st))
    named false = tt

on : (b s : List ℕ) (w : Given) (roomless : Bool) → On (block_read (reading b)) (verdict b s w roomless)
unfolding On verdict front try_block goes_on
on b s w roomless = go (reading b)
  where
    go : (x : Reading) → On (block_read x) (goes_on w roomless (try_block s w x))
    go (good g) = on_state g s w roomless (read_state g.pauses s)
    go (turned_down n at) = tt

-- An answer has room, and its record is what was heard and told.
record Wrote (k : Block) (v : Verdict) (log : List ℕ) (end : ℕ) (w : Given) : Type 0 where
  pub room : end + 32 ≤ length log
  pub log_is : log_after log end w v ≡ take end log ++ (record_of k w (told v) ++ drop (end + 32) log)
  pub keeps_length : length (log_after log end w v) ≡ length log
  pub end_is : end_after end v ≡ end + 32

wrote : (k : Block) (v : Verdict) → On k v → (s log : List ℕ) (end : ℕ) (w : Given) → Leaves v s (no_room log end) → (told v).number ≡ 0 → Wrote k v log end w
unfolding On Leaves has_number number told log_after end_after logged_at
wrote k (refused n at) o s log end w l e = absurd (subst (λ (m : ℕ). T (has_refusal m)) e l)
wrote k (clash pair) o s log end w l e = absurd (omega arith)
wrote k (reacted b (answered vs c st n)) o s log end w l e =
    let h : end + 32 ≤ length log = has_room log end l.1 in
    record {
      room = h;
      log_is = ap (λ (x : Block). take end log ++ (record_of x w (told (reacted b (answered vs c st n))) ++ drop (end + 32) log)) o;
      keeps_length = logged_length log end _ h;
      end_is = refl;
    }
wrote k (reacted b (not_constructive vs n)) o s log end w l e = absurd (omega arith)

-- One record and then more bytes are the record and the bytes.
nothing_written : (end : ℕ) (log : List ℕ) → log ≡ written_from end [] log
nothing_written end log = let z : end + 0 ≡ end = omega arith in sym (ap (λ (n : ℕ). take end log ++ drop n log) z ∙ take-append-drop end log)

module _ (log r q : List ℕ) (end : ℕ) (sized : length r ≡ 32) (room : end + 32 ≤ length log) where
  with_record : List ℕ
  with_record = take end log ++ r

  with_record_length : length with_record ≡ end + 32
  unfolding with_record
  with_record_length = length-append (take end log) r ∙ ap₂ ◌+◌ (length-take-le end log (omega arith)) sized

  once : take end log ++ (r ++ drop (end + 32) log) ≡ with_record ++ drop (end + 32) log
  unfolding with_record
  once = sym (append_assoc (take end log) r (drop (end + 32) log))

  before : take (end + 32) (take end log ++ (r ++ drop (end + 32) log)) ≡ with_record
  before = ap (take (end + 32)) once ∙ take_at with_record (drop (end + 32) log) (end + 32) with_record_length

  behind : drop (end + 32 + length q) (take end log ++ (r ++ drop (end + 32) log)) ≡ drop (end + length (r ++ q)) log
  behind =
      let n : end + 32 + length q ≡ end + length (r ++ q) = omega (arith, length-append r q, sized) in
      ap (drop (end + 32 + length q)) once
      ∙ ap (λ (k : ℕ). drop (k + length q) (with_record ++ drop (end + 32) log)) (sym with_record_length)
      ∙ drop-append-add with_record (drop (end + 32) log) (length q) ∙ drop-drop (length q) (end + 32) log ∙ ap (λ (k : ℕ). drop k log) n

  written_twice : written_from (end + 32) q (take end log ++ (r ++ drop (end + 32) log)) ≡ written_from end (r ++ q) log
  unfolding with_record
  written_twice =
      ap₂ (λ (x y : List ℕ). x ++ (q ++ y)) before behind
      ∙ append_assoc (take end log) r (q ++ drop (end + length (r ++ q)) log)
      ∙ ap (λ (x : List ℕ). take end log ++ x) (sym (append_assoc r q (drop (end + length (r ++ q)) log)))

record_length : (k : Block) (w : Given) (t : Told) → length (record_of k w t) ≡ 32
record_length k w t = log_length _

-- A call keeps the log's length, and the caller goes on at most a record further.
logged_step : (b s s₁ log log₁ : List ℕ) (end : ℕ) (w : Given) (r : Logging) → LoggedFor b s w log end r s₁ log₁ → (length log₁ ≡ length log) × (went_on end r ≤ end + 32)
unfolding went_on
logged_step b s s₁ log log₁ end w r c = go (eqb (instant_told (answer_in r)).number 0) refl
  where
    v : Verdict
    v = verdict b s w (no_room log end)

    told_number : (instant_told (answer_in r)).number ≡ (told v).number
    told_number = ap (λ (t : Told). t.number) (logged_answer b c)

    go : (x : Bool) → eqb (instant_told (answer_in r)).number 0 ≡ x → (length log₁ ≡ length log) × (cond x (end_in r) end ≤ end + 32)
    go true q =
        let u = wrote (block_read (reading b)) v (on b s w (no_room log end)) s log end w (leaves b s w (no_room log end)) (sym told_number ∙ eqb-true (instant_told (answer_in r)).number 0 q) in
        (ap length (logged_log b c) ∙ u.keeps_length, (let e : end_in r ≡ end + 32 = logged_end b c ∙ u.end_is in omega arith))
    go false q =
        let l = left v s log end w (λ z. eqb-false (instant_told (answer_in r)).number 0 q (told_number ∙ z)) in
        (ap length (logged_log b c ∙ l.log_stays), omega arith)

-- The first call of a run and the rest.
module _ (b s s₁ log log₁ log' : List ℕ) (ws : List Given) (end end' : ℕ) (w : Given) (r : Logging) (rs : List Logging) (c : LoggedFor b s w log end r s₁ log₁)
    (rest : LoggedRun (block_read (reading b)) log₁ (went_on end r) ws rs log' end') where
  v : Verdict
  v = verdict b s w (no_room log end)

  t : Told
  t = instant_told (answer_in r)

  abbrev k : Block
  k = block_read (reading b)

  told_is : t ≡ told v
  unfolding t v
  told_is = logged_answer b c

  rest_of : (x : Bool) → eqb t.number 0 ≡ x → records k (w ∷ ws) (r ∷ rs) ≡ cond x (record_of k w t) [] ++ records k ws rs
  unfolding records t
  rest_of x q = ap (λ (y : Bool). cond y (record_of k w (instant_told (answer_in r))) [] ++ records k ws rs) q

  goes_from : (x : Bool) → eqb t.number 0 ≡ x → went_on end r ≡ cond x (end_in r) end
  unfolding went_on t
  goes_from x q = ap (λ (y : Bool). cond y (end_in r) end) q

  stays : eqb t.number 0 ≡ false → LoggedRun k log end (w ∷ ws) (r ∷ rs) log' end'
  unfolding v
  stays q =
      let l = left v s log end w (λ z. eqb-false t.number 0 q (ap (λ (x : Told). x.number) told_is ∙ z)) in
      let same : log₁ ≡ log = logged_log b c ∙ l.log_stays in
      let kept : LoggedRun k log (went_on end r) ws rs log' end' = subst (λ (x : List ℕ). LoggedRun k x (went_on end r) ws rs log' end') same rest in
      let m : LoggedRun k log end ws rs log' end' = subst (λ (n : ℕ). LoggedRun k log n ws rs log' end') (goes_from false q) kept in
      record {
        log_is = m.log_is ∙ ap (λ (x : List ℕ). written_from end x log) (sym (rest_of false q));
        end_is = m.end_is ∙ ap (λ (x : List ℕ). end + length x) (sym (rest_of false q));
        same_length = m.same_length;
      }

  writes : eqb t.number 0 ≡ true → LoggedRun k log end (w ∷ ws) (r ∷ rs) log' end'
  unfolding v
  writes q =
      let u = wrote (block_read (reading b)) v (on b s w (no_room log end)) s log end w (leaves b s w (no_room log end)) (sym (ap (λ (x : Told). x.number) told_is) ∙ eqb-true t.number 0 q) in
      let R : List ℕ = record_of k w t in
      let wide : length R ≡ 32 = record_length k w t in
      let is : log₁ ≡ take end log ++ (R ++ drop (end + 32) log) =
      logged_log b c ∙ u.log_is ∙ ap (λ (x : Told). take end log ++ (record_of k w x ++ drop (end + 32) log)) (sym told_is)
      in
      let at : went_on end r ≡ end + 32 = goes_from true q ∙ logged_end b c ∙ u.end_is in
      record {
        log_is =
            rest.log_is ∙ ap₂ (λ (n : ℕ) (x : List ℕ). written_from n (records k ws rs) x) at is ∙ written_twice log R (records k ws rs) end wide u.room
            ∙ ap (λ (x : List ℕ). written_from end x log) (sym (rest_of true q));
        end_is =
            rest.end_is ∙ ap (λ (n : ℕ). n + length (records k ws rs)) at
            ∙ (let z : end + 32 + length (records k ws rs) ≡ end + length (R ++ records k ws rs) = omega (arith, length-append R (records k ws rs), wide) in z)
            ∙ ap (λ (x : List ℕ). end + length x) (sym (rest_of true q));
        same_length = rest.same_length ∙ ap length (logged_log b c) ∙ u.keeps_length;
      }

  first_and_rest : LoggedRun k log end (w ∷ ws) (r ∷ rs) log' end'
  first_and_rest = go (eqb t.number 0) refl
    where
      go : (x : Bool) → eqb t.number 0 ≡ x → LoggedRun k log end (w ∷ ws) (r ∷ rs) log' end'
      go true q = writes q
      go false q = stays q

pub logged_run : (b : List ℕ) {s log : List ℕ} {end : ℕ} {ws : List Given} {rs : List Logging} {s' log' : List ℕ} {end' : ℕ} → LoggedCalls b s log end ws rs s' log' end'
    → LoggedRun (block_read (reading b)) log end ws rs log' end'
unfolding records
logged_run b (no_call {log = log} {end = end}) = record { log_is = nothing_written end log; end_is = omega arith; same_length = refl }
logged_run b (one_more {s = s} {s₁ = s₁} {log = log} {log₁ = log₁} {log' = log'} {ws = ws} {end = end} {end' = end'} {w = w} {r = r} {rs = rs} c rest) =
    first_and_rest b s s₁ log log₁ log' ws end end' w r rs c (logged_run b rest)

-- A call with room in its log is one without a log.
unlogged : (b s s₁ log log₁ : List ℕ) (end : ℕ) (w : Given) (r : Logging) → end + 32 ≤ length log → LoggedFor b s w log end r s₁ log₁ → CalledFor b s w (answer_in r) s₁
unlogged b s s₁ log log₁ end (All x) r room (with_set c) =
    let same = same_verdict log end room b s (All x) in
    with_set (record {
      call = record {
        lifetimes = ([], ([], tt));
        places = c.call.places;
        learnt = (c.call.learnt.0 ∙ ap told same, c.call.learnt.1.1.0 ∙ ap (state_after s) same);
      };
    })
unlogged b s s₁ log log₁ end (Two x y) r room (with_two c) =
    let same = same_verdict log end room b s (Two x y) in
    with_two (record {
      call = record {
        lifetimes = ([], ([], tt));
        places = c.call.places;
        learnt = (c.call.learnt.0 ∙ ap told same, c.call.learnt.1.1.0 ∙ ap (state_after s) same);
      };
    })

-- There is an answer with a log, for an answer of the instant; and a logged answer is made of its instant's answer and its end.
pub a_logging : (v : Verdict) (s log : List ℕ) (end : ℕ) (w : Given) (a : Instant) → instant_told a ≡ told v
    → (r : Logging) × (instant_told (answer_in r) ≡ told v) × (end_in r ≡ end_after end v)
unfolding answer_in end_in instant_told number
a_logging v s log end w (Ok r) e = (Ok (record { reaction = r; end = end_after end v }), e, refl)
a_logging v s log end w (Err (Unanswered.NotConstructive d)) e =
    (Err (Unanswered.NotConstructive d), e, sym (left v s log end w (λ z. absurd (let k : ◌≡◌ {A = ℕ} 13 0 = ap (λ (t : Told). t.number) e ∙ z in omega arith))).no_end)
a_logging v s log end w (Err (Unanswered.Clash m n)) e =
    (Err (Unanswered.Clash m n), e, sym (left v s log end w (λ z. absurd (let k : ◌≡◌ {A = ℕ} 10 0 = ap (λ (t : Told). t.number) e ∙ z in omega arith))).no_end)
a_logging v s log end w (Err (Unanswered.Refused r)) e =
    (Err (Unanswered.Refused r), e, sym (left v s log end w (λ z. number_above r.why (ap (λ (t : Told). t.number) e ∙ z))).no_end)

pub logging_told_apart : (r q : Logging) → answer_in r ≡ answer_in q → end_in r ≡ end_in q → r ≡ q
unfolding answer_in end_in
logging_told_apart (Ok l) (Ok m) e d = let f : l.reaction ≡ m.reaction = cc in λ i. Ok (record { reaction = f i; end = d i })
logging_told_apart (Ok l) (Err u) e d = let z : ⊥ = cc in absurd z
logging_told_apart (Err u) (Ok m) e d = let z : ⊥ = cc in absurd z
logging_told_apart (Err u) (Err v) e d = let f : u ≡ v = cc in ap Err f

-- With room for a record each, calls with a log are calls without one: the same answers on the same bytes of state.
pub without_log : (b : List ℕ) {s log : List ℕ} {end : ℕ} {ws : List Given} {rs : List Logging} {s' log' : List ℕ} {end' : ℕ} → LoggedCalls b s log end ws rs s' log' end'
    → end + 32 * length ws ≤ length log → Calls b s ws (map answer_in rs) s'
without_log b no_call room = calls.no_call
without_log b (one_more {s = s} {s₁ = s₁} {log = log} {log₁ = log₁} {ws = ws} {end = end} {w = w} {r = r} c rest) room =
    let first : end + 32 ≤ length log = omega arith in
    let made : CalledFor b s w (answer_in r) s₁ = unlogged b s s₁ log log₁ end w r first c in
    let l = logged_step b s s₁ log log₁ end w r c in
    calls.one_more made (without_log b rest (omega (arith, l.0, l.1)))
