-- What each call's contract says, clause by clause: a contract that comes to say less no longer gives these. Each is read off the call. A
-- further call takes the same two lines. Assumes nothing.
use mathlib.Core.Path.{◌≡◌, sym, ap, ◌∙◌}
use mathlib.Core.Bool.{false}
use mathlib.Core.List.{List}
use Prim.Native.Nat.{ℕ}
use lib.ListN.{length}
use Rattle.block.specs.Format.{reading}
use Rattle.reaction.specs.Instants.{told, state_after, log_after, end_after, verdict}
use Rattle.records.specs.LogRecord.{no_room}
use Rattle.reaction.specs.declared.Given.{Given}
use Rattle.records.specs.Parts.{LiesAt}
use Rattle.std.specs.Prelude.{Result, IfOk}
use Rattle.shelf.specs.Calls as shelf
use Rattle.shelf.specs.Calls.{ShelfAnswer}
use Rattle.shelf.specs.Answered.{shelved_values, shelved_owed, lies_from}
use Rattle.refusals.specs.declared.Why.{Why}
use Rattle.foldheron.specs.Answers.{Checked}
use Rattle.foldheron.specs.Answers.{Begun}
use Rattle.foldheron.specs.Answers.{FoundPart, Excerpted, excerpted_as, part_told}
use Rattle.foldheron.specs.Answers.{Instant}
use Rattle.foldheron.specs.Answers.{Logging, answer_in, end_in}
use Rattle.reasons.specs.Taking.{asked_of}
use Rattle.reasons.specs.declared.asked.Asked.{Asked}
use Rattle.foldheron.specs.Answers.{Reason}
use Rattle.foldheron.specs.Reasons.{reason_values, reason_owed}
use Rattle.refusals.specs.declared.Refused.{Refused}
use Rattle.foldheron.specs.Answers.{Likeness}
use Rattle.alike.specs.Calls as alike
use Rattle.foldheron.specs.Answers.{Wrote}
use Rattle.writing.specs.Answers.{roomed, wrote_values, wrote_owed, out_owed}
use Rattle.doubled.specs.Copies.{doubling}
use Rattle.converting.specs.Conversions.{converting}
use Rattle.text.specs.Reader.{text_read}
use Rattle.write_text.specs.WriteText.{text_writing}
use Rattle.foldheron.specs.Answers.{Maze}
use Rattle.maze.specs.declared.Room.{Room}
use Rattle.foldheron.specs.Answers.{FoundCorridor}
use Rattle.maze.specs.Views.{Views, view}
use Rattle.maze.specs.Ways.{room_of, way_told, way_in}
use Rattle.reaction.specs.Answers.{instant_told}
use Rattle.refusals.specs.Refusals.{number}
use Rattle.foldheron.specs.Answers.{check_values, check_owed, begun_values, begun_owed, state_owed, part_owed}
use Rattle.promises.specs.Calls.{◌holds◌, CheckCalled, FreshCalled, CalledFor, LoggedFor, with_set, with_two, PartCalled, ExcerptCalled, ReasonCalled}
use Rattle.promises.specs.Calls.{InstallCalled, FetchCalled, WithdrawCalled, NumberCalled, AlikeCalled, DoubleCalled, ConvertCalled, WriteTextCalled, ReadTextCalled, MazeCalled, CorridorCalled}

module _ (b : List ℕ) where
  pub check_says : {r : Checked} → CheckCalled b r → check_values r ≡ check_owed (reading b)
  check_says c = c.call.learnt

  pub fresh_says : {s s' : List ℕ} {r : Begun} → FreshCalled b s r s' → (begun_values r ≡ begun_owed (reading b) s) × (s' ≡ state_owed (reading b) s)
  fresh_says c = c.call.learnt

  pub instant_says : {s s' : List ℕ} {w : Given} {r : Instant} → CalledFor b s w r s'
      → (instant_told r ≡ told (verdict b s w false)) × (s' ≡ state_after s (verdict b s w false))
  instant_says (with_set c) = c.call.learnt
  instant_says (with_two c) = c.call.learnt

  pub logged_answer : {s s' log log' : List ℕ} {w : Given} {end : ℕ} {r : Logging} → LoggedFor b s w log end r s' log'
      → instant_told (answer_in r) ≡ told (verdict b s w (no_room log end))
  logged_answer (with_set c) = c.call.learnt.0
  logged_answer (with_two c) = c.call.learnt.0

  pub logged_end : {s s' log log' : List ℕ} {w : Given} {end : ℕ} {r : Logging} → LoggedFor b s w log end r s' log'
      → end_in r ≡ end_after end (verdict b s w (no_room log end))
  logged_end (with_set c) = c.call.learnt.1.0
  logged_end (with_two c) = c.call.learnt.1.0

  pub logged_state : {s s' log log' : List ℕ} {w : Given} {end : ℕ} {r : Logging} → LoggedFor b s w log end r s' log'
      → s' ≡ state_after s (verdict b s w (no_room log end))
  logged_state (with_set c) = c.call.learnt.1.1.0
  logged_state (with_two c) = c.call.learnt.1.1.0

  pub logged_log : {s s' log log' : List ℕ} {w : Given} {end : ℕ} {r : Logging} → LoggedFor b s w log end r s' log'
      → log' ≡ log_after log end w (verdict b s w (no_room log end))
  logged_log (with_set c) = c.call.learnt.1.1.1
  logged_log (with_two c) = c.call.learnt.1.1.1

  pub part_says : {n : ℕ} {r : FoundPart} → PartCalled b n r → part_told r ≡ part_owed (reading b) n
  part_says c = c.call.learnt.0

  module _ {n k p : ℕ} {part : List ℕ} (c : ExcerptCalled b n part k p) where
    pub excerpt_number : k ≡ (part_owed (reading b) n).number
    excerpt_number = sym (ap (λ (e : Excerpted). e.number) c.is_told) ∙ c.call.learnt.0

    pub excerpt_place : p ≡ (part_owed (reading b) n).place
    excerpt_place = sym (ap (λ (e : Excerpted). e.place) c.is_told) ∙ c.call.learnt.1.0

    pub excerpt_part : part ≡ (excerpted_as c.answer).part
    excerpt_part = sym (ap (λ (e : Excerpted). e.part) c.is_told)

    pub excerpt_lies : IfOk c.answer (λ x. LiesAt x (c.call.places 0 holds b) (part_owed (reading b) n).offset (part_owed (reading b) n).size)
    excerpt_lies = c.call.learnt.1.1

  pub reason_says : {s : List ℕ} {p a : ℕ} {asked : Asked} {r : Reason} → ReasonCalled b s p a asked r → reason_values r ≡ reason_owed b s p a (asked_of asked)
  reason_says c = c.call.learnt

module _ {s : List ℕ} {party name : ℕ} where
  pub install_says : {b s' : List ℕ} {r : Result (Unit {0}) Refused} → InstallCalled s party name b r s'
      → (shelved_values r ≡ shelved_owed (shelf.told s (shelf.install party name b))) × (s' ≡ shelf.left s (shelf.install party name b))
  install_says c = c.call.learnt

  pub withdraw_says : {s' : List ℕ} {r : Result (Unit {0}) Refused} → WithdrawCalled s party name r s'
      → (shelved_values r ≡ shelved_owed (shelf.told s (shelf.withdraw party name))) × (s' ≡ shelf.left s (shelf.withdraw party name))
  withdraw_says c = c.call.learnt

  module _ {part : List ℕ} {k p : ℕ} (c : FetchCalled s party name part k p) where
    pub fetch_says : ◌≡◌ {A = ShelfAnswer} (record { number = k; place = p; part = part }) (shelf.told s (shelf.fetch party name))
    fetch_says = sym c.is_told ∙ c.call.learnt.0

    pub fetch_part : part ≡ (shelf.told s (shelf.fetch party name)).part
    fetch_part = ap (λ (a : ShelfAnswer). a.part) fetch_says

    pub fetch_number : k ≡ (shelf.told s (shelf.fetch party name)).number
    fetch_number = ap (λ (a : ShelfAnswer). a.number) fetch_says

    pub fetch_place : p ≡ (shelf.told s (shelf.fetch party name)).place
    fetch_place = ap (λ (a : ShelfAnswer). a.place) fetch_says

    pub fetch_lies : IfOk c.answer (λ x. LiesAt x (c.call.places 0 holds s) (lies_from s party name) (length x.now))
    fetch_lies = c.call.learnt.1

pub number_says : {why : Why} {k : ℕ} → NumberCalled why k → k ≡ number why
number_says c = c.call.learnt

pub alike_says : {first second run run' : List ℕ} {r : Likeness} → AlikeCalled first second run r run' → alike.Owed (alike.front first second run) r run run'
alike_says c = c.call.learnt

pub double_says : {b out out' : List ℕ} {r : Wrote} → DoubleCalled b out r out'
    → (wrote_values r ≡ wrote_owed (roomed (doubling b) (length out))) × (out' ≡ out_owed (roomed (doubling b) (length out)) out)
double_says c = c.call.learnt

pub convert_says : {b out out' : List ℕ} {r : Wrote} → ConvertCalled b out r out'
    → (wrote_values r ≡ wrote_owed (roomed (converting b) (length out))) × (out' ≡ out_owed (roomed (converting b) (length out)) out)
convert_says c = c.call.learnt

pub write_text_says : {b out out' : List ℕ} {r : Wrote} → WriteTextCalled b out r out'
    → (wrote_values r ≡ wrote_owed (roomed (text_writing b) (length out))) × (out' ≡ out_owed (roomed (text_writing b) (length out)) out)
write_text_says c = c.call.learnt

pub read_text_says : {text out out' : List ℕ} {r : Wrote} → ReadTextCalled text out r out'
    → (wrote_values r ≡ wrote_owed (roomed (text_read text) (length out))) × (out' ≡ out_owed (roomed (text_read text) (length out)) out)
read_text_says c = c.call.learnt

pub maze_says : {b : List ℕ} {set : ℕ} {r : Maze} → MazeCalled b set r → Views (view b set) r
maze_says c = c.call.learnt

pub corridor_says : {b : List ℕ} {set n : ℕ} {room : Room} {r : FoundCorridor} → CorridorCalled b set room n r → way_told r ≡ way_in (view b set) (room_of room) n
corridor_says c = c.call.learnt
