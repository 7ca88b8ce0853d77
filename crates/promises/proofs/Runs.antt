-- Runs on bytes, by induction over the input sets: each instant leaves a record found legal, from which the next goes on as the rules do.
-- With room in the log for every call, a logged run is the same run. Assumes nothing.
use mathlib.Core.Path.{◌≡◌, refl, ap, ap₂, ◌∙◌}
use mathlib.Core.Bool.{false}
use mathlib.Core.List.{List, [], ◌∷◌, map}
use Prim.Native.Nat.{ℕ, ◌+◌, ◌*◌, ◌≤◌}
use native.Mathlib.Omega.{arith}
use lib.ListN.{length}
use Rattle.rules.specs.Statements.{Block}
use Rattle.rules.specs.States.{State}
use Rattle.rules.specs.Rounds.{Answer, answered, not_constructive}
use Rattle.theorems.specs.Traces.{run, arrives}
use Rattle.theorems.proofs.Traces.{never_stuck}
use Rattle.block.specs.Format.{Good, good, reading}
use Rattle.records.proofs.Logs.{room_has, logged_length}
use Rattle.reaction.specs.Instants.{block_of, Verdict, refused, clash, reacted, verdict, Told, told, told_reaction, state_after, log_after}
use Rattle.records.specs.LogRecord.{no_room}
use Rattle.reaction.specs.declared.Given.{Given}
use Rattle.promises.specs.Promised.{Holds, Inputs}
use Rattle.promises.specs.Runs.{verdicts, bytes_left, next_end, logged_verdicts, logged_bytes_left, givens, sets, AtEach, PromisedRun}
use Rattle.promises.proofs.Records.{checked, held_is_legal}
use Rattle.promises.proofs.Instants.{promised}

all_told : (b : Block) (all : List Answer) → map told (map (reacted b) all) ≡ map (told_reaction b) all
unfolding told
all_told b [] = refl
all_told b (a ∷ all) = ap (λ (ts : List Told). told_reaction b a ∷ ts) (all_told b all)

module _ (b : List ℕ) (g : Good) (e : reading b ≡ good g) where
  at_each : (s : List ℕ) (st : State) → Holds g s st → (ws : List (Inputs g)) → AtEach b g s st ws
  at_each s st h [] = tt
  at_each s st h (w ∷ ws) = let p = promised b g e s st h w in (p, at_each (state_after s (verdict b s w.given false)) _ p.answer.holds_after ws)

  rules_run : (s : List ℕ) (st : State) → Holds g s st → (ws : List (Inputs g)) → verdicts b s (givens ws) ≡ map (reacted (block_of g)) (run (block_of g) st (sets ws))
  unfolding verdicts run
  rules_run s st h [] = refl
  rules_run s st h (w ∷ ws) =
      let p = promised b g e s st h w in
      ap₂ (λ (v : Verdict) (vs : List Verdict). v ∷ vs) p.is_reaction (rules_run (state_after s (verdict b s w.given false)) _ p.answer.holds_after ws)

  ends_held : (s : List ℕ) (st : State) → Holds g s st → (ws : List (Inputs g)) → Holds g (bytes_left b s (givens ws)) (arrives (block_of g) st (sets ws))
  unfolding bytes_left arrives
  ends_held s st h [] = h
  ends_held s st h (w ∷ ws) = ends_held (state_after s (verdict b s w.given false)) _ (promised b g e s st h w).answer.holds_after ws

  pub promised_run : (s : List ℕ) (st : State) → Holds g s st → (ws : List (Inputs g)) → PromisedRun b g s st ws
  promised_run s st h ws = record {
    at_each_instant = at_each s st h ws;
    is_the_rules_run = rules_run s st h ws;
    told_in_numbers = ap (map told) (rules_run s st h ws) ∙ all_told (block_of g) (run (block_of g) st (sets ws));
    never_stuck = never_stuck (block_of g) (checked b g e) st (held_is_legal b g e s st h) (sets ws);
    ends_holding = ends_held s st h ws;
  }

-- With room, the verdict does not look at the log, and the log keeps its length.
module _ (log : List ℕ) (end : ℕ) (room : end + 32 ≤ length log) where
  pub same_verdict : (b s : List ℕ) (w : Given) → verdict b s w (no_room log end) ≡ verdict b s w false
  same_verdict b s w = ap (verdict b s w) (room_has log end room)

  by_answer : (w : Given) (b : Block) (a : Answer) → length (log_after log end w (reacted b a)) ≡ length log
  unfolding log_after
  by_answer w b (answered vs c st n) = logged_length log end _ room
  by_answer w b (not_constructive vs n) = refl

  same_length : (w : Given) (v : Verdict) → length (log_after log end w v) ≡ length log
  unfolding log_after
  same_length w (refused n at) = refl
  same_length w (clash pair) = refl
  same_length w (reacted b a) = by_answer w b a

end_by : (end : ℕ) (b : Block) (a : Answer) → next_end end (reacted b a) ≤ end + 32
unfolding next_end
end_by end b (answered vs c st n) = omega arith
end_by end b (not_constructive vs n) = omega arith

end_near : (end : ℕ) (v : Verdict) → next_end end v ≤ end + 32
unfolding next_end
end_near end (refused n at) = omega arith
end_near end (clash pair) = omega arith
end_near end (reacted b a) = end_by end b a

pub same_run : (b s : List ℕ) (ws : List Given) (log : List ℕ) (end : ℕ) → end + 32 * length ws ≤ length log
    → (logged_verdicts b s ws log end ≡ verdicts b s ws) × (logged_bytes_left b s ws log end ≡ bytes_left b s ws)
unfolding logged_verdicts logged_bytes_left verdicts bytes_left
same_run b s [] log end room = (refl, refl)
same_run b s (w ∷ ws) log end room =
    let first : end + 32 ≤ length log = omega arith in
    let v = verdict b s w (no_room log end) in
    let same : v ≡ verdict b s w false = same_verdict log end first b s w in
    let r = same_run b (state_after s v) ws (log_after log end w v) (next_end end v) (omega (arith, same_length log end first w v, end_near end v)) in (
      ap₂ (λ (x : Verdict) (xs : List Verdict). x ∷ xs) same (r.0 ∙ ap (λ (x : Verdict). verdicts b (state_after s x) ws) same),
      r.1 ∙ ap (λ (x : Verdict). bytes_left b (state_after s x) ws) same,
    )
