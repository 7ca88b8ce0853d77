-- Runs on the caller's bytes, without and with a log, and what is promised of them. Assumes nothing.
use Rattle.std.specs.Prelude.{◌≡◌, false, List, [], ◌∷◌, map, ℕ, ◌+◌}
use Rattle.rules.specs.States.{State}
use Rattle.rules.specs.Rounds.{Answer, answered, not_constructive}
use Rattle.theorems.specs.Traces.{InputSet, after, run, arrives}
use Rattle.theorems.specs.Demand.{NeverStuck}
use Rattle.block.specs.Format.{Good}
use Rattle.reaction.specs.Instants.{block_of, Verdict, refused, clash, reacted, told, told_reaction, state_after, log_after, verdict}
use Rattle.records.specs.LogRecord.{no_room}
use Rattle.reaction.specs.declared.Given.{Given}
use Rattle.promises.specs.Promised.{Holds, Inputs, input_set, rules_answer, Promised}

-- A run as a caller makes it: one call after the other, each on the state's bytes that the call before left. Block, state, inputs.
unfoldable pub verdicts : List ℕ → List ℕ → List Given → List Verdict
unfolding state_after
verdicts b s [] = []
verdicts b s (w ∷ ws) = verdict b s w false ∷ verdicts b (state_after s (verdict b s w false)) ws

-- The state's bytes at the run's end.
unfoldable pub bytes_left : List ℕ → List ℕ → List Given → List ℕ
unfolding state_after
bytes_left b s [] = s
bytes_left b s (w ∷ ws) = bytes_left b (state_after s (verdict b s w false)) ws

-- The same with a log lent: an answer moves the log's end behind its record, and after a refusal the caller goes on from the old end.
abbrev pub end_by_answer : ℕ → Answer → ℕ
end_by_answer end (answered vs c st n) = end + 32
end_by_answer end (not_constructive vs n) = end

unfoldable pub next_end : ℕ → Verdict → ℕ
next_end end (refused n at) = end
next_end end (clash pair) = end
next_end end (reacted b a) = end_by_answer end a

unfoldable pub logged_verdicts : List ℕ → List ℕ → List Given → List ℕ → ℕ → List Verdict
unfolding state_after log_after next_end
logged_verdicts b s [] log end = []
logged_verdicts b s (w ∷ ws) log end =
    let v = verdict b s w (no_room log end) in
    v ∷ logged_verdicts b (state_after s v) ws (log_after log end w v) (next_end end v)

unfoldable pub logged_bytes_left : List ℕ → List ℕ → List Given → List ℕ → ℕ → List ℕ
unfolding state_after log_after next_end
logged_bytes_left b s [] log end = s
logged_bytes_left b s (w ∷ ws) log end =
    let v = verdict b s w (no_room log end) in
    logged_bytes_left b (state_after s v) ws (log_after log end w v) (next_end end v)

abbrev pub givens : {g : Good} → List (Inputs g) → List Given
givens ws = map (λ w. w.given) ws

abbrev pub sets : {g : Good} → List (Inputs g) → List (InputSet (block_of g))
sets ws = map input_set ws

-- At each instant of the run what is promised of one instant holds, of the bytes that it is called with.
abbrev pub AtEach : (b : List ℕ) (g : Good) → List ℕ → State → List (Inputs g) → Type 0
AtEach b g s st [] = Unit {0}
AtEach b g s st (w ∷ ws) =
    Promised b g s st w × AtEach b g (state_after s (verdict b s w.given false)) (after st (rules_answer g st w)) ws

-- Of a run of the block with bytes b, from the state's bytes s that hold st, over declared inputs:
pub record PromisedRun (b : List ℕ) (g : Good) (s : List ℕ) (st : State) (ws : List (Inputs g)) : Type 0 where
  pub at_each_instant : AtEach b g s st ws
  -- it is the run of the rules, told in numbers,
  pub is_the_rules_run : verdicts b s (givens ws) ≡ map (reacted (block_of g)) (run (block_of g) st (sets ws))
  pub told_in_numbers : map told (verdicts b s (givens ws)) ≡ map (told_reaction (block_of g)) (run (block_of g) st (sets ws))
  -- of which demand 3 holds,
  pub never_stuck : NeverStuck (block_of g) st (sets ws)
  -- and it ends in the bytes of a legal state, the one that the rules arrive at.
  pub ends_holding : Holds g (bytes_left b s (givens ws)) (arrives (block_of g) st (sets ws))
