-- The rounds of an instant, and the answer. Assumes nothing.
use Rattle.std.specs.Prelude.{◌≡◌, ◌≢◌, Bool, true, false, cond, ◌&&◌, List, [], ◌∷◌, ℕ, zero, suc, ◌+◌, ◌-◌, leb, get_or, replicate}
use Rattle.std.proofs.Math.Option.{Option, none, some}
use Rattle.sets.specs.Numbers.{Numbers, lowest}
use Rattle.rules.specs.Statements.{Block}
use Rattle.rules.specs.Events.{Status, present, absent, unknown, Hearing, event}
use Rattle.rules.specs.Instant.{Step}
use Rattle.rules.specs.MustCan.{plus, must, can, Given, marked, gives}
use Rattle.rules.specs.States.{State, step, kept, next}

-- The outputs' statuses, from signal s on, each marked by what must and can give.
unfoldable pub marks : Given → Given → ℕ → List Status → List Status
marks m c s [] = []
marks m c s (v ∷ vs) = marked (m.signals s) (c.signals s) v ∷ marks m c (suc s) vs

-- A round marks present the outputs in must and absent those not in can under plus.
unfoldable pub round : Block → Step → Hearing → List Status → List Status
round b p heard outs = marks (gives must p (event b heard outs)) (gives (can plus) p (event b heard outs)) b.inputs outs

-- All outputs begin unknown.
unfoldable pub begin : Block → List Status
begin b = replicate b.outputs unknown

-- Rounds b p heard outs n final: from these statuses the n-th round is the first that changes nothing, and it leaves `final`.
pub data Rounds (b : Block) (p : Step) (heard : Hearing) : List Status → ℕ → List Status → Type 0 where
  last : {outs : List Status} → round b p heard outs ≡ outs → Rounds b p heard outs 1 outs
  more : {outs final : List Status} {n : ℕ} → round b p heard outs ≢ outs → Rounds b p heard (round b p heard outs) n final → Rounds b p heard outs (suc n) final

abbrev pub same : Status → Status → Bool
same present present = true
same present absent = false
same present unknown = false
same absent present = false
same absent absent = true
same absent unknown = false
same unknown present = false
same unknown absent = false
same unknown unknown = true

-- The outputs with a status, by signal number.
unfoldable pub outputs_with : Status → Block → List Status → Numbers
outputs_with v b outs n = leb b.inputs n && same (get_or outs (n - b.inputs) unknown) v

-- How many outputs are undecided.
unfoldable pub undecided : List Status → ℕ
undecided [] = 0
undecided (v ∷ vs) = cond (same v unknown) 1 0 + undecided vs

unfoldable pub all_same : List Status → List Status → Bool
all_same [] [] = true
all_same [] (w ∷ ws) = false
all_same (v ∷ vs) [] = false
all_same (v ∷ vs) (w ∷ ws) = same v w && all_same vs ws

-- Where the rounds end: the final statuses, and how many rounds there were.
pub record Settled : Type 0 where
  pub statuses : List Status
  pub rounds : ℕ

abbrev pub one_more : Settled → Settled
one_more r = record { statuses = r.statuses; rounds = suc r.rounds }

-- The rounds, computed: outputs plus 1 of them are enough.
unfoldable pub settle : Block → Step → Hearing → ℕ → List Status → Settled
unfolding round all_same
settle b p heard zero outs = record { statuses = outs; rounds = 0 }
settle b p heard (suc fuel) outs =
    elim (all_same (round b p heard outs) outs) [
      | true ↦ record { statuses = outs; rounds = 1 }
      | false ↦ one_more (settle b p heard fuel (round b p heard outs))
    ]

unfoldable pub final_of : Block → State → Hearing → Settled
unfolding settle begin
final_of b st heard = settle b (step b.body st) heard (suc b.outputs) (begin b)

-- The answer to an instant: the outputs' final statuses with the code, the next state and the number of rounds; or, where the
-- final round leaves the code unknown, NOT CONSTRUCTIVE with the statuses and the rounds.
pub data Answer : Type 0 where
  answered : List Status → ℕ → State → ℕ → Answer
  not_constructive : List Status → ℕ → Answer

-- The codes of a legal block are below 18.
abbrev pub code_width : ℕ
code_width = 18

unfoldable pub answer : Settled → Option ℕ → Numbers → Answer
unfolding next
answer r none A = not_constructive r.statuses r.rounds
answer r (some c) A = answered r.statuses c (next c A) r.rounds

-- One instant of a block from a state, with what is heard of the inputs.
unfoldable pub react : Block → State → Hearing → Answer
unfolding answer final_of
react b st heard =
    let r = final_of b st heard in
    let p = step b.body st in
    let E = event b heard r.statuses in
    answer r (lowest code_width (gives must p E).codes) (kept p E)
