-- The rules as they were before a local's absence was asked for under the mark at hand. Document 001's formula asks for it under plus even where
-- the mark is open; its remark analyses the body with the same mark, and the remark decides. Must and can are written here once for both
-- readings, so that they can be compared; `gives` is the reading in force. Assumes nothing.
use Rattle.std.specs.Prelude.{◌≡◌, ◌≢◌, true, false, List, ℕ, zero, suc, T}
use Rattle.sets.specs.Numbers.{Numbers, empty, single, union, only_if, lowest}
use Rattle.rules.specs.Statements.{Block, code}
use Rattle.rules.specs.Events.{Status, unknown, Event, giving, event, Hearing}
use Rattle.rules.specs.Instant.{Step, done, stay, say, leave, test, catch, scope, chain, beside}
use Rattle.rules.specs.MustCan.{Mark, plus, Question, must, can, Given, in_doubt, choose, caught, both, followed, onward, local_status, hidden}
use Rattle.rules.specs.States.{State, step, kept_by, next}
use Rattle.rules.specs.Rounds.{marks, begin, all_same, Settled, one_more, Answer, answered, not_constructive, code_width, answer}

-- A reading: under which mark can asks whether a local's signal is in its body's can, by the mark at hand.
abbrev pub Reading : Type 0
Reading = Mark → Mark

-- The remark: the mark at hand.
abbrev pub remark : Reading
remark m = m

-- The formula, as it was before: plus, whatever the mark.
abbrev pub formula : Reading
formula m = plus

abbrev pub absence_read : Reading → Question → Question
absence_read r must = can plus
absence_read r (can m) = can (r m)

-- What must, or can with a mark, gives at an event by a reading: the equations of `gives`, but for that one question.
unfoldable pub gives_by : Reading → Question → Step → Event → Given
gives_by r k done E = record { signals = empty; codes = single 0 }
gives_by r k (stay A) E = record { signals = empty; codes = single 1 }
gives_by r k (say s) E = record { signals = single s; codes = single 0 }
gives_by r k (leave d) E = record { signals = empty; codes = single (code d) }
gives_by r k (test s p q) E =
    choose k (E s) (gives_by r k p E) (gives_by r k q E) (gives_by r (in_doubt k) p E) (gives_by r (in_doubt k) q E)
gives_by r k (catch p) E = caught (gives_by r k p E)
gives_by r k (chain p q) E = followed (gives_by r k p E) (gives_by r (onward k ((gives_by r must p E).codes 0)) q E)
gives_by r k (beside p q) E = both (gives_by r k p E) (gives_by r k q E)
gives_by r k (scope s p) E =
    hidden s
    (gives_by r k p (giving E s (local_status k s (gives_by r must p (giving E s unknown)) (gives_by r (absence_read r k) p (giving E s unknown)))))

-- What they gave before.
abbrev pub gave : Question → Step → Event → Given
gave = gives_by formula

-- The pauses kept, as they were: a local was executed with the status that must settled for it then.
abbrev pub executed_before : ℕ → Step → Event → Status
executed_before s p E = local_status must s (gave must p (giving E s unknown)) (gave (can plus) p (giving E s unknown))

unfoldable pub kept_before : Step → Event → Numbers
kept_before done E = empty
kept_before (stay A) E = A
kept_before (say s) E = empty
kept_before (leave d) E = empty
kept_before (test s p q) E = only_if ((gave must (test s p q) E).codes 1) (kept_by (E s) (kept_before p E) (kept_before q E))
kept_before (catch p) E = only_if ((gave must (catch p) E).codes 1) (kept_before p E)
kept_before (scope s p) E = only_if ((gave must (scope s p) E).codes 1) (kept_before p (giving E s (executed_before s p E)))
kept_before (chain p q) E =
    only_if ((gave must (chain p q) E).codes 1) (union (kept_before p E) (only_if ((gave must p E).codes 0) (kept_before q E)))
kept_before (beside p q) E = only_if ((gave must (beside p q) E).codes 1) (union (kept_before p E) (kept_before q E))

-- The rounds, as they were.
unfoldable pub round_before : Block → Step → Hearing → List Status → List Status
round_before b p heard vs = marks (gave must p (event b heard vs)) (gave (can plus) p (event b heard vs)) b.inputs vs

pub data RoundsBefore (b : Block) (p : Step) (heard : Hearing) : List Status → ℕ → List Status → Type 0 where
  last : {vs : List Status} → round_before b p heard vs ≡ vs → RoundsBefore b p heard vs 1 vs
  more : {vs final : List Status} {n : ℕ} → round_before b p heard vs ≢ vs → RoundsBefore b p heard (round_before b p heard vs) n final
      → RoundsBefore b p heard vs (suc n) final

-- One instant, as it was: the rounds end, and their event made the code known, or did not.
pub data InstantBefore (b : Block) (st : State) (heard : Hearing) : Answer → Type 0 where
  answers : {vs : List Status} {n c : ℕ} → RoundsBefore b (step b.body st) heard (begin b) n vs
      → T ((gave must (step b.body st) (event b heard vs)).codes c)
      → InstantBefore b st heard (answered vs c (next c (kept_before (step b.body st) (event b heard vs))) n)
  refuses : {vs : List Status} {n : ℕ} → RoundsBefore b (step b.body st) heard (begin b) n vs
      → ((c : ℕ) → T ((gave must (step b.body st) (event b heard vs)).codes c) → ⊥) → InstantBefore b st heard (not_constructive vs n)

-- The same, computed.
unfoldable pub settle_before : Block → Step → Hearing → ℕ → List Status → Settled
unfolding round_before all_same
settle_before b p heard zero vs = record { statuses = vs; rounds = 0 }
settle_before b p heard (suc fuel) vs =
    elim (all_same (round_before b p heard vs) vs) [
      | true ↦ record { statuses = vs; rounds = 1 }
      | false ↦ one_more (settle_before b p heard fuel (round_before b p heard vs))
    ]

unfoldable pub react_before : Block → State → Hearing → Answer
unfolding settle_before begin answer
react_before b st heard =
    let p = step b.body st in
    let r = settle_before b p heard (suc b.outputs) (begin b) in
    let E = event b heard r.statuses in
    answer r (lowest code_width (gave must p E).codes) (kept_before p E)
