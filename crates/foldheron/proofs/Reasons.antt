-- What is answered to a question is what is owed: one lemma for each way on from the tests, by what the code found there. Assumes nothing.
use mathlib.Core.Path.{◌≡◌, sym, ◌∙◌, ap, subst}
use mathlib.Core.List.{List, [], ◌∷◌}
use mathlib.Core.Option.{Option}
use Prim.Native.Nat.{ℕ}
use Rattle.std.specs.Prelude as prelude
use Rattle.std.specs.Prelude.{Some, None, Result, Err, ok_or}
use Rattle.refusals.specs.Refusals.{number}
use Rattle.refusals.specs.declared.Refused.{Refused}
use Rattle.refusals.specs.declared.Why.TheVariants.{Question}
use Rattle.reasons.specs.Taking.{named_of}
use Rattle.sets.specs.Words.{set_of}
use Rattle.rules.specs.Statements.{Block}
use Rattle.rules.specs.States.{State}
use Rattle.rules.specs.Events.{Hearing}
use Rattle.rules.specs.Reasons.{Asked, reason_of}
use Rattle.tables.specs.declared.Table.{Table}
use Rattle.block.specs.Format.{Good}
use Rattle.evaluate.specs.Reacts.{state_of}
use Rattle.reaction.specs.declared.Given.TheVariants.{Two}
use Rattle.reaction.specs.declared.Grounds.{Grounds}
use Rattle.reaction.specs.declared.Stopped.{Stopped}
use Rattle.reaction.specs.declared.Stopped.TheVariants as halt
use Rattle.reaction.specs.Fronts.{Front, stopped, clashing, ready, front}
use Rattle.reaction.specs.Instants.{block_of, heard_of}
use Rattle.reaction.specs.Outcomes.{Means, Meets}
use Rattle.reaction.proofs.Fronts.{same_block}
use Rattle.reaction.proofs.Ways.{Going}
use Rattle.foldheron.specs.Answers.{Reason}
use Rattle.foldheron.specs.Reasons.{reason_values, named_owed, past_tests, reason_owed}

-- The statement that is named, or QUESTION.
pub named_way : (named : prelude.Option ℕ) {r : Refused} {x : Reason} → r ≡ record { why = Question; place = 0 } → x ≡ ok_or named (halt.Refused r)
    → reason_values x ≡ named_owed (named_of named)
unfolding reason_values named_owed number
named_way (Some n) d e = ap reason_values e
named_way None d e = ap reason_values e ∙ ap (λ (y : Refused). reason_values (Err (halt.Refused y))) d

-- What turned the instant down has the values of what the tests came to.
stopped_values : (tab : Table) (x : Front) (w : Stopped) → Means x tab (Err w) → (said : Good → State → Option ℕ) → reason_values (Err w) ≡ past_tests x said
unfolding Means reason_values past_tests
stopped_values tab (stopped n at) w m said =
    let e : w ≡ halt.Refused (record { why = m.why; place = at }) = cc (m.is_refused) in
    ap (λ (y : Stopped). reason_values (Err y)) e ∙ ap (λ (k : ℕ). k ∷ at ∷ 0 ∷ 0 ∷ 0 ∷ []) m.its_number
stopped_values tab (clashing pair) w m said = let e : w ≡ halt.Clash pair.first pair.second = cc m in ap (λ (y : Stopped). reason_values (Err y)) e
stopped_values tab (ready g st) w m said = let z : ⊥ = cc (m.is_ready) in absurd z

module _ (b s : List ℕ) (p a : ℕ) (asked : Asked) where
  said : Good → State → Option ℕ
  said g st = reason_of (block_of g) st (heard_of g (Two p a)) asked

  pub stopped_way : {tab : Table} {x : Result Grounds Stopped} {w : Stopped} → Meets (front b s (Two p a)) tab x → x ≡ Err w → reason_values (Err w) ≡ reason_owed b s p a asked
  unfolding said
  stopped_way {tab} {w = w} m e = stopped_values tab (front b s (Two p a)) w (subst (λ (y : Result Grounds Stopped). Means (front b s (Two p a)) tab y) e m.means) said

  -- All tests passed: the table's block is the reading's, and the words' state the record's.
  module _ {tab : Table} {r : Grounds} (q : Going tab (front b s (Two p a)) r) where
    pub ready_way : (x : Reason) {named : Option ℕ} → reason_values x ≡ named_owed named
        → named ≡ reason_of (record { inputs = r.summary.inputs; outputs = r.summary.outputs; body = q.its_good.body }) (state_of r.phase (set_of r.active)) (heard_of q.its_good (Two p a)) asked
        → reason_values x ≡ reason_owed b s p a asked
    unfolding past_tests said
    ready_way x e f = e ∙ ap named_owed (f ∙ its_block ∙ its_state) ∙ sym (ap (λ (x : Front). past_tests x said) q.is_ready)
      where
        heard : Hearing
        heard = heard_of q.its_good (Two p a)

        its_block : reason_of (record { inputs = r.summary.inputs; outputs = r.summary.outputs; body = q.its_good.body }) (state_of r.phase (set_of r.active)) heard asked
            ≡ reason_of (block_of q.its_good) (state_of r.phase (set_of r.active)) heard asked
        its_block = ap (λ (k : Block). reason_of k (state_of r.phase (set_of r.active)) heard asked) (same_block q.opened)

        its_state : reason_of (block_of q.its_good) (state_of r.phase (set_of r.active)) heard asked ≡ reason_of (block_of q.its_good) q.its_state heard asked
        its_state = ap (λ (st : State). reason_of (block_of q.its_good) st heard asked) (sym q.begins.state_is)
