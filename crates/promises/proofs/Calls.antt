-- Calls by their contracts: a contract's equations put what is promised of the verdict to the answer and the bytes. Assumes nothing.
use mathlib.Core.Path.{◌≡◌, refl, ap, ap₂, ◌∙◌, subst⁻¹}
use mathlib.Core.Bool.{Bool, true, false, cond}
use mathlib.Core.List.{List, [], ◌∷◌, map}
use Prim.Native.Nat.{ℕ, ◌+◌, ◌≤◌}
use native.Mathlib.Omega.{arith}
use lib.Dec.{eqb}
use lib.ListN.{length, get_or}
use Rattle.rules.specs.States.{State, fresh, Legal}
use Rattle.theorems.specs.Traces.{run, arrives}
use Rattle.block.specs.Format.{Good, Reading, good, turned_down, reading}
use Rattle.block.specs.declared.whole.Summary.{Summary}
use Rattle.block.proofs.GoodReadings.{numbers as refusal_numbers}
use Rattle.records.specs.Numerals.{Bytes}
use Rattle.records.specs.StateRecord.{state_record}
use Rattle.reaction.specs.Instants.{block_of, Verdict, reacted, Told, told, told_reaction, state_after, log_after, end_after, verdict}
use Rattle.records.specs.LogRecord.{no_room}
use Rattle.reaction.specs.declared.Given.{Given}
use Rattle.foldheron.specs.Answers.{Instant}
use Rattle.foldheron.specs.Answers.{Logging, answer_in}
use Rattle.reaction.specs.Answers.{instant_told}
use Rattle.std.specs.Prelude.{Ok}
use Rattle.std.specs.Prelude.{Ok}
use Rattle.foldheron.specs.Answers.{check_values, check_owed, begun_values, begun_owed, state_owed}
use Rattle.promises.specs.Promised.{ReadAs, Holds, Inputs, rules_answer, PromisedAnswer, PromisedLogged, PromisedCalls}
use Rattle.promises.specs.Promised as promised
use Rattle.promises.specs.Runs.{verdicts, bytes_left, givens, sets}
use Rattle.promises.specs.Calls.{CheckCalled, FreshCalled, CalledFor, Calls, no_call, one_more, LoggedFor}
use Rattle.promises.proofs.Records.{version_fits, legal_is_held}
use Rattle.promises.proofs.Learnt.{check_says, fresh_says, instant_says, logged_answer, logged_end, logged_state, logged_log}
use Rattle.promises.proofs.Instants.{promised as kept}
use Rattle.promises.proofs.Runs.{promised_run, same_verdict}

nth : ℕ → List ℕ → ℕ
nth n l = get_or l n 0

-- `check` answered Good: the reading is good, and its values are those that were said.
pub good_is_read : (b : List ℕ) (said : Summary) → CheckCalled b (Ok said) → ReadAs b said
unfolding check_values check_owed nth
good_is_read b said c = go (reading b) refl (check_says b c)
  where
    go : (x : Reading) → reading b ≡ x → check_values (Ok said) ≡ check_owed x → ReadAs b said
    go (good g) e v = record {
      block = g;
      its_reading = e;
      its_summary = λ i. record {
        version = ap (nth 2) v i;
        inputs = ap (nth 3) v i;
        outputs = ap (nth 4) v i;
        locals = ap (nth 5) v i;
        statements = ap (nth 6) v i;
        pauses = ap (nth 7) v i;
      };
    }
    go (turned_down n at) e v = let z : 0 ≡ n = ap (nth 0) v in let h : 1 ≤ n = (refusal_numbers b n at e).0 in absurd (omega arith)

calls_are : (b : List ℕ) {s s' : List ℕ} {ws : List Given} {rs : List Instant} → Calls b s ws rs s'
    → (map instant_told rs ≡ map told (verdicts b s ws)) × (s' ≡ bytes_left b s ws)
unfolding verdicts bytes_left
calls_are b no_call = (refl, refl)
calls_are b (one_more {ws = ws} c t) =
    let r = calls_are b t in (
      ap₂ (λ (x : Told) (xs : List Told). x ∷ xs) (instant_says b c).0 (r.0 ∙ ap (λ (x : List ℕ). map told (verdicts b x ws)) (instant_says b c).1),
      r.1 ∙ ap (λ (x : List ℕ). bytes_left b x ws) (instant_says b c).1,
    )

-- `fresh` wrote this record: it is found legal, and holds the fresh state.
pub fresh_is_held : (b : List ℕ) → Bytes b → (g : Good) → reading b ≡ good g → (s s' : List ℕ) → FreshCalled b s (Ok tt) s' → Holds g s' fresh
unfolding begun_values begun_owed state_owed Legal nth
fresh_is_held b bytes g e s s' c = go (eqb (length s) 26) refl
  where
    says : ◌≡◌ {A = List ℕ} (0 ∷ 0 ∷ []) (cond (eqb (length s) 26) (0 ∷ 0 ∷ []) (9 ∷ 0 ∷ []))
    says = (fresh_says b c).0 ∙ ap (λ (x : Reading). begun_owed x s) e

    its_record : List ℕ
    its_record = state_record g.header.version g.statements fresh

    leaves : s' ≡ cond (eqb (length s) 26) its_record s
    leaves = (fresh_says b c).1 ∙ ap (λ (x : Reading). state_owed x s) e

    go : (x : Bool) → eqb (length s) 26 ≡ x → Holds g s' fresh
    go true q =
        subst⁻¹ (λ (l : List ℕ). Holds g l fresh) (leaves ∙ ap (λ (x : Bool). cond x its_record s) q)
        (legal_is_held b g e (version_fits b g e bytes) fresh tt)
    go false q =
        let z : ◌≡◌ {A = ℕ} 0 9 = ap (nth 0) (says ∙ ap (λ (x : Bool). cond x (0 ∷ 0 ∷ []) (9 ∷ 0 ∷ [])) q) in
        absurd (omega arith)

module _ (b : List ℕ) (g : Good) (e : reading b ≡ good g) (s : List ℕ) (st : State) (h : Holds g s st) where
  by_verdict : (w : Inputs g) (v : Verdict) → v ≡ verdict b s w.given false → (t : Told) (s' : List ℕ) → t ≡ told v → s' ≡ state_after s v → PromisedAnswer g s st w t s'
  by_verdict w v same t s' p q =
      subst⁻¹ (λ (x : Told). PromisedAnswer g s st w x s') (p ∙ ap told same)
      (subst⁻¹ (λ (x : List ℕ). PromisedAnswer g s st w (told (verdict b s w.given false)) x) (q ∙ ap (state_after s) same)
      (kept b g e s st h w).answer)

  pub call : (w : Inputs g) (r : Instant) (s' : List ℕ) → CalledFor b s w.given r s' → PromisedAnswer g s st w (instant_told r) s'
  call w r s' c = by_verdict w (verdict b s w.given false) refl (instant_told r) s' (instant_says b c).0 (instant_says b c).1

  pub calls : (ws : List (Inputs g)) (rs : List Instant) (s' : List ℕ) → Calls b s (givens ws) rs s'
      → (map instant_told rs ≡ map (told_reaction (block_of g)) (run (block_of g) st (sets ws))) × Holds g s' (arrives (block_of g) st (sets ws))
  calls ws rs s' c =
      let r = calls_are b c in
      let p = promised_run b g e s st h ws in
      (r.0 ∙ p.told_in_numbers, subst⁻¹ (λ (x : List ℕ). Holds g x (arrives (block_of g) st (sets ws))) r.1 p.ends_holding)

  pub call_with_log : (w : Inputs g) (log : List ℕ) (end : ℕ) → end + 32 ≤ length log → (r : Logging) (s' log' : List ℕ)
      → LoggedFor b s w.given log end r s' log' → PromisedLogged g s st w log end r s' log'
  unfolding end_after log_after
  call_with_log w log end room r s' log' c =
      let v = verdict b s w.given (no_room log end) in
      let same : v ≡ verdict b s w.given false = same_verdict log end room b s w.given in
      let is : v ≡ reacted (block_of g) (rules_answer g st w) = same ∙ (kept b g e s st h w).is_reaction in
      record {
        answer = by_verdict w v same (instant_told (answer_in r)) s' (logged_answer b c) (logged_state b c);
        end_is = logged_end b c ∙ ap (end_after end) is;
        log_is = logged_log b c ∙ ap (log_after log end w.given) is;
      }

-- At each call of a run, by induction over the calls.
pub calls_keep : (b : List ℕ) (g : Good) → reading b ≡ good g → (s : List ℕ) (st : State) → Holds g s st → (ws : List (Inputs g)) (rs : List Instant) (s' : List ℕ)
    → Calls b s (givens ws) rs s' → PromisedCalls g s st ws rs s'
calls_keep b g e s st h [] rs s' no_call = promised.no_call h
calls_keep b g e s st h (w ∷ ws) [] s' c = elim c [ ]
calls_keep b g e s st h (w ∷ ws) (r ∷ rs) s' (one_more {s₁ = s₁} c t) =
    let p = call b g e s st h w r s₁ c in
    promised.one_more p (calls_keep b g e s₁ _ p.holds_after ws rs s' t)
