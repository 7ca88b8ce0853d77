-- What a run from fresh is told: a wrong input set gets 11 and keeps the state, and any other gets the rules' answer and goes on from the state after it. So two runs
-- under the same inputs go side by side, by induction over the calls. Assumes nothing.
use mathlib.Core.Path.{◌≡◌, refl, sym, ap, ◌∙◌, subst⁻¹}
use mathlib.Core.Logic.{inl, inr}
use mathlib.Core.Bool.{Bool, true, false, cond, true≢false}
use mathlib.Core.List.{List, [], ◌∷◌}
use Prim.Native.Nat.{ℕ, ◌≤◌, ◌<◌}
use native.Mathlib.Decide.{dec_lt}
use native.Mathlib.Omega.{arith}
use lib.Dec.{T}
use Rattle.sets.specs.Words.{bits}
use Rattle.rules.specs.States.{State, fresh}
use Rattle.rules.specs.Rounds.{Answer, react}
use Rattle.theorems.specs.Traces.{after}
use Rattle.theorems.proofs.Late.{rest_declared, rest_apart}
use Rattle.block.specs.Format.{Good, good, reading}
use Rattle.block.proofs.GoodReadings.{sound}
use Rattle.records.specs.Numerals.{Bytes}
use Rattle.reaction.specs.declared.Given.{Given}
use Rattle.reaction.specs.declared.Given.TheVariants.{All, Two}
use Rattle.foldheron.specs.Answers.{Instant}
use Rattle.reaction.specs.Fronts.{INPUT, OTHER_BLOCK, stopped, ready, wrong_inputs, try_inputs, try_clash, clash_tried, try_names, try_state, try_block, front}
use Rattle.reaction.specs.Instants.{block_of, heard_of, refused, goes_on, verdict, Told, told_refusal, told_reaction, told, state_after}
use Rattle.reaction.specs.Answers.{instant_told}
use Rattle.promises.specs.Promised.{Holds, Inputs}
use Rattle.promises.specs.Demand1.{WrongInputs}
use Rattle.promises.specs.Calls.{Calls, no_call, one_more}
use Rattle.promises.specs.Beside.{Ran, Each, at_end, and_then}
use Rattle.promises.proofs.Tests.{inputs_none}
use Rattle.promises.proofs.Learnt.{instant_says}
use Rattle.promises.proofs.Instants.{promised}
use Rattle.promises.proofs.Calls.{call, fresh_is_held}

-- Inputs that are not wrong are declared.
below : (n k : ℕ) → (k ≤ n → ⊥) → n < k
below n k f = go (dec_lt n k)
  where
    go : Dec (n < k) → n < k
    go (yes l) = l
    go (no l) = absurd (f (omega arith))

module _ (g : Good) where
  abbrev Wrong : Given → Type 0
  Wrong w = WrongInputs g.header.inputs w

  pub in_present : (w : Given) → (Wrong w → ⊥) → (n : ℕ) → T ((heard_of g w).heard_present n) → n < g.header.inputs
  in_present (All set) f n t = below n g.header.inputs (λ l. f (record { signal = n; is_set = t; at_or_above = l }))
  in_present (Two p a) f n t = below n g.header.inputs (λ l. f (inl (record { signal = n; is_set = t; at_or_above = l })))

  pub in_absent : (w : Given) → (Wrong w → ⊥) → (n : ℕ) → T ((heard_of g w).heard_absent n) → n < g.header.inputs
  in_absent (All set) f n t = rest_declared (block_of g) (bits set) n t
  in_absent (Two p a) f n t = below n g.header.inputs (λ l. f (inr (inl (record { signal = n; is_set = t; at_or_above = l }))))

  pub in_one : g.header.inputs ≤ 64 → (w : Given) → (Wrong w → ⊥) → (n : ℕ) → T ((heard_of g w).heard_present n) → T ((heard_of g w).heard_absent n) → ⊥
  in_one few (All set) f n s t = rest_apart (block_of g) (bits set) n s t
  in_one few (Two p a) f n s t =
      let l : n < g.header.inputs = in_present (Two p a) f n s in
      f (inr (inr (record { signal = n; of_the_64 = omega arith; is_present = s; is_absent = t })))

  unfoldable pub declared : g.header.inputs ≤ 64 → (w : Given) → wrong_inputs g.header.inputs w ≡ false → Inputs g
  declared few w e =
      let f = inputs_none g.header.inputs w e in
      record { given = w; present_declared = in_present w f; absent_declared = in_absent w f; apart = in_one few w f }

-- What the calls for these inputs are told, from a state.
abbrev pub answer_from : Good → State → Given → Answer
answer_from g st w = react (block_of g) st (heard_of g w)

pub data ToldFrom (g : Good) : State → List Given → List Instant → Type 0 where
  nothing_told : {st : State} → ToldFrom g st [] []
  refused_11 : {st : State} {w : Given} {ws : List Given} {r : Instant} {rs : List Instant} → wrong_inputs g.header.inputs w ≡ true
      → instant_told r ≡ told_refusal INPUT 0 0 0 → ToldFrom g st ws rs → ToldFrom g st (w ∷ ws) (r ∷ rs)
  reacts : {st : State} {w : Given} {ws : List Given} {r : Instant} {rs : List Instant} → wrong_inputs g.header.inputs w ≡ false
      → instant_told r ≡ told_reaction (block_of g) (answer_from g st w) → ToldFrom g (after st (answer_from g st w)) ws rs → ToldFrom g st (w ∷ ws) (r ∷ rs)

module _ (b : List ℕ) (g : Good) (e : reading b ≡ good g) where
  pub few : g.header.inputs ≤ 64
  few = omega (arith, (sound b g e).signals)

  wrong_refused : (s : List ℕ) (st : State) → Holds g s st → (w : Given) → wrong_inputs g.header.inputs w ≡ true → verdict b s w false ≡ refused INPUT 0
  unfolding verdict goes_on front try_block try_state try_names try_clash try_inputs
  wrong_refused s st h w f =
      ap (goes_on w false) (ap (try_block s w) e ∙ ap (try_state g s w) h.found
      ∙ ap (λ (x : Bool). cond x (clash_tried g st w) (stopped OTHER_BLOCK 0)) h.names_it ∙ ap (try_clash g st w) h.no_clash
      ∙ ap (λ (x : Bool). cond x (stopped INPUT 0) (ready g st)) f)

  told_from : {s s' : List ℕ} {st : State} {ws : List Given} {rs : List Instant} → Holds g s st → Calls b s ws rs s' → ToldFrom g st ws rs
  unfolding told state_after declared
  told_from h no_call = nothing_told
  told_from {s} {s'} {st} h (one_more {s₁ = s₁} {ws = ws} {w = w} {r = r} {rs = rs} c t) =
      go (wrong_inputs g.header.inputs w) refl (λ x k. told_from {st = x} k t)
    where
      go : (z : Bool) → wrong_inputs g.header.inputs w ≡ z → ((x : State) → Holds g s₁ x → ToldFrom g x ws rs) → ToldFrom g st (w ∷ ws) (r ∷ rs)
      go true f rest =
          let v = wrong_refused s st h w f in
          refused_11 f ((instant_says b c).0 ∙ ap told v)
          (rest st (subst⁻¹ (λ (x : List ℕ). Holds g x st) ((instant_says b c).1 ∙ ap (state_after s) v) h))
      go false f rest =
          let x = declared g few w f in
          reacts f ((instant_says b c).0 ∙ ap told (promised b g e s st h x).is_reaction) (rest _ (call b g e s st h x r s₁ c).holds_after)

  pub told_from_fresh : Bytes b → {ws : List Given} {rs : List Instant} → Ran b ws rs → ToldFrom g fresh ws rs
  told_from_fresh bytes r = told_from (fresh_is_held b bytes g e r.lent r.begun r.fresh_called) r.instants_called

pub as_told : (R : Told → Told → Type 0) {x x' t t' : Told} → x ≡ t → x' ≡ t' → R t t' → R x x'
as_told R {x} {x'} {t} {t'} p q k = subst⁻¹ (λ (y : Told). R y x') p (subst⁻¹ (R t) q k)

-- Two blocks with as many inputs: where their answers are alike as long as something holds of their states and of the inputs to come, they are alike in every instant.
module _ (g h : Good) (same : g.header.inputs ≡ h.header.inputs) (R : Told → Told → Type 0) (both_11 : R (told_refusal INPUT 0 0 0) (told_refusal INPUT 0 0 0))
    (Q : State → State → List Given → Type 0) (kept : (st su : State) (w : Given) (ws : List Given) → Q st su (w ∷ ws) → Q st su ws)
    (onward : (st su : State) (w : Given) (ws : List Given) → wrong_inputs g.header.inputs w ≡ false → Q st su (w ∷ ws)
    → R (told_reaction (block_of g) (answer_from g st w)) (told_reaction (block_of h) (answer_from h su w)) × Q (after st (answer_from g st w)) (after su (answer_from h su w)) ws) where
  never_both : {P : Type 0} (w : Given) → wrong_inputs g.header.inputs w ≡ true → wrong_inputs h.header.inputs w ≡ false → P
  never_both w p q = absurd (true≢false (sym p ∙ ap (λ (k : ℕ). wrong_inputs k w) same ∙ q))

  pub beside : {st su : State} {ws : List Given} {rs rs' : List Instant} → ToldFrom g st ws rs → ToldFrom h su ws rs' → Q st su ws → Each R rs rs'
  beside nothing_told nothing_told q = at_end
  beside (refused_11 f e t) (refused_11 f' e' t') q = and_then (as_told R e e' both_11) (beside t t' (kept _ _ _ _ q))
  beside (refused_11 {w = w} f e t) (reacts f' e' t') q = never_both w f f'
  beside (reacts {w = w} f e t) (refused_11 f' e' t') q = absurd (true≢false (sym f' ∙ ap (λ (k : ℕ). wrong_inputs k w) (sym same) ∙ f))
  beside (reacts f e t) (reacts f' e' t') q = let x = onward _ _ _ _ f q in and_then (as_told R e e' x.0) (beside t t' x.1)
