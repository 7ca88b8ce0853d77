-- The rounds end: a round that changes something leaves fewer outputs undecided, so that `settle` with fuel for each of them finds the
-- first unchanged round, and there is only one such. Assumes nothing.
use mathlib.Core.Path.{◌≡◌, refl, sym, ◌∙◌, ap, ap₂, subst⁻¹}
use mathlib.Core.Logic.{◌⊎◌, inl, inr}
use mathlib.Core.Bool.{Bool, true, false}
use mathlib.Core.List.{List, [], ◌∷◌}
use Prim.Native.Nat.{ℕ, zero, suc, ◌+◌, ◌≤◌, ◌<◌, suc-le-suc, zero-le}
use native.Mathlib.Nat.{le_refl, not-suc-le-zero, suc_inj, suc-ne-zero, zero-lt-suc}
use native.Mathlib.Omega.{arith}
use lib.Dec.{T}
use lib.ListN.{length, get_or, replicate}
use Rattle.sets.proofs.Members.{of_true, of_false}
use Rattle.rules.specs.Statements.{Block}
use Rattle.rules.specs.Events.{Status, present, absent, unknown, known, event, Hearing}
use Rattle.rules.specs.Instant.{Step}
use Rattle.rules.specs.MustCan.{must, gives}
use Rattle.rules.specs.States.{State, step}
use Rattle.rules.specs.Rounds.{round, begin, Rounds, last, more, all_same, Settled, one_more, settle, final_of, undecided}
use Rattle.rules.proofs.RoundLaws.{all_same_is, all_same_refl}
use Rattle.theorems.specs.Order.{Below}
use Rattle.theorems.specs.Reach.{Reached, at_first, settling, Final}
use Rattle.theorems.proofs.Reach.{in_must, round_length, round_keeps, round_settles, decided}

-- Statuses above others leave fewer undecided, or are the same.
abbrev pub weight : Status → ℕ
weight present = 0
weight absent = 0
weight unknown = 1

pub weighed : (v : Status) (vs : List Status) → undecided (v ∷ vs) ≡ weight v + undecided vs
unfolding undecided
weighed present vs = omega arith
weighed absent vs = omega arith
weighed unknown vs = omega arith

head_progress : (v w : Status) → Below v w → (w ≡ v) ⊎ (weight w < weight v)
head_progress present w e = inl e
head_progress absent w e = inl e
head_progress unknown present e = inr (le_refl 1)
head_progress unknown absent e = inr (le_refl 1)
head_progress unknown unknown e = inl refl

pub progress : (vs ws : List Status) → length ws ≡ length vs → ((i : ℕ) → i < length vs → Below (get_or vs i unknown) (get_or ws i unknown))
    → (ws ≡ vs) ⊎ (undecided ws < undecided vs)
progress [] [] e f = inl refl
progress [] (w ∷ ws) e f = absurd (suc-ne-zero (length ws) e)
progress (v ∷ vs) [] e f = absurd (suc-ne-zero (length vs) (sym e))
progress (v ∷ vs) (w ∷ ws) e f =
    go (head_progress v w (f zero (zero-lt-suc (length vs)))) (progress vs ws (suc_inj e) (λ i h. f (suc i) (suc-le-suc h)))
  where
    go : (w ≡ v) ⊎ (weight w < weight v) → (ws ≡ vs) ⊎ (undecided ws < undecided vs) → (w ∷ ws ≡ v ∷ vs) ⊎ (undecided (w ∷ ws) < undecided (v ∷ vs))
    go (inl a) (inl c) = inl (ap₂ (λ (x : Status) (xs : List Status). x ∷ xs) a c)
    go (inl a) (inr c) = let q = ap weight a in inr (omega (arith, weighed v vs, weighed w ws))
    go (inr a) (inl c) = let q = ap undecided c in inr (omega (arith, weighed v vs, weighed w ws))
    go (inr a) (inr c) = inr (omega (arith, weighed v vs, weighed w ws))

pub undecided_begin : (n : ℕ) → undecided (replicate n unknown) ≡ n
unfolding undecided
undecided_begin zero = refl
undecided_begin (suc n) = let e = undecided_begin n in omega arith

module _ (b : Block) (p : Step) (heard : Hearing) where
  -- What is shown of the computed rounds.
  pub record Ended (vs : List Status) (r : Settled) : Type 0 where
    pub ends : Rounds b p heard vs r.rounds r.statuses
    pub at_least : 1 ≤ r.rounds
    pub at_most : r.rounds ≤ suc (undecided vs)

  pub settle_ends : (fuel : ℕ) (vs : List Status) → Reached b p heard vs → undecided vs < fuel → Ended vs (settle b p heard fuel vs)
  unfolding settle
  settle_ends zero vs r h = absurd (not-suc-le-zero h)
  settle_ends (suc fuel) vs r h =
      go (all_same (round b p heard vs) vs) refl (progress vs (round b p heard vs) (round_length b p heard vs) (round_keeps b p heard r))
      (settle_ends fuel (round b p heard vs) (settling r (round_settles b p heard vs)))
    where
      go : (z : Bool) → all_same (round b p heard vs) vs ≡ z → (round b p heard vs ≡ vs) ⊎ (undecided (round b p heard vs) < undecided vs)
          → (undecided (round b p heard vs) < fuel → Ended (round b p heard vs) (settle b p heard fuel (round b p heard vs)))
          → Ended vs (elim z [ true ↦ record { statuses = vs; rounds = 1 } | false ↦ one_more (settle b p heard fuel (round b p heard vs)) ])
      go true e q f = record { ends = last (all_same_is (round b p heard vs) vs (of_true e)); at_least = le_refl 1; at_most = suc-le-suc zero-le }
      go false e (inl q) f = absurd (of_false e (subst⁻¹ (λ (ws : List Status). T (all_same ws vs)) q (all_same_refl vs)))
      go false e (inr q) f =
          let g = f (omega arith) in
          record {
            ends = more (λ d. of_false e (subst⁻¹ (λ (ws : List Status). T (all_same ws vs)) d (all_same_refl vs))) g.ends;
            at_least = suc-le-suc zero-le;
            at_most = omega (arith, g.at_most);
          }

  -- Where no output is undecided, a round changes nothing.
  pub nothing_left : {vs : List Status} → Reached b p heard vs → undecided vs ≡ 0 → round b p heard vs ≡ vs
  nothing_left {vs} r e = go (progress vs (round b p heard vs) (round_length b p heard vs) (round_keeps b p heard r))
    where
      go : (round b p heard vs ≡ vs) ⊎ (undecided (round b p heard vs) < undecided vs) → round b p heard vs ≡ vs
      go (inl q) = q
      go (inr h) = absurd (omega arith)

  -- The rounds from heard statuses are determined.
  pub rounds_unique : {vs ws us : List Status} {m n : ℕ} → Rounds b p heard vs m ws → Rounds b p heard vs n us → (m ≡ n) × (ws ≡ us)
  rounds_unique (last e) (last f) = (refl, refl)
  rounds_unique (last e) (more f s) = absurd (f e)
  rounds_unique (more e r) (last f) = absurd (e f)
  rounds_unique (more e r) (more f s) = let q = rounds_unique r s in (ap suc q.0, q.1)

  -- The last round changes nothing, and its statuses are reached.
  pub last_unchanged : {vs ws : List Status} {n : ℕ} → Rounds b p heard vs n ws → round b p heard ws ≡ ws
  last_unchanged (last e) = e
  last_unchanged (more e r) = last_unchanged r

  pub last_reached : {vs ws : List Status} {n : ℕ} → Reached b p heard vs → Rounds b p heard vs n ws → Reached b p heard ws
  last_reached q (last e) = q
  last_reached q (more {outs = vs} e r) = last_reached (settling q (round_settles b p heard vs)) r

-- Where a round changes nothing and the code is known, no output is undecided.
known_weight : (b : Bool) → weight (known b) ≡ 0
known_weight true = refl
known_weight false = refl

all_known : (vs : List Status) (f : ℕ → Bool) → ((i : ℕ) → i < length vs → get_or vs i unknown ≡ known (f i)) → undecided vs ≡ 0
unfolding undecided
all_known [] f h = refl
all_known (v ∷ vs) f h =
    let t = all_known vs (λ i. f (suc i)) (λ i l. h (suc i) (suc-le-suc l)) in
    let z : weight v ≡ 0 = ap weight (h zero (zero-lt-suc (length vs))) ∙ known_weight (f zero) in
    omega (arith, weighed v vs)

pub none_undecided : (b : Block) (p : Step) (heard : Hearing) (vs : List Status) → round b p heard vs ≡ vs → (c : ℕ) → T ((gives must p (event b heard vs)).codes c)
    → undecided vs ≡ 0
none_undecided b p heard vs e c t = all_known vs (in_must b p heard vs) (decided b p heard vs e c t)

-- From all outputs unknown.
pub final : (b : Block) (st : State) (heard : Hearing) → Final b st heard
unfolding final_of begin
final b st heard =
    let u : undecided (begin b) ≡ b.outputs = undecided_begin b.outputs in
    let e = settle_ends b (step b.body st) heard (suc b.outputs) (begin b) at_first (omega arith) in
    record { ends = e.ends; at_least = e.at_least; at_most = omega (arith, e.at_most) }
