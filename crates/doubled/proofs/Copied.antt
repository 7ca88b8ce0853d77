-- A copy of a statement: loop bodies stand twice, signals have other names and pauses other numbers. What the check asks of a block goes
-- over to a copy, by induction over it; a doubled loop body has the codes of the body, since 0 is none of them. Assumes nothing.
use mathlib.Core.Path.{◌≡◌, refl, sym, ◌∙◌, ap, ap₂, subst, subst⁻¹}
use mathlib.Core.Logic.{◌⊎◌, inl, inr}
use mathlib.Core.Bool.{Bool, true, false, not, ◌&&◌}
use mathlib.Core.List.{List, ◌++◌}
use Prim.Native.Nat.{ℕ, suc}
use lib.Dec.{T, eqb, T_not, not_T}
use Rattle.sets.specs.Numbers.{Numbers, single, union, without, only_if, maxima, downs, listed}
use Rattle.sets.proofs.Members.{is_false, and_in, and_left, and_right, or_left, or_right, or_out, eqb_in, single_out, union_left, union_out, without_in, without_member, only_if_test, ext_T}
use Rattle.sets.proofs.Counts.{listed_append}
use Rattle.rules.specs.Statements.{depth, Depth, Stmt, nothing, pause, emit, present?◌then◌else◌, suspend◌on◌, ◌⨾◌, loop, ◌parallel◌, trap, exit, local, pauses, Trapped}
use Rattle.rules.specs.Loops.{codes_of, loops_pass}
use Rattle.likeness.specs.Likeness.{naming}

-- D has the signals in scope and ρ their names; pause m stands for pause o m.
pub data Copy (o : ℕ → ℕ) : Numbers → (ℕ → ℕ) → Stmt → Stmt → Type 0 where
  of_nothing : {D : Numbers} {ρ : ℕ → ℕ} → Copy o D ρ nothing nothing
  of_pause : {D : Numbers} {ρ : ℕ → ℕ} {m n : ℕ} → o m ≡ n → Copy o D ρ (pause n) (pause m)
  of_emit : {D : Numbers} {ρ : ℕ → ℕ} {s : ℕ} → T (D s) → Copy o D ρ (emit s) (emit (ρ s))
  of_present : {D : Numbers} {ρ : ℕ → ℕ} {s : ℕ} {p q p' q' : Stmt} → T (D s) → Copy o D ρ p p' → Copy o D ρ q q'
      → Copy o D ρ (present? s then p else q) (present? (ρ s) then p' else q')
  of_suspend : {D : Numbers} {ρ : ℕ → ℕ} {s : ℕ} {p p' : Stmt} → T (D s) → Copy o D ρ p p' → Copy o D ρ (suspend p on s) (suspend p' on (ρ s))
  of_sequence : {D : Numbers} {ρ : ℕ → ℕ} {p q p' q' : Stmt} → Copy o D ρ p p' → Copy o D ρ q q' → Copy o D ρ (p ⨾ q) (p' ⨾ q')
  of_loop : {D : Numbers} {ρ : ℕ → ℕ} {p p₁ p₂ : Stmt} → Copy o D ρ p p₁ → Copy o D ρ p p₂ → Copy o D ρ (loop p) (loop (p₁ ⨾ p₂))
  of_parallel : {D : Numbers} {ρ : ℕ → ℕ} {p q p' q' : Stmt} → Copy o D ρ p p' → Copy o D ρ q q' → Copy o D ρ (p parallel q) (p' parallel q')
  of_trap : {D : Numbers} {ρ : ℕ → ℕ} {p p' : Stmt} → Copy o D ρ p p' → Copy o D ρ (trap p) (trap p')
  of_exit : {D : Numbers} {ρ : ℕ → ℕ} {d : Depth} → Copy o D ρ (exit d) (exit d)
  of_local : {D : Numbers} {ρ : ℕ → ℕ} {s n : ℕ} {p p' : Stmt} → (T (D s) → ⊥) → ((x : ℕ) → T (D x) → ρ x ≡ n → ⊥)
      → Copy o (union (single s) D) (naming ρ s n) p p' → Copy o D ρ (local s p) (local n p')

-- The pauses of a statement with two parts.
pub listed_one : (xs ys : List ℕ) (n : ℕ) → T (listed xs n) → T (listed (xs ++ ys) n)
listed_one xs ys n t = subst⁻¹ T (listed_append xs ys n) (or_left (listed xs n) (listed ys n) t)

pub listed_other : (xs ys : List ℕ) (n : ℕ) → T (listed ys n) → T (listed (xs ++ ys) n)
listed_other xs ys n t = subst⁻¹ T (listed_append xs ys n) (or_right (listed xs n) (listed ys n) t)

pub listed_either : (xs ys : List ℕ) (n : ℕ) → T (listed (xs ++ ys) n) → T (listed xs n) ⊎ T (listed ys n)
listed_either xs ys n t = or_out (listed xs n) (listed ys n) (subst T (listed_append xs ys n) t)

two_into : (o : ℕ → ℕ) (xs ys us vs : List ℕ) → ((m : ℕ) → T (listed us m) → T (listed xs (o m))) → ((m : ℕ) → T (listed vs m) → T (listed ys (o m)))
    → (m : ℕ) → T (listed (us ++ vs) m) → T (listed (xs ++ ys) (o m))
two_into o xs ys us vs f g m t = go (listed_either us vs m t)
  where
    go : T (listed us m) ⊎ T (listed vs m) → T (listed (xs ++ ys) (o m))
    go (inl s) = listed_one xs ys (o m) (f m s)
    go (inr s) = listed_other xs ys (o m) (g m s)

-- A pause of the copy stands for one of the statement.
pub copy_into : {o : ℕ → ℕ} {D : Numbers} {ρ : ℕ → ℕ} {p p' : Stmt} → Copy o D ρ p p' → (m : ℕ) → T (listed (pauses p') m) → T (listed (pauses p) (o m))
unfolding pauses listed
copy_into of_nothing m t = t
copy_into {o} (of_pause {m = k} {n = n} e) m t = or_left (eqb (o m) n) false (eqb_in (ap o (alone (or_out (eqb m k) false t)) ∙ e))
  where
    alone : T (eqb m k) ⊎ T false → m ≡ k
    alone (inl s) = single_out k m s
    alone (inr s) = absurd s
copy_into (of_emit d) m t = t
copy_into {o} (of_present {p = p} {q = q} {p' = p'} {q' = q'} d f g) m t = two_into o (pauses p) (pauses q) (pauses p') (pauses q') (λ k i. copy_into f k i) (λ k i. copy_into g k i) m t
copy_into (of_suspend d f) m t = copy_into f m t
copy_into {o} (of_sequence {p = p} {q = q} {p' = p'} {q' = q'} f g) m t = two_into o (pauses p) (pauses q) (pauses p') (pauses q') (λ k i. copy_into f k i) (λ k i. copy_into g k i) m t
copy_into {o} (of_loop {p = p} {p₁ = p₁} {p₂ = p₂} f g) m t = go (listed_either (pauses p₁) (pauses p₂) m t) (λ s. copy_into f m s) (λ s. copy_into g m s)
  where
    go : T (listed (pauses p₁) m) ⊎ T (listed (pauses p₂) m) → (T (listed (pauses p₁) m) → T (listed (pauses p) (o m))) → (T (listed (pauses p₂) m) → T (listed (pauses p) (o m)))
        → T (listed (pauses p) (o m))
    go (inl s) x y = x s
    go (inr s) x y = y s
copy_into {o} (of_parallel {p = p} {q = q} {p' = p'} {q' = q'} f g) m t = two_into o (pauses p) (pauses q) (pauses p') (pauses q') (λ k i. copy_into f k i) (λ k i. copy_into g k i) m t
copy_into (of_trap f) m t = copy_into f m t
copy_into of_exit m t = t
copy_into (of_local a b f) m t = copy_into f m t

pub copy_trapped : {o : ℕ → ℕ} {D : Numbers} {ρ : ℕ → ℕ} {p p' : Stmt} → Copy o D ρ p p' → (k : ℕ) → Trapped k p → Trapped k p'
unfolding Trapped
copy_trapped of_nothing k t = tt
copy_trapped (of_pause e) k t = tt
copy_trapped (of_emit d) k t = tt
copy_trapped (of_present d f g) k t = (copy_trapped f k t.0, copy_trapped g k t.1)
copy_trapped (of_suspend d f) k t = copy_trapped f k t
copy_trapped (of_sequence f g) k t = (copy_trapped f k t.0, copy_trapped g k t.1)
copy_trapped (of_loop f g) k t = (copy_trapped f k t, copy_trapped g k t)
copy_trapped (of_parallel f g) k t = (copy_trapped f k t.0, copy_trapped g k t.1)
copy_trapped (of_trap f) k t = copy_trapped f (suc k) t
copy_trapped of_exit k t = t
copy_trapped (of_local a b f) k t = copy_trapped f k t

-- Codes without 0 are those of a sequence that begins with them.
codes_first : (a b : Numbers) → (T (a 0) → ⊥) → without 0 (union (without 0 a) (only_if (a 0) b)) ≡ without 0 a
codes_first a b never = ext_T there back
  where
    pick : (n : ℕ) → T (without 0 a n) ⊎ T (only_if (a 0) b n) → T (without 0 a n)
    pick n (inl t) = t
    pick n (inr t) = absurd (never (only_if_test (a 0) b n t))

    there : (n : ℕ) → T (without 0 (union (without 0 a) (only_if (a 0) b)) n) → T (without 0 a n)
    there n t = pick n (union_out (without 0 a) (only_if (a 0) b) n (without_member 0 (union (without 0 a) (only_if (a 0) b)) n t))

    back : (n : ℕ) → T (without 0 a n) → T (without 0 (union (without 0 a) (only_if (a 0) b)) n)
    back n t =
        without_in 0 (union (without 0 a) (only_if (a 0) b)) n (union_left (without 0 a) (only_if (a 0) b) n t)
        (Rattle.sets.proofs.Members.without_other 0 a n t)

-- The check's codes are the same, and a copy's loops pass.
pub record Passing (p p' : Stmt) : Type 0 where
  pub same_codes : codes_of p' ≡ codes_of p
  pub passes : T (loops_pass p')

pub copy_passes : {o : ℕ → ℕ} {D : Numbers} {ρ : ℕ → ℕ} {p p' : Stmt} → Copy o D ρ p p' → T (loops_pass p) → Passing p p'
unfolding codes_of loops_pass
copy_passes of_nothing h = record { same_codes = refl; passes = h }
copy_passes (of_pause e) h = record { same_codes = refl; passes = h }
copy_passes (of_emit d) h = record { same_codes = refl; passes = h }
copy_passes (of_present {p = p} {q = q} {p' = p'} {q' = q'} d f g) h =
    let x = copy_passes f (and_left (loops_pass p) (loops_pass q) h) in
    let y = copy_passes g (and_right (loops_pass p) (loops_pass q) h) in
    record { same_codes = ap₂ union x.same_codes y.same_codes; passes = and_in (loops_pass p') (loops_pass q') x.passes y.passes }
copy_passes (of_suspend d f) h = let x = copy_passes f h in record { same_codes = x.same_codes; passes = x.passes }
copy_passes (of_sequence {p = p} {q = q} {p' = p'} {q' = q'} f g) h =
    let x = copy_passes f (and_left (loops_pass p) (loops_pass q) h) in
    let y = copy_passes g (and_right (loops_pass p) (loops_pass q) h) in
    record {
      same_codes = λ i. union (without 0 (x.same_codes i)) (only_if (x.same_codes i 0) (y.same_codes i));
      passes = and_in (loops_pass p') (loops_pass q') x.passes y.passes;
    }
copy_passes (of_loop {p = p} {p₁ = p₁} {p₂ = p₂} f g) h =
    let x = copy_passes f (and_right (not (codes_of p 0)) (loops_pass p) h) in
    let y = copy_passes g (and_right (not (codes_of p 0)) (loops_pass p) h) in
    let never : T (codes_of p₁ 0) → ⊥ = λ t. T_not (codes_of p 0) (and_left (not (codes_of p 0)) (loops_pass p) h) (subst (λ (a : Numbers). T (a 0)) x.same_codes t) in
    record {
      same_codes = codes_first (codes_of p₁) (codes_of p₂) never ∙ ap (without 0) x.same_codes;
      passes = and_in (not (codes_of (p₁ ⨾ p₂) 0)) (loops_pass p₁ && loops_pass p₂) (no_zero (codes_of p₁) (codes_of p₂) never)
          (and_in (loops_pass p₁) (loops_pass p₂) x.passes y.passes);
    }
  where
    no_zero : (a b : Numbers) → (T (a 0) → ⊥) → T (not (union (without 0 a) (only_if (a 0) b) 0))
    no_zero a b never = not_T (union (without 0 a) (only_if (a 0) b) 0) (λ t. go (union_out (without 0 a) (only_if (a 0) b) 0 t))
      where
        go : T (without 0 a 0) ⊎ T (only_if (a 0) b 0) → ⊥
        go (inl t) = never (without_member 0 a 0 t)
        go (inr t) = never (only_if_test (a 0) b 0 t)
copy_passes (of_parallel {p = p} {q = q} {p' = p'} {q' = q'} f g) h =
    let x = copy_passes f (and_left (loops_pass p) (loops_pass q) h) in
    let y = copy_passes g (and_right (loops_pass p) (loops_pass q) h) in
    record { same_codes = ap₂ maxima x.same_codes y.same_codes; passes = and_in (loops_pass p') (loops_pass q') x.passes y.passes }
copy_passes (of_trap f) h = let x = copy_passes f h in record { same_codes = ap downs x.same_codes; passes = x.passes }
copy_passes of_exit h = record { same_codes = refl; passes = h }
copy_passes (of_local a b f) h = let x = copy_passes f h in record { same_codes = x.same_codes; passes = x.passes }
