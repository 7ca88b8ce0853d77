-- The emits of a signal that are executed are the statements executed that are emits of it: by induction over the statement, started and resumed with an active pause. An emit
-- holds no pause, so from a legal state none is resumed. Assumes nothing.
use mathlib.Core.Path.{◌≡◌, refl, sym, ◌∙◌, ap, subst}
use mathlib.Core.Logic.{◌↔◌, ◌⊎◌, inl, inr}
use mathlib.Core.Bool.{Bool, true, false, cond}
use mathlib.Core.List.{◌∷◌, ◌++◌}
use Prim.Native.Nat.{ℕ, ◌+◌, ◌<◌}
use native.Mathlib.Omega.{arith}
use lib.Dec.{T, eqb}
use Rattle.sets.specs.Numbers.{Numbers, empty, single, union, only_if}
use Rattle.sets.proofs.Members.{eqb_in, union_left, union_right, union_out, only_if_in, only_if_member, single_out}
use Rattle.rules.specs.Statements.{Stmt, nothing, pause, emit, present?◌then◌else◌, suspend◌on◌, ◌⨾◌, loop, ◌parallel◌, trap, exit, local, statements, preorder, numbered, pauses, Numbered}
use Rattle.rules.specs.Events.{Status, present, absent, unknown, Event, giving}
use Rattle.rules.specs.Instant.{any, active, started, resumed}
use Rattle.rules.specs.MustCan.{must, gives}
use Rattle.rules.specs.States.{State, fresh, running, finished, Legal, executed_as, kept_by}
use Rattle.rules.specs.Taken.{every, emit_of, itself_if, taken_started, taken_resumed, taken}
use Rattle.rules.specs.Reasons.{is_emit}
use Rattle.rules.proofs.Preorder.{first_is, some_statement, only_child, first_child, second_child}
use Rattle.theorems.proofs.KeepsSome.{any_append}
use Rattle.theorems.proofs.NextLegal.{running_active}
use Rattle.theorems.proofs.Named.{taken_fits}

-- The statement p stands in the tree r with the number i: so do all below it, so much later.
record Stands (r : Stmt) (i : ℕ) (p : Stmt) : Type 0 where
  pub there : (m : ℕ) → m < statements p → numbered r (i + m) ≡ numbered p m

module _ {r : Stmt} {i : ℕ} (t : Stmt) (h : Stands r i t) where
  stands_first : numbered r i ≡ t
  stands_first = subst (λ (j : ℕ). numbered r j ≡ numbered t 0) (omega arith) (h.there 0 (some_statement t)) ∙ first_is t

  -- A child, d statements later.
  stands_later : (p : Stmt) (d : ℕ) → ((m : ℕ) → m < statements p → (d + m < statements t) × (numbered t (d + m) ≡ numbered p m)) → Stands r (i + d) p
  stands_later p d f = record {
    there = λ m l. let e = f m l in subst (λ (j : ℕ). numbered r j ≡ numbered p m) (omega arith) (h.there (d + m) e.0 ∙ e.1);
  }

  stands_only : (p : Stmt) → preorder t ≡ t ∷ preorder p → statements t ≡ 1 + statements p → Stands r (i + 1) p
  stands_only p e n = stands_later p 1 (λ m l. (omega (arith, n), only_child t p e m))

  module _ (p q : Stmt) (e : preorder t ≡ t ∷ preorder p ++ preorder q) (n : statements t ≡ 1 + statements p + statements q) where
    stands_left : Stands r (i + 1) p
    stands_left = stands_later p 1 (λ m l. (omega (arith, n), first_child t p q e m l))

    stands_right : Stands r (i + 1 + statements p) q
    stands_right =
        subst (λ (j : ℕ). Stands r j q) (omega arith) (stands_later q (1 + statements p) (λ m l. (omega (arith, n), second_child t p q e m)))

-- X has of Y the emits of s in the tree r.
record Picks (r : Stmt) (s : ℕ) (X Y : Numbers) : Type 0 where
  pub from : (k : ℕ) → T (X k) → T (Y k)
  pub each : (k : ℕ) → numbered r k ≡ emit s → T (Y k) → T (X k)

module _ {r : Stmt} {s : ℕ} where
  none_picked : Picks r s empty empty
  none_picked = record { from = λ k t. t; each = λ k e t. t }

  union_picked : {X Y X' Y' : Numbers} → Picks r s X X' → Picks r s Y Y' → Picks r s (union X Y) (union X' Y')
  union_picked {X} {Y} {X'} {Y'} f g = record { from = λ k t. there k (union_out X Y k t); each = λ k e t. back k e (union_out X' Y' k t) }
    where
      there : (k : ℕ) → T (X k) ⊎ T (Y k) → T (union X' Y' k)
      there k (inl t) = union_left X' Y' k (f.from k t)
      there k (inr t) = union_right X' Y' k (g.from k t)

      back : (k : ℕ) → numbered r k ≡ emit s → T (X' k) ⊎ T (Y' k) → T (union X Y k)
      back k e (inl t) = union_left X Y k (f.each k e t)
      back k e (inr t) = union_right X Y k (g.each k e t)

  only_picked : (b : Bool) {X Y : Numbers} → (T b → Picks r s X Y) → Picks r s (only_if b X) (only_if b Y)
  only_picked true f = f tt
  only_picked false f = none_picked

  status_picked : (v : Status) {X Y X' Y' : Numbers} → Picks r s X X' → Picks r s Y Y' → Picks r s (kept_by v X Y) (kept_by v X' Y')
  status_picked present f g = f
  status_picked absent f g = g
  status_picked unknown f g = none_picked

  -- One of two parts is active: the first is resumed if it is, and else the second.
  active_picked : (b : Bool) {B : Type 0} {X Y X' Y' : Numbers} → T b ⊎ B → (T b → Picks r s X X') → (B → Picks r s Y Y') → Picks r s (cond b X Y) (cond b X' Y')
  active_picked true h f g = f tt
  active_picked false (inl t) f g = absurd t
  active_picked false (inr t) f g = g t

  module _ (i : ℕ) where
    -- A statement that is no emit is not asked for, and an emit is if it is one of s.
    other_picked : (t : Stmt) → (T (is_emit t) → ⊥) → Stands r i t → Picks r s (itself_if false i) (itself_if true i)
    other_picked t f h = record {
      from = λ k u. absurd u;
      each = λ k e u.
          let it : t ≡ emit s = sym (stands_first t h) ∙ ap (λ (j : ℕ). numbered r j) (sym (single_out i k u)) ∙ e in
          absurd (f (subst (λ (q : Stmt). T (is_emit q)) (sym it) tt));
    }

    emit_picked : (t : ℕ) → Stands r i (emit t) → Picks r s (itself_if (eqb t s) i) (itself_if true i)
    emit_picked t h = record {
      from = λ k u. only_if_member (eqb t s) (single i) k u;
      each = λ k e u.
          let it : emit t ≡ emit s = sym (stands_first (emit t) h) ∙ ap (λ (j : ℕ). numbered r j) (sym (single_out i k u)) ∙ e in
          let alike : t ≡ s = cc in
          only_if_in (eqb t s) (single i) k (eqb_in alike) u;
    }

    -- A statement that is no emit, with what is below it.
    around : (t : Stmt) {X Y : Numbers} → (T (is_emit t) → ⊥) → Stands r i t → Picks r s X Y → Picks r s (union (itself_if false i) X) (union (itself_if true i) Y)
    around t f h g = union_picked (other_picked t f h) g

module _ (r : Stmt) (s : ℕ) where
  started_picked : (p : Stmt) (i : ℕ) (E : Event) → Stands r i p → Picks r s (taken_started (emit_of s) i p E) (taken_started every i p E)
  unfolding taken_started preorder statements
  started_picked nothing i E h = other_picked i nothing (λ u. u) h
  started_picked (pause n) i E h = other_picked i (pause n) (λ u. u) h
  started_picked (emit t) i E h = emit_picked i t h
  started_picked (present? t then p else q) i E h =
      let here : Stmt = present? t then p else q in
      around i here (λ u. u) h (status_picked (E t) (started_picked p (i + 1) E (stands_left here h p q refl refl))
      (started_picked q (i + 1 + statements p) E (stands_right here h p q refl refl)))
  started_picked (suspend p on t) i E h = around i (suspend p on t) (λ u. u) h (started_picked p (i + 1) E (stands_only (suspend p on t) h p refl refl))
  started_picked (p ⨾ q) i E h =
      around i (p ⨾ q) (λ u. u) h (union_picked (started_picked p (i + 1) E (stands_left (p ⨾ q) h p q refl refl))
      (only_picked ((gives must (started p) E).codes 0) (λ z. started_picked q (i + 1 + statements p) E (stands_right (p ⨾ q) h p q refl refl))))
  started_picked (loop p) i E h = around i (loop p) (λ u. u) h (started_picked p (i + 1) E (stands_only (loop p) h p refl refl))
  started_picked (p parallel q) i E h =
      around i (p parallel q) (λ u. u) h (union_picked (started_picked p (i + 1) E (stands_left (p parallel q) h p q refl refl))
      (started_picked q (i + 1 + statements p) E (stands_right (p parallel q) h p q refl refl)))
  started_picked (trap p) i E h = around i (trap p) (λ u. u) h (started_picked p (i + 1) E (stands_only (trap p) h p refl refl))
  started_picked (exit d) i E h = other_picked i (exit d) (λ u. u) h
  started_picked (local t p) i E h =
      around i (local t p) (λ u. u) h (started_picked p (i + 1) (giving E t (executed_as t (started p) E)) (stands_only (local t p) h p refl refl))

  resumed_picked : (A : Numbers) (p : Stmt) (i : ℕ) (E : Event) → T (active A p) → Stands r i p
      → Picks r s (taken_resumed (emit_of s) A i p E) (taken_resumed every A i p E)
  unfolding taken_resumed preorder statements active any pauses
  resumed_picked A nothing i E a h = absurd a
  resumed_picked A (pause n) i E a h = other_picked i (pause n) (λ u. u) h
  resumed_picked A (emit t) i E a h = absurd a
  resumed_picked A (present? t then p else q) i E a h =
      let here : Stmt = present? t then p else q in
      around i here (λ u. u) h (active_picked (active A p) (any_append A (pauses p) (pauses q) a)
      (λ b. resumed_picked A p (i + 1) E b (stands_left here h p q refl refl))
      (λ b. resumed_picked A q (i + 1 + statements p) E b (stands_right here h p q refl refl)))
  resumed_picked A (suspend p on t) i E a h =
      around i (suspend p on t) (λ u. u) h (status_picked (E t) none_picked (resumed_picked A p (i + 1) E a (stands_only (suspend p on t) h p refl refl)))
  resumed_picked A (p ⨾ q) i E a h =
      around i (p ⨾ q) (λ u. u) h (active_picked (active A p) (any_append A (pauses p) (pauses q) a)
      (λ b. union_picked (resumed_picked A p (i + 1) E b (stands_left (p ⨾ q) h p q refl refl))
      (only_picked ((gives must (resumed A p) E).codes 0) (λ z. started_picked q (i + 1 + statements p) E (stands_right (p ⨾ q) h p q refl refl))))
      (λ b. resumed_picked A q (i + 1 + statements p) E b (stands_right (p ⨾ q) h p q refl refl)))
  resumed_picked A (loop p) i E a h =
      let below = stands_only (loop p) h p refl refl in
      around i (loop p) (λ u. u) h (union_picked (resumed_picked A p (i + 1) E a below)
      (only_picked ((gives must (resumed A p) E).codes 0) (λ z. started_picked p (i + 1) E below)))
  resumed_picked A (p parallel q) i E a h =
      around i (p parallel q) (λ u. u) h (union_picked
      (only_picked (active A p) (λ b. resumed_picked A p (i + 1) E b (stands_left (p parallel q) h p q refl refl)))
      (only_picked (active A q) (λ b. resumed_picked A q (i + 1 + statements p) E b (stands_right (p parallel q) h p q refl refl))))
  resumed_picked A (trap p) i E a h = around i (trap p) (λ u. u) h (resumed_picked A p (i + 1) E a (stands_only (trap p) h p refl refl))
  resumed_picked A (exit d) i E a h = absurd a
  resumed_picked A (local t p) i E a h =
      around i (local t p) (λ u. u) h (resumed_picked A p (i + 1) (giving E t (executed_as t (resumed A p) E)) a (stands_only (local t p) h p refl refl))

module _ (s : ℕ) (p : Stmt) (numbers : Numbered 0 p) where
  taken_picked : (st : State) → Legal p st → (E : Event) → Picks p s (taken (emit_of s) p st E) (taken every p st E)
  unfolding taken Legal
  taken_picked fresh h E = started_picked p s p 0 E (record { there = λ m l. ap (λ (j : ℕ). numbered p j) (omega arith) })
  taken_picked (running A) h E = resumed_picked p s A p 0 E (running_active p numbers A h) (record { there = λ m l. ap (λ (j : ℕ). numbered p j) (omega arith) })
  taken_picked finished h E = none_picked

  -- From a legal state, an emit of s is executed exactly where the statement is an emit of s and is executed.
  pub executed_emits : (st : State) → Legal p st → (E : Event) (k : ℕ) → T (taken (emit_of s) p st E k) ↔ ((numbered p k ≡ emit s) × T (taken every p st E k))
  executed_emits st h E k =
      (λ t. (taken_fits (emit_of s) p st E k t, (taken_picked st h E).from k t), λ x. (taken_picked st h E).each k x.0 x.1)
