-- What the definition makes is a copy: pause m of the result stands for the m-th of the statement's pauses, those of a loop body listed twice.
-- By induction over the statement; its signals are in scope, each local is new to its scope, and names so far lie below the next. And
-- pauses and locals of the result are numbered in preorder, its signals in scope. Assumes nothing.
use mathlib.Core.Path.{◌≡◌, refl, sym, ◌∙◌, ap, ap₂, subst, subst⁻¹}
use mathlib.Core.Logic.{◌⊎◌, inl, inr, ⊎_elim}
use mathlib.Core.Bool.{Bool, true, false, cond, ◌||◌}
use mathlib.Core.List.{List, [], ◌∷◌, ◌++◌}
use Prim.Native.Nat.{ℕ, suc, ◌+◌, ◌≤◌, ◌<◌, max}
use native.Mathlib.Nat.{add-zero, add_assoc, max-eq_left, le_refl}
use native.Mathlib.Numerals.{add-one}
use native.Mathlib.Omega.{arith}
use lib.Dec.{T, eqb, ltb, eqb→eq, eqb_refl, ltb→lt}
use lib.ListN.{length, get_or, length-append, get_or-append}
use lib.Seq.{get_or-append-add}
use borrow.Author.Tests.{eqb-true, eqb-false}
use Rattle.sets.specs.Numbers.{Numbers, single, union}
use Rattle.sets.proofs.Members.{is_true, or_left, or_right, or_out, eqb_in, eqb_not}
use Rattle.rules.specs.Statements.{Stmt, nothing, pause, emit, present?◌then◌else◌, suspend◌on◌, ◌⨾◌, loop, ◌parallel◌, trap, exit, local, pauses, from, Numbered}
use Rattle.theorems.proofs.Cases.{by_test}
use Rattle.tables.specs.Table.{Small}
use Rattle.block.specs.Good.{Scoped, nested_traps, nested_locals, locals, Next, Apart}
use Rattle.block.proofs.Nesting.{both_in_row}
use Rattle.likeness.specs.Likeness.{naming}
use Rattle.doubled.specs.Copies.{copies, renamed}
use Rattle.doubled.proofs.Copied.{Copy, of_nothing, of_pause, of_emit, of_present, of_suspend, of_sequence, of_loop, of_parallel, of_trap, of_exit, of_local}

-- The pauses that those of the result stand for, in order.
unfoldable pub origins : Stmt → List ℕ
origins nothing = []
origins (pause n) = n ∷ []
origins (emit s) = []
origins (present? s then p else q) = origins p ++ origins q
origins (suspend p on s) = origins p
origins (p ⨾ q) = origins p ++ origins q
origins (loop p) = origins p ++ origins p
origins (p parallel q) = origins p ++ origins q
origins (trap p) = origins p
origins (exit d) = []
origins (local s p) = origins p

-- The next pause's number behind a part.
abbrev behind : ℕ → Stmt → ℕ
behind j p = j + length (pauses (copies j p))

two_counted : (us vs xs ys : List ℕ) → length us ≡ length xs → length vs ≡ length ys → length (us ++ vs) ≡ length (xs ++ ys)
two_counted us vs xs ys e f = length-append us vs ∙ ap₂ (λ (m n : ℕ). m + n) e f ∙ sym (length-append xs ys)

pub copies_counted : (j : ℕ) (t : Stmt) → length (pauses (copies j t)) ≡ length (origins t)
unfolding copies pauses origins
copies_counted j nothing = refl
copies_counted j (pause n) = refl
copies_counted j (emit s) = refl
copies_counted j (present? s then p else q) = two_counted (pauses (copies j p)) (pauses (copies (behind j p) q)) (origins p) (origins q) (copies_counted j p) (copies_counted (behind j p) q)
copies_counted j (suspend p on s) = copies_counted j p
copies_counted j (p ⨾ q) = two_counted (pauses (copies j p)) (pauses (copies (behind j p) q)) (origins p) (origins q) (copies_counted j p) (copies_counted (behind j p) q)
copies_counted j (loop p) = two_counted (pauses (copies j p)) (pauses (copies (behind j p) p)) (origins p) (origins p) (copies_counted j p) (copies_counted (behind j p) p)
copies_counted j (p parallel q) = two_counted (pauses (copies j p)) (pauses (copies (behind j p) q)) (origins p) (origins q) (copies_counted j p) (copies_counted (behind j p) q)
copies_counted j (trap p) = copies_counted j p
copies_counted j (exit d) = refl
copies_counted j (local s p) = copies_counted j p

-- From j on, o gives the numbers of a list.
pub record Stretch (o : ℕ → ℕ) (j : ℕ) (xs : List ℕ) : Type 0 where
  pub at : (i : ℕ) → i < length xs → o (j + i) ≡ get_or xs i 0

stretch_one : {o : ℕ → ℕ} {j : ℕ} (xs ys : List ℕ) → Stretch o j (xs ++ ys) → Stretch o j xs
stretch_one xs ys f = record { at = λ i l. f.at i (omega (arith, length-append xs ys)) ∙ get_or-append xs ys 0 i l }

stretch_other : {o : ℕ → ℕ} {j k : ℕ} (xs ys : List ℕ) → k ≡ length xs → Stretch o j (xs ++ ys) → Stretch o (j + k) ys
stretch_other {o} {j} {k} xs ys e f = record {
  at = λ i l.
      ap (λ (n : ℕ). o (j + n + i)) e ∙ ap o (add_assoc j (length xs) i) ∙ f.at (length xs + i) (omega (arith, length-append xs ys)) ∙ get_or-append-add xs ys i 0;
}

-- D has the signals that may stand here, with S the locals among them; their names are below n.
pub record Scope (i u : ℕ) (S D : Numbers) : Type 0 where
  pub in_scope : (x : ℕ) → T (ltb x (i + u) || S x) → T (D x)
  pub only : (x : ℕ) → T (D x) → T (ltb x (i + u) || S x)

pub record Below (D : Numbers) (ρ : ℕ → ℕ) (n : ℕ) : Type 0 where
  pub below : (x : ℕ) → T (D x) → ρ x < n

below_later : {D : Numbers} {ρ : ℕ → ℕ} {n : ℕ} (k : ℕ) → Below D ρ n → Below D ρ (n + k)
below_later k b = record { below = λ x t. omega (arith, b.below x t) }

below_local : {D : Numbers} {ρ : ℕ → ℕ} {n : ℕ} (s : ℕ) → Below D ρ n → Below (union (single s) D) (naming ρ s n) (n + 1)
below_local {D} {ρ} {n} s b = record {
  below = λ x t. by_test (λ (y : ℕ). y < n + 1) (eqb x s) n (ρ x) (λ e. omega arith) (λ e. omega (arith, b.below x (other x e (or_out (eqb x s) (D x) t))));
}
  where
    other : (x : ℕ) → eqb x s ≡ false → T (eqb x s) ⊎ T (D x) → T (D x)
    other x e (inl t) = absurd (subst T e t)
    other x e (inr t) = t

scope_local : {i u : ℕ} {S D : Numbers} (s : ℕ) → Scope i u S D → Scope i u (union (single s) S) (union (single s) D)
scope_local {i} {u} {S} {D} s c = record { in_scope = λ x t. to x (or_out (ltb x (i + u)) (eqb x s || S x) t); only = λ x t. from_it x (or_out (eqb x s) (D x) t) }
  where
    to : (x : ℕ) → T (ltb x (i + u)) ⊎ T (eqb x s || S x) → T (eqb x s || D x)
    to x (inl t) = or_right (eqb x s) (D x) (c.in_scope x (or_left (ltb x (i + u)) (S x) t))
    to x (inr t) = ⊎_elim (λ e. or_left (eqb x s) (D x) e) (λ m. or_right (eqb x s) (D x) (c.in_scope x (or_right (ltb x (i + u)) (S x) m))) (or_out (eqb x s) (S x) t)

    from_it : (x : ℕ) → T (eqb x s) ⊎ T (D x) → T (ltb x (i + u) || (eqb x s || S x))
    from_it x (inl e) = or_right (ltb x (i + u)) (eqb x s || S x) (or_left (eqb x s) (S x) e)
    from_it x (inr d) = ⊎_elim (λ l. or_left (ltb x (i + u)) (eqb x s || S x) l) (λ m. or_right (ltb x (i + u)) (eqb x s || S x) (or_right (eqb x s) (S x) m))
        (or_out (ltb x (i + u)) (S x) (c.only x d))

not_next : {D : Numbers} {ρ : ℕ → ℕ} {n : ℕ} → Below D ρ n → (y : ℕ) → T (D y) → ρ y ≡ n → ⊥
not_next b y t e = omega (arith, b.below y t)

-- A local's number is none of those in scope.
local_new : {i u : ℕ} {S D : Numbers} (s : ℕ) → Scope i u S D → i + u ≤ s → (T (S s) → ⊥) → T (D s) → ⊥
local_new {i} {u} {S} s c l n d = ⊎_elim (λ t. let w : s < i + u = ltb→lt s (i + u) t in omega arith) n (or_out (ltb s (i + u)) (S s) (c.only s d))

pub made : {o : ℕ → ℕ} (t : Stmt) (j n i u : ℕ) (S D : Numbers) (ρ : ℕ → ℕ) → Stretch o j (origins t) → Scoped i u S t → Apart S t → Scope i u S D → Below D ρ n
    → Copy o D ρ t (renamed ρ n (copies j t))
unfolding copies renamed origins Scoped Apart
made nothing j n i u S D ρ f s a c b = of_nothing
made {o} (pause k) j n i u S D ρ f s a c b = of_pause (ap o (sym (add-zero j)) ∙ f.at 0 (omega arith))
made (emit x) j n i u S D ρ f s a c b = of_emit (c.in_scope x s.1)
made (present? x then p else q) j n i u S D ρ f s a c b =
    of_present (c.in_scope x s.0) (made p j n i u S D ρ (stretch_one (origins p) (origins q) f) s.1 a.0 c b)
    (made q (behind j p) (n + length (locals (copies j p))) i u S D ρ (stretch_other (origins p) (origins q) (copies_counted j p) f) s.2 a.1 c (below_later _ b))
made (suspend p on x) j n i u S D ρ f s a c b = of_suspend (c.in_scope x s.0) (made p j n i u S D ρ f s.1 a c b)
made (p ⨾ q) j n i u S D ρ f s a c b =
    of_sequence (made p j n i u S D ρ (stretch_one (origins p) (origins q) f) s.0 a.0 c b)
    (made q (behind j p) (n + length (locals (copies j p))) i u S D ρ (stretch_other (origins p) (origins q) (copies_counted j p) f) s.1 a.1 c (below_later _ b))
made (loop p) j n i u S D ρ f s a c b =
    of_loop (made p j n i u S D ρ (stretch_one (origins p) (origins p) f) s a c b)
    (made p (behind j p) (n + length (locals (copies j p))) i u S D ρ (stretch_other (origins p) (origins p) (copies_counted j p) f) s a c (below_later _ b))
made (p parallel q) j n i u S D ρ f s a c b =
    of_parallel (made p j n i u S D ρ (stretch_one (origins p) (origins q) f) s.0 a.0 c b)
    (made q (behind j p) (n + length (locals (copies j p))) i u S D ρ (stretch_other (origins p) (origins q) (copies_counted j p) f) s.1 a.1 c (below_later _ b))
made (trap p) j n i u S D ρ f s a c b = of_trap (made p j n i u S D ρ f s a c b)
made (exit d) j n i u S D ρ f s a c b = of_exit
made (local x p) j n i u S D ρ f s a c b =
    of_local (local_new x c s.0 a.0) (λ y t e. not_next b y t e)
    (made p j (n + 1) i u (union (single x) S) (union (single x) D) (naming ρ x n) f s.1 a.1 (scope_local x c) (below_local x b))

-- Pauses and locals in preorder.
pub copies_numbered : (j : ℕ) (t : Stmt) → Numbered j (copies j t)
unfolding copies pauses Numbered from
copies_numbered j nothing = refl
copies_numbered j (pause n) = refl
copies_numbered j (emit s) = refl
copies_numbered j (present? s then p else q) = both_in_row j _ _ _ (copies_numbered j p) (copies_numbered (behind j p) q) refl
copies_numbered j (suspend p on s) = copies_numbered j p
copies_numbered j (p ⨾ q) = both_in_row j _ _ _ (copies_numbered j p) (copies_numbered (behind j p) q) refl
copies_numbered j (loop p) = both_in_row j _ _ _ (copies_numbered j p) (copies_numbered (behind j p) p) refl
copies_numbered j (p parallel q) = both_in_row j _ _ _ (copies_numbered j p) (copies_numbered (behind j p) q) refl
copies_numbered j (trap p) = copies_numbered j p
copies_numbered j (exit d) = refl
copies_numbered j (local s p) = copies_numbered j p

pub renamed_pauses : (ρ : ℕ → ℕ) (n : ℕ) (t : Stmt) → pauses (renamed ρ n t) ≡ pauses t
unfolding renamed pauses
renamed_pauses ρ n nothing = refl
renamed_pauses ρ n (pause k) = refl
renamed_pauses ρ n (emit s) = refl
renamed_pauses ρ n (present? s then p else q) = ap₂ ◌++◌ (renamed_pauses ρ n p) (renamed_pauses ρ (n + length (locals p)) q)
renamed_pauses ρ n (suspend p on s) = renamed_pauses ρ n p
renamed_pauses ρ n (p ⨾ q) = ap₂ ◌++◌ (renamed_pauses ρ n p) (renamed_pauses ρ (n + length (locals p)) q)
renamed_pauses ρ n (loop p) = renamed_pauses ρ n p
renamed_pauses ρ n (p parallel q) = ap₂ ◌++◌ (renamed_pauses ρ n p) (renamed_pauses ρ (n + length (locals p)) q)
renamed_pauses ρ n (trap p) = renamed_pauses ρ n p
renamed_pauses ρ n (exit d) = refl
renamed_pauses ρ n (local s p) = renamed_pauses (naming ρ s n) (n + 1) p

pub renamed_locals : (ρ : ℕ → ℕ) (n : ℕ) (t : Stmt) → length (locals (renamed ρ n t)) ≡ length (locals t)
unfolding renamed locals
renamed_locals ρ n nothing = refl
renamed_locals ρ n (pause k) = refl
renamed_locals ρ n (emit s) = refl
renamed_locals ρ n (present? s then p else q) =
    two_counted (locals (renamed ρ n p)) (locals (renamed ρ (n + length (locals p)) q)) (locals p) (locals q) (renamed_locals ρ n p) (renamed_locals ρ (n + length (locals p)) q)
renamed_locals ρ n (suspend p on s) = renamed_locals ρ n p
renamed_locals ρ n (p ⨾ q) =
    two_counted (locals (renamed ρ n p)) (locals (renamed ρ (n + length (locals p)) q)) (locals p) (locals q) (renamed_locals ρ n p) (renamed_locals ρ (n + length (locals p)) q)
renamed_locals ρ n (loop p) = renamed_locals ρ n p
renamed_locals ρ n (p parallel q) =
    two_counted (locals (renamed ρ n p)) (locals (renamed ρ (n + length (locals p)) q)) (locals p) (locals q) (renamed_locals ρ n p) (renamed_locals ρ (n + length (locals p)) q)
renamed_locals ρ n (trap p) = renamed_locals ρ n p
renamed_locals ρ n (exit d) = refl
renamed_locals ρ n (local s p) = ap suc (renamed_locals (naming ρ s n) (n + 1) p)

pub renamed_next : (ρ : ℕ → ℕ) (n : ℕ) (t : Stmt) → Next n (renamed ρ n t)
unfolding renamed locals Next from
renamed_next ρ n nothing = refl
renamed_next ρ n (pause k) = refl
renamed_next ρ n (emit s) = refl
renamed_next ρ n (present? s then p else q) = both_in_row n _ _ _ (renamed_next ρ n p) (renamed_next ρ (n + length (locals p)) q) (ap (λ (m : ℕ). n + m) (sym (renamed_locals ρ n p)))
renamed_next ρ n (suspend p on s) = renamed_next ρ n p
renamed_next ρ n (p ⨾ q) = both_in_row n _ _ _ (renamed_next ρ n p) (renamed_next ρ (n + length (locals p)) q) (ap (λ (m : ℕ). n + m) (sym (renamed_locals ρ n p)))
renamed_next ρ n (loop p) = renamed_next ρ n p
renamed_next ρ n (p parallel q) = both_in_row n _ _ _ (renamed_next ρ n p) (renamed_next ρ (n + length (locals p)) q) (ap (λ (m : ℕ). n + m) (sym (renamed_locals ρ n p)))
renamed_next ρ n (trap p) = renamed_next ρ n p
renamed_next ρ n (exit d) = refl
renamed_next ρ n (local s p) =
    let rest = renamed_next (naming ρ s n) (n + 1) p ∙ ap (λ (k : ℕ). from k (length (locals (renamed (naming ρ s n) (n + 1) p)))) (add-one n) in λ i. n ∷ rest i

-- The locals around, by their names: inputs and outputs keep their numbers, and each local's name is one of S', above them.
pub record Named (i u : ℕ) (S S' : Numbers) (ρ : ℕ → ℕ) : Type 0 where
  pub kept : (x : ℕ) → x < i + u → ρ x ≡ x
  pub there : (x : ℕ) → T (S x) → T (S' (ρ x))
  pub above : (x : ℕ) → T (S x) → i + u ≤ ρ x

named_local : {i u : ℕ} {S S' : Numbers} {ρ : ℕ → ℕ} (s n : ℕ) → i + u ≤ s → i + u ≤ n → Named i u S S' ρ → Named i u (union (single s) S) (union (single n) S') (naming ρ s n)
named_local {i} {u} {S} {S'} {ρ} s n l m w = record {
  kept = λ x h. ap (λ (z : Bool). cond z n (ρ x)) (eqb_not x s (λ e. omega arith)) ∙ w.kept x h;
  there = λ x t. by_test (λ (y : ℕ). T (eqb y n || S' y)) (eqb x s) n (ρ x) (λ e. or_left (eqb n n) (S' n) (eqb_refl n))
      (λ e. or_right (eqb (ρ x) n) (S' (ρ x)) (w.there x (other x e (or_out (eqb x s) (S x) t))));
  above = λ x t. by_test (λ (y : ℕ). i + u ≤ y) (eqb x s) n (ρ x) (λ e. m) (λ e. w.above x (other x e (or_out (eqb x s) (S x) t)));
}
  where
    other : (x : ℕ) → eqb x s ≡ false → T (eqb x s) ⊎ T (S x) → T (S x)
    other x e (inl t) = absurd (subst T e t)
    other x e (inr t) = t

named_signal : {i u : ℕ} {S S' : Numbers} {ρ : ℕ → ℕ} (x : ℕ) → Named i u S S' ρ → T (ltb x (i + u) || S x) → T (ltb (ρ x) (i + u) || S' (ρ x))
named_signal {i} {u} {S} {S'} {ρ} x w t = go (or_out (ltb x (i + u)) (S x) t)
  where
    go : T (ltb x (i + u)) ⊎ T (S x) → T (ltb (ρ x) (i + u) || S' (ρ x))
    go (inl l) = or_left (ltb (ρ x) (i + u)) (S' (ρ x)) (subst⁻¹ (λ (y : ℕ). T (ltb y (i + u))) (w.kept x (ltb→lt x (i + u) l)) l)
    go (inr m) = or_right (ltb (ρ x) (i + u)) (S' (ρ x)) (w.there x m)

named_emitted : {i u : ℕ} {S S' : Numbers} {ρ : ℕ → ℕ} (x : ℕ) → Named i u S S' ρ → i ≤ x → T (ltb x (i + u) || S x) → i ≤ ρ x
named_emitted {i} {u} {S} {S'} {ρ} x w l t =
    ⊎_elim (λ h. let e = w.kept x (ltb→lt x (i + u) h) in omega arith) (λ m. omega (arith, w.above x m)) (or_out (ltb x (i + u)) (S x) t)

pub made_scoped : (t : Stmt) (j n i u : ℕ) (S S' : Numbers) (ρ : ℕ → ℕ) → Scoped i u S t → i + u ≤ n → Named i u S S' ρ → Scoped i u S' (renamed ρ n (copies j t))
unfolding copies renamed Scoped
made_scoped nothing j n i u S S' ρ s l w = tt
made_scoped (pause k) j n i u S S' ρ s l w = tt
made_scoped (emit x) j n i u S S' ρ s l w = (named_emitted x w s.0 s.1, named_signal x w s.1)
made_scoped (present? x then p else q) j n i u S S' ρ s l w =
    (named_signal x w s.0, made_scoped p j n i u S S' ρ s.1 l w, made_scoped q (behind j p) (n + length (locals (copies j p))) i u S S' ρ s.2 (omega arith) w)
made_scoped (suspend p on x) j n i u S S' ρ s l w = (named_signal x w s.0, made_scoped p j n i u S S' ρ s.1 l w)
made_scoped (p ⨾ q) j n i u S S' ρ s l w = (made_scoped p j n i u S S' ρ s.0 l w, made_scoped q (behind j p) (n + length (locals (copies j p))) i u S S' ρ s.1 (omega arith) w)
made_scoped (loop p) j n i u S S' ρ s l w = (made_scoped p j n i u S S' ρ s l w, made_scoped p (behind j p) (n + length (locals (copies j p))) i u S S' ρ s (omega arith) w)
made_scoped (p parallel q) j n i u S S' ρ s l w = (made_scoped p j n i u S S' ρ s.0 l w, made_scoped q (behind j p) (n + length (locals (copies j p))) i u S S' ρ s.1 (omega arith) w)
made_scoped (trap p) j n i u S S' ρ s l w = made_scoped p j n i u S S' ρ s l w
made_scoped (exit d) j n i u S S' ρ s l w = tt
made_scoped (local x p) j n i u S S' ρ s l w =
    (l, made_scoped p j (n + 1) i u (union (single x) S) (union (single n) S') (naming ρ x n) s.1 (omega arith) (named_local x n s.0 l w))

-- Nested traps and nested locals do not grow.
twice_max : {a b n : ℕ} → a ≡ n → b ≡ n → max a b ≡ n
twice_max {n = n} e f = ap₂ max e f ∙ max-eq_left (le_refl n)

pub made_traps : (t : Stmt) (ρ : ℕ → ℕ) (n j : ℕ) → nested_traps (renamed ρ n (copies j t)) ≡ nested_traps t
unfolding copies renamed nested_traps
made_traps nothing ρ n j = refl
made_traps (pause k) ρ n j = refl
made_traps (emit s) ρ n j = refl
made_traps (present? s then p else q) ρ n j = ap₂ max (made_traps p ρ n j) (made_traps q ρ (n + length (locals (copies j p))) (behind j p))
made_traps (suspend p on s) ρ n j = made_traps p ρ n j
made_traps (p ⨾ q) ρ n j = ap₂ max (made_traps p ρ n j) (made_traps q ρ (n + length (locals (copies j p))) (behind j p))
made_traps (loop p) ρ n j = twice_max (made_traps p ρ n j) (made_traps p ρ (n + length (locals (copies j p))) (behind j p))
made_traps (p parallel q) ρ n j = ap₂ max (made_traps p ρ n j) (made_traps q ρ (n + length (locals (copies j p))) (behind j p))
made_traps (trap p) ρ n j = ap (λ (m : ℕ). 1 + m) (made_traps p ρ n j)
made_traps (exit d) ρ n j = refl
made_traps (local s p) ρ n j = made_traps p (naming ρ s n) (n + 1) j

pub made_nested : (t : Stmt) (ρ : ℕ → ℕ) (n j : ℕ) → nested_locals (renamed ρ n (copies j t)) ≡ nested_locals t
unfolding copies renamed nested_locals
made_nested nothing ρ n j = refl
made_nested (pause k) ρ n j = refl
made_nested (emit s) ρ n j = refl
made_nested (present? s then p else q) ρ n j = ap₂ max (made_nested p ρ n j) (made_nested q ρ (n + length (locals (copies j p))) (behind j p))
made_nested (suspend p on s) ρ n j = made_nested p ρ n j
made_nested (p ⨾ q) ρ n j = ap₂ max (made_nested p ρ n j) (made_nested q ρ (n + length (locals (copies j p))) (behind j p))
made_nested (loop p) ρ n j = twice_max (made_nested p ρ n j) (made_nested p ρ (n + length (locals (copies j p))) (behind j p))
made_nested (p parallel q) ρ n j = ap₂ max (made_nested p ρ n j) (made_nested q ρ (n + length (locals (copies j p))) (behind j p))
made_nested (trap p) ρ n j = made_nested p ρ n j
made_nested (exit d) ρ n j = refl
made_nested (local s p) ρ n j = ap (λ (m : ℕ). 1 + m) (made_nested p (naming ρ s n) (n + 1) j)

-- The names count only at the statement's own signals, which are below 64.
named_alike : (ρ ρ' : ℕ → ℕ) → ((s : ℕ) → s < 64 → ρ s ≡ ρ' s) → (s n : ℕ) → (x : ℕ) → x < 64 → naming ρ s n x ≡ naming ρ' s n x
named_alike ρ ρ' f s n x l = ap (λ (y : ℕ). cond (eqb x s) n y) (f x l)

pub renamed_alike : (t : Stmt) (ρ ρ' : ℕ → ℕ) (n j : ℕ) → ((s : ℕ) → s < 64 → ρ s ≡ ρ' s) → Small t → renamed ρ n (copies j t) ≡ renamed ρ' n (copies j t)
unfolding copies renamed Small
renamed_alike nothing ρ ρ' n j f w = refl
renamed_alike (pause k) ρ ρ' n j f w = refl
renamed_alike (emit s) ρ ρ' n j f w = ap emit (f s w)
renamed_alike (present? s then p else q) ρ ρ' n j f w =
    let a = f s w.0 in
    let x = renamed_alike p ρ ρ' n j f w.1 in
    let y = renamed_alike q ρ ρ' (n + length (locals (copies j p))) (behind j p) f w.2 in
    λ i. present? (a i) then (x i) else (y i)
renamed_alike (suspend p on s) ρ ρ' n j f w =
    let a = f s w.0 in
    let x = renamed_alike p ρ ρ' n j f w.1 in
    λ i. suspend (x i) on (a i)
renamed_alike (p ⨾ q) ρ ρ' n j f w =
    ap₂ ◌⨾◌ (renamed_alike p ρ ρ' n j f w.0) (renamed_alike q ρ ρ' (n + length (locals (copies j p))) (behind j p) f w.1)
renamed_alike (loop p) ρ ρ' n j f w =
    ap₂ (λ (x y : Stmt). loop (x ⨾ y)) (renamed_alike p ρ ρ' n j f w) (renamed_alike p ρ ρ' (n + length (locals (copies j p))) (behind j p) f w)
renamed_alike (p parallel q) ρ ρ' n j f w =
    ap₂ ◌parallel◌ (renamed_alike p ρ ρ' n j f w.0) (renamed_alike q ρ ρ' (n + length (locals (copies j p))) (behind j p) f w.1)
renamed_alike (trap p) ρ ρ' n j f w = ap trap (renamed_alike p ρ ρ' n j f w)
renamed_alike (exit d) ρ ρ' n j f w = refl
renamed_alike (local s p) ρ ρ' n j f w = ap (local n) (renamed_alike p (naming ρ s n) (naming ρ' s n) (n + 1) j (named_alike ρ ρ' f s n) w.1)
