-- What a tree needs where it is to be read: room on the path, counts, nesting, and its exits, pauses, signals and locals in order.
-- It goes over to the children, and a record of the tree passes. By the view of the record's kind. Assumes nothing.
use mathlib.Core.Path.{◌≡◌, refl, sym, ap, ap₂, ◌∙◌, subst}
use mathlib.Core.Logic.{◌⊎◌, inl, inr, ⊎_elim}
use mathlib.Core.Bool.{Bool, true, false, not, cond, ◌&&◌}
use mathlib.Core.List.{List, ◌∷◌}
use Prim.Native.Nat.{ℕ, suc, ◌+◌, ◌≤◌, ◌<◌}
use native.Mathlib.Nat.{add-zero}
use native.Mathlib.Numerals.{add-one}
use native.Mathlib.Omega.{arith}
use borrow.Author.Tests.{eqb-true, eqb-false, eq-eqb, lt-ltb, le-leb, lt-leb}
use lib.Dec.{T, eqb}
use lib.ListN.{length, length-append}
use Rattle.sets.proofs.Members.{is_true}
use Rattle.rules.specs.Statements.{Stmt, pauses, from, Numbered, Trapped}
use Rattle.tables.specs.Table.{statements}
use Rattle.block.specs.Format.{Header, Around, Sofar, declared_here, wrong_signal, wrong_exit, past, inside, leaf, above, joined, preorder, bytes}
use Rattle.tables.specs.Kinds.{length_of}
use Rattle.block.specs.Good.{Scoped, path, nested_traps, nested_locals, locals, Next}
use Rattle.block.proofs.Views.{Leaf, Above, Joined, Kind, leafs, aboves, joins, a_nothing, a_pause, an_emit, an_exit, a_suspend, a_loop, a_trap, a_local, a_present, a_sequence, a_parallel}
use Rattle.block.proofs.Tests.{signal_emit, signal_test, signal_local, signal_none, exit_depth, exit_none}
use Rattle.block.proofs.Passes.{Passes}
use Rattle.block.proofs.Built.{Builds, above_builds, joined_builds}
use Rattle.block.proofs.Nesting.{Nests, above_nests, joined_nests, rows_of, row_tail}
use Rattle.block.proofs.Trees.{above_no_pause, joined_no_pause, locals_counted}

-- In order, but for the limits.
pub record Legible (h : Header) (a : Around) (r : Sofar) (t : Stmt) : Type 0 where
  pub locals_fit : r.locals + length (locals t) ≤ h.locals
  pub trapped : Trapped a.traps t
  pub numbered : Numbered r.pauses t
  pub scoped : Scoped h.inputs h.outputs a.scope t
  pub next : Next (h.inputs + h.outputs + r.locals) t

pub record Fits (room : ℕ) (h : Header) (a : Around) (r : Sofar) (t : Stmt) : Type 0 where
  pub path_fits : path t ≤ room
  pub statements_fit : r.statements + statements t ≤ 512
  pub pauses_fit : r.pauses + length (pauses t) ≤ 128
  pub traps_fit : a.traps + nested_traps t ≤ 16
  pub nested_fit : a.nested + nested_locals t ≤ 6
  pub legible : Legible h a r t

-- What has been read after a tree.
abbrev pub after : Stmt → Sofar → Sofar
after t r = record {
  place = r.place + bytes (preorder t);
  statements = r.statements + statements t;
  pauses = r.pauses + length (pauses t);
  locals = r.locals + length (locals t);
}

-- What a record's own kind asks of its signal and depth, and that only a pause is counted as one.
pub record Own (h : Header) (a : Around) (k x : ℕ) (t : Stmt) : Type 0 where
  pub pausing : k ≡ 17 → 1 ≤ length (pauses t)
  pub emitting : k ≡ 18 → (h.inputs ≤ x) × T (declared_here h a x)
  pub testing : (k ≡ 19) ⊎ (k ≡ 20) → T (declared_here h a x)
  pub exiting : k ≡ 25 → x < a.traps

pub leaf_own : (h : Header) (a : Around) {k : ℕ} (x n : ℕ) → Leaf k → Trapped a.traps (leaf k x n) → Scoped h.inputs h.outputs a.scope (leaf k x n)
    → Own h a k x (leaf k x n)
unfolding Trapped Scoped leaf pauses
leaf_own h a x n a_nothing t s =
    record { pausing = λ e. absurd (omega arith); emitting = λ e. absurd (omega arith); testing = λ e. absurd (⊎_elim (λ i. omega arith) (λ i. omega arith) e); exiting = λ e. absurd (omega arith) }
leaf_own h a x n a_pause t s =
    record { pausing = λ e. omega arith; emitting = λ e. absurd (omega arith); testing = λ e. absurd (⊎_elim (λ i. omega arith) (λ i. omega arith) e); exiting = λ e. absurd (omega arith) }
leaf_own h a x n an_emit t s =
    record { pausing = λ e. absurd (omega arith); emitting = λ e. s; testing = λ e. absurd (⊎_elim (λ i. omega arith) (λ i. omega arith) e); exiting = λ e. absurd (omega arith) }
leaf_own h a x n an_exit t s =
    record { pausing = λ e. absurd (omega arith); emitting = λ e. absurd (omega arith); testing = λ e. absurd (⊎_elim (λ i. omega arith) (λ i. omega arith) e); exiting = λ e. t }

-- A kind that is no pause, no emit and no exit.
no_leaf : {h : Header} {a : Around} {x : ℕ} {t : Stmt} (k : ℕ) → (k ≡ 17 → ⊥) → (k ≡ 18 → ⊥) → (k ≡ 25 → ⊥) → ((k ≡ 19) ⊎ (k ≡ 20) → T (declared_here h a x)) → Own h a k x t
no_leaf k p e d f = record { pausing = λ i. absurd (p i); emitting = λ i. absurd (e i); testing = f; exiting = λ i. absurd (d i) }

pub above_own : (h : Header) (a : Around) {k : ℕ} (x : ℕ) (p : Stmt) → Above k → Scoped h.inputs h.outputs a.scope (above k x p) → Own h a k x (above k x p)
unfolding Scoped above
above_own h a x p a_suspend s = no_leaf 20 (λ i. omega arith) (λ i. omega arith) (λ i. omega arith) (λ i. s.0)
above_own h a x p a_loop s = no_leaf 22 (λ i. omega arith) (λ i. omega arith) (λ i. omega arith) (λ i. absurd (⊎_elim (λ i. omega arith) (λ i. omega arith) i))
above_own h a x p a_trap s = no_leaf 24 (λ i. omega arith) (λ i. omega arith) (λ i. omega arith) (λ i. absurd (⊎_elim (λ i. omega arith) (λ i. omega arith) i))
above_own h a x p a_local s = no_leaf 26 (λ i. omega arith) (λ i. omega arith) (λ i. omega arith) (λ i. absurd (⊎_elim (λ i. omega arith) (λ i. omega arith) i))

pub joined_own : (h : Header) (a : Around) {k : ℕ} (x : ℕ) (p q : Stmt) → Joined k → Scoped h.inputs h.outputs a.scope (joined k x p q) → Own h a k x (joined k x p q)
unfolding Scoped joined
joined_own h a x p q a_present s = no_leaf 19 (λ i. omega arith) (λ i. omega arith) (λ i. omega arith) (λ i. s.0)
joined_own h a x p q a_sequence s = no_leaf 21 (λ i. omega arith) (λ i. omega arith) (λ i. omega arith) (λ i. absurd (⊎_elim (λ i. omega arith) (λ i. omega arith) i))
joined_own h a x p q a_parallel s = no_leaf 23 (λ i. omega arith) (λ i. omega arith) (λ i. omega arith) (λ i. absurd (⊎_elim (λ i. omega arith) (λ i. omega arith) i))

-- What a kind adds where it is that kind.
one_where : (k m : ℕ) → k ≡ m → ◌≡◌ {A = ℕ} (cond (eqb k m) 1 0) 1
one_where k m e = ap (λ (z : Bool). cond z 1 0) (eq-eqb k m e)

listed_where : (k m x : ℕ) (ls : List ℕ) → k ≡ m → cond (eqb k m) (x ∷ ls) ls ≡ x ∷ ls
listed_where k m x ls e = ap (λ (z : Bool). cond z (x ∷ ls) ls) (eq-eqb k m e)

-- A row after the number that the test puts before it.
after_row : (z : Bool) (n x : ℕ) (ls : List ℕ) → cond z (x ∷ ls) ls ≡ from n (length (cond z (x ∷ ls) ls)) → ls ≡ from (n + cond z 1 0) (length ls)
after_row true n x ls e = (row_tail n x ls e).1 ∙ ap (λ (j : ℕ). from j (length ls)) (sym (add-one n))
after_row false n x ls e = e ∙ ap (λ (j : ℕ). from j (length ls)) (sym (add-zero n))

module _ {h : Header} {a : Around} {r : Sofar} {k x deep traps nested : ℕ} {ls : List ℕ} {t : Stmt} (nest : Nests k x deep traps nested ls t) (f : Legible h a r t) where
  local_next : k ≡ 26 → x ≡ h.inputs + h.outputs + r.locals
  unfolding Next
  local_next e =
      let l : locals t ≡ x ∷ ls = nest.its_locals ∙ listed_where k 26 x ls e in
      (row_tail _ x ls (sym l ∙ f.next ∙ ap (λ (l : List ℕ). from (h.inputs + h.outputs + r.locals) (length l)) l)).0

  pub declares : k ≡ 26 → (r.locals < h.locals) × (x ≡ h.inputs + h.outputs + r.locals)
  declares e = (omega (arith, f.locals_fit, locals_counted nest, one_where k 26 e), local_next e)

  -- The locals of the children go on.
  pub children_next : ls ≡ from (h.inputs + h.outputs + (r.locals + cond (eqb k 26) 1 0)) (length ls)
  unfolding Next
  children_next =
      let l = nest.its_locals in
      let n₀ = h.inputs + h.outputs + r.locals in
      let one : ℕ = cond (eqb k 26) 1 0 in
      after_row (eqb k 26) n₀ x ls (sym l ∙ f.next ∙ ap (λ (l : List ℕ). from n₀ (length l)) l)
      ∙ ap (λ (j : ℕ). from j (length ls)) (omega arith)

-- A record of a tree that fits passes.
module _ {room : ℕ} {h : Header} {a : Around} {r : Sofar} {k x n m size deep traps nested : ℕ} {ps ls : List ℕ} {t : Stmt}
    (build : Builds k x n m size ps t) (nest : Nests k x deep traps nested ls t) (f : Fits room h a r t) where
  pub fits_pass : {end : ℕ} → Kind k → Own h a k x t → r.place + length_of k ≤ end → Passes room end h a r k x
  fits_pass v o l = record {
    its_kind = v;
    ends = l;
    roomy = λ z. omega (arith, f.path_fits, nest.its_path);
    counted = omega (arith, f.statements_fit, build.its_statements);
    pausing = λ e. omega (arith, f.pauses_fit, o.pausing e);
    trapping = λ e. omega (arith, f.traps_fit, nest.its_traps, one_where k 24 e);
    nesting = λ e. omega (arith, f.nested_fit, nest.its_nested, one_where k 26 e);
    emitting = o.emitting;
    testing = o.testing;
    declaring = declares nest f.legible;
    exiting = o.exiting;
  }

-- A record of a tree that is in order has no fault but a limit.
module _ (h : Header) (a : Around) (r : Sofar) (x : ℕ) {t : Stmt} where
  pub right_signal : {k : ℕ} → Kind k → Own h a k x t → (k ≡ 26 → (r.locals < h.locals) × (x ≡ h.inputs + h.outputs + r.locals)) → wrong_signal h a r k x ≡ false
  right_signal (leafs a_nothing) o d = signal_none h a r 16 x (λ e. omega arith) (λ e. omega arith) (λ e. omega arith) (λ e. omega arith)
  right_signal (leafs a_pause) o d = signal_none h a r 17 x (λ e. omega arith) (λ e. omega arith) (λ e. omega arith) (λ e. omega arith)
  right_signal (leafs an_emit) o d =
      let f = o.emitting refl in
      signal_emit h a r 18 x refl
      ∙ ap₂ (λ (y z : Bool). not (y && z)) (le-leb h.inputs x f.0) (is_true (declared_here h a x) f.1)
  right_signal (leafs an_exit) o d = signal_none h a r 25 x (λ e. omega arith) (λ e. omega arith) (λ e. omega arith) (λ e. omega arith)
  right_signal (aboves a_suspend) o d = signal_test h a r 20 x (inr refl) ∙ ap not (is_true (declared_here h a x) (o.testing (inr refl)))
  right_signal (aboves a_loop) o d = signal_none h a r 22 x (λ e. omega arith) (λ e. omega arith) (λ e. omega arith) (λ e. omega arith)
  right_signal (aboves a_trap) o d = signal_none h a r 24 x (λ e. omega arith) (λ e. omega arith) (λ e. omega arith) (λ e. omega arith)
  right_signal (aboves a_local) o d =
      signal_local h a r 26 x refl
      ∙ ap₂ (λ (y z : Bool). not (y && z)) (lt-ltb r.locals h.locals (d refl).0) (eq-eqb x (h.inputs + h.outputs + r.locals) (d refl).1)
  right_signal (joins a_present) o d = signal_test h a r 19 x (inl refl) ∙ ap not (is_true (declared_here h a x) (o.testing (inl refl)))
  right_signal (joins a_sequence) o d = signal_none h a r 21 x (λ e. omega arith) (λ e. omega arith) (λ e. omega arith) (λ e. omega arith)
  right_signal (joins a_parallel) o d = signal_none h a r 23 x (λ e. omega arith) (λ e. omega arith) (λ e. omega arith) (λ e. omega arith)

  pub right_exit : (k : ℕ) → Own h a k x t → wrong_exit a k x ≡ false
  right_exit k o = go (eqb k 25) refl
    where
      go : (z : Bool) → eqb k 25 ≡ z → wrong_exit a k x ≡ false
      go true e = exit_depth a k x (eqb-true k 25 e) ∙ lt-leb a.traps x (o.exiting (eqb-true k 25 e))
      go false e = exit_none a k x (eqb-false k 25 e)

-- What stands around the child of a statement, and its signals.
above_parts : (h : Header) (a : Around) {k : ℕ} (x : ℕ) (p : Stmt) → Above k → Trapped a.traps (above k x p) → Scoped h.inputs h.outputs a.scope (above k x p)
    → Trapped (inside k x a).traps p × Scoped h.inputs h.outputs (inside k x a).scope p
unfolding Trapped Scoped above inside
above_parts h a x p a_suspend t s = (subst (λ (n : ℕ). Trapped n p) (sym (add-zero a.traps)) t, s.1)
above_parts h a x p a_loop t s = (subst (λ (n : ℕ). Trapped n p) (sym (add-zero a.traps)) t, s)
above_parts h a x p a_trap t s = (subst (λ (n : ℕ). Trapped n p) (sym (add-one a.traps)) t, s)
above_parts h a x p a_local t s = (subst (λ (n : ℕ). Trapped n p) (sym (add-zero a.traps)) t, s.1)

record Parts (h : Header) (a : Around) (p q : Stmt) : Type 0 where
  first_trapped : Trapped a.traps p
  second_trapped : Trapped a.traps q
  first_scoped : Scoped h.inputs h.outputs a.scope p
  second_scoped : Scoped h.inputs h.outputs a.scope q

joined_parts : (h : Header) (a : Around) {k : ℕ} (x : ℕ) (p q : Stmt) → Joined k → Trapped a.traps (joined k x p q) → Scoped h.inputs h.outputs a.scope (joined k x p q)
    → Parts h a p q
unfolding Trapped Scoped joined
joined_parts h a x p q a_present t s = record { first_trapped = t.0; second_trapped = t.1; first_scoped = s.1; second_scoped = s.2 }
joined_parts h a x p q a_sequence t s = record { first_trapped = t.0; second_trapped = t.1; first_scoped = s.0; second_scoped = s.1 }
joined_parts h a x p q a_parallel t s = record { first_trapped = t.0; second_trapped = t.1; first_scoped = s.0; second_scoped = s.1 }

-- A statement with two children adds nothing to what stands around.
joined_inside : {k : ℕ} (x : ℕ) (a : Around) → Joined k → inside k x a ≡ a
unfolding inside
joined_inside x a a_present = λ i. record { traps = add-zero a.traps i; nested = add-zero a.nested i; scope = a.scope }
joined_inside x a a_sequence = λ i. record { traps = add-zero a.traps i; nested = add-zero a.nested i; scope = a.scope }
joined_inside x a a_parallel = λ i. record { traps = add-zero a.traps i; nested = add-zero a.nested i; scope = a.scope }

-- The pauses and locals of two children.
both_pauses : {k : ℕ} (x : ℕ) (p q : Stmt) → Joined k → length (pauses (joined k x p q)) ≡ length (pauses p) + length (pauses q)
both_pauses x p q v = ap (λ (l : List ℕ). length l) (joined_builds x 0 p q v).its_pauses ∙ length-append (pauses p) (pauses q)

both_locals : {k : ℕ} (x : ℕ) (p q : Stmt) → Joined k → length (locals (joined k x p q)) ≡ cond (eqb k 26) 1 0 + (length (locals p) + length (locals q))
both_locals x p q v = omega (arith, locals_counted (joined_nests x p q v), length-append (locals p) (locals q))

-- The children are in order where the statement is.
module _ {h : Header} {a : Around} {r : Sofar} {k : ℕ} (x : ℕ) where
  pub above_legible : (p : Stmt) → Above k → Legible h a r (above k x p) → Legible h (inside k x a) (past k r) p
  unfolding past inside Numbered Next
  above_legible p v f =
      let m = above_builds x r.pauses p v in
      let o = above_nests x p v in
      let s = above_parts h a x p v f.trapped f.scoped in
      let ps : pauses (above k x p) ≡ pauses p = m.its_pauses in
      let none : r.pauses ≡ r.pauses + cond (eqb k 17) 1 0 = omega (arith, above_no_pause v) in
      record {
        locals_fit = omega (arith, f.locals_fit, locals_counted o);
        trapped = s.0;
        numbered = sym ps ∙ f.numbered ∙ ap (λ (l : List ℕ). from r.pauses (length l)) ps ∙ ap (λ (n : ℕ). from n (length (pauses p))) none;
        scoped = s.1;
        next = children_next o f;
      }

  module _ (p q : Stmt) (v : Joined k) (f : Legible h a r (joined k x p q)) where
    parts : Parts h (inside k x a) p q
    parts = subst (λ (c : Around). Parts h c p q) (sym (joined_inside x a v)) (joined_parts h a x p q v f.trapped f.scoped)

    pause_rows : (pauses p ≡ from r.pauses (length (pauses p))) × (pauses q ≡ from (r.pauses + length (pauses p)) (length (pauses q)))
    unfolding Numbered
    pause_rows =
        let ps = (joined_builds x r.pauses p q v).its_pauses in
        rows_of r.pauses (pauses p) (pauses q) (sym ps ∙ f.numbered ∙ ap (λ (l : List ℕ). from r.pauses (length l)) ps)

    local_rows : (locals p ≡ from (h.inputs + h.outputs + (r.locals + cond (eqb k 26) 1 0)) (length (locals p)))
        × (locals q ≡ from (h.inputs + h.outputs + (r.locals + cond (eqb k 26) 1 0) + length (locals p)) (length (locals q)))
    local_rows = rows_of _ (locals p) (locals q) (children_next (joined_nests x p q v) f)

    pub first_legible : Legible h (inside k x a) (past k r) p
    unfolding past inside Numbered Next
    first_legible =
        let none : r.pauses ≡ r.pauses + cond (eqb k 17) 1 0 = omega (arith, joined_no_pause v) in
        record {
          locals_fit = omega (arith, f.locals_fit, both_locals x p q v);
          trapped = parts.first_trapped;
          numbered = pause_rows.0 ∙ ap (λ (n : ℕ). from n (length (pauses p))) none;
          scoped = parts.first_scoped;
          next = local_rows.0;
        }

    pub second_legible : Legible h (inside k x a) (after p (past k r)) q
    unfolding past inside Numbered Next
    second_legible =
        let none : r.pauses + length (pauses p) ≡ r.pauses + cond (eqb k 17) 1 0 + length (pauses p) = omega (arith, joined_no_pause v) in
        let one : ℕ = cond (eqb k 26) 1 0 in
        let base : h.inputs + h.outputs + (r.locals + one) + length (locals p) ≡ h.inputs + h.outputs + (r.locals + one + length (locals p)) = omega arith in
        record {
          locals_fit = omega (arith, f.locals_fit, both_locals x p q v);
          trapped = parts.second_trapped;
          numbered = pause_rows.1 ∙ ap (λ (n : ℕ). from n (length (pauses q))) none;
          scoped = parts.second_scoped;
          next = local_rows.1 ∙ ap (λ (n : ℕ). from n (length (locals q))) base;
        }

  -- And they fit where the statement does.
  module _ {room : ℕ} where
    pub above_fits : (p : Stmt) → Above k → Fits (suc room) h a r (above k x p) → Fits room h (inside k x a) (past k r) p
    unfolding past inside
    above_fits p v f =
        let m = above_builds x r.pauses p v in
        let o = above_nests x p v in
        record {
          path_fits = omega (arith, f.path_fits, o.its_path);
          statements_fit = omega (arith, f.statements_fit, m.its_statements);
          pauses_fit = omega (arith, f.pauses_fit, above_no_pause v, ap (λ (l : List ℕ). length l) m.its_pauses);
          traps_fit = omega (arith, f.traps_fit, o.its_traps);
          nested_fit = omega (arith, f.nested_fit, o.its_nested);
          legible = above_legible p v f.legible;
        }

    module _ (p q : Stmt) (v : Joined k) (f : Fits (suc room) h a r (joined k x p q)) where
      pub first_fits : Fits room h (inside k x a) (past k r) p
      unfolding past inside
      first_fits = record {
        path_fits = omega (arith, f.path_fits, (joined_nests x p q v).its_path);
        statements_fit = omega (arith, f.statements_fit, (joined_builds x r.pauses p q v).its_statements);
        pauses_fit = omega (arith, f.pauses_fit, joined_no_pause v, both_pauses x p q v);
        traps_fit = omega (arith, f.traps_fit, (joined_nests x p q v).its_traps);
        nested_fit = omega (arith, f.nested_fit, (joined_nests x p q v).its_nested);
        legible = first_legible p q v f.legible;
      }

      pub second_fits : Fits room h (inside k x a) (after p (past k r)) q
      unfolding past inside
      second_fits = record {
        path_fits = omega (arith, f.path_fits, (joined_nests x p q v).its_path);
        statements_fit = omega (arith, f.statements_fit, (joined_builds x r.pauses p q v).its_statements);
        pauses_fit = omega (arith, f.pauses_fit, joined_no_pause v, both_pauses x p q v);
        traps_fit = omega (arith, f.traps_fit, (joined_nests x p q v).its_traps);
        nested_fit = omega (arith, f.nested_fit, (joined_nests x p q v).its_nested);
        legible = second_legible p q v f.legible;
      }
