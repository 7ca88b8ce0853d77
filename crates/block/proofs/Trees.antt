-- What a statement that was read satisfies: where it ends, its counts, and that its exits, pauses, numbers and signals are as the
-- rules ask. One induction on the reading; the kinds differ only in what their own record was tested for.
use mathlib.Core.Path.{◌≡◌, refl, sym, subst, ◌∙◌, ap}
use mathlib.Core.Logic.{inl, inr, ⊎_elim}
use mathlib.Core.Bool.{Bool, true, false, cond}
use mathlib.Core.List.{List, [], ◌∷◌, ◌++◌}
use Prim.Native.Nat.{ℕ, zero, suc, ◌+◌, ◌≤◌, ◌<◌}
use native.Mathlib.Nat.{add-zero}
use native.Mathlib.Numerals.{add-one}
use native.Mathlib.Omega.{arith}
use borrow.Author.Tests.{eqb-true}
use lib.Dec.{T, eqb, ltb, eqb→eq, ltb→lt}
use lib.ListN.{length, length-append}
use Rattle.sets.specs.Numbers.{union, single}
use Rattle.sets.proofs.Members.{or_out}
use Rattle.rules.specs.Statements.{Stmt, pauses, from, Numbered, Trapped}
use Rattle.tables.specs.Table.{statements, Small}
use Rattle.block.specs.Format.{Header, Around, Sofar, declared_here, past, inside, leaf, above, joined, preorder, bytes, kind_at, operand_at}
use Rattle.block.specs.Good.{Scoped, path, nested_traps, nested_locals, locals, Next}
use Rattle.block.proofs.Views.{Leaf, Above, Joined, a_nothing, a_pause, an_emit, an_exit, a_suspend, a_loop, a_trap, a_local, a_present, a_sequence, a_parallel}
use Rattle.block.proofs.Passes.{Passes, passes}
use Rattle.block.proofs.Parse.{Parsed, at_leaf, at_above, at_joined}
use Rattle.block.proofs.Nesting.{Nests, leaf_nests, above_nests, joined_nests, both_in_row, in_row, length_where}
use Rattle.block.proofs.Built.{leaf_builds, above_builds, joined_builds}

-- What the reading keeps of the counts, and of what stands around.
pub record Counts (h : Header) (r : Sofar) : Type 0 where
  pub few_pauses : r.pauses ≤ 128
  pub few_locals : r.locals ≤ h.locals

pub record AroundFits (a : Around) : Type 0 where
  pub few_traps : a.traps ≤ 16
  pub few_nested : a.nested ≤ 6
  pub small_scope : (s : ℕ) → T (a.scope s) → s < 64

-- A statement that was read.
pub record Tree (room end : ℕ) (h : Header) (a : Around) (r : Sofar) (t : Stmt) (r₁ : Sofar) : Type 0 where
  pub ends_at : r₁.place ≡ r.place + bytes (preorder t)
  pub in_block : r₁.place ≤ end
  pub counted : r₁.statements ≡ r.statements + statements t
  pub few_statements : r₁.statements ≤ 512
  pub paused : r₁.pauses ≡ r.pauses + length (pauses t)
  pub counts : Counts h r₁
  pub declared : r₁.locals ≡ r.locals + length (locals t)
  pub trapped : Trapped a.traps t
  pub numbered : Numbered r.pauses t
  pub small : Small t
  pub scoped : Scoped h.inputs h.outputs a.scope t
  pub path_fits : path t ≤ room
  pub traps_fit : a.traps + nested_traps t ≤ 16
  pub locals_fit : a.nested + nested_locals t ≤ 6
  pub next : Next (h.inputs + h.outputs + r.locals) t

-- A signal that may stand here is below 64.
pub small_signal : (h : Header) (a : Around) (s : ℕ) → h.inputs + h.outputs + h.locals ≤ 64 → AroundFits a → T (declared_here h a s) → s < 64
small_signal h a s fits f d = ⊎_elim (λ l. let w : s < h.inputs + h.outputs = ltb→lt s (h.inputs + h.outputs) l in omega arith) (λ m. f.small_scope s m)
    (or_out (ltb s (h.inputs + h.outputs)) (a.scope s) d)

-- A count that a kind adds to keeps its limit.
one_more : (k m n limit : ℕ) → n ≤ limit → (k ≡ m → n < limit) → n + cond (eqb k m) 1 0 ≤ limit
one_more k m n limit le lt = go (eqb k m) refl
  where
    go : (z : Bool) → eqb k m ≡ z → n + cond z 1 0 ≤ limit
    go true e = omega (arith, lt (eqb-true k m e))
    go false e = omega arith

-- The tests of a record without a child give what is asked of its statement.
module _ (h : Header) (fits : h.inputs + h.outputs + h.locals ≤ 64) {room end : ℕ} {a : Around} {r : Sofar} {x : ℕ} (around : AroundFits a) where
  leaf_trapped : {k : ℕ} → Passes room end h a r k x → (n : ℕ) → Leaf k → Trapped a.traps (leaf k x n)
  unfolding Trapped leaf
  leaf_trapped g n a_nothing = tt
  leaf_trapped g n a_pause = tt
  leaf_trapped g n an_emit = tt
  leaf_trapped g n an_exit = g.exiting refl

  leaf_small : {k : ℕ} → Passes room end h a r k x → Leaf k → Small (leaf k x r.pauses)
  unfolding Small leaf
  leaf_small g a_nothing = tt
  leaf_small g a_pause = g.pausing refl
  leaf_small g an_emit = small_signal h a x fits around (g.emitting refl).1
  leaf_small g an_exit = omega (arith, g.exiting refl, around.few_traps)

  leaf_scoped : {k : ℕ} → Passes room end h a r k x → (n : ℕ) → Leaf k → Scoped h.inputs h.outputs a.scope (leaf k x n)
  unfolding Scoped leaf
  leaf_scoped g n a_nothing = tt
  leaf_scoped g n a_pause = tt
  leaf_scoped g n an_emit = g.emitting refl
  leaf_scoped g n an_exit = tt

  -- What stands around the children fits too.
  pub inside_fits : (k : ℕ) → Passes room end h a r k x → AroundFits (inside k x a)
  unfolding inside
  inside_fits k g = record {
    few_traps = one_more k 24 a.traps 16 around.few_traps g.trapping;
    few_nested = one_more k 26 a.nested 6 around.few_nested g.nesting;
    small_scope = λ s. scope (eqb k 26) refl s;
  }
    where
      scope : (z : Bool) → eqb k 26 ≡ z → (s : ℕ) → T (cond z (union (single x) a.scope) a.scope s) → s < 64
      scope false e s m = around.small_scope s m
      scope true e s m =
          let d = g.declaring (eqb-true k 26 e) in
          ⊎_elim (λ i. omega (arith, d.0, d.1, eqb→eq s x i)) (around.small_scope s) (or_out (eqb s x) (a.scope s) m)

  pub past_counts : (k : ℕ) → Passes room end h a r k x → Counts h r → Counts h (past k r)
  unfolding past
  past_counts k g c = record {
    few_pauses = one_more k 17 r.pauses 128 c.few_pauses g.pausing;
    few_locals = one_more k 26 r.locals h.locals c.few_locals (λ e. (g.declaring e).0);
  }

  above_trapped : {k : ℕ} → Passes room end h a r k x → (p : Stmt) → Above k → Trapped (inside k x a).traps p → Trapped a.traps (above k x p)
  unfolding Trapped above inside
  above_trapped g p a_suspend t = subst (λ (n : ℕ). Trapped n p) (add-zero a.traps) t
  above_trapped g p a_loop t = subst (λ (n : ℕ). Trapped n p) (add-zero a.traps) t
  above_trapped g p a_trap t = subst (λ (n : ℕ). Trapped n p) (add-one a.traps) t
  above_trapped g p a_local t = subst (λ (n : ℕ). Trapped n p) (add-zero a.traps) t

  above_small : {k : ℕ} → Passes room end h a r k x → (p : Stmt) → Above k → Small p → Small (above k x p)
  unfolding Small above
  above_small g p a_suspend t = (small_signal h a x fits around (g.testing (inr refl)), t)
  above_small g p a_loop t = t
  above_small g p a_trap t = t
  above_small g p a_local t = (omega (arith, (g.declaring refl).0, (g.declaring refl).1), t)

  above_scoped : {k : ℕ} → Passes room end h a r k x → (p : Stmt) → Above k → Scoped h.inputs h.outputs (inside k x a).scope p → Scoped h.inputs h.outputs a.scope (above k x p)
  unfolding Scoped above inside
  above_scoped g p a_suspend t = (g.testing (inr refl), t)
  above_scoped g p a_loop t = t
  above_scoped g p a_trap t = t
  above_scoped g p a_local t = (omega (arith, (g.declaring refl).1), t)

  joined_trapped : {k : ℕ} → Passes room end h a r k x → (p q : Stmt) → Joined k → Trapped (inside k x a).traps p → Trapped (inside k x a).traps q → Trapped a.traps (joined k x p q)
  unfolding Trapped joined inside
  joined_trapped g p q a_present t u = (subst (λ (n : ℕ). Trapped n p) (add-zero a.traps) t, subst (λ (n : ℕ). Trapped n q) (add-zero a.traps) u)
  joined_trapped g p q a_sequence t u = (subst (λ (n : ℕ). Trapped n p) (add-zero a.traps) t, subst (λ (n : ℕ). Trapped n q) (add-zero a.traps) u)
  joined_trapped g p q a_parallel t u = (subst (λ (n : ℕ). Trapped n p) (add-zero a.traps) t, subst (λ (n : ℕ). Trapped n q) (add-zero a.traps) u)

  joined_small : {k : ℕ} → Passes room end h a r k x → (p q : Stmt) → Joined k → Small p → Small q → Small (joined k x p q)
  unfolding Small joined
  joined_small g p q a_present t u = (small_signal h a x fits around (g.testing (inl refl)), t, u)
  joined_small g p q a_sequence t u = (t, u)
  joined_small g p q a_parallel t u = (t, u)

  joined_scoped : {k : ℕ} → Passes room end h a r k x → (p q : Stmt) → Joined k → Scoped h.inputs h.outputs (inside k x a).scope p → Scoped h.inputs h.outputs (inside k x a).scope q
      → Scoped h.inputs h.outputs a.scope (joined k x p q)
  unfolding Scoped joined inside
  joined_scoped g p q a_present t u = (g.testing (inl refl), t, u)
  joined_scoped g p q a_sequence t u = (t, u)
  joined_scoped g p q a_parallel t u = (t, u)

-- Only a pause is counted as one, and only a local.
leaf_pauses : {k : ℕ} (n : ℕ) → Leaf k → cond (eqb k 17) (n ∷ []) [] ≡ from n (cond (eqb k 17) 1 0)
unfolding from
leaf_pauses n a_nothing = refl
leaf_pauses n a_pause = refl
leaf_pauses n an_emit = refl
leaf_pauses n an_exit = refl

pub above_no_pause : {k : ℕ} → Above k → ◌≡◌ {A = ℕ} (cond (eqb k 17) 1 0) 0
above_no_pause a_suspend = refl
above_no_pause a_loop = refl
above_no_pause a_trap = refl
above_no_pause a_local = refl

pub joined_no_pause : {k : ℕ} → Joined k → ◌≡◌ {A = ℕ} (cond (eqb k 17) 1 0) 0
joined_no_pause a_present = refl
joined_no_pause a_sequence = refl
joined_no_pause a_parallel = refl

length_from : (i n : ℕ) → length (from i n) ≡ n
unfolding from
length_from i zero = refl
length_from i (suc n) = ap suc (length_from (suc i) n)

same_numbered : {i j : ℕ} (p q : Stmt) → pauses q ≡ pauses p → i ≡ j → Numbered i p → Numbered j q
unfolding Numbered
same_numbered {i} {j} p q e ij n =
    e ∙ n ∙ ap (λ (k : ℕ). from k (length (pauses p))) ij ∙ ap (λ (l : List ℕ). from j (length l)) (sym e)

both_numbered : (i j : ℕ) (p q t : Stmt) → pauses t ≡ pauses p ++ pauses q → Numbered i p → Numbered j q → j ≡ i + length (pauses p) → Numbered i t
unfolding Numbered
both_numbered i j p q t e n m ej = e ∙ both_in_row i j (pauses p) (pauses q) n m ej ∙ ap (λ (l : List ℕ). from i (length l)) (sym e)

pub leaf_numbered : {k : ℕ} (n : ℕ) (t : Stmt) → Leaf k → pauses t ≡ cond (eqb k 17) (n ∷ []) []
    → (length (pauses t) ≡ cond (eqb k 17) 1 0) × Numbered n t
unfolding Numbered
leaf_numbered {k} n t v e =
    let f = e ∙ leaf_pauses n v in
    let l = ap (λ (l : List ℕ). length l) f ∙ length_from n (cond (eqb k 17) 1 0) in
    (l, f ∙ ap (λ (m : ℕ). from n m) (sym l))

-- The next local's number goes on from those of the children.
next_of : {room end k x deep traps nested : ℕ} {h : Header} {a : Around} {r : Sofar} {ls : List ℕ} {t : Stmt} → Passes room end h a r k x → Nests k x deep traps nested ls t
    → ls ≡ from (h.inputs + h.outputs + (r.locals + cond (eqb k 26) 1 0)) (length ls) → Next (h.inputs + h.outputs + r.locals) t
unfolding Next
next_of {k = k} {x = x} {h = h} {r = r} {ls = ls} g m e =
    let n = h.inputs + h.outputs + r.locals in
    let one : ℕ = cond (eqb k 26) 1 0 in
    let f : ls ≡ from (n + one) (length ls) = e ∙ ap (λ (j : ℕ). from j (length ls)) (omega arith) in
    m.its_locals ∙ in_row (eqb k 26) ls (λ z. (g.declaring (eqb-true k 26 z)).1) f ∙ ap (λ (l : List ℕ). from n (length l)) (sym m.its_locals)

pub locals_counted : {k x deep traps nested : ℕ} {ls : List ℕ} {t : Stmt} → Nests k x deep traps nested ls t → length (locals t) ≡ cond (eqb k 26) 1 0 + length ls
locals_counted {k} {x} {ls = ls} m = ap (λ (l : List ℕ). length l) m.its_locals ∙ length_where (eqb k 26) x ls

module _ (b : List ℕ) (h : Header) (fits : h.inputs + h.outputs + h.locals ≤ 64) where
  pub tree : {room : ℕ} {a : Around} {r r₁ : Sofar} {t : Stmt} → AroundFits a → Counts h r → Parsed b h room a r t r₁ → Tree room (length b) h a r t r₁
  unfolding past inside Next from
  tree f c (at_leaf {room = room} {a = a} {r = r} good v) =
      let k = kind_at b r.place in
      let x = operand_at b r.place in
      let g = passes (suc room) b h a r good in
      let m = leaf_builds x r.pauses v in
      let n = leaf_numbered r.pauses (leaf k x r.pauses) v m.its_pauses in
      let o = leaf_nests x r.pauses v in
      let i = inside_fits h fits f k g in
      record {
        ends_at = omega (arith, m.its_bytes);
        in_block = g.ends;
        counted = omega (arith, m.its_statements);
        few_statements = omega (arith, g.counted);
        paused = ap (λ (j : ℕ). r.pauses + j) (sym n.0);
        counts = past_counts h fits f k g c;
        declared = omega (arith, locals_counted o);
        trapped = leaf_trapped h fits f g r.pauses v;
        numbered = n.1;
        small = leaf_small h fits f g v;
        scoped = leaf_scoped h fits f g r.pauses v;
        path_fits = omega (arith, o.its_path);
        traps_fit = omega (arith, o.its_traps, i.few_traps);
        locals_fit = omega (arith, o.its_nested, i.few_nested);
        next = next_of g o refl;
      }
  tree f c (at_above {room = room} {a = a} {r = r} {p = p} good v d) =
      let k = kind_at b r.place in
      let x = operand_at b r.place in
      let g = passes (suc room) b h a r good in
      let m = above_builds x r.pauses p v in
      let o = above_nests x p v in
      let w = tree (inside_fits h fits f k g) (past_counts h fits f k g c) d in
      record {
        ends_at = omega (arith, m.its_bytes, w.ends_at);
        in_block = w.in_block;
        counted = omega (arith, m.its_statements, w.counted);
        few_statements = w.few_statements;
        paused = omega (arith, w.paused, above_no_pause v, ap (λ (l : List ℕ). length l) m.its_pauses);
        counts = w.counts;
        declared = omega (arith, w.declared, locals_counted o);
        trapped = above_trapped h fits f g p v w.trapped;
        numbered = same_numbered p (above k x p) m.its_pauses (omega (arith, above_no_pause v)) w.numbered;
        small = above_small h fits f g p v w.small;
        scoped = above_scoped h fits f g p v w.scoped;
        path_fits = omega (arith, o.its_path, w.path_fits);
        traps_fit = omega (arith, o.its_traps, w.traps_fit);
        locals_fit = omega (arith, o.its_nested, w.locals_fit);
        next = next_of g o w.next;
      }
  tree f c (at_joined {room = room} {a = a} {r = r} {p = p} {q = q} good v d e) =
      let k = kind_at b r.place in
      let x = operand_at b r.place in
      let g = passes (suc room) b h a r good in
      let m = joined_builds x r.pauses p q v in
      let o = joined_nests x p q v in
      let w = tree (inside_fits h fits f k g) (past_counts h fits f k g c) d in
      let z = tree (inside_fits h fits f k g) w.counts e in
      record {
        ends_at = omega (arith, m.its_bytes, w.ends_at, z.ends_at);
        in_block = z.in_block;
        counted = omega (arith, m.its_statements, w.counted, z.counted);
        few_statements = z.few_statements;
        paused = omega (arith, w.paused, z.paused, joined_no_pause v, ap (λ (l : List ℕ). length l) m.its_pauses, length-append (pauses p) (pauses q));
        counts = z.counts;
        declared = omega (arith, w.declared, z.declared, locals_counted o, length-append (locals p) (locals q));
        trapped = joined_trapped h fits f g p q v w.trapped z.trapped;
        numbered = both_numbered r.pauses _ p q (joined k x p q) m.its_pauses (same_numbered p p refl (omega (arith, joined_no_pause v)) w.numbered) z.numbered
            (omega (arith, w.paused, joined_no_pause v));
        small = joined_small h fits f g p q v w.small z.small;
        scoped = joined_scoped h fits f g p q v w.scoped z.scoped;
        path_fits = omega (arith, o.its_path, w.path_fits, z.path_fits);
        traps_fit = omega (arith, o.its_traps, w.traps_fit, z.traps_fit);
        locals_fit = omega (arith, o.its_nested, w.locals_fit, z.locals_fit);
        next = next_of g o (both_in_row _ _ (locals p) (locals q) w.next z.next (omega (arith, w.declared)));
      }
