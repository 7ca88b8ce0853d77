-- The forms of a statement, started and resumed: one case for each kind. Assumes nothing.
use mathlib.Core.Path.{◌≡◌, refl, sym, ap, ap₂, ◌∙◌, subst, subst₂}
use mathlib.Core.Bool.{Bool, true, false, cond}
use mathlib.Core.List.{List}
use Prim.Native.Nat.{ℕ, ◌+◌, ◌≤◌, ◌<◌}
use native.Mathlib.Omega.{arith}
use lib.Dec.{eqb}
use lib.ListN.{get_or}
use Rattle.sets.specs.Numbers.{Numbers}
use Rattle.rules.specs.Statements.{depth, Stmt, nothing, pause, emit, present?◌then◌else◌, suspend◌on◌, ◌⨾◌, loop, ◌parallel◌, trap, exit, local}
use Rattle.rules.specs.Instant.{done, stay, chain, active, held, started, resumed}
use Rattle.tables.specs.Table.{kind_of, operand_of, statements, Has, Small}
use Rattle.tables.specs.declared.Table.{Table}
use Rattle.tables.proofs.Rows.{has_row, some_statement}
use Rattle.forms.specs.declared.form.Going.{Going}
use Rattle.forms.specs.declared.form.Going.TheVariants.{Started, Resumed, Held, Idle}
use Rattle.forms.specs.declared.form.Task.{Task}
use Rattle.forms.specs.declared.form.Form.{Form}
use Rattle.forms.specs.declared.form.Form.TheVariants.{Done, Stay, Keep, Say, Leave, Test, Catch, Scope, Chain, Beside, Same}
use Rattle.forms.specs.Forms.{At, Placed, Live, step_of, Does, Shows, Under, TasksUnder, task, started_as, resumed_as, form_for, Formed}

-- Every statement has one of the eleven kinds.
pub some_kind : (t : Stmt) → (kind_of t ≡ 16 → ⊥) → (kind_of t ≡ 17 → ⊥) → (kind_of t ≡ 18 → ⊥) → (kind_of t ≡ 19 → ⊥) → (kind_of t ≡ 20 → ⊥) → (kind_of t ≡ 21 → ⊥)
    → (kind_of t ≡ 22 → ⊥) → (kind_of t ≡ 23 → ⊥) → (kind_of t ≡ 24 → ⊥) → (kind_of t ≡ 25 → ⊥) → (kind_of t ≡ 26 → ⊥) → ⊥
unfolding kind_of
some_kind nothing f0 f1 f2 f3 f4 f5 f6 f7 f8 f9 f10 = f0 refl
some_kind (pause n) f0 f1 f2 f3 f4 f5 f6 f7 f8 f9 f10 = f1 refl
some_kind (emit s) f0 f1 f2 f3 f4 f5 f6 f7 f8 f9 f10 = f2 refl
some_kind (present? s then p else q) f0 f1 f2 f3 f4 f5 f6 f7 f8 f9 f10 = f3 refl
some_kind (suspend p on s) f0 f1 f2 f3 f4 f5 f6 f7 f8 f9 f10 = f4 refl
some_kind (p ⨾ q) f0 f1 f2 f3 f4 f5 f6 f7 f8 f9 f10 = f5 refl
some_kind (loop p) f0 f1 f2 f3 f4 f5 f6 f7 f8 f9 f10 = f6 refl
some_kind (p parallel q) f0 f1 f2 f3 f4 f5 f6 f7 f8 f9 f10 = f7 refl
some_kind (trap p) f0 f1 f2 f3 f4 f5 f6 f7 f8 f9 f10 = f8 refl
some_kind (exit d) f0 f1 f2 f3 f4 f5 f6 f7 f8 f9 f10 = f9 refl
some_kind (local s p) f0 f1 f2 f3 f4 f5 f6 f7 f8 f9 f10 = f10 refl

pub in_table : {tab : Table} {i : ℕ} → Placed tab i → i < 512
in_table {i = i} h = omega (arith, h.there.room, some_statement h.tree)

-- A child: it stands at j and is smaller than the statement at i.
pub record Kid (tab : Table) (i j : ℕ) (t : Stmt) : Type 0 where
  pub there : At tab j t
  pub smaller : get_or tab.sizes j 0 < get_or tab.sizes i 0
  pub after : i < j

pub kid_under : {tab : Table} {i j : ℕ} {t : Stmt} (g : Going) → Kid tab i j t → Under tab i (task j g)
kid_under {t = t} g k = record { placed = record { tree = t; there = k.there }; smaller = k.smaller }

pub kid_does : {tab : Table} (A : Numbers) {i j : ℕ} {t : Stmt} (g : Going) → Kid tab i j t → Does tab A (task j g) (step_of g A t)
kid_does A {t = t} g k = record { tree = t; there = k.there; its_step = refl }

-- The second child's place, as the code finds it.
abbrev pub Second : Table → ℕ → ℕ → Type 0
Second tab i n = i + 1 < 512 → n ≡ i + 1 + get_or tab.sizes (i + 1) 0

pub second_at : {tab : Table} (i : ℕ) {n : ℕ} → Second tab i n → (p : Stmt) → At tab (i + 1) p → n ≡ i + 1 + statements p
second_at i f p a = f (in_table (record { tree = p; there = a })) ∙ ap (λ (x : ℕ). i + 1 + x) (has_row p a.has).its_size

first_kid : {tab : Table} {i : ℕ} (m : ℕ) (p : Stmt) → get_or tab.sizes i 0 ≡ m → statements p < m → i + m ≤ 512 → Has tab (i + 1) p → Small p → Kid tab i (i + 1) p
first_kid {tab} {i} m p e l h k s = record {
  there = record { has = k; small = s; room = omega arith };
  smaller = omega (arith, (has_row p k).its_size);
  after = omega arith;
}

-- Both children: all of the first is passed over for the second.
two_kids : {tab : Table} {i n : ℕ} (p q : Stmt) → Second tab i n → get_or tab.sizes i 0 ≡ 1 + statements p + statements q → i + (1 + statements p + statements q) ≤ 512
    → Has tab (i + 1) p → Has tab (i + 1 + statements p) q → Small p → Small q → Kid tab i (i + 1) p × Kid tab i n q
two_kids {tab} {i} {n} p q f e h k g s r =
    let first = first_kid (1 + statements p + statements q) p e (omega (arith, some_statement q)) h k s in (
      first,
      subst (λ (j : ℕ). Kid tab i j q) (sym (second_at i f p first.there)) (record {
        there = record { has = g; small = r; room = omega arith };
        smaller = omega (arith, (has_row q g).its_size);
        after = omega arith;
      }),
    )

-- What is known of a statement's numbers and children.
unfoldable pub Kids : Table → ℕ → ℕ → Stmt → Type 0
Kids tab i n nothing = Unit {0}
Kids tab i n (pause m) = m < 128
Kids tab i n (emit s) = s < 64
Kids tab i n (present? s then p else q) = (s < 64) × Kid tab i (i + 1) p × Kid tab i n q
Kids tab i n (suspend p on s) = (s < 64) × Kid tab i (i + 1) p
Kids tab i n (p ⨾ q) = Kid tab i (i + 1) p × Kid tab i n q
Kids tab i n (loop p) = Kid tab i (i + 1) p
Kids tab i n (p parallel q) = Kid tab i (i + 1) p × Kid tab i n q
Kids tab i n (trap p) = Kid tab i (i + 1) p
Kids tab i n (exit (depth d)) = d < 16
Kids tab i n (local s p) = (s < 64) × Kid tab i (i + 1) p

pub kids : {tab : Table} {i n : ℕ} → Second tab i n → (t : Stmt) → At tab i t → Kids tab i n t
unfolding Kids Has Small statements
kids f nothing h = tt
kids f (pause m) h = h.small
kids f (emit s) h = h.small
kids f (present? s then p else q) h = let k = two_kids p q f h.has.0.its_size h.room h.has.1 h.has.2 h.small.1 h.small.2 in (h.small.0, k.0, k.1)
kids f (suspend p on s) h = (h.small.0, first_kid (1 + statements p) p h.has.0.its_size (omega arith) h.room h.has.1 h.small.1)
kids f (p ⨾ q) h = two_kids p q f h.has.0.its_size h.room h.has.1 h.has.2 h.small.0 h.small.1
kids f (loop p) h = first_kid (1 + statements p) p h.has.0.its_size (omega arith) h.room h.has.1 h.small
kids f (p parallel q) h = two_kids p q f h.has.0.its_size h.room h.has.1 h.has.2 h.small.0 h.small.1
kids f (trap p) h = first_kid (1 + statements p) p h.has.0.its_size (omega arith) h.room h.has.1 h.small
kids f (exit (depth d)) h = h.small
kids f (local s p) h = (h.small.0, first_kid (1 + statements p) p h.has.0.its_size (omega arith) h.room h.has.1 h.small.1)

-- Started: the form by kind and operand.
abbrev pub started_form : ℕ → ℕ → Task → Task → Form
started_form k o p q =
    cond (eqb k 17) (Stay o)
    (cond (eqb k 18) (Say o)
    (cond (eqb k 19) (Test o p q)
    (cond (eqb k 20) (Same p)
    (cond (eqb k 21) (Chain p q)
    (cond (eqb k 22) (Same p)
    (cond (eqb k 23) (Beside p q) (cond (eqb k 24) (Catch p) (cond (eqb k 25) (Leave (record { 0 = o })) (cond (eqb k 26) (Scope o p) Done)))))))))

module _ (tab : Table) (i n : ℕ) where
  started_shows : (A : Numbers) (t : Stmt) → Kids tab i n t → Shows tab A (started_form (kind_of t) (operand_of t) (task (i + 1) Started) (task n Started)) (started t)
  unfolding Kids Shows kind_of operand_of started step_of
  started_shows A nothing k = refl
  started_shows A (pause m) k = (k, refl)
  started_shows A (emit s) k = (k, refl)
  started_shows A (present? s then p else q) k =
      (k.0, record { first = started p; later = started q; made = refl; left = kid_does A Started k.1; right = kid_does A Started k.2 })
  started_shows A (suspend p on s) k = kid_does A Started k.1
  started_shows A (p ⨾ q) k = record { first = started p; later = started q; made = refl; left = kid_does A Started k.0; right = kid_does A Started k.1 }
  started_shows A (loop p) k = kid_does A Started k
  started_shows A (p parallel q) k = record { first = started p; later = started q; made = refl; left = kid_does A Started k.0; right = kid_does A Started k.1 }
  started_shows A (trap p) k = record { inner = started p; made = refl; does = kid_does A Started k }
  started_shows A (exit (depth d)) k = (k, refl)
  started_shows A (local s p) k = (k.0, record { inner = started p; made = refl; does = kid_does A Started k.1 })

  started_under : (t : Stmt) → Kids tab i n t → TasksUnder tab i (started_form (kind_of t) (operand_of t) (task (i + 1) Started) (task n Started))
  unfolding Kids TasksUnder kind_of operand_of
  started_under nothing k = tt
  started_under (pause m) k = tt
  started_under (emit s) k = tt
  started_under (present? s then p else q) k = (kid_under Started k.1, kid_under Started k.2)
  started_under (suspend p on s) k = kid_under Started k.1
  started_under (p ⨾ q) k = (kid_under Started k.0, kid_under Started k.1)
  started_under (loop p) k = kid_under Started k
  started_under (p parallel q) k = (kid_under Started k.0, kid_under Started k.1)
  started_under (trap p) k = kid_under Started k
  started_under (exit (depth d)) k = tt
  started_under (local s p) k = kid_under Started k.1

  started_is : Second tab i n → (t : Stmt) → Kids tab i n t → started_form (kind_of t) (operand_of t) (task (i + 1) Started) (task n Started) ≡ started_as i t
  unfolding started_as Kids kind_of operand_of
  started_is f nothing k = refl
  started_is f (pause m) k = refl
  started_is f (emit s) k = refl
  started_is f (present? s then p else q) k = ap (λ (j : ℕ). Test s (task (i + 1) Started) (task j Started)) (second_at i f p k.1.there)
  started_is f (suspend p on s) k = refl
  started_is f (p ⨾ q) k = ap (λ (j : ℕ). Chain (task (i + 1) Started) (task j Started)) (second_at i f p k.0.there)
  started_is f (loop p) k = refl
  started_is f (p parallel q) k = ap (λ (j : ℕ). Beside (task (i + 1) Started) (task j Started)) (second_at i f p k.0.there)
  started_is f (trap p) k = refl
  started_is f (exit (depth d)) k = refl
  started_is f (local s p) k = refl

-- The code's arm for the kind k.
pub started_formed : {tab : Table} {i n : ℕ} → Placed tab i → Second tab i n → (k : ℕ) → get_or tab.kinds i 0 ≡ k → (live : List Bool)
    → Formed tab live (task i Started) (started_form k (get_or tab.operands i 0) (task (i + 1) Started) (task n Started))
unfolding step_of form_for
started_formed {tab} {i} {n} pl f k e live = record {
  tasks_under = subst₂ (λ (x y : ℕ). TasksUnder tab i (started_form x y (task (i + 1) Started) (task n Started)))
      (sym (has_row pl.tree pl.there.has).its_kind ∙ e) (sym (has_row pl.tree pl.there.has).its_operand)
      (started_under tab i n pl.tree (kids f pl.tree pl.there));
  shows = λ A l p d.
      subst (Shows tab A (started_form k (get_or tab.operands i 0) (task (i + 1) Started) (task n Started))) (sym d.its_step)
      (subst₂ (λ (x y : ℕ). Shows tab A (started_form x y (task (i + 1) Started) (task n Started)) (started d.tree))
      (sym (has_row d.tree d.there.has).its_kind ∙ e) (sym (has_row d.tree d.there.has).its_operand)
      (started_shows tab i n A d.tree (kids f d.tree d.there)));
  is_it = λ A l t h.
      subst₂ (λ (x y : ℕ). started_form x y (task (i + 1) Started) (task n Started) ≡ started_as i t)
      (sym (has_row t h.has).its_kind ∙ e) (sym (has_row t h.has).its_operand) (started_is tab i n f t (kids f t h));
}

-- Resumed.
abbrev pub arm_task : Bool → ℕ → Task
arm_task b j = record { at = j; going = cond b Resumed Idle }

abbrev pub resumed_form : ℕ → ℕ → ℕ → ℕ → Bool → Bool → Form
resumed_form k o i n lp lq =
    cond (eqb k 19) (Same (cond lp (task (i + 1) Resumed) (task n Resumed)))
    (cond (eqb k 20) (Test o (task (i + 1) Held) (task (i + 1) Resumed))
    (cond (eqb k 21) (cond lp (Chain (task (i + 1) Resumed) (task n Started)) (Same (task n Resumed)))
    (cond (eqb k 22) (Chain (task (i + 1) Resumed) (task (i + 1) Started))
    (cond (eqb k 23) (Beside (arm_task lp (i + 1)) (arm_task lq n))
    (cond (eqb k 24) (Catch (task (i + 1) Resumed)) (cond (eqb k 26) (Scope o (task (i + 1) Resumed)) Done))))))

-- What the code's two flags say of the children.
pub record Flags (tab : Table) (A : Numbers) (i n : ℕ) (lp lq : Bool) : Type 0 where
  pub on_first : (p : Stmt) → At tab (i + 1) p → lp ≡ active A p
  pub on_next : (q : Stmt) → i < n → At tab n q → lq ≡ active A q

module _ (tab : Table) (i n : ℕ) where
  either_does : (A : Numbers) (b : Bool) {p q : Stmt} → Kid tab i (i + 1) p → Kid tab i n q
      → Does tab A (cond b (task (i + 1) Resumed) (task n Resumed)) (cond b (resumed A p) (resumed A q))
  unfolding step_of
  either_does A true k l = kid_does A Resumed k
  either_does A false k l = kid_does A Resumed l

  either_chain : (A : Numbers) (b : Bool) (p q : Stmt) → Kid tab i (i + 1) p → Kid tab i n q
      → Shows tab A (cond b (Chain (task (i + 1) Resumed) (task n Started)) (Same (task n Resumed)))
      (cond b (chain (resumed A p) (started q)) (resumed A q))
  unfolding Shows step_of
  either_chain A true p q k l = record { first = resumed A p; later = started q; made = refl; left = kid_does A Resumed k; right = kid_does A Started l }
  either_chain A false p q k l = kid_does A Resumed l

  arm_does : (A : Numbers) (b : Bool) {j : ℕ} {p : Stmt} → Kid tab i j p → Does tab A (arm_task b j) (cond b (resumed A p) done)
  unfolding step_of
  arm_does A true k = kid_does A Resumed k
  arm_does A false k = kid_does A Idle k

  resumed_shows : (A : Numbers) (lp lq : Bool) → Flags tab A i n lp lq → (t : Stmt) → Kids tab i n t → Shows tab A (resumed_form (kind_of t) (operand_of t) i n lp lq) (resumed A t)
  unfolding Kids Shows kind_of operand_of resumed step_of
  resumed_shows A lp lq f nothing k = refl
  resumed_shows A lp lq f (pause m) k = refl
  resumed_shows A lp lq f (emit s) k = refl
  resumed_shows A lp lq f (present? s then p else q) k =
      subst (λ (b : Bool). Does tab A (cond lp (task (i + 1) Resumed) (task n Resumed)) (cond b (resumed A p) (resumed A q)))
      (f.on_first p k.1.there) (either_does A lp k.1 k.2)
  resumed_shows A lp lq f (suspend p on s) k =
      (k.0, record { first = stay (held A p); later = resumed A p; made = refl; left = kid_does A Held k.1; right = kid_does A Resumed k.1 })
  resumed_shows A lp lq f (p ⨾ q) k =
      subst (λ (b : Bool). Shows tab A (resumed_form 21 0 i n lp lq) (cond b (chain (resumed A p) (started q)) (resumed A q)))
      (f.on_first p k.0.there) (either_chain A lp p q k.0 k.1)
  resumed_shows A lp lq f (loop p) k = record { first = resumed A p; later = started p; made = refl; left = kid_does A Resumed k; right = kid_does A Started k }
  resumed_shows A lp lq f (p parallel q) k = record {
    first = cond (active A p) (resumed A p) done;
    later = cond (active A q) (resumed A q) done;
    made = refl;
    left = subst (λ (b : Bool). Does tab A (arm_task lp (i + 1)) (cond b (resumed A p) done)) (f.on_first p k.0.there) (arm_does A lp k.0);
    right = subst (λ (b : Bool). Does tab A (arm_task lq n) (cond b (resumed A q) done)) (f.on_next q k.1.after k.1.there) (arm_does A lq k.1);
  }
  resumed_shows A lp lq f (trap p) k = record { inner = resumed A p; made = refl; does = kid_does A Resumed k }
  resumed_shows A lp lq f (exit (depth d)) k = refl
  resumed_shows A lp lq f (local s p) k = (k.0, record { inner = resumed A p; made = refl; does = kid_does A Resumed k.1 })

  either_under : (b : Bool) {p q : Stmt} → Kid tab i (i + 1) p → Kid tab i n q → Under tab i (cond b (task (i + 1) Resumed) (task n Resumed))
  either_under true k l = kid_under Resumed k
  either_under false k l = kid_under Resumed l

  chain_under : (b : Bool) {p q : Stmt} → Kid tab i (i + 1) p → Kid tab i n q
      → TasksUnder tab i (cond b (Chain (task (i + 1) Resumed) (task n Started)) (Same (task n Resumed)))
  unfolding TasksUnder
  chain_under true k l = (kid_under Resumed k, kid_under Started l)
  chain_under false k l = kid_under Resumed l

  resumed_under : (lp lq : Bool) (t : Stmt) → Kids tab i n t → TasksUnder tab i (resumed_form (kind_of t) (operand_of t) i n lp lq)
  unfolding Kids TasksUnder kind_of operand_of
  resumed_under lp lq nothing k = tt
  resumed_under lp lq (pause m) k = tt
  resumed_under lp lq (emit s) k = tt
  resumed_under lp lq (present? s then p else q) k = either_under lp k.1 k.2
  resumed_under lp lq (suspend p on s) k = (kid_under Held k.1, kid_under Resumed k.1)
  resumed_under lp lq (p ⨾ q) k = chain_under lp k.0 k.1
  resumed_under lp lq (loop p) k = (kid_under Resumed k, kid_under Started k)
  resumed_under lp lq (p parallel q) k = (kid_under (cond lp Resumed Idle) k.0, kid_under (cond lq Resumed Idle) k.1)
  resumed_under lp lq (trap p) k = kid_under Resumed k
  resumed_under lp lq (exit (depth d)) k = tt
  resumed_under lp lq (local s p) k = kid_under Resumed k.1

  resumed_is : (A : Numbers) (lp lq : Bool) → Flags tab A i n lp lq → Second tab i n → (t : Stmt) → Kids tab i n t
      → resumed_form (kind_of t) (operand_of t) i n lp lq ≡ resumed_as A i t
  unfolding resumed_as Kids kind_of operand_of
  resumed_is A lp lq f g nothing k = refl
  resumed_is A lp lq f g (pause m) k = refl
  resumed_is A lp lq f g (emit s) k = refl
  resumed_is A lp lq f g (present? s then p else q) k =
      ap₂ (λ (b : Bool) (j : ℕ). Same (cond b (task (i + 1) Resumed) (task j Resumed))) (f.on_first p k.1.there) (second_at i g p k.1.there)
  resumed_is A lp lq f g (suspend p on s) k = refl
  resumed_is A lp lq f g (p ⨾ q) k =
      ap₂ (λ (b : Bool) (j : ℕ). cond b (Chain (task (i + 1) Resumed) (task j Started)) (Same (task j Resumed))) (f.on_first p k.0.there) (second_at i g p k.0.there)
  resumed_is A lp lq f g (loop p) k = refl
  resumed_is A lp lq f g (p parallel q) k =
      ap₂ (λ (b c : Bool). Beside (arm_task b (i + 1)) (arm_task c n)) (f.on_first p k.0.there) (f.on_next q k.1.after k.1.there)
      ∙ ap (λ (j : ℕ). Beside (arm_task (active A p) (i + 1)) (arm_task (active A q) j)) (second_at i g p k.0.there)
  resumed_is A lp lq f g (trap p) k = refl
  resumed_is A lp lq f g (exit (depth d)) k = refl
  resumed_is A lp lq f g (local s p) k = refl

pub resumed_formed : {tab : Table} {i n : ℕ} → Placed tab i → Second tab i n → {live : List Bool} {lp lq : Bool}
    → (i + 1 < 512 → lp ≡ get_or live (i + 1) false) → (n < 512 → lq ≡ get_or live n false) → (k : ℕ) → get_or tab.kinds i 0 ≡ k
    → Formed tab live (task i Resumed) (resumed_form k (get_or tab.operands i 0) i n lp lq)
unfolding step_of form_for
resumed_formed {tab} {i} {n} pl f {live} {lp} {lq} g h k e = record {
  tasks_under = subst₂ (λ (x y : ℕ). TasksUnder tab i (resumed_form x y i n lp lq))
      (sym (has_row pl.tree pl.there.has).its_kind ∙ e) (sym (has_row pl.tree pl.there.has).its_operand)
      (resumed_under tab i n lp lq pl.tree (kids f pl.tree pl.there));
  shows = λ A l p d.
      subst (Shows tab A (resumed_form k (get_or tab.operands i 0) i n lp lq)) (sym d.its_step)
      (subst₂ (λ (x y : ℕ). Shows tab A (resumed_form x y i n lp lq) (resumed A d.tree))
      (sym (has_row d.tree d.there.has).its_kind ∙ e) (sym (has_row d.tree d.there.has).its_operand)
      (resumed_shows tab i n A lp lq (flags A l) d.tree (kids f d.tree d.there)));
  is_it = λ A l t b.
      subst₂ (λ (x y : ℕ). resumed_form x y i n lp lq ≡ resumed_as A i t)
      (sym (has_row t b.has).its_kind ∙ e) (sym (has_row t b.has).its_operand) (resumed_is tab i n A lp lq (flags A l) f t (kids f t b));
}
  where
    flags : (A : Numbers) → Live tab A live → Flags tab A i n lp lq
    flags A l = record {
      on_first = λ p a. g (in_table (record { tree = p; there = a })) ∙ l.says (i + 1) p a;
      on_next = λ q b a. h (in_table (record { tree = q; there = a })) ∙ l.says n q a;
    }

-- The kinds that have nothing to do when resumed.
pub resumed_done : (A : Numbers) (i : ℕ) (t : Stmt) → (kind_of t ≡ 19 → ⊥) → (kind_of t ≡ 20 → ⊥) → (kind_of t ≡ 21 → ⊥) → (kind_of t ≡ 22 → ⊥)
    → (kind_of t ≡ 23 → ⊥) → (kind_of t ≡ 24 → ⊥) → (kind_of t ≡ 26 → ⊥) → (resumed A t ≡ done) × (Done ≡ resumed_as A i t)
unfolding resumed resumed_as kind_of
resumed_done A i nothing a b c d e f g = (refl, refl)
resumed_done A i (pause m) a b c d e f g = (refl, refl)
resumed_done A i (emit s) a b c d e f g = (refl, refl)
resumed_done A i (present? s then p else q) a b c d e f g = absurd (a refl)
resumed_done A i (suspend p on s) a b c d e f g = absurd (b refl)
resumed_done A i (p ⨾ q) a b c d e f g = absurd (c refl)
resumed_done A i (loop p) a b c d e f g = absurd (d refl)
resumed_done A i (p parallel q) a b c d e f g = absurd (e refl)
resumed_done A i (trap p) a b c d e f g = absurd (f refl)
resumed_done A i (exit x) a b c d e f g = (refl, refl)
resumed_done A i (local s p) a b c d e f g = absurd (g refl)

pub done_formed : {tab : Table} {live : List Bool} {c : Task}
    → ((A : Numbers) (t : Stmt) → At tab c.at t → (step_of c.going A t ≡ done) × (Done ≡ form_for c.going A c.at t)) → Formed tab live c Done
unfolding TasksUnder Shows
done_formed f = record { tasks_under = tt; shows = λ A l p d. d.its_step ∙ (f A d.tree d.there).0; is_it = λ A l t h. (f A t h).1 }

pub idle_formed : {tab : Table} {live : List Bool} (c : Task) → c.going ≡ Idle → Formed tab live c Done
unfolding step_of form_for
idle_formed c e = done_formed (λ A t h. (ap (λ (g : Going). step_of g A t) e, ap (λ (g : Going). form_for g A c.at t) (sym e)))

pub going_formed : {tab : Table} {live : List Bool} (c : Task) (g : Going) (f : Form) → c.going ≡ g → Formed tab live (task c.at g) f → Formed tab live c f
going_formed {tab} {live} c g f e h = subst (λ (x : Going). Formed tab live (task c.at x) f) (sym e) h

pub keep_formed : {tab : Table} {live : List Bool} (c : Task) → Placed tab c.at → c.going ≡ Held → Formed tab live c (Keep c.at)
unfolding TasksUnder Shows step_of form_for
keep_formed c pl e = record {
  tasks_under = pl;
  shows = λ A l p d. record { tree = d.tree; there = d.there; made = d.its_step ∙ ap (λ (g : Going). step_of g A d.tree) e };
  is_it = λ A l t h. ap (λ (g : Going). form_for g A c.at t) (sym e);
}

pub formed : {tab : Table} {live : List Bool} {c : Task} {f g : Form} → Formed tab live c f → f ≡ g → Formed tab live c g
formed {tab} {live} {c} h e = subst (Formed tab live c) e h

-- The tasks of a form are placed, and smaller.
module _ {tab : Table} {live : List Bool} {c : Task} {f : Form} (h : Formed tab live c f) where
  pub under_test : {s : ℕ} {p q : Task} → f ≡ Test s p q → Under tab c.at p × Under tab c.at q
  unfolding TasksUnder
  under_test e = (formed h e).tasks_under

  pub under_catch : {p : Task} → f ≡ Catch p → Under tab c.at p
  unfolding TasksUnder
  under_catch e = (formed h e).tasks_under

  pub under_scope : {s : ℕ} {p : Task} → f ≡ Scope s p → Under tab c.at p
  unfolding TasksUnder
  under_scope e = (formed h e).tasks_under

  pub under_chain : {p q : Task} → f ≡ Chain p q → Under tab c.at p × Under tab c.at q
  unfolding TasksUnder
  under_chain e = (formed h e).tasks_under

  pub under_beside : {p q : Task} → f ≡ Beside p q → Under tab c.at p × Under tab c.at q
  unfolding TasksUnder
  under_beside e = (formed h e).tasks_under

  pub under_same : {p : Task} → f ≡ Same p → Under tab c.at p
  unfolding TasksUnder
  under_same e = (formed h e).tasks_under

  pub placed_keep : {i : ℕ} → f ≡ Keep i → Placed tab i
  unfolding TasksUnder
  placed_keep e = (formed h e).tasks_under

-- A call on a task that is smaller.
pub call_task : {tab : Table} {i t : ℕ} {p : Task} → Under tab i p → get_or tab.sizes i 0 ≡ t → (get_or tab.sizes p.at 0 < t) × Placed tab p.at
call_task u e = (omega (arith, u.smaller), u.placed)
