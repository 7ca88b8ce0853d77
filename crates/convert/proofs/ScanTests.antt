-- A record of edition 2 is tested as one of a kind of edition 1: at each of the fifteen kinds by computation, and at every other number by its length. Assumes nothing.
use mathlib.Core.Path.{◌≡◌, refl, sym, ◌∙◌, ap, subst}
use mathlib.Core.Logic.{⊎_elim}
use mathlib.Core.Bool.{Bool, true, false, not, cond, ◌||◌}
use mathlib.Core.List.{List}
use mathlib.Core.Option.{Option, none, some}
use Prim.Native.Nat.{ℕ, zero, suc, ◌+◌, ◌≤◌, ◌<◌}
use native.Mathlib.Nat.{add-zero}
use native.Mathlib.Numerals.{add-one}
use native.Mathlib.Omega.{arith}
use lib.Dec.{eqb, leb, lit≤}
use lib.ListN.{length}
use borrow.Author.Tests.{ne_eqb, lt-leb, le-leb, leb-false}
use Rattle.std.specs.Prelude.{Option as Answer, Some, Result, Err}
use Rattle.refusals.specs.Refusals.{number, why_of}
use Rattle.refusals.specs.declared.Why.TheVariants.{Shape as ShapeFault}
use Rattle.refusals.specs.declared.Refused.{Refused}
use Rattle.refusals.proofs.Laws.{number_back, of_a_block}
use Rattle.sets.specs.Numbers.{listed, union, single}
use Rattle.tables.specs.Kinds.{shape, wide_shape, length_of}
use Rattle.tables.specs.declared.kinds.Shape.{Shape}
use Rattle.tables.proofs.Shapes.{no_length}
use Rattle.block.specs.Format.{Header, Sofar, Around as Surroundings, kind_at, operand_at, length_at, is_broken, over_limit, wrong_signal, wrong_exit, fault_as, past, inside}
use Rattle.block.specs.Told.{tested as answered}
use Rattle.block.proofs.Tests.{or_false}
use Rattle.block.proofs.Views.{Kind, leafs, aboves, joins, a_nothing, a_pause, an_emit, an_exit, a_suspend, a_loop, a_trap, a_local, a_present, a_sequence, a_parallel, shape?}
use Rattle.block.proofs.Passes.{broken_none}
use Rattle.everyday.specs.Statements.{Around}
use Rattle.converting.specs.Format.{Sort, of_none, of_one, of_two, sort_of, has_operand, record_length, over_limit₂, wrong_signal₂, wrong_exit₂, Due, at_fault, stands, sorted, due, past₂, inside₂}
use Rattle.converting.proofs.Sorts.{IsSort, sort_seen, is_nothing, is_pause, is_emit, is_present, is_suspend, is_sequence, is_loop, is_parallel, is_trap, is_exit}
use Rattle.converting.proofs.Sorts.{is_local, is_halt, is_sustain, is_await, is_abort}
use Rattle.convert.specs.Scans.{tested_as, fault_of, FaultTold}

-- How many statements stand below, and what stands around them.
abbrev pub children_in : Sort → ℕ
children_in (of_none l) = 0
children_in (of_one f) = 1
children_in (of_two o) = 2

abbrev pub below : Sort → Surroundings → Surroundings
below (of_none l) a = a
below (of_one f) a = inside₂ f a
below (of_two o) a = a

abbrev shape_in : Sort → Answer Shape
shape_in s = Some (record { length = record_length s; operands = cond (has_operand s) 1 0; children = children_in s })

-- The tests of a record of kind k and operand x, and what it counts, are those of its likeness.
pub record Tested (k x : ℕ) (s : Sort) : Type 0 where
  pub its_length : record_length s ≡ length_of (tested_as k)
  pub its_limit : (room : ℕ) (a : Surroundings) (r : Sofar) → over_limit₂ room a r s ≡ over_limit room a r (tested_as k)
  pub its_signal : (h : Header) (a : Surroundings) (r : Sofar) → wrong_signal₂ h a r s ≡ wrong_signal h a r (tested_as k) x
  pub its_exit : (a : Surroundings) → wrong_exit₂ a s ≡ wrong_exit a (tested_as k) x
  pub its_past : (r : Sofar) → past₂ s r ≡ past (tested_as k) r
  pub its_inside : (a : Surroundings) → below s a ≡ inside (tested_as k) x a
  pub its_shape : wide_shape k ≡ shape_in s

unchanged : (a : Surroundings) → a ≡ record { traps = a.traps + 0; nested = a.nested + 0; scope = a.scope }
unchanged a = λ i. record { traps = sym (add-zero a.traps) i; nested = sym (add-zero a.nested) i; scope = a.scope }

one_trap : (a : Surroundings) → inside₂ (Around.trap) a ≡ record { traps = a.traps + 1; nested = a.nested + 0; scope = a.scope }
one_trap a = λ i. record { traps = sym (add-one a.traps) i; nested = sym (add-zero a.nested) i; scope = a.scope }

one_local : (x : ℕ) (a : Surroundings) → inside₂ (Around.local x) a ≡ record { traps = a.traps + 0; nested = a.nested + 1; scope = union (single x) a.scope }
one_local x a = λ i. record { traps = sym (add-zero a.traps) i; nested = sym (add-one a.nested) i; scope = union (single x) a.scope }

own_limit_is : (room : ℕ) (r : Sofar) (z : Bool) → (eqb room 0 || (leb 512 r.statements || z)) ≡ (eqb room 0 || (leb 512 r.statements || (z || false)))
own_limit_is room r z = ap (λ (y : Bool). eqb room 0 || (leb 512 r.statements || y)) (sym (or_false z))

as_its_likeness : {k x : ℕ} {s : Sort} → record_length s ≡ length_of (tested_as k) → ((room : ℕ) (a : Surroundings) (r : Sofar) → over_limit₂ room a r s ≡ over_limit room a r (tested_as k))
    → ((h : Header) (a : Surroundings) (r : Sofar) → wrong_signal₂ h a r s ≡ wrong_signal h a r (tested_as k) x) → ((a : Surroundings) → wrong_exit₂ a s ≡ wrong_exit a (tested_as k) x)
    → ((r : Sofar) → past₂ s r ≡ past (tested_as k) r) → ((a : Surroundings) → below s a ≡ inside (tested_as k) x a) → wide_shape k ≡ shape_in s → Tested k x s
as_its_likeness l m g e p i w = record { its_length = l; its_limit = m; its_signal = g; its_exit = e; its_past = p; its_inside = i; its_shape = w }

pub tested : {k x : ℕ} {s : Sort} → IsSort k x s → Tested k x s
unfolding tested_as length_of shape wide_shape listed over_limit₂ over_limit wrong_signal wrong_exit past inside
tested is_nothing = as_its_likeness refl (λ room a r. refl) (λ h a r. refl) (λ a. refl) (λ r. refl) unchanged refl
tested is_pause = as_its_likeness refl (λ room a r. own_limit_is room r _) (λ h a r. refl) (λ a. refl) (λ r. refl) unchanged refl
tested is_emit = as_its_likeness refl (λ room a r. refl) (λ h a r. sym (or_false _)) (λ a. refl) (λ r. refl) unchanged refl
tested is_present = as_its_likeness refl (λ room a r. refl) (λ h a r. sym (or_false _)) (λ a. refl) (λ r. refl) unchanged refl
tested is_suspend = as_its_likeness refl (λ room a r. refl) (λ h a r. sym (or_false _)) (λ a. refl) (λ r. refl) unchanged refl
tested is_sequence = as_its_likeness refl (λ room a r. refl) (λ h a r. refl) (λ a. refl) (λ r. refl) unchanged refl
tested is_loop = as_its_likeness refl (λ room a r. refl) (λ h a r. refl) (λ a. refl) (λ r. refl) unchanged refl
tested is_parallel = as_its_likeness refl (λ room a r. refl) (λ h a r. refl) (λ a. refl) (λ r. refl) unchanged refl
tested is_trap = as_its_likeness refl (λ room a r. own_limit_is room r _) (λ h a r. refl) (λ a. refl) (λ r. refl) one_trap refl
tested is_exit = as_its_likeness refl (λ room a r. refl) (λ h a r. refl) (λ a. refl) (λ r. refl) unchanged refl
tested (is_local {x = x}) = as_its_likeness refl (λ room a r. refl) (λ h a r. refl) (λ a. refl) (λ r. refl) (one_local x) refl
tested is_halt = as_its_likeness refl (λ room a r. refl) (λ h a r. refl) (λ a. refl) (λ r. refl) unchanged refl
tested is_sustain = as_its_likeness refl (λ room a r. refl) (λ h a r. sym (or_false _)) (λ a. refl) (λ r. refl) unchanged refl
tested is_await = as_its_likeness refl (λ room a r. refl) (λ h a r. sym (or_false _)) (λ a. refl) (λ r. refl) unchanged refl
tested is_abort = as_its_likeness refl (λ room a r. refl) (λ h a r. sym (or_false _)) (λ a. refl) (λ r. refl) unchanged refl

-- The shape that the code has in hand.
pub record Shaped₂ (k : ℕ) (s : Sort) (c : Shape) : Type 0 where
  pub length_is : c.length ≡ length_of (tested_as k)
  pub children_are : c.children ≡ children_in s

pub shaped₂ : {k x : ℕ} {s : Sort} {c : Shape} → IsSort k x s → wide_shape k ≡ Some c → Shaped₂ k s c
shaped₂ {k} {x} {s} {c} v e =
    let t = tested v in
    let f : shape_in s ≡ Some c = sym t.its_shape ∙ e in
    let l : record_length s ≡ c.length = cc in
    let n : children_in s ≡ c.children = cc in
    record { length_is = sym l ∙ t.its_length; children_are = sym n }

-- A number that is no kind of edition 2 has no length.
some_not : {A P : Type 0} {y : A} → some y ≡ none → P
some_not e = let z : ◌≡◌ {A = ℕ} 0 1 = cc in absurd (omega arith)

old_kind : {k : ℕ} (x : ℕ) → Kind k → sort_of k x ≡ none → ⊥
unfolding sort_of
old_kind x (leafs a_nothing) e = some_not e
old_kind x (leafs a_pause) e = some_not e
old_kind x (leafs an_emit) e = some_not e
old_kind x (leafs an_exit) e = some_not e
old_kind x (aboves a_suspend) e = some_not e
old_kind x (aboves a_loop) e = some_not e
old_kind x (aboves a_trap) e = some_not e
old_kind x (aboves a_local) e = some_not e
old_kind x (joins a_present) e = some_not e
old_kind x (joins a_sequence) e = some_not e
old_kind x (joins a_parallel) e = some_not e

new_kind : (k m x : ℕ) → (sort_of m x ≡ none → ⊥) → sort_of k x ≡ none → k ≡ m → ⊥
new_kind k m x f e q = f (ap (λ (j : ℕ). sort_of j x) (sym q) ∙ e)

pub tested_plain : (k : ℕ) → (k ≡ 32 → ⊥) → (k ≡ 33 → ⊥) → (k ≡ 34 → ⊥) → (k ≡ 35 → ⊥) → tested_as k ≡ k
unfolding tested_as
tested_plain k a b c d = simp (ne_eqb k 32 a, ne_eqb k 33 b, ne_eqb k 34 c, ne_eqb k 35 d)

pub no_sort : (k x : ℕ) → sort_of k x ≡ none → length_of (tested_as k) ≡ 0
unfolding sort_of
no_sort k x e =
    let as_it_is = tested_plain k (new_kind k 32 x some_not e) (new_kind k 33 x some_not e) (new_kind k 34 x some_not e) (new_kind k 35 x some_not e) in
    ⊎_elim (λ v. absurd (old_kind x v e)) (λ n. ap length_of as_it_is ∙ no_length k n) (shape? k)

-- What a due record is: at fault with a number from 1 to 7, or what stands there.
pub data Seen (room : ℕ) (b : List ℕ) (h : Header) (a : Surroundings) (r : Sofar) : Type 0 where
  seen_fault : (n : ℕ) → due room b h a r ≡ at_fault (suc n) → n ≤ 7 → Seen room b h a r
  seen : (s : Sort) → due room b h a r ≡ stands s → r.place < length b → IsSort (kind_at b r.place) (operand_at b r.place) s → Seen room b h a r

module _ (room : ℕ) (b : List ℕ) (h : Header) (a : Surroundings) (r : Sofar) where
  abbrev k : ℕ
  k = kind_at b r.place

  abbrev x : ℕ
  x = operand_at b r.place

  abbrev len : ℕ
  len = length_at b r.place

  -- The tests after the one of the length, and all that come after the one for the end.
  abbrev tests_of : Sort → Due
  tests_of s = cond (over_limit₂ room a r s) (at_fault 4) (cond (wrong_signal₂ h a r s) (at_fault 5) (cond (wrong_exit₂ a s) (at_fault 6) (stands s)))

  abbrev if_left : Due
  if_left = cond (is_broken b r.place) (at_fault 1) (sorted room h a r len (sort_of k x))

  pub due? : Seen room b h a r
  unfolding due
  due? = ended (leb (length b) r.place) refl
    where
      standing : (s : Sort) → sort_of k x ≡ some s → r.place < length b → due room b h a r ≡ sorted room h a r len (some s) → Seen room b h a r
      standing s e l q = one (not (eqb (record_length s) len)) refl
        where
          four : (z : Bool) → wrong_exit₂ a s ≡ z → due room b h a r ≡ cond z (at_fault 6) (stands s) → Seen room b h a r
          four true _ d = seen_fault 5 d (lit≤ tt)
          four false _ d = seen s d l (sort_seen k x s e)

          three : (z : Bool) → wrong_signal₂ h a r s ≡ z → due room b h a r ≡ cond z (at_fault 5) (cond (wrong_exit₂ a s) (at_fault 6) (stands s)) → Seen room b h a r
          three true _ d = seen_fault 4 d (lit≤ tt)
          three false _ d = four (wrong_exit₂ a s) refl d

          two : (z : Bool) → over_limit₂ room a r s ≡ z
              → due room b h a r ≡ cond z (at_fault 4) (cond (wrong_signal₂ h a r s) (at_fault 5) (cond (wrong_exit₂ a s) (at_fault 6) (stands s))) → Seen room b h a r
          two true _ d = seen_fault 3 d (lit≤ tt)
          two false _ d = three (wrong_signal₂ h a r s) refl d

          one : (z : Bool) → not (eqb (record_length s) len) ≡ z → Seen room b h a r
          one true f = seen_fault 1 (q ∙ ap (λ (z : Bool). cond z (at_fault 2) (tests_of s)) f) (lit≤ tt)
          one false f = two (over_limit₂ room a r s) refl (q ∙ ap (λ (z : Bool). cond z (at_fault 2) (tests_of s)) f)

      sorts : (o : Option Sort) → sort_of k x ≡ o → r.place < length b → due room b h a r ≡ sorted room h a r len o → Seen room b h a r
      sorts none e l q = seen_fault 1 q (lit≤ tt)
      sorts (some s) e l q = standing s e l q

      whole : (z : Bool) → is_broken b r.place ≡ z → r.place < length b → due room b h a r ≡ cond z (at_fault 1) (sorted room h a r len (sort_of k x)) → Seen room b h a r
      whole true e l q = seen_fault 0 q (lit≤ tt)
      whole false e l q = sorts (sort_of k x) refl l q

      ended : (z : Bool) → leb (length b) r.place ≡ z → Seen room b h a r
      ended true e = seen_fault 6 (ap (λ (z : Bool). cond z (at_fault 7) if_left) e) (lit≤ tt)
      ended false e =
          whole (is_broken b r.place) refl (leb-false (length b) r.place e) (ap (λ (z : Bool). cond z (at_fault 7) if_left) e)

  -- The number that it gets is the one that it gets as its likeness.
  tests_chain : (p q s t : Bool) (w : Sort) → fault_of (cond p (at_fault 2) (cond q (at_fault 4) (cond s (at_fault 5) (cond t (at_fault 6) (stands w))))) ≡ cond p 2 (cond q 4 (cond s 5 (cond t 6 0)))
  unfolding fault_of
  tests_chain true q s t w = refl
  tests_chain false true s t w = refl
  tests_chain false false true t w = refl
  tests_chain false false false true w = refl
  tests_chain false false false false w = refl

  abbrev tests_as : ℕ → ℕ
  tests_as j = cond (over_limit room a r j) 4 (cond (wrong_signal h a r j x) 5 (cond (wrong_exit a j x) 6 0))

  abbrev tests : ℕ → ℕ
  tests j = cond (not (eqb (length_of j) len)) 2 (tests_as j)

  sorted_as : is_broken b r.place ≡ false → (o : Option Sort) → sort_of k x ≡ o → fault_of (sorted room h a r len o) ≡ tests (tested_as k)
  unfolding fault_of
  sorted_as whole none e =
      let long = (broken_none b r.place whole).1 in
      let q = no_sort k x e in
      sym (ap (λ (z : Bool). cond (not z) 2 (tests_as (tested_as k))) (ne_eqb (length_of (tested_as k)) len (λ f. omega (arith, long, q, f))))
  sorted_as whole (some s) e =
      let t = tested (sort_seen k x s e) in
      tests_chain (not (eqb (record_length s) len)) (over_limit₂ room a r s) (wrong_signal₂ h a r s) (wrong_exit₂ a s) s
      ∙ (λ i. cond (not (eqb (t.its_length i) len)) 2 (cond (t.its_limit room a r i) 4 (cond (t.its_signal h a r i) 5 (cond (t.its_exit a i) 6 0))))

  pub due_as : r.place < length b → fault_of (due room b h a r) ≡ fault_as room b h a r (tested_as k)
  unfolding due fault_as fault_of
  due_as l =
      ap (λ (z : Bool). fault_of (cond z (at_fault 7) if_left)) (lt-leb (length b) r.place l)
      ∙ go (is_broken b r.place) refl
    where
      go : (z : Bool) → is_broken b r.place ≡ z → fault_of (cond z (at_fault 1) (sorted room h a r len (sort_of k x))) ≡ cond z 1 (tests (tested_as k))
      go true e = refl
      go false e = sorted_as e (sort_of k x) refl

  pub due_shape : length b ≤ r.place → fault_of (due room b h a r) ≡ 7
  unfolding due fault_of
  due_shape l = ap (λ (z : Bool). fault_of (cond z (at_fault 7) if_left)) (le-leb (length b) r.place l)

  -- Its number is that of a refusal.
  pub named : {n : ℕ} → n ≡ fault_of (due room b h a r) → (n ≡ 0 → ⊥) → number (why_of n) ≡ n
  unfolding fault_of
  named {n} e z = go due?
    where
      go : Seen room b h a r → number (why_of n) ≡ n
      go (seen_fault m q l) = let f : n ≡ suc m = e ∙ ap fault_of q in number_back n (of_a_block n (omega arith) (omega arith))
      go (seen s q l v) = absurd (z (e ∙ ap fault_of q))

  -- What the tests of a due record tell.
  pub shape_told : length b ≤ r.place → FaultTold (due room b h a r) r.place (Err (record { why = ShapeFault; place = r.place }))
  unfolding number
  shape_told l = record { passed = tt; its_number = sym (due_shape l); its_place = refl }

  pub tests_told : (n : ℕ) {q : Result (Unit {0}) Refused} → n ≡ fault_of (due room b h a r) → q ≡ answered n r.place → FaultTold (due room b h a r) r.place q
  unfolding answered
  tests_told zero e told = subst (FaultTold (due room b h a r) r.place) (sym told) (record { passed = sym e; its_number = tt; its_place = tt })
  tests_told (suc n) e told =
      subst (FaultTold (due room b h a r) r.place) (sym told) (record { passed = tt; its_number = named e (λ f. omega arith) ∙ e; its_place = refl })
