-- The reading of a statement, one equation for each way through it, and as a relation: every fact of a good reading goes by
-- induction on that.
use mathlib.Core.Path.{◌≡◌, refl, sym, subst₂, ◌∙◌}
use mathlib.Core.Logic.{⊎_elim}
use mathlib.Core.List.{List}
use Prim.Native.Nat.{ℕ, zero, suc}
use native.Mathlib.Omega.{arith}
use borrow.Author.Tests.{eq-eqb, ne_eqb}
use Rattle.rules.specs.Statements.{Stmt}
use Rattle.block.specs.Format.{Header, Around, Sofar, Got, got, refused, and_then, kind_at, operand_at, statement_fault, past, inside, leaf, above}
use Rattle.tables.specs.Kinds.{children_of}
use Rattle.block.specs.Format.{joined, read}
use Rattle.block.proofs.Views.{Leaf, Above, Joined, Kind, leafs, aboves, joins, is?, leaf_children, above_children, joined_children}
use Rattle.block.proofs.Passes.{passes}

module _ (b : List ℕ) (h : Header) where
  abbrev pub kind_of_record : Sofar → ℕ
  kind_of_record r = kind_at b r.place

  abbrev pub operand_of_record : Sofar → ℕ
  operand_of_record r = operand_at b r.place

  module _ (room : ℕ) (a : Around) (r : Sofar) where
    abbrev fault : ℕ
    fault = statement_fault (suc room) b h a r

    abbrev k : ℕ
    k = kind_at b r.place

    abbrev x : ℕ
    x = operand_at b r.place

    abbrev first : Got
    first = read room b h (inside k x a) (past k r)

    pub read_fault : (fault ≡ 0 → ⊥) → read (suc room) b h a r ≡ refused fault r.place
    unfolding read
    read_fault n = simp (ne_eqb fault 0 n)

    module _ (good : fault ≡ 0) where
      pub read_leaf : children_of k ≡ 0 → read (suc room) b h a r ≡ got (leaf k x r.pauses) (past k r)
      unfolding read
      read_leaf e = simp (eq-eqb fault 0 good, e)

      pub read_above : children_of k ≡ 1 → read (suc room) b h a r ≡ and_then first (λ p r₁. got (above k x p) r₁)
      unfolding read
      read_above e = simp (eq-eqb fault 0 good, e)

      pub read_joined : children_of k ≡ 2
          → read (suc room) b h a r ≡ and_then first (λ p r₁. and_then (read room b h (inside k x a) r₁) (λ q r₂. got (joined k x p q) r₂))
      unfolding read
      read_joined e = simp (eq-eqb fault 0 good, e)

-- A good reading as a relation: the statement of a record that passes, with its children's readings.
pub data Parsed (b : List ℕ) (h : Header) : ℕ → Around → Sofar → Stmt → Sofar → Type 0 where
  at_leaf : {room : ℕ} {a : Around} {r : Sofar} → statement_fault (suc room) b h a r ≡ 0 → Leaf (kind_at b r.place)
      → Parsed b h (suc room) a r (leaf (kind_at b r.place) (operand_at b r.place) r.pauses) (past (kind_at b r.place) r)
  at_above : {room : ℕ} {a : Around} {r : Sofar} {p : Stmt} {r₁ : Sofar} → statement_fault (suc room) b h a r ≡ 0 → Above (kind_at b r.place)
      → Parsed b h room (inside (kind_at b r.place) (operand_at b r.place) a) (past (kind_at b r.place) r) p r₁
      → Parsed b h (suc room) a r (above (kind_at b r.place) (operand_at b r.place) p) r₁
  at_joined : {room : ℕ} {a : Around} {r : Sofar} {p q : Stmt} {r₁ r₂ : Sofar} → statement_fault (suc room) b h a r ≡ 0 → Joined (kind_at b r.place)
      → Parsed b h room (inside (kind_at b r.place) (operand_at b r.place) a) (past (kind_at b r.place) r) p r₁
      → Parsed b h room (inside (kind_at b r.place) (operand_at b r.place) a) r₁ q r₂
      → Parsed b h (suc room) a r (joined (kind_at b r.place) (operand_at b r.place) p q) r₂

not_got : {P : Type 0} {n at : ℕ} {p : Stmt} {r : Sofar} → refused n at ≡ got p r → P
not_got e = let z : ◌≡◌ {A = ℕ} 0 1 = cc in absurd (omega arith)

-- What `and_then` needs to end well.
then_got : (g : Got) (f : Stmt → Sofar → Got) {q : Stmt} {r₂ : Sofar} → and_then g f ≡ got q r₂
    → (p : Stmt) × (r₁ : Sofar) × (g ≡ got p r₁) × (f p r₁ ≡ got q r₂)
then_got (got p r₁) f e = (p, r₁, refl, e)
then_got (refused n at) f e = not_got e

same_got : (P : Stmt → Sofar → Type 0) {p q : Stmt} {r r₁ : Sofar} → got p r ≡ got q r₁ → P p r → P q r₁
same_got P {p} {q} {r} {r₁} e h =
    let ep : p ≡ q = cc in
    let er : r ≡ r₁ = cc in
    subst₂ P ep er h

pub parsed : (b : List ℕ) (h : Header) (room : ℕ) (a : Around) (r : Sofar) (p : Stmt) (r₁ : Sofar)
    → read room b h a r ≡ got p r₁ → Parsed b h room a r p r₁
unfolding read
parsed b h zero a r p r₁ e = not_got e
parsed b h (suc room) a r p r₁ e =
    ⊎_elim (λ good. by_kind (parsed b h room (inside k x a)) good (passes (suc room) b h a r good).its_kind)
    (λ n. not_got (sym (read_fault b h room a r n) ∙ e)) (is? (statement_fault (suc room) b h a r) 0)
  where
    k : ℕ
    k = kind_at b r.place

    x : ℕ
    x = operand_at b r.place

    by_kind : ((r' : Sofar) (p' : Stmt) (r'' : Sofar) → read room b h (inside k x a) r' ≡ got p' r'' → Parsed b h room (inside k x a) r' p' r'')
        → statement_fault (suc room) b h a r ≡ 0 → Kind k → Parsed b h (suc room) a r p r₁
    by_kind child good (leafs v) =
        same_got (Parsed b h (suc room) a r) (sym (read_leaf b h room a r good (leaf_children v)) ∙ e) (at_leaf good v)
    by_kind child good (aboves v) =
        let t = then_got _ _ (sym (read_above b h room a r good (above_children v)) ∙ e) in
        same_got (Parsed b h (suc room) a r) t.3 (at_above good v (child _ _ _ t.2))
    by_kind child good (joins v) =
        let t = then_got _ _ (sym (read_joined b h room a r good (joined_children v)) ∙ e) in
        let u = then_got _ _ t.3 in
        same_got (Parsed b h (suc room) a r) u.3 (at_joined good v (child _ _ _ t.2) (child _ _ _ u.2))

-- A record at fault, whatever room there is.
pub read_stop : (b : List ℕ) (h : Header) (room : ℕ) (a : Around) (r : Sofar) → (statement_fault room b h a r ≡ 0 → ⊥)
    → read room b h a r ≡ refused (statement_fault room b h a r) r.place
unfolding read
read_stop b h zero a r n = refl
read_stop b h (suc room) a r n = read_fault b h room a r n
