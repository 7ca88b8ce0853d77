-- What a good reading of edition 2 gives: the tree's exits find their traps, its signals are in scope, its locals are numbered and its loops pass, and all bytes were
-- read. By the records; the statements differ only in what their own was tested for. Assumes nothing.
use mathlib.Core.Path.{◌≡◌, refl, sym, ◌∙◌, ap, subst, subst⁻¹}
use mathlib.Core.Bool.{Bool, true, false, not, cond, ◌&&◌}
use mathlib.Core.List.{List, ◌∷◌}
use mathlib.Core.Option.{Option, none, some}
use Prim.Native.Nat.{ℕ, suc, ◌+◌, ◌≤◌}
use native.Mathlib.Nat.{add-zero}
use native.Mathlib.Omega.{arith}
use lib.Dec.{T, eqb, ltb, leb, leb→le, eqb→eq}
use lib.ListN.{length, length-append}
use borrow.Author.Tests.{leb-false, ltb-false, eqb-true}
use Rattle.sets.specs.Numbers.{empty}
use Rattle.sets.proofs.Members.{of_true, and_in, and_left, and_right}
use Rattle.rules.specs.Statements.{depth, from}
use Rattle.block.specs.Format.{two_bytes, kind_at, operand_at, length_at, is_broken, Header, header, Sofar, Around as Surroundings, declared_here, outermost, begun}
use Rattle.block.proofs.Nesting.{both_in_row}
use Rattle.block.proofs.Passes.{none_of}
use Rattle.everyday.specs.Statements.{Alone, nothing, pause, halt, emit, sustain, await, exit, Around, suspend_on, loop, trap, local, abort_when}
use Rattle.everyday.specs.Statements.{Between, present_then_else, in_sequence, in_parallel, Everyday, alone, around, between}
use Rattle.everyday.specs.Check.{codes₂, may_stand, loops_pass₂, Trapped₂}
use Rattle.converting.specs.Format.{Sort, of_none, of_one, of_two, sort_of, record_length, over_limit₂, wrong_signal₂, wrong_exit₂, Due, at_fault, stands, sorted, due, past₂, inside₂}
use Rattle.converting.specs.Format.{Got₂, got₂, refused₂, read₂, bytes₂, or_else, lowest_endless₂, Reading₂, good₂, turned_down₂}
use Rattle.converting.specs.Format.{loops_checked₂, ended₂, header_fault₂, reading₂}
use Rattle.converting.specs.Legal.{ScopedBetween, Scoped₂, locals₂, Next₂}
use Rattle.converting.proofs.Readings.{read_by}

-- A record that stands passed the tests of signals and exits.
pub record Passed (h : Header) (a : Surroundings) (r : Sofar) (s : Sort) : Type 0 where
  pub signal : wrong_signal₂ h a r s ≡ false
  pub exits : wrong_exit₂ a s ≡ false

pub not_a_fault : {P : Type 0} {n : ℕ} {s : Sort} → at_fault n ≡ stands s → P
not_a_fault e = let z : ◌≡◌ {A = ℕ} 0 1 = cc in absurd (omega arith)

pub next_test : (t : Bool) (n : ℕ) (d : Due) {s : Sort} → cond t (at_fault n) d ≡ stands s → (t ≡ false) × (d ≡ stands s)
next_test true n d e = not_a_fault e
next_test false n d e = (refl, e)

sorted_passed : (room : ℕ) (h : Header) (a : Surroundings) (r : Sofar) (len : ℕ) (o : Option Sort) (s : Sort) → sorted room h a r len o ≡ stands s → Passed h a r s
sorted_passed room h a r len none s e = not_a_fault e
sorted_passed room h a r len (some t) s e =
    let e₁ = next_test (not (eqb (record_length t) len)) _ _ e in
    let e₂ = next_test (over_limit₂ room a r t) _ _ e₁.1 in
    let e₃ = next_test (wrong_signal₂ h a r t) _ _ e₂.1 in
    let e₄ = next_test (wrong_exit₂ a t) _ _ e₃.1 in
    let q : t ≡ s = cc in
    subst (Passed h a r) q (record { signal = e₃.0; exits = e₄.0 })

due_passed : (room : ℕ) (b : List ℕ) (h : Header) (a : Surroundings) (r : Sofar) (s : Sort) → due room b h a r ≡ stands s → Passed h a r s
unfolding due
due_passed room b h a r s e =
    let e₁ = next_test (leb (length b) r.place) _ _ e in
    let e₂ = next_test (is_broken b r.place) _ _ e₁.1 in
    sorted_passed room h a r (length_at b r.place) (sort_of (kind_at b r.place) (operand_at b r.place)) s e₂.1

-- A tree that was read.
pub record Tree₂ (h : Header) (a : Surroundings) (r : Sofar) (p : Everyday) (r₁ : Sofar) : Type 0 where
  pub trapped : Trapped₂ a.traps p
  pub scoped : Scoped₂ h.inputs h.outputs a.scope p
  pub declared : r₁.locals ≡ r.locals + length (locals₂ p)
  pub next : Next₂ (h.inputs + h.outputs + r.locals) p

in_both : (x y : Bool) → not (x && y) ≡ false → T x × T y
in_both true true e = (tt, tt)
in_both true false e = let z : ◌≡◌ {A = ℕ} 0 1 = cc in absurd (omega arith)
in_both false y e = let z : ◌≡◌ {A = ℕ} 0 1 = cc in absurd (omega arith)

in_one : (x : Bool) → not x ≡ false → T x
in_one true e = tt
in_one false e = let z : ◌≡◌ {A = ℕ} 0 1 = cc in absurd (omega arith)

module _ (h : Header) where
  emitted : (a : Surroundings) (s : ℕ) → not (leb h.inputs s && declared_here h a s) ≡ false → (h.inputs ≤ s) × T (declared_here h a s)
  emitted a s e = let x = in_both (leb h.inputs s) (declared_here h a s) e in (leb→le h.inputs s x.0, x.1)

  alone_tree : (a : Surroundings) (r : Sofar) (l : Alone) → Passed h a r (of_none l) → Tree₂ h a r (alone l) (past₂ (of_none l) r)
  unfolding Trapped₂ Scoped₂ Next₂ locals₂ from
  alone_tree a r nothing g = record { trapped = tt; scoped = tt; declared = refl; next = refl }
  alone_tree a r pause g = record { trapped = tt; scoped = tt; declared = refl; next = refl }
  alone_tree a r halt g = record { trapped = tt; scoped = tt; declared = refl; next = refl }
  alone_tree a r (emit s) g = record { trapped = tt; scoped = emitted a s g.signal; declared = refl; next = refl }
  alone_tree a r (sustain s) g = record { trapped = tt; scoped = emitted a s g.signal; declared = refl; next = refl }
  alone_tree a r (await s) g = record { trapped = tt; scoped = in_one (declared_here h a s) g.signal; declared = refl; next = refl }
  alone_tree a r (exit (depth d)) g = record { trapped = leb-false a.traps d g.exits; scoped = tt; declared = refl; next = refl }

  -- A statement that declares no local of its own has the locals of the one below it.
  record Below (r r₁ : Sofar) (p : Everyday) : Type 0 where
    count : r₁.locals ≡ r.locals + length (locals₂ p)
    numbers : Next₂ (h.inputs + h.outputs + r.locals) p

  below : (a : Surroundings) (r r₁ : Sofar) (p : Everyday) (place statements pauses : ℕ)
      → Tree₂ h a (record { place = place; statements = statements; pauses = pauses; locals = r.locals + 0 }) p r₁ → Below r r₁ p
  below a r r₁ p place statements pauses t =
      let d = t.declared in
      record { count = omega arith; numbers = subst (λ (k : ℕ). Next₂ (h.inputs + h.outputs + k) p) (add-zero r.locals) t.next }

  around_tree : (a : Surroundings) (r r₁ : Sofar) (f : Around) (p : Everyday) → Passed h a r (of_one f) → Tree₂ h (inside₂ f a) (past₂ (of_one f) r) p r₁ → Tree₂ h a r (around f p) r₁
  unfolding Trapped₂ Scoped₂ locals₂ Next₂ from
  around_tree a r r₁ (suspend_on s) p g t =
      let x = below a r r₁ p _ _ _ t in
      record { trapped = t.trapped; scoped = (in_one (declared_here h a s) g.signal, t.scoped); declared = x.count; next = x.numbers }
  around_tree a r r₁ loop p g t =
      let x = below a r r₁ p _ _ _ t in record { trapped = t.trapped; scoped = (tt, t.scoped); declared = x.count; next = x.numbers }
  around_tree a r r₁ trap p g t =
      let x = below (inside₂ trap a) r r₁ p _ _ _ t in record { trapped = t.trapped; scoped = (tt, t.scoped); declared = x.count; next = x.numbers }
  around_tree a r r₁ (local s) p g t =
      let x = in_both (ltb r.locals h.locals) (eqb s (h.inputs + h.outputs + r.locals)) g.signal in
      let q = eqb→eq s (h.inputs + h.outputs + r.locals) x.1 in
      let d = t.declared in
      let n : locals₂ p ≡ from (suc (h.inputs + h.outputs + r.locals)) (length (locals₂ p)) =
      subst (λ (k : ℕ). locals₂ p ≡ from k (length (locals₂ p))) (omega arith) t.next in
      record { trapped = t.trapped; scoped = (omega arith, t.scoped); declared = omega arith; next = λ i. q i ∷ n i }
  around_tree a r r₁ (abort_when s) p g t =
      let x = below a r r₁ p _ _ _ t in
      record { trapped = t.trapped; scoped = (in_one (declared_here h a s) g.signal, t.scoped); declared = x.count; next = x.numbers }

  between_tree : (a : Surroundings) (r r₁ r₂ : Sofar) (o : Between) (p q : Everyday) → Passed h a r (of_two o) → Tree₂ h a (past₂ (of_two o) r) p r₁ → Tree₂ h a r₁ q r₂
      → Tree₂ h a r (between o p q) r₂
  unfolding Trapped₂ Scoped₂ locals₂ Next₂
  between_tree a r r₁ r₂ o p q g t u =
      let x = t.declared in
      let y = u.declared in
      let l = length-append (locals₂ p) (locals₂ q) in
      record {
        trapped = (t.trapped, u.trapped);
        scoped = (own o g, t.scoped, u.scoped);
        declared = omega arith;
        next = both_in_row (h.inputs + h.outputs + r.locals) (h.inputs + h.outputs + r₁.locals) (locals₂ p) (locals₂ q) (below a r r₁ p _ _ _ t).numbers u.next (omega arith);
      }
    where
      own : (o : Between) → Passed h a r (of_two o) → ScopedBetween h.inputs h.outputs a.scope o
      own (present_then_else s) g = in_one (declared_here h a s) g.signal
      own in_sequence g = tt
      own in_parallel g = tt

  pub tree₂ : (room : ℕ) (b : List ℕ) (a : Surroundings) (r : Sofar) (p : Everyday) (r₁ : Sofar) → read₂ room b h a r ≡ got₂ p r₁ → Tree₂ h a r p r₁
  tree₂ room b =
      read_by b h (Tree₂ h) (λ room a r l e. alone_tree a r l (due_passed room b h a r (of_none l) e))
      (λ room a r f p r₁ e t. around_tree a r r₁ f p (due_passed room b h a r (of_one f) e) t)
      (λ room a r o p r₁ q r₂ e t u. between_tree a r r₁ r₂ o p q (due_passed room b h a r (of_two o) e) t u) room

-- No loop is endless.
or_none : (x y : Option ℕ) → or_else x y ≡ none → (x ≡ none) × (y ≡ none)
or_none none y e = (refl, e)
or_none (some n) y e = let z : ◌≡◌ {A = ℕ} 0 1 = cc in absurd (omega arith)

pub none_endless : (at : ℕ) (p : Everyday) → lowest_endless₂ at p ≡ none → T (loops_pass₂ p)
unfolding lowest_endless₂ loops_pass₂
none_endless at (alone a) e = tt
none_endless at (around f p) e = go (may_stand f (codes₂ p)) refl e (none_endless (at + record_length (of_one f)) p)
  where
    go : (z : Bool) → may_stand f (codes₂ p) ≡ z → cond z (lowest_endless₂ (at + record_length (of_one f)) p) (some at) ≡ none
        → (lowest_endless₂ (at + record_length (of_one f)) p ≡ none → T (loops_pass₂ p)) → T (may_stand f (codes₂ p) && loops_pass₂ p)
    go true m e k = and_in (may_stand f (codes₂ p)) (loops_pass₂ p) (of_true m) (k e)
    go false m e k = let z : ◌≡◌ {A = ℕ} 0 1 = cc in absurd (omega arith)
none_endless at (between o p q) e =
    let x = or_none (lowest_endless₂ (at + record_length (of_two o)) p) (lowest_endless₂ (at + record_length (of_two o) + bytes₂ p) q) e in
    and_in (loops_pass₂ p) (loops_pass₂ q) (none_endless (at + record_length (of_two o)) p x.0) (none_endless (at + record_length (of_two o) + bytes₂ p) q x.1)

-- The whole.
pub record Sound₂ (b : List ℕ) (h : Header) (p : Everyday) : Type 0 where
  pub its_header : h ≡ header b
  pub signals : h.inputs + h.outputs + h.locals ≤ 64
  pub loops : T (loops_pass₂ p)
  pub trapped : Trapped₂ 0 p
  pub scoped : Scoped₂ h.inputs h.outputs empty p
  pub locals_counted : h.locals ≡ length (locals₂ p)
  pub locals_next : Next₂ (h.inputs + h.outputs) p
  pub after : Sofar
  pub read : read₂ 64 b h outermost begun ≡ got₂ p after
  pub ends : after.place ≡ length b
  pub short : length b ≤ 3086

not_good : {P : Type 0} {n at : ℕ} {h : Header} {p : Everyday} → turned_down₂ n at ≡ good₂ h p → P
not_good e = let z : ◌≡◌ {A = ℕ} 0 1 = cc in absurd (omega arith)

goes_on : (t : Bool) (n at : ℕ) (x : Reading₂) {h : Header} {p : Everyday} → cond t (turned_down₂ n at) x ≡ good₂ h p → (t ≡ false) × (x ≡ good₂ h p)
goes_on true n at x e = not_good e
goes_on false n at x e = (refl, e)

goes_on_if : (t : Bool) (n at : ℕ) (x : Reading₂) {h : Header} {p : Everyday} → cond t x (turned_down₂ n at) ≡ good₂ h p → (t ≡ true) × (x ≡ good₂ h p)
goes_on_if true n at x e = (refl, e)
goes_on_if false n at x e = not_good e

header_fits₂ : (b : List ℕ) → header_fault₂ b ≡ 0 → (header b).inputs + (header b).outputs + (header b).locals ≤ 64
unfolding header_fault₂
header_fits₂ b e =
    let e₁ = none_of (is_broken b 0) 0 _ e in
    let e₂ = none_of (not (eqb (kind_at b 0) 1 && eqb (length_at b 0) 14)) 1 _ e₁.1 in
    let e₃ = none_of (not (eqb (two_bytes b 4) 2)) 2 _ e₂.1 in
    let e₄ = none_of (ltb 64 ((header b).inputs + (header b).outputs + (header b).locals)) 3 0 e₃.1 in
    ltb-false _ _ e₄.0

ended_sound : (b : List ℕ) (h : Header) (x : Got₂) (h' : Header) (p : Everyday) → ended₂ b h x ≡ good₂ h' p
    → (h' ≡ h) × (r : Sofar) × (x ≡ got₂ p r) × (r.locals ≡ h.locals) × (lowest_endless₂ 14 p ≡ none) × (r.place ≡ length b)
ended_sound b h (refused₂ n at) h' p e = not_good e
ended_sound b h (got₂ q r) h' p e =
    let e₁ = goes_on_if (eqb r.place (length b) && eqb r.locals h.locals) _ _ (loops_checked₂ h q (lowest_endless₂ 14 q)) e in
    let l = eqb→eq r.locals h.locals (and_right (eqb r.place (length b)) (eqb r.locals h.locals) (of_true e₁.0)) in
    let k = eqb→eq r.place (length b) (and_left (eqb r.place (length b)) (eqb r.locals h.locals) (of_true e₁.0)) in
    go (lowest_endless₂ 14 q) refl e₁.1 l k
  where
    go : (o : Option ℕ) → lowest_endless₂ 14 q ≡ o → loops_checked₂ h q o ≡ good₂ h' p → r.locals ≡ h.locals → r.place ≡ length b
        → (h' ≡ h) × (r₁ : Sofar) × (got₂ q r ≡ got₂ p r₁) × (r₁.locals ≡ h.locals) × (lowest_endless₂ 14 p ≡ none) × (r₁.place ≡ length b)
    go (some at) m e l k = not_good e
    go none m e l k =
        let x : h ≡ h' = cc in
        let y : q ≡ p = cc in
        (sym x, r, ap (λ (t : Everyday). got₂ t r) y, l, subst (λ (t : Everyday). lowest_endless₂ 14 t ≡ none) y m, k)

pub sound₂ : (b : List ℕ) (h : Header) (p : Everyday) → reading₂ b ≡ good₂ h p → Sound₂ b h p
unfolding reading₂
sound₂ b h p e =
    let e₁ = goes_on (ltb 3086 (length b)) _ _ _ e in
    let e₂ = goes_on_if (eqb (header_fault₂ b) 0) _ _ _ e₁.1 in
    let w = ended_sound b (header b) (read₂ 64 b (header b) outermost begun) h p e₂.1 in
    let t = tree₂ (header b) 64 b outermost begun p w.1 w.2 in
    let fits = header_fits₂ b (eqb-true (header_fault₂ b) 0 e₂.0) in
    let d = t.declared in
    let l = w.3 in
    let eh = w.0 in
    let counted : (header b).locals ≡ length (locals₂ p) = omega arith in
    record {
      its_header = eh;
      signals = subst⁻¹ (λ (h : Header). h.inputs + h.outputs + h.locals ≤ 64) eh fits;
      loops = none_endless 14 p w.4;
      trapped = t.trapped;
      scoped = subst⁻¹ (λ (h : Header). Scoped₂ h.inputs h.outputs empty p) eh t.scoped;
      locals_counted = ap (λ (h : Header). h.locals) eh ∙ counted;
      locals_next = subst⁻¹ (λ (h : Header). Next₂ (h.inputs + h.outputs) p) eh (subst (λ (k : ℕ). Next₂ k p) (add-zero ((header b).inputs + (header b).outputs)) t.next);
      after = w.1;
      read = subst⁻¹ (λ (h : Header). read₂ 64 b h outermost begun ≡ got₂ p w.1) eh w.2;
      ends = w.5;
      short = ltb-false 3086 (length b) e₁.0;
    }
