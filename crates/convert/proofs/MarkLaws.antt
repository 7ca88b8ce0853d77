-- The marks around what stands below a statement: a trap's and an abort's are one more, in front of those around. Assumes nothing.
use mathlib.Core.Path.{◌≡◌, refl, sym, ap, ◌∙◌, subst}
use mathlib.Core.Bool.{Bool, true, false}
use mathlib.Core.List.{◌∷◌}
use mathlib.Core.Option.{some}
use Prim.Native.Nat.{ℕ, suc, ◌+◌, ◌*◌, ◌/◌, ◌%◌, ◌^◌, ◌<◌}
use native.Mathlib.Nat.{pow-suc, pow-le-pow_right, zero-lt-suc}
use native.Mathlib.Omega.{arith}
use lib.Dec.{eqb}
use borrow.Author.Tests.{eq-eqb, ne_eqb}
use Rattle.rules.specs.Statements.{Depth}
use Rattle.everyday.specs.Statements.{trap, abort_when}
use Rattle.converting.specs.Format.{Sort, of_one, sort_of}
use Rattle.converting.specs.Records.{out_by}
use Rattle.converting.proofs.Records.{out_trap, out_abort}
use Rattle.converting.proofs.Sorts.{IsSort, is_nothing, is_pause, is_emit, is_present, is_suspend, is_sequence, is_loop, is_parallel, is_trap, is_exit, is_local}
use Rattle.converting.proofs.Sorts.{is_halt, is_sustain, is_await, is_abort, sort_seen}
use Rattle.convert.specs.Marks.{marks_of}
use Rattle.convert.specs.Walk.{sends, out_inside, marks_by, FewMarks, MarksInside}
use Rattle.convert.specs.declared.walk.Marks.{Marks}

pub word_small : {m : Marks} → FewMarks m → m.word < 65536
word_small f = let p = pow-le-pow_right (zero-lt-suc 1) f.few in omega (arith, p, f.none_beyond)

-- One mark more.
one_more : (w n : ℕ) (z : Bool) (v : ℕ) → eqb (v % 2) 1 ≡ z → v / 2 ≡ w → marks_of v (n + 1) ≡ z ∷ marks_of w n
unfolding marks_of
one_more w n z v e h = let q : n + 1 ≡ suc n = omega arith in ap (marks_of v) q ∙ (λ i. e i ∷ marks_of (h i) n)

trap_mark : (w n : ℕ) → marks_of (w * 2 + 1) (n + 1) ≡ true ∷ marks_of w n
trap_mark w n = one_more w n true (w * 2 + 1) (eq-eqb ((w * 2 + 1) % 2) 1 (omega arith)) (omega arith)

abort_mark : (w n : ℕ) → marks_of (w * 2) (n + 1) ≡ false ∷ marks_of w n
abort_mark w n = one_more w n false (w * 2) (ne_eqb (w * 2 % 2) 1 (λ e. omega arith)) (omega arith)

none_more : (n v : ℕ) → v < 2 * 2 ^ n → v < 2 ^ (n + 1)
none_more n v l = let q : suc n ≡ n + 1 = omega arith in subst (λ (k : ℕ). v < 2 ^ k) q (omega (arith, pow-suc 2 n))

no_mark : (out : Depth → Depth) {k x : ℕ} {s : Sort} → IsSort k x s → (k ≡ 24 → ⊥) → (k ≡ 35 → ⊥) → (out ≡ out_inside s out) × (marks_by s ≡ 0)
unfolding marks_by
no_mark out is_nothing n n₁ = (refl, refl)
no_mark out is_pause n n₁ = (refl, refl)
no_mark out is_emit n n₁ = (refl, refl)
no_mark out is_present n n₁ = (refl, refl)
no_mark out is_suspend n n₁ = (refl, refl)
no_mark out is_sequence n n₁ = (refl, refl)
no_mark out is_loop n n₁ = (refl, refl)
no_mark out is_parallel n n₁ = (refl, refl)
no_mark out is_trap n n₁ = absurd (n refl)
no_mark out is_exit n n₁ = (refl, refl)
no_mark out is_local n n₁ = (refl, refl)
no_mark out is_halt n n₁ = (refl, refl)
no_mark out is_sustain n n₁ = (refl, refl)
no_mark out is_await n n₁ = (refl, refl)
no_mark out is_abort n n₁ = absurd (n₁ refl)

module _ {m : Marks} (f : FewMarks m) {k : ℕ} where
  pub inside_trap : k ≡ 24 → (x : ℕ) (s : Sort) → sort_of k x ≡ some s → MarksInside s m (record { word = m.word * 2 + 1; count = m.count + 1 })
  unfolding sort_of marks_by
  inside_trap q x s e =
      let e₂ : some (of_one trap) ≡ some s = ap (λ (k : ℕ). sort_of k x) (sym q) ∙ e in
      let y : of_one trap ≡ s = cc in
      subst (λ (s : Sort). MarksInside s m (record { word = m.word * 2 + 1; count = m.count + 1 })) y
      (record {
        sent = ap out_by (trap_mark m.word m.count) ∙ sym (out_trap (marks_of m.word m.count));
        counted = refl;
        none_beyond = none_more m.count (m.word * 2 + 1) (omega (arith, f.none_beyond));
      })

  pub inside_abort : k ≡ 35 → (x : ℕ) (s : Sort) → sort_of k x ≡ some s → MarksInside s m (record { word = m.word * 2; count = m.count + 1 })
  unfolding sort_of marks_by
  inside_abort q x s e =
      let e₂ : some (of_one (abort_when x)) ≡ some s = ap (λ (k : ℕ). sort_of k x) (sym q) ∙ e in
      let y : of_one (abort_when x) ≡ s = cc in
      subst (λ (s : Sort). MarksInside s m (record { word = m.word * 2; count = m.count + 1 })) y
      (record {
        sent = ap out_by (abort_mark m.word m.count) ∙ sym (out_abort (marks_of m.word m.count));
        counted = refl;
        none_beyond = none_more m.count (m.word * 2) (omega (arith, f.none_beyond));
      })

  pub inside_other : (k ≡ 24 → ⊥) → (k ≡ 35 → ⊥) → (x : ℕ) (s : Sort) → sort_of k x ≡ some s → MarksInside s m m
  inside_other n n₁ x s e =
      let g = no_mark (sends m) (sort_seen k x s e) n n₁ in
      record { sent = g.0; counted = omega (arith, g.1); none_beyond = f.none_beyond }
