-- What an execution keeps is what the rules keep, wherever must has a code: by induction over the step. Nothing is kept with a
-- code other than 1, so the tests for 1 on both sides change nothing. Assumes nothing.
use mathlib.Core.Path.{◌≡◌, refl, sym, ◌∙◌, ap₂, subst, subst⁻¹}
use mathlib.Core.Logic.{◌⊎◌, inl, inr}
use mathlib.Core.Bool.{Bool, true, false, cond}
use Prim.Native.Nat.{ℕ, max}
use native.Mathlib.Omega.{arith}
use lib.Dec.{T, eqb, eqb→eq}
use Rattle.sets.specs.Numbers.{Numbers, union, without, only_if, maxima, down, downs}
use Rattle.sets.proofs.Members.{same, of_false, eqb_in, union_left, union_right, union_out, without_in, only_if_in, only_if_test, only_if_member, ext_T}
use Rattle.sets.proofs.Maxima.{maxima_in, maxima_out, downs_out}
use Rattle.rules.specs.Events.{Status, present, absent, unknown, Event, giving, known}
use Rattle.rules.specs.Instant.{Step, done, stay, say, leave, test, catch, scope, chain, beside}
use Rattle.rules.specs.MustCan.{must, Given, choose, followed, gives}
use Rattle.rules.specs.States.{executed_as, kept_by, kept}
use Rattle.rules.specs.Coherence.{Locals, Execution, assigning, run_on, execute, LocalsAgree}
use Rattle.rules.proofs.OneCode.{OneCode, one_code}
use Rattle.theorems.specs.Order.{Below, ◌⊑◌, whole}
use Rattle.theorems.proofs.Cases.{by_test, by_first}
use Rattle.theorems.proofs.Exact.{FirstOrBoth, only_first, then_second, first_or_both}
use Rattle.theorems.proofs.Sound.{not_both, giving_whole, executed_below, if_so, sound, code_of_run}

-- A statement with code other than 1 keeps no pause, executed or computed.
pub record KeepsAtOne (r : Execution) : Type 0 where
  pub code_is_1 : (n : ℕ) → T (r.keeps n) → r.completes ≡ 1

pub executed_at_one : (p : Step) (l : Locals p) (W : Numbers) → KeepsAtOne (execute p l W)
unfolding execute
executed_at_one done l W = record { code_is_1 = λ n t. absurd t }
executed_at_one (stay A) l W = record { code_is_1 = λ n t. refl }
executed_at_one (say s) l W = record { code_is_1 = λ n t. absurd t }
executed_at_one (leave d) l W = record { code_is_1 = λ n t. absurd t }
executed_at_one (test s p q) l W = by_test KeepsAtOne (W s) (execute p l.0 W) (execute q l.1 W) (λ t. executed_at_one p l.0 W) (λ e. executed_at_one q l.1 W)
executed_at_one (catch p) l W =
    let c = down (execute p l W).completes in
    record { code_is_1 = λ n t. eqb→eq c 1 (only_if_test (eqb c 1) (execute p l W).keeps n t) }
executed_at_one (scope s p) l W = record { code_is_1 = (executed_at_one p l.1 (assigning W s l.0)).code_is_1 }
executed_at_one (chain p q) l W =
    by_first KeepsAtOne (execute p l.0 W) (execute q l.1 W) (λ t. record { code_is_1 = (executed_at_one q l.1 W).code_is_1 }) (λ e. executed_at_one p l.0 W)
executed_at_one (beside p q) l W =
    let a = execute p l.0 W in
    let b = execute q l.1 W in
    let c = max a.completes b.completes in
    record { code_is_1 = λ n t. eqb→eq c 1 (only_if_test (eqb c 1) (union a.keeps b.keeps) n t) }

pub kept_at_one : (p : Step) (E : Event) (n : ℕ) → T (kept p E n) → T ((gives must p E).codes 1)
unfolding gives kept
kept_at_one done E n t = absurd t
kept_at_one (stay A) E n t = tt
kept_at_one (say s) E n t = absurd t
kept_at_one (leave d) E n t = absurd t
kept_at_one (test s p q) E n t = only_if_test ((gives must (test s p q) E).codes 1) (kept_by (E s) (kept p E) (kept q E)) n t
kept_at_one (catch p) E n t = only_if_test ((gives must (catch p) E).codes 1) (kept p E) n t
kept_at_one (scope s p) E n t = only_if_test ((gives must (scope s p) E).codes 1) (kept p (giving E s (executed_as s p E))) n t
kept_at_one (chain p q) E n t =
    only_if_test ((gives must (chain p q) E).codes 1) (union (kept p E) (only_if ((gives must p E).codes 0) (kept q E))) n t
kept_at_one (beside p q) E n t = only_if_test ((gives must (beside p q) E).codes 1) (union (kept p E) (kept q E)) n t

-- A test that every member passes changes nothing.
pub passed : (x : Bool) (a : Numbers) → ((n : ℕ) → T (a n) → T x) → only_if x a ≡ a
passed x a f = ext_T (λ n t. only_if_member x a n t) (λ n t. only_if_in x a n (f n t) t)

test_kept : (b : Bool) (v : Status) (c : ℕ) (p q : Step) (E : Event) (r s : Execution) (A B : Type 0) → Below v (known b)
    → (A → T ((gives must p E).codes c) → r.keeps ≡ kept p E) → (B → T ((gives must q E).codes c) → s.keeps ≡ kept q E) → cond b A B
    → T ((choose must v (gives must p E) (gives must q E) (gives must p E) (gives must q E)).codes c)
    → (cond b r s).keeps ≡ only_if ((choose must v (gives must p E) (gives must q E) (gives must p E) (gives must q E)).codes 1) (kept_by v (kept p E) (kept q E))
test_kept true present c p q E r s A B h f g a t = f a t ∙ sym (passed ((gives must p E).codes 1) (kept p E) (kept_at_one p E))
test_kept true absent c p q E r s A B h f g a t = absurd (not_both h)
test_kept true unknown c p q E r s A B h f g a t = absurd t
test_kept false present c p q E r s A B h f g a t = absurd (not_both (sym h))
test_kept false absent c p q E r s A B h f g a t = g a t ∙ sym (passed ((gives must q E).codes 1) (kept q E) (kept_at_one q E))
test_kept false unknown c p q E r s A B h f g a t = absurd t

down_one : T (eqb (down 1) 1)
unfolding down
down_one = tt

downs_one : (a : Numbers) → T (a 1) → T (downs a 1)
unfolding downs
downs_one a t = t

catch_kept : (p : Step) (E : Event) (r : Execution) → KeepsAtOne r → r.keeps ≡ kept p E
    → only_if (eqb (down r.completes) 1) r.keeps ≡ only_if (downs (gives must p E).codes 1) (kept p E)
catch_kept p E r f e =
    passed (eqb (down r.completes) 1) r.keeps (λ n t. subst⁻¹ (λ (x : ℕ). T (eqb (down x) 1)) (f.code_is_1 n t) down_one)
    ∙ e ∙ sym (passed (downs (gives must p E).codes 1) (kept p E) (λ n t. downs_one (gives must p E).codes (kept_at_one p E n t)))

-- What a sequence keeps: of the first where that has the code, and else of the second.
module _ (p q : Step) (E : Event) where
  of_parts : Numbers
  of_parts = union (kept p E) (only_if ((gives must p E).codes 0) (kept q E))

  chain_first : (c : ℕ) → T ((gives must p E).codes c) → (c ≡ 0 → ⊥) → kept p E ≡ only_if ((followed (gives must p E) (gives must q E)).codes 1) of_parts
  unfolding of_parts
  chain_first c t f = ext_T there back
    where
      there : (n : ℕ) → T (kept p E n) → T (only_if ((followed (gives must p E) (gives must q E)).codes 1) of_parts n)
      there n k =
          only_if_in ((followed (gives must p E) (gives must q E)).codes 1) of_parts n
          (union_left (without 0 (gives must p E).codes) (only_if ((gives must p E).codes 0) (gives must q E).codes) 1
          (without_in 0 (gives must p E).codes 1 (kept_at_one p E n k) (λ e. absurd (omega arith))))
          (union_left (kept p E) (only_if ((gives must p E).codes 0) (kept q E)) n k)

      pick : (n : ℕ) → T (kept p E n) ⊎ T (only_if ((gives must p E).codes 0) (kept q E) n) → T (kept p E n)
      pick n (inl k) = k
      pick n (inr k) = absurd (f ((one_code p E).equal c 0 t (only_if_test ((gives must p E).codes 0) (kept q E) n k)))

      back : (n : ℕ) → T (only_if ((followed (gives must p E) (gives must q E)).codes 1) of_parts n) → T (kept p E n)
      back n k =
          pick n (union_out (kept p E) (only_if ((gives must p E).codes 0) (kept q E)) n
          (only_if_member ((followed (gives must p E) (gives must q E)).codes 1) of_parts n k))

  chain_second : T ((gives must p E).codes 0) → kept q E ≡ only_if ((followed (gives must p E) (gives must q E)).codes 1) of_parts
  unfolding of_parts
  chain_second z = ext_T there back
    where
      there : (n : ℕ) → T (kept q E n) → T (only_if ((followed (gives must p E) (gives must q E)).codes 1) of_parts n)
      there n k =
          only_if_in ((followed (gives must p E) (gives must q E)).codes 1) of_parts n
          (union_right (without 0 (gives must p E).codes) (only_if ((gives must p E).codes 0) (gives must q E).codes) 1
          (only_if_in ((gives must p E).codes 0) (gives must q E).codes 1 z (kept_at_one q E n k)))
          (union_right (kept p E) (only_if ((gives must p E).codes 0) (kept q E)) n
          (only_if_in ((gives must p E).codes 0) (kept q E) n z k))

      pick : (n : ℕ) → T (kept p E n) ⊎ T (only_if ((gives must p E).codes 0) (kept q E) n) → T (kept q E n)
      pick n (inl k) = let e = (one_code p E).equal 1 0 (kept_at_one p E n k) z in absurd (omega arith)
      pick n (inr k) = only_if_member ((gives must p E).codes 0) (kept q E) n k

      back : (n : ℕ) → T (only_if ((followed (gives must p E) (gives must q E)).codes 1) of_parts n) → T (kept q E n)
      back n k =
          pick n (union_out (kept p E) (only_if ((gives must p E).codes 0) (kept q E)) n
          (only_if_member ((followed (gives must p E) (gives must q E)).codes 1) of_parts n k))

  run_on_kept : (c : ℕ) (a b : Execution) → FirstOrBoth (gives must p E) (gives must q E) c → ((d : ℕ) → T ((gives must p E).codes d) → d ≡ a.completes)
      → ((d : ℕ) → T ((gives must p E).codes d) → a.keeps ≡ kept p E) → (T (eqb a.completes 0) → T ((gives must q E).codes c) → b.keeps ≡ kept q E)
      → (run_on a b).keeps ≡ only_if ((followed (gives must p E) (gives must q E)).codes 1) of_parts
  run_on_kept c a b (only_first t n) k f g =
      by_first (λ (r : Execution). r.keeps ≡ only_if ((followed (gives must p E) (gives must q E)).codes 1) of_parts) a b
      (λ z. absurd (n (k c t ∙ eqb→eq a.completes 0 z))) (λ e. f c t ∙ chain_first c t n)
  run_on_kept c a b (then_second z t) k f g =
      by_first (λ (r : Execution). r.keeps ≡ only_if ((followed (gives must p E) (gives must q E)).codes 1) of_parts) a b
      (λ y. g y t ∙ chain_second z) (λ e. absurd (of_false e (eqb_in (sym (k 0 z)))))

-- Both codes are the only ones, so the larger is 1 exactly when the maxima have 1.
beside_one : {m n : Given} (c d : ℕ) → OneCode m → OneCode n → T (m.codes c) → T (n.codes d) → eqb (max c d) 1 ≡ maxima m.codes n.codes 1
beside_one {m} {n} c d o r s t = same (eqb (max c d) 1) (maxima m.codes n.codes 1) there back
  where
    there : T (eqb (max c d) 1) → T (maxima m.codes n.codes 1)
    there e = subst (λ (x : ℕ). T (maxima m.codes n.codes x)) (eqb→eq (max c d) 1 e) (maxima_in m.codes n.codes c d s t)

    back : T (maxima m.codes n.codes 1) → T (eqb (max c d) 1)
    back e =
        let x = maxima_out m.codes n.codes 1 e in
        eqb_in (ap₂ max (o.equal c x.0 s x.2) (r.equal d x.1 t x.3) ∙ x.4)

pub kept_of_run : (p : Step) (l : Locals p) (W : Numbers) → LocalsAgree p l W → (E : Event) → E ⊑ whole W → (c : ℕ) → T ((gives must p E).codes c) → (execute p l W).keeps ≡ kept p E
unfolding gives kept execute LocalsAgree of_parts
kept_of_run done l W a E h c t = refl
kept_of_run (stay A) l W a E h c t = refl
kept_of_run (say s) l W a E h c t = refl
kept_of_run (leave d) l W a E h c t = refl
kept_of_run (test s p q) l W a E h c t =
    test_kept (W s) (E s) c p q E (execute p l.0 W) (execute q l.1 W) (LocalsAgree p l.0 W) (LocalsAgree q l.1 W) (h.at s)
    (λ b. kept_of_run p l.0 W b E h c) (λ b. kept_of_run q l.1 W b E h c) a t
kept_of_run (catch p) l W a E h c t =
    let r = downs_out (gives must p E).codes c t in
    catch_kept p E (execute p l W) (executed_at_one p l W) (kept_of_run p l W a E h r.0 r.1)
kept_of_run (scope s p) l W a E h c t =
    let W' : Numbers = assigning W s l.0 in
    let f = sound p l.1 W' a.1 (giving E s unknown) (giving_whole W s unknown l.0 h tt) in
    let E' : Event = giving E s (executed_as s p E) in
    kept_of_run p l.1 W' a.1 E' (giving_whole W s (executed_as s p E) l.0 h (executed_below s p E l.0 (execute p l.1 W') a.0 f)) c t
    ∙ sym (passed ((gives must p E').codes 1) (kept p E') (kept_at_one p E'))
kept_of_run (chain p q) l W a E h c t =
    run_on_kept p q E c (execute p l.0 W) (execute q l.1 W) (first_or_both (gives must p E) (gives must q E) c t)
    (code_of_run p l.0 W a.0 E h) (kept_of_run p l.0 W a.0 E h)
    (λ z. kept_of_run q l.1 W (if_so (eqb (execute p l.0 W).completes 0) a.1 z) E h c)
kept_of_run (beside p q) l W a E h c t =
    let r = maxima_out (gives must p E).codes (gives must q E).codes c t in
    let x = (execute p l.0 W).completes in
    let y = (execute q l.1 W).completes in
    let i : T ((gives must p E).codes x) = subst (λ (n : ℕ). T ((gives must p E).codes n)) (code_of_run p l.0 W a.0 E h r.0 r.2) r.2 in
    let j : T ((gives must q E).codes y) = subst (λ (n : ℕ). T ((gives must q E).codes n)) (code_of_run q l.1 W a.1 E h r.1 r.3) r.3 in
    ap₂ (λ (z : Bool) (K : Numbers). only_if z K) (beside_one x y (one_code p E) (one_code q E) i j)
    (ap₂ union (kept_of_run p l.0 W a.0 E h r.0 r.2) (kept_of_run q l.1 W a.1 E h r.1 r.3))
