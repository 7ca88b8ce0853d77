-- The forms of await and abort do what the two are said to do. With their signal known it is a matter of looking; with the signal unknown the two arms of
-- abort's form are looked at one by one, and so can has 0 and 1 besides the codes of the body. What is kept is the body's and the watching pause, since
-- whatever stays, stays at some pause. Assumes nothing.
use mathlib.Core.Path.{◌≡◌, refl, sym, ◌∙◌, ap, ap₂, subst, subst⁻¹}
use mathlib.Core.Logic.{◌⊎◌, inl, inr}
use mathlib.Core.Bool.{Bool, true, false, ◌&&◌, ◌||◌}
use Prim.Native.Nat.{ℕ, zero, suc, ◌≤◌, max}
use native.Mathlib.Nat.{max-eq_left}
use native.Mathlib.Decide.{dec_le, ℕ_discrete}
use native.Mathlib.Omega.{arith}
use lib.Dec.{T, eqb, eqb_refl}
use Rattle.sets.specs.Numbers.{Numbers, empty, single, union, without, only_if, maxima, down, downs}
use Rattle.sets.proofs.Members.{of_false, single_out, union_left, union_right, union_out, without_in, without_member, without_other, only_if_in, only_if_test, only_if_member, ext, ext_T}
use Rattle.sets.proofs.Maxima.{maxima_in, maxima_out, maxima_empty_right, maxima_single, downs_in, downs_out, downs_empty, downs_single}
use Rattle.rules.specs.Statements.{Depth}
use Rattle.rules.specs.Events.{Status, present, absent, unknown}
use Rattle.rules.specs.Instant.{leave}
use Rattle.rules.specs.MustCan.{plus, opened, Question, must, can, Given, nothing_known, either, in_doubt, choose, caught, both, followed, onward}
use Rattle.rules.specs.States.{kept}
use Rattle.likeness.specs.Likeness.{Image}
use Rattle.likeness.proofs.Images.{image_closed, image_single}
use Rattle.everyday.specs.Conversion.{deeper}
use Rattle.everyday.proofs.Sent.{sent, sent_zero, sent_keeps_zero, sent_keeps_one, down_deeper, zero_same, Sent, sent_none}

-- What the steps of the forms give.
abbrev pub ends_now : Given
ends_now = record { signals = empty; codes = single 0 }

abbrev pub waits : Given
waits = record { signals = empty; codes = single 1 }

abbrev pub leaves : Given
leaves = record { signals = empty; codes = single 2 }

pub after_end : (x : Given) → followed ends_now x ≡ x
after_end x = λ i. record { signals = x.signals; codes = union (none i) x.codes }
  where
    none : without 0 (single 0) ≡ empty
    none = ext_T (λ n t. without_other 0 (single 0) n t (single_out 0 n (without_member 0 (single 0) n t))) (λ n t. absurd t)

pub or_none : (x : Bool) → (x || false) ≡ x
or_none true = refl
or_none false = refl

pub not_after : (a x : Given) → a.codes 0 ≡ false → followed a x ≡ a
not_after a x e = λ i. record { signals = signals i; codes = codes i }
  where
    signals : union a.signals (only_if (a.codes 0) x.signals) ≡ a.signals
    signals = (λ i. union a.signals (only_if (e i) x.signals)) ∙ ext (λ n. or_none (a.signals n))

    unchanged : without 0 a.codes ≡ a.codes
    unchanged = ext_T (λ n t. without_member 0 a.codes n t) (λ n t. without_in 0 a.codes n t (λ z. of_false e (subst (λ (m : ℕ). T (a.codes m)) z t)))

    codes : union (without 0 a.codes) (only_if (a.codes 0) x.codes) ≡ a.codes
    codes = (λ i. union (unchanged i) (only_if (e i) x.codes)) ∙ ext (λ n. or_none (a.codes n))

-- The watching loop resumed: it leaves where the signal is present and else waits again.
abbrev pub watched : Question → Status → Given
watched k v = choose k v leaves waits leaves waits

pub watched_is : (k : Question) (v : Status) → followed (followed ends_now (choose (onward k true) v leaves ends_now leaves ends_now)) waits ≡ watched k v
watched_is k v = ap (λ (x : Given). followed x waits) (after_end (choose (onward k true) v leaves ends_now leaves ends_now)) ∙ go k v
  where
    only_two : without 0 (union (single 2) (single 0)) ≡ single 2
    only_two = ext_T there back
      where
        pick : (n : ℕ) → (n ≡ 0 → ⊥) → T (single 2 n) ⊎ T (single 0 n) → T (single 2 n)
        pick n f (inl t) = t
        pick n f (inr t) = absurd (f (single_out 0 n t))

        there : (n : ℕ) → T (without 0 (union (single 2) (single 0)) n) → T (single 2 n)
        there n t = pick n (without_other 0 (union (single 2) (single 0)) n t) (union_out (single 2) (single 0) n (without_member 0 (union (single 2) (single 0)) n t))

        back : (n : ℕ) → T (single 2 n) → T (without 0 (union (single 2) (single 0)) n)
        back n t =
            let e = single_out 2 n t in
            without_in 0 (union (single 2) (single 0)) n (union_left (single 2) (single 0) n t) (λ z. absurd (omega arith))

    in_doubt_both : followed (either leaves ends_now) waits ≡ either leaves waits
    in_doubt_both = λ i. record { signals = empty; codes = union (only_two i) (single 1) }

    go : (k : Question) (v : Status) → followed (choose (onward k true) v leaves ends_now leaves ends_now) waits ≡ watched k v
    go k present = not_after leaves waits refl
    go k absent = after_end waits
    go must unknown = not_after nothing_known waits refl
    go (can plus) unknown = in_doubt_both
    go (can opened) unknown = in_doubt_both

-- The codes that leave the form's trap, the body's arm going on to exit 0. With `two`, the watching arm may leave as well as wait, and the body may be held.
module _ (out : Depth → Depth) (two : Bool) {x x'' : Numbers} (f : Image (sent (λ d. deeper (out d))) x'' x) (held : T two → T (x 1)) where
  abbrev arm : Numbers
  arm = union (without 0 x'') (only_if (x'' 0) (single 2))

  abbrev watching : Numbers
  watching = union (single 1) (only_if two (single 2))

  abbrev left : Numbers
  left = downs (maxima arm watching)

  abbrev sends : ℕ → ℕ
  sends c = sent (λ d. deeper (out d)) c

  put : (n y w : ℕ) → T (arm y) → T (watching w) → down (max y w) ≡ n → T (left n)
  put n y w s t e = subst (λ (m : ℕ). T (left m)) e (downs_in (maxima arm watching) (max y w) (maxima_in arm watching y w s t))

  one_watched : T (watching 1)
  one_watched = union_left (single 1) (only_if two (single 2)) 1 (eqb_refl 1)

  down_two : down 2 ≡ 0
  unfolding down
  down_two = refl

  arm_zero : T (x 0) → T (arm 2)
  arm_zero t =
      union_right (without 0 x'') (only_if (x'' 0) (single 2)) 2
      (only_if_in (x'' 0) (single 2) 2 (subst⁻¹ T (zero_same (λ d. deeper (out d)) f) t) (eqb_refl 2))

  arm_other : (c : ℕ) → (c ≡ 0 → ⊥) → T (x c) → T (arm (sends c))
  arm_other c n t =
      union_left (without 0 x'') (only_if (x'' 0) (single 2)) (sends c)
      (without_in 0 x'' (sends c) (f.there c t) (λ e. n (sent_zero (λ d. deeper (out d)) c e)))

  above_zero : (c : ℕ) → (c ≡ 0 → ⊥) → 1 ≤ sends c
  above_zero c n = go (dec_le 1 (sends c))
    where
      go : Dec (1 ≤ sends c) → 1 ≤ sends c
      go (yes h) = h
      go (no h) = absurd (n (sent_zero (λ d. deeper (out d)) c (omega arith)))

  there_body : (c : ℕ) → T (x c) → Dec (c ≡ 0) → T (left (sent out c))
  there_body c t (yes e) =
      put (sent out c) 2 1 (arm_zero (subst (λ (m : ℕ). T (x m)) e t)) one_watched (down_two ∙ sym (ap (sent out) e ∙ sent_keeps_zero out))
  there_body c t (no e) = put (sent out c) (sends c) 1 (arm_other c e t) one_watched (ap down (max-eq_left (above_zero c e)) ∙ down_deeper out c)

  there_two : T two → T (left (sent out 0))
  there_two t =
      put (sent out 0) (sends 1) 2 (arm_other 1 (λ e. absurd (omega arith)) (held t)) (union_right (single 1) (only_if two (single 2)) 2 (only_if_in two (single 2) 2 t (eqb_refl 2)))
      (ap (λ (y : ℕ). down (max y 2)) (sent_keeps_one (λ d. deeper (out d))) ∙ down_two ∙ sym (sent_keeps_zero out))

  abbrev From : ℕ → Type 0
  From n = (c : ℕ) × T (union x (only_if two (single 0)) c) × (sent out c ≡ n)

  of_body : (n c : ℕ) → T (x c) → sent out c ≡ n → From n
  of_body n c t e = (c, union_left x (only_if two (single 0)) c t, e)

  of_two : (n : ℕ) → T two → n ≡ 0 → From n
  of_two n t e = (0, union_right x (only_if two (single 0)) 0 (only_if_in two (single 0) 0 t (eqb_refl 0)), sent_keeps_zero out ∙ sym e)

  from_arms : (n y w : ℕ) → T (without 0 x'' y) ⊎ T (only_if (x'' 0) (single 2) y) → T (single 1 w) ⊎ T (only_if two (single 2) w) → down (max y w) ≡ n → From n
  from_arms n y w (inl s) (inl t) e =
      let r = f.back y (without_member 0 x'' y s) in
      let q = single_out 1 w t in
      let h = without_other 0 x'' y s in
      of_body n r.0 r.1 (sym (down_deeper out r.0) ∙ ap down (r.2 ∙ sym (larger h q)) ∙ e)
    where
      larger : (y ≡ 0 → ⊥) → w ≡ 1 → max y w ≡ y
      larger h q = omega arith
  from_arms n y w (inl s) (inr t) e = go (dec_le 3 y)
    where
      q : w ≡ 2
      q = single_out 2 w (only_if_member two (single 2) w t)

      go : Dec (3 ≤ y) → From n
      go (yes h) =
          let r = f.back y (without_member 0 x'' y s) in
          of_body n r.0 r.1 (sym (down_deeper out r.0) ∙ ap down (r.2 ∙ sym (larger h)) ∙ e)
        where
          larger : 3 ≤ y → max y w ≡ y
          larger l = omega (arith, q)
      go (no h) = of_two n (only_if_test two (single 2) w t) (sym e ∙ ap down (smaller h) ∙ down_two)
        where
          smaller : (3 ≤ y → ⊥) → max y w ≡ 2
          smaller l = omega (arith, q)
  from_arms n y w (inr s) t e =
      of_body n 0 (subst T (zero_same (λ d. deeper (out d)) f) (only_if_test (x'' 0) (single 2) y s)) (sent_keeps_zero out ∙ sym (sym e ∙ ap down (both_two t) ∙ down_two))
    where
      p : y ≡ 2
      p = single_out 2 y (only_if_member (x'' 0) (single 2) y s)

      both_two : T (single 1 w) ⊎ T (only_if two (single 2) w) → max y w ≡ 2
      both_two (inl u) = let q = single_out 1 w u in omega (arith, p)
      both_two (inr u) = let q = single_out 2 w (only_if_member two (single 2) w u) in omega (arith, p)

  codes_left : Image (sent out) left (union x (only_if two (single 0)))
  codes_left = record { there = λ c t. pick c (union_out x (only_if two (single 0)) c t); back = λ n t. from n t }
    where
      pick : (c : ℕ) → T (x c) ⊎ T (only_if two (single 0) c) → T (left (sent out c))
      pick c (inl t) = there_body c t (ℕ_discrete c 0)
      pick c (inr t) =
          subst⁻¹ (λ (m : ℕ). T (left (sent out m))) (single_out 0 c (only_if_member two (single 0) c t)) (there_two (only_if_test two (single 0) c t))

      from : (n : ℕ) → T (left n) → From n
      from n t =
          let a = downs_out (maxima arm watching) n t in
          let b = maxima_out arm watching a.0 a.1 in
          from_arms n b.0 b.1 (union_out (without 0 x'') (only_if (x'' 0) (single 2)) b.0 b.2) (union_out (single 1) (only_if two (single 2)) b.1 b.3) (ap down b.4 ∙ a.2)

module _ (out : Depth → Depth) {a a'' : Given} (f : Sent (λ d. deeper (out d)) a a'') where
  form_signals : (z : Bool) → union (union a''.signals (only_if z empty)) empty ≡ a.signals
  form_signals z = ext (λ n. go (a''.signals n) z) ∙ f.of_signals
    where
      go : (x y : Bool) → ((x || (y && false)) || false) ≡ x
      go true y = refl
      go false true = refl
      go false false = refl

  -- The watching arm waits: what leaves the form is the body's.
  pub form_waits : Sent out a (caught (both (followed a'' leaves) waits))
  form_waits = record {
    of_signals = form_signals (a''.codes 0);
    of_codes = subst (λ (A : Numbers). Image (sent out) A a.codes) watching_one
        (subst (λ (B : Numbers). Image (sent out) (left out false f.of_codes (λ t. absurd t)) B) (ext (λ n. or_none (a.codes n))) (codes_left out false f.of_codes (λ t. absurd t)));
  }
    where
      watching_one : left out false f.of_codes (λ t. absurd t) ≡ downs (maxima (union (without 0 a''.codes) (only_if (a''.codes 0) (single 2))) (single 1))
      watching_one = ap (λ (W : Numbers). downs (maxima (union (without 0 a''.codes) (only_if (a''.codes 0) (single 2))) W)) (ext (λ n. or_none (eqb n 1)))

  -- The signal is unknown: the body may be held and the watching arm may leave, each for itself.
  pub form_doubts : Sent out (either ends_now (either waits a)) (caught (both (followed (either waits a'') leaves) (either leaves waits)))
  form_doubts = record {
    of_signals = form_signals ((either waits a'').codes 0);
    of_codes = subst (λ (A : Numbers). Image (sent out) A (either ends_now (either waits a)).codes) watching_both
        (subst (λ (B : Numbers). Image (sent out) (left out true held_or held_one) B) turned (codes_left out true held_or held_one));
  }
    where
      held_or : Image (sent (λ d. deeper (out d))) (union (single 1) a''.codes) (union (single 1) a.codes)
      held_or = (image_closed (sent (λ d. deeper (out d)))).both (image_single (sent (λ d. deeper (out d))) 1 1 (sent_keeps_one (λ d. deeper (out d)))) f.of_codes

      held_one : T true → T (union (single 1) a.codes 1)
      held_one t = union_left (single 1) a.codes 1 (eqb_refl 1)

      or_turned : (x y : Bool) → (x || y) ≡ (y || x)
      or_turned true true = refl
      or_turned true false = refl
      or_turned false true = refl
      or_turned false false = refl

      turned : union (union (single 1) a.codes) (single 0) ≡ union (single 0) (union (single 1) a.codes)
      turned = ext (λ n. or_turned (union (single 1) a.codes n) (eqb n 0))

      watching_both : left out true held_or held_one
          ≡ downs (maxima (union (without 0 (union (single 1) a''.codes)) (only_if (union (single 1) a''.codes 0) (single 2))) (union (single 2) (single 1)))
      watching_both =
          ap (λ (W : Numbers). downs (maxima (union (without 0 (union (single 1) a''.codes)) (only_if (union (single 1) a''.codes 0) (single 2))) W))
          (ext (λ n. or_turned (eqb n 1) (eqb n 2)))

-- The signal is present: the form ends.
form_ends : (out : Depth → Depth) → Sent out ends_now (caught (both (followed waits leaves) leaves))
unfolding down
form_ends out = record {
  of_signals = refl;
  of_codes = subst⁻¹ (λ (A : Numbers). Image (sent out) A (single 0)) codes (image_single (sent out) 0 0 (sent_keeps_zero out));
}
  where
    codes : downs (maxima (followed waits leaves).codes (single 2)) ≡ single 0
    codes = ap (λ (g : Given). downs (maxima g.codes (single 2))) (not_after waits leaves refl) ∙ ap downs (maxima_single 1 2) ∙ downs_single 2

form_knows_nothing : (out : Depth → Depth) → Sent out nothing_known (caught (both (followed nothing_known leaves) nothing_known))
form_knows_nothing out = record {
  of_signals = refl;
  of_codes = subst⁻¹ (λ (A : Numbers). Image (sent out) A empty) (ap downs (maxima_empty_right (followed nothing_known leaves).codes) ∙ downs_empty) (sent_none {out = out}).of_codes;
}

-- An abort resumed, whatever its signal's status is.
pub form_resumed : (out : Depth → Depth) (k : Question) (v : Status) (g g'' : Question → Given) → ((k : Question) → Sent (λ d. deeper (out d)) (g k) (g'' k))
    → Sent out (choose k v ends_now (choose k v waits (g k) waits (g (in_doubt k))) ends_now (choose (in_doubt k) v waits (g (in_doubt k)) waits (g (in_doubt (in_doubt k)))))
    (caught (both (followed (choose k v waits (g'' k) waits (g'' (in_doubt k))) leaves) (watched k v)))
form_resumed out k present g g'' f = form_ends out
form_resumed out k absent g g'' f = form_waits out (f k)
form_resumed out must unknown g g'' f = form_knows_nothing out
form_resumed out (can m) unknown g g'' f = form_doubts out (f (can opened))

-- Await's form: a trap around the watching loop.
downs_both : (a b : Numbers) → downs (union a b) ≡ union (downs a) (downs b)
unfolding downs
downs_both a b = ext go
  where
    turn : (x y z u : Bool) → ((x || y) || (z || u)) ≡ ((x || z) || (y || u))
    turn true y z u = refl
    turn false true true u = refl
    turn false true false u = refl
    turn false false z u = refl

    go : (n : ℕ) → downs (union a b) n ≡ union (downs a) (downs b) n
    go zero = turn (a 0) (b 0) (a 2) (b 2)
    go (suc zero) = refl
    go (suc (suc n)) = refl

caught_as : (out : Depth → Depth) (a b : Given) → a.signals ≡ b.signals → downs b.codes ≡ a.codes → ((c : ℕ) → T (a.codes c) → sent out c ≡ c) → Sent out a (caught b)
caught_as out a b s e h = record {
  of_signals = sym s;
  of_codes = subst⁻¹ (λ (A : Numbers). Image (sent out) A a.codes) e
      (record { there = λ c t. subst⁻¹ (λ (m : ℕ). T (a.codes m)) (h c t) t; back = λ c t. (c, t, h c t) });
}

caught_leaves : downs (single 2) ≡ single 0
unfolding down
caught_leaves = downs_single 2

pub caught_waits : downs (single 1) ≡ single 1
unfolding down
caught_waits = downs_single 1

module _ (out : Depth → Depth) where
  stays_zero : (c : ℕ) → T (single 0 c) → sent out c ≡ c
  stays_zero c t = let e = single_out 0 c t in ap (sent out) e ∙ sent_keeps_zero out ∙ sym e

  stays_one : (c : ℕ) → T (single 1 c) → sent out c ≡ c
  stays_one c t = let e = single_out 1 c t in ap (sent out) e ∙ sent_keeps_one out ∙ sym e

  pub await_waits : Sent out waits (caught waits)
  await_waits = caught_as out waits waits refl caught_waits stays_one

  pub await_resumes : (k : Question) (v : Status) → Sent out (choose k v ends_now waits ends_now waits) (caught (watched k v))
  await_resumes k present = caught_as out ends_now leaves refl caught_leaves stays_zero
  await_resumes k absent = await_waits
  await_resumes must unknown = caught_as out nothing_known nothing_known refl downs_empty (λ c t. absurd t)
  await_resumes (can m) unknown =
      caught_as out (either ends_now waits) (either leaves waits) refl (downs_both (single 2) (single 1) ∙ ap₂ union caught_leaves caught_waits) (λ c t. go c (union_out (single 0) (single 1) c t))
    where
      go : (c : ℕ) → T (single 0 c) ⊎ T (single 1 c) → sent out c ≡ c
      go c (inl t) = stays_zero c t
      go c (inr t) = stays_one c t
