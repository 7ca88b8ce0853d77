-- A copy does what its statement does, started and resumed: by induction over the copy. At a loop the first copy of the body never gives
-- 0 when started, so the second is not reached behind it; and of the two copies at most one is active, since their sequence is no
-- parallel. Resumed with the first active, the second is started behind it, and the loop's own restart is never reached; with the second
-- active, the loop restarts with the first. Assumes nothing.
use mathlib.Core.Path.{◌≡◌, refl, sym, ◌∙◌, ap, subst, subst⁻¹, subst₂}
use mathlib.Core.Logic.{◌⊎◌, inl, inr, ◌≢◌}
use mathlib.Core.Bool.{Bool, true, false, not, cond, ◌&&◌}
use mathlib.Core.List.{List}
use Prim.Native.Nat.{ℕ, ◌+◌}
use lib.Dec.{T}
use lib.ListN.{length}
use Rattle.sets.specs.Numbers.{Numbers, listed}
use Rattle.sets.proofs.Members.{same, of_true, of_false, is_true, is_false, and_in, and_left, and_right}
use Rattle.rules.specs.Statements.{Stmt, nothing, pause, emit, present?◌then◌else◌, suspend◌on◌, ◌⨾◌, loop, ◌parallel◌, trap, exit, local, pauses, Numbered}
use Rattle.rules.specs.Instant.{Step, done, stay, test, chain, beside, any, active, held, started, resumed}
use Rattle.rules.specs.Loops.{codes_of, loops_pass}
use Rattle.rules.specs.States.{is_parallel, compatible}
use Rattle.theorems.specs.Checked.{itself}
use Rattle.theorems.proofs.LoopCodes.{loop_body_never_zero}
use Rattle.theorems.proofs.KeepsSome.{any_out, any_in}
use Rattle.theorems.proofs.Compatible.{Agrees, TwoParts, Halves, present_halves, sequence_halves, parallel_halves, part_suspend, part_loop}
use Rattle.theorems.proofs.Compatible.{part_trap, part_local, numbered_part, agrees_one, agrees_other, agrees_part, lowest_across, in_one, in_other}
use Rattle.likeness.specs.Likeness.{Distinct, Like, Image}
use Rattle.likeness.proofs.Forms.{like_done, like_stay, like_say, like_leave, like_test, like_catch, like_beside}
use Rattle.likeness.proofs.Forms.{like_chain, like_alike, like_scope, naming_apart, GivesNoZero, first_alone, ends_not, like_never}
use Rattle.likeness.proofs.Images.{image_closed, image_single}
use Rattle.doubled.proofs.Copied.{Copy, of_nothing, of_pause, of_emit, of_present, of_suspend, of_sequence, of_loop}
use Rattle.doubled.proofs.Copied.{of_parallel, of_trap, of_exit, of_local, copy_into, listed_one, listed_other, listed_either}

body_gives_no_zero : (p : Stmt) → T (loops_pass (loop p)) → GivesNoZero (started p)
body_gives_no_zero p h = (loop_body_never_zero p (loop p) itself h).not_given

body_passes : (p : Stmt) → T (loops_pass (loop p)) → T (loops_pass p)
unfolding loops_pass
body_passes p h = and_right (not (codes_of p 0)) (loops_pass p) h

module _ (o : ℕ → ℕ) where
  pub started_like : {D : Numbers} {ρ : ℕ → ℕ} {p p' : Stmt} → Copy o D ρ p p' → Distinct D ρ → T (loops_pass p) → Like (Image o) D ρ (started p) (started p')
  unfolding started loops_pass
  started_like of_nothing a h = like_done (image_closed o)
  started_like (of_pause {m = m} {n = n} e) a h = like_stay (image_closed o) (image_single o m n e)
  started_like (of_emit {s = s} d) a h = like_say (image_closed o) a s d
  started_like (of_present {s = s} {p = p} {q = q} d f g) a h =
      like_test (image_closed o) s d (started_like f a (and_left (loops_pass p) (loops_pass q) h)) (started_like g a (and_right (loops_pass p) (loops_pass q) h))
  started_like (of_suspend d f) a h = started_like f a h
  started_like (of_sequence {p = p} {q = q} f g) a h =
      like_chain (image_closed o) (started_like f a (and_left (loops_pass p) (loops_pass q) h)) (started_like g a (and_right (loops_pass p) (loops_pass q) h))
  started_like (of_loop {p = p} {p₁ = p₁} {p₂ = p₂} f g) a h =
      let x = started_like f a (and_right (not (codes_of p 0)) (loops_pass p) h) in
      like_alike (image_closed o) x (first_alone (started p₁) (started p₂) (like_never x (body_gives_no_zero p h)))
  started_like (of_parallel {p = p} {q = q} f g) a h =
      like_beside (image_closed o) (started_like f a (and_left (loops_pass p) (loops_pass q) h)) (started_like g a (and_right (loops_pass p) (loops_pass q) h))
  started_like (of_trap f) a h = like_catch (image_closed o) (started_like f a h)
  started_like (of_exit {d = d}) a h = like_leave (image_closed o) d
  started_like (of_local {D = D} {ρ = ρ} {s = s} {n = n} new fresh f) a h =
      like_scope D ρ s n new fresh (image_closed o) (started_like f (naming_apart D ρ s n new fresh a) h)

  -- The active pauses of p are the images of those of p'.
  pub record Stands (A B : Numbers) (p p' : Stmt) : Type 0 where
    pub stand : Image o (held A p) (held B p')

  held_in : (A : Numbers) (p : Stmt) (n : ℕ) → T (A n) → T (listed (pauses p) n) → T (held A p n)
  unfolding held
  held_in A p n s t = and_in (A n) (listed (pauses p) n) s t

  held_out : (A : Numbers) (p : Stmt) (n : ℕ) → T (held A p n) → T (A n) × T (listed (pauses p) n)
  unfolding held
  held_out A p n t = (and_left (A n) (listed (pauses p) n) t, and_right (A n) (listed (pauses p) n) t)

  active_held : (A : Numbers) (p : Stmt) → T (active A p) → (n : ℕ) × T (held A p n)
  unfolding active
  active_held A p t = let r = any_out A (pauses p) t in (r.0, held_in A p r.0 r.1 r.2)

  held_active : (A : Numbers) (p : Stmt) (n : ℕ) → T (held A p n) → T (active A p)
  unfolding active
  held_active A p n t = let r = held_out A p n t in any_in A (pauses p) n r.0 r.1

  active_same : {A B : Numbers} (p p' : Stmt) → Stands A B p p' → active B p' ≡ active A p
  active_same {A} {B} p p' f =
      same (active B p') (active A p)
      (λ t. let r = active_held B p' t in held_active A p (o r.0) (f.stand.there r.0 r.1))
      (λ t. let r = active_held A p t in let m = f.stand.back r.0 r.1 in held_active B p' m.0 m.1)

  -- From a statement to a part of it: what stands in the whole stands in the part, if a pause of the part has none of its images elsewhere.
  stands_part : {A B : Numbers} (r p r' p' : Stmt) → ((n : ℕ) → T (listed (pauses p) n) → T (listed (pauses r) n)) → ((m : ℕ) → T (listed (pauses p') m) → T (listed (pauses r') m))
      → ((m : ℕ) → T (listed (pauses p') m) → T (listed (pauses p) (o m)))
      → ((m : ℕ) → T (B m) → T (listed (pauses r') m) → T (listed (pauses p) (o m)) → T (listed (pauses p') m)) → Stands A B r r' → Stands A B p p'
  stands_part {A} {B} r p r' p' up up' into only f = record { stand = record { there = to; back = from } }
    where
      to : (m : ℕ) → T (held B p' m) → T (held A p (o m))
      to m t =
          let x = held_out B p' m t in
          let y = held_out A r (o m) (f.stand.there m (held_in B r' m x.0 (up' m x.1))) in
          held_in A p (o m) y.0 (into m x.1)

      from : (n : ℕ) → T (held A p n) → (m : ℕ) × T (held B p' m) × (o m ≡ n)
      from n t =
          let x = held_out A p n t in
          let y = f.stand.back n (held_in A r n x.0 (up n x.1)) in
          let z = held_out B r' y.0 y.1 in
          (y.0, held_in B p' y.0 z.0 (only y.0 z.0 z.1 (subst⁻¹ (λ (k : ℕ). T (listed (pauses p) k)) y.2 x.1)), y.2)

  module _ {A B : Numbers} {D : Numbers} {ρ : ℕ → ℕ} {r p q r' p' q' : Stmt} (two : TwoParts r p q) (two' : TwoParts r' p' q') (f : Copy o D ρ p p') (g : Copy o D ρ q q')
      (st : Stands A B r r') where
    either_part : (m : ℕ) → T (listed (pauses r') m) → T (listed (pauses p') m) ⊎ T (listed (pauses q') m)
    either_part m t = Rattle.sets.proofs.Members.or_out (listed (pauses p') m) (listed (pauses q') m) (subst T (two'.listed_is m) t)

    stands_one : Stands A B p p'
    stands_one = stands_part r p r' p' (in_one two) (in_one two') (copy_into f) (λ m b t i. go m i (either_part m t)) st
      where
        go : (m : ℕ) → T (listed (pauses p) (o m)) → T (listed (pauses p') m) ⊎ T (listed (pauses q') m) → T (listed (pauses p') m)
        go m i (inl t) = t
        go m i (inr t) = absurd (two.none_common (o m) i (copy_into g m t))

    stands_other : Stands A B q q'
    stands_other = stands_part r q r' q' (in_other two) (in_other two') (copy_into g) (λ m b t i. go m i (either_part m t)) st
      where
        go : (m : ℕ) → T (listed (pauses q) (o m)) → T (listed (pauses p') m) ⊎ T (listed (pauses q') m) → T (listed (pauses q') m)
        go m i (inl t) = absurd (two.none_common (o m) (copy_into f m t) i)
        go m i (inr t) = t

  -- The two copies of a loop body: at most one is active, and the other is left out.
  module _ {A B : Numbers} {D : Numbers} {ρ : ℕ → ℕ} {p p₁ p₂ : Stmt} (two : TwoParts (p₁ ⨾ p₂) p₁ p₂) (f : Copy o D ρ p p₁) (g : Copy o D ρ p p₂)
      (st : Stands A B p (p₁ ⨾ p₂)) where
    either_copy : (m : ℕ) → T (listed (pauses (p₁ ⨾ p₂)) m) → T (listed (pauses p₁) m) ⊎ T (listed (pauses p₂) m)
    either_copy m t = Rattle.sets.proofs.Members.or_out (listed (pauses p₁) m) (listed (pauses p₂) m) (subst T (two.listed_is m) t)

    stands_first : (T (active B p₂) → ⊥) → Stands A B p p₁
    stands_first idle = stands_part p p (p₁ ⨾ p₂) p₁ (λ n t. t) (in_one two) (copy_into f) (λ m b t i. go m b (either_copy m t)) st
      where
        go : (m : ℕ) → T (B m) → T (listed (pauses p₁) m) ⊎ T (listed (pauses p₂) m) → T (listed (pauses p₁) m)
        go m b (inl t) = t
        go m b (inr t) = absurd (idle (held_active B p₂ m (held_in B p₂ m b t)))

    stands_second : (T (active B p₁) → ⊥) → Stands A B p p₂
    stands_second idle = stands_part p p (p₁ ⨾ p₂) p₂ (λ n t. t) (in_other two) (copy_into g) (λ m b t i. go m b (either_copy m t)) st
      where
        go : (m : ℕ) → T (B m) → T (listed (pauses p₁) m) ⊎ T (listed (pauses p₂) m) → T (listed (pauses p₂) m)
        go m b (inl t) = absurd (idle (held_active B p₁ m (held_in B p₁ m b t)))
        go m b (inr t) = t

  pub not_both : (B : Numbers) (p₁ p₂ : Stmt) → TwoParts (p₁ ⨾ p₂) p₁ p₂ → Agrees (p₁ ⨾ p₂) B → T (active B p₁) → T (active B p₂) → ⊥
  unfolding compatible
  not_both B p₁ p₂ two agrees s t =
      let m = active_held B p₁ s in
      let n = active_held B p₂ t in
      let x = held_out B p₁ m.0 m.1 in
      let y = held_out B p₂ n.0 n.1 in
      let differ : m.0 ≢ n.0 = λ e. two.none_common n.0 (subst (λ (k : ℕ). T (listed (pauses p₁) k)) e x.1) y.1 in
      let c = agrees.pairwise m.0 n.0 x.0 y.0 (in_one two m.0 x.1) (in_other two n.0 y.1) differ in
      subst (λ (r : Stmt). T (is_parallel r))
      (lowest_across two m.0 n.0 (λ i j. two.none_common n.0 j y.1) (λ i j. two.none_common m.0 x.1 i)) c

  like_cond : {D : Numbers} {ρ : ℕ → ℕ} {S S' Q Q' : Step} (z z' : Bool) → z' ≡ z → Like (Image o) D ρ S S' → Like (Image o) D ρ Q Q'
      → Like (Image o) D ρ (cond z S Q) (cond z' S' Q')
  like_cond {D} {ρ} {S} {S'} {Q} {Q'} z z' e f g = subst⁻¹ (λ (x : Bool). Like (Image o) D ρ (cond z S Q) (cond x S' Q')) e (go z)
    where
      go : (x : Bool) → Like (Image o) D ρ (cond x S Q) (cond x S' Q')
      go true = f
      go false = g

  -- The pauses held are the same where the statement has those of its part.
  same_held : (A : Numbers) (r p : Stmt) → pauses r ≡ pauses p → held A r ≡ held A p
  unfolding held
  same_held A r p e = λ i n. A n && listed (e i) n

  same_stands : {A B : Numbers} {r p r' p' : Stmt} → pauses r ≡ pauses p → pauses r' ≡ pauses p' → Stands A B r r' → Stands A B p p'
  same_stands {A} {B} {r} {p} {r'} {p'} e e' st = record { stand = subst₂ (Image o) (same_held A r p e) (same_held B r' p' e') st.stand }

  module _ (A B : Numbers) where
    -- A loop resumed, with the first copy of its body active or not.
    restarts : {D : Numbers} {ρ : ℕ → ℕ} {p p₁ p₂ : Stmt} → Copy o D ρ p p₁ → Copy o D ρ p p₂ → Distinct D ρ → T (loops_pass (loop p)) → (z : Bool) → active B p₁ ≡ z
        → (T (active B p₁) → Like (Image o) D ρ (resumed A p) (resumed B p₁)) → ((T (active B p₁) → ⊥) → Like (Image o) D ρ (resumed A p) (resumed B p₂))
        → Like (Image o) D ρ (chain (resumed A p) (started p)) (chain (cond z (chain (resumed B p₁) (started p₂)) (resumed B p₂)) (chain (started p₁) (started p₂)))
    restarts {p = p} {p₁ = p₁} {p₂ = p₂} f g a h true e first second =
        let x = started_like g a (body_passes p h) in
        like_alike (image_closed o) (like_chain (image_closed o) (first (of_true e)) x)
        (first_alone (chain (resumed B p₁) (started p₂)) (chain (started p₁) (started p₂)) (ends_not (resumed B p₁) (started p₂) (like_never x (body_gives_no_zero p h))))
    restarts {p = p} {p₁ = p₁} {p₂ = p₂} f g a h false e first second =
        let x = started_like f a (body_passes p h) in
        like_chain (image_closed o) (second (of_false e)) (like_alike (image_closed o) x (first_alone (started p₁) (started p₂) (like_never x (body_gives_no_zero p h))))

    pub resumed_like : {D : Numbers} {ρ : ℕ → ℕ} {p p' : Stmt} → Copy o D ρ p p' → Distinct D ρ → T (loops_pass p) → (i j : ℕ) → Numbered i p → Numbered j p'
        → Agrees p' B → Stands A B p p' → Like (Image o) D ρ (resumed A p) (resumed B p')
    unfolding resumed started loops_pass
    resumed_like of_nothing a h i j n n' v st = like_done (image_closed o)
    resumed_like (of_pause e) a h i j n n' v st = like_done (image_closed o)
    resumed_like (of_emit d) a h i j n n' v st = like_done (image_closed o)
    resumed_like (of_present {s = s} {p = p} {q = q} {p' = p'} {q' = q'} d f g) a h i j n n' v st =
        let x = present_halves i s p q n in
        let y = present_halves j _ p' q' n' in
        let one = stands_one x.two y.two f g st in
        like_cond (active A p) (active B p') (active_same p p' one)
        (resumed_like f a (and_left (loops_pass p) (loops_pass q) h) i j x.first y.first (agrees_one y.two v) one)
        (resumed_like g a (and_right (loops_pass p) (loops_pass q) h) _ _ x.second y.second (agrees_other y.two v) (stands_other x.two y.two f g st))
    resumed_like (of_suspend {s = s} {p = p} {p' = p'} d f) a h i j n n' v st =
        let body = same_stands (part_suspend p s).same_pauses (part_suspend p' _).same_pauses st in
        like_test (image_closed o) s d (like_stay (image_closed o) body.stand)
        (resumed_like f a h i j (numbered_part i (part_suspend p s) n) (numbered_part j (part_suspend p' _) n') (agrees_part (part_suspend p' _) v) body)
    resumed_like (of_sequence {p = p} {q = q} {p' = p'} {q' = q'} f g) a h i j n n' v st =
        let x = sequence_halves i p q n in
        let y = sequence_halves j p' q' n' in
        let one = stands_one x.two y.two f g st in
        let hp = and_left (loops_pass p) (loops_pass q) h in
        let hq = and_right (loops_pass p) (loops_pass q) h in
        like_cond (active A p) (active B p') (active_same p p' one)
        (like_chain (image_closed o) (resumed_like f a hp i j x.first y.first (agrees_one y.two v) one) (started_like g a hq))
        (resumed_like g a hq _ _ x.second y.second (agrees_other y.two v) (stands_other x.two y.two f g st))
    resumed_like {D} {ρ} (of_loop {p = p} {p₁ = p₁} {p₂ = p₂} f g) a h i j n n' v st =
        let n₀ = numbered_part i (part_loop p) n in
        let y = sequence_halves j p₁ p₂ (numbered_part j (part_loop (p₁ ⨾ p₂)) n') in
        let w = agrees_part (part_loop (p₁ ⨾ p₂)) v in
        let whole = same_stands (part_loop p).same_pauses (part_loop (p₁ ⨾ p₂)).same_pauses st in
        let hp = and_right (not (codes_of p 0)) (loops_pass p) h in
        restarts f g a h (active B p₁) refl
        (λ t. resumed_like f a hp i j n₀ y.first (agrees_one y.two w) (stands_first y.two f g whole (λ u. not_both B p₁ p₂ y.two w t u)))
        (λ t. resumed_like g a hp i _ n₀ y.second (agrees_other y.two w) (stands_second y.two f g whole t))
    resumed_like (of_parallel {p = p} {q = q} {p' = p'} {q' = q'} f g) a h i j n n' v st =
        let x = parallel_halves i p q n in
        let y = parallel_halves j p' q' n' in
        let one = stands_one x.two y.two f g st in
        let other = stands_other x.two y.two f g st in
        like_beside (image_closed o)
        (like_cond (active A p) (active B p') (active_same p p' one)
        (resumed_like f a (and_left (loops_pass p) (loops_pass q) h) i j x.first y.first (agrees_one y.two v) one) (like_done (image_closed o)))
        (like_cond (active A q) (active B q') (active_same q q' other)
        (resumed_like g a (and_right (loops_pass p) (loops_pass q) h) _ _ x.second y.second (agrees_other y.two v) other) (like_done (image_closed o)))
    resumed_like (of_trap {p = p} {p' = p'} f) a h i j n n' v st =
        like_catch (image_closed o)
        (resumed_like f a h i j (numbered_part i (part_trap p) n) (numbered_part j (part_trap p') n') (agrees_part (part_trap p') v)
        (same_stands (part_trap p).same_pauses (part_trap p').same_pauses st))
    resumed_like of_exit a h i j n n' v st = like_done (image_closed o)
    resumed_like (of_local {D = D} {ρ = ρ} {s = s} {n = m} {p = p} {p' = p'} new fresh f) a h i j n n' v st =
        like_scope D ρ s m new fresh (image_closed o)
        (resumed_like f (naming_apart D ρ s m new fresh a) h i j (numbered_part i (part_local s p) n) (numbered_part j (part_local m p') n') (agrees_part (part_local m p') v)
        (same_stands (part_local s p).same_pauses (part_local m p').same_pauses st))
