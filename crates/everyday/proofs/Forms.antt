-- The conversions of halt, sustain, await and abort do what the four are said to do, started and resumed: what they give is in Abort, and what they keep is
-- found here, by the code that must gives. Whatever stays in a step stays at some pause, by induction over the step. Assumes nothing.
use mathlib.Core.Path.{◌≡◌, refl, sym, ◌∙◌, ap, subst, subst⁻¹, subst₂}
use mathlib.Core.Logic.{◌⊎◌, inl, inr}
use mathlib.Core.Bool.{Bool, true, false, cond, ◌||◌}
use Prim.Native.Nat.{ℕ, ◌+◌, ◌≤◌, ◌<◌}
use native.Mathlib.Omega.{arith}
use lib.Dec.{T, eqb, eqb_refl}
use Rattle.sets.specs.Numbers.{Numbers, empty, single, union, without, only_if, downs}
use Rattle.sets.proofs.Members.{is_true, eqb_not, single_out, union_left, union_right, union_out, without_in, without_member, only_if_in, only_if_test, only_if_member, ext_T}
use Rattle.sets.proofs.Maxima.{maxima_out}
use Rattle.rules.specs.Statements.{Depth, depth, code, from}
use Rattle.rules.specs.Events.{Status, present, absent, unknown, Event, giving}
use Rattle.rules.specs.Instant.{Step, done, stay, say, leave, test, catch, scope, chain, beside, any}
use Rattle.rules.specs.MustCan.{plus, opened, Question, must, can, Given, choose, caught, both, followed, onward, gives}
use Rattle.rules.specs.States.{executed_as, kept_by, kept}
use Rattle.theorems.specs.Reactions.{Some}
use Rattle.theorems.proofs.Kept.{kept_at_one, passed}
use Rattle.theorems.proofs.KeepsSome.{Stays, max_is_one}
use Rattle.likeness.specs.Likeness.{Closed, Alike}
use Rattle.likeness.proofs.Forms.{first_alone, kept_chosen}
use Rattle.everyday.specs.Statements.{Alone, abort_when, Everyday, alone, around, is_stop, stops}
use Rattle.everyday.specs.Meaning.{active₂}
use Rattle.everyday.specs.Conversion.{deeper, watches, pauses_made}
use Rattle.everyday.proofs.Sent.{one_same, Sent, Does}
use Rattle.everyday.proofs.Standing.{in_from, Standing, standing_same, active_there, Keeps, keeps_closed}
use Rattle.everyday.proofs.Abort.{ends_now, waits, leaves, after_end, or_none, watched, watched_is, form_waits, form_resumed, await_waits, await_resumes}

-- Code 1 comes with something kept, where every stay keeps some pause.
pub some_kept : (S : Step) → Stays S → (E : Event) → T ((gives must S E).codes 1) → Some (kept S E)
unfolding gives kept downs
some_kept done s E t = absurd t
some_kept (stay A) s E t = s
some_kept (say n) s E t = absurd t
some_kept (leave d) s E t = absurd (Rattle.theorems.proofs.KeepsSome.exit_code d (sym (single_out (code d) 1 t)))
some_kept (test n p q) s E t =
    go (E n) t (some_kept p s.0 E) (some_kept q s.1 E)
  where
    go : (v : Status) → T ((choose must v (gives must p E) (gives must q E) (gives must p E) (gives must q E)).codes 1) → (T ((gives must p E).codes 1) → Some (kept p E))
        → (T ((gives must q E).codes 1) → Some (kept q E))
        → Some (only_if ((choose must v (gives must p E) (gives must q E) (gives must p E) (gives must q E)).codes 1) (kept_by v (kept p E) (kept q E)))
    go present t f g = let k = f t in (k.0, only_if_in ((gives must p E).codes 1) (kept p E) k.0 t k.1)
    go absent t f g = let k = g t in (k.0, only_if_in ((gives must q E).codes 1) (kept q E) k.0 t k.1)
    go unknown t f g = absurd t
some_kept (catch p) s E t = let k = some_kept p s E t in (k.0, only_if_in ((gives must p E).codes 1) (kept p E) k.0 t k.1)
some_kept (scope n p) s E t =
    let E' = giving E n (executed_as n p E) in
    let k = some_kept p s E' t in
    (k.0, only_if_in ((gives must p E').codes 1) (kept p E') k.0 t k.1)
some_kept (chain p q) s E t =
    let k = go (union_out (without 0 (gives must p E).codes) (only_if ((gives must p E).codes 0) (gives must q E).codes) 1 t) (some_kept p s.0 E) (some_kept q s.1 E) in
    (k.0, only_if_in ((gives must (chain p q) E).codes 1) (union (kept p E) (only_if ((gives must p E).codes 0) (kept q E))) k.0 t k.1)
  where
    go : T (without 0 (gives must p E).codes 1) ⊎ T (only_if ((gives must p E).codes 0) (gives must q E).codes 1) → (T ((gives must p E).codes 1) → Some (kept p E))
        → (T ((gives must q E).codes 1) → Some (kept q E)) → Some (union (kept p E) (only_if ((gives must p E).codes 0) (kept q E)))
    go (inl u) f g = let k = f (without_member 0 (gives must p E).codes 1 u) in (k.0, union_left (kept p E) (only_if ((gives must p E).codes 0) (kept q E)) k.0 k.1)
    go (inr u) f g =
        let k = g (only_if_member ((gives must p E).codes 0) (gives must q E).codes 1 u) in (
          k.0,
          union_right (kept p E) (only_if ((gives must p E).codes 0) (kept q E)) k.0
              (only_if_in ((gives must p E).codes 0) (kept q E) k.0 (only_if_test ((gives must p E).codes 0) (gives must q E).codes 1 u) k.1),
        )
some_kept (beside p q) s E t =
    let r = maxima_out (gives must p E).codes (gives must q E).codes 1 t in
    let k = go r.0 r.1 r.2 r.3 (max_is_one r.0 r.1 r.4) (some_kept p s.0 E) (some_kept q s.1 E) in
    (k.0, only_if_in ((gives must (beside p q) E).codes 1) (union (kept p E) (kept q E)) k.0 t k.1)
  where
    go : (m n : ℕ) → T ((gives must p E).codes m) → T ((gives must q E).codes n) → (m ≡ 1) ⊎ (n ≡ 1) → (T ((gives must p E).codes 1) → Some (kept p E))
        → (T ((gives must q E).codes 1) → Some (kept q E)) → Some (union (kept p E) (kept q E))
    go m n x y (inl e) f g = let k = f (subst (λ (c : ℕ). T ((gives must p E).codes c)) e x) in (k.0, union_left (kept p E) (kept q E) k.0 k.1)
    go m n x y (inr e) f g = let k = g (subst (λ (c : ℕ). T ((gives must q E).codes c)) e y) in (k.0, union_right (kept p E) (kept q E) k.0 k.1)

-- The tests for code 1 change nothing.
pub kept_tested : (s : ℕ) (p q : Step) (E : Event) → kept (test s p q) E ≡ kept_by (E s) (kept p E) (kept q E)
unfolding kept gives
kept_tested s p q E = go (E s)
  where
    go : (v : Status) → only_if ((choose must v (gives must p E) (gives must q E) (gives must p E) (gives must q E)).codes 1) (kept_by v (kept p E) (kept q E)) ≡ kept_by v (kept p E) (kept q E)
    go present = passed ((gives must p E).codes 1) (kept p E) (kept_at_one p E)
    go absent = passed ((gives must q E).codes 1) (kept q E) (kept_at_one q E)
    go unknown = refl

kept_caught : (p : Step) (E : Event) → kept (catch p) E ≡ kept p E
unfolding kept gives downs
kept_caught p E = passed ((gives must p E).codes 1) (kept p E) (kept_at_one p E)

kept_then_leave : (p : Step) (d : Depth) (E : Event) → kept (chain p (leave d)) E ≡ kept p E
unfolding kept gives
kept_then_leave p d E = ext_T there back
  where
    z : Bool
    z = (gives must (chain p (leave d)) E).codes 1

    rest : Numbers
    rest = only_if ((gives must p E).codes 0) empty

    there : (n : ℕ) → T (only_if z (union (kept p E) rest) n) → T (kept p E n)
    there n t = go (union_out (kept p E) rest n (only_if_member z (union (kept p E) rest) n t))
      where
        go : T (kept p E n) ⊎ T (rest n) → T (kept p E n)
        go (inl k) = k
        go (inr k) = absurd (only_if_member ((gives must p E).codes 0) empty n k)

    back : (n : ℕ) → T (kept p E n) → T (only_if z (union (kept p E) rest) n)
    back n t =
        only_if_in z (union (kept p E) rest) n
        (union_left (without 0 (gives must p E).codes) (only_if ((gives must p E).codes 0) (single (code d))) 1
        (without_in 0 (gives must p E).codes 1 (kept_at_one p E n t) (λ e. absurd (omega arith))))
        (union_left (kept p E) rest n t)

-- Steps that are the same may stand for one another.
pub does_alike : {out : Depth → Depth} {R : Numbers → Numbers → Type 0} {S S' S'' : Step} → Does out R S S' → Alike S' S'' → Does out R S S''
does_alike {out} {R} {S} {S'} {S''} f a = record {
  gives_sent = λ k E. subst (λ (g : Given). Sent out (gives k S E) g) (a.gives_alike k E) (f.gives_sent k E);
  keeps = λ E. subst (λ (A : Numbers). R (kept S E) A) (a.kept_alike E) (f.keeps E);
}

pub after_done : (S : Step) → Alike S (chain done S)
unfolding gives kept
after_done S = record { gives_alike = λ k E. gives_on k E; kept_alike = λ E. sym (passed ((gives must (chain done S) E).codes 1) (kept S E) (at_one E)) }
  where
    gives_on : (k : Question) (E : Event) → gives k S E ≡ gives k (chain done S) E
    gives_on must E = sym (after_end (gives must S E))
    gives_on (can plus) E = sym (after_end (gives (can plus) S E))
    gives_on (can opened) E = sym (after_end (gives (can opened) S E))

    at_one : (E : Event) (n : ℕ) → T (kept S E n) → T ((gives must (chain done S) E).codes 1)
    at_one E n t = subst (λ (g : Given). T (g.codes 1)) (gives_on must E) (kept_at_one S E n t)

after_stay : (w : ℕ) (Q : Step) → Alike (stay (single w)) (chain (stay (single w)) Q)
unfolding gives
after_stay w Q = first_alone (stay (single w)) Q (λ k E t. absurd t)

-- The watching loop, resumed.
abbrev pub asks : ℕ → Step
asks s = test s (leave (depth 0)) done

abbrev pub watch_resumed : ℕ → ℕ → Step
watch_resumed s w = chain (chain done (asks s)) (chain (stay (single w)) (asks s))

module _ (s w : ℕ) (E : Event) where
  watch_gives : (k : Question) → gives k (watch_resumed s w) E ≡ watched k (E s)
  unfolding gives code
  watch_gives k =
      ap (followed (gives k (chain done (asks s)) E)) (sym ((after_stay w (asks s)).gives_alike (onward k ((gives must (chain done (asks s)) E).codes 0)) E))
      ∙ watched_is k (E s)

  asks_keeps_none : kept (chain done (asks s)) E ≡ empty
  unfolding gives code
  asks_keeps_none = ext_T (λ n t. absurd (go (E s) (subst (λ (g : Given). T (g.codes 1)) (after_end (gives must (asks s) E)) (kept_at_one (chain done (asks s)) E n t)))) (λ n t. absurd t)
    where
      go : (v : Status) → T ((choose must v leaves ends_now leaves ends_now).codes 1) → ⊥
      go present t = t
      go absent t = t
      go unknown t = t

  watch_keeps : kept (watch_resumed s w) E ≡ kept_by (E s) empty (single w)
  unfolding gives kept code
  watch_keeps =
      (λ i. only_if ((watch_gives must i).codes 1)
      (union (asks_keeps_none i) (only_if ((after_end (gives must (asks s) E) i).codes 0) (sym ((after_stay w (asks s)).kept_alike E) i)))) ∙ go (E s)
    where
      go : (v : Status) → only_if ((watched must v).codes 1) (union empty (only_if ((choose must v leaves ends_now leaves ends_now).codes 0) (single w))) ≡ kept_by v empty (single w)
      go present = refl
      go absent = refl
      go unknown = refl

-- A stop and its pause.
pub keeps_stop : (i j : ℕ) (a : Alone) → T (is_stop a) → Keeps i j (alone a) (single i) (single j)
unfolding Standing stops pauses_made
keeps_stop i j a t = record {
  in_stops = λ n s. let e = single_out i n s in one i n e (is_stop a) t;
  in_pauses = λ m s. let e = single_out j m s in one j m e (is_stop a) t;
  stands = λ u. is_true (eqb j j) (eqb_refl j) ∙ sym (is_true (eqb i i) (eqb_refl i));
}
  where
    one : (k n : ℕ) → n ≡ k → (z : Bool) → T z → (k ≤ n) × (n < k + cond z 1 0)
    one k n e true u = (omega arith, omega arith)
    one k n e false u = absurd u

-- Await.
pub await_started : {out : Depth → Depth} {R : Numbers → Numbers → Type 0} (s i j : ℕ) → R (single i) (single j)
    → Does out R (stay (single i)) (catch (chain (stay (single j)) (asks s)))
unfolding gives kept
await_started {out} {R} s i j r = record {
  gives_sent = λ k E. subst (λ (g : Given). Sent out waits (caught g)) ((after_stay j (asks s)).gives_alike k E) (await_waits out);
  keeps = λ E. subst (λ (A : Numbers). R (single i) A) ((after_stay j (asks s)).kept_alike E ∙ sym (kept_caught (chain (stay (single j)) (asks s)) E)) r;
}

pub await_resumed : {out : Depth → Depth} {R : Numbers → Numbers → Type 0} → Closed R → (s i j : ℕ) → R (single i) (single j)
    → Does out R (test s done (stay (single i))) (catch (watch_resumed s j))
unfolding gives kept
await_resumed {out} {R} c s i j r = record {
  gives_sent = λ k E. subst⁻¹ (λ (g : Given). Sent out (choose k (E s) ends_now waits ends_now waits) (caught g)) (watch_gives s j E k) (await_resumes out k (E s));
  keeps = λ E.
      subst₂ R (sym (kept_tested s done (stay (single i)) E)) (sym (kept_caught (watch_resumed s j) E ∙ watch_keeps s j E)) (kept_chosen c (E s) c.none r);
}

-- Abort: what is kept is what the body keeps, and with it the watching pause.
module _ (i j s : ℕ) (p : Everyday) where
  abbrev pub own : ℕ
  own = j + pauses_made p

  form_keeps : (K K'' : Numbers) → Keeps i j p K K'' → (z : Bool) → ((n : ℕ) → T (K n) → T z) → (T z → Some K'')
      → Keeps i j (around (abort_when s) p) K (only_if z (union K'' (single own)))
  unfolding Standing stops pauses_made watches
  form_keeps K K'' k true up some = record {
    in_stops = k.in_stops;
    in_pauses = λ m t. inside m (union_out K'' (single own) m t);
    stands = (standing_same i j p (λ n l u. refl) (λ m l u. other m u) k.stands, λ t. is_true (union K'' (single own) own) (union_right K'' (single own) own (eqb_refl own)) ∙ sym watched_on);
  }
    where
      inside : (m : ℕ) → T (K'' m) ⊎ T (single own m) → (j ≤ m) × (m < j + (pauses_made p + 1))
      inside m (inl t) = let r = k.in_pauses m t in let u = r.1 in (r.0, omega arith)
      inside m (inr t) = let e = single_out own m t in (omega arith, omega arith)

      other : (m : ℕ) → m < j + pauses_made p → (K'' m || eqb m own) ≡ K'' m
      other m u = ap (λ (x : Bool). K'' m || x) (eqb_not m own (λ e. absurd (omega arith))) ∙ or_none (K'' m)

      watched_on : active₂ i K p ≡ true
      watched_on =
          let x = some tt in
          let r = k.in_pauses x.0 x.1 in
          sym (active_there i j p K K'' k.stands) ∙ is_true (any K'' (from j (pauses_made p))) (in_from K'' j (pauses_made p) x.0 x.1 r.0 r.1)
  form_keeps K K'' k false up some =
      subst⁻¹ (λ (A : Numbers). Keeps i j (around (abort_when s) p) A empty) (ext_T (λ n t. absurd (up n t)) (λ n t. absurd t)) (keeps_closed i j (around (abort_when s) p)).none

  module _ (out : Depth → Depth) {S S₁ : Step} (f : Does (λ d. deeper (out d)) (Keeps i j p) S S₁) (st : Stays S₁) where
    -- Where must gives the form the body's codes.
    body_keeps : (E : Event) (z : Bool) → z ≡ (gives must S E).codes 1 → Keeps i j (around (abort_when s) p) (kept S E) (only_if z (union (kept S₁ E) (single own)))
    body_keeps E z e =
        form_keeps (kept S E) (kept S₁ E) (f.keeps E) z (λ n t. subst⁻¹ T e (kept_at_one S E n t))
        (λ t. some_kept S₁ st E (subst⁻¹ T (one_same (λ d. deeper (out d)) (f.gives_sent must E).of_codes) (subst T e t)))

    abbrev form_started : Step
    form_started = catch (beside (chain S₁ (leave (depth 0))) (chain (stay (single own)) (asks s)))

    started_sent : (k : Question) (E : Event) → Sent out (gives k S E) (gives k form_started E)
    unfolding gives code
    started_sent k E =
        subst (λ (g : Given). Sent out (gives k S E) (caught (both (followed (gives k S₁ E) leaves) g))) ((after_stay own (asks s)).gives_alike k E) (form_waits out (f.gives_sent k E))

    started_kept : (E : Event) → kept form_started E ≡ only_if ((gives must form_started E).codes 1) (union (kept S₁ E) (single own))
    unfolding gives kept downs
    started_kept E =
        kept_caught (beside (chain S₁ (leave (depth 0))) (chain (stay (single own)) (asks s))) E
        ∙ (λ x. only_if ((gives must form_started E).codes 1) (union (kept_then_leave S₁ (depth 0) E x) (sym ((after_stay own (asks s)).kept_alike E) x)))

    pub abort_started : Does out (Keeps i j (around (abort_when s) p)) S form_started
    abort_started = record {
      gives_sent = started_sent;
      keeps = λ E.
          subst⁻¹ (λ (A : Numbers). Keeps i j (around (abort_when s) p) (kept S E) A) (started_kept E)
          (body_keeps E ((gives must form_started E).codes 1) (one_same out (started_sent must E).of_codes));
    }

    module _ (H H' : Numbers) where
      abbrev direct : Step
      direct = test s done (test s (stay H) S)

      abbrev pub form_again : Step
      form_again = catch (beside (chain (test s (stay H') S₁) (leave (depth 0))) (watch_resumed s own))

      resumed_sent : (k : Question) (E : Event) → Sent out (gives k direct E) (gives k form_again E)
      unfolding gives code
      resumed_sent k E =
          subst⁻¹ (λ (g : Given). Sent out (gives k direct E) (caught (both (followed (gives k (test s (stay H') S₁) E) leaves) g))) (watch_gives s own E k)
          (form_resumed out k (E s) (λ q. gives q S E) (λ q. gives q S₁ E) (λ q. f.gives_sent q E))

      resumed_kept : (E : Event) → kept form_again E
          ≡ only_if ((gives must form_again E).codes 1) (union (kept_by (E s) H' (kept S₁ E)) (kept_by (E s) empty (single own)))
      unfolding gives kept downs
      resumed_kept E =
          kept_caught (beside (chain (test s (stay H') S₁) (leave (depth 0))) (watch_resumed s own)) E
          ∙ (λ x. only_if ((gives must form_again E).codes 1) (union ((kept_then_leave (test s (stay H') S₁) (depth 0) E ∙ kept_tested s (stay H') S₁ E) x) (watch_keeps s own E x)))

      abbrev directly : Event → Status → Given
      directly E v =
          let body = choose must v waits (gives must S E) waits (gives must S E) in
          choose must v ends_now body ends_now body

      by_status : (E : Event) (v : Status) (z : Bool) → z ≡ (directly E v).codes 1
          → Keeps i j (around (abort_when s) p) (kept_by v empty (kept_by v H (kept S E))) (only_if z (union (kept_by v H' (kept S₁ E)) (kept_by v empty (single own))))
      by_status E present z e =
          subst⁻¹ (λ (x : Bool). Keeps i j (around (abort_when s) p) empty (only_if x (union H' empty))) e (keeps_closed i j (around (abort_when s) p)).none
      by_status E absent z e = body_keeps E z e
      by_status E unknown z e =
          subst⁻¹ (λ (x : Bool). Keeps i j (around (abort_when s) p) empty (only_if x (union empty empty))) e (keeps_closed i j (around (abort_when s) p)).none

      pub abort_resumed : Does out (Keeps i j (around (abort_when s) p)) direct form_again
      unfolding gives kept
      abort_resumed = record {
        gives_sent = resumed_sent;
        keeps = λ E.
            subst₂ (Keeps i j (around (abort_when s) p))
            (sym (kept_tested s done (test s (stay H) S) E ∙ ap (kept_by (E s) empty) (kept_tested s (stay H) S E)))
            (sym (resumed_kept E)) (by_status E (E s) ((gives must form_again E).codes 1) (one_same out (resumed_sent must E).of_codes));
      }
