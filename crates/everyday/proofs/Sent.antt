-- A step and the step of its conversion, in which exits are deeper: the same signals, and the codes sent where the exits go. It goes through every form,
-- since sending keeps 0 and 1, keeps the order, and goes through a trap. Assumes nothing.
use mathlib.Core.Path.{◌≡◌, refl, sym, ◌∙◌, ap, ap₂, subst, subst⁻¹}
use mathlib.Core.Bool.{Bool, true, false, ◌&&◌}
use Prim.Native.Nat.{ℕ, zero, suc, ◌+◌, ◌≤◌, max}
use native.Mathlib.Nat.{le_refl, le_of_lt, lt_of_not-le, max-eq_left, max-eq_right}
use native.Mathlib.Decide.{dec_le}
use native.Mathlib.Omega.{arith}
use lib.Dec.{T}
use Rattle.sets.specs.Numbers.{Numbers, empty, single, union, without, only_if, maxima, down, downs}
use Rattle.sets.proofs.Members.{same, without_in, without_member, without_other}
use Rattle.sets.proofs.Maxima.{maxima_in, maxima_out, downs_in, downs_out}
use Rattle.rules.specs.Statements.{Depth, depth, code}
use Rattle.rules.specs.Events.{Status, present, absent, unknown, Event, giving}
use Rattle.rules.specs.Instant.{Step, done, stay, say, leave, test, catch, scope, chain, beside}
use Rattle.rules.specs.MustCan.{Question, must, can, Given, in_doubt, choose, caught, both, followed, onward, absence_asked, asks_must, marked, local_status, hidden, gives}
use Rattle.rules.specs.States.{executed_as, kept}
use Rattle.likeness.specs.Likeness.{Closed, Image}
use Rattle.likeness.proofs.Images.{image_closed, image_single}
use Rattle.likeness.proofs.Forms.{kept_where, kept_chosen}
use Rattle.everyday.specs.Conversion.{deeper, past_trap}

-- The code of the conversion: that of an exit changes with its depth.
unfoldable pub sent : (Depth → Depth) → ℕ → ℕ
unfolding code
sent out zero = 0
sent out (suc zero) = 1
sent out (suc (suc d)) = code (out (depth d))

-- Deeper exits stay deeper.
pub record Rising (out : Depth → Depth) : Type 0 where
  pub rises : (d e : ℕ) → d ≤ e → code (out (depth d)) ≤ code (out (depth e))

exit_code : (d : Depth) → 2 ≤ code d
unfolding code
exit_code (depth d) = omega arith

code_deeper : (d : Depth) → code (deeper d) ≡ suc (code d)
unfolding code
code_deeper (depth d) = omega arith

pub sent_zero : (out : Depth → Depth) (c : ℕ) → sent out c ≡ 0 → c ≡ 0
unfolding sent
sent_zero out zero e = refl
sent_zero out (suc zero) e = absurd (omega arith)
sent_zero out (suc (suc d)) e = let h = exit_code (out (depth d)) in absurd (omega arith)

sent_one : (out : Depth → Depth) (c : ℕ) → sent out c ≡ 1 → c ≡ 1
unfolding sent
sent_one out zero e = absurd (omega arith)
sent_one out (suc zero) e = refl
sent_one out (suc (suc d)) e = let h = exit_code (out (depth d)) in absurd (omega arith)

pub sent_keeps_zero : (out : Depth → Depth) → sent out 0 ≡ 0
unfolding sent
sent_keeps_zero out = refl

pub sent_keeps_one : (out : Depth → Depth) → sent out 1 ≡ 1
unfolding sent
sent_keeps_one out = refl

pub sent_exit : (out : Depth → Depth) (d : Depth) → sent out (code d) ≡ code (out d)
unfolding sent code
sent_exit out (depth d) = ap (sent out) {x = d + 2} {y = suc (suc d)} (omega arith)

module _ {out : Depth → Depth} (r : Rising out) where
  sent_order : (m n : ℕ) → m ≤ n → sent out m ≤ sent out n
  unfolding sent
  sent_order zero n h = omega arith
  sent_order (suc zero) zero h = absurd (omega arith)
  sent_order (suc zero) (suc zero) h = le_refl 1
  sent_order (suc zero) (suc (suc e)) h = let x = exit_code (out (depth e)) in omega arith
  sent_order (suc (suc d)) zero h = absurd (omega arith)
  sent_order (suc (suc d)) (suc zero) h = absurd (omega arith)
  sent_order (suc (suc d)) (suc (suc e)) h = r.rises d e (omega arith)

  sent_max : (m n : ℕ) → max (sent out m) (sent out n) ≡ sent out (max m n)
  sent_max m n = go (dec_le m n)
    where
      go : Dec (m ≤ n) → max (sent out m) (sent out n) ≡ sent out (max m n)
      go (yes h) = max-eq_right (sent_order m n h) ∙ ap (sent out) (sym (max-eq_right h))
      go (no h) = let l = le_of_lt (lt_of_not-le h) in max-eq_left (sent_order n m l) ∙ ap (sent out) (sym (max-eq_left l))

  pub rising_deeper : Rising (λ d. deeper (out d))
  rising_deeper = record { rises = λ d e h. let x = code_deeper (out (depth d)) in let y = code_deeper (out (depth e)) in let z = r.rises d e h in omega arith }

  pub rising_past_trap : Rising (past_trap out)
  unfolding code
  rising_past_trap = record { rises = go }
    where
      go : (d e : ℕ) → d ≤ e → code (past_trap out (depth d)) ≤ code (past_trap out (depth e))
      go zero zero h = le_refl 2
      go zero (suc e) h = exit_code (deeper (out (depth e)))
      go (suc d) zero h = absurd (omega arith)
      go (suc d) (suc e) h = rising_deeper.rises d e (omega arith)

-- A trap takes what goes past it one up again.
down_code : (d : Depth) → down (code (deeper d)) ≡ code d
unfolding down code
down_code (depth d) = ap down {x = suc d + 2} {y = suc (suc (suc d))} (omega arith) ∙ (omega arith)

pub down_sent : (out : Depth → Depth) (c : ℕ) → down (sent (past_trap out) c) ≡ sent out (down c)
unfolding sent down code
down_sent out zero = refl
down_sent out (suc zero) = refl
down_sent out (suc (suc zero)) = refl
down_sent out (suc (suc (suc d))) = down_code (out (depth d))

pub down_deeper : (out : Depth → Depth) (c : ℕ) → down (sent (λ d. deeper (out d)) c) ≡ sent out c
unfolding sent down
down_deeper out zero = refl
down_deeper out (suc zero) = refl
down_deeper out (suc (suc d)) = down_code (out (depth d))

-- Sets of codes that stand for others.
module _ {o : ℕ → ℕ} where
  image_at : {A B : Numbers} → Image o A B → (c : ℕ) → o c ≡ c → ((m : ℕ) → o m ≡ c → m ≡ c) → A c ≡ B c
  image_at {A} {B} f c e only =
      same (A c) (B c) (λ t. let r = f.back c t in subst (λ (n : ℕ). T (B n)) (only r.0 r.2) r.1) (λ t. subst (λ (n : ℕ). T (A n)) e (f.there c t))

  image_none : Image o empty empty
  image_none = record { there = λ m t. t; back = λ n t. absurd t }

  pub image_only_if : (z z' : Bool) {A B : Numbers} → z' ≡ z → Image o A B → Image o (only_if z' A) (only_if z B)
  image_only_if z z' {A} {B} e f = subst⁻¹ (λ (x : Bool). Image o (only_if x A) (only_if z B)) e (go z)
    where
      go : (x : Bool) → Image o (only_if x A) (only_if x B)
      go true = f
      go false = image_none

  pub image_equal : {A B : Numbers} → ((n : ℕ) → o n ≡ n) → Image o A B → A ≡ B
  image_equal {A} {B} e f =
      Rattle.sets.proofs.Members.ext (λ n. image_at f n (e n) (λ m q. sym (e m) ∙ q))

module _ (out : Depth → Depth) {A B : Numbers} (f : Image (sent out) A B) where
  pub zero_same : A 0 ≡ B 0
  zero_same = image_at f 0 (sent_keeps_zero out) (sent_zero out)

  pub one_same : A 1 ≡ B 1
  one_same = image_at f 1 (sent_keeps_one out) (sent_one out)

  pub image_without : Image (sent out) (without 0 A) (without 0 B)
  image_without = record {
    there = λ m t. without_in 0 A (sent out m) (f.there m (without_member 0 B m t)) (λ e. without_other 0 B m t (sent_zero out m e));
    back = λ n t.
        let r = f.back n (without_member 0 A n t) in
        (r.0, without_in 0 B r.0 r.1 (λ e. without_other 0 A n t (sym r.2 ∙ ap (sent out) e ∙ sent_keeps_zero out)), r.2);
  }

pub image_maxima : {out : Depth → Depth} → Rising out → {A B A' B' : Numbers} → Image (sent out) A B → Image (sent out) A' B' → Image (sent out) (maxima A A') (maxima B B')
image_maxima {out} r {A} {B} {A'} {B'} f g = record { there = to; back = from }
  where
    to : (k : ℕ) → T (maxima B B' k) → T (maxima A A' (sent out k))
    to k t =
        let x = maxima_out B B' k t in
        subst (λ (n : ℕ). T (maxima A A' n)) (sent_max r x.0 x.1 ∙ ap (sent out) x.4)
        (maxima_in A A' (sent out x.0) (sent out x.1) (f.there x.0 x.2) (g.there x.1 x.3))

    from : (k : ℕ) → T (maxima A A' k) → (m : ℕ) × T (maxima B B' m) × (sent out m ≡ k)
    from k t =
        let x = maxima_out A A' k t in
        let y = f.back x.0 x.2 in
        let z = g.back x.1 x.3 in
        (max y.0 z.0, maxima_in B B' y.0 z.0 y.1 z.1, sym (sent_max r y.0 z.0) ∙ ap₂ max y.2 z.2 ∙ x.4)

pub image_downs : (out : Depth → Depth) {A B : Numbers} → Image (sent (past_trap out)) A B → Image (sent out) (downs A) (downs B)
image_downs out {A} {B} f = record { there = to; back = from }
  where
    to : (k : ℕ) → T (downs B k) → T (downs A (sent out k))
    to k t =
        let x = downs_out B k t in
        subst (λ (n : ℕ). T (downs A n)) (down_sent out x.0 ∙ ap (sent out) x.2) (downs_in A (sent (past_trap out) x.0) (f.there x.0 x.1))

    from : (k : ℕ) → T (downs A k) → (m : ℕ) × T (downs B m) × (sent out m ≡ k)
    from k t =
        let x = downs_out A k t in
        let y = f.back x.0 x.1 in
        (down y.0, downs_in B y.0 y.1, sym (down_sent out y.0) ∙ ap down y.2 ∙ x.2)

-- What must and can give.
pub record Sent (out : Depth → Depth) (a a' : Given) : Type 0 where
  pub of_signals : a'.signals ≡ a.signals
  pub of_codes : Image (sent out) a'.codes a.codes

module _ {out : Depth → Depth} where
  pub sent_none : Sent out (record { signals = empty; codes = empty }) (record { signals = empty; codes = empty })
  sent_none = record { of_signals = refl; of_codes = image_none }

  sent_code : (S : Numbers) (c c' : ℕ) → sent out c ≡ c' → Sent out (record { signals = S; codes = single c }) (record { signals = S; codes = single c' })
  sent_code S c c' e = record { of_signals = refl; of_codes = image_single (sent out) c c' e }

  sent_choose : (k : Question) (v : Status) {p q p? q? p' q' p?' q?' : Given} → Sent out p p' → Sent out q q' → Sent out p? p?' → Sent out q? q?'
      → Sent out (choose k v p q p? q?) (choose k v p' q' p?' q?')
  sent_choose k present a b c d = a
  sent_choose k absent a b c d = b
  sent_choose must unknown a b c d = sent_none
  sent_choose (can m) unknown a b c d = record { of_signals = ap₂ union c.of_signals d.of_signals; of_codes = (image_closed (sent out)).both c.of_codes d.of_codes }

  pub sent_caught : {a a' : Given} → Sent (past_trap out) a a' → Sent out (caught a) (caught a')
  sent_caught f = record { of_signals = f.of_signals; of_codes = image_downs out f.of_codes }

  sent_both : Rising out → {a b a' b' : Given} → Sent out a a' → Sent out b b' → Sent out (both a b) (both a' b')
  sent_both r f g = record { of_signals = ap₂ union f.of_signals g.of_signals; of_codes = image_maxima r f.of_codes g.of_codes }

  pub sent_followed : {a b a' b' : Given} → Sent out a a' → Sent out b b' → Sent out (followed a b) (followed a' b')
  sent_followed {a} {b} {a'} {b'} f g =
      let z = zero_same out f.of_codes in
      record {
        of_signals = λ i. union (f.of_signals i) (only_if (z i) (g.of_signals i));
        of_codes = (image_closed (sent out)).both (image_without out f.of_codes) (image_only_if (a.codes 0) (a'.codes 0) z g.of_codes);
      }

  sent_hidden : (s : ℕ) {a a' : Given} → Sent out a a' → Sent out (hidden s a) (hidden s a')
  sent_hidden s f = record { of_signals = ap (without s) f.of_signals; of_codes = f.of_codes }

-- S' does what S does, with exits sent, and keeps related sets.
pub record Does (out : Depth → Depth) (R : Numbers → Numbers → Type 0) (S S' : Step) : Type 0 where
  pub gives_sent : (k : Question) (E : Event) → Sent out (gives k S E) (gives k S' E)
  pub keeps : (E : Event) → R (kept S E) (kept S' E)

-- The same for a wider relation.
pub does_wider : {out : Depth → Depth} {R R' : Numbers → Numbers → Type 0} {S S' : Step} → ((K K' : Numbers) → R K K' → R' K K') → Does out R S S' → Does out R' S S'
does_wider w f = record { gives_sent = f.gives_sent; keeps = λ E. w _ _ (f.keeps E) }

module _ {out : Depth → Depth} {R : Numbers → Numbers → Type 0} (c : Closed R) where
  pub does_done : Does out R done done
  unfolding gives kept
  does_done = record { gives_sent = λ k E. sent_code empty 0 0 (sent_keeps_zero out); keeps = λ E. c.none }

  pub does_stay : {A A' : Numbers} → R A A' → Does out R (stay A) (stay A')
  unfolding gives kept
  does_stay r = record { gives_sent = λ k E. sent_code empty 1 1 (sent_keeps_one out); keeps = λ E. r }

  pub does_say : (s : ℕ) → Does out R (say s) (say s)
  unfolding gives kept
  does_say s = record { gives_sent = λ k E. sent_code (single s) 0 0 (sent_keeps_zero out); keeps = λ E. c.none }

  pub does_leave : (d : Depth) → Does out R (leave d) (leave (out d))
  unfolding gives kept
  does_leave d = record { gives_sent = λ k E. sent_code empty (code d) (code (out d)) (sent_exit out d); keeps = λ E. c.none }

  one_kept : {a a' : Given} → Sent out a a' → a'.codes 1 ≡ a.codes 1
  one_kept f = one_same out f.of_codes

  pub does_test : (s : ℕ) {p q p' q' : Step} → Does out R p p' → Does out R q q' → Does out R (test s p q) (test s p' q')
  unfolding gives kept
  does_test s {p} {q} {p'} {q'} f g = record {
    gives_sent = λ k E. sent k E;
    keeps = λ E. kept_where c ((gives must (test s p q) E).codes 1) ((gives must (test s p' q') E).codes 1) (one_kept (sent must E)) (kept_chosen c (E s) (f.keeps E) (g.keeps E));
  }
    where
      sent : (k : Question) (E : Event) → Sent out (gives k (test s p q) E) (gives k (test s p' q') E)
      sent k E = sent_choose k (E s) (f.gives_sent k E) (g.gives_sent k E) (f.gives_sent (in_doubt k) E) (g.gives_sent (in_doubt k) E)

  pub does_catch : {p p' : Step} → Does (past_trap out) R p p' → Does out R (catch p) (catch p')
  unfolding gives kept
  does_catch {p} {p'} f = record {
    gives_sent = λ k E. sent_caught (f.gives_sent k E);
    keeps = λ E. kept_where c ((gives must (catch p) E).codes 1) ((gives must (catch p') E).codes 1) (one_kept (sent_caught (f.gives_sent must E))) (f.keeps E);
  }

  pub does_beside : Rising out → {p q p' q' : Step} → Does out R p p' → Does out R q q' → Does out R (beside p q) (beside p' q')
  unfolding gives kept
  does_beside r {p} {q} {p'} {q'} f g = record {
    gives_sent = λ k E. sent_both r (f.gives_sent k E) (g.gives_sent k E);
    keeps = λ E.
        kept_where c ((gives must (beside p q) E).codes 1) ((gives must (beside p' q') E).codes 1) (one_kept (sent_both r (f.gives_sent must E) (g.gives_sent must E)))
        (c.both (f.keeps E) (g.keeps E));
  }

  pub does_chain : {p q p' q' : Step} → Does out R p p' → Does out R q q' → Does out R (chain p q) (chain p' q')
  unfolding gives kept
  does_chain {p} {q} {p'} {q'} f g = record {
    gives_sent = λ k E. sent k E;
    keeps = λ E.
        kept_where c ((gives must (chain p q) E).codes 1) ((gives must (chain p' q') E).codes 1) (one_kept (sent must E))
        (c.both (f.keeps E) (kept_where c ((gives must p E).codes 0) ((gives must p' E).codes 0) (zero_same out (f.gives_sent must E).of_codes) (g.keeps E)));
  }
    where
      sent : (k : Question) (E : Event) → Sent out (gives k (chain p q) E) (gives k (chain p' q') E)
      sent k E =
          sent_followed (f.gives_sent k E)
          (subst⁻¹ (λ (z : Bool). Sent out (gives (onward k ((gives must p E).codes 0)) q E) (gives (onward k z) q' E)) (zero_same out (f.gives_sent must E).of_codes)
          (g.gives_sent (onward k ((gives must p E).codes 0)) E))

  pub does_scope : (s : ℕ) {p p' : Step} → Does out R p p' → Does out R (scope s p) (scope s p')
  unfolding gives kept
  does_scope s {p} {p'} f = record {
    gives_sent = λ k E. sent k E;
    keeps = λ E.
        kept_where c ((gives must (scope s p) E).codes 1) ((gives must (scope s p') E).codes 1) (one_kept (sent must E))
        (subst⁻¹ (λ (v : Status). R (kept p (giving E s (executed_as s p E))) (kept p' (giving E s v))) (status must E) (f.keeps (giving E s (executed_as s p E))));
  }
    where
      status : (k : Question) (E : Event) → local_status k s (gives must p' (giving E s unknown)) (gives (absence_asked k) p' (giving E s unknown))
          ≡ local_status k s (gives must p (giving E s unknown)) (gives (absence_asked k) p (giving E s unknown))
      status k E =
          ap₂ (λ (x y : Numbers). marked (asks_must k && x s) (y s) unknown) (f.gives_sent must (giving E s unknown)).of_signals
          (f.gives_sent (absence_asked k) (giving E s unknown)).of_signals

      sent : (k : Question) (E : Event) → Sent out (gives k (scope s p) E) (gives k (scope s p') E)
      sent k E =
          subst⁻¹ (λ (v : Status). Sent out (gives k (scope s p) E) (hidden s (gives k p' (giving E s v)))) (status k E) (sent_hidden s (f.gives_sent k (giving E s _)))
