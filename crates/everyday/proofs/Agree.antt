-- A conversion does what its statement is said to do, started and resumed: one induction each over all fifteen statements. A form of the four enters it by its
-- law in Forms, every other statement by the law of its step. Assumes nothing.
use mathlib.Core.Path.{◌≡◌, refl, sym, ◌∙◌, ap, ap₂, subst, subst⁻¹}
use mathlib.Core.Logic.{◌⊎◌, inl, inr}
use mathlib.Core.Bool.{Bool, true, false, cond, ◌&&◌, ◌||◌}
use mathlib.Core.List.{List, [], ◌∷◌, ◌++◌, append-nil}
use Prim.Native.Nat.{ℕ, ◌+◌}
use native.Mathlib.Nat.{add-zero}
use lib.Dec.{T}
use Rattle.sets.specs.Numbers.{Numbers, single, listed}
use Rattle.sets.proofs.Members.{is_true, of_true, of_false, or_left, or_out}
use Rattle.rules.specs.Statements.{Depth, depth, Stmt, pauses, from}
use Rattle.rules.specs.Instant.{Step, done, stay, say, leave, test, catch, chain, beside, any, active, held, started, resumed}
use Rattle.theorems.proofs.KeepsSome.{stays_started, stays_resumed}
use Rattle.everyday.specs.Statements.{Alone, nothing, pause, halt, emit, sustain, await, exit, suspend_on, loop, trap, local, abort_when}
use Rattle.everyday.specs.Statements.{Between, present_then_else, in_sequence, in_parallel, Everyday, alone, around, between, is_stop, stops}
use Rattle.everyday.specs.Meaning.{active₂, held₂, started_between, started₂, resumed_between, resumed₂}
use Rattle.everyday.specs.Conversion.{watch, deeper, past_trap, out_of, watches, pauses_made, around_made, between_made, convert}
use Rattle.everyday.proofs.Sent.{Rising, rising_deeper, rising_past_trap, Does, does_wider, does_done, does_stay, does_say, does_leave}
use Rattle.everyday.proofs.Sent.{does_test, does_catch, does_beside, does_chain, does_scope}
use Rattle.everyday.proofs.Standing.{from_add, any_add, Standing, active_there, stop_active, Keeps, keeps_closed, keeps_around, keeps_first, keeps_second, held_keeps}
use Rattle.everyday.proofs.Forms.{does_alike, after_done, asks, watch_resumed, keeps_stop, await_started, await_resumed, abort_started, abort_resumed}

-- The pauses of a conversion are numbered in preorder.
pub pauses_are : (out : Depth → Depth) (j : ℕ) (p : Everyday) → pauses (convert out j p) ≡ from j (pauses_made p)
unfolding pauses convert pauses_made is_stop watches from
pauses_are out j (alone nothing) = refl
pauses_are out j (alone pause) = refl
pauses_are out j (alone halt) = refl
pauses_are out j (alone (emit s)) = refl
pauses_are out j (alone (sustain s)) = refl
pauses_are out j (alone (await s)) = refl
pauses_are out j (alone (exit d)) = refl
pauses_are out j (around (suspend_on s) p) = pauses_are out j p ∙ ap (from j) (sym (add-zero (pauses_made p)))
pauses_are out j (around loop p) = pauses_are out j p ∙ ap (from j) (sym (add-zero (pauses_made p)))
pauses_are out j (around trap p) = pauses_are (past_trap out) j p ∙ ap (from j) (sym (add-zero (pauses_made p)))
pauses_are out j (around (local s) p) = pauses_are out j p ∙ ap (from j) (sym (add-zero (pauses_made p)))
pauses_are out j (around (abort_when s) p) =
    ap (λ (xs : List ℕ). xs ++ (j + pauses_made p) ∷ []) (append-nil (pauses (convert (out_of (abort_when s) out) j p)) ∙ pauses_are (out_of (abort_when s) out) j p)
    ∙ sym (from_add j (pauses_made p) 1)
pauses_are out j (between o p q) = two o ∙ ap₂ ◌++◌ (pauses_are out j p) (pauses_are out (j + pauses_made p) q) ∙ sym (from_add j (pauses_made p) (pauses_made q))
  where
    two : (o : Between) → pauses (between_made o (convert out j p) (convert out (j + pauses_made p) q)) ≡ pauses (convert out j p) ++ pauses (convert out (j + pauses_made p) q)
    two (present_then_else s) = refl
    two in_sequence = refl
    two in_parallel = refl

-- So a conversion is active while its statement is, and holds what stands for what that holds.
module _ (out : Depth → Depth) (i j : ℕ) (p : Everyday) (A B : Numbers) (st : Standing i j p A B) where
  pub active_made : active B (convert out j p) ≡ active₂ i A p
  unfolding active
  active_made = ap (any B) (pauses_are out j p) ∙ active_there i j p A B st

  held_made : Keeps i j p (held₂ i A p) (held B (convert out j p))
  unfolding held
  held_made = subst⁻¹ (λ (xs : List ℕ). Keeps i j p (held₂ i A p) (λ m. B m && listed xs m)) (pauses_are out j p) (held_keeps i j p A B st)

-- STARTED
started_alone_does : {out : Depth → Depth} (i j : ℕ) (a : Alone) → Does out (Keeps i j (alone a)) (started₂ i (alone a)) (started (convert out j (alone a)))
unfolding started₂ started convert is_stop
started_alone_does i j nothing = does_done (keeps_closed i j (alone nothing))
started_alone_does i j pause = does_stay (keeps_closed i j (alone pause)) (keeps_stop i j pause tt)
started_alone_does i j halt = does_stay (keeps_closed i j (alone halt)) (keeps_stop i j halt tt)
started_alone_does i j (emit s) = does_say (keeps_closed i j (alone (emit s))) s
started_alone_does i j (sustain s) =
    let c = keeps_closed i j (alone (sustain s)) in
    does_chain c (does_say c s) (does_stay c (keeps_stop i j (sustain s) tt))
started_alone_does i j (await s) = await_started s i j (keeps_stop i j (await s) tt)
started_alone_does i j (exit d) = does_leave (keeps_closed i j (alone (exit d))) d

between_does : {out : Depth → Depth} → Rising out → (i j : ℕ) (o : Between) (p q : Everyday) {P P' Q Q' : Step} → Does out (Keeps i j p) P P'
    → Does out (Keeps (i + stops p) (j + pauses_made p) q) Q Q' → Does out (Keeps i j (between o p q)) (started_between o P Q) (started_between o P' Q')
between_does {out} r i j o p q {P} {P'} {Q} {Q'} f g = go o (does_wider (keeps_first i j o p q) f) (does_wider (keeps_second i j o p q) g)
  where
    c : Rattle.likeness.specs.Likeness.Closed (Keeps i j (between o p q))
    c = keeps_closed i j (between o p q)

    go : (u : Between) → Does out (Keeps i j (between o p q)) P P' → Does out (Keeps i j (between o p q)) Q Q' → Does out (Keeps i j (between o p q)) (started_between u P Q) (started_between u P' Q')
    go (present_then_else s) x y = does_test c s x y
    go in_sequence x y = does_chain c x y
    go in_parallel x y = does_beside c r x y

pub started_does : {out : Depth → Depth} → Rising out → (i j : ℕ) (p : Everyday) → Does out (Keeps i j p) (started₂ i p) (started (convert out j p))
unfolding started₂ started convert watches
started_does r i j (alone a) = started_alone_does i j a
started_does r i j (around (suspend_on s) p) = does_wider (keeps_around i j (suspend_on s) p refl) (started_does r i j p)
started_does r i j (around loop p) = does_wider (keeps_around i j loop p refl) (started_does r i j p)
started_does r i j (around trap p) = does_wider (keeps_around i j trap p refl) (does_catch (keeps_closed i j p) (started_does (rising_past_trap r) i j p))
started_does r i j (around (local s) p) = does_wider (keeps_around i j (local s) p refl) (does_scope (keeps_closed i j p) s (started_does r i j p))
started_does {out} r i j (around (abort_when s) p) =
    abort_started i j s p out (started_does (rising_deeper r) i j p) (stays_started (convert (λ d. deeper (out d)) j p))
started_does r i j (between (present_then_else s) p q) = between_does r i j (present_then_else s) p q (started_does r i j p) (started_does r (i + stops p) (j + pauses_made p) q)
started_does r i j (between in_sequence p q) = between_does r i j in_sequence p q (started_does r i j p) (started_does r (i + stops p) (j + pauses_made p) q)
started_does r i j (between in_parallel p q) = between_does r i j in_parallel p q (started_does r i j p) (started_does r (i + stops p) (j + pauses_made p) q)

-- RESUMED
-- A test of what is active goes the same way in both.
choice_does : {out : Depth → Depth} {R : Numbers → Numbers → Type 0} (a a' : Bool) {P P' Q Q' : Step} → a' ≡ a → (T a → Does out R P P') → (a ≡ false → Does out R Q Q')
    → Does out R (cond a P Q) (cond a' P' Q')
choice_does {out} {R} a a' {P} {P'} {Q} {Q'} e f g = subst⁻¹ (λ (x : Bool). Does out R (cond a P Q) (cond x P' Q')) e (go a f g)
  where
    go : (x : Bool) → (T x → Does out R P P') → (x ≡ false → Does out R Q Q') → Does out R (cond x P Q) (cond x P' Q')
    go true f g = f tt
    go false f g = g refl

resumed_await : (B : Numbers) (s j : ℕ) → T (B j) → resumed B (Stmt.trap (watch s j)) ≡ catch (watch_resumed s j)
unfolding resumed started active any pauses
resumed_await B s j t = λ x. catch (chain (cond (e x) (chain done (asks s)) done) (chain (stay (single j)) (asks s)))
  where
    e : (B j || false) ≡ true
    e = is_true (B j || false) (or_left (B j) false t)

resumed_alone_does : {out : Depth → Depth} (i j : ℕ) (a : Alone) (A B : Numbers) → Standing i j (alone a) A B → T (active₂ i A (alone a))
    → Does out (Keeps i j (alone a)) (resumed₂ i A (alone a)) (resumed B (convert out j (alone a)))
unfolding resumed₂ resumed started active any pauses convert is_stop
resumed_alone_does i j nothing A B st t = does_done (keeps_closed i j (alone nothing))
resumed_alone_does i j pause A B st t = does_done (keeps_closed i j (alone pause))
resumed_alone_does i j halt A B st t = does_alike (does_stay (keeps_closed i j (alone halt)) (keeps_stop i j halt tt)) (after_done (stay (single j)))
resumed_alone_does i j (emit s) A B st t = does_done (keeps_closed i j (alone (emit s)))
resumed_alone_does i j (sustain s) A B st t =
    let c = keeps_closed i j (alone (sustain s)) in
    does_alike (does_chain c (does_say c s) (does_stay c (keeps_stop i j (sustain s) tt))) (after_done (chain (say s) (stay (single j))))
resumed_alone_does {out} i j (await s) A B st t =
    subst⁻¹ (λ (S : Step). Does out (Keeps i j (alone (await s))) (test s done (stay (single i))) S) (resumed_await B s j here)
    (await_resumed (keeps_closed i j (alone (await s))) s i j (keeps_stop i j (await s) tt))
  where
    here : T (B j)
    here = stop_active i j (await s) A B st t tt
resumed_alone_does i j (exit d) A B st t = does_done (keeps_closed i j (alone (exit d)))

-- The form of abort, resumed with its body and so its watching pause active.
resumed_form : (B : Numbers) (s w : ℕ) (c : Stmt) → active B c ≡ true → T (B w)
    → resumed B (around_made (abort_when s) w c) ≡ catch (beside (chain (test s (stay (held B c)) (resumed B c)) (leave (depth 0))) (watch_resumed s w))
unfolding resumed started active any pauses held
resumed_form B s w c e t = λ x.
    catch (beside (cond (first x) (cond (e x) (chain (test s (stay (held B c)) (resumed B c)) (leave (depth 0))) done) done)
    (cond (second x) (chain (cond (second x) (chain done (asks s)) done) (chain (stay (single w)) (asks s))) done))
  where
    first : any B (pauses c ++ []) ≡ true
    first = ap (any B) (append-nil (pauses c)) ∙ e

    second : (B w || false) ≡ true
    second = is_true (B w || false) (or_left (B w) false t)

module _ {out : Depth → Depth} (r : Rising out) (i j : ℕ) (o : Between) (p q : Everyday) where
  both_resumed_does : (a a' b b' : Bool) {P P' Q Q' S S' : Step} → a' ≡ a → b' ≡ b → T (a || b) → Does out (Keeps (i + stops p) (j + pauses_made p) q) S S'
      → (T a → Does out (Keeps i j p) P P') → (T b → Does out (Keeps (i + stops p) (j + pauses_made p) q) Q Q')
      → Does out (Keeps i j (between o p q)) (resumed_between o a b S P Q) (resumed_between o a' b' S' P' Q')
  both_resumed_does a a' b b' {P} {P'} {Q} {Q'} {S} {S'} d e t h f g =
      go o (λ u. does_wider (keeps_first i j o p q) (f u)) (λ u. does_wider (keeps_second i j o p q) (g u)) (does_wider (keeps_second i j o p q) h)
    where
      c : Rattle.likeness.specs.Likeness.Closed (Keeps i j (between o p q))
      c = keeps_closed i j (between o p q)

      other : T a ⊎ T b → a ≡ false → T b
      other (inl u) z = absurd (of_false z u)
      other (inr u) z = u

      go : (v : Between) → (T a → Does out (Keeps i j (between o p q)) P P') → (T b → Does out (Keeps i j (between o p q)) Q Q') → Does out (Keeps i j (between o p q)) S S'
          → Does out (Keeps i j (between o p q)) (resumed_between v a b S P Q) (resumed_between v a' b' S' P' Q')
      go (present_then_else s) x y z = choice_does a a' d x (λ n. y (other (or_out a b t) n))
      go in_sequence x y z = choice_does a a' d (λ u. does_chain c (x u) z) (λ n. y (other (or_out a b t) n))
      go in_parallel x y z = does_beside c r (choice_does a a' d x (λ n. does_done c)) (choice_does b b' e y (λ n. does_done c))

active_between : (i : ℕ) (A : Numbers) (o : Between) (p q : Everyday) → active₂ i A (between o p q) ≡ (active₂ i A p || active₂ (i + stops p) A q)
unfolding active₂ stops
active_between i A o p q = any_add A i (stops p) (stops q)

pub resumed_does : {out : Depth → Depth} → Rising out → (i j : ℕ) (p : Everyday) (A B : Numbers) → Standing i j p A B → T (active₂ i A p)
    → Does out (Keeps i j p) (resumed₂ i A p) (resumed B (convert out j p))
unfolding resumed₂ resumed started convert watches Standing active₂ stops
resumed_does r i j (alone a) A B st t = resumed_alone_does i j a A B st t
resumed_does {out} r i j (around (suspend_on s) p) A B st t =
    let c = keeps_closed i j p in
    does_wider (keeps_around i j (suspend_on s) p refl) (does_test c s (does_stay c (held_made out i j p A B st.0)) (resumed_does r i j p A B st.0 t))
resumed_does r i j (around loop p) A B st t =
    does_wider (keeps_around i j loop p refl) (does_chain (keeps_closed i j p) (resumed_does r i j p A B st.0 t) (started_does r i j p))
resumed_does r i j (around trap p) A B st t =
    does_wider (keeps_around i j trap p refl) (does_catch (keeps_closed i j p) (resumed_does (rising_past_trap r) i j p A B st.0 t))
resumed_does r i j (around (local s) p) A B st t =
    does_wider (keeps_around i j (local s) p refl) (does_scope (keeps_closed i j p) s (resumed_does r i j p A B st.0 t))
resumed_does {out} r i j (around (abort_when s) p) A B st t =
    let e : active B (convert (λ d. deeper (out d)) j p) ≡ true = active_made (λ d. deeper (out d)) i j p A B st.0 ∙ is_true (active₂ i A p) t in
    let w : T (B (j + pauses_made p)) = subst⁻¹ T (st.1 tt) t in
    subst⁻¹ (λ (S : Step). Does out (Keeps i j (around (abort_when s) p)) (resumed₂ i A (around (abort_when s) p)) S)
    (resumed_form B s (j + pauses_made p) (convert (λ d. deeper (out d)) j p) e w)
    (abort_resumed i j s p out (resumed_does (rising_deeper r) i j p A B st.0 t) (stays_resumed B (convert (λ d. deeper (out d)) j p) (of_true e))
    (held₂ i A p) (held B (convert (λ d. deeper (out d)) j p)))
resumed_does {out} r i j (between o p q) A B st t =
    let i' = i + stops p in
    let j' = j + pauses_made p in
    subst (λ (S : Step). Does out (Keeps i j (between o p q)) (resumed₂ i A (between o p q)) S) (unmade o)
    (both_resumed_does r i j o p q (active₂ i A p) (active B (convert out j p)) (active₂ i' A q) (active B (convert out j' q)) (active_made out i j p A B st.0)
    (active_made out i' j' q A B st.1) (subst T (active_between i A o p q) t) (started_does r i' j' q)
    (resumed_does r i j p A B st.0) (resumed_does r i' j' q A B st.1))
  where
    unmade : (o : Between) → resumed_between o (active B (convert out j p)) (active B (convert out (j + pauses_made p) q)) (started (convert out (j + pauses_made p) q))
        (resumed B (convert out j p)) (resumed B (convert out (j + pauses_made p) q)) ≡ resumed B (between_made o (convert out j p) (convert out (j + pauses_made p) q))
    unmade (present_then_else s) = refl
    unmade in_sequence = refl
    unmade in_parallel = refl
