-- Where must has a code, what it reaches is what every execution whose locals agree executes: by induction over the statement, started and resumed. A
-- test on the way is decided as it is assigned, must has the first code of a sequence exactly where it completes with it, and a local's
-- settled status lies below the assigned one. Assumes nothing.
use mathlib.Core.Path.{◌≡◌, refl, sym, ◌∙◌, ap, ap₂, subst}
use mathlib.Core.Bool.{Bool, true, false, cond}
use Prim.Native.Nat.{ℕ, ◌+◌}
use lib.Dec.{T, eqb, eqb→eq}
use Rattle.sets.specs.Numbers.{Numbers, empty, union, only_if}
use Rattle.sets.proofs.Members.{same, eqb_in}
use Rattle.sets.proofs.Maxima.{maxima_out, downs_out}
use Rattle.rules.specs.Statements.{Stmt, nothing, pause, emit, present?◌then◌else◌, suspend◌on◌, ◌⨾◌, loop, ◌parallel◌, trap, exit, local, statements}
use Rattle.rules.specs.Events.{Status, present, absent, unknown, Event, giving, known}
use Rattle.rules.specs.Instant.{Step, done, stay, chain, active, held, started, resumed}
use Rattle.rules.specs.MustCan.{must, Given, choose, gives}
use Rattle.rules.specs.States.{executed_as, kept_by}
use Rattle.rules.specs.Coherence.{Locals, assigning, execute, LocalsAgree}
use Rattle.rules.specs.Taken.{Wanted, wants, wants_test, itself_if, taken_started, taken_resumed}
use Rattle.theorems.specs.Executed.{chosen_by, ran_started, ran_resumed}
use Rattle.theorems.specs.Order.{Below, ◌⊑◌, whole}
use Rattle.theorems.proofs.Exact.{FirstOrBoth, first_or_both}
use Rattle.theorems.proofs.Sound.{not_both, giving_whole, executed_below, if_so, sound, code_of_run}
use Rattle.theorems.proofs.SameLocals.{from_second, first_code}

provided : (z : Bool) {X Y : Numbers} → (T z → X ≡ Y) → only_if z X ≡ only_if z Y
provided true f = f tt
provided false f = refl

-- A sequence: the second part is reached where it is executed.
sequel : (p q : Step) (E : Event) (c x : ℕ) {X X' : Numbers} (Y Y' : Numbers) → ((e : ℕ) → T ((gives must p E).codes e) → e ≡ x)
    → FirstOrBoth (gives must p E) (gives must q E) c → X ≡ X' → (T (eqb x 0) → T ((gives must q E).codes c) → Y ≡ Y')
    → union X (only_if ((gives must p E).codes 0) Y) ≡ union X' (only_if (eqb x 0) Y')
sequel p q E c x Y Y' f r e g =
    ap₂ union e (ap (λ (z : Bool). only_if z Y) zero_alike ∙ provided (eqb x 0) (λ z. g z (from_second p q E c x f r z)))
  where
    zero_alike : (gives must p E).codes 0 ≡ eqb x 0
    zero_alike = same ((gives must p E).codes 0) (eqb x 0) (λ t. eqb_in (sym (f 0 t)))
        (λ t. let o = first_code r in subst (λ (k : ℕ). T ((gives must p E).codes k)) (f o.0 o.1 ∙ eqb→eq x 0 t) o.1)

-- A local: the settled status lies below the assigned one.
local_below : (s : ℕ) (p : Step) (E : Event) (l : Bool) (m : Locals p) (W : Numbers) → E ⊑ whole W → l ≡ (execute p m (assigning W s l)).emitted s
    → LocalsAgree p m (assigning W s l) → giving E s (executed_as s p E) ⊑ whole (assigning W s l)
local_below s p E l m W h a b =
    let W' : Numbers = assigning W s l in
    giving_whole W s (executed_as s p E) l h
    (executed_below s p E l (execute p m W') a (sound p m W' b (giving E s unknown) (giving_whole W s unknown l h tt)))

module _ (w : Wanted) where
  tested : (b : Bool) (v : Status) (i c : ℕ) (m n : Given) {A B : Type 0} (X Y X' Y' : Numbers) → Below v (known b) → T ((choose must v m n m n).codes c)
      → (A → T (m.codes c) → X ≡ X') → (B → T (n.codes c) → Y ≡ Y') → cond b A B
      → union (itself_if (wants_test w v) i) (kept_by v X Y) ≡ union (itself_if (wants_test w (known b)) i) (cond b X' Y')
  tested true present i c m n X Y X' Y' h t f g a = ap (union (itself_if (wants_test w present) i)) (f a t)
  tested true absent i c m n X Y X' Y' h t f g a = absurd (not_both h)
  tested true unknown i c m n X Y X' Y' h t f g a = absurd t
  tested false present i c m n X Y X' Y' h t f g a = absurd (not_both (sym h))
  tested false absent i c m n X Y X' Y' h t f g a = ap (union (itself_if (wants_test w absent) i)) (g a t)
  tested false unknown i c m n X Y X' Y' h t f g a = absurd t

  -- With the statement itself.
  around : (i : ℕ) {X Y : Numbers} → X ≡ Y → union (itself_if (wants w) i) X ≡ union (itself_if (wants w) i) Y
  around i e = ap (union (itself_if (wants w) i)) e

  -- The part that an active pause chooses.
  chosen : (b : Bool) (P Q : Step) (E : Event) (W : Numbers) (c : ℕ) {X Y : Numbers} (f : Locals P → Numbers) (g : Locals Q → Numbers)
      → ((l : Locals P) → LocalsAgree P l W → T ((gives must P E).codes c) → X ≡ f l) → ((l : Locals Q) → LocalsAgree Q l W → T ((gives must Q E).codes c) → Y ≡ g l)
      → (l : Locals (cond b P Q)) → LocalsAgree (cond b P Q) l W → T ((gives must (cond b P Q) E).codes c) → cond b X Y ≡ chosen_by b P Q f g l
  chosen true P Q E W c f g x y l a t = x l a t
  chosen false P Q E W c f g x y l a t = y l a t

  arm : (b : Bool) (P : Step) (E : Event) (W : Numbers) (c : ℕ) {X : Numbers} (f : Locals P → Numbers)
      → ((l : Locals P) → LocalsAgree P l W → T ((gives must P E).codes c) → X ≡ f l)
      → (l : Locals (cond b P done)) → LocalsAgree (cond b P done) l W → T ((gives must (cond b P done) E).codes c) → only_if b X ≡ chosen_by b P done f (λ m. empty) l
  arm true P E W c f x l a t = x l a t
  arm false P E W c f x l a t = refl

  pub started_executed : (p : Stmt) (i : ℕ) (l : Locals (started p)) (W : Numbers) → LocalsAgree (started p) l W → (E : Event) → E ⊑ whole W
      → (c : ℕ) → T ((gives must (started p) E).codes c) → taken_started w i p E ≡ ran_started w i p l W
  unfolding gives started LocalsAgree taken_started ran_started
  started_executed nothing i l W a E h c t = refl
  started_executed (pause n) i l W a E h c t = refl
  started_executed (emit s) i l W a E h c t = refl
  started_executed (present? s then p else q) i l W a E h c t =
      tested (W s) (E s) i c (gives must (started p) E) (gives must (started q) E) (taken_started w (i + 1) p E) (taken_started w (i + 1 + statements p) q E)
      (ran_started w (i + 1) p l.0 W) (ran_started w (i + 1 + statements p) q l.1 W) (h.at s) t
      (λ b. started_executed p (i + 1) l.0 W b E h c) (λ b. started_executed q (i + 1 + statements p) l.1 W b E h c) a
  started_executed (suspend p on s) i l W a E h c t = around i (started_executed p (i + 1) l W a E h c t)
  started_executed (p ⨾ q) i l W a E h c t =
      let r = first_or_both (gives must (started p) E) (gives must (started q) E) c t in
      let o = first_code r in
      around i (sequel (started p) (started q) E c (execute (started p) l.0 W).completes
      (taken_started w (i + 1 + statements p) q E) (ran_started w (i + 1 + statements p) q l.1 W) (code_of_run (started p) l.0 W a.0 E h) r
      (started_executed p (i + 1) l.0 W a.0 E h o.0 o.1)
      (λ z. started_executed q (i + 1 + statements p) l.1 W (if_so (eqb (execute (started p) l.0 W).completes 0) a.1 z) E h c))
  started_executed (loop p) i l W a E h c t = around i (started_executed p (i + 1) l W a E h c t)
  started_executed (p parallel q) i l W a E h c t =
      let r = maxima_out (gives must (started p) E).codes (gives must (started q) E).codes c t in
      around i (ap₂ union (started_executed p (i + 1) l.0 W a.0 E h r.0 r.2) (started_executed q (i + 1 + statements p) l.1 W a.1 E h r.1 r.3))
  started_executed (trap p) i l W a E h c t =
      let r = downs_out (gives must (started p) E).codes c t in
      around i (started_executed p (i + 1) l W a E h r.0 r.1)
  started_executed (exit d) i l W a E h c t = refl
  started_executed (local s p) i l W a E h c t =
      around i (started_executed p (i + 1) l.1 (assigning W s l.0) a.1 (giving E s (executed_as s (started p) E))
      (local_below s (started p) E l.0 l.1 W h a.0 a.1) c t)

  -- A body resumed, and where it completes with 0 what comes then, started.
  went_on : (A : Numbers) (p : Stmt) (i : ℕ) (q : Stmt) (j : ℕ) (l : Locals (chain (resumed A p) (started q))) (W : Numbers)
      → LocalsAgree (chain (resumed A p) (started q)) l W → (E : Event) → E ⊑ whole W → (c : ℕ) → T ((gives must (chain (resumed A p) (started q)) E).codes c)
      → ((d : ℕ) → T ((gives must (resumed A p) E).codes d) → taken_resumed w A i p E ≡ ran_resumed w A i p l.0 W)
      → union (taken_resumed w A i p E) (only_if ((gives must (resumed A p) E).codes 0) (taken_started w j q E))
      ≡ union (ran_resumed w A i p l.0 W) (only_if (eqb (execute (resumed A p) l.0 W).completes 0) (ran_started w j q l.1 W))
  unfolding gives LocalsAgree
  went_on A p i q j l W a E h c t f =
      let r = first_or_both (gives must (resumed A p) E) (gives must (started q) E) c t in
      let o = first_code r in
      sequel (resumed A p) (started q) E c (execute (resumed A p) l.0 W).completes
      (taken_started w j q E) (ran_started w j q l.1 W) (code_of_run (resumed A p) l.0 W a.0 E h) r (f o.0 o.1)
      (λ z. started_executed q j l.1 W (if_so (eqb (execute (resumed A p) l.0 W).completes 0) a.1 z) E h c)

  pub resumed_executed : (A : Numbers) (p : Stmt) (i : ℕ) (l : Locals (resumed A p)) (W : Numbers) → LocalsAgree (resumed A p) l W → (E : Event) → E ⊑ whole W
      → (c : ℕ) → T ((gives must (resumed A p) E).codes c) → taken_resumed w A i p E ≡ ran_resumed w A i p l W
  unfolding gives resumed LocalsAgree taken_resumed ran_resumed
  resumed_executed A nothing i l W a E h c t = refl
  resumed_executed A (pause n) i l W a E h c t = refl
  resumed_executed A (emit s) i l W a E h c t = refl
  resumed_executed A (present? s then p else q) i l W a E h c t =
      around i (chosen (active A p) (resumed A p) (resumed A q) E W c
      (λ m. ran_resumed w A (i + 1) p m W) (λ m. ran_resumed w A (i + 1 + statements p) q m W)
      (λ m b u. resumed_executed A p (i + 1) m W b E h c u) (λ m b u. resumed_executed A q (i + 1 + statements p) m W b E h c u) l a t)
  resumed_executed A (suspend p on s) i l W a E h c t =
      tested (W s) (E s) i c (gives must (stay (held A p)) E) (gives must (resumed A p) E) empty (taken_resumed w A (i + 1) p E)
      empty (ran_resumed w A (i + 1) p l.1 W) (h.at s) t (λ b u. refl) (λ b. resumed_executed A p (i + 1) l.1 W b E h c) a
  resumed_executed A (p ⨾ q) i l W a E h c t =
      around i (chosen (active A p) (chain (resumed A p) (started q)) (resumed A q) E W c
      (λ m. union (ran_resumed w A (i + 1) p m.0 W) (only_if (eqb (execute (resumed A p) m.0 W).completes 0) (ran_started w (i + 1 + statements p) q m.1 W)))
      (λ m. ran_resumed w A (i + 1 + statements p) q m W)
      (λ m b u. went_on A p (i + 1) q (i + 1 + statements p) m W b E h c u (λ d v. resumed_executed A p (i + 1) m.0 W b.0 E h d v))
      (λ m b u. resumed_executed A q (i + 1 + statements p) m W b E h c u) l a t)
  resumed_executed A (loop p) i l W a E h c t =
      around i (went_on A p (i + 1) p (i + 1) l W a E h c t (λ d v. resumed_executed A p (i + 1) l.0 W a.0 E h d v))
  resumed_executed A (p parallel q) i l W a E h c t =
      let r = maxima_out (gives must (cond (active A p) (resumed A p) done) E).codes (gives must (cond (active A q) (resumed A q) done) E).codes c t in
      around i (ap₂ union
      (arm (active A p) (resumed A p) E W r.0 (λ m. ran_resumed w A (i + 1) p m W) (λ m b u. resumed_executed A p (i + 1) m W b E h r.0 u) l.0 a.0 r.2)
      (arm (active A q) (resumed A q) E W r.1 (λ m. ran_resumed w A (i + 1 + statements p) q m W) (λ m b u. resumed_executed A q (i + 1 + statements p) m W b E h r.1 u) l.1 a.1 r.3))
  resumed_executed A (trap p) i l W a E h c t =
      let r = downs_out (gives must (resumed A p) E).codes c t in
      around i (resumed_executed A p (i + 1) l W a E h r.0 r.1)
  resumed_executed A (exit d) i l W a E h c t = refl
  resumed_executed A (local s p) i l W a E h c t =
      around i (resumed_executed A p (i + 1) l.1 (assigning W s l.0) a.1 (giving E s (executed_as s (resumed A p) E))
      (local_below s (resumed A p) E l.0 l.1 W h a.0 a.1) c t)
