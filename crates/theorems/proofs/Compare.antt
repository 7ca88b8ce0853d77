-- Must grows and can shrinks with the event, can under plus is inside can under open, and a reading that asks for absence under a stricter mark has
-- more in must and less in can: one induction over the step for event, mark and reading together. A local's status is known to the second wherever it
-- is known to the first. Assumes nothing.
use mathlib.Core.Path.{◌≡◌, refl, subst, subst⁻¹}
use mathlib.Core.Bool.{Bool, true, false, cond, ◌&&◌}
use Prim.Native.Nat.{ℕ}
use lib.Dec.{T, eqb}
use Rattle.rules.specs.Events.{Status, present, absent, unknown, Event, giving}
use Rattle.rules.specs.Instant.{Step, done, stay, say, leave, test, catch, scope, chain, beside}
use Rattle.rules.specs.MustCan.{Mark, plus, opened, Question, must, can, Given, in_doubt, choose, onward, asks_must, marked, local_status, gives}
use Rattle.theorems.specs.Order.{Below, ◌⊑◌, Inside}
use Rattle.theorems.specs.Before.{Reading, remark, absence_read, gives_by}
use Rattle.theorems.proofs.Forms.{inside_refl, inside_trans, inside_nothing, either_left, either_right, either_inside, caught_inside, hidden_inside, both_inside, followed_inside}
use Rattle.theorems.proofs.MustInCan.{in_force, must_in_can_by}

pub below_refl : (v : Status) → Below v v
below_refl present = refl
below_refl absent = refl
below_refl unknown = tt

pub ⊑_refl : {E : Event} → E ⊑ E
⊑_refl {E} = record { at = λ n. below_refl (E n) }

-- The same signal given statuses that compare.
pub giving_below : {E F : Event} (s : ℕ) (v w : Status) → E ⊑ F → Below v w → giving E s v ⊑ giving F s w
giving_below {E} {F} s v w h l = record { at = λ n. go n (eqb n s) }
  where
    go : (n : ℕ) (b : Bool) → Below (cond b v (E n)) (cond b w (F n))
    go n true = l
    go n false = h.at n

-- A mark that asks no less: plus, or the same.
abbrev pub Stricter : Mark → Mark → Type 0
Stricter plus n = Unit {0}
Stricter opened plus = ⊥
Stricter opened opened = Unit {0}

-- Two readings of a local's absence: the strict one asks under a mark as strict as the wide one's, or stricter. Where the mark is plus the strict one asks under plus.
pub record Closer (strict wide : Reading) : Type 0 where
  pub strict_plus : strict plus ≡ plus
  pub asks : (m n : Mark) → Stricter m n → Stricter (strict m) (wide n)

-- The first question at the first event gives no more than the second at the second: must by the wide reading, can by the strict one.
pub data NoMore (strict wide : Reading) : Reading → Question → Event → Reading → Question → Event → Type 0 where
  for_must : {E F : Event} → E ⊑ F → NoMore strict wide wide must E strict must F
  for_can : {E F : Event} (m n : Mark) → F ⊑ E → Stricter m n → NoMore strict wide strict (can m) E wide (can n) F

stricter_opened : (m : Mark) → Stricter m opened
stricter_opened plus = tt
stricter_opened opened = tt

-- A test, from what both sides give.
module _ {p q p' q' p? q? p?' q?' : Given} (f : Inside p p') (g : Inside q q') (f? : Inside p p?') (g? : Inside q q?') (f?? : Inside p? p?') (g?? : Inside q? q?') where
  choose_must : (v w : Status) → Below v w → Inside (choose must v p q p? q?) (choose must w p' q' p?' q?')
  choose_must present w e = subst⁻¹ (λ (x : Status). Inside p (choose must x p' q' p?' q?')) e f
  choose_must absent w e = subst⁻¹ (λ (x : Status). Inside q (choose must x p' q' p?' q?')) e g
  choose_must unknown w e = inside_nothing

  choose_can : (m n : Mark) (v w : Status) → Below w v → Inside (choose (can m) v p q p? q?) (choose (can n) w p' q' p?' q?')
  choose_can m n v present e = subst⁻¹ (λ (x : Status). Inside (choose (can m) x p q p? q?) p') e f
  choose_can m n v absent e = subst⁻¹ (λ (x : Status). Inside (choose (can m) x p q p? q?) q') e g
  choose_can m n present unknown e = inside_trans f? (either_left p?' q?')
  choose_can m n absent unknown e = inside_trans g? (either_right p?' q?')
  choose_can m n unknown unknown e = either_inside f?? g??

-- Statuses marked from unknown compare.
pub marked_below : (m c m' c' : Bool) → (T m → T m') → (T c' → T c) → (T m' → T c') → Below (marked m c unknown) (marked m' c' unknown)
marked_below true c true c' f g h = refl
marked_below true c false c' f g h = absurd (f tt)
marked_below false true m' c' f g h = tt
marked_below false false true c' f g h = absurd (g (h tt))
marked_below false false false true f g h = absurd (g tt)
marked_below false false false false f g h = refl

asks_stricter : (m n : Mark) (b c : Bool) → Stricter m n → (T c → T b) → T (asks_must (can n) && c) → T (asks_must (can m) && b)
asks_stricter plus plus b c r f t = f t
asks_stricter plus opened b c r f t = absurd t
asks_stricter opened plus b c r f t = absurd r
asks_stricter opened opened b c r f t = t

module _ (strict wide : Reading) (near : Closer strict wide) where
  -- The second part's questions compare, from what the first part must give.
  onward_stricter : (m n : Mark) (b c : Bool) → Stricter m n → (T c → T b) → (E F : Event) → F ⊑ E
      → NoMore strict wide strict (onward (can m) b) E wide (onward (can n) c) F
  onward_stricter plus plus true true r h E F l = for_can plus plus l tt
  onward_stricter plus plus true false r h E F l = for_can plus opened l tt
  onward_stricter plus plus false true r h E F l = absurd (h tt)
  onward_stricter plus plus false false r h E F l = for_can opened opened l tt
  onward_stricter plus opened true c r h E F l = for_can plus opened l tt
  onward_stricter plus opened false c r h E F l = for_can opened opened l tt
  onward_stricter opened plus b c r h E F l = absurd r
  onward_stricter opened opened b c r h E F l = for_can opened opened l tt

  -- What is to be shown of a step, as a hypothesis.
  abbrev Compared : Step → Type 0
  Compared p = (x y : Reading) (k l : Question) (E F : Event) → NoMore strict wide x k E y l F → Inside (gives_by x k p E) (gives_by y l p F)

  onward_no_more : {x y : Reading} {k l : Question} {E F : Event} (p : Step) → Compared p → NoMore strict wide x k E y l F
      → NoMore strict wide x (onward k ((gives_by x must p E).codes 0)) E y (onward l ((gives_by y must p F).codes 0)) F
  onward_no_more p f (for_must h) = for_must h
  onward_no_more {E = E} {F = F} p f (for_can m n h r) =
      onward_stricter m n ((gives_by strict must p E).codes 0) ((gives_by wide must p F).codes 0) r ((f wide strict must must F E (for_must h)).of_codes.at 0) E F h

  choose_inside : {x y : Reading} {k l : Question} {E F : Event} (s : ℕ) (p q : Step) → NoMore strict wide x k E y l F → Compared p → Compared q
      → Inside (choose k (E s) (gives_by x k p E) (gives_by x k q E) (gives_by x (in_doubt k) p E) (gives_by x (in_doubt k) q E))
      (choose l (F s) (gives_by y l p F) (gives_by y l q F) (gives_by y (in_doubt l) p F) (gives_by y (in_doubt l) q F))
  choose_inside {E = E} {F = F} s p q (for_must h) f g =
      let j = for_must h in
      let fj = f wide strict must must E F j in
      let gj = g wide strict must must E F j in
      choose_must fj gj fj gj fj gj (E s) (F s) (h.at s)
  choose_inside {E = E} {F = F} s p q (for_can m n h r) f g =
      let one = for_can m n h r in
      let other = for_can m opened h (stricter_opened m) in
      let both = for_can opened opened h tt in
      choose_can (f strict wide (can m) (can n) E F one) (g strict wide (can m) (can n) E F one)
      (f strict wide (can m) (can opened) E F other) (g strict wide (can m) (can opened) E F other)
      (f strict wide (can opened) (can opened) E F both) (g strict wide (can opened) (can opened) E F both) m n (E s) (F s) (h.at s)

  -- Where can asks for must, must is in what is asked for absence.
  asks_within : (m : Mark) (p : Step) (G : Event) (s : ℕ) → T (asks_must (can m) && (gives_by strict must p G).signals s)
      → T ((gives_by strict (can (strict m)) p G).signals s)
  asks_within plus p G s t =
      subst⁻¹ (λ (m : Mark). T ((gives_by strict (can m) p G).signals s)) near.strict_plus
      ((must_in_can_by strict near.strict_plus p G).of_signals.at s t)
  asks_within opened p G s t = absurd t

  -- A local's status, as the question gives it.
  abbrev status_by : Reading → Question → ℕ → Step → Event → Status
  status_by x k s p E = local_status k s (gives_by x must p (giving E s unknown)) (gives_by x (absence_read x k) p (giving E s unknown))

  scope_no_more : {x y : Reading} {k l : Question} {E F : Event} (s : ℕ) (p : Step) → Compared p → NoMore strict wide x k E y l F
      → NoMore strict wide x k (giving E s (status_by x k s p E)) y l (giving F s (status_by y l s p F))
  scope_no_more {E = E} {F = F} s p f (for_must h) =
      let d : giving E s unknown ⊑ giving F s unknown = giving_below s unknown unknown h tt in
      for_must (giving_below s (status_by wide must s p E) (status_by strict must s p F) h
      (marked_below ((gives_by wide must p (giving E s unknown)).signals s) ((gives_by wide (can plus) p (giving E s unknown)).signals s)
      ((gives_by strict must p (giving F s unknown)).signals s) ((gives_by strict (can plus) p (giving F s unknown)).signals s)
      ((f wide strict must must (giving E s unknown) (giving F s unknown) (for_must d)).of_signals.at s)
      ((f strict wide (can plus) (can plus) (giving F s unknown) (giving E s unknown) (for_can plus plus d tt)).of_signals.at s)
      ((must_in_can_by strict near.strict_plus p (giving F s unknown)).of_signals.at s)))
  scope_no_more {E = E} {F = F} s p f (for_can m n h r) =
      let d : giving F s unknown ⊑ giving E s unknown = giving_below s unknown unknown h tt in
      let me = (gives_by strict must p (giving E s unknown)).signals s in
      let mf = (gives_by wide must p (giving F s unknown)).signals s in
      let ce = (gives_by strict (can (strict m)) p (giving E s unknown)).signals s in
      let cf = (gives_by wide (can (wide n)) p (giving F s unknown)).signals s in
      for_can m n (giving_below s (status_by wide (can n) s p F) (status_by strict (can m) s p E) h
      (marked_below (asks_must (can n) && mf) cf (asks_must (can m) && me) ce
      (asks_stricter m n me mf r ((f wide strict must must (giving F s unknown) (giving E s unknown) (for_must d)).of_signals.at s))
      ((f strict wide (can (strict m)) (can (wide n)) (giving E s unknown) (giving F s unknown)
      (for_can (strict m) (wide n) d (near.asks m n r))).of_signals.at s)
      (asks_within m p (giving E s unknown) s)))
      r

  pub compare : (p : Step) {x y : Reading} {k l : Question} {E F : Event} → NoMore strict wide x k E y l F → Inside (gives_by x k p E) (gives_by y l p F)
  unfolding gives_by
  compare done h = inside_refl
  compare (stay A) h = inside_refl
  compare (say s) h = inside_refl
  compare (leave d) h = inside_refl
  compare (test s p q) h = choose_inside s p q h (λ x y k l E F r. compare p r) (λ x y k l E F r. compare q r)
  compare (catch p) h = caught_inside (compare p h)
  compare (scope s p) h = hidden_inside s (compare p (scope_no_more s p (λ x y k l E F r. compare p r) h))
  compare (chain p q) h = followed_inside (compare p h) (λ t. compare q (onward_no_more p (λ x y k l E F r. compare p r) h))
  compare (beside p q) h = both_inside (compare p h) (compare q h)

-- The sentences, one by one, of the reading in force.
same_reading : Closer remark remark
same_reading = record { strict_plus = refl; asks = λ m n r. r }

now : {k l : Question} {E F : Event} (p : Step) → NoMore remark remark remark k E remark l F → Inside (gives k p E) (gives l p F)
now {k} {l} {E} {F} p h =
    subst (λ (g : Given). Inside g (gives l p F)) (in_force k p E)
    (subst (λ (g : Given). Inside (gives_by remark k p E) g) (in_force l p F) (compare remark remark same_reading p h))

pub must_grows : (p : Step) {E F : Event} → E ⊑ F → Inside (gives must p E) (gives must p F)
must_grows p h = now p (for_must h)

pub can_shrinks : (p : Step) (m : Mark) {E F : Event} → E ⊑ F → Inside (gives (can m) p F) (gives (can m) p E)
can_shrinks p plus h = now p (for_can plus plus h tt)
can_shrinks p opened h = now p (for_can opened opened h tt)

pub plus_in_opened : (p : Step) (E : Event) → Inside (gives (can plus) p E) (gives (can opened) p E)
plus_in_opened p E = now p (for_can plus opened ⊑_refl tt)
