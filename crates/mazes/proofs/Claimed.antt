-- At statuses that a round leaves as they are, every win is of a present signal and every loss of an absent one: each room has a claim, that of a part is about must and can
-- of its statement and that of a gate is the opposite of its test's, and the claims are kept along every play, by induction on it. Assumes nothing.
use mathlib.Core.Path.{◌≡◌, refl, sym, ◌∙◌, ap, subst, subst⁻¹}
use mathlib.Core.Logic.{◌⊎◌, inl, inr}
use mathlib.Core.Bool.{Bool, true, false, cond, ◌||◌, true≢false}
use mathlib.Core.List.{List, [], ◌∷◌, ◌++◌}
use Prim.Native.Nat.{ℕ, ◌+◌}
use lib.Dec.{T, eqb, ltb}
use Rattle.sets.specs.Numbers.{Numbers, empty, single}
use Rattle.sets.proofs.Members.{is_true, or_out, or_left, or_right, cases}
use Rattle.rules.specs.Statements.{Block, Stmt, nothing, emit, present?◌then◌else◌, ◌parallel◌, statements, preorder, numbered}
use Rattle.rules.specs.Events.{Status, present, absent, unknown, Event, known}
use Rattle.rules.specs.Instant.{started}
use Rattle.rules.specs.MustCan.{Mark, plus, opened, must, can, choose, gives, Given}
use Rattle.block.specs.Good.{Scoped}
use Rattle.mazes.specs.Mazes.{OfForm, an_emit, with_then, with_else, a_parallel, Room, signal, part, gate, dungeon, Corridor, visible, secret}
use Rattle.mazes.specs.Mazes.{corridors, maze_of, OneOf, End, winning, losing, Ends, by_visible, by_secret, denied, Wins, Loses}
use Rattle.mazes.proofs.Lists.{none_of, the_first, a_later, first_or_later, the_only, of_first, of_second, of_either}
use Rattle.mazes.proofs.Standing.{Stands, at_root, itself, not_nothing}
use Rattle.mazes.proofs.Played.{idle, part_is, then_gate, else_gate, then_stands, else_stands, first_stands, second_stands, as_input, as_output}

-- What can gives for a test with one part.
module _ (a : ℕ) (k : Mark) where
  can_then_part : (v : Status) (P P? : Given) → T ((choose (can k) v P idle P? idle).signals a) → T (P.signals a) ⊎ T (P?.signals a)
  can_then_part present P P? t = inl t
  can_then_part absent P P? t = absurd t
  can_then_part unknown P P? t = go (or_out (P?.signals a) false t)
    where
      go : T (P?.signals a) ⊎ T false → T (P.signals a) ⊎ T (P?.signals a)
      go (inl u) = inr u
      go (inr u) = absurd u

  can_else_part : (v : Status) (Q Q? : Given) → T ((choose (can k) v idle Q idle Q?).signals a) → T (Q.signals a) ⊎ T (Q?.signals a)
  can_else_part present Q Q? t = absurd t
  can_else_part absent Q Q? t = inl t
  can_else_part unknown Q Q? t = inr t

  -- A mark passes over to another where it does over the part.
  then_marked : (l : Mark) (v : Status) (P P' P? : Given) → (T (P.signals a) → T (P'.signals a))
      → T ((choose (can k) v P idle P? idle).signals a) → T ((choose (can l) v P' idle P? idle).signals a)
  then_marked l present P P' P? f t = f t
  then_marked l absent P P' P? f t = t
  then_marked l unknown P P' P? f t = t

  else_marked : (l : Mark) (v : Status) (Q Q' Q? : Given) → (T (Q.signals a) → T (Q'.signals a))
      → T ((choose (can k) v idle Q idle Q?).signals a) → T ((choose (can l) v idle Q' idle Q?).signals a)
  else_marked l present Q Q' Q? f t = t
  else_marked l absent Q Q' Q? f t = f t
  else_marked l unknown Q Q' Q? f t = t

-- In this form can does not depend on its mark.
pub any_mark : (E : Event) (a : ℕ) (k l : Mark) {p : Stmt} → OfForm p → T ((gives (can k) (started p) E).signals a) → T ((gives (can l) (started p) E).signals a)
unfolding started gives
any_mark E a k l (an_emit s) t = t
any_mark E a k l (with_then s {p} f) t =
    then_marked a k l (E s) (gives (can k) (started p) E) (gives (can l) (started p) E) (gives (can opened) (started p) E) (any_mark E a k l f) t
any_mark E a k l (with_else s {q} f) t =
    else_marked a k l (E s) (gives (can k) (started q) E) (gives (can l) (started q) E) (gives (can opened) (started q) E) (any_mark E a k l f) t
any_mark E a k l (a_parallel {p} {q} f g) t =
    go (any_mark E a k l f) (any_mark E a k l g) (or_out ((gives (can k) (started p) E).signals a) ((gives (can k) (started q) E).signals a) t)
  where
    go : (T ((gives (can k) (started p) E).signals a) → T ((gives (can l) (started p) E).signals a))
        → (T ((gives (can k) (started q) E).signals a) → T ((gives (can l) (started q) E).signals a))
        → T ((gives (can k) (started p) E).signals a) ⊎ T ((gives (can k) (started q) E).signals a)
        → T ((gives (can l) (started p) E).signals a || (gives (can l) (started q) E).signals a)
    go x y (inl u) = or_left ((gives (can l) (started p) E).signals a) ((gives (can l) (started q) E).signals a) (x u)
    go x y (inr u) = or_right ((gives (can l) (started p) E).signals a) ((gives (can l) (started q) E).signals a) (y u)

module _ (b : Block) (given : Numbers) (E : Event) where
  abbrev declared : ℕ → Bool
  declared s = ltb s (b.inputs + b.outputs)

  -- Statuses that a round leaves as they are, with every input known.
  pub record Settled : Type 0 where
    pub input_known : (s : ℕ) → T (ltb s b.inputs) → E s ≡ known (given s)
    pub must_present : (s : ℕ) → ltb s b.inputs ≡ false → T (declared s) → T ((gives must (started b.body) E).signals s) → E s ≡ present
    pub cannot_absent : (s : ℕ) → ltb s b.inputs ≡ false → T (declared s) → (T ((gives (can plus) (started b.body) E).signals s) → ⊥) → E s ≡ absent

  -- A statement of the form, in its place, that tests declared signals alone.
  pub record Fits (i : ℕ) (t : Stmt) : Type 0 where
    pub its_form : OfForm t
    pub stands : Stands b.body i t
    pub scoped : Scoped b.inputs b.outputs empty t

  in_scope : (s : ℕ) → T (declared s || empty s) → T (declared s)
  in_scope s t = go (or_out (declared s) false t)
    where
      go : T (declared s) ⊎ T false → T (declared s)
      go (inl u) = u
      go (inr u) = absurd u

  -- The claim of a room that wins, and of one that loses.
  unfoldable pub Won : Room → Type 0
  unfolding started gives
  Won (signal s) = T (declared s) → E s ≡ present
  Won (part i a) = (t : Stmt) → Fits i t → T ((gives must (started t) E).signals a)
  Won (gate i a) = (s : ℕ) (p q : Stmt) → Fits i (present? s then p else q) → T ((gives (can plus) (started (present? s then p else q)) E).signals a) → ⊥
  Won dungeon = ⊥

  unfoldable pub Lost : Room → Type 0
  unfolding started gives
  Lost (signal s) = T (declared s) → E s ≡ absent
  Lost (part i a) = (t : Stmt) → Fits i t → T ((gives (can plus) (started t) E).signals a) → ⊥
  Lost (gate i a) = (s : ℕ) (p q : Stmt) → Fits i (present? s then p else q) → T ((gives must (started (present? s then p else q)) E).signals a)
  Lost dungeon = Unit {0}

  abbrev Gained : Corridor → Type 0
  Gained (visible r) = Lost r
  Gained (secret r) = Won r

  abbrev Refuted : Corridor → Type 0
  Refuted (visible r) = Won r
  Refuted (secret r) = Lost r

  then_fits : {i s : ℕ} {p : Stmt} → OfForm p → Fits i (present? s then p else nothing) → T (declared s) × Fits (i + 1) p
  unfolding Scoped
  then_fits {s = s} f h = (in_scope s h.scoped.0, record { its_form = f; stands = then_stands b given h.stands; scoped = h.scoped.1 })

  else_fits : {i s : ℕ} {q : Stmt} → OfForm q → Fits i (present? s then nothing else q) → T (declared s) × Fits (i + 1 + statements nothing) q
  unfolding Scoped
  else_fits {s = s} f h = (in_scope s h.scoped.0, record { its_form = f; stands = else_stands b given h.stands; scoped = h.scoped.2 })

  arms_fit : {i : ℕ} {p q : Stmt} → OfForm p → OfForm q → Fits i (p parallel q) → Fits (i + 1) p × Fits (i + 1 + statements p) q
  unfolding Scoped
  arms_fit f g h = (
    record { its_form = f; stands = first_stands b given h.stands; scoped = h.scoped.0 },
    record { its_form = g; stands = second_stands b given h.stands; scoped = h.scoped.1 },
  )

  module _ (a : ℕ) where
    only_dungeon : (z : Bool) (c : Corridor) → OneOf (cond z (visible dungeon ∷ []) []) c → T z
    only_dungeon true c h = tt
    only_dungeon false c h = absurd (none_of h)

    dungeon_refuted : (z : Bool) → ((c : Corridor) → OneOf (cond z (visible dungeon ∷ []) []) c → Refuted c) → T z → ⊥
    unfolding Won
    dungeon_refuted true f t = f (visible dungeon) (the_first (visible dungeon) [])
    dungeon_refuted false f t = t

    -- A corridor that gains: the signal must be emitted. All refuted: it cannot.
    gained_must : {p : Stmt} (f : OfForm p) (i : ℕ) → Fits i p → (c : Corridor) → OneOf (corridors a i p) c → Gained c → T ((gives must (started p) E).signals a)
    unfolding started gives corridors Lost
    gained_must (an_emit s) i h c k g = only_dungeon (eqb a s) c k
    gained_must (with_then s {p} f) i h c k g = subst⁻¹ Gained (the_only k) g s p nothing h
    gained_must (with_else s {q} f) i h c k g = subst⁻¹ Gained (the_only k) g s nothing q h
    gained_must (a_parallel {p} {q} f g) i h c k x =
        let d = arms_fit f g h in
        go (λ u. gained_must f (i + 1) d.0 c u x) (λ u. gained_must g (i + 1 + statements p) d.1 c u x)
        (of_either (corridors a (i + 1) p) (corridors a (i + 1 + statements p) q) k)
      where
        go : (OneOf (corridors a (i + 1) p) c → T ((gives must (started p) E).signals a))
            → (OneOf (corridors a (i + 1 + statements p) q) c → T ((gives must (started q) E).signals a))
            → OneOf (corridors a (i + 1) p) c ⊎ OneOf (corridors a (i + 1 + statements p) q) c
            → T ((gives must (started p) E).signals a || (gives must (started q) E).signals a)
        go y z (inl u) = or_left ((gives must (started p) E).signals a) ((gives must (started q) E).signals a) (y u)
        go y z (inr u) = or_right ((gives must (started p) E).signals a) ((gives must (started q) E).signals a) (z u)

    refuted_cannot : {p : Stmt} (f : OfForm p) (i : ℕ) → Fits i p → ((c : Corridor) → OneOf (corridors a i p) c → Refuted c)
        → T ((gives (can plus) (started p) E).signals a) → ⊥
    unfolding started gives corridors Won
    refuted_cannot (an_emit s) i h x t = dungeon_refuted (eqb a s) x t
    refuted_cannot (with_then s {p} f) i h x t = x (visible (gate i a)) (the_first (visible (gate i a)) []) s p nothing h t
    refuted_cannot (with_else s {q} f) i h x t = x (visible (gate i a)) (the_first (visible (gate i a)) []) s nothing q h t
    refuted_cannot (a_parallel {p} {q} f g) i h x t =
        let d = arms_fit f g h in
        go (refuted_cannot f (i + 1) d.0 (λ c u. x c (of_first (corridors a (i + 1) p) (corridors a (i + 1 + statements p) q) u)))
        (refuted_cannot g (i + 1 + statements p) d.1 (λ c u. x c (of_second (corridors a (i + 1) p) (corridors a (i + 1 + statements p) q) u)))
        (or_out ((gives (can plus) (started p) E).signals a) ((gives (can plus) (started q) E).signals a) t)
      where
        go : (T ((gives (can plus) (started p) E).signals a) → ⊥) → (T ((gives (can plus) (started q) E).signals a) → ⊥)
            → T ((gives (can plus) (started p) E).signals a) ⊎ T ((gives (can plus) (started q) E).signals a) → ⊥
        go y z (inl u) = y u
        go y z (inr u) = z u

    -- The same of a test's gate.
    then_can : (s : ℕ) {p : Stmt} → OfForm p → T ((gives (can plus) (started (present? s then p else nothing)) E).signals a) → T ((gives (can plus) (started p) E).signals a)
    unfolding started gives
    then_can s {p} f t = go (can_then_part a plus (E s) (gives (can plus) (started p) E) (gives (can opened) (started p) E) t)
      where
        go : T ((gives (can plus) (started p) E).signals a) ⊎ T ((gives (can opened) (started p) E).signals a) → T ((gives (can plus) (started p) E).signals a)
        go (inl u) = u
        go (inr u) = any_mark E a opened plus f u

    else_can : (s : ℕ) {q : Stmt} → OfForm q → T ((gives (can plus) (started (present? s then nothing else q)) E).signals a) → T ((gives (can plus) (started q) E).signals a)
    unfolding started gives
    else_can s {q} f t = go (can_else_part a plus (E s) (gives (can plus) (started q) E) (gives (can opened) (started q) E) t)
      where
        go : T ((gives (can plus) (started q) E).signals a) ⊎ T ((gives (can opened) (started q) E).signals a) → T ((gives (can plus) (started q) E).signals a)
        go (inl u) = u
        go (inr u) = any_mark E a opened plus f u

    not_then : (s : ℕ) (p : Stmt) → E s ≡ absent → T ((gives (can plus) (started (present? s then p else nothing)) E).signals a) → ⊥
    unfolding started gives
    not_then s p e t = subst (λ (v : Status). T ((choose (can plus) v (gives (can plus) (started p) E) idle (gives (can opened) (started p) E) idle).signals a)) e t

    not_else : (s : ℕ) (q : Stmt) → E s ≡ present → T ((gives (can plus) (started (present? s then nothing else q)) E).signals a) → ⊥
    unfolding started gives
    not_else s q e t = subst (λ (v : Status). T ((choose (can plus) v idle (gives (can plus) (started q) E) idle (gives (can opened) (started q) E)).signals a)) e t

    then_must : (s : ℕ) (p : Stmt) → E s ≡ present → T ((gives must (started p) E).signals a) → T ((gives must (started (present? s then p else nothing)) E).signals a)
    unfolding started gives
    then_must s p e t = subst⁻¹ (λ (v : Status). T ((choose must v (gives must (started p) E) idle (gives must (started p) E) idle).signals a)) e t

    else_must : (s : ℕ) (q : Stmt) → E s ≡ absent → T ((gives must (started q) E).signals a) → T ((gives must (started (present? s then nothing else q)) E).signals a)
    unfolding started gives
    else_must s q e t = subst⁻¹ (λ (v : Status). T ((choose must v idle (gives must (started q) E) idle (gives must (started q) E)).signals a)) e t

    gate_won : {s : ℕ} {p q : Stmt} → OfForm (present? s then p else q) → (i : ℕ) → Fits i (present? s then p else q) → (c : Corridor) → OneOf (maze_of b given (gate i a)) c → Gained c
        → T ((gives (can plus) (started (present? s then p else q)) E).signals a) → ⊥
    unfolding Won Lost
    gate_won (with_then s {p} f) i h c k g t =
        let d = then_fits f h in
        go d (first_or_later (subst (λ (cs : List Corridor). OneOf cs c) (then_gate b given a h.stands) k))
      where
        go : T (declared s) × Fits (i + 1) p → (visible (signal s) ≡ c) ⊎ OneOf (visible (part (i + 1) a) ∷ []) c → ⊥
        go d (inl e) = not_then s p (subst⁻¹ Gained e g d.0) t
        go d (inr u) = subst⁻¹ Gained (the_only u) g p d.1 (then_can s f t)
    gate_won (with_else s {q} f) i h c k g t =
        let d = else_fits f h in
        go d (first_or_later (subst (λ (cs : List Corridor). OneOf cs c) (else_gate b given a f h.stands) k))
      where
        go : T (declared s) × Fits (i + 1 + statements nothing) q → (secret (signal s) ≡ c) ⊎ OneOf (visible (part (i + 1 + statements nothing) a) ∷ []) c → ⊥
        go d (inl e) = not_else s q (subst⁻¹ Gained e g d.0) t
        go d (inr u) = subst⁻¹ Gained (the_only u) g q d.1 (else_can s f t)

    gate_lost : {s : ℕ} {p q : Stmt} → OfForm (present? s then p else q) → (i : ℕ) → Fits i (present? s then p else q) → ((c : Corridor) → OneOf (maze_of b given (gate i a)) c → Refuted c)
        → T ((gives must (started (present? s then p else q)) E).signals a)
    unfolding Won Lost
    gate_lost (with_then s {p} f) i h x =
        let d = then_fits f h in
        let y : (c : Corridor) → OneOf (visible (signal s) ∷ visible (part (i + 1) a) ∷ []) c → Refuted c =
        subst (λ (cs : List Corridor). (c : Corridor) → OneOf cs c → Refuted c) (then_gate b given a h.stands) x in
        then_must s p (y (visible (signal s)) (the_first (visible (signal s)) (visible (part (i + 1) a) ∷ [])) d.0)
        (y (visible (part (i + 1) a)) (a_later (visible (signal s)) (the_first (visible (part (i + 1) a)) [])) p d.1)
    gate_lost (with_else s {q} f) i h x =
        let d = else_fits f h in
        let inner = part (i + 1 + statements nothing) a in
        let y : (c : Corridor) → OneOf (secret (signal s) ∷ visible inner ∷ []) c → Refuted c =
        subst (λ (cs : List Corridor). (c : Corridor) → OneOf cs c → Refuted c) (else_gate b given a f h.stands) x in
        else_must s q (y (secret (signal s)) (the_first (secret (signal s)) (visible inner ∷ [])) d.0)
        (y (visible inner) (a_later (secret (signal s)) (the_first (visible inner) [])) q d.1)

  module _ (settled : Settled) (body_fits : Fits 0 b.body) where
    -- The room of an input has a corridor exactly where the input is given.
    input_gained : (z : Bool) (c : Corridor) → OneOf (cond z (visible dungeon ∷ []) []) c → known z ≡ present
    input_gained true c h = refl
    input_gained false c h = absurd (none_of h)

    input_refuted : (z : Bool) → ((c : Corridor) → OneOf (cond z (visible dungeon ∷ []) []) c → Refuted c) → known z ≡ absent
    unfolding Won
    input_refuted true f = absurd (f (visible dungeon) (the_first (visible dungeon) []))
    input_refuted false f = refl

    won_by : (r : Room) (c : Corridor) → OneOf (maze_of b given r) c → Gained c → Won r
    unfolding Won maze_of
    won_by (signal s) c k g = λ d. go d (cases (ltb s b.inputs))
      where
        go : T (declared s) → T (ltb s b.inputs) ⊎ (ltb s b.inputs ≡ false) → E s ≡ present
        go d (inl t) = settled.input_known s t ∙ input_gained (given s) c (subst (λ (cs : List Corridor). OneOf cs c) (as_input b given s t) k)
        go d (inr e) = settled.must_present s e d (gained_must s body_fits.its_form 0 body_fits c (subst (λ (cs : List Corridor). OneOf cs c) (as_output b given s e) k) g)
    won_by (part i a) c k g = λ t h. gained_must a h.its_form i h c (subst (λ (cs : List Corridor). OneOf cs c) (part_is b given a h.stands) k) g
    won_by (gate i a) c k g = λ s p q h. gate_won a h.its_form i h c k g
    won_by dungeon c k g = none_of k

    lost_by : (r : Room) → ((c : Corridor) → OneOf (maze_of b given r) c → Refuted c) → Lost r
    unfolding Lost maze_of
    lost_by (signal s) x = λ d. go d (cases (ltb s b.inputs))
      where
        go : T (declared s) → T (ltb s b.inputs) ⊎ (ltb s b.inputs ≡ false) → E s ≡ absent
        go d (inl t) = settled.input_known s t ∙ input_refuted (given s) (subst (λ (cs : List Corridor). (c : Corridor) → OneOf cs c → Refuted c) (as_input b given s t) x)
        go d (inr e) =
            settled.cannot_absent s e d
            (refuted_cannot s body_fits.its_form 0 body_fits (subst (λ (cs : List Corridor). (c : Corridor) → OneOf cs c → Refuted c) (as_output b given s e) x))
    lost_by (part i a) x =
        λ t h. refuted_cannot a h.its_form i h (subst (λ (cs : List Corridor). (c : Corridor) → OneOf cs c → Refuted c) (part_is b given a h.stands) x)
    lost_by (gate i a) x = λ s p q h. gate_lost a h.its_form i h x
    lost_by dungeon x = tt

    each : (r : Room) → ((s : Room) → OneOf (maze_of b given r) (visible s) → Won s) → ((s : Room) → OneOf (maze_of b given r) (secret s) → Lost s)
        → (c : Corridor) → OneOf (maze_of b given r) c → Refuted c
    each r f g (visible s) k = f s k
    each r f g (secret s) k = g s k

    unfoldable Claim : End → Room → Type 0
    Claim winning r = Won r
    Claim losing r = Lost r

    claimed : {e : End} {r : Room} → Ends (maze_of b given) e r → Claim e r
    unfolding Claim
    claimed {r = r} (by_visible {r' = s} k l) = won_by r (visible s) k (claimed l)
    claimed {r = r} (by_secret {r' = s} k w) = won_by r (secret s) k (claimed w)
    claimed {r = r} (denied f g) = lost_by r (each r (λ s k. claimed (f s k)) (λ s k. claimed (g s k)))

    pub won : {r : Room} → Wins (maze_of b given) r → Won r
    unfolding Claim
    won h = claimed h

    pub lost : {r : Room} → Loses (maze_of b given) r → Lost r
    unfolding Claim
    lost h = claimed h
