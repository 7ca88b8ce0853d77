-- Statuses that are played for justify the next ones: where every present signal's room wins and every absent one's loses, a signal that must be emitted has a corridor
-- that wins, and one that cannot be has none but denied ones. By induction over the form. Assumes nothing.
use mathlib.Core.Path.{◌≡◌, refl, sym, ◌∙◌, ap, subst, subst⁻¹}
use mathlib.Core.Logic.{◌⊎◌, inl, inr}
use mathlib.Core.Bool.{Bool, true, false, cond}
use mathlib.Core.List.{List, [], ◌∷◌, ◌++◌}
use Prim.Native.Nat.{ℕ, ◌+◌}
use lib.Dec.{T, eqb, ltb}
use Rattle.sets.specs.Numbers.{Numbers, empty, single}
use Rattle.sets.proofs.Members.{is_true, or_out, or_left, or_right}
use Rattle.rules.specs.Statements.{Block, Stmt, nothing, emit, present?◌then◌else◌, ◌parallel◌, statements, preorder, numbered}
use Rattle.rules.specs.Events.{Status, present, absent, unknown, Event}
use Rattle.rules.specs.Instant.{started}
use Rattle.rules.specs.MustCan.{Mark, must, can, opened, choose, gives, Given}
use Rattle.mazes.specs.Mazes.{OfForm, an_emit, with_then, with_else, a_parallel, is_nothing}
use Rattle.mazes.specs.Mazes.{Room, signal, part, gate, dungeon, Corridor, visible, secret, Maze, corridors, gate_corridors, maze_of, nth, OneOf, Wins, by_visible, by_secret, Loses, denied}
use Rattle.mazes.proofs.Lists.{none_of, the_first, a_later, first_or_later, the_only, of_first, of_second, of_either}
use Rattle.mazes.proofs.Standing.{Stands, itself, of_one, of_other, not_nothing}

module _ (m : Maze) where
  -- What a corridor gives to the player who takes it, and what denies it.
  abbrev pub Gains : Corridor → Type 0
  Gains (visible r) = Loses m r
  Gains (secret r) = Wins m r

  abbrev pub Denies : Corridor → Type 0
  Denies (visible r) = Wins m r
  Denies (secret r) = Loses m r

  pub record SomeGains (cs : List Corridor) : Type 0 where
    pub corridor : Corridor
    pub is_one : OneOf cs corridor
    pub gains : Gains corridor

  pub record AllDeny (cs : List Corridor) : Type 0 where
    pub at : (c : Corridor) → OneOf cs c → Denies c

  pub room_wins : {r : Room} → SomeGains (m r) → Wins m r
  room_wins {r} h = go h.corridor h.is_one h.gains
    where
      go : (c : Corridor) → OneOf (m r) c → Gains c → Wins m r
      go (visible s) k g = by_visible k g
      go (secret s) k g = by_secret k g

  pub room_loses : {r : Room} → AllDeny (m r) → Loses m r
  room_loses h = denied (λ s k. h.at (visible s) k) (λ s k. h.at (secret s) k)

  pub gains_first : (cs ds : List Corridor) → SomeGains cs → SomeGains (cs ++ ds)
  gains_first cs ds h = record { corridor = h.corridor; is_one = of_first cs ds h.is_one; gains = h.gains }

  pub gains_second : (cs ds : List Corridor) → SomeGains ds → SomeGains (cs ++ ds)
  gains_second cs ds h = record { corridor = h.corridor; is_one = of_second cs ds h.is_one; gains = h.gains }

  pub none_denies : AllDeny []
  none_denies = record { at = λ c h. absurd (none_of h) }

  pub one_denies : {d : Corridor} → Denies d → AllDeny (d ∷ [])
  one_denies h = record { at = λ c k. subst Denies (the_only k) h }

  pub both_deny : (cs ds : List Corridor) → AllDeny cs → AllDeny ds → AllDeny (cs ++ ds)
  both_deny cs ds f g = record { at = λ c k. go c (of_either cs ds k) }
    where
      go : (c : Corridor) → OneOf cs c ⊎ OneOf ds c → Denies c
      go c (inl k) = f.at c k
      go c (inr k) = g.at c k

  pub two_deny : {d e : Corridor} → Denies d → Denies e → AllDeny (d ∷ e ∷ [])
  two_deny {d} {e} f g = record { at = λ c k. go c (first_or_later k) }
    where
      go : (c : Corridor) → (d ≡ c) ⊎ OneOf (e ∷ []) c → Denies c
      go c (inl q) = subst Denies q f
      go c (inr k) = subst Denies (the_only k) g

  pub first_gains : (d : Corridor) (cs : List Corridor) → Gains d → SomeGains (d ∷ cs)
  first_gains d cs g = record { corridor = d; is_one = the_first d cs; gains = g }

  pub later_gains : (d : Corridor) {cs : List Corridor} → SomeGains cs → SomeGains (d ∷ cs)
  later_gains d h = record { corridor = h.corridor; is_one = a_later d h.is_one; gains = h.gains }

  pub dungeon_loses : m dungeon ≡ [] → Loses m dungeon
  dungeon_loses e = room_loses (subst⁻¹ AllDeny e none_denies)

-- What a test gives where one branch is nothing, by the signal's status: what nothing gives is `idle`.
abbrev pub idle : Given
idle = record { signals = empty; codes = single 0 }

module _ (a : ℕ) where
  pub must_then : (v : Status) (P P? Q? : Given) → T ((choose must v P idle P? Q?).signals a) → (v ≡ present) × T (P.signals a)
  must_then present P P? Q? t = (refl, t)
  must_then absent P P? Q? t = absurd t
  must_then unknown P P? Q? t = absurd t

  pub must_else : (v : Status) (Q P? Q? : Given) → T ((choose must v idle Q P? Q?).signals a) → (v ≡ absent) × T (Q.signals a)
  must_else present Q P? Q? t = absurd t
  must_else absent Q P? Q? t = (refl, t)
  must_else unknown Q P? Q? t = absurd t

  pub cannot_then : (k : Mark) (v : Status) (P P? : Given) → (T ((choose (can k) v P idle P? idle).signals a) → ⊥)
      → (v ≡ absent) ⊎ ((T (P.signals a) → ⊥) ⊎ (T (P?.signals a) → ⊥))
  cannot_then k present P P? f = inr (inl f)
  cannot_then k absent P P? f = inl refl
  cannot_then k unknown P P? f = inr (inr (λ t. f (or_left (P?.signals a) false t)))

  pub cannot_else : (k : Mark) (v : Status) (Q Q? : Given) → (T ((choose (can k) v idle Q idle Q?).signals a) → ⊥)
      → (v ≡ present) ⊎ ((T (Q.signals a) → ⊥) ⊎ (T (Q?.signals a) → ⊥))
  cannot_else k present Q Q? f = inl refl
  cannot_else k absent Q Q? f = inr (inl f)
  cannot_else k unknown Q Q? f = inr (inr f)

module _ (b : Block) (given : Numbers) where
  abbrev pub maze : Maze
  maze = maze_of b given

  -- Every present signal's room wins, and every absent one's loses.
  pub record Played (E : Event) : Type 0 where
    pub present_wins : (s : ℕ) → E s ≡ present → Wins maze (signal s)
    pub absent_loses : (s : ℕ) → E s ≡ absent → Loses maze (signal s)

  -- The rooms of a part and of a gate, by the statement that stands there.
  pub part_is : {i : ℕ} {p : Stmt} (a : ℕ) → Stands b.body i p → maze (part i a) ≡ corridors a i p
  unfolding maze_of
  part_is {i} a h = ap (corridors a i) (itself h)

  pub then_gate : {i s : ℕ} {p : Stmt} (a : ℕ) → Stands b.body i (present? s then p else nothing)
      → maze (gate i a) ≡ visible (signal s) ∷ visible (part (i + 1) a) ∷ []
  unfolding maze_of gate_corridors
  then_gate {i} a h = ap (gate_corridors a i) (itself h)

  pub else_gate : {i s : ℕ} {q : Stmt} (a : ℕ) → OfForm q → Stands b.body i (present? s then nothing else q)
      → maze (gate i a) ≡ secret (signal s) ∷ visible (part (i + 1 + statements nothing) a) ∷ []
  unfolding maze_of gate_corridors
  else_gate {i} {s} a f h =
      ap (gate_corridors a i) (itself h)
      ∙ ap (λ (z : Bool). cond z (visible (signal s) ∷ visible (part (i + 1) a) ∷ []) (secret (signal s) ∷ visible (part (i + 1 + statements nothing) a) ∷ [])) (not_nothing f)

  -- The room of an input, and of any other signal.
  pub as_input : (s : ℕ) → T (ltb s b.inputs) → maze_of b given (signal s) ≡ cond (given s) (visible dungeon ∷ []) []
  unfolding maze_of
  as_input s t = ap (λ (z : Bool). cond z (cond (given s) (visible dungeon ∷ []) []) (corridors s 0 b.body)) (is_true (ltb s b.inputs) t)

  pub as_output : (s : ℕ) → ltb s b.inputs ≡ false → maze_of b given (signal s) ≡ corridors s 0 b.body
  unfolding maze_of
  as_output s e = ap (λ (z : Bool). cond z (cond (given s) (visible dungeon ∷ []) []) (corridors s 0 b.body)) e

  -- The parts of a test and the arms of a parallel stand where the rules of the maze say.
  pub then_stands : {i s : ℕ} {p : Stmt} → Stands b.body i (present? s then p else nothing) → Stands b.body (i + 1) p
  unfolding preorder statements
  then_stands {i} {s} {p} h = of_one (present? s then p else nothing) p nothing refl refl h

  pub else_stands : {i s : ℕ} {q : Stmt} → Stands b.body i (present? s then nothing else q) → Stands b.body (i + 1 + statements nothing) q
  unfolding preorder statements
  else_stands {i} {s} {q} h = of_other (present? s then nothing else q) nothing q refl refl h

  pub first_stands : {i : ℕ} {p q : Stmt} → Stands b.body i (p parallel q) → Stands b.body (i + 1) p
  unfolding preorder statements
  first_stands {i} {p} {q} h = of_one (p parallel q) p q refl refl h

  pub second_stands : {i : ℕ} {p q : Stmt} → Stands b.body i (p parallel q) → Stands b.body (i + 1 + statements p) q
  unfolding preorder statements
  second_stands {i} {p} {q} h = of_other (p parallel q) p q refl refl h

  pub no_way_out : maze dungeon ≡ []
  unfolding maze_of
  no_way_out = refl

  pub emit_gains : (z : Bool) → T z → SomeGains maze (cond z (visible dungeon ∷ []) [])
  emit_gains true t = first_gains maze (visible dungeon) [] (dungeon_loses maze no_way_out)
  emit_gains false t = absurd t

  pub no_emit_denies : (z : Bool) → (T z → ⊥) → AllDeny maze (cond z (visible dungeon ∷ []) [])
  no_emit_denies true f = absurd (f tt)
  no_emit_denies false f = none_denies maze

  module _ (E : Event) (played : Played E) (a : ℕ) where
    pub must_gains : {p : Stmt} → OfForm p → (i : ℕ) → Stands b.body i p → T ((gives must (started p) E).signals a) → SomeGains maze (corridors a i p)
    unfolding started gives corridors
    must_gains (an_emit s) i h t = emit_gains (eqb a s) t
    must_gains (with_then s {p} f) i h t =
        let c = must_then a (E s) (gives must (started p) E) (gives must (started p) E) idle t in
        let inside : Wins maze (part (i + 1) a) =
        room_wins maze (subst⁻¹ (SomeGains maze) (part_is a (then_stands h)) (must_gains f (i + 1) (then_stands h) c.1)) in
        first_gains maze (visible (gate i a)) []
        (room_loses maze (subst⁻¹ (AllDeny maze) (then_gate a h) (two_deny maze (played.present_wins s c.0) inside)))
    must_gains (with_else s {q} f) i h t =
        let c = must_else a (E s) (gives must (started q) E) idle (gives must (started q) E) t in
        let inside : Wins maze (part (i + 1 + statements nothing) a) =
        room_wins maze (subst⁻¹ (SomeGains maze) (part_is a (else_stands h)) (must_gains f (i + 1 + statements nothing) (else_stands h) c.1)) in
        first_gains maze (visible (gate i a)) []
        (room_loses maze (subst⁻¹ (AllDeny maze) (else_gate a f h) (two_deny maze (played.absent_loses s c.0) inside)))
    must_gains (a_parallel {p} {q} f g) i h t =
        go (must_gains f (i + 1) (first_stands h)) (must_gains g (i + 1 + statements p) (second_stands h))
        (or_out ((gives must (started p) E).signals a) ((gives must (started q) E).signals a) t)
      where
        go : (T ((gives must (started p) E).signals a) → SomeGains maze (corridors a (i + 1) p))
            → (T ((gives must (started q) E).signals a) → SomeGains maze (corridors a (i + 1 + statements p) q))
            → T ((gives must (started p) E).signals a) ⊎ T ((gives must (started q) E).signals a)
            → SomeGains maze (corridors a (i + 1) p ++ corridors a (i + 1 + statements p) q)
        go x y (inl u) = gains_first maze (corridors a (i + 1) p) (corridors a (i + 1 + statements p) q) (x u)
        go x y (inr u) = gains_second maze (corridors a (i + 1) p) (corridors a (i + 1 + statements p) q) (y u)

    pub cannot_deny : {p : Stmt} → OfForm p → (k : Mark) (i : ℕ) → Stands b.body i p → (T ((gives (can k) (started p) E).signals a) → ⊥) → AllDeny maze (corridors a i p)
    unfolding started gives corridors
    cannot_deny (an_emit s) k i h n = no_emit_denies (eqb a s) n
    cannot_deny (with_then s {p} f) k i h n =
        one_denies maze (room_wins maze (subst⁻¹ (SomeGains maze) (then_gate a h)
        (go (λ l u. room_loses maze (subst⁻¹ (AllDeny maze) (part_is a (then_stands h)) (cannot_deny f l (i + 1) (then_stands h) u)))
        (cannot_then a k (E s) (gives (can k) (started p) E) (gives (can opened) (started p) E) n))))
      where
        go : ((l : Mark) → (T ((gives (can l) (started p) E).signals a) → ⊥) → Loses maze (part (i + 1) a))
            → (E s ≡ absent) ⊎ ((T ((gives (can k) (started p) E).signals a) → ⊥) ⊎ (T ((gives (can opened) (started p) E).signals a) → ⊥))
            → SomeGains maze (visible (signal s) ∷ visible (part (i + 1) a) ∷ [])
        go f (inl e) = first_gains maze (visible (signal s)) (visible (part (i + 1) a) ∷ []) (played.absent_loses s e)
        go f (inr (inl u)) = later_gains maze (visible (signal s)) (first_gains maze (visible (part (i + 1) a)) [] (f k u))
        go f (inr (inr u)) = later_gains maze (visible (signal s)) (first_gains maze (visible (part (i + 1) a)) [] (f opened u))
    cannot_deny (with_else s {q} f) k i h n =
        one_denies maze (room_wins maze (subst⁻¹ (SomeGains maze) (else_gate a f h)
        (go (λ l u. room_loses maze (subst⁻¹ (AllDeny maze) (part_is a (else_stands h)) (cannot_deny f l (i + 1 + statements nothing) (else_stands h) u)))
        (cannot_else a k (E s) (gives (can k) (started q) E) (gives (can opened) (started q) E) n))))
      where
        go : ((l : Mark) → (T ((gives (can l) (started q) E).signals a) → ⊥) → Loses maze (part (i + 1 + statements nothing) a))
            → (E s ≡ present) ⊎ ((T ((gives (can k) (started q) E).signals a) → ⊥) ⊎ (T ((gives (can opened) (started q) E).signals a) → ⊥))
            → SomeGains maze (secret (signal s) ∷ visible (part (i + 1 + statements nothing) a) ∷ [])
        go f (inl e) = first_gains maze (secret (signal s)) (visible (part (i + 1 + statements nothing) a) ∷ []) (played.present_wins s e)
        go f (inr (inl u)) = later_gains maze (secret (signal s)) (first_gains maze (visible (part (i + 1 + statements nothing) a)) [] (f k u))
        go f (inr (inr u)) = later_gains maze (secret (signal s)) (first_gains maze (visible (part (i + 1 + statements nothing) a)) [] (f opened u))
    cannot_deny (a_parallel {p} {q} f g) k i h n =
        both_deny maze (corridors a (i + 1) p) (corridors a (i + 1 + statements p) q)
        (cannot_deny f k (i + 1) (first_stands h) (λ t. n (or_left ((gives (can k) (started p) E).signals a) ((gives (can k) (started q) E).signals a) t)))
        (cannot_deny g k (i + 1 + statements p) (second_stands h) (λ t. n (or_right ((gives (can k) (started p) E).signals a) ((gives (can k) (started q) E).signals a) t)))
