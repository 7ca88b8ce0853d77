-- The tests of a record, each on its own, are those that the reading makes: each is a Boolean's two ways. Assumes nothing.
use mathlib.Core.Path.{◌≡◌, refl, sym, ◌∙◌}
use mathlib.Core.Logic.{◌⊎◌, inl, inr, ◌≢◌}
use mathlib.Core.Bool.{Bool, true, false, not, cond, ◌&&◌, ◌||◌}
use mathlib.Core.List.{List, [], ◌∷◌}
use Prim.Native.Nat.{ℕ, ◌+◌, ◌-◌, ◌≤◌, ◌<◌}
use native.Mathlib.Omega.{arith}
use lib.Dec.{T, eqb, ltb, leb, not_T, T_not, ltb→lt, lt→ltb, leb→le, eqb→eq}
use lib.ListN.{length}
use borrow.Author.Tests.{eqb-true, eqb-false, ltb-true, ltb-false, leb-true, leb-false, le-leb}
use Rattle.sets.proofs.Members.{of_true, of_false, and_in, and_left, and_right, or_left, or_right, or_out, eqb_in}
use Rattle.block.specs.Format.{BROKEN, KIND, EDITION, LIMIT, SIGNAL, EXIT, SHAPE, two_bytes, length_at, kind_at, operand_at, is_broken, Header, header, header_fault}
use Rattle.block.specs.Format.{Sofar, declared_here, over_limit, wrong_signal, wrong_exit, statement_fault}
use Rattle.tables.specs.Kinds.{length_of}
use Rattle.promises.specs.Tests.{Test, First}
use Rattle.promises.specs.FirstRecord.{Broken, fewer_than_4, length_below_4, above_what_is_left, header_tests, Due, WrongKind, not_allowed, not_its_length}
use Rattle.promises.specs.FirstRecord.{OverLimit, on_the_path, in_all, pauses, nested_traps, nested_locals, WrongSignal, emit_undeclared, emit_of_an_input}
use Rattle.promises.specs.FirstRecord.{present_undeclared, suspend_undeclared, local_too_many, local_not_the_next, WrongExit, statement_tests}

-- No two numbers are first.
pub first_is_one : (ts : List Test) (m n : ℕ) → First ts m → First ts n → m ≡ n
first_is_one [] m n p q = p ∙ sym q
first_is_one (t ∷ ts) m n (inl p) (inl q) = p.1 ∙ sym q.1
first_is_one (t ∷ ts) m n (inl p) (inr q) = absurd (q.0 p.0)
first_is_one (t ∷ ts) m n (inr p) (inl q) = absurd (p.0 q.0)
first_is_one (t ∷ ts) m n (inr p) (inr q) = first_is_one ts m n p.1 q.1

module _ (b : List ℕ) (at : ℕ) where
  abbrev few : Bool
  few = ltb (length b - at) 4

  abbrev short : Bool
  short = ltb (length_at b at) 4

  abbrev long : Bool
  long = ltb (length b - at) (length_at b at)

  broken_in : Broken b at → T (is_broken b at)
  unfolding is_broken
  broken_in (fewer_than_4 l) = or_left few (short || long) (lt→ltb _ _ l)
  broken_in (length_below_4 l) = or_right few (short || long) (or_left short long (lt→ltb _ _ l))
  broken_in (above_what_is_left l) = or_right few (short || long) (or_right short long (lt→ltb _ _ l))

  broken_out : T (is_broken b at) → Broken b at
  unfolding is_broken
  broken_out t = go (or_out few (short || long) t)
    where
      second : T short ⊎ T long → Broken b at
      second (inl l) = length_below_4 (ltb→lt (length_at b at) 4 l)
      second (inr l) = above_what_is_left (ltb→lt (length b - at) (length_at b at) l)

      go : T few ⊎ T (short || long) → Broken b at
      go (inl l) = fewer_than_4 (ltb→lt (length b - at) 4 l)
      go (inr l) = second (or_out short long l)

  not_short : (T (is_broken b at) → ⊥) → 4 ≤ length_at b at
  not_short h = go (ltb (length_at b at) 4) refl
    where
      go : (x : Bool) → ltb (length_at b at) 4 ≡ x → 4 ≤ length_at b at
      go true q = absurd (h (broken_in (length_below_4 (ltb→lt (length_at b at) 4 (of_true q)))))
      go false q = ltb-false (length_at b at) 4 q

  abbrev other : Bool
  other = not (eqb (length_of (kind_at b at)) (length_at b at))

  kind_in : 4 ≤ length_at b at → WrongKind b at → T other
  kind_in l (not_allowed e) = not_T (eqb (length_of (kind_at b at)) (length_at b at)) (λ t. let q : length_of (kind_at b at) ≡ length_at b at = eqb→eq _ _ t in omega arith)
  kind_in l (not_its_length h) = not_T (eqb (length_of (kind_at b at)) (length_at b at)) (λ t. h (eqb→eq _ _ t))

  kind_out : T other → WrongKind b at
  kind_out t = not_its_length (λ e. T_not (eqb (length_of (kind_at b at)) (length_at b at)) t (eqb_in e))

module _ (h : Header) (d : Due) (r : Sofar) (k s : ℕ) where
  abbrev path : Bool
  path = eqb d.room 0

  abbrev all : Bool
  all = leb 512 r.statements

  abbrev paused : Bool
  paused = eqb k 17 && leb 128 r.pauses

  abbrev trapped : Bool
  trapped = eqb k 24 && leb 16 d.around.traps

  abbrev nested : Bool
  nested = eqb k 26 && leb 6 d.around.nested

  leb_in : (m n : ℕ) → m ≤ n → T (leb m n)
  leb_in m n l = of_true (le-leb m n l)

  limit_in : OverLimit d r k → T (over_limit d.room d.around r k)
  unfolding over_limit
  limit_in (on_the_path e) = or_left path (all || (paused || (trapped || nested))) (eqb_in e)
  limit_in (in_all l) = or_right path (all || (paused || (trapped || nested))) (or_left all (paused || (trapped || nested)) (leb_in _ _ l))
  limit_in (pauses e l) =
      or_right path (all || (paused || (trapped || nested)))
      (or_right all (paused || (trapped || nested)) (or_left paused (trapped || nested) (and_in (eqb k 17) (leb 128 r.pauses) (eqb_in e) (leb_in _ _ l))))
  limit_in (nested_traps e l) =
      or_right path (all || (paused || (trapped || nested)))
      (or_right all (paused || (trapped || nested))
      (or_right paused (trapped || nested) (or_left trapped nested (and_in (eqb k 24) (leb 16 d.around.traps) (eqb_in e) (leb_in _ _ l)))))
  limit_in (nested_locals e l) =
      or_right path (all || (paused || (trapped || nested)))
      (or_right all (paused || (trapped || nested))
      (or_right paused (trapped || nested) (or_right trapped nested (and_in (eqb k 26) (leb 6 d.around.nested) (eqb_in e) (leb_in _ _ l)))))

  both : (j m n : ℕ) → T (eqb k j && leb m n) → (k ≡ j) × (m ≤ n)
  both j m n t = (eqb→eq k j (and_left (eqb k j) (leb m n) t), leb→le m n (and_right (eqb k j) (leb m n) t))

  limit_out : T (over_limit d.room d.around r k) → OverLimit d r k
  unfolding over_limit
  limit_out t = go (or_out path (all || (paused || (trapped || nested))) t)
    where
      fourth : T trapped ⊎ T nested → OverLimit d r k
      fourth (inl t) = let w = both 24 16 d.around.traps t in nested_traps w.0 w.1
      fourth (inr t) = let w = both 26 6 d.around.nested t in nested_locals w.0 w.1

      third : T paused ⊎ T (trapped || nested) → OverLimit d r k
      third (inl t) = let w = both 17 128 r.pauses t in pauses w.0 w.1
      third (inr t) = fourth (or_out trapped nested t)

      second : T all ⊎ T (paused || (trapped || nested)) → OverLimit d r k
      second (inl t) = in_all (leb→le 512 r.statements t)
      second (inr t) = third (or_out paused (trapped || nested) t)

      go : T path ⊎ T (all || (paused || (trapped || nested))) → OverLimit d r k
      go (inl t) = on_the_path (eqb→eq d.room 0 t)
      go (inr t) = second (or_out all (paused || (trapped || nested)) t)

  abbrev here : Bool
  here = declared_here h d.around s

  abbrev next : Bool
  next = ltb r.locals h.locals && eqb s (h.inputs + h.outputs + r.locals)

  abbrev emits : Bool
  emits = eqb k 18 && not (leb h.inputs s && here)

  abbrev looks : Bool
  looks = (eqb k 19 || eqb k 20) && not here

  abbrev declares : Bool
  declares = eqb k 26 && not next

  emits_in : k ≡ 18 → (T (leb h.inputs s && here) → ⊥) → T (wrong_signal h d.around r k s)
  unfolding wrong_signal
  emits_in e f =
      or_left emits (looks || declares) (and_in (eqb k 18) (not (leb h.inputs s && here)) (eqb_in e) (not_T (leb h.inputs s && here) f))

  looks_in : T (eqb k 19 || eqb k 20) → (T here → ⊥) → T (wrong_signal h d.around r k s)
  unfolding wrong_signal
  looks_in t f =
      or_right emits (looks || declares) (or_left looks declares (and_in (eqb k 19 || eqb k 20) (not here) t (not_T here f)))

  declares_in : k ≡ 26 → (T next → ⊥) → T (wrong_signal h d.around r k s)
  unfolding wrong_signal
  declares_in e f = or_right emits (looks || declares) (or_right looks declares (and_in (eqb k 26) (not next) (eqb_in e) (not_T next f)))

  signal_in : WrongSignal h d r k s → T (wrong_signal h d.around r k s)
  signal_in (emit_undeclared e f) = emits_in e (λ t. f (and_right (leb h.inputs s) here t))
  signal_in (emit_of_an_input e l) = emits_in e (λ t. let m : h.inputs ≤ s = leb→le h.inputs s (and_left (leb h.inputs s) here t) in omega arith)
  signal_in (present_undeclared e f) = looks_in (or_left (eqb k 19) (eqb k 20) (eqb_in e)) f
  signal_in (suspend_undeclared e f) = looks_in (or_right (eqb k 19) (eqb k 20) (eqb_in e)) f
  signal_in (local_too_many e l) =
      declares_in e (λ t. let m : r.locals < h.locals = ltb→lt r.locals h.locals (and_left (ltb r.locals h.locals) (eqb s (h.inputs + h.outputs + r.locals)) t) in omega arith)
  signal_in (local_not_the_next e f) =
      declares_in e (λ t. f (eqb→eq s (h.inputs + h.outputs + r.locals) (and_right (ltb r.locals h.locals) (eqb s (h.inputs + h.outputs + r.locals)) t)))

  -- one of two tests fails where not both hold
  not_both : (x y : Bool) → T (not (x && y)) → (x ≡ false) ⊎ (T y → ⊥)
  not_both true y t = inr (T_not y t)
  not_both false y t = inl refl

  signal_out : T (wrong_signal h d.around r k s) → WrongSignal h d r k s
  unfolding wrong_signal
  signal_out t = go (or_out emits (looks || declares) t)
    where
      emitted : k ≡ 18 → (leb h.inputs s ≡ false) ⊎ (T here → ⊥) → WrongSignal h d r k s
      emitted e (inl q) = emit_of_an_input e (leb-false h.inputs s q)
      emitted e (inr f) = emit_undeclared e f

      looked : (T here → ⊥) → T (eqb k 19) ⊎ T (eqb k 20) → WrongSignal h d r k s
      looked f (inl e) = present_undeclared (eqb→eq k 19 e) f
      looked f (inr e) = suspend_undeclared (eqb→eq k 20 e) f

      declared : k ≡ 26 → (ltb r.locals h.locals ≡ false) ⊎ (T (eqb s (h.inputs + h.outputs + r.locals)) → ⊥) → WrongSignal h d r k s
      declared e (inl q) = local_too_many e (ltb-false r.locals h.locals q)
      declared e (inr f) = local_not_the_next e (λ q. f (eqb_in q))

      second : T looks ⊎ T declares → WrongSignal h d r k s
      second (inl t) = looked (T_not here (and_right (eqb k 19 || eqb k 20) (not here) t)) (or_out (eqb k 19) (eqb k 20) (and_left (eqb k 19 || eqb k 20) (not here) t))
      second (inr t) =
          declared (eqb→eq k 26 (and_left (eqb k 26) (not next) t))
          (not_both (ltb r.locals h.locals) (eqb s (h.inputs + h.outputs + r.locals)) (and_right (eqb k 26) (not next) t))

      go : T emits ⊎ T (looks || declares) → WrongSignal h d r k s
      go (inl t) =
          emitted (eqb→eq k 18 (and_left (eqb k 18) (not (leb h.inputs s && here)) t))
          (not_both (leb h.inputs s) here (and_right (eqb k 18) (not (leb h.inputs s && here)) t))
      go (inr t) = second (or_out looks declares t)

  exit_in : WrongExit d k s → T (wrong_exit d.around k s)
  unfolding wrong_exit
  exit_in w = and_in (eqb k 25) (leb d.around.traps s) (eqb_in w.0) (leb_in _ _ w.1)

  exit_out : T (wrong_exit d.around k s) → WrongExit d k s
  unfolding wrong_exit
  exit_out t = both 25 d.around.traps s t

-- The number that a record gets is the lowest that applies.
module _ (b : List ℕ) (h : Header) (d : Due) (r : Sofar) where
  pub statement_first : First (statement_tests b h d r) (statement_fault d.room b h d.around r)
  unfolding statement_fault
  statement_first =
      go (leb (length b) at) refl (is_broken b at) refl (not (eqb (length_of k) (length_at b at))) refl (over_limit d.room d.around r k) refl
      (wrong_signal h d.around r k s) refl (wrong_exit d.around k s) refl
    where
      at : ℕ
      at = r.place

      k : ℕ
      k = kind_at b at

      s : ℕ
      s = operand_at b at

      ended : {A : Type 0} → length b ≤ at → (at < length b) × A → ⊥
      ended l w = let m : at < length b = w.0 in omega arith

      go : (x : Bool) → leb (length b) at ≡ x → (y : Bool) → is_broken b at ≡ y → (z : Bool) → not (eqb (length_of k) (length_at b at)) ≡ z
          → (u : Bool) → over_limit d.room d.around r k ≡ u → (v : Bool) → wrong_signal h d.around r k s ≡ v → (w : Bool) → wrong_exit d.around k s ≡ w
          → First (statement_tests b h d r) (cond x SHAPE (cond y BROKEN (cond z KIND (cond u LIMIT (cond v SIGNAL (cond w EXIT 0))))))
      go true e y ey z ez u eu v ev w ew =
          let l : length b ≤ at = leb-true (length b) at e in
          inr (ended l, inr (ended l, inr (ended l, inr (ended l, inr (ended l, inl (l, refl))))))
      go false e true ey z ez u eu v ev w ew = inl ((leb-false (length b) at e, broken_out b at (of_true ey)), refl)
      go false e false ey true ez u eu v ev w ew =
          inr ((λ t. of_false ey (broken_in b at t.1)), inl ((leb-false (length b) at e, kind_out b at (of_true ez)), refl))
      go false e false ey false ez true eu v ev w ew =
          inr (
            (λ t. of_false ey (broken_in b at t.1)),
            inr (
              (λ t. of_false ez (kind_in b at (not_short b at (of_false ey)) t.1)),
              inl ((leb-false (length b) at e, limit_out h d r k s (of_true eu)), refl),
            ),
          )
      go false e false ey false ez false eu true ev w ew =
          inr (
            (λ t. of_false ey (broken_in b at t.1)),
            inr (
              (λ t. of_false ez (kind_in b at (not_short b at (of_false ey)) t.1)),
              inr (
                (λ t. of_false eu (limit_in h d r k s t.1)),
                inl ((leb-false (length b) at e, signal_out h d r k s (of_true ev)), refl),
              ),
            ),
          )
      go false e false ey false ez false eu false ev true ew =
          inr (
            (λ t. of_false ey (broken_in b at t.1)),
            inr (
              (λ t. of_false ez (kind_in b at (not_short b at (of_false ey)) t.1)),
              inr (
                (λ t. of_false eu (limit_in h d r k s t.1)),
                inr (
                  (λ t. of_false ev (signal_in h d r k s t.1)),
                  inl ((leb-false (length b) at e, exit_out h d r k s (of_true ew)), refl),
                ),
              ),
            ),
          )
      go false e false ey false ez false eu false ev false ew =
          inr (
            (λ t. of_false ey (broken_in b at t.1)),
            inr (
              (λ t. of_false ez (kind_in b at (not_short b at (of_false ey)) t.1)),
              inr (
                (λ t. of_false eu (limit_in h d r k s t.1)),
                inr (
                  (λ t. of_false ev (signal_in h d r k s t.1)),
                  inr (
                    (λ t. of_false ew (exit_in h d r k s t.1)),
                    inr ((λ l. let m : at < length b = leb-false (length b) at e in let n : length b ≤ at = l in omega arith), refl),
                  ),
                ),
              ),
            ),
          )

  -- Where no statement may stand any more on the path, some number applies: LIMIT where there is a record, and SHAPE where there is none.
  some_left : (x : Bool) → leb (length b) r.place ≡ x → (length b ≤ r.place → ⊥) → r.place < length b
  some_left true q n = absurd (n (leb-true (length b) r.place q))
  some_left false q n = leb-false (length b) r.place q

  pub no_room_on_the_path : d.room ≡ 0 → First (statement_tests b h d r) 0 → ⊥
  no_room_on_the_path e (inl w) = let z : ◌≡◌ {A = ℕ} 0 1 = w.1 in omega arith
  no_room_on_the_path e (inr (_, inl w)) = let z : ◌≡◌ {A = ℕ} 0 2 = w.1 in omega arith
  no_room_on_the_path e (inr (_, inr (_, inl w))) = let z : ◌≡◌ {A = ℕ} 0 4 = w.1 in omega arith
  no_room_on_the_path e (inr (_, inr (_, inr (f, inl w)))) = let z : ◌≡◌ {A = ℕ} 0 5 = w.1 in omega arith
  no_room_on_the_path e (inr (_, inr (_, inr (f, inr (_, inl w))))) = let z : ◌≡◌ {A = ℕ} 0 6 = w.1 in omega arith
  no_room_on_the_path e (inr (_, inr (_, inr (f, inr (_, inr (_, inl w)))))) = let z : ◌≡◌ {A = ℕ} 0 7 = w.1 in omega arith
  no_room_on_the_path e (inr (_, inr (_, inr (f, inr (_, inr (_, inr w)))))) = f (some_left (leb (length b) r.place) refl w.0, on_the_path e)

pub header_first : (b : List ℕ) → First (header_tests b) (header_fault b)
unfolding header_fault
header_first b =
    go (is_broken b 0) refl (eqb (kind_at b 0) 1) refl (eqb (length_at b 0) 14) refl (eqb (two_bytes b 4) 1) refl (ltb 64 sum) refl
  where
    sum : ℕ
    sum = (header b).inputs + (header b).outputs + (header b).locals

    Rest : Type 0
    Rest = (kind_at b 0 ≢ 1) ⊎ (length_at b 0 ≢ 14)

    right : eqb (kind_at b 0) 1 ≡ true → eqb (length_at b 0) 14 ≡ true → Rest → ⊥
    right p q (inl f) = f (eqb-true (kind_at b 0) 1 p)
    right p q (inr f) = f (eqb-true (length_at b 0) 14 q)

    go : (x : Bool) → is_broken b 0 ≡ x → (y : Bool) → eqb (kind_at b 0) 1 ≡ y → (z : Bool) → eqb (length_at b 0) 14 ≡ z → (u : Bool) → eqb (two_bytes b 4) 1 ≡ u
        → (v : Bool) → ltb 64 sum ≡ v
        → First (header_tests b) (cond x BROKEN (cond (not (y && z)) KIND (cond (not u) EDITION (cond v LIMIT 0))))
    go true ex y ey z ez u eu v ev = inl (broken_out b 0 (of_true ex), refl)
    go false ex false ey z ez u eu v ev = inr ((λ t. of_false ex (broken_in b 0 t)), inl (inl (eqb-false (kind_at b 0) 1 ey), refl))
    go false ex true ey false ez u eu v ev = inr ((λ t. of_false ex (broken_in b 0 t)), inl (inr (eqb-false (length_at b 0) 14 ez), refl))
    go false ex true ey true ez false eu v ev =
        inr ((λ t. of_false ex (broken_in b 0 t)), inr (right ey ez, inl (eqb-false (two_bytes b 4) 1 eu, refl)))
    go false ex true ey true ez true eu true ev =
        inr ((λ t. of_false ex (broken_in b 0 t)), inr (right ey ez, inr ((λ f. f (eqb-true (two_bytes b 4) 1 eu)), inl (ltb-true 64 sum ev, refl))))
    go false ex true ey true ez true eu false ev =
        inr (
          (λ t. of_false ex (broken_in b 0 t)),
          inr (
            right ey ez,
            inr ((λ f. f (eqb-true (two_bytes b 4) 1 eu)), inr ((λ l. let m : sum ≤ 64 = ltb-false 64 sum ev in let n : 64 < sum = l in omega arith), refl)),
          ),
        )
