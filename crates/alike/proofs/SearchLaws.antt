-- A search through the pairs in the order in which they are found, and what it knows at each of its three ends. What is known at a step is in the
-- records; each law says that they hold after one more step. Assumes nothing.
use mathlib.Core.Path.{◌≡◌, refl, sym, ap, ap₂, ◌∙◌, subst}
use mathlib.Core.Logic.{◌⊎◌, inl, inr}
use mathlib.Core.Bool.{Bool, true, false, cond, ◌||◌, true≢false}
use Prim.Native.Nat.{ℕ, suc, ◌+◌, ◌*◌, ◌≤◌, ◌<◌}
use native.Mathlib.Omega.{arith}
use native.Mathlib.Decide.{dec_le, dec_lt}
use lib.Dec.{T, eqb}
use borrow.Author.Tests.{eq-eqb, ne_eqb}
use Rattle.sets.proofs.Members.{of_true, of_false, or_right}
use Rattle.pairs.specs.Runs.{Run, start, ◌▸◌, size, Comparison, Input, reach, shows, First, Short, Over, Same}
use Rattle.alike.proofs.Order.{rank, rank_more, rank_some, size_rank, first_of}
use Rattle.alike.proofs.Pigeons.{no_places}

size_more : (r : Run) (s : ℕ) → size (r ▸ s) ≡ suc (size r)
unfolding size
size_more r s = refl

-- The runs to the pairs found: the first is the empty one, all are input runs, no two reach the same pair, and later ones are later in order.
pub record Found (m : Comparison) (run : ℕ → Run) (count : ℕ) : Type 0 where
  pub from_start : run 0 ≡ start
  pub inputs : (k : ℕ) → k < count → Input m (run k)
  pub apart : (i j : ℕ) → i < j → j < count → reach m (run i) ≡ reach m (run j) → ⊥
  pub rising : (i j : ℕ) → i < j → j < count → rank (run i) < rank (run j)

-- A run's pair is among them, by a run no later.
pub record Led (m : Comparison) (run : ℕ → Run) (count : ℕ) (r : Run) : Type 0 where
  pub index : ℕ
  pub in_table : index < count
  pub same_pair : reach m (run index) ≡ reach m r
  pub no_later : rank (run index) ≤ rank r

-- The levels: the pairs from `at` to `stop` have runs of one size, those from there on of one more.
pub record Levels (run : ℕ → Run) (count at stop : ℕ) : Type 0 where
  pub here : at < stop
  pub within : stop ≤ count
  pub this_level : (k : ℕ) → at ≤ k → k < stop → size (run k) ≡ size (run at)
  pub next_level : (k : ℕ) → stop ≤ k → k < count → size (run k) ≡ suc (size (run at))

-- The steps looked at: those of earlier pairs, and of this one the sets below `set`.
abbrev pub Past : ℕ → ℕ → ℕ → ℕ → Type 0
Past at set k s = k * 256 + s < at * 256 + set

-- None of them showed a difference.
pub record Looked (m : Comparison) (run : ℕ → Run) (at set : ℕ) : Type 0 where
  pub looked : (k s : ℕ) → s < m.sets → Past at set k s → m.differs (reach m (run k)) s ≡ false

-- Each of them leads to a pair found; of the ones on this level only while none was left out.
pub record Followed (m : Comparison) (run : ℕ → Run) (count at set : ℕ) (more : Bool) : Type 0 where
  pub led : (k s : ℕ) → s < m.sets → Past at set k s → (more ≡ false) ⊎ (size (run k) < size (run at)) → Led m run count (run k ▸ s)

-- A pair was left out only where there was no room, and a run of the next level reaches it.
pub record LeftOut (m : Comparison) (run : ℕ → Run) (room count at : ℕ) : Type 0 where
  pub no_room : count ≡ room
  pub another : Run
  pub its_input : Input m another
  pub its_size : size another ≡ suc (size (run at))
  pub not_found : (k : ℕ) → k < count → reach m (run k) ≡ reach m another → ⊥

-- All that is known before the step of a pair and a set.
pub record Searched (m : Comparison) (room : ℕ) (run : ℕ → Run) (count at set stop : ℕ) (more : Bool) : Type 0 where
  pub found : Found m run count
  pub roomy : count ≤ room
  pub levels : Levels run count at stop
  pub newest : (k : ℕ) → k < count → rank (run k) < rank (run at) * 256 + set
  pub looks : Looked m run at set
  pub follows : Followed m run count at set more
  pub leaves : more ≡ true → LeftOut m run room count at

module _ (m : Comparison) (few : m.sets ≤ 256) where
  -- sizes go with the order
  sizes_rise : {run : ℕ → Run} {count : ℕ} → Found m run count → (i j : ℕ) → i ≤ j → j < count → size (run i) ≤ size (run j)
  sizes_rise {run} {count} f i j l h = go (dec_lt i j)
    where
      go : Dec (i < j) → size (run i) ≤ size (run j)
      go (yes k) = let r : rank (run i) < rank (run j) = f.rising i j k h in size_rank m few (run j) (run i) (f.inputs j h) (omega arith)
      go (no k) = let e : i ≡ j = omega arith in subst (λ (x : ℕ). size (run i) ≤ size (run x)) e (omega arith)

  -- Every run of at most so many sets reaches a pair found, where all shorter runs' pairs were followed.
  module _ {run : ℕ → Run} {count : ℕ} (f : Found m run count) (some : 0 < count) (most : ℕ)
      (done : (k s : ℕ) → k < count → s < m.sets → size (run k) < most → Led m run count (run k ▸ s)) where
    go_on : (u : Run) (s : ℕ) → Input m u → s < m.sets → size u < most → Led m run count u → Led m run count (u ▸ s)
    unfolding reach
    go_on u s i h z l =
        let a : size (run l.index) ≤ size u = size_rank m few u (run l.index) i l.no_later in
        let d = done l.index s l.in_table h (omega arith) in
        let b : rank (run d.index) ≤ rank (run l.index ▸ s) = d.no_later in
        let c : rank (run l.index) ≤ rank u = l.no_later in
        record {
          index = d.index;
          in_table = d.in_table;
          same_pair = d.same_pair ∙ ap (λ (x : m.Pairs). m.leads x s) l.same_pair;
          no_later = omega (arith, b, c, rank_more (run l.index) s, rank_more u s);
        }

    pub followed : (r : Run) → Input m r → size r ≤ most → Led m run count r
    unfolding Input size
    followed start i h = record {
      index = 0;
      in_table = some;
      same_pair = ap (reach m) f.from_start;
      no_later = let e : rank (run 0) ≡ rank start = ap rank f.from_start in omega arith;
    }
    followed (u ▸ s) i h = go_on u s i.0 i.1 h (followed u i.0 (omega arith))

    -- And none of one set more shows a difference, where all their last steps were looked at.
    pub none_shows : ((k s : ℕ) → k < count → s < m.sets → size (run k) ≤ most → m.differs (reach m (run k)) s ≡ false)
        → (v : Run) → Input m v → size v ≤ suc most → shows m v ≡ false
    unfolding Input size shows
    none_shows look start i h = refl
    none_shows look (u ▸ s) i h =
        let l = followed u i.0 (omega arith) in
        let a : size (run l.index) ≤ size u = size_rank m few u (run l.index) i.0 l.no_later in
        let e = look l.index s l.in_table i.1 (omega arith) in
        ap₂ ◌||◌ (none_shows look u i.0 (omega arith)) (ap (λ (x : m.Pairs). m.differs x s) (sym l.same_pair) ∙ e)

  -- Where every short run's pair was found, short runs reach no more pairs than were found.
  not_over : {run : ℕ → Run} {count : ℕ} (room : ℕ) → count ≤ room → ((r : Run) → Short m r → Led m run count r) → Over room m → ⊥
  not_over {run} {count} room c h o =
      no_places room (λ i k. reach m (run k) ≡ reach m (o.runs i)) place (λ i j k l n a b. o.different i j l n (sym a ∙ b))
    where
      place : (i : ℕ) → i ≤ room → (k : ℕ) × (k < room) × (reach m (run k) ≡ reach m (o.runs i))
      place i l =
          let d = h (o.runs i) (o.short i l) in
          let k : d.index < count = d.in_table in
          (d.index, omega arith, d.same_pair)

  module _ {room : ℕ} {run : ℕ → Run} {count at set stop : ℕ} {more : Bool} (g : Searched m room run count at set stop more) where
    at_in : at < count
    at_in = let a = g.levels.here in let b = g.levels.within in omega arith

    -- a pair whose run is shorter than this one's was looked at
    earlier : (k : ℕ) → k < count → size (run k) < size (run at) → k < at
    earlier k h l = go (dec_lt k at)
      where
        go : Dec (k < at) → k < at
        go (yes d) = d
        go (no d) = let e : size (run at) ≤ size (run k) = sizes_rise g.found at k (omega arith) h in absurd (omega arith)

    shorter_done : (k s : ℕ) → k < count → s < m.sets → size (run k) < size (run at) → Led m run count (run k ▸ s)
    shorter_done k s h l z = let e : k < at = earlier k h z in g.follows.led k s l (omega (arith, few)) (inr z)

    -- a run no later than this pair's one and a set, and so its pair: its last step was looked at
    module _ (here : set ≤ m.sets) where
      was_past : (u : Run) (s : ℕ) → s < m.sets → rank u * 256 + s < rank (run at) * 256 + set → (l : Led m run count u) → Past at set l.index s
      was_past u s h r l = go (dec_lt l.index at) (dec_lt at l.index)
        where
          lower : rank (run l.index) ≤ rank u
          lower = l.no_later

          go : Dec (l.index < at) → Dec (at < l.index) → Past at set l.index s
          go (yes a) x = omega (arith, few)
          go (no a) (yes b) = let c : rank (run at) < rank (run l.index) = g.found.rising at l.index b l.in_table in absurd (omega (arith, few))
          go (no a) (no b) =
              let e : l.index ≡ at = omega arith in
              let c : rank (run l.index) ≡ rank (run at) = ap (λ (x : ℕ). rank (run x)) e in
              omega (arith, few)

    -- A difference: the run to this pair and this set are the first.
    module _ (here : set < m.sets) (d : m.differs (reach m (run at)) set ≡ true) where
      in_first : Input m (run at ▸ set)
      unfolding Input
      in_first = (g.found.inputs at at_in, here)

      led_short : (u : Run) → Input m u → size u ≤ size (run at) → Led m run count u
      led_short = followed g.found (omega (arith, at_in)) (size (run at)) shorter_done

      no_longer : (u : Run) (s : ℕ) → rank (u ▸ s) < rank (run at ▸ set) → size u ≤ size (run at)
      no_longer u s l =
          let a : size (u ▸ s) ≤ size (run at ▸ set) = size_rank m few (run at ▸ set) (u ▸ s) in_first (omega arith) in
          omega (arith, size_more u s, size_more (run at) set)

      none_before : (v : Run) → Input m v → rank v < rank (run at ▸ set) → shows m v ≡ false
      unfolding Input shows
      none_before start i l = refl
      none_before (u ▸ s) i l =
          let a = rank_more u s in
          let b = rank_more (run at) set in
          let x = led_short u i.0 (no_longer u s l) in
          let e = g.looks.looked x.index s i.1 (was_past (omega arith) u s i.1 (omega (arith, l, a, b)) x) in
          ap₂ ◌||◌ (none_before u i.0 (omega (arith, l, a))) (ap (λ (y : m.Pairs). m.differs y s) (sym x.same_pair) ∙ e)

      shown_first : T (shows m (run at ▸ set))
      unfolding shows
      shown_first = or_right (shows m (run at)) _ (of_true d)

      pub ends_different : First m (run at ▸ set)
      ends_different = first_of m few (run at ▸ set) in_first shown_first no_sooner
        where
          no_sooner : (v : Run) → Input m v → T (shows m v) → rank (run at ▸ set) ≤ rank v
          no_sooner v i t = go (dec_le (rank (run at ▸ set)) (rank v))
            where
              go : Dec (rank (run at ▸ set) ≤ rank v) → rank (run at ▸ set) ≤ rank v
              go (yes h) = h
              go (no h) = absurd (of_false (none_before v i (omega arith)) t)

      pub different_not_over : Over room m → ⊥
      different_not_over = not_over room g.roomy short_led
        where
          short_led : (r : Run) → Short m r → Led m run count r
          short_led r s =
              let h : size r < size (run at ▸ set) = s.shorter (run at ▸ set) in_first shown_first in
              led_short r s.is_input (omega (arith, size_more (run at) set))

  -- The last step of a level was looked at.
  module _ {room : ℕ} {run : ℕ → Run} {count at stop : ℕ} {more : Bool} (g : Searched m room run count at m.sets stop more) (last : suc at ≡ stop) where
    level_looked : (k s : ℕ) → k < stop → s < m.sets → m.differs (reach m (run k)) s ≡ false
    level_looked k s h l = g.looks.looked k s l (omega (arith, few))

    -- A pair was left out: short runs reach over so many.
    module _ (out : more ≡ true) where
      in_level : (k : ℕ) → k < count → size (run k) ≤ size (run at) → k < stop
      in_level k h l = go (dec_lt k stop)
        where
          go : Dec (k < stop) → k < stop
          go (yes e) = e
          go (no e) = let z : size (run k) ≡ suc (size (run at)) = g.levels.next_level k (omega arith) h in absurd (omega arith)

      level_same : (v : Run) → Input m v → size v ≤ suc (size (run at)) → shows m v ≡ false
      level_same =
          none_shows g.found (omega (arith, at_in g)) (size (run at)) (shorter_done g)
          (λ k s h l z. level_looked k s (in_level k h z) l)

      is_short : (r : Run) → Input m r → size r ≤ suc (size (run at)) → Short m r
      is_short r i l = record { is_input = i; shorter = longer }
        where
          longer : (v : Run) → Input m v → T (shows m v) → size r < size v
          longer v j t = go (dec_lt (size r) (size v))
            where
              go : Dec (size r < size v) → size r < size v
              go (yes h) = h
              go (no h) = absurd (of_false (level_same v j (omega arith)) t)

      found_short : (k : ℕ) → k < count → Short m (run k)
      found_short k h = is_short (run k) (g.found.inputs k h) (go (dec_lt k stop))
        where
          go : Dec (k < stop) → size (run k) ≤ suc (size (run at))
          go (yes e) = let z : size (run k) ≤ size (run at) = sizes_rise g.found k at (omega arith) (at_in g) in omega arith
          go (no e) = let z : size (run k) ≡ suc (size (run at)) = g.levels.next_level k (omega arith) h in omega arith

      others : ℕ → Run
      others i = cond (eqb i count) (g.leaves out).another (run i)

      last_other : others count ≡ (g.leaves out).another
      unfolding others
      last_other = rw (eq-eqb count count refl)

      each_other : (i : ℕ) → i < count → others i ≡ run i
      unfolding others
      each_other i h = let z : i ≡ count → ⊥ = λ e. omega arith in rw (ne_eqb i count z)

      pub ends_over : Over room m
      ends_over = record { runs = others; short = λ i l. its_short i l (dec_lt i count); different = λ i j l h. apart i j l h (dec_lt j count) }
        where
          full : count ≡ room
          full = (g.leaves out).no_room

          its_short : (i : ℕ) → i ≤ room → Dec (i < count) → Short m (others i)
          its_short i l (yes h) = subst (Short m) (sym (each_other i h)) (found_short i h)
          its_short i l (no h) =
              let e : i ≡ count = omega (arith, full) in
              let z = (g.leaves out).its_size in
              subst (λ (x : ℕ). Short m (others x)) (sym e)
              (subst (Short m) (sym last_other) (is_short (g.leaves out).another (g.leaves out).its_input (omega arith)))

          apart : (i j : ℕ) → i < j → j ≤ room → Dec (j < count) → reach m (others i) ≡ reach m (others j) → ⊥
          apart i j l h (yes k) e = g.found.apart i j l k (ap (reach m) (sym (each_other i (omega arith))) ∙ e ∙ ap (reach m) (each_other j k))
          apart i j l h (no k) e =
              let z : j ≡ count = omega (arith, full) in
              (g.leaves out).not_found i (omega arith)
              (ap (reach m) (sym (each_other i (omega arith))) ∙ e ∙ ap (λ (x : ℕ). reach m (others x)) z ∙ ap (reach m) last_other)

    -- No pair was left out, and no new one was found: all is followed.
    module _ (all_in : more ≡ false) (none_new : stop ≡ count) where
      all_done : (k s : ℕ) → k < count → s < m.sets → Led m run count (run k ▸ s)
      all_done k s h l = g.follows.led k s l (omega (arith, few)) (inl all_in)

      pub ends_same : Same m
      ends_same = record {
        none_shows = λ v i. none_shows g.found (omega (arith, at_in g)) (size v) (λ k s h l z. all_done k s h l)
            (λ k s h l z. level_looked k s (omega arith) l) v i (omega arith);
      }

      pub same_not_over : Over room m → ⊥
      same_not_over =
          not_over room g.roomy
          (λ r s. followed g.found (omega (arith, at_in g)) (size r) (λ k n h l z. all_done k n h l) r s.is_input (omega arith))

-- One run more.
unfoldable pub adding : (ℕ → Run) → ℕ → Run → ℕ → Run
adding run count r k = cond (eqb k count) r (run k)

pub added_new : (run : ℕ → Run) (count : ℕ) (r : Run) → adding run count r count ≡ r
unfolding adding
added_new run count r = rw (eq-eqb count count refl)

pub added_old : (run : ℕ → Run) (count : ℕ) (r : Run) (k : ℕ) → k < count → adding run count r k ≡ run k
unfolding adding
added_old run count r k h = let z : k ≡ count → ⊥ = λ e. omega arith in rw (ne_eqb k count z)

-- At the beginning only the first pair is found.
pub begun : (m : Comparison) (room : ℕ) (run : ℕ → Run) → 1 ≤ room → run 0 ≡ start → Searched m room run 1 0 0 1 false
unfolding Input
begun m room run h e = record {
  found = record {
    from_start = e;
    inputs = λ k l. let z : 0 ≡ k = omega arith in subst (λ (x : ℕ). Input m (run x)) z (subst (Input m) (sym e) tt);
    apart = λ i j l n x. absurd (omega arith);
    rising = λ i j l n. absurd (omega arith);
  };
  roomy = h;
  levels = record {
    here = omega arith;
    within = omega arith;
    this_level = λ k l n. let z : k ≡ 0 = omega arith in ap (λ (x : ℕ). size (run x)) z;
    next_level = λ k l n. absurd (omega arith);
  };
  newest = λ k l.
      let z : k ≡ 0 = omega arith in
      let a : rank (run k) ≡ rank (run 0) = ap (λ (x : ℕ). rank (run x)) z in
      let b = rank_some (run 0) in
      omega (arith, a, b);
  looks = record { looked = λ k s l n. absurd (omega arith) };
  follows = record { led = λ k s l n x. absurd (omega arith) };
  leaves = λ x. absurd (true≢false (sym x));
}

module _ (m : Comparison) (few : m.sets ≤ 256) {room : ℕ} {run : ℕ → Run} {count at set stop : ℕ} {more : Bool}
    (g : Searched m room run count at set stop more) where
  -- The step of this pair and this set showed no difference.
  module _ (here : set < m.sets) (d : m.differs (reach m (run at)) set ≡ false) where
    -- a step that is past now: it was so before, or it is this one
    split : (k s : ℕ) → s < m.sets → Past at (suc set) k s → Past at set k s ⊎ ((k ≡ at) × (s ≡ set))
    split k s l h = go (dec_lt (k * 256 + s) (at * 256 + set))
      where
        go : Dec (k * 256 + s < at * 256 + set) → Past at set k s ⊎ ((k ≡ at) × (s ≡ set))
        go (yes e) = inl e
        go (no e) = inr (omega (arith, few, here), omega (arith, few, here))

    looked_on : Looked m run at (suc set)
    looked_on = record { looked = λ k s l h. go k s l (split k s l h) }
      where
        go : (k s : ℕ) → s < m.sets → Past at set k s ⊎ ((k ≡ at) × (s ≡ set)) → m.differs (reach m (run k)) s ≡ false
        go k s l (inl p) = g.looks.looked k s l p
        go k s l (inr p) = ap₂ (λ (x y : ℕ). m.differs (reach m (run x)) y) p.0 p.1 ∙ d

    -- what is known where no row is stored
    stays : {also : Bool} → (also ≡ false → more ≡ false) → (also ≡ false → Led m run count (run at ▸ set)) → (also ≡ true → LeftOut m run room count at)
        → Searched m room run count at (suc set) stop also
    stays {also} back l out = record {
      found = g.found;
      roomy = g.roomy;
      levels = g.levels;
      newest = λ k h. let a : rank (run k) < rank (run at) * 256 + set = g.newest k h in omega arith;
      looks = looked_on;
      follows = record { led = λ k s h p x. go k s h (split k s h p) x };
      leaves = out;
    }
      where
        old : (k : ℕ) → (also ≡ false) ⊎ (size (run k) < size (run at)) → (more ≡ false) ⊎ (size (run k) < size (run at))
        old k (inl e) = inl (back e)
        old k (inr e) = inr e

        this : (k s : ℕ) → k ≡ at → s ≡ set → (also ≡ false) ⊎ (size (run k) < size (run at)) → Led m run count (run k ▸ s)
        this k s e z (inl x) = subst (Led m run count) (ap₂ (λ (i j : ℕ). run i ▸ j) (sym e) (sym z)) (l x)
        this k s e z (inr x) = let y : size (run k) ≡ size (run at) = ap (λ (i : ℕ). size (run i)) e in absurd (omega arith)

        go : (k s : ℕ) → s < m.sets → Past at set k s ⊎ ((k ≡ at) × (s ≡ set)) → (also ≡ false) ⊎ (size (run k) < size (run at)) → Led m run count (run k ▸ s)
        go k s h (inl p) x = g.follows.led k s h p (old k x)
        go k s h (inr p) x = this k s p.0 p.1 x

    -- It leads to a pair that was found before.
    pub step_found : (j : ℕ) → j < count → reach m (run j) ≡ reach m (run at ▸ set) → Searched m room run count at (suc set) stop more
    step_found j h e = stays (λ x. x) (λ x. record { index = j; in_table = h; same_pair = e; no_later = late }) g.leaves
      where
        late : rank (run j) ≤ rank (run at ▸ set)
        late = let a : rank (run j) < rank (run at) * 256 + set = g.newest j h in omega (arith, rank_more (run at) set)

    new_input : Input m (run at ▸ set)
    unfolding Input
    new_input = (g.found.inputs at (at_in m few g), here)

    -- It leads to a new pair, and there is no room.
    module _ (new : (k : ℕ) → k < count → reach m (run k) ≡ reach m (run at ▸ set) → ⊥) where
      pub step_out : count ≡ room → Searched m room run count at (suc set) stop true
      step_out e =
          stays (λ x. absurd (true≢false x)) (λ x. absurd (true≢false x))
          (λ x. record { no_room = e; another = run at ▸ set; its_input = new_input; its_size = size_more (run at) set; not_found = new })

      -- Or there is, and its row is stored.
      module _ (space : count < room) where
        abbrev run' : ℕ → Run
        run' = adding run count (run at ▸ set)

        old : (k : ℕ) → k < count → run' k ≡ run k
        old = added_old run count (run at ▸ set)

        last : (k : ℕ) → k ≡ count → run' k ≡ run at ▸ set
        last k e = ap (adding run count (run at ▸ set)) e ∙ added_new run count (run at ▸ set)

        its_at : run' at ≡ run at
        its_at = old at (at_in m few g)

        at_count : (k : ℕ) → k < suc count → (k < count → ⊥) → k ≡ count
        at_count k h n = omega arith

        found' : Found m run' (suc count)
        found' = record {
          from_start = old 0 (omega (arith, at_in m few g)) ∙ g.found.from_start;
          inputs = λ k h. ins k h (dec_lt k count);
          apart = λ i j l h. aparts i j l h (dec_lt j count);
          rising = λ i j l h. rises i j l h (dec_lt j count);
        }
          where
            ins : (k : ℕ) → k < suc count → Dec (k < count) → Input m (run' k)
            ins k h (yes l) = subst (Input m) (sym (old k l)) (g.found.inputs k l)
            ins k h (no l) = subst (Input m) (sym (last k (at_count k h l))) new_input

            aparts : (i j : ℕ) → i < j → j < suc count → Dec (j < count) → reach m (run' i) ≡ reach m (run' j) → ⊥
            aparts i j l h (yes k) e = g.found.apart i j l k (ap (reach m) (sym (old i (omega arith))) ∙ e ∙ ap (reach m) (old j k))
            aparts i j l h (no k) e = new i (omega arith) (ap (reach m) (sym (old i (omega arith))) ∙ e ∙ ap (reach m) (last j (at_count j h k)))

            rises : (i j : ℕ) → i < j → j < suc count → Dec (j < count) → rank (run' i) < rank (run' j)
            rises i j l h (yes k) =
                let a : rank (run' i) ≡ rank (run i) = ap rank (old i (omega arith)) in
                let b : rank (run' j) ≡ rank (run j) = ap rank (old j k) in
                let c : rank (run i) < rank (run j) = g.found.rising i j l k in
                omega (arith, a, b, c)
            rises i j l h (no k) =
                let a : rank (run' i) ≡ rank (run i) = ap rank (old i (omega arith)) in
                let b : rank (run' j) ≡ rank (run at ▸ set) = ap rank (last j (at_count j h k)) in
                let c : rank (run i) < rank (run at) * 256 + set = g.newest i (omega arith) in
                omega (arith, a, b, c, rank_more (run at) set)

        levels' : Levels run' (suc count) at stop
        levels' = record {
          here = g.levels.here;
          within = let h : stop ≤ count = g.levels.within in omega arith;
          this_level = λ k l h. let n : stop ≤ count = g.levels.within in
              ap size (old k (omega arith)) ∙ g.levels.this_level k l h ∙ sym (ap size its_at);
          next_level = λ k l h. nexts k l h (dec_lt k count);
        }
          where
            nexts : (k : ℕ) → stop ≤ k → k < suc count → Dec (k < count) → size (run' k) ≡ suc (size (run' at))
            nexts k l h (yes n) = ap size (old k n) ∙ g.levels.next_level k l n ∙ ap (λ (r : Run). suc (size r)) (sym its_at)
            nexts k l h (no n) = ap size (last k (at_count k h n)) ∙ size_more (run at) set ∙ ap (λ (r : Run). suc (size r)) (sym its_at)

        newest' : (k : ℕ) → k < suc count → rank (run' k) < rank (run' at) * 256 + suc set
        newest' k h = go (dec_lt k count)
          where
            e : rank (run' at) ≡ rank (run at)
            e = ap rank its_at

            go : Dec (k < count) → rank (run' k) < rank (run' at) * 256 + suc set
            go (yes l) =
                let a : rank (run' k) ≡ rank (run k) = ap rank (old k l) in
                let b : rank (run k) < rank (run at) * 256 + set = g.newest k l in
                omega (arith, a, b, e)
            go (no l) =
                let a : rank (run' k) ≡ rank (run at ▸ set) = ap rank (last k (at_count k h l)) in
                omega (arith, a, e, rank_more (run at) set)

        past_in : (k s : ℕ) → s < m.sets → Past at (suc set) k s → k < count
        past_in k s h l = let a = at_in m few g in omega (arith, few, here)

        led' : (r : Run) → Led m run count r → Led m run' (suc count) r
        led' r l =
            let h : l.index < count = l.in_table in
            record {
              index = l.index;
              in_table = omega arith;
              same_pair = ap (reach m) (old l.index h) ∙ l.same_pair;
              no_later = subst (λ (x : Run). rank x ≤ rank r) (sym (old l.index h)) l.no_later;
            }

        new_led : Led m run' (suc count) (run at ▸ set)
        new_led = record {
          index = count;
          in_table = omega arith;
          same_pair = ap (reach m) (last count refl);
          no_later = let a : rank (run' count) ≡ rank (run at ▸ set) = ap rank (last count refl) in omega arith;
        }

        none_out : (b : Bool) → more ≡ b → b ≡ false
        none_out false e = refl
        none_out true e = let z : count ≡ room = (g.leaves e).no_room in absurd (omega arith)

        pub step_added : Searched m room run' (suc count) at (suc set) stop more
        step_added = record {
          found = found';
          roomy = space;
          levels = levels';
          newest = newest';
          looks = record { looked = λ k s h p. ap (λ (r : Run). m.differs (reach m r) s) (old k (past_in k s h p)) ∙ looked_on.looked k s h p };
          follows = record { led = λ k s h p x. go k s h p (split k s h p) };
          leaves = λ e. absurd (true≢false (sym e ∙ none_out more refl));
        }
          where
            go : (k s : ℕ) → s < m.sets → Past at (suc set) k s → Past at set k s ⊎ ((k ≡ at) × (s ≡ set)) → Led m run' (suc count) (run' k ▸ s)
            go k s h p (inl q) =
                subst (λ (r : Run). Led m run' (suc count) (r ▸ s)) (sym (old k (past_in k s h p)))
                (led' (run k ▸ s) (g.follows.led k s h q (inl (none_out more refl))))
            go k s h p (inr q) =
                subst (λ (r : Run). Led m run' (suc count) (r ▸ s)) (sym (old k (past_in k s h p)))
                (subst (Led m run' (suc count)) (ap₂ (λ (i j : ℕ). run i ▸ j) (sym q.0) (sym q.1)) new_led)

-- All sets of a pair were looked at: on with the next pair.
module _ (m : Comparison) (few : m.sets ≤ 256) {room : ℕ} {run : ℕ → Run} {count at stop : ℕ} {more : Bool}
    (g : Searched m room run count at m.sets stop more) (some : suc at < count) where
  newest_next : (k : ℕ) → k < count → rank (run k) < rank (run (suc at)) * 256 + 0
  newest_next k h =
      let a : rank (run k) < rank (run at) * 256 + m.sets = g.newest k h in
      let b : rank (run at) < rank (run (suc at)) = g.found.rising at (suc at) (omega arith) some in
      omega (arith, few)

  was_past_next : (k s : ℕ) → s < m.sets → Past (suc at) 0 k s → Past at m.sets k s
  was_past_next k s h l = omega (arith, few)

  looks_next : Looked m run (suc at) 0
  looks_next = record { looked = λ k s h p. g.looks.looked k s h (was_past_next k s h p) }

  pub next_pair : suc at < stop → Searched m room run count (suc at) 0 stop more
  next_pair l = record {
    found = g.found;
    roomy = g.roomy;
    levels = record {
      here = l;
      within = g.levels.within;
      this_level = λ k a b. g.levels.this_level k (omega arith) b ∙ sym one_size;
      next_level = λ k a b. g.levels.next_level k a b ∙ ap suc (sym one_size);
    };
    newest = newest_next;
    looks = looks_next;
    follows = record { led = λ k s h p x. g.follows.led k s h (was_past_next k s h p) (old k x) };
    leaves = λ e. let o = g.leaves e in
        record { no_room = o.no_room; another = o.another; its_input = o.its_input; its_size = o.its_size ∙ ap suc (sym one_size); not_found = o.not_found };
  }
    where
      one_size : size (run (suc at)) ≡ size (run at)
      one_size = g.levels.this_level (suc at) (omega arith) l

      old : (k : ℕ) → (more ≡ false) ⊎ (size (run k) < size (run (suc at))) → (more ≡ false) ⊎ (size (run k) < size (run at))
      old k (inl e) = inl e
      old k (inr e) = inr (subst (λ (x : ℕ). size (run k) < x) one_size e)

  -- And with the next level, where no pair was left out.
  pub next_level : suc at ≡ stop → more ≡ false → Searched m room run count (suc at) 0 count more
  next_level l none = record {
    found = g.found;
    roomy = g.roomy;
    levels = record {
      here = some;
      within = omega arith;
      this_level = λ k a b. g.levels.next_level k (omega arith) b ∙ sym (g.levels.next_level (suc at) (omega arith) some);
      next_level = λ k a b. absurd (omega arith);
    };
    newest = newest_next;
    looks = looks_next;
    follows = record { led = λ k s h p x. g.follows.led k s h (was_past_next k s h p) (inl none) };
    leaves = λ e. absurd (true≢false (sym e ∙ none));
  }
