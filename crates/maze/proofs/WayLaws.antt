-- The rooms of a block that was read, and one lemma for each way through the call: a statement of a tree of the form is nothing or of the form itself, and its row says which.
-- Assumes nothing.
use Rattle.std.specs.Prelude.{Err}
use Rattle.refusals.specs.declared.Refused.{Refused}
use mathlib.Core.Path.{◌≡◌, refl, sym, ◌∙◌, ap, ap₂, subst}
use mathlib.Core.Bool.{Bool, true, false, cond, ◌&&◌, true≢false}
use mathlib.Core.List.{List, [], ◌∷◌}
use Prim.Native.Nat.{ℕ, ◌+◌, ◌≤◌, ◌<◌}
use native.Mathlib.Nat.{zero-add}
use native.Mathlib.Omega.{arith}
use lib.Dec.{T, eqb, ltb, ltb→lt}
use lib.ListN.{get_or}
use borrow.Author.Tests.{lt-ltb, le-ltb, eq-eqb, ne_eqb}
use Rattle.sets.specs.Words.{bits}
use Rattle.sets.proofs.Members.{of_true, and_right}
use Rattle.rules.specs.Statements.{Stmt, nothing, pause, emit, present?◌then◌else◌, suspend◌on◌, ◌⨾◌, loop, ◌parallel◌, trap, exit, local, numbered}
use Rattle.rules.proofs.Preorder.{some_statement}
use Rattle.tables.specs.Table.{Has, kind_of, statements}
use Rattle.tables.specs.declared.Table.{Table}
use Rattle.block.specs.Format.{Good, Reading, good, reading}
use Rattle.block.specs.declared.whole.Summary.{Summary}
use Rattle.block.proofs.GoodReadings.{sound}
use Rattle.tables.proofs.Places.{has_row, at_number}
use Rattle.forms.specs.Forms.{At}
use Rattle.records.specs.StateRecord.{undeclared_input}
use Rattle.reaction.specs.Instants.{block_of}
use Rattle.reaction.specs.Outcomes.{Opened}
use Rattle.reaction.proofs.Fronts.{placed}
use Rattle.mazes.specs.Mazes.{OfForm, is_nothing, of_form, Room, signal, part, gate, dungeon, visible, corridors, gate_corridors, maze_of, nth}
use Rattle.mazes.specs.Fitting.{fits}
use Rattle.mazes.proofs.Forms.{of_form_is, fitting, all_fit}
use Rattle.maze.specs.declared.Room as code
use Rattle.maze.specs.declared.Room.TheVariants.{Signal, Part, Gate, Dungeon}
use Rattle.maze.specs.declared.Corridor.TheVariants.{NoMore, NoRoom}
use Rattle.maze.specs.Rows.{nothing_at, rows_fit}
use Rattle.maze.specs.Views.{View, refused, shown, try_form, try_inputs, try_block, view, Views}
use Rattle.maze.specs.Ways.{room_of, is_present, has_room, Way, turned, no_room, way_by, way_in, way_told, corridor_told}
use Rattle.maze.proofs.RowLaws.{nothing_is}
use Rattle.maze.proofs.ViewLaws.{its_inputs, its_form}

-- A test by its kind, and what has no corridors.
kind_test : (t : Stmt) → eqb (kind_of t) 19 ≡ is_present t
unfolding kind_of
kind_test nothing = refl
kind_test (pause n) = refl
kind_test (emit s) = refl
kind_test (present? s then p else q) = refl
kind_test (suspend p on s) = refl
kind_test (p ⨾ q) = refl
kind_test (loop p) = refl
kind_test (p parallel q) = refl
kind_test (trap p) = refl
kind_test (exit d) = refl
kind_test (local s p) = refl

none_there : (a i n : ℕ) (t : Stmt) → is_nothing t ≡ true → corridor_told NoMore ≡ way_by (nth (corridors a i t) n)
unfolding corridors nth corridor_told
none_there a i n nothing e = refl
none_there a i n (pause k) e = absurd (true≢false (sym e))
none_there a i n (emit s) e = absurd (true≢false (sym e))
none_there a i n (present? s then p else q) e = absurd (true≢false (sym e))
none_there a i n (suspend p on s) e = absurd (true≢false (sym e))
none_there a i n (p ⨾ q) e = absurd (true≢false (sym e))
none_there a i n (loop p) e = absurd (true≢false (sym e))
none_there a i n (p parallel q) e = absurd (true≢false (sym e))
none_there a i n (trap p) e = absurd (true≢false (sym e))
none_there a i n (exit d) e = absurd (true≢false (sym e))
none_there a i n (local s p) e = absurd (true≢false (sym e))

-- The statements of a block that was read.
module _ {tab : Table} {s : Summary} {g : Good} (o : Opened tab s g) where
  its_count : s.statements ≡ statements g.body
  its_count = ap (λ (y : Summary). y.statements) o.summed ∙ (sound o.bytes g o.its_reading).counted

  module _ (i : ℕ) (l : i < statements g.body) where
    pub stands_at : At tab i (numbered g.body i)
    stands_at =
        let p = at_number 0 g.body (placed o).has (placed o).small i l in
        record {
          has = subst (λ (j : ℕ). Has tab j (numbered g.body i)) (zero-add i) p.has;
          small = p.small;
          room = omega (arith, p.within, (placed o).room);
        }

    nothing_there : nothing_at tab.kinds i ≡ is_nothing (numbered g.body i)
    nothing_there = nothing_is tab i (numbered g.body i) stands_at.has (omega (arith, stands_at.room, some_statement (numbered g.body i)))

    -- All below a statement of the form fits, and so the statement is of the form unless it is nothing.
    formed : of_form g.body ≡ true → is_nothing (numbered g.body i) ≡ false → OfForm (numbered g.body i)
    formed f e =
        let p = at_number 0 g.body (placed o).has (placed o).small i l in
        fitting (numbered g.body i) e
        (record { at = λ m k. subst (λ (u : Stmt). T (fits u)) (p.below m k) ((all_fit (of_form_is g.body (of_true f))).at (i + m) (omega (arith, p.within, k))) })

  -- A room that is there, and one that is not.
  module _ (given n : ℕ) where
    room_there : (r : Room) {w : Way} → has_room (block_of g) r ≡ true → w ≡ way_by (nth (maze_of (block_of g) (bits given) r) n) → w ≡ way_in (shown (block_of g) (bits given)) r n
    unfolding way_in
    room_there r h d = d ∙ ap (λ (z : Bool). cond z (way_by (nth (maze_of (block_of g) (bits given) r) n)) no_room) (sym h)

    room_not_there : (r : Room) → has_room (block_of g) r ≡ false → corridor_told NoRoom ≡ way_in (shown (block_of g) (bits given)) r n
    unfolding way_in corridor_told
    room_not_there r h = ap (λ (z : Bool). cond z (way_by (nth (maze_of (block_of g) (bits given) r) n)) no_room) (sym h)

    -- A signal's room.
    module _ (a : ℕ) {x : Bool} (d : x ≡ ltb a (s.inputs + s.outputs)) where
      its_signals : x ≡ has_room (block_of g) (signal a)
      unfolding has_room
      its_signals = d ∙ ap (λ (y : Summary). ltb a (y.inputs + y.outputs)) o.summed

      pub no_signal : x ≡ false → corridor_told NoRoom ≡ way_in (shown (block_of g) (bits given)) (signal a) n
      no_signal e = room_not_there (signal a) (sym its_signals ∙ e)

      pub input_room : {k : ℕ} {w : Way} → x ≡ true → k ≡ s.inputs → a < k → w ≡ way_by (nth (cond (bits given a) (visible dungeon ∷ []) []) n)
          → w ≡ way_in (shown (block_of g) (bits given)) (signal a) n
      unfolding maze_of
      input_room {k} t e l w =
          let q : k ≡ g.header.inputs = e ∙ ap (λ (y : Summary). y.inputs) o.summed in
          room_there (signal a) (sym its_signals ∙ t)
          (w ∙ ap (λ (z : Bool). way_by (nth (cond z (cond (bits given a) (visible dungeon ∷ []) []) (corridors a 0 g.body)) n)) (sym (lt-ltb a g.header.inputs (omega arith))))

      pub output_room : {k : ℕ} {w : Way} → x ≡ true → k ≡ s.inputs → k ≤ a → w ≡ way_by (nth (corridors a 0 g.body) n)
          → w ≡ way_in (shown (block_of g) (bits given)) (signal a) n
      unfolding maze_of
      output_room {k} t e l w =
          let q : k ≡ g.header.inputs = e ∙ ap (λ (y : Summary). y.inputs) o.summed in
          room_there (signal a) (sym its_signals ∙ t)
          (w ∙ ap (λ (z : Bool). way_by (nth (cond z (cond (bits given a) (visible dungeon ∷ []) []) (corridors a 0 g.body)) n)) (sym (le-ltb a g.header.inputs (omega arith))))

    -- A part's room, and a gate.
    module _ (i a : ℕ) {x : Bool} (d : x ≡ (ltb a (s.inputs + s.outputs) && ltb i s.statements)) where
      its_parts : x ≡ has_room (block_of g) (part i a)
      unfolding has_room
      its_parts = d ∙ ap₂ (λ (y : Summary) (m : ℕ). ltb a (y.inputs + y.outputs) && ltb i m) o.summed its_count

      pub below_count : x ≡ true → i < statements g.body
      unfolding has_room
      below_count t =
          ltb→lt i (statements g.body) (and_right (ltb a ((block_of g).inputs + (block_of g).outputs)) (ltb i (statements g.body)) (of_true (sym its_parts ∙ t)))

      pub no_part : x ≡ false → corridor_told NoRoom ≡ way_in (shown (block_of g) (bits given)) (part i a) n
      no_part e = room_not_there (part i a) (sym its_parts ∙ e)

      pub nothing_part : {y : Bool} → x ≡ true → y ≡ nothing_at tab.kinds i → y ≡ true → corridor_told NoMore ≡ way_in (shown (block_of g) (bits given)) (part i a) n
      unfolding maze_of
      nothing_part t e z =
          room_there (part i a) (sym its_parts ∙ t) (none_there a i n (numbered g.body i) (sym (nothing_there i (below_count t)) ∙ sym e ∙ z))

      pub some_part : {y : Bool} {w : Way} → of_form g.body ≡ true → x ≡ true → y ≡ nothing_at tab.kinds i → y ≡ false
          → ((t : Stmt) → At tab i t → OfForm t → w ≡ way_by (nth (corridors a i t) n)) → w ≡ way_in (shown (block_of g) (bits given)) (part i a) n
      unfolding maze_of
      some_part f t e z h =
          let l = below_count t in
          room_there (part i a) (sym its_parts ∙ t) (h (numbered g.body i) (stands_at i l) (formed i l f (sym (nothing_there i l) ∙ sym e ∙ z)))

      and_again : (u v y : Bool) → (u && v) ≡ true → (u && (v && y)) ≡ y
      and_again true true y e = refl
      and_again true false y e = absurd (true≢false (sym e))
      and_again false v y e = absurd (true≢false (sym e))

      and_never : (u v y : Bool) → (u && v) ≡ false → (u && (v && y)) ≡ false
      and_never true true y e = absurd (true≢false e)
      and_never true false y e = refl
      and_never false v y e = refl

      gate_there : x ≡ true → has_room (block_of g) (gate i a) ≡ is_present (numbered g.body i)
      unfolding has_room
      gate_there t =
          and_again (ltb a ((block_of g).inputs + (block_of g).outputs)) (ltb i (statements g.body)) (is_present (numbered g.body i)) (sym its_parts ∙ t)

      pub no_gate : x ≡ false → corridor_told NoRoom ≡ way_in (shown (block_of g) (bits given)) (gate i a) n
      unfolding has_room
      no_gate e =
          room_not_there (gate i a)
          (and_never (ltb a ((block_of g).inputs + (block_of g).outputs)) (ltb i (statements g.body)) (is_present (numbered g.body i)) (sym its_parts ∙ e))

      module _ (t : x ≡ true) where
        its_kind_there : get_or tab.kinds i 0 ≡ kind_of (numbered g.body i)
        its_kind_there = (has_row (numbered g.body i) (stands_at i (below_count t)).has).its_kind

        pub no_test : (get_or tab.kinds i 0 ≡ 19 → ⊥) → corridor_told NoRoom ≡ way_in (shown (block_of g) (bits given)) (gate i a) n
        no_test f =
            room_not_there (gate i a)
            (gate_there t ∙ sym (kind_test (numbered g.body i)) ∙ ne_eqb (kind_of (numbered g.body i)) 19 (λ e. f (its_kind_there ∙ e)))

        pub its_test : {w : Way} → get_or tab.kinds i 0 ≡ 19
            → ((u : Stmt) → At tab i u → is_present u ≡ true → w ≡ way_by (nth (gate_corridors a i u) n)) → w ≡ way_in (shown (block_of g) (bits given)) (gate i a) n
        unfolding maze_of
        its_test e h =
            let y : is_present (numbered g.body i) ≡ true =
            sym (kind_test (numbered g.body i)) ∙ eq-eqb (kind_of (numbered g.body i)) 19 (sym its_kind_there ∙ e) in
            room_there (gate i a) (gate_there t ∙ y) (h (numbered g.body i) (stands_at i (below_count t)) y)

    pub dungeon_room : corridor_told NoMore ≡ way_in (shown (block_of g) (bits given)) dungeon n
    unfolding way_in corridor_told has_room maze_of nth
    dungeon_room = refl

-- The room that the caller names.
module _ (v : View) (n : ℕ) {w : Way} {x : code.Room} where
  pub signal_named : (a : ℕ) → x ≡ Signal a → w ≡ way_in v (signal a) n → w ≡ way_in v (room_of x) n
  unfolding room_of
  signal_named a e h = h ∙ ap (λ (y : code.Room). way_in v (room_of y) n) (sym e)

  pub part_named : (i a : ℕ) → x ≡ Part i a → w ≡ way_in v (part i a) n → w ≡ way_in v (room_of x) n
  unfolding room_of
  part_named i a e h = h ∙ ap (λ (y : code.Room). way_in v (room_of y) n) (sym e)

  pub gate_named : (i a : ℕ) → x ≡ Gate i a → w ≡ way_in v (gate i a) n → w ≡ way_in v (room_of x) n
  unfolding room_of
  gate_named i a e h = h ∙ ap (λ (y : code.Room). way_in v (room_of y) n) (sym e)

  pub dungeon_named : x ≡ Dungeon → w ≡ way_in v dungeon n → w ≡ way_in v (room_of x) n
  unfolding room_of
  dungeon_named e h = h ∙ ap (λ (y : code.Room). way_in v (room_of y) n) (sym e)

-- What is told of a refusal.
pub refused_told : (v : View) (r : Room) (n : ℕ) (why : Refused) → Views v (Err why) → way_told (Err why) ≡ way_in v r n
unfolding Views way_in way_told
refused_told (refused k p) r n why h = let d = h.0 in let e = h.1 in λ j. turned (d j) (e j)
refused_told (shown b given) r n why h = absurd h

-- The tests are passed.
pub shown_told : {tab : Table} {s : Summary} {g : Good} (o : Opened tab s g) (given : ℕ) (r : Room) (n : ℕ) {x y : Bool} {w : Way} → x ≡ undeclared_input s.inputs given → x ≡ false
    → y ≡ rows_fit tab.kinds tab.sizes s.statements → y ≡ true → (of_form g.body ≡ true → w ≡ way_in (shown (block_of g) (bits given)) r n)
    → w ≡ way_in (try_inputs g given) r n
unfolding try_inputs try_form
shown_told {g = g} o given r n d f e k h =
    let u : undeclared_input g.header.inputs given ≡ false = sym (its_inputs o given) ∙ sym d ∙ f in
    let v : of_form g.body ≡ true = sym (its_form o given e) ∙ k in
    h v ∙ ap (λ (z : Bool). way_in (cond z (shown (block_of g) (bits given)) (refused 26 0)) r n) (sym v)
    ∙ ap (λ (z : Bool). way_in (cond z (refused 11 0) (try_form g given)) r n) (sym u)

pub read_told : (b : List ℕ) (given : ℕ) (r : Room) (n : ℕ) {g : Good} {w : Way} → reading b ≡ good g → w ≡ way_in (try_inputs g given) r n → w ≡ way_in (view b given) r n
unfolding view try_block
read_told b given r n e h = h ∙ ap (λ (y : Reading). way_in (try_block given y) r n) (sym e)
