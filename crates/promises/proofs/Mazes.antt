-- Request 14 over the calls (`specs/Mazes`): the view comes out by its tests, each with what it found; where the maze is shown, the rounds decide it, and what `instant` tells from
-- fresh are the statuses of its final round. Assumes nothing.
use mathlib.Core.Path.{◌≡◌, refl, sym, ap, ◌∙◌, subst, subst⁻¹}
use mathlib.Core.Logic.{inl, inr}
use mathlib.Core.Bool.{Bool, true, false, cond, true≢false}
use mathlib.Core.List.{List, [], ◌∷◌}
use mathlib.Core.Option.{Option, none, some}
use Prim.Native.Nat.{ℕ, ◌+◌, ◌≤◌, ◌<◌}
use native.Mathlib.Omega.{arith}
use lib.Dec.{T}
use Rattle.refusals.specs.Refusals.{number}
use Rattle.sets.specs.Words.{bits}
use Rattle.sets.proofs.Members.{of_true, of_false}
use Rattle.rules.specs.States.{fresh}
use Rattle.rules.specs.Rounds.{react}
use Rattle.block.specs.Format.{Good, Reading, good, turned_down, reading}
use Rattle.block.proofs.GoodReadings.{sound}
use Rattle.records.specs.Numerals.{Bytes}
use Rattle.records.specs.StateRecord.{undeclared_input}
use Rattle.reaction.specs.declared.Given.TheVariants.{All}
use Rattle.foldheron.specs.Answers.{Instant}
use Rattle.reaction.specs.Fronts.{INPUT, wrong_inputs}
use Rattle.reaction.specs.Instants.{block_of, heard_of, Told, told_reaction}
use Rattle.reaction.specs.Answers.{instant_told}
use Rattle.mazes.specs.Mazes.{of_form, maze_of, nth, Corridor as MazeCorridor}
use Rattle.mazes.specs.AsRounds.{final_status, AsRounds}
use Rattle.mazes.proofs.Forms.{of_form_is, is_of_form}
use Rattle.mazes.proofs.AsRounds.{as_rounds}
use Rattle.maze.specs.Views.{FORM, View, refused, shown, try_form, try_inputs, try_block, view, Shows, Views}
use Rattle.maze.specs.Ways.{room_of, has_room, turned, no_room, way_by, corridor_told, way_told, way_in}
use Rattle.maze.specs.declared.Rooms.{Rooms}
use Rattle.maze.specs.declared.Room.{Room}
use Rattle.foldheron.specs.Answers.{Maze}
use Rattle.std.specs.Prelude.{Ok, Err}
use Rattle.foldheron.specs.Answers.{FoundCorridor}
use Rattle.maze.specs.declared.Corridor.TheVariants as corridor
use Rattle.maze.proofs.OneAnswer.{one_answer}
use Rattle.maze.proofs.OneWay.{one_way}
use Rattle.maze.proofs.view.maze.Kinds as maze_kinds
use Rattle.maze.proofs.view.maze.Reads as maze_reads
use Rattle.maze.proofs.view.maze.Statement as maze_statement
use Rattle.maze.proofs.view.maze.Met as maze_met
use Rattle.maze.proofs.ways.corridor.Kinds as corridor_kinds
use Rattle.maze.proofs.ways.corridor.Reads as corridor_reads
use Rattle.maze.proofs.ways.corridor.Statement as corridor_statement
use Rattle.maze.proofs.ways.corridor.Met as corridor_met
use Rattle.promises.specs.Calls.{MazeCalled, CorridorCalled}
use Rattle.promises.specs.Tests.{Test, First}
use Rattle.promises.specs.Demand1.{Returns, BadInputs, one_to_8, input_test, PlacedBy, in_block, at_0}
use Rattle.promises.specs.Beside.{Ran}
use Rattle.promises.specs.Mazes.{told_status, TrueMaze, way_of, OtherForm, maze_tests, maze_number, maze_place, corridor_number, corridor_place}
use Rattle.promises.proofs.Learnt.{maze_says, corridor_says}
use Rattle.promises.proofs.Tests.{inputs_none, inputs_some}
use Rattle.promises.proofs.FirstRecord.{turned_down_decides}
use Rattle.promises.proofs.FirstRefusal.{past_block, of_the_block}
use Rattle.promises.proofs.Likeness.{one_reading}
use Rattle.promises.proofs.Beside.{ToldFrom, nothing_told, refused_11, reacts, told_from_fresh}
use Rattle.promises.proofs.MazeInstants.{told_is_final, status_out, Open, drawn_open, open_is_13, thirteen_is_open}

-- How the tests come out, each with what it found.
module _ (b : List ℕ) (set : ℕ) (P : View → Type 0) (bad : (n at : ℕ) → reading b ≡ turned_down n at → P (refused n at))
    (wrong : (g : Good) → reading b ≡ good g → undeclared_input g.header.inputs set ≡ true → P (refused INPUT 0))
    (no_form : (g : Good) → reading b ≡ good g → undeclared_input g.header.inputs set ≡ false → of_form g.body ≡ false → P (refused FORM 0))
    (is_shown : (g : Good) → reading b ≡ good g → undeclared_input g.header.inputs set ≡ false → of_form g.body ≡ true → P (shown (block_of g) (bits set))) where
  by_view : P (view b set)
  unfolding view try_block try_inputs try_form
  by_view = go (reading b) refl
    where
      formed : (g : Good) → reading b ≡ good g → undeclared_input g.header.inputs set ≡ false → (x : Bool) → of_form g.body ≡ x
          → P (cond x (shown (block_of g) (bits set)) (refused FORM 0))
      formed g e u true q = is_shown g e u q
      formed g e u false q = no_form g e u q

      declared : (g : Good) → reading b ≡ good g → (x : Bool) → undeclared_input g.header.inputs set ≡ x → P (cond x (refused INPUT 0) (try_form g set))
      declared g e true q = wrong g e q
      declared g e false q = formed g e q (of_form g.body) refl

      go : (x : Reading) → reading b ≡ x → P (try_block set x)
      go (turned_down n at) e = bad n at e
      go (good g) e = declared g e (undeclared_input g.header.inputs set) refl

-- The number and the place of a refused view, and that the answers have them.
refused_number : View → ℕ
refused_number (refused n at) = n
refused_number (shown k given) = 0

refused_place : View → ℕ
refused_place (refused n at) = at
refused_place (shown k given) = 0

maze_tells : (v : View) (r : Maze) → Views v r → (maze_number r ≡ refused_number v) × (maze_place r ≡ refused_place v)
unfolding Views refused_number refused_place
maze_tells (refused n at) (Err e) s = s
maze_tells (refused n at) (Ok r) s = absurd s
maze_tells (shown k given) (Err e) s = absurd s
maze_tells (shown k given) (Ok r) s = (refl, refl)

corridor_tells : (v : View) (room : Room) (n : ℕ) (r : FoundCorridor) → way_told r ≡ way_in v (room_of room) n → (corridor_number r ≡ refused_number v) × (corridor_place r ≡ refused_place v)
unfolding corridor_told way_told way_in refused_number refused_place
corridor_tells (refused n at) room k (Ok (corridor.Visible r)) e = let z : ◌≡◌ {A = ℕ} 0 1 = cc in absurd (omega arith)
corridor_tells (refused n at) room k (Ok (corridor.Secret r)) e = let z : ◌≡◌ {A = ℕ} 0 1 = cc in absurd (omega arith)
corridor_tells (refused n at) room k (Ok corridor.NoMore) e = let z : ◌≡◌ {A = ℕ} 0 1 = cc in absurd (omega arith)
corridor_tells (refused n at) room k (Ok corridor.NoRoom) e = let z : ◌≡◌ {A = ℕ} 0 1 = cc in absurd (omega arith)
corridor_tells (refused n at) room k (Err r) e = (cc, cc)
corridor_tells (shown d given) room k (Ok c) e = (refl, refl)
corridor_tells (shown d given) room k (Err r) e = not_turned (has_room d (room_of room)) (nth (maze_of d given (room_of room)) k) e
  where
    not_turned : (z : Bool) (o : Option MazeCorridor) → turned (number r.why) r.place ≡ cond z (way_by o) no_room → (number r.why ≡ 0) × (r.place ≡ 0)
    not_turned true none q = let z : ◌≡◌ {A = ℕ} 0 1 = cc in absurd (omega arith)
    not_turned true (some c) q = let z : ◌≡◌ {A = ℕ} 0 1 = cc in absurd (omega arith)
    not_turned false o q = let z : ◌≡◌ {A = ℕ} 0 1 = cc in absurd (omega arith)

-- Nothing is asked of a caller, and each call returns;
pub maze_returns : Returns 1 maze_kinds.ps maze_reads.Asked maze_statement.statement
maze_returns = record { nothing_asked = λ κs a. tt; returns = λ M. maze_met.met }

pub corridor_returns : Returns 1 corridor_kinds.ps corridor_reads.Asked corridor_statement.statement
corridor_returns = record { nothing_asked = λ κs a. tt; returns = λ M. corridor_met.met }

module _ (b : List ℕ) (set : ℕ) where
  -- no two answers meet the contract;
  pub maze_has_one_answer : {r q : Maze} → MazeCalled b set r → MazeCalled b set q → r ≡ q
  maze_has_one_answer {r} {q} c d = one_answer (view b set) r q (maze_says c) (maze_says d)

  pub corridor_has_one_answer : {room : Room} {n : ℕ} {r q : FoundCorridor} → CorridorCalled b set room n r → CorridorCalled b set room n q → r ≡ q
  corridor_has_one_answer {r = r} {q = q} c d = one_way r q (corridor_says c) (corridor_says d)

  -- and a refusal is that of the first test in the written order that applies, with its place: of 1 to 8 where the block is turned down, else 0.
  abbrev late : List Test
  late = input_test b (All set) ∷ record { number = FORM; Applies = OtherForm b } ∷ []

  declared_set : (g : Good) → reading b ≡ good g → undeclared_input g.header.inputs set ≡ false → BadInputs b (All set) → ⊥
  unfolding wrong_inputs
  declared_set g e u t =
      inputs_none t.block.header.inputs (All set) (subst (λ (x : Good). undeclared_input x.header.inputs set ≡ false) (one_reading b t.block g t.is_good e) u) t.wrong

  view_first : First (maze_tests b set) (refused_number (view b set))
  unfolding refused_number wrong_inputs
  view_first =
      by_view b set (λ v. First (maze_tests b set) (refused_number v)) (λ n at e. of_the_block b n at e late)
      (λ g e u. past_block b g e one_to_8 late INPUT (inl (record { block = g; is_good = e; wrong = inputs_some g.header.inputs (All set) u }, refl)))
      (λ g e u f. past_block b g e one_to_8 late FORM (inr (declared_set g e u, inl (record { block = g; is_good = e; no_form = λ k. of_false f (is_of_form k) }, refl))))
      (λ g e u f. past_block b g e one_to_8 late 0 (inr (
        declared_set g e u,
        inr (
          (λ t.
              t.no_form (of_form_is t.block.body (of_true (subst (λ (x : Good). of_form x.body ≡ true) (one_reading b t.block g t.is_good e) f)))),
          refl,
        ),
      )))

  view_placed : PlacedBy b (refused_number (view b set)) (refused_place (view b set))
  unfolding refused_number refused_place
  view_placed =
      by_view b set (λ v. PlacedBy b (refused_number v) (refused_place v)) (λ n at e. in_block n at (turned_down_decides b n at e)) (λ g e u. at_0 INPUT g e)
      (λ g e u f. at_0 FORM g e) (λ g e u f. at_0 0 g e)

  pub maze_gives_the_first : {r : Maze} → MazeCalled b set r → First (maze_tests b set) (maze_number r)
  maze_gives_the_first {r} c = subst⁻¹ (First (maze_tests b set)) (maze_tells (view b set) r (maze_says c)).0 view_first

  pub maze_gives_its_place : {r : Maze} → MazeCalled b set r → PlacedBy b (maze_number r) (maze_place r)
  maze_gives_its_place {r} c =
      let m = maze_tells (view b set) r (maze_says c) in
      subst⁻¹ (λ (k : ℕ). PlacedBy b k (maze_place r)) m.0 (subst⁻¹ (PlacedBy b (refused_number (view b set))) m.1 view_placed)

  pub corridor_gives_the_first : {room : Room} {n : ℕ} {r : FoundCorridor} → CorridorCalled b set room n r → First (maze_tests b set) (corridor_number r)
  corridor_gives_the_first {room} {n} {r} c = subst⁻¹ (First (maze_tests b set)) (corridor_tells (view b set) room n r (corridor_says c)).0 view_first

  pub corridor_gives_its_place : {room : Room} {n : ℕ} {r : FoundCorridor} → CorridorCalled b set room n r → PlacedBy b (corridor_number r) (corridor_place r)
  corridor_gives_its_place {room} {n} {r} c =
      let m = corridor_tells (view b set) room n r (corridor_says c) in
      subst⁻¹ (λ (k : ℕ). PlacedBy b k (corridor_place r)) m.0 (subst⁻¹ (PlacedBy b (refused_number (view b set))) m.1 view_placed)

  -- "Prove winning and losing equal present and absent in the final round, and draw equals undecided": what the maze's call tells beside what `instant` tells from fresh with the same set.
  module _ (g : Good) (e : reading b ≡ good g) (u : undeclared_input g.header.inputs set ≡ false) (f : of_form g.body ≡ true) where
    abbrev t : Told
    t = told_reaction (block_of g) (react (block_of g) fresh (heard_of g (All set)))

    its_signals : g.header.inputs + g.header.outputs ≤ 64
    its_signals = omega (arith, (sound b g e).signals)

    ended : (n : ℕ) → n < g.header.inputs + g.header.outputs → AsRounds (block_of g) (bits set) n
    ended = as_rounds (block_of g) (bits set) (of_form_is g.body (of_true f)) (sound b g e).scoped

    status : (n : ℕ) → n < g.header.inputs + g.header.outputs → told_status g set t n ≡ final_status (block_of g) (bits set) n
    status = told_is_final g set its_signals

    true_of : (rooms : Rooms) → Shows (block_of g) (bits set) rooms → TrueMaze b set rooms t
    true_of rooms s = record {
      block = g;
      is_good = e;
      its_maze = s;
      wins_where_present = λ n l. (
        (λ w. status n l ∙ (ended n l).winning_is_present.0 ((s.wins n).0 w).1),
        (λ q. (s.wins n).1 (l, (ended n l).winning_is_present.1 (sym (status n l) ∙ q))),
      );
      loses_where_absent = λ n l. (
        (λ w. status n l ∙ (ended n l).losing_is_absent.0 ((s.loses n).0 w).1),
        (λ q. (s.loses n).1 (l, (ended n l).losing_is_absent.1 (sym (status n l) ∙ q))),
      );
      draws_where_undecided = λ n l. (
        (λ w. status n l ∙ (ended n l).draw_is_undecided.0 ((s.draws n).0 w).1),
        (λ q. (s.draws n).1 (l, (ended n l).draw_is_undecided.1 (sym (status n l) ∙ q))),
      );
      some_draw_is_13 = (
        (λ x. let d = (s.draws x.0).0 x.1 in open_is_13 g set its_signals (drawn_open g set its_signals x.0 d.0 ((ended x.0 d.0).draw_is_undecided.0 d.1))),
        (λ q. opened (thirteen_is_open g set its_signals (of_form_is g.body (of_true f)) (sound b g e).scoped q)),
      );
    }
      where
        opened : Open g set its_signals → (n : ℕ) × T (bits rooms.drawn n)
        opened x =
            let l : g.header.inputs + x.0 < g.header.inputs + g.header.outputs = (let k : x.0 < g.header.outputs = x.1 in omega arith) in
            (g.header.inputs + x.0, (s.draws (g.header.inputs + x.0)).1 (l, (ended (g.header.inputs + x.0) l).draw_is_undecided.1 (status_out g set its_signals x.0 ∙ x.2)))

  told_first : Bytes b → (g : Good) → reading b ≡ good g → undeclared_input g.header.inputs set ≡ false → {r : Instant} → Ran b (All set ∷ []) (r ∷ [])
      → instant_told r ≡ told_reaction (block_of g) (react (block_of g) fresh (heard_of g (All set)))
  unfolding wrong_inputs
  told_first bytes g e u {r} x = go (told_from_fresh b g e bytes x)
    where
      go : ToldFrom g fresh (All set ∷ []) (r ∷ []) → instant_told r ≡ told_reaction (block_of g) (react (block_of g) fresh (heard_of g (All set)))
      go (refused_11 f q nothing_told) = absurd (true≢false (sym f ∙ u))
      go (reacts f q nothing_told) = q

  pub the_maze_is_as_the_first_instant_tells : Bytes b → {rooms : Rooms} {r : Instant} → MazeCalled b set (Ok rooms) → Ran b (All set ∷ []) (r ∷ [])
      → TrueMaze b set rooms (instant_told r)
  unfolding Views
  the_maze_is_as_the_first_instant_tells bytes {rooms} {r} c x =
      by_view b set (λ v. Views v (Ok rooms) → TrueMaze b set rooms (instant_told r)) (λ n at e s. absurd s) (λ g e u s. absurd s) (λ g e u f s. absurd s)
      (λ g e u f s. subst⁻¹ (TrueMaze b set rooms) (told_first bytes g e u x) (true_of g e u f rooms s)) (maze_says c)

  -- The corridors told are those of that maze.
  pub the_corridors_are_of_that_maze : {rooms : Rooms} → MazeCalled b set (Ok rooms) → {room : Room} {n : ℕ} {r : FoundCorridor} → CorridorCalled b set room n r
      → (g : Good) → reading b ≡ good g → way_told r ≡ way_of g set (room_of room) n
  unfolding Views way_in
  the_corridors_are_of_that_maze {rooms} c {room} {n} {r} d g e =
      by_view b set (λ v. Views v (Ok rooms) → way_told r ≡ way_in v (room_of room) n → way_told r ≡ way_of g set (room_of room) n)
      (λ k at q s w. absurd s) (λ h q u s w. absurd s) (λ h q u f s w. absurd s)
      (λ h q u f s w. w ∙ ap (λ (k : Good). way_of k set (room_of room) n) (one_reading b g h e q)) (maze_says c) (corridor_says d)
