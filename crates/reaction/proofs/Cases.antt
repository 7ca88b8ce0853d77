-- What holds of each thing that the tests before the rules may come to, with what is known there, holds of what they come to: by the tests in their order. Assumes nothing.
use mathlib.Core.Path.{◌≡◌, refl}
use mathlib.Core.Bool.{Bool, true, false, cond}
use mathlib.Core.List.{List}
use mathlib.Core.Option.{Option, none, some}
use Prim.Native.Nat.{ℕ}
use Rattle.rules.specs.States.{State, active_of}
use Rattle.block.specs.Format.{Good, Reading, good, turned_down, reading}
use Rattle.records.specs.StateRecord.{Found, not_a_state, state, read_state, names_block, Pair as Pairing, first_clash}
use Rattle.reaction.specs.declared.Given.{Given}
use Rattle.reaction.specs.Fronts.{STATE, OTHER_BLOCK, INPUT, Front, stopped, clashing, ready, wrong_inputs, try_inputs, try_clash, clash_tried, try_names, try_state, try_block, front}

module _ (b s : List ℕ) (given : Given) (P : Front → Type 0) (block_fails : (n at : ℕ) → reading b ≡ turned_down n at → P (stopped n at))
    (no_state : (g : Good) → reading b ≡ good g → P (stopped STATE 0)) (other_block : (g : Good) → reading b ≡ good g → P (stopped OTHER_BLOCK 0))
    (clash : (g : Good) → reading b ≡ good g → (st : State) → read_state g.pauses s ≡ state st → (pair : Pairing) → first_clash g.body (active_of st) ≡ some pair
    → P (clashing pair)) (wrong_input : (g : Good) → reading b ≡ good g → P (stopped INPUT 0))
    (passes : (g : Good) → reading b ≡ good g → (st : State) → read_state g.pauses s ≡ state st → P (ready g st)) where
  module _ (g : Good) (e : reading b ≡ good g) (st : State) (h : read_state g.pauses s ≡ state st) where
    by_inputs : P (try_inputs g st given)
    unfolding try_inputs
    by_inputs = go (wrong_inputs g.header.inputs given)
      where
        go : (x : Bool) → P (cond x (stopped INPUT 0) (ready g st))
        go true = wrong_input g e
        go false = passes g e st h

    by_clash : (c : Option Pairing) → first_clash g.body (active_of st) ≡ c → P (try_clash g st given c)
    unfolding try_clash
    by_clash none q = by_inputs
    by_clash (some pair) q = clash g e st h pair q

    by_names : P (try_names g st s given)
    unfolding try_names
    by_names = go (names_block g.header.version g.statements s)
      where
        go : (x : Bool) → P (cond x (clash_tried g st given) (stopped OTHER_BLOCK 0))
        go true = by_clash (first_clash g.body (active_of st)) refl
        go false = other_block g e

  by_state : (g : Good) → reading b ≡ good g → (f : Found) → read_state g.pauses s ≡ f → P (try_state g s given f)
  unfolding try_state
  by_state g e not_a_state q = no_state g e
  by_state g e (state st) q = by_names g e st q

  pub by_front : P (front b s given)
  unfolding front try_block
  by_front = go (reading b) refl
    where
      go : (x : Reading) → reading b ≡ x → P (try_block s given x)
      go (good g) e = by_state g e (read_state g.pauses s) refl
      go (turned_down n at) e = block_fails n at e
