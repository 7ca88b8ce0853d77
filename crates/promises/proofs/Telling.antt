-- What is told of an answered instant is the only coherent reaction: every coherent one has its outputs, its code and its next state, so
-- its numbers are those told, bit by bit. Assumes nothing.
use mathlib.Core.Path.{◌≡◌, refl, sym, ap, ap₂, ◌∙◌}
use mathlib.Core.Bool.{Bool, true, false, cond, ◌&&◌}
use mathlib.Core.List.{List, [], ◌∷◌, map}
use Prim.Native.Nat.{ℕ, zero, suc, ◌+◌, ◌-◌, ◌≤◌}
use native.Mathlib.Omega.{arith}
use lib.Dec.{ltb, leb}
use lib.ListN.{length, get_or, get_or-eq_default}
use borrow.Author.Tests.{ltb-true, ltb-false, le-ltb, le-leb, lt-leb}
use Rattle.sets.specs.Numbers.{empty, count}
use Rattle.sets.specs.Words.{bits, word}
use Rattle.sets.proofs.Words.{bits_word}
use Rattle.rules.specs.Statements.{Block}
use Rattle.rules.specs.Events.{Status, present, unknown, known, Hearing}
use Rattle.rules.specs.States.{State, active_of}
use Rattle.rules.specs.Rounds.{same, outputs_with, Answer, answered, not_constructive}
use Rattle.rules.specs.Coherence.{world}
use Rattle.theorems.specs.Reactions.{OnlyIfAnswered}
use Rattle.block.specs.Format.{Good}
use Rattle.records.specs.StateRecord.{state_record, names_block}
use Rattle.records.proofs.Reading.{named_version, named_statements}
use Rattle.reaction.specs.Instants.{block_of, reacted, told, state_after}
use Rattle.promises.specs.Promised.{Tells}

same_known : (x : Bool) → same (known x) present ≡ x
same_known true = refl
same_known false = refl

same_at : (outs : List Bool) (i : ℕ) → same (get_or (map known outs) i unknown) present ≡ get_or outs i false
same_at [] i = refl
same_at (x ∷ outs) zero = same_known x
same_at (x ∷ outs) (suc i) = same_at outs i

-- The outputs present, as the statuses and as the coherence law have them.
present_outputs : (b : Block) (outs : List Bool) (n : ℕ) → outputs_with present b (map known outs) n ≡ world b empty outs n
unfolding outputs_with world
present_outputs b outs n = go (ltb n b.inputs) refl
  where
    go : (x : Bool) → ltb n b.inputs ≡ x
        → (leb b.inputs n && same (get_or (map known outs) (n - b.inputs) unknown) present) ≡ cond (ltb n b.inputs) (empty n) (get_or outs (n - b.inputs) false)
    go true e = rw (e, lt-leb b.inputs n (ltb-true n b.inputs e))
    go false e = rw (e, le-leb b.inputs n (ltb-false n b.inputs e), same_at outs (n - b.inputs))

-- No output lies at or above 64, so the word holds them all.
module _ (b : Block) (few : b.inputs + b.outputs ≤ 64) (outs : List Bool) (each : length outs ≡ b.outputs) where
  none_beyond : (n : ℕ) → 64 ≤ n → world b empty outs n ≡ false
  unfolding world
  none_beyond n h =
      ap (λ (x : Bool). cond x false (get_or outs (n - b.inputs) false)) (le-ltb n b.inputs (omega arith))
      ∙ get_or-eq_default outs false {n = n - b.inputs} (omega arith)

  within : (n : ℕ) → (ltb n 64 && world b empty outs n) ≡ world b empty outs n
  within n = go (ltb n 64) refl
    where
      go : (x : Bool) → ltb n 64 ≡ x → (ltb n 64 && world b empty outs n) ≡ world b empty outs n
      go true e = ap (λ (x : Bool). x && world b empty outs n) e
      go false e = ap (λ (x : Bool). x && world b empty outs n) e ∙ sym (none_beyond n (ltb-false n 64 e))

  outputs_told : (vs : List Status) → map known outs ≡ vs → (n : ℕ) → bits (word 64 (outputs_with present b vs)) n ≡ world b empty outs n
  outputs_told vs e n =
      bits_word 64 (outputs_with present b vs) n
      ∙ ap (λ (x : Bool). ltb n 64 && x) (ap (λ (us : List Status). outputs_with present b us n) (sym e) ∙ present_outputs b outs n) ∙ within n

pub tells : (g : Good) → g.header.inputs + g.header.outputs ≤ 64 → (st : State) (heard : Hearing) (s : List ℕ)
    → names_block g.header.version g.statements s ≡ true → (a : Answer) → OnlyIfAnswered (block_of g) st heard a
    → Tells g st heard s a (told (reacted (block_of g) a)) (state_after s (reacted (block_of g) a))
unfolding told state_after
tells g few st heard s named (answered vs c st' n) only = record {
  is_answered = refl;
  only_reaction = only;
  says_it =
      λ chosen ch outs d st'' r. let q = (only chosen ch).the_only_one outs d st'' r in
      record {
        outputs_are = outputs_told (block_of g) few outs r.each_output vs q.same_outputs;
        code_is = sym q.same_code;
        active_are = ap (λ (x : State). count 128 (active_of x)) (sym q.same_next);
        state_is =
            ap₂ (λ (v k : ℕ). state_record v k st') (named_version g.header.version g.statements s named)
            (named_statements g.header.version g.statements s named)
            ∙ ap (state_record g.header.version g.statements) (sym q.same_next);
      };
}
tells g few st heard s named (not_constructive vs n) only = record { is_refused = refl; unchanged = refl }
