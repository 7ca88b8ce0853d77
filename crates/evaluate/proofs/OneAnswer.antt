-- No two different answers meet the contract of `react`: every number and word is settled by the definition's answer. Assumes nothing.
use mathlib.Core.Path.{◌≡◌, sym, ap, ◌∙◌, subst₂}
use mathlib.Core.List.{List}
use Prim.Native.Nat.{ℕ, ◌+◌, ◌^◌, ◌<◌}
use native.Mathlib.Omega.{arith}
use lib.ListN.{get_or}
use Rattle.std.specs.Prelude.{Option, Some, None}
use Rattle.sets.specs.Numbers.{Numbers, count}
use Rattle.sets.specs.Words.{bits, set_of}
use Rattle.sets.proofs.Words.{bits_ext, bits_ext_to}
use Rattle.rules.specs.Statements.{Block}
use Rattle.rules.specs.Rounds.{Answer, answered, not_constructive}
use Rattle.evaluate.specs.declared.rounds.Done.{Done}
use Rattle.evaluate.specs.declared.rounds.Reacted.{Reacted}
use Rattle.evaluate.specs.Reacts.{IsAnswer}
use Rattle.words.proofs.PauseLaws.{low_pause, high_pause}

-- What is done, twice: the fields are equal; of the two words kept, the elements are.
pub record SameFields (d e : Done) : Type 0 where
  pub same_code : d.code.0 ≡ e.code.0
  pub same_low : get_or d.kept 0 0 ≡ get_or e.kept 0 0
  pub same_high : get_or d.kept 1 0 ≡ get_or e.kept 1 0
  pub same_active : d.active ≡ e.active

pub data SameDone : Option Done → Option Done → Type 0 where
  neither : SameDone None None
  both : {d e : Done} → SameFields d e → SameDone (Some d) (Some e)

-- Two answers whose fields are equal.
pub record SameAnswer (r s : Reacted) : Type 0 where
  pub same_present : r.marks.present ≡ s.marks.present
  pub same_absent : r.marks.absent ≡ s.marks.absent
  pub same_undecided : r.undecided ≡ s.undecided
  pub same_rounds : r.rounds ≡ s.rounds
  pub same_done : SameDone r.done s.done

word_eq : {a b : ℕ} {S : Numbers} → bits a ≡ S → bits b ≡ S → a ≡ b
word_eq e f = bits_ext (λ k. ap (λ (w : Numbers). w k) (e ∙ sym f))

low_eq : (v w : List ℕ) → get_or v 0 0 < 2 ^ 64 → get_or w 0 0 < 2 ^ 64 → set_of v ≡ set_of w → get_or v 0 0 ≡ get_or w 0 0
low_eq v w h l e = bits_ext_to 64 h l (λ n k. sym (low_pause v n k) ∙ ap (λ (x : Numbers). x n) e ∙ low_pause w n k)

high_eq : (v w : List ℕ) → set_of v ≡ set_of w → get_or v 1 0 ≡ get_or w 1 0
high_eq v w e = bits_ext go
  where
    go : (n : ℕ) → bits (get_or v 1 0) n ≡ bits (get_or w 1 0) n
    go n =
        ap (bits (get_or v 1 0)) (omega arith) ∙ sym (high_pause v (64 + n) (omega arith)) ∙ ap (λ (x : Numbers). x (64 + n)) e
        ∙ high_pause w (64 + n) (omega arith) ∙ ap (bits (get_or w 1 0)) (omega arith)

-- The first word of what is kept is one of 64 bits.
abbrev pub FirstFits : Reacted → Type 0
FirstFits r = (d : Done) → r.done ≡ Some d → get_or d.kept 0 0 < 2 ^ 64

module _ (b : Block) (r s : Reacted) (h : FirstFits r) (l : FirstFits s) where
  pub one_answer : (a : Answer) → IsAnswer b a r → IsAnswer b a s → SameAnswer r s
  unfolding IsAnswer
  one_answer (answered outs c st n) f g =
      let x = f.done_as in
      let y = g.done_as in
      let kept = x.kept_is ∙ sym y.kept_is in
      record {
        same_present = word_eq f.outputs_are.present_is g.outputs_are.present_is;
        same_absent = word_eq f.outputs_are.absent_is g.outputs_are.absent_is;
        same_undecided = f.outputs_are.undecided_is ∙ sym g.outputs_are.undecided_is;
        same_rounds = f.outputs_are.rounds_is ∙ sym g.outputs_are.rounds_is;
        same_done = subst₂ SameDone (sym f.done_is) (sym g.done_is)
            (both (record {
              same_code = x.code_is ∙ sym y.code_is;
              same_low = low_eq f.done.kept g.done.kept (h f.done f.done_is) (l g.done g.done_is) kept;
              same_high = high_eq f.done.kept g.done.kept kept;
              same_active = x.active_is ∙ ap (count 128) kept ∙ sym y.active_is;
            }));
      }
  one_answer (not_constructive outs n) f g = record {
    same_present = word_eq f.outputs_are.present_is g.outputs_are.present_is;
    same_absent = word_eq f.outputs_are.absent_is g.outputs_are.absent_is;
    same_undecided = f.outputs_are.undecided_is ∙ sym g.outputs_are.undecided_is;
    same_rounds = f.outputs_are.rounds_is ∙ sym g.outputs_are.rounds_is;
    same_done = subst₂ SameDone (sym f.done_is) (sym g.done_is) neither;
  }
