-- What is owed where the contract is a relation is settled: two rows of values that are a comparison's, with the run afterwards, or a maze's, are the same. And the length
-- in a comparison's values is 0 of alike blocks alone, since a run of no sets shows nothing: by cases on the answer. Assumes nothing.
use mathlib.Core.Path.{◌≡◌, refl, sym, ap, ◌∙◌}
use mathlib.Core.List.{List}
use Prim.Native.Nat.{ℕ}
use native.Mathlib.Omega.{arith}
use lib.ListN.{get_or}
use Rattle.refusals.proofs.Laws.{number_above}
use Rattle.pairs.specs.Runs.{Run, start, ◌▸◌, Comparison, size, shows, First}
use Rattle.alike.specs.Calls.{Front, first_stopped, second_stopped, stopped, ready, front, Compared, Owed}
use Rattle.std.specs.Prelude.{Some, None, Ok, Err}
use Rattle.alike.specs.declared.NotCompared.TheVariants as told
use Rattle.foldheron.specs.Answers.{Likeness}
use Rattle.alike.proofs.OneAnswer.{one_likeness}
use Rattle.maze.specs.Views.{view}
use Rattle.maze.proofs.OneAnswer.{one_answer}
use Rattle.values.specs.Whole.{likeness_values, Compares, maze_values, ShowsMaze}

pub one_comparison : (first second run : List ℕ) {x y v w : List ℕ} → Compares first second run x v → Compares first second run y w → (v ≡ w) × (x ≡ y)
one_comparison first second run {x} {y} c d =
    let e = one_likeness first second run c.likeness d.likeness x y c.owed d.owed in
    (c.its_values ∙ ap likeness_values e.0 ∙ sym d.its_values, e.1)

pub one_maze : (b : List ℕ) (given : ℕ) {v w : List ℕ} → ShowsMaze b given v → ShowsMaze b given w → v ≡ w
one_maze b given c d = c.its_values ∙ ap maze_values (one_answer (view b given) c.answer d.answer c.views d.views) ∙ sym d.its_values

-- A run that shows a difference has a set.
some_set : (m : Comparison) (w : Run) → First m w → size w ≡ 0 → ⊥
unfolding shows size
some_set m start f e = f.is_shown
some_set m (r ▸ s) f e = absurd (omega (arith, e))

different_somewhere : (f : Front) (n : ℕ) (before after : List ℕ) → Owed f (Ok (Some n)) before after → n ≡ 0 → ⊥
unfolding Owed Compared
different_somewhere (first_stopped k at) n before after o e = let d = o.0 in let z : ◌≡◌ {A = ℕ} 0 1 = cc in absurd (omega arith)
different_somewhere (second_stopped k at) n before after o e = let d = o.0 in let z : ◌≡◌ {A = ℕ} 0 1 = cc in absurd (omega arith)
different_somewhere (stopped k) n before after o e = let d = o.0 in let z : ◌≡◌ {A = ℕ} 0 1 = cc in absurd (omega arith)
different_somewhere (ready g h) n before after o e = some_set _ o.0 o.1 (sym o.3 ∙ e)

pub no_length_is_alike : (first second run after values : List ℕ) (c : Compares first second run after values) → get_or values 0 0 ≡ 0 → get_or values 3 0 ≡ 0
    → c.likeness ≡ Ok None
unfolding likeness_values
no_length_is_alike first second run after values c z l =
    go c.likeness c.owed (sym (ap (λ (v : List ℕ). get_or v 0 0) c.its_values) ∙ z) (sym (ap (λ (v : List ℕ). get_or v 3 0) c.its_values) ∙ l)
  where
    go : (a : Likeness) → Owed (front first second run) a run after → get_or (likeness_values a) 0 0 ≡ 0 → get_or (likeness_values a) 3 0 ≡ 0 → a ≡ Ok None
    go (Ok None) o z l = refl
    go (Ok (Some n)) o z l = absurd (different_somewhere (front first second run) n run after o l)
    go (Err (told.First r)) o z l = absurd (number_above r.why z)
    go (Err (told.Second r)) o z l = absurd (number_above r.why z)
    go (Err (told.Both w)) o z l = absurd (number_above w z)
