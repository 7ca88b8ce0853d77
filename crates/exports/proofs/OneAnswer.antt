-- The two C names whose contract is a relation have one answer as well: what the relation holds of is settled below, and the bytes follow from the values. By whether as many
-- bytes are lent as the answer has. Assumes nothing.
use mathlib.Core.Path.{◌≡◌, sym, ap, ◌∙◌}
use mathlib.Core.List.{List}
use Prim.Native.Nat.{ℕ, ◌*◌}
use native.Mathlib.Decide.{ℕ_discrete}
use lib.ListN.{length, get_or}
use Rattle.values.specs.Whole.{Compares, ShowsMaze}
use Rattle.values.proofs.OneAnswer.{one_comparison, one_maze}
use Rattle.exports.specs.Layout.{laid, lent, ANSWER, Answers, AnswersOwed, Stays}

-- Values that are the same are the same number and the same bytes.
same_bytes : (count : ℕ) (a v w : List ℕ) {x y : List ℕ} {r s : ℕ} → v ≡ w → Answers count v a x r → Answers count w a y s → (r ≡ s) × (x ≡ y)
same_bytes count a v w e c d = (
  c.number ∙ ap (λ (u : List ℕ). lent count a (get_or u 0 0) ANSWER) e ∙ sym d.number,
  c.answer ∙ ap (λ (u : List ℕ). lent count a (laid u) a) e ∙ sym d.answer,
)

-- The number given back, the answer's bytes, and the run's.
pub one_alike_answer : (first second run a : List ℕ) {p q x y : List ℕ} {r s : ℕ} → AnswersOwed 4 (Compares first second run p) a x r → Stays 4 a run p
    → AnswersOwed 4 (Compares first second run q) a y s → Stays 4 a run q → (r ≡ s) × (x ≡ y) × (p ≡ q)
one_alike_answer first second run a {p} {q} {x} {y} {r} {s} c h d k = go (ℕ_discrete (length a) (8 * 4))
  where
    go : Dec (length a ≡ 8 * 4) → (r ≡ s) × (x ≡ y) × (p ≡ q)
    go (yes l) =
        let u = c.values l in
        let v = d.values l in
        let e = one_comparison first second run u.1 v.1 in
        let f = same_bytes 4 a u.0 v.0 e.0 u.2 v.2 in
        (f.0, f.1, e.1)
    go (no n) = ((c.unwritten n).0 ∙ sym (d.unwritten n).0, (c.unwritten n).1 ∙ sym (d.unwritten n).1, h.unchanged n ∙ sym (k.unchanged n))

pub one_maze_answer : (b : List ℕ) (given : ℕ) (a : List ℕ) {x y : List ℕ} {r s : ℕ} → AnswersOwed 5 (ShowsMaze b given) a x r → AnswersOwed 5 (ShowsMaze b given) a y s
    → (r ≡ s) × (x ≡ y)
one_maze_answer b given a {x} {y} {r} {s} c d = go (ℕ_discrete (length a) (8 * 5))
  where
    go : Dec (length a ≡ 8 * 5) → (r ≡ s) × (x ≡ y)
    go (yes l) =
        let u = c.values l in
        let v = d.values l in
        same_bytes 5 a u.0 v.0 (one_maze b given u.1 v.1) u.2 v.2
    go (no n) = ((c.unwritten n).0 ∙ sym (d.unwritten n).0, (c.unwritten n).1 ∙ sym (d.unwritten n).1)
