-- No two different answers meet the contract of `maze`: a refusal has its number and its place, and each word its bits. Assumes nothing.
use mathlib.Core.Path.{◌≡◌, sym, ◌∙◌}
use mathlib.Core.Logic.{◌↔◌}
use Prim.Native.Nat.{ℕ, ◌+◌, ◌<◌}
use lib.Dec.{T}
use Rattle.refusals.specs.declared.Refused.{Refused}
use Rattle.std.specs.Prelude.{Result, Ok, Err}
use Rattle.refusals.proofs.Laws.{numbers_differ}
use Rattle.sets.specs.Words.{bits}
use Rattle.sets.proofs.Members.{same}
use Rattle.sets.proofs.Words.{bits_ext}
use Rattle.mazes.specs.Mazes.{signal, maze_of, Wins, Loses, Draws}
use Rattle.maze.specs.declared.Rooms.{Rooms}
use Rattle.maze.specs.Views.{View, refused, shown, Views}

one_word : (x y : ℕ) (P : ℕ → Type 0) → ((n : ℕ) → T (bits x n) ↔ P n) → ((n : ℕ) → T (bits y n) ↔ P n) → x ≡ y
one_word x y P f g = bits_ext (λ n. same (bits x n) (bits y n) (λ t. (g n).1 ((f n).0 t)) (λ t. (f n).1 ((g n).0 t)))

pub one_answer : (v : View) (r s : Result Rooms Refused) → Views v r → Views v s → r ≡ s
unfolding Views
one_answer (refused n at) (Err v) (Err w) f g =
    let e : v.why ≡ w.why = numbers_differ v.why w.why (f.0 ∙ sym g.0) in
    let d : v.place ≡ w.place = f.1 ∙ sym g.1 in
    λ i. Err (record { why = e i; place = d i })
one_answer (refused n at) (Err w) (Ok s) f g = absurd g
one_answer (refused n at) (Ok r) s f g = absurd f
one_answer (shown b given) (Err w) s f g = absurd f
one_answer (shown b given) (Ok r) (Err w) f g = absurd g
one_answer (shown b given) (Ok r) (Ok s) f g =
    let m = maze_of b given in
    let k = b.inputs + b.outputs in
    let w : r.winning ≡ s.winning = one_word r.winning s.winning (λ n. (n < k) × Wins m (signal n)) f.wins g.wins in
    let l : r.losing ≡ s.losing = one_word r.losing s.losing (λ n. (n < k) × Loses m (signal n)) f.loses g.loses in
    let d : r.drawn ≡ s.drawn = one_word r.drawn s.drawn (λ n. (n < k) × Draws m (signal n)) f.draws g.draws in
    λ i. Ok (record { winning = w i; losing = l i; drawn = d i })
