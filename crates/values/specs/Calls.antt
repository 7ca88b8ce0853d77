-- The values of an instant's answer, in their order, and of the calls on a shelf; and what is asked by number. Those of the other calls are the
-- library's own (foldheron/specs/Answers and Reasons). Assumes nothing.
use Rattle.std.specs.Prelude.{cond, List, [], ◌∷◌, ◌++◌, ℕ, eqb, length, drop}
use Rattle.std.proofs.Math.Option.{Option, none, some}
use Rattle.rules.specs.Reasons.{Asked, refused, is_present, not_executed}
use Rattle.reaction.specs.Fronts.{front}
use Rattle.reaction.specs.declared.Given.TheVariants.{Two}
use Rattle.foldheron.specs.Reasons.{past_tests, reason_owed}
use Rattle.reaction.specs.Instants.{Told}
use Rattle.shelf.specs.Calls.{install, fetch, withdraw, told, left}
use Rattle.shelf.specs.Answered.{shelved_owed}

abbrev pub told_values : Told → List ℕ
told_values t =
    t.number ∷ t.place ∷ t.first ∷ t.second ∷ t.present_outputs ∷ t.absent_outputs ∷ t.undecided_outputs ∷ t.rounds ∷ t.code ∷ t.active ∷ []

-- With a log, its new end comes last.
abbrev pub logged_values : Told → ℕ → List ℕ
logged_values t end = told_values t ++ end ∷ []

-- What is asked by number: 0, why the instant was refused; 1, why this signal is present; 2, why this statement was not executed. No other number asks anything.
abbrev pub asked_by : ℕ → ℕ → Option Asked
asked_by n about = cond (eqb n 0) (some refused) (cond (eqb n 1) (some (is_present about)) (cond (eqb n 2) (some (not_executed about)) none))

-- A reason's values: number, place, the pair, and the statement. Where nothing is asked it is 16, after the same tests.
abbrev pub told_why : List ℕ → List ℕ → ℕ → ℕ → Option Asked → List ℕ
told_why b s p a (some asked) = reason_owed b s p a asked
told_why b s p a none = past_tests (front b s (Two p a)) (λ g st. none)

-- An install's values: number and place; and the shelf that it leaves.
abbrev pub install_owed : List ℕ → ℕ → ℕ → List ℕ → List ℕ
install_owed s party name b = shelved_owed (told s (install party name b))

abbrev pub install_leaves : List ℕ → ℕ → ℕ → List ℕ → List ℕ
install_leaves s party name b = left s (install party name b)

-- A fetch's values: number, place, and how many bytes the block has.
abbrev pub fetch_owed : List ℕ → ℕ → ℕ → List ℕ
fetch_owed s party name = (told s (fetch party name)).number ∷ (told s (fetch party name)).place ∷ length (told s (fetch party name)).part ∷ []

-- The block is copied to the front of the bytes that are lent for it, and those behind it stay. A refused one is empty, so then all stay.
abbrev pub fetch_leaves : List ℕ → ℕ → ℕ → List ℕ → List ℕ
fetch_leaves s party name out = (told s (fetch party name)).part ++ drop (length (told s (fetch party name)).part) out

-- A withdrawal's values: number and place; and the shelf that it leaves.
abbrev pub withdraw_owed : List ℕ → ℕ → ℕ → List ℕ
withdraw_owed s party name = shelved_owed (told s (withdraw party name))

abbrev pub withdraw_leaves : List ℕ → ℕ → ℕ → List ℕ
withdraw_leaves s party name = left s (withdraw party name)
