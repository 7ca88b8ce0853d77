-- A reason's values. Where nothing is asked the question about statement 512 is answered with 16 after the same tests, since a good block has 512 statements at most: by what the
-- tests come to. Assumes nothing.
use mathlib.Core.Path.{◌≡◌, refl, sym, ap}
use mathlib.Core.Bool.{Bool, false, not, ◌&&◌}
use mathlib.Core.List.{List}
use mathlib.Core.Option.{Option, none, some}
use Prim.Native.Nat.{ℕ, ◌≤◌}
use native.Mathlib.Omega.{arith}
use lib.ListN.{get_or-eq_default}
use borrow.Author.Tests.{ne_eqb}
use Rattle.sets.specs.Numbers.{Numbers, lowest}
use Rattle.rules.specs.Statements.{Block, nothing, statements, preorder, numbered}
use Rattle.rules.specs.Events.{Hearing, event}
use Rattle.rules.specs.States.{State}
use Rattle.rules.specs.Rounds.{Answer, answered, not_constructive, react}
use Rattle.rules.specs.Taken.{every, taken}
use Rattle.rules.specs.Reasons.{Asked, refused, is_present, not_executed, is_emit, cut_off, where_so, reason_from, reason_of}
use Rattle.rules.proofs.Preorder.{all_counted}
use Rattle.block.proofs.GoodReadings.{sound}
use Rattle.reaction.specs.Fronts.{Front, front}
use Rattle.reaction.specs.Instants.{block_of, heard_of}
use Rattle.reaction.specs.declared.Given.TheVariants.{Two}
use Rattle.reaction.proofs.Cases.{by_front}
use Rattle.foldheron.specs.Reasons.{named_owed, past_tests, reason_owed}
use Rattle.values.specs.Asking.{question_for}
use Rattle.values.specs.Calls.{asked_by, told_why}

-- The three numbers, and any other.
pub asks_0 : (n about : ℕ) → n ≡ 0 → refused ≡ question_for (asked_by n about)
unfolding question_for
asks_0 n about e = ap (λ (k : ℕ). question_for (asked_by k about)) (sym e)

pub asks_1 : (n about : ℕ) → n ≡ 1 → is_present about ≡ question_for (asked_by n about)
unfolding question_for
asks_1 n about e = ap (λ (k : ℕ). question_for (asked_by k about)) (sym e)

pub asks_2 : (n about : ℕ) → n ≡ 2 → not_executed about ≡ question_for (asked_by n about)
unfolding question_for
asks_2 n about e = ap (λ (k : ℕ). question_for (asked_by k about)) (sym e)

pub asks_none : (n about : ℕ) → (n ≡ 0 → ⊥) → (n ≡ 1 → ⊥) → (n ≡ 2 → ⊥) → not_executed 512 ≡ question_for (asked_by n about)
unfolding question_for
asks_none n about x y z =
    let q : asked_by n about ≡ none = simp (ne_eqb n 0 x, ne_eqb n 1 y, ne_eqb n 2 z) in
    sym (ap question_for q)

-- There is no emit past the end.
module _ (b : Block) (st : State) (heard : Hearing) (h : statements b.body ≤ 512) where
  no_emit : is_emit (numbered b.body 512) ≡ false
  no_emit = ap is_emit (get_or-eq_default (preorder b.body) nothing {n = 512} (omega (arith, all_counted b.body)))

  no_reason : reason_of b st heard (not_executed 512) ≡ none
  unfolding reason_of reason_from
  no_reason = go (react b st heard)
    where
      go : (a : Answer) → reason_from (not_executed 512) b st heard a ≡ none
      go (answered vs c st' n) =
          let executed : Numbers = taken every b.body st (event b heard vs) in
          ap (λ (z : Bool). where_so (z && not (executed 512)) (lowest (statements b.body) (cut_off b.body 512 executed))) no_emit
      go (not_constructive vs n) = refl

module _ (b s : List ℕ) (p a : ℕ) where
  nothing_asked : reason_owed b s p a (not_executed 512) ≡ past_tests (front b s (Two p a)) (λ g st. none)
  unfolding past_tests
  nothing_asked =
      by_front b s (Two p a) (λ (x : Front). past_tests x (λ g st. reason_of (block_of g) st (heard_of g (Two p a)) (not_executed 512)) ≡ past_tests x (λ g st. none)) (λ n at e. refl)
      (λ g e. refl) (λ g e. refl) (λ g e st h pair q. refl) (λ g e. refl)
      (λ g e st h. ap named_owed (no_reason (block_of g) st (heard_of g (Two p a)) (omega (arith, (sound b g e).counted, (sound b g e).few_statements))))

  -- What the code's question is owed is what is told.
  pub question_told : (q : Option Asked) → reason_owed b s p a (question_for q) ≡ told_why b s p a q
  unfolding question_for
  question_told (some q) = refl
  question_told none = nothing_asked
