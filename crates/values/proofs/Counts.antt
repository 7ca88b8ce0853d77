-- Each answer has as many values as its layout, and a number that two bytes hold: by cases on the reading and on the verdict. Assumes nothing.
use mathlib.Core.Path.{◌≡◌, refl, ap, subst}
use mathlib.Core.Bool.{Bool, true, false, cond, ◌&&◌}
use mathlib.Core.List.{List, [], ◌∷◌}
use mathlib.Core.Option.{Option, none, some}
use Prim.Native.Nat.{ℕ, ◌≤◌, ◌<◌}
use native.Mathlib.Omega.{arith}
use lib.Dec.{T, lit≤, eqb, ltb, ltb→lt}
use lib.ListN.{length, get_or, take}
use Rattle.refusals.specs.Refusals.{number, refusals, first_with, why_of}
use Rattle.refusals.specs.declared.Why.{Why}
use Rattle.refusals.proofs.Laws.{number_back, why_back}
use Rattle.sets.proofs.Members.{and_left, and_right}
use Rattle.rules.specs.States.{State}
use Rattle.rules.specs.Rounds.{answered, not_constructive}
use Rattle.rules.specs.Reasons.{Asked, reason_of}
use Rattle.block.specs.Format.{Good, Reading, good, turned_down, reading}
use Rattle.block.proofs.GoodReadings.{numbers}
use Rattle.reaction.specs.Fronts.{Front, front}
use Rattle.reaction.specs.Instants.{block_of, heard_of, Verdict, refused, clash, reacted, Told, told, verdict}
use Rattle.reaction.specs.declared.Given.{Given}
use Rattle.reaction.specs.declared.Given.TheVariants.{Two}
use Rattle.reaction.proofs.Cases.{by_front}
use Rattle.foldheron.specs.Answers.{check_owed, begun_owed, PartTold, part_owed, part_values, absent_part}
use Rattle.foldheron.specs.Reasons.{named_owed, past_tests}
use Rattle.foldheron.proofs.Calls.{Leaves, leaves}
use Rattle.shelf.specs.Answered.{shelved_owed}
use Rattle.shelf.proofs.Told.{install_small, fetch_small, withdraw_small}
use Rattle.values.specs.Calls.{told_values, logged_values, told_why, install_owed, fetch_owed, withdraw_owed}

-- So many values, the first of which is a number given back.
pub record Counted (size : ℕ) (xs : List ℕ) : Type 0 where
  pub counted : length xs ≡ size
  pub small : get_or xs 0 0 ≤ 63

-- The values of a reading: those of a good block, and those of a refusal.
module _ {size : ℕ} (values : Reading → List ℕ) (b : List ℕ) where
  pub by_reading : ((g : _) → Counted size (values (good g))) → ((n at : ℕ) → n ≤ 63 → Counted size (values (turned_down n at))) → Counted size (values (reading b))
  by_reading f h = go (reading b) refl
    where
      go : (x : Reading) → reading b ≡ x → Counted size (values x)
      go (good g) e = f g
      go (turned_down n at) e = h n at (let r = numbers b n at e in omega (arith, r.1))

pub check_counted : (b : List ℕ) → Counted 8 (check_owed (reading b))
unfolding check_owed
check_counted b = by_reading check_owed b (λ g. record { counted = refl; small = lit≤ tt }) (λ n at l. record { counted = refl; small = l })

begun_sized : (t : Bool) → Counted 2 (cond t (0 ∷ 0 ∷ []) (9 ∷ 0 ∷ []))
begun_sized true = record { counted = refl; small = lit≤ tt }
begun_sized false = record { counted = refl; small = lit≤ tt }

pub begun_counted : (b s : List ℕ) → Counted 2 (begun_owed (reading b) s)
unfolding begun_owed
begun_counted b s = by_reading (λ x. begun_owed x s) b (λ g. begun_sized (eqb (length s) 26)) (λ n at l. record { counted = refl; small = l })

part_found : (t : Bool) (p : PartTold) → p.number ≡ 0 → Counted 4 (part_values (cond t p (absent_part 14 0)))
part_found true p e = record { counted = refl; small = omega arith }
part_found false p e = record { counted = refl; small = lit≤ tt }

pub part_counted : (b : List ℕ) (n : ℕ) → Counted 4 (part_values (part_owed (reading b) n))
unfolding part_owed
part_counted b n = by_reading (λ x. part_values (part_owed x n)) b (λ g. part_found (ltb n g.statements) _ refl) (λ k at l. record { counted = refl; small = l })

-- The number of every refusal is below 64: those of the list are, and every refusal is in it.
all_below : List Why → Bool
all_below [] = true
all_below (w ∷ ws) = ltb (number w) 64 && all_below ws

first_small : (ws : List Why) (n : ℕ) → T (all_below ws) → number (first_with ws n) ≤ 63
unfolding all_below first_with number
first_small [] n a = lit≤ tt
first_small (w ∷ ws) n a = go (eqb n (number w)) (first_small ws n (and_right (ltb (number w) 64) (all_below ws) a))
  where
    go : (t : Bool) → number (first_with ws n) ≤ 63 → number (cond t w (first_with ws n)) ≤ 63
    go true l = let m : number w < 64 = ltb→lt (number w) 64 (and_left (ltb (number w) 64) (all_below ws) a) in omega (arith, m)
    go false l = l

pub why_small : (w : Why) → number w ≤ 63
unfolding all_below number
why_small w = subst (λ (v : Why). number v ≤ 63) (why_back w) (first_small refusals (number w) tt)

number_small : (v : Verdict) (s : List ℕ) (roomless : Bool) → Leaves v s roomless → (told v).number ≤ 63
unfolding Leaves told
number_small (refused n at) s roomless l = subst (λ (k : ℕ). k ≤ 63) (number_back n l) (why_small (why_of n))
number_small (clash pair) s roomless l = lit≤ tt
number_small (reacted b (answered outs c st r)) s roomless l = lit≤ tt
number_small (reacted b (not_constructive outs r)) s roomless l = lit≤ tt

pub instant_counted : (b s : List ℕ) (given : Given) (roomless : Bool) (end : ℕ) → Counted 11 (logged_values (told (verdict b s given roomless)) end)
instant_counted b s given roomless end = record { counted = refl; small = number_small (verdict b s given roomless) s roomless (leaves b s given roomless) }

-- An instant's values without the end.
pub without_end : {vs : List ℕ} {t : Told} → vs ≡ logged_values t 0 → take 10 vs ≡ told_values t
without_end e = ap (take 10) e

-- A reason.
named_counted : (o : Option ℕ) → Counted 5 (named_owed o)
unfolding named_owed
named_counted (some n) = record { counted = refl; small = lit≤ tt }
named_counted none = record { counted = refl; small = lit≤ tt }

past_counted : (b s : List ℕ) (given : Given) (said : Good → State → Option ℕ) → Counted 5 (past_tests (front b s given) said)
unfolding past_tests
past_counted b s given said =
    by_front b s given (λ (x : Front). Counted 5 (past_tests x said)) (λ n at e. record { counted = refl; small = let r = numbers b n at e in omega (arith, r.1) })
    (λ g e. record { counted = refl; small = lit≤ tt }) (λ g e. record { counted = refl; small = lit≤ tt }) (λ g e st h pair q. record { counted = refl; small = lit≤ tt })
    (λ g e. record { counted = refl; small = lit≤ tt }) (λ g e st h. named_counted (said g st))

pub why_counted : (b s : List ℕ) (p a : ℕ) (q : Option Asked) → Counted 5 (told_why b s p a q)
why_counted b s p a (some asked) = past_counted b s (Two p a) (λ g st. reason_of (block_of g) st (heard_of g (Two p a)) asked)
why_counted b s p a none = past_counted b s (Two p a) (λ g st. none)

-- The calls on a shelf.
pub install_counted : (s : List ℕ) (p n : ℕ) (b : List ℕ) → Counted 2 (install_owed s p n b)
unfolding shelved_owed
install_counted s p n b = record { counted = refl; small = install_small s p n b }

pub fetch_counted : (s : List ℕ) (p n : ℕ) → Counted 3 (fetch_owed s p n)
fetch_counted s p n = record { counted = refl; small = fetch_small s p n }

pub withdraw_counted : (s : List ℕ) (p n : ℕ) → Counted 2 (withdraw_owed s p n)
unfolding shelved_owed
withdraw_counted s p n = record { counted = refl; small = withdraw_small s p n }
