-- Sets of numbers: signals (64), completion codes (18) and pauses (128) are all written with these. Assumes nothing.
use Rattle.std.specs.Prelude.{Bool, false, not, cond, ◌&&◌, ◌||◌, List, [], ◌∷◌, ◌++◌, ℕ, zero, suc, ◌+◌, ◌<◌, T, eqb}
use Rattle.std.proofs.Math.Option.{Option, none, some}

-- A set of numbers says of each number whether it is a member.
abbrev pub Numbers : Type 0
Numbers = ℕ → Bool

abbrev pub empty : Numbers
empty n = false

abbrev pub single : ℕ → Numbers
single k n = eqb n k

abbrev pub union : Numbers → Numbers → Numbers
union a b n = a n || b n

-- All members but k.
abbrev pub without : ℕ → Numbers → Numbers
without k a n = a n && not (eqb n k)

-- The set where b holds, and nothing where it does not.
abbrev pub only_if : Bool → Numbers → Numbers
only_if b a n = b && a n

-- Inclusion: every member of the first is one of the second.
pub record Within (a b : Numbers) : Type 0 where
  pub at : (n : ℕ) → T (a n) → T (b n)

-- Some member is at or below k.
unfoldable pub some_to : Numbers → ℕ → Bool
some_to a zero = a zero
some_to a (suc k) = some_to a k || a (suc k)

-- The larger of two members, one of each set, for every such pair; a set without members gives none.
unfoldable pub maxima : Numbers → Numbers → Numbers
unfolding some_to
maxima a b n = a n && some_to b n || b n && some_to a n

-- k is the least member.
pub record Least (a : Numbers) (k : ℕ) : Type 0 where
  pub member : T (a k)
  pub none_below : (m : ℕ) → m < k → T (a m) → ⊥

-- What a trap does to a completion code: 0 and 2 become 0, 1 stays 1, k above 2 becomes k - 1.
unfoldable pub down : ℕ → ℕ
down zero = 0
down (suc zero) = 1
down (suc (suc zero)) = 0
down (suc (suc (suc k))) = suc (suc k)

-- The codes that down makes of a set's members.
unfoldable pub downs : Numbers → Numbers
downs a zero = a 0 || a 2
downs a (suc zero) = a 1
downs a (suc (suc n)) = a (suc (suc (suc n)))

-- How many numbers below the width are members.
unfoldable pub count : ℕ → Numbers → ℕ
count zero a = 0
count (suc n) a = cond (a n) 1 0 + count n a

-- The lowest member below the width.
unfoldable pub lowest : ℕ → Numbers → Option ℕ
lowest zero a = none
lowest (suc n) a = elim (lowest n a) [ none ↦ cond (a n) (some n) none | some k ↦ some k ]

-- The members below the width, in rising order, and the set of a list.
unfoldable pub members : ℕ → Numbers → List ℕ
members zero a = []
members (suc n) a = members n a ++ cond (a n) (n ∷ []) []

unfoldable pub listed : List ℕ → Numbers
listed [] n = false
listed (k ∷ ks) n = eqb n k || listed ks n
