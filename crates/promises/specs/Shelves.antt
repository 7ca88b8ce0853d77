-- The calls on one shelf of two parties: the tests of an install, a fetch and a withdrawal, each on its own and in the request's words; histories of calls, each on
-- the bytes that the call before left; and what one party is told in them. Assumes nothing.
use Rattle.std.specs.Prelude.{◌≡◌, cond, List, [], ◌∷◌, ◌++◌, ℕ, ◌+◌, ◌≤◌, ◌<◌, T, length, Result}
use Rattle.shelf.specs.Entries.{QUOTA_SIZE, Entry, in_use, shelf_of, own, taken, Legal}
use Rattle.shelf.specs.Calls.{PARTY, SHELF, TAKEN, QUOTA, ABSENT, Call, install, fetch, withdraw, ShelfAnswer}
use Rattle.shelf.specs.Histories.{is_of, Said}
use Rattle.shelf.specs.Answered.{shelved_values}
use Rattle.refusals.specs.declared.Refused.{Refused}
use Rattle.promises.specs.Tests.{Test}
use Rattle.promises.specs.FirstRecord.{Decides}
use Rattle.promises.specs.Demand1.{block_tests, number_in, place_in}
use Rattle.promises.specs.Calls.{InstallCalled, FetchCalled, WithdrawCalled}

-- The bytes are these entries, which a shelf may hold, from the front, and then zeros.
pub record ShelfOf (s : List ℕ) (es : List Entry) : Type 0 where
  pub legal : Legal es
  pub bytes : s ≡ shelf_of es

-- 19 SHELF: no entries that a shelf may hold have these bytes.
abbrev pub NoShelf : List ℕ → Type 0
NoShelf s = (es : List Entry) → ShelfOf s es → ⊥

-- 20 TAKEN: the party has an entry of that name.
pub record NameTaken (s : List ℕ) (party name : ℕ) : Type 0 where
  pub there : List Entry
  pub is_shelf : ShelfOf s there
  pub has_name : T (taken name (own party there))

-- 21 QUOTA: with this block's entry the party would hold more than 32,768 bytes.
pub record OverQuota (s : List ℕ) (party : ℕ) (b : List ℕ) : Type 0 where
  pub there : List Entry
  pub is_shelf : ShelfOf s there
  pub over : QUOTA_SIZE < in_use (own party there) + (8 + length b)

-- 22 ABSENT: the party has no entry of that name.
pub record NameAbsent (s : List ℕ) (party name : ℕ) : Type 0 where
  pub there : List Entry
  pub is_shelf : ShelfOf s there
  pub no_name : T (taken name (own party there)) → ⊥

-- The tests in the written order: 18 PARTY above 1, 19; of an install then 1 to 8, 20, 21; of a fetch and of a withdrawal then 22.
abbrev pub party_test : ℕ → Test
party_test party = record { number = PARTY; Applies = 1 < party }

abbrev pub shelf_test : List ℕ → Test
shelf_test s = record { number = SHELF; Applies = NoShelf s }

abbrev pub taken_test : List ℕ → ℕ → ℕ → Test
taken_test s party name = record { number = TAKEN; Applies = NameTaken s party name }

abbrev pub quota_test : List ℕ → ℕ → List ℕ → Test
quota_test s party b = record { number = QUOTA; Applies = OverQuota s party b }

abbrev pub absent_test : List ℕ → ℕ → ℕ → Test
absent_test s party name = record { number = ABSENT; Applies = NameAbsent s party name }

abbrev pub install_tests : List ℕ → ℕ → ℕ → List ℕ → List Test
install_tests s party name b = party_test party ∷ shelf_test s ∷ (block_tests b ++ taken_test s party name ∷ quota_test s party b ∷ [])

abbrev pub fetch_tests : List ℕ → ℕ → ℕ → List Test
fetch_tests s party name = party_test party ∷ shelf_test s ∷ absent_test s party name ∷ []

abbrev pub withdraw_tests : List ℕ → ℕ → ℕ → List Test
withdraw_tests s party name = party_test party ∷ shelf_test s ∷ absent_test s party name ∷ []

-- Where a refused install's place is: of 1 to 8 the one at which the block is turned down, else 0.
pub record PlacedInBlock (b : List ℕ) (k p : ℕ) : Type 0 where
  pub of_block : 1 ≤ k → k ≤ 8 → Decides b k p
  pub else_0 : (1 ≤ k → k ≤ 8 → ⊥) → p ≡ 0

-- What an install or a withdrawal tells: it hands nothing back.
unfoldable pub answer_of : Result (Unit {0}) Refused → ShelfAnswer
answer_of r = record { number = number_in (shelved_values r); place = place_in (shelved_values r); part = [] }

-- A call on the shelf s was made with its arguments, told an answer and left a shelf. A name is a number of two bytes, as its parameter is.
pub data ShelfCalled (s : List ℕ) : Call → ShelfAnswer → List ℕ → Type 0 where
  installs : {party name : ℕ} {b : List ℕ} {r : Result (Unit {0}) Refused} {s' : List ℕ} → name < 65536 → InstallCalled s party name b r s'
      → ShelfCalled s (install party name b) (answer_of r) s'
  fetches : {party name k p : ℕ} {part : List ℕ} → name < 65536 → FetchCalled s party name part k p
      → ShelfCalled s (fetch party name) (record { number = k; place = p; part = part }) s
  withdraws : {party name : ℕ} {r : Result (Unit {0}) Refused} {s' : List ℕ} → name < 65536 → WithdrawCalled s party name r s'
      → ShelfCalled s (withdraw party name) (answer_of r) s'

-- Calls one after the other, each on the shelf that the call before left: from s, with their answers, to s'.
pub data ShelfCalls : List ℕ → List Call → List ShelfAnswer → List ℕ → Type 0 where
  no_call : {s : List ℕ} → ShelfCalls s [] [] s
  one_more : {s s₁ s' : List ℕ} {c : Call} {h : List Call} {a : ShelfAnswer} {rs : List ShelfAnswer} → ShelfCalled s c a s₁ → ShelfCalls s₁ h rs s' → ShelfCalls s (c ∷ h) (a ∷ rs) s'

-- What one party is told in a history: the answers to its own calls, in their order.
unfoldable pub told_party : ℕ → List Call → List ShelfAnswer → List ShelfAnswer
told_party p [] rs = []
told_party p (c ∷ h) [] = []
told_party p (c ∷ h) (a ∷ rs) = cond (is_of p c) (a ∷ told_party p h rs) (told_party p h rs)

-- What both parties together have heard: each call, with the number that it was told.
unfoldable pub heard : List Call → List ShelfAnswer → List Said
heard [] rs = []
heard (c ∷ h) [] = []
heard (c ∷ h) (a ∷ rs) = record { call = c; number = a.number } ∷ heard h rs
