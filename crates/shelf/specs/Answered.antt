-- What the calls on a shelf answer, and where a fetched block lies. Assumes nothing.
use Rattle.std.specs.Prelude.{◌≡◌, cond, List, [], ◌∷◌, ℕ, ◌+◌, ◌≤◌, ◌<◌, eqb, Some, Result, Ok, Err, IfOk, IfErr}
use Rattle.std.specs.Borrow.{Bor}
use Rattle.std.proofs.Math.Option.{Option, none, some}
use Rattle.refusals.specs.Refusals.{number}
use Rattle.refusals.specs.declared.Refused.{Refused}
use Rattle.records.specs.Numerals.{field}
use Rattle.shelf.specs.Entries.{Entry, in_use, entries}
use Rattle.shelf.specs.Calls.{Call, party_of, ShelfAnswer, refused, fetch, withdraw, told}
use Rattle.shelf.specs.Places.{offset, OnShelf, Walks}
use Rattle.shelf.specs.declared.Own.{Own}

-- The answer of a call that hands nothing back: number and place.
unfoldable pub shelved_values : Result (Unit {0}) Refused → List ℕ
shelved_values (Ok done) = 0 ∷ 0 ∷ []
shelved_values (Err r) = number r.why ∷ r.place ∷ []

unfoldable pub shelved_owed : ShelfAnswer → List ℕ
shelved_owed a = a.number ∷ a.place ∷ []

-- What a party is told by a fetch: the bytes of the part that is handed back, or a refusal, with none.
unfoldable pub fetched_as : Result (Bor (List ℕ)) Refused → ShelfAnswer
fetched_as (Ok part) = record { number = 0; place = 0; part = part.now }
fetched_as (Err r) = refused (number r.why) r.place

-- A call is told a refusal.
pub record TurnedDown (s : List ℕ) (c : Call) (r : Refused) : Type 0 where
  pub told_so : told s c ≡ refused (number r.why) r.place

-- Where the entries end on a shelf that a party calls on; or the refusal that each of its calls is told there.
pub record Entered (s : List ℕ) (p : ℕ) (r : Result ℕ Refused) : Type 0 where
  pub its_shelf : IfOk r (λ end. (p ≤ 1) × Walks s (Some end))
  pub turned_down : IfErr r (λ e. (c : Call) → party_of c ≡ p → TurnedDown s c e)

-- What is found of a party's entry: which of the entries before the end it is, and the size that its bytes give. It is not told outside.
pub record OwnEntry (s : List ℕ) (p n : ℕ) (own : Own) : Type 0 where
  pub its_party : p ≤ 1
  pub all : List Entry
  pub on_shelf : OnShelf s own.end all
  pub stands : own.at ≡ offset p n all
  pub is_there : own.at < in_use all
  pub its_size : own.size ≡ field s own.at 2

-- What a look for a party's entry says: that, or the refusal that a fetch and a withdrawal of that name are told.
pub record Finds (s : List ℕ) (p n : ℕ) (r : Result Own Refused) : Type 0 where
  pub found : IfOk r (OwnEntry s p n)
  pub no_fetch : IfErr r (TurnedDown s (fetch p n))
  pub no_withdrawal : IfErr r (TurnedDown s (withdraw p n))

-- Where the party's entry of that name begins, on a shelf.
unfoldable pub begins : Option (List Entry) → ℕ → ℕ → ℕ
begins none p n = 0
begins (some es) p n = offset p n es

-- Where the block lies that is handed back: behind the four numbers of its entry. A refused part is empty, at the shelf's first byte.
unfoldable pub lies_from : List ℕ → ℕ → ℕ → ℕ
lies_from s p n = cond (eqb (told s (fetch p n)).number 0) (begins (entries s) p n + 8) 0
