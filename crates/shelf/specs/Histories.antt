-- Histories of calls on one shelf, and what one party is told in them. Assumes nothing.
use Rattle.std.specs.Prelude.{Bool, false, not, cond, ◌&&◌, ◌||◌, List, [], ◌∷◌, ◌++◌, ℕ, ◌<◌, eqb}
use Rattle.std.proofs.Math.Option.{Option, none, some}
use Rattle.shelf.specs.Entries.{Entry, in_use, shelf_of, those, is_named}
use Rattle.shelf.specs.Calls.{Call, install, fetch, withdraw, party_of, name_of, ShelfAnswer, entry, told, left}

-- A shelf begun empty.
abbrev pub empty_shelf : List ℕ
empty_shelf = shelf_of []

-- The shelf after a history of calls, the first call first.
unfoldable pub shelf_after : List ℕ → List Call → List ℕ
shelf_after s [] = s
shelf_after s (c ∷ h) = shelf_after (left s c) h

-- A party's own calls, with their arguments.
unfoldable pub is_of : ℕ → Call → Bool
is_of p c = eqb (party_of c) p

abbrev pub own_calls : ℕ → List Call → List Call
own_calls p h = those (is_of p) h

-- What a party is told in a history that begins at a shelf: the answers to its calls, in their order.
unfoldable pub told_to : ℕ → List ℕ → List Call → List ShelfAnswer
unfolding is_of
told_to p s [] = []
told_to p s (c ∷ h) = cond (is_of p c) (told s c ∷ told_to p (left s c) h) (told_to p (left s c) h)

-- A name is a two-byte number.
unfoldable pub Named : List Call → Type 0
Named [] = Unit {0}
Named (c ∷ h) = (name_of c < 65536) × Named h

-- What is said in a history: each call, with the number that it was told.
pub record Said : Type 0 where
  pub call : Call
  pub number : ℕ

unfoldable pub said : List ℕ → List Call → List Said
said s [] = []
said s (c ∷ h) = record { call = c; number = (told s c).number } ∷ said (left s c) h

-- An entry is withdrawn: a call that was told 0 withdraws its party's name.
unfoldable pub takes_out : Entry → Call → Bool
takes_out e (install p n b) = false
takes_out e (fetch p n) = false
takes_out e (withdraw p n) = is_named p n e

unfoldable pub is_withdrawn : Entry → List Said → Bool
is_withdrawn e [] = false
is_withdrawn e (x ∷ xs) = takes_out e x.call && eqb x.number 0 || is_withdrawn e xs

-- The entries installed and not withdrawn, in the order of their installs.
unfoldable pub installed_entry : Call → List Entry
installed_entry (install p n b) = entry p n b ∷ []
installed_entry (fetch p n) = []
installed_entry (withdraw p n) = []

unfoldable pub kept : List Said → List Entry
unfolding installed_entry is_withdrawn takes_out
kept [] = []
kept (x ∷ xs) = those (λ e. not (is_withdrawn e xs)) (cond (eqb x.number 0) (installed_entry x.call) []) ++ kept xs

-- The bytes in use on a shelf, by its entries.
unfoldable pub used : Option (List Entry) → ℕ
used none = 0
used (some es) = in_use es
