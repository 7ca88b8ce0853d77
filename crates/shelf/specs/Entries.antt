-- The shelf's bytes: entries of good blocks laid out from the front, then zeros; and the reading of such bytes. Assumes nothing.
use Rattle.std.specs.Prelude.{Bool, true, false, not, cond, ◌&&◌, ◌||◌, List, [], ◌∷◌, ◌++◌, ℕ, zero, suc, ◌+◌, ◌-◌, T, eqb, ltb, leb, length, take, drop, replicate}
use Rattle.std.proofs.Math.Option.{Option, none, some}
use Rattle.block.specs.Format.{Reading, good, turned_down, reading}
use Rattle.records.specs.Numerals.{in_bytes, field}

-- How many bytes a shelf has, and how many of them one party may hold.
abbrev pub SHELF_SIZE : ℕ
SHELF_SIZE = 65536

abbrev pub QUOTA_SIZE : ℕ
QUOTA_SIZE = 32768

-- An entry: whose it is, its name, and the block's bytes.
pub record Entry : Type 0 where
  pub party : ℕ
  pub name : ℕ
  pub block : List ℕ

-- The length, kind, party and name take two bytes each; the block follows.
abbrev pub size : Entry → ℕ
size e = 8 + length e.block

unfoldable pub entry_bytes : Entry → List ℕ
unfolding in_bytes
entry_bytes e = in_bytes 2 (size e) ++ (in_bytes 2 5 ++ (in_bytes 2 e.party ++ (in_bytes 2 e.name ++ e.block)))

-- Entries one after the other, and the bytes that they use.
unfoldable pub laid_out : List Entry → List ℕ
laid_out [] = []
laid_out (e ∷ es) = entry_bytes e ++ laid_out es

unfoldable pub in_use : List Entry → ℕ
in_use [] = 0
in_use (e ∷ es) = size e + in_use es

-- The whole shelf of some entries: they are laid out from the front, then zeros.
unfoldable pub shelf_of : List Entry → List ℕ
shelf_of es = laid_out es ++ replicate (SHELF_SIZE - in_use es) 0

-- Those members of a list for which a test holds, in their order.
unfoldable pub those : {A : Type 0} → (A → Bool) → List A → List A
those f [] = []
those f (x ∷ xs) = cond (f x) (x ∷ those f xs) (those f xs)

-- A party's own entries.
abbrev pub own : ℕ → List Entry → List Entry
own p es = those (λ e. eqb e.party p) es

-- It is the party's entry of that name.
abbrev pub is_named : ℕ → ℕ → Entry → Bool
is_named p n e = eqb e.party p && eqb e.name n

-- One's own entries have a name; the entry of that name.
unfoldable pub taken : ℕ → List Entry → Bool
taken n [] = false
taken n (e ∷ es) = eqb e.name n || taken n es

unfoldable pub find : ℕ → List Entry → Option Entry
find n [] = none
find n (e ∷ es) = cond (eqb e.name n) (some e) (find n es)

-- A good block: none of the numbers 1 to 8 is given for it.
unfoldable pub is_good : Reading → Bool
is_good (good g) = true
is_good (turned_down n at) = false

-- An entry may stand after those before it: its party is 0 or 1, its name a two-byte number, its party's name not there yet, its
-- party's quota kept, and its block good.
unfoldable pub fits : List Entry → Entry → Bool
fits before e =
    leb e.party 1 && (ltb e.name 65536
    && (not (taken e.name (own e.party before))
    && (leb (in_use (own e.party before) + size e) QUOTA_SIZE
    && is_good (reading e.block))))

-- Each of the entries may stand after those before it.
unfoldable pub all_fit : List Entry → List Entry → Bool
all_fit before [] = true
all_fit before (e ∷ es) = fits before e && all_fit (before ++ (e ∷ [])) es

-- Entries that a shelf may hold.
pub record Legal (es : List Entry) : Type 0 where
  pub each_fits : T (all_fit [] es)

-- Nothing but zeros.
unfoldable pub zeros : List ℕ → Bool
zeros [] = true
zeros (b ∷ bs) = eqb b 0 && zeros bs

-- The entry at the front of some bytes: they have the length that it gives, which is enough for its four numbers, and its kind is 5.
unfoldable pub entry_there : List ℕ → Bool
entry_there bs = leb 8 (field bs 0 2) && (leb (field bs 0 2) (length bs) && eqb (field bs 2 2) 5)

unfoldable pub first_entry : List ℕ → Entry
first_entry bs = record { party = field bs 4 2; name = field bs 6 2; block = take (field bs 0 2 - 8) (drop 8 bs) }

-- From the front: zeros alone, and the entries so far are all; or one more entry that may stand there, and so on. Every entry takes
-- bytes, so there are never more entries than bytes.
unfoldable pub walk : ℕ → List Entry → List ℕ → Option (List Entry)
walk zero before bs = none
walk (suc n) before bs =
    cond (zeros bs) (some before)
    (cond (entry_there bs && fits before (first_entry bs)) (walk n (before ++ (first_entry bs ∷ [])) (drop (field bs 0 2) bs)) none)

-- The entries on a shelf, or none where the bytes are no shelf's.
unfoldable pub entries : List ℕ → Option (List Entry)
entries s = cond (eqb (length s) SHELF_SIZE) (walk (suc (length s)) [] s) none
