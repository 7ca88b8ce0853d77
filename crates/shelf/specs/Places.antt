-- Where entries lie on a shelf, for the functions that look at its bytes. Assumes nothing.
use Rattle.std.specs.Prelude.{◌≡◌, true, cond, List, [], ◌∷◌, ◌++◌, ℕ, ◌+◌, ◌-◌, ◌≤◌, ◌<◌, length, take, drop, replicate, Option, IfSome, IfNone}
use Rattle.std.proofs.Math.Option.{none, some}
use Rattle.shelf.specs.Entries.{SHELF_SIZE, Entry, size, laid_out, in_use, is_named, Legal, zeros, entries}

-- The bytes before a place are these entries, which a shelf may hold.
pub record LaidOut (s : List ℕ) (end : ℕ) (es : List Entry) : Type 0 where
  pub legal : Legal es
  pub within : end ≤ length s
  pub bytes : take end s ≡ laid_out es

-- Where the party's entry of that name begins; where there is none, the end of all.
unfoldable pub offset : ℕ → ℕ → List Entry → ℕ
offset p n [] = 0
offset p n (e ∷ es) = cond (is_named p n e) 0 (size e + offset p n es)

-- What a search for a party's name says: where its entry begins, or that it has none.
pub record StandsAt (p n : ℕ) (es : List Entry) (r : Option ℕ) : Type 0 where
  pub there : IfSome r (λ at. (at ≡ offset p n es) × (at < in_use es))
  pub nowhere : IfNone r (in_use es ≤ offset p n es)

-- The whole shelf holds these entries, and behind the end there are zeros.
pub record OnShelf (s : List ℕ) (end : ℕ) (es : List Entry) : Type 0 where
  pub laid : LaidOut s end es
  pub all_bytes : length s ≡ SHELF_SIZE
  pub behind : zeros (drop end s) ≡ true
  pub read : entries s ≡ some es

-- What a walk over a shelf says: where its entries end, or that it is none.
pub record Walks (s : List ℕ) (r : Option ℕ) : Type 0 where
  pub its_entries : IfSome r (λ end. (es : List Entry) × OnShelf s end es)
  pub no_shelf : IfNone r (entries s ≡ none)

-- A gap closed: what lay behind it, up to the end, lies where it began, and zeros behind that. What lies behind the end stays.
unfoldable pub closed : List ℕ → ℕ → ℕ → ℕ → List ℕ
closed s at gap end = take at s ++ (take (end - (at + gap)) (drop (at + gap) s) ++ (replicate gap 0 ++ drop end s))
