-- What a call is told on a shelf of legal entries, and the shelf that it leaves: it is told by the party's own entries alone, and what is
-- left is again a shelf of legal entries. By cases of the call and of its tests. Assumes nothing.
use mathlib.Core.Path.{◌≡◌, refl, sym, ap, ◌∙◌}
use mathlib.Core.Bool.{Bool, true, false, not, cond}
use mathlib.Core.List.{List, [], ◌∷◌, ◌++◌}
use mathlib.Core.Option.{Option, none, some}
use Prim.Native.Nat.{ℕ, ◌+◌, ◌≤◌, ◌<◌}
use native.Mathlib.Omega.{arith}
use lib.Dec.{T, eqb, ltb}
use borrow.Author.Tests.{eqb-true, ltb-true, ltb-false, le-ltb}
use Rattle.block.specs.Format.{Reading, good, turned_down, reading}
use Rattle.block.proofs.GoodReadings.{numbers}
use Rattle.records.specs.Numerals.{Bytes}
use Rattle.shelf.specs.Entries.{QUOTA_SIZE, Entry, size, in_use, shelf_of, own, is_named, taken, find, is_good, Legal, entries}
use Rattle.shelf.specs.Calls.{PARTY, SHELF, QUOTA, Call, install, fetch, withdraw, party_of, name_of, ShelfAnswer, refused}
use Rattle.shelf.specs.Calls.{done, entry, installed, fetched, withdrawn, told_by, told_on, told, taken_out, after, put, left}
use Rattle.shelf.proofs.Legality.{Fitting, was_good, has_room, legal_more, legal_those}
use Rattle.shelf.proofs.ReadBack.{read_back}
use Rattle.shelf.proofs.OnlyShelf.{some_shelf}

-- PARTY, and then what one's own entries tell.
unfoldable pub told_alone : List Entry → Call → ShelfAnswer
told_alone mine c = cond (ltb 1 (party_of c)) (refused PARTY 0) (told_by mine c)

unfoldable pub next : List Entry → List Entry → Call → List Entry
next mine es c = cond (eqb (told_alone mine c).number 0) (after es c) es

-- The entries after a call, on all entries.
abbrev pub next_on : List Entry → Call → List Entry
next_on es c = next (own (party_of c) es) es c

pub told_shelf : (es : List Entry) → Legal es → (c : Call) → told (shelf_of es) c ≡ told_alone (own (party_of c) es) c
unfolding told told_on told_alone
told_shelf es l c = ap (λ (o : Option (List Entry)). cond (ltb 1 (party_of c)) (refused PARTY 0) (told_on o c)) (read_back es l)

put_shelf : (es : List Entry) (c : Call) → put (some es) (shelf_of es) c ≡ shelf_of (after es c)
unfolding put after
put_shelf es (install p n b) = refl
put_shelf es (fetch p n) = refl
put_shelf es (withdraw p n) = refl

pub left_shelf : (es : List Entry) → Legal es → (c : Call) → left (shelf_of es) c ≡ shelf_of (next_on es c)
unfolding left next
left_shelf es l c =
    ap (λ (a : ShelfAnswer). cond (eqb a.number 0) (put (entries (shelf_of es)) (shelf_of es) c) (shelf_of es)) (told_shelf es l c)
    ∙ ap (λ (s : List ℕ). cond (eqb (told_alone (own (party_of c) es) c).number 0) s (shelf_of es)) (ap (λ (o : Option (List Entry)). put o (shelf_of es) c) (read_back es l) ∙ put_shelf es c)
    ∙ go (eqb (told_alone (own (party_of c) es) c).number 0)
  where
    go : (z : Bool) → cond z (shelf_of (after es c)) (shelf_of es) ≡ shelf_of (cond z (after es c) es)
    go true = refl
    go false = refl

-- An install that is told 0.
pub record Accepted (mine : List Entry) (p n : ℕ) (b : List ℕ) : Type 0 where
  pub its_party : p ≤ 1
  pub its_block : T (is_good (reading b))
  pub not_taken : taken n mine ≡ false
  pub quota_kept : in_use mine + size (entry p n b) ≤ 32768

block_accepted : (r : Reading) (b : List ℕ) → reading b ≡ r → (mine : List Entry) (n more : ℕ) → (installed r mine n more).number ≡ 0
    → T (is_good r) × (taken n mine ≡ false) × (in_use mine + more ≤ 32768)
unfolding installed is_good
block_accepted (turned_down k at) b q mine n more e = absurd (omega (arith, (numbers b k at q).0))
block_accepted (good g) b q mine n more e = go (taken n mine) (ltb QUOTA_SIZE (in_use mine + more)) refl refl e
  where
    go : (x y : Bool) → taken n mine ≡ x → ltb QUOTA_SIZE (in_use mine + more) ≡ y
        → (cond x (refused 20 0) (cond y (refused 21 0) done)).number ≡ 0 → T (is_good (good g)) × (taken n mine ≡ false) × (in_use mine + more ≤ 32768)
    go true y a b e = absurd (omega arith)
    go false true a b e = absurd (omega arith)
    go false false a b e = (tt, a, ltb-false QUOTA_SIZE (in_use mine + more) b)

pub accepted : (mine : List Entry) (p n : ℕ) (b : List ℕ) → (told_alone mine (install p n b)).number ≡ 0 → Accepted mine p n b
unfolding told_alone told_by
accepted mine p n b e = go (ltb 1 p) refl e
  where
    go : (z : Bool) → ltb 1 p ≡ z → (cond z (refused PARTY 0) (installed (reading b) mine n (size (entry p n b)))).number ≡ 0 → Accepted mine p n b
    go true q e = absurd (omega arith)
    go false q e =
        let w = block_accepted (reading b) b refl mine n (size (entry p n b)) e in
        record { its_party = ltb-false 1 p q; its_block = w.0; not_taken = w.1; quota_kept = w.2 }

pub accepted_fits : (es : List Entry) (p n : ℕ) (b : List ℕ) → n < 65536 → Accepted (own p es) p n b → Fitting es (entry p n b)
accepted_fits es p n b l a = record { its_party = a.its_party; its_name = l; not_taken = a.not_taken; quota_kept = a.quota_kept; its_block = a.its_block }

pub next_legal : (es : List Entry) (c : Call) → Legal es → name_of c < 65536 → Legal (next_on es c)
unfolding next after
next_legal es (install p n b) l h = go (eqb (told_alone (own p es) (install p n b)).number 0) refl
  where
    go : (z : Bool) → eqb (told_alone (own p es) (install p n b)).number 0 ≡ z → Legal (cond z (es ++ (entry p n b ∷ [])) es)
    go true q = legal_more es (entry p n b) l (accepted_fits es p n b h (accepted (own p es) p n b (eqb-true (told_alone (own p es) (install p n b)).number 0 q)))
    go false q = l
next_legal es (fetch p n) l h = go (eqb (told_alone (own p es) (fetch p n)).number 0)
  where
    go : (z : Bool) → Legal (cond z es es)
    go true = l
    go false = l
next_legal es (withdraw p n) l h = go (eqb (told_alone (own p es) (withdraw p n)).number 0)
  where
    go : (z : Bool) → Legal (cond z (taken_out p n es) es)
    go true = legal_those (λ e. not (is_named p n e)) es l
    go false = l

-- Two quotas are the whole shelf: a good block under a free name goes in wherever the party's own quota is kept, and has room.
pub no_other_lack : (es : List Entry) (p n : ℕ) (b : List ℕ) → Legal es → n < 65536 → Accepted (own p es) p n b
    → (told (shelf_of es) (install p n b) ≡ done) × (in_use es + size (entry p n b) ≤ 65536)
unfolding told_alone told_by installed
no_other_lack es p n b l h a =
    let w = was_good (reading b) a.its_block in
    let i : installed (good w.0) (own p es) n (size (entry p n b)) ≡ done = simp (a.not_taken, le-ltb QUOTA_SIZE (in_use (own p es) + size (entry p n b)) a.quota_kept) in
    let t : told_alone (own p es) (install p n b) ≡ installed (reading b) (own p es) n (size (entry p n b)) = simp (le-ltb 1 p a.its_party) in
    (told_shelf es l (install p n b) ∙ t ∙ ap (λ (r : Reading). installed r (own p es) n (size (entry p n b))) w.1 ∙ i, has_room es (entry p n b) l (accepted_fits es p n b h a))

-- And QUOTA is told only where it would not be kept.
over_quota : (r : Reading) (b : List ℕ) → reading b ≡ r → (mine : List Entry) (n more : ℕ) → (installed r mine n more).number ≡ QUOTA → 32768 < in_use mine + more
unfolding installed
over_quota (turned_down k at) b q mine n more e = absurd (omega (arith, (numbers b k at q).1))
over_quota (good g) b q mine n more e = go (taken n mine) (ltb QUOTA_SIZE (in_use mine + more)) refl e
  where
    go : (x y : Bool) → ltb QUOTA_SIZE (in_use mine + more) ≡ y → (cond x (refused 20 0) (cond y (refused 21 0) done)).number ≡ QUOTA → 32768 < in_use mine + more
    go true y l e = absurd (omega arith)
    go false true l e = ltb-true QUOTA_SIZE (in_use mine + more) l
    go false false l e = absurd (omega arith)

pub quota_told : (mine : List Entry) (p n : ℕ) (b : List ℕ) → (told_alone mine (install p n b)).number ≡ QUOTA → 32768 < in_use mine + size (entry p n b)
unfolding told_alone told_by
quota_told mine p n b e = go (ltb 1 p) e
  where
    go : (z : Bool) → (cond z (refused PARTY 0) (installed (reading b) mine n (size (entry p n b)))).number ≡ QUOTA → 32768 < in_use mine + size (entry p n b)
    go true e = absurd (omega arith)
    go false e = over_quota (reading b) b refl mine n (size (entry p n b)) e

-- SHELF is told for the shelf's bytes alone: no test of one's own entries gives it.
not_shelf : (r : Reading) (b : List ℕ) → reading b ≡ r → (mine : List Entry) (n more : ℕ) → (installed r mine n more).number ≡ SHELF → ⊥
unfolding installed
not_shelf (turned_down k at) b q mine n more e = omega (arith, (numbers b k at q).1)
not_shelf (good g) b q mine n more e = go (taken n mine) (ltb QUOTA_SIZE (in_use mine + more)) e
  where
    go : (x y : Bool) → (cond x (refused 20 0) (cond y (refused 21 0) done)).number ≡ SHELF → ⊥
    go true y e = omega arith
    go false true e = omega arith
    go false false e = omega arith

found_not_shelf : (o : Option Entry) → (fetched o).number ≡ SHELF → ⊥
unfolding fetched
found_not_shelf none e = omega arith
found_not_shelf (some x) e = omega arith

withdrawn_not_shelf : (o : Option Entry) → (withdrawn o).number ≡ SHELF → ⊥
unfolding withdrawn
withdrawn_not_shelf none e = omega arith
withdrawn_not_shelf (some x) e = omega arith

by_not_shelf : (mine : List Entry) (c : Call) → (told_by mine c).number ≡ SHELF → ⊥
unfolding told_by
by_not_shelf mine (install p n b) e = not_shelf (reading b) b refl mine n (size (entry p n b)) e
by_not_shelf mine (fetch p n) e = found_not_shelf (find n mine) e
by_not_shelf mine (withdraw p n) e = withdrawn_not_shelf (find n mine) e

pub alone_not_shelf : (mine : List Entry) (c : Call) → (told_alone mine c).number ≡ SHELF → ⊥
unfolding told_alone
alone_not_shelf mine c e = go (ltb 1 (party_of c)) e
  where
    go : (z : Bool) → (cond z (refused PARTY 0) (told_by mine c)).number ≡ SHELF → ⊥
    go true e = omega arith
    go false e = by_not_shelf mine c e

-- A party's call is told SHELF exactly where the bytes are no shelf's.
module _ (s : List ℕ) (bytes : Bytes s) (c : Call) (party : party_of c ≤ 1) where
  told_is : told s c ≡ told_on (entries s) c
  unfolding told
  told_is = simp (le-ltb 1 (party_of c) party)

  pub shelf_refused : ((es : List Entry) → Legal es → s ≡ shelf_of es → ⊥) → told s c ≡ refused SHELF 0
  unfolding told_on
  shelf_refused f = told_is ∙ ap (λ (o : Option (List Entry)). told_on o c) (some_shelf s bytes f)

  pub refused_shelf : (told s c).number ≡ SHELF → (es : List Entry) → Legal es → s ≡ shelf_of es → ⊥
  refused_shelf e es l q = alone_not_shelf (own (party_of c) es) c (sym (ap (λ (a : ShelfAnswer). a.number) (ap (λ (x : List ℕ). told x c) q ∙ told_shelf es l c)) ∙ e)
