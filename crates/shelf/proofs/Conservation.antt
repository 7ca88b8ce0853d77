-- After every history the shelf is that of the entries installed and not withdrawn: what a call does to the entries is what it adds to them and
-- what it takes out, and a later withdrawal takes out of both alike. By induction on the history. Assumes nothing.
use mathlib.Core.Path.{◌≡◌, refl, sym, ap, ◌∙◌, subst}
use mathlib.Core.Bool.{Bool, true, false, not, cond, ◌&&◌, ◌||◌}
use mathlib.Core.List.{List, [], ◌∷◌, ◌++◌, append-nil, append_assoc}
use mathlib.Core.Option.{some}
use Prim.Native.Nat.{ℕ}
use lib.Dec.{eqb}
use Rattle.shelf.specs.Entries.{Entry, in_use, shelf_of, those, is_named, Legal, entries}
use Rattle.shelf.specs.Calls.{Call, install, fetch, withdraw, ShelfAnswer, entry, told, after, left}
use Rattle.shelf.specs.Histories.{empty_shelf, shelf_after, Named, Said, said, takes_out, is_withdrawn, installed_entry, kept, used}
use Rattle.shelf.proofs.Lists.{those_append, those_both, those_same}
use Rattle.shelf.proofs.Legality.{none_legal}
use Rattle.shelf.proofs.ReadBack.{read_back}
use Rattle.shelf.proofs.Answers.{next, next_on, told_shelf, left_shelf, next_legal}

-- The entries that are not withdrawn in what is said afterwards.
abbrev remaining : List Said → List Entry → List Entry
remaining xs es = those (λ e. not (is_withdrawn e xs)) es

all_stay : (es : List Entry) → es ≡ remaining [] es
unfolding those is_withdrawn
all_stay [] = refl
all_stay (e ∷ es) = ap (λ (l : List Entry). e ∷ l) (all_stay es)

not_told : (t w : Bool) → not w ≡ not (t && false || w)
not_told true w = refl
not_told false w = refl

both_ways : (t w : Bool) → (not t && not w) ≡ not (t && true || w)
both_ways true w = refl
both_ways false w = refl

-- One call, told a number, before all that is said afterwards.
one_call : (es : List Entry) (c : Call) (k : ℕ) (xs : List Said)
    → remaining xs (cond (eqb k 0) (after es c) es) ≡ remaining (record { call = c; number = k } ∷ xs) es ++ remaining xs (cond (eqb k 0) (installed_entry c) [])
unfolding is_withdrawn after installed_entry takes_out those
one_call es c k xs = go c (eqb k 0)
  where
    go : (c : Call) (z : Bool)
        → remaining xs (cond z (after es c) es) ≡ those (λ e. not (takes_out e c && z || is_withdrawn e xs)) es ++ remaining xs (cond z (installed_entry c) [])
    go c false =
        those_same (λ e. not (is_withdrawn e xs)) (λ e. not (takes_out e c && false || is_withdrawn e xs)) es (λ e. not_told (takes_out e c) (is_withdrawn e xs))
        ∙ sym (append-nil (those (λ e. not (takes_out e c && false || is_withdrawn e xs)) es))
    go (install p n b) true = those_append (λ e. not (is_withdrawn e xs)) es (entry p n b ∷ [])
    go (fetch p n) true = sym (append-nil (remaining xs es))
    go (withdraw p n) true =
        those_both (λ e. not (is_named p n e)) (λ e. not (is_withdrawn e xs)) es
        ∙ those_same (λ e. not (is_named p n e) && not (is_withdrawn e xs)) (λ e. not (is_named p n e && true || is_withdrawn e xs)) es (λ e. both_ways (is_named p n e) (is_withdrawn e xs))
        ∙ sym (append-nil (those (λ e. not (is_named p n e && true || is_withdrawn e xs)) es))

-- The entries after a history.
unfoldable entries_after : List Entry → List Call → List Entry
entries_after es [] = es
entries_after es (c ∷ h) = entries_after (next_on es c) h

shelf_is : (es : List Entry) (h : List Call) → Legal es → Named h → (shelf_after (shelf_of es) h ≡ shelf_of (entries_after es h)) × Legal (entries_after es h)
unfolding shelf_after entries_after Named
shelf_is es [] l n = (refl, l)
shelf_is es (c ∷ h) l n =
    let w = shelf_is (next_on es c) h (next_legal es c l n.0) n.1 in
    (ap (λ (s : List ℕ). shelf_after s h) (left_shelf es l c) ∙ w.0, w.1)

are_kept : (es : List Entry) (h : List Call) → Legal es → Named h → entries_after es h ≡ remaining (said (shelf_of es) h) es ++ kept (said (shelf_of es) h)
unfolding entries_after said kept Named next
are_kept es [] l n = all_stay es ∙ sym (append-nil (remaining [] es))
are_kept es (c ∷ h) l n =
    let xs = said (left (shelf_of es) c) h in
    let k = (told (shelf_of es) c).number in
    let q : next_on es c ≡ cond (eqb k 0) (after es c) es = told_next in
    are_kept (next_on es c) h (next_legal es c l n.0) n.1
    ∙ ap (λ (s : List ℕ). remaining (said s h) (next_on es c) ++ kept (said s h)) (sym (left_shelf es l c))
    ∙ ap (λ (es' : List Entry). remaining xs es' ++ kept xs) q
    ∙ ap (λ (r : List Entry). r ++ kept xs) (one_call es c k xs)
    ∙ append_assoc (remaining (record { call = c; number = k } ∷ xs) es) (remaining xs (cond (eqb k 0) (installed_entry c) [])) (kept xs)
  where
    told_next : next_on es c ≡ cond (eqb (told (shelf_of es) c).number 0) (after es c) es
    told_next = ap (λ (a : ShelfAnswer). cond (eqb a.number 0) (after es c) es) (sym (told_shelf es l c))

-- From the empty shelf.
pub record Conserved (h : List Call) : Type 0 where
  pub bytes : shelf_after empty_shelf h ≡ shelf_of (kept (said empty_shelf h))
  pub legal : Legal (kept (said empty_shelf h))
  pub read : entries (shelf_after empty_shelf h) ≡ some (kept (said empty_shelf h))

pub conservation : (h : List Call) → Named h → Conserved h
unfolding those
conservation h n =
    let w = shelf_is [] h none_legal n in
    let q : entries_after [] h ≡ kept (said empty_shelf h) = are_kept [] h none_legal n in
    let b : shelf_after empty_shelf h ≡ shelf_of (kept (said empty_shelf h)) = w.0 ∙ ap (λ (es : List Entry). shelf_of es) q in
    let l : Legal (kept (said empty_shelf h)) = subst Legal q w.1 in
    record { bytes = b; legal = l; read = ap entries b ∙ read_back (kept (said empty_shelf h)) l }

-- The bytes in use equal the sum of the entries installed and not withdrawn.
pub bytes_in_use : (h : List Call) → Named h → used (entries (shelf_after empty_shelf h)) ≡ in_use (kept (said empty_shelf h))
unfolding used
bytes_in_use h n = ap used (conservation h n).read
