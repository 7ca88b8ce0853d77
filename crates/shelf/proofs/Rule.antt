-- The rule of two parties on one shelf: what one of them is told depends only on its own calls. A call is told by the party's own entries
-- alone; its own calls change these as if it were alone, and the other's leave them. By induction on the history. Assumes nothing.
use mathlib.Core.Path.{◌≡◌, refl, sym, ap, ap₂, ◌∙◌}
use mathlib.Core.Bool.{Bool, true, false, not, cond, ◌&&◌}
use mathlib.Core.List.{List, [], ◌∷◌, ◌++◌, append-nil}
use Prim.Native.Nat.{ℕ}
use lib.Dec.{eqb}
use borrow.Author.Tests.{eqb-true, eqb-false}
use Rattle.shelf.specs.Entries.{Entry, shelf_of, those, own, is_named, Legal}
use Rattle.shelf.specs.Calls.{SHELF, Call, install, fetch, withdraw, party_of, ShelfAnswer, entry, told, after, left}
use Rattle.shelf.specs.Histories.{empty_shelf, shelf_after, is_of, own_calls, told_to, Named}
use Rattle.shelf.proofs.Lists.{those_append, those_both, those_same, those_turn}
use Rattle.shelf.proofs.Legality.{none_legal, own_mine, own_other}
use Rattle.shelf.proofs.Answers.{told_alone, next, next_on, told_shelf, left_shelf, next_legal, alone_not_shelf}

-- One's own entries after a call of one's own, and after a call of the other's.
own_after : (p : ℕ) (es : List Entry) (c : Call) → party_of c ≡ p → own p (after es c) ≡ after (own p es) c
unfolding after those
own_after p es (install q n b) e = those_append (λ e. eqb e.party p) es (entry q n b ∷ []) ∙ ap (λ (l : List Entry). own p es ++ l) (own_mine p (entry q n b) [] e)
own_after p es (fetch q n) e = refl
own_after p es (withdraw q n) e = those_turn (λ e. not (is_named q n e)) (λ e. eqb e.party p) es

other_after : (p : ℕ) (es : List Entry) (c : Call) → (party_of c ≡ p → ⊥) → own p (after es c) ≡ own p es
unfolding after those
other_after p es (install q n b) f =
    those_append (λ e. eqb e.party p) es (entry q n b ∷ []) ∙ ap (λ (l : List Entry). own p es ++ l) (own_other p (entry q n b) [] f) ∙ append-nil (own p es)
other_after p es (fetch q n) f = refl
other_after p es (withdraw q n) f =
    those_both (λ e. not (is_named q n e)) (λ e. eqb e.party p) es
    ∙ those_same (λ e. not (is_named q n e) && eqb e.party p) (λ e. eqb e.party p) es (λ e. stays e (eqb e.party p) (eqb e.party q) refl refl)
  where
    no_more : (z : Bool) → (z && false) ≡ false
    no_more true = refl
    no_more false = refl

    stays : (e : Entry) (x y : Bool) → eqb e.party p ≡ x → eqb e.party q ≡ y → (not (is_named q n e) && eqb e.party p) ≡ eqb e.party p
    stays e true true i j = absurd (f (sym (eqb-true e.party q j) ∙ eqb-true e.party p i))
    stays e true false i j = simp (i, j)
    stays e false y i j = simp i (no_more (not (is_named q n e)))

own_next : (p : ℕ) (es : List Entry) (c : Call) → party_of c ≡ p → own p (next_on es c) ≡ next (own p es) (own p es) c
unfolding next
own_next p es c e = go (eqb (told_alone (own (party_of c) es) c).number 0) ∙ ap (λ (q : ℕ). next (own q es) (own p es) c) e
  where
    go : (z : Bool) → own p (cond z (after es c) es) ≡ cond z (after (own p es) c) (own p es)
    go true = own_after p es c e
    go false = refl

other_next : (p : ℕ) (es : List Entry) (c : Call) → (party_of c ≡ p → ⊥) → own p (next_on es c) ≡ own p es
unfolding next
other_next p es c f = go (eqb (told_alone (own (party_of c) es) c).number 0)
  where
    go : (z : Bool) → own p (cond z (after es c) es) ≡ own p es
    go true = other_after p es c f
    go false = refl

-- What a party is told that is alone with its own entries.
unfoldable alone : List Entry → List Call → List ShelfAnswer
alone mine [] = []
alone mine (c ∷ h) = told_alone mine c ∷ alone (next mine mine c) h

told_to_alone : (p : ℕ) (es : List Entry) (h : List Call) → Legal es → Named h → told_to p (shelf_of es) h ≡ alone (own p es) (own_calls p h)
unfolding told_to alone those Named is_of
told_to_alone p es [] l n = refl
told_to_alone p es (c ∷ h) l n =
    go (is_of p c) refl (ap (λ (s : List ℕ). told_to p s h) (left_shelf es l c) ∙ told_to_alone p (next_on es c) h (next_legal es c l n.0) n.1)
  where
    go : (z : Bool) → is_of p c ≡ z → told_to p (left (shelf_of es) c) h ≡ alone (own p (next_on es c)) (own_calls p h)
        → cond z (told (shelf_of es) c ∷ told_to p (left (shelf_of es) c) h) (told_to p (left (shelf_of es) c) h) ≡ alone (own p es) (cond z (c ∷ own_calls p h) (own_calls p h))
    go true q ih =
        let e : party_of c ≡ p = eqb-true (party_of c) p q in
        ap₂ (λ (a : ShelfAnswer) (r : List ShelfAnswer). a ∷ r) (told_shelf es l c ∙ ap (λ (q : ℕ). told_alone (own q es) c) e)
        (ih ∙ ap (λ (m : List Entry). alone m (own_calls p h)) (own_next p es c e))
    go false q ih = ih ∙ ap (λ (m : List Entry). alone m (own_calls p h)) (other_next p es c (eqb-false (party_of c) p q))

-- From the empty shelf, two histories with the same calls of one party tell it the same.
pub only_its_own_calls : (p : ℕ) (h h' : List Call) → Named h → Named h' → own_calls p h ≡ own_calls p h' → told_to p empty_shelf h ≡ told_to p empty_shelf h'
only_its_own_calls p h h' n n' e =
    told_to_alone p [] h none_legal n ∙ ap (λ (k : List Call). alone (own p []) k) e ∙ sym (told_to_alone p [] h' none_legal n')

-- The shelf after a history is one of legal entries, so SHELF is never told on it.
pub record Kept (s : List ℕ) : Type 0 where
  pub its_entries : List Entry
  pub legal : Legal its_entries
  pub bytes : s ≡ shelf_of its_entries

kept_from : (es : List Entry) (h : List Call) → Legal es → Named h → Kept (shelf_after (shelf_of es) h)
unfolding shelf_after Named
kept_from es [] l n = record { its_entries = es; legal = l; bytes = refl }
kept_from es (c ∷ h) l n = rw (left_shelf es l c) (kept_from (next_on es c) h (next_legal es c l n.0) n.1)

pub always_kept : (h : List Call) → Named h → Kept (shelf_after empty_shelf h)
always_kept h n = kept_from [] h none_legal n

pub never_shelf : (h : List Call) (c : Call) → Named h → (told (shelf_after empty_shelf h) c).number ≡ SHELF → ⊥
never_shelf h c n e =
    let k = always_kept h n in
    alone_not_shelf (own (party_of c) k.its_entries) c
    (sym (ap (λ (a : ShelfAnswer). a.number) (ap (λ (s : List ℕ). told s c) k.bytes ∙ told_shelf k.its_entries k.legal c)) ∙ e)
