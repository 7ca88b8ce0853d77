-- Each way through the walks: what the words of the tasks say of the words of the whole, at every event that agrees on what was asked for. One lemma a way, for
-- every question that takes it. A local's status that was settled at one event is the same at every event above it.
-- Assumes nothing.
use mathlib.Core.Path.{◌≡◌, refl, sym, ap, ap₂, ◌∙◌, subst, subst⁻¹}
use mathlib.Core.Bool.{Bool, true, false, ◌||◌}
use mathlib.Core.List.{List}
use Prim.Native.Nat.{ℕ, ◌+◌, ◌*◌, ◌<◌, max}
use native.Mathlib.Omega.{arith}
use lib.Dec.{T}
use lib.ListN.{get_or}
use lib.Bits.{bit_or}
use Rattle.sets.specs.Numbers.{Numbers, single, union, without, Within}
use Rattle.sets.specs.Words.{bits}
use Rattle.sets.proofs.Members.{and_in, single_in, union_right, within_refl, within_eq, within_left, without_mono, union_least, within_trans}
use Rattle.rules.specs.Statements.{depth, code}
use Rattle.rules.specs.Events.{Status, present, absent, unknown, Event, giving, status_of}
use Rattle.rules.specs.Instant.{Step, leave, test}
use Rattle.rules.specs.MustCan.{Mark, plus, opened, Question, must, can, Given, nothing_known, either, caught, both, followed, onward, absence_asked, local_status, hidden, gives}
use Rattle.theorems.specs.Order.{Below, Agree, BelowOn}
use Rattle.theorems.proofs.Remembered.{agree_left, agree_right, agree_inside, filled, filled_below, filled_agrees, status_rises}
use Rattle.tables.specs.declared.Table.{Table}
use Rattle.words.specs.declared.events.Heard.{Heard}
use Rattle.words.specs.declared.given.GivenWords.{GivenWords}
use Rattle.words.specs.declared.given.MustCan.{MustCan}
use Rattle.tables.specs.declared.kinds.Depth.{Depth}
use Rattle.forms.specs.declared.form.Task.{Task}
use Rattle.forms.specs.declared.form.Form.{Form}
use Rattle.forms.specs.declared.form.Form.TheVariants.{Done, Stay, Keep, Say, Leave, Test, Catch, Scope, Chain, Beside, Same}
use Rattle.words.specs.Words.{event_of, given_of, quiet, loud}
use Rattle.words.proofs.WordLaws.{union_is}
use Rattle.forms.specs.Forms.{Placed, Live, Shows, Under, Formed}
use Rattle.walk.specs.declared.memo.Found.{Found}
use Rattle.walk.specs.declared.memo.Entry.{Entry}
use Rattle.walk.specs.Walks.{Doubted, Caught, Both, Followed, Hidden, Walked}
use Rattle.walk.specs.Memo.{GivesOn, WalkedOn, known_on, Settling}
use Rattle.forms.proofs.FormLaws.{formed}

-- The rules, as the questions meet them.
leave_gives : (k : Question) (d : ℕ) (E : Event) → gives k (leave (depth d)) E ≡ quiet (d + 2)
unfolding gives code
leave_gives k d E = refl

chosen_present : (k : Question) (s : ℕ) (p q : Step) (E : Event) → present ≡ E s → gives k p E ≡ gives k (test s p q) E
unfolding gives
chosen_present k s p q E e = rw (← e)

chosen_absent : (k : Question) (s : ℕ) (p q : Step) (E : Event) → absent ≡ E s → gives k q E ≡ gives k (test s p q) E
unfolding gives
chosen_absent k s p q E e = rw (← e)

doubted_must : (s : ℕ) (p q : Step) (E : Event) → unknown ≡ E s → nothing_known ≡ gives must (test s p q) E
unfolding gives
doubted_must s p q E e = rw (← e)

doubted_can : (m : Mark) (s : ℕ) (p q : Step) (E : Event) → unknown ≡ E s → either (gives (can opened) p E) (gives (can opened) q E) ≡ gives (can m) (test s p q) E
unfolding gives
doubted_can m s p q E e = rw (← e)

-- A first part without code 0: what follows does not count.
pub skipped : (X Y Z : Given) → X.codes 0 ≡ false → followed X Y ≡ followed X Z
skipped X Y Z e = rw e

-- Events that agree on more.
pub agree_within : {R S : Numbers} {E F : Event} → Within R S → Agree S E F → Agree R E F
agree_within w h = record { at = λ n t. h.at n (w.at n t) }

pub agree_refl : {R : Numbers} {E : Event} → Agree R E E
agree_refl = record { at = λ n t. refl }

agree_at : (R : Numbers) {S : Numbers} {E F : Event} (s : ℕ) → Within (union R (single s)) S → Agree S E F → E s ≡ F s
agree_at R s w h = h.at s (w.at s (union_right R (single s) s (single_in s)))

agree_of : {R S : Numbers} {E F : Event} (s : ℕ) → Within (union R (single s)) S → Agree S E F → Agree R E F
agree_of {R} s w h = agree_left R (single s) (agree_within w h)

first_of : (R Q : Numbers) {S : Numbers} {E F : Event} → Within (union R Q) S → Agree S E F → Agree R E F
first_of R Q w h = agree_left R Q (agree_within w h)

later_of : (R Q : Numbers) {S : Numbers} {E F : Event} → Within (union R Q) S → Agree S E F → Agree Q E F
later_of R Q w h = agree_right R Q (agree_within w h)

-- A task does what its form shows.
pub via_form : {k : Question} {tab : Table} {live : List Bool} {c : Task} {f : Form} {e : Heard} {R : Numbers} {x : GivenWords} → Formed tab live c f → GivesOn k tab live f e R x
    → GivesOn k tab live (Same c) e R x
unfolding Shows
via_form h g = record { at = λ A l p d. g.at A l p (h.shows A l p d) }

same_step : (k : Question) (F : Event) {p q : Step} → p ≡ q → gives k q F ≡ gives k p F
same_step k F h = ap (λ (y : Step). gives k y F) (sym h)

module _ {k : Question} {tab : Table} {live : List Bool} {e : Heard} {R : Numbers} {x : GivenWords} where
  pub via_done : given_of x ≡ quiet 0 → GivesOn k tab live Done e R x
  unfolding Shows gives
  via_done g = record { at = λ A l p d F h. g ∙ same_step k F d }

  pub via_stay : {n : ℕ} → given_of x ≡ quiet 1 → GivesOn k tab live (Stay n) e R x
  unfolding Shows gives
  via_stay g = record { at = λ A l p d F h. g ∙ same_step k F d.1 }

  pub via_keep : {n : ℕ} → given_of x ≡ quiet 1 → GivesOn k tab live (Keep n) e R x
  unfolding Shows gives
  via_keep g = record { at = λ A l p d F h. g ∙ same_step k F d.made }

  pub via_say : {s : ℕ} → (s < 64 → given_of x ≡ loud s) → GivesOn k tab live (Say s) e R x
  unfolding Shows gives
  via_say g = record { at = λ A l p d F h. g d.0 ∙ same_step k F d.1 }

  pub via_leave : {d : Depth} (n : ℕ) → n ≡ code (depth d.0) → (n < 32 → given_of x ≡ quiet n) → GivesOn k tab live (Leave d) e R x
  unfolding Shows gives code
  via_leave {d} n q g = record { at = λ A l p w F h. let b : d.0 < 16 = w.0 in g (omega arith) ∙ ap quiet q ∙ same_step k F w.1 }

module _ {k : Question} {tab : Table} {live : List Bool} {e : Heard} {R S : Numbers} {x : GivenWords} where
  pub via_present : {s : ℕ} {p q : Task} → (s < 64 → present ≡ event_of e s) → (s < 64 → Within (union R (single s)) S) → GivesOn k tab live (Same p) e R x
      → GivesOn k tab live (Test s p q) e S x
  unfolding Shows
  via_present {s} v u g = record {
    at = λ A l p d F h.
        let w = d.1 in
        g.at A l w.first w.left F (agree_of s (u d.0) h)
        ∙ chosen_present k s w.first w.later F (v d.0 ∙ agree_at R s (u d.0) h) ∙ same_step k F w.made;
  }

  pub via_absent : {s : ℕ} {p q : Task} → (s < 64 → absent ≡ event_of e s) → (s < 64 → Within (union R (single s)) S) → GivesOn k tab live (Same q) e R x
      → GivesOn k tab live (Test s p q) e S x
  unfolding Shows
  via_absent {s} v u g = record {
    at = λ A l p d F h.
        let w = d.1 in
        g.at A l w.later w.right F (agree_of s (u d.0) h)
        ∙ chosen_absent k s w.first w.later F (v d.0 ∙ agree_at R s (u d.0) h) ∙ same_step k F w.made;
  }

  pub via_catch : {p : Task} {a : GivenWords} → given_of x ≡ caught (given_of a) → Within R S → GivesOn k tab live (Same p) e R a → GivesOn k tab live (Catch p) e S x
  unfolding Shows gives
  via_catch r u g = record { at = λ A l p w F h. r ∙ ap caught (g.at A l w.inner w.does F (agree_within u h)) ∙ same_step k F w.made }

  pub via_skipped : {p q : Task} {a : GivenWords} (b : GivenWords) → given_of x ≡ followed (given_of a) (given_of b) → Within R S → GivesOn k tab live (Same p) e R a
      → bits a.codes 0 ≡ false → GivesOn k tab live (Chain p q) e S x
  unfolding Shows gives given_of
  via_skipped {a = a} b r u g v = record {
    at = λ A l p w F h.
        let j = gives (onward k ((gives must w.first F).codes 0)) w.later F in
        r ∙ skipped (given_of a) (given_of b) j v ∙ ap (λ (y : Given). followed y j) (g.at A l w.first w.left F (agree_within u h)) ∙ same_step k F w.made;
  }

-- Two parts: what either asked for.
module _ {k : Question} {tab : Table} {live : List Bool} {e : Heard} {R Q S : Numbers} {x : GivenWords} (u : Within (union R Q) S) where
  pub via_beside : {p q : Task} {a b : GivenWords} → given_of x ≡ both (given_of a) (given_of b) → GivesOn k tab live (Same p) e R a → GivesOn k tab live (Same q) e Q b
      → GivesOn k tab live (Beside p q) e S x
  unfolding Shows gives
  via_beside r g h = record {
    at = λ A l p w F j.
        r ∙ ap₂ both (g.at A l w.first w.left F (first_of R Q u j)) (h.at A l w.later w.right F (later_of R Q u j)) ∙ same_step k F w.made;
  }

  -- The second part's question is the one that the first part's must code asks for.
  pub via_chain : {p q : Task} {a b m : GivenWords} (z : Bool) → given_of x ≡ followed (given_of a) (given_of b) → GivesOn k tab live (Same p) e R a
      → GivesOn must tab live (Same p) e R m → bits m.codes 0 ≡ z → GivesOn (onward k z) tab live (Same q) e Q b → GivesOn k tab live (Chain p q) e S x
  unfolding Shows gives given_of
  via_chain z r g n v h = record {
    at = λ A l p w F j.
        let zero : z ≡ (gives must w.first F).codes 0 = sym v ∙ ap (λ (y : Given). y.codes 0) (n.at A l w.first w.left F (first_of R Q u j)) in
        r ∙ ap₂ followed (g.at A l w.first w.left F (first_of R Q u j))
        (h.at A l w.later w.right F (later_of R Q u j) ∙ ap (λ (y : Bool). gives (onward k y) w.later F) zero) ∙ same_step k F w.made;
  }

pub must_unknown : {tab : Table} {live : List Bool} {e : Heard} (R : Numbers) {S : Numbers} {x : GivenWords} {s : ℕ} {p q : Task} → (s < 64 → unknown ≡ event_of e s)
    → (s < 64 → Within (union R (single s)) S) → given_of x ≡ nothing_known → GivesOn must tab live (Test s p q) e S x
unfolding Shows
must_unknown R {s = s} v u g = record {
  at = λ A l p d F h.
      let w = d.1 in g ∙ doubted_must s w.first w.later F (v d.0 ∙ agree_at R s (u d.0) h) ∙ same_step must F w.made;
}

module _ {tab : Table} {live : List Bool} {e : Heard} {R Q S : Numbers} {x : GivenWords} where
  pub open_chain : {p q : Task} {a b : GivenWords} → Within (union R Q) S → given_of x ≡ followed (given_of a) (given_of b) → GivesOn (can opened) tab live (Same p) e R a
      → GivesOn (can opened) tab live (Same q) e Q b → GivesOn (can opened) tab live (Chain p q) e S x
  unfolding Shows gives
  open_chain u r g h = record {
    at = λ A l p w F j.
        r ∙ ap₂ followed (g.at A l w.first w.left F (first_of R Q u j)) (h.at A l w.later w.right F (later_of R Q u j)) ∙ same_step (can opened) F w.made;
  }

  pub can_unknown : {m : Mark} {s : ℕ} {p q : Task} {a b : GivenWords} → (s < 64 → unknown ≡ event_of e s) → (s < 64 → Within (union (union R Q) (single s)) S)
      → given_of x ≡ either (given_of a) (given_of b) → GivesOn (can opened) tab live (Same p) e R a → GivesOn (can opened) tab live (Same q) e Q b
      → GivesOn (can m) tab live (Test s p q) e S x
  unfolding Shows
  can_unknown {m} {s} v u r g h = record {
    at = λ A l p d F j.
        let w = d.1 in
        let i = agree_of s (u d.0) j in
        r ∙ ap₂ either (g.at A l w.first w.left F (agree_left R Q i)) (h.at A l w.later w.right F (agree_right R Q i))
        ∙ doubted_can m s w.first w.later F (v d.0 ∙ agree_at (union R Q) s (u d.0) j) ∙ same_step (can m) F w.made;
  }

-- Both questions of one walk: by the task's form, and form by form.
pub walked_as : {m : Mark} {tab : Table} {live : List Bool} {c : Task} {f g : Form} {e : Heard} {r : Found} → Formed tab live c f → f ≡ g
    → WalkedOn m tab live g e r → WalkedOn m tab live (Same c) e r
walked_as h q w = record { in_must = λ i. via_form (formed h q) (w.in_must i); in_can = via_form (formed h q) w.in_can }

pub walked_sure : {m : Mark} {tab : Table} {live : List Bool} {f : Form} {e : Heard} {x : GivenWords} {r : Found} → (r.said.must ≡ x) × (r.said.can ≡ x)
    → ((k : Question) → GivesOn k tab live f e (bits r.reads) x) → WalkedOn m tab live f e r
walked_sure {m} {tab} {live} {f} {e} {r = r} s g = record {
  in_must = λ h. subst⁻¹ (GivesOn must tab live f e (bits r.reads)) s.0 (g must);
  in_can = subst⁻¹ (GivesOn (can m) tab live f e (bits r.reads)) s.1 (g (can m));
}

-- What was kept holds where the events agree on what was asked for.
pub walked_again : {m : Mark} {tab : Table} {live : List Bool} {f : Form} {e g : Heard} {r : Found} → Agree (bits r.reads) (event_of e) (event_of g)
    → WalkedOn m tab live f e r → WalkedOn m tab live f g r
walked_again a w = record {
  in_must = λ q. record { at = λ A l p d F h. (w.in_must q).at A l p d F (record { at = λ n t. a.at n t ∙ h.at n t }) };
  in_can = record { at = λ A l p d F h. w.in_can.at A l p d F (record { at = λ n t. a.at n t ∙ h.at n t }) };
}

-- At the event itself.
pub walked_here : {m : Mark} {tab : Table} {live : List Bool} {f : Form} {e : Heard} {r : Found} → WalkedOn m tab live f e r → Walked m tab live f e r.said
walked_here {e = e} w = record {
  in_must = λ q. record { at = λ A l p d. (w.in_must q).at A l p d (event_of e) agree_refl };
  in_can = record { at = λ A l p d. w.in_can.at A l p d (event_of e) agree_refl };
}

module _ {m : Mark} {tab : Table} {live : List Bool} {e : Heard} {p q : Task} {s : ℕ} {a r : Found}
    (t : (r.said ≡ a.said) × (s < 64 → bits r.reads ≡ union (bits a.reads) (single s))) where
  pub walked_present : (s < 64 → present ≡ event_of e s) → WalkedOn m tab live (Same p) e a → WalkedOn m tab live (Test s p q) e r
  walked_present v w = record {
    in_must = λ h. via_present v (λ l. within_eq (sym (t.1 l))) (subst⁻¹ (λ (y : MustCan). GivesOn must tab live (Same p) e (bits a.reads) y.must) t.0 (w.in_must h));
    in_can = via_present v (λ l. within_eq (sym (t.1 l))) (subst⁻¹ (λ (y : MustCan). GivesOn (can m) tab live (Same p) e (bits a.reads) y.can) t.0 w.in_can);
  }

  pub walked_absent : (s < 64 → absent ≡ event_of e s) → WalkedOn m tab live (Same q) e a → WalkedOn m tab live (Test s p q) e r
  walked_absent v w = record {
    in_must = λ h. via_absent v (λ l. within_eq (sym (t.1 l))) (subst⁻¹ (λ (y : MustCan). GivesOn must tab live (Same q) e (bits a.reads) y.must) t.0 (w.in_must h));
    in_can = via_absent v (λ l. within_eq (sym (t.1 l))) (subst⁻¹ (λ (y : MustCan). GivesOn (can m) tab live (Same q) e (bits a.reads) y.can) t.0 w.in_can);
  }

joined_within : (x y : ℕ) {z : ℕ} → z ≡ bit_or x y → Within (union (bits x) (bits y)) (bits z)
joined_within x y e = within_eq (sym (ap bits e ∙ union_is x y))

same_within : {x z : ℕ} → z ≡ x → Within (bits x) (bits z)
same_within e = within_eq (ap bits (sym e))

module _ {m : Mark} {tab : Table} {live : List Bool} {e : Heard} {p q : Task} {r a b : Found} where
  pub walked_doubted : {s : ℕ} → (s < 64 → unknown ≡ event_of e s)
      → Doubted r.said a.said.can b.said.can × (s < 64 → bits r.reads ≡ union (union (bits a.reads) (bits b.reads)) (single s))
      → WalkedOn opened tab live (Same p) e a → WalkedOn opened tab live (Same q) e b → WalkedOn m tab live (Test s p q) e r
  walked_doubted v d wa wb = record {
    in_must = λ h. must_unknown (union (bits a.reads) (bits b.reads)) v (λ l. within_eq (sym (d.1 l))) d.0.in_must;
    in_can = can_unknown v (λ l. within_eq (sym (d.1 l))) d.0.in_can wa.in_can wb.in_can;
  }

  pub walked_beside : Both r.said a.said b.said × (r.reads ≡ bit_or a.reads b.reads) → WalkedOn m tab live (Same p) e a
      → WalkedOn m tab live (Same q) e b → WalkedOn m tab live (Beside p q) e r
  walked_beside d wa wb = record {
    in_must = λ h. via_beside (joined_within a.reads b.reads d.1) d.0.in_must (wa.in_must h) (wb.in_must h);
    in_can = via_beside (joined_within a.reads b.reads d.1) d.0.in_can wa.in_can wb.in_can;
  }

pub walked_catch : {m : Mark} {tab : Table} {live : List Bool} {e : Heard} {p : Task} {a r : Found} → Caught r.said a.said × (r.reads ≡ a.reads)
    → WalkedOn m tab live (Same p) e a → WalkedOn m tab live (Catch p) e r
walked_catch d w = record {
  in_must = λ h. via_catch d.0.in_must (same_within d.1) (w.in_must h);
  in_can = via_catch d.0.in_can (same_within d.1) w.in_can;
}

-- A sequence's second part has the mark that must's code asks for.
open_stops : (z : Bool) → can opened ≡ onward (can plus) z → z ≡ false
open_stops true e = absurd (let z : ◌≡◌ {A = ℕ} 0 1 = cc in omega arith)
open_stops false e = refl

module _ {tab : Table} {live : List Bool} {e : Heard} {p q : Task} {a b r : Found}
    (f : Followed r.said a.said b.said.must b.said.can × (r.reads ≡ bit_or a.reads b.reads)) where
  chain_can : (m n : Mark) → WalkedOn m tab live (Same p) e a → can n ≡ onward (can m) (bits a.said.must.codes 0) → WalkedOn n tab live (Same q) e b
      → GivesOn (can m) tab live (Chain p q) e (bits r.reads) r.said.can
  chain_can plus n wa o wb =
      via_chain (joined_within a.reads b.reads f.1) (bits a.said.must.codes 0) f.0.in_can wa.in_can (wa.in_must refl) refl
      (subst (λ (y : Question). GivesOn y tab live (Same q) e (bits b.reads) b.said.can) o wb.in_can)
  chain_can opened n wa o wb =
      open_chain (joined_within a.reads b.reads f.1) f.0.in_can wa.in_can
      (subst (λ (y : Question). GivesOn y tab live (Same q) e (bits b.reads) b.said.can) o wb.in_can)

  chain_must : (n : Mark) → WalkedOn plus tab live (Same p) e a → can n ≡ onward (can plus) (bits a.said.must.codes 0) → WalkedOn n tab live (Same q) e b
      → GivesOn must tab live (Chain p q) e (bits r.reads) r.said.must
  chain_must plus wa o wb = via_chain (joined_within a.reads b.reads f.1) (bits a.said.must.codes 0) f.0.in_must (wa.in_must refl) (wa.in_must refl) refl (wb.in_must refl)
  chain_must opened wa o wb =
      via_skipped b.said.must f.0.in_must (within_trans (within_left (bits a.reads) (bits b.reads)) (joined_within a.reads b.reads f.1)) (wa.in_must refl)
      (open_stops (bits a.said.must.codes 0) o)

  pub walked_chain : {m n : Mark} → WalkedOn m tab live (Same p) e a → can n ≡ onward (can m) (bits a.said.must.codes 0) → WalkedOn n tab live (Same q) e b
      → WalkedOn m tab live (Chain p q) e r
  walked_chain {m} {n} wa o wb = record {
    in_must = λ h. chain_must n (subst (λ (y : Mark). WalkedOn y tab live (Same p) e a) h wa) (o ∙ ap (λ (y : Mark). onward (can y) (bits a.said.must.codes 0)) h) wb;
    in_can = chain_can m n wa o wb;
  }

pub walked_skip : {m n : Mark} {tab : Table} {live : List Bool} {e : Heard} {p q : Task} {a r : Found} {x : GivenWords}
    → Followed r.said a.said x x × (r.reads ≡ a.reads) → WalkedOn m tab live (Same p) e a
    → can n ≡ onward (can m) (bits a.said.must.codes 0) → n ≡ opened → bits a.said.can.codes 0 ≡ false → WalkedOn m tab live (Chain p q) e r
walked_skip {a = a} {x = x} f wa o s z = record {
  in_must = λ h.
      via_skipped x f.0.in_must (same_within f.1) (wa.in_must h)
      (open_stops (bits a.said.must.codes 0) (ap can (sym s) ∙ o ∙ ap (λ (w : Mark). onward (can w) (bits a.said.must.codes 0)) h));
  in_can = via_skipped x f.0.in_can (same_within f.1) wa.in_can z;
}

-- A local's status stays as it is for a question, wherever these statuses stay.
pub record Stays (k : Question) (tab : Table) (live : List Bool) (s : ℕ) (p : Task) (K : Numbers) (u : Event) (v : Status) : Type 0 where
  pub at : s < 64 → (A : Numbers) → Live tab A live → (q : Step) → Shows tab A (Same p) q → (G : Event) → Agree K u G
      → v ≡ local_status k s (gives must q G) (gives (absence_asked k) q G)

stays_must : {tab : Table} {live : List Bool} {s : ℕ} {p : Task} {K : Numbers} {u : Event} {v : Status} (m : Mark) → m ≡ plus → Stays (can m) tab live s p K u v
    → Stays must tab live s p K u v
stays_must plus e h = record { at = h.at }
stays_must opened e h = absurd (let z : ◌≡◌ {A = ℕ} 0 1 = cc in omega arith)

below_known : (v w : Status) → (v ≡ unknown → ⊥) → Below v w → v ≡ w
below_known present w n h = sym h
below_known absent w n h = sym h
below_known unknown w n h = absurd (n refl)

-- What the words say of a local, at an event that agrees on all that was asked for.
module _ {tab : Table} {live : List Bool} {p : Task} {g : Heard} {r : Found} {v : Status} where
  status_there : (s : ℕ) (m : Mark) → WalkedOn m tab live (Same p) g r → v ≡ local_status (can m) s (given_of r.said.must) (given_of r.said.can) → (A : Numbers) → Live tab A live
      → (q : Step) → Shows tab A (Same p) q → (G : Event) → Agree (bits r.reads) (event_of g) G → v ≡ local_status (can m) s (gives must q G) (gives (can m) q G)
  status_there s plus w st A l q d G h = st ∙ ap₂ (local_status (can plus) s) ((w.in_must refl).at A l q d G h) (w.in_can.at A l q d G h)
  status_there s opened w st A l q d G h = st ∙ ap (local_status (can opened) s (gives must q G)) (w.in_can.at A l q d G h)

module _ {m : Mark} {tab : Table} {live : List Bool} {s : ℕ} {p : Task} {doubt : Heard} {x : Entry} {v : Status} (t : Settling m tab live s p doubt x)
    (st : s < 64 → v ≡ local_status (can m) s (given_of x.found.said.must) (given_of x.found.said.can)) where
  abbrev K : Numbers
  K = known_on x.event (bits x.found.reads)

  -- Every status known at the entry's event is the same at G.
  entry_below : (G : Event) → Agree K (event_of doubt) G → BelowOn (bits x.found.reads) (event_of x.event) G
  unfolding event_of
  entry_below G h = record { at = λ n i. go n i (bits x.event.present n) (bits x.event.absent n) refl refl }
    where
      here : (n : ℕ) → T (K n) → event_of x.event n ≡ G n
      here n i = t.agrees.at n i ∙ h.at n i

      go : (n : ℕ) → T (bits x.found.reads n) → (y z : Bool) → bits x.event.present n ≡ y → bits x.event.absent n ≡ z → Below (status_of y z) (G n)
      go n i true z e f = sym (here n (and_in (bits x.found.reads n) (bits x.event.present n || bits x.event.absent n) i
          (subst⁻¹ (λ (b : Bool). T (b || bits x.event.absent n)) e tt))) ∙ rw e
      go n i false true e f = sym (here n (and_in (bits x.found.reads n) (bits x.event.present n || bits x.event.absent n) i
          (subst⁻¹ (λ (b : Bool). T (b || bits x.event.absent n)) e (subst⁻¹ T f tt)))) ∙ rw (e, f)
      go n i false false e f = tt

  pub known_stays : (v ≡ unknown → ⊥) → Stays (can m) tab live s p K (event_of doubt) v
  known_stays n = record {
    at = λ l A i q d G h.
        let R = bits x.found.reads in
        let E = event_of x.event in
        let low = entry_below G h in
        let there = status_there s m t.found_is (st l) A i q d (filled R E G) (filled_agrees R E G) in
        below_known v (local_status (can m) s (gives must q G) (gives (can m) q G)) n
        (subst⁻¹ (λ (y : Status). Below y (local_status (can m) s (gives must q G) (gives (can m) q G))) there (status_rises m s q (filled_below low)));
  }

  pub fresh_stays : (s < 64 → x.event ≡ doubt) → Stays (can m) tab live s p (bits x.found.reads) (event_of doubt) v
  fresh_stays e = record {
    at = λ l A i q d G h. status_there s m t.found_is (st l) A i q d G (subst⁻¹ (λ (y : Heard). Agree (bits x.found.reads) (event_of y) G) (e l) h);
  }

  -- The status that the local has at the event with its signal unknown.
  pub settled_here : s < 64 → (A : Numbers) → Live tab A live → (q : Step) → Shows tab A (Same p) q
      → v ≡ local_status (can m) s (gives must q (event_of doubt)) (gives (can m) q (event_of doubt))
  settled_here l A i q d = go v refl
    where
      go : (y : Status) → v ≡ y → v ≡ local_status (can m) s (gives must q (event_of doubt)) (gives (can m) q (event_of doubt))
      go present e = (known_stays (λ z. let w : ◌≡◌ {A = ℕ} 0 1 = cc in omega arith)).at l A i q d (event_of doubt) agree_refl
      go absent e = (known_stays (λ z. let w : ◌≡◌ {A = ℕ} 0 1 = cc in omega arith)).at l A i q d (event_of doubt) agree_refl
      go unknown e = (fresh_stays (λ i. t.fresh i (sym (st i) ∙ e))).at l A i q d (event_of doubt) agree_refl

-- A local, with a status that stays.
via_scope : {k : Question} {tab : Table} {live : List Bool} {e h : Heard} {s : ℕ} {p : Task} {K R S : Numbers} {x b : GivenWords} (v : Status) (u : Heard)
    → (s < 64 → given_of x ≡ hidden s (given_of b)) → (s < 64 → Within (without s (union K R)) S) → (s < 64 → event_of u ≡ giving (event_of e) s unknown)
    → Stays k tab live s p K (event_of u) v → (s < 64 → event_of h ≡ giving (event_of e) s v) → GivesOn k tab live (Same p) h R b → GivesOn k tab live (Scope s p) e S x
unfolding Shows gives
via_scope {k} {e = e} {s = s} {K = K} {R = R} v u r w uk st hv g = record {
  at = λ A l p d F j.
      let y = d.1 in
      let a = agree_within (w d.0) j in
      let settled = st.at d.0 A l y.inner y.does (giving F s unknown)
      (subst⁻¹ (λ (U : Event). Agree K U (giving F s unknown)) (uk d.0) (agree_left K R (agree_inside s unknown a))) in
      r d.0
      ∙ ap (hidden s)
      (g.at A l y.inner y.does (giving F s v) (subst⁻¹ (λ (U : Event). Agree R U (giving F s v)) (hv d.0) (agree_right K R (agree_inside s v a)))
      ∙ ap (λ (z : Status). gives k y.inner (giving F s z)) settled)
      ∙ same_step k F y.made;
}

-- A local, asked again under its mark, or not.
module _ {m : Mark} {tab : Table} {live : List Bool} {e u : Heard} {s : ℕ} {p : Task} {x : Entry} {r : Found} (v : Status) (doubt : s < 64 → event_of u ≡ giving (event_of e) s unknown)
    (t : Settling m tab live s p u x) (st : s < 64 → v ≡ local_status (can m) s (given_of x.found.said.must) (given_of x.found.said.can)) where
  pub walked_local : {h : Heard} {b : Found}
      → (s < 64 → Hidden r.said s b.said × (bits r.reads ≡ without s (union (known_on x.event (bits x.found.reads)) (bits b.reads))))
      → (s < 64 → event_of h ≡ giving (event_of e) s v) → (v ≡ unknown → ⊥) → WalkedOn m tab live (Same p) h b → WalkedOn m tab live (Scope s p) e r
  walked_local hid hv n wb = record {
    in_must = λ q. via_scope v u (λ l. (hid l).0.in_must) (λ l. within_eq (sym (hid l).1)) doubt (stays_must m q (known_stays t st n)) hv (wb.in_must q);
    in_can = via_scope v u (λ l. (hid l).0.in_can) (λ l. within_eq (sym (hid l).1)) doubt (known_stays t st n) hv wb.in_can;
  }

  pub walked_same : (s < 64 → Hidden r.said s x.found.said × (bits r.reads ≡ without s (bits x.found.reads))) → v ≡ unknown
      → WalkedOn m tab live (Scope s p) e r
  walked_same hid w =
      let here : s < 64 → x.event ≡ u = λ i. t.fresh i (sym (st i) ∙ w) in
      let known : s < 64 → event_of x.event ≡ giving (event_of e) s v = λ i. ap event_of (here i) ∙ doubt i ∙ ap (giving (event_of e) s) (sym w) in
      let R = bits x.found.reads in
      let wide : s < 64 → Within (without s (union R R)) (bits r.reads) =
      λ i. within_trans {b = without s R} (without_mono {a = union R R} {b = R} s (union_least {a = R} {b = R} {c = R} within_refl within_refl)) (within_eq (sym (hid i).1)) in record {
        in_must = λ q. via_scope v u (λ i. (hid i).0.in_must) wide doubt (stays_must m q (fresh_stays t st here)) known (t.found_is.in_must q);
        in_can = via_scope v u (λ i. (hid i).0.in_can) wide doubt (fresh_stays t st here) known t.found_is.in_can;
      }

-- A call on a task that is smaller, or on the same one by a function nearer to it. The measure is four times the size; the walk that looks up what was kept is one
-- above its task's, a local's body with the signal unknown and a sequence two, a local three.
module _ {tab : Table} {i t : ℕ} where
  pub call : {p : Task} → Under tab i p → 4 * get_or tab.sizes i 0 ≡ t → 4 * get_or tab.sizes p.at 0 + 1 < t
  call u e = omega (arith, u.smaller)

  pub call_local : {p : Task} → Under tab i p → 4 * get_or tab.sizes i 0 ≡ t → 4 * get_or tab.sizes p.at 0 + 3 < t
  call_local u e = omega (arith, u.smaller)

  pub call_chain : {p q : Task} → Under tab i p → Under tab i q → 4 * get_or tab.sizes i 0 ≡ t
      → 4 * max (get_or tab.sizes p.at 0) (get_or tab.sizes q.at 0) + 2 < t
  call_chain u v e = omega (arith, u.smaller, v.smaller)

  pub call_now : Placed tab i → 4 * get_or tab.sizes i 0 + 1 ≡ t → 4 * get_or tab.sizes i 0 < t
  call_now pl e = omega arith

  pub call_body : Placed tab i → 4 * get_or tab.sizes i 0 + 2 ≡ t → 4 * get_or tab.sizes i 0 + 1 < t
  call_body pl e = omega arith

  pub call_whole : Placed tab i → 4 * get_or tab.sizes i 0 + 3 ≡ t → 4 * get_or tab.sizes i 0 + 2 < t
  call_whole pl e = omega arith

  pub call_known : Placed tab i → 4 * get_or tab.sizes i 0 + 3 ≡ t → 4 * get_or tab.sizes i 0 + 1 < t
  call_known pl e = omega arith

module _ {tab : Table} {t : ℕ} where
  pub call_first : {i j : ℕ} → Placed tab i × Placed tab j → 4 * max (get_or tab.sizes i 0) (get_or tab.sizes j 0) + 2 ≡ t → 4 * get_or tab.sizes i 0 + 1 < t
  call_first pl e = omega arith

  pub call_later : {i j : ℕ} → Placed tab i × Placed tab j → 4 * max (get_or tab.sizes i 0) (get_or tab.sizes j 0) + 2 ≡ t → 4 * get_or tab.sizes j 0 + 1 < t
  call_later pl e = omega arith
