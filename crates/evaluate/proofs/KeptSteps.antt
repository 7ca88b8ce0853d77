-- Each way through the walk of the next state. Assumes nothing.
use mathlib.Core.Path.{◌≡◌, sym, ap, ap₂, ◌∙◌, subst⁻¹}
use mathlib.Core.Bool.{Bool, false}
use mathlib.Core.List.{List}
use Prim.Native.Nat.{ℕ, ◌<◌}
use native.Mathlib.Omega.{arith}
use Rattle.sets.specs.Numbers.{Numbers, empty, single, union, without, only_if, maxima, downs}
use Rattle.sets.specs.Words.{bits, set_of}
use Rattle.rules.specs.Statements.{depth, code, Stmt}
use Rattle.rules.specs.Events.{Status, present, absent, unknown, Event, giving}
use Rattle.rules.specs.Instant.{Step, test, catch, scope, chain, beside, held}
use Rattle.rules.specs.MustCan.{plus, must, can, local_status, gives}
use Rattle.rules.specs.States.{kept, executed_as}
use Rattle.tables.specs.declared.Table.{Table}
use Rattle.words.specs.declared.events.Heard.{Heard}
use Rattle.tables.specs.declared.kinds.Depth.{Depth}
use Rattle.words.specs.declared.pauses.Kept.{Kept}
use Rattle.forms.specs.declared.form.Task.{Task}
use Rattle.forms.specs.declared.form.Form.{Form}
use Rattle.forms.specs.declared.form.Form.TheVariants.{Done, Stay, Keep, Say, Leave, Test, Catch, Scope, Chain, Beside, Same}
use Rattle.words.specs.Words.{event_of, given_of, KeptWith}
use Rattle.forms.specs.Forms.{At, Shows, Formed}
use Rattle.walk.specs.declared.memo.Entry.{Entry}
use Rattle.walk.specs.Memo.{Settling}
use Rattle.walk.proofs.Steps.{settled_here}
use Rattle.evaluate.specs.Next.{KeptAs, Keeping}
use Rattle.forms.proofs.FormLaws.{formed}

same_kept : {r : Kept} {E : Event} {p q : Step} → p ≡ q → KeptAs r q E → KeptAs r p E
same_kept {r} {E} e k = subst⁻¹ (λ (y : Step). KeptAs r y E) e k

module _ {A : Numbers} {tab : Table} {live : List Bool} {e : Heard} {r : Kept} where
  pub keep_as : {c : Task} {f g : Form} → Formed tab live c f → f ≡ g → Keeping A tab live g e r → Keeping A tab live (Same c) e r
  unfolding Shows
  keep_as h q k = record { at = λ l p d. k.at l p ((formed h q).shows A l p d) }

  pub keep_done : bits r.codes ≡ single 0 → set_of r.pauses ≡ empty → Keeping A tab live Done e r
  unfolding Shows gives kept
  keep_done c q = record { at = λ l p d. same_kept d (record { codes_are = c; pauses_are = q }) }

  pub keep_say : {s : ℕ} → bits r.codes ≡ single 0 → set_of r.pauses ≡ empty → Keeping A tab live (Say s) e r
  unfolding Shows gives kept
  keep_say c q = record { at = λ l p d. same_kept d.1 (record { codes_are = c; pauses_are = q }) }

  pub keep_leave : {d : Depth} (n : ℕ) → n ≡ code (depth d.0) → (n < 32 → bits r.codes ≡ single n) → set_of r.pauses ≡ empty → Keeping A tab live (Leave d) e r
  unfolding Shows gives kept code
  keep_leave {d} n q c z = record {
    at = λ l p w. let b : d.0 < 16 = w.0 in same_kept w.1 (record { codes_are = c (omega arith) ∙ ap single q; pauses_are = z });
  }

  pub keep_stay : {n : ℕ} → bits r.codes ≡ single 1 → (n < 128 → set_of r.pauses ≡ single n) → Keeping A tab live (Stay n) e r
  unfolding Shows gives kept
  keep_stay c q = record { at = λ l p d. same_kept d.1 (record { codes_are = c; pauses_are = q d.0 }) }

  pub keep_held : {i : ℕ} → bits r.codes ≡ single 1 → ((t : Stmt) → At tab i t → set_of r.pauses ≡ held A t) → Keeping A tab live (Keep i) e r
  unfolding Shows gives kept
  keep_held c q = record { at = λ l p d. same_kept d.made (record { codes_are = c; pauses_are = q d.tree d.there }) }

-- The rules, as the walk meets them.
present_kept : (s : ℕ) (p q : Step) (E : Event) {r a : Kept} → present ≡ E s → KeptWith r (bits a.codes) (set_of a.pauses) → KeptAs a p E → KeptAs r (test s p q) E
unfolding gives kept
present_kept s p q E e w k = record {
  codes_are = w.codes_are ∙ k.codes_are ∙ rw (← e);
  pauses_are = w.pauses_are ∙ ap₂ (λ (C B : Numbers). only_if (C 1) B) k.codes_are k.pauses_are ∙ rw (← e);
}

absent_kept : (s : ℕ) (p q : Step) (E : Event) {r a : Kept} → absent ≡ E s → KeptWith r (bits a.codes) (set_of a.pauses) → KeptAs a q E → KeptAs r (test s p q) E
unfolding gives kept
absent_kept s p q E e w k = record {
  codes_are = w.codes_are ∙ k.codes_are ∙ rw (← e);
  pauses_are = w.pauses_are ∙ ap₂ (λ (C B : Numbers). only_if (C 1) B) k.codes_are k.pauses_are ∙ rw (← e);
}

unknown_kept : (s : ℕ) (p q : Step) (E : Event) {r : Kept} → unknown ≡ E s → bits r.codes ≡ empty → set_of r.pauses ≡ empty → KeptAs r (test s p q) E
unfolding gives kept
unknown_kept s p q E e c z = record { codes_are = c ∙ rw (← e); pauses_are = z ∙ rw (← e) }

catch_kept : (p : Step) (E : Event) {r a : Kept} → KeptWith r (downs (bits a.codes)) (set_of a.pauses) → KeptAs a p E → KeptAs r (catch p) E
unfolding gives kept
catch_kept p E w k = record {
  codes_are = w.codes_are ∙ ap downs k.codes_are;
  pauses_are = w.pauses_are ∙ ap₂ (λ (C B : Numbers). only_if (downs C 1) B) k.codes_are k.pauses_are;
}

beside_kept : (p q : Step) (E : Event) {r a b : Kept} → KeptWith r (maxima (bits a.codes) (bits b.codes)) (union (set_of a.pauses) (set_of b.pauses)) → KeptAs a p E
    → KeptAs b q E → KeptAs r (beside p q) E
unfolding gives kept
beside_kept p q E w j k = record {
  codes_are = w.codes_are ∙ ap₂ maxima j.codes_are k.codes_are;
  pauses_are = w.pauses_are ∙ ap₂ (λ (C B : Numbers). only_if (C 1) B) (ap₂ maxima j.codes_are k.codes_are) (ap₂ union j.pauses_are k.pauses_are);
}

abbrev Chained : Kept → Kept → Kept → Type 0
Chained r a b =
    KeptWith r (union (without 0 (bits a.codes)) (only_if (bits a.codes 0) (bits b.codes))) (union (set_of a.pauses) (only_if (bits a.codes 0) (set_of b.pauses)))

chain_kept : (p q : Step) (E : Event) {r a b : Kept} → Chained r a b → KeptAs a p E → KeptAs b q E → KeptAs r (chain p q) E
unfolding gives kept
chain_kept p q E {a = a} {b = b} w j k = record {
  codes_are = w.codes_are ∙ codes;
  pauses_are = w.pauses_are ∙ ap₂ (λ (C B : Numbers). only_if (C 1) B) codes (ap₂ union j.pauses_are (ap₂ (λ (C B : Numbers). only_if (C 0) B) j.codes_are k.pauses_are));
}
  where
    codes : union (without 0 (bits a.codes)) (only_if (bits a.codes 0) (bits b.codes)) ≡ (gives must (chain p q) E).codes
    codes = ap₂ union (ap (without 0) j.codes_are) (ap₂ (λ (C B : Numbers). only_if (C 0) B) j.codes_are k.codes_are)

-- A first part without code 0: what follows does not count.
off : (z : Bool) (X Y : Numbers) → z ≡ false → only_if z X ≡ only_if z Y
off z X Y e = ap (λ (b : Bool). only_if b X) e ∙ ap (λ (b : Bool). only_if b Y) (sym e)

skip_kept : (p q : Step) (E : Event) {r a : Kept} (b : Kept) → Chained r a b → bits a.codes 0 ≡ false → KeptAs a p E → KeptAs r (chain p q) E
unfolding gives kept
skip_kept p q E {a = a} b w z j = record {
  codes_are = w.codes_are ∙ codes;
  pauses_are = w.pauses_are
      ∙ ap₂ (λ (C B : Numbers). only_if (C 1) B) codes
      (ap₂ union j.pauses_are (off (bits a.codes 0) (set_of b.pauses) (kept q E) z ∙ ap (λ (C : Numbers). only_if (C 0) (kept q E)) j.codes_are));
}
  where
    codes : union (without 0 (bits a.codes)) (only_if (bits a.codes 0) (bits b.codes)) ≡ (gives must (chain p q) E).codes
    codes =
        ap₂ union (ap (without 0) j.codes_are)
        (off (bits a.codes 0) (bits b.codes) (gives must q E).codes z ∙ ap (λ (C : Numbers). only_if (C 0) (gives must q E).codes) j.codes_are)

scope_kept : (s : ℕ) (p : Step) (E F : Event) {r a : Kept} → F ≡ giving E s (executed_as s p E) → KeptWith r (bits a.codes) (set_of a.pauses) → KeptAs a p F → KeptAs r (scope s p) E
unfolding gives kept
scope_kept s p E F e w k = record {
  codes_are = w.codes_are ∙ k.codes_are ∙ ap (λ (G : Event). (gives must p G).codes) e;
  pauses_are = w.pauses_are ∙ ap₂ (λ (C B : Numbers). only_if (C 1) B) k.codes_are k.pauses_are ∙ ap (λ (G : Event). only_if ((gives must p G).codes 1) (kept p G)) e;
}

module _ {A : Numbers} {tab : Table} {live : List Bool} {e : Heard} {r : Kept} where
  pub keep_present : {s : ℕ} {p q : Task} {a : Kept} → (s < 64 → present ≡ event_of e s) → KeptWith r (bits a.codes) (set_of a.pauses) → Keeping A tab live (Same p) e a
      → Keeping A tab live (Test s p q) e r
  unfolding Shows
  keep_present {s} v w k = record {
    at = λ l p d. let t = d.1 in same_kept t.made (present_kept s t.first t.later (event_of e) (v d.0) w (k.at l t.first t.left));
  }

  pub keep_absent : {s : ℕ} {p q : Task} {a : Kept} → (s < 64 → absent ≡ event_of e s) → KeptWith r (bits a.codes) (set_of a.pauses) → Keeping A tab live (Same q) e a
      → Keeping A tab live (Test s p q) e r
  unfolding Shows
  keep_absent {s} v w k = record {
    at = λ l p d. let t = d.1 in same_kept t.made (absent_kept s t.first t.later (event_of e) (v d.0) w (k.at l t.later t.right));
  }

  pub keep_unknown : {s : ℕ} {p q : Task} → (s < 64 → unknown ≡ event_of e s) → bits r.codes ≡ empty → set_of r.pauses ≡ empty → Keeping A tab live (Test s p q) e r
  unfolding Shows
  keep_unknown {s} v c z = record { at = λ l p d. let t = d.1 in same_kept t.made (unknown_kept s t.first t.later (event_of e) (v d.0) c z) }

  pub keep_catch : {p : Task} {a : Kept} → KeptWith r (downs (bits a.codes)) (set_of a.pauses) → Keeping A tab live (Same p) e a → Keeping A tab live (Catch p) e r
  unfolding Shows
  keep_catch w k = record { at = λ l p t. same_kept t.made (catch_kept t.inner (event_of e) w (k.at l t.inner t.does)) }

  pub keep_beside : {p q : Task} {a b : Kept} → KeptWith r (maxima (bits a.codes) (bits b.codes)) (union (set_of a.pauses) (set_of b.pauses))
      → Keeping A tab live (Same p) e a → Keeping A tab live (Same q) e b
      → Keeping A tab live (Beside p q) e r
  unfolding Shows
  keep_beside w j k = record {
    at = λ l p t. same_kept t.made (beside_kept t.first t.later (event_of e) w (j.at l t.first t.left) (k.at l t.later t.right));
  }

  pub keep_chain : {p q : Task} {a b : Kept} → Chained r a b → Keeping A tab live (Same p) e a → Keeping A tab live (Same q) e b → Keeping A tab live (Chain p q) e r
  unfolding Shows
  keep_chain w j k = record {
    at = λ l p t. same_kept t.made (chain_kept t.first t.later (event_of e) w (j.at l t.first t.left) (k.at l t.later t.right));
  }

  pub keep_skip : {p q : Task} {a : Kept} (b : Kept) → Chained r a b → bits a.codes 0 ≡ false → Keeping A tab live (Same p) e a → Keeping A tab live (Chain p q) e r
  unfolding Shows
  keep_skip b w z j = record { at = λ l p t. same_kept t.made (skip_kept t.first t.later (event_of e) b w z (j.at l t.first t.left)) }

  pub keep_scope : {s : ℕ} {p : Task} {u h : Heard} {x : Entry} {a : Kept} (v : Status) → KeptWith r (bits a.codes) (set_of a.pauses) → (s < 64 → event_of u ≡ giving (event_of e) s unknown)
      → Settling plus tab live s p u x → (s < 64 → v ≡ local_status (can plus) s (given_of x.found.said.must) (given_of x.found.said.can))
      → (s < 64 → event_of h ≡ giving (event_of e) s v) → Keeping A tab live (Same p) h a
      → Keeping A tab live (Scope s p) e r
  unfolding Shows
  keep_scope {s} {u = u} {h = h} v w uk t st hv k = record {
    at = λ l p d.
        let y = d.1 in
        let settled = settled_here t st d.0 A l y.inner y.does
        ∙ ap (λ (U : Event). local_status must s (gives must y.inner U) (gives (can plus) y.inner U)) (uk d.0) in
        same_kept y.made
        (scope_kept s y.inner (event_of e) (event_of h) (hv d.0 ∙ ap (giving (event_of e) s) settled) w (k.at l y.inner y.does));
  }
