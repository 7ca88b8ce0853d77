-- Each way through the walk of the reasons: a lemma a form, and one that joins the statement's own mark with what its form gives. Assumes nothing.
use mathlib.Core.Path.{◌≡◌, refl, sym, ap, ap₂, ◌∙◌, subst, subst⁻¹}
use mathlib.Core.Bool.{Bool, true, false, ◌&&◌, or-false, or_assoc}
use mathlib.Core.List.{List}
use Prim.Native.Nat.{ℕ, ◌<◌}
use native.Mathlib.Omega.{arith}
use lib.ListN.{length}
use Rattle.sets.specs.Numbers.{Numbers, empty, single, union, without, only_if, maxima, downs}
use Rattle.sets.specs.Words.{bits}
use Rattle.sets.proofs.Members.{ext}
use Rattle.sets.proofs.Words.{bits_power}
use Rattle.rules.specs.Statements.{depth, code, Stmt}
use Rattle.rules.specs.Events.{Status, present, absent, unknown, Event, giving}
use Rattle.rules.specs.Instant.{Step, test}
use Rattle.rules.specs.MustCan.{plus, must, can, local_status, gives}
use Rattle.rules.specs.States.{executed_as, kept_by}
use Rattle.rules.specs.Taken.{Wanted, itself_if}
use Rattle.tables.specs.declared.Table.{Table}
use Rattle.tables.specs.declared.kinds.Depth.{Depth}
use Rattle.words.specs.declared.events.Heard.{Heard}
use Rattle.words.specs.declared.given.MustCan.{MustCan}
use Rattle.words.specs.Words.{event_of, given_of}
use Rattle.forms.specs.declared.form.Task.{Task}
use Rattle.forms.specs.declared.form.Form.{Form}
use Rattle.forms.specs.declared.form.Form.TheVariants.{Done, Stay, Keep, Say, Leave, Test, Catch, Scope, Chain, Beside, Same}
use Rattle.forms.specs.Forms.{At, Live, Does, Shows, step_of, form_for, Formed}
use Rattle.walk.specs.Walks.{Walked}
use Rattle.reasons.specs.Taking.{goes, hit, Narrow, marked_in, Marked, TakenAs, Taking}
use Rattle.reasons.proofs.Parts.{Took, Reaches, splits, narrow}

-- The words of the codes 0 and 1.
pub word_of_0 : bits 1 ≡ single 0
word_of_0 = ext (λ n. bits_power 0 n)

pub word_of_1 : bits 2 ≡ single 1
word_of_1 = ext (λ n. bits_power 1 n)

-- Of codes and a set: the codes are must's, and the marks are those before with the set's.
pub record Adds (P : Step) (E : Event) (X : Numbers) (before left : List Bool) (codes : ℕ) : Type 0 where
  pub codes_are : bits codes ≡ (gives must P E).codes
  pub marks_are : length before ≡ 512 → marked_in left ≡ union (marked_in before) X

-- What a form gives beside the statement's own mark.
pub record Rested (tab : Table) (live : List Bool) (w : Wanted) (f : Form) (e : Heard) (before left : List Bool) (codes : ℕ) : Type 0 where
  pub as_long : length left ≡ length before
  pub at : (A : Numbers) → Live tab A live → (P : Step) (X : Numbers) → Reaches tab A w f P (event_of e) X → Adds P (event_of e) X before left codes

none_more : (m : List Bool) {X : Numbers} → X ≡ empty → marked_in m ≡ union (marked_in m) X
none_more m e = ext (λ n. sym (or-false (marked_in m n))) ∙ ap (union (marked_in m)) (sym e)

one_after : (a b c : List Bool) (X Y : Numbers) → (length a ≡ 512 → marked_in b ≡ union (marked_in a) X) → (length b ≡ 512 → marked_in c ≡ union (marked_in b) Y) → length b ≡ length a
    → length a ≡ 512 → marked_in c ≡ union (marked_in a) (union X Y)
one_after a b c X Y f g l n = g (l ∙ n) ∙ ap (λ (Z : Numbers). union Z Y) (f n) ∙ ext (λ k. or_assoc (marked_in a k) (X k) (Y k))

same_adds : {P Q : Step} {E : Event} {X Y : Numbers} {before left : List Bool} {codes : ℕ} → P ≡ Q → X ≡ Y → Adds Q E Y before left codes → Adds P E X before left codes
same_adds {E = E} {before = before} p x k = record {
  codes_are = k.codes_are ∙ ap (λ (s : Step). (gives must s E).codes) (sym p);
  marks_are = λ n. k.marks_are n ∙ ap (union (marked_in before)) (sym x);
}

-- A test at a status.
test_present : (s : ℕ) (p q : Step) (E : Event) {Y : Numbers} {before left : List Bool} {codes : ℕ} → present ≡ E s → Adds p E Y before left codes → Adds (test s p q) E Y before left codes
unfolding gives
test_present s p q E v k = record { codes_are = k.codes_are ∙ rw (← v); marks_are = k.marks_are }

test_absent : (s : ℕ) (p q : Step) (E : Event) {Z : Numbers} {before left : List Bool} {codes : ℕ} → absent ≡ E s → Adds q E Z before left codes → Adds (test s p q) E Z before left codes
unfolding gives
test_absent s p q E v k = record { codes_are = k.codes_are ∙ rw (← v); marks_are = k.marks_are }

test_unknown : (s : ℕ) (p q : Step) (E : Event) {m : List Bool} {codes : ℕ} → unknown ≡ E s → bits codes ≡ empty → Adds (test s p q) E empty m m codes
unfolding gives
test_unknown s p q E {m} v b = record { codes_are = b ∙ rw (← v); marks_are = λ n. none_more m refl }

module _ {tab : Table} {live : List Bool} {w : Wanted} {e : Heard} where
  -- The statement's own mark first.
  pub take_form : {c : Task} {f g : Form} {z : Bool} {before mid left : List Bool} {codes : ℕ} → Formed tab live c f → (Narrow f → z ≡ (goes c.going && hit w f (event_of e)))
      → Marked before (itself_if z c.at) mid → f ≡ g → Rested tab live w g e mid left codes → Taking tab live w c e before left codes
  take_form {c} {f} {g} {z} {before} {mid} {left} {codes} h q m o r = record { as_long = r.as_long ∙ m.as_long; at = there }
    where
      there : (A : Numbers) → Live tab A live → (t : Stmt) → At tab c.at t → TakenAs w A c t (event_of e) before left codes
      there A l t a =
          let s = splits A w c.going c.at t (event_of e) a in
          let is : f ≡ form_for c.going A c.at t = h.is_it A l t a in
          let P = step_of c.going A t in
          let parts : Reaches tab A w f P (event_of e) s.rest = subst⁻¹ (λ (y : Form). Reaches tab A w y P (event_of e) s.rest) is s.parts in
          let k = r.at A l P s.rest (subst (λ (y : Form). Reaches tab A w y P (event_of e) s.rest) o parts) in
          let own : z ≡ (goes c.going && hit w (form_for c.going A c.at t) (event_of e)) =
          q (narrow tab A w f P (event_of e) s.rest parts) ∙ ap (λ (y : Form). goes c.going && hit w y (event_of e)) is in
          record {
            codes_are = k.codes_are;
            marks_are = λ n. one_after before mid left (itself_if z c.at) s.rest m.adds k.marks_are m.as_long n
                ∙ ap (λ (x : Bool). union (marked_in before) (union (itself_if x c.at) s.rest)) own ∙ ap (union (marked_in before)) (sym s.whole);
          }

  -- A task that was walked.
  of_part : {c : Task} {before left : List Bool} {codes : ℕ} {A : Numbers} {X : Numbers} {P : Step} → Taking tab live w c e before left codes → Live tab A live → Took tab A w c (event_of e) X P
      → Adds P (event_of e) X before left codes
  of_part {A = A} k l t = let r = k.at A l t.tree t.there in same_adds t.does t.takes (record { codes_are = r.codes_are; marks_are = r.marks_are })

  -- Nothing below: the form has a code of its own.
  pub take_done : {m : List Bool} {codes : ℕ} → bits codes ≡ single 0 → Rested tab live w Done e m m codes
  unfolding Reaches gives
  take_done {m = m} b = record { as_long = refl; at = λ A l P X t. same_adds t.0 refl (record { codes_are = b; marks_are = λ n. none_more m t.1 }) }

  pub take_stay : {k : ℕ} {m : List Bool} {codes : ℕ} → bits codes ≡ single 1 → Rested tab live w (Stay k) e m m codes
  unfolding Reaches gives
  take_stay {m = m} b = record { as_long = refl; at = λ A l P X t. same_adds t.1 refl (record { codes_are = b; marks_are = λ n. none_more m t.2 }) }

  pub take_keep : {k : ℕ} {m : List Bool} {codes : ℕ} → bits codes ≡ single 1 → Rested tab live w (Keep k) e m m codes
  unfolding Reaches gives
  take_keep {m = m} b = record { as_long = refl; at = λ A l P X t. same_adds t.1 refl (record { codes_are = b; marks_are = λ n. none_more m t.2 }) }

  pub take_say : {s : ℕ} {m : List Bool} {codes : ℕ} → bits codes ≡ single 0 → Rested tab live w (Say s) e m m codes
  unfolding Reaches gives
  take_say {m = m} b = record { as_long = refl; at = λ A l P X t. same_adds t.0 refl (record { codes_are = b; marks_are = λ n. none_more m t.1 }) }

  pub take_leave : {d : Depth} {m : List Bool} {codes : ℕ} (n : ℕ) → n ≡ code (depth d.0) → (n < 32 → bits codes ≡ single n) → Rested tab live w (Leave d) e m m codes
  unfolding Reaches gives code
  take_leave {d} {m} n q b = record {
    as_long = refl;
    at = λ A l P X t. let h : d.0 < 16 = t.0 in same_adds t.1 refl (record { codes_are = b (omega arith) ∙ ap single q; marks_are = λ k. none_more m t.2 });
  }

  -- A test: the branch of a known status, and none while it is unknown.
  pub take_present : {s : ℕ} {p q : Task} {before left : List Bool} {codes : ℕ} → (s < 64 → present ≡ event_of e s) → Taking tab live w p e before left codes
      → Rested tab live w (Test s p q) e before left codes
  unfolding Reaches
  take_present {s} v k = record {
    as_long = k.as_long;
    at = λ A l P X t.
        let u = t.1 in
        same_adds u.made (u.joins ∙ ap (λ (y : Status). kept_by y u.of_first u.of_later) (sym (v t.0)))
        (test_present s u.first u.later (event_of e) (v t.0) (of_part k l u.left));
  }

  pub take_absent : {s : ℕ} {p q : Task} {before left : List Bool} {codes : ℕ} → (s < 64 → absent ≡ event_of e s) → Taking tab live w q e before left codes
      → Rested tab live w (Test s p q) e before left codes
  unfolding Reaches
  take_absent {s} v k = record {
    as_long = k.as_long;
    at = λ A l P X t.
        let u = t.1 in
        same_adds u.made (u.joins ∙ ap (λ (y : Status). kept_by y u.of_first u.of_later) (sym (v t.0)))
        (test_absent s u.first u.later (event_of e) (v t.0) (of_part k l u.right));
  }

  pub take_unknown : {s : ℕ} {p q : Task} {m : List Bool} {codes : ℕ} → (s < 64 → unknown ≡ event_of e s) → bits codes ≡ empty → Rested tab live w (Test s p q) e m m codes
  unfolding Reaches
  take_unknown {s} v b = record {
    as_long = refl;
    at = λ A l P X t.
        let u = t.1 in
        same_adds u.made (u.joins ∙ ap (λ (y : Status). kept_by y u.of_first u.of_later) (sym (v t.0))) (test_unknown s u.first u.later (event_of e) (v t.0) b);
  }

  pub take_same : {p : Task} {before left : List Bool} {codes : ℕ} → Taking tab live w p e before left codes → Rested tab live w (Same p) e before left codes
  unfolding Reaches
  take_same k = record { as_long = k.as_long; at = λ A l P X t. of_part k l t }

  pub take_catch : {p : Task} {before left : List Bool} {a codes : ℕ} → bits codes ≡ downs (bits a) → Taking tab live w p e before left a → Rested tab live w (Catch p) e before left codes
  unfolding Reaches gives
  take_catch b k = record {
    as_long = k.as_long;
    at = λ A l P X t.
        let x = of_part k l t.took in
        same_adds t.made refl (record { codes_are = b ∙ ap downs x.codes_are; marks_are = x.marks_are });
  }

  -- A sequence: the second part where the first gives 0.
  pub take_chain : {p q : Task} {before mid left : List Bool} {a b codes : ℕ} → bits codes ≡ union (without 0 (bits a)) (only_if (bits a 0) (bits b)) → bits a 0 ≡ true
      → Taking tab live w p e before mid a → Taking tab live w q e mid left b → Rested tab live w (Chain p q) e before left codes
  unfolding Reaches gives
  take_chain {before = before} {mid = mid} {left = left} {a = a} c z j k = record {
    as_long = k.as_long ∙ j.as_long;
    at = λ A l P X t.
        let x = of_part j l t.left in
        let y = of_part k l t.right in
        same_adds t.made (t.joins ∙ ap (λ (g : Bool). union t.of_first (only_if g t.of_later)) (ap (λ (C : Numbers). C 0) (sym x.codes_are) ∙ z))
        (record {
          codes_are = c ∙ ap₂ (λ (C D : Numbers). union (without 0 C) (only_if (C 0) D)) x.codes_are y.codes_are;
          marks_are = one_after before mid left t.of_first t.of_later x.marks_are y.marks_are j.as_long;
        });
  }

  pub take_skip : {p q : Task} {before left : List Bool} {a codes : ℕ} (b : ℕ) → bits codes ≡ union (without 0 (bits a)) (only_if (bits a 0) (bits b)) → bits a 0 ≡ false
      → Taking tab live w p e before left a → Rested tab live w (Chain p q) e before left codes
  unfolding Reaches gives
  take_skip {before = before} {a = a} b c z k = record {
    as_long = k.as_long;
    at = λ A l P X t.
        let x = of_part k l t.left in
        let none : (gives must t.first (event_of e)).codes 0 ≡ false = ap (λ (C : Numbers). C 0) (sym x.codes_are) ∙ z in
        same_adds t.made (t.joins ∙ ap (λ (g : Bool). union t.of_first (only_if g t.of_later)) none)
        (record {
          codes_are = c ∙ ap (λ (g : Bool). union (without 0 (bits a)) (only_if g (bits b))) z
              ∙ ap (λ (C : Numbers). union (without 0 C) empty) x.codes_are
              ∙ ap (λ (g : Bool). union (without 0 (gives must t.first (event_of e)).codes) (only_if g (gives must t.later (event_of e)).codes)) (sym none);
          marks_are = λ n. x.marks_are n ∙ ap (union (marked_in before)) (ext (λ i. sym (or-false (t.of_first i))));
        });
  }

  pub take_beside : {p q : Task} {before mid left : List Bool} {a b codes : ℕ} → bits codes ≡ maxima (bits a) (bits b)
      → Taking tab live w p e before mid a → Taking tab live w q e mid left b → Rested tab live w (Beside p q) e before left codes
  unfolding Reaches gives
  take_beside {before = before} {mid = mid} {left = left} c j k = record {
    as_long = k.as_long ∙ j.as_long;
    at = λ A l P X t.
        let x = of_part j l t.left in
        let y = of_part k l t.right in
        same_adds t.made t.joins (record {
          codes_are = c ∙ ap₂ maxima x.codes_are y.codes_are;
          marks_are = one_after before mid left t.of_first t.of_later x.marks_are y.marks_are j.as_long;
        });
  }

-- A local: its body with the status that must settles for its signal.
pub take_scope : {tab : Table} {live : List Bool} {w : Wanted} {e : Heard} {s : ℕ} {p : Task} {u h : Heard} {m : MustCan} {before left : List Bool} {codes : ℕ} (v : Status)
    → (s < 64 → event_of u ≡ giving (event_of e) s unknown) → Walked plus tab live (Same p) u m → (s < 64 → v ≡ local_status (can plus) s (given_of m.must) (given_of m.can))
    → (s < 64 → event_of h ≡ giving (event_of e) s v) → Taking tab live w p h before left codes → Rested tab live w (Scope s p) e before left codes
unfolding Reaches Shows gives
take_scope {tab} {live} {w} {e} {s} {p} {u} {h} v uk wa st hv k = record {
  as_long = k.as_long;
  at = λ A l P X d.
      let t = d.1 in
      let does : Does tab A p t.inner = record { tree = t.took.tree; there = t.took.there; its_step = t.took.does } in
      let m = (wa.in_must refl).at A l t.inner does ∙ ap (gives must t.inner) (uk d.0) in
      let n = wa.in_can.at A l t.inner does ∙ ap (gives (can plus) t.inner) (uk d.0) in
      let settled : event_of h ≡ giving (event_of e) s (executed_as s t.inner (event_of e)) = hv d.0 ∙ ap (giving (event_of e) s) (st d.0 ∙ ap₂ (local_status must s) m n) in
      let x = of_part k l (subst⁻¹ (λ (F : Event). Took tab A w p F X t.inner) settled t.took) in
      same_adds t.made refl (record { codes_are = x.codes_are ∙ ap (λ (F : Event). (gives must t.inner F).codes) settled; marks_are = x.marks_are });
}
