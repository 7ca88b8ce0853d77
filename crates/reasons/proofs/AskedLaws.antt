-- What the marks of a walk from the root say of the block's tree, and the reason by the instant's answer: each question is one case, and the answer's words and the
-- final event are those of its statuses. Assumes nothing.
use mathlib.Core.Path.{◌≡◌, refl, sym, ap, ap₂, ◌∙◌, subst, subst⁻¹}
use mathlib.Core.Bool.{Bool, true, false, not, ◌&&◌, true≢false}
use mathlib.Core.List.{List}
use mathlib.Core.Option.{Option, none, some}
use Prim.Native.Nat.{ℕ, ◌+◌, ◌≤◌, ◌<◌}
use native.Mathlib.Nat.{zero-add}
use native.Mathlib.Decide.{dec_lt}
use native.Mathlib.Omega.{arith}
use lib.Dec.{T, eqb, leb, ltb}
use Rattle.std.specs.Option.{is_some}
use lib.ListN.{get_or, replicate, length-replicate, get_or-replicate, get_or-eq_default}
use borrow.Author.Tests.{lt-ltb, le-ltb}
use Rattle.sets.specs.Numbers.{Numbers, union, lowest}
use Rattle.sets.specs.Words.{bits}
use Rattle.sets.proofs.Members.{ext}
use Rattle.sets.proofs.Counts.{lowest_some, lowest_none, lowest_in, lowest_empty}
use Rattle.rules.specs.Statements.{Block, Stmt, nothing, pause, emit, present?◌then◌else◌, suspend◌on◌, ◌⨾◌, loop, ◌parallel◌, trap, exit, local, statements, preorder, numbered}
use Rattle.rules.specs.Events.{Status, present, absent, Event, Hearing, event}
use Rattle.rules.specs.States.{State}
use Rattle.rules.specs.Rounds.{Answer, answered, not_constructive, outputs_with, react}
use Rattle.rules.specs.Taken.{Wanted, every, emit_of, undecided_test, taken}
use Rattle.rules.specs.Reasons.{Asked, refused, is_present, not_executed, is_emit, on_path, cut_off, where_so, reason_from, reason_of}
use Rattle.rules.proofs.Preorder.{all_counted}
use Rattle.tables.specs.Table.{Has, kind_of}
use Rattle.tables.specs.declared.Table.{Table}
use Rattle.tables.proofs.Places.{has_row, at_number}
use Rattle.words.specs.declared.events.Heard.{Heard}
use Rattle.words.specs.Words.{event_of}
use Rattle.forms.specs.declared.form.Task.{Task}
use Rattle.forms.specs.Forms.{At, Placed, Live, task}
use Rattle.records.specs.declared.state.Phase.{Phase}
use Rattle.records.specs.declared.state.Phase.TheVariants.{Fresh, Running, Finished}
use Rattle.evaluate.specs.declared.rounds.Reacted.{Reacted}
use Rattle.evaluate.specs.Reacts.{state_of, going_by, IsAnswer, Reacts}
use Rattle.reasons.specs.Taking.{taken_of, marked_in, Taking, cut_rows, open_emit}

-- The root.
pub root_placed : {tab : Table} {c d : Task} → c ≡ d → Placed tab d.at → Placed tab c.at
root_placed {tab} e p = subst⁻¹ (λ (x : Task). Placed tab x.at) e p

pub count_fits : {tab : Table} {n : ℕ} → Placed tab 0 → n ≡ get_or tab.sizes 0 0 → n ≤ 512
count_fits p e = omega (arith, e, (has_row p.tree p.there.has).its_size, p.there.room)

by_phase : (w : Wanted) (A : Numbers) (t : Stmt) (E : Event) (ph : Phase) → taken_of (going_by ph) w A 0 t E ≡ taken w t (state_of ph A) E
unfolding taken_of taken
by_phase w A t E Fresh = refl
by_phase w A t E Running = refl
by_phase w A t E Finished = refl

no_mark : (n i : ℕ) → get_or (replicate n false) i false ≡ false
no_mark n i = go (dec_lt i n)
  where
    go : Dec (i < n) → get_or (replicate n false) i false ≡ false
    go (yes l) = get_or-replicate n i false false l
    go (no l) = get_or-eq_default (replicate n false) false {n = i} (omega (arith, length-replicate n false))

-- From no mark on, the marks of the walk are what is reached.
pub marks_of_root : {tab : Table} {live : List Bool} {w : Wanted} {c : Task} {e : Heard} {left : List Bool} {codes : ℕ} (ph : Phase) (A : Numbers) → c ≡ task 0 (going_by ph)
    → Taking tab live w c e (replicate 512 false) left codes → Live tab A live → (body : Stmt) → At tab 0 body → marked_in left ≡ taken w body (state_of ph A) (event_of e)
marks_of_root {tab} {live} {w} {c} {e} {left} {codes} ph A q k l body a =
    let r = (subst (λ (x : Task). Taking tab live w x e (replicate 512 false) left codes) q k).at A l body a in
    r.marks_are (length-replicate 512 false) ∙ ext (λ n. ap (λ (z : Bool). union (λ m. z) (taken_of (going_by ph) w A 0 body (event_of e)) n) (no_mark 512 n))
    ∙ by_phase w A body (event_of e) ph

pub count_is : {tab : Table} {n : ℕ} (body : Stmt) → At tab 0 body → n ≡ get_or tab.sizes 0 0 → n ≡ statements body
count_is body a e = e ∙ (has_row body a.has).its_size

-- The rows of the table are the statements of the tree.
has_number : {tab : Table} (body : Stmt) → At tab 0 body → (i : ℕ) → i < statements body → Has tab i (numbered body i)
has_number {tab} body a i l = subst (λ (j : ℕ). Has tab j (numbered body i)) (zero-add i) (at_number 0 body a.has a.small i l).has

kind_emit : (t : Stmt) → eqb (kind_of t) 18 ≡ is_emit t
unfolding kind_of
kind_emit nothing = refl
kind_emit (pause n) = refl
kind_emit (emit s) = refl
kind_emit (present? s then p else q) = refl
kind_emit (suspend p on s) = refl
kind_emit (p ⨾ q) = refl
kind_emit (loop p) = refl
kind_emit (p parallel q) = refl
kind_emit (trap p) = refl
kind_emit (exit d) = refl
kind_emit (local s p) = refl

open_is : {tab : Table} (body : Stmt) → At tab 0 body → {count : ℕ} → count ≡ statements body → (left : List Bool) (X : Numbers) → marked_in left ≡ X → (n : ℕ)
    → open_emit tab.kinds left count n ≡ (is_emit (numbered body n) && not (X n))
unfolding open_emit
open_is {tab} body a {count} e left X q n = ap (λ (c : ℕ). ltb n c && (eqb (get_or tab.kinds n 0) 18 && not (get_or left n false))) e ∙ go (dec_lt n (statements body))
  where
    go : Dec (n < statements body) → (ltb n (statements body) && (eqb (get_or tab.kinds n 0) 18 && not (get_or left n false))) ≡ (is_emit (numbered body n) && not (X n))
    go (yes l) =
        ap₂ (λ (x y : Bool). x && y) (lt-ltb n (statements body) l)
        (ap₂ (λ (k : ℕ) (x : Bool). eqb k 18 && not x) (has_row (numbered body n) (has_number body a n l)).its_kind (ap (λ (Y : Numbers). Y n) q)
        ∙ ap (λ (x : Bool). x && not (X n)) (kind_emit (numbered body n)))
    go (no l) =
        ap (λ (x : Bool). x && (eqb (get_or tab.kinds n 0) 18 && not (get_or left n false))) (le-ltb n (statements body) (omega arith))
        ∙ sym (ap (λ (t : Stmt). is_emit t && not (X n)) (get_or-eq_default (preorder body) nothing {n = n} (omega (arith, all_counted body))))

-- Sets that agree below the width have the same lowest member there.
lowest_alike : (n : ℕ) (a b : Numbers) → ((k : ℕ) → k < n → a k ≡ b k) → lowest n a ≡ lowest n b
lowest_alike n a b f = go (lowest n b) refl
  where
    go : (o : Option ℕ) → lowest n b ≡ o → lowest n a ≡ o
    go none e = lowest_empty n a (λ j h t. lowest_none n b e j h (subst T (f j h) t))
    go (some k) e =
        let x = lowest_some n b e in
        lowest_in n a x.0 (subst⁻¹ T (f k x.0) x.1) (λ j h t. x.2 j h (subst T (f j (omega (arith, x.0))) t))

cut_lowest : {tab : Table} (body : Stmt) → At tab 0 body → {count : ℕ} → count ≡ statements body → (left : List Bool) (X : Numbers) → marked_in left ≡ X → (n : ℕ)
    → lowest count (cut_rows tab.sizes n (marked_in left)) ≡ lowest (statements body) (cut_off body n X)
unfolding cut_rows cut_off on_path
cut_lowest {tab} body a {count} e left X q n =
    ap (λ (c : ℕ). lowest c (cut_rows tab.sizes n (marked_in left))) e
    ∙ lowest_alike (statements body) (cut_rows tab.sizes n (marked_in left)) (cut_off body n X) (λ k l.
    ap₂ (λ (z : ℕ) (x : Bool). (leb k n && ltb n (k + z)) && not x) (has_row (numbered body k) (has_number body a k l)).its_size (ap (λ (Y : Numbers). Y k) q))

-- The same of the marks that the walk from the root leaves.
module _ {tab : Table} {live : List Bool} {c : Task} {e : Heard} {left : List Bool} {codes : ℕ} (ph : Phase) (A : Numbers) (q : c ≡ task 0 (going_by ph))
    (k : Taking tab live every c e (replicate 512 false) left codes) (l : Live tab A live) (body : Stmt) (a : At tab 0 body) {count : ℕ} (f : count ≡ get_or tab.sizes 0 0) (n : ℕ) where
  abbrev reached : Numbers
  reached = taken every body (state_of ph A) (event_of e)

  pub open_told : open_emit tab.kinds left count n ≡ (is_emit (numbered body n) && not (reached n))
  open_told = open_is body a (count_is body a f) left reached (marks_of_root ph A q k l body a) n

  pub cut_told : lowest count (cut_rows tab.sizes n (marked_in left)) ≡ lowest (statements body) (cut_off body n reached)
  cut_told = cut_lowest body a (count_is body a f) left reached (marks_of_root ph A q k l body a) n

pub cut_so : {z y : Bool} {o p x : Option ℕ} → z ≡ true → z ≡ y → x ≡ o → o ≡ p → x ≡ where_so y p
cut_so {p = p} t e a b = a ∙ b ∙ ap (λ (u : Bool). where_so u p) (sym t ∙ e)

pub cut_not : {z y : Bool} (p : Option ℕ) → z ≡ false → z ≡ y → none ≡ where_so y p
cut_not p t e = ap (λ (u : Bool). where_so u p) (sym t ∙ e)

-- The final event.
abbrev pub Final : Block → Hearing → Reacted → Heard → Type 0
Final b heard r e = (outs : List Status) → bits r.marks.present ≡ outputs_with present b outs → bits r.marks.absent ≡ outputs_with absent b outs → event_of e ≡ event b heard outs

-- What is named of an emit that was not executed.
abbrev cut_at : Block → State → ℕ → Event → Option ℕ
cut_at b st n E =
    where_so (is_emit (numbered b.body n) && not (taken every b.body st E n)) (lowest (statements b.body) (cut_off b.body n (taken every b.body st E)))

-- The reason, by the question and by whether the instant is answered.
module _ (b : Block) (ph : Phase) (A : Numbers) (heard : Hearing) (r : Reacted) (x : Reacts b ph A heard r) {q : Asked} where
  pub refused_known : q ≡ refused → is_some r.done ≡ true → none ≡ reason_of b (state_of ph A) heard q
  unfolding IsAnswer Reacts reason_from reason_of
  refused_known p k = go (react b (state_of ph A) heard) x ∙ ap (reason_of b (state_of ph A) heard) (sym p)
    where
      go : (a : Answer) → IsAnswer b a r → none ≡ reason_from refused b (state_of ph A) heard a
      go (answered vs c st' n) y = refl
      go (not_constructive vs n) y = absurd (true≢false (sym k ∙ ap is_some y.done_is))

  pub refused_unknown : q ≡ refused → is_some r.done ≡ false → (e : Heard) → Final b heard r e → {o : Option ℕ}
      → o ≡ lowest (statements b.body) (taken undecided_test b.body (state_of ph A) (event_of e)) → o ≡ reason_of b (state_of ph A) heard q
  unfolding IsAnswer Reacts reason_from reason_of
  refused_unknown p k e f {o} l = go (react b (state_of ph A) heard) x ∙ ap (reason_of b (state_of ph A) heard) (sym p)
    where
      go : (a : Answer) → IsAnswer b a r → o ≡ reason_from refused b (state_of ph A) heard a
      go (answered vs c st' n) y = absurd (true≢false (sym (ap is_some y.done_is) ∙ k))
      go (not_constructive vs n) y =
          l ∙ ap (λ (E : Event). lowest (statements b.body) (taken undecided_test b.body (state_of ph A) E)) (f vs y.outputs_are.present_is y.outputs_are.absent_is)

  pub present_so : {s : ℕ} → q ≡ is_present s → is_some r.done ≡ true → true ≡ bits r.marks.present s → (e : Heard) → Final b heard r e → {o : Option ℕ}
      → o ≡ lowest (statements b.body) (taken (emit_of s) b.body (state_of ph A) (event_of e)) → o ≡ reason_of b (state_of ph A) heard q
  unfolding IsAnswer Reacts reason_from reason_of
  present_so {s} p k t e f {o} l = go (react b (state_of ph A) heard) x ∙ ap (reason_of b (state_of ph A) heard) (sym p)
    where
      go : (a : Answer) → IsAnswer b a r → o ≡ reason_from (is_present s) b (state_of ph A) heard a
      go (answered vs c st' n) y =
          l ∙ ap (λ (E : Event). lowest (statements b.body) (taken (emit_of s) b.body (state_of ph A) E)) (f vs y.outputs_are.present_is y.outputs_are.absent_is)
          ∙ ap (λ (z : Bool). where_so z (lowest (statements b.body) (taken (emit_of s) b.body (state_of ph A) (event b heard vs)))) (t ∙ ap (λ (X : Numbers). X s) y.outputs_are.present_is)
      go (not_constructive vs n) y = absurd (true≢false (sym k ∙ ap is_some y.done_is))

  pub present_not : {s : ℕ} → q ≡ is_present s → (is_some r.done ≡ true → false ≡ bits r.marks.present s) → none ≡ reason_of b (state_of ph A) heard q
  unfolding IsAnswer Reacts reason_from reason_of
  present_not {s} p f = go (react b (state_of ph A) heard) x ∙ ap (reason_of b (state_of ph A) heard) (sym p)
    where
      go : (a : Answer) → IsAnswer b a r → none ≡ reason_from (is_present s) b (state_of ph A) heard a
      go (answered vs c st' n) y =
          ap (λ (z : Bool). where_so z (lowest (statements b.body) (taken (emit_of s) b.body (state_of ph A) (event b heard vs)))) (f (ap is_some y.done_is) ∙ ap (λ (X : Numbers). X s) y.outputs_are.present_is)
      go (not_constructive vs n) y = refl

  pub executed_known : {n : ℕ} → q ≡ not_executed n → is_some r.done ≡ true → (e : Heard) → Final b heard r e → {o : Option ℕ}
      → o ≡ cut_at b (state_of ph A) n (event_of e) → o ≡ reason_of b (state_of ph A) heard q
  unfolding IsAnswer Reacts reason_from reason_of
  executed_known {n} p k e f {o} l = go (react b (state_of ph A) heard) x ∙ ap (reason_of b (state_of ph A) heard) (sym p)
    where
      go : (a : Answer) → IsAnswer b a r → o ≡ reason_from (not_executed n) b (state_of ph A) heard a
      go (answered vs c st' m) y = l ∙ ap (cut_at b (state_of ph A) n) (f vs y.outputs_are.present_is y.outputs_are.absent_is)
      go (not_constructive vs m) y = absurd (true≢false (sym k ∙ ap is_some y.done_is))

  pub executed_unknown : {n : ℕ} → q ≡ not_executed n → is_some r.done ≡ false → none ≡ reason_of b (state_of ph A) heard q
  unfolding IsAnswer Reacts reason_from reason_of
  executed_unknown {n} p k = go (react b (state_of ph A) heard) x ∙ ap (reason_of b (state_of ph A) heard) (sym p)
    where
      go : (a : Answer) → IsAnswer b a r → none ≡ reason_from (not_executed n) b (state_of ph A) heard a
      go (answered vs c st' m) y = absurd (true≢false (sym (ap is_some y.done_is) ∙ k))
      go (not_constructive vs m) y = refl
