-- What a whole good reading gives, and that a refusal has a number from 1 to 8: the facts about a block that everything above rests on.
use mathlib.Core.Path.{◌≡◌, refl, sym, ◌∙◌, ap, subst}
use mathlib.Core.Bool.{Bool, true, false, not, cond, ◌&&◌}
use mathlib.Core.Logic.{◌⊎◌, inl, inr, ⊎_elim}
use mathlib.Core.Option.{Option, none, some}
use mathlib.Core.List.{List, [], ◌∷◌, ◌++◌}
use Prim.Native.Nat.{ℕ, zero, suc, ◌+◌, ◌≤◌, ◌<◌}
use native.Mathlib.Nat.{add-zero, zero-add, pos_of_ne-zero}
use native.Mathlib.Decide.{dec_lt}
use native.Mathlib.Omega.{arith}
use lib.Dec.{T, eqb, ltb, leb, lit≤}
use lib.ListN.{length, get_or, get_or-append, get_or-eq_default}
use lib.Seq.{get_or-append-add}
use borrow.Author.Tests.{eqb-true, ltb-false, eq-eqb, ne_eqb, not-true, not-false}
use Rattle.sets.specs.Numbers.{empty}
use Rattle.sets.proofs.Members.{is_false, of_false}
use Rattle.sets.proofs.Counts.{lowest_none, lowest_empty}
use Rattle.rules.specs.Statements.{Stmt, nothing, pause, emit, present?◌then◌else◌, suspend◌on◌, ◌⨾◌, loop, ◌parallel◌, trap, exit, local, pauses, Numbered, Trapped}
use Rattle.rules.specs.Loops.{codes_of, loops_pass}
use Rattle.tables.specs.Table.{statements, Small}
use Rattle.block.specs.Format.{LIMIT, over_limit, wrong_signal, wrong_exit, Header, Around, Sofar, Got, got, refused, and_then, Good, Reading, good, turned_down, reading, header}
use Rattle.tables.specs.Kinds.{length_of}
use Rattle.block.specs.Format.{header_fault, is_broken, two_bytes, kind_at, length_at, operand_at, statement_fault, past, inside, read, ended, loops_checked, preorder, numbered, bytes}
use Rattle.block.specs.Format.{outermost, begun}
use Rattle.tables.specs.Codes.{endless, lowest_endless}
use Rattle.block.specs.Good.{Scoped, path, nested_traps, nested_locals, locals, Next, Apart}
use Rattle.block.proofs.Views.{is?, Kind, leafs, aboves, joins, leaf_children, above_children, joined_children}
use Rattle.block.proofs.Passes.{passes, none_of, broken_none}
use Rattle.block.proofs.Parse.{parsed, read_fault, read_leaf, read_above, read_joined}
use Rattle.block.proofs.Trees.{tree, AroundFits, Counts}
use Rattle.block.proofs.Nesting.{next_apart}
use Rattle.tables.proofs.Places.{all_counted}

-- No statement of a list is an endless loop. (Past the end there is `nothing`, which is none.)
abbrev Clean : List Stmt → Type 0
Clean ps = (n : ℕ) → T (endless (get_or ps n nothing)) → ⊥

clean_rest : (p : Stmt) (ps : List Stmt) → Clean (p ∷ ps) → Clean ps
clean_rest p ps c n = c (suc n)

clean_left : (ps qs : List Stmt) → Clean (ps ++ qs) → Clean ps
unfolding endless
clean_left ps qs c n = go (dec_lt n (length ps))
  where
    go : Dec (n < length ps) → T (endless (get_or ps n nothing)) → ⊥
    go (yes l) e = c n (subst (λ (p : Stmt). T (endless p)) (sym (get_or-append ps qs nothing n l)) e)
    go (no l) e = subst (λ (p : Stmt). T (endless p)) (get_or-eq_default ps nothing {n = n} (omega arith)) e

clean_right : (ps qs : List Stmt) → Clean (ps ++ qs) → Clean qs
clean_right ps qs c n e = c (length ps + n) (subst (λ (p : Stmt). T (endless p)) (sym (get_or-append-add ps qs n nothing)) e)

both_true : (x y : Bool) → x ≡ true → y ≡ true → (x && y) ≡ true
both_true x y e f = ap (λ (z : Bool). z && y) e ∙ f

-- A tree without an endless loop passes the loop check.
pub clean_pass : (t : Stmt) → Clean (preorder t) → loops_pass t ≡ true
unfolding loops_pass preorder endless
clean_pass nothing c = refl
clean_pass (pause n) c = refl
clean_pass (emit s) c = refl
clean_pass (present? s then p else q) c =
    both_true (loops_pass p) (loops_pass q) (clean_pass p (clean_left (preorder p) (preorder q) (clean_rest (present? s then p else q) (preorder p ++ preorder q) c)))
    (clean_pass q (clean_right (preorder p) (preorder q) (clean_rest (present? s then p else q) (preorder p ++ preorder q) c)))
clean_pass (suspend p on s) c = clean_pass p (clean_rest (suspend p on s) (preorder p) c)
clean_pass (p ⨾ q) c =
    both_true (loops_pass p) (loops_pass q) (clean_pass p (clean_left (preorder p) (preorder q) (clean_rest (p ⨾ q) (preorder p ++ preorder q) c)))
    (clean_pass q (clean_right (preorder p) (preorder q) (clean_rest (p ⨾ q) (preorder p ++ preorder q) c)))
clean_pass (loop p) c =
    both_true (not (codes_of p 0)) (loops_pass p) (ap not (is_false (codes_of p 0) (c 0))) (clean_pass p (clean_rest (loop p) (preorder p) c))
clean_pass (p parallel q) c =
    both_true (loops_pass p) (loops_pass q) (clean_pass p (clean_left (preorder p) (preorder q) (clean_rest (p parallel q) (preorder p ++ preorder q) c)))
    (clean_pass q (clean_right (preorder p) (preorder q) (clean_rest (p parallel q) (preorder p ++ preorder q) c)))
clean_pass (trap p) c = clean_pass p (clean_rest (trap p) (preorder p) c)
clean_pass (exit d) c = refl
clean_pass (local s p) c = clean_pass p (clean_rest (local s p) (preorder p) c)

pub none_clean : (t : Stmt) → lowest_endless t ≡ none → Clean (preorder t)
unfolding lowest_endless endless
none_clean t e n = go (dec_lt n (statements t))
  where
    go : Dec (n < statements t) → T (endless (numbered t n)) → ⊥
    go (yes l) x = lowest_none (statements t) (λ n. endless (numbered t n)) e n l x
    go (no l) x = subst (λ (p : Stmt). T (endless p)) (get_or-eq_default (preorder t) nothing {n = n} (omega (arith, all_counted t))) x

both_are : (s t : Bool) → (s && t) ≡ true → (s ≡ true) × (t ≡ true)
both_are true t e = (refl, e)
both_are false t e = let z : ◌≡◌ {A = ℕ} 0 1 = cc in absurd (omega arith)

-- And a tree that passes has none.
clean_more : (p : Stmt) (ps : List Stmt) → (T (endless p) → ⊥) → Clean ps → Clean (p ∷ ps)
clean_more p ps e c zero = e
clean_more p ps e c (suc n) = c n

clean_both : (ps qs : List Stmt) → Clean ps → Clean qs → Clean (ps ++ qs)
clean_both [] qs c d = d
clean_both (p ∷ ps) qs c d = clean_more p (ps ++ qs) (c 0) (clean_both ps qs (clean_rest p ps c) d)

pass_clean : (t : Stmt) → loops_pass t ≡ true → Clean (preorder t)
unfolding loops_pass preorder endless
pass_clean nothing e = clean_more nothing [] (λ x. x) (λ n x. x)
pass_clean (pause n) e = clean_more (pause n) [] (λ x. x) (λ n x. x)
pass_clean (emit s) e = clean_more (emit s) [] (λ x. x) (λ n x. x)
pass_clean (present? s then p else q) e =
    let f = both_are (loops_pass p) (loops_pass q) e in clean_more (present? s then p else q) (preorder p ++ preorder q) (λ x. x)
    (clean_both (preorder p) (preorder q) (pass_clean p f.0) (pass_clean q f.1))
pass_clean (suspend p on s) e = clean_more (suspend p on s) (preorder p) (λ x. x) (pass_clean p e)
pass_clean (p ⨾ q) e =
    let f = both_are (loops_pass p) (loops_pass q) e in clean_more (p ⨾ q) (preorder p ++ preorder q) (λ x. x) (clean_both (preorder p) (preorder q) (pass_clean p f.0) (pass_clean q f.1))
pass_clean (loop p) e =
    let f = both_are (not (codes_of p 0)) (loops_pass p) e in clean_more (loop p) (preorder p) (of_false (not-true (codes_of p 0) f.0)) (pass_clean p f.1)
pass_clean (p parallel q) e =
    let f = both_are (loops_pass p) (loops_pass q) e in clean_more (p parallel q) (preorder p ++ preorder q) (λ x. x) (clean_both (preorder p) (preorder q) (pass_clean p f.0) (pass_clean q f.1))
pass_clean (trap p) e = clean_more (trap p) (preorder p) (λ x. x) (pass_clean p e)
pass_clean (exit d) e = clean_more (exit d) [] (λ x. x) (λ n x. x)
pass_clean (local s p) e = clean_more (local s p) (preorder p) (λ x. x) (pass_clean p e)

pub none_endless : (t : Stmt) → loops_pass t ≡ true → lowest_endless t ≡ none
unfolding lowest_endless
none_endless t e = lowest_empty (statements t) (λ n. endless (numbered t n)) (λ n l. pass_clean t e n)

-- A good header: its bytes are there, with its kind, length and edition.
pub record Headed (b : List ℕ) : Type 0 where
  pub there : 14 ≤ length b
  pub its_length : length_at b 0 ≡ 14
  pub its_kind : kind_at b 0 ≡ 1
  pub its_edition : two_bytes b 4 ≡ 1

pub headed : (b : List ℕ) → header_fault b ≡ 0 → Headed b
unfolding header_fault
headed b e =
    let e₁ = none_of (is_broken b 0) 0 _ e in
    let e₂ = none_of (not (eqb (kind_at b 0) 1 && eqb (length_at b 0) 14)) 1 _ e₁.1 in
    let e₃ = none_of (not (eqb (two_bytes b 4) 1)) 2 _ e₂.1 in
    let both = both_are (eqb (kind_at b 0) 1) (eqb (length_at b 0) 14) (not-false _ e₂.0) in
    let w = broken_none b 0 e₁.0 in
    let l : length_at b 0 ≡ 14 = eqb-true _ _ both.1 in
    record { there = omega (arith, w.2); its_length = l; its_kind = eqb-true _ _ both.0; its_edition = eqb-true _ _ (not-false _ e₃.0) }

-- The signals of a good header.
pub header_fits : (b : List ℕ) → header_fault b ≡ 0 → (header b).inputs + (header b).outputs + (header b).locals ≤ 64
unfolding header_fault
header_fits b e =
    let e₁ = none_of (is_broken b 0) 0 _ e in
    let e₂ = none_of (not (eqb (kind_at b 0) 1 && eqb (length_at b 0) 14)) 1 _ e₁.1 in
    let e₃ = none_of (not (eqb (two_bytes b 4) 1)) 2 _ e₂.1 in
    let e₄ = none_of (ltb 64 ((header b).inputs + (header b).outputs + (header b).locals)) 3 0 e₃.1 in
    ltb-false 64 ((header b).inputs + (header b).outputs + (header b).locals) e₄.0

-- The way to a good reading.
refused_not : {P : Type 0} {g : Good} {n at : ℕ} → turned_down n at ≡ good g → P
refused_not e = let z : ◌≡◌ {A = ℕ} 0 1 = cc in absurd (omega arith)

first_good : (t : Bool) (n at : ℕ) (y : Reading) {g : Good} → cond t (turned_down n at) y ≡ good g → (t ≡ false) × (y ≡ good g)
first_good true n at y e = refused_not e
first_good false n at y e = (refl, e)

second_good : (t : Bool) (y : Reading) (n at : ℕ) {g : Good} → cond t y (turned_down n at) ≡ good g → (t ≡ true) × (y ≡ good g)
second_good true y n at e = (refl, e)
second_good false y n at e = refused_not e

checked_good : (g : Good) (o : Option ℕ) {g₁ : Good} → loops_checked g o ≡ good g₁ → (o ≡ none) × (g ≡ g₁)
unfolding loops_checked
checked_good g none e = (refl, cc)
checked_good g (some n) e = refused_not e

-- How a good reading ends.
record Ended (b : List ℕ) (h : Header) (x : Got) (g : Good) : Type 0 where
  tree_is : x ≡ got g.body (record { place = length b; statements = g.statements; pauses = g.pauses; locals = h.locals })
  header_is : g.header ≡ h
  no_endless : lowest_endless g.body ≡ none

ended_good : (b : List ℕ) (h : Header) (x : Got) (g : Good) → ended b h x ≡ good g → Ended b h x g
unfolding ended
ended_good b h (refused n at) g e = refused_not e
ended_good b h (got p r) g e =
    let e₁ = second_good (eqb r.place (length b) && eqb r.locals h.locals) _ _ _ e in
    let e₂ = both_are (eqb r.place (length b)) (eqb r.locals h.locals) e₁.0 in
    let e₃ = checked_good (record { header = h; body = p; statements = r.statements; pauses = r.pauses }) (lowest_endless p) e₁.1 in
    let ep = eqb-true r.place (length b) e₂.0 in
    let el = eqb-true r.locals h.locals e₂.1 in
    record {
      tree_is = λ i. got (e₃.1 i).body (record { place = ep i; statements = (e₃.1 i).statements; pauses = (e₃.1 i).pauses; locals = el i });
      header_is = sym (ap (λ (x : Good). x.header) e₃.1);
      no_endless = subst (λ (q : Stmt). lowest_endless q ≡ none) (ap (λ (x : Good). x.body) e₃.1) e₃.0;
    }

-- What a good reading gives.
pub record Sound (b : List ℕ) (g : Good) : Type 0 where
  pub size : length b ≤ 3086
  pub its_header : g.header ≡ header b
  pub signals : g.header.inputs + g.header.outputs + g.header.locals ≤ 64
  pub counted : g.statements ≡ statements g.body
  pub few_statements : g.statements ≤ 512
  pub paused : g.pauses ≡ length (pauses g.body)
  pub few_pauses : g.pauses ≤ 128
  pub loops : loops_pass g.body ≡ true
  pub trapped : Trapped 0 g.body
  pub pauses_numbered : Numbered 0 g.body
  pub small : Small g.body
  pub scoped : Scoped g.header.inputs g.header.outputs empty g.body
  pub whole : 14 + bytes (preorder g.body) ≡ length b
  pub paths : path g.body ≤ 64
  pub traps_nested : nested_traps g.body ≤ 16
  pub locals_nested : nested_locals g.body ≤ 6
  pub locals_counted : g.header.locals ≡ length (locals g.body)
  pub locals_next : Next (g.header.inputs + g.header.outputs) g.body
  pub locals_apart : Apart empty g.body

pub outermost_fits : AroundFits outermost
outermost_fits = record { few_traps = omega arith; few_nested = omega arith; small_scope = λ s e. absurd e }

pub begun_counts : (h : Header) → Counts h begun
begun_counts h = record { few_pauses = omega arith; few_locals = omega arith }

abbrev pub statements_read : List ℕ → Reading
statements_read b = ended b (header b) (read 64 b (header b) outermost begun)

pub reading_is : (b : List ℕ) → reading b ≡ cond (ltb 3086 (length b)) (turned_down LIMIT 0) (cond (eqb (header_fault b) 0) (statements_read b) (turned_down (header_fault b) 0))
unfolding reading
reading_is b = refl

-- The way to a good reading: its size, its header, and the tree that was read to the last byte.
pub record Whole (b : List ℕ) (g : Good) : Type 0 where
  pub size : length b ≤ 3086
  pub no_fault : header_fault b ≡ 0
  pub its_header : g.header ≡ header b
  pub its_tree : read 64 b (header b) outermost begun ≡ got g.body (record { place = length b; statements = g.statements; pauses = g.pauses; locals = (header b).locals })
  pub no_endless : lowest_endless g.body ≡ none

pub read_whole : (b : List ℕ) (g : Good) → reading b ≡ good g → Whole b g
read_whole b g e =
    let e₁ = first_good (ltb 3086 (length b)) LIMIT 0 (cond (eqb (header_fault b) 0) (statements_read b) (turned_down (header_fault b) 0)) (sym (reading_is b) ∙ e) in
    let e₂ = second_good (eqb (header_fault b) 0) (statements_read b) (header_fault b) 0 e₁.1 in
    let end = ended_good b (header b) (read 64 b (header b) outermost begun) g e₂.1 in
    record { size = ltb-false _ _ e₁.0; no_fault = eqb-true _ _ e₂.0; its_header = end.header_is; its_tree = end.tree_is; no_endless = end.no_endless }

pub sound : (b : List ℕ) (g : Good) → reading b ≡ good g → Sound b g
sound b g e =
    let h = header b in
    let w = read_whole b g e in
    let fits = header_fits b w.no_fault in
    let t = tree b h fits outermost_fits (begun_counts h) (parsed b h 64 outermost begun _ _ w.its_tree) in
    let eh = w.its_header in
    let next_is : h.inputs + h.outputs + 0 ≡ g.header.inputs + g.header.outputs = add-zero (h.inputs + h.outputs) ∙ sym (ap (λ (h : Header). h.inputs + h.outputs) eh) in
    record {
      size = w.size;
      its_header = eh;
      signals = subst (λ (h : Header). h.inputs + h.outputs + h.locals ≤ 64) (sym eh) fits;
      counted = t.counted ∙ zero-add (statements g.body);
      few_statements = t.few_statements;
      paused = t.paused ∙ zero-add (length (pauses g.body));
      few_pauses = t.counts.few_pauses;
      loops = clean_pass g.body (none_clean g.body w.no_endless);
      trapped = t.trapped;
      pauses_numbered = t.numbered;
      small = t.small;
      scoped = subst (λ (h : Header). Scoped h.inputs h.outputs empty g.body) (sym eh) t.scoped;
      whole = sym t.ends_at;
      paths = t.path_fits;
      traps_nested = omega (arith, t.traps_fit);
      locals_nested = omega (arith, t.locals_fit);
      locals_counted = ap (λ (h : Header). h.locals) eh ∙ t.declared ∙ zero-add (length (locals g.body));
      locals_next = subst (λ (n : ℕ). Next n g.body) next_is t.next;
      locals_apart = next_apart empty _ g.body (λ s e. absurd e) t.next;
    }

-- A refusal's number is one of document 01's 1 to 8.
abbrev pub InRange : ℕ → Type 0
InRange n = (1 ≤ n) × (n ≤ 8)

chosen_small : (t : Bool) (m n : ℕ) → m ≤ 8 → n ≤ 8 → cond t m n ≤ 8
chosen_small true m n h g = h
chosen_small false m n h g = g

fault_small : (room : ℕ) (b : List ℕ) (h : Header) (a : Around) (r : Sofar) → statement_fault room b h a r ≤ 8
unfolding statement_fault
fault_small room b h a r =
    let k = kind_at b r.place in
    let x = operand_at b r.place in
    chosen_small (leb (length b) r.place) 7 _ (lit≤ tt)
    (chosen_small (is_broken b r.place) 1 _ (lit≤ tt)
    (chosen_small (not (eqb (length_of k) (length_at b r.place))) 2 _ (lit≤ tt)
    (chosen_small (over_limit room a r k) 4 _ (lit≤ tt)
    (chosen_small (wrong_signal h a r k x) 5 _ (lit≤ tt)
    (chosen_small (wrong_exit a k x) 6 0 (lit≤ tt) (lit≤ tt))))))

header_fault_small : (b : List ℕ) → header_fault b ≤ 8
unfolding header_fault
header_fault_small b =
    chosen_small (is_broken b 0) 1 _ (lit≤ tt)
    (chosen_small (not (eqb (kind_at b 0) 1 && eqb (length_at b 0) 14)) 2 _ (lit≤ tt)
    (chosen_small (not (eqb (two_bytes b 4) 1)) 3 _ (lit≤ tt)
    (chosen_small (ltb 64 ((header b).inputs + (header b).outputs + (header b).locals)) 4 0 (lit≤ tt) (lit≤ tt))))

in_range : (n : ℕ) → (n ≡ 0 → ⊥) → n ≤ 8 → InRange n
in_range n z l = (pos_of_ne-zero z, l)

same_number : {m n at place : ℕ} → refused m at ≡ refused n place → InRange m → InRange n
same_number {m} {n} e r = let q : m ≡ n = cc in subst InRange q r

then_range : (x : Got) (f : Stmt → Sofar → Got) {n at : ℕ} → and_then x f ≡ refused n at → ((m place : ℕ) → x ≡ refused m place → InRange m)
    → ((p : Stmt) (r : Sofar) → f p r ≡ refused n at → InRange n) → InRange n
then_range (got p r) f e first rest = rest p r e
then_range (refused m place) f e first rest = same_number e (first m place refl)

not_refused : {P : Type 0} {n at : ℕ} {p : Stmt} {r : Sofar} → got p r ≡ refused n at → P
not_refused e = let z : ◌≡◌ {A = ℕ} 0 1 = cc in absurd (omega arith)

refused_range : (b : List ℕ) (h : Header) (room : ℕ) (a : Around) (r : Sofar) (n at : ℕ) → read room b h a r ≡ refused n at → InRange n
unfolding read
refused_range b h zero a r n at e =
    same_number e (in_range (statement_fault zero b h a r) (λ z. (passes zero b h a r z).roomy refl) (fault_small zero b h a r))
refused_range b h (suc room) a r n at e =
    ⊎_elim (λ passed. by_kind (refused_range b h room (inside k x a)) passed (passes (suc room) b h a r passed).its_kind)
    (λ z. same_number (sym (read_fault b h room a r z) ∙ e) (in_range _ z (fault_small (suc room) b h a r))) (is? (statement_fault (suc room) b h a r) 0)
  where
    k : ℕ
    k = kind_at b r.place

    x : ℕ
    x = operand_at b r.place

    by_kind : ((r' : Sofar) (m place : ℕ) → read room b h (inside k x a) r' ≡ refused m place → InRange m)
        → statement_fault (suc room) b h a r ≡ 0 → Kind k → InRange n
    by_kind child passed (leafs v) = not_refused (sym (read_leaf b h room a r passed (leaf_children v)) ∙ e)
    by_kind child passed (aboves v) =
        then_range (read room b h (inside k x a) (past k r)) _ (sym (read_above b h room a r passed (above_children v)) ∙ e) (child (past k r)) (λ p r₁. not_refused)
    by_kind child passed (joins v) =
        then_range (read room b h (inside k x a) (past k r)) _ (sym (read_joined b h room a r passed (joined_children v)) ∙ e) (child (past k r))
        (λ p r₁ f. then_range (read room b h (inside k x a) r₁) _ f (child r₁) (λ q r₂. not_refused))

good_not : {P : Type 0} {g : Good} {n at : ℕ} → good g ≡ turned_down n at → P
good_not e = let z : ◌≡◌ {A = ℕ} 0 1 = cc in absurd (omega arith)

same_turned : {m n at place : ℕ} → turned_down m at ≡ turned_down n place → InRange m → InRange n
same_turned {m} {n} e r = let q : m ≡ n = cc in subst InRange q r

checked_range : (g : Good) (o : Option ℕ) {n at : ℕ} → loops_checked g o ≡ turned_down n at → InRange n
unfolding loops_checked
checked_range g none e = good_not e
checked_range g (some k) e = same_turned e (lit≤ tt, lit≤ tt)

ended_range : (b : List ℕ) (h : Header) (x : Got) {n at : ℕ} → ended b h x ≡ turned_down n at → ((m place : ℕ) → x ≡ refused m place → InRange m) → InRange n
unfolding ended
ended_range b h (refused m place) e f = same_turned e (f m place refl)
ended_range b h (got p r) {n} {at} e f = go (eqb r.place (length b) && eqb r.locals h.locals) e
  where
    go : (z : Bool) → cond z (loops_checked (record { header = h; body = p; statements = r.statements; pauses = r.pauses }) (lowest_endless p)) (turned_down 7 r.place) ≡ turned_down n at
        → InRange n
    go true q = checked_range _ (lowest_endless p) q
    go false q = same_turned q (lit≤ tt, lit≤ tt)

pub numbers : (b : List ℕ) (n at : ℕ) → reading b ≡ turned_down n at → InRange n
numbers b n at e = go (ltb 3086 (length b)) (is? (header_fault b) 0) (sym (reading_is b) ∙ e)
  where
    go : (z : Bool) → (header_fault b ≡ 0) ⊎ (header_fault b ≡ 0 → ⊥)
        → cond z (turned_down LIMIT 0) (cond (eqb (header_fault b) 0) (statements_read b) (turned_down (header_fault b) 0)) ≡ turned_down n at → InRange n
    go true d q = same_turned q (lit≤ tt, lit≤ tt)
    go false (inl d) q =
        ended_range b (header b) (read 64 b (header b) outermost begun) (simp (eq-eqb (header_fault b) 0 d) at q) (refused_range b (header b) 64 outermost begun)
    go false (inr d) q = same_turned (simp (ne_eqb (header_fault b) 0 d) at q) (in_range _ d (header_fault_small b))
