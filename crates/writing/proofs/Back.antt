-- Reading what was written gives the same tree back, or LIMIT where it passes a limit. A tree that is in order where its records stand is read there, by the reading's
-- equations for its own record and the same for its children, or a record passes a limit; then the header, the size, the end and the loops. Assumes nothing.
use mathlib.Core.Path.{◌≡◌, refl, sym, ap, ap₂, ◌∙◌, subst, subst₂}
use mathlib.Core.Bool.{Bool, true, false, cond, ◌&&◌}
use mathlib.Core.List.{List, [], ◌∷◌, ◌++◌, append_assoc, append-nil}
use Prim.Native.Nat.{ℕ, zero, suc, ◌+◌, ◌*◌, ◌/◌, ◌%◌, ◌≤◌, ◌<◌}
use native.Mathlib.Nat.{add-zero, zero-add}
use native.Mathlib.Decide.{dec_le}
use native.Mathlib.Omega.{arith}
use borrow.Author.Tests.{eq-eqb, lt-ltb, le-ltb}
use lib.Dec.{eqb, ltb}
use lib.ListN.{length, drop, length-append}
use Rattle.sets.specs.Numbers.{empty, listed}
use Rattle.rules.specs.Statements.{depth, Stmt, nothing, pause, emit, present?◌then◌else◌, suspend◌on◌, ◌⨾◌, loop, ◌parallel◌, trap, exit, local, pauses, Numbered, Trapped}
use Rattle.rules.specs.Loops.{loops_pass}
use Rattle.tables.specs.Table.{kind_of, operand_of, statements}
use Rattle.block.specs.Format.{LIMIT, Header, header, header_fault, is_broken, Around, Sofar, Got, got, refused, and_then, Good, good, turned_down, reading}
use Rattle.block.specs.Format.{length_at, operand_at, over_limit, statement_fault}
use Rattle.block.specs.Format.{past, inside, leaf, above, joined, read, ended, loops_checked, preorder, bytes, outermost, begun}
use Rattle.tables.specs.Codes.{lowest_endless}
use Rattle.tables.specs.Kinds.{shape, length_of, children_of}
use Rattle.block.specs.Good.{Scoped, locals, Next}
use Rattle.block.proofs.Views.{Leaf, Above, Joined, Kind, leafs, aboves, joins, a_nothing, a_pause, an_emit, an_exit, a_suspend, a_loop, a_trap, a_local, a_present, a_sequence, a_parallel}
use Rattle.block.proofs.Views.{leaf_children, above_children, joined_children, known_length}
use Rattle.block.proofs.Passes.{Passes, passes, no_fault, is_whole}
use Rattle.block.proofs.Parse.{read_fault, read_leaf, read_above, read_joined}
use Rattle.block.proofs.Built.{leaf_builds, above_builds, joined_builds}
use Rattle.block.proofs.Nesting.{leaf_nests, above_nests, joined_nests, row_tail}
use Rattle.block.proofs.Trees.{AroundFits, small_signal, inside_fits, above_no_pause, joined_no_pause, leaf_numbered, locals_counted}
use Rattle.block.proofs.Tests.{fault_due, as_limit, as_last, header_signals}
use Rattle.tables.proofs.Places.{all_counted}
use Rattle.block.proofs.Offsets.{length_small}
use Rattle.block.proofs.GoodReadings.{Sound, sound, none_endless, outermost_fits, statements_read, reading_is}
use Rattle.records.specs.Numerals.{in_bytes}
use Rattle.writing.specs.Written.{record_bytes, records, header_bytes, block_bytes, Writable, written}
use Rattle.writing.proofs.Records.{RecordAt, record_at, left_after, operand_there, leaf_records, above_records, joined_records, length_record}
use Rattle.writing.proofs.Fits.{Legible, Fits, after, Own, leaf_own, above_own, joined_own, declares, right_signal, right_exit, fits_pass}
use Rattle.writing.proofs.Fits.{above_legible, first_legible, second_legible, above_fits, first_fits, second_fits}

-- Two counts of what has been read are the same if their four numbers are.
same_sofar : {r s : Sofar} → r.place ≡ s.place → r.statements ≡ s.statements → r.pauses ≡ s.pauses → r.locals ≡ s.locals → r ≡ s
same_sofar e f g h = λ i. record { place = e i; statements = f i; pauses = g i; locals = h i }

-- What has been read after a tree, from its record and its children.
after_leaf : {k : ℕ} (x : ℕ) (r : Sofar) → Leaf k → past k r ≡ after (leaf k x r.pauses) r
unfolding past
after_leaf {k} x r v =
    let m = leaf_builds x r.pauses v in
    let n = leaf_numbered r.pauses (leaf k x r.pauses) v m.its_pauses in
    same_sofar (omega (arith, m.its_bytes)) (omega (arith, m.its_statements)) (omega (arith, n.0)) (omega (arith, locals_counted (leaf_nests x r.pauses v)))

after_above : {k : ℕ} (x : ℕ) (p : Stmt) (r : Sofar) → Above k → after p (past k r) ≡ after (above k x p) r
unfolding past
after_above {k} x p r v =
    let m = above_builds x r.pauses p v in
    same_sofar (omega (arith, m.its_bytes)) (omega (arith, m.its_statements)) (omega (arith, above_no_pause v, ap (λ (l : List ℕ). length l) m.its_pauses))
    (omega (arith, locals_counted (above_nests x p v)))

after_joined : {k : ℕ} (x : ℕ) (p q : Stmt) (r : Sofar) → Joined k → after q (after p (past k r)) ≡ after (joined k x p q) r
unfolding past
after_joined {k} x p q r v =
    let m = joined_builds x r.pauses p q v in
    same_sofar (omega (arith, m.its_bytes)) (omega (arith, m.its_statements))
    (omega (arith, joined_no_pause v, ap (λ (l : List ℕ). length l) m.its_pauses, length-append (pauses p) (pauses q)))
    (omega (arith, locals_counted (joined_nests x p q v), length-append (locals p) (locals q)))

-- The bytes of a tree, from its own record on.
leaf_first : (b : List ℕ) (at : ℕ) {k : ℕ} (x n : ℕ) (rest : List ℕ) → Leaf k → drop at b ≡ records (preorder (leaf k x n)) ++ rest → drop at b ≡ record_bytes k x ++ rest
leaf_first b at {k} x n rest v e = e ∙ ap (λ (l : List ℕ). l ++ rest) (leaf_records x n v ∙ append-nil (record_bytes k x))

above_first : (b : List ℕ) (at : ℕ) {k : ℕ} (x : ℕ) (p : Stmt) (rest : List ℕ) → Above k → drop at b ≡ records (preorder (above k x p)) ++ rest
    → drop at b ≡ record_bytes k x ++ (records (preorder p) ++ rest)
above_first b at {k} x p rest v e = e ∙ ap (λ (l : List ℕ). l ++ rest) (above_records x p v) ∙ append_assoc (record_bytes k x) (records (preorder p)) rest

joined_first : (b : List ℕ) (at : ℕ) {k : ℕ} (x : ℕ) (p q : Stmt) (rest : List ℕ) → Joined k → drop at b ≡ records (preorder (joined k x p q)) ++ rest
    → drop at b ≡ record_bytes k x ++ (records (preorder p) ++ (records (preorder q) ++ rest))
joined_first b at {k} x p q rest v e =
    e ∙ ap (λ (l : List ℕ). l ++ rest) (joined_records x p q v) ∙ append_assoc (record_bytes k x) (records (preorder p) ++ records (preorder q)) rest
    ∙ ap (λ (l : List ℕ). record_bytes k x ++ l) (append_assoc (records (preorder p)) (records (preorder q)) rest)

kind_known : (p : Stmt) → Kind (kind_of p)
unfolding kind_of
kind_known nothing = leafs a_nothing
kind_known (pause n) = leafs a_pause
kind_known (emit s) = leafs an_emit
kind_known (present? s then p else q) = joins a_present
kind_known (suspend p on s) = aboves a_suspend
kind_known (p ⨾ q) = joins a_sequence
kind_known (loop p) = aboves a_loop
kind_known (p parallel q) = joins a_parallel
kind_known (trap p) = aboves a_trap
kind_known (exit d) = leafs an_exit
kind_known (local s p) = aboves a_local

pub length_records : (ps : List Stmt) → length (records ps) ≡ bytes ps
unfolding records bytes
length_records [] = refl
length_records (p ∷ ps) =
    length-append (record_bytes (kind_of p) (operand_of p)) (records ps) ∙ ap₂ (λ (m n : ℕ). m + n) (length_record (operand_of p) (kind_known p)) (length_records ps)

-- Where a child's records stand: behind the record, and behind the first child's records.
module _ (b : List ℕ) (at : ℕ) (p : Stmt) (rest : List ℕ) (l : at ≤ length b) (e : drop at b ≡ records (preorder p) ++ rest) where
  pub ends_in : at + bytes (preorder p) ≤ length b
  ends_in = omega (arith, (left_after b at (records (preorder p)) rest l e).0, length_records (preorder p))

  pub behind : drop (at + bytes (preorder p)) b ≡ rest
  behind = ap (λ (n : ℕ). drop (at + n) b) (sym (length_records (preorder p))) ∙ (left_after b at (records (preorder p)) rest l e).1

module _ (b : List ℕ) (h : Header) (fits : h.inputs + h.outputs + h.locals ≤ 64) where
  -- What reading a tree comes to: the tree, or LIMIT where it does not fit.
  pub data Comes (room : ℕ) (a : Around) (r : Sofar) (t : Stmt) : Type 0 where
    is_got : read room b h a r ≡ got t (after t r) → Comes room a r t
    is_over : (at : ℕ) → read room b h a r ≡ refused LIMIT at → (Fits room h a r t → ⊥) → Comes room a r t

  -- The equations of the reading, for a record of kind k and operand x that stands at the place.
  module _ (a : Around) (r : Sofar) {k : ℕ} (x : ℕ) {rest : List ℕ} (w : RecordAt b r.place k rest) (o : operand_at b r.place ≡ x) where
    good_here : (room : ℕ) → Passes room (length b) h a r k x → statement_fault room b h a r ≡ 0
    good_here room p =
        no_fault room b h a r (ap length_of w.its_kind ∙ sym w.its_length) (subst₂ (Passes room (length b) h a r) (sym w.its_kind) (sym o) p)

    due : Kind k → r.place < length b
    due v = let long : 4 ≤ length_of k = (known_length v).0 in omega (arith, w.ends)

    whole : Kind k → is_broken b r.place ≡ false
    whole v =
        let long : 4 ≤ length_of k = (known_length v).0 in
        is_whole b r.place (omega (arith, w.ends)) (omega (arith, w.its_length)) (omega (arith, w.ends, w.its_length))

    -- Its number is LIMIT or none.
    fault_is : (room : ℕ) {t : Stmt} → Kind k → Own h a k x t → (k ≡ 26 → (r.locals < h.locals) × (x ≡ h.inputs + h.outputs + r.locals)) → (z : Bool) → over_limit room a r k ≡ z
        → statement_fault room b h a r ≡ cond z LIMIT 0
    fault_is room v own d true e = fault_due room b h a r (due v) k (sym w.its_kind) ∙ as_limit room b h a r k (whole v) (length_at b r.place) refl (sym w.its_length) e
    fault_is room v own d false e =
        fault_due room b h a r (due v) k (sym w.its_kind)
        ∙ as_last room b h a r k (whole v) (length_at b r.place) refl (sym w.its_length) e x (sym o) (right_signal h a r x v own d) false (sym (right_exit h a r x k own))

    refused_here : (room : ℕ) → statement_fault room b h a r ≡ LIMIT → read room b h a r ≡ refused LIMIT r.place
    unfolding read
    refused_here zero e = ap (λ (n : ℕ). refused n r.place) e
    refused_here (suc room) e = read_fault b h room a r (λ z. let y : ◌≡◌ {A = ℕ} 4 0 = sym e ∙ z in omega arith) ∙ ap (λ (n : ℕ). refused n r.place) e

    by_limit : (room : ℕ) {t : Stmt} → ((z : Bool) → over_limit room a r k ≡ z → statement_fault room b h a r ≡ cond z LIMIT 0)
        → (Fits room h a r t → Passes room (length b) h a r k x) → ((n : ℕ) → room ≡ suc n → statement_fault (suc n) b h a r ≡ 0 → Comes (suc n) a r t) → Comes room a r t
    unfolding over_limit
    by_limit zero q f g = is_over r.place (refused_here zero (q true refl)) (λ y. (f y).roomy refl)
    by_limit (suc n) {t} q f g = go (over_limit (suc n) a r k) refl
      where
        go : (z : Bool) → over_limit (suc n) a r k ≡ z → Comes (suc n) a r t
        go true e = is_over r.place (refused_here (suc n) (q true e)) (λ y. let c : ◌≡◌ {A = ℕ} 4 0 = sym (q true e) ∙ good_here (suc n) (f y) in omega arith)
        go false e = g n refl (q false e)

    module _ (room : ℕ) (good : statement_fault (suc room) b h a r ≡ 0) where
      around : AroundFits a → AroundFits (inside k x a)
      around s = inside_fits h fits s k (subst₂ (Passes (suc room) (length b) h a r) w.its_kind o (passes (suc room) b h a r good))

      back_leaf : Leaf k → read (suc room) b h a r ≡ got (leaf k x r.pauses) (after (leaf k x r.pauses) r)
      back_leaf v =
          read_leaf b h room a r good (ap children_of w.its_kind ∙ leaf_children v) ∙ (λ i. got (leaf (w.its_kind i) (o i) r.pauses) (past (w.its_kind i) r))
          ∙ ap (got (leaf k x r.pauses)) (after_leaf x r v)

      above_is : Above k → read (suc room) b h a r ≡ and_then (read room b h (inside k x a) (past k r)) (λ p r₁. got (above k x p) r₁)
      above_is v =
          read_above b h room a r good (ap children_of w.its_kind ∙ above_children v)
          ∙ (λ i. and_then (read room b h (inside (w.its_kind i) (o i) a) (past (w.its_kind i) r)) (λ p r₁. got (above (w.its_kind i) (o i) p) r₁))

      back_above : (p : Stmt) → Above k → Comes room (inside k x a) (past k r) p → Comes (suc room) a r (above k x p)
      back_above p v (is_got e) = is_got (above_is v ∙ ap (λ (g : Got). and_then g (λ p r₁. got (above k x p) r₁)) e ∙ ap (got (above k x p)) (after_above x p r v))
      back_above p v (is_over at e n) = is_over at (above_is v ∙ ap (λ (g : Got). and_then g (λ p r₁. got (above k x p) r₁)) e) (λ f. n (above_fits x p v f))

      joined_is : Joined k → read (suc room) b h a r
          ≡ and_then (read room b h (inside k x a) (past k r)) (λ p r₁. and_then (read room b h (inside k x a) r₁) (λ q r₂. got (joined k x p q) r₂))
      joined_is v =
          read_joined b h room a r good (ap children_of w.its_kind ∙ joined_children v)
          ∙ (λ i. and_then (read room b h (inside (w.its_kind i) (o i) a) (past (w.its_kind i) r))
          (λ p r₁. and_then (read room b h (inside (w.its_kind i) (o i) a) r₁) (λ q r₂. got (joined (w.its_kind i) (o i) p q) r₂)))

      abbrev second_child : Stmt → Sofar → Got
      second_child p r₁ = and_then (read room b h (inside k x a) r₁) (λ q r₂. got (joined k x p q) r₂)

      back_joined : (p q : Stmt) → Joined k → Comes room (inside k x a) (past k r) p → Comes room (inside k x a) (after p (past k r)) q → Comes (suc room) a r (joined k x p q)
      back_joined p q v (is_over at e n) c = is_over at (joined_is v ∙ ap (λ (g : Got). and_then g second_child) e) (λ f. n (first_fits x p q v f))
      back_joined p q v (is_got e) (is_over at d n) =
          is_over at (joined_is v ∙ ap (λ (g : Got). and_then g second_child) e ∙ ap (λ (g : Got). and_then g (λ q r₂. got (joined k x p q) r₂)) d) (λ f. n (second_fits x p q v f))
      back_joined p q v (is_got e) (is_got d) =
          is_got (joined_is v ∙ ap (λ (g : Got). and_then g second_child) e ∙ ap (λ (g : Got). and_then g (λ q r₂. got (joined k x p q) r₂)) d
          ∙ ap (got (joined k x p q)) (after_joined x p q r v))

  -- A tree is read back from where it stands.
  abbrev ReadsBack : Stmt → Type 0
  ReadsBack t = (room : ℕ) (a : Around) (r : Sofar) (rest : List ℕ) → AroundFits a → r.place ≤ length b → drop r.place b ≡ records (preorder t) ++ rest
      → Legible h a r t → Comes room a r t

  whole_leaf : {k : ℕ} (v : Leaf k) (room : ℕ) (a : Around) (r : Sofar) (x : ℕ) (rest : List ℕ) → r.place ≤ length b → drop r.place b ≡ records (preorder (leaf k x r.pauses)) ++ rest
      → operand_at b r.place ≡ x → Legible h a r (leaf k x r.pauses) → Comes room a r (leaf k x r.pauses)
  whole_leaf {k} v room a r x rest l e o f =
      let w = record_at b r.place k x _ (leafs v) l (leaf_first b r.place x r.pauses rest v e) in
      let nest = leaf_nests x r.pauses v in
      let own = leaf_own h a x r.pauses v f.trapped f.scoped in
      by_limit a r x w o room (fault_is a r x w o room (leafs v) own (declares nest f)) (λ y. fits_pass (leaf_builds x r.pauses v) nest y (leafs v) own w.ends)
      (λ n q good. is_got (back_leaf a r x w o n good v))

  whole_above : {k : ℕ} (v : Above k) (p : Stmt) → ReadsBack p → (room : ℕ) (a : Around) (r : Sofar) (x : ℕ) (rest : List ℕ) → AroundFits a → r.place ≤ length b
      → drop r.place b ≡ records (preorder (above k x p)) ++ rest → operand_at b r.place ≡ x → Legible h a r (above k x p) → Comes room a r (above k x p)
  unfolding past
  whole_above {k} v p child room a r x rest s l e o f =
      let w = record_at b r.place k x _ (aboves v) l (above_first b r.place x p rest v e) in
      let nest = above_nests x p v in
      let own = above_own h a x p v f.scoped in
      by_limit a r x w o room (fault_is a r x w o room (aboves v) own (declares nest f)) (λ y. fits_pass (above_builds x r.pauses p v) nest y (aboves v) own w.ends)
      (λ n q good. back_above a r x w o n good p v (child n (inside k x a) (past k r) rest (around a r x w o n good s) w.ends w.after (above_legible x p v f)))

  whole_joined : {k : ℕ} (v : Joined k) (p q : Stmt) → ReadsBack p → ReadsBack q → (room : ℕ) (a : Around) (r : Sofar) (x : ℕ) (rest : List ℕ) → AroundFits a → r.place ≤ length b
      → drop r.place b ≡ records (preorder (joined k x p q)) ++ rest → operand_at b r.place ≡ x → Legible h a r (joined k x p q) → Comes room a r (joined k x p q)
  unfolding past
  whole_joined {k} v p q first second room a r x rest s l e o f =
      let w = record_at b r.place k x _ (joins v) l (joined_first b r.place x p q rest v e) in
      let nest = joined_nests x p q v in
      let own = joined_own h a x p q v f.scoped in
      by_limit a r x w o room (fault_is a r x w o room (joins v) own (declares nest f)) (λ y. fits_pass (joined_builds x r.pauses p q v) nest y (joins v) own w.ends)
      (λ n z good. back_joined a r x w o n good p q v
      (first n (inside k x a) (past k r) (records (preorder q) ++ rest) (around a r x w o n good s) w.ends w.after (first_legible x p q v f))
      (second n (inside k x a) (after p (past k r)) rest (around a r x w o n good s) (ends_in b _ p _ w.ends w.after) (behind b _ p _ w.ends w.after) (second_legible x p q v f)))

  own_pause : (i n : ℕ) → Numbered i (pause n) → n ≡ i
  unfolding Numbered pauses
  own_pause i n e = (row_tail i n [] e).0

  next_small : {a : Around} {r : Sofar} {s : ℕ} {p : Stmt} → Legible h a r (local s p) → s < 64
  unfolding Next locals
  next_small {r = r} {s} {p} f = omega (arith, (row_tail _ s (locals p) f.next).0, f.locals_fit)

  pub back : (t : Stmt) → ReadsBack t
  unfolding leaf above joined Scoped Trapped shape listed
  back nothing room a r rest s l e f = whole_leaf a_nothing room a r _ rest l e refl f
  back (pause n) room a r rest s l e f =
      subst (λ (m : ℕ). drop r.place b ≡ records (preorder (pause m)) ++ rest → Legible h a r (pause m) → Comes room a r (pause m))
      (sym (own_pause r.pauses n f.numbered)) (λ e f. whole_leaf a_pause room a r _ rest l e refl f) e f
  back (emit x) room a r rest s l e f =
      let d = leaf_first b r.place x r.pauses rest an_emit e in
      let small : x < 65536 = omega (arith, small_signal h a x fits s f.scoped.1) in
      whole_leaf an_emit room a r x rest l e (operand_there b r.place 18 x rest refl small d) f
  back (present? x then p else q) room a r rest s l e f =
      let d = joined_first b r.place x p q rest a_present e in
      let small : x < 65536 = omega (arith, small_signal h a x fits s f.scoped.0) in
      whole_joined a_present p q (back p) (back q) room a r x rest s l e (operand_there b r.place 19 x _ refl small d) f
  back (suspend p on x) room a r rest s l e f =
      let d = above_first b r.place x p rest a_suspend e in
      let small : x < 65536 = omega (arith, small_signal h a x fits s f.scoped.0) in
      whole_above a_suspend p (back p) room a r x rest s l e (operand_there b r.place 20 x _ refl small d) f
  back (p ⨾ q) room a r rest s l e f = whole_joined a_sequence p q (back p) (back q) room a r _ rest s l e refl f
  back (loop p) room a r rest s l e f = whole_above a_loop p (back p) room a r _ rest s l e refl f
  back (p parallel q) room a r rest s l e f = whole_joined a_parallel p q (back p) (back q) room a r _ rest s l e refl f
  back (trap p) room a r rest s l e f = whole_above a_trap p (back p) room a r _ rest s l e refl f
  back (exit (depth x)) room a r rest s l e f =
      let d = leaf_first b r.place x r.pauses rest an_exit e in
      let small : x < 65536 = omega (arith, f.trapped, s.few_traps) in
      whole_leaf an_exit room a r x rest l e (operand_there b r.place 25 x rest refl small d) f
  back (local x p) room a r rest s l e f =
      let d = above_first b r.place x p rest a_local e in
      let small : x < 65536 = omega (arith, next_small f) in
      whole_above a_local p (back p) room a r x rest s l e (operand_there b r.place 26 x _ refl small d) f

-- A whole block. Its header is read back, no size or count is passed, and nothing is left after the tree.
pub bytes_most : (ps : List Stmt) → bytes ps ≤ 6 * length ps
unfolding bytes
bytes_most [] = omega arith
bytes_most (p ∷ ps) = omega (arith, bytes_most ps, length_small (kind_of p))

two_low_high : (x : ℕ) → x < 65536 → x % 256 + 256 * (x / 256 % 256) ≡ x
two_low_high x h =
    let q : x / 256 < 256 = omega arith in
    let r : x / 256 % 256 ≡ x / 256 = omega arith in
    omega arith

pub bytes_least : (ps : List Stmt) → 4 * length ps ≤ bytes ps
unfolding bytes
bytes_least [] = omega arith
bytes_least (p ∷ ps) = omega (arith, bytes_least ps, (known_length (kind_known p)).0)

few_locals : (t : Stmt) → length (locals t) ≤ statements t
unfolding locals statements
few_locals nothing = omega arith
few_locals (pause n) = omega arith
few_locals (emit s) = omega arith
few_locals (present? s then p else q) = omega (arith, few_locals p, few_locals q, length-append (locals p) (locals q))
few_locals (suspend p on s) = omega (arith, few_locals p)
few_locals (p ⨾ q) = omega (arith, few_locals p, few_locals q, length-append (locals p) (locals q))
few_locals (loop p) = omega (arith, few_locals p)
few_locals (p parallel q) = omega (arith, few_locals p, few_locals q, length-append (locals p) (locals q))
few_locals (trap p) = omega (arith, few_locals p)
few_locals (exit d) = omega arith
few_locals (local s p) = omega (arith, few_locals p)

module _ (h : Header) (rest : List ℕ) where
  abbrev b : List ℕ
  b = header_bytes h ++ rest

  pub behind_header : drop 14 b ≡ rest
  unfolding header_bytes in_bytes
  behind_header = refl

  length_header : length b ≡ 14 + length rest
  unfolding header_bytes in_bytes
  length_header = omega arith

  not_broken : is_broken b 0 ≡ false
  unfolding header_bytes in_bytes
  not_broken = is_whole b 0 (omega arith) (omega arith) (omega arith)

  module _ (version : h.version < 65536) (small : h.inputs + h.outputs + h.locals < 65536) where
    pub header_back : header b ≡ h
    unfolding header header_bytes in_bytes
    header_back =
        let v = two_low_high h.version version in
        let i = two_low_high h.inputs (omega arith) in
        let o = two_low_high h.outputs (omega arith) in
        let l = two_low_high h.locals (omega arith) in
        λ j. record { version = v j; inputs = i j; outputs = o j; locals = l j }

    header_limit : header_fault b ≡ cond (ltb 64 (h.inputs + h.outputs + h.locals)) LIMIT 0
    unfolding header_bytes in_bytes header header_fault
    header_limit =
        header_signals 1 b not_broken refl refl refl (ltb 64 (h.inputs + h.outputs + h.locals))
        (ap (λ (g : Header). ltb 64 (g.inputs + g.outputs + g.locals)) (sym header_back))

-- A block of which all is in order but the limits.
pub record Orderly (h : Header) (t : Stmt) : Type 0 where
  pub version_fits : h.version < 65536
  pub interface : h.inputs + h.outputs ≤ 64
  pub trapped : Trapped 0 t
  pub pauses_numbered : Numbered 0 t
  pub scoped : Scoped h.inputs h.outputs empty t
  pub locals_counted : h.locals ≡ length (locals t)
  pub locals_next : Next (h.inputs + h.outputs) t
  pub loops : loops_pass t ≡ true

orderly : {h : Header} {t : Stmt} → Writable h t → Orderly h t
orderly {h} w = record {
  version_fits = w.version_fits;
  interface = omega (arith, w.signals);
  trapped = w.trapped;
  pauses_numbered = w.pauses_numbered;
  scoped = w.scoped;
  locals_counted = w.locals_counted;
  locals_next = w.locals_next;
  loops = w.loops;
}

-- What reading it comes to: its header and tree, or LIMIT where it passes one.
pub data Reads (h : Header) (t : Stmt) : Type 0 where
  reads_good : reading (block_bytes h t) ≡ good (written h t) → Reads h t
  reads_over : (at : ℕ) → reading (block_bytes h t) ≡ turned_down LIMIT at → (Writable h t → ⊥) → Reads h t

module _ (h : Header) (t : Stmt) (w : Orderly h t) where
  size : length (block_bytes h t) ≡ 14 + bytes (preorder t)
  unfolding block_bytes
  size = length_header h (records (preorder t)) ∙ ap (λ (n : ℕ). 14 + n) (length_records (preorder t))

  size_fits : Writable h t → length (block_bytes h t) ≤ 3086
  size_fits f = omega (arith, size, bytes_most (preorder t), all_counted t, f.few_statements)

  is_legible : Legible h outermost begun t
  is_legible = record {
    locals_fit = omega (arith, w.locals_counted);
    trapped = w.trapped;
    numbered = w.pauses_numbered;
    scoped = w.scoped;
    next = subst (λ (n : ℕ). Next n t) (sym (add-zero (h.inputs + h.outputs))) w.locals_next;
  }

  tree_fits : Writable h t → Fits 64 h outermost begun t
  tree_fits f = record {
    path_fits = f.paths;
    statements_fit = omega (arith, f.few_statements);
    pauses_fit = omega (arith, f.few_pauses);
    traps_fit = omega (arith, f.traps_nested);
    nested_fit = omega (arith, f.locals_nested);
    legible = is_legible;
  }

  ended_well : ended (block_bytes h t) h (got t (after t begun)) ≡ good (written h t)
  unfolding ended loops_checked
  ended_well =
      let g : Good = record { header = h; body = t; statements = 0 + statements t; pauses = 0 + length (pauses t) } in
      ap₂ (λ (x y : Bool). cond (x && y) (loops_checked g (lowest_endless t)) (turned_down 7 (14 + bytes (preorder t))))
      (eq-eqb _ _ (sym size)) (eq-eqb _ _ (zero-add (length (locals t)) ∙ sym w.locals_counted))
      ∙ ap (loops_checked g) (none_endless t w.loops)
      ∙ (λ i. good (record { header = h; body = t; statements = zero-add (statements t) i; pauses = zero-add (length (pauses t)) i }))

  -- The size test, the header's signals, and the tree, one after the other.
  past_size : length (block_bytes h t) ≤ 3086
      → reading (block_bytes h t) ≡ cond (eqb (header_fault (block_bytes h t)) 0) (statements_read (block_bytes h t)) (turned_down (header_fault (block_bytes h t)) 0)
  past_size l =
      let b = block_bytes h t in
      reading_is b ∙ ap (λ (z : Bool). cond z (turned_down LIMIT 0) (cond (eqb (header_fault b) 0) (statements_read b) (turned_down (header_fault b) 0))) (le-ltb 3086 (length b) l)

  small : length (block_bytes h t) ≤ 3086 → h.inputs + h.outputs + h.locals < 65536
  small l = omega (arith, w.interface, w.locals_counted, few_locals t, all_counted t, bytes_least (preorder t), size)

  fault_is_limit : length (block_bytes h t) ≤ 3086 → header_fault (block_bytes h t) ≡ cond (ltb 64 (h.inputs + h.outputs + h.locals)) LIMIT 0
  unfolding block_bytes
  fault_is_limit l = header_limit h (records (preorder t)) w.version_fits (small l)

  past_header : length (block_bytes h t) ≤ 3086 → h.inputs + h.outputs + h.locals ≤ 64
      → reading (block_bytes h t) ≡ ended (block_bytes h t) h (read 64 (block_bytes h t) h outermost begun)
  unfolding block_bytes
  past_header l k =
      let b = block_bytes h t in
      let head = header_back h (records (preorder t)) w.version_fits (small l) in
      past_size l ∙ ap (λ (n : ℕ). cond (eqb n 0) (statements_read b) (turned_down n 0)) (fault_is_limit l ∙ ap (λ (z : Bool). cond z LIMIT 0) (le-ltb 64 (h.inputs + h.outputs + h.locals) k))
      ∙ (λ i. ended b (head i) (read 64 b (head i) outermost begun))

  tree_comes : (k : h.inputs + h.outputs + h.locals ≤ 64) → Comes (block_bytes h t) h k 64 outermost begun t
  unfolding block_bytes
  tree_comes k =
      back (block_bytes h t) h k t 64 outermost begun [] outermost_fits (omega (arith, size)) (behind_header h (records (preorder t)) ∙ sym (append-nil (records (preorder t)))) is_legible

  pub reads : Reads h t
  unfolding ended
  reads = sized (dec_le (length (block_bytes h t)) 3086)
    where
      by_tree : length (block_bytes h t) ≤ 3086 → (k : h.inputs + h.outputs + h.locals ≤ 64) → Comes (block_bytes h t) h k 64 outermost begun t → Reads h t
      by_tree l k (is_got e) = reads_good (past_header l k ∙ ap (ended (block_bytes h t) h) e ∙ ended_well)
      by_tree l k (is_over at e n) = reads_over at (past_header l k ∙ ap (ended (block_bytes h t) h) e) (λ f. n (tree_fits f))

      signalled : length (block_bytes h t) ≤ 3086 → Dec (h.inputs + h.outputs + h.locals ≤ 64) → Reads h t
      signalled l (yes k) = by_tree l k (tree_comes k)
      signalled l (no k) =
          reads_over 0 (past_size l ∙ ap (λ (n : ℕ). cond (eqb n 0) (statements_read (block_bytes h t)) (turned_down n 0))
          (fault_is_limit l ∙ ap (λ (z : Bool). cond z LIMIT 0) (lt-ltb 64 (h.inputs + h.outputs + h.locals) (omega arith)))) (λ f. k f.signals)

      sized : Dec (length (block_bytes h t) ≤ 3086) → Reads h t
      sized (yes l) = signalled l (dec_le (h.inputs + h.outputs + h.locals) 64)
      sized (no l) =
          reads_over 0 (reading_is (block_bytes h t) ∙ ap (λ (z : Bool). cond z (turned_down LIMIT 0)
          (cond (eqb (header_fault (block_bytes h t)) 0) (statements_read (block_bytes h t)) (turned_down (header_fault (block_bytes h t)) 0)))
          (lt-ltb 3086 (length (block_bytes h t)) (omega arith))) (λ f. l (size_fits f))

  -- Where it passes a limit the reading is 4.
  pub read_over : (Writable h t → ⊥) → (at : ℕ) × (reading (block_bytes h t) ≡ turned_down LIMIT at)
  read_over n = go reads
    where
      can : Sound (block_bytes h t) (written h t) → Writable h t
      can f = record {
        version_fits = w.version_fits;
        signals = f.signals;
        few_statements = f.few_statements;
        few_pauses = f.few_pauses;
        traps_nested = f.traps_nested;
        locals_nested = f.locals_nested;
        paths = f.paths;
        trapped = w.trapped;
        pauses_numbered = w.pauses_numbered;
        scoped = w.scoped;
        locals_counted = w.locals_counted;
        locals_next = w.locals_next;
        loops = w.loops;
      }

      go : Reads h t → (at : ℕ) × (reading (block_bytes h t) ≡ turned_down LIMIT at)
      go (reads_good e) = absurd (n (can (sound (block_bytes h t) (written h t) e)))
      go (reads_over at e m) = (at, e)

-- Reading what was written gives the same header and tree back.
pub read_back : (h : Header) (t : Stmt) → Writable h t → reading (block_bytes h t) ≡ good (written h t)
read_back h t w = go (reads h t (orderly w))
  where
    go : Reads h t → reading (block_bytes h t) ≡ good (written h t)
    go (reads_good e) = e
    go (reads_over at e n) = absurd (n w)
