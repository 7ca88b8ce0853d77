-- The order within 1 to 8, by induction over the statements that may still stand on the path: a record at fault decides at once, and the children of
-- a good one are read one after the other. Assumes nothing.
use mathlib.Core.Path.{◌≡◌, refl, sym, ap, ap₂, ◌∙◌, subst, subst⁻¹}
use mathlib.Core.Logic.{◌≢◌}
use mathlib.Core.Bool.{Bool, true, false, cond, ◌&&◌}
use mathlib.Core.List.{List, [], ◌∷◌, ◌++◌}
use mathlib.Core.Option.{Option, none, some}
use Prim.Native.Nat.{ℕ, zero, suc, ◌≤◌}
use lib.Dec.{eqb, ltb}
use lib.ListN.{length}
use borrow.Author.Tests.{eqb-true, eqb-false, ltb-true, ltb-false, eq-eqb, ne_eqb, lt-ltb, le-ltb}
use Rattle.sets.proofs.Counts.{lowest_some, lowest_none, lowest_in}
use Rattle.rules.specs.Statements.{Stmt}
use Rattle.tables.specs.Table.{statements}
use Rattle.block.specs.Format.{LIMIT, SHAPE, kind_at, operand_at, Header, header, header_fault, Sofar, Around, statement_fault, past, inside, above, joined}
use Rattle.tables.specs.Kinds.{children_of}
use Rattle.block.specs.Format.{Got, got, refused, and_then, with_children, read, numbered, Good, turned_down, loops_checked, ended}
use Rattle.tables.specs.Codes.{endless, lowest_endless}
use Rattle.block.specs.Format.{outermost, begun, reading}
use Rattle.block.proofs.GoodReadings.{statements_read, reading_is}
use Rattle.promises.specs.Tests.{First}
use Rattle.promises.specs.FirstRecord.{header_tests, Due, statement_tests, so_many, GoodRecords, no_record, one_good, FirstAtFault, root, WholeTree, EndsRight}
use Rattle.promises.specs.FirstRecord.{Decides, too_large, header_at_fault, record_at_fault, wrong_end, loop, InOrder}
use Rattle.promises.proofs.RecordTests.{first_is_one, statement_first, no_room_on_the_path, header_first}

module _ (b : List ℕ) (h : Header) where
  -- Good records and then more.
  and_more : {ds es fs : List Due} {r r' r'' : Sofar} → GoodRecords b h ds r es r' → GoodRecords b h es r' fs r'' → GoodRecords b h ds r fs r''
  and_more no_record k = k
  and_more (one_good f g) k = one_good f (and_more g k)

  and_fault : {ds es : List Due} {r r' : Sofar} {n at : ℕ} → GoodRecords b h ds r es r' → FirstAtFault b h es r' n at → FirstAtFault b h ds r n at
  and_fault g f = record {
    due = f.due;
    behind = f.behind;
    read_before = f.read_before;
    all_good_before = and_more g f.all_good_before;
    its_number = f.its_number;
    a_fault = f.a_fault;
    its_place = f.its_place;
  }

  -- What a reading that began with the statements ds due, after r, comes to: with `rest` left due, or at fault.
  unfoldable Comes : List Due → Sofar → List Due → Got → Type 0
  Comes ds r rest (got p r') = GoodRecords b h ds r rest r'
  Comes ds r rest (refused n at) = FirstAtFault b h ds r n at

  after_good : {ds es : List Due} {r r' : Sofar} (rest : List Due) (x : Got) → GoodRecords b h ds r es r' → Comes es r' rest x → Comes ds r rest x
  unfolding Comes
  after_good rest (got p r'') g c = and_more g c
  after_good rest (refused n at) g c = and_fault g c

  here : (d : Due) (r : Sofar) (rest : List Due) → statement_fault d.room b h d.around r ≢ 0
      → Comes (d ∷ rest) r rest (refused (statement_fault d.room b h d.around r) r.place)
  unfolding Comes
  here d r rest f = record {
    due = d;
    behind = rest;
    read_before = r;
    all_good_before = no_record;
    its_number = statement_first b h d r;
    a_fault = f;
    its_place = refl;
  }

  -- The children of a good record, each read as `child` does.
  module _ (c : Due) (child : Sofar → Got) (reads : (r : Sofar) (rest : List Due) → Comes (c ∷ rest) r rest (child r)) (k x before : ℕ) where
    one : (r : Sofar) (rest : List Due) (g : Got) → Comes (c ∷ rest) r rest g → Comes (c ∷ rest) r rest (and_then g λ p r₁. got (above k x p) r₁)
    unfolding Comes
    one r rest (got p r₁) f = f
    one r rest (refused n at) f = f

    second : (p : Stmt) (r : Sofar) (rest : List Due) (g : Got) → Comes (c ∷ rest) r rest g → Comes (c ∷ rest) r rest (and_then g λ q r₂. got (joined k x p q) r₂)
    unfolding Comes
    second p r rest (got q r₂) f = f
    second p r rest (refused n at) f = f

    two : (r : Sofar) (rest : List Due) (g : Got) → Comes (c ∷ c ∷ rest) r (c ∷ rest) g
        → Comes (c ∷ c ∷ rest) r rest (and_then g λ p r₁. and_then (child r₁) λ q r₂. got (joined k x p q) r₂)
    unfolding Comes
    two r rest (got p r₁) f = after_good rest (and_then (child r₁) λ q r₂. got (joined k x p q) r₂) f (second p r₁ rest (child r₁) (reads r₁ rest))
    two r rest (refused n at) f = f

    kids : (m : ℕ) (r : Sofar) (rest : List Due) → Comes (so_many m c ++ rest) r rest (with_children m child k x before r)
    unfolding Comes
    kids zero r rest = no_record
    kids (suc zero) r rest = one r rest (child r) (reads r rest)
    kids (suc (suc m)) r rest = two r rest (child r) (reads r (c ∷ rest))

  walk : (room : ℕ) (a : Around) (r : Sofar) (rest : List Due) → Comes (record { room = room; around = a } ∷ rest) r rest (read room b h a r)
  unfolding read
  walk zero a r rest =
      let d : Due = record { room = zero; around = a } in
      here d r rest (λ z. no_room_on_the_path b h d r refl (subst (First (statement_tests b h d r)) z (statement_first b h d r)))
  walk (suc room) a r rest = go (eqb (statement_fault (suc room) b h a r) 0) refl (walk room (inside k x a))
    where
      d : Due
      d = record { room = suc room; around = a }

      k : ℕ
      k = kind_at b r.place

      x : ℕ
      x = operand_at b r.place

      whole : Got
      whole = with_children (children_of k) (read room b h (inside k x a)) k x r.pauses (past k r)

      go : (y : Bool) → eqb (statement_fault (suc room) b h a r) 0 ≡ y
          → ((r₁ : Sofar) (rest₁ : List Due) → Comes (record { room = room; around = inside k x a } ∷ rest₁) r₁ rest₁ (read room b h (inside k x a) r₁))
          → Comes (d ∷ rest) r rest (cond y whole (refused (statement_fault (suc room) b h a r) r.place))
      go false q child = here d r rest (eqb-false (statement_fault (suc room) b h a r) 0 q)
      go true q child =
          after_good rest whole (one_good (subst (First (statement_tests b h d r)) (eqb-true (statement_fault (suc room) b h a r) 0 q) (statement_first b h d r)) no_record)
          (kids (record { room = room; around = inside k x a }) (read room b h (inside k x a)) child k x r.pauses (children_of k) (past k r) rest)

module _ (b : List ℕ) where
  abbrev h : Header
  h = header b

  -- The end of a block whose records are all good.
  module _ (p : Stmt) (r : Sofar) (tree : WholeTree b p r) where
    abbrev g : Good
    g = record { header = h; body = p; statements = r.statements; pauses = r.pauses }

    loops : EndsRight b r → (o : Option ℕ) → lowest_endless p ≡ o → InOrder b (loops_checked g o)
    unfolding InOrder loops_checked lowest_endless
    loops e none q = record { read_to = r; whole = tree; ends_right = e; no_loop = lowest_none (statements p) (λ n. endless (numbered p n)) q }
    loops e (some n) q = let w = lowest_some (statements p) (λ n. endless (numbered p n)) q in loop tree e n w.0 w.1 w.2

    end : (x : Bool) → eqb r.place (length b) ≡ x → (y : Bool) → eqb r.locals h.locals ≡ y
        → InOrder b (cond (x && y) (loops_checked g (lowest_endless p)) (turned_down SHAPE r.place))
    unfolding InOrder
    end true e true q = loops (record { no_byte_left = eqb-true r.place (length b) e; all_locals = eqb-true r.locals h.locals q }) (lowest_endless p) refl
    end true e false q = wrong_end tree (λ w. eqb-false r.locals h.locals q w.all_locals)
    end false e y q = wrong_end tree (λ w. eqb-false r.place (length b) e w.no_byte_left)

  module _ (in_size : length b ≤ 3086) (good_header : First (header_tests b) 0) where
    came : (x : Got) → read 64 b h outermost begun ≡ x → Comes b h (root ∷ []) begun [] x → InOrder b (ended b h x)
    unfolding InOrder ended Comes
    came (refused n at) q c = record_at_fault in_size good_header c
    came (got p r) q c =
        end p r (record { in_size = in_size; good_header = good_header; good_records = c; its_tree = q })
        (eqb r.place (length b)) refl (eqb r.locals h.locals) refl

  pub in_order : InOrder b (reading b)
  unfolding InOrder
  in_order = subst⁻¹ (InOrder b) (reading_is b) (go (ltb 3086 (length b)) refl (eqb (header_fault b) 0) refl)
    where
      go : (x : Bool) → ltb 3086 (length b) ≡ x → (y : Bool) → eqb (header_fault b) 0 ≡ y
          → InOrder b (cond x (turned_down LIMIT 0) (cond y (statements_read b) (turned_down (header_fault b) 0)))
      go true e y q = too_large (ltb-true 3086 (length b) e)
      go false e true q =
          came (ltb-false 3086 (length b) e) (subst (First (header_tests b)) (eqb-true (header_fault b) 0 q) (header_first b)) (read 64 b h outermost begun) refl
          (walk b h 64 outermost begun [])
      go false e false q = header_at_fault (ltb-false 3086 (length b) e) (header_first b) (eqb-false (header_fault b) 0 q)

pub turned_down_decides : (b : List ℕ) (n at : ℕ) → reading b ≡ turned_down n at → Decides b n at
unfolding InOrder
turned_down_decides b n at e = subst (InOrder b) e (in_order b)

-- And what decides is the only thing that does: good records lead one way, to one record at fault or to the end.
module _ (b : List ℕ) (h : Header) where
  zero_or_not : {A : Type 0} (d : Due) (r : Sofar) (n : ℕ) → First (statement_tests b h d r) 0 → First (statement_tests b h d r) n → n ≢ 0 → A
  zero_or_not d r n f g k = absurd (k (sym (first_is_one (statement_tests b h d r) 0 n f g)))

  one_fault : {ds behind behind' : List Due} {d d' : Due} {r s s' : Sofar} (m n : ℕ) → GoodRecords b h ds r (d ∷ behind) s → GoodRecords b h ds r (d' ∷ behind') s'
      → First (statement_tests b h d s) m → m ≢ 0 → First (statement_tests b h d' s') n → n ≢ 0 → (m ≡ n) × (s.place ≡ s'.place)
  one_fault m n (no_record {ds = d ∷ behind} {r = r}) no_record f k g l = (first_is_one (statement_tests b h d r) m n f g, refl)
  one_fault m n (no_record {ds = d ∷ behind} {r = r}) (one_good z y) f k g l = zero_or_not d r m z f k
  one_fault m n (one_good {d = d} {r = r} z x) no_record f k g l = zero_or_not d r n z g l
  one_fault m n (one_good z x) (one_good w y) f k g l = one_fault m n x y f k g l

  no_fault : {ds behind : List Due} {d : Due} {r s s' : Sofar} (n : ℕ) → GoodRecords b h ds r [] s → GoodRecords b h ds r (d ∷ behind) s'
      → First (statement_tests b h d s') n → n ≢ 0 → ⊥
  no_fault n no_record x f k = elim x [ ]
  no_fault n (one_good {d = d} {r = r} z x) no_record f k = zero_or_not d r n z f k
  no_fault n (one_good z x) (one_good w y) f k = no_fault n x y f k

module _ (b : List ℕ) where
  fits : length b ≤ 3086 → reading b ≡ cond (eqb (header_fault b) 0) (statements_read b) (turned_down (header_fault b) 0)
  fits l =
      reading_is b ∙ ap (λ (x : Bool). cond x (turned_down LIMIT 0) (cond (eqb (header_fault b) 0) (statements_read b) (turned_down (header_fault b) 0))) (le-ltb 3086 (length b) l)

  header_passes : length b ≤ 3086 → First (header_tests b) 0 → reading b ≡ statements_read b
  header_passes l f =
      fits l ∙ ap (λ (n : ℕ). cond (eqb n 0) (statements_read b) (turned_down n 0)) (first_is_one (header_tests b) (header_fault b) 0 (header_first b) f)

  tree_read : {p : Stmt} {r : Sofar} → WholeTree b p r → reading b ≡ ended b (header b) (got p r)
  tree_read w = header_passes w.in_size w.good_header ∙ ap (ended b (header b)) w.its_tree

  pub decides_alone : (n at : ℕ) → Decides b n at → reading b ≡ turned_down n at
  unfolding ended loops_checked lowest_endless Comes
  decides_alone n at (too_large l) =
      reading_is b ∙ ap (λ (x : Bool). cond x (turned_down LIMIT 0) (cond (eqb (header_fault b) 0) (statements_read b) (turned_down (header_fault b) 0))) (lt-ltb 3086 (length b) l)
  decides_alone n at (header_at_fault l f k) =
      let e : header_fault b ≡ n = first_is_one (header_tests b) (header_fault b) n (header_first b) f in
      fits l ∙ ap (λ (m : ℕ). cond (eqb m 0) (statements_read b) (turned_down m 0)) e ∙ ap (λ (x : Bool). cond x (statements_read b) (turned_down n 0)) (ne_eqb n 0 k)
  decides_alone n at (record_at_fault l f w) = header_passes l f ∙ go (read 64 b (header b) outermost begun) (walk b (header b) 64 outermost begun [])
    where
      go : (x : Got) → Comes b (header b) (root ∷ []) begun [] x → ended b (header b) x ≡ turned_down n at
      go (got p r) c = absurd (no_fault b (header b) n c w.all_good_before w.its_number w.a_fault)
      go (refused m place) c =
          let e = one_fault b (header b) m n c.all_good_before w.all_good_before c.its_number c.a_fault w.its_number w.a_fault in
          (λ i. turned_down (e.0 i) ((c.its_place ∙ e.1 ∙ sym w.its_place) i))
  decides_alone n at (wrong_end {p = p} {r = r} w f) = tree_read w ∙ go (eqb r.place (length b)) refl (eqb r.locals (header b).locals) refl
    where
      g : Good
      g = record { header = header b; body = p; statements = r.statements; pauses = r.pauses }

      go : (x : Bool) → eqb r.place (length b) ≡ x → (y : Bool) → eqb r.locals (header b).locals ≡ y
          → cond (x && y) (loops_checked g (lowest_endless p)) (turned_down SHAPE r.place) ≡ turned_down SHAPE r.place
      go true e true q = absurd (f (record { no_byte_left = eqb-true r.place (length b) e; all_locals = eqb-true r.locals (header b).locals q }))
      go true e false q = refl
      go false e y q = refl
  decides_alone n at (loop {p = p} {r = r} w e k l t m) =
      tree_read w
      ∙ ap₂ (λ (x y : Bool). cond (x && y) (loops_checked g (lowest_endless p)) (turned_down SHAPE r.place)) (eq-eqb r.place (length b) e.no_byte_left)
      (eq-eqb r.locals (header b).locals e.all_locals)
      ∙ ap (loops_checked g) (lowest_in (statements p) (λ i. endless (numbered p i)) l t m)
    where
      g : Good
      g = record { header = header b; body = p; statements = r.statements; pauses = r.pauses }
