-- What the code has at each return of the reading of a statement is what it promises: by the tests of its record, and by its children, as many as are read so far.
use mathlib.Core.Path.{◌≡◌, refl, sym, ◌∙◌, ap, subst, subst⁻¹, subst₂}
use mathlib.Core.Logic.{⊎_elim}
use mathlib.Core.List.{List}
use Prim.Native.Nat.{ℕ, zero, suc, ◌+◌, ◌-◌, ◌≤◌, ◌<◌}
use native.Mathlib.Numerals.{add-one}
use native.Mathlib.Omega.{arith}
use lib.ListN.{length, set}
use Rattle.rules.specs.Statements.{Stmt}
use Rattle.tables.specs.Table.{Has, statements}
use Rattle.tables.specs.declared.Table.{Table}
use Rattle.block.specs.Format.{Header, Sofar, Got, got, refused, and_then, kind_at, operand_at, statement_fault, past, inside, leaf, above, joined, read}
use Rattle.tables.specs.Kinds.{children_of}
use Rattle.block.specs.Told.{header_of, sofar_of, around_of, cursor_of, refusal_of, tested, told, Built, Same, Full, Reads, Ready}
use Rattle.tables.specs.Table.{table_of, kept_operand}
use Rattle.block.specs.declared.Declared.{Declared}
use Rattle.block.specs.declared.Cursor.{Cursor}
use Rattle.block.specs.declared.Context.{Context}
use Rattle.std.specs.Prelude.{Result, Ok, Err, ⊤}
use Rattle.std.specs.Result.{result_and}
use Rattle.refusals.specs.declared.Refused.{Refused}
use Rattle.block.proofs.Views.{Joined, Kind, leafs, aboves, joins, leaf_children, above_children, is?, leaf?, above?, joined?, joined_children}
use Rattle.block.proofs.Passes.{Passes, passes}
use Rattle.block.proofs.Parse.{parsed, read_stop, read_leaf, read_above, read_joined}
use Rattle.block.proofs.Built.{leaf_builds, above_builds, joined_builds}
use Rattle.block.proofs.Trees.{Counts, AroundFits, Tree, tree, inside_fits, past_counts}
use Rattle.block.proofs.Tables.{same_refl, same_trans, same_row, same_but_size, full_row, full_size, Begun, begun_row, begun_same, row_ends, leaf_has, above_has, joined_has, has_same}

-- The two answers.
pub reads_refused : (g : Got) {i : ℕ} {before after : Table} {e : Refused} → told g ≡ Err e → ((j : ℕ) → j < i → Same before after j) → Full after → Reads g i before after (Err e)
unfolding told Built
reads_refused (got p r) q k f = let z : ⊥ = cc in absurd z
reads_refused (refused n at) q k f = record { answered = sym q; built = tt; kept = k; full = f }

pub reads_got : {g : Got} {i : ℕ} {before after : Table} (p : Stmt) (r : Cursor) → g ≡ got p (sofar_of r) → Has after i p → ((j : ℕ) → j < i → Same before after j) → Full after
    → Reads g i before after (Ok r)
unfolding told Built
reads_got {g} {i} {before} {after} p r e h k f =
    subst (λ (g : Got). Reads g i before after (Ok r)) (sym e) (record { answered = refl; built = h; kept = k; full = f })

-- What an answer says of the reading.
pub was_got : (g : Got) {r : Cursor} → told g ≡ Ok r → (p : Stmt) × (g ≡ got p (sofar_of r))
unfolding told
was_got (got p s) {r} e =
    let es : cursor_of s ≡ r = cc in
    (p, λ i. got p (sofar_of (es i)))
was_got (refused n at) e = let z : ⊥ = cc in absurd z

-- What follows a refusal is not read.
stops : (g : Got) (f : Stmt → Sofar → Got) {e : Refused} → told g ≡ Err e → told (and_then g f) ≡ Err e
unfolding told
stops (got p r) f q = let z : ⊥ = cc in absurd z
stops (refused n at) f q = q

-- An answer with the cursor that was moved in place.
pub with_moved : {t u : Result ⊤ Refused} (r : Cursor) → t ≡ u → result_and t (Ok r) ≡ result_and u (Ok r)
with_moved r q = ap (λ t. result_and t (Ok r)) q

-- The tests of a record: turned down, or passed.
pub tests_refused : (n at : ℕ) {e : Refused} → tested n at ≡ Err e → (n ≡ 0 → ⊥) × (told (refused n at) ≡ Err e)
unfolding tested told
tests_refused zero at q = let z : ⊥ = cc in absurd z
tests_refused (suc n) at {e} q = let r : refusal_of (suc n) at ≡ e = cc in (λ z. omega arith, ap Err r)

pub tests_passed : (n at : ℕ) → tested n at ≡ Ok tt → n ≡ 0
unfolding tested
tests_passed zero at q = refl
tests_passed (suc n) at q = let z : ⊥ = cc in absurd z

module _ (b : List ℕ) (d : Declared) (c : Context) (r : Cursor) {t : Result ⊤ Refused} (tests : t ≡ tested (statement_fault c.room b (header_of d) (around_of c) (sofar_of r)) r.at) where
  pub end_fault : {tab : Table} {e : Refused} → t ≡ Err e → Full tab → Reads (read c.room b (header_of d) (around_of c) (sofar_of r)) r.statements tab tab (Err e)
  end_fault q f =
      let n = tests_refused _ r.at (sym tests ∙ q) in
      reads_refused _ (ap told (read_stop b (header_of d) c.room (around_of c) (sofar_of r) n.0) ∙ n.1) (λ j l. same_refl j) f

  module _ (q : t ≡ Ok tt) where
    pub good : statement_fault c.room b (header_of d) (around_of c) (sofar_of r) ≡ 0
    good = tests_passed _ r.at (sym tests ∙ q)

    -- The record that passed, by its own kind and operand.
    pub passed : Passes c.room (length b) (header_of d) (around_of c) (sofar_of r) (kind_at b r.at) (operand_at b r.at)
    passed = passes c.room b (header_of d) (around_of c) (sofar_of r) good

-- What the code has in hand of a record that passes, beside the reading itself.
pub record Hand (b : List ℕ) (d : Declared) (c : Context) (r : Cursor) (k x : ℕ) (c₁ : Context) (r₁ : Cursor) : Type 0 where
  pub ready : Ready (length b) d c r
  pub good : statement_fault c.room b (header_of d) (around_of c) (sofar_of r) ≡ 0
  pub k_is : k ≡ kind_at b r.at
  pub x_is : x ≡ operand_at b r.at
  pub around : around_of c₁ ≡ inside k x (around_of c)
  pub room : c₁.room + 1 ≡ c.room
  pub next : sofar_of r₁ ≡ past k (sofar_of r)

-- It is in hand once the tests passed.
pub in_hand : (b : List ℕ) (d : Declared) (c : Context) (r : Cursor) {t : Result ⊤ Refused} {k x : ℕ} {c₁ : Context} {r₁ : Cursor} → Ready (length b) d c r
    → t ≡ tested (statement_fault c.room b (header_of d) (around_of c) (sofar_of r)) r.at → t ≡ Ok tt → k ≡ kind_at b r.at → x ≡ operand_at b r.at
    → (around_of c₁ ≡ inside k x (around_of c)) × (c₁.room + 1 ≡ c.room) → sofar_of r₁ ≡ past k (sofar_of r) → Hand b d c r k x c₁ r₁
in_hand b d c r y tests q ek ex a e = record { ready = y; good = good b d c r tests q; k_is = ek; x_is = ex; around = a.0; room = a.1; next = e }

ready_around : {n : ℕ} {d : Declared} {c : Context} {r : Cursor} → Ready n d c r → AroundFits (around_of c)
ready_around y = record { few_traps = y.few_traps; few_nested = y.few_nested; small_scope = y.small_scope }

ready_counts : {n : ℕ} {d : Declared} {c : Context} {r : Cursor} → Ready n d c r → Counts (header_of d) (sofar_of r)
ready_counts y = record { few_pauses = y.few_pauses; few_locals = y.few_locals }

-- The record at hand, by its own kind and operand.
pub passes_at : (b : List ℕ) (d : Declared) (c : Context) (r : Cursor) (k x : ℕ) → k ≡ kind_at b r.at → x ≡ operand_at b r.at
    → statement_fault c.room b (header_of d) (around_of c) (sofar_of r) ≡ 0
    → Passes c.room (length b) (header_of d) (around_of c) (sofar_of r) k x
passes_at b d c r k x ek ex good =
    subst₂ (Passes c.room (length b) (header_of d) (around_of c) (sofar_of r)) (sym ek) (sym ex) (passes c.room b (header_of d) (around_of c) (sofar_of r) good)

-- The children read so far, one after the other: none, the first, or both.
pub data Children (b : List ℕ) (d : Declared) (c : Context) (r : Cursor) (begun : Table) : ℕ → Cursor → Table → Type 0 where
  no_child : Children b d c r begun 0 r begun
  one_child : {r₁ : Cursor} {tab₁ : Table} → Reads (read c.room b (header_of d) (around_of c) (sofar_of r)) r.statements begun tab₁ (Ok r₁) → Children b d c r begun 1 r₁ tab₁
  both_children : {r₁ r₂ : Cursor} {tab₁ tab₂ : Table} → Reads (read c.room b (header_of d) (around_of c) (sofar_of r)) r.statements begun tab₁ (Ok r₁)
      → Reads (read c.room b (header_of d) (around_of c) (sofar_of r₁)) r₁.statements tab₁ tab₂ (Ok r₂) → Children b d c r begun 2 r₂ tab₂

at_most_two : {k : ℕ} → Kind k → children_of k ≤ 2
at_most_two (leafs v) = omega (arith, leaf_children v)
at_most_two (aboves v) = omega (arith, above_children v)
at_most_two (joins v) = omega (arith, joined_children v)

module _ {b : List ℕ} {d : Declared} {c : Context} {r : Cursor} {k x : ℕ} {c₁ : Context} {r₁ : Cursor} (w : Hand b d c r k x c₁ r₁) where
  abbrev h : Header
  h = header_of d

  pub hand_passes : Passes c.room (length b) h (around_of c) (sofar_of r) k x
  hand_passes = passes_at b d c r k x w.k_is w.x_is w.good

  good_suc : statement_fault (suc c₁.room) b h (around_of c) (sofar_of r) ≡ 0
  good_suc = subst (λ (n : ℕ). statement_fault n b h (around_of c) (sofar_of r) ≡ 0) (sym w.room ∙ add-one c₁.room) w.good

  at_suc : read c.room b h (around_of c) (sofar_of r) ≡ read (suc c₁.room) b h (around_of c) (sofar_of r)
  at_suc = ap (λ (n : ℕ). read n b h (around_of c) (sofar_of r)) (sym w.room ∙ add-one c₁.room)

  children_same : (n : ℕ) → children_of k ≡ n → children_of (kind_at b r.at) ≡ n
  children_same n e = ap children_of (sym w.k_is) ∙ e

  past_same : past (kind_at b r.at) (sofar_of r) ≡ sofar_of r₁
  past_same = ap (λ (m : ℕ). past m (sofar_of r)) (sym w.k_is) ∙ sym w.next

  inside_same : inside (kind_at b r.at) (operand_at b r.at) (around_of c) ≡ around_of c₁
  inside_same = (λ i. inside (sym w.k_is i) (sym w.x_is i) (around_of c)) ∙ sym w.around

  -- The reading of the first child, and of a second one after it.
  abbrev first : Got
  first = read c₁.room b h (around_of c₁) (sofar_of r₁)

  abbrev second : Cursor → Got
  second r₂ = read c₁.room b h (around_of c₁) (sofar_of r₂)

  way_leaf : children_of k ≡ 0 → read c.room b h (around_of c) (sofar_of r) ≡ got (leaf k x r.pauses) (sofar_of r₁)
  way_leaf e =
      at_suc ∙ read_leaf b h c₁.room (around_of c) (sofar_of r) good_suc (children_same 0 e)
      ∙ (λ i. got (leaf (sym w.k_is i) (sym w.x_is i) r.pauses) (past_same i))

  way_above : children_of k ≡ 1 → read c.room b h (around_of c) (sofar_of r) ≡ and_then first (λ p s. got (above k x p) s)
  way_above e =
      at_suc ∙ read_above b h c₁.room (around_of c) (sofar_of r) good_suc (children_same 1 e)
      ∙ (λ i. and_then (read c₁.room b h (inside_same i) (past_same i)) (λ p s. got (above (sym w.k_is i) (sym w.x_is i) p) s))

  way_joined : children_of k ≡ 2
      → read c.room b h (around_of c) (sofar_of r) ≡ and_then first (λ p s. and_then (read c₁.room b h (around_of c₁) s) (λ q s₁. got (joined k x p q) s₁))
  way_joined e =
      at_suc ∙ read_joined b h c₁.room (around_of c) (sofar_of r) good_suc (children_same 2 e)
      ∙ (λ i. and_then (read c₁.room b h (inside_same i) (past_same i)) (λ p s. and_then (read c₁.room b h (inside_same i) s) (λ q s₁. got (joined (sym w.k_is i) (sym w.x_is i) p q) s₁)))

  child_fits : AroundFits (around_of c₁)
  child_fits = subst AroundFits (sym w.around) (inside_fits h w.ready.signals (ready_around w.ready) k hand_passes)

  child_counts : Counts h (sofar_of r₁)
  child_counts = subst (Counts h) (sym w.next) (past_counts h w.ready.signals (ready_around w.ready) k hand_passes (ready_counts w.ready))

  -- What a child is read with.
  ready_with : (r₂ : Cursor) → Counts h (sofar_of r₂) → Ready (length b) d c₁ r₂
  ready_with r₂ n = record {
    fits = w.ready.fits;
    signals = w.ready.signals;
    few_traps = child_fits.few_traps;
    few_nested = child_fits.few_nested;
    small_scope = child_fits.small_scope;
    few_pauses = n.few_pauses;
    few_locals = n.few_locals;
  }

  pub ready_first : Ready (length b) d c₁ r₁
  ready_first = ready_with r₁ child_counts

  pub one_later : r₁.statements ≡ r.statements + 1
  unfolding past
  one_later = ap (λ (s : Sofar). s.statements) w.next

  pub first_tree : {p : Stmt} {r₂ : Cursor} → first ≡ got p (sofar_of r₂) → Tree c₁.room (length b) h (around_of c₁) (sofar_of r₁) p (sofar_of r₂)
  first_tree {p} {r₂} e =
      tree b h w.ready.signals child_fits child_counts (parsed b h c₁.room (around_of c₁) (sofar_of r₁) p (sofar_of r₂) e)

  pub second_tree : {p q : Stmt} {r₂ r₃ : Cursor} → first ≡ got p (sofar_of r₂) → second r₂ ≡ got q (sofar_of r₃)
      → Tree c₁.room (length b) h (around_of c₁) (sofar_of r₂) q (sofar_of r₃)
  second_tree {p} {q} {r₂} {r₃} e f =
      tree b h w.ready.signals child_fits (first_tree e).counts (parsed b h c₁.room (around_of c₁) (sofar_of r₂) q (sofar_of r₃) f)

  pub ready_second : {p : Stmt} {r₂ : Cursor} → first ≡ got p (sofar_of r₂) → Ready (length b) d c₁ r₂
  ready_second {r₂ = r₂} e = ready_with r₂ (first_tree e).counts

  -- The ends. The table comes in as ks, xs, ns; row n gets kind and operand before the children are read.
  module _ {ks xs ns : List ℕ} (full : Full (table_of ks xs ns)) {o : ℕ} (kept : o ≡ kept_operand k x r.pauses) where
    abbrev n : ℕ
    n = r.statements

    abbrev begun : Table
    begun = table_of (set ks n k) (set xs n o) ns

    pub begun_full : Full begun
    begun_full = full_row n k o full

    begun_there : Begun begun n k (kept_operand k x r.pauses)
    begun_there = subst (Begun begun n k) kept (begun_row ks xs ns n k o hand_passes.counted full)

    begun_same_below : (j : ℕ) → j < n → Same (table_of ks xs ns) begun j
    begun_same_below j l = same_row ks xs ns n k o j (omega arith)

    pub end_leaf : children_of k ≡ 0 → Reads (read c.room b h (around_of c) (sofar_of r)) n (table_of ks xs ns) (table_of (set ks n k) (set xs n o) (set ns n 1)) (Ok r₁)
    end_leaf e =
        let v = leaf? hand_passes.its_kind e in
        let m = leaf_builds x r.pauses v in
        reads_got (leaf k x r.pauses) r₁ (way_leaf e)
        (leaf_has x r.pauses v (row_ends (set ks n k) (set xs n o) ns n k x r.pauses 0 0 1 _ _ hand_passes.counted begun_full begun_there m refl))
        (λ j l. same_trans (begun_same_below j l) (same_but_size (set ks n k) (set xs n o) ns n 1 j (omega arith)))
        (full_size n 1 begun_full)

    -- After the first child.
    module _ {ks₁ xs₁ ns₁ : List ℕ} {a₁ : Result Cursor Refused} (one : Reads first r₁.statements begun (table_of ks₁ xs₁ ns₁) a₁) where
      abbrev tab₁ : Table
      tab₁ = table_of ks₁ xs₁ ns₁

      same₁ : (j : ℕ) → j < n → Same (table_of ks xs ns) tab₁ j
      same₁ j l = same_trans (begun_same_below j l) (one.kept j (omega (arith, one_later)))

      there₁ : Begun tab₁ n k (kept_operand k x r.pauses)
      there₁ = begun_same begun_there (one.kept n (omega (arith, one_later)))

      pub end_first : {e : Refused} → (children_of k ≡ 0 → ⊥) → a₁ ≡ Err e → Reads (read c.room b h (around_of c) (sofar_of r)) n (table_of ks xs ns) tab₁ (Err e)
      end_first with_child e =
          let stop = λ (f : Stmt → Sofar → Got). stops first f (sym one.answered ∙ e) in
          reads_refused _ (⊎_elim (λ e₁. ap told (way_above e₁) ∙ stop _)
          (λ n₁. ap told (way_joined (joined_children (joined? hand_passes.its_kind with_child n₁))) ∙ stop _) (is? (children_of k) 1)) same₁ one.full

      module _ {r₂ : Cursor} (e : a₁ ≡ Ok r₂) where
        pub first_got : (p : Stmt) × (first ≡ got p (sofar_of r₂))
        first_got = was_got first (sym one.answered ∙ e)

        has₁ : Has tab₁ (n + 1) first_got.0
        unfolding Built
        has₁ = subst (λ (i : ℕ). Has tab₁ i first_got.0) one_later (subst (λ (g : Got). Built g r₁.statements tab₁) first_got.1 one.built)

        pub size₁ : r₂.statements ≡ n + (1 + statements first_got.0)
        size₁ = (first_tree first_got.1).counted ∙ omega (arith, one_later)

        pub few₁ : r₂.statements ≤ 512
        few₁ = (first_tree first_got.1).few_statements

        pub end_above : children_of k ≡ 1
            → Reads (read c.room b h (around_of c) (sofar_of r)) n (table_of ks xs ns) (table_of ks₁ xs₁ (set ns₁ n (r₂.statements - n))) (Ok r₂)
        end_above ec =
            let v = above? hand_passes.its_kind ec in
            let p = first_got.0 in
            reads_got (above k x p) r₂ (way_above ec ∙ ap (λ (g : Got). and_then g (λ p s. got (above k x p) s)) first_got.1)
            (above_has x p v
            (row_ends ks₁ xs₁ ns₁ n k x r.pauses (statements p) _ (r₂.statements - n) _ _ hand_passes.counted one.full there₁ (above_builds x r.pauses p v) (omega (arith, size₁)))
            (has_same p (n + 1) (λ j l m. same_but_size ks₁ xs₁ ns₁ n (r₂.statements - n) j (omega arith)) has₁))
            (λ j l. same_trans (same₁ j l) (same_but_size ks₁ xs₁ ns₁ n (r₂.statements - n) j (omega arith)))
            (full_size n (r₂.statements - n) one.full)

        -- After the second child.
        module _ (no₀ : children_of k ≡ 0 → ⊥) (no₁ : children_of k ≡ 1 → ⊥) {ks₂ xs₂ ns₂ : List ℕ} {a₂ : Result Cursor Refused} (two : Reads (second r₂) r₂.statements tab₁ (table_of ks₂ xs₂ ns₂) a₂) where
          abbrev tab₂ : Table
          tab₂ = table_of ks₂ xs₂ ns₂

          its_join : Joined k
          its_join = joined? hand_passes.its_kind no₀ no₁

          same₂ : (j : ℕ) → j < n → Same (table_of ks xs ns) tab₂ j
          same₂ j l = same_trans (same₁ j l) (two.kept j (omega (arith, size₁)))

          there₂ : Begun tab₂ n k (kept_operand k x r.pauses)
          there₂ = begun_same there₁ (two.kept n (omega (arith, size₁)))

          way₂ : read c.room b h (around_of c) (sofar_of r) ≡ and_then (second r₂) (λ q s₁. got (joined k x first_got.0 q) s₁)
          way₂ = way_joined (joined_children its_join) ∙ ap (λ (g : Got). and_then g (λ p s. and_then (read c₁.room b h (around_of c₁) s) (λ q s₁. got (joined k x p q) s₁))) first_got.1

          pub end_second : {e : Refused} → a₂ ≡ Err e → Reads (read c.room b h (around_of c) (sofar_of r)) n (table_of ks xs ns) tab₂ (Err e)
          end_second f = reads_refused _ (ap told way₂ ∙ stops (second r₂) _ (sym two.answered ∙ f)) same₂ two.full

          module _ {r₃ : Cursor} (f : a₂ ≡ Ok r₃) where
            pub second_got : (q : Stmt) × (second r₂ ≡ got q (sofar_of r₃))
            second_got = was_got (second r₂) (sym two.answered ∙ f)

            pub size₂ : r₃.statements ≡ n + (1 + (statements first_got.0 + statements second_got.0))
            size₂ = (second_tree first_got.1 second_got.1).counted ∙ omega (arith, size₁)

            pub few₂ : r₃.statements ≤ 512
            few₂ = (second_tree first_got.1 second_got.1).few_statements

            has₂ : Has tab₂ (n + 1 + statements first_got.0) second_got.0
            unfolding Built
            has₂ =
                subst (λ (i : ℕ). Has tab₂ i second_got.0) (omega (arith, size₁))
                (subst (λ (g : Got). Built g r₂.statements tab₂) second_got.1 two.built)

            pub end_joined : Reads (read c.room b h (around_of c) (sofar_of r)) n (table_of ks xs ns) (table_of ks₂ xs₂ (set ns₂ n (r₃.statements - n))) (Ok r₃)
            end_joined =
                let p = first_got.0 in
                let q = second_got.0 in
                reads_got (joined k x p q) r₃ (way₂ ∙ ap (λ (g : Got). and_then g (λ q s₁. got (joined k x p q) s₁)) second_got.1)
                (joined_has x p q its_join
                (row_ends ks₂ xs₂ ns₂ n k x r.pauses (statements p + statements q) _ (r₃.statements - n) _ _ hand_passes.counted two.full there₂
                (joined_builds x r.pauses p q its_join) (omega (arith, size₂)))
                (has_same p (n + 1) (λ j l m. same_trans (two.kept j (omega (arith, size₁))) (same_but_size ks₂ xs₂ ns₂ n (r₃.statements - n) j (omega arith))) has₁)
                (has_same q (n + 1 + statements p) (λ j l m. same_but_size ks₂ xs₂ ns₂ n (r₃.statements - n) j (omega arith)) has₂))
                (λ j l. same_trans (same₂ j l) (same_but_size ks₂ xs₂ ns₂ n (r₃.statements - n) j (omega arith)))
                (full_size n (r₃.statements - n) two.full)

    -- By the children read so far.
    abbrev Kids : ℕ → Cursor → Table → Type 0
    Kids = Children b d c₁ r₁ begun

    few_children : children_of k ≤ 2
    few_children = at_most_two hand_passes.its_kind

    pub ready_child : {i : ℕ} {now : Cursor} {tab : Table} → Kids i now tab → i < children_of k → Ready (length b) d c₁ now × Full tab
    ready_child no_child l = (ready_first, begun_full)
    ready_child (one_child y) l = (ready_second (first_got y refl).1, y.full)
    ready_child (both_children y z) l = absurd (omega (arith, few_children))

    pub next_child : {i : ℕ} {now : Cursor} {tab tab′ : Table} {a : Result Cursor Refused} {r₂ : Cursor} → Kids i now tab → Reads (second now) now.statements tab tab′ a → i < children_of k
        → a ≡ Ok r₂ → Kids (i + 1) r₂ tab′
    next_child no_child more l q = one_child (subst (Reads _ _ _ _) q more)
    next_child (one_child y) more l q = both_children y (subst (Reads _ _ _ _) q more)
    next_child (both_children y z) more l q = absurd (omega (arith, few_children))

    pub child_refused : {i : ℕ} {now : Cursor} {tab tab′ : Table} {a : Result Cursor Refused} {e : Refused} → Kids i now tab → Reads (second now) now.statements tab tab′ a → i < children_of k
        → a ≡ Err e → Reads (read c.room b h (around_of c) (sofar_of r)) n (table_of ks xs ns) tab′ (Err e)
    child_refused no_child more l q = end_first more (λ z. omega arith) q
    child_refused (one_child y) more l q = end_second y refl (λ z. omega arith) (λ z. omega arith) more q
    child_refused (both_children y z) more l q = absurd (omega (arith, few_children))

    pub children_sized : {i : ℕ} {now : Cursor} {tab : Table} → Kids i now tab → i ≡ children_of k → (n ≤ now.statements) × (now.statements ≤ 512)
    children_sized no_child e = (omega (arith, one_later), omega (arith, one_later, hand_passes.counted))
    children_sized (one_child y) e = (omega (arith, size₁ y refl), few₁ y refl)
    children_sized (both_children y z) e = (omega (arith, size₂ y refl (λ q. omega arith) (λ q. omega arith) z refl), few₂ y refl (λ q. omega arith) (λ q. omega arith) z refl)

    pub all_children : {i : ℕ} {now : Cursor} {tab : Table} → Kids i now tab → i ≡ children_of k
        → Reads (read c.room b h (around_of c) (sofar_of r)) n (table_of ks xs ns) (table_of tab.kinds tab.operands (set tab.sizes n (now.statements - n))) (Ok now)
    all_children no_child e =
        let s : r₁.statements - n ≡ 1 = omega (arith, one_later) in
        subst⁻¹ (λ (m : ℕ). Reads (read c.room b h (around_of c) (sofar_of r)) n (table_of ks xs ns) (table_of (set ks n k) (set xs n o) (set ns n m)) (Ok r₁)) s (end_leaf (sym e))
    all_children (one_child y) e = end_above y refl (sym e)
    all_children (both_children y z) e = end_joined y refl (λ q. omega arith) (λ q. omega arith) z refl
