-- The ends of a whole reading: what the code answers at each return is the answer to the reading.
use mathlib.Core.Path.{◌≡◌, refl, sym, ◌∙◌, ap, subst}
use mathlib.Core.Bool.{Bool, true, false, cond, ◌&&◌}
use mathlib.Core.Option.{Option, none, some}
use mathlib.Core.List.{List}
use Prim.Native.Nat.{ℕ, ◌+◌, ◌≤◌, ◌<◌}
use native.Mathlib.Nat.{zero-add}
use native.Mathlib.Omega.{arith}
use native.Mathlib.Decide.{ℕ_discrete}
use lib.Dec.{eqb}
use lib.ListN.{length}
use borrow.Author.Tests.{eq-eqb, ne_eqb, lt-ltb, le-ltb}
use Rattle.refusals.specs.Refusals.{number, first_with}
use Rattle.refusals.specs.declared.Why.TheVariants.{Limit, Shape, Loop}
use Rattle.sets.proofs.Members.{ext, of_false}
use Rattle.sets.proofs.Words.{bits_zero}
use Rattle.rules.specs.Statements.{Stmt}
use Rattle.tables.specs.Table.{Has, statements}
use Rattle.tables.specs.declared.Table.{Table}
use Rattle.block.specs.Format.{Header, Around, Sofar, Got, got, refused, Reading, turned_down, header, header_fault, read, ended, loops_checked, offset}
use Rattle.block.specs.Format.{reading, outermost}
use Rattle.tables.specs.Codes.{lowest_endless}
use Rattle.block.specs.Told.{header_of, sofar_of, around_of, Built, Full, Reads, Ready, refusal_of, tested, told, summary_of, answer_to, InTable, ReadWhole}
use Rattle.tables.specs.Codes.{Tabled, found}
use Rattle.block.specs.declared.Declared.{Declared}
use Rattle.block.specs.declared.Cursor.{Cursor}
use Rattle.block.specs.declared.Context.{Context}
use Rattle.block.specs.declared.whole.Summary.{Summary}
use Rattle.std.specs.Prelude.{Result, Ok, Err, Some, None, ⊤}
use Rattle.refusals.specs.declared.Refused.{Refused}
use Rattle.block.proofs.Parse.{parsed}
use Rattle.block.proofs.Trees.{Tree, tree}
use Rattle.block.proofs.Ways.{tests_refused, tests_passed, was_got}
use Rattle.block.proofs.GoodReadings.{header_fits, outermost_fits, begun_counts, reading_is}

-- After the tree.
module _ (b : List ℕ) (h : Header) (t : Stmt) (r : Sofar) where
  pub end_shape : (r.place ≡ length b → r.locals ≡ h.locals → ⊥) → Err (record { why = Shape; place = r.place }) ≡ answer_to (ended b h (got t r))
  unfolding ended answer_to first_with number
  end_shape n = go (ℕ_discrete r.place (length b))
    where
      go : Dec (r.place ≡ length b) → Err (record { why = Shape; place = r.place }) ≡ answer_to (ended b h (got t r))
      go (yes e) = sym (simp (eq-eqb r.place (length b) e, ne_eqb r.locals h.locals (n e)))
      go (no e) = sym (simp (ne_eqb r.place (length b) e))

  module _ (e : r.place ≡ length b) (l : r.locals ≡ h.locals) where
    pub end_loop : (n at : ℕ) → lowest_endless t ≡ some n → at ≡ offset t n → Err (record { why = Loop; place = at }) ≡ answer_to (ended b h (got t r))
    unfolding ended answer_to first_with number loops_checked
    end_loop n at o f = sym (simp (eq-eqb r.place (length b) e, eq-eqb r.locals h.locals l, o, f))

    pub end_good : lowest_endless t ≡ none → Ok (summary_of (record { header = h; body = t; statements = r.statements; pauses = r.pauses })) ≡ answer_to (ended b h (got t r))
    unfolding ended answer_to first_with number loops_checked
    end_good o = sym (simp (eq-eqb r.place (length b) e, eq-eqb r.locals h.locals l, o))

pub found_some : (o : Option ℕ) (n : ℕ) → Some n ≡ found o → o ≡ some n
found_some none n e = let z : ⊥ = cc in absurd z
found_some (some k) n e = let q : n ≡ k = cc in ap some (sym q)

pub found_none : (o : Option ℕ) → None ≡ found o → o ≡ none
found_none none e = refl
found_none (some k) e = let z : ⊥ = cc in absurd z

-- A refusal of a statement is the whole reading's.
refused_ends : (b : List ℕ) (h : Header) (g : Got) (tab : Table) {e : Refused} → told g ≡ Err e → (answer_to (ended b h g) ≡ Err e) × InTable (ended b h g) tab
unfolding told answer_to InTable ended
refused_ends b h (got p r) tab q = let z : ⊥ = cc in absurd z
refused_ends b h (refused n at) tab {e} q = let w : refusal_of n at ≡ e = cc in (ap Err w, tt)

-- The whole reading.
module _ (b : List ℕ) where
  pub over_size : {tab : Table} → 3086 < length b → Full tab → ReadWhole (reading b) tab (Err (record { why = Limit; place = 0 }))
  unfolding answer_to InTable first_with number
  over_size {tab} l f =
      let e : reading b ≡ turned_down 4 0 = reading_is b ∙ simp (lt-ltb 3086 (length b) l) in
      subst (λ (x : Reading). ReadWhole x tab (Err (record { why = Limit; place = 0 }))) (sym e) (record { answered = refl; stands = tt; full = f })

  pub good_header : {t : Result ⊤ Refused} → t ≡ tested (header_fault b) 0 → t ≡ Ok tt → header_fault b ≡ 0
  good_header tests q = tests_passed (header_fault b) 0 (sym tests ∙ q)

  module _ (fits : length b ≤ 3086) where
    pub bad_header : {t : Result ⊤ Refused} → t ≡ tested (header_fault b) 0 → {tab : Table} {e : Refused} → t ≡ Err e → Full tab → ReadWhole (reading b) tab (Err e)
    unfolding answer_to InTable told
    bad_header tests {tab} {e} q f =
        let n = tests_refused (header_fault b) 0 (sym tests ∙ q) in
        let d : reading b ≡ turned_down (header_fault b) 0 = reading_is b ∙ simp (le-ltb 3086 (length b) fits, ne_eqb (header_fault b) 0 n.0) in
        let w : refusal_of (header_fault b) 0 ≡ e = let n₁ = n.1 in cc in
        subst (λ (x : Reading). ReadWhole x tab (Err e)) (sym d) (record { answered = sym (ap Err w); stands = tt; full = f })

    module _ (d : Declared) (declares : header_of d ≡ header b) (fault : header_fault b ≡ 0) where
      abbrev c₀ : Context
      c₀ = record { traps = 0; nested = 0; scope = 0; room = 64 }

      abbrev r₀ : Cursor
      r₀ = record { at = 14; statements = 0; pauses = 0; locals = 0 }

      abbrev statements_of : Got
      statements_of = read 64 b (header_of d) (around_of c₀) (sofar_of r₀)

      signals_fit : d.inputs + d.outputs + d.locals ≤ 64
      signals_fit = subst (λ (h : Header). h.inputs + h.outputs + h.locals ≤ 64) (sym declares) (header_fits b fault)

      pub ready_start : Ready (length b) d c₀ r₀
      ready_start = record {
        fits = fits;
        signals = signals_fit;
        few_traps = omega arith;
        few_nested = omega arith;
        small_scope = λ s e. absurd (of_false (bits_zero s) e);
        few_pauses = omega arith;
        few_locals = omega arith;
      }

      no_scope : around_of c₀ ≡ outermost
      no_scope = λ i. record { traps = 0; nested = 0; scope = ext bits_zero i }

      reading_ends : reading b ≡ ended b (header_of d) statements_of
      reading_ends =
          reading_is b ∙ simp (le-ltb 3086 (length b) fits, eq-eqb (header_fault b) 0 fault)
          (λ i. ended b (sym declares i) (read 64 b (sym declares i) (sym no_scope i) (sofar_of r₀)))

      module _ {before tab : Table} {a : Result Cursor Refused} (read_it : Reads statements_of 0 before tab a) where
        pub tree_refused : {e : Refused} → a ≡ Err e → ReadWhole (reading b) tab (Err e)
        tree_refused {e} q =
            let n = refused_ends b (header_of d) statements_of tab (sym read_it.answered ∙ q) in
            subst (λ (x : Reading). ReadWhole x tab (Err e)) (sym reading_ends) (record { answered = sym n.0; stands = n.1; full = read_it.full })

        module _ {r : Cursor} (e : a ≡ Ok r) where
          tree_got : (t : Stmt) × (statements_of ≡ got t (sofar_of r))
          tree_got = was_got statements_of (sym read_it.answered ∙ e)

          its_tree : Tree 64 (length b) (header_of d) outermost (sofar_of r₀) tree_got.0 (sofar_of r)
          its_tree =
              tree b (header_of d) signals_fit outermost_fits (begun_counts (header_of d))
              (parsed b (header_of d) 64 outermost (sofar_of r₀) tree_got.0 (sofar_of r) (ap (λ (x : Around). read 64 b (header_of d) x (sofar_of r₀)) (sym no_scope) ∙ tree_got.1))

          pub few_read : r.statements ≤ 512
          few_read = its_tree.few_statements

          has_tree : Has tab 0 tree_got.0
          unfolding Built
          has_tree = subst (λ (g : Got). Built g 0 tab) tree_got.1 read_it.built

          tabled : Tabled tab r.statements tree_got.0
          tabled = record { has = has_tree; small = its_tree.small; counted = sym (its_tree.counted ∙ zero-add (statements tree_got.0)) }

          stands_at : (z : Bool) (o : Option ℕ)
              → InTable (cond z (loops_checked (record { header = header_of d; body = tree_got.0; statements = r.statements; pauses = r.pauses }) o) (turned_down 7 r.at)) tab
          unfolding InTable loops_checked
          stands_at true none = has_tree
          stands_at true (some n) = tt
          stands_at false o = tt

          pub tree_ends : {x : Result Summary Refused} → ((t : Stmt) → Tabled tab r.statements t → x ≡ answer_to (ended b (header_of d) (got t (sofar_of r)))) → ReadWhole (reading b) tab x
          unfolding ended
          tree_ends {x} f =
              subst (λ (y : Reading). ReadWhole y tab x) (sym (reading_ends ∙ ap (ended b (header_of d)) tree_got.1))
              (record {
                answered = f tree_got.0 tabled;
                stands = stands_at (eqb r.at (length b) && eqb r.locals d.locals) (lowest_endless tree_got.0);
                full = read_it.full;
              })
