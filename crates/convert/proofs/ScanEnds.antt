-- The ends of the reading of a whole block of edition 2: each return of the code is one of them. Assumes nothing.
use mathlib.Core.Path.{◌≡◌, refl, sym, ◌∙◌, ap, ap₂, subst⁻¹}
use mathlib.Core.Bool.{Bool, true, false, not, cond, ◌&&◌, ◌||◌}
use mathlib.Core.List.{List}
use mathlib.Core.Option.{Option, none, some}
use Prim.Native.Nat.{ℕ, ◌+◌, ◌≤◌, ◌<◌}
use native.Mathlib.Nat.{pos_of_ne-zero}
use native.Mathlib.Omega.{arith}
use lib.Dec.{eqb, ltb, leb, lit≤}
use lib.ListN.{length}
use borrow.Author.Tests.{eq-eqb, ne_eqb, le-ltb, lt-ltb, le-leb, lt-leb, ltb-true, ltb-false}
use Rattle.sets.proofs.Words.{bits_zero}
use Rattle.sets.proofs.Members.{ext, of_false}
use Rattle.std.specs.Prelude.{Some, None, Result, Ok, Err}
use Rattle.refusals.specs.Refusals.{number}
use Rattle.refusals.specs.declared.Refused.{Refused}
use Rattle.refusals.specs.declared.Why.{Why}
use Rattle.refusals.specs.declared.Why.TheVariants.{Limit, Shape, Loop}
use Rattle.refusals.proofs.Laws.{number_back, of_a_block}
use Rattle.block.specs.Format.{two_bytes, kind_at, length_at, is_broken, Header, header, header_fault_in, Sofar, Around as Surroundings, outermost, begun}
use Rattle.block.specs.Told.{header_of, sofar_of, around_of, Ready, refusal_of, tested, told}
use Rattle.block.specs.declared.Declared.{Declared}
use Rattle.block.specs.declared.Cursor.{Cursor}
use Rattle.block.specs.declared.Context.{Context}
use Rattle.block.proofs.Passes.{none_of}
use Rattle.block.proofs.Ways.{tests_refused, tests_passed}
use Rattle.writing.specs.Answers.{writes, refuses}
use Rattle.writing.specs.Written.{block_bytes}
use Rattle.doubled.specs.Copies.{within_limits}
use Rattle.everyday.specs.Statements.{Everyday}
use Rattle.everyday.specs.Conversion.{converted}
use Rattle.converting.specs.Format.{Got₂, got₂, read₂, lowest_endless₂, Reading₂, good₂, turned_down₂, loops_checked₂, ended₂, header_fault₂, reading₂}
use Rattle.converting.specs.Conversions.{converting_tree, converting_of, converting}
use Rattle.converting.specs.Sizes.{fits}
use Rattle.converting.proofs.Sizes.{limits_by_size}
use Rattle.convert.specs.Scans.{Takes, Taken, Scans, answer_of, over_limits, EndsAs, Ends, Convertible, ScanTold}
use Rattle.convert.specs.declared.scan.Sizes.{Sizes}
use Rattle.convert.specs.declared.scan.Measured.{Measured}
use Rattle.convert.specs.declared.scan.Scanned.{Scanned}
use Rattle.convert.proofs.ScanWays.{was_refused, WasGot, was_got}
use Rattle.convert.proofs.ScanMeasures.{small_sizes}

-- The result is within the limits where none is passed.
at_most : (n x : ℕ) → leb x n ≡ not (ltb n x)
at_most n x = go (ltb n x) refl
  where
    go : (z : Bool) → ltb n x ≡ z → leb x n ≡ not z
    go true e = lt-leb x n (ltb-true n x e)
    go false e = le-leb x n (ltb-false n x e)

none_passed : (a b c d e : Bool) → (not a && (not b && (not c && (not d && not e)))) ≡ not (a || (b || (c || (d || e))))
none_passed true b c d e = refl
none_passed false true c d e = refl
none_passed false false true d e = refl
none_passed false false false true e = refl
none_passed false false false false e = refl

pub within_is : (h : Header) (p : Everyday) (s : Sizes) → h.inputs + h.outputs + h.locals ≤ 64 → Takes s p → within_limits h (converted p) ≡ not (over_limits s)
unfolding fits over_limits
within_is h p s l t =
    limits_by_size h p
    ∙ (λ i. le-leb (h.inputs + h.outputs + h.locals) 64 l i
    && (leb (sym t.its_statements i) 512
    && (leb (sym t.its_pauses i) 128 && (leb (sym t.its_traps i) 16 && (leb (sym t.its_nested i) 6 && leb (sym t.its_path i) 64)))))
    ∙ (λ i. at_most 512 s.statements i && (at_most 128 s.pauses i && (at_most 16 s.traps i && (at_most 6 s.nested i && at_most 64 s.path i))))
    ∙ none_passed (ltb 512 s.statements) (ltb 128 s.pauses) (ltb 16 s.traps) (ltb 6 s.nested) (ltb 64 s.path)

found : (o : Option ℕ) {n : ℕ} → answer_of o ≡ Some n → o ≡ some n
found none e = let z : ◌≡◌ {A = ℕ} 0 1 = cc in absurd (omega arith)
found (some k) {n} e = let i : k ≡ n = cc in ap some i

found_none : (o : Option ℕ) → answer_of o ≡ None → o ≡ none
found_none none e = refl
found_none (some k) e = let z : ◌≡◌ {A = ℕ} 0 1 = cc in absurd (omega arith)

abbrev refusal : Why → ℕ → Result Scanned Refused
refusal why place = Err (record { why = why; place = place })

-- After the tree.
module _ (b : List ℕ) (d : Declared) (m : Measured) (signals : d.inputs + d.outputs + d.locals ≤ 64) where
  abbrev h : Header
  h = header_of d

  place_is : {p : Everyday} {r₁ : Sofar} → Taken h begun p r₁ m → m.after.at ≡ r₁.place
  place_is t = ap (λ (z : Cursor). z.at) t.its_end

  locals_are : {p : Everyday} {r₁ : Sofar} → Taken h begun p r₁ m → m.after.locals ≡ r₁.locals
  locals_are t = ap (λ (z : Cursor). z.locals) t.its_end

  pub end_bytes : (m.after.at ≡ length b → ⊥) → Ends b d m (refusal Shape m.after.at)
  unfolding EndsAs converting_of number
  end_bytes n = record {
    of_tree = λ p r₁ t.
        ap (λ (z : Bool). converting_of (cond (z && eqb r₁.locals h.locals) (loops_checked₂ h p (lowest_endless₂ 14 p)) (turned_down₂ 7 r₁.place)))
        (ne_eqb r₁.place (length b) (λ e. n (place_is t ∙ e)))
        ∙ ap (refuses 7) (sym (place_is t));
  }

  pub end_locals : m.after.at ≡ length b → (m.after.locals ≡ d.locals → ⊥) → Ends b d m (refusal Shape m.after.at)
  unfolding EndsAs converting_of number
  end_locals e n = record {
    of_tree = λ p r₁ t.
        (λ i. converting_of (cond (eq-eqb r₁.place (length b) (sym (place_is t) ∙ e) i && ne_eqb r₁.locals h.locals (λ f. n (locals_are t ∙ f)) i)
        (loops_checked₂ h p (lowest_endless₂ 14 p)) (turned_down₂ 7 r₁.place)))
        ∙ ap (refuses 7) (sym (place_is t));
  }

  module _ (e : m.after.at ≡ length b) (l : m.after.locals ≡ d.locals) where
    whole : {p : Everyday} {r₁ : Sofar} → Taken h begun p r₁ m → ended₂ b h (got₂ p r₁) ≡ loops_checked₂ h p (lowest_endless₂ 14 p)
    whole {p} {r₁} t =
        λ i. cond (eq-eqb r₁.place (length b) (sym (place_is t) ∙ e) i && eq-eqb r₁.locals h.locals (sym (locals_are t) ∙ l) i)
        (loops_checked₂ h p (lowest_endless₂ 14 p)) (turned_down₂ 7 r₁.place)

    pub end_loop : {at : ℕ} → m.endless ≡ Some at → Ends b d m (refusal Loop at)
    unfolding EndsAs converting_of number
    end_loop n = record {
      of_tree = λ p r₁ t.
          ap converting_of (whole t ∙ ap (loops_checked₂ h p) (found (lowest_endless₂ 14 p) (sym t.its_loops ∙ n)));
    }

    passing : {p : Everyday} {r₁ : Sofar} → m.endless ≡ None → Taken h begun p r₁ m → ended₂ b h (got₂ p r₁) ≡ good₂ h p
    passing {p} z t = whole t ∙ ap (loops_checked₂ h p) (found_none (lowest_endless₂ 14 p) (sym t.its_loops ∙ z))

    pub end_limit : m.endless ≡ None → over_limits m.sizes ≡ true → Ends b d m (refusal Limit 0)
    unfolding EndsAs converting_of converting_tree number
    end_limit z o = record {
      of_tree = λ p r₁ t.
          ap converting_of (passing z t)
          ∙ ap (λ (y : Bool). cond y (writes (block_bytes h (converted p))) (refuses 4 0)) (within_is h p m.sizes signals t.its_sizes ∙ ap not o);
    }

    pub end_good : m.endless ≡ None → over_limits m.sizes ≡ false → Ends b d m (Ok (record { declared = d; size = 14 + m.sizes.bytes }))
    unfolding EndsAs
    end_good z o = record {
      of_tree = λ p r₁ t.
          (refl, passing z t, within_is h p m.sizes signals t.its_sizes ∙ ap not o, ap (λ (n : ℕ). 14 + n) t.its_sizes.its_bytes);
    }

-- The whole.
module _ (b : List ℕ) where
  -- What comes after the size test.
  abbrev headed : Reading₂
  headed = cond (eqb (header_fault₂ b) 0) (ended₂ b (header b) (read₂ 64 b (header b) outermost begun)) (turned_down₂ (header_fault₂ b) 0)

  pub over_size : 3086 < length b → ScanTold b (refusal Limit 0)
  unfolding ScanTold converting converting_of reading₂ number
  over_size l = ap (λ (z : Bool). converting_of (cond z (turned_down₂ 4 0) headed)) (lt-ltb 3086 (length b) l)

  small_if : (z : Bool) (n m : ℕ) → n ≤ 8 → m ≤ 8 → cond z n m ≤ 8
  small_if true n m l k = l
  small_if false n m l k = k

  header_small : header_fault_in 2 b ≤ 8
  unfolding header_fault_in
  header_small =
      small_if (is_broken b 0) 1 _ (lit≤ tt)
      (small_if (not (eqb (kind_at b 0) 1 && eqb (length_at b 0) 14)) 2 _ (lit≤ tt)
      (small_if (not (eqb (two_bytes b 4) 2)) 3 _ (lit≤ tt)
      (small_if (ltb 64 ((header b).inputs + (header b).outputs + (header b).locals)) 4 0 (lit≤ tt) (lit≤ tt))))

  same_header : header_fault₂ b ≡ header_fault_in 2 b
  unfolding header_fault₂
  same_header = refl

  pub no_fault : {q : Result (Unit {0}) Refused} → q ≡ tested (header_fault_in 2 b) 0 → q ≡ Ok tt → header_fault_in 2 b ≡ 0
  no_fault told i = tests_passed (header_fault_in 2 b) 0 (sym told ∙ i)

  module _ (fits_block : length b ≤ 3086) where
    sized : reading₂ b ≡ headed
    unfolding reading₂
    sized = ap (λ (z : Bool). cond z (turned_down₂ 4 0) headed) (le-ltb 3086 (length b) fits_block)

    bad_number : (header_fault_in 2 b ≡ 0 → ⊥) → converting b ≡ refuses (header_fault_in 2 b) 0
    unfolding converting converting_of
    bad_number z =
        let n = header_fault_in 2 b in
        ap converting_of (sized ∙ ap (λ (k : ℕ). cond (eqb k 0) (ended₂ b (header b) (read₂ 64 b (header b) outermost begun)) (turned_down₂ k 0)) same_header
        ∙ ap (λ (y : Bool). cond y (ended₂ b (header b) (read₂ 64 b (header b) outermost begun)) (turned_down₂ n 0)) (ne_eqb n 0 z))

    pub bad_header : {q : Result (Unit {0}) Refused} {r : Refused} {x : Result Scanned Refused} → q ≡ tested (header_fault_in 2 b) 0 → q ≡ Err r → x ≡ Err r → ScanTold b x
    unfolding ScanTold told
    bad_header {r = r} answer i j =
        let n = header_fault_in 2 b in
        let p = tests_refused n 0 (sym answer ∙ i) in
        let same : refusal_of n 0 ≡ r = let e = p.1 in cc in
        let s = header_small in
        subst⁻¹ (ScanTold b) j
        (bad_number p.0
        ∙ ap₂ refuses (sym (number_back n (of_a_block n (pos_of_ne-zero p.0) (omega arith))) ∙ ap (λ (x : Refused). number x.why) same) (ap (λ (x : Refused). x.place) same))

    module _ (d : Declared) (declares : header_of d ≡ header b) (fault : header_fault_in 2 b ≡ 0) where
      abbrev c₀ : Context
      c₀ = record { traps = 0; nested = 0; scope = 0; room = 64 }

      abbrev r₀ : Cursor
      r₀ = record { at = 14; statements = 0; pauses = 0; locals = 0 }

      abbrev statements_of : Got₂
      statements_of = read₂ 64 b (header_of d) (around_of c₀) (sofar_of r₀)

      header_fits : (header b).inputs + (header b).outputs + (header b).locals ≤ 64
      unfolding header_fault_in
      header_fits =
          let e₁ = none_of (is_broken b 0) 0 _ fault in
          let e₂ = none_of (not (eqb (kind_at b 0) 1 && eqb (length_at b 0) 14)) 1 _ e₁.1 in
          let e₃ = none_of (not (eqb (two_bytes b 4) 2)) 2 _ e₂.1 in
          let e₄ = none_of (ltb 64 ((header b).inputs + (header b).outputs + (header b).locals)) 3 0 e₃.1 in
          ltb-false _ _ e₄.0

      pub signals_fit : d.inputs + d.outputs + d.locals ≤ 64
      signals_fit = subst⁻¹ (λ (h : Header). h.inputs + h.outputs + h.locals ≤ 64) declares header_fits

      pub ready_start : Ready (length b) d c₀ r₀ × (0 < r₀.at)
      ready_start = (
        record {
          fits = fits_block;
          signals = signals_fit;
          few_traps = omega arith;
          few_nested = omega arith;
          small_scope = λ s e. absurd (of_false (bits_zero s) e);
          few_pauses = omega arith;
          few_locals = omega arith;
        },
        lit≤ tt,
      )

      no_scope : around_of c₀ ≡ outermost
      no_scope = λ i. record { traps = 0; nested = 0; scope = ext bits_zero i }

      reads_as : read₂ 64 b (header b) outermost begun ≡ statements_of
      reads_as = λ i. read₂ 64 b (sym declares i) (sym no_scope i) (sofar_of r₀)

      reading_ends : reading₂ b ≡ ended₂ b (header_of d) statements_of
      reading_ends =
          sized ∙ ap (λ (k : ℕ). cond (eqb k 0) (ended₂ b (header b) (read₂ 64 b (header b) outermost begun)) (turned_down₂ k 0)) (same_header ∙ fault)
          ∙ ap₂ (ended₂ b) (sym declares) reads_as

      module _ {q : Result Measured Refused} (scanned : Scans (header_of d) (sofar_of r₀) statements_of q) where
        pub tree_refused : {e : Refused} {x : Result Scanned Refused} → q ≡ Err e → x ≡ Err e → ScanTold b x
        unfolding ScanTold converting converting_of
        tree_refused e i = subst⁻¹ (ScanTold b) i (ap converting_of (reading_ends ∙ ap (ended₂ b (header_of d)) (was_refused scanned e)))

        module _ {m : Measured} (e : q ≡ Ok m) where
          got_it : WasGot (header_of d) begun statements_of m
          got_it = was_got scanned e

          pub small_bytes : m.sizes.bytes ≤ 26624
          small_bytes =
              let t = got_it.taken in
              let n = t.counted in
              let l = t.few_statements in
              (small_sizes got_it.tree (omega arith) t.its_sizes).few_bytes

          pub tree_ends : (x : Result Scanned Refused) → Ends b d m x → ScanTold b x
          unfolding ScanTold EndsAs converting converting_of converting_tree
          tree_ends x ends = go x (ends.of_tree got_it.tree got_it.end got_it.taken)
            where
              as_got : reading₂ b ≡ ended₂ b (header_of d) (got₂ got_it.tree got_it.end)
              as_got = reading_ends ∙ ap (ended₂ b (header_of d)) got_it.got_it

              go : (x : Result Scanned Refused) → EndsAs b d got_it.tree got_it.end x → ScanTold b x
              go (Err e) f = ap converting_of as_got ∙ f
              go (Ok s) f = subst⁻¹ (λ (z : Declared). Convertible b z s.size) f.0 (record {
                tree = got_it.tree;
                after = got_it.end;
                its_header = declares;
                short = fits_block;
                read = ap (λ (z : Surroundings). read₂ 64 b (header_of d) z begun) (sym no_scope) ∙ got_it.got_it;
                good = as_got ∙ f.1;
                within = f.2;
                sized = f.3;
                written = ap converting_of (as_got ∙ f.1) ∙ ap (λ (z : Bool). cond z (writes (block_bytes (header_of d) (converted got_it.tree))) (refuses 4 0)) f.2;
              })
