-- One lemma for each way through the code that reads a statement of edition 2: what the code has at its return is what it promises. Assumes nothing.
use mathlib.Core.Path.{◌≡◌, refl, sym, ◌∙◌, ap, ap₂, subst, subst⁻¹}
use mathlib.Core.Bool.{cond, ◌&&◌}
use mathlib.Core.List.{List}
use Prim.Native.Nat.{ℕ, zero, suc, ◌+◌, ◌≤◌, ◌<◌}
use native.Mathlib.Numerals.{add-one}
use native.Mathlib.Omega.{arith}
use lib.Dec.{eqb}
use lib.ListN.{length}
use Rattle.std.specs.Prelude.{Some, Result, Ok, Err, IsErr}
use Rattle.std.specs.Result.{IsErrAnd}
use Rattle.std.specs.Option.{option_or}
use Rattle.refusals.specs.Refusals.{number}
use Rattle.refusals.specs.declared.Refused.{Refused}
use Rattle.refusals.proofs.Laws.{number_above}
use Rattle.sets.specs.Words.{bits}
use Rattle.block.specs.Format.{Header, Sofar, Around as Surroundings, kind_at, operand_at, past, inside}
use Rattle.block.specs.Told.{header_of, sofar_of, around_of, cursor_of, Ready}
use Rattle.block.specs.declared.Declared.{Declared}
use Rattle.block.specs.declared.Cursor.{Cursor}
use Rattle.block.specs.declared.Context.{Context}
use Rattle.block.proofs.Passes.{Passes, passes_as}
use Rattle.block.proofs.Trees.{Counts, AroundFits, inside_fits, past_counts}
use Rattle.everyday.specs.Statements.{Everyday, alone, around, between}
use Rattle.everyday.specs.Check.{codes_around, codes_between, codes₂}
use Rattle.converting.specs.Format.{Sort, of_none, of_one, of_two, at_fault, stands, due, past₂, Got₂, got₂, refused₂, and_then₂, with_children₂, read₂, bytes₂, lowest_endless₂}
use Rattle.converting.proofs.Sorts.{IsSort}
use Rattle.convert.specs.Scans.{tested_as, coded_as, fault_of, FaultTold, SmallSizes, OfNone, OfOne, OfTwo, Takes, records_in, Taken, Scans, got_to, refused_at}
use Rattle.convert.specs.declared.scan.Sizes.{Sizes}
use Rattle.convert.specs.declared.scan.Measured.{Measured}
use Rattle.convert.proofs.ScanTests.{children_in, below, tested, Seen, seen_fault, seen, due?, due_as}
use Rattle.convert.proofs.ScanMeasures.{exit_coded, alone_coded, around_coded, between_coded, around_endless, between_endless, alone_takes, around_takes, between_takes, small_sizes}

-- A refusal is passed on as it is.
pub passed_on : {T : Type 0} {e : Refused} (r : Result T Refused) → IsErr r × IsErrAnd r (λ f. f ≡ e) → r ≡ Err e
passed_on (Ok x) h = absurd h.1
passed_on (Err f) h = ap Err h.1

-- What an answer says of the reading.
pub was_refused : {h : Header} {r : Sofar} {g : Got₂} {q : Result Measured Refused} {e : Refused} → Scans h r g q → q ≡ Err e → g ≡ refused₂ (number e.why) e.place
was_refused (got_to t) e = let z : ◌≡◌ {A = ℕ} 0 1 = cc in absurd (omega arith)
was_refused {e = f} (refused_at {e = g}) e = let i : g ≡ f = cc in ap (λ (x : Refused). refused₂ (number x.why) x.place) i

pub record WasGot (h : Header) (r : Sofar) (g : Got₂) (m : Measured) : Type 0 where
  pub tree : Everyday
  pub end : Sofar
  pub got_it : g ≡ got₂ tree end
  pub taken : Taken h r tree end m

pub was_got : {h : Header} {r : Sofar} {g : Got₂} {q : Result Measured Refused} {m : Measured} → Scans h r g q → q ≡ Ok m → WasGot h r g m
was_got {h} {r} {m = m} (got_to {p = p} {r₁ = r₁} {m = m'} t) e =
    let em : m' ≡ m = cc in
    record { tree = p; end = r₁; got_it = refl; taken = subst (Taken h r p r₁) em t }
was_got refused_at e = let z : ◌≡◌ {A = ℕ} 0 1 = cc in absurd (omega arith)

scans_got : {h : Header} {r : Sofar} {g : Got₂} {p : Everyday} {r₁ : Sofar} {m : Measured} → g ≡ got₂ p r₁ → Taken h r p r₁ m → Scans h r g (Ok m)
scans_got {h} {r} {m = m} e t = subst⁻¹ (λ (g : Got₂). Scans h r g (Ok m)) e (got_to t)

scans_refused : {h : Header} {r : Sofar} {g : Got₂} {e : Refused} {q : Result Measured Refused} → q ≡ Err e → g ≡ refused₂ (number e.why) e.place → Scans h r g q
scans_refused {h} {r} {e = f} i e = subst⁻¹ (Scans h r _) i (subst⁻¹ (λ (g : Got₂). Scans h r g (Err f)) e refused_at)

-- A record at fault ends the reading, whatever room there is.
stops : (room : ℕ) (b : List ℕ) (h : Header) (a : Surroundings) (r : Sofar) (n : ℕ) → due room b h a r ≡ at_fault n → read₂ room b h a r ≡ refused₂ n r.place
unfolding read₂
stops zero b h a r n e = ap (with_children₂ (λ a r. refused₂ 4 r.place) a r) e
stops (suc room) b h a r n e = ap (with_children₂ (read₂ room b h) a r) e

pub end_fault : (b : List ℕ) (d : Declared) (c : Context) (r : Cursor) {t : Result (Unit {0}) Refused} {e : Refused} {q : Result Measured Refused}
    → FaultTold (due c.room b (header_of d) (around_of c) (sofar_of r)) r.at t → t ≡ Err e → q ≡ Err e
    → Scans (header_of d) (sofar_of r) (read₂ c.room b (header_of d) (around_of c) (sofar_of r)) q
unfolding fault_of
end_fault b d c r {e = e} {q = answer} told f i = go (due? c.room b (header_of d) (around_of c) (sofar_of r)) (subst (FaultTold (due c.room b (header_of d) (around_of c) (sofar_of r)) r.at) f told)
  where
    go : Seen c.room b (header_of d) (around_of c) (sofar_of r) → FaultTold (due c.room b (header_of d) (around_of c) (sofar_of r)) r.at (Err e)
        → Scans (header_of d) (sofar_of r) (read₂ c.room b (header_of d) (around_of c) (sofar_of r)) answer
    go (seen_fault m q l) w =
        let n : suc m ≡ number e.why = sym (w.its_number ∙ ap fault_of q) in
        scans_refused i (stops c.room b (header_of d) (around_of c) (sofar_of r) (suc m) q ∙ ap₂ refused₂ n (sym w.its_place))
    go (seen s q l v) w = absurd (number_above e.why (w.its_number ∙ ap fault_of q))

-- What stands at a record that passes.
pub record Stood (b : List ℕ) (d : Declared) (c : Context) (r : Cursor) (k x : ℕ) : Type 0 where
  pub sort : Sort
  pub due_is : due c.room b (header_of d) (around_of c) (sofar_of r) ≡ stands sort
  pub in_block : r.at < length b
  pub seen_as : IsSort k x sort
  pub passes : Passes c.room (length b) (header_of d) (around_of c) (sofar_of r) (tested_as k) x

pub stood : (b : List ℕ) (d : Declared) (c : Context) (r : Cursor) (k x : ℕ) → k ≡ kind_at b r.at → x ≡ operand_at b r.at
    → {t : Result (Unit {0}) Refused} {done : Unit {0}} → FaultTold (due c.room b (header_of d) (around_of c) (sofar_of r)) r.at t → t ≡ Ok done → Stood b d c r k x
unfolding fault_of
stood b d c r k x ek ex told i = go (due? c.room b (header_of d) (around_of c) (sofar_of r)) (subst (FaultTold (due c.room b (header_of d) (around_of c) (sofar_of r)) r.at) i told).passed
  where
    go : Seen c.room b (header_of d) (around_of c) (sofar_of r) → fault_of (due c.room b (header_of d) (around_of c) (sofar_of r)) ≡ 0 → Stood b d c r k x
    go (seen_fault m q l) e = let f : suc m ≡ 0 = sym (ap fault_of q) ∙ e in absurd (omega arith)
    go (seen s q l v) e = record {
      sort = s;
      due_is = q;
      in_block = l;
      seen_as = subst⁻¹ (λ (j : ℕ). IsSort j x s) ek (subst⁻¹ (λ (y : ℕ). IsSort (kind_at b r.at) y s) ex v);
      passes = subst⁻¹ (λ (j : ℕ). Passes c.room (length b) (header_of d) (around_of c) (sofar_of r) (tested_as j) x) ek
          (subst⁻¹ (λ (y : ℕ). Passes c.room (length b) (header_of d) (around_of c) (sofar_of r) (tested_as (kind_at b r.at)) y) ex
          (passes_as c.room b (header_of d) (around_of c) (sofar_of r) (tested_as (kind_at b r.at)) l
          (sym (due_as c.room b (header_of d) (around_of c) (sofar_of r) l) ∙ e)));
    }

-- What the code has in hand of a record that passes.
pub record Hand (b : List ℕ) (d : Declared) (c : Context) (r : Cursor) (k x : ℕ) (c₁ : Context) (r₁ : Cursor) : Type 0 where
  pub ready : Ready (length b) d c r
  pub placed : 0 < r.at
  pub its_record : Stood b d c r k x
  pub around_it : around_of c₁ ≡ inside (tested_as k) x (around_of c)
  pub room_left : c₁.room + 1 ≡ c.room
  pub next : sofar_of r₁ ≡ past (tested_as k) (sofar_of r)

pub in_hand : {b : List ℕ} {d : Declared} {c : Context} {r : Cursor} {k x j : ℕ} {c₁ : Context} {r₁ : Cursor} → Ready (length b) d c r × (0 < r.at) → Stood b d c r k x → j ≡ tested_as k
    → (around_of c₁ ≡ inside j x (around_of c)) × (c₁.room + 1 ≡ c.room) → sofar_of r₁ ≡ past j (sofar_of r) → Hand b d c r k x c₁ r₁
in_hand {c = c} {r} {x = x} ready s like inner next = record {
  ready = ready.0;
  placed = ready.1;
  its_record = s;
  around_it = inner.0 ∙ ap (λ (j : ℕ). inside j x (around_of c)) like;
  room_left = inner.1;
  next = next ∙ ap (λ (j : ℕ). past j (sofar_of r)) like;
}

module _ {b : List ℕ} {d : Declared} {c : Context} {r : Cursor} {k x : ℕ} {c₁ : Context} {r₁ : Cursor} (w : Hand b d c r k x c₁ r₁) where
  abbrev h : Header
  h = header_of d

  abbrev a : Surroundings
  a = around_of c

  abbrev s : Sort
  s = w.its_record.sort

  abbrev whole : Got₂
  whole = read₂ c.room b h a (sofar_of r)

  abbrev first : Got₂
  first = read₂ c₁.room b h (around_of c₁) (sofar_of r₁)

  after_record : sofar_of r₁ ≡ past₂ s (sofar_of r)
  after_record = w.next ∙ sym ((tested w.its_record.seen_as).its_past (sofar_of r))

  around_below : around_of c₁ ≡ below s a
  around_below = w.around_it ∙ sym ((tested w.its_record.seen_as).its_inside a)

  opened : whole ≡ with_children₂ (read₂ c₁.room b h) a (sofar_of r) (stands s)
  unfolding read₂
  opened =
      let e : suc c₁.room ≡ c.room = sym (add-one c₁.room) ∙ w.room_left in
      ap (λ (n : ℕ). read₂ n b h a (sofar_of r)) (sym e)
      ∙ ap (with_children₂ (read₂ c₁.room b h) a (sofar_of r)) (ap (λ (n : ℕ). due n b h a (sofar_of r)) e ∙ w.its_record.due_is)

  fits_around : AroundFits a
  fits_around = record { few_traps = w.ready.few_traps; few_nested = w.ready.few_nested; small_scope = w.ready.small_scope }

  child_fits : AroundFits (around_of c₁)
  child_fits = subst⁻¹ AroundFits w.around_it (inside_fits h w.ready.signals fits_around (tested_as k) w.its_record.passes)

  child_counts : Counts h (sofar_of r₁)
  child_counts =
      subst⁻¹ (Counts h) w.next
      (past_counts h w.ready.signals fits_around (tested_as k) w.its_record.passes (record { few_pauses = w.ready.few_pauses; few_locals = w.ready.few_locals }))

  ready_with : (r₂ : Cursor) → Counts h (sofar_of r₂) → Ready (length b) d c₁ r₂
  ready_with r₂ n = record {
    fits = w.ready.fits;
    signals = w.ready.signals;
    few_traps = child_fits.few_traps;
    few_nested = child_fits.few_nested;
    small_scope = child_fits.small_scope;
    few_pauses = n.few_pauses;
    few_locals = n.few_locals;
  }

  later : 0 < r₁.at
  unfolding past
  later = let e = ap (λ (y : Sofar). y.place) w.next in let l = w.placed in omega arith

  pub ready_first : Ready (length b) d c₁ r₁ × (0 < r₁.at)
  ready_first = (ready_with r₁ child_counts, later)

  counted₁ : r₁.statements ≡ r.statements + 1
  unfolding past
  counted₁ = ap (λ (y : Sofar). y.statements) w.next

  small_exit : coded_as k ≡ 25 → x < 16
  small_exit e = let l = w.its_record.passes.exiting (exit_coded w.its_record.seen_as e) in let t = w.ready.few_traps in omega arith

  -- None below.
  pub end_none : {m : Measured} → children_in s ≡ 0 → OfNone k x r₁ m → Scans h (sofar_of r) whole (Ok m)
  unfolding codes₂ lowest_endless₂ bytes₂ records_in
  end_none {m} n o = go s refl w.its_record.seen_as opened after_record n
    where
      go : (t : Sort) → s ≡ t → IsSort k x t → whole ≡ with_children₂ (read₂ c₁.room b h) a (sofar_of r) (stands t) → sofar_of r₁ ≡ past₂ t (sofar_of r) → children_in t ≡ 0
          → Scans h (sofar_of r) whole (Ok m)
      go (of_none l) f v q e n =
          let y = child_counts in
          let g = w.its_record.passes.counted in
          scans_got q (record {
            its_end = o.its_end ∙ ap cursor_of e;
            its_codes = o.its_codes small_exit ∙ alone_coded (bits 0) (bits 0) v;
            its_loops = o.its_loops;
            its_sizes = subst⁻¹ (λ (z : Sizes). Takes z (alone l)) o.its_sizes (alone_takes v);
            ends_at = refl;
            counted = refl;
            few_statements = omega arith;
            few_pauses = subst (λ (z : Sofar). z.pauses ≤ 128) e y.few_pauses;
            few_locals = subst (λ (z : Sofar). z.locals ≤ h.locals) e y.few_locals;
          })
      go (of_one g) f v q e n = absurd (omega arith)
      go (of_two g) f v q e n = absurd (omega arith)

  -- The first below.
  abbrev child_first : (t : Sort) → Got₂
  child_first t = read₂ c₁.room b h (below t a) (past₂ t (sofar_of r))

  first_is : first ≡ child_first s
  first_is = λ i. read₂ c₁.room b h (around_below i) (after_record i)

  module _ {q₁ : Result Measured Refused} (one : Scans h (sofar_of r₁) first q₁) where
    pub end_first : {e : Refused} {q : Result Measured Refused} → (children_in s ≡ 0 → ⊥) → q₁ ≡ Err e → q ≡ Err e → Scans h (sofar_of r) whole q
    end_first {e = f} z e i = scans_refused i (go s opened (sym first_is ∙ was_refused one e) z)
      where
        go : (t : Sort) → whole ≡ with_children₂ (read₂ c₁.room b h) a (sofar_of r) (stands t) → child_first t ≡ refused₂ (number f.why) f.place → (children_in t ≡ 0 → ⊥) → whole ≡ refused₂ (number f.why) f.place
        go (of_none l) q f z = absurd (z refl)
        go (of_one g) q f z = q ∙ ap (λ (y : Got₂). and_then₂ y (λ p r₂. got₂ (around g p) r₂)) f
        go (of_two o) q f z = q ∙ ap (λ (y : Got₂). and_then₂ y (λ p r₂. and_then₂ (read₂ c₁.room b h a r₂) λ q r₃. got₂ (between o p q) r₃)) f

    module _ {m₁ : Measured} (e : q₁ ≡ Ok m₁) where
      got₁ : WasGot h (sofar_of r₁) first m₁
      got₁ = was_got one e

      abbrev p : Everyday
      p = got₁.tree

      abbrev r₂ : Sofar
      r₂ = got₁.end

      pub small_first : SmallSizes m₁.sizes
      small_first = let t = got₁.taken in let n = t.counted in let l = t.few_statements in small_sizes p (omega arith) t.its_sizes

      -- What the first took, told of the place behind the record.
      taken₁ : Taken h (past₂ s (sofar_of r)) p r₂ m₁
      taken₁ = subst (λ (z : Sofar). Taken h z p r₂ m₁) after_record got₁.taken

      its_first : child_first s ≡ got₂ p r₂
      its_first = sym first_is ∙ got₁.got_it

      pub end_one : {m : Measured} → children_in s ≡ 1 → OfOne k x r.at m₁ m → Scans h (sofar_of r) whole (Ok m)
      unfolding codes₂ bytes₂ records_in
      end_one {m} n o = go s w.its_record.seen_as opened its_first taken₁ n
        where
          go : (t : Sort) → IsSort k x t → whole ≡ with_children₂ (read₂ c₁.room b h) a (sofar_of r) (stands t) → child_first t ≡ got₂ p r₂ → Taken h (past₂ t (sofar_of r)) p r₂ m₁
              → children_in t ≡ 1 → Scans h (sofar_of r) whole (Ok m)
          go (of_none l) v q f t n = absurd (omega arith)
          go (of_one g) v q f t n =
              let u = t.ends_at in
              let y = t.counted in
              scans_got (q ∙ ap (λ (y : Got₂). and_then₂ y (λ p r₂. got₂ (around g p) r₂)) f) (record {
                its_end = o.its_end ∙ t.its_end;
                its_codes = o.its_codes small_exit ∙ around_coded (bits m₁.codes) (bits 0) v ∙ ap (codes_around g) t.its_codes;
                its_loops = o.its_loops ∙ (λ i. cond (eqb k 22 && t.its_codes i 0) (Some r.at) (t.its_loops i)) ∙ around_endless r.at p v;
                its_sizes = subst⁻¹ (λ (z : Sizes). Takes z (around g p)) o.its_sizes (around_takes t.its_sizes v);
                ends_at = omega arith;
                counted = omega arith;
                few_statements = t.few_statements;
                few_pauses = t.few_pauses;
                few_locals = t.few_locals;
              })
          go (of_two g) v q f t n = absurd (omega arith)

      pub ready_second : Ready (length b) d c₁ m₁.after × (0 < m₁.after.at)
      ready_second =
          let t = got₁.taken in
          let u = t.ends_at in
          let l = later in
          let i = ap (λ (z : Cursor). z.at) t.its_end in
          (ready_with m₁.after (subst⁻¹ (λ (z : Cursor). Counts h (sofar_of z)) t.its_end (record { few_pauses = t.few_pauses; few_locals = t.few_locals })), omega arith)

      -- The second below.
      abbrev second : Got₂
      second = read₂ c₁.room b h (around_of c₁) (sofar_of m₁.after)

      second_at : sofar_of m₁.after ≡ r₂
      second_at = ap sofar_of got₁.taken.its_end

      second_is : second ≡ read₂ c₁.room b h (below s a) r₂
      second_is = λ i. read₂ c₁.room b h (around_below i) (second_at i)

      module _ {q₂ : Result Measured Refused} (two : Scans h (sofar_of m₁.after) second q₂) where
        pub end_second : {e : Refused} {q : Result Measured Refused} → (children_in s ≡ 0 → ⊥) → (children_in s ≡ 1 → ⊥) → q₂ ≡ Err e → q ≡ Err e → Scans h (sofar_of r) whole q
        end_second {e = f} z y e₂ i = scans_refused i (go s opened its_first (sym second_is ∙ was_refused two e₂) z y)
          where
            go : (t : Sort) → whole ≡ with_children₂ (read₂ c₁.room b h) a (sofar_of r) (stands t) → child_first t ≡ got₂ p r₂ → read₂ c₁.room b h (below t a) r₂ ≡ refused₂ (number f.why) f.place
                → (children_in t ≡ 0 → ⊥) → (children_in t ≡ 1 → ⊥) → whole ≡ refused₂ (number f.why) f.place
            go (of_none l) q f g z y = absurd (z refl)
            go (of_one l) q f g z y = absurd (y refl)
            go (of_two o) q f g z y =
                q ∙ ap (λ (y : Got₂). and_then₂ y (λ p r₂. and_then₂ (read₂ c₁.room b h a r₂) λ q r₃. got₂ (between o p q) r₃)) f
                ∙ ap (λ (y : Got₂). and_then₂ y (λ q r₃. got₂ (between o p q) r₃)) g

        module _ {m₂ : Measured} (e₂ : q₂ ≡ Ok m₂) where
          got₂_it : WasGot h (sofar_of m₁.after) second m₂
          got₂_it = was_got two e₂

          abbrev p₂ : Everyday
          p₂ = got₂_it.tree

          abbrev r₃ : Sofar
          r₃ = got₂_it.end

          pub small_second : SmallSizes m₂.sizes
          small_second = let t = got₂_it.taken in let n = t.counted in let l = t.few_statements in small_sizes p₂ (omega arith) t.its_sizes

          taken₂ : Taken h r₂ p₂ r₃ m₂
          taken₂ = subst (λ (z : Sofar). Taken h z p₂ r₃ m₂) second_at got₂_it.taken

          its_second : read₂ c₁.room b h (below s a) r₂ ≡ got₂ p₂ r₃
          its_second = sym second_is ∙ got₂_it.got_it

          pub end_two : {m : Measured} → (children_in s ≡ 0 → ⊥) → (children_in s ≡ 1 → ⊥) → OfTwo k x m₁ m₂ m → Scans h (sofar_of r) whole (Ok m)
          unfolding codes₂ bytes₂ records_in
          end_two {m} z y o = go s w.its_record.seen_as opened its_first its_second taken₁ z y
            where
              go : (t : Sort) → IsSort k x t → whole ≡ with_children₂ (read₂ c₁.room b h) a (sofar_of r) (stands t) → child_first t ≡ got₂ p r₂
                  → read₂ c₁.room b h (below t a) r₂ ≡ got₂ p₂ r₃ → Taken h (past₂ t (sofar_of r)) p r₂ m₁ → (children_in t ≡ 0 → ⊥) → (children_in t ≡ 1 → ⊥)
                  → Scans h (sofar_of r) whole (Ok m)
              go (of_none l) v q f g t z y = absurd (z refl)
              go (of_one l) v q f g t z y = absurd (y refl)
              go (of_two l) v q f g t z y =
                  let t₂ = taken₂ in
                  let u = t.ends_at in
                  let u₂ = t₂.ends_at in
                  let n = t.counted in
                  let n₂ = t₂.counted in
                  scans_got (q ∙ ap (λ (y : Got₂). and_then₂ y (λ p r₂. and_then₂ (read₂ c₁.room b h a r₂) λ q r₃. got₂ (between l p q) r₃)) f
                  ∙ ap (λ (y : Got₂). and_then₂ y (λ q r₃. got₂ (between l p q) r₃)) g) (record {
                    its_end = o.its_end ∙ t₂.its_end;
                    its_codes = o.its_codes small_exit ∙ between_coded (bits m₁.codes) (bits m₂.codes) v ∙ ap₂ (codes_between l) t.its_codes t₂.its_codes;
                    its_loops = o.its_loops ∙ ap₂ option_or t.its_loops t₂.its_loops ∙ between_endless r.at r₂.place l p p₂ u;
                    its_sizes = subst⁻¹ (λ (z : Sizes). Takes z (between l p p₂)) o.its_sizes (between_takes t.its_sizes t₂.its_sizes v);
                    ends_at = omega arith;
                    counted = omega arith;
                    few_statements = t₂.few_statements;
                    few_pauses = t₂.few_pauses;
                    few_locals = t₂.few_locals;
                  })
