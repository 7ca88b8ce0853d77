-- A state found in a record, and legal states: found without a clash it is legal, and every legal state's record is found, without
-- a clash. Assumes nothing.
use mathlib.Core.Path.{◌≡◌, refl, sym, ap, ◌∙◌, subst, subst⁻¹}
use mathlib.Core.Logic.{◌⊎◌, inl, inr, ◌≢◌}
use mathlib.Core.Bool.{Bool, true, false, not, cond, ◌&&◌}
use mathlib.Core.List.{List, [], ◌∷◌}
use mathlib.Core.Option.{Option, none, some}
use Prim.Native.Nat.{ℕ, zero, suc, ◌+◌, ◌-◌, ◌^◌, ◌≤◌, ◌<◌}
use native.Mathlib.Nat.{pow-suc}
use native.Mathlib.Omega.{arith}
use lib.Dec.{T, eqb, ltb, eqb→eq, T_not, not_T, lt→ltb}
use lib.ListN.{length, get_or, take, drop}
use lib.Seq.{get_or-drop}
use borrow.Author.Tests.{ltb-true, ltb-false}
use Rattle.sets.specs.Numbers.{Numbers, empty, some_to, lowest}
use Rattle.sets.specs.Words.{bits}
use Rattle.sets.proofs.Members.{of_false, and_in, and_left, and_right, eqb_in, cases}
use Rattle.sets.proofs.Maxima.{some_to_in, some_to_out}
use Rattle.sets.proofs.Counts.{lowest_is, Lowest}
use Rattle.rules.specs.Statements.{Stmt, pauses}
use Rattle.rules.specs.States.{State, fresh, running, finished, compatible, Legal, active_of}
use Rattle.records.specs.Numerals.{Bytes, as_number, field}
use Rattle.records.specs.Fields.{place}
use Rattle.records.specs.StateRecord.{state_widths, state_size, length_in, kind_in, phase_in, low_in, high_in, Found, not_a_state, state, state_record}
use Rattle.records.specs.StateRecord.{beyond, active_in, in_phase, read_state, clashes, first_clash, with_second, paired}
use Rattle.records.proofs.TwoWords.{beyond_in, some_bit, in_low, in_high, below_128, below_width}
use Rattle.records.proofs.Pairs.{ClearFirst, none_found, clash_first, clash_second, clash_lower, clash_apart}
use Rattle.records.proofs.Back.{fresh_back, finished_back, running_back, compatible_sym}

-- A field of so many bytes is below that power of 256.
number_lt : (n : ℕ) (xs : List ℕ) → ((i : ℕ) → get_or xs i 0 < 256) → as_number (take n xs) < 256 ^ n
unfolding as_number
number_lt zero xs f = omega arith
number_lt (suc n) [] f = omega (arith, pow-suc 256 n, number_lt n [] f)
number_lt (suc n) (x ∷ xs) f =
    let l : x < 256 = f 0 in
    omega (arith, pow-suc 256 n, number_lt n xs (λ i. f (suc i)))

pub field_lt : (bs : List ℕ) → Bytes bs → (at n : ℕ) → field bs at n < 256 ^ n
unfolding field
field_lt bs b at n = number_lt n (drop at bs) (λ i. subst⁻¹ (λ (x : ℕ). x < 256) (get_or-drop at bs i 0) (b.byte (at + i)))

-- What a running state that was found says of its record.
either : (b : Bool) (x y z : Found) → cond b x y ≡ z → (T b × (x ≡ z)) ⊎ (y ≡ z)
either true x y z e = inl (tt, e)
either false x y z e = inr e

pub record Ran (n : ℕ) (bs : List ℕ) (A : Numbers) : Type 0 where
  pub its_set : active_in bs ≡ A
  pub not_clear : (low_in bs ≡ 0) × (high_in bs ≡ 0) → ⊥
  pub not_far : T (beyond n (active_in bs)) → ⊥

in_phase_ran : (p n : ℕ) (bs : List ℕ) (A : Numbers) → in_phase p n bs ≡ state (running A) → Ran n bs A
unfolding in_phase
in_phase_ran p n bs A e = first (either (eqb p 0 && clear) (state fresh) (choice_1) (state (running A)) e)
  where
    clear : Bool
    clear = eqb (low_in bs) 0 && eqb (high_in bs) 0

    far : Bool
    far = beyond n (active_in bs)

    choice_2 : Found
    choice_2 = cond (eqb p 2 && clear) (state finished) not_a_state

    choice_1 : Found
    choice_1 = cond (eqb p 1 && not clear && not far) (state (running (active_in bs))) choice_2

    third : (T (eqb p 2 && clear) × (state finished ≡ state (running A))) ⊎ (not_a_state ≡ state (running A)) → Ran n bs A
    third (inl w) = let q : state finished ≡ state (running A) = w.1 in let z : ◌≡◌ {A = ℕ} 0 1 = cc in absurd (omega arith)
    third (inr q) = let z : ◌≡◌ {A = ℕ} 0 1 = cc in absurd (omega arith)

    second : (T (eqb p 1 && not clear && not far) × (state (running (active_in bs)) ≡ state (running A))) ⊎ (choice_2 ≡ state (running A)) → Ran n bs A
    second (inl w) = let q : state (running (active_in bs)) ≡ state (running A) = w.1 in record {
      its_set = cc;
      not_clear =
          λ z. T_not clear (and_right (eqb p 1) (not clear) (and_left (eqb p 1 && not clear) (not far) w.0))
          (and_in (eqb (low_in bs) 0) (eqb (high_in bs) 0) (eqb_in z.0) (eqb_in z.1));
      not_far = T_not far (and_right (eqb p 1 && not clear) (not far) w.0);
    }
    second (inr q) = third (either (eqb p 2 && clear) (state finished) not_a_state (state (running A)) q)

    first : (T (eqb p 0 && clear) × (state fresh ≡ state (running A))) ⊎ (choice_1 ≡ state (running A)) → Ran n bs A
    first (inl w) = let q : state fresh ≡ state (running A) = w.1 in let z : ◌≡◌ {A = ℕ} 0 1 = cc in absurd (omega arith)
    first (inr q) = second (either (eqb p 1 && not clear && not far) (state (running (active_in bs))) choice_2 (state (running A)) q)

pub found_ran : (n : ℕ) (bs : List ℕ) (A : Numbers) → read_state n bs ≡ state (running A) → Ran n bs A
unfolding read_state
found_ran n bs A e =
    go (either (eqb (length bs) state_size && eqb (length_in bs) state_size && eqb (kind_in bs) 2) (in_phase (phase_in bs) n bs) not_a_state (state (running A)) e)
  where
    go : (T (eqb (length bs) state_size && eqb (length_in bs) state_size && eqb (kind_in bs) 2) × (in_phase (phase_in bs) n bs ≡ state (running A)))
        ⊎ (not_a_state ≡ state (running A)) → Ran n bs A
    go (inl w) = in_phase_ran (phase_in bs) n bs A w.1
    go (inr q) = let z : ◌≡◌ {A = ℕ} 0 1 = cc in absurd (omega arith)

-- Its pauses are the block's, and there is at least one.
module _ (n : ℕ) (bs : List ℕ) (b : Bytes bs) (A : Numbers) (e : read_state n bs ≡ state (running A)) where
  ran : Ran n bs A
  ran = found_ran n bs A e

  pub found_below : (k : ℕ) → T (A k) → k < 128
  found_below k t =
      below_128 (low_in bs) (high_in bs) (field_lt bs b (place state_widths 5) 8) (field_lt bs b (place state_widths 6) 8)
      (subst⁻¹ (λ (B : Numbers). T (B k)) ran.its_set t)

  pub found_in_block : (k : ℕ) → T (A k) → k < n
  found_in_block k t = go (ltb k n) refl
    where
      go : (x : Bool) → ltb k n ≡ x → k < n
      go true q = ltb-true k n q
      go false q =
          absurd (ran.not_far (beyond_in n (active_in bs) {m = k} (found_below k t) (ltb-false k n q) (subst⁻¹ (λ (B : Numbers). T (B k)) ran.its_set t)))

  pub found_member : (k : ℕ) × T (A k)
  found_member = go (cases (eqb (low_in bs) 0))
    where
      high : T (eqb (low_in bs) 0) → (k : ℕ) × T (A k)
      high z =
          let r = some_bit (high_in bs) (field_lt bs b (place state_widths 6) 8) (λ y. ran.not_clear (eqb→eq (low_in bs) 0 z, y)) in
          let s : 64 + r.0 - 64 ≡ r.0 = omega arith in (
            64 + r.0,
            subst (λ (B : Numbers). T (B (64 + r.0))) ran.its_set
                (subst⁻¹ T (in_high (low_in bs) (high_in bs) {n = 64 + r.0} (omega arith) ∙ ap (bits (high_in bs)) s) r.1),
          )

      low : eqb (low_in bs) 0 ≡ false → (k : ℕ) × T (A k)
      low z =
          let r = some_bit (low_in bs) (field_lt bs b (place state_widths 5) 8) (λ y. of_false z (eqb_in y)) in (
            r.0,
            subst (λ (B : Numbers). T (B r.0)) ran.its_set
                (subst⁻¹ T (in_low (low_in bs) (high_in bs) (below_width (low_in bs) (field_lt bs b (place state_widths 5) 8) r.1)) r.1),
          )

      go : T (eqb (low_in bs) 0) ⊎ (eqb (low_in bs) 0 ≡ false) → (k : ℕ) × T (A k)
      go (inl z) = high z
      go (inr z) = low z

-- No first clash is no clash at all.
module _ (t : Stmt) (A : Numbers) (e : first_clash t A ≡ none) where
  none_second : (m : ℕ) → lowest 128 (λ i. some_to (clashes t A i) 127) ≡ some m → T (some_to (clashes t A m) 127) → ⊥
  unfolding first_clash
  none_second m q h = go (lowest 128 (clashes t A m)) refl (lowest_is 128 (clashes t A m))
    where
      go : (o : Option ℕ) → lowest 128 (clashes t A m) ≡ o → Lowest 128 (clashes t A m) o → ⊥
      go none p f = let r = some_to_out (clashes t A m) 127 h in f r.0 (omega (arith, r.1)) r.2
      go (some n) p f =
          let w : with_second t A (some m) ≡ none = sym (ap (with_second t A) q) ∙ e in
          let v : paired m (some n) ≡ none = sym (ap (paired m) p) ∙ w in
          let z : ◌≡◌ {A = ℕ} 0 1 = cc in
          omega arith

  pub no_clash : (m n : ℕ) → m < 128 → n < 128 → T (clashes t A m n) → ⊥
  no_clash m n h l c = go (lowest 128 (λ i. some_to (clashes t A i) 127)) refl (lowest_is 128 (λ i. some_to (clashes t A i) 127))
    where
      go : (o : Option ℕ) → lowest 128 (λ i. some_to (clashes t A i) 127) ≡ o → Lowest 128 (λ i. some_to (clashes t A i) 127) o → ⊥
      go none p f = f m h (some_to_in (clashes t A m) 127 (omega arith) c)
      go (some k) p f = none_second k p f.1

  made : (m n : ℕ) → T (A m) → T (A n) → m < n → (T (compatible t m n) → ⊥) → T (clashes t A m n)
  unfolding clashes
  made m n a b l f =
      and_in (A m && A n && ltb m n) (not (compatible t m n))
      (and_in (A m && A n) (ltb m n) (and_in (A m) (A n) a b) (lt→ltb m n l)) (not_T (compatible t m n) f)

  pub lower_compatible : ((k : ℕ) → T (A k) → k < 128) → (m n : ℕ) → T (A m) → T (A n) → m < n → T (compatible t m n)
  lower_compatible f m n a b l = go (cases (compatible t m n))
    where
      go : T (compatible t m n) ⊎ (compatible t m n ≡ false) → T (compatible t m n)
      go (inl c) = c
      go (inr c) = absurd (no_clash m n (f m a) (f n b) (made m n a b l (of_false c)))

  pub all_compatible : ((k : ℕ) → T (A k) → k < 128) → (m n : ℕ) → T (A m) → T (A n) → m ≢ n → T (compatible t m n)
  all_compatible f m n a b d = go (ltb m n) refl
    where
      go : (x : Bool) → ltb m n ≡ x → T (compatible t m n)
      go true q = lower_compatible f m n a b (ltb-true m n q)
      go false q = let l : n ≤ m = ltb-false m n q in subst T (compatible_sym t n m) (lower_compatible f n m b a (omega arith))

-- A state found in a record of bytes, with no clash, is legal for the tree whose pauses were counted.
pub found_legal : (t : Stmt) (bs : List ℕ) → Bytes bs → (st : State) → read_state (length (pauses t)) bs ≡ state st → first_clash t (active_of st) ≡ none → Legal t st
unfolding Legal active_of
found_legal t bs b fresh e c = tt
found_legal t bs b (running A) e c = record {
  some_active = found_member (length (pauses t)) bs b A e;
  in_block = found_in_block (length (pauses t)) bs b A e;
  all_compatible = all_compatible t A c (found_below (length (pauses t)) bs b A e);
}
found_legal t bs b finished e c = tt

-- A legal state of a block with at most 128 pauses is found in its record, and has no clash.
pub legal_found : (v n : ℕ) (t : Stmt) → length (pauses t) ≤ 128 → (st : State) → Legal t st
    → read_state (length (pauses t)) (state_record v n st) ≡ state st
unfolding Legal
legal_found v n t h fresh g = fresh_back v n (length (pauses t))
legal_found v n t h (running A) g = running_back v n (length (pauses t)) A h g.in_block g.some_active
legal_found v n t h finished g = finished_back v n (length (pauses t))

empty_clear : (t : Stmt) → ClearFirst t empty 128
empty_clear t = record { none_below = λ i j h l c. clash_first t empty i j c }

pub legal_clear : (t : Stmt) (st : State) → Legal t st → first_clash t (active_of st) ≡ none
unfolding Legal active_of
legal_clear t fresh g = sym (none_found t empty 128 (omega arith) (empty_clear t))
legal_clear t (running A) g = sym (none_found t A 128 (omega arith) clear)
  where
    clear : ClearFirst t A 128
    clear = record {
      none_below =
          λ i j h l c. clash_apart t A i j c
          (g.all_compatible i j (clash_first t A i j c) (clash_second t A i j c) (λ e. let k : i < j = clash_lower t A i j c in omega arith));
    }
legal_clear t finished g = sym (none_found t empty 128 (omega arith) (empty_clear t))
