-- Reading a state record: each way through the code has one law, from the tests on the way to what the record holds. Assumes nothing.
use mathlib.Core.Path.{◌≡◌, refl, sym, ap, ap₂, ◌∙◌}
use mathlib.Core.Logic.{◌⊎◌, inl, inr, ◌≢◌}
use mathlib.Core.Bool.{Bool, true, false, not, cond, ◌&&◌, true≢false}
use mathlib.Core.List.{List, [], ◌∷◌}
use Prim.Native.Nat.{ℕ, ◌<◌, ◌^◌}
use Rattle.std.specs.Prelude.{Some}
use native.Mathlib.Omega.{arith}
use native.Mathlib.Decide.{ℕ_discrete}
use lib.Dec.{T, eqb, eqb→eq}
use lib.ListN.{length, get_or}
use borrow.Author.Tests.{eq-eqb, ne_eqb, eqb-false}
use Rattle.sets.specs.Numbers.{Numbers}
use Rattle.sets.specs.Words.{word, two_words}
use Rattle.sets.proofs.Members.{of_true, and_left, and_right}
use Rattle.sets.proofs.Words.{word_empty}
use Rattle.rules.specs.States.{State, fresh, running, finished, active_of}
use Rattle.records.specs.StateRecord.{state_size, length_in, kind_in, version_in, statements_in, phase_in, low_in, high_in, Found, not_a_state, state, beyond, in_phase, read_state, names_block}
use Rattle.records.specs.Held.{words_in, phase_held, held_of}
use Rattle.records.specs.declared.state.Phase.TheVariants.{Fresh, Running, Finished}
use Rattle.records.proofs.TwoWords.{words_low, words_high}

-- The definition's choice, with the tests of the bits as Booleans.
abbrev pub choose : ℕ → Bool → Bool → Numbers → Found
choose phase clear far A =
    cond (eqb phase 0 && clear) (state fresh)
    (cond (eqb phase 1 && not clear && not far) (state (running A)) (cond (eqb phase 2 && clear) (state finished) not_a_state))

pub in_phase_of : (phase pauses : ℕ) (bs : List ℕ) {low high : ℕ} → low_in bs ≡ low → high_in bs ≡ high
    → in_phase phase pauses bs ≡ choose phase (eqb low 0 && eqb high 0) (beyond pauses (two_words 64 low high)) (two_words 64 low high)
unfolding in_phase
in_phase_of phase pauses bs e f =
    ap₂ (λ (l h : ℕ). choose phase (eqb l 0 && eqb h 0) (beyond pauses (two_words 64 l h)) (two_words 64 l h)) e f

-- Ways to no state: no bit set and neither phase of those; bits, and one of them beyond; bits, and another phase.
clear_other : (a b c far : Bool) (A : Numbers) → a ≡ false → c ≡ false
    → cond {A = Found} (a && true) (state fresh) (cond (b && not true && not far) (state (running A)) (cond (c && true) (state finished) not_a_state)) ≡ not_a_state
clear_other a true c far A p q = ap₂ (λ (x y : Bool). cond {A = Found} (x && true) (state fresh) (cond (y && true) (state finished) not_a_state)) p q
clear_other a false c far A p q = ap₂ (λ (x y : Bool). cond {A = Found} (x && true) (state fresh) (cond (y && true) (state finished) not_a_state)) p q

set_other : (a b c far : Bool) (A : Numbers) → (b && not false && not far) ≡ false
    → cond {A = Found} (a && false) (state fresh) (cond (b && not false && not far) (state (running A)) (cond (c && false) (state finished) not_a_state)) ≡ not_a_state
set_other true b true far A e = ap (λ (x : Bool). cond {A = Found} x (state (running A)) not_a_state) e
set_other true b false far A e = ap (λ (x : Bool). cond {A = Found} x (state (running A)) not_a_state) e
set_other false b true far A e = ap (λ (x : Bool). cond {A = Found} x (state (running A)) not_a_state) e
set_other false b false far A e = ap (λ (x : Bool). cond {A = Found} x (state (running A)) not_a_state) e

outside : (a b c clear far : Bool) (A : Numbers) → a ≡ false → b ≡ false → c ≡ false
    → cond {A = Found} (a && clear) (state fresh) (cond (b && not clear && not far) (state (running A)) (cond (c && clear) (state finished) not_a_state)) ≡ not_a_state
outside a b c clear far A p q r =
    ap (λ (x : Bool). cond {A = Found} (x && clear) (state fresh) (cond (b && not clear && not far) (state (running A)) (cond (c && clear) (state finished) not_a_state))) p
    ∙ ap₂ (λ (y z : Bool). cond {A = Found} (y && not clear && not far) (state (running A)) (cond (z && clear) (state finished) not_a_state)) q r

far_refused : (b : Bool) {far : Bool} → far ≡ true → (b && not false && not far) ≡ false
far_refused true e = ap not e
far_refused false e = refl

-- What each thing found is as words.
held_fresh : held_of (state fresh) ≡ Some (record { phase = Fresh; active = 0 ∷ 0 ∷ [] })
unfolding held_of phase_held active_of word
held_fresh = ap (λ (x : ℕ). Some (record { phase = Fresh; active = x ∷ x ∷ [] })) (word_empty 64)

held_finished : held_of (state finished) ≡ Some (record { phase = Finished; active = 0 ∷ 0 ∷ [] })
unfolding held_of phase_held active_of word
held_finished = ap (λ (x : ℕ). Some (record { phase = Finished; active = x ∷ x ∷ [] })) (word_empty 64)

held_running : (low high : ℕ) → low < 2 ^ 64 → high < 2 ^ 64
    → held_of (state (running (two_words 64 low high))) ≡ Some (record { phase = Running; active = low ∷ high ∷ [] })
unfolding held_of phase_held active_of
held_running low high l h =
    ap₂ (λ (x y : ℕ). Some (record { phase = Running; active = x ∷ y ∷ [] })) (words_low low high l h) (words_high low high l h)

-- The ways through the phases, with the two words of a record.
module _ (phase pauses : ℕ) (ws bs : List ℕ) (q : ws ≡ words_in bs) where
  abbrev low : ℕ
  low = get_or ws 0 0

  abbrev high : ℕ
  high = get_or ws 1 0

  e : low_in bs ≡ low
  e = sym (ap (λ (l : List ℕ). get_or l 0 0) q)

  f : high_in bs ≡ high
  f = sym (ap (λ (l : List ℕ). get_or l 1 0) q)

  both : ws ≡ low ∷ high ∷ []
  both = q ∙ ap₂ (λ (x y : ℕ). x ∷ y ∷ []) e f

  module _ {clear : Bool} (n : clear ≡ (eqb low 0 && eqb high 0)) where
    so : in_phase phase pauses bs ≡ choose phase clear (beyond pauses (two_words 64 low high)) (two_words 64 low high)
    so =
        in_phase_of phase pauses bs e f
        ∙ ap (λ (b : Bool). choose phase b (beyond pauses (two_words 64 low high)) (two_words 64 low high)) (sym n)

    -- no bit is set in a word that the test finds clear
    no_bits : clear ≡ true → ws ≡ 0 ∷ 0 ∷ []
    no_bits t =
        let h : T (eqb low 0 && eqb high 0) = of_true (sym n ∙ t) in
        both ∙ ap₂ (λ (x y : ℕ). x ∷ y ∷ []) (eqb→eq low 0 (and_left (eqb low 0) (eqb high 0) h)) (eqb→eq high 0 (and_right (eqb low 0) (eqb high 0) h))

    pub by_fresh : clear ≡ true → phase ≡ 0 → Some (record { phase = Fresh; active = ws }) ≡ held_of (in_phase phase pauses bs)
    by_fresh t z =
        ap (λ (l : List ℕ). Some (record { phase = Fresh; active = l })) (no_bits t)
        ∙ sym (ap held_of (so ∙ ap₂ (λ (b : Bool) (p : ℕ). choose p b (beyond pauses (two_words 64 low high)) (two_words 64 low high)) t z) ∙ held_fresh)

    pub by_finished : clear ≡ true → phase ≡ 2 → Some (record { phase = Finished; active = ws }) ≡ held_of (in_phase phase pauses bs)
    by_finished t z =
        ap (λ (l : List ℕ). Some (record { phase = Finished; active = l })) (no_bits t)
        ∙ sym (ap held_of (so ∙ ap₂ (λ (b : Bool) (p : ℕ). choose p b (beyond pauses (two_words 64 low high)) (two_words 64 low high)) t z) ∙ held_finished)

    pub by_neither : clear ≡ true → (phase ≡ 0 → ⊥) → (phase ≡ 2 → ⊥) → not_a_state ≡ in_phase phase pauses bs
    by_neither t p q =
        sym (so ∙ ap (λ (b : Bool). choose phase b (beyond pauses (two_words 64 low high)) (two_words 64 low high)) t
        ∙ clear_other (eqb phase 0) (eqb phase 1) (eqb phase 2) (beyond pauses (two_words 64 low high)) (two_words 64 low high) (ne_eqb phase 0 p) (ne_eqb phase 2 q))

    -- no phase has the number
    pub by_outside : (phase ≡ 0 → ⊥) → (phase ≡ 1 → ⊥) → (phase ≡ 2 → ⊥) → not_a_state ≡ in_phase phase pauses bs
    by_outside f g h = sym (so ∙ outside (eqb phase 0) (eqb phase 1) (eqb phase 2) clear (beyond pauses (two_words 64 low high)) (two_words 64 low high) (ne_eqb phase 0 f) (ne_eqb phase 1 g) (ne_eqb phase 2 h))

    module _ {far : Bool} (b : far ≡ beyond pauses (two_words 64 low high)) where
      pub by_far : clear ≡ false → far ≡ true → not_a_state ≡ in_phase phase pauses bs
      by_far t p =
          sym (so ∙ ap (λ (x : Bool). choose phase x (beyond pauses (two_words 64 low high)) (two_words 64 low high)) t
          ∙ set_other (eqb phase 0) (eqb phase 1) (eqb phase 2) (beyond pauses (two_words 64 low high)) (two_words 64 low high) (far_refused (eqb phase 1) (sym b ∙ p)))

      pub by_running : low < 2 ^ 64 → high < 2 ^ 64 → clear ≡ false → far ≡ false → phase ≡ 1
          → Some (record { phase = Running; active = ws }) ≡ held_of (in_phase phase pauses bs)
      by_running l h t p z =
          ap (λ (l : List ℕ). Some (record { phase = Running; active = l })) both
          ∙ sym (ap held_of (so ∙ ap₂ (λ (x : Bool) (k : ℕ). choose k x (beyond pauses (two_words 64 low high)) (two_words 64 low high)) t z
          ∙ ap (λ (x : Bool). choose 1 false x (two_words 64 low high)) (sym b ∙ p)) ∙ held_running low high l h)

      pub by_other : clear ≡ false → (phase ≡ 1 → ⊥) → not_a_state ≡ in_phase phase pauses bs
      by_other t p =
          sym (so ∙ ap (λ (x : Bool). choose phase x (beyond pauses (two_words 64 low high)) (two_words 64 low high)) t
          ∙ set_other (eqb phase 0) (eqb phase 1) (eqb phase 2) (beyond pauses (two_words 64 low high)) (two_words 64 low high)
          (ap (λ (x : Bool). x && not false && not (beyond pauses (two_words 64 low high))) (ne_eqb phase 1 p)))

-- The ways through the length, the kind and the size.
abbrev pub headed : Bool → Bool → Bool → Found → Found
headed a b c f = cond (a && b && c) f not_a_state

not_sized : (a b c : Bool) (f : Found) → a ≡ false → headed a b c f ≡ not_a_state
not_sized a b c f e = ap (λ (x : Bool). headed x b c f) e

not_headed : (a b c : Bool) (f : Found) → b ≡ false → headed a b c f ≡ not_a_state
not_headed true b c f e = ap (λ (x : Bool). headed true x c f) e
not_headed false b c f e = refl

not_kind : (a b c : Bool) (f : Found) → c ≡ false → headed a b c f ≡ not_a_state
not_kind true true c f e = ap (λ (x : Bool). headed true true x f) e
not_kind true false c f e = refl
not_kind false b c f e = refl

module _ (pauses : ℕ) (bs : List ℕ) where
  pub read_sized : (length bs ≡ state_size → ⊥) → not_a_state ≡ read_state pauses bs
  unfolding read_state
  read_sized h =
      sym (not_sized (eqb (length bs) state_size) (eqb (length_in bs) state_size) (eqb (kind_in bs) 2) (in_phase (phase_in bs) pauses bs) (ne_eqb (length bs) state_size h))

  pub read_headed : {x : ℕ} → x ≡ length_in bs → (x ≡ state_size → ⊥) → not_a_state ≡ read_state pauses bs
  unfolding read_state
  read_headed e h =
      sym (not_headed (eqb (length bs) state_size) (eqb (length_in bs) state_size) (eqb (kind_in bs) 2) (in_phase (phase_in bs) pauses bs) (ne_eqb (length_in bs) state_size (λ z. h (e ∙ z))))

  pub read_kind : {x : ℕ} → x ≡ kind_in bs → (x ≡ 2 → ⊥) → not_a_state ≡ read_state pauses bs
  unfolding read_state
  read_kind e h =
      sym (not_kind (eqb (length bs) state_size) (eqb (length_in bs) state_size) (eqb (kind_in bs) 2) (in_phase (phase_in bs) pauses bs) (ne_eqb (kind_in bs) 2 (λ z. h (e ∙ z))))

  pub read_whole : length bs ≡ state_size → length_in bs ≡ state_size → kind_in bs ≡ 2 → in_phase (phase_in bs) pauses bs ≡ read_state pauses bs
  unfolding read_state
  read_whole l h k =
      sym (ap (λ (n : ℕ). headed (eqb n state_size) (eqb (length_in bs) state_size) (eqb (kind_in bs) 2) (in_phase (phase_in bs) pauses bs)) l
      ∙ ap₂ (λ (x y : ℕ). headed true (eqb x state_size) (eqb y 2) (in_phase (phase_in bs) pauses bs)) h k)

-- A record that holds a state has its size.
pub found_sized : (pauses : ℕ) (bs : List ℕ) (st : State) → read_state pauses bs ≡ state st → length bs ≡ state_size
found_sized pauses bs st e = go (ℕ_discrete (length bs) state_size)
  where
    go : Dec (length bs ≡ state_size) → length bs ≡ state_size
    go (yes h) = h
    go (no h) = let d : not_a_state ≡ state st = read_sized pauses bs h ∙ e in let z : ◌≡◌ {A = ℕ} 0 1 = cc in absurd (omega arith)

-- The block that a record names, by the tests of its two fields.
module _ (version statements : ℕ) (bs : List ℕ) where
  pub named_unsized : (length bs ≡ state_size → ⊥) → false ≡ names_block version statements bs
  unfolding names_block
  named_unsized h = sym (ap (λ (x : Bool). x && eqb (version_in bs) version && eqb (statements_in bs) statements) (ne_eqb (length bs) state_size h))

  pub named_other : {x : ℕ} → x ≡ version_in bs → length bs ≡ state_size → (x ≡ version → ⊥) → false ≡ names_block version statements bs
  unfolding names_block
  named_other e l h =
      sym (ap₂ (λ (x y : Bool). x && y && eqb (statements_in bs) statements) (eq-eqb (length bs) state_size l)
      (ne_eqb (version_in bs) version (λ z. h (e ∙ z))))

  pub named_by : {x y : ℕ} → x ≡ version_in bs → y ≡ statements_in bs → length bs ≡ state_size → x ≡ version
      → eqb y statements ≡ names_block version statements bs
  unfolding names_block
  named_by {x} {y} e f l h =
      ap (λ (k : ℕ). eqb k statements) f
      ∙ sym (ap₂ (λ (a b : Bool). a && b && eqb (statements_in bs) statements) (eq-eqb (length bs) state_size l) (eq-eqb (version_in bs) version (sym e ∙ h)))

  -- what the test says of the two fields
  pub named_version : names_block version statements bs ≡ true → version_in bs ≡ version
  unfolding names_block
  named_version e =
      eqb→eq (version_in bs) version
      (and_right (eqb (length bs) state_size) (eqb (version_in bs) version)
      (and_left (eqb (length bs) state_size && eqb (version_in bs) version) (eqb (statements_in bs) statements) (of_true e)))

  pub named_statements : names_block version statements bs ≡ true → statements_in bs ≡ statements
  unfolding names_block
  named_statements e =
      eqb→eq (statements_in bs) statements
      (and_right (eqb (length bs) state_size && eqb (version_in bs) version) (eqb (statements_in bs) statements) (of_true e))

  pub named_not : length bs ≡ state_size → names_block version statements bs ≡ false → (version_in bs ≢ version) ⊎ (statements_in bs ≢ statements)
  unfolding names_block
  named_not l e = go (eqb (version_in bs) version) (eqb (statements_in bs) statements) refl refl (sym (ap (λ (b : Bool). b && its_version && its_count) (eq-eqb (length bs) state_size l)) ∙ e)
    where
      its_version : Bool
      its_version = eqb (version_in bs) version

      its_count : Bool
      its_count = eqb (statements_in bs) statements

      go : (x y : Bool) → eqb (version_in bs) version ≡ x → eqb (statements_in bs) statements ≡ y → (its_version && its_count) ≡ false
          → (version_in bs ≢ version) ⊎ (statements_in bs ≢ statements)
      go false y p q f = inl (eqb-false (version_in bs) version p)
      go true false p q f = inr (eqb-false (statements_in bs) statements q)
      go true true p q f = absurd (true≢false (sym (ap₂ (λ (x y : Bool). x && y) p q) ∙ f))
