-- The state record before it named its block, and that nothing else changed: without its two names a record is read as it was, and it is that record with
-- the names put in. Each field of the shorter record is read back, so both readings choose by the same numbers. Assumes nothing.
use mathlib.Core.Path.{◌≡◌, refl, sym, ap, ap₂, ◌∙◌}
use mathlib.Core.Bool.{◌&&◌}
use mathlib.Core.List.{List, [], ◌∷◌}
use Prim.Native.Nat.{ℕ, ◌^◌, ◌<◌}
use native.Mathlib.Omega.{arith}
use lib.Dec.{eqb}
use lib.ListN.{length, get_or}
use Rattle.sets.specs.Words.{two_words}
use Rattle.records.specs.Numerals.{Bytes}
use Rattle.records.specs.Fields.{size, place, laid, value, values}
use Rattle.records.specs.StateRecord.{state_widths, state_size, state_values, length_in, kind_in, version_in, statements_in, phase_in, low_in, high_in}
use Rattle.records.specs.StateRecord.{Found, beyond, in_phase, read_state}
use Rattle.records.proofs.Widths.{length_laid, value_laid, value_of, laid_only}
use Rattle.records.proofs.Reading.{choose, headed, in_phase_of}
use Rattle.records.proofs.LegalStates.{field_lt}

-- Length, kind, phase and the two words: 22 bytes.
abbrev pub unnamed_widths : List ℕ
unnamed_widths = 2 ∷ 2 ∷ 2 ∷ 8 ∷ 8 ∷ []

abbrev pub unnamed_size : ℕ
unnamed_size = size unnamed_widths

-- The state that its numbers made: the length, the length told, the kind, the phase, the two words.
abbrev by_numbers : ℕ → ℕ → ℕ → ℕ → ℕ → ℕ → ℕ → Found
by_numbers pauses len told kind phase low high =
    headed (eqb len unnamed_size) (eqb told unnamed_size) (eqb kind 2)
    (choose phase (eqb low 0 && eqb high 0) (beyond pauses (two_words 64 low high)) (two_words 64 low high))

abbrev pub read_unnamed : ℕ → List ℕ → Found
read_unnamed pauses bs =
    by_numbers pauses (length bs) (value unnamed_widths 0 bs) (value unnamed_widths 1 bs) (value unnamed_widths 2 bs) (value unnamed_widths 3 bs)
    (value unnamed_widths 4 bs)

-- A record without its names.
abbrev pub unnamed : List ℕ → List ℕ
unnamed bs = laid unnamed_widths (unnamed_size ∷ kind_in bs ∷ phase_in bs ∷ low_in bs ∷ high_in bs ∷ [])

pub read_without_names : (pauses : ℕ) (bs : List ℕ) → Bytes bs → length bs ≡ state_size → length_in bs ≡ state_size
    → read_state pauses bs ≡ read_unnamed pauses (unnamed bs)
unfolding read_state
read_without_names pauses bs b l h =
    ap₂ (λ (x y : ℕ). headed (eqb x state_size) (eqb y state_size) (eqb (kind_in bs) 2) (in_phase (phase_in bs) pauses bs)) l h
    ∙ ap (headed (eqb unnamed_size unnamed_size) (eqb unnamed_size unnamed_size) (eqb (kind_in bs) 2)) (in_phase_of (phase_in bs) pauses bs refl refl)
    ∙ sym (ap₂ (λ (x y : ℕ). by_numbers pauses x y (told 1) (told 2) (told 3) (told 4)) (length_laid unnamed_widths xs) (back 0 (omega arith) (omega arith))
    ∙ ap₂ (λ (x y : ℕ). by_numbers pauses unnamed_size unnamed_size x y (told 3) (told 4))
    (back 1 (omega arith) (field_lt bs b (place state_widths 1) 2)) (back 2 (omega arith) (field_lt bs b (place state_widths 4) 2))
    ∙ ap₂ (λ (x y : ℕ). by_numbers pauses unnamed_size unnamed_size (kind_in bs) (phase_in bs) x y)
    (back 3 (omega arith) (field_lt bs b (place state_widths 5) 8)) (back 4 (omega arith) (field_lt bs b (place state_widths 6) 8)))
  where
    xs : List ℕ
    xs = unnamed_size ∷ kind_in bs ∷ phase_in bs ∷ low_in bs ∷ high_in bs ∷ []

    told : ℕ → ℕ
    told i = value unnamed_widths i (laid unnamed_widths xs)

    back : (i : ℕ) → i < 5 → get_or xs i 0 < 256 ^ get_or unnamed_widths i 0 → told i ≡ get_or xs i 0
    back = value_laid unnamed_widths xs

-- And the record is the one without its names, with the names put in before the phase.
abbrev pub named : ℕ → ℕ → List ℕ → List ℕ
named version statements us =
    laid state_widths
    (state_values version statements (value unnamed_widths 2 us) (value unnamed_widths 3 us) (value unnamed_widths 4 us))

pub names_put_in : (bs : List ℕ) → Bytes bs → length bs ≡ state_size → length_in bs ≡ state_size → kind_in bs ≡ 2
    → named (version_in bs) (statements_in bs) (unnamed bs) ≡ bs
unfolding values
names_put_in bs b l h k =
    ap (laid state_widths)
    (ap₂ ◌∷◌ (sym h ∙ sym (its 0 (omega arith)))
    (ap₂ ◌∷◌ (sym k ∙ sym (its 1 (omega arith)))
    (ap₂ ◌∷◌ (sym (its 2 (omega arith)))
    (ap₂ ◌∷◌ (sym (its 3 (omega arith)))
    (ap₂ ◌∷◌ (back 2 (omega arith) (field_lt bs b (place state_widths 4) 2) ∙ sym (its 4 (omega arith)))
    (ap₂ ◌∷◌ (back 3 (omega arith) (field_lt bs b (place state_widths 5) 8) ∙ sym (its 5 (omega arith)))
    (ap₂ ◌∷◌ (back 4 (omega arith) (field_lt bs b (place state_widths 6) 8) ∙ sym (its 6 (omega arith))) refl)))))))
    ∙ laid_only state_widths bs b l
  where
    xs : List ℕ
    xs = unnamed_size ∷ kind_in bs ∷ phase_in bs ∷ low_in bs ∷ high_in bs ∷ []

    back : (i : ℕ) → i < 5 → get_or xs i 0 < 256 ^ get_or unnamed_widths i 0 → value unnamed_widths i (laid unnamed_widths xs) ≡ get_or xs i 0
    back = value_laid unnamed_widths xs

    its : (i : ℕ) → i < 7 → get_or (values state_widths bs) i 0 ≡ value state_widths i bs
    its = value_of state_widths bs
