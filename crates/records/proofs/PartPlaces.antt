-- That `LiesAt` settles what is handed back: a part lies at one offset only, whatever bytes stand elsewhere, and two parts at the same offset and of the
-- same size are one machine value (a pointer and a count). The places are compared as numbers, the counts by the bytes. Assumes nothing.
use mathlib.Core.Path.{◌≡◌, sym, ◌∙◌, ap}
use mathlib.Core.List.{List, [], ◌∷◌}
use Prim.Native.Nat.{ℕ}
use native.Mathlib.Omega.{arith}
use lib.ListN.{length, take, drop}
use denote.Ref.{Bor}
use denote.Slice.{shr_slice_vals, slice_val}
use Rattle.records.specs.Parts.{LiesAt}

pub one_offset : {r lent : Bor (List ℕ)} {a b m n : ℕ} → LiesAt r lent a m → LiesAt r lent b n → a ≡ b
one_offset l k = omega (arith, l.from_offset, k.from_offset)

pub one_part : {p q lent : Bor (List ℕ)} {offset size : ℕ} → LiesAt p lent offset size → LiesAt q lent offset size → shr_slice_vals p ≡ shr_slice_vals q
one_part l k = λ i. slice_val ((l.in_its_memory ∙ sym k.in_its_memory) i, (l.from_offset ∙ sym k.from_offset) i) (ap (λ (bs : List ℕ). length bs) (l.its_bytes ∙ sym k.its_bytes) i) ∷ []

-- Of two pauses one after the other, the second has the bytes of the first and does not lie where the first does.
abbrev pauses : List ℕ
pauses = 4 ∷ 0 ∷ 17 ∷ 0 ∷ 4 ∷ 0 ∷ 17 ∷ 0 ∷ []

pub twins_told_apart : {r lent : Bor (List ℕ)} → lent.now ≡ pauses → LiesAt r lent 4 4 → (r.now ≡ take 4 (drop 0 lent.now)) × (LiesAt r lent 0 4 → ⊥)
twins_told_apart e l = (
  l.its_bytes ∙ ap (λ (bs : List ℕ). take 4 (drop 4 bs)) e ∙ sym (ap (λ (bs : List ℕ). take 4 (drop 0 bs)) e),
  λ k. let z : ◌≡◌ {A = ℕ} 0 4 = one_offset k l in absurd (omega (arith, z)),
)
