-- Each call takes one edition: a block that is good in one gets 3 at place 0 in the other, and nothing lent changes. By the tests of the header, of which only that of the edition
-- comes out otherwise. Assumes nothing.
use mathlib.Core.Path.{◌≡◌, refl, ap, ◌∙◌}
use mathlib.Core.Bool.{Bool, true, false, not, cond, ◌&&◌}
use mathlib.Core.List.{List, [], ◌∷◌}
use Prim.Native.Nat.{ℕ, ◌+◌}
use native.Mathlib.Omega.{arith}
use lib.Dec.{eqb, ltb}
use lib.ListN.{length}
use borrow.Author.Tests.{eqb-true}
use Rattle.block.specs.Format.{BROKEN, KIND, EDITION, LIMIT, two_bytes, length_at, kind_at, is_broken, Header, header, header_fault_in, header_fault, outermost, begun}
use Rattle.block.specs.Format.{Good, Reading, good, turned_down, read, ended, reading}
use Rattle.foldheron.specs.Answers.{Checked}
use Rattle.everyday.specs.Statements.{Everyday}
use Rattle.converting.specs.Format.{Reading₂, good₂, turned_down₂, read₂, ended₂, header_fault₂, reading₂}
use Rattle.converting.specs.Conversions.{converting, converting_of}
use Rattle.foldheron.specs.Answers.{Wrote}
use Rattle.writing.specs.Answers.{roomed, wrote_values, wrote_owed, out_owed}
use Rattle.foldheron.specs.Answers.{check_values, check_owed}
use Rattle.reaction.specs.Fronts.{try_block, front}
use Rattle.reaction.specs.Instants.{goes_on, verdict, refused, told, told_refusal, state_after}
use Rattle.reaction.specs.Answers.{instant_told}
use Rattle.reaction.specs.declared.Given.{Given}
use Rattle.foldheron.specs.Answers.{Instant}
use Rattle.promises.specs.Calls.{CheckCalled, CalledFor, ConvertCalled}
use Rattle.promises.specs.Conversion.{GoodWide}
use Rattle.promises.proofs.Learnt.{check_says, instant_says, convert_says}

-- A header that is good in edition e gets 3 in any other.
other_edition : (e d : ℕ) → eqb e d ≡ false → (b : List ℕ) → header_fault_in e b ≡ 0 → header_fault_in d b ≡ EDITION
unfolding header_fault_in
other_edition e d apart b f = go (is_broken b 0) (not (eqb (kind_at b 0) 1 && eqb (length_at b 0) 14)) (eqb (two_bytes b 4) e) refl f
  where
    over : Bool
    over = ltb 64 ((header b).inputs + (header b).outputs + (header b).locals)

    go : (s t u : Bool) → eqb (two_bytes b 4) e ≡ u → cond s BROKEN (cond t KIND (cond (not u) EDITION (cond over LIMIT 0))) ≡ 0
        → cond s BROKEN (cond t KIND (cond (not (eqb (two_bytes b 4) d)) EDITION (cond over LIMIT 0))) ≡ EDITION
    go true t u q f = let z : ◌≡◌ {A = ℕ} 1 0 = f in absurd (omega arith)
    go false true u q f = let z : ◌≡◌ {A = ℕ} 2 0 = f in absurd (omega arith)
    go false false false q f = let z : ◌≡◌ {A = ℕ} 3 0 = f in absurd (omega arith)
    go false false true q f =
        ap (λ (n : ℕ). cond (not (eqb n d)) EDITION (cond over LIMIT 0)) (eqb-true (two_bytes b 4) e q) ∙ ap (λ (x : Bool). cond (not x) EDITION (cond over LIMIT 0)) apart

record InEdition (e : ℕ) (b : List ℕ) : Type 0 where
  fits : ltb 3086 (length b) ≡ false
  its_header : header_fault_in e b ≡ 0

module _ (b : List ℕ) where
  wide_header : (h : Header) (p : Everyday) → reading₂ b ≡ good₂ h p → InEdition 2 b
  unfolding reading₂ header_fault₂
  wide_header h p e = go (ltb 3086 (length b)) refl (eqb (header_fault_in 2 b) 0) refl e
    where
      go : (s : Bool) → ltb 3086 (length b) ≡ s → (t : Bool) → eqb (header_fault_in 2 b) 0 ≡ t
          → cond s (turned_down₂ LIMIT 0) (cond t (ended₂ b (header b) (read₂ 64 b (header b) outermost begun)) (turned_down₂ (header_fault_in 2 b) 0)) ≡ good₂ h p → InEdition 2 b
      go true q t r x = let z : ◌≡◌ {A = ℕ} 0 1 = cc in absurd (omega arith)
      go false q true r x = record { fits = q; its_header = eqb-true (header_fault_in 2 b) 0 r }
      go false q false r x = let z : ◌≡◌ {A = ℕ} 0 1 = cc in absurd (omega arith)

  its_header_1 : (g : Good) → reading b ≡ good g → InEdition 1 b
  unfolding reading header_fault
  its_header_1 g e = go (ltb 3086 (length b)) refl (eqb (header_fault_in 1 b) 0) refl e
    where
      go : (s : Bool) → ltb 3086 (length b) ≡ s → (t : Bool) → eqb (header_fault_in 1 b) 0 ≡ t
          → cond s (turned_down LIMIT 0) (cond t (ended b (header b) (read 64 b (header b) outermost begun)) (turned_down (header_fault_in 1 b) 0)) ≡ good g → InEdition 1 b
      go true q t r x = let z : ◌≡◌ {A = ℕ} 0 1 = cc in absurd (omega arith)
      go false q true r x = record { fits = q; its_header = eqb-true (header_fault_in 1 b) 0 r }
      go false q false r x = let z : ◌≡◌ {A = ℕ} 0 1 = cc in absurd (omega arith)

  read_as_1 : InEdition 2 b → reading b ≡ turned_down EDITION 0
  unfolding reading header_fault
  read_as_1 i =
      ap (λ (s : Bool). cond s (turned_down LIMIT 0) (cond (eqb (header_fault_in 1 b) 0) statements_read (turned_down (header_fault_in 1 b) 0))) i.fits
      ∙ ap (λ (n : ℕ). cond (eqb n 0) statements_read (turned_down n 0)) (other_edition 2 1 refl b i.its_header)
    where
      statements_read : Reading
      statements_read = ended b (header b) (read 64 b (header b) outermost begun)

  read_as_2 : InEdition 1 b → reading₂ b ≡ turned_down₂ EDITION 0
  unfolding reading₂ header_fault₂
  read_as_2 i =
      ap (λ (s : Bool). cond s (turned_down₂ LIMIT 0) (cond (eqb (header_fault_in 2 b) 0) statements_read (turned_down₂ (header_fault_in 2 b) 0))) i.fits
      ∙ ap (λ (n : ℕ). cond (eqb n 0) statements_read (turned_down₂ n 0)) (other_edition 1 2 refl b i.its_header)
    where
      statements_read : Reading₂
      statements_read = ended₂ b (header b) (read₂ 64 b (header b) outermost begun)

  -- "Instants edition 1": of a good block of edition 2, `check` and the instants give 3 at place 0, and the state stays.
  module _ (g : GoodWide b) where
    turned_down_3 : reading b ≡ turned_down EDITION 0
    turned_down_3 = read_as_1 (wide_header g.header g.body g.is_read)

    pub check_of_edition_2_gives_3 : {r : Checked} → CheckCalled b r → check_values r ≡ EDITION ∷ 0 ∷ 0 ∷ 0 ∷ 0 ∷ 0 ∷ 0 ∷ 0 ∷ []
    unfolding check_owed
    check_of_edition_2_gives_3 c = check_says b c ∙ ap check_owed turned_down_3

    verdict_3 : (s : List ℕ) (w : Given) → verdict b s w false ≡ refused EDITION 0
    unfolding verdict goes_on front try_block
    verdict_3 s w = ap (λ (x : Reading). goes_on w false (try_block s w x)) turned_down_3

    pub an_instant_of_edition_2_gives_3 : {s s' : List ℕ} {w : Given} {r : Instant} → CalledFor b s w r s' → (instant_told r ≡ told_refusal EDITION 0 0 0) × (s' ≡ s)
    unfolding told state_after
    an_instant_of_edition_2_gives_3 {s} {s'} {w} c = let v = verdict_3 s w in ((instant_says b c).0 ∙ ap told v, (instant_says b c).1 ∙ ap (state_after s) v)

  -- "The converter takes edition 2 only": of a good block of edition 1 it gives 3 at place 0, and the lent bytes stay.
  pub converting_edition_1_gives_3 : (g : Good) → reading b ≡ good g → {out out' : List ℕ} {r : Wrote} → ConvertCalled b out r out'
      → (wrote_values r ≡ EDITION ∷ 0 ∷ 0 ∷ []) × (out' ≡ out)
  unfolding converting converting_of roomed wrote_owed out_owed
  converting_edition_1_gives_3 g e {out} c =
      let d = read_as_2 (its_header_1 g e) in (
        (convert_says c).0 ∙ ap (λ (x : Reading₂). wrote_owed (roomed (converting_of x) (length out))) d,
        (convert_says c).1 ∙ ap (λ (x : Reading₂). out_owed (roomed (converting_of x) (length out)) out) d,
      )
