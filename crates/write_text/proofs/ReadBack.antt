-- Theorems of the writer, on the bytes of a block: what is written is read back as the same block, a text has at most 137,305 bytes, and
-- two good blocks with one text are one block. Assumes nothing.
use mathlib.Core.Path.{◌≡◌, refl, sym, ap, ◌∙◌, subst}
use mathlib.Core.List.{List}
use Prim.Native.Nat.{ℕ, ◌≤◌}
use native.Mathlib.Omega.{arith}
use lib.ListN.{length}
use Rattle.block.specs.Format.{Good, Reading, good, turned_down, reading}
use Rattle.block.proofs.GoodReadings.{sound}
use Rattle.records.specs.Numerals.{Bytes}
use Rattle.writing.specs.Answers.{writes}
use Rattle.writing.proofs.Same.{good_writable}
use Rattle.text.specs.Shown.{shown, text_bytes}
use Rattle.text.specs.Reader.{text_read}
use Rattle.text.proofs.RoundTrip.{round_trip}
use Rattle.write_text.specs.WriteText.{text_writing_of, text_writing}
use Rattle.write_text.proofs.Most.{text_most}

-- A text is written for good blocks alone, and is the one that is shown.
record Written (b t : List ℕ) : Type 0 where
  read : Good
  reads : reading b ≡ good read
  its_text : text_bytes (shown read.header read.body) ≡ t

writing_of : (b t : List ℕ) (x : Reading) → reading b ≡ x → text_writing_of x ≡ writes t → Written b t
unfolding text_writing_of
writing_of b t (turned_down n at) q e = let z : ◌≡◌ {A = ℕ} 0 1 = cc in absurd (omega arith)
writing_of b t (good g) q e = record { read = g; reads = q; its_text = cc }

written : (b t : List ℕ) → text_writing b ≡ writes t → Written b t
unfolding text_writing
written b t e = writing_of b t (reading b) refl e

-- Reading what was written gives back the same block bytes.
pub read_back : (b t : List ℕ) → Bytes b → text_writing b ≡ writes t → text_read t ≡ writes b
read_back b t s e = let w = written b t e in sym (ap text_read w.its_text) ∙ round_trip b w.read s w.reads

pub one_block : (b c t : List ℕ) → Bytes b → Bytes c → text_writing b ≡ writes t → text_writing c ≡ writes t → b ≡ c
one_block b c t s u e f = let same : writes b ≡ writes c = sym (read_back b t s e) ∙ read_back c t u f in cc

-- Who lends so many bytes never meets 12.
pub written_most : (b t : List ℕ) → Bytes b → text_writing b ≡ writes t → length t ≤ 137305
written_most b t s e =
    let w = written b t e in
    let g = w.read in
    let f = sound b g w.reads in
    subst (λ (l : List ℕ). length l ≤ 137305) w.its_text
    (text_most g.header g.body (good_writable b s g w.reads).version_fits (omega (arith, f.signals)) f.small f.paths (omega (arith, f.few_statements, f.counted)))
