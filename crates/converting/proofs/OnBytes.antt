-- The claim on bytes: what the converter writes for a good block of edition 2 reads back good, as the conversion with the block's header, and where it refuses with 4
-- at place 0 the bytes would read 4; and from fresh, any run of the block by its direct meaning and of what was written is the same. By what a good reading gives, and
-- by reading back what was written. Assumes nothing.
use mathlib.Core.Path.{◌≡◌, refl, sym, ap, ◌∙◌, subst, subst⁻¹}
use mathlib.Core.Bool.{Bool, true, false, cond}
use mathlib.Core.List.{List, map}
use Prim.Native.Nat.{ℕ, ◌+◌, ◌<◌}
use native.Mathlib.Omega.{arith}
use lib.Dec.{T, leb, leb→le, le→leb}
use lib.ListN.{length}
use Rattle.sets.specs.Numbers.{empty}
use Rattle.sets.proofs.Members.{is_true, of_true, of_false, and_in, and_left, and_right}
use Rattle.rules.specs.Statements.{Stmt, pauses, statements}
use Rattle.rules.specs.States.{fresh}
use Rattle.theorems.specs.Traces.{InputSet, run}
use Rattle.block.specs.Format.{LIMIT, Header, header, good, turned_down, reading}
use Rattle.block.specs.Good.{nested_traps, nested_locals, locals}
use Rattle.likeness.specs.Runs.{SameRun}
use Rattle.likeness.proofs.Runs.{heard_there}
use Rattle.records.specs.Numerals.{Bytes}
use Rattle.writing.specs.Answers.{writes, refuses}
use Rattle.writing.specs.Written.{block_bytes, Writable, written}
use Rattle.writing.proofs.Records.{two_small}
use Rattle.writing.proofs.Back.{Orderly, read_back, read_over}
use Rattle.doubled.specs.Copies.{within_limits}
use Rattle.everyday.specs.Statements.{Everyday}
use Rattle.everyday.specs.Conversion.{as_it_is, converted}
use Rattle.everyday.specs.Instants.{Block₂, interface, run₂}
use Rattle.everyday.proofs.Runs.{stays_rising, conversion, the_conversion_agrees}
use Rattle.everyday.proofs.Check.{made_loops, made_trapped, made_numbered}
use Rattle.converting.specs.Format.{good₂, reading₂}
use Rattle.converting.specs.Conversions.{converting_tree, converting_of, converting}
use Rattle.converting.proofs.Made.{made_scoped, made_locals, made_next}
use Rattle.converting.proofs.Sound.{Sound₂, sound₂}

-- What is written for a good block.
written_is : (z : Bool) (bs cs : List ℕ) → cond z (writes cs) (refuses LIMIT 0) ≡ writes bs → (z ≡ true) × (cs ≡ bs)
written_is true bs cs e = (refl, cc)
written_is false bs cs e = let z : ◌≡◌ {A = ℕ} 0 1 = cc in absurd (omega arith)

writable_within : (h : Header) (t : Stmt) → Writable h t → T (within_limits h t)
unfolding within_limits
writable_within h t w =
    and_in (leb (h.inputs + h.outputs + h.locals) 64) _ (le→leb _ 64 w.signals)
    (and_in (leb (statements t) 512) _ (le→leb _ 512 w.few_statements)
    (and_in (leb (length (pauses t)) 128) _ (le→leb _ 128 w.few_pauses)
    (and_in (leb (nested_traps t) 16) _ (le→leb _ 16 w.traps_nested)
    (and_in (leb (nested_locals t) 6) _ (le→leb _ 6 w.locals_nested) (le→leb _ 64 w.paths)))))

module _ (b : List ℕ) (bytes : Bytes b) (h : Header) (p : Everyday) (read : reading₂ b ≡ good₂ h p) where
  abbrev pub t : Stmt
  t = converted p

  s : Sound₂ b h p
  s = sound₂ b h p read

  -- All but the limits of a good block.
  conversion_orderly : Orderly h t
  unfolding converted header
  conversion_orderly = record {
    version_fits = subst⁻¹ (λ (h : Header). h.version < 65536) s.its_header (two_small b 6 bytes);
    interface = omega (arith, s.signals);
    trapped = made_trapped (record { below = λ d l. absurd (omega arith) }) 0 p s.trapped;
    pauses_numbered = made_numbered as_it_is 0 p;
    scoped = made_scoped h.inputs h.outputs empty as_it_is 0 p s.scoped;
    locals_counted = s.locals_counted ∙ ap (λ (xs : List ℕ). length xs) (sym (made_locals as_it_is 0 p));
    locals_next = made_next as_it_is 0 (h.inputs + h.outputs) p s.locals_next;
    loops = made_loops stays_rising 0 p ∙ is_true _ s.loops;
  }

  -- Within the limits the conversion can be written.
  pub conversion_writable : T (within_limits h t) → Writable h t
  unfolding within_limits
  conversion_writable w =
      let o = conversion_orderly in
      let w₁ = and_right (leb (h.inputs + h.outputs + h.locals) 64) _ w in
      let w₂ = and_right (leb (statements t) 512) _ w₁ in
      let w₃ = and_right (leb (length (pauses t)) 128) _ w₂ in
      let w₄ = and_right (leb (nested_traps t) 16) _ w₃ in
      record {
        version_fits = o.version_fits;
        signals = s.signals;
        few_statements = leb→le _ 512 (and_left (leb (statements t) 512) _ w₁);
        few_pauses = leb→le _ 128 (and_left (leb (length (pauses t)) 128) _ w₂);
        traps_nested = leb→le _ 16 (and_left (leb (nested_traps t) 16) _ w₃);
        locals_nested = leb→le _ 6 (and_left (leb (nested_locals t) 6) _ w₄);
        paths = leb→le _ 64 (and_right (leb (nested_locals t) 6) _ w₄);
        trapped = o.trapped;
        pauses_numbered = o.pauses_numbered;
        scoped = o.scoped;
        locals_counted = o.locals_counted;
        locals_next = o.locals_next;
        loops = o.loops;
      }

  -- Where the conversion passes a limit, reading its bytes gives 4.
  pub over_a_limit_reads_4 : within_limits h t ≡ false → (at : ℕ) × (reading (block_bytes h t) ≡ turned_down LIMIT at)
  over_a_limit_reads_4 e = read_over h t conversion_orderly (λ w. of_false e (writable_within h t w))

  abbrev pub block₂ : Block₂
  block₂ = record { inputs = h.inputs; outputs = h.outputs; body = p }

  -- From fresh, any run by the direct meaning and of the conversion is the same: final statuses, codes, rounds and NOT CONSTRUCTIVE.
  pub runs_agree : (givens : List (InputSet (interface block₂))) → SameRun (run₂ block₂ fresh givens) (run (conversion block₂) fresh (map (heard_there (interface block₂) t) givens))
  runs_agree = the_conversion_agrees block₂

  module _ (bs : List ℕ) (w : converting b ≡ writes bs) where
    its_writing : (within_limits h t ≡ true) × (block_bytes h t ≡ bs)
    unfolding converting converting_of converting_tree
    its_writing = written_is _ bs _ (sym (ap converting_of read) ∙ w)

    -- What was written reads back good, as the conversion.
    pub reads_back_good : reading bs ≡ good (written h t)
    reads_back_good = subst (λ (x : List ℕ). reading x ≡ good (written h t)) its_writing.1 (read_back h t (conversion_writable (of_true its_writing.0)))
