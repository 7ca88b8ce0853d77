-- The call: a good block's tree is recorded behind its header, so the walk may begin there; the header and what the walk leaves are the bytes to be written; and a
-- refusal is passed on with its number and place. Assumes nothing.
use mathlib.Core.Path.{◌≡◌, refl, sym, ap, ◌∙◌, subst, subst⁻¹, fun_ext}
use mathlib.Core.Bool.{Bool, true, cond}
use mathlib.Core.List.{List}
use Prim.Native.Nat.{ℕ, ◌+◌, ◌≤◌}
use native.Mathlib.Omega.{arith}
use lib.Dec.{leb, leb→le}
use lib.ListN.{length}
use lib.Seq.{sets, length-sets}
use Rattle.sets.proofs.Members.{of_true, and_left, and_right}
use Rattle.rules.specs.Statements.{Depth, preorder}
use Rattle.std.specs.Prelude.{Result, Ok, Err}
use Rattle.refusals.specs.declared.Refused.{Refused}
use Rattle.block.specs.Format.{LIMIT, Header, begun, outermost}
use Rattle.writing.specs.Written.{records, header_bytes, block_bytes}
use Rattle.writing.specs.Answers.{Writing, writes, refuses, roomed, wrote_values, wrote_owed, out_owed}
use Rattle.writing.proofs.Stores.{too_few, enough, block_stored, block_length, out_written, fits_in, does_not_fit}
use Rattle.doubled.specs.Copies.{within_limits}
use Rattle.everyday.specs.Statements.{Everyday}
use Rattle.everyday.specs.Conversion.{as_it_is, pauses_made, converted}
use Rattle.converting.specs.Format.{good₂, reading₂}
use Rattle.converting.specs.Sizes.{size₂, fits}
use Rattle.converting.specs.Records.{made_bytes, out_by}
use Rattle.converting.specs.Conversions.{converting_tree, converting_of, converting}
use Rattle.converting.proofs.Records.{records_made}
use Rattle.converting.proofs.Sizes.{limits_by_size, bytes_by_size}
use Rattle.converting.proofs.Sound.{sound₂}
use Rattle.convert.specs.Marks.{marks_of}
use Rattle.convert.specs.Walk.{sends, Recorded, Walks, WrittenOut}
use Rattle.convert.specs.Scans.{Convertible, ScanTold}
use Rattle.convert.specs.declared.scan.Scanned.{Scanned}
use Rattle.convert.specs.declared.walk.Marks.{Marks}
use Rattle.convert.specs.declared.walk.Spot.{Spot}
use Rattle.convert.proofs.ReadLaws.{read_as}

-- What the call owes for a block: its answer and every byte.
pub record Owed (w : Writing) (before after : List ℕ) (r : Result ℕ Refused) : Type 0 where
  pub answered : wrote_values r ≡ wrote_owed (roomed w (length before))
  pub stored : after ≡ out_owed (roomed w (length before)) before

-- A refusal of the reader is passed on.
pub refusal_passed : (b before : List ℕ) {q : Result Scanned Refused} {e : Refused} → ScanTold b q → q ≡ Err e → Owed (converting b) before before (Err e)
unfolding ScanTold roomed wrote_values wrote_owed out_owed
refusal_passed b before {e = e} t i =
    subst⁻¹ (λ (x : Writing). Owed x before before (Err e)) (subst (ScanTold b) i t) (record { answered = refl; stored = refl })

-- What the reader told.
pub good_told : (b : List ℕ) {q : Result Scanned Refused} {s : Scanned} → ScanTold b q → q ≡ Ok s → Convertible b s.declared s.size
unfolding ScanTold
good_told b t e = subst (ScanTold b) e t

-- Where the walk begins.
abbrev start : Spot
start = record { at = 14; to = 14 }

abbrev no_marks : Marks
no_marks = record { word = 0; count = 0 }

sends_none : sends no_marks ≡ as_it_is
unfolding out_by marks_of
sends_none = fun_ext (λ d. refl)

few_traps : (h : Header) (p : Everyday) → within_limits h (converted p) ≡ true → (size₂ p).traps ≤ 16
unfolding fits
few_traps h p e =
    let f = of_true (sym (limits_by_size h p) ∙ e) in
    let s = size₂ p in
    let f₁ = and_right (leb (h.inputs + h.outputs + h.locals) 64) _ f in
    let f₂ = and_right (leb s.statements 512) _ f₁ in
    let f₃ = and_right (leb (pauses_made p) 128) _ f₂ in
    leb→le s.traps 16 (and_left (leb s.traps 16) _ f₃)

-- A good block within the limits, and the length of what is written for it.
module _ (b : List ℕ) (h : Header) (p : Everyday) {size : ℕ} (read : reading₂ b ≡ good₂ h p) (within : within_limits h (converted p) ≡ true) (sized : size ≡ 14 + (size₂ p).bytes) where
  abbrev whole : List ℕ
  whole = block_bytes h (converted p)

  writing : converting b ≡ writes whole
  unfolding converting converting_of converting_tree
  writing = ap converting_of read ∙ ap (λ (z : Bool). cond z (writes whole) (refuses LIMIT 0)) within

  size_is : length whole ≡ size
  size_is = bytes_by_size h p ∙ sym sized

  owed : {before after : List ℕ} {r : Result ℕ Refused} → Owed (writes whole) before after r → Owed (converting b) before after r
  owed {before} {after} {r} o = subst⁻¹ (λ (x : Writing). Owed x before after r) writing o

  pub recorded : Recorded b 14 p
  recorded = (read_as b h 64 outermost begun p (sound₂ b h p read).after (sound₂ b h p read).read).recorded

  pub walks : (before : List ℕ) {now : List ℕ} → size ≤ length before → now ≡ sets before 0 (header_bytes h) → Walks b start no_marks (length now) p
  walks before {now} l e =
      let s = sound₂ b h p read in
      let g = read_as b h 64 outermost begun p s.after s.read in
      let same : length now ≡ length before = simp length-sets at (ap (λ (l : List ℕ). length l) e) in
      record {
        recorded = g.recorded;
        within = omega (arith, g.ends, s.ends, s.short);
        room = omega arith;
        nested = omega (arith, few_traps h p within);
        none_beyond = omega arith;
        traps = 0;
        trapped = s.trapped;
        fewer = omega arith;
      }

  -- The room, by what the test of it answered.
  module _ (before : List ℕ) {r : Result ℕ Refused} (f : (bs : List ℕ) → length bs ≡ size → wrote_values r ≡ wrote_owed (roomed (writes bs) (length before))) where
    pub room_answered : {refusal : Refused} → r ≡ Err refusal → Owed (converting b) before before (Err refusal)
    unfolding out_owed
    room_answered {refusal} w =
        let l = does_not_fit whole (length before) refusal (sym (ap wrote_values w) ∙ f whole size_is) in
        subst (λ (x : Result ℕ Refused). Owed (converting b) before before x) w
        (owed (record { answered = f whole size_is; stored = sym (ap (λ (x : Writing). out_owed x before) (too_few whole (length before) l)) }))

    module _ {k : ℕ} (w : r ≡ Ok k) where
      pub enough_lent : size ≤ length before
      enough_lent = omega (arith, size_is, (fits_in whole (length before) k (sym (ap wrote_values w) ∙ f whole size_is)).1)

      pub all_converted : {now after : List ℕ} {end : Spot} → now ≡ sets before 0 (header_bytes h) → WrittenOut p no_marks start end now after → Owed (converting b) before after (Ok k)
      unfolding converted
      all_converted {now} {after} e o =
          let made : made_bytes (sends no_marks) p ≡ records (preorder (converted p)) = ap (λ (out : Depth → Depth). made_bytes out p) sends_none ∙ sym (records_made as_it_is 0 p) in
          let l = enough_lent in
          let fits : length whole ≤ length before = omega (arith, size_is) in
          subst (λ (x : Result ℕ Refused). Owed (converting b) before after x) w
          (owed (record {
            answered = f whole size_is;
            stored = o.stored ∙ ap (λ (l : List ℕ). sets now 14 l) made ∙ ap (λ (l : List ℕ). sets l 14 (records (preorder (converted p)))) e ∙ block_stored before h (converted p)
                ∙ out_written before h (converted p) (omega (arith, block_length h (converted p)))
                ∙ sym (ap (λ (x : Writing). out_owed x before) (enough whole (length before) fits));
          }))
