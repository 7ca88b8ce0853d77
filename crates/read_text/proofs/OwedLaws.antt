-- What is owed for a whole text, by what the loop over its tokens says of it. Assumes nothing.
use mathlib.Core.Path.{◌≡◌, refl, sym, subst, subst⁻¹}
use mathlib.Core.List.{List}
use Prim.Native.Nat.{ℕ, ◌≤◌}
use native.Mathlib.Omega.{arith}
use lib.ListN.{length}
use Rattle.std.specs.Prelude.{Result, Ok, Err}
use Rattle.refusals.specs.Refusals.{number}
use Rattle.refusals.specs.declared.Refused.{Refused}
use Rattle.writing.specs.Answers.{roomed, wrote_values, wrote_owed, out_owed}
use Rattle.text.specs.Tokens.{tokens_placed}
use Rattle.text.specs.Reader.{Outcome, outside, over, begun, read_placed, block_of, owed, text_read}
use Rattle.read_steps.specs.Records.{Written}
use Rattle.read_steps.specs.declared.steps.Fault.TheVariants.{Grammar, Deep}
use Rattle.read_text.specs.Ending.{Answers, blocked}
use Rattle.read_text.specs.Reading.{refused_as, Scanned, stood, was_outside, was_over}
use Rattle.read_text.specs.declared.heading.Reader.{Reader}

module _ {out : List ℕ} {e : Result Reader Refused} where
  refused_owed : (before : List ℕ) {o : Outcome} {f : Refused} → Scanned out e o → e ≡ Err f → Answers (owed o) before before (Err f)
  unfolding owed roomed wrote_values wrote_owed out_owed number refused_as
  refused_owed before (stood rs z i s w) g = let m : ◌≡◌ {A = ℕ} 0 1 = cc in absurd (omega arith)
  refused_owed before {f = f} (was_outside at z) g =
      let same : refused_as Grammar at ≡ f = cc in
      subst (λ (x : Refused). Answers (owed (outside at)) before before (Err x)) same (record { answered = refl; stored = refl })
  refused_owed before {f = f} (was_over at z) g =
      let same : refused_as Deep at ≡ f = cc in
      subst (λ (x : Refused). Answers (owed over) before before (Err x)) same (record { answered = refl; stored = refl })

  -- A block's numbers are in order, and its records in the lent bytes.
  pub ready_to_end : {o : Outcome} {r : Reader} → Scanned out e o → e ≡ Ok r → (length out ≡ 3092) × ((r.inputs ≤ r.signals) × (r.signals ≤ r.stage.next))
  ready_to_end {r = r} (stood {r = s} rs z i k w) g =
      let same : s ≡ r = cc in
      subst (λ (x : Reader). (length out ≡ 3092) × ((x.inputs ≤ x.signals) × (x.signals ≤ x.stage.next))) same (w.roomy, (i, k))
  ready_to_end (was_outside at z) g = let m : ◌≡◌ {A = ℕ} 0 1 = cc in absurd (omega arith)
  ready_to_end (was_over at z) g = let m : ◌≡◌ {A = ℕ} 0 1 = cc in absurd (omega arith)

  block_owed : {before after : List ℕ} {w : Result ℕ Refused} {o : Outcome} {r : Reader} → Scanned out e o → e ≡ Ok r
      → ((b : List ℕ) → Written out r.stage.size b → Answers (block_of (blocked r.version r.inputs r.signals r.stage.next b)) before after w)
      → Answers (owed o) before after w
  unfolding owed
  block_owed {before} {after} {w} {r = r} (stood {r = s} rs z i k h) g d =
      let same : s ≡ r = cc in
      (subst (λ (x : Reader). Written out x.stage.size rs → Answers (block_of (blocked x.version x.inputs x.signals x.stage.next rs)) before after w) (sym same) (d rs)) h
  block_owed (was_outside at z) g d = let m : ◌≡◌ {A = ℕ} 0 1 = cc in absurd (omega arith)
  block_owed (was_over at z) g d = let m : ◌≡◌ {A = ℕ} 0 1 = cc in absurd (omega arith)

module _ (text : List ℕ) {out : List ℕ} {e : Result Reader Refused} (w : Scanned out e (read_placed begun (tokens_placed text) (length text))) where
  pub refused_told : (before : List ℕ) {f : Refused} {r : Result ℕ Refused} → r ≡ Err f → e ≡ Err f → Answers (text_read text) before before r
  unfolding text_read
  refused_told before d f = subst⁻¹ (Answers (text_read text) before before) d (refused_owed before w f)

  pub block_told : {before after : List ℕ} {q : Result ℕ Refused} {r : Reader} → e ≡ Ok r
      → ((b : List ℕ) → Written out r.stage.size b → Answers (block_of (blocked r.version r.inputs r.signals r.stage.next b)) before after q)
      → Answers (text_read text) before after q
  unfolding text_read
  block_told f d = block_owed w f d
