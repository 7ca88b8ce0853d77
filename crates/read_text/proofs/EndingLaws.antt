-- What the end of a text comes to: over 64 signals or too many records get 4 at place 0; else the lent bytes begin with the block's, which are
-- read, and a good block is stored where it has room. Assumes nothing.
use mathlib.Core.Path.{◌≡◌, refl, sym, ◌∙◌, ap, ap₂, subst, subst⁻¹}
use mathlib.Core.Bool.{Bool, true, false, cond}
use mathlib.Core.List.{List, [], ◌∷◌, ◌++◌}
use Prim.Native.Nat.{ℕ, ◌+◌, ◌-◌, ◌%◌, ◌≤◌, ◌<◌}
use native.Mathlib.Omega.{arith}
use borrow.Author.Tests.{lt-ltb, le-ltb, ltb-true, ltb-false}
use lib.Dec.{eqb, ltb}
use lib.ListN.{length, get_or, take, drop, length-append}
use lib.Seq.{sets, take-append-add}
use Rattle.std.specs.Prelude.{Result, Ok, Err, IsErr, IsErrAnd}
use Rattle.refusals.specs.Refusals.{number}
use Rattle.refusals.specs.declared.Refused.{Refused}
use Rattle.refusals.specs.declared.Why.TheVariants.{Limit}
use Rattle.refusals.proofs.Laws.{number_above}
use Rattle.sets.specs.Numbers.{listed}
use Rattle.tables.specs.Kinds.{shape}
use Rattle.block.specs.Format.{Reading, good, turned_down, reading, header_fault}
use Rattle.tables.specs.declared.Table.{Table}
use Rattle.block.specs.Told.{answer_to, ReadWhole}
use Rattle.block.proofs.Answered.{was_turned_down}
use Rattle.block.specs.declared.whole.Summary.{Summary}
use Rattle.block.proofs.GoodReadings.{numbers, reading_is, statements_read}
use Rattle.records.specs.Numerals.{in_bytes}
use Rattle.records.proofs.Bytes.{sets_front}
use Rattle.writing.specs.Written.{header_bytes, shaped_bytes}
use Rattle.writing.specs.Answers.{Writing, writes, refuses, roomed, wrote_values, wrote_owed, out_owed}
use Rattle.writing.proofs.Stores.{too_few, enough}
use Rattle.text.specs.Meaning.{Blocked}
use Rattle.text.specs.Reader.{checked, block_of}
use Rattle.read_steps.specs.Records.{Written}
use Rattle.read_text.specs.Ending.{Answers, blocked}
use Rattle.read_steps.proofs.StepLaws.{short_operand}

-- What a `?` passes on.
pub passed_on : {T : Type 0} {e : Refused} (r : Result T Refused) → IsErr r × IsErrAnd r (λ f. f ≡ e) → r ≡ Err e
passed_on (Ok x) h = absurd h.1
passed_on (Err f) h = ap Err h.1

-- The room.
module _ (bs before : List ℕ) where
  too_long : (r : Refused) → wrote_values (Err r) ≡ wrote_owed (roomed (writes bs) (length before)) → length before < length bs
  unfolding roomed wrote_values wrote_owed
  too_long r = go (ltb (length before) (length bs)) refl
    where
      go : (x : Bool) → ltb (length before) (length bs) ≡ x → number r.why ∷ r.place ∷ 0 ∷ [] ≡ wrote_owed (cond x (refuses 12 0) (writes bs)) → length before < length bs
      go true q e = ltb-true _ _ q
      go false q e = absurd (number_above r.why (ap (λ (l : List ℕ). get_or l 0 0) e))

  pub fits : (n : ℕ) → wrote_values (Ok n) ≡ wrote_owed (roomed (writes bs) (length before)) → length bs ≤ length before
  unfolding roomed wrote_values wrote_owed
  fits n = go (ltb (length before) (length bs)) refl
    where
      go : (x : Bool) → ltb (length before) (length bs) ≡ x → 0 ∷ 0 ∷ n ∷ [] ≡ wrote_owed (cond x (refuses 12 0) (writes bs)) → length bs ≤ length before
      go true q e = let z : ◌≡◌ {A = ℕ} 0 12 = ap (λ (l : List ℕ). get_or l 0 0) e in absurd (omega arith)
      go false q e = ltb-false _ _ q

  pub no_room : {r : Refused} {q : Result ℕ Refused} → q ≡ Err r → wrote_values (Err r) ≡ wrote_owed (roomed (writes bs) (length before)) → Answers (writes bs) before before q
  unfolding out_owed
  no_room {r} e answer =
      subst⁻¹ (Answers (writes bs) before before) e
      (record { answered = answer; stored = sym (ap (λ (w : Writing). out_owed w before) (too_few bs (length before) (too_long r answer))) })

  pub copied_in : {n : ℕ} {after : List ℕ} → wrote_values (Ok n) ≡ wrote_owed (roomed (writes bs) (length before)) → after ≡ sets before 0 bs
      → Answers (writes bs) before after (Ok n)
  unfolding out_owed
  copied_in {n} answer g =
      let l = fits n answer in record {
        answered = answer;
        stored = g ∙ sets_front bs before l ∙ sym (ap (λ (w : Writing). out_owed w before) (enough bs (length before) l));
      }

-- A refusal of the block is passed on; a good block's bytes are what is to be written.
module _ (b before : List ℕ) where
  pub refusal_passed : {tab : Table} {a : Result Summary Refused} {e : Refused} {r : Result ℕ Refused} → r ≡ Err e → ReadWhole (reading b) tab a → a ≡ Err e → Answers (checked b (reading b)) before before r
  unfolding roomed wrote_values wrote_owed out_owed
  refusal_passed {e = e} d w q =
      subst⁻¹ (Answers (checked b (reading b)) before before) d
      (subst⁻¹ (λ (x : Reading). Answers (checked b x) before before (Err e)) (was_turned_down b w q) (record { answered = refl; stored = refl }))

  good_as : (x : Reading) {s : Summary} → answer_to x ≡ Ok s → checked b x ≡ writes b
  unfolding answer_to
  good_as (good g) r = refl
  good_as (turned_down n at) r = let z : ⊥ = cc in absurd z

  pub good_copied : {a : Result Summary Refused} {s : Summary} {after : List ℕ} {r : Result ℕ Refused} → a ≡ answer_to (reading b) → a ≡ Ok s → Answers (writes b) before after r
      → Answers (checked b (reading b)) before after r
  good_copied {after = after} {r} e f d = subst⁻¹ (λ (w : Writing). Answers w before after r) (good_as (reading b) (sym e ∙ f)) d

-- Over its limits.
abbrev at_limit : Refused
at_limit = record { why = Limit; place = 0 }

limit_owed : (w : Writing) (before : List ℕ) {r : Refused} → r ≡ at_limit → w ≡ refuses 4 0 → Answers w before before (Err r)
unfolding roomed wrote_values wrote_owed out_owed number
limit_owed w before {r} d e =
    subst⁻¹ (λ (w : Writing). Answers w before before (Err r)) e (subst⁻¹ (λ (x : Refused). Answers (refuses 4 0) before before (Err x)) d (record { answered = refl; stored = refl }))

pub too_large : (b : List ℕ) → 3086 < length b → checked b (reading b) ≡ refuses 4 0
too_large b l =
    ap (checked b) (reading_is b ∙ ap (λ (z : Bool). cond z (turned_down 4 0) (cond (eqb (header_fault b) 0) (statements_read b) (turned_down (header_fault b) 0))) (lt-ltb 3086 (length b) l))

module _ (b : Blocked) where
  abbrev pub signals : ℕ
  signals = b.header.inputs + b.header.outputs + b.header.locals

  abbrev pub bytes : List ℕ
  bytes = header_bytes b.header ++ b.records

  pub many_signals : 64 < signals → block_of b ≡ refuses 4 0
  unfolding block_of
  many_signals l = ap (λ (z : Bool). cond z (refuses 4 0) (checked bytes (reading bytes))) (lt-ltb 64 signals l)

  pub few_signals : signals ≤ 64 → block_of b ≡ checked bytes (reading bytes)
  unfolding block_of
  few_signals l = ap (λ (z : Bool). cond z (refuses 4 0) (checked bytes (reading bytes))) (le-ltb 64 signals l)

  pub whole_length : length bytes ≡ 14 + length b.records
  unfolding header_bytes in_bytes
  whole_length = length-append (header_bytes b.header) b.records

all_signals : {i s n : ℕ} → i ≤ s → s ≤ n → i + (s - i) + (n - s) ≡ n
all_signals ins outs = omega (arith, ins, outs)

-- A version is cut to two bytes as an operand is.
cut : (v : ℕ) → in_bytes 2 (v % 65536) ≡ in_bytes 2 v
unfolding shaped_bytes shape listed in_bytes
cut v = ap (drop 4) (short_operand 18 v)

module _ (v : ℕ) {i s n : ℕ} (ins : i ≤ s) (outs : s ≤ n) {out rs : List ℕ} {size : ℕ} (w : Written out size rs) (before : List ℕ) where
  abbrev whole : Blocked
  whole = blocked v i s n rs

  pub over_signals : {r : Refused} → r ≡ at_limit → 64 < n → Answers (block_of whole) before before (Err r)
  over_signals d l = limit_owed _ before d (many_signals whole (omega (arith, l, all_signals ins outs)))

  module _ (few : n ≤ 64) where
    read_so : block_of whole ≡ checked (bytes whole) (reading (bytes whole))
    read_so = few_signals whole (omega (arith, few, all_signals ins outs))

    pub over_bytes : {r : Refused} → r ≡ at_limit → 3072 < size → Answers (block_of whole) before before (Err r)
    over_bytes d l = limit_owed _ before d (read_so ∙ too_large (bytes whole) (omega (arith, w.over l, whole_length whole)))

    -- The header stored before the records makes the block.
    module _ (fits : size ≤ 3072) where
      header_cut : header_bytes (record { version = v % 65536; inputs = i; outputs = s - i; locals = n - s }) ≡ header_bytes whole.header
      unfolding header_bytes
      header_cut =
          ap (λ (l : List ℕ). in_bytes 2 14 ++ (in_bytes 2 1 ++ (in_bytes 2 1 ++ (l ++ (in_bytes 2 i ++ (in_bytes 2 (s - i) ++ in_bytes 2 (n - s))))))) (cut v)

      whole_lies : take (14 + size) (sets out 0 (header_bytes whole.header)) ≡ bytes whole
      unfolding header_bytes in_bytes
      whole_lies =
          let h = header_bytes whole.header in
          ap (take (14 + size)) (sets_front h out (omega (arith, w.roomy))) ∙ take-append-add h (drop 14 out) size ∙ ap (λ (l : List ℕ). h ++ l) (w.held fits)

      pub block_owed : {out' after : List ℕ} {end : ℕ} {r : Result ℕ Refused} → out' ≡ sets out 0 (header_bytes (record { version = v % 65536; inputs = i; outputs = s - i; locals = n - s }))
          → end ≡ 14 + size → Answers (checked (take end out') (reading (take end out'))) before after r → Answers (block_of whole) before after r
      block_owed {after = after} {r = r} e f d =
          let lies = ap₂ take f (e ∙ ap (λ (l : List ℕ). sets out 0 l) header_cut) ∙ whole_lies in
          subst⁻¹ (λ (x : Writing). Answers x before after r) read_so (subst (λ (b : List ℕ). Answers (checked b (reading b)) before after r) lies d)
