-- The call: the measures tell whether the doubled block is within the limits, the header and the records make its bytes, and a refusal of the
-- block is passed on with its number and place. Assumes nothing.
use Rattle.std.specs.Prelude.{Result, Ok, Err}
use mathlib.Core.Path.{◌≡◌, refl, sym, ◌∙◌, ap, ap₂, subst⁻¹, subst}
use mathlib.Core.Bool.{Bool, true, false, cond}
use mathlib.Core.List.{List, [], ◌∷◌}
use Prim.Native.Nat.{ℕ, ◌+◌, ◌≤◌, ◌<◌}
use native.Mathlib.Decide.{dec_le}
use native.Mathlib.Omega.{arith}
use lib.Dec.{T, leb, leb→le}
use lib.ListN.{length}
use lib.Seq.{sets}
use borrow.Author.Tests.{le-leb}
use Rattle.sets.proofs.Members.{same, of_true, and_in, and_left, and_right}
use Rattle.rules.specs.Statements.{Stmt, pauses}
use Rattle.refusals.specs.Refusals.{number}
use Rattle.refusals.specs.declared.Why.TheVariants.{Limit}
use Rattle.refusals.proofs.Laws.{number_back, of_a_block}
use Rattle.tables.specs.Table.{statements}
use Rattle.tables.specs.declared.Table.{Table}
use Rattle.block.specs.Told.{refusal_of, summary_of, answer_to, InTable, header_of}
use Rattle.block.specs.Format.{LIMIT, Header, Good, Reading, good, turned_down, reading, preorder, bytes}
use Rattle.block.specs.Good.{path, nested_traps, nested_locals, locals}
use Rattle.block.specs.declared.whole.Summary.{Summary}
use Rattle.block.proofs.GoodReadings.{sound, numbers}
use Rattle.tables.proofs.Places.{all_counted}
use Rattle.writing.specs.Written.{records, header_bytes, block_bytes}
use Rattle.writing.specs.Answers.{Writing, writes, refuses, roomed, wrote_values, wrote_owed, out_owed}
use Rattle.refusals.specs.declared.Refused.{Refused}
use Rattle.writing.proofs.Back.{bytes_most}
use Rattle.writing.proofs.Stores.{too_few, enough, block_stored, block_length, out_written, fits_in, does_not_fit}
use Rattle.doubled.specs.Copies.{copies, renamed, itself, doubled, doubled_header, within_limits, doubled_writing, doubling, doubling_of}
use Rattle.doubled.proofs.Made.{made_traps, made_nested, renamed_alike, renamed_locals}
use Rattle.copies.specs.declared.sizes.Size.{Size}
use Rattle.copies.specs.declared.copying.Spot.{Spot}
use Rattle.copies.specs.Sizes.{capped, SizeOf, Measured}
use Rattle.copies.specs.Copying.{Writes, Copied}
use Rattle.copies.specs.Doubling.{size_within, Doubles, Doubled}
use Rattle.copies.proofs.SizeLaws.{capped_small, capped_large}
use Rattle.copies.proofs.CopyLaws.{renamed_bytes}

-- A count within a limit is the true one.
below_cap : (n l : ℕ) → capped n ≤ l → l < 4000 → n ≤ l
below_cap n l h k = go (dec_le n 4000)
  where
    go : Dec (n ≤ 4000) → n ≤ l
    go (yes a) = omega (arith, capped_small n a)
    go (no a) = absurd (omega (arith, capped_large n (omega arith)))

capped_below : (n l : ℕ) → n ≤ l → l < 4000 → capped n ≤ l
capped_below n l a b = omega (arith, capped_small n (omega arith))

-- What is known where the measures are within the limits.
pub record Inside (h : Header) (t : Stmt) (s : Size) : Type 0 where
  pub few_signals : h.inputs + h.outputs + length (locals (doubled h t)) ≤ 64
  pub few_statements : statements (doubled h t) ≤ 512
  pub few_pauses : length (pauses (doubled h t)) ≤ 128
  pub short_path : path (doubled h t) ≤ 64
  pub its_locals : s.locals ≡ length (locals (doubled h t))
  pub its_bytes : s.bytes ≡ bytes (preorder (doubled h t))

bytes_few : (t : Stmt) → statements t ≤ 512 → bytes (preorder t) ≤ 3072
bytes_few t l = omega (arith, bytes_most (preorder t), all_counted t)

module _ (h : Header) {t : Stmt} {s : Size} (m : Measured t s) where
  sized : SizeOf s (doubled h t)
  unfolding doubled
  sized = m.counts itself (h.inputs + h.outputs) 0

  pub inside : T (size_within (h.inputs + h.outputs) s) → Inside h t s
  unfolding size_within
  inside w =
      let n = h.inputs + h.outputs in
      let w₁ = and_right (leb (n + s.locals) 64) _ w in
      let w₂ = and_right (leb s.statements 512) _ w₁ in
      let a : n + s.locals ≤ 64 = leb→le _ 64 (and_left (leb (n + s.locals) 64) _ w) in
      let b : s.statements ≤ 512 = leb→le _ 512 (and_left (leb s.statements 512) _ w₁) in
      let c : s.pauses ≤ 128 = leb→le _ 128 (and_left (leb s.pauses 128) _ w₂) in
      let d : s.path ≤ 64 = leb→le _ 64 (and_right (leb s.pauses 128) _ w₂) in
      let l : length (locals (doubled h t)) ≤ 64 = below_cap _ 64 (omega (arith, sized.of_locals)) (omega arith) in
      let k : s.locals ≡ length (locals (doubled h t)) = sized.of_locals ∙ capped_small _ (omega arith) in
      let q : statements (doubled h t) ≤ 512 = below_cap _ 512 (omega (arith, sized.of_statements)) (omega arith) in
      record {
        few_signals = omega arith;
        few_statements = q;
        few_pauses = below_cap _ 128 (omega (arith, sized.of_pauses)) (omega arith);
        short_path = below_cap _ 64 (omega (arith, sized.of_path)) (omega arith);
        its_locals = k;
        its_bytes = sized.of_bytes ∙ capped_small _ (omega (arith, bytes_few (doubled h t) q));
      }

  outside : T (within_limits (doubled_header h t) (doubled h t)) → T (size_within (h.inputs + h.outputs) s)
  unfolding size_within within_limits doubled_header
  outside w =
      let n = h.inputs + h.outputs in
      let v₁ = and_right (leb (n + length (locals (doubled h t))) 64) _ w in
      let v₂ = and_right (leb (statements (doubled h t)) 512) _ v₁ in
      let v₃ = and_right (leb (length (pauses (doubled h t))) 128) _ v₂ in
      let v₄ = and_right (leb (nested_traps (doubled h t)) 16) _ v₃ in
      let a : n + length (locals (doubled h t)) ≤ 64 = leb→le _ 64 (and_left (leb (n + length (locals (doubled h t))) 64) _ w) in
      let k : s.locals ≡ length (locals (doubled h t)) = sized.of_locals ∙ capped_small _ (omega arith) in
      let b : statements (doubled h t) ≤ 512 = leb→le _ 512 (and_left (leb (statements (doubled h t)) 512) _ v₁) in
      let c : length (pauses (doubled h t)) ≤ 128 = leb→le _ 128 (and_left (leb (length (pauses (doubled h t))) 128) _ v₂) in
      let d : path (doubled h t) ≤ 64 = leb→le _ 64 (and_right (leb (nested_locals (doubled h t)) 6) _ v₄) in
      and_in (leb (n + s.locals) 64) _ (of_true (le-leb (n + s.locals) 64 (omega arith)))
      (and_in (leb s.statements 512) _ (of_true (le-leb s.statements 512 (omega (arith, sized.of_statements, capped_below (statements (doubled h t)) 512 b (omega arith)))))
      (and_in (leb s.pauses 128) _ (of_true (le-leb s.pauses 128 (omega (arith, sized.of_pauses, capped_below (length (pauses (doubled h t))) 128 c (omega arith)))))
      (of_true (le-leb s.path 64 (omega (arith, sized.of_path, capped_below (path (doubled h t)) 64 d (omega arith)))))))

  back_inside : nested_traps t ≤ 16 → nested_locals t ≤ 6 → Inside h t s → T (within_limits (doubled_header h t) (doubled h t))
  unfolding within_limits doubled_header doubled
  back_inside x y i =
      let u = doubled h t in
      and_in (leb (h.inputs + h.outputs + length (locals u)) 64) _ (of_true (le-leb (h.inputs + h.outputs + length (locals u)) 64 i.few_signals))
      (and_in (leb (statements u) 512) _ (of_true (le-leb (statements u) 512 i.few_statements))
      (and_in (leb (length (pauses u)) 128) _ (of_true (le-leb (length (pauses u)) 128 i.few_pauses))
      (and_in (leb (nested_traps u) 16) _ (of_true (le-leb (nested_traps u) 16 (omega (arith, made_traps t itself (h.inputs + h.outputs) 0))))
      (and_in (leb (nested_locals u) 6) _ (of_true (le-leb (nested_locals u) 6 (omega (arith, made_nested t itself (h.inputs + h.outputs) 0))))
      (of_true (le-leb (path u) 64 i.short_path))))))

  -- The measures tell the limits.
  pub limits_told : nested_traps t ≤ 16 → nested_locals t ≤ 6 → size_within (h.inputs + h.outputs) s ≡ within_limits (doubled_header h t) (doubled h t)
  limits_told x y = same _ _ (λ w. back_inside x y (inside w)) outside

-- The writing, by the limits.
pub limited : (h : Header) (t : Stmt) → within_limits (doubled_header h t) (doubled h t) ≡ false → doubled_writing h t ≡ refuses LIMIT 0
unfolding doubled_writing
limited h t e = ap (λ (z : Bool). cond z (writes (block_bytes (doubled_header h t) (doubled h t))) (refuses LIMIT 0)) e

pub written_out : (h : Header) (t : Stmt) → within_limits (doubled_header h t) (doubled h t) ≡ true → doubled_writing h t ≡ writes (block_bytes (doubled_header h t) (doubled h t))
unfolding doubled_writing
written_out h t e = ap (λ (z : Bool). cond z (writes (block_bytes (doubled_header h t) (doubled h t))) (refuses LIMIT 0)) e

-- What the code does with a good block's table and its measures.
module _ {tab : Table} {s : Summary} {h : Header} {t : Stmt} (d : Doubles tab s h t) {z : Size} (m : Measured t z) where
  abbrev whole : List ℕ
  whole = block_bytes (doubled_header h t) (doubled h t)

  pub signals_are : s.inputs + s.outputs ≡ h.inputs + h.outputs
  signals_are = sym (ap₂ (λ (x y : ℕ). x + y) d.its_inputs d.its_outputs)

  told : {v : Bool} → v ≡ size_within (s.inputs + s.outputs) z → within_limits (doubled_header h t) (doubled h t) ≡ v
  told e = sym (e ∙ ap (λ (n : ℕ). size_within n z) signals_are ∙ limits_told h m d.traps_nested d.locals_nested)

  pub limit_answered : (before : List ℕ) → false ≡ size_within (s.inputs + s.outputs) z → Doubled (doubled_writing h t) before before (Err (record { why = Limit; place = 0 }))
  unfolding roomed wrote_values wrote_owed out_owed number
  limit_answered before e = subst⁻¹ (λ (w : Writing). Doubled w before before (Err (record { why = Limit; place = 0 }))) (limited h t (told e)) (record { answered = refl; stored = refl })

  module _ (good : true ≡ size_within (s.inputs + s.outputs) z) where
    pub in_limits : Inside h t z
    in_limits = inside h m (of_true (sym (good ∙ ap (λ (n : ℕ). size_within n z) signals_are)))

    pub size_is : {n : ℕ} → n ≡ 14 + z.bytes → length whole ≡ n
    size_is e = block_length (doubled_header h t) (doubled h t) ∙ ap (λ (n : ℕ). 14 + n) (sym in_limits.its_bytes) ∙ sym e

    answers : {before after : List ℕ} {r : Result ℕ Refused} {n : ℕ} → n ≡ 14 + z.bytes → ((bs : List ℕ) → length bs ≡ n → wrote_values r ≡ wrote_owed (roomed (writes bs) (length before)))
        → after ≡ out_owed (roomed (writes whole) (length before)) before → Doubled (doubled_writing h t) before after r
    answers {before} {after} {r} e f g =
        subst⁻¹ (λ (w : Writing). Doubled w before after r) (written_out h t (told good)) (record { answered = f whole (size_is e); stored = g })

    -- The room, by what the test of it answered.
    module _ (before : List ℕ) {r : Result ℕ Refused} {n : ℕ} (e : n ≡ 14 + z.bytes)
        (f : (bs : List ℕ) → length bs ≡ n → wrote_values r ≡ wrote_owed (roomed (writes bs) (length before))) where
      pub room_answered : {refusal : Refused} → r ≡ Err refusal → Doubled (doubled_writing h t) before before (Err refusal)
      unfolding out_owed
      room_answered {refusal} w =
          let l = does_not_fit whole (length before) refusal (sym (ap wrote_values w) ∙ f whole (size_is e)) in
          subst (λ (x : Result ℕ Refused). Doubled (doubled_writing h t) before before x) w
          (answers e f (sym (ap (λ (w : Writing). out_owed w before) (too_few whole (length before) l))))

      pub enough_lent : {k : ℕ} → r ≡ Ok k → n ≤ length before
      enough_lent {k} w = omega (arith, size_is e, (fits_in whole (length before) k (sym (ap wrote_values w) ∙ f whole (size_is e))).1)

    pub header_is : header_of (record { version = s.version; inputs = s.inputs; outputs = s.outputs; locals = z.locals }) ≡ doubled_header h t
    unfolding doubled_header
    header_is = λ i. record { version = sym d.its_version i; inputs = sym d.its_inputs i; outputs = sym d.its_outputs i; locals = in_limits.its_locals i }

    pub writes_all : {n lent : ℕ} → n ≡ 14 + z.bytes → n ≤ lent → Writes tab 0 (record { to = 14; next = s.inputs + s.outputs }) lent
    unfolding doubled
    writes_all e l = record {
      tree = t;
      lies = d.lies;
      room = omega (arith, in_limits.its_bytes, renamed_bytes itself (h.inputs + h.outputs) (copies 0 t));
      few = omega (arith, in_limits.few_signals, signals_are, renamed_locals itself (h.inputs + h.outputs) (copies 0 t));
    }

    names_alike : (ρ : ℕ → ℕ) → ((x : ℕ) → x < 64 → ρ x ≡ x) → renamed ρ (s.inputs + s.outputs) (copies 0 t) ≡ doubled h t
    unfolding doubled
    names_alike ρ f = ap (λ (n : ℕ). renamed ρ n (copies 0 t)) signals_are ∙ renamed_alike t ρ itself (h.inputs + h.outputs) 0 f d.lies.small

    pub all_written : (before : List ℕ) {now after : List ℕ} {r : Result ℕ Refused} {n : ℕ} {ρ : ℕ → ℕ} {spot : Spot} → n ≡ 14 + z.bytes
        → ((bs : List ℕ) → length bs ≡ n → wrote_values r ≡ wrote_owed (roomed (writes bs) (length before))) → {k : ℕ} → r ≡ Ok k
        → now ≡ sets before 0 (header_bytes (header_of (record { version = s.version; inputs = s.inputs; outputs = s.outputs; locals = z.locals })))
        → ((x : ℕ) → x < 64 → ρ x ≡ x) → Copied t ρ 0 (record { to = 14; next = s.inputs + s.outputs }) spot now after → Doubled (doubled_writing h t) before after (Ok k)
    all_written before {now} {after} {r} {ρ = ρ} e f w g names c =
        let l = enough_lent before e f w in
        let first : now ≡ sets before 0 (header_bytes (doubled_header h t)) = g ∙ ap (λ (x : Header). sets before 0 (header_bytes x)) header_is in
        let second : after ≡ sets now 14 (records (preorder (doubled h t))) = c.stored ∙ ap (λ (u : Stmt). sets now 14 (records (preorder u))) (names_alike ρ names) in
        let fits : length whole ≤ length before = omega (arith, size_is e) in
        subst (λ (x : Result ℕ Refused). Doubled (doubled_writing h t) before after x) w
        (answers e f (second ∙ ap (λ (x : List ℕ). sets x 14 (records (preorder (doubled h t)))) first ∙ block_stored before (doubled_header h t) (doubled h t)
        ∙ out_written before (doubled_header h t) (doubled h t) (omega (arith, block_length (doubled_header h t) (doubled h t)))
        ∙ sym (ap (λ (w : Writing). out_owed w before) (enough whole (length before) fits))))

refused_as : (b before : List ℕ) (x : Reading) {refusal : Refused} → reading b ≡ x → answer_to x ≡ Err refusal → Doubled (doubling_of x) before before (Err refusal)
unfolding answer_to doubling_of roomed wrote_values wrote_owed out_owed
refused_as b before (good g) q r = let z : ◌≡◌ {A = ℕ} 0 1 = cc in absurd (omega arith)
refused_as b before (turned_down n at) {refusal} q r =
    let same : refusal_of n at ≡ refusal = cc in
    let f : at ≡ refusal.place = ap (λ (x : Refused). x.place) same in
    let k = numbers b n at q in
    let v : number refusal.why ≡ n = sym (ap (λ (x : Refused). number x.why) same) ∙ number_back n (of_a_block n k.0 k.1) in
    record { answered = λ i. v i ∷ sym f i ∷ 0 ∷ []; stored = refl }

-- A refusal of the block is passed on; a good block's table is ready.
pub refusal_passed : (b before : List ℕ) {a : Result Summary Refused} {refusal : Refused} → a ≡ answer_to (reading b) → a ≡ Err refusal → Doubled (doubling b) before before (Err refusal)
unfolding doubling
refusal_passed b before {a} {refusal} e f = go (reading b) refl (sym e ∙ f)
  where
    go : (x : Reading) → reading b ≡ x → answer_to x ≡ Err refusal → Doubled (doubling_of x) before before (Err refusal)
    go x q r = refused_as b before x q r

record Ready (b : List ℕ) (tab : Table) (s : Summary) : Type 0 where
  read : Good
  reads : reading b ≡ good read
  doubles : Doubles tab s read.header read.body

good_as : (b : List ℕ) (tab : Table) (x : Reading) {s : Summary} → reading b ≡ x → answer_to x ≡ Ok s → InTable x tab → Ready b tab s
unfolding answer_to InTable
good_as b tab (turned_down n at) q r w = let z : ◌≡◌ {A = ℕ} 0 1 = cc in absurd (omega arith)
good_as b tab (good g) {s} q r w =
    let e : summary_of g ≡ s = cc in
    let f = sound b g q in
    record {
      read = g;
      reads = q;
      doubles = record {
        lies = record { has = w; room = omega (arith, f.few_statements, f.counted); small = f.small };
        traps_nested = f.traps_nested;
        locals_nested = f.locals_nested;
        its_version = ap (λ (x : Summary). x.version) e;
        its_inputs = ap (λ (x : Summary). x.inputs) e;
        its_outputs = ap (λ (x : Summary). x.outputs) e;
        signals = omega (arith, f.signals);
      };
    }

ready_for : (b : List ℕ) (tab : Table) {a : Result Summary Refused} {s : Summary} → a ≡ answer_to (reading b) → a ≡ Ok s → InTable (reading b) tab → Ready b tab s
ready_for b tab {a} {s} e f w = good_as b tab (reading b) refl (sym e ∙ f) w

passed_on : {b : List ℕ} {tab : Table} {s : Summary} (g : Ready b tab s) {before after : List ℕ} {r : Result ℕ Refused} → Doubled (doubled_writing g.read.header g.read.body) before after r
    → Doubled (doubling b) before after r
unfolding doubling doubling_of
passed_on g {before} {after} {r} d = subst⁻¹ (λ (x : Reading). Doubled (doubling_of x) before after r) g.reads d

-- As the call needs them.
pub table_ready : (b : List ℕ) (tab : Table) {a : Result Summary Refused} {s : Summary} → a ≡ answer_to (reading b) → a ≡ Ok s → InTable (reading b) tab
    → (h : Header) × ((t : Stmt) × Doubles tab s h t)
table_ready b tab e f w = let g = ready_for b tab e f w in (g.read.header, (g.read.body, g.doubles))

pub all_passed : (b : List ℕ) (tab : Table) {a : Result Summary Refused} {s : Summary} {before after : List ℕ} {r : Result ℕ Refused} → a ≡ answer_to (reading b) → a ≡ Ok s → InTable (reading b) tab
    → ((h : Header) (t : Stmt) → Doubles tab s h t → Doubled (doubled_writing h t) before after r) → Doubled (doubling b) before after r
all_passed b tab e f w d = let g = ready_for b tab e f w in passed_on g (d g.read.header g.read.body g.doubles)
