-- The whole text is the header's pieces, the statement's text and a line feed; the size that was counted decides the room; and a refusal
-- of the block is passed on with its number and place. Assumes nothing.
use Rattle.std.specs.Prelude.{Result, Ok, Err}
use mathlib.Core.Path.{◌≡◌, refl, sym, ◌∙◌, ap, subst⁻¹}
use mathlib.Core.Bool.{Bool, true, false, cond}
use mathlib.Core.List.{List, [], ◌∷◌, ◌++◌, map}
use Prim.Native.Nat.{ℕ, zero, suc, ◌+◌, ◌/◌, ◌%◌, ◌≤◌}
use native.Mathlib.Omega.{arith}
use lib.Dec.{eqb}
use lib.ListN.{length}
use lib.Seq.{sets, length-sets}
use Rattle.rules.specs.Statements.{Stmt, from}
use Rattle.refusals.specs.Refusals.{number}
use Rattle.refusals.proofs.Laws.{number_back, of_a_block}
use Rattle.block.specs.Told.{refusal_of, summary_of, answer_to, InTable}
use Rattle.tables.specs.declared.Table.{Table}
use Rattle.block.specs.Format.{Header, Good, Reading, good, turned_down, reading}
use Rattle.block.specs.declared.whole.Summary.{Summary}
use Rattle.block.proofs.GoodReadings.{sound, numbers}
use Rattle.records.proofs.Bytes.{sets_front}
use Rattle.writing.specs.Answers.{Writing, writes, roomed, wrote_values, wrote_owed, out_owed}
use Rattle.refusals.specs.declared.Refused.{Refused}
use Rattle.writing.proofs.Stores.{too_few, enough, fits_in, does_not_fit}
use Rattle.text.specs.Tokens.{VERSION, INPUT, OUTPUT}
use Rattle.text.specs.Shown.{signal_word, decimal, shown, word, blank, part_text, text_bytes}
use Rattle.write_text.specs.Pieces.{Puts, coded_in, coded, names_part}
use Rattle.write_text.specs.Spots.{at_level, statement_text, Asks}
use Rattle.write_text.specs.WriteText.{text_writing_of, text_writing, Shows, Filled, Answers}
use Rattle.write_text.specs.declared.statements.Level.TheVariants.{Whole}
use Rattle.write_text.specs.declared.statements.Spot.{Spot}
use Rattle.write_text.proofs.Putting.{and_then, before, told_as}
use Rattle.write_text.proofs.Most.{text_short}

-- The header, before what follows it; and where the statement is put.
abbrev VERSION_IS : List ℕ
VERSION_IS = word VERSION (blank [])

abbrev INPUT_IS : List ℕ
INPUT_IS = 10 ∷ word INPUT (blank [])

abbrev OUTPUT_IS : List ℕ
OUTPUT_IS = 10 ∷ word OUTPUT (blank [])

abbrev pub front : ℕ → ℕ → ℕ → List ℕ → List ℕ
front v i o r =
    VERSION_IS ++ (decimal v ++ ((59 ∷ []) ++ names_part INPUT_IS (map (signal_word i o) (from 0 i)) (names_part OUTPUT_IS (map (signal_word i o) (from i o)) r)))

abbrev pub outermost : ℕ → ℕ → ℕ → Spot
outermost to i o = record { to = to; level = Whole; indent = 0; traps = 0; inputs = i; outputs = o }

input_part : (xs : List (List ℕ)) (r : List ℕ) → names_part INPUT_IS xs r ≡ part_text INPUT xs r
unfolding names_part part_text
input_part [] r = refl
input_part (x ∷ xs) r = refl

output_part : (xs : List (List ℕ)) (r : List ℕ) → names_part OUTPUT_IS xs r ≡ part_text OUTPUT xs r
unfolding names_part part_text
output_part [] r = refl
output_part (x ∷ xs) r = refl

text_is : (h : Header) (t : Stmt) (to : ℕ) → front h.version h.inputs h.outputs (statement_text (outermost to h.inputs h.outputs) t ((10 ∷ []) ++ [])) ≡ text_bytes (shown h t)
unfolding text_bytes shown statement_text at_level
text_is h t to =
    let i = h.inputs in
    let o = h.outputs in
    let body = statement_text (outermost to i o) t (10 ∷ []) in
    let outs = names_part OUTPUT_IS (map (signal_word i o) (from i o)) body in
    ap (λ (l : List ℕ). VERSION_IS ++ (decimal h.version ++ (59 ∷ l))) (input_part (map (signal_word i o) (from 0 i)) outs)
    ∙ ap (λ (l : List ℕ). VERSION_IS ++ (decimal h.version ++ (59 ∷ part_text INPUT (map (signal_word i o) (from 0 i)) l))) (output_part (map (signal_word i o) (from i o)) body)

pub front_put : {a b c d e f : List ℕ} {m n k j l : ℕ} (v i o digits : ℕ) → Puts a b 0 m (λ x. VERSION_IS ++ x) → coded digits ≡ decimal v → Puts b c m n (λ x. coded digits ++ x)
    → Puts c d n k (λ x. (59 ∷ []) ++ x) → Puts d e k j (names_part INPUT_IS (map (signal_word i o) (from 0 i)))
    → Puts e f j l (names_part OUTPUT_IS (map (signal_word i o) (from i o))) → Puts a f 0 l (front v i o)
front_put v i o digits p g q s t u =
    let ins = names_part INPUT_IS (map (signal_word i o) (from 0 i)) in
    let outs = names_part OUTPUT_IS (map (signal_word i o) (from i o)) in
    let q₁ = told_as (λ r. ap (λ (l : List ℕ). l ++ r) g) q in
    and_then (before (λ r. decimal v ++ ((59 ∷ []) ++ ins (outs r))) p) (and_then (before (λ r. (59 ∷ []) ++ ins (outs r)) q₁) (and_then (before (λ r. ins (outs r)) s) (and_then (before outs t) u)))

coded_short : (f n : ℕ) → length (coded_in f n) ≤ f
unfolding coded_in
coded_short zero n = omega arith
coded_short (suc f) n = go (eqb n 0) (coded_short f (n / 256))
  where
    go : (z : Bool) → length (coded_in f (n / 256)) ≤ f → length (cond z [] ((n % 256) ∷ coded_in f (n / 256))) ≤ suc f
    go true ih = omega arith
    go false ih = omega (arith, ih)

module _ {tab : Table} {s : Summary} {h : Header} {t : Stmt} (d : Shows tab s h t) where
  abbrev bytes : List ℕ
  bytes = text_bytes (shown h t)

  front_is : (to : ℕ) → front s.version s.inputs s.outputs (statement_text (outermost to s.inputs s.outputs) t ((10 ∷ []) ++ [])) ≡ bytes
  front_is to = (λ j. front (sym d.its_version j) (sym d.its_inputs j) (sym d.its_outputs j)
      (statement_text (outermost to (sym d.its_inputs j) (sym d.its_outputs j)) t ((10 ∷ []) ++ []))) ∙ text_is h t to

  module _ (digits : ℕ) (g : coded digits ≡ decimal s.version) {a b : List ℕ} {m : ℕ} (p : Puts a b 0 m (front s.version s.inputs s.outputs)) where
    body_short : m + length (statement_text (outermost m s.inputs s.outputs) t ((10 ∷ []) ++ [])) ≤ 137308
    body_short =
        let digits_few : length (decimal h.version) ≤ 8 = omega (arith, coded_short 8 digits, ap length g, ap (λ (v : ℕ). length (decimal v)) d.its_version) in
        omega (
          arith,
          p.ends (statement_text (outermost m s.inputs s.outputs) t ((10 ∷ []) ++ [])),
          ap length (front_is m),
          text_short h t d.signals d.small d.short_path (omega (arith, d.stands.room)),
          digits_few,
        )

    pub text_asks : Asks tab 0 (outermost m s.inputs s.outputs)
    text_asks = record { tree = t; stands = d.stands; rest = (10 ∷ []) ++ []; short = omega (arith, body_short); few_open = omega arith; few_traps = omega arith }

    module _ {c : List ℕ} {n : ℕ} (q : Puts b c m n (statement_text (outermost m s.inputs s.outputs) t)) where
      pub body_ends : n ≤ 3000000
      body_ends = omega (arith, body_short, q.ends ((10 ∷ []) ++ []))

      pub text_filled : {e : List ℕ} {k : ℕ} → Puts c e n k (λ x. (10 ∷ []) ++ x) → Filled bytes a e k
      text_filled z =
          let whole = and_then (before (statement_text (outermost m s.inputs s.outputs) t) p) q in
          let all = and_then (before (λ r. (10 ∷ []) ++ r) whole) z in
          record { sized = omega (arith, all.ends [], ap length (front_is m)); stored = all.stores [] ∙ ap (λ (l : List ℕ). sets a 0 l) (front_is m) }

pub filled_size : {bs before after : List ℕ} {n : ℕ} → Filled bs before after n → length after ≡ length before
filled_size {bs} {before} f = ap length f.stored ∙ length-sets before 0 bs

-- The room, by what the test of it answered.
module _ {bs : List ℕ} {size : ℕ} (e : size ≡ length bs) {before : List ℕ} {r : Result ℕ Refused}
    (f : (bs : List ℕ) → length bs ≡ size → wrote_values r ≡ wrote_owed (roomed (writes bs) (length before))) where
  pub no_room : {refusal : Refused} → r ≡ Err refusal → Answers (writes bs) before before (Err refusal)
  unfolding out_owed
  no_room {refusal} w =
      let l = does_not_fit bs (length before) refusal (sym (ap wrote_values w) ∙ f bs (sym e)) in
      record {
        answered = sym (ap wrote_values w) ∙ f bs (sym e);
        stored = sym (ap (λ (w : Writing). out_owed w before) (too_few bs (length before) l));
      }

  pub in_it : {k : ℕ} {after : List ℕ} → r ≡ Ok k → after ≡ sets before 0 bs → Answers (writes bs) before after (Ok k)
  unfolding out_owed
  in_it {k} w g =
      let l = (fits_in bs (length before) k (sym (ap wrote_values w) ∙ f bs (sym e))).1 in
      record {
        answered = sym (ap wrote_values w) ∙ f bs (sym e);
        stored = g ∙ sets_front bs before l ∙ sym (ap (λ (w : Writing). out_owed w before) (enough bs (length before) l));
      }

refused_as : (b before : List ℕ) (x : Reading) {refusal : Refused} → reading b ≡ x → answer_to x ≡ Err refusal → Answers (text_writing_of x) before before (Err refusal)
unfolding answer_to text_writing_of roomed wrote_values wrote_owed out_owed
refused_as b before (good g) q r = let z : ◌≡◌ {A = ℕ} 0 1 = cc in absurd (omega arith)
refused_as b before (turned_down n at) {refusal} q r =
    let same : refusal_of n at ≡ refusal = cc in
    let f : at ≡ refusal.place = ap (λ (x : Refused). x.place) same in
    let k = numbers b n at q in
    let v : number refusal.why ≡ n = sym (ap (λ (x : Refused). number x.why) same) ∙ number_back n (of_a_block n k.0 k.1) in
    record { answered = λ i. v i ∷ sym f i ∷ 0 ∷ []; stored = refl }

-- A refusal of the block is passed on; a good block's table is ready.
pub refusal_passed : (b before : List ℕ) {a : Result Summary Refused} {refusal : Refused} → a ≡ answer_to (reading b) → a ≡ Err refusal → Answers (text_writing b) before before (Err refusal)
unfolding text_writing
refusal_passed b before e f = refused_as b before (reading b) refl (sym e ∙ f)

record Ready (b : List ℕ) (tab : Table) (s : Summary) : Type 0 where
  read : Good
  reads : reading b ≡ good read
  shows : Shows tab s read.header read.body

good_as : (b : List ℕ) (tab : Table) (x : Reading) {s : Summary} → reading b ≡ x → answer_to x ≡ Ok s → InTable x tab → Ready b tab s
unfolding answer_to InTable
good_as b tab (turned_down n at) q r w = let z : ◌≡◌ {A = ℕ} 0 1 = cc in absurd (omega arith)
good_as b tab (good g) {s} q r w =
    let e : summary_of g ≡ s = cc in
    let f = sound b g q in
    record {
      read = g;
      reads = q;
      shows = record {
        stands = record { has = w; room = omega (arith, f.few_statements, f.counted) };
        small = f.small;
        short_path = f.paths;
        its_version = ap (λ (x : Summary). x.version) e;
        its_inputs = ap (λ (x : Summary). x.inputs) e;
        its_outputs = ap (λ (x : Summary). x.outputs) e;
        signals = omega (arith, f.signals);
      };
    }

ready_for : (b : List ℕ) (tab : Table) {a : Result Summary Refused} {s : Summary} → a ≡ answer_to (reading b) → a ≡ Ok s → InTable (reading b) tab → Ready b tab s
ready_for b tab e f w = good_as b tab (reading b) refl (sym e ∙ f) w

-- As the call needs them.
pub table_ready : (b : List ℕ) (tab : Table) {a : Result Summary Refused} {s : Summary} → a ≡ answer_to (reading b) → a ≡ Ok s → InTable (reading b) tab
    → (h : Header) × ((t : Stmt) × Shows tab s h t)
table_ready b tab e f w = let g = ready_for b tab e f w in (g.read.header, (g.read.body, g.shows))

pub all_passed : (b : List ℕ) (tab : Table) {a : Result Summary Refused} {s : Summary} {before after : List ℕ} {r : Result ℕ Refused} → a ≡ answer_to (reading b) → a ≡ Ok s → InTable (reading b) tab
    → ((h : Header) (t : Stmt) → Shows tab s h t → Answers (writes (text_bytes (shown h t))) before after r) → Answers (text_writing b) before after r
unfolding text_writing text_writing_of
all_passed b tab {before = before} {after} {r} e f w d =
    let g = ready_for b tab e f w in
    subst⁻¹ (λ (x : Reading). Answers (text_writing_of x) before after r) g.reads (d g.read.header g.read.body g.shows)
