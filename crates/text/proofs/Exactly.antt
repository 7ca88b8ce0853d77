-- A text stands for a block exactly where some text of the grammar with its names in order has its tokens, and then for that text's
-- block: forward by the header's parts and the statement, backward from the last token. Assumes nothing.
use mathlib.Core.Path.{◌≡◌, refl, sym, ap, ap₂, ◌∙◌, subst}
use mathlib.Core.Bool.{Bool, true, false, cond}
use mathlib.Core.List.{List, [], ◌∷◌}
use mathlib.Core.Option.{Option, none, some}
use Prim.Native.Nat.{ℕ, suc, ◌+◌, ◌-◌}
use native.Mathlib.Nat.{add-zero}
use native.Mathlib.Omega.{arith}
use lib.Dec.{T}
use lib.ListN.{length}
use Rattle.text.specs.Tokens.{Token, sign, number, VERSION, INPUT, OUTPUT, SEMICOLON}
use Rattle.text.specs.Grammar.{Arms, Text, arms, part, spelt}
use Rattle.text.specs.Meaning.{Declaration, go_on, Part, Blocked, declaring, arms_means, text_means_with}
use Rattle.text.specs.Machine.{at_the_end, level_at, moved, after, State, state, declared_by, run, complete}
use Rattle.text.specs.Reader.{version_due, number_due, version_closed, input_name, input_named, output_named}
use Rattle.text.specs.Reader.{Due, inputs_due, outputs_due, body_due, output_name, heading, Reader, in_header}
use Rattle.text.specs.Reader.{in_body, body_start, heading_sign, heading_number, heading_step, read_step, read_all}
use Rattle.text.specs.Reader.{begun_with, finish}
use Rattle.text.proofs.Options.{went_on, one_value}
use Rattle.text.proofs.OneReading.{arms_open}
use Rattle.text.proofs.Forward.{go_arms}
use Rattle.text.proofs.Heads.{body_all, Early, first, second, third, early_body, inputs_go, outputs_go, from_header}

-- The statement, from where it may begin.
body_goes : {m : Due} (v i : ℕ) (ds : List Declaration) (n : ℕ) (p : Arms) (w : Part) → Early m → arms_means p ds n ≡ some w
    → (u : State) × (read_all (in_header (heading m v i ds n)) (arms p []) ≡ some (in_body (heading m v i ds n) u)) × (u.block ≡ w.records) × (u.next ≡ w.next)
    × (complete u.mode u.top.closer ≡ true)
unfolding run complete declared_by
body_goes {m} v i ds n p w e o =
    let g = heading m v i ds n in
    let r = go_arms ds p (level_at at_the_end [] 0) [] [] n [] w refl refl o in
    let u = state ds after (moved (level_at at_the_end [] 0) r.0 r.1) [] w.records w.next in
    (u, early_body v i ds n (arms p []) e (arms_open p []) ∙ body_all g (body_start g) (arms p []) ∙ ap (λ (z : Option State). go_on z λ u. some (in_body g u)) r.2, refl, refl, refl)

-- The outputs may still come.
abbrev not_body : Due → Bool
not_body inputs_due = true
not_body outputs_due = true
not_body body_due = false
not_body version_due = true
not_body number_due = true
not_body version_closed = true
not_body input_name = true
not_body input_named = true
not_body output_name = true
not_body output_named = true

-- The outputs, and then the statement.
outputs_body : {m : Due} (v i : ℕ) (ds es : List Declaration) (n : ℕ) (ys : List (List ℕ)) (p : Arms) (w : Part) → Early m → T (not_body m) → declaring ds n ys ≡ some es
    → arms_means p es (n + length ys) ≡ some w
    → (d : Due) × (u : State) × (read_all (in_header (heading m v i ds n)) (part OUTPUT ys (arms p [])) ≡ some (in_body (heading d v i es (n + length ys)) u))
    × (u.block ≡ w.records) × (u.next ≡ w.next) × (complete u.mode u.top.closer ≡ true)
unfolding part declaring read_all read_step heading_step heading_sign
outputs_body {m} v i ds es n [] p w e f d o =
    let q = one_value d in
    let t = body_goes v i es (n + 0) p w e o in
    (m, t.0, ap₂ (λ (fs : List Declaration) (j : ℕ). read_all (in_header (heading m v i fs j)) (arms p [])) q (sym (add-zero n)) ∙ t.1, t.2, t.3, t.4)
outputs_body v i ds es n (y ∷ ys) p w first f d o =
    let t = body_goes v i es (n + length (y ∷ ys)) p w third o in
    (body_due, t.0, outputs_go ys y v i ds es n (n + length (y ∷ ys)) (arms p []) d (omega arith) ∙ t.1, t.2, t.3, t.4)
outputs_body v i ds es n (y ∷ ys) p w second f d o =
    let t = body_goes v i es (n + length (y ∷ ys)) p w third o in
    (body_due, t.0, outputs_go ys y v i ds es n (n + length (y ∷ ys)) (arms p []) d (omega arith) ∙ t.1, t.2, t.3, t.4)
outputs_body v i ds es n (y ∷ ys) p w third f d o = absurd f

-- The text that a header and a statement make.
module _ (cs : List Declaration) (t : Text) (ds es : List Declaration) (w : Part) (d : declaring cs 0 t.inputs ≡ some ds) (e : declaring ds (length t.inputs) t.outputs ≡ some es)
    (o : arms_means t.body es (length t.inputs + length t.outputs) ≡ some w) where
  inputs_body : (xs : List (List ℕ)) → declaring cs 0 xs ≡ some ds → xs ≡ t.inputs
      → (m : Due) × (u : State) × (read_all (in_header (heading inputs_due t.version 0 cs 0)) (part INPUT xs (part OUTPUT t.outputs (arms t.body [])))
      ≡ some (in_body (heading m t.version (length t.inputs) es (length t.inputs + length t.outputs)) u))
      × (u.block ≡ w.records) × (u.next ≡ w.next) × (complete u.mode u.top.closer ≡ true)
  unfolding part declaring read_all read_step heading_step heading_sign
  inputs_body [] d₁ q =
      let none_there : 0 ≡ length t.inputs = ap (λ (l : List (List ℕ)). length l) q in
      let r = outputs_body t.version (length t.inputs) ds es (length t.inputs) t.outputs t.body w first tt e o in (
        r.0,
        r.1,
        ap₂ (λ (fs : List Declaration) (j : ℕ). read_all (in_header (heading inputs_due t.version j fs j)) (part OUTPUT t.outputs (arms t.body []))) (one_value d₁) none_there ∙ r.2,
        r.3,
        r.4,
        r.5,
      )
  inputs_body (x ∷ xs) d₁ q =
      let count : length t.inputs ≡ suc 0 + length xs = omega (arith, ap (λ (l : List (List ℕ)). length l) q) in
      let r = outputs_body t.version (length t.inputs) ds es (length t.inputs) t.outputs t.body w second tt e o in
      (r.0, r.1, inputs_go xs x t.version 0 cs ds 0 (length t.inputs) (part OUTPUT t.outputs (arms t.body [])) d₁ count ∙ r.2, r.3, r.4, r.5)

abbrev pub blocked : Text → Part → Blocked
blocked t w =
    let i = length t.inputs in
    let o = length t.outputs in
    record { header = record { version = t.version; inputs = i; outputs = o; locals = w.next - (i + o) }; records = w.records }

pub meaning_of : (cs : List Declaration) (t : Text) (ds es : List Declaration) (w : Part) → declaring cs 0 t.inputs ≡ some ds → declaring ds (length t.inputs) t.outputs ≡ some es
    → arms_means t.body es (length t.inputs + length t.outputs) ≡ some w → text_means_with cs t ≡ some (blocked t w)
unfolding text_means_with
meaning_of cs t ds es w d e o =
    let i = length t.inputs in
    let j = length t.inputs + length t.outputs in
    ap (λ (z : Option (List Declaration)). go_on z λ ds. go_on (declaring ds i t.outputs) λ es. go_on (arms_means t.body es j) λ w. some (blocked t w)) d
    ∙ ap (λ (z : Option (List Declaration)). go_on z λ es. go_on (arms_means t.body es j) λ w. some (blocked t w)) e
    ∙ ap (λ (z : Option Part). go_on z λ w. some (blocked t w)) o

-- Every text of the grammar with its names in order is read to its end, and stands for what it means.
pub reads_text : (cs : List Declaration) (t : Text) (b : Blocked) → text_means_with cs t ≡ some b → (q : Reader) × (read_all (begun_with cs) (spelt t) ≡ some q) × (finish q ≡ some b)
unfolding text_means_with spelt read_all read_step heading_step heading_sign heading_number finish
reads_text cs t b m =
    let i = length t.inputs in
    let o = length t.outputs in
    let ds = went_on (declaring cs 0 t.inputs) _ m in
    let es = went_on (declaring ds.0 i t.outputs) _ ds.2 in
    let w = went_on (arms_means t.body es.0 (i + o)) _ es.2 in
    let r = inputs_body cs t ds.0 es.0 w.0 ds.1 es.1 w.1 t.inputs ds.1 refl in
    let u = r.1 in
    let outs : i + o - i ≡ o = omega arith in (
      in_body (heading r.0 t.version i es.0 (i + o)) u,
      r.2,
      ap (λ (z : Bool). cond z (some (record {
        header = record { version = t.version; inputs = i; outputs = i + o - i; locals = u.next - (i + o) };
        records = u.block;
      })) none) r.5
          ∙ (λ c. some (record { header = record { version = t.version; inputs = i; outputs = outs c; locals = r.4 c - (i + o) }; records = r.3 c })) ∙ w.2,
    )

-- And only those are.
pub only_texts : (cs : List Declaration) (ts : List Token) (q : Reader) (b : Blocked) → read_all (begun_with cs) ts ≡ some q → finish q ≡ some b
    → (t : Text) × (ts ≡ spelt t) × (text_means_with cs t ≡ some b)
unfolding spelt
only_texts cs ts q b e f =
    let h = from_header cs ts q e f in
    let n = h.2 in
    let xs = n.goes in
    let ys = xs.goes in
    let p = ys.goes in
    let t : Text = record { version = n.version; inputs = xs.these; outputs = ys.these; body = p.tree } in
    let i : xs.count ≡ length xs.these = omega (arith, xs.counted) in
    let k : ys.count ≡ length xs.these + length ys.these = omega (arith, ys.counted, xs.counted) in
    let outs : declaring xs.later (length xs.these) ys.these ≡ some ys.later = subst (λ (j : ℕ). declaring xs.later j ys.these ≡ some ys.later) i ys.ordered in
    let body : arms_means p.tree ys.later (length xs.these + length ys.these) ≡ some p.means =
    subst (λ (j : ℕ). arms_means p.tree ys.later j ≡ some p.means) k p.ordered in
    let its : ts ≡ spelt t =
    h.1 ∙ ap (λ (l : List Token). sign VERSION ∷ l) (n.its_tokens ∙ ap (λ (l : List Token). number n.version ∷ sign SEMICOLON ∷ l)
    (xs.its_tokens ∙ ap (λ (l : List Token). part INPUT xs.these l) (ys.its_tokens ∙ ap (λ (l : List Token). part OUTPUT ys.these l) p.its_tokens))) in
    let means = meaning_of cs t xs.later ys.later p.means xs.ordered outs body in
    let r = reads_text cs t (blocked t p.means) means in
    let same_end : q ≡ r.0 = one_value (sym e ∙ ap (read_all (begun_with cs)) its ∙ r.1) in
    (t, its, means ∙ sym r.2 ∙ ap finish (sym same_end) ∙ f)
