-- The header's tokens, forward and backward: the reading of a part takes its names in their order, and it ends well only on such a part.
-- Assumes nothing.
use mathlib.Core.Path.{◌≡◌, refl, sym, ap, ap₂, ◌∙◌, subst, subst₂}
use mathlib.Core.Bool.{Bool, true, false, cond}
use mathlib.Core.List.{List, [], ◌∷◌}
use mathlib.Core.Option.{Option, none, some}
use Prim.Native.Nat.{ℕ, suc, ◌+◌}
use native.Mathlib.Omega.{arith}
use lib.Dec.{T, eqb, eqb→eq}
use lib.ListN.{length}
use Rattle.text.specs.Tokens.{Token, sign, name, number, no_token, VERSION, INPUT, OUTPUT, COMMA, SEMICOLON}
use Rattle.text.specs.Grammar.{Arms, arms, names, part}
use Rattle.text.specs.Meaning.{Declaration, signal_named, declared, go_on, if_new, Part, Blocked, declaring, arms_means}
use Rattle.text.specs.Machine.{State, step, run, complete}
use Rattle.text.specs.Reader.{Due, version_due, number_due, version_closed, inputs_due, outputs_due, input_name, input_named, output_name, output_named, body_due, Heading, heading, Reader}
use Rattle.text.specs.Reader.{in_header, in_body, body_start, body_step, heading_sign, heading_name, heading_number, heading_step, read_step, read_all, begun_with, finish}
use Rattle.text.proofs.Options.{no_some, went_on, was_new, one_value}
use Rattle.text.proofs.OneReading.{first_sign, opens}
use Rattle.text.proofs.Backward.{either, spells_some}

-- In the statement the reader is the machine.
pub body_all : (g : Heading) (s : State) (ts : List Token) → read_all (in_body g s) ts ≡ go_on (run s ts) (λ u. some (in_body g u))
unfolding read_all read_step body_step run
body_all g s [] = refl
body_all g s (t ∷ ts) = go (step s t) (λ u. body_all g u ts)
  where
    go : (o : Option State) → ((u : State) → read_all (in_body g u) ts ≡ go_on (run u ts) (λ v. some (in_body g v)))
        → go_on (go_on o λ u. some (in_body g u)) (λ q. read_all q ts) ≡ go_on (go_on o λ u. run u ts) (λ u. some (in_body g u))
    go none ih = refl
    go (some u) ih = ih u

-- Where the statement may begin.
pub data Early : Due → Type 0 where
  first : Early inputs_due
  second : Early outputs_due
  third : Early body_due

not_opening : (j k : ℕ) → T (opens j) → opens k ≡ false → eqb j k ≡ false
not_opening j k o f = go (eqb j k) refl
  where
    go : (z : Bool) → eqb j k ≡ z → eqb j k ≡ false
    go true q = absurd (subst T f (subst (λ (n : ℕ). T (opens n)) (eqb→eq j k (subst T (sym q) tt)) o))
    go false q = q

pub early_body : {m : Due} (v i : ℕ) (ds : List Declaration) (n : ℕ) (ts : List Token) → Early m → T (opens (first_sign ts))
    → read_all (in_header (heading m v i ds n)) ts ≡ read_all (in_body (heading m v i ds n) (body_start (heading m v i ds n))) ts
unfolding read_all read_step heading_step heading_sign
early_body v i ds n [] e o = absurd o
early_body v i ds n (name x ∷ ts) e o = absurd o
early_body v i ds n (number x ∷ ts) e o = absurd o
early_body v i ds n (no_token ∷ ts) e o = absurd o
early_body v i ds n (sign k ∷ ts) first o =
    let g = heading inputs_due v i ds n in
    let body = body_step g (body_start g) (sign k) in
    let next : Option Reader = some (in_header (heading output_name v i ds n)) in
    ap (λ (z : Bool). go_on (cond z (some (in_header (heading input_name v i ds n))) (cond (eqb k OUTPUT) next body)) (λ q. read_all q ts)) (not_opening k INPUT o refl)
    ∙ ap (λ (z : Bool). go_on (cond z next body) (λ q. read_all q ts)) (not_opening k OUTPUT o refl)
early_body v i ds n (sign k ∷ ts) second o =
    let g = heading outputs_due v i ds n in
    ap (λ (z : Bool). go_on (cond z (some (in_header (heading output_name v i ds n))) (body_step g (body_start g) (sign k))) (λ q. read_all q ts)) (not_opening k OUTPUT o refl)
early_body v i ds n (sign k ∷ ts) third o = refl

-- A name of the header that is new.
new_named : {z : Bool} (r : Reader) (ts : List Token) → z ≡ false → go_on (if_new z (some r)) (λ q. read_all q ts) ≡ read_all r ts
new_named r ts e = ap (λ (z : Bool). go_on (if_new z (some r)) (λ q. read_all q ts)) e

pub inputs_go : (xs : List (List ℕ)) (x : List ℕ) (v i : ℕ) (ds es : List Declaration) (n j : ℕ) (k : List Token) → declaring ds n (x ∷ xs) ≡ some es → j ≡ suc n + length xs
    → read_all (in_header (heading input_name v i ds n)) (names x xs k) ≡ read_all (in_header (heading outputs_due v j es j)) k
unfolding names declaring read_all read_step heading_step heading_sign heading_name
inputs_go [] x v i ds es n j k e q =
    let w = was_new (declared ds x) _ e in
    let c : suc n ≡ j = omega (arith, q) in
    new_named (in_header (heading input_named v i (signal_named x n ∷ ds) (suc n))) (sign SEMICOLON ∷ k) w.0
    ∙ ap₂ (λ (m : ℕ) (fs : List Declaration). read_all (in_header (heading outputs_due v m fs m)) k) c (one_value w.1)
inputs_go (y ∷ xs) x v i ds es n j k e q =
    let w = was_new (declared ds x) _ e in
    new_named (in_header (heading input_named v i (signal_named x n ∷ ds) (suc n))) (sign COMMA ∷ names y xs k) w.0
    ∙ inputs_go xs y v i (signal_named x n ∷ ds) es (suc n) j k w.1 (omega (arith, q))

pub outputs_go : (xs : List (List ℕ)) (x : List ℕ) (v i : ℕ) (ds es : List Declaration) (n j : ℕ) (k : List Token) → declaring ds n (x ∷ xs) ≡ some es → j ≡ suc n + length xs
    → read_all (in_header (heading output_name v i ds n)) (names x xs k) ≡ read_all (in_header (heading body_due v i es j)) k
unfolding names declaring read_all read_step heading_step heading_sign heading_name
outputs_go [] x v i ds es n j k e q =
    let w = was_new (declared ds x) _ e in
    let c : suc n ≡ j = omega (arith, q) in
    new_named (in_header (heading output_named v i (signal_named x n ∷ ds) (suc n))) (sign SEMICOLON ∷ k) w.0
    ∙ ap₂ (λ (m : ℕ) (fs : List Declaration). read_all (in_header (heading body_due v i fs m)) k) c (one_value w.1)
outputs_go (y ∷ xs) x v i ds es n j k e q =
    let w = was_new (declared ds x) _ e in
    new_named (in_header (heading output_named v i (signal_named x n ∷ ds) (suc n))) (sign COMMA ∷ names y xs k) w.0
    ∙ outputs_go xs y v i (signal_named x n ∷ ds) es (suc n) j k w.1 (omega (arith, q))

-- Backward: names of a part, and what follows them.
pub record Body (ds : List Declaration) (n : ℕ) (ts : List Token) : Type 0 where
  pub tree : Arms
  pub means : Part
  pub its_tokens : ts ≡ arms tree []
  pub ordered : arms_means tree ds n ≡ some means

pub record Listed (K : List Declaration → ℕ → List Token → Type 0) (spell : List (List ℕ) → List Token → List Token) (ds : List Declaration) (n : ℕ) (ts : List Token) : Type 0 where
  pub these : List (List ℕ)
  pub later : List Declaration
  pub count : ℕ
  pub rest : List Token
  pub its_tokens : ts ≡ spell these rest
  pub ordered : declaring ds n these ≡ some later
  pub counted : count ≡ n + length these
  pub goes : K later count rest

-- Behind a name: a semicolon, or a comma and more names.
abbrev more : List (List ℕ) → List Token → List Token
more [] k = sign SEMICOLON ∷ k
more (x ∷ xs) k = sign COMMA ∷ names x xs k

record Naming (K : List Declaration → ℕ → List Token → Type 0) (ds : List Declaration) (n : ℕ) (ts : List Token) : Type 0 where
  its_name : List ℕ
  rest : List Token
  its_tokens : ts ≡ name its_name ∷ rest
  is_new : declared ds its_name ≡ false
  goes : Listed K more (signal_named its_name n ∷ ds) (suc n) rest

-- The names from the first on.
all_names : (x : List ℕ) (xs : List (List ℕ)) (k : List Token) {ts r : List Token} → ts ≡ name x ∷ r → r ≡ more xs k → ts ≡ names x xs k
unfolding names
all_names x [] k e f = e ∙ ap (λ (l : List Token). name x ∷ l) f
all_names x (y ∷ ys) k e f = e ∙ ap (λ (l : List Token). name x ∷ l) f

-- A part with at least one name.
part_of : (s : ℕ) (K : List Declaration → ℕ → List Token → Type 0) (ds : List Declaration) (n k : ℕ) (ts : List Token) → k ≡ s → Naming K ds n ts → Listed K (part s) ds n (sign k ∷ ts)
unfolding part declaring names
part_of s K ds n k ts q g = record {
  these = g.its_name ∷ g.goes.these;
  later = g.goes.later;
  count = g.goes.count;
  rest = g.goes.rest;
  its_tokens = ap₂ (λ (x : ℕ) (l : List Token). sign x ∷ l) q (all_names g.its_name g.goes.these g.goes.rest g.its_tokens g.goes.its_tokens);
  ordered = ap (λ (z : Bool). if_new z (declaring (signal_named g.its_name n ∷ ds) (suc n) g.goes.these)) g.is_new ∙ g.goes.ordered;
  counted = omega (arith, g.goes.counted);
  goes = g.goes.goes;
}

-- A part that is left out; a name and what follows; a comma and more names; the semicolon.
left_out : (s : ℕ) (K : List Declaration → ℕ → List Token → Type 0) (ds : List Declaration) (n : ℕ) (ts : List Token) → K ds n ts → Listed K (part s) ds n ts
unfolding part declaring
left_out s K ds n ts g = record { these = []; later = ds; count = n; rest = ts; its_tokens = refl; ordered = refl; counted = omega arith; goes = g }

a_comma : (K : List Declaration → ℕ → List Token → Type 0) (ds : List Declaration) (n k : ℕ) (ts : List Token) → k ≡ COMMA → Naming K ds n ts → Listed K more ds n (sign k ∷ ts)
unfolding names declaring
a_comma K ds n k ts q g = record {
  these = g.its_name ∷ g.goes.these;
  later = g.goes.later;
  count = g.goes.count;
  rest = g.goes.rest;
  its_tokens = ap₂ (λ (x : ℕ) (l : List Token). sign x ∷ l) q (all_names g.its_name g.goes.these g.goes.rest g.its_tokens g.goes.its_tokens);
  ordered = ap (λ (z : Bool). if_new z (declaring (signal_named g.its_name n ∷ ds) (suc n) g.goes.these)) g.is_new ∙ g.goes.ordered;
  counted = omega (arith, g.goes.counted);
  goes = g.goes.goes;
}

a_semicolon : (K : List Declaration → ℕ → List Token → Type 0) (ds : List Declaration) (n k : ℕ) (ts : List Token) → k ≡ SEMICOLON → K ds n ts → Listed K more ds n (sign k ∷ ts)
unfolding declaring
a_semicolon K ds n k ts q g = record {
  these = [];
  later = ds;
  count = n;
  rest = ts;
  its_tokens = ap (λ (x : ℕ). sign x ∷ ts) q;
  ordered = refl;
  counted = omega arith;
  goes = g;
}

-- What is left of a text, from what may stand next in its header.
abbrev Outs : List Declaration → ℕ → List Token → Type 0
Outs ds n ts = Listed Body (part OUTPUT) ds n ts

abbrev Ins : List Declaration → ℕ → List Token → Type 0
Ins ds n ts = Listed Outs (part INPUT) ds n ts

pub record Numbered (es : List Declaration) (ts : List Token) : Type 0 where
  pub version : ℕ
  pub rest : List Token
  pub its_tokens : ts ≡ number version ∷ sign SEMICOLON ∷ rest
  pub goes : Ins es 0 rest

Heads : List Declaration → Due → List Declaration → ℕ → List Token → Type 0
Heads es version_due ds n ts = (u : List Token) × (ts ≡ sign VERSION ∷ u) × ((ds ≡ es) × (n ≡ 0) → Numbered es u)
Heads es number_due ds n ts = (ds ≡ es) × (n ≡ 0) → Numbered es ts
Heads es version_closed ds n ts = (u : List Token) × (ts ≡ sign SEMICOLON ∷ u) × Ins ds n u
Heads es inputs_due ds n ts = Ins ds n ts
Heads es outputs_due ds n ts = Outs ds n ts
Heads es input_name ds n ts = Naming Outs ds n ts
Heads es input_named ds n ts = Listed Outs more ds n ts
Heads es output_name ds n ts = Naming Body ds n ts
Heads es output_named ds n ts = Listed Body more ds n ts
Heads es body_due ds n ts = Body ds n ts

abbrev Unread : List Declaration → Reader → List Token → Type 0
Unread es (in_header g) ts = Heads es g.awaits g.names g.next ts
Unread es (in_body g s) ts = (u : State) × (run s ts ≡ some u) × (complete u.mode u.top.closer ≡ true)

unread_by : (es : List Declaration) (ts : List Token) {r q : Reader} → some r ≡ some q → Unread es q ts → Unread es r ts
unread_by es ts e g = subst (λ (v : Reader). Unread es v ts) (sym (one_value e)) g

-- The body's first token.
body_before : (es : List Declaration) (g : Heading) (q : Reader) (k : ℕ) (ts : List Token) → body_step g (body_start g) (sign k) ≡ some q → Unread es q ts → Body g.names g.next (sign k ∷ ts)
unfolding body_step run
body_before es g q k ts e f =
    let w = went_on (step (body_start g) (sign k)) _ e in
    let r = unread_by es ts w.2 f in
    let there : run (body_start g) (sign k ∷ ts) ≡ some r.0 = ap (λ (o : Option State). go_on o λ u. run u ts) w.1 ∙ r.1 in
    let t = spells_some (sign k ∷ ts) g.names 0 [] g.next r.0 there r.2 in
    record { tree = t.0; means = t.1; its_tokens = t.2; ordered = t.3 }

module _ (es : List Declaration) (g : Heading) (q : Reader) (ts : List Token) where
  heading_before : (m : Due) (k : ℕ) → heading_sign m g k ≡ some q → Unread es q ts → Heads es m g.names g.next (sign k ∷ ts)
  unfolding heading_sign Heads
  heading_before version_due k e f =
      either k VERSION _ _ e (λ p e. (ts, ap (λ (x : ℕ). sign x ∷ ts) p, unread_by es ts e f)) λ e. absurd (no_some e)
  heading_before number_due k e f = absurd (no_some e)
  heading_before version_closed k e f =
      either k SEMICOLON _ _ e (λ p e. (ts, ap (λ (x : ℕ). sign x ∷ ts) p, unread_by es ts e f)) λ e. absurd (no_some e)
  heading_before inputs_due k e f =
      either k INPUT _ _ e (λ p e. part_of INPUT Outs g.names g.next k ts p (unread_by es ts e f)) λ e. left_out INPUT Outs g.names g.next (sign k ∷ ts)
      (either k OUTPUT _ _ e (λ p e. part_of OUTPUT Body g.names g.next k ts p (unread_by es ts e f)) λ e.
      left_out OUTPUT Body g.names g.next (sign k ∷ ts) (body_before es g q k ts e f))
  heading_before outputs_due k e f =
      either k OUTPUT _ _ e (λ p e. part_of OUTPUT Body g.names g.next k ts p (unread_by es ts e f)) λ e.
      left_out OUTPUT Body g.names g.next (sign k ∷ ts) (body_before es g q k ts e f)
  heading_before input_name k e f = absurd (no_some e)
  heading_before input_named k e f =
      either k COMMA _ _ e (λ p e. a_comma Outs g.names g.next k ts p (unread_by es ts e f)) λ e.
      either k SEMICOLON _ _ e (λ p e. a_semicolon Outs g.names g.next k ts p (unread_by es ts e f)) λ e. absurd (no_some e)
  heading_before output_name k e f = absurd (no_some e)
  heading_before output_named k e f =
      either k COMMA _ _ e (λ p e. a_comma Body g.names g.next k ts p (unread_by es ts e f)) λ e.
      either k SEMICOLON _ _ e (λ p e. a_semicolon Body g.names g.next k ts p (unread_by es ts e f)) λ e. absurd (no_some e)
  heading_before body_due k e f = body_before es g q k ts e f

  named_before : (m : Due) (x : List ℕ) → heading_name m g x ≡ some q → Unread es q ts → Heads es m g.names g.next (name x ∷ ts)
  unfolding heading_name Heads
  named_before version_due x e f = absurd (no_some e)
  named_before number_due x e f = absurd (no_some e)
  named_before version_closed x e f = absurd (no_some e)
  named_before inputs_due x e f = absurd (no_some e)
  named_before outputs_due x e f = absurd (no_some e)
  named_before input_name x e f =
      let w = was_new (declared g.names x) _ e in record { its_name = x; rest = ts; its_tokens = refl; is_new = w.0; goes = unread_by es ts w.1 f }
  named_before input_named x e f = absurd (no_some e)
  named_before output_name x e f =
      let w = was_new (declared g.names x) _ e in record { its_name = x; rest = ts; its_tokens = refl; is_new = w.0; goes = unread_by es ts w.1 f }
  named_before output_named x e f = absurd (no_some e)
  named_before body_due x e f = absurd (no_some e)

  numbered_before : (m : Due) (v : ℕ) → heading_number m g v ≡ some q → Unread es q ts → Heads es m g.names g.next (number v ∷ ts)
  unfolding heading_number Heads
  numbered_before version_due v e f = absurd (no_some e)
  numbered_before number_due v e f =
      let r = unread_by es ts e f in
      λ z. record {
        version = v;
        rest = r.0;
        its_tokens = ap (λ (l : List Token). number v ∷ l) r.1;
        goes = subst₂ (λ (ds : List Declaration) (n : ℕ). Ins ds n r.0) z.0 z.1 r.2;
      }
  numbered_before version_closed v e f = absurd (no_some e)
  numbered_before inputs_due v e f = absurd (no_some e)
  numbered_before outputs_due v e f = absurd (no_some e)
  numbered_before input_name v e f = absurd (no_some e)
  numbered_before input_named v e f = absurd (no_some e)
  numbered_before output_name v e f = absurd (no_some e)
  numbered_before output_named v e f = absurd (no_some e)
  numbered_before body_due v e f = absurd (no_some e)

step_before : (es : List Declaration) (r q : Reader) (t : Token) (ts : List Token) → read_step r t ≡ some q → Unread es q ts → Unread es r (t ∷ ts)
unfolding read_step heading_step body_step run
step_before es (in_header g) q (sign k) ts e f = heading_before es g q ts g.awaits k e f
step_before es (in_header g) q (name x) ts e f = named_before es g q ts g.awaits x e f
step_before es (in_header g) q (number v) ts e f = numbered_before es g q ts g.awaits v e f
step_before es (in_header g) q no_token ts e f = absurd (no_some e)
step_before es (in_body g s) q t ts e f =
    let w = went_on (step s t) _ e in
    let r = unread_by es ts w.2 f in
    (r.0, ap (λ (o : Option State). go_on o λ u. run u ts) w.1 ∙ r.1, r.2)

-- A text that is read to its end is unread from its beginning.
all_before : (es : List Declaration) (ts : List Token) (r q : Reader) {b : Blocked} → read_all r ts ≡ some q → finish q ≡ some b → Unread es r ts
unfolding read_all finish run
all_before es [] r (in_header g) e f = absurd (no_some f)
all_before es [] r (in_body g s) {b} e f = unread_by es [] e (s, refl, done (complete s.mode s.top.closer) _ f)
  where
    done : (z : Bool) (o : Option Blocked) → cond z o none ≡ some b → z ≡ true
    done true o f = refl
    done false o f = absurd (no_some f)
all_before es (t ∷ ts) r q e f = let w = went_on (read_step r t) _ e in step_before es r w.0 t ts w.1 (all_before es ts w.0 q w.2 f)

pub from_header : (es : List Declaration) (ts : List Token) (q : Reader) {b : Blocked} → read_all (begun_with es) ts ≡ some q → finish q ≡ some b
    → (u : List Token) × (ts ≡ sign VERSION ∷ u) × Numbered es u
unfolding Heads
from_header es ts q e f = let h = all_before es ts (begun_with es) q e f in (h.0, h.1, h.2 (refl, refl))
