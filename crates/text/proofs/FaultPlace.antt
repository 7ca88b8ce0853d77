-- The place of 15 is the place at fault: the reading comes as far as the tokens begin some text whose names are in order, and no further.
-- Assumes nothing.
use mathlib.Core.Path.{◌≡◌, refl, sym, ap, ap₂, ◌∙◌, subst}
use mathlib.Core.Bool.{Bool, true, false, cond, ◌&&◌}
use mathlib.Core.List.{List, [], ◌∷◌, ◌++◌, append_assoc, append-nil}
use mathlib.Core.Option.{Option, none, some}
use Prim.Native.Nat.{ℕ, zero, suc, ◌+◌, ◌-◌}
use native.Mathlib.Omega.{arith}
use lib.Dec.{T, eqb, leb}
use lib.ListN.{length, get_or, drop}
use Rattle.text.specs.Tokens.{Token, sign, name, number, no_token, is_letter, is_number, value_from, is_space}
use Rattle.text.specs.Tokens.{in_word, no_keyword, word_or, word_token, word_of, mark_size, keyword_from, keywords}
use Rattle.text.specs.Tokens.{Placed, placed, tokens_of, tokens_placed, NOTHING, VERSION, INPUT, OUTPUT, COMMA, SEMICOLON, BESIDE, is_mark}
use Rattle.text.specs.Meaning.{Declaration, signal_named, declared, go_on, if_new, Blocked}
use Rattle.text.specs.Machine.{State, complete, step, due_step, by_sign}
use Rattle.text.specs.Reader.{Due, version_due, number_due, version_closed, inputs_due, outputs_due, input_name, input_named, output_name, output_named, body_due, Heading, heading}
use Rattle.text.specs.Reader.{Reader, in_header, in_body, body_start, body_step, heading_sign, heading_name, heading_number, heading_step, read_step, read_all, begun, begun_with, finish}
use Rattle.text.specs.Reader.{too_deep, outside, over, at_end, unless_refused, read_placed}
use Rattle.text.specs.Faults.{unwritten, Begins, Ends, Fault, at_token, too_early}
use Rattle.text.proofs.Options.{no_some, went_on, was_new, one_value}
use Rattle.text.proofs.Backward.{either}
use Rattle.text.proofs.Words.{true_so}
use Rattle.text.proofs.Heads.{body_all, Early, first, second, third}
use Rattle.text.proofs.Exactly.{reads_text, only_texts}
use Rattle.text.proofs.Extended.{Writ, wide, widened, wider, AllWrit, all_wide}
use Rattle.text.proofs.GoingOn.{clean, Nest, Sane, step_sane, goes_on, fresh, fresh_new}

-- Only names that can be written are declared.
abbrev Clean : Reader → Type 0
Clean (in_header g) = T (clean g.names)
Clean (in_body g s) = Sane s

clean_by : {r q : Reader} → some r ≡ some q → Clean r → Clean q
clean_by e c = subst Clean (one_value e) c

body_clean : (g : Heading) (s : State) (t : Token) {q : Reader} → Sane s → Writ t → body_step g s t ≡ some q → Clean q
unfolding body_step
body_clean g s t f w e = let u = went_on (step s t) _ e in clean_by u.2 (step_sane s f t w u.1)

start_clean : (g : Heading) (k : ℕ) {q : Reader} → T (clean g.names) → body_step g (body_start g) (sign k) ≡ some q → Clean q
unfolding Nest
start_clean g k c e = body_clean g (body_start g) (sign k) (record { its_header = c; its_levels = (refl, tt) }) tt e

module _ (g : Heading) (c : T (clean g.names)) {q : Reader} where
  still : {m : Due} {v i n : ℕ} → some (in_header (heading m v i g.names n)) ≡ some q → Clean q
  still e = clean_by e c

  sign_clean : (m : Due) (k : ℕ) → heading_sign m g k ≡ some q → Clean q
  unfolding heading_sign
  sign_clean version_due k e = either k VERSION _ _ e (λ z e. still e) λ e. absurd (no_some e)
  sign_clean number_due k e = absurd (no_some e)
  sign_clean version_closed k e = either k SEMICOLON _ _ e (λ z e. still e) λ e. absurd (no_some e)
  sign_clean inputs_due k e = either k INPUT _ _ e (λ z e. still e) λ e. either k OUTPUT _ _ e (λ z e. still e) λ e. start_clean g k c e
  sign_clean outputs_due k e = either k OUTPUT _ _ e (λ z e. still e) λ e. start_clean g k c e
  sign_clean input_name k e = absurd (no_some e)
  sign_clean input_named k e = either k COMMA _ _ e (λ z e. still e) λ e. either k SEMICOLON _ _ e (λ z e. still e) λ e. absurd (no_some e)
  sign_clean output_name k e = absurd (no_some e)
  sign_clean output_named k e = either k COMMA _ _ e (λ z e. still e) λ e. either k SEMICOLON _ _ e (λ z e. still e) λ e. absurd (no_some e)
  sign_clean body_due k e = start_clean g k c e

  named_clean : {m : Due} {v i n : ℕ} (x : List ℕ) → T (is_letter (get_or x 0 0)) → some (in_header (heading m v i (signal_named x g.next ∷ g.names) n)) ≡ some q → Clean q
  named_clean x t e = clean_by e (subst T (sym (ap₂ (λ (y z : Bool). y && z) (true_so (is_letter (get_or x 0 0)) t) (true_so (clean g.names) c))) tt)

  name_clean : (m : Due) (x : List ℕ) → T (is_letter (get_or x 0 0)) → heading_name m g x ≡ some q → Clean q
  unfolding heading_name
  name_clean version_due x t e = absurd (no_some e)
  name_clean number_due x t e = absurd (no_some e)
  name_clean version_closed x t e = absurd (no_some e)
  name_clean inputs_due x t e = absurd (no_some e)
  name_clean outputs_due x t e = absurd (no_some e)
  name_clean input_name x t e = named_clean x t (was_new (declared g.names x) _ e).1
  name_clean input_named x t e = absurd (no_some e)
  name_clean output_name x t e = named_clean x t (was_new (declared g.names x) _ e).1
  name_clean output_named x t e = absurd (no_some e)
  name_clean body_due x t e = absurd (no_some e)

  number_clean : (m : Due) (v : ℕ) → heading_number m g v ≡ some q → Clean q
  unfolding heading_number
  number_clean version_due v e = absurd (no_some e)
  number_clean number_due v e = still e
  number_clean version_closed v e = absurd (no_some e)
  number_clean inputs_due v e = absurd (no_some e)
  number_clean outputs_due v e = absurd (no_some e)
  number_clean input_name v e = absurd (no_some e)
  number_clean input_named v e = absurd (no_some e)
  number_clean output_name v e = absurd (no_some e)
  number_clean output_named v e = absurd (no_some e)
  number_clean body_due v e = absurd (no_some e)

step_clean : (r : Reader) (t : Token) {q : Reader} → Clean r → Writ t → read_step r t ≡ some q → Clean q
unfolding read_step heading_step
step_clean (in_header g) (sign k) c w e = sign_clean g c g.awaits k e
step_clean (in_header g) (name x) c w e = name_clean g c g.awaits x w e
step_clean (in_header g) (number v) c w e = number_clean g c g.awaits v e
step_clean (in_header g) no_token c w e = absurd (no_some e)
step_clean (in_body g s) t c w e = body_clean g s t c w e

all_clean : (ts : List Token) (r : Reader) {q : Reader} → Clean r → AllWrit ts → read_all r ts ≡ some q → Clean q
unfolding read_all AllWrit
all_clean [] r c w e = clean_by e c
all_clean (t ∷ ts) r c w e = let u = went_on (read_step r t) _ e in all_clean ts u.0 (step_clean r t c w.0 u.1) w.1 u.2

-- Some text goes on from wherever the reading has come.
record Continues (r : Reader) : Type 0 where
  tokens : List Token
  last : Reader
  block : Blocked
  reads : read_all r tokens ≡ some last
  ends : finish last ≡ some block

first_token : {r q : Reader} (t : Token) → read_step r t ≡ some q → Continues q → Continues r
unfolding read_all
first_token t e c = record {
  tokens = t ∷ c.tokens;
  last = c.last;
  block = c.block;
  reads = ap (λ (o : Option Reader). go_on o λ q. read_all q c.tokens) e ∙ c.reads;
  ends = c.ends;
}

body_on : (g : Heading) (s : State) → Sane s → Continues (in_body g (wider s))
unfolding finish
body_on g s f =
    let r = goes_on s f in
    record {
      tokens = r.tokens;
      last = in_body g r.last;
      block = _;
      reads = body_all g (wider s) r.tokens ∙ ap (λ (o : Option State). go_on o λ u. some (in_body g u)) r.runs;
      ends = ap (λ (z : Bool). cond z (some (record {
        header = record { version = g.version; inputs = g.inputs; outputs = g.next - g.inputs; locals = r.last.next - g.next };
        records = r.last.block;
      })) none) r.ends;
    }

-- From the header the shortest statement is enough.
nothing_on : {m : Due} (v i : ℕ) (ds : List Declaration) (n : ℕ) → Early m → Continues (in_header (heading m v i ds n))
unfolding read_step heading_step heading_sign body_step step by_sign due_step read_all finish complete
nothing_on v i ds n first = first_token (sign NOTHING) refl (record { tokens = []; last = _; block = _; reads = refl; ends = refl })
nothing_on v i ds n second = first_token (sign NOTHING) refl (record { tokens = []; last = _; block = _; reads = refl; ends = refl })
nothing_on v i ds n third = first_token (sign NOTHING) refl (record { tokens = []; last = _; block = _; reads = refl; ends = refl })

header_on : (m : Due) (v i : ℕ) (ds : List Declaration) (n : ℕ) → Continues (in_header (heading m v i ds n))
unfolding read_step heading_step heading_sign heading_name heading_number
header_on version_due v i ds n =
    first_token (sign VERSION) refl (first_token (number 0) refl (first_token (sign SEMICOLON) refl (nothing_on 0 i ds n first)))
header_on number_due v i ds n = first_token (number 0) refl (first_token (sign SEMICOLON) refl (nothing_on 0 i ds n first))
header_on version_closed v i ds n = first_token (sign SEMICOLON) refl (nothing_on v i ds n first)
header_on inputs_due v i ds n = nothing_on v i ds n first
header_on outputs_due v i ds n = nothing_on v i ds n second
header_on input_name v i ds n =
    let x = fresh ds in
    first_token (name x) (ap (λ (z : Bool). if_new z (some (in_header (heading input_named v i (signal_named x n ∷ ds) (suc n))))) (fresh_new ds))
    (first_token (sign SEMICOLON) refl (nothing_on v (suc n) (signal_named x n ∷ ds) (suc n) second))
header_on input_named v i ds n = first_token (sign SEMICOLON) refl (nothing_on v n ds n second)
header_on output_name v i ds n =
    let x = fresh ds in
    first_token (name x) (ap (λ (z : Bool). if_new z (some (in_header (heading output_named v i (signal_named x n ∷ ds) (suc n))))) (fresh_new ds))
    (first_token (sign SEMICOLON) refl (nothing_on v i (signal_named x n ∷ ds) (suc n) third))
header_on output_named v i ds n = first_token (sign SEMICOLON) refl (nothing_on v i ds n third)
header_on body_due v i ds n = nothing_on v i ds n third

reader_on : (r : Reader) → Clean r → Continues (wide r)
reader_on (in_header g) c = header_on g.awaits g.version g.inputs (g.names ++ unwritten) g.next
reader_on (in_body g s) c = body_on (widened g) s c

read_append : (ts ks : List Token) (r : Reader) → read_all r (ts ++ ks) ≡ go_on (read_all r ts) (λ q. read_all q ks)
unfolding read_all
read_append [] ks r = refl
read_append (t ∷ ts) ks r = go (read_step r t) (λ q. read_append ts ks q)
  where
    go : (o : Option Reader) → ((q : Reader) → read_all q (ts ++ ks) ≡ go_on (read_all q ts) (λ q. read_all q ks))
        → go_on o (λ q. read_all q (ts ++ ks)) ≡ go_on (go_on o λ q. read_all q ts) (λ q. read_all q ks)
    go none ih = refl
    go (some q) ih = ih q

-- The reading comes as far as the tokens begin a text, and no further.
pub begins_where_read : (ts : List Token) (q : Reader) → AllWrit ts → read_all begun ts ≡ some q → Begins ts
begins_where_read ts q w e =
    let c = reader_on q (all_clean ts begun tt w e) in
    let wider_read : read_all (begun_with unwritten) ts ≡ some (wide q) = all_wide ts begun w ∙ ap (λ (o : Option Reader). go_on o λ q. some (wide q)) e in
    let whole = read_append ts c.tokens (begun_with unwritten) ∙ ap (λ (o : Option Reader). go_on o λ q. read_all q c.tokens) wider_read ∙ c.reads in
    let t = only_texts unwritten (ts ++ c.tokens) c.last c.block whole c.ends in
    record { text = t.0; block = c.block; rest = c.tokens; its_tokens = t.1; in_order = t.2 }

pub read_where_begins : (ts : List Token) → AllWrit ts → Begins ts → (q : Reader) × (read_all begun ts ≡ some q)
read_where_begins ts w b =
    let r = reads_text unwritten b.text b.block b.in_order in
    let whole = sym (read_append ts b.rest (begun_with unwritten)) ∙ ap (read_all (begun_with unwritten)) b.its_tokens ∙ r.1 in
    let u = went_on (read_all (begun_with unwritten) ts) _ whole in
    let v = went_on (read_all begun ts) _ (sym (all_wide ts begun w) ∙ u.1) in
    (v.0, v.1)

-- All tokens of a text can be written.
name_writ : (w : List ℕ) (o : Option ℕ) → Writ (word_or w o)
unfolding word_or no_keyword
name_writ w (some k) = tt
name_writ w none = go (is_letter (get_or w 0 0)) (leb (length w) 16) (is_number w) refl
  where
    go : (y l z : Bool) → is_letter (get_or w 0 0) ≡ y → Writ (cond (y && l) (name w) (cond z (number (value_from 0 w)) no_token))
    go true true z e = subst T (sym e) tt
    go true false true e = tt
    go true false false e = tt
    go false l true e = tt
    go false l false e = tt

mark_writ : (b : ℕ) (y z : Bool) → Writ (cond y (sign b) (cond z (sign BESIDE) no_token))
mark_writ b true z = tt
mark_writ b false true = tt
mark_writ b false false = tt

placed_writ : (n at : ℕ) (bs : List ℕ) → AllWrit (tokens_of (placed n at bs))
unfolding placed tokens_of AllWrit word_token
placed_writ zero at bs = tt
placed_writ (suc n) at [] = tt
placed_writ (suc n) at (b ∷ bs) =
    go (is_space b) (in_word b) _ _ _ (placed_writ n (at + 1) bs)
    (name_writ w (keyword_from 0 keywords w), placed_writ n (at + length w) (drop (length w) (b ∷ bs)))
    (mark_writ b (is_mark b) (eqb b BESIDE && eqb (get_or bs 0 0) BESIDE), placed_writ n (at + z) (drop z (b ∷ bs)))
  where
    w : List ℕ
    w = word_of (b ∷ bs)

    z : ℕ
    z = mark_size b bs

    go : (y z : Bool) (u v x : List Placed) → AllWrit (tokens_of u) → AllWrit (tokens_of v) → AllWrit (tokens_of x) → AllWrit (tokens_of (cond y u (cond z v x)))
    go true z u v x a b c = a
    go false true u v x a b c = b
    go false false u v x a b c = c

both_writ : (ts ks : List Token) → AllWrit ts → AllWrit ks → AllWrit (ts ++ ks)
unfolding AllWrit
both_writ [] ks v w = w
both_writ (t ∷ ts) ks v w = (v.0, both_writ ts ks v.1 w)

pub tokens_append : (ps qs : List Placed) → tokens_of (ps ++ qs) ≡ tokens_of ps ++ tokens_of qs
unfolding tokens_of
tokens_append [] qs = refl
tokens_append (p ∷ ps) qs = ap (λ (l : List Token). p.token ∷ l) (tokens_append ps qs)

-- The place that is told is the place at fault.
fault_from : (ps before : List Placed) (r : Reader) (end at : ℕ) → read_all begun (tokens_of before) ≡ some r → AllWrit (tokens_of before) → AllWrit (tokens_of ps)
    → read_placed r ps end ≡ outside at → Fault end (before ++ ps) at
unfolding read_placed tokens_of AllWrit read_all
fault_from [] before r end at e v w f = go (finish r) refl f
  where
    go : (o : Option Blocked) → finish r ≡ o → at_end end o ≡ outside at → Fault end (before ++ []) at
    go (some b) q f = let z : ◌≡◌ {A = ℕ} 0 1 = cc in absurd (omega arith)
    go none q f =
        let same_place : end ≡ at = cc in
        let not_ended : Ends (tokens_of before) → ⊥ =
        λ d. let t = reads_text [] d.text d.block d.in_order in
        let last = one_value (sym e ∙ ap (read_all begun) d.its_tokens ∙ t.1) in
        no_some (sym q ∙ ap finish last ∙ t.2) in
        subst (λ (n : ℕ). Fault end (before ++ []) n) same_place
        (subst (λ (l : List Placed). Fault end l end) (sym (append-nil before)) (too_early before (begins_where_read (tokens_of before) r v e) not_ended))
fault_from (p ∷ ps) before r end at e v w f = go (read_step r p.token) refl f (λ q. fault_from ps (before ++ (p ∷ [])) q end at)
  where
    last : (q : Option Reader) → read_step r p.token ≡ q → read_all begun (tokens_of before ++ (p.token ∷ [])) ≡ go_on q (λ u. some u)
    last q h =
        read_append (tokens_of before) (p.token ∷ []) begun ∙ ap (λ (o : Option Reader). go_on o λ q. read_all q (p.token ∷ [])) e
        ∙ ap (λ (o : Option Reader). go_on o λ u. some u) h

    one_more : AllWrit (tokens_of before ++ (p.token ∷ []))
    one_more = both_writ (tokens_of before) (p.token ∷ []) v (w.0, tt)

    go : (o : Option Reader) → read_step r p.token ≡ o → unless_refused p.place o (λ q. cond (too_deep q) over (read_placed q ps end)) ≡ outside at
        → ((q : Reader) → read_all begun (tokens_of (before ++ (p ∷ []))) ≡ some q → AllWrit (tokens_of (before ++ (p ∷ []))) → AllWrit (tokens_of ps) → read_placed q ps end ≡ outside at
        → Fault end ((before ++ (p ∷ [])) ++ ps) at) → Fault end (before ++ (p ∷ ps)) at
    go none h f ih =
        let same_place : p.place ≡ at = cc in
        let no_further : Begins (tokens_of before ++ (p.token ∷ [])) → ⊥ =
        λ b. let t = read_where_begins (tokens_of before ++ (p.token ∷ [])) one_more b in no_some (sym (last none h) ∙ t.1) in
        subst (λ (n : ℕ). Fault end (before ++ (p ∷ ps)) n) same_place (at_token before p ps (begins_where_read (tokens_of before) r v e) no_further)
    go (some q) h f ih = next (too_deep q) f
      where
        next : (z : Bool) → cond z over (read_placed q ps end) ≡ outside at → Fault end (before ++ (p ∷ ps)) at
        next true f = let z : ◌≡◌ {A = ℕ} 0 1 = cc in absurd (omega arith)
        next false f =
            subst (λ (l : List Placed). Fault end l at) (append_assoc before (p ∷ []) ps)
            (ih q (ap (read_all begun) (tokens_append before (p ∷ [])) ∙ last (some q) h) (subst AllWrit (sym (tokens_append before (p ∷ []))) one_more) w.1 f)

pub place_at_fault : (text : List ℕ) (at : ℕ) → read_placed begun (tokens_placed text) (length text) ≡ outside at → Fault (length text) (tokens_placed text) at
unfolding read_all tokens_of AllWrit
place_at_fault text at e = fault_from (tokens_placed text) [] begun (length text) at refl tt (placed_writ (length text) 0 text) e
