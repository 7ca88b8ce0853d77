-- What a text gets, with places: where it is read to its end it gets what its block gets, also where too many places are open at once,
-- since its block is then over its limits; and only such texts are written as blocks. Assumes nothing.
use mathlib.Core.Path.{◌≡◌, refl, sym, ap, ◌∙◌, subst}
use mathlib.Core.Bool.{Bool, true, false, cond}
use mathlib.Core.Logic.{◌⊎◌, inl, inr, ⊎_elim}
use mathlib.Core.List.{List, [], ◌∷◌, ◌++◌}
use mathlib.Core.Option.{Option, none, some}
use Prim.Native.Nat.{ℕ, ◌+◌, ◌≤◌, ◌<◌}
use native.Mathlib.Omega.{arith}
use borrow.Author.Tests.{lt-ltb}
use lib.Dec.{T, ltb, ltb→lt}
use lib.ListN.{length, length-append}
use Rattle.block.specs.Format.{Reading, turned_down, reading}
use Rattle.writing.specs.Written.{header_bytes}
use Rattle.writing.specs.Answers.{writes, refuses}
use Rattle.text.specs.Tokens.{Token, sign, name, number, no_token, VERSION, INPUT, OUTPUT, COMMA, SEMICOLON, Placed, tokens_of, tokens_placed, tokens}
use Rattle.text.specs.Grammar.{Text, spelt}
use Rattle.text.specs.Meaning.{declared, go_on, Blocked, text_means}
use Rattle.text.specs.Machine.{State, step, complete}
use Rattle.text.specs.Reader.{Due, version_due, number_due, version_closed, inputs_due, outputs_due, input_name, input_named}
use Rattle.text.specs.Reader.{output_name, output_named, body_due, Heading, Reader, in_header, in_body}
use Rattle.text.specs.Reader.{body_start, body_step, heading_sign, heading_name, heading_number, heading_step, read_step, read_all, begun, finish, places, too_deep}
use Rattle.text.specs.Reader.{Outcome, stands, outside, over, at_end, unless_refused, read_placed, checked, block_of, owed, text_read}
use Rattle.text.proofs.Options.{no_some, went_on, was_new, one_value}
use Rattle.text.proofs.Backward.{either}
use Rattle.text.proofs.Depth.{Sparse, no_gap, Spaced, step_grown, many_records}
use Rattle.text.proofs.Exactly.{reads_text, only_texts}

-- How many bytes of records a reader has, and that each open place has its own.
abbrev size : Reader → ℕ
size (in_header g) = 0
size (in_body g s) = length s.block

abbrev Fine : Reader → Type 0
Fine (in_header g) = Unit {0}
Fine (in_body g s) = Sparse s

record Later (r q : Reader) : Type 0 where
  fine : Fine q
  larger : size r ≤ size q

later_by : (r : Reader) {q p : Reader} → some p ≡ some q → Later r p → Later r q
later_by r e g = subst (λ (v : Reader). Later r v) (one_value e) g

body_later : (g : Heading) (s : State) (t : Token) {q : Reader} → Sparse s → body_step g s t ≡ some q → Later (in_body g s) q
unfolding body_step
body_later g s t f e =
    let w = went_on (step s t) _ e in
    let u = step_grown s f t w.1 in
    later_by (in_body g s) w.2 (record { fine = u.sparse; larger = u.longer })

start_later : (g : Heading) (t : Token) {q : Reader} → body_step g (body_start g) t ≡ some q → Later (in_header g) q
unfolding Spaced
start_later g t e =
    let l = body_later g (body_start g) t (record { in_top = no_gap refl; below_top = tt }) e in record { fine = l.fine; larger = omega arith }

module _ (g : Heading) {q : Reader} where
  still : {p : Heading} → some (in_header p) ≡ some q → Later (in_header g) q
  still e = later_by (in_header g) e (record { fine = tt; larger = omega arith })

  sign_later : (m : Due) (k : ℕ) → heading_sign m g k ≡ some q → Later (in_header g) q
  unfolding heading_sign
  sign_later version_due k e = either k VERSION _ _ e (λ z e. still e) λ e. absurd (no_some e)
  sign_later number_due k e = absurd (no_some e)
  sign_later version_closed k e = either k SEMICOLON _ _ e (λ z e. still e) λ e. absurd (no_some e)
  sign_later inputs_due k e = either k INPUT _ _ e (λ z e. still e) λ e. either k OUTPUT _ _ e (λ z e. still e) λ e. start_later g (sign k) e
  sign_later outputs_due k e = either k OUTPUT _ _ e (λ z e. still e) λ e. start_later g (sign k) e
  sign_later input_name k e = absurd (no_some e)
  sign_later input_named k e = either k COMMA _ _ e (λ z e. still e) λ e. either k SEMICOLON _ _ e (λ z e. still e) λ e. absurd (no_some e)
  sign_later output_name k e = absurd (no_some e)
  sign_later output_named k e = either k COMMA _ _ e (λ z e. still e) λ e. either k SEMICOLON _ _ e (λ z e. still e) λ e. absurd (no_some e)
  sign_later body_due k e = start_later g (sign k) e

  name_later : (m : Due) (x : List ℕ) → heading_name m g x ≡ some q → Later (in_header g) q
  unfolding heading_name
  name_later version_due x e = absurd (no_some e)
  name_later number_due x e = absurd (no_some e)
  name_later version_closed x e = absurd (no_some e)
  name_later inputs_due x e = absurd (no_some e)
  name_later outputs_due x e = absurd (no_some e)
  name_later input_name x e = still (was_new (declared g.names x) _ e).1
  name_later input_named x e = absurd (no_some e)
  name_later output_name x e = still (was_new (declared g.names x) _ e).1
  name_later output_named x e = absurd (no_some e)
  name_later body_due x e = absurd (no_some e)

  number_later : (m : Due) (v : ℕ) → heading_number m g v ≡ some q → Later (in_header g) q
  unfolding heading_number
  number_later version_due v e = absurd (no_some e)
  number_later number_due v e = still e
  number_later version_closed v e = absurd (no_some e)
  number_later inputs_due v e = absurd (no_some e)
  number_later outputs_due v e = absurd (no_some e)
  number_later input_name v e = absurd (no_some e)
  number_later input_named v e = absurd (no_some e)
  number_later output_name v e = absurd (no_some e)
  number_later output_named v e = absurd (no_some e)
  number_later body_due v e = absurd (no_some e)

step_later : (r : Reader) (t : Token) {q : Reader} → Fine r → read_step r t ≡ some q → Later r q
unfolding read_step heading_step
step_later (in_header g) (sign k) f e = sign_later g g.awaits k e
step_later (in_header g) (name x) f e = name_later g g.awaits x e
step_later (in_header g) (number v) f e = number_later g g.awaits v e
step_later (in_header g) no_token f e = absurd (no_some e)
step_later (in_body g s) t f e = body_later g s t f e

all_larger : (ts : List Token) (r q : Reader) → Fine r → read_all r ts ≡ some q → size r ≤ size q
unfolding read_all
all_larger [] r q f e = subst (λ (v : Reader). size r ≤ size v) (one_value e) (omega arith)
all_larger (t ∷ ts) r q f e =
    let w = went_on (read_step r t) _ e in
    let l = step_later r t f w.1 in
    let m = all_larger ts w.0 q l.fine w.2 in
    omega (arith, l.larger, m)

finished_size : (q : Reader) (b : Blocked) → finish q ≡ some b → length b.records ≡ size q
unfolding finish
finished_size (in_header g) b e = absurd (no_some e)
finished_size (in_body g s) b e = go (complete s.mode s.top.closer) _ e refl
  where
    go : (z : Bool) (c : Blocked) → cond z (some c) none ≡ some b → c.records ≡ s.block → length b.records ≡ length s.block
    go true c e f = ap (λ (d : Blocked). length d.records) (sym (one_value e)) ∙ ap (λ (l : List ℕ). length l) f
    go false c e f = absurd (no_some e)

-- Too many places open: the block is too long already.
deep_large : (r : Reader) → Fine r → too_deep r ≡ true → 4096 < size r
unfolding too_deep
deep_large (in_header g) f e = let z : ◌≡◌ {A = ℕ} 0 1 = cc in absurd (omega arith)
deep_large (in_body g s) f e =
    let l = ltb→lt 1025 (places s.top.start s.below) (subst T (sym e) tt) in
    omega (arith, l, many_records s f)

-- A text that is read to its end stands for its block, or is over its limits.
abbrev EitherWay : Outcome → Blocked → Type 0
EitherWay o b = (o ≡ stands b) ⊎ ((o ≡ over) × (4096 < length b.records))

reads_either : (ps : List Placed) (r q : Reader) (end : ℕ) (b : Blocked) → Fine r → read_all r (tokens_of ps) ≡ some q → finish q ≡ some b → EitherWay (read_placed r ps end) b
unfolding read_placed read_all tokens_of
reads_either [] r q end b f e g = inl (ap (at_end end) (ap finish (one_value e) ∙ g))
reads_either (p ∷ ps) r q end b f e g =
    let w = went_on (read_step r p.token) _ e in
    let l = step_later r p.token f w.1 in
    let large = all_larger (tokens_of ps) w.0 q l.fine w.2 in
    let n = finished_size q b g in
    subst (λ (o : Outcome). EitherWay o b) (sym (ap (λ (o : Option Reader). unless_refused p.place o λ q. cond (too_deep q) over (read_placed q ps end)) w.1))
    (go w.0 (too_deep w.0) (λ z. let d = deep_large w.0 l.fine z in omega (arith, d, large, n)) (reads_either ps w.0 q end b l.fine w.2 g) refl)
  where
    go : (r₁ : Reader) (z : Bool) → (too_deep r₁ ≡ true → 4096 < length b.records) → EitherWay (read_placed r₁ ps end) b → too_deep r₁ ≡ z
        → EitherWay (cond z over (read_placed r₁ ps end)) b
    go r₁ true h ih e = inr (refl, h e)
    go r₁ false h ih e = ih

-- A block that is too long gets 4 at place 0.
too_long : (b : Blocked) → 4096 < length b.records → block_of b ≡ refuses 4 0
unfolding block_of reading
too_long b l = go (ltb 64 (b.header.inputs + b.header.outputs + b.header.locals))
  where
    bytes : List ℕ
    bytes = header_bytes b.header ++ b.records

    by_size : (x : Reading) (z : Bool) → z ≡ true → checked bytes (cond z (turned_down 4 0) x) ≡ refuses 4 0
    by_size x z e = ap (λ (z : Bool). checked bytes (cond z (turned_down 4 0) x)) e

    go : (z : Bool) → cond z (refuses 4 0) (checked bytes (reading bytes)) ≡ refuses 4 0
    go true = refl
    go false = by_size _ (ltb 3086 (length bytes)) (lt-ltb 3086 (length bytes) (omega (arith, l, length-append (header_bytes b.header) b.records)))

-- The tokens of a text of the grammar with its names in order: the text gets what its block gets.
pub text_gets : (text : List ℕ) (t : Text) (b : Blocked) → tokens text ≡ spelt t → text_means t ≡ some b → text_read text ≡ block_of b
unfolding text_read owed
text_gets text t b e m =
    let r = reads_text [] t b m in
    let i = reads_either (tokens_placed text) begun r.0 (length text) b tt (ap (read_all begun) e ∙ r.1) r.2 in
    ⊎_elim (λ s. ap owed s) (λ s. ap owed s.0 ∙ sym (too_long b s.1)) i

-- What stands for a block was read to its end.
pub stands_read : (ps : List Placed) (r : Reader) (end : ℕ) (b : Blocked) → read_placed r ps end ≡ stands b → (q : Reader) × (read_all r (tokens_of ps) ≡ some q) × (finish q ≡ some b)
unfolding read_placed read_all tokens_of
stands_read [] r end b e = (r, refl, at_the_end (finish r) e)
  where
    at_the_end : (o : Option Blocked) → at_end end o ≡ stands b → o ≡ some b
    at_the_end none e = let z : ◌≡◌ {A = ℕ} 0 1 = cc in absurd (omega arith)
    at_the_end (some c) e = cc
stands_read (p ∷ ps) r end b e = go (read_step r p.token) (λ q. stands_read ps q end b) e
  where
    go : (o : Option Reader) → ((q : Reader) → read_placed q ps end ≡ stands b → (v : Reader) × (read_all q (tokens_of ps) ≡ some v) × (finish v ≡ some b))
        → unless_refused p.place o (λ q. cond (too_deep q) over (read_placed q ps end)) ≡ stands b → (v : Reader) × (go_on o (λ q. read_all q (tokens_of ps)) ≡ some v) × (finish v ≡ some b)
    go none ih e = let z : ◌≡◌ {A = ℕ} 0 1 = cc in absurd (omega arith)
    go (some q) ih e = next (too_deep q) e
      where
        next : (z : Bool) → cond z over (read_placed q ps end) ≡ stands b → (v : Reader) × (read_all q (tokens_of ps) ≡ some v) × (finish v ≡ some b)
        next true e = let z : ◌≡◌ {A = ℕ} 0 1 = cc in absurd (omega arith)
        next false e = ih q e

-- Only texts of the grammar with their names in order are written as blocks, and each as its own block.
pub record OfGrammar (text bs : List ℕ) : Type 0 where
  pub its_text : Text
  pub its_block : Blocked
  pub its_tokens : tokens text ≡ spelt its_text
  pub its_meaning : text_means its_text ≡ some its_block
  pub its_bytes : block_of its_block ≡ writes bs

pub only_grammar : (text bs : List ℕ) → text_read text ≡ writes bs → OfGrammar text bs
unfolding text_read owed
only_grammar text bs e = go (read_placed begun (tokens_placed text) (length text)) refl e
  where
    go : (o : Outcome) → read_placed begun (tokens_placed text) (length text) ≡ o → owed o ≡ writes bs → OfGrammar text bs
    go (stands b) q e =
        let r = stands_read (tokens_placed text) begun (length text) b q in
        let t = only_texts [] (tokens text) r.0 b r.1 r.2 in
        record { its_text = t.0; its_block = b; its_tokens = t.1; its_meaning = t.2; its_bytes = e }
    go (outside at) q e = let z : ◌≡◌ {A = ℕ} 0 1 = cc in absurd (omega arith)
    go over q e = let z : ◌≡◌ {A = ℕ} 0 1 = cc in absurd (omega arith)

-- A text that is found outside is no text of the grammar with its names in order.
pub outside_none : (text : List ℕ) (at : ℕ) → read_placed begun (tokens_placed text) (length text) ≡ outside at → (t : Text) (b : Blocked) → tokens text ≡ spelt t → text_means t ≡ some b → ⊥
outside_none text at e t b s m =
    let r = reads_text [] t b m in
    let i = reads_either (tokens_placed text) begun r.0 (length text) b tt (ap (read_all begun) s ∙ r.1) r.2 in
    ⊎_elim (λ (q : _). not_both (sym e ∙ q)) (λ (q : _). not_over (sym e ∙ q.0)) i
  where
    not_both : {c : Blocked} → outside at ≡ stands c → ⊥
    not_both e = let z : ◌≡◌ {A = ℕ} 0 1 = cc in omega arith

    not_over : outside at ≡ over → ⊥
    not_over e = let z : ◌≡◌ {A = ℕ} 0 1 = cc in omega arith

-- Too many places open: some tokens at the front were read, and by then the block is too long.
record Deep (r : Reader) (ts : List Token) : Type 0 where
  before : List Token
  behind : List Token
  parted : ts ≡ before ++ behind
  reader : Reader
  was_read : read_all r before ≡ some reader
  its_fine : Fine reader
  too_large : 4096 < size reader

over_read : (ps : List Placed) (r : Reader) (end : ℕ) → Fine r → read_placed r ps end ≡ over → Deep r (tokens_of ps)
unfolding read_placed read_all tokens_of
over_read [] r end f e = absurd (at_the_end (finish r) e)
  where
    at_the_end : (o : Option Blocked) → at_end end o ≡ over → ⊥
    at_the_end none e = let z : ◌≡◌ {A = ℕ} 0 1 = cc in omega arith
    at_the_end (some c) e = let z : ◌≡◌ {A = ℕ} 0 1 = cc in omega arith
over_read (p ∷ ps) r end f e = go (read_step r p.token) refl (λ q g. over_read ps q end g) e
  where
    go : (o : Option Reader) → read_step r p.token ≡ o → ((q : Reader) → Fine q → read_placed q ps end ≡ over → Deep q (tokens_of ps))
        → unless_refused p.place o (λ q. cond (too_deep q) over (read_placed q ps end)) ≡ over → Deep r (p.token ∷ tokens_of ps)
    go none s ih e = let z : ◌≡◌ {A = ℕ} 0 1 = cc in absurd (omega arith)
    go (some q) s ih e = next (too_deep q) refl e
      where
        l : Later r q
        l = step_later r p.token f s

        next : (z : Bool) → too_deep q ≡ z → cond z over (read_placed q ps end) ≡ over → Deep r (p.token ∷ tokens_of ps)
        next true d e = record {
          before = p.token ∷ [];
          behind = tokens_of ps;
          parted = refl;
          reader = q;
          was_read = ap (λ (o : Option Reader). go_on o λ v. some v) s;
          its_fine = l.fine;
          too_large = deep_large q l.fine d;
        }
        next false d e =
            let w = ih q l.fine e in
            record {
              before = p.token ∷ w.before;
              behind = w.behind;
              parted = ap (λ (ts : List Token). p.token ∷ ts) w.parted;
              reader = w.reader;
              was_read = ap (λ (o : Option Reader). go_on o λ v. read_all v w.before) s ∙ w.was_read;
              its_fine = w.its_fine;
              too_large = w.too_large;
            }

-- Tokens read one part after the other.
read_on : (ts us : List Token) (r q : Reader) → read_all r ts ≡ some q → read_all r (ts ++ us) ≡ read_all q us
unfolding read_all
read_on [] us r q e = ap (λ (v : Reader). read_all v us) (one_value e)
read_on (t ∷ ts) us r q e =
    let w = went_on (read_step r t) _ e in
    ap (λ (o : Option Reader). go_on o λ v. read_all v (ts ++ us)) w.1 ∙ read_on ts us w.0 q w.2

-- Where 4 is told there and then, the text begins so that every text with its names in order that begins so stands for over 4,096 bytes of records.
pub record TooManyOpen (ts : List Token) : Type 0 where
  pub before : List Token
  pub behind : List Token
  pub parted : ts ≡ before ++ behind
  pub over_its_limits : (t : Text) (b : Blocked) (more : List Token) → spelt t ≡ before ++ more → text_means t ≡ some b → 4096 < length b.records

pub over_means : (text : List ℕ) → read_placed begun (tokens_placed text) (length text) ≡ over → TooManyOpen (tokens text)
over_means text e =
    let d = over_read (tokens_placed text) begun (length text) tt e in
    record {
      before = d.before;
      behind = d.behind;
      parted = d.parted;
      over_its_limits = λ t b more s m.
          let r = reads_text [] t b m in
          let all = sym (read_on d.before more begun d.reader d.was_read) ∙ ap (read_all begun) (sym s) ∙ r.1 in
          let large = all_larger more d.reader r.0 d.its_fine all in
          let n = finished_size r.0 b r.2 in
          omega (arith, d.too_large, large, n);
    }
