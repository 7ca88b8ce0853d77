-- One token of a whole text on what the code holds: in the header the names before a place grow with each name, and in the statement the header's
-- names and the count of signals stay as they were or grow. Assumes nothing.
use mathlib.Core.Path.{◌≡◌, refl, sym, ap, ap₂, ◌∙◌, subst, subst⁻¹}
use mathlib.Core.Bool.{Bool, true, false, cond}
use mathlib.Core.List.{List, [], ◌∷◌}
use mathlib.Core.Option.{Option, none, some}
use Rattle.std.specs.Prelude.{Result, Ok, Err, Option as Returned, Some, None}
use mathlib.Core.Logic.{◌⊎◌, inl, inr}
use Prim.Native.Nat.{ℕ, suc, ◌+◌, ◌≤◌, ◌<◌}
use native.Mathlib.Omega.{arith}
use borrow.Author.Tests.{lt-ltb}
use lib.Dec.{eqb}
use lib.ListN.{length}
use Rattle.text.specs.Tokens.{Token, sign, name, number, no_token, NOTHING, PAUSE, EMIT, PRESENT, THEN, ELSE, END, SUSPEND, WHEN, LOOP, TRAP, IN, EXIT, SIGNAL, SEMICOLON, BRACKET, CLOSED, BESIDE}
use Rattle.text.specs.Meaning.{Declaration, signal_named, declared, go_on, if_new, signal_in, depth_in}
use Rattle.text.specs.Machine.{Closer, at_the_end, by_else, by_end, by_when, by_bracket, Level, State, state, popped, due_step, closed, after_step, by_sign, by_name, step, around, opened, put}
use Rattle.text.specs.Machine.{Mode, due, after, emit_name, exit_name, present_name, trap_name, signal_name, when_name, then_due, in_due}
use Rattle.text.specs.Reader.{Due, version_due, number_due, version_closed, inputs_due, outputs_due, input_name, input_named, output_name, output_named, body_due}
use Rattle.text.specs.Reader.{Heading, heading, Reader, in_header, in_body, named, body_start, body_step, heading_name, heading_number, heading_step, read_step, places, too_deep}
use Rattle.text.specs.Coded.{from_kind, tokens_from}
use Rattle.text.specs.declared.tokens.Token.{Token as CodedToken}
use Rattle.text.specs.declared.tokens.Kind.{Kind}
use Rattle.text.specs.declared.tokens.Kind.TheVariants.{Sign, Name, Number, Nothing as NoToken, End}
use Rattle.text.proofs.Views.{Here, here}
use Rattle.read_steps.specs.Levels.{levels_in}
use Rattle.read_steps.specs.Found.{word_at, opens, and_named, and_counted, names_until, header_names}
use Rattle.read_steps.specs.Moves.{mode_of, closer_of}
use Rattle.read_text.specs.Heads.{awaits_of, due_of, head_sign, headed}
use Rattle.read_steps.specs.Holding.{level_of, around_it, levels_of, Course, state_of, Rising, KeptAll, codes, FreshIn, FreshAt, Holds, Steps, faulted, went, burst, Takes}
use Rattle.read_text.specs.Reading.{Ahead, token_of, Headed, InHeader, InBody, Reads, of_header, of_body, Goes, turned_away, went_on, overflowed, first_stage, first_course}
use Rattle.read_text.specs.Reading.{HeadTakes, Leads, after_name, in_statement, BodyTakes, TakesAny, Ready}
use Rattle.read_steps.specs.declared.levels.Level.{Level as CodeLevel}
use Rattle.read_steps.specs.declared.steps.Stage.{Stage}
use Rattle.read_steps.specs.declared.steps.Fault.{Fault}
use Rattle.read_steps.specs.declared.steps.Fault.TheVariants.{Grammar}
use Rattle.read_text.specs.declared.heading.Awaits.{Awaits}
use Rattle.read_text.specs.declared.heading.Awaits.TheVariants.{NumberDue, VersionClosed, OutputsDue, InputNamed, OutputNamed, Statement}
use Rattle.read_text.specs.declared.heading.Lead.{Lead}
use Rattle.read_text.specs.declared.heading.Lead.TheVariants.{Fault as NoLead, Next, InputsEnd, Body}
use Rattle.read_text.specs.declared.heading.Reader.{Reader as CodeReader}
use Rattle.read_steps.proofs.FoundLaws.{until_here, until_past}
use Rattle.read_text.proofs.HeadLaws.{sign_headed}
use Rattle.read_steps.proofs.StepLaws.{held_on}

-- A step keeps the header's names, and counts no signal away.
data KeptOn (s : State) : Option State → Type 0 where
  nowhere : KeptOn s none
  onward : {q : State} → q.header ≡ s.header → s.next ≤ q.next → KeptOn s (some q)

module _ {s : State} where
  same : {m : Mode} {l : Level} {ls : List Level} {b : List ℕ} → KeptOn s (some (state s.header m l ls b s.next))
  same {m} {l} {ls} {b} = onward {q = state s.header m l ls b s.next} refl (omega arith)

  either : (z : Bool) {a b : Option State} → KeptOn s a → KeptOn s b → KeptOn s (cond z a b)
  either true a b = a
  either false a b = b

  each : (o : Option ℕ) {f : ℕ → Option State} → ((n : ℕ) → KeptOn s (f n)) → KeptOn s (go_on o f)
  each none k = nowhere
  each (some n) k = k n

  where_new : (z : Bool) {o : Option State} → KeptOn s o → KeptOn s (if_new z o)
  where_new true k = nowhere
  where_new false k = k

  pop_keeps : (ls : List Level) (m : Mode) → KeptOn s (popped ls s m)
  unfolding popped
  pop_keeps [] m = nowhere
  pop_keeps (l ∷ ls) m = same

  due_keeps : (k : ℕ) → KeptOn s (due_step s k)
  unfolding due_step
  due_keeps k =
      either (eqb k NOTHING) same (either (eqb k PAUSE) same (either (eqb k EMIT) same (either (eqb k EXIT) same (either (eqb k PRESENT) same
      (either (eqb k TRAP) same (either (eqb k SIGNAL) same (either (eqb k SUSPEND) same (either (eqb k LOOP) same (either (eqb k BRACKET) same
      nowhere)))))))))

  closed_keeps : (c : Closer) (k : ℕ) → KeptOn s (closed c s k)
  unfolding closed
  closed_keeps at_the_end k = nowhere
  closed_keeps by_else k = either (eqb k ELSE) same nowhere
  closed_keeps by_end k = either (eqb k END) (pop_keeps s.below after) nowhere
  closed_keeps by_when k = either (eqb k WHEN) (pop_keeps s.below when_name) nowhere
  closed_keeps by_bracket k = either (eqb k CLOSED) (pop_keeps s.below after) nowhere

  sign_keeps : (m : Mode) (k : ℕ) → KeptOn s (by_sign m s k)
  unfolding by_sign after_step
  sign_keeps due k = due_keeps k
  sign_keeps after k = either (eqb k SEMICOLON) same (either (eqb k BESIDE) same (closed_keeps s.top.closer k))
  sign_keeps emit_name k = nowhere
  sign_keeps exit_name k = nowhere
  sign_keeps present_name k = nowhere
  sign_keeps trap_name k = nowhere
  sign_keeps signal_name k = nowhere
  sign_keeps when_name k = nowhere
  sign_keeps then_due k = either (eqb k THEN) same nowhere
  sign_keeps in_due k = either (eqb k IN) same nowhere

  name_keeps : (m : Mode) (x : List ℕ) → KeptOn s (by_name m s x)
  unfolding by_name
  name_keeps due x = nowhere
  name_keeps after x = nowhere
  name_keeps emit_name x = each (signal_in (around s) x) (λ n. same)
  name_keeps exit_name x = each (depth_in (around s) x) (λ n. same)
  name_keeps present_name x = each (signal_in (around s) x) (λ n. same)
  name_keeps trap_name x = where_new (declared (around s) x) same
  name_keeps signal_name x = where_new (declared (around s) x) (onward {q = opened (put s 26 s.next due) by_end (signal_named x s.next ∷ []) (suc s.next) in_due} refl (omega arith))
  name_keeps when_name x = each (signal_in (around s) x) (λ n. same)
  name_keeps then_due x = nowhere
  name_keeps in_due x = nowhere

  step_keeps : (t : Token) → KeptOn s (step s t)
  unfolding step
  step_keeps (sign k) = sign_keeps s.mode k
  step_keeps (name x) = name_keeps s.mode x
  step_keeps (number v) = nowhere
  step_keeps no_token = nowhere

-- Over 1,024 places.
many_deep : (g : Heading) (u : State) → 1025 < places u.top.start u.below → too_deep (in_body g u) ≡ true
unfolding too_deep
many_deep g u l = lt-ltb 1025 (places u.top.start u.below) l

-- The header's numbers stay while the statement is read.
same_numbers : {r : CodeReader} {g : Heading} {a : Awaits} {e : ℕ} {s : Stage} → Headed r g
    → Headed (record { awaits = a; version = r.version; inputs = r.inputs; signals = r.signals; end = e; stage = s }) g
same_numbers h = record { its_version = h.its_version; its_inputs = h.its_inputs; its_signals = h.its_signals; few_inputs = h.few_inputs }

abbrev staged : CodeReader → Stage → CodeReader
staged r s = record { awaits = r.awaits; version = r.version; inputs = r.inputs; signals = r.signals; end = r.end; stage = s }

-- The reader with what a step of the statement gives.
unfoldable pub with_stage : CodeReader → Result Stage Fault → Result CodeReader Fault
with_stage r (Ok s) = Ok (staged r s)
with_stage r (Err f) = Err f

module _ {text : List ℕ} {levels : List CodeLevel} {out : List ℕ} {at : ℕ} {r : CodeReader} {g : Heading} {c : Course} (h : InBody text levels out at r g c) {levels' : List CodeLevel} {out' : List ℕ}
    (to : ℕ) (l : at + 1 ≤ to) where
  kept_body : {s : Stage} (q : Course) → KeptOn (state_of text c) (some (state_of text q)) → Holds levels' out' (at + 1) s q → InBody text levels' out' to (staged r s) g q
  unfolding state_of
  kept_body q (onward a b) k = record {
    its_awaits = h.its_awaits;
    numbers = same_numbers h.numbers;
    more_signals = omega (arith, h.more_signals, b);
    its_names = a ∙ h.its_names;
    holds = held_on l k;
  }

  goes_body : {a : Result Stage Fault} {o : Option State} → Steps text a (Holds levels' out' (at + 1)) o → KeptOn (state_of text c) o
      → Goes (with_stage r a) (Reads text levels' out' to) (go_on o λ u. some (in_body g u))
  unfolding with_stage
  goes_body (faulted e) k = turned_away (ap (with_stage r) e)
  goes_body (went q e b) k = went_on (in_body g (state_of text q)) (ap (with_stage r) e) (of_body g q (kept_body q k b))
  goes_body (burst {q = u} e b) k = overflowed (in_body g u) (ap (with_stage r) e) (many_deep g u b)

pub body_taken : {text : List ℕ} {levels : List CodeLevel} {out : List ℕ} {r : CodeReader} {t : CodedToken} {levels' : List CodeLevel} {out' : List ℕ} {a : Result Stage Fault} {q : Result CodeReader Fault} → Takes text r.end levels out r.stage t levels' out' a
    → q ≡ with_stage r a → BodyTakes text levels out r t levels' out' q
unfolding body_step
body_taken {text} {levels} {out} {r} {t} {levels'} {out'} d e = subst⁻¹ (BodyTakes text levels out r t levels' out') e (record {
  takes = λ at to g c h l. goes_body h to l (d.takes at c h.holds h.its_names) (step_keeps (token_of text t));
})

-- The version, where its number is awaited.
version_read : (d : Due) (g : Heading) (v : ℕ) → awaits_of d ≡ NumberDue → heading_number d g v ≡ some (in_header (heading version_closed v g.inputs g.names g.next))
unfolding awaits_of heading_number
version_read version_due g v e = let y : ◌≡◌ {A = ℕ} 0 1 = cc in absurd (omega arith)
version_read number_due g v e = refl
version_read version_closed g v e = let y : ◌≡◌ {A = ℕ} 0 1 = cc in absurd (omega arith)
version_read inputs_due g v e = let y : ◌≡◌ {A = ℕ} 0 1 = cc in absurd (omega arith)
version_read outputs_due g v e = let y : ◌≡◌ {A = ℕ} 0 1 = cc in absurd (omega arith)
version_read input_name g v e = let y : ◌≡◌ {A = ℕ} 0 1 = cc in absurd (omega arith)
version_read input_named g v e = let y : ◌≡◌ {A = ℕ} 0 1 = cc in absurd (omega arith)
version_read output_name g v e = let y : ◌≡◌ {A = ℕ} 0 1 = cc in absurd (omega arith)
version_read output_named g v e = let y : ◌≡◌ {A = ℕ} 0 1 = cc in absurd (omega arith)
version_read body_due g v e = let y : ◌≡◌ {A = ℕ} 0 1 = cc in absurd (omega arith)

no_version : (d : Due) (g : Heading) (v : ℕ) → (awaits_of d ≡ NumberDue → ⊥) → heading_number d g v ≡ none
unfolding awaits_of heading_number
no_version version_due g v f = refl
no_version number_due g v f = absurd (f refl)
no_version version_closed g v f = refl
no_version inputs_due g v f = refl
no_version outputs_due g v f = refl
no_version input_name g v f = refl
no_version input_named g v f = refl
no_version output_name g v f = refl
no_version output_named g v f = refl
no_version body_due g v f = refl

-- A name, where one is awaited.
no_name_due : (d : Due) (g : Heading) (x : List ℕ) → after_name (awaits_of d) ≡ None → heading_name d g x ≡ none
unfolding awaits_of after_name heading_name
no_name_due version_due g x e = refl
no_name_due number_due g x e = refl
no_name_due version_closed g x e = refl
no_name_due inputs_due g x e = refl
no_name_due outputs_due g x e = refl
no_name_due input_name g x e = let y : ◌≡◌ {A = ℕ} 0 1 = cc in absurd (omega arith)
no_name_due input_named g x e = refl
no_name_due output_name g x e = let y : ◌≡◌ {A = ℕ} 0 1 = cc in absurd (omega arith)
no_name_due output_named g x e = refl
no_name_due body_due g x e = refl

name_due : (d : Due) (g : Heading) (x : List ℕ) {n : Awaits} → after_name (awaits_of d) ≡ Some n → (awaits_of (due_of n) ≡ n) × (heading_name d g x ≡ named g (due_of n) x)
unfolding awaits_of due_of after_name heading_name
name_due version_due g x e = let y : ◌≡◌ {A = ℕ} 0 1 = cc in absurd (omega arith)
name_due number_due g x e = let y : ◌≡◌ {A = ℕ} 0 1 = cc in absurd (omega arith)
name_due version_closed g x e = let y : ◌≡◌ {A = ℕ} 0 1 = cc in absurd (omega arith)
name_due inputs_due g x e = let y : ◌≡◌ {A = ℕ} 0 1 = cc in absurd (omega arith)
name_due outputs_due g x e = let y : ◌≡◌ {A = ℕ} 0 1 = cc in absurd (omega arith)
name_due input_name g x {n} e =
    let same : InputNamed ≡ n = cc in
    subst (λ (m : Awaits). (awaits_of (due_of m) ≡ m) × (heading_name input_name g x ≡ named g (due_of m) x)) same (refl, refl)
name_due input_named g x e = let y : ◌≡◌ {A = ℕ} 0 1 = cc in absurd (omega arith)
name_due output_name g x {n} e =
    let same : OutputNamed ≡ n = cc in
    subst (λ (m : Awaits). (awaits_of (due_of m) ≡ m) × (heading_name output_name g x ≡ named g (due_of m) x)) same (refl, refl)
name_due output_named g x e = let y : ◌≡◌ {A = ℕ} 0 1 = cc in absurd (omega arith)
name_due body_due g x e = let y : ◌≡◌ {A = ℕ} 0 1 = cc in absurd (omega arith)

-- One token of the header.
module _ {text : List ℕ} {levels : List CodeLevel} {out : List ℕ} {at : ℕ} {r : CodeReader} {g : Heading} (h : InHeader text levels out at r g) {t : CodedToken} (a : Ahead text at t) where
  abbrev its_token : Token
  its_token = token_of text t

  seen : Here text at t
  seen = here text at a.front a.inside

  -- The names before it, and those behind it.
  pub names_here : header_names text t.start ≡ g.names
  names_here =
      h.names_so_far t.start seen.later ∙ ap (names_until t.start g.names g.next) seen.first_of
      ∙ until_past t.start g.names g.next (record { place = t.start; token = its_token }) (tokens_from text t.end) (omega arith)

  names_on : (to : ℕ) → t.end ≤ to
      → header_names text to ≡ names_until to (and_named its_token g.next g.names) (and_counted its_token g.next) (tokens_from text t.end)
  names_on to l =
      h.names_so_far to (omega (arith, seen.later, seen.longer, l)) ∙ ap (names_until to g.names g.next) seen.first_of
      ∙ until_here to g.names g.next (record { place = t.start; token = its_token }) (tokens_from text t.end) (omega (arith, seen.longer, l))

  still_header : {q : CodeReader} (m : Due) (v i : ℕ) (ds : List Declaration) (n : ℕ) → and_named its_token g.next g.names ≡ ds → and_counted its_token g.next ≡ n → n ≤ suc g.next
      → q.awaits ≡ awaits_of m → q.version ≡ v → q.inputs ≡ i → q.signals ≡ n → i ≤ n → InHeader text levels out t.end q (heading m v i ds n)
  still_header m v i ds n e f u w x y z b = record {
    its_room = h.its_room;
    its_awaits = w;
    numbers = record { its_version = x; its_inputs = y; its_signals = z; few_inputs = b };
    few_signals = omega (arith, h.few_signals, u, seen.later, seen.longer);
    names_so_far = λ to l. names_on to l ∙ ap₂ (λ (ds : List Declaration) (n : ℕ). names_until to ds n (tokens_from text t.end)) e f;
  }

  -- A sign declares nothing.
  sign_token : {k : ℕ} → t.kind ≡ Sign k → (and_named its_token g.next g.names ≡ g.names) × (and_counted its_token g.next ≡ g.next)
  unfolding from_kind
  sign_token e =
      subst (λ (k : Kind). (and_named (from_kind k (word_at text t.start)) g.next g.names ≡ g.names) × (and_counted (from_kind k (word_at text t.start)) g.next ≡ g.next))
      (sym e) (refl, refl)

  abbrev Held : CodeReader → Reader → Type 0
  Held q x = Reads text levels out t.end q x

  lead_inputs : {k : ℕ} → t.kind ≡ Sign k
      → Goes (Ok (record { awaits = OutputsDue; version = r.version; inputs = r.signals; signals = r.signals; end = r.end; stage = r.stage })) Held (headed g k InputsEnd)
  unfolding headed awaits_of
  lead_inputs p =
      let s = sign_token p in
      went_on _ refl (of_header _ (still_header outputs_due g.version g.next g.names g.next s.0 s.1 (omega arith) refl h.numbers.its_version h.numbers.its_signals
      h.numbers.its_signals (omega arith)))

  lead_on : {k : ℕ} → t.kind ≡ Sign k → {n : Awaits} → awaits_of (due_of n) ≡ n
      → Goes (Ok (record { awaits = n; version = r.version; inputs = r.inputs; signals = r.signals; end = r.end; stage = r.stage })) Held (headed g k (Next n))
  unfolding headed
  lead_on p {n} e =
      let s = sign_token p in
      went_on _ refl (of_header _ (still_header (due_of n) g.version g.inputs g.names g.next s.0 s.1 (omega arith) (sym e) h.numbers.its_version h.numbers.its_inputs
      h.numbers.its_signals h.numbers.few_inputs))

  -- The version.
  module _ {v : ℕ} (k : t.kind ≡ Number v) where
    number_token : its_token ≡ number v
    unfolding from_kind
    number_token = ap (λ (j : Kind). from_kind j (word_at text t.start)) k

    by_number : {o : Option Reader} → heading_number g.awaits g v ≡ o → read_step (in_header g) its_token ≡ o
    unfolding read_step heading_step
    by_number e = ap (heading_step g) number_token ∙ e

    pub number_taken : r.awaits ≡ NumberDue
        → Goes (Ok (record { awaits = VersionClosed; version = v; inputs = r.inputs; signals = r.signals; end = r.end; stage = r.stage })) Held (read_step (in_header g) its_token)
    unfolding awaits_of
    number_taken e =
        let new : CodeReader = record { awaits = VersionClosed; version = v; inputs = r.inputs; signals = r.signals; end = r.end; stage = r.stage } in
        subst (Goes (Ok new) Held) (sym (by_number (version_read g.awaits g v (sym h.its_awaits ∙ e))))
        (went_on _ refl (of_header _ (still_header version_closed v g.inputs g.names g.next (ap (λ (x : Token). and_named x g.next g.names) number_token)
        (ap (λ (x : Token). and_counted x g.next) number_token) (omega arith) refl refl h.numbers.its_inputs h.numbers.its_signals h.numbers.few_inputs)))

    pub number_fault : (r.awaits ≡ NumberDue → ⊥) → Goes (Err Grammar) Held (read_step (in_header g) its_token)
    number_fault f = subst (Goes (Err Grammar) Held) (sym (by_number (no_version g.awaits g v (λ e. f (h.its_awaits ∙ e))))) (turned_away refl)

  -- A name.
  module _ (k : t.kind ≡ Name) where
    abbrev word : List ℕ
    word = word_at text t.start

    name_token : its_token ≡ name word
    unfolding from_kind
    name_token = ap (λ (j : Kind). from_kind j word) k

    by_name_read : {o : Option Reader} → heading_name g.awaits g word ≡ o → read_step (in_header g) its_token ≡ o
    unfolding read_step heading_step
    by_name_read e = ap (heading_step g) name_token ∙ e

    named_next : {o : Returned Awaits} → after_name r.awaits ≡ o → after_name (awaits_of g.awaits) ≡ o
    named_next e = ap after_name (sym h.its_awaits) ∙ e

    pub name_fault : after_name r.awaits ≡ None → Goes (Err Grammar) Held (read_step (in_header g) its_token)
    name_fault e = subst (Goes (Err Grammar) Held) (sym (by_name_read (no_name_due g.awaits g word (named_next e)))) (turned_away refl)

    pub name_again : {n : Awaits} → after_name r.awaits ≡ Some n → declared (header_names text t.start) word ≡ true → Goes (Err Grammar) Held (read_step (in_header g) its_token)
    name_again {n} e d =
        let m = name_due g.awaits g word (named_next e) in
        let old : declared g.names word ≡ true = ap (λ (ds : List Declaration). declared ds word) (sym names_here) ∙ d in
        subst (Goes (Err Grammar) Held) (sym (by_name_read (m.1 ∙ ap (λ (y : Bool). if_new y (some (in_header (heading (due_of n) g.version g.inputs
        (signal_named word g.next ∷ g.names) (suc g.next))))) old))) (turned_away refl)

    pub name_taken : {n : Awaits} → after_name r.awaits ≡ Some n → declared (header_names text t.start) word ≡ false → {j : ℕ} → j ≡ r.signals + 1
        → Goes (Ok (record { awaits = n; version = r.version; inputs = r.inputs; signals = j; end = r.end; stage = r.stage })) Held (read_step (in_header g) its_token)
    name_taken {n} e d {j} f =
        let m = name_due g.awaits g word (named_next e) in
        let new : CodeReader = record { awaits = n; version = r.version; inputs = r.inputs; signals = j; end = r.end; stage = r.stage } in
        let fresh : declared g.names word ≡ false = ap (λ (ds : List Declaration). declared ds word) (sym names_here) ∙ d in
        subst (Goes (Ok new) Held) (sym (by_name_read (m.1 ∙ ap (λ (y : Bool). if_new y (some (in_header (heading (due_of n) g.version g.inputs
        (signal_named word g.next ∷ g.names) (suc g.next))))) fresh)))
        (went_on _ refl (of_header _ (still_header (due_of n) g.version g.inputs (signal_named word g.next ∷ g.names) (suc g.next)
        (ap (λ (x : Token). and_named x g.next g.names) name_token) (ap (λ (x : Token). and_counted x g.next) name_token) (omega arith) (sym m.0) h.numbers.its_version
        h.numbers.its_inputs (omega (arith, f, h.numbers.its_signals)) (omega (arith, h.numbers.few_inputs)))))

  -- The statement begins with it.
  pub body_begun : InBody text levels out at (in_statement r t.start (first_stage r.signals)) g
      (first_course g)
  unfolding mode_of codes levels_in Rising FreshIn FreshAt KeptAll
  body_begun = record {
    its_awaits = refl;
    numbers = same_numbers h.numbers;
    more_signals = omega arith;
    its_names = sym names_here;
    holds = record {
      its_mode = refl;
      its_next = h.numbers.its_signals;
      few_locals = omega (arith, h.few_signals, h.numbers.its_signals);
      its_top = refl;
      its_levels = refl;
      few_levels = omega arith;
      rising = tt;
      begun = omega arith;
      its_fresh = (refl, refl, refl);
      written = record { roomy = h.its_room; counted = λ _. refl; held = λ _. refl; over = λ l. absurd (omega (arith, l)) };
      kept = (record { start_is = λ _. refl; arm_is = λ _. refl; link_is = λ _. refl; few_brackets = omega arith }, tt);
    };
  }

first_state : (text : List ℕ) (g : Heading) → state_of text (first_course g) ≡ body_start g
unfolding state_of level_of around_it levels_of opens closer_of
first_state text g = refl

-- One token, wherever the reader is.
pub no_start : (d : Due) → awaits_of d ≡ Statement → ⊥
unfolding awaits_of
no_start version_due e = let y : ◌≡◌ {A = ℕ} 0 1 = cc in omega arith
no_start number_due e = let y : ◌≡◌ {A = ℕ} 0 1 = cc in omega arith
no_start version_closed e = let y : ◌≡◌ {A = ℕ} 0 1 = cc in omega arith
no_start inputs_due e = let y : ◌≡◌ {A = ℕ} 0 1 = cc in omega arith
no_start outputs_due e = let y : ◌≡◌ {A = ℕ} 0 1 = cc in omega arith
no_start input_name e = let y : ◌≡◌ {A = ℕ} 0 1 = cc in omega arith
no_start input_named e = let y : ◌≡◌ {A = ℕ} 0 1 = cc in omega arith
no_start output_name e = let y : ◌≡◌ {A = ℕ} 0 1 = cc in omega arith
no_start output_named e = let y : ◌≡◌ {A = ℕ} 0 1 = cc in omega arith
no_start body_due e = let y : ◌≡◌ {A = ℕ} 0 1 = cc in omega arith

no_token_read : (x : Reader) → read_step x no_token ≡ none
unfolding read_step heading_step body_step step
no_token_read (in_header g) = refl
no_token_read (in_body g s) = refl

-- A sign in the header.
module _ (text : List ℕ) (r : CodeReader) (t : CodedToken) {k : ℕ} (p : t.kind ≡ Sign k) where
  sign_of : token_of text t ≡ sign k
  unfolding from_kind
  sign_of = ap (λ (j : Kind). from_kind j (word_at text t.start)) p

  sign_read : (g : Heading) → r.awaits ≡ awaits_of g.awaits → {n : Lead} → n ≡ head_sign r.awaits k → read_step (in_header g) (token_of text t) ≡ headed g k n
  unfolding read_step heading_step
  sign_read g e {n} f = ap (heading_step g) sign_of ∙ sym (sign_headed g.awaits g k) ∙ sym (ap (headed g k) (f ∙ ap (λ (d : Awaits). head_sign d k) e))

  pub sign_takes : {q : Result CodeReader Fault} {n : Lead} → n ≡ head_sign r.awaits k → Leads r n q → HeadTakes text r t q
  sign_takes {q} f d = record { takes = λ at g h a. subst (Goes q (Reads text _ _ t.end)) (sym (sign_read g h.its_awaits f)) (d.leads at g t h a p) }

-- The leads of the table.
pub leads_away : (r : CodeReader) → Leads r NoLead (Err Grammar)
unfolding headed
leads_away r = record { leads = λ at g t h a p. turned_away refl }

pub leads_on : (r : CodeReader) {n : Awaits} → awaits_of (due_of n) ≡ n
    → Leads r (Next n) (Ok (record { awaits = n; version = r.version; inputs = r.inputs; signals = r.signals; end = r.end; stage = r.stage }))
leads_on r e = record { leads = λ at g t h a p. lead_on h a p e }

pub leads_inputs : (r : CodeReader)
    → Leads r InputsEnd (Ok (record { awaits = OutputsDue; version = r.version; inputs = r.signals; signals = r.signals; end = r.end; stage = r.stage }))
leads_inputs r = record { leads = λ at g t h a p. lead_inputs h a p }

module _ {text : List ℕ} {levels : List CodeLevel} {out : List ℕ} {r : CodeReader} {t : CodedToken} where
  pub takes_none : (t.kind ≡ NoToken) ⊎ (t.kind ≡ End) → TakesAny text levels out r t levels out (Err Grammar)
  unfolding from_kind
  takes_none o = record { takes = λ at x h a. away x (none o) }
    where
      none : (t.kind ≡ NoToken) ⊎ (t.kind ≡ End) → token_of text t ≡ no_token
      none (inl e) = ap (λ (k : Kind). from_kind k (word_at text t.start)) e
      none (inr e) = ap (λ (k : Kind). from_kind k (word_at text t.start)) e

      away : (x : Reader) → token_of text t ≡ no_token → Goes (Err Grammar) (Reads text levels out t.end) (read_step x (token_of text t))
      away x e = subst (Goes (Err Grammar) (Reads text levels out t.end)) (sym (ap (read_step x) e ∙ no_token_read x)) (turned_away refl)

  head_on : {q : Result CodeReader Fault} → (r.awaits ≡ Statement → ⊥) → HeadTakes text r t q → {at : ℕ} {x : Reader} → Reads text levels out at r x → Ahead text at t
      → Goes q (Reads text levels out t.end) (read_step x (token_of text t))
  head_on z d {at} (of_header g h) a = d.takes at g h a
  head_on z d (of_body g c h) a = absurd (z h.its_awaits)

  pub takes_head : {q : Result CodeReader Fault} → (r.awaits ≡ Statement → ⊥) → HeadTakes text r t q → TakesAny text levels out r t levels out q
  takes_head z d = record { takes = λ at x h a. head_on z d h a }

module _ {text : List ℕ} {levels : List CodeLevel} {out : List ℕ} {r : CodeReader} {t : CodedToken} {levels' : List CodeLevel} {out' : List ℕ} where
  body_on : {q : Result CodeReader Fault} → r.awaits ≡ Statement → BodyTakes text levels out r t levels' out' q → {at : ℕ} {x : Reader} → Reads text levels out at r x → Ahead text at t
      → Goes q (Reads text levels' out' t.end) (read_step x (token_of text t))
  unfolding read_step
  body_on z d (of_header g h) a = absurd (no_start g.awaits (sym h.its_awaits ∙ z))
  body_on z d {at} (of_body g c h) a =
      let s = here text at a.front a.inside in
      d.takes at t.end g c h (omega (arith, s.later, s.longer))

  pub takes_body : {q : Result CodeReader Fault} → r.awaits ≡ Statement → BodyTakes text levels out r t levels' out' q → TakesAny text levels out r t levels' out' q
  takes_body z d = record { takes = λ at x h a. body_on z d h a }

  -- The statement's first sign.
  module _ {k : ℕ} {n : Lead} (p : t.kind ≡ Sign k) (f : n ≡ head_sign r.awaits k) (e : n ≡ Body) where
    begin_on : {q : Result CodeReader Fault}
        → BodyTakes text levels out (in_statement r t.start (first_stage r.signals)) t levels' out' q
        → (r.awaits ≡ Statement → ⊥) → {at : ℕ} {x : Reader} → Reads text levels out at r x → Ahead text at t
        → Goes q (Reads text levels' out' t.end) (read_step x (token_of text t))
    unfolding headed
    begin_on {q} d z {at} (of_header g h) a =
        let s = here text at a.front a.inside in
        let tok : token_of text t ≡ sign k = sign_of text r t p in
        subst (Goes q (Reads text levels' out' t.end))
        (ap₂ (λ (u : State) (z : Token). body_step g u z) (first_state text g) tok ∙ sym (sign_read text r t p g h.its_awaits f ∙ ap (headed g k) e))
        (d.takes at t.end g (first_course g) (body_begun h a) (omega (arith, s.later, s.longer)))
    begin_on d z (of_body g c h) a = absurd (z h.its_awaits)

    pub takes_first : {q : Result CodeReader Fault} {r' : CodeReader} → r' ≡ in_statement r t.start (first_stage r.signals)
        → BodyTakes text levels out r' t levels' out' q → (r.awaits ≡ Statement → ⊥) → TakesAny text levels out r t levels' out' q
    takes_first {q} m d z =
        let d' = subst (λ (x : CodeReader). BodyTakes text levels out x t levels' out' q) m d in
        record { takes = λ at x h a. begin_on d' z h a }

-- What the calls ask for: counts are no more than the bytes that were read, and these are fewer than the text has.
pub record Asked (out : List ℕ) (s : Stage) : Type 0 where
  pub out_len : length out ≡ 3092
  pub next_bound : s.next < 18446744073709551615
  pub brackets_bound : s.top.brackets < 18446744073709551615
  pub depth_bound : s.depth ≤ 1024

few_read : {text : List ℕ} {at : ℕ} {t : CodedToken} → Ahead text at t → length text < 18446744073709551616 → at < 18446744073709551615
few_read {text} {at} a m = let s = here text at a.front a.inside in omega (arith, s.later, a.inside, m)

module _ {text : List ℕ} {levels : List CodeLevel} {out : List ℕ} {at : ℕ} {r : CodeReader} {t : CodedToken} (a : Ahead text at t) (m : length text < 18446744073709551616) where
  body_asked : {x : Reader} → Reads text levels out at r x → r.awaits ≡ Statement → Asked out r.stage
  unfolding KeptAll
  body_asked (of_header g h) z = absurd (no_start g.awaits (sym h.its_awaits ∙ z))
  body_asked (of_body g c h) z =
      let f = few_read a m in
      let s = h.holds in
      let b : c.here.code.brackets ≡ r.stage.top.brackets = ap (λ (l : CodeLevel). l.brackets) s.its_top in
      record {
        out_len = s.written.roomy;
        next_bound = omega (arith, s.few_locals, f);
        brackets_bound = omega (arith, s.kept.0.few_brackets, b, f);
        depth_bound = s.few_levels;
      }

  head_asked : {x : Reader} → Reads text levels out at r x → (r.awaits ≡ Statement → ⊥) → (length out ≡ 3092) × (r.signals < 18446744073709551615)
  head_asked (of_header g h) z = let f = few_read a m in (h.its_room, omega (arith, h.few_signals, h.numbers.its_signals, f))
  head_asked (of_body g c h) z = absurd (z h.its_awaits)

module _ {text : List ℕ} {levels : List CodeLevel} {out : List ℕ} {r : CodeReader} {t : CodedToken} (w : Ready text levels out r t) (m : length text < 18446744073709551616) where
  pub body_asks : r.awaits ≡ Statement → Asked out r.stage
  body_asks z = body_asked w.ahead m w.reads z

  pub name_asks : (r.awaits ≡ Statement → ⊥) → r.signals < 18446744073709551615
  name_asks z = (head_asked w.ahead m w.reads z).1

  pub first_asks : (r.awaits ≡ Statement → ⊥) → {r' : CodeReader} → r' ≡ in_statement r t.start (first_stage r.signals) → Asked out r'.stage
  first_asks z e =
      let k = head_asked w.ahead m w.reads z in
      subst (λ (x : CodeReader). Asked out x.stage) (sym e) (record { out_len = k.0; next_bound = k.1; brackets_bound = omega arith; depth_bound = omega arith })
