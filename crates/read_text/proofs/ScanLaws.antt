-- The loop over a text: the outcome of the whole is that of the reader so far on the tokens that are left. Assumes nothing.
use mathlib.Core.Path.{◌≡◌, refl, sym, ap, ap₂, ◌∙◌, subst}
use mathlib.Core.Bool.{Bool, true, false, cond, not}
use mathlib.Core.List.{List, []}
use mathlib.Core.Option.{Option, none, some}
use Rattle.std.specs.Prelude.{Result, Ok, Err}
use Rattle.std.specs.Result.{MatchResult, IsErrAnd}
use Rattle.std.proofs.lemmas.Result.{err_from_is_err_and}
use Rattle.refusals.specs.declared.Refused.{Refused}
use Prim.Native.Nat.{ℕ, ◌-◌, ◌≤◌, ◌<◌}
use native.Mathlib.Omega.{arith}
use denote.Enum.Bare.{sameb}
use Rattle.read_steps.specs.contracts.modes.Mode.{the_type as ModeType}
use Rattle.read_steps.specs.contracts.levels.Scope.{the_type as ScopeType}
use Rattle.read_text.specs.contracts.heading.Awaits.{the_type as AwaitsType}
use lib.ListN.{length}
use Rattle.text.specs.Tokens.{Placed, tokens_placed}
use Rattle.text.specs.Machine.{Closer, Mode}
use Rattle.text.specs.Machine.{is_outermost, complete}
use Rattle.text.specs.Reader.{Due, number_due, version_closed, inputs_due, outputs_due, input_name, input_named, output_name, output_named, body_due, Heading, heading, version_due, Reader, in_body, begun, finish, too_deep, places, read_step, read_placed, unless_refused, at_end, Outcome, stands, over}
use Rattle.text.specs.Coded.{FrontAt, past_spaces, tokens_from}
use Rattle.text.specs.declared.tokens.Token.{Token as CodedToken}
use Rattle.text.proofs.Views.{here, none_here}
use Rattle.read_steps.specs.Moves.{mode_of, closer_of}
use Rattle.read_text.specs.Heads.{awaits_of}
use Rattle.read_steps.specs.Holding.{Course, state_of, closer_in}
use Rattle.read_text.specs.Ending.{blocked}
use Rattle.read_text.specs.Reading.{Ahead, token_of, Headed, InBody, Reads, of_header, of_body, Goes, turned_away, went_on, overflowed, first_reader, TakesAny, Ready, begun_already, behind_one, all_closed, may_end}
use Rattle.read_steps.specs.declared.steps.Fault.{Fault}
use Rattle.read_steps.specs.declared.steps.Fault.TheVariants.{Grammar, Deep}
use Rattle.read_text.specs.Reading.{refused_as, Scanned, stood, was_outside, was_over}
use Rattle.read_steps.specs.declared.levels.Level.{Level as CodeLevel}
use Rattle.read_steps.specs.declared.modes.Mode.{Mode as CodeMode}
use Rattle.read_steps.specs.declared.modes.Mode.TheVariants.{Due as DueMode, After, EmitName, ExitName, PresentName, TrapName, SignalName, WhenName, ThenDue, InDue}
use Rattle.read_steps.specs.declared.levels.Scope.{Scope}
use Rattle.read_steps.specs.declared.levels.Scope.TheVariants.{Outermost, ThenPart, EndPart, SuspendBody, InBrackets, TrapBody, SignalBody}
use Rattle.read_text.specs.declared.heading.Awaits.{Awaits}
use Rattle.read_text.specs.declared.heading.Awaits.TheVariants.{VersionDue, NumberDue, VersionClosed, InputsDue, OutputsDue, InputName, InputNamed, OutputName, OutputNamed, BodyDue, Statement}
use Rattle.read_text.specs.declared.heading.Reader.{Reader as CodeReader}
use Rattle.read_steps.proofs.FoundLaws.{not_below}
use Rattle.read_steps.proofs.StepLaws.{few_places}
use Rattle.read_steps.proofs.TokenLaws.{state_closer}

abbrev outcome : List ℕ → Outcome
outcome text = read_placed begun (tokens_placed text) (length text)

-- What is known before each token.
pub record Going (text : List ℕ) (levels : List CodeLevel) (out : List ℕ) (at : ℕ) (r : CodeReader) : Type 0 where
  pub reader : Reader
  pub reads : Reads text levels out at r reader
  pub so_far : outcome text ≡ read_placed reader (tokens_from text at) (length text)
  pub inside : at ≤ length text

pub going_first : {text : List ℕ} {levels : List CodeLevel} {out : List ℕ} {r : CodeReader} → length out ≡ 3092 → r ≡ first_reader → Going text levels out 0 r
unfolding awaits_of
going_first {text} {levels} {out} size e = subst (λ (r : CodeReader). Going text levels out 0 r) (sym e) (record {
  reader = begun;
  reads = of_header (heading version_due 0 0 [] 0) (record {
    its_room = size;
    its_awaits = refl;
    numbers = record { its_version = refl; its_inputs = refl; its_signals = refl; few_inputs = omega arith };
    few_signals = omega arith;
    names_so_far = λ to l. refl;
  });
  so_far = refl;
  inside = omega arith;
})

-- No reader that is held has over 1,024 places open.
not_deep : {text : List ℕ} {levels : List CodeLevel} {out : List ℕ} {at : ℕ} {r : CodeReader} {x : Reader} → Reads text levels out at r x → too_deep x ≡ false
unfolding too_deep
not_deep (of_header g h) = refl
not_deep {text} (of_body g c h) = not_below 1025 (places (state_of text c).top.start (state_of text c).below) (few_places text h.holds)

room_kept : {text : List ℕ} {levels : List CodeLevel} {out : List ℕ} {at : ℕ} {r : CodeReader} {x : Reader} → Reads text levels out at r x → length out ≡ 3092
room_kept (of_header g h) = h.its_room
room_kept (of_body g c h) = h.holds.written.roomy

-- A token more.
module _ {text : List ℕ} {levels : List CodeLevel} {out : List ℕ} {at : ℕ} {r : CodeReader} (w : Going text levels out at r) {t : CodedToken} (a : Ahead text at t) where
  pub less_left : length text - t.end < length text - at
  less_left = let s = here text at a.front a.inside in omega (arith, s.later, s.longer, s.within)

  pub ready : Ready text levels out r t
  ready = record { at = at; reader = w.reader; reads = w.reads; ahead = a }

  abbrev then_read : Option Reader → Outcome
  then_read o = unless_refused t.start o λ q. cond (too_deep q) over (read_placed q (tokens_from text t.end) (length text))

  one_read : outcome text ≡ then_read (read_step w.reader (token_of text t))
  unfolding read_placed
  one_read = w.so_far ∙ ap (λ (ps : List Placed). read_placed w.reader ps (length text)) (here text at a.front a.inside).first_of

  module _ {levels' : List CodeLevel} {out' : List ℕ} {q : Result CodeReader Fault} (d : TakesAny text levels out r t levels' out' q) where
    goes : Goes q (Reads text levels' out' t.end) (read_step w.reader (token_of text t))
    goes = d.takes at w.reader w.reads a

    further : {o : Option Reader} {r' : CodeReader} → Goes q (Reads text levels' out' t.end) o → outcome text ≡ then_read o → q ≡ Ok r'
        → Going text levels' out' t.end r'
    further (turned_away f) e z = let m : ◌≡◌ {A = ℕ} 0 1 = cc in absurd (omega arith)
    further {r' = r'} (went_on {r = k} x f h) e z =
        let same : k ≡ r' = cc in
        record {
          reader = x;
          reads = subst (λ (y : CodeReader). Reads text levels' out' t.end y x) same h;
          so_far = e ∙ ap (λ (y : Bool). cond y over (read_placed x (tokens_from text t.end) (length text))) (not_deep h);
          inside = (here text at a.front a.inside).within;
        }
    further (overflowed x f h) e z = let m : ◌≡◌ {A = ℕ} 0 1 = cc in absurd (omega arith)

    pub going_on : {r' : CodeReader} → q ≡ Ok r' → Going text levels' out' t.end r'
    going_on z = further goes one_read z

    no_further : {o : Option Reader} {f : Fault} → Goes q (Reads text levels' out' t.end) o → outcome text ≡ then_read o → q ≡ Err f
        → Scanned out' (Err (refused_as f t.start)) (outcome text)
    no_further {f = f} (turned_away h) e z =
        let same : Grammar ≡ f = cc in
        subst (λ (x : Fault). Scanned out' (Err (refused_as x t.start)) (outcome text)) same (subst (Scanned out' (Err (refused_as Grammar t.start))) (sym e) (was_outside t.start refl))
    no_further (went_on x h k) e z = let m : ◌≡◌ {A = ℕ} 0 1 = cc in absurd (omega arith)
    no_further {f = f} (overflowed x h k) e z =
        let same : Deep ≡ f = cc in
        subst (λ (y : Fault). Scanned out' (Err (refused_as y t.start)) (outcome text)) same (subst (Scanned out' (Err (refused_as Deep t.start)))
        (sym (e ∙ ap (λ (y : Bool). cond y over (read_placed x (tokens_from text t.end) (length text))) k)) (was_over t.start refl))

    pub going_stops : {f : Fault} → q ≡ Err f → Scanned out' (Err (refused_as f t.start)) (outcome text)
    going_stops z = no_further goes one_read z

-- What the loop makes of a token's result: it goes on with the reader, or ends with what it makes of the fault.
module _ {m : Result CodeReader Refused} (P : Fault → Refused → Type 0) where
  pub went_with : (q : Result CodeReader Fault) → MatchResult q (λ x. m ≡ Ok x) (λ e. IsErrAnd m (P e)) → {r : CodeReader} → m ≡ Ok r → q ≡ Ok r
  went_with (Ok x) e {r} z =
      let n : ◌≡◌ {A = Result CodeReader Refused} (Ok x) (Ok r) = sym e ∙ z in
      let y : x ≡ r = cc in
      ap Ok y
  went_with (Err f) e {r} z =
      let p = err_from_is_err_and m e in
      let n : Err p.0 ≡ Ok r = sym p.1 ∙ z in
      let y : ◌≡◌ {A = ℕ} 0 1 = cc in
      absurd (omega arith)

  pub stopped : (q : Result CodeReader Fault) → MatchResult q (λ x. m ≡ Ok x) (λ e. IsErrAnd m (P e)) → {f : Refused} → m ≡ Err f → (e : Fault) × (q ≡ Err e) × P e f
  stopped (Ok x) e z = let n : ◌≡◌ {A = ℕ} 0 1 = cc in absurd (omega arith)
  stopped (Err k) e {f} z =
      let p = err_from_is_err_and m e in
      let n : ◌≡◌ {A = Result CodeReader Refused} (Err p.0) (Err f) = sym p.1 ∙ z in
      let y : p.0 ≡ f = cc in
      (k, refl, subst (P k) y p.2)

-- The end of the text, as the code tests it.
same_awaits : (a : Awaits) → sameb AwaitsType a Statement ≡ begun_already a
unfolding begun_already
same_awaits VersionDue = refl
same_awaits NumberDue = refl
same_awaits VersionClosed = refl
same_awaits InputsDue = refl
same_awaits OutputsDue = refl
same_awaits InputName = refl
same_awaits InputNamed = refl
same_awaits OutputName = refl
same_awaits OutputNamed = refl
same_awaits BodyDue = refl
same_awaits Statement = refl

same_mode : (m : CodeMode) → sameb ModeType m After ≡ behind_one m
unfolding behind_one
same_mode DueMode = refl
same_mode After = refl
same_mode EmitName = refl
same_mode ExitName = refl
same_mode PresentName = refl
same_mode TrapName = refl
same_mode SignalName = refl
same_mode WhenName = refl
same_mode ThenDue = refl
same_mode InDue = refl

same_scope : (l : Scope) → sameb ScopeType l Outermost ≡ all_closed l
unfolding all_closed
same_scope Outermost = refl
same_scope ThenPart = refl
same_scope EndPart = refl
same_scope SuspendBody = refl
same_scope InBrackets = refl
same_scope TrapBody = refl
same_scope SignalBody = refl

differs : (b : Bool) {z : Bool} → z ≡ not b → z ≡ true → b ≡ false
differs true e f = let n : true ≡ false = sym f ∙ e in let y : ◌≡◌ {A = ℕ} 0 1 = cc in absurd (omega arith)
differs false e f = refl

agrees : (b : Bool) {z : Bool} → z ≡ not b → z ≡ false → b ≡ true
agrees true e f = refl
agrees false e f = let n : false ≡ true = sym f ∙ e in let y : ◌≡◌ {A = ℕ} 0 1 = cc in absurd (omega arith)

module _ (r : CodeReader) {z : Bool} (a : z ≡ not (sameb AwaitsType r.awaits Statement)) where
  abbrev rest : Bool → Bool
  rest y = cond y (all_closed (closer_in r.stage.top)) false

  pub not_there : z ≡ true → false ≡ may_end r
  unfolding may_end
  not_there f = sym (ap (λ (x : Bool). cond x (rest (behind_one r.stage.mode)) false) (sym (same_awaits r.awaits) ∙ differs _ a f))

  module _ (f : z ≡ false) {y : Bool} (m : y ≡ not (sameb ModeType r.stage.mode After)) where
    there : {x : Bool} → behind_one r.stage.mode ≡ x → may_end r ≡ rest x
    unfolding may_end
    there e = ap₂ (λ (u v : Bool). cond u (rest v) false) (sym (same_awaits r.awaits) ∙ agrees _ a f) e

    pub behind_none : y ≡ true → false ≡ may_end r
    behind_none g = sym (there (sym (same_mode r.stage.mode) ∙ differs _ m g))

    pub by_level : y ≡ false → {l : Scope} → l ≡ closer_in r.stage.top → sameb ScopeType l Outermost ≡ may_end r
    by_level g {l} e = same_scope l ∙ ap all_closed e ∙ sym (there (sym (same_mode r.stage.mode) ∙ agrees _ m g))

-- The end of the text.
complete_as : (m : CodeMode) (c : Closer) → complete (mode_of m) c ≡ cond (behind_one m) (is_outermost c) false
unfolding complete mode_of behind_one
complete_as DueMode c = refl
complete_as After c = refl
complete_as EmitName c = refl
complete_as ExitName c = refl
complete_as PresentName c = refl
complete_as TrapName c = refl
complete_as SignalName c = refl
complete_as WhenName c = refl
complete_as ThenDue c = refl
complete_as InDue c = refl

not_begun : (d : Due) → begun_already (awaits_of d) ≡ false
unfolding awaits_of begun_already
not_begun version_due = refl
not_begun number_due = refl
not_begun version_closed = refl
not_begun inputs_due = refl
not_begun outputs_due = refl
not_begun input_name = refl
not_begun input_named = refl
not_begun output_name = refl
not_begun output_named = refl
not_begun body_due = refl

outermost : (k : Scope) → is_outermost (closer_of k) ≡ all_closed k
unfolding closer_of all_closed
outermost Outermost = refl
outermost ThenPart = refl
outermost EndPart = refl
outermost SuspendBody = refl
outermost InBrackets = refl
outermost TrapBody = refl
outermost SignalBody = refl

module _ {text : List ℕ} {levels : List CodeLevel} {out : List ℕ} {at : ℕ} {r : CodeReader} where
  body_ends : {g : Heading} {c : Course} → InBody text levels out at r g c → complete c.mode (state_of text c).top.closer ≡ may_end r
  unfolding may_end begun_already
  body_ends {g} {c} h =
      ap (λ (m : Mode). complete m (state_of text c).top.closer) (sym h.holds.its_mode) ∙ complete_as r.stage.mode (state_of text c).top.closer
      ∙ ap (λ (z : Bool). cond (behind_one r.stage.mode) z false) (ap is_outermost (state_closer text c) ∙ outermost (closer_in c.here.code)
      ∙ ap (λ (l : CodeLevel). all_closed (closer_in l)) h.holds.its_top)
      ∙ sym (ap (λ (a : Awaits). cond (begun_already a) (cond (behind_one r.stage.mode) (all_closed (closer_in r.stage.top)) false) false) h.its_awaits)

  ended : {x : Reader} → Reads text levels out at r x → may_end r ≡ true → Scanned out (Ok r) (at_end (length text) (finish x))
  unfolding finish may_end state_of
  ended (of_header g h) e = absurd (not_true _ (ap begun_already h.its_awaits ∙ not_begun g.awaits) e)
    where
      not_true : {z : Bool} (y : Bool) → z ≡ false → cond z y false ≡ true → ⊥
      not_true {z} y p q = let u : true ≡ false = sym q ∙ ap (λ (b : Bool). cond b y false) p in let v : ◌≡◌ {A = ℕ} 0 1 = cc in omega arith
  ended (of_body g c h) e = subst (Scanned out (Ok r)) (sym whole)
      (stood c.block refl (omega (arith, h.numbers.few_inputs, h.numbers.its_inputs, h.numbers.its_signals))
      (omega (arith, h.more_signals, h.numbers.its_signals, h.holds.its_next)) h.holds.written)
    where
      num : Headed r g
      num = h.numbers

      whole : at_end (length text) (finish (in_body g (state_of text c))) ≡ stands (blocked r.version r.inputs r.signals r.stage.next c.block)
      whole =
          ap (λ (z : Bool). at_end (length text) (cond z (some (blocked g.version g.inputs g.next c.next c.block)) none)) (body_ends h ∙ e)
          ∙ sym (λ i. stands (blocked (num.its_version i) (num.its_inputs i) (num.its_signals i) (h.holds.its_next i) c.block))

  not_ended : {x : Reader} → Reads text levels out at r x → may_end r ≡ false → Scanned out (Err (refused_as Grammar (length text))) (at_end (length text) (finish x))
  unfolding finish state_of
  not_ended (of_header g h) e = was_outside _ refl
  not_ended (of_body g c h) e =
      subst (λ (z : Bool). Scanned out (Err (refused_as Grammar (length text))) (at_end (length text) (cond z (some (blocked g.version g.inputs g.next c.next
      c.block)) none))) (sym (body_ends h ∙ e)) (was_outside _ refl)

  pub still_room : Going text levels out at r → length out ≡ 3092
  still_room w = room_kept w.reads

  module _ (w : Going text levels out at r) {t : CodedToken} (f : FrontAt text (past_spaces text at) t) (l : length text ≤ t.start) where
    at_its_end : outcome text ≡ at_end (length text) (finish w.reader)
    unfolding read_placed
    at_its_end = w.so_far ∙ ap (λ (ps : List Placed). read_placed w.reader ps (length text)) (none_here text at f l)

    pub scan_ends : may_end r ≡ true → Scanned out (Ok r) (outcome text)
    scan_ends e = subst (Scanned out (Ok r)) (sym at_its_end) (ended w.reads e)

    pub scan_breaks : may_end r ≡ false → Scanned out (Err (refused_as Grammar (length text))) (outcome text)
    scan_breaks e = subst (Scanned out (Err (refused_as Grammar (length text)))) (sym at_its_end) (not_ended w.reads e)
