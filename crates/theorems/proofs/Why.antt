-- Each reason told of an instant is true, and one is told exactly where the thing asked about is so: an undecided test is reached exactly where must has no code, a present
-- output is in must and so an emit of it is reached, and an emit that is not executed is itself on its path, below
-- whose topmost that was not executed nothing was. What is told as executed is what every coherent reaction executes. Assumes nothing.
use mathlib.Core.Path.{◌≡◌, refl, sym, ◌∙◌, subst}
use mathlib.Core.Logic.{◌↔◌}
use mathlib.Core.Bool.{Bool, true, false, not, ◌&&◌}
use mathlib.Core.List.{List}
use mathlib.Core.Option.{Option, none, some}
use Prim.Native.Nat.{ℕ, ◌+◌, ◌-◌, ◌<◌}
use native.Mathlib.Decide.{dec_lt}
use native.Mathlib.Omega.{arith}
use lib.Dec.{T, leb, ltb, leb→le, le→leb, lt→ltb, T_not, not_T}
use lib.ListN.{length, get_or, get_or-eq_default}
use Rattle.sets.specs.Numbers.{Numbers, lowest}
use Rattle.sets.proofs.Members.{of_true, of_false, and_in, and_left, and_right}
use Rattle.sets.proofs.Counts.{lowest_some, lowest_none}
use Rattle.rules.specs.Statements.{Block, Stmt, nothing, statements, preorder, numbered}
use Rattle.rules.specs.Events.{Status, present, unknown, Event, known, Hearing, event}
use Rattle.rules.specs.Instant.{started}
use Rattle.rules.specs.MustCan.{must, gives}
use Rattle.rules.specs.States.{State, fresh, running, finished, step, kept}
use Rattle.rules.specs.Rounds.{final_of, Answer, answered, not_constructive, code_width, answer, same, outputs_with, react}
use Rattle.rules.specs.Coherence.{Locals, LocalsAgree, world, Coherent}
use Rattle.rules.specs.Taken.{Wanted, every, emit_of, undecided_test, taken}
use Rattle.theorems.specs.Executed.{ran}
use Rattle.rules.specs.Reasons.{Asked, refused, is_present, not_executed, is_emit, on_path, cut_off, where_so, reason_from, reason_of}
use Rattle.rules.proofs.RoundLaws.{same_is}
use Rattle.rules.proofs.Preorder.{all_counted, some_statement}
use Rattle.theorems.specs.Order.{◌⊑◌, Choice, whole}
use Rattle.theorems.specs.Checked.{Checked}
use Rattle.theorems.specs.Reach.{at_first}
use Rattle.theorems.specs.Reactions.{Some}
use Rattle.theorems.specs.Traces.{Instant, answers, refuses}
use Rattle.theorems.specs.Why.{is_13, NamesTest, NamesEmit, NamesCut, WasNotExecuted, TrueReason}
use Rattle.theorems.proofs.Reach.{in_must, decided}
use Rattle.theorems.proofs.RoundsEnd.{last_unchanged, last_reached}
use Rattle.theorems.proofs.Sound.{not_both}
use Rattle.theorems.proofs.Reaction.{coherent_above}
use Rattle.theorems.proofs.Instants.{reacts}
use Rattle.theorems.proofs.Reasons.{Decides, has_code, has_test, started_decides, resumed_decides}
use Rattle.theorems.proofs.Emits.{Emits, started_emits, resumed_emits}
use Rattle.theorems.proofs.Executions.{started_executed, resumed_executed}
use Rattle.theorems.proofs.Named.{taken_below, taken_fits}
use Rattle.theorems.proofs.Paths.{executed_above}

-- Of a block's tree in a state. Finished runs as nothing, which has a code and emits nothing.
pub decides : (p : Stmt) (st : State) (E : Event) → Decides (gives must (step p st) E) (taken undecided_test p st E)
unfolding step taken
decides p fresh E = started_decides p 0 E
decides p (running A) E = resumed_decides A p 0 E
decides p finished E = finished_decides (started_decides nothing 0 E)
  where
    finished_decides : Decides (gives must (started nothing) E) (taken undecided_test nothing fresh E) → Decides (gives must (started nothing) E) (taken undecided_test p finished E)
    finished_decides (has_code c t f) = has_code c t (λ n u. u)
    finished_decides (has_test n t f) = absurd t

pub emits : (s : ℕ) (p : Stmt) (st : State) (E : Event) → Emits s (gives must (step p st) E).signals (taken (emit_of s) p st E)
unfolding step taken gives started
emits s p fresh E = started_emits s p 0 E
emits s p (running A) E = resumed_emits s A p 0 E
emits s p finished E = record { by = λ t. absurd t }

pub executes : (w : Wanted) (p : Stmt) (st : State) (l : Locals (step p st)) (W : Numbers) → LocalsAgree (step p st) l W → (E : Event) → E ⊑ whole W
    → (c : ℕ) → T ((gives must (step p st) E).codes c) → taken w p st E ≡ ran w p st l W
unfolding step taken ran
executes w p fresh l W a E h c t = started_executed w p 0 l W a E h c t
executes w p (running A) l W a E h c t = resumed_executed w A p 0 l W a E h c t
executes w p finished l W a E h c t = refl

unlike : unknown ≡ present → ⊥
unlike e = let z : ◌≡◌ {A = ℕ} 0 1 = cc in omega arith

known_present : (z : Bool) → present ≡ known z → T z
known_present true e = tt
known_present false e = not_both e

either_way : (z : Bool) → (T (not z) → ⊥) → T z
either_way true f = tt
either_way false f = f tt

-- A status that is present is that of an output of the list, and an emit is a statement of the tree: past the end there is none.
listed_present : (vs : List Status) (i : ℕ) → get_or vs i unknown ≡ present → i < length vs
listed_present vs i e = go (dec_lt i (length vs))
  where
    go : Dec (i < length vs) → i < length vs
    go (yes l) = l
    go (no l) = absurd (unlike (sym (get_or-eq_default vs unknown {n = i} (omega arith)) ∙ e))

emit_below : (p : Stmt) (n : ℕ) → T (is_emit (numbered p n)) → n < statements p
emit_below p n t = go (dec_lt n (statements p))
  where
    go : Dec (n < statements p) → n < statements p
    go (yes l) = l
    go (no l) = absurd (subst (λ (q : Stmt). T (is_emit q)) (get_or-eq_default (preorder p) nothing {n = n} (omega (arith, all_counted p))) t)

module _ (b : Block) (st : State) (heard : Hearing) where
  -- An undecided test exists exactly when 13 is given.
  pub refused_has_a_test : {vs : List Status} {n : ℕ} → Instant b st heard (not_constructive vs n) → Some (taken undecided_test b.body st (event b heard vs))
  refused_has_a_test (refuses {vs = vs} r f) = go (decides b.body st (event b heard vs))
    where
      go : Decides (gives must (step b.body st) (event b heard vs)) (taken undecided_test b.body st (event b heard vs)) → Some (taken undecided_test b.body st (event b heard vs))
      go (has_code c t g) = absurd (f c t)
      go (has_test k t g) = (k, t)

  pub answered_has_none : {vs : List Status} {c n : ℕ} {st' : State} → Instant b st heard (answered vs c st' n) → (k : ℕ) → T (taken undecided_test b.body st (event b heard vs) k) → ⊥
  answered_has_none (answers {vs = vs} {c = c} r t) k u = go (decides b.body st (event b heard vs))
    where
      go : Decides (gives must (step b.body st) (event b heard vs)) (taken undecided_test b.body st (event b heard vs)) → ⊥
      go (has_code d x g) = g k u
      go (has_test j x g) = g c t

  -- A present output of an answered instant has an emit that is executed.
  pub present_has_an_emit : {vs : List Status} {c n : ℕ} {st' : State} → Instant b st heard (answered vs c st' n) → (s : ℕ) → T (outputs_with present b vs s)
      → Some (taken (emit_of s) b.body st (event b heard vs))
  unfolding outputs_with
  present_has_an_emit (answers {vs = vs} {c = c} r t) s u =
      (emits s b.body st (event b heard vs)).by
      (subst (λ (k : ℕ). T ((gives must (step b.body st) (event b heard vs)).signals k)) place (known_present (in_must b (step b.body st) heard vs i) is_known))
    where
      i : ℕ
      i = s - b.inputs

      its_status : get_or vs i unknown ≡ present
      its_status = same_is (get_or vs i unknown) present (and_right (leb b.inputs s) (same (get_or vs i unknown) present) u)

      place : b.inputs + i ≡ s
      place = let l = leb→le b.inputs s (and_left (leb b.inputs s) (same (get_or vs i unknown) present) u) in omega arith

      is_known : present ≡ known (in_must b (step b.body st) heard vs i)
      is_known = sym its_status ∙ decided b (step b.body st) heard vs (last_unchanged b (step b.body st) heard r) c t i (listed_present vs i its_status)

  -- What is told as executed in an answered instant is what every coherent reaction executes, whatever is chosen for the inputs not heard.
  pub executed_in_every_reaction : (w : Wanted) {vs : List Status} {c n : ℕ} {st' : State} → Instant b st heard (answered vs c st' n)
      → (given : Numbers) → Choice b heard given → {outs : List Bool} {d : ℕ} {st'' : State} (r : Coherent b st given outs d st'')
      → taken w b.body st (event b heard vs) ≡ ran w b.body st r.locals (world b given outs)
  executed_in_every_reaction w (answers {vs = vs} {c = c} q t) given chosen {outs} r =
      executes w b.body st r.locals (world b given outs) r.locals_agree (event b heard vs)
      (coherent_above b st heard given chosen r (last_reached b (step b.body st) heard at_first q)) c t

  -- What is named.
  module _ (E : Event) where
    names_test : {k : ℕ} → lowest (statements b.body) (taken undecided_test b.body st E) ≡ some k → NamesTest b.body st E k
    names_test {k} e =
        let l = lowest_some (statements b.body) (taken undecided_test b.body st E) e in
        record { is_one = taken_fits undecided_test b.body st E k l.1; reached = l.1; none_lower = l.2 }

    names_emit : (s : ℕ) {k : ℕ} → lowest (statements b.body) (taken (emit_of s) b.body st E) ≡ some k → NamesEmit b.body st E s k
    names_emit s {k} e =
        let l = lowest_some (statements b.body) (taken (emit_of s) b.body st E) e in
        record { is_one = taken_fits (emit_of s) b.body st E k l.1; executed = l.1; none_lower = l.2 }

    names_cut : (n : ℕ) {k : ℕ} → lowest (statements b.body) (cut_off b.body n (taken every b.body st E)) ≡ some k → NamesCut b.body st E n k
    unfolding cut_off
    names_cut n {k} e =
        let executed : Numbers = taken every b.body st E in
        let path : Numbers = on_path b.body n in
        let l = lowest_some (statements b.body) (cut_off b.body n executed) e in
        let cut : T (executed k) → ⊥ = T_not (executed k) (and_right (path k) (not (executed k)) l.1) in
        record {
          on_its_path = and_left (path k) (not (executed k)) l.1;
          without_it = cut;
          all_above = λ j h p. either_way (executed j) (λ t. l.2 j h (and_in (path j) (not (executed j)) p t));
          none_below = λ j p t. cut (executed_above b.body st E j k p t);
        }

    -- An emit that is not executed is on its own path.
    itself_cut : (n : ℕ) → WasNotExecuted b.body st E n → T (cut_off b.body n (taken every b.body st E) n)
    unfolding cut_off on_path
    itself_cut n x =
        and_in (on_path b.body n n) (not (taken every b.body st E n))
        (and_in (leb n n) (ltb n (n + statements (numbered b.body n))) (le→leb n n (omega arith))
        (lt→ltb n (n + statements (numbered b.body n)) (omega (arith, some_statement (numbered b.body n)))))
        (not_T (taken every b.body st E n) x.without_it)

    was_not : (n : ℕ) → T (is_emit (numbered b.body n) && not (taken every b.body st E n)) → WasNotExecuted b.body st E n
    was_not n t = record {
      an_emit = and_left (is_emit (numbered b.body n)) (not (taken every b.body st E n)) t;
      without_it = T_not (taken every b.body st E n) (and_right (is_emit (numbered b.body n)) (not (taken every b.body st E n)) t);
    }

  -- Each reason is true.
  of_refused : {vs : List Status} {n : ℕ} → Instant b st heard (not_constructive vs n) → TrueReason refused b st heard (not_constructive vs n) (reason_from refused b st heard (not_constructive vs n))
  unfolding TrueReason reason_from
  of_refused {vs} {n} i = go (lowest (statements b.body) X) refl
    where
      X : Numbers
      X = taken undecided_test b.body st (event b heard vs)

      go : (o : Option ℕ) → lowest (statements b.body) X ≡ o → TrueReason refused b st heard (not_constructive vs n) o
      go none e = let x = refused_has_a_test i in lowest_none (statements b.body) X e x.0 (taken_below undecided_test b.body st (event b heard vs) x.0 x.1) x.1
      go (some k) e = names_test (event b heard vs) e

  of_present : (s : ℕ) {vs : List Status} {c n : ℕ} {st' : State} → Instant b st heard (answered vs c st' n)
      → TrueReason (is_present s) b st heard (answered vs c st' n) (reason_from (is_present s) b st heard (answered vs c st' n))
  unfolding TrueReason reason_from
  of_present s {vs} {c} {n} {st'} i = go (outputs_with present b vs s) refl
    where
      X : Numbers
      X = taken (emit_of s) b.body st (event b heard vs)

      told : T (outputs_with present b vs s) → (o : Option ℕ) → lowest (statements b.body) X ≡ o → TrueReason (is_present s) b st heard (answered vs c st' n) o
      told u none e = let x = present_has_an_emit i s u in absurd (lowest_none (statements b.body) X e x.0 (taken_below (emit_of s) b.body st (event b heard vs) x.0 x.1) x.1)
      told u (some k) e = (u, names_emit (event b heard vs) s e)

      go : (z : Bool) → outputs_with present b vs s ≡ z → TrueReason (is_present s) b st heard (answered vs c st' n) (where_so z (lowest (statements b.body) X))
      go true e = told (of_true e) (lowest (statements b.body) X) refl
      go false e = of_false e

  of_not_executed : (m : ℕ) {vs : List Status} {c n : ℕ} {st' : State} → Instant b st heard (answered vs c st' n)
      → TrueReason (not_executed m) b st heard (answered vs c st' n) (reason_from (not_executed m) b st heard (answered vs c st' n))
  unfolding TrueReason reason_from
  of_not_executed m {vs} {c} {n} {st'} i = go (is_emit (numbered b.body m) && not (executed m)) refl
    where
      E : Event
      E = event b heard vs

      executed : Numbers
      executed = taken every b.body st E

      told : WasNotExecuted b.body st E m → (o : Option ℕ) → lowest (statements b.body) (cut_off b.body m executed) ≡ o → TrueReason (not_executed m) b st heard (answered vs c st' n) o
      told u none e = absurd (lowest_none (statements b.body) (cut_off b.body m executed) e m (emit_below b.body m u.an_emit) (itself_cut E m u))
      told u (some k) e = (u, names_cut E m e)

      go : (z : Bool) → (is_emit (numbered b.body m) && not (executed m)) ≡ z
          → TrueReason (not_executed m) b st heard (answered vs c st' n) (where_so z (lowest (statements b.body) (cut_off b.body m executed)))
      go true e = told (was_not E m (of_true e)) (lowest (statements b.body) (cut_off b.body m executed)) refl
      go false e = λ x. of_false e (and_in (is_emit (numbered b.body m)) (not (executed m)) x.an_emit (not_T (executed m) x.without_it))

  from_answer : (asked : Asked) {a : Answer} → Instant b st heard a → TrueReason asked b st heard a (reason_from asked b st heard a)
  unfolding TrueReason reason_from
  from_answer refused (answers r t) = answered_has_none (answers r t)
  from_answer refused (refuses r f) = of_refused (refuses r f)
  from_answer (is_present s) (answers r t) = of_present s (answers r t)
  from_answer (is_present s) (refuses r f) = tt
  from_answer (not_executed m) (answers r t) = of_not_executed m (answers r t)
  from_answer (not_executed m) (refuses r f) = tt

  -- An undecided test exists exactly when 13 is given.
  pub an_undecided_test_exactly_when_13 : Checked b → T (is_13 (react b st heard)) ↔ Some (taken undecided_test b.body st (event b heard (final_of b st heard).statuses))
  unfolding react answer
  an_undecided_test_exactly_when_13 checked =
      go (lowest code_width (gives must (step b.body st) (event b heard (final_of b st heard).statuses)).codes) (reacts b st heard checked)
    where
      X : Numbers
      X = taken undecided_test b.body st (event b heard (final_of b st heard).statuses)

      K : Numbers
      K = kept (step b.body st) (event b heard (final_of b st heard).statuses)

      go : (o : Option ℕ) → Instant b st heard (answer (final_of b st heard) o K) → T (is_13 (answer (final_of b st heard) o K)) ↔ Some X
      go none i = (λ t. refused_has_a_test i, λ x. tt)
      go (some c) i = (λ t. absurd t, λ x. absurd (answered_has_none i x.0 x.1))

  pub each_reason_is_true : Checked b → (asked : Asked) → TrueReason asked b st heard (react b st heard) (reason_of b st heard asked)
  unfolding reason_of
  each_reason_is_true checked asked = from_answer asked (reacts b st heard checked)
