-- The moves of the tables are ones that can be made, and a token's step is the move that the tables have for it. Assumes nothing.
use mathlib.Core.Path.{◌≡◌, refl, sym, ap, ◌∙◌, subst, subst⁻¹}
use mathlib.Core.Bool.{Bool, true, false, cond}
use mathlib.Core.List.{List, [], ◌∷◌, ◌++◌}
use mathlib.Core.Option.{none}
use Rattle.std.specs.Prelude.{Result, Err}
use mathlib.Core.Logic.{◌⊎◌, inl, inr}
use Prim.Native.Nat.{ℕ, zero, suc, ◌+◌}
use native.Mathlib.Omega.{arith}
use borrow.Author.Tests.{ne_eqb}
use lib.Dec.{T, eqb, eqb→eq}
use lib.ListN.{length}
use Rattle.text.specs.Tokens.{name, sign, NOTHING, PAUSE, EMIT, PRESENT, THEN, ELSE, END, SUSPEND, WHEN, LOOP, TRAP, IN, EXIT, SIGNAL, SEMICOLON, BRACKET, CLOSED, BESIDE}
use Rattle.text.specs.Meaning.{Declaration}
use Rattle.text.specs.Coded.{from_kind}
use Rattle.text.specs.Machine.{Level, Mode, due}
use Rattle.text.specs.Machine.{then_due, in_due, declared_by, around, by_sign, by_name, step}
use Rattle.read_steps.specs.Found.{found_in, word_at, level_declares, through, through_all, header_names, names_found}
use Rattle.read_steps.specs.Moves.{mode_of, closer_of, due_move, closed_move, after_move, sign_move, signal_move, trap_move, new_move, found_move, made}
use Rattle.read_steps.specs.Holding.{Place, level_of, around_it, levels_of, Course, state_of, codes, FreshAt, FreshIn, Holds, Steps, faulted, Valid, Does, Safe, closer_in}
use Rattle.read_steps.specs.declared.levels.Level.{Level as CodeLevel}
use Rattle.read_steps.specs.declared.modes.Mode.{Mode as CodeMode}
use Rattle.read_steps.specs.declared.modes.Mode.TheVariants.{Due, After, EmitName, ExitName, PresentName, TrapName, SignalName, WhenName, ThenDue, InDue}
use Rattle.read_steps.specs.declared.levels.Scope.{Scope}
use Rattle.read_steps.specs.declared.levels.Scope.TheVariants.{Outermost, ThenPart, EndPart, SuspendBody, InBrackets, TrapBody, SignalBody}
use Rattle.read_steps.specs.declared.steps.Stage.{Stage}
use Rattle.read_steps.specs.declared.steps.Fault.{Fault as Refused}
use Rattle.read_steps.specs.declared.steps.Fault.TheVariants.{Grammar}
use Rattle.text.specs.declared.tokens.Kind.{Kind}
use Rattle.text.specs.declared.tokens.Kind.TheVariants.{Sign, Name, Number, Nothing as NoToken, End}
use Rattle.text.specs.declared.tokens.Token.{Token as CodedToken}
use Rattle.read_steps.specs.declared.found.Found.{Found}
use Rattle.read_steps.specs.declared.found.Found.TheVariants.{Nothing, Signal, Trap}
use Rattle.read_steps.specs.declared.moves.Move.{Move}
use Rattle.read_steps.specs.declared.moves.Move.TheVariants.{Fault, To, Bracket}
use Rattle.read_steps.proofs.FoundLaws.{through_found}
use Rattle.read_steps.proofs.MoveLaws.{sign_made, name_made}
use Rattle.read_steps.proofs.StepLaws.{sized_16, sized_17, sized_18, sized_19, sized_20, sized_22, sized_24, sized_25, sized_26}

either : (P : Move → Type 0) (z : Bool) {m n : Move} → P m → P n → P (cond z m n)
either P true p q = p
either P false p q = q

-- The kinds of records.
due_safe : (k : ℕ) → Safe (due_move k)
unfolding due_move Safe
due_safe k =
    either Safe (eqb k NOTHING) sized_16 (either Safe (eqb k PAUSE) sized_17 (either Safe (eqb k EMIT) tt (either Safe (eqb k EXIT) tt (either Safe (eqb k PRESENT) tt (either Safe (eqb k TRAP) tt
    (either Safe (eqb k SIGNAL) tt (either Safe (eqb k SUSPEND) sized_20 (either Safe (eqb k LOOP) sized_22 (either Safe (eqb k BRACKET) tt tt)))))))))

closed_safe : (c : Scope) (k : ℕ) → Safe (closed_move c k)
unfolding closed_move Safe
closed_safe Outermost k = tt
closed_safe ThenPart k = either Safe (eqb k ELSE) tt tt
closed_safe EndPart k = either Safe (eqb k END) tt tt
closed_safe SuspendBody k = either Safe (eqb k WHEN) tt tt
closed_safe InBrackets k = either Safe (eqb k CLOSED) tt tt
closed_safe TrapBody k = either Safe (eqb k END) tt tt
closed_safe SignalBody k = either Safe (eqb k END) tt tt

pub sign_safe : (m : CodeMode) (c : Scope) (k : ℕ) → Safe (sign_move m c k)
unfolding sign_move after_move Safe
sign_safe Due c k = due_safe k
sign_safe After c k = either Safe (eqb k SEMICOLON) tt (either Safe (eqb k BESIDE) tt (closed_safe c k))
sign_safe EmitName c k = tt
sign_safe ExitName c k = tt
sign_safe PresentName c k = tt
sign_safe TrapName c k = tt
sign_safe SignalName c k = tt
sign_safe WhenName c k = tt
sign_safe ThenDue c k = either Safe (eqb k THEN) tt tt
sign_safe InDue c k = either Safe (eqb k IN) tt tt

pub name_safe : (m : CodeMode) (f : Found) (n : ℕ) → Safe (found_move m f n)
unfolding found_move signal_move trap_move new_move Safe
name_safe Due Nothing n = tt
name_safe Due (Signal s) n = tt
name_safe Due (Trap d) n = tt
name_safe After Nothing n = tt
name_safe After (Signal s) n = tt
name_safe After (Trap d) n = tt
name_safe EmitName Nothing n = tt
name_safe EmitName (Signal s) n = sized_18
name_safe EmitName (Trap d) n = tt
name_safe ExitName Nothing n = tt
name_safe ExitName (Signal s) n = tt
name_safe ExitName (Trap d) n = sized_25
name_safe PresentName Nothing n = tt
name_safe PresentName (Signal s) n = sized_19
name_safe PresentName (Trap d) n = tt
name_safe TrapName Nothing n = sized_24
name_safe TrapName (Signal s) n = tt
name_safe TrapName (Trap d) n = tt
name_safe SignalName Nothing n = sized_26
name_safe SignalName (Signal s) n = tt
name_safe SignalName (Trap d) n = tt
name_safe WhenName Nothing n = tt
name_safe WhenName (Signal s) n = tt
name_safe WhenName (Trap d) n = tt
name_safe ThenDue Nothing n = tt
name_safe ThenDue (Signal s) n = tt
name_safe ThenDue (Trap d) n = tt
name_safe InDue Nothing n = tt
name_safe InDue (Signal s) n = tt
name_safe InDue (Trap d) n = tt

module _ (g : Course) where
  due_valid : (k : ℕ) → due ≡ g.mode → Valid g (due_move k)
  unfolding due_move Valid mode_of FreshIn
  due_valid k e =
      let bracket : Valid g Bracket = λ f x. subst⁻¹ (λ (m : Mode). FreshIn m f g.here (length g.block)) e x in
      let on : (f : Bool) → FreshIn g.mode f g.here (length g.block) → Unit {0} = λ f x. tt in
      either (Valid g) (eqb k NOTHING) tt (either (Valid g) (eqb k PAUSE) tt (either (Valid g) (eqb k EMIT) on (either (Valid g) (eqb k EXIT) on
      (either (Valid g) (eqb k PRESENT) on (either (Valid g) (eqb k TRAP) on (either (Valid g) (eqb k SIGNAL) on (either (Valid g) (eqb k SUSPEND) (λ p end x. x)
      (either (Valid g) (eqb k LOOP) (λ p end x. x) (either (Valid g) (eqb k BRACKET) bracket tt)))))))))

  -- `else` closes a level that no bracket is open in.
  closed_valid : (c : Scope) (k : ℕ) → c ≡ closer_in g.here.code → Valid g (closed_move c k)
  unfolding closed_move Valid mode_of FreshIn closer_in
  closed_valid Outermost k e = tt
  closed_valid ThenPart k e = either (Valid g) (eqb k ELSE) (no_bracket g.here.code.brackets (eqb g.here.code.brackets 0) refl e) tt
    where
      no_bracket : (b : ℕ) (z : Bool) → eqb b 0 ≡ z → ThenPart ≡ cond z g.here.code.kind InBrackets → b ≡ 0
      no_bracket b true q h = eqb→eq b 0 (subst T (sym q) tt)
      no_bracket b false q h = let y : ◌≡◌ {A = ℕ} 0 1 = cc in absurd (omega arith)
  closed_valid EndPart k e = either (Valid g) (eqb k END) (λ f p end. tt) tt
  closed_valid SuspendBody k e = either (Valid g) (eqb k WHEN) (λ f p end. tt) tt
  closed_valid InBrackets k e = either (Valid g) (eqb k CLOSED) (λ f p end. tt) tt
  closed_valid TrapBody k e = either (Valid g) (eqb k END) (λ f p end. tt) tt
  closed_valid SignalBody k e = either (Valid g) (eqb k END) (λ f p end. tt) tt

  waiting : (m : Mode) → m ≡ g.mode → ((f : Bool) → FreshIn m f g.here (length g.block) → FreshAt f g.here (length g.block)) → (z : Bool) → Valid g (cond z (To Due) Fault)
  unfolding Valid mode_of FreshIn
  waiting m e h true = λ f x. h f (subst⁻¹ (λ (n : Mode). FreshIn n f g.here (length g.block)) e x)
  waiting m e h false = tt

  pub sign_valid : (m : CodeMode) → mode_of m ≡ g.mode → (c : Scope) (k : ℕ) → c ≡ closer_in g.here.code → Valid g (sign_move m c k)
  unfolding sign_move after_move mode_of Valid FreshIn
  sign_valid Due e c k q = due_valid k e
  sign_valid After e c k q = either (Valid g) (eqb k SEMICOLON) tt (either (Valid g) (eqb k BESIDE) tt (closed_valid c k q))
  sign_valid EmitName e c k q = tt
  sign_valid ExitName e c k q = tt
  sign_valid PresentName e c k q = tt
  sign_valid TrapName e c k q = tt
  sign_valid SignalName e c k q = tt
  sign_valid WhenName e c k q = tt
  sign_valid ThenDue e c k q = waiting then_due e (λ f x. x) (eqb k THEN)
  sign_valid InDue e c k q = waiting in_due e (λ f x. x) (eqb k IN)

  pub name_valid : (m : CodeMode) (f : Found) (n : ℕ) → Valid g (found_move m f n)
  unfolding found_move signal_move trap_move new_move Valid mode_of FreshIn
  name_valid Due Nothing n = tt
  name_valid Due (Signal s) n = tt
  name_valid Due (Trap d) n = tt
  name_valid After Nothing n = tt
  name_valid After (Signal s) n = tt
  name_valid After (Trap d) n = tt
  name_valid EmitName Nothing n = tt
  name_valid EmitName (Signal s) n = tt
  name_valid EmitName (Trap d) n = tt
  name_valid ExitName Nothing n = tt
  name_valid ExitName (Signal s) n = tt
  name_valid ExitName (Trap d) n = tt
  name_valid PresentName Nothing n = tt
  name_valid PresentName (Signal s) n = λ p end x. x
  name_valid PresentName (Trap d) n = tt
  name_valid TrapName Nothing n = λ p end x. x
  name_valid TrapName (Signal s) n = tt
  name_valid TrapName (Trap d) n = tt
  name_valid SignalName Nothing n = λ p end x. x
  name_valid SignalName (Signal s) n = tt
  name_valid SignalName (Trap d) n = tt
  name_valid WhenName Nothing n = tt
  name_valid WhenName (Signal s) n = tt
  name_valid WhenName (Trap d) n = tt
  name_valid ThenDue Nothing n = tt
  name_valid ThenDue (Signal s) n = tt
  name_valid ThenDue (Trap d) n = tt
  name_valid InDue Nothing n = tt
  name_valid InDue (Signal s) n = tt
  name_valid InDue (Trap d) n = tt

-- What closes the innermost level, and what is declared around it.
closer_right : (text : List ℕ) (p : Place) (n a k : ℕ) → (level_of text p n a k).closer ≡ closer_of (cond (eqb n 0) p.code.kind InBrackets)
unfolding level_of closer_of
closer_right text p zero a k = refl
closer_right text p (suc n) a k = ap (λ (z : Bool). closer_of (cond z p.code.kind InBrackets)) (sym (ne_eqb (suc n) 0 (λ e. omega (arith, e))))

pub state_closer : (text : List ℕ) (g : Course) → (state_of text g).top.closer ≡ closer_of (closer_in g.here.code)
unfolding state_of closer_in
state_closer text g = closer_right text g.here g.here.code.brackets g.here.arm g.here.link

place_declares : (text : List ℕ) (h : List Declaration) (p : Place) (n a k : ℕ) (ls : List Level)
    → (level_of text p n a k).declares ++ declared_by h (around_it text p n ls) ≡ level_declares text p.code ++ declared_by h ls
unfolding level_of around_it declared_by
place_declares text h p zero a k ls = refl
place_declares text h p (suc n) a k ls = place_declares text h p n p.start p.start ls

all_found : (text : List ℕ) (h : List Declaration) (ps : List Place) (x : List ℕ) → found_in (declared_by h (levels_of text ps)) x ≡ through_all text (codes ps) x (found_in h x)
unfolding levels_of declared_by through_all codes
all_found text h [] x = refl
all_found text h (p ∷ ps) x =
    ap (λ (ds : List Declaration). found_in ds x) (place_declares text h p p.code.brackets p.arm p.link (levels_of text ps))
    ∙ through_found text p.code (declared_by h (levels_of text ps)) x ∙ ap (through text p.code x) (all_found text h ps x)

around_found : (text : List ℕ) (g : Course) (x : List ℕ) → found_in (around (state_of text g)) x ≡ through_all text (g.here.code ∷ codes g.under) x (found_in g.header x)
unfolding state_of levels_of declared_by codes
around_found text g x = all_found text g.header (g.here ∷ g.under) x

-- A token's step.
module _ (text : List ℕ) (g : Course) (m : CodeMode) (e : mode_of m ≡ g.mode) where
  sign_step : (k : ℕ) (x : List ℕ) {c : Scope} → c ≡ closer_in g.here.code → made x (state_of text g) (sign_move m c k) ≡ step (state_of text g) (sign k)
  unfolding step state_of
  sign_step k x {c} f = sign_made x (state_of text g) m c k (state_closer text g ∙ sym (ap closer_of f)) ∙ ap (λ (a : Mode). by_sign a (state_of text g) k) e

  name_step : (w : List ℕ) {f : Found} → f ≡ through_all text (g.here.code ∷ codes g.under) w (found_in g.header w)
      → made w (state_of text g) (found_move m f g.next) ≡ step (state_of text g) (name w)
  unfolding step state_of
  name_step w {f} h =
      ap (λ (x : Found). made w (state_of text g) (found_move m x g.next)) (h ∙ sym (around_found text g w)) ∙ name_made w (state_of text g) m
      ∙ ap (λ (a : Mode). by_name a (state_of text g) w) e

-- The code's step with a token.
module _ {levels : List CodeLevel} {out : List ℕ} {at : ℕ} {s : Stage} {g : Course} (text : List ℕ) (t : CodedToken) (h : Holds levels out at s g) {m : Move} {levels' : List CodeLevel}
    {out' : List ℕ} {r : Result Stage Refused} (d : Does levels out s t.start m levels' out' r) where
  abbrev x : List ℕ
  x = word_at text t.start

  abbrev Taken : Type 0
  Taken = Steps text r (Holds levels' out' (at + 1)) (step (state_of text g) (from_kind t.kind x))

  as_token : {k : Kind} → t.kind ≡ k → Steps text r (Holds levels' out' (at + 1)) (step (state_of text g) (from_kind k x)) → Taken
  as_token e w = subst (λ (k : Kind). Steps text r (Holds levels' out' (at + 1)) (step (state_of text g) (from_kind k x))) (sym e) w

  pub takes_name : (end : ℕ) → g.header ≡ header_names text end → t.kind ≡ Name → {f : Found} → f ≡ names_found text levels s.depth s.top end x → m ≡ found_move s.mode f s.next → Taken
  unfolding from_kind
  takes_name end e k {f} p q =
      let here : f ≡ through_all text (g.here.code ∷ codes g.under) x (found_in g.header x) =
      p ∙ (λ i. through_all text (sym h.its_top i ∷ sym h.its_levels i) x (found_in (sym e i) x)) in
      let own : m ≡ found_move s.mode f g.next = q ∙ ap (found_move s.mode f) h.its_next in
      as_token k (subst (Steps text r (Holds levels' out' (at + 1))) (ap (made x (state_of text g)) own ∙ name_step text g s.mode h.its_mode x here)
      (d.does text at g h (subst (Valid g) (sym own) (name_valid g s.mode f g.next))))

  pub takes_sign : {k : ℕ} → t.kind ≡ Sign k → {c : Scope} → c ≡ closer_in s.top → m ≡ sign_move s.mode c k → Taken
  unfolding from_kind
  takes_sign {k} e {c} p q =
      let by : c ≡ closer_in g.here.code = p ∙ ap closer_in (sym h.its_top) in
      as_token e (subst (Steps text r (Holds levels' out' (at + 1))) (ap (made x (state_of text g)) q ∙ sign_step text g s.mode h.its_mode k x by)
      (d.does text at g h (subst (Valid g) (sym q) (sign_valid g s.mode h.its_mode c k by))))

-- No other token may stand in a statement.
pub takes_stray : (text : List ℕ) (t : CodedToken) (g : Course) {H : Stage → Course → Type 0} → ((v : ℕ) × (t.kind ≡ Number v)) ⊎ ((t.kind ≡ NoToken) ⊎ (t.kind ≡ End))
    → Steps text (Err Grammar) H (step (state_of text g) (from_kind t.kind (word_at text t.start)))
unfolding step from_kind
takes_stray text t g {H} o = go o
  where
    stray : {k : Kind} → t.kind ≡ k → step (state_of text g) (from_kind k (word_at text t.start)) ≡ none
        → Steps text (Err Grammar) H (step (state_of text g) (from_kind t.kind (word_at text t.start)))
    stray {k} e n = subst (Steps text (Err Grammar) H) (sym (ap (λ (j : Kind). step (state_of text g) (from_kind j (word_at text t.start))) e ∙ n)) (faulted refl)

    go : ((v : ℕ) × (t.kind ≡ Number v)) ⊎ ((t.kind ≡ NoToken) ⊎ (t.kind ≡ End)) → Steps text (Err Grammar) H (step (state_of text g) (from_kind t.kind (word_at text t.start)))
    go (inl e) = stray e.1 refl
    go (inr (inl e)) = stray e refl
    go (inr (inr e)) = stray e refl
