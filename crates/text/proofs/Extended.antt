-- Two names that nobody can write, declared around all else, change no step of the reading: no name of a text is one of them.
-- Assumes nothing.
use mathlib.Core.Path.{◌≡◌, refl, sym, ap, ap₂, ◌∙◌, subst}
use mathlib.Core.Bool.{Bool, true, false, cond, ◌&&◌, ◌||◌}
use mathlib.Core.List.{List, [], ◌∷◌, ◌++◌, append_assoc}
use mathlib.Core.Option.{Option, none, some}
use Prim.Native.Nat.{ℕ, suc}
use lib.Dec.{T, eqb, eqb→eq}
use lib.ListN.{get_or}
use Rattle.text.specs.Tokens.{Token, sign, name, number, no_token, is_letter, same, NOTHING, PAUSE, EMIT, PRESENT, THEN, ELSE, END, SUSPEND, WHEN, LOOP, TRAP, IN, EXIT, SIGNAL}
use Rattle.text.specs.Tokens.{VERSION, INPUT, OUTPUT, COMMA, SEMICOLON, BRACKET, CLOSED, BESIDE}
use Rattle.text.specs.Meaning.{Declaration, signal_named, its_name, its_signal, its_depth, passed_over, signal_in, depth_in, declared, go_on, if_new}
use Rattle.text.specs.Machine.{Closer, at_the_end, by_else, by_end, by_when, by_bracket, Level, Mode, due, after, emit_name, exit_name, present_name, trap_name, signal_name, when_name}
use Rattle.text.specs.Machine.{then_due, in_due, State, state, declared_by, around, put, opened, popped, turned}
use Rattle.text.specs.Machine.{whened, due_step, closed, after_step, by_sign, by_name, step}
use Rattle.text.specs.Reader.{Due, version_due, number_due, version_closed, inputs_due, outputs_due, input_name, input_named, output_name, output_named, body_due, Heading, heading}
use Rattle.text.specs.Reader.{Reader, in_header, in_body, body_start, body_step, heading_sign, heading_name, heading_number, heading_step, read_step, read_all}
use Rattle.text.specs.Faults.{unwritten}

-- A token that can be written: a name begins with a letter.
abbrev pub Writ : Token → Type 0
Writ (sign k) = Unit {0}
Writ (name x) = T (is_letter (get_or x 0 0))
Writ (number v) = Unit {0}
Writ no_token = Unit {0}

not_empty : (x : List ℕ) → T (is_letter (get_or x 0 0)) → same [] x ≡ false
unfolding same
not_empty [] t = absurd t
not_empty (b ∷ x) t = refl

not_zero : (x : List ℕ) → T (is_letter (get_or x 0 0)) → same (0 ∷ []) x ≡ false
unfolding same
not_zero [] t = absurd t
not_zero (b ∷ x) t = go (eqb 0 b) refl
  where
    go : (z : Bool) → eqb 0 b ≡ z → (z && same [] x) ≡ false
    go true e = absurd (subst (λ (n : ℕ). T (is_letter n)) (sym (eqb→eq 0 b (subst T (sym e) tt))) t)
    go false e = refl

module _ (x : List ℕ) (t : T (is_letter (get_or x 0 0))) where
  same_signal : (ds : List Declaration) → signal_in (ds ++ unwritten) x ≡ signal_in ds x
  unfolding signal_in
  same_signal [] =
      ap (λ (z : Bool). cond z (some 0) (cond (same (0 ∷ []) x) none none)) (not_empty x t) ∙ ap (λ (z : Bool). cond z none none) (not_zero x t)
  same_signal (d ∷ ds) = ap (λ (o : Option ℕ). cond (same (its_name d) x) (its_signal d) o) (same_signal ds)

  same_depth : (ds : List Declaration) → depth_in (ds ++ unwritten) x ≡ depth_in ds x
  unfolding depth_in
  same_depth [] =
      ap (λ (z : Bool). cond z none (cond (same (0 ∷ []) x) (some 0) none)) (not_empty x t) ∙ ap (λ (z : Bool). cond z (some 0) none) (not_zero x t)
  same_depth (d ∷ ds) = ap (λ (o : Option ℕ). cond (same (its_name d) x) (its_depth d) (passed_over d o)) (same_depth ds)

  same_declared : (ds : List Declaration) → declared (ds ++ unwritten) x ≡ declared ds x
  unfolding declared
  same_declared [] = ap₂ (λ (y z : Bool). y || (z || false)) (not_empty x t) (not_zero x t)
  same_declared (d ∷ ds) = ap (λ (z : Bool). same (its_name d) x || z) (same_declared ds)

-- A state with the two names declared around all else.
abbrev pub wider : State → State
wider s = state (s.header ++ unwritten) s.mode s.top s.below s.block s.next

around_wider : (h : List Declaration) (ls : List Level) → declared_by (h ++ unwritten) ls ≡ declared_by h ls ++ unwritten
unfolding declared_by
around_wider h [] = refl
around_wider h (l ∷ ls) = ap (λ (ds : List Declaration). l.declares ++ ds) (around_wider h ls) ∙ sym (append_assoc l.declares (declared_by h ls) unwritten)

pub all_around : (s : State) → around (wider s) ≡ around s ++ unwritten
all_around s = ap (λ (ds : List Declaration). s.top.declares ++ ds) (around_wider s.header s.below) ∙ sym (append_assoc s.top.declares (declared_by s.header s.below) unwritten)

abbrev with_wider : Option State → Option State
with_wider o = go_on o λ u. some (wider u)

either_way : {A B : Type 0} (z : Bool) (x y : Option A) (f : A → Option B) {x' y' : Option B} → x' ≡ go_on x f → y' ≡ go_on y f → cond z x' y' ≡ go_on (cond z x y) f
either_way true x y f e g = e
either_way false x y f e g = g

popped_wider : (ls : List Level) (s : State) (m : Mode) → popped ls (wider s) m ≡ with_wider (popped ls s m)
unfolding popped
popped_wider [] s m = refl
popped_wider (l ∷ ls) s m = refl

module _ (s : State) where
  closed_wider : (c : Closer) (k : ℕ) → closed c (wider s) k ≡ with_wider (closed c s k)
  unfolding closed
  closed_wider at_the_end k = refl
  closed_wider by_else k = either_way (eqb k ELSE) (some (turned s)) none _ refl refl
  closed_wider by_end k = either_way (eqb k END) (popped s.below s after) none _ (popped_wider s.below s after) refl
  closed_wider by_when k = either_way (eqb k WHEN) (popped s.below s when_name) none _ (popped_wider s.below s when_name) refl
  closed_wider by_bracket k = either_way (eqb k CLOSED) (popped s.below s after) none _ (popped_wider s.below s after) refl

  due_wider : (k : ℕ) → due_step (wider s) k ≡ with_wider (due_step s k)
  unfolding due_step
  due_wider k =
      either_way (eqb k NOTHING) _ _ _ refl (either_way (eqb k PAUSE) _ _ _ refl (either_way (eqb k EMIT) _ _ _ refl (either_way (eqb k EXIT) _ _ _ refl
      (either_way (eqb k PRESENT) _ _ _ refl (either_way (eqb k TRAP) _ _ _ refl (either_way (eqb k SIGNAL) _ _ _ refl (either_way (eqb k SUSPEND) _ _ _ refl
      (either_way (eqb k LOOP) _ _ _ refl (either_way (eqb k BRACKET) _ _ _ refl refl)))))))))

  sign_wider : (m : Mode) (k : ℕ) → by_sign m (wider s) k ≡ with_wider (by_sign m s k)
  unfolding by_sign after_step
  sign_wider due k = due_wider k
  sign_wider after k = either_way (eqb k SEMICOLON) _ _ _ refl (either_way (eqb k BESIDE) _ _ _ refl (closed_wider s.top.closer k))
  sign_wider emit_name k = refl
  sign_wider exit_name k = refl
  sign_wider present_name k = refl
  sign_wider trap_name k = refl
  sign_wider signal_name k = refl
  sign_wider when_name k = refl
  sign_wider then_due k = either_way (eqb k THEN) _ _ _ refl refl
  sign_wider in_due k = either_way (eqb k IN) _ _ _ refl refl

  module _ (x : List ℕ) (t : T (is_letter (get_or x 0 0))) where
    found_wider : (o : Option ℕ) (f g : ℕ → State) → ((n : ℕ) → g n ≡ wider (f n)) → (p : Option ℕ) → p ≡ o → go_on p (λ n. some (g n)) ≡ with_wider (go_on o λ n. some (f n))
    found_wider o f g h p e = ap (λ (q : Option ℕ). go_on q (λ n. some (g n))) e ∙ go o
      where
        go : (o : Option ℕ) → go_on o (λ n. some (g n)) ≡ with_wider (go_on o λ n. some (f n))
        go none = refl
        go (some n) = ap (λ (u : State). some u) (h n)

    new_wider : (z y : Bool) (u v : State) → v ≡ wider u → y ≡ z → if_new y (some v) ≡ with_wider (if_new z (some u))
    new_wider true y u v e q = ap (λ (z : Bool). if_new z (some v)) q
    new_wider false y u v e q = ap (λ (z : Bool). if_new z (some v)) q ∙ ap (λ (w : State). some w) e

    signals : signal_in (around (wider s)) x ≡ signal_in (around s) x
    signals = ap (λ (ds : List Declaration). signal_in ds x) (all_around s) ∙ same_signal x t (around s)

    depths : depth_in (around (wider s)) x ≡ depth_in (around s) x
    depths = ap (λ (ds : List Declaration). depth_in ds x) (all_around s) ∙ same_depth x t (around s)

    news : declared (around (wider s)) x ≡ declared (around s) x
    news = ap (λ (ds : List Declaration). declared ds x) (all_around s) ∙ same_declared x t (around s)

    name_wider : (m : Mode) → by_name m (wider s) x ≡ with_wider (by_name m s x)
    unfolding by_name
    name_wider due = refl
    name_wider after = refl
    name_wider emit_name = found_wider _ (λ k. put s 18 k after) _ (λ n. refl) _ signals
    name_wider exit_name = found_wider _ (λ k. put s 25 k after) _ (λ n. refl) _ depths
    name_wider present_name = found_wider _ (λ k. opened (put s 19 k due) by_else [] s.next then_due) _ (λ n. refl) _ signals
    name_wider trap_name = new_wider _ _ _ _ refl news
    name_wider signal_name = new_wider _ _ _ _ refl news
    name_wider when_name = found_wider _ (λ k. whened s k) _ (λ n. refl) _ signals
    name_wider then_due = refl
    name_wider in_due = refl

step_wider : (s : State) (t : Token) → Writ t → step (wider s) t ≡ with_wider (step s t)
unfolding step
step_wider s (sign k) w = sign_wider s s.mode k
step_wider s (name x) w = name_wider s x w s.mode
step_wider s (number v) w = refl
step_wider s no_token w = refl

-- The same of the whole reading.
abbrev pub wide : Reader → Reader
wide (in_header g) = in_header (heading g.awaits g.version g.inputs (g.names ++ unwritten) g.next)
wide (in_body g s) = in_body (heading g.awaits g.version g.inputs (g.names ++ unwritten) g.next) (wider s)

abbrev with_wide : Option Reader → Option Reader
with_wide o = go_on o λ q. some (wide q)

abbrev pub widened : Heading → Heading
widened g = heading g.awaits g.version g.inputs (g.names ++ unwritten) g.next

body_wide : (g : Heading) (s : State) (t : Token) → Writ t → body_step (widened g) (wider s) t ≡ with_wide (body_step g s t)
unfolding body_step
body_wide g s t w = ap (λ (o : Option State). go_on o λ u. some (in_body (widened g) u)) (step_wider s t w) ∙ go (step s t)
  where
    go : (o : Option State) → go_on (with_wider o) (λ u. some (in_body (widened g) u)) ≡ with_wide (go_on o λ u. some (in_body g u))
    go none = refl
    go (some u) = refl

module _ (g : Heading) where
  heading_wide : (m : Due) (k : ℕ) → heading_sign m (widened g) k ≡ with_wide (heading_sign m g k)
  unfolding heading_sign
  heading_wide version_due k = either_way (eqb k VERSION) _ _ _ refl refl
  heading_wide number_due k = refl
  heading_wide version_closed k = either_way (eqb k SEMICOLON) _ _ _ refl refl
  heading_wide inputs_due k = either_way (eqb k INPUT) _ _ _ refl (either_way (eqb k OUTPUT) _ _ _ refl (body_wide g (body_start g) (sign k) tt))
  heading_wide outputs_due k = either_way (eqb k OUTPUT) _ _ _ refl (body_wide g (body_start g) (sign k) tt)
  heading_wide input_name k = refl
  heading_wide input_named k = either_way (eqb k COMMA) _ _ _ refl (either_way (eqb k SEMICOLON) _ _ _ refl refl)
  heading_wide output_name k = refl
  heading_wide output_named k = either_way (eqb k COMMA) _ _ _ refl (either_way (eqb k SEMICOLON) _ _ _ refl refl)
  heading_wide body_due k = body_wide g (body_start g) (sign k) tt

  named_wide : (x : List ℕ) → T (is_letter (get_or x 0 0)) → (r : Reader) → if_new (declared (g.names ++ unwritten) x) (some (wide r)) ≡ with_wide (if_new (declared g.names x) (some r))
  named_wide x t r = ap (λ (z : Bool). if_new z (some (wide r))) (same_declared x t g.names) ∙ go (declared g.names x)
    where
      go : (z : Bool) → if_new z (some (wide r)) ≡ with_wide (if_new z (some r))
      go true = refl
      go false = refl

  names_wide : (m : Due) (x : List ℕ) → T (is_letter (get_or x 0 0)) → heading_name m (widened g) x ≡ with_wide (heading_name m g x)
  unfolding heading_name
  names_wide version_due x t = refl
  names_wide number_due x t = refl
  names_wide version_closed x t = refl
  names_wide inputs_due x t = refl
  names_wide outputs_due x t = refl
  names_wide input_name x t = named_wide x t (in_header (heading input_named g.version g.inputs (signal_named x g.next ∷ g.names) (suc g.next)))
  names_wide input_named x t = refl
  names_wide output_name x t = named_wide x t (in_header (heading output_named g.version g.inputs (signal_named x g.next ∷ g.names) (suc g.next)))
  names_wide output_named x t = refl
  names_wide body_due x t = refl

  number_wide : (m : Due) (v : ℕ) → heading_number m (widened g) v ≡ with_wide (heading_number m g v)
  unfolding heading_number
  number_wide version_due v = refl
  number_wide number_due v = refl
  number_wide version_closed v = refl
  number_wide inputs_due v = refl
  number_wide outputs_due v = refl
  number_wide input_name v = refl
  number_wide input_named v = refl
  number_wide output_name v = refl
  number_wide output_named v = refl
  number_wide body_due v = refl

read_wide : (r : Reader) (t : Token) → Writ t → read_step (wide r) t ≡ with_wide (read_step r t)
unfolding read_step heading_step
read_wide (in_header g) (sign k) w = heading_wide g g.awaits k
read_wide (in_header g) (name x) w = names_wide g g.awaits x w
read_wide (in_header g) (number v) w = number_wide g g.awaits v
read_wide (in_header g) no_token w = refl
read_wide (in_body g s) t w = body_wide g s t w

-- Tokens that can be written.
unfoldable pub AllWrit : List Token → Type 0
AllWrit [] = Unit {0}
AllWrit (t ∷ ts) = Writ t × AllWrit ts

pub all_wide : (ts : List Token) (r : Reader) → AllWrit ts → read_all (wide r) ts ≡ with_wide (read_all r ts)
unfolding read_all AllWrit
all_wide [] r w = refl
all_wide (t ∷ ts) r w = ap (λ (o : Option Reader). go_on o λ q. read_all q ts) (read_wide r t w.0) ∙ go (read_step r t) (λ q. all_wide ts q w.1)
  where
    go : (o : Option Reader) → ((q : Reader) → read_all (wide q) ts ≡ with_wide (read_all q ts)) → go_on (with_wide o) (λ q. read_all q ts) ≡ with_wide (go_on o λ q. read_all q ts)
    go none ih = refl
    go (some q) ih = ih q
