-- From wherever the reading has come, some text goes on from there: its levels are closed one after the other, with the names that nobody
-- can write where a name is due. Assumes nothing.
use mathlib.Core.Path.{◌≡◌, refl, sym, ap, ap₂, ◌∙◌, subst}
use mathlib.Core.Bool.{Bool, true, false, cond, false≢true, ◌&&◌, ◌||◌}
use mathlib.Core.List.{List, [], ◌∷◌, ◌++◌}
use mathlib.Core.Option.{Option, some}
use Prim.Native.Nat.{ℕ, suc, ◌≤◌, max}
use native.Mathlib.Omega.{arith}
use lib.Dec.{T}
use lib.ListN.{length, get_or, replicate, length-replicate}
use Rattle.writing.specs.Written.{record_bytes}
use Rattle.text.specs.Tokens.{Token, sign, name, number, no_token, is_letter, same, NOTHING, PAUSE, EMIT, PRESENT, THEN, ELSE, END, SUSPEND, WHEN, LOOP, TRAP, IN, EXIT, SIGNAL}
use Rattle.text.specs.Tokens.{SEMICOLON, BRACKET, CLOSED, BESIDE}
use Rattle.text.specs.Meaning.{Declaration, signal_named, trap_named, its_name, its_signal, its_depth, passed_over, signal_in, depth_in, declared, go_on, if_new}
use Rattle.text.specs.Machine.{Closer, at_the_end, by_else, by_end, by_when, by_bracket, Level, level_at, moved}
use Rattle.text.specs.Machine.{Mode, due, after, emit_name, exit_name, present_name, trap_name, signal_name, when_name}
use Rattle.text.specs.Machine.{then_due, in_due, is_outermost, complete, State, state, declared_by, around, put, opened, popped, operand_set, whened}
use Rattle.text.specs.Machine.{due_step, closed, after_step, by_sign, by_name, step, run}
use Rattle.text.specs.Faults.{unwritten}
use Rattle.text.proofs.Options.{no_some, went_on, was_new, one_value}
use Rattle.text.proofs.Backward.{either}
use Rattle.text.proofs.Words.{both_so, true_so, other_bytes}
use Rattle.text.proofs.Extended.{Writ, wider, all_around}

-- All names that are declared can be written.
abbrev pub clean : List Declaration → Bool
clean [] = true
clean (d ∷ ds) = is_letter (get_or (its_name d) 0 0) && clean ds

-- Only the outermost level has none around it, and all names are clean.
unfoldable pub Nest : List Level → Level → Type 0
Nest [] l = (is_outermost l.closer ≡ true) × T (clean l.declares)
Nest (m ∷ ms) l = (is_outermost l.closer ≡ false) × T (clean l.declares) × Nest ms m

pub record Sane (s : State) : Type 0 where
  pub its_header : T (clean s.header)
  pub its_levels : Nest s.below s.top

sane_by : {s u : State} → some s ≡ some u → Sane s → Sane u
sane_by e g = subst Sane (one_value e) g

same_nest : (ls : List Level) (l m : Level) → l.closer ≡ m.closer → l.declares ≡ m.declares → Nest ls l → Nest ls m
unfolding Nest
same_nest [] l m e f g = (ap is_outermost (sym e) ∙ g.0, subst (λ (ds : List Declaration). T (clean ds)) f g.1)
same_nest (k ∷ ks) l m e f g = (ap is_outermost (sym e) ∙ g.0, subst (λ (ds : List Declaration). T (clean ds)) f g.1, g.2)

module _ (s : State) (f : Sane s) {u : State} where
  same_levels : {m : Mode} {b : List ℕ} {n : ℕ} → some (state s.header m s.top s.below b n) ≡ some u → Sane u
  same_levels e = sane_by e (record { its_header = f.its_header; its_levels = f.its_levels })

  one_level : {m : Mode} {b : List ℕ} {n : ℕ} {l : Level} → is_outermost l.closer ≡ false → T (clean l.declares) → some (state s.header m l (s.top ∷ s.below) b n) ≡ some u → Sane u
  unfolding Nest
  one_level c d e = sane_by e (record { its_header = f.its_header; its_levels = (c, d, f.its_levels) })

  moved_level : {b : List ℕ} {m : Mode} {n a x : ℕ} → some (state s.header m (moved s.top a x) s.below b n) ≡ some u
      → Sane u
  moved_level e = sane_by e (record { its_header = f.its_header; its_levels = same_nest s.below s.top _ refl refl f.its_levels })

  no_level : (ls : List Level) (m : Mode) → Nest ls s.top → popped ls s m ≡ some u → Sane u
  unfolding Nest popped
  no_level [] m g e = absurd (no_some e)
  no_level (l ∷ ls) m g e = sane_by e (record { its_header = f.its_header; its_levels = g.2 })

  other_part : (ls : List Level) {a n : ℕ} {b : List ℕ} → by_else ≡ s.top.closer → Nest ls s.top → some (state s.header due (level_at by_end [] a) ls b n) ≡ some u → Sane u
  unfolding Nest
  other_part [] q g e = absurd (false≢true (ap is_outermost q ∙ g.0))
  other_part (l ∷ ls) q g e = sane_by e (record { its_header = f.its_header; its_levels = (refl, tt, g.2) })

  due_sane : (k : ℕ) → due_step s k ≡ some u → Sane u
  unfolding due_step
  due_sane k e =
      either k NOTHING _ _ e (λ q e. same_levels e) λ e. either k PAUSE _ _ e (λ q e. same_levels e) λ e. either k EMIT _ _ e (λ q e. same_levels e) λ e.
      either k EXIT _ _ e (λ q e. same_levels e) λ e. either k PRESENT _ _ e (λ q e. same_levels e) λ e. either k TRAP _ _ e (λ q e. same_levels e) λ e.
      either k SIGNAL _ _ e (λ q e. same_levels e) λ e. either k SUSPEND _ _ e (λ q e. one_level refl tt e) λ e. either k LOOP _ _ e (λ q e. one_level refl tt e) λ e.
      either k BRACKET _ _ e (λ q e. one_level refl tt e) λ e. absurd (no_some e)

  closed_sane : (c : Closer) (k : ℕ) → c ≡ s.top.closer → closed c s k ≡ some u → Sane u
  unfolding closed
  closed_sane at_the_end k q e = absurd (no_some e)
  closed_sane by_else k q e = either k ELSE _ _ e (λ z e. other_part s.below q f.its_levels e) λ e. absurd (no_some e)
  closed_sane by_end k q e = either k END _ _ e (λ z e. no_level s.below after f.its_levels e) λ e. absurd (no_some e)
  closed_sane by_when k q e = either k WHEN _ _ e (λ z e. no_level s.below when_name f.its_levels e) λ e. absurd (no_some e)
  closed_sane by_bracket k q e = either k CLOSED _ _ e (λ z e. no_level s.below after f.its_levels e) λ e. absurd (no_some e)

  sign_sane : (m : Mode) (k : ℕ) → by_sign m s k ≡ some u → Sane u
  unfolding by_sign after_step
  sign_sane due k e = due_sane k e
  sign_sane after k e = either k SEMICOLON _ _ e (λ q e. moved_level e) λ e. either k BESIDE _ _ e (λ q e. moved_level e) λ e. closed_sane s.top.closer k refl e
  sign_sane emit_name k e = absurd (no_some e)
  sign_sane exit_name k e = absurd (no_some e)
  sign_sane present_name k e = absurd (no_some e)
  sign_sane trap_name k e = absurd (no_some e)
  sign_sane signal_name k e = absurd (no_some e)
  sign_sane when_name k e = absurd (no_some e)
  sign_sane then_due k e = either k THEN _ _ e (λ q e. same_levels e) λ e. absurd (no_some e)
  sign_sane in_due k e = either k IN _ _ e (λ q e. same_levels e) λ e. absurd (no_some e)

  name_sane : (m : Mode) (x : List ℕ) → T (is_letter (get_or x 0 0)) → by_name m s x ≡ some u → Sane u
  unfolding by_name
  name_sane due x t e = absurd (no_some e)
  name_sane after x t e = absurd (no_some e)
  name_sane emit_name x t e = same_levels (went_on (signal_in (around s) x) _ e).2
  name_sane exit_name x t e = same_levels (went_on (depth_in (around s) x) _ e).2
  name_sane present_name x t e = one_level refl tt (went_on (signal_in (around s) x) _ e).2
  name_sane trap_name x t e = one_level refl (subst T (sym (ap (λ (z : Bool). z && true) (true_so (is_letter (get_or x 0 0)) t))) tt) (was_new (declared (around s) x) _ e).1
  name_sane signal_name x t e = one_level refl (subst T (sym (ap (λ (z : Bool). z && true) (true_so (is_letter (get_or x 0 0)) t))) tt) (was_new (declared (around s) x) _ e).1
  name_sane when_name x t e = same_levels (went_on (signal_in (around s) x) _ e).2
  name_sane then_due x t e = absurd (no_some e)
  name_sane in_due x t e = absurd (no_some e)

  pub step_sane : (t : Token) → Writ t → step s t ≡ some u → Sane u
  unfolding step
  step_sane (sign k) w e = sign_sane s.mode k e
  step_sane (name x) w e = name_sane s.mode x w e
  step_sane (number v) w e = absurd (no_some e)
  step_sane no_token w e = absurd (no_some e)

-- The names that nobody can write are found behind clean names.
not_nothing : (x : List ℕ) → T (is_letter (get_or x 0 0)) → same x [] ≡ false
unfolding same
not_nothing [] t = absurd t
not_nothing (b ∷ x) t = refl

not_a_zero : (x : List ℕ) → T (is_letter (get_or x 0 0)) → same x (0 ∷ []) ≡ false
not_a_zero x t = other_bytes x (0 ∷ []) λ e. subst (λ (y : List ℕ). T (is_letter (get_or y 0 0))) e t

signal_there : (ds : List Declaration) → T (clean ds) → signal_in (ds ++ unwritten) [] ≡ some 0
unfolding signal_in same
signal_there [] t = refl
signal_there (d ∷ ds) t =
    let q = both_so (is_letter (get_or (its_name d) 0 0)) (clean ds) t in
    ap (λ (z : Bool). cond z (its_signal d) (signal_in (ds ++ unwritten) [])) (not_nothing (its_name d) q.0) ∙ signal_there ds q.1

trap_there : (ds : List Declaration) → T (clean ds) → (n : ℕ) × (depth_in (ds ++ unwritten) (0 ∷ []) ≡ some n)
unfolding depth_in same
trap_there [] t = (0, refl)
trap_there (d ∷ ds) t =
    let q = both_so (is_letter (get_or (its_name d) 0 0)) (clean ds) t in
    let r = trap_there ds q.1 in
    let p = passed d r.0 in
    (p.0, ap (λ (z : Bool). cond z (its_depth d) (passed_over d (depth_in (ds ++ unwritten) (0 ∷ [])))) (not_a_zero (its_name d) q.0) ∙ ap (passed_over d) r.1 ∙ p.1)
  where
    passed : (d : Declaration) (m : ℕ) → (n : ℕ) × (passed_over d (some m) ≡ some n)
    passed (signal_named x s) m = (m, refl)
    passed (trap_named x) m = (suc m, refl)

clean_both : (ds es : List Declaration) → T (clean ds) → T (clean es) → T (clean (ds ++ es))
clean_both [] es t u = u
clean_both (d ∷ ds) es t u =
    let q = both_so (is_letter (get_or (its_name d) 0 0)) (clean ds) t in
    subst T (sym (ap₂ (λ (y z : Bool). y && z) (true_so (is_letter (get_or (its_name d) 0 0)) q.0) (true_so (clean (ds ++ es)) (clean_both ds es q.1 u)))) tt

around_clean : (h : List Declaration) (ls : List Level) (l : Level) → T (clean h) → Nest ls l → T (clean (l.declares ++ declared_by h ls))
unfolding Nest declared_by
around_clean h [] l t g = clean_both l.declares h g.1 t
around_clean h (m ∷ ms) l t g = clean_both l.declares (declared_by h (m ∷ ms)) g.1 (around_clean h ms m t g.2)

-- A new name, longer than all that are declared.
pub longest : List Declaration → ℕ
longest [] = 0
longest (d ∷ ds) = max (length (its_name d)) (longest ds)

longer_new : (ds : List Declaration) (n : ℕ) → longest ds ≤ n → declared ds (replicate (suc n) 65) ≡ false
unfolding longest declared
longer_new [] n l = refl
longer_new (d ∷ ds) n l =
    ap₂ (λ (y z : Bool). y || z) (other_bytes (its_name d) (replicate (suc n) 65) λ e. too_long (ap (λ (x : List ℕ). length x) e)) (longer_new ds n (omega (arith, l)))
  where
    too_long : length (its_name d) ≡ length {A = ℕ} (replicate (suc n) 65) → ⊥
    too_long e = omega (arith, e, l, length-replicate {A = ℕ} (suc n) 65)

abbrev pub fresh : List Declaration → List ℕ
fresh ds = replicate (suc (longest ds)) 65

pub fresh_new : (ds : List Declaration) → declared ds (fresh ds) ≡ false
fresh_new ds = longer_new ds (longest ds) (omega arith)

-- The machine goes on to an end.
pub record Goes (s : State) : Type 0 where
  pub tokens : List Token
  pub last : State
  pub runs : run s tokens ≡ some last
  pub ends : complete last.mode last.top.closer ≡ true

first_then : {s u : State} (t : Token) → step s t ≡ some u → Goes u → Goes s
unfolding run
first_then t e g = record { tokens = t ∷ g.tokens; last = g.last; runs = ap (λ (o : Option State). go_on o λ u. run u g.tokens) e ∙ g.runs; ends = g.ends }

module _ (h : List Declaration) (clean_header : T (clean h)) where
  abbrev at : Mode → Level → List Level → List ℕ → ℕ → State
  at m l ls b n = state (h ++ unwritten) m l ls b n

  a_signal : (l : Level) (ls : List Level) (b : List ℕ) (m : Mode) (n : ℕ) → Nest ls l → signal_in (around (at m l ls b n)) [] ≡ some 0
  a_signal l ls b m n g = ap (λ (ds : List Declaration). signal_in ds []) (all_around (state h m l ls b n)) ∙ signal_there (l.declares ++ declared_by h ls) (around_clean h ls l clean_header g)

  a_trap : (l : Level) (ls : List Level) (b : List ℕ) (m : Mode) (n : ℕ) → Nest ls l → (d : ℕ) × (depth_in (around (at m l ls b n)) (0 ∷ []) ≡ some d)
  a_trap l ls b m n g =
      let r = trap_there (l.declares ++ declared_by h ls) (around_clean h ls l clean_header g) in (r.0, ap (λ (ds : List Declaration). depth_in ds (0 ∷ [])) (all_around (state h m l ls b n)) ∙ r.1)

  -- The word that closes a level, and what follows.
  close_one : (c : Closer) (l m : Level) (ms : List Level) (b : List ℕ) (n : ℕ) → l.closer ≡ c → is_outermost c ≡ false → Nest ms m → ((b : List ℕ) → Goes (at after m ms b n))
      → Goes (at after l (m ∷ ms) b n)
  unfolding step by_sign after_step closed popped due_step by_name
  close_one at_the_end l m ms b n q f g ih = absurd (false≢true (sym f))
  close_one by_else l m ms b n q f g ih =
      first_then (sign ELSE) (ap (λ (c : Closer). closed c (at after l (m ∷ ms) b n) ELSE) q) (first_then (sign NOTHING) refl (first_then (sign END) refl (ih (b ++ record_bytes 16 0))))
  close_one by_end l m ms b n q f g ih = first_then (sign END) (ap (λ (c : Closer). closed c (at after l (m ∷ ms) b n) END) q) (ih b)
  close_one by_when l m ms b n q f g ih =
      first_then (sign WHEN) (ap (λ (c : Closer). closed c (at after l (m ∷ ms) b n) WHEN) q)
      (first_then (name []) (ap (λ (o : Option ℕ). go_on o λ k. some (whened (at when_name m ms b n) k)) (a_signal m ms b when_name n g)) (ih (operand_set 0 m.link b)))
  close_one by_bracket l m ms b n q f g ih = first_then (sign CLOSED) (ap (λ (c : Closer). closed c (at after l (m ∷ ms) b n) CLOSED) q) (ih b)

  close_all : (ls : List Level) (l : Level) (b : List ℕ) (n : ℕ) → Nest ls l → Goes (at after l ls b n)
  unfolding Nest run complete
  close_all [] l b n g = record { tokens = []; last = at after l [] b n; runs = refl; ends = g.0 }
  close_all (m ∷ ms) l b n g = close_one l.closer l m ms b n refl g.0 g.2 (λ c. close_all ms m c n g.2)

  due_on : (l : Level) (ls : List Level) (b : List ℕ) (n : ℕ) → Nest ls l → Goes (at due l ls b n)
  unfolding step by_sign due_step
  due_on l ls b n g = first_then (sign NOTHING) refl (close_all ls l (b ++ record_bytes 16 0) n g)

  mode_on : (m : Mode) (l : Level) (ls : List Level) (b : List ℕ) (n : ℕ) → Nest ls l → Goes (at m l ls b n)
  unfolding step by_sign by_name Nest
  mode_on due l ls b n g = due_on l ls b n g
  mode_on after l ls b n g = close_all ls l b n g
  mode_on emit_name l ls b n g =
      first_then (name []) (ap (λ (o : Option ℕ). go_on o λ k. some (put (at emit_name l ls b n) 18 k after)) (a_signal l ls b emit_name n g)) (close_all ls l (b ++ record_bytes 18 0) n g)
  mode_on exit_name l ls b n g =
      let r = a_trap l ls b exit_name n g in
      first_then (name (0 ∷ [])) (ap (λ (o : Option ℕ). go_on o λ k. some (put (at exit_name l ls b n) 25 k after)) r.1) (close_all ls l (b ++ record_bytes 25 r.0) n g)
  mode_on present_name l ls b n g =
      let s = at present_name l ls b n in
      first_then (name []) (ap (λ (o : Option ℕ). go_on o λ k. some (opened (put s 19 k due) by_else [] n then_due)) (a_signal l ls b present_name n g))
      (first_then (sign THEN) refl (due_on (level_at by_else [] (length (b ++ record_bytes 19 0))) (l ∷ ls) (b ++ record_bytes 19 0) n (refl, tt, g)))
  mode_on trap_name l ls b n g =
      let s = at trap_name l ls b n in
      let x = fresh (around s) in
      first_then (name x) (ap (λ (z : Bool). if_new z (some (opened (put s 24 0 due) by_end (trap_named x ∷ []) n in_due))) (fresh_new (around s)))
      (first_then (sign IN) refl (due_on (level_at by_end (trap_named x ∷ []) (length (b ++ record_bytes 24 0))) (l ∷ ls) (b ++ record_bytes 24 0) n (refl, tt, g)))
  mode_on signal_name l ls b n g =
      let s = at signal_name l ls b n in
      let x = fresh (around s) in
      first_then (name x) (ap (λ (z : Bool). if_new z (some (opened (put s 26 n due) by_end (signal_named x n ∷ []) (suc n) in_due))) (fresh_new (around s)))
      (first_then (sign IN) refl (due_on (level_at by_end (signal_named x n ∷ []) (length (b ++ record_bytes 26 n))) (l ∷ ls) (b ++ record_bytes 26 n) (suc n) (refl, tt, g)))
  mode_on when_name l ls b n g =
      first_then (name []) (ap (λ (o : Option ℕ). go_on o λ k. some (whened (at when_name l ls b n) k)) (a_signal l ls b when_name n g)) (close_all ls l (operand_set 0 l.link b) n g)
  mode_on then_due l ls b n g = first_then (sign THEN) refl (due_on l ls b n g)
  mode_on in_due l ls b n g = first_then (sign IN) refl (due_on l ls b n g)

pub goes_on : (s : State) → Sane s → Goes (wider s)
goes_on s f = mode_on s.header f.its_header s.mode s.top s.below s.block s.next f.its_levels
