-- The machine ends well only on the tokens of some tree with its names in order. What the rest of the tokens must be, from the mode and
-- the levels that are open, is shown from the last token back: each step puts its token before what follows. Assumes nothing.
use mathlib.Core.Path.{◌≡◌, refl, sym, ap, ap₂, ◌∙◌, subst}
use mathlib.Core.Bool.{Bool, true, false, cond, false≢true}
use mathlib.Core.List.{List, [], ◌∷◌, ◌++◌}
use mathlib.Core.Option.{Option, none, some}
use Prim.Native.Nat.{ℕ, suc}
use lib.Dec.{T, eqb, eqb→eq}
use lib.ListN.{length}
use Rattle.writing.specs.Written.{record_bytes}
use Rattle.text.specs.Tokens.{Token, sign, name, number, no_token, NOTHING, PAUSE, EMIT, PRESENT, THEN, ELSE, END, SUSPEND, WHEN, LOOP, TRAP, IN, EXIT, SIGNAL}
use Rattle.text.specs.Tokens.{SEMICOLON, BRACKET, CLOSED, BESIDE}
use Rattle.text.specs.Grammar.{Arms, only, ◌beside◌, Chain, alone, ◌before◌, Basic, Nothing, Pause, Emit, Exit, Present, Suspend, Loop, Trap, Signal, Bracket, arms, chain, basic}
use Rattle.text.specs.Meaning.{Declaration, signal_named, trap_named, signal_in, depth_in, declared, go_on, if_new, Part, above, joined, arms_means, chain_means, basic_means}
use Rattle.text.specs.Machine.{Closer, at_the_end, by_else, by_end, by_when, by_bracket, Level, level_at, Mode, due, after, emit_name, exit_name, present_name, trap_name, signal_name, when_name}
use Rattle.text.specs.Machine.{then_due, in_due, is_outermost, complete, State, state, declared_by, around, to, put, opened, popped}
use Rattle.text.specs.Machine.{due_step, closed, after_step, by_sign, by_name, step, run}
use Rattle.text.proofs.Options.{no_some, went_on, was_new, one_value}

-- What may follow a basic statement inside a level: the rest of its sequence, and more arms.
data Tail : Type 0 where
  no_more : Tail
  in_chain : Chain → Tail
  more_arms : Arms → Tail
  both : Chain → Arms → Tail

abbrev tail : Tail → List Token → List Token
tail no_more k = k
tail (in_chain c) k = sign SEMICOLON ∷ chain c k
tail (more_arms p) k = sign BESIDE ∷ arms p k
tail (both c p) k = sign SEMICOLON ∷ chain c (sign BESIDE ∷ arms p k)

-- The number of the next local behind it, where its names are in order.
abbrev next_of : Option Part → Option ℕ
next_of o = go_on o λ w. some w.next

abbrev tail_next : Tail → List Declaration → ℕ → Option ℕ
tail_next no_more ds n = some n
tail_next (in_chain c) ds n = next_of (chain_means c ds n)
tail_next (more_arms p) ds n = next_of (arms_means p ds n)
tail_next (both c p) ds n = go_on (next_of (chain_means c ds n)) λ m. next_of (arms_means p ds m)

-- A basic statement and what follows it make a statement.
abbrev join : Basic → Tail → Arms
join b no_more = only (alone b)
join b (in_chain c) = only (b before c)
join b (more_arms p) = alone b beside p
join b (both c p) = (b before c) beside p

join_spelt : (b : Basic) (t : Tail) (k : List Token) → arms (join b t) k ≡ basic b (tail t k)
unfolding arms
join_spelt b no_more k = refl
join_spelt b (in_chain c) k = refl
join_spelt b (more_arms p) k = refl
join_spelt b (both c p) k = refl

-- Only the number of the next local is looked at.
above_next : (r : List ℕ) (o : Option Part) → next_of (above r o) ≡ next_of o
above_next r none = refl
above_next r (some w) = refl

joined_next : (r : List ℕ) (o : Option Part) (f : ℕ → Option Part) → next_of (joined r o f) ≡ go_on (next_of o) (λ m. next_of (f m))
joined_next r none f = refl
joined_next r (some w) f = second (f w.next)
  where
    second : (q : Option Part) → next_of (go_on q λ q. some (record { records = r ++ (w.records ++ q.records); next = q.next })) ≡ next_of q
    second none = refl
    second (some v) = refl

then_next : {o : Option ℕ} {m : ℕ} {j : Option ℕ} (f : ℕ → Option ℕ) → o ≡ some m → f m ≡ j → go_on o f ≡ j
then_next f e g = ap (λ (o : Option ℕ). go_on o f) e ∙ g

join_next : (b : Basic) (t : Tail) (ds : List Declaration) (n m : ℕ) {j : ℕ} → next_of (basic_means b ds n) ≡ some m → tail_next t ds m ≡ some j
    → next_of (arms_means (join b t) ds n) ≡ some j
unfolding arms_means
join_next b no_more ds n m e f = e ∙ f
join_next b (in_chain c) ds n m e f = joined_next (record_bytes 21 0) (basic_means b ds n) (λ m. chain_means c ds m) ∙ then_next _ e f
join_next b (more_arms p) ds n m e f = joined_next (record_bytes 23 0) (basic_means b ds n) (λ m. arms_means p ds m) ∙ then_next _ e f
join_next b (both c p) ds n m {j} e f =
    let u = went_on (next_of (chain_means c ds m)) _ f in
    joined_next (record_bytes 23 0) (chain_means (b before c) ds n) (λ m. arms_means p ds m)
    ∙ then_next _ (joined_next (record_bytes 21 0) (basic_means b ds n) (λ m. chain_means c ds m) ∙ then_next _ e u.1) u.2

-- A statement and what closes it; what follows a basic statement and closes; the word that closes a level; a name and what follows.
record Begun (ds : List Declaration) (n : ℕ) (K : ℕ → List Token → Type 0) (ts : List Token) : Type 0 where
  tree : Arms
  later : ℕ
  rest : List Token
  ordered : next_of (arms_means tree ds n) ≡ some later
  its_tokens : ts ≡ arms tree rest
  closes : K later rest

record Following (ds : List Declaration) (n : ℕ) (K : ℕ → List Token → Type 0) (ts : List Token) : Type 0 where
  what : Tail
  later : ℕ
  rest : List Token
  ordered : tail_next what ds n ≡ some later
  its_tokens : ts ≡ tail what rest
  closes : K later rest

record Word (k : ℕ) (K : List Token → Type 0) (ts : List Token) : Type 0 where
  rest : List Token
  its_tokens : ts ≡ sign k ∷ rest
  goes : K rest

record Found (look : List ℕ → Option ℕ) (K : List Token → Type 0) (ts : List Token) : Type 0 where
  its_name : List ℕ
  found : ℕ
  rest : List Token
  its_tokens : ts ≡ name its_name ∷ rest
  there : look its_name ≡ some found
  goes : K rest

record New (ds : List Declaration) (K : List ℕ → List Token → Type 0) (ts : List Token) : Type 0 where
  its_name : List ℕ
  rest : List Token
  its_tokens : ts ≡ name its_name ∷ rest
  is_new : declared ds its_name ≡ false
  goes : K its_name rest

module _ (h : List Declaration) where
  abbrev here : Level → List Level → List Declaration
  here l ls = l.declares ++ declared_by h ls

  -- How a level closes, and what follows in those around it.
  Closes : List Level → Closer → ℕ → List Token → Type 0
  Closes [] at_the_end n k = k ≡ []
  Closes [] by_else n k = ⊥
  Closes [] by_end n k = ⊥
  Closes [] by_when n k = ⊥
  Closes [] by_bracket n k = ⊥
  Closes (l ∷ ls) at_the_end n k = k ≡ []
  Closes (l ∷ ls) by_else n k =
      Word ELSE (λ t. Begun (here l ls) n (λ m r. Word END (λ u. Following (here l ls) m (λ j q. Closes ls l.closer j q) u) r) t) k
  Closes (l ∷ ls) by_end n k = Word END (λ u. Following (here l ls) n (λ j q. Closes ls l.closer j q) u) k
  Closes (l ∷ ls) by_when n k = Word WHEN (λ t. Found (λ x. signal_in (here l ls) x) (λ u. Following (here l ls) n (λ j q. Closes ls l.closer j q) u) t) k
  Closes (l ∷ ls) by_bracket n k = Word CLOSED (λ u. Following (here l ls) n (λ j q. Closes ls l.closer j q) u) k

  -- What the tokens are that the machine ends well on, from its mode and its levels.
  pub Rest : Mode → Level → List Level → ℕ → List Token → Type 0
  unfolding Closes
  Rest due l ls n ts = Begun (here l ls) n (λ m r. Closes ls l.closer m r) ts
  Rest after l ls n ts = Following (here l ls) n (λ m r. Closes ls l.closer m r) ts
  Rest emit_name l ls n ts = Found (λ x. signal_in (here l ls) x) (λ u. Following (here l ls) n (λ m r. Closes ls l.closer m r) u) ts
  Rest exit_name l ls n ts = Found (λ x. depth_in (here l ls) x) (λ u. Following (here l ls) n (λ m r. Closes ls l.closer m r) u) ts
  Rest present_name l ls n ts =
      Found (λ x. signal_in (here l ls) x) (λ u. Word THEN (λ t. Begun (here l ls) n (λ m r. Closes (l ∷ ls) by_else m r) t) u) ts
  Rest trap_name l ls n ts = New (here l ls) (λ x u. Word IN (λ t. Begun (trap_named x ∷ here l ls) n (λ m r. Closes (l ∷ ls) by_end m r) t) u) ts
  Rest signal_name l ls n ts = New (here l ls) (λ x u. Word IN (λ t. Begun (signal_named x n ∷ here l ls) (suc n) (λ m r. Closes (l ∷ ls) by_end m r) t) u) ts
  Rest when_name l ls n ts = Found (λ x. signal_in (here l ls) x) (λ u. Following (here l ls) n (λ m r. Closes ls l.closer m r) u) ts
  Rest then_due l ls n ts = Word THEN (λ t. Begun (here l ls) n (λ m r. Closes ls l.closer m r) t) ts
  Rest in_due l ls n ts = Word IN (λ t. Begun (here l ls) n (λ m r. Closes ls l.closer m r) t) ts

-- The same of a state.
abbrev pub Left : State → List Token → Type 0
Left s ts = Rest s.header s.mode s.top s.below s.next ts

left_by : (ts : List Token) {s u : State} → some s ≡ some u → Left u ts → Left s ts
left_by ts e g = subst (λ (v : State). Left v ts) (sym (one_value e)) g

pub either : {A P : Type 0} (k c : ℕ) (x y : Option A) {u : A} → cond (eqb k c) x y ≡ some u → (k ≡ c → x ≡ some u → P) → (y ≡ some u → P) → P
either {P = P} k c x y {u} e f g = go (eqb k c) refl e
  where
    go : (z : Bool) → eqb k c ≡ z → cond z x y ≡ some u → P
    go true q e = f (eqb→eq k c (subst T (sym q) tt)) e
    go false q e = g e

-- A basic statement before what follows it.
begun : (b : Basic) (ds : List Declaration) (n m : ℕ) (K : ℕ → List Token → Type 0) (ts r : List Token) → next_of (basic_means b ds n) ≡ some m → Following ds m K r → ts ≡ basic b r
    → Begun ds n K ts
begun b ds n m K ts r e f q = record {
  tree = join b f.what;
  later = f.later;
  rest = f.rest;
  ordered = join_next b f.what ds n m e f.ordered;
  its_tokens = q ∙ ap (λ (k : List Token). basic b k) f.its_tokens ∙ sym (join_spelt b f.what f.rest);
  closes = f.closes;
}

module _ (s : State) (u : State) (k : ℕ) (ts : List Token) where
  abbrev ds : List Declaration
  ds = here s.header s.top s.below

  abbrev K : ℕ → List Token → Type 0
  K m r = Closes s.header s.below s.top.closer m r

  -- The token that the machine took, where the test told which.
  is_sign : (c : ℕ) {r : List Token} → k ≡ c → ts ≡ r → sign k ∷ ts ≡ sign c ∷ r
  is_sign c q e = ap₂ (λ (x : ℕ) (l : List Token). sign x ∷ l) q e

  due_emit : k ≡ EMIT → Left (to s emit_name) ts → Begun ds s.next K (sign k ∷ ts)
  unfolding Rest basic_means basic
  due_emit q f =
      begun (Emit f.its_name) ds s.next s.next K _ f.rest
      (ap (λ (o : Option ℕ). next_of (go_on o λ x. some (record { records = record_bytes 18 x; next = s.next }))) f.there) f.goes (is_sign EMIT q f.its_tokens)

  due_exit : k ≡ EXIT → Left (to s exit_name) ts → Begun ds s.next K (sign k ∷ ts)
  unfolding Rest basic_means basic
  due_exit q f =
      begun (Exit f.its_name) ds s.next s.next K _ f.rest
      (ap (λ (o : Option ℕ). next_of (go_on o λ x. some (record { records = record_bytes 25 x; next = s.next }))) f.there) f.goes (is_sign EXIT q f.its_tokens)

  due_present : k ≡ PRESENT → Left (to s present_name) ts → Begun ds s.next K (sign k ∷ ts)
  unfolding Rest Closes basic_means basic
  due_present q f =
      let n = s.next in
      let t = f.goes in
      let p = t.goes in
      let e = p.closes in
      let o = e.goes in
      let w = o.closes in
      let x = f.its_name in
      let ordered : next_of (basic_means (Present x p.tree o.tree) ds n) ≡ some o.later =
      ap (λ (z : Option ℕ). next_of (go_on z λ y. joined (record_bytes 19 y) (arms_means p.tree ds n) λ m. arms_means o.tree ds m)) f.there
      ∙ joined_next (record_bytes 19 f.found) (arms_means p.tree ds n) (λ m. arms_means o.tree ds m) ∙ then_next _ p.ordered o.ordered in
      let second : o.rest ≡ sign END ∷ w.rest = w.its_tokens in
      let first : p.rest ≡ sign ELSE ∷ arms o.tree (sign END ∷ w.rest) =
      e.its_tokens ∙ ap (λ (l : List Token). sign ELSE ∷ l) (o.its_tokens ∙ ap (λ (l : List Token). arms o.tree l) second) in
      begun (Present x p.tree o.tree) ds n o.later K _ w.rest ordered w.goes
      (is_sign PRESENT q (f.its_tokens ∙ ap (λ (l : List Token). name x ∷ l)
      (t.its_tokens ∙ ap (λ (l : List Token). sign THEN ∷ l) (p.its_tokens ∙ ap (λ (l : List Token). arms p.tree l) first))))

  due_trap : k ≡ TRAP → Left (to s trap_name) ts → Begun ds s.next K (sign k ∷ ts)
  unfolding Rest Closes basic_means basic
  due_trap q f =
      let n = s.next in
      let t = f.goes in
      let p = t.goes in
      let w = p.closes in
      let x = f.its_name in
      let ordered : next_of (basic_means (Trap x p.tree) ds n) ≡ some p.later =
      ap (λ (z : Bool). next_of (if_new z (above (record_bytes 24 0) (arms_means p.tree (trap_named x ∷ ds) n)))) f.is_new
      ∙ above_next (record_bytes 24 0) (arms_means p.tree (trap_named x ∷ ds) n) ∙ p.ordered in
      begun (Trap x p.tree) ds n p.later K _ w.rest ordered w.goes
      (is_sign TRAP q (f.its_tokens ∙ ap (λ (l : List Token). name x ∷ l)
      (t.its_tokens ∙ ap (λ (l : List Token). sign IN ∷ l) (p.its_tokens ∙ ap (λ (l : List Token). arms p.tree l) w.its_tokens))))

  due_signal : k ≡ SIGNAL → Left (to s signal_name) ts → Begun ds s.next K (sign k ∷ ts)
  unfolding Rest Closes basic_means basic
  due_signal q f =
      let n = s.next in
      let t = f.goes in
      let p = t.goes in
      let w = p.closes in
      let x = f.its_name in
      let ordered : next_of (basic_means (Signal x p.tree) ds n) ≡ some p.later =
      ap (λ (z : Bool). next_of (if_new z (above (record_bytes 26 n) (arms_means p.tree (signal_named x n ∷ ds) (suc n))))) f.is_new
      ∙ above_next (record_bytes 26 n) (arms_means p.tree (signal_named x n ∷ ds) (suc n)) ∙ p.ordered in
      begun (Signal x p.tree) ds n p.later K _ w.rest ordered w.goes
      (is_sign SIGNAL q (f.its_tokens ∙ ap (λ (l : List Token). name x ∷ l)
      (t.its_tokens ∙ ap (λ (l : List Token). sign IN ∷ l) (p.its_tokens ∙ ap (λ (l : List Token). arms p.tree l) w.its_tokens))))

  due_suspend : k ≡ SUSPEND → Left (opened (put s 20 0 due) by_when [] s.next due) ts → Begun ds s.next K (sign k ∷ ts)
  unfolding Rest Closes basic_means basic declared_by
  due_suspend q p =
      let n = s.next in
      let w = p.closes in
      let f = w.goes in
      let x = f.its_name in
      let ordered : next_of (basic_means (Suspend p.tree x) ds n) ≡ some p.later =
      ap (λ (z : Option ℕ). next_of (go_on z λ y. above (record_bytes 20 y) (arms_means p.tree ds n))) f.there
      ∙ above_next (record_bytes 20 f.found) (arms_means p.tree ds n) ∙ p.ordered in
      begun (Suspend p.tree x) ds n p.later K _ f.rest ordered f.goes
      (is_sign SUSPEND q (p.its_tokens ∙ ap (λ (l : List Token). arms p.tree l) (w.its_tokens ∙ ap (λ (l : List Token). sign WHEN ∷ l) f.its_tokens)))

  due_loop : k ≡ LOOP → Left (opened (put s 22 0 due) by_end [] s.next due) ts → Begun ds s.next K (sign k ∷ ts)
  unfolding Rest Closes basic_means basic declared_by
  due_loop q p =
      let w = p.closes in
      begun (Loop p.tree) ds s.next p.later K _ w.rest (above_next (record_bytes 22 0) (arms_means p.tree ds s.next) ∙ p.ordered) w.goes
      (is_sign LOOP q (p.its_tokens ∙ ap (λ (l : List Token). arms p.tree l) w.its_tokens))

  due_bracket : k ≡ BRACKET → Left (opened s by_bracket [] s.next due) ts → Begun ds s.next K (sign k ∷ ts)
  unfolding Rest Closes basic_means basic declared_by
  due_bracket q p =
      let w = p.closes in
      begun (Bracket p.tree) ds s.next p.later K _ w.rest p.ordered w.goes
      (is_sign BRACKET q (p.its_tokens ∙ ap (λ (l : List Token). arms p.tree l) w.its_tokens))

  due_before : due_step s k ≡ some u → Left u ts → Rest s.header due s.top s.below s.next (sign k ∷ ts)
  unfolding Rest due_step basic_means basic
  due_before e g =
      either k NOTHING _ _ e (λ q e. begun Nothing ds s.next s.next K _ ts refl (left_by ts e g) (is_sign NOTHING q refl)) λ e.
      either k PAUSE _ _ e (λ q e. begun Pause ds s.next s.next K _ ts refl (left_by ts e g) (is_sign PAUSE q refl)) λ e.
      either k EMIT _ _ e (λ q e. due_emit q (left_by ts e g)) λ e.
      either k EXIT _ _ e (λ q e. due_exit q (left_by ts e g)) λ e.
      either k PRESENT _ _ e (λ q e. due_present q (left_by ts e g)) λ e.
      either k TRAP _ _ e (λ q e. due_trap q (left_by ts e g)) λ e.
      either k SIGNAL _ _ e (λ q e. due_signal q (left_by ts e g)) λ e.
      either k SUSPEND _ _ e (λ q e. due_suspend q (left_by ts e g)) λ e.
      either k LOOP _ _ e (λ q e. due_loop q (left_by ts e g)) λ e.
      either k BRACKET _ _ e (λ q e. due_bracket q (left_by ts e g)) λ e. absurd (no_some e)

  -- After a statement: more of its sequence, more arms, or the word that closes its level.
  semicolon_before : (p : Arms) (m : ℕ) (r : List Token) → next_of (arms_means p ds s.next) ≡ some m → ts ≡ arms p r → K m r → k ≡ SEMICOLON
      → Following ds s.next K (sign k ∷ ts)
  unfolding arms arms_means
  semicolon_before (only c) m r e t g q = record { what = in_chain c; later = m; rest = r; ordered = e; its_tokens = is_sign SEMICOLON q t; closes = g }
  semicolon_before (c beside p) m r e t g q = record {
    what = both c p;
    later = m;
    rest = r;
    ordered = sym (joined_next (record_bytes 23 0) (chain_means c ds s.next) (λ j. arms_means p ds j)) ∙ e;
    its_tokens = is_sign SEMICOLON q t;
    closes = g;
  }

  closing : Closes s.header s.below s.top.closer s.next (sign k ∷ ts) → Following ds s.next K (sign k ∷ ts)
  closing g = record { what = no_more; later = s.next; rest = sign k ∷ ts; ordered = refl; its_tokens = refl; closes = g }

  ended_before : (ls : List Level) → popped ls s after ≡ some u → Left u ts → k ≡ END → Closes s.header ls by_end s.next (sign k ∷ ts)
  unfolding popped Closes Rest
  ended_before [] e g q = absurd (no_some e)
  ended_before (l ∷ ls) e g q = record { rest = ts; its_tokens = is_sign END q refl; goes = left_by ts e g }

  bracket_before : (ls : List Level) → popped ls s after ≡ some u → Left u ts → k ≡ CLOSED → Closes s.header ls by_bracket s.next (sign k ∷ ts)
  unfolding popped Closes Rest
  bracket_before [] e g q = absurd (no_some e)
  bracket_before (l ∷ ls) e g q = record { rest = ts; its_tokens = is_sign CLOSED q refl; goes = left_by ts e g }

  when_before : (ls : List Level) → popped ls s when_name ≡ some u → Left u ts → k ≡ WHEN → Closes s.header ls by_when s.next (sign k ∷ ts)
  unfolding popped Closes Rest
  when_before [] e g q = absurd (no_some e)
  when_before (l ∷ ls) e g q = record { rest = ts; its_tokens = is_sign WHEN q refl; goes = left_by ts e g }

  else_before : (ls : List Level) → some (state s.header due (level_at by_end [] (length s.block)) ls s.block s.next) ≡ some u → Left u ts → k ≡ ELSE
      → Closes s.header ls by_else s.next (sign k ∷ ts)
  unfolding Closes Rest declared_by
  else_before [] e g q = absurd (left_by ts e g).closes
  else_before (l ∷ ls) e g q = record { rest = ts; its_tokens = is_sign ELSE q refl; goes = left_by ts e g }

  closed_before : (c : Closer) → closed c s k ≡ some u → Left u ts → Closes s.header s.below c s.next (sign k ∷ ts)
  unfolding closed
  closed_before at_the_end e g = absurd (no_some e)
  closed_before by_else e g = either k ELSE _ _ e (λ q e. else_before s.below e g q) λ e. absurd (no_some e)
  closed_before by_end e g = either k END _ _ e (λ q e. ended_before s.below e g q) λ e. absurd (no_some e)
  closed_before by_when e g = either k WHEN _ _ e (λ q e. when_before s.below e g q) λ e. absurd (no_some e)
  closed_before by_bracket e g = either k CLOSED _ _ e (λ q e. bracket_before s.below e g q) λ e. absurd (no_some e)

  after_before : after_step s k ≡ some u → Left u ts → Rest s.header after s.top s.below s.next (sign k ∷ ts)
  unfolding Rest after_step
  after_before e g =
      either k SEMICOLON _ _ e (λ q e. let b = left_by ts e g in semicolon_before b.tree b.later b.rest b.ordered b.its_tokens b.closes q) λ e.
      either k BESIDE _ _ e (λ q e. let b = left_by ts e g in
      record { what = more_arms b.tree; later = b.later; rest = b.rest; ordered = b.ordered; its_tokens = is_sign BESIDE q b.its_tokens; closes = b.closes }) λ e.
      closing (closed_before s.top.closer e g)

  sign_before : (m : Mode) → by_sign m s k ≡ some u → Left u ts → Rest s.header m s.top s.below s.next (sign k ∷ ts)
  unfolding by_sign Rest
  sign_before due e g = due_before e g
  sign_before after e g = after_before e g
  sign_before emit_name e g = absurd (no_some e)
  sign_before exit_name e g = absurd (no_some e)
  sign_before present_name e g = absurd (no_some e)
  sign_before trap_name e g = absurd (no_some e)
  sign_before signal_name e g = absurd (no_some e)
  sign_before when_name e g = absurd (no_some e)
  sign_before then_due e g = either k THEN _ _ e (λ q e. record { rest = ts; its_tokens = is_sign THEN q refl; goes = left_by ts e g }) λ e. absurd (no_some e)
  sign_before in_due e g = either k IN _ _ e (λ q e. record { rest = ts; its_tokens = is_sign IN q refl; goes = left_by ts e g }) λ e. absurd (no_some e)

-- A name that was found, or is new.
name_before : (s u : State) (x : List ℕ) (ts : List Token) (m : Mode) → by_name m s x ≡ some u → Left u ts → Rest s.header m s.top s.below s.next (name x ∷ ts)
unfolding by_name Rest Closes declared_by
name_before s u x ts due e g = absurd (no_some e)
name_before s u x ts after e g = absurd (no_some e)
name_before s u x ts emit_name e g =
    let w = went_on (signal_in (around s) x) _ e in record { its_name = x; found = w.0; rest = ts; its_tokens = refl; there = w.1; goes = left_by ts w.2 g }
name_before s u x ts exit_name e g =
    let w = went_on (depth_in (around s) x) _ e in record { its_name = x; found = w.0; rest = ts; its_tokens = refl; there = w.1; goes = left_by ts w.2 g }
name_before s u x ts present_name e g =
    let w = went_on (signal_in (around s) x) _ e in record { its_name = x; found = w.0; rest = ts; its_tokens = refl; there = w.1; goes = left_by ts w.2 g }
name_before s u x ts trap_name e g =
    let w = was_new (declared (around s) x) _ e in record { its_name = x; rest = ts; its_tokens = refl; is_new = w.0; goes = left_by ts w.1 g }
name_before s u x ts signal_name e g =
    let w = was_new (declared (around s) x) _ e in record { its_name = x; rest = ts; its_tokens = refl; is_new = w.0; goes = left_by ts w.1 g }
name_before s u x ts when_name e g =
    let w = went_on (signal_in (around s) x) _ e in record { its_name = x; found = w.0; rest = ts; its_tokens = refl; there = w.1; goes = left_by ts w.2 g }
name_before s u x ts then_due e g = absurd (no_some e)
name_before s u x ts in_due e g = absurd (no_some e)

token_before : (s u : State) (t : Token) (ts : List Token) → step s t ≡ some u → Left u ts → Left s (t ∷ ts)
unfolding step
token_before s u (sign k) ts e g = sign_before s u k ts s.mode e g
token_before s u (name x) ts e g = name_before s u x ts s.mode e g
token_before s u (number v) ts e g = absurd (no_some e)
token_before s u no_token ts e g = absurd (no_some e)

-- At the end nothing is left.
none_left : (h : List Declaration) (ls : List Level) (c : Closer) (n : ℕ) → is_outermost c ≡ true → Closes h ls c n []
unfolding Closes
none_left h [] at_the_end n e = refl
none_left h [] by_else n e = false≢true e
none_left h [] by_end n e = false≢true e
none_left h [] by_when n e = false≢true e
none_left h [] by_bracket n e = false≢true e
none_left h (l ∷ ls) at_the_end n e = refl
none_left h (l ∷ ls) by_else n e = absurd (false≢true e)
none_left h (l ∷ ls) by_end n e = absurd (false≢true e)
none_left h (l ∷ ls) by_when n e = absurd (false≢true e)
none_left h (l ∷ ls) by_bracket n e = absurd (false≢true e)

complete_left : (h : List Declaration) (m : Mode) (l : Level) (ls : List Level) (n : ℕ) → complete m l.closer ≡ true → Rest h m l ls n []
unfolding complete Rest
complete_left h due l ls n e = absurd (false≢true e)
complete_left h after l ls n e = record { what = no_more; later = n; rest = []; ordered = refl; its_tokens = refl; closes = none_left h ls l.closer n e }
complete_left h emit_name l ls n e = absurd (false≢true e)
complete_left h exit_name l ls n e = absurd (false≢true e)
complete_left h present_name l ls n e = absurd (false≢true e)
complete_left h trap_name l ls n e = absurd (false≢true e)
complete_left h signal_name l ls n e = absurd (false≢true e)
complete_left h when_name l ls n e = absurd (false≢true e)
complete_left h then_due l ls n e = absurd (false≢true e)
complete_left h in_due l ls n e = absurd (false≢true e)

pub ended_well : (ts : List Token) (s u : State) → run s ts ≡ some u → complete u.mode u.top.closer ≡ true → Left s ts
unfolding run
ended_well [] s u e c =
    let q = one_value e in subst (λ (v : State). Left v []) (sym q) (complete_left u.header u.mode u.top u.below u.next c)
ended_well (t ∷ ts) s u e c = let w = went_on (step s t) _ e in token_before s w.0 t ts w.1 (ended_well ts w.0 u w.2 c)

-- From a statement that is due at the outermost level: the tokens are those of some tree, and its names are in order.
pub spells_some : (ts : List Token) (h : List Declaration) (at : ℕ) (b : List ℕ) (n : ℕ) (u : State) → run (state h due (level_at at_the_end [] at) [] b n) ts ≡ some u
    → complete u.mode u.top.closer ≡ true → (p : Arms) × (w : Part) × (ts ≡ arms p []) × (arms_means p h n ≡ some w)
unfolding Rest Closes declared_by
spells_some ts h at b n u e c =
    let g = ended_well ts (state h due (level_at at_the_end [] at) [] b n) u e c in
    let w = went_on (arms_means g.tree h n) _ g.ordered in
    (g.tree, w.0, g.its_tokens ∙ ap (λ (l : List Token). arms g.tree l) g.closes, w.1)
