-- Names are looked up from the outermost declaration in: what a name stands for inside one more level follows from what it stands for
-- around it. Assumes nothing.
use mathlib.Core.Path.{◌≡◌, refl, sym, ap, ap₂, ◌∙◌, subst}
use mathlib.Core.Bool.{Bool, true, false, cond}
use mathlib.Core.List.{List, [], ◌∷◌, ◌++◌}
use Prim.Native.Nat.{ℕ, suc, ◌+◌, ◌≤◌, ◌<◌}
use native.Mathlib.Omega.{arith}
use borrow.Author.Tests.{lt-ltb}
use lib.Dec.{T, ltb, ltb→lt}
use lib.ListN.{length}
use Rattle.text.specs.Tokens.{Token, sign, name, number, no_token, Placed, same}
use Rattle.text.specs.Meaning.{Declaration, signal_named}
use Rattle.text.specs.Coded.{from_kind, FrontAt, past_spaces, tokens_from}
use Rattle.std.specs.Prelude.{Some, None}
use Rattle.text.specs.declared.tokens.Kind.{Kind}
use Rattle.text.specs.declared.tokens.Kind.TheVariants.{Sign, Name, Number, Nothing as NoToken, End}
use Rattle.text.specs.declared.tokens.Token.{Token as CodedToken}
use Rattle.text.proofs.Views.{here, none_here}
use Rattle.read_steps.specs.Found.{TrapBelow, beyond_trap, found_in, word_at, opens, level_declares, through_scope, through, passed_name}
use Rattle.read_steps.specs.Found.{found_as, and_named, and_counted, names_until, header_names, header_found, through_all}
use Rattle.read_steps.specs.Levels.{level_in, levels_in}
use Rattle.read_steps.specs.declared.levels.Level.{Level}
use Rattle.read_steps.specs.declared.levels.Scope.{Scope}
use Rattle.read_steps.specs.declared.levels.Scope.TheVariants.{Outermost, ThenPart, EndPart, SuspendBody, InBrackets, TrapBody, SignalBody}
use Rattle.read_steps.proofs.LevelLaws.{levels_count, one_level_more}
use Rattle.read_steps.specs.declared.found.Passed.{Passed}
use Rattle.read_steps.specs.declared.found.Found.{Found}
use Rattle.read_steps.specs.declared.found.Found.TheVariants.{Nothing, Signal, Trap}

pub not_below : (a b : ℕ) → b ≤ a → ltb a b ≡ false
not_below a b l = go (ltb a b) refl
  where
    go : (z : Bool) → ltb a b ≡ z → ltb a b ≡ false
    go true e = absurd (let h = ltb→lt a b (subst T (sym e) tt) in omega (arith, h, l))
    go false e = e

-- A level before declarations.
pub through_found : (text : List ℕ) (l : Level) (ds : List Declaration) (x : List ℕ) → found_in (level_declares text l ++ ds) x ≡ through text l x (found_in ds x)
unfolding found_in opens through_scope
through_found text l ds x = go l.kind
  where
    go : (k : Scope) → found_in (opens k (word_at text l.name) l.number ++ ds) x ≡ through_scope k (word_at text l.name) l.number x (found_in ds x)
    go Outermost = refl
    go ThenPart = refl
    go EndPart = refl
    go SuspendBody = refl
    go InBrackets = refl
    go TrapBody = refl
    go SignalBody = refl

-- An exit passes over no more traps than there are levels.
no_more : (n : ℕ) (f : Found) → TrapBelow n f → TrapBelow (suc n) (beyond_trap f)
unfolding TrapBelow beyond_trap
no_more n Nothing t = tt
no_more n (Signal s) t = tt
no_more n (Trap d) t = omega (arith, t)

pub weaker : (m n : ℕ) (f : Found) → m ≤ n → TrapBelow m f → TrapBelow n f
unfolding TrapBelow
weaker m n Nothing l t = tt
weaker m n (Signal s) l t = tt
weaker m n (Trap d) l t = omega (arith, t, l)

through_below : (k : Scope) (y : List ℕ) (s : ℕ) (x : List ℕ) (f : Found) (n : ℕ) → TrapBelow n f → TrapBelow (suc n) (through_scope k y s x f)
unfolding through_scope TrapBelow
through_below Outermost y s x f n t = weaker n (suc n) f (omega arith) t
through_below ThenPart y s x f n t = weaker n (suc n) f (omega arith) t
through_below EndPart y s x f n t = weaker n (suc n) f (omega arith) t
through_below SuspendBody y s x f n t = weaker n (suc n) f (omega arith) t
through_below InBrackets y s x f n t = weaker n (suc n) f (omega arith) t
through_below TrapBody y s x f n t = own (same y x)
  where
    own : (z : Bool) → TrapBelow (suc n) (cond z (Trap 0) (beyond_trap f))
    own true = omega arith
    own false = no_more n f t
through_below SignalBody y s x f n t = own (same y x)
  where
    own : (z : Bool) → TrapBelow (suc n) (cond z (Signal s) f)
    own true = tt
    own false = weaker n (suc n) f (omega arith) t

pub all_below : (text : List ℕ) (ls : List Level) (x : List ℕ) (f : Found) → TrapBelow 0 f → TrapBelow (length ls) (through_all text ls x f)
unfolding through_all
all_below text [] x f t = t
all_below text (l ∷ ls) x f t = through_below l.kind (word_at text l.name) l.number x (through_all text ls x f) (length ls) (all_below text ls x f t)

-- The header has no traps.
pub record NoTraps (ds : List Declaration) : Type 0 where
  pub no_trap : (x : List ℕ) → TrapBelow 0 (found_in ds x)

one_signal : {y : List ℕ} {n : ℕ} {ds : List Declaration} → NoTraps ds → NoTraps (signal_named y n ∷ ds)
unfolding found_in TrapBelow
one_signal {y} {n} {ds} h = record { no_trap = λ x. go x (same y x) (h.no_trap x) }
  where
    go : (x : List ℕ) (z : Bool) → TrapBelow 0 (found_in ds x) → TrapBelow 0 (cond z (Signal n) (found_in ds x))
    go x true t = tt
    go x false t = t

until_signals : (end : ℕ) (ds : List Declaration) (n : ℕ) (ps : List Placed) → NoTraps ds → NoTraps (names_until end ds n ps)
unfolding names_until
until_signals end ds n [] h = h
until_signals end ds n (p ∷ ps) h =
    go (ltb p.place end) (until_signals end (and_named p.token n ds) (and_counted p.token n) ps (one p.token))
  where
    one : (t : Token) → NoTraps (and_named t n ds)
    one (sign k) = h
    one (name x) = one_signal h
    one (number v) = h
    one no_token = h

    go : (z : Bool) → NoTraps (names_until end (and_named p.token n ds) (and_counted p.token n) ps)
        → NoTraps (cond z (names_until end (and_named p.token n ds) (and_counted p.token n) ps) ds)
    go true q = q
    go false q = h

pub header_signals : (end : ℕ) (ps : List Placed) (x : List ℕ) → TrapBelow 0 (found_in (names_until end [] 0 ps) x)
unfolding TrapBelow found_in
header_signals end ps x = (until_signals end [] 0 ps none).no_trap x
  where
    none : NoTraps []
    none = record { no_trap = λ x. tt }

-- One token of the header.
module _ (text : List ℕ) (start : ℕ) (x : List ℕ) (p : Passed) (ds : List Declaration) (e : found_in ds x ≡ found_as p.found) where
  pub one_passed : (k : Kind) → (and_counted (from_kind k (word_at text start)) p.count ≡ (passed_name text k start x p).count)
      × (found_in (and_named (from_kind k (word_at text start)) p.count ds) x ≡ found_as (passed_name text k start x p).found)
  unfolding from_kind passed_name found_in found_as
  one_passed (Sign k) = (refl, e)
  one_passed Name = let k : suc p.count ≡ p.count + 1 = omega arith in (k, same_one (same (word_at text start) x))
    where
      same_one : (z : Bool) → cond z (Signal p.count) (found_in ds x) ≡ found_as (cond z (Some p.count) p.found)
      same_one true = refl
      same_one false = e
  one_passed (Number v) = (refl, e)
  one_passed NoToken = (refl, e)
  one_passed End = (refl, e)

-- The tokens before a place, and the first that is not.
pub until_here : (end : ℕ) (ds : List Declaration) (n : ℕ) (p : Placed) (ps : List Placed) → p.place < end
    → names_until end ds n (p ∷ ps) ≡ names_until end (and_named p.token n ds) (and_counted p.token n) ps
unfolding names_until
until_here end ds n p ps l = ap (λ (z : Bool). cond z (names_until end (and_named p.token n ds) (and_counted p.token n) ps) ds) (lt-ltb p.place end l)

pub until_past : (end : ℕ) (ds : List Declaration) (n : ℕ) (p : Placed) (ps : List Placed) → end ≤ p.place → names_until end ds n (p ∷ ps) ≡ ds
unfolding names_until
until_past end ds n p ps l = ap (λ (z : Bool). cond z (names_until end (and_named p.token n ds) (and_counted p.token n) ps) ds) (not_below p.place end l)

-- The ways through a level.
module _ (text : List ℕ) (l : Level) (x : List ℕ) (f : Found) where
  pub through_trap : l.kind ≡ TrapBody → {z : Bool} → same (word_at text l.name) x ≡ z → cond z (Trap 0) (beyond_trap f) ≡ through text l x f
  unfolding through_scope
  through_trap e h =
      ap (λ (z : Bool). cond z (Trap 0) (beyond_trap f)) (sym h) ∙ sym (ap (λ (k : Scope). through_scope k (word_at text l.name) l.number x f) e)

  pub through_signal : l.kind ≡ SignalBody → {z : Bool} → same (word_at text l.name) x ≡ z → cond z (Signal l.number) f ≡ through text l x f
  unfolding through_scope
  through_signal e h =
      ap (λ (z : Bool). cond z (Signal l.number) f) (sym h) ∙ sym (ap (λ (k : Scope). through_scope k (word_at text l.name) l.number x f) e)

  pub through_none : (l.kind ≡ TrapBody → ⊥) → (l.kind ≡ SignalBody → ⊥) → f ≡ through text l x f
  unfolding through_scope
  through_none p q = go l.kind p q
    where
      go : (k : Scope) → (k ≡ TrapBody → ⊥) → (k ≡ SignalBody → ⊥) → f ≡ through_scope k (word_at text l.name) l.number x f
      go Outermost p q = refl
      go ThenPart p q = refl
      go EndPart p q = refl
      go SuspendBody p q = refl
      go InBrackets p q = refl
      go TrapBody p q = absurd (p refl)
      go SignalBody p q = absurd (q refl)

pub no_name : (text : List ℕ) (k : Kind) (start : ℕ) (x : List ℕ) (p : Passed) → (k ≡ Name → ⊥) → passed_name text k start x p ≡ p
unfolding passed_name
no_name text (Sign k) start x p n = refl
no_name text Name start x p n = absurd (n refl)
no_name text (Number v) start x p n = refl
no_name text NoToken start x p n = refl
no_name text End start x p n = refl

pub one_name : (text : List ℕ) {k : Kind} (start : ℕ) (x : List ℕ) (p : Passed) → k ≡ Name → {z : Bool} → same (word_at text start) x ≡ z
    → record { count = p.count + 1; found = cond z (Some p.count) p.found } ≡ passed_name text k start x p
unfolding passed_name
one_name text start x p e h =
    ap (λ (y : Bool). record { count = p.count + 1; found = cond y (Some p.count) p.found }) (sym h) ∙ sym (ap (λ (j : Kind). passed_name text j start x p) e)

-- The header's tokens passed so far: the names among them, and the last that is the one looked for.
pub record Passing (text : List ℕ) (end : ℕ) (x : List ℕ) (at : ℕ) (p : Passed) : Type 0 where
  pub inside : at ≤ length text
  pub few : p.count ≤ at
  pub names : List Declaration
  pub so_far : header_names text end ≡ names_until end names p.count (tokens_from text at)
  pub found_there : found_in names x ≡ found_as p.found

pub pass_start : (text : List ℕ) (end : ℕ) (x : List ℕ) → Passing text end x 0 (record { count = 0; found = None })
unfolding found_in found_as
pass_start text end x = record { inside = omega arith; few = omega arith; names = []; so_far = refl; found_there = refl }

module _ {text : List ℕ} {end : ℕ} {x : List ℕ} {at : ℕ} {p : Passed} (w : Passing text end x at p) {t : CodedToken} (f : FrontAt text (past_spaces text at) t) where
  pub pass_more : t.start < length text → t.start < end → {q : Passed} → q ≡ passed_name text t.kind t.start x p → Passing text end x t.end q
  pass_more l m {q} e =
      let h = here text at f l in
      let one = one_passed text t.start x p w.names w.found_there t.kind in
      let tok = from_kind t.kind (word_at text t.start) in
      let c : and_counted tok p.count ≡ q.count = one.0 ∙ sym (ap (λ (r : Passed). r.count) e) in
      record {
        inside = h.within;
        few = few_more tok p.count (omega (arith, w.few, h.later, h.longer)) c;
        names = and_named tok p.count w.names;
        so_far = w.so_far ∙ ap (names_until end w.names p.count) h.first_of
            ∙ until_here end w.names p.count (record { place = t.start; token = tok }) (tokens_from text t.end) m
            ∙ ap (λ (n : ℕ). names_until end (and_named tok p.count w.names) n (tokens_from text t.end)) c;
        found_there = one.1 ∙ sym (ap (λ (r : Passed). found_as r.found) e);
      }
    where
      few_more : (k : Token) (n : ℕ) {m e : ℕ} → n < e → and_counted k n ≡ m → m ≤ e
      few_more (sign k) n l c = omega (arith, l, c)
      few_more (name y) n l c = omega (arith, l, c)
      few_more (number v) n l c = omega (arith, l, c)
      few_more no_token n l c = omega (arith, l, c)

  pub pass_end : length text ≤ t.start → found_as p.found ≡ header_found text end x
  unfolding names_until
  pass_end l = sym (ap (λ (ds : List Declaration). found_in ds x) (w.so_far ∙ ap (names_until end w.names p.count) (none_here text at f l)) ∙ w.found_there)

  pub pass_past : t.start < length text → end ≤ t.start → found_as p.found ≡ header_found text end x
  pass_past l m =
      let h = here text at f l in
      let tok = from_kind t.kind (word_at text t.start) in
      sym (ap (λ (ds : List Declaration). found_in ds x) (w.so_far ∙ ap (names_until end w.names p.count) h.first_of
      ∙ until_past end w.names p.count (record { place = t.start; token = tok }) (tokens_from text t.end) m) ∙ w.found_there)

-- The levels one after the other, from the outermost in.
module _ (text : List ℕ) (levels : List Level) (i end : ℕ) (x : List ℕ) {f : Found} (e : f ≡ through_all text (levels_in levels i) x (header_found text end x)) where
  pub few_traps : i ≤ 1025 → TrapBelow 1025 f
  few_traps l =
      let b = all_below text (levels_in levels i) x (header_found text end x) (header_signals end (tokens_from text 0) x) in
      subst (TrapBelow 1025) (sym e) (weaker (length (levels_in levels i)) 1025 (through_all text (levels_in levels i) x (header_found text end x)) (omega
      (arith, l, levels_count levels i)) b)

  pub one_more_level : {l : Level} {g : Found} → l ≡ level_in levels i → g ≡ through text l x f → g ≡ through_all text (levels_in levels (i + 1)) x (header_found text end x)
  unfolding through_all
  one_more_level h k =
      k ∙ ap₂ (λ (l : Level) (f : Found). through text l x f) h e ∙ sym (ap (λ (ls : List Level). through_all text ls x (header_found text end x)) (one_level_more levels i))
