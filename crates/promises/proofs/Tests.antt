-- Each test on its own is the test that the definitions of the calls make: of a record, of two pauses, of an input set, of a log, of the final
-- round. Each way by the laws of the crate that has the test. Assumes nothing.
use mathlib.Core.Path.{◌≡◌, refl, sym, ap, ap₂, ◌∙◌, subst}
use mathlib.Core.Logic.{◌⊎◌, inl, inr, ◌≢◌}
use mathlib.Core.Bool.{Bool, true, false, not, cond, ◌&&◌, ◌||◌, true≢false}
use mathlib.Core.List.{List}
use mathlib.Core.Option.{Option, none, some}
use Prim.Native.Nat.{ℕ, ◌+◌, ◌/◌, ◌^◌, ◌≤◌, ◌<◌}
use native.Mathlib.Omega.{arith}
use lib.Dec.{T, eqb, ltb, leb, not_T, lt→ltb, eqb→eq}
use lib.Count.{count_trailing_zeros}
use lib.ListN.{length}
use borrow.Author.Tests.{eqb-true, eqb-false, ltb-true, ltb-false, leb-true, leb-false, eq-eqb, ne_eqb}
use Rattle.sets.specs.Numbers.{Numbers, some_to, lowest}
use Rattle.sets.specs.Words.{bits, two_words}
use Rattle.sets.proofs.Members.{is_true, of_true, is_false, of_false, and_in, and_left, and_right}
use Rattle.sets.proofs.Counts.{lowest_some}
use Rattle.sets.proofs.Maxima.{some_to_in, some_to_out}
use Rattle.sets.proofs.Words.{bits_shift, lt_pow, lowest_there}
use Rattle.rules.specs.Statements.{Block}
use Rattle.rules.specs.Events.{Status, Hearing, event}
use Rattle.rules.specs.MustCan.{must, gives}
use Rattle.rules.specs.States.{State, fresh, running, finished, active_of, compatible, step}
use Rattle.rules.specs.Rounds.{begin, Rounds, answered, not_constructive, react}
use Rattle.theorems.specs.Checked.{Checked}
use Rattle.theorems.specs.Traces.{Instant, answers, refuses}
use Rattle.theorems.proofs.Instants.{reacts}
use Rattle.theorems.proofs.Demand3.{rounds_are_determined}
use Rattle.block.specs.Format.{Good}
use Rattle.records.specs.StateRecord.{length_in, kind_in, phase_in, low_in, high_in, Found, not_a_state, state, active_in, none_active, beyond, in_phase}
use Rattle.records.specs.StateRecord.{read_state, Pair, paired, with_second, clashes, first_clash, undeclared_input, in_both, bad_inputs}
use Rattle.records.specs.LogRecord.{no_room}
use Rattle.records.proofs.TwoWords.{set_of_none, none_from, beyond_in, beyond_out}
use Rattle.records.proofs.Reading.{read_sized, read_headed, read_kind}
use Rattle.records.proofs.Pairs.{clash_first, clash_second, clash_lower, clash_apart}
use Rattle.records.proofs.LegalStates.{no_clash, found_ran}
use Rattle.records.proofs.Logs.{has_room, room_has}
use Rattle.promises.specs.Demand1.{WrongState, not_26_bytes, wrong_length, wrong_kind, wrong_phase, bit_beyond, bits_while_fresh}
use Rattle.promises.specs.Demand1.{none_while_running, bits_while_finished, Incompatible, FirstPair, BadBit, InBoth, WrongInputs, NoRoom}
use Rattle.reaction.specs.Fronts.{wrong_inputs}
use Rattle.reaction.specs.declared.Given.{Given}
use Rattle.reaction.specs.declared.Given.TheVariants.{All, Two}

-- STATE.
no_state : (x y z : Bool) (f : Found) → f ≡ not_a_state → cond (x && y && z) f not_a_state ≡ not_a_state
no_state true true true f e = e
no_state true true false f e = refl
no_state true false z f e = refl
no_state false y z f e = refl

module _ (n : ℕ) (s : List ℕ) where
  abbrev p : ℕ
  p = phase_in s

  abbrev A : Numbers
  A = active_in s

  by_phase : in_phase p n s ≡ not_a_state → read_state n s ≡ not_a_state
  unfolding read_state
  by_phase e = no_state (eqb (length s) 26) (eqb (length_in s) 26) (eqb (kind_in s) 2) (in_phase p n s) e

  -- a bit is set: the words are not both 0
  not_clear : (m : ℕ) → T (A m) → none_active s ≡ false
  not_clear m h = is_false (none_active s) λ t.
      let low : low_in s ≡ 0 = eqb→eq (low_in s) 0 (and_left (eqb (low_in s) 0) (eqb (high_in s) 0) t) in
      let high : high_in s ≡ 0 = eqb→eq (high_in s) 0 (and_right (eqb (low_in s) 0) (eqb (high_in s) 0) t) in
      of_false (ap₂ (λ (x y : ℕ). two_words 64 x y m) low high ∙ set_of_none m) h

  beyond_fails : (a b c clear far : Bool) → clear ≡ false → far ≡ true
      → cond {A = Found} (a && clear) (state fresh) (cond (b && not clear && not far) (state (running A)) (cond (c && clear) (state finished) not_a_state)) ≡ not_a_state
  beyond_fails a b c true far e f = absurd (true≢false e)
  beyond_fails a b c false false e f = absurd (true≢false (sym f))
  beyond_fails true true true false true e f = refl
  beyond_fails true true false false true e f = refl
  beyond_fails true false true false true e f = refl
  beyond_fails true false false false true e f = refl
  beyond_fails false true true false true e f = refl
  beyond_fails false true false false true e f = refl
  beyond_fails false false true false true e f = refl
  beyond_fails false false false false true e f = refl

  pub wrong_read : WrongState n s → read_state n s ≡ not_a_state
  unfolding in_phase
  wrong_read (not_26_bytes h) = sym (read_sized n s h)
  wrong_read (wrong_length h) = sym (read_headed n s refl h)
  wrong_read (wrong_kind h) = sym (read_kind n s refl h)
  wrong_read (wrong_phase h) = by_phase (rw (ne_eqb p 0 (λ e. omega arith), ne_eqb p 1 (λ e. omega arith), ne_eqb p 2 (λ e. omega arith)))
  wrong_read (bit_beyond m l h k) =
      by_phase (beyond_fails (eqb p 0) (eqb p 1) (eqb p 2) (none_active s) (beyond n A) (not_clear m h) (is_true (beyond n A) (beyond_in n A {m = m} l k h)))
  wrong_read (bits_while_fresh e h) = by_phase (rw (e, h))
  wrong_read (none_while_running e h) = by_phase (rw (e, h))
  wrong_read (bits_while_finished e h) = by_phase (rw (e, h))

  -- a bit of the record is one of the state that it holds, and the other way
  pub found_set : (st : State) → read_state n s ≡ state st → (m : ℕ) → T (A m) → T (active_of st m)
  unfolding read_state in_phase active_of
  found_set st e m h = go (eqb (length s) 26) (eqb (length_in s) 26) (eqb (kind_in s) 2) (eqb p 0) (eqb p 1) (eqb p 2) (none_active s) (beyond n A) (not_clear m h) e
    where
      absent : {X : Type 0} → not_a_state ≡ state st → X
      absent q = let z : ◌≡◌ {A = ℕ} 0 1 = cc in absurd (omega arith)

      ran : state (running A) ≡ state st → T (active_of st m)
      ran q = let r : running A ≡ st = cc in subst (λ (x : State). T (active_of x m)) r h

      go : (x y z a b c clear far : Bool) → clear ≡ false
          → cond (x && y && z) (cond (a && clear) (state fresh) (cond (b && not clear && not far) (state (running A)) (cond (c && clear) (state finished) not_a_state))) not_a_state ≡ state st
          → T (active_of st m)
      go x y z a b c true far f q = absurd (true≢false f)
      go false y z a b c false far f q = absent q
      go true false z a b c false far f q = absent q
      go true true false a b c false far f q = absent q
      go true true true true true c false false f q = ran q
      go true true true false true c false false f q = ran q
      go true true true true true true false true f q = absent q
      go true true true true true false false true f q = absent q
      go true true true false true true false true f q = absent q
      go true true true false true false false true f q = absent q
      go true true true true false true false far f q = absent q
      go true true true true false false false far f q = absent q
      go true true true false false true false far f q = absent q
      go true true true false false false false far f q = absent q

  pub set_found : (st : State) → read_state n s ≡ state st → (m : ℕ) → T (active_of st m) → T (A m)
  unfolding active_of
  set_found fresh e m h = absurd h
  set_found (running B) e m h = subst (λ (X : Numbers). T (X m)) (sym (found_ran n s B e).its_set) h
  set_found finished e m h = absurd h

  not_found : {st : State} → state st ≡ not_a_state → WrongState n s
  not_found e = let z : ◌≡◌ {A = ℕ} 0 1 = cc in absurd (omega arith)

  pub read_wrong : read_state n s ≡ not_a_state → WrongState n s
  unfolding read_state in_phase
  read_wrong e =
      go (eqb (length s) 26) (eqb (length_in s) 26) (eqb (kind_in s) 2) (eqb p 0) (eqb p 1) (eqb p 2) (none_active s) (beyond n A) refl refl refl refl refl refl refl refl e
    where
      go : (x y z a b c clear far : Bool) → eqb (length s) 26 ≡ x → eqb (length_in s) 26 ≡ y → eqb (kind_in s) 2 ≡ z → eqb p 0 ≡ a → eqb p 1 ≡ b → eqb p 2 ≡ c
          → none_active s ≡ clear → beyond n A ≡ far
          → cond (x && y && z) (cond (a && clear) (state fresh) (cond (b && not clear && not far) (state (running A)) (cond (c && clear) (state finished) not_a_state))) not_a_state ≡ not_a_state
          → WrongState n s
      go false y z a b c clear far ex ey ez ea eb ec et ef q = not_26_bytes (eqb-false (length s) 26 ex)
      go true false z a b c clear far ex ey ez ea eb ec et ef q = wrong_length (eqb-false (length_in s) 26 ey)
      go true true false a b c clear far ex ey ez ea eb ec et ef q = wrong_kind (eqb-false (kind_in s) 2 ez)
      go true true true true b c true far ex ey ez ea eb ec et ef q = not_found q
      go true true true true b c false far ex ey ez ea eb ec et ef q = bits_while_fresh (eqb-true p 0 ea) et
      go true true true false true c true far ex ey ez ea eb ec et ef q = none_while_running (eqb-true p 1 eb) et
      go true true true false true c false true ex ey ez ea eb ec et ef q = let r = beyond_out n A (of_true ef) in bit_beyond r.0 r.1 r.3 r.2
      go true true true false true c false false ex ey ez ea eb ec et ef q = not_found q
      go true true true false false true true far ex ey ez ea eb ec et ef q = not_found q
      go true true true false false true false far ex ey ez ea eb ec et ef q = bits_while_finished (eqb-true p 2 ec) et
      go true true true false false false clear far ex ey ez ea eb ec et ef q =
          let u : p ≢ 0 = eqb-false p 0 ea in
          let v : p ≢ 1 = eqb-false p 1 eb in
          let w : p ≢ 2 = eqb-false p 2 ec in
          wrong_phase (omega arith)

not_below : (i m : ℕ) → (i < m → ⊥) → m ≤ i
not_below i m h = go (ltb i m) refl
  where
    go : (x : Bool) → ltb i m ≡ x → m ≤ i
    go true e = absurd (h (ltb-true i m e))
    go false e = ltb-false i m e

-- CLASH. The first pair that clashes does, and where there is none no two do.
module _ (g : Good) (A : Numbers) where
  apart : (m n : ℕ) → n < 128 → T (clashes g.body A m n) → Incompatible g A m n
  apart m n l t = record {
    first_active = clash_first g.body A m n t;
    second_active = clash_second g.body A m n t;
    lower = clash_lower g.body A m n t;
    of_the_128 = l;
    not_compatible = clash_apart g.body A m n t;
  }

  together : (m n : ℕ) → Incompatible g A m n → T (clashes g.body A m n)
  unfolding clashes
  together m n i =
      and_in (A m && A n && ltb m n) (not (compatible g.body m n))
      (and_in (A m && A n) (ltb m n) (and_in (A m) (A n) i.first_active i.second_active) (lt→ltb m n i.lower))
      (not_T (compatible g.body m n) i.not_compatible)

  pub none_clash : first_clash g.body A ≡ none → (m n : ℕ) → Incompatible g A m n → ⊥
  none_clash e m n i = no_clash g.body A e m n (let l : m < n = i.lower in let h : n < 128 = i.of_the_128 in omega arith) i.of_the_128 (together m n i)

  pub first_pair : (pair : Pair) → first_clash g.body A ≡ some pair → FirstPair g A pair.first pair.second
  unfolding first_clash
  first_pair pair e = outer (lowest 128 (λ m. some_to (clashes g.body A m) 127)) refl e
    where
      from : (m : ℕ) → lowest 128 (λ i. some_to (clashes g.body A i) 127) ≡ some m → (n : ℕ) → lowest 128 (clashes g.body A m) ≡ some n → FirstPair g A m n
      from m q n r =
          let a = lowest_some 128 (λ i. some_to (clashes g.body A i) 127) q in
          let c = lowest_some 128 (clashes g.body A m) r in
          record {
            is_pair = apart m n c.0 c.1;
            lowest_first =
                λ i j k. not_below i m (λ l. a.2 i l (some_to_in (clashes g.body A i) {m = j} 127 (let h : j < 128 = k.of_the_128 in omega arith) (together i j k)));
            then_lowest_second = λ j k. not_below j n (λ l. c.2 j l (together m j k));
          }

      inner : (m : ℕ) → lowest 128 (λ i. some_to (clashes g.body A i) 127) ≡ some m → (o : Option ℕ) → lowest 128 (clashes g.body A m) ≡ o → paired m o ≡ some pair
          → FirstPair g A pair.first pair.second
      inner m q none r f = let z : ◌≡◌ {A = ℕ} 0 1 = cc in absurd (omega arith)
      inner m q (some n) r f =
          let k : record { first = m; second = n } ≡ pair = cc in
          subst (λ (x : Pair). FirstPair g A x.first x.second) k (from m q n r)

      outer : (o : Option ℕ) → lowest 128 (λ m. some_to (clashes g.body A m) 127) ≡ o → with_second g.body A o ≡ some pair → FirstPair g A pair.first pair.second
      outer none q f = let z : ◌≡◌ {A = ℕ} 0 1 = cc in absurd (omega arith)
      outer (some m) q f = inner m q (lowest 128 (clashes g.body A m)) refl f

pub or_none : (x y : Bool) → (x || y) ≡ false → (x ≡ false) × (y ≡ false)
or_none true y e = absurd (true≢false e)
or_none false y e = (refl, e)

-- INPUT. A number that is not 0 has a bit.
module _ (k w : ℕ) where
  pub declared_none : undeclared_input k w ≡ false → (n : ℕ) → T (bits w n) → k ≤ n → ⊥
  unfolding undeclared_input
  declared_none e n t l = none_from w k (eqb-true (w / 2 ^ k) 0 (is_true (eqb (w / 2 ^ k) 0) (not_out (eqb (w / 2 ^ k) 0) e))) l t
    where
      not_out : (x : Bool) → not x ≡ false → T x
      not_out true e = tt
      not_out false e = absurd (true≢false e)

  pub undeclared_some : undeclared_input k w ≡ true → (n : ℕ) × (k ≤ n) × T (bits w n)
  unfolding undeclared_input
  undeclared_some e =
      let x : ℕ = w / 2 ^ k in
      let s = lowest_some x (bits x) (lowest_there x {x = x} (lt_pow x) (λ z. of_false (ap not (eq-eqb x 0 z)) (of_true e))) in
      (k + count_trailing_zeros x x, omega arith, subst T (sym (bits_shift w k (count_trailing_zeros x x))) s.1)

-- and of what is given: a set, or two of them
module _ (k : ℕ) where
  pub bad_bit : (w : ℕ) → undeclared_input k w ≡ true → BadBit k w
  bad_bit w e = let r = undeclared_some k w e in record { signal = r.0; is_set = r.2; at_or_above = r.1 }

  pub inputs_none : (w : Given) → wrong_inputs k w ≡ false → WrongInputs k w → ⊥
  unfolding wrong_inputs bad_inputs in_both
  inputs_none (All w) e t = declared_none k w e t.signal t.is_set t.at_or_above
  inputs_none (Two p a) e (inl t) =
      declared_none k p (or_none (undeclared_input k p) (undeclared_input k a || in_both p a) e).0 t.signal t.is_set t.at_or_above
  inputs_none (Two p a) e (inr (inl t)) =
      declared_none k a (or_none (undeclared_input k a) (in_both p a) (or_none (undeclared_input k p) (undeclared_input k a || in_both p a) e).1).0
      t.signal t.is_set t.at_or_above
  inputs_none (Two p a) e (inr (inr t)) =
      of_false (or_none (undeclared_input k a) (in_both p a) (or_none (undeclared_input k p) (undeclared_input k a || in_both p a) e).1).1
      (some_to_in (λ n. bits p n && bits a n) {m = t.signal} 63 (let l : t.signal < 64 = t.of_the_64 in omega arith)
      (and_in (bits p t.signal) (bits a t.signal) t.is_present t.is_absent))

  pub inputs_some : (w : Given) → wrong_inputs k w ≡ true → WrongInputs k w
  unfolding wrong_inputs bad_inputs in_both
  inputs_some (All w) e = bad_bit w e
  inputs_some (Two p a) e = go (undeclared_input k p) refl (undeclared_input k a) refl
    where
      shared : T (in_both p a) → InBoth p a
      shared t =
          let r = some_to_out (λ n. bits p n && bits a n) 63 t in
          record {
            signal = r.0;
            of_the_64 = let l : r.0 ≤ 63 = r.1 in omega arith;
            is_present = and_left (bits p r.0) (bits a r.0) r.2;
            is_absent = and_right (bits p r.0) (bits a r.0) r.2;
          }

      go : (x : Bool) → undeclared_input k p ≡ x → (y : Bool) → undeclared_input k a ≡ y → BadBit k p ⊎ (BadBit k a ⊎ InBoth p a)
      go true f y h = inl (bad_bit p f)
      go false f true h = inr (inl (bad_bit a h))
      go false f false h = inr (inr (shared (of_true (sym (ap₂ (λ (x y : Bool). x || (y || in_both p a)) f h) ∙ e))))

-- ROOM.
pub room_missing : (log : List ℕ) (end : ℕ) → no_room log end ≡ true → NoRoom log end
room_missing log end e = go (leb (end + 32) (length log)) refl
  where
    go : (x : Bool) → leb (end + 32) (length log) ≡ x → NoRoom log end
    go true q = absurd (true≢false (sym e ∙ room_has log end (leb-true (end + 32) (length log) q)))
    go false q = inr (leb-false (end + 32) (length log) q)

pub room_there : (log : List ℕ) (end : ℕ) → no_room log end ≡ false → NoRoom log end → ⊥
room_there log end e (inl h) = let r : end + 32 ≤ length log = has_room log end e in omega arith
room_there log end e (inr h) = let r : end + 32 ≤ length log = has_room log end e in omega arith

-- NOT CONSTRUCTIVE. The rules' answer is an instant of theirs, and its rounds have one end.
module _ (b : Block) (st : State) (given : Hearing) where
  pub record NoCode : Type 0 where
    pub rounds : ℕ
    pub final : List Status
    pub final_round : Rounds b (step b.body st) given (begin b) rounds final
    pub no_code : (c : ℕ) → T ((gives must (step b.body st) (event b given final)).codes c) → ⊥

  doubt : {vs : List Status} {n : ℕ} → Instant b st given (not_constructive vs n) → NoCode
  doubt (refuses {vs = vs} {n = n} r f) = record { rounds = n; final = vs; final_round = r; no_code = f }

  no_doubt : {vs : List Status} {c n : ℕ} {st' : State} → Instant b st given (answered vs c st' n) → NoCode → ⊥
  no_doubt (answers {c = c} r t) d =
      d.no_code c (subst (λ (vs : List Status). T ((gives must (step b.body st) (event b given vs)).codes c))
      (rounds_are_determined b (step b.body st) given r d.final_round).1 t)

  module _ (checked : Checked b) where
    pub code_unknown : (vs : List Status) (n : ℕ) → react b st given ≡ not_constructive vs n → NoCode
    code_unknown vs n e = doubt (subst (Instant b st given) e (reacts b st given checked))

    pub code_known : (vs : List Status) (c : ℕ) (st' : State) (n : ℕ) → react b st given ≡ answered vs c st' n → NoCode → ⊥
    code_known vs c st' n e = no_doubt (subst (Instant b st given) e (reacts b st given checked))
