-- No two differing answers of an instant satisfy its contract: from the fields the answer can be made again. Two answers that would share their
-- fields with another do not come up, since a clash names two different pauses and there is at least one round. Assumes nothing.
use mathlib.Core.Path.{◌≡◌, refl, sym, ◌∙◌, ap, subst}
use mathlib.Core.Logic.{◌≢◌}
use mathlib.Core.Bool.{Bool, true, false, cond, ◌&&◌}
use mathlib.Core.List.{List}
use mathlib.Core.Option.{Option, none, some}
use Prim.Native.Nat.{ℕ, ◌≤◌, ◌<◌}
use native.Mathlib.Omega.{arith}
use lib.Dec.{T, eqb, ltb, ltb→lt}
use borrow.Author.Tests.{ne_eqb}
use Rattle.sets.specs.Numbers.{Numbers, some_to, lowest}
use Rattle.sets.proofs.Members.{and_left, and_right}
use Rattle.sets.proofs.Counts.{lowest_some}
use Rattle.rules.specs.Statements.{Block, Stmt}
use Rattle.rules.specs.States.{State, active_of, step, kept}
use Rattle.rules.specs.Events.{Hearing, event}
use Rattle.rules.specs.MustCan.{must, gives}
use Rattle.rules.specs.Rounds.{Settled, answered, not_constructive, answer, final_of, react}
use Rattle.theorems.proofs.Demand3.{rounds_end}
use Rattle.block.specs.Format.{Good, Reading, good, turned_down, reading}
use Rattle.block.proofs.GoodReadings.{numbers}
use Rattle.records.specs.StateRecord.{Found, not_a_state, state, read_state, names_block, Pair, paired, with_second, clashes, first_clash}
use Rattle.reaction.specs.Fronts.{OTHER_BLOCK, stopped, ready, wrong_inputs, try_inputs, try_clash, clash_tried, try_names, try_state, try_block, front}
use Rattle.reaction.specs.Instants.{Verdict, refused, clash, reacted, Told, told, block_of, goes_on, verdict, heard_of}
use Rattle.refusals.specs.declared.Why.{Why}
use Rattle.reaction.specs.declared.Given.{Given}
use Rattle.foldheron.specs.Answers.{Instant, refusal_at}
use Rattle.reaction.specs.declared.Unanswered.{Unanswered}
use Rattle.std.specs.Prelude.{Ok, Err}
use Rattle.refusals.specs.Refusals.{number, why_of}
use Rattle.refusals.proofs.Laws.{why_back, numbers_differ, number_above}
use Rattle.reaction.specs.Answers.{instant_told}

-- What no field tells: a refusal's number is not that of a clash or a 13, a clash's second pause is above the first, and rounds are counted.
unfoldable Apart : Verdict → Type 0
Apart (refused n at) = (n ≢ 10) × (n ≢ 13)
Apart (clash pair) = pair.first < pair.second
Apart (reacted b (answered outs c st r)) = Unit {0}
Apart (reacted b (not_constructive outs r)) = 1 ≤ r

counted_answer : (b : Block) (r : Settled) (o : Option ℕ) (A : Numbers) → 1 ≤ r.rounds → Apart (reacted b (answer r o A))
unfolding Apart answer
counted_answer b r none A h = h
counted_answer b r (some c) A h = tt

counted : (b : Block) (st : State) (ins : Hearing) → Apart (reacted b (react b st ins))
unfolding react
counted b st ins =
    let r = final_of b st ins in
    let E = event b ins r.statuses in
    let S = step b.body st in
    counted_answer b r (lowest 18 (gives must S E).codes) (kept S E) (rounds_end b st ins).at_least

inputs_apart : (g : Good) (st : State) (given : Given) (roomless : Bool) → Apart (goes_on given roomless (try_inputs g st given))
unfolding Apart try_inputs goes_on
inputs_apart g st given roomless = go (wrong_inputs g.header.inputs given) roomless
  where
    go : (x y : Bool) → Apart (goes_on given y (cond x (stopped 11 0) (ready g st)))
    go true y = ((λ e. omega arith), (λ e. omega arith))
    go false true = ((λ e. omega arith), (λ e. omega arith))
    go false false = counted (block_of g) st (heard_of g given)

-- a clash's second pause is above the first
second_above : (p : Stmt) (A : Numbers) (m : ℕ) (o : Option ℕ) (pair : Pair) → lowest 128 (clashes p A m) ≡ o → paired m o ≡ some pair → pair.first < pair.second
unfolding clashes
second_above p A m none pair e d = let z : ◌≡◌ {A = ℕ} 0 1 = cc in absurd (omega arith)
second_above p A m (some n) pair e d =
    let f : record { first = m; second = n } ≡ pair = cc in
    let t : T (clashes p A m n) = (lowest_some 128 (clashes p A m) e).1 in
    let h : T (A m && A n && ltb m n) = and_left (A m && A n && ltb m n) _ t in
    subst (λ (x : Pair). x.first < x.second) f (ltb→lt m n (and_right (A m && A n) (ltb m n) h))

clash_apart : (p : Stmt) (A : Numbers) (o : Option ℕ) (pair : Pair) → with_second p A o ≡ some pair → pair.first < pair.second
clash_apart p A none pair e = let z : ◌≡◌ {A = ℕ} 0 1 = cc in absurd (omega arith)
clash_apart p A (some m) pair e = second_above p A m (lowest 128 (clashes p A m)) pair refl e

pub second_is_above : (p : Stmt) (A : Numbers) (pair : Pair) → first_clash p A ≡ some pair → pair.first < pair.second
unfolding first_clash
second_is_above p A pair e = clash_apart p A (lowest 128 (λ m. some_to (clashes p A m) 127)) pair e

state_apart : (g : Good) (s : List ℕ) (given : Given) (roomless : Bool) (f : Found) → Apart (goes_on given roomless (try_state g s given f))
unfolding Apart try_state try_names try_clash goes_on
state_apart g s given roomless not_a_state = ((λ e. omega arith), (λ e. omega arith))
state_apart g s given roomless (state st) = named (names_block g.header.version g.statements s)
  where
    go : (o : Option Pair) → first_clash g.body (active_of st) ≡ o → Apart (goes_on given roomless (try_clash g st given o))
    go none e = inputs_apart g st given roomless
    go (some pair) e = second_is_above g.body (active_of st) pair e

    named : (x : Bool) → Apart (goes_on given roomless (cond x (clash_tried g st given) (stopped OTHER_BLOCK 0)))
    named true = go (first_clash g.body (active_of st)) refl
    named false = ((λ e. omega arith), (λ e. omega arith))

apart : (b s : List ℕ) (given : Given) (roomless : Bool) → Apart (verdict b s given roomless)
unfolding Apart verdict front try_block goes_on
apart b s given roomless = go (reading b) refl
  where
    go : (x : Reading) → reading b ≡ x → Apart (goes_on given roomless (try_block s given x))
    go (good g) e = state_apart g s given roomless (read_state g.pauses s)
    go (turned_down n at) e = let h : n ≤ 8 = (numbers b n at e).1 in ((λ d. omega arith), (λ d. omega arith))

-- The answer that has these fields.
abbrev pub told_down : Why → ℕ → Instant
told_down w at = Err (Unanswered.Refused (refusal_at w at))

unfoldable pub remade : Told → Instant
remade t =
    cond (eqb t.number 0)
    (Ok (record { present = t.present_outputs; code = record { 0 = t.code }; rounds = t.rounds; active = t.active }))
    (cond (eqb t.number 13)
    (Err (Unanswered.NotConstructive (record { present = t.present_outputs; absent = t.absent_outputs; undecided = t.undecided_outputs; rounds = t.rounds })))
    (cond (eqb t.number 10) (Err (Unanswered.Clash t.first t.second)) (told_down (why_of t.number) t.place)))

-- It is the answer itself, unless a clash or a 13 is told as a refusal.
from_fields : (r : Instant) → ((at : ℕ) → r ≢ told_down Why.Clash at) → ((at : ℕ) → r ≢ told_down Why.NotConstructive at)
    → remade (instant_told r) ≡ r
unfolding remade instant_told number
from_fields (Ok r) c d = refl
from_fields (Err (Unanswered.NotConstructive r)) c d = refl
from_fields (Err (Unanswered.Clash m n)) c d = refl
from_fields (Err (Unanswered.Refused r)) c d =
    let w = r.why in
    let at = r.place in
    let not_0 : eqb (number w) 0 ≡ false = ne_eqb (number w) 0 (number_above w) in
    let not_13 : eqb (number w) 13 ≡ false = ne_eqb (number w) 13 (λ e. d at (ap (λ (y : Why). told_down y at) (numbers_differ w Why.NotConstructive e))) in
    let not_10 : eqb (number w) 10 ≡ false = ne_eqb (number w) 10 (λ e. c at (ap (λ (y : Why). told_down y at) (numbers_differ w Why.Clash e))) in
    let made : remade (instant_told (told_down w at)) ≡ told_down (why_of (number w)) at = simp (not_0, not_13, not_10) in
    made ∙ ap (λ (y : Why). told_down y at) (why_back w)

-- And neither is.
no_clash : (v : Verdict) → Apart v → (at : ℕ) → instant_told (told_down Why.Clash at) ≡ told v → ⊥
unfolding Apart told instant_told number
no_clash (refused n i) a at e = a.0 (sym (ap (λ (t : Told). t.number) e))
no_clash (clash pair) a at e = let z : 0 ≡ pair.second = ap (λ (t : Told). t.second) e in let h : pair.first < pair.second = a in omega arith
no_clash (reacted b (answered outs c st r)) a at e = let z : ◌≡◌ {A = ℕ} 10 0 = ap (λ (t : Told). t.number) e in omega arith
no_clash (reacted b (not_constructive outs r)) a at e = let z : ◌≡◌ {A = ℕ} 10 13 = ap (λ (t : Told). t.number) e in omega arith

no_doubt : (v : Verdict) → Apart v → (at : ℕ) → instant_told (told_down Why.NotConstructive at) ≡ told v → ⊥
unfolding Apart told instant_told number
no_doubt (refused n i) a at e = a.1 (sym (ap (λ (t : Told). t.number) e))
no_doubt (clash pair) a at e = let z : ◌≡◌ {A = ℕ} 13 10 = ap (λ (t : Told). t.number) e in omega arith
no_doubt (reacted b (answered outs c st r)) a at e = let z : ◌≡◌ {A = ℕ} 13 0 = ap (λ (t : Told). t.number) e in omega arith
no_doubt (reacted b (not_constructive outs r)) a at e = let z : 0 ≡ r = ap (λ (t : Told). t.rounds) e in let h : 1 ≤ r = a in omega arith

is_remade : (b s : List ℕ) (given : Given) (roomless : Bool) (r : Instant) → instant_told r ≡ told (verdict b s given roomless)
    → remade (told (verdict b s given roomless)) ≡ r
is_remade b s given roomless r e =
    ap remade (sym e)
    ∙ from_fields r
    (λ at d. no_clash (verdict b s given roomless) (apart b s given roomless) at (ap instant_told (sym d) ∙ e))
    (λ at d. no_doubt (verdict b s given roomless) (apart b s given roomless) at (ap instant_told (sym d) ∙ e))

pub an_instant_has_one_answer : (b s : List ℕ) (given : Given) (roomless : Bool) (r q : Instant) → instant_told r ≡ told (verdict b s given roomless)
    → instant_told q ≡ told (verdict b s given roomless) → r ≡ q
an_instant_has_one_answer b s given roomless r q e d = sym (is_remade b s given roomless r e) ∙ is_remade b s given roomless q d
