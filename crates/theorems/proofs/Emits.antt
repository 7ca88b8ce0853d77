-- Of a signal that must be emitted an emit is reached: by induction over the statement, started and resumed; each form hands on what a part of it
-- emits and what is reached in that part. Assumes nothing.
use mathlib.Core.Path.{sym}
use mathlib.Core.Logic.{◌⊎◌, inl, inr}
use mathlib.Core.Bool.{Bool}
use Prim.Native.Nat.{ℕ, ◌+◌}
use lib.Dec.{T, eqb, eqb→eq}
use Rattle.sets.specs.Numbers.{Numbers, empty, single, union, without, only_if}
use Rattle.sets.proofs.Members.{eqb_in, single_in, union_left, union_right, union_out, without_member, only_if_in, only_if_test, only_if_member}
use Rattle.rules.specs.Statements.{Stmt, nothing, pause, emit, present?◌then◌else◌, suspend◌on◌, ◌⨾◌, loop, ◌parallel◌, trap, exit, local, statements}
use Rattle.rules.specs.Events.{Status, present, absent, unknown, Event, giving}
use Rattle.rules.specs.Instant.{stay, chain, active, held, started, resumed}
use Rattle.rules.specs.MustCan.{must, Given, choose, gives}
use Rattle.rules.specs.States.{executed_as, kept_by}
use Rattle.rules.specs.Taken.{emit_of, itself_if, taken_started, taken_resumed}
use Rattle.theorems.proofs.Cases.{active_part, active_arm}
use Rattle.theorems.specs.Reactions.{Some}

-- Where the signal is among these, some number is among those.
pub record Emits (s : ℕ) (S X : Numbers) : Type 0 where
  pub by : T (S s) → Some X

none_emits : {s : ℕ} → Emits s empty empty
none_emits = record { by = λ t. absurd t }

here_emits : (s t i : ℕ) → Emits s (single t) (itself_if (eqb t s) i)
here_emits s t i = record { by = λ e. (i, only_if_in (eqb t s) (single i) i (turn e) (single_in i)) }
  where
    turn : T (eqb s t) → T (eqb t s)
    turn e = eqb_in (sym (eqb→eq s t e))

tested : (v : Status) {s : ℕ} (a b : Given) {X Y : Numbers} → Emits s a.signals X → Emits s b.signals Y → Emits s (choose must v a b a b).signals (kept_by v X Y)
tested present a b f g = f
tested absent a b f g = g
tested unknown a b f g = none_emits

both_emit : {s : ℕ} {S U X Y : Numbers} → Emits s S X → Emits s U Y → Emits s (union S U) (union X Y)
both_emit {s} {S} {U} {X} {Y} f g = record { by = λ t. pick (union_out S U s t) }
  where
    pick : T (S s) ⊎ T (U s) → Some (union X Y)
    pick (inl t) = let r = f.by t in (r.0, union_left X Y r.0 r.1)
    pick (inr t) = let r = g.by t in (r.0, union_right X Y r.0 r.1)

only_emits : (z : Bool) {s : ℕ} {S X : Numbers} → Emits s S X → Emits s (only_if z S) (only_if z X)
only_emits z {s} {S} {X} f = record { by = λ t. let r = f.by (only_if_member z S s t) in (r.0, only_if_in z X r.0 (only_if_test z S s t) r.1) }

hidden_emits : (k : ℕ) {s : ℕ} {S X : Numbers} → Emits s S X → Emits s (without k S) X
hidden_emits k {s} {S} f = record { by = λ t. f.by (without_member k S s t) }

module _ (s : ℕ) where
  -- The signal among those that something gives.
  abbrev emitted_in : Given → Numbers → Type 0
  emitted_in a X = Emits s a.signals X

  pub started_emits : (p : Stmt) (i : ℕ) (E : Event) → Emits s (gives must (started p) E).signals (taken_started (emit_of s) i p E)
  unfolding gives started taken_started
  started_emits nothing i E = none_emits
  started_emits (pause n) i E = none_emits
  started_emits (emit t) i E = here_emits s t i
  started_emits (present? t then p else q) i E = tested (E t) (gives must (started p) E) (gives must (started q) E) (started_emits p (i + 1) E) (started_emits q (i + 1 + statements p) E)
  started_emits (suspend p on t) i E = started_emits p (i + 1) E
  started_emits (p ⨾ q) i E =
      both_emit (started_emits p (i + 1) E) (only_emits ((gives must (started p) E).codes 0) (started_emits q (i + 1 + statements p) E))
  started_emits (loop p) i E = started_emits p (i + 1) E
  started_emits (p parallel q) i E = both_emit (started_emits p (i + 1) E) (started_emits q (i + 1 + statements p) E)
  started_emits (trap p) i E = started_emits p (i + 1) E
  started_emits (exit d) i E = none_emits
  started_emits (local t p) i E = hidden_emits t (started_emits p (i + 1) (giving E t (executed_as t (started p) E)))

  pub resumed_emits : (A : Numbers) (p : Stmt) (i : ℕ) (E : Event) → Emits s (gives must (resumed A p) E).signals (taken_resumed (emit_of s) A i p E)
  unfolding gives resumed taken_resumed
  resumed_emits A nothing i E = none_emits
  resumed_emits A (pause n) i E = none_emits
  resumed_emits A (emit t) i E = none_emits
  resumed_emits A (present? t then p else q) i E =
      active_part emitted_in (active A p) (resumed A p) (resumed A q) E (resumed_emits A p (i + 1) E) (resumed_emits A q (i + 1 + statements p) E)
  resumed_emits A (suspend p on t) i E = tested (E t) (gives must (stay (held A p)) E) (gives must (resumed A p) E) none_emits (resumed_emits A p (i + 1) E)
  resumed_emits A (p ⨾ q) i E =
      active_part emitted_in (active A p) (chain (resumed A p) (started q)) (resumed A q) E
      (both_emit (resumed_emits A p (i + 1) E) (only_emits ((gives must (resumed A p) E).codes 0) (started_emits q (i + 1 + statements p) E)))
      (resumed_emits A q (i + 1 + statements p) E)
  resumed_emits A (loop p) i E =
      both_emit (resumed_emits A p (i + 1) E) (only_emits ((gives must (resumed A p) E).codes 0) (started_emits p (i + 1) E))
  resumed_emits A (p parallel q) i E =
      both_emit (active_arm emitted_in (active A p) (resumed A p) E none_emits (resumed_emits A p (i + 1) E))
      (active_arm emitted_in (active A q) (resumed A q) E none_emits (resumed_emits A q (i + 1 + statements p) E))
  resumed_emits A (trap p) i E = resumed_emits A p (i + 1) E
  resumed_emits A (exit d) i E = none_emits
  resumed_emits A (local t p) i E = hidden_emits t (resumed_emits A p (i + 1) (giving E t (executed_as t (resumed A p) E)))
