-- "Must and can in one instant", sentence by sentence: lay this file beside document 01. Each is an equation about the definitions,
-- of statements started or resumed, that holds by computation; where a sentence has a condition, it is put in first.
-- One sentence, can of a local under open, is as a later request has it (docs/DECISIONS.md, "Can of a local"). Assumes nothing.
use mathlib.Core.Path.{◌≡◌, refl, sym, ◌∙◌, ap, subst}
use mathlib.Core.Bool.{Bool, true, false, not, cond, ◌&&◌, ◌||◌, true≢false, and-true, or-false, or_assoc}
use mathlib.Core.Logic.{◌↔◌}
use mathlib.Core.List.{List, [], ◌∷◌, ◌++◌}
use mathlib.Core.Option.{Option, none, some}
use Prim.Native.Nat.{ℕ, zero, suc, ◌+◌, ◌-◌, ◌<◌, max}
use lib.Dec.{T, eqb, ltb, eqb-suc-zero}
use lib.ListN.{length, get_or, replicate}
use Rattle.sets.specs.Numbers.{Numbers, empty, single, union, without, only_if, maxima, downs, lowest, listed}
use Rattle.sets.proofs.Members.{ext}
use Rattle.sets.proofs.Maxima.{maxima_in, maxima_out, maxima_empty_left, maxima_empty_right}
use Rattle.rules.specs.Statements.{Block, depth, code, Stmt, nothing, pause, emit, present?◌then◌else◌, suspend◌on◌, ◌⨾◌, loop, ◌parallel◌, trap, exit, local, pauses}
use Rattle.rules.specs.Events.{Status, present, absent, unknown, Event, giving, Hearing, input_status, all_heard, event}
use Rattle.rules.specs.Instant.{Step, done, stay, say, leave, test, catch, scope, chain, beside, any, active, held, started, resumed}
use Rattle.rules.specs.MustCan.{Mark, plus, opened, Question, must, can, Given, either, both, followed, hidden, marked, gives}
use Rattle.rules.specs.States.{State, fresh, running, finished, step, executed_as, kept, next}
use Rattle.rules.specs.Rounds.{Settled, one_more, all_same, round, begin, settle, final_of, answer, answered, not_constructive, react, code_width}
use Rattle.rules.proofs.OneCode.{one_code}
use Rattle.rules.proofs.RoundLaws.{all_same_is, all_same_refl, marks_at}

-- the signals and codes of a result, side by side
abbrev given : Numbers → Numbers → Given
given ss cs = record { signals = ss; codes = cs }

-- a statement started, or resumed with a set active
abbrev pub doing : Option Numbers → Stmt → Step
doing none p = started p
doing (some A) p = resumed A p

module _ (E : Event) where
  -- STARTED

  -- nothing 0; pause 1; emit s gives s and 0; exit gives depth + 2; both for must and can (k is either, with any mark)
  started_nothing : (k : Question) → gives k (started nothing) E ≡ given empty (single 0)
  unfolding gives started
  started_nothing k = refl

  started_pause : (k : Question) (n : ℕ) → gives k (started (pause n)) E ≡ given empty (single 1)
  unfolding gives started
  started_pause k n = refl

  started_emit : (k : Question) (s : ℕ) → gives k (started (emit s)) E ≡ given (single s) (single 0)
  unfolding gives started
  started_emit k s = refl

  started_exit : (k : Question) (d : ℕ) → gives k (started (exit (depth d))) E ≡ given empty (single (d + 2))
  unfolding gives started code
  started_exit k d = refl

  module _ (p q : Stmt) (s : ℕ) where
    -- present: the branch chosen by a known status
    started_present : (k : Question) → E s ≡ present → gives k (started (present? s then p else q)) E ≡ gives k (started p) E
    unfolding gives started
    started_present k e = rw e

    started_absent : (k : Question) → E s ≡ absent → gives k (started (present? s then p else q)) E ≡ gives k (started q) E
    unfolding gives started
    started_absent k e = rw e

    -- unknown: must is empty with no code, can is the union of both branches with open mark
    started_unknown_must : E s ≡ unknown → gives must (started (present? s then p else q)) E ≡ given empty empty
    unfolding gives started
    started_unknown_must e = rw e

    started_unknown_can : (m : Mark) → E s ≡ unknown
        → gives (can m) (started (present? s then p else q)) E ≡ either (gives (can opened) (started p) E) (gives (can opened) (started q) E)
    unfolding gives started
    started_unknown_can m e = rw e

    -- suspend and loop: as the body
    started_suspend : (k : Question) → gives k (started (suspend p on s)) E ≡ gives k (started p) E
    unfolding started
    started_suspend k = refl

    started_loop : (k : Question) → gives k (started (loop p)) E ≡ gives k (started p) E
    unfolding started
    started_loop k = refl

    -- trap: signals as the body, codes down
    started_trap : (k : Question)
        → gives k (started (trap p)) E ≡ given (gives k (started p) E).signals (downs (gives k (started p) E).codes)
    unfolding gives started
    started_trap k = refl

    -- parallel: union of signals, maxima of codes
    started_parallel : (k : Question)
        → gives k (started (p parallel q)) E ≡ given
        (union (gives k (started p) E).signals (gives k (started q) E).signals)
        (maxima (gives k (started p) E).codes (gives k (started q) E).codes)
    unfolding gives started
    started_parallel k = refl

    -- sequence: the second part counts for must only if the first's must code is 0
    started_sequence_must : gives must (started (p ⨾ q)) E ≡ followed (gives must (started p) E) (gives must (started q) E)
    unfolding gives started
    started_sequence_must = refl

    -- and for can if 0 is in the first's codes, which is then removed; the second's mark is plus only if the mark was plus and the
    -- first must give 0
    started_sequence_plus : (gives must (started p) E).codes 0 ≡ true
        → gives (can plus) (started (p ⨾ q)) E ≡ followed (gives (can plus) (started p) E) (gives (can plus) (started q) E)
    unfolding gives started
    started_sequence_plus e = rw e

    started_sequence_doubt : (gives must (started p) E).codes 0 ≡ false
        → gives (can plus) (started (p ⨾ q)) E ≡ followed (gives (can plus) (started p) E) (gives (can opened) (started q) E)
    unfolding gives started
    started_sequence_doubt e = rw e

    started_sequence_open : gives (can opened) (started (p ⨾ q)) E ≡ followed (gives (can opened) (started p) E) (gives (can opened) (started q) E)
    unfolding gives started
    started_sequence_open = refl

  -- LOCAL s, started or resumed alike: the body is first analysed with s unknown
  module _ (s : ℕ) (p : Stmt) where
    abbrev in_must : Option Numbers → Bool
    in_must w = (gives must (doing w p) (giving E s unknown)).signals s

    abbrev in_can : Mark → Option Numbers → Bool
    in_can m w = (gives (can m) (doing w p) (giving E s unknown)).signals s

    -- the local's result is its body's with a status for s, and s removed
    abbrev body_with : Question → Status → Option Numbers → Given
    body_with k v w = hidden s (gives k (doing w p) (giving E s v))

    -- must: if s is in the body's must, with s present; if s is not in the body's can under plus, with s absent; else unknown
    must_local_present : (w : Option Numbers) → in_must w ≡ true → gives must (doing w (local s p)) E ≡ body_with must present w
    unfolding gives started resumed
    must_local_present none m = rw m
    must_local_present (some A) m = rw m

    must_local_absent : (w : Option Numbers) → in_must w ≡ false → in_can plus w ≡ false → gives must (doing w (local s p)) E ≡ body_with must absent w
    unfolding gives started resumed
    must_local_absent none m c = rw (m, c)
    must_local_absent (some A) m c = rw (m, c)

    must_local_unknown : (w : Option Numbers) → in_must w ≡ false → in_can plus w ≡ true → gives must (doing w (local s p)) E ≡ body_with must unknown w
    unfolding gives started resumed
    must_local_unknown none m c = rw (m, c)
    must_local_unknown (some A) m c = rw (m, c)

    -- can under plus: if s is in must, under plus with s present
    plus_local_present : (w : Option Numbers) → in_must w ≡ true → gives (can plus) (doing w (local s p)) E ≡ body_with (can plus) present w
    unfolding gives started resumed
    plus_local_present none m = rw m
    plus_local_present (some A) m = rw m

    -- under either mark: if s is not in the body's can under the mark at hand, under the same mark with s absent; else with s unknown
    plus_local_absent : (w : Option Numbers) → in_must w ≡ false → in_can plus w ≡ false
        → gives (can plus) (doing w (local s p)) E ≡ body_with (can plus) absent w
    unfolding gives started resumed
    plus_local_absent none m c = rw (m, c)
    plus_local_absent (some A) m c = rw (m, c)

    plus_local_unknown : (w : Option Numbers) → in_must w ≡ false → in_can plus w ≡ true
        → gives (can plus) (doing w (local s p)) E ≡ body_with (can plus) unknown w
    unfolding gives started resumed
    plus_local_unknown none m c = rw (m, c)
    plus_local_unknown (some A) m c = rw (m, c)

    -- under open, must is not asked: the same two cases whether or not s is in it
    open_local_absent : (w : Option Numbers) → in_can opened w ≡ false → gives (can opened) (doing w (local s p)) E ≡ body_with (can opened) absent w
    unfolding gives started resumed
    open_local_absent none c = rw c
    open_local_absent (some A) c = rw c

    open_local_unknown : (w : Option Numbers) → in_can opened w ≡ true → gives (can opened) (doing w (local s p)) E ≡ body_with (can opened) unknown w
    unfolding gives started resumed
    open_local_unknown none c = rw c
    open_local_unknown (some A) c = rw c

  -- RESUMED, with A active
  module _ (A : Numbers) (p q : Stmt) (s : ℕ) where
    -- pause gives 0
    resumed_pause : (k : Question) (n : ℕ) → gives k (resumed A (pause n)) E ≡ given empty (single 0)
    unfolding gives resumed
    resumed_pause k n = refl

    -- present: the active branch, without the test
    resumed_then : (k : Question) → active A p ≡ true → gives k (resumed A (present? s then p else q)) E ≡ gives k (resumed A p) E
    unfolding resumed
    resumed_then k a = rw a

    resumed_else : (k : Question) → active A p ≡ false → gives k (resumed A (present? s then p else q)) E ≡ gives k (resumed A q) E
    unfolding resumed
    resumed_else k a = rw a

    -- sequence: if the first part is active, as above with it resumed and the second started
    resumed_first_must : active A p ≡ true → gives must (resumed A (p ⨾ q)) E ≡ followed (gives must (resumed A p) E) (gives must (started q) E)
    unfolding gives resumed
    resumed_first_must a = rw a

    resumed_first_plus : active A p ≡ true → (gives must (resumed A p) E).codes 0 ≡ true
        → gives (can plus) (resumed A (p ⨾ q)) E ≡ followed (gives (can plus) (resumed A p) E) (gives (can plus) (started q) E)
    unfolding gives resumed
    resumed_first_plus a e = rw (a, e)

    resumed_first_doubt : active A p ≡ true → (gives must (resumed A p) E).codes 0 ≡ false
        → gives (can plus) (resumed A (p ⨾ q)) E ≡ followed (gives (can plus) (resumed A p) E) (gives (can opened) (started q) E)
    unfolding gives resumed
    resumed_first_doubt a e = rw (a, e)

    resumed_first_open : active A p ≡ true
        → gives (can opened) (resumed A (p ⨾ q)) E ≡ followed (gives (can opened) (resumed A p) E) (gives (can opened) (started q) E)
    unfolding gives resumed
    resumed_first_open a = rw a

    -- else the second resumed
    resumed_second : (k : Question) → active A p ≡ false → gives k (resumed A (p ⨾ q)) E ≡ gives k (resumed A q) E
    unfolding resumed
    resumed_second k a = rw a

    -- loop: the body resumed; where it may (must) give 0, on as in a sequence with the body started afresh
    resumed_loop_must : gives must (resumed A (loop p)) E ≡ followed (gives must (resumed A p) E) (gives must (started p) E)
    unfolding gives resumed
    resumed_loop_must = refl

    resumed_loop_plus : (gives must (resumed A p) E).codes 0 ≡ true
        → gives (can plus) (resumed A (loop p)) E ≡ followed (gives (can plus) (resumed A p) E) (gives (can plus) (started p) E)
    unfolding gives resumed
    resumed_loop_plus e = rw e

    resumed_loop_doubt : (gives must (resumed A p) E).codes 0 ≡ false
        → gives (can plus) (resumed A (loop p)) E ≡ followed (gives (can plus) (resumed A p) E) (gives (can opened) (started p) E)
    unfolding gives resumed
    resumed_loop_doubt e = rw e

    resumed_loop_open : gives (can opened) (resumed A (loop p)) E ≡ followed (gives (can opened) (resumed A p) E) (gives (can opened) (started p) E)
    unfolding gives resumed
    resumed_loop_open = refl

    -- parallel: active arms resumed, an arm without an active pause gives 0
    abbrev arm : Question → Stmt → Given
    arm k r = cond (active A r) (gives k (resumed A r) E) (given empty (single 0))

    resumed_parallel : (k : Question) (x y : Bool) → active A p ≡ x → active A q ≡ y
        → gives k (resumed A (p parallel q)) E ≡ both (arm k p) (arm k q)
    unfolding gives resumed
    resumed_parallel k true true a b = rw (a, b)
    resumed_parallel k true false a b = rw (a, b)
    resumed_parallel k false true a b = rw (a, b)
    resumed_parallel k false false a b = rw (a, b)

    -- suspend s: present gives code 1 and no signal; absent, the body resumed; unknown, must is empty, can is the body's under open
    -- mark and code 1 besides
    resumed_suspend_present : (k : Question) → E s ≡ present → gives k (resumed A (suspend p on s)) E ≡ given empty (single 1)
    unfolding gives resumed
    resumed_suspend_present k e = rw e

    resumed_suspend_absent : (k : Question) → E s ≡ absent → gives k (resumed A (suspend p on s)) E ≡ gives k (resumed A p) E
    unfolding gives resumed
    resumed_suspend_absent k e = rw e

    resumed_suspend_must : E s ≡ unknown → gives must (resumed A (suspend p on s)) E ≡ given empty empty
    unfolding gives resumed
    resumed_suspend_must e = rw e

    resumed_suspend_can : (m : Mark) → E s ≡ unknown
        → gives (can m) (resumed A (suspend p on s)) E ≡ given
        (gives (can opened) (resumed A p) E).signals
        (union (single 1) (gives (can opened) (resumed A p) E).codes)
    unfolding gives resumed
    resumed_suspend_can m e = rw e

    -- trap as when started (and local: above)
    resumed_trap : (k : Question)
        → gives k (resumed A (trap p)) E ≡ given (gives k (resumed A p) E).signals (downs (gives k (resumed A p) E).codes)
    unfolding gives resumed
    resumed_trap k = refl

-- THE HELPERS ABOVE, MEMBER BY MEMBER

all_unknown : (n i : ℕ) → get_or (replicate n unknown) i unknown ≡ unknown
all_unknown zero i = refl
all_unknown (suc n) zero = refl
all_unknown (suc n) (suc i) = all_unknown n i

module _ (a b : Given) (n : ℕ) where
  either_signals : (either a b).signals n ≡ (a.signals n || b.signals n)
  either_signals = refl

  either_codes : (either a b).codes n ≡ (a.codes n || b.codes n)
  either_codes = refl

  -- a sequence's second part counts: its members besides, and the first's 0 is removed
  followed_counts : a.codes 0 ≡ true → followed a b ≡ given (union a.signals b.signals) (union (without 0 a.codes) b.codes)
  followed_counts e = rw e

  -- or it does not: the result is the first part's
  followed_not : a.codes 0 ≡ false → followed a b ≡ a
  followed_not e = λ i. given (same_signals i) (same_codes i)
    where
      same_signals : (followed a b).signals ≡ a.signals
      same_signals = ext (λ n. rw (e, or-false (a.signals n)))

      other_than_0 : (n : ℕ) → (a.codes n && not (eqb n 0)) ≡ a.codes n
      other_than_0 zero = rw e
      other_than_0 (suc n) = rw (eqb-suc-zero n, and-true (a.codes (suc n)))

      same_codes : (followed a b).codes ≡ a.codes
      same_codes = ext (λ n. rw (e, or-false (a.codes n && not (eqb n 0))) (other_than_0 n))

  both_signals : (both a b).signals n ≡ (a.signals n || b.signals n)
  both_signals = refl

  hidden_signals : (s : ℕ) → (hidden s a).signals n ≡ (a.signals n && not (eqb n s))
  hidden_signals s = refl

  hidden_codes : (s : ℕ) → (hidden s a).codes n ≡ a.codes n
  hidden_codes s = refl

-- maxima: the larger of two codes, one of each side, for every such pair; no code on one side gives no code
module _ (a b : Numbers) where
  maxima_has : (m n : ℕ) → T (a m) → T (b n) → T (maxima a b (max m n))
  maxima_has = maxima_in a b

  maxima_only : (k : ℕ) → T (maxima a b k) → (m : ℕ) × (n : ℕ) × T (a m) × T (b n) × (max m n ≡ k)
  maxima_only = maxima_out a b

  no_code_first : maxima empty b ≡ empty
  no_code_first = maxima_empty_left b

  no_code_second : maxima a empty ≡ empty
  no_code_second = maxima_empty_right a

-- must gives at most one code
at_most_one_code : (w : Option Numbers) (p : Stmt) (E : Event) (c d : ℕ)
    → T ((gives must (doing w p) E).codes c) → T ((gives must (doing w p) E).codes d) → c ≡ d
at_most_one_code w p E = (one_code (doing w p) E).equal

-- down: 0 and 2 become 0, 1 stays 1, k above 2 becomes k - 1
module _ (a : Numbers) where
  downs_0 : downs a 0 ≡ (a 0 || a 2)
  unfolding downs
  downs_0 = refl

  downs_1 : downs a 1 ≡ a 1
  unfolding downs
  downs_1 = refl

  downs_above : (k : ℕ) → downs a (suc (suc k)) ≡ a (suc (suc (suc k)))
  unfolding downs
  downs_above k = refl

-- THE INPUTS with no unknowns: bit n set when input n is present; other inputs are absent
module _ (b : Block) (given : Numbers) (n : ℕ) where
  all_heard_present : given n ≡ true → input_status (all_heard b given) n ≡ present
  all_heard_present e = rw e

  all_heard_absent : ltb n b.inputs ≡ true → given n ≡ false → input_status (all_heard b given) n ≡ absent
  all_heard_absent h e = rw (e, h)

-- ROUNDS of a block from a state, with what is heard of the inputs; that there are at least 1 and at most outputs plus 1 of them is a theorem
-- (`rounds-end` of the crate theorems)

module _ (b : Block) (st : State) (ins : Hearing) where
  abbrev whole : Step
  whole = step b.body st

  -- the event: an input in the set of inputs present is present, one in the set of inputs absent is absent, the rest are unknown; the i-th
  -- output is signal inputs + i
  event_input_present : (outs : List Status) (n : ℕ) → ltb n b.inputs ≡ true → ins.heard_present n ≡ true → event b ins outs n ≡ present
  unfolding event
  event_input_present outs n h e = rw (h, e)

  event_input_absent : (outs : List Status) (n : ℕ) → ltb n b.inputs ≡ true → ins.heard_present n ≡ false → ins.heard_absent n ≡ true
      → event b ins outs n ≡ absent
  unfolding event
  event_input_absent outs n h e d = rw (h, e, d)

  event_input_unknown : (outs : List Status) (n : ℕ) → ltb n b.inputs ≡ true → ins.heard_present n ≡ false → ins.heard_absent n ≡ false
      → event b ins outs n ≡ unknown
  unfolding event
  event_input_unknown outs n h e d = rw (h, e, d)

  event_output : (outs : List Status) (n : ℕ) → ltb n b.inputs ≡ false → event b ins outs n ≡ get_or outs (n - b.inputs) unknown
  unfolding event
  event_output outs n h = rw h

  -- all outputs begin unknown
  rounds_begin : (i : ℕ) → get_or (begin b) i unknown ≡ unknown
  unfolding begin
  rounds_begin i = all_unknown b.outputs i

  -- a round marks, with both taken from one event, each output
  abbrev in_must_now : List Status → ℕ → Bool
  in_must_now outs i = (gives must whole (event b ins outs)).signals (b.inputs + i)

  abbrev in_can_now : List Status → ℕ → Bool
  in_can_now outs i = (gives (can plus) whole (event b ins outs)).signals (b.inputs + i)

  round_marks : (outs : List Status) (i : ℕ) → i < length outs
      → get_or (round b whole ins outs) i unknown ≡ marked (in_must_now outs i) (in_can_now outs i) (get_or outs i unknown)
  unfolding round
  round_marks outs i h = marks_at (gives must whole (event b ins outs)) (gives (can plus) whole (event b ins outs)) b.inputs outs i h

  -- present those in must, absent those not in can under plus; else a status stays
  round_present : (outs : List Status) (i : ℕ) → i < length outs → in_must_now outs i ≡ true → get_or (round b whole ins outs) i unknown ≡ present
  round_present outs i h m = round_marks outs i h ∙ rw m

  round_absent : (outs : List Status) (i : ℕ) → i < length outs → in_must_now outs i ≡ false → in_can_now outs i ≡ false
      → get_or (round b whole ins outs) i unknown ≡ absent
  round_absent outs i h m c = round_marks outs i h ∙ rw (m, c)

  round_stays : (outs : List Status) (i : ℕ) → i < length outs → in_must_now outs i ≡ false → in_can_now outs i ≡ true
      → get_or (round b whole ins outs) i unknown ≡ get_or outs i unknown
  round_stays outs i h m c = round_marks outs i h ∙ rw (m, c)

  -- a round changes nothing where the statuses are the same
  changes_nothing : (vs ws : List Status) → T (all_same vs ws) ↔ (vs ≡ ws)
  changes_nothing vs ws = (all_same_is vs ws, λ e. subst (λ (xs : List Status). T (all_same vs xs)) e (all_same_refl vs))

  -- the last round is the first that changes nothing; it is counted
  abbrev counted : ℕ → List Status → Bool → Settled
  counted fuel outs unchanged =
      elim unchanged as (λ x. Settled) [
        | true ↦ record { statuses = outs; rounds = 1 }
        | false ↦ one_more (settle b whole ins fuel (round b whole ins outs))
      ]

  rounds_last : (fuel : ℕ) (outs : List Status) → all_same (round b whole ins outs) outs ≡ true
      → settle b whole ins (suc fuel) outs ≡ record { statuses = outs; rounds = 1 }
  unfolding settle
  rounds_last fuel outs e = ap (counted fuel outs) e

  rounds_more : (fuel : ℕ) (outs : List Status) → all_same (round b whole ins outs) outs ≡ false
      → settle b whole ins (suc fuel) outs ≡ one_more (settle b whole ins fuel (round b whole ins outs))
  unfolding settle
  rounds_more fuel outs e = ap (counted fuel outs) e

  -- for the whole block, from all outputs unknown
  whole_block : final_of b st ins ≡ settle b whole ins (suc b.outputs) (begin b)
  unfolding final_of
  whole_block = refl

-- finished runs as nothing
finished_as_nothing : (p : Stmt) → step p finished ≡ step nothing fresh
unfolding step
finished_as_nothing p = refl

-- NEXT STATE

module _ (E : Event) where
  -- a statement with code other than 1 keeps no pause: each thing to do asks for code 1 first
  other_code : (r : Step) → (gives must r E).codes 1 ≡ false → (n : ℕ) → kept r E n ≡ false
  unfolding gives kept
  other_code done e n = refl
  other_code (stay A) e n = absurd (true≢false e)
  other_code (say s) e n = refl
  other_code (leave d) e n = refl
  other_code (test s p q) e n = rw (e, kept)
  other_code (catch p) e n = rw e
  other_code (scope s p) e n = rw e
  other_code (chain p q) e n = rw e
  other_code (beside p q) e n = rw e

  keeps_none : (w : Option Numbers) (p : Stmt) → (gives must (doing w p) E).codes 1 ≡ false → (n : ℕ) → kept (doing w p) E n ≡ false
  keeps_none w p e = other_code (doing w p) e

  -- with 1: a started pause keeps itself
  keeps_itself : (n : ℕ) → kept (started (pause n)) E ≡ single n
  unfolding kept started
  keeps_itself n = refl

  module _ (A : Numbers) (p q : Stmt) (s : ℕ) where
    -- a suspended body keeps its old set: the active pauses that it holds
    keeps_old : E s ≡ present → kept (resumed A (suspend p on s)) E ≡ held A p
    unfolding gives kept resumed
    keeps_old e = rw e

    old_set : (n : ℕ) → held A p n ≡ (A n && listed (pauses p) n)
    unfolding held
    old_set n = refl

  -- else the union over the parts executed; each of these is for a statement with code 1
  abbrev gives_1 : Step → Type 0
  gives_1 r = (gives must r E).codes 1 ≡ true

  -- the second part is executed if the first must give 0
  abbrev executed_after : Step → Numbers → Numbers
  executed_after first second = only_if ((gives must first E).codes 0) second

  module _ (p q : Stmt) (s : ℕ) where
    started_present_keeps : gives_1 (started (present? s then p else q)) → E s ≡ present
        → kept (started (present? s then p else q)) E ≡ kept (started p) E
    unfolding gives kept started
    started_present_keeps c e = rw (c, e)

    started_absent_keeps : gives_1 (started (present? s then p else q)) → E s ≡ absent
        → kept (started (present? s then p else q)) E ≡ kept (started q) E
    unfolding gives kept started
    started_absent_keeps c e = rw (c, e)

    started_suspend_keeps : kept (started (suspend p on s)) E ≡ kept (started p) E
    unfolding started
    started_suspend_keeps = refl

    started_sequence_keeps : gives_1 (started (p ⨾ q))
        → kept (started (p ⨾ q)) E ≡ union (kept (started p) E) (executed_after (started p) (kept (started q) E))
    unfolding gives kept started
    started_sequence_keeps c = rw c

    started_loop_keeps : kept (started (loop p)) E ≡ kept (started p) E
    unfolding started
    started_loop_keeps = refl

    started_parallel_keeps : gives_1 (started (p parallel q)) → kept (started (p parallel q)) E ≡ union (kept (started p) E) (kept (started q) E)
    unfolding gives kept started
    started_parallel_keeps c = rw c

    trap_keeps : (w : Option Numbers) → gives_1 (doing w (trap p)) → kept (doing w (trap p)) E ≡ kept (doing w p) E
    unfolding gives kept started resumed
    trap_keeps none c = rw c
    trap_keeps (some A) c = rw c

    -- a local's body is executed with the status that must settles for it, as above
    executed_with : (w : Option Numbers) → executed_as s (doing w p) E ≡ marked
        ((gives must (doing w p) (giving E s unknown)).signals s)
        ((gives (can plus) (doing w p) (giving E s unknown)).signals s)
        unknown
    executed_with w = refl

    local_keeps : (w : Option Numbers) → gives_1 (doing w (local s p))
        → kept (doing w (local s p)) E ≡ kept (doing w p) (giving E s (executed_as s (doing w p) E))
    unfolding gives kept started resumed
    local_keeps none c = rw c
    local_keeps (some A) c = rw c

  module _ (A : Numbers) (p q : Stmt) (s : ℕ) where
    resumed_then_keeps : active A p ≡ true → kept (resumed A (present? s then p else q)) E ≡ kept (resumed A p) E
    unfolding resumed
    resumed_then_keeps a = rw a

    resumed_else_keeps : active A p ≡ false → kept (resumed A (present? s then p else q)) E ≡ kept (resumed A q) E
    unfolding resumed
    resumed_else_keeps a = rw a

    resumed_suspend_keeps : gives_1 (resumed A (suspend p on s)) → E s ≡ absent → kept (resumed A (suspend p on s)) E ≡ kept (resumed A p) E
    unfolding gives kept resumed
    resumed_suspend_keeps c e = rw (c, e)

    resumed_first_keeps : active A p ≡ true → gives_1 (resumed A (p ⨾ q))
        → kept (resumed A (p ⨾ q)) E ≡ union (kept (resumed A p) E) (executed_after (resumed A p) (kept (started q) E))
    unfolding gives kept resumed
    resumed_first_keeps a c = rw a (rw (rw a at c))

    resumed_second_keeps : active A p ≡ false → kept (resumed A (p ⨾ q)) E ≡ kept (resumed A q) E
    unfolding resumed
    resumed_second_keeps a = rw a

    resumed_loop_keeps : gives_1 (resumed A (loop p))
        → kept (resumed A (loop p)) E ≡ union (kept (resumed A p) E) (executed_after (resumed A p) (kept (started p) E))
    unfolding gives kept resumed
    resumed_loop_keeps c = rw c

    abbrev arm_keeps : Stmt → Numbers
    arm_keeps r = cond (active A r) (kept (resumed A r) E) empty

    resumed_parallel_keeps : (x y : Bool) → active A p ≡ x → active A q ≡ y → gives_1 (resumed A (p parallel q))
        → kept (resumed A (p parallel q)) E ≡ union (arm_keeps p) (arm_keeps q)
    unfolding gives kept resumed
    resumed_parallel_keeps true true a b c = rw (c, a, b)
    resumed_parallel_keeps true false a b c = rw (c, a, b)
    resumed_parallel_keeps false true a b c = rw (c, a, b)
    resumed_parallel_keeps false false a b c = rw (c, a, b)

-- code 1 at the root gives running, 0 finished
root_1 : (A : Numbers) → next 1 A ≡ running A
unfolding next
root_1 A = refl

root_0 : (A : Numbers) → next 0 A ≡ finished
unfolding next
root_0 A = refl

-- an instant is answered with the code that must gives at the final statuses; without one it is NOT CONSTRUCTIVE
module _ (b : Block) (st : State) (ins : Hearing) where
  abbrev final : Settled
  final = final_of b st ins

  abbrev final_must : Given
  final_must = gives must (step b.body st) (event b ins final.statuses)

  answer_known : (c : ℕ) → lowest code_width final_must.codes ≡ some c
      → react b st ins ≡ answered
      final.statuses c (next c (kept (step b.body st) (event b ins final.statuses))) final.rounds
  unfolding react
  answer_known c e = rw (e, answer)

  answer_unknown : lowest code_width final_must.codes ≡ none → react b st ins ≡ not_constructive final.statuses final.rounds
  unfolding react
  answer_unknown e = rw (e, answer)

-- A STATEMENT HOLDS AN ACTIVE PAUSE: some pause of it is active

in_front : (A : Numbers) (xs ys : List ℕ) → any A (xs ++ ys) ≡ (any A xs || any A ys)
unfolding any
in_front A [] ys = refl
in_front A (x ∷ xs) ys = ap (λ (b : Bool). A x || b) (in_front A xs ys) ∙ sym (or_assoc (A x) (any A xs) (any A ys))

module _ (A : Numbers) (p q : Stmt) (s : ℕ) where
  active_nothing : active A nothing ≡ false
  unfolding active any pauses
  active_nothing = refl

  active_pause : (n : ℕ) → active A (pause n) ≡ A n
  unfolding active any pauses
  active_pause n = or-false (A n)

  active_present : active A (present? s then p else q) ≡ (active A p || active A q)
  unfolding active pauses
  active_present = in_front A (pauses p) (pauses q)

  active_sequence : active A (p ⨾ q) ≡ (active A p || active A q)
  unfolding active pauses
  active_sequence = in_front A (pauses p) (pauses q)

  active_parallel : active A (p parallel q) ≡ (active A p || active A q)
  unfolding active pauses
  active_parallel = in_front A (pauses p) (pauses q)

  active_local : active A (local s p) ≡ active A p
  unfolding active pauses
  active_local = refl

  active_emit : active A (emit s) ≡ false
  unfolding active any pauses
  active_emit = refl

  active_exit : (d : ℕ) → active A (exit (depth d)) ≡ false
  unfolding active any pauses
  active_exit d = refl

  active_suspend : active A (suspend p on s) ≡ active A p
  unfolding active pauses
  active_suspend = refl

  active_loop : active A (loop p) ≡ active A p
  unfolding active pauses
  active_loop = refl

  active_trap : active A (trap p) ≡ active A p
  unfolding active pauses
  active_trap = refl
