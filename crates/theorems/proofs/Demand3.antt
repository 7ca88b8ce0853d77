-- Demand 3, sentence by sentence, and then the laws that it rests on. Each is proved in the file that the `use` lines name. A log lent
-- is no matter of the rules: the calls look at its room before the instant. Assumes nothing.
use mathlib.Core.Path.{◌≡◌}
use mathlib.Core.Logic.{◌↔◌, ◌⊎◌}
use mathlib.Core.Bool.{Bool}
use mathlib.Core.List.{List}
use Prim.Native.Nat.{ℕ, ◌+◌, ◌<◌}
use lib.Dec.{T}
use lib.ListN.{length, get_or}
use Rattle.sets.specs.Numbers.{Numbers, Within}
use Rattle.rules.specs.Statements.{Block, Stmt, loop}
use Rattle.rules.specs.Events.{Status, unknown, Event, Hearing, all_heard, event}
use Rattle.rules.specs.Instant.{Step, started}
use Rattle.rules.specs.MustCan.{Mark, plus, opened, Question, must, can, gives}
use Rattle.rules.specs.Loops.{codes_of, loops_pass}
use Rattle.rules.specs.States.{State, step, Legal, kept, next}
use Rattle.rules.specs.Rounds.{round, begin, Rounds, final_of, Answer, answered, not_constructive, react, undecided}
use Rattle.rules.specs.Coherence.{Locals, execute, LocalsAgree, world, Coherent}
use Rattle.rules.proofs.OneCode.{one_code}
use Rattle.theorems.specs.Order.{Below, ◌⊑◌, HearsMore, Choice, whole, Inside, Between}
use Rattle.theorems.specs.Reach.{Reached, at_first, Final}
use Rattle.theorems.specs.Reactions.{Some, OnlyReaction}
use Rattle.theorems.specs.Checked.{Checked, StandsIn, NeverZero, ZeroOrOne}
use Rattle.theorems.specs.Traces.{InputSet, Instant, Trace}
use Rattle.theorems.specs.Demand.{NeverStuck}
use Rattle.theorems.specs.Late.{SameButRounds}
use Rattle.theorems.specs.AnyOrder.{Justifies, Order, NoneLeft, OneLeft, EndsAsRounds}
use Rattle.theorems.proofs.MustInCan.{must_in_can}
use Rattle.theorems.proofs.Compare.{must_grows, can_shrinks, plus_in_opened}
use Rattle.theorems.proofs.Exact.{exact}
use Rattle.theorems.proofs.Sound.{sound}
use Rattle.theorems.proofs.Reach.{round_keeps, same_end}
use Rattle.theorems.proofs.RoundsEnd.{rounds_unique, last_unchanged, last_reached, final, none_undecided, nothing_left}
use Rattle.theorems.proofs.AnyOrder.{any_order, steps_from_begin, one_left_or_none, settled_alone, goes_on_to_the_end}
use Rattle.theorems.proofs.Reaction.{coherent_between}
use Rattle.theorems.proofs.LoopCodes.{given_codes, run_codes, loop_body_never_zero}
use Rattle.theorems.proofs.Traps.{root_codes}
use Rattle.theorems.proofs.NextLegal.{run_keeps_at_one, run_next_legal, computed_keeps_at_one, computed_next_legal}
use Rattle.theorems.proofs.Instants.{one_answer, never_both, reacts, answer_only}
use Rattle.theorems.proofs.Traces.{run_not_stuck, never_stuck}
use Rattle.theorems.proofs.Late.{late, choice_hears_more, all_is_choice}

-- "A block that passes the check never gets stuck." The whole of the demand, over every run: exactly one run over every list of declared
-- input sets, and at each of its instants what the sentences below say.
pub a_block_that_passes_the_check_never_gets_stuck : (b : Block) → Checked b → (st : State) → Legal b.body st → (givens : List (InputSet b)) → NeverStuck b st givens
a_block_that_passes_the_check_never_gets_stuck = never_stuck

-- "From any state legal for it, over any run of instants with inputs it declares, no loop body ends with code 0 in the instant it began,"
-- wherever the loop stands, at every event and in every run of the started body.
pub no_loop_body_ends_with_0 : (b : Block) → Checked b → (q : Stmt) → StandsIn (loop q) b.body → NeverZero (started q)
no_loop_body_ends_with_0 b checked q part = loop_body_never_zero q b.body part checked.loops_are_good

-- "every exit finds its trap,"
pub every_exit_finds_its_trap : (b : Block) → Checked b → (st : State) → ZeroOrOne (step b.body st)
every_exit_finds_its_trap b checked st = root_codes b.body st checked.exits_are_trapped

-- "and each state reached is legal."
pub each_state_reached_is_legal : (b : Block) → Checked b → {st st' : State} {givens : List (InputSet b)} {told : List Answer} → Legal b.body st → Trace b st givens told st' → Legal b.body st'
each_state_reached_is_legal b checked h t = (run_not_stuck b checked h t).1

-- "Each instant, with room in any log lent, is either answered or refused as not constructive."
pub each_instant_is_answered_or_refused : (b : Block) → Checked b → (st : State) (heard : Hearing) → Instant b st heard (react b st heard)
each_instant_is_answered_or_refused b checked st heard = reacts b st heard checked

pub it_has_no_other_answer : (b : Block) (st : State) (heard : Hearing) {a d : Answer} → Instant b st heard a → Instant b st heard d → a ≡ d
it_has_no_other_answer b st heard = one_answer b st heard

pub it_is_not_both : (b : Block) (st : State) (heard : Hearing) {vs ws : List Status} {c m n : ℕ} {st' : State}
    → Instant b st heard (answered vs c st' m) → Instant b st heard (not_constructive ws n) → ⊥
it_is_not_both b st heard = never_both b st heard

-- "Each answered one is the only reaction that the plain coherence law allows: same outputs, same code, same next state."
pub each_answered_one_is_the_only_reaction : (b : Block) (st : State) (heard : Hearing) {vs : List Status} {c n : ℕ} {st' : State}
    → Instant b st heard (answered vs c st' n) → (given : Numbers) → Choice b heard given → OnlyReaction b st given vs c st'
each_answered_one_is_the_only_reaction b st heard i = answer_only b st heard i

-- "An answer given with unknown inputs has the outputs, code and next state that come with any statuses for them": whatever more is heard, part or all;
pub whatever_more_is_heard_the_answer_stays : (b : Block) (st : State) (h h' : Hearing) → HearsMore b h h' → {vs : List Status} {c n : ℕ} {st' : State} {a : Answer}
    → Instant b st h (answered vs c st' n) → Instant b st h' a → SameButRounds vs c st' a
whatever_more_is_heard_the_answer_stays = late

-- every choice of present and absent for the rest is such a hearing, with no unknowns.
pub every_choice_is_heard : (b : Block) {heard : Hearing} {given : Numbers} → Choice b heard given → HearsMore b heard (all_heard b given)
every_choice_is_heard = choice_hears_more

-- With no unknowns the set itself is a choice, so that the demand without them is an instance.
pub with_no_unknowns_the_set_is_the_choice : (b : Block) (given : Numbers) → Choice b (all_heard b given) given
with_no_unknowns_the_set_is_the_choice = all_is_choice

-- What it rests on. Must and can: must grows and can shrinks with the event; plus is inside open; must is inside can under plus; must has at
-- most one code; where it has one, can under plus equals it.
pub must_grows_with_the_event : (p : Step) {E F : Event} → E ⊑ F → Inside (gives must p E) (gives must p F)
must_grows_with_the_event = must_grows

pub can_shrinks_with_the_event : (p : Step) (m : Mark) {E F : Event} → E ⊑ F → Inside (gives (can m) p F) (gives (can m) p E)
can_shrinks_with_the_event = can_shrinks

pub plus_is_inside_open : (p : Step) (E : Event) → Inside (gives (can plus) p E) (gives (can opened) p E)
plus_is_inside_open = plus_in_opened

pub must_is_inside_can : (p : Step) (E : Event) → Inside (gives must p E) (gives (can plus) p E)
must_is_inside_can = must_in_can

pub must_has_at_most_one_code : (p : Step) (E : Event) (c d : ℕ) → T ((gives must p E).codes c) → T ((gives must p E).codes d) → c ≡ d
must_has_at_most_one_code p E = (one_code p E).equal

pub with_a_code_can_equals_must : (p : Step) (E : Event) (c : ℕ) → T ((gives must p E).codes c) → gives (can plus) p E ≡ gives must p E
with_a_code_can_equals_must = exact

-- Rounds: they end after at least 1 and at most outputs plus 1, as `final_of` computes; their end is the only one, the first statuses that
-- a round leaves as they are; a decided output keeps its status; a known code leaves none undecided; and any order of settling ends alike.
pub rounds_end : (b : Block) (st : State) (heard : Hearing) → Final b st heard
rounds_end = final

pub rounds_are_determined : (b : Block) (p : Step) (heard : Hearing) {vs ws us : List Status} {m n : ℕ} → Rounds b p heard vs m ws → Rounds b p heard vs n us → (m ≡ n) × (ws ≡ us)
rounds_are_determined b p heard = rounds_unique b p heard

pub final_of_computes_their_only_end : (b : Block) (st : State) (heard : Hearing) {vs : List Status} {n : ℕ} → Rounds b (step b.body st) heard (begin b) n vs
    → (n ≡ (final_of b st heard).rounds) × (vs ≡ (final_of b st heard).statuses)
final_of_computes_their_only_end b st heard r = rounds_unique b (step b.body st) heard r (final b st heard).ends

pub the_last_round_changes_nothing : (b : Block) (p : Step) (heard : Hearing) {vs ws : List Status} {n : ℕ} → Rounds b p heard vs n ws → round b p heard ws ≡ ws
the_last_round_changes_nothing b p heard = last_unchanged b p heard

pub a_decided_output_keeps_its_status : (b : Block) (p : Step) (heard : Hearing) {vs : List Status} → Reached b p heard vs
    → (i : ℕ) → i < length vs → Below (get_or vs i unknown) (get_or (round b p heard vs) i unknown)
a_decided_output_keeps_its_status b p heard = round_keeps b p heard

pub with_none_undecided_a_round_changes_nothing : (b : Block) (p : Step) (heard : Hearing) {vs : List Status} → Reached b p heard vs → undecided vs ≡ 0
    → round b p heard vs ≡ vs
with_none_undecided_a_round_changes_nothing b p heard = nothing_left b p heard

pub a_known_code_leaves_none_undecided : (b : Block) (p : Step) (heard : Hearing) {vs : List Status} {n : ℕ} → Rounds b p heard (begin b) n vs
    → (c : ℕ) → T ((gives must p (event b heard vs)).codes c) → undecided vs ≡ 0
a_known_code_leaves_none_undecided b p heard {vs} r = none_undecided b p heard vs (last_unchanged b p heard r)

pub rounds_are_one_order_of_settling : (b : Block) (p : Step) (heard : Hearing) {vs : List Status} {n : ℕ} → Rounds b p heard (begin b) n vs → Reached b p heard vs
rounds_are_one_order_of_settling b p heard r = last_reached b p heard at_first r

pub any_order_of_settling_ends_alike : (b : Block) (p : Step) (heard : Hearing) {vs ws : List Status} → Reached b p heard vs → Reached b p heard ws
    → round b p heard vs ≡ vs → round b p heard ws ≡ ws → vs ≡ ws
any_order_of_settling_ends_alike b p heard = same_end b p heard

-- One output at a time, present if in must and absent if not in can under plus: whatever the order, where none is left the statuses are those of
-- the rounds, with the same code or none. Every step decides one output, so no order takes more steps than there are outputs; at every moment
-- one is left or none is, any output that a round would settle may be settled alone, and every order can be gone on with until none is left.
pub settling_one_at_a_time_ends_as_the_rounds : (b : Block) (st : State) (heard : Hearing) {n : ℕ} {vs : List Status}
    → Order b (step b.body st) heard (begin b) n vs → NoneLeft b (step b.body st) heard vs → EndsAsRounds b st heard n vs
settling_one_at_a_time_ends_as_the_rounds = any_order

pub a_step_for_each_output_decided : (b : Block) (p : Step) (heard : Hearing) {n : ℕ} {vs : List Status} → Order b p heard (begin b) n vs
    → n + undecided vs ≡ b.outputs
a_step_for_each_output_decided = steps_from_begin

pub at_every_moment_one_is_left_or_none : (b : Block) (p : Step) (heard : Hearing) (vs : List Status) → OneLeft b p heard vs ⊎ NoneLeft b p heard vs
at_every_moment_one_is_left_or_none = one_left_or_none

pub what_a_round_settles_may_be_settled_alone : (b : Block) (p : Step) (heard : Hearing) (vs : List Status) (i : ℕ) → i < length vs → get_or vs i unknown ≡ unknown
    → (v : Status) → (v ≡ unknown → ⊥) → get_or (round b p heard vs) i unknown ≡ v → Justifies b p heard vs i v
what_a_round_settles_may_be_settled_alone = settled_alone

pub every_order_goes_on_to_where_the_rounds_end : (b : Block) (st : State) (heard : Hearing) {n : ℕ} {vs : List Status} → Order b (step b.body st) heard (begin b) n vs
    → (m : ℕ) × (ws : List Status) × Order b (step b.body st) heard vs m ws × Order b (step b.body st) heard (begin b) (m + n) ws × EndsAsRounds b st heard (m + n) ws
every_order_goes_on_to_where_the_rounds_end = goes_on_to_the_end

-- Coherence: an execution whose locals agree lies between must and can at every event below its own, so a coherent reaction does at every
-- event of the rounds; with the code known it is the computed one, and the computed one is coherent.
pub an_execution_lies_between : (p : Step) (l : Locals p) (W : Numbers) → LocalsAgree p l W → (E : Event) → E ⊑ whole W
    → Between (gives must p E) (gives (can plus) p E) (execute p l W)
an_execution_lies_between = sound

pub a_coherent_reaction_lies_between : (b : Block) (st : State) (heard : Hearing) (given : Numbers) (chosen : Choice b heard given)
    {outs : List Bool} {c : ℕ} {st' : State} (r : Coherent b st given outs c st')
    {vs : List Status} → Reached b (step b.body st) heard vs
    → Between (gives must (step b.body st) (event b heard vs)) (gives (can plus) (step b.body st) (event b heard vs))
    (execute (step b.body st) r.locals (world b given outs))
a_coherent_reaction_lies_between b st heard given chosen r = coherent_between b st heard given chosen r

-- Codes and pauses: the loop check's codes bound what can gives a started statement, and every run; from a legal state code 1 comes exactly
-- with something kept, and what is kept makes a legal state: some of the block's pauses, pairwise compatible.
pub the_check_bounds_can : (p : Stmt) → T (loops_pass p) → (k : Question) (E : Event) → Within (gives k (started p) E).codes (codes_of p)
the_check_bounds_can = given_codes

pub the_check_bounds_runs : (p : Stmt) → T (loops_pass p) → (l : Locals (started p)) (W : Numbers) → T (codes_of p (execute (started p) l W).completes)
the_check_bounds_runs = run_codes

pub code_1_exactly_when_something_is_kept : (b : Block) → Checked b → (st : State) → Legal b.body st → (E : Event) (c : ℕ) → T ((gives must (step b.body st) E).codes c)
    → (c ≡ 1) ↔ Some (kept (step b.body st) E)
code_1_exactly_when_something_is_kept b checked = computed_keeps_at_one b.body checked.pauses_are_numbered

pub and_so_in_every_run : (b : Block) → Checked b → (st : State) → Legal b.body st → (l : Locals (step b.body st)) (W : Numbers)
    → ((execute (step b.body st) l W).completes ≡ 1) ↔ Some (execute (step b.body st) l W).keeps
and_so_in_every_run b checked = run_keeps_at_one b.body checked.pauses_are_numbered

pub what_is_kept_is_legal : (b : Block) → Checked b → (st : State) → Legal b.body st → (E : Event) (c : ℕ) → T ((gives must (step b.body st) E).codes c)
    → Legal b.body (next c (kept (step b.body st) E))
what_is_kept_is_legal b checked = computed_next_legal b.body checked.pauses_are_numbered

pub what_a_run_keeps_is_legal : (b : Block) → Checked b → (st : State) → Legal b.body st → (l : Locals (step b.body st)) (W : Numbers)
    → Legal b.body (next (execute (step b.body st) l W).completes (execute (step b.body st) l W).keeps)
what_a_run_keeps_is_legal b checked = run_next_legal b.body checked.pauses_are_numbered
