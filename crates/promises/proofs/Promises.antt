-- Demand 3 on the caller's bytes, as a caller sees it: `check` answered Good, `fresh` wrote this record, and then instants are called for, with
-- one declared input set or with two. Each answered one is the only coherent reaction, and the state that it wrote is legal for the block. What a call
-- answers and leaves is known by its own contract (`specs/Calls`). Each theorem is proved in the file that the `use` lines name: Good gives the
-- conditions on the tree, no test of the call then fails, and demand 3 of the rules says the rest. Assumes nothing.
use mathlib.Core.Path.{◌≡◌}
use mathlib.Core.Bool.{false, not, ◌&&◌}
use mathlib.Core.List.{List, map}
use Prim.Native.Nat.{ℕ, ◌+◌, ◌*◌, ◌≤◌}
use lib.Dec.{ltb}
use lib.ListN.{length}
use Rattle.sets.specs.Words.{bits}
use Rattle.rules.specs.States.{State, fresh, Legal}
use Rattle.theorems.specs.Checked.{Checked}
use Rattle.theorems.specs.Traces.{run, arrives}
use Rattle.block.specs.Format.{Good, good, reading}
use Rattle.block.specs.declared.whole.Summary.{Summary}
use Rattle.records.specs.Numerals.{Bytes}
use Rattle.records.specs.StateRecord.{state_record, version_in, statements_in}
use Rattle.records.proofs.Reading.{named_version, named_statements}
use Rattle.reaction.specs.Instants.{block_of, heard_of, told_reaction, verdict}
use Rattle.records.specs.LogRecord.{no_room}
use Rattle.reaction.specs.declared.Given.{Given}
use Rattle.std.specs.Prelude.{Ok}
use Rattle.std.specs.Prelude.{Ok}
use Rattle.foldheron.specs.Answers.{Instant}
use Rattle.foldheron.specs.Answers.{Logging, answer_in, end_in}
use Rattle.reaction.specs.Answers.{instant_told}
use Rattle.promises.specs.Promised.{ReadAs, Holds, Inputs, Alike, PromisedAnswer, Promised, PromisedLogged, PromisedCalls}
use Rattle.promises.specs.Runs.{verdicts, bytes_left, logged_verdicts, logged_bytes_left, givens, sets, PromisedRun}
use Rattle.promises.specs.Calls.{CheckCalled, FreshCalled, CalledFor, Calls, LoggedFor, LoggedCalls}
use Rattle.promises.proofs.Records.{checked, held_is_legal, version_fits, legal_is_held}
use Rattle.promises.proofs.Instants.{promised}
use Rattle.promises.proofs.Runs.{promised_run, same_verdict, same_run}
use Rattle.promises.proofs.Calls.{good_is_read, fresh_is_held, call, calls, calls_keep, call_with_log}
use Rattle.promises.proofs.LoggedRuns.{without_log}
use Rattle.promises.proofs.Heard.{stays, logged_stays, same_call, same_logged_call}
use Rattle.theorems.specs.Order.{HearsMore}
use Rattle.reaction.specs.declared.Given.TheVariants.{All, Two}

-- The one hypothesis on a block is that `check` answered Good to it.
module _ (b : List ℕ) (said : Summary) (good_answer : CheckCalled b (Ok said)) where
  -- Then its bytes have a good reading, which declares and counts what was said.
  pub a_good_block_is_read : ReadAs b said
  a_good_block_is_read = good_is_read b said good_answer

  abbrev g : Good
  g = (good_is_read b said good_answer).block

  e : reading b ≡ good g
  e = (good_is_read b said good_answer).its_reading

  -- What demand 3 asks of a tree follows from it.
  pub good_is_checked : Checked (block_of g)
  good_is_checked = checked b g e

  -- The record that `fresh` wrote is found legal, and holds the fresh state. Like everything lent the block is bytes, so that its version has two.
  pub fresh_writes_a_legal_record : Bytes b → (s s' : List ℕ) → FreshCalled b s (Ok tt) s' → Holds g s' fresh
  fresh_writes_a_legal_record bytes = fresh_is_held b bytes g e

  -- A record that is found legal holds a legal state, and every legal state's record is found legal.
  pub found_legal_is_legal : (s : List ℕ) (st : State) → Holds g s st → Legal g.body st
  found_legal_is_legal = held_is_legal b g e

  pub legal_is_found_legal : Bytes b → (st : State) → Legal g.body st → Holds g (state_record g.header.version g.statements st) st
  legal_is_found_legal bytes = legal_is_held b g e (version_fits b g e bytes)

  -- From the record that `fresh` wrote, over calls of `instant` one after the other: each answered one is the only coherent reaction, told and
  -- written as a legal state, or 13 is told and every byte kept;
  module _ (bytes : Bytes b) (s s₀ : List ℕ) (written : FreshCalled b s (Ok tt) s₀) (ws : List (Inputs g)) (rs : List Instant) (s' : List ℕ) (made : Calls b s₀ (givens ws) rs s') where
    pub from_fresh_each_answer_is_the_only_reaction_or_13 : PromisedCalls g s₀ fresh ws rs s'
    from_fresh_each_answer_is_the_only_reaction_or_13 = calls_keep b g e s₀ fresh (fresh_is_held b bytes g e s s₀ written) ws rs s' made

    -- and together they are the run of the rules, and leave the bytes of the state that it arrives at.
    pub from_fresh_the_calls_make_the_rules_run : (map instant_told rs ≡ map (told_reaction (block_of g)) (run (block_of g) fresh (sets ws))) × Holds g s' (arrives (block_of g) fresh (sets ws))
    from_fresh_the_calls_make_the_rules_run = calls b g e s₀ fresh (fresh_is_held b bytes g e s s₀ written) ws rs s' made

  -- and so over calls of `instant_logged`, where the log has room for a record each.
  pub from_fresh_each_logged_answer_is_the_only_reaction_or_13 : Bytes b → (s s₀ : List ℕ) → FreshCalled b s (Ok tt) s₀
      → (ws : List (Inputs g)) (rs : List Logging) (log log' : List ℕ) (end end' : ℕ) (s' : List ℕ) → end + 32 * length (givens ws) ≤ length log
      → LoggedCalls b s₀ log end (givens ws) rs s' log' end' → PromisedCalls g s₀ fresh ws (map answer_in rs) s'
  from_fresh_each_logged_answer_is_the_only_reaction_or_13 bytes s s₀ written ws rs log log' end end' s' room made =
      calls_keep b g e s₀ fresh (fresh_is_held b bytes g e s s₀ written) ws (map answer_in rs) s' (without_log b made room)

  -- The same from any record that is found legal:
  module _ (s : List ℕ) (st : State) (h : Holds g s st) where
    -- in one call and in calls one after the other,
    pub each_call_keeps_the_promise : (w : Inputs g) (r : Instant) (s' : List ℕ) → CalledFor b s w.given r s' → PromisedAnswer g s st w (instant_told r) s'
    each_call_keeps_the_promise = call b g e s st h

    -- what is written names the block,
    pub what_is_written_names_the_block : (w : Inputs g) (r : Instant) (s' : List ℕ) → CalledFor b s w.given r s'
        → (version_in s' ≡ g.header.version) × (statements_in s' ≡ g.statements)
    what_is_written_names_the_block w r s' c =
        let n = (call b g e s st h w r s' c).holds_after.names_it in
        (named_version g.header.version g.statements s' n, named_statements g.header.version g.statements s' n)

    -- an answer given with unknown inputs is the answer whatever more is heard, but for the rounds,
    pub an_answer_stays_whatever_more_is_heard : (w w' : Inputs g) → HearsMore (block_of g) (heard_of g w.given) (heard_of g w'.given)
        → (r r' : Instant) (s₁ s₂ : List ℕ) → CalledFor b s w.given r s₁ → CalledFor b s w'.given r' s₂ → (instant_told r).number ≡ 0
        → Alike (instant_told r) (instant_told r') × (s₂ ≡ s₁)
    an_answer_stays_whatever_more_is_heard = stays b g e s st h

    -- with a log too, where it has room,
    pub a_logged_answer_stays_whatever_more_is_heard : (w w' : Inputs g) → HearsMore (block_of g) (heard_of g w.given) (heard_of g w'.given)
        → (log : List ℕ) (end : ℕ) → end + 32 ≤ length log → (r r' : Logging) (s₁ s₂ log₁ log₂ : List ℕ) → LoggedFor b s w.given log end r s₁ log₁
        → LoggedFor b s w'.given log end r' s₂ log₂ → (instant_told (answer_in r)).number ≡ 0
        → Alike (instant_told (answer_in r)) (instant_told (answer_in r')) × (s₂ ≡ s₁)
    a_logged_answer_stays_whatever_more_is_heard = logged_stays b g e s st h

    pub each_of_the_calls_keeps_the_promise : (ws : List (Inputs g)) (rs : List Instant) (s' : List ℕ) → Calls b s (givens ws) rs s' → PromisedCalls g s st ws rs s'
    each_of_the_calls_keeps_the_promise = calls_keep b g e s st h

    pub the_calls_make_the_rules_run : (ws : List (Inputs g)) (rs : List Instant) (s' : List ℕ) → Calls b s (givens ws) rs s'
        → (map instant_told rs ≡ map (told_reaction (block_of g)) (run (block_of g) st (sets ws))) × Holds g s' (arrives (block_of g) st (sets ws))
    the_calls_make_the_rules_run = calls b g e s st h

    -- and with `instant_logged`, where the log has room.
    pub each_logged_call_keeps_the_promise : (w : Inputs g) (log : List ℕ) (end : ℕ) → end + 32 ≤ length log → (r : Logging) (s' log' : List ℕ)
        → LoggedFor b s w.given log end r s' log' → PromisedLogged g s st w log end r s' log'
    each_logged_call_keeps_the_promise = call_with_log b g e s st h

    pub each_of_the_logged_calls_keeps_the_promise : (ws : List (Inputs g)) (rs : List Logging) (log log' : List ℕ) (end end' : ℕ) (s' : List ℕ)
        → end + 32 * length (givens ws) ≤ length log → LoggedCalls b s log end (givens ws) rs s' log' end' → PromisedCalls g s st ws (map answer_in rs) s'
    each_of_the_logged_calls_keeps_the_promise ws rs log log' end end' s' room made = calls_keep b g e s st h ws (map answer_in rs) s' (without_log b made room)

    -- Behind it: each instant is the only coherent reaction, written as a legal state, or 13 with every byte kept;
    pub each_instant_is_the_only_reaction_or_13 : (w : Inputs g) → Promised b g s st w
    each_instant_is_the_only_reaction_or_13 = promised b g e s st h

    -- over every run every record on the way is found legal, and the run on bytes is the run of the rules.
    pub each_run_is_the_rules_run : (ws : List (Inputs g)) → PromisedRun b g s st ws
    each_run_is_the_rules_run = promised_run b g e s st h

-- A call with one input set is the call with two and no unknowns: the set itself, and every other input absent. The answer, the state and, with a log,
-- its bytes and its end are the same.
module _ (b : List ℕ) (g : Good) (e : reading b ≡ good g) (s : List ℕ) (w rest : ℕ) (f : (n : ℕ) → bits rest n ≡ (ltb n g.header.inputs && not (bits w n))) where
  pub a_set_has_no_unknowns : (r r' : Instant) (s₁ s₂ : List ℕ) → CalledFor b s (All w) r s₁ → CalledFor b s (Two w rest) r' s₂
      → (instant_told r ≡ instant_told r') × (s₁ ≡ s₂)
  a_set_has_no_unknowns = same_call b g e s w rest f

  pub a_set_has_no_unknowns_with_a_log : (log : List ℕ) (end : ℕ) (r r' : Logging) (s₁ s₂ log₁ log₂ : List ℕ) → LoggedFor b s (All w) log end r s₁ log₁
      → LoggedFor b s (Two w rest) log end r' s₂ log₂
      → (instant_told (answer_in r) ≡ instant_told (answer_in r')) × (end_in r ≡ end_in r') × (s₁ ≡ s₂) × (log₁ ≡ log₂)
  a_set_has_no_unknowns_with_a_log = same_logged_call b g e s w rest f

-- With room in the log an instant with a log is the one without, and so is a run with room for a record each.
pub with_room_the_same_instant : (log : List ℕ) (end : ℕ) → end + 32 ≤ length log → (b s : List ℕ) (w : Given) → verdict b s w (no_room log end) ≡ verdict b s w false
with_room_the_same_instant = same_verdict

pub with_room_the_same_run : (b s : List ℕ) (ws : List Given) (log : List ℕ) (end : ℕ) → end + 32 * length ws ≤ length log
    → (logged_verdicts b s ws log end ≡ verdicts b s ws) × (logged_bytes_left b s ws log end ≡ bytes_left b s ws)
with_room_the_same_run = same_run
