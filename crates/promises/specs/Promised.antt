-- What is promised of one instant of a good block, on the caller's bytes. Assumes nothing.
use Rattle.std.specs.Prelude.{◌≡◌, Bool, true, false, List, [], ◌∷◌, ℕ, ◌<◌, T}
use Rattle.std.proofs.Math.Option.{none}
use Rattle.sets.specs.Numbers.{Numbers, empty, count}
use Rattle.sets.specs.Words.{bits}
use Rattle.rules.specs.Events.{Status, Hearing}
use Rattle.rules.specs.States.{State, active_of}
use Rattle.rules.specs.Rounds.{Answer, answered, not_constructive, react}
use Rattle.rules.specs.Coherence.{world, Coherent}
use Rattle.theorems.specs.Reactions.{OnlyReaction}
use Rattle.theorems.specs.Traces.{InputSet, after}
use Rattle.theorems.proofs.Late.{rest_declared, rest_apart}
use Rattle.theorems.specs.Order.{Choice}
use Rattle.theorems.specs.Demand.{NotStuck}
use Rattle.block.specs.Format.{Good, good, reading}
use Rattle.block.specs.Told.{summary_of}
use Rattle.block.specs.declared.whole.Summary.{Summary}
use Rattle.records.specs.Numerals.{Bytes}
use Rattle.records.specs.StateRecord.{state, state_record, read_state, names_block, first_clash}
use Rattle.reaction.specs.Instants.{NOT_CONSTRUCTIVE, block_of, reacted, Told, told, state_after, log_by, end_by, verdict, heard_of}
use Rattle.reaction.specs.declared.Given.{Given}
use Rattle.reaction.specs.declared.Given.TheVariants.{All}
use Rattle.foldheron.specs.Answers.{Instant}
use Rattle.foldheron.specs.Answers.{Logging, answer_in, end_in}
use Rattle.reaction.specs.Answers.{instant_told}

-- A block that `check` answered Good to, with what it said of it: the bytes have one reading, and it is good.
pub record ReadAs (b : List ℕ) (said : Summary) : Type 0 where
  pub block : Good
  pub its_reading : reading b ≡ good block
  pub its_summary : said ≡ summary_of block

-- The state record of a good block is found legal: its bytes hold a state, it names the block, and no two active pauses clash.
pub record Holds (g : Good) (s : List ℕ) (st : State) : Type 0 where
  pub bytes : Bytes s
  pub found : read_state g.pauses s ≡ state st
  pub names_it : names_block g.header.version g.statements s ≡ true
  pub no_clash : first_clash g.body (active_of st) ≡ none

-- Declared inputs: only inputs of the block are heard, and none both present and absent.
pub record Inputs (g : Good) : Type 0 where
  pub given : Given
  pub present_declared : (n : ℕ) → T ((heard_of g given).heard_present n) → n < g.header.inputs
  pub absent_declared : (n : ℕ) → T ((heard_of g given).heard_absent n) → n < g.header.inputs
  pub apart : (n : ℕ) → T ((heard_of g given).heard_present n) → T ((heard_of g given).heard_absent n) → ⊥

-- Of one set that is no more than that it has no bit at or above the number of inputs; the other inputs are absent.
abbrev pub one_set : (g : Good) (set : ℕ) → ((n : ℕ) → T (bits set n) → n < g.header.inputs) → Inputs g
one_set g set f = record {
  given = All set;
  present_declared = f;
  absent_declared = λ n t. rest_declared (block_of g) (bits set) n t;
  apart = λ n s t. rest_apart (block_of g) (bits set) n s t;
}

abbrev pub input_set : {g : Good} → Inputs g → InputSet (block_of g)
input_set {g} w = record {
  heard = heard_of g w.given;
  present_declared = w.present_declared;
  absent_declared = w.absent_declared;
  apart = w.apart;
}

-- The rules' answer, from the state and for what is heard.
abbrev pub rules_answer : (g : Good) → State → Inputs g → Answer
rules_answer g st w = react (block_of g) st (heard_of g w.given)

-- A reaction as an answer tells it and as the state's bytes hold it, which name the block. Bit n is set exactly when signal n is an output and
-- present.
pub record Says (g : Good) (t : Told) (s : List ℕ) (outs : List Bool) (c : ℕ) (st : State) : Type 0 where
  pub outputs_are : (n : ℕ) → bits t.present_outputs n ≡ world (block_of g) empty outs n
  pub code_is : t.code ≡ c
  pub active_are : t.active ≡ count 128 (active_of st)
  pub state_is : s ≡ state_record g.header.version g.statements st

-- Answered: whatever the inputs not heard turn out to be, there is one coherent reaction and no other, and every coherent reaction is what is told
-- and written.
pub record TellsTheOnly (g : Good) (st : State) (heard : Hearing) (vs : List Status) (c : ℕ) (st' : State) (t : Told) (s' : List ℕ) : Type 0 where
  pub is_answered : t.number ≡ 0
  pub only_reaction : (chosen : Numbers) → Choice (block_of g) heard chosen → OnlyReaction (block_of g) st chosen vs c st'
  pub says_it : (chosen : Numbers) → Choice (block_of g) heard chosen → (outs : List Bool) (d : ℕ) (st'' : State)
      → Coherent (block_of g) st chosen outs d st'' → Says g t s' outs d st''

-- Not constructive: number 13, and the state's bytes are as they were.
pub record Unchanged (s : List ℕ) (t : Told) (s' : List ℕ) : Type 0 where
  pub is_refused : t.number ≡ NOT_CONSTRUCTIVE
  pub unchanged : s' ≡ s

-- What is told and written, by the rules' answer; s and s' are the state's bytes before and after.
abbrev pub Tells : Good → State → Hearing → List ℕ → Answer → Told → List ℕ → Type 0
Tells g st heard s (answered vs c st' n) t s' = TellsTheOnly g st heard vs c st' t s'
Tells g st heard s (not_constructive vs n) t s' = Unchanged s t s'

-- What is promised of an answer and of the state's bytes after it, where the bytes before held st:
pub record PromisedAnswer (g : Good) (s : List ℕ) (st : State) (w : Inputs g) (t : Told) (s' : List ℕ) : Type 0 where
  -- the only coherent reaction is told and written, or 13 is told and every byte kept,
  pub tells : Tells g st (heard_of g w.given) s (rules_answer g st w) t s'
  -- and the bytes after it are found legal again: they hold the state that the rules go on from.
  pub holds_after : Holds g s' (after st (rules_answer g st w))

-- Of an instant of the block with bytes b, on the state's bytes s that hold st, with declared inputs:
pub record Promised (b : List ℕ) (g : Good) (s : List ℕ) (st : State) (w : Inputs g) : Type 0 where
  -- it is none of the refusals 1 to 12, but the rules' answer from that state,
  pub is_reaction : verdict b s w.given false ≡ reacted (block_of g) (rules_answer g st w)
  -- of which demand 3 holds: the states before and after are legal, and an answer is the only coherent reaction;
  pub not_stuck : NotStuck (block_of g) st (input_set w) (rules_answer g st w)
  -- and so it is told and written.
  pub answer : PromisedAnswer g s st w (told (verdict b s w.given false)) (state_after s (verdict b s w.given false))

-- Two answers that differ in nothing but their rounds.
pub record Alike (t t' : Told) : Type 0 where
  pub same_number : t'.number ≡ t.number
  pub same_place : t'.place ≡ t.place
  pub same_first : t'.first ≡ t.first
  pub same_second : t'.second ≡ t.second
  pub same_present : t'.present_outputs ≡ t.present_outputs
  pub same_absent : t'.absent_outputs ≡ t.absent_outputs
  pub same_undecided : t'.undecided_outputs ≡ t.undecided_outputs
  pub same_code : t'.code ≡ t.code
  pub same_active : t'.active ≡ t.active

-- What is promised of an instant with a log that has room: the answer as without a log, and the log and its end by the rules' answer.
pub record PromisedLogged (g : Good) (s : List ℕ) (st : State) (w : Inputs g) (log : List ℕ) (end : ℕ) (r : Logging) (s' log' : List ℕ) : Type 0 where
  pub answer : PromisedAnswer g s st w (instant_told (answer_in r)) s'
  pub end_is : end_in r ≡ end_by end (rules_answer g st w)
  pub log_is : log' ≡ log_by log end w.given (block_of g) (rules_answer g st w)

-- What is promised of calls one after the other: at each of them what is promised of one, from the state that the rules arrived at.
pub data PromisedCalls (g : Good) : List ℕ → State → List (Inputs g) → List Instant → List ℕ → Type 0 where
  no_call : {s : List ℕ} {st : State} → Holds g s st → PromisedCalls g s st [] [] s
  one_more : {s s₁ s' : List ℕ} {st : State} {w : Inputs g} {ws : List (Inputs g)} {r : Instant} {rs : List Instant} → PromisedAnswer g s st w (instant_told r) s₁
      → PromisedCalls g s₁ (after st (rules_answer g st w)) ws rs s' → PromisedCalls g s st (w ∷ ws) (r ∷ rs) s'
