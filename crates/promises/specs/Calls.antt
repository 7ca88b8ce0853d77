-- Calls of the library, each by its function's own contract: `Learnt` is what the contract lets a caller learn of a call. It is made from the
-- clauses in `foldheron/src`, so nothing is written a second time here, and a clause that a contract loses is lost here too. Assumes nothing.
-- A further call takes two lines here and two in `proofs/Learnt`. Here it is `Learnt` of its function, of the arguments, the result and the
-- arguments at exit, each in the order of the parameters; a lent slice or number is `at i holds x`, and where it may be written `at i lends x`, with
-- x' for x at exit.
use Rattle.std.specs.Prelude.{◌≡◌, cond, List, [], ◌∷◌, ℕ, eqb, Result}
use contract.Lifetimes.{Lfts}
use Rattle.std.specs.Borrow.{Bor, MutBor}
use Rattle.refusals.specs.declared.Why.{Why}
use Rattle.refusals.specs.declared.Refused.{Refused}
use Rattle.shelf.specs.Answered.{fetched_as}
use Rattle.foldheron.specs.Answers.{Checked}
use Rattle.foldheron.specs.Answers.{Begun}
use Rattle.foldheron.specs.Answers.{FoundPart, Excerpt, excerpted_as}
use Rattle.reaction.specs.declared.Given.{Given}
use Rattle.reaction.specs.declared.Given.TheVariants.{All, Two}
use Rattle.foldheron.specs.Answers.{Instant}
use Rattle.foldheron.specs.Answers.{Logging, answer_in, end_in}
use Rattle.reasons.specs.declared.asked.Asked.{Asked}
use Rattle.foldheron.specs.Answers.{Reason}
use Rattle.foldheron.specs.Answers.{Likeness}
use Rattle.foldheron.specs.Answers.{Wrote}
use Rattle.foldheron.specs.Answers.{Maze}
use Rattle.maze.specs.declared.Room.{Room}
use Rattle.foldheron.specs.Answers.{FoundCorridor}
use Rattle.reaction.specs.Answers.{instant_told}
use Rattle.refusals.proofs.number_of.Reads as refusal_number
use Rattle.foldheron.proofs.check.Reads as check
use Rattle.foldheron.proofs.fresh.Reads as fresh
use Rattle.foldheron.proofs.part_of.Reads as block_part
use Rattle.foldheron.proofs.excerpt.Reads as excerpt
use Rattle.foldheron.proofs.instant.Reads as instant
use Rattle.foldheron.proofs.instant_logged.Reads as instant_logged
use Rattle.foldheron.proofs.instant_heard.Reads as instant_heard
use Rattle.foldheron.proofs.instant_heard_logged.Reads as instant_heard_logged
use Rattle.foldheron.proofs.reason.Reads as reason
use Rattle.shelf.proofs.install.Reads as install
use Rattle.shelf.proofs.fetch.Reads as fetch
use Rattle.shelf.proofs.withdraw.Reads as withdraw
use Rattle.alike.proofs.alike.Reads as alike
use Rattle.copies.proofs.double_loops.Reads as double_loops
use Rattle.convert.proofs.convert.Reads as convert
use Rattle.write_text.proofs.write_text.Reads as write_text
use Rattle.read_text.proofs.read_text.Reads as read_text
use Rattle.maze.proofs.view.maze.Reads as maze
use Rattle.maze.proofs.ways.corridor.Reads as corridor

-- Where something lent lies in memory, and a reference to what it holds: one to read it, and one to write it.
pub record Place : Type 0 where
  pub ptr : ℕ × ℕ
  pub name : ℕ

infixl 20 ◌holds◌
abbrev pub ◌holds◌ : {X : Type 0} → Place → X → Bor X
p holds x = record { ref_ptr = p.ptr; now = x }

infixl 20 ◌lends◌
abbrev pub ◌lends◌ : {X : Type 0} → Place → X → MutBor X
p lends x = record { ref_ptr = p.ptr; ghost_name = p.name; now = x }

-- A call with n lifetimes was made, wherever what is lent lies.
pub record Call (n : ℕ) (Learnt : Lfts n → (ℕ → Place) → Type 0) : Type 0 where
  pub lifetimes : Lfts n
  pub places : ℕ → Place
  pub learnt : Learnt lifetimes places

-- `check` of a block's bytes b answers r.
pub record CheckCalled (b : List ℕ) (r : Checked) : Type 0 where
  pub call : Call 1 λ κs at. check.Learnt κs (at 0 holds b, tt) r (at 0 holds b, tt)

-- `fresh` for b on the lent bytes s answers r and leaves s'.
pub record FreshCalled (b s : List ℕ) (r : Begun) (s' : List ℕ) : Type 0 where
  pub call : Call 2 λ κs at. fresh.Learnt κs (at 0 holds b, (at 1 lends s, tt)) r (at 0 holds b, (at 1 lends s', tt))

-- `instant` on block b, state's bytes s and input set w answers r and leaves the state's bytes s'.
pub record Called (b s : List ℕ) (w : ℕ) (r : Instant) (s' : List ℕ) : Type 0 where
  pub call : Call 2 λ κs at. instant.Learnt κs (at 0 holds b, (at 1 lends s, (w, tt))) r (at 0 holds b, (at 1 lends s', (w, tt)))

-- `instant_heard` on block b, state's bytes s, the inputs present and the inputs absent.
pub record HeardCalled (b s : List ℕ) (p a : ℕ) (r : Instant) (s' : List ℕ) : Type 0 where
  pub call : Call 2 λ κs at. instant_heard.Learnt κs (at 0 holds b, (at 1 lends s, (p, (a, tt)))) r (at 0 holds b, (at 1 lends s', (p, (a, tt))))

-- `instant_logged`, with a log and its end besides, leaves the log's bytes log' too.
pub record CalledWithLog (b s : List ℕ) (w : ℕ) (log : List ℕ) (end : ℕ) (r : Logging) (s' log' : List ℕ) : Type 0 where
  pub call : Call 3 λ κs at.
      instant_logged.Learnt κs (at 0 holds b, (at 1 lends s, (w, (at 2 lends log, (end, tt))))) r (at 0 holds b, (at 1 lends s', (w, (at 2 lends log', (end, tt)))))

-- `instant_heard_logged` likewise.
pub record HeardCalledWithLog (b s : List ℕ) (p a : ℕ) (log : List ℕ) (end : ℕ) (r : Logging) (s' log' : List ℕ) : Type 0 where
  pub call : Call 3 λ κs at.
      instant_heard_logged.Learnt κs (at 0 holds b, (at 1 lends s, (p, (a, (at 2 lends log, (end, tt)))))) r
      (at 0 holds b, (at 1 lends s', (p, (a, (at 2 lends log', (end, tt))))))

-- An instant by either call: `instant` with a set, or `instant_heard` with two; and with a log.
pub data CalledFor (b s : List ℕ) : Given → Instant → List ℕ → Type 0 where
  with_set : {w : ℕ} {r : Instant} {s' : List ℕ} → Called b s w r s' → CalledFor b s (All w) r s'
  with_two : {p a : ℕ} {r : Instant} {s' : List ℕ} → HeardCalled b s p a r s' → CalledFor b s (Two p a) r s'

pub data LoggedFor (b s : List ℕ) : Given → List ℕ → ℕ → Logging → List ℕ → List ℕ → Type 0 where
  with_set : {w : ℕ} {log : List ℕ} {end : ℕ} {r : Logging} {s' log' : List ℕ} → CalledWithLog b s w log end r s' log' → LoggedFor b s (All w) log end r s' log'
  with_two : {p a : ℕ} {log : List ℕ} {end : ℕ} {r : Logging} {s' log' : List ℕ} → HeardCalledWithLog b s p a log end r s' log'
      → LoggedFor b s (Two p a) log end r s' log'

-- `part_of` statement n of b answers r.
pub record PartCalled (b : List ℕ) (n : ℕ) (r : FoundPart) : Type 0 where
  pub call : Call 1 λ κs at. block_part.Learnt κs (at 0 holds b, (n, tt)) r (at 0 holds b, (n, tt))

-- `excerpt` of statement n of b hands back a part with these bytes, with the number k 0 and the place p 0, or is turned down with number k at place p and has no part.
pub record ExcerptCalled (b : List ℕ) (n : ℕ) (part : List ℕ) (k p : ℕ) : Type 0 where
  pub answer : Excerpt
  pub is_told : excerpted_as answer ≡ record { number = k; place = p; part = part }
  pub call : Call 1 λ κs at. excerpt.Learnt κs (at 0 holds b, (n, tt)) answer (at 0 holds b, (n, tt))

-- `reason` on block b, state's bytes s, the inputs present and the inputs absent, and a question answers r. Nothing that is lent to it may be written.
pub record ReasonCalled (b s : List ℕ) (p a : ℕ) (asked : Asked) (r : Reason) : Type 0 where
  pub call : Call 2 λ κs at. reason.Learnt κs (at 0 holds b, (at 1 holds s, (p, (a, (asked, tt))))) r (at 0 holds b, (at 1 holds s, (p, (a, (asked, tt)))))

-- `install` of the block b under a party's name on the lent shelf s answers r and leaves s'.
pub record InstallCalled (s : List ℕ) (party name : ℕ) (b : List ℕ) (r : Result (Unit {0}) Refused) (s' : List ℕ) : Type 0 where
  pub call : Call 2 λ κs at. install.Learnt κs (at 0 lends s, (party, (name, (at 1 holds b, tt)))) r (at 0 lends s', (party, (name, (at 1 holds b, tt))))

-- `fetch` of a party's name hands back a part of the shelf s with these bytes; or it is refused with the number k at the place p, and hands back none.
pub record FetchCalled (s : List ℕ) (party name : ℕ) (part : List ℕ) (k p : ℕ) : Type 0 where
  pub answer : Result (Bor (List ℕ)) Refused
  pub is_told : fetched_as answer ≡ record { number = k; place = p; part = part }
  pub call : Call 1 λ κs at. fetch.Learnt κs (at 0 holds s, (party, (name, tt))) answer (at 0 holds s, (party, (name, tt)))

-- `withdraw` of a party's name on the lent shelf s answers r and leaves s'.
pub record WithdrawCalled (s : List ℕ) (party name : ℕ) (r : Result (Unit {0}) Refused) (s' : List ℕ) : Type 0 where
  pub call : Call 1 λ κs at. withdraw.Learnt κs (at 0 lends s, (party, (name, tt))) r (at 0 lends s', (party, (name, tt)))

-- `alike` of two blocks on the lent bytes run answers r and leaves run'.
pub record AlikeCalled (first second run : List ℕ) (r : Likeness) (run' : List ℕ) : Type 0 where
  pub call : Call 3 λ κs at.
      alike.Learnt κs (at 0 holds first, (at 1 holds second, (at 2 lends run, tt))) r (at 0 holds first, (at 1 holds second, (at 2 lends run', tt)))

-- `double_loops` of the block b into the lent bytes out answers r and leaves out'.
pub record DoubleCalled (b out : List ℕ) (r : Wrote) (out' : List ℕ) : Type 0 where
  pub call : Call 2 λ κs at. double_loops.Learnt κs (at 0 holds b, (at 1 lends out, tt)) r (at 0 holds b, (at 1 lends out', tt))

-- `convert` of the block b into the lent bytes out answers r and leaves out'.
pub record ConvertCalled (b out : List ℕ) (r : Wrote) (out' : List ℕ) : Type 0 where
  pub call : Call 2 λ κs at. convert.Learnt κs (at 0 holds b, (at 1 lends out, tt)) r (at 0 holds b, (at 1 lends out', tt))

-- `write_text` of the block b into the lent bytes out answers r and leaves out'.
pub record WriteTextCalled (b out : List ℕ) (r : Wrote) (out' : List ℕ) : Type 0 where
  pub call : Call 2 λ κs at. write_text.Learnt κs (at 0 holds b, (at 1 lends out, tt)) r (at 0 holds b, (at 1 lends out', tt))

-- `read_text` of a text into the lent bytes out answers r and leaves out'.
pub record ReadTextCalled (text out : List ℕ) (r : Wrote) (out' : List ℕ) : Type 0 where
  pub call : Call 2 λ κs at. read_text.Learnt κs (at 0 holds text, (at 1 lends out, tt)) r (at 0 holds text, (at 1 lends out', tt))

-- `maze` of the block b with the inputs of a set present answers r.
pub record MazeCalled (b : List ℕ) (set : ℕ) (r : Maze) : Type 0 where
  pub call : Call 1 λ κs at. maze.Learnt κs (at 0 holds b, (set, tt)) r (at 0 holds b, (set, tt))

-- `corridor` number n of a room of that maze answers r.
pub record CorridorCalled (b : List ℕ) (set : ℕ) (room : Room) (n : ℕ) (r : FoundCorridor) : Type 0 where
  pub call : Call 1 λ κs at. corridor.Learnt κs (at 0 holds b, (set, (room, (n, tt)))) r (at 0 holds b, (set, (room, (n, tt))))

-- `number_of` a refusal answers k.
pub record NumberCalled (why : Why) (k : ℕ) : Type 0 where
  pub call : Call 0 λ κs at. refusal_number.Learnt κs (why, tt) k (why, tt)

-- Calls of `instant` and `instant_heard` one after the other, each on the state's bytes that the call before left.
pub data Calls (b : List ℕ) : List ℕ → List Given → List Instant → List ℕ → Type 0 where
  no_call : {s : List ℕ} → Calls b s [] [] s
  one_more : {s s₁ s' : List ℕ} {ws : List Given} {w : Given} {r : Instant} {rs : List Instant} → CalledFor b s w r s₁ → Calls b s₁ ws rs s' → Calls b s (w ∷ ws) (r ∷ rs) s'

-- The end that a caller goes on from: the new one after an answer, and its own after a refusal.
unfoldable pub went_on : ℕ → Logging → ℕ
went_on end r = cond (eqb (instant_told (answer_in r)).number 0) (end_in r) end

-- Calls with a log one after the other, each on the bytes of state and log that the call before left: from s, log and end to s', log' and end'.
pub data LoggedCalls (b : List ℕ) : List ℕ → List ℕ → ℕ → List Given → List Logging → List ℕ → List ℕ → ℕ → Type 0 where
  no_call : {s log : List ℕ} {end : ℕ} → LoggedCalls b s log end [] [] s log end
  one_more : {s s₁ s' log log₁ log' : List ℕ} {ws : List Given} {end end' : ℕ} {w : Given} {r : Logging} {rs : List Logging} → LoggedFor b s w log end r s₁ log₁
      → LoggedCalls b s₁ log₁ (went_on end r) ws rs s' log' end' → LoggedCalls b s log end (w ∷ ws) (r ∷ rs) s' log' end'
