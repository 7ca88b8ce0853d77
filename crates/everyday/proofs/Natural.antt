-- The reading of abort that one would write first, under which can of a resumed abort with its signal unknown has only 0 besides the body's codes, is not the
-- form's: the smallest block known to tell them apart, in its second instant, computed by the checker. Assumes nothing.
use mathlib.Core.Path.{◌≡◌, refl}
use mathlib.Core.List.{[], ◌∷◌}
use Rattle.sets.specs.Numbers.{empty, some_to, maxima, down, downs, lowest, listed}
use Rattle.rules.specs.Statements.{depth, code, pauses, from}
use Rattle.rules.specs.Events.{absent, unknown, Hearing, event}
use Rattle.rules.specs.Instant.{Step, done, stay, say, leave, test, catch, chain, beside, any, active, held, started, resumed}
use Rattle.rules.specs.MustCan.{gives}
use Rattle.rules.specs.States.{State, running, finished, step, kept, next}
use Rattle.rules.specs.Rounds.{answered, not_constructive, marks, round, begin, all_same, settle, final_of, answer, react}
use Rattle.everyday.specs.Statements.{pause, emit, exit, trap, abort_when, in_sequence, in_parallel, Everyday, alone, around, between, is_stop, stops}
use Rattle.everyday.specs.Meaning.{active₂, held₂, started₂, resumed₂, step₂}
use Rattle.everyday.specs.Conversion.{watches, pauses_made, convert, converted}
use Rattle.everyday.specs.Instants.{reacts_by, Block₂, interface, react₂}
use Rattle.everyday.proofs.Runs.{conversion}

-- trap ((trap ((abort (pause) when O; exit 1) parallel (pause; exit 0))); emit O); O is 0, and there are no inputs
abbrev telling : Everyday
telling =
    around trap (between in_sequence
    (around trap (between in_parallel
    (between in_sequence (around (abort_when 0) (alone pause)) (alone (exit (depth 1))))
    (between in_sequence (alone pause) (alone (exit (depth 0))))))
    (alone (emit 0)))

abbrev block : Block₂
block = record { inputs = 0; outputs = 1; body = telling }

abbrev nothing_heard : Hearing
nothing_heard = record { heard_present = empty; heard_absent = empty }

-- Both stops are active, and in the conversion the pauses 0, 1 (which watches) and 2.
abbrev second : State
second = running (listed (0 ∷ 1 ∷ []))

abbrev second_there : State
second_there = running (listed (0 ∷ 1 ∷ 2 ∷ []))

-- What there is to do, with what the abort has to do left open.
abbrev with_abort : Step → Step
with_abort a = catch (chain (catch (beside (chain a (leave (depth 1))) (chain done (leave (depth 0))))) (say 0))

said : step₂ telling second ≡ with_abort (test 0 done (test 0 (stay (held₂ 0 (listed (0 ∷ 1 ∷ [])) (alone pause))) done))
unfolding step₂ resumed₂ started₂ active₂ stops is_stop any from listed
said = refl

-- As it is said here, and in the conversion: NOT CONSTRUCTIVE, O undecided.
as_said : react₂ block second nothing_heard ≡ not_constructive (unknown ∷ []) 1
unfolding react₂ reacts_by step₂ resumed₂ started₂ active₂ held₂ stops is_stop any from listed gives kept code marks round begin all_same settle answer
    some_to maxima down downs lowest next event
as_said = refl

as_converted : react (conversion block) second_there nothing_heard ≡ not_constructive (unknown ∷ []) 1
unfolding react converted convert pauses_made watches is_stop step started resumed active held any pauses listed gives kept code marks round begin all_same
    settle final_of answer some_to maxima down downs lowest next event
as_converted = refl

-- As one would write it first: answered, O absent.
as_first_written : reacts_by (interface block) (with_abort (test 0 done done)) nothing_heard ≡ answered (absent ∷ []) 0 finished 2
unfolding reacts_by gives kept code marks round begin all_same settle answer some_to maxima down downs lowest next event
as_first_written = refl
