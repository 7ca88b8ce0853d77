-- What the answer of an instant says. Assumes nothing.
use Rattle.std.specs.Prelude.{Result, Ok, Err}
use Rattle.refusals.specs.Refusals.{number}
use Rattle.refusals.specs.declared.Refused.{Refused}
use Rattle.reaction.specs.declared.Reaction.{Reaction}
use Rattle.reaction.specs.declared.Stopped.{Stopped}
use Rattle.reaction.specs.declared.Stopped.TheVariants as stopped
use Rattle.reaction.specs.declared.Unanswered.{Unanswered}
use Rattle.reaction.specs.declared.Unanswered.TheVariants as unanswered
use Rattle.reaction.specs.Instants.{Told, told_refusal, CLASH, NOT_CONSTRUCTIVE}

-- A refusal as what the tests come to, and what the tests come to as what an instant comes to.
abbrev pub refused_as : Refused → Stopped
refused_as r = stopped.Refused r

abbrev pub stopped_as : Stopped → Unanswered
stopped_as (stopped.Clash m n) = unanswered.Clash m n
stopped_as (stopped.Refused r) = unanswered.Refused r

-- Every field of an answer: document 01's number and values for each case. All fields not named are 0.
unfoldable pub instant_told : Result Reaction Unanswered → Told
instant_told (Ok r) = record {
  number = 0;
  place = 0;
  first = 0;
  second = 0;
  present_outputs = r.present;
  absent_outputs = 0;
  undecided_outputs = 0;
  rounds = r.rounds;
  code = r.code.0;
  active = r.active;
}
instant_told (Err (unanswered.NotConstructive d)) = record {
  number = NOT_CONSTRUCTIVE;
  place = 0;
  first = 0;
  second = 0;
  present_outputs = d.present;
  absent_outputs = d.absent;
  undecided_outputs = d.undecided;
  rounds = d.rounds;
  code = 0;
  active = 0;
}
instant_told (Err (unanswered.Clash m n)) = told_refusal CLASH 0 m n
instant_told (Err (unanswered.Refused r)) = told_refusal (number r.why) r.place 0 0
