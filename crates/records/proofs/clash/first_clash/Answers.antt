-- `clash::first_clash`: none where at most one pause is active or the flags say that there is none, else the one that is named. Assumes nothing.
use Rattle.sets.specs.Words.{set_of}
use Rattle.records.specs.Clashing.{pair_of}
use Rattle.records.proofs.Pairs.{no_pair}
use Rattle.records.proofs.clash.first_clash.Goals as goal

pub at_most_one-requires : goal.at_most_one-requires
at_most_one-requires c = c.requires.1

pub returns-then-at_most_one : goal.returns-then-at_most_one
unfolding pair_of
returns-then-at_most_one c = λ t S. no_pair t (set_of c.args.active) (c.at_most_one.ensures c.if-at_most_one.true)

pub pauses_before-firsts-requires : goal.pauses_before-firsts-requires
pauses_before-firsts-requires c = c.requires.0.1.few

pub some_clash-requires : goal.some_clash-requires
some_clash-requires c = (c.requires.0.1.few, c.pauses_before-firsts.ensures, c.requires.1)

pub named_clash-requires : goal.named_clash-requires
named_clash-requires c = (c.requires.0, c.requires.1, c.pauses_before-firsts.ensures)

pub returns-then-some_clash : goal.returns-then-some_clash
returns-then-some_clash c = c.named_clash.ensures

pub returns : goal.returns
unfolding pair_of
returns c = c.some_clash.ensures c.if-some_clash.false
