-- `put_await`: its records, one after the other. Assumes nothing.
use mathlib.Core.Path.{◌∙◌}
use borrow.Author.Rules.{rules}
use Rattle.sets.specs.Numbers.{listed}
use Rattle.tables.specs.Kinds.{length_of}
use Rattle.block.proofs.Views.{a_trap, aboves}
use Rattle.convert.proofs.FormLaws.{one_stored, watch_as_stored, and_stored, put_await_ends}
use Rattle.convert.proofs.put_await.Goals as goal

pub put_record-a-requires : goal.put_record-a-requires
unfolding length_of listed
put_record-a-requires c = search rules

pub put_watch-requires : goal.put_watch-requires
unfolding length_of listed
put_watch-requires c = search rules

pub returns : goal.returns
returns c =
    let w = and_stored (one_stored _ _ _ (aboves a_trap) c.put_record-a.ensures.value c.put_record-a.ensures.out_after)
    (watch_as_stored _ _ _ c.put_watch.ensures.value c.put_watch.ensures.out_after) in
    record { value = w.ends ∙ put_await_ends _ _; out_after = w.stored }
