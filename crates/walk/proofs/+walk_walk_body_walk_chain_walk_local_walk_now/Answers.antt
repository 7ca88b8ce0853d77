-- The proof of the cycle of calls of the walk: each way is a lemma of Steps, and the memory stays sound from call to call. The measure is four times the size of the
-- statement, with up to three more for the functions between two statements.
-- Assumes nothing.
use mathlib.Core.Path.{refl, ap, ◌∙◌}
use lib.Dec.{lit<}
use Rattle.words.specs.Words.{seen_as, mark_of}
use Rattle.words.proofs.WordLaws.{told_as}
use Rattle.walk.proofs.Entries.{new_entry, still_open}
use Rattle.walk.proofs.Steps.{via_done, via_stay, via_keep, via_say, via_leave, agree_refl, call, call_now, call_body, call_whole, call_known, call_local, call_chain, call_first, call_later}
use Rattle.walk.proofs.Steps.{walked_as, walked_sure, walked_again, walked_present, walked_absent}
use Rattle.walk.proofs.Steps.{walked_doubted, walked_beside, walked_catch, walked_chain, walked_skip, walked_local, walked_same}
use Rattle.forms.proofs.FormLaws.{in_table, under_test, under_catch, under_scope, under_chain, under_beside, under_same}
use Rattle.walk.proofs.+walk_walk_body_walk_chain_walk_local_walk_now.Goals as goal

pub walk-is_kept-requires : goal.walk-is_kept-requires
walk-is_kept-requires t c = in_table c.requires.0

pub walk-tag_of-tag-requires : goal.walk-tag_of-tag-requires
walk-tag_of-tag-requires t c = in_table c.requires.0

pub walk-returns-then-recalls : goal.walk-returns-then-recalls
walk-returns-then-recalls t c =
    let h = c.recalls.ensures c.if-recalls.true in
    (walked_again h.1 ((c.in-Some.ensures _ _ c.requires.1).of_task c.args.task (mark_of c.args.mark) (h.0 ∙ c.tag_of-tag.ensures)), c.requires.1)

pub walk-walk_now-found-requires : goal.walk-walk_now-found-requires
walk-walk_now-found-requires t c = (call_now c.requires.0 c.decreases, c.requires)

pub walk-note-requires : goal.walk-note-requires
walk-note-requires t c = c.task_entry-i.ensures

pub walk-returns-then-is_kept : goal.walk-returns-then-is_kept
walk-returns-then-is_kept t c =
    (c.walk_now-found.ensures.0, c.note.ensures _ _ c.walk_now-found.ensures.1 (new_entry c.args.task (mark_of c.args.mark) c.tag_of-tag.ensures c.walk_now-found.ensures.0))

pub walk-walk_now-requires : goal.walk-walk_now-requires
walk-walk_now-requires t c = (call_now c.requires.0 c.decreases, c.requires)

pub walk-returns : goal.walk-returns
walk-returns t c = c.walk_now.ensures

pub walk_body-tag_of-tag-requires : goal.walk_body-tag_of-tag-requires
walk_body-tag_of-tag-requires t c = in_table c.requires.0

pub walk_body-returns-then-settles : goal.walk_body-returns-then-settles
walk_body-returns-then-settles t c =
    let h = c.settles.ensures c.if-settles.true in (
      record {
        found_is = (c.in-Some.ensures _ _ c.requires.1).of_task c.args.p (mark_of c.args.mark) (h.0 ∙ c.tag_of-tag.ensures);
        agrees = h.1;
        fresh = λ l e. absurd (h.2 l e);
      },
      c.requires.1,
    )

pub walk_body-walk-found-requires : goal.walk_body-walk-found-requires
walk_body-walk-found-requires t c = (call_body c.requires.0 c.decreases, c.requires)

pub walk_body-note-requires : goal.walk_body-note-requires
walk_body-note-requires t c = c.body_entry-i.ensures

pub walk_body-returns : goal.walk_body-returns
walk_body-returns t c = (
  record { found_is = c.walk-found.ensures.0; agrees = agree_refl; fresh = λ l e. refl },
  c.note.ensures _ _ c.walk-found.ensures.1 (new_entry c.args.p (mark_of c.args.mark) c.tag_of-tag.ensures c.walk-found.ensures.0),
)

pub walk_chain-walk-a-requires : goal.walk_chain-walk-a-requires
walk_chain-walk-a-requires t c = (call_first c.requires.0 c.decreases, (c.requires.0.0, c.requires.1))

pub walk_chain-walk-b-requires : goal.walk_chain-walk-b-requires
walk_chain-walk-b-requires t c = (call_later c.requires.0 c.decreases, (c.requires.0.1, c.walk-a.ensures.1))

pub walk_chain-returns-then-goes_on : goal.walk_chain-returns-then-goes_on
walk_chain-returns-then-goes_on t c = (walked_chain c.followed.ensures c.walk-a.ensures.0 c.mark_onward-onward.ensures c.walk-b.ensures.0, c.walk-b.ensures.1)

pub walk_chain-returns : goal.walk_chain-returns
walk_chain-returns t c =
    let g = c.goes_on.ensures c.if-goes_on.false in
    (walked_skip c.unfollowed.ensures c.walk-a.ensures.0 c.mark_onward-onward.ensures (ap mark_of g.0) g.1, c.walk-a.ensures.1)

pub walk_local-walk_body-x-requires : goal.walk_local-walk_body-x-requires
walk_local-walk_body-x-requires t c = (call_whole c.requires.0 c.decreases, c.requires)

pub walk_local-walk-requires : goal.walk_local-walk-requires
walk_local-walk-requires t c = (call_known c.requires.0 c.decreases, (c.requires.0, c.walk_body-x.ensures.1))

pub walk_local-returns-in_default : goal.walk_local-returns-in_default
walk_local-returns-in_default t c = (
  walked_local (seen_as c.settled_for.result) c.heard_with-doubt.ensures c.walk_body-x.ensures.0 c.settled_for.ensures c.hidden_after.ensures c.heard_with-known.ensures
      (λ e. c.in_default.not-Unknown (still_open c.settled_for.result e)) c.walk.ensures.0,
  c.walk.ensures.1,
)

pub walk_local-returns-in-Unknown : goal.walk_local-returns-in-Unknown
walk_local-returns-in-Unknown t c = (
  walked_same (seen_as c.settled_for.result) c.heard_with-doubt.ensures c.walk_body-x.ensures.0 c.settled_for.ensures c.hidden.ensures
      (ap seen_as c.in-Unknown.is),
  c.walk_body-x.ensures.1,
)

pub walk_now-walk_form-form-requires : goal.walk_now-walk_form-form-requires
walk_now-walk_form-form-requires t c = c.requires.0

pub walk_now-enum_told-1 : goal.walk_now-enum_told-1
walk_now-enum_told-1 t c = c.in-Done.in-Done-own.keys1

pub walk_now-enum_told-in-Stay : goal.walk_now-enum_told-in-Stay
walk_now-enum_told-in-Stay t c = c.in-Stay.in-Stay-own.keys2

pub walk_now-enum_told-in-Keep : goal.walk_now-enum_told-in-Keep
walk_now-enum_told-in-Keep t c = c.in-Keep.in-Keep-own.keys3

pub walk_now-enum_known-form : goal.walk_now-enum_known-form
walk_now-enum_known-form t c = c.in-Say.in-Say-own.keys4

pub walk_now-enum_known-form-in-Leave-1 : goal.walk_now-enum_known-form-in-Leave-1
walk_now-enum_known-form-in-Leave-1 t c = c.in-Leave.in-Leave-own.keys5

pub walk_now-enum_known-form-in-Test-1 : goal.walk_now-enum_known-form-in-Test-1
walk_now-enum_known-form-in-Test-1 t c = c.in-Test.in-Test-own.keys6

pub walk_now-enum_told-in-Present : goal.walk_now-enum_told-in-Present
walk_now-enum_told-in-Present t c = c.in-Present.in-Present-own.keys1

pub walk_now-walk-requires : goal.walk_now-walk-requires
walk_now-walk-requires t c = let u = (under_test c.walk_form-form.ensures c.in-Test.is).0 in (call u c.decreases, (u.placed, c.requires.1))

pub walk_now-enum_told-in-Absent : goal.walk_now-enum_told-in-Absent
walk_now-enum_told-in-Absent t c = c.in-Absent.in-Absent-own.keys2

pub walk_now-walk-requires-in-Absent : goal.walk_now-walk-requires-in-Absent
walk_now-walk-requires-in-Absent t c = let u = (under_test c.walk_form-form.ensures c.in-Test.is).1 in (call u c.decreases, (u.placed, c.requires.1))

pub walk_now-enum_told-in-Unknown : goal.walk_now-enum_told-in-Unknown
walk_now-enum_told-in-Unknown t c = c.in-Unknown.in-Unknown-own.keys3

pub walk_now-walk-a-requires : goal.walk_now-walk-a-requires
walk_now-walk-a-requires t c = let u = (under_test c.walk_form-form.ensures c.in-Test.is).0 in (call u c.decreases, (u.placed, c.requires.1))

pub walk_now-walk-requires-in-Unknown : goal.walk_now-walk-requires-in-Unknown
walk_now-walk-requires-in-Unknown t c = let u = (under_test c.walk_form-form.ensures c.in-Test.is).1 in (call u c.decreases, (u.placed, c.walk-a.ensures.1))

pub walk_now-enum_known-form-in-Catch-1 : goal.walk_now-enum_known-form-in-Catch-1
walk_now-enum_known-form-in-Catch-1 t c = c.in-Catch.in-Catch-own.keys7

pub walk_now-walk-requires-in-Catch : goal.walk_now-walk-requires-in-Catch
walk_now-walk-requires-in-Catch t c = let u = under_catch c.walk_form-form.ensures c.in-Catch.is in (call u c.decreases, (u.placed, c.requires.1))

pub walk_now-enum_known-form-in-Scope-1 : goal.walk_now-enum_known-form-in-Scope-1
walk_now-enum_known-form-in-Scope-1 t c = c.in-Scope.in-Scope-own.keys8

pub walk_now-walk_local-requires : goal.walk_now-walk_local-requires
walk_now-walk_local-requires t c = let u = under_scope c.walk_form-form.ensures c.in-Scope.is in (call_local u c.decreases, (u.placed, c.requires.1))

pub walk_now-enum_known-form-in-Chain-1 : goal.walk_now-enum_known-form-in-Chain-1
walk_now-enum_known-form-in-Chain-1 t c = c.in-Chain.in-Chain-own.keys9

pub walk_now-walk_chain-requires : goal.walk_now-walk_chain-requires
walk_now-walk_chain-requires t c =
    let u = under_chain c.walk_form-form.ensures c.in-Chain.is in (call_chain u.0 u.1 c.decreases, ((u.0.placed, u.1.placed), c.requires.1))

pub walk_now-enum_known-form-in-Beside-1 : goal.walk_now-enum_known-form-in-Beside-1
walk_now-enum_known-form-in-Beside-1 t c = c.in-Beside.in-Beside-own.keys10

pub walk_now-walk-a-requires-in-Beside : goal.walk_now-walk-a-requires-in-Beside
walk_now-walk-a-requires-in-Beside t c = let u = (under_beside c.walk_form-form.ensures c.in-Beside.is).0 in (call u c.decreases, (u.placed, c.requires.1))

pub walk_now-walk-requires-in-Beside : goal.walk_now-walk-requires-in-Beside
walk_now-walk-requires-in-Beside t c =
    let u = (under_beside c.walk_form-form.ensures c.in-Beside.is).1 in (call u c.decreases, (u.placed, c.walk-a-in-Beside.ensures.1))

pub walk_now-enum_known-form-in-Same-1 : goal.walk_now-enum_known-form-in-Same-1
walk_now-enum_known-form-in-Same-1 t c = c.in-Same.in-Same-own.keys11

pub walk_now-walk-requires-in-Same : goal.walk_now-walk-requires-in-Same
walk_now-walk-requires-in-Same t c = let u = under_same c.walk_form-form.ensures c.in-Same.is in (call u c.decreases, (u.placed, c.requires.1))

pub walk_now-returns-in-Done : goal.walk_now-returns-in-Done
walk_now-returns-in-Done t c =
    (walked_as c.walk_form-form.ensures c.in-Done.is (walked_sure c.sure.ensures (λ k. via_done (c.silent.ensures (lit< tt)))), c.requires.1)

pub walk_now-returns-in-Stay : goal.walk_now-returns-in-Stay
walk_now-returns-in-Stay t c =
    (walked_as c.walk_form-form.ensures c.in-Stay.is (walked_sure c.sure-in-Stay.ensures (λ k. via_stay (c.silent-in-Stay.ensures (lit< tt)))), c.requires.1)

pub walk_now-returns-in-Keep : goal.walk_now-returns-in-Keep
walk_now-returns-in-Keep t c =
    (walked_as c.walk_form-form.ensures c.in-Keep.is (walked_sure c.sure-in-Keep.ensures (λ k. via_keep (c.silent-in-Keep.ensures (lit< tt)))), c.requires.1)

pub walk_now-returns-in-Say : goal.walk_now-returns-in-Say
walk_now-returns-in-Say t c =
    (walked_as c.walk_form-form.ensures c.in-Say.is (walked_sure c.sure-in-Say.ensures (λ k. via_say c.saying.ensures)), c.requires.1)

pub walk_now-returns-in-Leave : goal.walk_now-returns-in-Leave
walk_now-returns-in-Leave t c = (
  walked_as c.walk_form-form.ensures c.in-Leave.is
      (walked_sure c.sure-in-Leave.ensures (λ k. via_leave c.code_of.result.0 c.code_of.ensures c.silent-in-Leave.ensures)),
  c.requires.1,
)

pub walk_now-returns-in-Present : goal.walk_now-returns-in-Present
walk_now-returns-in-Present t c = (
  walked_as c.walk_form-form.ensures c.in-Test.is
      (walked_present c.tested.ensures (told_as c.in-Present.is c.status_at.ensures) c.walk.ensures.0),
  c.walk.ensures.1,
)

pub walk_now-returns-in-Absent : goal.walk_now-returns-in-Absent
walk_now-returns-in-Absent t c = (
  walked_as c.walk_form-form.ensures c.in-Test.is
      (walked_absent c.tested-in-Absent.ensures (told_as c.in-Absent.is c.status_at.ensures) c.walk-in-Absent.ensures.0),
  c.walk-in-Absent.ensures.1,
)

pub walk_now-returns-in-Unknown : goal.walk_now-returns-in-Unknown
walk_now-returns-in-Unknown t c = (
  walked_as c.walk_form-form.ensures c.in-Test.is
      (walked_doubted (told_as c.in-Unknown.is c.status_at.ensures) c.doubted.ensures c.walk-a.ensures.0 c.walk-in-Unknown.ensures.0),
  c.walk-in-Unknown.ensures.1,
)

pub walk_now-returns-in-Catch : goal.walk_now-returns-in-Catch
walk_now-returns-in-Catch t c =
    (walked_as c.walk_form-form.ensures c.in-Catch.is (walked_catch c.caught.ensures c.walk-in-Catch.ensures.0), c.walk-in-Catch.ensures.1)

pub walk_now-returns-in-Scope : goal.walk_now-returns-in-Scope
walk_now-returns-in-Scope t c = (walked_as c.walk_form-form.ensures c.in-Scope.is c.walk_local.ensures.0, c.walk_local.ensures.1)

pub walk_now-returns-in-Chain : goal.walk_now-returns-in-Chain
walk_now-returns-in-Chain t c = (walked_as c.walk_form-form.ensures c.in-Chain.is c.walk_chain.ensures.0, c.walk_chain.ensures.1)

pub walk_now-returns-in-Beside : goal.walk_now-returns-in-Beside
walk_now-returns-in-Beside t c =
    (walked_as c.walk_form-form.ensures c.in-Beside.is (walked_beside c.beside.ensures c.walk-a-in-Beside.ensures.0 c.walk-in-Beside.ensures.0), c.walk-in-Beside.ensures.1)

pub walk_now-returns-in-Same : goal.walk_now-returns-in-Same
walk_now-returns-in-Same t c = (walked_as c.walk_form-form.ensures c.in-Same.is c.walk-in-Same.ensures.0, c.walk-in-Same.ensures.1)
