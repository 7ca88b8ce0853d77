-- The proof of the cycle of calls {next_kept}: each way is a lemma of KeptSteps; the measure is the subtree's size.
-- Assumes nothing.
use mathlib.Core.Path.{sym, ap, ◌∙◌}
use lib.Dec.{lit<}
use Rattle.sets.specs.Words.{set_of}
use Rattle.words.specs.Words.{seen_as}
use Rattle.words.proofs.WordLaws.{told_as}
use Rattle.forms.proofs.FormLaws.{under_test, under_catch, under_scope, under_chain, under_beside, under_same, placed_keep, call_task}
use Rattle.evaluate.proofs.KeptSteps.{keep_as, keep_done, keep_say, keep_leave, keep_stay, keep_held}
use Rattle.evaluate.proofs.KeptSteps.{keep_present, keep_absent, keep_unknown, keep_catch, keep_beside, keep_chain, keep_skip, keep_scope}
use Rattle.evaluate.proofs.next.+next_kept.Goals as goal

pub kept_form-form-requires : goal.kept_form-form-requires
kept_form-form-requires t c = c.requires.0

pub enum_told-1 : goal.enum_told-1
enum_told-1 t c = c.in-Done.in-Done-own.keys1

pub enum_known-form : goal.enum_known-form
enum_known-form t c = c.in-Stay.in-Stay-own.keys2

pub enum_known-form-in-Keep-1 : goal.enum_known-form-in-Keep-1
enum_known-form-in-Keep-1 t c = c.in-Keep.in-Keep-own.keys3

pub held_pauses-requires : goal.held_pauses-requires
held_pauses-requires t c = placed_keep c.kept_form-form.ensures c.in-Keep.is

pub enum_told-in-Say : goal.enum_told-in-Say
enum_told-in-Say t c = c.in-Say.in-Say-own.keys4

pub enum_known-form-in-Leave-1 : goal.enum_known-form-in-Leave-1
enum_known-form-in-Leave-1 t c = c.in-Leave.in-Leave-own.keys5

pub enum_known-form-in-Test-1 : goal.enum_known-form-in-Test-1
enum_known-form-in-Test-1 t c = c.in-Test.in-Test-own.keys6

pub enum_told-in-Present : goal.enum_told-in-Present
enum_told-in-Present t c = c.in-Present.in-Present-own.keys1

pub next_kept-requires : goal.next_kept-requires
next_kept-requires t c = let q = call_task (under_test c.kept_form-form.ensures c.in-Test.is).0 c.decreases in (q.0, (q.1, c.requires.1))

pub enum_told-in-Absent : goal.enum_told-in-Absent
enum_told-in-Absent t c = c.in-Absent.in-Absent-own.keys2

pub next_kept-requires-in-Absent : goal.next_kept-requires-in-Absent
next_kept-requires-in-Absent t c = let q = call_task (under_test c.kept_form-form.ensures c.in-Test.is).1 c.decreases in (q.0, (q.1, c.requires.1))

pub enum_told-in-Unknown : goal.enum_told-in-Unknown
enum_told-in-Unknown t c = c.in-Unknown.in-Unknown-own.keys3

pub enum_known-form-in-Catch-1 : goal.enum_known-form-in-Catch-1
enum_known-form-in-Catch-1 t c = c.in-Catch.in-Catch-own.keys7

pub next_kept-requires-in-Catch : goal.next_kept-requires-in-Catch
next_kept-requires-in-Catch t c = let q = call_task (under_catch c.kept_form-form.ensures c.in-Catch.is) c.decreases in (q.0, (q.1, c.requires.1))

pub enum_known-form-in-Scope-1 : goal.enum_known-form-in-Scope-1
enum_known-form-in-Scope-1 t c = c.in-Scope.in-Scope-own.keys8

pub walk_body-a-requires : goal.walk_body-a-requires
walk_body-a-requires t c = ((under_scope c.kept_form-form.ensures c.in-Scope.is).placed, c.requires.1)

pub next_kept-requires-in-Scope : goal.next_kept-requires-in-Scope
next_kept-requires-in-Scope t c =
    let q = call_task (under_scope c.kept_form-form.ensures c.in-Scope.is) c.decreases in (q.0, (q.1, c.walk_body-a.ensures.1))

pub enum_known-form-in-Chain-1 : goal.enum_known-form-in-Chain-1
enum_known-form-in-Chain-1 t c = c.in-Chain.in-Chain-own.keys9

pub next_kept-a-requires : goal.next_kept-a-requires
next_kept-a-requires t c = let q = call_task (under_chain c.kept_form-form.ensures c.in-Chain.is).0 c.decreases in (q.0, (q.1, c.requires.1))

pub next_kept-requires-then-gives_zero : goal.next_kept-requires-then-gives_zero
next_kept-requires-then-gives_zero t c =
    let q = call_task (under_chain c.kept_form-form.ensures c.in-Chain.is).1 c.decreases in (q.0, (q.1, c.next_kept-a.ensures.1))

pub returns-then-gives_zero : goal.returns-then-gives_zero
returns-then-gives_zero t c =
    (keep_as c.kept_form-form.ensures c.in-Chain.is (keep_chain c.kept_chain.ensures c.next_kept-a.ensures.0 c.next_kept-then-gives_zero.ensures.0), c.next_kept-then-gives_zero.ensures.1)

pub enum_known-form-in-Beside-1 : goal.enum_known-form-in-Beside-1
enum_known-form-in-Beside-1 t c = c.in-Beside.in-Beside-own.keys10

pub next_kept-a-requires-in-Beside : goal.next_kept-a-requires-in-Beside
next_kept-a-requires-in-Beside t c = let q = call_task (under_beside c.kept_form-form.ensures c.in-Beside.is).0 c.decreases in (q.0, (q.1, c.requires.1))

pub next_kept-requires-in-Beside : goal.next_kept-requires-in-Beside
next_kept-requires-in-Beside t c =
    let q = call_task (under_beside c.kept_form-form.ensures c.in-Beside.is).1 c.decreases in (q.0, (q.1, c.next_kept-a-in-Beside.ensures.1))

pub enum_known-form-in-Same-1 : goal.enum_known-form-in-Same-1
enum_known-form-in-Same-1 t c = c.in-Same.in-Same-own.keys11

pub next_kept-requires-in-Same : goal.next_kept-requires-in-Same
next_kept-requires-in-Same t c = let q = call_task (under_same c.kept_form-form.ensures c.in-Same.is) c.decreases in (q.0, (q.1, c.requires.1))

pub returns-in-Done : goal.returns-in-Done
returns-in-Done t c =
    (keep_as c.kept_form-form.ensures c.in-Done.is (keep_done (c.kept_none.ensures.1 (lit< tt)) c.kept_none.ensures.0), c.requires.1)

pub returns-in-Stay : goal.returns-in-Stay
returns-in-Stay t c =
    (keep_as c.kept_form-form.ensures c.in-Stay.is (keep_stay c.kept_here.ensures.0 (λ h. ap set_of c.kept_here.ensures.1 ∙ c.one_pause.ensures h)), c.requires.1)

pub returns-in-Keep : goal.returns-in-Keep
returns-in-Keep t c =
    (keep_as c.kept_form-form.ensures c.in-Keep.is (keep_held c.kept_here-in-Keep.ensures.0 (λ t a. ap set_of c.kept_here-in-Keep.ensures.1 ∙ c.held_pauses.ensures t a)), c.requires.1)

pub returns-in-Say : goal.returns-in-Say
returns-in-Say t c =
    (keep_as c.kept_form-form.ensures c.in-Say.is (keep_say (c.kept_none-in-Say.ensures.1 (lit< tt)) c.kept_none-in-Say.ensures.0), c.requires.1)

pub returns-in-Leave : goal.returns-in-Leave
returns-in-Leave t c =
    (keep_as c.kept_form-form.ensures c.in-Leave.is (keep_leave c.code_of.result.0 c.code_of.ensures c.kept_none-in-Leave.ensures.1 c.kept_none-in-Leave.ensures.0), c.requires.1)

pub returns-in-Present : goal.returns-in-Present
returns-in-Present t c = (
  keep_as c.kept_form-form.ensures c.in-Test.is
      (keep_present (told_as c.in-Present.is c.status_at.ensures) c.kept_again.ensures c.next_kept.ensures.0),
  c.next_kept.ensures.1,
)

pub returns-in-Absent : goal.returns-in-Absent
returns-in-Absent t c = (
  keep_as c.kept_form-form.ensures c.in-Test.is
      (keep_absent (told_as c.in-Absent.is c.status_at.ensures) c.kept_again-in-Absent.ensures c.next_kept-in-Absent.ensures.0),
  c.next_kept-in-Absent.ensures.1,
)

pub returns-in-Unknown : goal.returns-in-Unknown
returns-in-Unknown t c = (
  keep_as c.kept_form-form.ensures c.in-Test.is
      (keep_unknown (told_as c.in-Unknown.is c.status_at.ensures) c.kept_unknown.ensures.0 c.kept_unknown.ensures.1),
  c.requires.1,
)

pub returns-in-Catch : goal.returns-in-Catch
returns-in-Catch t c =
    (keep_as c.kept_form-form.ensures c.in-Catch.is (keep_catch c.kept_caught.ensures c.next_kept-in-Catch.ensures.0), c.next_kept-in-Catch.ensures.1)

pub returns-in-Scope : goal.returns-in-Scope
returns-in-Scope t c = (
  keep_as c.kept_form-form.ensures c.in-Scope.is
      (keep_scope (seen_as c.settled_for-v.result) c.kept_again-in-Scope.ensures c.heard_with-doubt.ensures c.walk_body-a.ensures.0 c.settled_for-v.ensures
      c.heard_with-known.ensures c.next_kept-in-Scope.ensures.0),
  c.next_kept-in-Scope.ensures.1,
)

pub returns-else-gives_zero : goal.returns-else-gives_zero
returns-else-gives_zero t c = (
  keep_as c.kept_form-form.ensures c.in-Chain.is
      (keep_skip c.kept_unknown-in-Chain.result c.kept_chain-in-Chain.ensures (sym c.gives_zero.ensures ∙ c.if-gives_zero.false) c.next_kept-a.ensures.0),
  c.next_kept-a.ensures.1,
)

pub returns-in-Beside : goal.returns-in-Beside
returns-in-Beside t c =
    (keep_as c.kept_form-form.ensures c.in-Beside.is (keep_beside c.kept_beside.ensures c.next_kept-a-in-Beside.ensures.0 c.next_kept-in-Beside.ensures.0), c.next_kept-in-Beside.ensures.1)

pub returns-in-Same : goal.returns-in-Same
returns-in-Same t c = (keep_as c.kept_form-form.ensures c.in-Same.is c.next_kept-in-Same.ensures.0, c.next_kept-in-Same.ensures.1)
