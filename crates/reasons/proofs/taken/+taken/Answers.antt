-- The proof of the cycle of calls {taken}: each way is a lemma of TakenSteps; the measure is the subtree's size.
-- Assumes nothing.
use mathlib.Core.Path.{sym, ◌∙◌}
use Rattle.words.specs.Words.{seen_as}
use Rattle.words.proofs.WordLaws.{bits_none, told_as}
use Rattle.forms.proofs.FormLaws.{in_table, under_test, under_catch, under_scope, under_chain, under_beside, under_same, call_task}
use Rattle.reasons.proofs.TakenSteps.{word_of_0, word_of_1, take_form, take_done, take_stay, take_keep, take_say, take_leave, take_present, take_absent}
use Rattle.reasons.proofs.TakenSteps.{take_unknown, take_same, take_catch, take_chain, take_skip, take_beside, take_scope}
use Rattle.reasons.proofs.taken.+taken.Goals as goal

pub form_of-form-requires : goal.form_of-form-requires
form_of-form-requires t c = c.requires

pub mark-requires : goal.mark-requires
mark-requires t c = in_table c.requires

pub enum_told-1 : goal.enum_told-1
enum_told-1 t c = c.in-Done.in-Done-own.keys1

pub enum_told-in-Stay : goal.enum_told-in-Stay
enum_told-in-Stay t c = c.in-Stay.in-Stay-own.keys2

pub enum_told-in-Keep : goal.enum_told-in-Keep
enum_told-in-Keep t c = c.in-Keep.in-Keep-own.keys3

pub enum_told-in-Say : goal.enum_told-in-Say
enum_told-in-Say t c = c.in-Say.in-Say-own.keys4

pub enum_known-form : goal.enum_known-form
enum_known-form t c = c.in-Leave.in-Leave-own.keys5

pub enum_known-form-in-Test-1 : goal.enum_known-form-in-Test-1
enum_known-form-in-Test-1 t c = c.in-Test.in-Test-own.keys6

pub enum_told-in-Present : goal.enum_told-in-Present
enum_told-in-Present t c = c.in-Present.in-Present-own.keys1

pub taken-requires : goal.taken-requires
taken-requires t c = call_task (under_test c.form_of-form.ensures c.in-Test.is).0 c.decreases

pub enum_told-in-Absent : goal.enum_told-in-Absent
enum_told-in-Absent t c = c.in-Absent.in-Absent-own.keys2

pub taken-requires-in-Absent : goal.taken-requires-in-Absent
taken-requires-in-Absent t c = call_task (under_test c.form_of-form.ensures c.in-Test.is).1 c.decreases

pub enum_told-in-Unknown : goal.enum_told-in-Unknown
enum_told-in-Unknown t c = c.in-Unknown.in-Unknown-own.keys3

pub enum_known-form-in-Catch-1 : goal.enum_known-form-in-Catch-1
enum_known-form-in-Catch-1 t c = c.in-Catch.in-Catch-own.keys7

pub taken-requires-in-Catch : goal.taken-requires-in-Catch
taken-requires-in-Catch t c = call_task (under_catch c.form_of-form.ensures c.in-Catch.is) c.decreases

pub enum_known-form-in-Scope-1 : goal.enum_known-form-in-Scope-1
enum_known-form-in-Scope-1 t c = c.in-Scope.in-Scope-own.keys8

pub must_can-a-requires : goal.must_can-a-requires
must_can-a-requires t c = (under_scope c.form_of-form.ensures c.in-Scope.is).placed

pub taken-requires-in-Scope : goal.taken-requires-in-Scope
taken-requires-in-Scope t c = call_task (under_scope c.form_of-form.ensures c.in-Scope.is) c.decreases

pub enum_known-form-in-Chain-1 : goal.enum_known-form-in-Chain-1
enum_known-form-in-Chain-1 t c = c.in-Chain.in-Chain-own.keys9

pub taken-a-requires : goal.taken-a-requires
taken-a-requires t c = call_task (under_chain c.form_of-form.ensures c.in-Chain.is).0 c.decreases

pub taken-b-requires : goal.taken-b-requires
taken-b-requires t c = call_task (under_chain c.form_of-form.ensures c.in-Chain.is).1 c.decreases

pub returns-then-gives_zero : goal.returns-then-gives_zero
returns-then-gives_zero t c =
    take_form c.form_of-form.ensures c.wanted_here-here.ensures c.mark.ensures c.in-Chain.is
    (take_chain c.followed_codes.ensures (sym c.gives_zero.ensures ∙ c.if-gives_zero.true) c.taken-a.ensures
    c.taken-b.ensures)

pub enum_known-form-in-Beside-1 : goal.enum_known-form-in-Beside-1
enum_known-form-in-Beside-1 t c = c.in-Beside.in-Beside-own.keys10

pub taken-a-requires-in-Beside : goal.taken-a-requires-in-Beside
taken-a-requires-in-Beside t c = call_task (under_beside c.form_of-form.ensures c.in-Beside.is).0 c.decreases

pub taken-b-requires-in-Beside : goal.taken-b-requires-in-Beside
taken-b-requires-in-Beside t c = call_task (under_beside c.form_of-form.ensures c.in-Beside.is).1 c.decreases

pub enum_known-form-in-Same-1 : goal.enum_known-form-in-Same-1
enum_known-form-in-Same-1 t c = c.in-Same.in-Same-own.keys11

pub taken-requires-in-Same : goal.taken-requires-in-Same
taken-requires-in-Same t c = call_task (under_same c.form_of-form.ensures c.in-Same.is) c.decreases

pub returns-in-Done : goal.returns-in-Done
returns-in-Done t c = take_form c.form_of-form.ensures c.wanted_here-here.ensures c.mark.ensures c.in-Done.is (take_done word_of_0)

pub returns-in-Stay : goal.returns-in-Stay
returns-in-Stay t c = take_form c.form_of-form.ensures c.wanted_here-here.ensures c.mark.ensures c.in-Stay.is (take_stay word_of_1)

pub returns-in-Keep : goal.returns-in-Keep
returns-in-Keep t c = take_form c.form_of-form.ensures c.wanted_here-here.ensures c.mark.ensures c.in-Keep.is (take_keep word_of_1)

pub returns-in-Say : goal.returns-in-Say
returns-in-Say t c = take_form c.form_of-form.ensures c.wanted_here-here.ensures c.mark.ensures c.in-Say.is (take_say word_of_0)

pub returns-in-Leave : goal.returns-in-Leave
returns-in-Leave t c =
    take_form c.form_of-form.ensures c.wanted_here-here.ensures c.mark.ensures c.in-Leave.is
    (take_leave c.code_of.result.0 c.code_of.ensures c.code_bit.ensures)

pub returns-in-Present : goal.returns-in-Present
returns-in-Present t c =
    take_form c.form_of-form.ensures c.wanted_here-here.ensures c.mark.ensures c.in-Test.is
    (take_present (told_as c.in-Present.is c.status_at.ensures) c.taken.ensures)

pub returns-in-Absent : goal.returns-in-Absent
returns-in-Absent t c =
    take_form c.form_of-form.ensures c.wanted_here-here.ensures c.mark.ensures c.in-Test.is
    (take_absent (told_as c.in-Absent.is c.status_at.ensures) c.taken-in-Absent.ensures)

pub returns-in-Unknown : goal.returns-in-Unknown
returns-in-Unknown t c =
    take_form c.form_of-form.ensures c.wanted_here-here.ensures c.mark.ensures c.in-Test.is
    (take_unknown (told_as c.in-Unknown.is c.status_at.ensures) bits_none)

pub returns-in-Catch : goal.returns-in-Catch
returns-in-Catch t c =
    take_form c.form_of-form.ensures c.wanted_here-here.ensures c.mark.ensures c.in-Catch.is
    (take_catch c.lowered.ensures c.taken-in-Catch.ensures)

pub returns-in-Scope : goal.returns-in-Scope
returns-in-Scope t c =
    take_form c.form_of-form.ensures c.wanted_here-here.ensures c.mark.ensures c.in-Scope.is
    (take_scope (seen_as c.settled_for-v.result) c.heard_with-doubt.ensures c.must_can-a.ensures
    c.settled_for-v.ensures c.heard_with-known.ensures c.taken-in-Scope.ensures)

pub returns-else-gives_zero : goal.returns-else-gives_zero
returns-else-gives_zero t c =
    take_form c.form_of-form.ensures c.wanted_here-here.ensures c.mark.ensures c.in-Chain.is
    (take_skip 0 c.followed_codes-in-Chain.ensures (sym c.gives_zero.ensures ∙ c.if-gives_zero.false) c.taken-a.ensures)

pub returns-in-Beside : goal.returns-in-Beside
returns-in-Beside t c =
    take_form c.form_of-form.ensures c.wanted_here-here.ensures c.mark.ensures c.in-Beside.is
    (take_beside c.larger.ensures c.taken-a-in-Beside.ensures c.taken-b-in-Beside.ensures)

pub returns-in-Same : goal.returns-in-Same
returns-in-Same t c =
    take_form c.form_of-form.ensures c.wanted_here-here.ensures c.mark.ensures c.in-Same.is
    (take_same c.taken-in-Same.ensures)
