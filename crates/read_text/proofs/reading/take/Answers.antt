-- `reading::take`: a token of the statement, a sign by where it leads, a name or a number of the header, or no token. Assumes nothing.
use mathlib.Core.Path.{sym, ◌∙◌, subst}
use Rattle.read_text.proofs.HeadLaws.{Stays, sign_stays}
use Rattle.read_text.proofs.ReaderLaws.{takes_none, takes_body, takes_head, sign_takes, takes_first, leads_away, leads_on, body_asks, name_asks, first_asks}
use Rattle.read_text.proofs.reading.take.Goals as goal

pub body_token-requires : goal.body_token-requires
body_token-requires c =
    let w = body_asks c.requires c.well_formed.0.0 c.in-Statement.is in
    record { out_len = w.out_len; next_bound = w.next_bound; brackets_bound = w.brackets_bound; depth_bound = w.depth_bound }

pub returns-in-Statement : goal.returns-in-Statement
returns-in-Statement c = takes_body c.in-Statement.is c.body_token.ensures

pub head_name-requires : goal.head_name-requires
head_name-requires c = name_asks c.requires c.well_formed.0.0 c.in_default.not-Statement

pub returns-in-Name : goal.returns-in-Name
returns-in-Name c = takes_head c.in_default.not-Statement (c.head_name.ensures c.in-Name.is)

pub returns-in-Number : goal.returns-in-Number
returns-in-Number c = takes_head c.in_default.not-Statement (c.head_number.ensures c.args.text.now c.args.t c.in-Number.is)

pub returns-in-Nothing : goal.returns-in-Nothing
returns-in-Nothing c = takes_none c.in-Nothing.is

pub returns-in-Fault : goal.returns-in-Fault
returns-in-Fault c =
    takes_head c.in_default.not-Statement (sign_takes c.args.text.now c.args.r c.args.t c.in-Sign.is (sym c.in-Fault.is ∙ c.head_sign.ensures) (leads_away c.args.r))

pub returns-in-Next : goal.returns-in-Next
returns-in-Next c =
    let stays = subst Stays (sym c.head_sign.ensures ∙ c.in-Next.is) (sign_stays c.args.r.awaits c.in-Sign.sign) in
    takes_head c.in_default.not-Statement (sign_takes c.args.text.now c.args.r c.args.t c.in-Sign.is (sym c.in-Next.is ∙ c.head_sign.ensures) (leads_on c.args.r stays))

pub returns-in-InputsEnd : goal.returns-in-InputsEnd
returns-in-InputsEnd c =
    takes_head c.in_default.not-Statement (sign_takes c.args.text.now c.args.r c.args.t c.in-Sign.is (sym c.in-InputsEnd.is ∙ c.head_sign.ensures) c.inputs_ended.ensures)

pub body_token-requires-in-Body : goal.body_token-requires-in-Body
body_token-requires-in-Body c =
    let w = first_asks c.requires c.well_formed.0.0 c.in_default.not-Statement c.begun.ensures in
    record { out_len = w.out_len; next_bound = w.next_bound; brackets_bound = w.brackets_bound; depth_bound = w.depth_bound }

pub returns-in-Body : goal.returns-in-Body
returns-in-Body c = takes_first c.in-Sign.is c.head_sign.ensures c.in-Body.is c.begun.ensures c.body_token-in-Body.ensures c.in_default.not-Statement
