-- `statements::put_between`: each arm by its number. Assumes nothing.
use Rattle.write_text.specs.Pieces.{coded_in}
use Rattle.write_text.proofs.Putting.{told_as}
use Rattle.write_text.proofs.SpotLaws.{between_else, between_bars, between_semicolon}
use Rattle.write_text.proofs.statements.put_between.Goals as goal

pub returns-in-19 : goal.returns-in-19
unfolding coded_in
returns-in-19 c = told_as (λ r. between_else _ _ _ r c.in-19.is) c.put_row.ensures

pub returns-in-23 : goal.returns-in-23
unfolding coded_in
returns-in-23 c = told_as (λ r. between_bars _ _ _ r c.in-23.is) c.put_row-in-23.ensures

pub returns-in_default : goal.returns-in_default
returns-in_default c =
    told_as (λ r. between_semicolon _ _ _ r c.in_default.in_default-own.rest.0.1 c.in_default.in_default-own.rest.1) c.put_word.ensures.puts
