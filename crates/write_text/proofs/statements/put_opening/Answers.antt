-- `statements::put_opening`: nothing where no brackets are needed, else the words of its kind, with its name.
use mathlib.Core.Path.{sym, ◌∙◌}
use Rattle.write_text.specs.Spots.{opening_text}
use Rattle.write_text.proofs.SpotLaws.{left_out, put_in, row_told}
use Rattle.write_text.proofs.statements.put_opening.Goals as goal

pub returns-then-bare : goal.returns-then-bare
unfolding opening_text
returns-then-bare c = left_out _ (sym c.bare.ensures ∙ c.if-bare.true)

pub returns : goal.returns
unfolding opening_text
returns c =
    put_in _ (sym c.bare.ensures ∙ c.if-bare.false)
    (row_told _ c.put_row.ensures c.first_word-first.ensures.value c.opening_name-name.ensures c.middle_word.ensures.value)
