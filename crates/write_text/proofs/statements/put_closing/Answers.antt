-- `statements::put_closing`: nothing where no brackets are needed, else the last word of its kind, with its name.
use mathlib.Core.Path.{refl, sym, ◌∙◌}
use Rattle.write_text.specs.Spots.{closing_text}
use Rattle.write_text.proofs.SpotLaws.{left_out, put_in, row_told}
use Rattle.write_text.proofs.statements.put_closing.Goals as goal

pub returns-then-bare : goal.returns-then-bare
unfolding closing_text
returns-then-bare c = left_out _ (sym c.bare.ensures ∙ c.if-bare.true)

pub returns : goal.returns
unfolding closing_text
returns c =
    put_in _ (sym c.bare.ensures ∙ c.if-bare.false) (row_told _ c.put_row.ensures c.last_word-last.ensures.value c.closing_name-name.ensures refl)
