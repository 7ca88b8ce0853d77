-- `words::pauses::kept_chain` meets its contract: the second part counts by whether the first gives 0.
-- Assumes nothing.
use Rattle.words.proofs.PauseLaws.{kept_of, with_later, without_later}
use mathlib.Core.Path.{sym, ◌∙◌}
use Rattle.sets.specs.Words.{bits, set_of}
use Rattle.words.proofs.pauses.kept_chain.Goals as goal

pub returns-then-gives_zero : goal.returns-then-gives_zero
returns-then-gives_zero c =
    kept_of c.kept_with.ensures.0 c.kept_with.ensures.1 c.followed_codes-codes.ensures
    (c.joined.ensures ∙ with_later (bits c.args.a.codes 0) (set_of c.args.a.pauses) (set_of c.args.b.pauses) (sym c.gives_zero.ensures ∙ c.if-gives_zero.true))

pub returns-else-gives_zero : goal.returns-else-gives_zero
returns-else-gives_zero c =
    kept_of c.kept_with-else-gives_zero.ensures.0 c.kept_with-else-gives_zero.ensures.1 c.followed_codes-codes.ensures
    (without_later (bits c.args.a.codes 0) (set_of c.args.a.pauses) (set_of c.args.b.pauses) (sym c.gives_zero.ensures ∙ c.if-gives_zero.false))
