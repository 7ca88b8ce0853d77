-- `words::given::followed_given` meets its contract: by whether 0 is among the first codes.
-- Assumes nothing.
use Rattle.words.proofs.WordLaws.{followed_on, followed_not}
use mathlib.Core.Path.{sym, ◌∙◌}
use Rattle.words.proofs.given.followed_given.Goals as goal

pub returns-then-gives_zero : goal.returns-then-gives_zero
returns-then-gives_zero c =
    followed_on c.args.a c.args.b c.followed_codes-codes.result c.followed_codes-codes.ensures (sym c.gives_zero.ensures ∙ c.if-gives_zero.true)

pub returns-else-gives_zero : goal.returns-else-gives_zero
returns-else-gives_zero c =
    followed_not c.args.a c.args.b c.followed_codes-codes.result c.followed_codes-codes.ensures (sym c.gives_zero.ensures ∙ c.if-gives_zero.false)
