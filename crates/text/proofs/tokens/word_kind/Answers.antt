-- `tokens::word_kind`: a keyword, else a name, else a number, else no token. Assumes nothing.
use mathlib.Core.Path.{sym, ap, ◌∙◌}
use Rattle.text.specs.Coded.{kind_of}
use Rattle.text.proofs.WordTokens.{a_keyword, not_a_keyword, named, numbered, neither_one}
use Rattle.text.proofs.tokens.word_kind.Goals as goal

pub returns-in-Some : goal.returns-in-Some
unfolding kind_of
returns-in-Some c = sym (ap kind_of (a_keyword c.args.word.now (sym c.keyword.ensures ∙ c.in-Some.is)))

pub returns-then-name : goal.returns-then-name
unfolding kind_of
returns-then-name c =
    let w = c.args.word.now in
    sym (ap kind_of (not_a_keyword w (sym c.keyword.ensures ∙ c.in_default.is) ∙ named w c.name.ensures c.if-name.true))

pub returns-in-Some-number : goal.returns-in-Some-number
unfolding kind_of
returns-in-Some-number c =
    let w = c.args.word.now in
    sym (ap kind_of (not_a_keyword w (sym c.keyword.ensures ∙ c.in_default.is) ∙ numbered w c.name.ensures c.if-name.false (sym c.number.ensures ∙ c.in-Some-number.is)))

pub returns-in-None : goal.returns-in-None
unfolding kind_of
returns-in-None c =
    let w = c.args.word.now in
    sym (ap kind_of (not_a_keyword w (sym c.keyword.ensures ∙ c.in_default.is) ∙ neither_one w c.name.ensures c.if-name.false (sym c.number.ensures ∙ c.in-None.is)))
