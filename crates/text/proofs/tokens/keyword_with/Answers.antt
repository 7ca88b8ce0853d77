-- `tokens::keyword_with`: each arm has its own key, and what is left is no keyword's. Assumes nothing.
use mathlib.Core.Path.{sym, ap}
use Rattle.text.specs.Tokens.{keywords}
use Rattle.text.specs.Coded.{keyed}
use Rattle.text.proofs.Keys.{NoneKeyed, none_keyed}
use Rattle.text.proofs.tokens.keyword_with.Goals as goal

pub returns-in-232906572834241399 : goal.returns-in-232906572834241399
unfolding keyed
returns-in-232906572834241399 c = ap (keyed 0 keywords) (sym c.in-232906572834241399.is)

pub returns-in-3485830155141 : goal.returns-in-3485830155141
unfolding keyed
returns-in-3485830155141 c = ap (keyed 0 keywords) (sym c.in-3485830155141.is)

pub returns-in-15624530732 : goal.returns-in-15624530732
unfolding keyed
returns-in-15624530732 c = ap (keyed 0 keywords) (sym c.in-15624530732.is)

pub returns-in-262179834441732999 : goal.returns-in-262179834441732999
unfolding keyed
returns-in-262179834441732999 c = ap (keyed 0 keywords) (sym c.in-262179834441732999.is)

pub returns-in-14817117092 : goal.returns-in-14817117092
unfolding keyed
returns-in-14817117092 c = ap (keyed 0 keywords) (sym c.in-14817117092.is)

pub returns-in-13616505644 : goal.returns-in-13616505644
unfolding keyed
returns-in-13616505644 c = ap (keyed 0 keywords) (sym c.in-13616505644.is)

pub returns-in-52654891 : goal.returns-in-52654891
unfolding keyed
returns-in-52654891 c = ap (keyed 0 keywords) (sym c.in-52654891.is)

pub returns-in-226151037027462047 : goal.returns-in-226151037027462047
unfolding keyed
returns-in-226151037027462047 c = ap (keyed 0 keywords) (sym c.in-226151037027462047.is)

pub returns-in-14817117116 : goal.returns-in-14817117116
unfolding keyed
returns-in-14817117116 c = ap (keyed 0 keywords) (sym c.in-14817117116.is)

pub returns-in-15090809700 : goal.returns-in-15090809700
unfolding keyed
returns-in-15090809700 c = ap (keyed 0 keywords) (sym c.in-15090809700.is)

pub returns-in-15083475876 : goal.returns-in-15083475876
unfolding keyed
returns-in-15083475876 c = ap (keyed 0 keywords) (sym c.in-15083475876.is)

pub returns-in-226122 : goal.returns-in-226122
unfolding keyed
returns-in-226122 c = ap (keyed 0 keywords) (sym c.in-226122.is)

pub returns-in-15624553260 : goal.returns-in-15624553260
unfolding keyed
returns-in-15624553260 c = ap (keyed 0 keywords) (sym c.in-15624553260.is)

pub returns-in-953325759187870 : goal.returns-in-953325759187870
unfolding keyed
returns-in-953325759187870 c = ap (keyed 0 keywords) (sym c.in-953325759187870.is)

pub returns-in-248677969098386359 : goal.returns-in-248677969098386359
unfolding keyed
returns-in-248677969098386359 c = ap (keyed 0 keywords) (sym c.in-248677969098386359.is)

pub returns-in-4001492071245 : goal.returns-in-4001492071245
unfolding keyed
returns-in-4001492071245 c = ap (keyed 0 keywords) (sym c.in-4001492071245.is)

pub returns-in-1024381973408638 : goal.returns-in-1024381973408638
unfolding keyed
returns-in-1024381973408638 c = ap (keyed 0 keywords) (sym c.in-1024381973408638.is)

pub returns-in_default : goal.returns-in_default
unfolding NoneKeyed
returns-in_default c = (none_keyed _ 0 keywords _ c.in_default.in_default-own.rest).1
