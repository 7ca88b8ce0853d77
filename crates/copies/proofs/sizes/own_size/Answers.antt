-- `sizes::own_size`: each arm by its numbers. Assumes nothing.
use mathlib.Core.Path.{sym, ap}
use native.Mathlib.Omega.{arith}
use Rattle.sets.specs.Numbers.{listed}
use Rattle.copies.specs.Sizes.{own_size}
use Rattle.copies.proofs.SizeLaws.{own_plain, own_long}
use Rattle.copies.proofs.sizes.own_size.Goals as goal

pub returns-in-17 : goal.returns-in-17
unfolding own_size listed
returns-in-17 c = sym (ap own_size c.in-17.is)

pub returns-in-22 : goal.returns-in-22
unfolding own_size listed
returns-in-22 c = sym (ap own_size c.in-22.is)

pub returns-in-26 : goal.returns-in-26
unfolding own_size listed
returns-in-26 c = sym (ap own_size c.in-26.is)

pub returns-in_default : goal.returns-in_default
returns-in_default c =
    own_plain _ (λ e. omega arith) (λ e. omega arith) (λ e. omega arith) (λ e. omega arith) (λ e. omega arith) (λ e. omega arith) (λ e. omega arith)

pub returns-in_default-2 : goal.returns-in_default-2
returns-in_default-2 c =
    own_plain _ (λ e. omega arith) (λ e. omega arith) (λ e. omega arith) (λ e. omega arith) (λ e. omega arith) (λ e. omega arith) (λ e. omega arith)

pub returns-in-18 : goal.returns-in-18
unfolding own_size listed
returns-in-18 c = sym (ap own_size c.in-18.is)

pub returns-in-18-2 : goal.returns-in-18-2
returns-in-18-2 c = own_long _ (omega arith) (omega arith)
