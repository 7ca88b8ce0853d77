-- `heading::head_number`: the version, where it is awaited. Assumes nothing.
use Rattle.read_text.proofs.ReaderLaws.{number_taken, number_fault}
use Rattle.read_text.proofs.heading.head_number.Goals as goal

pub returns-in-NumberDue : goal.returns-in-NumberDue
returns-in-NumberDue c = λ text t k. record { takes = λ at g h a. number_taken h a k c.in-NumberDue.is }

pub returns-in_default : goal.returns-in_default
returns-in_default c = λ text t k. record { takes = λ at g h a. number_fault h a k c.in_default.not-NumberDue }
