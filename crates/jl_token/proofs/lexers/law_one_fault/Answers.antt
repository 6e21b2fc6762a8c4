use Rattle.jl_token.proofs.OneFault.{one_fault, unread, read_or_fault}
use Rattle.jl_token.proofs.lexers.law_one_fault.Goals as goal

pub returns-clause-either : goal.returns-clause-either
returns-clause-either c = λ start text. read_or_fault start text

pub returns-clause-one : goal.returns-clause-one
returns-clause-one c = λ start text f g h k. one_fault start text f g h k

pub returns-clause-unread : goal.returns-clause-unread
returns-clause-unread c = λ start text f tree us h k. unread start text f tree us h k
