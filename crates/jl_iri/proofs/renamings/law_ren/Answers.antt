use Rattle.jl_iri.proofs.RenLemmas.{one_to_one, apart}
use Rattle.jl_iri.proofs.renamings.law_ren.Goals as goal

pub returns-clause-one_to_one : goal.returns-clause-one_to_one
returns-clause-one_to_one c = one_to_one

pub returns-clause-apart : goal.returns-clause-apart
returns-clause-apart c = apart
