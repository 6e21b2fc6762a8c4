use Rattle.jl_nquads.proofs.ReadBack.{lines-read_back}
use Rattle.jl_nquads.proofs.laws.law_lines.Goals as goal

pub returns : goal.returns
returns c = lines-read_back
