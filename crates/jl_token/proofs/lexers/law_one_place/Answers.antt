use Rattle.jl_token.proofs.OnePlace.{one_place}
use Rattle.jl_token.proofs.lexers.law_one_place.Goals as goal

pub returns : goal.returns
returns c = λ start p at other h k. one_place start p at other h k
