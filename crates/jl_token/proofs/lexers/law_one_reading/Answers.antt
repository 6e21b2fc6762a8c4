use Rattle.jl_token.proofs.OneReading.{one_reading}
use Rattle.jl_token.proofs.lexers.law_one_reading.Goals as goal

pub returns : goal.returns
returns c = λ start text tree other us vs g h. one_reading start text tree other us vs g h
