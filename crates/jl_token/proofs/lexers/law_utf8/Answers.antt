use Rattle.jl_token.proofs.MeantUtf8.{string_utf8}
use Rattle.jl_token.proofs.lexers.law_utf8.Goals as goal

pub returns : goal.returns
returns c = λ meant text h. string_utf8 meant text h
