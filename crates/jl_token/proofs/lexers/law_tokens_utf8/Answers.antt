use Rattle.jl_token.proofs.TokensUtf8.{reading_utf8, given_utf8}
use Rattle.jl_token.proofs.lexers.law_tokens_utf8.Goals as goal

pub returns-clause-reading : goal.returns-clause-reading
returns-clause-reading c = λ start text tree us h. reading_utf8 start text tree us h

pub returns-clause-given : goal.returns-clause-given
returns-clause-given c = λ start p given s h. given_utf8 start p given s h
