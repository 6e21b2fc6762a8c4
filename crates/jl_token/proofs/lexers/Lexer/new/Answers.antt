use Rattle.std.proofs.Common.{refl, None, false}
use Rattle.jl_token.proofs.LexerCalls.{new_stands}
use Rattle.jl_token.proofs.lexers.Lexer.new.Goals as goal

pub returns-clause-empty : goal.returns-clause-empty
returns-clause-empty c = new_stands c.args.start (record { reading = c.new.result; stopped = None; ended = false }) c.new.ensures refl
