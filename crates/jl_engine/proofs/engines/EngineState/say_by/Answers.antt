use Rattle.jl_token.specs.Lexed.{told}
use Rattle.jl_engine.proofs.Feeding.{says_told, says_none}
use Rattle.jl_engine.proofs.engines.EngineState.say_by.Goals as goal

pub returns-in-Ok-clause-says : goal.returns-in-Ok-clause-says
returns-in-Ok-clause-says g c =
    says_told c.put_all.result (told c.args.signs c.args.at c.args.self.now.lexer.reading) c.args.self.now c.tell_signs.new.self c.args.quads.now c.tell_signs.new.quads
    g.O.QuadOut.tells g.O.QuadOut.selects c.args.out.now c.put_all.new.out c.requires c.in-Ok.ensures c.put_all.ensures.put

pub returns-in-Err-clause-says : goal.returns-in-Err-clause-says
returns-in-Err-clause-says g c =
    says_none c.in-Err.stop c.of_reader.result (told c.args.signs c.args.at c.args.self.now.lexer.reading) c.args.self.now c.tell_signs.new.self c.args.quads.now c.tell_signs.new.quads
    g.O.QuadOut.tells g.O.QuadOut.selects c.args.out.now c.of_reader.ensures c.in-Err.ensures
