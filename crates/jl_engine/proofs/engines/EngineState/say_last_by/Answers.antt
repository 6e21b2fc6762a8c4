use Rattle.std.specs.Option.{option_to_list}
use Rattle.jl_engine.proofs.Feeding.{says_told, says_none}
use Rattle.jl_engine.proofs.engines.EngineState.say_last_by.Goals as goal

pub returns-in-Ok-clause-says : goal.returns-in-Ok-clause-says
returns-in-Ok-clause-says g c =
    says_told c.put_all.result (option_to_list c.args.token) c.args.self.now c.tell_token.new.self c.args.quads.now c.tell_token.new.quads
    g.O.QuadOut.tells g.O.QuadOut.selects c.args.out.now c.put_all.new.out c.requires c.in-Ok.ensures c.put_all.ensures.put

pub returns-in-Err-clause-says : goal.returns-in-Err-clause-says
returns-in-Err-clause-says g c =
    says_none c.in-Err.last c.of_reader.result (option_to_list c.args.token) c.args.self.now c.tell_token.new.self c.args.quads.now c.tell_token.new.quads
    g.O.QuadOut.tells g.O.QuadOut.selects c.args.out.now c.of_reader.ensures c.in-Err.ensures
