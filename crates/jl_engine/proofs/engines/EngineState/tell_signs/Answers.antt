use Rattle.std.proofs.Common.{ap}
use Rattle.jl_token.specs.Lexed.{number_of, token_of}
use Rattle.jl_engine.proofs.Readings.{tells_both, tells_stop}
use Rattle.jl_engine.proofs.engines.EngineState.tell_signs.Goals as goal

pub returns-in-Ok : goal.returns-in-Ok
returns-in-Ok c =
    let old = c.args.self.now in
    let mid = c.tell_number.new.self in
    tells_both c.tell_sign.result (number_of c.args.signs.number old.lexer.reading) (token_of c.args.signs.sign c.args.at old.lexer.reading) (token_of c.args.signs.sign c.args.at mid.lexer.reading)
    c.args.quads.now c.tell_number.new.quads c.tell_sign.new.quads old mid c.tell_sign.new.self c.in-Ok.ensures (ap (λ e. token_of c.args.signs.sign c.args.at e.lexer.reading) c.in-Ok.ensures.kept) c.tell_sign.ensures

pub returns-in-Err : goal.returns-in-Err
returns-in-Err c =
    let old = c.args.self.now in
    tells_stop c.in-Err.stop (number_of c.args.signs.number old.lexer.reading) (token_of c.args.signs.sign c.args.at old.lexer.reading)
    c.args.quads.now c.tell_number.new.quads c.tell_number.new.quads old c.tell_number.new.self c.in-Err.ensures
