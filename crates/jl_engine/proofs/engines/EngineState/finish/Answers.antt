use Rattle.std.proofs.Common.{subst, sym}
use Rattle.jl_engine.specs.Standing.{StoppedAtEnd}
use Rattle.jl_engine.proofs.Feeding.{end-fails, end-answers, end-stops}
use Rattle.jl_engine.proofs.engines.EngineState.finish.Goals as goal

pub returns-in-Err-clause-stopped : goal.returns-in-Err-clause-stopped
returns-in-Err-clause-stopped g c = λ s bytes quads h.
    subst (λ stop. StoppedAtEnd s bytes quads stop (g.O.QuadOut.tells c.args.out.now) (g.O.QuadOut.tells c.args.out.now) (g.O.QuadOut.selects c.args.out.now)) (sym c.of_lexer.ensures)
    (end-fails s bytes quads c.in-Err.stop c.args.self.now (g.O.QuadOut.tells c.args.out.now) (g.O.QuadOut.selects c.args.out.now) h (c.in-Err.ensures.stops.1 0 bytes h.tokens h.lexer))

pub returns-in-Ok-clause-finished : goal.returns-in-Ok-clause-finished
returns-in-Ok-clause-finished g c =
    end-answers c.say_last.result c.in-Ok.number c.args.self.now c.say_last.new.self c.finish.new.self
    g.O.QuadOut.tells g.O.QuadOut.selects c.args.out.now c.say_last.new.out c.in-Ok.ensures.read c.in-Ok.ensures.number c.say_last.ensures.says

pub returns-in-Ok-clause-stopped : goal.returns-in-Ok-clause-stopped
returns-in-Ok-clause-stopped g c =
    end-stops c.say_last.result c.in-Ok.number c.args.self.now c.say_last.new.self c.finish.new.self
    g.O.QuadOut.tells g.O.QuadOut.selects c.args.out.now c.say_last.new.out c.in-Ok.ensures.read c.in-Ok.ensures.number c.say_last.ensures.says
