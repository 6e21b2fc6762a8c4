use Rattle.std.proofs.Common.{ap, ◌∙◌}
use Rattle.jl_engine.specs.Saying.{key_read}
use Rattle.jl_engine.specs.declared.events.Event.TheVariants as events
use Rattle.jl_engine.proofs.Readings.{tells_as}
use Rattle.jl_engine.proofs.engines.EngineState.tell_name.Goals as goal

pub returns : goal.returns
returns c =
    let l = c.args.self.now.lexer in
    tells_as c.step.result c.args.self.now (events.Key c.token_place-at.result c.bytes-name.result.now) (key_read c.args.self.now.lexer) c.args.quads.now c.step.new.quads c.step.new.self
    (ap (λ n. events.Key n c.bytes-name.result.now) c.token_place-at.ensures ∙ ap (λ t. events.Key l.reading.start t) (c.bytes-name.ensures ∙ c.text.ensures)) c.step.ensures
