use Rattle.std.proofs.Common.{ap, ◌∙◌}
use Rattle.jl_model.specs.declared.scalars.Scalar.TheVariants as scalars
use Rattle.jl_engine.specs.Saying.{scalar_read}
use Rattle.jl_engine.specs.declared.events.Event.TheVariants as events
use Rattle.jl_engine.proofs.Readings.{tells_as}
use Rattle.jl_engine.proofs.engines.EngineState.tell_string.Goals as goal

pub returns : goal.returns
returns c =
    let l = c.args.self.now.lexer in
    tells_as c.step.result c.args.self.now (events.Value c.token_place-at.result (scalars.Str c.bytes.result.now)) (scalar_read (scalars.Str c.args.self.now.lexer.reading.part) c.args.self.now.lexer) c.args.quads.now c.step.new.quads c.step.new.self
    (ap (λ n. events.Value n (scalars.Str c.bytes.result.now)) c.token_place-at.ensures ∙ ap (λ t. events.Value l.reading.start (scalars.Str t)) (c.bytes.ensures ∙ c.text.ensures)) c.step.ensures
