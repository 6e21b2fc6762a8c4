use Rattle.jl_engine.specs.Marks.{event_lent}
use Rattle.jl_engine.proofs.Readings.{tells_one}
use Rattle.jl_engine.proofs.engines.EngineState.tell_event.Goals as goal

pub returns : goal.returns
returns c = tells_one c.step.result c.args.self.now (event_lent c.args.event) c.args.quads.now c.step.new.quads c.step.new.self c.step.ensures
