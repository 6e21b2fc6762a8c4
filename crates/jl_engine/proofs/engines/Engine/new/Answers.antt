use Rattle.std.proofs.Common.{refl, sym, ap, ◌∙◌}
use Rattle.jl_defs.specs.Context.{initial}
use Rattle.jl_engine.proofs.Feeding.{stands-new}
use Rattle.jl_engine.proofs.KeepsSteps.{starts-keep}
use Rattle.jl_engine.proofs.engines.Engine.new.Goals as goal

pub returns : goal.returns
returns c = record {
  going = refl;
  stands = λ s order base.
      stands-new s _ (order ∙ c.requires.streaming) (c.in_ok-context.ensures ∙ ap initial (sym base)) c.new.ensures.empty c.new.ensures.live c.at_start.ensures (starts-keep s) refl refl refl;
}
