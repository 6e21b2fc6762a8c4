use Rattle.jl_context.proofs.LayerLemmas.{changed}
use Rattle.jl_context.proofs.layers.Layer.set.Goals as goal

pub returns-in-Ok-clause-ok : goal.returns-in-Ok-clause-ok
returns-in-Ok-clause-ok c = changed _ _ c.args.key c.args.value c.in-Ok.ensures.updates.1 c.in-Ok.ensures.updates.3
