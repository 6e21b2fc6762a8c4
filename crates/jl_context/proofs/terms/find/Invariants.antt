use Rattle.std.proofs.Common.{◌≡◌, drop}
use Rattle.jl_defs.specs.Context.{lookup}
use Rattle.jl_context.specs.Layers.{terms_of}
use Rattle.jl_context.proofs.terms.find.Given as goal

abbrev pub invariant-loop-layer : goal.invariant-loop-layer
invariant-loop-layer l = lookup (terms_of (drop l.layer-index l.layers)) l.name ≡ lookup (terms_of l.layers) l.name
