use Rattle.std.proofs.Common.{◌≡◌, take}
use Rattle.jl_context.specs.Layers.{layers_in}
use Rattle.jl_context.proofs.terms.shared_layers.Given as goal

abbrev pub invariant-loop-layer : goal.invariant-loop-layer
invariant-loop-layer l = layers_in l.copy.items ≡ layers_in (take l.layer-index l.layers)
