use Rattle.std.proofs.Common.{◌≡◌, drop}
use Rattle.jl_context.specs.Layers.{terms_of, over, slots_of}
use Rattle.jl_context.proofs.terms.gathered.Given as goal

abbrev pub invariant-loop-layer : goal.invariant-loop-layer
invariant-loop-layer l = over (slots_of l.all) (terms_of (drop l.layer-index l.layers)) ≡ terms_of l.layers
