use Rattle.std.proofs.Common.{◌≡◌, take, None}
use Rattle.std.specs.Option.{option_copied}
use Rattle.jl_context.specs.Layers.{layers_in, terms_of}
use Rattle.jl_context.specs.NextTerms.{least, all_names}
use Rattle.jl_context.proofs.next_terms.least_name.Given as goal

abbrev pub invariant-loop-layer : goal.invariant-loop-layer
invariant-loop-layer l = option_copied l.least ≡ least (terms_of l.layers) (option_copied l.after) None (all_names (layers_in (take l.layer-index l.layers)))
