use Rattle.std.proofs.Common.{◌≡◌, map}
use Rattle.std.specs.Map.Iter.{deref_pair}
use Rattle.std.specs.Option.{option_copied}
use Rattle.jl_context.specs.Layers.{terms_of}
use Rattle.jl_context.specs.NextTerms.{least, names_in}
use Rattle.jl_context.proofs.next_terms.least_in.Given as goal

abbrev pub invariant-loop-name : goal.invariant-loop-name
invariant-loop-name l = option_copied l.least ≡ least (terms_of l.layers) (option_copied l.after) (option_copied l.found) (names_in (map deref_pair l.yielded))
