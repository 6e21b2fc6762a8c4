-- The parts of a text with a colon, as the definition of IRI expansion has them.
use Rattle.jl_defs.specs.IriExpansion as spec
use Rattle.jl_context.specs.declared.compacts.Compact.{Compact}

abbrev pub compact_in : Compact → spec.Compact
compact_in k = record { prefix = k.prefix.now; rest = k.rest.now }
