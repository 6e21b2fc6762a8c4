-- An active context, as the definitions have it.
use Rattle.std.specs.Prelude.{None, []}
use Rattle.jl_model.specs.declared.term_parts.DirEntry.TheVariants as direction
use Rattle.jl_defs.specs.Context as spec
use Rattle.jl_context.specs.declared.contexts.Context.{Context}

abbrev pub context_of : Context → spec.Context
context_of c = record {
  level = record { base = c.base; vocab = c.vocab; language = None; direction = direction.Absent; terms = [] };
  previous = [];
}
