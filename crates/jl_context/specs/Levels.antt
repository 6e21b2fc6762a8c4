-- A level of which one part is set.
use Rattle.jl_defs.specs.Context.{Level}
use Rattle.jl_context.specs.Shared.{bare}
use Rattle.jl_context.specs.declared.levels.Part.{Part}
use Rattle.jl_context.specs.declared.levels.Part.TheVariants as part

abbrev pub with_part : Part → Level → Level
with_part (part.Base text) l = record l { base = bare text }
with_part (part.Vocab text) l = record l { vocab = bare text }
with_part (part.Language text) l = record l { language = bare text }
with_part (part.Direction direction) l = record l { direction = direction }
