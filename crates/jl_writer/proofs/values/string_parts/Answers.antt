use Rattle.std.proofs.Common.{subst}
use Rattle.jl_writer.specs.Escapes.{IsStringOf}
use Rattle.jl_writer.proofs.PlainTexts.{plain_string}
use Rattle.jl_writer.proofs.values.string_parts.Goals as goal

pub returns-in-None : goal.returns-in-None
returns-in-None c = plain_string c.args.text.now (subst (λ made. IsStringOf made c.args.text.now) c.in-None.is c.requires)
