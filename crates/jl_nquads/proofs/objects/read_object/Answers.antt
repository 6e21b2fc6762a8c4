use Rattle.std.proofs.Common.{◌∙◌}
use Rattle.jl_nquads.proofs.PartReads.{named_object}
use Rattle.jl_nquads.proofs.objects.read_object.Goals as goal

pub returns-in_default : goal.returns-in_default
returns-in_default c = named_object c.args.text.now c.read_name.result c.requires.apart (λ i. c.in_default.not-Str (c.next_of.ensures ∙ i)) c.read_name.ensures
