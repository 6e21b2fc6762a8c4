use Rattle.std.proofs.Common.{◌≡◌, drop}
use Rattle.jl_model.specs.JsonView.{members}
use Rattle.jl_defs.specs.TermEntry.{names_are_among}
use Rattle.jl_terms.specs.Steps.{type_names}
use Rattle.jl_terms.proofs.members.are_type_names.Given as goal

abbrev pub invariant-loop-member : goal.invariant-loop-member
invariant-loop-member l = names_are_among type_names (members (drop l.member-index l.members)) ≡ names_are_among type_names (members l.members)
