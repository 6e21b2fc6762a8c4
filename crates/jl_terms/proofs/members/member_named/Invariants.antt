use Rattle.std.proofs.Common.{◌≡◌, drop}
use Rattle.jl_model.specs.JsonView.{members}
use Rattle.jl_defs.specs.Trees.{member_named}
use Rattle.jl_terms.proofs.members.member_named.Given as goal

abbrev pub invariant-loop-member : goal.invariant-loop-member
invariant-loop-member l = member_named l.name (members (drop l.member-index l.members)) ≡ member_named l.name (members l.members)
