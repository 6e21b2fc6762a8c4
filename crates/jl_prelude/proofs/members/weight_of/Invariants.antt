use Rattle.std.proofs.Common.{◌≡◌, take}
use Rattle.jl_prelude.specs.Members.{weight_of}
use Rattle.jl_prelude.proofs.members.weight_of.Given as goal

abbrev pub invariant-loop-member : goal.invariant-loop-member
invariant-loop-member l = l.sum ≡ weight_of (take l.member-index l.members)
