use Rattle.std.proofs.Common.{◌≡◌, ◌-◌, ◌^◌, min, take}
use Rattle.std.specs.List.{sum_by}
use Rattle.jl_token.specs.NameStacks.{within_len}
use Rattle.jl_token.proofs.opens.names_len_of.Given as goal

abbrev pub invariant-loop-container : goal.invariant-loop-container
invariant-loop-container l = l.sum ≡ min (sum_by within_len (take l.container-index l.list)) (2 ^ 64 - 1)
