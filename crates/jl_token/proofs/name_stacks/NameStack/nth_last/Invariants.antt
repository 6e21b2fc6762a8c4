use Rattle.std.proofs.Common.{◌≡◌, reverse, drop}
use Rattle.jl_token.specs.NameStacks.{cut}
use Rattle.jl_token.proofs.name_stacks.NameStack.nth_last.Given as goal

abbrev pub invariant-loop-left : goal.invariant-loop-left
invariant-loop-left l = drop l.behind l.self ≡ drop l.left (cut (reverse l.lens) l.bytes)

abbrev pub decreases-loop-left : goal.decreases-loop-left
decreases-loop-left l = l.left
