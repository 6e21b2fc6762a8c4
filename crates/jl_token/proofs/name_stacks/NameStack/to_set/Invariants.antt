use Rattle.std.proofs.Common.{◌≡◌, ◌≤◌, take, drop}
use Rattle.jl_token.specs.NameStacks.{set_of}
use Rattle.jl_token.proofs.name_stacks.NameStack.to_set.Given as goal

abbrev pub invariant-loop-left : goal.invariant-loop-left
invariant-loop-left l = (l.left ≤ l.count) × (l.set ≡ set_of (drop l.left (take l.count l.self)))

abbrev pub decreases-loop-left : goal.decreases-loop-left
decreases-loop-left l = l.left
