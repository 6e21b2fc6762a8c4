use Rattle.std.proofs.Common.{◌≡◌, length}
use Rattle.jl_value.specs.Fronts.{front_of}
use Rattle.jl_value.proofs.doubles.without_end_zeros.Given as goal

abbrev pub invariant-loop-front : goal.invariant-loop-front
invariant-loop-front l = front_of l.front ≡ front_of l.digits

abbrev pub decreases-loop-front : goal.decreases-loop-front
decreases-loop-front l = length l.front
