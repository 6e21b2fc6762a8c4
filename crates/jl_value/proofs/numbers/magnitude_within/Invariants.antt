use Rattle.std.proofs.Common.{◌≡◌, ◌≤◌, drop}
use Rattle.jl_defs.specs.Numbers.{number_from}
use Rattle.jl_value.proofs.numbers.magnitude_within.Given as goal

abbrev pub invariant-loop-byte : goal.invariant-loop-byte
invariant-loop-byte l = (l.magnitude ≤ l.most) × (number_from l.magnitude (drop l.byte-index l.digits) ≡ number_from 0 l.digits)
