use Rattle.std.proofs.Common.{◌≡◌, ◌-◌, ◌≤◌}
use Rattle.jl_nquads.specs.Unframed.{first_with}
use Rattle.jl_nquads.proofs.unframed.first_with.Given as goal

abbrev pub invariant-loop : goal.invariant-loop
invariant-loop l = record { within : l.first ≤ 1114112; same : first_with (l.count - l.counter) l.first ≡ first_with l.count l.number }
