use Rattle.std.proofs.Common.{◌≡◌, ◌<◌, drop}
use Rattle.jl_nquads.specs.EscapesRead.{code_value}
use Rattle.jl_nquads.proofs.escaped.code_number.Given as goal

abbrev pub invariant-loop-digit : goal.invariant-loop-digit
invariant-loop-digit l = record { below : l.number < 1114112; same : code_value l.before l.digits ≡ code_value l.number (drop l.digit-index l.digits) }
