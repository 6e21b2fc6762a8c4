use Rattle.std.proofs.Common.{◌-◌, length}
use Rattle.jl_nquads.specs.LinesRead.{HasRun}
use Rattle.jl_nquads.proofs.labels.run_of.Given as goal

abbrev pub invariant-characters : goal.invariant-characters
invariant-characters l = HasRun l.text l.kept l.len

abbrev pub decreases-characters : goal.decreases-characters
decreases-characters l = length l.text - l.len
