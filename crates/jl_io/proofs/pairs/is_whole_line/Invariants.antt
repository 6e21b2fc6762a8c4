use Rattle.std.proofs.Common.{◌≡◌, length}
use Rattle.jl_io.specs.WholeLines.{is_whole_line}
use Rattle.jl_io.proofs.pairs.is_whole_line.Given as goal

abbrev pub invariant-loop-line : goal.invariant-loop-line
invariant-loop-line l = is_whole_line l.text l.rest ≡ is_whole_line l.text l.bytes

abbrev pub decreases-loop-line : goal.decreases-loop-line
decreases-loop-line l = length l.rest
