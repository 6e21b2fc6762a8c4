use Rattle.std.proofs.Common.{length}
use Rattle.jl_writer.proofs.tests.put_quads.Given as goal

abbrev pub decreases-loop-left : goal.decreases-loop-left
decreases-loop-left l = length l.left
