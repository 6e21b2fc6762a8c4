use Rattle.std.proofs.Common.{◌-◌, length}
use Rattle.jl_nquads.proofs.LineReaders.{HaveTaken}
use Rattle.jl_nquads.proofs.readers.LineReader.read_lines.Given as goal

abbrev pub invariant-loop-count : goal.invariant-loop-count
invariant-loop-count l = HaveTaken l.bytes l.count l.initial.self l.self

abbrev pub decreases-loop-count : goal.decreases-loop-count
decreases-loop-count l = length l.bytes - l.count
