use Rattle.std.proofs.Common.{◌≡◌, false}
use Rattle.jl_lexer_bench.proofs.read_pieces.Given as goal

abbrev pub invariant-loop : goal.invariant-loop
invariant-loop l = l.lexer.ended ≡ false
