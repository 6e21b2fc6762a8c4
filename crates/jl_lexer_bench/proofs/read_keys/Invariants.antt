use Rattle.std.proofs.Common.{◌≡◌, false}
use Rattle.jl_lexer_bench.proofs.read_keys.Given as goal

abbrev pub invariant-loop-number : goal.invariant-loop-number
invariant-loop-number l = l.lexer.ended ≡ false
