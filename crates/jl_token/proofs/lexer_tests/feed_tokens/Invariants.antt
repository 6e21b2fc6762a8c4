use Rattle.std.proofs.Common.{◌≡◌, ◌-◌, false, length}
use Rattle.jl_token.proofs.lexer_tests.feed_tokens.Given as goal

abbrev pub invariant-loop-read : goal.invariant-loop-read
invariant-loop-read l = l.lexer.ended ≡ false

abbrev pub decreases-loop-read : goal.decreases-loop-read
decreases-loop-read l = length l.piece - l.read
