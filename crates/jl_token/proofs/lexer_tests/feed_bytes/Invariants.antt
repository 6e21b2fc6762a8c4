use Rattle.std.proofs.Common.{◌≡◌, ◌-◌, false, length}
use Rattle.jl_token.proofs.lexer_tests.feed_bytes.Given as goal

abbrev pub invariant-loop-next : goal.invariant-loop-next
invariant-loop-next l = l.lexer.ended ≡ false

abbrev pub decreases-loop-next : goal.decreases-loop-next
decreases-loop-next l = length l.piece - l.next
