use Rattle.std.proofs.Common.{◌≡◌, ◌+◌, ◌-◌, ◌≤◌, length, drop}
use Rattle.std.specs.List.{prefix_len}
use Rattle.jl_token.specs.Runs.{is_text_to}
use Rattle.jl_token.proofs.runs.run_to.Given as goal

abbrev pub invariant-loop-count : goal.invariant-loop-count
invariant-loop-count l = (prefix_len (is_text_to l.last) l.bytes ≡ l.count + prefix_len (is_text_to l.last) (drop l.count l.bytes)) × (l.count ≤ length l.bytes)

abbrev pub decreases-loop-count : goal.decreases-loop-count
decreases-loop-count l = length l.bytes - l.count
