use Rattle.std.proofs.Common.{◌≡◌, ◌+◌, drop}
use Rattle.std.specs.List.{prefix_len}
use Rattle.jl_token.specs.Runs.{is_text_to}
use Rattle.jl_token.proofs.runs.bytes_to.Given as goal

abbrev pub invariant-loop-byte : goal.invariant-loop-byte
invariant-loop-byte l = (l.count ≡ l.byte-index) × (prefix_len (is_text_to l.last) l.bytes ≡ l.byte-index + prefix_len (is_text_to l.last) (drop l.byte-index l.bytes))
