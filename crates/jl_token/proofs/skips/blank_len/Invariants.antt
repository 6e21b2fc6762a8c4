use Rattle.std.proofs.Common.{◌≡◌, ◌+◌, drop}
use Rattle.std.specs.List.{prefix_len}
use Rattle.jl_token.specs.Runs.{is_blank}
use Rattle.jl_token.proofs.skips.blank_len.Given as goal

abbrev pub invariant-loop-byte : goal.invariant-loop-byte
invariant-loop-byte l = (l.count ≡ l.byte-index) × (prefix_len is_blank l.bytes ≡ l.byte-index + prefix_len is_blank (drop l.byte-index l.bytes))
