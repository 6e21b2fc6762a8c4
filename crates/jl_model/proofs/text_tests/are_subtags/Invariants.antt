use Rattle.std.proofs.Common.{◌≡◌, drop}
use Rattle.std.specs.Char.{is_ascii_alphanumeric}
use Rattle.std.specs.List.{list_all, slice_split}
use Rattle.jl_model.specs.Tags.{is_dash, is_some_of}
use Rattle.jl_model.proofs.Subtags.{go_on}
use Rattle.jl_model.proofs.text_tests.are_subtags.Given as goal

abbrev pub invariant-loop-byte : goal.invariant-loop-byte
invariant-loop-byte l = list_all (is_some_of is_ascii_alphanumeric) (slice_split is_dash l.text) ≡ go_on l.begun (drop l.byte-index l.text)
