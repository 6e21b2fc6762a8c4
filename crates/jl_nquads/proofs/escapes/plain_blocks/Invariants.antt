use Rattle.std.proofs.Common.{◌≡◌, ◌≤◌, ◌-◌, length, take, flat_map}
use Rattle.jl_model.specs.Lines.{escaped}
use Rattle.jl_nquads.proofs.escapes.plain_blocks.Given as goal

abbrev pub invariant-loop-at : goal.invariant-loop-at
invariant-loop-at l = record {
  within : l.at ≤ length l.text;
  plain : flat_map escaped (take l.at l.text) ≡ take l.at l.text;
}

abbrev pub decreases-loop-at : goal.decreases-loop-at
decreases-loop-at l = length l.text - l.at
