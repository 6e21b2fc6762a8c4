use Rattle.std.proofs.Common.{◌≡◌, length}
use Rattle.jl_defs.specs.Words.{options, nothing_given}
use Rattle.jl_top.specs.Words.{settings_in, given_in, HasIriBase}
use Rattle.jl_top.proofs.words.read_options.Given as goal

abbrev pub invariant-loop-so_far : goal.invariant-loop-so_far
invariant-loop-so_far l = record {
  settings : settings_in (options l.so_far.rest.now (given_in l.so_far.options)) ≡ settings_in (options l.words nothing_given);
  base : HasIriBase l.so_far.options;
}

abbrev pub decreases-loop-so_far : goal.decreases-loop-so_far
decreases-loop-so_far l = length l.so_far.rest.now
