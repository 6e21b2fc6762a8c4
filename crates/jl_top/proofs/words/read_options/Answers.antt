use Rattle.std.specs.Option.{option_copied}
use Rattle.jl_top.proofs.Options.{end_some, end_none}
use Rattle.jl_top.proofs.words.read_options.Goals as goal

pub returns-then-so_far-clause-settings : goal.returns-then-so_far-clause-settings
returns-then-so_far-clause-settings c =
    let o = c.loop-so_far.so_far.options in
    end_some c.loop-so_far.so_far.rest.now _ o.streaming (option_copied o.base) c.in_default.len_below c.loop-so_far.invariant.settings c.if-so_far.true

pub returns-else-so_far-clause-settings : goal.returns-else-so_far-clause-settings
returns-else-so_far-clause-settings c =
    let o = c.loop-so_far.so_far.options in
    end_none c.loop-so_far.so_far.rest.now _ o.streaming (option_copied o.base) c.in_default.len_below c.loop-so_far.invariant.settings c.if-so_far.false
