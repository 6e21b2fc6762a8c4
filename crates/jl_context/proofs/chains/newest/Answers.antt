use Rattle.std.proofs.Common.{◌≡◌, ◌<◌, ◌-◌, suc, ap, sym, arith, length}
use Rattle.jl_context.specs.Chains.{first_of}
use Rattle.jl_context.proofs.ChainLemmas.{levels-more}
use Rattle.jl_context.proofs.chains.newest.Goals as goal

pub returns-in-Some : goal.returns-in-Some
returns-in-Some c =
    let n : c.args.count ≡ suc (c.args.count - 1) = omega (arith, c.if-count-eq0.false) in
    let within : c.args.count - 1 < length c.args.levels.now = omega (arith, c.if-count-eq0.false, c.requires) in
    sym (ap first_of (levels-more c.args.count (c.args.count - 1) c.args.levels.now c.in-Some.level.now n within c.in-Some.ensures.lookup.1))
