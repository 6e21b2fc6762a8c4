use Rattle.std.proofs.Common.{◌≡◌, ◌++◌, ◌∷◌, [], ap, arith, length, subst}
use Rattle.jl_context.proofs.Bools.{on-ok}
use Rattle.jl_context.proofs.ChainLemmas.{pushed-in-place}
use Rattle.jl_context.proofs.chains.push_in.Goals as goal

pub returns-in-Some-clause-ok : goal.returns-in-Some-clause-ok
returns-in-Some-clause-ok c =
    let same = c.deref.ensures in
    let whole : c.args.count ≡ length c.args.levels.now.value.items = let n = ap (λ v. v.len) same in omega (arith, c.if-count-len.true, c.len.ensures, n, c.args.levels.now.value.ok.0) in
    on-ok c.push_level.result c.push_level.ensures.ok
    (λ h. pushed-in-place c.args.count c.args.levels.now.value.items c.push_level.new.levels.items c.args.level whole
    (subst (λ v. c.push_level.new.levels.items ≡ v.items ++ c.args.level ∷ []) c.in-Some.ensures.value h))
