use Rattle.std.proofs.Common.{◌≡◌, ap, ◌∙◌, subst, take}
use Rattle.jl_context.specs.Chains.{values}
use Rattle.jl_context.proofs.ChainLemmas.{pushed-on-copy}
use Rattle.jl_context.proofs.chains.push_copy.Goals as goal

pub returns-clause-ok : goal.returns-clause-ok
returns-clause-ok c =
    let same = c.as_slice.ensures.value ∙ ap (λ v. v.items) c.deref.ensures in
    pushed-on-copy c.args.count c.args.levels.now.value.items c.in_ok-copy.copy.items c.in_ok-new.new.value.items c.args.level c.requires
    (subst (λ l. values c.in_ok-copy.copy.items ≡ take c.args.count (values l)) same c.in_ok-copy.ensures)
    (ap (λ v. v.items) c.in_ok-new.ensures ∙ c.in_ok-push_level.ensures.ok)
