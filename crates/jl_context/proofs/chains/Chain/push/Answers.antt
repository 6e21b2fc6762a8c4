use Rattle.std.proofs.Common.{◌+◌, ◌∷◌, ap, ◌∙◌}
use Rattle.jl_defs.specs.Context.{level_size}
use Rattle.jl_context.specs.Chains.{IsPushed}
use Rattle.jl_context.proofs.ChainLemmas.{pushed-holds}
use Rattle.jl_context.proofs.chains.Chain.push.Goals as goal

pub invariant_of-self-2 : goal.invariant_of-self-2
invariant_of-self-2 c =
    pushed-holds c.self.inside.count c.self.inside.size c.in_ok-size.size c.args.level.value c.self.inside.levels.value.items c.push_in.new.levels.value.items
    c.in_ok-push_in.ensures.ok c.self.invariant
    (c.in_ok-size.ensures ∙ ap (λ n. c.self.inside.size + n) (c.in_ok-exact_size.ensures ∙ ap level_size c.as_ref.ensures))

pub returns-clause-ok : goal.returns-clause-ok
unfolding IsPushed
returns-clause-ok c = c.in_ok-push_in.ensures.ok.0 ∙ ap (λ l. c.args.level.value ∷ l) c.self.view_is
