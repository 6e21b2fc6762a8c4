use Rattle.std.proofs.Common.{sym, ap, subst, ◌∙◌}
use Rattle.jl_context.specs.Layers.{terms_of, seen, Changes, slots_of}
use Rattle.jl_context.proofs.Bools.{on-ok}
use Rattle.jl_context.proofs.LayerLemmas.{layer-begun}
use Rattle.jl_context.proofs.terms.begin_layer.Goals as goal

pub returns-clause-ok : goal.returns-clause-ok
returns-clause-ok c =
    on-ok c.insert_first.result c.insert_first.ensures.ok (λ h.
    ap terms_of h
    ∙ layer-begun c.args.layers.now.items c.in_ok-newest.newest c.empty-layer.result c.args.key.items (seen c.args.value) c.empty-layer.ensures
    (subst (λ l. Changes (slots_of c.empty-layer.result) c.args.key.items (seen c.args.value) (slots_of l)) (sym c.in_ok-newest.ensures) c.in_ok-set.ensures.ok))
