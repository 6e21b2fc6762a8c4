use Rattle.std.proofs.Common.{◌≡◌, ◌+◌, suc, ap, sym, ◌∙◌, take, None, arith}
use Rattle.std.specs.Option.{option_copied}
use Rattle.jl_context.specs.Layers.{layers_in, terms_of, slots_of}
use Rattle.jl_context.specs.NextTerms.{least, all_names, names_in}
use Rattle.jl_context.proofs.NextLemmas.{least-more}
use Rattle.jl_context.proofs.next_terms.least_name.Goals as goal

pub loop-layer-preserved : goal.loop-layer-preserved
loop-layer-preserved c =
    let es = terms_of c.args.layers.now in
    let after = option_copied c.args.after in
    let next : suc c.loop-layer.layer-index ≡ c.loop-layer.layer-index + 1 = omega arith in
    let more = least-more es after c.args.layers.now c.loop-layer.layer-index c.layer-item.result None c.loop-layer-test.true c.layer-item.is in
    c.least_in-least.ensures
    ∙ (ap (λ f. least es after f (names_in (slots_of c.as_ref.result.now))) c.loop-layer.invariant
    ∙ (ap (λ l. least es after (least es after None (all_names (layers_in (take c.loop-layer.layer-index c.args.layers.now)))) (names_in (slots_of l))) c.as_ref.ensures
    ∙ (sym more ∙ ap (λ i. least es after None (all_names (layers_in (take i c.args.layers.now)))) next)))
