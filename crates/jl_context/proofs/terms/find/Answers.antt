use Rattle.std.proofs.Common.{◌≡◌, sym, ap, subst, ◌∙◌, arith, Some, None, suc, ◌+◌}
use Rattle.std.specs.Option.{option_copied}
use Rattle.jl_context.specs.Layers.{raw_slot, slots_of}
use Rattle.jl_context.proofs.LayerLemmas.{finds-at, skips-at}
use Rattle.jl_context.proofs.terms.find.Goals as goal

pub returns-in-Some : goal.returns-in-Some
returns-in-Some c =
    let slot : raw_slot (slots_of c.deref.result.now) c.args.name.now ≡ Some c.in-Some.slot.now = sym c.slot.ensures ∙ ap option_copied c.in-Some.is in
    let here = subst (λ l. raw_slot (slots_of l) c.args.name.now ≡ Some c.in-Some.slot.now) c.deref.ensures slot in
    let found = finds-at c.args.layers.now c.loop-layer.layer-index c.layer-item.result c.args.name.now c.in-Some.slot.now c.loop-layer-test.true c.layer-item.is here in
    c.definition_in.ensures ∙ sym (sym c.loop-layer.invariant ∙ found)

pub loop-layer-preserved : goal.loop-layer-preserved
loop-layer-preserved c =
    let slot : raw_slot (slots_of c.deref.result.now) c.args.name.now ≡ None = sym c.slot.ensures ∙ ap option_copied c.in-None.is in
    let here = subst (λ l. raw_slot (slots_of l) c.args.name.now ≡ None) c.deref.ensures slot in
    let next : c.loop-layer.layer-index + 1 ≡ suc c.loop-layer.layer-index = omega arith in
    sym (skips-at c.args.layers.now c.loop-layer.layer-index (c.loop-layer.layer-index + 1) c.layer-item.result c.args.name.now c.loop-layer-test.true c.layer-item.is next here) ∙ c.loop-layer.invariant
