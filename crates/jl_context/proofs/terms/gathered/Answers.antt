use Rattle.std.proofs.Common.{◌≡◌, suc, ◌+◌, arith, subst}
use Rattle.jl_context.specs.Layers.{slots_of, slot, or_slot}
use Rattle.jl_context.proofs.LayerLemmas.{gathers-at}
use Rattle.jl_context.proofs.terms.gathered.Goals as goal

pub loop-layer-preserved : goal.loop-layer-preserved
loop-layer-preserved c =
    let next : c.loop-layer.layer-index + 1 ≡ suc c.loop-layer.layer-index = omega arith in
    let held = subst (λ l. (q : _) → slot (slots_of c.take_over.new.self) q ≡ or_slot (slot (slots_of c.loop-layer.all) q) (slot (slots_of l) q)) c.as_ref.ensures c.in_ok-take_over.ensures in
    gathers-at c.args.layers.now c.loop-layer.layer-index (c.loop-layer.layer-index + 1) c.layer-item.result c.loop-layer.all c.take_over.new.self c.loop-layer-test.true c.layer-item.is next c.loop-layer.invariant held
