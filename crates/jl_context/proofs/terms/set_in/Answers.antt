use Rattle.std.proofs.Common.{◌<◌, subst, arith, length, refl}
use Rattle.jl_context.proofs.Bools.{on-ok}
use Rattle.jl_context.specs.Layers.{seen, Changes, slots_of}
use Rattle.jl_context.proofs.LayerLemmas.{newest-changed}
use Rattle.jl_context.proofs.terms.set_in.Goals as goal

pub returns-in-Some-get_mut-clause-ok : goal.returns-in-Some-get_mut-clause-ok
returns-in-Some-get_mut-clause-ok c =
    let there : 0 < length c.args.layers.now.items = let v = c.in-Some.ensures.variant.0 refl in omega (arith, v, c.args.layers.now.ok.0) in
    on-ok c.set.result c.set.ensures.ok
    (λ h. newest-changed c.args.layers.now.items c.in-Some.newest.now c.set.new.self c.args.key.items (seen c.args.value) there c.in-Some.ensures.value (subst (λ l. Changes (slots_of l) c.args.key.items (seen c.args.value) (slots_of c.set.new.self)) c.in-Some-get_mut.ensures.value h))
