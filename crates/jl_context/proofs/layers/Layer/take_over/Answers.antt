use Rattle.std.proofs.Common.{rules, ◌≡◌, ap, ◌∙◌, subst, map}
use Rattle.std.specs.Map.Iter.{deref_pair}
use Rattle.std.proofs.lemmas.Map.Iter.{iter_end}
use Rattle.jl_context.specs.Layers.{slots_of, slot, or_slot, seen, Adds}
use Rattle.jl_context.proofs.LayerLemmas.{added-more, mapped-more}
use Rattle.jl_context.proofs.layers.Layer.take_over.Goals as goal

pub loop-name-preserved : goal.loop-name-preserved
loop-name-preserved c =
    let adds = subst (λ n. Adds (slots_of c.loop-name.self) n (seen c.in-Some.value.now) (slots_of c.add.new.self)) c.as_slice.ensures.value c.in_ok-add.ensures in
    λ q. added-more (slots_of c.args.self.now) (slots_of c.loop-name.self) (slots_of c.add.new.self) (map deref_pair c.loop-name.yielded) (c.in-Some.name.now, c.in-Some.value.now) c.loop-name.invariant adds q
    ∙ ap (λ l. or_slot (slot (slots_of c.args.self.now) q) (slot l q)) (mapped-more deref_pair c.loop-name.yielded (c.in-Some.name, c.in-Some.value))

pub returns : goal.returns
returns c =
    let e : map deref_pair c.loop-name.yielded ≡ c.args.lower.now.slots.entries = search (rules, iter_end) in
    λ q. c.loop-name.invariant q ∙ ap (λ l. or_slot (slot (slots_of c.args.self.now) q) (slot l q)) e
