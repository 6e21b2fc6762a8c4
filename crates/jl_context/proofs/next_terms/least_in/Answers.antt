use Rattle.std.proofs.Common.{rules, ◌≡◌, ap, sym, ◌∙◌, map}
use Rattle.std.specs.Map.Iter.{deref_pair}
use Rattle.std.specs.Option.{option_copied}
use Rattle.std.proofs.lemmas.Map.Iter.{iter_end}
use Rattle.jl_context.specs.Layers.{terms_of}
use Rattle.jl_context.specs.NextTerms.{least, lesser, names_in}
use Rattle.jl_context.proofs.LayerLemmas.{mapped-more}
use Rattle.jl_context.proofs.NextLemmas.{least-end, names-end}
use Rattle.jl_context.proofs.next_terms.least_in.Goals as goal

pub loop-name-preserved : goal.loop-name-preserved
loop-name-preserved c =
    let es = terms_of c.args.layers.now in
    let after = option_copied c.args.after in
    let found = option_copied c.args.found in
    let names = names_in (map deref_pair c.loop-name.yielded) in
    c.lesser-least.ensures
    ∙ (ap (λ n. lesser es after (option_copied c.loop-name.least) n) c.as_slice.ensures.value
    ∙ (ap (λ f. lesser es after f c.in-Some.name.now.items) c.loop-name.invariant
    ∙ (sym (least-end es after found names c.in-Some.name.now.items)
    ∙ ap (least es after found) (sym (names-end (map deref_pair c.loop-name.yielded) (c.in-Some.name.now, c.in-Some._value.now)) ∙ ap names_in (mapped-more deref_pair c.loop-name.yielded (c.in-Some.name, c.in-Some._value))))))

pub returns : goal.returns
returns c =
    let e : map deref_pair c.loop-name.yielded ≡ c.args.layer.now.slots.entries = search (rules, iter_end) in
    c.loop-name.invariant ∙ ap (λ l. least (terms_of c.args.layers.now) (option_copied c.args.after) (option_copied c.args.found) (names_in l)) e
