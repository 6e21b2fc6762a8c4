use Rattle.std.proofs.Common.{ap, sym, ◌∙◌, option_map}
use Rattle.std.specs.Option.{option_copied}
use Rattle.jl_context.specs.Layers.{layers_in}
use Rattle.jl_context.specs.NextTerms.{named}
use Rattle.jl_context.proofs.NextLemmas.{next-term, next-nothing}
use Rattle.jl_context.proofs.next_terms.next_in.Goals as goal

pub returns-in-Some : goal.returns-in-Some
returns-in-Some c =
    c.beside.ensures
    ∙ (ap (option_map (named c.in-Some.name.now)) c.find.ensures
    ∙ next-term (layers_in c.args.layers.now) (option_copied c.args.after) c.in-Some.name.now (sym c.least_name.ensures ∙ ap option_copied c.in-Some.is))

pub returns-in-None : goal.returns-in-None
returns-in-None c =
    sym (next-nothing (layers_in c.args.layers.now) (option_copied c.args.after) (sym c.least_name.ensures ∙ ap option_copied c.in-None.is))
