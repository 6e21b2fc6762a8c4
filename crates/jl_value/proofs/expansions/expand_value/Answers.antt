use Rattle.std.proofs.Common.{ap, ◌∙◌, option_map}
use Rattle.jl_defs.specs.TermDefs.{term_of}
use Rattle.jl_defs.specs.Values as spec
use Rattle.jl_value.specs.Answers.{value_under}
use Rattle.jl_value.proofs.ByTerm.{value_of-under, given-same, stops-same}
use Rattle.jl_value.proofs.expansions.expand_value.Goals as goal

pub returns-clause-made : goal.returns-clause-made
returns-clause-made c =
    given-same c.expand_under.result (value_under c.args.context.now (option_map (λ d. term_of d.now) c.term.result) c.args.value.now) (spec.value_of c.args.context.now c.args.property.now c.args.value.now)
    (ap (λ t. value_under c.args.context.now t c.args.value.now) c.term.ensures ∙ value_of-under c.args.context.now c.args.property.now c.args.value.now)
    c.expand_under.ensures.made

pub returns-clause-refused : goal.returns-clause-refused
returns-clause-refused c =
    stops-same c.expand_under.result (value_under c.args.context.now (option_map (λ d. term_of d.now) c.term.result) c.args.value.now) (spec.value_of c.args.context.now c.args.property.now c.args.value.now)
    (ap (λ t. value_under c.args.context.now t c.args.value.now) c.term.ensures ∙ value_of-under c.args.context.now c.args.property.now c.args.value.now)
    c.expand_under.ensures.refused
