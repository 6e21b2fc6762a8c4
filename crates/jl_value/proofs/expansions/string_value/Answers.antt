use Rattle.std.proofs.Common.{ap, sym, ◌∙◌, Some, None, option_map}
use Rattle.std.specs.Option.{option_copied}
use Rattle.jl_defs.specs.TermDefs.{term_of}
use Rattle.jl_defs.specs.Values as spec
use Rattle.jl_value.specs.Answers.{string_literal}
use Rattle.jl_value.specs.TermKinds.{kind_in}
use Rattle.jl_value.proofs.ByTerm.{given-same, string_value-native, string_value-typed}
use Rattle.jl_value.proofs.expansions.string_value.Goals as goal

pub returns-in-Native-clause-made : goal.returns-in-Native-clause-made
returns-in-Native-clause-made c =
    let under = option_map (λ d. term_of d.now) c.args.term in
    given-same c.literal_value.result (string_literal c.args.text.now None (option_copied c.language_under.result)) (spec.string_value c.args.context.now under c.args.text.now)
    (string_value-native c.args.context.now under c.args.text.now (option_copied c.language_under.result) c.language_under.ensures (sym (ap kind_in c.in-Native.is) ∙ c.of.ensures))
    c.literal_value.ensures.made

pub returns-in-Datatype-clause-made : goal.returns-in-Datatype-clause-made
returns-in-Datatype-clause-made c =
    let under = option_map (λ d. term_of d.now) c.args.term in
    given-same c.literal_value-in-Datatype.result (string_literal c.args.text.now (Some c.in-Datatype.datatype.now) None) (spec.string_value c.args.context.now under c.args.text.now)
    (string_value-typed c.args.context.now under c.args.text.now c.in-Datatype.datatype.now (sym (ap kind_in c.in-Datatype.is) ∙ c.of.ensures))
    c.literal_value-in-Datatype.ensures.made
