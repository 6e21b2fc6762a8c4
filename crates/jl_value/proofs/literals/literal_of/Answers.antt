use Rattle.std.proofs.Common.{ap, sym, ◌∙◌, codes, if◌then◌else◌}
use Rattle.std.specs.Option.{option_copied}
use Rattle.jl_defs.specs.Values as spec
use Rattle.jl_value.specs.Answers.{string_literal}
use Rattle.jl_value.proofs.ByKind.{made-same, refused-same, literal_of-null, literal_of-boolean, literal_of-number, literal_of-string}
use Rattle.jl_value.proofs.literals.literal_of.Goals as goal

pub returns-in-Null-clause-made : goal.returns-in-Null-clause-made
returns-in-Null-clause-made c =
    literal_of-null (option_copied c.args.datatype) (option_copied c.args.language)
    ∙ ap (λ v. spec.literal_of v (option_copied c.args.datatype) (option_copied c.args.language)) (sym c.in-Null.is)

pub returns-in-Bool-clause-made : goal.returns-in-Bool-clause-made
returns-in-Bool-clause-made c =
    made-same c.plain.result (spec.plain c.boolean_text.result.now c.type_or.result.now) (spec.literal_of c.args.value.now (option_copied c.args.datatype) (option_copied c.args.language))
    (ap (λ t. spec.plain t c.type_or.result.now) c.boolean_text.ensures
    ∙ ap (λ d. spec.plain (if c.in-Bool.value then codes "true" else codes "false") d) c.type_or.ensures
    ∙ ap (λ n. spec.plain (if c.in-Bool.value then codes "true" else codes "false") (spec.type_or (option_copied c.args.datatype) n)) c.xsd_boolean.ensures
    ∙ literal_of-boolean c.in-Bool.value (option_copied c.args.datatype) (option_copied c.args.language)
    ∙ ap (λ v. spec.literal_of v (option_copied c.args.datatype) (option_copied c.args.language)) (sym c.in-Bool.is))
    c.plain.ensures.made

pub returns-in-Number-clause-made : goal.returns-in-Number-clause-made
returns-in-Number-clause-made c =
    made-same c.number.result (spec.number_literal c.bytes.result.now c.type_or-in-Number.result.now) (spec.literal_of c.args.value.now (option_copied c.args.datatype) (option_copied c.args.language))
    (ap (λ t. spec.number_literal t c.type_or-in-Number.result.now) c.bytes.ensures
    ∙ ap (λ d. spec.number_literal c.in-Number.token d) c.type_or-in-Number.ensures
    ∙ ap (λ n. spec.number_literal c.in-Number.token (spec.type_or (option_copied c.args.datatype) n)) c.xsd_integer.ensures
    ∙ literal_of-number c.in-Number.token (option_copied c.args.datatype) (option_copied c.args.language)
    ∙ ap (λ v. spec.literal_of v (option_copied c.args.datatype) (option_copied c.args.language)) (sym c.in-Number.is))
    c.number.ensures.made

pub returns-in-Number-clause-refused : goal.returns-in-Number-clause-refused
returns-in-Number-clause-refused c =
    refused-same c.number.result (spec.number_literal c.bytes.result.now c.type_or-in-Number.result.now) (spec.literal_of c.args.value.now (option_copied c.args.datatype) (option_copied c.args.language))
    (ap (λ t. spec.number_literal t c.type_or-in-Number.result.now) c.bytes.ensures
    ∙ ap (λ d. spec.number_literal c.in-Number.token d) c.type_or-in-Number.ensures
    ∙ ap (λ n. spec.number_literal c.in-Number.token (spec.type_or (option_copied c.args.datatype) n)) c.xsd_integer.ensures
    ∙ literal_of-number c.in-Number.token (option_copied c.args.datatype) (option_copied c.args.language)
    ∙ ap (λ v. spec.literal_of v (option_copied c.args.datatype) (option_copied c.args.language)) (sym c.in-Number.is))
    c.number.ensures.refused

pub returns-in-Str-clause-made : goal.returns-in-Str-clause-made
returns-in-Str-clause-made c =
    made-same c.string.result (string_literal c.bytes-in-Str.result.now (option_copied c.args.datatype) (option_copied c.args.language)) (spec.literal_of c.args.value.now (option_copied c.args.datatype) (option_copied c.args.language))
    (ap (λ t. string_literal t (option_copied c.args.datatype) (option_copied c.args.language)) c.bytes-in-Str.ensures
    ∙ literal_of-string c.in-Str.text (option_copied c.args.datatype) (option_copied c.args.language)
    ∙ ap (λ v. spec.literal_of v (option_copied c.args.datatype) (option_copied c.args.language)) (sym c.in-Str.is))
    c.string.ensures.made
