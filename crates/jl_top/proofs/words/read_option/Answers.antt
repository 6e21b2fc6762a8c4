use Rattle.std.proofs.Common.{sym, ◌∙◌, ap, Some, None}
use Rattle.std.specs.Option.{option_copied}
use Rattle.jl_top.proofs.Options.{split_read}
use Rattle.jl_top.proofs.words.read_option.Goals as goal

pub returns-in-Some-clause-settings : goal.returns-in-Some-clause-settings
returns-in-Some-clause-settings c =
    c.set_then.ensures.settings
    ∙ split_read c.split_at_equals.result.name.now (Some c.in-Some.value.now) c.args.word.now c.bytes.result.now c.args.behind.now c.args.options.streaming (option_copied c.args.options.base)
    (ap (λ v. record { name = c.split_at_equals.result.name.now; value = option_copied v }) (sym c.in-Some.is) ∙ c.split_at_equals.ensures) c.bytes.ensures

pub returns-in-None-clause-settings : goal.returns-in-None-clause-settings
returns-in-None-clause-settings c =
    c.read_value.ensures.settings
    ∙ split_read c.split_at_equals.result.name.now None c.args.word.now c.bytes.result.now c.args.behind.now c.args.options.streaming (option_copied c.args.options.base)
    (ap (λ v. record { name = c.split_at_equals.result.name.now; value = option_copied v }) (sym c.in-None.is) ∙ c.split_at_equals.ensures) c.bytes.ensures
