use Rattle.std.proofs.Common.{◌∙◌}
use Rattle.jl_nquads.proofs.PartReads.{plain_suffix}
use Rattle.jl_nquads.proofs.objects.read_suffix.Goals as goal

pub returns-in_ok-no_suffix-in_default : goal.returns-in_ok-no_suffix-in_default
returns-in_ok-no_suffix-in_default c = plain_suffix c.args.text.now c.in_ok-no_suffix-in_default.field-0 c.in_ok-no_suffix-in_default.ensures (λ i. c.in_default.not-Carets (c.next_of.ensures ∙ i)) (λ i. c.in_default.not-Tag (c.next_of.ensures ∙ i))
