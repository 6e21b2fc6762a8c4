use Rattle.std.proofs.Common.{ap, ◌∙◌, nat_lt}
use Rattle.std.specs.List.{list_any}
use Rattle.jl_context.specs.Layers.{terms_of}
use Rattle.jl_context.specs.Counted.{is_scoped}
use Rattle.jl_context.proofs.TermSums.{count-any}
use Rattle.jl_context.proofs.terms.Terms.has_scoped.Goals as goal

pub returns : goal.returns
returns c = ap (nat_lt 0) c.self.invariant.sums.scoped ∙ (count-any is_scoped (terms_of c.self.inside.layers.items) ∙ ap (list_any is_scoped) c.self.view_is)
