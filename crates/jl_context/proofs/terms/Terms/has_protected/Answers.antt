use Rattle.std.proofs.Common.{ap, ◌∙◌, nat_lt}
use Rattle.std.specs.List.{list_any}
use Rattle.jl_context.specs.Layers.{terms_of}
use Rattle.jl_defs.specs.Process.{is_protected}
use Rattle.jl_context.proofs.TermSums.{count-any}
use Rattle.jl_context.proofs.terms.Terms.has_protected.Goals as goal

pub returns : goal.returns
returns c = ap (nat_lt 0) c.self.invariant.sums.protected ∙ (count-any is_protected (terms_of c.self.inside.layers.items) ∙ ap (list_any is_protected) c.self.view_is)
