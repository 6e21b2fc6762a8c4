use Rattle.std.proofs.Common.{sym, subst, Some}
use Rattle.jl_defs.specs.Dataset.{link}
use Rattle.jl_links.specs.Links.{IsWritten, by_head, hangs}
use Rattle.jl_links.proofs.Cells.{end_says}
use Rattle.jl_links.proofs.states.LinkState.end.Goals as goal

pub returns : goal.returns
returns c =
    subst (IsWritten c.in_ok-quad.quad) (sym (end_says c.args.self.now))
    (subst (λ t. IsWritten c.in_ok-quad.quad (by_head (hangs c.args.self.now) (λ h. link h (Some t)))) c.in_ok-nil.ensures c.in_ok-quad.ensures)
