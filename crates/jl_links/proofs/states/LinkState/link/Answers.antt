use Rattle.std.proofs.Common.{sym, subst, Some, IfOk}
use Rattle.jl_defs.specs.Dataset.{link}
use Rattle.jl_links.specs.Links.{IsWritten, by_head, hangs_by}
use Rattle.jl_links.proofs.Cells.{rest_iri}
use Rattle.jl_links.proofs.states.LinkState.link.Goals as goal

pub on_cell-requires : goal.on_cell-requires
on_cell-requires c = rest_iri

pub returns-in-Cell : goal.returns-in-Cell
returns-in-Cell c = subst (λ g. IfOk c.on_cell.result (λ quad. IsWritten quad (by_head (hangs_by g c.args.self.now.scope) (λ h. link h (Some c.args.object))))) (sym c.in-Cell.is) c.on_cell.ensures
