use Rattle.std.proofs.Common.{sym, subst, Some, IfOk}
use Rattle.jl_defs.specs.Dataset.{link, cell_head, rdf_first}
use Rattle.jl_links.specs.Links.{IsWritten, by_head, hangs_by, term_says}
use Rattle.jl_links.proofs.Cells.{first_iri}
use Rattle.jl_links.proofs.states.LinkState.item_quad.Goals as goal

pub on_cell-requires : goal.on_cell-requires
on_cell-requires c = first_iri

pub on_cell-requires-in-Cell : goal.on_cell-requires-in-Cell
on_cell-requires-in-Cell c = first_iri

pub returns-in-Head : goal.returns-in-Head
returns-in-Head c =
    subst (λ i. IfOk c.on_cell.result (λ quad. IsWritten quad (term_says c.args.self.now c.args.at i))) (sym c.in-Some.is)
    (subst (λ g. IfOk c.on_cell.result (λ quad. IsWritten quad (by_head (hangs_by g c.args.self.now.scope) (λ h. link (cell_head h.scope c.args.at rdf_first) (Some c.in-Some.item))))) (sym c.in-Head.is) c.on_cell.ensures)

pub returns-in-Cell : goal.returns-in-Cell
returns-in-Cell c =
    subst (λ i. IfOk c.on_cell-in-Cell.result (λ quad. IsWritten quad (term_says c.args.self.now c.args.at i))) (sym c.in-Some.is)
    (subst (λ g. IfOk c.on_cell-in-Cell.result (λ quad. IsWritten quad (by_head (hangs_by g c.args.self.now.scope) (λ h. link (cell_head h.scope c.args.at rdf_first) (Some c.in-Some.item))))) (sym c.in-Cell.is) c.on_cell-in-Cell.ensures)
