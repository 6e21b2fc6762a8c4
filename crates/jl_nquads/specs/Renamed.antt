-- Quads whose labels of blank nodes are renamed, as a reader of their lines renames them.
use Rattle.std.specs.Prelude.{Option, Some, None}
use Rattle.jl_model.specs.Parts.{Parts, parts_of}
use Rattle.jl_model.specs.Ren.{ren}
use Rattle.jl_model.specs.declared.terms.Term.{Term}
use Rattle.jl_model.specs.declared.terms.Term.TheVariants.{Iri, Blank, Literal}

-- the term; a blank node has its new label
abbrev pub renamed_term : Term → Term
renamed_term (Iri iri) = Iri iri
renamed_term (Blank label) = Blank (ren label)
renamed_term (Literal lit) = Literal lit

-- the name of a graph, where there is one
abbrev pub renamed_graph : Option Term → Option Term
renamed_graph None = None
renamed_graph (Some graph) = Some (renamed_term graph)

-- the quad, with each of its labels renamed
abbrev pub renamed : Parts → Parts
renamed q = parts_of (renamed_term q.subject) q.predicate (renamed_term q.object) (renamed_graph q.graph)
