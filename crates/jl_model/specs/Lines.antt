-- The line of a quad (RDF 1.1 N-Quads, sections 2 and 3).
use Rattle.std.specs.Prelude.{ℕ, ◌==◌, List, [], ◌∷◌, ◌++◌, Option, Some, None, codes, flat_map, if◌then◌else◌}
use Rattle.std.specs.Str.{bytes_eq}
use Rattle.jl_model.specs.Parts.{Parts, xsd_string}
use Rattle.jl_model.specs.declared.terms.Lit.{Lit}
use Rattle.jl_model.specs.declared.terms.Term.{Term}
use Rattle.jl_model.specs.declared.terms.Term.TheVariants.{Iri, Blank, Literal}

-- a byte of a literal as it is written: quote, backslash, line feed and carriage return are escaped (ECHAR)
abbrev pub escaped : ℕ → List ℕ
escaped c =
    if c == 34 then codes "\\\""
    else (if c == 92 then codes "\\\\"
    else (if c == 10 then codes "\\n"
    else (if c == 13 then codes "\\r" else c ∷ [])))

-- an IRI in its brackets (IRIREF)
abbrev pub iri_text : List ℕ → List ℕ
iri_text iri = codes "<" ++ iri ++ codes ">"

-- what follows a literal's string: nothing for xsd:string, `@` and a language tag, or `^^` and a datatype
abbrev pub suffix_text : List ℕ → Option (List ℕ) → List ℕ
suffix_text datatype (Some tag) = codes "@" ++ tag
suffix_text datatype None = if bytes_eq datatype xsd_string then [] else codes "^^" ++ iri_text datatype

-- a literal
abbrev pub lit_text : Lit → List ℕ
lit_text lit = codes "\"" ++ flat_map escaped lit.text ++ codes "\"" ++ suffix_text lit.datatype lit.language

-- a term
abbrev pub term_text : Term → List ℕ
term_text (Iri iri) = iri_text iri
term_text (Blank label) = codes "_:" ++ label
term_text (Literal lit) = lit_text lit

-- a text and the space behind it
abbrev pub spaced : List ℕ → List ℕ
spaced text = text ++ codes " "

-- a graph, or nothing for the default graph
abbrev pub graph_text : Option Term → List ℕ
graph_text None = []
graph_text (Some graph) = spaced (term_text graph)

-- subject, predicate, object and graph, each with a space behind it, and then a dot and a line feed
abbrev pub line : Parts → List ℕ
line q = spaced (term_text q.subject) ++ spaced (iri_text q.predicate) ++ spaced (term_text q.object) ++ graph_text q.graph ++ codes ".\n"
