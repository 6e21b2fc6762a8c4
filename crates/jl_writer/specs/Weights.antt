-- How much a writer holds.
use Rattle.std.specs.Prelude.{ℕ, ◌+◌, List, [], ◌∷◌, ◌++◌, length, Option, Some, None}
use Rattle.jl_model.specs.declared.terms.Term.{Term}
use Rattle.jl_model.specs.declared.terms.Term.TheVariants.{Iri, Blank, Literal}
use Rattle.jl_defs.specs.Texts.{Text}
use Rattle.jl_defs.specs.WriterText.{OpenNode}

-- the bytes of texts, and 8 for each
abbrev pub texts_weight : List Text → ℕ
texts_weight [] = 0
texts_weight (text ∷ texts) = 8 + length text + texts_weight texts

abbrev pub tag_weight : Option Text → ℕ
tag_weight None = 0
tag_weight (Some tag) = length tag

-- the bytes of a term's texts
abbrev pub term_weight : Term → ℕ
term_weight (Iri iri) = length iri
term_weight (Blank label) = length label
term_weight (Literal lit) = length lit.text + length lit.datatype + tag_weight lit.language

abbrev pub graph_weight : Option Term → ℕ
graph_weight None = 0
graph_weight (Some graph) = term_weight graph

-- the bytes of the graph and of the subject, and those of the predicates with 8 for each
abbrev pub node_weight : Option OpenNode → ℕ
node_weight None = 0
node_weight (Some n) = graph_weight n.graph + term_weight n.subject + texts_weight n.used

abbrev pub term_texts : Term → List Text
term_texts (Iri iri) = iri ∷ []
term_texts (Blank label) = label ∷ []
term_texts (Literal lit) = tagged lit.language
  where
    tagged : Option Text → List Text
    tagged None = lit.text ∷ lit.datatype ∷ []
    tagged (Some tag) = lit.text ∷ lit.datatype ∷ tag ∷ []

abbrev pub graph_texts : Option Term → List Text
graph_texts None = []
graph_texts (Some graph) = term_texts graph

-- the texts of the node that is open
abbrev pub node_texts : Option OpenNode → List Text
node_texts None = []
node_texts (Some n) = graph_texts n.graph ++ (term_texts n.subject ++ n.used)
