-- Quads whose parts are well-formed: the others are left out (JSON-LD 1.1 API, section 8.1).
use Rattle.std.specs.Prelude.{◌≡◌, Bool, true, false, ◌&&◌, List, [], ◌∷◌, filter, Option, Some, None, bytes_eq}
use Rattle.std.specs.Str.{is_utf8}
use Rattle.jl_model.specs.Labels.{is_kept_label}
use Rattle.jl_model.specs.Tags.{is_language_tag}
use Rattle.jl_model.specs.Parts.{Parts, parts_of, rdf_lang_string}
use Rattle.jl_model.specs.declared.terms.Lit.{Lit}
use Rattle.jl_model.specs.declared.terms.Term.{Term}
use Rattle.jl_model.specs.declared.terms.Term.TheVariants.{Iri, Blank, Literal}
use Rattle.jl_defs.specs.Texts.{Text, is_iri}

-- what there is, as a list: nothing, or one
abbrev pub listed : {A : Type 0} → Option A → List A
listed None = []
listed (Some x) = x ∷ []

abbrev pub is_node : Term → Bool
is_node (Iri iri) = is_iri iri
is_node (Blank label) = is_kept_label label
is_node (Literal lit) = false

abbrev pub is_language : Text → Option Text → Bool
is_language datatype None = true
is_language datatype (Some tag) = is_language_tag tag && bytes_eq datatype rdf_lang_string

abbrev pub is_lit : Lit → Bool
is_lit lit = is_utf8 lit.text && (is_iri lit.datatype && is_language lit.datatype lit.language)

abbrev pub is_object : Term → Bool
is_object (Iri iri) = is_iri iri
is_object (Blank label) = is_kept_label label
is_object (Literal lit) = is_lit lit

abbrev pub is_graph : Option Term → Bool
is_graph None = true
is_graph (Some g) = is_node g

-- each part is well-formed
unfoldable pub is_formed : Parts → Bool
is_formed q = is_node q.subject && (is_iri q.predicate && (is_object q.object && is_graph q.graph))

-- those of the quads that are well-formed
abbrev pub formed : List Parts → List Parts
formed quads = filter is_formed quads

-- a quad that lacks only its object has these other parts, where they are well-formed
abbrev pub IsReady : Bool → Parts → Term → Text → Option Term → Type 0
IsReady true q s p g = q ≡ parts_of s p q.object g
IsReady false q s p g = (o : Term) → [] ≡ formed (parts_of s p o g ∷ [])

-- the same of a quad that is there only then
abbrev pub AllReady : Option Parts → Term → Text → Option Term → Type 0
AllReady (Some q) s p g = IsReady true q s p g
AllReady None s p g = (o : Term) → [] ≡ formed (parts_of s p o g ∷ [])
