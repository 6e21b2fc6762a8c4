-- The law of the writer's text is false of wrong texts: no text reads back as two sets of quads.
use Rattle.std.proofs.Common.{◌≡◌, inl, inr, List, [], ◌∷◌, map, Option, Some, None, nat_lt, true, codes, refl, sym, ap, ◌∙◌, subst}
use Rattle.std.specs.List.{AllByRecursion, list_all}
use Rattle.std.specs.Str.{is_utf8, chars}
use lib.Utf8.{encode}
use Rattle.jl_model.specs.Iris.{IsIri, has_iri_form}
use Rattle.jl_model.specs.Parts.{Parts, parts_of, AreWellFormed, IsObject, xsd_string, rdf_lang_string}
use Rattle.jl_model.specs.declared.terms.Lit.{Lit}
use Rattle.jl_model.specs.declared.terms.Term.{Term}
use Rattle.jl_model.specs.declared.terms.Term.TheVariants.{Iri, Blank, Literal}
use Rattle.jl_model.specs.JsonTree.{Tree, scalar, array, object, no_item, item, Members, no_member, member}
use Rattle.jl_model.specs.JsonText.{Blanks, ValueText}
use Rattle.jl_model.specs.declared.codes.Code.TheVariants as code
use Rattle.jl_model.specs.declared.scalars.Scalar.TheVariants.{Str}
use Rattle.jl_defs.specs.Texts.{is_keyword}
use Rattle.jl_defs.specs.Canon.{string_text}
use Rattle.jl_defs.specs.IriExpansion.{expand_iri}
use Rattle.jl_defs.specs.Keys.{key_of}
use Rattle.jl_defs.specs.ObjectContexts.{fault, decide, final_context}
use Rattle.jl_defs.specs.Values.{literal_of, value_of}
use Rattle.jl_defs.specs.Kept.{keeps}
use Rattle.jl_defs.specs.Expansion.{expand}
use Rattle.jl_defs.specs.NodeMap.{term_of_text, node_map}
use Rattle.jl_defs.specs.MemberFaults.{closing_faults}
use Rattle.jl_defs.specs.Faults.{value_faults, faults}
use Rattle.jl_defs.specs.OpenText.{ReadsAs}
use Rattle.jl_defs.specs.Dataset.{link, item_quads, dataset}
use Rattle.jl_defs.specs.Documents.{Accepts, IsDataset}
use Rattle.jl_defs.specs.Sets.{SameSet}
use Rattle.jl_defs.specs.Texts.{Text}
use Rattle.jl_defs.specs.WriterText.{node_name, writer_text}
use Rattle.jl_token.proofs.OneReading.{one_reading}
use Rattle.jl_nquads.specs.Renamed.{renamed}
use Rattle.jl_writer.specs.Laws.{streaming, TextReadsBackBy}
use Rattle.jl_writer.proofs.GoodGroups.{apart, low_utf8}
use Rattle.jl_writer.proofs.Grouped.{id_key}
use Rattle.jl_writer.proofs.Readings.{and_then, unblank, string_read, array_read, object_read, items_end, first_item, members_end, first_member, next_member}
use Rattle.jl_writer.proofs.TextReadsBack.{text_reads_back}

-- a text has one dataset
one_dataset : (text : Text) (qs rs : List Parts) → IsDataset streaming text qs → IsDataset streaming text rs → SameSet qs rs
one_dataset text qs rs (t, (us, read), h) (u, (vs, other), k) =
    let same : t ≡ u = (one_reading 0 text t u us vs read other).0 in
    let k' = subst (λ t. SameSet rs (dataset streaming t)) (sym same) k in
    ((λ q has. k'.1 q (h.0 q has)), (λ q has. h.1 q (k'.0 q has)))

-- the text of other quads reads back only where they are the same
others_same : (change : List Parts → List Parts) (qs : List Parts) → TextReadsBackBy (λ qs. writer_text (change qs)) → AllByRecursion AreWellFormed qs → AllByRecursion AreWellFormed (change qs)
    → SameSet (map renamed (change qs)) (map renamed qs)
others_same change qs claim h k =
    one_dataset (writer_text (change qs)) (map renamed (change qs)) (map renamed qs) (text_reads_back (change qs) k).dataset (claim qs h).dataset

-- <http://a/s> <http://a/p> "x"@en <http://a/g> .
abbrev tagged : Lit
tagged = record { text = codes "x"; datatype = rdf_lang_string; language = Some (codes "en") }

abbrev quad : Parts
quad = parts_of (Iri (codes "http://a/s")) (codes "http://a/p") (Literal tagged) (Some (Iri (codes "http://a/g")))

http : (text : Text) → list_all (λ c. nat_lt c 128) text ≡ true → has_iri_form text ≡ true → IsIri text
http text low form = record { utf8 = low_utf8 text low; form = form }

quad_formed : AreWellFormed quad
quad_formed = record {
  subject = http (codes "http://a/s") refl refl;
  predicate = http (codes "http://a/p") refl refl;
  object = record { text = low_utf8 (codes "x") refl; datatype = http rdf_lang_string refl refl; language = (refl, refl) };
  graph = http (codes "http://a/g") refl refl;
}

-- where the text of a changed quad reads back, the change changes nothing
one_same : (change : Parts → Parts) → AreWellFormed (change quad) → TextReadsBackBy (λ qs. writer_text (map change qs)) → renamed (change quad) ≡ renamed quad
one_same change formed claim =
    elim ((others_same (map change) (quad ∷ []) claim (quad_formed, tt) (formed, tt)).0 (renamed (change quad)) (inl refl)) [
      | inl e ↦ sym e
      | inr none ↦ absurd none
    ]

-- a text that leaves everything out
nothing_written : TextReadsBackBy (λ qs. writer_text []) → ⊥
nothing_written claim = (others_same (λ qs. []) (quad ∷ []) claim (quad_formed, tt) tt).1 (renamed quad) (inl refl)

-- a text that forgets the graph
abbrev without_graph : Parts → Parts
without_graph q = parts_of q.subject q.predicate q.object None

graph_forgotten : TextReadsBackBy (λ qs. writer_text (map without_graph qs)) → ⊥
graph_forgotten claim =
    let e = one_same without_graph (record { subject = quad_formed.subject; predicate = quad_formed.predicate; object = quad_formed.object; graph = tt }) claim in
    let graph : None ≡ Some (Iri (codes "http://a/g")) = ap (λ q. q.graph) e in
    absurd cc

-- a text that forgets the language
abbrev without_language : Parts → Parts
without_language q = parts_of q.subject q.predicate (Literal (record { text = codes "x"; datatype = xsd_string; language = None })) q.graph

abbrev language_of : Term → Option Text
language_of (Literal lit) = lit.language
language_of (Iri iri) = None
language_of (Blank label) = None

language_forgotten : TextReadsBackBy (λ qs. writer_text (map without_language qs)) → ⊥
language_forgotten claim =
    let plain : IsObject (Literal (record { text = codes "x"; datatype = xsd_string; language = None })) = record { text = low_utf8 (codes "x") refl; datatype = http xsd_string refl refl; language = tt } in
    let e = one_same without_language (record { subject = quad_formed.subject; predicate = quad_formed.predicate; object = plain; graph = quad_formed.graph }) claim in
    let language : None ≡ Some (codes "en") = ap (λ q. language_of q.object) e in
    absurd cc

-- a text that names another subject
abbrev other_subject : Parts → Parts
other_subject q = parts_of (Iri (codes "http://a/g")) q.predicate q.object q.graph

subject_changed : TextReadsBackBy (λ qs. writer_text (map other_subject qs)) → ⊥
subject_changed claim =
    let e = one_same other_subject (record { subject = quad_formed.graph; predicate = quad_formed.predicate; object = quad_formed.object; graph = quad_formed.graph }) claim in
    apart (codes "http://a/g") (codes "http://a/s") refl (ap (λ q. node_name q.subject) e)

-- ---- a text that is out of form: its quad is right, but the identifier comes last

-- <http://a/s> <http://a/p> "x" .
abbrev plain_quad : Parts
plain_quad = parts_of (Iri (codes "http://a/s")) (codes "http://a/p") (Literal (record { text = codes "x"; datatype = xsd_string; language = None })) None

abbrev late_text : Text
late_text = codes "[{\"http://a/p\":[\"x\"],\"@id\":\"http://a/s\"}]\n"

abbrev late_members : Members
late_members = member 2 (codes "http://a/p") (array 15 (item (scalar 16 (Str (codes "x"))) no_item)) (member 21 id_key (scalar 27 (Str (codes "http://a/s"))) no_member)

abbrev late_tree : Tree
late_tree = array 0 (item (object 1 late_members) no_item)

late_read : ReadsAs late_text late_tree
unfolding string_text
late_read =
    let key = low_utf8 (codes "http://a/p") refl in
    let x = string_read 253 16 (codes "x") (low_utf8 (codes "x") refl) in
    let name = string_read 254 27 (codes "http://a/s") (low_utf8 (codes "http://a/s") refl) in
    let list = array_read 254 253 15 (item (scalar 16 (Str (codes "x"))) no_item) (codes "\"x\"]") refl (first_item 253 16 (scalar 16 (Str (codes "x"))) no_item (codes "\"x\"") (codes "]") x (items_end 253 19)) in
    let last = next_member 254 20 (codes "http://a/p" ∷ []) id_key (scalar 27 (Str (codes "http://a/s"))) no_member (codes "\"http://a/s\"") (codes "}") (low_utf8 id_key refl)
    (apart (codes "http://a/p") id_key refl, tt) name (members_end 254 39 (id_key ∷ codes "http://a/p" ∷ [])) in
    let node = object_read 255 254 1 late_members (codes "\"http://a/p\":[\"x\"],\"@id\":\"http://a/s\"}") refl
    (first_member 254 2 (codes "http://a/p") (array 15 (item (scalar 16 (Str (codes "x"))) no_item)) (member 21 id_key (scalar 27 (Str (codes "http://a/s"))) no_member) (codes "[\"x\"]") (codes ",\"@id\":\"http://a/s\"}") key list last) in
    let whole = array_read 256 255 0 (item (object 1 late_members) no_item) (codes "{\"http://a/p\":[\"x\"],\"@id\":\"http://a/s\"}]") refl
    (first_item 255 1 (object 1 late_members) no_item (codes "{\"http://a/p\":[\"x\"],\"@id\":\"http://a/s\"}") (codes "]") node (items_end 255 40)) in
    unblank _ 0 late_text (and_then (ValueText true 256 late_tree) Blanks 0 (codes "[{\"http://a/p\":[\"x\"],\"@id\":\"http://a/s\"}]") (codes "\n") whole
    ([], record { tokens_are = refl; blank = (inr (inr (inl refl)), tt) }))

-- its dataset is the quad
late_says : IsDataset streaming late_text (plain_quad ∷ [])
unfolding is_utf8 chars encode key_of expand_iri is_keyword final_context decide keeps literal_of value_of expand term_of_text node_map link item_quads dataset
late_says = (late_tree, late_read, ((λ q has. has), (λ q has. has)))

-- but it isn't accepted
late_faults : faults streaming late_tree ≡ fault code.LateIdentifier 21 ∷ []
unfolding key_of expand_iri is_keyword final_context decide keeps literal_of value_of closing_faults value_faults faults
late_faults = refl

late_refused : Accepts streaming late_text → ⊥
late_refused (t, (us, read), none) =
    let same : t ≡ late_tree = (one_reading 0 late_text t late_tree us late_read.0 read late_read.1).0 in
    let no : fault code.LateIdentifier 21 ∷ [] ≡ [] = sym late_faults ∙ ap (faults streaming) (sym same) ∙ none in
    absurd cc
