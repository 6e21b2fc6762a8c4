-- Quads are left out where a part isn't well-formed, and the terms of texts.
use Rattle.std.proofs.Common.{◌≡◌, refl, sym, ◌∙◌, ap, Bool, true, false, ◌&&◌, [], ◌∷◌, inl, inr, Option, Some, None, Result, Ok, Err, IfOk, IsSome, IsTrue, IsUtf8, ◌↔◌, subst}
use Rattle.std.proofs.lemmas.Bool.{cases_Bool, and_from, and_parts}
use Rattle.std.proofs.lemmas.Str.{IsUtf8-from_is_utf8, is_utf8-from_IsUtf8}
use Rattle.std.proofs.lemmas.Slice.Eq.{bytes_eq-Decides}
use Rattle.std.specs.Prelude.{bytes_eq}
use Rattle.std.specs.Str.{is_utf8}
use Rattle.jl_model.specs.Iris.{IsIri, has_iri_form}
use Rattle.jl_model.specs.Tags.{is_language_tag}
use Rattle.jl_model.specs.Parts.{Parts, parts_of, plain, rdf_lang_string, IsNode, IsLanguage, IsLit, IsObject, IsGraph, AreWellFormed, with_object}
use Rattle.jl_model.specs.declared.terms.Lit.{Lit}
use Rattle.jl_model.specs.declared.terms.Term.{Term}
use Rattle.jl_model.specs.declared.terms.Term.TheVariants.{Iri, Blank, Literal}
use Rattle.jl_defs.specs.Texts.{Text, is_iri}
use Rattle.jl_frames.specs.Formed.{is_node, is_language, is_lit, is_object, is_graph, is_formed, formed, IsReady}
use Rattle.jl_frames.specs.Nodes.{quad_with}

iri-is : (text : Text) → IsIri text → is_iri text ≡ true
iri-is text h = and_from (has_iri_form text) (is_utf8 text) h.form (is_utf8-from_IsUtf8 text h.utf8)

is-iri : (text : Text) → is_iri text ≡ true → IsIri text
is-iri text e = let parts = and_parts (has_iri_form text) (is_utf8 text) e in record { utf8 = IsUtf8-from_is_utf8 text parts.1; form = parts.0 }

-- the two ways to say that a text is an IRI
pub test_is_iri : (test : Bool) (text : Text) → (IsTrue test ↔ IsIri text) → test ≡ is_iri text
test_is_iri true text same = sym (iri-is text (same.0 refl))
test_is_iri false text same = elim (cases_Bool (is_iri text)) [ inl e ↦ same.1 (is-iri text e) ∙ sym e | inr e ↦ sym e ]

-- the two ways to say that a text is UTF-8
pub test_is_utf8 : (test : Bool) (text : Text) → (IsTrue test ↔ IsUtf8 text) → test ≡ is_utf8 text
test_is_utf8 true text same = sym (is_utf8-from_IsUtf8 text (same.0 refl))
test_is_utf8 false text same = elim (cases_Bool (is_utf8 text)) [ inl e ↦ same.1 (IsUtf8-from_is_utf8 text e) ∙ sym e | inr e ↦ sym e ]

node-is : (t : Term) → IsNode t → is_node t ≡ true
node-is (Iri iri) h = iri-is iri h
node-is (Blank label) h = h
node-is (Literal lit) h = absurd h

is-node : (t : Term) → is_node t ≡ true → IsNode t
is-node (Iri iri) e = is-iri iri e
is-node (Blank label) e = e
is-node (Literal lit) e = absurd cc

language-is : (datatype : Text) (l : Option Text) → IsLanguage datatype l → is_language datatype l ≡ true
language-is datatype None h = refl
language-is datatype (Some tag) h = and_from (is_language_tag tag) (bytes_eq datatype rdf_lang_string) h.0 ((bytes_eq-Decides datatype rdf_lang_string).1 h.1)

is-language : (datatype : Text) (l : Option Text) → is_language datatype l ≡ true → IsLanguage datatype l
is-language datatype None e = tt
is-language datatype (Some tag) e =
    let parts = and_parts (is_language_tag tag) (bytes_eq datatype rdf_lang_string) e in (parts.0, (bytes_eq-Decides datatype rdf_lang_string).0 parts.1)

lit-is : (lit : Lit) → IsLit lit → is_lit lit ≡ true
lit-is lit h =
    and_from (is_utf8 lit.text) (is_iri lit.datatype && is_language lit.datatype lit.language) (is_utf8-from_IsUtf8 lit.text h.text)
    (and_from (is_iri lit.datatype) (is_language lit.datatype lit.language) (iri-is lit.datatype h.datatype) (language-is lit.datatype lit.language h.language))

is-lit : (lit : Lit) → is_lit lit ≡ true → IsLit lit
is-lit lit e =
    let outer = and_parts (is_utf8 lit.text) (is_iri lit.datatype && is_language lit.datatype lit.language) e in
    let inner = and_parts (is_iri lit.datatype) (is_language lit.datatype lit.language) outer.1 in
    record { text = IsUtf8-from_is_utf8 lit.text outer.0; datatype = is-iri lit.datatype inner.0; language = is-language lit.datatype lit.language inner.1 }

object-is : (t : Term) → IsObject t → is_object t ≡ true
object-is (Iri iri) h = iri-is iri h
object-is (Blank label) h = h
object-is (Literal lit) h = lit-is lit h

is-object : (t : Term) → is_object t ≡ true → IsObject t
is-object (Iri iri) e = is-iri iri e
is-object (Blank label) e = e
is-object (Literal lit) e = is-lit lit e

graph-is : (g : Option Term) → IsGraph g → is_graph g ≡ true
graph-is None h = refl
graph-is (Some t) h = node-is t h

is-graph : (g : Option Term) → is_graph g ≡ true → IsGraph g
is-graph None e = tt
is-graph (Some t) e = is-node t e

formed-is : (q : Parts) → AreWellFormed q → is_formed q ≡ true
unfolding is_formed
formed-is q h =
    and_from (is_node q.subject) (is_iri q.predicate && (is_object q.object && is_graph q.graph)) (node-is q.subject h.subject)
    (and_from (is_iri q.predicate) (is_object q.object && is_graph q.graph) (iri-is q.predicate h.predicate)
    (and_from (is_object q.object) (is_graph q.graph) (object-is q.object h.object) (graph-is q.graph h.graph)))

is-formed : (q : Parts) → is_formed q ≡ true → AreWellFormed q
unfolding is_formed
is-formed q e =
    let s = and_parts (is_node q.subject) (is_iri q.predicate && (is_object q.object && is_graph q.graph)) e in
    let p = and_parts (is_iri q.predicate) (is_object q.object && is_graph q.graph) s.1 in
    let o = and_parts (is_object q.object) (is_graph q.graph) p.1 in
    record { subject = is-node q.subject s.0; predicate = is-iri q.predicate p.0; object = is-object q.object o.0; graph = is-graph q.graph o.1 }

-- a quad that can be made is kept, and one that can't isn't
pub kept : (q made : Parts) → AreWellFormed q → made ≡ q → made ∷ [] ≡ formed (q ∷ [])
kept q made h e = ap (λ x. x ∷ []) e ∙ sym (rw (formed-is q h) refl)

pub left_out : (q : Parts) → (AreWellFormed q → ⊥) → [] ≡ formed (q ∷ [])
left_out q h = elim (cases_Bool (is_formed q)) [ inl e ↦ absurd (h (is-formed q e)) | inr e ↦ sym (rw e refl) ]

-- a quad without one of its parts is left out
pub subject_out : (s : Term) (p : Text) (g : Option Term) → (IsNode s → ⊥) → (o : Term) → [] ≡ formed (parts_of s p o g ∷ [])
subject_out s p g h o = left_out (parts_of s p o g) (λ w. h w.subject)

pub predicate_out : (s : Term) (p : Text) (g : Option Term) → (IsIri p → ⊥) → (o : Term) → [] ≡ formed (parts_of s p o g ∷ [])
predicate_out s p g h o = left_out (parts_of s p o g) (λ w. h w.predicate)

pub graph_out : (s : Term) (p : Text) (g : Option Term) → (IsGraph g → ⊥) → (o : Term) → [] ≡ formed (parts_of s p o g ∷ [])
graph_out s p g h o = left_out (parts_of s p o g) (λ w. h w.graph)

pub object_out : (q : Parts) (o : Term) → (IsObject o → ⊥) → [] ≡ formed (with_object q o ∷ [])
object_out q o h = left_out (with_object q o) (λ w. h w.object)

pub text_out : (q : Parts) (text : Text) → (IsUtf8 text → ⊥) → [] ≡ formed (with_object q (Literal (plain text)) ∷ [])
text_out q text h = left_out (with_object q (Literal (plain text))) (λ w. h (w.object).text)

-- a quad that lacked only its object
pub ready_with : (q : Parts) (s : Term) (p : Text) (g : Option Term) (o : Term) → q ≡ parts_of s p q.object g → formed (with_object q o ∷ []) ≡ quad_with s p (Some o) g
ready_with q s p g o e = ap (λ x. formed (with_object x o ∷ [])) e

-- where other parts aren't well-formed there is no quad, whatever the object
pub unready : (s : Term) (p : Text) (o : Option Term) (g : Option Term) → ((x : Term) → [] ≡ formed (parts_of s p x g ∷ [])) → [] ≡ quad_with s p o g
unready s p None g h = refl
unready s p (Some o) g h = h o

-- parts that were set after one that stood
pub rest_set : (b : Bool) (q : Parts) (s t : Term) (p r : Text) (g : Option Term) → IsReady b q s p g → s ≡ t → p ≡ r → IsReady b q t r g
rest_set b q s t p r g h e f = subst (λ x. IsReady b q x r g) e (subst (λ x. IsReady b q s x g) f h)

-- the name of a node may stand as an object
node_object : (t : Term) → IsNode t → IsObject t
node_object (Iri iri) h = h
node_object (Blank label) h = h
node_object (Literal lit) h = absurd h

-- a quad that couldn't be made with its subject as the object can't be made with any
pub unmade : (s o : Term) (p : Text) (g : Option Term) → o ≡ s → (IsSome {T = Parts} None ↔ AreWellFormed (parts_of s p o g)) → (x : Term) → [] ≡ formed (parts_of s p x g ∷ [])
unmade s o p g e same x =
    left_out (parts_of s p x g) (λ w. absurd (let no = same.1 (record { subject = w.subject; predicate = w.predicate; object = subst IsObject (sym e) (node_object s w.subject); graph = w.graph }) in cc))
