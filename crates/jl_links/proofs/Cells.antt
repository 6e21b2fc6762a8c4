-- What the definitions say of cells, step by step.
use Rattle.std.proofs.Common.{◌≡◌, ◌↔◌, ℕ, Bool, true, false, refl, sym, ap, subst, ◌∙◌, ◌⊎◌, inl, inr, IsTrue, List, [], ◌∷◌, ◌++◌, Option, Some, None}
use Rattle.std.proofs.lemmas.Bool.{cases_Bool, and_from, and_parts}
use Rattle.std.proofs.lemmas.Str.{IsUtf8-from_is_utf8, is_utf8-from_IsUtf8}
use Rattle.std.specs.Str.{is_utf8}
use Rattle.jl_model.specs.Iris.{IsIri, has_iri_form}
use Rattle.jl_model.specs.Parts.{Parts}
use Rattle.jl_model.specs.declared.terms.Term.{Term}
use Rattle.jl_model.specs.declared.terms.Term.TheVariants.{Iri, Blank, Literal}
use Rattle.jl_model.specs.declared.graph_scopes.GraphScope.{GraphScope}
use Rattle.jl_model.specs.declared.graph_scopes.GraphScope.TheVariants.{LeftOut, Main, Named}
use Rattle.jl_defs.specs.Texts.{Text, is_iri}
use Rattle.jl_defs.specs.Items.{Item, value_at, list_at, node_at, Items, no_more, more, item_place}
use Rattle.jl_defs.specs.Dataset.{Head, link, with_terms, turned, quad_in, is_whole, term_of, cell_at, cell_head, item_quads, list_quads, rdf_first, rdf_rest, rdf_nil}
use Rattle.jl_links.specs.declared.states.LinkState.{LinkState}
use Rattle.jl_links.specs.Links.{head, IsWritten, IsIn, IsLeaf, hangs, by_head, item_says, term_says, still_says}

-- a literal is no subject
no_subject : (quad : Option Parts) (scope : GraphScope) (s : Term) (p : Text) (o : Term) → IsWritten quad (quad_in scope s p o) → IsWritten quad (turned true scope s p o)
no_subject quad scope (Iri iri) p o w = w
no_subject quad scope (Blank label) p o w = w
no_subject quad LeftOut (Literal lit) p o w = w
no_subject None Main (Literal lit) p o w = refl
no_subject (Some q) Main (Literal lit) p o w = absurd (w.0.0 cc).subject
no_subject None (Named g) (Literal lit) p o w = refl
no_subject (Some q) (Named g) (Literal lit) p o w = absurd (w.0.0 cc).subject

link_is : (s : Term) (p : Text) (scope : GraphScope) (o : Term) → is_iri p ≡ true → link (head s p scope) (Some o) ≡ turned true scope s p o
unfolding link
link_is s p scope o e = ap (λ b. elim b [ true ↦ turned true scope s p o | false ↦ [] ]) e

-- a quad of these parts is the link of their head
pub linked : (quad : Option Parts) (scope : GraphScope) (s : Term) (p : Text) (o : Term) → is_iri p ≡ true → IsWritten quad (quad_in scope s p o) → IsWritten quad (link (head s p scope) (Some o))
linked quad scope s p o e w = subst (IsWritten quad) (sym (link_is s p scope o e)) (no_subject quad scope s p o w)

-- the two ways to say that a text is an IRI
iri-is : (text : Text) → IsIri text → is_iri text ≡ true
iri-is text h = and_from (has_iri_form text) (is_utf8 text) h.form (is_utf8-from_IsUtf8 text h.utf8)

is-iri : (text : Text) → is_iri text ≡ true → IsIri text
is-iri text e = let parts = and_parts (has_iri_form text) (is_utf8 text) e in record { utf8 = IsUtf8-from_is_utf8 text parts.1; form = parts.0 }

pub test_is_iri : (test : Bool) (text : Text) → (IsTrue test ↔ IsIri text) → test ≡ is_iri text
test_is_iri true text same = sym (iri-is text (same.0 refl))
test_is_iri false text same = elim (cases_Bool (is_iri text)) [ inl e ↦ same.1 (is-iri text e) ∙ sym e | inr e ↦ sym e ]

pub first_iri : is_iri rdf_first ≡ true
unfolding lib.Utf8.encode
first_iri = iri-is rdf_first (record { utf8 = (rdf_first, (refl, refl)); form = refl })

pub rest_iri : is_iri rdf_rest ≡ true
unfolding lib.Utf8.encode
rest_iri = iri-is rdf_rest (record { utf8 = (rdf_rest, (refl, refl)); form = refl })

-- a list that writes no cells, and one that does
pub left_out : (h : Head) (at : ℕ) (xs : Items) → is_whole h ≡ false → [] ≡ item_quads h (list_at at xs)
unfolding item_quads
left_out h at xs e = sym (ap (λ b. elim b [ true ↦ list_quads h xs | false ↦ [] ]) e)

pub whole_says : (h : Head) (at : ℕ) (xs : Items) → is_whole h ≡ true → list_quads h xs ≡ item_quads h (list_at at xs)
unfolding item_quads
whole_says h at xs e = sym (ap (λ b. elim b [ true ↦ list_quads h xs | false ↦ [] ]) e)

no_iri : (b : Bool) (s : Term) (p : Text) (scope : GraphScope) → is_iri p ≡ false → is_whole (head s p scope) ≡ false
no_iri b s p LeftOut e = refl
no_iri b s p Main e = e
no_iri b s p (Named g) e = e

-- by the test of the predicate and that of the graph
pub says_nothing : (s : Term) (p : Text) (scope : GraphScope) → (is_iri p ≡ false) ⊎ (IsIn scope → ⊥) → (at : ℕ) (xs : Items) → [] ≡ item_quads (head s p scope) (list_at at xs)
says_nothing s p scope (inl e) at xs = left_out (head s p scope) at xs (no_iri true s p scope e)
says_nothing s p LeftOut (inr n) at xs = left_out (head s p LeftOut) at xs refl
says_nothing s p Main (inr n) at xs = absurd (n tt)
says_nothing s p (Named g) (inr n) at xs = absurd (n tt)

pub says_cells : (s : Term) (p : Text) (scope : GraphScope) → is_iri p ≡ true → IsIn scope → (at : ℕ) (xs : Items) → list_quads (head s p scope) xs ≡ item_quads (head s p scope) (list_at at xs)
says_cells s p LeftOut e i at xs = absurd i
says_cells s p Main e i at xs = whole_says (head s p Main) at xs e
says_cells s p (Named g) e i at xs = whole_says (head s p (Named g)) at xs e

-- a list whose subject or predicate isn't there
pub no_head : (s : Option Term) (p : Text) (scope : GraphScope) → (s ≡ None) ⊎ (p ≡ []) → (at : ℕ) (xs : Items) → [] ≡ item_quads (record { subject = s; predicate = p; scope = scope; forward = true }) (list_at at xs)
no_head None p scope e at xs = left_out _ at xs refl
no_head (Some s) p scope (inl e) at xs = absurd let no = e in cc
no_head (Some s) [] scope (inr e) at xs = says_nothing s [] scope (inl refl) at xs
no_head (Some s) (c ∷ p) scope (inr e) at xs = absurd let no = e in cc

pub more_says : (h : Head) (at : ℕ) (x : Item) (xs : Items) → item_place x ≡ at
    → list_quads h (more x xs) ≡ link h (Some (cell_at at)) ++ (item_quads (cell_head h.scope (item_place x) rdf_first) x ++ list_quads (cell_head h.scope at rdf_rest) xs)
unfolding list_quads
more_says h at x xs e = rw (sym e) refl

pub ends : (h : Head) → list_quads h no_more ≡ link h (Some rdf_nil)
unfolding list_quads
ends h = refl

leaf_quads : (h : Head) (x : Item) → IsLeaf x → item_quads h x ≡ link h (term_of x)
unfolding item_quads
leaf_quads h (value_at at v) l = refl
leaf_quads h (list_at at xs) l = absurd l
leaf_quads h (node_at at n es) l = refl

by_leaf : (h : Option Head) (x : Item) → IsLeaf x → by_head h (λ h. item_quads (cell_head h.scope (item_place x) rdf_first) x) ≡ by_head h (λ h. link (cell_head h.scope (item_place x) rdf_first) (term_of x))
by_leaf None x l = refl
by_leaf (Some h) x l = leaf_quads (cell_head h.scope (item_place x) rdf_first) x l

pub leaf_says : (s : LinkState) (x : Item) → IsLeaf x → item_says s x ≡ term_says s (item_place x) (term_of x)
leaf_says s x l = by_leaf (hangs s) x l

no_link : (h : Head) → link h None ≡ []
unfolding link
no_link h = by (is_iri h.predicate) h.subject
  where
    by : (b : Bool) (s : Option Term) → ◌≡◌ {A = List Parts} (elim b [ true ↦ with_terms s None (λ s t. turned h.forward h.scope s h.predicate t) | false ↦ [] ]) []
    by true None = refl
    by true (Some s) = refl
    by false s = refl

by_none : (h : Option Head) (at : ℕ) → by_head h (λ h. link (cell_head h.scope at rdf_first) None) ≡ []
by_none None at = refl
by_none (Some h) at = no_link (cell_head h.scope at rdf_first)

-- an item that has no term
pub no_term : (s : LinkState) (at : ℕ) → IsWritten None (term_says s at None)
no_term s at = subst (IsWritten None) (sym (by_none (hangs s) at)) refl

by_end : (h : Option Head) → by_head h (λ h. list_quads h no_more) ≡ by_head h (λ h. link h (Some rdf_nil))
by_end None = refl
by_end (Some h) = ends h

pub end_says : (s : LinkState) → still_says s no_more ≡ by_head (hangs s) (λ h. link h (Some rdf_nil))
end_says s = by_end (hangs s)
