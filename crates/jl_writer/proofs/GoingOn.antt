-- What it says of a quad how it goes on from the open node.
use Rattle.std.proofs.Common.{◌≡◌, Bool, true, false, not, ◌&&◌, ◌||◌, nat_lt, List, [], ◌∷◌, length, Option, Some, None, bytes_eq, refl, sym, ap}
use Rattle.std.proofs.lemmas.Bool.{and_parts}
use Rattle.std.proofs.lemmas.Slice.Eq.{bytes_eq-Decides}
use Rattle.jl_model.specs.Parts.{Parts}
use Rattle.jl_model.specs.declared.terms.Term.{Term}
use Rattle.jl_model.specs.declared.terms.Term.TheVariants.{Iri, Blank, Literal}
use Rattle.jl_defs.specs.Texts.{Text, is_among}
use Rattle.jl_defs.specs.Definitions.{same_text}
use Rattle.jl_defs.specs.WriterText.{OpenNode, Next, same_predicate, new_predicate, new_node, new_item, next_of, in_node, is_last, same_term, same_graph}

same_bytes : (a b : Text) → bytes_eq a b ≡ true → a ≡ b
same_bytes a b e = (bytes_eq-Decides a b).0 e

same_texts : (a b : Option Text) → same_text a b ≡ true → a ≡ b
same_texts None None e = refl
same_texts None (Some b) e = absurd cc
same_texts (Some a) None e = absurd cc
same_texts (Some a) (Some b) e = ap Some (same_bytes a b e)

terms_same : (a b : Term) → same_term a b ≡ true → a ≡ b
terms_same (Iri a) (Iri b) e = ap Iri (same_bytes a b e)
terms_same (Iri a) (Blank b) e = absurd cc
terms_same (Iri a) (Literal b) e = absurd cc
terms_same (Blank a) (Iri b) e = absurd cc
terms_same (Blank a) (Blank b) e = ap Blank (same_bytes a b e)
terms_same (Blank a) (Literal b) e = absurd cc
terms_same (Literal a) (Iri b) e = absurd cc
terms_same (Literal a) (Blank b) e = absurd cc
terms_same (Literal a) (Literal b) e =
    let first = and_parts (bytes_eq a.text b.text) (bytes_eq a.datatype b.datatype && same_text a.language b.language) e in
    let others = and_parts (bytes_eq a.datatype b.datatype) (same_text a.language b.language) first.1 in
    let text = same_bytes a.text b.text first.0 in
    let datatype = same_bytes a.datatype b.datatype others.0 in
    let language = same_texts a.language b.language others.1 in
    λ i. Literal (record { text = text i; datatype = datatype i; language = language i })

graphs_same : (a b : Option Term) → same_graph a b ≡ true → a ≡ b
graphs_same None None e = refl
graphs_same None (Some b) e = absurd cc
graphs_same (Some a) None e = absurd cc
graphs_same (Some a) (Some b) e = ap Some (terms_same a b e)

last_used : (p : Text) (used : List Text) → is_last p used ≡ true → (others : List Text) × (used ≡ p ∷ others)
last_used p [] e = absurd cc
last_used p (u ∷ us) e = (us, ap (λ t. t ∷ us) (sym (same_bytes p u e)))

-- within a node the graph and the subject are those of the node, and a new predicate hasn't been used; a node of the same graph
abbrev pub GoesOn : OpenNode → Parts → Next → Type 0
GoesOn n q same_predicate = (n.graph ≡ q.graph) × (n.subject ≡ q.subject) × ((others : List Text) × (n.used ≡ q.predicate ∷ others))
GoesOn n q new_predicate = (n.graph ≡ q.graph) × (n.subject ≡ q.subject) × (is_among n.used q.predicate ≡ false)
GoesOn n q new_node = n.graph ≡ q.graph
GoesOn n q new_item = Unit {0}

pub goes_on : (n : OpenNode) (q : Parts) → GoesOn n q (next_of n q)
goes_on n q = by_graph (same_graph n.graph q.graph) refl
  where
    by_used : n.graph ≡ q.graph → n.subject ≡ q.subject → (b : Bool) → (is_among n.used q.predicate || not (nat_lt (length n.used) 64)) ≡ b
        → GoesOn n q (elim b [ true ↦ new_node | false ↦ new_predicate ])
    by_used g s true e = g
    by_used g s false e = (g, s, or_false (is_among n.used q.predicate) (not (nat_lt (length n.used) 64)) e)
      where
        or_false : (a b : Bool) → (a || b) ≡ false → a ≡ false
        or_false true b e = absurd cc
        or_false false b e = refl

    by_last : n.graph ≡ q.graph → n.subject ≡ q.subject → (b : Bool) → is_last q.predicate n.used ≡ b
        → GoesOn n q (elim b [ true ↦ same_predicate | false ↦ elim (is_among n.used q.predicate || not (nat_lt (length n.used) 64)) [ true ↦ new_node | false ↦ new_predicate ] ])
    by_last g s true e = (g, s, last_used q.predicate n.used e)
    by_last g s false e = by_used g s (is_among n.used q.predicate || not (nat_lt (length n.used) 64)) refl

    by_subject : n.graph ≡ q.graph → (b : Bool) → same_term n.subject q.subject ≡ b → GoesOn n q (elim b [ true ↦ in_node n q.predicate | false ↦ new_node ])
    by_subject g true e = by_last g (terms_same n.subject q.subject e) (is_last q.predicate n.used) refl
    by_subject g false e = g

    by_graph : (b : Bool) → same_graph n.graph q.graph ≡ b → GoesOn n q (elim b [ true ↦ elim (same_term n.subject q.subject) [ true ↦ in_node n q.predicate | false ↦ new_node ] | false ↦ new_item ])
    by_graph true e = by_subject (graphs_same n.graph q.graph e) (same_term n.subject q.subject) refl
    by_graph false e = tt
