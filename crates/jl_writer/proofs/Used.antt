-- The predicates of a node, the last one first.
use Rattle.std.proofs.Common.{◌≡◌, ℕ, ◌+◌, ◌<◌, ◌≤◌, None, List, [], ◌∷◌, ◌++◌, false, ◌||◌, refl, sym, ap, ap₂, Option, Some, ◌-◌, get_or, ◌∙◌, reverse, bytes_eq, arith, length, take}
use Rattle.std.proofs.lemmas.List.{reverse-append, take_more, take_all}
use Rattle.std.proofs.lemmas.Option.{slice_get_within, get_or_from_slice_get}
use Rattle.std.specs.Prelude.{slice_get}
use Rattle.std.proofs.Math.Bool.{or_comm, or_assoc, or-false}
use Rattle.std.specs.List.{list_any}
use Rattle.jl_model.specs.declared.terms.Term.{Term}
use Rattle.jl_model.specs.declared.terms.Term.TheVariants.{Iri, Blank, Literal}
use Rattle.jl_defs.specs.WriterText.{OpenNode}
use Rattle.jl_defs.specs.Texts.{is_among}
use Rattle.jl_writer.specs.Weights.{texts_weight, term_weight, term_texts, graph_weight, graph_texts, node_weight, node_texts}

among-append : (xs ys : List (List ℕ)) (p : List ℕ) → is_among (xs ++ ys) p ≡ (is_among xs p || is_among ys p)
among-append [] ys p = refl
among-append (x ∷ xs) ys p = ap (λ b. bytes_eq x p || b) (among-append xs ys p) ∙ sym (or_assoc (bytes_eq x p) (is_among xs p) (is_among ys p))

-- a text stands among the texts in their other order
pub among_reverse : (texts : List (List ℕ)) (p : List ℕ) → is_among (reverse texts) p ≡ list_any (λ t. bytes_eq t p) texts
among_reverse [] p = refl
among_reverse (x ∷ xs) p =
    ap (λ ts. is_among ts p) (reverse-append (x ∷ []) xs)
    ∙ among-append (reverse xs) (x ∷ []) p
    ∙ or_comm (is_among (reverse xs) p) (bytes_eq x p || false)
    ∙ ap₂ (λ a b. a || b) (or-false (bytes_eq x p)) (among_reverse xs p)

weight-append : (xs ys : List (List ℕ)) → texts_weight (xs ++ ys) ≡ texts_weight xs + texts_weight ys
weight-append [] ys = omega arith
weight-append (x ∷ xs) ys = let h = weight-append xs ys in omega arith

pub weight_reverse : (texts : List (List ℕ)) → texts_weight (reverse texts) ≡ texts_weight texts
weight_reverse [] = refl
weight_reverse (x ∷ xs) =
    let e = ap texts_weight (reverse-append (x ∷ []) xs) in
    let a = weight-append (reverse xs) (x ∷ []) in
    let h = weight_reverse xs in
    omega arith

-- the last of the texts is the first in their other order
pub last_reverse : (texts : List (List ℕ)) (last : List ℕ) → slice_get texts (length texts - 1) ≡ Some last → (others : List (List ℕ)) × (reverse texts ≡ last ∷ others)
last_reverse texts last h =
    let within = slice_get_within texts (length texts - 1) last h in
    let found = get_or_from_slice_get texts (length texts - 1) last last h in
    let one : length texts - 1 + 1 ≡ length texts = omega arith in
    let whole : texts ≡ take (length texts - 1) texts ++ last ∷ [] =
    sym (take_all (length texts) texts (omega arith)) ∙ ap (λ n. take n texts) (sym one) ∙ take_more texts (length texts - 1) last within ∙ ap (λ t. take (length texts - 1) texts ++ t ∷ []) found in
    (reverse (take (length texts - 1) texts), ap reverse whole ∙ reverse-append (take (length texts - 1) texts) (last ∷ []))

-- the weight of one text more
pub weight_more : (texts : List (List ℕ)) (i : ℕ) (d : List ℕ) → i < length texts → texts_weight (take (i + 1) texts) ≡ texts_weight (take i texts) + (8 + length (get_or texts i d))
weight_more texts i d h =
    let e = ap texts_weight (take_more texts i d h) in
    let a = weight-append (take i texts) (get_or texts i d ∷ []) in
    omega arith

term_within : (t : Term) → term_weight t ≤ texts_weight (term_texts t)
term_within (Iri iri) = omega arith
term_within (Blank label) = omega arith
term_within (Literal lit) = by lit.language
  where
    by : (language : Option (List ℕ)) → term_weight (Literal (record lit { language = language })) ≤ texts_weight (term_texts (Literal (record lit { language = language })))
    by None = omega arith
    by (Some tag) = omega arith

graph_within : (g : Option Term) → graph_weight g ≤ texts_weight (graph_texts g)
graph_within None = omega arith
graph_within (Some t) = term_within t

-- the weight of a node is at most that of its texts
pub node_within : (n : Option OpenNode) → node_weight n ≤ texts_weight (node_texts n)
node_within None = omega arith
node_within (Some n) =
    let a = weight-append (graph_texts n.graph) (term_texts n.subject ++ n.used) in
    let b = weight-append (term_texts n.subject) n.used in
    let g = graph_within n.graph in
    let s = term_within n.subject in
    omega arith
