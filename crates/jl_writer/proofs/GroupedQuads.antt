-- The quads of grouped quads are those that were grouped.
use Rattle.std.proofs.Common.{◌≡◌, List, [], ◌∷◌, ◌++◌, Option, Some, None, refl, sym, ap, ◌∙◌, append_assoc}
use Rattle.jl_model.specs.Parts.{Parts, parts_of}
use Rattle.jl_model.specs.declared.terms.Term.{Term}
use Rattle.jl_defs.specs.Texts.{Text}
use Rattle.jl_defs.specs.WriterText.{OpenNode, Next, same_predicate, new_predicate, new_node, new_item, next_of, opened, begins_node}
use Rattle.jl_writer.proofs.GoingOn.{GoesOn, goes_on}
use Rattle.jl_writer.proofs.Grouped.{Group, Node, Item, one_node, one_graph, Rest, node_of, item_in, with_node, with_quad, rest_behind, items_of}

unfoldable pub values_said : Option Term → Term → Text → List Term → List Parts
values_said g s p [] = []
values_said g s p (t ∷ ts) = parts_of s p t g ∷ values_said g s p ts

unfoldable pub groups_said : Option Term → Term → List Group → List Parts
groups_said g s [] = []
groups_said g s (x ∷ xs) = (parts_of s x.predicate x.first g ∷ values_said g s x.predicate x.more) ++ groups_said g s xs

unfoldable pub node_said : Option Term → Node → List Parts
node_said g n = groups_said g n.subject n.groups

unfoldable pub nodes_said : Option Term → List Node → List Parts
nodes_said g [] = []
nodes_said g (n ∷ ns) = node_said g n ++ nodes_said g ns

unfoldable pub item_said : Item → List Parts
item_said (one_node n) = node_said None n
item_said (one_graph g n ns) = node_said (Some g) n ++ nodes_said (Some g) ns

unfoldable pub items_said : List Item → List Parts
items_said [] = []
items_said (i ∷ is) = item_said i ++ items_said is

-- more nodes of a graph that is open; in the default graph they are items
abbrev graph_said : Option Term → List Node → List Parts
graph_said None ns = []
graph_said (Some g) ns = nodes_said (Some g) ns

abbrev rest_said : Option Term → Term → Text → Rest → List Parts
rest_said g s p r = values_said g s p r.values ++ (groups_said g s r.groups ++ (graph_said g r.nodes ++ items_said r.items))

-- a node with its first value, and what comes after it
node_begun : (g : Option Term) (q : Parts) (r : Rest) (more : List Parts)
    → node_said g (node_of q r) ++ more ≡ parts_of q.subject q.predicate q.object g ∷ (values_said g q.subject q.predicate r.values ++ (groups_said g q.subject r.groups ++ more))
unfolding node_said groups_said
node_begun g q r more = ap (λ x. parts_of q.subject q.predicate q.object g ∷ x) (append_assoc (values_said g q.subject q.predicate r.values) (groups_said g q.subject r.groups) more)

with_node_said : (g : Option Term) (s : Term) (p : Text) (q : Parts) (r : Rest)
    → rest_said g s p (with_node g (node_of q r) r) ≡ parts_of q.subject q.predicate q.object g ∷ rest_said g q.subject q.predicate r
unfolding values_said groups_said nodes_said items_said item_said
with_node_said None s p q r = node_begun None q r (items_said r.items)
with_node_said (Some g) s p q r =
    append_assoc (node_said (Some g) (node_of q r)) (nodes_said (Some g) r.nodes) (items_said r.items)
    ∙ node_begun (Some g) q r (nodes_said (Some g) r.nodes ++ items_said r.items)

item_begun : (g : Option Term) (q : Parts) (r : Rest) → item_said (item_in g q r) ++ items_said r.items ≡ parts_of q.subject q.predicate q.object g ∷ rest_said g q.subject q.predicate r
unfolding item_said
item_begun None q r = node_begun None q r (items_said r.items)
item_begun (Some g) q r =
    append_assoc (node_said (Some g) (node_of q r)) (nodes_said (Some g) r.nodes) (items_said r.items)
    ∙ node_begun (Some g) q r (nodes_said (Some g) r.nodes ++ items_said r.items)

no_nodes_said : (g : Option Term) → graph_said g [] ≡ []
unfolding nodes_said
no_nodes_said None = refl
no_nodes_said (Some g) = refl

quad_said : (n : OpenNode) (q : Parts) (next : Next) (r : Rest) (p : Text) (others : List Text) → n.used ≡ p ∷ others → GoesOn n q next
    → rest_said n.graph n.subject p (with_quad n.graph q next r) ≡ q ∷ rest_said q.graph q.subject q.predicate r
unfolding values_said groups_said items_said
quad_said n q same_predicate r p others used goes =
    let last : p ≡ q.predicate = let same : p ∷ others ≡ q.predicate ∷ goes.2.0 = sym used ∙ goes.2.1 in cc in
    let graph = goes.0 in
    let subject = goes.1 in
    λ i. parts_of (subject i) (last i) q.object (graph i) ∷ rest_said (graph i) (subject i) (last i) r
quad_said n q new_predicate r p others used goes =
    let graph = goes.0 in
    let subject = goes.1 in
    let joined = append_assoc (values_said n.graph n.subject q.predicate r.values) (groups_said n.graph n.subject r.groups) (graph_said n.graph r.nodes ++ items_said r.items) in
    ap (λ x. parts_of n.subject q.predicate q.object n.graph ∷ x) joined
    ∙ (λ i. parts_of (subject i) q.predicate q.object (graph i) ∷ rest_said (graph i) (subject i) q.predicate r)
quad_said n q new_node r p others used goes =
    with_node_said n.graph n.subject p q r ∙ (λ i. parts_of q.subject q.predicate q.object (goes i) ∷ rest_said (goes i) q.subject q.predicate r)
quad_said n q new_item r p others used goes =
    ap (λ x. x ++ (item_said (item_in q.graph q r) ++ items_said r.items)) (no_nodes_said n.graph) ∙ item_begun q.graph q r

-- the node that is open after a quad is that of the quad
opened_graph : (n : OpenNode) (q : Parts) (next : Next) → GoesOn n q next → (opened n q next).graph ≡ q.graph
opened_graph n q same_predicate goes = goes.0
opened_graph n q new_predicate goes = goes.0
opened_graph n q new_node goes = refl
opened_graph n q new_item goes = refl

opened_subject : (n : OpenNode) (q : Parts) (next : Next) → GoesOn n q next → (opened n q next).subject ≡ q.subject
opened_subject n q same_predicate goes = goes.1
opened_subject n q new_predicate goes = goes.1
opened_subject n q new_node goes = refl
opened_subject n q new_item goes = refl

opened_used : (n : OpenNode) (q : Parts) (next : Next) → GoesOn n q next → (others : List Text) × ((opened n q next).used ≡ q.predicate ∷ others)
opened_used n q same_predicate goes = goes.2
opened_used n q new_predicate goes = (n.used, refl)
opened_used n q new_node goes = ([], refl)
opened_used n q new_item goes = ([], refl)

behind_said : (n : OpenNode) (qs : List Parts) (p : Text) (others : List Text) → n.used ≡ p ∷ others → rest_said n.graph n.subject p (rest_behind n qs) ≡ qs
unfolding rest_behind values_said groups_said items_said
behind_said n [] p others used = ap (λ x. x ++ []) (no_nodes_said n.graph)
behind_said n (q ∷ qs) p others used =
    let next = next_of n q in
    let goes = goes_on n q in
    let m = opened n q next in
    let rest = rest_behind m qs in
    let graph = opened_graph n q next goes in
    let subject = opened_subject n q next goes in
    let used' = opened_used n q next goes in
    quad_said n q next rest p others used goes
    ∙ (λ i. q ∷ rest_said (sym graph i) (sym subject i) q.predicate rest)
    ∙ ap (λ x. q ∷ x) (behind_said m qs q.predicate used'.0 used'.1)

pub quads_said : (qs : List Parts) → items_said (items_of qs) ≡ qs
unfolding items_said
quads_said [] = refl
quads_said (q ∷ qs) =
    item_begun q.graph q (rest_behind (begins_node q) qs) ∙ ap (λ x. q ∷ x) (behind_said (begins_node q) qs q.predicate [] refl)
