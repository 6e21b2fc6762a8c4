-- The writer's text is that of the grouped quads.
use Rattle.std.proofs.Common.{◌≡◌, List, [], ◌∷◌, ◌++◌, Option, Some, None, refl, sym, ap, ap₂, ◌∙◌, subst, append_assoc, codes}
use Rattle.jl_model.specs.Parts.{Parts}
use Rattle.jl_model.specs.declared.terms.Term.{Term}
use Rattle.jl_defs.specs.Texts.{Text}
use Rattle.jl_defs.specs.Canon.{string_text}
use Rattle.jl_defs.specs.WriterText as written
use Rattle.jl_defs.specs.WriterText.{OpenNode, Next, same_predicate, new_predicate, new_node, new_item, next_of, opened, begins_node, node_name, value_text, added, text_behind, node_behind, writer_text, node_end, item_end}
use Rattle.jl_writer.proofs.GoingOn.{GoesOn, goes_on}
use Rattle.jl_writer.proofs.Grouped.{Node, Rest, no_rest, node_of, item_in, with_node, with_quad, rest_behind, items_of, id_key, graph_key, values_text, groups_text, node_text, nodes_text, item_text, items_text, array_text}

-- what closes a graph after its nodes
abbrev pub graph_end : Option Term → List Node → Text
graph_end None ns = []
graph_end (Some g) ns = nodes_text ns ++ 125 ∷ []

-- the text of what comes after a value
abbrev pub rest_text : Option Term → Rest → Text
rest_text g r = values_text r.values ++ (groups_text r.groups ++ (graph_end g r.nodes ++ (items_text r.items ++ 10 ∷ [])))

abbrev end_of : Option Term → Text
end_of g = node_end ++ item_end g ++ codes "]\n"

-- the beginning of an item
abbrev item_front : Option Term → Parts → Text
item_front None q = written.node_text q
item_front (Some g) q = codes "{\"@id\":" ++ string_text (node_name g) ++ codes ",\"@graph\":[" ++ written.node_text q

nothing_more : (g : Option Term) → [] ++ end_of g ≡ rest_text g no_rest
unfolding values_text groups_text nodes_text items_text
nothing_more None = refl
nothing_more (Some g) = refl

value_more : (v t e vs r : Text) → t ++ e ≡ vs ++ r → ((44 ∷ v) ++ t) ++ e ≡ (44 ∷ (v ++ vs)) ++ r
value_more v t e vs r h = ap (λ x. 44 ∷ x) (append_assoc v t e ∙ ap (λ x. v ++ x) h ∙ sym (append_assoc v vs r))

predicate_more : (p v t e vs gs r : Text) → t ++ e ≡ vs ++ (gs ++ r)
    → ((93 ∷ 44 ∷ ((p ++ 58 ∷ 91 ∷ []) ++ v)) ++ t) ++ e ≡ (93 ∷ []) ++ ((44 ∷ (p ++ 58 ∷ ((91 ∷ (v ++ vs)) ++ gs))) ++ r)
predicate_more p v t e vs gs r h =
    let front : ((93 ∷ 44 ∷ ((p ++ 58 ∷ 91 ∷ []) ++ v)) ++ t) ++ e ≡ 93 ∷ 44 ∷ (p ++ 58 ∷ 91 ∷ (v ++ (t ++ e))) = simp append_assoc in
    let back : (93 ∷ []) ++ ((44 ∷ (p ++ 58 ∷ ((91 ∷ (v ++ vs)) ++ gs))) ++ r) ≡ 93 ∷ 44 ∷ (p ++ 58 ∷ 91 ∷ (v ++ (vs ++ (gs ++ r)))) = simp append_assoc in
    front ∙ ap (λ x. 93 ∷ 44 ∷ (p ++ 58 ∷ 91 ∷ (v ++ x))) h ∙ sym back

-- ---- keys

id_string : string_text id_key ≡ codes "\"@id\""
unfolding string_text
id_string = refl

graph_string : string_text graph_key ≡ codes "\"@graph\""
unfolding string_text
graph_string = refl

-- ---- nodes

node_front : (a s p v t e vs gs more : Text) → t ++ e ≡ vs ++ (gs ++ more)
    → ((((a ++ s) ++ 44 ∷ []) ++ ((p ++ 58 ∷ 91 ∷ []) ++ v)) ++ t) ++ e ≡ (a ++ (s ++ 44 ∷ (p ++ 58 ∷ ((91 ∷ (v ++ vs)) ++ gs)))) ++ more
node_front a s p v t e vs gs more h =
    let front : ((((a ++ s) ++ 44 ∷ []) ++ ((p ++ 58 ∷ 91 ∷ []) ++ v)) ++ t) ++ e ≡ a ++ (s ++ 44 ∷ (p ++ 58 ∷ 91 ∷ (v ++ (t ++ e)))) = simp append_assoc in
    let back : (a ++ (s ++ 44 ∷ (p ++ 58 ∷ ((91 ∷ (v ++ vs)) ++ gs)))) ++ more ≡ a ++ (s ++ 44 ∷ (p ++ 58 ∷ 91 ∷ (v ++ (vs ++ (gs ++ more))))) = simp append_assoc in
    front ∙ ap (λ x. a ++ (s ++ 44 ∷ (p ++ 58 ∷ 91 ∷ (v ++ x)))) h ∙ sym back

-- a node by its first value, and what follows it
begun_node : (q : Parts) (t e : Text) (r : Rest) (more : Text) → t ++ e ≡ values_text r.values ++ (groups_text r.groups ++ more)
    → (written.node_text q ++ t) ++ e ≡ node_text (node_of q r) ++ more
unfolding groups_text node_text
begun_node q t e r more h =
    node_front (codes "{\"@id\":") (string_text (node_name q.subject)) (string_text q.predicate) (value_text q.object) t e (values_text r.values) (groups_text r.groups) more h
    ∙ ap (λ id. (123 ∷ (id ++ 58 ∷ (string_text (node_name q.subject) ++ 44 ∷ (string_text q.predicate ++ 58 ∷ ((91 ∷ (value_text q.object ++ values_text r.values)) ++ groups_text r.groups))))) ++ more) (sym id_string)

graph_front : (a g b n t e first ns more : Text) → (n ++ t) ++ e ≡ first ++ ((ns ++ 125 ∷ []) ++ more)
    → ((((a ++ g) ++ b) ++ n) ++ t) ++ e ≡ (a ++ (g ++ (b ++ ((first ++ ns) ++ 125 ∷ [])))) ++ more
graph_front a g b n t e first ns more h =
    let front : ((((a ++ g) ++ b) ++ n) ++ t) ++ e ≡ a ++ (g ++ (b ++ (n ++ (t ++ e)))) = simp append_assoc in
    let back : (a ++ (g ++ (b ++ ((first ++ ns) ++ 125 ∷ [])))) ++ more ≡ a ++ (g ++ (b ++ (first ++ (ns ++ 125 ∷ more)))) = simp append_assoc in
    let middle : n ++ (t ++ e) ≡ first ++ (ns ++ 125 ∷ more) = sym (append_assoc n t e) ∙ h ∙ ap (λ x. first ++ x) (append_assoc ns (125 ∷ []) more) in
    front ∙ ap (λ x. a ++ (g ++ (b ++ x))) middle ∙ sym back

-- an item by its first value, and what follows it
begun_item : (g : Option Term) (q : Parts) (t e : Text) (r : Rest) (more : Text) → t ++ e ≡ values_text r.values ++ (groups_text r.groups ++ (graph_end g r.nodes ++ more))
    → (item_front g q ++ t) ++ e ≡ item_text (item_in g q r) ++ more
unfolding item_text
begun_item None q t e r more h = begun_node q t e r more h
begun_item (Some g) q t e r more h =
    graph_front (codes "{\"@id\":") (string_text (node_name g)) (codes ",\"@graph\":[") (written.node_text q) t e (node_text (node_of q r)) (nodes_text r.nodes) more (begun_node q t e r (graph_end (Some g) r.nodes ++ more) h)
    ∙ ap₂ (λ id graph. (123 ∷ (id ++ 58 ∷ (string_text (node_name g) ++ 44 ∷ (graph ++ 58 ∷ ((91 ∷ (node_text (node_of q r) ++ nodes_text r.nodes)) ++ 125 ∷ []))))) ++ more) (sym id_string) (sym graph_string)

-- the same, with the items after it
whole_item : (q : Parts) (t e : Text) (r : Rest) → t ++ e ≡ rest_text q.graph r
    → (written.item_text q ++ t) ++ e ≡ (item_text (item_in q.graph q r) ++ items_text r.items) ++ 10 ∷ []
whole_item q t e r h =
    ap (λ x. (x ++ t) ++ e) (item_is q.graph q) ∙ begun_item q.graph q t e r (items_text r.items ++ 10 ∷ []) h
    ∙ sym (append_assoc (item_text (item_in q.graph q r)) (items_text r.items) (10 ∷ []))
  where
    item_is : (g : Option Term) (q : Parts) → written.item_text (record q { graph = g }) ≡ item_front g q
    item_is None q = refl
    item_is (Some g) q = refl

-- ---- quads

node_more : (g : Option Term) (q : Parts) (t e : Text) (r : Rest) → t ++ e ≡ rest_text g r
    → ((node_end ++ written.between_nodes g ++ written.node_text q) ++ t) ++ e ≡ rest_text g (with_node g (node_of q r) r)
unfolding values_text groups_text nodes_text items_text item_text
node_more None q t e r h =
    ap (λ x. codes "]},\n" ++ x) (begun_node q t e r (items_text r.items ++ 10 ∷ []) h ∙ sym (append_assoc (node_text (node_of q r)) (items_text r.items) (10 ∷ [])))
node_more (Some g) q t e r h =
    ap (λ x. codes "]}," ++ x) (begun_node q t e r (graph_end (Some g) r.nodes ++ (items_text r.items ++ 10 ∷ [])) h
    ∙ simp append_assoc)

-- what a quad ends and begins as an item
item_more : (g : Option Term) (q : Parts) (t e : Text) (r : Rest) → t ++ e ≡ rest_text q.graph r
    → ((node_end ++ item_end g ++ codes ",\n" ++ written.item_text q) ++ t) ++ e ≡ rest_text g (with_quad g q new_item r)
unfolding values_text groups_text nodes_text items_text
item_more None q t e r h = ap (λ x. codes "]},\n" ++ x) (whole_item q t e r h)
item_more (Some g) q t e r h = ap (λ x. codes "]}]},\n" ++ x) (whole_item q t e r h)

quad_more : (n : OpenNode) (q : Parts) (next : Next) (t e : Text) (r : Rest) → GoesOn n q next → t ++ e ≡ rest_text (opened n q next).graph r
    → (added n q next ++ t) ++ e ≡ rest_text n.graph (with_quad n.graph q next r)
unfolding values_text groups_text
quad_more n q same_predicate t e r goes h =
    value_more (value_text q.object) t e (values_text r.values) (groups_text r.groups ++ (graph_end n.graph r.nodes ++ (items_text r.items ++ 10 ∷ []))) h
quad_more n q new_predicate t e r goes h =
    predicate_more (string_text q.predicate) (value_text q.object) t e (values_text r.values) (groups_text r.groups) (graph_end n.graph r.nodes ++ (items_text r.items ++ 10 ∷ [])) h
quad_more n q new_node t e r goes h = node_more n.graph q t e r (subst (λ g. t ++ e ≡ rest_text g r) (sym goes) h)
quad_more n q new_item t e r goes h = item_more n.graph q t e r h

-- the text after an open node, up to the end of all
text_rest : (n : OpenNode) (qs : List Parts) → text_behind n qs ++ end_of (node_behind n qs).graph ≡ rest_text n.graph (rest_behind n qs)
unfolding text_behind node_behind rest_behind
text_rest n [] = nothing_more n.graph
text_rest n (q ∷ qs) =
    quad_more n q (next_of n q) (text_behind (opened n q (next_of n q)) qs) (end_of (node_behind (opened n q (next_of n q)) qs).graph) (rest_behind (opened n q (next_of n q)) qs) (goes_on n q)
    (text_rest (opened n q (next_of n q)) qs)

-- the writer's text
pub grouped_text : (qs : List Parts) → writer_text qs ≡ array_text (items_of qs) ++ 10 ∷ []
unfolding writer_text array_text
grouped_text [] = refl
grouped_text (q ∷ qs) =
    ap (λ x. 91 ∷ x) (whole_item q (text_behind (begins_node q) qs) (end_of (node_behind (begins_node q) qs).graph) (rest_behind (begins_node q) qs) (text_rest (begins_node q) qs))
