-- What one walk says is the dataset.
use Rattle.std.proofs.Common.{ℕ, if◌then◌else◌, ◌≡◌, refl, sym, ◌∙◌, ap, subst, Bool, true, false, not, ◌&&◌, List, [], ◌∷◌, ◌++◌, flat_map, Option, Some, None, Result, Ok, Err, is_some, arith}
use Rattle.std.specs.List.{list_any}
use Rattle.jl_model.specs.JsonTree.{Tree, scalar, array, object, Trees, no_item, item, Members, no_member, member}
use Rattle.jl_model.specs.Parts.{Parts}
use Rattle.jl_model.specs.declared.scalars.Scalar.{Scalar}
use Rattle.jl_model.specs.declared.scalars.Scalar.TheVariants.{Null, Bool as boolean, Number, Str}
use Rattle.jl_model.specs.declared.codes.Code.{Code}
use Rattle.jl_model.specs.declared.faults.Fault.{Fault}
use Rattle.jl_model.specs.declared.orders.Order.{Order}
use Rattle.jl_model.specs.declared.terms.Term.{Term}
use Rattle.jl_model.specs.declared.expansions.Expanded.{Expanded}
use Rattle.jl_model.specs.declared.expansions.Expanded.TheVariants as expanded
use Rattle.jl_model.specs.declared.graph_scopes.GraphScope.{GraphScope}
use Rattle.jl_model.specs.declared.graph_scopes.GraphScope.TheVariants.{Main}
use Rattle.jl_defs.specs.Texts.{Text}
use Rattle.jl_defs.specs.Trees.{place_of}
use Rattle.jl_defs.specs.Context.{TermDef, Context, term, initial}
use Rattle.jl_defs.specs.Settings.{Settings, Under, no_property, graph_property, reverse_property, property_of, Stand, root, entry, graph_entry, elsewhere, inside_of, term_under, lists}
use Rattle.jl_defs.specs.Keys.{Key, kind, language, graph, included, reverse, nest, property, key_of, is_value, is_list, is_set, is_graph}
use Rattle.jl_defs.specs.ObjectContexts.{Inside, decide, property_context}
use Rattle.jl_defs.specs.Values.{value_of}
use Rattle.jl_defs.specs.ValueObjects.{expand_type, value_object as value_of_object, unless_refused, json_value}
use Rattle.jl_defs.specs.Items.{value_at, list_at, node_at, Items, no_more, more, NodeEntries, one, both, given, all_wrapped}
use Rattle.jl_defs.specs.Kept.{Role, own_member, nested_member, reversed_member, is_admitted, Form, json_form, language_form, map_form, plain_form, form_of, nest_inside, is_only_language, value_gives, object_gives, decided_bool, gives, entries, is_list_object}
use Rattle.jl_defs.specs.Graphs.{Shape, value_object, list_object, set_object, language_alone, graph_alone, node_object, reads_as_graph, shape_of}
use Rattle.jl_defs.specs.Maps.{Addition, adds_nothing, addition, all_with_addition, entry_stand, entry_context, language_key, language_string, language_items, language_values}
use Rattle.jl_defs.specs.NodeMap.{node_map, node_entries, items_entries, graph_of}
use Rattle.jl_defs.specs.Dataset.{Head, link, term_of_value, entry_quads, item_quads, dataset}
use Rattle.jl_defs.specs.Expansion as ex
use Rattle.jl_defs.specs.Expansion.{expand, expand_all, with_key, naming, type_strings, types_said, typed_as, goes_forward, is_plain_graph, contained, said_of, language_entries}
use Rattle.jl_defs.specs.Sets.{tally}
use Rattle.jl_laws.specs.Spots.{Hanging, linked, Around, document, ordinary, graphs, map_entry, graph_map_entry, Spot, spot, stand_of, inside, inside_list, moved, Said, nothing, then_says, Own, Content, list_hangs}
use Rattle.jl_laws.specs.Says.{scalar_in, scalar_at, decided_says, decided_quads, nested_quads, value_at_spot, graph_at_spot, object_says, inner_says, if_key_is, type_says, types_say, language_items_say, language_entry_says, language_entries_say, language_map_says, entry_around, in_entry, is_ok, is_given, if_given, contained_says, by_form, by_key, property_head, graph_head, in_graph, walk, walk_all, walk_key, members_say, nested_says, all_nested_say, reversed_says, map_says, map_entries_say, says, root_spot}
use Rattle.jl_laws.proofs.Bools.{true-false}
use Rattle.jl_laws.proofs.Counting.{tally-append}
use Rattle.jl_laws.proofs.ItemsSay.{total, total-append, items_say, Alike, alike-refl, alike-trans, alike-sym, then-alike, items-both, loose-items, linked-items, entries-then, placed, placed-both, placed-none, OwnAre, plain-node, node-alike, value-alike, scalar-alike, ContentIs, list-quads, list-alike, type-added}

-- what a value says at its spot is what these items say there
abbrev pub SaysItems : (Parts → ℕ) → Said → Around → Hanging → Items → Head → Type 0
SaysItems f x around hanging xs h = Alike f x (items_say hanging (placed around xs) h)

says-none : (f : Parts → ℕ) (around : Around) (hanging : Hanging) (h : Head) → SaysItems f (nothing h) around hanging no_more h
says-none f around hanging h = subst (λ xs. Alike f (nothing h) (items_say hanging xs h)) (sym (placed-none around)) (alike-refl f (nothing h))

-- items, and more items where the first lead
says-both : (f : Parts → ℕ) (around : Around) (hanging : Hanging) (first : Said) (next : Head → Said) (xs ys : Items) (h : Head) →
    SaysItems f first around hanging xs h → ((k : Head) → SaysItems f (next k) around hanging ys k) → SaysItems f (then_says first next) around hanging (both xs ys) h
says-both f around hanging first next xs ys h a b =
    subst (λ zs. Alike f (then_says first next) (items_say hanging zs h)) (sym (placed-both around xs ys))
    (alike-trans f (then_says first next) (then_says (items_say hanging (placed around xs) h) (λ k. items_say hanging (placed around ys) k)) (items_say hanging (both (placed around xs) (placed around ys)) h)
    (then-alike f first (items_say hanging (placed around xs) h) next (λ k. items_say hanging (placed around ys) k) a b)
    (alike-sym f _ _ (items-both f hanging (placed around xs) (placed around ys) h)))

-- inside an array or a set
pub inside-placed : (around : Around) (xs : Stand → Items) → placed (inside around) (xs (stand_of (inside around))) ≡ placed around (xs (inside_of (stand_of around)))
inside-placed document xs = refl
inside-placed ordinary xs = refl
inside-placed graphs xs = refl
inside-placed (map_entry adds) xs = refl
inside-placed (graph_map_entry adds) xs = refl

scalar-says : (f : Parts → ℕ) (s : Settings) (p : Spot) (under : Under) (at : ℕ) (v : Scalar) →
    SaysItems f (scalar_at s p under at v) p.role.around p.role.hanging (given (ex.scalar_items s p.context under (stand_of p.role.around) at v)) p.head
scalar-says f s p under at Null = says-none f p.role.around p.role.hanging p.head
scalar-says f s p (property_of name) at v = by v (property_context s p.context (property_of name) p.context)
  where
    by : (v : Scalar) (r : Result Context Code) → SaysItems f (scalar_in p name at v r) p.role.around p.role.hanging (given (ex.scalar_in (stand_of p.role.around) name at v r)) p.head
    by v (Ok c) = scalar-alike f p.role.around p.role.hanging at (value_of c name v) p.head
    by v (Err e) = says-none f p.role.around p.role.hanging p.head
scalar-says f s p under at v = says-none f p.role.around p.role.hanging p.head

value-says : (f : Parts → ℕ) (b : Bool) (p : Spot) (i : Inside) (at : ℕ) (ms : Members) →
    SaysItems f (value_at_spot b p i at ms) p.role.around p.role.hanging
    (given (elim b [ true ↦ Some (one (ex.in_graph (stand_of p.role.around) (value_at at (unless_refused (value_of_object i ms))))) | false ↦ None ])) p.head
value-says f true p i at ms = value-alike f p.role.around p.role.hanging at (unless_refused (value_of_object i ms)) p.head
value-says f false p i at ms = says-none f p.role.around p.role.hanging p.head

graph-says : (f : Parts → ℕ) (around : Around) (p : Spot) (i : Inside) (at : ℕ) (ms : Members) (content : Unit {0} → Said) (its_content : Unit {0} → Items) (own : Own) (es : NodeEntries) →
    Alike f (content tt) (items_say p.role.hanging (its_content tt) p.head) → OwnAre f own es →
    SaysItems f (graph_at_spot around p i at ms content own) around p.role.hanging (ex.graph_items (stand_of around) (node_at at (naming i.final ms) es) its_content) p.head
graph-says f document p i at ms content its_content own es c o = c
graph-says f ordinary p i at ms content its_content own es c o = says-none f ordinary p.role.hanging p.head
graph-says f graphs p i at ms content its_content own es c o = says-none f graphs p.role.hanging p.head
graph-says f (map_entry adds) p i at ms content its_content own es c o = says-none f (map_entry adds) p.role.hanging p.head
graph-says f (graph_map_entry adds) p i at ms content its_content own es c o = plain-node f p.role.hanging adds at (naming i.final ms) own es p.head o

-- an object, from what holds of its list, its set, its content and its members
pub object-says : (f : Parts → ℕ) (shape : Shape) (p : Spot) (i : Inside) (at : ℕ) (ms : Members) (its_list : Content) (its_set content : Unit {0} → Said) (own : Own)
    (list_items set_items content_items : Unit {0} → Items) (es : Unit {0} → NodeEntries) →
    ContentIs f its_list (list_items tt) →
    SaysItems f (its_set tt) p.role.around p.role.hanging (set_items tt) p.head →
    Alike f (content tt) (items_say p.role.hanging (content_items tt) p.head) →
    OwnAre f own (es tt) →
    SaysItems f (object_says shape p i at ms its_list its_set content own) p.role.around p.role.hanging
    (given (ex.object_items shape p.under (stand_of p.role.around) i at ms list_items set_items content_items es)) p.head
object-says f value_object p i at ms its_list its_set content own list_items set_items content_items es l m c o = value-says f (value_gives p.under i ms) p i at ms
object-says f list_object p i at ms its_list its_set content own list_items set_items content_items es l m c o = list-alike f p.role.around p.role.hanging at its_list (list_items tt) p.head l
object-says f set_object p i at ms its_list its_set content own list_items set_items content_items es l m c o = m
object-says f language_alone p i at ms its_list its_set content own list_items set_items content_items es l m c o = says-none f p.role.around p.role.hanging p.head
object-says f graph_alone p i at ms its_list its_set content own list_items set_items content_items es l m c o =
    graph-says f p.role.around p i at ms content content_items own (es tt) c o
object-says f node_object p i at ms its_list its_set content own list_items set_items content_items es l m c o =
    node-alike f p.role.around p.role.hanging at (naming i.final ms) own (es tt) p.head o

decided-says : (f : Parts → ℕ) (p : Spot) (r : Result Inside Fault) (mine : Inside → Said) (theirs : Inside → Option Items) →
    ((i : Inside) → SaysItems f (mine i) p.role.around p.role.hanging (given (theirs i)) p.head) →
    SaysItems f (decided_says p.head r mine) p.role.around p.role.hanging (given (ex.decided_items r theirs)) p.head
decided-says f p (Ok i) mine theirs h = h i
decided-says f p (Err e) mine theirs h = says-none f p.role.around p.role.hanging p.head

-- types
types-say : (f : Parts → ℕ) (n : Option Term) (scope : GraphScope) (b : Context) (texts : List Text) → tally f (types_say n scope b texts) ≡ total f (node_entries scope n (types_said b texts))
unfolding node_map
types-say f n scope b [] = refl
types-say f n scope b (text ∷ texts) = by (expand_type b text) (types-say f n scope b texts)
  where
    by : (e : Expanded) → tally f (types_say n scope b texts) ≡ total f (node_entries scope n (types_said b texts)) →
        tally f (type_says n scope e ++ types_say n scope b texts) ≡ total f (node_entries scope n (typed_as e (types_said b texts)))
    by expanded.Null h = h
    by (expanded.Keyword t) h = omega (arith, h, type-added f n scope t (types_said b texts), tally-append f (type_says n scope (expanded.Keyword t)) (types_say n scope b texts))
    by (expanded.Name t) h = omega (arith, h, type-added f n scope t (types_said b texts), tally-append f (type_says n scope (expanded.Name t)) (types_say n scope b texts))

-- values of language maps
language-items : (f : Parts → ℕ) (h : Head) (tag : Option Text) (xs : Trees) → Alike f (language_items_say h tag xs, h) (items_say linked (language_items tag xs) h)
unfolding item_quads node_map
language-items f h tag no_item = (refl, refl)
language-items f h tag (item (scalar at (Str text)) rest) =
    let e = language-items f h tag rest in
    let here = link h (term_of_value (language_string tag text)) in
    (omega (arith, e.0, tally-append f here (language_items_say h tag rest), tally-append f (here ++ []) (items_say linked (language_items tag rest) h).0, tally-append f here []), e.1)
language-items f h tag (item x rest) = language-items f h tag rest

language-values : (f : Parts → ℕ) (h : Head) (tag : Option Text) (v : Tree) → Alike f (language_entry_says h tag v, h) (items_say linked (language_values tag v) h)
unfolding item_quads node_map
language-values f h tag (scalar at (Str text)) =
    let here = link h (term_of_value (language_string tag text)) in
    (omega (arith, tally-append f (here ++ []) [], tally-append f here []), refl)
language-values f h tag (scalar at v) = (refl, refl)
language-values f h tag (array at xs) = language-items f h tag xs
language-values f h tag (object at ms) = (refl, refl)

language-entries : (f : Parts → ℕ) (h : Head) (d : Context) (ms : Members) → Alike f (language_entries_say h d ms, h) (items_say linked (language_entries d ms) h)
unfolding expand
language-entries f h d no_member = (refl, refl)
language-entries f h d (member a n v rest) =
    let xs = language_values (language_key d n) v in
    alike-trans f _ _ _
    (then-alike f (language_entry_says h (language_key d n) v, h) (items_say linked xs h) (λ k. (language_entries_say k d rest, k)) (λ k. items_say linked (language_entries d rest) k)
    (language-values f h (language_key d n) v) (λ k. language-entries f k d rest))
    (alike-sym f _ _ (items-both f linked xs (language_entries d rest) h))

language-map : (f : Parts → ℕ) (h : Head) (d : Context) (v : Tree) → tally f (language_map_says h d v) ≡ tally f (items_say linked (ex.language_map d v) h).0
unfolding expand
language-map f h d (scalar at v) = refl
language-map f h d (array at xs) = refl
language-map f h d (object at ms) = (language-entries f h d ms).0

-- what a value gives, if anything
no-list : (ks : List Key) → is_only_language ks ≡ true → list_any is_list ks ≡ false
no-list [] e = refl
no-list (language ∷ []) e = refl
no-list (k ∷ ks) e = absurd (true-false (sym e))

no-set : (ks : List Key) → is_only_language ks ≡ true → list_any is_set ks ≡ false
no-set [] e = refl
no-set (language ∷ []) e = refl
no-set (k ∷ ks) e = absurd (true-false (sym e))

value-given : (b : Bool) (x : Items) → is_some (elim b [ true ↦ Some x | false ↦ None ]) ≡ b
value-given true x = refl
value-given false x = refl

shape-given : (reads : Bool) (under : Under) (stand : Stand) (i : Inside) (at : ℕ) (ms : Members) (ks : List Key) (its_list its_set content : Unit {0} → Items) (es : Unit {0} → NodeEntries) →
    object_gives under i ms ks ≡ is_some (ex.object_items (shape_of reads ks) under stand i at ms its_list its_set content es)
shape-given reads under stand i at ms ks its_list its_set content es =
    by (list_any is_value ks) (list_any is_list ks) (list_any is_set ks) (is_only_language ks) reads (no-list ks) (no-set ks)
  where
    by : (v l m o g : Bool) → (o ≡ true → l ≡ false) → (o ≡ true → m ≡ false) →
        (elim v [ true ↦ value_gives under i ms | false ↦ not o ])
        ≡ is_some (ex.object_items (if v then value_object else (if l then list_object else (if m then set_object else (if o then language_alone else (if g then graph_alone else node_object)))))
        under stand i at ms its_list its_set content es)
    by true l m o g hl hm = sym (value-given (value_gives under i ms) _)
    by false true m true g hl hm = absurd (true-false (hl refl))
    by false true m false g hl hm = refl
    by false false true true g hl hm = absurd (true-false (hm refl))
    by false false true false g hl hm = refl
    by false false false true g hl hm = refl
    by false false false false true hl hm = refl
    by false false false false false hl hm = refl

scalar-given : (name : Text) (at : ℕ) (v : Scalar) (r : Result Context Code) → is_ok r ≡ is_some (ex.scalar_in elsewhere name at v r)
scalar-given name at v (Ok c) = refl
scalar-given name at v (Err e) = refl

given-is : (s : Settings) (c : Context) (name : Text) (v : Tree) → is_given s c (property_of name) v ≡ is_some (expand s c (property_of name) elsewhere v)
unfolding expand entries
given-is s c name (scalar at Null) = refl
given-is s c name (scalar at (boolean b)) = scalar-given name at (boolean b) (property_context s c (property_of name) c)
given-is s c name (scalar at (Number n)) = scalar-given name at (Number n) (property_context s c (property_of name) c)
given-is s c name (scalar at (Str text)) = scalar-given name at (Str text) (property_context s c (property_of name) c)
given-is s c name (array at xs) = refl
given-is s c name (object at ms) = by (decide s c (property_of name) elsewhere at ms)
  where
    by : (r : Result Inside Fault) →
        decided_bool r (λ i. object_gives (property_of name) i ms (entries s i own_member (property_of name) ms))
        ≡ is_some (ex.decided_items r (λ i. ex.object_items (shape_of (reads_as_graph s c (property_of name) elsewhere at i ms) (entries s i own_member (property_of name) ms)) (property_of name) elsewhere i at ms
        (λ _. with_key s i is_list (property_of name) elsewhere ms)
        (λ _. with_key s i is_set (property_of name) elsewhere ms)
        (λ _. with_key s i is_graph graph_property elsewhere ms)
        (λ _. ex.members_say s i own_member ms)))
    by (Ok i) = shape-given (reads_as_graph s c (property_of name) elsewhere at i ms) (property_of name) elsewhere i at ms (entries s i own_member (property_of name) ms) _ _ _ _
    by (Err e) = refl

-- the values of a property, in what its container makes of them
contained-says : (f : Parts → ℕ) (t : Option TermDef) (b : Bool) (at : ℕ) (xs : Option Items) (is_given : Bool) (h : Head) (content : Content) (around_says : Around → List Parts) →
    is_given ≡ is_some xs → ContentIs f content (given xs) →
    tally f (around_says graphs) ≡ tally f (items_say linked (all_wrapped (given xs)) h).0 →
    tally f (around_says ordinary) ≡ tally f (items_say linked (given xs) h).0 →
    tally f (contained_says t b is_given h content around_says) ≡ tally f (items_say linked (given (contained t b at xs)) h).0
unfolding node_map
contained-says f t b at None given_is h content around_says e c wraps plain = by (lists t && not b) (is_plain_graph t)
  where
    by : (l g : Bool) →
        tally f (elim l [ true ↦ if_given given_is (λ _. list_hangs content h) | false ↦ elim g [ true ↦ around_says graphs | false ↦ around_says ordinary ] ]) ≡ 0
    by true g = subst (λ b. tally f (if_given b (λ _. list_hangs content h)) ≡ 0) (sym e) refl
    by false true = wraps
    by false false = plain
contained-says f t b at (Some xs) given_is h content around_says e c wraps plain = by (lists t && not b) (is_plain_graph t)
  where
    by : (l g : Bool) →
        tally f (elim l [ true ↦ if_given given_is (λ _. list_hangs content h) | false ↦ elim g [ true ↦ around_says graphs | false ↦ around_says ordinary ] ])
        ≡ tally f (items_say linked (elim l [ true ↦ one (list_at at xs) | false ↦ elim g [ true ↦ all_wrapped xs | false ↦ xs ] ]) h).0
    by true g =
        subst (λ b. tally f (if_given b (λ _. list_hangs content h)) ≡ tally f (items_say linked (one (list_at at xs)) h).0) (sym e)
        (omega (
          arith,
          list-quads f at content xs h c,
          tally-append f (item_quads h (list_at at xs) ++ flat_map entry_quads (node_map h.scope xs)) [],
          tally-append f (item_quads h (list_at at xs)) (flat_map entry_quads (node_map h.scope xs)),
        ))
    by false true = wraps
    by false false = plain

-- the items of a property, as its node says them
said-of : (f : Parts → ℕ) (n : Option Term) (scope : GraphScope) (forward : Bool) (iri : Text) (xs : Option Items) →
    (let h : Head = record { subject = n; predicate = iri; scope = scope; forward = forward } in
    total f (node_entries scope n (said_of forward iri xs)) ≡ tally f (items_say linked (given xs) h).0)
unfolding node_map
said-of f n scope forward iri None = refl
said-of f n scope forward iri (Some xs) =
    omega (
      arith,
      linked-items f n scope forward iri xs,
      total-append f (items_entries scope n forward iri xs) (node_map scope xs ++ []),
      total-append f (node_map scope xs) [],
    )

-- the values of a property by their form: a further form is a further clause here
form-says : (f : Parts → ℕ) (k : Form) (v : Tree) (t : Option TermDef) (h : Head)
    (languages : Unit {0} → List Parts) (mapped : TermDef → List Parts) (plain : Unit {0} → List Parts)
    (language_items : Unit {0} → Items) (map_items : TermDef → Items) (plain_items : Unit {0} → Option Items) →
    tally f (languages tt) ≡ tally f (items_say linked (language_items tt) h).0 →
    ((t : TermDef) → tally f (mapped t) ≡ tally f (items_say linked (map_items t) h).0) →
    tally f (plain tt) ≡ tally f (items_say linked (given (plain_items tt)) h).0 →
    tally f (by_form k t (λ _. link h (term_of_value (json_value v))) languages mapped plain) ≡ tally f (items_say linked (given (ex.by_form k v t language_items map_items plain_items)) h).0
unfolding node_map
form-says f json_form v t h languages mapped plain language_items map_items plain_items l m p = (value-alike f ordinary linked (place_of v) (json_value v) h).0
form-says f language_form v t h languages mapped plain language_items map_items plain_items l m p = l
form-says f map_form v None h languages mapped plain language_items map_items plain_items l m p = refl
form-says f map_form v (Some t) h languages mapped plain language_items map_items plain_items l m p = m t
form-says f plain_form v t h languages mapped plain language_items map_items plain_items l m p = p

-- what a member says, by its key: a further key is a further clause here
key-says : (f : Parts → ℕ) (n : Option Term) (scope : GraphScope) (k : Key)
    (properties : Text → List Parts) (types held included_says nested reversed : Unit {0} → List Parts)
    (property_entries : Text → NodeEntries) (type_entries : Unit {0} → NodeEntries) (held_items included_items : Unit {0} → Items) (nested_entries reversed_entries : Unit {0} → NodeEntries) →
    ((iri : Text) → tally f (properties iri) ≡ total f (node_entries scope n (property_entries iri))) →
    tally f (types tt) ≡ total f (node_entries scope n (type_entries tt)) →
    tally f (held tt) ≡ total f (node_map (graph_of n) (held_items tt)) →
    tally f (included_says tt) ≡ total f (node_map scope (included_items tt)) →
    tally f (nested tt) ≡ total f (node_entries scope n (nested_entries tt)) →
    tally f (reversed tt) ≡ total f (node_entries scope n (reversed_entries tt)) →
    tally f (by_key k properties types held included_says nested reversed)
    ≡ total f (node_entries scope n (ex.said_by k property_entries type_entries held_items included_items nested_entries reversed_entries))
unfolding node_map
key-says f n scope (property iri) ps ts gs is ns rs pe te gi ii ne re hp ht hg hi hn hr = hp iri
key-says f n scope kind ps ts gs is ns rs pe te gi ii ne re hp ht hg hi hn hr = ht
key-says f n scope graph ps ts gs is ns rs pe te gi ii ne re hp ht hg hi hn hr = omega (arith, hg, total-append f (node_map (graph_of n) (gi tt)) [])
key-says f n scope included ps ts gs is ns rs pe te gi ii ne re hp ht hg hi hn hr = omega (arith, hi, total-append f (node_map scope (ii tt)) [])
key-says f n scope nest ps ts gs is ns rs pe te gi ii ne re hp ht hg hi hn hr = hn
key-says f n scope reverse ps ts gs is ns rs pe te gi ii ne re hp ht hg hi hn hr = hr
key-says f n scope k ps ts gs is ns rs pe te gi ii ne re hp ht hg hi hn hr = refl

admitted-says : (f : Parts → ℕ) (n : Option Term) (scope : GraphScope) (b : Bool) (mine : Unit {0} → List Parts) (theirs : Unit {0} → NodeEntries) →
    tally f (mine tt) ≡ total f (node_entries scope n (theirs tt)) → tally f (if_given b mine) ≡ total f (node_entries scope n (ex.if_admitted b theirs))
unfolding node_map
admitted-says f n scope true mine theirs h = h
admitted-says f n scope false mine theirs h = refl

-- what stands round the items of an inner list, and round the values of a map's entry
nothing-added : (xs : Items) → all_with_addition adds_nothing xs ≡ xs
nothing-added no_more = refl
nothing-added (more x xs) = ap (more x) (nothing-added xs)

list-placed : (around : Around) (xs : Stand → Items) → placed (inside_list around) (xs (stand_of (inside_list around))) ≡ xs (stand_of around)
list-placed document xs = refl
list-placed ordinary xs = refl
list-placed graphs xs = refl
list-placed (map_entry adds) xs = nothing-added (xs entry)
list-placed (graph_map_entry adds) xs = nothing-added (xs graph_entry)

entry-placed : (b : Bool) (adds : Addition) (xs : Stand → Items) →
    placed (elim b [ true ↦ graph_map_entry adds | false ↦ map_entry adds ]) (xs (stand_of (elim b [ true ↦ graph_map_entry adds | false ↦ map_entry adds ])))
    ≡ all_with_addition adds (xs (elim b [ true ↦ graph_entry | false ↦ entry ]))
entry-placed true adds xs = refl
entry-placed false adds xs = refl

linked-head : (xs : Items) (h : Head) → (items_say linked xs h).1 ≡ h
linked-head no_more h = refl
linked-head (more x xs) h = linked-head xs h

inner-says : (f : Parts → ℕ) (b : Bool) (p : Spot) (at : ℕ) (content : Content) (joined : Unit {0} → Said) (xs : Items) →
    ContentIs f content xs → SaysItems f (joined tt) p.role.around p.role.hanging xs p.head →
    SaysItems f (inner_says b p at content joined) p.role.around p.role.hanging (ex.inner_array b (stand_of p.role.around) at xs) p.head
inner-says f true p at content joined xs c j = list-alike f p.role.around p.role.hanging at content xs p.head c
inner-says f false p at content joined xs c j = j

key-is-by : (f : Parts → ℕ) (b : Bool) (around : Around) (hanging : Hanging) (h : Head) (mine : Unit {0} → Said) (next : Head → Said) (xs : Unit {0} → Items) (rest : Items) →
    SaysItems f (mine tt) around hanging (xs tt) h → ((k : Head) → SaysItems f (next k) around hanging rest k) →
    SaysItems f (then_says (if_key_is b mine h) next) around hanging (ex.if_key_is b xs rest) h
key-is-by f true around hanging h mine next xs rest m r = says-both f around hanging (mine tt) next (xs tt) rest h m r
key-is-by f false around hanging h mine next xs rest m r = r h

nested-by : (f : Parts → ℕ) (n : Option Term) (scope : GraphScope) (r : Result Inside Code) (mine : Inside → List Parts) (theirs : Inside → NodeEntries) →
    ((j : Inside) → tally f (mine j) ≡ total f (node_entries scope n (theirs j))) → tally f (nested_quads r mine) ≡ total f (node_entries scope n (ex.nested_said r theirs))
unfolding node_map
nested-by f n scope (Ok j) mine theirs h = h j
nested-by f n scope (Err e) mine theirs h = refl

reversed-by : (f : Parts → ℕ) (n : Option Term) (scope : GraphScope) (r : Result Inside Fault) (mine : Inside → List Parts) (theirs : Inside → NodeEntries) →
    ((j : Inside) → tally f (mine j) ≡ total f (node_entries scope n (theirs j))) → tally f (decided_quads r mine) ≡ total f (node_entries scope n (ex.decided_said r theirs))
unfolding node_map
reversed-by f n scope (Ok j) mine theirs h = h j
reversed-by f n scope (Err e) mine theirs h = refl

entry-by : (f : Parts → ℕ) (h : Head) (adds : Addition) (r : Result Context Code) (mine : Context → List Parts) (theirs : Context → Option Items) →
    ((c : Context) → tally f (mine c) ≡ tally f (items_say linked (all_with_addition adds (given (theirs c))) h).0) →
    Alike f (in_entry r mine, h) (items_say linked (all_with_addition adds (ex.in_entry r theirs)) h)
entry-by f h adds (Ok c) mine theirs e = (e c, sym (linked-head (all_with_addition adds (given (theirs c))) h))
entry-by f h adds (Err x) mine theirs e = (refl, refl)

mutual
  unfolding walk expand node_map

  pub walk-is : (f : Parts → ℕ) (s : Settings) (p : Spot) (t : Tree) →
      SaysItems f (walk s p t) p.role.around p.role.hanging (given (expand s p.context p.under (stand_of p.role.around) t)) p.head
  walk-is f s p (scalar at v) = scalar-says f s p p.under at v
  walk-is f s p (array at xs) =
      subst (λ zs. Alike f (walk_all s (moved p (inside p.role.around) p.head) xs) (items_say p.role.hanging zs p.head))
      (inside-placed p.role.around (λ stand. expand_all s p.context p.under stand xs))
      (all-is f s (moved p (inside p.role.around) p.head) xs)
  walk-is f s p (object at ms) =
      decided-says f p (decide s p.context p.under (stand_of p.role.around) at ms) _ _
      (λ i. object-says f (shape_of (reads_as_graph s p.context p.under (stand_of p.role.around) at i ms) (entries s i own_member p.under ms)) p i at ms
      (λ hanging h. walk_key s i is_list (spot i.final p.under ordinary hanging h) ms)
      (λ _. walk_key s i is_set (spot i.final p.under (inside p.role.around) p.role.hanging p.head) ms)
      (λ _. walk_key s i is_graph (spot i.final graph_property ordinary p.role.hanging p.head) ms)
      (λ n scope. members_say s i own_member n scope ms)
      (λ _. with_key s i is_list p.under elsewhere ms)
      (λ _. with_key s i is_set p.under (inside_of (stand_of p.role.around)) ms)
      (λ _. with_key s i is_graph graph_property elsewhere ms)
      (λ _. ex.members_say s i own_member ms)
      (λ hanging h. key-is f s i is_list p.under ordinary hanging h ms)
      (subst (λ zs. Alike f (walk_key s i is_set (spot i.final p.under (inside p.role.around) p.role.hanging p.head) ms) (items_say p.role.hanging zs p.head))
      (inside-placed p.role.around (λ stand. with_key s i is_set p.under stand ms))
      (key-is f s i is_set p.under (inside p.role.around) p.role.hanging p.head ms))
      (key-is f s i is_graph graph_property ordinary p.role.hanging p.head ms)
      (λ n scope. members-are f s i own_member n scope ms))

  pub all-is : (f : Parts → ℕ) (s : Settings) (p : Spot) (xs : Trees) →
      SaysItems f (walk_all s p xs) p.role.around p.role.hanging (expand_all s p.context p.under (stand_of p.role.around) xs) p.head
  all-is f s p no_item = says-none f p.role.around p.role.hanging p.head
  all-is f s p (item (array at xs) rest) =
      let around = p.role.around in
      let stand = stand_of around in
      let is_list = lists (term_under p.context p.under) in
      let mine = inner_says is_list p at (λ hanging h. walk_all s (spot p.context p.under (inside_list around) hanging h) xs) (λ _. walk_all s p xs) in
      says-both f around p.role.hanging mine (λ h. walk_all s (moved p around h) rest)
      (ex.inner_array is_list stand at (expand_all s p.context p.under stand xs)) (expand_all s p.context p.under stand rest) p.head
      (inner-says f is_list p at (λ hanging h. walk_all s (spot p.context p.under (inside_list around) hanging h) xs) (λ _. walk_all s p xs) (expand_all s p.context p.under stand xs)
      (λ hanging h. subst (λ zs. Alike f (walk_all s (spot p.context p.under (inside_list around) hanging h) xs) (items_say hanging zs h))
      (list-placed around (λ stand. expand_all s p.context p.under stand xs))
      (all-is f s (spot p.context p.under (inside_list around) hanging h) xs))
      (all-is f s p xs))
      (λ h. all-is f s (moved p around h) rest)
  all-is f s p (item x rest) =
      let around = p.role.around in
      let stand = stand_of around in
      says-both f around p.role.hanging (walk s p x) (λ h. walk_all s (moved p around h) rest)
      (given (expand s p.context p.under stand x)) (expand_all s p.context p.under stand rest) p.head
      (walk-is f s p x) (λ h. all-is f s (moved p around h) rest)

  pub key-is : (f : Parts → ℕ) (s : Settings) (i : Inside) (test : Key → Bool) (under : Under) (around : Around) (hanging : Hanging) (h : Head) (ms : Members) →
      SaysItems f (walk_key s i test (spot i.final under around hanging h) ms) around hanging (with_key s i test under (stand_of around) ms) h
  key-is f s i test under around hanging h no_member = says-none f around hanging h
  key-is f s i test under around hanging h (member a n v rest) =
      key-is-by f (test (key_of i.final n)) around hanging h (λ _. walk s (spot i.final under around hanging h) v)
      (λ k. walk_key s i test (spot i.final under around hanging k) rest)
      (λ _. given (expand s i.final under (stand_of around) v)) (with_key s i test under (stand_of around) rest)
      (walk-is f s (spot i.final under around hanging h) v)
      (λ k. key-is f s i test under around hanging k rest)

  pub members-are : (f : Parts → ℕ) (s : Settings) (i : Inside) (role : Role) (n : Option Term) (scope : GraphScope) (ms : Members) →
      tally f (members_say s i role n scope ms) ≡ total f (node_entries scope n (ex.members_say s i role ms))
  members-are f s i role n scope no_member = refl
  members-are f s i role n scope (member a name v rest) =
      let d = i.final in
      let t = term d name in
      let k = key_of d name in
      let at = λ (iri : Text). property_head role t iri n scope in
      let values = λ (around : Around) (hanging : Hanging) (h : Head). walk s (spot d (property_of name) around hanging h) v in
      let its_items = expand s d (property_of name) elsewhere v in
      let is_list = is_list_object s d (property_of name) elsewhere v in
      let properties = λ (iri : Text). by_form (form_of t v) t
      (λ _. link (at iri) (term_of_value (json_value v)))
      (λ _. language_map_says (at iri) d v)
      (λ t. map_says s d t name (at iri) v)
      (λ _. contained_says t is_list (is_given s d (property_of name) v) (at iri) (λ hanging h. values ordinary hanging h) (λ around. (values around linked (at iri)).0)) in
      let property_items = ex.by_form (form_of t v) v t (λ _. ex.language_map d v) (λ t. ex.map_items s d t name v) (λ _. contained t is_list (place_of v) its_items) in
      let mine = λ (u : Unit {0}). by_key k properties
      (λ _. types_say n scope i.base (type_strings v))
      (λ _. (walk s (in_graph d graph_property (graph_of n)) v).0)
      (λ _. (walk s (in_graph d no_property scope) v).0)
      (λ _. nested_quads (nest_inside s i name) (λ j. nested_says s j n scope v))
      (λ _. reversed_says s d n scope v) in
      let theirs = λ (u : Unit {0}). ex.said_by k
      (λ iri. said_of (goes_forward role t) iri property_items)
      (λ _. types_said i.base (type_strings v))
      (λ _. given (expand s d graph_property elsewhere v))
      (λ _. given (expand s d no_property elsewhere v))
      (λ _. ex.nested_said (nest_inside s i name) (λ j. ex.nested s j v))
      (λ _. ex.reversed s d v) in
      omega (
        arith,
        members-are f s i role n scope rest,
        tally-append f (if_given (is_admitted role k) mine) (members_say s i role n scope rest),
        entries-then f scope n (ex.if_admitted (is_admitted role k) theirs) (ex.members_say s i role rest),
        admitted-says f n scope (is_admitted role k) mine theirs
            (key-says f n scope k _ _ _ _ _ _ _ _ _ _ _ _
            (λ iri. form-says f (form_of t v) v t (at iri) _ _ _ _ _ _
            (language-map f (at iri) d v)
            (λ t. map-is f s d t name (at iri) v)
            (contained-says f t is_list (place_of v) its_items (is_given s d (property_of name) v) (at iri) (λ hanging h. values ordinary hanging h) (λ around. (values around linked (at iri)).0)
            (given-is s d name v)
            (λ hanging h. walk-is f s (spot d (property_of name) ordinary hanging h) v)
            (walk-is f s (spot d (property_of name) graphs linked (at iri)) v).0
            (walk-is f s (spot d (property_of name) ordinary linked (at iri)) v).0)
            ∙ sym (said-of f n scope (goes_forward role t) iri property_items))
            (types-say f n scope i.base (type_strings v))
            ((walk-is f s (in_graph d graph_property (graph_of n)) v).0 ∙ (loose-items f (given (expand s d graph_property elsewhere v)) (graph_head (graph_of n))).0)
            ((walk-is f s (in_graph d no_property scope) v).0 ∙ (loose-items f (given (expand s d no_property elsewhere v)) (graph_head scope)).0)
            (nested-by f n scope (nest_inside s i name) _ _ (λ j. nested-is f s j n scope v))
            (reversed-is f s d n scope v)),
      )

  nested-is : (f : Parts → ℕ) (s : Settings) (i : Inside) (n : Option Term) (scope : GraphScope) (t : Tree) →
      tally f (nested_says s i n scope t) ≡ total f (node_entries scope n (ex.nested s i t))
  nested-is f s i n scope (scalar at v) = refl
  nested-is f s i n scope (array at xs) = all-nested-is f s i n scope xs
  nested-is f s i n scope (object at ms) = members-are f s i nested_member n scope ms

  all-nested-is : (f : Parts → ℕ) (s : Settings) (i : Inside) (n : Option Term) (scope : GraphScope) (xs : Trees) →
      tally f (all_nested_say s i n scope xs) ≡ total f (node_entries scope n (ex.all_nested s i xs))
  all-nested-is f s i n scope no_item = refl
  all-nested-is f s i n scope (item (object at ms) rest) =
      omega (
        arith,
        members-are f s i nested_member n scope ms,
        all-nested-is f s i n scope rest,
        tally-append f (members_say s i nested_member n scope ms) (all_nested_say s i n scope rest),
        entries-then f scope n (ex.members_say s i nested_member ms) (ex.all_nested s i rest),
      )
  all-nested-is f s i n scope (item x rest) = all-nested-is f s i n scope rest

  reversed-is : (f : Parts → ℕ) (s : Settings) (c : Context) (n : Option Term) (scope : GraphScope) (t : Tree) →
      tally f (reversed_says s c n scope t) ≡ total f (node_entries scope n (ex.reversed s c t))
  reversed-is f s c n scope (scalar at v) = refl
  reversed-is f s c n scope (array at xs) = refl
  reversed-is f s c n scope (object at ms) =
      reversed-by f n scope (decide s c reverse_property elsewhere at ms) _ _ (λ i. members-are f s i reversed_member n scope ms)

  map-is : (f : Parts → ℕ) (s : Settings) (d : Context) (t : TermDef) (name : Text) (h : Head) (v : Tree) →
      tally f (map_says s d t name h v) ≡ tally f (items_say linked (ex.map_items s d t name v) h).0
  map-is f s d t name h (scalar at v) = refl
  map-is f s d t name h (array at xs) = refl
  map-is f s d t name h (object at ms) = (entries-are f s d t name h ms).0

  entries-are : (f : Parts → ℕ) (s : Settings) (d : Context) (t : TermDef) (name : Text) (h : Head) (ms : Members) →
      Alike f (map_entries_say s d t name h ms, h) (items_say linked (ex.map_entries s d t name ms) h)
  entries-are f s d t name h no_member = (refl, refl)
  entries-are f s d t name h (member a n v rest) =
      let adds = addition d t n in
      let r = entry_context s d t n in
      let around = entry_around s d t n in
      let mine = λ (c : Context). (walk s (spot c (property_of name) around linked h) v).0 in
      let theirs = λ (c : Context). expand s c (property_of name) (entry_stand t) v in
      let xs = all_with_addition adds (ex.in_entry r theirs) in
      let rest_items = ex.map_entries s d t name rest in
      alike-trans f _ _ _
      (then-alike f (in_entry r mine, h) (items_say linked xs h) (λ k. (map_entries_say s d t name k rest, k)) (λ k. items_say linked rest_items k)
      (entry-by f h adds r mine theirs
      (λ c. (subst (λ zs. Alike f (walk s (spot c (property_of name) around linked h) v) (items_say linked zs h))
      (entry-placed t.containers.graph adds (λ stand. given (expand s c (property_of name) stand v)))
      (walk-is f s (spot c (property_of name) around linked h) v)).0))
      (λ k. entries-are f s d t name k rest))
      (alike-sym f _ _ (items-both f linked xs rest_items h))

pub says-dataset : (f : Parts → ℕ) (s : Settings) (t : Tree) → tally f (says s (root_spot s) t) ≡ tally f (dataset s t)
unfolding dataset
says-dataset f s t =
    let xs = given (expand s (initial s.base) no_property root t) in
    (walk-is f s (root_spot s) t).0 ∙ (loose-items f xs (graph_head Main)).0
