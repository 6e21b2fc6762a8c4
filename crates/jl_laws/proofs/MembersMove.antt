-- The order of an object's members doesn't change what it says.
use Rattle.std.proofs.Common.{ℕ, if◌then◌else◌, ◌+◌, ◌≤◌, ◌≡◌, ◌⊎◌, inl, inr, refl, sym, ◌∙◌, ap, subst, Bool, true, false, not, ◌&&◌, ◌||◌, List, [], ◌∷◌, ◌++◌, Option, Some, None, Result, Ok, Err, arith}
use Rattle.std.proofs.lemmas.List.{append-nil}
use Rattle.std.specs.List.{list_any}
use Rattle.jl_model.specs.JsonTree.{Tree, scalar, array, object, Trees, no_item, item, Members, no_member, member}
use Rattle.jl_model.specs.Parts.{Parts}
use Rattle.jl_model.specs.declared.faults.Fault.{Fault}
use Rattle.jl_model.specs.declared.codes.Code.{Code}
use Rattle.jl_model.specs.declared.orders.Order.{Order}
use Rattle.jl_model.specs.declared.orders.Order.TheVariants.{Any, Streaming}
use Rattle.jl_model.specs.declared.terms.Term.{Term}
use Rattle.jl_model.specs.declared.graph_scopes.GraphScope.{GraphScope}
use Rattle.jl_defs.specs.Texts.{Text}
use Rattle.jl_defs.specs.Context.{Context}
use Rattle.jl_defs.specs.Process.{Library}
use Rattle.jl_defs.specs.Settings.{Settings, Under, graph_property, Stand, root, entry, graph_entry, elsewhere, inside_of, drops}
use Rattle.jl_defs.specs.Keys.{Key, its_context, list, reverse, nest, other, dropped, property, key_of, is_id, is_kind, is_value, is_language, is_graph, is_list, is_set, is_index}
use Rattle.jl_defs.specs.ObjectContexts.{Own, Look, Inside, means_value, is_single_id, may_go_back, goes_back, starting, type_keys, type_texts, type_base, final_context, input_type, at_place, and_then, decide_by, all_looks, any_context, decide}
use Rattle.jl_defs.specs.Values.{Valued, left_out}
use Rattle.jl_defs.specs.ValueObjects.{first_with, ValueType, value_type, value_in, value_object as value_of_object, object_value, string_or_none, is_null, is_json_type, unless_refused}
use Rattle.jl_defs.specs.Items.{Items, NodeEntries}
use Rattle.jl_defs.specs.Kept.{Role, own_member, nested_member, is_admitted, nest_inside, is_only_language, if_key, entries_by, nested_keys, decided_bool, value_gives, entries, nested_entries, all_nested_entries}
use Rattle.jl_defs.specs.Graphs.{Shape, value_object, list_object, set_object, language_alone, graph_alone, node_object, without_names, is_graph_by_all, reads_as_graph, shape_of}
use Rattle.jl_defs.specs.Dataset.{Head, term_of_value}
use Rattle.jl_defs.specs.Expansion as ex
use Rattle.jl_defs.specs.Expansion.{with_key, naming, naming_of, id_text}
use Rattle.jl_defs.specs.Sets.{tally}
use Rattle.jl_laws.specs.Spots.{Around, document, ordinary, Spot, spot, stand_of, inside, moved, Said, nothing, then_says, Own as OwnQuads, node_says, value_says, graph_object_says, Content}
use Rattle.jl_laws.specs.Says.{decided_says, value_at_spot, graph_at_spot, object_says, if_key_is, walk, walk_key, members_say, says}
use Rattle.jl_laws.specs.Reordering.{Reordered, HasNamesOnce, IsFaultless, AreReadAlike}
use Rattle.jl_laws.specs.Laws.{MembersMove}
use Rattle.jl_laws.proofs.Bools.{true-false, choice}
use Rattle.jl_laws.proofs.Counting.{tally-append, same-set}
use Rattle.jl_laws.proofs.Equality.{parts_eq}
use Rattle.jl_laws.proofs.Decided.{streaming}
use Rattle.jl_laws.proofs.StreamingDecides.{all-decide}
use Rattle.jl_laws.proofs.LateStays.{member_entries, entries-then}
use Rattle.jl_laws.proofs.ItemsSay.{Alike, alike-refl, alike-trans, alike-sym, items_say, ContentIs, OwnAre}
use Rattle.jl_laws.proofs.Frames.{SaysItems, object-says, inside-placed, key-is, members-are}
use Rattle.jl_laws.proofs.Reorder.{sum, sum-same, one_if, count, one-true, one-false, first-same, type-same, SameCounts, any-same, is_single, single-same, language-same, alone-same, names-same, context-same, looks-same, kinds-same}
use Rattle.jl_laws.proofs.MembersOnce.{ComesOnce, id-once, value-once, language-once, graph-once, set-once, list-once, faultless-once}

-- the settings in any order
abbrev any_order : Option Text → Library → Settings
any_order base library = record { order = Any; base = base; library = library }

-- contexts
single-id-same : (c : Context) (own : Option Own) (xs ys : List Look) → SameCounts xs ys → is_single_id c own xs ≡ is_single_id c own ys
single-id-same c None xs ys h = single-by xs ∙ (single-same (λ x. is_id (key_of c x.name)) xs ys h ∙ sym (single-by ys))
  where
    single-by : (xs : List Look) → is_single_id c None xs ≡ is_single (λ x. is_id (key_of c x.name)) xs
    single-by [] = refl
    single-by (x ∷ []) = refl
    single-by (x ∷ y ∷ xs) = refl
single-id-same c (Some o) xs ys h = refl

goes-same : (c : Context) (stand : Stand) (own : Option Own) (xs ys : List Look) → SameCounts xs ys → goes_back c stand own xs ≡ goes_back c stand own ys
goes-same c stand own xs ys h =
    ap (λ b. may_go_back c stand && (not b && not (is_single_id c own xs))) (any-same (means_value c) xs ys h)
    ∙ ap (λ b. may_go_back c stand && (not (list_any (means_value c) ys) && not b)) (single-id-same c own xs ys h)

then-same : {A B : Type 0} (r : Result A Fault) (F G : A → Result B Fault) → ((x : A) → F x ≡ G x) → and_then r F ≡ and_then r G
then-same (Ok x) F G h = h x
then-same (Err e) F G h = refl

decide-by-same : (s : Settings) (c : Context) (under : Under) (stand : Stand) (at : ℕ) (own : Option Own) (xs ys : List Look) → SameCounts xs ys → ((b : Context) → type_keys b xs ≡ type_keys b ys) →
    decide_by s c under stand at own xs ≡ decide_by s c under stand at own ys
decide-by-same s c under stand at own xs ys h k =
    let final = λ (b : Context) (ks : List Look).
    and_then (at_place at (final_context s b (type_texts ks) b))
    (λ d. Ok (record { outside = c; could_go_back = may_go_back c stand; base = b; final = d; input = input_type d ks })) in
    ap (λ g. and_then (type_base s c under at own (starting c g)) (λ b. final b (type_keys b xs))) (goes-same c stand own xs ys h)
    ∙ then-same (type_base s c under at own (starting c (goes_back c stand own ys))) (λ b. final b (type_keys b xs)) (λ b. final b (type_keys b ys)) (λ b. ap (final b) (k b))

decide-same : (base : Option Text) (library : Library) (c : Context) (under : Under) (stand : Stand) (at : ℕ) (ms ns : Members) → Reordered ms ns → HasNamesOnce ns →
    decide (any_order base library) c under stand at ms ≡ decide (any_order base library) c under stand at ns
unfolding decide
decide-same base library c under stand at ms ns r h =
    let s = any_order base library in
    ap (λ o. decide_by s c under stand at o (all_looks ms)) (context-same ms ns r h)
    ∙ decide-by-same s c under stand at (any_context ns) (all_looks ms) (all_looks ns) (looks-same ms ns r) (λ b. kinds-same b ms ns r h)

-- entries
entries-sum : (g : Key → ℕ) (s : Settings) (i : Inside) (under : Under) (ms : Members) →
    tally g (entries s i own_member under ms) ≡ sum (λ a n v. tally g (entries s i own_member under (member a n v no_member))) ms
unfolding entries
entries-sum g s i under no_member = refl
entries-sum g s i under (member a n v rest) =
    let one = entries s i own_member under (member a n v no_member) in
    omega (
      arith,
      entries-sum g s i under rest,
      ap (tally g) (entries-then s i own_member under (member a n v no_member) rest),
      tally-append g one (entries s i own_member under rest),
    )

pub entries-same : (s : Settings) (i : Inside) (under : Under) (ms ns : Members) → Reordered ms ns → SameCounts (entries s i own_member under ms) (entries s i own_member under ns)
entries-same s i under ms ns r g =
    entries-sum g s i under ms
    ∙ (sum-same (λ a n v. tally g (entries s i own_member under (member a n v no_member))) ms ns r ∙ sym (entries-sum g s i under ns))

abbrev shape_by : Bool → Bool → Bool → Bool → Bool → Shape
shape_by v l m o g =
    if v then value_object
    else (if l then list_object else (if m then set_object else (if o then language_alone else (if g then graph_alone else node_object))))

shape-same : (g h : Bool) (ks ls : List Key) → SameCounts ks ls → g ≡ h → shape_of g ks ≡ shape_of h ls
shape-same g h ks ls c e =
    ap (λ b. shape_by b (list_any is_list ks) (list_any is_set ks) (is_only_language ks) g) (any-same is_value ks ls c)
    ∙ (ap (λ b. shape_by (list_any is_value ls) b (list_any is_set ks) (is_only_language ks) g) (any-same is_list ks ls c)
    ∙ (ap (λ b. shape_by (list_any is_value ls) (list_any is_list ls) b (is_only_language ks) g) (any-same is_set ks ls c)
    ∙ (ap (λ b. shape_by (list_any is_value ls) (list_any is_list ls) (list_any is_set ls) b g) (language-same ks ls c)
    ∙ ap (λ b. shape_by (list_any is_value ls) (list_any is_list ls) (list_any is_set ls) (is_only_language ls) b) e)))

graph-role-same : (stand : Stand) (ks ls : List Key) → SameCounts ks ls → is_graph_by_all stand ks ≡ is_graph_by_all stand ls
graph-role-same root ks ls h = alone-same ks ls h
graph-role-same graph_entry ks ls h = alone-same (without_names ks) (without_names ls) (names-same ks ls h)
graph-role-same entry ks ls h = refl
graph-role-same elsewhere ks ls h = refl

-- what members say of their node
split : (f : Parts → ℕ) (xs ys : List Parts) → tally f (xs ++ ys) ≡ tally f (xs ++ []) + tally f ys
split f xs ys = omega (arith, tally-append f xs ys, tally-append f xs [])

members-sum : (f : Parts → ℕ) (s : Settings) (i : Inside) (role : Role) (n : Option Term) (scope : GraphScope) (ms : Members) →
    tally f (members_say s i role n scope ms) ≡ sum (λ a m v. tally f (members_say s i role n scope (member a m v no_member))) ms
unfolding walk
members-sum f s i role n scope no_member = refl
members-sum f s i role n scope (member a m v rest) = split f _ _ ∙ ap (λ k. tally f (members_say s i role n scope (member a m v no_member)) + k) (members-sum f s i role n scope rest)

members-same : (f : Parts → ℕ) (s : Settings) (i : Inside) (role : Role) (n : Option Term) (scope : GraphScope) (ms ns : Members) → Reordered ms ns →
    tally f (members_say s i role n scope ms) ≡ tally f (members_say s i role n scope ns)
members-same f s i role n scope ms ns r =
    members-sum f s i role n scope ms
    ∙ (sum-same (λ a m v. tally f (members_say s i role n scope (member a m v no_member))) ms ns r ∙ sym (members-sum f s i role n scope ns))

-- the value of a key that comes once
abbrev first_says : Settings → Spot → Option Tree → Said
first_says s p None = nothing p.head
first_says s p (Some v) = walk s p v

key-none : (s : Settings) (i : Inside) (test : Key → Bool) (p : Spot) (ms : Members) → count test i.final ms ≡ 0 → walk_key s i test p ms ≡ nothing p.head
unfolding walk
key-none s i test p no_member e = refl
key-none s i test p (member a n v rest) e = by (test (key_of i.final n)) refl (λ e'. key-none s i test p rest e')
  where
    by : (b : Bool) → test (key_of i.final n) ≡ b → (count test i.final rest ≡ 0 → walk_key s i test p rest ≡ nothing p.head) →
        then_says (if_key_is b (λ _. walk s p v) p.head) (λ h. walk_key s i test (moved p p.role.around h) rest) ≡ nothing p.head
    by true h next = absurd (omega (arith, e, one-true (test (key_of i.final n)) h))
    by false h next = next (omega (arith, e, one-false (test (key_of i.final n)) h))

then-nothing : (f : Parts → ℕ) (x : Said) (next : Head → Said) → ((h : Head) → next h ≡ nothing h) → Alike f (then_says x next) x
then-nothing f x next e = (omega (arith, tally-append f x.0 (next x.1).0, ap (λ y. tally f y.0) (e x.1)), ap (λ y. y.1) (e x.1))

key-first : (f : Parts → ℕ) (s : Settings) (i : Inside) (test : Key → Bool) (p : Spot) (ms : Members) → count test i.final ms ≤ 1 → Alike f (walk_key s i test p ms) (first_says s p (first_with test i.final ms))
unfolding walk
key-first f s i test p no_member l = alike-refl f (nothing p.head)
key-first f s i test p (member a n v rest) l = by (test (key_of i.final n)) refl (λ l'. key-first f s i test p rest l')
  where
    by : (b : Bool) → test (key_of i.final n) ≡ b → (count test i.final rest ≤ 1 → Alike f (walk_key s i test p rest) (first_says s p (first_with test i.final rest))) →
        Alike f (then_says (if_key_is b (λ _. walk s p v) p.head) (λ h. walk_key s i test (moved p p.role.around h) rest))
        (first_says s p (elim b [ true ↦ Some v | false ↦ first_with test i.final rest ]))
    by true e next =
        then-nothing f (walk s p v) (λ h. walk_key s i test (moved p p.role.around h) rest)
        (λ h. key-none s i test (moved p p.role.around h) rest (omega (arith, l, one-true (test (key_of i.final n)) e)))
    by false e next = next (omega (arith, l))

pub key-same : (f : Parts → ℕ) (s : Settings) (i : Inside) (test : Key → Bool) (p : Spot) (ms ns : Members) → Reordered ms ns → count test i.final ns ≤ 1 →
    Alike f (walk_key s i test p ms) (walk_key s i test p ns)
key-same f s i test p ms ns r l =
    let same = sum-same (λ a n v. one_if (test (key_of i.final n))) ms ns r in
    alike-trans f _ (first_says s p (first_with test i.final ns)) _
    (subst (λ o. Alike f (walk_key s i test p ms) (first_says s p o)) (first-same test i.final ms ns r l) (key-first f s i test p ms (omega (arith, l, same))))
    (alike-sym f _ _ (key-first f s i test p ns l))

-- a value object, and the name of a node
abbrev value_from : ValueType → Option Tree → Option Tree → Valued
value_from t language None = left_out
value_from t language (Some v) = object_value t (string_or_none language) v

value-from : (i : Inside) (ms : Members) → value_of_object i ms ≡ value_from (value_type i ms) (first_with is_language i.final ms) (first_with is_value i.final ms)
value-from i ms = by (first_with is_value i.final ms)
  where
    by : (o : Option Tree) → value_in i ms o ≡ value_from (value_type i ms) (first_with is_language i.final ms) o
    by None = refl
    by (Some v) = refl

abbrev SameFirst : (Key → Bool) → Inside → Members → Members → Type 0
SameFirst test i ms ns = first_with test i.final ms ≡ first_with test i.final ns

value-same : (i : Inside) (ms ns : Members) → Reordered ms ns → SameFirst is_value i ms ns → SameFirst is_language i ms ns → value_of_object i ms ≡ value_of_object i ns
value-same i ms ns r v l =
    value-from i ms
    ∙ (ap (λ t. value_from t (first_with is_language i.final ms) (first_with is_value i.final ms)) (type-same is_kind i.base i.final ms ns r)
    ∙ (ap (λ o. value_from (value_type i ns) o (first_with is_value i.final ms)) l
    ∙ (ap (λ o. value_from (value_type i ns) (first_with is_language i.final ns) o) v ∙ sym (value-from i ns))))

gives-same : (under : Under) (i : Inside) (ms ns : Members) → Reordered ms ns → SameFirst is_value i ms ns → value_gives under i ms ≡ value_gives under i ns
gives-same under i ms ns r v =
    ap (λ t. not (drops under) && (is_json_type t || not (is_null (first_with is_value i.final ms)))) (type-same is_kind i.base i.final ms ns r)
    ∙ ap (λ o. not (drops under) && (is_json_type (value_type i ns) || not (is_null o))) v

naming-same : (i : Inside) (ms ns : Members) → SameFirst is_id i ms ns → naming i.final ms ≡ naming i.final ns
naming-same i ms ns e = ap (λ o. naming_of i.final (id_text o)) e

value-spot-same : (b d : Bool) (p : Spot) (i : Inside) (at : ℕ) (ms ns : Members) → b ≡ d → value_of_object i ms ≡ value_of_object i ns → value_at_spot b p i at ms ≡ value_at_spot d p i at ns
value-spot-same true true p i at ms ns e v = ap (λ x. value_says p.role.around p.role.hanging at (term_of_value (unless_refused x)) p.head) v
value-spot-same true false p i at ms ns e v = absurd (true-false e)
value-spot-same false true p i at ms ns e v = absurd (true-false (sym e))
value-spot-same false false p i at ms ns e v = refl

graph-spot-same : (around : Around) (p : Spot) (i : Inside) (at : ℕ) (ms ns : Members) (content : Unit {0} → Said) (own : OwnQuads) → naming i.final ms ≡ naming i.final ns →
    graph_at_spot around p i at ms content own ≡ graph_at_spot around p i at ns content own
graph-spot-same document p i at ms ns content own e = refl
graph-spot-same around p i at ms ns content own e = ap (λ x. graph_object_says around p.role.hanging at x own p.head) e

object-same : (shape : Shape) (p : Spot) (i : Inside) (at : ℕ) (ms ns : Members) (its_list : Content) (its_set content : Unit {0} → Said) (own : OwnQuads) →
    value_gives p.under i ms ≡ value_gives p.under i ns → value_of_object i ms ≡ value_of_object i ns → naming i.final ms ≡ naming i.final ns →
    object_says shape p i at ms its_list its_set content own ≡ object_says shape p i at ns its_list its_set content own
object-same value_object p i at ms ns its_list its_set content own g v e = value-spot-same (value_gives p.under i ms) (value_gives p.under i ns) p i at ms ns g v
object-same list_object p i at ms ns its_list its_set content own g v e = refl
object-same set_object p i at ms ns its_list its_set content own g v e = refl
object-same language_alone p i at ms ns its_list its_set content own g v e = refl
object-same graph_alone p i at ms ns its_list its_set content own g v e = graph-spot-same p.role.around p i at ms ns content own e
object-same node_object p i at ms ns its_list its_set content own g v e = ap (λ x. node_says p.role.around p.role.hanging at x own p.head) e

-- under no property, `@graph` or `@reverse` no entry is a list
list-by : (k : Key) (under : Under) (gives : Unit {0} → Bool) (nested : Unit {0} → List Key) (reverses : Unit {0} → Bool) → drops under ≡ true → list_any is_list (nested tt) ≡ false →
    list_any is_list (entries_by k under gives nested reverses) ≡ false
list-by its_context under gives nested reverses d n = refl
list-by dropped under gives nested reverses d n = refl
list-by other under gives nested reverses d n = refl
list-by (property name) under gives nested reverses d n = by (gives tt)
  where
    by : (b : Bool) → list_any is_list (if_key b (property name ∷ [])) ≡ false
    by true = refl
    by false = refl
list-by nest under gives nested reverses d n = n
list-by reverse under gives nested reverses d n = by (reverses tt)
  where
    by : (b : Bool) → list_any is_list (if_key b (reverse ∷ [])) ≡ false
    by true = refl
    by false = refl
list-by list under gives nested reverses d n = ap (λ b. list_any is_list (if_key (not b) (list ∷ []))) d
list-by k under gives nested reverses d n = refl

if-key-none : (b : Bool) (ks : List Key) → list_any is_list ks ≡ false → list_any is_list (if_key b ks) ≡ false
if-key-none true ks e = e
if-key-none false ks e = refl

any-none : (xs ys : List Key) → list_any is_list xs ≡ false → list_any is_list ys ≡ false → list_any is_list (xs ++ ys) ≡ false
any-none [] ys a b = b
any-none (x ∷ xs) ys a b = by (is_list x) a (λ a'. any-none xs ys a' b)
  where
    by : (c : Bool) → (c || list_any is_list xs) ≡ false → (list_any is_list xs ≡ false → list_any is_list (xs ++ ys) ≡ false) → (c || list_any is_list (xs ++ ys)) ≡ false
    by true e next = absurd (true-false e)
    by false e next = next e

nested-none : (r : Result Inside Code) (answer : Inside → List Key) → ((j : Inside) → list_any is_list (answer j) ≡ false) → list_any is_list (nested_keys r answer) ≡ false
nested-none (Ok j) answer h = h j
nested-none (Err e) answer h = refl

mutual
  unfolding entries

  no-lists : (s : Settings) (i : Inside) (role : Role) (under : Under) (ms : Members) → drops under ≡ true → list_any is_list (entries s i role under ms) ≡ false
  no-lists s i role under no_member d = refl
  no-lists s i role under (member a n v rest) d =
      any-none (member_entries s i role under n v) (entries s i role under rest)
      (if-key-none (is_admitted role (key_of i.final n)) _
      (list-by (key_of i.final n) under _ (λ _. nested_keys (nest_inside s i n) (λ j. nested_entries s j under v)) _ d
      (nested-none (nest_inside s i n) (λ j. nested_entries s j under v) (λ j. no-nested-lists s j under v d))))
      (no-lists s i role under rest d)

  no-nested-lists : (s : Settings) (i : Inside) (under : Under) (t : Tree) → drops under ≡ true → list_any is_list (nested_entries s i under t) ≡ false
  no-nested-lists s i under (scalar at v) d = refl
  no-nested-lists s i under (array at xs) d = no-lists-in-all s i under xs d
  no-nested-lists s i under (object at ms) d = no-lists s i nested_member under ms d

  no-lists-in-all : (s : Settings) (i : Inside) (under : Under) (xs : Trees) → drops under ≡ true → list_any is_list (all_nested_entries s i under xs) ≡ false
  no-lists-in-all s i under no_item d = refl
  no-lists-in-all s i under (item (object at ms) rest) d =
      any-none (entries s i nested_member under ms) (all_nested_entries s i under rest) (no-lists s i nested_member under ms d) (no-lists-in-all s i under rest d)
  no-lists-in-all s i under (item x rest) d = no-lists-in-all s i under rest d

-- where no entry is a list, the content of lists doesn't matter
list-unused : (g : Bool) (ks : List Key) (p : Spot) (i : Inside) (at : ℕ) (ms : Members) (its_list other_list : Content) (its_set content : Unit {0} → Said) (own : OwnQuads) →
    list_any is_list ks ≡ false →
    object_says (shape_of g ks) p i at ms its_list its_set content own ≡ object_says (shape_of g ks) p i at ms other_list its_set content own
list-unused g ks p i at ms its_list other_list its_set content own e =
    by (list_any is_value ks) (list_any is_list ks) (list_any is_set ks) (is_only_language ks) g e
  where
    by : (v l m o g : Bool) → l ≡ false →
        object_says (shape_by v l m o g) p i at ms its_list its_set content own ≡ object_says (shape_by v l m o g) p i at ms other_list its_set content own
    by true l m o g e = refl
    by false true m o g e = absurd (true-false e)
    by false false true o g e = refl
    by false false false true g e = refl
    by false false false false true e = refl
    by false false false false false e = refl

-- the same object, from what holds of its parts
object-alike : (f : Parts → ℕ) (shape : Shape) (p : Spot) (i : Inside) (at : ℕ) (ms : Members)
    (its_list other_list : Content) (its_set other_set content other_content : Unit {0} → Said) (own other_own : OwnQuads)
    (list_items set_items content_items : Unit {0} → Items) (es : Unit {0} → NodeEntries) →
    ContentIs f its_list (list_items tt) → ContentIs f other_list (list_items tt) →
    SaysItems f (its_set tt) p.role.around p.role.hanging (set_items tt) p.head → SaysItems f (other_set tt) p.role.around p.role.hanging (set_items tt) p.head →
    Alike f (content tt) (items_say p.role.hanging (content_items tt) p.head) → Alike f (other_content tt) (items_say p.role.hanging (content_items tt) p.head) →
    OwnAre f own (es tt) → OwnAre f other_own (es tt) →
    Alike f (object_says shape p i at ms its_list its_set content own) (object_says shape p i at ms other_list other_set other_content other_own)
object-alike f shape p i at ms its_list other_list its_set other_set content other_content own other_own list_items set_items content_items es l l' m m' c c' o o' =
    alike-trans f _ _ _
    (object-says f shape p i at ms its_list its_set content own list_items set_items content_items es l m c o)
    (alike-sym f _ _ (object-says f shape p i at ms other_list other_set other_content other_own list_items set_items content_items es l' m' c' o'))

-- what a decided object says
abbrev inside_says : Settings → Spot → ℕ → Members → Inside → Said
inside_says s p at ms i =
    object_says (shape_of (reads_as_graph s p.context p.under (stand_of p.role.around) at i ms) (entries s i own_member p.under ms)) p i at ms
    (λ hanging h. walk_key s i is_list (spot i.final p.under ordinary hanging h) ms)
    (λ _. walk_key s i is_set (spot i.final p.under (inside p.role.around) p.role.hanging p.head) ms)
    (λ _. walk_key s i is_graph (spot i.final graph_property ordinary p.role.hanging p.head) ms)
    (λ n scope. members_say s i own_member n scope ms)

abbrev list_content : Settings → Spot → Members → Inside → Content
list_content s p ms i hanging h = walk_key s i is_list (spot i.final p.under ordinary hanging h) ms

-- the lists are the same, where they count
lists-same : (f : Parts → ℕ) (s : Settings) (p : Spot) (at : ℕ) (ms ns : Members) (i : Inside) → Reordered ms ns →
    (drops p.under ≡ false → count is_list i.final ns ≤ 1) →
    (its_content : Content) × ContentIs f its_content (with_key s i is_list p.under elsewhere ns)
    × ((its_set content : Unit {0} → Said) (own : OwnQuads) →
    object_says (shape_of (reads_as_graph s p.context p.under (stand_of p.role.around) at i ns) (entries s i own_member p.under ns)) p i at ns (list_content s p ms i) its_set content own
    ≡ object_says (shape_of (reads_as_graph s p.context p.under (stand_of p.role.around) at i ns) (entries s i own_member p.under ns)) p i at ns its_content its_set content own)
lists-same f s p at ms ns i r l = by (choice (drops p.under))
  where
    stand : Stand
    stand = stand_of p.role.around

    reads : Bool
    reads = reads_as_graph s p.context p.under stand at i ns

    ks : List Key
    ks = entries s i own_member p.under ns

    by : (drops p.under ≡ true) ⊎ (drops p.under ≡ false) →
        (its_content : Content) × ContentIs f its_content (with_key s i is_list p.under elsewhere ns)
        × ((its_set content : Unit {0} → Said) (own : OwnQuads) →
        object_says (shape_of reads ks) p i at ns (list_content s p ms i) its_set content own ≡ object_says (shape_of reads ks) p i at ns its_content its_set content own)
    by (inl d) = (
      list_content s p ns i,
      (λ hanging h. key-is f s i is_list p.under ordinary hanging h ns),
      (λ its_set content own. list-unused reads ks p i at ns (list_content s p ms i) (list_content s p ns i) its_set content own (no-lists s i own_member p.under ns d)),
    )
    by (inr d) = (
      list_content s p ms i,
      (λ hanging h. alike-trans f _ _ _ (key-same f s i is_list (spot i.final p.under ordinary hanging h) ms ns r (l d)) (key-is f s i is_list p.under ordinary hanging h ns)),
      (λ its_set content own. refl),
    )

-- a decided object says the same in another order
inside-same : (f : Parts → ℕ) (s : Settings) (p : Spot) (at : ℕ) (ms ns : Members) (i : Inside) → Reordered ms ns →
    reads_as_graph s p.context p.under (stand_of p.role.around) at i ms ≡ reads_as_graph s p.context p.under (stand_of p.role.around) at i ns →
    ((test : Key → Bool) → ComesOnce test p.under → count test i.final ns ≤ 1) →
    Alike f (inside_says s p at ms i) (inside_says s p at ns i)
inside-same f s p at ms ns i r g once =
    let around = p.role.around in
    let hanging = p.role.hanging in
    let stand = stand_of around in
    let set_at = λ (xs : Members). walk_key s i is_set (spot i.final p.under (inside around) hanging p.head) xs in
    let graph_at = λ (xs : Members). walk_key s i is_graph (spot i.final graph_property ordinary hanging p.head) xs in
    let own_at = λ (xs : Members) (n : Option Term) (scope : GraphScope). members_say s i own_member n scope xs in
    let v = first-same is_value i.final ms ns r (once is_value (value-once p.under)) in
    let l = first-same is_language i.final ms ns r (once is_language (language-once p.under)) in
    let e = first-same is_id i.final ms ns r (once is_id (id-once p.under)) in
    let its_list = lists-same f s p at ms ns i r (λ d. once is_list (list-once p.under d)) in
    let shape = shape_of (reads_as_graph s p.context p.under stand at i ns) (entries s i own_member p.under ns) in
    let set_is = subst (λ zs. Alike f (set_at ns) (items_say hanging zs p.head)) (inside-placed around (λ stand. with_key s i is_set p.under stand ns))
    (key-is f s i is_set p.under (inside around) hanging p.head ns) in
    let graph_is = key-is f s i is_graph graph_property ordinary hanging p.head ns in
    let whole = λ (sh : Shape) (xs : Members). object_says sh p i at xs (list_content s p ms i) (λ _. set_at ms) (λ _. graph_at ms) (own_at ms) in
    let same = ap (λ sh. whole sh ms) (shape-same (reads_as_graph s p.context p.under stand at i ms) (reads_as_graph s p.context p.under stand at i ns) (entries s i own_member p.under ms) (entries s i own_member p.under ns) (entries-same s i p.under ms ns r) g)
    ∙ (object-same shape p i at ms ns (list_content s p ms i) (λ _. set_at ms) (λ _. graph_at ms) (own_at ms) (gives-same p.under i ms ns r v) (value-same i ms ns r v l) (naming-same i ms ns e)
    ∙ its_list.2 (λ _. set_at ms) (λ _. graph_at ms) (own_at ms)) in
    subst (λ x. Alike f x (inside_says s p at ns i)) (sym same)
    (object-alike f shape p i at ns its_list.0 (list_content s p ns i) (λ _. set_at ms) (λ _. set_at ns) (λ _. graph_at ms) (λ _. graph_at ns) (own_at ms) (own_at ns)
    (λ _. with_key s i is_list p.under elsewhere ns) (λ _. with_key s i is_set p.under (inside_of stand) ns) (λ _. with_key s i is_graph graph_property elsewhere ns) (λ _. ex.members_say s i own_member ns)
    its_list.1 (λ hanging h. key-is f s i is_list p.under ordinary hanging h ns)
    (alike-trans f _ _ _ (key-same f s i is_set (spot i.final p.under (inside around) hanging p.head) ms ns r (once is_set (set-once p.under))) set_is) set_is
    (alike-trans f _ _ _ (key-same f s i is_graph (spot i.final graph_property ordinary hanging p.head) ms ns r (once is_graph (graph-once p.under))) graph_is) graph_is
    (λ n scope. members-same f s i own_member n scope ms ns r ∙ members-are f s i own_member n scope ns) (λ n scope. members-are f s i own_member n scope ns))

-- an object whose contexts are decided alike says the same in another order
moved-by : (f : Parts → ℕ) (s : Settings) (p : Spot) (at : ℕ) (ms ns : Members) → Reordered ms ns →
    decide s p.context p.under (stand_of p.role.around) at ms ≡ decide s p.context p.under (stand_of p.role.around) at ns →
    ((i : Inside) → decide s p.context p.under (stand_of p.role.around) at ns ≡ Ok i →
    reads_as_graph s p.context p.under (stand_of p.role.around) at i ms ≡ reads_as_graph s p.context p.under (stand_of p.role.around) at i ns) →
    IsFaultless s p (object at ns) → Alike f (walk s p (object at ms)) (walk s p (object at ns))
unfolding walk
moved-by f s p at ms ns r d g e =
    subst (λ x. Alike f (decided_says p.head x (inside_says s p at ms)) (decided_says p.head (decide s p.context p.under stand at ns) (inside_says s p at ns))) (sym d)
    (by (decide s p.context p.under stand at ns) refl)
  where
    stand : Stand
    stand = stand_of p.role.around

    by : (x : Result Inside Fault) → decide s p.context p.under stand at ns ≡ x → Alike f (decided_says p.head x (inside_says s p at ms)) (decided_says p.head x (inside_says s p at ns))
    by (Ok i) h = inside-same f s p at ms ns i r (g i h) (λ test t. faultless-once test p.under t s p.context stand at ns i h e)
    by (Err x) h = alike-refl f (nothing p.head)

-- in the order any
any-role : (base : Option Text) (library : Library) (p : Spot) (at : ℕ) (ms ns : Members) (i : Inside) → Reordered ms ns →
    reads_as_graph (any_order base library) p.context p.under (stand_of p.role.around) at i ms
    ≡ reads_as_graph (any_order base library) p.context p.under (stand_of p.role.around) at i ns
any-role base library p at ms ns i r =
    let s = any_order base library in
    let stand = stand_of p.role.around in
    ap (is_graph_by_all stand) (append-nil (entries s i own_member p.under ms))
    ∙ (graph-role-same stand _ _ (entries-same s i p.under ms ns r)
    ∙ ap (is_graph_by_all stand) (sym (append-nil (entries s i own_member p.under ns))))

-- in streaming order
decided-alike : (r q : Result Inside Fault) (i : Inside) (F G : Inside → Bool) → r ≡ Ok i → q ≡ Ok i → decided_bool r F ≡ decided_bool q G → F i ≡ G i
decided-alike r q i F G e h same = sym (ap (λ x. decided_bool x F) e) ∙ (same ∙ ap (λ x. decided_bool x G) h)

moved-in : (f : Parts → ℕ) (order : Order) (base : Option Text) (library : Library) (p : Spot) (at : ℕ) (ms ns : Members) → Reordered ms ns → HasNamesOnce ns →
    (let s : Settings = record { order = order; base = base; library = library } in
    AreReadAlike s p at ms ns → IsFaultless s p (object at ms) → IsFaultless s p (object at ns) → Alike f (walk s p (object at ms)) (walk s p (object at ns)))
moved-in f Any base library p at ms ns r h alike e e' =
    let s = any_order base library in
    moved-by f s p at ms ns r (decide-same base library p.context p.under (stand_of p.role.around) at ms ns r h) (λ i d. any-role base library p at ms ns i r) e'
moved-in f Streaming base library p at ms ns r h alike e e' =
    let s = streaming base library in
    let c = p.context in
    let stand = stand_of p.role.around in
    let same : decide s c p.under stand at ms ≡ decide s c p.under stand at ns
    = all-decide base library c p.under stand at ms e
    ∙ (ap (λ o. decide_by s c p.under stand at o (all_looks ms)) (context-same ms ns r h)
    ∙ (decide-by-same s c p.under stand at (any_context ns) (all_looks ms) (all_looks ns) (looks-same ms ns r) (λ b. kinds-same b ms ns r h)
    ∙ sym (all-decide base library c p.under stand at ns e'))) in
    moved-by f s p at ms ns r same
    (λ i d. decided-alike (decide s c p.under stand at ms) (decide s c p.under stand at ns) i
    (λ i. reads_as_graph s c p.under stand at i ms) (λ i. reads_as_graph s c p.under stand at i ns) (same ∙ d) d alike)
    e'

pub members-move : MembersMove
members-move s p at ms ns r h alike e e' =
    same-set parts_eq (says s p (object at ms)) (says s p (object at ns))
    (λ f. (moved-in f s.order s.base s.library p at ms ns r h alike e e').0)
