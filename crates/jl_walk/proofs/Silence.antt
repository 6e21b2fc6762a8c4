-- What keeps nothing says nothing, and the shapes of objects whose forms are built.
use Rattle.std.proofs.Common.{ℕ, ◌≡◌, refl, sym, ◌∙◌, ap, subst, Bool, true, false, not, ◌||◌, if◌then◌else◌, List, [], ◌∷◌, ◌++◌, Option, Some, None, is_some, Result, Ok, Err}
use Rattle.std.proofs.lemmas.List.Folds.{list_any-append}
use Rattle.jl_model.specs.JsonTree.{Tree, scalar, array, object, Members, no_member, member}
use Rattle.jl_model.specs.Parts.{Parts}
use Rattle.jl_model.specs.declared.faults.Fault.{Fault}
use Rattle.jl_model.specs.declared.orders.Order.{Order}
use Rattle.jl_model.specs.declared.orders.Order.TheVariants.{Any, Streaming}
use Rattle.jl_model.specs.declared.scalars.Scalar.TheVariants.{Null}
use Rattle.jl_model.specs.declared.terms.Term.{Term}
use Rattle.jl_model.specs.declared.graph_scopes.GraphScope.{GraphScope}
use Rattle.jl_model.specs.declared.expansions.Expanded.{Expanded}
use Rattle.jl_model.specs.declared.expansions.Expanded.TheVariants as expanded
use Rattle.jl_defs.specs.Texts.{Text, is_iri}
use Rattle.jl_defs.specs.Context.{TermDef, Context, term}
use Rattle.jl_defs.specs.Settings.{Settings, Under, property_of, elsewhere, lists}
use Rattle.jl_defs.specs.Keys.{Key, id, kind, value, language, direction, index, graph, list, set, other, dropped as dropped_key, property, key_of, is_value, is_kind, is_list, is_set}
use Rattle.jl_defs.specs.ObjectContexts.{Inside, own_context, decide, is_context_name, is_in_prelude, after_context, after_prelude}
use Rattle.jl_defs.specs.ValueObjects.{first_with, expand_type}
use Rattle.jl_defs.specs.Kept.{own_member, any_key, is_only_language, if_key, form_of, form_keeps, keeps, entries, entries_by, value_gives, object_gives, decided_keeps, is_list_object, nested_keys, nest_inside, nested_entries, has_any, reversed_entries}
use Rattle.jl_defs.specs.Graphs.{Shape, value_object, list_object, set_object, language_alone, graph_alone, node_object, is_graph_alone, begins_graph, is_graph_by_all, is_graph_by_rest, is_graph_with, reads_as_graph, shape_of}
use Rattle.jl_defs.specs.Process.{Library}
use Rattle.jl_defs.specs.Rest.{own_candidates, ends_run, ends_with, after_run, rest_of}
use Rattle.std.specs.Prelude.{◌&&◌}
use Rattle.jl_walk.proofs.Phases.{settings_of}
use Rattle.jl_defs.specs.Dataset.{Head, link}
use Rattle.jl_defs.specs.Expansion.{type_strings, is_plain_graph}
use Rattle.jl_defs.specs.NodeMap.{term_of_text, rdf_type}
use Rattle.jl_laws.specs.Spots.{Around, document, ordinary, graphs, map_entry, graph_map_entry, Spot, spot, stand_of, linked, Said, Content, Own, head}
use Rattle.jl_laws.specs.Says.{walk, members_say, object_says, value_at_spot, decided_says, types_say, type_says, by_key, is_given, property_head}
use Rattle.jl_walk.specs.Frames.{around_by}
use Rattle.jl_walk.specs.Stage.{is_built_key, is_built_term, context_form, forms, decided_forms, key_forms, members_forms, json_form, is_json_object}
use Rattle.jl_walk.specs.Phases.{known, first_phase}
use Rattle.jl_walk.specs.Laws.{IsPlain, IsPlainAround}
use Rattle.jl_walk.proofs.Forms.{built-form, built-lists, built-said}
use Rattle.jl_walk.proofs.Members.{both, keeps_so}
use Rattle.jl_walk.proofs.Runs.{left-nil, right-nil}

abbrev pub IsPlainKey : Key → Type 0
IsPlainKey list = ⊥
IsPlainKey set = ⊥
IsPlainKey graph = ⊥
IsPlainKey k = Unit {0}

abbrev pub ArePlain : List Key → Type 0
ArePlain [] = Unit {0}
ArePlain (k ∷ ks) = IsPlainKey k × ArePlain ks

plain-append : (ks js : List Key) → ArePlain ks → ArePlain js → ArePlain (ks ++ js)
plain-append [] js p q = q
plain-append (k ∷ ks) js p q = (p.0, plain-append ks js p.1 q)

plain-if : (name : Text) (g : Bool) → ArePlain (if_key g (property name ∷ []))
plain-if name true = (tt, tt)
plain-if name false = tt

plain-key : (k : Key) (t : Option TermDef) (under : Under) (g : Unit {0} → Bool) (nested : Unit {0} → List Key) (reverses : Unit {0} → Bool) → is_built_key k t ≡ true → ArePlain (entries_by k under g nested reverses)
plain-key (property name) t under g nested reverses e = plain-if name (g tt)
plain-key id t under g nested reverses e = (tt, tt)
plain-key kind t under g nested reverses e = (tt, tt)
plain-key value t under g nested reverses e = (tt, tt)
plain-key language t under g nested reverses e = (tt, tt)
plain-key direction t under g nested reverses e = (tt, tt)
plain-key index t under g nested reverses e = (tt, tt)
plain-key other t under g nested reverses e = tt
plain-key dropped_key t under g nested reverses e = tt
plain-key k t under g nested reverses e = absurd cc

pub plain-entries : (s : Settings) (i : Inside) (under : Under) (ms : Members) → members_forms s i ms ≡ [] → ArePlain (entries s i own_member under ms)
unfolding entries members_forms
plain-entries s i under no_member e = tt
plain-entries s i under (member a n v rest) e =
    plain-append _ (entries s i own_member under rest) (plain-key (key_of i.final n) (term i.final n) under _ _ _ (both (is_built_key (key_of i.final n) (term i.final n)) a _ (left-nil _ _ e)))
    (plain-entries s i under rest (right-nil _ _ e))

not-list : (k : Key) → IsPlainKey k → is_list k ≡ false
not-list list p = absurd p
not-list k p = refl

not-set : (k : Key) → IsPlainKey k → is_set k ≡ false
not-set set p = absurd p
not-set k p = refl

pub no-list : (ks : List Key) → ArePlain ks → any_key is_list ks ≡ false
no-list [] p = refl
no-list (k ∷ ks) p = ap (λ b. b || any_key is_list ks) (not-list k p.0) ∙ no-list ks p.1

pub no-set : (ks : List Key) → ArePlain ks → any_key is_set ks ≡ false
no-set [] p = refl
no-set (k ∷ ks) p = ap (λ b. b || any_key is_set ks) (not-set k p.0) ∙ no-set ks p.1

-- members of forms that are built are so in each part of their object
built-prelude : (s : Settings) (i : Inside) (cs : List Context) (ms : Members) → members_forms s i ms ≡ [] → members_forms s i (after_prelude cs ms) ≡ []
unfolding members_forms
built-prelude s i cs no_member b = refl
built-prelude s i cs (member a n v rest) b = by (is_in_prelude cs n v) (built-prelude s i cs rest (right-nil _ _ b))
  where
    by : (x : Bool) → members_forms s i (after_prelude cs rest) ≡ [] → members_forms s i (elim x [ true ↦ after_prelude cs rest | false ↦ member a n v rest ]) ≡ []
    by true next = next
    by false next = b

built-context : (s : Settings) (i : Inside) (ms : Members) → members_forms s i ms ≡ [] → members_forms s i (after_context ms) ≡ []
unfolding members_forms
built-context s i no_member b = refl
built-context s i (member a n v rest) b = by (is_context_name n)
  where
    by : (x : Bool) → members_forms s i (elim x [ true ↦ rest | false ↦ member a n v rest ]) ≡ []
    by true = right-nil _ _ b
    by false = b

built-run : (s : Settings) (i : Inside) (first : Bool) (ms : Members) → members_forms s i ms ≡ [] → members_forms s i (after_run i first ms) ≡ []
unfolding members_forms
built-run s i first no_member b = refl
built-run s i first (member a n v rest) b = by (ends_run i first n) (ends_with i n v) (built-run s i false rest (right-nil _ _ b))
  where
    by : (x y : Bool) → members_forms s i (after_run i false rest) ≡ [] → members_forms s i (elim x [ true ↦ member a n v rest | false ↦ elim y [ true ↦ rest | false ↦ after_run i false rest ] ]) ≡ []
    by true y next = b
    by false true next = right-nil _ _ b
    by false false next = next

-- no entry of these is `@graph`
not-alone : (ks : List Key) → ArePlain ks → is_graph_alone ks ≡ false
not-alone [] p = refl
not-alone (graph ∷ ks) p = absurd p.0
not-alone (k ∷ ks) p = refl

not-begun : (ks : List Key) → ArePlain ks → begins_graph ks ≡ false
not-begun [] p = refl
not-begun (graph ∷ ks) p = absurd p.0
not-begun (k ∷ ks) p = refl

none-by-all : (a : Around) (ks : List Key) → IsPlainAround a → ArePlain ks → is_graph_by_all (stand_of a) ks ≡ false
none-by-all document ks h p = not-alone ks p
none-by-all ordinary ks h p = refl
none-by-all graphs ks h p = refl
none-by-all (map_entry x) ks h p = absurd h
none-by-all (graph_map_entry x) ks h p = absurd h

none-by-rest : (a : Around) (before ks : List Key) → IsPlainAround a → ArePlain ks → is_graph_by_rest (stand_of a) before ks ≡ false
none-by-rest document before ks h p = by (has_any before)
  where
    by : (x : Bool) → (not x && begins_graph ks) ≡ false
    by true = refl
    by false = not-begun ks p
none-by-rest ordinary before ks h p = refl
none-by-rest graphs before ks h p = refl
none-by-rest (map_entry x) before ks h p = absurd h
none-by-rest (graph_map_entry x) before ks h p = absurd h

no-graph-in : (order : Order) (base : Option Text) (library : Library) (c : Context) (under : Under) (a : Around) (at : ℕ) (i : Inside) (ms : Members) → IsPlainAround a →
    members_forms (settings_of order base library) i ms ≡ [] → reads_as_graph (settings_of order base library) c under (stand_of a) at i ms ≡ false
no-graph-in Any base library c under a at i ms h b =
    let s = settings_of Any base library in
    none-by-all a _ h (plain-append (entries s i own_member under ms) [] (plain-entries s i under ms b) tt)
no-graph-in Streaming base library c under a at i ms h b =
    let s = settings_of Streaming base library in
    let its_rest = rest_of s c under (stand_of a) at i ms in
    let built = built-run s i true _ (built-prelude s i (own_candidates s c under (stand_of a) at ms) _ (built-context s i ms b)) in
    none-by-rest a _ _ h (plain-append (entries s i own_member under its_rest) [] (plain-entries s i under its_rest built) tt)

-- nor is one in streaming order of which a member of such a form is open
pub no-graph-with : (base : Option Text) (library : Library) (c : Context) (under : Under) (a : Around) (at : ℕ) (i : Inside) (ms : Members) (opened : List Key) → IsPlainAround a →
    (let s = settings_of Streaming base library in
    members_forms s i ms ≡ [] → ArePlain opened → is_graph_with s c under (stand_of a) at i ms opened ≡ false)
no-graph-with base library c under a at i ms opened h b plain =
    let s = settings_of Streaming base library in
    let its_rest = rest_of s c under (stand_of a) at i ms in
    let built = built-run s i true _ (built-prelude s i (own_candidates s c under (stand_of a) at ms) _ (built-context s i ms b)) in
    none-by-rest a _ _ h (plain-append (entries s i own_member under its_rest) opened (plain-entries s i under its_rest built) plain)

-- an object of forms that are built isn't read as a graph
pub no-graph : (s : Settings) (c : Context) (under : Under) (a : Around) (at : ℕ) (i : Inside) (ms : Members) → IsPlainAround a → members_forms s i ms ≡ [] →
    reads_as_graph s c under (stand_of a) at i ms ≡ false
no-graph s c under a at i ms h b = no-graph-in s.order s.base s.library c under a at i ms h b

abbrev pub shape_by : Bool → Bool → Shape
shape_by true alone = value_object
shape_by false true = language_alone
shape_by false false = node_object

pub plain-shape : (reads : Bool) (ks : List Key) → reads ≡ false → ArePlain ks → shape_of reads ks ≡ shape_by (any_key is_value ks) (is_only_language ks)
plain-shape reads ks e p = by (any_key is_value ks) (any_key is_list ks) (any_key is_set ks) (is_only_language ks) reads (no-list ks p) (no-set ks p) e
  where
    by : (v l s o g : Bool) → l ≡ false → s ≡ false → g ≡ false →
        (if v then value_object
        else (if l then list_object
        else (if s then set_object
        else (if o then language_alone
        else (if g then graph_alone else node_object))))) ≡ shape_by v o
    by true l s o g a b c = refl
    by false true s o g a b c = absurd cc
    by false false true o g a b c = absurd cc
    by false false false true g a b c = refl
    by false false false false true a b c = absurd cc
    by false false false false false a b c = refl

quiet-shape : (p : Spot) (i : Inside) (at : ℕ) (ms : Members) (v alone : Bool) (its_list : Content) (its_set content : Unit {0} → Said) (own : Own) →
    elim v [ true ↦ value_gives p.under i ms | false ↦ not alone ] ≡ false → (object_says (shape_by v alone) p i at ms its_list its_set content own).0 ≡ []
quiet-shape p i at ms true alone l s g own e = ap (λ b. (value_at_spot b p i at ms).0) e
quiet-shape p i at ms false true l s g own e = refl
quiet-shape p i at ms false false l s g own e = absurd cc

quiet-object : (s : Settings) (p : Spot) (at : ℕ) (ms : Members) (d : Result Inside Fault) (json : Inside → Bool) (its_list : Inside → Content) (its_set content : Inside → Unit {0} → Said) (own : Inside → Own) → IsPlain p →
    decided_forms d (λ i. json_form (json i) at ++ members_forms s i ms) ≡ [] → decided_keeps d (λ i. object_gives p.under i ms (entries s i own_member p.under ms)) ≡ false →
    (decided_says p.head d (λ i. object_says (shape_of (reads_as_graph s p.context p.under (stand_of p.role.around) at i ms) (entries s i own_member p.under ms)) p i at ms (its_list i) (its_set i) (content i) (own i))).0 ≡ []
quiet-object s p at ms (Err x) json l st g own plain b e = absurd cc
quiet-object s p at ms (Ok i) json l st g own plain b e =
    ap (λ x. (object_says x p i at ms (l i) (st i) (g i) (own i)).0) (plain-shape (reads_as_graph s p.context p.under (stand_of p.role.around) at i ms) (entries s i own_member p.under ms)
    (no-graph s p.context p.under p.role.around at i ms plain.1 (right-nil (json_form (json i) at) _ b)) (plain-entries s i p.under ms (right-nil (json_form (json i) at) _ b)))
    ∙ quiet-shape p i at ms (any_key is_value (entries s i own_member p.under ms)) (is_only_language (entries s i own_member p.under ms)) (l i) (st i) (g i) (own i) e

-- a value of a property that keeps nothing says nothing
pub quiet-value : (s : Settings) (c : Context) (n : Text) (g : Bool) (h : Head) (t : Tree) → lists (term c n) ≡ false → forms s c (property_of n) elsewhere t ≡ [] →
    keeps s c (property_of n) elsewhere t ≡ false → (walk s (spot c (property_of n) (around_by g) linked h) t).0 ≡ []
unfolding walk keeps forms
quiet-value s c n g h (scalar at Null) plain b e = refl
quiet-value s c n g h (scalar at v) plain b e = absurd cc
quiet-value s c n g h (array at xs) plain b e = absurd cc
quiet-value s c n true h (object at ms) plain b e = quiet-object s (spot c (property_of n) graphs linked h) at ms (decide s c (property_of n) elsewhere at ms) (λ i. is_json_object i (known i (first_phase s c (property_of n) elsewhere at ms) ms)) _ _ _ _ (plain, tt) (right-nil (context_form (own_context s.order ms)) _ b) e
quiet-value s c n false h (object at ms) plain b e = quiet-object s (spot c (property_of n) ordinary linked h) at ms (decide s c (property_of n) elsewhere at ms) (λ i. is_json_object i (known i (first_phase s c (property_of n) elsewhere at ms) ms)) _ _ _ _ (plain, tt) (right-nil (context_form (own_context s.order ms)) _ b) e

-- ---- members that say nothing

abbrev pub is_property : Key → Bool
is_property (property name) = true
is_property k = false

none-linked : (p : Text) (scope : GraphScope) (o : Option Term) → link (head None p scope) o ≡ []
unfolding link
none-linked p scope None = by (is_iri p)
  where
    by : (b : Bool) → ◌≡◌ {A = List Parts} (elim b [ true ↦ [] | false ↦ [] ]) []
    by true = refl
    by false = refl
none-linked p scope (Some o) = by (is_iri p)
  where
    by : (b : Bool) → ◌≡◌ {A = List Parts} (elim b [ true ↦ [] | false ↦ [] ]) []
    by true = refl
    by false = refl

no-type : (scope : GraphScope) (e : Expanded) → type_says None scope e ≡ []
no-type scope expanded.Null = refl
no-type scope (expanded.Keyword text) = none-linked rdf_type scope (term_of_text text)
no-type scope (expanded.Name text) = none-linked rdf_type scope (term_of_text text)

no-types : (scope : GraphScope) (b : Context) (texts : List Text) → types_say None scope b texts ≡ []
no-types scope b [] = refl
no-types scope b (text ∷ texts) = ap (λ x. x ++ types_say None scope b texts) (no-type scope (expand_type b text)) ∙ no-types scope b texts

any-left : (t : Key → Bool) (ks js : List Key) → any_key t (ks ++ js) ≡ false → any_key t ks ≡ false
any-left t [] js e = refl
any-left t (k ∷ ks) js e = by (λ h. any-left t ks js h) (t k) e
  where
    by : (any_key t (ks ++ js) ≡ false → any_key t ks ≡ false) → (b : Bool) → (b || any_key t (ks ++ js)) ≡ false → (b || any_key t ks) ≡ false
    by next true e = absurd cc
    by next false e = next e

any-right : (t : Key → Bool) (ks js : List Key) → any_key t (ks ++ js) ≡ false → any_key t js ≡ false
any-right t [] js e = e
any-right t (k ∷ ks) js e = any-right t ks js (by (t k) e)
  where
    by : (b : Bool) → (b || any_key t (ks ++ js)) ≡ false → any_key t (ks ++ js) ≡ false
    by true e = absurd cc
    by false e = e

-- what a key says, where its property keeps nothing, and its types have no node
silent-key : (q : Key) (t : Option TermDef) (qp : Text → List Parts) (n : Option Term) (scope : GraphScope) (b : Context) (texts : List Text) (qh qi qn qr : Unit {0} → List Parts) →
    is_built_key q t ≡ true → (is_kind q ≡ true → n ≡ None) → ((iri : Text) → q ≡ property iri → qp iri ≡ []) → by_key q qp (λ _. types_say n scope b texts) qh qi qn qr ≡ []
silent-key (property iri) t qp n scope b texts qh qi qn qr e h p = p iri refl
silent-key kind t qp n scope b texts qh qi qn qr e h p = ap (λ x. types_say x scope b texts) (h refl) ∙ no-types scope b texts
silent-key id t qp n scope b texts qh qi qn qr e h p = refl
silent-key value t qp n scope b texts qh qi qn qr e h p = refl
silent-key language t qp n scope b texts qh qi qn qr e h p = refl
silent-key direction t qp n scope b texts qh qi qn qr e h p = refl
silent-key index t qp n scope b texts qh qi qn qr e h p = refl
silent-key other t qp n scope b texts qh qi qn qr e h p = refl
silent-key dropped_key t qp n scope b texts qh qi qn qr e h p = refl
silent-key k t qp n scope b texts qh qi qn qr e h p = absurd cc

no-gives : (q : Key) (iri : Text) (under : Under) (g : Unit {0} → Bool) (nested : Unit {0} → List Key) (reverses : Unit {0} → Bool) → q ≡ property iri → any_key is_property (entries_by q under g nested reverses) ≡ false → g tt ≡ false
no-gives q iri under g nested reverses e h = by (g tt) (subst (λ x. any_key is_property (entries_by x under g nested reverses) ≡ false) e h)
  where
    by : (b : Bool) → any_key is_property (if_key b (property iri ∷ [])) ≡ false → b ≡ false
    by true e = absurd cc
    by false e = refl

kind-entry : (q : Key) (under : Under) (g : Unit {0} → Bool) (nested : Unit {0} → List Key) (reverses : Unit {0} → Bool) → is_kind q ≡ true → any_key is_kind (entries_by q under g nested reverses) ≡ true
kind-entry kind under g nested reverses e = refl
kind-entry q under g nested reverses e = absurd cc

or-so : (x y : Bool) → y ≡ true → (x || y) ≡ true
or-so true y e = refl
or-so false y e = e

built-property : (q : Key) (t : Option TermDef) (iri : Text) → q ≡ property iri → is_built_key q t ≡ true → is_built_term t ≡ true
built-property q t iri e h = subst (λ x. is_built_key x t ≡ true) e h

property-forms : (q : Key) (t : Option TermDef) (iri : Text) (a : ℕ) (ps : Unit {0} → List ℕ) → q ≡ property iri → key_forms q t a ps ≡ [] → ps tt ≡ []
property-forms (property x) t iri a ps e h = by (is_built_term t) h
  where
    by : (b : Bool) → ◌≡◌ {A = List ℕ} (elim b [ true ↦ ps tt | false ↦ a ∷ [] ]) [] → ps tt ≡ []
    by true h = h
    by false h = absurd cc
property-forms q t iri a ps e h = absurd cc

pub members-silent : (s : Settings) (i : Inside) (under : Under) (n : Option Term) (scope : GraphScope) (ms : Members) → members_forms s i ms ≡ [] →
    any_key is_property (entries s i own_member under ms) ≡ false → (any_key is_kind (entries s i own_member under ms) ≡ true → n ≡ None) → members_say s i own_member n scope ms ≡ []
unfolding entries members_forms members_say
members-silent s i under n scope no_member b p h = refl
members-silent s i under n scope (member a m v rest) b p h =
    let q = key_of i.final m in
    let t = term i.final m in
    let form = left-nil _ _ b in
    let built = both (is_built_key q t) a _ form in
    let nx : Unit {0} → List Key = λ _. nested_keys (nest_inside s i m) (λ j. nested_entries s j under v) in
    let rv : Unit {0} → Bool = λ _. has_any (reversed_entries s i.final v) in
    let gv : Unit {0} → Bool = λ _. form_keeps (form_of t v) (λ _. keeps_so s i m v) in
    let mine : List Key = entries_by q under gv nx rv in
    let more = entries s i own_member under rest in
    ap (λ x. x ++ members_say s i own_member n scope rest)
    (silent-key q t _ n scope i.base (type_strings v) _ _ _ _ built
    (λ k. h (list_any-append is_kind mine more ∙ ap (λ x. x || any_key is_kind more) (kind-entry q under gv nx rv k)))
    (λ iri e.
    let ok = built-property q t iri e built in
    let hd = property_head own_member t iri n scope in
    built-said t v _ _ _ (is_list_object s i.final (property_of m) elsewhere v) (is_given s i.final (property_of m) v) hd (λ hanging x. walk s (spot i.final (property_of m) ordinary hanging x) v)
    (λ around. (walk s (spot i.final (property_of m) around linked hd) v).0) ok
    ∙ quiet-value s i.final m (is_plain_graph t) hd v (built-lists t ok) (property-forms q t iri a (λ _. forms s i.final (property_of m) elsewhere v) e form)
    (sym (ap (λ f. form_keeps f (λ _. keeps_so s i m v)) (built-form t v ok)) ∙ no-gives q iri under gv nx rv e (any-left is_property mine more p))))
    ∙ members-silent s i under n scope rest (right-nil _ _ b) (any-right is_property mine more p)
    (λ k. h (list_any-append is_kind mine more ∙ or-so (any_key is_kind mine) (any_key is_kind more) k))

-- the entries tell of a value
value-entry : (k : Key) (t : Option TermDef) (under : Under) (g : Unit {0} → Bool) (nested : Unit {0} → List Key) (reverses : Unit {0} → Bool) (v : Tree) (r : Option Tree) (js : List Key) → is_built_key k t ≡ true → is_some r ≡ any_key is_value js →
    is_some (elim (is_value k) [ true ↦ Some v | false ↦ r ]) ≡ any_key is_value (entries_by k under g nested reverses ++ js)
value-entry (property name) t under g nested reverses v r js b e = by (g tt)
  where
    by : (x : Bool) → is_some r ≡ any_key is_value (if_key x (property name ∷ []) ++ js)
    by true = e
    by false = e
value-entry value t under g nested reverses v r js b e = refl
value-entry id t under g nested reverses v r js b e = e
value-entry kind t under g nested reverses v r js b e = e
value-entry language t under g nested reverses v r js b e = e
value-entry direction t under g nested reverses v r js b e = e
value-entry index t under g nested reverses v r js b e = e
value-entry other t under g nested reverses v r js b e = e
value-entry dropped_key t under g nested reverses v r js b e = e
value-entry k t under g nested reverses v r js b e = absurd cc

pub valued-same : (s : Settings) (i : Inside) (under : Under) (ms : Members) → members_forms s i ms ≡ [] → is_some (first_with is_value i.final ms) ≡ any_key is_value (entries s i own_member under ms)
unfolding entries members_forms
valued-same s i under no_member b = refl
valued-same s i under (member a n v rest) b =
    value-entry (key_of i.final n) (term i.final n) under _ _ _ v (first_with is_value i.final rest) (entries s i own_member under rest) (both (is_built_key (key_of i.final n) (term i.final n)) a _ (left-nil _ _ b)) (valued-same s i under rest (right-nil _ _ b))
