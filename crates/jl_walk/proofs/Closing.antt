-- An object closes as the definitions say: the last hypothesis of the induction.
use Rattle.std.proofs.Common.{ℕ, ◌≡◌, refl, sym, ◌∙◌, ap, Bool, true, false, not, ◌&&◌, ◌||◌, List, [], ◌∷◌, ◌++◌, Option, Some, None, is_some}
use Rattle.std.proofs.lemmas.List.{append-nil}
use Rattle.jl_model.specs.JsonTree.{Tree, scalar, array, object, Members, no_member, member}
use Rattle.jl_model.specs.Parts.{Parts}
use Rattle.jl_model.specs.declared.codes.Code.TheVariants as code
use Rattle.jl_model.specs.declared.faults.Fault.{Fault}
use Rattle.jl_model.specs.declared.scalars.Scalar.TheVariants.{Str}
use Rattle.jl_model.specs.declared.terms.Term.{Term}
use Rattle.jl_defs.specs.Texts.{Text}
use Rattle.jl_defs.specs.Trees.{string_of}
use Rattle.jl_defs.specs.LateKeys.{if_so}
use Rattle.jl_defs.specs.Settings.{Settings, Under, graph_property, drops}
use Rattle.jl_defs.specs.Keys.{Key, id, kind, value, language, direction, index, property, key_of, is_value, is_kind, is_language, is_direction, is_list, is_set, is_graph}
use Rattle.jl_defs.specs.ObjectContexts.{fault, Inside}
use Rattle.jl_defs.specs.ValueObjects as objects
use Rattle.jl_defs.specs.ValueObjects.{ValueType, first_with, is_json, is_json_type, is_null, value_type, unless_refused, string_or_none}
use Rattle.jl_defs.specs.Kept.{own_member, any_key, is_only_language, object_gives, entries, value_gives}
use Rattle.jl_defs.specs.MemberFaults.{closing_faults, value_closing, formed_closing, set_closing, is_value_form, is_value_entry, is_beside_set, is_beside_list, or_else, language_closing, closing_number, has_iri}
use Rattle.jl_defs.specs.Expansion.{naming}
use Rattle.jl_defs.specs.NodeMap.{term_of_node}
use Rattle.jl_defs.specs.Dataset.{term_of_value}
use Rattle.std.specs.List.{list_any, list_all}
use Rattle.jl_laws.specs.Spots.{Around, document, ordinary, graphs, map_entry, graph_map_entry, Spot, spot, inside, Said, Content, Own, hangs, value_says, node_says, stand_of}
use Rattle.jl_laws.specs.Says.{object_says, members_say, value_at_spot, walk_key}
use Rattle.jl_defs.specs.Graphs.{reads_as_graph}
use Rattle.jl_walk.specs.Frames.{Expected, no_value, property_value, keyword_value, dropped_value, Object}
use Rattle.jl_walk.specs.Keys.{with_key}
use Rattle.jl_walk.specs.Opening.{scope_of, linked_by, fresh}
use Rattle.jl_walk.specs.Feeding.{entering_as}
use Rattle.jl_walk.specs.Ending.{its_value, valued_in, closing_of, said_at_end}
use Rattle.jl_walk.specs.Stage.{members_forms}
use Rattle.jl_walk.specs.Laws.{IsPlain, IsPlainAround}
use Rattle.jl_walk.proofs.Keys.{after_under}
use Rattle.jl_walk.proofs.Members.{keeps_so, after_member, after_members, same-node}
use Rattle.jl_walk.proofs.Objects.{ObjectCloses, its_end, said_as, never-json, and-or}
use Rattle.jl_walk.proofs.Ends.{AllFine, all-fine, entries-end, value-end, language-end, types-end, of_first}
use Rattle.jl_walk.proofs.Silence.{ArePlain, no-graph, plain-entries, no-list, no-set, shape_by, plain-shape, is_property, members-silent, valued-same}

-- ---- what never changes

at-under : (g : Bool) (e : Expected) (i : Inside) (v : Tree) (o : Object) → (after_under g e i v o).at ≡ o.at
at-under g (property_value name iri) i v o = refl
at-under g (keyword_value kind b) i (scalar a v) o = refl
at-under g (keyword_value value b) i (scalar a v) o = refl
at-under g (keyword_value language b) i (scalar a (Str text)) o = refl
at-under g (keyword_value q b) i (scalar a v) o = refl
at-under g (keyword_value kind b) i (array a xs) o = refl
at-under g (keyword_value q b) i (array a xs) o = refl
at-under g (keyword_value q b) i (object a ms) o = refl
at-under g no_value i v o = refl
at-under g dropped_value i v o = refl

at-key : (q : Key) (a : ℕ) (n : Text) (o : Object) → (with_key q a n o).at ≡ o.at
at-key (property iri) a n o = refl
at-key id a n o = refl
at-key kind a n o = refl
at-key value a n o = refl
at-key language a n o = refl
at-key direction a n o = refl
at-key index a n o = refl
at-key q a n o = refl

at-end : (s : Settings) (i : Inside) (ms : Members) (o : Object) → (after_members s i ms o).at ≡ o.at
at-end s i no_member o = refl
at-end s i (member a n v rest) o =
    let m = with_key (key_of i.final n) a n o in
    at-end s i rest (after_member s i a n v o) ∙ (at-under (keeps_so s i n v) m.expects i v m ∙ at-key (key_of i.final n) a n o)

pub subject-end : (s : Settings) (i : Inside) (ms : Members) (o : Object) → (after_members s i ms o).subject ≡ o.subject
subject-end s i no_member o = refl
subject-end s i (member a n v rest) o = subject-end s i rest (after_member s i a n v o) ∙ (same-node s i a n v o).0

pub scope-end : (s : Settings) (i : Inside) (ms : Members) (o : Object) → (after_members s i ms o).scope ≡ o.scope
scope-end s i no_member o = refl
scope-end s i (member a n v rest) o = scope-end s i rest (after_member s i a n v o) ∙ (same-node s i a n v o).1

-- ---- the end, by what an object knows

abbrev Known : Type 0 → Type 0
Known B = ℕ → Option Term → List Key → Option Tree → ValueType → Option Text → B

abbrev closing_by : Under → Inside → Known (List Fault)
closing_by under i at n ks v t l =
    if_so (any_key is_value ks)
    (or_else (if_so (not (is_value_form ks)) (fault code.InvalidValueObject at ∷ []))
    (if_so (not (is_null v))
    (or_else (language_closing at ks v) (or_else (if_so (any_key is_kind ks && not (has_iri (objects.type_iri t))) (fault code.InvalidTypedValue at ∷ [])) (closing_number under i (valued_in t l v) v)))))

abbrev gave_by : Under → Known Bool
gave_by under at n ks v t l = elim (any_key is_value ks) [ true ↦ not (drops under) && not (is_null v) | false ↦ not (is_only_language ks) ]

abbrev said_by : Spot → Known Said
said_by p at n ks v t l =
    elim (gave_by p.under at n ks v t l) [
      | true ↦ elim (any_key is_value ks) [
        | true ↦ value_says p.role.around p.role.hanging at (term_of_value (unless_refused (valued_in t l v))) p.head
        | false ↦ hangs p.role.hanging at (linked_by p.role.around at n) p.head
      ]
      | false ↦ ([], p.head)
    ]

known : {B : Type 0} (f : Known B) (a b : ℕ) (n m : Option Term) (ks js : List Key) (v w : Option Tree) (t u : ValueType) (l r : Option Text) →
    a ≡ b → n ≡ m → ks ≡ js → v ≡ w → t ≡ u → l ≡ r → f a n ks v t l ≡ f b m js w u r
known f a b n m ks js v w t u l r x1 x2 x3 x4 x5 x6 =
    ap (λ z. f z n ks v t l) x1 ∙ (ap (λ z. f b z ks v t l) x2 ∙ (ap (λ z. f b m z v t l) x3 ∙ (ap (λ z. f b m js z t l) x4 ∙ (ap (λ z. f b m js w z l) x5 ∙ ap (λ z. f b m js w u z) x6))))

-- ---- by the definitions

no-sets : (at : ℕ) (ks : List Key) → ArePlain ks → set_closing at ks ≡ []
no-sets at ks p = by (any_key is_set ks) (any_key is_list ks) (list_any is_beside_set ks) (list_any is_beside_list ks) (no-set ks p) (no-list ks p)
  where
    by : (x y b d : Bool) → x ≡ false → y ≡ false → if_so ((x && b) || (y && d)) (fault code.InvalidSetOrListObject at ∷ []) ≡ []
    by false false b d e f = refl
    by true y b d e f = absurd cc
    by false true b d e f = absurd cc

valued-so : (i : Inside) (ms : Members) → valued_in (value_type i ms) (string_or_none (first_with is_language i.final ms)) (first_with is_value i.final ms) ≡ objects.value_object i ms
valued-so i ms = by (first_with is_value i.final ms)
  where
    by : (v : Option Tree) → valued_in (value_type i ms) (string_or_none (first_with is_language i.final ms)) v ≡ objects.value_in i ms v
    by None = refl
    by (Some v) = refl

closing-so : (under : Under) (i : Inside) (at : ℕ) (ms : Members) (ks : List Key) (n : Option Term) → ArePlain ks → (any_key is_value ks ≡ true → is_json_type (value_type i ms) ≡ false) →
    closing_by under i at n ks (first_with is_value i.final ms) (value_type i ms) (string_or_none (first_with is_language i.final ms)) ≡ closing_faults under i at ms ks
unfolding closing_faults
closing-so under i at ms ks n p j =
    by (any_key is_value ks) j ∙ (sym (append-nil _) ∙ ap (λ x. if_so (any_key is_value ks) (value_closing under i at ms ks (first_with is_value i.final ms)) ++ x) (sym (no-sets at ks p)))
  where
    fv : Option Tree
    fv = first_with is_value i.final ms

    by : (b : Bool) → (b ≡ true → is_json_type (value_type i ms) ≡ false) →
        if_so b
        (or_else (if_so (not (is_value_form ks)) (fault code.InvalidValueObject at ∷ []))
        (if_so (not (is_null fv))
        (or_else (language_closing at ks fv) (or_else (if_so (any_key is_kind ks && not (has_iri (objects.type_iri (value_type i ms)))) (fault code.InvalidTypedValue at ∷ [])) (closing_number under i (valued_in (value_type i ms) (string_or_none (first_with is_language i.final ms)) fv) fv)))))
        ≡ if_so b (value_closing under i at ms ks fv)
    by false j = refl
    by true j =
        ap (λ x. or_else (if_so (not (is_value_form ks)) (fault code.InvalidValueObject at ∷ [])) (if_so (not (is_null fv))
        (or_else (language_closing at ks fv) (or_else (if_so (any_key is_kind ks && not (has_iri (objects.type_iri (value_type i ms)))) (fault code.InvalidTypedValue at ∷ [])) (closing_number under i x fv))))) (valued-so i ms)
        ∙ ap (λ b. or_else (if_so (not (is_value_form ks)) (fault code.InvalidValueObject at ∷ [])) (formed_closing b under i at ms ks fv)) (sym (j refl))

-- ---- what it says and whether it gives

abbrev with_own : List Parts → Said → Said
with_own quads z = (quads ++ z.0, z.1)

node-so : (a : Around) (p : Spot) (at : ℕ) (i : Inside) (ms : Members) (own : Own) → IsPlainAround a →
    node_says a p.role.hanging at (naming i.final ms) own p.head
    ≡ with_own (own (term_of_node at (naming i.final ms)) (scope_of a at p.head.scope)) (hangs p.role.hanging at (linked_by a at (term_of_node at (naming i.final ms))) p.head)
node-so document p at i ms own h = refl
node-so ordinary p at i ms own h = refl
node-so graphs p at i ms own h = refl
node-so (map_entry x) p at i ms own h = absurd h
node-so (graph_map_entry x) p at i ms own h = absurd h

gives-so : (under : Under) (i : Inside) (at : ℕ) (n : Option Term) (ms : Members) (ks : List Key) (l : Option Text) → (any_key is_value ks ≡ true → is_json_type (value_type i ms) ≡ false) →
    object_gives under i ms ks ≡ gave_by under at n ks (first_with is_value i.final ms) (value_type i ms) l
gives-so under i at n ms ks l j = by (any_key is_value ks) j
  where
    by : (b : Bool) → (b ≡ true → is_json_type (value_type i ms) ≡ false) →
        ◌≡◌ {A = Bool} (elim b [ true ↦ value_gives under i ms | false ↦ not (is_only_language ks) ]) (elim b [ true ↦ not (drops under) && not (is_null (first_with is_value i.final ms)) | false ↦ not (is_only_language ks) ])
    by false j = refl
    by true j = ap (λ x. not (drops under) && (x || not (is_null (first_with is_value i.final ms)))) (j refl)

-- members say nothing where the object is a value, or has a language alone
no-property : (ks : List Key) → list_all is_value_entry ks ≡ true → any_key is_property ks ≡ false
no-property [] e = refl
no-property (k ∷ ks) e = by k e (λ h. no-property ks h)
  where
    by : (k : Key) → (is_value_entry k && list_all is_value_entry ks) ≡ true → (list_all is_value_entry ks ≡ true → any_key is_property ks ≡ false) → (is_property k || any_key is_property ks) ≡ false
    by value e h = h e
    by kind e h = h e
    by language e h = h e
    by direction e h = h e
    by index e h = h e
    by k e h = absurd cc

formed-entries : (ks : List Key) → is_value_form ks ≡ true → list_all is_value_entry ks ≡ true
formed-entries ks e = by (list_all is_value_entry ks) e
  where
    by : (b : Bool) → (b && not (any_key is_kind ks && (any_key is_language ks || any_key is_direction ks))) ≡ true → b ≡ true
    by true e = refl
    by false e = absurd cc

no-first : (b : Bool) (f : Fault) (gs : List Fault) → or_else (if_so (not b) (f ∷ [])) gs ≡ [] → b ≡ true
no-first true f gs e = refl
no-first false f gs e = absurd cc

alone : (ks : List Key) → is_only_language ks ≡ true → (any_key is_property ks ≡ false) × (any_key is_kind ks ≡ false)
alone [] e = absurd cc
alone (language ∷ []) e = (refl, refl)
alone (language ∷ (k ∷ ks)) e = absurd cc
alone (k ∷ ks) e = absurd cc

abbrev end_of : Settings → Inside → Members → Option Text
end_of s i ms = string_or_none (first_with is_language i.final ms)

-- the three shapes
abbrev own_quads : Settings → Inside → ℕ → Members → Option Term → Spot → List Parts
own_quads s i at ms n p = members_say s i own_member n (scope_of p.role.around at p.head.scope) ms

value-says-so : (p : Spot) (i : Inside) (at : ℕ) (ms : Members) (l : Option Text) → l ≡ string_or_none (first_with is_language i.final ms) → is_json_type (value_type i ms) ≡ false →
    value_at_spot (value_gives p.under i ms) p i at ms
    ≡ elim (not (drops p.under) && not (is_null (first_with is_value i.final ms))) [
      | true ↦ value_says p.role.around p.role.hanging at (term_of_value (unless_refused (valued_in (value_type i ms) l (first_with is_value i.final ms)))) p.head
      | false ↦ ([], p.head)
    ]
value-says-so p i at ms l e j =
    ap (λ x. value_at_spot (not (drops p.under) && (x || not (is_null (first_with is_value i.final ms)))) p i at ms) j
    ∙ by (not (drops p.under) && not (is_null (first_with is_value i.final ms)))
  where
    by : (b : Bool) → value_at_spot b p i at ms ≡ elim b [
      | true ↦ value_says p.role.around p.role.hanging at (term_of_value (unless_refused (valued_in (value_type i ms) l (first_with is_value i.final ms)))) p.head
      | false ↦ ([], p.head)
    ]
    by true = ap (λ z. value_says p.role.around p.role.hanging at (term_of_value (unless_refused z)) p.head) (sym (ap (λ x. valued_in (value_type i ms) x (first_with is_value i.final ms)) e ∙ valued-so i ms))
    by false = refl

abbrev gave_if : Bool → Bool → Bool → Bool
gave_if v x a = elim v [ true ↦ x | false ↦ not a ]

says-so : (s : Settings) (p : Spot) (i : Inside) (at : ℕ) (ms : Members) (ks : List Key) (n : Option Term) (its_list : Content) (its_set content : Unit {0} → Said) (v a : Bool) → IsPlain p →
    ◌≡◌ {A = Option Term} n (elim v [ true ↦ None | false ↦ term_of_node at (naming i.final ms) ]) → (v ≡ true → is_json_type (value_type i ms) ≡ false) →
    ((v || a) ≡ true → own_quads s i at ms n p ≡ []) →
    object_says (shape_by v a) p i at ms its_list its_set content (λ x scope. members_say s i own_member x scope ms)
    ≡ with_own (own_quads s i at ms n p) (elim (gave_if v (not (drops p.under) && not (is_null (first_with is_value i.final ms))) a) [
      | true ↦ elim v [
        | true ↦ value_says p.role.around p.role.hanging at (term_of_value (unless_refused (valued_in (value_type i ms) (end_of s i ms) (first_with is_value i.final ms)))) p.head
        | false ↦ hangs p.role.hanging at (linked_by p.role.around at n) p.head
      ]
      | false ↦ ([], p.head)
    ])
says-so s p i at ms ks n l st c true a plain e j h =
    value-says-so p i at ms (end_of s i ms) refl (j refl)
    ∙ ap (λ q. with_own q (elim (not (drops p.under) && not (is_null (first_with is_value i.final ms))) [
      | true ↦ value_says p.role.around p.role.hanging at (term_of_value (unless_refused (valued_in (value_type i ms) (end_of s i ms) (first_with is_value i.final ms)))) p.head
      | false ↦ ([], p.head)
    ])) (sym (h refl))
says-so s p i at ms ks n l st c false true plain e j h = ap (λ q. with_own q ([], p.head)) (sym (h refl))
says-so s p i at ms ks n l st c false false plain e j h =
    node-so p.role.around p at i ms (λ x scope. members_say s i own_member x scope ms) plain.1
    ∙ ap (λ x. with_own (own_quads s i at ms x p) (hangs p.role.hanging at (linked_by p.role.around at x) p.head)) (sym e)

-- ---- the hypothesis of the induction

when-silent : (s : Settings) (p : Spot) (i : Inside) (at : ℕ) (ms : Members) (ks : List Key) (n : Option Term) (v a : Bool) → members_forms s i ms ≡ [] → ks ≡ entries s i own_member p.under ms → any_key is_value ks ≡ v → is_only_language ks ≡ a →
    (v ≡ true → n ≡ None) → (v ≡ true → is_value_form ks ≡ true) → (v || a) ≡ true → own_quads s i at ms n p ≡ []
when-silent s p i at ms ks n true a b e ev ea sub form t =
    members-silent s i p.under n (scope_of p.role.around at p.head.scope) ms b (ap (any_key is_property) (sym e) ∙ no-property ks (formed-entries ks (form refl))) (λ k. sub refl)
when-silent s p i at ms ks n false true b e ev ea sub form t =
    let x = alone ks ea in
    members-silent s i p.under n (scope_of p.role.around at p.head.scope) ms b (ap (any_key is_property) (sym e) ∙ x.0) (λ k. absurd (let y : false ≡ true = sym x.1 ∙ (ap (any_key is_kind) e ∙ k) in cc))
when-silent s p i at ms ks n false false b e ev ea sub form t = absurd cc

language-so : (t : Option Tree) → of_first string_of t ≡ string_or_none t
language-so None = refl
language-so (Some t) = refl

formed-so : (b : Bool) (f : Fault) (gs hs : List Fault) (v : Bool) → if_so v (or_else (if_so (not b) (f ∷ [])) gs) ≡ [] → v ≡ true → b ≡ true
formed-so b f gs hs true e t = no-first b f gs e
formed-so b f gs hs false e t = absurd cc

json-so : (a b c : Bool) → (a && (b || c)) ≡ false → a ≡ true → c ≡ false
json-so true true c e t = absurd cc
json-so true false c e t = e
json-so false b c e t = absurd cc

pub object-closes : (s : Settings) → ObjectCloses s
object-closes s p ph i at ms all plain json built none =
    record {
      faults = closing-is;
      says = λ c. says-is (sym closing-known ∙ c);
      keeps = λ c. gives-so p.under i at n ms ks (end_of s i ms) value-json ∙ sym (known (λ x y z w t l. gave_by p.under x y z w t l) o.at at o.subject n o.entries ks (its_value o) fv o.types vt o.language fl e1 e2 e3 e4 e5 e6);
    }
  where
    start : Object
    start = fresh p at (entering_as ph i ms)

    o : Object
    o = its_end s p ph i at ms

    n : Option Term
    n = start.subject

    ks : List Key
    ks = entries s i own_member p.under ms

    fv : Option Tree
    fv = first_with is_value i.final ms

    vt : ValueType
    vt = value_type i ms

    fl : Option Text
    fl = end_of s i ms

    fine : AllFine s i p.under ms start
    fine = all-fine s i p.under _ all [] ms start (never-json i ms (λ t. and-or (is_some fv) (is_json i.input) (is_json_type vt) json t)) built none

    arePlain : ArePlain ks
    arePlain = plain-entries s i p.under ms built

    e1 : o.at ≡ at
    e1 = at-end s i ms start

    e2 : o.subject ≡ n
    e2 = subject-end s i ms start

    e3 : o.entries ≡ ks
    e3 = entries-end s i p.under ms start fine

    e4 : its_value o ≡ fv
    e4 = value-end s i p.under ms start fine refl

    e5 : o.types ≡ vt
    e5 = types-end s i p.under ms start fine refl

    e6 : o.language ≡ fl
    e6 = language-end s i p.under ms start fine refl ∙ language-so (first_with is_language i.final ms)

    valued : is_some fv ≡ any_key is_value ks
    valued = valued-same s i p.under ms built

    value-json : any_key is_value ks ≡ true → is_json_type vt ≡ false
    value-json t = json-so (is_some fv) (is_json i.input) (is_json_type vt) json (valued ∙ t)

    closing-known : closing_of p.under i o ≡ closing_by p.under i at n ks fv vt fl
    closing-known = known (closing_by p.under i) o.at at o.subject n o.entries ks (its_value o) fv o.types vt o.language fl e1 e2 e3 e4 e5 e6

    closing-is : closing_of p.under i o ≡ closing_faults p.under i at ms ks
    closing-is = closing-known ∙ closing-so p.under i at ms ks n arePlain value-json

    subject-is : ◌≡◌ {A = Option Term} n (elim (any_key is_value ks) [ true ↦ None | false ↦ term_of_node at (naming i.final ms) ])
    subject-is = ap (λ b. elim b [ true ↦ None | false ↦ term_of_node at (naming i.final ms) ]) valued

    no-subject : (v : Bool) → ◌≡◌ {A = Option Term} n (elim v [ true ↦ None | false ↦ term_of_node at (naming i.final ms) ]) → v ≡ true → n ≡ None
    no-subject true e t = e
    no-subject false e t = absurd cc

    its_list : Content
    its_list hanging h = walk_key s i is_list (spot i.final p.under ordinary hanging h) ms

    its_set : Unit {0} → Said
    its_set x = walk_key s i is_set (spot i.final p.under (inside p.role.around) p.role.hanging p.head) ms

    its_content : Unit {0} → Said
    its_content x = walk_key s i is_graph (spot i.final graph_property ordinary p.role.hanging p.head) ms

    more-closing : List Fault
    more-closing = if_so (not (is_null fv))
        (or_else (language_closing at ks fv) (or_else (if_so (any_key is_kind ks && not (has_iri (objects.type_iri vt))) (fault code.InvalidTypedValue at ∷ [])) (closing_number p.under i (valued_in vt fl fv) fv)))

    says-is : closing_by p.under i at n ks fv vt fl ≡ [] → said_as s p i at ms ≡ (own_quads s i at ms n p ++ (said_at_end p o).0, (said_at_end p o).1)
    says-is c =
        ap (λ x. object_says x p i at ms its_list its_set its_content (λ y scope. members_say s i own_member y scope ms)) (plain-shape (reads_as_graph s p.context p.under (stand_of p.role.around) at i ms) ks (no-graph s p.context p.under p.role.around at i ms plain.1 built) arePlain)
        ∙ (says-so s p i at ms ks n its_list its_set its_content (any_key is_value ks) (is_only_language ks) plain subject-is value-json
        (λ t. when-silent s p i at ms ks n (any_key is_value ks) (is_only_language ks) built refl refl refl (no-subject (any_key is_value ks) subject-is) (λ v. formed-so (is_value_form ks) (fault code.InvalidValueObject at) (more-closing) [] (any_key is_value ks) c v) t)
        ∙ ap (with_own (own_quads s i at ms n p)) (sym (known (said_by p) o.at at o.subject n o.entries ks (its_value o) fv o.types vt o.language fl e1 e2 e3 e4 e5 e6)))
