-- The members of an object that are held: what their types decide, what they show, and their events.
use Rattle.std.proofs.Common.{ℕ, ◌≡◌, refl, sym, ◌∙◌, ap, if◌then◌else◌, Bool, true, false, ◌||◌, List, [], ◌∷◌, filter, Option, Some, None, Ok, codes, bytes_eq, is_some, subst, ◌&&◌, ◌++◌, append_assoc}
use Rattle.std.proofs.Math.Bool.{and_assoc, and-true}
use Rattle.std.proofs.lemmas.Bool.{and_from, and_left, and_right}
use Rattle.std.specs.List.{list_any}
use Rattle.std.proofs.lemmas.Slice.Eq.{bytes_eq-Decides}
use Rattle.std.specs.Prelude.{zero, suc}
use Rattle.jl_model.specs.JsonTree.{Tree, scalar, Members, no_member, member, array, object, Trees, no_item, item}
use Rattle.jl_model.specs.Resolve.{resolve}
use Rattle.jl_model.specs.declared.scalars.Scalar.TheVariants.{Null, Str}
use Rattle.jl_model.specs.declared.expansions.Expanded.{Expanded}
use Rattle.jl_model.specs.declared.expansions.Expanded.TheVariants as expanded
use Rattle.jl_model.specs.declared.scalars.Scalar.{Scalar}
use Rattle.jl_defs.specs.Texts.{Text, is_iri, is_before, is_colon, is_keyword, has_keyword_form}
use Rattle.jl_defs.specs.Trees.{string_of}
use Rattle.jl_defs.specs.Context.{Context, initial}
use Rattle.jl_defs.specs.IriExpansion.{Compact, compact, has_no_prefix, by_vocab, by_iri, by_prefix, by_name, expand_iri}
use Rattle.jl_defs.specs.Settings.{Settings, Under, no_property, graph_property, reverse_property, property_of, Stand}
use Rattle.jl_defs.specs.Keys.{Key, its_context, id, kind, value, language, direction, index, graph, included, list, set, reverse, nest, other, dropped, property, keyword_key, key_by, key_of, is_kind, is_leading, is_id, is_value}
use Rattle.jl_defs.specs.ObjectContexts.{Look, look_at, look_at_key, means_kind, put_look, sorted_looks, type_keys, type_texts, input_type, Inside, inside_with, final_context, and_then, at_place, decide_by, candidates, last_string, is_in_prelude}
use Rattle.jl_defs.specs.ValueObjects as objects
use Rattle.jl_defs.specs.ValueObjects.{is_json, is_json_type, first_with, all_with, type_of_values, expand_type}
use Rattle.jl_defs.specs.Expansion.{naming_of, id_text}
use Rattle.jl_prelude.specs.Classes.{class_of}
use Rattle.jl_prelude.specs.declared.classes.Class.{Class}
use Rattle.jl_prelude.specs.declared.classes.Class.TheVariants as class
use Rattle.jl_walk.specs.Running.{held_looks}
use Rattle.jl_walk.specs.States.{held_with, members_length, add_item}
use Rattle.jl_walk.specs.Phases.{prelude_length}
use Rattle.jl_engine.specs.Keeping.{last_of, json_text, json_first, Shows, lead_by, Told, HeldArray, Held, KeysLead, all_lead}
use Rattle.jl_engine.specs.Leads.{holds, name_of, first_of, is_json as is_json_scalar, shows, opens_whole, naming_shown}
use Rattle.jl_engine.specs.declared.events.Event.{Event}
use Rattle.jl_engine.specs.declared.leads.Lead.{Lead}
use Rattle.jl_engine.specs.declared.leads.LeadPart.{LeadPart}
use Rattle.jl_engine.specs.declared.leads.LeadSpot.{LeadSpot}
use Rattle.jl_engine.specs.declared.leads.LeadPart.TheVariants as parts
use Rattle.jl_engine.specs.declared.leads.LeadSpot.TheVariants as spots
use Rattle.jl_engine.specs.declared.events.Event.TheVariants as events
use Rattle.jl_engine.proofs.KeyClasses.{not_this}

-- ==== The types of an object in the initial context: its input type is `@json` where its first type is.

-- ---- what a text expands to in the initial context

-- what a text that is no keyword expands to
abbrev IsName : Expanded → Type 0
IsName e = (is_json e ≡ false) × (is_kind (key_by e) ≡ false)

name-key : (text : Text) → is_kind (key_by (expanded.Name text)) ≡ false
name-key text = elim (list_any is_colon text) as (λ x. is_kind (elim x [ true ↦ property text | false ↦ dropped ]) ≡ false) [ true ↦ refl | false ↦ refl ]

vocab-name : (b : Option Text) (text : Text) (r : Bool) → IsName (by_vocab (initial b) text true r)
vocab-name None text true = (refl, name-key text)
vocab-name (Some base) text true = (refl, name-key (resolve base text))
vocab-name b text false = (refl, name-key text)

iri-name : (b : Option Text) (text : Text) (r : Bool) → IsName (by_iri (initial b) text true r)
iri-name b text r = elim (is_iri text) as (λ x. IsName (elim x [ true ↦ expanded.Name text | false ↦ by_vocab (initial b) text true r ])) [ true ↦ (refl, name-key text) | false ↦ vocab-name b text r ]

prefix-name : (b : Option Text) (text : Text) (r : Bool) (k : Option Compact) → IsName (by_prefix (initial b) text true r k)
prefix-name b text r None = vocab-name b text r
prefix-name b text r (Some k) =
    elim (has_no_prefix k) as (λ x. IsName (elim x [ true ↦ expanded.Name text | false ↦ by_iri (initial b) text true r ])) [ true ↦ (refl, name-key text) | false ↦ iri-name b text r ]

pub json-expands : (b : Option Text) (text : Text) (r : Bool) → is_json (expand_iri (initial b) text true r) ≡ bytes_eq text (codes "@json")
unfolding expand_iri is_keyword
json-expands b text r = by (is_keyword text) (has_keyword_form text) refl
  where
    by : (x y : Bool) → is_keyword text ≡ x →
        is_json (elim x [ true ↦ expanded.Keyword text | false ↦ elim y [ true ↦ expanded.Null | false ↦ by_name (initial b) text true r ] ]) ≡ bytes_eq text (codes "@json")
    by true y e = refl
    by false true e = sym (not_this text (codes "@json") refl e)
    by false false e = (prefix-name b text r (compact text)).0 ∙ sym (not_this text (codes "@json") refl e)

if-not : (x : Bool) (k r : Key) → is_kind k ≡ false → is_kind r ≡ false → is_kind (if x then k else r) ≡ false
if-not true k r e f = e
if-not false k r e f = f

-- the keyword of a type
keyword-type : (n : Text) → is_kind (keyword_key n) ≡ true → n ≡ codes "@type"
keyword-type n e = first (bytes_eq n (codes "@context")) (bytes_eq n (codes "@id")) (bytes_eq n (codes "@type")) refl e
  where
    later : Key
    later =
        if bytes_eq n (codes "@value") then value
        else (if bytes_eq n (codes "@language") then language
        else (if bytes_eq n (codes "@direction") then direction
        else (if bytes_eq n (codes "@index") then index
        else (if bytes_eq n (codes "@graph") then graph
        else (if bytes_eq n (codes "@included") then included
        else (if bytes_eq n (codes "@list") then list
        else (if bytes_eq n (codes "@set") then set
        else (if bytes_eq n (codes "@reverse") then reverse
        else (if bytes_eq n (codes "@nest") then nest else other)))))))))

    none : is_kind later ≡ false
    none =
        if-not (bytes_eq n (codes "@value")) value _ refl
        (if-not (bytes_eq n (codes "@language")) language _ refl
        (if-not (bytes_eq n (codes "@direction")) direction _ refl
        (if-not (bytes_eq n (codes "@index")) index _ refl
        (if-not (bytes_eq n (codes "@graph")) graph _ refl
        (if-not (bytes_eq n (codes "@included")) included _ refl
        (if-not (bytes_eq n (codes "@list")) list _ refl
        (if-not (bytes_eq n (codes "@set")) set _ refl
        (if-not (bytes_eq n (codes "@reverse")) reverse _ refl
        (if-not (bytes_eq n (codes "@nest")) nest other refl refl)))))))))

    first : (x y z : Bool) → bytes_eq n (codes "@type") ≡ z → is_kind (if x then its_context else (if y then id else (if z then kind else later))) ≡ true → n ≡ codes "@type"
    first true y z h e = absurd cc
    first false true z h e = absurd cc
    first false false true h e = (bytes_eq-Decides n (codes "@type")).0 h
    first false false false h e = absurd (let z : true ≡ false = sym e ∙ none in cc)

-- in the initial context only this name means a type
pub type-name : (b : Option Text) (n : Text) → is_kind (key_of (initial b) n) ≡ true → n ≡ codes "@type"
unfolding key_of expand_iri
type-name b n e = by (is_keyword n) (has_keyword_form n) e
  where
    by : (x y : Bool) → is_kind (key_by (elim x [ true ↦ expanded.Keyword n | false ↦ elim y [ true ↦ expanded.Null | false ↦ by_name (initial b) n true false ] ])) ≡ true → n ≡ codes "@type"
    by true y e = keyword-type n e
    by false true e = absurd cc
    by false false e = absurd (let z : true ≡ false = sym e ∙ (prefix-name b n false (compact n)).1 in cc)

-- ---- the input type is that of the first type

-- looks at types
abbrev AllTypes : List Look → Type 0
AllTypes [] = Unit {0}
AllTypes (x ∷ xs) = (x.name ≡ codes "@type") × AllTypes xs

not-before : (m n : Text) → m ≡ codes "@type" → n ≡ codes "@type" → is_before m n ≡ false
not-before m n e f = ap (λ x. is_before x n) e ∙ ap (λ x. is_before (codes "@type") x) f

put-first : (x : Look) (ys : List Look) → x.name ≡ codes "@type" → AllTypes ys → put_look x ys ≡ x ∷ ys
put-first x [] e h = refl
put-first x (y ∷ ys) e h = ap (λ z. elim z [ true ↦ y ∷ put_look x ys | false ↦ x ∷ (y ∷ ys) ]) (not-before y.name x.name h.0 e)

sorted-same : (xs : List Look) → AllTypes xs → sorted_looks xs ≡ xs
sorted-same [] h = refl
sorted-same (x ∷ xs) h = ap (λ ys. put_look x ys) (sorted-same xs h.1) ∙ put-first x xs h.0 h.1

kept-types : (b : Option Text) (xs : List Look) → AllTypes (filter (means_kind (initial b)) xs)
kept-types b [] = tt
kept-types b (x ∷ xs) = by (is_kind (key_of (initial b) x.name)) refl (kept-types b xs)
  where
    by : (y : Bool) → is_kind (key_of (initial b) x.name) ≡ y → AllTypes (filter (means_kind (initial b)) xs) → AllTypes (if y then x ∷ filter (means_kind (initial b)) xs else filter (means_kind (initial b)) xs)
    by true e h = (type-name b x.name e, h)
    by false e h = h

abbrev head_last : List Look → Option Text
head_last [] = None
head_last (x ∷ xs) = x.last

first-input : (b : Option Text) (xs : List Look) → is_json (input_type (initial b) xs) ≡ json_text (head_last xs)
first-input b [] = refl
first-input b (x ∷ xs) = by x.last
  where
    by : (o : Option Text) → is_json (input_type (initial b) (record x { last = o } ∷ xs)) ≡ json_text o
    by None = refl
    by (Some text) = json-expands b text false

input-json : (b : Option Text) (looks : List Look) → is_json (input_type (initial b) (type_keys (initial b) looks)) ≡ json_text (head_last (filter (means_kind (initial b)) looks))
input-json b looks =
    ap (λ xs. is_json (input_type (initial b) xs)) (sorted-same (filter (means_kind (initial b)) looks) (kept-types b looks))
    ∙ first-input b (filter (means_kind (initial b)) looks)

look-name : (n : Text) (v : Tree) → (look_at n v).name ≡ n
look-name n (scalar b Null) = refl
look-name n x = refl

last-look : (n : Text) (v : Tree) → (look_at n v).last ≡ last_of v
last-look n (scalar b Null) = refl
last-look n x = refl

held-last : (c : Context) (held : Members) (more : List Look) → json_text (head_last (filter (means_kind c) more)) ≡ false →
    json_text (head_last (filter (means_kind c) (held_looks held more))) ≡ json_first (first_with is_kind c held)
held-last c no_member more h = h
held-last c (member a n v rest) more h =
    ap (λ m. json_text (head_last (if is_kind (key_of c m) then look_at n v ∷ others else others))) (look-name n v) ∙ by (is_kind (key_of c n)) (held-last c rest more h)
  where
    others : List Look
    others = filter (means_kind c) (held_looks rest more)

    by : (x : Bool) → json_text (head_last others) ≡ json_first (first_with is_kind c rest) →
        json_text (head_last (if x then look_at n v ∷ others else others)) ≡ json_first (elim x [ true ↦ Some v | false ↦ first_with is_kind c rest ])
    by true e = ap json_text (last-look n v)
    by false e = e

pub nothing-last : (c : Context) → json_text (head_last (filter (means_kind c) [])) ≡ false
nothing-last c = refl

pub key-last : (c : Context) (n : Text) → json_text (head_last (filter (means_kind c) (look_at_key n ∷ []))) ≡ false
key-last c n = elim (is_kind (key_of c n)) as (λ x. json_text (head_last (if x then look_at_key n ∷ [] else [])) ≡ false) [ true ↦ refl | false ↦ refl ]

-- ---- deciding

-- what the members are read with
abbrev pub plain_inside : Option Text → Stand → List Look → Inside
plain_inside b stand looks = inside_with (initial b) stand (initial b) looks (initial b)

final-same : (s : Settings) (b : Option Text) (texts : List Text) → final_context s (initial b) texts (initial b) ≡ Ok (initial b)
unfolding final_context
final-same s b [] = refl
final-same s b (text ∷ texts) = final-same s b texts

pub plain-candidates : (s : Settings) (b : Option Text) (under : Under) (stand : Stand) (at : ℕ) → candidates s (initial b) under stand at None ≡ initial b ∷ []
plain-candidates s b no_property stand at = refl
plain-candidates s b x stand at = refl

pub plain-decided : (s : Settings) (b : Option Text) (under : Under) (stand : Stand) (at : ℕ) (looks : List Look) → decide_by s (initial b) under stand at None looks ≡ Ok (plain_inside b stand looks)
plain-decided s b no_property stand at looks =
    ap (λ r. and_then (at_place at r) (λ d. Ok (inside_with (initial b) stand (initial b) looks d))) (final-same s b (type_texts (type_keys (initial b) looks)))
plain-decided s b graph_property stand at looks =
    ap (λ r. and_then (at_place at r) (λ d. Ok (inside_with (initial b) stand (initial b) looks d))) (final-same s b (type_texts (type_keys (initial b) looks)))
plain-decided s b reverse_property stand at looks =
    ap (λ r. and_then (at_place at r) (λ d. Ok (inside_with (initial b) stand (initial b) looks d))) (final-same s b (type_texts (type_keys (initial b) looks)))
plain-decided s b (property_of name) stand at looks =
    ap (λ r. and_then (at_place at r) (λ d. Ok (inside_with (initial b) stand (initial b) looks d))) (final-same s b (type_texts (type_keys (initial b) looks)))

pub input-shown : (b : Option Text) (stand : Stand) (held : Members) (more : List Look) → json_text (head_last (filter (means_kind (initial b)) more)) ≡ false →
    is_json (plain_inside b stand (held_looks held more)).input ≡ json_first (first_with is_kind (initial b) held)
input-shown b stand held more h = input-json b (held_looks held more) ∙ held-last (initial b) held more h

-- ---- the type of a value

-- the first is the first of all
abbrev head_of : List Tree → Option Tree
head_of [] = None
head_of (v ∷ vs) = Some v

first-head : (c : Context) (ms : Members) → first_with is_kind c ms ≡ head_of (all_with is_kind c ms)
first-head c no_member = refl
first-head c (member a n v rest) = by (first-head c rest) (is_kind (key_of c n))
  where
    by : first_with is_kind c rest ≡ head_of (all_with is_kind c rest) → (b : Bool) →
        elim b [ true ↦ Some v | false ↦ first_with is_kind c rest ] ≡ head_of (elim b [ true ↦ v ∷ all_with is_kind c rest | false ↦ all_with is_kind c rest ])
    by h true = refl
    by h false = h

string-type : (b : Option Text) (v : Tree) → is_json_type (objects.type_of_string (initial b) (string_of v)) ≡ true → json_text (last_of v) ≡ true
string-type b (scalar c (Str text)) e = sym (json-expands b text true) ∙ e
string-type b x e = absurd cc

values-type : (b : Option Text) (vs : List Tree) → is_json_type (type_of_values (initial b) vs) ≡ true → json_first (head_of vs) ≡ true
values-type b [] e = absurd cc
values-type b (v ∷ []) e = string-type b v e
values-type b (v ∷ w ∷ vs) e = absurd cc

or-same : (x y : Bool) → (y ≡ true → x ≡ true) → (x || y) ≡ x
or-same true y h = refl
or-same false true h = sym (h refl)
or-same false false h = refl

-- an object is JSON where its first type is `@json`
pub json-shown : (b : Option Text) (ms : Members) (x : Bool) → x ≡ json_first (first_with is_kind (initial b) ms) →
    (x || is_json_type (type_of_values (initial b) (all_with is_kind (initial b) ms))) ≡ json_first (first_with is_kind (initial b) ms)
json-shown b ms x e =
    or-same x (is_json_type (type_of_values (initial b) (all_with is_kind (initial b) ms)))
    (λ t. e ∙ (ap json_first (first-head (initial b) ms) ∙ values-type b (all_with is_kind (initial b) ms) t))
    ∙ e

-- ==== What the members of an object show that are held, as one more is held.

-- ---- the first member with a test, where one more is held

abbrev pub or_first : Option Tree → Option Tree → Option Tree
or_first None o = o
or_first (Some v) o = Some v

abbrev pub picked : Bool → Tree → Option Tree
picked true v = Some v
picked false v = None

pub or-none : (o : Option Tree) → or_first o None ≡ o
or-none None = refl
or-none (Some v) = refl

pub held-first : (test : Key → Bool) (c : Context) (ms : Members) (a : ℕ) (n : Text) (v : Tree) →
    first_with test c (held_with ms a n v) ≡ or_first (first_with test c ms) (picked (test (key_of c n)) v)
held-first test c no_member a n v = elim (test (key_of c n)) as (λ x. elim x [ true ↦ Some v | false ↦ None ] ≡ picked x v) [ true ↦ refl | false ↦ refl ]
held-first test c (member b m w rest) a n v = by (test (key_of c m)) (held-first test c rest a n v)
  where
    by : (x : Bool) → first_with test c (held_with rest a n v) ≡ or_first (first_with test c rest) (picked (test (key_of c n)) v) →
        elim x [ true ↦ Some w | false ↦ first_with test c (held_with rest a n v) ] ≡ or_first (elim x [ true ↦ Some w | false ↦ first_with test c rest ]) (picked (test (key_of c n)) v)
    by true e = refl
    by false e = e

-- ---- what is noted, by the first of each test so far

-- by the first name, the first type and the first value so far
abbrev NameShown : Context → Option Tree → Lead → Type 0
NameShown c f m = (m.named ≡ is_some f) × (naming_shown m.name ≡ naming_of c (id_text f))

abbrev Firsts : Context → Option Tree → Option Tree → Option Tree → Lead → Type 0
Firsts c f g h m = NameShown c f m × ((m.json ≡ json_first g) × (m.valued ≡ is_some h))

firsts : (c : Context) (ms : Members) (m : Lead) → Shows c ms m → Firsts c (first_with is_id c ms) (first_with is_kind c ms) (first_with is_value c ms) m
firsts c ms m h = ((h.named, h.name), (h.json, h.valued))

shows-more : (c : Context) (ms : Members) (a : ℕ) (n : Text) (v : Tree) (m : Lead) →
    Firsts c (or_first (first_with is_id c ms) (picked (is_id (key_of c n)) v)) (or_first (first_with is_kind c ms) (picked (is_kind (key_of c n)) v)) (or_first (first_with is_value c ms) (picked (is_value (key_of c n)) v)) m →
    Shows c (held_with ms a n v) m
shows-more c ms a n v m h = record {
  named = h.0.0 ∙ ap is_some (sym (held-first is_id c ms a n v));
  name = h.0.1 ∙ ap (λ o. naming_of c (id_text o)) (sym (held-first is_id c ms a n v));
  valued = h.1.1 ∙ ap is_some (sym (held-first is_value c ms a n v));
  json = h.1.0 ∙ ap json_first (sym (held-first is_kind c ms a n v));
}

-- a member that shows no name, no type or no value
same-name : (c : Context) (f : Option Tree) (m : Lead) → NameShown c f m → NameShown c (or_first f None) m
same-name c f m x = subst (λ o. NameShown c o m) (sym (or-none f)) x

same-json : (g : Option Tree) (b : Bool) → b ≡ json_first g → b ≡ json_first (or_first g None)
same-json g b e = e ∙ ap json_first (sym (or-none g))

same-some : (h : Option Tree) (b : Bool) → b ≡ is_some h → b ≡ is_some (or_first h None)
same-some h b e = e ∙ ap is_some (sym (or-none h))

firsts-quiet : (c : Context) (f g h : Option Tree) (m : Lead) → Firsts c f g h m → Firsts c (or_first f None) (or_first g None) (or_first h None) m
firsts-quiet c f g h m x = (same-name c f m x.0, (same-json g m.json x.1.0, same-some h m.valued x.1.1))

some-or : (o : Option Tree) (v : Tree) → true ≡ is_some (or_first o (Some v))
some-or None v = refl
some-or (Some w) v = refl

-- ---- the name

scalar-name : (c : Context) (b : ℕ) (v : Scalar) → naming_shown (name_of c v) ≡ naming_of c (string_of (scalar b v))
scalar-name c b (Str text) = refl
scalar-name c b y = refl

-- the first `@id` shows the name
first-name : (c : Context) (f : Option Tree) (v : Tree) (m : Lead) (o : Option Expanded) → m.named ≡ is_some f → naming_shown m.name ≡ naming_of c (id_text f) → naming_shown o ≡ naming_of c (string_of v) →
    naming_shown (first_of m.named m.name o) ≡ naming_of c (id_text (or_first f (Some v)))
first-name c None v m o e g h = ap (λ x. naming_shown (first_of x m.name o)) e ∙ h
first-name c (Some w) v m o e g h = ap (λ x. naming_shown (first_of x m.name o)) e ∙ g

-- ---- the types

pub scalar-json : (b : ℕ) (v : Scalar) → is_json_scalar v ≡ json_text (string_of (scalar b v))
scalar-json b (Str text) = refl
scalar-json b y = refl

-- the first `@type` shows whether it is `@json`
first-json : (f : Option Tree) (v : Tree) (m : Lead) (x : Bool) → m.typed ≡ is_some f → m.json ≡ json_first f → x ≡ json_text (last_of v) →
    first_of m.typed m.json x ≡ json_first (or_first f (Some v))
first-json None v m x e g h = ap (λ y. first_of y m.json x) e ∙ h
first-json (Some w) v m x e g h = ap (λ y. first_of y m.json x) e ∙ g

-- ---- the scalar of a leading member

firsts-scalar : (c : Context) (q : Key) (b : ℕ) (v : Scalar) (f g h : Option Tree) (m : Lead) → is_leading q ≡ true → (is_kind q ≡ true → m.typed ≡ is_some g) → Firsts c f g h m →
    Firsts c (or_first f (picked (is_id q) (scalar b v))) (or_first g (picked (is_kind q) (scalar b v))) (or_first h (picked (is_value q) (scalar b v))) (shows c (class_of q) v m)
firsts-scalar c id b v f g h m e t x =
    ((some-or f (scalar b v), first-name c f (scalar b v) m (name_of c v) x.0.0 x.0.1 (scalar-name c b v)), (same-json g m.json x.1.0, same-some h m.valued x.1.1))
firsts-scalar c kind b v f g h m e t x = (same-name c f m x.0, (first-json g (scalar b v) m (is_json_scalar v) (t refl) x.1.0 (scalar-json b v), same-some h m.valued x.1.1))
firsts-scalar c value b v f g h m e t x = (same-name c f m x.0, (same-json g m.json x.1.0, some-or h (scalar b v)))
firsts-scalar c language b v f g h m e t x = firsts-quiet c f g h m x
firsts-scalar c direction b v f g h m e t x = firsts-quiet c f g h m x
firsts-scalar c index b v f g h m e t x = firsts-quiet c f g h m x
firsts-scalar c q b v f g h m e t x = absurd cc

pub shows-scalar : (c : Context) (ms : Members) (a : ℕ) (n : Text) (b : ℕ) (v : Scalar) (m : Lead) → is_leading (key_of c n) ≡ true → (is_kind (key_of c n) ≡ true → m.typed ≡ is_some (first_with is_kind c ms)) →
    Shows c ms m → Shows c (held_with ms a n (scalar b v)) (shows c (class_of (key_of c n)) v m)
shows-scalar c ms a n b v m e t h =
    shows-more c ms a n (scalar b v) (shows c (class_of (key_of c n)) v m)
    (firsts-scalar c (key_of c n) b v (first_with is_id c ms) (first_with is_kind c ms) (first_with is_value c ms) m e t (firsts c ms m h))

typed-scalar-by : (c : Context) (q : Key) (v : Scalar) (t : Tree) (g : Option Tree) (m : Lead) → m.typed ≡ is_some g → (shows c (class_of q) v m).typed ≡ is_some (or_first g (picked (is_kind q) t))
typed-scalar-by c kind v t g m e = some-or g t
typed-scalar-by c x v t g m e = e ∙ ap is_some (sym (or-none g))

pub typed-scalar : (c : Context) (ms : Members) (a : ℕ) (n : Text) (b : ℕ) (v : Scalar) (m : Lead) → m.typed ≡ is_some (first_with is_kind c ms) →
    (shows c (class_of (key_of c n)) v m).typed ≡ is_some (first_with is_kind c (held_with ms a n (scalar b v)))
typed-scalar c ms a n b v m e =
    typed-scalar-by c (key_of c n) v (scalar b v) (first_with is_kind c ms) m e ∙ ap is_some (sym (held-first is_kind c ms a n (scalar b v)))

-- what it shows doesn't hang on where it stands
pub shows-by : (c : Context) (k : Class) (v : Scalar) (place : ℕ) (es : List Event) (part : LeadPart) (spot : LeadSpot) (m : Lead) →
    shows c k v (lead_by place es part spot m) ≡ lead_by place es part spots.Between (shows c k v m)
shows-by c class.Identifier v place es part spot m = refl
shows-by c x v place es part spot m = refl

-- ---- an array of types

abbrev pub with_types : Bool → Lead → Lead
with_types last m = record m { json = first_of m.typed m.json last; typed = true }

firsts-types : (c : Context) (q : Key) (b : ℕ) (xs : Trees) (f g h : Option Tree) (m : Lead) → is_kind q ≡ true → m.typed ≡ is_some g → Firsts c f g h m →
    Firsts c (or_first f (picked (is_id q) (array b xs))) (or_first g (picked (is_kind q) (array b xs))) (or_first h (picked (is_value q) (array b xs))) (with_types (json_text (last_string xs)) m)
firsts-types c kind b xs f g h m e t x = (same-name c f m x.0, (first-json g (array b xs) m (json_text (last_string xs)) t x.1.0 refl, same-some h m.valued x.1.1))
firsts-types c q b xs f g h m e t x = absurd cc

pub shows-types : (c : Context) (ms : Members) (a : ℕ) (n : Text) (b : ℕ) (xs : Trees) (m : Lead) → is_kind (key_of c n) ≡ true → m.typed ≡ is_some (first_with is_kind c ms) →
    Shows c ms m → Shows c (held_with ms a n (array b xs)) (with_types (json_text (last_string xs)) m)
shows-types c ms a n b xs m e t h =
    shows-more c ms a n (array b xs) (with_types (json_text (last_string xs)) m)
    (firsts-types c (key_of c n) b xs (first_with is_id c ms) (first_with is_kind c ms) (first_with is_value c ms) m e t (firsts c ms m h))

pub typed-types : (c : Context) (ms : Members) (a : ℕ) (n : Text) (v : Tree) → is_kind (key_of c n) ≡ true → true ≡ is_some (first_with is_kind c (held_with ms a n v))
typed-types c ms a n v e =
    some-or (first_with is_kind c ms) v
    ∙ (ap (λ x. is_some (or_first (first_with is_kind c ms) (picked x v))) (sym e) ∙ ap is_some (sym (held-first is_kind c ms a n v)))

-- ---- a container that begins the second run, or stands in it

abbrev pub part_after : Class → LeadPart
part_after class.Value = parts.Over
part_after k = parts.Run

abbrev pub with_whole : Class → Lead → Lead
with_whole class.Value m = record m { valued = true }
with_whole class.Identifier m = record m { name = first_of m.named m.name None; named = true }
with_whole k m = m

pub opens-by : (k : Class) (place : ℕ) (es : List Event) (part : LeadPart) (spot : LeadSpot) (m : Lead) →
    opens_whole k (lead_by place es part spot m) ≡ holds (lead_by place es (part_after k) (spots.Inside zero) (with_whole k m))
opens-by class.Identifier place es part spot m = refl
opens-by x place es part spot m = refl

-- no scalar, and no array of types
abbrev pub IsWhole : Key → Tree → Type 0
IsWhole q (scalar b v) = ⊥
IsWhole q (array b xs) = is_kind q ≡ false
IsWhole q (object b ms) = Unit {0}

no-string : (q : Key) (v : Tree) → IsWhole q v → string_of v ≡ None
no-string q (scalar b v) w = absurd w
no-string q (array b xs) w = refl
no-string q (object b ms) w = refl

not-json : (q : Key) (v : Tree) → is_kind q ≡ true → IsWhole q v → json_text (last_of v) ≡ false
not-json q (scalar b v) e w = absurd w
not-json q (array b xs) e w = absurd (let z : true ≡ false = sym e ∙ w in cc)
not-json q (object b ms) e w = refl

json-none : (g : Option Tree) (v : Tree) → json_text (last_of v) ≡ false → json_first g ≡ json_first (or_first g (Some v))
json-none None v e = sym e
json-none (Some w) v e = refl

firsts-whole : (c : Context) (q : Key) (v : Tree) (f g h : Option Tree) (m : Lead) → is_leading q ≡ true → IsWhole q v → Firsts c f g h m →
    Firsts c (or_first f (picked (is_id q) v)) (or_first g (picked (is_kind q) v)) (or_first h (picked (is_value q) v)) (with_whole (class_of q) m)
firsts-whole c id v f g h m e w x =
    ((some-or f v, first-name c f v m None x.0.0 x.0.1 (ap (naming_of c) (sym (no-string id v w)))), (same-json g m.json x.1.0, same-some h m.valued x.1.1))
firsts-whole c kind v f g h m e w x = (same-name c f m x.0, (x.1.0 ∙ json-none g v (not-json kind v refl w), same-some h m.valued x.1.1))
firsts-whole c value v f g h m e w x = (same-name c f m x.0, (same-json g m.json x.1.0, some-or h v))
firsts-whole c language v f g h m e w x = firsts-quiet c f g h m x
firsts-whole c direction v f g h m e w x = firsts-quiet c f g h m x
firsts-whole c index v f g h m e w x = firsts-quiet c f g h m x
firsts-whole c q v f g h m e w x = absurd cc

pub shows-whole : (c : Context) (ms : Members) (a : ℕ) (n : Text) (v : Tree) (m : Lead) → is_leading (key_of c n) ≡ true → IsWhole (key_of c n) v →
    Shows c ms m → Shows c (held_with ms a n v) (with_whole (class_of (key_of c n)) m)
shows-whole c ms a n v m e w h =
    shows-more c ms a n v (with_whole (class_of (key_of c n)) m)
    (firsts-whole c (key_of c n) v (first_with is_id c ms) (first_with is_kind c ms) (first_with is_value c ms) m e w (firsts c ms m h))

-- the first type stays as it is
pub kind-whole : (c : Context) (ms : Members) (a : ℕ) (n : Text) (v : Tree) → IsWhole (key_of c n) v → json_first (first_with is_kind c ms) ≡ json_first (first_with is_kind c (held_with ms a n v))
kind-whole c ms a n v w = by (is_kind (key_of c n)) refl ∙ ap json_first (sym (held-first is_kind c ms a n v))
  where
    by : (x : Bool) → is_kind (key_of c n) ≡ x → json_first (first_with is_kind c ms) ≡ json_first (or_first (first_with is_kind c ms) (picked x v))
    by true e = json-none (first_with is_kind c ms) v (not-json (key_of c n) v e w)
    by false e = ap json_first (sym (or-none (first_with is_kind c ms)))

-- so it does after another key
pub kind-other : (c : Context) (ms : Members) (a : ℕ) (n : Text) (v : Tree) → is_kind (key_of c n) ≡ false → json_first (first_with is_kind c ms) ≡ json_first (first_with is_kind c (held_with ms a n v))
kind-other c ms a n v e =
    ap json_first (sym (or-none (first_with is_kind c ms)))
    ∙ (ap (λ x. json_first (or_first (first_with is_kind c ms) (picked x v))) (sym e) ∙ ap json_first (sym (held-first is_kind c ms a n v)))

-- ==== The events of members that are held, as one more is held.

-- ---- the events of types

pub told-more : (xs : Trees) (es : List Event) (t : Tree) (own : List Event) → Told xs es → Told (item t no_item) own → Told (add_item xs t) (es ++ own)
told-more no_item es t own h g = subst (λ x. Told (item t no_item) (x ++ own)) (sym h) g
told-more (item (scalar b v) rest) es t own h g = (h.0 ++ own, (ap (λ x. x ++ own) h.1.0, told-more rest h.0 t own h.1.1 g))
told-more (item (array b ys) rest) es t own h g = (h.0 ++ own, ap (λ x. x ++ own) h.1)
told-more (item (object b ms) rest) es t own h g = (h.0 ++ own, ap (λ x. x ++ own) h.1)

pub last-item : (xs : Trees) (t : Tree) → last_string (add_item xs t) ≡ string_of t
last-item no_item t = refl
last-item (item x no_item) t = refl
last-item (item x (item y rest)) t = last-item (item y rest) t

-- ---- the events of members

array-more : (x : Bool) (b : ℕ) (m : Text) (d : ℕ) (xs : Trees) (next later : List Event → Type 0) (es own : List Event) → ((more : List Event) → next more → later (more ++ own)) →
    HeldArray x b m d xs next es → HeldArray x b m d xs later (es ++ own)
array-more true b m d xs next later es own f h =
    (h.0, (h.1.0 ++ own, (ap (λ x. x ++ own) h.1.1.0 ∙ ap (λ x. events.Key b m ∷ (events.OpensArray d ∷ x)) (append_assoc h.0 (events.Closes ∷ h.1.0) own), (h.1.1.1.0, f h.1.0 h.1.1.1.1))))
array-more false b m d xs next later es own f h = (h.0 ++ own, ap (λ x. x ++ own) h.1)

pub held-more : (c : Context) (ms : Members) (es : List Event) (a : ℕ) (n : Text) (v : Tree) (own : List Event) → Held c ms es → Held c (member a n v no_member) own → Held c (held_with ms a n v) (es ++ own)
held-more c no_member es a n v own h g = subst (λ x. Held c (member a n v no_member) (x ++ own)) (sym h) g
held-more c (member b m (scalar d w) rest) es a n v own h g = (h.0 ++ own, (ap (λ x. x ++ own) h.1.0, held-more c rest h.0 a n v own h.1.1 g))
held-more c (member b m (array d xs) rest) es a n v own h g =
    array-more (is_kind (key_of c m)) b m d xs (Held c rest) (Held c (held_with rest a n v)) es own (λ more x. held-more c rest more a n v own x g) h
held-more c (member b m (object d ns) rest) es a n v own h g = (h.0 ++ own, ap (λ x. x ++ own) h.1)

-- one member alone
pub one-scalar : (c : Context) (a : ℕ) (n : Text) (b : ℕ) (v : Scalar) → Held c (member a n (scalar b v) no_member) (events.Key a n ∷ (events.Value b v ∷ []))
one-scalar c a n b v = ([], (refl, refl))

pub one-types : (c : Context) (a : ℕ) (n : Text) (b : ℕ) (xs : Trees) (own : List Event) → is_kind (key_of c n) ≡ true → Told xs own →
    Held c (member a n (array b xs) no_member) (events.Key a n ∷ (events.OpensArray b ∷ (own ++ events.Closes ∷ [])))
one-types c a n b xs own e t =
    subst (λ x. HeldArray x a n b xs (Held c no_member) (events.Key a n ∷ (events.OpensArray b ∷ (own ++ events.Closes ∷ [])))) (sym e)
    (own, ([], (refl, (t, refl))))

-- the event that opens a value
abbrev pub OpensAs : Tree → Event → Type 0
OpensAs (array d xs) (events.OpensArray b) = b ≡ d
OpensAs (object d ms) (events.OpensObject b) = b ≡ d
OpensAs x e = ⊥

pub one-whole : (c : Context) (a : ℕ) (n : Text) (v : Tree) (e : Event) (more : List Event) → IsWhole (key_of c n) v → OpensAs v e → Held c (member a n v no_member) (events.Key a n ∷ (e ∷ more))
one-whole c a n (scalar b v) e more w h = absurd w
one-whole c a n (array b xs) (events.OpensArray d) more w h =
    subst (λ x. HeldArray x a n b xs (Held c no_member) (events.Key a n ∷ (events.OpensArray d ∷ more))) (sym w) (more, ap (λ x. events.Key a n ∷ (events.OpensArray x ∷ more)) h)
one-whole c a n (array b xs) e more w h = absurd h
one-whole c a n (object b ms) (events.OpensObject d) more w h = (more, ap (λ x. events.Key a n ∷ (events.OpensObject x ∷ more)) h)
one-whole c a n (object b ms) e more w h = absurd h

pub told-whole : (t : Tree) (e : Event) (more : List Event) → OpensAs t e → Told (item t no_item) (e ∷ more)
told-whole (array b xs) (events.OpensArray d) more h = (more, ap (λ x. events.OpensArray x ∷ more) h)
told-whole (object b ms) (events.OpensObject d) more h = (more, ap (λ x. events.OpensObject x ∷ more) h)
told-whole x e more h = absurd h

pub whole-string : (t : Tree) (e : Event) → OpensAs t e → string_of t ≡ None
whole-string (scalar b v) e h = absurd h
whole-string (array b xs) e h = refl
whole-string (object b ms) e h = refl

-- ---- keys that lead, and members of the prelude

pub keys-more : (c : Context) (ms : Members) (a : ℕ) (n : Text) (v : Tree) → KeysLead c ms → is_leading (key_of c n) ≡ true → KeysLead c (held_with ms a n v)
keys-more c no_member a n v h e = (e, tt)
keys-more c (member b m w rest) a n v h e = (h.0, keys-more c rest a n v h.1 e)

lead-with : (c : Context) (ms : Members) (a : ℕ) (n : Text) (v : Tree) → all_lead c (held_with ms a n v) ≡ (all_lead c ms && is_in_prelude (c ∷ []) n v)
lead-with c no_member a n v = and-true (is_in_prelude (c ∷ []) n v)
lead-with c (member b m w rest) a n v =
    ap (λ x. is_in_prelude (c ∷ []) m w && x) (lead-with c rest a n v) ∙ sym (and_assoc (is_in_prelude (c ∷ []) m w) (all_lead c rest) (is_in_prelude (c ∷ []) n v))

pub lead-more : (c : Context) (ms : Members) (a : ℕ) (n : Text) (v : Tree) → all_lead c ms ≡ true → is_in_prelude (c ∷ []) n v ≡ true → all_lead c (held_with ms a n v) ≡ true
lead-more c ms a n v h e = lead-with c ms a n v ∙ and_from (all_lead c ms) (is_in_prelude (c ∷ []) n v) h e

pub lead-stays : (c : Context) (ms : Members) (a : ℕ) (n : Text) (v : Tree) → all_lead c ms ≡ false → all_lead c (held_with ms a n v) ≡ false
lead-stays c ms a n v h = lead-with c ms a n v ∙ and_left (all_lead c ms) (is_in_prelude (c ∷ []) n v) h

pub lead-ends : (c : Context) (ms : Members) (a : ℕ) (n : Text) (v : Tree) → is_in_prelude (c ∷ []) n v ≡ false → all_lead c (held_with ms a n v) ≡ false
lead-ends c ms a n v e = lead-with c ms a n v ∙ and_right (all_lead c ms) (is_in_prelude (c ∷ []) n v) e

pub length-all : (c : Context) (ms : Members) → all_lead c ms ≡ true → members_length ms ≡ prelude_length (c ∷ []) ms
length-all c no_member h = refl
length-all c (member b m w rest) h = by (is_in_prelude (c ∷ []) m w) h (length-all c rest)
  where
    by : (x : Bool) → (x && all_lead c rest) ≡ true → (all_lead c rest ≡ true → members_length rest ≡ prelude_length (c ∷ []) rest) →
        suc (members_length rest) ≡ elim x [ true ↦ suc (prelude_length (c ∷ []) rest) | false ↦ 0 ]
    by true h f = ap suc (f h)
    by false h f = absurd cc

pub length-stays : (c : Context) (ms : Members) (a : ℕ) (n : Text) (v : Tree) → all_lead c ms ≡ false → prelude_length (c ∷ []) ms ≡ prelude_length (c ∷ []) (held_with ms a n v)
length-stays c no_member a n v h = absurd cc
length-stays c (member b m w rest) a n v h = by (is_in_prelude (c ∷ []) m w) h (length-stays c rest a n v)
  where
    by : (x : Bool) → (x && all_lead c rest) ≡ false → (all_lead c rest ≡ false → prelude_length (c ∷ []) rest ≡ prelude_length (c ∷ []) (held_with rest a n v)) →
        ◌≡◌ {A = ℕ} (elim x [ true ↦ suc (prelude_length (c ∷ []) rest) | false ↦ 0 ]) (elim x [ true ↦ suc (prelude_length (c ∷ []) (held_with rest a n v)) | false ↦ 0 ])
    by true h f = ap suc (f h)
    by false h f = refl

pub length-ends : (c : Context) (ms : Members) (a : ℕ) (n : Text) (v : Tree) → all_lead c ms ≡ true → is_in_prelude (c ∷ []) n v ≡ false → members_length ms ≡ prelude_length (c ∷ []) (held_with ms a n v)
length-ends c no_member a n v h e = ap (λ (x : Bool). let l : ℕ = elim x [ true ↦ 1 | false ↦ 0 ] in l) (sym e)
length-ends c (member b m w rest) a n v h e = by (is_in_prelude (c ∷ []) m w) h (λ x. length-ends c rest a n v x e)
  where
    by : (x : Bool) → (x && all_lead c rest) ≡ true → (all_lead c rest ≡ true → members_length rest ≡ prelude_length (c ∷ []) (held_with rest a n v)) →
        suc (members_length rest) ≡ elim x [ true ↦ suc (prelude_length (c ∷ []) (held_with rest a n v)) | false ↦ 0 ]
    by true h f = ap suc (f h)
    by false h f = absurd cc

pub kind-leads : (q : Key) → is_kind q ≡ true → is_leading q ≡ true
kind-leads kind e = refl
kind-leads q e = absurd cc

pub scalar-leads : (c : Context) (n : Text) (b : ℕ) (v : Scalar) → is_leading (key_of c n) ≡ true → is_in_prelude (c ∷ []) n (scalar b v) ≡ true
scalar-leads c n b v e = ap (λ x. x || false) e

pub types-lead : (c : Context) (n : Text) (b : ℕ) (xs : Trees) → is_kind (key_of c n) ≡ true → is_in_prelude (c ∷ []) n (array b xs) ≡ true
types-lead c n b xs e = ap (λ x. x || false) e

pub whole-ends : (c : Context) (n : Text) (v : Tree) → IsWhole (key_of c n) v → is_in_prelude (c ∷ []) n v ≡ false
whole-ends c n (scalar b v) w = absurd w
whole-ends c n (array b xs) w = ap (λ x. x || false) w
whole-ends c n (object b ms) w = refl
