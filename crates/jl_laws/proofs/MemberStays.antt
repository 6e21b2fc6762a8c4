-- The faults of an open member stay: of its key, of its value's first byte, and from inside its value.
use Rattle.std.proofs.Common.{◌||◌, ℕ, ◌+◌, ◌≤◌, ◌≡◌, ◌⊎◌, inl, inr, refl, sym, ◌∙◌, ap, subst, Bool, true, false, not, ◌&&◌, List, ◌∷◌, ◌++◌, Option, Some, None, Result, Ok, Err, arith, []}
use Rattle.jl_model.specs.JsonTree.{Tree, scalar, array, object, Trees, no_item, item, Members, no_member, member}
use Rattle.jl_model.specs.declared.scalars.Scalar.TheVariants.{Str}
use Rattle.jl_model.specs.declared.faults.Fault.{Fault}
use Rattle.jl_model.specs.declared.codes.Code.{Code}
use Rattle.jl_model.specs.declared.codes.Code.TheVariants as code
use Rattle.jl_defs.specs.Texts.{Text}
use Rattle.jl_defs.specs.Trees.{then_members}
use Rattle.jl_defs.specs.Context.{TermDef, Context, term}
use Rattle.jl_defs.specs.Process.{Library}
use Rattle.jl_defs.specs.Settings.{Settings, Under, graph_property, property_of, Stand, elsewhere, inside_of, drops, lists, no_property}
use Rattle.jl_defs.specs.Keys.{Key, id, kind, value, language, direction, index, graph, included, list, set, reverse, nest, property, key_of}
use Rattle.jl_defs.specs.ObjectContexts.{Inside, fault}
use Rattle.jl_defs.specs.ValueObjects.{is_json, is_json_type, type_of_values}
use Rattle.jl_defs.specs.Canon.{json_faults}
use Rattle.jl_defs.specs.Items.{Items, given}
use Rattle.jl_defs.specs.Trees.{place_of}
use Rattle.jl_defs.specs.Kept.{is_list_object, Role, nested_member, refusal, Form, json_form, language_form, map_form, plain_form, form_of, nest_inside}
use Rattle.jl_defs.specs.Expansion.{is_plain_graph, by_form, contained, language_map, map_items, expand}
use Rattle.jl_defs.specs.MemberFaults.{Seen, key_faults, takes_json, shape_faults, unless_string, type_faults, direction_faults, value_faults as given_faults, turned_faults, unless_map, nest_faults}
use Rattle.jl_defs.specs.Faults.{Place, place, see, see_nest, see_nested, see_nested_in, unless_refused, applied_faults, inside_by, faults_by, if_turned, turns, json_numbers, language_faults, property_faults, judged, value_faults, members_faults, nested_faults, all_nested_faults, reversed_faults, map_faults}
use Rattle.jl_defs.specs.OpenTree.{First, quote, brace, bracket, sign, Open, unread, first_byte, stand_in, Extends}
use Rattle.jl_defs.specs.Reported.{Judging, as_they_are, as_turned, as_included, judged_items, judging_of, map_turned, language_turned, map_items_read, language_items_read, language_reported, reverse_first, unless_quote, type_first, value_first, first_faults, first_known, begun_at, json_reported, form_reported, property_reported, open_by, member_reported, seen_behind, map_reported, value_reported, nested_reported, reversed_reported, nest_first}
use Rattle.jl_defs.specs.Sets.{tally}
use Rattle.jl_laws.proofs.Bools.{true-false, picked-false}
use Rattle.jl_laws.proofs.Counting.{tally-append}
use Rattle.jl_laws.proofs.Begun.{Begins, extends-begins, Alike, IsRead, stand-alike, IsPlaced, begun-placed}
use Rattle.jl_laws.proofs.Decided.{streaming}
use Rattle.jl_defs.specs.LateKeys.{if_so}
use Rattle.jl_laws.proofs.LiteralStays.{json-stays, language-stays}
use Rattle.jl_laws.proofs.ItemsStay.{map-items-stay, language-items-stay}

quote-le : (f : Fault → ℕ) (c : Code) (a : ℕ) (first : First) (v : Tree) → Begins (Some first) v → tally f (unless_quote c a first) ≤ tally f (unless_string c a v)
quote-le f c a quote v b = omega arith
quote-le f c a sign (scalar at (Str text)) b = absurd b
quote-le f c a bracket (scalar at (Str text)) b = absurd b
quote-le f c a brace (scalar at (Str text)) b = absurd b
quote-le f c a first v b = omega arith

direction-le : (f : Fault → ℕ) (a : ℕ) (first : First) (v : Tree) → Begins (Some first) v → tally f (unless_quote code.InvalidBaseDirection a first) ≤ tally f (direction_faults a v)
direction-le f a quote v b = omega arith
direction-le f a sign (scalar at (Str text)) b = absurd b
direction-le f a bracket (scalar at (Str text)) b = absurd b
direction-le f a brace (scalar at (Str text)) b = absurd b
direction-le f a first v b = omega arith

type-le : (f : Fault → ℕ) (a : ℕ) (first : First) (v : Tree) → Begins (Some first) v → tally f (type_first a first) ≤ tally f (type_faults a v)
type-le f a quote v b = omega arith
type-le f a bracket v b = omega arith
type-le f a sign (scalar at (Str text)) b = absurd b
type-le f a brace (scalar at (Str text)) b = absurd b
type-le f a sign (array at xs) b = absurd b
type-le f a brace (array at xs) b = absurd b
type-le f a first v b = omega arith

not-taken : (f : Fault → ℕ) (b : Bool) (fs : List Fault) → b ≡ false → tally f fs ≤ tally f (if_so (not b) fs)
not-taken f true fs e = absurd (true-false e)
not-taken f false fs e = omega arith

value-le : (f : Fault → ℕ) (json taken : Bool) (a : ℕ) (first : First) (v : Tree) → (json ≡ false → taken ≡ false) → Begins (Some first) v → tally f (value_first json a first) ≤ tally f (given_faults taken a v)
value-le f true taken a first v h b = omega arith
value-le f false taken a quote v h b = omega arith
value-le f false taken a sign v h b = omega arith
value-le f false taken a bracket (array at xs) h b = not-taken f taken _ (h refl)
value-le f false taken a brace (object at ms) h b = not-taken f taken _ (h refl)
value-le f false taken a first v h b = absurd b

reverse-le : (f : Fault → ℕ) (a : ℕ) (first : First) (v : Tree) → Begins (Some first) v → tally f (reverse_first a first) ≤ tally f (unless_map code.InvalidReverseValue a v)
reverse-le f a brace v b = omega arith
reverse-le f a quote (object at ms) b = absurd b
reverse-le f a sign (object at ms) b = absurd b
reverse-le f a bracket (object at ms) b = absurd b
reverse-le f a first v b = omega arith

nest-le : (f : Fault → ℕ) (at : ℕ) (first : First) (v : Tree) → at ≡ place_of v → Begins (Some first) v → tally f (nest_first at first) ≤ tally f (nest_faults v)
nest-le f at brace v e b = omega arith
nest-le f at bracket v e b = omega arith
nest-le f at quote (scalar at' v) e b = omega (arith, ap (λ k. tally f (fault code.InvalidNestValue k ∷ [])) e)
nest-le f at sign (scalar at' v) e b = omega (arith, ap (λ k. tally f (fault code.InvalidNestValue k ∷ [])) e)
nest-le f at quote (array at' xs) e b = absurd b
nest-le f at quote (object at' ms) e b = absurd b
nest-le f at sign (array at' xs) e b = absurd b
nest-le f at sign (object at' ms) e b = absurd b

-- a value's first byte, where the key tells what it must be
first-le : (f : Fault → ℕ) (k : Key) (json taken : Bool) (a at : ℕ) (first : First) (v : Tree) → at ≡ place_of v → (json ≡ false → taken ≡ false) → Begins (Some first) v →
    tally f (first_faults k json a at first) ≤ tally f (shape_faults k taken a v)
first-le f nest json taken a at first v j h b = nest-le f at first v j b
first-le f reverse json taken a at first v j h b = reverse-le f a first v b
first-le f value json taken a at first v j h b = value-le f json taken a first v h b
first-le f id json taken a at first v j h b = quote-le f code.InvalidIdValue a first v b
first-le f index json taken a at first v j h b = quote-le f code.InvalidIndexValue a first v b
first-le f language json taken a at first v j h b = quote-le f code.InvalidLanguageTaggedString a first v b
first-le f direction json taken a at first v j h b = direction-le f a first v b
first-le f kind json taken a at first v j h b = type-le f a first v b
first-le f k json taken a at first v j h b = omega arith

first-known-le : (f : Fault → ℕ) (k : Key) (json taken : Bool) (a at : ℕ) (first : Option First) (v : Tree) → IsPlaced first at v → (json ≡ false → taken ≡ false) → Begins first v →
    tally f (first_known k json a at first) ≤ tally f (shape_faults k taken a v)
first-known-le f k json taken a at None v j h b = omega arith
first-known-le f k json taken a at (Some first) v j h b = first-le f k json taken a at first v j h b

form-alike : (t : Option TermDef) (v w : Tree) → Alike v w → form_of t v ≡ form_of t w
form-alike None v w e = refl
form-alike (Some t) (scalar at v) (scalar at' w) e = refl
form-alike (Some t) (scalar at v) (array at' ys) e = absurd e
form-alike (Some t) (scalar at v) (object at' ns) e = absurd e
form-alike (Some t) (array at xs) (scalar at' w) e = absurd e
form-alike (Some t) (array at xs) (array at' ys) e = refl
form-alike (Some t) (array at xs) (object at' ns) e = absurd e
form-alike (Some t) (object at ms) (scalar at' w) e = absurd e
form-alike (Some t) (object at ms) (array at' ys) e = absurd e
form-alike (Some t) (object at ms) (object at' ns) e = refl

-- an open value stays, in each context, under each property, at each place and however its items are judged
abbrev pub Stays : (Fault → ℕ) → Settings → Open → Tree → Type 0
Stays f s o v =
    (d : Context) (u : Under) (w : Stand) (j : Judging) →
    tally f (value_reported s d u w j o) ≤ tally f (value_faults s d u w v) + tally f (judged_items j (given (expand s d u w v)) (judged s d v))

abbrev pub MapStays : (Fault → ℕ) → Settings → Open → Tree → Type 0
MapStays f s o v = (d : Context) (t : TermDef) (name : Text) → tally f (map_reported s d t name o) ≤ tally f (map_faults s d t name v)

abbrev pub NestStays : (Fault → ℕ) → Settings → Open → Tree → Type 0
NestStays f s o v =
    (i : Inside) (name : Text) (p : Place) (seen : Seen) → tally f (nested_reported s i name p seen o) ≤ tally f (nested_faults s i name p seen v)

abbrev pub ReverseStays : (Fault → ℕ) → Settings → Open → Tree → Type 0
ReverseStays f s o v = (d : Context) → tally f (reversed_reported s d o) ≤ tally f (reversed_faults s d v)

contained-flat : (t : Option TermDef) (is_list : Bool) (at : ℕ) (xs : Option Items) → lists t ≡ false → is_plain_graph t ≡ false → given (contained t is_list at xs) ≡ given xs
contained-flat t is_list at None l g = refl
contained-flat t is_list at (Some xs) l g =
    picked-false (lists t && not is_list) _ _ (ap (λ b. b && not is_list) l) ∙ picked-false (is_plain_graph t) _ _ g

-- the items of a property, by its form
abbrev items_by : Settings → Context → Text → Tree → Form → Items
items_by s d name v k =
    given (by_form k v (term d name)
    (λ _. language_map d v)
    (λ t. map_items s d t name v)
    (λ _. contained (term d name) (is_list_object s d (property_of name) elsewhere v) (place_of v) (expand s d (property_of name) elsewhere v)))

or-none : (a b : Bool) → (a || b) ≡ false → (a ≡ false) × (b ≡ false)
or-none true b e = absurd (true-false e)
or-none false b e = (refl, e)

-- a plain value: where it is turned, its items are judged, unless they become one list or are wrapped
plain-le : (f : Fault → ℕ) (s : Settings) (d : Context) (role : Role) (name : Text) (o : Open) (v : Tree) → Stays f s o v →
    tally f (value_reported s d (property_of name) elsewhere (judging_of role (term d name)) o)
    ≤ tally f (value_faults s d (property_of name) elsewhere v) + tally f (if_turned (turns role (term d name)) (λ _. turned_faults (items_by s d name v plain_form)))
plain-le f s d role name o v h = by (turns role t) (lists t || is_plain_graph t) refl
  where
    t : Option TermDef
    t = term d name

    xs : Option Items
    xs = expand s d (property_of name) elsewhere v

    by : (b l : Bool) → (lists t || is_plain_graph t) ≡ l →
        tally f (value_reported s d (property_of name) elsewhere (elim (b && not l) [ true ↦ as_turned | false ↦ as_they_are ]) o)
        ≤ tally f (value_faults s d (property_of name) elsewhere v) + tally f (if_turned b (λ _. turned_faults (items_by s d name v plain_form)))
    by true false q =
        let flat = or-none (lists t) (is_plain_graph t) q in
        omega (
          arith,
          h d (property_of name) elsewhere as_turned,
          ap (λ ys. tally f (turned_faults ys)) (contained-flat t (is_list_object s d (property_of name) elsewhere v) (place_of v) xs flat.0 flat.1),
        )
    by true true q = omega (arith, h d (property_of name) elsewhere as_they_are)
    by false l q = omega (arith, h d (property_of name) elsewhere as_they_are)

-- what an open map of a container gives, and its items where they are turned
abbrev pub mapped_read : Settings → Role → Context → Text → Open → TermDef → List Fault
mapped_read s role d name o t = map_reported s d t name o ++ map_turned s role d t name o

-- what an open value of a property gives, by its form
abbrev form_read : Settings → Inside → Role → Text → Open → Form → List Fault
form_read s i role name o k =
    form_reported k (term i.final name) o (mapped_read s role i.final name o) (value_reported s i.final (property_of name) elsewhere (judging_of role (term i.final name)) o)
    ++ language_turned k i role name o

if-turned-same : (f : Fault → ℕ) (b : Bool) (xs ys : List Fault) → tally f xs ≤ tally f ys → tally f (if_turned b (λ _. xs)) ≤ tally f (if_turned b (λ _. ys))
if-turned-same f true xs ys h = h
if-turned-same f false xs ys h = omega arith

-- an open value of a property, by its form: a further form is a further clause here
form-le : (f : Fault → ℕ) (s : Settings) (i : Inside) (role : Role) (name : Text) (k : Form) (o : Open) (v : Tree) →
    Extends o v → Stays f s o v → MapStays f s o v →
    tally f (form_read s i role name o k)
    ≤ tally f (faults_by k (term i.final name) (λ _. json_faults v) (λ _. language_faults v) (λ t. map_faults s i.final t name v) (λ _. value_faults s i.final (property_of name) elsewhere v)
    ++ if_turned (turns role (term i.final name)) (λ _. turned_faults (items_by s i.final name v k)))
form-le f s i role name json_form o v x h m =
    omega (
      arith,
      json-stays f o v x,
      tally-append f (json_reported o) [],
      tally-append f (json_faults v) (if_turned (turns role (term i.final name)) (λ _. turned_faults (items_by s i.final name v json_form))),
    )
form-le f s i role name language_form o v x h m =
    let turned = turns role (term i.final name) in
    omega (
      arith,
      language-stays f o v x,
      if-turned-same f turned (turned_faults (language_items_read i.final o)) (turned_faults (language_map i.final v)) (language-items-stay f i.final o v x),
      tally-append f (language_reported o) (if_turned turned (λ _. turned_faults (language_items_read i.final o))),
      tally-append f (language_faults v) (if_turned turned (λ _. turned_faults (language_map i.final v))),
    )
form-le f s i role name map_form o v x h m = by (term i.final name)
  where
    d : Context
    d = i.final

    plain : List Fault
    plain = value_reported s d (property_of name) elsewhere (judging_of role (term d name)) o

    xs : Option Items
    xs = contained (term d name) (is_list_object s d (property_of name) elsewhere v) (place_of v) (expand s d (property_of name) elsewhere v)

    by : (t : Option TermDef) →
        tally f (form_reported map_form t o (mapped_read s role d name o) plain ++ [])
        ≤ tally f (faults_by map_form t (λ _. json_faults v) (λ _. language_faults v) (λ t. map_faults s d t name v) (λ _. value_faults s d (property_of name) elsewhere v)
        ++ if_turned (turns role t) (λ _. turned_faults (given (by_form map_form v t (λ _. language_map d v) (λ t. map_items s d t name v) (λ _. xs)))))
    by None = omega arith
    by (Some t) =
        let mine = if_turned (turns role (Some t)) (λ _. turned_faults (map_items_read s d t name o)) in
        let theirs = if_turned (turns role (Some t)) (λ _. turned_faults (map_items s d t name v)) in
        omega (
          arith,
          m d t name,
          if-turned-same f (turns role (Some t)) (turned_faults (map_items_read s d t name o)) (turned_faults (map_items s d t name v)) (map-items-stay f s d t name o v x),
          tally-append f (map_reported s d t name o ++ mine) [],
          tally-append f (map_reported s d t name o) mine,
          tally-append f (map_faults s d t name v) theirs,
        )
form-le f s i role name plain_form o v x h m =
    omega (
      arith,
      plain-le f s i.final role name o v h,
      tally-append f (value_reported s i.final (property_of name) elsewhere (judging_of role (term i.final name)) o) [],
      tally-append f (value_faults s i.final (property_of name) elsewhere v) (if_turned (turns role (term i.final name)) (λ _. turned_faults (items_by s i.final name v plain_form))),
    )

no-turned : (f : Fault → ℕ) (b : Bool) → tally f (if_turned b (λ _. [])) ≡ 0
no-turned f true = refl
no-turned f false = refl

form-unread : (f : Fault → ℕ) (s : Settings) (i : Inside) (role : Role) (name : Text) (j : Judging) (t : Option TermDef) (k : Form) →
    tally f (form_reported k t unread (mapped_read s role i.final name unread) (value_reported s i.final (property_of name) elsewhere j unread) ++ language_turned k i role name unread) ≡ 0
unfolding value_reported json_reported
form-unread f s i role name j t json_form = refl
form-unread f s i role name j t language_form = no-turned f (turns role (term i.final name))
form-unread f s i role name j None map_form = refl
form-unread f s i role name j (Some t) map_form =
    let none = if_turned (turns role (Some t)) (λ _. []) in
    omega (arith, no-turned f (turns role (Some t)), tally-append f none [])
form-unread f s i role name j t plain_form = refl

is-read : (o : Open) → (o ≡ unread) ⊎ IsRead o
is-read unread = inl refl
is-read o = inr tt

property-le : (f : Fault → ℕ) (s : Settings) (i : Inside) (role : Role) (name : Text) (o : Open) (v : Tree) →
    Extends o v → Stays f s o v → MapStays f s o v →
    tally f (property_reported i role name o (λ d u w k. value_reported s d u w k o) (mapped_read s role i.final name o))
    ≤ tally f (property_faults s i.final role name v (λ t. map_faults s i.final t name v) (λ _. value_faults s i.final (property_of name) elsewhere v))
property-le f s i role name o v x h m = by (is-read o)
  where
    t : Option TermDef
    t = term i.final name

    all : List Fault
    all = property_faults s i.final role name v (λ t. map_faults s i.final t name v) (λ _. value_faults s i.final (property_of name) elsewhere v)

    by : (o ≡ unread) ⊎ IsRead o → tally f (form_read s i role name o (form_of t (stand_in o))) ≤ tally f all
    by (inl e) =
        subst (λ o. tally f (form_read s i role name o (form_of t (stand_in o))) ≤ tally f all) (sym e)
        (omega (arith, form-unread f s i role name (judging_of role t) t (form_of t (stand_in unread))))
    by (inr e) =
        subst (λ k. tally f (form_read s i role name o k) ≤ tally f all) (sym (form-alike t (stand_in o) v (stand-alike o v e x)))
        (form-le f s i role name (form_of t v) o v x h m)

if-so-same : (f : Fault → ℕ) (b : Bool) (xs ys : List Fault) → tally f xs ≤ tally f ys → tally f (if_so b xs) ≤ tally f (if_so b ys)
if-so-same f true xs ys h = h
if-so-same f false xs ys h = omega arith

-- what a key's value gives from inside
abbrev inside_faults : Settings → Inside → Place → Seen → Text → Tree → Key → (Unit {0} → List Fault) → List Fault
inside_faults s i p seen n v k nested =
    inside_by k (drops p.under)
    (λ _. json_numbers i v)
    (λ under. value_faults s i.final under elsewhere v)
    (λ _. judged s i.final v)
    (λ _. property_faults s i.final p.role n v (λ t. map_faults s i.final t n v) (λ _. value_faults s i.final (property_of n) elsewhere v))
    nested
    (λ _. reversed_faults s i.final v)
    (λ _. value_faults s i.final p.under elsewhere v)
    (λ _. value_faults s i.final p.under (inside_of p.stand) v)

abbrev inside_read : Settings → Inside → Place → Seen → Text → Open → Key → List Fault
inside_read s i p seen n o k =
    open_by k i p seen n o (λ d u w j. value_reported s d u w j o) (mapped_read s p.role i.final n o) (λ seen. nested_reported s i n p seen o) (λ _. reversed_reported s i.final o)

list-le : (f : Fault → ℕ) (ignored : Bool) (mine theirs : List Fault) (numbers : Unit {0} → List Fault) (under : Under → List Fault) (included_faults properties nested reversed set_faults : Unit {0} → List Fault) →
    tally f mine ≤ tally f theirs →
    tally f (if_so (not ignored) mine) ≤ tally f (inside_by list ignored numbers under included_faults properties nested reversed (λ _. theirs) set_faults)
list-le f true mine theirs numbers under included_faults properties nested reversed set_faults h = omega arith
list-le f false mine theirs numbers under included_faults properties nested reversed set_faults h = h

-- a value whose items aren't judged
as-it-is : (f : Fault → ℕ) (s : Settings) (o : Open) (v : Tree) (d : Context) (u : Under) (w : Stand) → Stays f s o v →
    tally f (value_reported s d u w as_they_are o) ≤ tally f (value_faults s d u w v)
as-it-is f s o v d u w h = omega (arith, h d u w as_they_are)

-- the case by key: a further form is a further clause here
inside-le : (f : Fault → ℕ) (s : Settings) (i : Inside) (role : Role) (under : Under) (stand : Stand) (kinds : List Tree) (seen : Seen) (n : Text) (o : Open) (v : Tree) (k : Key) →
    Extends o v → Stays f s o v → MapStays f s o v → NestStays f s o v → ReverseStays f s o v →
    tally f (inside_read s i (place role under stand kinds) seen n o k) ≤ tally f (inside_faults s i (place role under stand kinds) seen n v k (λ _. nested_faults s i n (place role under stand kinds) (see_nest seen) v))
inside-le f s i role under stand kinds seen n o v (property name) x h m q r = property-le f s i role n o v x h m
inside-le f s i role under stand kinds seen n o v value x h m q r = if-so-same f (is_json i.input) (json_reported o) (json_faults v) (json-stays f o v x)
inside-le f s i role under stand kinds seen n o v graph x h m q r = as-it-is f s o v i.final graph_property elsewhere h
inside-le f s i role under stand kinds seen n o v included x h m q r =
    omega (arith, h i.final no_property elsewhere as_included, tally-append f (value_faults s i.final no_property elsewhere v) (judged s i.final v))
inside-le f s i role under stand kinds seen n o v list x h m q r = list-le f (drops under) _ _ _ _ _ _ _ _ _ (as-it-is f s o v i.final under elsewhere h)
inside-le f s i role under stand kinds seen n o v set x h m q r = as-it-is f s o v i.final under (inside_of stand) h
inside-le f s i role under stand kinds seen n o v reverse x h m q r = r i.final
inside-le f s i role under stand kinds seen n o v nest x h m q r = q i n (place role under stand kinds) (see_nest seen)
inside-le f s i role under stand kinds seen n o v k x h m q r = omega arith

-- the faults of one member
abbrev pub own_faults : Settings → Inside → Place → Seen → ℕ → Text → Tree → List Fault → List Fault
own_faults s i p seen a n v nested =
    unless_refused (refusal p.role (key_of i.final n)) a (λ _.
    key_faults (key_of i.final n) p.under seen a
    ++ (shape_faults (key_of i.final n) (takes_json s.order i seen p.kinds) a v ++ inside_faults s i p seen n v (key_of i.final n) (λ _. nested)))

abbrev pub member_faults : Settings → Inside → Place → Seen → ℕ → Text → Tree → List Fault
member_faults s i p seen a n v = own_faults s i p seen a n v (nested_faults s i n p (see_nest seen) v)

takes-false : (json : Bool) (i : Inside) (kinds : List Tree) → json ≡ false → (json && is_json_type (type_of_values i.base kinds)) ≡ false
takes-false true i kinds e = absurd (true-false e)
takes-false false i kinds e = refl

pub member-le : (f : Fault → ℕ) (base : Option Text) (library : Library) (i : Inside) (role : Role) (under : Under) (stand : Stand) (kinds : List Tree) (seen : Seen) (a : ℕ) (n : Text) (o : Open) (v : Tree) (rest : Members) →
    Extends o v → Stays f (streaming base library) o v → MapStays f (streaming base library) o v → NestStays f (streaming base library) o v → ReverseStays f (streaming base library) o v →
    (read_nested : Seen → List Fault) (read_reversed : Unit {0} → List Fault) →
    ((k : Key) → refusal role k ≡ None →
    tally f (open_by k i (place role under stand kinds) seen n o (λ d u w j. value_reported (streaming base library) d u w j o) (mapped_read (streaming base library) role i.final n o) read_nested read_reversed)
    ≤ tally f (inside_read (streaming base library) i (place role under stand kinds) seen n o k)) →
    tally f (member_reported i (place role under stand kinds) seen a n o
    (λ d u w j. value_reported (streaming base library) d u w j o)
    (mapped_read (streaming base library) role i.final n o) read_nested read_reversed)
    ≤ tally f (members_faults (streaming base library) i (place role under stand kinds) seen (member a n v rest))
unfolding value_faults
member-le f base library i role under stand kinds seen a n o v rest x h m nests r read_nested read_reversed q = by (refusal role k) refl
  where
    s : Settings
    s = streaming base library

    p : Place
    p = place role under stand kinds

    k : Key
    k = key_of i.final n

    nested : List Fault
    nested = nested_faults s i n p (see_nest seen) v

    taken : Bool
    taken = takes_json s.order i seen kinds

    first : List Fault
    first = first_known k (is_json i.input) a (begun_at o) (first_byte o)

    read : List Fault
    read = open_by k i p seen n o (λ d u w j. value_reported s d u w j o) (mapped_read s role i.final n o) read_nested read_reversed

    theirs : List Fault
    theirs = inside_faults s i p seen n v k (λ _. nested)

    others : List Fault
    others = members_faults s i p (see s i role under seen a n v) rest

    by : (c : Option Code) → refusal role k ≡ c →
        tally f (unless_refused c a (λ _. key_faults k under seen a ++ (first ++ read)))
        ≤ tally f (unless_refused c a (λ _. key_faults k under seen a ++ (shape_faults k taken a v ++ theirs)) ++ others)
    by (Some c) e = omega (arith, tally-append f (fault c a ∷ []) others)
    by None e =
        omega (
          arith,
          first-known-le f k (is_json i.input) taken a (begun_at o) (first_byte o) v (begun-placed o v x) (takes-false (is_json i.input) i seen.kinds) (extends-begins o v x),
          q k e,
          inside-le f s i role under stand kinds seen n o v k x h m nests r,
          tally-append f (key_faults k under seen a) (first ++ read),
          tally-append f first read,
          tally-append f (key_faults k under seen a ++ (shape_faults k taken a v ++ theirs)) others,
          tally-append f (key_faults k under seen a) (shape_faults k taken a v ++ theirs),
          tally-append f (shape_faults k taken a v) theirs,
        )

-- the faults of members, behind what the first of them show
pub members-then : (f : Fault → ℕ) (s : Settings) (i : Inside) (p : Place) (seen : Seen) (ms rest : Members) →
    tally f (members_faults s i p seen (then_members ms rest)) ≡ tally f (members_faults s i p seen ms) + tally f (members_faults s i p (seen_behind s i p seen ms) rest)
unfolding value_faults seen_behind
members-then f s i p seen no_member rest = omega arith
members-then f s i p seen (member a n v ms) rest =
    let next = see s i p.role p.under seen a n v in
    let own = member_faults s i p seen a n v in
    omega (arith, members-then f s i p next ms rest, tally-append f own (members_faults s i p next ms), tally-append f own (members_faults s i p next (then_members ms rest)))

-- in streaming order only the types before a member count
own-same : (base : Option Text) (library : Library) (i : Inside) (role : Role) (under : Under) (stand : Stand) (kinds others : List Tree) (seen : Seen) (a : ℕ) (n : Text) (v : Tree) (xs ys : List Fault) → xs ≡ ys →
    own_faults (streaming base library) i (place role under stand kinds) seen a n v xs ≡ own_faults (streaming base library) i (place role under stand others) seen a n v ys
own-same base library i role under stand kinds others seen a n v xs ys e = ap (λ l. own_faults (streaming base library) i (place role under stand kinds) seen a n v l) e

applied-same : (at : ℕ) (r : Result Inside Code) (A B : Inside → List Fault) → ((j : Inside) → A j ≡ B j) → applied_faults at r A ≡ applied_faults at r B
applied-same at (Ok j) A B h = h j
applied-same at (Err e) A B h = refl

mutual
  unfolding value_faults

  pub kinds-same : (base : Option Text) (library : Library) (i : Inside) (role : Role) (under : Under) (stand : Stand) (kinds others : List Tree) (seen : Seen) (ms : Members) →
      members_faults (streaming base library) i (place role under stand kinds) seen ms ≡ members_faults (streaming base library) i (place role under stand others) seen ms
  kinds-same base library i role under stand kinds others seen no_member = refl
  kinds-same base library i role under stand kinds others seen (member a n v rest) =
      let s = streaming base library in
      let next = see s i role under seen a n v in
      let xs = nested_faults s i n (place role under stand kinds) (see_nest seen) v in
      let ys = nested_faults s i n (place role under stand others) (see_nest seen) v in
      ap (λ l. l ++ members_faults s i (place role under stand kinds) next rest)
      (own-same base library i role under stand kinds others seen a n v xs ys (nested-same base library i n role under stand kinds others (see_nest seen) v))
      ∙ ap (λ l. own_faults s i (place role under stand others) seen a n v ys ++ l) (kinds-same base library i role under stand kinds others next rest)

  nested-same : (base : Option Text) (library : Library) (i : Inside) (name : Text) (role : Role) (under : Under) (stand : Stand) (kinds others : List Tree) (seen : Seen) (t : Tree) →
      nested_faults (streaming base library) i name (place role under stand kinds) seen t ≡ nested_faults (streaming base library) i name (place role under stand others) seen t
  nested-same base library i name role under stand kinds others seen (scalar at v) = refl
  nested-same base library i name role under stand kinds others seen (array at xs) = all-nested-same base library i name role under stand kinds others seen xs
  nested-same base library i name role under stand kinds others seen (object at ms) =
      applied-same at (nest_inside (streaming base library) i name)
      (λ j. members_faults (streaming base library) j (place nested_member under stand kinds) seen ms)
      (λ j. members_faults (streaming base library) j (place nested_member under stand others) seen ms)
      (λ j. kinds-same base library j nested_member under stand kinds others seen ms)

  all-nested-same : (base : Option Text) (library : Library) (i : Inside) (name : Text) (role : Role) (under : Under) (stand : Stand) (kinds others : List Tree) (seen : Seen) (xs : Trees) →
      all_nested_faults (streaming base library) i name (place role under stand kinds) seen xs ≡ all_nested_faults (streaming base library) i name (place role under stand others) seen xs
  all-nested-same base library i name role under stand kinds others seen no_item = refl
  all-nested-same base library i name role under stand kinds others seen (item (object at ms) rest) =
      let s = streaming base library in
      let next = see_nested_in (nest_inside s i name) (λ j. see_nested s j under seen ms) seen in
      ap (λ l. l ++ all_nested_faults s i name (place role under stand kinds) next rest)
      (applied-same at (nest_inside s i name)
      (λ j. members_faults s j (place nested_member under stand kinds) seen ms)
      (λ j. members_faults s j (place nested_member under stand others) seen ms)
      (λ j. kinds-same base library j nested_member under stand kinds others seen ms))
      ∙ ap (λ l. applied_faults at (nest_inside s i name) (λ j. members_faults s j (place nested_member under stand others) seen ms) ++ l)
      (all-nested-same base library i name role under stand kinds others next rest)
  all-nested-same base library i name role under stand kinds others seen (item (scalar at v) rest) =
      ap (λ l. fault code.InvalidNestValue at ∷ l) (all-nested-same base library i name role under stand kinds others seen rest)
  all-nested-same base library i name role under stand kinds others seen (item (array at xs) rest) =
      ap (λ l. fault code.InvalidNestValue at ∷ l) (all-nested-same base library i name role under stand kinds others seen rest)

pub seen-same : (s : Settings) (i : Inside) (role : Role) (under : Under) (stand : Stand) (kinds others : List Tree) (seen : Seen) (ms : Members) →
    seen_behind s i (place role under stand kinds) seen ms ≡ seen_behind s i (place role under stand others) seen ms
unfolding seen_behind
seen-same s i role under stand kinds others seen no_member = refl
seen-same s i role under stand kinds others seen (member a n v rest) = seen-same s i role under stand kinds others (see s i role under seen a n v) rest
