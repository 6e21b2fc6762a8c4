-- The contexts of an object (JSON-LD 1.1 API, section 5.1.2, steps 7 to 12): what an object goes back to, its
-- own and its property's context, and those of its types; and what of the object decides them in each order.
use Rattle.std.specs.Prelude.{ℕ, Bool, true, false, not, ◌&&◌, List, [], ◌∷◌, ◌++◌, filter, Option, Some, None, Result, Ok, Err, codes, bytes_eq, is_some}
use Rattle.std.specs.List.{list_any}
use Rattle.jl_model.specs.JsonTree.{Tree, scalar, array, object, Trees, no_item, item, Members, no_member, member}
use Rattle.jl_model.specs.declared.scalars.Scalar.TheVariants.{Str}
use Rattle.jl_model.specs.declared.codes.Code.{Code}
use Rattle.jl_model.specs.declared.faults.Fault.{Fault}
use Rattle.jl_model.specs.declared.orders.Order.{Order}
use Rattle.jl_model.specs.declared.orders.Order.TheVariants.{Any, Streaming}
use Rattle.jl_model.specs.declared.expansions.Expanded.{Expanded}
use Rattle.jl_model.specs.declared.expansions.Expanded.TheVariants as expanded
use Rattle.jl_defs.specs.Texts.{Text, is_before}
use Rattle.jl_defs.specs.Trees.{string_of, strings_of}
use Rattle.jl_defs.specs.Context.{Scoped, Context, term, previous}
use Rattle.jl_defs.specs.IriExpansion.{expand_iri}
use Rattle.jl_defs.specs.Process.{process}
use Rattle.jl_defs.specs.Settings.{Settings, Under, Stand, is_entry, term_under, scoped_in}
use Rattle.jl_defs.specs.Keys.{key_of, is_id, is_kind, is_value, is_leading}

abbrev pub fault : Code → ℕ → Fault
fault code at = record { code = code; at = at }

-- a fault's code at a place
abbrev pub at_place : {A : Type 0} → ℕ → Result A Code → Result A Fault
at_place at (Ok x) = Ok x
at_place at (Err code) = Err (fault code at)

abbrev pub and_then : {A B : Type 0} → Result A Fault → (A → Result B Fault) → Result B Fault
and_then (Ok x) f = f x
and_then (Err e) f = Err e

-- a scoped context, applied with its base URL, an empty chain, and the two flags whether it may override and whether it propagates
abbrev pub apply_scoped : Settings → Bool → Bool → Option Scoped → Context → Result Context Code
apply_scoped s may_override propagate None c = Ok c
apply_scoped s may_override propagate (Some x) c =
    process s.library s.base x.local (record { active = c; url = x.base; chain = []; may_override = may_override; propagate = propagate; validate = true })

-- the context of a value under a property, with the property's scoped context in it (step 8)
abbrev pub property_context : Settings → Context → Under → Context → Result Context Code
property_context s found_in under c = apply_scoped s true true (scoped_in (term_under found_in under)) c

-- an object's `@context`: the place of its key, and its value
pub record Own : Type 0 where
  pub at : ℕ
  pub local : Tree

abbrev pub is_context_name : Text → Bool
is_context_name name = bytes_eq name (codes "@context")

-- the `@context` that stands first
abbrev pub first_context : Members → Option Own
first_context no_member = None
first_context (member a n v rest) = elim (is_context_name n) [ true ↦ Some (record { at = a; local = v }) | false ↦ None ]

-- the `@context`, wherever it stands
abbrev pub any_context : Members → Option Own
any_context no_member = None
any_context (member a n v rest) = elim (is_context_name n) [ true ↦ Some (record { at = a; local = v }) | false ↦ any_context rest ]

-- in streaming order only the first member can be the object's context
abbrev pub own_context : Order → Members → Option Own
own_context Any ms = any_context ms
own_context Streaming ms = first_context ms

-- the object's own context, processed (step 9)
abbrev pub apply_own : Settings → Option Own → Context → Result Context Fault
apply_own s None c = Ok c
apply_own s (Some own) c =
    at_place own.at (process s.library s.base own.local (record { active = c; url = s.base; chain = []; may_override = false; propagate = true; validate = true }))

-- the type-scoped base: the scoped context of the property, which is a term of the context outside, and the object's own one
abbrev pub type_base : Settings → Context → Under → ℕ → Option Own → Context → Result Context Fault
type_base s outside under at own c = and_then (at_place at (property_context s outside under c)) (apply_own s own)

-- what deciding the contexts sees of a member: its name, the strings of its value, and the last of these where nothing follows it
pub record Look : Type 0 where
  pub name : Text
  pub strings : List Text
  pub last : Option Text

abbrev pub last_string : Trees → Option Text
last_string no_item = None
last_string (item x no_item) = string_of x
last_string (item x (item y rest)) = last_string (item y rest)

abbrev pub look_at : Text → Tree → Look
look_at name (scalar at (Str text)) = record { name = name; strings = text ∷ []; last = Some text }
look_at name (array at xs) = record { name = name; strings = strings_of xs; last = last_string xs }
look_at name t = record { name = name; strings = []; last = None }

-- a member of which only the key is known
abbrev pub look_at_key : Text → Look
look_at_key name = record { name = name; strings = []; last = None }

abbrev pub all_looks : Members → List Look
all_looks no_member = []
all_looks (member a n v rest) = elim (is_context_name n) [ true ↦ all_looks rest | false ↦ look_at n v ∷ all_looks rest ]

-- the object is a single member for `@id`; a context of its own counts as a member
abbrev pub is_single_id : Context → Option Own → List Look → Bool
is_single_id c None (x ∷ []) = is_id (key_of c x.name)
is_single_id c own looks = false

abbrev pub means_value : Context → Look → Bool
means_value c x = is_value (key_of c x.name)

-- the object may go back to the context before: there is one, and it isn't the value of a map's entry
abbrev pub may_go_back : Context → Stand → Bool
may_go_back c stand = is_some (previous c) && not (is_entry stand)

-- it does, unless it is a value object or a reference (step 7)
abbrev pub goes_back : Context → Stand → Option Own → List Look → Bool
goes_back c stand own looks = may_go_back c stand && (not (list_any (means_value c) looks) && not (is_single_id c own looks))

abbrev pub gone_back : Option Context → Context → Context
gone_back None c = c
gone_back (Some p) c = p

-- what an object's contexts begin with: the context before, where it goes back, or the context itself
abbrev pub starting : Context → Bool → Context
starting c true = gone_back (previous c) c
starting c false = c

-- a member put among members that stand in the order of their names; below, texts in their own order
abbrev pub put_look : Look → List Look → List Look
put_look x [] = x ∷ []
put_look x (y ∷ ys) = elim (is_before y.name x.name) [ true ↦ y ∷ put_look x ys | false ↦ x ∷ (y ∷ ys) ]

abbrev pub sorted_looks : List Look → List Look
sorted_looks [] = []
sorted_looks (x ∷ xs) = put_look x (sorted_looks xs)

abbrev pub put_text : Text → List Text → List Text
put_text x [] = x ∷ []
put_text x (y ∷ ys) = elim (is_before y x) [ true ↦ y ∷ put_text x ys | false ↦ x ∷ (y ∷ ys) ]

abbrev pub sorted_texts : List Text → List Text
sorted_texts [] = []
sorted_texts (x ∷ xs) = put_text x (sorted_texts xs)

abbrev pub means_kind : Context → Look → Bool
means_kind b x = is_kind (key_of b x.name)

-- the keys that mean `@type` in the type-scoped base, by name
abbrev pub type_keys : Context → List Look → List Look
type_keys b looks = sorted_looks (filter (means_kind b) looks)

-- the types of each key, in the order of their strings, one key after another
abbrev pub type_texts : List Look → List Text
type_texts [] = []
type_texts (x ∷ xs) = sorted_texts x.strings ++ type_texts xs

-- the scoped contexts of types (step 11), each that of a term of the type-scoped base
unfoldable pub final_context : Settings → Context → List Text → Context → Result Context Code
final_context s b [] c = Ok c
final_context s b (text ∷ texts) c = then_types (apply_scoped s false false (scoped_in (term b text)) c) (final_context s b texts)
  where
    then_types : Result Context Code → (Context → Result Context Code) → Result Context Code
    then_types (Ok d) next = next d
    then_types (Err e) next = Err e

-- the input type (step 12): the last value of the first type key, as it expands in the final context
abbrev pub input_type : Context → List Look → Expanded
input_type d [] = expanded.Null
input_type d (x ∷ xs) = of_last x.last
  where
    of_last : Option Text → Expanded
    of_last None = expanded.Null
    of_last (Some text) = expand_iri d text true false

-- the contexts of an object once they are decided
pub record Inside : Type 0 where
  -- the context outside it
  pub outside : Context
  -- it may have gone back to the context before
  pub could_go_back : Bool
  -- the type-scoped base
  pub base : Context
  -- the final context
  pub final : Context
  pub input : Expanded

abbrev pub inside_with : Context → Stand → Context → List Look → Context → Inside
inside_with c stand b looks d = record { outside = c; could_go_back = may_go_back c stand; base = b; final = d; input = input_type d (type_keys b looks) }

-- the contexts, from what is seen of the members
abbrev pub decide_by : Settings → Context → Under → Stand → ℕ → Option Own → List Look → Result Inside Fault
decide_by s c under stand at own looks =
    and_then (type_base s c under at own (starting c (goes_back c stand own looks)))
    (λ b. and_then (at_place at (final_context s b (type_texts (type_keys b looks)) b))
    (λ d. Ok (inside_with c stand b looks d)))

-- Streaming order (this project's own rules): first a context that may be that of the object, where its processing has no fault.
abbrev pub candidate : Result Context Fault → List Context → List Context
candidate (Ok c) others = c ∷ others
candidate (Err e) others = others

-- the candidates: the base as if the context were kept; and, where the object may go back, the context and the base as if it did
abbrev pub candidates : Settings → Context → Under → Stand → ℕ → Option Own → List Context
candidates s c under stand at own =
    candidate (type_base s c under at own c)
    (elim (may_go_back c stand) [ true ↦ c ∷ candidate (type_base s c under at own (starting c true)) [] | false ↦ [] ])

abbrev pub leads_in : Text → Context → Bool
leads_in name c = is_leading (key_of c name)

abbrev pub types_in : Text → Context → Bool
types_in name c = is_kind (key_of c name)

-- a member of the prelude: in some candidate its key is one of six keywords; its value is a scalar, or an array where the key may mean `@type`
abbrev pub is_in_prelude : List Context → Text → Tree → Bool
is_in_prelude cs name (scalar at v) = list_any (leads_in name) cs
is_in_prelude cs name (array at xs) = list_any (types_in name) cs
is_in_prelude cs name (object at ms) = false

-- what the prelude shows: its members, and of the member after it the key
abbrev pub prelude_looks : List Context → Members → List Look
prelude_looks cs no_member = []
prelude_looks cs (member a n v rest) = elim (is_in_prelude cs n v) [ true ↦ look_at n v ∷ prelude_looks cs rest | false ↦ look_at_key n ∷ [] ]

-- the members from the one on that ends the prelude
abbrev pub after_prelude : List Context → Members → Members
after_prelude cs no_member = no_member
after_prelude cs (member a n v rest) = elim (is_in_prelude cs n v) [ true ↦ after_prelude cs rest | false ↦ member a n v rest ]

-- the members without a context that stands first
abbrev pub after_context : Members → Members
after_context no_member = no_member
after_context (member a n v rest) = elim (is_context_name n) [ true ↦ rest | false ↦ member a n v rest ]

-- what is seen of the members: all, or in streaming order the prelude and the key that ends it
abbrev pub looks_of : Settings → Context → Under → Stand → ℕ → Members → List Look
looks_of s c under stand at ms = by s.order
  where
    by : Order → List Look
    by Any = all_looks ms
    by Streaming = prelude_looks (candidates s c under stand at (first_context ms)) (after_context ms)

-- the contexts of the object with these members, or their fault
unfoldable pub decide : Settings → Context → Under → Stand → ℕ → Members → Result Inside Fault
decide s c under stand at ms = decide_by s c under stand at (own_context s.order ms) (looks_of s c under stand at ms)
