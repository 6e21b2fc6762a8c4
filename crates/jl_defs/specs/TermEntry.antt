-- Checks of one entry of a local context, before anything is expanded (JSON-LD 1.1 API, section 4.2.2: the
-- parts of Create Term Definition that look at the entry alone).
use Rattle.std.specs.Prelude.{if◌then◌else◌, Bool, true, false, not, ◌&&◌, ◌||◌, List, [], ◌∷◌, Option, Some, None, Result, Ok, Err, codes, bytes_eq, is_some, option_and_then}
use Rattle.std.specs.List.{list_any}
use Rattle.jl_model.specs.JsonTree.{Tree, scalar, array, object, Trees, no_item, item, Members, no_member, member}
use Rattle.jl_model.specs.declared.scalars.Scalar.TheVariants.{Null, Bool as boolean, Number, Str}
use Rattle.jl_model.specs.declared.codes.Code.{Code}
use Rattle.jl_model.specs.declared.codes.Code.TheVariants as code
use Rattle.jl_model.specs.declared.term_parts.Containers.{Containers}
use Rattle.jl_model.specs.declared.term_parts.LangEntry.{LangEntry}
use Rattle.jl_model.specs.declared.term_parts.LangEntry.TheVariants as lang
use Rattle.jl_model.specs.declared.term_parts.DirEntry.{DirEntry}
use Rattle.jl_model.specs.declared.term_parts.DirEntry.TheVariants as direction
use Rattle.jl_defs.specs.Texts.{Text, is_among, is_colon, is_slash, has_keyword_form, is_keyword}
use Rattle.jl_defs.specs.Trees.{member_named}
use Rattle.jl_defs.specs.Answers.{◌>>=◌, require}

-- an entry that passed the checks, still to be expanded
pub record RawEntry : Type 0 where
  pub ignored : Bool
  -- it was written as a string
  pub simple : Bool
  pub id : LangEntry
  pub reverse : Option Text
  pub kind : Option Text
  pub containers : Containers
  pub index : Option Text
  pub local : Option Tree
  pub language : LangEntry
  pub direction : DirEntry
  pub nest : Option Text
  pub prefix : Option Bool
  pub protected : Option Bool

abbrev pub no_containers : Containers
no_containers = record { list = false; set = false; graph = false; index = false; id = false; kind = false; language = false }

-- an entry with nothing in it
abbrev pub blank_entry : RawEntry
blank_entry = record {
  ignored = false;
  simple = false;
  id = lang.Absent;
  reverse = None;
  kind = None;
  containers = no_containers;
  index = None;
  local = None;
  language = lang.Absent;
  direction = direction.Absent;
  nest = None;
  prefix = None;
  protected = None;
}

-- an entry that leaves the context as it was
abbrev pub ignored_entry : RawEntry
ignored_entry = record blank_entry { ignored = true }

-- a string or nothing, else the code
abbrev pub string_entry : Code → Option Tree → Result (Option Text) Code
string_entry c None = Ok None
string_entry c (Some (scalar at (Str text))) = Ok (Some text)
string_entry c (Some t) = Err c

-- a truth value or nothing, else the code
abbrev pub boolean_entry : Code → Option Tree → Result (Option Bool) Code
boolean_entry c None = Ok None
boolean_entry c (Some (scalar at (boolean b))) = Ok (Some b)
boolean_entry c (Some t) = Err c

-- null, a string or nothing, else the code
abbrev pub nullable_entry : Code → Option Tree → Result LangEntry Code
nullable_entry c None = Ok lang.Absent
nullable_entry c (Some (scalar at Null)) = Ok lang.Null
nullable_entry c (Some (scalar at (Str text))) = Ok (lang.Tag text)
nullable_entry c (Some t) = Err c

-- a base direction as it is written
abbrev pub direction_text : Text → Result DirEntry Code
direction_text text =
    elim (bytes_eq text (codes "ltr")) [
      | true ↦ Ok direction.Ltr
      | false ↦ elim (bytes_eq text (codes "rtl")) [ true ↦ Ok direction.Rtl | false ↦ Err code.InvalidBaseDirection ]
    ]

-- null, a base direction or nothing
abbrev pub direction_entry : Option Tree → Result DirEntry Code
direction_entry None = Ok direction.Absent
direction_entry (Some (scalar at Null)) = Ok direction.Null
direction_entry (Some (scalar at (Str text))) = direction_text text
direction_entry (Some t) = Err code.InvalidBaseDirection

-- the containers with one more; a keyword doesn't come twice (this project's own rule)
abbrev pub unless_there : Bool → Containers → Option Containers
unless_there true c = None
unless_there false c = Some c

-- a keyword put among containers, where it is one of theirs
abbrev pub add_container : Text → Containers → Option Containers
add_container text c =
    if bytes_eq text (codes "@list") then unless_there c.list (record c { list = true })
    else (if bytes_eq text (codes "@set") then unless_there c.set (record c { set = true })
    else (if bytes_eq text (codes "@graph") then unless_there c.graph (record c { graph = true })
    else (if bytes_eq text (codes "@index") then unless_there c.index (record c { index = true })
    else (if bytes_eq text (codes "@id") then unless_there c.id (record c { id = true })
    else (if bytes_eq text (codes "@type") then unless_there c.kind (record c { kind = true })
    else (if bytes_eq text (codes "@language") then unless_there c.language (record c { language = true }) else None))))))

abbrev pub add_containers : Trees → Containers → Option Containers
add_containers no_item c = Some c
add_containers (item (scalar at (Str text)) rest) c = option_and_then (add_containers rest) (add_container text c)
add_containers (item x rest) c = None

-- at most one of four
abbrev pub at_most_one : Bool → Bool → Bool → Bool → Bool
at_most_one a b c d = not ((a && (b || (c || d))) || ((b && (c || d)) || (c && d)))

-- `@list` alone; or some of the others, with at most one of `@index`, `@id`, `@type` and `@language`, and only the first two
-- of these beside `@graph` (step 19.1, and this project's own reading of it)
abbrev pub is_admitted : Containers → Bool
is_admitted c =
    elim c.list [
      | true ↦ not (c.set || (c.graph || (c.index || (c.id || (c.kind || c.language)))))
      | false ↦ (c.set || (c.graph || (c.index || (c.id || (c.kind || c.language)))))
          && (at_most_one c.index c.id c.kind c.language && not (c.graph && (c.kind || c.language)))
    ]

abbrev pub admit : Option Containers → Result Containers Code
admit None = Err code.InvalidContainerMapping
admit (Some c) = elim (is_admitted c) [ true ↦ Ok c | false ↦ Err code.InvalidContainerMapping ]

-- the container mapping: one keyword, or an array of keywords (step 19)
unfoldable pub containers_of : Tree → Result Containers Code
containers_of (scalar at (Str text)) = admit (add_container text no_containers)
containers_of (scalar at Null) = Err code.InvalidContainerMapping
containers_of (scalar at (boolean b)) = Err code.InvalidContainerMapping
containers_of (scalar at (Number text)) = Err code.InvalidContainerMapping
containers_of (array at xs) = admit (add_containers xs no_containers)
containers_of (object at ms) = Err code.InvalidContainerMapping

abbrev pub container_entry : Option Tree → Result Containers Code
container_entry None = Ok no_containers
container_entry (Some t) = containers_of t

-- beside `@reverse` the container is `@set`, `@index` or null, and no array (step 13.5)
abbrev pub reverse_container : Option Tree → Result Containers Code
reverse_container None = Ok no_containers
reverse_container (Some (scalar at Null)) = Ok no_containers
reverse_container (Some (scalar at (Str text))) =
    elim (bytes_eq text (codes "@set")) [
      | true ↦ Ok (record no_containers { set = true })
      | false ↦ elim (bytes_eq text (codes "@index")) [ true ↦ Ok (record no_containers { index = true }) | false ↦ Err code.InvalidReverseProperty ]
    ]
reverse_container (Some t) = Err code.InvalidReverseProperty

-- a reverse term: `@reverse` is a string, and where that has keyword form the entry is ignored; of the other entries only the
-- container is looked at (steps 13.2 to 13.7)
abbrev pub reverse_entry : Members → Option Bool → Option Text → Tree → Result RawEntry Code
reverse_entry ms protected kind (scalar at (Str text)) =
    elim (has_keyword_form text) [
      | true ↦ Ok ignored_entry
      | false ↦ reverse_container (member_named (codes "@container") ms) >>=
          (λ c. Ok (record blank_entry { reverse = Some text; kind = kind; containers = c; protected = protected }))
    ]
reverse_entry ms protected kind (scalar at Null) = Err code.InvalidIriMapping
reverse_entry ms protected kind (scalar at (boolean b)) = Err code.InvalidIriMapping
reverse_entry ms protected kind (scalar at (Number text)) = Err code.InvalidIriMapping
reverse_entry ms protected kind (array at xs) = Err code.InvalidIriMapping
reverse_entry ms protected kind (object at ms') = Err code.InvalidIriMapping

abbrev pub has_member : Text → Members → Bool
has_member name ms = is_some (member_named name ms)

-- an `@id` of keyword form that is neither a keyword nor the term (step 14.2.2)
abbrev pub is_strange_id : Text → LangEntry → Bool
is_strange_id term lang.Absent = false
is_strange_id term lang.Null = false
is_strange_id term (lang.Tag text) = has_keyword_form text && (not (is_keyword text) && not (bytes_eq text term))

-- a string, and only beside a container by index (step 20)
abbrev pub index_entry : Containers → Option Tree → Result (Option Text) Code
index_entry c None = Ok None
index_entry c (Some t) = require c.index code.InvalidTermDefinition >>= (λ _. string_entry code.InvalidTermDefinition (Some t))

-- with `@type` neither `@language` nor `@direction` is looked at (steps 22 and 23)
abbrev pub language_entry : Option Text → Option Tree → Result LangEntry Code
language_entry None t = nullable_entry code.InvalidLanguageMapping t
language_entry (Some kind) t = Ok lang.Absent

abbrev pub own_direction : Option Text → Option Tree → Result DirEntry Code
own_direction None t = direction_entry t
own_direction (Some kind) t = Ok direction.Absent

-- a string that is no keyword but `@nest` (step 24)
abbrev pub is_nest_text : Option Text → Bool
is_nest_text None = true
is_nest_text (Some text) = not (is_keyword text) || bytes_eq text (codes "@nest")

abbrev pub nest_entry : Option Tree → Result (Option Text) Code
nest_entry t = string_entry code.InvalidNestValue t >>= (λ text. require (is_nest_text text) code.InvalidNestValue >>= (λ _. Ok text))

abbrev pub has_colon_or_slash : Text → Bool
has_colon_or_slash text = list_any is_colon text || list_any is_slash text

-- a truth value, on a term without colon and slash (step 25)
abbrev pub prefix_entry : Text → Option Tree → Result (Option Bool) Code
prefix_entry term None = Ok None
prefix_entry term (Some t) = require (not (has_colon_or_slash term)) code.InvalidTermDefinition >>= (λ _. boolean_entry code.InvalidPrefixValue (Some t))

-- the entries that a definition may have (step 26)
abbrev pub entry_names : List Text
entry_names =
    codes "@id" ∷ codes "@reverse" ∷ codes "@container" ∷ codes "@context" ∷ codes "@direction" ∷ codes "@index"
    ∷ codes "@language" ∷ codes "@nest" ∷ codes "@prefix" ∷ codes "@protected" ∷ codes "@type" ∷ []

abbrev pub names_are_among : List Text → Members → Bool
names_are_among names no_member = true
names_are_among names (member at n v rest) = is_among names n && names_are_among names rest

-- the checks of a definition without `@reverse`
abbrev pub forward_entry : Text → Bool → Members → Option Bool → Option Text → Result RawEntry Code
forward_entry term simple ms protected kind = do
  id ← nullable_entry code.InvalidIriMapping (member_named (codes "@id") ms)
  elim (is_strange_id term id) [
    | true ↦ Ok ignored_entry
    | false ↦ do
      containers ← container_entry (member_named (codes "@container") ms)
      index ← index_entry containers (member_named (codes "@index") ms)
      language ← language_entry kind (member_named (codes "@language") ms)
      direction ← own_direction kind (member_named (codes "@direction") ms)
      nest ← nest_entry (member_named (codes "@nest") ms)
      prefix ← prefix_entry term (member_named (codes "@prefix") ms)
      _ ← require (names_are_among entry_names ms) code.InvalidTermDefinition
      Ok (record {
        ignored = false;
        simple = simple;
        id = id;
        reverse = None;
        kind = kind;
        containers = containers;
        index = index;
        local = member_named (codes "@context") ms;
        language = language;
        direction = direction;
        nest = nest;
        prefix = prefix;
        protected = protected;
      })
  ]

-- with `@reverse` a definition has neither `@id` nor `@nest` (step 13.1)
abbrev pub by_reverse : Text → Bool → Members → Option Bool → Option Text → Option Tree → Result RawEntry Code
by_reverse term simple ms protected kind None = forward_entry term simple ms protected kind
by_reverse term simple ms protected kind (Some t) =
    require (not (has_member (codes "@id") ms || has_member (codes "@nest") ms)) code.InvalidReverseProperty
    >>= (λ _. reverse_entry ms protected kind t)

-- the checks of a definition that is a map
abbrev pub map_entry : Text → Bool → Members → Result RawEntry Code
map_entry term simple ms = do
  protected ← boolean_entry code.InvalidProtectedValue (member_named (codes "@protected") ms)
  kind ← string_entry code.InvalidTypeMapping (member_named (codes "@type") ms)
  by_reverse term simple ms protected kind (member_named (codes "@reverse") ms)

-- null stands for a map with `@id` null, and a string for one with that `@id` (steps 7 to 9)
abbrev pub value_entry : Text → Tree → Result RawEntry Code
value_entry term (scalar at Null) = map_entry term false (member at (codes "@id") (scalar at Null) no_member)
value_entry term (scalar at (Str text)) = map_entry term true (member at (codes "@id") (scalar at (Str text)) no_member)
value_entry term (scalar at (boolean b)) = Err code.InvalidTermDefinition
value_entry term (scalar at (Number text)) = Err code.InvalidTermDefinition
value_entry term (array at xs) = Err code.InvalidTermDefinition
value_entry term (object at ms) = map_entry term false ms

-- the container of the term `@type`, if it has one: `@set`, or an array of it alone (this project's own rule)
abbrev pub is_set_container : Option Tree → Bool
is_set_container None = true
is_set_container (Some (scalar at (Str text))) = bytes_eq text (codes "@set")
is_set_container (Some (array at (item (scalar at' (Str text)) no_item))) = bytes_eq text (codes "@set")
is_set_container (Some t) = false

-- the term `@type` may have a container and be protected, and nothing else (step 4)
abbrev pub is_type_entry : Tree → Bool
is_type_entry (scalar at v) = false
is_type_entry (array at xs) = false
is_type_entry (object at no_member) = false
is_type_entry (object at (member a n v rest)) =
    names_are_among (codes "@container" ∷ codes "@protected" ∷ []) (member a n v rest)
    && is_set_container (member_named (codes "@container") (member a n v rest))

-- a keyword is no term, but for `@type` (steps 4 and 5)
abbrev pub keyword_entry : Text → Tree → Result RawEntry Code
keyword_entry term value =
    elim (bytes_eq term (codes "@type") && is_type_entry value) [ true ↦ value_entry term value | false ↦ Err code.KeywordRedefinition ]

-- the checks of an entry, and the code of the first that fails (their order is this project's own)
unfoldable pub read_entry : Text → Tree → Result RawEntry Code
read_entry [] value = Err code.InvalidTermDefinition
read_entry (c ∷ cs) value =
    elim (is_keyword (c ∷ cs)) [
      | true ↦ keyword_entry (c ∷ cs) value
      | false ↦ elim (has_keyword_form (c ∷ cs)) [ true ↦ Ok ignored_entry | false ↦ value_entry (c ∷ cs) value ]
    ]
