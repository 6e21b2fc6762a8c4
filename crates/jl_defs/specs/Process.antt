-- Context processing (JSON-LD 1.1 API, section 4.1.2), over contexts that are handed in by name.
use Rattle.std.specs.Prelude.{ℕ, zero, suc, ◌+◌, Bool, true, false, not, ◌&&◌, ◌||◌, nat_le, List, [], ◌∷◌, ◌++◌, length, filter, map, Option, Some, None, Result, Ok, Err, codes, bytes_eq, is_none, is_some, unwrap_or}
use Rattle.std.specs.List.{list_any}
use Rattle.jl_model.specs.JsonTree.{Tree, scalar, array, object, Trees, no_item, item, Members, no_member, member}
use Rattle.jl_model.specs.Resolve.{resolve}
use Rattle.jl_model.specs.declared.scalars.Scalar.{Scalar}
use Rattle.jl_model.specs.declared.scalars.Scalar.TheVariants.{Null, Bool as boolean, Number, Str}
use Rattle.jl_model.specs.declared.codes.Code.{Code}
use Rattle.jl_model.specs.declared.codes.Code.TheVariants as code
use Rattle.jl_model.specs.declared.expansions.Expanded.{Expanded}
use Rattle.jl_model.specs.declared.expansions.Expanded.TheVariants as expanded
use Rattle.jl_model.specs.declared.term_parts.DirEntry.{DirEntry}
use Rattle.jl_model.specs.declared.term_parts.DirEntry.TheVariants as direction
use Rattle.jl_model.specs.declared.term_parts.LangEntry.{LangEntry}
use Rattle.jl_model.specs.declared.term_parts.LangEntry.TheVariants as lang
use Rattle.jl_defs.specs.Texts.{Text, is_among, is_iri, is_blank}
use Rattle.jl_defs.specs.Trees.{member_named}
use Rattle.jl_defs.specs.Answers.{◌>>=◌, require}
use Rattle.jl_defs.specs.Context.{Named, Context, initial, previous, with_base, with_vocab, with_language, with_direction, with_previous}
use Rattle.jl_defs.specs.IriExpansion.{expand_iri}
use Rattle.jl_defs.specs.TermEntry.{boolean_entry, nullable_entry, direction_entry}
use Rattle.jl_defs.specs.Define.{Task, Change, Entry, find_entry, LocalMap, define, define_all}

-- a name and what it names: the tree of its file, or nothing where that isn't readable
pub record Handed : Type 0 where
  pub name : Text
  pub content : Option Tree

abbrev pub Library : Type 0
Library = List Handed

abbrev pub find_handed : Library → Text → Option Tree
find_handed [] name = None
find_handed (h ∷ hs) name = elim (bytes_eq h.name name) [ true ↦ h.content | false ↦ find_handed hs name ]

-- what the named contexts are to a context that names them
pub record Remote : Type 0 where
  -- what a named context does
  pub change : Text → Change
  -- the entries of the map that an imported file has
  pub entries : Text → Result (List Entry) Code

-- the value of an entry
abbrev pub entry_value : List Entry → Text → Option Tree
entry_value es name = value_of (find_entry es name)
  where
    value_of : Option Entry → Option Tree
    value_of None = None
    value_of (Some e) = Some e.value

abbrev pub has_entry : List Entry → Text → Bool
has_entry es name = is_some (find_entry es name)

-- `@version` is the number 1.1 (step 5.5)
abbrev pub check_version : Option Tree → Result (Unit {0}) Code
check_version None = Ok tt
check_version (Some (scalar at (Number text))) = require (bytes_eq text (codes "1.1")) code.InvalidVersionValue
check_version (Some t) = Err code.InvalidVersionValue

-- the name of a context, resolved against the base URL (steps 5.2.1 and 5.6.3); without one it has to be an IRI
abbrev pub address : Option Text → Text → Result Text Code
address (Some url) name = Ok (resolve url name)
address None name = elim (is_iri name) [ true ↦ Ok name | false ↦ Err code.LoadingDocumentFailed ]

-- the `@context` of a file that is handed in (step 5.2.5.3)
abbrev pub context_in : Tree → Result Tree Code
context_in (object at ms) = of_member (member_named (codes "@context") ms)
  where
    of_member : Option Tree → Result Tree Code
    of_member None = Err code.InvalidRemoteContext
    of_member (Some t) = Ok t
context_in (scalar at v) = Err code.InvalidRemoteContext
context_in (array at xs) = Err code.InvalidRemoteContext

-- a file that isn't readable can't be loaded (step 5.2.5.2)
abbrev pub loaded : Option Tree → Result Tree Code
loaded None = Err code.LoadingRemoteContextFailed
loaded (Some t) = context_in t

-- an entry of theirs, or ours where we have one of its name
abbrev pub ours_or : List Entry → Entry → Entry
ours_or ours e = by (find_entry ours e.name)
  where
    by : Option Entry → Entry
    by None = e
    by (Some o) = o

-- an entry whose name theirs haven't
abbrev pub is_new : List Entry → Entry → Bool
is_new theirs e = not (has_entry theirs e.name)

-- the entries of a file's map with ours put in (step 5.6.8): ours win, a shared name keeps its place, new ones follow
abbrev pub merged : List Entry → List Entry → List Entry
merged theirs ours = map (ours_or ours) theirs ++ filter (is_new theirs) ours

-- the entries that count, and the chain that their terms hand on
pub record Imported : Type 0 where
  pub entries : List Entry
  pub chain : List Text

-- a chain has at most 32 names (step 5.2.3; the limit is this project's own)
abbrev pub is_full : List Text → Bool
is_full chain = nat_le 32 (length chain)

-- `@import` (step 5.6): the file's map, with this one put in; it has no `@import` of its own. That the name joins the chain for the
-- terms, and that the chain may be too long for it, is this project's own rule
abbrev pub imported : Remote → List Entry → Task → Option Tree → Result Imported Code
imported remote es k None = Ok (record { entries = es; chain = k.chain })
imported remote es k (Some (scalar at (Str text))) = do
  name ← address k.url text
  _ ← require (not (is_full k.chain)) code.ContextOverflow
  theirs ← remote.entries name
  _ ← require (not (has_entry theirs (codes "@import"))) code.InvalidContextEntry
  Ok (record { entries = merged theirs es; chain = name ∷ k.chain })
imported remote es k (Some t) = Err code.InvalidImportValue

-- a base that is no IRI is resolved against the one before it; that this gives an IRI is asked by this project alone
abbrev pub base_text : Context → Text → Result Context Code
base_text c text =
    elim (is_iri text) [
      | true ↦ Ok (with_base c (Some text))
      | false ↦ against c.level.base
    ]
  where
    against : Option Text → Result Context Code
    against None = Err code.InvalidBaseIri
    against (Some base) = require (is_iri (resolve base text)) code.InvalidBaseIri >>= (λ _. Ok (with_base c (Some (resolve base text))))

-- `@base` (step 5.7), which a remote context can't set
abbrev pub base_entry : Context → List Text → Option Tree → Result Context Code
base_entry c (x ∷ xs) t = Ok c
base_entry c [] None = Ok c
base_entry c [] (Some (scalar at Null)) = Ok (with_base c None)
base_entry c [] (Some (scalar at (Str text))) = base_text c text
base_entry c [] (Some t) = Err code.InvalidBaseIri

-- a vocabulary is an IRI or a blank node
abbrev pub vocab_of : Context → Expanded → Result Context Code
vocab_of c expanded.Null = Err code.InvalidVocabMapping
vocab_of c (expanded.Keyword text) = Err code.InvalidVocabMapping
vocab_of c (expanded.Name text) = require (is_iri text || is_blank text) code.InvalidVocabMapping >>= (λ _. Ok (with_vocab c (Some text)))

-- `@vocab` (step 5.8)
abbrev pub vocab_entry : Context → Option Tree → Result Context Code
vocab_entry c None = Ok c
vocab_entry c (Some (scalar at Null)) = Ok (with_vocab c None)
vocab_entry c (Some (scalar at (Str text))) = vocab_of c (expand_iri c text true true)
vocab_entry c (Some t) = Err code.InvalidVocabMapping

-- `@language` (step 5.9)
abbrev pub language_set : Context → LangEntry → Context
language_set c lang.Absent = c
language_set c lang.Null = with_language c None
language_set c (lang.Tag text) = with_language c (Some text)

-- `@direction` (step 5.10): null removes the direction, so that there is none
abbrev pub direction_set : Context → DirEntry → Context
direction_set c direction.Absent = c
direction_set c direction.Null = with_direction c direction.Absent
direction_set c direction.Ltr = with_direction c direction.Ltr
direction_set c direction.Rtl = with_direction c direction.Rtl

-- the entries of a local context that are no terms
abbrev pub context_keywords : List Text
context_keywords =
    codes "@version" ∷ codes "@import" ∷ codes "@base" ∷ codes "@vocab" ∷ codes "@language" ∷ codes "@direction" ∷ codes "@propagate" ∷ codes "@protected" ∷ []

abbrev pub is_term_entry : Entry → Bool
is_term_entry e = not (is_among context_keywords e.name)

-- what the terms of a map are defined with
abbrev pub local_map : Imported → Task → Option Bool → LocalMap
local_map i k protects = record { entries = i.entries; url = k.url; chain = i.chain; may_override = k.may_override; protects = unwrap_or protects false }

-- the terms (steps 5.12 and 5.13), in the order of the document
abbrev pub define_terms : LocalMap → Context → Result Context Code
define_terms m c =
    define_all (define (length m.entries + 1) m) (filter is_term_entry m.entries) (record { built = c; pending = []; defined = [] })
    >>= (λ p. Ok p.built)

-- a local context that is a map (step 5.4 and what follows)
abbrev pub map_change : Remote → List Entry → Change
map_change remote es k = do
  _ ← check_version (entry_value es (codes "@version"))
  i ← imported remote es k (entry_value es (codes "@import"))
  based ← base_entry k.active k.chain (entry_value i.entries (codes "@base"))
  worded ← vocab_entry based (entry_value i.entries (codes "@vocab"))
  language ← nullable_entry code.InvalidDefaultLanguage (entry_value i.entries (codes "@language"))
  direction ← direction_entry (entry_value i.entries (codes "@direction"))
  _ ← boolean_entry code.InvalidPropagateValue (entry_value i.entries (codes "@propagate"))
  protects ← boolean_entry code.InvalidProtectedValue (entry_value i.entries (codes "@protected"))
  define_terms (local_map i k protects) (direction_set (language_set worded language) direction)

abbrev pub is_protected : Named → Bool
is_protected e = e.term.protected

-- null (step 5.1): the initial context, where no term is protected or protected ones may be overridden
abbrev pub null_change : Option Text → Change
null_change origin k =
    require (k.may_override || not (list_any is_protected k.active.level.terms)) code.InvalidContextNullification
    >>= (λ _. Ok (elim k.propagate [ true ↦ initial origin | false ↦ with_previous (initial origin) k.active ]))

-- `@propagate` of a map that is the whole local context (step 2)
abbrev pub propagates : Tree → Bool → Bool
propagates (object at ms) propagate = by (member_named (codes "@propagate") ms)
  where
    by : Option Tree → Bool
    by (Some (scalar at (boolean b))) = b
    by (Some t) = propagate
    by None = propagate
propagates (scalar at v) propagate = propagate
propagates (array at xs) propagate = propagate

-- the context before is kept, where the new one doesn't propagate (step 3)
abbrev pub keeping : Bool → Context → Context
keeping true c = c
keeping false c = elim (is_none (previous c)) [ true ↦ with_previous c c | false ↦ c ]

-- what a local context begins with
abbrev pub begin : Tree → Task → Task
begin t k = record k { active = keeping (propagates t k.propagate) k.active; propagate = propagates t k.propagate }

-- one change, and another of the context that it gives
abbrev pub then_change : Change → Change → Change
then_change first second k = first k >>= (λ c. second (record k { active = c }))

-- the value of `@context`, or what a later member gives
abbrev pub if_context : Text → Change → Option Change → Option Change
if_context name here rest = elim (bytes_eq name (codes "@context")) [ true ↦ Some here | false ↦ rest ]

-- null, a name, or another scalar
abbrev pub scalar_change : Option Text → Remote → Scalar → Change
scalar_change origin remote Null = null_change origin
scalar_change origin remote (Str name) = remote.change name
scalar_change origin remote (boolean b) = λ k. Err code.InvalidLocalContext
scalar_change origin remote (Number text) = λ k. Err code.InvalidLocalContext

-- what a local context does; the recursion goes down the tree, and named contexts are a parameter
unfoldable mutual
  pub whole_change : Option Text → Remote → Tree → Change
  whole_change origin remote (scalar at v) = λ k. scalar_change origin remote v (begin (scalar at v) k)
  whole_change origin remote (array at xs) = λ k. items_change origin remote xs (begin (array at xs) k)
  whole_change origin remote (object at ms) = λ k. map_change remote (entries_of origin remote ms) (begin (object at ms) k)

  pub items_change : Option Text → Remote → Trees → Change
  items_change origin remote no_item = λ k. Ok k.active
  items_change origin remote (item x rest) = then_change (item_change origin remote x) (items_change origin remote rest)

  pub item_change : Option Text → Remote → Tree → Change
  item_change origin remote (scalar at v) = scalar_change origin remote v
  item_change origin remote (array at xs) = λ k. Err code.InvalidLocalContext
  item_change origin remote (object at ms) = map_change remote (entries_of origin remote ms)

  pub entries_of : Option Text → Remote → Members → List Entry
  entries_of origin remote no_member = []
  entries_of origin remote (member at n v rest) = record { name = n; value = v; scoped = scoped_change origin remote v } ∷ entries_of origin remote rest

  -- the `@context` in a term definition
  pub scoped_change : Option Text → Remote → Tree → Option Change
  scoped_change origin remote (scalar at v) = None
  scoped_change origin remote (array at xs) = None
  scoped_change origin remote (object at ms) = scoped_in origin remote ms

  pub scoped_in : Option Text → Remote → Members → Option Change
  scoped_in origin remote no_member = None
  scoped_in origin remote (member at n v rest) = if_context n (whole_change origin remote v) (scoped_in origin remote rest)

-- a file's `@context` that is a map
abbrev pub map_entries : Option Text → Remote → Tree → Result (List Entry) Code
map_entries origin remote (object at ms) = Ok (entries_of origin remote ms)
map_entries origin remote (scalar at v) = Err code.InvalidRemoteContext
map_entries origin remote (array at xs) = Err code.InvalidRemoteContext

-- the task for a file (step 5.2.6): its name is the base URL and joins the chain, and it may override nothing
abbrev pub file_task : Text → Task → Task
file_task name k = record k { url = Some name; chain = name ∷ k.chain; may_override = false; propagate = true }

-- a context that is named (step 5.2)
abbrev pub named_change : Library → Option Text → Remote → Text → Change
named_change library origin remote text k = do
  name ← address k.url text
  elim (not k.validate && is_among k.chain name) [
    | true ↦ Ok k.active
    | false ↦ do
      _ ← require (not (is_full k.chain)) code.ContextOverflow
      t ← loaded (find_handed library name)
      whole_change origin remote t (file_task name k)
  ]

-- named contexts, where a chain of this many more may be followed
unfoldable pub remotes : Library → Option Text → ℕ → Remote
remotes library origin zero = record { change = λ name k. Err code.ContextOverflow; entries = λ name. Err code.ContextOverflow }
remotes library origin (suc n) = record {
  change = named_change library origin (remotes library origin n);
  entries = λ name. loaded (find_handed library name) >>= map_entries origin (remotes library origin n);
}

-- what a local context makes of a context; a chain of 32 is refused, so that one number more suffices
unfoldable pub process : Library → Option Text → Tree → Change
process library origin t = whole_change origin (remotes library origin 33) t
