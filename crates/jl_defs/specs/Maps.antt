-- What the keys of a container's map add to its items (JSON-LD 1.1 API, section 5.1.2, steps 13.7 and 13.8).
use Rattle.std.specs.Prelude.{if◌then◌else◌, Bool, true, false, Option, Some, None, Result, Ok, Err, codes, bytes_eq}
use Rattle.jl_model.specs.JsonTree.{Tree, scalar, array, object, Trees, no_item, item}
use Rattle.jl_model.specs.declared.scalars.Scalar.TheVariants.{Str}
use Rattle.jl_model.specs.declared.codes.Code.{Code}
use Rattle.jl_model.specs.declared.codes.Code.TheVariants as code
use Rattle.jl_model.specs.declared.expansions.Expanded.{Expanded}
use Rattle.jl_model.specs.declared.expansions.Expanded.TheVariants as expanded
use Rattle.jl_model.specs.declared.map_kinds.MapKind.{MapKind}
use Rattle.jl_model.specs.declared.map_kinds.MapKind.TheVariants as map_kind
use Rattle.jl_model.specs.declared.map_kinds.ItemKind.{ItemKind}
use Rattle.jl_model.specs.declared.map_kinds.ItemKind.TheVariants as item_kind
use Rattle.jl_defs.specs.Texts.{Text}
use Rattle.jl_defs.specs.Context.{TermDef, Context, term, previous}
use Rattle.jl_defs.specs.IriExpansion.{expand_iri}
use Rattle.jl_defs.specs.Settings.{Settings, Stand, entry, graph_entry, scoped_in}
use Rattle.jl_defs.specs.ObjectContexts.{apply_scoped}
use Rattle.jl_defs.specs.Values.{Valued, plain, tagged, value_of}
use Rattle.jl_model.specs.Parts.{xsd_string}
use Rattle.jl_defs.specs.Items.{Naming, named, by_object, by_graph, Item, value_at, node_at, Items, no_more, more, typed, said, one, scalar_item}

-- the kind of an index map: with a property of its own or without, of values or of graphs
abbrev pub index_kind : Bool → Option Text → MapKind
index_kind false None = map_kind.Index
index_kind false (Some index) = map_kind.PropertyIndex
index_kind true None = map_kind.GraphIndex
index_kind true (Some index) = map_kind.GraphPropertyIndex

abbrev pub id_kind : Bool → MapKind
id_kind false = map_kind.Id
id_kind true = map_kind.GraphId

-- the kind of the maps that may stand under a term
abbrev pub map_kind_of : TermDef → Option MapKind
map_kind_of t =
    if t.containers.language then Some map_kind.Language
    else (if t.containers.index then Some (index_kind t.containers.graph t.index)
    else (if t.containers.id then Some (id_kind t.containers.graph)
    else (if t.containers.kind then Some map_kind.Kind else None)))

-- an item that may not stand in a map: a value or list in an id or type map (this project's own rule), and a value under a
-- property-valued index
abbrev pub check_item : MapKind → ItemKind → Result (Unit {0}) Code
check_item map_kind.Id item_kind.ValueObject = Err code.MapItem
check_item map_kind.Id item_kind.ListObject = Err code.MapItem
check_item map_kind.Kind item_kind.ValueObject = Err code.MapItem
check_item map_kind.Kind item_kind.ListObject = Err code.MapItem
check_item map_kind.PropertyIndex item_kind.ValueObject = Err code.InvalidValueObject
check_item m x = Ok tt

-- the key means `@none`: such a key adds nothing
abbrev pub is_none_key : Context → Text → Bool
is_none_key d name = by (expand_iri d name true false)
  where
    by : Expanded → Bool
    by expanded.Null = false
    by (expanded.Keyword text) = bytes_eq text (codes "@none")
    by (expanded.Name text) = false

-- what a key adds to each item of its entry
pub data Addition : Type 0 where
  adds_nothing : Addition
  adds_name : (text : Text) → Addition
  adds_type : (text : Text) → Addition
  adds_property : (property : Text) → (value : Valued) → Addition

abbrev pub name_added : Expanded → Addition
name_added expanded.Null = adds_nothing
name_added (expanded.Keyword text) = adds_name text
name_added (expanded.Name text) = adds_name text

abbrev pub type_added : Expanded → Addition
type_added expanded.Null = adds_nothing
type_added (expanded.Keyword text) = adds_type text
type_added (expanded.Name text) = adds_type text

-- the index property, where it is one: null and keywords add nothing
abbrev pub property_added : Context → Text → Text → Expanded → Addition
property_added d index name expanded.Null = adds_nothing
property_added d index name (expanded.Keyword text) = adds_nothing
property_added d index name (expanded.Name text) = adds_property text (value_of d index (Str name))

abbrev pub index_added : Context → Option Text → Text → Addition
index_added d None name = adds_nothing
index_added d (Some index) name = property_added d index name (expand_iri d index true false)

abbrev pub addition_by : Context → TermDef → Text → Option MapKind → Addition
addition_by d t name None = adds_nothing
addition_by d t name (Some map_kind.Language) = adds_nothing
addition_by d t name (Some map_kind.Index) = adds_nothing
addition_by d t name (Some map_kind.GraphIndex) = adds_nothing
addition_by d t name (Some map_kind.PropertyIndex) = index_added d t.index name
addition_by d t name (Some map_kind.GraphPropertyIndex) = index_added d t.index name
addition_by d t name (Some map_kind.Id) = name_added (expand_iri d name false true)
addition_by d t name (Some map_kind.GraphId) = name_added (expand_iri d name false true)
addition_by d t name (Some map_kind.Kind) = type_added (expand_iri d name true false)

-- what a key adds, expanded in the final context of the object round the map
abbrev pub addition : Context → TermDef → Text → Addition
addition d t name = elim (is_none_key d name) [ true ↦ adds_nothing | false ↦ addition_by d t name (map_kind_of t) ]

-- a node without an identifier takes the name
abbrev pub name_or : Naming → Text → Naming
name_or (named own) text = named own
name_or by_object text = named text
name_or by_graph text = named text

-- an item with the addition; only nodes take one
abbrev pub with_addition : Addition → Item → Item
with_addition (adds_name text) (node_at at naming entries) = node_at at (name_or naming text) entries
with_addition (adds_type text) (node_at at naming entries) = node_at at naming (typed text entries)
with_addition (adds_property property value) (node_at at naming entries) = node_at at naming (said true property (one (scalar_item at value)) entries)
with_addition a x = x

abbrev pub all_with_addition : Addition → Items → Items
all_with_addition a no_more = no_more
all_with_addition a (more x xs) = more (with_addition a x) (all_with_addition a xs)

-- where the values of a map's entries stand
abbrev pub entry_stand : TermDef → Stand
entry_stand t = elim t.containers.graph [ true ↦ graph_entry | false ↦ entry ]

-- identifiers and types are looked at in the previous context, if there is one
abbrev pub or_previous : Option Context → Context → Context
or_previous None d = d
or_previous (Some p) d = p

abbrev pub is_type_map : Option MapKind → Bool
is_type_map (Some map_kind.Kind) = true
is_type_map k = false

abbrev pub is_index_map : TermDef → Bool
is_index_map t = t.containers.index

-- the context of an entry's value: for a type map the scoped context of the key's term is applied
abbrev pub entry_context : Settings → Context → TermDef → Text → Result Context Code
entry_context s d t name =
    elim (is_index_map t) [
      | true ↦ Ok d
      | false ↦ elim (is_type_map (map_kind_of t)) [
        | true ↦ apply_scoped s false true (scoped_in (term (or_previous (previous d) d) name)) (or_previous (previous d) d)
        | false ↦ Ok (or_previous (previous d) d)
      ]
    ]

-- the language of a language map's key
abbrev pub language_key : Context → Text → Option Text
language_key d name = elim (is_none_key d name) [ true ↦ None | false ↦ Some name ]

abbrev pub language_string : Option Text → Text → Valued
language_string None text = plain text xsd_string
language_string (Some tag) text = tagged text tag

-- the strings of a language map's entry
abbrev pub language_item : Option Text → Tree → Items
language_item tag (scalar at (Str text)) = one (value_at at (language_string tag text))
language_item tag t = no_more

abbrev pub language_items : Option Text → Trees → Items
language_items tag no_item = no_more
language_items tag (item (scalar at (Str text)) rest) = more (value_at at (language_string tag text)) (language_items tag rest)
language_items tag (item x rest) = language_items tag rest

abbrev pub language_values : Option Text → Tree → Items
language_values tag (array at xs) = language_items tag xs
language_values tag (scalar at v) = language_item tag (scalar at v)
language_values tag (object at ms) = no_more
