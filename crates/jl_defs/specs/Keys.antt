-- What a key of an object means (JSON-LD 1.1 API, section 5.1.2, step 13).
use Rattle.std.specs.Prelude.{if◌then◌else◌, Bool, true, false, codes, bytes_eq}
use Rattle.std.specs.List.{list_any}
use Rattle.jl_model.specs.declared.expansions.Expanded.{Expanded}
use Rattle.jl_model.specs.declared.expansions.Expanded.TheVariants.{Null, Keyword, Name}
use Rattle.jl_defs.specs.Texts.{Text, is_colon}
use Rattle.jl_defs.specs.Context.{Context}
use Rattle.jl_defs.specs.IriExpansion.{expand_iri}

pub data Key : Type 0 where
  -- `@context`
  its_context : Key
  id : Key
  -- `@type`
  kind : Key
  value : Key
  language : Key
  direction : Key
  index : Key
  graph : Key
  included : Key
  list : Key
  set : Key
  reverse : Key
  nest : Key
  -- a keyword that means nothing here
  other : Key
  -- null, or a text without a colon
  dropped : Key
  property : (name : Text) → Key

abbrev pub keyword_key : Text → Key
keyword_key text =
    if bytes_eq text (codes "@context") then its_context
    else (if bytes_eq text (codes "@id") then id
    else (if bytes_eq text (codes "@type") then kind
    else (if bytes_eq text (codes "@value") then value
    else (if bytes_eq text (codes "@language") then language
    else (if bytes_eq text (codes "@direction") then direction
    else (if bytes_eq text (codes "@index") then index
    else (if bytes_eq text (codes "@graph") then graph
    else (if bytes_eq text (codes "@included") then included
    else (if bytes_eq text (codes "@list") then list
    else (if bytes_eq text (codes "@set") then set
    else (if bytes_eq text (codes "@reverse") then reverse
    else (if bytes_eq text (codes "@nest") then nest else other))))))))))))

abbrev pub key_by : Expanded → Key
key_by Null = dropped
key_by (Keyword text) = keyword_key text
key_by (Name text) = elim (list_any is_colon text) [ true ↦ property text | false ↦ dropped ]

-- what the name of a member means in a context
unfoldable pub key_of : Context → Text → Key
key_of c name = key_by (expand_iri c name true false)

abbrev pub is_id : Key → Bool
is_id id = true
is_id k = false

abbrev pub is_kind : Key → Bool
is_kind kind = true
is_kind k = false

abbrev pub is_value : Key → Bool
is_value value = true
is_value k = false

abbrev pub is_language : Key → Bool
is_language language = true
is_language k = false

abbrev pub is_direction : Key → Bool
is_direction direction = true
is_direction k = false

abbrev pub is_index : Key → Bool
is_index index = true
is_index k = false

abbrev pub is_graph : Key → Bool
is_graph graph = true
is_graph k = false

abbrev pub is_list : Key → Bool
is_list list = true
is_list k = false

abbrev pub is_set : Key → Bool
is_set set = true
is_set k = false

abbrev pub is_reverse : Key → Bool
is_reverse reverse = true
is_reverse k = false

-- the keywords with which an object may begin in streaming order (this project's own rule)
abbrev pub is_leading : Key → Bool
is_leading id = true
is_leading kind = true
is_leading value = true
is_leading language = true
is_leading direction = true
is_leading index = true
is_leading k = false

-- a keyword, of whatever meaning
abbrev pub is_keyword_key : Key → Bool
is_keyword_key dropped = false
is_keyword_key (property name) = false
is_keyword_key k = true
