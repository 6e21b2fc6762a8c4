-- What the words of the command line mean (this project's own rules).
use Rattle.std.specs.Prelude.{if◌then◌else◌, ℕ, Bool, true, false, not, ◌&&◌, ◌==◌, nat_le, List, [], ◌∷◌, length, Option, Some, None, codes, bytes_eq, is_none, unwrap_or, option_and_then}
use Rattle.std.specs.List.{list_all}
use Rattle.std.specs.Char.{is_ascii_digit}
use Rattle.std.specs.Str.{is_utf8}
use Rattle.jl_model.specs.Parts.{Parts}
use Rattle.jl_model.specs.declared.terms.Term.{Term}
use Rattle.jl_model.specs.declared.terms.Term.TheVariants.{Iri}
use Rattle.jl_model.specs.declared.orders.Order.{Order}
use Rattle.jl_model.specs.declared.orders.Order.TheVariants.{Any, Streaming}
use Rattle.jl_defs.specs.Texts.{Text, is_iri}
use Rattle.jl_defs.specs.Numbers.{number_from}

-- what a reading is told
pub record ReadWords : Type 0 where
  pub order : Order
  pub base : Option Text
  -- the path of the list of contexts
  pub contexts : Option Text
  pub limit : ℕ
  pub only_graph : Option Text
  pub only_predicate : Option Text
  pub stats : Bool

pub data Command : Type 0 where
  reads : (words : ReadWords) → Command
  writes : Command
  generates : (n : ℕ) → Command
  tries_itself : (n : ℕ) → Command

-- the options that have been given, each at most once
pub record Given : Type 0 where
  pub order : Option Order
  pub base : Option Text
  pub contexts : Option Text
  pub limit : Option ℕ
  pub only_graph : Option Text
  pub only_predicate : Option Text
  pub stats : Bool

abbrev pub nothing_given : Given
nothing_given = record { order = None; base = None; contexts = None; limit = None; only_graph = None; only_predicate = None; stats = false }

-- one to thirteen digits, without a leading zero but in `0` itself
abbrev pub is_number : Text → Bool
is_number [] = false
is_number (c ∷ []) = is_ascii_digit c
is_number (c ∷ d ∷ ds) = not (c == 48) && (list_all is_ascii_digit (c ∷ d ∷ ds) && nat_le (length (c ∷ d ∷ ds)) 13)

-- the number of a word, within limits
abbrev pub number_within : ℕ → ℕ → Text → Option ℕ
number_within least most text =
    elim (is_number text && (nat_le least (number_from 0 text) && nat_le (number_from 0 text) most))
    [ true ↦ Some (number_from 0 text) | false ↦ None ]

abbrev pub order_word : Text → Option Order
order_word text =
    elim (bytes_eq text (codes "any")) [
      | true ↦ Some Any
      | false ↦ elim (bytes_eq text (codes "streaming")) [ true ↦ Some Streaming | false ↦ None ]
    ]

abbrev pub iri_word : Text → Option Text
iri_word text = elim (is_iri text) [ true ↦ Some text | false ↦ None ]

abbrev pub file_word : Text → Option Text
file_word [] = None
file_word (c ∷ cs) = Some (c ∷ cs)

-- an option that is given for the first time, with a value that it takes
abbrev pub set_once : {A : Type 0} → Option A → Option A → (A → Given) → Option Given
set_once (Some old) value set = None
set_once None None set = None
set_once None (Some x) set = Some (set x)

abbrev pub set_option : Text → Text → Given → Option Given
set_option name value g =
    if bytes_eq name (codes "--order") then set_once g.order (order_word value) (λ x. record g { order = Some x })
    else (if bytes_eq name (codes "--base") then set_once g.base (iri_word value) (λ x. record g { base = Some x })
    else (if bytes_eq name (codes "--contexts") then set_once g.contexts (file_word value) (λ x. record g { contexts = Some x })
    else (if bytes_eq name (codes "--limit") then set_once g.limit (number_within 1 1099511627776 value) (λ x. record g { limit = Some x })
    else (if bytes_eq name (codes "--only-graph") then set_once g.only_graph (iri_word value) (λ x. record g { only_graph = Some x })
    else (if bytes_eq name (codes "--only-predicate") then set_once g.only_predicate (iri_word value) (λ x. record g { only_predicate = Some x }) else None)))))

-- a word split at its first `=`
pub record Split : Type 0 where
  pub name : Text
  pub value : Option Text

abbrev pub split_word : Text → Split
split_word [] = record { name = []; value = None }
split_word (c ∷ cs) = elim (c == 61) [ true ↦ record { name = []; value = Some cs } | false ↦ record { name = c ∷ (split_word cs).name; value = (split_word cs).value } ]

-- a word that may be an option's value: some text that doesn't look like an option
abbrev pub is_value_word : Text → Bool
is_value_word [] = false
is_value_word (c ∷ cs) = not (c == 45)

abbrev pub is_stats : Split → Bool
is_stats w = bytes_eq w.name (codes "--stats") && is_none w.value

abbrev pub set_stats : Given → Option Given
set_stats g = elim g.stats [ true ↦ None | false ↦ Some (record g { stats = true }) ]

-- the options: `--stats`, `--name=value`, or `--name value`
unfoldable pub options : List Text → Given → Option Given
options [] g = Some g
options (w ∷ []) g = by (is_stats (split_word w)) (split_word w).value
  where
    by : Bool → Option Text → Option Given
    by true value = set_stats g
    by false None = None
    by false (Some value) = set_option (split_word w).name value g
options (w ∷ v ∷ ws) g = then_options (is_stats (split_word w)) (split_word w).value (λ h. options (v ∷ ws) h) (λ h. options ws h)
  where
    own : Option Given
    own = elim (is_value_word v) [ true ↦ set_option w v g | false ↦ None ]

    then_options : Bool → Option Text → (Given → Option Given) → (Given → Option Given) → Option Given
    then_options true value next behind = option_and_then next (set_stats g)
    then_options false None next behind = option_and_then behind own
    then_options false (Some value) next behind = option_and_then next (set_option (split_word w).name value g)

abbrev pub read_words : Given → ReadWords
read_words g = record {
  order = unwrap_or g.order Any;
  base = g.base;
  contexts = g.contexts;
  limit = unwrap_or g.limit 268435456;
  only_graph = g.only_graph;
  only_predicate = g.only_predicate;
  stats = g.stats;
}

abbrev pub read_command : Option Given → Option Command
read_command None = None
read_command (Some g) = Some (reads (read_words g))

-- a command that takes a number of nodes
abbrev pub number_command : (ℕ → Command) → List Text → Option Command
number_command make (w ∷ []) = made (number_within 0 1000000 w)
  where
    made : Option ℕ → Option Command
    made None = None
    made (Some n) = Some (make n)
number_command make [] = None
number_command make (w ∷ v ∷ vs) = None

abbrev pub no_words : List Text → Option Command
no_words [] = Some writes
no_words (w ∷ ws) = None

abbrev pub first_word : Text → List Text → Option Command
first_word w ws =
    if bytes_eq w (codes "read") then read_command (options ws nothing_given)
    else (if bytes_eq w (codes "write") then no_words ws
    else (if bytes_eq w (codes "gen") then number_command generates ws
    else (if bytes_eq w (codes "self") then number_command tries_itself ws else None)))

-- the command of the words, or none
unfoldable pub command : List Text → Option Command
command [] = None
command (w ∷ ws) = elim (list_all is_utf8 (w ∷ ws)) [ true ↦ first_word w ws | false ↦ None ]

-- the graph is the IRI that is asked for
abbrev pub is_graph_named : Option Text → Option Term → Bool
is_graph_named None graph = true
is_graph_named (Some name) (Some (Iri iri)) = bytes_eq iri name
is_graph_named (Some name) graph = false

abbrev pub is_predicate_named : Option Text → Text → Bool
is_predicate_named None predicate = true
is_predicate_named (Some name) predicate = bytes_eq predicate name

-- the quads that the words select
abbrev pub selects : ReadWords → Parts → Bool
selects w q = is_graph_named w.only_graph q.graph && is_predicate_named w.only_predicate q.predicate
