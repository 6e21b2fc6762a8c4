-- What the words of the command line set a reading to.
use Rattle.std.specs.Prelude.{if◌then◌else◌, ℕ, ◌==◌, ◌≡◌, Bool, true, false, not, ◌&&◌, List, [], ◌∷◌, Option, Some, None, IfSome, codes, bytes_eq, is_none}
use Rattle.std.specs.List.{list_all}
use Rattle.std.specs.Option.{option_copied}
use Rattle.std.specs.Str.{is_utf8}
use Rattle.jl_model.specs.declared.orders.Order.{Order}
use Rattle.jl_model.specs.declared.orders.Order.TheVariants.{Any, Streaming}
use Rattle.jl_defs.specs.Texts.{Text, is_iri}
use Rattle.jl_defs.specs.Settings.{Settings}
use Rattle.jl_defs.specs.Words as defs
use Rattle.jl_defs.specs.Words.{Given, ReadWords, reads, writes, command, nothing_given, options, set_once, iri_word, is_value_word}
use Rattle.jl_top.specs.declared.words.Progress.{Progress}
use Rattle.jl_top.specs.declared.words.ReadOptions.{ReadOptions}
use Rattle.jl_top.specs.declared.words.Split.{Split}

-- streaming order, this base, and no contexts that are handed in
abbrev pub settings_with : Option Text → Settings
settings_with base = record { order = Streaming; base = base; library = [] }

-- streaming order must be asked for
abbrev pub settings_by : Option Order → Option Text → Option Settings
settings_by None base = None
settings_by (Some Any) base = None
settings_by (Some Streaming) base = Some (settings_with base)

-- of all options the order and the base are built so far
abbrev pub is_built : Given → Bool
is_built g = is_none g.contexts && (is_none g.limit && (is_none g.only_graph && (is_none g.only_predicate && not g.stats)))

abbrev pub settings_in : Option Given → Option Settings
settings_in None = None
settings_in (Some g) = elim (is_built g) [ true ↦ settings_by g.order g.base | false ↦ None ]

-- `read` and its options
abbrev pub read_settings : Text → List Text → Option Settings
read_settings w ws = elim (bytes_eq w (codes "read")) [ true ↦ settings_in (options ws nothing_given) | false ↦ None ]

-- what the words set a reading to, if they are a command that is built
abbrev pub settings_of : List Text → Option Settings
settings_of [] = None
settings_of (w ∷ ws) = elim (list_all is_utf8 (w ∷ ws)) [ true ↦ read_settings w ws | false ↦ None ]

-- the word `write` alone
abbrev pub are_write : List Text → Bool
are_write [] = false
are_write (w ∷ []) = bytes_eq w (codes "write")
are_write (w ∷ v ∷ ws) = false

-- the words are no command that is built
abbrev pub IsNoCommand : List Text → Type 0
IsNoCommand words = (settings_of words ≡ None) × (are_write words ≡ false)

-- what `read` is told then: all else is as if it weren't given
abbrev pub words_with : Settings → ReadWords
words_with s = record { order = s.order; base = s.base; contexts = None; limit = 268435456; only_graph = None; only_predicate = None; stats = false }

-- words that set a reading to something are a command, which says just that
abbrev pub AreReadWords : Type 0
AreReadWords = (words : List Text) (s : Settings) → settings_of words ≡ Some s → command words ≡ Some (reads (words_with s))

-- and so is the word `write`
abbrev pub AreWriteWords : Type 0
AreWriteWords = (words : List Text) → are_write words ≡ true → command words ≡ Some writes

-- ---- the options as they are read one after another

abbrev pub order_by : Bool → Option Order
order_by true = Some Streaming
order_by false = None

abbrev pub given_by : Bool → Option Text → Given
given_by streaming base = record { order = order_by streaming; base = base; contexts = None; limit = None; only_graph = None; only_predicate = None; stats = false }

-- what has been given
abbrev pub given_in : ReadOptions → Given
given_in o = given_by o.streaming (option_copied o.base)

-- the base is an IRI
abbrev pub HasIriBase : ReadOptions → Type 0
HasIriBase o = IfSome (option_copied o.base) (λ text. is_iri text ≡ true)

-- the settings of the options, once they are read
abbrev pub settings_for : Option ReadOptions → Option Settings
settings_for None = None
settings_for (Some o) = Some (settings_with (option_copied o.base))

abbrev pub is_equals : ℕ → Bool
is_equals c = c == 61

abbrev pub split_in : Split → defs.Split
split_in w = record { name = w.name.now; value = option_copied w.value }

abbrev pub streaming_word : Text → Option Order
streaming_word text = elim (bytes_eq text (codes "streaming")) [ true ↦ Some Streaming | false ↦ None ]

abbrev pub set_order : Text → Given → Option Given
set_order value g = set_once g.order (streaming_word value) (λ x. record g { order = Some x })

abbrev pub set_base : Text → Given → Option Given
set_base value g = set_once g.base (iri_word value) (λ x. record g { base = Some x })

-- an option that is built, with a value that is built
abbrev pub set_built : Text → Text → Given → Option Given
set_built name value g =
    if bytes_eq name (codes "--order") then set_order value g
    else (if bytes_eq name (codes "--base") then set_base value g else None)

-- the settings once the rest of the words is read, too
abbrev pub settings_then : Option Given → List Text → Option Settings
settings_then None rest = None
settings_then (Some g) rest = settings_in (options rest g)

-- the same, where the option's value is the first of the words
abbrev pub value_settings : Text → List Text → Given → Option Settings
value_settings name [] g = None
value_settings name (v ∷ rest) g = elim (is_value_word v) [ true ↦ settings_then (set_built name v g) rest | false ↦ None ]

-- and where it is in the word
abbrev pub option_settings : Option Text → Text → List Text → Given → Option Settings
option_settings (Some value) name rest g = settings_then (set_built name value g) rest
option_settings None name rest g = value_settings name rest g

abbrev pub settings_behind : Option Progress → Option Settings
settings_behind None = None
settings_behind (Some next) = settings_in (options next.rest.now (given_in next.options))
