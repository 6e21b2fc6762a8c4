-- What layers of definitions mean: the sorted list of terms that a context has (JSON-LD 1.1 API, section 4.1).
use Rattle.std.specs.Prelude.{◌≡◌, ℕ, true, false, List, [], ◌∷◌, Option, Some, None, bytes_eq, map, option_map, Vec}
use Rattle.std.specs.declared.alloc.Global.{Global}
use Rattle.std.specs.declared.rc.Rc.{Rc}
use Rattle.std.specs.Map as tables
use Rattle.jl_defs.specs.Texts.{Text}
use Rattle.jl_defs.specs.Context.{Named, TermDef, put, without}
use Rattle.jl_context.specs.declared.layers.Layer.{Layer}

-- a definition that contexts share
abbrev pub Shared : Type 0
Shared = Rc TermDef Global

-- the entries of a layer's table: a name, and its definition, or the mark that an older one is out
abbrev pub Slots : Type 0
Slots = List (Vec ℕ Global × Option Shared)

abbrev pub slots_of : Layer → Slots
slots_of l = l.slots.entries

-- what an entry says: a definition, or that there is none
abbrev pub seen : Option Shared → Option TermDef
seen v = option_map (λ d. d.value) v

-- the entry at a name
abbrev pub raw_slot : Slots → Text → Option (Option Shared)
raw_slot es name = tables.lookup (λ k. bytes_eq name k.items) es

-- what a layer says of a name, if it says anything
abbrev pub slot : Slots → Text → Option (Option TermDef)
slot es name = option_map seen (raw_slot es name)

-- one name is changed, and no other
unfoldable pub Changes : Slots → Text → Option TermDef → Slots → Type 0
Changes old name t new = (slot new name ≡ Some t) × ((q : Text) → bytes_eq name q ≡ false → slot new q ≡ slot old q)

-- what a layer says, or else what the one below it says
abbrev pub or_slot : Option (Option TermDef) → Option (Option TermDef) → Option (Option TermDef)
or_slot None other = other
or_slot (Some t) other = Some t

-- one name is put in where nothing is said of it
unfoldable pub Adds : Slots → Text → Option TermDef → Slots → Type 0
Adds old name t new = (q : Text) → slot new q ≡ or_slot (slot old q) (elim (bytes_eq q name) [ true ↦ Some t | false ↦ None ])

-- a layer says what it said, and else what a lower one says
abbrev pub TakesOver : Slots → Slots → Slots → Type 0
TakesOver old lower new = (q : Text) → slot new q ≡ or_slot (slot old q) (slot lower q)

-- a definition put in, or taken out
abbrev pub change : Text → Option TermDef → List Named → List Named
change name (Some t) es = put es name t
change name None es = without es name

-- the definitions of a layer over those below it
abbrev pub over : Slots → List Named → List Named
over [] below = below
over (e ∷ es) below = change e.0.items (seen e.1) (over es below)

-- the terms of layers, the newest layer first
abbrev pub layered : List Layer → List Named
layered [] = []
layered (l ∷ ls) = over (slots_of l) (layered ls)

abbrev pub layers_in : List (Rc Layer Global) → List Layer
layers_in rs = map (λ r. r.value) rs

abbrev pub terms_of : List (Rc Layer Global) → List Named
terms_of rs = layered (layers_in rs)
