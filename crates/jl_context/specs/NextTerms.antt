-- Terms one after another in the order of their names.
use Rattle.std.specs.Prelude.{Bool, true, false, ◌&&◌, List, [], ◌∷◌, ◌++◌, map, Option, Some, None, is_some}
use Rattle.jl_defs.specs.Texts.{Text, is_before}
use Rattle.jl_defs.specs.Context.{Named, TermDef, lookup}
use Rattle.jl_context.specs.declared.layers.Layer.{Layer}
use Rattle.jl_context.specs.Layers.{Slots, slots_of}

abbrev pub named : Text → TermDef → Named
named name t = record { name = name; term = t }

-- a name comes after another, where there is another
abbrev pub is_above : Option Text → Text → Bool
is_above None name = true
is_above (Some after) name = is_before after name

-- the first of the terms whose names come after a name, or the first of all
abbrev pub next_named : List Named → Option Text → Option Named
next_named [] after = None
next_named (e ∷ es) after = elim (is_above after e.name) [ true ↦ Some e | false ↦ next_named es after ]

-- a name comes before one that was found, where one was
abbrev pub is_first : Option Text → Text → Bool
is_first None name = true
is_first (Some found) name = is_before name found

-- a name that was found, or another one, where that is a term, comes after `after`, and before what was found
abbrev pub lesser : List Named → Option Text → Option Text → Text → Option Text
lesser es after found name =
    elim (is_above after name && (is_first found name && is_some (lookup es name))) [ true ↦ Some name | false ↦ found ]

-- the least of a name that was found and others
abbrev pub least : List Named → Option Text → Option Text → List Text → Option Text
least es after found [] = found
least es after found (n ∷ ns) = least es after (lesser es after found n) ns

-- the names of which a layer, or some layer, says anything
abbrev pub names_in : Slots → List Text
names_in slots = map (λ e. e.0.items) slots

abbrev pub all_names : List Layer → List Text
all_names [] = []
all_names (l ∷ ls) = names_in (slots_of l) ++ all_names ls
