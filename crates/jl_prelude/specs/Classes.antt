-- The class of a key: what of its meaning decides where the prelude of an object ends, and the object's contexts.
use Rattle.std.specs.Prelude.{◌≡◌, ◌≢◌, ℕ, ◌==◌, Bool, true, false, not, ◌||◌, List, codes, bytes_eq, if◌then◌else◌}
use Rattle.std.specs.List.{list_any}
use Rattle.jl_model.specs.JsonTree.{Tree, scalar, array, object}
use Rattle.jl_model.specs.declared.orders.Order.{Order}
use Rattle.jl_model.specs.declared.orders.Order.TheVariants.{Any, Streaming}
use Rattle.jl_defs.specs.Context.{Context}
use Rattle.jl_defs.specs.Keys.{Key, kind, id, index, language, direction, value}
use Rattle.jl_defs.specs.ObjectContexts.{leads_in, types_in}
use Rattle.jl_defs.specs.Texts.{Text}
use Rattle.jl_prelude.specs.declared.classes.Class.{Class}
use Rattle.jl_prelude.specs.declared.classes.Class.TheVariants as class
use Rattle.jl_prelude.specs.declared.classes.Classes.{Classes}

abbrev pub class_of : Key → Class
class_of kind = class.Kind
class_of id = class.Identifier
class_of index = class.Aside
class_of language = class.Aside
class_of direction = class.Aside
class_of value = class.Value
class_of k = class.Other

-- one of the three keywords of the class `Aside`
abbrev pub is_aside : Text → Bool
is_aside keyword = bytes_eq keyword (codes "@language") || (bytes_eq keyword (codes "@direction") || bytes_eq keyword (codes "@index"))

-- one of the six keywords with which an object may begin
abbrev pub is_leading : Class → Bool
is_leading class.Other = false
is_leading k = true

abbrev pub is_kind : Class → Bool
is_kind class.Kind = true
is_kind k = false

abbrev pub is_identifier : Class → Bool
is_identifier class.Identifier = true
is_identifier k = false

-- in some candidate context
abbrev pub some_leading : Classes → Bool
some_leading classes = is_leading classes.incoming || (is_leading classes.kept || is_leading classes.reverted)

abbrev pub some_kind : Classes → Bool
some_kind classes = is_kind classes.incoming || (is_kind classes.kept || is_kind classes.reverted)

-- the classes tell of the name what its meanings in these contexts do
pub record Tell (candidates : List Context) (name : Text) (classes : Classes) : Type 0 where
  pub leading : some_leading classes ≡ list_any (leads_in name) candidates
  pub kind : some_kind classes ≡ list_any (types_in name) candidates

-- the text of the value begins with this byte, as far as that tells its shape
abbrev pub BeginsWith : Tree → ℕ → Type 0
BeginsWith (object at members) first = first ≡ 123
BeginsWith (array at items) first = first ≡ 91
BeginsWith (scalar at x) first = (first ≢ 123) × (first ≢ 91)

-- a member of the prelude has a leading key, and a scalar; or a key for types, and an array
abbrev pub leads : Classes → ℕ → Bool
leads classes first =
    if first == 123 then false
    else (if first == 91 then some_kind classes else some_leading classes)

-- in streaming order the first member that doesn't lead ends the prelude; in any order all members decide, and none ends it
abbrev pub ends : Order → Classes → ℕ → Bool
ends Any classes first = false
ends Streaming classes first = not (leads classes first)
