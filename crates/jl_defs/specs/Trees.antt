-- Looking into the tree of a JSON text.
use Rattle.std.specs.Prelude.{ℕ, ◌+◌, true, false, List, [], ◌∷◌, length, Option, Some, None, bytes_eq}
use Rattle.jl_model.specs.JsonTree.{Tree, scalar, array, object, Trees, no_item, item, Members, no_member, member}
use Rattle.jl_model.specs.declared.scalars.Scalar.{Scalar}
use Rattle.jl_model.specs.declared.scalars.Scalar.TheVariants.{Null, Bool as boolean, Number, Str}
use Rattle.jl_defs.specs.Texts.{Text}

-- the place of a value's first byte
abbrev pub place_of : Tree → ℕ
place_of (scalar at v) = at
place_of (array at xs) = at
place_of (object at ms) = at

-- the value of the member of this name
abbrev pub member_named : Text → Members → Option Tree
member_named name no_member = None
member_named name (member at n v rest) = elim (bytes_eq n name) [ true ↦ Some v | false ↦ member_named name rest ]

-- a string's text
abbrev pub string_of : Tree → Option Text
string_of (scalar at (Str text)) = Some text
string_of (scalar at Null) = None
string_of (scalar at (boolean b)) = None
string_of (scalar at (Number text)) = None
string_of (array at xs) = None
string_of (object at ms) = None

-- the strings among the items of an array
abbrev pub strings_of : Trees → List Text
strings_of no_item = []
strings_of (item x rest) = if_some (string_of x) (strings_of rest)
  where
    if_some : Option Text → List Text → List Text
    if_some None texts = texts
    if_some (Some text) texts = text ∷ texts

-- the bytes of the names, strings and numbers in it
abbrev mutual
  pub texts_size : Tree → ℕ
  texts_size (scalar at v) = scalar_size v
    where
      scalar_size : Scalar → ℕ
      scalar_size Null = 0
      scalar_size (boolean b) = 0
      scalar_size (Number text) = length text
      scalar_size (Str text) = length text
  texts_size (array at xs) = items_size xs
  texts_size (object at ms) = members_size ms

  pub items_size : Trees → ℕ
  items_size no_item = 0
  items_size (item x rest) = texts_size x + items_size rest

  pub members_size : Members → ℕ
  members_size no_member = 0
  members_size (member at n v rest) = length n + (texts_size v + members_size rest)

-- items and more items, members and more members
abbrev pub then_items : Trees → Trees → Trees
then_items no_item others = others
then_items (item x rest) others = item x (then_items rest others)

abbrev pub then_members : Members → Members → Members
then_members no_member others = others
then_members (member at n v rest) others = member at n v (then_members rest others)
