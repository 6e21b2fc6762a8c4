-- What has been read of a document, from the outside in: its closed parts, and the one part that is open.
use Rattle.std.specs.Prelude.{ℕ, ◌≡◌, List, Option, Some, None}
use Rattle.jl_model.specs.JsonTree.{Tree, scalar, array, object, Trees, no_item, item, Members, no_member, member}
use Rattle.jl_model.specs.declared.scalars.Scalar.TheVariants.{Null, Str}
use Rattle.jl_defs.specs.Texts.{Text}
use Rattle.jl_defs.specs.Trees.{then_items, then_members}

-- the first byte of a value
pub data First : Type 0 where
  quote : First
  brace : First
  bracket : First
  -- of a number or a word
  sign : First

pub data Open : Type 0 where
  -- nothing of the value but blanks
  unread : Open
  -- a string, a number or a word is being read
  in_scalar : (at : ℕ) → (first : First) → Open
  -- an array: its closed items, and what has been read of the next
  in_array : (at : ℕ) → (closed : Trees) → (next : Open) → Open
  -- an object between two members: the closed ones, and the places after them
  in_object : (at : ℕ) → (closed : Members) → (ends : List ℕ) → Open
  -- an object while a key is being read
  in_key : (at : ℕ) → (closed : Members) → (ends : List ℕ) → (key_at : ℕ) → Open
  -- an object while a member's value is open: its key has been read
  in_member : (at : ℕ) → (closed : Members) → (ends : List ℕ) → (key_at : ℕ) → (name : Text) → (next : Open) → Open
  -- the whole value has been read
  whole : (value : Tree) → Open

-- the first byte, where it has been read
abbrev pub first_byte : Open → Option First
first_byte unread = None
first_byte (in_scalar at first) = Some first
first_byte (in_array at xs next) = Some bracket
first_byte (in_object at ms ends) = Some brace
first_byte (in_key at ms ends a) = Some brace
first_byte (in_member at ms ends a n next) = Some brace
first_byte (whole (scalar at (Str text))) = Some quote
first_byte (whole (scalar at v)) = Some sign
first_byte (whole (array at xs)) = Some bracket
first_byte (whole (object at ms)) = Some brace

-- a value in the open one's place, as far as its first byte tells: a scalar, an array or an object
abbrev pub stand_in : Open → Tree
stand_in o = by (first_byte o)
  where
    by : Option First → Tree
    by None = scalar 0 Null
    by (Some quote) = scalar 0 Null
    by (Some sign) = scalar 0 Null
    by (Some bracket) = array 0 no_item
    by (Some brace) = object 0 no_member

-- the members whose keys have been read: of the last one only the first byte of its value counts
abbrev pub read_members : Members → ℕ → Text → Open → Members
read_members ms a n next = then_members ms (member a n (stand_in next) no_member)

-- no item has begun
abbrev pub IsUnread : Open → Type 0
IsUnread unread = Unit {0}
IsUnread (in_scalar at first) = ⊥
IsUnread (in_array at xs next) = ⊥
IsUnread (in_object at ms ends) = ⊥
IsUnread (in_key at ms ends a) = ⊥
IsUnread (in_member at ms ends a n next) = ⊥
IsUnread (whole t) = ⊥

-- after the closed items there is one like this, or nothing of it has been read
abbrev pub NextItem : Open → (Tree → Type 0) → Trees → Type 0
NextItem o E no_item = IsUnread o
NextItem o E (item x rest) = E x

-- a scalar at this place that begins with this byte
abbrev pub IsScalarAt : ℕ → First → Tree → Type 0
IsScalarAt at quote (scalar at' (Str text)) = at ≡ at'
IsScalarAt at quote t = ⊥
IsScalarAt at sign (scalar at' (Str text)) = ⊥
IsScalarAt at sign (scalar at' v) = at ≡ at'
IsScalarAt at sign t = ⊥
IsScalarAt at brace t = ⊥
IsScalarAt at bracket t = ⊥

-- the next member is at this place, or there is none
abbrev pub NextMember : ℕ → Members → Type 0
NextMember at no_member = ⊥
NextMember at (member a n v rest) = at ≡ a

-- a tree that begins like this
unfoldable pub Extends : Open → Tree → Type 0
Extends unread t = Unit {0}
Extends (in_scalar at first) t = IsScalarAt at first t
Extends (in_array at xs next) t = (rest : Trees) × (t ≡ array at (then_items xs rest)) × NextItem next (Extends next) rest
Extends (in_object at ms ends) t = (rest : Members) × (t ≡ object at (then_members ms rest))
Extends (in_key at ms ends a) t = (rest : Members) × (t ≡ object at (then_members ms rest)) × NextMember a rest
Extends (in_member at ms ends a n next) t = (v : Tree) × (rest : Members) × (t ≡ object at (then_members ms (member a n v rest))) × Extends next v
Extends (whole t) u = t ≡ u
