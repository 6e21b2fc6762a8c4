-- The canonical text of a JSON value (RFC 8785): no spaces, members by the UTF-16 code units of their names.
use Rattle.std.specs.Prelude.{if◌then◌else◌, ℕ, ◌+◌, ◌-◌, ◌/◌, ◌%◌, true, false, ◌==◌, nat_lt, List, [], ◌∷◌, ◌++◌, flat_map, Result, Ok, Err, codes}
use Rattle.std.specs.Str.{chars}
use Rattle.jl_model.specs.JsonTree.{Tree, scalar, array, object, Trees, no_item, item, Members, no_member, member}
use Rattle.jl_model.specs.Ren.{hex_digit}
use Rattle.jl_model.specs.declared.scalars.Scalar.{Scalar}
use Rattle.jl_model.specs.declared.scalars.Scalar.TheVariants.{Null, Bool as boolean, Number, Str}
use Rattle.jl_model.specs.declared.codes.Code.{Code}
use Rattle.jl_model.specs.declared.faults.Fault.{Fault}
use Rattle.jl_defs.specs.Texts.{Text, is_before}
use Rattle.jl_defs.specs.Numbers.{json_number}

-- a byte of a string: quote, backslash and the controls are escaped (RFC 8785, section 3.2.2.2)
abbrev pub string_byte : ℕ → Text
string_byte c =
    if c == 34 then codes "\\\""
    else (if c == 92 then codes "\\\\"
    else (if c == 8 then codes "\\b"
    else (if c == 12 then codes "\\f"
    else (if c == 10 then codes "\\n"
    else (if c == 13 then codes "\\r"
    else (if c == 9 then codes "\\t"
    else (if nat_lt c 32 then codes "\\u00" ++ hex_digit (c / 16) ∷ hex_digit (c % 16) ∷ [] else c ∷ [])))))))

-- a JSON string with its quotes
unfoldable pub string_text : Text → Text
string_text text = codes "\"" ++ flat_map string_byte text ++ codes "\""

-- the UTF-16 code units of a character
abbrev pub char_units : ℕ → List ℕ
char_units c = elim (nat_lt c 65536) [ true ↦ c ∷ [] | false ↦ (55296 + (c - 65536) / 1024) ∷ (56320 + (c - 65536) % 1024) ∷ [] ]

abbrev pub units : Text → List ℕ
units text = flat_map char_units (chars text)

-- a number's text; one that is at fault has none
abbrev pub number_text : Result Text Code → Text
number_text (Ok text) = text
number_text (Err e) = []

abbrev pub scalar_text : Scalar → Text
scalar_text Null = codes "null"
scalar_text (boolean true) = codes "true"
scalar_text (boolean false) = codes "false"
scalar_text (Number token) = number_text (json_number token)
scalar_text (Str text) = string_text text

-- a member: its name, and its whole text
pub record Pair : Type 0 where
  pub name : Text
  pub text : Text

abbrev pub pair : Text → Text → Pair
pair name value = record { name = name; text = string_text name ++ codes ":" ++ value }

-- members in the order of their names (section 3.2.3)
abbrev pub put_pair : Pair → List Pair → List Pair
put_pair x [] = x ∷ []
put_pair x (y ∷ ys) = elim (is_before (units y.name) (units x.name)) [ true ↦ y ∷ put_pair x ys | false ↦ x ∷ (y ∷ ys) ]

-- texts with commas between them
abbrev pub joined : List Text → Text
joined [] = []
joined (x ∷ []) = x
joined (x ∷ y ∷ ys) = x ++ codes "," ++ joined (y ∷ ys)

abbrev pub pair_texts : List Pair → List Text
pair_texts [] = []
pair_texts (x ∷ xs) = x.text ∷ pair_texts xs

unfoldable mutual
  pub canon : Tree → Text
  canon (scalar at v) = scalar_text v
  canon (array at xs) = codes "[" ++ joined (item_texts xs) ++ codes "]"
  canon (object at ms) = codes "{" ++ joined (pair_texts (pairs ms)) ++ codes "}"

  pub item_texts : Trees → List Text
  item_texts no_item = []
  item_texts (item x rest) = canon x ∷ item_texts rest

  pub pairs : Members → List Pair
  pairs no_member = []
  pairs (member a n v rest) = put_pair (pair n (canon v)) (pairs rest)

-- the fault of a number in a JSON literal
abbrev pub number_fault : ℕ → Result Text Code → List Fault
number_fault at (Ok text) = []
number_fault at (Err e) = record { code = e; at = at } ∷ []

-- all faults of the numbers in a JSON literal
unfoldable mutual
  pub json_faults : Tree → List Fault
  json_faults (scalar at (Number token)) = number_fault at (json_number token)
  json_faults (scalar at v) = []
  json_faults (array at xs) = items_json_faults xs
  json_faults (object at ms) = members_json_faults ms

  pub items_json_faults : Trees → List Fault
  items_json_faults no_item = []
  items_json_faults (item x rest) = json_faults x ++ items_json_faults rest

  pub members_json_faults : Members → List Fault
  members_json_faults no_member = []
  members_json_faults (member a n v rest) = json_faults v ++ members_json_faults rest
