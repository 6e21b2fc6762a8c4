-- When two term definitions are the same, and the prefix flag (JSON-LD 1.1 API, section 4.2.2, steps 27 and 14.2.5).
use Rattle.std.specs.Prelude.{ℕ, Bool, true, false, not, ◌&&◌, ◌||◌, ◌==◌, [], ◌∷◌, Option, Some, None, bytes_eq, reverse}
use Rattle.jl_model.specs.JsonTree.{Tree, scalar, array, object, Trees, no_item, item, Members, no_member, member}
use Rattle.jl_model.specs.declared.scalars.Scalar.{Scalar}
use Rattle.jl_model.specs.declared.scalars.Scalar.TheVariants.{Null, Bool as boolean, Number, Str}
use Rattle.jl_model.specs.declared.term_parts.Containers.{Containers}
use Rattle.jl_model.specs.declared.term_parts.LangEntry.{LangEntry}
use Rattle.jl_model.specs.declared.term_parts.LangEntry.TheVariants as lang
use Rattle.jl_model.specs.declared.term_parts.DirEntry.{DirEntry}
use Rattle.jl_model.specs.declared.term_parts.DirEntry.TheVariants as direction
use Rattle.jl_defs.specs.Texts.{Text, is_blank}
use Rattle.jl_defs.specs.Context.{Scoped, TermDef}
use Rattle.jl_defs.specs.TermEntry.{has_colon_or_slash}

abbrev pub same_bool : Bool → Bool → Bool
same_bool true b = b
same_bool false b = not b

abbrev pub same_text : Option Text → Option Text → Bool
same_text None None = true
same_text None (Some b) = false
same_text (Some a) None = false
same_text (Some a) (Some b) = bytes_eq a b

abbrev pub same_scalar : Scalar → Scalar → Bool
same_scalar Null Null = true
same_scalar (boolean a) (boolean b) = same_bool a b
same_scalar (Number a) (Number b) = bytes_eq a b
same_scalar (Str a) (Str b) = bytes_eq a b
same_scalar v w = false

-- the same value, whatever its places; members are compared in their order (this project's own choice)
unfoldable mutual
  pub same_tree : Tree → Tree → Bool
  same_tree (scalar at v) (scalar at' w) = same_scalar v w
  same_tree (array at xs) (array at' ys) = same_items xs ys
  same_tree (object at ms) (object at' ns) = same_members ms ns
  same_tree t u = false

  pub same_items : Trees → Trees → Bool
  same_items no_item no_item = true
  same_items (item x xs) (item y ys) = same_tree x y && same_items xs ys
  same_items xs ys = false

  pub same_members : Members → Members → Bool
  same_members no_member no_member = true
  same_members (member at n v rest) (member at' m w more) = bytes_eq n m && (same_tree v w && same_members rest more)
  same_members ms ns = false

abbrev pub same_containers : Containers → Containers → Bool
same_containers a b =
    same_bool a.list b.list && (same_bool a.set b.set && (same_bool a.graph b.graph && (same_bool a.index b.index
    && (same_bool a.id b.id && (same_bool a.kind b.kind && same_bool a.language b.language)))))

abbrev pub same_language : LangEntry → LangEntry → Bool
same_language lang.Absent lang.Absent = true
same_language lang.Null lang.Null = true
same_language (lang.Tag a) (lang.Tag b) = bytes_eq a b
same_language a b = false

abbrev pub same_direction : DirEntry → DirEntry → Bool
same_direction direction.Absent direction.Absent = true
same_direction direction.Null direction.Null = true
same_direction direction.Ltr direction.Ltr = true
same_direction direction.Rtl direction.Rtl = true
same_direction a b = false

abbrev pub same_scoped : Option Scoped → Option Scoped → Bool
same_scoped None None = true
same_scoped None (Some b) = false
same_scoped (Some a) None = false
same_scoped (Some a) (Some b) = same_tree a.local b.local && same_text a.base b.base

-- the same definition but for `protected` and for the places in raw scoped contexts
unfoldable pub same_definition : TermDef → TermDef → Bool
same_definition a b =
    same_text a.mapping b.mapping && (same_bool a.prefix b.prefix && (same_bool a.reverse b.reverse && (same_text a.kind b.kind
    && (same_containers a.containers b.containers && (same_text a.index b.index && (same_language a.language b.language
    && (same_direction a.direction b.direction && (same_text a.nest b.nest && same_scoped a.scoped b.scoped))))))))

-- one of : / ? # [ ] @
abbrev pub is_general_delimiter : ℕ → Bool
is_general_delimiter c = c == 58 || (c == 47 || (c == 63 || (c == 35 || (c == 91 || (c == 93 || c == 64)))))

abbrev pub ends_in_delimiter : Text → Bool
ends_in_delimiter text = first_is (reverse text)
  where
    first_is : Text → Bool
    first_is [] = false
    first_is (c ∷ cs) = is_general_delimiter c

-- whether a term is a prefix by itself: a simple one without colon and slash, whose mapping is a blank node or ends in a delimiter
abbrev pub prefix_flag : Text → Bool → Text → Bool
prefix_flag term simple mapping = simple && (not (has_colon_or_slash term) && (is_blank mapping || ends_in_delimiter mapping))
