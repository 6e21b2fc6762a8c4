-- Sums over the terms of a context that are kept beside them.
use Rattle.std.specs.Prelude.{◌≡◌, ◌≤◌, ℕ, ◌+◌, Bool, true, false, List, Option, Some, None, is_some, sum_by}
use Rattle.jl_defs.specs.Texts.{Text}
use Rattle.jl_defs.specs.Context.{Named, TermDef, named_size}
use Rattle.jl_context.specs.declared.sums.Sums.{Sums}

abbrev pub one_if : Bool → ℕ
one_if true = 1
one_if false = 0

-- one for a protected term, and for a term with a scoped context
abbrev pub protected_one : Named → ℕ
protected_one e = one_if e.term.protected

abbrev pub scoped_one : Named → ℕ
scoped_one e = one_if (is_some e.term.scoped)

-- what the definition of a name counts for, where there is one
abbrev pub part : (Named → ℕ) → Text → Option TermDef → ℕ
part f name None = 0
part f name (Some t) = f (record { name = name; term = t })

abbrev pub parts : Text → Option TermDef → Sums
parts name t = record { size = part named_size name t; protected = part protected_one name t; scoped = part scoped_one name t }

-- the size of all terms, how many are protected, how many have a scoped context
pub record AreSums (s : Sums) (es : List Named) : Type 0 where
  pub size : s.size ≡ sum_by named_size es
  pub protected : s.protected ≡ sum_by protected_one es
  pub scoped : s.scoped ≡ sum_by scoped_one es

-- each of some sums is within another
pub record AreWithin (old s : Sums) : Type 0 where
  pub size : old.size ≤ s.size
  pub protected : old.protected ≤ s.protected
  pub scoped : old.scoped ≤ s.scoped

-- some part was taken off, and another added
pub record Move (s old new moved : Sums) : Type 0 where
  pub size : moved.size + old.size ≡ s.size + new.size
  pub protected : moved.protected + old.protected ≡ s.protected + new.protected
  pub scoped : moved.scoped + old.scoped ≡ s.scoped + new.scoped

-- a term has a scoped context
abbrev pub is_scoped : Named → Bool
is_scoped e = is_some e.term.scoped
