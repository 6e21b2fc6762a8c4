-- The members of a prelude: their weight, and whether they are one identifier.
use Rattle.std.specs.Prelude.{ℕ, ◌+◌, ◌-◌, ◌^◌, Bool, false, List, [], ◌∷◌, length, min}
use Rattle.std.specs.List.{sum_by}
use Rattle.jl_prelude.specs.Classes.{is_identifier}
use Rattle.jl_prelude.specs.declared.members.PreludeMember.{PreludeMember}

-- the bytes of the key and of the value, and eight
abbrev pub weight : PreludeMember → ℕ
weight member = 8 + (length member.key + length member.raw)

-- a sum, up to the end of its range
abbrev pub capped : ℕ → ℕ
capped sum = min sum (2 ^ 64 - 1)

abbrev pub weight_of : List PreludeMember → ℕ
weight_of members = capped (sum_by weight members)

-- one member alone, whose key is for an identifier in the context outside
abbrev pub is_single_id : List PreludeMember → Bool
is_single_id [] = false
is_single_id (x ∷ []) = is_identifier x.classes.incoming
is_single_id (x ∷ (y ∷ rest)) = false
