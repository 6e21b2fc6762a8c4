-- Which texts are blank node identifiers.
use Rattle.std.specs.Prelude.{ℕ, Bool, false, ◌&&◌, ◌==◌, List, [], ◌∷◌}

-- `_:` and at least one byte, which begins the label
abbrev pub is_blank : List ℕ → Bool
is_blank [] = false
is_blank (c ∷ []) = false
is_blank (c ∷ d ∷ []) = false
is_blank (c ∷ d ∷ e ∷ es) = c == 95 && d == 58
