-- The path that is being written while dot segments are removed, segment by segment. It serves
-- private clauses alone: what removing them means stands in `Rattle.jl_model.specs.Resolve`.
use Rattle.std.specs.Prelude.{ℕ, Bool, true, false, not, ◌&&◌, ◌||◌, List, [], ◌∷◌, ◌++◌, Option, None, Some, codes, bytes_eq, reverse}
use Rattle.std.specs.List.{slice_split}
use Rattle.jl_model.specs.Resolve.{is_slash, is_dots}

-- a path, read from its end, without its last segment and the slash before that
abbrev pub behind_slash : List ℕ → List ℕ
behind_slash [] = []
behind_slash (c ∷ cs) = elim (is_slash c) [ true ↦ cs | false ↦ behind_slash cs ]

abbrev pub without_segment : List ℕ → List ℕ
without_segment path = reverse (behind_slash (reverse path))

-- a segment of the path, with the slash before it where it isn't the first one
abbrev pub with_segment : Bool → List ℕ → List ℕ → List ℕ
with_segment begun kept segment = elim begun [ true ↦ kept ++ 47 ∷ segment | false ↦ kept ++ segment ]

-- the path after one more segment, where a segment that isn't of dots was written or wasn't
abbrev pub after_segment : Bool → List ℕ → List ℕ → List ℕ
after_segment begun kept segment =
    elim (is_dots segment) [
      | true ↦ elim (begun && bytes_eq segment (codes "..")) [ true ↦ without_segment kept | false ↦ kept ]
      | false ↦ with_segment begun kept segment
    ]

-- the whole path, where these segments are to come; one that ends in a segment of dots ends with a slash
abbrev pub after_segments : Bool → Bool → List ℕ → List (List ℕ) → List ℕ
after_segments begun dots kept [] = elim (begun && dots) [ true ↦ kept ++ codes "/" | false ↦ kept ]
after_segments begun dots kept (s ∷ ss) = after_segments (begun || not (is_dots s)) (is_dots s) (after_segment begun kept s) ss

-- the segments of what is left of a path, if something is
abbrev pub segments_of : Option (List ℕ) → List (List ℕ)
segments_of None = []
segments_of (Some path) = slice_split is_slash path
