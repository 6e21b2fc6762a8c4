-- Which texts are language tags.
use Rattle.std.specs.Prelude.{ℕ, Bool, false, ◌&&◌, ◌==◌, List, [], ◌∷◌}
use Rattle.std.specs.Char.{is_ascii_alphabetic, is_ascii_alphanumeric}
use Rattle.std.specs.List.{list_all, slice_split}

abbrev pub is_dash : ℕ → Bool
is_dash c = c == 45

-- one or more bytes, each of which passes the test
abbrev pub is_some_of : (ℕ → Bool) → List ℕ → Bool
is_some_of test [] = false
is_some_of test (c ∷ cs) = test c && list_all test cs

-- letters first, and then parts of letters and digits
abbrev pub are_subtags : List (List ℕ) → Bool
are_subtags [] = false
are_subtags (first ∷ others) = is_some_of is_ascii_alphabetic first && list_all (is_some_of is_ascii_alphanumeric) others

-- the text is such parts, joined by dashes (LANGTAG of RDF 1.1 N-Quads, without its `@`)
abbrev pub is_language_tag : List ℕ → Bool
is_language_tag text = are_subtags (slice_split is_dash text)
