-- Texts as lists of bytes, and the tests that the definitions ask of them.
use Rattle.std.specs.Prelude.{ℕ, Bool, true, false, ◌&&◌, ◌||◌, ◌==◌, nat_lt, List, [], ◌∷◌, codes, bytes_eq}
use Rattle.std.specs.List.{list_all}
use Rattle.std.specs.Char.{is_ascii_alphabetic}
use Rattle.std.specs.Str.{is_utf8}
use Rattle.jl_model.specs.Iris.{has_iri_form}

abbrev pub Text : Type 0
Text = List ℕ

-- the text stands in the list
abbrev pub is_among : List Text → Text → Bool
is_among [] text = false
is_among (x ∷ xs) text = bytes_eq x text || is_among xs text

-- texts in the order of their bytes
abbrev pub is_before : Text → Text → Bool
is_before [] [] = false
is_before [] (d ∷ ds) = true
is_before (c ∷ cs) [] = false
is_before (c ∷ cs) (d ∷ ds) = nat_lt c d || (c == d && is_before cs ds)

-- the text is an IRI
abbrev pub is_iri : Text → Bool
is_iri text = has_iri_form text && is_utf8 text

-- `_:` and at least one byte
abbrev pub is_blank : Text → Bool
is_blank [] = false
is_blank (c ∷ []) = false
is_blank (c ∷ d ∷ []) = false
is_blank (c ∷ d ∷ e ∷ es) = c == 95 && d == 58

abbrev pub is_colon : ℕ → Bool
is_colon c = c == 58

abbrev pub is_slash : ℕ → Bool
is_slash c = c == 47

-- `@` and one or more ASCII letters
abbrev pub has_keyword_form : Text → Bool
has_keyword_form [] = false
has_keyword_form (c ∷ []) = false
has_keyword_form (c ∷ d ∷ ds) = c == 64 && (is_ascii_alphabetic d && list_all is_ascii_alphabetic ds)

-- the keywords (JSON-LD 1.1, section 1.7)
abbrev pub keywords : List Text
keywords =
    codes "@base" ∷ codes "@container" ∷ codes "@context" ∷ codes "@direction" ∷ codes "@graph" ∷ codes "@id"
    ∷ codes "@import" ∷ codes "@included" ∷ codes "@index" ∷ codes "@json" ∷ codes "@language" ∷ codes "@list"
    ∷ codes "@nest" ∷ codes "@none" ∷ codes "@prefix" ∷ codes "@propagate" ∷ codes "@protected" ∷ codes "@reverse"
    ∷ codes "@set" ∷ codes "@type" ∷ codes "@value" ∷ codes "@version" ∷ codes "@vocab" ∷ []

unfoldable pub is_keyword : Text → Bool
is_keyword text = has_keyword_form text && is_among keywords text
