-- Which texts are IRIs: a test of the form of RFC 3987's absolute IRIs, not their whole grammar.
use Rattle.std.specs.Prelude.{ℕ, Bool, false, not, ◌&&◌, ◌||◌, ◌==◌, nat_lt, ◌+◌, List, [], ◌∷◌, take, drop, Option, Some, None, position, IsTrue, IsUtf8}
use Rattle.std.specs.Char.{is_ascii_alphabetic, is_ascii_alphanumeric}
use Rattle.std.specs.List.{list_all}

-- a letter, a digit, `+`, `-` or `.` (RFC 3986, 3.1)
abbrev pub is_scheme_byte : ℕ → Bool
is_scheme_byte c = is_ascii_alphanumeric c || (c == 43 || (c == 45 || c == 46))

-- a letter, and then bytes of a scheme (RFC 3986, 3.1)
abbrev pub is_scheme : List ℕ → Bool
is_scheme [] = false
is_scheme (c ∷ cs) = is_ascii_alphabetic c && list_all is_scheme_byte cs

-- a byte above the space that is none of < > " { } | ^ backslash and backquote
abbrev pub is_iri_byte : ℕ → Bool
is_iri_byte c = nat_lt 32 c && not (c == 60 || (c == 62 || (c == 34 || (c == 123 || (c == 125 || (c == 124 || (c == 94 || (c == 92 || c == 96))))))))

abbrev pub is_colon : ℕ → Bool
is_colon c = c == 58

-- a scheme stands before the colon at this place, if there is one, and bytes that an IRI may have stand behind it
abbrev pub has_form_at : List ℕ → Option ℕ → Bool
has_form_at text None = false
has_form_at text (Some colon) = is_scheme (take colon text) && list_all is_iri_byte (drop (colon + 1) text)

-- a scheme, the first colon, and bytes that an IRI may have
abbrev pub has_iri_form : List ℕ → Bool
has_iri_form text = has_form_at text (position is_colon text)

-- the text is an IRI
pub record IsIri (text : List ℕ) : Type 0 where
  pub utf8 : IsUtf8 text
  pub form : IsTrue (has_iri_form text)
