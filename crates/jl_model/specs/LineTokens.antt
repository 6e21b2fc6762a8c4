-- The tokens of lines of quads, by the bytes that spell them and by what they mean (RDF 1.1 N-Quads, section 4).
-- Characters are code points, which UTF-8 spells.
--   IRIREF               ::= '<' ([^#x00-#x20<>"{}|^`\] | UCHAR)* '>'
--   STRING_LITERAL_QUOTE ::= '"' ([^#x22#x5C#xA#xD] | ECHAR | UCHAR)* '"'
--   UCHAR                ::= '\u' HEX HEX HEX HEX | '\U' HEX HEX HEX HEX HEX HEX HEX HEX
--   ECHAR                ::= '\' [tbnrf"'\]
--   BLANK_NODE_LABEL     ::= '_:' (PN_CHARS_U | [0-9]) ((PN_CHARS | '.')* PN_CHARS)?
--   PN_CHARS_U           ::= PN_CHARS_BASE | '_' | ':'
--   PN_CHARS             ::= PN_CHARS_U | '-' | [0-9] | #x00B7 | [#x0300-#x036F] | [#x203F-#x2040]
--   LANGTAG              ::= '@' [a-zA-Z]+ ('-' [a-zA-Z0-9]+)*
--   EOL                  ::= [#xD#xA]+
use Rattle.std.specs.Prelude.{ℕ, ◌+◌, ◌*◌, Bool, true, false, not, ◌&&◌, ◌||◌, ◌==◌, nat_le, List, [], ◌∷◌, ◌++◌, length, flat_map, Option, Some, None, is_some, unwrap_or, codes, if◌then◌else◌}
use Rattle.std.specs.Char.{is_ascii_alphanumeric}
use Rattle.std.specs.List.{list_all}
use lib.Utf8.{encode, encodes, scalar}
use Rattle.jl_model.specs.Iris.{is_iri_byte, has_iri_form}
use Rattle.jl_model.specs.JsonStrings.{hex_value}
use Rattle.jl_model.specs.Labels.{last_byte}
use Rattle.jl_model.specs.Tags.{is_language_tag}

-- a character of an IRI or of a string, as it is written: itself, or an escape by a letter, by four digits or by eight
pub data Written : Type 0 where
  itself : (c : ℕ) → Written
  letter : (c : ℕ) → Written
  four : (digits : List ℕ) → Written
  eight : (digits : List ℕ) → Written

-- what an escape by a letter means: t b n r f " ' \ (ECHAR)
abbrev pub letter_value : ℕ → Option ℕ
letter_value c =
    if c == 116 then Some 9
    else (if c == 98 then Some 8
    else (if c == 110 then Some 10
    else (if c == 114 then Some 13
    else (if c == 102 then Some 12
    else (if c == 34 || (c == 39 || c == 92) then Some c else None)))))

abbrev pub is_hex_digit : ℕ → Bool
is_hex_digit d = is_some (hex_value d)

-- the number that hexadecimal digits make of the one before them
abbrev pub hex_number : ℕ → List ℕ → ℕ
hex_number before [] = before
hex_number before (d ∷ ds) = hex_number (before * 16 + unwrap_or (hex_value d) 0) ds

-- the character that is meant
abbrev pub character : Written → ℕ
character (itself c) = c
character (letter c) = unwrap_or (letter_value c) 0
character (four digits) = hex_number 0 digits
character (eight digits) = hex_number 0 digits

-- the bytes that spell it
abbrev pub spelling : Written → List ℕ
spelling (itself c) = encode c
spelling (letter c) = codes "\\" ++ c ∷ []
spelling (four digits) = codes "\\u" ++ digits
spelling (eight digits) = codes "\\U" ++ digits

abbrev pub meant_byte : Written → List ℕ
meant_byte w = encode (character w)

-- what characters mean, in UTF-8
abbrev pub meaning : List Written → List ℕ
meaning = flat_map meant_byte

-- this many digits, which make neither a surrogate nor a number above 10FFFF (UCHAR)
abbrev pub is_uchar : ℕ → List ℕ → Bool
is_uchar count digits = (length digits == count) && (list_all is_hex_digit digits && scalar (hex_number 0 digits))

-- a character of IRIREF
abbrev pub is_iri_character : Written → Bool
is_iri_character (itself c) = scalar c && is_iri_byte c
is_iri_character (letter c) = false
is_iri_character (four digits) = is_uchar 4 digits
is_iri_character (eight digits) = is_uchar 8 digits

-- a character of STRING_LITERAL_QUOTE
abbrev pub is_string_character : Written → Bool
is_string_character (itself c) = scalar c && not (c == 34 || (c == 92 || (c == 10 || c == 13)))
is_string_character (letter c) = is_some (letter_value c)
is_string_character (four digits) = is_uchar 4 digits
is_string_character (eight digits) = is_uchar 8 digits

-- a range of code points, by its first and its last one
abbrev pub is_in : List (ℕ × ℕ) → ℕ → Bool
is_in [] c = false
is_in (r ∷ rs) c = (nat_le r.0 c && nat_le c r.1) || is_in rs c

-- PN_CHARS_BASE beyond ASCII: C0-D6, D8-F6, F8-2FF, 370-37D, 37F-1FFF, 200C-200D, 2070-218F, 2C00-2FEF, 3001-D7FF,
-- F900-FDCF, FDF0-FFFD, 10000-EFFFF
abbrev pub base_ranges : List (ℕ × ℕ)
base_ranges =
    (192, 214) ∷ (216, 246) ∷ (248, 767) ∷ (880, 893) ∷ (895, 8191) ∷ (8204, 8205)
    ∷ (8304, 8591) ∷ (11264, 12271) ∷ (12289, 55295) ∷ (63744, 64975) ∷ (65008, 65533) ∷ (65536, 983039) ∷ []

-- what PN_CHARS has beside: B7, 300-36F, 203F-2040
abbrev pub further_ranges : List (ℕ × ℕ)
further_ranges = (183, 183) ∷ (768, 879) ∷ (8255, 8256) ∷ []

-- the first character of a label: PN_CHARS_U or a digit
abbrev pub begins_label : ℕ → Bool
begins_label c = is_ascii_alphanumeric c || (c == 95 || (c == 58 || is_in base_ranges c))

-- a later one: PN_CHARS or a dot
abbrev pub goes_on_label : ℕ → Bool
goes_on_label c = begins_label c || (c == 45 || (c == 46 || is_in further_ranges c))

-- BLANK_NODE_LABEL behind its `_:`, which doesn't end with a dot
abbrev pub is_label : List ℕ → Bool
is_label [] = false
is_label (c ∷ cs) = begins_label c && (list_all goes_on_label cs && not (last_byte c cs == 46))

-- a byte that ends a line (EOL)
abbrev pub is_line_end : ℕ → Bool
is_line_end c = c == 10 || c == 13

abbrev pub is_comment_character : ℕ → Bool
is_comment_character c = scalar c && not (is_line_end c)

-- a token, or a space or tab between tokens
pub data LineToken : Type 0 where
  iri : (characters : List Written) → LineToken
  label : (characters : List ℕ) → LineToken
  string : (characters : List Written) → LineToken
  carets : LineToken
  tag : (text : List ℕ) → LineToken
  dot : LineToken
  comment : (characters : List ℕ) → LineToken
  line_end : (byte : ℕ) → LineToken
  blank : (byte : ℕ) → LineToken

-- the bytes that spell a token
abbrev pub token_bytes : LineToken → List ℕ
token_bytes (iri ws) = codes "<" ++ flat_map spelling ws ++ codes ">"
token_bytes (label cs) = codes "_:" ++ encodes cs
token_bytes (string ws) = codes "\"" ++ flat_map spelling ws ++ codes "\""
token_bytes carets = codes "^^"
token_bytes (tag text) = codes "@" ++ text
token_bytes dot = codes "."
token_bytes (comment cs) = codes "#" ++ encodes cs
token_bytes (line_end c) = c ∷ []
token_bytes (blank c) = c ∷ []

-- the token is one: its characters may stand in it, and an IRI passes the test of IRIs after its escapes
abbrev pub is_token : LineToken → Bool
is_token (iri ws) = list_all is_iri_character ws && has_iri_form (meaning ws)
is_token (label cs) = is_label cs
is_token (string ws) = list_all is_string_character ws
is_token carets = true
is_token (tag text) = is_language_tag text
is_token dot = true
is_token (comment cs) = list_all is_comment_character cs
is_token (line_end c) = is_line_end c
is_token (blank c) = c == 32 || c == 9

-- bytes begin a language tag where a letter behind them makes one of them
abbrev pub begins_tag : List ℕ → Bool
begins_tag text = is_language_tag (text ++ codes "a")

-- the token ends before these bytes: a label not before the `_` of another, which would go on with it, and a tag
-- not before a byte with which it begins a longer one
abbrev pub ends_before : LineToken → List ℕ → Bool
ends_before (label cs) (c ∷ rest) = not (c == 95)
ends_before (tag text) (c ∷ rest) = not (begins_tag (text ++ c ∷ []))
ends_before t rest = true

-- the bytes of tokens in a row
abbrev pub bytes_of : List LineToken → List ℕ
bytes_of = flat_map token_bytes

-- these are tokens, and each ends before what stands behind it
abbrev pub is_row : List LineToken → List ℕ → Bool
is_row [] rest = true
is_row (t ∷ ts) rest = is_token t && (ends_before t (bytes_of ts ++ rest) && is_row ts rest)
