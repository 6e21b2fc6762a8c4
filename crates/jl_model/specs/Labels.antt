-- Which labels of blank nodes are kept as they are.
use Rattle.std.specs.Prelude.{ℕ, Bool, false, not, ◌&&◌, ◌||◌, ◌==◌, List, [], ◌∷◌}
use Rattle.std.specs.Char.{is_ascii_alphanumeric}
use Rattle.std.specs.List.{list_all}

-- a letter, a digit or `_`
abbrev pub is_word_byte : ℕ → Bool
is_word_byte c = is_ascii_alphanumeric c || c == 95

-- such a byte, `-` or `.`
abbrev pub is_label_byte : ℕ → Bool
is_label_byte c = is_word_byte c || (c == 45 || c == 46)

-- the last byte of a text, whose first byte stands apart
abbrev pub last_byte : ℕ → List ℕ → ℕ
last_byte first [] = first
last_byte first (c ∷ cs) = last_byte c cs

-- the kept form: it begins with a letter, a digit or `_`, goes on with bytes of labels, and doesn't
-- end with a dot (a part of BLANK_NODE_LABEL of RDF 1.1 N-Quads)
abbrev pub is_kept_label : List ℕ → Bool
is_kept_label [] = false
is_kept_label (c ∷ cs) = is_word_byte c && (list_all is_label_byte cs && not (last_byte c cs == 46))
