-- Escapes as they are read. Only private clauses cite this.
use Rattle.std.specs.Prelude.{◌≡◌, ℕ, Bool, false, ◌&&◌, ◌==◌, nat_le, nat_lt, List, [], ◌∷◌, ◌++◌, length, take, Option, Some, None, is_some, if◌then◌else◌, IsTrue}
use lib.Utf8.{scalar}
use Rattle.std.specs.List.{list_all}
use Rattle.jl_model.specs.LineTokens.{Written, itself, letter, four, eight, spelling, character, letter_value, is_uchar, is_hex_digit, hex_number}
use Rattle.jl_nquads.specs.declared.escaped.Escape.{Escape}

-- the code point that digits make behind the number before them
abbrev pub code_value : ℕ → List ℕ → Option ℕ
code_value before ds = if list_all is_hex_digit ds && nat_le (hex_number before ds) 1114111 then Some (hex_number before ds) else None

-- an escape by digits, or by a letter where there are such
abbrev pub is_escape : Bool → Written → Bool
is_escape letters (itself c) = false
is_escape letters (letter c) = letters && is_some (letter_value c)
is_escape letters (four ds) = is_uchar 4 ds
is_escape letters (eight ds) = is_uchar 8 ds

-- the escape stands at the front of the text
pub record StandsFirst (letters : Bool) (text : List ℕ) (escape : Escape) : Type 0 where
  pub written : Written
  pub back : List ℕ
  pub text_is : text ≡ spelling written ++ back
  pub fits : IsTrue (is_escape letters written)
  pub len_is : escape.len ≡ length (spelling written)
  pub code_is : escape.code ≡ character written

-- no escape stands at the front of the text, or this one
abbrev pub EscapeAt : Bool → List ℕ → Option Escape → Type 0
EscapeAt letters text None = (w : Written) (back : List ℕ) → IsTrue (is_escape letters w) → text ≡ spelling w ++ back → ⊥
EscapeAt letters text (Some escape) = StandsFirst letters text escape

-- ---- by computing

-- the character that this many digits at the front make
abbrev pub scalar_or_none : Option ℕ → Option ℕ
scalar_or_none None = None
scalar_or_none (Some v) = if scalar v then Some v else None

abbrev pub digits_value : ℕ → List ℕ → Option ℕ
digits_value count t = if nat_lt (length t) count then None else scalar_or_none (code_value 0 (take count t))

-- an escape of this many bytes
abbrev pub with_len : ℕ → Option ℕ → Option Escape
with_len len None = None
with_len len (Some v) = Some (record { code = v; len = len })

-- the escape behind a backslash, by the byte behind it
abbrev pub escape_by : Bool → ℕ → List ℕ → Option Escape
escape_by letters c t =
    if c == 117 then with_len 6 (digits_value 4 t)
    else (if c == 85 then with_len 10 (digits_value 8 t)
    else (if letters then with_len 2 (letter_value c) else None))

-- the escape at the front
abbrev pub escape_first : Bool → List ℕ → Option Escape
escape_first letters [] = None
escape_first letters (b ∷ []) = None
escape_first letters (b ∷ c ∷ t) = if b == 92 then escape_by letters c t else None
