-- Number tokens as lexical forms (JSON-LD 1.1 API, section 8.2.2; XML Schema 1.1 part 2, sections 3.3.5 and 3.4.13).
use Rattle.std.specs.Prelude.{ℕ, ◌+◌, ◌*◌, ◌-◌, Bool, true, false, not, ◌||◌, ◌==◌, nat_le, [], ◌∷◌, ◌++◌, length, reverse, Result, Ok, Err, codes, decimal}
use Rattle.std.specs.List.{list_any}
use Rattle.jl_model.specs.declared.codes.Code.{Code}
use Rattle.jl_model.specs.declared.codes.Code.TheVariants as code
use Rattle.jl_defs.specs.Texts.{Text}

-- a point, `e` or `E`
abbrev pub marks_fraction : ℕ → Bool
marks_fraction c = c == 46 || (c == 101 || c == 69)

-- a number token with neither fraction nor exponent
abbrev pub is_whole : Text → Bool
is_whole token = not (list_any marks_fraction token)

-- the token without its sign
abbrev pub unsigned : Text → Text
unsigned [] = []
unsigned (c ∷ cs) = elim (c == 45) [ true ↦ cs | false ↦ c ∷ cs ]

abbrev pub is_negative : Text → Bool
is_negative [] = false
is_negative (c ∷ cs) = c == 45

abbrev pub number_from : ℕ → Text → ℕ
number_from n [] = n
number_from n (c ∷ cs) = number_from (n * 10 + (c - 48)) cs

-- the size of a whole number
unfoldable pub magnitude : Text → ℕ
magnitude token = number_from 0 (unsigned token)

-- a whole number of at most this size; `-0` is the token `0`
abbrev pub whole_number : ℕ → Text → Result Text Code
whole_number most token =
    elim (is_whole token) [
      | true ↦ elim (nat_le (magnitude token) most) [
        | true ↦ Ok (elim (magnitude token == 0) [ true ↦ codes "0" | false ↦ token ])
        | false ↦ Err code.NumberOutOfRange
      ]
      | false ↦ Err code.NumberNotWhole
    ]

-- the sizes below 10^21 (that larger ones are at fault, as fractions and exponents are, is this project's own rule)
abbrev pub largest_integer : ℕ
largest_integer = 999999999999999999999

-- the whole numbers that a double has exactly
abbrev pub largest_double : ℕ
largest_double = 9007199254740991

abbrev pub is_zero_digit : ℕ → Bool
is_zero_digit c = c == 48

-- digits without the zeros at their end, and one `0` where none is left
abbrev pub without_zeros : Text → Text
without_zeros [] = []
without_zeros (c ∷ cs) = elim (is_zero_digit c) [ true ↦ without_zeros cs | false ↦ c ∷ cs ]

abbrev pub or_zero : Text → Text
or_zero [] = codes "0"
or_zero (c ∷ cs) = c ∷ cs

abbrev pub mantissa : Text → Text
mantissa digits = or_zero (reverse (without_zeros (reverse digits)))

-- the canonical form of a double: the first digit, a point, the others, `E` and the exponent
abbrev pub double_digits : Text → Text
double_digits [] = []
double_digits (c ∷ cs) = c ∷ codes "." ++ mantissa cs ++ codes "E" ++ decimal (length cs)

abbrev pub double_text : Text → Text
double_text token = elim (is_negative token) [ true ↦ codes "-" ++ double_digits (unsigned token) | false ↦ double_digits token ]

-- the text of a number under xsd:double
abbrev pub double_number : Text → Result Text Code
double_number token = doubled (whole_number largest_double token)
  where
    doubled : Result Text Code → Result Text Code
    doubled (Ok text) = Ok (double_text text)
    doubled (Err e) = Err e

-- the text of a number under any other datatype
abbrev pub integer_number : Text → Result Text Code
integer_number token = whole_number largest_integer token

-- the text of a number in a JSON literal
abbrev pub json_number : Text → Result Text Code
json_number token = whole_number largest_double token
