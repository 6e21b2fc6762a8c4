-- The automata in a number and in a word, in words of the crate's own: no part of the definition of JSON.
use Rattle.std.specs.Prelude.{ℕ, Bool, true, false, cond, ◌&&◌, leb, eqb, List, [], ◌∷◌, Option, Some, None}
use Rattle.jl_model.specs.declared.scalars.Scalar.{Scalar}
use Rattle.jl_model.specs.declared.scalars.Scalar.TheVariants as scalars
use Rattle.jl_model.specs.JsonNumbers.{Joined, Digits, SomeDigits, Whole, Fraction, Signed, Exponent}
use Rattle.jl_token.specs.declared.numbers.InNumber.{InNumber}
use Rattle.jl_token.specs.declared.numbers.InNumber.TheVariants as at
use Rattle.jl_token.specs.declared.words.InWord.{InWord}
use Rattle.jl_token.specs.declared.words.InWord.TheVariants as letters

abbrev pub is_digit : ℕ → Bool
is_digit c = leb 48 c && leb c 57

abbrev pub exponent_did : ℕ → Option InNumber
exponent_did c = cond (eqb c 101) (Some at.Letter) (cond (eqb c 69) (Some at.Letter) None)

abbrev pub fraction_did : ℕ → Option InNumber
fraction_did c = cond (eqb c 46) (Some at.Point) (exponent_did c)

-- a digit, and nothing else
abbrev pub if_digit : ℕ → InNumber → Option InNumber
if_digit c place = cond (is_digit c) (Some place) None

-- where a number stands after a byte that goes on with it
abbrev pub number_did : InNumber → ℕ → Option InNumber
number_did at.Minus c = cond (eqb c 48) (Some at.Zero) (cond (is_digit c) (Some at.Whole) None)
number_did at.Zero c = fraction_did c
number_did at.Whole c = cond (is_digit c) (Some at.Whole) (fraction_did c)
number_did at.Point c = cond (is_digit c) (Some at.Fraction) None
number_did at.Fraction c = cond (is_digit c) (Some at.Fraction) (exponent_did c)
number_did at.Letter c = cond (is_digit c) (Some at.Exponent) (cond (eqb c 43) (Some at.Sign) (cond (eqb c 45) (Some at.Sign) None))
number_did at.Sign c = cond (is_digit c) (Some at.Exponent) None
number_did at.Exponent c = cond (is_digit c) (Some at.Exponent) None

-- whether a number is whole there
abbrev pub is_whole : InNumber → Bool
is_whole at.Zero = true
is_whole at.Whole = true
is_whole at.Fraction = true
is_whole at.Exponent = true
is_whole _ = false

-- what may follow in a number
abbrev pub NumberEnd : InNumber → List ℕ → Type 0
NumberEnd at.Minus = Joined Whole (Joined Fraction Exponent)
NumberEnd at.Zero = Joined Fraction Exponent
NumberEnd at.Whole = Joined Digits (Joined Fraction Exponent)
NumberEnd at.Point = Joined SomeDigits Exponent
NumberEnd at.Fraction = Joined Digits Exponent
NumberEnd at.Letter = Signed
NumberEnd at.Sign = SomeDigits
NumberEnd at.Exponent = Digits

-- ---- words

-- the letters read and those to come
abbrev pub letters_read : InWord → List ℕ
letters_read letters.N = 110 ∷ []
letters_read letters.Nu = 110 ∷ 117 ∷ []
letters_read letters.Nul = 110 ∷ 117 ∷ 108 ∷ []
letters_read letters.T = 116 ∷ []
letters_read letters.Tr = 116 ∷ 114 ∷ []
letters_read letters.Tru = 116 ∷ 114 ∷ 117 ∷ []
letters_read letters.F = 102 ∷ []
letters_read letters.Fa = 102 ∷ 97 ∷ []
letters_read letters.Fal = 102 ∷ 97 ∷ 108 ∷ []
letters_read letters.Fals = 102 ∷ 97 ∷ 108 ∷ 115 ∷ []

abbrev pub next_letter : InWord → ℕ
next_letter letters.N = 117
next_letter letters.Nu = 108
next_letter letters.Nul = 108
next_letter letters.T = 114
next_letter letters.Tr = 117
next_letter letters.Tru = 101
next_letter letters.F = 97
next_letter letters.Fa = 108
next_letter letters.Fal = 115
next_letter letters.Fals = 101

abbrev pub later_letters : InWord → List ℕ
later_letters letters.N = 108 ∷ 108 ∷ []
later_letters letters.Nu = 108 ∷ []
later_letters letters.Nul = []
later_letters letters.T = 117 ∷ 101 ∷ []
later_letters letters.Tr = 101 ∷ []
later_letters letters.Tru = []
later_letters letters.F = 108 ∷ 115 ∷ 101 ∷ []
later_letters letters.Fa = 115 ∷ 101 ∷ []
later_letters letters.Fal = 101 ∷ []
later_letters letters.Fals = []

-- where the word stands after its next letter; nothing where it is whole then
abbrev pub word_next : InWord → Option InWord
word_next letters.N = Some letters.Nu
word_next letters.Nu = Some letters.Nul
word_next letters.Nul = None
word_next letters.T = Some letters.Tr
word_next letters.Tr = Some letters.Tru
word_next letters.Tru = None
word_next letters.F = Some letters.Fa
word_next letters.Fa = Some letters.Fal
word_next letters.Fal = Some letters.Fals
word_next letters.Fals = None

abbrev pub word_of : InWord → Scalar
word_of letters.N = scalars.Null
word_of letters.Nu = scalars.Null
word_of letters.Nul = scalars.Null
word_of letters.T = scalars.Bool true
word_of letters.Tr = scalars.Bool true
word_of letters.Tru = scalars.Bool true
word_of _ = scalars.Bool false
