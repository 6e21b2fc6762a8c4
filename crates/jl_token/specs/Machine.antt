-- The automaton over single bytes, in words of the crate's own: no part of the definition of JSON.
use Rattle.std.specs.Prelude.{ℕ, ◌+◌, Bool, true, false, cond, ◌&&◌, eqb, leb, ltb, List, [], ◌∷◌, ◌++◌, length, Result, Ok, Err, Option, Some, None}
use Rattle.std.specs.List.{list_any}
use Rattle.std.specs.Str.{bytes_eq}
use Rattle.jl_model.specs.declared.codes.Code.{Code}
use Rattle.jl_model.specs.declared.codes.Code.TheVariants.{Syntax, TooDeep, DuplicateKey, Truncated}
use Rattle.jl_model.specs.declared.faults.Fault.{Fault}
use Rattle.jl_model.specs.declared.scalars.Scalar.TheVariants.{Number, Str}
use Rattle.jl_model.specs.declared.tokens.Token.{Token}
use Rattle.jl_model.specs.declared.tokens.Token.TheVariants as tokens
use Rattle.jl_token.specs.declared.kinds.Kind.{Kind}
use Rattle.jl_token.specs.declared.kinds.Kind.TheVariants as kinds
use Rattle.jl_token.specs.declared.opens.Open.{Open}
use Rattle.jl_token.specs.declared.opens.Open.TheVariants as opens
use Rattle.jl_token.specs.declared.readings.Reading.{Reading}
use Rattle.jl_token.specs.declared.readings.Spot.{Spot}
use Rattle.jl_token.specs.declared.readings.Spot.TheVariants as spots
use Rattle.jl_token.specs.declared.strings.InString.{InString}
use Rattle.jl_token.specs.declared.strings.InString.TheVariants.{Plain}
use Rattle.jl_token.specs.declared.numbers.InNumber.{InNumber}
use Rattle.jl_token.specs.declared.numbers.InNumber.TheVariants.{Minus, Zero, Whole}
use Rattle.jl_token.specs.declared.words.InWord.{InWord}
use Rattle.jl_token.specs.declared.words.InWord.TheVariants.{N, T, F}
use Rattle.jl_token.specs.declared.steps.Sign.{Sign}
use Rattle.jl_token.specs.declared.steps.Sign.TheVariants as signs
use Rattle.jl_token.specs.Names.{with_name}
use Rattle.jl_token.specs.NumberMachine.{number_did, is_whole, next_letter, word_next, word_of}
use Rattle.jl_token.specs.StringMachine.{Did, string_did, code_of}
use Rattle.jl_token.specs.StringMachine.Did.{bad, ends, stays}

unfoldable pub kind_of : ℕ → Kind
kind_of c = cond (leb 49 c && leb c 57) kinds.Digit (cond (eqb c 34) kinds.Quote (cond (eqb c 91) kinds.OpenArray (cond (eqb c 93) kinds.CloseArray (cond (eqb c 123) kinds.OpenObject (cond (eqb c 125) kinds.CloseObject (cond (eqb c 44) kinds.Comma (cond (eqb c 58) kinds.Colon (cond (eqb c 32) kinds.Blank (cond (eqb c 9) kinds.Blank (cond (eqb c 10) kinds.Blank (cond (eqb c 13) kinds.Blank (cond (eqb c 45) kinds.Minus (cond (eqb c 48) kinds.Zero (cond (eqb c 110) kinds.LetterN (cond (eqb c 116) kinds.LetterT (cond (eqb c 102) kinds.LetterF kinds.Other))))))))))))))))

-- before the first byte
abbrev pub first : ℕ → Reading
first start = record { at = start; start = start; spot = spots.Value; part = []; within = [] }

-- the tokens that a byte completes and where the text stands after it, or what is wrong
abbrev pub Moved : Type 0
Moved = Result (List Token × Reading) Fault

abbrev pub refuse : Code → ℕ → Moved
refuse code at = Err (record { code = code; at = at })

-- the next byte was read, and the text stands at this spot in these containers
abbrev pub next : Reading → Spot → List Open → Reading
next s spot within = record { at = s.at + 1; start = s.start; spot = spot; part = s.part; within = within }

-- a token begins at this byte
abbrev pub token_begins : Reading → Spot → List ℕ → Reading
token_begins s spot part = record { at = s.at + 1; start = s.at; spot = spot; part = part; within = s.within }

-- the token goes on with this byte
abbrev pub token_on : Reading → Spot → List ℕ → Reading
token_on s spot bytes = record { at = s.at + 1; start = s.start; spot = spot; part = s.part ++ bytes; within = s.within }

abbrev pub opened : ℕ → Reading → Token → Spot → Open → Moved
opened limit s token spot container = cond (ltb (length s.within) limit) (Ok (token ∷ [], next s spot (container ∷ s.within))) (refuse TooDeep s.at)

-- what opens a container
abbrev pub opening : Open → Sign
opening opens.Array = signs.OpenArray
opening (opens.Object names) = signs.OpenObject

abbrev pub opening_token : Open → ℕ → Token
opening_token opens.Array at = tokens.OpenArray at
opening_token (opens.Object names) at = tokens.OpenObject at

-- a number begins
abbrev pub begins_number : Reading → InNumber → ℕ → Moved
begins_number s place c = Ok ([], token_begins s (spots.InNumber place) (c ∷ []))

-- a value begins
abbrev pub value_begins : ℕ → Reading → ℕ → Kind → Moved
value_begins limit s c kinds.Quote = Ok ([], token_begins s (spots.InText Plain) [])
value_begins limit s c kinds.Minus = Ok ([], token_begins s (spots.InNumber Minus) (c ∷ []))
value_begins limit s c kinds.Zero = Ok ([], token_begins s (spots.InNumber Zero) (c ∷ []))
value_begins limit s c kinds.Digit = Ok ([], token_begins s (spots.InNumber Whole) (c ∷ []))
value_begins limit s c kinds.LetterN = Ok ([], token_begins s (spots.InWord N) [])
value_begins limit s c kinds.LetterT = Ok ([], token_begins s (spots.InWord T) [])
value_begins limit s c kinds.LetterF = Ok ([], token_begins s (spots.InWord F) [])
value_begins limit s c kinds.OpenArray = opened limit s (tokens.OpenArray s.at) spots.FirstItem opens.Array
value_begins limit s c kinds.OpenObject = opened limit s (tokens.OpenObject s.at) spots.FirstKey (opens.Object [])
value_begins limit s c _ = refuse Syntax s.at

abbrev pub at_value : ℕ → Reading → ℕ → Kind → Moved
at_value limit s c kinds.Blank = Ok ([], next s spots.Value s.within)
at_value limit s c kind = value_begins limit s c kind

abbrev pub array_closes : Reading → List Open → Moved
array_closes s (opens.Array ∷ below) = Ok (tokens.CloseArray s.at ∷ [], next s spots.After below)
array_closes s _ = refuse Syntax s.at

abbrev pub object_closes : Reading → List Open → Moved
object_closes s (opens.Object had ∷ below) = Ok (tokens.CloseObject s.at ∷ [], next s spots.After below)
object_closes s _ = refuse Syntax s.at

abbrev pub at_first_item : ℕ → Reading → ℕ → Kind → Moved
at_first_item limit s c kinds.Blank = Ok ([], next s spots.FirstItem s.within)
at_first_item limit s c kinds.CloseArray = array_closes s s.within
at_first_item limit s c kind = value_begins limit s c kind

abbrev pub at_first_key : Reading → Kind → Moved
at_first_key s kinds.Blank = Ok ([], next s spots.FirstKey s.within)
at_first_key s kinds.CloseObject = object_closes s s.within
at_first_key s kinds.Quote = Ok ([], token_begins s (spots.InKey Plain) [])
at_first_key s _ = refuse Syntax s.at

abbrev pub at_key : Reading → Kind → Moved
at_key s kinds.Blank = Ok ([], next s spots.Key s.within)
at_key s kinds.Quote = Ok ([], token_begins s (spots.InKey Plain) [])
at_key s _ = refuse Syntax s.at

abbrev pub at_colon : Reading → Kind → Moved
at_colon s kinds.Blank = Ok ([], next s spots.Colon s.within)
at_colon s kinds.Colon = Ok ([], next s spots.Value s.within)
at_colon s _ = refuse Syntax s.at

abbrev pub comma : Reading → List Open → Moved
comma s (opens.Array ∷ below) = Ok ([], next s spots.Value s.within)
comma s (opens.Object had ∷ below) = Ok ([], next s spots.Key s.within)
comma s [] = refuse Syntax s.at

abbrev pub after_value : Reading → Kind → Moved
after_value s kinds.Blank = Ok ([], next s spots.After s.within)
after_value s kinds.CloseArray = array_closes s s.within
after_value s kinds.CloseObject = object_closes s s.within
after_value s kinds.Comma = comma s s.within
after_value s _ = refuse Syntax s.at

-- behind a number that ended before the next byte
abbrev pub ended : Reading → Reading
ended s = record { at = s.at; start = s.start; spot = spots.After; part = s.part; within = s.within }

abbrev pub with_token : Token → Moved → Moved
with_token token (Ok moved) = Ok (token ∷ moved.0, moved.1)
with_token token (Err fault) = Err fault

-- a byte that can't go on with a number
abbrev pub number_ends : Bool → Reading → Kind → Moved
number_ends true s kind = with_token (tokens.Value s.start (Number s.part)) (after_value (ended s) kind)
number_ends false s kind = refuse Syntax s.start

abbrev pub number_goes : Option InNumber → Bool → Reading → ℕ → Kind → Moved
number_goes (Some place) whole s c kind = Ok ([], token_on s (spots.InNumber place) (c ∷ []))
number_goes None whole s c kind = number_ends whole s kind

abbrev pub in_number : InNumber → Reading → ℕ → Kind → Moved
in_number place s c kind = number_goes (number_did place c) (is_whole place) s c kind

abbrev pub word_goes : Option InWord → InWord → Reading → Moved
word_goes (Some w) place s = Ok ([], next s (spots.InWord w) s.within)
word_goes None place s = Ok (tokens.Value s.start (word_of place) ∷ [], next s spots.After s.within)

abbrev pub in_word : InWord → Reading → ℕ → Moved
in_word place s c = cond (eqb c (next_letter place)) (word_goes (word_next place) place s) (refuse Syntax s.start)

abbrev pub text_goes : Did → InString → Reading → ℕ → Moved
text_goes bad place s c = refuse (code_of place c) s.start
text_goes ends place s c = Ok (tokens.Value s.start (Str s.part) ∷ [], next s spots.After s.within)
text_goes (stays bytes to) place s c = Ok ([], token_on s (spots.InText to) bytes)

abbrev pub in_text : InString → Reading → ℕ → Moved
in_text place s c = text_goes (string_did place c) place s c

-- a key ends in an object that has these names
abbrev pub key_ends : Bool → Reading → List Open → Moved
key_ends once s (opens.Object had ∷ below) = cond (once && list_any (bytes_eq s.part) had) (refuse DuplicateKey s.start) (Ok (tokens.Key s.start s.part ∷ [], next s spots.Colon (opens.Object (with_name had s.part) ∷ below)))
key_ends once s _ = refuse Syntax s.start

abbrev pub key_goes : Bool → Did → InString → Reading → ℕ → Moved
key_goes once bad place s c = refuse (code_of place c) s.start
key_goes once ends place s c = key_ends once s s.within
key_goes once (stays bytes to) place s c = Ok ([], token_on s (spots.InKey to) bytes)

abbrev pub in_key : Bool → InString → Reading → ℕ → Moved
in_key once place s c = key_goes once (string_did place c) place s c

-- where a number is being read
abbrev pub number_place : Spot → Option InNumber
number_place (spots.InNumber place) = Some place
number_place _ = None

abbrev pub moved_at : Bool → ℕ → Spot → Reading → ℕ → Moved
moved_at once limit spots.Value s c = at_value limit s c (kind_of c)
moved_at once limit spots.FirstItem s c = at_first_item limit s c (kind_of c)
moved_at once limit spots.FirstKey s c = at_first_key s (kind_of c)
moved_at once limit spots.Key s c = at_key s (kind_of c)
moved_at once limit spots.Colon s c = at_colon s (kind_of c)
moved_at once limit spots.After s c = after_value s (kind_of c)
moved_at once limit (spots.InKey place) s c = in_key once place s c
moved_at once limit (spots.InText place) s c = in_text place s c
moved_at once limit (spots.InNumber place) s c = in_number place s c (kind_of c)
moved_at once limit (spots.InWord place) s c = in_word place s c

unfoldable pub moved : Bool → ℕ → Reading → ℕ → Moved
moved once limit s c = moved_at once limit s.spot s c

-- what is left where the input ends
abbrev pub truncated : Reading → Result (List Token) Fault
truncated s = Err (record { code = Truncated; at = s.at })

abbrev pub ends_in_number : Bool → Reading → Result (List Token) Fault
ends_in_number true s = Ok (tokens.Value s.start (Number s.part) ∷ [])
ends_in_number false s = Err (record { code = Truncated; at = s.at })

abbrev pub ends_at : Spot → List Open → Reading → Result (List Token) Fault
ends_at spots.After [] s = Ok []
ends_at (spots.InNumber place) [] s = ends_in_number (is_whole place) s
ends_at _ _ s = Err (record { code = Truncated; at = s.at })

abbrev pub finished : Reading → Result (List Token) Fault
finished s = ends_at s.spot s.within s
