-- What the calls of a lexer promise.
use Rattle.std.specs.Prelude.{◌≡◌, ◌⊎◌, ℕ, ◌+◌, ◌-◌, ◌≤◌, ◌^◌, Bool, true, false, List, [], ◌∷◌, ◌++◌, length, sum_by, Option, Some, None}
use Rattle.std.specs.Option.{option_to_list}
use Rattle.jl_model.specs.declared.codes.Code.TheVariants.{TooLong}
use Rattle.jl_model.specs.declared.faults.Fault.{Fault}
use Rattle.jl_model.specs.declared.scalars.Scalar.{Scalar}
use Rattle.jl_model.specs.declared.scalars.Scalar.TheVariants as scalars
use Rattle.jl_model.specs.declared.tokens.Token.{Token}
use Rattle.jl_model.specs.declared.tokens.Token.TheVariants as tokens
use Rattle.jl_model.specs.JsonTree.{Tree}
use Rattle.jl_model.specs.JsonText.{Begins, Reads}
use Rattle.jl_model.specs.TextFaults.{IsRow, Breaks, IsTruncated}
use Rattle.jl_token.specs.declared.readings.Reading.{Reading}
use Rattle.jl_token.specs.declared.readings.Spot.{Spot}
use Rattle.jl_token.specs.declared.readings.Spot.TheVariants as spots
use Rattle.jl_token.specs.declared.states.LexState.{LexState}
use Rattle.jl_token.specs.declared.steps.LexStop.{LexStop}
use Rattle.jl_token.specs.declared.steps.LexStop.TheVariants.{Refused, NoMemory}
use Rattle.jl_token.specs.declared.steps.Sign.{Sign}
use Rattle.jl_token.specs.declared.steps.Sign.TheVariants as signs
use Rattle.jl_token.specs.declared.steps.Signs.{Signs}
use Rattle.jl_token.specs.declared.steps.Step.{Step}
use Rattle.jl_token.specs.OpenLists.{open_names_len}
use Rattle.jl_token.specs.Left.{FormedAt}
use Rattle.jl_token.specs.Stands.{IsAt}

-- the place at which no byte may stand
abbrev pub end_of_places : ℕ
end_of_places = 2 ^ 40

-- the bytes p, whose first one has the place `start`, were read, these tokens were given for them,
-- and the lexer goes on
pub record Stands (start : ℕ) (p : List ℕ) (given : List Token) (s : LexState) : Type 0 where
  pub reading : IsAt start p given s.reading
  pub goes_on : s.stopped ≡ None

-- the bytes begin a readable text, and these tokens are the first ones of each text that begins so
pub record IsFront (start : ℕ) (p : List ℕ) (given : List Token) : Type 0 where
  pub begins : Begins start p
  pub first : (r : List ℕ) (tree : Tree) (tokens : List Token) → Reads start (p ++ r) tree tokens → (more : List Token) × (tokens ≡ given ++ more)

-- the rule of form of a lexer that goes on: at most 256 containers, the innermost of the kind that
-- the spot asks for, numbers of the form inside a string, and no place beyond 2^40
pub record IsFormedReading (s : Reading) : Type 0 where
  pub depth : length s.within ≤ 256
  pub spot : FormedAt s.spot s.within
  pub place : s.at ≤ end_of_places

-- a lexer that has stopped only answers its error
abbrev pub IsFormedBy : Option LexStop → Reading → Type 0
IsFormedBy None s = IsFormedReading s
IsFormedBy (Some stop) s = Unit {0}

abbrev pub IsFormed : LexState → Type 0
IsFormed s = IsFormedBy s.stopped s.reading

-- ---- what one byte gave

-- a sign whose token has no text
abbrev pub HasNoText : Sign → Type 0
HasNoText signs.Key = ⊥
HasNoText signs.Text = ⊥
HasNoText _ = Unit {0}

-- at most one of the tokens has a text
abbrev pub HasOneText : Bool → Sign → Type 0
HasOneText true sign = HasNoText sign
HasOneText false sign = Unit {0}

-- the tokens of a step, in their order
abbrev pub tokens_of : Step → List Token
tokens_of step = option_to_list step.first ++ option_to_list step.second

-- the token of a sign of the byte at this place: a bracket or brace has that place, and a token with
-- a text has the text and the place of the token read last
abbrev pub token_of : Sign → ℕ → Reading → List Token
token_of signs.Nothing at s = []
token_of signs.OpenObject at s = tokens.OpenObject at ∷ []
token_of signs.CloseObject at s = tokens.CloseObject at ∷ []
token_of signs.OpenArray at s = tokens.OpenArray at ∷ []
token_of signs.CloseArray at s = tokens.CloseArray at ∷ []
token_of signs.Key at s = tokens.Key s.start s.part ∷ []
token_of signs.Text at s = tokens.Value s.start (scalars.Str s.part) ∷ []
token_of signs.Null at s = tokens.Value s.start scalars.Null ∷ []
token_of signs.True at s = tokens.Value s.start (scalars.Bool true) ∷ []
token_of signs.False at s = tokens.Value s.start (scalars.Bool false) ∷ []

abbrev pub number_of : Bool → Reading → List Token
number_of true s = tokens.Value s.start (scalars.Number s.part) ∷ []
number_of false s = []

abbrev pub told : Signs → ℕ → Reading → List Token
told signs at s = number_of signs.number s ++ token_of signs.sign at s

-- ---- the calls

-- a byte is refused: at place 2^40 whatever it is, and else where the text stops being readable
pub record Refuses (start : ℕ) (p : List ℕ) (byte : ℕ) (fault : Fault) : Type 0 where
  pub too_long : start + length p ≡ end_of_places → fault ≡ record { code = TooLong; at = end_of_places }
  pub breaks : (start + length p ≡ end_of_places → ⊥) → Breaks start p byte fault

abbrev pub StopsAt : ℕ → List ℕ → ℕ → LexStop → Type 0
StopsAt start p byte (Refused fault) = Refuses start p byte fault
StopsAt start p byte NoMemory = Unit {0}

-- the end is refused; it takes no memory
abbrev pub StopsAtEnd : ℕ → List ℕ → LexStop → Type 0
StopsAtEnd start p (Refused fault) = IsTruncated start p fault
StopsAtEnd start p NoMemory = ⊥

-- the lexer takes a byte, and these tokens are given for it
abbrev pub Takes : LexState → LexState → ℕ → List Token → Type 0
Takes old new byte tokens = (start : ℕ) (p : List ℕ) (given : List Token) → Stands start p given old → Stands start (p ++ byte ∷ []) (given ++ tokens) new

-- the tokens given for a byte, if there are any, end with it: behind it stands a row of whole tokens and blanks
abbrev pub AreWhole : LexState → ℕ → List Token → Type 0
AreWhole old byte tokens = (start : ℕ) (p : List ℕ) (given : List Token) → Stands start p given old → (tokens ≡ []) ⊎ IsRow (p ++ byte ∷ [])

-- the lexer stops at a byte
abbrev pub Stops : LexState → ℕ → LexStop → Type 0
Stops old byte stop = (start : ℕ) (p : List ℕ) (given : List Token) → Stands start p given old → StopsAt start p byte stop

-- the text ends, and with this token it is read
abbrev pub Ends : LexState → Option Token → Type 0
Ends old token = (start : ℕ) (p : List ℕ) (given : List Token) → Stands start p given old → (tree : Tree) × Reads start p tree (given ++ option_to_list token)

abbrev pub StopsEnd : LexState → LexStop → Type 0
StopsEnd old stop = (start : ℕ) (p : List ℕ) (given : List Token) → Stands start p given old → StopsAtEnd start p stop

-- a number as a value
abbrev pub IsNumberScalar : Scalar → Type 0
IsNumberScalar (scalars.Number digits) = Unit {0}
IsNumberScalar _ = ⊥

abbrev pub IsNumberToken : Token → Type 0
IsNumberToken (tokens.Value at scalar) = IsNumberScalar scalar
IsNumberToken _ = ⊥

-- ---- the weight of what is open

-- the bytes read of the token that is being read
abbrev pub token_len : Spot → Reading → ℕ
token_len (spots.InKey place) s = s.at - s.start
token_len (spots.InText place) s = s.at - s.start
token_len (spots.InNumber place) s = s.at - s.start
token_len (spots.InWord place) s = s.at - s.start
token_len _ s = 0

-- with the names of the open objects' keys
abbrev pub open_len : Reading → ℕ
open_len s = token_len s.spot s + sum_by open_names_len s.within
