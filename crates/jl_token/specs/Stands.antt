-- What was read, what was given, and where the text stands.
use Rattle.std.specs.Prelude.{◌≡◌, ℕ, ◌+◌, ◌↔◌, Bool, true, false, List, ◌∷◌, ◌++◌, length, suc}
use Rattle.jl_model.specs.declared.tokens.Token.{Token}
use Rattle.jl_model.specs.JsonTree.{Tree}
use Rattle.jl_model.specs.JsonNumbers.{IsNumber}
use Rattle.jl_model.specs.JsonStrings.{Utf8, Quoted}
use Rattle.jl_model.specs.JsonText.{JsonText, depth_limit}
use Rattle.jl_model.specs.TextFaults.{Pieces}
use Rattle.jl_token.specs.declared.readings.Reading.{Reading}
use Rattle.jl_token.specs.declared.readings.Spot.{Spot}
use Rattle.jl_token.specs.declared.readings.Spot.TheVariants as spots
use Rattle.jl_token.specs.declared.strings.InString.{InString}
use Rattle.jl_token.specs.declared.numbers.InNumber.{InNumber}
use Rattle.jl_token.specs.declared.words.InWord.{InWord}
use Rattle.jl_token.specs.NumberMachine.{NumberEnd, letters_read}
use Rattle.jl_token.specs.StringMachine.{EndOf, Utf8Rest}
use Rattle.jl_token.specs.Left.{Left, Formed}

-- behind p, whose tokens were given, just those texts may follow that may follow here
pub record Holds (once : Bool) (limit start : ℕ) (p : List ℕ) (given : List Token) (s : Reading) : Type 0 where
  pub back : (us : List Token) (r : List ℕ) → Left once limit s us r → (tree : Tree) × JsonText once limit tree start (given ++ us) (p ++ r)
  pub only : (tree : Tree) (us : List Token) (r : List ℕ) → JsonText once limit tree start us (p ++ r) → (vs : List Token) × (us ≡ given ++ vs) × Left once limit s vs r

-- ---- where the token that is being read begins

-- a string: its opening quote, and what its bytes say of those that may follow
pub record StringPlaced (start : ℕ) (p : List ℕ) (token : ℕ) (part : List ℕ) (place : InString) : Type 0 where
  pub bare : Bool
  pub front : List ℕ
  pub body : List ℕ
  pub text_is : p ≡ front ++ 34 ∷ body
  pub whole : Pieces bare front
  pub token_is : token ≡ start + length front
  pub reads : (m t : List ℕ) → EndOf place m t → Quoted (part ++ m) (body ++ t)
  pub only : (m t : List ℕ) → Quoted m (body ++ t) → (ms : List ℕ) × EndOf place ms t
  pub utf8 : (t : List ℕ) → Utf8 (body ++ t) ↔ Utf8Rest place t

-- a number: what its bytes say of those that may follow
pub record NumberPlaced (start : ℕ) (p : List ℕ) (token : ℕ) (part : List ℕ) (place : InNumber) : Type 0 where
  pub front : List ℕ
  pub text_is : p ≡ front ++ part
  pub whole : Pieces false front
  pub token_is : token ≡ start + length front
  pub reads : (t : List ℕ) → NumberEnd place t → IsNumber (part ++ t)
  pub only : (t : List ℕ) → IsNumber (part ++ t) → NumberEnd place t

pub record WordPlaced (start : ℕ) (p : List ℕ) (token : ℕ) (place : InWord) : Type 0 where
  pub front : List ℕ
  pub text_is : p ≡ front ++ letters_read place
  pub whole : Pieces false front
  pub token_is : token ≡ start + length front

-- a value may begin only where no number or word stands before
abbrev pub PlacedAt : Spot → ℕ → List ℕ → ℕ → List ℕ → Type 0
PlacedAt (spots.InKey place) start p token part = StringPlaced start p token part place
PlacedAt (spots.InText place) start p token part = StringPlaced start p token part place
PlacedAt (spots.InNumber place) start p token part = NumberPlaced start p token part place
PlacedAt (spots.InWord place) start p token part = WordPlaced start p token place
PlacedAt spots.After start p token part = (bare : Bool) × Pieces bare p
PlacedAt _ start p token part = Pieces false p

-- the bytes p, whose first one has the place `start`, were read, and these tokens were given for them
pub record IsAt (start : ℕ) (p : List ℕ) (given : List Token) (s : Reading) : Type 0 where
  pub formed : Formed depth_limit s
  pub at_is : s.at ≡ start + length p
  pub placed : PlacedAt s.spot start p s.start s.part
  pub strict : Holds true depth_limit start p given s
  pub deeper : Holds true (suc depth_limit) start p given s
  pub repeated : Holds false depth_limit start p given s
