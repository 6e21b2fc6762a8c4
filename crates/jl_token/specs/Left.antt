-- What may follow where a text stands: the rest of the grammar, and the rule of form.
use Rattle.std.specs.Prelude.{◌≡◌, ℕ, ◌+◌, ◌≤◌, ◌⊎◌, Bool, List, [], ◌∷◌, ◌++◌, length, suc}
use Rattle.jl_model.specs.declared.scalars.Scalar.TheVariants.{Number, Str}
use Rattle.jl_model.specs.declared.tokens.Token.{Token}
use Rattle.jl_model.specs.declared.tokens.Token.TheVariants as tokens
use Rattle.jl_model.specs.JsonTree.{Tree, Trees, Members}
use Rattle.jl_model.specs.JsonText.{Then, Blanks, Colon, EndArray, EndObject, IsNew, ValueText, MoreItems, MoreMembers, KeyText}
use Rattle.jl_token.specs.declared.opens.Open.{Open}
use Rattle.jl_token.specs.declared.opens.Open.TheVariants as opens
use Rattle.jl_token.specs.declared.readings.Reading.{Reading}
use Rattle.jl_token.specs.declared.readings.Spot.{Spot}
use Rattle.jl_token.specs.declared.readings.Spot.TheVariants as spots
use Rattle.jl_token.specs.declared.strings.InString.{InString}
use Rattle.jl_token.specs.declared.numbers.InNumber.{InNumber}
use Rattle.jl_token.specs.declared.words.InWord.{InWord}
use Rattle.jl_token.specs.OpenLists.{IsInArray, IsInObject}
use Rattle.jl_token.specs.NumberMachine.{NumberEnd, next_letter, later_letters, word_of}
use Rattle.jl_token.specs.StringMachine.{EndOf, InFormed}

abbrev pub SomeValue : Bool → ℕ → ℕ → List Token → List ℕ → Type 0
SomeValue once room at us t = (v : Tree) × ValueText once room v at us t

abbrev pub SomeMoreItems : Bool → ℕ → ℕ → List Token → List ℕ → Type 0
SomeMoreItems once room at us t = (vs : Trees) × MoreItems once room vs at us t

abbrev pub SomeMoreMembers : Bool → ℕ → List (List ℕ) → ℕ → List Token → List ℕ → Type 0
SomeMoreMembers once room had at us t = (ms : Members) × MoreMembers once room had ms at us t

abbrev pub Or : (one other : ℕ → List Token → List ℕ → Type 0) → ℕ → List Token → List ℕ → Type 0
Or one other at us t = one at us t ⊎ other at us t

-- what may stand behind a value inside these containers
abbrev pub Rest : Bool → ℕ → List Open → ℕ → List Token → List ℕ → Type 0
Rest once room [] = Blanks
Rest once room (opens.Array ∷ below) = Then (SomeMoreItems once room) (Rest once (suc room) below)
Rest once room (opens.Object had ∷ below) = Then (SomeMoreMembers once room had) (Rest once (suc room) below)

-- a value, and what follows
abbrev pub ValueRest : Bool → ℕ → List Open → ℕ → List Token → List ℕ → Type 0
ValueRest once room within = Then Blanks (Then (SomeValue once room) (Rest once room within))

-- a colon, and what follows
abbrev pub ColonRest : Bool → ℕ → List Open → ℕ → List Token → List ℕ → Type 0
ColonRest once room within = Then Blanks (Then Colon (ValueRest once room within))

-- a key, and what follows
abbrev pub KeyRest : Bool → ℕ → List (List ℕ) → List Open → ℕ → List Token → List ℕ → Type 0
KeyRest once room had below at us t = (place : ℕ) × (name : List ℕ) × Then (KeyText once had place name) (ColonRest once room (opens.Object (name ∷ had) ∷ below)) at us t

-- ---- the ends of the tokens that are being read

pub record TextEnd (start : ℕ) (part : List ℕ) (place : InString) (at : ℕ) (us : List Token) (t : List ℕ) : Type 0 where
  pub meant : List ℕ
  pub ends : EndOf place meant t
  pub tokens_are : us ≡ tokens.Value start (Str (part ++ meant)) ∷ []

pub record KeyEnd (once : Bool) (had : List (List ℕ)) (start : ℕ) (part : List ℕ) (place : InString) (name : List ℕ) (at : ℕ) (us : List Token) (t : List ℕ) : Type 0 where
  pub meant : List ℕ
  pub ends : EndOf place meant t
  pub name_is : name ≡ part ++ meant
  pub tokens_are : us ≡ tokens.Key start name ∷ []
  pub is_new : IsNew once had name

pub record NumeralEnd (start : ℕ) (part : List ℕ) (place : InNumber) (at : ℕ) (us : List Token) (t : List ℕ) : Type 0 where
  pub ends : NumberEnd place t
  pub tokens_are : us ≡ tokens.Value start (Number (part ++ t)) ∷ []

pub record WordEnd (start : ℕ) (place : InWord) (at : ℕ) (us : List Token) (t : List ℕ) : Type 0 where
  pub text_is : t ≡ next_letter place ∷ later_letters place
  pub tokens_are : us ≡ tokens.Value start (word_of place) ∷ []

-- ---- spot by spot

abbrev pub FirstItemRest : Bool → ℕ → List Open → ℕ → List Token → List ℕ → Type 0
FirstItemRest once room below = Then Blanks (Or (Then EndArray (Rest once (suc room) below)) (Then (SomeValue once room) (Rest once room (opens.Array ∷ below))))

abbrev pub FirstKeyRest : Bool → ℕ → List (List ℕ) → List Open → ℕ → List Token → List ℕ → Type 0
FirstKeyRest once room had below = Then Blanks (Or (Then EndObject (Rest once (suc room) below)) (KeyRest once room had below))

abbrev pub AtFirstItem : Bool → ℕ → List Open → ℕ → List Token → List ℕ → Type 0
AtFirstItem once room (opens.Array ∷ below) at us t = FirstItemRest once room below at us t
AtFirstItem once room _ at us t = ⊥

abbrev pub AtFirstKey : Bool → ℕ → List Open → ℕ → List Token → List ℕ → Type 0
AtFirstKey once room (opens.Object had ∷ below) at us t = FirstKeyRest once room had below at us t
AtFirstKey once room _ at us t = ⊥

abbrev pub AtKey : Bool → ℕ → List Open → ℕ → List Token → List ℕ → Type 0
AtKey once room (opens.Object had ∷ below) at us t = Then Blanks (KeyRest once room had below) at us t
AtKey once room _ at us t = ⊥

abbrev pub AtInKey : Bool → ℕ → ℕ → List ℕ → InString → List Open → ℕ → List Token → List ℕ → Type 0
AtInKey once room start part place (opens.Object had ∷ below) at us t = (name : List ℕ) × Then (KeyEnd once had start part place name) (ColonRest once room (opens.Object (name ∷ had) ∷ below)) at us t
AtInKey once room start part place _ at us t = ⊥

abbrev pub LeftAt : Bool → ℕ → Spot → ℕ → List ℕ → List Open → ℕ → List Token → List ℕ → Type 0
LeftAt once room spots.Value start part within = ValueRest once room within
LeftAt once room spots.FirstItem start part within = AtFirstItem once room within
LeftAt once room spots.FirstKey start part within = AtFirstKey once room within
LeftAt once room spots.Key start part within = AtKey once room within
LeftAt once room spots.Colon start part within = ColonRest once room within
LeftAt once room spots.After start part within = Rest once room within
LeftAt once room (spots.InKey place) start part within = AtInKey once room start part place within
LeftAt once room (spots.InText place) start part within = Then (TextEnd start part place) (Rest once room within)
LeftAt once room (spots.InNumber place) start part within = Then (NumeralEnd start part place) (Rest once room within)
LeftAt once room (spots.InWord place) start part within = Then (WordEnd start place) (Rest once room within)

-- the text may follow where this one stands, and these are its tokens
pub record Left (once : Bool) (limit : ℕ) (s : Reading) (us : List Token) (t : List ℕ) : Type 0 where
  pub room : ℕ
  pub room_is : room + length s.within ≡ limit
  pub rest : LeftAt once room s.spot s.start s.part s.within s.at us t

-- ---- the rule of form: the innermost container is of the kind that the spot asks for
abbrev pub FormedAt : Spot → List Open → Type 0
FormedAt spots.FirstItem within = IsInArray within
FormedAt spots.FirstKey within = IsInObject within
FormedAt spots.Key within = IsInObject within
FormedAt (spots.InKey place) within = IsInObject within × InFormed place
FormedAt (spots.InText place) within = InFormed place
FormedAt _ within = Unit {0}

pub record Formed (limit : ℕ) (s : Reading) : Type 0 where
  pub depth : length s.within ≤ limit
  pub spot : FormedAt s.spot s.within
