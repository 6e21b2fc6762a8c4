-- The grammar of JSON texts (RFC 8259, sections 2 to 5), with places and tokens.
-- A language says which texts may stand at a place, and which tokens each of them has there.
use Rattle.std.specs.Prelude.{◌≡◌, ℕ, ◌+◌, ◌⊎◌, Bool, true, false, List, [], ◌∷◌, ◌++◌, length, suc, codes}
use Rattle.std.specs.List.{AllByRecursion}
use Rattle.jl_model.specs.declared.scalars.Scalar.{Scalar}
use Rattle.jl_model.specs.declared.scalars.Scalar.TheVariants as scalars
use Rattle.jl_model.specs.declared.tokens.Token.{Token}
use Rattle.jl_model.specs.declared.tokens.Token.TheVariants.{OpenObject, CloseObject, OpenArray, CloseArray, Key, Value}
use Rattle.jl_model.specs.JsonTree.{Tree, Trees, Members}
use Rattle.jl_model.specs.JsonTree.Tree.{scalar, array, object}
use Rattle.jl_model.specs.JsonTree.Trees.{no_item, item}
use Rattle.jl_model.specs.JsonTree.Members.{no_member, member}
use Rattle.jl_model.specs.JsonNumbers.{IsNumber}
use Rattle.jl_model.specs.JsonStrings.{IsString}

-- first a text of one language, and then one of another
pub record Then (first second : ℕ → List Token → List ℕ → Type 0) (at : ℕ) (tokens : List Token) (text : List ℕ) : Type 0 where
  pub front_tokens : List Token
  pub back_tokens : List Token
  pub front : List ℕ
  pub back : List ℕ
  pub tokens_are : tokens ≡ front_tokens ++ back_tokens
  pub text_is : text ≡ front ++ back
  pub in_first : first at front_tokens front
  pub in_second : second (at + length front) back_tokens back

-- one byte, with its tokens
pub record Sign (byte : ℕ) (made : ℕ → List Token) (at : ℕ) (tokens : List Token) (text : List ℕ) : Type 0 where
  pub tokens_are : tokens ≡ made at
  pub text_is : text ≡ byte ∷ []

-- section 2: the structural characters; a comma and a colon have no token
abbrev pub BeginArray : ℕ → List Token → List ℕ → Type 0
BeginArray = Sign 91 (λ at. OpenArray at ∷ [])

abbrev pub EndArray : ℕ → List Token → List ℕ → Type 0
EndArray = Sign 93 (λ at. CloseArray at ∷ [])

abbrev pub BeginObject : ℕ → List Token → List ℕ → Type 0
BeginObject = Sign 123 (λ at. OpenObject at ∷ [])

abbrev pub EndObject : ℕ → List Token → List ℕ → Type 0
EndObject = Sign 125 (λ at. CloseObject at ∷ [])

abbrev pub Comma : ℕ → List Token → List ℕ → Type 0
Comma = Sign 44 (λ _. [])

abbrev pub Colon : ℕ → List Token → List ℕ → Type 0
Colon = Sign 58 (λ _. [])

-- section 2: white space
abbrev pub IsBlank : ℕ → Type 0
IsBlank c = (c ≡ 32) ⊎ (c ≡ 9) ⊎ (c ≡ 10) ⊎ (c ≡ 13)

pub record Blanks (at : ℕ) (tokens : List Token) (text : List ℕ) : Type 0 where
  pub tokens_are : tokens ≡ []
  pub blank : AllByRecursion IsBlank text

-- section 3: the values that hold no other
abbrev pub IsScalar : Scalar → List ℕ → Type 0
IsScalar scalars.Null text = text ≡ codes "null"
IsScalar (scalars.Bool true) text = text ≡ codes "true"
IsScalar (scalars.Bool false) text = text ≡ codes "false"
IsScalar (scalars.Number digits) text = (text ≡ digits) × IsNumber digits
IsScalar (scalars.Str meant) text = IsString meant text

pub record ScalarText (place : ℕ) (value : Scalar) (at : ℕ) (tokens : List Token) (text : List ℕ) : Type 0 where
  pub place_is : place ≡ at
  pub tokens_are : tokens ≡ Value at value ∷ []
  pub spelled : IsScalar value text

-- a name that the object has not had, where names may stand once
abbrev pub IsNew : Bool → List (List ℕ) → List ℕ → Type 0
IsNew false had name = Unit {0}
IsNew true had name = AllByRecursion (λ old. old ≡ name → ⊥) had

-- the name of a member, in an object that had these names before
pub record KeyText (once : Bool) (had : List (List ℕ)) (place : ℕ) (name : List ℕ) (at : ℕ) (tokens : List Token) (text : List ℕ) : Type 0 where
  pub place_is : place ≡ at
  pub tokens_are : tokens ≡ Key at name ∷ []
  pub spelled : IsString name text
  pub is_new : IsNew once had name

-- a container, inside which one level less is left, by what stands from its first byte on
pub record Inside (room place : ℕ) (whole : ℕ → ℕ → List Token → List ℕ → Type 0) (at : ℕ) (tokens : List Token) (text : List ℕ) : Type 0 where
  pub place_is : place ≡ at
  pub left : ℕ
  pub room_is : room ≡ suc left
  pub spelled : whole left at tokens text

-- sections 3 to 5: the texts of a value where this many levels of containers may still be opened
abbrev mutual
  pub ValueText : Bool → ℕ → Tree → ℕ → List Token → List ℕ → Type 0
  ValueText once room (scalar place value) = ScalarText place value
  ValueText once room (array place items) = Inside room place (λ left. Then BeginArray (ItemsText once left items))
  ValueText once room (object place members) = Inside room place (λ left. Then BeginObject (MembersText once left [] members))

  -- the items behind the bracket that opens an array, with the bracket that closes it
  pub ItemsText : Bool → ℕ → Trees → ℕ → List Token → List ℕ → Type 0
  ItemsText once room no_item = Then Blanks EndArray
  ItemsText once room (item v vs) = Then Blanks (Then (ValueText once room v) (MoreItems once room vs))

  -- the items behind another, each with its comma
  pub MoreItems : Bool → ℕ → Trees → ℕ → List Token → List ℕ → Type 0
  MoreItems once room no_item = Then Blanks EndArray
  MoreItems once room (item v vs) = Then Blanks (Then Comma (Then Blanks (Then (ValueText once room v) (MoreItems once room vs))))

  -- the members behind the brace that opens an object, with the brace that closes it
  pub MembersText : Bool → ℕ → List (List ℕ) → Members → ℕ → List Token → List ℕ → Type 0
  MembersText once room had no_member = Then Blanks EndObject
  MembersText once room had (member place name v ms) = Then Blanks (Then (KeyText once had place name) (Then Blanks (Then Colon (Then Blanks (Then (ValueText once room v) (MoreMembers once room (name ∷ had) ms))))))

  -- the members behind another, each with its comma
  pub MoreMembers : Bool → ℕ → List (List ℕ) → Members → ℕ → List Token → List ℕ → Type 0
  MoreMembers once room had no_member = Then Blanks EndObject
  MoreMembers once room had (member place name v ms) = Then Blanks (Then Comma (Then Blanks (Then (KeyText once had place name) (Then Blanks (Then Colon (Then Blanks (Then (ValueText once room v) (MoreMembers once room (name ∷ had) ms))))))))

-- section 2: a JSON text is one value between blanks
abbrev pub JsonText : Bool → ℕ → Tree → ℕ → List Token → List ℕ → Type 0
JsonText once room tree = Then Blanks (Then (ValueText once room tree) Blanks)

-- some JSON text begins so
abbrev pub BeginsJson : Bool → ℕ → ℕ → List ℕ → Type 0
BeginsJson once room at text = (more : List ℕ) × (tree : Tree) × (tokens : List Token) × JsonText once room tree at tokens (text ++ more)

-- how many containers may be open at once
abbrev pub depth_limit : ℕ
depth_limit = 256

-- the text whose first byte has this place is readable as this tree, and these are its tokens:
-- each name stands once in its object, and at most 256 containers are open at once
abbrev pub Reads : ℕ → List ℕ → Tree → List Token → Type 0
Reads start text tree tokens = JsonText true depth_limit tree start tokens text

-- some readable text begins so
abbrev pub Begins : ℕ → List ℕ → Type 0
Begins = BeginsJson true depth_limit
