-- What has been read of a JSON text by its first bytes: the grammar of JSON texts, broken off anywhere. It stands
-- beside the grammar of whole texts, and its closed parts are those.
use Rattle.std.specs.Prelude.{◌≡◌, ℕ, ◌⊎◌, Bool, true, List, [], ◌∷◌, ◌++◌}
use Rattle.jl_model.specs.declared.scalars.Scalar.{Scalar}
use Rattle.jl_model.specs.declared.scalars.Scalar.TheVariants as scalars
use Rattle.jl_model.specs.declared.tokens.Token.{Token}
use Rattle.jl_model.specs.JsonTree.{Tree, scalar, Trees, no_item, item, Members, no_member, member}
use Rattle.jl_model.specs.JsonStrings.{IsString}
use Rattle.jl_model.specs.JsonText.{Then, Blanks, BeginArray, BeginObject, Comma, Colon, IsScalar, IsNew, KeyText, Inside, ValueText, depth_limit, Reads}
use Rattle.jl_defs.specs.OpenTree.{First, quote, sign, Open, unread, in_scalar, in_array, in_object, in_key, in_member, whole, IsUnread}

-- the texts that may stand at a place, with their tokens
abbrev pub Language : Type 1
Language = ℕ → List Token → List ℕ → Type 0

-- a text of one language or of another
abbrev pub Either : Language → Language → Language
Either L M at tokens text = L at tokens text ⊎ M at tokens text

-- a text of the language, where something else holds too
abbrev pub Where : Type 0 → Language → Language
Where F L at tokens text = F × L at tokens text

abbrev pub IsEmpty : List ℕ → Type 0
IsEmpty [] = Unit {0}
IsEmpty (c ∷ cs) = ⊥

abbrev pub IsNotEmpty : List ℕ → Type 0
IsNotEmpty [] = ⊥
IsNotEmpty (c ∷ cs) = Unit {0}

-- a string and a word are closed with their last byte, a number only with the byte after it
abbrev pub IsClosedBy : Tree → List ℕ → Type 0
IsClosedBy (scalar at (scalars.Number digits)) text = IsNotEmpty text
IsClosedBy v text = Unit {0}

-- what stands after a closed value
abbrev pub Behind : Tree → Language → Language
Behind v L at tokens text = IsClosedBy v text × L at tokens text

-- the place after a member's value
abbrev pub EndsAt : ℕ → Language → Language
EndsAt end L at tokens text = (end ≡ at) × L at tokens text

abbrev pub FirstOf : Scalar → First → Type 0
FirstOf (scalars.Str meant) quote = Unit {0}
FirstOf (scalars.Str meant) first = ⊥
FirstOf v sign = Unit {0}
FirstOf v first = ⊥

-- what is left of a scalar that is being read: of a number perhaps nothing
abbrev pub IsLeft : Scalar → List ℕ → Type 0
IsLeft (scalars.Number digits) rest = Unit {0}
IsLeft v rest = IsNotEmpty rest

-- a scalar that is being read
pub record BegunScalar (place : ℕ) (first : First) (at : ℕ) (tokens : List Token) (text : List ℕ) : Type 0 where
  pub place_is : place ≡ at
  pub tokens_are : tokens ≡ []
  pub begun : IsNotEmpty text
  pub value : Scalar
  pub rest : List ℕ
  pub spelled : IsScalar value (text ++ rest)
  pub first_is : FirstOf value first
  pub is_left : IsLeft value rest

-- a key that is being read, in an object that had these names before
pub record BegunKey (once : Bool) (had : List (List ℕ)) (place : ℕ) (at : ℕ) (tokens : List Token) (text : List ℕ) : Type 0 where
  pub place_is : place ≡ at
  pub tokens_are : tokens ≡ []
  pub begun : IsNotEmpty text
  pub name : List ℕ
  pub rest : List ℕ
  pub spelled : IsString name (text ++ rest)
  pub is_left : IsNotEmpty rest
  pub is_new : IsNew once had name

-- closed items, and then the next one with the blanks before it; `Bare` says that nothing of it has been read
abbrev mutual
  pub ItemsThen : Bool → ℕ → Trees → Type 0 → Language → Language
  ItemsThen once room no_item Bare L = L
  ItemsThen once room (item v vs) Bare L = Then Blanks (Then (ValueText once room v) (Behind v (MoreItemsThen once room vs Bare L)))

  pub MoreItemsThen : Bool → ℕ → Trees → Type 0 → Language → Language
  MoreItemsThen once room no_item Bare L = Either (Where Bare Blanks) (Then Blanks (Then Comma L))
  MoreItemsThen once room (item v vs) Bare L =
      Then Blanks (Then Comma (Then Blanks (Then (ValueText once room v) (Behind v (MoreItemsThen once room vs Bare L)))))

-- closed members with the places after them, and then the next one, in an object with these names
abbrev mutual
  pub MembersThen : Bool → ℕ → List (List ℕ) → Members → List ℕ → Type 0 → (List (List ℕ) → Language) → Language
  MembersThen once room had no_member [] Bare L = L had
  MembersThen once room had (member place name v ms) (end ∷ ends) Bare L =
      Then Blanks (Then (KeyText once had place name) (Then Blanks (Then Colon (Then Blanks (Then (ValueText once room v)
      (EndsAt end (Behind v (MoreMembersThen once room (name ∷ had) ms ends Bare L))))))))
  MembersThen once room had ms ends Bare L = λ at tokens text. ⊥

  pub MoreMembersThen : Bool → ℕ → List (List ℕ) → Members → List ℕ → Type 0 → (List (List ℕ) → Language) → Language
  MoreMembersThen once room had no_member [] Bare L = Either (Where Bare Blanks) (Then Blanks (Then Comma (L had)))
  MoreMembersThen once room had (member place name v ms) (end ∷ ends) Bare L =
      Then Blanks (Then Comma (Then Blanks (Then (KeyText once had place name) (Then Blanks (Then Colon (Then Blanks (Then (ValueText once room v)
      (EndsAt end (Behind v (MoreMembersThen once room (name ∷ had) ms ends Bare L))))))))))
  MoreMembersThen once room had ms ends Bare L = λ at tokens text. ⊥

-- a key, and then its colon and the open value; before the colon nothing of the value has been read
abbrev pub OpenPair : Bool → ℕ → List ℕ → Type 0 → Language → List (List ℕ) → Language
OpenPair once place name Bare L had =
    Then Blanks (Then (KeyText once had place name) (Either (Where Bare Blanks) (Then Blanks (Then Colon L))))

-- the texts of which this much has been read, with the blanks before it; what stands inside has not closed
unfoldable pub OpenText : Bool → ℕ → Open → Language
OpenText once room unread = Blanks
OpenText once room (in_scalar place first) = Then Blanks (BegunScalar place first)
OpenText once room (in_array place xs next) =
    Then Blanks (Inside room place (λ left. Then BeginArray (ItemsThen once left xs (IsUnread next) (OpenText once left next))))
OpenText once room (in_object place ms ends) =
    Then Blanks (Inside room place (λ left. Then BeginObject (MembersThen once left [] ms ends (Unit {0}) (λ had. Blanks))))
OpenText once room (in_key place ms ends key_at) =
    Then Blanks (Inside room place (λ left. Then BeginObject (MembersThen once left [] ms ends ⊥ (λ had. Then Blanks (BegunKey once had key_at)))))
OpenText once room (in_member place ms ends key_at name next) =
    Then Blanks (Inside room place (λ left. Then BeginObject (MembersThen once left [] ms ends ⊥ (OpenPair once key_at name (IsUnread next) (OpenText once left next)))))
OpenText once room (whole v) = λ at tokens text. ⊥

-- a document may have closed as a whole
abbrev pub OpenDocument : Bool → ℕ → Open → Language
OpenDocument once room (whole v) = Then Blanks (Then (ValueText once room v) (Behind v Blanks))
OpenDocument once room o = OpenText once room o

-- this much has been read of the document by these bytes
abbrev pub Opens : List ℕ → Open → Type 0
Opens bytes o = (tokens : List Token) × OpenDocument true depth_limit o 0 tokens bytes

-- the bytes read as the tree
abbrev pub ReadsAs : List ℕ → Tree → Type 0
ReadsAs bytes t = (tokens : List Token) × Reads 0 bytes t tokens
