-- What is wrong with a text that isn't readable, and where.
use Rattle.std.specs.Prelude.{◌≡◌, ℕ, ◌+◌, ◌⊎◌, Bool, true, false, List, [], ◌∷◌, ◌++◌, length, suc, codes}
use Rattle.jl_model.specs.declared.codes.Code.{Code}
use Rattle.jl_model.specs.declared.codes.Code.TheVariants.{Syntax, Utf8, Truncated, DuplicateKey, TooDeep}
use Rattle.jl_model.specs.declared.faults.Fault.{Fault}
use Rattle.jl_model.specs.declared.tokens.Token.{Token}
use Rattle.jl_model.specs.JsonTree.{Tree}
use Rattle.jl_model.specs.JsonNumbers.{IsNumber}
use Rattle.jl_model.specs.JsonStrings as strings
use Rattle.jl_model.specs.JsonStrings.{IsString}
use Rattle.jl_model.specs.JsonText.{BeginsJson, Begins, Reads, IsBlank, depth_limit}

abbrev pub IsStructural : ℕ → Type 0
IsStructural c = (c ≡ 91) ⊎ (c ≡ 93) ⊎ (c ≡ 123) ⊎ (c ≡ 125) ⊎ (c ≡ 44) ⊎ (c ≡ 58)

-- true, false or null
abbrev pub IsWord : List ℕ → Type 0
IsWord text = (text ≡ codes "null") ⊎ (text ≡ codes "true") ⊎ (text ≡ codes "false")

-- whole tokens and blanks in a row, in which no number or word stands right behind another;
-- `bare` says that the last one is a number or word
pub data Pieces : (bare : Bool) → List ℕ → Type 0 where
  none : Pieces false []
  blank : {bare : Bool} {c : ℕ} {before text : List ℕ} → Pieces bare before → IsBlank c → text ≡ before ++ c ∷ [] → Pieces false text
  structural : {bare : Bool} {c : ℕ} {before text : List ℕ} → Pieces bare before → IsStructural c → text ≡ before ++ c ∷ [] → Pieces false text
  string : {bare : Bool} {before meant piece text : List ℕ} → Pieces bare before → IsString meant piece → text ≡ before ++ piece → Pieces false text
  number : {before piece text : List ℕ} → Pieces false before → IsNumber piece → text ≡ before ++ piece → Pieces true text
  word : {before piece text : List ℕ} → Pieces false before → IsWord piece → text ≡ before ++ piece → Pieces true text

abbrev pub IsRow : List ℕ → Type 0
IsRow text = (bare : Bool) × Pieces bare text

-- nothing, or the beginning of a token that isn't whole yet, behind such a row
pub data Unfinished : (bare : Bool) → List ℕ → Type 0 where
  nothing : {bare : Bool} → Unfinished bare []
  string : {bare : Bool} {part : List ℕ} (more meant : List ℕ) → IsString meant (part ++ more) → ((m : List ℕ) → IsString m part → ⊥) → Unfinished bare part
  number : {part : List ℕ} (more : List ℕ) → IsNumber (part ++ more) → (IsNumber part → ⊥) → Unfinished false part
  word : {part : List ℕ} (more : List ℕ) → IsWord (part ++ more) → (IsWord part → ⊥) → Unfinished false part

-- the place of the token that the byte behind p goes on with or begins
pub record PlaceBehind (start : ℕ) (p : List ℕ) (at : ℕ) : Type 0 where
  pub bare : Bool
  pub front : List ℕ
  pub part : List ℕ
  pub text_is : p ≡ front ++ part
  pub whole : Pieces bare front
  pub unfinished : Unfinished bare part
  pub at_is : at ≡ start + length front

-- the unfinished token is a string, and with the byte c its bytes can't be UTF-8 any more
abbrev pub BreaksUtf8 : List ℕ → ℕ → Type 0
BreaksUtf8 part c = (body : List ℕ) × (part ≡ 34 ∷ body) × ((t : List ℕ) → strings.Utf8 (body ++ c ∷ t) → ⊥)

-- the text would go on to be readable with one more level of containers
abbrev pub IsTooDeep : ℕ → List ℕ → Type 0
IsTooDeep start text = BeginsJson true (suc depth_limit) start text

-- the text would go on to be readable if names might come again
abbrev pub IsDuplicate : ℕ → List ℕ → Type 0
IsDuplicate start text = BeginsJson false depth_limit start text

-- the rule that the byte c breaks behind p, which ends in this unfinished token or whole ones
abbrev pub BreaksRule : ℕ → List ℕ → List ℕ → ℕ → Code → Type 0
BreaksRule start p part c TooDeep = IsTooDeep start (p ++ c ∷ [])
BreaksRule start p part c DuplicateKey = IsDuplicate start (p ++ c ∷ [])
BreaksRule start p part c Utf8 = BreaksUtf8 part c
BreaksRule start p part c Syntax = (IsTooDeep start (p ++ c ∷ []) → ⊥) × (IsDuplicate start (p ++ c ∷ []) → ⊥) × (BreaksUtf8 part c → ⊥)
BreaksRule start p part c _ = ⊥

-- the bytes p begin a readable text, and with the byte c they don't any more
pub record Breaks (start : ℕ) (p : List ℕ) (c : ℕ) (fault : Fault) : Type 0 where
  pub begins : Begins start p
  pub breaks : Begins start (p ++ c ∷ []) → ⊥
  pub place : PlaceBehind start p fault.at
  pub code : BreaksRule start p place.part c fault.code

-- all bytes begin a readable text and aren't one
pub record IsTruncated (start : ℕ) (p : List ℕ) (fault : Fault) : Type 0 where
  pub begins : Begins start p
  pub unreadable : (tree : Tree) (tokens : List Token) → Reads start p tree tokens → ⊥
  pub code : fault.code ≡ Truncated
  pub place : fault.at ≡ start + length p

-- what is wrong with a text: at the shortest front that begins nothing readable, or at the end
abbrev pub TextFault : ℕ → List ℕ → Fault → Type 0
TextFault start text fault = ((p : List ℕ) × (c : ℕ) × (r : List ℕ) × (text ≡ p ++ c ∷ r) × Breaks start p c fault) ⊎ IsTruncated start text fault
