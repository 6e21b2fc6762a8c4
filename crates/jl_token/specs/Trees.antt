-- The tokens of a tree, and those that a tree which is being built has read.
use Rattle.std.specs.Prelude.{ℕ, ◌≡◌, Bool, true, false, List, [], ◌∷◌, ◌++◌, map, Option, Some, None}
use Rattle.std.specs.List.{list_all}
use Rattle.jl_model.specs.declared.trees.Json.{Json}
use Rattle.jl_model.specs.declared.tokens.Token.{Token}
use Rattle.jl_model.specs.declared.tokens.Token.TheVariants as tokens
use Rattle.jl_model.specs.JsonText.{Reads}
use Rattle.jl_model.specs.JsonTree.{Tree, scalar, array, object, Trees, no_item, item, Members, no_member, member}
use Rattle.jl_model.specs.JsonView.{tree_of, trees, items_of, members_of}
use Rattle.jl_model.specs.JsonView.{members as member_trees}
use Rattle.jl_token.specs.declared.open_trees.OpenTree.{OpenTree}
use Rattle.jl_token.specs.declared.open_trees.OpenTree.TheVariants as opened
use Rattle.jl_token.specs.declared.open_trees.WaitingKey.{WaitingKey}
use Rattle.jl_token.specs.declared.tree_states.Growth.{Growth}
use Rattle.jl_token.specs.declared.tree_states.Growth.TheVariants as growth
use Rattle.jl_token.specs.declared.tree_states.TreeState.{TreeState}

-- the tokens of a tree, before those that follow; a tree has no places of the brackets that close
abbrev mutual
  pub tree_tokens : Tree → List Token → List Token
  tree_tokens (scalar at v) more = tokens.Value at v ∷ more
  tree_tokens (array at xs) more = tokens.OpenArray at ∷ items_tokens xs (tokens.CloseArray 0 ∷ more)
  tree_tokens (object at ms) more = tokens.OpenObject at ∷ members_tokens ms (tokens.CloseObject 0 ∷ more)

  pub items_tokens : Trees → List Token → List Token
  items_tokens no_item more = more
  items_tokens (item x rest) more = tree_tokens x (items_tokens rest more)

  pub members_tokens : Members → List Token → List Token
  members_tokens no_member more = more
  members_tokens (member a n v rest) more = tokens.Key a n ∷ tree_tokens v (members_tokens rest more)

-- a token without the place that a tree doesn't have
abbrev pub shown : Token → Token
shown (tokens.OpenObject at) = tokens.OpenObject at
shown (tokens.CloseObject at) = tokens.CloseObject 0
shown (tokens.OpenArray at) = tokens.OpenArray at
shown (tokens.CloseArray at) = tokens.CloseArray 0
shown (tokens.Key at name) = tokens.Key at name
shown (tokens.Value at v) = tokens.Value at v

-- these are the tokens of the tree
abbrev pub AreTokensOf : Tree → List Token → Type 0
AreTokensOf tree read = map shown read ≡ tree_tokens tree []

-- these tokens begin a tree
abbrev pub Begin : List Token → Type 0
Begin read = (tree : Tree) × (more : List Token) × AreTokensOf tree (read ++ more)

-- ---- what was read of a tree that is being built

abbrev pub key_tokens : Option WaitingKey → List Token
key_tokens None = []
key_tokens (Some key) = tokens.Key key.at key.name ∷ []

abbrev pub open_tokens : OpenTree → List Token
open_tokens (opened.Array at items) = tokens.OpenArray at ∷ items_tokens (trees (items_of items)) []
open_tokens (opened.Object at members key) = tokens.OpenObject at ∷ members_tokens (member_trees (members_of members)) (key_tokens key)

abbrev pub around_tokens : List OpenTree → List Token
around_tokens [] = []
around_tokens (x ∷ around) = around_tokens around ++ open_tokens x

abbrev pub growth_tokens : Growth → List OpenTree → List Token
growth_tokens growth.Nothing around = []
growth_tokens (growth.Inside x) around = around_tokens around ++ open_tokens x
growth_tokens (growth.Whole json) around = tree_tokens (tree_of json) []

abbrev pub state_tokens : TreeState → List Token
state_tokens s = growth_tokens s.growth s.around

-- these tokens were read, and the tree goes on
pub record HasRead (read : List Token) (s : TreeState) : Type 0 where
  pub read_is : map shown read ≡ state_tokens s
  pub goes_on : s.short ≡ false

-- ---- what may come next

-- a value may come next
abbrev pub key_waits : Option WaitingKey → Bool
key_waits None = false
key_waits (Some key) = true

abbrev pub waits : OpenTree → Bool
waits (opened.Array at items) = true
waits (opened.Object at members key) = key_waits key

abbrev pub key_fits : OpenTree → Bool
key_fits (opened.Array at items) = false
key_fits (opened.Object at members None) = true
key_fits (opened.Object at members (Some key)) = false

abbrev pub IsClosable : OpenTree → Type 0
IsClosable (opened.Array at items) = Unit {0}
IsClosable (opened.Object at members key) = key ≡ None

-- the token that closes a container
abbrev pub closing : OpenTree → Token
closing (opened.Array at items) = tokens.CloseArray 0
closing (opened.Object at members key) = tokens.CloseObject 0

abbrev pub IsInside : Growth → Type 0
IsInside growth.Nothing = ⊥
IsInside (growth.Inside x) = Unit {0}
IsInside (growth.Whole json) = ⊥

abbrev pub IsClosableAt : Growth → Type 0
IsClosableAt growth.Nothing = ⊥
IsClosableAt (growth.Inside x) = IsClosable x
IsClosableAt (growth.Whole json) = ⊥

abbrev pub closing_at : Growth → Token
closing_at growth.Nothing = tokens.CloseArray 0
closing_at (growth.Inside x) = closing x
closing_at (growth.Whole json) = tokens.CloseArray 0

abbrev pub waits_at : Growth → Bool
waits_at growth.Nothing = true
waits_at (growth.Inside x) = waits x
waits_at (growth.Whole json) = false

abbrev pub takes_key : Growth → Bool
takes_key growth.Nothing = false
takes_key (growth.Inside x) = key_fits x
takes_key (growth.Whole json) = false

abbrev pub is_in_array : Growth → Bool
is_in_array growth.Nothing = false
is_in_array (growth.Inside (opened.Array at items)) = true
is_in_array (growth.Inside (opened.Object at members key)) = false
is_in_array (growth.Whole json) = false

abbrev pub takes : Growth → Token → Bool
takes g (tokens.OpenObject at) = waits_at g
takes g (tokens.CloseObject at) = takes_key g
takes g (tokens.OpenArray at) = waits_at g
takes g (tokens.CloseArray at) = is_in_array g
takes g (tokens.Key at name) = takes_key g
takes g (tokens.Value at v) = waits_at g

-- the tokens read and this one begin a tree (`law_begun`); a tree that ran out of memory takes any, and answers that again
abbrev pub CanTake : TreeState → Token → Type 0
CanTake s token = s.short ≡ false → takes s.growth token ≡ true

-- the rule of form: each container round another one waits for a value
abbrev pub IsFormedAt : Growth → List OpenTree → Type 0
IsFormedAt growth.Nothing around = around ≡ []
IsFormedAt (growth.Inside x) around = list_all waits around ≡ true
IsFormedAt (growth.Whole json) around = around ≡ []

abbrev pub IsFormedBy : Bool → TreeState → Type 0
IsFormedBy true s = Unit {0}
IsFormedBy false s = IsFormedAt s.growth s.around

abbrev pub IsFormed : TreeState → Type 0
IsFormed s = IsFormedBy s.short s

-- the tree is whole
abbrev pub IsWholeAt : Growth → Type 0
IsWholeAt growth.Nothing = ⊥
IsWholeAt (growth.Inside x) = ⊥
IsWholeAt (growth.Whole json) = Unit {0}

abbrev pub IsWhole : TreeState → Type 0
IsWhole s = IsWholeAt s.growth

-- ---- what a call does

-- these tokens are read behind the others
abbrev pub Adds : TreeState → TreeState → List Token → Type 0
Adds old new more = state_tokens new ≡ state_tokens old ++ more

-- the same of one container
abbrev pub AddsTo : OpenTree → OpenTree → List Token → Type 0
AddsTo old new more = open_tokens new ≡ open_tokens old ++ more

-- the tokens of a value
abbrev pub value_tokens : Json → List Token
value_tokens value = tree_tokens (tree_of value) []

-- where some tokens were read, this one is read behind them
abbrev pub ReadsOn : TreeState → TreeState → Token → Type 0
ReadsOn old new token = (read : List Token) → HasRead read old → HasRead (read ++ token ∷ []) new

-- the tokens read are just those of this value
abbrev pub IsTreeOf : Json → TreeState → Type 0
IsTreeOf value s = (read : List Token) → HasRead read s → AreTokensOf (tree_of value) read

-- no container is left
abbrev pub NoneLeft : List OpenTree → List OpenTree → Type 0
NoneLeft old new = (old ≡ []) × (new ≡ [])

-- ---- laws

-- with a token that may come, the tokens read begin a tree
abbrev pub TakenBegins : Type 0
TakenBegins = (s : TreeState) (read : List Token) (token : Token) → IsFormed s → HasRead read s → takes s.growth token ≡ true → Begin (read ++ token ∷ [])

-- a token with which the tokens read begin a tree may come
abbrev pub BegunMayCome : Type 0
BegunMayCome = (s : TreeState) (read : List Token) (token : Token) → IsFormed s → HasRead read s → Begin (read ++ token ∷ []) → takes s.growth token ≡ true

-- where the tokens read are those of a tree, it is whole
abbrev pub ReadIsWhole : Type 0
ReadIsWhole = (s : TreeState) (read : List Token) (tree : Tree) → IsFormed s → HasRead read s → AreTokensOf tree read → IsWhole s

-- tokens are those of one tree at most
abbrev pub OneTree : Type 0
OneTree = (tree other : Tree) (read : List Token) → AreTokensOf tree read → AreTokensOf other read → tree ≡ other

-- the tokens of a readable text are those of its tree
abbrev pub TreeOfText : Type 0
TreeOfText = (start : ℕ) (text : List ℕ) (tree : Tree) (read : List Token) → Reads start text tree read → AreTokensOf tree read
