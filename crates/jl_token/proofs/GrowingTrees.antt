-- What is read, token by token.
use Rattle.std.proofs.Common.{◌≡◌, ℕ, Bool, true, false, ◌&&◌, reverse, refl, sym, ap, ◌∙◌, List, [], ◌∷◌, ◌++◌, append_assoc, Option, Some, None}
use Rattle.jl_model.specs.declared.trees.Json.{Json}
use Rattle.jl_model.specs.declared.trees.Member.{Member}
use Rattle.jl_model.specs.declared.tokens.Token.{Token}
use Rattle.jl_model.specs.declared.tokens.Token.TheVariants as tokens
use Rattle.jl_model.specs.JsonTree.{Tree, scalar, array, object, Trees, no_item, item, Members, no_member, member}
use Rattle.std.specs.List.{list_all}
use Rattle.std.proofs.lemmas.List.{reverse-append}
use Rattle.std.proofs.lemmas.List.Folds.{list_all-append}
use Rattle.std.proofs.lemmas.Bool.{and_parts}
use Rattle.jl_model.specs.declared.trees.Items.{Items}
use Rattle.jl_model.specs.declared.trees.Members as rust
use Rattle.jl_token.specs.declared.open_trees.OpenTree.{OpenTree}
use Rattle.jl_token.specs.declared.open_trees.OpenTree.TheVariants as opened
use Rattle.jl_token.specs.declared.open_trees.WaitingKey.{WaitingKey}
use Rattle.jl_model.specs.JsonView.{tree_of, named_of, trees, items_of, members_of}
use Rattle.jl_model.specs.JsonView as view
use Rattle.jl_model.specs.declared.trees.Node.TheFolds.{fold_out-Member}
use Rattle.jl_model.specs.JsonView.{members as member_trees}
use Rattle.jl_token.specs.Trees.{tree_tokens, items_tokens, members_tokens, open_tokens, waits, key_fits}

mutual
  pub tree-more : (t : Tree) (a b : List Token) → tree_tokens t (a ++ b) ≡ tree_tokens t a ++ b
  tree-more (scalar at v) a b = refl
  tree-more (array at xs) a b = ap (λ l. tokens.OpenArray at ∷ l) (items-more xs (tokens.CloseArray 0 ∷ a) b)
  tree-more (object at ms) a b = ap (λ l. tokens.OpenObject at ∷ l) (members-more ms (tokens.CloseObject 0 ∷ a) b)

  pub items-more : (xs : Trees) (a b : List Token) → items_tokens xs (a ++ b) ≡ items_tokens xs a ++ b
  items-more no_item a b = refl
  items-more (item x rest) a b = ap (tree_tokens x) (items-more rest a b) ∙ tree-more x (items_tokens rest a) b

  pub members-more : (ms : Members) (a b : List Token) → members_tokens ms (a ++ b) ≡ members_tokens ms a ++ b
  members-more no_member a b = refl
  members-more (member p n v rest) a b = ap (λ l. tokens.Key p n ∷ l) (ap (tree_tokens v) (members-more rest a b) ∙ tree-more v (members_tokens rest a) b)

-- an item more
item-last : (xs : List Json) (x : Json) (more : List Token) → items_tokens (trees (xs ++ x ∷ [])) more ≡ items_tokens (trees xs) (tree_tokens (tree_of x) more)
item-last [] x more = refl
item-last (y ∷ xs) x more = ap (tree_tokens (tree_of y)) (item-last xs x more)

pub item_added : (xs : List Json) (x : Json) → items_tokens (trees (xs ++ x ∷ [])) [] ≡ items_tokens (trees xs) [] ++ tree_tokens (tree_of x) []
item_added xs x = item-last xs x [] ∙ items-more (trees xs) [] (tree_tokens (tree_of x) [])

named-is : (m : Member) → named_of m ≡ record { at = m.at; name = m.name; value = tree_of m.value }
named-is m = fold_out-Member (ℕ → Tree) Trees Tree view.Named Members view.node_step view.items_step view.json_step view.member_step view.members_step m

one-member : (m : Member) (more : List Token) → members_tokens (member_trees (m ∷ [])) more ≡ tokens.Key m.at m.name ∷ tree_tokens (tree_of m.value) more
one-member m more = ap (λ n. tokens.Key n.at n.name ∷ tree_tokens n.value more) (named-is m)

member-last : (ms : List Member) (m : Member) (more : List Token) → members_tokens (member_trees (ms ++ m ∷ [])) more ≡ members_tokens (member_trees ms) (members_tokens (member_trees (m ∷ [])) more)
member-last [] m more = refl
member-last (n ∷ ms) m more = ap (λ l. tokens.Key (named_of n).at (named_of n).name ∷ tree_tokens (named_of n).value l) (member-last ms m more)

pub array_added : (at : ℕ) (old new : Items) (x : Json) → items_of new ≡ items_of old ++ x ∷ []
    → open_tokens (opened.Array at new) ≡ open_tokens (opened.Array at old) ++ tree_tokens (tree_of x) []
array_added at old new x e = ap (λ xs. tokens.OpenArray at ∷ items_tokens (trees xs) []) e ∙ ap (λ l. tokens.OpenArray at ∷ l) (item_added (items_of old) x)

pub object_added : (at p : ℕ) (n : List ℕ) (old new : rust.Members) (x : Json) → members_of new ≡ members_of old ++ (record { at = p; name = n; value = x }) ∷ []
    → open_tokens (opened.Object at new None) ≡ open_tokens (opened.Object at old (Some (record { at = p; name = n }))) ++ tree_tokens (tree_of x) []
object_added at p n old new x e =
    ap (λ ms. tokens.OpenObject at ∷ members_tokens (member_trees ms) []) e
    ∙ ap (λ l. tokens.OpenObject at ∷ l) (member-last (members_of old) (record { at = p; name = n; value = x }) []
    ∙ (ap (members_tokens (member_trees (members_of old))) (one-member (record { at = p; name = n; value = x }) [])
    ∙ members-more (member_trees (members_of old)) (tokens.Key p n ∷ []) (tree_tokens (tree_of x) [])))

pub array_closed : (at : ℕ) (items : Items) (t : Tree) → t ≡ array at (trees (items_of items)) → tree_tokens t [] ≡ open_tokens (opened.Array at items) ++ tokens.CloseArray 0 ∷ []
array_closed at items t e = ap (λ t. tree_tokens t []) e ∙ ap (λ l. tokens.OpenArray at ∷ l) (items-more (trees (items_of items)) [] (tokens.CloseArray 0 ∷ []))

pub object_closed : (at : ℕ) (ms : rust.Members) (key : Option WaitingKey) (t : Tree) → key ≡ None → t ≡ object at (member_trees (members_of ms))
    → tree_tokens t [] ≡ open_tokens (opened.Object at ms key) ++ tokens.CloseObject 0 ∷ []
object_closed at ms None t none e = ap (λ t. tree_tokens t []) e ∙ ap (λ l. tokens.OpenObject at ∷ l) (members-more (member_trees (members_of ms)) [] (tokens.CloseObject 0 ∷ []))
object_closed at ms (Some key) t none e = absurd let no = none in cc

pub key_read : (at p : ℕ) (n : List ℕ) (ms : rust.Members) (key : Option WaitingKey) → key_fits (opened.Object at ms key) ≡ true
    → open_tokens (opened.Object at ms (Some (record { at = p; name = n }))) ≡ open_tokens (opened.Object at ms key) ++ tokens.Key p n ∷ []
key_read at p n ms None fits = ap (λ l. tokens.OpenObject at ∷ l) (members-more (member_trees (members_of ms)) [] (tokens.Key p n ∷ []))
key_read at p n ms (Some key) fits = absurd let no = fits in cc

pub assoc : (a b c : List Token) → a ++ (b ++ c) ≡ (a ++ b) ++ c
assoc a b c = sym (append_assoc a b c)

pub first_waits : (x : OpenTree) (xs : List OpenTree) → list_all waits (x ∷ xs) ≡ true → waits x ≡ true
first_waits x xs e = (and_parts (waits x) (list_all waits xs) e).0

pub rest_wait : (x : OpenTree) (xs : List OpenTree) → list_all waits (x ∷ xs) ≡ true → list_all waits xs ≡ true
rest_wait x xs e = (and_parts (waits x) (list_all waits xs) e).1

last_and : (a b : Bool) → (a && (b && true)) ≡ (b && a)
last_and true true = refl
last_and true false = refl
last_and false true = refl
last_and false false = refl

pub all_reversed : (xs : List OpenTree) → list_all waits xs ≡ list_all waits (reverse xs)
all_reversed [] = refl
all_reversed (x ∷ xs) =
    sym (ap (list_all waits) (reverse-append (x ∷ []) xs)
    ∙ (list_all-append waits (reverse xs) (x ∷ [])
    ∙ (ap (λ b. b && (waits x && true)) (sym (all_reversed xs)) ∙ last_and (list_all waits xs) (waits x))))
