-- The tokens of a tree are those of no other.
use Rattle.std.proofs.Common.{◌≡◌, refl, sym, ap, ap₂, ◌∙◌, List, [], ◌∷◌}
use Rattle.jl_model.specs.declared.tokens.Token.{Token}
use Rattle.jl_model.specs.declared.tokens.Token.TheVariants as tokens
use Rattle.jl_model.specs.JsonTree.{Tree, scalar, array, object, Trees, no_item, item, Members, no_member, member}
use Rattle.jl_token.specs.Trees.{tree_tokens, items_tokens, members_tokens, AreTokensOf}

no-close : (t : Tree) (a b : List Token) → tokens.CloseArray 0 ∷ a ≡ tree_tokens t b → ⊥
no-close (scalar q w) a b e = let no = e in cc
no-close (array q ys) a b e = let no = e in cc
no-close (object q ms) a b e = let no = e in cc

mutual
  tree-one : (t u : Tree) (a b : List Token) → tree_tokens t a ≡ tree_tokens u b → (t ≡ u) × (a ≡ b)
  tree-one (scalar p v) (scalar q w) a b e = let e' = e in (cc, cc)
  tree-one (scalar p v) (array q ys) a b e = absurd let no = e in cc
  tree-one (scalar p v) (object q ms) a b e = absurd let no = e in cc
  tree-one (array p xs) (scalar q w) a b e = absurd let no = e in cc
  tree-one (array p xs) (array q ys) a b e =
      let e' = e in
      let place : p ≡ q = cc in
      let rest : items_tokens xs (tokens.CloseArray 0 ∷ a) ≡ items_tokens ys (tokens.CloseArray 0 ∷ b) = cc in
      let both = items-one xs ys a b rest in
      (ap₂ array place both.0, both.1)
  tree-one (array p xs) (object q ms) a b e = absurd let no = e in cc
  tree-one (object p ms) (scalar q w) a b e = absurd let no = e in cc
  tree-one (object p ms) (array q ys) a b e = absurd let no = e in cc
  tree-one (object p ms) (object q ns) a b e =
      let e' = e in
      let place : p ≡ q = cc in
      let rest : members_tokens ms (tokens.CloseObject 0 ∷ a) ≡ members_tokens ns (tokens.CloseObject 0 ∷ b) = cc in
      let both = members-one ms ns a b rest in
      (ap₂ object place both.0, both.1)

  items-one : (xs ys : Trees) (a b : List Token) → items_tokens xs (tokens.CloseArray 0 ∷ a) ≡ items_tokens ys (tokens.CloseArray 0 ∷ b) → (xs ≡ ys) × (a ≡ b)
  items-one no_item no_item a b e = let e' = e in (refl, cc)
  items-one no_item (item y ys) a b e = absurd (no-close y a _ e)
  items-one (item x xs) no_item a b e = absurd (no-close x b _ (sym e))
  items-one (item x xs) (item y ys) a b e =
      let first = tree-one x y _ _ e in
      let others = items-one xs ys a b first.1 in
      (ap₂ item first.0 others.0, others.1)

  members-one : (ms ns : Members) (a b : List Token) → members_tokens ms (tokens.CloseObject 0 ∷ a) ≡ members_tokens ns (tokens.CloseObject 0 ∷ b) → (ms ≡ ns) × (a ≡ b)
  members-one no_member no_member a b e = let e' = e in (refl, cc)
  members-one no_member (member q n w ns) a b e = absurd let no = e in cc
  members-one (member p m v ms) no_member a b e = absurd let no = e in cc
  members-one (member p m v ms) (member q n w ns) a b e =
      let e' = e in
      let place : p ≡ q = cc in
      let name : m ≡ n = cc in
      let rest : tree_tokens v (members_tokens ms (tokens.CloseObject 0 ∷ a)) ≡ tree_tokens w (members_tokens ns (tokens.CloseObject 0 ∷ b)) = cc in
      let first = tree-one v w _ _ rest in
      let others = members-one ms ns a b first.1 in
      (ap (λ p'. member p' m v ms) place ∙ (ap (λ m'. member q m' v ms) name ∙ (ap (λ v'. member q n v' ms) first.0 ∙ ap (λ r. member q n w r) others.0)), others.1)

pub one_tree : (t u : Tree) (read : List Token) → AreTokensOf t read → AreTokensOf u read → t ≡ u
one_tree t u read a b = (tree-one t u [] [] (sym a ∙ b)).0
