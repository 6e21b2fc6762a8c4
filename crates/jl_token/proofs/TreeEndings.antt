-- Each tree that has begun can end: what is open closes.
use Rattle.std.proofs.Common.{◌≡◌, ℕ, true, refl, sym, ap, ◌∙◌, List, [], ◌∷◌, ◌++◌, map, append_assoc, Some, None}
use Rattle.std.specs.List.{list_all}
use Rattle.std.proofs.lemmas.Bool.{and_from, and_parts, true≢false}
use Rattle.std.proofs.lemmas.List.{map-append}
use Rattle.jl_model.specs.declared.scalars.Scalar.TheVariants.{Null}
use Rattle.jl_model.specs.declared.tokens.Token.{Token}
use Rattle.jl_model.specs.declared.tokens.Token.TheVariants as tokens
use Rattle.jl_model.specs.JsonTree.{Tree, scalar, array, object, Trees, no_item, item, Members, no_member, member}
use Rattle.jl_model.specs.JsonView.{trees, items_of, members_of}
use Rattle.jl_model.specs.JsonView.{members as member_trees}
use Rattle.jl_token.specs.declared.open_trees.OpenTree.{OpenTree}
use Rattle.jl_token.specs.declared.open_trees.OpenTree.TheVariants as opened
use Rattle.jl_token.specs.declared.tree_states.Growth.{Growth}
use Rattle.jl_token.specs.declared.tree_states.Growth.TheVariants as growth
use Rattle.jl_token.specs.Trees.{tree_tokens, items_tokens, members_tokens, shown, Begin, open_tokens, around_tokens, growth_tokens, waits, takes, closing, IsFormedAt}
use Rattle.jl_token.proofs.GrowingTrees.{tree-more, items-more, members-more}

abbrev then_item : Trees → Tree → Trees
then_item no_item t = item t no_item
then_item (item x rest) t = item x (then_item rest t)

abbrev then_member : Members → ℕ → List ℕ → Tree → Members
then_member no_member p n t = member p n t no_member
then_member (member q m v rest) p n t = member q m v (then_member rest p n t)

items-then : (xs : Trees) (t : Tree) (more : List Token) → items_tokens xs [] ++ tree_tokens t more ≡ items_tokens (then_item xs t) more
items-then no_item t more = refl
items-then (item x rest) t more = sym (tree-more x (items_tokens rest []) (tree_tokens t more)) ∙ ap (tree_tokens x) (items-then rest t more)

members-then : (ms : Members) (p : ℕ) (n : List ℕ) (t : Tree) (more : List Token) → members_tokens ms (tokens.Key p n ∷ []) ++ tree_tokens t more ≡ members_tokens (then_member ms p n t) more
members-then no_member p n t more = refl
members-then (member q m v rest) p n t more =
    ap (λ l. tokens.Key q m ∷ l) (sym (tree-more v (members_tokens rest (tokens.Key p n ∷ [])) (tree_tokens t more)) ∙ ap (tree_tokens v) (members-then rest p n t more))

abbrev with_value : OpenTree → Tree → Tree
with_value (opened.Array at items) t = array at (then_item (trees (items_of items)) t)
with_value (opened.Object at ms None) t = object at (member_trees (members_of ms))
with_value (opened.Object at ms (Some k)) t = object at (then_member (member_trees (members_of ms)) k.at k.name t)

abbrev ends : List OpenTree → List Token
ends [] = []
ends (x ∷ around) = closing x ∷ ends around

abbrev wrapped : List OpenTree → Tree → Tree
wrapped [] t = t
wrapped (x ∷ around) t = wrapped around (with_value x t)

one-with : (x : OpenTree) (t : Tree) (more : List Token) → waits x ≡ true → open_tokens x ++ tree_tokens t (closing x ∷ more) ≡ tree_tokens (with_value x t) more
one-with (opened.Array at items) t more w = ap (λ l. tokens.OpenArray at ∷ l) (items-then (trees (items_of items)) t (tokens.CloseArray 0 ∷ more))
one-with (opened.Object at ms None) t more w = absurd (true≢false (sym w))
one-with (opened.Object at ms (Some k)) t more w = ap (λ l. tokens.OpenObject at ∷ l) (members-then (member_trees (members_of ms)) k.at k.name t (tokens.CloseObject 0 ∷ more))

wrapped-tokens : (around : List OpenTree) (t : Tree) → list_all waits around ≡ true → around_tokens around ++ tree_tokens t (ends around) ≡ tree_tokens (wrapped around t) []
wrapped-tokens [] t w = refl
wrapped-tokens (x ∷ around) t w =
    let parts = and_parts (waits x) (list_all waits around) w in
    append_assoc (around_tokens around) (open_tokens x) (tree_tokens t (closing x ∷ ends around))
    ∙ (ap (λ l. around_tokens around ++ l) (one-with x t (ends around) parts.0) ∙ wrapped-tokens around (with_value x t) parts.1)

closing-shown : (x : OpenTree) → shown (closing x) ≡ closing x
closing-shown (opened.Array at items) = refl
closing-shown (opened.Object at ms k) = refl

ends-shown : (around : List OpenTree) → map shown (ends around) ≡ ends around
ends-shown [] = refl
ends-shown (x ∷ around) = ap (λ t. t ∷ map shown (ends around)) (closing-shown x) ∙ ap (λ l. closing x ∷ l) (ends-shown around)

-- these tokens, and some after them, are those of a tree
abbrev GoesOn : List Token → Token → Type 0
GoesOn front token = (tree : Tree) × (more : List Token) × (front ++ shown token ∷ map shown more ≡ tree_tokens tree [])

-- a value that begins with this token and ends with these
goes-value : (x : OpenTree) (around : List OpenTree) (token : Token) (t : Tree) (rest : List Token) → waits x ≡ true → list_all waits around ≡ true
    → shown token ∷ map shown rest ++ ends (x ∷ around) ≡ tree_tokens t (ends (x ∷ around)) → GoesOn (around_tokens around ++ open_tokens x) token
goes-value x around token t rest w ws e = (
  wrapped (x ∷ around) t,
  rest ++ ends (x ∷ around),
  ap (λ l. (around_tokens around ++ open_tokens x) ++ shown token ∷ l) (map-append shown rest (ends (x ∷ around)) ∙ ap (λ l. map shown rest ++ l) (ends-shown (x ∷ around)))
      ∙ (ap (λ l. (around_tokens around ++ open_tokens x) ++ l) e ∙ wrapped-tokens (x ∷ around) t (and_from (waits x) (list_all waits around) w ws)),
)

-- a container that closes
goes-close : (x : OpenTree) (around : List OpenTree) (token : Token) (t : Tree) → list_all waits around ≡ true
    → open_tokens x ++ shown token ∷ ends around ≡ tree_tokens t (ends around) → GoesOn (around_tokens around ++ open_tokens x) token
goes-close x around token t ws e = (
  wrapped around t,
  ends around,
  ap (λ l. (around_tokens around ++ open_tokens x) ++ shown token ∷ l) (ends-shown around)
      ∙ (append_assoc (around_tokens around) (open_tokens x) (shown token ∷ ends around)
      ∙ (ap (λ l. around_tokens around ++ l) e ∙ wrapped-tokens around t ws)),
)

members-key : (ms : Members) (p : ℕ) (n : List ℕ) (more : List Token) → members_tokens ms [] ++ tokens.Key p n ∷ more ≡ members_tokens ms (tokens.Key p n ∷ []) ++ more
members-key ms p n more = sym (members-more ms [] (tokens.Key p n ∷ more)) ∙ members-more ms (tokens.Key p n ∷ []) more

goes-inside : (x : OpenTree) (around : List OpenTree) (token : Token) → list_all waits around ≡ true → takes (growth.Inside x) token ≡ true → GoesOn (around_tokens around ++ open_tokens x) token
goes-inside x around (tokens.OpenObject p) ws e = goes-value x around (tokens.OpenObject p) (object p no_member) (tokens.CloseObject 0 ∷ []) e ws refl
goes-inside x around (tokens.OpenArray p) ws e = goes-value x around (tokens.OpenArray p) (array p no_item) (tokens.CloseArray 0 ∷ []) e ws refl
goes-inside x around (tokens.Value p v) ws e = goes-value x around (tokens.Value p v) (scalar p v) [] e ws refl
goes-inside (opened.Array at items) around (tokens.CloseArray p) ws e =
    goes-close (opened.Array at items) around (tokens.CloseArray p) (array at (trees (items_of items))) ws
    (ap (λ l. tokens.OpenArray at ∷ l) (sym (items-more (trees (items_of items)) [] (tokens.CloseArray 0 ∷ ends around))))
goes-inside (opened.Object at ms k) around (tokens.CloseArray p) ws e = absurd (true≢false (sym e))
goes-inside (opened.Array at items) around (tokens.CloseObject p) ws e = absurd (true≢false (sym e))
goes-inside (opened.Object at ms None) around (tokens.CloseObject p) ws e =
    goes-close (opened.Object at ms None) around (tokens.CloseObject p) (object at (member_trees (members_of ms))) ws
    (ap (λ l. tokens.OpenObject at ∷ l) (sym (members-more (member_trees (members_of ms)) [] (tokens.CloseObject 0 ∷ ends around))))
goes-inside (opened.Object at ms (Some k)) around (tokens.CloseObject p) ws e = absurd (true≢false (sym e))
goes-inside (opened.Array at items) around (tokens.Key p n) ws e = absurd (true≢false (sym e))
goes-inside (opened.Object at ms (Some k)) around (tokens.Key p n) ws e = absurd (true≢false (sym e))
goes-inside (opened.Object at ms None) around (tokens.Key p n) ws e =
    let x = opened.Object at ms (Some (record { at = p; name = n })) in (
      wrapped (x ∷ around) (scalar 0 Null),
      tokens.Value 0 Null ∷ ends (x ∷ around),
      ap (λ l. (around_tokens around ++ open_tokens (opened.Object at ms None)) ++ (tokens.Key p n ∷ tokens.Value 0 Null ∷ l)) (ends-shown (x ∷ around))
          ∙ (append_assoc (around_tokens around) (open_tokens (opened.Object at ms None)) (tokens.Key p n ∷ tokens.Value 0 Null ∷ ends (x ∷ around))
          ∙ (ap (λ l. around_tokens around ++ tokens.OpenObject at ∷ l) (members-key (member_trees (members_of ms)) p n (tokens.Value 0 Null ∷ ends (x ∷ around)))
          ∙ (sym (append_assoc (around_tokens around) (open_tokens x) (tokens.Value 0 Null ∷ ends (x ∷ around))) ∙ wrapped-tokens (x ∷ around) (scalar 0 Null) ws))),
    )

pub goes_on : (g : Growth) (around : List OpenTree) (token : Token) → IsFormedAt g around → takes g token ≡ true → GoesOn (growth_tokens g around) token
goes_on growth.Nothing around (tokens.OpenObject p) f e = (object p no_member, tokens.CloseObject 0 ∷ [], refl)
goes_on growth.Nothing around (tokens.CloseObject p) f e = absurd (true≢false (sym e))
goes_on growth.Nothing around (tokens.OpenArray p) f e = (array p no_item, tokens.CloseArray 0 ∷ [], refl)
goes_on growth.Nothing around (tokens.CloseArray p) f e = absurd (true≢false (sym e))
goes_on growth.Nothing around (tokens.Key p n) f e = absurd (true≢false (sym e))
goes_on growth.Nothing around (tokens.Value p v) f e = (scalar p v, [], refl)
goes_on (growth.Inside x) around token f e = goes-inside x around token f e
goes_on (growth.Whole json) around (tokens.OpenObject p) f e = absurd (true≢false (sym e))
goes_on (growth.Whole json) around (tokens.CloseObject p) f e = absurd (true≢false (sym e))
goes_on (growth.Whole json) around (tokens.OpenArray p) f e = absurd (true≢false (sym e))
goes_on (growth.Whole json) around (tokens.CloseArray p) f e = absurd (true≢false (sym e))
goes_on (growth.Whole json) around (tokens.Key p n) f e = absurd (true≢false (sym e))
goes_on (growth.Whole json) around (tokens.Value p v) f e = absurd (true≢false (sym e))

-- where a token may come, some tree goes on with it
pub begun : (g : Growth) (around : List OpenTree) (read : List Token) (token : Token) → IsFormedAt g around → takes g token ≡ true
    → map shown read ≡ growth_tokens g around → Begin (read ++ token ∷ [])
begun g around read token f e r =
    let on = goes_on g around token f e in (
      on.0,
      on.1,
      ap (map shown) (append_assoc read (token ∷ []) on.1)
          ∙ (map-append shown read (token ∷ on.1) ∙ (ap (λ l. l ++ shown token ∷ map shown on.1) r ∙ on.2)),
    )
