-- The tokens of a readable text are those of its tree.
use Rattle.std.proofs.Common.{ℕ, ◌+◌, ◌≡◌, sym, ◌∙◌, ap, Bool, true, List, [], ◌∷◌, ◌++◌, map, length, append_assoc}
use Rattle.std.proofs.lemmas.List.{map-append}
use Rattle.jl_model.specs.declared.tokens.Token.{Token}
use Rattle.jl_model.specs.declared.tokens.Token.TheVariants as tokens
use Rattle.jl_model.specs.JsonTree.{Tree, scalar, array, object, Trees, no_item, item, Members, no_member, member}
use Rattle.jl_model.specs.JsonText.{Then, Blanks, EndArray, EndObject, ValueText, ItemsText, MoreItems, MembersText, MoreMembers, depth_limit, Reads}
use Rattle.jl_token.specs.Trees.{tree_tokens, items_tokens, members_tokens, shown, AreTokensOf}
use Rattle.jl_token.proofs.OneTree.{blank_tokens, sign_tokens}

two-parts : (us xs ys : List Token) (more : List Token) → us ≡ xs ++ ys → map shown us ++ more ≡ map shown xs ++ (map shown ys ++ more)
two-parts us xs ys more e = ap (λ ts. map shown ts ++ more) e ∙ (ap (λ es. es ++ more) (map-append shown xs ys) ∙ append_assoc (map shown xs) (map shown ys) more)

-- behind the last part of a container
array-end : (at : ℕ) (us : List Token) (t : List ℕ) (more : List Token) → Then Blanks EndArray at us t → tokens.CloseArray 0 ∷ more ≡ map shown us ++ more
array-end at us t more h = ap (λ ts. map shown ts ++ more) (sym (blank_tokens EndArray at us t h ∙ h.in_second.tokens_are))

object-end : (at : ℕ) (us : List Token) (t : List ℕ) (more : List Token) → Then Blanks EndObject at us t → tokens.CloseObject 0 ∷ more ≡ map shown us ++ more
object-end at us t more h = ap (λ ts. map shown ts ++ more) (sym (blank_tokens EndObject at us t h ∙ h.in_second.tokens_are))

mutual
  value-tokens : (once : Bool) (room : ℕ) (v : Tree) (at : ℕ) (us : List Token) (t : List ℕ) (more : List Token) → ValueText once room v at us t → tree_tokens v more ≡ map shown us ++ more
  value-tokens once room (scalar place s) at us t more h = ap (λ p. tokens.Value p s ∷ more) h.place_is ∙ ap (λ ts. map shown ts ++ more) (sym h.tokens_are)
  value-tokens once room (array place xs) at us t more h =
      let inside = h.spelled in
      ap (λ p. tokens.OpenArray p ∷ items_tokens xs (tokens.CloseArray 0 ∷ more)) h.place_is
      ∙ (ap (λ es. tokens.OpenArray at ∷ es) (items-tokens once h.left xs (at + length inside.front) inside.back_tokens inside.back more inside.in_second)
      ∙ ap (λ ts. map shown ts ++ more) (sym (sign_tokens _ _ _ _ _ _ inside)))
  value-tokens once room (object place ms) at us t more h =
      let inside = h.spelled in
      ap (λ p. tokens.OpenObject p ∷ members_tokens ms (tokens.CloseObject 0 ∷ more)) h.place_is
      ∙ (ap (λ es. tokens.OpenObject at ∷ es) (members-tokens once h.left [] ms (at + length inside.front) inside.back_tokens inside.back more inside.in_second)
      ∙ ap (λ ts. map shown ts ++ more) (sym (sign_tokens _ _ _ _ _ _ inside)))

  items-tokens : (once : Bool) (room : ℕ) (xs : Trees) (at : ℕ) (us : List Token) (t : List ℕ) (more : List Token) → ItemsText once room xs at us t → items_tokens xs (tokens.CloseArray 0 ∷ more) ≡ map shown us ++ more
  items-tokens once room no_item at us t more h = array-end at us t more h
  items-tokens once room (item v vs) at us t more h =
      let i = h.in_second in
      value-tokens once room v _ i.front_tokens i.front (items_tokens vs (tokens.CloseArray 0 ∷ more)) i.in_first
      ∙ (ap (λ es. map shown i.front_tokens ++ es) (more-tokens once room vs _ i.back_tokens i.back more i.in_second)
      ∙ sym (two-parts us i.front_tokens i.back_tokens more (blank_tokens _ at us t h ∙ i.tokens_are)))

  more-tokens : (once : Bool) (room : ℕ) (xs : Trees) (at : ℕ) (us : List Token) (t : List ℕ) (more : List Token) → MoreItems once room xs at us t → items_tokens xs (tokens.CloseArray 0 ∷ more) ≡ map shown us ++ more
  more-tokens once room no_item at us t more h = array-end at us t more h
  more-tokens once room (item v vs) at us t more h =
      let comma = h.in_second in
      let blanks = comma.in_second in
      let i = blanks.in_second in
      value-tokens once room v _ i.front_tokens i.front (items_tokens vs (tokens.CloseArray 0 ∷ more)) i.in_first
      ∙ (ap (λ es. map shown i.front_tokens ++ es) (more-tokens once room vs _ i.back_tokens i.back more i.in_second)
      ∙ sym (two-parts us i.front_tokens i.back_tokens more (blank_tokens _ at us t h ∙ (sign_tokens _ _ _ _ _ _ comma ∙ (blank_tokens _ _ _ _ blanks ∙ i.tokens_are)))))

  members-tokens : (once : Bool) (room : ℕ) (had : List (List ℕ)) (ms : Members) (at : ℕ) (us : List Token) (t : List ℕ) (more : List Token) → MembersText once room had ms at us t → members_tokens ms (tokens.CloseObject 0 ∷ more) ≡ map shown us ++ more
  members-tokens once room had no_member at us t more h = object-end at us t more h
  members-tokens once room had (member place name v ms) at us t more h =
      let k = h.in_second in
      let colon = k.in_second in
      let sign = colon.in_second in
      let blanks = sign.in_second in
      let i = blanks.in_second in
      ap (λ p. tokens.Key p name ∷ tree_tokens v (members_tokens ms (tokens.CloseObject 0 ∷ more))) k.in_first.place_is
      ∙ (ap (λ es. tokens.Key (at + length h.front) name ∷ es) (value-tokens once room v _ i.front_tokens i.front (members_tokens ms (tokens.CloseObject 0 ∷ more)) i.in_first
      ∙ (ap (λ es. map shown i.front_tokens ++ es) (more-members-tokens once room (name ∷ had) ms _ i.back_tokens i.back more i.in_second)
      ∙ sym (two-parts _ i.front_tokens i.back_tokens more (blank_tokens _ _ _ _ colon ∙ (sign_tokens _ _ _ _ _ _ sign ∙ (blank_tokens _ _ _ _ blanks ∙ i.tokens_are))))))
      ∙ ap (λ ts. map shown ts ++ more) (sym (blank_tokens _ at us t h ∙ (k.tokens_are ∙ ap (λ ts. ts ++ k.back_tokens) k.in_first.tokens_are))))

  more-members-tokens : (once : Bool) (room : ℕ) (had : List (List ℕ)) (ms : Members) (at : ℕ) (us : List Token) (t : List ℕ) (more : List Token) → MoreMembers once room had ms at us t → members_tokens ms (tokens.CloseObject 0 ∷ more) ≡ map shown us ++ more
  more-members-tokens once room had no_member at us t more h = object-end at us t more h
  more-members-tokens once room had (member place name v ms) at us t more h =
      let comma = h.in_second in
      let behind = comma.in_second in
      let k = behind.in_second in
      let colon = k.in_second in
      let sign = colon.in_second in
      let blanks = sign.in_second in
      let i = blanks.in_second in
      ap (λ p. tokens.Key p name ∷ tree_tokens v (members_tokens ms (tokens.CloseObject 0 ∷ more))) k.in_first.place_is
      ∙ (ap (λ es. tokens.Key (at + length h.front + length comma.front + length behind.front) name ∷ es) (value-tokens once room v _ i.front_tokens i.front (members_tokens ms (tokens.CloseObject 0 ∷ more)) i.in_first
      ∙ (ap (λ es. map shown i.front_tokens ++ es) (more-members-tokens once room (name ∷ had) ms _ i.back_tokens i.back more i.in_second)
      ∙ sym (two-parts _ i.front_tokens i.back_tokens more (blank_tokens _ _ _ _ colon ∙ (sign_tokens _ _ _ _ _ _ sign ∙ (blank_tokens _ _ _ _ blanks ∙ i.tokens_are))))))
      ∙ ap (λ ts. map shown ts ++ more) (sym (blank_tokens _ at us t h ∙ (sign_tokens _ _ _ _ _ _ comma ∙ (blank_tokens _ _ _ _ behind ∙ (k.tokens_are ∙ ap (λ ts. ts ++ k.back_tokens) k.in_first.tokens_are))))))

-- the tokens of a whole text
pub read_tokens : (start : ℕ) (text : List ℕ) (tree : Tree) (given : List Token) → Reads start text tree given → AreTokensOf tree given
read_tokens start text tree given h =
    let i = h.in_second in
    sym (value-tokens true depth_limit tree _ i.front_tokens i.front [] i.in_first
    ∙ (sym (map-append shown i.front_tokens [])
    ∙ ap (map shown) (sym (blank_tokens _ start given text h ∙ (i.tokens_are ∙ ap (λ ts. i.front_tokens ++ ts) i.in_second.tokens_are)))))
