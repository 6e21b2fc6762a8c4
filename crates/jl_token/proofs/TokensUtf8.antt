-- Each name and each string of a text's tokens is UTF-8.
use Rattle.std.proofs.Common.{ℕ, ◌+◌, Bool, true, List, [], ◌∷◌, ◌++◌, length, sym, subst}
use Rattle.std.specs.List.{AllByRecursion}
use Rattle.jl_model.specs.declared.scalars.Scalar.{Scalar}
use Rattle.jl_model.specs.declared.scalars.Scalar.TheVariants as scalars
use Rattle.jl_model.specs.declared.tokens.Token.{Token}
use Rattle.jl_model.specs.JsonTree.{Tree, Trees, Members}
use Rattle.jl_model.specs.JsonTree.Tree.{scalar, array, object}
use Rattle.jl_model.specs.JsonTree.Trees.{no_item, item}
use Rattle.jl_model.specs.JsonTree.Members.{no_member, member}
use Rattle.jl_model.specs.JsonText.{Then, Sign, Blanks, IsScalar, KeyText, ValueText, ItemsText, MoreItems, MembersText, MoreMembers, JsonText, Reads, depth_limit}
use Rattle.jl_token.specs.declared.states.LexState.{LexState}
use Rattle.jl_token.specs.TokenTexts.{IsUtf8Scalar, HasUtf8}
use Rattle.jl_token.specs.Lexed.{Stands}
use Rattle.jl_token.proofs.MeantUtf8.{string_utf8}
use Rattle.jl_token.proofs.Complete.{some_left}

abbrev pub AllUtf8 : List Token → Type 0
AllUtf8 = AllByRecursion HasUtf8

both_utf8 : (us vs : List Token) → AllUtf8 us → AllUtf8 vs → AllUtf8 (us ++ vs)
both_utf8 [] vs a b = b
both_utf8 (u ∷ us) vs a b = (a.0, both_utf8 us vs a.1 b)

front_utf8 : (us vs : List Token) → AllUtf8 (us ++ vs) → AllUtf8 us
front_utf8 [] vs a = tt
front_utf8 (u ∷ us) vs a = (a.0, front_utf8 us vs a.1)

scalar_utf8 : (value : Scalar) (text : List ℕ) → IsScalar value text → IsUtf8Scalar value
scalar_utf8 (scalars.Str meant) text h = string_utf8 meant text h
scalar_utf8 scalars.Null text h = tt
scalar_utf8 (scalars.Bool truth) text h = tt
scalar_utf8 (scalars.Number digits) text h = tt

-- a language whose tokens have UTF-8 texts
abbrev GivesUtf8 : (ℕ → List Token → List ℕ → Type 0) → Type 0
GivesUtf8 L = (at : ℕ) (us : List Token) (t : List ℕ) → L at us t → AllUtf8 us

then_utf8 : (P Q : ℕ → List Token → List ℕ → Type 0) → GivesUtf8 P → GivesUtf8 Q → GivesUtf8 (Then P Q)
then_utf8 P Q f g at us t h = subst AllUtf8 (sym h.tokens_are) (both_utf8 h.front_tokens h.back_tokens (f at h.front_tokens h.front h.in_first) (g (at + length h.front) h.back_tokens h.back h.in_second))

blanks_utf8 : (K : ℕ → List Token → List ℕ → Type 0) → GivesUtf8 K → GivesUtf8 (Then Blanks K)
blanks_utf8 K g = then_utf8 Blanks K (λ at us t h. subst AllUtf8 (sym h.tokens_are) tt) g

sign_utf8 : (byte : ℕ) (made : ℕ → List Token) → ((at : ℕ) → AllUtf8 (made at)) → GivesUtf8 (Sign byte made)
sign_utf8 byte made f at us t h = subst AllUtf8 (sym h.tokens_are) (f at)

key_utf8 : (once : Bool) (had : List (List ℕ)) (place : ℕ) (name : List ℕ) → GivesUtf8 (KeyText once had place name)
key_utf8 once had place name at us t h = subst AllUtf8 (sym h.tokens_are) (string_utf8 name t h.spelled, tt)

module _ (once : Bool) where
  mutual
    value_utf8 : (v : Tree) (room : ℕ) → GivesUtf8 (ValueText once room v)
    value_utf8 (scalar place value) room at us t h = subst AllUtf8 (sym h.tokens_are) (scalar_utf8 value t h.spelled, tt)
    value_utf8 (array place items) room at us t h = then_utf8 _ _ (sign_utf8 91 _ (λ _. (tt, tt))) (λ a vs x g. items_utf8 items h.left a vs x g) at us t h.spelled
    value_utf8 (object place members) room at us t h = then_utf8 _ _ (sign_utf8 123 _ (λ _. (tt, tt))) (λ a vs x g. members_utf8 members h.left [] a vs x g) at us t h.spelled

    items_utf8 : (vs : Trees) (room : ℕ) → GivesUtf8 (ItemsText once room vs)
    items_utf8 no_item room = blanks_utf8 _ (sign_utf8 93 _ (λ _. (tt, tt)))
    items_utf8 (item v vs) room = blanks_utf8 _ (then_utf8 _ _ (λ a us x g. value_utf8 v room a us x g) (λ a us x g. more_items_utf8 vs room a us x g))

    more_items_utf8 : (vs : Trees) (room : ℕ) → GivesUtf8 (MoreItems once room vs)
    more_items_utf8 no_item room = blanks_utf8 _ (sign_utf8 93 _ (λ _. (tt, tt)))
    more_items_utf8 (item v vs) room = blanks_utf8 _ (then_utf8 _ _ (sign_utf8 44 _ (λ _. tt)) (blanks_utf8 _ (then_utf8 _ _ (λ a us x g. value_utf8 v room a us x g) (λ a us x g. more_items_utf8 vs room a us x g))))

    members_utf8 : (ms : Members) (room : ℕ) (had : List (List ℕ)) → GivesUtf8 (MembersText once room had ms)
    members_utf8 no_member room had = blanks_utf8 _ (sign_utf8 125 _ (λ _. (tt, tt)))
    members_utf8 (member place name v ms) room had = blanks_utf8 _ (then_utf8 _ _ (key_utf8 once had place name) (blanks_utf8 _ (then_utf8 _ _ (sign_utf8 58 _ (λ _. tt)) (blanks_utf8 _ (then_utf8 _ _ (λ a us x g. value_utf8 v room a us x g) (λ a us x g. more_members_utf8 ms room (name ∷ had) a us x g))))))

    more_members_utf8 : (ms : Members) (room : ℕ) (had : List (List ℕ)) → GivesUtf8 (MoreMembers once room had ms)
    more_members_utf8 no_member room had = blanks_utf8 _ (sign_utf8 125 _ (λ _. (tt, tt)))
    more_members_utf8 (member place name v ms) room had = blanks_utf8 _ (then_utf8 _ _ (sign_utf8 44 _ (λ _. tt)) (blanks_utf8 _ (then_utf8 _ _ (key_utf8 once had place name) (blanks_utf8 _ (then_utf8 _ _ (sign_utf8 58 _ (λ _. tt)) (blanks_utf8 _ (then_utf8 _ _ (λ a us x g. value_utf8 v room a us x g) (λ a us x g. more_members_utf8 ms room (name ∷ had) a us x g))))))))

  json_utf8 : (tree : Tree) (room : ℕ) → GivesUtf8 (JsonText once room tree)
  json_utf8 tree room = blanks_utf8 _ (then_utf8 _ _ (value_utf8 tree room) (λ at us t h. subst AllUtf8 (sym h.tokens_are) tt))

-- each token of a readable text
pub reading_utf8 : (start : ℕ) (text : List ℕ) (tree : Tree) (us : List Token) → Reads start text tree us → AllUtf8 us
reading_utf8 start text tree us h = json_utf8 true tree depth_limit start us text h

-- each token given so far, since some text may always follow
pub given_utf8 : (start : ℕ) (p : List ℕ) (given : List Token) (s : LexState) → Stands start p given s → AllUtf8 given
given_utf8 start p given s h =
    let r = some_left true depth_limit s.reading h.reading.formed in
    let b = h.reading.strict.back r.0 r.1 r.2 in
    front_utf8 given r.0 (reading_utf8 start (p ++ r.1) b.0 (given ++ r.0) b.1)
