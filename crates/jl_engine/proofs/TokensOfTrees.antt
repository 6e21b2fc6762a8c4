-- The tokens of a readable text give the events of its tree.
use Rattle.std.proofs.Common.{ℕ, ◌+◌, ◌≡◌, sym, ◌∙◌, ap, Bool, true, List, [], ◌∷◌, ◌++◌, length, append_assoc}
use Rattle.std.proofs.lemmas.List.{map-append}
use Rattle.jl_model.specs.declared.tokens.Token.{Token}
use Rattle.jl_model.specs.JsonTree.{Tree, scalar, array, object, Trees, no_item, item, Members, no_member, member}
use Rattle.jl_model.specs.JsonText.{Then, Blanks, EndArray, EndObject, ValueText, ItemsText, MoreItems, MembersText, MoreMembers, depth_limit, Reads}
use Rattle.jl_token.proofs.OneTree.{blank_tokens, sign_tokens}
use Rattle.jl_walk.specs.Events.{Event, opens_object, opens_array, closes, a_key, a_scalar, tree_events, items_events, members_events}
use Rattle.jl_engine.specs.TreeEvents.{event_of, events_of, walked, all_walked}

pub events-of-append : (xs ys : List Token) → events_of (xs ++ ys) ≡ events_of xs ++ events_of ys
events-of-append xs ys = map-append event_of xs ys

-- the walk's events of tokens
abbrev pub walk_events : List Token → List Event
walk_events tokens = all_walked (events_of tokens)

pub walk-append : (xs ys : List Token) → walk_events (xs ++ ys) ≡ walk_events xs ++ walk_events ys
walk-append xs ys = ap all_walked (events-of-append xs ys) ∙ map-append walked (events_of xs) (events_of ys)

two-parts : (us xs ys : List Token) (more : List Event) → us ≡ xs ++ ys → walk_events us ++ more ≡ walk_events xs ++ (walk_events ys ++ more)
two-parts us xs ys more e = ap (λ ts. walk_events ts ++ more) e ∙ (ap (λ es. es ++ more) (walk-append xs ys) ∙ append_assoc (walk_events xs) (walk_events ys) more)

-- behind the last part of a container
array-end : (at : ℕ) (us : List Token) (t : List ℕ) (more : List Event) → Then Blanks EndArray at us t → closes ∷ more ≡ walk_events us ++ more
array-end at us t more h = ap (λ ts. walk_events ts ++ more) (sym (blank_tokens EndArray at us t h ∙ h.in_second.tokens_are))

object-end : (at : ℕ) (us : List Token) (t : List ℕ) (more : List Event) → Then Blanks EndObject at us t → closes ∷ more ≡ walk_events us ++ more
object-end at us t more h = ap (λ ts. walk_events ts ++ more) (sym (blank_tokens EndObject at us t h ∙ h.in_second.tokens_are))

mutual
  unfolding tree_events items_events members_events

  value-tokens : (once : Bool) (room : ℕ) (v : Tree) (at : ℕ) (us : List Token) (t : List ℕ) (more : List Event) → ValueText once room v at us t → tree_events v more ≡ walk_events us ++ more
  value-tokens once room (scalar place s) at us t more h = ap (λ p. a_scalar p s ∷ more) h.place_is ∙ ap (λ ts. walk_events ts ++ more) (sym h.tokens_are)
  value-tokens once room (array place xs) at us t more h =
      let inside = h.spelled in
      ap (λ p. opens_array p ∷ items_events xs (closes ∷ more)) h.place_is
      ∙ (ap (λ es. opens_array at ∷ es) (items-tokens once h.left xs (at + length inside.front) inside.back_tokens inside.back more inside.in_second)
      ∙ ap (λ ts. walk_events ts ++ more) (sym (sign_tokens _ _ _ _ _ _ inside)))
  value-tokens once room (object place ms) at us t more h =
      let inside = h.spelled in
      ap (λ p. opens_object p ∷ members_events ms (closes ∷ more)) h.place_is
      ∙ (ap (λ es. opens_object at ∷ es) (members-tokens once h.left [] ms (at + length inside.front) inside.back_tokens inside.back more inside.in_second)
      ∙ ap (λ ts. walk_events ts ++ more) (sym (sign_tokens _ _ _ _ _ _ inside)))

  items-tokens : (once : Bool) (room : ℕ) (xs : Trees) (at : ℕ) (us : List Token) (t : List ℕ) (more : List Event) → ItemsText once room xs at us t → items_events xs (closes ∷ more) ≡ walk_events us ++ more
  items-tokens once room no_item at us t more h = array-end at us t more h
  items-tokens once room (item v vs) at us t more h =
      let i = h.in_second in
      value-tokens once room v _ i.front_tokens i.front (items_events vs (closes ∷ more)) i.in_first
      ∙ (ap (λ es. walk_events i.front_tokens ++ es) (more-tokens once room vs _ i.back_tokens i.back more i.in_second)
      ∙ sym (two-parts us i.front_tokens i.back_tokens more (blank_tokens _ at us t h ∙ i.tokens_are)))

  more-tokens : (once : Bool) (room : ℕ) (xs : Trees) (at : ℕ) (us : List Token) (t : List ℕ) (more : List Event) → MoreItems once room xs at us t → items_events xs (closes ∷ more) ≡ walk_events us ++ more
  more-tokens once room no_item at us t more h = array-end at us t more h
  more-tokens once room (item v vs) at us t more h =
      let comma = h.in_second in
      let blanks = comma.in_second in
      let i = blanks.in_second in
      value-tokens once room v _ i.front_tokens i.front (items_events vs (closes ∷ more)) i.in_first
      ∙ (ap (λ es. walk_events i.front_tokens ++ es) (more-tokens once room vs _ i.back_tokens i.back more i.in_second)
      ∙ sym (two-parts us i.front_tokens i.back_tokens more (blank_tokens _ at us t h ∙ (sign_tokens _ _ _ _ _ _ comma ∙ (blank_tokens _ _ _ _ blanks ∙ i.tokens_are)))))

  members-tokens : (once : Bool) (room : ℕ) (had : List (List ℕ)) (ms : Members) (at : ℕ) (us : List Token) (t : List ℕ) (more : List Event) → MembersText once room had ms at us t → members_events ms (closes ∷ more) ≡ walk_events us ++ more
  members-tokens once room had no_member at us t more h = object-end at us t more h
  members-tokens once room had (member place name v ms) at us t more h =
      let k = h.in_second in
      let colon = k.in_second in
      let sign = colon.in_second in
      let blanks = sign.in_second in
      let i = blanks.in_second in
      ap (λ p. a_key p name ∷ tree_events v (members_events ms (closes ∷ more))) k.in_first.place_is
      ∙ (ap (λ es. a_key (at + length h.front) name ∷ es) (value-tokens once room v _ i.front_tokens i.front (members_events ms (closes ∷ more)) i.in_first
      ∙ (ap (λ es. walk_events i.front_tokens ++ es) (more-members-tokens once room (name ∷ had) ms _ i.back_tokens i.back more i.in_second)
      ∙ sym (two-parts _ i.front_tokens i.back_tokens more (blank_tokens _ _ _ _ colon ∙ (sign_tokens _ _ _ _ _ _ sign ∙ (blank_tokens _ _ _ _ blanks ∙ i.tokens_are))))))
      ∙ ap (λ ts. walk_events ts ++ more) (sym (blank_tokens _ at us t h ∙ (k.tokens_are ∙ ap (λ ts. ts ++ k.back_tokens) k.in_first.tokens_are))))

  more-members-tokens : (once : Bool) (room : ℕ) (had : List (List ℕ)) (ms : Members) (at : ℕ) (us : List Token) (t : List ℕ) (more : List Event) → MoreMembers once room had ms at us t → members_events ms (closes ∷ more) ≡ walk_events us ++ more
  more-members-tokens once room had no_member at us t more h = object-end at us t more h
  more-members-tokens once room had (member place name v ms) at us t more h =
      let comma = h.in_second in
      let behind = comma.in_second in
      let k = behind.in_second in
      let colon = k.in_second in
      let sign = colon.in_second in
      let blanks = sign.in_second in
      let i = blanks.in_second in
      ap (λ p. a_key p name ∷ tree_events v (members_events ms (closes ∷ more))) k.in_first.place_is
      ∙ (ap (λ es. a_key (at + length h.front + length comma.front + length behind.front) name ∷ es) (value-tokens once room v _ i.front_tokens i.front (members_events ms (closes ∷ more)) i.in_first
      ∙ (ap (λ es. walk_events i.front_tokens ++ es) (more-members-tokens once room (name ∷ had) ms _ i.back_tokens i.back more i.in_second)
      ∙ sym (two-parts _ i.front_tokens i.back_tokens more (blank_tokens _ _ _ _ colon ∙ (sign_tokens _ _ _ _ _ _ sign ∙ (blank_tokens _ _ _ _ blanks ∙ i.tokens_are))))))
      ∙ ap (λ ts. walk_events ts ++ more) (sym (blank_tokens _ at us t h ∙ (sign_tokens _ _ _ _ _ _ comma ∙ (blank_tokens _ _ _ _ behind ∙ (k.tokens_are ∙ ap (λ ts. ts ++ k.back_tokens) k.in_first.tokens_are))))))

-- the tokens of a whole text
pub read-events : (start : ℕ) (text : List ℕ) (tree : Tree) (given : List Token) → Reads start text tree given → walk_events given ≡ tree_events tree []
read-events start text tree given h =
    let i = h.in_second in
    sym (value-tokens true depth_limit tree _ i.front_tokens i.front [] i.in_first
    ∙ (sym (walk-append i.front_tokens [])
    ∙ ap walk_events (sym (blank_tokens _ start given text h ∙ (i.tokens_are ∙ ap (λ ts. i.front_tokens ++ ts) i.in_second.tokens_are)))))
