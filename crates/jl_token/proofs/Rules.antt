-- The rules of the grammar with what follows them, by their first sign.
use Rattle.std.proofs.Common.{ℕ, suc, ◌+◌, inl, inr, Bool, List, ◌∷◌, length}
use Rattle.jl_model.specs.declared.tokens.Token.{Token}
use Rattle.jl_model.specs.JsonTree.{Tree, Trees, Members}
use Rattle.jl_model.specs.JsonTree.Trees.{no_item, item}
use Rattle.jl_model.specs.JsonTree.Members.{no_member, member}
use Rattle.jl_model.specs.JsonText.{Then, Blanks, Comma, Colon, EndArray, EndObject, KeyText, ValueText, ItemsText, MoreItems, MembersText, MoreMembers}
use Rattle.jl_token.specs.declared.opens.Open.{Open}
use Rattle.jl_token.specs.declared.opens.Open.TheVariants as opens
use Rattle.jl_token.specs.Left.{Or, SomeValue, Rest, ValueRest, KeyRest, FirstItemRest, FirstKeyRest}
use Rattle.jl_token.proofs.Languages.{map_first, map_second, with_first, with_second, to_right, to_left, out3, in3, out5, in5, out7, in7, out9, in9}

module _ (once : Bool) (room : ℕ) (below : List Open) where
  -- what follows the container
  abbrev K : ℕ → List Token → List ℕ → Type 0
  K = Rest once (suc room) below

  abbrev pub ValueAndItems : ℕ → List Token → List ℕ → Type 0
  ValueAndItems = Then (SomeValue once room) (Rest once room (opens.Array ∷ below))

  some_value_items : (v : Tree) (vs : Trees) (at : ℕ) (us : List Token) (t : List ℕ) → Then (ValueText once room v) (Then (MoreItems once room vs) K) at us t → ValueAndItems at us t
  some_value_items v vs at us t h = map_first (λ _ _ _ x. (v, x)) (map_second (λ _ _ _ y. map_first (λ _ _ _ x. (vs, x)) y) h)

  this_value_items : (at : ℕ) (us : List Token) (t : List ℕ) → ValueAndItems at us t → (v : Tree) × (vs : Trees) × Then (ValueText once room v) (Then (MoreItems once room vs) K) at us t
  this_value_items at us t h = (h.in_first.0, h.in_second.in_first.0, with_second (with_first h h.in_first.1) (with_first h.in_second h.in_second.in_first.1))

  -- behind an item
  abbrev pub ItemGoes : ℕ → List Token → List ℕ → Type 0
  ItemGoes = Or (Then EndArray K) (Then Comma (ValueRest once room (opens.Array ∷ below)))

  abbrev pub ItemRest : ℕ → List Token → List ℕ → Type 0
  ItemRest = Then Blanks ItemGoes

  pub more_items_out : (at : ℕ) (us : List Token) (t : List ℕ) → Rest once room (opens.Array ∷ below) at us t → ItemRest at us t
  more_items_out at us t h = go h.in_first.0 (with_first h h.in_first.1)
    where
      go : (vs : Trees) → Then (MoreItems once room vs) K at us t → ItemRest at us t
      go no_item g = map_second (λ _ _ _ x. inl x) (to_right g)
      go (item v vs) g = map_second (λ _ _ _ x. inr (map_second (λ _ _ _ y. map_second (some_value_items v vs) y) x)) (out5 g)

  pub more_items_in : (at : ℕ) (us : List Token) (t : List ℕ) → ItemRest at us t → Rest once room (opens.Array ∷ below) at us t
  more_items_in at us t h = go h.in_second
    where
      go : Or (Then EndArray K) (Then Comma (ValueRest once room (opens.Array ∷ below))) (at + length h.front) h.back_tokens h.back → Rest once room (opens.Array ∷ below) at us t
      go (inl e) = map_first (λ _ _ _ x. (no_item, x)) (to_left (with_second h e))
      go (inr e) =
          let r = this_value_items _ _ _ e.in_second.in_second in
          map_first (λ _ _ _ x. (item r.0 r.1, x)) (in5 (with_second h (with_second e (with_second e.in_second r.2))))

  -- behind the bracket that opens an array
  pub items_out : (items : Trees) (at : ℕ) (us : List Token) (t : List ℕ) → Then (ItemsText once room items) K at us t → FirstItemRest once room below at us t
  items_out no_item at us t g = map_second (λ _ _ _ x. inl x) (to_right g)
  items_out (item v vs) at us t g = map_second (λ _ _ _ x. inr (some_value_items v vs _ _ _ x)) (out3 g)

  pub items_in : (at : ℕ) (us : List Token) (t : List ℕ) → FirstItemRest once room below at us t → (items : Trees) × Then (ItemsText once room items) K at us t
  items_in at us t h = go h.in_second
    where
      go : Or (Then EndArray K) ValueAndItems (at + length h.front) h.back_tokens h.back → (items : Trees) × Then (ItemsText once room items) K at us t
      go (inl e) = (no_item, to_left (with_second h e))
      go (inr e) =
          let r = this_value_items _ _ _ e in
          (item r.0 r.1, in3 (with_second h r.2))

  -- a key and what follows
  some_member : (had : List (List ℕ)) (place : ℕ) (name : List ℕ) (v : Tree) (ms : Members) (at : ℕ) (us : List Token) (t : List ℕ) → Then (KeyText once had place name) (Then Blanks (Then Colon (Then Blanks (Then (ValueText once room v) (Then (MoreMembers once room (name ∷ had) ms) K))))) at us t → KeyRest once room had below at us t
  some_member had place name v ms at us t h =
      (place, name, map_second (λ _ _ _ a. map_second (λ _ _ _ b. map_second (λ _ _ _ c. map_second (λ _ _ _ d. map_first (λ _ _ _ x. (v, x)) (map_second (λ _ _ _ y. map_first (λ _ _ _ x. (ms, x)) y) d)) c) b) a) h)

  this_member : (had : List (List ℕ)) (at : ℕ) (us : List Token) (t : List ℕ) → KeyRest once room had below at us t → (place : ℕ) × (name : List ℕ) × (v : Tree) × (ms : Members) × Then (KeyText once had place name) (Then Blanks (Then Colon (Then Blanks (Then (ValueText once room v) (Then (MoreMembers once room (name ∷ had) ms) K))))) at us t
  this_member had at us t h =
      let k = h.2 in
      let a = k.in_second in
      let b = a.in_second in
      let c = b.in_second in
      let d = c.in_second in
      (h.0, h.1, d.in_first.0, d.in_second.in_first.0, with_second k (with_second a (with_second b (with_second c (with_second (with_first d d.in_first.1) (with_first d.in_second d.in_second.in_first.1))))))

  -- behind a member
  abbrev pub MemberGoes : List (List ℕ) → ℕ → List Token → List ℕ → Type 0
  MemberGoes had = Or (Then EndObject K) (Then Comma (Then Blanks (KeyRest once room had below)))

  abbrev pub MemberRest : List (List ℕ) → ℕ → List Token → List ℕ → Type 0
  MemberRest had = Then Blanks (MemberGoes had)

  pub more_members_out : (had : List (List ℕ)) (at : ℕ) (us : List Token) (t : List ℕ) → Rest once room (opens.Object had ∷ below) at us t → MemberRest had at us t
  more_members_out had at us t h = go h.in_first.0 (with_first h h.in_first.1)
    where
      go : (ms : Members) → Then (MoreMembers once room had ms) K at us t → MemberRest had at us t
      go no_member g = map_second (λ _ _ _ x. inl x) (to_right g)
      go (member place name v ms) g = map_second (λ _ _ _ x. inr (map_second (λ _ _ _ y. map_second (some_member had place name v ms) y) x)) (out9 g)

  pub more_members_in : (had : List (List ℕ)) (at : ℕ) (us : List Token) (t : List ℕ) → MemberRest had at us t → Rest once room (opens.Object had ∷ below) at us t
  more_members_in had at us t h = go h.in_second
    where
      go : Or (Then EndObject K) (Then Comma (Then Blanks (KeyRest once room had below))) (at + length h.front) h.back_tokens h.back → Rest once room (opens.Object had ∷ below) at us t
      go (inl e) = map_first (λ _ _ _ x. (no_member, x)) (to_left (with_second h e))
      go (inr e) =
          let r = this_member had _ _ _ e.in_second.in_second in
          map_first (λ _ _ _ x. (member r.0 r.1 r.2 r.3, x)) (in9 (with_second h (with_second e (with_second e.in_second r.4))))

  -- behind the brace that opens an object
  pub members_out : (had : List (List ℕ)) (ms : Members) (at : ℕ) (us : List Token) (t : List ℕ) → Then (MembersText once room had ms) K at us t → FirstKeyRest once room had below at us t
  members_out had no_member at us t g = map_second (λ _ _ _ x. inl x) (to_right g)
  members_out had (member place name v ms) at us t g = map_second (λ _ _ _ x. inr (some_member had place name v ms _ _ _ x)) (out7 g)

  pub members_in : (had : List (List ℕ)) (at : ℕ) (us : List Token) (t : List ℕ) → FirstKeyRest once room had below at us t → (ms : Members) × Then (MembersText once room had ms) K at us t
  members_in had at us t h = go h.in_second
    where
      go : Or (Then EndObject K) (KeyRest once room had below) (at + length h.front) h.back_tokens h.back → (ms : Members) × Then (MembersText once room had ms) K at us t
      go (inl e) = (no_member, to_left (with_second h e))
      go (inr e) =
          let r = this_member had _ _ _ e in
          (member r.0 r.1 r.2 r.3, in7 (with_second h r.4))
