-- The words in the events of what has been read stand in the bytes at their places.
use Rattle.std.proofs.Common.{ℕ, ◌+◌, ◌≡◌, inl, inr, sym, ◌∙◌, ap, subst, Bool, true, false, List, [], ◌∷◌, ◌++◌, length, codes, arith, append_assoc, length-append}
use Rattle.std.proofs.lemmas.List.{append-nil}
use Rattle.jl_model.specs.declared.scalars.Scalar.{Scalar}
use Rattle.jl_model.specs.declared.scalars.Scalar.TheVariants.{Null, Bool as boolean, Number, Str}
use Rattle.jl_model.specs.declared.tokens.Token.{Token}
use Rattle.jl_model.specs.JsonTree.{Tree, scalar, array, object, Trees, no_item, item, Members, no_member, member}
use Rattle.jl_model.specs.JsonText.{Then, Blanks, Colon, ValueText, ItemsText, MoreItems, MembersText, MoreMembers, IsScalar, depth_limit}
use Rattle.jl_defs.specs.OpenTree.{Open, unread, in_scalar, in_array, in_object, in_key, in_member, whole, IsUnread}
use Rattle.jl_defs.specs.OpenText.{Language, Either, Where, OpenPair, ItemsThen, MoreItemsThen, MembersThen, MoreMembersThen, OpenText, Opens}
use Rattle.jl_walk.specs.Due.{open_events}
use Rattle.jl_walk.specs.Events.{Event, closes, a_key, a_scalar, tree_events, items_events, members_events}

-- the word stands in the text, whose first byte has the place `at`, at its own place
abbrev pub WordAt : ℕ → List ℕ → ℕ → List ℕ → Type 0
WordAt at t q word = (before : List ℕ) × (behind : List ℕ) × (t ≡ before ++ (word ++ behind)) × (q ≡ at + length before)

abbrev pub Located : ℕ → List ℕ → Event → Type 0
Located at t (a_scalar q Null) = WordAt at t q (codes "null")
Located at t (a_scalar q (boolean true)) = WordAt at t q (codes "true")
Located at t (a_scalar q (boolean false)) = WordAt at t q (codes "false")
Located at t e = Unit {0}

abbrev pub AllLocated : ℕ → List ℕ → List Event → Type 0
AllLocated at t [] = Unit {0}
AllLocated at t (e ∷ es) = Located at t e × AllLocated at t es

word-left : (at : ℕ) (x y : List ℕ) (q : ℕ) (word : List ℕ) → WordAt at x q word → WordAt at (x ++ y) q word
word-left at x y q word (f, b, e, p) = (f, b ++ y, ap (λ z. z ++ y) e ∙ (append_assoc f (word ++ b) y ∙ ap (λ z. f ++ z) (append_assoc word b y)), p)

word-right : (at : ℕ) (x y : List ℕ) (q : ℕ) (word : List ℕ) → WordAt (at + length x) y q word → WordAt at (x ++ y) q word
word-right at x y q word (f, b, e, p) = (x ++ f, b, ap (λ z. x ++ z) e ∙ sym (append_assoc x f (word ++ b)), omega (arith, p, length-append x f))

-- where each word goes, each event that has a word goes
located-as : (at to : ℕ) (t u : List ℕ) → ((q : ℕ) (word : List ℕ) → WordAt at t q word → WordAt to u q word) → (e : Event) → Located at t e → Located to u e
located-as at to t u go (a_scalar q Null) l = go q (codes "null") l
located-as at to t u go (a_scalar q (boolean true)) l = go q (codes "true") l
located-as at to t u go (a_scalar q (boolean false)) l = go q (codes "false") l
located-as at to t u go z l = tt

-- what stands in a part stands in the whole
module _ (start : ℕ) (all : List ℕ) where
  abbrev Fits : ℕ → List ℕ → Type 0
  Fits at t = (e : Event) → Located at t e → Located start all e

  front-fits : (A B : Language) (at : ℕ) (us : List Token) (t : List ℕ) → (h : Then A B at us t) → Fits at t → Fits at h.front
  front-fits A B at us t h f e l = f e (subst (λ z. Located at z e) (sym h.text_is) (located-as at at h.front (h.front ++ h.back) (word-left at h.front h.back) e l))

  back-fits : (A B : Language) (at : ℕ) (us : List Token) (t : List ℕ) → (h : Then A B at us t) → Fits at t → Fits (at + length h.front) h.back
  back-fits A B at us t h f e l = f e (subst (λ z. Located at z e) (sym h.text_is) (located-as (at + length h.front) at h.back (h.front ++ h.back) (word-right at h.front h.back) e l))

  -- what stands behind the first five of six parts, as the value of a member does
  five-fits : (A B C D E L : Language) (at : ℕ) (us : List Token) (t : List ℕ) → (h : Then A (Then B (Then C (Then D (Then E L)))) at us t) → Fits at t →
      Fits (at + length h.front + length h.in_second.front + length h.in_second.in_second.front + length h.in_second.in_second.in_second.front + length h.in_second.in_second.in_second.in_second.front)
      h.in_second.in_second.in_second.in_second.back
  five-fits A B C D E L at us t h f =
      let k = h.in_second in
      let b = k.in_second in
      back-fits E L _ _ _ b.in_second.in_second (back-fits D _ _ _ _ b.in_second (back-fits C _ _ _ _ b (back-fits B _ _ _ _ k (back-fits A _ at us t h f))))

  word-whole : (at : ℕ) (t word : List ℕ) → t ≡ word → WordAt at t at word
  word-whole at t word e = ([], [], e ∙ sym (append-nil word), omega arith)

  scalar-located : (place at : ℕ) (v : Scalar) (t : List ℕ) → place ≡ at → IsScalar v t → Located at t (a_scalar place v)
  scalar-located place at Null t e s = subst (λ q. WordAt at t q (codes "null")) (sym e) (word-whole at t (codes "null") s)
  scalar-located place at (boolean true) t e s = subst (λ q. WordAt at t q (codes "true")) (sym e) (word-whole at t (codes "true") s)
  scalar-located place at (boolean false) t e s = subst (λ q. WordAt at t q (codes "false")) (sym e) (word-whole at t (codes "false") s)
  scalar-located place at (Number n) t e s = tt
  scalar-located place at (Str m) t e s = tt

  abbrev Are : List Event → Type 0
  Are es = AllLocated start all es

  mutual
    unfolding tree_events

    value-located : (once : Bool) (room : ℕ) (v : Tree) (at : ℕ) (us : List Token) (t : List ℕ) (more : List Event) → ValueText once room v at us t → Fits at t → Are more → Are (tree_events v more)
    value-located once room (scalar place s) at us t more h f a = (f (a_scalar place s) (scalar-located place at s t h.place_is h.spelled), a)
    value-located once room (array place xs) at us t more h f a =
        let i = h.spelled in (tt, items-located once h.left xs _ i.back_tokens i.back more i.in_second (back-fits _ _ at us t i f) a)
    value-located once room (object place ms) at us t more h f a =
        let i = h.spelled in (tt, members-located once h.left [] ms _ i.back_tokens i.back more i.in_second (back-fits _ _ at us t i f) a)

    items-located : (once : Bool) (room : ℕ) (xs : Trees) (at : ℕ) (us : List Token) (t : List ℕ) (more : List Event) → ItemsText once room xs at us t → Fits at t → Are more → Are (items_events xs (closes ∷ more))
    items-located once room no_item at us t more h f a = (tt, a)
    items-located once room (item v vs) at us t more h f a =
        let g = back-fits _ _ at us t h f in
        let i = h.in_second in
        value-located once room v _ i.front_tokens i.front _ i.in_first (front-fits _ _ _ _ _ i g) (more-located once room vs _ i.back_tokens i.back more i.in_second (back-fits _ _ _ _ _ i g) a)

    more-located : (once : Bool) (room : ℕ) (xs : Trees) (at : ℕ) (us : List Token) (t : List ℕ) (more : List Event) → MoreItems once room xs at us t → Fits at t → Are more → Are (items_events xs (closes ∷ more))
    more-located once room no_item at us t more h f a = (tt, a)
    more-located once room (item v vs) at us t more h f a =
        let g = back-fits _ _ at us t h f in
        let c = h.in_second in
        let k = back-fits _ _ _ _ _ c g in
        let b = c.in_second in
        let l = back-fits _ _ _ _ _ b k in
        let i = b.in_second in
        value-located once room v _ i.front_tokens i.front _ i.in_first (front-fits _ _ _ _ _ i l) (more-located once room vs _ i.back_tokens i.back more i.in_second (back-fits _ _ _ _ _ i l) a)

    members-located : (once : Bool) (room : ℕ) (had : List (List ℕ)) (ms : Members) (at : ℕ) (us : List Token) (t : List ℕ) (more : List Event) → MembersText once room had ms at us t → Fits at t → Are more → Are (members_events ms (closes ∷ more))
    members-located once room had no_member at us t more h f a = (tt, a)
    members-located once room had (member place name v ms) at us t more h f a =
        let g5 = five-fits _ _ _ _ _ _ at us t h f in
        let i = h.in_second.in_second.in_second.in_second.in_second in
        (tt, value-located once room v _ i.front_tokens i.front _ i.in_first (front-fits _ _ _ _ _ i g5) (more-members-located once room (name ∷ had) ms _ i.back_tokens i.back more i.in_second (back-fits _ _ _ _ _ i g5) a))

    more-members-located : (once : Bool) (room : ℕ) (had : List (List ℕ)) (ms : Members) (at : ℕ) (us : List Token) (t : List ℕ) (more : List Event) → MoreMembers once room had ms at us t → Fits at t → Are more → Are (members_events ms (closes ∷ more))
    more-members-located once room had no_member at us t more h f a = (tt, a)
    more-members-located once room had (member place name v ms) at us t more h f a =
        let comma = h.in_second in
        let pair = comma.in_second in
        let g5 = five-fits _ _ _ _ _ _ _ _ _ pair (back-fits _ _ _ _ _ comma (back-fits _ _ at us t h f)) in
        let i = pair.in_second.in_second.in_second.in_second.in_second in
        (tt, value-located once room v _ i.front_tokens i.front _ i.in_first (front-fits _ _ _ _ _ i g5) (more-members-located once room (name ∷ had) ms _ i.back_tokens i.back more i.in_second (back-fits _ _ _ _ _ i g5) a))

  -- closed parts, and then what is open
  abbrev Goes : Language → List Event → Type 0
  Goes L es = (at : ℕ) (us : List Token) (t : List ℕ) → L at us t → Fits at t → Are es

  mutual
    unfolding tree_events

    items-then : (once : Bool) (room : ℕ) (xs : Trees) (Bare : Type 0) (L : Language) (es : List Event) → Goes L es → (Bare → Are es) → Goes (ItemsThen once room xs Bare L) (items_events xs es)
    items-then once room no_item Bare L es go bare at us t h f = go at us t h f
    items-then once room (item v vs) Bare L es go bare at us t h f =
        let g = back-fits _ _ at us t h f in
        let i = h.in_second in
        value-located once room v _ i.front_tokens i.front _ i.in_first (front-fits _ _ _ _ _ i g) (more-then once room vs Bare L es go bare _ i.back_tokens i.back i.in_second.1 (back-fits _ _ _ _ _ i g))

    more-then : (once : Bool) (room : ℕ) (xs : Trees) (Bare : Type 0) (L : Language) (es : List Event) → Goes L es → (Bare → Are es) → Goes (MoreItemsThen once room xs Bare L) (items_events xs es)
    more-then once room no_item Bare L es go bare at us t (inl h) f = bare h.0
    more-then once room no_item Bare L es go bare at us t (inr h) f =
        let g = back-fits _ _ at us t h f in go _ _ _ h.in_second.in_second (back-fits _ _ _ _ _ h.in_second g)
    more-then once room (item v vs) Bare L es go bare at us t h f =
        let g = back-fits _ _ at us t h f in
        let c = h.in_second in
        let k = back-fits _ _ _ _ _ c g in
        let b = c.in_second in
        let l = back-fits _ _ _ _ _ b k in
        let i = b.in_second in
        value-located once room v _ i.front_tokens i.front _ i.in_first (front-fits _ _ _ _ _ i l) (more-then once room vs Bare L es go bare _ i.back_tokens i.back i.in_second.1 (back-fits _ _ _ _ _ i l))

  mutual
    unfolding tree_events

    members-then : (once : Bool) (room : ℕ) (had : List (List ℕ)) (ms : Members) (ends : List ℕ) (Bare : Type 0) (L : List (List ℕ) → Language) (es : List Event) → ((had : List (List ℕ)) → Goes (L had) es) → (Bare → Are es) →
        Goes (MembersThen once room had ms ends Bare L) (members_events ms es)
    members-then once room had no_member [] Bare L es go bare at us t h f = go had at us t h f
    members-then once room had no_member (x ∷ ends) Bare L es go bare at us t h f = absurd h
    members-then once room had (member place name v ms) [] Bare L es go bare at us t h f = absurd h
    members-then once room had (member place name v ms) (x ∷ ends) Bare L es go bare at us t h f =
        let g5 = five-fits _ _ _ _ _ _ at us t h f in
        let i = h.in_second.in_second.in_second.in_second.in_second in
        (tt, value-located once room v _ i.front_tokens i.front _ i.in_first (front-fits _ _ _ _ _ i g5) (more-members-then once room (name ∷ had) ms ends Bare L es go bare _ i.back_tokens i.back i.in_second.1.1 (back-fits _ _ _ _ _ i g5)))

    more-members-then : (once : Bool) (room : ℕ) (had : List (List ℕ)) (ms : Members) (ends : List ℕ) (Bare : Type 0) (L : List (List ℕ) → Language) (es : List Event) → ((had : List (List ℕ)) → Goes (L had) es) → (Bare → Are es) →
        Goes (MoreMembersThen once room had ms ends Bare L) (members_events ms es)
    more-members-then once room had no_member [] Bare L es go bare at us t (inl h) f = bare h.0
    more-members-then once room had no_member [] Bare L es go bare at us t (inr h) f =
        let g = back-fits _ _ at us t h f in go had _ _ _ h.in_second.in_second (back-fits _ _ _ _ _ h.in_second g)
    more-members-then once room had no_member (x ∷ ends) Bare L es go bare at us t h f = absurd h
    more-members-then once room had (member place name v ms) [] Bare L es go bare at us t h f = absurd h
    more-members-then once room had (member place name v ms) (x ∷ ends) Bare L es go bare at us t h f =
        let comma = h.in_second in
        let pair = comma.in_second in
        let g5 = five-fits _ _ _ _ _ _ _ _ _ pair (back-fits _ _ _ _ _ comma (back-fits _ _ at us t h f)) in
        let i = pair.in_second.in_second.in_second.in_second.in_second in
        (tt, value-located once room v _ i.front_tokens i.front _ i.in_first (front-fits _ _ _ _ _ i g5) (more-members-then once room (name ∷ had) ms ends Bare L es go bare _ i.back_tokens i.back i.in_second.1.1 (back-fits _ _ _ _ _ i g5)))

  bare-next : (next : Open) → IsUnread next → Are (open_events next)
  bare-next unread b = tt
  bare-next (in_scalar at first) b = tt
  bare-next next b = absurd b

  pair-located : (once : Bool) (a : ℕ) (name : List ℕ) (Bare : Type 0) (L : Language) (es : List Event) → Goes L es → (Bare → Are es) → (had : List (List ℕ)) → Goes (OpenPair once a name Bare L had) es
  pair-located once a name Bare L es go bare had at us t h f =
      let g = back-fits _ _ at us t h f in
      let k = h.in_second in
      value k.in_second (back-fits _ _ _ _ _ k g)
    where
      value : {at : ℕ} {us : List Token} {t : List ℕ} → Either (Where Bare Blanks) (Then Blanks (Then Colon L)) at us t → Fits at t → Are es
      value (inl b) f = bare b.0
      value (inr h) f = go _ _ _ h.in_second.in_second (back-fits _ _ _ _ _ h.in_second (back-fits _ _ _ _ _ h f))

  open-located : (once : Bool) (room : ℕ) (o : Open) → Goes (OpenText once room o) (open_events o)
  unfolding OpenText
  open-located once room unread at us t h f = tt
  open-located once room (in_scalar place first) at us t h f = tt
  open-located once room (in_array place xs next) at us t h f =
      let g = back-fits _ _ at us t h f in
      let c = h.in_second in
      let i = c.spelled in
      (tt, items-then once c.left xs (IsUnread next) (OpenText once c.left next) (open_events next) (λ at us t h f. open-located once c.left next at us t h f) (bare-next next) _ i.back_tokens i.back i.in_second (back-fits _ _ _ _ _ i g))
  open-located once room (in_object place ms ends) at us t h f =
      let g = back-fits _ _ at us t h f in
      let c = h.in_second in
      let i = c.spelled in
      (tt, members-then once c.left [] ms ends _ _ [] (λ had at us t h f. tt) (λ b. tt) _ i.back_tokens i.back i.in_second (back-fits _ _ _ _ _ i g))
  open-located once room (in_key place ms ends a) at us t h f =
      let g = back-fits _ _ at us t h f in
      let c = h.in_second in
      let i = c.spelled in
      (tt, members-then once c.left [] ms ends _ _ [] (λ had at us t h f. tt) (λ b. tt) _ i.back_tokens i.back i.in_second (back-fits _ _ _ _ _ i g))
  open-located once room (in_member place ms ends a name next) at us t h f =
      let g = back-fits _ _ at us t h f in
      let c = h.in_second in
      let i = c.spelled in (
        tt,
        members-then once c.left [] ms ends _ (OpenPair once a name (IsUnread next) (OpenText once c.left next)) (a_key a name ∷ open_events next)
            (λ had at us t h f. (tt, pair-located once a name (IsUnread next) (OpenText once c.left next) (open_events next) (λ at us t h f. open-located once c.left next at us t h f) (bare-next next) had at us t h f)) (λ b. absurd b)
            _ i.back_tokens i.back i.in_second (back-fits _ _ _ _ _ i g),
      )
  open-located once room (whole v) at us t h f = absurd h

-- the words of what has been read of a document
pub words-located : (bytes : List ℕ) (o : Open) → Opens bytes o → AllLocated 0 bytes (open_events o)
words-located bytes (whole v) (us, h) =
    let g = back-fits 0 bytes _ _ 0 us bytes h (λ e l. l) in
    let i = h.in_second in
    value-located 0 bytes true depth_limit v _ i.front_tokens i.front [] i.in_first (front-fits 0 bytes _ _ _ _ _ i g) tt
words-located bytes unread (us, h) = tt
words-located bytes (in_scalar place first) (us, h) = tt
words-located bytes (in_array place xs next) (us, h) = open-located 0 bytes true depth_limit (in_array place xs next) 0 us bytes h (λ e l. l)
words-located bytes (in_object place ms ends) (us, h) = open-located 0 bytes true depth_limit (in_object place ms ends) 0 us bytes h (λ e l. l)
words-located bytes (in_key place ms ends a) (us, h) = open-located 0 bytes true depth_limit (in_key place ms ends a) 0 us bytes h (λ e l. l)
words-located bytes (in_member place ms ends a n next) (us, h) = open-located 0 bytes true depth_limit (in_member place ms ends a n next) 0 us bytes h (λ e l. l)
