-- The closed items and members of what has been read are the first ones of the text that goes on.
use Rattle.std.proofs.Common.{◌≡◌, ℕ, inl, inr, Bool, List, [], ◌∷◌, refl, sym, ap, ◌∙◌, arith}
use Rattle.jl_model.specs.declared.scalars.Scalar.TheVariants.{Null, Bool as boolean, Number, Str}
use Rattle.jl_model.specs.declared.tokens.Token.{Token}
use Rattle.jl_model.specs.JsonTree.{Tree, scalar, array, object, Trees, no_item, item, Members, no_member, member}
use Rattle.jl_model.specs.JsonText.{Then, Sign, Blanks, Comma, Colon, EndArray, EndObject, KeyText, ValueText, ItemsText, MoreItems, MembersText, MoreMembers}
use Rattle.jl_defs.specs.Trees.{then_items, then_members}
use Rattle.jl_defs.specs.OpenText.{Language, Either, Where, IsNotEmpty, IsClosedBy, Behind, EndsAt, ItemsThen, MoreItemsThen, MembersThen, MoreMembersThen}
use Rattle.jl_laws.proofs.SameScalars.{Stop, Stops, First}
use Rattle.jl_laws.proofs.Meets.{Meet, Further, Starts, Solid, map-second, to-right, then-starts, sign-starts, key-starts, starts-on, map-left, map-right, past-blanks, past-sign, past-key, regroup-right, heads, solid-quote}
use Rattle.jl_laws.proofs.SameValues.{TreeByte, value-starts, tree-solid, no-close, Closes, CloseBy, Stopping, stopping, blank-stops-then, items-stop, members-stop, solid-byte, solid-44, solid-58, solid-93, solid-125, past-to-value, value-same}

-- ---- what stands behind a closed part

pub blanks-stop : Stopping Blanks
blanks-stop at us [] h = tt
blanks-stop at us (c ∷ t) h = inl h.blank.0

first-stop : (t : List ℕ) → IsNotEmpty t → Stops t → First Stop t
first-stop [] n s = absurd n
first-stop (c ∷ t) n s = s

closed-by : (v : Tree) (t : List ℕ) → IsClosedBy v t → Stops t → Closes v t
closed-by (scalar at Null) t n s = tt
closed-by (scalar at (boolean b)) t n s = tt
closed-by (scalar at (Number d)) t n s = first-stop t n s
closed-by (scalar at (Str m)) t n s = tt
closed-by (array at xs) t n s = tt
closed-by (object at ms) t n s = tt

pub behind-closes : (v : Tree) (L : Language) → Stopping L → CloseBy v (Behind v L)
behind-closes v L f at us t h = closed-by v t h.0 (f at us t h.1)

-- behind a closed part: an end that is bare, or a comma
either-stop : (Bare : Type 0) (L : Language) → Stopping (Either (Where Bare Blanks) (Then Blanks (Then Comma L)))
either-stop Bare L at us t (inl h) = blanks-stop at us t h.1
either-stop Bare L at us t (inr h) = stopping (Then Blanks (Then Comma L)) (blank-stops-then 44 _ L (inr (inl refl))) at us t h

-- ---- steps, where the open side has fewer parentheses

module _ (o p : Bool) (rest : List ℕ) where
  pub sign-open : (b c : ℕ) (f g : ℕ → List Token) (A B M : Language) (at : ℕ) → Solid b → Solid c → Meet (Then Blanks (Then (Sign b f) A)) (Then (Then Blanks (Then (Sign c g) B)) M) rest at → (b ≡ c) × Further A (Then B M) rest
  sign-open b c f g A B M at s t m =
      let S = Then (Sign b f) A in
      let T = Then (Sign c g) B in
      let a = past-blanks S (Then T M) rest at
      (starts-on (λ x. x ≡ b) Solid S (λ x e. solid-byte b x s e) (then-starts (λ x. x ≡ b) (Sign b f) A (sign-starts b f)))
      (then-starts Solid T M (starts-on (λ x. x ≡ c) Solid T (λ x e. solid-byte c x t e) (then-starts (λ x. x ≡ c) (Sign c g) B (sign-starts c g))))
      (regroup-right (Then Blanks S) Blanks T M rest at m) in
      past-sign b c f g A (Then B M) rest a.0 (regroup-right S (Sign c g) B M rest a.0 a.1)

  pub key-open : (had had' : List (List ℕ)) (place place' : ℕ) (n n' : List ℕ) (A B M : Language) (at : ℕ) → Meet (Then Blanks (Then (KeyText o had place n) A)) (Then (Then Blanks (Then (KeyText p had' place' n') B)) M) rest at →
      (place ≡ place') × (n ≡ n') × Further A (Then B M) rest
  key-open had had' place place' n n' A B M at m =
      let Q = KeyText o had place n in
      let Q' = KeyText p had' place' n' in
      let S = Then Q A in
      let T = Then Q' B in
      let a = past-blanks S (Then T M) rest at
      (then-starts Solid Q A (starts-on (λ c. c ≡ 34) Solid Q solid-quote (key-starts o had place n)))
      (then-starts Solid T M (then-starts Solid Q' B (starts-on (λ c. c ≡ 34) Solid Q' solid-quote (key-starts p had' place' n'))))
      (regroup-right (Then Blanks S) Blanks T M rest at m) in
      past-key o p had had' place place' n n' A (Then B M) rest a.0 (regroup-right S Q' B M rest a.0 a.1)

  -- behind blanks, with the value in front of all that follows
  pub to-value : (L B N M : Language) (at : ℕ) → Meet L (Then (Then Blanks (Then B N)) M) rest at → Meet L (Then Blanks (Then B (Then N M))) rest at
  to-value L B N M at m =
      map-right L (Then Blanks (Then (Then B N) M)) (Then Blanks (Then B (Then N M))) rest at
      (map-second Blanks (Then (Then B N) M) (Then B (Then N M)) (to-right B N M) at)
      (regroup-right L Blanks (Then B N) M rest at m)

  value-open : (room room' : ℕ) (v w : Tree) (L N M : Language) (at : ℕ) → Stopping L → Stopping (Then N M) →
      Meet (Then Blanks (Then (ValueText o room v) (Behind v L))) (Then (Then Blanks (Then (ValueText p room' w) N)) M) rest at → (v ≡ w) × Further L (Then N M) rest
  value-open room room' v w L N M at f g m =
      let A = ValueText o room v in
      let B = ValueText p room' w in
      let a = past-to-value o p rest room room' v w (Behind v L) (Then N M) at (to-value (Then Blanks (Then A (Behind v L))) B N M at m) in
      let b = value-same o p rest v w room room' (Behind v L) (Then N M) a.0 (behind-closes v L f) g a.1 in
      (b.0, (b.1.0, map-left (Behind v L) L (Then N M) rest b.1.0 (λ us t h. h.1) b.1.1))

  -- the first bytes behind blanks
  pub heads-open : (P Q : ℕ → Type 0) (L A M : Language) (at : ℕ) → ((c : ℕ) → P c → Solid c) → ((c : ℕ) → Q c → Solid c) → Starts P L → Starts Q A → Meet (Then Blanks L) (Then (Then Blanks A) M) rest at → (c : ℕ) × P c × Q c
  heads-open P Q L A M at f g s t m = heads P Q L (Then A M) rest at f g s (then-starts Q A M t) (regroup-right (Then Blanks L) Blanks A M rest at m)

  -- ---- items

  more-then-stops : (room : ℕ) (xs : Trees) (Bare : Type 0) (K : Language) → Stopping (MoreItemsThen o room xs Bare K)
  more-then-stops room no_item Bare K = either-stop Bare K
  more-then-stops room (item v xs) Bare K = stopping _ (blank-stops-then 44 _ (ItemsThen o room (item v xs) Bare K) (inr (inl refl)))

  item-open : (room room' : ℕ) (v w : Tree) (xs ys : Trees) (Bare : Type 0) (K M : Language) (at : ℕ) → Meet (ItemsThen o room (item v xs) Bare K) (Then (ItemsText p room' (item w ys)) M) rest at →
      (v ≡ w) × Further (MoreItemsThen o room xs Bare K) (Then (MoreItems p room' ys) M) rest
  item-open room room' v w xs ys Bare K M at m =
      let N = MoreItems p room' ys in
      value-open room room' v w (MoreItemsThen o room xs Bare K) N M at (more-then-stops room xs Bare K) (stopping (Then N M) (items-stop p room' ys M)) m

  no-item-left : (room : ℕ) (v : Tree) (L M : Language) (at : ℕ) → Meet (Then Blanks (Then (ValueText o room v) L)) (Then (Then Blanks EndArray) M) rest at → ⊥
  no-item-left room v L M at m =
      let h = heads-open (TreeByte v) (λ c. c ≡ 93) (Then (ValueText o room v) L) EndArray M at (tree-solid v) (λ c e. solid-byte 93 c solid-93 e)
      (then-starts (TreeByte v) (ValueText o room v) L (value-starts o room v)) (sign-starts 93 _) m in
      no-close v h.0 h.2 h.1

  no-sign-left : (b c : ℕ) (f g : ℕ → List Token) (L M : Language) (at : ℕ) → Solid b → Solid c → Meet (Then Blanks (Then (Sign b f) L)) (Then (Then Blanks (Sign c g)) M) rest at → b ≡ c
  no-sign-left b c f g L M at s t m =
      let h = heads-open (λ x. x ≡ b) (λ x. x ≡ c) (Then (Sign b f) L) (Sign c g) M at (λ x e. solid-byte b x s e) (λ x e. solid-byte c x t e)
      (then-starts (λ x. x ≡ b) (Sign b f) L (sign-starts b f)) (sign-starts c g) m in
      sym h.1 ∙ h.2

  pub no-key-left : (had : List (List ℕ)) (place : ℕ) (n : List ℕ) (L M : Language) (at : ℕ) → Meet (Then Blanks (Then (KeyText o had place n) L)) (Then (Then Blanks EndObject) M) rest at → ⊥
  no-key-left had place n L M at m =
      let Q = KeyText o had place n in
      let h = heads-open (λ x. x ≡ 34) (λ x. x ≡ 125) (Then Q L) EndObject M at solid-quote (λ x e. solid-byte 125 x solid-125 e) (then-starts (λ x. x ≡ 34) Q L (key-starts o had place n)) (sign-starts 125 _) m in
      omega (arith, h.1, h.2)

  -- no comma goes on as an end
  no-comma-left : (c : ℕ) (g : ℕ → List Token) (L M : Language) (at : ℕ) → Solid c → (c ≡ 44 → ⊥) → Meet (Then Blanks (Then Comma L)) (Then (Then Blanks (Sign c g)) M) rest at → ⊥
  no-comma-left c g L M at s d m = d (sym (no-sign-left 44 c _ g L M at solid-44 s m))

  module _ (room room' : ℕ) (Bare : Type 0) (K M : Language) (G : Trees → Type 0) (bare : Bare → (zs : Trees) → G zs) (then : (zs : Trees) (at : ℕ) → Meet K (Then (ItemsText p room' zs) M) rest at → G zs) where
    abbrev Rest : Trees → Trees → Type 0
    Rest xs ys = (zs : Trees) × (ys ≡ then_items xs zs) × G zs

    one-more : (v w : Tree) (xs ys : Trees) → v ≡ w → Rest xs ys → Rest (item v xs) (item w ys)
    one-more v w xs ys e (zs, i, g) = (zs, ap (λ z. item z ys) (sym e) ∙ ap (λ z. item v z) i, g)

    more-none : (ys : Trees) (at : ℕ) → Meet (Then Blanks (Then Comma K)) (Then (MoreItems p room' ys) M) rest at → G ys
    more-none no_item at m = absurd (no-comma-left 93 _ K M at solid-93 (λ e. omega (arith, e)) m)
    more-none (item w ys) at m =
        let a = sign-open 44 44 _ _ K (ItemsText p room' (item w ys)) M at solid-44 solid-44 m in
        then (item w ys) a.1.0 a.1.1

    more-either : (ys : Trees) (at : ℕ) → Meet (Either (Where Bare Blanks) (Then Blanks (Then Comma K))) (Then (MoreItems p room' ys) M) rest at → G ys
    more-either ys at m = go m.left
      where
        go : Either (Where Bare Blanks) (Then Blanks (Then Comma K)) at m.us m.text → G ys
        go (inl h) = bare h.0 ys
        go (inr h) = more-none ys at (record { us = m.us; vs = m.vs; text = m.text; whole = m.whole; goes_on = m.goes_on; left = h; right = m.right })

    more-then : (xs ys : Trees) (at : ℕ) → Meet (MoreItemsThen o room xs Bare K) (Then (MoreItems p room' ys) M) rest at → Rest xs ys
    more-then no_item ys at m = (ys, refl, more-either ys at m)
    more-then (item v xs) no_item at m = absurd (no-comma-left 93 _ (ItemsThen o room (item v xs) Bare K) M at solid-93 (λ e. omega (arith, e)) m)
    more-then (item v xs) (item w ys) at m =
        let a = sign-open 44 44 _ _ (ItemsThen o room (item v xs) Bare K) (ItemsText p room' (item w ys)) M at solid-44 solid-44 m in
        let b = item-open room room' v w xs ys Bare K M a.1.0 a.1.1 in
        one-more v w xs ys b.0 (more-then xs ys b.1.0 b.1.1)

    pub items-then : (xs ys : Trees) (at : ℕ) → Meet (ItemsThen o room xs Bare K) (Then (ItemsText p room' ys) M) rest at → Rest xs ys
    items-then no_item ys at m = (ys, refl, then ys at m)
    items-then (item v xs) no_item at m = absurd (no-item-left room v _ M at m)
    items-then (item v xs) (item w ys) at m =
        let b = item-open room room' v w xs ys Bare K M at m in
        one-more v w xs ys b.0 (more-then xs ys b.1.0 b.1.1)

  -- ---- members

  more-members-then-stops : (room : ℕ) (had : List (List ℕ)) (ms : Members) (ends : List ℕ) (Bare : Type 0) (K : List (List ℕ) → Language) → Stopping (MoreMembersThen o room had ms ends Bare K)
  more-members-then-stops room had no_member [] Bare K = either-stop Bare (K had)
  more-members-then-stops room had no_member (e ∷ ends) Bare K = λ at us t h. absurd h
  more-members-then-stops room had (member a n v ms) [] Bare K = λ at us t h. absurd h
  more-members-then-stops room had (member a n v ms) (e ∷ ends) Bare K = stopping _ (blank-stops-then 44 _ (MembersThen o room had (member a n v ms) (e ∷ ends) Bare K) (inr (inl refl)))

  -- an open member against a closed one
  member-open : (room room' : ℕ) (had had' : List (List ℕ)) (a b end : ℕ) (n n' : List ℕ) (v w : Tree) (ms ns : Members) (ends : List ℕ) (Bare : Type 0) (K : List (List ℕ) → Language) (M : Language) (at : ℕ) →
      Meet (MembersThen o room had (member a n v ms) (end ∷ ends) Bare K) (Then (MembersText p room' had' (member b n' w ns)) M) rest at →
      (a ≡ b) × (n ≡ n') × (v ≡ w) × Further (MoreMembersThen o room (n ∷ had) ms ends Bare K) (Then (MoreMembers p room' (n' ∷ had') ns) M) rest
  member-open room room' had had' a b end n n' v w ms ns ends Bare K M at m =
      let Y = MoreMembersThen o room (n ∷ had) ms ends Bare K in
      let N = MoreMembers p room' (n' ∷ had') ns in
      let A = ValueText o room v in
      let B = ValueText p room' w in
      let X = Then Blanks (Then A (EndsAt end (Behind v Y))) in
      let F = Then Blanks (Then B N) in
      let i = key-open had had' a b n n' (Then Blanks (Then Colon X)) (Then Blanks (Then Colon F)) M at m in
      let j = sign-open 58 58 _ _ X F M i.2.0 solid-58 solid-58 i.2.1 in
      let X' = Then Blanks (Then A (Behind v Y)) in
      let inner = λ (at : ℕ) (us : List Token) (t : List ℕ) (h : Then A (EndsAt end (Behind v Y)) at us t). map-second A (EndsAt end (Behind v Y)) (Behind v Y) (λ at us t h. h.1) at us t h in
      let k = map-left X X' (Then F M) rest j.1.0 (map-second Blanks (Then A (EndsAt end (Behind v Y))) (Then A (Behind v Y)) inner j.1.0) j.1.1 in
      let l = value-open room room' v w Y N M j.1.0 (more-members-then-stops room (n ∷ had) ms ends Bare K) (stopping (Then N M) (members-stop p room' (n' ∷ had') ns M)) k in
      (i.0, i.1, l.0, l.1)

  module _ (room room' : ℕ) (Bare : Type 0) (K : List (List ℕ) → Language) (M : Language) (G : Members → Type 0) (bare : Bare → (zs : Members) → G zs)
      (then : (had had' : List (List ℕ)) (zs : Members) (at : ℕ) → Meet (K had) (Then (MembersText p room' had' zs) M) rest at → G zs) where
    abbrev RestOf : Members → Members → Type 0
    RestOf ms ns = (zs : Members) × (ns ≡ then_members ms zs) × G zs

    same-member : (a b : ℕ) (n n' : List ℕ) (v w : Tree) (ms ns zs : Members) → a ≡ b → n ≡ n' → v ≡ w → ns ≡ then_members ms zs → member b n' w ns ≡ member a n v (then_members ms zs)
    same-member a b n n' v w ms ns zs e f g h = cc

    member-more : (a b : ℕ) (n n' : List ℕ) (v w : Tree) (ms ns : Members) → a ≡ b → n ≡ n' → v ≡ w → RestOf ms ns → RestOf (member a n v ms) (member b n' w ns)
    member-more a b n n' v w ms ns e f g (zs, i, h) = (zs, same-member a b n n' v w ms ns zs e f g i, h)

    no-more-member : (had had' : List (List ℕ)) (ns : Members) (at : ℕ) → Meet (Then Blanks (Then Comma (K had))) (Then (MoreMembers p room' had' ns) M) rest at → G ns
    no-more-member had had' no_member at m = absurd (no-comma-left 125 _ (K had) M at solid-125 (λ e. omega (arith, e)) m)
    no-more-member had had' (member b n w ns) at m =
        let a = sign-open 44 44 _ _ (K had) (MembersText p room' had' (member b n w ns)) M at solid-44 solid-44 m in
        then had had' (member b n w ns) a.1.0 a.1.1

    either-member : (had had' : List (List ℕ)) (ns : Members) (at : ℕ) → Meet (Either (Where Bare Blanks) (Then Blanks (Then Comma (K had)))) (Then (MoreMembers p room' had' ns) M) rest at → G ns
    either-member had had' ns at m = go m.left
      where
        go : Either (Where Bare Blanks) (Then Blanks (Then Comma (K had))) at m.us m.text → G ns
        go (inl h) = bare h.0 ns
        go (inr h) = no-more-member had had' ns at (record { us = m.us; vs = m.vs; text = m.text; whole = m.whole; goes_on = m.goes_on; left = h; right = m.right })

    more-members-then : (ms : Members) (ends : List ℕ) (ns : Members) (had had' : List (List ℕ)) (at : ℕ) → Meet (MoreMembersThen o room had ms ends Bare K) (Then (MoreMembers p room' had' ns) M) rest at → RestOf ms ns
    more-members-then no_member [] ns had had' at m = (ns, refl, either-member had had' ns at m)
    more-members-then no_member (e ∷ ends) ns had had' at m = absurd m.left
    more-members-then (member a n v ms) [] ns had had' at m = absurd m.left
    more-members-then (member a n v ms) (e ∷ ends) no_member had had' at m = absurd (no-comma-left 125 _ (MembersThen o room had (member a n v ms) (e ∷ ends) Bare K) M at solid-125 (λ e. omega (arith, e)) m)
    more-members-then (member a n v ms) (e ∷ ends) (member b n' w ns) had had' at m =
        let c = sign-open 44 44 _ _ (MembersThen o room had (member a n v ms) (e ∷ ends) Bare K) (MembersText p room' had' (member b n' w ns)) M at solid-44 solid-44 m in
        let d = member-open room room' had had' a b e n n' v w ms ns ends Bare K M c.1.0 c.1.1 in
        member-more a b n n' v w ms ns d.0 d.1 d.2 (more-members-then ms ends ns (n ∷ had) (n' ∷ had') d.3.0 d.3.1)

    pub members-then : (ms : Members) (ends : List ℕ) (ns : Members) (had had' : List (List ℕ)) (at : ℕ) → Meet (MembersThen o room had ms ends Bare K) (Then (MembersText p room' had' ns) M) rest at → RestOf ms ns
    members-then no_member [] ns had had' at m = (ns, refl, then had had' ns at m)
    members-then no_member (e ∷ ends) ns had had' at m = absurd m.left
    members-then (member a n v ms) [] ns had had' at m = absurd m.left
    members-then (member a n v ms) (e ∷ ends) no_member had had' at m = absurd (no-key-left had a n _ M at m)
    members-then (member a n v ms) (e ∷ ends) (member b n' w ns) had had' at m =
        let d = member-open room room' had had' a b e n n' v w ms ns ends Bare K M at m in
        member-more a b n n' v w ms ns d.0 d.1 d.2 (more-members-then ms ends ns (n ∷ had) (n' ∷ had') d.3.0 d.3.1)
