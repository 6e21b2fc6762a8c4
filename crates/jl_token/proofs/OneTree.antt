-- The tokens of a value tell its tree.
use Rattle.std.proofs.Common.{◌≡◌, ℕ, ◌+◌, Bool, List, [], ◌∷◌, ◌++◌, length, refl, sym, ap, ◌∙◌, subst, append_assoc}
use Rattle.jl_model.specs.declared.tokens.Token.{Token}
use Rattle.jl_model.specs.declared.tokens.Token.TheVariants as tokens
use Rattle.jl_model.specs.JsonTree.{Tree, Trees, Members}
use Rattle.jl_model.specs.JsonTree.Tree.{scalar, array, object}
use Rattle.jl_model.specs.JsonTree.Trees.{no_item, item}
use Rattle.jl_model.specs.JsonTree.Members.{no_member, member}
use Rattle.jl_model.specs.JsonText.{Then, Sign, Blanks, ValueText, ItemsText, MoreItems, MembersText, MoreMembers, JsonText}

-- a token that begins a value
abbrev pub Starts : Token → Type 0
Starts (tokens.OpenObject at) = Unit {0}
Starts (tokens.OpenArray at) = Unit {0}
Starts (tokens.Value at s) = Unit {0}
Starts _ = ⊥

-- tokens of two parts, the first of which has none
pub blank_tokens : (K : ℕ → List Token → List ℕ → Type 0) (at : ℕ) (us : List Token) (t : List ℕ) → (h : Then Blanks K at us t) → us ≡ h.back_tokens
blank_tokens K at us t h = h.tokens_are ∙ ap (λ x. x ++ h.back_tokens) h.in_first.tokens_are

pub sign_tokens : (byte : ℕ) (made : ℕ → List Token) (K : ℕ → List Token → List ℕ → Type 0) (at : ℕ) (us : List Token) (t : List ℕ) → (h : Then (Sign byte made) K at us t) → us ≡ made at ++ h.back_tokens
sign_tokens byte made K at us t h = h.tokens_are ∙ ap (λ x. x ++ h.back_tokens) h.in_first.tokens_are

module _ (once : Bool) where
  -- the first token of a value begins one
  value_starts : (room : ℕ) (v : Tree) (at : ℕ) (us : List Token) (t : List ℕ) → ValueText once room v at us t → (x : Token) × (xs : List Token) × (us ≡ x ∷ xs) × Starts x
  value_starts room (scalar place s) at us t h = (tokens.Value at s, [], h.tokens_are, tt)
  value_starts room (array place items) at us t h = (tokens.OpenArray at, h.spelled.back_tokens, sign_tokens _ _ _ _ _ _ h.spelled, tt)
  value_starts room (object place members) at us t h = (tokens.OpenObject at, h.spelled.back_tokens, sign_tokens _ _ _ _ _ _ h.spelled, tt)

  first_is : (x y : Token) (xs ys : List Token) → x ∷ xs ≡ y ∷ ys → x ≡ y
  first_is x y xs ys e = cc

  others_are : (x y : Token) (xs ys : List Token) → x ∷ xs ≡ y ∷ ys → xs ≡ ys
  others_are x y xs ys e = cc

  -- no value begins with a token that begins none
  no_value_there : (room : ℕ) (v : Tree) (at : ℕ) (us : List Token) (t : List ℕ) (y : Token) (ys k : List Token) → ValueText once room v at us t → us ++ k ≡ y ∷ ys → (Starts y → ⊥) → ⊥
  no_value_there room v at us t y ys k h e n =
      let r = value_starts room v at us t h in
      n (subst Starts (first_is r.0 y (r.1 ++ k) ys (ap (λ x. x ++ k) (sym r.2) ∙ e)) r.3)

  abbrev Same : (A : Type 0) → A → A → List Token → List Token → Type 0
  Same A a b k l = (a ≡ b) × (k ≡ l)

  -- a value and more items, by their tokens
  record Parts (room : ℕ) (v : Tree) (vs : Trees) (us : List Token) : Type 0 where
    one : List Token
    rest : List Token
    at : ℕ
    there : ℕ
    text : List ℕ
    behind : List ℕ
    tokens_are : us ≡ one ++ rest
    is_value : ValueText once room v at one text
    are_items : MoreItems once room vs there rest behind

  parts : (room : ℕ) (v : Tree) (vs : Trees) (at : ℕ) (us : List Token) (t : List ℕ) → Then Blanks (Then (ValueText once room v) (MoreItems once room vs)) at us t → Parts room v vs us
  parts room v vs at us t h = let i = h.in_second in record { one = i.front_tokens; rest = i.back_tokens; at = at + length h.front; there = at + length h.front + length i.front; text = i.front; behind = i.back; tokens_are = blank_tokens _ at us t h ∙ i.tokens_are; is_value = i.in_first; are_items = i.in_second }

  more_parts : (room : ℕ) (v : Tree) (vs : Trees) (at : ℕ) (us : List Token) (t : List ℕ) → MoreItems once room (item v vs) at us t → Parts room v vs us
  more_parts room v vs at us t h =
      let p = parts room v vs _ _ _ h.in_second.in_second in
      record { one = p.one; rest = p.rest; at = p.at; there = p.there; text = p.text; behind = p.behind; tokens_are = blank_tokens _ at us t h ∙ sign_tokens 44 (λ _. []) _ _ _ _ h.in_second ∙ p.tokens_are; is_value = p.is_value; are_items = p.are_items }

  pub record KeyParts (room place : ℕ) (name : List ℕ) (v : Tree) (ms : Members) (us : List Token) : Type 0 where
    pub had : List (List ℕ)
    pub one : List Token
    pub rest : List Token
    pub at : ℕ
    pub there : ℕ
    pub text : List ℕ
    pub behind : List ℕ
    pub tokens_are : us ≡ tokens.Key place name ∷ (one ++ rest)
    pub is_value : ValueText once room v at one text
    pub are_members : MoreMembers once room had ms there rest behind

  pub key_parts : (room : ℕ) (had : List (List ℕ)) (place : ℕ) (name : List ℕ) (v : Tree) (ms : Members) (at : ℕ) (us : List Token) (t : List ℕ) → MembersText once room had (member place name v ms) at us t → KeyParts room place name v ms us
  key_parts room had place name v ms at us t h =
      let k = h.in_second in
      let c = k.in_second in
      let d = c.in_second in
      let e = d.in_second in
      let i = e.in_second in
      record {
        had = name ∷ had;
        one = i.front_tokens;
        rest = i.back_tokens;
        at = _;
        there = _;
        text = i.front;
        behind = i.back;
        tokens_are = blank_tokens _ at us t h ∙ k.tokens_are ∙ ap (λ x. x ++ k.back_tokens) (k.in_first.tokens_are ∙ ap (λ x. tokens.Key x name ∷ []) (sym k.in_first.place_is)) ∙ ap (λ x. tokens.Key place name ∷ x) (blank_tokens _ _ _ _ c ∙ sign_tokens 58 (λ _. []) _ _ _ _ d ∙ blank_tokens _ _ _ _ e ∙ i.tokens_are);
        is_value = i.in_first;
        are_members = i.in_second;
      }

  pub more_key_parts : (room : ℕ) (had : List (List ℕ)) (place : ℕ) (name : List ℕ) (v : Tree) (ms : Members) (at : ℕ) (us : List Token) (t : List ℕ) → MoreMembers once room had (member place name v ms) at us t → KeyParts room place name v ms us
  more_key_parts room had place name v ms at us t h =
      let p = key_parts room had place name v ms _ _ _ h.in_second.in_second in
      record { had = p.had; one = p.one; rest = p.rest; at = p.at; there = p.there; text = p.text; behind = p.behind; tokens_are = blank_tokens _ at us t h ∙ sign_tokens 44 (λ _. []) _ _ _ _ h.in_second ∙ p.tokens_are; is_value = p.is_value; are_members = p.are_members }

  close_array : (room at : ℕ) (us : List Token) (t : List ℕ) → ItemsText once room no_item at us t → (n : ℕ) × (us ≡ tokens.CloseArray n ∷ [])
  close_array room at us t h = (at + length h.front, blank_tokens _ at us t h ∙ h.in_second.tokens_are)

  pub close_object : (room : ℕ) (had : List (List ℕ)) (at : ℕ) (us : List Token) (t : List ℕ) → MembersText once room had no_member at us t → (n : ℕ) × (us ≡ tokens.CloseObject n ∷ [])
  close_object room had at us t h = (at + length h.front, blank_tokens _ at us t h ∙ h.in_second.tokens_are)

  -- an end and an item
  end_or_item : (room : ℕ) (v : Tree) (vs : Trees) (us k l : List Token) (n : ℕ) → Parts room v vs us → us ++ k ≡ tokens.CloseArray n ∷ l → ⊥
  end_or_item room v vs us k l n p e = no_value_there room v p.at p.one p.text (tokens.CloseArray n) l (p.rest ++ k) p.is_value (sym (append_assoc p.one p.rest k) ∙ ap (λ x. x ++ k) (sym p.tokens_are) ∙ e) (λ x. x)

  meet : (us vs a b c d k l : List Token) → us ≡ a ++ b → vs ≡ c ++ d → us ++ k ≡ vs ++ l → a ++ (b ++ k) ≡ c ++ (d ++ l)
  meet us vs a b c d k l e f q = sym (append_assoc a b k) ∙ ap (λ x. x ++ k) (sym e) ∙ q ∙ ap (λ x. x ++ l) f ∙ append_assoc c d l

  same_member : (p q : ℕ) (c d : List ℕ) (v w : Tree) (xs ys : Members) → tokens.Key p c ≡ tokens.Key q d → v ≡ w → xs ≡ ys → member p c v xs ≡ member q d w ys
  same_member p q c d v w xs ys e f g = cc

  mutual
    one_value : (v w : Tree) (r s a b : ℕ) (us vs k l : List Token) (t u : List ℕ) → ValueText once r v a us t → ValueText once s w b vs u → us ++ k ≡ vs ++ l → (v ≡ w) × (k ≡ l)
    one_value (scalar p x) (scalar q y) r s a b us vs k l t u g h e =
        let i : tokens.Value a x ∷ k ≡ tokens.Value b y ∷ l = ap (λ z. z ++ k) (sym g.tokens_are) ∙ e ∙ ap (λ z. z ++ l) h.tokens_are in
        let j : p ≡ a = g.place_is in
        let m : q ≡ b = h.place_is in
        (cc, cc)
    one_value (scalar p x) (array q ys) r s a b us vs k l t u g h e =
        let i : tokens.Value a x ∷ k ≡ tokens.OpenArray b ∷ (h.spelled.back_tokens ++ l) = ap (λ z. z ++ k) (sym g.tokens_are) ∙ e ∙ ap (λ z. z ++ l) (sign_tokens _ _ _ _ _ _ h.spelled) in cc
    one_value (scalar p x) (object q ys) r s a b us vs k l t u g h e =
        let i : tokens.Value a x ∷ k ≡ tokens.OpenObject b ∷ (h.spelled.back_tokens ++ l) = ap (λ z. z ++ k) (sym g.tokens_are) ∙ e ∙ ap (λ z. z ++ l) (sign_tokens _ _ _ _ _ _ h.spelled) in cc
    one_value (array p xs) (scalar q y) r s a b us vs k l t u g h e =
        let i : tokens.OpenArray a ∷ (g.spelled.back_tokens ++ k) ≡ tokens.Value b y ∷ l = ap (λ z. z ++ k) (sym (sign_tokens _ _ _ _ _ _ g.spelled)) ∙ e ∙ ap (λ z. z ++ l) h.tokens_are in cc
    one_value (object p xs) (scalar q y) r s a b us vs k l t u g h e =
        let i : tokens.OpenObject a ∷ (g.spelled.back_tokens ++ k) ≡ tokens.Value b y ∷ l = ap (λ z. z ++ k) (sym (sign_tokens _ _ _ _ _ _ g.spelled)) ∙ e ∙ ap (λ z. z ++ l) h.tokens_are in cc
    one_value (array p xs) (object q ys) r s a b us vs k l t u g h e =
        let i : tokens.OpenArray a ∷ (g.spelled.back_tokens ++ k) ≡ tokens.OpenObject b ∷ (h.spelled.back_tokens ++ l) = ap (λ z. z ++ k) (sym (sign_tokens _ _ _ _ _ _ g.spelled)) ∙ e ∙ ap (λ z. z ++ l) (sign_tokens _ _ _ _ _ _ h.spelled) in cc
    one_value (object p xs) (array q ys) r s a b us vs k l t u g h e =
        let i : tokens.OpenObject a ∷ (g.spelled.back_tokens ++ k) ≡ tokens.OpenArray b ∷ (h.spelled.back_tokens ++ l) = ap (λ z. z ++ k) (sym (sign_tokens _ _ _ _ _ _ g.spelled)) ∙ e ∙ ap (λ z. z ++ l) (sign_tokens _ _ _ _ _ _ h.spelled) in cc
    one_value (array p xs) (array q ys) r s a b us vs k l t u g h e =
        let i : tokens.OpenArray a ∷ (g.spelled.back_tokens ++ k) ≡ tokens.OpenArray b ∷ (h.spelled.back_tokens ++ l) = ap (λ z. z ++ k) (sym (sign_tokens _ _ _ _ _ _ g.spelled)) ∙ e ∙ ap (λ z. z ++ l) (sign_tokens _ _ _ _ _ _ h.spelled) in
        let j : p ≡ a = g.place_is in
        let m : q ≡ b = h.place_is in
        let o = one_items xs ys g.left h.left _ _ g.spelled.back_tokens h.spelled.back_tokens k l _ _ g.spelled.in_second h.spelled.in_second (others_are _ _ _ _ i) in
        let n : xs ≡ ys = o.0 in
        let d : a ≡ b = let f : tokens.OpenArray a ≡ tokens.OpenArray b = first_is _ _ _ _ i in cc in
        (cc, o.1)
    one_value (object p xs) (object q ys) r s a b us vs k l t u g h e =
        let i : tokens.OpenObject a ∷ (g.spelled.back_tokens ++ k) ≡ tokens.OpenObject b ∷ (h.spelled.back_tokens ++ l) = ap (λ z. z ++ k) (sym (sign_tokens _ _ _ _ _ _ g.spelled)) ∙ e ∙ ap (λ z. z ++ l) (sign_tokens _ _ _ _ _ _ h.spelled) in
        let j : p ≡ a = g.place_is in
        let m : q ≡ b = h.place_is in
        let o = one_members xs ys g.left h.left [] [] _ _ g.spelled.back_tokens h.spelled.back_tokens k l _ _ g.spelled.in_second h.spelled.in_second (others_are _ _ _ _ i) in
        let n : xs ≡ ys = o.0 in
        let d : a ≡ b = let f : tokens.OpenObject a ≡ tokens.OpenObject b = first_is _ _ _ _ i in cc in
        (cc, o.1)

    one_items : (xs ys : Trees) (r s a b : ℕ) (us vs k l : List Token) (t u : List ℕ) → ItemsText once r xs a us t → ItemsText once s ys b vs u → us ++ k ≡ vs ++ l → (xs ≡ ys) × (k ≡ l)
    one_items no_item no_item r s a b us vs k l t u g h e =
        let x = close_array r a us t g in
        let y = close_array s b vs u h in
        (refl, others_are _ _ _ _ (let i : tokens.CloseArray x.0 ∷ k ≡ tokens.CloseArray y.0 ∷ l = ap (λ z. z ++ k) (sym x.1) ∙ e ∙ ap (λ z. z ++ l) y.1 in i))
    one_items no_item (item w ws) r s a b us vs k l t u g h e =
        let x = close_array r a us t g in
        absurd (end_or_item s w ws vs l k x.0 (parts s w ws b vs u h) (sym e ∙ ap (λ z. z ++ k) x.1))
    one_items (item v xs) no_item r s a b us vs k l t u g h e =
        let y = close_array s b vs u h in
        absurd (end_or_item r v xs us k l y.0 (parts r v xs a us t g) (e ∙ ap (λ z. z ++ l) y.1))
    one_items (item v xs) (item w ws) r s a b us vs k l t u g h e =
        let x = parts r v xs a us t g in
        let y = parts s w ws b vs u h in
        let o = one_value v w r s x.at y.at x.one y.one (x.rest ++ k) (y.rest ++ l) x.text y.text x.is_value y.is_value (meet us vs x.one x.rest y.one y.rest k l x.tokens_are y.tokens_are e) in
        let n = one_more xs ws r s x.there y.there x.rest y.rest k l x.behind y.behind x.are_items y.are_items o.1 in
        (ap (λ z. item z xs) o.0 ∙ ap (λ z. item w z) n.0, n.1)

    one_more : (xs ys : Trees) (r s a b : ℕ) (us vs k l : List Token) (t u : List ℕ) → MoreItems once r xs a us t → MoreItems once s ys b vs u → us ++ k ≡ vs ++ l → (xs ≡ ys) × (k ≡ l)
    one_more no_item no_item r s a b us vs k l t u g h e =
        let x = close_array r a us t g in
        let y = close_array s b vs u h in
        (refl, others_are _ _ _ _ (let i : tokens.CloseArray x.0 ∷ k ≡ tokens.CloseArray y.0 ∷ l = ap (λ z. z ++ k) (sym x.1) ∙ e ∙ ap (λ z. z ++ l) y.1 in i))
    one_more no_item (item w ws) r s a b us vs k l t u g h e =
        let x = close_array r a us t g in
        absurd (end_or_item s w ws vs l k x.0 (more_parts s w ws b vs u h) (sym e ∙ ap (λ z. z ++ k) x.1))
    one_more (item v xs) no_item r s a b us vs k l t u g h e =
        let y = close_array s b vs u h in
        absurd (end_or_item r v xs us k l y.0 (more_parts r v xs a us t g) (e ∙ ap (λ z. z ++ l) y.1))
    one_more (item v xs) (item w ws) r s a b us vs k l t u g h e =
        let x = more_parts r v xs a us t g in
        let y = more_parts s w ws b vs u h in
        let o = one_value v w r s x.at y.at x.one y.one (x.rest ++ k) (y.rest ++ l) x.text y.text x.is_value y.is_value (meet us vs x.one x.rest y.one y.rest k l x.tokens_are y.tokens_are e) in
        let n = one_more xs ws r s x.there y.there x.rest y.rest k l x.behind y.behind x.are_items y.are_items o.1 in
        (ap (λ z. item z xs) o.0 ∙ ap (λ z. item w z) n.0, n.1)

    one_members : (xs ys : Members) (r s : ℕ) (m n : List (List ℕ)) (a b : ℕ) (us vs k l : List Token) (t u : List ℕ) → MembersText once r m xs a us t → MembersText once s n ys b vs u → us ++ k ≡ vs ++ l → (xs ≡ ys) × (k ≡ l)
    one_members no_member no_member r s m n a b us vs k l t u g h e =
        let x = close_object r m a us t g in
        let y = close_object s n b vs u h in
        (refl, others_are _ _ _ _ (let i : tokens.CloseObject x.0 ∷ k ≡ tokens.CloseObject y.0 ∷ l = ap (λ z. z ++ k) (sym x.1) ∙ e ∙ ap (λ z. z ++ l) y.1 in i))
    one_members no_member (member q o w ws) r s m n a b us vs k l t u g h e =
        let x = close_object r m a us t g in
        let y = key_parts s n q o w ws b vs u h in
        let i : tokens.CloseObject x.0 ∷ k ≡ tokens.Key q o ∷ ((y.one ++ y.rest) ++ l) = ap (λ z. z ++ k) (sym x.1) ∙ e ∙ ap (λ z. z ++ l) y.tokens_are in cc
    one_members (member p o v xs) no_member r s m n a b us vs k l t u g h e =
        let y = close_object s n b vs u h in
        let x = key_parts r m p o v xs a us t g in
        let i : tokens.Key p o ∷ ((x.one ++ x.rest) ++ k) ≡ tokens.CloseObject y.0 ∷ l = ap (λ z. z ++ k) (sym x.tokens_are) ∙ e ∙ ap (λ z. z ++ l) y.1 in cc
    one_members (member p c v xs) (member q d w ws) r s m n a b us vs k l t u g h e =
        let x = key_parts r m p c v xs a us t g in
        let y = key_parts s n q d w ws b vs u h in
        let i : tokens.Key p c ∷ ((x.one ++ x.rest) ++ k) ≡ tokens.Key q d ∷ ((y.one ++ y.rest) ++ l) = ap (λ z. z ++ k) (sym x.tokens_are) ∙ e ∙ ap (λ z. z ++ l) y.tokens_are in
        let f : tokens.Key p c ≡ tokens.Key q d = first_is _ _ _ _ i in
        let o = one_value v w r s x.at y.at x.one y.one (x.rest ++ k) (y.rest ++ l) x.text y.text x.is_value y.is_value (sym (append_assoc x.one x.rest k) ∙ others_are _ _ _ _ i ∙ append_assoc y.one y.rest l) in
        let z = one_more_members xs ws r s x.had y.had x.there y.there x.rest y.rest k l x.behind y.behind x.are_members y.are_members o.1 in
        (same_member p q c d v w xs ws f o.0 z.0, z.1)

    one_more_members : (xs ys : Members) (r s : ℕ) (m n : List (List ℕ)) (a b : ℕ) (us vs k l : List Token) (t u : List ℕ) → MoreMembers once r m xs a us t → MoreMembers once s n ys b vs u → us ++ k ≡ vs ++ l → (xs ≡ ys) × (k ≡ l)
    one_more_members no_member no_member r s m n a b us vs k l t u g h e =
        let x = close_object r m a us t g in
        let y = close_object s n b vs u h in
        (refl, others_are _ _ _ _ (let i : tokens.CloseObject x.0 ∷ k ≡ tokens.CloseObject y.0 ∷ l = ap (λ z. z ++ k) (sym x.1) ∙ e ∙ ap (λ z. z ++ l) y.1 in i))
    one_more_members no_member (member q o w ws) r s m n a b us vs k l t u g h e =
        let x = close_object r m a us t g in
        let y = more_key_parts s n q o w ws b vs u h in
        let i : tokens.CloseObject x.0 ∷ k ≡ tokens.Key q o ∷ ((y.one ++ y.rest) ++ l) = ap (λ z. z ++ k) (sym x.1) ∙ e ∙ ap (λ z. z ++ l) y.tokens_are in cc
    one_more_members (member p o v xs) no_member r s m n a b us vs k l t u g h e =
        let y = close_object s n b vs u h in
        let x = more_key_parts r m p o v xs a us t g in
        let i : tokens.Key p o ∷ ((x.one ++ x.rest) ++ k) ≡ tokens.CloseObject y.0 ∷ l = ap (λ z. z ++ k) (sym x.tokens_are) ∙ e ∙ ap (λ z. z ++ l) y.1 in cc
    one_more_members (member p c v xs) (member q d w ws) r s m n a b us vs k l t u g h e =
        let x = more_key_parts r m p c v xs a us t g in
        let y = more_key_parts s n q d w ws b vs u h in
        let i : tokens.Key p c ∷ ((x.one ++ x.rest) ++ k) ≡ tokens.Key q d ∷ ((y.one ++ y.rest) ++ l) = ap (λ z. z ++ k) (sym x.tokens_are) ∙ e ∙ ap (λ z. z ++ l) y.tokens_are in
        let f : tokens.Key p c ≡ tokens.Key q d = first_is _ _ _ _ i in
        let o = one_value v w r s x.at y.at x.one y.one (x.rest ++ k) (y.rest ++ l) x.text y.text x.is_value y.is_value (sym (append_assoc x.one x.rest k) ∙ others_are _ _ _ _ i ∙ append_assoc y.one y.rest l) in
        let z = one_more_members xs ws r s x.had y.had x.there y.there x.rest y.rest k l x.behind y.behind x.are_members y.are_members o.1 in
        (same_member p q c d v w xs ws f o.0 z.0, z.1)

  -- two texts of one list of tokens have one tree
  pub one_tree : (limit start : ℕ) (t u : List ℕ) (v w : Tree) (us : List Token) → JsonText once limit v start us t → JsonText once limit w start us u → v ≡ w
  one_tree limit start t u v w us g h =
      let x = g.in_second in
      let y = h.in_second in
      let i : x.front_tokens ++ x.back_tokens ≡ y.front_tokens ++ y.back_tokens = sym (blank_tokens _ start us t g ∙ x.tokens_are) ∙ blank_tokens _ start us u h ∙ y.tokens_are in
      (one_value v w limit limit _ _ x.front_tokens y.front_tokens x.back_tokens y.back_tokens x.front y.front x.in_first y.in_first i).0
