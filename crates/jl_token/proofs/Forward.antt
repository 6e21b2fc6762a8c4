-- What may follow where a text stands is taken: the automaton takes its first byte, and the rest may follow after it.
use Rattle.std.proofs.Common.{◌≡◌, ℕ, suc, ◌+◌, ◌⊎◌, inl, inr, Bool, true, false, cond, List, [], ◌∷◌, ◌++◌, length, refl, sym, ap, ◌∙◌, subst, arith, append_assoc, Ok, Err, Option, Some, None}
use Rattle.std.proofs.lemmas.List.{append-nil}
use Rattle.std.proofs.lemmas.Bool.{lt-ltb, eq-eqb}
use Rattle.jl_model.specs.declared.scalars.Scalar.{Scalar}
use Rattle.jl_model.specs.declared.scalars.Scalar.TheVariants as scalars
use Rattle.jl_model.specs.declared.tokens.Token.{Token}
use Rattle.jl_model.specs.declared.tokens.Token.TheVariants as tokens
use Rattle.jl_model.specs.JsonTree.{Tree, Trees, Members}
use Rattle.jl_model.specs.JsonTree.Tree.{scalar, array, object}
use Rattle.jl_model.specs.JsonText.{Then, Blanks, BeginArray, BeginObject, Colon, EndArray, EndObject, IsBlank, IsNew, IsScalar, ValueText, ScalarText, KeyText, ItemsText, MembersText}
use Rattle.jl_token.specs.declared.kinds.Kind.{Kind}
use Rattle.jl_token.specs.declared.kinds.Kind.TheVariants as kinds
use Rattle.jl_token.specs.declared.opens.Open.{Open}
use Rattle.jl_token.specs.declared.opens.Open.TheVariants as opens
use Rattle.jl_token.specs.declared.readings.Reading.{Reading}
use Rattle.jl_token.specs.declared.readings.Spot.{Spot}
use Rattle.jl_token.specs.declared.readings.Spot.TheVariants as spots
use Rattle.jl_token.specs.declared.strings.InString.{InString}
use Rattle.jl_token.specs.declared.strings.InString.TheVariants.{Plain}
use Rattle.jl_token.specs.declared.numbers.InNumber.{InNumber}
use Rattle.jl_token.specs.declared.numbers.InNumber.TheVariants.{Minus, Zero, Whole}
use Rattle.jl_token.specs.declared.words.InWord.{InWord}
use Rattle.jl_token.specs.declared.words.InWord.TheVariants.{N, T, F}
use Rattle.jl_token.specs.Names.{with_name}
use Rattle.jl_token.specs.NumberMachine.{NumberEnd, number_did, is_whole, next_letter, later_letters, word_next, word_of}
use Rattle.jl_token.specs.StringMachine.{Did, string_did}
use Rattle.jl_token.specs.StringMachine.Did.{bad, ends, stays}
use Rattle.jl_token.specs.Machine.{Moved, moved, moved_at, kind_of, value_begins, at_value, at_first_item, at_first_key, at_key, at_colon, after_value, ended, with_token, number_ends, number_goes, in_number, word_goes, in_word, text_goes, in_text, key_goes, in_key}
use Rattle.jl_token.specs.Left.{Left, LeftAt, Or, SomeValue, Rest, ValueRest, ColonRest, KeyRest, AtFirstItem, AtFirstKey, AtKey, TextEnd, KeyEnd, NumeralEnd, WordEnd}
use Rattle.jl_token.proofs.Heads.{head_is, tail_is}
use Rattle.jl_token.proofs.Languages.{Split, split, then_rest, then_ended, blank_or, sign_off, with_first, with_second, to_right}
use Rattle.jl_token.proofs.Languages.Split.{empty, more}
use Rattle.jl_token.proofs.ByteKinds.{kind_digit, kind_blank, kind_34, kind_91, kind_93, kind_123, kind_125, kind_44, kind_58, kind_45, kind_48, kind_110, kind_116, kind_102}
use Rattle.jl_token.proofs.NewNames.{new_passes, colon_same, put_same}
use Rattle.jl_token.proofs.NumberMoves.{NumberFollows, number_forward, end_whole}
use Rattle.jl_token.proofs.StringMoves.{DidFollows, string_forward}
use Rattle.jl_token.proofs.TokenEnds.{string_open, no_string, string_first, no_number, FirstOfNumber, number_first, Delimits, number_stops, WordSays, word_says}
use Rattle.jl_token.proofs.Rules.{ItemGoes, MemberGoes, more_items_out, more_items_in, more_members_out, more_members_in, items_out, members_out}

abbrev pub Follows : Bool → ℕ → Moved → List Token → List ℕ → Type 0
Follows once limit (Err _) us r = ⊥
Follows once limit (Ok m) us r = (vs : List Token) × (us ≡ m.0 ++ vs) × Left once limit m.1 vs r

abbrev pub state : ℕ → ℕ → Spot → List ℕ → List Open → Reading
state at start spot part within = record { at = at; start = start; spot = spot; part = part; within = within }

module _ (once : Bool) (limit : ℕ) where
  by_kind : (X : Kind → Moved) (c : ℕ) (k : Kind) (us : List Token) (r : List ℕ) → kind_of c ≡ k → Follows once limit (X k) us r → Follows once limit (X (kind_of c)) us r
  by_kind X c k us r e f = subst (λ x. Follows once limit (X x) us r) (sym e) f

  follows_if : (b : Bool) (X Y : Moved) (us : List Token) (r : List ℕ) → b ≡ true → Follows once limit X us r → Follows once limit (cond b X Y) us r
  follows_if b X Y us r e f = subst (λ x. Follows once limit (cond x X Y) us r) (sym e) f

  follows_else : (b : Bool) (X Y : Moved) (us : List Token) (r : List ℕ) → b ≡ false → Follows once limit Y us r → Follows once limit (cond b X Y) us r
  follows_else b X Y us r e f = subst (λ x. Follows once limit (cond x X Y) us r) (sym e) f

  module _ (c at start : ℕ) (part : List ℕ) (us : List Token) (r : List ℕ) where
    abbrev At : Spot → List Open → Reading
    At spot within = state at start spot part within

    -- ---- behind a value
    after_item : (room : ℕ) (below : List Open) → room + suc (length below) ≡ limit → (IsBlank c × Then Blanks (ItemGoes once room below) (at + 1) us r) ⊎ ItemGoes once room below at us (c ∷ r) → Follows once limit (after_value (At spots.After (opens.Array ∷ below)) (kind_of c)) us r
    after_item room below e (inl b) =
        by_kind (λ k. after_value (At spots.After (opens.Array ∷ below)) k) c kinds.Blank us r (kind_blank c b.0)
        (us, refl, record { room = room; room_is = e; rest = more_items_in once room below _ _ _ b.1 })
    after_item room below e (inr (inl h)) =
        let b = sign_off _ _ _ c at us r h in
        by_kind (λ k. after_value (At spots.After (opens.Array ∷ below)) k) c kinds.CloseArray us r (ap kind_of b.is_sign ∙ kind_93)
        (b.more, b.tokens_are, record { room = suc room; room_is = omega arith; rest = b.follows })
    after_item room below e (inr (inr h)) =
        let b = sign_off _ _ _ c at us r h in
        by_kind (λ k. after_value (At spots.After (opens.Array ∷ below)) k) c kinds.Comma us r (ap kind_of b.is_sign ∙ kind_44)
        (b.more, b.tokens_are, record { room = room; room_is = e; rest = b.follows })

    after_member : (room : ℕ) (had : List (List ℕ)) (below : List Open) → room + suc (length below) ≡ limit → (IsBlank c × Then Blanks (MemberGoes once room below had) (at + 1) us r) ⊎ MemberGoes once room below had at us (c ∷ r) → Follows once limit (after_value (At spots.After (opens.Object had ∷ below)) (kind_of c)) us r
    after_member room had below e (inl b) =
        by_kind (λ k. after_value (At spots.After (opens.Object had ∷ below)) k) c kinds.Blank us r (kind_blank c b.0)
        (us, refl, record { room = room; room_is = e; rest = more_members_in once room below had _ _ _ b.1 })
    after_member room had below e (inr (inl h)) =
        let b = sign_off _ _ _ c at us r h in
        by_kind (λ k. after_value (At spots.After (opens.Object had ∷ below)) k) c kinds.CloseObject us r (ap kind_of b.is_sign ∙ kind_125)
        (b.more, b.tokens_are, record { room = suc room; room_is = omega arith; rest = b.follows })
    after_member room had below e (inr (inr h)) =
        let b = sign_off _ _ _ c at us r h in
        by_kind (λ k. after_value (At spots.After (opens.Object had ∷ below)) k) c kinds.Comma us r (ap kind_of b.is_sign ∙ kind_44)
        (b.more, b.tokens_are, record { room = room; room_is = e; rest = b.follows })

    forward_after : (within : List Open) (room : ℕ) → room + length within ≡ limit → Rest once room within at us (c ∷ r) → Follows once limit (after_value (At spots.After within) (kind_of c)) us r
    forward_after [] room e h =
        by_kind (λ k. after_value (At spots.After []) k) c kinds.Blank us r (kind_blank c h.blank.0)
        (us, refl, record { room = room; room_is = e; rest = record { tokens_are = h.tokens_are; blank = h.blank.1 } })
    forward_after (opens.Array ∷ below) room e h =
        after_item room below e (blank_or (ItemGoes once room below) c at us r (more_items_out once room below at us (c ∷ r) h))
    forward_after (opens.Object had ∷ below) room e h =
        after_member room had below e (blank_or (MemberGoes once room below had) c at us r (more_members_out once room below had at us (c ∷ r) h))

    -- what stands behind a value begins with a byte that ends a number
    item_delimits : (room : ℕ) (below : List Open) → (IsBlank c × Then Blanks (ItemGoes once room below) (at + 1) us r) ⊎ ItemGoes once room below at us (c ∷ r) → Delimits c
    item_delimits room below (inl b) = inl b.0
    item_delimits room below (inr (inl h)) = inr (inl (sign_off _ _ _ c at us r h).is_sign)
    item_delimits room below (inr (inr h)) = inr (inr (inr (sign_off _ _ _ c at us r h).is_sign))

    member_delimits : (room : ℕ) (had : List (List ℕ)) (below : List Open) → (IsBlank c × Then Blanks (MemberGoes once room below had) (at + 1) us r) ⊎ MemberGoes once room below had at us (c ∷ r) → Delimits c
    member_delimits room had below (inl b) = inl b.0
    member_delimits room had below (inr (inl h)) = inr (inr (inl (sign_off _ _ _ c at us r h).is_sign))
    member_delimits room had below (inr (inr h)) = inr (inr (inr (sign_off _ _ _ c at us r h).is_sign))

    rest_delimits : (within : List Open) (room : ℕ) → Rest once room within at us (c ∷ r) → Delimits c
    rest_delimits [] room h = inl h.blank.0
    rest_delimits (opens.Array ∷ below) room h = item_delimits room below (blank_or (ItemGoes once room below) c at us r (more_items_out once room below at us (c ∷ r) h))
    rest_delimits (opens.Object had ∷ below) room h = member_delimits room had below (blank_or (MemberGoes once room below had) c at us r (more_members_out once room below had at us (c ∷ r) h))

    -- ---- at a value

    -- a token begins at the byte
    token_goes : (X : Kind → Moved) (k : Kind) (spot : Spot) (p : List ℕ) (within : List Open) (room : ℕ) → room + length within ≡ limit → kind_of c ≡ k → X k ≡ Ok ([], state (at + 1) at spot p within) → LeftAt once room spot at p within (at + 1) us r → Follows once limit (X (kind_of c)) us r
    token_goes X k spot p within room e i f h =
        by_kind X c k us r i (subst (λ x. Follows once limit x us r) (sym f) (us, refl, record { room = room; room_is = e; rest = h }))

    module _ (spot : Spot) (within : List Open) (room : ℕ) (e : room + length within ≡ limit) (fs bs : List Token) (g b : List ℕ) (u : us ≡ fs ++ bs) (t : r ≡ g ++ b) (q : Rest once room within (at + 1 + length g) bs b) where
      abbrev Goes : Type 0
      Goes = Follows once limit (value_begins limit (At spot within) c (kind_of c)) us r

      word_begins : (k : Kind) (w : InWord) → kind_of c ≡ k → value_begins limit (At spot within) c k ≡ Ok ([], state (at + 1) at (spots.InWord w) [] within) → g ≡ next_letter w ∷ later_letters w → fs ≡ tokens.Value at (word_of w) ∷ [] → Goes
      word_begins k w i f l v = token_goes (λ k. value_begins limit (At spot within) c k) k (spots.InWord w) [] within room e i f
          (then_rest (WordEnd at w) (Rest once room within) at us fs bs r g b u t (record { text_is = l; tokens_are = v }) q)

      number_begins : (k : Kind) (place : InNumber) → kind_of c ≡ k → value_begins limit (At spot within) c k ≡ Ok ([], state (at + 1) at (spots.InNumber place) (c ∷ []) within) → NumberEnd place g → fs ≡ tokens.Value at (scalars.Number (c ∷ g)) ∷ [] → Goes
      number_begins k place i f l v = token_goes (λ k. value_begins limit (At spot within) c k) k (spots.InNumber place) (c ∷ []) within room e i f
          (then_rest (NumeralEnd at (c ∷ []) place) (Rest once room within) at us fs bs r g b u t (record { ends = l; tokens_are = v }) q)

      number_goes_by : FirstOfNumber c g → fs ≡ tokens.Value at (scalars.Number (c ∷ g)) ∷ [] → Goes
      number_goes_by (inl n) v = number_begins kinds.Minus Minus (ap kind_of n.0 ∙ kind_45) refl n.1 v
      number_goes_by (inr (inl n)) v = number_begins kinds.Zero Zero (ap kind_of n.0 ∙ kind_48) refl n.1 v
      number_goes_by (inr (inr n)) v = number_begins kinds.Digit Whole (kind_digit c n.0 n.1) refl n.2 v

      scalar_goes : (place : ℕ) (value : Scalar) → ScalarText place value at fs (c ∷ g) → Goes
      scalar_goes place scalars.Null h = word_begins kinds.LetterN N (ap kind_of (head_is c 110 g _ h.spelled) ∙ kind_110) refl (tail_is c 110 g _ h.spelled) h.tokens_are
      scalar_goes place (scalars.Bool true) h = word_begins kinds.LetterT T (ap kind_of (head_is c 116 g _ h.spelled) ∙ kind_116) refl (tail_is c 116 g _ h.spelled) h.tokens_are
      scalar_goes place (scalars.Bool false) h = word_begins kinds.LetterF F (ap kind_of (head_is c 102 g _ h.spelled) ∙ kind_102) refl (tail_is c 102 g _ h.spelled) h.tokens_are
      scalar_goes place (scalars.Number digits) h = number_goes_by (number_first c g (subst (λ x. let IsN = IsScalar (scalars.Number x) (c ∷ g) in IsN) (sym h.spelled.0) h.spelled).1) (h.tokens_are ∙ ap (λ x. tokens.Value at (scalars.Number x) ∷ []) (sym h.spelled.0))
      scalar_goes place (scalars.Str meant) h =
          let s = string_first meant c g h.spelled in
          token_goes (λ k. value_begins limit (At spot within) c k) kinds.Quote (spots.InText Plain) [] within room e (ap kind_of s.0 ∙ kind_34) refl
          (then_rest (TextEnd at [] Plain) (Rest once room within) at us fs bs r g b u t (record { meant = meant; ends = s.1; tokens_are = h.tokens_are }) q)

    pub no_scalar : (place : ℕ) (value : Scalar) (fs : List Token) → ScalarText place value at fs [] → ⊥
    no_scalar place scalars.Null fs h = let q = h.spelled in cc
    no_scalar place (scalars.Bool true) fs h = let q = h.spelled in cc
    no_scalar place (scalars.Bool false) fs h = let q = h.spelled in cc
    no_scalar place (scalars.Number digits) fs h = no_number (subst (λ x. let IsN = IsScalar (scalars.Number x) [] in IsN) (sym h.spelled.0) h.spelled).1
    no_scalar place (scalars.Str meant) fs h = no_string meant h.spelled

    scalar_begins : (spot : Spot) (within : List Open) (room : ℕ) → room + length within ≡ limit → (place : ℕ) (value : Scalar) → Split (ScalarText place value) (Rest once room within) c at us r → Follows once limit (value_begins limit (At spot within) c (kind_of c)) us r
    scalar_begins spot within room e place value (empty fs bs u h q) = absurd (no_scalar place value fs h)
    scalar_begins spot within room e place value (more fs bs g b u t h q) = scalar_goes spot within room e fs bs g b u t q place value h

    array_begins : (spot : Spot) (within : List Open) (room left : ℕ) → room + length within ≡ limit → room ≡ suc left → (items : Trees) → Then (Then BeginArray (ItemsText once left items)) (Rest once (suc left) within) at us (c ∷ r) → Follows once limit (value_begins limit (At spot within) c (kind_of c)) us r
    array_begins spot within room left e f items h =
        let b = sign_off _ _ _ c at us r (to_right h) in
        by_kind (λ k. value_begins limit (At spot within) c k) c kinds.OpenArray us r (ap kind_of b.is_sign ∙ kind_91)
        (follows_if _ _ _ us r (lt-ltb (length within) limit (omega arith))
        (b.more, b.tokens_are, record { room = left; room_is = omega arith; rest = items_out once left within items _ _ _ b.follows }))

    object_begins : (spot : Spot) (within : List Open) (room left : ℕ) → room + length within ≡ limit → room ≡ suc left → (members : Members) → Then (Then BeginObject (MembersText once left [] members)) (Rest once (suc left) within) at us (c ∷ r) → Follows once limit (value_begins limit (At spot within) c (kind_of c)) us r
    object_begins spot within room left e f members h =
        let b = sign_off _ _ _ c at us r (to_right h) in
        by_kind (λ k. value_begins limit (At spot within) c k) c kinds.OpenObject us r (ap kind_of b.is_sign ∙ kind_123)
        (follows_if _ _ _ us r (lt-ltb (length within) limit (omega arith))
        (b.more, b.tokens_are, record { room = left; room_is = omega arith; rest = members_out once left within [] members _ _ _ b.follows }))

    forward_value : (spot : Spot) (within : List Open) (room : ℕ) → room + length within ≡ limit → Then (SomeValue once room) (Rest once room within) at us (c ∷ r) → Follows once limit (value_begins limit (At spot within) c (kind_of c)) us r
    forward_value spot within room e h = go h.in_first.0 h.in_first.1
      where
        go : (v : Tree) → ValueText once room v at h.front_tokens h.front → Follows once limit (value_begins limit (At spot within) c (kind_of c)) us r
        go (scalar place value) p = scalar_begins spot within room e place value (split (ScalarText place value) (Rest once room within) c at us r (with_first h p))
        go (array place items) p = array_begins spot within room p.left e p.room_is items (with_second (with_first h p.spelled) (subst (λ x. Rest once x within (at + length h.front) h.back_tokens h.back) p.room_is h.in_second))
        go (object place members) p = object_begins spot within room p.left e p.room_is members (with_second (with_first h p.spelled) (subst (λ x. Rest once x within (at + length h.front) h.back_tokens h.back) p.room_is h.in_second))

    value_or_blank : (k : Kind) (spot : Spot) (within : List Open) → Follows once limit (value_begins limit (At spot within) c k) us r → Follows once limit (at_value limit (At spot within) c k) us r
    value_or_blank kinds.Blank spot within f = absurd f
    value_or_blank _ spot within f = f

    at_spot_value : (within : List Open) (room : ℕ) → room + length within ≡ limit → (IsBlank c × ValueRest once room within (at + 1) us r) ⊎ Then (SomeValue once room) (Rest once room within) at us (c ∷ r) → Follows once limit (at_value limit (At spots.Value within) c (kind_of c)) us r
    at_spot_value within room e (inl b) =
        by_kind (λ k. at_value limit (At spots.Value within) c k) c kinds.Blank us r (kind_blank c b.0)
        (us, refl, record { room = room; room_is = e; rest = b.1 })
    at_spot_value within room e (inr h) = value_or_blank (kind_of c) spots.Value within (forward_value spots.Value within room e h)

    -- ---- at the first item
    item_or_not : (k : Kind) (spot : Spot) (within : List Open) → Follows once limit (value_begins limit (At spot within) c k) us r → Follows once limit (at_first_item limit (At spot within) c k) us r
    item_or_not kinds.Blank spot within f = absurd f
    item_or_not kinds.CloseArray spot within f = absurd f
    item_or_not _ spot within f = f

    first_item : (below : List Open) (room : ℕ) → room + suc (length below) ≡ limit → (IsBlank c × AtFirstItem once room (opens.Array ∷ below) (at + 1) us r) ⊎ Or (Then EndArray (Rest once (suc room) below)) (Then (SomeValue once room) (Rest once room (opens.Array ∷ below))) at us (c ∷ r) → Follows once limit (at_first_item limit (At spots.FirstItem (opens.Array ∷ below)) c (kind_of c)) us r
    first_item below room e (inl b) =
        by_kind (λ k. at_first_item limit (At spots.FirstItem (opens.Array ∷ below)) c k) c kinds.Blank us r (kind_blank c b.0)
        (us, refl, record { room = room; room_is = e; rest = b.1 })
    first_item below room e (inr (inl h)) =
        let b = sign_off _ _ _ c at us r h in
        by_kind (λ k. at_first_item limit (At spots.FirstItem (opens.Array ∷ below)) c k) c kinds.CloseArray us r (ap kind_of b.is_sign ∙ kind_93)
        (b.more, b.tokens_are, record { room = suc room; room_is = omega arith; rest = b.follows })
    first_item below room e (inr (inr h)) = item_or_not (kind_of c) spots.FirstItem (opens.Array ∷ below) (forward_value spots.FirstItem (opens.Array ∷ below) room e h)

    -- ---- at a key
    key_begins : (X : Kind → Moved) (had : List (List ℕ)) (below : List Open) (room : ℕ) → room + suc (length below) ≡ limit → X kinds.Quote ≡ Ok ([], state (at + 1) at (spots.InKey Plain) [] (opens.Object had ∷ below)) → (place : ℕ) (name : List ℕ) → Split (KeyText once had place name) (ColonRest once room (opens.Object (name ∷ had) ∷ below)) c at us r → Follows once limit (X (kind_of c)) us r
    key_begins X had below room e f place name (empty fs bs u h q) = absurd (no_string name h.spelled)
    key_begins X had below room e f place name (more fs bs g b u t h q) =
        let s = string_first name c g h.spelled in
        token_goes X kinds.Quote (spots.InKey Plain) [] (opens.Object had ∷ below) room e (ap kind_of s.0 ∙ kind_34) f
        (name, then_rest (KeyEnd once had at [] Plain name) (ColonRest once room (opens.Object (name ∷ had) ∷ below)) at us fs bs r g b u t (record { meant = name; ends = s.1; name_is = refl; tokens_are = h.tokens_are; is_new = h.is_new }) q)

    first_key : (had : List (List ℕ)) (below : List Open) (room : ℕ) → room + suc (length below) ≡ limit → (IsBlank c × AtFirstKey once room (opens.Object had ∷ below) (at + 1) us r) ⊎ Or (Then EndObject (Rest once (suc room) below)) (KeyRest once room had below) at us (c ∷ r) → Follows once limit (at_first_key (At spots.FirstKey (opens.Object had ∷ below)) (kind_of c)) us r
    first_key had below room e (inl b) =
        by_kind (λ k. at_first_key (At spots.FirstKey (opens.Object had ∷ below)) k) c kinds.Blank us r (kind_blank c b.0)
        (us, refl, record { room = room; room_is = e; rest = b.1 })
    first_key had below room e (inr (inl h)) =
        let b = sign_off _ _ _ c at us r h in
        by_kind (λ k. at_first_key (At spots.FirstKey (opens.Object had ∷ below)) k) c kinds.CloseObject us r (ap kind_of b.is_sign ∙ kind_125)
        (b.more, b.tokens_are, record { room = suc room; room_is = omega arith; rest = b.follows })
    first_key had below room e (inr (inr h)) =
        key_begins (λ k. at_first_key (At spots.FirstKey (opens.Object had ∷ below)) k) had below room e refl h.0 h.1 (split (KeyText once had h.0 h.1) (ColonRest once room (opens.Object (h.1 ∷ had) ∷ below)) c at us r h.2)

    next_key : (had : List (List ℕ)) (below : List Open) (room : ℕ) → room + suc (length below) ≡ limit → (IsBlank c × AtKey once room (opens.Object had ∷ below) (at + 1) us r) ⊎ KeyRest once room had below at us (c ∷ r) → Follows once limit (at_key (At spots.Key (opens.Object had ∷ below)) (kind_of c)) us r
    next_key had below room e (inl b) =
        by_kind (λ k. at_key (At spots.Key (opens.Object had ∷ below)) k) c kinds.Blank us r (kind_blank c b.0)
        (us, refl, record { room = room; room_is = e; rest = b.1 })
    next_key had below room e (inr h) =
        key_begins (λ k. at_key (At spots.Key (opens.Object had ∷ below)) k) had below room e refl h.0 h.1 (split (KeyText once had h.0 h.1) (ColonRest once room (opens.Object (h.1 ∷ had) ∷ below)) c at us r h.2)

    forward_colon : (within : List Open) (room : ℕ) → room + length within ≡ limit → (IsBlank c × ColonRest once room within (at + 1) us r) ⊎ Then Colon (ValueRest once room within) at us (c ∷ r) → Follows once limit (at_colon (At spots.Colon within) (kind_of c)) us r
    forward_colon within room e (inl b) =
        by_kind (λ k. at_colon (At spots.Colon within) k) c kinds.Blank us r (kind_blank c b.0)
        (us, refl, record { room = room; room_is = e; rest = b.1 })
    forward_colon within room e (inr h) =
        let b = sign_off _ _ _ c at us r h in
        by_kind (λ k. at_colon (At spots.Colon within) k) c kinds.Colon us r (ap kind_of b.is_sign ∙ kind_58)
        (b.more, b.tokens_are, record { room = room; room_is = e; rest = b.follows })

    -- ---- in a number
    with_more : (token : Token) (X : Moved) (vs : List Token) → Follows once limit X vs r → Follows once limit (with_token token X) (token ∷ vs) r
    with_more token (Ok m) vs f = (f.0, ap (λ x. token ∷ x) f.1, f.2)
    with_more token (Err m) vs f = f

  module _ (c at start : ℕ) (part : List ℕ) (us : List Token) (r : List ℕ) where
    number_over : (place : InNumber) (within : List Open) (room : ℕ) → room + length within ≡ limit → (fs bs : List Token) → us ≡ fs ++ bs → NumeralEnd start part place at fs [] → Rest once room within at bs (c ∷ r) → Follows once limit (in_number place (state at start (spots.InNumber place) part within) c (kind_of c)) us r
    number_over place within room e fs bs u n q =
        let S : Reading = state at start (spots.InNumber place) part within in
        let w : is_whole place ≡ true = end_whole place n.ends in
        let o : number_did place c ≡ None = number_stops c (rest_delimits c at start part bs r within room q) place w in
        let v : us ≡ tokens.Value start (scalars.Number part) ∷ bs = u ∙ ap (λ x. x ++ bs) n.tokens_are ∙ ap (λ x. tokens.Value start (scalars.Number x) ∷ bs) (append-nil part) in
        subst (λ x. Follows once limit (number_goes x (is_whole place) S c (kind_of c)) us r) (sym o)
        (subst (λ x. Follows once limit (number_ends x S (kind_of c)) us r) (sym w)
        (subst (λ x. Follows once limit (number_ends true S (kind_of c)) x r) (sym v)
        (with_more c at start part us r (tokens.Value start (scalars.Number part)) (after_value (ended S) (kind_of c)) bs (forward_after c at start part bs r within room e q))))

    number_on : (place : InNumber) (within : List Open) (room : ℕ) → room + length within ≡ limit → (fs bs : List Token) (g b : List ℕ) → us ≡ fs ++ bs → r ≡ g ++ b → fs ≡ tokens.Value start (scalars.Number (part ++ c ∷ g)) ∷ [] → Rest once room within (at + 1 + length g) bs b → (o : Option InNumber) (w : Bool) → NumberFollows o g → Follows once limit (number_goes o w (state at start (spots.InNumber place) part within) c (kind_of c)) us r
    number_on place within room e fs bs g b u t v q None w f = absurd f
    number_on place within room e fs bs g b u t v q (Some to) w f = (
      us,
      refl,
      record { room = room; room_is = e; rest = then_rest (NumeralEnd start (part ++ c ∷ []) to) (Rest once room within) at us fs bs r g b u t (record { ends = f; tokens_are = v ∙ ap (λ x. tokens.Value start (scalars.Number x) ∷ []) (sym (append_assoc part (c ∷ []) g)) }) q },
    )

    forward_number : (place : InNumber) (within : List Open) (room : ℕ) → room + length within ≡ limit → Split (NumeralEnd start part place) (Rest once room within) c at us r → Follows once limit (in_number place (state at start (spots.InNumber place) part within) c (kind_of c)) us r
    forward_number place within room e (empty fs bs u n q) = number_over place within room e fs bs u n q
    forward_number place within room e (more fs bs g b u t n q) = number_on place within room e fs bs g b u t n.tokens_are q (number_did place c) (is_whole place) (number_forward place c g n.ends)

    -- ---- in a word
    word_on : (place : InWord) (within : List Open) (room : ℕ) → room + length within ≡ limit → (fs bs : List Token) (g b : List ℕ) → us ≡ fs ++ bs → r ≡ g ++ b → g ≡ later_letters place → fs ≡ tokens.Value start (word_of place) ∷ [] → Rest once room within (at + 1 + length g) bs b → (o : Option InWord) → WordSays place o → Follows once limit (word_goes o place (state at start (spots.InWord place) part within)) us r
    word_on place within room e fs bs g b u t l v q None f = (bs, u ∙ ap (λ x. x ++ bs) v, record { room = room; room_is = e; rest = then_ended (Rest once room within) at bs r g b (l ∙ f) t q })
    word_on place within room e fs bs g b u t l v q (Some w) f =
        (us, refl, record { room = room; room_is = e; rest = then_rest (WordEnd start w) (Rest once room within) at us fs bs r g b u t (record { text_is = l ∙ f.0; tokens_are = v ∙ ap (λ x. tokens.Value start x ∷ []) f.1 }) q })

    forward_word : (place : InWord) (within : List Open) (room : ℕ) → room + length within ≡ limit → Split (WordEnd start place) (Rest once room within) c at us r → Follows once limit (in_word place (state at start (spots.InWord place) part within) c) us r
    forward_word place within room e (empty fs bs u n q) = let x = n.text_is in absurd (let y : ⊥ = cc in y)
    forward_word place within room e (more fs bs g b u t n q) =
        follows_if _ _ _ us r (eq-eqb c (next_letter place) (head_is c (next_letter place) g (later_letters place) n.text_is))
        (word_on place within room e fs bs g b u t (tail_is c (next_letter place) g (later_letters place) n.text_is) n.tokens_are q (word_next place) (word_says place))

    -- ---- in a string
    text_on : (place : InString) (within : List Open) (room : ℕ) → room + length within ≡ limit → (fs bs : List Token) (g b : List ℕ) → us ≡ fs ++ bs → r ≡ g ++ b → (m : List ℕ) → fs ≡ tokens.Value start (scalars.Str (part ++ m)) ∷ [] → Rest once room within (at + 1 + length g) bs b → (d : Did) → DidFollows d m g → Follows once limit (text_goes d place (state at start (spots.InText place) part within) c) us r
    text_on place within room e fs bs g b u t m v q bad f = absurd f
    text_on place within room e fs bs g b u t m v q ends f = (
      bs,
      u ∙ ap (λ x. x ++ bs) v ∙ ap (λ x. tokens.Value start (scalars.Str x) ∷ bs) (ap (λ x. part ++ x) f.0 ∙ append-nil part),
      record { room = room; room_is = e; rest = then_ended (Rest once room within) at bs r g b f.1 t q },
    )
    text_on place within room e fs bs g b u t m v q (stays bytes to) f = (
      us,
      refl,
      record { room = room; room_is = e; rest = then_rest (TextEnd start (part ++ bytes) to) (Rest once room within) at us fs bs r g b u t (record { meant = f.0; ends = f.2; tokens_are = v ∙ ap (λ x. tokens.Value start (scalars.Str x) ∷ []) (ap (λ x. part ++ x) f.1 ∙ sym (append_assoc part bytes f.0)) }) q },
    )

    forward_text : (place : InString) (within : List Open) (room : ℕ) → room + length within ≡ limit → Split (TextEnd start part place) (Rest once room within) c at us r → Follows once limit (in_text place (state at start (spots.InText place) part within) c) us r
    forward_text place within room e (empty fs bs u n q) = absurd (string_open place n.meant n.ends)
    forward_text place within room e (more fs bs g b u t n q) = text_on place within room e fs bs g b u t n.meant n.tokens_are q (string_did place c) (string_forward place c n.meant g n.ends)

    key_on : (place : InString) (had : List (List ℕ)) (below : List Open) (room : ℕ) → room + suc (length below) ≡ limit → (fs bs : List Token) (g b : List ℕ) → us ≡ fs ++ bs → r ≡ g ++ b → (name m : List ℕ) → name ≡ part ++ m → fs ≡ tokens.Key start name ∷ [] → IsNew once had name → ColonRest once room (opens.Object (name ∷ had) ∷ below) (at + 1 + length g) bs b → (d : Did) → DidFollows d m g → Follows once limit (key_goes once d place (state at start (spots.InKey place) part (opens.Object had ∷ below)) c) us r
    key_on place had below room e fs bs g b u t name m i v n q bad f = absurd f
    key_on place had below room e fs bs g b u t name m i v n q ends f =
        let l : name ≡ part = i ∙ ap (λ x. part ++ x) f.0 ∙ append-nil part in
        let C : List ℕ → ℕ → List Token → List ℕ → Type 0 = λ x. ColonRest once room (opens.Object (x ∷ had) ∷ below) in
        follows_else _ _ _ us r (new_passes once had part (subst (IsNew once had) l n)) (
          bs,
          u ∙ ap (λ x. x ++ bs) v ∙ ap (λ x. tokens.Key start x ∷ bs) l,
          record { room = room; room_is = e; rest = colon_same once room (part ∷ had) (with_name had part) below (put_same had part) _ _ _ (subst (λ x. C x (at + 1) bs r) l (then_ended (C name) at bs r g b f.1 t q)) },
        )
    key_on place had below room e fs bs g b u t name m i v n q (stays bytes to) f = (
      us,
      refl,
      record { room = room; room_is = e; rest = (name, then_rest (KeyEnd once had start (part ++ bytes) to name) (ColonRest once room (opens.Object (name ∷ had) ∷ below)) at us fs bs r g b u t (record { meant = f.0; ends = f.2; name_is = i ∙ ap (λ x. part ++ x) f.1 ∙ sym (append_assoc part bytes f.0); tokens_are = v; is_new = n }) q) },
    )

    forward_key : (place : InString) (had : List (List ℕ)) (below : List Open) (room : ℕ) → room + suc (length below) ≡ limit → (name : List ℕ) → Split (KeyEnd once had start part place name) (ColonRest once room (opens.Object (name ∷ had) ∷ below)) c at us r → Follows once limit (in_key once place (state at start (spots.InKey place) part (opens.Object had ∷ below)) c) us r
    forward_key place had below room e name (empty fs bs u n q) = absurd (string_open place n.meant n.ends)
    forward_key place had below room e name (more fs bs g b u t n q) = key_on place had below room e fs bs g b u t name n.meant n.name_is n.tokens_are n.is_new q (string_did place c) (string_forward place c n.meant g n.ends)

  forward_at : (c at start : ℕ) (part : List ℕ) (us : List Token) (r : List ℕ) (spot : Spot) (within : List Open) (room : ℕ) → room + length within ≡ limit → LeftAt once room spot start part within at us (c ∷ r) → Follows once limit (moved_at once limit spot (state at start spot part within) c) us r
  forward_at c at start part us r spots.Value within room e h = at_spot_value c at start part us r within room e (blank_or _ c at us r h)
  forward_at c at start part us r spots.FirstItem (opens.Array ∷ below) room e h = first_item c at start part us r below room e (blank_or _ c at us r h)
  forward_at c at start part us r spots.FirstItem (opens.Object had ∷ below) room e h = absurd h
  forward_at c at start part us r spots.FirstItem [] room e h = absurd h
  forward_at c at start part us r spots.FirstKey (opens.Object had ∷ below) room e h = first_key c at start part us r had below room e (blank_or _ c at us r h)
  forward_at c at start part us r spots.FirstKey (opens.Array ∷ below) room e h = absurd h
  forward_at c at start part us r spots.FirstKey [] room e h = absurd h
  forward_at c at start part us r spots.Key (opens.Object had ∷ below) room e h = next_key c at start part us r had below room e (blank_or _ c at us r h)
  forward_at c at start part us r spots.Key (opens.Array ∷ below) room e h = absurd h
  forward_at c at start part us r spots.Key [] room e h = absurd h
  forward_at c at start part us r spots.Colon within room e h = forward_colon c at start part us r within room e (blank_or _ c at us r h)
  forward_at c at start part us r spots.After within room e h = forward_after c at start part us r within room e h
  forward_at c at start part us r (spots.InKey place) (opens.Object had ∷ below) room e h = forward_key c at start part us r place had below room e h.0 (split _ _ c at us r h.1)
  forward_at c at start part us r (spots.InKey place) (opens.Array ∷ below) room e h = absurd h
  forward_at c at start part us r (spots.InKey place) [] room e h = absurd h
  forward_at c at start part us r (spots.InText place) within room e h = forward_text c at start part us r place within room e (split (TextEnd start part place) (Rest once room within) c at us r h)
  forward_at c at start part us r (spots.InNumber place) within room e h = forward_number c at start part us r place within room e (split (NumeralEnd start part place) (Rest once room within) c at us r h)
  forward_at c at start part us r (spots.InWord place) within room e h = forward_word c at start part us r place within room e (split (WordEnd start place) (Rest once room within) c at us r h)

  -- What may follow is taken.
  pub forward : (s : Reading) (c : ℕ) (us : List Token) (r : List ℕ) → Left once limit s us (c ∷ r) → Follows once limit (moved once limit s c) us r
  unfolding moved
  forward s c us r h = forward_at c s.at s.start s.part us r s.spot s.within h.room h.room_is h.rest
