-- What may follow behind a byte that is taken may follow with it, where the text stood before.
use Rattle.std.proofs.Common.{◌≡◌, ℕ, zero, suc, ◌+◌, ◌≤◌, inl, inr, Bool, true, false, ◌&&◌, eqb, ltb, List, [], ◌∷◌, ◌++◌, length, refl, sym, ap, ◌∙◌, subst, arith, append_assoc, Ok, Err, Option, Some, None}
use Rattle.std.proofs.lemmas.List.{append-nil}
use Rattle.std.proofs.lemmas.Bool.{cond_both, ltb-true, eqb-true}
use Rattle.std.specs.List.{list_any}
use Rattle.std.specs.Str.{bytes_eq}
use Rattle.jl_model.specs.declared.scalars.Scalar.TheVariants as scalars
use Rattle.jl_model.specs.declared.tokens.Token.{Token}
use Rattle.jl_model.specs.declared.tokens.Token.TheVariants as tokens
use Rattle.jl_model.specs.JsonTree.Tree.{scalar, array, object}
use Rattle.jl_model.specs.JsonText.{Then, Blanks, Comma, Colon, EndArray, EndObject, IsScalar, KeyText, ItemsText, MembersText}
use Rattle.jl_token.specs.declared.kinds.Kind.{Kind}
use Rattle.jl_token.specs.declared.kinds.Kind.TheVariants as kinds
use Rattle.jl_token.specs.declared.opens.Open.{Open}
use Rattle.jl_token.specs.declared.opens.Open.TheVariants as opens
use Rattle.jl_token.specs.declared.readings.Reading.{Reading}
use Rattle.jl_token.specs.declared.readings.Spot.{Spot}
use Rattle.jl_token.specs.declared.readings.Spot.TheVariants as spots
use Rattle.jl_token.specs.declared.strings.InString.{InString}
use Rattle.jl_token.specs.declared.strings.InString.TheVariants.{Plain}
use Rattle.jl_token.specs.declared.numbers.InNumber.{InNumber}
use Rattle.jl_token.specs.declared.numbers.InNumber.TheVariants.{Minus, Zero, Whole}
use Rattle.jl_token.specs.declared.words.InWord.{InWord}
use Rattle.jl_token.specs.declared.words.InWord.TheVariants.{N, T, F}
use Rattle.jl_token.specs.Names.{with_name}
use Rattle.jl_token.specs.NumberMachine.{NumberEnd, number_did, is_whole, next_letter, later_letters, word_next, word_of}
use Rattle.jl_token.specs.StringMachine.{Did, string_did, EndOf}
use Rattle.jl_token.specs.StringMachine.Did.{bad, ends, stays}
use Rattle.jl_token.specs.Machine.{Moved, moved, moved_at, kind_of, value_begins, at_value, at_first_item, at_first_key, at_key, at_colon, after_value, with_token, number_goes, word_goes, in_word, text_goes, key_goes}
use Rattle.jl_token.specs.Left.{Left, Formed, FormedAt, SomeValue, Rest, ValueRest, ColonRest, KeyRest, AtInKey, TextEnd, KeyEnd, NumeralEnd, WordEnd}
use Rattle.jl_token.proofs.Languages.{one_more, one_only, none_more, one_blank, no_blank, sign_on, map_first, to_left}
use Rattle.jl_token.proofs.ByteKinds.{KindSays, kind_says}
use Rattle.jl_token.proofs.NewNames.{passed_is_new, colon_same, same_put}
use Rattle.jl_token.proofs.NumberMoves.{NumberBacks, number_back, whole_end}
use Rattle.jl_token.proofs.StringMoves.{DidBacks, string_back}
use Rattle.jl_token.proofs.TokenEnds.{minus_begins, zero_begins, digit_begins, WordSays, word_says}
use Rattle.jl_token.proofs.Rules.{ItemGoes, MemberGoes, more_items_in, more_items_out, more_members_in, more_members_out, items_in, members_in}
use Rattle.jl_token.proofs.Forward.{state}

-- what a move says of where the text stood before
abbrev pub Backs : Bool → ℕ → Reading → ℕ → Moved → Type 0
Backs once limit s c (Err _) = Unit {0}
Backs once limit s c (Ok m) = Formed limit m.1 × (m.1.at ≡ s.at + 1) × ((vs : List Token) (r : List ℕ) → Left once limit m.1 vs r → Left once limit s (m.0 ++ vs) (c ∷ r))

-- the same where a value begins at the byte
pub record ValueHere (once : Bool) (limit : ℕ) (within : List Open) (at : ℕ) (us : List Token) (t : List ℕ) : Type 0 where
  pub room : ℕ
  pub room_is : room + length within ≡ limit
  pub rest : Then (SomeValue once room) (Rest once room within) at us t

abbrev pub ValueBacks : Bool → ℕ → ℕ → List Open → ℕ → Moved → Type 0
ValueBacks once limit at within c (Err _) = Unit {0}
ValueBacks once limit at within c (Ok m) = Formed limit m.1 × (m.1.at ≡ at + 1) × ((vs : List Token) (r : List ℕ) → Left once limit m.1 vs r → ValueHere once limit within at (m.0 ++ vs) (c ∷ r))

one_less : (n a limit : ℕ) → n + a ≡ limit → suc a ≤ limit → (m : ℕ) × (n ≡ suc m)
one_less zero a limit e f = absurd (omega arith)
one_less (suc m) a limit e f = (m, refl)

module _ (once : Bool) (limit : ℕ) where
  module _ (at start : ℕ) (part : List ℕ) (c : ℕ) where
    abbrev At : Spot → List Open → Reading
    At spot within = state at start spot part within

    -- ---- behind a value
    back_after : (within : List Open) (k : Kind) → KindSays c k → length within ≤ limit → Backs once limit (At spots.After within) c (after_value (At spots.After within) k)
    back_after [] kinds.Blank i f =
        (record { depth = f; spot = tt }, refl, λ vs r l. record { room = l.room; room_is = l.room_is; rest = record { tokens_are = l.rest.tokens_are; blank = (i, l.rest.blank) } })
    back_after (opens.Array ∷ below) kinds.Blank i f =
        (record { depth = f; spot = tt }, refl, λ vs r l. record { room = l.room; room_is = l.room_is; rest = more_items_in once l.room below _ _ _ (one_blank _ c at vs r i (more_items_out once l.room below _ _ _ l.rest)) })
    back_after (opens.Object had ∷ below) kinds.Blank i f =
        (record { depth = f; spot = tt }, refl, λ vs r l. record { room = l.room; room_is = l.room_is; rest = more_members_in once l.room below had _ _ _ (one_blank _ c at vs r i (more_members_out once l.room below had _ _ _ l.rest)) })
    back_after (opens.Array ∷ below) kinds.CloseArray i f = (
      record { depth = omega arith; spot = tt },
      refl,
      λ vs r l.
          let n = one_less l.room (length below) limit l.room_is f in
          record { room = n.0; room_is = omega (arith, n.1); rest = more_items_in once n.0 below _ _ _ (no_blank (ItemGoes once n.0 below) at _ (c ∷ r) (inl (subst (λ x. Then EndArray (Rest once (suc n.0) below) at (tokens.CloseArray at ∷ vs) (x ∷ r)) (sym i) (sign_on 93 _ (Rest once (suc n.0) below) at vs r (subst (λ x. Rest once x below (at + 1) vs r) n.1 l.rest))))) },
    )
    back_after (opens.Object had ∷ below) kinds.CloseObject i f = (
      record { depth = omega arith; spot = tt },
      refl,
      λ vs r l.
          let n = one_less l.room (length below) limit l.room_is f in
          record { room = n.0; room_is = omega (arith, n.1); rest = more_members_in once n.0 below had _ _ _ (no_blank (MemberGoes once n.0 below had) at _ (c ∷ r) (inl (subst (λ x. Then EndObject (Rest once (suc n.0) below) at (tokens.CloseObject at ∷ vs) (x ∷ r)) (sym i) (sign_on 125 _ (Rest once (suc n.0) below) at vs r (subst (λ x. Rest once x below (at + 1) vs r) n.1 l.rest))))) },
    )
    back_after (opens.Array ∷ below) kinds.Comma i f =
        (record { depth = f; spot = tt }, refl, λ vs r l. record { room = l.room; room_is = l.room_is; rest = more_items_in once l.room below _ _ _ (no_blank (ItemGoes once l.room below) at vs (c ∷ r) (inr (subst (λ x. Then Comma (ValueRest once l.room (opens.Array ∷ below)) at vs (x ∷ r)) (sym i) (sign_on 44 _ (ValueRest once l.room (opens.Array ∷ below)) at vs r l.rest)))) })
    back_after (opens.Object had ∷ below) kinds.Comma i f =
        (record { depth = f; spot = tt }, refl, λ vs r l. record { room = l.room; room_is = l.room_is; rest = more_members_in once l.room below had _ _ _ (no_blank (MemberGoes once l.room below had) at vs (c ∷ r) (inr (subst (λ x. Then Comma (Then Blanks (KeyRest once l.room had below)) at vs (x ∷ r)) (sym i) (sign_on 44 _ (Then Blanks (KeyRest once l.room had below)) at vs r l.rest)))) })
    back_after _ _ i f = tt

    -- ---- at a value
    back_word : (w : InWord) (within : List Open) → ((g : List ℕ) → g ≡ next_letter w ∷ later_letters w → IsScalar (word_of w) (c ∷ g)) → length within ≤ limit → ValueBacks once limit at within c (Ok ([], state (at + 1) at (spots.InWord w) [] within))
    back_word w within i f =
        (record { depth = f; spot = tt }, refl, λ vs r l. record { room = l.room; room_is = l.room_is; rest = one_more (WordEnd at w) (SomeValue once l.room) (Rest once l.room within) c at vs r (λ fs g x. (scalar at (word_of w), record { place_is = refl; tokens_are = x.tokens_are; spelled = i g x.text_is })) l.rest })

    back_digit : (place : InNumber) (within : List Open) → ((g : List ℕ) → NumberEnd place g → IsScalar (scalars.Number (c ∷ g)) (c ∷ g)) → length within ≤ limit → ValueBacks once limit at within c (Ok ([], state (at + 1) at (spots.InNumber place) (c ∷ []) within))
    back_digit place within i f =
        (record { depth = f; spot = tt }, refl, λ vs r l. record { room = l.room; room_is = l.room_is; rest = one_more (NumeralEnd at (c ∷ []) place) (SomeValue once l.room) (Rest once l.room within) c at vs r (λ fs g x. (scalar at (scalars.Number (c ∷ g)), record { place_is = refl; tokens_are = x.tokens_are; spelled = i g x.ends })) l.rest })

    back_value : (spot : Spot) (within : List Open) (k : Kind) → KindSays c k → length within ≤ limit → ValueBacks once limit at within c (value_begins limit (At spot within) c k)
    back_value spot within kinds.Minus i f = back_digit Minus within (λ g x. (refl, minus_begins c g i x)) f
    back_value spot within kinds.Zero i f = back_digit Zero within (λ g x. (refl, zero_begins c g i x)) f
    back_value spot within kinds.Digit i f = back_digit Whole within (λ g x. (refl, digit_begins c g i.0 i.1 x)) f
    back_value spot within kinds.LetterN i f = back_word N within (λ g x. ap (λ z. z ∷ g) i ∙ ap (λ z. 110 ∷ z) x) f
    back_value spot within kinds.LetterT i f = back_word T within (λ g x. ap (λ z. z ∷ g) i ∙ ap (λ z. 116 ∷ z) x) f
    back_value spot within kinds.LetterF i f = back_word F within (λ g x. ap (λ z. z ∷ g) i ∙ ap (λ z. 102 ∷ z) x) f
    back_value spot within kinds.Quote i f =
        (record { depth = f; spot = tt }, refl, λ vs r l. record { room = l.room; room_is = l.room_is; rest = one_more (TextEnd at [] Plain) (SomeValue once l.room) (Rest once l.room within) c at vs r (λ fs g x. (scalar at (scalars.Str x.meant), record { place_is = refl; tokens_are = x.tokens_are; spelled = (g, ap (λ z. z ∷ g) i, x.ends) })) l.rest })
    back_value spot within kinds.OpenArray i f =
        cond_both (ltb (length within) limit) _ _ (ValueBacks once limit at within c)
        (λ t. (
          record { depth = ltb-true (length within) limit t; spot = tt },
          refl,
          λ vs r l.
              let g = items_in once l.room within _ _ _ l.rest in
              let h = to_left (sign_on 91 (λ at. tokens.OpenArray at ∷ []) (Then (ItemsText once l.room g.0) (Rest once (suc l.room) within)) at vs r g.1) in
              record {
                room = suc l.room;
                room_is = omega (arith, l.room_is);
                rest = subst (λ x. Then (SomeValue once (suc l.room)) (Rest once (suc l.room) within) at (tokens.OpenArray at ∷ vs) (x ∷ r)) (sym i)
                    (map_first (λ p _ _ x. (array p g.0, record { place_is = refl; left = l.room; room_is = refl; spelled = x })) h);
              },
        ))
        (λ _. tt)
    back_value spot within kinds.OpenObject i f =
        cond_both (ltb (length within) limit) _ _ (ValueBacks once limit at within c)
        (λ t. (
          record { depth = ltb-true (length within) limit t; spot = tt },
          refl,
          λ vs r l.
              let g = members_in once l.room within [] _ _ _ l.rest in
              let h = to_left (sign_on 123 (λ at. tokens.OpenObject at ∷ []) (Then (MembersText once l.room [] g.0) (Rest once (suc l.room) within)) at vs r g.1) in
              record {
                room = suc l.room;
                room_is = omega (arith, l.room_is);
                rest = subst (λ x. Then (SomeValue once (suc l.room)) (Rest once (suc l.room) within) at (tokens.OpenObject at ∷ vs) (x ∷ r)) (sym i)
                    (map_first (λ p _ _ x. (object p g.0, record { place_is = refl; left = l.room; room_is = refl; spelled = x })) h);
              },
        ))
        (λ _. tt)
    back_value spot within _ i f = tt

    from_value : (spot : Spot) (within : List Open) (X : Moved) → ((us : List Token) (t : List ℕ) → ValueHere once limit within at us t → Left once limit (At spot within) us t) → ValueBacks once limit at within c X → Backs once limit (At spot within) c X
    from_value spot within (Ok m) g v = (v.0, v.1, λ vs r l. g _ _ (v.2 vs r l))
    from_value spot within (Err f) g v = tt

    back_at_value : (within : List Open) (k : Kind) → KindSays c k → length within ≤ limit → Backs once limit (At spots.Value within) c (at_value limit (At spots.Value within) c k)
    back_at_value within kinds.Blank i f =
        (record { depth = f; spot = tt }, refl, λ vs r l. record { room = l.room; room_is = l.room_is; rest = one_blank _ c at vs r i l.rest })
    back_at_value within k i f =
        from_value spots.Value within (value_begins limit (At spots.Value within) c k) (λ us t v. record { room = v.room; room_is = v.room_is; rest = no_blank _ at us t v.rest }) (back_value spots.Value within k i f)

    back_first_item : (below : List Open) (k : Kind) → KindSays c k → suc (length below) ≤ limit → Backs once limit (At spots.FirstItem (opens.Array ∷ below)) c (at_first_item limit (At spots.FirstItem (opens.Array ∷ below)) c k)
    back_first_item below kinds.Blank i f =
        (record { depth = f; spot = tt }, refl, λ vs r l. record { room = l.room; room_is = l.room_is; rest = one_blank _ c at vs r i l.rest })
    back_first_item below kinds.CloseArray i f = (
      record { depth = omega arith; spot = tt },
      refl,
      λ vs r l.
          let n = one_less l.room (length below) limit l.room_is f in
          record { room = n.0; room_is = omega (arith, n.1); rest = no_blank _ at _ (c ∷ r) (inl (subst (λ x. Then EndArray (Rest once (suc n.0) below) at (tokens.CloseArray at ∷ vs) (x ∷ r)) (sym i) (sign_on 93 _ (Rest once (suc n.0) below) at vs r (subst (λ x. Rest once x below (at + 1) vs r) n.1 l.rest)))) },
    )
    back_first_item below k i f =
        from_value spots.FirstItem (opens.Array ∷ below) (value_begins limit (At spots.FirstItem (opens.Array ∷ below)) c k) (λ us t v. record { room = v.room; room_is = v.room_is; rest = no_blank _ at us t (inr v.rest) }) (back_value spots.FirstItem (opens.Array ∷ below) k i f)

    -- ---- at a key
    back_key : (had : List (List ℕ)) (below : List Open) → c ≡ 34 → (vs : List Token) (r : List ℕ) (room : ℕ) → AtInKey once room at [] Plain (opens.Object had ∷ below) (at + 1) vs r → KeyRest once room had below at vs (c ∷ r)
    back_key had below i vs r room (name, g) =
        (at, name, one_more (KeyEnd once had at [] Plain name) (KeyText once had at name) (ColonRest once room (opens.Object (name ∷ had) ∷ below)) c at vs r (λ fs g x. record { place_is = refl; tokens_are = x.tokens_are; spelled = (g, ap (λ z. z ∷ g) i, subst (λ m. EndOf Plain m g) (sym x.name_is) x.ends); is_new = x.is_new }) g)

    back_first_key : (had : List (List ℕ)) (below : List Open) (k : Kind) → KindSays c k → suc (length below) ≤ limit → Backs once limit (At spots.FirstKey (opens.Object had ∷ below)) c (at_first_key (At spots.FirstKey (opens.Object had ∷ below)) k)
    back_first_key had below kinds.Blank i f =
        (record { depth = f; spot = tt }, refl, λ vs r l. record { room = l.room; room_is = l.room_is; rest = one_blank _ c at vs r i l.rest })
    back_first_key had below kinds.CloseObject i f = (
      record { depth = omega arith; spot = tt },
      refl,
      λ vs r l.
          let n = one_less l.room (length below) limit l.room_is f in
          record { room = n.0; room_is = omega (arith, n.1); rest = no_blank _ at _ (c ∷ r) (inl (subst (λ x. Then EndObject (Rest once (suc n.0) below) at (tokens.CloseObject at ∷ vs) (x ∷ r)) (sym i) (sign_on 125 _ (Rest once (suc n.0) below) at vs r (subst (λ x. Rest once x below (at + 1) vs r) n.1 l.rest)))) },
    )
    back_first_key had below kinds.Quote i f =
        (record { depth = f; spot = (tt, tt) }, refl, λ vs r l. record { room = l.room; room_is = l.room_is; rest = no_blank _ at _ (c ∷ r) (inr (back_key had below i vs r l.room l.rest)) })
    back_first_key had below _ i f = tt

    back_at_key : (had : List (List ℕ)) (below : List Open) (k : Kind) → KindSays c k → suc (length below) ≤ limit → Backs once limit (At spots.Key (opens.Object had ∷ below)) c (at_key (At spots.Key (opens.Object had ∷ below)) k)
    back_at_key had below kinds.Blank i f =
        (record { depth = f; spot = tt }, refl, λ vs r l. record { room = l.room; room_is = l.room_is; rest = one_blank _ c at vs r i l.rest })
    back_at_key had below kinds.Quote i f =
        (record { depth = f; spot = (tt, tt) }, refl, λ vs r l. record { room = l.room; room_is = l.room_is; rest = no_blank _ at _ (c ∷ r) (back_key had below i vs r l.room l.rest) })
    back_at_key had below _ i f = tt

    back_colon : (within : List Open) (k : Kind) → KindSays c k → length within ≤ limit → Backs once limit (At spots.Colon within) c (at_colon (At spots.Colon within) k)
    back_colon within kinds.Blank i f =
        (record { depth = f; spot = tt }, refl, λ vs r l. record { room = l.room; room_is = l.room_is; rest = one_blank _ c at vs r i l.rest })
    back_colon within kinds.Colon i f =
        (record { depth = f; spot = tt }, refl, λ vs r l. record { room = l.room; room_is = l.room_is; rest = no_blank _ at _ (c ∷ r) (subst (λ x. Then Colon (ValueRest once l.room within) at vs (x ∷ r)) (sym i) (sign_on 58 _ (ValueRest once l.room within) at vs r l.rest)) })
    back_colon within _ i f = tt

    -- ---- in a number
    back_over : (place : InNumber) (within : List Open) (X : Moved) → NumberEnd place [] → Backs once limit (At spots.After within) c X → Backs once limit (At (spots.InNumber place) within) c (with_token (tokens.Value start (scalars.Number part)) X)
    back_over place within (Err f) n b = tt
    back_over place within (Ok m) n b = (
      b.0,
      b.1,
      λ vs r l.
          let g = b.2 vs r l in
          record { room = g.room; room_is = g.room_is; rest = none_more (NumeralEnd start part place) (Rest once g.room within) at (tokens.Value start (scalars.Number part) ∷ []) (m.0 ++ vs) (c ∷ r) (record { ends = n; tokens_are = ap (λ x. tokens.Value start (scalars.Number x) ∷ []) (sym (append-nil part)) }) g.rest },
    )

    back_number : (place : InNumber) (within : List Open) (k : Kind) → KindSays c k → length within ≤ limit → (o : Option InNumber) → NumberBacks place c o → (w : Bool) → (w ≡ true → NumberEnd place []) → Backs once limit (At (spots.InNumber place) within) c (number_goes o w (At (spots.InNumber place) within) c k)
    back_number place within k i f (Some to) b w n =
        (record { depth = f; spot = tt }, refl, λ vs r l. record { room = l.room; room_is = l.room_is; rest = one_more (NumeralEnd start (part ++ c ∷ []) to) (NumeralEnd start part place) (Rest once l.room within) c at vs r (λ fs g x. record { ends = b g x.ends; tokens_are = x.tokens_are ∙ ap (λ z. tokens.Value start (scalars.Number z) ∷ []) (append_assoc part (c ∷ []) g) }) l.rest })
    back_number place within k i f None b true n = back_over place within (after_value (At spots.After within) k) (n refl) (back_after within k i f)
    back_number place within k i f None b false n = tt

    -- ---- in a word
    back_letter : (place : InWord) (within : List Open) → c ≡ next_letter place → length within ≤ limit → (o : Option InWord) → WordSays place o → Backs once limit (At (spots.InWord place) within) c (word_goes o place (At (spots.InWord place) within))
    back_letter place within i f None s =
        (record { depth = f; spot = tt }, refl, λ vs r l. record { room = l.room; room_is = l.room_is; rest = one_only (WordEnd start place) (Rest once l.room within) c at (tokens.Value start (word_of place) ∷ []) vs r (record { text_is = ap (λ z. z ∷ []) i ∙ ap (λ z. next_letter place ∷ z) (sym s); tokens_are = refl }) l.rest })
    back_letter place within i f (Some w) s =
        (record { depth = f; spot = tt }, refl, λ vs r l. record { room = l.room; room_is = l.room_is; rest = one_more (WordEnd start w) (WordEnd start place) (Rest once l.room within) c at vs r (λ fs g x. record { text_is = ap (λ z. z ∷ g) i ∙ ap (λ z. next_letter place ∷ z) (x.text_is ∙ sym s.0); tokens_are = x.tokens_are ∙ ap (λ z. tokens.Value start z ∷ []) (sym s.1) }) l.rest })

    back_in_word : (place : InWord) (within : List Open) → length within ≤ limit → Backs once limit (At (spots.InWord place) within) c (in_word place (At (spots.InWord place) within) c)
    back_in_word place within f = cond_both (eqb c (next_letter place)) _ _ (Backs once limit (At (spots.InWord place) within) c)
        (λ e. back_letter place within (eqb-true c (next_letter place) e) f (word_next place) (word_says place))
        (λ _. tt)

    -- ---- in a string
    back_text : (place : InString) (within : List Open) → length within ≤ limit → (d : Did) → DidBacks place c d → Backs once limit (At (spots.InText place) within) c (text_goes d place (At (spots.InText place) within) c)
    back_text place within f bad b = tt
    back_text place within f ends b =
        (record { depth = f; spot = tt }, refl, λ vs r l. record { room = l.room; room_is = l.room_is; rest = one_only (TextEnd start part place) (Rest once l.room within) c at (tokens.Value start (scalars.Str part) ∷ []) vs r (record { meant = []; ends = b; tokens_are = ap (λ z. tokens.Value start (scalars.Str z) ∷ []) (sym (append-nil part)) }) l.rest })
    back_text place within f (stays bytes to) b =
        (record { depth = f; spot = b.0 }, refl, λ vs r l. record { room = l.room; room_is = l.room_is; rest = one_more (TextEnd start (part ++ bytes) to) (TextEnd start part place) (Rest once l.room within) c at vs r (λ fs g x. record { meant = bytes ++ x.meant; ends = b.1 x.meant g x.ends; tokens_are = x.tokens_are ∙ ap (λ z. tokens.Value start (scalars.Str z) ∷ []) (append_assoc part bytes x.meant) }) l.rest })

    back_name : (place : InString) (had : List (List ℕ)) (below : List Open) → suc (length below) ≤ limit → (d : Did) → DidBacks place c d → Backs once limit (At (spots.InKey place) (opens.Object had ∷ below)) c (key_goes once d place (At (spots.InKey place) (opens.Object had ∷ below)) c)
    back_name place had below f bad b = tt
    back_name place had below f ends b = cond_both (once && list_any (bytes_eq part) had) _ _ (Backs once limit (At (spots.InKey place) (opens.Object had ∷ below)) c)
        (λ _. tt)
        (λ e. (record { depth = f; spot = tt }, refl, λ vs r l. record { room = l.room; room_is = l.room_is; rest = (part, one_only (KeyEnd once had start part place part) (ColonRest once l.room (opens.Object (part ∷ had) ∷ below)) c at (tokens.Key start part ∷ []) vs r (record { meant = []; ends = b; name_is = sym (append-nil part); tokens_are = refl; is_new = passed_is_new once had part e }) (colon_same once l.room (with_name had part) (part ∷ had) below (same_put had part) _ _ _ l.rest)) }))
    back_name place had below f (stays bytes to) b =
        (record { depth = f; spot = (tt, b.0) }, refl, λ vs r l. record { room = l.room; room_is = l.room_is; rest = (l.rest.0, one_more (KeyEnd once had start (part ++ bytes) to l.rest.0) (KeyEnd once had start part place l.rest.0) (ColonRest once l.room (opens.Object (l.rest.0 ∷ had) ∷ below)) c at vs r (λ fs g x. record { meant = bytes ++ x.meant; ends = b.1 x.meant g x.ends; name_is = x.name_is ∙ append_assoc part bytes x.meant; tokens_are = x.tokens_are; is_new = x.is_new }) l.rest.1) })

  back_at : (at start : ℕ) (part : List ℕ) (c : ℕ) (spot : Spot) (within : List Open) → length within ≤ limit → FormedAt spot within → Backs once limit (state at start spot part within) c (moved_at once limit spot (state at start spot part within) c)
  back_at at start part c spots.Value within f p = back_at_value at start part c within (kind_of c) (kind_says c) f
  back_at at start part c spots.FirstItem (opens.Array ∷ below) f p = back_first_item at start part c below (kind_of c) (kind_says c) f
  back_at at start part c spots.FirstItem (opens.Object had ∷ below) f p = absurd p
  back_at at start part c spots.FirstItem [] f p = absurd p
  back_at at start part c spots.FirstKey (opens.Object had ∷ below) f p = back_first_key at start part c had below (kind_of c) (kind_says c) f
  back_at at start part c spots.FirstKey (opens.Array ∷ below) f p = absurd p
  back_at at start part c spots.FirstKey [] f p = absurd p
  back_at at start part c spots.Key (opens.Object had ∷ below) f p = back_at_key at start part c had below (kind_of c) (kind_says c) f
  back_at at start part c spots.Key (opens.Array ∷ below) f p = absurd p
  back_at at start part c spots.Key [] f p = absurd p
  back_at at start part c spots.Colon within f p = back_colon at start part c within (kind_of c) (kind_says c) f
  back_at at start part c spots.After within f p = back_after at start part c within (kind_of c) (kind_says c) f
  back_at at start part c (spots.InKey place) (opens.Object had ∷ below) f p = back_name at start part c place had below f (string_did place c) (string_back place c p.1)
  back_at at start part c (spots.InKey place) (opens.Array ∷ below) f p = absurd p.0
  back_at at start part c (spots.InKey place) [] f p = absurd p.0
  back_at at start part c (spots.InText place) within f p = back_text at start part c place within f (string_did place c) (string_back place c p)
  back_at at start part c (spots.InNumber place) within f p = back_number at start part c place within (kind_of c) (kind_says c) f (number_did place c) (number_back place c) (is_whole place) (whole_end place)
  back_at at start part c (spots.InWord place) within f p = back_in_word at start part c place within f

  -- What follows behind a byte that is taken follows with it.
  pub back : (s : Reading) (c : ℕ) → Formed limit s → Backs once limit s c (moved once limit s c)
  unfolding moved
  back s c f = back_at s.at s.start s.part c s.spot s.within f.depth f.spot
