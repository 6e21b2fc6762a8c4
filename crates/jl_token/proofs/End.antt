-- Where nothing more may follow.
use Rattle.std.proofs.Common.{◌≡◌, ℕ, suc, ◌+◌, ◌-◌, inl, inr, Bool, true, false, List, [], ◌∷◌, ◌++◌, length, refl, sym, ap, ◌∙◌, subst, arith, Result, Ok, add-zero, append-nil}
use Rattle.jl_model.specs.declared.faults.Fault.{Fault}
use Rattle.jl_model.specs.declared.scalars.Scalar.TheVariants as scalars
use Rattle.jl_model.specs.declared.tokens.Token.{Token}
use Rattle.jl_model.specs.declared.tokens.Token.TheVariants as tokens
use Rattle.jl_model.specs.JsonTree.{Tree}
use Rattle.jl_model.specs.JsonTree.Tree.{scalar, array, object}
use Rattle.jl_model.specs.JsonText.{Then, Sign, Blanks, EndArray, EndObject, ScalarText, ValueText, ItemsText, MembersText}
use Rattle.jl_model.specs.JsonStrings.{IsString}
use Rattle.jl_token.specs.declared.opens.Open.{Open}
use Rattle.jl_token.specs.declared.opens.Open.TheVariants as opens
use Rattle.jl_token.specs.declared.readings.Reading.{Reading}
use Rattle.jl_token.specs.declared.readings.Spot.{Spot}
use Rattle.jl_token.specs.declared.readings.Spot.TheVariants as spots
use Rattle.jl_token.specs.declared.numbers.InNumber.{InNumber}
use Rattle.jl_token.specs.NumberMachine.{NumberEnd, is_whole, next_letter, later_letters}
use Rattle.jl_token.specs.StringMachine.{EndOf}
use Rattle.jl_token.specs.Machine.{ends_in_number, ends_at, finished}
use Rattle.jl_token.specs.Left.{Left, LeftAt, Formed, Or, SomeValue, Rest, KeyRest, NumeralEnd}
use Rattle.jl_token.proofs.Heads.{none_left, none_right}
use Rattle.jl_token.proofs.Languages.{same}
use Rattle.jl_token.proofs.Rules.{ItemGoes, MemberGoes, more_items_out, more_members_out}
use Rattle.jl_token.proofs.NumberMoves.{whole_end, end_whole}
use Rattle.jl_token.proofs.TokenEnds.{string_open, no_string}
use Rattle.jl_token.proofs.Forward.{state, no_scalar}

blanks_end : (K : ℕ → List Token → List ℕ → Type 0) (at : ℕ) (us : List Token) → Then Blanks K at us [] → K at us []
blanks_end K at us h =
    let f : h.front ≡ [] = none_left h.front h.back h.text_is in
    same K (let n : at + length h.front ≡ at = ap (λ x. at + length x) f ∙ add-zero at in n) (sym (h.tokens_are ∙ ap (λ x. x ++ h.back_tokens) h.in_first.tokens_are)) (none_right h.front h.back h.text_is) h.in_second

no_sign : (byte : ℕ) (made : ℕ → List Token) (K : ℕ → List Token → List ℕ → Type 0) (at : ℕ) (us : List Token) → Then (Sign byte made) K at us [] → ⊥
no_sign byte made K at us h =
    let e : [] ≡ byte ∷ h.back = h.text_is ∙ ap (λ x. x ++ h.back) h.in_first.text_is in
    cc

no_signed : (byte : ℕ) (made : ℕ → List Token) (K : ℕ → List Token → List ℕ → Type 0) (at : ℕ) (us : List Token) (t : List ℕ) → t ≡ [] → Then (Sign byte made) K at us t → ⊥
no_signed byte made K at us t e h = no_sign byte made K at us (subst (λ x. Then (Sign byte made) K at us x) e h)

ok_same : (a b : List Token) → ◌≡◌ {A = Result (List Token) Fault} (Ok a) (Ok b) → a ≡ b
ok_same a b q = cc

module _ (once : Bool) where
  no_value : (room : ℕ) (K : ℕ → List Token → List ℕ → Type 0) (at : ℕ) (us : List Token) → Then (SomeValue once room) K at us [] → ⊥
  no_value room K at us h = go h.in_first.0 h.in_first.1
    where
      f : h.front ≡ []
      f = none_left h.front h.back h.text_is

      go : (v : Tree) → ValueText once room v at h.front_tokens h.front → ⊥
      go (scalar place value) p = no_scalar once 0 0 at 0 [] [] [] place value h.front_tokens (subst (λ x. ScalarText place value at h.front_tokens x) f p)
      go (array place items) p = no_signed 91 (λ at. tokens.OpenArray at ∷ []) (ItemsText once p.left items) _ _ _ f p.spelled
      go (object place members) p = no_signed 123 (λ at. tokens.OpenObject at ∷ []) (MembersText once p.left [] members) _ _ _ f p.spelled

  no_key : (room : ℕ) (had : List (List ℕ)) (below : List Open) (at : ℕ) (us : List Token) → KeyRest once room had below at us [] → ⊥
  no_key room had below at us k =
      let h = k.2 in
      no_string k.1 (subst (IsString k.1) (none_left h.front h.back h.text_is) h.in_first.spelled)

  no_item_goes : (room : ℕ) (below : List Open) (at : ℕ) (us : List Token) → ItemGoes once room below at us [] → ⊥
  no_item_goes room below at us (inl h) = no_sign _ _ _ at us h
  no_item_goes room below at us (inr h) = no_sign _ _ _ at us h

  no_member_goes : (room : ℕ) (had : List (List ℕ)) (below : List Open) (at : ℕ) (us : List Token) → MemberGoes once room below had at us [] → ⊥
  no_member_goes room had below at us (inl h) = no_sign _ _ _ at us h
  no_member_goes room had below at us (inr h) = no_sign _ _ _ at us h

  no_rest : (room : ℕ) (within : List Open) (at : ℕ) (us : List Token) → Rest once room within at us [] → (within ≡ []) × (us ≡ [])
  no_rest room [] at us h = (refl, h.tokens_are)
  no_rest room (opens.Array ∷ below) at us h = absurd (no_item_goes room below at us (blanks_end _ at us (more_items_out once room below at us [] h)))
  no_rest room (opens.Object had ∷ below) at us h = absurd (no_member_goes room had below at us (blanks_end _ at us (more_members_out once room below had at us [] h)))

  no_first_item : (room : ℕ) (below : List Open) (at : ℕ) (us : List Token) → Or (Then EndArray (Rest once (suc room) below)) (Then (SomeValue once room) (Rest once room (opens.Array ∷ below))) at us [] → ⊥
  no_first_item room below at us (inl h) = no_sign _ _ _ at us h
  no_first_item room below at us (inr h) = no_value _ _ at us h

  no_first_key : (room : ℕ) (had : List (List ℕ)) (below : List Open) (at : ℕ) (us : List Token) → Or (Then EndObject (Rest once (suc room) below)) (KeyRest once room had below) at us [] → ⊥
  no_first_key room had below at us (inl h) = no_sign _ _ _ at us h
  no_first_key room had below at us (inr h) = no_key room had below at us h

  -- a number that the end completes
  number_over : (place : InNumber) (at start : ℕ) (part : List ℕ) (within : List Open) (room : ℕ) (us : List Token) → Then (NumeralEnd start part place) (Rest once room within) at us [] → ends_at (spots.InNumber place) within (state at start (spots.InNumber place) part within) ≡ Ok us
  number_over place at start part within room us h =
      let f : h.front ≡ [] = none_left h.front h.back h.text_is in
      let e = no_rest room within _ _ (subst (λ x. Rest once room within (at + length h.front) h.back_tokens x) (none_right h.front h.back h.text_is) h.in_second) in
      let w : is_whole place ≡ true = end_whole place (subst (NumberEnd place) f h.in_first.ends) in
      let u : us ≡ tokens.Value start (scalars.Number part) ∷ [] = h.tokens_are ∙ ap (λ x. x ++ h.back_tokens) h.in_first.tokens_are ∙ ap (λ x. tokens.Value start (scalars.Number (part ++ x)) ∷ h.back_tokens) f ∙ ap (λ x. tokens.Value start (scalars.Number x) ∷ h.back_tokens) (append-nil part) ∙ ap (λ x. tokens.Value start (scalars.Number part) ∷ x) e.1 in
      subst (λ x. ends_at (spots.InNumber place) x (state at start (spots.InNumber place) part x) ≡ Ok us) (sym e.0)
      (subst (λ x. ends_in_number x (state at start (spots.InNumber place) part []) ≡ Ok us) (sym w) (ap Ok (sym u)))

  end_at : (spot : Spot) (at start : ℕ) (part : List ℕ) (within : List Open) (room : ℕ) (us : List Token) → LeftAt once room spot start part within at us [] → ends_at spot within (state at start spot part within) ≡ Ok us
  end_at spots.Value at start part within room us h = absurd (no_value room _ at us (blanks_end _ at us h))
  end_at spots.FirstItem at start part (opens.Array ∷ below) room us h = absurd (no_first_item room below at us (blanks_end _ at us h))
  end_at spots.FirstItem at start part (opens.Object had ∷ below) room us h = absurd h
  end_at spots.FirstItem at start part [] room us h = absurd h
  end_at spots.FirstKey at start part (opens.Object had ∷ below) room us h = absurd (no_first_key room had below at us (blanks_end _ at us h))
  end_at spots.FirstKey at start part (opens.Array ∷ below) room us h = absurd h
  end_at spots.FirstKey at start part [] room us h = absurd h
  end_at spots.Key at start part (opens.Object had ∷ below) room us h = absurd (no_key room had below at us (blanks_end _ at us h))
  end_at spots.Key at start part (opens.Array ∷ below) room us h = absurd h
  end_at spots.Key at start part [] room us h = absurd h
  end_at spots.Colon at start part within room us h = absurd (no_sign _ _ _ at us (blanks_end _ at us h))
  end_at spots.After at start part [] room us h = ap Ok (sym h.tokens_are)
  end_at spots.After at start part (o ∷ below) room us h = let e = (no_rest room (o ∷ below) at us h).0 in cc
  end_at (spots.InKey place) at start part (opens.Object had ∷ below) room us h = absurd (string_open place h.1.in_first.meant (subst (EndOf place h.1.in_first.meant) (none_left h.1.front h.1.back h.1.text_is) h.1.in_first.ends))
  end_at (spots.InKey place) at start part (opens.Array ∷ below) room us h = absurd h
  end_at (spots.InKey place) at start part [] room us h = absurd h
  end_at (spots.InText place) at start part within room us h = absurd (string_open place h.in_first.meant (subst (EndOf place h.in_first.meant) (none_left h.front h.back h.text_is) h.in_first.ends))
  end_at (spots.InNumber place) at start part within room us h = number_over place at start part within room us h
  end_at (spots.InWord place) at start part within room us h = absurd (let e : next_letter place ∷ later_letters place ≡ [] = sym h.in_first.text_is ∙ none_left h.front h.back h.text_is in let x : ⊥ = cc in x)

  -- Where nothing follows the end gives the last tokens.
  pub end : (limit : ℕ) (s : Reading) (us : List Token) → Left once limit s us [] → finished s ≡ Ok us
  end limit s us h = end_at s.spot s.at s.start s.part s.within h.room us h.rest

  back_number : (place : InNumber) (at start : ℕ) (part : List ℕ) (room : ℕ) (us : List Token) (w : Bool) → (w ≡ true → NumberEnd place []) → ends_in_number w (state at start (spots.InNumber place) part []) ≡ Ok us → Then (NumeralEnd start part place) (Rest once room []) at us []
  back_number place at start part room us true n e = record {
    front_tokens = tokens.Value start (scalars.Number part) ∷ [];
    back_tokens = [];
    front = [];
    back = [];
    tokens_are = sym (ok_same (tokens.Value start (scalars.Number part) ∷ []) us e);
    text_is = refl;
    in_first = record { ends = n refl; tokens_are = ap (λ x. tokens.Value start (scalars.Number x) ∷ []) (sym (append-nil part)) };
    in_second = record { tokens_are = refl; blank = tt };
  }
  back_number place at start part room us false n e = cc

  back_end_at : (spot : Spot) (at start : ℕ) (part : List ℕ) (within : List Open) (room : ℕ) (us : List Token) → ends_at spot within (state at start spot part within) ≡ Ok us → LeftAt once room spot start part within at us []
  back_end_at spots.After at start part [] room us e = record { tokens_are = sym (ok_same [] us e); blank = tt }
  back_end_at (spots.InNumber place) at start part [] room us e = back_number place at start part room us (is_whole place) (whole_end place) e
  back_end_at _ at start part _ room us e = cc

  -- And what the end gives follows.
  pub back_end : (limit : ℕ) (s : Reading) (us : List Token) → Formed limit s → finished s ≡ Ok us → Left once limit s us []
  back_end limit s us f e = record { room = limit - length s.within; room_is = omega (arith, f.depth); rest = back_end_at s.spot s.at s.start s.part s.within (limit - length s.within) us e }
