-- Wherever a text stands, some text may follow: one that closes all that is open.
use Rattle.std.proofs.Common.{◌≡◌, ℕ, suc, ◌+◌, ◌-◌, ◌<◌, ◌≤◌, inl, Bool, true, false, List, [], ◌∷◌, ◌++◌, length, refl, ap, arith, length-append}
use Rattle.std.specs.List.{AllByRecursion}
use Rattle.jl_model.specs.declared.scalars.Scalar.TheVariants as scalars
use Rattle.jl_model.specs.declared.tokens.Token.{Token}
use Rattle.jl_model.specs.declared.tokens.Token.TheVariants as tokens
use Rattle.jl_model.specs.JsonTree.Tree.{scalar}
use Rattle.jl_model.specs.JsonText.{Then, Sign, IsNew, KeyText}
use Rattle.jl_token.specs.declared.opens.Open.{Open}
use Rattle.jl_token.specs.declared.opens.Open.TheVariants as opens
use Rattle.jl_token.specs.declared.readings.Reading.{Reading}
use Rattle.jl_token.specs.declared.readings.Spot.{Spot}
use Rattle.jl_token.specs.declared.readings.Spot.TheVariants as spots
use Rattle.jl_token.specs.declared.strings.InString.{InString}
use Rattle.jl_token.specs.declared.strings.InString.TheVariants.{Plain}
use Rattle.jl_token.specs.NumberMachine.{next_letter, later_letters, word_of}
use Rattle.jl_token.specs.StringMachine.{InFormed}
use Rattle.jl_token.specs.Left.{Left, LeftAt, Formed, FormedAt, SomeValue, Rest, ValueRest, ColonRest, KeyRest, AtInKey, TextEnd, KeyEnd, NumeralEnd, WordEnd}
use Rattle.jl_token.proofs.Languages.{no_blank, sign_on}
use Rattle.jl_token.proofs.Rules.{ItemGoes, MemberGoes, more_items_in, more_members_in}
use Rattle.jl_token.proofs.NumberMoves.{some_number}
use Rattle.jl_token.proofs.StringMoves.{some_end}
use Rattle.jl_token.proofs.TokenEnds.{zero_begins}

-- a text of the language stands here
abbrev pub Some : (ℕ → List Token → List ℕ → Type 0) → ℕ → Type 0
Some L at = (us : List Token) × (t : List ℕ) × L at us t

some_then : (P Q : ℕ → List Token → List ℕ → Type 0) (at : ℕ) (us : List Token) (t : List ℕ) → P at us t → Some Q (at + length t) → Some (Then P Q) at
some_then P Q at us t p q = (us ++ q.0, t ++ q.1, record { front_tokens = us; back_tokens = q.0; front = t; back = q.1; tokens_are = refl; text_is = refl; in_first = p; in_second = q.2 })

some_sign : (byte : ℕ) (made : ℕ → List Token) (K : ℕ → List Token → List ℕ → Type 0) (at : ℕ) → Some K (at + 1) → Some (Then (Sign byte made) K) at
some_sign byte made K at q = (made at ++ q.0, byte ∷ q.1, sign_on byte made K at q.0 q.1 q.2)

pub total : List (List ℕ) → ℕ
total [] = 0
total (x ∷ xs) = length x + total xs

longer_is_new : (had : List (List ℕ)) (name : List ℕ) → total had < length name → AllByRecursion (λ old. old ≡ name → ⊥) had
unfolding total
longer_is_new [] name l = tt
longer_is_new (old ∷ had) name l = ((λ e. omega (arith, ap length e)), longer_is_new had name (omega arith))

pub new_name : (once : Bool) (had : List (List ℕ)) (name : List ℕ) → suc (total had) ≤ length name → IsNew once had name
new_name false had name l = tt
new_name true had name l = longer_is_new had name (omega arith)

module _ (once : Bool) where
  pub closed : (within : List Open) (room at : ℕ) → Some (Rest once room within) at
  closed [] room at = ([], [], record { tokens_are = refl; blank = tt })
  closed (opens.Array ∷ below) room at =
      let q = (some_sign 93 (λ x. tokens.CloseArray x ∷ []) (Rest once (suc room) below) at (closed below (suc room) (at + 1))) in (q.0, q.1, more_items_in once room below at q.0 q.1 (no_blank (ItemGoes once room below) at q.0 q.1 (inl q.2)))
  closed (opens.Object had ∷ below) room at =
      let q = (some_sign 125 (λ x. tokens.CloseObject x ∷ []) (Rest once (suc room) below) at (closed below (suc room) (at + 1))) in (q.0, q.1, more_members_in once room below had at q.0 q.1 (no_blank (MemberGoes once room below had) at q.0 q.1 (inl q.2)))

  -- a missing value is 0
  value : (within : List Open) (room at : ℕ) → Some (ValueRest once room within) at
  value within room at =
      let q = (some_then (SomeValue once room) (Rest once room within) at (tokens.Value at (scalars.Number (48 ∷ [])) ∷ []) (48 ∷ []) (scalar at (scalars.Number (48 ∷ [])), record { place_is = refl; tokens_are = refl; spelled = (refl, zero_begins 48 [] refl (record { front = []; back = []; text_is = refl; in_one = tt; in_other = tt })) }) (closed within room (at + 1))) in (q.0, q.1, no_blank _ at q.0 q.1 q.2)

  pub colon : (within : List Open) (room at : ℕ) → Some (ColonRest once room within) at
  colon within room at = let q = (some_sign 58 (λ _. []) (ValueRest once room within) at (value within room (at + 1))) in (q.0, q.1, no_blank _ at q.0 q.1 q.2)

  -- a name is longer than all before it
  key : (had : List (List ℕ)) (below : List Open) (room at : ℕ) → Some (KeyRest once room had below) at
  key had below room at =
      let e = some_end (suc (total had)) Plain tt in
      let q = (some_then (KeyText once had at e.0) (ColonRest once room (opens.Object (e.0 ∷ had) ∷ below)) at (tokens.Key at e.0 ∷ []) (34 ∷ e.1)
      (record { place_is = refl; tokens_are = refl; spelled = (e.1, refl, e.2); is_new = new_name once had e.0 e.3 })
      (colon (opens.Object (e.0 ∷ had) ∷ below) room (at + length (34 ∷ e.1)))) in (q.0, q.1, (at, e.0, q.2))

  key_end : (start : ℕ) (part : List ℕ) (place : InString) (had : List (List ℕ)) (below : List Open) (room at : ℕ) → InFormed place → Some (AtInKey once room start part place (opens.Object had ∷ below)) at
  key_end start part place had below room at f =
      let e = some_end (suc (total had)) place f in
      let name : List ℕ = part ++ e.0 in
      let q = (some_then (KeyEnd once had start part place name) (ColonRest once room (opens.Object (name ∷ had) ∷ below)) at (tokens.Key start name ∷ []) e.1
      (record { meant = e.0; ends = e.2; name_is = refl; tokens_are = refl; is_new = new_name once had name (omega (arith, e.3, length-append part e.0)) })
      (colon (opens.Object (name ∷ had) ∷ below) room (at + length e.1))) in (q.0, q.1, (name, q.2))

  rest_at : (spot : Spot) (start : ℕ) (part : List ℕ) (within : List Open) (room at : ℕ) → FormedAt spot within → Some (LeftAt once room spot start part within) at
  rest_at spots.Value start part within room at f = value within room at
  rest_at spots.FirstItem start part (opens.Array ∷ below) room at f =
      let q = (some_sign 93 (λ x. tokens.CloseArray x ∷ []) (Rest once (suc room) below) at (closed below (suc room) (at + 1))) in (q.0, q.1, no_blank _ at q.0 q.1 (inl q.2))
  rest_at spots.FirstItem start part (opens.Object had ∷ below) room at f = absurd f
  rest_at spots.FirstItem start part [] room at f = absurd f
  rest_at spots.FirstKey start part (opens.Object had ∷ below) room at f =
      let q = (some_sign 125 (λ x. tokens.CloseObject x ∷ []) (Rest once (suc room) below) at (closed below (suc room) (at + 1))) in (q.0, q.1, no_blank _ at q.0 q.1 (inl q.2))
  rest_at spots.FirstKey start part (opens.Array ∷ below) room at f = absurd f
  rest_at spots.FirstKey start part [] room at f = absurd f
  rest_at spots.Key start part (opens.Object had ∷ below) room at f = let q = (key had below room at) in (q.0, q.1, no_blank _ at q.0 q.1 q.2)
  rest_at spots.Key start part (opens.Array ∷ below) room at f = absurd f
  rest_at spots.Key start part [] room at f = absurd f
  rest_at spots.Colon start part within room at f = colon within room at
  rest_at spots.After start part within room at f = closed within room at
  rest_at (spots.InKey place) start part (opens.Object had ∷ below) room at f = key_end start part place had below room at f.1
  rest_at (spots.InKey place) start part (opens.Array ∷ below) room at f = absurd f.0
  rest_at (spots.InKey place) start part [] room at f = absurd f.0
  rest_at (spots.InText place) start part within room at f =
      let e = some_end 0 place f in
      some_then (TextEnd start part place) (Rest once room within) at (tokens.Value start (scalars.Str (part ++ e.0)) ∷ []) e.1 (record { meant = e.0; ends = e.2; tokens_are = refl }) (closed within room (at + length e.1))
  rest_at (spots.InNumber place) start part within room at f =
      let e = some_number place in
      some_then (NumeralEnd start part place) (Rest once room within) at (tokens.Value start (scalars.Number (part ++ e.0)) ∷ []) e.0 (record { ends = e.1; tokens_are = refl }) (closed within room (at + length e.0))
  rest_at (spots.InWord place) start part within room at f =
      some_then (WordEnd start place) (Rest once room within) at (tokens.Value start (word_of place) ∷ []) (next_letter place ∷ later_letters place) (record { text_is = refl; tokens_are = refl }) (closed within room (at + length (next_letter place ∷ later_letters place)))

  -- Where the form is kept some text may follow.
  pub some_left : (limit : ℕ) (s : Reading) → Formed limit s → (us : List Token) × (t : List ℕ) × Left once limit s us t
  some_left limit s f =
      let room : ℕ = limit - length s.within in
      let r = rest_at s.spot s.start s.part s.within room s.at f.spot in
      (r.0, r.1, record { room = room; room_is = omega (arith, f.depth); rest = r.2 })
