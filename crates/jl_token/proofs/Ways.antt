-- Wherever a text stands, but in a word, nothing need follow, or texts with different first tokens may.
use Rattle.std.proofs.Common.{◌≡◌, ℕ, suc, ◌+◌, ◌-◌, ◌≤◌, ◌⊎◌, inl, inr, Bool, true, List, [], ◌∷◌, ◌++◌, length, refl, sym, ap, arith, length-append}
use Rattle.jl_model.specs.declared.scalars.Scalar.{Scalar}
use Rattle.jl_model.specs.declared.scalars.Scalar.TheVariants as scalars
use Rattle.jl_model.specs.declared.tokens.Token.{Token}
use Rattle.jl_model.specs.declared.tokens.Token.TheVariants as tokens
use Rattle.jl_model.specs.JsonTree.Tree.{scalar}
use Rattle.jl_model.specs.JsonText.{Then, Blanks, Colon, EndArray, EndObject, IsNew, IsScalar}
use Rattle.jl_model.specs.JsonStrings.{Quoted}
use Rattle.jl_token.specs.declared.opens.Open.{Open}
use Rattle.jl_token.specs.declared.opens.Open.TheVariants as opens
use Rattle.jl_token.specs.declared.readings.Reading.{Reading}
use Rattle.jl_token.specs.declared.readings.Spot.{Spot}
use Rattle.jl_token.specs.declared.readings.Spot.TheVariants as spots
use Rattle.jl_token.specs.declared.strings.InString.{InString}
use Rattle.jl_token.specs.declared.strings.InString.TheVariants.{Plain}
use Rattle.jl_token.specs.declared.numbers.InNumber.{InNumber}
use Rattle.jl_token.specs.declared.words.InWord.{InWord}
use Rattle.jl_token.specs.NumberMachine.{NumberEnd}
use Rattle.jl_token.specs.StringMachine.{InFormed}
use Rattle.jl_token.specs.Left.{Left, LeftAt, Formed, FormedAt, SomeValue, Rest, ValueRest, ColonRest, KeyRest, AtInKey, FirstItemRest, FirstKeyRest, TextEnd, NumeralEnd}
use Rattle.jl_token.proofs.Languages.{no_blank, sign_on}
use Rattle.jl_token.proofs.Rules.{ItemGoes, MemberGoes, more_items_in, more_members_in}
use Rattle.jl_token.proofs.NumberMoves.{some_number, other_number}
use Rattle.jl_token.proofs.StringMoves.{some_end}
use Rattle.jl_token.proofs.Complete.{total, new_name, closed, colon}

-- the tokens say different things
abbrev pub Differ : Token → Token → Type 0
Differ (tokens.Value at v) (tokens.Value place w) = v ≡ w → ⊥
Differ (tokens.Value at v) (tokens.CloseArray place) = Unit {0}
Differ (tokens.Key at n) (tokens.Key place m) = n ≡ m → ⊥
Differ (tokens.Key at n) (tokens.CloseObject place) = Unit {0}
Differ x y = ⊥

-- a language with a text without tokens, or with two texts whose first tokens differ
pub data Ways (L : ℕ → List Token → List ℕ → Type 0) (at : ℕ) : Type 0 where
  none : (t : List ℕ) → L at [] t → Ways L at
  two : (x y : Token) → (us vs : List Token) → (t u : List ℕ) → Differ x y → L at (x ∷ us) t → L at (y ∷ vs) u → Ways L at

map_ways : (L M : ℕ → List Token → List ℕ → Type 0) (at : ℕ) → ((us : List Token) (t : List ℕ) → L at us t → (u : List ℕ) × M at us u) → Ways L at → Ways M at
map_ways L M at f (none t l) = let r = f [] t l in none r.0 r.1
map_ways L M at f (two x y us vs t u d l m) = let r = f (x ∷ us) t l in let q = f (y ∷ vs) u m in two x y us vs r.0 q.0 d r.1 q.1

blank_ways : (K : ℕ → List Token → List ℕ → Type 0) (at : ℕ) → Ways K at → Ways (Then Blanks K) at
blank_ways K at w = map_ways K (Then Blanks K) at (λ us t k. (t, no_blank K at us t k)) w

behind_same : (part t u : List ℕ) → (part ++ t) ≡ (part ++ u) → t ≡ u
behind_same [] t u e = e
behind_same (c ∷ part) t u e = behind_same part t u (tail c (part ++ t) (part ++ u) e)
  where
    tail : (c : ℕ) (xs ys : List ℕ) → ◌≡◌ {A = List ℕ} (c ∷ xs) (c ∷ ys) → xs ≡ ys
    tail c xs ys e = cc

number_same : (xs ys : List ℕ) → scalars.Number xs ≡ scalars.Number ys → xs ≡ ys
number_same xs ys e = cc

text_same : (xs ys : List ℕ) → scalars.Str xs ≡ scalars.Str ys → xs ≡ ys
text_same xs ys e = cc

longer : (part m n : List ℕ) → suc (length m) ≤ length n → (part ++ m) ≡ (part ++ n) → ⊥
longer part m n l e = absurd (omega (arith, l, ap length (behind_same part m n e)))

-- ---- one piece and what follows

module _ (once : Bool) where
  with_value : (within : List Open) (room at : ℕ) (v : Scalar) (text : List ℕ) → IsScalar v text → (t : List ℕ) × ((us : List Token) × Then (SomeValue once room) (Rest once room within) at (tokens.Value at v ∷ us) t)
  with_value within room at v text s =
      let q = closed once within room (at + length text) in
      (text ++ q.1, (q.0, record { front_tokens = tokens.Value at v ∷ []; back_tokens = q.0; front = text; back = q.1; tokens_are = refl; text_is = refl; in_first = (scalar at v, record { place_is = refl; tokens_are = refl; spelled = s }); in_second = q.2 }))

  null_text : List ℕ
  null_text = 110 ∷ 117 ∷ 108 ∷ 108 ∷ []

  true_text : List ℕ
  true_text = 116 ∷ 114 ∷ 117 ∷ 101 ∷ []

  value_ways : (within : List Open) (room at : ℕ) → Ways (Then (SomeValue once room) (Rest once room within)) at
  unfolding null_text true_text
  value_ways within room at =
      let n = with_value within room at scalars.Null null_text refl in
      let t = with_value within room at (scalars.Bool true) true_text refl in
      two (tokens.Value at scalars.Null) (tokens.Value at (scalars.Bool true)) n.1.0 t.1.0 n.0 t.0 (λ e. cc) n.1.1 t.1.1

  colon_ways : (within : List Open) (room at : ℕ) → Ways (ColonRest once room within) at
  colon_ways within room at =
      blank_ways (Then Colon (ValueRest once room within)) at
      (map_ways_at (blank_ways _ (at + 1) (value_ways within room (at + 1))))
    where
      map_ways_at : Ways (ValueRest once room within) (at + 1) → Ways (Then Colon (ValueRest once room within)) at
      map_ways_at (none t l) = none (58 ∷ t) (sign_on 58 (λ _. []) (ValueRest once room within) at [] t l)
      map_ways_at (two x y us vs t u d l m) = two x y us vs (58 ∷ t) (58 ∷ u) d (sign_on 58 (λ _. []) (ValueRest once room within) at (x ∷ us) t l) (sign_on 58 (λ _. []) (ValueRest once room within) at (y ∷ vs) u m)

  -- a key of this name
  with_key : (had : List (List ℕ)) (below : List Open) (room at : ℕ) (name text : List ℕ) → Quoted name text → IsNew once had name → (t : List ℕ) × ((us : List Token) × KeyRest once room had below at (tokens.Key at name ∷ us) t)
  with_key had below room at name text s n =
      let q = colon once (opens.Object (name ∷ had) ∷ below) room (at + length (34 ∷ text)) in
      ((34 ∷ text) ++ q.1, (q.0, (at, name, record { front_tokens = tokens.Key at name ∷ []; back_tokens = q.0; front = 34 ∷ text; back = q.1; tokens_are = refl; text_is = refl; in_first = record { place_is = refl; tokens_are = refl; spelled = (text, refl, s); is_new = n }; in_second = q.2 })))

  key_ways : (had : List (List ℕ)) (below : List Open) (room at : ℕ) → Ways (KeyRest once room had below) at
  key_ways had below room at =
      let e = some_end (suc (total had)) Plain tt in
      let f = some_end (suc (length e.0) + suc (total had)) Plain tt in
      let k = with_key had below room at e.0 e.1 e.2 (new_name once had e.0 e.3) in
      let l = with_key had below room at f.0 f.1 f.2 (new_name once had f.0 (omega (arith, f.3))) in
      two (tokens.Key at e.0) (tokens.Key at f.0) k.1.0 l.1.0 k.0 l.0 (λ q. absurd (omega (arith, f.3, ap length q))) k.1.1 l.1.1

  -- a bracket or a brace that closes
  close_array : (below : List Open) (room at : ℕ) → (t : List ℕ) × ((us : List Token) × Then EndArray (Rest once (suc room) below) at (tokens.CloseArray at ∷ us) t)
  close_array below room at =
      let q = closed once below (suc room) (at + 1) in (93 ∷ q.1, (q.0, sign_on 93 (λ x. tokens.CloseArray x ∷ []) (Rest once (suc room) below) at q.0 q.1 q.2))

  close_object : (below : List Open) (room at : ℕ) → (t : List ℕ) × ((us : List Token) × Then EndObject (Rest once (suc room) below) at (tokens.CloseObject at ∷ us) t)
  close_object below room at =
      let q = closed once below (suc room) (at + 1) in (125 ∷ q.1, (q.0, sign_on 125 (λ x. tokens.CloseObject x ∷ []) (Rest once (suc room) below) at q.0 q.1 q.2))

  -- behind an item, and behind a member
  item_ways : (below : List Open) (room at : ℕ) → Ways (Rest once room (opens.Array ∷ below)) at
  unfolding null_text
  item_ways below room at =
      let e = close_array below room at in
      let v = with_value (opens.Array ∷ below) room (at + 1) scalars.Null null_text refl in
      two (tokens.Value (at + 1) scalars.Null) (tokens.CloseArray at) v.1.0 e.1.0 (44 ∷ v.0) e.0 tt
      (more_items_in once room below at _ _ (no_blank (ItemGoes once room below) at _ _ (inr (sign_on 44 (λ _. []) (ValueRest once room (opens.Array ∷ below)) at _ _ (no_blank _ (at + 1) _ _ v.1.1)))))
      (more_items_in once room below at _ _ (no_blank (ItemGoes once room below) at _ _ (inl e.1.1)))

  member_ways : (had : List (List ℕ)) (below : List Open) (room at : ℕ) → Ways (Rest once room (opens.Object had ∷ below)) at
  member_ways had below room at =
      let e = close_object below room at in
      let n = some_end (suc (total had)) Plain tt in
      let k = with_key had below room (at + 1) n.0 n.1 n.2 (new_name once had n.0 n.3) in
      two (tokens.Key (at + 1) n.0) (tokens.CloseObject at) k.1.0 e.1.0 (44 ∷ k.0) e.0 tt
      (more_members_in once room below had at _ _ (no_blank (MemberGoes once room below had) at _ _ (inr (sign_on 44 (λ _. []) (Then Blanks (KeyRest once room had below)) at _ _ (no_blank _ (at + 1) _ _ k.1.1)))))
      (more_members_in once room below had at _ _ (no_blank (MemberGoes once room below had) at _ _ (inl e.1.1)))

  after_ways : (within : List Open) (room at : ℕ) → Ways (Rest once room within) at
  after_ways [] room at = none [] (record { tokens_are = refl; blank = tt })
  after_ways (opens.Array ∷ below) room at = item_ways below room at
  after_ways (opens.Object had ∷ below) room at = member_ways had below room at

  -- behind the bracket or the brace that opens
  first_item_ways : (below : List Open) (room at : ℕ) → Ways (FirstItemRest once room below) at
  unfolding null_text
  first_item_ways below room at =
      let e = close_array below room at in
      let v = with_value (opens.Array ∷ below) room at scalars.Null null_text refl in
      two (tokens.Value at scalars.Null) (tokens.CloseArray at) v.1.0 e.1.0 v.0 e.0 tt (no_blank _ at _ _ (inr v.1.1)) (no_blank _ at _ _ (inl e.1.1))

  first_key_ways : (had : List (List ℕ)) (below : List Open) (room at : ℕ) → Ways (FirstKeyRest once room had below) at
  first_key_ways had below room at =
      let e = close_object below room at in
      let n = some_end (suc (total had)) Plain tt in
      let k = with_key had below room at n.0 n.1 n.2 (new_name once had n.0 n.3) in
      two (tokens.Key at n.0) (tokens.CloseObject at) k.1.0 e.1.0 k.0 e.0 tt (no_blank _ at _ _ (inr k.1.1)) (no_blank _ at _ _ (inl e.1.1))

  -- inside a key, a string and a number
  in_key : (start : ℕ) (part : List ℕ) (place : InString) (had : List (List ℕ)) (below : List Open) (room at : ℕ) (n : ℕ) → suc (total had) ≤ n → InFormed place →
      (m : List ℕ) × (n ≤ length m) × ((t : List ℕ) × ((us : List Token) × AtInKey once room start part place (opens.Object had ∷ below) at (tokens.Key start (part ++ m) ∷ us) t))
  in_key start part place had below room at n l f =
      let e = some_end n place f in
      let name : List ℕ = part ++ e.0 in
      let q = colon once (opens.Object (name ∷ had) ∷ below) room (at + length e.1) in (
        e.0,
        e.3,
        (
          e.1 ++ q.1,
          (
            q.0,
            (
              name,
              record {
                front_tokens = tokens.Key start name ∷ [];
                back_tokens = q.0;
                front = e.1;
                back = q.1;
                tokens_are = refl;
                text_is = refl;
                in_first = record { meant = e.0; ends = e.2; name_is = refl; tokens_are = refl; is_new = new_name once had name (omega (arith, e.3, l, length-append part e.0)) };
                in_second = q.2;
              },
            ),
          ),
        ),
      )

  in_key_ways : (start : ℕ) (part : List ℕ) (place : InString) (had : List (List ℕ)) (below : List Open) (room at : ℕ) → InFormed place → Ways (AtInKey once room start part place (opens.Object had ∷ below)) at
  in_key_ways start part place had below room at f =
      let e = in_key start part place had below room at (suc (total had)) (omega arith) f in
      let g = in_key start part place had below room at (suc (length e.0) + suc (total had)) (omega arith) f in
      two (tokens.Key start (part ++ e.0)) (tokens.Key start (part ++ g.0)) e.2.1.0 g.2.1.0 e.2.0 g.2.0 (λ q. longer part e.0 g.0 (omega (arith, g.1)) q) e.2.1.1 g.2.1.1

  in_text : (start : ℕ) (part : List ℕ) (place : InString) (within : List Open) (room at : ℕ) (n : ℕ) → InFormed place →
      (m : List ℕ) × (n ≤ length m) × ((t : List ℕ) × ((us : List Token) × Then (TextEnd start part place) (Rest once room within) at (tokens.Value start (scalars.Str (part ++ m)) ∷ us) t))
  in_text start part place within room at n f =
      let e = some_end n place f in
      let q = closed once within room (at + length e.1) in (
        e.0,
        e.3,
        (
          e.1 ++ q.1,
          (
            q.0,
            record {
              front_tokens = tokens.Value start (scalars.Str (part ++ e.0)) ∷ [];
              back_tokens = q.0;
              front = e.1;
              back = q.1;
              tokens_are = refl;
              text_is = refl;
              in_first = record { meant = e.0; ends = e.2; tokens_are = refl };
              in_second = q.2;
            },
          ),
        ),
      )

  in_text_ways : (start : ℕ) (part : List ℕ) (place : InString) (within : List Open) (room at : ℕ) → InFormed place → Ways (Then (TextEnd start part place) (Rest once room within)) at
  in_text_ways start part place within room at f =
      let e = in_text start part place within room at 0 f in
      let g = in_text start part place within room at (suc (length e.0)) f in
      two (tokens.Value start (scalars.Str (part ++ e.0))) (tokens.Value start (scalars.Str (part ++ g.0))) e.2.1.0 g.2.1.0 e.2.0 g.2.0
      (λ q. longer part e.0 g.0 g.1 (text_same (part ++ e.0) (part ++ g.0) q)) e.2.1.1 g.2.1.1

  in_number : (start : ℕ) (part : List ℕ) (place : InNumber) (within : List Open) (room at : ℕ) (n : List ℕ) → NumberEnd place n →
      (t : List ℕ) × ((us : List Token) × Then (NumeralEnd start part place) (Rest once room within) at (tokens.Value start (scalars.Number (part ++ n)) ∷ us) t)
  in_number start part place within room at n e =
      let q = closed once within room (at + length n) in (
        n ++ q.1,
        (
          q.0,
          record {
            front_tokens = tokens.Value start (scalars.Number (part ++ n)) ∷ [];
            back_tokens = q.0;
            front = n;
            back = q.1;
            tokens_are = refl;
            text_is = refl;
            in_first = record { ends = e; tokens_are = refl };
            in_second = q.2;
          },
        ),
      )

  in_number_ways : (start : ℕ) (part : List ℕ) (place : InNumber) (within : List Open) (room at : ℕ) → Ways (Then (NumeralEnd start part place) (Rest once room within)) at
  in_number_ways start part place within room at =
      let a = some_number place in
      let b = other_number place in
      let e = in_number start part place within room at a.0 a.1 in
      let g = in_number start part place within room at b.0 b.1 in
      two (tokens.Value start (scalars.Number (part ++ a.0))) (tokens.Value start (scalars.Number (part ++ b.0))) e.1.0 g.1.0 e.0 g.0
      (λ q. b.2 (sym (behind_same part a.0 b.0 (number_same (part ++ a.0) (part ++ b.0) q)))) e.1.1 g.1.1

  ways_at : (spot : Spot) (start : ℕ) (part : List ℕ) (within : List Open) (room at : ℕ) → FormedAt spot within → Ways (LeftAt once room spot start part within) at ⊎ ((place : InWord) × (spot ≡ spots.InWord place))
  ways_at spots.Value start part within room at f = inl (blank_ways _ at (value_ways within room at))
  ways_at spots.FirstItem start part (opens.Array ∷ below) room at f = inl (first_item_ways below room at)
  ways_at spots.FirstItem start part (opens.Object had ∷ below) room at f = absurd f
  ways_at spots.FirstItem start part [] room at f = absurd f
  ways_at spots.FirstKey start part (opens.Object had ∷ below) room at f = inl (first_key_ways had below room at)
  ways_at spots.FirstKey start part (opens.Array ∷ below) room at f = absurd f
  ways_at spots.FirstKey start part [] room at f = absurd f
  ways_at spots.Key start part (opens.Object had ∷ below) room at f = inl (blank_ways _ at (key_ways had below room at))
  ways_at spots.Key start part (opens.Array ∷ below) room at f = absurd f
  ways_at spots.Key start part [] room at f = absurd f
  ways_at spots.Colon start part within room at f = inl (colon_ways within room at)
  ways_at spots.After start part within room at f = inl (after_ways within room at)
  ways_at (spots.InKey place) start part (opens.Object had ∷ below) room at f = inl (in_key_ways start part place had below room at f.1)
  ways_at (spots.InKey place) start part (opens.Array ∷ below) room at f = absurd f.0
  ways_at (spots.InKey place) start part [] room at f = absurd f.0
  ways_at (spots.InText place) start part within room at f = inl (in_text_ways start part place within room at f)
  ways_at (spots.InNumber place) start part within room at f = inl (in_number_ways start part place within room at)
  ways_at (spots.InWord place) start part within room at f = inr (place, refl)

  -- what may follow where the form is kept
  pub ways : (limit : ℕ) (s : Reading) → Formed limit s → Ways (λ at us t. Left once limit s us t) 0 ⊎ ((place : InWord) × (s.spot ≡ spots.InWord place))
  ways limit s f = by (limit - length s.within) (omega (arith, f.depth)) (ways_at s.spot s.start s.part s.within (limit - length s.within) s.at f.spot)
    where
      by : (room : ℕ) → room + length s.within ≡ limit → Ways (LeftAt once room s.spot s.start s.part s.within) s.at ⊎ ((place : InWord) × (s.spot ≡ spots.InWord place)) →
          Ways (λ at us t. Left once limit s us t) 0 ⊎ ((place : InWord) × (s.spot ≡ spots.InWord place))
      by room e (inr w) = inr w
      by room e (inl (none t l)) = inl (none t (record { room = room; room_is = e; rest = l }))
      by room e (inl (two x y us vs t u d l m)) = inl (two x y us vs t u d (record { room = room; room_is = e; rest = l }) (record { room = room; room_is = e; rest = m }))
