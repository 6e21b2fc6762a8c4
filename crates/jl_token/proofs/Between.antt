-- Where a byte completes a token, the text then stands between two tokens; there the last token's text doesn't count.
use Rattle.std.proofs.Common.{◌≡◌, ℕ, ◌⊎◌, inl, inr, Bool, true, false, ◌&&◌, eqb, ltb, List, [], ◌∷◌, length, refl, Ok, Err, Option, Some, None}
use Rattle.std.proofs.lemmas.Bool.{cond_both}
use Rattle.std.specs.List.{list_any}
use Rattle.std.specs.Str.{bytes_eq}
use Rattle.jl_model.specs.declared.scalars.Scalar.TheVariants as scalars
use Rattle.jl_model.specs.declared.tokens.Token.{Token}
use Rattle.jl_model.specs.declared.tokens.Token.TheVariants as tokens
use Rattle.jl_token.specs.declared.kinds.Kind.{Kind}
use Rattle.jl_token.specs.declared.kinds.Kind.TheVariants as kinds
use Rattle.jl_token.specs.declared.opens.Open.{Open}
use Rattle.jl_token.specs.declared.opens.Open.TheVariants as opens
use Rattle.jl_token.specs.declared.readings.Reading.{Reading}
use Rattle.jl_token.specs.declared.readings.Spot.{Spot}
use Rattle.jl_token.specs.declared.readings.Spot.TheVariants as spots
use Rattle.jl_token.specs.declared.strings.InString.{InString}
use Rattle.jl_token.specs.declared.numbers.InNumber.{InNumber}
use Rattle.jl_token.specs.declared.words.InWord.{InWord}
use Rattle.jl_token.specs.NumberMachine.{number_did, is_whole, next_letter, word_next}
use Rattle.jl_token.specs.StringMachine.{Did, string_did}
use Rattle.jl_token.specs.StringMachine.Did.{bad, ends, stays}
use Rattle.jl_token.specs.Machine.{Moved, moved, moved_at, kind_of, opened, value_begins, at_value, array_closes, object_closes, at_first_item, at_first_key, at_key, at_colon, after_value, with_token, number_goes, word_goes, in_word, text_goes, key_goes, key_ends}
use Rattle.jl_token.specs.Left.{LeftAt}
use Rattle.jl_token.specs.Moves.{taken}
use Rattle.jl_token.specs.Stands.{PlacedAt, Holds, IsAt}
use Rattle.jl_token.proofs.Forward.{state}

abbrev pub Between : Spot → Type 0
Between (spots.InKey place) = ⊥
Between (spots.InText place) = ⊥
Between (spots.InNumber place) = ⊥
Between (spots.InWord place) = ⊥
Between _ = Unit {0}

abbrev pub Completes : Moved → Type 0
Completes (Err f) = Unit {0}
Completes (Ok m) = (m.0 ≡ []) ⊎ Between m.1.spot

-- the same where a number came before
abbrev Goes : Moved → Type 0
Goes (Err f) = Unit {0}
Goes (Ok m) = Between m.1.spot

goes_close_array : (S : Reading) (within : List Open) → Goes (array_closes S within)
goes_close_array S [] = tt
goes_close_array S (opens.Array ∷ below) = tt
goes_close_array S (opens.Object had ∷ below) = tt

goes_close_object : (S : Reading) (within : List Open) → Goes (object_closes S within)
goes_close_object S [] = tt
goes_close_object S (opens.Array ∷ below) = tt
goes_close_object S (opens.Object had ∷ below) = tt

goes_after : (at start : ℕ) (spot : Spot) (part : List ℕ) (within : List Open) (k : Kind) → Goes (after_value (state at start spot part within) k)
goes_after at start spot part within kinds.CloseArray = goes_close_array (state at start spot part within) within
goes_after at start spot part within kinds.CloseObject = goes_close_object (state at start spot part within) within
goes_after at start spot part [] kinds.Comma = tt
goes_after at start spot part (opens.Array ∷ below) kinds.Comma = tt
goes_after at start spot part (opens.Object had ∷ below) kinds.Comma = tt
goes_after at start spot part within kinds.Blank = tt
goes_after at start spot part within _ = tt

completes_by : (X : Moved) → Goes X → Completes X
completes_by (Ok m) g = inr g
completes_by (Err f) g = tt

completes_with : (token : Token) (X : Moved) → Goes X → Completes (with_token token X)
completes_with token (Ok m) g = inr g
completes_with token (Err f) g = tt

completes_opened : (limit : ℕ) (S : Reading) (token : Token) (spot : Spot) (o : Open) → Between spot → Completes (opened limit S token spot o)
completes_opened limit S token spot o b = cond_both (ltb (length S.within) limit) _ _ Completes (λ _. inr b) (λ _. tt)

completes_value : (limit : ℕ) (S : Reading) (c : ℕ) (k : Kind) → Completes (value_begins limit S c k)
completes_value limit S c kinds.OpenArray = completes_opened limit S _ _ _ tt
completes_value limit S c kinds.OpenObject = completes_opened limit S _ _ _ tt
completes_value limit S c kinds.Quote = inl refl
completes_value limit S c kinds.Minus = inl refl
completes_value limit S c kinds.Zero = inl refl
completes_value limit S c kinds.Digit = inl refl
completes_value limit S c kinds.LetterN = inl refl
completes_value limit S c kinds.LetterT = inl refl
completes_value limit S c kinds.LetterF = inl refl
completes_value limit S c _ = tt

completes_at_value : (limit : ℕ) (S : Reading) (c : ℕ) (k : Kind) → Completes (at_value limit S c k)
completes_at_value limit S c kinds.Blank = inl refl
completes_at_value limit S c k = completes_value limit S c k

completes_first_item : (limit : ℕ) (S : Reading) (c : ℕ) (k : Kind) → Completes (at_first_item limit S c k)
completes_first_item limit S c kinds.Blank = inl refl
completes_first_item limit S c kinds.CloseArray = completes_by (array_closes S S.within) (goes_close_array S S.within)
completes_first_item limit S c k = completes_value limit S c k

completes_first_key : (S : Reading) (k : Kind) → Completes (at_first_key S k)
completes_first_key S kinds.Blank = inl refl
completes_first_key S kinds.CloseObject = completes_by (object_closes S S.within) (goes_close_object S S.within)
completes_first_key S kinds.Quote = inl refl
completes_first_key S _ = tt

completes_key : (S : Reading) (k : Kind) → Completes (at_key S k)
completes_key S kinds.Blank = inl refl
completes_key S kinds.Quote = inl refl
completes_key S _ = tt

completes_colon : (S : Reading) (k : Kind) → Completes (at_colon S k)
completes_colon S kinds.Blank = inl refl
completes_colon S kinds.Colon = inl refl
completes_colon S _ = tt

completes_number : (at start : ℕ) (place : InNumber) (part : List ℕ) (within : List Open) (c : ℕ) (k : Kind) (o : Option InNumber) (w : Bool) → Completes (number_goes o w (state at start (spots.InNumber place) part within) c k)
completes_number at start place part within c k (Some to) w = inl refl
completes_number at start place part within c k None true = completes_with (tokens.Value start (scalars.Number part)) (after_value (state at start spots.After part within) k) (goes_after at start spots.After part within k)
completes_number at start place part within c k None false = tt

completes_word : (S : Reading) (place : InWord) (c : ℕ) → Completes (in_word place S c)
completes_word S place c = cond_both (eqb c (next_letter place)) _ _ Completes (λ _. go (word_next place)) (λ _. tt)
  where
    go : (o : Option InWord) → Completes (word_goes o place S)
    go (Some w) = inl refl
    go None = inr tt

completes_text : (S : Reading) (place : InString) (c : ℕ) (d : Did) → Completes (text_goes d place S c)
completes_text S place c bad = tt
completes_text S place c ends = inr tt
completes_text S place c (stays bytes to) = inl refl

completes_key_ends : (once : Bool) (S : Reading) (within : List Open) → Completes (key_ends once S within)
completes_key_ends once S [] = tt
completes_key_ends once S (opens.Array ∷ below) = tt
completes_key_ends once S (opens.Object had ∷ below) = cond_both (once && list_any (bytes_eq S.part) had) _ _ Completes (λ _. tt) (λ _. inr tt)

completes_name : (once : Bool) (S : Reading) (place : InString) (c : ℕ) (d : Did) → Completes (key_goes once d place S c)
completes_name once S place c bad = tt
completes_name once S place c ends = completes_key_ends once S S.within
completes_name once S place c (stays bytes to) = inl refl

completes_at : (once : Bool) (limit at start : ℕ) (part : List ℕ) (within : List Open) (c : ℕ) (spot : Spot) → Completes (moved_at once limit spot (state at start spot part within) c)
completes_at once limit at start part within c spots.Value = completes_at_value limit (state at start spots.Value part within) c (kind_of c)
completes_at once limit at start part within c spots.FirstItem = completes_first_item limit (state at start spots.FirstItem part within) c (kind_of c)
completes_at once limit at start part within c spots.FirstKey = completes_first_key (state at start spots.FirstKey part within) (kind_of c)
completes_at once limit at start part within c spots.Key = completes_key (state at start spots.Key part within) (kind_of c)
completes_at once limit at start part within c spots.Colon = completes_colon (state at start spots.Colon part within) (kind_of c)
completes_at once limit at start part within c spots.After = completes_by (after_value (state at start spots.After part within) (kind_of c)) (goes_after at start spots.After part within (kind_of c))
completes_at once limit at start part within c (spots.InKey place) = completes_name once (state at start (spots.InKey place) part within) place c (string_did place c)
completes_at once limit at start part within c (spots.InText place) = completes_text (state at start (spots.InText place) part within) place c (string_did place c)
completes_at once limit at start part within c (spots.InNumber place) = completes_number at start place part within c (kind_of c) (number_did place c) (is_whole place)
completes_at once limit at start part within c (spots.InWord place) = completes_word (state at start (spots.InWord place) part within) place c

pub completes : (once : Bool) (limit : ℕ) (s : Reading) (c : ℕ) → Completes (moved once limit s c)
unfolding moved
completes once limit s c = completes_at once limit s.at s.start s.part s.within c s.spot

-- ---- between two tokens the last text may be taken
left_taken : (once : Bool) (room : ℕ) (spot : Spot) → Between spot → (start : ℕ) (part other : List ℕ) (within : List Open) (at : ℕ) (us : List Token) (t : List ℕ) → LeftAt once room spot start part within at us t → LeftAt once room spot start other within at us t
left_taken once room spots.Value b start part other within at us t h = h
left_taken once room spots.FirstItem b start part other within at us t h = h
left_taken once room spots.FirstKey b start part other within at us t h = h
left_taken once room spots.Key b start part other within at us t h = h
left_taken once room spots.Colon b start part other within at us t h = h
left_taken once room spots.After b start part other within at us t h = h
left_taken once room (spots.InKey place) b start part other within at us t h = absurd b
left_taken once room (spots.InText place) b start part other within at us t h = absurd b
left_taken once room (spots.InNumber place) b start part other within at us t h = absurd b
left_taken once room (spots.InWord place) b start part other within at us t h = absurd b

placed_taken : (spot : Spot) → Between spot → (start : ℕ) (p : List ℕ) (token : ℕ) (part other : List ℕ) → PlacedAt spot start p token part → PlacedAt spot start p token other
placed_taken spots.Value b start p token part other h = h
placed_taken spots.FirstItem b start p token part other h = h
placed_taken spots.FirstKey b start p token part other h = h
placed_taken spots.Key b start p token part other h = h
placed_taken spots.Colon b start p token part other h = h
placed_taken spots.After b start p token part other h = h
placed_taken (spots.InKey place) b start p token part other h = absurd b
placed_taken (spots.InText place) b start p token part other h = absurd b
placed_taken (spots.InNumber place) b start p token part other h = absurd b
placed_taken (spots.InWord place) b start p token part other h = absurd b

holds_taken : (once : Bool) (limit start : ℕ) (p : List ℕ) (given : List Token) (s : Reading) → Between s.spot → Holds once limit start p given s → Holds once limit start p given (taken s)
holds_taken once limit start p given s b h = record {
  back = λ us r l. h.back us r (record { room = l.room; room_is = l.room_is; rest = left_taken once l.room s.spot b s.start [] s.part s.within s.at us r l.rest });
  only = λ tree us r t. let o = h.only tree us r t in (o.0, o.1, record { room = o.2.room; room_is = o.2.room_is; rest = left_taken once o.2.room s.spot b s.start s.part [] s.within s.at o.0 r o.2.rest });
}

pub is_at_taken : (start : ℕ) (p : List ℕ) (given : List Token) (s : Reading) → Between s.spot → IsAt start p given s → IsAt start p given (taken s)
is_at_taken start p given s b h = record {
  formed = record { depth = h.formed.depth; spot = h.formed.spot };
  at_is = h.at_is;
  placed = placed_taken s.spot b start p s.start s.part [] h.placed;
  strict = holds_taken true _ start p given s b h.strict;
  deeper = holds_taken true _ start p given s b h.deeper;
  repeated = holds_taken false _ start p given s b h.repeated;
}
