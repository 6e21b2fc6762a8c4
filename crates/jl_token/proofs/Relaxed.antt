-- The same move where one level more may be opened, and where names may come again.
use Rattle.std.proofs.Common.{◌≡◌, ℕ, suc, ◌≤◌, Bool, true, false, cond, ◌&&◌, eqb, leb, ltb, List, [], ◌∷◌, length, refl, ap, arith, Ok, Err, Option, Some, None}
use Rattle.std.proofs.lemmas.Bool.{lt-ltb, cond_both}
use Rattle.std.specs.List.{list_any}
use Rattle.std.specs.Str.{bytes_eq}
use Rattle.jl_model.specs.declared.codes.Code.{Code}
use Rattle.jl_model.specs.declared.codes.Code.TheVariants.{Syntax, Utf8, TooDeep, DuplicateKey}
use Rattle.jl_model.specs.declared.faults.Fault.{Fault}
use Rattle.jl_model.specs.declared.scalars.Scalar.TheVariants as scalars
use Rattle.jl_model.specs.declared.tokens.Token.{Token}
use Rattle.jl_model.specs.declared.tokens.Token.TheVariants as tokens
use Rattle.jl_model.specs.JsonStrings.{Lead, lead_of}
use Rattle.jl_token.specs.declared.kinds.Kind.{Kind}
use Rattle.jl_token.specs.declared.kinds.Kind.TheVariants as kinds
use Rattle.jl_token.specs.declared.opens.Open.{Open}
use Rattle.jl_token.specs.declared.opens.Open.TheVariants as opens
use Rattle.jl_token.specs.declared.readings.Reading.{Reading}
use Rattle.jl_token.specs.declared.readings.Spot.{Spot}
use Rattle.jl_token.specs.declared.readings.Spot.TheVariants as spots
use Rattle.jl_token.specs.declared.strings.InString.{InString}
use Rattle.jl_token.specs.declared.strings.InString.TheVariants as in_string
use Rattle.jl_token.specs.declared.numbers.InNumber.{InNumber}
use Rattle.jl_token.specs.declared.words.InWord.{InWord}
use Rattle.jl_token.specs.NumberMachine.{number_did, is_whole, next_letter, word_next}
use Rattle.jl_token.specs.StringMachine.{Did, string_did, lead_code, code_of}
use Rattle.jl_token.specs.StringMachine.Did.{bad, ends, stays}
use Rattle.jl_token.specs.Machine.{Moved, moved, moved_at, kind_of, refuse, next, opened, value_begins, at_value, array_closes, object_closes, at_first_item, at_first_key, at_key, at_colon, after_value, with_token, number_goes, word_goes, in_word, text_goes, key_goes, key_ends}
use Rattle.jl_token.proofs.Forward.{state}

abbrev pub RelaxedErr : Code → Fault → Moved → Moved → Type 0
RelaxedErr Syntax f D R = (D ≡ Err f) × (R ≡ Err f)
RelaxedErr Utf8 f D R = (D ≡ Err f) × (R ≡ Err f)
RelaxedErr TooDeep f D R = ((m : List Token × Reading) × (D ≡ Ok m)) × (R ≡ Err f)
RelaxedErr DuplicateKey f D R = ((m : List Token × Reading) × (R ≡ Ok m)) × (D ≡ Err f)
RelaxedErr _ f D R = ⊥

-- a move, the move with one level more, and the move where names may come again
abbrev pub Relaxed : Moved → Moved → Moved → Type 0
Relaxed (Ok m) D R = (D ≡ Ok m) × (R ≡ Ok m)
Relaxed (Err f) D R = RelaxedErr f.code f D R

-- a move that neither rule touches
abbrev Same : Moved → Type 0
Same X = Relaxed X X X

same_close_array : (S : Reading) (within : List Open) → Same (array_closes S within)
same_close_array S [] = (refl, refl)
same_close_array S (opens.Array ∷ below) = (refl, refl)
same_close_array S (opens.Object had ∷ below) = (refl, refl)

same_close_object : (S : Reading) (within : List Open) → Same (object_closes S within)
same_close_object S [] = (refl, refl)
same_close_object S (opens.Array ∷ below) = (refl, refl)
same_close_object S (opens.Object had ∷ below) = (refl, refl)

same_after : (at start : ℕ) (spot : Spot) (part : List ℕ) (within : List Open) (k : Kind) → Same (after_value (state at start spot part within) k)
same_after at start spot part within kinds.CloseArray = same_close_array (state at start spot part within) within
same_after at start spot part within kinds.CloseObject = same_close_object (state at start spot part within) within
same_after at start spot part [] kinds.Comma = (refl, refl)
same_after at start spot part (opens.Array ∷ below) kinds.Comma = (refl, refl)
same_after at start spot part (opens.Object had ∷ below) kinds.Comma = (refl, refl)
same_after at start spot part within _ = (refl, refl)

same_first_key : (at start : ℕ) (spot : Spot) (part : List ℕ) (within : List Open) (k : Kind) → Same (at_first_key (state at start spot part within) k)
same_first_key at start spot part within kinds.CloseObject = same_close_object (state at start spot part within) within
same_first_key at start spot part within kinds.Blank = (refl, refl)
same_first_key at start spot part within kinds.Quote = (refl, refl)
same_first_key at start spot part within _ = (refl, refl)

same_key : (S : Reading) (k : Kind) → Same (at_key S k)
same_key S kinds.Blank = (refl, refl)
same_key S kinds.Quote = (refl, refl)
same_key S _ = (refl, refl)

same_colon : (S : Reading) (k : Kind) → Same (at_colon S k)
same_colon S kinds.Blank = (refl, refl)
same_colon S kinds.Colon = (refl, refl)
same_colon S _ = (refl, refl)

same_with : (token : Token) (X : Moved) → Same X → Same (with_token token X)
same_with token (Ok m) h = (refl, refl)
same_with token (Err f) h = h

same_number : (at start : ℕ) (place : InNumber) (part : List ℕ) (within : List Open) (c : ℕ) (k : Kind) (o : Option InNumber) (w : Bool) → Same (number_goes o w (state at start (spots.InNumber place) part within) c k)
same_number at start place part within c k (Some to) w = (refl, refl)
same_number at start place part within c k None true = same_with (tokens.Value start (scalars.Number part)) (after_value (state at start spots.After part within) k) (same_after at start spots.After part within k)
same_number at start place part within c k None false = (refl, refl)

same_word : (S : Reading) (place : InWord) (c : ℕ) → Same (in_word place S c)
same_word S place c = cond_both (eqb c (next_letter place)) _ _ Same (λ _. go (word_next place)) (λ _. (refl, refl))
  where
    go : (o : Option InWord) → Same (word_goes o place S)
    go (Some w) = (refl, refl)
    go None = (refl, refl)

same_lead : (at : ℕ) (o : Option Lead) → Same (refuse (lead_code o) at)
same_lead at (Some l) = (refl, refl)
same_lead at None = (refl, refl)

same_byte : (at c : ℕ) → Same (refuse (cond (leb c 127) Syntax (lead_code (lead_of c))) at)
same_byte at c = cond_both (leb c 127) _ _ (λ code. Same (refuse code at)) (λ _. (refl, refl)) (λ _. same_lead at (lead_of c))

same_bad : (at : ℕ) (place : InString) (c : ℕ) → Same (refuse (code_of place c) at)
same_bad at (in_string.Tail n l h) c = (refl, refl)
same_bad at in_string.Plain c = same_byte at c
same_bad at in_string.Escape c = same_byte at c
same_bad at (in_string.Hex n before) c = same_byte at c
same_bad at (in_string.High v) c = same_byte at c
same_bad at (in_string.HighEscape v) c = same_byte at c
same_bad at (in_string.Low n v before) c = same_byte at c

same_text : (S : Reading) (place : InString) (c : ℕ) (d : Did) → Same (text_goes d place S c)
same_text S place c bad = same_bad S.start place c
same_text S place c ends = (refl, refl)
same_text S place c (stays bytes to) = (refl, refl)

-- the two moves that the rules touch
relaxed_opened : (limit : ℕ) (S : Reading) (token : Token) (spot : Spot) (o : Open) → length S.within ≤ limit → Relaxed (opened limit S token spot o) (opened (suc limit) S token spot o) (opened limit S token spot o)
relaxed_opened limit S token spot o f =
    let y : opened (suc limit) S token spot o ≡ Ok (token ∷ [], next S spot (o ∷ S.within)) = ap (λ b. cond b (Ok (token ∷ [], next S spot (o ∷ S.within))) (refuse TooDeep S.at)) (lt-ltb (length S.within) (suc limit) (omega arith)) in
    cond_both (ltb (length S.within) limit) _ _ (λ X. Relaxed X (opened (suc limit) S token spot o) X) (λ _. (y, refl)) (λ _. (((token ∷ [], next S spot (o ∷ S.within)), y), refl))

relaxed_value : (limit : ℕ) (S : Reading) (c : ℕ) (k : Kind) → length S.within ≤ limit → Relaxed (value_begins limit S c k) (value_begins (suc limit) S c k) (value_begins limit S c k)
relaxed_value limit S c kinds.OpenArray f = relaxed_opened limit S _ _ _ f
relaxed_value limit S c kinds.OpenObject f = relaxed_opened limit S _ _ _ f
relaxed_value limit S c _ f = (refl, refl)

relaxed_at_value : (limit : ℕ) (S : Reading) (c : ℕ) (k : Kind) → length S.within ≤ limit → Relaxed (at_value limit S c k) (at_value (suc limit) S c k) (at_value limit S c k)
relaxed_at_value limit S c kinds.Blank f = (refl, refl)
relaxed_at_value limit S c k f = relaxed_value limit S c k f

relaxed_first_item : (limit at start : ℕ) (spot : Spot) (part : List ℕ) (within : List Open) (c : ℕ) (k : Kind) → length within ≤ limit → Relaxed (at_first_item limit (state at start spot part within) c k) (at_first_item (suc limit) (state at start spot part within) c k) (at_first_item limit (state at start spot part within) c k)
relaxed_first_item limit at start spot part within c kinds.Blank f = (refl, refl)
relaxed_first_item limit at start spot part within c kinds.CloseArray f = same_close_array (state at start spot part within) within
relaxed_first_item limit at start spot part within c k f = relaxed_value limit (state at start spot part within) c k f

relaxed_key_ends : (at start : ℕ) (spot : Spot) (part : List ℕ) (within : List Open) → Relaxed (key_ends true (state at start spot part within) within) (key_ends true (state at start spot part within) within) (key_ends false (state at start spot part within) within)
relaxed_key_ends at start spot part [] = (refl, refl)
relaxed_key_ends at start spot part (opens.Array ∷ below) = (refl, refl)
relaxed_key_ends at start spot part (opens.Object had ∷ below) = cond_both (true && list_any (bytes_eq part) had) _ _ (λ X. Relaxed X X (key_ends false (state at start spot part (opens.Object had ∷ below)) (opens.Object had ∷ below))) (λ _. ((_, refl), refl)) (λ _. (refl, refl))

relaxed_in_key : (at start : ℕ) (place : InString) (part : List ℕ) (within : List Open) (c : ℕ) (d : Did) → Relaxed (key_goes true d place (state at start (spots.InKey place) part within) c) (key_goes true d place (state at start (spots.InKey place) part within) c) (key_goes false d place (state at start (spots.InKey place) part within) c)
relaxed_in_key at start place part within c bad = same_bad start place c
relaxed_in_key at start place part within c ends = relaxed_key_ends at start (spots.InKey place) part within
relaxed_in_key at start place part within c (stays bytes to) = (refl, refl)

relaxed_at : (limit at start : ℕ) (part : List ℕ) (within : List Open) (c : ℕ) (spot : Spot) → length within ≤ limit → Relaxed (moved_at true limit spot (state at start spot part within) c) (moved_at true (suc limit) spot (state at start spot part within) c) (moved_at false limit spot (state at start spot part within) c)
relaxed_at limit at start part within c spots.Value f = relaxed_at_value limit (state at start spots.Value part within) c (kind_of c) f
relaxed_at limit at start part within c spots.FirstItem f = relaxed_first_item limit at start spots.FirstItem part within c (kind_of c) f
relaxed_at limit at start part within c spots.FirstKey f = same_first_key at start spots.FirstKey part within (kind_of c)
relaxed_at limit at start part within c spots.Key f = same_key (state at start spots.Key part within) (kind_of c)
relaxed_at limit at start part within c spots.Colon f = same_colon (state at start spots.Colon part within) (kind_of c)
relaxed_at limit at start part within c spots.After f = same_after at start spots.After part within (kind_of c)
relaxed_at limit at start part within c (spots.InKey place) f = relaxed_in_key at start place part within c (string_did place c)
relaxed_at limit at start part within c (spots.InText place) f = same_text (state at start (spots.InText place) part within) place c (string_did place c)
relaxed_at limit at start part within c (spots.InNumber place) f = same_number at start place part within c (kind_of c) (number_did place c) (is_whole place)
relaxed_at limit at start part within c (spots.InWord place) f = same_word (state at start (spots.InWord place) part within) place c

pub relaxed : (limit : ℕ) (s : Reading) (c : ℕ) → length s.within ≤ limit → Relaxed (moved true limit s c) (moved true (suc limit) s c) (moved false limit s c)
unfolding moved
relaxed limit s c f = relaxed_at limit s.at s.start s.part s.within c s.spot f
