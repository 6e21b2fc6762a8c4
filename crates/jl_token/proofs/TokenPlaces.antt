-- Where the token that is being read begins, and what its bytes say of a byte that is wrong.
use Rattle.std.proofs.Common.{◌≡◌, ℕ, ◌+◌, ◌≤◌, inl, inr, Bool, true, false, ◌&&◌, eqb, ltb, List, [], ◌∷◌, ◌++◌, length, refl, sym, ap, ◌∙◌, subst, arith, append_assoc, append-nil, Ok, Err, Option, Some, None}
use Rattle.std.proofs.lemmas.Bool.{cond_both, eqb-true, false≢true}
use Rattle.std.specs.List.{list_any}
use Rattle.std.specs.Str.{bytes_eq}
use Rattle.jl_model.specs.declared.codes.Code.{Code}
use Rattle.jl_model.specs.declared.codes.Code.TheVariants.{Syntax, Utf8, TooDeep}
use Rattle.jl_model.specs.declared.scalars.Scalar.TheVariants as scalars
use Rattle.jl_model.specs.declared.tokens.Token.{Token}
use Rattle.jl_model.specs.declared.tokens.Token.TheVariants as tokens
use Rattle.jl_model.specs.JsonNumbers.{IsNumber}
use Rattle.jl_model.specs.JsonStrings as strings
use Rattle.jl_model.specs.JsonStrings.{Quoted, IsString}
use Rattle.jl_model.specs.JsonText.{IsBlank}
use Rattle.jl_model.specs.TextFaults.{IsStructural, Pieces, Unfinished, PlaceBehind, BreaksUtf8}
use Rattle.jl_model.specs.TextFaults.Pieces.{blank as piece_blank, structural as piece_structural, string as piece_string, number as piece_number, word as piece_word}
use Rattle.jl_model.specs.TextFaults.Unfinished.{nothing, string as open_string, number as open_number, word as open_word}
use Rattle.jl_token.specs.declared.kinds.Kind.{Kind}
use Rattle.jl_token.specs.declared.kinds.Kind.TheVariants as kinds
use Rattle.jl_token.specs.declared.opens.Open.{Open}
use Rattle.jl_token.specs.declared.opens.Open.TheVariants as opens
use Rattle.jl_token.specs.declared.readings.Reading.{Reading}
use Rattle.jl_token.specs.declared.readings.Spot.{Spot}
use Rattle.jl_token.specs.declared.readings.Spot.TheVariants as spots
use Rattle.jl_token.specs.declared.strings.InString.{InString}
use Rattle.jl_token.specs.declared.strings.InString.TheVariants.{Plain}
use Rattle.jl_token.specs.declared.numbers.InNumber.{InNumber}
use Rattle.jl_token.specs.declared.numbers.InNumber.TheVariants.{Minus, Zero, Whole}
use Rattle.jl_token.specs.declared.words.InWord.{InWord}
use Rattle.jl_token.specs.declared.words.InWord.TheVariants.{N, T, F}
use Rattle.jl_token.specs.NumberMachine.{NumberEnd, number_did, is_whole, next_letter, later_letters, letters_read, word_next}
use Rattle.jl_token.specs.StringMachine.{Did, string_did, code_of, EndOf, Utf8Rest, InFormed}
use Rattle.jl_token.specs.StringMachine.Did.{bad, ends, stays}
use Rattle.jl_token.specs.Machine.{Moved, moved, moved_at, kind_of, opened, value_begins, at_value, at_first_item, at_first_key, at_key, at_colon, after_value, with_token, number_goes, word_goes, in_word, text_goes, key_goes}
use Rattle.jl_token.specs.Left.{FormedAt}
use Rattle.jl_token.specs.Stands.{StringPlaced, NumberPlaced, WordPlaced, PlacedAt}
use Rattle.jl_token.proofs.ByteKinds.{KindSays, kind_says}
use Rattle.jl_token.proofs.NumberMoves.{NumberFollows, NumberBacks, number_forward, number_back, some_number, whole_end, end_whole}
use Rattle.jl_token.proofs.StringMoves.{DidFollows, DidBacks, string_forward, string_back, some_end}
use Rattle.jl_token.proofs.TokenEnds.{string_open, FirstOfNumber, number_first, minus_begins, zero_begins, digit_begins}
use Rattle.jl_token.proofs.Utf8Moves.{DidUtf8, string_utf8, CodeSays, code_says}
use Rattle.jl_token.proofs.WordLetters.{WordReads, word_reads, word_full, word_short, word_no_quote}
use Rattle.jl_token.proofs.Forward.{state}

-- what a code says of the unfinished token
abbrev pub Utf8Says : Code → List ℕ → ℕ → Type 0
Utf8Says Utf8 part c = BreaksUtf8 part c
Utf8Says _ part c = BreaksUtf8 part c → ⊥

abbrev pub Places : ℕ → List ℕ → ℕ → Moved → Type 0
Places start p c (Err f) = (place : PlaceBehind start p f.at) × Utf8Says f.code place.part c
Places start p c (Ok m) = PlacedAt m.1.spot start (p ++ c ∷ []) m.1.start m.1.part

no_first_minus : (c : ℕ) (t : List ℕ) → c ≡ 45 → FirstOfNumber c t → NumberEnd Minus t
no_first_minus c t e (inl h) = h.1
no_first_minus c t e (inr (inl h)) = absurd (omega (arith, h.0))
no_first_minus c t e (inr (inr h)) = absurd (omega (arith, h.0))

no_first_zero : (c : ℕ) (t : List ℕ) → c ≡ 48 → FirstOfNumber c t → NumberEnd Zero t
no_first_zero c t e (inl h) = absurd (omega (arith, h.0))
no_first_zero c t e (inr (inl h)) = h.1
no_first_zero c t e (inr (inr h)) = absurd (omega (arith, h.0))

no_first_digit : (c : ℕ) (t : List ℕ) → 49 ≤ c → FirstOfNumber c t → NumberEnd Whole t
no_first_digit c t e (inl h) = absurd (omega (arith, h.0))
no_first_digit c t e (inr (inl h)) = absurd (omega (arith, h.0))
no_first_digit c t e (inr (inr h)) = h.2

no_first_quote : (t : List ℕ) → FirstOfNumber 34 t → ⊥
no_first_quote t (inl h) = omega (arith, h.0)
no_first_quote t (inr (inl h)) = omega (arith, h.0)
no_first_quote t (inr (inr h)) = omega (arith, h.0)

module _ (begin : ℕ) (p : List ℕ) (c at start : ℕ) (part : List ℕ) (at_is : at ≡ begin + length p) where
  -- a byte that is wrong, behind whole tokens
  here : (bare : Bool) → Pieces bare p → (place : PlaceBehind begin p at) × Utf8Says Syntax place.part c
  here bare w = (record { bare = bare; front = p; part = []; text_is = sym (append-nil p); whole = w; unfinished = nothing; at_is = at_is }, λ (body, e, b). let x : ⊥ = cc in x)

  here_deep : (bare : Bool) → Pieces bare p → (place : PlaceBehind begin p at) × Utf8Says TooDeep place.part c
  here_deep bare w = (record { bare = bare; front = p; part = []; text_is = sym (append-nil p); whole = w; unfinished = nothing; at_is = at_is }, λ (body, e, b). let x : ⊥ = cc in x)

  -- ---- at the beginning of a token
  quote_placed : (bare : Bool) → Pieces bare p → c ≡ 34 → StringPlaced begin (p ++ c ∷ []) at [] Plain
  quote_placed bare w i = record {
    bare = bare;
    front = p;
    body = [];
    text_is = ap (λ x. p ++ x ∷ []) i;
    whole = w;
    token_is = at_is;
    reads = λ m t h. h;
    only = λ m t h. (m, h);
    utf8 = λ t. ((λ h. h), (λ h. h));
  }

  number_placed : (place : InNumber) → Pieces false p → ((t : List ℕ) → NumberEnd place t → IsNumber (c ∷ t)) → ((t : List ℕ) → FirstOfNumber c t → NumberEnd place t) → NumberPlaced begin (p ++ c ∷ []) at (c ∷ []) place
  number_placed place w f g = record { front = p; text_is = refl; whole = w; token_is = at_is; reads = f; only = λ t h. g t (number_first c t h) }

  word_placed : (place : InWord) → Pieces false p → c ∷ [] ≡ letters_read place → WordPlaced begin (p ++ c ∷ []) at place
  word_placed place w e = record { front = p; text_is = ap (λ x. p ++ x) e; whole = w; token_is = at_is }

  module _ (whole : Pieces false p) where
    blank_more : IsBlank c → Pieces false (p ++ c ∷ [])
    blank_more i = piece_blank whole i refl

    structural_more : IsStructural c → Pieces false (p ++ c ∷ [])
    structural_more i = piece_structural whole i refl

    places_opened : (limit : ℕ) (S : Reading) (token : Token) (spot : Spot) (o : Open) → S.at ≡ at → ((x : Pieces false (p ++ c ∷ [])) → PlacedAt spot begin (p ++ c ∷ []) S.start S.part) → IsStructural c → Places begin p c (opened limit S token spot o)
    places_opened limit S token spot o e f i = cond_both (ltb (length S.within) limit) _ _ (Places begin p c) (λ _. f (structural_more i)) (λ _. subst (λ x. (place : PlaceBehind begin p x) × Utf8Says TooDeep place.part c) (sym e) (here_deep false whole))

    places_value : (limit : ℕ) (spot : Spot) (within : List Open) (k : Kind) → KindSays c k → Places begin p c (value_begins limit (state at start spot part within) c k)
    places_value limit spot within kinds.Quote i = quote_placed false whole i
    places_value limit spot within kinds.Minus i = number_placed Minus whole (λ t h. minus_begins c t i h) (λ t h. no_first_minus c t i h)
    places_value limit spot within kinds.Zero i = number_placed Zero whole (λ t h. zero_begins c t i h) (λ t h. no_first_zero c t i h)
    places_value limit spot within kinds.Digit i = number_placed Whole whole (λ t h. digit_begins c t i.0 i.1 h) (λ t h. no_first_digit c t i.0 h)
    places_value limit spot within kinds.LetterN i = word_placed N whole (ap (λ x. x ∷ []) i)
    places_value limit spot within kinds.LetterT i = word_placed T whole (ap (λ x. x ∷ []) i)
    places_value limit spot within kinds.LetterF i = word_placed F whole (ap (λ x. x ∷ []) i)
    places_value limit spot within kinds.OpenArray i = places_opened limit (state at start spot part within) _ spots.FirstItem opens.Array refl (λ x. x) (inl i)
    places_value limit spot within kinds.OpenObject i = places_opened limit (state at start spot part within) _ spots.FirstKey (opens.Object []) refl (λ x. x) (inr (inr (inl i)))
    places_value limit spot within _ i = here false whole

    places_at_value : (limit : ℕ) (within : List Open) (k : Kind) → KindSays c k → Places begin p c (at_value limit (state at start spots.Value part within) c k)
    places_at_value limit within kinds.Blank i = blank_more i
    places_at_value limit within k i = places_value limit spots.Value within k i

    places_first_item : (limit : ℕ) (within : List Open) (k : Kind) → KindSays c k → Places begin p c (at_first_item limit (state at start spots.FirstItem part within) c k)
    places_first_item limit within kinds.Blank i = blank_more i
    places_first_item limit [] kinds.CloseArray i = here false whole
    places_first_item limit (opens.Array ∷ below) kinds.CloseArray i = (false, structural_more (inr (inl i)))
    places_first_item limit (opens.Object had ∷ below) kinds.CloseArray i = here false whole
    places_first_item limit within k i = places_value limit spots.FirstItem within k i

    places_first_key : (within : List Open) (k : Kind) → KindSays c k → Places begin p c (at_first_key (state at start spots.FirstKey part within) k)
    places_first_key within kinds.Blank i = blank_more i
    places_first_key [] kinds.CloseObject i = here false whole
    places_first_key (opens.Array ∷ below) kinds.CloseObject i = here false whole
    places_first_key (opens.Object had ∷ below) kinds.CloseObject i = (false, structural_more (inr (inr (inr (inl i)))))
    places_first_key within kinds.Quote i = quote_placed false whole i
    places_first_key within _ i = here false whole

    places_key : (within : List Open) (k : Kind) → KindSays c k → Places begin p c (at_key (state at start spots.Key part within) k)
    places_key within kinds.Blank i = blank_more i
    places_key within kinds.Quote i = quote_placed false whole i
    places_key within _ i = here false whole

    places_colon : (within : List Open) (k : Kind) → KindSays c k → Places begin p c (at_colon (state at start spots.Colon part within) k)
    places_colon within kinds.Blank i = blank_more i
    places_colon within kinds.Colon i = structural_more (inr (inr (inr (inr (inr i)))))
    places_colon within _ i = here false whole

  -- ---- behind a value
  places_after : (bare : Bool) → Pieces bare p → (spot : Spot) (within : List Open) (k : Kind) → KindSays c k → Places begin p c (after_value (state at start spot part within) k)
  places_after bare w spot within kinds.Blank i = (false, piece_blank w i refl)
  places_after bare w spot [] kinds.Comma i = here bare w
  places_after bare w spot (opens.Array ∷ below) kinds.Comma i = piece_structural w (inr (inr (inr (inr (inl i))))) refl
  places_after bare w spot (opens.Object had ∷ below) kinds.Comma i = piece_structural w (inr (inr (inr (inr (inl i))))) refl
  places_after bare w spot [] kinds.CloseArray i = here bare w
  places_after bare w spot (opens.Array ∷ below) kinds.CloseArray i = (false, piece_structural w (inr (inl i)) refl)
  places_after bare w spot (opens.Object had ∷ below) kinds.CloseArray i = here bare w
  places_after bare w spot [] kinds.CloseObject i = here bare w
  places_after bare w spot (opens.Array ∷ below) kinds.CloseObject i = here bare w
  places_after bare w spot (opens.Object had ∷ below) kinds.CloseObject i = (false, piece_structural w (inr (inr (inr (inl i)))) refl)
  places_after bare w spot within _ i = here bare w

  places_with : (token : Token) (X : Moved) → Places begin p c X → Places begin p c (with_token token X)
  places_with token (Ok m) h = h
  places_with token (Err f) h = h

  -- ---- in a number
  module _ (place : InNumber) (h : NumberPlaced begin p start part place) where
    number_longer : (to : InNumber) → NumberBacks place c (Some to) → ((t : List ℕ) → NumberEnd place (c ∷ t) → NumberEnd to t) → NumberPlaced begin (p ++ c ∷ []) start (part ++ c ∷ []) to
    number_longer to b f = record {
      front = h.front;
      text_is = ap (λ x. x ++ c ∷ []) h.text_is ∙ append_assoc h.front part (c ∷ []);
      whole = h.whole;
      token_is = h.token_is;
      reads = λ t e. subst IsNumber (sym (append_assoc part (c ∷ []) t)) (h.reads (c ∷ t) (b t e));
      only = λ t e. f t (h.only (c ∷ t) (subst IsNumber (append_assoc part (c ∷ []) t) e));
    }

    number_piece : is_whole place ≡ true → Pieces true p
    number_piece w = piece_number h.whole (subst IsNumber (append-nil part) (h.reads [] (whole_end place w))) h.text_is

    number_part_no_quote : (body : List ℕ) → part ≡ 34 ∷ body → ⊥
    number_part_no_quote body e =
        let s = some_number place in
        no_first_quote (body ++ s.0) (number_first 34 (body ++ s.0) (subst (λ x. IsNumber (x ++ s.0)) e (h.reads s.0 s.1)))

    number_unfinished : is_whole place ≡ false → (place : PlaceBehind begin p start) × Utf8Says Syntax place.part c
    number_unfinished w =
        let s = some_number place in (
          record { bare = false; front = h.front; part = part; text_is = h.text_is; whole = h.whole; unfinished = open_number s.0 (h.reads s.0 s.1) (λ n. false≢true (sym w ∙ end_whole place (h.only [] (subst IsNumber (sym (append-nil part)) n)))); at_is = h.token_is },
          λ b. number_part_no_quote b.0 b.1,
        )

    places_number : (within : List Open) (k : Kind) → KindSays c k → (o : Option InNumber) → NumberBacks place c o → ((t : List ℕ) → NumberEnd place (c ∷ t) → NumberFollows o t) → (w : Bool) → is_whole place ≡ w → Places begin p c (number_goes o w (state at start (spots.InNumber place) part within) c k)
    places_number within k i (Some to) b f w e = number_longer to b f
    places_number within k i None b f true e = places_with (tokens.Value start (scalars.Number part)) (after_value (state at start spots.After part within) k) (places_after true (number_piece e) spots.After within k i)
    places_number within k i None b f false e = number_unfinished e

  -- ---- in a word
  module _ (place : InWord) (h : WordPlaced begin p start place) where
    word_on : c ≡ next_letter place → p ++ c ∷ [] ≡ h.front ++ (letters_read place ++ next_letter place ∷ [])
    word_on i = ap (λ x. x ++ c ∷ []) h.text_is ∙ append_assoc h.front (letters_read place) (c ∷ []) ∙ ap (λ x. h.front ++ (letters_read place ++ x ∷ [])) i

    places_letter : (within : List Open) → c ≡ next_letter place → (o : Option InWord) → WordReads place o → Places begin p c (word_goes o place (state at start (spots.InWord place) part within))
    places_letter within i None r = (true, piece_word h.whole r (word_on i))
    places_letter within i (Some w) r = record { front = h.front; text_is = word_on i ∙ ap (λ x. h.front ++ x) (sym r); whole = h.whole; token_is = h.token_is }

    places_word : (within : List Open) → Places begin p c (in_word place (state at start (spots.InWord place) part within) c)
    places_word within = cond_both (eqb c (next_letter place)) _ _ (Places begin p c)
        (λ e. places_letter within (eqb-true c (next_letter place) e) (word_next place) (word_reads place))
        (λ _. (
          record { bare = false; front = h.front; part = letters_read place; text_is = h.text_is; whole = h.whole; unfinished = open_word (next_letter place ∷ later_letters place) (word_full place) (word_short place); at_is = h.token_is },
          λ b. word_no_quote place b.0 b.1,
        ))

  -- ---- in a string
  module _ (place : InString) (f : InFormed place) (h : StringPlaced begin p start part place) where
    string_unfinished : Unfinished h.bare (34 ∷ h.body)
    string_unfinished =
        let e = some_end 0 place f in
        open_string e.1 (part ++ e.0) (h.body ++ e.1, refl, h.reads e.0 e.1 e.2) closed
      where
        closed : (m : List ℕ) → IsString m (34 ∷ h.body) → ⊥
        closed m (rest, q, k) =
            let o = h.only m [] (subst (Quoted m) (sym (let t : h.body ≡ rest = cc in t) ∙ sym (append-nil h.body)) k) in
            string_open place o.0 o.1

    abbrev string_place : PlaceBehind begin p start
    string_place = record { bare = h.bare; front = h.front; part = 34 ∷ h.body; text_is = h.text_is; whole = h.whole; unfinished = string_unfinished; at_is = h.token_is }

    code_place : (code : Code) → CodeSays place c code → Utf8Says code (34 ∷ h.body) c
    code_place Utf8 s = (h.body, refl, λ t u. s t ((h.utf8 (c ∷ t)).0 u))
    code_place Syntax s = λ (body, e, b). b s.0 (subst (λ x. strings.Utf8 (x ++ c ∷ s.0)) (let q : h.body ≡ body = cc in q) ((h.utf8 (c ∷ s.0)).1 s.1))
    code_place _ s = absurd s

    bad_place : string_did place c ≡ bad → (place' : PlaceBehind begin p start) × Utf8Says (code_of place c) place'.part c
    bad_place e = (string_place, code_place (code_of place c) (code_says place c e))

    longer : p ++ c ∷ [] ≡ h.front ++ 34 ∷ (h.body ++ c ∷ [])
    longer = ap (λ x. x ++ c ∷ []) h.text_is ∙ append_assoc h.front (34 ∷ h.body) (c ∷ [])

    string_ends : EndOf place [] (c ∷ []) → Pieces false (p ++ c ∷ [])
    string_ends e = piece_string {meant = part} h.whole (h.body ++ c ∷ [], refl, subst (λ m. Quoted m (h.body ++ c ∷ [])) (append-nil part) (h.reads [] (c ∷ []) e)) longer

    string_goes : (bytes : List ℕ) (to : InString) → DidBacks place c (stays bytes to) → ((m t : List ℕ) → EndOf place m (c ∷ t) → DidFollows (stays bytes to) m t) → DidUtf8 place c (stays bytes to) → StringPlaced begin (p ++ c ∷ []) start (part ++ bytes) to
    string_goes bytes to b g u = record {
      bare = h.bare;
      front = h.front;
      body = h.body ++ c ∷ [];
      text_is = longer;
      whole = h.whole;
      token_is = h.token_is;
      reads = λ m t e. subst (λ x. Quoted x ((h.body ++ c ∷ []) ++ t)) (sym (append_assoc part bytes m)) (subst (Quoted (part ++ (bytes ++ m))) (sym (append_assoc h.body (c ∷ []) t)) (h.reads (bytes ++ m) (c ∷ t) (b.1 m t e)));
      only = λ m t e.
          let o = h.only m (c ∷ t) (subst (Quoted m) (append_assoc h.body (c ∷ []) t) e) in
          let k = g o.0 t o.1 in
          (k.0, k.2);
      utf8 = λ t. (
        (λ x. (u t).0 ((h.utf8 (c ∷ t)).0 (subst strings.Utf8 (append_assoc h.body (c ∷ []) t) x))),
        (λ x. subst strings.Utf8 (sym (append_assoc h.body (c ∷ []) t)) ((h.utf8 (c ∷ t)).1 ((u t).1 x))),
      );
    }

    -- where the byte closes the string it is UTF-8 so far
    closing : Utf8Rest place (c ∷ []) → BreaksUtf8 (34 ∷ h.body) c → ⊥
    closing u (body, e, b) = b [] (subst (λ x. strings.Utf8 (x ++ c ∷ [])) (let q : h.body ≡ body = cc in q) ((h.utf8 (c ∷ [])).1 u))

    places_text : (within : List Open) (d : Did) → string_did place c ≡ d → DidBacks place c d → ((m t : List ℕ) → EndOf place m (c ∷ t) → DidFollows d m t) → DidUtf8 place c d → Places begin p c (text_goes d place (state at start (spots.InText place) part within) c)
    places_text within bad e b g u = bad_place e
    places_text within ends e b g u = (false, string_ends b)
    places_text within (stays bytes to) e b g u = string_goes bytes to b g u

    places_in_key : (once : Bool) (had : List (List ℕ)) (below : List Open) (d : Did) → string_did place c ≡ d → DidBacks place c d → ((m t : List ℕ) → EndOf place m (c ∷ t) → DidFollows d m t) → DidUtf8 place c d → Places begin p c (key_goes once d place (state at start (spots.InKey place) part (opens.Object had ∷ below)) c)
    places_in_key once had below bad e b g u = bad_place e
    places_in_key once had below ends e b g u = cond_both (once && list_any (bytes_eq part) had) _ _ (Places begin p c) (λ _. (string_place, closing u)) (λ _. string_ends b)
    places_in_key once had below (stays bytes to) e b g u = string_goes bytes to b g u

  places_at : (once : Bool) (limit : ℕ) (spot : Spot) (within : List Open) → FormedAt spot within → PlacedAt spot begin p start part → Places begin p c (moved_at once limit spot (state at start spot part within) c)
  places_at once limit spots.Value within n h = places_at_value h limit within (kind_of c) (kind_says c)
  places_at once limit spots.FirstItem within n h = places_first_item h limit within (kind_of c) (kind_says c)
  places_at once limit spots.FirstKey within n h = places_first_key h within (kind_of c) (kind_says c)
  places_at once limit spots.Key within n h = places_key h within (kind_of c) (kind_says c)
  places_at once limit spots.Colon within n h = places_colon h within (kind_of c) (kind_says c)
  places_at once limit spots.After within n h = places_after h.0 h.1 spots.After within (kind_of c) (kind_says c)
  places_at once limit (spots.InKey place) (opens.Object had ∷ below) n h = places_in_key place n.1 h once had below (string_did place c) refl (string_back place c n.1) (λ m t e. string_forward place c m t e) (string_utf8 place c)
  places_at once limit (spots.InKey place) (opens.Array ∷ below) n h = absurd n.0
  places_at once limit (spots.InKey place) [] n h = absurd n.0
  places_at once limit (spots.InText place) within n h = places_text place n h within (string_did place c) refl (string_back place c n) (λ m t e. string_forward place c m t e) (string_utf8 place c)
  places_at once limit (spots.InNumber place) within n h = places_number place h within (kind_of c) (kind_says c) (number_did place c) (number_back place c) (λ t e. number_forward place c t e) (is_whole place) refl
  places_at once limit (spots.InWord place) within n h = places_word place h within

pub places : (once : Bool) (limit begin : ℕ) (p : List ℕ) (s : Reading) (c : ℕ) → s.at ≡ begin + length p → FormedAt s.spot s.within → PlacedAt s.spot begin p s.start s.part → Places begin p c (moved once limit s c)
unfolding moved
places once limit begin p s c e n h = places_at begin p c s.at s.start s.part e once limit s.spot s.within n h
