-- The place of the token behind a text is one.
use Rattle.std.proofs.Common.{◌≡◌, ℕ, ◌+◌, ◌≤◌, ◌⊎◌, inl, inr, Bool, true, false, List, [], ◌∷◌, ◌++◌, length, length-append, append_assoc, append-nil, add-zero, codes, drop, refl, sym, ap, ◌∙◌, subst, arith}
use Rattle.std.specs.List.{AllByRecursion}
use Rattle.std.proofs.lemmas.List.{append_cancel_left}
use Rattle.jl_model.specs.JsonNumbers.{Joined, IsDigit, Digits, SomeDigits, Minus, Whole, Fraction, Signed, Exponent, IsNumber}
use Rattle.jl_model.specs.JsonStrings.{IsString}
use Rattle.jl_model.specs.JsonText.{IsBlank}
use Rattle.jl_model.specs.TextFaults.{IsStructural, IsWord, Pieces, Unfinished, PlaceBehind}
use Rattle.jl_model.specs.TextFaults.Pieces.{none, blank, structural}
use Rattle.jl_model.specs.TextFaults.Pieces.{string as a_string, number as a_number, word as a_word}
use Rattle.jl_model.specs.TextFaults.Unfinished.{nothing}
use Rattle.jl_model.specs.TextFaults.Unfinished.{string as in_string, number as in_number, word as in_word}
use Rattle.jl_model.proofs.SameStrings.{strings-same}
use Rattle.jl_token.proofs.Heads.{head_is, tail_is}
use Rattle.jl_token.proofs.TokenEnds.{no_number, FirstOfNumber, number_first}

-- ---- bytes that stand in no number and no word

-- what a token begins with that is no number and no word, and blanks
abbrev Apart : ℕ → Type 0
Apart c = IsBlank c ⊎ IsStructural c ⊎ (c ≡ 34)

abbrev AllBare : List ℕ → Type 0
AllBare = AllByRecursion (λ c. Apart c → ⊥)

digit_bare : (c : ℕ) → IsDigit c → Apart c → ⊥
digit_bare c d s = grind arith

letter_bare : (c : ℕ) → 97 ≤ c → c ≤ 122 → Apart c → ⊥
letter_bare c l h s = grind arith

sign_bare : (c : ℕ) → (c ≡ 43) ⊎ (c ≡ 45) ⊎ (c ≡ 46) ⊎ (c ≡ 69) → Apart c → ⊥
sign_bare c l s = grind arith

quote_alone : (c : ℕ) → IsBlank c ⊎ IsStructural c → c ≡ 34 → ⊥
quote_alone c s e = grind arith

bare_on : (xs ys : List ℕ) → AllBare xs → AllBare ys → AllBare (xs ++ ys)
bare_on [] ys a b = b
bare_on (x ∷ xs) ys a b = (a.0, bare_on xs ys a.1 b)

bare_front : (xs ys : List ℕ) → AllBare (xs ++ ys) → AllBare xs
bare_front [] ys a = tt
bare_front (x ∷ xs) ys a = (a.0, bare_front xs ys a.1)

joined_bare : (P Q : List ℕ → Type 0) → ((t : List ℕ) → P t → AllBare t) → ((t : List ℕ) → Q t → AllBare t) → (t : List ℕ) → Joined P Q t → AllBare t
joined_bare P Q f g t h = subst AllBare (sym h.text_is) (bare_on h.front h.back (f h.front h.in_one) (g h.back h.in_other))

digits_bare : (t : List ℕ) → Digits t → AllBare t
digits_bare [] h = tt
digits_bare (c ∷ cs) h = (digit_bare c h.0, digits_bare cs h.1)

some_digits_bare : (t : List ℕ) → SomeDigits t → AllBare t
some_digits_bare [] h = tt
some_digits_bare (c ∷ cs) h = (digit_bare c h.0, digits_bare cs h.1)

minus_bare : (t : List ℕ) → Minus t → AllBare t
minus_bare [] h = tt
minus_bare (c ∷ cs) h = (sign_bare c (inr (inl h.0)), subst AllBare (sym h.1) tt)

whole_bare : (t : List ℕ) → Whole t → AllBare t
whole_bare [] h = tt
whole_bare (c ∷ cs) (inl h) = (digit_bare c (omega (arith, h.0), omega (arith, h.0)), subst AllBare (sym h.1) tt)
whole_bare (c ∷ cs) (inr h) = (digit_bare c (omega (arith, h.0), h.1), digits_bare cs h.2)

fraction_bare : (t : List ℕ) → Fraction t → AllBare t
fraction_bare [] h = tt
fraction_bare (c ∷ cs) h = (sign_bare c (inr (inr (inl h.0))), some_digits_bare cs h.1)

signed_bare : (t : List ℕ) → Signed t → AllBare t
signed_bare [] h = tt
signed_bare (c ∷ cs) (inl h) = some_digits_bare (c ∷ cs) h
signed_bare (c ∷ cs) (inr (inl e, h)) = (sign_bare c (inl e), some_digits_bare cs h)
signed_bare (c ∷ cs) (inr (inr e, h)) = (sign_bare c (inr (inl e)), some_digits_bare cs h)

exponent_bare : (t : List ℕ) → Exponent t → AllBare t
exponent_bare [] h = tt
exponent_bare (c ∷ cs) (inl e, h) = (letter_bare c (omega (arith, e)) (omega (arith, e)), signed_bare cs h)
exponent_bare (c ∷ cs) (inr e, h) = (sign_bare c (inr (inr (inr e))), signed_bare cs h)

number_bare : (t : List ℕ) → IsNumber t → AllBare t
number_bare = joined_bare Minus _ minus_bare (joined_bare Whole _ whole_bare (joined_bare Fraction Exponent fraction_bare exponent_bare))

word_bare : (t : List ℕ) → IsWord t → AllBare t
word_bare t (inl e) = subst AllBare (sym e) (letter_bare 110 (omega arith) (omega arith), (letter_bare 117 (omega arith) (omega arith), (letter_bare 108 (omega arith) (omega arith), (letter_bare 108 (omega arith) (omega arith), tt))))
word_bare t (inr (inl e)) = subst AllBare (sym e) (letter_bare 116 (omega arith) (omega arith), (letter_bare 114 (omega arith) (omega arith), (letter_bare 117 (omega arith) (omega arith), (letter_bare 101 (omega arith) (omega arith), tt))))
word_bare t (inr (inr e)) = subst AllBare (sym e) (letter_bare 102 (omega arith) (omega arith), (letter_bare 97 (omega arith) (omega arith), (letter_bare 108 (omega arith) (omega arith), (letter_bare 115 (omega arith) (omega arith), (letter_bare 101 (omega arith) (omega arith), tt)))))

-- ---- whole tokens from the left

-- a blank or a whole token; `bare` says that it is a number or a word
abbrev Piece : Bool → List ℕ → Type 0
Piece false piece = ((c : ℕ) × (piece ≡ c ∷ []) × (IsBlank c ⊎ IsStructural c)) ⊎ ((meant : List ℕ) × IsString meant piece)
Piece true piece = IsNumber piece ⊎ IsWord piece

-- no number or word stands right behind another
abbrev Follows : Bool → Bool → Type 0
Follows true true = ⊥
Follows _ _ = Unit {0}

-- whole tokens and blanks of this length, and then an unfinished token
data Cut : Bool → List ℕ → ℕ → Type 0 where
  last : {from : Bool} {text : List ℕ} {n : ℕ} → Unfinished from text → n ≡ 0 → Cut from text n
  more : {from : Bool} {text : List ℕ} {n : ℕ} (bare : Bool) (piece rest : List ℕ) (k : ℕ) → Piece bare piece → Follows from bare → text ≡ piece ++ rest → n ≡ length piece + k → Cut bare rest k → Cut from text n

free : (from : Bool) → Follows from false
free true = tt
free false = tt

one_more : (from bare : Bool) (before piece text rest : List ℕ) (n : ℕ) → Piece bare piece → Follows from bare → text ≡ before ++ piece → ((there : ℕ) → Cut from (piece ++ rest) there → Cut false (before ++ (piece ++ rest)) (length before + there)) → Cut bare rest n → Cut false (text ++ rest) (length text + n)
one_more from bare before piece text rest n p f e again c =
    let q : Cut from (piece ++ rest) (length piece + n) = more bare piece rest n p f refl refl c in
    let r = again (length piece + n) q in
    let i : before ++ (piece ++ rest) ≡ text ++ rest = sym (append_assoc before piece rest) ∙ ap (λ x. x ++ rest) (sym e) in
    let j : length before + (length piece + n) ≡ length text + n = omega (arith, ap length e, length-append before piece) in
    subst (λ x. Cut false (text ++ rest) x) j (subst (λ x. Cut false x (length before + (length piece + n))) i r)

cut_from : (bare : Bool) (front : List ℕ) → Pieces bare front → (rest : List ℕ) (n : ℕ) → Cut bare rest n → Cut false (front ++ rest) (length front + n)
cut_from false [] none rest n c = subst (λ x. Cut false rest x) (let e : n ≡ 0 + n = omega arith in e) c
cut_from false text (blank {bare = b} {c = x} {before = before} p s e) rest n c = one_more b false before (x ∷ []) text rest n (inl (x, refl, inl s)) (free b) e (λ there d. cut_from b before p (x ∷ rest) there d) c
cut_from false text (structural {bare = b} {c = x} {before = before} p s e) rest n c = one_more b false before (x ∷ []) text rest n (inl (x, refl, inr s)) (free b) e (λ there d. cut_from b before p (x ∷ rest) there d) c
cut_from false text (a_string {bare = b} {before = before} {meant = m} {piece = piece} p s e) rest n c = one_more b false before piece text rest n (inr (m, s)) (free b) e (λ there d. cut_from b before p (piece ++ rest) there d) c
cut_from true text (a_number {before = before} {piece = piece} p s e) rest n c = one_more false true before piece text rest n (inl s) tt e (λ there d. cut_from false before p (piece ++ rest) there d) c
cut_from true text (a_word {before = before} {piece = piece} p s e) rest n c = one_more false true before piece text rest n (inr s) tt e (λ there d. cut_from false before p (piece ++ rest) there d) c

-- ---- the first byte tells

abbrev FirstOf : Bool → ℕ → Type 0
FirstOf true c = Apart c → ⊥
FirstOf false c = Apart c

bare_first : (piece : List ℕ) → (piece ≡ [] → ⊥) → AllBare piece → (c : ℕ) × (g : List ℕ) × (piece ≡ c ∷ g) × FirstOf true c
bare_first [] n a = absurd (n refl)
bare_first (c ∷ g) n a = (c, g, refl, a.0)

no_word : (piece : List ℕ) → IsWord piece → piece ≡ [] → ⊥
no_word piece (inl e) n = let q = sym e ∙ n in cc
no_word piece (inr (inl e)) n = let q = sym e ∙ n in cc
no_word piece (inr (inr e)) n = let q = sym e ∙ n in cc

first_of : (bare : Bool) (piece : List ℕ) → Piece bare piece → (c : ℕ) × (g : List ℕ) × (piece ≡ c ∷ g) × FirstOf bare c
first_of false piece (inl (c, e, inl s)) = (c, [], e, inl s)
first_of false piece (inl (c, e, inr s)) = (c, [], e, inr (inl s))
first_of false piece (inr (m, (rest, e, q))) = (34, rest, e, inr (inr refl))
first_of true piece (inl h) = bare_first piece (λ e. no_number (subst IsNumber e h)) (number_bare piece h)
first_of true piece (inr h) = bare_first piece (no_word piece h) (word_bare piece h)

-- a text that no number or word can go on with
abbrev Stops : List ℕ → Type 0
Stops text = (c : ℕ) (g : List ℕ) → text ≡ c ∷ g → Apart c

abbrev StopsBehind : Bool → List ℕ → Type 0
StopsBehind true text = Stops text
StopsBehind false text = Unit {0}

string_head : (m part : List ℕ) (c : ℕ) (g : List ℕ) → IsString m part → part ≡ c ∷ g → c ≡ 34
string_head m part c g h e = head_is c 34 g h.0 (sym e ∙ h.1)

stops_unfinished : (text : List ℕ) → Unfinished true text → Stops text
stops_unfinished text nothing c g e = cc
stops_unfinished text (in_string behind m h n) c g e = inr (inr (string_head m (text ++ behind) c (g ++ behind) h (ap (λ x. x ++ behind) e)))

stops_behind : (bare : Bool) (text : List ℕ) (n : ℕ) → Cut bare text n → StopsBehind bare text
stops_behind false text n c = tt
stops_behind true text n (last u e) = stops_unfinished text u
stops_behind true text n (more true piece rest k p f e i d) = absurd f
stops_behind true text n (more false piece rest k p f e i d) = λ c g q.
    let r = first_of false piece p in
    subst Apart (head_is r.0 c (r.1 ++ rest) g (ap (λ x. x ++ rest) (sym r.2) ∙ sym e ∙ q)) r.3

-- ---- one whole token

bare_same : (x y r s : List ℕ) → AllBare x → AllBare y → Stops r → Stops s → x ++ r ≡ y ++ s → x ≡ y
bare_same [] [] r s a b f g e = refl
bare_same [] (d ∷ y) r s a b f g e = absurd (b.0 (f d (y ++ s) e))
bare_same (c ∷ x) [] r s a b f g e = absurd (a.0 (g c (x ++ r) (sym e)))
bare_same (c ∷ x) (d ∷ y) r s a b f g e =
    let i : c ≡ d = head_is c d (x ++ r) (y ++ s) e in
    let q : x ≡ y = bare_same x y r s a.1 b.1 f g (tail_is c d (x ++ r) (y ++ s) e) in
    ap (λ z. z ∷ x) i ∙ ap (λ z. d ∷ z) q

pieces_bare : (x : List ℕ) → Piece true x → AllBare x
pieces_bare x (inl h) = number_bare x h
pieces_bare x (inr h) = word_bare x h

-- the first byte of two texts that begin as one
firsts_meet : (b d : Bool) (x y r s : List ℕ) → Piece b x → Piece d y → x ++ r ≡ y ++ s → (c : ℕ) × FirstOf b c × FirstOf d c
firsts_meet b d x y r s p q e =
    let f = first_of b x p in
    let g = first_of d y q in
    let i : f.0 ≡ g.0 = head_is f.0 g.0 (f.1 ++ r) (g.1 ++ s) (ap (λ z. z ++ r) (sym f.2) ∙ e ∙ ap (λ z. z ++ s) g.2) in
    (f.0, f.3, subst (FirstOf d) (sym i) g.3)

-- a sign and a string don't begin alike
sign_string : (c : ℕ) (m x y r s : List ℕ) → IsBlank c ⊎ IsStructural c → x ≡ c ∷ [] → IsString m y → x ++ r ≡ y ++ s → ⊥
sign_string c m x y r s o e (b, j, k) q = quote_alone c o (head_is c 34 r (b ++ s) (ap (λ z. z ++ r) (sym e) ∙ q ∙ ap (λ z. z ++ s) j))

same_piece : (b d : Bool) (x y r s : List ℕ) → Piece b x → Piece d y → StopsBehind b r → StopsBehind d s → x ++ r ≡ y ++ s → (b ≡ d) × (x ≡ y)
same_piece true true x y r s p q f g e = (refl, bare_same x y r s (pieces_bare x p) (pieces_bare y q) f g e)
same_piece true false x y r s p q f g e = let m = firsts_meet true false x y r s p q e in absurd (m.1 m.2)
same_piece false true x y r s p q f g e = let m = firsts_meet false true x y r s p q e in absurd (m.2 m.1)
same_piece false false x y r s (inl (c, i, o)) (inl (d, j, u)) f g e = (refl, i ∙ ap (λ z. z ∷ []) (head_is c d r s (ap (λ z. z ++ r) (sym i) ∙ e ∙ ap (λ z. z ++ s) j)) ∙ sym j)
same_piece false false x y r s (inl (c, i, o)) (inr (n, k)) f g e = absurd (sign_string c n x y r s o i k e)
same_piece false false x y r s (inr (m, h)) (inl (d, j, u)) f g e = absurd (sign_string d m y x s r u j h (sym e))
same_piece false false x y r s (inr (m, h)) (inr (n, k)) f g e = (refl, (strings-same m n x y r s h k e).1)

-- ---- an unfinished token holds no whole one

none_behind : (x r : List ℕ) → AllBare (x ++ r) → Stops r → r ≡ []
none_behind x [] a f = refl
none_behind [] (c ∷ r) a f = absurd (a.0 (f c r refl))
none_behind (d ∷ x) (c ∷ r) a f = none_behind x (c ∷ r) a.1 f

number_word : (c : ℕ) (g h : List ℕ) → IsNumber (c ∷ g) → IsWord (c ∷ h) → ⊥
number_word c g h n w = go (number_first c g n) w
  where
    no_letter : (d : ℕ) → 97 ≤ d → c ≡ d → FirstOfNumber c g → ⊥
    no_letter d l e (inl f) = omega (arith, f.0)
    no_letter d l e (inr (inl f)) = omega (arith, f.0)
    no_letter d l e (inr (inr f)) = omega (arith, f.1)

    go : FirstOfNumber c g → IsWord (c ∷ h) → ⊥
    go f (inl e) = no_letter 110 (omega arith) (head_is c 110 h (codes "ull") e) f
    go f (inr (inl e)) = no_letter 116 (omega arith) (head_is c 116 h (codes "rue") e) f
    go f (inr (inr e)) = no_letter 102 (omega arith) (head_is c 102 h (codes "alse") e) f

-- a whole token in front of what numbers and words are made of
bare_whole : (text behind : List ℕ) (bare : Bool) (piece rest : List ℕ) → AllBare (text ++ behind) → Piece bare piece → StopsBehind bare rest → text ≡ piece ++ rest → (text ≡ piece) × Piece true piece
bare_whole text behind true piece rest a p f e =
    let r : rest ≡ [] = none_behind piece rest (subst AllBare e (bare_front text behind a)) f in
    (e ∙ ap (λ x. piece ++ x) r ∙ append-nil piece, p)
bare_whole text behind false piece rest a p f e =
    let r = first_of false piece p in
    let b : AllBare (r.0 ∷ (r.1 ++ rest)) = subst AllBare (e ∙ ap (λ x. x ++ rest) r.2) (bare_front text behind a) in
    absurd (b.0 r.3)

number_whole : (text behind : List ℕ) (piece : List ℕ) → IsNumber (text ++ behind) → (IsNumber text → ⊥) → text ≡ piece → Piece true piece → ⊥
number_whole text behind piece h n e (inl p) = n (subst IsNumber (sym e) p)
number_whole text behind piece h n e (inr p) =
    let r = first_of true piece (inr p) in
    number_word r.0 (r.1 ++ behind) r.1 (subst IsNumber (ap (λ x. x ++ behind) (e ∙ r.2)) h) (subst IsWord r.2 p)

word_whole : (text behind : List ℕ) (piece : List ℕ) → IsWord (text ++ behind) → (IsWord text → ⊥) → text ≡ piece → Piece true piece → ⊥
word_whole text behind piece h n e (inr p) = n (subst IsWord (sym e) p)
word_whole text behind piece h n e (inl p) =
    let r = first_of true piece (inl p) in
    number_word r.0 r.1 (r.1 ++ behind) (subst IsNumber r.2 p) (subst IsWord (ap (λ x. x ++ behind) (e ∙ r.2)) h)

string_whole : (text behind m : List ℕ) (bare : Bool) (piece rest : List ℕ) → IsString m (text ++ behind) → ((n : List ℕ) → IsString n text → ⊥) → Piece bare piece → text ≡ piece ++ rest → ⊥
string_whole text behind m true piece rest h n p e =
    let r = first_of true piece p in
    let q : text ++ behind ≡ r.0 ∷ ((r.1 ++ rest) ++ behind) = ap (λ x. x ++ behind) (e ∙ ap (λ x. x ++ rest) r.2) in
    r.3 (inr (inr (string_head m (text ++ behind) r.0 ((r.1 ++ rest) ++ behind) h q)))
string_whole text behind m false piece rest h n (inl (c, i, o)) e =
    let q : piece ++ (rest ++ behind) ≡ (text ++ behind) ++ [] = sym (append_assoc piece rest behind) ∙ ap (λ x. x ++ behind) (sym e) ∙ sym (append-nil (text ++ behind)) in
    sign_string c m piece (text ++ behind) (rest ++ behind) [] o i h q
string_whole text behind m false piece rest h n (inr (k, s)) e =
    let q : (text ++ behind) ++ [] ≡ piece ++ (rest ++ behind) = append-nil (text ++ behind) ∙ ap (λ x. x ++ behind) e ∙ append_assoc piece rest behind in
    let i : text ++ behind ≡ piece = (strings-same m k (text ++ behind) piece [] (rest ++ behind) h s q).1 in
    let j : behind ≡ [] = no_length behind (omega (arith, ap length i, length-append text behind, ap length e, length-append piece rest)) in
    n k (subst (IsString k) (sym i ∙ ap (λ x. text ++ x) j ∙ append-nil text) s)
  where
    no_length : (xs : List ℕ) → length xs ≡ 0 → xs ≡ []
    no_length [] l = refl
    no_length (x ∷ xs) l = cc

no_whole : (from : Bool) (text : List ℕ) → Unfinished from text → (bare : Bool) (piece rest : List ℕ) → Piece bare piece → StopsBehind bare rest → text ≡ piece ++ rest → ⊥
no_whole from text nothing bare piece rest p f e =
    let r = first_of bare piece p in
    let q : [] ≡ r.0 ∷ (r.1 ++ rest) = e ∙ ap (λ x. x ++ rest) r.2 in
    cc
no_whole from text (in_string behind m h n) bare piece rest p f e = string_whole text behind m bare piece rest h n p e
no_whole false text (in_number behind h n) bare piece rest p f e = let w = bare_whole text behind bare piece rest (number_bare (text ++ behind) h) p f e in number_whole text behind piece h n w.0 w.1
no_whole false text (in_word behind h n) bare piece rest p f e = let w = bare_whole text behind bare piece rest (word_bare (text ++ behind) h) p f e in word_whole text behind piece h n w.0 w.1

-- ---- two readings from the left
one_cut : (from : Bool) (text : List ℕ) (n m : ℕ) → Cut from text n → Cut from text m → n ≡ m
one_cut from text n m (last u i) (last v j) = i ∙ sym j
one_cut from text n m (last u i) (more bare piece rest k p f e j d) = absurd (no_whole from text u bare piece rest p (stops_behind bare rest k d) e)
one_cut from text n m (more bare piece rest k p f e j d) (last u i) = absurd (no_whole from text u bare piece rest p (stops_behind bare rest k d) e)
one_cut from text n m (more bare piece rest k p f e j d) (more other text_of behind l q g i o c) =
    let s = same_piece bare other piece text_of rest behind p q (stops_behind bare rest k d) (stops_behind other behind l c) (sym e ∙ i) in
    let t : rest ≡ behind = append_cancel_left piece rest behind (sym e ∙ i ∙ ap (λ x. x ++ behind) (sym s.1)) in
    let r : k ≡ l = one_cut bare rest k l d (subst (λ x. Cut x rest l) (sym s.0) (subst (λ x. Cut other x l) (sym t) c)) in
    omega (arith, j, o, r, ap length s.1)

placed_cut : (start : ℕ) (p : List ℕ) (at : ℕ) → (h : PlaceBehind start p at) → Cut false p (length h.front)
placed_cut start p at h =
    let c = cut_from h.bare h.front h.whole h.part 0 (last h.unfinished refl) in
    subst (λ x. Cut false x (length h.front)) (sym h.text_is) (subst (λ n. Cut false (h.front ++ h.part) n) (add-zero (length h.front)) c)

one_length : (start : ℕ) (p : List ℕ) (at other : ℕ) → (h : PlaceBehind start p at) → (k : PlaceBehind start p other) → length h.front ≡ length k.front
one_length start p at other h k = one_cut false p (length h.front) (length k.front) (placed_cut start p at h) (placed_cut start p other k)

-- Behind one text there is one place.
pub one_place : (start : ℕ) (p : List ℕ) (at other : ℕ) → PlaceBehind start p at → PlaceBehind start p other → at ≡ other
one_place start p at other h k = h.at_is ∙ ap (λ n. start + n) (one_length start p at other h k) ∙ sym k.at_is

drop_front : (xs ys : List ℕ) → drop (length xs) (xs ++ ys) ≡ ys
drop_front [] ys = refl
drop_front (x ∷ xs) ys = drop_front xs ys

-- And one unfinished token.
pub one_part : (start : ℕ) (p : List ℕ) (at other : ℕ) → (h : PlaceBehind start p at) → (k : PlaceBehind start p other) → h.part ≡ k.part
one_part start p at other h k =
    let a : h.part ≡ drop (length h.front) p = sym (drop_front h.front h.part) ∙ ap (λ x. drop (length h.front) x) (sym h.text_is) in
    let b : k.part ≡ drop (length k.front) p = sym (drop_front k.front k.part) ∙ ap (λ x. drop (length k.front) x) (sym k.text_is) in
    a ∙ ap (λ n. drop n p) (one_length start p at other h k) ∙ sym b
