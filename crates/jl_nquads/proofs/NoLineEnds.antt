-- No token but a line end has the byte of one, and each token ends before it.
use Rattle.std.proofs.Common.{◌≡◌, ℕ, ◌+◌, ◌/◌, ◌<◌, ◌≤◌, inl, inr, Bool, true, false, not, ◌&&◌, ◌||◌, ◌==◌, List, [], ◌∷◌, ◌++◌, length, flat_map, is_some, codes, IsTrue, refl, sym, ap, ◌∙◌, subst, arith}
use Rattle.std.proofs.lemmas.Bool.{cases_lt, and_parts, and_from, or_cases, or_left, false≢true, eqb-true, ne_eqb, lt-ltb, le-ltb}
use Rattle.std.proofs.lemmas.List.Folds.{list_all-append}
use Rattle.std.specs.List.{list_all}
use lib.Utf8.{encode, encodes, scalar, next}
use Rattle.jl_model.specs.Iris.{is_iri_byte}
use Rattle.jl_model.specs.Labels.{last_byte}
use Rattle.jl_model.specs.LineTokens.{Written, itself, letter, four, eight, spelling, meaning, meant_byte, letter_value, is_uchar, is_hex_digit, hex_number, is_iri_character, is_string_character, is_label, begins_label, goes_on_label, base_ranges, further_ranges, is_in, is_comment_character, is_line_end, begins_tag, LineToken, token_bytes, is_token, ends_before, bytes_of, is_row}
use Rattle.jl_model.specs.LineTokens as tokens
use Rattle.jl_model.specs.JsonStrings.{hex_value}
use Rattle.jl_nquads.specs.Spots.{not_end}
use Rattle.jl_nquads.proofs.Deciding.{hex_below}
use Rattle.jl_nquads.proofs.TagBytes.{is_tag_byte, tag_bytes, other_ends}
use Rattle.jl_nquads.proofs.TokenBodies.{at_below, all_below, letter_low}

-- a test that holds of all bytes beyond ASCII, and of the character where it is one of ASCII
pub encode_all : (f : ℕ → Bool) (c : ℕ) → ((b : ℕ) → 128 ≤ b → IsTrue (f b)) → (c < 128 → IsTrue (f c)) → IsTrue (list_all f (encode c))
unfolding encode
encode_all f c high low = elim (cases_lt c 128) [
  | inl l ↦ rw (lt-ltb c 128 l) (and_from (f c) true (low l) refl)
  | inr l ↦ elim (cases_lt c 2048) [
    | inl m ↦ rw (le-ltb c 128 l, lt-ltb c 2048 m) (two (192 + c / 64) (next c) (high (192 + c / 64) (omega arith)) (high (next c) (omega arith)))
    | inr m ↦ elim (cases_lt c 65536) [
      | inl n ↦ rw (le-ltb c 128 l, le-ltb c 2048 m, lt-ltb c 65536 n) (and_from (f (224 + c / 4096)) _ (high (224 + c / 4096) (omega arith)) (two (next (c / 64)) (next c) (high (next (c / 64)) (omega arith)) (high (next c) (omega arith))))
      | inr n ↦
          rw (le-ltb c 128 l, le-ltb c 2048 m, le-ltb c 65536 n)
          (and_from (f (240 + c / 262144)) _ (high (240 + c / 262144) (omega arith)) (and_from (f (next (c / 4096))) _ (high (next (c / 4096)) (omega arith)) (two (next (c / 64)) (next c) (high (next (c / 64)) (omega arith)) (high (next c) (omega arith)))))
    ]
  ]
]
  where
    two : (a b : ℕ) → IsTrue (f a) → IsTrue (f b) → IsTrue (f a && (f b && true))
    two a b h k = and_from (f a) (f b && true) h (and_from (f b) true k refl)

-- a number above the line ends is none
above : (c : ℕ) → 13 < c → IsTrue (not_end c)
above c l = rw (ne_eqb c 10 (λ e. omega (arith, e)), ne_eqb c 13 (λ e. omega (arith, e))) refl

pub char_no_end : (c : ℕ) → (c < 128 → IsTrue (not_end c)) → IsTrue (list_all not_end (encode c))
char_no_end c h = encode_all not_end c (λ b l. above b (omega arith)) h

-- by trying each number of ASCII
implied : (a b : Bool) → IsTrue (not a || b) → IsTrue a → IsTrue b
implied true b h k = h
implied false b h k = absurd (false≢true k)

pub within : (f : ℕ → Bool) → IsTrue (all_below 128 (λ x. not (f x) || not_end x)) → (c : ℕ) → IsTrue (f c) → c < 128 → IsTrue (not_end c)
within f all c h l = implied (f c) (not_end c) (at_below 128 (λ x. not (f x) || not_end x) c all l) h

hex_all : IsTrue (all_below 128 (λ x. not (is_hex_digit x) || not_end x))
unfolding hex_value
hex_all = refl

digit_no_end : (ds : List ℕ) → IsTrue (list_all is_hex_digit ds) → IsTrue (list_all not_end ds)
digit_no_end [] h = refl
digit_no_end (d ∷ ds) h =
    let p = and_parts (is_hex_digit d) (list_all is_hex_digit ds) h in
    and_from (not_end d) (list_all not_end ds) (within is_hex_digit hex_all d p.0 (hex_below d p.0)) (digit_no_end ds p.1)

uchar_no_end : (n : ℕ) (ds : List ℕ) → IsTrue (is_uchar n ds) → IsTrue (list_all not_end ds)
uchar_no_end n ds h = digit_no_end ds (and_parts (list_all is_hex_digit ds) (scalar (hex_number 0 ds)) (and_parts (length ds == n) (list_all is_hex_digit ds && scalar (hex_number 0 ds)) h).1).0

letter_no_end : (c : ℕ) → IsTrue (is_some (letter_value c)) → IsTrue (list_all not_end (codes "\\" ++ c ∷ []))
letter_no_end c h = and_from (not_end c) true (within (λ x. is_some (letter_value x)) refl c h (letter_low c h)) refl

iri_no_end : (w : Written) → IsTrue (is_iri_character w) → IsTrue (list_all not_end (spelling w))
iri_no_end (itself c) h = char_no_end c (λ l. within is_iri_byte refl c (and_parts (scalar c) (is_iri_byte c) h).1 l)
iri_no_end (letter c) h = absurd (false≢true h)
iri_no_end (four ds) h = uchar_no_end 4 ds h
iri_no_end (eight ds) h = uchar_no_end 8 ds h

string_no_end : (w : Written) → IsTrue (is_string_character w) → IsTrue (list_all not_end (spelling w))
string_no_end (itself c) h = char_no_end c (λ l. within (λ x. not (x == 34 || (x == 92 || (x == 10 || x == 13)))) refl c (and_parts (scalar c) (not (c == 34 || (c == 92 || (c == 10 || c == 13)))) h).1 l)
string_no_end (letter c) h = letter_no_end c h
string_no_end (four ds) h = uchar_no_end 4 ds h
string_no_end (eight ds) h = uchar_no_end 8 ds h

joined_no_end : (x y : List ℕ) → IsTrue (list_all not_end x) → IsTrue (list_all not_end y) → IsTrue (list_all not_end (x ++ y))
joined_no_end x y h k = list_all-append not_end x y ∙ and_from (list_all not_end x) (list_all not_end y) h k

all_no_end : (test : Written → Bool) → ((w : Written) → IsTrue (test w) → IsTrue (list_all not_end (spelling w))) → (ws : List Written) → IsTrue (list_all test ws) → IsTrue (list_all not_end (flat_map spelling ws))
all_no_end test each [] h = refl
all_no_end test each (w ∷ ws) h = let p = and_parts (test w) (list_all test ws) h in joined_no_end (spelling w) (flat_map spelling ws) (each w p.0) (all_no_end test each ws p.1)

label_no_end : (cs : List ℕ) → IsTrue (list_all goes_on_label cs) → IsTrue (list_all not_end (encodes cs))
label_no_end [] h = refl
label_no_end (c ∷ cs) h =
    let p = and_parts (goes_on_label c) (list_all goes_on_label cs) h in
    joined_no_end (encode c) (encodes cs) (char_no_end c (λ l. within goes_on_label refl c p.0 l)) (label_no_end cs p.1)

comment_no_end : (cs : List ℕ) → IsTrue (list_all is_comment_character cs) → IsTrue (list_all not_end (encodes cs))
comment_no_end [] h = refl
comment_no_end (c ∷ cs) h =
    let p = and_parts (is_comment_character c) (list_all is_comment_character cs) h in
    joined_no_end (encode c) (encodes cs) (char_no_end c (λ l. (and_parts (scalar c) (not (is_line_end c)) p.0).1)) (comment_no_end cs p.1)

pub label_goes_on : (cs : List ℕ) → IsTrue (is_label cs) → IsTrue (list_all goes_on_label cs)
label_goes_on [] h = refl
label_goes_on (c ∷ cs) h =
    let p = and_parts (begins_label c) (list_all goes_on_label cs && not (last_byte c cs == 46)) h in
    and_from (goes_on_label c) (list_all goes_on_label cs) (or_left (begins_label c) (c == 45 || (c == 46 || is_in further_ranges c)) p.0) (and_parts (list_all goes_on_label cs) (not (last_byte c cs == 46)) p.1).0

tag_no_end : (bs : List ℕ) → IsTrue (list_all is_tag_byte bs) → IsTrue (list_all not_end bs)
tag_no_end [] h = refl
tag_no_end (c ∷ cs) h = let p = and_parts (is_tag_byte c) (list_all is_tag_byte cs) h in and_from (not_end c) (list_all not_end cs) (elim (cases_lt c 128) [ inl l ↦ within is_tag_byte refl c p.0 l | inr l ↦ above c (omega arith) ]) (tag_no_end cs p.1)

-- a token that is no line end
abbrev pub is_inside : LineToken → Bool
is_inside (tokens.line_end c) = false
is_inside t = true

pub token_no_end : (t : LineToken) → IsTrue (is_inside t) → IsTrue (is_token t) → IsTrue (list_all not_end (token_bytes t))
token_no_end (tokens.iri ws) i h =
    joined_no_end (60 ∷ flat_map spelling ws) (62 ∷ []) (all_no_end is_iri_character iri_no_end ws (and_parts (list_all is_iri_character ws) _ h).0) refl
token_no_end (tokens.label cs) i h = label_no_end cs (label_goes_on cs h)
token_no_end (tokens.string ws) i h = joined_no_end (34 ∷ flat_map spelling ws) (34 ∷ []) (all_no_end is_string_character string_no_end ws h) refl
token_no_end tokens.carets i h = refl
token_no_end (tokens.tag text) i h = tag_no_end text (tag_bytes text h)
token_no_end tokens.dot i h = refl
token_no_end (tokens.comment cs) i h = comment_no_end cs h
token_no_end (tokens.line_end c) i h = absurd (false≢true i)
token_no_end (tokens.blank c) i h = and_from (not_end c) true (elim (or_cases (c == 32) (c == 9) h) [ inl e ↦ subst (λ x. IsTrue (not_end x)) (sym (eqb-true c 32 e)) refl | inr e ↦ subst (λ x. IsTrue (not_end x)) (sym (eqb-true c 9 e)) refl ]) refl

pub end_is : (P : ℕ → Type 0) (e : ℕ) → IsTrue (is_line_end e) → P 10 → P 13 → P e
end_is P e h a b = elim (or_cases (e == 10) (e == 13) h) [ inl k ↦ subst P (sym (eqb-true e 10 k)) a | inr k ↦ subst P (sym (eqb-true e 13 k)) b ]

-- each token ends before a line end
pub ends_at_line_end : (t : LineToken) (e : ℕ) (x : List ℕ) → IsTrue (is_line_end e) → IsTrue (ends_before t (e ∷ x))
ends_at_line_end (tokens.iri ws) e x l = refl
ends_at_line_end (tokens.label cs) e x l = end_is (λ z. IsTrue (not (z == 95))) e l refl refl
ends_at_line_end (tokens.string ws) e x l = refl
ends_at_line_end tokens.carets e x l = refl
ends_at_line_end (tokens.tag text) e x l = ap (λ b. not b) (other_ends text e [] (end_is (λ z. is_tag_byte z ≡ false) e l refl refl))
ends_at_line_end tokens.dot e x l = refl
ends_at_line_end (tokens.comment cs) e x l = refl
ends_at_line_end (tokens.line_end c) e x l = refl
ends_at_line_end (tokens.blank c) e x l = refl
