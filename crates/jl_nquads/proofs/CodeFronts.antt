-- Characters at the front of bytes, as code tells them.
use Rattle.std.proofs.Common.{◌≡◌, ℕ, ◌+◌, ◌-◌, ◌*◌, ◌/◌, ◌<◌, ◌≤◌, inl, inr, Bool, true, not, ◌&&◌, ◌||◌, ◌==◌, nat_lt, nat_le, eqb, min, List, [], ◌∷◌, ◌++◌, length, take, drop, IsTrue, IsUtf8, append_assoc, refl, sym, ap, ◌∙◌, subst, arith, length-append}
use Rattle.std.proofs.lemmas.Bool.{and_parts, and_from, or_cases, cases_lt, eqb-true, false≢true, eq-eqb, lt-ltb, le-ltb, le-leb, ltb-true, leb-true}
use Rattle.std.proofs.lemmas.List.{take_at, take-append-drop, length-take-le, drop_at}
use Rattle.std.proofs.lemmas.Str.{length-encode, len_utf8_bounds, encode_ascii, cons_from_encodes}
use Rattle.std.specs.Char.{is_ascii_alphabetic, is_ascii_alphanumeric}
use Rattle.std.specs.Cmp.Lexicographic.{pointwise}
use Rattle.std.specs.List.{list_all, starts_with}
use Rattle.std.specs.Str.Lossy.{utf8_valid_len}
use lib.Utf8.{encode, encodes, scalar, scalars, next}
use Rattle.jl_model.specs.Iris.{is_colon, is_scheme_byte, is_iri_byte}
use Rattle.jl_model.specs.LineTokens.{is_in, base_ranges, further_ranges, begins_label, goes_on_label, is_line_end}
use Rattle.jl_nquads.specs.CodePoints.{has, BeginsCode, IsCodeAt}
use Rattle.jl_nquads.specs.declared.code_points.Class.{Class}
use Rattle.jl_nquads.specs.declared.code_points.Class.TheVariants.{Any, LabelFirst, LabelLater, Comment, Letter, Scheme, Later}
use Rattle.jl_nquads.proofs.Codes.{encode_some}
use Rattle.jl_nquads.proofs.PlainFronts.{valid_is_most, scalar_is, take_take}
use Rattle.jl_nquads.proofs.Texts.{head_is}
use Rattle.jl_nquads.proofs.TokenBodies.{high_alphanumeric, high_alphabetic, high_scheme}

-- ---- the first byte of a character

two_bytes : (c : ℕ) → 128 ≤ c → c < 2048 → encode c ≡ (192 + c / 64) ∷ next c ∷ []
unfolding encode
two_bytes c l m = rw (le-ltb c 128 l, lt-ltb c 2048 m) refl

three_bytes : (c : ℕ) → 2048 ≤ c → c < 65536 → encode c ≡ (224 + c / 4096) ∷ next (c / 64) ∷ next c ∷ []
unfolding encode
three_bytes c l m = rw (le-ltb c 128 (omega arith), le-ltb c 2048 l, lt-ltb c 65536 m) refl

four_bytes : (c : ℕ) → 65536 ≤ c → encode c ≡ (240 + c / 262144) ∷ next (c / 4096) ∷ next (c / 64) ∷ next c ∷ []
unfolding encode
four_bytes c l = rw (le-ltb c 128 (omega arith), le-ltb c 2048 (omega arith), le-ltb c 65536 l) refl

-- which characters the first byte leads
pub data LedBy (c b : ℕ) : Type 0 where
  one : c < 128 → b ≡ c → LedBy c b
  two : 128 ≤ c → c < 2048 → b ≡ 192 + c / 64 → LedBy c b
  three : 2048 ≤ c → c < 65536 → b ≡ 224 + c / 4096 → LedBy c b
  four : 65536 ≤ c → b ≡ 240 + c / 262144 → LedBy c b

pub led_by : (c b : ℕ) (y : List ℕ) → encode c ≡ b ∷ y → LedBy c b
led_by c b y e = elim (cases_lt c 128) [
  | inl l ↦ one l (sym (head_is c b [] y (sym (encode_ascii c l) ∙ e)))
  | inr l ↦ elim (cases_lt c 2048) [
    | inl m ↦ two l m (sym (head_is _ b _ y (sym (two_bytes c l m) ∙ e)))
    | inr m ↦ elim (cases_lt c 65536) [
      | inl n ↦ three m n (sym (head_is _ b _ y (sym (three_bytes c m n) ∙ e)))
      | inr n ↦ four n (sym (head_is _ b _ y (sym (four_bytes c n) ∙ e)))
    ]
  ]
]

among_1 : (c b : ℕ) → b < 128 → LedBy c b → (b ≤ c) × (c < b + 1)
among_1 c b l (one m e) = (omega (arith, e), omega (arith, e))
among_1 c b l (two m n e) = absurd (let z : ⊥ = omega (arith, e, l) in z)
among_1 c b l (three m n e) = absurd (let z : ⊥ = omega (arith, e, l) in z)
among_1 c b l (four m e) = absurd (let z : ⊥ = omega (arith, e, l) in z)

among_none : (c b : ℕ) → 128 ≤ b → b < 192 → LedBy c b → ⊥
among_none c b k l (one m e) = let z : ⊥ = omega (arith, e, k, m) in z
among_none c b k l (two m n e) = let z : ⊥ = omega (arith, e, l) in z
among_none c b k l (three m n e) = let z : ⊥ = omega (arith, e, l) in z
among_none c b k l (four m e) = let z : ⊥ = omega (arith, e, l) in z

among_2 : (c b : ℕ) → 192 ≤ b → b < 224 → LedBy c b → ((b - 192) * 64 ≤ c) × (c < (b - 192) * 64 + 64)
among_2 c b k l (one m e) = absurd (let z : ⊥ = omega (arith, e, k, m) in z)
among_2 c b k l (two m n e) = let f : b - 192 ≡ c / 64 = omega (arith, e) in (omega (arith, f), omega (arith, f))
among_2 c b k l (three m n e) = absurd (let z : ⊥ = omega (arith, e, l) in z)
among_2 c b k l (four m e) = absurd (let z : ⊥ = omega (arith, e, l) in z)

among_3 : (c b : ℕ) → 224 ≤ b → b < 240 → LedBy c b → ((b - 224) * 4096 ≤ c) × (c < (b - 224) * 4096 + 4096)
among_3 c b k l (one m e) = absurd (let z : ⊥ = omega (arith, e, k, m) in z)
among_3 c b k l (two m n e) = absurd (let z : ⊥ = omega (arith, e, k, n) in z)
among_3 c b k l (three m n e) = let f : b - 224 ≡ c / 4096 = omega (arith, e) in (omega (arith, f), omega (arith, f))
among_3 c b k l (four m e) = absurd (let z : ⊥ = omega (arith, e, l) in z)

among_4 : (c b : ℕ) → 240 ≤ b → LedBy c b → ((b - 240) * 262144 ≤ c) × (c < (b - 240) * 262144 + 262144)
among_4 c b k (one m e) = absurd (let z : ⊥ = omega (arith, e, k, m) in z)
among_4 c b k (two m n e) = absurd (let z : ⊥ = omega (arith, e, k, n) in z)
among_4 c b k (three m n e) = absurd (let z : ⊥ = omega (arith, e, k, n) in z)
among_4 c b k (four m e) = let f : b - 240 ≡ c / 262144 = omega (arith, e) in (omega (arith, f), omega (arith, f))

pub led_low : (b c : ℕ) (y : List ℕ) → b < 128 → encode c ≡ b ∷ y → (b ≤ c) × (c < b + 1)
led_low b c y l e = among_1 c b l (led_by c b y e)

pub led_none : (b c : ℕ) (y : List ℕ) → 128 ≤ b → b < 192 → encode c ≡ b ∷ y → (0 ≤ c) × (c < 0)
led_none b c y k l e = absurd (among_none c b k l (led_by c b y e))

pub led_two : (b c : ℕ) (y : List ℕ) → 192 ≤ b → b < 224 → encode c ≡ b ∷ y → ((b - 192) * 64 ≤ c) × (c < (b - 192) * 64 + 64)
led_two b c y k l e = among_2 c b k l (led_by c b y e)

pub led_three : (b c : ℕ) (y : List ℕ) → 224 ≤ b → b < 240 → encode c ≡ b ∷ y → ((b - 224) * 4096 ≤ c) × (c < (b - 224) * 4096 + 4096)
led_three b c y k l e = among_3 c b k l (led_by c b y e)

pub led_four : (b c : ℕ) (y : List ℕ) → 240 ≤ b → encode c ≡ b ∷ y → ((b - 240) * 262144 ≤ c) × (c < (b - 240) * 262144 + 262144)
led_four b c y k e = among_4 c b k (led_by c b y e)

-- ---- the characters of a class

in_scalar : (rs : List (ℕ × ℕ)) (c : ℕ) → IsTrue (list_all (λ (r : ℕ × ℕ). nat_lt r.1 0xD800 || (nat_le 0xE000 r.0 && nat_lt r.1 0x110000)) rs) → IsTrue (is_in rs c) → IsTrue (scalar c)
in_scalar [] c h k = absurd (false≢true k)
in_scalar (r ∷ rs) c h k =
    let p = and_parts (nat_lt r.1 0xD800 || (nat_le 0xE000 r.0 && nat_lt r.1 0x110000)) _ h in
    elim (or_cases (nat_le r.0 c && nat_le c r.1) (is_in rs c) k) [
      | inl m ↦
          let q = and_parts (nat_le r.0 c) (nat_le c r.1) m in
          let lo : r.0 ≤ c = leb-true r.0 c q.0 in
          let hi : c ≤ r.1 = leb-true c r.1 q.1 in
          elim (or_cases (nat_lt r.1 0xD800) (nat_le 0xE000 r.0 && nat_lt r.1 0x110000) p.0) [
            | inl n ↦ low_scalar c (let z = ltb-true r.1 0xD800 n in omega (arith, z, hi))
            | inr n ↦ let o = and_parts (nat_le 0xE000 r.0) (nat_lt r.1 0x110000) n in high_scalar c (let z = leb-true 0xE000 r.0 o.0 in omega (arith, z, lo)) (let z = ltb-true r.1 0x110000 o.1 in omega (arith, z, hi))
          ]
      | inr m ↦ in_scalar rs c p.1 m
    ]
  where
    low_scalar : (c : ℕ) → c < 0xD800 → IsTrue (scalar c)
    low_scalar c l = rw (lt-ltb c 0xD800 l) refl

    high_scalar : (c : ℕ) → 0xE000 ≤ c → c < 0x110000 → IsTrue (scalar c)
    high_scalar c l m = rw (le-ltb c 0xD800 (omega (arith, l))) (and_from (nat_le 0xE000 c) (nat_lt c 0x110000) (le-leb 0xE000 c l) (lt-ltb c 0x110000 m))

low_is_scalar : (c : ℕ) → c < 128 → IsTrue (scalar c)
low_is_scalar c l = rw (lt-ltb c 0xD800 (omega (arith, l))) refl

word_scalar : (c : ℕ) → IsTrue (is_ascii_alphanumeric c) → IsTrue (scalar c)
word_scalar c h = elim (cases_lt c 128) [ inl l ↦ low_is_scalar c l | inr l ↦ absurd (false≢true (sym (high_alphanumeric c l) ∙ h)) ]

begins_scalar : (c : ℕ) → IsTrue (begins_label c) → IsTrue (scalar c)
begins_scalar c h = elim (or_cases (is_ascii_alphanumeric c) (c == 95 || (c == 58 || is_in base_ranges c)) h) [
  | inl m ↦ word_scalar c m
  | inr m ↦ elim (or_cases (c == 95) (c == 58 || is_in base_ranges c) m) [
    | inl o ↦ low_is_scalar c (let z = eqb-true c 95 o in omega (arith, z))
    | inr o ↦ elim (or_cases (c == 58) (is_in base_ranges c) o) [ inl p ↦ low_is_scalar c (let z = eqb-true c 58 p in omega (arith, z)) | inr p ↦ in_scalar base_ranges c refl p ]
  ]
]

goes_scalar : (c : ℕ) → IsTrue (goes_on_label c) → IsTrue (scalar c)
goes_scalar c h = elim (or_cases (begins_label c) (c == 45 || (c == 46 || is_in further_ranges c)) h) [
  | inl m ↦ begins_scalar c m
  | inr m ↦ elim (or_cases (c == 45) (c == 46 || is_in further_ranges c) m) [
    | inl o ↦ low_is_scalar c (let z = eqb-true c 45 o in omega (arith, z))
    | inr o ↦ elim (or_cases (c == 46) (is_in further_ranges c) o) [ inl p ↦ low_is_scalar c (let z = eqb-true c 46 p in omega (arith, z)) | inr p ↦ in_scalar further_ranges c refl p ]
  ]
]

pub letter_scalar : (c : ℕ) → IsTrue (is_ascii_alphabetic c) → IsTrue (scalar c)
letter_scalar c h = elim (cases_lt c 128) [ inl l ↦ low_is_scalar c l | inr l ↦ absurd (false≢true (sym (high_alphabetic c l) ∙ h)) ]

pub scheme_scalar : (c : ℕ) → IsTrue (is_scheme_byte c) → IsTrue (scalar c)
scheme_scalar c h = elim (cases_lt c 128) [ inl l ↦ low_is_scalar c l | inr l ↦ absurd (false≢true (sym (high_scheme c l) ∙ h)) ]

pub has_scalar : (k : Class) (c : ℕ) → IsTrue (has k c) → IsTrue (scalar c)
has_scalar Any c h = h
has_scalar LabelFirst c h = begins_scalar c h
has_scalar LabelLater c h = goes_scalar c h
has_scalar Comment c h = (and_parts (scalar c) (not (is_line_end c)) h).0
has_scalar Letter c h = letter_scalar c h
has_scalar Scheme c h = elim (or_cases (is_colon c) (is_scheme_byte c) h) [ inl e ↦ low_is_scalar c (let z = eqb-true c 58 e in omega (arith, z)) | inr e ↦ scheme_scalar c e ]
has_scalar Later c h = (and_parts (scalar c) (is_iri_byte c) h).0

-- ---- whether a text begins so

begins_so : (xs needle : List ℕ) → starts_with eqb xs needle ≡ true → (back : List ℕ) × (xs ≡ needle ++ back)
begins_so xs [] h = (xs, refl)
begins_so [] (d ∷ needle) h = absurd (false≢true h)
begins_so (c ∷ xs) (d ∷ needle) h =
    let p = and_parts (eqb d c) (pointwise eqb needle (take (length needle) xs)) h in
    let (back, e) = begins_so xs needle p.1 in
    (back, ap (λ z. c ∷ z) e ∙ ap (λ z. z ∷ (needle ++ back)) (sym (eqb-true d c p.0)))

so_begins : (needle back : List ℕ) → starts_with eqb (needle ++ back) needle ≡ true
so_begins [] back = refl
so_begins (d ∷ needle) back = and_from (eqb d d) (pointwise eqb needle (take (length needle) (needle ++ back))) (eq-eqb d d refl) (so_begins needle back)

pub front_told : (b : Bool) (bytes whole text : List ℕ) → bytes ≡ whole → b ≡ starts_with eqb bytes text → (IsTrue b → (back : List ℕ) × (whole ≡ text ++ back)) × (((back : List ℕ) × (whole ≡ text ++ back)) → IsTrue b)
front_told b bytes whole text e h =
    ((λ k. let (back, i) = begins_so bytes text (sym h ∙ k) in (back, sym e ∙ i)), (λ (back, i). h ∙ ap (λ z. starts_with eqb z text) (e ∙ i) ∙ so_begins text back))

-- ---- the character at the front

pub code_first : (text bytes rest cs : List ℕ) (m n c len : ℕ) → IsTrue (scalars cs) → encodes cs ≡ take n (take m text) → bytes ≡ take n (take m text) → bytes ≡ encode c ++ rest → len ≡ length (encode c) → IsCodeAt text c len
code_first text bytes rest cs m n c len h e f g l = record {
  is_scalar = let (es, i, j) = cons_from_encodes cs rest c (e ∙ sym f ∙ g) in (and_parts (scalar c) (scalars es) (subst (λ z. IsTrue (scalars z)) i h)).0;
  text_is = whole ∙ ap (λ z. encode c ++ z) (sym (ap (drop len) whole ∙ drop_at (encode c) back len (sym l)));
  len_is = l;
}
  where
    back : List ℕ
    back = rest ++ (drop n (take m text) ++ drop m text)

    whole : text ≡ encode c ++ (rest ++ (drop n (take m text) ++ drop m text))
    whole =
        sym (take-append-drop m text) ∙ ap (λ z. z ++ drop m text) (sym (take-append-drop n (take m text)) ∙ ap (λ z. z ++ drop n (take m text)) (sym f ∙ g))
        ∙ append_assoc (encode c ++ rest) (drop n (take m text)) (drop m text)
        ∙ append_assoc (encode c) rest (drop n (take m text) ++ drop m text)

pub some_code : (text : List ℕ) (m n c : ℕ) (back : List ℕ) → m ≡ min (length text) 4 → n ≡ utf8_valid_len (take m text) → IsTrue (scalar c) → text ≡ encode c ++ back → 0 < n
some_code text m n c back hm hn h e =
    let size : length text ≡ length (encode c) + length back = ap length e ∙ length-append (encode c) back in
    let few : length (encode c) ≤ 4 = omega (arith, length-encode c, (len_utf8_bounds c).1) in
    let near : length (encode c) ≤ m = omega (arith, hm, size, few) in
    let within : m ≤ length text = omega (arith, hm) in
    let front : take (length (encode c)) (take m text) ≡ encode c = take_take (length (encode c)) m text near ∙ ap (take (length (encode c))) e ∙ take_at (encode c) back (length (encode c)) refl in
    let most = valid_is_most (take m text) (length (encode c)) (omega (arith, near, length-take-le m text within)) (subst IsUtf8 (sym front) (scalar_is c h)) in
    omega (arith, most, hn, encode_some c)

pub no_code : (text valid : List ℕ) (m n : ℕ) → m ≡ min (length text) 4 → n ≡ utf8_valid_len (take m text) → n ≤ length (take m text) → valid ≡ take n (take m text) → length valid ≡ 0 → (c : ℕ) (back : List ℕ) → IsTrue (scalar c) → text ≡ encode c ++ back → ⊥
no_code text valid m n hm hn w v l c back h e =
    let some = some_code text m n c back hm hn h e in
    let z : ⊥ = omega (arith, some, l, ap length v, length-take-le n (take m text) w) in z

pub nothing_there : (c : ℕ) (back : List ℕ) (text : List ℕ) → length text ≡ 0 → text ≡ encode c ++ back → ⊥
nothing_there c back text l e = let z : ⊥ = omega (arith, l, ap length e, length-append (encode c) back, encode_some c) in z

has_a : (k : Class) → IsTrue (has k 97)
has_a Any = refl
has_a LabelFirst = refl
has_a LabelLater = refl
has_a Comment = refl
has_a Letter = refl
has_a Scheme = refl
has_a Later = refl

pub nothing_begins : (k : Class) (text : List ℕ) → length text ≤ 0 → BeginsCode (has k) text
nothing_begins k [] l = (97, has_a k, (encode 97, refl))
nothing_begins k (c ∷ text) l = absurd (let z : ⊥ = omega (arith, l) in z)
