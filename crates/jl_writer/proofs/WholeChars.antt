-- The UTF-8 of std is that of the table of first bytes, by which strings of a text are read.
use Rattle.std.proofs.Common.{inl, inr, ◌⊎◌, ◌≡◌, ℕ, ◌+◌, ◌/◌, ◌<◌, ◌≤◌, true, false, ◌&&◌, leb, List, [], ◌∷◌, ◌++◌, refl, ap, ◌∙◌, subst, arith, lt-ltb, le-ltb, IsUtf8}
use Rattle.std.proofs.lemmas.Bool.{cases_lt, cases_eq, and_parts, le-leb, lt-leb, ne_eqb}
use Rattle.std.proofs.lemmas.Str.{encode_ascii}
use lib.Utf8.{scalar, scalars, encode, encodes, next, scalar_cases}
use Rattle.jl_model.specs.JsonStrings.{lead, lead_of, Tail, Utf8}
use Rattle.jl_model.specs.JsonStrings.Utf8.{none, ascii, wide}

both : (a b c : ℕ) → a ≤ c → c ≤ b → (leb a c && leb c b) ≡ true
both a b c l h = rw (le-leb a c l, le-leb c b h)

over : (a b v : ℕ) → a ≤ v → b < v → (leb a v && leb v b) ≡ false
over a b v l h = rw (le-leb a v l, lt-leb v b h) refl

-- ---- the table by its rows
lead_two : (b : ℕ) → 194 ≤ b → b ≤ 223 → lead_of b ≡ lead 0 128 191
unfolding lead_of
lead_two b l h = rw (both 194 223 b l h) refl

lead_224 : lead_of 224 ≡ lead 1 160 191
unfolding lead_of
lead_224 = refl

lead_237 : lead_of 237 ≡ lead 1 128 159
unfolding lead_of
lead_237 = refl

lead_three : (b : ℕ) → 225 ≤ b → b ≤ 239 → (b ≡ 237 → ⊥) → lead_of b ≡ lead 1 128 191
unfolding lead_of
lead_three b l h n = rw (over 194 223 b (omega arith) (omega arith), ne_eqb b 224 (λ e. omega arith), ne_eqb b 237 n, both 225 239 b l h) refl

lead_240 : lead_of 240 ≡ lead 2 144 191
unfolding lead_of
lead_240 = refl

lead_four : (b : ℕ) → 241 ≤ b → b ≤ 243 → lead_of b ≡ lead 2 128 191
unfolding lead_of
lead_four b l h = rw (over 194 223 b (omega arith) (omega arith), ne_eqb b 224 (λ e. omega arith), ne_eqb b 237 (λ e. omega arith), over 225 239 b (omega arith) (omega arith), ne_eqb b 240 (λ e. omega arith), both 241 243 b l h) refl

lead_244 : lead_of 244 ≡ lead 2 128 143
unfolding lead_of
lead_244 = refl

-- ---- the bytes of one character
two : (c : ℕ) → 128 ≤ c → c < 2048 → encode c ≡ (192 + c / 64) ∷ next c ∷ []
unfolding encode
two c l h = rw (le-ltb c 128 l, lt-ltb c 2048 h)

three : (c : ℕ) → 2048 ≤ c → c < 65536 → encode c ≡ (224 + c / 4096) ∷ next (c / 64) ∷ next c ∷ []
unfolding encode
three c l h = rw (le-ltb c 128 (omega arith), le-ltb c 2048 l, lt-ltb c 65536 h)

four : (c : ℕ) → 65536 ≤ c → encode c ≡ (240 + c / 262144) ∷ next (c / 4096) ∷ next (c / 64) ∷ next c ∷ []
unfolding encode
four c l = rw (le-ltb c 128 (omega arith), le-ltb c 2048 (omega arith), le-ltb c 65536 l)

-- a character by the row of its first byte
long : (b x n l h : ℕ) (bytes rest : List ℕ) → b ≡ x → lead_of x ≡ lead n l h → Tail n l h bytes → Utf8 rest → Utf8 (b ∷ (bytes ++ rest))
long b x n l h bytes rest i e t u = wide (record { later = n; low = l; high = h }) bytes rest (ap lead_of i ∙ e) t refl u

two_bytes : (c : ℕ) (rest : List ℕ) → 128 ≤ c → c < 2048 → Utf8 rest → Utf8 (encode c ++ rest)
two_bytes c rest l h u =
    let b = 192 + c / 64 in
    rw (two c l h) (long b b 0 128 191 (next c ∷ []) rest refl (lead_two b (omega arith) (omega arith)) (next c, refl, omega arith, omega arith) u)

three_bytes : (c : ℕ) (rest : List ℕ) → 2048 ≤ c → c < 65536 → (c < 55296) ⊎ (57344 ≤ c) → Utf8 rest → Utf8 (encode c ++ rest)
three_bytes c rest l h o u =
    let b = 224 + c / 4096 in
    let y = next (c / 64) in
    let last : Tail 0 128 191 (next c ∷ []) = (next c, refl, omega arith, omega arith) in
    rw (three c l h) (elim (cases_eq b 224) [
      | inl e ↦ long b 224 1 160 191 (y ∷ next c ∷ []) rest e lead_224 (y, next c ∷ [], refl, omega arith, omega arith, last) u
      | inr n ↦ elim (cases_eq b 237) [
        | inl e ↦ long b 237 1 128 159 (y ∷ next c ∷ []) rest e lead_237 (y, next c ∷ [], refl, omega arith, omega (arith, o), last) u
        | inr m ↦ long b b 1 128 191 (y ∷ next c ∷ []) rest refl (lead_three b (omega arith) (omega arith) m) (y, next c ∷ [], refl, omega arith, omega arith, last) u
      ]
    ])

four_bytes : (c : ℕ) (rest : List ℕ) → 65536 ≤ c → c < 1114112 → Utf8 rest → Utf8 (encode c ++ rest)
four_bytes c rest l h u =
    let b = 240 + c / 262144 in
    let y = next (c / 4096) in
    let z = next (c / 64) in
    let last : Tail 0 128 191 (next c ∷ []) = (next c, refl, omega arith, omega arith) in
    let later : Tail 1 128 191 (z ∷ next c ∷ []) = (z, next c ∷ [], refl, omega arith, omega arith, last) in
    rw (four c l) (elim (cases_eq b 240) [
      | inl e ↦ long b 240 2 144 191 (y ∷ z ∷ next c ∷ []) rest e lead_240 (y, z ∷ next c ∷ [], refl, omega arith, omega arith, later) u
      | inr n ↦ elim (cases_eq b 244) [
        | inl e ↦ long b 244 2 128 143 (y ∷ z ∷ next c ∷ []) rest e lead_244 (y, z ∷ next c ∷ [], refl, omega arith, omega arith, later) u
        | inr m ↦ long b b 2 128 191 (y ∷ z ∷ next c ∷ []) rest refl (lead_four b (omega arith) (omega arith)) (y, z ∷ next c ∷ [], refl, omega arith, omega arith, later) u
      ]
    ])

one_char : (c : ℕ) (rest : List ℕ) → scalar c ≡ true → Utf8 rest → Utf8 (encode c ++ rest)
one_char c rest ok u = elim (cases_lt c 128) [
  | inl a ↦ rw (encode_ascii c a) (ascii a u)
  | inr a ↦ elim (cases_lt c 2048) [
    | inl b ↦ two_bytes c rest a b u
    | inr b ↦ elim (cases_lt c 65536) [
      | inl d ↦ three_bytes c rest b d (elim (scalar_cases c ok) [ inl k ↦ inl k | inr k ↦ inr k.0 ]) u
      | inr d ↦ four_bytes c rest d (elim (scalar_cases c ok) [ inl k ↦ absurd (omega arith) | inr k ↦ k.1 ]) u
    ]
  ]
]

of_chars : (cs : List ℕ) → scalars cs ≡ true → Utf8 (encodes cs)
of_chars [] ok = none
of_chars (c ∷ cs) ok = let p = and_parts (scalar c) (scalars cs) ok in one_char c (encodes cs) p.0 (of_chars cs p.1)

pub utf8_of : (bytes : List ℕ) → IsUtf8 bytes → Utf8 bytes
utf8_of bytes u = subst Utf8 u.1.1 (of_chars u.0 u.1.0)
