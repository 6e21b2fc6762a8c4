-- A JSON string that was made of a text means that text.
use Rattle.std.proofs.Common.{◌≡◌, ℕ, zero, suc, ◌/◌, ◌%◌, ◌<◌, ◌≤◌, ◌==◌, inl, true, ◌&&◌, leb, eqb, nat_lt, [], ◌∷◌, ◌++◌, flat_map, Option, Some, None, IsUtf8, codes, refl, sym, ap, ◌∙◌, subst, arith}
use Rattle.std.proofs.lemmas.Bool.{cond_both, eqb-true, eqb-false, ltb-true, ltb-false}
use Rattle.std.proofs.lemmas.Bool.Decides.{nat_tests}
use Rattle.std.proofs.lemmas.Str.{encode_ascii}
use Rattle.jl_model.specs.JsonStrings.{hex_value, short_escape, Lead, lead_of, Tail, Utf8, Char, Chars, IsString}
use Rattle.jl_model.specs.JsonStrings.Utf8.{none as no_byte, ascii, wide as long}
use Rattle.jl_model.specs.JsonStrings.Char.{plain, wide, short, unicode}
use Rattle.jl_model.specs.JsonStrings.Chars.{none, more}
use Rattle.jl_model.specs.Ren.{hex_digit}
use Rattle.jl_defs.specs.Texts.{Text}
use Rattle.jl_defs.specs.Canon.{string_byte, string_text}
use Rattle.jl_writer.proofs.WholeChars.{utf8_of}
use Rattle.jl_writer.proofs.PlainTexts.{plain_byte}

-- ---- bytes of ASCII

digit_value : (n : ℕ) → n < 16 → hex_value (hex_digit n) ≡ Some n
unfolding hex_value
digit_value n l = grind (arith, nat_tests)

below_32 : (c : ℕ) → c < 32 → Char (c ∷ []) (codes "\\u00" ++ hex_digit (c / 16) ∷ hex_digit (c % 16) ∷ [])
below_32 c l =
    unicode c (
      48,
      0,
      48 ∷ hex_digit (c / 16) ∷ hex_digit (c % 16) ∷ [],
      refl,
      digit_value 0 (omega arith),
      (
        48,
        0,
        hex_digit (c / 16) ∷ hex_digit (c % 16) ∷ [],
        refl,
        digit_value 0 (omega arith),
        (
          hex_digit (c / 16),
          c / 16,
          hex_digit (c % 16) ∷ [],
          refl,
          digit_value (c / 16) (omega arith),
          (hex_digit (c % 16), c % 16, refl, digit_value (c % 16) (omega arith), omega arith),
        ),
      ),
    )
    (inl (omega arith)) (sym (encode_ascii c (omega arith)))

escaped : (c e : ℕ) → c ≡ e → (d : ℕ) → short_escape d ≡ Some e → Char (c ∷ []) (92 ∷ d ∷ [])
escaped c e is d h = short (h ∙ ap Some (sym is))

ascii_char : (c : ℕ) → c < 128 → Char (c ∷ []) (string_byte c)
unfolding short_escape
ascii_char c l =
    cond_both (c == 34) _ _ (λ s. Char (c ∷ []) s) (λ e. escaped c 34 (eqb-true c 34 e) 34 refl) (λ q.
    cond_both (c == 92) _ _ (λ s. Char (c ∷ []) s) (λ e. escaped c 92 (eqb-true c 92 e) 92 refl) (λ b.
    cond_both (c == 8) _ _ (λ s. Char (c ∷ []) s) (λ e. escaped c 8 (eqb-true c 8 e) 98 refl) (λ _.
    cond_both (c == 12) _ _ (λ s. Char (c ∷ []) s) (λ e. escaped c 12 (eqb-true c 12 e) 102 refl) (λ _.
    cond_both (c == 10) _ _ (λ s. Char (c ∷ []) s) (λ e. escaped c 10 (eqb-true c 10 e) 110 refl) (λ _.
    cond_both (c == 13) _ _ (λ s. Char (c ∷ []) s) (λ e. escaped c 13 (eqb-true c 13 e) 114 refl) (λ _.
    cond_both (c == 9) _ _ (λ s. Char (c ∷ []) s) (λ e. escaped c 9 (eqb-true c 9 e) 116 refl) (λ _.
    cond_both (nat_lt c 32) _ _ (λ s. Char (c ∷ []) s) (λ e. below_32 c (ltb-true c 32 e)) (λ h.
    plain (ltb-false c 32 h) l (eqb-false c 34 q) (eqb-false c 92 b)))))))))

-- ---- bytes beyond it

abbrev low_of : Option Lead → ℕ
low_of None = 0
low_of (Some l) = l.low

abbrev IsAbove : ℕ → Option Lead → Type 0
IsAbove c o = (l : Lead) → o ≡ Some l → (128 ≤ c) × (128 ≤ l.low)

rows_between : (a b c : ℕ) → 128 ≤ a → (leb a c && leb c b) ≡ true → 128 ≤ c
rows_between a b c l e = grind (arith, nat_tests)

row_alone : (a c : ℕ) → 128 ≤ a → eqb c a ≡ true → 128 ≤ c
row_alone a c l e = omega (arith, eqb-true c a e)

row : (c : ℕ) (o : Option Lead) → 128 ≤ c → 128 ≤ low_of o → IsAbove c o
row c o h k l q = (h, subst (λ n. 128 ≤ n) (ap low_of q) k)

lead_above : (c : ℕ) → IsAbove c (lead_of c)
unfolding lead_of
lead_above c =
    cond_both (leb 194 c && leb c 223) _ _ (IsAbove c) (λ e. row c _ (rows_between 194 223 c (omega arith) e) (omega arith)) (λ _.
    cond_both (eqb c 224) _ _ (IsAbove c) (λ e. row c _ (row_alone 224 c (omega arith) e) (omega arith)) (λ _.
    cond_both (eqb c 237) _ _ (IsAbove c) (λ e. row c _ (row_alone 237 c (omega arith) e) (omega arith)) (λ _.
    cond_both (leb 225 c && leb c 239) _ _ (IsAbove c) (λ e. row c _ (rows_between 225 239 c (omega arith) e) (omega arith)) (λ _.
    cond_both (eqb c 240) _ _ (IsAbove c) (λ e. row c _ (row_alone 240 c (omega arith) e) (omega arith)) (λ _.
    cond_both (leb 241 c && leb c 243) _ _ (IsAbove c) (λ e. row c _ (rows_between 241 243 c (omega arith) e) (omega arith)) (λ _.
    cond_both (eqb c 244) _ _ (IsAbove c) (λ e. row c _ (row_alone 244 c (omega arith) e) (omega arith)) (λ _ l q. absurd cc)))))))

high_byte : (c : ℕ) → 128 ≤ c → string_byte c ≡ c ∷ []
high_byte c h = plain_byte c (grind (arith, nat_tests))

tail_bytes : (n low high : ℕ) (bytes rest : Text) → 128 ≤ low → Tail n low high bytes → flat_map string_byte (bytes ++ rest) ≡ bytes ++ flat_map string_byte rest
tail_bytes zero low high bytes rest h (b, is, l, g) =
    ap (λ t. flat_map string_byte (t ++ rest)) is ∙ ap (λ s. s ++ flat_map string_byte rest) (high_byte b (omega arith)) ∙ ap (λ t. t ++ flat_map string_byte rest) (sym is)
tail_bytes (suc n) low high bytes rest h (b, bs, is, l, g, t) =
    ap (λ x. flat_map string_byte (x ++ rest)) is ∙ ap (λ s. s ++ flat_map string_byte (bs ++ rest)) (high_byte b (omega arith))
    ∙ ap (λ x. b ∷ x) (tail_bytes n 128 191 bs rest (omega arith) t) ∙ ap (λ x. x ++ flat_map string_byte rest) (sym is)

-- ---- texts

chars_of : {text : Text} → Utf8 text → Chars text (flat_map string_byte text)
chars_of no_byte = none
chars_of (ascii {c = c} {rest = rest} l u) = more (ascii_char c l) (chars_of u) refl refl
chars_of (long {b = b} {whole = whole} l bytes rest f t is u) =
    let above = lead_above b l f in
    let spelled : flat_map string_byte (b ∷ whole) ≡ (b ∷ bytes) ++ flat_map string_byte rest = ap (λ s. s ++ flat_map string_byte whole) (high_byte b above.0)
    ∙ ap (λ x. b ∷ flat_map string_byte x) is ∙ ap (λ x. b ∷ x) (tail_bytes l.later l.low l.high bytes rest above.1 t) in
    more (wide l f t) (chars_of u) (ap (λ x. b ∷ x) is) spelled

pub string_means : (text : Text) → IsUtf8 text → IsString text (string_text text)
unfolding string_text
string_means text u = (flat_map string_byte text ++ 34 ∷ [], refl, (flat_map string_byte text, refl, chars_of (utf8_of text u)))
