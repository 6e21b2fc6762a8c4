-- Two ways to say how the bytes of a string are escaped.
use Rattle.std.proofs.Common.{◌≡◌, ℕ, ◌+◌, ◌/◌, ◌%◌, ◌==◌, ◌||◌, Bool, true, false, cond, List, [], ◌∷◌, ◌++◌, flat_map, refl, ap, ap₂, ◌∙◌, arith, nat_lt, codes}
use Rattle.std.proofs.lemmas.Bool.Decides.{nat_tests}
use Rattle.std.specs.Char.{digit_char}
use Rattle.jl_model.specs.Ren.{hex_digit}
use Rattle.jl_defs.specs.Canon.{string_byte, string_text}
use Rattle.json.specs.Print.{escape_byte, quoted}

hex_same : (n : ℕ) → digit_char n ≡ hex_digit n
hex_same n = elim (nat_lt n 10) as (λ b. cond b (48 + n) (87 + n) ≡ elim b [ true ↦ 48 + n | false ↦ 87 + n ]) [ true ↦ refl | false ↦ refl ]

same_by : (q b bs ff lf cr tab low : Bool) (c x y : ℕ) → c ≡ (cond q 34 (cond b 92 c))
    → cond (nat_lt 0 (cond (q || b) c (cond bs 98 (cond ff 102 (cond lf 110 (cond cr 114 (cond tab 116 0)))))))
    (92 ∷ cond (q || b) c (cond bs 98 (cond ff 102 (cond lf 110 (cond cr 114 (cond tab 116 0))))) ∷ [])
    (cond low (92 ∷ 117 ∷ 48 ∷ 48 ∷ x ∷ y ∷ []) (c ∷ []))
    ≡ cond q (codes "\\\"") (cond b (codes "\\\\") (cond bs (codes "\\b") (cond ff (codes "\\f") (cond lf (codes "\\n") (cond cr (codes "\\r") (cond tab (codes "\\t") (cond low (codes "\\u00" ++ x ∷ y ∷ []) (c ∷ []))))))))
same_by true b bs ff lf cr tab low c x y e = rw e refl
same_by false true bs ff lf cr tab low c x y e = rw e refl
same_by false false true ff lf cr tab low c x y e = refl
same_by false false false true lf cr tab low c x y e = refl
same_by false false false false true cr tab low c x y e = refl
same_by false false false false false true tab low c x y e = refl
same_by false false false false false false true low c x y e = refl
same_by false false false false false false false true c x y e = refl
same_by false false false false false false false false c x y e = refl

quote_or_backslash : (c : ℕ) → c ≡ cond (c == 34) 34 (cond (c == 92) 92 c)
quote_or_backslash c = grind (arith, nat_tests)

pub byte_same : (c : ℕ) → escape_byte c ≡ string_byte c
unfolding escape_byte
byte_same c =
    same_by (c == 34) (c == 92) (c == 8) (c == 12) (c == 10) (c == 13) (c == 9) (nat_lt c 32) c (digit_char (c / 16)) (digit_char (c % 16)) (quote_or_backslash c)
    ∙ ap₂ (λ x y. cond (c == 34) (codes "\\\"") (cond (c == 92) (codes "\\\\") (cond (c == 8) (codes "\\b") (cond (c == 12) (codes "\\f") (cond (c == 10) (codes "\\n") (cond (c == 13) (codes "\\r") (cond (c == 9) (codes "\\t") (cond (nat_lt c 32) (codes "\\u00" ++ x ∷ y ∷ []) (c ∷ [])))))))))
    (hex_same (c / 16)) (hex_same (c % 16))

bytes_same : (text : List ℕ) → flat_map escape_byte text ≡ flat_map string_byte text
bytes_same [] = refl
bytes_same (c ∷ text) = ap₂ (λ a b. a ++ b) (byte_same c) (bytes_same text)

pub string_same : (text : List ℕ) → quoted text ≡ string_text text
unfolding string_text
string_same text = ap (λ b. 34 ∷ (b ++ 34 ∷ [])) (bytes_same text)
