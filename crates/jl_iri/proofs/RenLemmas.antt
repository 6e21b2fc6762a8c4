-- The renaming of labels, by its two cases.
use Rattle.std.proofs.Common.{◌≡◌, ℕ, ◌+◌, ◌*◌, ◌/◌, ◌%◌, ◌<◌, ◌≤◌, true, false, not, ◌&&◌, List, [], ◌∷◌, ◌++◌, ap, refl, sym, ◌∙◌, inl, inr, arith, codes, flat_map, nat_lt}
use Rattle.std.proofs.lemmas.Bool.{cases_Bool, and_parts, ltb-true, ltb-false}
use Rattle.std.proofs.Math.Nat.{div-add-mod}
use Rattle.jl_model.specs.Labels.{is_kept_label}
use Rattle.jl_model.specs.Ren.{ren, hex_digit, hex_byte, begins_jl}
use Rattle.jl_iri.specs.Renaming.{IsOneToOne, StandsApart}

pub ren-kept : (label : List ℕ) → (is_kept_label label && not (begins_jl label)) ≡ true → ren label ≡ label
unfolding ren
ren-kept label e = ap (λ b. elim b [ true ↦ label | false ↦ codes "jlx" ++ flat_map hex_byte label ]) e

pub ren-renamed : (label : List ℕ) → (is_kept_label label && not (begins_jl label)) ≡ false → ren label ≡ codes "jlx" ++ flat_map hex_byte label
unfolding ren
ren-renamed label e = ap (λ b. elim b [ true ↦ label | false ↦ codes "jlx" ++ flat_map hex_byte label ]) e

digit_below : (n : ℕ) → nat_lt n 10 ≡ true → hex_digit n ≡ 48 + n
digit_below n e = ap (λ b. elim b [ true ↦ 48 + n | false ↦ 87 + n ]) e

digit_above : (n : ℕ) → nat_lt n 10 ≡ false → hex_digit n ≡ 87 + n
digit_above n e = ap (λ b. elim b [ true ↦ 48 + n | false ↦ 87 + n ]) e

hex_digit-one : (m n : ℕ) → hex_digit m ≡ hex_digit n → m ≡ n
hex_digit-one m n h =
    elim (cases_Bool (nat_lt m 10)) [
      | inl em ↦ let lm : m < 10 = ltb-true m 10 em in let dm : hex_digit m ≡ 48 + m = digit_below m em in
          elim (cases_Bool (nat_lt n 10)) [
            | inl en ↦ let dn : hex_digit n ≡ 48 + n = digit_below n en in omega (arith, h, dm, dn)
            | inr en ↦ let ln : 10 ≤ n = ltb-false n 10 en in let dn : hex_digit n ≡ 87 + n = digit_above n en in omega (arith, h, dm, dn)
          ]
      | inr em ↦ let lm : 10 ≤ m = ltb-false m 10 em in let dm : hex_digit m ≡ 87 + m = digit_above m em in
          elim (cases_Bool (nat_lt n 10)) [
            | inl en ↦ let ln : n < 10 = ltb-true n 10 en in let dn : hex_digit n ≡ 48 + n = digit_below n en in omega (arith, h, dm, dn)
            | inr en ↦ let dn : hex_digit n ≡ 87 + n = digit_above n en in omega (arith, h, dm, dn)
          ]
    ]

hex_byte-one : (c d : ℕ) → hex_digit (c / 16) ≡ hex_digit (d / 16) → hex_digit (c % 16) ≡ hex_digit (d % 16) → c ≡ d
hex_byte-one c d h k =
    sym (div-add-mod c 16)
    ∙ ap (λ q. 16 * q + c % 16) (hex_digit-one (c / 16) (d / 16) h)
    ∙ ap (λ r. 16 * (d / 16) + r) (hex_digit-one (c % 16) (d % 16) k)
    ∙ div-add-mod d 16

head-one : (c d : ℕ) (cs ds : List ℕ) → ◌≡◌ {A = List ℕ} (c ∷ cs) (d ∷ ds) → c ≡ d
head-one c d cs ds h = cc

tail-one : (c d : ℕ) (cs ds : List ℕ) → ◌≡◌ {A = List ℕ} (c ∷ cs) (d ∷ ds) → cs ≡ ds
tail-one c d cs ds h = cc

hexadecimal-one : (a b : List ℕ) → flat_map hex_byte a ≡ flat_map hex_byte b → a ≡ b
hexadecimal-one [] [] h = refl
hexadecimal-one [] (d ∷ ds) h = cc
hexadecimal-one (c ∷ cs) [] h = cc
hexadecimal-one (c ∷ cs) (d ∷ ds) h =
    let rest : hex_digit (c % 16) ∷ flat_map hex_byte cs ≡ hex_digit (d % 16) ∷ flat_map hex_byte ds
    = tail-one (hex_digit (c / 16)) (hex_digit (d / 16)) (hex_digit (c % 16) ∷ flat_map hex_byte cs) (hex_digit (d % 16) ∷ flat_map hex_byte ds) h in
    let first : c ≡ d
    = hex_byte-one c d
    (head-one (hex_digit (c / 16)) (hex_digit (d / 16)) (hex_digit (c % 16) ∷ flat_map hex_byte cs) (hex_digit (d % 16) ∷ flat_map hex_byte ds) h)
    (head-one (hex_digit (c % 16)) (hex_digit (d % 16)) (flat_map hex_byte cs) (flat_map hex_byte ds) rest) in
    ap (λ x. x ∷ cs) first
    ∙ ap (λ xs. d ∷ xs) (hexadecimal-one cs ds (tail-one (hex_digit (c % 16)) (hex_digit (d % 16)) (flat_map hex_byte cs) (flat_map hex_byte ds) rest))

behind_front : (a b : List ℕ) → codes "jlx" ++ a ≡ codes "jlx" ++ b → a ≡ b
behind_front a b h = tail-one 120 120 a b (tail-one 108 108 (120 ∷ a) (120 ∷ b) (tail-one 106 106 (108 ∷ 120 ∷ a) (108 ∷ 120 ∷ b) h))

begins_renamed : (a b : List ℕ) → a ≡ codes "jlx" ++ b → begins_jl a ≡ true
begins_renamed a b e = ap begins_jl e

not_renamed : (a b : List ℕ) → (is_kept_label a && not (begins_jl a)) ≡ true → a ≡ codes "jlx" ++ b → false ≡ true
not_renamed a b k e = ap not (sym (begins_renamed a b e)) ∙ (and_parts (is_kept_label a) (not (begins_jl a)) k).1

pub one_to_one : IsOneToOne
one_to_one a b h =
    elim (cases_Bool (is_kept_label a && not (begins_jl a))) [
      | inl ea ↦ elim (cases_Bool (is_kept_label b && not (begins_jl b))) [
        | inl eb ↦ sym (ren-kept a ea) ∙ h ∙ ren-kept b eb
        | inr eb ↦ let no : false ≡ true = not_renamed a (flat_map hex_byte b) ea (sym (ren-kept a ea) ∙ h ∙ ren-renamed b eb) in cc
      ]
      | inr ea ↦ elim (cases_Bool (is_kept_label b && not (begins_jl b))) [
        | inl eb ↦ let no : false ≡ true = not_renamed b (flat_map hex_byte a) eb (sym (ren-kept b eb) ∙ sym h ∙ ren-renamed a ea) in cc
        | inr eb ↦ hexadecimal-one a b (behind_front (flat_map hex_byte a) (flat_map hex_byte b) (sym (ren-renamed a ea) ∙ h ∙ ren-renamed b eb))
      ]
    ]

pub apart : StandsApart
apart label h =
    elim (cases_Bool (is_kept_label label && not (begins_jl label))) [
      | inl e ↦
          let begins : begins_jl label ≡ true = ap begins_jl (sym (ren-kept label e)) ∙ h in
          let no : false ≡ true = ap not (sym begins) ∙ (and_parts (is_kept_label label) (not (begins_jl label)) e).1 in cc
      | inr e ↦ (flat_map hex_byte label, ren-renamed label e)
    ]
