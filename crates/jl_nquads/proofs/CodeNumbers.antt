-- The number that hexadecimal digits make, digit by digit.
use Rattle.std.proofs.Common.{◌≡◌, ℕ, ◌+◌, ◌*◌, ◌<◌, ◌≤◌, Bool, true, false, ◌&&◌, cond, leb, List, [], ◌∷◌, length, drop, get_or, Option, Some, None, is_some, unwrap_or, refl, sym, ap, ◌∙◌, arith, drop-cons, add-one}
use Rattle.std.proofs.lemmas.Bool.{lt-leb}
use Rattle.std.specs.List.{list_all}
use Rattle.jl_model.specs.JsonStrings.{hex_value}
use Rattle.jl_model.specs.LineTokens.{is_hex_digit, hex_number}
use Rattle.jl_nquads.specs.EscapesRead.{code_value}

digit : (n d v : ℕ) (ds : List ℕ) → hex_value d ≡ Some v → code_value n (d ∷ ds) ≡ code_value (n * 16 + v) ds
digit n d v ds e =
    ap (λ (o : Option ℕ). cond ((is_some o && list_all is_hex_digit ds) && leb (hex_number (n * 16 + unwrap_or o 0) ds) 1114111) (Some (hex_number (n * 16 + unwrap_or o 0) ds)) None) e

grows : (n : ℕ) (ds : List ℕ) → n ≤ hex_number n ds
grows n [] = omega arith
grows n (d ∷ ds) = let k = grows (n * 16 + unwrap_or (hex_value d) 0) ds in omega (arith, k)

high : (n : ℕ) (ds : List ℕ) → 1114111 < n → code_value n ds ≡ None
high n ds l = ap (λ b. cond (list_all is_hex_digit ds && b) (Some (hex_number n ds)) None) (lt-leb (hex_number n ds) 1114111 (let k = grows n ds in omega (arith, k, l))) ∙ none (list_all is_hex_digit ds)
  where
    none : (b : Bool) → cond (b && false) (Some (hex_number n ds)) None ≡ None
    none true = refl
    none false = refl

at_place : (digits : List ℕ) (i : ℕ) → i < length digits → drop i digits ≡ get_or digits i 0 ∷ drop (i + 1) digits
at_place digits i l = drop-cons digits i 0 l ∙ ap (λ n. get_or digits i 0 ∷ drop n digits) (sym (add-one i))

pub code_more : (before : ℕ) (digits : List ℕ) (i n v : ℕ) → i < length digits → hex_value (get_or digits i 0) ≡ Some v → code_value before digits ≡ code_value n (drop i digits) → code_value before digits ≡ code_value (n * 16 + v) (drop (i + 1) digits)
code_more before digits i n v l e h = h ∙ ap (code_value n) (at_place digits i l) ∙ digit n (get_or digits i 0) v (drop (i + 1) digits) e

pub code_too_high : (before : ℕ) (digits : List ℕ) (i n v : ℕ) → i < length digits → hex_value (get_or digits i 0) ≡ Some v → 1114111 < n * 16 + v → code_value before digits ≡ code_value n (drop i digits) → code_value before digits ≡ None
code_too_high before digits i n v l e g h = code_more before digits i n v l e h ∙ high (n * 16 + v) (drop (i + 1) digits) g
