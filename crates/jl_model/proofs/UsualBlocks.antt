-- Blocks of bytes that are compared with the bytes left out of usual IRIs.
use Rattle.std.proofs.Common.{◌≡◌, ℕ, zero, suc, ◌+◌, ◌-◌, ◌*◌, ◌%◌, ◌<◌, ◌^◌, ltb, leb, Bool, true, false, not, cond, ◌&&◌, eqb, List, [], ◌∷◌, length, map, get_or, replicate, refl, sym, ap, ap₂, subst, ◌∙◌, arith, w8, Fits}
use Rattle.std.proofs.lemmas.Bool.{ne_eqb}
use Rattle.std.proofs.lemmas.Simd.{map-map, mask_l-mod, zip2_splat}
use Rattle.std.proofs.lemmas.List.{length-map}
use Rattle.std.proofs.lemmas.List.FromFn.{get_or-range_with_len, length-range_with_len}
use Rattle.std.proofs.lemmas.List.Sums.{AllPass-from_list_all}
use Rattle.std.specs.List.{list_all, range_with_len}
use lib.Bits.{bit_or}
use lib.Lanes.{zip2, mask_l, top, Each1}
use Rattle.jl_model.specs.UsualIris.{is_usual_byte}

-- comparisons of two bytes: all bits set where they hold
abbrev is_equal : ℕ → ℕ → ℕ
is_equal a b = cond (eqb a b) 255 0

abbrev is_below : ℕ → ℕ → ℕ
is_below a b = cond (ltb a b) 255 0

abbrev is_at_most : ℕ → ℕ → ℕ
is_at_most a b = cond (leb a b) 255 0

-- a byte less another, around 256
abbrev less : ℕ → ℕ → ℕ
less a b = (a + (256 - b)) % 256

-- what the comparisons say of a byte, as the code joins them
abbrev marks : ℕ → ℕ
marks x =
    bit_or (bit_or (bit_or (is_at_most 95 (less x 33)) (is_below (less x 123) 3)) (bit_or (is_equal (bit_or x 2) 62) (is_equal (bit_or x 2) 94)))
    (bit_or (is_equal x 34) (is_equal x 96))

-- an operation on what stands byte by byte
zip-maps : (h : ℕ → ℕ → ℕ) (f g : ℕ → ℕ) (v : List ℕ) → zip2 h (map f v) (map g v) ≡ map (λ x. h (f x) (g x)) v
zip-maps h f g [] = refl
zip-maps h f g (x ∷ xs) = ap (λ r. h (f x) (g x) ∷ r) (zip-maps h f g xs)

-- two comparisons are joined byte by byte
joined : (f g : ℕ → ℕ) (v : List ℕ) {a b : List ℕ} → a ≡ map f v → b ≡ map g v → zip2 bit_or a b ≡ map (λ x. bit_or (f x) (g x)) v
joined f g v p q = ap₂ (zip2 bit_or) p q ∙ zip-maps bit_or f g v

-- what stands byte by byte is compared with one byte
with_byte : (h : ℕ → ℕ → ℕ) (f : ℕ → ℕ) (y : ℕ) (v : List ℕ) {a : List ℕ} → length v ≡ 16 → a ≡ map f v → zip2 h a (replicate 16 y) ≡ map (λ x. h (f x) y) v
with_byte h f y v long p =
    ap (λ a. zip2 h a (replicate 16 y)) p ∙ zip2_splat h (map f v) 16 y (length-map v f ∙ long) ∙ map-map (λ x. h x y) f v

-- one byte is compared with each of a list
splat_left : (h : ℕ → ℕ → ℕ) (y : ℕ) (xs : List ℕ) → zip2 h (replicate (length xs) y) xs ≡ map (h y) xs
splat_left h y [] = refl
splat_left h y (x ∷ xs) = ap (λ r. h y x ∷ r) (splat_left h y xs)

-- one byte is compared with what stands byte by byte
from_byte : (h : ℕ → ℕ → ℕ) (f : ℕ → ℕ) (y : ℕ) (v : List ℕ) {a : List ℕ} → length v ≡ 16 → a ≡ map f v → zip2 h (replicate 16 y) a ≡ map (λ x. h y (f x)) v
from_byte h f y v long p =
    ap (zip2 h (replicate 16 y)) p ∙ ap (λ k. zip2 h (replicate k y) (map f v)) (sym (length-map v f ∙ long)) ∙ splat_left h y (map f v) ∙ map-map (h y) f v

-- whether two answers are equal
abbrev same : Bool → Bool → Bool
same a b = cond a b (not b)

-- then they are
same_is : (a b : Bool) → same a b ≡ true → a ≡ b
same_is true true e = refl
same_is false true e = e
same_is true false e = sym e
same_is false false e = refl

-- whether a byte's mark says if it is usual
abbrev agrees : ℕ → Bool
agrees x = same (not (top 7 (marks x))) (is_usual_byte x)

-- a byte has no mark where it is usual: all 256 are tried
no_marks : (x : ℕ) → x < 256 → not (top 7 (marks x)) ≡ is_usual_byte x
no_marks x small =
    let here = AllPass-from_list_all agrees (range_with_len 0 256) refl x 0 (omega (arith, length-range_with_len 0 256)) in
    let place : get_or (range_with_len 0 256) x 0 ≡ x = omega (arith, get_or-range_with_len 0 256 x 0 small) in
    same_is _ _ (subst (λ y. agrees y ≡ true) place here)

-- a mask of one bit more
pub one_more : (b : Bool) (m : ℕ) → eqb (cond b 1 0 + 2 * m) 0 ≡ (not b && eqb m 0)
one_more false zero = refl
one_more false (suc m) = ne_eqb (0 + 2 * suc m) 0 (λ e. omega arith) ∙ sym (ne_eqb (suc m) 0 (λ e. omega arith))
one_more true m = ne_eqb (1 + 2 * m) 0 (λ e. omega arith)

-- a mask is 0 where no byte has a mark
empty_mask : (v : List ℕ) → Each1 (Fits w8) v → eqb (mask_l (map (λ x. top 7 (marks x)) v)) 0 ≡ list_all is_usual_byte v
empty_mask [] fits = refl
empty_mask (x ∷ xs) fits =
    one_more (top 7 (marks x)) (mask_l (map (λ y. top 7 (marks y)) xs))
    ∙ (λ i. no_marks x fits.0.fits i && empty_mask xs fits.1 i)

-- the marks of a block
pub block_marks : (v : List ℕ) → length v ≡ 16 →
    zip2 bit_or (zip2 bit_or (zip2 bit_or (zip2 is_at_most (replicate 16 95) (zip2 less v (replicate 16 33))) (zip2 is_below (zip2 less v (replicate 16 123)) (replicate 16 3)))
    (zip2 bit_or (zip2 is_equal (zip2 bit_or v (replicate 16 2)) (replicate 16 62)) (zip2 is_equal (zip2 bit_or v (replicate 16 2)) (replicate 16 94))))
    (zip2 bit_or (zip2 is_equal v (replicate 16 34)) (zip2 is_equal v (replicate 16 96)))
    ≡ map marks v
block_marks v long =
    let outside = from_byte is_at_most _ 95 v long (zip2_splat less v 16 33 long) in
    let braces = with_byte is_below _ 3 v long (zip2_splat less v 16 123 long) in
    let pair = zip2_splat bit_or v 16 2 long in
    let pairs = joined _ _ v (with_byte is_equal _ 62 v long pair) (with_byte is_equal _ 94 v long pair) in
    joined _ _ v (joined _ _ v (joined _ _ v outside braces) pairs) (joined _ _ v (zip2_splat is_equal v 16 34 long) (zip2_splat is_equal v 16 96 long))

-- a block is usual where the mask of its marks is 0
pub usual_block : (v marked : List ℕ) → length v ≡ 16 → Each1 (Fits w8) v → marked ≡ map marks v
    → eqb (mask_l (map (top 7) marked) % 2 ^ 64) 0 ≡ list_all is_usual_byte v
usual_block v marked long fits e =
    ap (λ n. eqb n 0) (
    ap (λ l. mask_l (map (top 7) l) % 2 ^ 64) e
    ∙ ap (λ l. mask_l l % 2 ^ 64) (map-map (top 7) marks v)
    ∙ mask_l-mod (map (λ x. top 7 (marks x)) v) 64 (omega (arith, length-map v (λ x. top 7 (marks x)))))
    ∙ empty_mask v fits
