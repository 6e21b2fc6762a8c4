-- Byte strings that are compared block by block.
use Rattle.std.proofs.Common.{◌≡◌, ℕ, zero, suc, cond, ◌+◌, ◌-◌, ◌%◌, ◌^◌, ◌≤◌, eqb, Bool, true, false, not, true≢false, ◌&&◌, List, [], ◌∷◌, ◌++◌, length, take, drop, map, refl, sym, ap, ap₂, ◌∙◌, arith, w8, IsTrue}
use Rattle.std.proofs.lemmas.Bool.{eq-eqb, eqb-true}
use Rattle.std.proofs.lemmas.Simd.{tops_compared, mask_l-mod, length-zip2}
use Rattle.std.proofs.lemmas.List.{take-append-drop, take_all, length-drop}
use Rattle.std.proofs.Math.Seq.{take-add}
use lib.Lanes.{zip2, chunk, mask_l, top}
use Rattle.jl_model.proofs.UsualBlocks.{one_more}

-- whether two bytes differ
abbrev differ : ℕ → ℕ → Bool
differ a b = not (eqb a b)

parts : (a b : Bool) → (a && b) ≡ true → (a ≡ true) × (b ≡ true)
parts true b e = (refl, e)
parts false b e = (e, absurd (true≢false (sym e)))

-- bytes that don't differ are the same
same_byte : (a b : ℕ) → not (differ a b) ≡ true → a ≡ b
same_byte a b e = eqb-true a b (twice (eqb a b) e) where
  twice : (c : Bool) → not (not c) ≡ true → c ≡ true
  twice true e = refl
  twice false e = e

-- the mask of the bytes that differ is 0 where none does
no_marks : (a b : List ℕ) → length a ≡ length b → eqb (mask_l (zip2 differ a b)) 0 ≡ true → a ≡ b
no_marks [] [] l e = refl
no_marks [] (y ∷ ys) l e = absurd (omega (arith, l))
no_marks (x ∷ xs) [] l e = absurd (omega (arith, l))
no_marks (x ∷ xs) (y ∷ ys) l e =
    let both = parts (not (differ x y)) (eqb (mask_l (zip2 differ xs ys)) 0) (sym (one_more (differ x y) (mask_l (zip2 differ xs ys))) ∙ e) in
    ap₂ (λ z zs. z ∷ zs) (same_byte x y both.0) (no_marks xs ys (omega (arith, l)) both.1)

-- no byte differs from itself
alike : (a : List ℕ) → eqb (mask_l (zip2 differ a a)) 0 ≡ true
alike [] = refl
alike (x ∷ xs) =
    one_more (differ x x) (mask_l (zip2 differ xs xs))
    ∙ (λ i. not (not (eq-eqb x x refl i)) && alike xs i)

-- the mask of two blocks
mask : (a b : List ℕ) → length a ≡ 16 → length b ≡ 16 → mask_l (map (top 7) (zip2 (λ x y. cond (differ x y) 255 0) a b)) % 2 ^ 64 ≡ mask_l (zip2 differ a b)
mask a b la lb = ap (λ l. mask_l l % 2 ^ 64) (tops_compared w8 differ a b) ∙ mask_l-mod (zip2 differ a b) 64 (omega (arith, length-zip2 differ a b, la, lb))

-- blocks are the same where no mark stands
pub same_block : (a b : List ℕ) → length a ≡ 16 → length b ≡ 16 →
    (IsTrue (eqb (mask_l (map (top 7) (zip2 (λ x y. cond (differ x y) 255 0) a b)) % 2 ^ 64) 0) → a ≡ b)
    × (a ≡ b → IsTrue (eqb (mask_l (map (top 7) (zip2 (λ x y. cond (differ x y) 255 0) a b)) % 2 ^ 64) 0))
same_block a b la lb = (there, back) where
  there : IsTrue (eqb (mask_l (map (top 7) (zip2 (λ x y. cond (differ x y) 255 0) a b)) % 2 ^ 64) 0) → a ≡ b
  there h = no_marks a b (la ∙ sym lb) (ap (λ n. eqb n 0) (sym (mask a b la lb)) ∙ h)

  back : a ≡ b → IsTrue (eqb (mask_l (map (top 7) (zip2 (λ x y. cond (differ x y) 255 0) a b)) % 2 ^ 64) 0)
  back e = ap (λ n. eqb n 0) (mask a b la lb) ∙ ap (λ z. eqb (mask_l (zip2 differ a z)) 0) (sym e) ∙ alike a

-- a front of a front
shorter : (n i : ℕ) (c : List ℕ) → n ≤ i → take n (take i c) ≡ take n c
shorter zero i c le = refl
shorter (suc n) zero c le = absurd (omega (arith, le))
shorter (suc n) (suc i) [] le = refl
shorter (suc n) (suc i) (x ∷ xs) le = ap (λ l. x ∷ l) (shorter n i xs (omega (arith, le)))

module _ (a b : List ℕ) where
  -- a front that is the same, and the block after it
  pub longer_front : (i : ℕ) → take i a ≡ take i b → chunk i 16 a ≡ chunk i 16 b → take (i + 16) a ≡ take (i + 16) b
  longer_front i front block = take-add i 16 a ∙ ap₂ (λ x y. x ++ y) front block ∙ sym (take-add i 16 b)

  -- a shorter front is the same too
  cut : (n i : ℕ) → n ≤ i → take i a ≡ take i b → take n a ≡ take n b
  cut n i le front = sym (shorter n i a le) ∙ ap (take n) front ∙ shorter n i b le

  -- the last block decides where all bytes before it are the same
  pub last_block : (i : ℕ) → take i a ≡ take i b → length a ≡ length b → i ≤ length a → length a - i ≤ 16 → 16 ≤ length a →
      chunk (length a - 16) 16 a ≡ chunk (length a - 16) 16 b → a ≡ b
  last_block i front lengths within short long block =
      let from = length a - 16 in
      let one : chunk from 16 a ≡ drop from a = take_all 16 (drop from a) (omega (arith, length-drop from a)) in
      let other : chunk from 16 b ≡ drop from b = take_all 16 (drop from b) (omega (arith, length-drop from b, lengths)) in
      sym (take-append-drop from a) ∙ ap₂ (λ x y. x ++ y) (cut from i (omega arith) front) (sym one ∙ block ∙ other) ∙ take-append-drop from b
