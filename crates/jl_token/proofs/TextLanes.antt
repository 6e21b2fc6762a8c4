-- Lanes of bytes, of which the first mean themselves in a string.
use Rattle.std.proofs.Common.{inl, inr, ◌≡◌, ℕ, suc, ◌+◌, ◌%◌, ◌^◌, ◌<◌, ◌≤◌, Bool, true, false, not, ◌&&◌, cond, eqb, ltb, leb, List, [], ◌∷◌, map, length, drop, replicate, get_or, refl, sym, ap, ap₂, ◌∙◌, arith, w8, Fits}
use Rattle.std.proofs.lemmas.Bool.{cases_Bool, leb-true, leb-false, lt-ltb, le-ltb, eq-eqb, ne_eqb, le-leb, cond-true, cond-false}
use Rattle.std.proofs.Math.Bool.{and-true}
use Rattle.std.proofs.lemmas.List.{length-map}
use Rattle.std.proofs.lemmas.List.Folds.{prefix_len-append}
use Rattle.std.proofs.lemmas.List.Sums.{prefix_len-le-length}
use Rattle.std.proofs.lemmas.Simd.{zip2_splat, zip2_splat_left, zip2_of_maps, mask_l-mod, leading_from_mask_l, trailing_mask_l, chunk-drop, length-chunk}
use Rattle.std.specs.List.{prefix_len}
use lib.Bits.{bit_or}
use lib.Count.{count_trailing_zeros}
use lib.Lanes.{zip2, mask_l, top, chunk}
use Rattle.jl_token.specs.Runs.{is_text, is_text_to}

-- a lane is all ones where its test holds
abbrev lit : Bool → ℕ
lit b = cond b 255 0

-- what the four tests of a lane give together
abbrev tested : ℕ → ℕ → ℕ
tested last c = bit_or (bit_or (bit_or (lit (eqb c 34)) (lit (eqb c 92))) (lit (ltb c 32))) (lit (ltb last c))

-- the lanes that all four tests give
abbrev pub all_tested : List ℕ → ℕ → List ℕ
all_tested lanes last =
    zip2 bit_or (zip2 bit_or (zip2 bit_or (zip2 (λ a b. lit (eqb a b)) lanes (replicate 16 34)) (zip2 (λ a b. lit (eqb a b)) lanes (replicate 16 92))) (zip2 (λ a b. lit (ltb a b)) lanes (replicate 16 32))) (zip2 (λ a b. lit (ltb a b)) (replicate 16 last) lanes)

-- each of them is computed from its own byte
each_tested : (lanes : List ℕ) (last : ℕ) → length lanes ≡ 16 → all_tested lanes last ≡ map (tested last) lanes
each_tested lanes last long =
    zip2_of_maps bit_or _ _ lanes
    (zip2_of_maps bit_or _ _ lanes
    (zip2_of_maps bit_or _ _ lanes (zip2_splat (λ a b. lit (eqb a b)) lanes 16 34 long) (zip2_splat (λ a b. lit (eqb a b)) lanes 16 92 long))
    (zip2_splat (λ a b. lit (ltb a b)) lanes 16 32 long))
    (zip2_splat_left (λ a b. lit (ltb a b)) last 16 lanes long)

-- less is the opposite of at least
less : (a b : ℕ) → ltb a b ≡ not (leb b a)
less a b = elim (cases_Bool (leb b a)) [
  | inl e ↦ le-ltb a b (leb-true b a e) ∙ ap not (sym e)
  | inr e ↦ lt-ltb a b (leb-false b a e) ∙ ap not (sym e)
]

-- the highest bit is set where one of four tests holds
four : (a b c d : Bool) → top 7 (bit_or (bit_or (bit_or (lit a) (lit b)) (lit (not c))) (lit (not d))) ≡ not ((not a && (not b && c)) && d)
four true true true true = refl
four true true true false = refl
four true true false true = refl
four true true false false = refl
four true false true true = refl
four true false true false = refl
four true false false true = refl
four true false false false = refl
four false true true true = refl
four false true true false = refl
four false true false true = refl
four false true false false = refl
four false false true true = refl
four false false true false = refl
four false false false true = refl
four false false false false = refl

-- so it tells the bytes that end a run
told : (last c : ℕ) → top 7 (tested last c) ≡ not (is_text_to last c)
told last c =
    ap₂ (λ x y. top 7 (bit_or (bit_or (bit_or (lit (eqb c 34)) (lit (eqb c 92))) (lit x)) (lit y))) (less c 32) (less last c)
    ∙ four (eqb c 34) (eqb c 92) (leb 32 c) (leb c last)

all_told : (last : ℕ) (lanes : List ℕ) → map (top 7) (map (tested last) lanes) ≡ map (λ c. not (is_text_to last c)) lanes
all_told last [] = refl
all_told last (c ∷ cs) = ap₂ (λ b bs. b ∷ bs) (told last c) (all_told last cs)

-- the mask of the lanes that end a run
masked : (lanes : List ℕ) (last : ℕ) → length lanes ≡ 16 → mask_l (map (top 7) (all_tested lanes last)) % 2 ^ 64 ≡ mask_l (map (λ c. not (is_text_to last c)) lanes)
masked lanes last long =
    ap (λ l. mask_l l % 2 ^ 64) (ap (map (top 7)) (each_tested lanes last long) ∙ all_told last lanes)
    ∙ mask_l-mod (map (λ c. not (is_text_to last c)) lanes) 64 (omega (arith, length-map lanes (λ c. not (is_text_to last c)), long))

twice : (b : Bool) → not (not b) ≡ b
twice true = refl
twice false = refl

-- a test that is turned round twice
same_prefix : (last : ℕ) (cs : List ℕ) → prefix_len (λ c. not (not (is_text_to last c))) cs ≡ prefix_len (is_text_to last) cs
same_prefix last [] = refl
same_prefix last (c ∷ cs) = ap₂ (λ b n. cond b (1 + n) 0) (twice (is_text_to last c)) (same_prefix last cs)

-- where no lane ends a run
pub no_end : (lanes : List ℕ) (last : ℕ) → length lanes ≡ 16 → mask_l (map (top 7) (all_tested lanes last)) % 2 ^ 64 ≡ 0 → 16 ≡ prefix_len (is_text_to last) lanes
no_end lanes last long none =
    sym (sym (same_prefix last lanes) ∙ leading_from_mask_l (λ c. not (is_text_to last c)) lanes (sym (masked lanes last long) ∙ none) ∙ long)

-- where one does
pub first_end : (lanes : List ℕ) (last mask : ℕ) → length lanes ≡ 16 → mask ≡ mask_l (map (top 7) (all_tested lanes last)) % 2 ^ 64 → 0 < mask → count_trailing_zeros 64 mask ≡ prefix_len (is_text_to last) lanes
first_end lanes last mask long is some =
    let m = is ∙ masked lanes last long in
    ap (count_trailing_zeros 64) m
    ∙ trailing_mask_l (λ c. not (is_text_to last c)) 64 lanes (omega (arith, long)) (omega (arith, m, some))
    ∙ same_prefix last lanes

-- ---- lanes that are filled from a list of bytes
module _ (q : ℕ → Bool) (bytes : List ℕ) (from : ℕ) (room : from + 16 ≤ length bytes) where
  -- a run of the bytes is one of the lanes, or goes on behind them
  parted : prefix_len q (drop from bytes) ≡ cond (eqb (prefix_len q (chunk from 16 bytes)) 16) (16 + prefix_len q (drop (from + 16) bytes)) (prefix_len q (chunk from 16 bytes))
  parted =
      ap (prefix_len q) (chunk-drop from 16 bytes) ∙ prefix_len-append q (chunk from 16 bytes) (drop (from + 16) bytes)
      ∙ ap (λ n. cond (eqb (prefix_len q (chunk from 16 bytes)) n) (n + prefix_len q (drop (from + 16) bytes)) (prefix_len q (chunk from 16 bytes))) (length-chunk from 16 bytes room)

  -- it ends in the lanes
  pub ends_within : (more : ℕ) → more ≡ prefix_len q (chunk from 16 bytes) → more < 16 → prefix_len q (drop from bytes) ≡ more
  ends_within more is short =
      let n = prefix_len q (chunk from 16 bytes) in
      parted ∙ cond-false _ _ _ (ne_eqb n 16 (λ (e : n ≡ 16). omega (arith, is, e, short))) ∙ sym is

  -- it goes on behind them
  pub goes_on : (more : ℕ) → more ≡ prefix_len q (chunk from 16 bytes) → 16 ≤ more → prefix_len q (drop from bytes) ≡ 16 + prefix_len q (drop (from + 16) bytes)
  goes_on more is long =
      let n = prefix_len q (chunk from 16 bytes) in
      let most : n ≤ 16 = omega (arith, prefix_len-le-length q (chunk from 16 bytes), length-chunk from 16 bytes room) in
      let all : n ≡ 16 = omega (arith, is, long, most) in
      parted ∙ cond-true _ _ _ (eq-eqb n 16 all)

-- a run ends within the bytes
pub text_within : (last : ℕ) (bytes : List ℕ) → prefix_len (is_text_to last) bytes ≤ length bytes
text_within last bytes = prefix_len-le-length (is_text_to last) bytes

-- no byte is higher than 255
pub any_text : (bytes : List ℕ) → ((k : ℕ) → Fits w8 (get_or bytes k 0)) → prefix_len (is_text_to 255) bytes ≡ prefix_len is_text bytes
any_text [] fits = refl
any_text (c ∷ cs) fits =
    let h : c < 256 = (fits 0).fits in
    ap₂ (λ b n. cond b (1 + n) 0) (ap (λ b. is_text c && b) (le-leb c 255 (omega arith)) ∙ and-true (is_text c)) (any_text cs (λ k. fits (suc k)))
