-- Counts of line feeds, byte by byte.
use Rattle.std.proofs.Common.{◌≡◌, ℕ, ◌+◌, ◌-◌, ◌%◌, ◌^◌, ◌≤◌, cond, List, [], ◌∷◌, ◌++◌, length, length-drop, take, drop, sym, ap, ◌∙◌, arith}
use Rattle.std.specs.List.{count_by}
use Rattle.std.proofs.Math.Nat.{mod-add-mod, mod-eq_of_lt}
use Rattle.std.proofs.Math.Seq.{take-add}
use Rattle.std.proofs.lemmas.List.{take-append-drop, take_all}
use Rattle.std.proofs.lemmas.List.Sums.{count_by-le-length, sum_by-append}
use Rattle.jl_top.specs.Blocks.{is_line_feed}

-- a count and one byte more
counted-last : (bytes : List ℕ) (byte : ℕ) → count_by is_line_feed (bytes ++ byte ∷ []) ≡ count_by is_line_feed bytes + cond (is_line_feed byte) 1 0
counted-last bytes byte = let both = sum_by-append (λ b. cond (is_line_feed b) 1 0) bytes (byte ∷ []) in omega (arith, both)

-- the same, where counts begin anew at 2^8
pub one_more : (bytes : List ℕ) (byte count more : ℕ) → count ≡ count_by is_line_feed bytes % 2 ^ 8 → more ≡ (count + cond (is_line_feed byte) 1 0) % 2 ^ 8
    → more ≡ count_by is_line_feed (bytes ++ byte ∷ []) % 2 ^ 8
one_more bytes byte count more e f =
    f ∙ ap (λ n. (n + cond (is_line_feed byte) 1 0) % 2 ^ 8) e ∙ mod-add-mod (count_by is_line_feed bytes) (2 ^ 8) (cond (is_line_feed byte) 1 0)
    ∙ ap (λ n. n % 2 ^ 8) (sym (counted-last bytes byte))

-- few bytes have fewer than 2^8 line feeds
pub all_counted : (bytes : List ℕ) → length bytes ≤ 128 → count_by is_line_feed bytes % 2 ^ 8 ≡ count_by is_line_feed bytes
all_counted bytes short = let fits = count_by-le-length is_line_feed bytes in mod-eq_of_lt (omega (arith, fits, short))

-- the line feeds of a front, and of the bytes behind it
pub counted_then : (bytes : List ℕ) (at n : ℕ) → count_by is_line_feed (take (at + n) bytes) ≡ count_by is_line_feed (take at bytes) + count_by is_line_feed (take n (drop at bytes))
counted_then bytes at n = ap (count_by is_line_feed) (take-add at n bytes) ∙ sum_by-append (λ b. cond (is_line_feed b) 1 0) (take at bytes) (take n (drop at bytes))

-- the line feeds of a front, and of the rest
pub counted_rest : (bytes : List ℕ) (at : ℕ) → count_by is_line_feed bytes ≡ count_by is_line_feed (take at bytes) + count_by is_line_feed (take (length bytes - at) (drop at bytes))
counted_rest bytes at =
    let rest : take (length bytes - at) (drop at bytes) ≡ drop at bytes = take_all (length bytes - at) (drop at bytes) (omega (arith, length-drop at bytes)) in
    ap (count_by is_line_feed) (sym (take-append-drop at bytes)) ∙ sum_by-append (λ b. cond (is_line_feed b) 1 0) (take at bytes) (drop at bytes)
    ∙ ap (λ t. count_by is_line_feed (take at bytes) + count_by is_line_feed t) (sym rest)
