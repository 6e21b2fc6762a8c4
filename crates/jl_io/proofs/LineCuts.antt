-- Bytes cut at their first line feed.
use Rattle.std.proofs.Common.{◌≡◌, ℕ, ◌+◌, ◌<◌, ◌≤◌, zero, suc, true, false, List, [], ◌∷◌, length, take, drop, get_or, ap, ◌∙◌, arith, nat_lt, inl, inr, Some, None, position}
use Rattle.std.proofs.lemmas.Bool.{cases_Bool, cond-true, cond-false, ltb-false}
use Rattle.std.proofs.lemmas.List.Quantifiers.{position-Some}
use Rattle.std.proofs.lemmas.List.Sums.{fails_before_first}
use Rattle.std.specs.List.{position_or_len}
use Rattle.jl_io.specs.WholeLines.{is_line_feed, whole_lines, begun_with}

lines_at : (bytes : List ℕ) (i : ℕ) → i < length bytes → is_line_feed (get_or bytes i 0) ≡ true
    → ((k : ℕ) → k < i → is_line_feed (get_or bytes k 0) ≡ false) → whole_lines bytes ≡ take (suc i) bytes ∷ whole_lines (drop (suc i) bytes)
lines_at [] i within at before = absurd (omega (arith, within))
lines_at (b ∷ bytes) zero within at before = cond-true (is_line_feed b) ((b ∷ []) ∷ whole_lines bytes) (begun_with b (whole_lines bytes)) at
lines_at (b ∷ bytes) (suc i) within at before =
    cond-false (is_line_feed b) ((b ∷ []) ∷ whole_lines bytes) (begun_with b (whole_lines bytes)) (before 0 (omega arith))
    ∙ ap (begun_with b) (lines_at bytes i (omega (arith, within)) at (λ k below. before (suc k) (omega (arith, below))))

-- the first line ends at the first line feed
pub lines_first : (bytes : List ℕ) (i : ℕ) → position is_line_feed bytes ≡ Some i → whole_lines bytes ≡ take (i + 1) bytes ∷ whole_lines (drop (i + 1) bytes)
lines_first bytes i e =
    let h = position-Some is_line_feed bytes i 0 e in
    let next : i + 1 ≡ suc i = omega arith in
    rw next (lines_at bytes i h.0 h.1 h.2)

lines_without : (bytes : List ℕ) → ((k : ℕ) → k < length bytes → is_line_feed (get_or bytes k 0) ≡ false) → whole_lines bytes ≡ []
lines_without [] all = λ i. []
lines_without (b ∷ bytes) all =
    cond-false (is_line_feed b) ((b ∷ []) ∷ whole_lines bytes) (begun_with b (whole_lines bytes)) (all 0 (omega arith))
    ∙ ap (begun_with b) (lines_without bytes (λ k below. all (suc k) (omega (arith, below))))

-- without a line feed there is no whole line
pub lines_none : (bytes : List ℕ) → position is_line_feed bytes ≡ None → whole_lines bytes ≡ []
lines_none bytes e =
    elim (cases_Bool (nat_lt (position_or_len is_line_feed bytes) (length bytes))) [
      | inl h ↦ let there : position is_line_feed bytes ≡ Some (position_or_len is_line_feed bytes) = cond-true (nat_lt (position_or_len is_line_feed bytes) (length bytes)) (Some (position_or_len is_line_feed bytes)) None h in cc
      | inr h ↦
          let past : length bytes ≤ position_or_len is_line_feed bytes = ltb-false (position_or_len is_line_feed bytes) (length bytes) h in
          lines_without bytes (λ k within. fails_before_first is_line_feed bytes k 0 (omega (arith, within, past)))
    ]
