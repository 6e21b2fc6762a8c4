-- Blanks between tokens, and what is taken at once.
use Rattle.std.proofs.Common.{inl, inr, ◌≡◌, ℕ, suc, ◌+◌, ◌≤◌, true, cond, eqb, Bool, List, [], ◌∷◌, ◌++◌, length, take, refl, sym, ap, ◌∙◌, subst, arith, append_assoc, append-nil, add-zero, Ok}
use Rattle.std.proofs.lemmas.Bool.{false≢true, cases_Bool, eqb-true}
use Rattle.std.proofs.lemmas.List.{length-take, take_all}
use Rattle.std.proofs.lemmas.List.Sums.{prefix_len-le-length}
use Rattle.std.specs.List.{AllByRecursion, prefix_len}
use Rattle.jl_model.specs.JsonText.{IsBlank}
use Rattle.jl_model.specs.declared.tokens.Token.{Token}
use Rattle.jl_token.specs.declared.kinds.Kind.TheVariants as kinds
use Rattle.jl_token.specs.declared.readings.Reading.{Reading}
use Rattle.jl_token.specs.declared.readings.Spot.{Spot}
use Rattle.jl_token.specs.declared.readings.Spot.TheVariants as spots
use Rattle.jl_token.specs.Machine.{Moved, moved, moved_at, kind_of, next, at_value, at_first_item, at_first_key, at_key, at_colon, after_value}
use Rattle.jl_token.specs.Runs.{is_blank, is_between, behind_blanks, Passes, plain_len, is_plain_spot, ran}
use Rattle.jl_token.specs.Stands.{IsAt}
use Rattle.jl_token.proofs.ByteKinds.{kind_blank}
use Rattle.jl_token.proofs.OneByte.{step_is_at}
use Rattle.jl_token.proofs.PlainRuns.{run_is_at, taken_text}
use Rattle.jl_token.proofs.WholeChars.{utf8_of}

pub blanks_within : (bytes : List ℕ) → prefix_len is_blank bytes ≤ length bytes
blanks_within bytes = prefix_len-le-length is_blank bytes

abbrev AllBlank : List ℕ → Type 0
AllBlank = AllByRecursion (λ c. is_blank c ≡ true)

-- ---- what one blank does
blank_says : (c : ℕ) → is_blank c ≡ true → IsBlank c
blank_says c e = elim (cases_Bool (eqb c 32)) [
  | inl h ↦ inl (eqb-true c 32 h)
  | inr a ↦ elim (cases_Bool (eqb c 10)) [
    | inl h ↦ inr (inr (inl (eqb-true c 10 h)))
    | inr b ↦ elim (cases_Bool (eqb c 13)) [
      | inl h ↦ inr (inr (inr (eqb-true c 13 h)))
      | inr d ↦ elim (cases_Bool (eqb c 9)) [
        | inl h ↦ inr (inl (eqb-true c 9 h))
        | inr f ↦ absurd (false≢true (sym (rw (a, b, d, f) refl) ∙ e))
      ]
    ]
  ]
]

abbrev stays : Reading → Spot → Moved
stays s spot = Ok ([], next s spot s.within)

blank_at : (spot : Spot) → is_between spot ≡ true → (s : Reading) (c : ℕ) → kind_of c ≡ kinds.Blank → moved_at true 256 spot s c ≡ stays s spot
blank_at spots.Value b s c k = ap (λ x. at_value 256 s c x) k
blank_at spots.FirstItem b s c k = ap (λ x. at_first_item 256 s c x) k
blank_at spots.FirstKey b s c k = ap (λ x. at_first_key s x) k
blank_at spots.Key b s c k = ap (λ x. at_key s x) k
blank_at spots.Colon b s c k = ap (λ x. at_colon s x) k
blank_at spots.After b s c k = ap (λ x. after_value s x) k
blank_at (spots.InKey place) b s c k = absurd (false≢true b)
blank_at (spots.InText place) b s c k = absurd (false≢true b)
blank_at (spots.InNumber place) b s c k = absurd (false≢true b)
blank_at (spots.InWord place) b s c k = absurd (false≢true b)

blank_moves : (s : Reading) (c : ℕ) → is_between s.spot ≡ true → is_blank c ≡ true → moved true 256 s c ≡ stays s s.spot
unfolding moved
blank_moves s c b e = blank_at s.spot b s c (kind_blank c (blank_says c e))

-- ---- blanks
behind_none : (s : Reading) → s ≡ behind_blanks s 0
behind_none s = ap (λ n. record s { at = n }) (sym (add-zero s.at))

behind_more : (s : Reading) (n : ℕ) → behind_blanks (next s s.spot s.within) n ≡ behind_blanks s (suc n)
behind_more s n = ap (λ k. record s { at = k }) (let a : s.at + 1 + n ≡ s.at + suc n = omega arith in a)

module _ (start : ℕ) (given : List Token) where
  on_blanks : (bytes : List ℕ) → AllBlank bytes → (p : List ℕ) (s : Reading) → is_between s.spot ≡ true → IsAt start p given s → IsAt start (p ++ bytes) given (behind_blanks s (length bytes))
  on_blanks [] a p s b h = subst (λ x. IsAt start (p ++ []) given x) (behind_none s) (subst (λ x. IsAt start x given s) (sym (append-nil p)) h)
  on_blanks (c ∷ cs) a p s b h =
      let m : Reading = next s s.spot s.within in
      let one : IsAt start (p ++ c ∷ []) (given ++ []) m = step_is_at start p given s c h ([], m) (blank_moves s c b a.0) in
      let r : IsAt start ((p ++ c ∷ []) ++ cs) given (behind_blanks m (length cs)) = on_blanks cs a.1 (p ++ c ∷ []) m b (subst (λ x. IsAt start (p ++ c ∷ []) x m) (append-nil given) one) in
      subst (λ x. IsAt start x given (behind_blanks s (suc (length cs)))) (append_assoc p (c ∷ []) cs) (subst (λ x. IsAt start ((p ++ c ∷ []) ++ cs) given x) (behind_more s (length cs)) r)

-- the first bytes that pass a test
front_passes : (f : ℕ → Bool) (bytes : List ℕ) → AllByRecursion (λ c. f c ≡ true) (take (prefix_len f bytes) bytes)
front_passes f [] = tt
front_passes f (c ∷ cs) = elim (cases_Bool (f c)) [
  | inl e ↦
      let n : 1 + prefix_len f cs ≡ suc (prefix_len f cs) = omega arith in
      let i : cond (f c) (1 + prefix_len f cs) 0 ≡ suc (prefix_len f cs) = rw e n in
      subst (λ k. AllByRecursion (λ x. f x ≡ true) (take k (c ∷ cs))) (sym i) (e, front_passes f cs)
  | inr e ↦ subst (λ b. AllByRecursion (λ x. f x ≡ true) (take (cond b (1 + prefix_len f cs) 0) (c ∷ cs))) (sym e) tt
]

pub blanks_pass : (s new : Reading) (n : ℕ) (bytes : List ℕ) → is_between s.spot ≡ true → n ≡ prefix_len is_blank bytes → new ≡ behind_blanks s n → Passes s new (take n bytes)
blanks_pass s new n bytes b e i = λ start p given h.
    let a : AllBlank (take n bytes) = subst (λ k. AllBlank (take k bytes)) (sym e) (front_passes is_blank bytes) in
    let l : length (take n bytes) ≡ n = omega (arith, length-take n bytes, blanks_within bytes, e) in
    subst (λ x. IsAt start (p ++ take n bytes) given x) (ap (λ k. behind_blanks s k) l ∙ sym i) (on_blanks start given (take n bytes) a p s b h)

-- ---- bytes that mean themselves
pub plain_passes : (s new : Reading) (n : ℕ) (bytes : List ℕ) → is_plain_spot s.spot ≡ true → n ≡ plain_len bytes → new ≡ ran s (take n bytes) → Passes s new (take n bytes)
plain_passes s new n bytes b e i = λ start p given h.
    let whole : n ≡ plain_len (take (length bytes) bytes) = e ∙ ap plain_len (sym (take_all (length bytes) bytes (let l : length bytes ≤ length bytes = omega arith in l))) in
    let t = taken_text (length bytes) n bytes whole in
    subst (λ x. IsAt start (p ++ take n bytes) given x) (sym i) (run_is_at start given (take n bytes) t.0 (utf8_of (take n bytes) t.1) p s s.spot refl b h)

pub nothing_passes : (s : Reading) (bytes : List ℕ) → Passes s s (take 0 bytes)
nothing_passes s bytes = λ start p given h. subst (λ x. IsAt start x given s) (sym (append-nil p)) h
