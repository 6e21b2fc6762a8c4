-- What the kind of a byte says of it, and back.
use Rattle.std.proofs.Common.{◌≡◌, ℕ, ◌≤◌, inl, inr, true, ◌&&◌, eqb, leb, refl, arith}
use Rattle.std.proofs.lemmas.Bool.{cond_both, eqb-true, le-leb}
use Rattle.jl_model.specs.JsonText.{IsBlank}
use Rattle.jl_token.specs.declared.kinds.Kind.{Kind}
use Rattle.jl_token.specs.declared.kinds.Kind.TheVariants as kinds
use Rattle.jl_token.specs.Machine.{kind_of}

abbrev pub KindSays : ℕ → Kind → Type 0
KindSays c kinds.Blank = IsBlank c
KindSays c kinds.Quote = c ≡ 34
KindSays c kinds.OpenArray = c ≡ 91
KindSays c kinds.CloseArray = c ≡ 93
KindSays c kinds.OpenObject = c ≡ 123
KindSays c kinds.CloseObject = c ≡ 125
KindSays c kinds.Comma = c ≡ 44
KindSays c kinds.Colon = c ≡ 58
KindSays c kinds.Minus = c ≡ 45
KindSays c kinds.Zero = c ≡ 48
KindSays c kinds.Digit = (49 ≤ c) × (c ≤ 57)
KindSays c kinds.LetterN = c ≡ 110
KindSays c kinds.LetterT = c ≡ 116
KindSays c kinds.LetterF = c ≡ 102
KindSays c kinds.Other = Unit {0}

digit_says : (c : ℕ) → (leb 49 c && leb c 57) ≡ true → (49 ≤ c) × (c ≤ 57)
digit_says c e = grind arith

pub kind_says : (c : ℕ) → KindSays c (kind_of c)
unfolding kind_of
kind_says c =
    cond_both (leb 49 c && leb c 57) _ _ (KindSays c) (λ e. digit_says c e) (λ _.
    cond_both (eqb c 34) _ _ (KindSays c) (λ e. eqb-true c 34 e) (λ _.
    cond_both (eqb c 91) _ _ (KindSays c) (λ e. eqb-true c 91 e) (λ _.
    cond_both (eqb c 93) _ _ (KindSays c) (λ e. eqb-true c 93 e) (λ _.
    cond_both (eqb c 123) _ _ (KindSays c) (λ e. eqb-true c 123 e) (λ _.
    cond_both (eqb c 125) _ _ (KindSays c) (λ e. eqb-true c 125 e) (λ _.
    cond_both (eqb c 44) _ _ (KindSays c) (λ e. eqb-true c 44 e) (λ _.
    cond_both (eqb c 58) _ _ (KindSays c) (λ e. eqb-true c 58 e) (λ _.
    cond_both (eqb c 32) _ _ (KindSays c) (λ e. inl (eqb-true c 32 e)) (λ _.
    cond_both (eqb c 9) _ _ (KindSays c) (λ e. inr (inl (eqb-true c 9 e))) (λ _.
    cond_both (eqb c 10) _ _ (KindSays c) (λ e. inr (inr (inl (eqb-true c 10 e)))) (λ _.
    cond_both (eqb c 13) _ _ (KindSays c) (λ e. inr (inr (inr (eqb-true c 13 e)))) (λ _.
    cond_both (eqb c 45) _ _ (KindSays c) (λ e. eqb-true c 45 e) (λ _.
    cond_both (eqb c 48) _ _ (KindSays c) (λ e. eqb-true c 48 e) (λ _.
    cond_both (eqb c 110) _ _ (KindSays c) (λ e. eqb-true c 110 e) (λ _.
    cond_both (eqb c 116) _ _ (KindSays c) (λ e. eqb-true c 116 e) (λ _.
    cond_both (eqb c 102) _ _ (KindSays c) (λ e. eqb-true c 102 e) (λ _. tt)))))))))))))))))

pub kind_digit : (c : ℕ) → 49 ≤ c → c ≤ 57 → kind_of c ≡ kinds.Digit
unfolding kind_of
kind_digit c l h = rw (le-leb 49 c l, le-leb c 57 h)

pub kind_blank : (c : ℕ) → IsBlank c → kind_of c ≡ kinds.Blank
unfolding kind_of
kind_blank c (inl e) = rw e
kind_blank c (inr (inl e)) = rw e
kind_blank c (inr (inr (inl e))) = rw e
kind_blank c (inr (inr (inr e))) = rw e

pub kind_34 : kind_of 34 ≡ kinds.Quote
unfolding kind_of
kind_34 = refl

pub kind_91 : kind_of 91 ≡ kinds.OpenArray
unfolding kind_of
kind_91 = refl

pub kind_93 : kind_of 93 ≡ kinds.CloseArray
unfolding kind_of
kind_93 = refl

pub kind_123 : kind_of 123 ≡ kinds.OpenObject
unfolding kind_of
kind_123 = refl

pub kind_125 : kind_of 125 ≡ kinds.CloseObject
unfolding kind_of
kind_125 = refl

pub kind_44 : kind_of 44 ≡ kinds.Comma
unfolding kind_of
kind_44 = refl

pub kind_58 : kind_of 58 ≡ kinds.Colon
unfolding kind_of
kind_58 = refl

pub kind_45 : kind_of 45 ≡ kinds.Minus
unfolding kind_of
kind_45 = refl

pub kind_48 : kind_of 48 ≡ kinds.Zero
unfolding kind_of
kind_48 = refl

pub kind_110 : kind_of 110 ≡ kinds.LetterN
unfolding kind_of
kind_110 = refl

pub kind_116 : kind_of 116 ≡ kinds.LetterT
unfolding kind_of
kind_116 = refl

pub kind_102 : kind_of 102 ≡ kinds.LetterF
unfolding kind_of
kind_102 = refl
