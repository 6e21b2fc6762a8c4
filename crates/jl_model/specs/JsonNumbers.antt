-- The text of a number (RFC 8259, section 6).
use Rattle.std.specs.Prelude.{◌≡◌, ℕ, ◌≤◌, ◌⊎◌, List, [], ◌∷◌, ◌++◌}
use Rattle.std.specs.List.{AllByRecursion}

-- one part behind another
pub record Joined (one other : List ℕ → Type 0) (text : List ℕ) : Type 0 where
  pub front : List ℕ
  pub back : List ℕ
  pub text_is : text ≡ front ++ back
  pub in_one : one front
  pub in_other : other back

-- DIGIT
abbrev pub IsDigit : ℕ → Type 0
IsDigit c = (48 ≤ c) × (c ≤ 57)

-- *DIGIT
abbrev pub Digits : List ℕ → Type 0
Digits = AllByRecursion IsDigit

-- 1*DIGIT
abbrev pub SomeDigits : List ℕ → Type 0
SomeDigits [] = ⊥
SomeDigits (c ∷ cs) = IsDigit c × Digits cs

-- [ minus ]
abbrev pub Minus : List ℕ → Type 0
Minus [] = Unit {0}
Minus (c ∷ cs) = (c ≡ 45) × (cs ≡ [])

-- int = zero / ( digit1-9 *DIGIT )
abbrev pub Whole : List ℕ → Type 0
Whole [] = ⊥
Whole (c ∷ cs) = ((c ≡ 48) × (cs ≡ [])) ⊎ ((49 ≤ c) × (c ≤ 57) × Digits cs)

-- [ frac ], where frac = decimal-point 1*DIGIT
abbrev pub Fraction : List ℕ → Type 0
Fraction [] = Unit {0}
Fraction (c ∷ cs) = (c ≡ 46) × SomeDigits cs

-- [ minus / plus ] 1*DIGIT
abbrev pub Signed : List ℕ → Type 0
Signed [] = ⊥
Signed (c ∷ cs) = SomeDigits (c ∷ cs) ⊎ (((c ≡ 43) ⊎ (c ≡ 45)) × SomeDigits cs)

-- [ exp ], where exp = e [ minus / plus ] 1*DIGIT
abbrev pub Exponent : List ℕ → Type 0
Exponent [] = Unit {0}
Exponent (c ∷ cs) = ((c ≡ 101) ⊎ (c ≡ 69)) × Signed cs

-- number = [ minus ] int [ frac ] [ exp ]
abbrev pub IsNumber : List ℕ → Type 0
IsNumber = Joined Minus (Joined Whole (Joined Fraction Exponent))
