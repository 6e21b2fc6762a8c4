-- The bound of bytes that begin nothing readable: in a string that is still open as if it were readable, and elsewhere
-- that of the bytes without the last one. For each of these bytes it is one number.
use Rattle.std.proofs.Common.{subst, ◌≡◌, ℕ, ◌+◌, ◌≤◌, ◌⊎◌, inl, inr, true, false, List, [], ◌∷◌, ◌++◌, length, drop, Some, None, codes, refl, sym, ap, ◌∙◌, arith}
use Rattle.std.specs.Prelude.{IsTrue}
use Rattle.jl_model.specs.declared.scalars.Scalar.{Scalar}
use Rattle.jl_model.specs.declared.scalars.Scalar.TheVariants as scalars
use Rattle.jl_model.specs.declared.tokens.Token.{Token}
use Rattle.jl_model.specs.declared.orders.Order.TheVariants.{Streaming}
use Rattle.jl_model.specs.JsonTree.{Tree, scalar, array, object}
use Rattle.jl_model.specs.JsonNumbers.{IsNumber, IsDigit, Minus, Joined, Whole, Fraction, Exponent}
use Rattle.jl_model.specs.JsonStrings.{lead_of, Char, plain, wide, short, unicode, pair, Chars, none, more, IsString}
use Rattle.jl_model.specs.JsonText.{Then, Sign, Blanks, IsBlank, IsScalar, ValueText, Begins}
use Rattle.jl_defs.specs.Settings.{Settings}
use Rattle.jl_defs.specs.OpenTree.{First, quote, sign, brace, bracket, Open, unread, in_scalar, in_array, in_object, in_key, in_member, whole}
use Rattle.jl_defs.specs.OpenText.{Language, Behind, FirstOf, OpenText, Opens}
use Rattle.jl_defs.specs.Bound.{bound}
use Rattle.jl_defs.specs.Documents.{string_at, is_open_string, BrokenString, BoundOf, readable, in_string, broken}
use Rattle.jl_defs.proofs.RowWords.{settings, bound_of}

head_is : (c d : ℕ) (t u : List ℕ) → c ∷ t ≡ d ∷ u → c ≡ d
head_is c d t u e = cc

tail_is : (c d : ℕ) (t u : List ℕ) → c ∷ t ≡ d ∷ u → t ≡ u
tail_is c d t u e = cc

-- ---- how texts begin

-- the first bytes of values
abbrev Starts : ℕ → Type 0
Starts c = (c ≡ 34) ⊎ (c ≡ 45) ⊎ IsDigit c ⊎ (c ≡ 110) ⊎ (c ≡ 116) ⊎ (c ≡ 102) ⊎ (c ≡ 91) ⊎ (c ≡ 123)

-- what doesn't begin with a blank has none before it
skip : (L : Language) (at : ℕ) (ts : List Token) (c : ℕ) (r : List ℕ) → (IsBlank c → ⊥) → Then Blanks L at ts (c ∷ r) → (us : List Token) × L at us (c ∷ r)
skip L at ts c r n t = go t.front t.text_is t.in_first t.in_second
  where
    go : (front : List ℕ) → c ∷ r ≡ front ++ t.back → Blanks at t.front_tokens front → L (at + length front) t.back_tokens t.back → (us : List Token) × L at us (c ∷ r)
    go [] e b l = let z : at + 0 ≡ at = omega arith in (t.back_tokens, subst (λ n. L n t.back_tokens (c ∷ r)) z (subst (L (at + 0) t.back_tokens) (sym e) l))
    go (d ∷ ds) e b l = absurd (n (subst IsBlank (sym (head_is c d r (ds ++ t.back) e)) b.blank.0))

whole_starts : (c : ℕ) (r : List ℕ) → Joined Whole (Joined Fraction Exponent) (c ∷ r) → IsDigit c
whole_starts c r n = go n.front n.text_is n.in_one
  where
    go : (front : List ℕ) → c ∷ r ≡ front ++ n.back → Whole front → IsDigit c
    go [] e w = absurd w
    go (d ∷ ds) e (inl (z, k)) = let i : c ≡ d = head_is c d r (ds ++ n.back) e in (omega (arith, i, z), omega (arith, i, z))
    go (d ∷ ds) e (inr (l, u, k)) = let i : c ≡ d = head_is c d r (ds ++ n.back) e in (omega (arith, i, l), omega (arith, i, u))

number_starts : (c : ℕ) (r : List ℕ) → IsNumber (c ∷ r) → (c ≡ 45) ⊎ IsDigit c
number_starts c r n = go n.front n.back n.text_is n.in_one n.in_other
  where
    go : (front back : List ℕ) → c ∷ r ≡ front ++ back → Minus front → Joined Whole (Joined Fraction Exponent) back → (c ≡ 45) ⊎ IsDigit c
    go [] back e m w = inr (whole_starts c r (subst (Joined Whole (Joined Fraction Exponent)) (sym e) w))
    go (d ∷ ds) back e m w = inl (head_is c d r (ds ++ back) e ∙ m.0)

scalar_starts : (v : Scalar) (c : ℕ) (r : List ℕ) → IsScalar v (c ∷ r) → Starts c
scalar_starts scalars.Null c r e = inr (inr (inr (inl (head_is c 110 r (codes "ull") e))))
scalar_starts (scalars.Bool true) c r e = inr (inr (inr (inr (inl (head_is c 116 r (codes "rue") e)))))
scalar_starts (scalars.Bool false) c r e = inr (inr (inr (inr (inr (inl (head_is c 102 r (codes "alse") e))))))
scalar_starts (scalars.Number digits) c r (e, n) = elim (number_starts c r (subst IsNumber (sym e) n)) [ inl m ↦ inr (inl m) | inr d ↦ inr (inr (inl d)) ]
scalar_starts (scalars.Str meant) c r (rest, e, q) = inl (head_is c 34 r rest e)

no_number : IsNumber [] → ⊥
no_number n = go n.front n.back n.text_is n.in_other
  where
    none_whole : (front back : List ℕ) → [] ≡ front ++ back → Whole front → ⊥
    none_whole [] back e w = w
    none_whole (d ∷ ds) back e w = cc

    go : (front back : List ℕ) → [] ≡ front ++ back → Joined Whole (Joined Fraction Exponent) back → ⊥
    go [] [] e w = none_whole w.front w.back w.text_is w.in_one
    go [] (b ∷ bs) e w = cc
    go (d ∷ ds) back e w = cc

no_scalar : (v : Scalar) → IsScalar v [] → ⊥
no_scalar scalars.Null e = cc
no_scalar (scalars.Bool true) e = cc
no_scalar (scalars.Bool false) e = cc
no_scalar (scalars.Number digits) (e, n) = no_number (subst IsNumber (sym e) n)
no_scalar (scalars.Str meant) (rest, e, q) = cc

sign_first : (byte : ℕ) (made : ℕ → List Token) (L : Language) (at : ℕ) (ts : List Token) (c : ℕ) (r : List ℕ) → Then (Sign byte made) L at ts (c ∷ r) → c ≡ byte
sign_first byte made L at ts c r t = head_is c byte r t.back (t.text_is ∙ ap (λ z. z ++ t.back) t.in_first.text_is)

no_sign : (byte : ℕ) (made : ℕ → List Token) (L : Language) (at : ℕ) (ts : List Token) → Then (Sign byte made) L at ts [] → ⊥
no_sign byte made L at ts t = let e : [] ≡ byte ∷ t.back = t.text_is ∙ ap (λ z. z ++ t.back) t.in_first.text_is in cc

no_value : (room : ℕ) (v : Tree) (at : ℕ) (ts : List Token) → ValueText true room v at ts [] → ⊥
no_value room (scalar place w) at ts p = no_scalar w p.spelled
no_value room (array place xs) at ts p = no_sign 91 _ _ at ts p.spelled
no_value room (object place ms) at ts p = no_sign 123 _ _ at ts p.spelled

value_starts : (room : ℕ) (v : Tree) (at : ℕ) (ts : List Token) (c : ℕ) (r : List ℕ) → ValueText true room v at ts (c ∷ r) → Starts c
value_starts room (scalar place w) at ts c r p = scalar_starts w c r p.spelled
value_starts room (array place xs) at ts c r p = inr (inr (inr (inr (inr (inr (inl (sign_first 91 _ _ at ts c r p.spelled)))))))
value_starts room (object place ms) at ts c r p = inr (inr (inr (inr (inr (inr (inr (sign_first 123 _ _ at ts c r p.spelled)))))))

-- a value that begins with this byte, and what comes after it
record ValueAt (room : ℕ) (v : Tree) (at c : ℕ) (r : List ℕ) : Type 0 where
  tokens : List Token
  front : List ℕ
  back : List ℕ
  value : ValueText true room v at tokens (c ∷ front)
  rest_is : r ≡ front ++ back

value_at : (room : ℕ) (v : Tree) (L : Language) (at : ℕ) (ts : List Token) (c : ℕ) (r : List ℕ) → (IsBlank c → ⊥) → Then Blanks (Then (ValueText true room v) L) at ts (c ∷ r) → ValueAt room v at c r
value_at room v L at ts c r n t = let s = skip (Then (ValueText true room v) L) at ts c r n t in go s.1.front s.1.back s.1.text_is s.1.front_tokens s.1.in_first
  where
    go : (front back : List ℕ) → c ∷ r ≡ front ++ back → (us : List Token) → ValueText true room v at us front → ValueAt room v at c r
    go [] back e us p = absurd (no_value room v at us p)
    go (d ∷ ds) back e us p = record {
      tokens = us;
      front = ds;
      back = back;
      value = subst (λ z. ValueText true room v at us (z ∷ ds)) (sym (head_is c d r (ds ++ back) e)) p;
      rest_is = tail_is c d r (ds ++ back) e;
    }

-- ---- a control in a string

lead_one : lead_of 1 ≡ None
unfolding lead_of
lead_one = refl

char_first : (m s : List ℕ) → Char m s → (c : ℕ) (t : List ℕ) → s ≡ c ∷ t → c ≡ 1 → ⊥
char_first m s (plain {c = d} lo hi n o) c t e i = let j : d ≡ c = head_is d c [] t e in omega (arith, j, i, lo)
char_first m s (wide {b = b} {bytes = bytes} l f g) c t e i =
    let j : b ≡ 1 = head_is b c bytes t e ∙ i in
    let k : None ≡ Some l = sym lead_one ∙ ap lead_of (sym j) ∙ f in cc
char_first m s (short {e = x} f) c t e i = let j : 92 ≡ c = head_is 92 c (x ∷ []) t e in omega (arith, j, i)
char_first m s (unicode {ds = ds} v d n f) c t e i = let j : 92 ≡ c = head_is 92 c (117 ∷ ds) t e in omega (arith, j, i)
char_first m s (pair {ts = ts} v w d h g l f k) c t e i = let j : 92 ≡ c = head_is 92 c (117 ∷ ts) t e in omega (arith, j, i)

char_some : (m s : List ℕ) → Char m s → s ≡ [] → ⊥
char_some m s (plain {c = d} lo hi n o) e = cc
char_some m s (wide {b = b} {bytes = bytes} l f g) e = cc
char_some m s (short {e = x} f) e = cc
char_some m s (unicode {ds = ds} v d n f) e = cc
char_some m s (pair {ts = ts} v w d h g l f k) e = cc

chars_first : (m t : List ℕ) → Chars m t → (c : ℕ) (r : List ℕ) → t ≡ c ∷ r → c ≡ 1 → ⊥
chars_first m t none c r e i = cc
chars_first m t (more {m = x} {s = s} {ss = ss} k ks f g) c r e i = go s k (sym e ∙ g)
  where
    go : (s : List ℕ) → Char x s → c ∷ r ≡ s ++ ss → ⊥
    go [] k h = char_some x [] k refl
    go (d ∷ ds) k h = char_first x (d ∷ ds) k d ds refl (sym (head_is c d r (ds ++ ss) h) ∙ i)

no_control : (meant front back r : List ℕ) → IsString meant (34 ∷ front) → 1 ∷ r ≡ front ++ back → ⊥
no_control meant front back r (rest, e, (body, f, chars)) g = go body chars (g ∙ ap (λ z. z ++ back) (tail_is 34 34 front rest e ∙ f))
  where
    go : (body : List ℕ) → Chars meant body → 1 ∷ r ≡ (body ++ 34 ∷ []) ++ back → ⊥
    go [] k h = let j : 1 ≡ 34 = head_is 1 34 r back h in omega (arith, j)
    go (b ∷ bs) k h = chars_first meant (b ∷ bs) k b bs refl (sym (head_is 1 b r ((bs ++ 34 ∷ []) ++ back) h))

-- ---- what the bytes of the rows begin

no_blank : IsBlank 34 → ⊥
no_blank (inl e) = omega (arith, e)
no_blank (inr (inl e)) = omega (arith, e)
no_blank (inr (inr (inl e))) = omega (arith, e)
no_blank (inr (inr (inr e))) = omega (arith, e)

brace_is_no_blank : IsBlank 125 → ⊥
brace_is_no_blank (inl e) = omega (arith, e)
brace_is_no_blank (inr (inl e)) = omega (arith, e)
brace_is_no_blank (inr (inr (inl e))) = omega (arith, e)
brace_is_no_blank (inr (inr (inr e))) = omega (arith, e)

no_start : Starts 125 → ⊥
no_start (inl e) = omega (arith, e)
no_start (inr (inl e)) = omega (arith, e)
no_start (inr (inr (inl (l, u)))) = omega (arith, u)
no_start (inr (inr (inr (inl e)))) = omega (arith, e)
no_start (inr (inr (inr (inr (inl e))))) = omega (arith, e)
no_start (inr (inr (inr (inr (inr (inl e)))))) = omega (arith, e)
no_start (inr (inr (inr (inr (inr (inr (inl e))))))) = omega (arith, e)
no_start (inr (inr (inr (inr (inr (inr (inr e))))))) = omega (arith, e)

-- a scalar that begins with a quote is a string
quoted : (v : Scalar) (r : List ℕ) → IsScalar v (34 ∷ r) → (meant : List ℕ) × (v ≡ scalars.Str meant) × IsString meant (34 ∷ r)
quoted scalars.Null r e = let j : 34 ≡ 110 = head_is 34 110 r (codes "ull") e in absurd (omega (arith, j))
quoted (scalars.Bool true) r e = let j : 34 ≡ 116 = head_is 34 116 r (codes "rue") e in absurd (omega (arith, j))
quoted (scalars.Bool false) r e = let j : 34 ≡ 102 = head_is 34 102 r (codes "alse") e in absurd (omega (arith, j))
quoted (scalars.Number digits) r (e, n) = elim (number_starts 34 r (subst IsNumber (sym e) n)) [ inl m ↦ absurd (omega (arith, m)) | inr d ↦ absurd (let l : 48 ≤ 34 = d.0 in omega (arith, l)) ]
quoted (scalars.Str meant) r s = (meant, refl, s)

-- a quote and a control begin no scalar and no value
no_such_scalar : (v : Scalar) (front back r : List ℕ) → IsScalar v (34 ∷ front) → 1 ∷ r ≡ front ++ back → ⊥
no_such_scalar v front back r s e = let q = quoted v front s in no_control q.0 front back r q.2 e

no_such_value : (room : ℕ) (v : Tree) (at : ℕ) (ts : List Token) (front back r : List ℕ) → ValueText true room v at ts (34 ∷ front) → 1 ∷ r ≡ front ++ back → ⊥
no_such_value room (scalar place w) at ts front back r p e = no_such_scalar w front back r p.spelled e
no_such_value room (array place xs) at ts front back r p e = let j : 34 ≡ 91 = sign_first 91 _ _ at ts 34 front p.spelled in omega (arith, j)
no_such_value room (object place ms) at ts front back r p e = let j : 34 ≡ 123 = sign_first 123 _ _ at ts 34 front p.spelled in omega (arith, j)

brace_begins_nothing : (r : List ℕ) → Begins 0 (125 ∷ r) → ⊥
brace_begins_nothing r (rest, tree, tokens, j) = let v = value_at 256 tree Blanks 0 tokens 125 (r ++ rest) brace_is_no_blank j in no_start (value_starts 256 tree 0 v.tokens 125 v.front v.value)

control_begins_nothing : (r : List ℕ) → Begins 0 (34 ∷ 1 ∷ r) → ⊥
control_begins_nothing r (rest, tree, tokens, j) =
    let v = value_at 256 tree Blanks 0 tokens 34 (1 ∷ (r ++ rest)) no_blank j in no_such_value 256 tree 0 v.tokens v.front v.back (r ++ rest) v.value v.rest_is

-- ---- what has been read by them

-- where there are no bytes at all
none_left : (L : Language) (at : ℕ) (ts : List Token) → Then Blanks L at ts [] → (n : ℕ) × (us : List Token) × L n us []
none_left L at ts t = go t.front t.back t.text_is t.in_second
  where
    go : (front back : List ℕ) → [] ≡ front ++ back → L (at + length front) t.back_tokens back → (n : ℕ) × (us : List Token) × L n us []
    go front [] e l = (at + length front, t.back_tokens, l)
    go [] (b ∷ bs) e l = cc
    go (f ∷ fs) (b ∷ bs) e l = cc

nothing_opens : (o : Open) (at : ℕ) → Opens [] o → string_at o ≡ Some at → ⊥
unfolding OpenText
nothing_opens unread at (ts, b) e = cc
nothing_opens (in_scalar place first) at (ts, t) e = let l = none_left _ 0 ts t in l.2.begun
nothing_opens (in_array place xs next) at (ts, t) e = let l = none_left _ 0 ts t in no_sign 91 _ _ l.0 l.1 l.2.spelled
nothing_opens (in_object place ms ends) at (ts, t) e = cc
nothing_opens (in_key place ms ends a) at (ts, t) e = let l = none_left _ 0 ts t in no_sign 123 _ _ l.0 l.1 l.2.spelled
nothing_opens (in_member place ms ends a name next) at (ts, t) e = let l = none_left _ 0 ts t in no_sign 123 _ _ l.0 l.1 l.2.spelled
nothing_opens (whole v) at (ts, t) e = cc

brace_opens_nothing : (r : List ℕ) (o : Open) → Opens (125 ∷ r) o → ⊥
unfolding OpenText
brace_opens_nothing r unread (ts, b) = brace_is_no_blank b.blank.0
brace_opens_nothing r (in_scalar place first) (ts, t) = let s = (skip _ 0 ts 125 r brace_is_no_blank t).1 in no_start (scalar_starts s.value 125 (r ++ s.rest) s.spelled)
brace_opens_nothing r (in_array place xs next) (ts, t) =
    let s = skip _ 0 ts 125 r brace_is_no_blank t in let j : 125 ≡ 91 = sign_first 91 _ _ 0 s.0 125 r s.1.spelled in omega (arith, j)
brace_opens_nothing r (in_object place ms ends) (ts, t) =
    let s = skip _ 0 ts 125 r brace_is_no_blank t in let j : 125 ≡ 123 = sign_first 123 _ _ 0 s.0 125 r s.1.spelled in omega (arith, j)
brace_opens_nothing r (in_key place ms ends a) (ts, t) =
    let s = skip _ 0 ts 125 r brace_is_no_blank t in let j : 125 ≡ 123 = sign_first 123 _ _ 0 s.0 125 r s.1.spelled in omega (arith, j)
brace_opens_nothing r (in_member place ms ends a name next) (ts, t) =
    let s = skip _ 0 ts 125 r brace_is_no_blank t in let j : 125 ≡ 123 = sign_first 123 _ _ 0 s.0 125 r s.1.spelled in omega (arith, j)
brace_opens_nothing r (whole v) (ts, t) = let x = value_at 256 v _ 0 ts 125 r brace_is_no_blank t in no_start (value_starts 256 v 0 x.tokens 125 x.front x.value)

control_opens_nothing : (r : List ℕ) (o : Open) → Opens (34 ∷ 1 ∷ r) o → ⊥
unfolding OpenText
control_opens_nothing r unread (ts, b) = no_blank b.blank.0
control_opens_nothing r (in_scalar place first) (ts, t) =
    let s = (skip _ 0 ts 34 (1 ∷ r) no_blank t).1 in no_such_scalar s.value (1 ∷ (r ++ s.rest)) [] ((r ++ s.rest) ++ []) s.spelled refl
control_opens_nothing r (in_array place xs next) (ts, t) =
    let s = skip _ 0 ts 34 (1 ∷ r) no_blank t in let j : 34 ≡ 91 = sign_first 91 _ _ 0 s.0 34 (1 ∷ r) s.1.spelled in omega (arith, j)
control_opens_nothing r (in_object place ms ends) (ts, t) =
    let s = skip _ 0 ts 34 (1 ∷ r) no_blank t in let j : 34 ≡ 123 = sign_first 123 _ _ 0 s.0 34 (1 ∷ r) s.1.spelled in omega (arith, j)
control_opens_nothing r (in_key place ms ends a) (ts, t) =
    let s = skip _ 0 ts 34 (1 ∷ r) no_blank t in let j : 34 ≡ 123 = sign_first 123 _ _ 0 s.0 34 (1 ∷ r) s.1.spelled in omega (arith, j)
control_opens_nothing r (in_member place ms ends a name next) (ts, t) =
    let s = skip _ 0 ts 34 (1 ∷ r) no_blank t in let j : 34 ≡ 123 = sign_first 123 _ _ 0 s.0 34 (1 ∷ r) s.1.spelled in omega (arith, j)
control_opens_nothing r (whole v) (ts, t) = let x = value_at 256 v _ 0 ts 34 (1 ∷ r) no_blank t in no_such_value 256 v 0 x.tokens x.front x.back r x.value x.rest_is

-- a quote opens a string
quote_opens : (o : Open) (at : ℕ) → Opens (34 ∷ []) o → string_at o ≡ Some at → o ≡ in_scalar 0 quote
unfolding OpenText
quote_opens unread at (ts, b) e = cc
quote_opens (in_scalar place first) at (ts, t) e =
    let s = (skip _ 0 ts 34 [] no_blank t).1 in let q = quoted s.value s.rest s.spelled in go first q.0 s.place_is (subst (λ v. FirstOf v first) q.1 s.first_is)
  where
    go : (f : First) (meant : List ℕ) → place ≡ 0 → FirstOf (scalars.Str meant) f → in_scalar place f ≡ in_scalar 0 quote
    go quote meant p k = ap (λ n. in_scalar n quote) p
    go brace meant p k = absurd k
    go bracket meant p k = absurd k
    go sign meant p k = absurd k
quote_opens (in_array place xs next) at (ts, t) e =
    let s = skip _ 0 ts 34 [] no_blank t in let j : 34 ≡ 91 = sign_first 91 _ _ 0 s.0 34 [] s.1.spelled in absurd (omega (arith, j))
quote_opens (in_object place ms ends) at (ts, t) e = cc
quote_opens (in_key place ms ends a) at (ts, t) e =
    let s = skip _ 0 ts 34 [] no_blank t in let j : 34 ≡ 123 = sign_first 123 _ _ 0 s.0 34 [] s.1.spelled in absurd (omega (arith, j))
quote_opens (in_member place ms ends a name next) at (ts, t) e =
    let s = skip _ 0 ts 34 [] no_blank t in let j : 34 ≡ 123 = sign_first 123 _ _ 0 s.0 34 [] s.1.spelled in absurd (omega (arith, j))
quote_opens (whole v) at (ts, t) e = cc

-- ---- the bounds

in_streaming_order : Settings
in_streaming_order = settings Streaming None []

-- a quote is the beginning of a string
quote_is_read : Opens (34 ∷ []) (in_scalar 0 quote)
unfolding OpenText
quote_is_read = (
  [],
  record {
    front_tokens = [];
    back_tokens = [];
    front = [];
    back = 34 ∷ [];
    tokens_are = refl;
    text_is = refl;
    in_first = record { tokens_are = refl; blank = tt };
    in_second = record {
      place_is = refl;
      tokens_are = refl;
      begun = tt;
      value = scalars.Str [];
      rest = 34 ∷ [];
      spelled = (34 ∷ [], refl, ([], refl, none));
      first_is = tt;
      is_left = tt;
    };
  },
)

nothing_is_read : Opens [] unread
unfolding OpenText
nothing_is_read = ([], record { tokens_are = refl; blank = tt })

-- a quote and a control: the string is open, and both bytes count as read of it
broken_string : BrokenString (34 ∷ 1 ∷ []) (in_scalar 0 quote)
broken_string = record {
  front = 34 ∷ [];
  byte = 1;
  back = [];
  at = 0;
  bytes_are = refl;
  opens = quote_is_read;
  breaks = control_begins_nothing [];
  string_is = refl;
  still_open = refl;
}

row_1 : BoundOf in_streaming_order (34 ∷ 1 ∷ []) 66
unfolding bound_of in_streaming_order
row_1 = in_string (34 ∷ 1 ∷ []) (in_scalar 0 quote) broken_string

measured : (o : Open) → o ≡ in_scalar 0 quote → bound in_streaming_order 2 o ≡ 66
unfolding bound_of in_streaming_order
measured o e = ap (λ x. bound in_streaming_order 2 x) e

string_measured : (o : Open) → BrokenString (34 ∷ 1 ∷ []) o → bound in_streaming_order 2 o ≡ 66
string_measured o b = go b.front b.bytes_are b.opens
  where
    none_after : (fs : List ℕ) → [] ≡ fs ++ b.byte ∷ b.back → ⊥
    none_after [] e = cc
    none_after (x ∷ xs) e = cc

    go : (front : List ℕ) → 34 ∷ 1 ∷ [] ≡ front ++ b.byte ∷ b.back → Opens front o → bound in_streaming_order 2 o ≡ 66
    go [] e p = absurd (nothing_opens o b.at p b.string_is)
    go (f ∷ []) e p = measured o (quote_opens o b.at (subst (λ z. Opens (z ∷ []) o) (sym (head_is 34 f (1 ∷ []) (b.byte ∷ b.back) e)) p) b.string_is)
    go (f ∷ g ∷ fs) e p = absurd (none_after fs (tail_is 1 g [] (fs ++ b.byte ∷ b.back) (tail_is 34 f (1 ∷ []) (g ∷ (fs ++ b.byte ∷ b.back)) e)))

-- and no other number
row_2 : (k : ℕ) → BoundOf in_streaming_order (34 ∷ 1 ∷ []) k → k ≡ 66
row_2 k b = one (34 ∷ 1 ∷ []) k b refl
  where
    one : (bytes : List ℕ) (k : ℕ) → BoundOf in_streaming_order bytes k → bytes ≡ 34 ∷ 1 ∷ [] → k ≡ 66
    one bytes k (readable xs o p) e = absurd (control_opens_nothing [] o (subst (λ z. Opens z o) e p))
    one bytes k (in_string xs o b) e = ap (λ z. bound in_streaming_order (length z) o) e ∙ string_measured o (subst (λ z. BrokenString z o) e b)
    one bytes k (broken front byte n breaks b) e = absurd (breaks.1 (in_scalar 0 quote) (subst (λ z. BrokenString z (in_scalar 0 quote)) (sym e) broken_string))

-- a quote, a control and a quote: the string has closed since, so the bound stays
closed_since : (o : Open) → BrokenString (34 ∷ 1 ∷ 34 ∷ []) o → ⊥
closed_since o b = go b.front b.bytes_are b.opens
  where
    is_closed : (at : ℕ) → at ≡ 0 → IsTrue (is_open_string (drop at (34 ∷ 1 ∷ 34 ∷ []))) → ⊥
    is_closed at e h = let k : IsTrue (is_open_string (drop 0 (34 ∷ 1 ∷ 34 ∷ []))) = subst (λ n. IsTrue (is_open_string (drop n (34 ∷ 1 ∷ 34 ∷ [])))) e h in cc

    go : (front : List ℕ) → 34 ∷ 1 ∷ 34 ∷ [] ≡ front ++ b.byte ∷ b.back → Opens front o → ⊥
    go [] e p = nothing_opens o b.at p b.string_is
    go (f ∷ []) e p =
        let q : o ≡ in_scalar 0 quote = quote_opens o b.at (subst (λ z. Opens (z ∷ []) o) (sym (head_is 34 f (1 ∷ 34 ∷ []) (b.byte ∷ b.back) e)) p) b.string_is in
        let k : Some b.at ≡ Some 0 = sym b.string_is ∙ ap string_at q in
        let i : b.at ≡ 0 = cc in is_closed b.at i b.still_open
    go (f ∷ g ∷ fs) e p =
        let i : 34 ≡ f = head_is 34 f (1 ∷ 34 ∷ []) (g ∷ (fs ++ b.byte ∷ b.back)) e in
        let j : 1 ≡ g = head_is 1 g (34 ∷ []) (fs ++ b.byte ∷ b.back) (tail_is 34 f (1 ∷ 34 ∷ []) (g ∷ (fs ++ b.byte ∷ b.back)) e) in
        control_opens_nothing fs o (subst (λ y. Opens (34 ∷ y ∷ fs) o) (sym j) (subst (λ z. Opens (z ∷ g ∷ fs) o) (sym i) p))

row_3 : BoundOf in_streaming_order (34 ∷ 1 ∷ 34 ∷ []) 66
row_3 = broken (34 ∷ 1 ∷ []) 34 66 (control_begins_nothing (34 ∷ []), closed_since) row_1

-- a brace that closes nothing breaks no string, whatever comes after it
no_string : (r : List ℕ) (o : Open) → BrokenString (125 ∷ r) o → ⊥
no_string r o b = go b.front b.bytes_are b.opens
  where
    go : (front : List ℕ) → 125 ∷ r ≡ front ++ b.byte ∷ b.back → Opens front o → ⊥
    go [] e p = nothing_opens o b.at p b.string_is
    go (f ∷ fs) e p = brace_opens_nothing fs o (subst (λ z. Opens (z ∷ fs) o) (sym (head_is 125 f r (fs ++ b.byte ∷ b.back) e)) p)

row_4 : BoundOf in_streaming_order (codes "}") 64
unfolding bound_of in_streaming_order
row_4 = broken [] 125 64 (brace_begins_nothing [], no_string []) (readable [] unread nothing_is_read)

-- so the quote after it opens none
row_5 : BoundOf in_streaming_order (codes "}\"") 64
row_5 = broken (codes "}") 34 64 (brace_begins_nothing (34 ∷ []), no_string (34 ∷ [])) row_4

only_unread : (o : Open) → Opens [] o → bound in_streaming_order 0 o ≡ 64
unfolding OpenText bound_of in_streaming_order
only_unread unread (ts, b) = refl
only_unread (in_scalar place first) (ts, t) = let l = none_left _ 0 ts t in absurd l.2.begun
only_unread (in_array place xs next) (ts, t) = let l = none_left _ 0 ts t in absurd (no_sign 91 _ _ l.0 l.1 l.2.spelled)
only_unread (in_object place ms ends) (ts, t) = let l = none_left _ 0 ts t in absurd (no_sign 123 _ _ l.0 l.1 l.2.spelled)
only_unread (in_key place ms ends a) (ts, t) = let l = none_left _ 0 ts t in absurd (no_sign 123 _ _ l.0 l.1 l.2.spelled)
only_unread (in_member place ms ends a name next) (ts, t) = let l = none_left _ 0 ts t in absurd (no_sign 123 _ _ l.0 l.1 l.2.spelled)
only_unread (whole v) (ts, t) = absurd (no_document (none_left _ 0 ts t))
  where
    no_document : (l : (n : ℕ) × (us : List Token) × Then (ValueText true 256 v) (Behind v Blanks) n us []) → ⊥
    no_document (n, us, t) = go t.front t.back t.text_is t.in_first
      where
        go : (front back : List ℕ) → [] ≡ front ++ back → ValueText true 256 v n t.front_tokens front → ⊥
        go [] back e p = no_value 256 v n t.front_tokens p
        go (f ∷ fs) back e p = cc

-- the bound of bytes that begin with that brace is this number and no other
row_6 : (r : List ℕ) (k : ℕ) → BoundOf in_streaming_order (125 ∷ r) k → k ≡ 64
row_6 r k b = one (125 ∷ r) k b r refl
  where
    no_bytes : (front : List ℕ) (byte : ℕ) (back : List ℕ) → front ++ byte ∷ back ≡ [] → ⊥
    no_bytes [] byte back e = cc
    no_bytes (f ∷ fs) byte back e = cc

    empty : (bytes : List ℕ) (k : ℕ) → BoundOf in_streaming_order bytes k → bytes ≡ [] → k ≡ 64
    empty bytes k (readable xs o p) e = ap (λ z. bound in_streaming_order (length z) o) e ∙ only_unread o (subst (λ z. Opens z o) e p)
    empty bytes k (in_string xs o b) e = absurd (no_bytes b.front b.byte b.back (sym b.bytes_are ∙ e))
    empty bytes k (broken front byte n breaks b) e = absurd (no_bytes front byte [] e)

    one : (bytes : List ℕ) (k : ℕ) → BoundOf in_streaming_order bytes k → (r : List ℕ) → bytes ≡ 125 ∷ r → k ≡ 64
    one bytes k (readable xs o p) r e = absurd (brace_opens_nothing r o (subst (λ z. Opens z o) e p))
    one bytes k (in_string xs o b) r e = absurd (no_string r o (subst (λ z. BrokenString z o) e b))
    one bytes k (broken [] byte n breaks b) r e = empty [] n b refl
    one bytes k (broken (f ∷ fs) byte n breaks b) r e = one (f ∷ fs) n b fs (ap (λ z. z ∷ fs) (head_is f 125 (fs ++ byte ∷ []) r e))
