-- What a string means is UTF-8.
use Rattle.std.proofs.Common.{lit≤, lit<, ◌≡◌, ℕ, ◌+◌, ◌*◌, ◌<◌, ◌≤◌, ◌⊎◌, inl, inr, true, ◌&&◌, eqb, leb, List, [], ◌∷◌, refl, sym, ap, ◌∙◌, subst, arith, Option, Some, IsUtf8}
use Rattle.std.proofs.lemmas.Bool.{cond_both, eqb-true, eqb-false, ne_eqb, le-ltb, le-leb, lt-ltb}
use lib.Utf8.{scalar, low_scalar}
use Rattle.std.proofs.lemmas.Str.{IsUtf8-nil, IsUtf8-append, IsUtf8-encode}
use Rattle.simdutf8.specs.Steps.{least_after, most_after, IsClosed, Step}
use Rattle.simdutf8.specs.Steps.Step.{first, second, later}
use Rattle.simdutf8.proofs.Chars.{StepsThen-IsUtf8}
use Rattle.jl_model.specs.JsonStrings.{short_escape, Lead, lead_of, Tail, HexDigits, IsHigh, IsLow, IsNoSurrogate, combined, Char, Chars, IsString}
use Rattle.jl_model.specs.JsonStrings.Char.{plain, wide, short, unicode, pair}
use Rattle.jl_model.specs.JsonStrings.Chars.{none, more}
use Rattle.jl_token.proofs.StringMoves.{within, hex_below, three_near}

-- what the table of first bytes says in the terms of a rule on bytes
record LeadFits (b : ℕ) (l : Lead) : Type 0 where
  from : 194 ≤ b
  to : b ≤ 244
  low : least_after b ≤ l.low
  high : l.high ≤ most_after b
  floor : 128 ≤ l.low
  ceiling : l.high ≤ 191
  width : ((l.later ≡ 0) × (b < 224)) ⊎ ((l.later ≡ 1) × (224 ≤ b) × (b < 240)) ⊎ ((l.later ≡ 2) × (240 ≤ b))

some_same : (a b : Lead) → ◌≡◌ {A = Option Lead} (Some a) (Some b) → a ≡ b
some_same a b e = cc

fits : (b : ℕ) (a : Lead) → LeadFits b a → (l : Lead) → ◌≡◌ {A = Option Lead} (Some a) (Some l) → LeadFits b l
fits b a f l q = subst (LeadFits b) (some_same a l q) f

least_plain : (b : ℕ) → (b ≡ 224 → ⊥) → (b ≡ 240 → ⊥) → least_after b ≡ 128
least_plain b n m = rw (ne_eqb b 224 n, ne_eqb b 240 m) refl

most_plain : (b : ℕ) → (b ≡ 237 → ⊥) → (b ≡ 244 → ⊥) → most_after b ≡ 191
most_plain b n m = rw (ne_eqb b 237 n, ne_eqb b 244 m) refl

lead_fits : (b : ℕ) (l : Lead) → lead_of b ≡ Some l → LeadFits b l
unfolding lead_of
lead_fits b =
    let P : Option Lead → Type 0 = λ o. (l : Lead) → o ≡ Some l → LeadFits b l in
    cond_both (leb 194 b && leb b 223) _ _ P (λ e. let w = within 194 223 b e in fits b _ (record { from = w.0; to = omega (arith, w); low = omega (arith, least_plain b (λ q. omega (arith, w, q)) (λ q. omega (arith, w, q))); high = omega (arith, most_plain b (λ q. omega (arith, w, q)) (λ q. omega (arith, w, q))); floor = lit≤ tt; ceiling = lit≤ tt; width = inl (refl, omega (arith, w)) })) (λ _.
    cond_both (eqb b 224) _ _ P (λ e. let i = eqb-true b 224 e in subst (λ x. (l : Lead) → ◌≡◌ {A = Option Lead} (Some (record { later = 1; low = 160; high = 191 })) (Some l) → LeadFits x l) (sym i) (fits 224 _ (record { from = lit≤ tt; to = lit≤ tt; low = lit≤ tt; high = lit≤ tt; floor = lit≤ tt; ceiling = lit≤ tt; width = inr (inl (refl, lit≤ tt, lit< tt)) }))) (λ _.
    cond_both (eqb b 237) _ _ P (λ e. let i = eqb-true b 237 e in subst (λ x. (l : Lead) → ◌≡◌ {A = Option Lead} (Some (record { later = 1; low = 128; high = 159 })) (Some l) → LeadFits x l) (sym i) (fits 237 _ (record { from = lit≤ tt; to = lit≤ tt; low = lit≤ tt; high = lit≤ tt; floor = lit≤ tt; ceiling = lit≤ tt; width = inr (inl (refl, lit≤ tt, lit< tt)) }))) (λ n237.
    cond_both (leb 225 b && leb b 239) _ _ P (λ e. let w = within 225 239 b e in fits b _ (record { from = omega (arith, w); to = omega (arith, w); low = omega (arith, least_plain b (λ q. omega (arith, w, q)) (λ q. omega (arith, w, q))); high = omega (arith, most_plain b (eqb-false b 237 n237) (λ q. omega (arith, w, q))); floor = lit≤ tt; ceiling = lit≤ tt; width = inr (inl (refl, omega (arith, w), omega (arith, w))) })) (λ _.
    cond_both (eqb b 240) _ _ P (λ e. let i = eqb-true b 240 e in subst (λ x. (l : Lead) → ◌≡◌ {A = Option Lead} (Some (record { later = 2; low = 144; high = 191 })) (Some l) → LeadFits x l) (sym i) (fits 240 _ (record { from = lit≤ tt; to = lit≤ tt; low = lit≤ tt; high = lit≤ tt; floor = lit≤ tt; ceiling = lit≤ tt; width = inr (inr (refl, lit≤ tt)) }))) (λ _.
    cond_both (leb 241 b && leb b 243) _ _ P (λ e. let w = within 241 243 b e in fits b _ (record { from = omega (arith, w); to = omega (arith, w); low = omega (arith, least_plain b (λ q. omega (arith, w, q)) (λ q. omega (arith, w, q))); high = omega (arith, most_plain b (λ q. omega (arith, w, q)) (λ q. omega (arith, w, q))); floor = lit≤ tt; ceiling = lit≤ tt; width = inr (inr (refl, omega (arith, w))) })) (λ _.
    cond_both (eqb b 244) _ _ P (λ e. let i = eqb-true b 244 e in subst (λ x. (l : Lead) → ◌≡◌ {A = Option Lead} (Some (record { later = 2; low = 128; high = 143 })) (Some l) → LeadFits x l) (sym i) (fits 244 _ (record { from = lit≤ tt; to = lit≤ tt; low = lit≤ tt; high = lit≤ tt; floor = lit≤ tt; ceiling = lit≤ tt; width = inr (inr (refl, lit≤ tt)) }))) (λ _ l q. cc)))))))

closed_start : IsClosed 0 0 0
closed_start = (lit< tt, lit< tt, lit< tt)

one_tail : (b l h : ℕ) (bytes : List ℕ) → 194 ≤ b → b < 224 → least_after b ≤ l → h ≤ most_after b → h ≤ 191 → Tail 0 l h bytes → IsUtf8 (b ∷ bytes)
one_tail b l h bytes f t low high c (x, e, p, q) =
    let begins : Step 0 0 0 b = first closed_start (inr (omega arith)) in
    let next : Step 0 0 b x = second (lit< tt, lit< tt) (omega arith, omega arith) (omega (arith, low, p), omega (arith, high, q)) in
    let closed : IsClosed 0 b x = (lit< tt, omega arith, omega (arith, c, q)) in
    subst (λ z. IsUtf8 (b ∷ z)) (sym e) ((StepsThen-IsUtf8 (b ∷ x ∷ [])).0 (begins, (next, closed)))

two_tails : (b l h : ℕ) (bytes : List ℕ) → 224 ≤ b → b < 240 → least_after b ≤ l → h ≤ most_after b → 128 ≤ l → h ≤ 191 → Tail 1 l h bytes → IsUtf8 (b ∷ bytes)
two_tails b l h bytes f t low high o c (x, rest, e, p, q, (y, d, r, s)) =
    let begins : Step 0 0 0 b = first closed_start (inr (omega arith)) in
    let next : Step 0 0 b x = second (lit< tt, lit< tt) (omega arith, omega arith) (omega (arith, low, p), omega (arith, high, q)) in
    let last : Step 0 b x y = later (inr f) (omega (arith, o, p), omega (arith, c, q)) (omega (arith, r), omega (arith, s)) in
    let closed : IsClosed b x y = (omega arith, omega (arith, c, q), omega (arith, s)) in
    subst (λ z. IsUtf8 (b ∷ z)) (sym (e ∙ ap (λ z. x ∷ z) d)) ((StepsThen-IsUtf8 (b ∷ x ∷ y ∷ [])).0 (begins, (next, (last, closed))))

three_tails : (b l h : ℕ) (bytes : List ℕ) → 240 ≤ b → b ≤ 244 → least_after b ≤ l → h ≤ most_after b → 128 ≤ l → h ≤ 191 → Tail 2 l h bytes → IsUtf8 (b ∷ bytes)
three_tails b l h bytes f t low high o c (x, rest, e, p, q, (y, others, d, r, s, (z, g, u, v))) =
    let begins : Step 0 0 0 b = first closed_start (inr (omega arith)) in
    let next : Step 0 0 b x = second (lit< tt, lit< tt) (omega arith, omega arith) (omega (arith, low, p), omega (arith, high, q)) in
    let third : Step 0 b x y = later (inr (omega arith)) (omega (arith, o, p), omega (arith, c, q)) (omega (arith, r), omega (arith, s)) in
    let last : Step b x y z = later (inl f) (omega (arith, r), omega (arith, s)) (omega (arith, u), omega (arith, v)) in
    let closed : IsClosed x y z = (omega (arith, c, q), omega (arith, s), omega (arith, v)) in
    subst (λ k. IsUtf8 (b ∷ k)) (sym (e ∙ ap (λ k. x ∷ k) (d ∙ ap (λ k. y ∷ k) g))) ((StepsThen-IsUtf8 (b ∷ x ∷ y ∷ z ∷ [])).0 (begins, (next, (third, (last, closed)))))

-- a character beyond ASCII
wide_utf8 : (b : ℕ) (l : Lead) (bytes : List ℕ) → LeadFits b l → Tail l.later l.low l.high bytes → IsUtf8 (b ∷ bytes)
wide_utf8 b l bytes f t = go f.width
  where
    go : ((l.later ≡ 0) × (b < 224)) ⊎ ((l.later ≡ 1) × (224 ≤ b) × (b < 240)) ⊎ ((l.later ≡ 2) × (240 ≤ b)) → IsUtf8 (b ∷ bytes)
    go (inl w) = one_tail b l.low l.high bytes f.from w.1 f.low f.high f.ceiling (subst (λ n. Tail n l.low l.high bytes) w.0 t)
    go (inr (inl w)) = two_tails b l.low l.high bytes w.1 w.2 f.low f.high f.floor f.ceiling (subst (λ n. Tail n l.low l.high bytes) w.0 t)
    go (inr (inr w)) = three_tails b l.low l.high bytes w.1 f.to f.low f.high f.floor f.ceiling (subst (λ n. Tail n l.low l.high bytes) w.0 t)

one_ascii : (c : ℕ) → c < 128 → IsUtf8 (c ∷ [])
one_ascii c l = (StepsThen-IsUtf8 (c ∷ [])).0 (first closed_start (inl l), (lit< tt, lit< tt, omega arith))

-- the short escapes mean ASCII
escape_below : (e m : ℕ) → short_escape e ≡ Some m → m < 128
unfolding short_escape
escape_below e =
    let P : Option ℕ → Type 0 = λ o. (m : ℕ) → o ≡ Some m → m < 128 in
    let ok : (k : ℕ) → k < 128 → P (Some k) = λ k h m q. let i : k ≡ m = cc in omega arith in
    cond_both (eqb e 34) _ _ P (λ _. ok 34 (lit< tt)) (λ _.
    cond_both (eqb e 92) _ _ P (λ _. ok 92 (lit< tt)) (λ _.
    cond_both (eqb e 47) _ _ P (λ _. ok 47 (lit< tt)) (λ _.
    cond_both (eqb e 98) _ _ P (λ _. ok 8 (lit< tt)) (λ _.
    cond_both (eqb e 102) _ _ P (λ _. ok 12 (lit< tt)) (λ _.
    cond_both (eqb e 110) _ _ P (λ _. ok 10 (lit< tt)) (λ _.
    cond_both (eqb e 114) _ _ P (λ _. ok 13 (lit< tt)) (λ _.
    cond_both (eqb e 116) _ _ P (λ _. ok 9 (lit< tt)) (λ _ m q. cc))))))))

high_scalar : (c : ℕ) → 57344 ≤ c → c < 1114112 → scalar c ≡ true
high_scalar c l h = rw (le-ltb c 55296 (omega arith), le-leb 57344 c l, lt-ltb c 1114112 h)

-- four digits stay within 16 bits
digits_below : (v : ℕ) (ds : List ℕ) → HexDigits 3 0 v ds → v < 65536
digits_below v ds h =
    let r = three_near h.1 v h.2 (subst (λ x. HexDigits 2 x v h.2) (let e : 0 * 16 + h.1 ≡ h.1 = omega arith in e) h.5) in
    let b : h.1 < 16 = hex_below h.0 h.1 h.4 in
    omega (arith, r)

scalar_value : (v : ℕ) → v < 65536 → IsNoSurrogate v → scalar v ≡ true
scalar_value v b (inl l) = low_scalar v l
scalar_value v b (inr h) = high_scalar v h (omega arith)

scalar_pair : (v w : ℕ) → IsHigh v → IsLow w → scalar (combined v w) ≡ true
scalar_pair v w h l = high_scalar (combined v w) (omega (arith, h, l)) (omega (arith, h, l))

char_utf8 : (m s : List ℕ) → Char m s → IsUtf8 m
char_utf8 m s (plain {c = c} a b n o) = one_ascii c b
char_utf8 m s (wide {b = b} {bytes = bytes} l e t) = wide_utf8 b l bytes (lead_fits b l e) t
char_utf8 m s (short {e = e} {m = x} f) = one_ascii x (escape_below e x f)
char_utf8 m s (unicode {ds = ds} v d n e) = subst IsUtf8 (sym e) (IsUtf8-encode v (scalar_value v (digits_below v ds d) n))
char_utf8 m s (pair {ds = ds} {es = es} v w d h f l e t) = subst IsUtf8 (sym e) (IsUtf8-encode (combined v w) (scalar_pair v w h l))

pub chars_utf8 : (m s : List ℕ) → Chars m s → IsUtf8 m
chars_utf8 m s none = IsUtf8-nil
chars_utf8 m s (more {m = c} {ms = cs} {s = t} {ss = ts} ch rest e f) = subst IsUtf8 (sym e) (IsUtf8-append c cs (char_utf8 c t ch) (chars_utf8 cs ts rest))

-- What a string means is UTF-8.
pub string_utf8 : (meant text : List ℕ) → IsString meant text → IsUtf8 meant
string_utf8 meant text h = chars_utf8 meant h.2.0 h.2.2
