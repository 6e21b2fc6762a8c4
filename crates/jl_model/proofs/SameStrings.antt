-- Two strings at the front of one text are the same, with the same meaning.
use Rattle.std.proofs.Common.{◌≡◌, ℕ, zero, suc, ◌+◌, ◌*◌, ◌<◌, ◌≤◌, inl, inr, true, ◌&&◌, eqb, leb, List, [], ◌∷◌, ◌++◌, refl, sym, ap, ◌∙◌, subst, arith, append_assoc, Some, None}
use Rattle.std.proofs.lemmas.List.{append_cancel_left}
use Rattle.std.proofs.lemmas.Bool.{cond_both, eqb-true}
use lib.Utf8.{encode}
use Rattle.jl_model.specs.JsonStrings.{hex_value, short_escape, Lead, lead_of, Tail, HexDigits, IsHigh, IsNoSurrogate, combined, Char, Chars, IsString}
use Rattle.jl_model.specs.JsonStrings.Char.{plain, wide, short, unicode, pair}
use Rattle.jl_model.specs.JsonStrings.Chars.{none, more}

pub head-is : (c x : ℕ) (t u : List ℕ) → c ∷ t ≡ x ∷ u → c ≡ x
head-is c x t u e = cc

pub tail-is : (c x : ℕ) (t u : List ℕ) → c ∷ t ≡ x ∷ u → t ≡ u
tail-is c x t u e = cc

-- two texts that begin one text, as what they are
pub fronts : (x y x' y' r s : List ℕ) → x ≡ x' → y ≡ y' → x ++ r ≡ y ++ s → x' ++ r ≡ y' ++ s
fronts x y x' y' r s i j e = ap (λ z. z ++ r) (sym i) ∙ e ∙ ap (λ z. z ++ s) j

-- ---- digits and tails

hex-same : (c d a b : ℕ) → hex_value c ≡ Some a → hex_value d ≡ Some b → c ≡ d → a ≡ b
hex-same c d a b h k e = let f : Some a ≡ Some b = sym h ∙ ap hex_value e ∙ k in cc

digits-same : (n before v w : ℕ) (x y r s : List ℕ) → HexDigits n before v x → HexDigits n before w y → x ++ r ≡ y ++ s → (v ≡ w) × (x ≡ y)
digits-same zero before v w x y r s (d, a, i, h, e) (d', a', i', h', e') q =
    let f = head-is d d' r s (fronts x y (d ∷ []) (d' ∷ []) r s i i' q) in
    let g = hex-same d d' a a' h h' f in
    (e ∙ ap (λ z. before * 16 + z) g ∙ sym e', i ∙ ap (λ z. z ∷ []) f ∙ sym i')
digits-same (suc n) before v w x y r s (d, a, t, i, h, k) (d', a', t', i', h', k') q =
    let p = fronts x y (d ∷ t) (d' ∷ t') r s i i' q in
    let f = head-is d d' (t ++ r) (t' ++ s) p in
    let g = hex-same d d' a a' h h' f in
    let o = digits-same n (before * 16 + a) v w t t' r s k (subst (λ z. HexDigits n (before * 16 + z) w t') (sym g) k') (tail-is d d' (t ++ r) (t' ++ s) p) in
    (o.0, i ∙ ap (λ z. z ∷ t) f ∙ ap (λ z. d' ∷ z) o.1 ∙ sym i')

tails-same : (n low high : ℕ) (x y r s : List ℕ) → Tail n low high x → Tail n low high y → x ++ r ≡ y ++ s → x ≡ y
tails-same zero low high x y r s (b, i, l, h) (b', i', l', h') q =
    i ∙ ap (λ z. z ∷ []) (head-is b b' r s (fronts x y (b ∷ []) (b' ∷ []) r s i i' q)) ∙ sym i'
tails-same (suc n) low high x y r s (b, t, i, l, h, k) (b', t', i', l', h', k') q =
    let p = fronts x y (b ∷ t) (b' ∷ t') r s i i' q in
    let f = head-is b b' (t ++ r) (t' ++ s) p in
    let o = tails-same n 128 191 t t' r s k k' (tail-is b b' (t ++ r) (t' ++ s) p) in
    i ∙ ap (λ z. z ∷ t) f ∙ ap (λ z. b' ∷ z) o ∙ sym i'

-- ---- characters

-- a first byte beyond ASCII is beyond ASCII
within : (a b c : ℕ) → 128 ≤ a → (leb a c && leb c b) ≡ true → 128 ≤ c
within a b c l e = grind arith

alone : (a c : ℕ) → 128 ≤ a → eqb c a ≡ true → 128 ≤ c
alone a c l e = omega (arith, eqb-true c a e)

lead-high : (c : ℕ) (l : Lead) → lead_of c ≡ Some l → 128 ≤ c
unfolding lead_of
lead-high c =
    cond_both (leb 194 c && leb c 223) _ _ (λ o. (l : Lead) → o ≡ Some l → 128 ≤ c) (λ e l q. within 194 223 c (omega arith) e) (λ _.
    cond_both (eqb c 224) _ _ (λ o. (l : Lead) → o ≡ Some l → 128 ≤ c) (λ e l q. alone 224 c (omega arith) e) (λ _.
    cond_both (eqb c 237) _ _ (λ o. (l : Lead) → o ≡ Some l → 128 ≤ c) (λ e l q. alone 237 c (omega arith) e) (λ _.
    cond_both (leb 225 c && leb c 239) _ _ (λ o. (l : Lead) → o ≡ Some l → 128 ≤ c) (λ e l q. within 225 239 c (omega arith) e) (λ _.
    cond_both (eqb c 240) _ _ (λ o. (l : Lead) → o ≡ Some l → 128 ≤ c) (λ e l q. alone 240 c (omega arith) e) (λ _.
    cond_both (leb 241 c && leb c 243) _ _ (λ o. (l : Lead) → o ≡ Some l → 128 ≤ c) (λ e l q. within 241 243 c (omega arith) e) (λ _.
    cond_both (eqb c 244) _ _ (λ o. (l : Lead) → o ≡ Some l → 128 ≤ c) (λ e l q. alone 244 c (omega arith) e) (λ _ l q. cc)))))))

no-escape-u : short_escape 117 ≡ None
unfolding short_escape
no-escape-u = refl

no-short-u : (e m : ℕ) → short_escape e ≡ Some m → e ≡ 117 → ⊥
no-short-u e m h i = let f : None ≡ Some m = sym no-escape-u ∙ ap short_escape (sym i) ∙ h in cc

-- how a character begins
data Begin : Type 0 where
  as_plain : Begin
  as_wide : Begin
  as_escape : Begin

abbrev BeginsSo : Begin → List ℕ → Type 0
BeginsSo b [] = ⊥
BeginsSo as_plain (c ∷ cs) = (c < 128) × (c ≡ 34 → ⊥) × (c ≡ 92 → ⊥)
BeginsSo as_wide (c ∷ cs) = 128 ≤ c
BeginsSo as_escape (c ∷ cs) = c ≡ 92

apart : (b d : Begin) (x y r s : List ℕ) → BeginsSo b x → BeginsSo d y → x ++ r ≡ y ++ s → b ≡ d
apart b d [] y r s h k e = absurd h
apart b d (c ∷ x) [] r s h k e = absurd k
apart as_plain as_plain (c ∷ x) (c' ∷ y) r s h k e = refl
apart as_plain as_wide (c ∷ x) (c' ∷ y) r s h k e = absurd (let i = head-is c c' (x ++ r) (y ++ s) e in omega (arith, i, h.0, k))
apart as_plain as_escape (c ∷ x) (c' ∷ y) r s h k e = absurd (h.2 (head-is c c' (x ++ r) (y ++ s) e ∙ k))
apart as_wide as_plain (c ∷ x) (c' ∷ y) r s h k e = absurd (let i = head-is c c' (x ++ r) (y ++ s) e in omega (arith, i, h, k.0))
apart as_wide as_wide (c ∷ x) (c' ∷ y) r s h k e = refl
apart as_wide as_escape (c ∷ x) (c' ∷ y) r s h k e = absurd (let i = head-is c c' (x ++ r) (y ++ s) e in omega (arith, i, h, k))
apart as_escape as_plain (c ∷ x) (c' ∷ y) r s h k e = absurd (k.2 (sym (head-is c c' (x ++ r) (y ++ s) e) ∙ h))
apart as_escape as_wide (c ∷ x) (c' ∷ y) r s h k e = absurd (let i = head-is c c' (x ++ r) (y ++ s) e in omega (arith, i, h, k))
apart as_escape as_escape (c ∷ x) (c' ∷ y) r s h k e = refl

-- no character begins with a quote
no-quote : (b : Begin) (x r s : List ℕ) → BeginsSo b x → x ++ r ≡ 34 ∷ s → ⊥
no-quote b [] r s h e = absurd h
no-quote as_plain (c ∷ x) r s h e = h.1 (head-is c 34 (x ++ r) s e)
no-quote as_wide (c ∷ x) r s h e = let i = head-is c 34 (x ++ r) s e in omega (arith, i, h)
no-quote as_escape (c ∷ x) r s h e = let i = head-is c 34 (x ++ r) s e in omega (arith, i, h)

abbrev begin-of : (m t : List ℕ) → Char m t → Begin
begin-of m t (plain {c = c} a b n o) = as_plain
begin-of m t (wide {b = b} {bytes = bytes} l f g) = as_wide
begin-of m t (short {e = e} {m = x} f) = as_escape
begin-of m t (unicode {ds = ds} v d n e) = as_escape
begin-of m t (pair {ds = ds} {es = es} {ts = ts} v w d h f l e g) = as_escape

begins-so : (m t : List ℕ) → (k : Char m t) → BeginsSo (begin-of m t k) t
begins-so m t (plain {c = c} a b n o) = (b, n, o)
begins-so m t (wide {b = b} {bytes = bytes} l f g) = lead-high b l f
begins-so m t (short {e = e} {m = x} f) = refl
begins-so m t (unicode {ds = ds} v d n e) = refl
begins-so m t (pair {ds = ds} {es = es} {ts = ts} v w d h f l e g) = refl

no-half : (v w : ℕ) → v ≡ w → IsNoSurrogate v → IsHigh w → ⊥
no-half v w e (inl l) h = omega (arith, e, l, h.0)
no-half v w e (inr l) h = omega (arith, e, l, h.1)

short-same : (e e' m m' : ℕ) (r s : List ℕ) → short_escape e ≡ Some m → short_escape e' ≡ Some m' → 92 ∷ e ∷ r ≡ 92 ∷ e' ∷ s → (m ∷ [] ≡ m' ∷ []) × (92 ∷ e ∷ [] ≡ 92 ∷ e' ∷ [])
short-same e e' m m' r s f f' q =
    let i : e ≡ e' = cc in
    let j : Some m ≡ Some m' = sym f ∙ ap short_escape i ∙ f' in
    let k : m ≡ m' = cc in
    (ap (λ z. z ∷ []) k, ap (λ z. 92 ∷ z ∷ []) i)

wide-same : (b b' : ℕ) (l l' : Lead) (x y r s : List ℕ) → lead_of b ≡ Some l → lead_of b' ≡ Some l' → Tail l.later l.low l.high x → Tail l'.later l'.low l'.high y → b ∷ (x ++ r) ≡ b' ∷ (y ++ s) → b ∷ x ≡ b' ∷ y
wide-same b b' l l' x y r s f f' g g' q =
    let i = head-is b b' (x ++ r) (y ++ s) q in
    let j : Some l' ≡ Some l = sym f' ∙ ap lead_of (sym i) ∙ f in
    let k : l' ≡ l = cc in
    let o = tails-same l.later l.low l.high x y r s g (subst (λ z. Tail z.later z.low z.high y) k g') (tail-is b b' (x ++ r) (y ++ s) q) in
    ap (λ z. z ∷ x) i ∙ ap (λ z. b' ∷ z) o

-- behind a backslash and u
behind-u : (x y : List ℕ) → 92 ∷ 117 ∷ x ≡ 92 ∷ 117 ∷ y → x ≡ y
behind-u x y e = cc

pair-same : (v w v' w' : ℕ) (m m' ds es ts ds' es' ts' r s : List ℕ) → HexDigits 3 0 v ds → HexDigits 3 0 w es → HexDigits 3 0 v' ds' → HexDigits 3 0 w' es' → m ≡ encode (combined v w) → m' ≡ encode (combined v' w') →
    ts ≡ ds ++ 92 ∷ 117 ∷ es → ts' ≡ ds' ++ 92 ∷ 117 ∷ es' → ts ++ r ≡ ts' ++ s → (m ≡ m') × (92 ∷ 117 ∷ ts ≡ 92 ∷ 117 ∷ ts')
pair-same v w v' w' m m' ds es ts ds' es' ts' r s d f d' f' e e' g g' q =
    let p : ds ++ (92 ∷ 117 ∷ (es ++ r)) ≡ ds' ++ (92 ∷ 117 ∷ (es' ++ s)) = sym (append_assoc ds (92 ∷ 117 ∷ es) r) ∙ fronts ts ts' (ds ++ 92 ∷ 117 ∷ es) (ds' ++ 92 ∷ 117 ∷ es') r s g g' q ∙ append_assoc ds' (92 ∷ 117 ∷ es') s in
    let o = digits-same 3 0 v v' ds ds' (92 ∷ 117 ∷ (es ++ r)) (92 ∷ 117 ∷ (es' ++ s)) d d' p in
    let p' : ds' ++ (92 ∷ 117 ∷ (es ++ r)) ≡ ds' ++ (92 ∷ 117 ∷ (es' ++ s)) = ap (λ z. z ++ (92 ∷ 117 ∷ (es ++ r))) (sym o.1) ∙ p in
    let q' = behind-u (es ++ r) (es' ++ s) (append_cancel_left ds' (92 ∷ 117 ∷ (es ++ r)) (92 ∷ 117 ∷ (es' ++ s)) p') in
    let n = digits-same 3 0 w w' es es' r s f f' q' in (
      e ∙ ap (λ z. encode (combined z w)) o.0 ∙ ap (λ z. encode (combined v' z)) n.0 ∙ sym e',
      ap (λ z. 92 ∷ 117 ∷ z) (g ∙ ap (λ z. z ++ 92 ∷ 117 ∷ es) o.1 ∙ ap (λ z. ds' ++ 92 ∷ 117 ∷ z) n.1 ∙ sym g'),
    )

-- behind the backslash: an escape of two bytes isn't one of digits, and one of four digits isn't the first half of a pair
no-short : (e m : ℕ) (r t : List ℕ) → short_escape e ≡ Some m → 92 ∷ e ∷ r ≡ 92 ∷ 117 ∷ t → ⊥
no-short e m r t f q = no-short-u e m f (let i : e ≡ 117 = cc in i)

no-pair : (v v' : ℕ) (ds ds' es ts r s : List ℕ) → HexDigits 3 0 v ds → IsNoSurrogate v → HexDigits 3 0 v' ds' → IsHigh v' → ts ≡ ds' ++ 92 ∷ 117 ∷ es → ds ++ r ≡ ts ++ s → ⊥
no-pair v v' ds ds' es ts r s d n d' h g q =
    let o = digits-same 3 0 v v' ds ds' r (92 ∷ 117 ∷ (es ++ s)) d d' (q ∙ ap (λ z. z ++ s) g ∙ append_assoc ds' (92 ∷ 117 ∷ es) s) in
    no-half v v' o.0 n h

unicode-same : (v v' : ℕ) (m m' ds ds' r s : List ℕ) → HexDigits 3 0 v ds → HexDigits 3 0 v' ds' → m ≡ encode v → m' ≡ encode v' → ds ++ r ≡ ds' ++ s → (m ≡ m') × (92 ∷ 117 ∷ ds ≡ 92 ∷ 117 ∷ ds')
unicode-same v v' m m' ds ds' r s d d' e e' q =
    let o = digits-same 3 0 v v' ds ds' r s d d' q in
    (e ∙ ap encode o.0 ∙ sym e', ap (λ z. 92 ∷ 117 ∷ z) o.1)

escape-same : (m n x y r s : List ℕ) → (p : Char m x) → (q : Char n y) → begin-of m x p ≡ as_escape → begin-of n y q ≡ as_escape → x ++ r ≡ y ++ s → (m ≡ n) × (x ≡ y)
escape-same m n x y r s (plain {c = c} a b i o) q f g e = absurd (let h : as_plain ≡ as_escape = f in cc)
escape-same m n x y r s (wide {b = b} {bytes = bytes} l i o) q f g e = absurd (let h : as_wide ≡ as_escape = f in cc)
escape-same m n x y r s (short {e = c} {m = z} i) (plain {c = c'} a' b' i' o') f g e = absurd (let h : as_plain ≡ as_escape = g in cc)
escape-same m n x y r s (short {e = c} {m = z} i) (wide {b = b'} {bytes = bytes'} l' i' o') f g e = absurd (let h : as_wide ≡ as_escape = g in cc)
escape-same m n x y r s (short {e = c} {m = z} i) (short {e = c'} {m = z'} i') f g e = short-same c c' z z' r s i i' e
escape-same m n x y r s (short {e = c} {m = z} i) (unicode {ds = ds'} v' d' k' u') f g e = absurd (no-short c z r (ds' ++ s) i e)
escape-same m n x y r s (short {e = c} {m = z} i) (pair {ds = ds'} {es = es'} {ts = ts'} v' w' d' h' f' l' u' g') f g e = absurd (no-short c z r (ts' ++ s) i e)
escape-same m n x y r s (unicode {ds = ds} v d k u) (plain {c = c'} a' b' i' o') f g e = absurd (let h : as_plain ≡ as_escape = g in cc)
escape-same m n x y r s (unicode {ds = ds} v d k u) (wide {b = b'} {bytes = bytes'} l' i' o') f g e = absurd (let h : as_wide ≡ as_escape = g in cc)
escape-same m n x y r s (unicode {ds = ds} v d k u) (short {e = c'} {m = z'} i') f g e = absurd (no-short c' z' s (ds ++ r) i' (sym e))
escape-same m n x y r s (unicode {ds = ds} v d k u) (unicode {ds = ds'} v' d' k' u') f g e = unicode-same v v' m n ds ds' r s d d' u u' (behind-u (ds ++ r) (ds' ++ s) e)
escape-same m n x y r s (unicode {ds = ds} v d k u) (pair {ds = ds'} {es = es'} {ts = ts'} v' w' d' h' f' l' u' g') f g e = absurd (no-pair v v' ds ds' es' ts' r s d k d' h' g' (behind-u (ds ++ r) (ts' ++ s) e))
escape-same m n x y r s (pair {ds = ds} {es = es} {ts = ts} v w d h i l u j) (plain {c = c'} a' b' i' o') f g e = absurd (let h : as_plain ≡ as_escape = g in cc)
escape-same m n x y r s (pair {ds = ds} {es = es} {ts = ts} v w d h i l u j) (wide {b = b'} {bytes = bytes'} l' i' o') f g e = absurd (let h : as_wide ≡ as_escape = g in cc)
escape-same m n x y r s (pair {ds = ds} {es = es} {ts = ts} v w d h i l u j) (short {e = c'} {m = z'} i') f g e = absurd (no-short c' z' s (ts ++ r) i' (sym e))
escape-same m n x y r s (pair {ds = ds} {es = es} {ts = ts} v w d h i l u j) (unicode {ds = ds'} v' d' k' u') f g e = absurd (no-pair v' v ds' ds es ts s r d' k' d h j (sym (behind-u (ts ++ r) (ds' ++ s) e)))
escape-same m n x y r s (pair {ds = ds} {es = es} {ts = ts} v w d h i l u j) (pair {ds = ds'} {es = es'} {ts = ts'} v' w' d' h' i' l' u' j') f g e = pair-same v w v' w' m n ds es ts ds' es' ts' r s d i d' i' u u' j j' (behind-u (ts ++ r) (ts' ++ s) e)

-- two characters that begin alike
alike-same : (m n x y r s : List ℕ) → (p : Char m x) → (q : Char n y) → begin-of m x p ≡ begin-of n y q → x ++ r ≡ y ++ s → (m ≡ n) × (x ≡ y)
alike-same m n x y r s (plain {c = c} a b i o) (plain {c = c'} a' b' i' o') f e = let k = head-is c c' r s e in (ap (λ z. z ∷ []) k, ap (λ z. z ∷ []) k)
alike-same m n x y r s (plain {c = c} a b i o) (wide {b = b'} {bytes = bytes'} l' i' o') f e = absurd (let h : as_plain ≡ as_wide = f in cc)
alike-same m n x y r s (plain {c = c} a b i o) (short {e = c'} {m = z'} i') f e = absurd (let h : as_plain ≡ as_escape = f in cc)
alike-same m n x y r s (plain {c = c} a b i o) (unicode {ds = ds'} v' d' k' u') f e = absurd (let h : as_plain ≡ as_escape = f in cc)
alike-same m n x y r s (plain {c = c} a b i o) (pair {ds = ds'} {es = es'} {ts = ts'} v' w' d' h' i' l' u' j') f e = absurd (let h : as_plain ≡ as_escape = f in cc)
alike-same m n x y r s (wide {b = b} {bytes = bytes} l i o) (plain {c = c'} a' b' i' o') f e = absurd (let h : as_wide ≡ as_plain = f in cc)
alike-same m n x y r s (wide {b = b} {bytes = bytes} l i o) (wide {b = b'} {bytes = bytes'} l' i' o') f e = let k = wide-same b b' l l' bytes bytes' r s i i' o o' e in (k, k)
alike-same m n x y r s (wide {b = b} {bytes = bytes} l i o) (short {e = c'} {m = z'} i') f e = absurd (let h : as_wide ≡ as_escape = f in cc)
alike-same m n x y r s (wide {b = b} {bytes = bytes} l i o) (unicode {ds = ds'} v' d' k' u') f e = absurd (let h : as_wide ≡ as_escape = f in cc)
alike-same m n x y r s (wide {b = b} {bytes = bytes} l i o) (pair {ds = ds'} {es = es'} {ts = ts'} v' w' d' h' i' l' u' j') f e = absurd (let h : as_wide ≡ as_escape = f in cc)
alike-same m n x y r s (short {e = c} {m = z} i) q f e = escape-same m n x y r s (short i) q refl (sym f) e
alike-same m n x y r s (unicode {ds = ds} v d k u) q f e = escape-same m n x y r s (unicode v d k u) q refl (sym f) e
alike-same m n x y r s (pair {ds = ds} {es = es} {ts = ts} v w d h i l u j) q f e = escape-same m n x y r s (pair v w d h i l u j) q refl (sym f) e

char-same : (m n x y r s : List ℕ) → Char m x → Char n y → x ++ r ≡ y ++ s → (m ≡ n) × (x ≡ y)
char-same m n x y r s p q e = alike-same m n x y r s p q (apart (begin-of m x p) (begin-of n y q) x y r s (begins-so m x p) (begins-so n y q) e) e

chars-same : (m n x y r s : List ℕ) → Chars m x → Chars n y → x ++ 34 ∷ r ≡ y ++ 34 ∷ s → (m ≡ n) × (x ≡ y)
chars-same m n x y r s none none e = (refl, refl)
chars-same m n x y r s none (more {m = c'} {ms = cs'} {s = t'} {ss = ts'} ch' rest' i' j') e =
    absurd (no-quote (begin-of c' t' ch') t' (ts' ++ 34 ∷ s) r (begins-so c' t' ch') (sym (append_assoc t' ts' (34 ∷ s)) ∙ ap (λ z. z ++ 34 ∷ s) (sym j') ∙ sym e))
chars-same m n x y r s (more {m = c} {ms = cs} {s = t} {ss = ts} ch rest i j) none e =
    absurd (no-quote (begin-of c t ch) t (ts ++ 34 ∷ r) s (begins-so c t ch) (sym (append_assoc t ts (34 ∷ r)) ∙ ap (λ z. z ++ 34 ∷ r) (sym j) ∙ e))
chars-same m n x y r s (more {m = c} {ms = cs} {s = t} {ss = ts} ch rest i j) (more {m = c'} {ms = cs'} {s = t'} {ss = ts'} ch' rest' i' j') e =
    let p : t ++ (ts ++ 34 ∷ r) ≡ t' ++ (ts' ++ 34 ∷ s) = sym (append_assoc t ts (34 ∷ r)) ∙ fronts x y (t ++ ts) (t' ++ ts') (34 ∷ r) (34 ∷ s) j j' e ∙ append_assoc t' ts' (34 ∷ s) in
    let o = char-same c c' t t' (ts ++ 34 ∷ r) (ts' ++ 34 ∷ s) ch ch' p in
    let p' : t' ++ (ts ++ 34 ∷ r) ≡ t' ++ (ts' ++ 34 ∷ s) = ap (λ z. z ++ (ts ++ 34 ∷ r)) (sym o.1) ∙ p in
    let k = chars-same cs cs' ts ts' r s rest rest' (append_cancel_left t' (ts ++ 34 ∷ r) (ts' ++ 34 ∷ s) p') in
    (i ∙ ap (λ z. z ++ cs) o.0 ∙ ap (λ z. c' ++ z) k.0 ∙ sym i', j ∙ ap (λ z. z ++ ts) o.1 ∙ ap (λ z. t' ++ z) k.1 ∙ sym j')

pub strings-same : (m n x y r s : List ℕ) → IsString m x → IsString n y → x ++ r ≡ y ++ s → (m ≡ n) × (x ≡ y)
strings-same m n x y r s (a, i, (b, j, h)) (a', i', (b', j', h')) e =
    let k : x ≡ 34 ∷ (b ++ 34 ∷ []) = i ∙ ap (λ z. 34 ∷ z) j in
    let k' : y ≡ 34 ∷ (b' ++ 34 ∷ []) = i' ∙ ap (λ z. 34 ∷ z) j' in
    let f : 34 ∷ ((b ++ 34 ∷ []) ++ r) ≡ 34 ∷ ((b' ++ 34 ∷ []) ++ s) = fronts x y (34 ∷ (b ++ 34 ∷ [])) (34 ∷ (b' ++ 34 ∷ [])) r s k k' e in
    let g : b ++ (34 ∷ r) ≡ b' ++ (34 ∷ s) = sym (append_assoc b (34 ∷ []) r) ∙ tail-is 34 34 ((b ++ 34 ∷ []) ++ r) ((b' ++ 34 ∷ []) ++ s) f ∙ append_assoc b' (34 ∷ []) s in
    let o = chars-same m n b b' r s h h' g in
    (o.0, k ∙ ap (λ z. 34 ∷ (z ++ 34 ∷ [])) o.1 ∙ sym k')
