-- In a string: what may follow is taken, and what follows behind a byte that is taken follows with it.
use Rattle.std.proofs.Common.{lit≤, lit<, length-append, ◌≡◌, ℕ, zero, suc, ◌+◌, ◌-◌, ◌*◌, ◌<◌, ◌≤◌, inl, inr, Bool, true, false, cond, ◌&&◌, eqb, leb, List, [], ◌∷◌, ◌++◌, length, refl, sym, ap, ◌∙◌, subst, arith, append_assoc, Option, Some, None}
use Rattle.std.proofs.lemmas.Bool.{cond_both, cases_lt, cases_eq, eqb-true, eqb-false, le-leb, lt-leb, eq-eqb, ne_eqb, false≢true}
use lib.Utf8.{encode}
use Rattle.jl_model.specs.JsonStrings.{hex_value, short_escape, Lead, lead_of, Tail, HexDigits, IsHigh, IsLow, IsNoSurrogate, combined, Char, Chars, Quoted}
use Rattle.jl_model.specs.JsonStrings.Char.{plain, wide, short, unicode, pair}
use Rattle.jl_model.specs.JsonStrings.Chars.{none, more}
use Rattle.jl_token.specs.declared.strings.InString.{InString}
use Rattle.jl_token.specs.declared.strings.InString.TheVariants as at
use Rattle.jl_token.specs.StringMachine.{Did, lead_did, plain_did, tail_did, escape_did, value_did, hex_did, low_did, string_did, With, TailEnd, LowEnd, HighEscapeEnd, HighEnd, ValueEnd, HexEnd, EscapeEnd, EndOf, HexFormed, LowFormed, InFormed}
use Rattle.jl_token.specs.StringMachine.Did.{bad, ends, stays}
use Rattle.jl_token.proofs.Heads.{head_is, tail_is}

pub data PlainGoes (c : ℕ) (m t : List ℕ) : Type 0 where
  closes : c ≡ 34 → m ≡ [] → t ≡ [] → PlainGoes c m t
  on : 32 ≤ c → c < 128 → (c ≡ 34 → ⊥) → (c ≡ 92 → ⊥) → With (c ∷ []) m t → PlainGoes c m t
  begins : (l : Lead) → lead_of c ≡ Some l → (ms : List ℕ) → m ≡ c ∷ ms → TailEnd l.later l.low l.high ms t → PlainGoes c m t
  escapes : c ≡ 92 → EscapeEnd m t → PlainGoes c m t

char_first : (c : ℕ) {m1 s : List ℕ} → Char m1 s → (ms ss m t : List ℕ) → m ≡ m1 ++ ms → Chars ms ss → c ∷ t ≡ s ++ (ss ++ 34 ∷ []) → PlainGoes c m t
char_first c (plain {c = d} a b n o) ms ss m t e r q =
    let i : d ≡ c = sym (head_is c d t (ss ++ 34 ∷ []) q) in
    on (subst (λ x. 32 ≤ x) i a) (subst (λ x. x < 128) i b) (subst (λ x. x ≡ 34 → ⊥) i n) (subst (λ x. x ≡ 92 → ⊥) i o) (ms, e ∙ ap (λ x. x ∷ ms) i, (ss, tail_is c d t (ss ++ 34 ∷ []) q, r))
char_first c (wide {b = b} {bytes = bs} l f g) ms ss m t e r q =
    let i : b ≡ c = sym (head_is c b t (bs ++ (ss ++ 34 ∷ [])) q) in
    begins l (subst (λ x. lead_of x ≡ Some l) i f) (bs ++ ms) (e ∙ ap (λ x. x ∷ (bs ++ ms)) i) (bs, ss ++ 34 ∷ [], g, tail_is c b t (bs ++ (ss ++ 34 ∷ [])) q, (ms, refl, (ss, refl, r)))
char_first c (short {e = d} {m = x} f) ms ss m t e r q =
    escapes (head_is c 92 t (d ∷ (ss ++ 34 ∷ [])) q) (inl (d, x, ss ++ 34 ∷ [], tail_is c 92 t (d ∷ (ss ++ 34 ∷ [])) q, f, (ms, e, (ss, refl, r))))
char_first c (unicode {m = n} {ds = ds} v f g h) ms ss m t e r q =
    escapes (head_is c 92 t (117 ∷ (ds ++ (ss ++ 34 ∷ []))) q) (inr (ds ++ (ss ++ 34 ∷ []), tail_is c 92 t (117 ∷ (ds ++ (ss ++ 34 ∷ []))) q, (v, ds, ss ++ 34 ∷ [], f, refl, inl (g, (ms, e ∙ ap (λ x. x ++ ms) h, (ss, refl, r))))))
char_first c (pair {m = n} {ds = ds} {es = es} {ts = ts} v w f g h k a b) ms ss m t e r q =
    let rest : List ℕ = ss ++ 34 ∷ [] in
    let p : ts ++ rest ≡ ds ++ 92 ∷ 117 ∷ (es ++ rest) = ap (λ x. x ++ rest) b ∙ append_assoc ds (92 ∷ 117 ∷ es) rest in
    escapes (head_is c 92 t (117 ∷ (ts ++ rest)) q) (inr (ts ++ rest, tail_is c 92 t (117 ∷ (ts ++ rest)) q, (v, ds, 92 ∷ 117 ∷ (es ++ rest), f, p, inr (g, (117 ∷ (es ++ rest), refl, (es ++ rest, refl, (w, es, rest, h, k, refl, (ms, e ∙ ap (λ x. x ++ ms) a, (ss, refl, r)))))))))

chars_first : (c : ℕ) {m body : List ℕ} → Chars m body → (t : List ℕ) → c ∷ t ≡ body ++ 34 ∷ [] → PlainGoes c m t
chars_first c none t q = closes (head_is c 34 t [] q) refl (tail_is c 34 t [] q)
chars_first c (more {m = m1} {ms = ms} {s = s} {ss = ss} {whole = m} {text = body} ch r e f) t q = char_first c ch ms ss m t e r (q ∙ ap (λ x. x ++ 34 ∷ []) f ∙ append_assoc s ss (34 ∷ []))

pub plain_out : (c : ℕ) (m t : List ℕ) → Quoted m (c ∷ t) → PlainGoes c m t
plain_out c m t h = chars_first c h.2 t h.1

-- one character in front
put : {m1 s : List ℕ} (m t : List ℕ) → Char m1 s → Quoted m t → Quoted (m1 ++ m) (s ++ t)
put {m1} {s} m t ch h = (s ++ h.0, ap (λ x. s ++ x) h.1 ∙ sym (append_assoc s h.0 (34 ∷ [])), more ch h.2 refl refl)

put_with : {m1 s : List ℕ} (m t : List ℕ) → Char m1 s → With m1 m t → Quoted m (s ++ t)
put_with {m1} {s} m t ch h = subst (λ x. Quoted x (s ++ t)) (sym h.1) (put h.0 t ch h.2)

-- behind a backslash
escape_in : (m t : List ℕ) → EscapeEnd m t → Quoted m (92 ∷ t)
escape_in m t (inl h) = subst (λ x. Quoted m (92 ∷ x)) (sym h.3) (put_with m h.2 (short h.4) h.5)
escape_in m t (inr h) = subst (λ x. Quoted m (92 ∷ x)) (sym h.1) (go h.2.5)
  where
    v : ℕ
    v = h.2.0

    ds : List ℕ
    ds = h.2.1

    ts : List ℕ
    ts = h.2.2

    go : ValueEnd v m ts → Quoted m (92 ∷ 117 ∷ h.0)
    go (inl k) = subst (λ x. Quoted m (92 ∷ 117 ∷ x)) (sym h.2.4) (put_with m ts (unicode v h.2.3 k.0 refl) k.1)
    go (inr k) =
        let s = k.1 in
        let l = s.2 in
        let w = l.2 in
        let e : h.0 ≡ (ds ++ 92 ∷ 117 ∷ w.1) ++ w.2 = h.2.4 ∙ ap (λ x. ds ++ x) (s.1 ∙ ap (λ x. 92 ∷ x) (l.1 ∙ ap (λ x. 117 ∷ x) w.5)) ∙ sym (append_assoc ds (92 ∷ 117 ∷ w.1) w.2) in
        subst (λ x. Quoted m (92 ∷ 117 ∷ x)) (sym e) (put_with m w.2 (pair v w.0 h.2.3 k.0 w.3 w.4 refl refl) w.6)

-- ---- what may follow is taken
abbrev pub DidFollows : Did → List ℕ → List ℕ → Type 0
DidFollows bad m t = ⊥
DidFollows ends m t = (m ≡ []) × (t ≡ [])
DidFollows (stays ds s) m t = (ms : List ℕ) × (m ≡ ds ++ ms) × EndOf s ms t

if_true : (b : Bool) (X Y : Did) (m t : List ℕ) → b ≡ true → DidFollows X m t → DidFollows (cond b X Y) m t
if_true b X Y m t e f = subst (λ x. DidFollows (cond x X Y) m t) (sym e) f

if_false : (b : Bool) (X Y : Did) (m t : List ℕ) → b ≡ false → DidFollows Y m t → DidFollows (cond b X Y) m t
if_false b X Y m t e f = subst (λ x. DidFollows (cond x X Y) m t) (sym e) f

pub both : (a b c : ℕ) → a ≤ c → c ≤ b → (leb a c && leb c b) ≡ true
both a b c l h = rw (le-leb a c l, le-leb c b h)

-- a first byte beyond ASCII is beyond ASCII
above : (a b c : ℕ) → 128 ≤ a → (leb a c && leb c b) ≡ true → 128 ≤ c
above a b c l e = grind arith

above_at : (a c : ℕ) → 128 ≤ a → eqb c a ≡ true → 128 ≤ c
above_at a c l e = omega (arith, eqb-true c a e)

pub lead_high : (c : ℕ) (l : Lead) → lead_of c ≡ Some l → 128 ≤ c
unfolding lead_of
lead_high c =
    cond_both (leb 194 c && leb c 223) _ _ (λ o. (l : Lead) → o ≡ Some l → 128 ≤ c) (λ e l q. above 194 223 c (omega arith) e) (λ _.
    cond_both (eqb c 224) _ _ (λ o. (l : Lead) → o ≡ Some l → 128 ≤ c) (λ e l q. above_at 224 c (omega arith) e) (λ _.
    cond_both (eqb c 237) _ _ (λ o. (l : Lead) → o ≡ Some l → 128 ≤ c) (λ e l q. above_at 237 c (omega arith) e) (λ _.
    cond_both (leb 225 c && leb c 239) _ _ (λ o. (l : Lead) → o ≡ Some l → 128 ≤ c) (λ e l q. above 225 239 c (omega arith) e) (λ _.
    cond_both (eqb c 240) _ _ (λ o. (l : Lead) → o ≡ Some l → 128 ≤ c) (λ e l q. above_at 240 c (omega arith) e) (λ _.
    cond_both (leb 241 c && leb c 243) _ _ (λ o. (l : Lead) → o ≡ Some l → 128 ≤ c) (λ e l q. above 241 243 c (omega arith) e) (λ _.
    cond_both (eqb c 244) _ _ (λ o. (l : Lead) → o ≡ Some l → 128 ≤ c) (λ e l q. above_at 244 c (omega arith) e) (λ _ l q. cc)))))))

-- a digit is below sixteen
pub hex_below : (c x : ℕ) → hex_value c ≡ Some x → x < 16
unfolding hex_value
hex_below c =
    cond_both (leb 48 c && leb c 57) _ _ (λ o. (x : ℕ) → o ≡ Some x → x < 16) (λ e x q. let f : c - 48 ≡ x = cc in grind arith) (λ _.
    cond_both (leb 65 c && leb c 70) _ _ (λ o. (x : ℕ) → o ≡ Some x → x < 16) (λ e x q. let f : c - 55 ≡ x = cc in grind arith) (λ _.
    cond_both (leb 97 c && leb c 102) _ _ (λ o. (x : ℕ) → o ≡ Some x → x < 16) (λ e x q. let f : c - 87 ≡ x = cc in grind arith) (λ _ x q. cc)))

no_escape_u : short_escape 117 ≡ None
unfolding short_escape
no_escape_u = refl

-- at.Plain
goes_plain : (c : ℕ) (m t : List ℕ) → PlainGoes c m t → DidFollows (plain_did c) m t
goes_plain c m t (closes i e f) = if_true _ _ _ m t (eq-eqb c 34 i) (e, f)
goes_plain c m t (escapes i h) = if_false _ _ _ m t (ne_eqb c 34 (λ e. omega arith)) (if_true _ _ _ m t (eq-eqb c 92 i) (m, refl, h))
goes_plain c m t (on a b n o h) = if_false _ _ _ m t (ne_eqb c 34 n) (if_false _ _ _ m t (ne_eqb c 92 o) (if_true _ _ _ m t (both 32 127 c a (omega arith)) h))
goes_plain c m t (begins l e ms q h) =
    let r = lead_high c l e in
    if_false _ _ _ m t (ne_eqb c 34 (λ e. omega arith)) (if_false _ _ _ m t (ne_eqb c 92 (λ e. omega arith)) (if_false _ _ _ m t (beyond c r)
    (subst (λ o. DidFollows (lead_did c o) m t) (sym e) (ms, q, h))))
  where
    beyond : (c : ℕ) → 128 ≤ c → (leb 32 c && leb c 127) ≡ false
    beyond c h = rw (le-leb 32 c (omega arith), lt-leb c 127 (omega arith))

-- later bytes of a character
goes_tail : (n l h c : ℕ) (m t : List ℕ) → TailEnd n l h m (c ∷ t) → DidFollows (tail_did n l h c) m t
goes_tail zero l h c m t (bs, ts, k, q, w) =
    let r : c ∷ t ≡ k.0 ∷ ts = q ∙ ap (λ x. x ++ ts) k.1 in
    let i : k.0 ≡ c = sym (head_is c k.0 t ts r) in
    if_true _ _ _ m t (both l h c (omega (arith, k.2)) (omega (arith, k.3))) (w.0, w.1 ∙ ap (λ x. x ++ w.0) k.1 ∙ ap (λ x. x ∷ w.0) i, subst (λ x. Quoted w.0 x) (sym (tail_is c k.0 t ts r)) w.2)
goes_tail (suc n) l h c m t (bs, ts, k, q, w) =
    let r : c ∷ t ≡ k.0 ∷ (k.1 ++ ts) = q ∙ ap (λ x. x ++ ts) k.2 in
    let i : k.0 ≡ c = sym (head_is c k.0 t (k.1 ++ ts) r) in
    if_true _ _ _ m t (both l h c (omega (arith, k.3)) (omega (arith, k.4))) (k.1 ++ w.0, w.1 ∙ ap (λ x. x ++ w.0) k.2 ∙ ap (λ x. x ∷ (k.1 ++ w.0)) i, (k.1, ts, k.5, tail_is c k.0 t (k.1 ++ ts) r, (w.0, refl, w.2)))

-- an at.Escape
goes_escape : (c : ℕ) (m t : List ℕ) → EscapeEnd m (c ∷ t) → DidFollows (escape_did c (short_escape c)) m t
goes_escape c m t (inl (e, x, ts, q, f, w)) =
    subst (λ o. DidFollows (escape_did c o) m t) (sym (ap short_escape (head_is c e t ts q) ∙ f)) (w.0, w.1, subst (λ x. Quoted w.0 x) (sym (tail_is c e t ts q)) w.2)
goes_escape c m t (inr (ts, q, h)) =
    let i : c ≡ 117 = head_is c 117 t ts q in
    subst (λ o. DidFollows (escape_did c o) m t) (sym (ap short_escape i ∙ no_escape_u)) (if_true _ _ _ m t (eq-eqb c 117 i) (m, refl, subst (λ x. HexEnd 3 0 m x) (sym (tail_is c 117 t ts q)) h))

under : (a b v : ℕ) → v < a → (leb a v && leb v b) ≡ false
under a b v h = rw (lt-leb a v h) refl

pub over : (a b v : ℕ) → a ≤ v → b < v → (leb a v && leb v b) ≡ false
over a b v l h = rw (le-leb a v l, lt-leb v b h) refl

-- the value of four digits
goes_value : (v : ℕ) (m t : List ℕ) → ValueEnd v m t → DidFollows (value_did v) m t
goes_value v m t (inl (inl a, w)) = if_false _ _ _ m t (under 55296 56319 v (omega arith)) (if_false _ _ _ m t (under 56320 57343 v (omega arith)) w)
goes_value v m t (inl (inr a, w)) = if_false _ _ _ m t (over 55296 56319 v (omega arith) (omega arith)) (if_false _ _ _ m t (over 56320 57343 v (omega arith) (omega arith)) w)
goes_value v m t (inr (k, h)) = if_true _ _ _ m t (both 55296 56319 v k.0 k.1) (m, refl, h)

no_low : (v : ℕ) (m t : List ℕ) → ValueEnd v m t → IsLow v → ⊥
no_low v m t (inl (inl a, w)) l = omega arith
no_low v m t (inl (inr a, w)) l = omega arith
no_low v m t (inr (k, h)) l = omega (arith, k)

-- two digits more stay within 256
near : (y v : ℕ) (ds : List ℕ) → HexDigits 1 y v ds → (y * 256 ≤ v) × (v < y * 256 + 256)
near y v ds h =
    let a : h.1 < 16 = hex_below h.0 h.1 h.4 in
    let k = h.5 in
    let b : k.1 < 16 = hex_below k.0 k.1 k.3 in
    (omega (arith, k.4), omega (arith, k.4))

hopeful : (n y v : ℕ) (ds m t : List ℕ) → HexDigits n y v ds → ValueEnd v m t → (eqb n 1 && (leb 220 y && leb y 223)) ≡ false
hopeful n y v ds m t d h = elim (cases_eq n 1) [
  | inr o ↦ rw (ne_eqb n 1 o) refl
  | inl e ↦
      let k = near y v ds (subst (λ x. HexDigits x y v ds) e d) in
      elim (cases_lt y 220) [
        | inl a ↦ rw (eq-eqb n 1 e, lt-leb 220 y a) refl
        | inr a ↦ elim (cases_lt 223 y) [ inl b ↦ rw (eq-eqb n 1 e, le-leb 220 y a, lt-leb y 223 b) refl | inr b ↦ absurd (no_low v m t h (omega (arith, k), omega (arith, k))) ]
      ]
]

-- a digit of an at.Escape
goes_hex : (n acc c : ℕ) (m t : List ℕ) → HexEnd n acc m (c ∷ t) → DidFollows (hex_did n acc (hex_value c)) m t
goes_hex zero acc c m t (v, ds, ts, d, q, h) =
    let r : c ∷ t ≡ d.0 ∷ ts = q ∙ ap (λ x. x ++ ts) d.2 in
    subst (λ o. DidFollows (hex_did zero acc o) m t) (sym (ap hex_value (head_is c d.0 t ts r) ∙ d.3))
    (goes_value (acc * 16 + d.1) m t (subst (λ x. ValueEnd (acc * 16 + d.1) m x) (sym (tail_is c d.0 t ts r)) (subst (λ x. ValueEnd x m ts) d.4 h)))
goes_hex (suc n) acc c m t (v, ds, ts, d, q, h) =
    let r : c ∷ t ≡ d.0 ∷ (d.2 ++ ts) = q ∙ ap (λ x. x ++ ts) d.3 in
    subst (λ o. DidFollows (hex_did (suc n) acc o) m t) (sym (ap hex_value (head_is c d.0 t (d.2 ++ ts) r) ∙ d.4))
    (if_false _ _ _ m t (hopeful n (acc * 16 + d.1) v d.2 m ts d.5 h) (m, refl, (v, d.2, ts, d.5, tail_is c d.0 t (d.2 ++ ts) r, h)))

pub three_near : (y v : ℕ) (ds : List ℕ) → HexDigits 2 y v ds → (y * 4096 ≤ v) × (v < y * 4096 + 4096)
three_near y v ds h =
    let a : h.1 < 16 = hex_below h.0 h.1 h.4 in
    let k = near (y * 16 + h.1) v h.2 h.5 in
    (omega (arith, k), omega (arith, k))

-- a digit of the second half of a pair
goes_low : (n v acc c : ℕ) (m t : List ℕ) → LowEnd n v acc m (c ∷ t) → DidFollows (low_did n v acc (hex_value c)) m t
goes_low zero v acc c m t (w, ds, ts, d, l, q, h) =
    let r : c ∷ t ≡ d.0 ∷ ts = q ∙ ap (λ x. x ++ ts) d.2 in
    subst (λ o. DidFollows (low_did zero v acc o) m t) (sym (ap hex_value (head_is c d.0 t ts r) ∙ d.3))
    (subst (λ x. With (encode (combined v (acc * 16 + d.1))) m x) (sym (tail_is c d.0 t ts r)) (subst (λ x. With (encode (combined v x)) m ts) d.4 h))
goes_low (suc n) v acc c m t (w, ds, ts, d, l, q, h) =
    let y : ℕ = acc * 16 + d.1 in
    let r : c ∷ t ≡ d.0 ∷ (d.2 ++ ts) = q ∙ ap (λ x. x ++ ts) d.3 in
    let next : LowEnd n v y m t = (w, d.2, ts, d.5, l, tail_is c d.0 t (d.2 ++ ts) r, h) in
    subst (λ o. DidFollows (low_did (suc n) v acc o) m t) (sym (ap hex_value (head_is c d.0 t (d.2 ++ ts) r) ∙ d.4))
    (elim (cases_eq n 2) [
      | inl e ↦
          let k = three_near y w d.2 (subst (λ x. HexDigits x y w d.2) e d.5) in
          if_true _ _ _ m t (eq-eqb n 2 e) (if_true _ _ _ m t (eq-eqb y 13 (omega (arith, k, l))) (m, refl, next))
      | inr o ↦ if_false _ _ _ m t (ne_eqb n 2 o) (elim (cases_eq n 1) [
        | inl e ↦
            let k = near y w d.2 (subst (λ x. HexDigits x y w d.2) e d.5) in
            if_true _ _ _ m t (eq-eqb n 1 e) (if_true _ _ _ m t (both 220 223 y (omega (arith, k, l)) (omega (arith, k, l))) (m, refl, next))
        | inr p ↦ if_false _ _ _ m t (ne_eqb n 1 p) (m, refl, next)
      ])
    ])

-- What may follow in a string is taken.
pub string_forward : (s : InString) (c : ℕ) (m t : List ℕ) → EndOf s m (c ∷ t) → DidFollows (string_did s c) m t
string_forward at.Plain c m t h = goes_plain c m t (plain_out c m t h)
string_forward (at.Tail n l u) c m t h = goes_tail n l u c m t h
string_forward at.Escape c m t h = goes_escape c m t h
string_forward (at.Hex n acc) c m t h = goes_hex n acc c m t h
string_forward (at.High v) c m t (ts, q, h) = if_true _ _ _ m t (eq-eqb c 92 (head_is c 92 t ts q)) (m, refl, subst (λ x. HighEscapeEnd v m x) (sym (tail_is c 92 t ts q)) h)
string_forward (at.HighEscape v) c m t (ts, q, h) = if_true _ _ _ m t (eq-eqb c 117 (head_is c 117 t ts q)) (m, refl, subst (λ x. LowEnd 3 v 0 m x) (sym (tail_is c 117 t ts q)) h)
string_forward (at.Low n v acc) c m t h = goes_low n v acc c m t h

-- ---- what follows behind a taken byte follows with it
abbrev pub DidBacks : InString → ℕ → Did → Type 0
DidBacks s c bad = Unit {0}
DidBacks s c ends = EndOf s [] (c ∷ [])
DidBacks s c (stays ds s') = InFormed s' × ((ms t : List ℕ) → EndOf s' ms t → EndOf s (ds ++ ms) (c ∷ t))

some_same : (a b : Lead) → ◌≡◌ {A = Option Lead} (Some a) (Some b) → a ≡ b
some_same a b e = cc

pub lead_fine : (c : ℕ) (l : Lead) → lead_of c ≡ Some l → l.low ≤ l.high
unfolding lead_of
lead_fine c =
    let P : Option Lead → Type 0 = λ o. (l : Lead) → o ≡ Some l → l.low ≤ l.high in
    let ok : (a : Lead) → a.low ≤ a.high → P (Some a) = λ a h l q. subst (λ (x : Lead). x.low ≤ x.high) (some_same a l q) h in
    cond_both (leb 194 c && leb c 223) _ _ P (λ e. ok _ (lit≤ tt)) (λ _.
    cond_both (eqb c 224) _ _ P (λ e. ok _ (lit≤ tt)) (λ _.
    cond_both (eqb c 237) _ _ P (λ e. ok _ (lit≤ tt)) (λ _.
    cond_both (leb 225 c && leb c 239) _ _ P (λ e. ok _ (lit≤ tt)) (λ _.
    cond_both (eqb c 240) _ _ P (λ e. ok _ (lit≤ tt)) (λ _.
    cond_both (leb 241 c && leb c 243) _ _ P (λ e. ok _ (lit≤ tt)) (λ _.
    cond_both (eqb c 244) _ _ P (λ e. ok _ (lit≤ tt)) (λ _ l q. cc)))))))

pub within : (a b c : ℕ) → (leb a c && leb c b) ≡ true → (a ≤ c) × (c ≤ b)
within a b c e = grind arith

pub not_within : (a b c : ℕ) → (leb a c && leb c b) ≡ false → (a ≤ c) × (c ≤ b) → ⊥
not_within a b c e h = false≢true (sym e ∙ both a b c h.0 h.1)

back_plain : (c : ℕ) → DidBacks at.Plain c (plain_did c)
back_plain c =
    cond_both (eqb c 34) _ _ (DidBacks at.Plain c) (λ e. ([], ap (λ x. x ∷ []) (eqb-true c 34 e), none)) (λ n.
    cond_both (eqb c 92) _ _ (DidBacks at.Plain c) (λ e. (tt, λ ms t h. subst (λ x. Quoted ms (x ∷ t)) (sym (eqb-true c 92 e)) (escape_in ms t h))) (λ o.
    cond_both (leb 32 c && leb c 127) _ _ (DidBacks at.Plain c) (λ e. let w = within 32 127 c e in (tt, λ ms t h. put ms t (plain w.0 (let b : c < 128 = omega (arith, w) in b) (eqb-false c 34 n) (eqb-false c 92 o)) h)) (λ _.
    go (lead_of c) refl)))
  where
    go : (o : Option Lead) → lead_of c ≡ o → DidBacks at.Plain c (lead_did c o)
    go None e = tt
    go (Some l) e = (
      lead_fine c l e,
      λ ms t h.
          let w = h.4 in
          let x : Quoted ((c ∷ h.0) ++ w.0) ((c ∷ h.0) ++ h.1) = put w.0 h.1 (wide l e h.2) w.2 in
          subst (λ z. Quoted (c ∷ ms) (c ∷ z)) (sym h.3) (subst (λ z. Quoted (c ∷ z) (c ∷ (h.0 ++ h.1))) (sym w.1) x),
    )

back_tail : (n l h c : ℕ) → DidBacks (at.Tail n l h) c (tail_did n l h c)
back_tail zero l h c = cond_both (leb l c && leb c h) _ _ (DidBacks (at.Tail zero l h) c)
    (λ e. let w = within l h c e in (tt, λ ms t k. (c ∷ [], t, (c, refl, w.0, w.1), refl, (ms, refl, k)))) (λ _. tt)
back_tail (suc n) l h c = cond_both (leb l c && leb c h) _ _ (DidBacks (at.Tail (suc n) l h) c)
    (λ e. let w = within l h c e in (lit≤ tt, λ ms t k. (c ∷ k.0, k.1, (c, k.0, refl, w.0, w.1, k.2), ap (λ x. c ∷ x) k.3, (k.4.0, ap (λ x. c ∷ x) k.4.1, k.4.2)))) (λ _. tt)

back_escape : (c : ℕ) (o : Option ℕ) → short_escape c ≡ o → DidBacks at.Escape c (escape_did c o)
back_escape c (Some x) e = (tt, λ ms t k. inl (c, x, t, refl, e, (ms, refl, k)))
back_escape c None e = cond_both (eqb c 117) _ _ (DidBacks at.Escape c) (λ i. ((refl, refl), λ ms t k. inr (t, ap (λ x. x ∷ t) (eqb-true c 117 i), k))) (λ _. tt)

back_value : (acc c x : ℕ) → hex_value c ≡ Some x → DidBacks (at.Hex zero acc) c (value_did (acc * 16 + x))
back_value acc c x e =
    let v : ℕ = acc * 16 + x in
    let one : (m t : List ℕ) → ValueEnd v m t → HexEnd zero acc m (c ∷ t) = λ m t k. (v, c ∷ [], t, (c, x, refl, e, refl), refl, k) in
    cond_both (leb 55296 v && leb v 56319) _ _ (DidBacks (at.Hex zero acc) c) (λ i. let w = within 55296 56319 v i in ((w.0, w.1), λ ms t k. one ms t (inr ((w.0, w.1), k)))) (λ n.
    cond_both (leb 56320 v && leb v 57343) _ _ (DidBacks (at.Hex zero acc) c) (λ _. tt) (λ o.
    (tt, λ ms t k. one (encode v ++ ms) t (inl (no_surrogate v (not_within 55296 56319 v n) (not_within 56320 57343 v o), (ms, refl, k))))))
  where
    no_surrogate : (v : ℕ) → ((55296 ≤ v) × (v ≤ 56319) → ⊥) → ((56320 ≤ v) × (v ≤ 57343) → ⊥) → IsNoSurrogate v
    no_surrogate v n o = elim (cases_lt v 55296) [
      | inl a ↦ inl a
      | inr a ↦ elim (cases_lt 57343 v) [ inl b ↦ inr b | inr b ↦ elim (cases_lt v 56320) [ inl d ↦ absurd (n (a, omega arith)) | inr d ↦ absurd (o (d, b)) ] ]
    ]

-- the next digit keeps the rule of form
hex_next : (n acc x : ℕ) → x < 16 → HexFormed (suc n) acc → ((n ≡ 1) × (220 ≤ acc * 16 + x) × (acc * 16 + x ≤ 223) → ⊥) → HexFormed n (acc * 16 + x)
hex_next zero acc x b f o = (omega (arith, f.0), λ h. f.1 (omega (arith, h), omega (arith, h)))
hex_next (suc zero) acc x b f o = (omega (arith, f), λ h. o (refl, h.0, h.1))
hex_next (suc (suc zero)) acc x b f o = omega (arith, f.1)
hex_next (suc (suc (suc n))) acc x b f o = absurd (omega (arith, f.0))

one_digit : (n acc c x : ℕ) (m t : List ℕ) → hex_value c ≡ Some x → HexEnd n (acc * 16 + x) m t → HexEnd (suc n) acc m (c ∷ t)
one_digit n acc c x m t e k = (k.0, c ∷ k.1, k.2, (c, x, k.1, refl, e, k.3), ap (λ z. c ∷ z) k.4, k.5)

back_hex : (n acc c : ℕ) (o : Option ℕ) → hex_value c ≡ o → HexFormed n acc → DidBacks (at.Hex n acc) c (hex_did n acc o)
back_hex n acc c None e f = tt
back_hex zero acc c (Some x) e f = back_value acc c x e
back_hex (suc n) acc c (Some x) e f =
    let y : ℕ = acc * 16 + x in
    cond_both (eqb n 1 && (leb 220 y && leb y 223)) _ _ (DidBacks (at.Hex (suc n) acc) c) (λ _. tt)
    (λ i. (hex_next n acc x (hex_below c x e) f (λ h. false≢true (sym i ∙ rw (eq-eqb n 1 h.0, both 220 223 y h.1 h.2) refl)), λ ms t k. one_digit n acc c x ms t e k))

low_digit : (n v acc c x : ℕ) (m t : List ℕ) → hex_value c ≡ Some x → LowEnd n v (acc * 16 + x) m t → LowEnd (suc n) v acc m (c ∷ t)
low_digit n v acc c x m t e k = (k.0, c ∷ k.1, k.2, (c, x, k.1, refl, e, k.3), k.4, ap (λ z. c ∷ z) k.5, k.6)

last_digit : (v acc c x : ℕ) (m t : List ℕ) → hex_value c ≡ Some x → LowFormed zero acc → With (encode (combined v (acc * 16 + x))) m t → LowEnd zero v acc m (c ∷ t)
last_digit v acc c x m t e f k = let b : x < 16 = hex_below c x e in (acc * 16 + x, c ∷ [], t, (c, x, refl, e, refl), (omega (arith, f), omega (arith, f)), refl, k)

low_next : (n acc x : ℕ) → x < 16 → LowFormed (suc n) acc → ((n ≡ 2) → acc * 16 + x ≡ 13) → ((n ≡ 1) → (220 ≤ acc * 16 + x) × (acc * 16 + x ≤ 223)) → LowFormed n (acc * 16 + x)
low_next zero acc x b f o p = (omega (arith, f), omega (arith, f))
low_next (suc zero) acc x b f o p = p refl
low_next (suc (suc zero)) acc x b f o p = o refl
low_next (suc (suc (suc n))) acc x b f o p = absurd (omega (arith, f.0))

back_low : (n v acc c : ℕ) (o : Option ℕ) → hex_value c ≡ o → IsHigh v → LowFormed n acc → DidBacks (at.Low n v acc) c (low_did n v acc o)
back_low n v acc c None e g f = tt
back_low zero v acc c (Some x) e g f = (tt, λ ms t k. last_digit v acc c x (encode (combined v (acc * 16 + x)) ++ ms) t e f (ms, refl, k))
back_low (suc n) v acc c (Some x) e g f =
    let y : ℕ = acc * 16 + x in
    let b : x < 16 = hex_below c x e in
    cond_both (eqb n 2) _ _ (DidBacks (at.Low (suc n) v acc) c)
    (λ i. cond_both (eqb y 13) _ _ (DidBacks (at.Low (suc n) v acc) c) (λ j. ((g, low_next n acc x b f (λ _. eqb-true y 13 j) (λ h. absurd (omega (arith, eqb-true n 2 i, h)))), λ ms t k. low_digit n v acc c x ms t e k)) (λ _. tt))
    (λ i. cond_both (eqb n 1) _ _ (DidBacks (at.Low (suc n) v acc) c)
    (λ j. cond_both (leb 220 y && leb y 223) _ _ (DidBacks (at.Low (suc n) v acc) c) (λ l. ((g, low_next n acc x b f (λ h. absurd (eqb-false n 2 i h)) (λ _. within 220 223 y l)), λ ms t k. low_digit n v acc c x ms t e k)) (λ _. tt))
    (λ j. ((g, low_next n acc x b f (λ h. absurd (eqb-false n 2 i h)) (λ h. absurd (eqb-false n 1 j h))), λ ms t k. low_digit n v acc c x ms t e k)))

-- What follows behind a byte that is taken follows with it.
pub string_back : (s : InString) (c : ℕ) → InFormed s → DidBacks s c (string_did s c)
string_back at.Plain c f = back_plain c
string_back (at.Tail n l h) c f = back_tail n l h c
string_back at.Escape c f = back_escape c (short_escape c) refl
string_back (at.Hex n acc) c f = back_hex n acc c (hex_value c) refl f
string_back (at.High v) c f = cond_both (eqb c 92) _ _ (DidBacks (at.High v) c) (λ e. (f, λ ms t k. (t, ap (λ x. x ∷ t) (eqb-true c 92 e), k))) (λ _. tt)
string_back (at.HighEscape v) c f = cond_both (eqb c 117) _ _ (DidBacks (at.HighEscape v) c) (λ e. ((f, (refl, refl)), λ ms t k. (t, ap (λ x. x ∷ t) (eqb-true c 117 e), k))) (λ _. tt)
string_back (at.Low n v acc) c f = back_low n v acc c (hex_value c) refl f.0 f.1

-- ---- some text may follow
hex_48 : hex_value 48 ≡ Some 0
unfolding hex_value
hex_48 = refl

hex_99 : hex_value 99 ≡ Some 12
unfolding hex_value
hex_99 = refl

hex_100 : hex_value 100 ≡ Some 13
unfolding hex_value
hex_100 = refl

escape_110 : short_escape 110 ≡ Some 10
unfolding short_escape
escape_110 = refl

-- a long row of letters
pub letters : ℕ → List ℕ
letters zero = []
letters (suc n) = 97 ∷ letters n

pub length-letters : (n : ℕ) → length (letters n) ≡ n
unfolding letters
length-letters zero = refl
length-letters (suc n) = ap suc (length-letters n)

chars_letters : (n : ℕ) → Chars (letters n) (letters n)
unfolding letters
chars_letters zero = none
chars_letters (suc n) = more (plain (lit≤ tt) (lit< tt) (λ e. omega (arith, e)) (λ e. omega (arith, e))) (chars_letters n) refl refl

pub some_tail : (n l h : ℕ) → l ≤ h → (bs : List ℕ) × Tail n l h bs
some_tail zero l h f = (l ∷ [], (l, refl, omega arith, f))
some_tail (suc n) l h f = let r = some_tail n 128 191 (lit≤ tt) in (l ∷ r.0, (l, r.0, refl, omega arith, f, r.1))

-- whatever is being read can be ended, with this many letters before the closing quote
module _ (n : ℕ) where
  abbrev SomeEnd : (List ℕ → List ℕ → Type 0) → Type 0
  SomeEnd E = (m : List ℕ) × (t : List ℕ) × E m t × (n ≤ length m)

  abbrev close : List ℕ
  close = letters n ++ 34 ∷ []

  quote : (a : List ℕ) → With a (a ++ letters n) close
  quote a = (letters n, refl, (letters n, refl, chars_letters n))

  long : (a : List ℕ) → n ≤ length (a ++ letters n)
  long a = omega (arith, length-append a (letters n), length-letters n)

  some_low : (k v acc : ℕ) → LowFormed k acc → SomeEnd (LowEnd k v acc)
  some_low zero v acc f = let a : List ℕ = encode (combined v (acc * 16 + 0)) in (a ++ letters n, 48 ∷ close, last_digit v acc 48 0 (a ++ letters n) close hex_48 f (quote a), long a)
  some_low (suc zero) v acc f = let r = some_low zero v (acc * 16 + 0) (omega (arith, f), omega (arith, f)) in (r.0, 48 ∷ r.1, low_digit zero v acc 48 0 r.0 r.1 hex_48 r.2, r.3)
  some_low (suc (suc zero)) v acc f = let r = some_low (suc zero) v (acc * 16 + 12) (omega (arith, f), omega (arith, f)) in (r.0, 99 ∷ r.1, low_digit (suc zero) v acc 99 12 r.0 r.1 hex_99 r.2, r.3)
  some_low (suc (suc (suc zero))) v acc f = let r = some_low (suc (suc zero)) v (acc * 16 + 13) (omega (arith, f.1)) in (r.0, 100 ∷ r.1, low_digit (suc (suc zero)) v acc 100 13 r.0 r.1 hex_100 r.2, r.3)
  some_low (suc (suc (suc (suc k)))) v acc f = absurd (omega (arith, f.0))

  some_high : (v : ℕ) → SomeEnd (HighEnd v)
  some_high v = let r = some_low 3 v 0 (refl, refl) in (r.0, 92 ∷ 117 ∷ r.1, (117 ∷ r.1, refl, (r.1, refl, r.2)), r.3)

  some_value : (v : ℕ) → (IsLow v → ⊥) → SomeEnd (ValueEnd v)
  some_value v o = elim (cases_lt v 55296) [
    | inl a ↦ (encode v ++ letters n, close, inl (inl a, quote (encode v)), long (encode v))
    | inr a ↦ elim (cases_lt 57343 v) [
      | inl b ↦ (encode v ++ letters n, close, inl (inr b, quote (encode v)), long (encode v))
      | inr b ↦ elim (cases_lt v 56320) [ inl d ↦ let r = some_high v in (r.0, r.1, inr ((a, omega arith), r.2), r.3) | inr d ↦ absurd (o (d, b)) ]
    ]
  ]

  some_hex : (k acc : ℕ) → HexFormed k acc → SomeEnd (HexEnd k acc)
  some_hex zero acc f = let r = some_value (acc * 16 + 0) (λ h. f.1 (omega (arith, h), omega (arith, h))) in (r.0, 48 ∷ r.1, (acc * 16 + 0, 48 ∷ [], r.1, (48, 0, refl, hex_48, refl), refl, r.2), r.3)
  some_hex (suc k) acc f = let r = some_hex k (acc * 16 + 0) (hex_next k acc 0 (omega arith) f (λ h. omega (arith, h.1, h.2))) in (r.0, 48 ∷ r.1, one_digit k acc 48 0 r.0 r.1 hex_48 r.2, r.3)

  pub some_end : (s : InString) → InFormed s → SomeEnd (EndOf s)
  some_end at.Plain f = (letters n, close, (letters n, refl, chars_letters n), long [])
  some_end (at.Tail k l h) f = let r = some_tail k l h f in (r.0 ++ letters n, r.0 ++ close, (r.0, close, r.1, refl, quote r.0), long r.0)
  some_end at.Escape f = ((10 ∷ []) ++ letters n, 110 ∷ close, inl (110, 10, close, refl, escape_110, quote (10 ∷ [])), long (10 ∷ []))
  some_end (at.Hex k acc) f = some_hex k acc f
  some_end (at.High v) f = some_high v
  some_end (at.HighEscape v) f = let r = some_low 3 v 0 (refl, refl) in (r.0, 117 ∷ r.1, (r.1, refl, r.2), r.3)
  some_end (at.Low k v acc) f = some_low k v acc f.1
