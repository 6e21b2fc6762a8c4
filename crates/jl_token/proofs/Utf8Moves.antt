-- In a string: which bytes may follow for its bytes to be UTF-8.
use Rattle.std.proofs.Common.{◌≡◌, ℕ, zero, suc, ◌+◌, ◌*◌, ◌<◌, ◌≤◌, ◌↔◌, false, cond, ◌&&◌, eqb, leb, List, [], ◌∷◌, ◌++◌, refl, sym, ap, ◌∙◌, subst, arith, append-nil, Option, Some, None}
use Rattle.std.proofs.lemmas.Bool.{cond_both, eqb-true, leb-true, leb-false, false≢true}
use Rattle.jl_model.specs.declared.codes.Code.{Code}
use Rattle.jl_model.specs.declared.codes.Code.TheVariants as codes
use Rattle.jl_model.specs.JsonStrings.{hex_value, short_escape, Lead, lead_of, Utf8}
use Rattle.jl_model.specs.JsonStrings.Utf8.{none, ascii, wide}
use Rattle.jl_token.specs.declared.strings.InString.{InString}
use Rattle.jl_token.specs.declared.strings.InString.TheVariants as at
use Rattle.jl_token.specs.StringMachine.{Did, lead_did, plain_did, tail_did, escape_did, value_did, hex_did, low_did, string_did, lead_code, code_of, Utf8Tail, Utf8Rest}
use Rattle.jl_token.specs.StringMachine.Did.{bad, ends, stays}
use Rattle.jl_token.proofs.Heads.{head_is, tail_is}
use Rattle.jl_token.proofs.StringMoves.{lead_high, lead_fine, some_tail, within, both}

-- the first byte of UTF-8
pub data Utf8Goes (c : ℕ) (t : List ℕ) : Type 0 where
  short : c < 128 → Utf8 t → Utf8Goes c t
  long : (l : Lead) → lead_of c ≡ Some l → Utf8Tail l.later l.low l.high t → Utf8Goes c t

pub utf8_first : {bytes : List ℕ} → Utf8 bytes → (c : ℕ) (t : List ℕ) → bytes ≡ c ∷ t → Utf8Goes c t
utf8_first none c t e = absurd (let x : ⊥ = cc in x)
utf8_first (ascii {c = d} {rest = rest} l h) c t e = short (subst (λ x. x < 128) (head_is d c rest t e) l) (subst Utf8 (tail_is d c rest t e) h)
utf8_first (wide {b = b} {whole = whole} l bytes rest f k w h) c t e =
    long l (subst (λ x. lead_of x ≡ Some l) (head_is b c whole t e) f) (bytes, rest, k, sym (tail_is b c whole t e) ∙ w, h)

-- behind a byte of ASCII
ascii_back : (c : ℕ) (t : List ℕ) → c < 128 → Utf8Goes c t → Utf8 t
ascii_back c t l (short m h) = h
ascii_back c t l (long lead e h) = let r = lead_high c lead e in absurd (omega arith)

ascii_rest : (c : ℕ) → c < 128 → (t : List ℕ) → Utf8 (c ∷ t) ↔ Utf8 t
ascii_rest c l t = ((λ h. ascii_back c t l (utf8_first h c t refl)), (λ h. ascii l h))

-- behind the first byte of a longer character
lead_same : (c : ℕ) (l k : Lead) → lead_of c ≡ Some l → lead_of c ≡ Some k → l ≡ k
lead_same c l k e f = let q : ◌≡◌ {A = Option Lead} (Some l) (Some k) = sym e ∙ f in cc

wide_back : (c : ℕ) (l : Lead) (t : List ℕ) → lead_of c ≡ Some l → Utf8Goes c t → Utf8Tail l.later l.low l.high t
wide_back c l t e (short m h) = let r = lead_high c l e in absurd (omega arith)
wide_back c l t e (long k f h) = subst (λ (x : Lead). Utf8Tail x.later x.low x.high t) (lead_same c k l f e) h

wide_rest : (c : ℕ) (l : Lead) → lead_of c ≡ Some l → (t : List ℕ) → Utf8 (c ∷ t) ↔ Utf8Tail l.later l.low l.high t
wide_rest c l e t = ((λ h. wide_back c l t e (utf8_first h c t refl)), (λ h. wide l h.0 h.1 e h.2 h.3 h.4))

-- behind a later byte
pub last_rest : (l h c : ℕ) → l ≤ c → c ≤ h → (t : List ℕ) → Utf8Tail zero l h (c ∷ t) ↔ Utf8 t
last_rest l h c a b t = ((λ k. subst Utf8 (sym (tail_is c k.2.0 t k.1 (k.3 ∙ ap (λ x. x ++ k.1) k.2.1))) k.4), (λ k. (c ∷ [], t, (c, refl, a, b), refl, k)))

pub tail_rest : (n l h c : ℕ) → l ≤ c → c ≤ h → (t : List ℕ) → Utf8Tail (suc n) l h (c ∷ t) ↔ Utf8Tail n 128 191 t
tail_rest n l h c a b t = ((λ k. (k.2.1, k.1, k.2.5, tail_is c k.2.0 t (k.2.1 ++ k.1) (k.3 ∙ ap (λ x. x ++ k.1) k.2.2), k.4)), (λ k. (c ∷ k.0, k.1, (c, k.0, refl, a, b, k.2), ap (λ x. c ∷ x) k.3, k.4)))

-- bytes of escapes are ASCII
hex_ascii : (c x : ℕ) → hex_value c ≡ Some x → c < 128
unfolding hex_value
hex_ascii c =
    cond_both (leb 48 c && leb c 57) _ _ (λ o. (x : ℕ) → o ≡ Some x → c < 128) (λ e x q. let w = within 48 57 c e in omega (arith, w)) (λ _.
    cond_both (leb 65 c && leb c 70) _ _ (λ o. (x : ℕ) → o ≡ Some x → c < 128) (λ e x q. let w = within 65 70 c e in omega (arith, w)) (λ _.
    cond_both (leb 97 c && leb c 102) _ _ (λ o. (x : ℕ) → o ≡ Some x → c < 128) (λ e x q. let w = within 97 102 c e in omega (arith, w)) (λ _ x q. cc)))

escape_ascii : (c x : ℕ) → short_escape c ≡ Some x → c < 128
unfolding short_escape
escape_ascii c =
    let P : Option ℕ → Type 0 = λ o. (x : ℕ) → o ≡ Some x → c < 128 in
    cond_both (eqb c 34) _ _ P (λ e x q. omega (arith, eqb-true c 34 e)) (λ _.
    cond_both (eqb c 92) _ _ P (λ e x q. omega (arith, eqb-true c 92 e)) (λ _.
    cond_both (eqb c 47) _ _ P (λ e x q. omega (arith, eqb-true c 47 e)) (λ _.
    cond_both (eqb c 98) _ _ P (λ e x q. omega (arith, eqb-true c 98 e)) (λ _.
    cond_both (eqb c 102) _ _ P (λ e x q. omega (arith, eqb-true c 102 e)) (λ _.
    cond_both (eqb c 110) _ _ P (λ e x q. omega (arith, eqb-true c 110 e)) (λ _.
    cond_both (eqb c 114) _ _ P (λ e x q. omega (arith, eqb-true c 114 e)) (λ _.
    cond_both (eqb c 116) _ _ P (λ e x q. omega (arith, eqb-true c 116 e)) (λ _ x q. cc))))))))

-- what a byte that is taken says
abbrev pub DidUtf8 : InString → ℕ → Did → Type 0
DidUtf8 s c (stays bytes to) = (t : List ℕ) → Utf8Rest s (c ∷ t) ↔ Utf8Rest to t
DidUtf8 s c ends = Utf8Rest s (c ∷ [])
DidUtf8 s c bad = Unit {0}

plain_utf8 : (c : ℕ) → DidUtf8 at.Plain c (plain_did c)
plain_utf8 c =
    cond_both (eqb c 34) _ _ (DidUtf8 at.Plain c) (λ e. ascii (omega (arith, eqb-true c 34 e)) none) (λ _.
    cond_both (eqb c 92) _ _ (DidUtf8 at.Plain c) (λ e. ascii_rest c (omega (arith, eqb-true c 92 e))) (λ _.
    cond_both (leb 32 c && leb c 127) _ _ (DidUtf8 at.Plain c) (λ e. let w = within 32 127 c e in ascii_rest c (omega (arith, w))) (λ _.
    go (lead_of c) refl)))
  where
    go : (o : Option Lead) → lead_of c ≡ o → DidUtf8 at.Plain c (lead_did c o)
    go None e = tt
    go (Some l) e = wide_rest c l e

tail_utf8 : (n l h c : ℕ) → DidUtf8 (at.Tail n l h) c (tail_did n l h c)
tail_utf8 zero l h c = cond_both (leb l c && leb c h) _ _ (DidUtf8 (at.Tail zero l h) c) (λ e. let w = within l h c e in last_rest l h c w.0 w.1) (λ _. tt)
tail_utf8 (suc n) l h c = cond_both (leb l c && leb c h) _ _ (DidUtf8 (at.Tail (suc n) l h) c) (λ e. let w = within l h c e in tail_rest n l h c w.0 w.1) (λ _. tt)

escape_utf8 : (c : ℕ) (o : Option ℕ) → short_escape c ≡ o → DidUtf8 at.Escape c (escape_did c o)
escape_utf8 c (Some x) e = ascii_rest c (escape_ascii c x e)
escape_utf8 c None e = cond_both (eqb c 117) _ _ (DidUtf8 at.Escape c) (λ i. ascii_rest c (omega (arith, eqb-true c 117 i))) (λ _. tt)

value_utf8 : (n before c v : ℕ) → c < 128 → DidUtf8 (at.Hex n before) c (value_did v)
value_utf8 n before c v l =
    cond_both (leb 55296 v && leb v 56319) _ _ (DidUtf8 (at.Hex n before) c) (λ _. ascii_rest c l) (λ _.
    cond_both (leb 56320 v && leb v 57343) _ _ (DidUtf8 (at.Hex n before) c) (λ _. tt) (λ _. ascii_rest c l))

hex_utf8 : (n before c : ℕ) (o : Option ℕ) → hex_value c ≡ o → DidUtf8 (at.Hex n before) c (hex_did n before o)
hex_utf8 n before c None e = tt
hex_utf8 zero before c (Some x) e = value_utf8 zero before c (before * 16 + x) (hex_ascii c x e)
hex_utf8 (suc n) before c (Some x) e =
    cond_both (eqb n 1 && (leb 220 (before * 16 + x) && leb (before * 16 + x) 223)) _ _ (DidUtf8 (at.Hex (suc n) before) c) (λ _. tt) (λ _. ascii_rest c (hex_ascii c x e))

low_utf8 : (n v before c : ℕ) (o : Option ℕ) → hex_value c ≡ o → DidUtf8 (at.Low n v before) c (low_did n v before o)
low_utf8 n v before c None e = tt
low_utf8 zero v before c (Some x) e = ascii_rest c (hex_ascii c x e)
low_utf8 (suc n) v before c (Some x) e =
    let y : ℕ = before * 16 + x in
    let l = ascii_rest c (hex_ascii c x e) in
    cond_both (eqb n 2) _ _ (DidUtf8 (at.Low (suc n) v before) c)
    (λ _. cond_both (eqb y 13) _ _ (DidUtf8 (at.Low (suc n) v before) c) (λ _. l) (λ _. tt))
    (λ _. cond_both (eqb n 1) _ _ (DidUtf8 (at.Low (suc n) v before) c)
    (λ _. cond_both (leb 220 y && leb y 223) _ _ (DidUtf8 (at.Low (suc n) v before) c) (λ _. l) (λ _. tt))
    (λ _. l))

pub string_utf8 : (s : InString) (c : ℕ) → DidUtf8 s c (string_did s c)
string_utf8 at.Plain c = plain_utf8 c
string_utf8 (at.Tail n l h) c = tail_utf8 n l h c
string_utf8 at.Escape c = escape_utf8 c (short_escape c) refl
string_utf8 (at.Hex n before) c = hex_utf8 n before c (hex_value c) refl
string_utf8 (at.High v) c = cond_both (eqb c 92) _ _ (DidUtf8 (at.High v) c) (λ e. ascii_rest c (omega (arith, eqb-true c 92 e))) (λ _. tt)
string_utf8 (at.HighEscape v) c = cond_both (eqb c 117) _ _ (DidUtf8 (at.HighEscape v) c) (λ e. ascii_rest c (omega (arith, eqb-true c 117 e))) (λ _. tt)
string_utf8 (at.Low n v before) c = low_utf8 n v before c (hex_value c) refl

-- what the code of a byte that is wrong says
abbrev pub CodeSays : InString → ℕ → Code → Type 0
CodeSays s c codes.Utf8 = (t : List ℕ) → Utf8Rest s (c ∷ t) → ⊥
CodeSays s c codes.Syntax = (t : List ℕ) × Utf8Rest s (c ∷ t)
CodeSays s c _ = ⊥

no_lead : (c : ℕ) (t : List ℕ) → 127 < c → lead_of c ≡ None → Utf8Goes c t → ⊥
no_lead c t l e (short m h) = omega arith
no_lead c t l e (long k f h) = let q : ◌≡◌ {A = Option Lead} None (Some k) = sym e ∙ f in cc

abbrev ByteSays : ℕ → Code → Type 0
ByteSays c codes.Utf8 = (t : List ℕ) → Utf8 (c ∷ t) → ⊥
ByteSays c codes.Syntax = (t : List ℕ) × Utf8 (c ∷ t)
ByteSays c _ = ⊥

byte_says : (c : ℕ) → ByteSays c (cond (leb c 127) codes.Syntax (lead_code (lead_of c)))
byte_says c = cond_both (leb c 127) _ _ (ByteSays c)
    (λ e. ([], ascii (let l = leb-true c 127 e in omega arith) none))
    (λ e. go (lead_of c) refl (leb-false c 127 e))
  where
    go : (o : Option Lead) → lead_of c ≡ o → 127 < c → ByteSays c (lead_code o)
    go None e l = λ t h. no_lead c t l e (utf8_first h c t refl)
    go (Some k) e l = let r = some_tail k.later k.low k.high (lead_fine c k e) in (r.0, wide k r.0 [] e r.1 (sym (append-nil r.0)) none)

out_of_bounds : (l h c : ℕ) → (leb l c && leb c h) ≡ false → l ≤ c → c ≤ h → ⊥
out_of_bounds l h c e a b = false≢true (sym e ∙ both l h c a b)

tail_bad : (n l h c : ℕ) → tail_did n l h c ≡ bad → (leb l c && leb c h) ≡ false
tail_bad zero l h c = cond_both (leb l c && leb c h) _ _ (λ d. d ≡ bad → (leb l c && leb c h) ≡ false) (λ e q. cc) (λ e q. e)
tail_bad (suc n) l h c = cond_both (leb l c && leb c h) _ _ (λ d. d ≡ bad → (leb l c && leb c h) ≡ false) (λ e q. cc) (λ e q. e)

tail_refutes : (n l h c : ℕ) (t : List ℕ) → (leb l c && leb c h) ≡ false → Utf8Tail n l h (c ∷ t) → ⊥
tail_refutes zero l h c t e (bs, ts, k, q, w) =
    let i : c ≡ k.0 = head_is c k.0 t ts (q ∙ ap (λ x. x ++ ts) k.1) in
    out_of_bounds l h c e (omega (arith, k.2)) (omega (arith, k.3))
tail_refutes (suc n) l h c t e (bs, ts, k, q, w) =
    let i : c ≡ k.0 = head_is c k.0 t (k.1 ++ ts) (q ∙ ap (λ x. x ++ ts) k.2) in
    out_of_bounds l h c e (omega (arith, k.3)) (omega (arith, k.4))

from_byte : (s : InString) (c : ℕ) (code : Code) → ((t : List ℕ) → Utf8Rest s (c ∷ t) ↔ Utf8 (c ∷ t)) → ByteSays c code → CodeSays s c code
from_byte s c codes.Utf8 e b = λ t h. b t ((e t).0 h)
from_byte s c codes.Syntax e b = (b.0, (e b.0).1 b.1)
from_byte s c _ e b = absurd b

pub code_says : (s : InString) (c : ℕ) → string_did s c ≡ bad → CodeSays s c (code_of s c)
code_says (at.Tail n l h) c e = λ t k. tail_refutes n l h c t (tail_bad n l h c e) k
code_says at.Plain c e = from_byte at.Plain c (code_of at.Plain c) (λ t. ((λ h. h), (λ h. h))) (byte_says c)
code_says at.Escape c e = from_byte at.Escape c (code_of at.Escape c) (λ t. ((λ h. h), (λ h. h))) (byte_says c)
code_says (at.Hex n before) c e = from_byte (at.Hex n before) c (code_of (at.Hex n before) c) (λ t. ((λ h. h), (λ h. h))) (byte_says c)
code_says (at.High v) c e = from_byte (at.High v) c (code_of (at.High v) c) (λ t. ((λ h. h), (λ h. h))) (byte_says c)
code_says (at.HighEscape v) c e = from_byte (at.HighEscape v) c (code_of (at.HighEscape v) c) (λ t. ((λ h. h), (λ h. h))) (byte_says c)
code_says (at.Low n v before) c e = from_byte (at.Low n v before) c (code_of (at.Low n v before) c) (λ t. ((λ h. h), (λ h. h))) (byte_says c)
