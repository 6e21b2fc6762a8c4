-- Rows of tokens that follow a spot.
use Rattle.std.proofs.Common.{◌≡◌, ℕ, Bool, true, false, ◌&&◌, List, [], ◌∷◌, ◌++◌, Option, Some, None, IsTrue, append_assoc, refl, sym, ap, ◌∙◌, subst}
use Rattle.std.proofs.lemmas.Bool.{and_parts, and_from, false≢true}
use Rattle.jl_model.specs.Parts.{Parts}
use Rattle.jl_model.specs.LineTokens.{LineToken, token_bytes, is_token, ends_before, is_row, bytes_of, is_line_end, begins_tag}
use Rattle.jl_model.specs.LineTokens as tokens
use Rattle.jl_nquads.specs.Spots.{Spot, leads_to, goes, said}

pub both : {a b : Bool} → IsTrue a → IsTrue b → IsTrue (a && b)
both {a} {b} h k = and_from a b h k

-- a token that may follow, and what follows it
pub goes_on : (s r : Spot) (t : LineToken) (ts : List LineToken) → leads_to s t ≡ Some r → goes s (t ∷ ts) ≡ goes r ts
goes_on s r t ts e = ap (λ (o : Option Spot). elim o [ None ↦ false | Some x ↦ goes x ts ]) e

pub said_on : (s r : Spot) (t : LineToken) (ts : List LineToken) → leads_to s t ≡ Some r → said s (t ∷ ts) ≡ said r ts
said_on s r t ts e = ap (λ (o : Option Spot). elim o as (λ _. Option (List Parts)) [ None ↦ None | Some x ↦ said x ts ]) e

pub goes_where : (s : Spot) (t : LineToken) (ts : List LineToken) → IsTrue (goes s (t ∷ ts)) → (r : Spot) × (leads_to s t ≡ Some r) × IsTrue (goes r ts)
goes_where s t ts h = go (leads_to s t) refl h
  where
    go : (o : Option Spot) → leads_to s t ≡ o → elim o [ None ↦ false | Some x ↦ goes x ts ] ≡ true → (r : Spot) × (leads_to s t ≡ Some r) × IsTrue (goes r ts)
    go None e k = absurd (false≢true k)
    go (Some r) e k = (r, e, k)

pub said_where : (s : Spot) (t : LineToken) (ts : List LineToken) (q : List Parts) → said s (t ∷ ts) ≡ Some q → (r : Spot) × (leads_to s t ≡ Some r) × (said r ts ≡ Some q)
said_where s t ts q h = go (leads_to s t) refl h
  where
    go : (o : Option Spot) → leads_to s t ≡ o → elim o as (λ _. Option (List Parts)) [ None ↦ None | Some x ↦ said x ts ] ≡ Some q → (r : Spot) × (leads_to s t ≡ Some r) × (said r ts ≡ Some q)
    go None e k = absurd (let z : ⊥ = cc in z)
    go (Some r) e k = (r, e, k)

-- what says something goes
pub said_goes : (s : Spot) (ts : List LineToken) (q : List Parts) → said s ts ≡ Some q → IsTrue (goes s ts)
said_goes s [] q h = refl
said_goes s (t ∷ ts) q h = let (r, e, k) = said_where s t ts q h in goes_on s r t ts e ∙ said_goes r ts q k

-- the parts of a row
module _ (t : LineToken) (ts : List LineToken) (rest : List ℕ) (h : IsTrue (is_row (t ∷ ts) rest)) where
  pub head_is_token : IsTrue (is_token t)
  head_is_token = (and_parts (is_token t) (ends_before t (bytes_of ts ++ rest) && is_row ts rest) h).0

  behind : IsTrue (ends_before t (bytes_of ts ++ rest)) × IsTrue (is_row ts rest)
  behind = and_parts (ends_before t (bytes_of ts ++ rest)) (is_row ts rest) (and_parts (is_token t) (ends_before t (bytes_of ts ++ rest) && is_row ts rest) h).1

  pub head_ends : IsTrue (ends_before t (bytes_of ts ++ rest))
  head_ends = behind.0

  pub tail_is_row : IsTrue (is_row ts rest)
  tail_is_row = behind.1

pub row_from : (t : LineToken) (ts : List LineToken) (rest : List ℕ) → IsTrue (is_token t) → IsTrue (ends_before t (bytes_of ts ++ rest)) → IsTrue (is_row ts rest) → IsTrue (is_row (t ∷ ts) rest)
row_from t ts rest a b c = both a (both b c)

-- where a token ends is told by the next byte alone
pub ends_same : (t : LineToken) (b : ℕ) (x y : List ℕ) → ends_before t (b ∷ x) ≡ ends_before t (b ∷ y)
ends_same (tokens.iri w) b x y = refl
ends_same (tokens.label c) b x y = refl
ends_same (tokens.string w) b x y = refl
ends_same tokens.carets b x y = refl
ends_same (tokens.tag l) b x y = refl
ends_same tokens.dot b x y = refl
ends_same (tokens.comment c) b x y = refl
ends_same (tokens.line_end c) b x y = refl
ends_same (tokens.blank c) b x y = refl

pub ends_at_end : (t : LineToken) → IsTrue (ends_before t [])
ends_at_end (tokens.iri w) = refl
ends_at_end (tokens.label c) = refl
ends_at_end (tokens.string w) = refl
ends_at_end tokens.carets = refl
ends_at_end (tokens.tag l) = refl
ends_at_end tokens.dot = refl
ends_at_end (tokens.comment c) = refl
ends_at_end (tokens.line_end c) = refl
ends_at_end (tokens.blank c) = refl

-- a token has a first byte
pub has_byte : (t : LineToken) → (b : ℕ) × (bs : List ℕ) × (token_bytes t ≡ b ∷ bs)
has_byte (tokens.iri w) = (60, _, refl)
has_byte (tokens.label c) = (95, _, refl)
has_byte (tokens.string w) = (34, _, refl)
has_byte tokens.carets = (94, _, refl)
has_byte (tokens.tag l) = (64, _, refl)
has_byte tokens.dot = (46, _, refl)
has_byte (tokens.comment c) = (35, _, refl)
has_byte (tokens.line_end c) = (c, _, refl)
has_byte (tokens.blank c) = (c, _, refl)

-- before another token, what stands behind that doesn't matter
pub ends_before_next : (t u : LineToken) (ts : List LineToken) (x y : List ℕ) → IsTrue (ends_before t (bytes_of (u ∷ ts) ++ x)) → IsTrue (ends_before t (bytes_of (u ∷ ts) ++ y))
ends_before_next t u ts x y h =
    let (b, bs, e) = has_byte u in
    let f : (z : List ℕ) → bytes_of (u ∷ ts) ++ z ≡ b ∷ (bs ++ (bytes_of ts ++ z)) = λ z. append_assoc (token_bytes u) (bytes_of ts) z ∙ ap (λ w. w ++ (bytes_of ts ++ z)) e in
    subst (λ z. IsTrue (ends_before t z)) (sym (f y)) (sym (ends_same t b (bs ++ (bytes_of ts ++ x)) (bs ++ (bytes_of ts ++ y))) ∙ subst (λ z. IsTrue (ends_before t z)) (f x) h)
