-- The automaton in a string, in words of the crate's own: no part of the definition of JSON.
use Rattle.std.specs.Prelude.{◌≡◌, ℕ, zero, suc, ◌+◌, ◌*◌, ◌≤◌, ◌<◌, ◌⊎◌, cond, ◌&&◌, leb, eqb, List, [], ◌∷◌, ◌++◌, Option, Some, None}
use lib.Utf8.{encode}
use Rattle.jl_model.specs.declared.codes.Code.{Code}
use Rattle.jl_model.specs.declared.codes.Code.TheVariants as codes
use Rattle.jl_model.specs.JsonStrings.{hex_value, short_escape, Lead, lead_of, Tail, HexDigits, IsHigh, IsLow, IsNoSurrogate, combined, Quoted, Utf8}
use Rattle.jl_token.specs.declared.strings.InString.{InString}
use Rattle.jl_token.specs.declared.strings.InString.TheVariants as at

-- what a byte does: it is wrong, it closes the string, or the string goes on with these bytes more
pub data Did : Type 0 where
  bad : Did
  ends : Did
  stays : List ℕ → InString → Did

abbrev pub lead_did : ℕ → Option Lead → Did
lead_did c (Some l) = stays (c ∷ []) (at.Tail l.later l.low l.high)
lead_did c None = bad

abbrev pub plain_did : ℕ → Did
plain_did c = cond (eqb c 34) ends (cond (eqb c 92) (stays [] at.Escape) (cond (leb 32 c && leb c 127) (stays (c ∷ []) at.Plain) (lead_did c (lead_of c))))

abbrev pub tail_did : ℕ → ℕ → ℕ → ℕ → Did
tail_did zero l h c = cond (leb l c && leb c h) (stays (c ∷ []) at.Plain) bad
tail_did (suc n) l h c = cond (leb l c && leb c h) (stays (c ∷ []) (at.Tail n 128 191)) bad

abbrev pub escape_did : ℕ → Option ℕ → Did
escape_did c (Some x) = stays (x ∷ []) at.Plain
escape_did c None = cond (eqb c 117) (stays [] (at.Hex 3 0)) bad

abbrev pub value_did : ℕ → Did
value_did v = cond (leb 55296 v && leb v 56319) (stays [] (at.High v)) (cond (leb 56320 v && leb v 57343) bad (stays (encode v) at.Plain))

-- a digit after which only second halves of pairs could come is wrong
abbrev pub hex_did : ℕ → ℕ → Option ℕ → Did
hex_did n before None = bad
hex_did zero before (Some x) = value_did (before * 16 + x)
hex_did (suc n) before (Some x) = cond (eqb n 1 && (leb 220 (before * 16 + x) && leb (before * 16 + x) 223)) bad (stays [] (at.Hex n (before * 16 + x)))

-- a digit after which no second half of a pair can come is wrong
abbrev pub low_did : ℕ → ℕ → ℕ → Option ℕ → Did
low_did n v before None = bad
low_did zero v before (Some x) = stays (encode (combined v (before * 16 + x))) at.Plain
low_did (suc n) v before (Some x) = cond (eqb n 2) (cond (eqb (before * 16 + x) 13) (stays [] (at.Low n v (before * 16 + x))) bad) (cond (eqb n 1) (cond (leb 220 (before * 16 + x) && leb (before * 16 + x) 223) (stays [] (at.Low n v (before * 16 + x))) bad) (stays [] (at.Low n v (before * 16 + x))))

abbrev pub string_did : InString → ℕ → Did
string_did at.Plain c = plain_did c
string_did (at.Tail n l h) c = tail_did n l h c
string_did at.Escape c = escape_did c (short_escape c)
string_did (at.Hex n before) c = hex_did n before (hex_value c)
string_did (at.High v) c = cond (eqb c 92) (stays [] (at.HighEscape v)) bad
string_did (at.HighEscape v) c = cond (eqb c 117) (stays [] (at.Low 3 v 0)) bad
string_did (at.Low n v before) c = low_did n v before (hex_value c)

-- what is wrong with a byte that is
abbrev pub lead_code : Option Lead → Code
lead_code (Some l) = codes.Syntax
lead_code None = codes.Utf8

abbrev pub byte_code : ℕ → Code
byte_code c = cond (leb c 127) codes.Syntax (lead_code (lead_of c))

abbrev pub code_of : InString → ℕ → Code
code_of (at.Tail n l h) c = codes.Utf8
code_of _ c = byte_code c

-- ---- what may follow, with the bytes that it means; the closing quote is the last byte

-- some bytes more that mean themselves, or that mean these
abbrev pub With : List ℕ → List ℕ → List ℕ → Type 0
With meant m t = (ms : List ℕ) × (m ≡ meant ++ ms) × Quoted ms t

abbrev pub TailEnd : ℕ → ℕ → ℕ → List ℕ → List ℕ → Type 0
TailEnd n l h m t = (bs : List ℕ) × (ts : List ℕ) × Tail n l h bs × (t ≡ bs ++ ts) × With bs m ts

abbrev pub LowEnd : ℕ → ℕ → ℕ → List ℕ → List ℕ → Type 0
LowEnd n v before m t = (w : ℕ) × (ds : List ℕ) × (ts : List ℕ) × HexDigits n before w ds × IsLow w × (t ≡ ds ++ ts) × With (encode (combined v w)) m ts

abbrev pub HighEscapeEnd : ℕ → List ℕ → List ℕ → Type 0
HighEscapeEnd v m t = (ts : List ℕ) × (t ≡ 117 ∷ ts) × LowEnd 3 v 0 m ts

abbrev pub HighEnd : ℕ → List ℕ → List ℕ → Type 0
HighEnd v m t = (ts : List ℕ) × (t ≡ 92 ∷ ts) × HighEscapeEnd v m ts

abbrev pub ValueEnd : ℕ → List ℕ → List ℕ → Type 0
ValueEnd v m t = (IsNoSurrogate v × With (encode v) m t) ⊎ (IsHigh v × HighEnd v m t)

abbrev pub HexEnd : ℕ → ℕ → List ℕ → List ℕ → Type 0
HexEnd n before m t = (v : ℕ) × (ds : List ℕ) × (ts : List ℕ) × HexDigits n before v ds × (t ≡ ds ++ ts) × ValueEnd v m ts

abbrev pub EscapeEnd : List ℕ → List ℕ → Type 0
EscapeEnd m t = ((e : ℕ) × (x : ℕ) × (ts : List ℕ) × (t ≡ e ∷ ts) × (short_escape e ≡ Some x) × With (x ∷ []) m ts) ⊎ ((ts : List ℕ) × (t ≡ 117 ∷ ts) × HexEnd 3 0 m ts)

abbrev pub EndOf : InString → List ℕ → List ℕ → Type 0
EndOf at.Plain m t = Quoted m t
EndOf (at.Tail n l h) m t = TailEnd n l h m t
EndOf at.Escape m t = EscapeEnd m t
EndOf (at.Hex n before) m t = HexEnd n before m t
EndOf (at.High v) m t = HighEnd v m t
EndOf (at.HighEscape v) m t = HighEscapeEnd v m t
EndOf (at.Low n v before) m t = LowEnd n v before m t

-- what may follow for the bytes to be UTF-8
abbrev pub Utf8Tail : ℕ → ℕ → ℕ → List ℕ → Type 0
Utf8Tail n l h t = (bs : List ℕ) × (ts : List ℕ) × Tail n l h bs × (t ≡ bs ++ ts) × Utf8 ts

abbrev pub Utf8Rest : InString → List ℕ → Type 0
Utf8Rest (at.Tail n l h) t = Utf8Tail n l h t
Utf8Rest _ t = Utf8 t

-- ---- the rule of form

abbrev pub HexFormed : ℕ → ℕ → Type 0
HexFormed zero before = (before < 4096) × ((3520 ≤ before) × (before ≤ 3583) → ⊥)
HexFormed (suc zero) before = (before < 256) × ((220 ≤ before) × (before ≤ 223) → ⊥)
HexFormed (suc (suc zero)) before = before < 16
HexFormed (suc (suc (suc n))) before = (n ≡ 0) × (before ≡ 0)

abbrev pub LowFormed : ℕ → ℕ → Type 0
LowFormed zero before = (3520 ≤ before) × (before ≤ 3583)
LowFormed (suc zero) before = (220 ≤ before) × (before ≤ 223)
LowFormed (suc (suc zero)) before = before ≡ 13
LowFormed (suc (suc (suc n))) before = (n ≡ 0) × (before ≡ 0)

abbrev pub InFormed : InString → Type 0
InFormed at.Plain = Unit {0}
InFormed (at.Tail n l h) = l ≤ h
InFormed at.Escape = Unit {0}
InFormed (at.Hex n before) = HexFormed n before
InFormed (at.High v) = IsHigh v
InFormed (at.HighEscape v) = IsHigh v
InFormed (at.Low n v before) = IsHigh v × LowFormed n before
