-- What stands between the quotes of a string (RFC 8259, section 7), in UTF-8 (RFC 3629, section 4).
use Rattle.std.specs.Prelude.{◌≡◌, ℕ, zero, suc, ◌+◌, ◌-◌, ◌*◌, ◌≤◌, ◌<◌, ◌⊎◌, cond, ◌&&◌, leb, eqb, List, [], ◌∷◌, ◌++◌, Option, Some, None}
use lib.Utf8.{encode}

-- what a hexadecimal digit stands for
unfoldable pub hex_value : ℕ → Option ℕ
hex_value c = cond (leb 48 c && leb c 57) (Some (c - 48)) (cond (leb 65 c && leb c 70) (Some (c - 55)) (cond (leb 97 c && leb c 102) (Some (c - 87)) None))

-- what an escape of two bytes stands for, by its second byte: " \ / b f n r t
unfoldable pub short_escape : ℕ → Option ℕ
short_escape c = cond (eqb c 34) (Some 34) (cond (eqb c 92) (Some 92) (cond (eqb c 47) (Some 47) (cond (eqb c 98) (Some 8) (cond (eqb c 102) (Some 12) (cond (eqb c 110) (Some 10) (cond (eqb c 114) (Some 13) (cond (eqb c 116) (Some 9) None)))))))

-- a first byte of a character beyond ASCII: how many bytes come later than the next one, and the bounds of the next one
pub record Lead : Type 0 where
  pub later : ℕ
  pub low : ℕ
  pub high : ℕ

abbrev pub lead : ℕ → ℕ → ℕ → Option Lead
lead n l h = Some (record { later = n; low = l; high = h })

-- the table of UTF8-2, UTF8-3 and UTF8-4
unfoldable pub lead_of : ℕ → Option Lead
lead_of b = cond (leb 194 b && leb b 223) (lead 0 128 191) (cond (eqb b 224) (lead 1 160 191) (cond (eqb b 237) (lead 1 128 159) (cond (leb 225 b && leb b 239) (lead 1 128 191) (cond (eqb b 240) (lead 2 144 191) (cond (leb 241 b && leb b 243) (lead 2 128 191) (cond (eqb b 244) (lead 2 128 143) None))))))

-- the bytes behind a first byte: the next one within these bounds, the later ones UTF8-tail
abbrev pub Tail : ℕ → ℕ → ℕ → List ℕ → Type 0
Tail zero low high bytes = (b : ℕ) × (bytes ≡ b ∷ []) × (low ≤ b) × (b ≤ high)
Tail (suc n) low high bytes = (b : ℕ) × (rest : List ℕ) × (bytes ≡ b ∷ rest) × (low ≤ b) × (b ≤ high) × Tail n 128 191 rest

-- UTF8-octets: a row of UTF8-char
pub data Utf8 : List ℕ → Type 0 where
  none : Utf8 []
  ascii : {c : ℕ} {rest : List ℕ} → c < 128 → Utf8 rest → Utf8 (c ∷ rest)
  wide : {b : ℕ} {whole : List ℕ} (l : Lead) (bytes rest : List ℕ) → lead_of b ≡ Some l → Tail l.later l.low l.high bytes → whole ≡ bytes ++ rest → Utf8 rest → Utf8 (b ∷ whole)

-- n + 1 hexadecimal digits that make v of the number before them
abbrev pub HexDigits : ℕ → ℕ → ℕ → List ℕ → Type 0
HexDigits zero before v digits = (d : ℕ) × (x : ℕ) × (digits ≡ d ∷ []) × (hex_value d ≡ Some x) × (v ≡ before * 16 + x)
HexDigits (suc n) before v digits = (d : ℕ) × (x : ℕ) × (rest : List ℕ) × (digits ≡ d ∷ rest) × (hex_value d ≡ Some x) × HexDigits n (before * 16 + x) v rest

-- the first and the second half of a surrogate pair, and what is neither
abbrev pub IsHigh : ℕ → Type 0
IsHigh v = (55296 ≤ v) × (v ≤ 56319)

abbrev pub IsLow : ℕ → Type 0
IsLow v = (56320 ≤ v) × (v ≤ 57343)

abbrev pub IsNoSurrogate : ℕ → Type 0
IsNoSurrogate v = (v < 55296) ⊎ (57343 < v)

-- the character of a surrogate pair
abbrev pub combined : ℕ → ℕ → ℕ
combined v w = 65536 + (v - 55296) * 1024 + (w - 56320)

-- char: a character, by the bytes that it means and the bytes that spell it
pub data Char : List ℕ → List ℕ → Type 0 where
  -- unescaped, within ASCII
  plain : {c : ℕ} → 32 ≤ c → c < 128 → (c ≡ 34 → ⊥) → (c ≡ 92 → ⊥) → Char (c ∷ []) (c ∷ [])
  -- unescaped, beyond ASCII
  wide : {b : ℕ} {bytes : List ℕ} (l : Lead) → lead_of b ≡ Some l → Tail l.later l.low l.high bytes → Char (b ∷ bytes) (b ∷ bytes)
  -- escape and one byte
  short : {e m : ℕ} → short_escape e ≡ Some m → Char (m ∷ []) (92 ∷ e ∷ [])
  -- escape, u and four digits
  unicode : {m ds : List ℕ} (v : ℕ) → HexDigits 3 0 v ds → IsNoSurrogate v → m ≡ encode v → Char m (92 ∷ 117 ∷ ds)
  -- the same twice, for the halves of a surrogate pair
  pair : {m ds es ts : List ℕ} (v w : ℕ) → HexDigits 3 0 v ds → IsHigh v → HexDigits 3 0 w es → IsLow w → m ≡ encode (combined v w) → ts ≡ ds ++ 92 ∷ 117 ∷ es → Char m (92 ∷ 117 ∷ ts)

-- *char
pub data Chars : List ℕ → List ℕ → Type 0 where
  none : Chars [] []
  more : {m ms s ss whole text : List ℕ} → Char m s → Chars ms ss → whole ≡ m ++ ms → text ≡ s ++ ss → Chars whole text

-- what stands behind an opening quote, up to the closing one, and the bytes that it means
abbrev pub Quoted : List ℕ → List ℕ → Type 0
Quoted meant text = (body : List ℕ) × (text ≡ body ++ 34 ∷ []) × Chars meant body

-- string = quotation-mark *char quotation-mark
abbrev pub IsString : List ℕ → List ℕ → Type 0
IsString meant text = (rest : List ℕ) × (text ≡ 34 ∷ rest) × Quoted meant rest
