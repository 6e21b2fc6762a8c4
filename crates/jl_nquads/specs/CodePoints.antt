-- Characters of a class at the front of bytes. Only private clauses cite this.
use Rattle.std.specs.Prelude.{◌≡◌, ℕ, ◌<◌, ◌≤◌, Bool, ◌&&◌, ◌||◌, List, ◌++◌, length, drop, Option, Some, None, IsTrue}
use Rattle.std.specs.Char.{is_ascii_alphabetic}
use lib.Utf8.{encode, scalar}
use Rattle.jl_model.specs.Iris.{is_colon, is_scheme_byte, is_iri_byte}
use Rattle.jl_model.specs.LineTokens.{begins_label, goes_on_label, is_comment_character}
use Rattle.jl_nquads.specs.declared.code_points.Class.{Class}
use Rattle.jl_nquads.specs.declared.code_points.Class.TheVariants.{Any, LabelFirst, LabelLater, Comment, Letter, Scheme, Later}
use Rattle.jl_nquads.specs.declared.code_points.Code.{Code}
use Rattle.jl_nquads.specs.declared.code_points.Codes.{Codes}

-- a character of the class stands at the front
abbrev pub HasCode : (ℕ → Bool) → List ℕ → Type 0
HasCode test t = (c : ℕ) × IsTrue (test c) × ((back : List ℕ) × (t ≡ encode c ++ back))

-- the bytes begin a character of the class
abbrev pub BeginsCode : (ℕ → Bool) → List ℕ → Type 0
BeginsCode test t = (c : ℕ) × IsTrue (test c) × ((back : List ℕ) × (encode c ≡ t ++ back))

-- the classes
abbrev pub has : Class → ℕ → Bool
has Any c = scalar c
has LabelFirst c = begins_label c
has LabelLater c = goes_on_label c
has Comment c = is_comment_character c
has Letter c = is_ascii_alphabetic c
has Scheme c = is_colon c || is_scheme_byte c
has Later c = scalar c && is_iri_byte c

-- the character stands at the front
pub record IsCodeAt (text : List ℕ) (code len : ℕ) : Type 0 where
  pub is_scalar : IsTrue (scalar code)
  pub text_is : text ≡ encode code ++ drop len text
  pub len_is : len ≡ length (encode code)

-- no character stands at the front, or this one
abbrev pub CodeAt : List ℕ → Option Code → Type 0
CodeAt text None = (c : ℕ) (back : List ℕ) → IsTrue (scalar c) → text ≡ encode c ++ back → ⊥
CodeAt text (Some code) = IsCodeAt text code.code code.len

-- code points in a row
abbrev pub IsAmong : Codes → ℕ → Type 0
IsAmong codes c = (codes.first ≤ c) × (c < codes.end)

-- some of them is of the class, and begins so
abbrev pub BeginsAmong : Codes → Class → List ℕ → Type 0
BeginsAmong codes class text = (c : ℕ) × (IsAmong codes c) × IsTrue (has class c) × ((back : List ℕ) × (encode c ≡ text ++ back))
