-- Which texts go on to IRIs, and how what is written between two signs may be written. Only private clauses cite this.
use Rattle.std.specs.Prelude.{◌≡◌, ℕ, Bool, true, not, ◌&&◌, ◌||◌, ◌==◌, List, [], ◌∷◌, ◌++◌, is_some, if◌then◌else◌, IsTrue}
use Rattle.std.specs.Char.{is_ascii_alphabetic}
use Rattle.std.specs.List.{list_all}
use lib.Utf8.{scalar}
use Rattle.jl_model.specs.Iris.{is_iri_byte, is_scheme_byte, is_colon}
use Rattle.jl_model.specs.LineTokens.{Written, itself, letter, four, eight, spelling, meant_byte, letter_value, is_uchar}

-- what may stand behind the first letter of an IRI, as far as it has come
abbrev pub goes_on_scheme : List ℕ → Bool
goes_on_scheme [] = true
goes_on_scheme (c ∷ cs) = if is_colon c then list_all is_iri_byte cs else (is_scheme_byte c && goes_on_scheme cs)

-- the text is the beginning of an IRI
abbrev pub begins_iri : List ℕ → Bool
begins_iri [] = true
begins_iri (c ∷ cs) = is_ascii_alphabetic c && goes_on_scheme cs

-- a character that may stand before a closing byte, with escapes by a letter or without them
abbrev pub may_stand : ℕ → Bool → Written → Bool
may_stand close letters (itself c) = scalar c && not (c == close || c == 92)
may_stand close letters (letter c) = letters && is_some (letter_value c)
may_stand close letters (four ds) = is_uchar 4 ds
may_stand close letters (eight ds) = is_uchar 8 ds

-- the bytes may go on to such characters, and a meaning that is fine: at their end it is, or a character that they begin
-- makes it so
abbrev pub GoesOnBy : (Written → Bool) → (List ℕ → Bool) → List ℕ → List ℕ → Type 0
GoesOnBy test fine m [] = IsTrue (fine m)
GoesOnBy test fine m (c ∷ t) = (w : Written) × IsTrue (test w) × (IsTrue (fine (m ++ meant_byte w)) × ((back : List ℕ) × (spelling w ≡ (c ∷ t) ++ back)))
