-- Characters that are cut short. Only private clauses cite this.
use Rattle.std.specs.Prelude.{◌≡◌, ℕ, zero, suc, ◌+◌, ◌-◌, ◌*◌, Bool, true, false, ◌==◌, nat_lt, min, List, [], ◌∷◌, ◌++◌, length, Option, Some, None, if◌then◌else◌, IsTrue, IsFalse}
use Rattle.std.specs.Char.{is_ascii_alphabetic}
use Rattle.std.specs.List.{list_all}
use lib.Utf8.{scalar}
use Rattle.jl_model.specs.Iris.{is_colon, is_scheme_byte, is_iri_byte}
use Rattle.jl_nquads.specs.CodePoints.{has, BeginsCode, IsAmong}
use Rattle.jl_nquads.specs.EscapesRead.{code_value}
use Rattle.jl_nquads.specs.IriFronts.{begins_iri, goes_on_scheme}
use Rattle.jl_nquads.specs.LinesRead.{fine_in}
use Rattle.jl_nquads.specs.declared.code_points.Class.{Class}
use Rattle.jl_nquads.specs.declared.code_points.Class.TheVariants.{Any, Letter, Scheme, Later}
use Rattle.jl_nquads.specs.declared.code_points.Codes.{Codes}
use Rattle.jl_nquads.specs.declared.framed.Frame.{Frame}
use Rattle.jl_nquads.specs.declared.framed.Frame.TheVariants.{Angles, Quotes}

-- ---- what may stand behind what has been read

-- which characters may stand behind a byte, where this class may stand
abbrev pub after : Class → ℕ → Option Class
after Letter c = if is_ascii_alphabetic c then Some Scheme else None
after Scheme c = if is_colon c then Some Later else (if is_scheme_byte c then Some Scheme else None)
after Later c = if is_iri_byte c then Some Later else None
after k c = None

-- bytes that may stand where this class may
abbrev pub goes_by : Class → List ℕ → Bool
goes_by Any x = true
goes_by Letter x = begins_iri x
goes_by Scheme x = goes_on_scheme x
goes_by Later x = list_all is_iri_byte x
goes_by k x = false

-- which classes tell what may stand between these signs
abbrev pub is_class_of : Frame → Class → Bool
is_class_of Angles Letter = true
is_class_of Angles Scheme = true
is_class_of Angles Later = true
is_class_of Quotes Any = true
is_class_of frame k = false

-- what goes on from these bytes to an IRI, or that none does
abbrev pub ClassAfter : List ℕ → Option Class → Type 0
ClassAfter m None = (x : List ℕ) → IsFalse (begins_iri (m ++ x))
ClassAfter m (Some k) = IsTrue (is_class_of Angles k) × ((x : List ℕ) → begins_iri (m ++ x) ≡ goes_by k x)

abbrev pub ClassBehind : Frame → List ℕ → Option Class → Type 0
ClassBehind frame m None = (x : List ℕ) → IsFalse (fine_in frame (m ++ x))
ClassBehind frame m (Some k) = IsTrue (is_class_of frame k) × ((x : List ℕ) → fine_in frame (m ++ x) ≡ goes_by k x)

-- ---- escapes that are cut short

-- one more than the highest code point
abbrev pub codes_end : ℕ
codes_end = 1114112

-- the first number of so many digits more that begins with this one
abbrev pub first_with : ℕ → ℕ → ℕ
first_with zero v = v
first_with (suc n) v = first_with n (min (v * 16) codes_end)

abbrev pub codes_with : ℕ → ℕ → Codes
codes_with v n = record { first = first_with n v; end = first_with n (v + 1) }

abbrev pub no_codes : Codes
no_codes = record { first = 0; end = 0 }

abbrev pub codes_by : ℕ → Option ℕ → Codes
codes_by n None = no_codes
codes_by n (Some v) = codes_with v n

-- the code points that this many digits make which begin so
abbrev pub codes_of_digits : ℕ → List ℕ → Codes
codes_of_digits count ds = if nat_lt count (length ds) then no_codes else codes_by (count - length ds) (code_value 0 ds)

-- the code points whose escapes begin so, behind their backslash
abbrev pub codes_of_escapes : List ℕ → Codes
codes_of_escapes [] = record { first = 0; end = codes_end }
codes_of_escapes (c ∷ t) = if c == 117 then codes_of_digits 4 t else (if c == 85 then codes_of_digits 8 t else no_codes)

-- some of them is a character of the class
abbrev pub HasSome : Class → Codes → Type 0
HasSome k codes = (c : ℕ) × (IsAmong codes c) × IsTrue (scalar c) × IsTrue (has k c)

abbrev pub BeginsBy : Bool → Class → ℕ → List ℕ → Type 0
BeginsBy true k c t = HasSome k (codes_of_escapes t)
BeginsBy false k c t = BeginsCode (has k) (c ∷ t)

-- the bytes begin a character of the class, as it may be written
abbrev pub BeginsWritten : Class → List ℕ → Type 0
BeginsWritten k [] = Unit {0}
BeginsWritten k (c ∷ t) = BeginsBy (c == 92) k c t
