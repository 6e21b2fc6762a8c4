-- What the definitions say of a document's bytes.
use Rattle.std.specs.Prelude.{ℕ, ◌≡◌, ◌==◌, Bool, true, false, not, List, [], ◌∷◌, ◌++◌, length, drop, Option, Some, None, IsTrue}
use Rattle.jl_model.specs.JsonTree.{Tree}
use Rattle.jl_model.specs.JsonText.{Begins}
use Rattle.jl_model.specs.Parts.{Parts}
use Rattle.jl_model.specs.declared.codes.Code.{Code}
use Rattle.jl_model.specs.declared.codes.Code.TheVariants.{LateContext, LateType, LateIdentifier, LateValue, LateGraph}
use Rattle.jl_model.specs.declared.faults.Fault.{Fault}
use Rattle.jl_defs.specs.Settings.{Settings}
use Rattle.jl_defs.specs.Sets.{Has, SameSet}
use Rattle.jl_defs.specs.Faults.{faults}
use Rattle.jl_defs.specs.Dataset.{dataset}
use Rattle.jl_defs.specs.OpenTree.{Open, unread, in_scalar, in_array, in_object, in_key, in_member, whole}
use Rattle.jl_defs.specs.OpenText.{Opens, ReadsAs}
use Rattle.jl_defs.specs.Reported.{reported}
use Rattle.jl_defs.specs.Due.{due}
use Rattle.jl_defs.specs.Bound.{bound}

-- the document is accepted: it reads as a tree without faults
abbrev pub Accepts : Settings → List ℕ → Type 0
Accepts s bytes = (t : Tree) × ReadsAs bytes t × (faults s t ≡ [])

-- some accepted document begins with these bytes
abbrev pub BeginsAccepted : Settings → List ℕ → Type 0
BeginsAccepted s bytes = (rest : List ℕ) × Accepts s (bytes ++ rest)

-- the quads are the document's dataset, as a set
abbrev pub IsDataset : Settings → List ℕ → List Parts → Type 0
IsDataset s bytes quads = (t : Tree) × ReadsAs bytes t × SameSet quads (dataset s t)

-- the document has this fault
abbrev pub HasFault : Settings → List ℕ → Fault → Type 0
HasFault s bytes f = (t : Tree) × ReadsAs bytes t × Has (faults s t) f

-- the fault is given by what has been read
abbrev pub IsReported : Settings → List ℕ → Fault → Type 0
IsReported s bytes f = (o : Open) × Opens bytes o × Has (reported s o) f

-- the quad is due; nothing is where no accepted document begins so
abbrev pub IsDue : Settings → List ℕ → Parts → Type 0
IsDue s bytes q = BeginsAccepted s bytes × ((o : Open) × Opens bytes o × Has (due s o) q)

-- a code of the streaming form
abbrev pub is_late : Code → Bool
is_late LateContext = true
is_late LateType = true
is_late LateIdentifier = true
is_late LateValue = true
is_late LateGraph = true
is_late code = false

-- a tree in the streaming form has no fault of these
abbrev pub in_form : List Fault → Bool
in_form [] = true
in_form (f ∷ fs) = elim (is_late f.code) [ true ↦ false | false ↦ in_form fs ]

abbrev pub InForm : Settings → Tree → Type 0
InForm s t = in_form (faults s t) ≡ true

-- a string that is open: no quote closes it, and a backslash takes the byte after it along
abbrev pub is_open : List ℕ → Bool
is_open [] = true
is_open (c ∷ []) = not (c == 34)
is_open (c ∷ d ∷ ds) = elim (c == 34) [ true ↦ false | false ↦ elim (c == 92) [ true ↦ is_open ds | false ↦ is_open (d ∷ ds) ] ]

abbrev pub is_open_string : List ℕ → Bool
is_open_string [] = false
is_open_string (c ∷ cs) = elim (c == 34) [ true ↦ is_open cs | false ↦ false ]

-- the place of the scalar or of the key that is being read
abbrev pub string_at : Open → Option ℕ
string_at unread = None
string_at (in_scalar at first) = Some at
string_at (in_array at xs next) = string_at next
string_at (in_object at ms ends) = None
string_at (in_key at ms ends a) = Some a
string_at (in_member at ms ends a name next) = string_at next
string_at (whole t) = None

-- bytes that became unreadable in a string, a key or a scalar, that is still open: up to the byte that broke it they open a text,
-- and no quote has closed it since
pub record BrokenString (bytes : List ℕ) (o : Open) : Type 0 where
  pub front : List ℕ
  pub byte : ℕ
  pub back : List ℕ
  pub at : ℕ
  pub bytes_are : bytes ≡ front ++ byte ∷ back
  pub opens : Opens front o
  pub breaks : Begins 0 (front ++ byte ∷ []) → ⊥
  pub string_is : string_at o ≡ Some at
  pub still_open : IsTrue (is_open_string (drop at bytes))

-- bytes that begin nothing readable, and aren't in such a string
abbrev pub Breaks : List ℕ → Type 0
Breaks bytes = (Begins 0 bytes → ⊥) × ((o : Open) → BrokenString bytes o → ⊥)

-- the bound of bytes. Where they are readable it is that of what has been read; where they became unreadable in a string that is
-- still open, as if that string were readable so far; else that of the bytes without the last one
pub data BoundOf (s : Settings) : List ℕ → ℕ → Type 0 where
  readable : (bytes : List ℕ) → (o : Open) → Opens bytes o → BoundOf s bytes (bound s (length bytes) o)
  in_string : (bytes : List ℕ) → (o : Open) → BrokenString bytes o → BoundOf s bytes (bound s (length bytes) o)
  broken : (front : List ℕ) → (byte k : ℕ) → Breaks (front ++ byte ∷ []) → BoundOf s front k → BoundOf s (front ++ byte ∷ []) k
