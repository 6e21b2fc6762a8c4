-- The list file of handed-in contexts, and the library that it names (this project's own rules).
use Rattle.std.specs.Prelude.{ℕ, ◌+◌, ◌≡◌, Bool, true, false, not, ◌&&◌, ◌==◌, List, [], ◌∷◌, length, Option, Some, None, Result, Ok, Err}
use Rattle.std.specs.List.{slice_split}
use Rattle.std.specs.Str.{is_utf8}
use Rattle.jl_model.specs.JsonTree.{Tree}
use Rattle.jl_defs.specs.Texts.{Text, is_iri, is_among}
use Rattle.jl_defs.specs.Process.{Library}

-- a line of the list: the name of a context, and the path of its file
pub record Listed : Type 0 where
  pub name : Text
  pub path : Text

-- a line split at its first space; the path isn't empty
abbrev pub split_space : Text → Option Listed
split_space [] = None
split_space (c ∷ []) = None
split_space (c ∷ d ∷ ds) = elim (c == 32) [ true ↦ Some (record { name = []; path = d ∷ ds }) | false ↦ behind c (split_space (d ∷ ds)) ]
  where
    behind : ℕ → Option Listed → Option Listed
    behind c None = None
    behind c (Some l) = Some (record { name = c ∷ l.name; path = l.path })

-- an IRI, one space and a path; no IRI comes twice
abbrev pub good_line : List Text → Option Listed → Option Listed
good_line names None = None
good_line names (Some l) = elim (is_iri l.name && not (is_among names l.name)) [ true ↦ Some l | false ↦ None ]

abbrev pub read_line : List Text → Text → Option Listed
read_line names line = elim (is_utf8 line) [ true ↦ good_line names (split_space line) | false ↦ None ]

abbrev pub then_listed : Listed → Result (List Listed) ℕ → Result (List Listed) ℕ
then_listed l (Ok ls) = Ok (l ∷ ls)
then_listed l (Err at) = Err at

-- the lines from a place on, after these names; empty lines are skipped
unfoldable pub list_lines : List Text → ℕ → List Text → Result (List Listed) ℕ
list_lines names at [] = Ok []
list_lines names at ([] ∷ lines) = list_lines names (at + 1) lines
list_lines names at ((c ∷ cs) ∷ lines) = on_line (read_line names (c ∷ cs)) (λ l. list_lines (l.name ∷ names) (at + length (c ∷ cs) + 1) lines)
  where
    on_line : Option Listed → (Listed → Result (List Listed) ℕ) → Result (List Listed) ℕ
    on_line None next = Err at
    on_line (Some l) next = then_listed l (next l)

abbrev pub is_line_feed : ℕ → Bool
is_line_feed c = c == 10

-- the list that a file is, or the place of its first bad line
unfoldable pub listed : Text → Result (List Listed) ℕ
listed content = list_lines [] 0 (slice_split is_line_feed content)

-- what a file's bytes are as a tree, by a reading: nothing where they read as none
abbrev pub IsContent : (Text → Tree → Type 0) → Text → Option Tree → Type 0
IsContent Reads bytes (Some t) = Reads bytes t
IsContent Reads bytes None = (t : Tree) → ¬ (Reads bytes t)

-- the library of a list, where these are the contents of its files
unfoldable pub IsLibrary : (Text → Tree → Type 0) → (Text → Text) → List Listed → Library → Type 0
IsLibrary Reads contents [] [] = Unit {0}
IsLibrary Reads contents (l ∷ ls) (h ∷ hs) = (h.name ≡ l.name) × IsContent Reads (contents l.path) h.content × IsLibrary Reads contents ls hs
IsLibrary Reads contents ls hs = ⊥
