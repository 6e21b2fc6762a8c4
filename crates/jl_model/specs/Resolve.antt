-- Resolution of a reference against a base (RFC 3986, sections 5.2.2 to 5.2.4 and 5.3), over the five
-- components of both texts.
use Rattle.std.specs.Prelude.{ℕ, Bool, true, false, ◌&&◌, ◌||◌, ◌==◌, List, [], ◌∷◌, ◌++◌, Option, Some, None, codes, bytes_eq, reverse, flat_map}
use Rattle.std.specs.List.{slice_split}

-- the components of a reference; a component that is absent is no empty one
pub record Components : Type 0 where
  pub scheme : Option (List ℕ)
  pub authority : Option (List ℕ)
  pub path : List ℕ
  pub query : Option (List ℕ)
  pub fragment : Option (List ℕ)

-- what stands before the first byte that passes the test, and what stands from there on
abbrev pub until : (ℕ → Bool) → List ℕ → List ℕ
until test [] = []
until test (c ∷ cs) = elim (test c) [ true ↦ [] | false ↦ c ∷ until test cs ]

abbrev pub from : (ℕ → Bool) → List ℕ → List ℕ
from test [] = []
from test (c ∷ cs) = elim (test c) [ true ↦ c ∷ cs | false ↦ from test cs ]

-- `:`, `/`, `?` and `#`
abbrev pub is_slash : ℕ → Bool
is_slash c = c == 47

abbrev pub is_hash : ℕ → Bool
is_hash c = c == 35

abbrev pub ends_path : ℕ → Bool
ends_path c = c == 63 || is_hash c

abbrev pub ends_authority : ℕ → Bool
ends_authority c = is_slash c || ends_path c

abbrev pub ends_scheme : ℕ → Bool
ends_scheme c = c == 58 || ends_authority c

-- the text without its first byte, where that is this one
abbrev pub behind : ℕ → List ℕ → Option (List ℕ)
behind byte [] = None
behind byte (c ∷ cs) = elim (c == byte) [ true ↦ Some cs | false ↦ None ]

-- a scheme isn't empty, and a colon stands behind it
abbrev pub scheme_of : List ℕ → Option (List ℕ) → Option (List ℕ)
scheme_of [] rest = None
scheme_of (c ∷ cs) None = None
scheme_of (c ∷ cs) (Some rest) = Some (c ∷ cs)

abbrev pub after_scheme : List ℕ → List ℕ → Option (List ℕ) → List ℕ
after_scheme text [] rest = text
after_scheme text (c ∷ cs) None = text
after_scheme text (c ∷ cs) (Some rest) = rest

-- what stands behind `//`
abbrev pub behind_slashes : List ℕ → Option (List ℕ)
behind_slashes [] = None
behind_slashes (c ∷ []) = None
behind_slashes (c ∷ d ∷ ds) = elim (is_slash c && is_slash d) [ true ↦ Some ds | false ↦ None ]

abbrev pub authority_of : Option (List ℕ) → Option (List ℕ)
authority_of None = None
authority_of (Some rest) = Some (until ends_authority rest)

abbrev pub after_authority : List ℕ → Option (List ℕ) → List ℕ
after_authority text None = text
after_authority text (Some rest) = from ends_authority rest

abbrev pub query_of : Option (List ℕ) → Option (List ℕ)
query_of None = None
query_of (Some rest) = Some (until is_hash rest)

-- the components by the expression of RFC 3986, appendix B
abbrev pub components : List ℕ → Components
components text =
    let scheme = until ends_scheme text in
    let colon = behind 58 (from ends_scheme text) in
    let hierarchy = after_scheme text scheme colon in
    let rest = after_authority hierarchy (behind_slashes hierarchy) in
    record {
      scheme = scheme_of scheme colon;
      authority = authority_of (behind_slashes hierarchy);
      path = until ends_path rest;
      query = query_of (behind 63 (from ends_path rest));
      fragment = behind 35 (from is_hash rest);
    }

-- section 5.2.4: the path is read piece by piece, where a piece is a segment with the slash before it;
-- `done` are the pieces of the output, the last one first
abbrev pub without_last : List (List ℕ) → List (List ℕ)
without_last [] = []
without_last (p ∷ ps) = ps

-- the segments that stand behind slashes
abbrev pub segments : List (List ℕ) → List (List ℕ) → List (List ℕ)
segments done [] = done
segments done (s ∷ []) =
    elim (bytes_eq s (codes ".")) [
      | true ↦ codes "/" ∷ done
      | false ↦ elim (bytes_eq s (codes "..")) [ true ↦ codes "/" ∷ without_last done | false ↦ (47 ∷ s) ∷ done ]
    ]
segments done (s ∷ t ∷ ts) =
    elim (bytes_eq s (codes ".")) [
      | true ↦ segments done (t ∷ ts)
      | false ↦ elim (bytes_eq s (codes "..")) [ true ↦ segments (without_last done) (t ∷ ts) | false ↦ segments ((47 ∷ s) ∷ done) (t ∷ ts) ]
    ]

abbrev pub is_dots : List ℕ → Bool
is_dots s = bytes_eq s (codes ".") || bytes_eq s (codes "..")

-- the first segment, with no slash before it; one of dots takes the slash behind it away
abbrev pub all_segments : List (List ℕ) → List (List ℕ)
all_segments [] = []
all_segments (s ∷ []) = elim (is_dots s) [ true ↦ [] | false ↦ s ∷ [] ]
all_segments (s ∷ t ∷ ts) = elim (is_dots s) [ true ↦ all_segments (t ∷ ts) | false ↦ segments (s ∷ []) (t ∷ ts) ]

abbrev pub piece : List ℕ → List ℕ
piece p = p

unfoldable pub remove_dot_segments : List ℕ → List ℕ
remove_dot_segments path = flat_map piece (reverse (all_segments (slice_split is_slash path)))

-- a path up to its last slash, with it
abbrev pub up_to_slash : List ℕ → List ℕ
up_to_slash path = reverse (from is_slash (reverse path))

-- section 5.2.3: a path put in the place of the base's last segment
abbrev pub merge : Components → List ℕ → List ℕ
merge base path = by base.authority base.path
  where
    by : Option (List ℕ) → List ℕ → List ℕ
    by (Some authority) [] = 47 ∷ path
    by (Some authority) (c ∷ cs) = up_to_slash (c ∷ cs) ++ path
    by None whole = up_to_slash whole ++ path

-- the reference's query, or the base's where its path is empty and it has none
abbrev pub query_or : Option (List ℕ) → Option (List ℕ) → Option (List ℕ)
query_or (Some query) other = Some query
query_or None other = other

-- the path of a reference without scheme and authority
abbrev pub target_path : Components → List ℕ → List ℕ
target_path base [] = base.path
target_path base (c ∷ cs) = remove_dot_segments (elim (is_slash c) [ true ↦ c ∷ cs | false ↦ merge base (c ∷ cs) ])

abbrev pub target_query : Components → Components → List ℕ → Option (List ℕ)
target_query base reference [] = query_or reference.query base.query
target_query base reference (c ∷ cs) = reference.query

-- section 5.2.2
abbrev pub target : Components → Components → Components
target base reference = by reference.scheme reference.authority
  where
    by : Option (List ℕ) → Option (List ℕ) → Components
    by (Some scheme) authority = record reference { path = remove_dot_segments reference.path }
    by None (Some authority) = record reference { scheme = base.scheme; path = remove_dot_segments reference.path }
    by None None = record {
      scheme = base.scheme;
      authority = base.authority;
      path = target_path base reference.path;
      query = target_query base reference reference.path;
      fragment = reference.fragment;
    }

-- a component with what stands before it and behind it, or nothing
abbrev pub part : List ℕ → Option (List ℕ) → List ℕ → List ℕ
part front None back = []
part front (Some text) back = front ++ text ++ back

-- section 5.3
abbrev pub recompose : Components → List ℕ
recompose t = part [] t.scheme (codes ":") ++ part (codes "//") t.authority [] ++ t.path ++ part (codes "?") t.query [] ++ part (codes "#") t.fragment []

-- the reference resolved against the base
unfoldable pub resolve : List ℕ → List ℕ → List ℕ
resolve base reference = recompose (target (components base) (components reference))
