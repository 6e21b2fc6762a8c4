-- What the next byte of a line begins. Only private clauses cite this.
use Rattle.std.specs.Prelude.{◌≡◌, ℕ, ◌⊎◌, Bool, true, false, ◌||◌, ◌==◌, List, [], ◌∷◌, Some, if◌then◌else◌, IsFalse}
use Rattle.jl_model.specs.Parts.{Parts}
use Rattle.jl_model.specs.LineTokens.{LineToken}
use Rattle.jl_model.specs.LineTokens as tokens
use Rattle.jl_nquads.specs.Spots.{Spot, begins, has_subject, has_predicate, has_string, has_carets, has_object, has_graph, has_dot, leads_to}
use Rattle.jl_nquads.specs.declared.nexts.Next.{Next}
use Rattle.jl_nquads.specs.declared.nexts.Next.TheVariants.{End, Blank, Iri, Label, Str, Carets, Tag, Dot, Comment, Other}

-- what a byte begins
abbrev pub opened_by : ℕ → Next
opened_by c =
    if c == 32 || c == 9 then Blank
    else (if c == 60 then Iri
    else (if c == 95 then Label
    else (if c == 34 then Str
    else (if c == 94 then Carets
    else (if c == 64 then Tag
    else (if c == 46 then Dot
    else (if c == 35 then Comment else Other)))))))

-- what a text begins with
abbrev pub next_of : List ℕ → Next
next_of [] = End
next_of (c ∷ cs) = opened_by c

-- what a token is begun by
abbrev pub opening : LineToken → Next
opening (tokens.iri w) = Iri
opening (tokens.label c) = Label
opening (tokens.string w) = Str
opening tokens.carets = Carets
opening (tokens.tag t) = Tag
opening tokens.dot = Dot
opening (tokens.comment c) = Comment
opening (tokens.line_end b) = Other
opening (tokens.blank b) = Blank

-- which tokens may follow where
abbrev pub allows : Spot → Next → Bool
allows begins Blank = true
allows begins Iri = true
allows begins Label = true
allows begins Comment = true
allows (has_subject s) Blank = true
allows (has_subject s) Iri = true
allows (has_predicate s p) Blank = true
allows (has_predicate s p) Iri = true
allows (has_predicate s p) Label = true
allows (has_predicate s p) Str = true
allows (has_string s p t) Blank = true
allows (has_string s p t) Iri = true
allows (has_string s p t) Label = true
allows (has_string s p t) Carets = true
allows (has_string s p t) Tag = true
allows (has_string s p t) Dot = true
allows (has_carets s p t) Iri = true
allows (has_object s p o) Blank = true
allows (has_object s p o) Iri = true
allows (has_object s p o) Label = true
allows (has_object s p o) Dot = true
allows (has_graph s p o g) Blank = true
allows (has_graph s p o g) Dot = true
allows (has_dot q) Blank = true
allows (has_dot q) Comment = true
allows s n = false

-- a text stops behind a dot, or behind a label at once or behind a dot
abbrev pub StopsBehindDot : Spot → List ℕ → Type 0
StopsBehindDot s [] = ⊥
StopsBehindDot s (b ∷ x) = (q : Parts) × (leads_to s tokens.dot ≡ Some (has_dot q)) × IsFalse (allows (has_dot q) (opened_by b))

abbrev pub StopsBehindLabel : Spot → List ℕ → ℕ → Type 0
StopsBehindLabel s [] place = ⊥
StopsBehindLabel s (b ∷ x) place = ((b ≡ 95 → ⊥) × IsFalse (allows s (opened_by b)) × (place ≡ 0)) ⊎ ((b ≡ 46) × StopsBehindDot s x × (place ≡ 1))
