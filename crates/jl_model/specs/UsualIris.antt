-- Bytes that usual IRIs are made of. Only the crate's private clauses cite it.
use Rattle.std.specs.Prelude.{ℕ, Bool, ◌&&◌, nat_lt, List, ◌≡◌, ◌++◌, drop, codes, ◌⊎◌}
use Rattle.jl_model.specs.Iris.{is_iri_byte}

-- a byte of ASCII that an IRI may have
abbrev pub is_usual_byte : ℕ → Bool
is_usual_byte c = nat_lt c 128 && is_iri_byte c

-- the text begins with `http:` or `https:`
abbrev pub HasUsualScheme : List ℕ → Type 0
HasUsualScheme text = (text ≡ codes "http:" ++ drop 5 text) ⊎ (text ≡ codes "https:" ++ drop 6 text)
