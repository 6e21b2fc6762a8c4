-- A key comes: it is of a form that isn't built, or late, or it collides with one before it, or its value is expected.
use Rattle.std.specs.Prelude.{ℕ, List, [], ◌∷◌, ◌++◌}
use Rattle.jl_defs.specs.Texts.{Text}
use Rattle.jl_defs.specs.Context.{term}
use Rattle.jl_defs.specs.Keys.{Key, id, kind, value, language, direction, index, property, key_of}
use Rattle.jl_defs.specs.ObjectContexts.{Inside}
use Rattle.jl_defs.specs.MemberFaults.{Seen, key_faults}
use Rattle.jl_laws.specs.Spots.{Spot}
use Rattle.jl_walk.specs.Phases.{Phase, follow, phase_faults}
use Rattle.jl_walk.specs.Stage.{is_built_key}
use Rattle.jl_walk.specs.Frames.{property_value, keyword_value, dropped_value, Object, Frame, object as object_frame}
use Rattle.jl_walk.specs.Steps.{Step, quiet, unless_fault, if_built}

-- a keyword puts its entry at once
abbrev pub with_keyword : Key → ℕ → Object → Object
with_keyword q at o = record o { entries = o.entries ++ q ∷ []; expects = keyword_value q at }

-- an object that expects the value of a key
abbrev pub with_key : Key → ℕ → Text → Object → Object
with_key (property iri) at name o = record o { expects = property_value name iri }
with_key id at name o = with_keyword id at o
with_key kind at name o = with_keyword kind at o
with_key value at name o = with_keyword value at o
with_key language at name o = with_keyword language at o
with_key direction at name o = with_keyword direction at o
with_key index at name o = with_keyword index at o
with_key k at name o = record o { expects = dropped_value }

-- of the keys that have been seen, only their entries are asked for
abbrev pub seen_by : Object → Seen
seen_by o = record { entries = o.entries; kinds = [] }

-- a key that may stand here collides with one before it, or its value is expected
abbrev pub key_of_object : Key → ℕ → Text → Spot → Inside → Object → List Frame → Step
key_of_object q at name p i o k =
    unless_fault (key_faults q p.under (seen_by o) at) (λ _. quiet (object_frame p i (with_key q at name o) ∷ k))

-- an object in another phase
abbrev pub with_phase : Phase → Object → Object
with_phase ph o = record o { phase = ph }

-- the one place where a key is decided: of a form that isn't built, then too late, then as above
unfoldable pub take_key : ℕ → Text → List Frame → Step
take_key at name (object_frame p i o ∷ k) =
    if_built (is_built_key (key_of i.final name) (term i.final name)) at
    (λ _. unless_fault (phase_faults o.phase i name at)
    (λ _. key_of_object (key_of i.final name) at name p i (with_phase (follow o.phase i name) o) k))
take_key at name k = quiet k
