-- The forms that aren't built, and their places in a document. A form that comes takes away its clause.
use Rattle.std.specs.Prelude.{ℕ, Bool, true, false, not, ◌&&◌, ◌||◌, List, [], ◌∷◌, ◌++◌, Option, Some, None, is_some, Result, Ok, Err}
use Rattle.jl_model.specs.JsonTree.{Tree, scalar, array, object, Trees, no_item, item, Members, no_member, member}
use Rattle.jl_model.specs.declared.codes.Code.TheVariants as code
use Rattle.jl_model.specs.declared.faults.Fault.{Fault}
use Rattle.jl_defs.specs.Context.{TermDef, Context, term, initial}
use Rattle.jl_defs.specs.Settings.{Settings, Under, no_property, property_of, Stand, root, elsewhere, inside_of}
use Rattle.jl_defs.specs.Keys.{Key, its_context, graph, included, list, set, reverse, nest, property, key_of, is_value}
use Rattle.jl_defs.specs.ObjectContexts.{fault, Inside, Own, own_context, decide}
use Rattle.jl_defs.specs.ValueObjects.{first_with, is_json, is_json_type, value_type}
use Rattle.jl_defs.specs.Kept.{is_json_kind}
use Rattle.jl_walk.specs.Phases.{known, first_phase}

-- the values of this term are of a form that is built
abbrev pub is_built_term : Option TermDef → Bool
is_built_term None = true
is_built_term (Some t) =
    not (is_json_kind t.kind)
    && (not t.reverse && (not t.containers.list
    && (not t.containers.language && (not t.containers.index && (not t.containers.id && not t.containers.kind)))))

-- so are the values of this key
abbrev pub is_built_key : Key → Option TermDef → Bool
is_built_key (property iri) t = is_built_term t
is_built_key its_context t = false
is_built_key graph t = false
is_built_key included t = false
is_built_key list t = false
is_built_key set t = false
is_built_key reverse t = false
is_built_key nest t = false
is_built_key k t = true

-- only the values of a property are looked at
abbrev pub values_of : Key → (Unit {0} → List ℕ) → List ℕ
values_of (property iri) values = values tt
values_of k values = []

-- the place of a key, where its form isn't built, or those inside its value
abbrev pub key_forms : Key → Option TermDef → ℕ → (Unit {0} → List ℕ) → List ℕ
key_forms q t at values = elim (is_built_key q t) [ true ↦ values_of q values | false ↦ at ∷ [] ]

-- an object whose contexts are at fault has no forms that count
abbrev pub decided_forms : Result Inside Fault → (Inside → List ℕ) → List ℕ
decided_forms (Ok i) answer = answer i
decided_forms (Err f) answer = []

-- the place of an object's own context, which isn't built
abbrev pub context_form : Option Own → List ℕ
context_form None = []
context_form (Some own) = own.at ∷ []

-- an object with a context of its own stops at it
abbrev pub unless_own : {A : Type 0} → Option Own → Result A Fault → Result A Fault
unless_own None r = r
unless_own (Some own) r = Err (fault code.NotYet own.at)

-- these members make a JSON literal
abbrev pub is_json_object : Inside → Members → Bool
is_json_object i ms = is_some (first_with is_value i.final ms) && (is_json i.input || is_json_type (value_type i ms))

-- a JSON literal isn't built
abbrev pub json_form : Bool → ℕ → List ℕ
json_form true at = at ∷ []
json_form false at = []

unfoldable mutual
  -- the places of the forms in a value that aren't built
  pub forms : Settings → Context → Under → Stand → Tree → List ℕ
  forms s c under stand (scalar at v) = []
  forms s c under stand (array at xs) = items_forms s c under (inside_of stand) xs
  forms s c under stand (object at ms) =
      context_form (own_context s.order ms)
      ++ decided_forms (decide s c under stand at ms)
      (λ i. json_form (is_json_object i (known i (first_phase s c under stand at ms) ms)) at ++ members_forms s i ms)

  -- those of items
  pub items_forms : Settings → Context → Under → Stand → Trees → List ℕ
  items_forms s c under stand no_item = []
  items_forms s c under stand (item x rest) = forms s c under stand x ++ items_forms s c under stand rest

  -- those of members
  pub members_forms : Settings → Inside → Members → List ℕ
  members_forms s i no_member = []
  members_forms s i (member a n v rest) =
      key_forms (key_of i.final n) (term i.final n) a (λ _. forms s i.final (property_of n) elsewhere v)
      ++ members_forms s i rest

-- those of a document
abbrev pub document_forms : Settings → Tree → List ℕ
document_forms s t = forms s (initial s.base) no_property root t
