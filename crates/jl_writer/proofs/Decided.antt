-- The contexts of the objects of the writer's text: they stay the initial one.
use Rattle.std.proofs.Common.{◌≡◌, ℕ, true, false, not, ◌&&◌, ◌||◌, [], ◌∷◌, None, Ok, refl, ap, ◌∙◌}
use Rattle.jl_model.specs.JsonTree.{scalar, array, object, Trees, Members, no_member, member}
use Rattle.jl_model.specs.declared.expansions.Expanded.{Expanded}
use Rattle.jl_model.specs.declared.expansions.Expanded.TheVariants.{Null, Name}
use Rattle.jl_model.specs.Iris.{IsIri}
use Rattle.jl_defs.specs.Texts.{Text, is_keyword}
use Rattle.jl_defs.specs.IriExpansion.{expand_iri}
use Rattle.jl_defs.specs.Settings.{Under, no_property, graph_property, reverse_property, property_of, Stand, elsewhere}
use Rattle.jl_defs.specs.Keys.{key_of, is_kind, is_leading}
use Rattle.jl_defs.specs.ObjectContexts.{Inside, decide, final_context, candidates}
use Rattle.jl_defs.specs.Rest.{rest_of, after_run, would_decide}
use Rattle.jl_laws.proofs.Bools.{picked-true, picked-false}
use Rattle.jl_writer.specs.Laws.{streaming}
use Rattle.jl_writer.proofs.Grouped.{id_key}
use Rattle.jl_writer.proofs.GroupedTrees.{type_key, value_key, language_key, string_at}
use Rattle.jl_writer.proofs.KeysMean.{outset, iri_expands}

abbrev pub inside : Expanded → Inside
inside input = record { outside = outset; could_go_back = false; base = outset; final = outset; input = input }

-- what follows the identifier is an array under no key that may lead
abbrev pub IsArrayFirst : Members → Type 0
IsArrayFirst no_member = Unit {0}
IsArrayFirst (member a n (array b xs) rest) = (is_kind (key_of outset n) ≡ false) × (is_leading (key_of outset n) ≡ false)
IsArrayFirst (member a n (scalar b v) rest) = ⊥
IsArrayFirst (member a n (object b ms) rest) = ⊥

-- the candidates of an object: no scoped context changes the initial one
pub one_candidate : (under : Under) (stand : Stand) (at : ℕ) → candidates streaming outset under stand at None ≡ outset ∷ []
one_candidate no_property stand at = refl
one_candidate graph_property stand at = refl
one_candidate reverse_property stand at = refl
one_candidate (property_of name) stand at = refl

alone_decided : (under : Under) (stand : Stand) (at a b : ℕ) (name : Text)
    → decide streaming outset under stand at (member a id_key (string_at b name) no_member) ≡ Ok (inside Null)
unfolding decide final_context key_of expand_iri is_keyword
alone_decided no_property stand at a b name = refl
alone_decided graph_property stand at a b name = refl
alone_decided reverse_property stand at a b name = refl
alone_decided (property_of p) stand at a b name = refl

array_decided : (under : Under) (stand : Stand) (at a b : ℕ) (name : Text) (c : ℕ) (n : Text) (d : ℕ) (xs : Trees) (rest : Members) → is_kind (key_of outset n) ≡ false
    → decide streaming outset under stand at (member a id_key (string_at b name) (member c n (array d xs) rest)) ≡ Ok (inside Null)
unfolding decide final_context key_of expand_iri is_keyword
array_decided no_property stand at a b name c n d xs rest h = simp h
array_decided graph_property stand at a b name c n d xs rest h = simp h
array_decided reverse_property stand at a b name c n d xs rest h = simp h
array_decided (property_of p) stand at a b name c n d xs rest h = simp h

-- a node, a graph or a reference
pub id_decided : (under : Under) (stand : Stand) (at a b : ℕ) (name : Text) (ms : Members) → IsArrayFirst ms
    → decide streaming outset under stand at (member a id_key (string_at b name) ms) ≡ Ok (inside Null)
id_decided under stand at a b name no_member h = alone_decided under stand at a b name
id_decided under stand at a b name (member c n (array d xs) rest) h = array_decided under stand at a b name c n d xs rest h.0
id_decided under stand at a b name (member c n (scalar d v) rest) h = absurd h
id_decided under stand at a b name (member c n (object d ms) rest) h = absurd h

-- all that follows the identifier is the rest of the object
one_rest : (under : Under) (stand : Stand) (at a b : ℕ) (name : Text)
    → rest_of streaming outset under stand at (inside Null) (member a id_key (string_at b name) no_member) ≡ no_member
unfolding key_of expand_iri is_keyword
one_rest under stand at a b name = rw (one_candidate under stand at) refl

array_rest : (under : Under) (stand : Stand) (at a b : ℕ) (name : Text) (c : ℕ) (n : Text) (d : ℕ) (xs : Trees) (rest : Members) → is_kind (key_of outset n) ≡ false → is_leading (key_of outset n) ≡ false
    → rest_of streaming outset under stand at (inside Null) (member a id_key (string_at b name) (member c n (array d xs) rest)) ≡ member c n (array d xs) rest
unfolding key_of expand_iri is_keyword
array_rest under stand at a b name c n d xs rest h k =
    rw (one_candidate under stand at) (ap (after_run (inside Null) true) (picked-false (is_kind (key_of outset n) || false) _ _ (ap (λ b. b || false) h))
    ∙ picked-true (not (is_leading (key_of outset n)) || (false && would_decide (inside Null) n)) _ _ (ap (λ b. not b || (false && would_decide (inside Null) n)) k))

pub rest_is : (under : Under) (stand : Stand) (at a b : ℕ) (name : Text) (ms : Members) → IsArrayFirst ms
    → rest_of streaming outset under stand at (inside Null) (member a id_key (string_at b name) ms) ≡ ms
rest_is under stand at a b name no_member h = one_rest under stand at a b name
rest_is under stand at a b name (member c n (array d xs) rest) h = array_rest under stand at a b name c n d xs rest h.0 h.1
rest_is under stand at a b name (member c n (scalar d v) rest) h = absurd h
rest_is under stand at a b name (member c n (object d ms) rest) h = absurd h

-- a string with a language
pub language_decided : (p : Text) (at a b c d : ℕ) (tag text : Text)
    → decide streaming outset (property_of p) elsewhere at (member a language_key (string_at b tag) (member c value_key (string_at d text) no_member)) ≡ Ok (inside Null)
unfolding decide final_context key_of expand_iri is_keyword
language_decided p at a b c d tag text = refl

-- a literal with a datatype
pub type_decided : (p : Text) (at a b c d : ℕ) (datatype text : Text) → IsIri datatype
    → decide streaming outset (property_of p) elsewhere at (member a type_key (string_at b datatype) (member c value_key (string_at d text) no_member)) ≡ Ok (inside (Name datatype))
unfolding decide final_context key_of expand_iri is_keyword
type_decided p at a b c d datatype text h = simp (iri_expands datatype true false h)
