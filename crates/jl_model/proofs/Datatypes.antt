-- Datatypes that need no test.
use Rattle.std.proofs.Common.{refl, subst, sym, ap, ◌≡◌, ℕ, List, IsUtf8}
use Rattle.jl_model.specs.Iris.{IsIri}
use Rattle.jl_model.specs.Parts.{Parts, xsd_string, plain, IsObject, AreWellFormed, parts_of, with_object}
use Rattle.jl_model.specs.declared.terms.Term.{Term}
use Rattle.jl_model.specs.declared.terms.Term.TheVariants.{Literal}

-- the IRI of xsd:string is one
pub xsd_string_is_iri : (text : List ℕ) → text ≡ xsd_string → IsIri text
unfolding lib.Utf8.encode
xsd_string_is_iri text e = subst IsIri (sym e) (record { utf8 = (xsd_string, (refl, refl)); form = refl })

-- the literal of a string of UTF-8 may stand as an object
pub plain_is_object : (text : List ℕ) → IsUtf8 text → IsObject (Literal (plain text))
plain_is_object text utf8 = record { text = utf8; datatype = xsd_string_is_iri xsd_string refl; language = tt }

-- a well-formed quad that gets another object, which may stand as one
pub object_set : (old inside : Parts) (given object : Term) → old ≡ inside → AreWellFormed inside → IsObject object → given ≡ object →
    AreWellFormed (with_object old object) × (parts_of inside.subject inside.predicate given inside.graph ≡ with_object old object)
object_set old inside given object e whole fine same = subst (λ q. AreWellFormed (with_object q object) × (parts_of inside.subject inside.predicate given inside.graph ≡ with_object q object)) (sym e)
    (record { subject = whole.subject; predicate = whole.predicate; object = fine; graph = whole.graph }, ap (λ o. parts_of inside.subject inside.predicate o inside.graph) same)
