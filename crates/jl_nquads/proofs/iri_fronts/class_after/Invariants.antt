use Rattle.std.proofs.Common.{◌≡◌, ℕ, List, ◌++◌, drop, IsTrue}
use Rattle.jl_nquads.specs.IriFronts.{begins_iri}
use Rattle.jl_nquads.specs.Unframed.{goes_by, is_class_of}
use Rattle.jl_nquads.specs.declared.framed.Frame.TheVariants.{Angles}
use Rattle.jl_nquads.proofs.iri_fronts.class_after.Given as goal

abbrev pub invariant-loop-byte : goal.invariant-loop-byte
invariant-loop-byte l = record { of_iri : IsTrue (is_class_of Angles l.class); goes : (x : List ℕ) → begins_iri (l.text ++ x) ≡ goes_by l.class (drop l.byte-index l.text ++ x) }
