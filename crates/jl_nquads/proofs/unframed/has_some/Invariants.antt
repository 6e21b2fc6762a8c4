use Rattle.std.proofs.Common.{ℕ, ◌<◌, ◌≤◌, IsTrue}
use lib.Utf8.{scalar}
use Rattle.jl_nquads.specs.CodePoints.{has}
use Rattle.jl_nquads.proofs.unframed.has_some.Given as goal

abbrev pub invariant-loop-code : goal.invariant-loop-code
invariant-loop-code l = (k : ℕ) → l.fn.codes.first ≤ k → k < l.code → IsTrue (scalar k) → IsTrue (has l.class k) → ⊥
