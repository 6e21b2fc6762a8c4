use Rattle.std.proofs.Common.{◌≡◌, ℕ, ◌<◌, ◌≤◌, List, ◌++◌, IsTrue}
use lib.Utf8.{encode}
use Rattle.jl_nquads.specs.CodePoints.{has}
use Rattle.jl_nquads.proofs.code_points.begins_among.Given as goal

abbrev pub invariant-loop-code : goal.invariant-loop-code
invariant-loop-code l = (k : ℕ) (back : List ℕ) → l.fn.codes.first ≤ k → k < l.code → IsTrue (has l.fn.class k) → encode k ≡ l.text ++ back → ⊥
