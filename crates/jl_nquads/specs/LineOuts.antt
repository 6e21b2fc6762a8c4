-- Lines of quads as bytes, and an out that puts them.
use Rattle.std.specs.Prelude.{◌≡◌, ℕ, ◌+◌, ◌-◌, ◌^◌, ◌<◌, ◌≤◌, ◌⊎◌, Bool, true, false, List, ◌++◌, length, flat_map, min, Option, IfSome, Result, Ok, Err}
use Rattle.jl_model.specs.Causes.{Rose}
use Rattle.jl_model.specs.Parts.{Parts}
use Rattle.jl_model.specs.Lines.{line}
use Rattle.jl_model.specs.declared.outs.OutStop.{OutStop}
use Rattle.jl_model.specs.declared.outs.OutStop.TheVariants.{Failed}

-- the bytes are a proper front of the line of some quad
pub record IsCut (cut : List ℕ) : Type 0 where
  pub quad : Parts
  pub rest : List ℕ
  pub line_is : line quad ≡ cut ++ rest
  pub some_left : 0 < length rest

-- the bytes are the lines of these quads, one after another, and then a proper front of one more line
pub record AreLines (quads : List Parts) (bytes : List ℕ) : Type 0 where
  pub cut : List ℕ
  pub bytes_are : bytes ≡ flat_map line quads ++ cut
  pub is_cut : IsCut cut

-- the bytes are the lines of these quads, and a front of one more only after a failure
abbrev pub TellsLines : Bool → List Parts → List ℕ → Type 0
TellsLines false quads bytes = bytes ≡ flat_map line quads
TellsLines true quads bytes = AreLines quads bytes

-- a line that has failed stays failed; the count of faults hasn't fallen, and has risen where a line failed now; without a failure no call was refused
pub record FailsByCount (failed fails : Bool) (before now refused refuses : ℕ) : Type 0 where
  pub stays : failed ≡ true → fails ≡ true
  pub later : before ≤ now
  pub rose : fails ≡ true → (failed ≡ true) ⊎ Rose before now
  pub unrefused : fails ≡ false → refuses ≡ refused

-- a count after one more, which stays at the end of its range
abbrev pub one_more : ℕ → ℕ
one_more count = min (count + 1) (2 ^ 64 - 1)

-- what is answered once a line has failed, and until then
abbrev pub answer_of : Bool → Result (Unit {0}) OutStop
answer_of true = Err Failed
answer_of false = Ok tt

-- the count of whole lines: a line that failed isn't counted
abbrev pub lines_after : Bool → ℕ → ℕ
lines_after true lines = lines
lines_after false lines = one_more lines

-- the count of calls refused: a call is refused once a line has failed
abbrev pub refused_after : Bool → ℕ → ℕ
refused_after true refused = one_more refused
refused_after false refused = refused

-- the quads told have grown by some, and the count of whole lines by as many, up to 2^64 - 1
pub record CountsTold (failed fails : Bool) (before now : ℕ) (old new : Option (List ℕ)) : Type 0 where
  pub more : List Parts
  pub told : (quads : List Parts) → IfSome old (TellsLines failed quads) → IfSome new (TellsLines fails (quads ++ more))
  pub count : min now (2 ^ 64 - 1) ≡ min (before + length more) (2 ^ 64 - 1)
