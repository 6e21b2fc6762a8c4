-- What a call does to an out.
use Rattle.std.specs.Prelude.{◌≡◌, ℕ, Bool, List, ◌++◌, Result, Ok, Err, IsErrOf}
use Rattle.jl_model.specs.Causes.{HasCause}
use Rattle.jl_model.specs.Parts.{Parts}
use Rattle.jl_engine.specs.Standing.{WerePut}
use Rattle.jl_engine.specs.Stops.{IsOutside}
use Rattle.jl_engine.specs.declared.stops.Stop.{Stop}
use Rattle.jl_engine.specs.declared.stops.Stop.TheVariants.{OutFault}

-- some quads from the front were put
pub record PutSome (told tells : List Parts → Type 0) (selects : Parts → Bool) (quads : List Parts) : Type 0 where
  pub front : List Parts
  pub back : List Parts
  pub quads_are : quads ≡ front ++ back
  pub put : WerePut told tells selects front

-- all of the quads were put, or the out or memory stopped that, and some from the front were
abbrev pub Puts : {Out : Type 0} → Result (Unit {0}) Stop → List Parts → (Out → List Parts → Type 0) → (Out → Parts → Bool) → Out → Out → Type 0
Puts (Ok x) quads tells selects before now = WerePut (tells before) (tells now) (selects before) quads
Puts (Err stop) quads tells selects before now = PutSome (tells before) (tells now) (selects before) quads × IsOutside stop

-- the out's test is the same, and so is what stands beside its quads; its count of faults rose just where it failed
pub record Leaves {T Out : Type 0} (result : Result T Stop) (selects : Out → Parts → Bool) (faults : Out → ℕ) (beside : Out → Out → Type 0) (old new : Out) : Type 0 where
  pub test : (q : Parts) → selects new q ≡ selects old q
  pub cause : HasCause (faults old) (faults new) (IsErrOf result OutFault)
  pub kept : beside old new
