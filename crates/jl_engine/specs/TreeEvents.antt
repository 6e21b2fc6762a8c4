-- The events of tokens, as the code has them and as the walk has them.
use Rattle.std.specs.Prelude.{List, map}
use Rattle.jl_model.specs.declared.tokens.Token.{Token}
use Rattle.jl_model.specs.declared.tokens.Token.TheVariants as tokens
use Rattle.jl_walk.specs.Events as walk
use Rattle.jl_engine.specs.declared.events.Event.{Event}
use Rattle.jl_engine.specs.declared.events.Event.TheVariants as events

abbrev pub event_of : Token → Event
event_of (tokens.OpenObject at) = events.OpensObject at
event_of (tokens.CloseObject at) = events.Closes
event_of (tokens.OpenArray at) = events.OpensArray at
event_of (tokens.CloseArray at) = events.Closes
event_of (tokens.Key at name) = events.Key at name
event_of (tokens.Value at v) = events.Value at v

abbrev pub events_of : List Token → List Event
events_of tokens = map event_of tokens

-- an event of the walk
abbrev pub walked : Event → walk.Event
walked (events.OpensObject at) = walk.opens_object at
walked (events.OpensArray at) = walk.opens_array at
walked events.Closes = walk.closes
walked (events.Key at n) = walk.a_key at n
walked (events.Value at v) = walk.a_scalar at v

abbrev pub all_walked : List Event → List walk.Event
all_walked es = map walked es
