-- What has been put while a container is still open, in streaming order: what `says` says of its closed items, and of its closed
-- members once it has entered; and where it enters.
use Rattle.std.specs.Prelude.{◌≡◌, ℕ, true, false, List, [], ◌∷◌, ◌++◌, Option, Some}
use Rattle.jl_model.specs.JsonTree.{Tree, Trees, Members}
use Rattle.jl_model.specs.declared.orders.Order.TheVariants.{Streaming}
use Rattle.jl_defs.specs.Texts.{Text}
use Rattle.jl_defs.specs.Settings.{Settings, Under, Stand}
use Rattle.jl_defs.specs.ObjectContexts.{Inside}
use Rattle.jl_defs.specs.OpenTree.{First, bracket, brace, Open, first_byte, read_members}
use Rattle.jl_defs.specs.Settled.{settled_by_key}
use Rattle.jl_defs.specs.ValueObjects.{is_json}
use Rattle.jl_defs.specs.Kept.{own_member, entries}
use Rattle.jl_defs.specs.Faults.{items_faults, members_faults, place}
use Rattle.jl_laws.specs.Spots.{Spot, stand_of, inside, moved}
use Rattle.jl_laws.specs.Says.{walk_all, members_say}
use Rattle.jl_walk.specs.Phases.{phased}
use Rattle.jl_walk.specs.Stage.{items_forms, members_forms}
use Rattle.jl_walk.specs.Frames.{Object, Frame, values, object as object_frame}
use Rattle.jl_walk.specs.Steps.{then_goes}
use Rattle.jl_walk.specs.Opening.{enter_at}
use Rattle.jl_walk.specs.Feeding.{decided, feed_members}
use Rattle.jl_walk.specs.Events.{Event, opens_array, opens_object, a_key, items_events, members_events}
use Rattle.jl_walk.specs.States.{at, leading, from, before}
use Rattle.jl_walk.specs.Running.{opened, run}
use Rattle.jl_walk.specs.Laws.{IsPlain}

-- the items of an array without faults: the array's frame moves on, whatever follows
abbrev pub ItemsPut : Type 0
ItemsPut =
    (s : Settings) (xs : Trees) (p : Spot) (k : List Frame) (es : List Event) → s.order ≡ Streaming →
    IsPlain p → inside p.role.around ≡ p.role.around →
    items_faults s p.context p.under (stand_of p.role.around) xs ≡ [] →
    items_forms s p.context p.under (stand_of p.role.around) xs ≡ [] →
    run s (items_events xs es) (at (values p ∷ k))
    ≡ before (walk_all s p xs).0 (run s es (at (values (moved p p.role.around (walk_all s p xs).1) ∷ k)))

-- an object after members: its node and its graph stay, and it has the entries that they put
pub record IsAfter (s : Settings) (i : Inside) (under : Under) (ms : Members) (o last : Object) : Type 0 where
  pub same_subject : last.subject ≡ o.subject
  pub same_scope : last.scope ≡ o.scope
  pub more_entries : last.entries ≡ o.entries ++ entries s i own_member under ms

-- the members of an object that has entered, where none has a fault and none is late
abbrev pub MembersPut : Type 0
MembersPut =
    (s : Settings) (ms : Members) (p : Spot) (i : Inside) (o : Object) (k : List Frame) (es : List Event)
    (stand : Stand) (all seen : List Tree) → s.order ≡ Streaming → is_json i.input ≡ false →
    members_faults s i (place own_member p.under stand all) (record { entries = o.entries; kinds = seen }) ms
    ++ phased i o.phase ms ≡ [] →
    members_forms s i ms ≡ [] →
    (last : Object) × IsAfter s i p.under ms o last × (run s (members_events ms es) (at (object_frame p i o ∷ k))
    ≡ before (members_say s i own_member o.subject o.scope ms) (run s es (at (object_frame p i last ∷ k))))

-- these events may begin a value whose first byte this is
abbrev pub BeginAs : Option First → List Event → Type 0
BeginAs (Some bracket) (opens_array c ∷ es) = Unit {0}
BeginAs (Some bracket) es = ⊥
BeginAs (Some brace) (opens_object c ∷ es) = Unit {0}
BeginAs (Some brace) es = ⊥
BeginAs first es = Unit {0}

-- an object that is settled by its closed members, the next key and the first byte of its value has entered before this key, as
-- these decide, and its closed members are fed
abbrev pub OpenEnters : Type 0
OpenEnters =
    (s : Settings) (ms : Members) (p : Spot) (b : ℕ) (k : List Frame) (a : ℕ) (n : Text) (next : Open) (es : List Event) →
    s.order ≡ Streaming → settled_by_key s p.context p.under (stand_of p.role.around) b ms a n next ≡ true →
    BeginAs (first_byte next) es →
    run s (members_events ms (a_key a n ∷ es)) (leading (opened p b k))
    ≡ from (then_goes (enter_at p b (decided s b (read_members ms a n next) p) k) (feed_members s ms))
    (λ l. run s (a_key a n ∷ es) (at l))
