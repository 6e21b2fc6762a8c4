-- Events whose text is lent, and events as they are held: a mark for each, with their texts one after another. Quads that differ in
-- their objects alone are kept so too.
use Rattle.std.specs.Prelude.{ℕ, zero, ◌+◌, ◌*◌, ◌^◌, List, [], ◌∷◌, take, drop, flat_map, true, false}
use Rattle.jl_model.specs.Parts.{Parts, IsObject, with_object}
use Rattle.jl_model.specs.declared.scalars.Scalar.{Scalar}
use Rattle.jl_model.specs.declared.scalars.Scalar.TheVariants as scalars
use Rattle.jl_model.specs.declared.terms.Term.TheVariants.{Iri}
use Rattle.jl_defs.specs.Texts.{Text}
use Rattle.jl_engine.specs.declared.events.Event.{Event}
use Rattle.jl_engine.specs.declared.events.Event.TheVariants as events
use Rattle.jl_engine.specs.declared.lents.Lent.{Lent}
use Rattle.jl_engine.specs.declared.lents.Lent.TheVariants as lent
use Rattle.jl_engine.specs.declared.lents.LentScalar.{LentScalar}
use Rattle.jl_engine.specs.declared.lents.LentScalar.TheVariants as plain
use Rattle.jl_engine.specs.declared.marks.Mark.{Mark}
use Rattle.jl_engine.specs.declared.marks.MarkKind.{MarkKind}
use Rattle.jl_engine.specs.declared.marks.MarkKind.TheVariants as kinds

abbrev pub scalar_lent : LentScalar → Scalar
scalar_lent plain.Null = scalars.Null
scalar_lent (plain.Bool b) = scalars.Bool b
scalar_lent (plain.Number digits) = scalars.Number digits.now
scalar_lent (plain.Str text) = scalars.Str text.now

abbrev pub event_lent : Lent → Event
event_lent (lent.OpensObject at) = events.OpensObject at
event_lent (lent.OpensArray at) = events.OpensArray at
event_lent lent.Closes = events.Closes
event_lent (lent.Key at name) = events.Key at name.now
event_lent (lent.Value at v) = events.Value at (scalar_lent v)

-- the event of a mark of this kind, with its text
abbrev pub event_by : MarkKind → ℕ → Text → Event
event_by kinds.OpensObject at text = events.OpensObject at
event_by kinds.OpensArray at text = events.OpensArray at
event_by kinds.Closes at text = events.Closes
event_by kinds.Key at text = events.Key at text
event_by kinds.Null at text = events.Value at scalars.Null
event_by kinds.True at text = events.Value at (scalars.Bool true)
event_by kinds.False at text = events.Value at (scalars.Bool false)
event_by kinds.Number at text = events.Value at (scalars.Number text)
event_by kinds.Str at text = events.Value at (scalars.Str text)

-- a number in five bytes: the lower four, and the highest
abbrev pub whole : ℕ → ℕ → ℕ
whole low high = high * 2 ^ 32 + low

unfoldable pub at_of : Mark → ℕ
at_of m = whole m.at_low m.at_high

unfoldable pub len_of : Mark → ℕ
len_of m = whole m.len_low m.len_high

-- what is made of items, each with its text: the texts stand one after another, each of the size that its item tells
abbrev pub cut : {X Y : Type 0} → (X → ℕ) → (X → Text → Y) → List X → Text → List Y
cut size make [] bytes = []
cut size make (x ∷ xs) bytes = make x (take (size x) bytes) ∷ cut size make xs (drop (size x) bytes)

-- how many bytes their texts take
abbrev pub text_len : {X : Type 0} → (X → ℕ) → List X → ℕ
text_len size [] = zero
text_len size (x ∷ xs) = size x + text_len size xs

-- the event of a mark, with its text
abbrev pub event_at : Mark → Text → Event
event_at m text = event_by m.kind (at_of m) text

-- the events of these marks
abbrev pub marked : List Mark → Text → List Event
marked ms bytes = cut len_of event_at ms bytes

abbrev pub itself : ℕ → ℕ
itself n = n

-- a quad with an IRI of this size as its object
abbrev pub with_iri : Parts → ℕ → Text → Parts
with_iri q n text = with_object q (Iri text)

-- the quads that have IRIs of these sizes in place of the object of this one
abbrev pub refilled : Parts → List ℕ → Text → List Parts
refilled q sizes bytes = cut itself (with_iri q) sizes bytes

-- the object of each is well-formed
abbrev pub HaveObjects : List Parts → Type 0
HaveObjects [] = Unit {0}
HaveObjects (q ∷ qs) = IsObject q.object × HaveObjects qs

-- lists, one after another
abbrev pub all_of : {X : Type 0} → List (List X) → List X
all_of lists = flat_map (λ xs. xs) lists
