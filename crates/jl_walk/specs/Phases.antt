-- The phases of an open object (this project's own rules). In streaming order its first members lead: its context and its prelude
-- decide the contexts, its second run decides its name and whether it is a value, and in its rest a key for one of these comes
-- too late. In the order any no key does.
use Rattle.std.specs.Prelude.{ℕ, zero, suc, Bool, true, false, ◌&&◌, List, [], ◌∷◌, ◌++◌}
use Rattle.jl_model.specs.JsonTree.{Tree, Members, no_member, member}
use Rattle.jl_model.specs.declared.codes.Code.TheVariants as code
use Rattle.jl_model.specs.declared.faults.Fault.{Fault}
use Rattle.jl_model.specs.declared.orders.Order.{Order}
use Rattle.jl_model.specs.declared.orders.Order.TheVariants.{Any, Streaming}
use Rattle.jl_defs.specs.Texts.{Text}
use Rattle.jl_defs.specs.Context.{Context}
use Rattle.jl_defs.specs.Settings.{Settings, Under, Stand}
use Rattle.jl_defs.specs.Keys.{key_of, is_id}
use Rattle.jl_defs.specs.ObjectContexts.{fault, Inside, is_context_name, is_in_prelude}
use Rattle.jl_defs.specs.Rest.{own_candidates, ends_run, ends_with}
use Rattle.jl_defs.specs.LateKeys.{if_so, context_fault, late_key}

-- how far the members of an open object have come
pub data Phase : Type 0 where
  -- the order any
  any_time : Phase
  -- no member has been read; this many lead
  at_start : (left : ℕ) → Phase
  -- so many more members of the prelude come
  in_lead : (left : ℕ) → Phase
  -- the second run
  in_run : Phase
  in_rest : Phase

-- the phase after a member that may have ended the second run
abbrev pub run_until : Bool → Phase
run_until true = in_rest
run_until false = in_run

-- the phase of a key where so many members lead
abbrev pub next_lead : ℕ → Inside → Text → Phase
next_lead zero i n = run_until (ends_run i true n)
next_lead (suc left) i n = in_lead left

-- the phase of the next key
abbrev pub follow : Phase → Inside → Text → Phase
follow any_time i n = any_time
follow (at_start left) i n = next_lead left i n
follow (in_lead left) i n = next_lead left i n
follow in_run i n = run_until (ends_run i false n)
follow in_rest i n = in_rest

-- the phase after the key's value: an array or an object under `@value` ends the second run
abbrev pub past : Phase → Inside → Text → Tree → Phase
past in_run i n v = run_until (ends_with i n v)
past ph i n v = ph

-- the rest has begun
abbrev pub is_rest : Phase → Bool
is_rest in_rest = true
is_rest ph = false

-- `@context` after another member
abbrev pub context_at : Phase → Text → ℕ → List Fault
context_at any_time n a = []
context_at (at_start left) n a = []
context_at ph n a = context_fault n a

-- a first key that doesn't lead, and that means `@id` outside an object which might have gone back
abbrev pub lone_at : Phase → Inside → Text → ℕ → List Fault
lone_at (at_start zero) i n a = if_so (i.could_go_back && is_id (key_of i.outside n)) (fault code.LateIdentifier a ∷ [])
lone_at ph i n a = []

-- a key of the rest for a type, an identifier or a value
abbrev pub rest_at : Phase → Inside → Text → ℕ → List Fault
rest_at in_rest i n a = late_key i n a
rest_at ph i n a = []

-- what makes a key late by its meaning
abbrev pub late_at : Phase → Inside → Text → ℕ → List Fault
late_at ph i n a = lone_at ph i n a ++ rest_at (follow ph i n) i n a

-- what a key has at fault by the phase before it
abbrev pub phase_faults : Phase → Inside → Text → ℕ → List Fault
phase_faults ph i n a = context_at ph n a ++ late_at ph i n a

-- the same of all members
abbrev pub phased : Inside → Phase → Members → List Fault
phased i ph no_member = []
phased i ph (member a n v rest) = phase_faults ph i n a ++ phased i (past (follow ph i n) i n v) rest

-- the members before the rest: these are known where the object is named
abbrev pub known : Inside → Phase → Members → Members
known i ph no_member = no_member
known i ph (member a n v rest) =
    elim (is_rest (follow ph i n)) [ true ↦ no_member | false ↦ member a n v (known i (past (follow ph i n) i n v) rest) ]

-- how many members the prelude has
abbrev pub prelude_length : List Context → Members → ℕ
prelude_length cs no_member = 0
prelude_length cs (member a n v rest) = elim (is_in_prelude cs n v) [ true ↦ suc (prelude_length cs rest) | false ↦ 0 ]

-- how many members lead: a `@context` that stands first, and the prelude
abbrev pub leading_length : List Context → Members → ℕ
leading_length cs no_member = 0
leading_length cs (member a n v rest) =
    elim (is_context_name n) [ true ↦ suc (prelude_length cs rest) | false ↦ prelude_length cs (member a n v rest) ]

-- the phase of an object that opens
abbrev pub first_phase : Settings → Context → Under → Stand → ℕ → Members → Phase
first_phase s c under stand at ms = by s.order
  where
    by : Order → Phase
    by Any = any_time
    by Streaming = at_start (leading_length (own_candidates s c under stand at ms) ms)
