-- The parts of an object in streaming order: its context, its prelude, its second run and its rest. The prelude
-- decides the contexts, the second run still leads, and only members of the rest are judged as late, settle the
-- object and make it a graph (this project's own rules).
use Rattle.std.specs.Prelude.{ℕ, Bool, true, false, not, ◌&&◌, ◌||◌, List}
use Rattle.jl_model.specs.JsonTree.{Tree, scalar, array, object, Members, no_member, member}
use Rattle.jl_defs.specs.Texts.{Text}
use Rattle.jl_defs.specs.Trees.{then_members}
use Rattle.jl_defs.specs.Context.{Context}
use Rattle.jl_defs.specs.Settings.{Settings, Under, Stand}
use Rattle.jl_defs.specs.Keys.{key_of, is_kind, is_value, is_leading}
use Rattle.jl_defs.specs.ObjectContexts.{Inside, first_context, candidates, is_in_prelude, after_context, after_prelude}

-- the candidates for the contexts of an object with these members
abbrev pub own_candidates : Settings → Context → Under → Stand → ℕ → Members → List Context
own_candidates s c under stand at ms = candidates s c under stand at (first_context ms)

-- the members of the prelude
abbrev pub prelude_of : List Context → Members → Members
prelude_of cs no_member = no_member
prelude_of cs (member a n v rest) = elim (is_in_prelude cs n v) [ true ↦ member a n v (prelude_of cs rest) | false ↦ no_member ]

-- the members after the context and the prelude
abbrev pub past_prelude : List Context → Members → Members
past_prelude cs ms = after_prelude cs (after_context ms)

abbrev pub is_scalar : Tree → Bool
is_scalar (scalar at v) = true
is_scalar (array at xs) = false
is_scalar (object at ms) = false

-- from its second member on, the second run ends at a key that would have decided the contexts
abbrev pub would_decide : Inside → Text → Bool
would_decide i name = is_kind (key_of i.base name) || (i.could_go_back && is_value (key_of i.outside name))

abbrev pub ends_run : Inside → Bool → Text → Bool
ends_run i first name = not (is_leading (key_of i.final name)) || (not first && would_decide i name)

-- a value that is an array or an object ends the run and belongs to it
abbrev pub ends_with : Inside → Text → Tree → Bool
ends_with i name v = is_value (key_of i.final name) && not (is_scalar v)

-- the members of the second run; `first` says that none of them has been read yet
abbrev pub run_of : Inside → Bool → Members → Members
run_of i first no_member = no_member
run_of i first (member a n v rest) =
    elim (ends_run i first n) [
      | true ↦ no_member
      | false ↦ member a n v (elim (ends_with i n v) [ true ↦ no_member | false ↦ run_of i false rest ])
    ]

-- the members after the second run
abbrev pub after_run : Inside → Bool → Members → Members
after_run i first no_member = no_member
after_run i first (member a n v rest) =
    elim (ends_run i first n) [
      | true ↦ member a n v rest
      | false ↦ elim (ends_with i n v) [ true ↦ rest | false ↦ after_run i false rest ]
    ]

-- the members of the prelude and of the second run
abbrev pub before_rest : Settings → Context → Under → Stand → ℕ → Inside → Members → Members
before_rest s c under stand at i ms =
    then_members
    (prelude_of (own_candidates s c under stand at ms) (after_context ms))
    (run_of i true (past_prelude (own_candidates s c under stand at ms) ms))

-- the rest of an object: the members after its context, its prelude and its second run
abbrev pub rest_of : Settings → Context → Under → Stand → ℕ → Inside → Members → Members
rest_of s c under stand at i ms = after_run i true (past_prelude (own_candidates s c under stand at ms) ms)
