-- A prelude, as contracts see it, and what it is of an object.
use Rattle.std.specs.Prelude.{◌≡◌, ℕ, ◌+◌, true, List, [], ◌∷◌, ◌++◌, map}
use Rattle.jl_model.specs.JsonTree.{Tree, Members, no_member, member}
use Rattle.jl_defs.specs.Context.{Context}
use Rattle.jl_defs.specs.Keys.{key_of}
use Rattle.jl_defs.specs.ObjectContexts.{Look, look_at, look_at_key, is_in_prelude, prelude_looks, after_prelude}
use Rattle.jl_defs.specs.Texts.{Text}
use Rattle.jl_prelude.specs.Classes.{class_of}
use Rattle.jl_prelude.specs.Members.{weight, capped, weight_of}
use Rattle.jl_prelude.specs.declared.members.PreludeMember.{PreludeMember}
use Rattle.jl_prelude.specs.declared.states.PreludeState.{PreludeState}

-- the rule of form: the weight is that of the members
abbrev pub IsFormed : PreludeState → Type 0
IsFormed state = state.weight ≡ weight_of state.members

abbrev pub with_member : PreludeState → PreludeMember → PreludeState
with_member state x = record state { members = state.members ++ x ∷ []; weight = capped (state.weight + weight x) }

-- the members are the first ones of the object, in their order, and each is of its prelude; these are left
abbrev pub IsPrelude : List Context → List PreludeMember → Members → Members → Type 0
IsPrelude candidates [] of left = of ≡ left
IsPrelude candidates (x ∷ xs) no_member left = ⊥
IsPrelude candidates (x ∷ xs) (member at name value rest) left =
    (x.at ≡ at) × (x.key ≡ name) × (is_in_prelude candidates name value ≡ true) × IsPrelude candidates xs rest left

-- what is seen of as many of the object's first members
abbrev pub first_looks : List PreludeMember → Members → List Look
first_looks [] of = []
first_looks (x ∷ xs) no_member = []
first_looks (x ∷ xs) (member at name value rest) = look_at name value ∷ first_looks xs rest

abbrev pub keys_of : List PreludeMember → List Text
keys_of xs = map (λ x. x.key) xs

abbrev pub names_of : List Look → List Text
names_of looks = map (λ look. look.name) looks

-- these members are the whole prelude of the object, and the member of this name ends it
pub record EndsAt (candidates : List Context) (xs : List PreludeMember) (of : Members) (at : ℕ) (name : Text) (value : Tree) (rest : Members) : Type 0 where
  pub looks : prelude_looks candidates of ≡ first_looks xs of ++ look_at_key name ∷ []
  pub names : names_of (prelude_looks candidates of) ≡ keys_of xs ++ name ∷ []
  pub after : after_prelude candidates of ≡ member at name value rest

-- these members are the whole prelude of the object, and the whole object
pub record EndsWith (candidates : List Context) (xs : List PreludeMember) (of : Members) : Type 0 where
  pub looks : prelude_looks candidates of ≡ first_looks xs of
  pub names : names_of (prelude_looks candidates of) ≡ keys_of xs
  pub after : after_prelude candidates of ≡ no_member

-- the members have the keys that are seen, with their classes in the context outside
pub record AreSeen (outside : Context) (xs : List PreludeMember) (looks : List Look) : Type 0 where
  pub names : names_of looks ≡ keys_of xs
  pub classes : map (λ x. x.classes.incoming) xs ≡ map (λ x. class_of (key_of outside x.key)) xs
