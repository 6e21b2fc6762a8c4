-- What the members so far are of the object's prelude.
use Rattle.std.proofs.Common.{◌≡◌, ℕ, Bool, true, false, not, List, [], ◌∷◌, ◌++◌, None, ap, refl, sym, ◌∙◌, subst}
use Rattle.std.proofs.lemmas.Bool.{false≢true}
use Rattle.jl_model.specs.JsonTree.{Tree, scalar, array, object, Members, no_member, member}
use Rattle.jl_model.specs.declared.scalars.Scalar.TheVariants.{Null, Bool as boolean, Number, Str}
use Rattle.jl_model.specs.declared.orders.Order.{Order}
use Rattle.jl_model.specs.declared.orders.Order.TheVariants.{Any, Streaming}
use Rattle.jl_defs.specs.Context.{Context}
use Rattle.jl_defs.specs.Keys.{key_of, is_id}
use Rattle.jl_defs.specs.ObjectContexts as contexts
use Rattle.jl_defs.specs.ObjectContexts.{Look, look_at, look_at_key, is_in_prelude, prelude_looks, after_prelude}
use Rattle.jl_defs.specs.Texts.{Text}
use Rattle.jl_prelude.specs.Classes.{is_identifier, Tell, BeginsWith, leads, ends}
use Rattle.jl_prelude.specs.Members.{is_single_id}
use Rattle.jl_prelude.specs.Preludes.{IsPrelude, names_of, EndsAt, EndsWith, AreSeen}
use Rattle.jl_prelude.specs.declared.classes.Class.{Class}
use Rattle.jl_prelude.specs.declared.classes.Class.TheVariants.{Other}
use Rattle.jl_prelude.specs.declared.classes.Classes.{Classes}
use Rattle.jl_prelude.specs.declared.members.PreludeMember.{PreludeMember}
use Rattle.jl_prelude.proofs.ClassLemmas.{leads_prelude, id_key}

-- a member more, which is of the prelude too
pub prelude_more : (cs : List Context) (xs : List PreludeMember) (x : PreludeMember) (of : Members) (v : Tree) (rest : Members)
    → IsPrelude cs xs of (member x.at x.key v rest) → is_in_prelude cs x.key v ≡ true → IsPrelude cs (xs ++ x ∷ []) of rest
prelude_more cs [] x of v rest is e = subst (λ ms. IsPrelude cs (x ∷ []) ms rest) (sym is) (refl, refl, e, refl)
prelude_more cs (y ∷ ys) x no_member v rest is e = absurd is
prelude_more cs (y ∷ ys) x (member a n w left) v rest is e = (is.0, is.1, is.2, prelude_more cs ys x left v rest is.3 e)

looks_end : (cs : List Context) (at : ℕ) (name : Text) (v : Tree) (rest : Members) → is_in_prelude cs name v ≡ false
    → prelude_looks cs (member at name v rest) ≡ look_at_key name ∷ []
looks_end cs at name v rest e = ap (λ b. elim b [ true ↦ look_at name v ∷ prelude_looks cs rest | false ↦ look_at_key name ∷ [] ]) e

after_end : (cs : List Context) (at : ℕ) (name : Text) (v : Tree) (rest : Members) → is_in_prelude cs name v ≡ false
    → after_prelude cs (member at name v rest) ≡ member at name v rest
after_end cs at name v rest e = ap (λ b. elim b [ true ↦ after_prelude cs rest | false ↦ member at name v rest ]) e

looks_more : (cs : List Context) (at : ℕ) (name : Text) (v : Tree) (rest : Members) → is_in_prelude cs name v ≡ true
    → prelude_looks cs (member at name v rest) ≡ look_at name v ∷ prelude_looks cs rest
looks_more cs at name v rest e = ap (λ b. elim b [ true ↦ look_at name v ∷ prelude_looks cs rest | false ↦ look_at_key name ∷ [] ]) e

after_more : (cs : List Context) (at : ℕ) (name : Text) (v : Tree) (rest : Members) → is_in_prelude cs name v ≡ true
    → after_prelude cs (member at name v rest) ≡ after_prelude cs rest
after_more cs at name v rest e = ap (λ b. elim b [ true ↦ after_prelude cs rest | false ↦ member at name v rest ]) e

look_name : (name : Text) (v : Tree) → (look_at name v).name ≡ name
look_name name (scalar at Null) = refl
look_name name (scalar at (boolean b)) = refl
look_name name (scalar at (Number n)) = refl
look_name name (scalar at (Str text)) = refl
look_name name (array at xs) = refl
look_name name (object at ms) = refl

-- the member behind those of the prelude ends it, where it isn't of the prelude
pub prelude_ends : (cs : List Context) (xs : List PreludeMember) (of : Members) (at : ℕ) (name : Text) (v : Tree) (rest : Members)
    → IsPrelude cs xs of (member at name v rest) → is_in_prelude cs name v ≡ false → EndsAt cs xs of at name v rest
prelude_ends cs [] of at name v rest is e =
    let looks : prelude_looks cs of ≡ look_at_key name ∷ [] = ap (prelude_looks cs) is ∙ looks_end cs at name v rest e in
    record { looks = looks; names = ap names_of looks; after = ap (after_prelude cs) is ∙ after_end cs at name v rest e }
prelude_ends cs (y ∷ ys) no_member at name v rest is e = absurd is
prelude_ends cs (y ∷ ys) (member a n w left) at name v rest is e =
    let h = prelude_ends cs ys left at name v rest is.3 e in
    record {
      looks = looks_more cs a n w left is.2 ∙ ap (λ ls. look_at n w ∷ ls) h.looks;
      names = ap names_of (looks_more cs a n w left is.2) ∙ ap (λ x. x ∷ names_of (prelude_looks cs left)) (look_name n w ∙ sym is.1) ∙ ap (λ ls. y.key ∷ ls) h.names;
      after = after_more cs a n w left is.2 ∙ h.after;
    }

-- where none is left, they are all
pub prelude_whole : (cs : List Context) (xs : List PreludeMember) (of : Members) → IsPrelude cs xs of no_member → EndsWith cs xs of
prelude_whole cs [] of is = record { looks = ap (prelude_looks cs) is; names = ap (λ ms. names_of (prelude_looks cs ms)) is; after = ap (after_prelude cs) is }
prelude_whole cs (y ∷ ys) no_member is = absurd is
prelude_whole cs (y ∷ ys) (member a n w left) is =
    let h = prelude_whole cs ys left is.3 in
    record {
      looks = looks_more cs a n w left is.2 ∙ ap (λ ls. look_at n w ∷ ls) h.looks;
      names = ap names_of (looks_more cs a n w left is.2) ∙ ap (λ x. x ∷ names_of (prelude_looks cs left)) (look_name n w ∙ sym is.1) ∙ ap (λ ls. y.key ∷ ls) h.names;
      after = after_more cs a n w left is.2 ∙ h.after;
    }

not_true : (b : Bool) → not b ≡ true → b ≡ false
not_true true e = absurd (false≢true e)
not_true false e = refl

-- where a member ends the prelude, it does so by the definition
pub ends_at : (order : Order) (cs : List Context) (xs : List PreludeMember) (of : Members) (at : ℕ) (name : Text) (v : Tree) (rest : Members) (classes : Classes) (first : ℕ)
    → ends order classes first ≡ true → IsPrelude cs xs of (member at name v rest) → Tell cs name classes → BeginsWith v first → EndsAt cs xs of at name v rest
ends_at Any cs xs of at name v rest classes first e is t b = absurd (false≢true e)
ends_at Streaming cs xs of at name v rest classes first e is t b =
    prelude_ends cs xs of at name v rest is (sym (leads_prelude cs name v classes first t b) ∙ not_true (leads classes first) e)

-- in streaming order a member ends the prelude where it doesn't lead
pub ends_streaming : (order : Order) (classes : Classes) (first : ℕ) (leading : Bool) → order ≡ Streaming → leading ≡ leads classes first → not leading ≡ true
    → ends order classes first ≡ true
ends_streaming order classes first leading o l e = ap (λ s. ends s classes first) o ∙ ap not (sym l) ∙ e

abbrev head_text : List Text → Text
head_text [] = []
head_text (x ∷ xs) = x

abbrev head_class : List Class → Class
head_class [] = Other
head_class (x ∷ xs) = x

-- the members are a single identifier exactly where what is seen of them is
pub single_seen : (outside : Context) (xs : List PreludeMember) (looks : List Look) → AreSeen outside xs looks
    → is_single_id xs ≡ contexts.is_single_id outside None looks
single_seen c [] [] s = refl
single_seen c [] (l ∷ ls) s = let e = s.names in cc
single_seen c (x ∷ xs) [] s = let e = s.names in cc
single_seen c (x ∷ []) (l ∷ []) s =
    ap is_identifier (ap head_class s.classes) ∙ id_key (key_of c x.key) ∙ ap (λ name. is_id (key_of c name)) (ap head_text (sym s.names))
single_seen c (x ∷ []) (l ∷ (m ∷ ls)) s = let e = s.names in cc
single_seen c (x ∷ (y ∷ xs)) (l ∷ []) s = let e = s.names in cc
single_seen c (x ∷ (y ∷ xs)) (l ∷ (m ∷ ls)) s = refl
