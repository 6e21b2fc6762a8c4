-- What a way to define names has to keep, so that a name may be defined before the definition that needs it.
use Rattle.std.specs.Prelude.{◌≡◌, ◌⊎◌, ℕ, suc, Bool, true, false, Option, Some, None, Result, Ok, Err}
use Rattle.jl_model.specs.declared.codes.Code.{Code}
use Rattle.jl_model.specs.declared.codes.Code.TheVariants as code
use Rattle.jl_defs.specs.Texts.{Text, is_among}
use Rattle.jl_defs.specs.Context.{term}
use Rattle.jl_defs.specs.Define.{LocalMap, Progress, Define, find_entry, define}

-- an answer that is a value has a property
abbrev pub Meets : {A : Type 0} → (A → Type 0) → Result A Code → Type 0
Meets P (Ok x) = P x
Meets P (Err c) = Unit {0}

-- the name is defined, or no entry of the map
abbrev pub Settled : LocalMap → Text → Progress → Type 0
Settled m n p = (is_among p.defined n ≡ true) ⊎ (find_entry m.entries n ≡ None)

-- nothing that is defined later changes the name: it is settled, or in the middle of its definition
abbrev pub Fixed : LocalMap → Progress → Text → Type 0
Fixed m p n = Settled m n p ⊎ (is_among p.pending n ≡ true)

-- a progress that goes on from another one
pub record Extends (m : LocalMap) (p q : Progress) : Type 0 where
  pub pending : q.pending ≡ p.pending
  pub defined : (n : Text) → is_among p.defined n ≡ true → is_among q.defined n ≡ true
  pub same : (n : Text) → Fixed m p n → term q.built n ≡ term p.built n
  pub vocab : q.built.level.vocab ≡ p.built.level.vocab
  pub base : q.built.level.base ≡ p.built.level.base

-- a way to define names, as the definition's own
pub record Faithful (m : LocalMap) (D : Define) : Type 0 where
  -- what is settled stays
  pub knows : (q : Progress) (n : Text) → is_among q.defined n ≡ true → D q n ≡ Ok q
  pub absent : (q : Progress) (n : Text) → is_among q.defined n ≡ false → is_among q.pending n ≡ false → find_entry m.entries n ≡ None → D q n ≡ Ok q
  -- a name in the middle of its definition is a cycle
  pub cyclic : (q : Progress) (n : Text) → is_among q.defined n ≡ false → is_among q.pending n ≡ true → D q n ≡ Err code.CyclicIriMapping
  pub extends : (q : Progress) (n : Text) → Meets (Extends m q) (D q n)
  pub settles : (q : Progress) (n : Text) → Meets (Settled m n) (D q n)

-- the definition's own way is faithful, however deep definitions may lead to one another
abbrev pub DefinesFaithfully : Type 0
DefinesFaithfully = (n : ℕ) (m : LocalMap) → Faithful m (define (suc n) m)
