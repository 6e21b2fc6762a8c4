-- What is known of a value by its first byte.
use Rattle.std.proofs.Common.{◌≡◌, ℕ, sym, subst, Option, Some, None, ap}
use Rattle.jl_model.specs.JsonTree.{Tree, scalar, array, object, no_item, no_member}
use Rattle.jl_model.specs.declared.scalars.Scalar.TheVariants.{Null, Bool as boolean, Number, Str}
use Rattle.jl_defs.specs.Trees.{place_of}
use Rattle.jl_defs.specs.Reported.{begun_at}
use Rattle.jl_defs.specs.OpenTree.{First, quote, brace, bracket, sign, Open, unread, in_scalar, in_array, in_object, in_key, in_member, whole, first_byte, stand_in, IsScalarAt, Extends}

-- the value begins with this byte, if it is known
abbrev pub Begins : Option First → Tree → Type 0
Begins None t = Unit {0}
Begins (Some quote) (scalar at (Str text)) = Unit {0}
Begins (Some quote) t = ⊥
Begins (Some sign) (scalar at (Str text)) = ⊥
Begins (Some sign) (scalar at v) = Unit {0}
Begins (Some sign) t = ⊥
Begins (Some bracket) (array at xs) = Unit {0}
Begins (Some bracket) t = ⊥
Begins (Some brace) (object at ms) = Unit {0}
Begins (Some brace) t = ⊥

begins-scalar : (at : ℕ) (first : First) (t : Tree) → IsScalarAt at first t → Begins (Some first) t
begins-scalar at quote (scalar at' (Str text)) e = tt
begins-scalar at quote (scalar at' Null) e = absurd e
begins-scalar at quote (scalar at' (boolean b)) e = absurd e
begins-scalar at quote (scalar at' (Number n)) e = absurd e
begins-scalar at quote (array at' xs) e = absurd e
begins-scalar at quote (object at' ms) e = absurd e
begins-scalar at sign (scalar at' (Str text)) e = absurd e
begins-scalar at sign (scalar at' Null) e = tt
begins-scalar at sign (scalar at' (boolean b)) e = tt
begins-scalar at sign (scalar at' (Number n)) e = tt
begins-scalar at sign (array at' xs) e = absurd e
begins-scalar at sign (object at' ms) e = absurd e
begins-scalar at brace t e = absurd e
begins-scalar at bracket t e = absurd e

begins-whole : (t : Tree) → Begins (first_byte (whole t)) t
begins-whole (scalar at (Str text)) = tt
begins-whole (scalar at Null) = tt
begins-whole (scalar at (boolean b)) = tt
begins-whole (scalar at (Number n)) = tt
begins-whole (array at xs) = tt
begins-whole (object at ms) = tt

pub extends-begins : (o : Open) (t : Tree) → Extends o t → Begins (first_byte o) t
unfolding Extends
extends-begins unread t e = tt
extends-begins (in_scalar at first) t e = begins-scalar at first t e
extends-begins (in_array at xs next) t (rest, e, n) = subst (Begins (Some bracket)) (sym e) tt
extends-begins (in_object at ms ends) t (rest, e) = subst (Begins (Some brace)) (sym e) tt
extends-begins (in_key at ms ends a) t (rest, e, n) = subst (Begins (Some brace)) (sym e) tt
extends-begins (in_member at ms ends a n next) t (v, rest, e, x) = subst (Begins (Some brace)) (sym e) tt
extends-begins (whole t) u e = subst (Begins (first_byte (whole t))) e (begins-whole t)

-- both are scalars, arrays or objects
abbrev pub Alike : Tree → Tree → Type 0
Alike (scalar at v) (scalar at' w) = Unit {0}
Alike (scalar at v) t = ⊥
Alike (array at xs) (array at' ys) = Unit {0}
Alike (array at xs) t = ⊥
Alike (object at ms) (object at' ns) = Unit {0}
Alike (object at ms) t = ⊥

abbrev pub IsRead : Open → Type 0
IsRead unread = ⊥
IsRead o = Unit {0}

scalar-alike : (at : ℕ) (first : First) (t : Tree) → IsScalarAt at first t → Alike (stand_in (in_scalar at first)) t
scalar-alike at quote (scalar at' v) e = tt
scalar-alike at quote (array at' xs) e = absurd e
scalar-alike at quote (object at' ms) e = absurd e
scalar-alike at sign (scalar at' v) e = tt
scalar-alike at sign (array at' xs) e = absurd e
scalar-alike at sign (object at' ms) e = absurd e
scalar-alike at brace t e = absurd e
scalar-alike at bracket t e = absurd e

whole-alike : (t : Tree) → Alike (stand_in (whole t)) t
whole-alike (scalar at (Str text)) = tt
whole-alike (scalar at Null) = tt
whole-alike (scalar at (boolean b)) = tt
whole-alike (scalar at (Number n)) = tt
whole-alike (array at xs) = tt
whole-alike (object at ms) = tt

-- what stands in for a value that has begun is like it
pub stand-alike : (o : Open) (t : Tree) → IsRead o → Extends o t → Alike (stand_in o) t
unfolding Extends
stand-alike unread t r e = absurd r
stand-alike (in_scalar at first) t r e = scalar-alike at first t e
stand-alike (in_array at xs next) t r (rest, e, n) = subst (Alike (array 0 no_item)) (sym e) tt
stand-alike (in_object at ms ends) t r (rest, e) = subst (Alike (object 0 no_member)) (sym e) tt
stand-alike (in_key at ms ends a) t r (rest, e, n) = subst (Alike (object 0 no_member)) (sym e) tt
stand-alike (in_member at ms ends a n next) t r (v, rest, e, x) = subst (Alike (object 0 no_member)) (sym e) tt
stand-alike (whole t) u r e = subst (Alike (stand_in (whole t))) e (whole-alike t)

-- the place of a value that has begun
abbrev pub IsPlaced : Option First → ℕ → Tree → Type 0
IsPlaced None at t = Unit {0}
IsPlaced (Some first) at t = at ≡ place_of t

scalar-place : (at : ℕ) (first : First) (t : Tree) → IsScalarAt at first t → at ≡ place_of t
scalar-place at quote (scalar at' (Str text)) e = e
scalar-place at quote (scalar at' Null) e = absurd e
scalar-place at quote (scalar at' (boolean b)) e = absurd e
scalar-place at quote (scalar at' (Number n)) e = absurd e
scalar-place at quote (array at' xs) e = absurd e
scalar-place at quote (object at' ms) e = absurd e
scalar-place at sign (scalar at' (Str text)) e = absurd e
scalar-place at sign (scalar at' Null) e = e
scalar-place at sign (scalar at' (boolean b)) e = e
scalar-place at sign (scalar at' (Number n)) e = e
scalar-place at sign (array at' xs) e = absurd e
scalar-place at sign (object at' ms) e = absurd e
scalar-place at brace t e = absurd e
scalar-place at bracket t e = absurd e

whole-placed : (first : Option First) (t u : Tree) → t ≡ u → IsPlaced first (place_of t) u
whole-placed None t u e = tt
whole-placed (Some first) t u e = ap place_of e

pub begun-placed : (o : Open) (t : Tree) → Extends o t → IsPlaced (first_byte o) (begun_at o) t
unfolding Extends
begun-placed unread t x = tt
begun-placed (in_scalar at first) t x = scalar-place at first t x
begun-placed (in_array at xs next) t (rest, e, n) = ap place_of (sym e)
begun-placed (in_object at ms ends) t (rest, e) = ap place_of (sym e)
begun-placed (in_key at ms ends a) t (rest, e, n) = ap place_of (sym e)
begun-placed (in_member at ms ends a n next) t (v, rest, e, x) = ap place_of (sym e)
begun-placed (whole t) u e = whole-placed (first_byte (whole t)) t u e
