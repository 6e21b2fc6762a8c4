-- What is told goes on being told: what the library says of a call, as the traits say it.
use Rattle.std.proofs.Common.{◌≡◌, ℕ, List, ◌++◌, Option, Some, None, Bool, true, false, ap, refl, is_some, take, append-nil, ◌∙◌}
use Rattle.std.specs.Io.KnownBytes.{Keeps, Appends, Consumes}
use Rattle.jl_io.specs.Outside.{appended, Leaves, SaysMore}
use Rattle.jl_io.specs.Streams.{told_if}

-- bytes that are put at the end
pub told_appended : (old new : Option (List ℕ)) (bytes : List ℕ) → is_some new ≡ is_some old → Appends old new bytes → new ≡ appended old bytes
told_appended None None bytes alike h = refl
told_appended None (Some now) bytes alike h = cc
told_appended (Some before) None bytes alike h = absurd h
told_appended (Some before) (Some now) bytes alike h = ap Some h

-- bytes of which none is put at the end
pub told_unput : (old new : Option (List ℕ)) (n : ℕ) (bytes : List ℕ) → n ≡ 0 → is_some new ≡ is_some old → Appends old new (take n bytes) → new ≡ old
told_unput None None n bytes none alike h = refl
told_unput None (Some now) n bytes none alike h = cc
told_unput (Some before) None n bytes none alike h = absurd h
told_unput (Some before) (Some now) n bytes none alike h = ap Some (h ∙ ap (λ k. before ++ take k bytes) none ∙ append-nil before)

-- bytes that stay
pub told_kept : (old new : Option (List ℕ)) → is_some new ≡ is_some old → Keeps old new → new ≡ old
told_kept None None alike h = refl
told_kept None (Some now) alike h = cc
told_kept (Some before) None alike h = absurd h
told_kept (Some before) (Some now) alike h = ap Some h

-- bytes that are taken from the front
pub told_leaves : (old new : Option (List ℕ)) (bytes : List ℕ) → is_some new ≡ is_some old → Consumes old new bytes → Leaves old bytes new
told_leaves None None bytes alike h = tt
told_leaves None (Some now) bytes alike h = cc
told_leaves (Some before) None bytes alike h = absurd h
told_leaves (Some before) (Some now) bytes alike h = h

-- bytes that are said, as long as they are told
pub told_said : (tells : Bool) (old new : Option (List ℕ)) (bytes : List ℕ) → is_some new ≡ is_some old → Appends old new bytes → SaysMore (told_if tells old) bytes (told_if tells new)
told_said true old new bytes alike h some = told_appended old new bytes alike h
told_said false old new bytes alike h some = cc
