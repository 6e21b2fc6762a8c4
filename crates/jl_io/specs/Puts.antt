-- What a failed call has put.
use Rattle.std.specs.Prelude.{◌≡◌, ℕ, ◌<◌, List, [], ◌∷◌, ◌++◌, length, Option}
use Rattle.std.specs.Borrow.{Bor}
use Rattle.jl_io.specs.Outside.{appended}

-- a proper front of the text was put
pub record PutsFront (old : Option (List ℕ)) (text : List ℕ) (new : Option (List ℕ)) : Type 0 where
  pub front : List ℕ
  pub back : List ℕ
  pub text_is : text ≡ front ++ back
  pub some_left : 0 < length back
  pub put : new ≡ appended old front

-- the texts that the references point to, one after another
abbrev pub joined : List (Bor (List ℕ)) → List ℕ
joined [] = []
joined (part ∷ parts) = part.now ++ joined parts
