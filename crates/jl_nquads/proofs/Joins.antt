-- Parts that are put one after another.
use Rattle.std.proofs.Common.{◌≡◌, ℕ, List, ◌++◌, Option, sym, ap, ◌∙◌, subst, append_assoc, codes}
use Rattle.jl_io.specs.Outside.{appended}
use Rattle.jl_model.specs.Lines.{spaced}
use Rattle.jl_io.specs.Puts.{PutsFront}

-- a literal and its space: the string that is open, and how it ends
lit_whole : (text suffix : List ℕ) → spaced (codes "\"" ++ text ++ codes "\"" ++ suffix) ≡ (codes "\"" ++ text) ++ (codes "\"" ++ spaced suffix)
lit_whole text suffix =
    ap (λ t. t ++ codes " ") (append_assoc (codes "\"" ++ text) (codes "\"") suffix) ∙ append_assoc (codes "\"" ++ text) (codes "\"" ++ suffix) (codes " ")

-- a literal was put
pub lit_put : (w0 w1 : Option (List ℕ)) (text suffix : List ℕ) → w1 ≡ appended w0 ((codes "\"" ++ text) ++ (codes "\"" ++ spaced suffix)) → w1 ≡ appended w0 (spaced (codes "\"" ++ text ++ codes "\"" ++ suffix))
lit_put w0 w1 text suffix h = h ∙ ap (λ t. appended w0 t) (sym (lit_whole text suffix))

-- a literal was cut
pub lit_cut : (w0 w1 : Option (List ℕ)) (text suffix : List ℕ) → PutsFront w0 ((codes "\"" ++ text) ++ (codes "\"" ++ spaced suffix)) w1 → PutsFront w0 (spaced (codes "\"" ++ text ++ codes "\"" ++ suffix)) w1
lit_cut w0 w1 text suffix h = subst (λ t. PutsFront w0 t w1) (sym (lit_whole text suffix)) h
