-- Keywords, by the two tests that the code makes.
use Rattle.std.proofs.Common.{◌≡◌, ℕ, Bool, true, false, ◌&&◌, List, ap, sym, ◌∙◌}
use Rattle.jl_defs.specs.Texts.{has_keyword_form, is_keyword, is_among, keywords}

-- a text of keyword form is a keyword where it stands in the list
pub listed-keyword : (text : List ℕ) (listed : Bool) → has_keyword_form text ≡ true → listed ≡ is_among keywords text → listed ≡ is_keyword text
unfolding is_keyword
listed-keyword text listed form among = among ∙ sym (ap (λ b. b && is_among keywords text) form)

-- another text is none
pub formless-keyword : (text : List ℕ) (form : Bool) → form ≡ has_keyword_form text → form ≡ false → form ≡ is_keyword text
unfolding is_keyword
formless-keyword text form e none = none ∙ sym (ap (λ b. b && is_among keywords text) (sym e ∙ none))
