-- Parts that are put one after another.
use Rattle.std.proofs.Common.{◌≡◌, ℕ, suc, ◌+◌, ◌<◌, List, [], ◌∷◌, ◌++◌, take, drop, length, get_or, Option, refl, sym, ap, ◌∙◌, subst, append_assoc, append-nil, Bor}
use Rattle.std.proofs.lemmas.List.{take_more, take-append-drop}
use Rattle.std.proofs.Math.Seq.{drop-cons}
use Rattle.jl_io.specs.Outside.{appended}
use Rattle.jl_io.specs.Puts.{PutsFront, joined}
use Rattle.jl_io.proofs.Fronts.{put_then, cut_then, cut_first}

pub joined-append : (xs ys : List (Bor (List ℕ))) → joined (xs ++ ys) ≡ joined xs ++ joined ys
joined-append [] ys = refl
joined-append (x ∷ xs) ys = ap (λ t. x.now ++ t) (joined-append xs ys) ∙ sym (append_assoc x.now (joined xs) (joined ys))

-- one more part was put
pub part_put : (w0 w1 w2 : Option (List ℕ)) (parts : List (Bor (List ℕ))) (i : ℕ) (d : Bor (List ℕ)) → i < length parts → w1 ≡ appended w0 (joined (take i parts)) → w2 ≡ appended w1 (get_or parts i d).now
    → w2 ≡ appended w0 (joined (take (i + 1) parts))
part_put w0 w1 w2 parts i d within h k =
    put_then w0 w1 w2 (joined (take i parts)) (get_or parts i d).now h k
    ∙ ap (λ t. appended w0 t) (ap (λ t. joined (take i parts) ++ t) (sym (append-nil (get_or parts i d).now)) ∙ sym (joined-append (take i parts) (get_or parts i d ∷ [])) ∙ ap joined (sym (take_more parts i d within)))

-- a part was cut
pub part_cut : (w0 w1 w2 : Option (List ℕ)) (parts : List (Bor (List ℕ))) (i : ℕ) (d : Bor (List ℕ)) → i < length parts → w1 ≡ appended w0 (joined (take i parts)) → PutsFront w1 (get_or parts i d).now w2
    → PutsFront w0 (joined parts) w2
part_cut w0 w1 w2 parts i d within h k =
    let rest : drop i parts ≡ get_or parts i d ∷ drop (suc i) parts = drop-cons parts i d within in
    let whole : joined parts ≡ joined (take i parts) ++ ((get_or parts i d).now ++ joined (drop (suc i) parts)) =
    ap joined (sym (take-append-drop i parts) ∙ ap (λ t. take i parts ++ t) rest) ∙ joined-append (take i parts) (get_or parts i d ∷ drop (suc i) parts) in
    subst (λ t. PutsFront w0 t w2) (sym whole) (cut_then w0 w1 w2 (joined (take i parts)) ((get_or parts i d).now ++ joined (drop (suc i) parts)) h (cut_first w1 w2 (get_or parts i d).now (joined (drop (suc i) parts)) k))
