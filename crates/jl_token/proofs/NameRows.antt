-- Names one after another in one buffer.
use Rattle.std.proofs.Common.{◌≡◌, ℕ, zero, suc, ◌+◌, ◌-◌, ◌<◌, ◌≤◌, false, ◌||◌, List, [], ◌∷◌, ◌++◌, length, reverse, take, drop, refl, sym, ap, ap₂, ◌∙◌, arith}
use Rattle.std.proofs.lemmas.List.{reverse-append, length-append, drop-take}
use Rattle.std.proofs.Math.Seq.{drop-append_seam, take-append_seam}
use Rattle.std.specs.List.{list_any}
use Rattle.std.specs.Str.{bytes_eq}
use Rattle.jl_token.specs.Names.{with_name}
use Rattle.jl_token.specs.NameStacks.{cut, set_of}

-- a name that is put behind the others is the last one
pub cut-push : (lens : List ℕ) (bytes name : List ℕ) → cut (length name ∷ lens) (bytes ++ name) ≡ name ∷ cut lens bytes
cut-push lens bytes name =
    let e : length (bytes ++ name) - length name ≡ length bytes = let l = length-append bytes name in omega (arith, l) in
    ap₂ (λ a b. a ∷ cut lens b) (ap (λ n. drop n (bytes ++ name)) e ∙ drop-append_seam bytes name) (ap (λ n. take n (bytes ++ name)) e ∙ take-append_seam bytes name)

-- the same where the lengths stand the last one last
pub cut-snoc : (lens : List ℕ) (bytes name : List ℕ) → cut (reverse (lens ++ (length name ∷ []))) (bytes ++ name) ≡ name ∷ cut (reverse lens) bytes
cut-snoc lens bytes name = ap (λ l. cut l (bytes ++ name)) (reverse-append lens (length name ∷ [])) ∙ cut-push (reverse lens) bytes name

-- the last name and those before it
pub cut-last : (all lens : List ℕ) (len : ℕ) (bytes : List ℕ) → all ≡ lens ++ (len ∷ []) → cut (reverse all) bytes ≡ drop (length bytes - len) bytes ∷ cut (reverse lens) (take (length bytes - len) bytes)
cut-last all lens len bytes e = ap (λ l. cut (reverse l) bytes) e ∙ ap (λ l. cut l bytes) (reverse-append lens (len ∷ []))

-- one more is dropped
drop-suc : (n : ℕ) (xs : List (List ℕ)) → drop n (drop 1 xs) ≡ drop (suc n) xs
drop-suc zero [] = refl
drop-suc (suc n) [] = refl
drop-suc n (x ∷ xs) = refl

pub drop-one : (left next : ℕ) (xs : List (List ℕ)) → left ≡ suc next → drop next (drop 1 xs) ≡ drop left xs
drop-one left next xs e = drop-suc next xs ∙ ap (λ n. drop n xs) (sym e)

next-drop : (left : ℕ) (xs : List (List ℕ)) → drop 1 (drop left xs) ≡ drop (suc left) xs
next-drop zero [] = refl
next-drop (suc left) [] = refl
next-drop zero (x ∷ xs) = refl
next-drop (suc left) (x ∷ xs) = next-drop left xs

take-none : (n : ℕ) → ◌≡◌ {A = List (List ℕ)} (take n []) []
take-none zero = refl
take-none (suc n) = refl

-- a name among the first of a list
pub among-first : (n left : ℕ) (xs : List (List ℕ)) (x : List ℕ) (rest : List (List ℕ)) → left < n → drop left xs ≡ x ∷ rest → drop left (take n xs) ≡ x ∷ drop (suc left) (take n xs)
among-first n left xs x rest below e =
    let k = n - suc left in
    let n_is : left + suc k ≡ n = omega (arith, below) in
    let l = take n xs in
    let is : drop left l ≡ x ∷ take k rest = sym (ap (λ m. drop left (take m xs)) n_is) ∙ drop-take left (suc k) xs ∙ ap (take (suc k)) e in
    is ∙ ap (λ r. x ∷ r) (sym (ap (drop 1) is) ∙ next-drop left l)

-- and none
pub none-first : (n left : ℕ) (xs : List (List ℕ)) → left < n → drop left xs ≡ [] → drop left (take n xs) ≡ []
none-first n left xs below e =
    let k = n - left in
    let n_is : left + k ≡ n = omega (arith, below) in
    sym (ap (λ m. drop left (take m xs)) n_is) ∙ drop-take left k xs ∙ ap (take k) e ∙ take-none k

-- one look at the last of the names
pub look : (name : List ℕ) (left next : ℕ) (all : List (List ℕ)) (last : List ℕ) (before : List (List ℕ)) → left ≡ suc next → all ≡ last ∷ before → list_any (bytes_eq name) (take left all) ≡ (bytes_eq name last || list_any (bytes_eq name) (take next before))
look name left next all last before e f = ap₂ (λ n l. list_any (bytes_eq name) (take n l)) e f

pub look_at_none : (name : List ℕ) (left : ℕ) (all : List (List ℕ)) → all ≡ [] → list_any (bytes_eq name) (take left all) ≡ false
look_at_none name left all e = ap (λ l. list_any (bytes_eq name) (take left l)) e ∙ ap (list_any (bytes_eq name)) (take-none left)

-- one more of the names is in the set
pub in_set : (set more : List (List ℕ)) (n left next : ℕ) (xs : List (List ℕ)) (x : List ℕ) (rest : List (List ℕ)) → left ≡ suc next → left ≤ n → set ≡ set_of (drop left (take n xs)) → drop next xs ≡ x ∷ rest → more ≡ with_name set x → more ≡ set_of (drop next (take n xs))
in_set set more n left next xs x rest e within set_is row more_is =
    more_is ∙ ap (λ s. with_name s x) (set_is ∙ ap (λ m. set_of (drop m (take n xs))) e) ∙ sym (ap set_of (among-first n next xs x rest (omega (arith, e, within)) row))

pub same_set : (set : List (List ℕ)) (n left next : ℕ) (xs : List (List ℕ)) → left ≡ suc next → left ≤ n → set ≡ set_of (drop left (take n xs)) → drop next xs ≡ [] → set ≡ set_of (drop next (take n xs))
same_set set n left next xs e within set_is row =
    let none = none-first n next xs (omega (arith, e, within)) row in
    set_is ∙ ap (λ m. set_of (drop m (take n xs))) e ∙ ap set_of (sym (next-drop next (take n xs)) ∙ ap (drop 1) none) ∙ sym (ap set_of none)
