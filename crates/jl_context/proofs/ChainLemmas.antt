-- Levels of a chain, by their index.
use Rattle.std.proofs.lemmas.List.Sums.{sum_by-cons}
use Rattle.std.proofs.Common.{◌-◌, Option, Some, None, sum_by, ◌≡◌, ◌<◌, ◌≤◌, ◌+◌, ℕ, zero, suc, refl, sym, ap, subst, ◌∙◌, List, [], ◌∷◌, ◌++◌, length, length-take, take, get_or, arith, Global}
use Rattle.std.specs.declared.rc.Rc.{Rc}
use Rattle.jl_context.specs.Chains.{onto, levels_of, first_of, rest_of, values, IsPushed, HoldsLevels}
use Rattle.jl_defs.specs.Context.{Level, level_size}

pub onto-more : (n : ℕ) (rs : List (Rc Level Global)) (r : Rc Level Global) (others : List Level) → n < length rs → r ≡ get_or rs n r → onto (suc n) rs others ≡ r.value ∷ onto n rs others
onto-more zero [] r others within e = let no : ⊥ = omega (arith, within) in absurd no
onto-more zero (x ∷ xs) r others within e = ap (λ y. y.value ∷ others) (sym e)
onto-more (suc n) [] r others within e = let no : ⊥ = omega (arith, within) in absurd no
onto-more (suc n) (x ∷ xs) r others within e =
    let next : n < length xs = omega (arith, within) in
    onto-more n xs r (x.value ∷ others) next e

pub levels-more : (count n : ℕ) (rs : List (Rc Level Global)) (r : Rc Level Global) → count ≡ suc n → n < length rs → r ≡ get_or rs n r → levels_of count rs ≡ r.value ∷ levels_of n rs
levels-more count n rs r e within f = ap (λ k. levels_of k rs) e ∙ onto-more n rs r [] within f

onto-rest : (n : ℕ) (rs : List (Rc Level Global)) (others : List Level) → n < length rs → rest_of (onto (suc n) rs others) ≡ onto n rs others
onto-rest zero [] others within = let no : ⊥ = omega (arith, within) in absurd no
onto-rest zero (x ∷ xs) others within = refl
onto-rest (suc n) [] others within = let no : ⊥ = omega (arith, within) in absurd no
onto-rest (suc n) (x ∷ xs) others within =
    let next : n < length xs = omega (arith, within) in
    onto-rest n xs (x.value ∷ others) next

pub levels-rest : (count n : ℕ) (rs : List (Rc Level Global)) → count ≡ suc n → n < length rs → rest_of (levels_of count rs) ≡ levels_of n rs
levels-rest count n rs e within = ap (λ k. rest_of (levels_of k rs)) e ∙ onto-rest n rs [] within

onto-end : (rs : List (Rc Level Global)) (x : Rc Level Global) (others : List Level) → onto (suc (length rs)) (rs ++ x ∷ []) others ≡ x.value ∷ onto (length rs) rs others
onto-end [] x others = refl
onto-end (r ∷ rs) x others = onto-end rs x (r.value ∷ others)

end-longer : (rs : List (Rc Level Global)) (x : Rc Level Global) → suc (length rs) ≤ length (rs ++ x ∷ [])
end-longer [] x = omega arith
end-longer (r ∷ rs) x = let h : suc (length rs) ≤ length (rs ++ x ∷ []) = end-longer rs x in omega (arith, h)

-- the vector ends where the chain does
pub pushed-in-place : (count : ℕ) (rs new : List (Rc Level Global)) (x : Rc Level Global) → count ≡ length rs → new ≡ rs ++ x ∷ [] → IsPushed count x.value rs new
unfolding IsPushed
pushed-in-place count rs new x e f =
    let k : count + 1 ≡ suc (length rs) = omega (arith, e) in (
      ap (λ l. levels_of (count + 1) l) f ∙ (ap (λ n. levels_of n (rs ++ x ∷ [])) k ∙ (onto-end rs x [] ∙ ap (λ n. x.value ∷ levels_of n rs) (sym e))),
      subst (λ l. count + 1 ≤ length l) (sym f) (let h = end-longer rs x in omega (arith, h, k)),
    )

-- as many levels of a copy are those of the vector
onto-same : (rs ls : List (Rc Level Global)) (n : ℕ) (others : List Level) → values rs ≡ take n (values ls) → onto n rs others ≡ onto n ls others
onto-same rs ls zero others e = refl
onto-same [] [] (suc n) others e = refl
onto-same [] (l ∷ ls) (suc n) others e = absurd cc
onto-same (r ∷ rs) [] (suc n) others e = absurd cc
onto-same (r ∷ rs) (l ∷ ls) (suc n) others e =
    onto-same rs ls n (r.value ∷ others) (ap rest_of e) ∙ ap (λ v. onto n ls (v ∷ others)) (ap (head_or r.value) e)
  where
    head_or : Level → List Level → Level
    head_or v [] = v
    head_or v (x ∷ xs) = x

length-values : (rs : List (Rc Level Global)) → length (values rs) ≡ length rs
length-values [] = refl
length-values (r ∷ rs) = ap suc (length-values rs)

pub pushed-on-copy : (count : ℕ) (ls copy new : List (Rc Level Global)) (x : Rc Level Global) → count ≤ length ls → values copy ≡ take count (values ls) → new ≡ copy ++ x ∷ [] → IsPushed count x.value ls new
unfolding IsPushed
pushed-on-copy count ls copy new x within e f =
    let long : count ≤ length (values ls) = let h = length-values ls in omega (arith, within, h) in
    let n : count ≡ length copy = let a = ap length e in let b = length-values copy in let d = length-take count (values ls) in omega (arith, a, b, d, long) in
    let p = pushed-in-place count copy new x n f in
    (p.0 ∙ ap (λ l. x.value ∷ l) (onto-same copy ls count [] e), p.1)

values-end : (rs : List (Rc Level Global)) (x : Rc Level Global) → values (rs ++ x ∷ []) ≡ values rs ++ x.value ∷ []
values-end [] x = refl
values-end (r ∷ rs) x = ap (λ l. r.value ∷ l) (values-end rs x)

take-end : (ls : List (Rc Level Global)) (i : ℕ) (r : Rc Level Global) → i < length ls → r ≡ get_or ls i r → take (suc i) (values ls) ≡ take i (values ls) ++ r.value ∷ []
take-end [] i r within e = let no : ⊥ = omega (arith, within) in absurd no
take-end (l ∷ ls) zero r within e = ap (λ y. y.value ∷ []) (sym e)
take-end (l ∷ ls) (suc i) r within e =
    let next : i < length ls = omega (arith, within) in
    ap (λ y. l.value ∷ y) (take-end ls i r next e)

pub copied-more : (rs ls new : List (Rc Level Global)) (i j : ℕ) (x r : Rc Level Global) → i < length ls → r ≡ get_or ls i r → x.value ≡ r.value → j ≡ suc i → new ≡ rs ++ x ∷ []
    → values rs ≡ take i (values ls) → values new ≡ take j (values ls)
copied-more rs ls new i j x r within e f g h k =
    ap values h ∙ (values-end rs x ∙ (ap (λ l. l ++ x.value ∷ []) k ∙ (ap (λ v. take i (values ls) ++ v ∷ []) f ∙ (sym (take-end ls i r within e) ∙ ap (λ n. take n (values ls)) (sym g)))))

none-some : {A : Type 0} {x : A} → None ≡ Some x → ⊥
none-some e = cc

-- a chain that has a newest level
pub counted : (count : ℕ) (rs : List (Rc Level Global)) (v : Level) → first_of (levels_of count rs) ≡ Some v → 1 ≤ count
counted zero rs v e = absurd (none-some e)
counted (suc n) rs v e = omega arith

first-split : (ls : List Level) (v : Level) → first_of ls ≡ Some v → ls ≡ v ∷ rest_of ls
first-split [] v e = absurd (none-some e)
first-split (l ∷ ls) v e = ap (λ x. x ∷ ls) (ap (or_level v) e)
  where
    or_level : Level → Option Level → Level
    or_level d None = d
    or_level d (Some x) = x

pub levels-split : (count : ℕ) (rs : List (Rc Level Global)) (v : Level) → count ≤ length rs → first_of (levels_of count rs) ≡ Some v → levels_of count rs ≡ v ∷ levels_of (count - 1) rs
levels-split count rs v within e =
    let one : 1 ≤ count = counted count rs v e in
    let n : count ≡ suc (count - 1) = omega (arith, one) in
    let below : count - 1 < length rs = omega (arith, one, within) in
    first-split (levels_of count rs) v e ∙ ap (λ l. v ∷ l) (levels-rest count (count - 1) rs n below)

size-split : (count total : ℕ) (rs : List (Rc Level Global)) (v : Level) → HoldsLevels count rs total → first_of (levels_of count rs) ≡ Some v → total ≡ level_size v + sum_by level_size (levels_of (count - 1) rs)
size-split count total rs v h e = h.size ∙ (ap (sum_by level_size) (levels-split count rs v h.within e) ∙ sum_by-cons level_size v (levels_of (count - 1) rs))

pub first-within : (count total : ℕ) (rs : List (Rc Level Global)) (v : Level) → HoldsLevels count rs total → first_of (levels_of count rs) ≡ Some v → level_size v ≤ total
first-within count total rs v h e = let s = size-split count total rs v h e in omega (arith, s)

pub rest-holds : (count total left : ℕ) (rs : List (Rc Level Global)) (v : Level) → HoldsLevels count rs total → first_of (levels_of count rs) ≡ Some v → left ≡ total - level_size v → HoldsLevels (count - 1) rs left
rest-holds count total left rs v h e f = record {
  within = omega (arith, h.within);
  size = (let s = size-split count total rs v h e in omega (arith, s, f));
}

pub pushed-holds : (count total size : ℕ) (v : Level) (old new : List (Rc Level Global)) → IsPushed count v old new → HoldsLevels count old total → size ≡ total + level_size v → HoldsLevels (count + 1) new size
unfolding IsPushed
pushed-holds count total size v old new p h e = record {
  within = p.1;
  size = (let s : sum_by level_size (levels_of (count + 1) new) ≡ level_size v + sum_by level_size (levels_of count old) = ap (sum_by level_size) p.0 ∙ sum_by-cons level_size v (levels_of count old) in let t = h.size in omega (arith, s, t, e));
}
