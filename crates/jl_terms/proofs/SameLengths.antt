-- Lists of other lengths are not the same.
use Rattle.std.proofs.Common.{◌≡◌, ◌≢◌, ℕ, suc, zero, Bool, true, false, ◌&&◌, List, [], ◌∷◌, length, ◌+◌, ◌<◌, drop, get_or, ap, refl, sym, ◌∙◌, bytes_eq}
use Rattle.std.proofs.lemmas.Bool.{and_right}
use Rattle.std.proofs.lemmas.List.{drop_more}
use Rattle.jl_model.specs.declared.trees.Json.{Json}
use Rattle.jl_model.specs.declared.trees.Member.{Member}
use Rattle.jl_model.specs.JsonView.{tree_of, trees, members, named_of}
use Rattle.jl_defs.specs.Definitions.{same_tree, same_items, same_members}

pub items_differ : (xs ys : List Json) → length xs ≢ length ys → same_items (trees xs) (trees ys) ≡ false
unfolding same_items
items_differ [] [] d = absurd (d refl)
items_differ [] (y ∷ ys) d = refl
items_differ (x ∷ xs) [] d = refl
items_differ (x ∷ xs) (y ∷ ys) d =
    and_right (same_tree (tree_of x) (tree_of y)) (same_items (trees xs) (trees ys)) (items_differ xs ys (λ e. d (ap (λ n. suc n) e)))

pub members_differ : (ms ns : List Member) → length ms ≢ length ns → same_members (members ms) (members ns) ≡ false
unfolding same_members
members_differ [] [] d = absurd (d refl)
members_differ [] (n ∷ ns) d = refl
members_differ (m ∷ ms) [] d = refl
members_differ (m ∷ ms) (n ∷ ns) d =
    and_right (bytes_eq (named_of m).name (named_of n).name) (same_tree (named_of m).value (named_of n).value && same_members (members ms) (members ns))
    (and_right (same_tree (named_of m).value (named_of n).value) (same_members (members ms) (members ns)) (members_differ ms ns (λ e. d (ap (λ n. suc n) e))))

both_and : (a b c : Bool) → (a && (b && c)) ≡ ((a && (b && true)) && c)
both_and true true c = refl
both_and true false c = refl
both_and false b c = refl

-- members are the same by the first ones and by the rest
pub members_first : (m n : Member) (ms ns : List Member)
    → same_members (members (m ∷ ms)) (members (n ∷ ns)) ≡ (same_members (members (m ∷ [])) (members (n ∷ [])) && same_members (members ms) (members ns))
unfolding same_members
members_first m n ms ns =
    both_and (bytes_eq (named_of m).name (named_of n).name) (same_tree (named_of m).value (named_of n).value) (same_members (members ms) (members ns))

-- where two members are the same, the rest decides
pub members_go_on : (a b : List Member) (i : ℕ) (x y : Member) → x ≡ get_or a i x → i < length a → y ≡ get_or b i y → i < length b
    → same_members (members (x ∷ [])) (members (y ∷ [])) ≡ true
    → same_members (members (drop (i + 1) a)) (members (drop (i + 1) b)) ≡ same_members (members (drop i a)) (members (drop i b))
members_go_on a b i x y ex la ey lb same =
    let fa : drop i a ≡ x ∷ drop (i + 1) a = drop_more a i x la ∙ ap (λ z. z ∷ drop (i + 1) a) (sym ex) in
    let fb : drop i b ≡ y ∷ drop (i + 1) b = drop_more b i y lb ∙ ap (λ z. z ∷ drop (i + 1) b) (sym ey) in
    sym (ap (λ l. same_members (members l) (members (drop i b))) fa
    ∙ ap (λ l. same_members (members (x ∷ drop (i + 1) a)) (members l)) fb
    ∙ members_first x y (drop (i + 1) a) (drop (i + 1) b)
    ∙ ap (λ t. t && same_members (members (drop (i + 1) a)) (members (drop (i + 1) b))) same)
