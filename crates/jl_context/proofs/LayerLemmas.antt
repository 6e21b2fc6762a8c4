-- What layers hold, by looking names up.
use Rattle.std.proofs.Common.{◌≡◌, ◌⊎◌, ◌<◌, arith, length, drop, get_or, slice_index_or, slice_set, drop-cons, ℕ, suc, inl, inr, refl, sym, ap, subst, ◌∙◌, Bool, true, false, cond, List, [], ◌∷◌, ◌++◌, map, Option, Some, None, bytes_eq, option_map, is_some, Vec, Global}
use Rattle.std.specs.declared.rc.Rc.{Rc}
use Rattle.std.specs.Rc.{rc_with_value}
use Rattle.std.specs.Map as tables
use Rattle.std.specs.Map.{KeepsOthers}
use Rattle.jl_defs.specs.Texts.{Text}
use Rattle.jl_defs.specs.Context.{Named, TermDef, lookup}
use Rattle.jl_context.specs.Layers.{or_slot, Adds, Shared, Slots, slots_of, seen, raw_slot, slot, Changes, change, over, layered, layers_in, terms_of}
use Rattle.jl_context.specs.declared.layers.Layer.{Layer}
use Rattle.jl_context.proofs.Bools.{true-false, picked-true, picked-false, choice}
use Rattle.jl_context.proofs.SortedTerms.{Sorted, same-terms, same, equal, differ, apart, turned, put-here, put-there, put-sorted, without-here, without-there, without-sorted}

-- what a table of hashes says of a key that was put in
pub changed : (old new : Slots) (key : Vec ℕ Global) (v : Option Shared)
    → tables.lookup (λ k. bytes_eq key.items k.items) new ≡ Some v
    → KeepsOthers (λ x y. bytes_eq x.items y.items) (λ k. bytes_eq key.items k.items) old new
    → Changes old key.items (seen v) new
unfolding Changes KeepsOthers
changed old new key v found keeps = (ap (option_map seen) found, (λ q h. ap (option_map seen) (keeps (λ k. bytes_eq q k.items) (key_test q) (apart_from q h))))
  where
    key_test : (q : Text) (x y : Vec ℕ Global) → bytes_eq q x.items ≡ true → bytes_eq q y.items ≡ bytes_eq x.items y.items
    key_test q x y e = ap (λ t. bytes_eq t y.items) (equal q x.items e)

    apart_from : (q : Text) → bytes_eq key.items q ≡ false → (k : Vec ℕ Global) → bytes_eq key.items k.items ≡ true → bytes_eq q k.items ≡ false
    apart_from q h k e = differ q k.items (λ w. apart key.items q h (equal key.items k.items e ∙ sym w))

-- a slot decides, or what lies below
abbrev pub decided : Option (Option TermDef) → Option TermDef → Option TermDef
decided None below = below
decided (Some t) below = t

change-here : (n : Text) (t : Option TermDef) (es : List Named) → Sorted es → lookup (change n t es) n ≡ t
change-here n (Some t) es s = put-here es n t
change-here n None es s = without-here es n s

change-there : (n : Text) (t : Option TermDef) (es : List Named) (q : Text) → bytes_eq n q ≡ false → lookup (change n t es) q ≡ lookup es q
change-there n (Some t) es q h = put-there es n t q h
change-there n None es q h = without-there es n q h

change-sorted : (n : Text) (t : Option TermDef) (es : List Named) → Sorted es → Sorted (change n t es)
change-sorted n (Some t) es s = put-sorted es n t s
change-sorted n None es s = without-sorted es n s

pub over-sorted : (es : Slots) (below : List Named) → Sorted below → Sorted (over es below)
over-sorted [] below s = s
over-sorted (e ∷ es) below s = change-sorted e.0.items (seen e.1) (over es below) (over-sorted es below s)

cond-here : (b : Bool) (x y : Option (Option Shared)) → b ≡ true → option_map seen (cond b x y) ≡ option_map seen x
cond-here true x y e = refl
cond-here false x y e = absurd cc

cond-there : (b : Bool) (x y : Option (Option Shared)) → b ≡ false → option_map seen (cond b x y) ≡ option_map seen y
cond-there true x y e = absurd cc
cond-there false x y e = refl

-- a name is looked up in the layer first, and then below it
pub over-lookup : (es : Slots) (below : List Named) (q : Text) → Sorted below → lookup (over es below) q ≡ decided (slot es q) (lookup below q)
over-lookup [] below q s = refl
over-lookup (e ∷ es) below q s = by (choice (bytes_eq q e.0.items)) (over-lookup es below q s)
  where
    by : (bytes_eq q e.0.items ≡ true) ⊎ (bytes_eq q e.0.items ≡ false) → lookup (over es below) q ≡ decided (slot es q) (lookup below q)
        → lookup (over (e ∷ es) below) q ≡ decided (slot (e ∷ es) q) (lookup below q)
    by (inl h) next =
        let n : e.0.items ≡ q = sym (equal q e.0.items h) in
        let front : lookup (over (e ∷ es) below) q ≡ seen e.1 =
        subst (λ x. lookup (over (e ∷ es) below) x ≡ seen e.1) n (change-here e.0.items (seen e.1) (over es below) (over-sorted es below s)) in
        front ∙ sym (ap (λ x. decided x (lookup below q)) (cond-here (bytes_eq q e.0.items) (Some e.1) (raw_slot es q) h))
    by (inr h) next =
        change-there e.0.items (seen e.1) (over es below) q (turned q e.0.items h)
        ∙ (next ∙ sym (ap (λ x. decided x (lookup below q)) (cond-there (bytes_eq q e.0.items) (Some e.1) (raw_slot es q) h)))

pub layers-sorted : (ls : List Layer) → Sorted (layered ls)
layers-sorted [] = tt
layers-sorted (l ∷ ls) = over-sorted (slots_of l) (layered ls) (layers-sorted ls)

-- a layer that is changed at a name changes all terms there
pub over-changed : (old new : Slots) (n : Text) (t : Option TermDef) (below : List Named) → Sorted below → Changes old n t new → over new below ≡ change n t (over old below)
unfolding Changes
over-changed old new n t below s c =
    same-terms (over new below) (change n t (over old below)) (over-sorted new below s) (change-sorted n t (over old below) (over-sorted old below s))
    (λ q. by q (choice (bytes_eq n q)))
  where
    by : (q : Text) → (bytes_eq n q ≡ true) ⊎ (bytes_eq n q ≡ false) → lookup (over new below) q ≡ lookup (change n t (over old below)) q
    by q (inl h) =
        let here : n ≡ q = equal n q h in
        subst (λ x. lookup (over new below) x ≡ lookup (change n t (over old below)) x) here
        (over-lookup new below n s ∙ (ap (λ x. decided x (lookup below n)) c.0 ∙ sym (change-here n t (over old below) (over-sorted old below s))))
    by q (inr h) =
        over-lookup new below q s
        ∙ (ap (λ x. decided x (lookup below q)) (c.1 q h)
        ∙ (sym (over-lookup old below q s) ∙ sym (change-there n t (over old below) q h)))

-- the newest layer decides, or the others do
pub layer-skips : (l : Layer) (ls : List Layer) (q : Text) → raw_slot (slots_of l) q ≡ None → lookup (layered (l ∷ ls)) q ≡ lookup (layered ls) q
layer-skips l ls q e = over-lookup (slots_of l) (layered ls) q (layers-sorted ls) ∙ ap (λ x. decided (option_map seen x) (lookup (layered ls) q)) e

pub layer-finds : (l : Layer) (ls : List Layer) (q : Text) (v : Option Shared) → raw_slot (slots_of l) q ≡ Some v → lookup (layered (l ∷ ls)) q ≡ seen v
layer-finds l ls q v e = over-lookup (slots_of l) (layered ls) q (layers-sorted ls) ∙ ap (λ x. decided (option_map seen x) (lookup (layered ls) q)) e

-- the same from an index on
from-here : (rs : List (Rc Layer Global)) (i j : ℕ) (r : Rc Layer Global) → i < length rs → r ≡ get_or rs i r → j ≡ suc i → layers_in (drop i rs) ≡ r.value ∷ layers_in (drop j rs)
from-here rs i j r within e f =
    ap layers_in (drop-cons rs i r within) ∙ (ap (λ x. x.value ∷ layers_in (drop (suc i) rs)) (sym e) ∙ ap (λ k. r.value ∷ layers_in (drop k rs)) (sym f))

pub skips-at : (rs : List (Rc Layer Global)) (i j : ℕ) (r : Rc Layer Global) (q : Text) → i < length rs → r ≡ get_or rs i r → j ≡ suc i → raw_slot (slots_of r.value) q ≡ None
    → lookup (terms_of (drop i rs)) q ≡ lookup (terms_of (drop j rs)) q
skips-at rs i j r q within e f n = ap (λ l. lookup (layered l) q) (from-here rs i j r within e f) ∙ layer-skips r.value (layers_in (drop j rs)) q n

pub finds-at : (rs : List (Rc Layer Global)) (i : ℕ) (r : Rc Layer Global) (q : Text) (v : Option Shared) → i < length rs → r ≡ get_or rs i r → raw_slot (slots_of r.value) q ≡ Some v
    → lookup (terms_of (drop i rs)) q ≡ seen v
finds-at rs i r q v within e n = ap (λ l. lookup (layered l) q) (from-here rs i (suc i) r within e refl) ∙ layer-finds r.value (layers_in (drop (suc i) rs)) q v n

pub newest-same : (rs : List (Rc Layer Global)) (r : Rc Layer Global) → 0 < length rs → r ≡ slice_index_or rs 0 r → slice_set rs 0 r ≡ rs
newest-same [] r within e = let no : ⊥ = omega (arith, within) in absurd no
newest-same (x ∷ xs) r within e = ap (λ y. y ∷ xs) e

-- the newest layer is written in place
pub newest-changed : (rs : List (Rc Layer Global)) (r : Rc Layer Global) (new : Layer) (n : Text) (t : Option TermDef) → 0 < length rs → r ≡ slice_index_or rs 0 r
    → Changes (slots_of r.value) n t (slots_of new) → terms_of (slice_set rs 0 (rc_with_value r new)) ≡ change n t (terms_of rs)
newest-changed [] r new n t within e c = let no : ⊥ = omega (arith, within) in absurd no
newest-changed (x ∷ xs) r new n t within e c =
    over-changed (slots_of x.value) (slots_of new) n t (terms_of xs) (layers-sorted (layers_in xs)) (subst (λ y. Changes (slots_of y.value) n t (slots_of new)) e c)

-- a layer of its own for one change
pub layer-begun : (rs : List (Rc Layer Global)) (r : Rc Layer Global) (empty : Layer) (n : Text) (t : Option TermDef) → slots_of empty ≡ []
    → Changes (slots_of empty) n t (slots_of r.value) → terms_of (r ∷ rs) ≡ change n t (terms_of rs)
layer-begun rs r empty n t e c =
    over-changed [] (slots_of r.value) n t (terms_of rs) (layers-sorted (layers_in rs)) (subst (λ y. Changes y n t (slots_of r.value)) e c)

-- ---- layers gathered into one

or-none : (x : Option (Option TermDef)) → x ≡ or_slot x None
or-none None = refl
or-none (Some t) = refl

some-none : {A : Type 0} {x : A} → Some x ≡ None → ⊥
some-none e = cc

pub adds-nothing : (es : Slots) (name : Text) (t : Option TermDef) → is_some (raw_slot es name) ≡ true → Adds es name t es
unfolding Adds
adds-nothing es name t h = λ q. by q (choice (bytes_eq q name)) (slot es q) refl
  where
    there : (o : Option (Option Shared)) → is_some o ≡ true → option_map seen o ≡ None → ⊥
    there None k e = true-false (sym k)
    there (Some v) k e = some-none e

    by : (q : Text) → (bytes_eq q name ≡ true) ⊎ (bytes_eq q name ≡ false) → (o : Option (Option TermDef)) → slot es q ≡ o → slot es q ≡ or_slot (slot es q) (elim (bytes_eq q name) [ true ↦ Some t | false ↦ None ])
    by q k (Some x) e = e ∙ sym (ap (λ o. or_slot o (elim (bytes_eq q name) [ true ↦ Some t | false ↦ None ])) e)
    by q (inl k) None e = absurd (there (raw_slot es name) h (sym (ap (λ n. slot es n) (equal q name k)) ∙ e))
    by q (inr k) None e = or-none (slot es q) ∙ ap (or_slot (slot es q)) (sym (picked-false (bytes_eq q name) (Some t) None k))

pub adds-change : (old new : Slots) (name : Text) (t : Option TermDef) → is_some (raw_slot old name) ≡ false → Changes old name t new → Adds old name t new
unfolding Adds Changes
adds-change old new name t h c = λ q. by q (choice (bytes_eq name q))
  where
    gone : (o : Option (Option Shared)) → is_some o ≡ false → option_map seen o ≡ None
    gone None k = refl
    gone (Some v) k = absurd (true-false k)

    by : (q : Text) → (bytes_eq name q ≡ true) ⊎ (bytes_eq name q ≡ false) → slot new q ≡ or_slot (slot old q) (elim (bytes_eq q name) [ true ↦ Some t | false ↦ None ])
    by q (inl k) =
        let n : name ≡ q = equal name q k in
        let left : slot new q ≡ Some t = subst (λ x. slot new x ≡ Some t) n c.0 in
        let none : slot old q ≡ None = subst (λ x. slot old x ≡ None) n (gone (raw_slot old name) h) in
        left ∙ sym (ap (λ o. or_slot o (elim (bytes_eq q name) [ true ↦ Some t | false ↦ None ])) none ∙ picked-true (bytes_eq q name) (Some t) None (same q name (sym n)))
    by q (inr k) =
        c.1 q k ∙ (or-none (slot old q) ∙ ap (or_slot (slot old q)) (sym (picked-false (bytes_eq q name) (Some t) None (turned name q k))))

pub or-after : (x y z : Option (Option TermDef)) → or_slot (or_slot x y) z ≡ or_slot x (or_slot y z)
or-after None y z = refl
or-after (Some t) y z = refl

slot-one : (e : Vec ℕ Global × Option Shared) (q : Text) → elim (bytes_eq q e.0.items) [ true ↦ Some (seen e.1) | false ↦ None ] ≡ slot (e ∷ []) q
slot-one e q = by (bytes_eq q e.0.items)
  where
    by : (b : Bool) → ◌≡◌ {A = Option (Option TermDef)} (elim b [ true ↦ Some (seen e.1) | false ↦ None ]) (option_map seen (cond b (Some e.1) None))
    by true = refl
    by false = refl

pub slot-after : (xs ys : Slots) (q : Text) → slot (xs ++ ys) q ≡ or_slot (slot xs q) (slot ys q)
slot-after [] ys q = refl
slot-after (x ∷ xs) ys q = by (bytes_eq q x.0.items) (slot-after xs ys q)
  where
    by : (b : Bool) → slot (xs ++ ys) q ≡ or_slot (slot xs q) (slot ys q)
        → ◌≡◌ {A = Option (Option TermDef)} (option_map seen (cond b (Some x.1) (raw_slot (xs ++ ys) q))) (or_slot (option_map seen (cond b (Some x.1) (raw_slot xs q))) (slot ys q))
    by true next = refl
    by false next = next

-- one more entry of the lower layer
pub added-more : (first now next : Slots) (so_far : Slots) (e : Vec ℕ Global × Option Shared) → ((q : Text) → slot now q ≡ or_slot (slot first q) (slot so_far q)) → Adds now e.0.items (seen e.1) next
    → (q : Text) → slot next q ≡ or_slot (slot first q) (slot (so_far ++ e ∷ []) q)
unfolding Adds
added-more first now next so_far e held adds q =
    adds q
    ∙ (ap (λ x. or_slot x (elim (bytes_eq q e.0.items) [ true ↦ Some (seen e.1) | false ↦ None ])) (held q)
    ∙ (or-after (slot first q) (slot so_far q) (elim (bytes_eq q e.0.items) [ true ↦ Some (seen e.1) | false ↦ None ])
    ∙ ap (or_slot (slot first q)) (ap (or_slot (slot so_far q)) (slot-one e q) ∙ sym (slot-after so_far (e ∷ []) q))))

decided-or : (x y : Option (Option TermDef)) (below : Option TermDef) → decided (or_slot x y) below ≡ decided x (decided y below)
decided-or None y below = refl
decided-or (Some t) y below = refl

-- a layer that takes over what one below it has means the same without that one
pub over-gathered : (top all lower : Slots) (below : List Named) → Sorted below → ((q : Text) → slot all q ≡ or_slot (slot top q) (slot lower q)) → over all below ≡ over top (over lower below)
over-gathered top all lower below s held =
    same-terms (over all below) (over top (over lower below)) (over-sorted all below s) (over-sorted top (over lower below) (over-sorted lower below s))
    (λ q. over-lookup all below q s ∙ (ap (λ x. decided x (lookup below q)) (held q) ∙ (decided-or (slot top q) (slot lower q) (lookup below q)
    ∙ sym (over-lookup top (over lower below) q (over-sorted lower below s) ∙ ap (decided (slot top q)) (over-lookup lower below q s)))))

pub mapped-more : {A B : Type 0} (f : A → B) (xs : List A) (x : A) → map f xs ++ f x ∷ [] ≡ map f (xs ++ x ∷ [])
mapped-more f [] x = refl
mapped-more f (y ∷ ys) x = ap (λ l. f y ∷ l) (mapped-more f ys x)

-- one more layer is gathered
pub gathers-at : (rs : List (Rc Layer Global)) (i j : ℕ) (r : Rc Layer Global) (all next : Layer) → i < length rs → r ≡ get_or rs i r → j ≡ suc i
    → over (slots_of all) (terms_of (drop i rs)) ≡ terms_of rs → ((q : Text) → slot (slots_of next) q ≡ or_slot (slot (slots_of all) q) (slot (slots_of r.value) q))
    → over (slots_of next) (terms_of (drop j rs)) ≡ terms_of rs
gathers-at rs i j r all next within e f so_far held =
    over-gathered (slots_of all) (slots_of next) (slots_of r.value) (terms_of (drop j rs)) (layers-sorted (layers_in (drop j rs))) held
    ∙ (ap (λ l. over (slots_of all) (layered l)) (sym (from-here rs i j r within e f)) ∙ so_far)
