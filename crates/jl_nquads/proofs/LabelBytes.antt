-- The bytes of labels, and what may stand behind a label.
use Rattle.std.proofs.Common.{◌≡◌, ℕ, ◌<◌, ◌≤◌, ◌⊎◌, inl, inr, Bool, true, false, not, ◌&&◌, ◌||◌, ◌==◌, nat_lt, List, [], ◌∷◌, ◌++◌, IsTrue, append_assoc, refl, sym, ap, ◌∙◌, arith}
use Rattle.std.proofs.lemmas.Bool.{and_parts, and_from, or_cases, cases_lt, cases_Bool, false≢true, eqb-true, ne_eqb, ltb-true}
use Rattle.std.proofs.lemmas.List.Folds.{list_all-append}
use Rattle.std.proofs.lemmas.Str.{encode_ascii}
use Rattle.std.specs.List.{list_all}
use lib.Utf8.{encode}
use Rattle.jl_model.specs.Labels.{last_byte}
use Rattle.jl_model.specs.LineTokens.{is_label, begins_label, goes_on_label}
use Rattle.jl_model.proofs.LineCuts.{ascii_cut}
use Rattle.jl_nquads.specs.LinesRead.{closes_label}
use Rattle.jl_nquads.specs.Nexts.{opened_by}
use Rattle.jl_nquads.specs.declared.nexts.Next.{Next}
use Rattle.jl_nquads.specs.declared.nexts.Next.TheVariants.{Other}
use Rattle.jl_nquads.proofs.Texts.{head_is, tail_is}
use Rattle.jl_nquads.proofs.TokenBodies.{at_below, all_below}

-- a byte beyond ASCII opens no token
pub high_opens : (b : ℕ) → 128 ≤ b → opened_by b ≡ Other
high_opens b l =
    rw (ne_eqb b 32 (λ e. omega (arith, e)), ne_eqb b 9 (λ e. omega (arith, e)), ne_eqb b 60 (λ e. omega (arith, e)), ne_eqb b 95 (λ e. omega (arith, e)), ne_eqb b 34 (λ e. omega (arith, e)), ne_eqb b 94 (λ e. omega (arith, e)), ne_eqb b 64 (λ e. omega (arith, e)), ne_eqb b 46 (λ e. omega (arith, e)), ne_eqb b 35 (λ e. omega (arith, e))) refl

is_other : Next → Bool
is_other Other = true
is_other n = false

other_is : (n : Next) → IsTrue (is_other n) → n ≡ Other
unfolding is_other
other_is Other h = refl
other_is n h = absurd (false≢true h)

implied : (a b : Bool) → IsTrue (not a || b) → IsTrue a → IsTrue b
implied true b h k = h
implied false b h k = absurd (false≢true k)

abbrev fits : ℕ → Bool
fits d = not (goes_on_label d) || (is_other (opened_by d) || (d == 95 || d == 46))

all_fit : IsTrue (all_below 128 fits)
unfolding is_other
all_fit = refl

-- the first byte of a character beyond ASCII is beyond ASCII
pub first_high : (d b : ℕ) (bs y : List ℕ) → 128 ≤ d → b ∷ bs ≡ encode d ++ y → 128 ≤ b
first_high d b bs y l e = elim (cases_lt b 128) [ inl m ↦ absurd (let i = (ascii_cut d b y bs m (sym e)).0 in let z : ⊥ = omega (arith, i, l, m) in z) | inr m ↦ m ]

-- a character of ASCII is its byte
pub first_low : (d b : ℕ) (bs y : List ℕ) → d < 128 → b ∷ bs ≡ encode d ++ y → (b ≡ d) × (bs ≡ y)
first_low d b bs y l e = let f = e ∙ ap (λ z. z ++ y) (encode_ascii d l) in (head_is b d bs y f, tail_is b d bs y f)

-- what a character of a label opens by its first byte
pub label_opens : (d b : ℕ) (bs y : List ℕ) → IsTrue (goes_on_label d) → b ∷ bs ≡ encode d ++ y → (opened_by b ≡ Other) ⊎ ((d ≡ 95) × (b ≡ 95)) ⊎ ((d ≡ 46) × (b ≡ 46))
label_opens d b bs y h e = elim (cases_lt d 128) [
  | inr l ↦ inl (high_opens b (first_high d b bs y l e))
  | inl l ↦
      let i = (first_low d b bs y l e).0 in
      let k = implied (goes_on_label d) (is_other (opened_by d) || (d == 95 || d == 46)) (at_below 128 fits d all_fit l) h in
      elim (or_cases (is_other (opened_by d)) (d == 95 || d == 46) k) [
        | inl m ↦ inl (ap opened_by i ∙ other_is (opened_by d) m)
        | inr m ↦ elim (or_cases (d == 95) (d == 46) m) [ inl f ↦ inr (inl (eqb-true d 95 f, i ∙ eqb-true d 95 f)) | inr f ↦ inr (inr (eqb-true d 46 f, i ∙ eqb-true d 46 f)) ]
      ]
]

-- ---- labels don't end with a dot

last_dot : (c : ℕ) (cs : List ℕ) → last_byte c (cs ++ 46 ∷ []) ≡ 46
last_dot c [] = refl
last_dot c (d ∷ cs) = last_dot d cs

pub no_dot_last : (cs : List ℕ) → IsTrue (is_label (cs ++ 46 ∷ [])) → ⊥
no_dot_last [] h = false≢true h
no_dot_last (c ∷ cs) h =
    let p = and_parts (begins_label c) (list_all goes_on_label (cs ++ 46 ∷ []) && not (last_byte c (cs ++ 46 ∷ []) == 46)) h in
    let q = and_parts (list_all goes_on_label (cs ++ 46 ∷ [])) (not (last_byte c (cs ++ 46 ∷ []) == 46)) p.1 in
    false≢true (sym (ap (λ x. not (x == 46)) (last_dot c cs)) ∙ q.1)

last_other : (c : ℕ) (cs : List ℕ) (d : ℕ) → last_byte c (cs ++ d ∷ []) ≡ d
last_other c [] d = refl
last_other c (e ∷ cs) d = last_other e cs d

-- a label with characters more, of which the last is no dot
pub label_with : (cs ds : List ℕ) (d : ℕ) → IsTrue (is_label cs) → IsTrue (list_all goes_on_label ds) → IsTrue (goes_on_label d) → (d ≡ 46 → ⊥) → IsTrue (is_label (cs ++ (ds ++ d ∷ [])))
label_with [] ds d h k l n = absurd (false≢true h)
label_with (c ∷ cs) ds d h k l n =
    let p = and_parts (begins_label c) (list_all goes_on_label cs && not (last_byte c cs == 46)) h in
    let q = and_parts (list_all goes_on_label cs) (not (last_byte c cs == 46)) p.1 in
    let e : last_byte c (cs ++ (ds ++ d ∷ [])) ≡ d = ap (last_byte c) (sym (append_assoc cs ds (d ∷ []))) ∙ last_other c (cs ++ ds) d in
    let all : IsTrue (list_all goes_on_label (cs ++ (ds ++ d ∷ []))) =
    list_all-append goes_on_label cs (ds ++ d ∷ []) ∙ and_from (list_all goes_on_label cs) (list_all goes_on_label (ds ++ d ∷ [])) q.0 (list_all-append goes_on_label ds (d ∷ []) ∙ and_from (list_all goes_on_label ds) (goes_on_label d && true) k (and_from (goes_on_label d) true l refl)) in
    and_from (begins_label c) (list_all goes_on_label (cs ++ (ds ++ d ∷ [])) && not (last_byte c (cs ++ (ds ++ d ∷ [])) == 46)) p.0
    (and_from (list_all goes_on_label (cs ++ (ds ++ d ∷ []))) (not (last_byte c (cs ++ (ds ++ d ∷ [])) == 46)) all (ap (λ x. not (x == 46)) e ∙ ap (λ b. not b) (ne_eqb d 46 n)))

-- the first character of a label
pub label_first : (cs : List ℕ) → IsTrue (is_label cs) → (c : ℕ) × (ds : List ℕ) × (cs ≡ c ∷ ds) × IsTrue (begins_label c)
label_first [] h = absurd (false≢true h)
label_first (c ∷ cs) h = (c, cs, refl, (and_parts (begins_label c) (list_all goes_on_label cs && not (last_byte c cs == 46)) h).0)

pub one_label : (c : ℕ) → IsTrue (begins_label c) → IsTrue (is_label (c ∷ []))
one_label c h = and_from (begins_label c) (true && not (c == 46)) h (elim (cases_Bool (c == 46)) [ inl e ↦ absurd (false≢true (ap begins_label (sym (eqb-true c 46 e)) ∙ h)) | inr e ↦ ap (λ b. not b) e ])

-- where a further character isn't the last, one more stands behind it
pub behind_dot : (cs ds : List ℕ) → IsTrue (is_label (cs ++ 46 ∷ ds)) → (d : ℕ) × (es : List ℕ) × (ds ≡ d ∷ es)
behind_dot cs [] h = absurd (no_dot_last cs h)
behind_dot cs (d ∷ es) h = (d, es, refl)

-- ---- what may stand behind a label

-- such a byte, or a dot and such a byte
abbrev pub ClosesLabel : List ℕ → Type 0
ClosesLabel x = (c : ℕ) × (r : List ℕ) × IsTrue (closes_label c) × ((x ≡ c ∷ r) ⊎ (x ≡ 46 ∷ c ∷ r))

-- no character of a label begins with such a byte
pub not_closed : (c d : ℕ) (x y : List ℕ) → IsTrue (closes_label c) → IsTrue (goes_on_label d) → c ∷ x ≡ encode d ++ y → ⊥
not_closed c d x y h k e =
    let p = and_parts (nat_lt c 128) (not (goes_on_label c)) h in
    let i = (ascii_cut d c y x (ltb-true c 128 p.0) (sym e)).0 in
    false≢true (sym (ap (λ b. not b) (ap goes_on_label (sym i) ∙ k)) ∙ p.1)
