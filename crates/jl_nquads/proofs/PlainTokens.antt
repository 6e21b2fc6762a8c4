-- Tokens without characters of their own, and tags: one way of reading them, and where they break.
use Rattle.std.proofs.Common.{◌≡◌, ℕ, ◌<◌, inl, inr, true, false, not, ◌||◌, ◌==◌, List, [], ◌∷◌, ◌++◌, length, Some, codes, IsTrue, IsFalse, append-nil, append_assoc, refl, sym, ap, ◌∙◌, subst, arith, lit<}
use Rattle.std.proofs.lemmas.Bool.{or_cases, false≢true, eqb-true}
use Rattle.std.proofs.lemmas.List.{append_cancel_left}
use Rattle.jl_model.specs.Parts.{Parts}
use Rattle.jl_model.specs.Tags.{is_language_tag}
use Rattle.jl_model.specs.LineTokens.{LineToken, token_bytes, is_token, ends_before, is_row, bytes_of, is_line_end, begins_tag}
use Rattle.jl_model.specs.LineTokens as tokens
use Rattle.jl_model.proofs.LineCuts.{opens, only_carets, only_tag, only_dot}
use Rattle.jl_nquads.specs.Spots.{Spot, leads_to, said, Breaks, BreaksInside, BreaksAtEnd}
use Rattle.jl_nquads.proofs.NoLineEnds.{end_is, is_inside}
use Rattle.jl_nquads.proofs.SpotRows.{head_is_token, head_ends}
use Rattle.jl_nquads.proofs.SpotSteps.{Alone, Joins, whole_at_line_end}
use Rattle.jl_nquads.proofs.TagBytes.{tag_ends, tag_goes, ends_go, front_goes, goes_tag, is_tag_byte, other_ends}
use Rattle.jl_nquads.proofs.Texts.{head_is, tail_is, fronts_of}
use Rattle.jl_nquads.proofs.TokenBreaks.{Opens, Fronts, NoneIn, NoToken, breaks_within, token_unfinished}

-- ---- white space, `^^` and the dot

only_blank : (t : LineToken) (b : ℕ) (x y : List ℕ) → IsTrue (is_token t) → IsTrue (b == 32 || b == 9) → b ∷ x ≡ token_bytes t ++ y → t ≡ tokens.blank b
only_blank (tokens.iri w) b x y h k e = absurd (let i : b ≡ 60 = cc in elim (or_cases (b == 32) (b == 9) k) [ inl f ↦ let z : ⊥ = omega (arith, i, eqb-true b 32 f) in z | inr f ↦ let z : ⊥ = omega (arith, i, eqb-true b 9 f) in z ])
only_blank (tokens.label w) b x y h k e = absurd (let i : b ≡ 95 = cc in elim (or_cases (b == 32) (b == 9) k) [ inl f ↦ let z : ⊥ = omega (arith, i, eqb-true b 32 f) in z | inr f ↦ let z : ⊥ = omega (arith, i, eqb-true b 9 f) in z ])
only_blank (tokens.string w) b x y h k e = absurd (let i : b ≡ 34 = cc in elim (or_cases (b == 32) (b == 9) k) [ inl f ↦ let z : ⊥ = omega (arith, i, eqb-true b 32 f) in z | inr f ↦ let z : ⊥ = omega (arith, i, eqb-true b 9 f) in z ])
only_blank tokens.carets b x y h k e = absurd (let i : b ≡ 94 = cc in elim (or_cases (b == 32) (b == 9) k) [ inl f ↦ let z : ⊥ = omega (arith, i, eqb-true b 32 f) in z | inr f ↦ let z : ⊥ = omega (arith, i, eqb-true b 9 f) in z ])
only_blank (tokens.tag w) b x y h k e = absurd (let i : b ≡ 64 = cc in elim (or_cases (b == 32) (b == 9) k) [ inl f ↦ let z : ⊥ = omega (arith, i, eqb-true b 32 f) in z | inr f ↦ let z : ⊥ = omega (arith, i, eqb-true b 9 f) in z ])
only_blank tokens.dot b x y h k e = absurd (let i : b ≡ 46 = cc in elim (or_cases (b == 32) (b == 9) k) [ inl f ↦ let z : ⊥ = omega (arith, i, eqb-true b 32 f) in z | inr f ↦ let z : ⊥ = omega (arith, i, eqb-true b 9 f) in z ])
only_blank (tokens.comment w) b x y h k e = absurd (let i : b ≡ 35 = cc in elim (or_cases (b == 32) (b == 9) k) [ inl f ↦ let z : ⊥ = omega (arith, i, eqb-true b 32 f) in z | inr f ↦ let z : ⊥ = omega (arith, i, eqb-true b 9 f) in z ])
only_blank (tokens.line_end w) b x y h k e =
    absurd (let i : w ≡ b = sym (head_is b w x y e) in elim (or_cases (b == 32) (b == 9) k) [ inl f ↦ false≢true (ap is_line_end (sym (eqb-true b 32 f) ∙ sym i) ∙ h) | inr f ↦ false≢true (ap is_line_end (sym (eqb-true b 9 f) ∙ sym i) ∙ h) ])
only_blank (tokens.blank w) b x y h k e = ap tokens.blank (sym (head_is b w x y e))

-- a token that its first byte tells
module _ (t : LineToken) (b : ℕ) (bs : List ℕ) (spelled : token_bytes t ≡ b ∷ bs) (only : (u : LineToken) (x y : List ℕ) → IsTrue (is_token u) → b ∷ x ≡ token_bytes u ++ y → u ≡ t) where
  pub plain_alone : (s r : Spot) (x : List ℕ) → Alone s r t x
  plain_alone s r x behind rest [] w g e = inl (subst (λ z. 0 < length z) (sym spelled) (omega arith))
  plain_alone s r x behind rest (u ∷ us) w g e =
      let split : token_bytes t ++ (x ++ behind) ≡ token_bytes u ++ (bytes_of us ++ rest) = sym (append_assoc (token_bytes t) x behind) ∙ e ∙ append_assoc (token_bytes u) (bytes_of us) rest in
      let i = only u (bs ++ (x ++ behind)) (bytes_of us ++ rest) (head_is_token u us rest w) (ap (λ z. z ++ (x ++ behind)) (sym spelled) ∙ split) in
      inr (us, ap (λ z. z ∷ us) i, append_cancel_left (token_bytes t) (x ++ behind) (bytes_of us ++ rest) (split ∙ ap (λ z. token_bytes z ++ (bytes_of us ++ rest)) i))

pub blank_joins : (s r : Spot) (b : ℕ) (x : List ℕ) → IsTrue (b == 32 || b == 9) → leads_to s (tokens.blank b) ≡ Some r → Joins s r (tokens.blank b) x
blank_joins s r b x h l = record { leads = l; token = h; apart = refl; alone = plain_alone (tokens.blank b) b [] refl (λ u y z k e. only_blank u b y z k h e) s r x }

pub dot_joins : (s r : Spot) (x : List ℕ) → leads_to s tokens.dot ≡ Some r → Joins s r tokens.dot x
dot_joins s r x l = record { leads = l; token = refl; apart = refl; alone = plain_alone tokens.dot 46 [] refl (λ u y z k e. only_dot u (opens u 46 z y (lit< tt) k e)) s r x }

pub carets_joins : (s r : Spot) (x : List ℕ) → leads_to s tokens.carets ≡ Some r → Joins s r tokens.carets x
carets_joins s r x l = record { leads = l; token = refl; apart = refl; alone = plain_alone tokens.carets 94 (94 ∷ []) refl (λ u y z k e. only_carets u (opens u 94 z y (lit< tt) k e)) s r x }

-- one caret alone
abbrev IsCarets : LineToken → Type 0
IsCarets t = t ≡ tokens.carets

carets_open : (s r : Spot) → leads_to s tokens.carets ≡ Some r → Opens s 94 IsCarets
carets_open s r l = record { kind_of = λ t q x y h k e. only_carets t (opens t 94 y x (lit< tt) h e); leads = λ t k. (r, ap (leads_to s) k ∙ l) }

one_caret : Fronts IsCarets (94 ∷ [])
one_caret = (tokens.carets, 94 ∷ [], refl, refl, refl)

pub carets_unfinished : (s r : Spot) → leads_to s tokens.carets ≡ Some r → BreaksAtEnd s (94 ∷ []) 0
carets_unfinished s r l = token_unfinished s 94 IsCarets (carets_open s r l) (λ t k. subst (λ z. IsTrue (is_inside z)) (sym k) refl) [] none one_caret
  where
    none : NoToken IsCarets (94 ∷ [])
    none t x k h e = let z : ⊥ = (let f : 94 ∷ [] ≡ 94 ∷ 94 ∷ x = e ∙ ap (λ u. token_bytes u ++ x) k in cc) in z

pub carets_broken : (s r : Spot) (c : ℕ) (x : List ℕ) → leads_to s tokens.carets ≡ Some r → (c ≡ 94 → ⊥) → BreaksInside s (94 ∷ c ∷ x) 0
carets_broken s r c x l n = record { front = 94 ∷ []; byte = c; back = x; text_is = refl; breaks = breaks_within s 94 IsCarets (carets_open s r l) [] c one_caret none }
  where
    none : NoneIn IsCarets (94 ∷ c ∷ [])
    none behind t y k h a e = n (head_is c 94 behind y (tail_is 94 94 (c ∷ behind) (94 ∷ y) (e ∙ ap (λ u. token_bytes u ++ y) k)))

-- ---- tags

abbrev IsTag : LineToken → Type 0
IsTag t = (text : List ℕ) × (t ≡ tokens.tag text)

tag_of : (u : LineToken) (x y : List ℕ) → IsTrue (is_token u) → 64 ∷ x ≡ token_bytes u ++ y → IsTag u
tag_of u x y h e = only_tag u (opens u 64 y x (lit< tt) h e)

-- the tag that ends before bytes that can't go on with it is the one whose fronts go on
one_tag : (text other x y : List ℕ) → IsTrue (begins_tag text) → ((c : ℕ) (z : List ℕ) → x ≡ c ∷ z → IsFalse (begins_tag (text ++ c ∷ []))) → 0 < length x → IsTrue (is_language_tag other) → IsTrue (ends_before (tokens.tag other) y) → text ++ x ≡ other ++ y → (text ≡ other) × (x ≡ y)
one_tag text other x y h n l k a e = elim (fronts_of text other x y e) [
  | inl (z, i, j) ↦ longer z i j
  | inr (d, z, i, j) ↦ absurd (shorter d z i j)
]
  where
    longer : (z : List ℕ) → other ≡ text ++ z → x ≡ z ++ y → (text ≡ other) × (x ≡ y)
    longer [] i j = (sym (i ∙ append-nil text), j)
    longer (d ∷ z) i j =
        let goes : IsTrue (goes_tag true false ((text ++ d ∷ []) ++ z)) = subst (λ t. IsTrue (goes_tag true false t)) (i ∙ sym (append_assoc text (d ∷ []) z)) (ends_go true false other (sym (tag_ends other) ∙ k)) in
        absurd (false≢true (sym (n d (z ++ y) j) ∙ tag_goes (text ++ d ∷ []) ∙ front_goes true false (text ++ d ∷ []) z goes))

    shorter : (d : ℕ) (z : List ℕ) → text ≡ other ++ d ∷ z → y ≡ (d ∷ z) ++ x → ⊥
    shorter d z i j =
        let goes : IsTrue (goes_tag true false ((other ++ d ∷ []) ++ z)) = subst (λ t. IsTrue (goes_tag true false t)) (i ∙ sym (append_assoc other (d ∷ []) z)) (sym (tag_goes text) ∙ h) in
        let m : begins_tag (other ++ d ∷ []) ≡ true = tag_goes (other ++ d ∷ []) ∙ front_goes true false (other ++ d ∷ []) z goes in
        let b : IsTrue (not (begins_tag (other ++ d ∷ []))) = subst (λ t. IsTrue (ends_before (tokens.tag other) t)) j a in
        false≢true (sym (ap (λ t. not t) m) ∙ b)

-- a whole tag, before a byte that can't go on with it
pub tag_joins : (s r : Spot) (text : List ℕ) (c : ℕ) (x : List ℕ) → IsTrue (is_language_tag text) → IsFalse (begins_tag (text ++ c ∷ [])) → leads_to s (tokens.tag text) ≡ Some r → Joins s r (tokens.tag text) (c ∷ x)
tag_joins s r text c x h n l = record { leads = l; token = h; apart = ap (λ b. not b) n; alone = alone }
  where
    begun : IsTrue (begins_tag text)
    begun = tag_goes text ∙ ends_go true false text (sym (tag_ends text) ∙ h)

    alone : Alone s r (tokens.tag text) (c ∷ x)
    alone behind rest [] w g e = inl (omega arith)
    alone behind rest (u ∷ us) w g e =
        let split : 64 ∷ (text ++ (c ∷ (x ++ behind))) ≡ token_bytes u ++ (bytes_of us ++ rest) = ap (λ z. 64 ∷ z) (sym (append_assoc text (c ∷ x) behind)) ∙ e ∙ append_assoc (token_bytes u) (bytes_of us) rest in
        let (other, i) = tag_of u (text ++ (c ∷ (x ++ behind))) (bytes_of us ++ rest) (head_is_token u us rest w) split in
        let k = subst (λ z. IsTrue (is_token z)) i (head_is_token u us rest w) in
        let a = subst (λ z. IsTrue (ends_before z (bytes_of us ++ rest))) i (head_ends u us rest w) in
        let same = one_tag text other (c ∷ (x ++ behind)) (bytes_of us ++ rest) begun (λ d z f. subst (λ y. IsFalse (begins_tag (text ++ y ∷ []))) (head_is c d (x ++ behind) z f) n) (omega arith) k a (tail_is 64 64 _ _ (split ∙ ap (λ z. token_bytes z ++ (bytes_of us ++ rest)) i)) in
        inr (us, ap (λ z. z ∷ us) (i ∙ ap tokens.tag (sym same.0)), same.1)

tag_opens : (s : Spot) → ((text : List ℕ) → (r : Spot) × (leads_to s (tokens.tag text) ≡ Some r)) → Opens s 64 IsTag
tag_opens s lead = record { kind_of = λ t r x y h l e. tag_of t x y h e; leads = λ t k. let l = lead k.0 in (l.0, ap (leads_to s) k.1 ∙ l.1) }

tag_front : (text : List ℕ) → IsTrue (begins_tag text) → Fronts IsTag (64 ∷ text)
tag_front text h = (tokens.tag (text ++ codes "a"), codes "a", (text ++ codes "a", refl), h, refl)

-- what isn't whole breaks at a byte that can't go on with it
tag_breaks : (s : Spot) (lead : (text : List ℕ) → (r : Spot) × (leads_to s (tokens.tag text) ≡ Some r)) (text : List ℕ) (c : ℕ) → IsTrue (begins_tag text) → IsFalse (is_language_tag text) → IsFalse (begins_tag (text ++ c ∷ [])) → Breaks s (64 ∷ text) c 0
tag_breaks s lead text c h k n = breaks_within s 64 IsTag (tag_opens s lead) text c (tag_front text h) none
  where
    none : NoneIn IsTag (64 ∷ (text ++ c ∷ []))
    none behind t x (other, i) j a e =
        let jo = subst (λ z. IsTrue (is_token z)) i j in
        let same = one_tag text other (c ∷ behind) x h (λ d z f. subst (λ y. IsFalse (begins_tag (text ++ y ∷ []))) (head_is c d behind z f) n) (omega arith) jo (subst (λ z. IsTrue (ends_before z x)) i a) (tail_is 64 64 _ _ (ap (λ z. 64 ∷ z) (sym (append_assoc text (c ∷ []) behind)) ∙ e ∙ ap (λ z. token_bytes z ++ x) i)) in
        false≢true (sym k ∙ ap is_language_tag same.0 ∙ jo)

pub tag_broken : (s : Spot) (lead : (text : List ℕ) → (r : Spot) × (leads_to s (tokens.tag text) ≡ Some r)) (text : List ℕ) (c : ℕ) (x : List ℕ) → IsTrue (begins_tag text) → IsFalse (is_language_tag text) → IsFalse (begins_tag (text ++ c ∷ [])) → BreaksInside s (64 ∷ (text ++ c ∷ x)) 0
tag_broken s lead text c x h k n = record { front = 64 ∷ text; byte = c; back = x; text_is = refl; breaks = tag_breaks s lead text c h k n }

pub tag_unfinished : (s : Spot) (lead : (text : List ℕ) → (r : Spot) × (leads_to s (tokens.tag text) ≡ Some r)) (text : List ℕ) → IsTrue (begins_tag text) → IsFalse (is_language_tag text) → BreaksAtEnd s (64 ∷ text) 0
tag_unfinished s lead text h k = record { breaks = λ e l. tag_breaks s lead text e h k (not_on e l); unfinished = λ q l. none q l.row l.text_is l.whole l.says }
  where
    not_on : (e : ℕ) → IsTrue (is_line_end e) → IsFalse (begins_tag (text ++ e ∷ []))
    not_on e l = other_ends text e [] (end_is (λ z. is_tag_byte z ≡ false) e l refl refl)

    none : (q : List Parts) (row : List LineToken) → 64 ∷ text ≡ bytes_of row → IsTrue (is_row row []) → said s row ≡ Some q → ⊥
    none q [] e w y = let z : ⊥ = cc in z
    none q (u ∷ us) e w y =
        let v = whole_at_line_end (u ∷ us) 10 refl w in
        let (other, i) = tag_of u text (bytes_of us) (head_is_token u us [] w) e in
        let jo = subst (λ z. IsTrue (is_token z)) i (head_is_token u us [] w) in
        let a = subst (λ z. IsTrue (ends_before z (bytes_of us ++ 10 ∷ []))) i (head_ends u us (10 ∷ []) v) in
        let f : text ++ 10 ∷ [] ≡ other ++ (bytes_of us ++ 10 ∷ []) = tail_is 64 64 _ _ (ap (λ z. z ++ 10 ∷ []) e ∙ append_assoc (token_bytes u) (bytes_of us) (10 ∷ []) ∙ ap (λ z. token_bytes z ++ (bytes_of us ++ 10 ∷ [])) i) in
        let same = one_tag text other (10 ∷ []) (bytes_of us ++ 10 ∷ []) h (λ d z g. subst (λ y. IsFalse (begins_tag (text ++ y ∷ []))) (head_is 10 d [] z g) (not_on 10 refl)) (omega arith) jo a f in
        false≢true (sym k ∙ ap is_language_tag same.0 ∙ jo)
