-- The next byte of a line, and white space before it.
use Rattle.std.proofs.Common.{◌≡◌, ℕ, zero, suc, ◌+◌, ◌≤◌, inl, inr, Bool, true, false, not, cond, ◌||◌, ◌==◌, if◌then◌else◌, nat_lt, List, [], ◌∷◌, length, drop, Option, Some, None, Result, Ok, Err, IsFalse, refl, sym, ap, ◌∙◌, subst, arith}
use Rattle.std.proofs.lemmas.Bool.{and_parts, cases_Bool, eqb-true, false≢true, cond-true, cond-false, ltb-false}
use Rattle.std.specs.List.{list_all, position, position_or_len}
use Rattle.std.specs.Option.{option_to_list}
use Rattle.jl_model.specs.Parts.{Parts}
use Rattle.jl_nquads.specs.LinesRead.{IsInLine, ReadsFrom, halt_at, is_blank, is_no_blank, LeadsBlank, BlanksSkipped, begins_with}
use Rattle.jl_nquads.specs.Nexts.{next_of, opened_by, allows}
use Rattle.jl_nquads.specs.Spots.{Spot, begins, has_subject, has_predicate, has_carets, has_object, has_graph, has_dot, says_at, not_end}
use Rattle.jl_nquads.specs.declared.halts.LineHalt.{LineHalt}
use Rattle.jl_nquads.specs.declared.nexts.Next.{Next}
use Rattle.jl_nquads.specs.declared.nexts.Next.TheVariants.{End, Blank, Iri, Label, Str, Carets, Tag, Dot, Comment, Other}
use Rattle.jl_model.specs.declared.terms.Term.{Term}
use Rattle.jl_nquads.proofs.ReadSteps.{blank_before, stop_reads}

-- ---- the byte that a token is opened by

abbrev picked : Next → Bool → Bool → Bool → Bool → Bool → Bool → Bool → Bool → Bool
picked End a b d e f g h i = false
picked Blank a b d e f g h i = a
picked Iri a b d e f g h i = b
picked Label a b d e f g h i = d
picked Str a b d e f g h i = e
picked Carets a b d e f g h i = f
picked Tag a b d e f g h i = g
picked Dot a b d e f g h i = h
picked Comment a b d e f g h i = i
picked Other a b d e f g h i = true

abbrev chosen : Bool → Bool → Bool → Bool → Bool → Bool → Bool → Bool → Next
chosen a b d e f g h i = if a then Blank else (if b then Iri else (if d then Label else (if e then Str else (if f then Carets else (if g then Tag else (if h then Dot else (if i then Comment else Other)))))))

is_picked : (a b d e f g h i : Bool) → picked (chosen a b d e f g h i) a b d e f g h i ≡ true
is_picked true b d e f g h i = refl
is_picked false true d e f g h i = refl
is_picked false false true e f g h i = refl
is_picked false false false true f g h i = refl
is_picked false false false false true g h i = refl
is_picked false false false false false true h i = refl
is_picked false false false false false false true i = refl
is_picked false false false false false false false true = refl
is_picked false false false false false false false false = refl

opened_is : (c : ℕ) (n : Next) → opened_by c ≡ n → picked n (c == 32 || c == 9) (c == 60) (c == 95) (c == 34) (c == 94) (c == 64) (c == 46) (c == 35) ≡ true
opened_is c n e =
    ap (λ m. picked m (c == 32 || c == 9) (c == 60) (c == 95) (c == 34) (c == 94) (c == 64) (c == 46) (c == 35)) (sym e)
    ∙ is_picked (c == 32 || c == 9) (c == 60) (c == 95) (c == 34) (c == 94) (c == 64) (c == 46) (c == 35)

pub next_iri : (text : List ℕ) → Iri ≡ next_of text → begins_with text 60 ≡ true
next_iri [] e = absurd (let z : ⊥ = cc in z)
next_iri (c ∷ text) e = opened_is c Iri (sym e)

pub next_label : (text : List ℕ) → Label ≡ next_of text → begins_with text 95 ≡ true
next_label [] e = absurd (let z : ⊥ = cc in z)
next_label (c ∷ text) e = opened_is c Label (sym e)

pub next_string : (text : List ℕ) → Str ≡ next_of text → begins_with text 34 ≡ true
next_string [] e = absurd (let z : ⊥ = cc in z)
next_string (c ∷ text) e = opened_is c Str (sym e)

pub next_carets : (text : List ℕ) → Carets ≡ next_of text → begins_with text 94 ≡ true
next_carets [] e = absurd (let z : ⊥ = cc in z)
next_carets (c ∷ text) e = opened_is c Carets (sym e)

pub next_tag : (text : List ℕ) → Tag ≡ next_of text → begins_with text 64 ≡ true
next_tag [] e = absurd (let z : ⊥ = cc in z)
next_tag (c ∷ text) e = opened_is c Tag (sym e)

pub next_dot : (text : List ℕ) → Dot ≡ next_of text → begins_with text 46 ≡ true
next_dot [] e = absurd (let z : ⊥ = cc in z)
next_dot (c ∷ text) e = opened_is c Dot (sym e)

pub next_comment : (text : List ℕ) → Comment ≡ next_of text → begins_with text 35 ≡ true
next_comment [] e = absurd (let z : ⊥ = cc in z)
next_comment (c ∷ text) e = opened_is c Comment (sym e)

pub next_end : (text : List ℕ) → End ≡ next_of text → text ≡ []
next_end [] e = refl
next_end (c ∷ text) e = absurd (false≢true (opened_is c End (sym e)))

pub begins_is : (text : List ℕ) (b : ℕ) → begins_with text b ≡ true → text ≡ b ∷ drop 1 text
begins_is [] b e = absurd (false≢true e)
begins_is (c ∷ text) b e = ap (λ z. z ∷ text) (eqb-true c b e)

pub begins_some : (text : List ℕ) (b : ℕ) → begins_with text b ≡ true → 1 ≤ length text
begins_some [] b e = absurd (false≢true e)
begins_some (c ∷ text) b e = omega arith

-- ---- bytes of a line

pub in_line_drop : (n : ℕ) (text : List ℕ) → IsInLine text → IsInLine (drop n text)
in_line_drop zero text h = h
in_line_drop (suc n) [] h = h
in_line_drop (suc n) (c ∷ text) h = in_line_drop n text (and_parts (not_end c) (list_all not_end text) h).1

-- ---- white space

pub place_within : (p : ℕ → Bool) (text : List ℕ) → position_or_len p text ≤ length text
place_within p [] = omega arith
place_within p (c ∷ text) = let h = place_within p text in elim (p c) as (λ b. cond (not b) (1 + position_or_len p text) 0 ≤ length (c ∷ text)) [ true ↦ omega arith | false ↦ omega arith ]

pub no_place : (p : ℕ → Bool) (text : List ℕ) → None ≡ position p text → position_or_len p text ≤ length text → length text ≡ position_or_len p text
no_place p text h within =
    elim (cases_Bool (nat_lt (position_or_len p text) (length text))) [
      | inl e ↦ let there : position p text ≡ Some (position_or_len p text) = cond-true (nat_lt (position_or_len p text) (length text)) (Some (position_or_len p text)) None e in cc
      | inr e ↦ let past : length text ≤ position_or_len p text = ltb-false (position_or_len p text) (length text) e in omega arith
    ]

pub at_place : (p : ℕ → Bool) (text : List ℕ) (at : ℕ) → Some at ≡ position p text → at ≡ position_or_len p text
at_place p text at h =
    elim (cases_Bool (nat_lt (position_or_len p text) (length text))) [
      | inl e ↦ let there : position p text ≡ Some (position_or_len p text) = cond-true (nat_lt (position_or_len p text) (length text)) (Some (position_or_len p text)) None e in cc
      | inr e ↦ let none : position p text ≡ None = cond-false (nat_lt (position_or_len p text) (length text)) (Some (position_or_len p text)) None e in absurd (let z : ⊥ = cc in z)
    ]

blank_run : (s : Spot) → LeadsBlank s → (text : List ℕ) (answer : Result (Option Parts) LineHalt) → ReadsFrom s (drop (position_or_len is_no_blank text) text) answer → ReadsFrom s text answer
blank_run s l [] answer h = h
blank_run s l (c ∷ text) answer h = elim (cases_Bool (is_blank c)) [
  | inr e ↦ subst (λ b. ReadsFrom s (drop (cond (not (not b)) (1 + position_or_len is_no_blank text) 0) (c ∷ text)) answer → ReadsFrom s (c ∷ text) answer) (sym e) (λ k. k) h
  | inl e ↦ subst (λ b. ReadsFrom s (drop (cond (not (not b)) (1 + position_or_len is_no_blank text) 0) (c ∷ text)) answer → ReadsFrom s (c ∷ text) answer) (sym e)
      (λ k. blank_before s s c text e (l c) answer (blank_run s l text answer (subst (λ n. ReadsFrom s (drop n (c ∷ text)) answer) (let z : 1 + position_or_len is_no_blank text ≡ suc (position_or_len is_no_blank text) = omega arith in z) k))) h
]

blanks_apart : (text : List ℕ) → next_of (drop (position_or_len is_no_blank text) text) ≡ Blank → ⊥
blanks_apart [] e = let z : ⊥ = cc in z
blanks_apart (c ∷ text) h = elim (cases_Bool (is_blank c)) [
  | inr e ↦ subst (λ b. next_of (drop (cond (not (not b)) (1 + position_or_len is_no_blank text) 0) (c ∷ text)) ≡ Blank → ⊥) (sym e) (λ k. false≢true (sym e ∙ opened_is c Blank k)) h
  | inl e ↦ subst (λ b. next_of (drop (cond (not (not b)) (1 + position_or_len is_no_blank text) 0) (c ∷ text)) ≡ Blank → ⊥) (sym e)
      (λ k. blanks_apart text (subst (λ n. next_of (drop n (c ∷ text)) ≡ Blank) (let z : 1 + position_or_len is_no_blank text ≡ suc (position_or_len is_no_blank text) = omega arith in z) k)) h
]

pub blanks_skipped : (text rest : List ℕ) (n : ℕ) → IsInLine text → n ≡ position_or_len is_no_blank text → rest ≡ drop n text → BlanksSkipped text rest
blanks_skipped text rest n h e f =
    let whole : rest ≡ drop (position_or_len is_no_blank text) text = f ∙ ap (λ k. drop k text) e in
    subst (λ z. BlanksSkipped text z) (sym whole) (record {
      in_line = in_line_drop (position_or_len is_no_blank text) text h;
      apart = blanks_apart text;
      blanks = position_or_len is_no_blank text;
      within = place_within is_no_blank text;
      rest_is = refl;
      continues = λ s l answer k. blank_run s l text answer k;
    })

-- ---- ends and stops behind white space

pub ends_here : (s : Spot) (quad : Option Parts) (text rest : List ℕ) → BlanksSkipped text rest → LeadsBlank s → says_at s ≡ Some (option_to_list quad) → End ≡ next_of rest → ReadsFrom s text (Ok quad)
ends_here s quad text rest k l e n = k.continues s l (Ok quad) (record { row = []; text_is = next_end rest n; whole = refl; says = e })

pub stops_here : (s : Spot) (text rest : List ℕ) (halt : LineHalt) → BlanksSkipped text rest → LeadsBlank s → IsFalse (allows s (next_of rest)) → (next_of rest ≡ End → says_at s ≡ None) → halt ≡ halt_at rest → ReadsFrom s text (Err halt)
stops_here s text rest halt k l n e h = k.continues s l (Err halt) (subst (λ z. ReadsFrom s rest (Err z)) (sym h) (stop_reads s rest n (λ i. e (ap next_of i))))

pub no_begins : (n : Next) → (n ≡ Blank → ⊥) → (n ≡ Iri → ⊥) → (n ≡ Label → ⊥) → (n ≡ Comment → ⊥) → IsFalse (allows begins n)
no_begins Blank a b d e = absurd (a refl)
no_begins Iri a b d e = absurd (b refl)
no_begins Label a b d e = absurd (d refl)
no_begins Comment a b d e = absurd (e refl)
no_begins End a b d e = refl
no_begins Str a b d e = refl
no_begins Carets a b d e = refl
no_begins Tag a b d e = refl
no_begins Dot a b d e = refl
no_begins Other a b d e = refl

pub no_predicate : (s : Term) (n : Next) → (n ≡ Blank → ⊥) → (n ≡ Iri → ⊥) → IsFalse (allows (has_subject s) n)
no_predicate s Blank a b = absurd (a refl)
no_predicate s Iri a b = absurd (b refl)
no_predicate s Label a b = refl
no_predicate s Comment a b = refl
no_predicate s End a b = refl
no_predicate s Str a b = refl
no_predicate s Carets a b = refl
no_predicate s Tag a b = refl
no_predicate s Dot a b = refl
no_predicate s Other a b = refl

pub no_object : (s : Term) (p : List ℕ) (n : Next) → (n ≡ Blank → ⊥) → (n ≡ Iri → ⊥) → (n ≡ Label → ⊥) → (n ≡ Str → ⊥) → IsFalse (allows (has_predicate s p) n)
no_object s p Blank a b d e = absurd (a refl)
no_object s p Iri a b d e = absurd (b refl)
no_object s p Label a b d e = absurd (d refl)
no_object s p Str a b d e = absurd (e refl)
no_object s p Comment a b d e = refl
no_object s p End a b d e = refl
no_object s p Carets a b d e = refl
no_object s p Tag a b d e = refl
no_object s p Dot a b d e = refl
no_object s p Other a b d e = refl

pub no_datatype : (s : Term) (p t : List ℕ) (n : Next) → (n ≡ Iri → ⊥) → IsFalse (allows (has_carets s p t) n)
no_datatype s p t Iri b = absurd (b refl)
no_datatype s p t Blank b = refl
no_datatype s p t Label b = refl
no_datatype s p t Str b = refl
no_datatype s p t Comment b = refl
no_datatype s p t End b = refl
no_datatype s p t Carets b = refl
no_datatype s p t Tag b = refl
no_datatype s p t Dot b = refl
no_datatype s p t Other b = refl

pub no_graph : (s : Term) (p : List ℕ) (o : Term) (n : Next) → (n ≡ Blank → ⊥) → (n ≡ Iri → ⊥) → (n ≡ Label → ⊥) → (n ≡ Dot → ⊥) → IsFalse (allows (has_object s p o) n)
no_graph s p o Blank a b d e = absurd (a refl)
no_graph s p o Iri a b d e = absurd (b refl)
no_graph s p o Label a b d e = absurd (d refl)
no_graph s p o Dot a b d e = absurd (e refl)
no_graph s p o Str a b d e = refl
no_graph s p o Comment a b d e = refl
no_graph s p o End a b d e = refl
no_graph s p o Carets a b d e = refl
no_graph s p o Tag a b d e = refl
no_graph s p o Other a b d e = refl

pub no_dot : (s : Term) (p : List ℕ) (o g : Term) (n : Next) → (n ≡ Blank → ⊥) → (n ≡ Dot → ⊥) → IsFalse (allows (has_graph s p o g) n)
no_dot s p o g Blank a e = absurd (a refl)
no_dot s p o g Dot a e = absurd (e refl)
no_dot s p o g Iri a e = refl
no_dot s p o g Label a e = refl
no_dot s p o g Str a e = refl
no_dot s p o g Comment a e = refl
no_dot s p o g End a e = refl
no_dot s p o g Carets a e = refl
no_dot s p o g Tag a e = refl
no_dot s p o g Other a e = refl

pub no_end : (q : Parts) (n : Next) → (n ≡ Blank → ⊥) → (n ≡ Comment → ⊥) → IsFalse (allows (has_dot q) n)
no_end q Blank a e = absurd (a refl)
no_end q Comment a e = absurd (e refl)
no_end q Dot a e = refl
no_end q Iri a e = refl
no_end q Label a e = refl
no_end q Str a e = refl
no_end q End a e = refl
no_end q Carets a e = refl
no_end q Tag a e = refl
no_end q Other a e = refl
