-- Language tags as they are read.
use Rattle.std.proofs.Common.{◌≡◌, ℕ, zero, suc, ◌+◌, ◌<◌, ◌≤◌, Bool, true, false, not, cond, ◌&&◌, ◌==◌, if◌then◌else◌, List, [], ◌∷◌, ◌++◌, length, take, drop, get_or, Option, Some, None, Err, IsTrue, IsFalse, append-nil, append_assoc, refl, sym, ap, ◌∙◌, subst, arith}
use Rattle.std.proofs.Math.Seq.{drop-cons}
use Rattle.std.proofs.lemmas.Bool.{eq-eqb, ne_eqb}
use Rattle.std.proofs.lemmas.List.{take-append-drop, drop_all, length-drop}
use Rattle.jl_model.specs.Tags.{is_dash, is_language_tag}
use Rattle.jl_model.specs.LineTokens.{begins_tag, is_line_end, token_bytes, is_token, ends_before}
use Rattle.jl_model.specs.LineTokens as tokens
use Rattle.jl_nquads.specs.LinesRead.{BreaksBy, ReadsFrom, begins_with, in_part, tag_after, LeadsTag, IsTagFront, IsTagRead}
use Rattle.jl_nquads.specs.Spots.{Spot, leads_to, BreaksAtEnd, BreaksInside}
use Rattle.jl_nquads.specs.declared.halts.BadPlace.{BadPlace}
use Rattle.jl_nquads.specs.declared.halts.LineHalt.TheVariants.{Bad}
use Rattle.jl_nquads.specs.declared.tags.Part.{Part}
use Rattle.jl_nquads.proofs.NextBytes.{begins_is}
use Rattle.jl_nquads.proofs.NoLineEnds.{end_is}
use Rattle.jl_nquads.proofs.PlainTokens.{tag_joins, tag_broken, tag_unfinished}
use Rattle.jl_nquads.proofs.ReadSteps.{JoinsAll, token_before, bad_at_once}
use Rattle.jl_nquads.proofs.SpotSteps.{Joins}
use Rattle.jl_nquads.proofs.TagBytes.{tag_goes, goes_tag, is_tag_byte, other_ends}
use Rattle.jl_nquads.proofs.Texts.{head_is}

-- the bytes before this place may begin a tag, which goes on where the part says
abbrev pub TagSoFar : List ℕ → ℕ → Part → Type 0
TagSoFar text i part = (x : List ℕ) → goes_tag true false (take i text ++ x) ≡ goes_tag part.first part.begun x

after_is : (part : Part) (c : ℕ) (o : Option Part) → o ≡ tag_after part c → (x : List ℕ) → goes_tag part.first part.begun (c ∷ x) ≡ elim o [ None ↦ false | Some next ↦ goes_tag next.first next.begun x ]
after_is part c o e x = by (is_dash c) part.begun (in_part part.first c) ∙ ap (λ (p : Option Part). elim p [ None ↦ false | Some next ↦ goes_tag next.first next.begun x ]) (sym e)
  where
    by : (d b i : Bool) → cond d (b && goes_tag false false x) (i && goes_tag part.first true x) ≡ elim (let p : Option Part = if d then (if b then Some (record { first = false; begun = false }) else None) else (if i then Some (record { first = part.first; begun = true }) else None) in p) [ None ↦ false | Some next ↦ goes_tag next.first next.begun x ]
    by true true i = refl
    by true false i = refl
    by false b true = refl
    by false b false = refl

take_more : (text : List ℕ) (i : ℕ) → i < length text → take (suc i) text ≡ take i text ++ get_or text i 0 ∷ []
take_more [] i l = absurd (let z : ⊥ = omega (arith, l) in z)
take_more (c ∷ text) zero l = refl
take_more (c ∷ text) (suc i) l = ap (λ z. c ∷ z) (take_more text i (omega (arith, l)))

pub tag_further : (text : List ℕ) (i : ℕ) (part next : Part) → i < length text → TagSoFar text i part → Some next ≡ tag_after part (get_or text i 0) → TagSoFar text (i + 1) next
tag_further text i part next l h e x =
    ap (λ n. goes_tag true false (take n text ++ x)) (let z : i + 1 ≡ suc i = omega arith in z)
    ∙ ap (λ z. goes_tag true false (z ++ x)) (take_more text i l)
    ∙ ap (goes_tag true false) (append_assoc (take i text) (get_or text i 0 ∷ []) x)
    ∙ h (get_or text i 0 ∷ x)
    ∙ after_is part (get_or text i 0) (Some next) e x

so_far : (text : List ℕ) (i : ℕ) (part : Part) → TagSoFar text i part → IsTrue (begins_tag (take i text))
so_far text i part h = tag_goes (take i text) ∙ ap (goes_tag true false) (sym (append-nil (take i text))) ∙ h []

pub tag_stops : (text : List ℕ) (i : ℕ) (part : Part) → i < length text → TagSoFar text i part → None ≡ tag_after part (get_or text i 0) → IsTagFront text i
tag_stops text i part l h e = record {
  within = omega (arith, l);
  begun = so_far text i part h;
  no_more = λ c x f. tag_goes (take i text ++ c ∷ []) ∙ h (c ∷ []) ∙ after_is part c None (e ∙ ap (tag_after part) (head_is (get_or text i 0) c (drop (suc i) text) x (sym (drop-cons text i 0 l) ∙ f))) [];
}

pub tag_ends_there : (text : List ℕ) (part : Part) → TagSoFar text (length text) part → IsTagFront text (length text)
tag_ends_there text part h = record {
  within = omega arith;
  begun = so_far text (length text) part h;
  no_more = λ c x f. absurd (let z : ⊥ = omega (arith, ap length f, ap length (drop_all (length text) text (let y : length text ≤ length text = omega arith in y))) in z);
}

-- ---- whole tags

module _ (tag rest : List ℕ) (whole : IsTrue (is_language_tag tag)) (no_more : (c : ℕ) (x : List ℕ) → rest ≡ c ∷ x → IsFalse (begins_tag (tag ++ c ∷ []))) (s r : Spot) (lead : leads_to s (tokens.tag tag) ≡ Some r) where
  at_line_end : (rest : List ℕ) → ((c : ℕ) (x : List ℕ) → rest ≡ c ∷ x → IsFalse (begins_tag (tag ++ c ∷ []))) → (e : ℕ) → IsTrue (is_line_end e) → Joins s r (tokens.tag tag) (rest ++ e ∷ [])
  at_line_end [] n e l = tag_joins s r tag e [] whole (other_ends tag e [] (end_is (λ z. is_tag_byte z ≡ false) e l refl refl)) lead
  at_line_end (c ∷ x) n e l = tag_joins s r tag c (x ++ e ∷ []) whole (n c x refl) lead

  within_line : (p : List ℕ) (c : ℕ) (y : List ℕ) → rest ≡ p ++ c ∷ y → Joins s r (tokens.tag tag) (p ++ c ∷ [])
  within_line [] c y e = tag_joins s r tag c [] whole (no_more c y e) lead
  within_line (d ∷ p) c y e = tag_joins s r tag d (p ++ c ∷ []) whole (no_more d (p ++ c ∷ y) e) lead

  apart_from : (rest : List ℕ) → ((c : ℕ) (x : List ℕ) → rest ≡ c ∷ x → IsFalse (begins_tag (tag ++ c ∷ []))) → IsTrue (ends_before (tokens.tag tag) rest)
  apart_from [] n = refl
  apart_from (c ∷ x) n = ap (λ b. not b) (n c x refl)

  tag_joins_all : JoinsAll s r (tokens.tag tag) rest
  tag_joins_all = record { leads = lead; token = whole; apart = apart_from rest no_more; at_end = at_line_end rest no_more; inside = λ p c y place e b. within_line p c y e }

pub tag_is_read : (text inner tag : List ℕ) (len : ℕ) → IsTrue (begins_with text 64) → inner ≡ drop 1 text → IsTagFront inner len → tag ≡ take len inner → IsTrue (is_language_tag tag) → IsTagRead text tag (len + 1)
tag_is_read text inner tag len b e k f w = record {
  within = omega (arith, ap length text_is, k.within);
  is_tag = w;
  continues = λ s r lead answer h.
      subst (λ z. ReadsFrom s z answer) (ap (λ z. 64 ∷ (tag ++ z)) behind ∙ ap (λ z. 64 ∷ (z ++ drop len inner)) f ∙ ap (λ z. 64 ∷ z) (take-append-drop len inner) ∙ sym text_is)
      (token_before s r (tokens.tag tag) (drop (len + 1) text) (tag_joins_all tag (drop (len + 1) text) w (λ c x i. subst (λ z. IsFalse (begins_tag (z ++ c ∷ []))) (sym f) (k.no_more c x (sym behind ∙ i))) s r lead) answer h);
}
  where
    text_is : text ≡ 64 ∷ inner
    text_is = begins_is text 64 b ∙ ap (λ z. 64 ∷ z) (sym e)

    behind : drop (len + 1) text ≡ drop len inner
    behind = ap (drop (len + 1)) text_is ∙ ap (λ n. drop n (64 ∷ inner)) (let z : len + 1 ≡ suc len = omega arith in z)

-- ---- what isn't whole

pub tag_bad : (text inner tag : List ℕ) (len : ℕ) (place : BadPlace) → IsTrue (begins_with text 64) → inner ≡ drop 1 text → IsTagFront inner len → tag ≡ take len inner → IsFalse (is_language_tag tag) → place.left ≡ length text → place.open ≡ (len == length inner) → (s : Spot) → LeadsTag s → ReadsFrom s text (Err (Bad place))
tag_bad text inner tag len place b e k f w l o s lead = bad_at_once s text place l (subst (λ z. BreaksBy place.open s z 0) (sym text_is) (by (drop len inner) refl place.open o))
  where
    text_is : text ≡ 64 ∷ (tag ++ drop len inner)
    text_is = begins_is text 64 b ∙ ap (λ z. 64 ∷ z) (sym e ∙ sym (take-append-drop len inner) ∙ ap (λ z. z ++ drop len inner) (sym f))

    begun : IsTrue (begins_tag tag)
    begun = subst (λ z. IsTrue (begins_tag z)) (sym f) k.begun

    size : length inner ≡ len + length (drop len inner)
    size = omega (arith, k.within, length-drop len inner)

    by : (rest : List ℕ) → drop len inner ≡ rest → (may : Bool) → may ≡ (len == length inner) → BreaksBy may s (64 ∷ (tag ++ drop len inner)) 0
    by [] i may j =
        let same : (len == length inner) ≡ true = eq-eqb len (length inner) (omega (arith, size, ap length i)) in
        subst (λ m. BreaksBy m s (64 ∷ (tag ++ drop len inner)) 0) (sym (j ∙ same)) (subst (λ z. BreaksAtEnd s (64 ∷ z) 0) (sym (ap (λ z. tag ++ z) i ∙ append-nil tag)) (tag_unfinished s lead tag begun w))
    by (c ∷ x) i may j =
        let other : (len == length inner) ≡ false = ne_eqb len (length inner) (λ h. omega (arith, size, ap length i, h)) in
        subst (λ m. BreaksBy m s (64 ∷ (tag ++ drop len inner)) 0) (sym (j ∙ other)) (subst (λ z. BreaksInside s (64 ∷ (tag ++ z)) 0) (sym i) (tag_broken s lead tag c x begun w (subst (λ z. IsFalse (begins_tag (z ++ c ∷ []))) (sym f) (k.no_more c x i))))
