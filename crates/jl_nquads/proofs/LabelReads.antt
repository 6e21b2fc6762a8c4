-- Labels as they are read.
use Rattle.std.proofs.Common.{◌≡◌, ℕ, suc, ◌+◌, ◌-◌, ◌<◌, ◌≤◌, inl, inr, ◌↔◌, Bool, true, false, not, cond, ◌&&◌, ◌||◌, ◌==◌, nat_lt, List, [], ◌∷◌, ◌++◌, length, take, drop, Option, Some, None, Result, Err, if◌then◌else◌, IsTrue, IsFalse, append-nil, append_assoc, refl, sym, ap, ◌∙◌, subst, arith, lit<, length-append}
use Rattle.std.proofs.lemmas.Bool.{and_parts, and_from, or_left, cases_Bool, cases_lt, cases_eq, false≢true, eq-eqb, eqb-true, ne_eqb, lt-ltb, ltb-true, ltb-false}
use Rattle.std.proofs.lemmas.List.{drop_at, take_at, drop-drop, length-drop}
use Rattle.std.proofs.lemmas.List.Folds.{list_all-append}
use Rattle.std.proofs.lemmas.Str.{encode_ascii, encodes-append, encode_same}
use Rattle.std.specs.List.{list_all, position_or_len}
use lib.Utf8.{encode, encodes, scalar}
use Rattle.jl_model.specs.Labels.{last_byte}
use Rattle.jl_model.specs.Parts.{Parts}
use Rattle.jl_model.specs.Ren.{ren}
use Rattle.jl_model.specs.LineTokens.{is_label, begins_label, goes_on_label, is_in, further_ranges, is_line_end, token_bytes, is_token, ends_before}
use Rattle.jl_model.specs.LineTokens as tokens
use Rattle.jl_model.specs.declared.terms.Term.{Term}
use Rattle.jl_model.specs.declared.terms.Term.TheVariants.{Blank}
use Rattle.jl_model.proofs.LineCuts.{ascii_cut}
use Rattle.jl_nquads.specs.CodePoints.{HasCode, BeginsCode, CodeAt, IsCodeAt}
use Rattle.jl_nquads.specs.LinesRead.{BreaksBy, ReadsFrom, begins_with, DotsBy, LeadsName, is_word, is_no_word, HasRun, IsRun, is_low, has_colon, label_ends, dot_len, closes_label, Closes, EndsLabel, IsLabelRead}
use Rattle.jl_nquads.specs.Nexts.{opened_by, allows, StopsBehindLabel}
use Rattle.jl_nquads.specs.Spots.{Spot, begins, has_dot, leads_to, Breaks, BreaksInside, BreaksAtEnd}
use Rattle.jl_nquads.specs.declared.halts.BadPlace.{BadPlace}
use Rattle.jl_nquads.specs.declared.halts.LineHalt.{LineHalt}
use Rattle.jl_nquads.specs.declared.halts.LineHalt.TheVariants.{Bad}
use Rattle.jl_nquads.specs.declared.code_points.Class.TheVariants.{LabelLater}
use Rattle.jl_nquads.specs.declared.labels.Run.{Run}
use Rattle.jl_nquads.proofs.CodeFronts.{has_scalar}
use Rattle.jl_nquads.proofs.Codes.{encode_some}
use Rattle.jl_nquads.proofs.LabelBytes.{ClosesLabel, high_opens}
use Rattle.jl_nquads.proofs.LabelStarts.{underscore_unfinished, underscore_broken, label_start_unfinished, label_start_broken}
use Rattle.jl_nquads.proofs.LabelTokens.{LeadsLabel, is_dot, label_joins, label_unfinished, label_broken}
use Rattle.jl_nquads.proofs.NextBytes.{place_within}
use Rattle.jl_nquads.proofs.NoLineEnds.{end_is}
use Rattle.jl_nquads.proofs.SpotRows.{goes_on}
use Rattle.jl_nquads.proofs.ReadSteps.{JoinsAll, token_before, bad_at_once}
use Rattle.jl_nquads.proofs.Stops.{other_stops}
use Rattle.jl_nquads.proofs.Texts.{head_is, tail_is}
use Rattle.jl_nquads.proofs.TokenBodies.{at_below, implied, high_alphanumeric}

-- ---- characters of a label in a row

pub no_run : (text : List ℕ) → HasRun text 0 0
no_run text = record { characters = []; dots = []; text_is = refl; kept_is = refl; len_is = refl; each = refl; all_dots = refl; no_dot = λ cs e. nothing cs e }
  where
    nothing : (cs : List ℕ) → [] ≡ cs ++ 46 ∷ [] → ⊥
    nothing [] e = let z : ⊥ = cc in z
    nothing (c ∷ cs) e = let z : ⊥ = cc in z

pub run_within : (text : List ℕ) (kept len : ℕ) → HasRun text kept len → len ≤ length text
run_within text kept len h = omega (arith, ap length h.text_is, length-append (encodes h.characters) (h.dots ++ drop len text), length-append h.dots (drop len text), h.kept_is, h.len_is)

dots_encode : (dots : List ℕ) → IsTrue (list_all is_dot dots) → encodes dots ≡ dots
dots_encode [] h = refl
dots_encode (d ∷ dots) h =
    let p = and_parts (is_dot d) (list_all is_dot dots) h in
    let e = eqb-true d 46 p.0 in
    ap (λ z. z ++ encodes dots) (encode_ascii d (omega (arith, e))) ∙ ap (λ z. d ∷ z) (dots_encode dots p.1)

dots_go : (dots : List ℕ) → IsTrue (list_all is_dot dots) → IsTrue (list_all goes_on_label dots)
dots_go [] h = refl
dots_go (d ∷ dots) h = let p = and_parts (is_dot d) (list_all is_dot dots) h in and_from (goes_on_label d) (list_all goes_on_label dots) (ap goes_on_label (eqb-true d 46 p.0)) (dots_go dots p.1)

last_is : (cs ds : List ℕ) (c d : ℕ) → cs ++ c ∷ [] ≡ ds ++ d ∷ [] → c ≡ d
last_is [] [] c d e = cc
last_is [] (x ∷ []) c d e = absurd (let z : ⊥ = cc in z)
last_is [] (x ∷ y ∷ ds) c d e = absurd (let z : ⊥ = cc in z)
last_is (x ∷ []) [] c d e = absurd (let z : ⊥ = cc in z)
last_is (x ∷ y ∷ cs) [] c d e = absurd (let z : ⊥ = cc in z)
last_is (x ∷ cs) (y ∷ ds) c d e = last_is cs ds c d (tail_is x y (cs ++ c ∷ []) (ds ++ d ∷ []) e)

-- one dot more
pub run_dot : (text rest : List ℕ) (kept len c n : ℕ) → HasRun text kept len → rest ≡ drop len text → IsCodeAt rest c n → c ≡ 46 → HasRun text kept (len + n)
run_dot text rest kept len c n h f k e = record {
  characters = h.characters;
  dots = h.dots ++ 46 ∷ [];
  text_is = h.text_is ∙ ap (λ z. encodes h.characters ++ (h.dots ++ z)) (sym f ∙ there) ∙ ap (λ z. encodes h.characters ++ z) (sym (append_assoc h.dots (46 ∷ []) (drop (len + n) text)));
  kept_is = h.kept_is;
  len_is = omega (arith, h.len_is, one, length-append h.dots (46 ∷ []));
  each = h.each;
  all_dots = list_all-append is_dot h.dots (46 ∷ []) ∙ and_from (list_all is_dot h.dots) true h.all_dots refl;
  no_dot = h.no_dot;
}
  where
    code : encode c ≡ 46 ∷ []
    code = ap encode e ∙ encode_ascii 46 (lit< tt)

    one : n ≡ 1
    one = k.len_is ∙ ap length code

    there : rest ≡ 46 ∷ drop (len + n) text
    there = k.text_is ∙ ap (λ z. z ++ drop n rest) code ∙ ap (λ z. 46 ∷ z) (ap (drop n) f ∙ drop-drop n len text)

-- one other character more
pub run_more : (text rest : List ℕ) (kept len c n : ℕ) → HasRun text kept len → rest ≡ drop len text → IsCodeAt rest c n → IsTrue (goes_on_label c) → (c ≡ 46 → ⊥) → HasRun text (len + n) (len + n)
run_more text rest kept len c n h f k g o = record {
  characters = h.characters ++ (h.dots ++ c ∷ []);
  dots = [];
  text_is =
      h.text_is ∙ ap (λ z. encodes h.characters ++ (h.dots ++ z)) (sym f ∙ there)
      ∙ ap (λ z. encodes h.characters ++ z) (sym (append_assoc h.dots (encode c) (drop (len + n) text)))
      ∙ sym (append_assoc (encodes h.characters) (h.dots ++ encode c) (drop (len + n) text))
      ∙ ap (λ z. z ++ drop (len + n) text) (sym spelled);
  kept_is = size;
  len_is = omega arith;
  each = list_all-append goes_on_label h.characters (h.dots ++ c ∷ []) ∙ and_from (list_all goes_on_label h.characters) (list_all goes_on_label (h.dots ++ c ∷ [])) h.each (list_all-append goes_on_label h.dots (c ∷ []) ∙ and_from (list_all goes_on_label h.dots) (goes_on_label c && true) (dots_go h.dots h.all_dots) (and_from (goes_on_label c) true g refl));
  all_dots = refl;
  no_dot = λ cs e. o (last_is (h.characters ++ h.dots) cs c 46 (append_assoc h.characters h.dots (c ∷ []) ∙ e));
}
  where
    there : rest ≡ encode c ++ drop (len + n) text
    there = k.text_is ∙ ap (λ z. encode c ++ z) (ap (drop n) f ∙ drop-drop n len text)

    spelled : encodes (h.characters ++ (h.dots ++ c ∷ [])) ≡ encodes h.characters ++ (h.dots ++ encode c)
    spelled = encodes-append h.characters (h.dots ++ c ∷ []) ∙ ap (λ z. encodes h.characters ++ z) (encodes-append h.dots (c ∷ []) ∙ ap (λ z. z ++ encodes (c ∷ [])) (dots_encode h.dots h.all_dots) ∙ ap (λ z. h.dots ++ z) (append-nil (encode c)))

    size : len + n ≡ length (encodes (h.characters ++ (h.dots ++ c ∷ [])))
    size = omega (arith, ap length spelled, length-append (encodes h.characters) (h.dots ++ encode c), length-append h.dots (encode c), h.kept_is, h.len_is, k.len_is)

-- words more
word_below : (c : ℕ) → IsTrue (is_word c) → c < 128
word_below c h = elim (cases_lt c 128) [ inl l ↦ l | inr l ↦ absurd (false≢true (sym (high c l) ∙ h)) ]
  where
    high : (c : ℕ) → 128 ≤ c → is_word c ≡ false
    high c l = rw (high_alphanumeric c l, ne_eqb c 95 (λ e. omega (arith, e, l)), ne_eqb c 58 (λ e. omega (arith, e, l)), ne_eqb c 45 (λ e. omega (arith, e, l))) refl

word_goes : (c : ℕ) → IsTrue (is_word c) → IsTrue (goes_on_label c && not (c == 46))
word_goes c h = implied (is_word c) (goes_on_label c && not (c == 46)) (at_below 128 (λ k. not (is_word k) || (goes_on_label k && not (k == 46))) c refl (word_below c h)) h

word_code : (c : ℕ) (x : List ℕ) → IsTrue (is_word c) → IsCodeAt (c ∷ x) c 1
word_code c x h =
    let e = encode_ascii c (word_below c h) in
    record { is_scalar = has_scalar LabelLater c (and_parts (goes_on_label c) (not (c == 46)) (word_goes c h)).0; text_is = ap (λ z. z ++ x) (sym e); len_is = ap length (sym e) }

pub run_words : (text rest : List ℕ) (kept len : ℕ) → HasRun text kept len → rest ≡ drop len text → 0 < position_or_len is_no_word rest → HasRun text (len + position_or_len is_no_word rest) (len + position_or_len is_no_word rest)
run_words text [] kept len h f l = absurd (let z : ⊥ = omega (arith, l) in z)
run_words text (c ∷ rest) kept len h f l = elim (cases_Bool (is_word c)) [
  | inr e ↦ absurd (subst (λ b. 0 < cond (not (not b)) (1 + position_or_len is_no_word rest) 0 → ⊥) (sym e) (λ k. let z : ⊥ = omega (arith, k) in z) l)
  | inl e ↦
      let p = and_parts (goes_on_label c) (not (c == 46)) (word_goes c e) in
      let one : HasRun text (len + 1) (len + 1) = run_more text (c ∷ rest) kept len c 1 h f (word_code c rest e) p.0 (λ i. false≢true (sym (ap not (eq-eqb c 46 i)) ∙ p.1)) in
      let next : rest ≡ drop (len + 1) text = ap (drop 1) f ∙ drop-drop 1 len text in
      subst (λ b. HasRun text (len + cond (not (not b)) (1 + position_or_len is_no_word rest) 0) (len + cond (not (not b)) (1 + position_or_len is_no_word rest) 0)) (sym e)
      (elim (cases_lt 0 (position_or_len is_no_word rest)) [
        | inl m ↦ subst (λ n. HasRun text n n) (let z : len + 1 + position_or_len is_no_word rest ≡ len + (1 + position_or_len is_no_word rest) = omega arith in z) (run_words text rest (len + 1) (len + 1) one next m)
        | inr m ↦ subst (λ n. HasRun text n n) (let z : len + 1 ≡ len + (1 + position_or_len is_no_word rest) = omega (arith, m) in z) one
      ])
]

pub words_within : (text rest : List ℕ) (kept len n : ℕ) → HasRun text kept len → rest ≡ drop len text → n ≡ position_or_len is_no_word rest → len + n ≤ length text
words_within text rest kept len n h f e = omega (arith, run_within text kept len h, place_within is_no_word rest, ap length f, length-drop len text, e)

-- no further one
pub run_ends : (text rest : List ℕ) (kept len : ℕ) → HasRun text kept len → rest ≡ drop len text → (HasCode goes_on_label rest → ⊥) → IsRun text (record { kept = kept; len = len })
run_ends text rest kept len h f n = record {
  characters = h.characters;
  dots = h.dots;
  text_is = h.text_is;
  kept_is = h.kept_is;
  len_is = h.len_is;
  each = h.each;
  all_dots = h.all_dots;
  no_dot = h.no_dot;
  no_more = λ k. n (subst (HasCode goes_on_label) (sym f) k);
}

-- what the look at the front tells
pub none_of_class : (text : List ℕ) (test : ℕ → Bool) → ((c : ℕ) → IsTrue (test c) → IsTrue (scalar c)) → CodeAt text None → HasCode test text → ⊥
none_of_class text test s n (c, h, (back, e)) = n c back (s c h) e

pub other_of_class : (text : List ℕ) (test : ℕ → Bool) (c n : ℕ) → IsCodeAt text c n → IsFalse (test c) → HasCode test text → ⊥
other_of_class text test c n k f (d, h, (back, e)) =
    let i = encode_same c d (drop n text) back (sym k.text_is ∙ e) in
    false≢true (sym f ∙ ap test i.0 ∙ h)

pub some_of_class : (text : List ℕ) (test : ℕ → Bool) (c n : ℕ) → IsCodeAt text c n → IsTrue (test c) → HasCode test text
some_of_class text test c n k h = (c, h, (drop n text, k.text_is))

pub code_some : (text : List ℕ) (c n : ℕ) → IsCodeAt text c n → (0 < n) × (n ≤ length text)
code_some text c n k = (omega (arith, k.len_is, encode_some c), omega (arith, k.len_is, ap length k.text_is, length-append (encode c) (drop n text)))

-- ---- labels that aren't whole

leads_label : (dotted : Bool) (s : Spot) (to : Term → Spot) → LeadsName dotted s to → LeadsLabel s
leads_label dotted s to lead cs = (to (Blank (ren (encodes cs))), lead.label cs)

colon_breaks : (s : Spot) → LeadsLabel s → (text : List ℕ) → IsTrue (begins_with text 95) → has_colon text ≡ false → BreaksBy (length text == 1) s text 0
colon_breaks s lead [] b n = absurd (false≢true b)
colon_breaks s lead (d ∷ []) b n = subst (λ z. BreaksAtEnd s (z ∷ []) 0) (sym (eqb-true d 95 b)) (underscore_unfinished s lead)
colon_breaks s lead (d ∷ c ∷ x) b n =
    let far : (length (d ∷ c ∷ x) == 1) ≡ false = ne_eqb (length (d ∷ c ∷ x)) 1 (λ e. omega (arith, e)) in
    subst (λ o. BreaksBy o s (d ∷ c ∷ x) 0) (sym far) (subst (λ z. BreaksInside s (z ∷ c ∷ x) 0) (sym (eqb-true d 95 b)) (underscore_broken s lead c x (λ e. false≢true (sym n ∙ eq-eqb c 58 e))))

pub no_colon_bad : (dotted : Bool) (text : List ℕ) (place : BadPlace) → IsTrue (begins_with text 95) → has_colon text ≡ false → place.left ≡ length text → place.open ≡ (length text == 1) → (s : Spot) (to : Term → Spot) → LeadsName dotted s to → ReadsFrom s text (Err (Bad place))
no_colon_bad dotted text place b n e o s to lead = bad_at_once s text place e (subst (λ z. BreaksBy z s text 0) (sym o) (colon_breaks s (leads_label dotted s to lead) text b n))

pub colon_is : (text inner : List ℕ) → IsTrue (begins_with text 95) → IsTrue (has_colon text) → inner ≡ drop 2 text → text ≡ 95 ∷ 58 ∷ inner
colon_is [] inner b n e = absurd (false≢true b)
colon_is (d ∷ []) inner b n e = absurd (false≢true n)
colon_is (d ∷ c ∷ x) inner b n e = ap (λ z. z ∷ c ∷ x) (eqb-true d 95 b) ∙ ap (λ z. 95 ∷ z ∷ x) (eqb-true c 58 n) ∙ ap (λ z. 95 ∷ 58 ∷ z) (sym e)

pub no_first_bad : (dotted : Bool) (text inner : List ℕ) (place : BadPlace) → text ≡ 95 ∷ 58 ∷ inner → (HasCode begins_label inner → ⊥) → place.left ≡ length text → (IsTrue place.open ↔ BeginsCode begins_label inner) → (s : Spot) (to : Term → Spot) → LeadsName dotted s to → ReadsFrom s text (Err (Bad place))
no_first_bad dotted text inner place w n e o s to lead = bad_at_once s text place e (subst (λ z. BreaksBy place.open s z 0) (sym w) (by place.open o))
  where
    by : (b : Bool) → (IsTrue b ↔ BeginsCode begins_label inner) → BreaksBy b s (95 ∷ 58 ∷ inner) 0
    by true h = label_start_unfinished s (leads_label dotted s to lead) inner n (h.0 refl)
    by false h = label_start_broken s (leads_label dotted s to lead) inner n (λ k. false≢true (h.1 k))

-- ---- whole labels

ends_in : (c : ℕ) (cs : List ℕ) → last_byte c cs ≡ 46 → (ds : List ℕ) × (c ∷ cs ≡ ds ++ 46 ∷ [])
ends_in c [] e = ([], ap (λ z. z ∷ []) e)
ends_in c (d ∷ cs) e = let (ds, f) = ends_in d cs e in (c ∷ ds, ap (λ z. c ∷ z) f)

module _ (inner : List ℕ) (run : Run) (r : IsRun inner run) (first : HasCode begins_label inner) where
  goes_of_begins : (c : ℕ) → IsTrue (begins_label c) → IsTrue (goes_on_label c)
  goes_of_begins c h = or_left (begins_label c) (c == 45 || (c == 46 || is_in further_ranges c)) h

  is_whole : (cs dots : List ℕ) → inner ≡ encodes cs ++ (dots ++ drop run.len inner) → IsTrue (list_all goes_on_label cs) → IsTrue (list_all is_dot dots) → ((ds : List ℕ) → cs ≡ ds ++ 46 ∷ [] → ⊥) → IsTrue (is_label cs)
  is_whole [] [] e g d n = let (c, h, (back, i)) = first in absurd (r.no_more (c, goes_of_begins c h, (back, sym e ∙ i)))
  is_whole [] (x ∷ dots) e g d n =
      let (c, h, (back, i)) = first in
      let p = and_parts (is_dot x) (list_all is_dot dots) d in
      let f : 46 ∷ (dots ++ drop run.len inner) ≡ encode c ++ back = ap (λ z. z ∷ (dots ++ drop run.len inner)) (sym (eqb-true x 46 p.0)) ∙ sym e ∙ i in
      absurd (false≢true (ap begins_label (sym (ascii_cut c 46 back (dots ++ drop run.len inner) (lit< tt) (sym f)).0) ∙ h))
  is_whole (b ∷ cs) dots e g d n =
      let (c, h, (back, i)) = first in
      let same = encode_same c b back (encodes cs ++ (dots ++ drop run.len inner)) (sym i ∙ e ∙ append_assoc (encode b) (encodes cs) (dots ++ drop run.len inner)) in
      let p = and_parts (goes_on_label b) (list_all goes_on_label cs) g in
      let last : IsTrue (not (last_byte b cs == 46)) = elim (cases_eq (last_byte b cs) 46) [ inl j ↦ absurd (let (ds, k) = ends_in b cs j in n ds k) | inr j ↦ ap (λ z. not z) (ne_eqb (last_byte b cs) 46 j) ] in
      and_from (begins_label b) (list_all goes_on_label cs && not (last_byte b cs == 46)) (subst (λ z. IsTrue (begins_label z)) same.0 h) (and_from (list_all goes_on_label cs) (not (last_byte b cs == 46)) p.1 last)

  pub run_is_label : IsTrue (is_label r.characters)
  run_is_label = is_whole r.characters r.dots r.text_is r.each r.all_dots r.no_dot

closes_low : (tail : List ℕ) → (HasCode goes_on_label tail → ⊥) → IsTrue (is_low tail) → Closes tail
closes_low [] n l = tt
closes_low (c ∷ x) n l =
    let m = ltb-true c 128 l in
    and_from (nat_lt c 128) (not (goes_on_label c)) l (elim (cases_Bool (goes_on_label c)) [ inl e ↦ absurd (n (c, e, (x, ap (λ z. z ++ x) (sym (encode_ascii c m))))) | inr e ↦ ap (λ b. not b) e ])

ends_by : (dotted : Bool) (dots tail : List ℕ) → IsTrue (list_all is_dot dots) → (HasCode goes_on_label tail → ⊥) → IsTrue (label_ends dotted (length dots) tail) → EndsLabel dotted (dots ++ tail)
ends_by dotted [] tail d n h = inl (closes_low tail n h)
ends_by true (x ∷ []) tail d n h = inr (tail, refl, ap (λ z. z ∷ tail) (eqb-true x 46 (and_parts (is_dot x) true d).0), closes_low tail n h)
ends_by false (x ∷ []) tail d n h = absurd (false≢true h)
ends_by dotted (x ∷ y ∷ dots) tail d n h =
    let far : (length (x ∷ y ∷ dots) == 1) ≡ false = ne_eqb (length (x ∷ y ∷ dots)) 1 (λ e. omega (arith, e)) in
    let some : (length (x ∷ y ∷ dots) == 0) ≡ false = ne_eqb (length (x ∷ y ∷ dots)) 0 (λ e. omega (arith, e)) in
    absurd (false≢true (sym (none (length (x ∷ y ∷ dots) == 0) (length (x ∷ y ∷ dots) == 1) dotted (is_low tail) some far) ∙ h))
  where
    none : (a b c d : Bool) → a ≡ false → b ≡ false → ((a || (c && b)) && d) ≡ false
    none true b c d f e = absurd (false≢true (sym f))
    none false true c d f e = absurd (false≢true (sym e))
    none false false true d f e = refl
    none false false false d f e = refl

pub label_is_read : (inner tail renamed : List ℕ) (dotted : Bool) (run : Run) → IsRun inner run → HasCode begins_label inner → tail ≡ drop run.len inner → IsTrue (label_ends dotted (run.len - run.kept) tail) → renamed ≡ ren (take run.kept inner) → IsLabelRead dotted (95 ∷ 58 ∷ inner) renamed (run.kept + 2)
label_is_read inner tail renamed dotted run r first t h e = record {
  characters = r.characters;
  text_is = ap (λ z. 95 ∷ 58 ∷ z) (r.text_is ∙ ap (λ z. encodes r.characters ++ z) (sym behind));
  within = omega (arith, r.kept_is, ap length r.text_is, length-append (encodes r.characters) (r.dots ++ drop run.len inner));
  label = run_is_label inner run r first;
  renamed_is = e ∙ ap ren (ap (take run.kept) r.text_is ∙ take_at (encodes r.characters) (r.dots ++ drop run.len inner) run.kept (sym r.kept_is));
  ends = subst (EndsLabel dotted) (sym behind) (ends_by dotted r.dots (drop run.len inner) r.all_dots r.no_more (subst (λ z. IsTrue (label_ends dotted (length r.dots) z)) t (subst (λ n. IsTrue (label_ends dotted n tail)) (let z : run.len - run.kept ≡ length r.dots = omega (arith, r.len_is) in z) h)));
}
  where
    behind : drop (run.kept + 2) (95 ∷ 58 ∷ inner) ≡ r.dots ++ drop run.len inner
    behind = ap (λ z. drop (run.kept + 2) (95 ∷ 58 ∷ z)) r.text_is ∙ drop_at (95 ∷ 58 ∷ encodes r.characters) (r.dots ++ drop run.len inner) (run.kept + 2) (let z : suc (suc (length (encodes r.characters))) ≡ run.kept + 2 = omega (arith, r.kept_is) in z)

-- ---- labels before what doesn't end them

module _ (r : Spot) where
  high_stops : (tail : List ℕ) → is_low tail ≡ false → (c : ℕ) × (x : List ℕ) × (tail ≡ c ∷ x) × (128 ≤ c)
  high_stops [] e = absurd (false≢true (sym e))
  high_stops (c ∷ x) e = (c, x, refl, ltb-false c 128 e)

  stops_at : (dotted : Bool) → DotsBy dotted r → (dots tail : List ℕ) → IsTrue (list_all is_dot dots) → label_ends dotted (length dots) tail ≡ false → StopsBehindLabel r (dots ++ tail) (dot_len dotted (length dots))
  stops_at dotted k [] tail d h =
      let (c, x, e, l) = high_stops tail h in
      subst (λ z. StopsBehindLabel r z (dot_len dotted 0)) (sym e) (inl ((λ i. let z : ⊥ = omega (arith, i, l) in z), ap (allows r) (high_opens c l) ∙ other_stops r, none dotted))
    where
      none : (b : Bool) → dot_len b 0 ≡ 0
      none true = refl
      none false = refl
  stops_at false k (x ∷ dots) tail d h =
      let e = eqb-true x 46 (and_parts (is_dot x) (list_all is_dot dots) d).0 in
      inl ((λ i. let z : ⊥ = omega (arith, i, e) in z), ap (λ z. allows r (opened_by z)) e ∙ k, refl)
  stops_at true k (x ∷ []) tail d h =
      let e = eqb-true x 46 (and_parts (is_dot x) true d).0 in
      let (c, y, f, l) = high_stops tail h in
      subst (λ z. StopsBehindLabel r (x ∷ z) 1) (sym f) (inr (e, (k.0, k.1, ap (allows (has_dot k.0)) (high_opens c l)), refl))
  stops_at true k (x ∷ y ∷ dots) tail d h =
      let p = and_parts (is_dot x) (list_all is_dot (y ∷ dots)) d in
      let e = eqb-true x 46 p.0 in
      let f = eqb-true y 46 (and_parts (is_dot y) (list_all is_dot dots) p.1).0 in
      inr (e, (k.0, k.1, ap (λ z. allows (has_dot k.0) (opened_by z)) f), more)
    where
      more : dot_len true (length (x ∷ y ∷ dots)) ≡ 1
      more = ap (λ b. if b then 1 else 0) (lt-ltb 0 (length (x ∷ y ∷ dots)) (omega arith))

  dot_len_below : (dotted : Bool) (n : ℕ) → dot_len dotted n ≤ n
  dot_len_below false n = omega arith
  dot_len_below true n = elim (cases_Bool (nat_lt 0 n)) [
    | inl e ↦ subst (λ b. (if b then 1 else 0) ≤ n) (sym e) (let z = ltb-true 0 n e in omega (arith, z))
    | inr e ↦ subst (λ b. (if b then 1 else 0) ≤ n) (sym e) (omega arith)
  ]

pub label_bad : (inner tail : List ℕ) (dotted : Bool) (run : Run) (place : BadPlace) → IsRun inner run → HasCode begins_label inner → tail ≡ drop run.len inner → label_ends dotted (run.len - run.kept) tail ≡ false → place.left ≡ length inner - run.kept - dot_len dotted (run.len - run.kept) → (IsTrue place.open ↔ BeginsCode goes_on_label tail) → (s : Spot) (to : Term → Spot) → LeadsName dotted s to → ReadsFrom s (95 ∷ 58 ∷ inner) (Err (Bad place))
label_bad inner tail dotted run place r first t h e o s to lead = record {
  within = omega (arith, e);
  breaks = subst (λ n. BreaksBy place.open s (95 ∷ 58 ∷ inner) n) at (subst (λ z. BreaksBy place.open s (95 ∷ 58 ∷ z) (suc (suc (length (encodes r.characters))) + dot_len dotted (length r.dots))) (sym r.text_is) (by place.open o));
}
  where
    gap : run.len - run.kept ≡ length r.dots
    gap = omega (arith, r.len_is)

    size : length inner ≡ length (encodes r.characters) + (length r.dots + length (drop run.len inner))
    size = ap length r.text_is ∙ length-append (encodes r.characters) (r.dots ++ drop run.len inner) ∙ ap (λ n. length (encodes r.characters) + n) (length-append r.dots (drop run.len inner))

    at : suc (suc (length (encodes r.characters))) + dot_len dotted (length r.dots) ≡ length (95 ∷ 58 ∷ inner) - place.left
    at = omega (arith, e, r.kept_is, size, ap (dot_len dotted) gap, dot_len_below s dotted (length r.dots))

    next : Spot
    next = to (Blank (ren (encodes r.characters)))

    stops : StopsBehindLabel (to (Blank (ren (encodes r.characters)))) (r.dots ++ drop run.len inner) (dot_len dotted (length r.dots))
    stops = stops_at (to (Blank (ren (encodes r.characters)))) dotted (lead.dots (Blank (ren (encodes r.characters)))) r.dots (drop run.len inner) r.all_dots (subst (λ n. label_ends dotted n (drop run.len inner) ≡ false) gap (subst (λ z. label_ends dotted (run.len - run.kept) z ≡ false) t h))

    by : (b : Bool) → (IsTrue b ↔ BeginsCode goes_on_label tail) → BreaksBy b s (95 ∷ 58 ∷ (encodes r.characters ++ (r.dots ++ drop run.len inner))) (suc (suc (length (encodes r.characters))) + dot_len dotted (length r.dots))
    by true k =
        label_unfinished s r.characters (run_is_label inner run r first) (leads_label dotted s to lead) (to (Blank (ren (encodes r.characters)))) (lead.label r.characters) r.dots (drop run.len inner) (dot_len dotted (length r.dots)) r.all_dots r.no_more stops
        (subst (BeginsCode goes_on_label) t (k.0 refl))
    by false k =
        label_broken s r.characters (run_is_label inner run r first) (leads_label dotted s to lead) (to (Blank (ren (encodes r.characters)))) (lead.label r.characters) r.dots (drop run.len inner) (dot_len dotted (length r.dots)) r.all_dots r.no_more stops
        (λ j. false≢true (k.1 (subst (BeginsCode goes_on_label) (sym t) j)))

-- ---- what stands behind a label

module _ (s : Spot) (to : Term → Spot) (dotted : Bool) (lead : LeadsName dotted s to) (cs : List ℕ) (label : IsTrue (is_label cs)) where
  end_closes : (e : ℕ) → IsTrue (is_line_end e) → IsTrue (closes_label e)
  end_closes e l = end_is (λ z. IsTrue (closes_label z)) e l refl refl

  closes_on : (x : List ℕ) (e : ℕ) → IsTrue (is_line_end e) → Closes x → (c : ℕ) × (y : List ℕ) × IsTrue (closes_label c) × (x ++ e ∷ [] ≡ c ∷ y)
  closes_on [] e l h = (e, [], end_closes e l, refl)
  closes_on (c ∷ x) e l h = (c, x ++ e ∷ [], h, refl)

  at_line_end : (rest : List ℕ) (e : ℕ) → IsTrue (is_line_end e) → EndsLabel dotted rest → ClosesLabel (rest ++ e ∷ [])
  at_line_end rest e l (inl h) = let (c, y, k, i) = closes_on rest e l h in (c, y, k, inl i)
  at_line_end rest e l (inr (x, d, f, h)) = let (c, y, k, i) = closes_on x e l h in (c, y, k, inr (ap (λ z. z ++ e ∷ []) f ∙ ap (λ z. 46 ∷ z) i))

  closes_in : (x p y : List ℕ) (c : ℕ) → x ≡ p ++ c ∷ y → Closes x → (d : ℕ) × (z : List ℕ) × IsTrue (closes_label d) × (p ++ c ∷ [] ≡ d ∷ z)
  closes_in x [] y c e h = (c, [], subst Closes e h, refl)
  closes_in x (d ∷ p) y c e h = (d, p ++ c ∷ [], subst Closes e h, refl)

  no_dot_breaks : (q : Parts) (place : ℕ) → leads_to (to (Blank (ren (encodes cs)))) tokens.dot ≡ Some (has_dot q) → Breaks (to (Blank (ren (encodes cs)))) [] 46 place → ⊥
  no_dot_breaks q place l b =
      let far = b.reaches [] [] (tokens.dot ∷ []) refl (goes_on (to (Blank (ren (encodes cs)))) (has_dot q) tokens.dot [] l) refl in
      let z : ⊥ = omega (arith, far, b.within) in z

  within_line : (rest p y : List ℕ) (c place : ℕ) → rest ≡ p ++ c ∷ y → EndsLabel dotted rest → Breaks (to (Blank (ren (encodes cs)))) p c place → ClosesLabel (p ++ c ∷ [])
  within_line rest p y c place e (inl h) b = let (d, z, k, i) = closes_in rest p y c e h in (d, z, k, inl i)
  within_line rest [] y c place e (inr (x, d, f, h)) b =
      let i : 46 ≡ c = head_is 46 c x y (sym f ∙ e) in
      let dots = subst (λ z. DotsBy z (to (Blank (ren (encodes cs))))) d (lead.dots (Blank (ren (encodes cs)))) in
      absurd (no_dot_breaks dots.0 place dots.1 (subst (λ z. Breaks (to (Blank (ren (encodes cs)))) [] z place) (sym i) b))
  within_line rest (g ∷ p) y c place e (inr (x, d, f, h)) b =
      let i : 46 ≡ g = head_is 46 g x (p ++ c ∷ y) (sym f ∙ e) in
      let j : x ≡ p ++ c ∷ y = tail_is 46 g x (p ++ c ∷ y) (sym f ∙ e) in
      let (w, z, k, m) = closes_in x p y c j h in
      (w, z, k, inr (ap (λ n. n ∷ (p ++ c ∷ [])) (sym i) ∙ ap (λ n. 46 ∷ n) m))

  stands_apart : (rest : List ℕ) → EndsLabel dotted rest → IsTrue (ends_before (tokens.label cs) rest)
  stands_apart [] h = refl
  stands_apart (c ∷ x) (inl h) = ap (λ b. not b) (ne_eqb c 95 (λ e. false≢true (ap closes_label (sym e) ∙ h)))
  stands_apart (c ∷ x) (inr (y, d, f, h)) = ap (λ b. not b) (ne_eqb c 95 (λ e. let i = head_is c 46 x y f in let z : ⊥ = omega (arith, e, i) in z))

  label_joins_all : (rest : List ℕ) → EndsLabel dotted rest → JoinsAll s (to (Blank (ren (encodes cs)))) (tokens.label cs) rest
  label_joins_all rest h = record {
    leads = lead.label cs;
    token = label;
    apart = stands_apart rest h;
    at_end = λ e l. label_joins s cs label (to (Blank (ren (encodes cs)))) (rest ++ e ∷ []) (lead.label cs) (at_line_end rest e l h);
    inside = λ p c y place e b. label_joins s cs label (to (Blank (ren (encodes cs)))) (p ++ c ∷ []) (lead.label cs) (within_line rest p y c place e h b);
  }

pub label_continues : (dotted : Bool) (text renamed : List ℕ) (len : ℕ) → IsLabelRead dotted text renamed len → (s : Spot) (to : Term → Spot) → LeadsName dotted s to → (answer : Result (Option Parts) LineHalt) → ReadsFrom (to (Blank renamed)) (drop len text) answer → ReadsFrom s text answer
label_continues dotted text renamed len k s to lead answer h =
    subst (λ z. ReadsFrom s z answer) (sym k.text_is)
    (token_before s (to (Blank (ren (encodes k.characters)))) (tokens.label k.characters) (drop len text) (label_joins_all s to dotted lead k.characters k.label (drop len text) k.ends) answer
    (subst (λ z. ReadsFrom (to (Blank z)) (drop len text) answer) k.renamed_is h))

pub dot_fits : (inner : List ℕ) (dotted : Bool) (run : Run) → IsRun inner run → dot_len dotted (run.len - run.kept) ≤ length inner - run.kept
dot_fits inner dotted run r =
    let below = dot_len_below (has_dot_less) dotted (run.len - run.kept) in
    omega (arith, below, ap length r.text_is, length-append (encodes r.characters) (r.dots ++ drop run.len inner), length-append r.dots (drop run.len inner), r.kept_is, r.len_is)
  where
    has_dot_less : Spot
    has_dot_less = begins
