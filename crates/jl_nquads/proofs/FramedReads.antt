-- IRIs and strings as they are read.
use Rattle.std.proofs.Common.{◌≡◌, ℕ, suc, ◌+◌, inl, inr, ◌↔◌, Bool, true, false, not, ◌&&◌, ◌||◌, ◌==◌, List, [], ◌∷◌, ◌++◌, length, flat_map, drop, Option, Some, Result, Err, IsTrue, IsFalse, append-nil, append_assoc, refl, sym, ap, ◌∙◌, subst, arith, length-append}
use Rattle.std.proofs.lemmas.Bool.{and_parts, and_from, cases_eq, false≢true, eq-eqb, ne_eqb}
use Rattle.std.proofs.lemmas.List.{drop_at}
use Rattle.std.proofs.lemmas.List.Folds.{list_all-append}
use Rattle.std.specs.List.{list_all}
use lib.Utf8.{encode, scalar}
use Rattle.jl_model.specs.Parts.{Parts}
use Rattle.jl_model.specs.Iris.{has_iri_form}
use Rattle.jl_model.specs.LineTokens.{Written, itself, letter, four, eight, spelling, meaning, meant_byte, is_string_character, LineToken, token_bytes, is_token}
use Rattle.jl_model.specs.LineTokens as tokens
use Rattle.jl_nquads.specs.CharactersRead.{close_of, stands_in, AreCharacters}
use Rattle.jl_nquads.specs.IriFronts.{begins_iri, may_stand, GoesOnBy}
use Rattle.jl_nquads.specs.LinesRead.{IsInLine, BreaksBy, ReadsFrom, begins_with, good_in, fine_in, open_of, IsFramed, NoneStands, NotClosed, IsUnframed}
use Rattle.jl_nquads.specs.Spots.{Spot, leads_to, not_end}
use Rattle.jl_nquads.specs.declared.framed.Characters.{Characters}
use Rattle.jl_nquads.specs.declared.framed.Frame.{Frame}
use Rattle.jl_nquads.specs.declared.framed.Frame.TheVariants.{Angles, Quotes}
use Rattle.jl_nquads.specs.declared.halts.BadPlace.{BadPlace}
use Rattle.jl_nquads.specs.declared.halts.LineHalt.{LineHalt}
use Rattle.jl_nquads.specs.declared.halts.LineHalt.TheVariants.{Bad}
use Rattle.jl_nquads.proofs.FramedKinds.{iris, strings}
use Rattle.jl_nquads.proofs.FramedTokens.{Stopped, framed_joins, framed_unfinished, framed_broken}
use Rattle.jl_nquads.proofs.NextBytes.{begins_is}
use Rattle.jl_nquads.proofs.NoLineEnds.{char_no_end}
use Rattle.jl_nquads.proofs.ReadSteps.{token_before, joins_all, bad_at_once}
use Rattle.jl_nquads.proofs.TokenBodies.{any, iri_from}

-- ---- what the reading of characters says of a token

pub token_ends : (frame : Frame) (text inner rest : List ℕ) (read : Characters) → IsTrue (begins_with text (open_of frame)) → inner ≡ drop 1 text → AreCharacters frame inner read → rest ≡ drop read.len inner → IsTrue (begins_with rest (close_of frame)) → IsTrue (good_in frame read.meaning) → IsFramed frame text read.meaning (read.len + 2)
token_ends frame text inner rest read b e k f cl g = record {
  written = k.written;
  text_is = whole ∙ ap (λ z. open_of frame ∷ (flat_map spelling k.written ++ close_of frame ∷ z)) (sym behind);
  within = omega (arith, ap length whole, length-append (flat_map spelling k.written) (close_of frame ∷ drop 1 rest), k.len_is);
  each = k.each;
  meaning_is = k.meaning_is;
  good = g;
}
  where
    whole : text ≡ open_of frame ∷ (flat_map spelling k.written ++ close_of frame ∷ drop 1 rest)
    whole = begins_is text (open_of frame) b ∙ ap (λ z. open_of frame ∷ z) (sym e ∙ k.text_is ∙ ap (λ z. flat_map spelling k.written ++ z) (sym f ∙ begins_is rest (close_of frame) cl))

    front : List ℕ
    front = open_of frame ∷ (flat_map spelling k.written ++ close_of frame ∷ [])

    behind : drop (read.len + 2) text ≡ drop 1 rest
    behind =
        ap (drop (read.len + 2)) (whole ∙ ap (λ z. open_of frame ∷ z) (sym (append_assoc (flat_map spelling k.written) (close_of frame ∷ []) (drop 1 rest))))
        ∙ drop_at (open_of frame ∷ (flat_map spelling k.written ++ close_of frame ∷ [])) (drop 1 rest) (read.len + 2) (let z : suc (length (flat_map spelling k.written ++ close_of frame ∷ [])) ≡ read.len + 2 = omega (arith, length-append (flat_map spelling k.written) (close_of frame ∷ []), k.len_is) in z)

pub none_stands : (frame : Frame) (inner rest : List ℕ) (read : Characters) → AreCharacters frame inner read → rest ≡ drop read.len inner → NoneStands frame rest
none_stands frame inner rest read k f = λ w back h i. k.no_more w back h (sym f ∙ i)

pub isnt_closed : (frame : Frame) (m rest : List ℕ) → IsFalse (begins_with rest (close_of frame) && good_in frame m) → NotClosed frame m rest
isnt_closed frame m rest n x e g = false≢true (sym n ∙ and_from (begins_with rest (close_of frame)) (good_in frame m) (ap (λ z. begins_with z (close_of frame)) e ∙ same (close_of frame)) g)
  where
    same : (c : ℕ) → IsTrue (c == c)
    same c = eq-eqb c c refl

pub token_unframed : (frame : Frame) (text inner rest : List ℕ) (read : Characters) (may : Bool) → IsTrue (begins_with text (open_of frame)) → inner ≡ drop 1 text → AreCharacters frame inner read → rest ≡ drop read.len inner → NotClosed frame read.meaning rest → (IsTrue may ↔ GoesOnBy (stands_in frame) (fine_in frame) read.meaning rest) → IsUnframed frame text may
token_unframed frame text inner rest read may b e k f n g = record {
  written = k.written;
  rest = rest;
  text_is = begins_is text (open_of frame) b ∙ ap (λ z. open_of frame ∷ z) (sym e ∙ k.text_is ∙ ap (λ z. flat_map spelling k.written ++ z) (sym f));
  each = k.each;
  none = none_stands frame inner rest read k f;
  not_closed = subst (λ z. NotClosed frame z rest) k.meaning_is n;
  goes_on = subst (λ z. IsTrue may ↔ GoesOnBy (stands_in frame) (fine_in frame) z rest) k.meaning_is g;
}

-- ---- IRIs

pub iri_continues : (s : Spot) (to : List ℕ → Spot) (text m : List ℕ) (len : ℕ) → ((ws : List Written) → leads_to s (tokens.iri ws) ≡ Some (to (meaning ws))) → IsFramed Angles text m len → (answer : Result (Option Parts) LineHalt) → ReadsFrom (to m) (drop len text) answer → ReadsFrom s text answer
iri_continues s to text m len lead k answer h =
    let ws : List Written = k.written in
    let token : IsTrue (is_token (tokens.iri ws)) = iri_from ws k.each (subst (λ z. IsTrue (has_iri_form z)) k.meaning_is k.good) in
    let joins = joins_all s (to (meaning ws)) (tokens.iri ws) (drop len text) (lead ws) token refl (λ x. framed_joins (may_stand 62 false) 62 60 has_iri_form begins_iri tokens.iri iris s (to (meaning ws)) ws x token (lead ws)) in
    subst (λ z. ReadsFrom s z answer) (ap (λ z. 60 ∷ z) (append_assoc (flat_map spelling ws) (62 ∷ []) (drop len text)) ∙ sym k.text_is)
    (token_before s (to (meaning ws)) (tokens.iri ws) (drop len text) joins answer (subst (λ z. ReadsFrom (to z) (drop len text) answer) k.meaning_is h))

pub iri_bad : (s : Spot) → ((ws : List Written) → (r : Spot) × (leads_to s (tokens.iri ws) ≡ Some r)) → (text : List ℕ) (place : BadPlace) → place.left ≡ length text → IsUnframed Angles text place.open → ReadsFrom s text (Err (Bad place))
iri_bad s lead text place e u = bad_at_once s text place e (subst (λ z. BreaksBy place.open s z 0) (sym u.text_is) (by place.open u.goes_on))
  where
    t : List ℕ
    t = flat_map spelling u.written ++ u.rest

    stopped : Stopped (may_stand 62 false) 62 60 has_iri_form begins_iri tokens.iri iris (60 ∷ (flat_map spelling u.written ++ u.rest))
    stopped = record { characters = u.written; rest = u.rest; text_is = refl; each = u.each; no_character = u.none; not_closed = u.not_closed }

    by : (o : Bool) → (IsTrue o ↔ GoesOnBy (may_stand 62 false) begins_iri (meaning u.written) u.rest) → BreaksBy o s (60 ∷ (flat_map spelling u.written ++ u.rest)) 0
    by true g = framed_unfinished (may_stand 62 false) 62 60 has_iri_form begins_iri tokens.iri iris s lead (λ ws. refl) (flat_map spelling u.written ++ u.rest) stopped (g.0 refl)
    by false g = framed_broken (may_stand 62 false) 62 60 has_iri_form begins_iri tokens.iri iris s lead (λ ws. refl) (flat_map spelling u.written ++ u.rest) stopped (λ k. false≢true (g.1 k))

-- ---- strings, in a line

no_line_end : (c : ℕ) (x : List ℕ) → IsInLine (encode c ++ x) → IsTrue (scalar c && not (c == 34 || c == 92)) → IsTrue (is_string_character (itself c))
unfolding encode
no_line_end c x h k =
    let p = and_parts (scalar c) (not (c == 34 || c == 92)) k in
    and_from (scalar c) (not (c == 34 || (c == 92 || (c == 10 || c == 13)))) p.0 (elim (cases_eq c 10) [
      | inl e ↦ absurd (false≢true (ap (λ z. list_all not_end (encode z ++ x)) (sym e) ∙ h))
      | inr m ↦ elim (cases_eq c 13) [
        | inl e ↦ absurd (false≢true (ap (λ z. list_all not_end (encode z ++ x)) (sym e) ∙ h))
        | inr n ↦ other (c == 34) (c == 92) (c == 10) (c == 13) p.1 (ne_eqb c 10 m) (ne_eqb c 13 n)
      ]
    ])
  where
    other : (a b d e : Bool) → IsTrue (not (a || b)) → d ≡ false → e ≡ false → IsTrue (not (a || (b || (d || e))))
    other true b d e h i j = absurd (false≢true h)
    other false true d e h i j = absurd (false≢true h)
    other false false true e h i j = absurd (false≢true (sym i))
    other false false false true h i j = absurd (false≢true (sym j))
    other false false false false h i j = refl

in_string : (w : Written) (x : List ℕ) → IsInLine (spelling w ++ x) → IsTrue (may_stand 34 true w) → IsTrue (is_string_character w)
in_string (itself c) x h k = no_line_end c x h k
in_string (letter c) x h k = k
in_string (four ds) x h k = k
in_string (eight ds) x h k = k

all_in_string : (ws : List Written) (x : List ℕ) → IsInLine (flat_map spelling ws ++ x) → IsTrue (list_all (may_stand 34 true) ws) → IsTrue (list_all is_string_character ws)
all_in_string [] x h k = refl
all_in_string (w ∷ ws) x h k =
    let p = and_parts (may_stand 34 true w) (list_all (may_stand 34 true) ws) k in
    let i = subst IsInLine (append_assoc (spelling w) (flat_map spelling ws) x) h in
    let q = and_parts (list_all not_end (spelling w)) (list_all not_end (flat_map spelling ws ++ x)) (sym (list_all-append not_end (spelling w) (flat_map spelling ws ++ x)) ∙ i) in
    and_from (is_string_character w) (list_all is_string_character ws) (in_string w (flat_map spelling ws ++ x) i p.0) (all_in_string ws x q.1 p.1)

of_string : (w : Written) → IsTrue (is_string_character w) → IsTrue (may_stand 34 true w)
of_string (itself c) h = let p = and_parts (scalar c) (not (c == 34 || (c == 92 || (c == 10 || c == 13)))) h in and_from (scalar c) (not (c == 34 || c == 92)) p.0 (less (c == 34) (c == 92) (c == 10 || c == 13) p.1)
  where
    less : (a b d : Bool) → IsTrue (not (a || (b || d))) → IsTrue (not (a || b))
    less true b d h = absurd (false≢true h)
    less false true d h = absurd (false≢true h)
    less false false d h = refl
of_string (letter c) h = h
of_string (four ds) h = h
of_string (eight ds) h = h

pub string_continues : (s : Spot) (to : List ℕ → Spot) (text m : List ℕ) (len : ℕ) → IsInLine text → ((ws : List Written) → leads_to s (tokens.string ws) ≡ Some (to (meaning ws))) → IsFramed Quotes text m len → (answer : Result (Option Parts) LineHalt) → ReadsFrom (to m) (drop len text) answer → ReadsFrom s text answer
string_continues s to text m len il lead k answer h =
    let ws : List Written = k.written in
    let inner = (and_parts (not_end 34) (list_all not_end (flat_map spelling ws ++ 34 ∷ drop len text)) (subst IsInLine k.text_is il)).1 in
    let token : IsTrue (is_token (tokens.string ws)) = all_in_string ws (34 ∷ drop len text) inner k.each in
    let joins = joins_all s (to (meaning ws)) (tokens.string ws) (drop len text) (lead ws) token refl (λ x. framed_joins is_string_character 34 34 any any tokens.string strings s (to (meaning ws)) ws x token (lead ws)) in
    subst (λ z. ReadsFrom s z answer) (ap (λ z. 34 ∷ z) (append_assoc (flat_map spelling ws) (34 ∷ []) (drop len text)) ∙ sym k.text_is)
    (token_before s (to (meaning ws)) (tokens.string ws) (drop len text) joins answer (subst (λ z. ReadsFrom (to z) (drop len text) answer) k.meaning_is h))

-- a rest that isn't empty and begins a character of a string
string_goes : (m rest : List ℕ) → IsInLine rest → (GoesOnBy (may_stand 34 true) (λ x. true) m rest → GoesOnBy is_string_character any m rest) × (GoesOnBy is_string_character any m rest → GoesOnBy (may_stand 34 true) (λ x. true) m rest)
unfolding encode
string_goes m [] h = ((λ k. refl), (λ k. refl))
string_goes m (c ∷ t) h = ((λ (w, k, (l, (back, e))). (w, within w back k e, (refl, (back, e)))), (λ (w, k, (l, (back, e))). (w, of_string w k, (refl, (back, e)))))
  where
    first_no : (e : ℕ) (back : List ℕ) → IsTrue (not (not_end e)) → e ∷ [] ≡ (c ∷ t) ++ back → ⊥
    first_no e back n i =
        let f : e ≡ c = cc in
        false≢true (sym (ap (λ z. not z) (and_parts (not_end c) (list_all not_end t) h).0) ∙ ap (λ z. not (not_end z)) (sym f) ∙ n)

    within : (w : Written) (back : List ℕ) → IsTrue (may_stand 34 true w) → spelling w ≡ (c ∷ t) ++ back → IsTrue (is_string_character w)
    within (itself d) back k e = no_line_end d [] (in_line d back e) k
      where
        in_line : (d : ℕ) (back : List ℕ) → encode d ≡ (c ∷ t) ++ back → IsInLine (encode d ++ [])
        in_line d back e = elim (cases_eq d 10) [
          | inl i ↦ absurd (first_no 10 back refl (ap encode (sym i) ∙ e))
          | inr m ↦ elim (cases_eq d 13) [
            | inl i ↦ absurd (first_no 13 back refl (ap encode (sym i) ∙ e))
            | inr n ↦ subst IsInLine (sym (append-nil (encode d))) (char_no_end d (λ l. rw (ne_eqb d 10 m, ne_eqb d 13 n) refl))
          ]
        ]
    within (letter d) back k e = k
    within (four ds) back k e = k
    within (eight ds) back k e = k

pub string_bad : (s : Spot) → ((ws : List Written) → (r : Spot) × (leads_to s (tokens.string ws) ≡ Some r)) → (text : List ℕ) (place : BadPlace) → IsInLine text → place.left ≡ length text → IsUnframed Quotes text place.open → ReadsFrom s text (Err (Bad place))
string_bad s lead text place il e u = bad_at_once s text place e (subst (λ z. BreaksBy place.open s z 0) (sym u.text_is) (by place.open u.goes_on))
  where
    inner : IsInLine (flat_map spelling u.written ++ u.rest)
    inner = (and_parts (not_end 34) (list_all not_end (flat_map spelling u.written ++ u.rest)) (subst IsInLine u.text_is il)).1

    rest_in : IsInLine u.rest
    rest_in = (and_parts (list_all not_end (flat_map spelling u.written)) (list_all not_end u.rest) (sym (list_all-append not_end (flat_map spelling u.written) u.rest) ∙ inner)).1

    stopped : Stopped is_string_character 34 34 any any tokens.string strings (34 ∷ (flat_map spelling u.written ++ u.rest))
    stopped = record { characters = u.written; rest = u.rest; text_is = refl; each = all_in_string u.written u.rest inner u.each; no_character = λ w x k i. u.none w x (of_string w k) i; not_closed = u.not_closed }

    by : (o : Bool) → (IsTrue o ↔ GoesOnBy (may_stand 34 true) (λ x. true) (meaning u.written) u.rest) → BreaksBy o s (34 ∷ (flat_map spelling u.written ++ u.rest)) 0
    by true g = framed_unfinished is_string_character 34 34 any any tokens.string strings s lead (λ ws. refl) (flat_map spelling u.written ++ u.rest) stopped ((string_goes (meaning u.written) u.rest rest_in).0 (g.0 refl))
    by false g = framed_broken is_string_character 34 34 any any tokens.string strings s lead (λ ws. refl) (flat_map spelling u.written ++ u.rest) stopped (λ k. false≢true (g.1 ((string_goes (meaning u.written) u.rest rest_in).1 k)))
