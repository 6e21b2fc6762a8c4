-- Comments as they are read.
use Rattle.std.proofs.Common.{◌≡◌, ℕ, suc, ◌+◌, ◌-◌, ◌<◌, inl, inr, ◌↔◌, Bool, true, false, List, [], ◌∷◌, ◌++◌, length, take, drop, Err, IsTrue, IsUtf8, append_assoc, refl, sym, ap, ◌∙◌, subst, arith, length-append}
use Rattle.std.proofs.lemmas.Bool.{and_parts, and_from, cases_lt, false≢true, ne_eqb}
use Rattle.std.proofs.lemmas.List.{take-append-drop, length-take-le, take_at}
use Rattle.std.proofs.lemmas.List.Folds.{list_all-append}
use Rattle.std.proofs.lemmas.Str.{encode_ascii, IsUtf8-append, utf8_valid_len_le}
use Rattle.std.specs.List.{list_all}
use Rattle.std.specs.Str.Lossy.{utf8_valid_len}
use lib.Utf8.{encode, encodes, scalar, scalars}
use Rattle.jl_model.specs.Parts.{Parts}
use Rattle.jl_model.specs.LineTokens.{is_comment_character, is_line_end}
use Rattle.jl_model.specs.LineTokens as tokens
use Rattle.jl_nquads.specs.CodePoints.{HasCode, BeginsCode}
use Rattle.jl_nquads.specs.LinesRead.{IsInLine, BreaksBy, ReadsFrom, LeadsComment, begins_with}
use Rattle.jl_nquads.specs.Spots.{Spot, has_comment, not_end, Left}
use Rattle.jl_nquads.specs.declared.halts.BadPlace.{BadPlace}
use Rattle.jl_nquads.specs.declared.halts.LineHalt.TheVariants.{Bad}
use Rattle.jl_nquads.proofs.Codes.{encode_some}
use Rattle.jl_nquads.proofs.CommentTokens.{comment_unfinished, comment_broken}
use Rattle.jl_nquads.proofs.NextBytes.{begins_is}
use Rattle.jl_nquads.proofs.PlainFronts.{valid_is_utf8, valid_is_most, scalar_is}
use Rattle.jl_nquads.proofs.SpotRows.{said_on, row_from}

-- the characters of a comment at the front, and bytes behind them at whose front none stands
pub record CommentFront (text rest : List ℕ) : Type 0 where
  pub characters : List ℕ
  pub each : IsTrue (list_all is_comment_character characters)
  pub text_is : text ≡ 35 ∷ (encodes characters ++ rest)
  pub none : HasCode is_comment_character rest → ⊥

comment_char : (c : ℕ) → IsTrue (scalar c) → IsTrue (list_all not_end (encode c)) → IsTrue (is_comment_character c)
comment_char c h k = and_from (scalar c) (not_end c) h (elim (cases_lt c 128) [
  | inl l ↦ (and_parts (not_end c) true (ap (list_all not_end) (sym (encode_ascii c l)) ∙ k)).0
  | inr l ↦ rw (ne_eqb c 10 (λ e. omega (arith, e, l)), ne_eqb c 13 (λ e. omega (arith, e, l))) refl
])

comment_chars : (cs : List ℕ) → IsTrue (scalars cs) → IsTrue (list_all not_end (encodes cs)) → IsTrue (list_all is_comment_character cs)
comment_chars [] h k = refl
comment_chars (c ∷ cs) h k =
    let p = and_parts (scalar c) (scalars cs) h in
    let q = and_parts (list_all not_end (encode c)) (list_all not_end (encodes cs)) (sym (list_all-append not_end (encode c) (encodes cs)) ∙ k) in
    and_from (is_comment_character c) (list_all is_comment_character cs) (comment_char c p.0 q.0) (comment_chars cs p.1 q.1)

-- behind the longest front that is UTF-8 no character stands
pub none_behind : (bs back : List ℕ) (c : ℕ) → IsTrue (scalar c) → drop (utf8_valid_len bs) bs ≡ encode c ++ back → ⊥
none_behind bs back c h e =
    let n : ℕ = utf8_valid_len bs in
    let m : ℕ = n + length (encode c) in
    let size : length bs ≡ n + (length (encode c) + length back) = omega (arith, ap length (sym (take-append-drop n bs)), length-append (take n bs) (drop n bs), length-take-le n bs (utf8_valid_len_le bs), ap length e, length-append (encode c) back) in
    let whole : bs ≡ (take n bs ++ encode c) ++ back = sym (take-append-drop n bs) ∙ ap (λ z. take n bs ++ z) e ∙ sym (append_assoc (take n bs) (encode c) back) in
    let front : take m bs ≡ take n bs ++ encode c = ap (take m) whole ∙ take_at (take n bs ++ encode c) back m (length-append (take n bs) (encode c) ∙ ap (λ z. z + length (encode c)) (length-take-le n bs (utf8_valid_len_le bs))) in
    let most = valid_is_most bs m (omega (arith, size)) (subst IsUtf8 (sym front) (IsUtf8-append (take n bs) (encode c) (valid_is_utf8 bs) (scalar_is c h))) in
    let z : ⊥ = omega (arith, most, encode_some c) in z

pub comment_front : (text inner rest : List ℕ) (n : ℕ) → IsInLine text → begins_with text 35 ≡ true → inner ≡ drop 1 text → n ≡ utf8_valid_len inner → rest ≡ drop n inner → CommentFront text rest
comment_front text inner rest n h b e f g =
    let (cs, u) = valid_is_utf8 inner in
    let inner_is : inner ≡ encodes cs ++ rest = sym (take-append-drop (utf8_valid_len inner) inner) ∙ ap (λ z. z ++ drop (utf8_valid_len inner) inner) (sym u.1) ∙ ap (λ z. encodes cs ++ z) (sym (g ∙ ap (λ k. drop k inner) f)) in
    let whole : text ≡ 35 ∷ (encodes cs ++ rest) = begins_is text 35 b ∙ ap (λ z. 35 ∷ z) (sym e ∙ inner_is) in
    let all = subst IsInLine whole h in
    let some = (and_parts (not_end 35) (list_all not_end (encodes cs ++ rest)) all).1 in
    record {
      characters = cs;
      each = comment_chars cs u.0 (and_parts (list_all not_end (encodes cs)) (list_all not_end rest) (sym (list_all-append not_end (encodes cs) rest) ∙ some)).0;
      text_is = whole;
      none = λ (c, k, (back, i)). none_behind inner back c (and_parts (scalar c) (not_end c) k).0 (sym (g ∙ ap (λ k. drop k inner) f) ∙ i);
    }

pub comment_whole : (text rest : List ℕ) → CommentFront text rest → rest ≡ [] → (s : Spot) (quads : List Parts) → LeadsComment s quads → Left s text quads
comment_whole text rest k e s quads lead = record {
  row = tokens.comment k.characters ∷ [];
  text_is = k.text_is ∙ ap (λ z. 35 ∷ (encodes k.characters ++ z)) e;
  whole = row_from (tokens.comment k.characters) [] [] k.each refl refl;
  says = said_on s (has_comment quads) (tokens.comment k.characters) [] (lead k.characters);
}

module _ (rest : List ℕ) (cs : List ℕ) (each : IsTrue (list_all is_comment_character cs)) (none : HasCode is_comment_character rest → ⊥) (some : 0 < length rest) where
  comment_breaks_by : (o : Bool) → (IsTrue o ↔ BeginsCode is_comment_character rest) → (s : Spot) (quads : List Parts) → LeadsComment s quads → BreaksBy o s (35 ∷ (encodes cs ++ rest)) (suc (length (encodes cs)))
  comment_breaks_by true h s quads lead = comment_unfinished s quads lead cs each rest none (h.0 refl) some
  comment_breaks_by false h s quads lead = comment_broken s quads lead cs each rest none (λ k. false≢true (h.1 k))

pub comment_bad : (text rest : List ℕ) (place : BadPlace) → CommentFront text rest → 0 < length rest → place.left ≡ length rest → (IsTrue place.open ↔ BeginsCode is_comment_character rest) → (s : Spot) (quads : List Parts) → LeadsComment s quads → ReadsFrom s text (Err (Bad place))
comment_bad text rest place k some l h s quads lead =
    let size : length text ≡ suc (length (encodes k.characters) + length rest) = ap length k.text_is ∙ ap suc (length-append (encodes k.characters) rest) in
    record {
      within = omega (arith, l, size);
      breaks = subst (λ n. BreaksBy place.open s text n) (let z : suc (length (encodes k.characters)) ≡ length text - place.left = omega (arith, l, size) in z)
          (subst (λ t. BreaksBy place.open s t (suc (length (encodes k.characters)))) (sym k.text_is) (comment_breaks_by rest k.characters k.each k.none some place.open h s quads lead));
    }
