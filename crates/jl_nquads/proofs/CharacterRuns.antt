-- Characters between signs, as they are read one run and one escape after the other.
use Rattle.std.proofs.Common.{◌≡◌, ℕ, zero, suc, ◌+◌, ◌<◌, ◌≤◌, inl, inr, Bool, true, false, not, ◌||◌, List, [], ◌∷◌, ◌++◌, length, map, flat_map, take, drop, get_or, None, is_some, unwrap_or, IsTrue, IsFalse, refl, sym, ap, ◌∙◌, subst, arith, lit<, length-append, append-nil, append_assoc}
use Rattle.std.proofs.lemmas.Bool.{cases_Bool, and_parts, and_from, false≢true}
use Rattle.std.proofs.lemmas.List.{take-append-drop, length-take-le, drop_at, drop-drop}
use Rattle.std.proofs.lemmas.List.Concat.{flat_map-append}
use Rattle.std.proofs.lemmas.List.Folds.{list_all-append}
use Rattle.std.proofs.lemmas.Str.{encode_ascii}
use Rattle.std.specs.List.{list_all}
use lib.Utf8.{encode, encodes, scalar, scalars}
use Rattle.jl_model.specs.LineTokens.{Written, itself, letter, four, eight, spelling, meaning, meant_byte, character, letter_value}
use Rattle.jl_nquads.specs.CharactersRead.{close_of, letters_of, stands_in, AreCharacters, is_stop, IsPlainFront}
use Rattle.jl_nquads.specs.EscapesRead.{is_escape, StandsFirst, EscapeAt}
use Rattle.jl_nquads.specs.declared.escaped.Escape.{Escape}
use Rattle.jl_nquads.specs.declared.framed.Frame.{Frame}
use Rattle.jl_nquads.specs.declared.framed.Frame.TheVariants.{Angles, Quotes}
use Rattle.jl_nquads.proofs.Characters.{has_first}
use Rattle.jl_nquads.proofs.EscapesAt.{uchar_parts}
use Rattle.jl_nquads.proofs.PlainFronts.{stop_low}
use Rattle.jl_nquads.proofs.TokenBodies.{at_below, letter_low}

-- these characters have been read
pub record HaveRead (frame : Frame) (text m : List ℕ) (n : ℕ) : Type 0 where
  pub written : List Written
  pub text_is : text ≡ flat_map spelling written ++ drop n text
  pub len_is : n ≡ length (flat_map spelling written)
  pub each : IsTrue (list_all (stands_in frame) written)
  pub meaning_is : m ≡ meaning written

pub none_read : (frame : Frame) (text : List ℕ) → HaveRead frame text [] 0
none_read frame text = record { written = []; text_is = refl; len_is = refl; each = refl; meaning_is = refl }

pub read_within : (frame : Frame) (text m : List ℕ) (n : ℕ) → HaveRead frame text m n → n ≤ length text
read_within frame text m n h = omega (arith, ap length h.text_is, length-append (flat_map spelling h.written) (drop n text), h.len_is)

-- more characters behind them
joined : (frame : Frame) (text m rest more : List ℕ) (n k : ℕ) (ws : List Written) → HaveRead frame text m n → drop n text ≡ flat_map spelling ws ++ rest → k ≡ length (flat_map spelling ws) → IsTrue (list_all (stands_in frame) ws) → more ≡ meaning ws → HaveRead frame text (m ++ more) (n + k)
joined frame text m rest more n k ws h e l a i =
    let whole : text ≡ flat_map spelling (h.written ++ ws) ++ rest = h.text_is ∙ ap (λ z. flat_map spelling h.written ++ z) e ∙ sym (append_assoc (flat_map spelling h.written) (flat_map spelling ws) rest) ∙ ap (λ z. z ++ rest) (sym (flat_map-append spelling h.written ws)) in
    let size : length (flat_map spelling (h.written ++ ws)) ≡ n + k = ap length (flat_map-append spelling h.written ws) ∙ length-append (flat_map spelling h.written) (flat_map spelling ws) ∙ (let z : length (flat_map spelling h.written) + length (flat_map spelling ws) ≡ n + k = omega (arith, h.len_is, l) in z) in
    record {
      written = h.written ++ ws;
      text_is = whole ∙ ap (λ z. flat_map spelling (h.written ++ ws) ++ z) (sym (ap (drop (n + k)) whole ∙ drop_at (flat_map spelling (h.written ++ ws)) rest (n + k) size));
      len_is = sym size;
      each = list_all-append (stands_in frame) h.written ws ∙ and_from (list_all (stands_in frame) h.written) (list_all (stands_in frame) ws) h.each a;
      meaning_is = ap (λ z. z ++ more) h.meaning_is ∙ ap (λ z. meaning h.written ++ z) i ∙ sym (flat_map-append meant_byte h.written ws);
    }

-- ---- characters that mean themselves

no_stop : (close : ℕ) (xs : List ℕ) (n : ℕ) → ((k : ℕ) → k < n → is_stop close (get_or xs k 0) ≡ false) → n ≤ length xs → IsTrue (list_all (λ c. not (is_stop close c)) (take n xs))
no_stop close xs zero h l = refl
no_stop close [] (suc n) h l = absurd (let z : ⊥ = omega (arith, l) in z)
no_stop close (x ∷ xs) (suc n) h l =
    and_from (not (is_stop close x)) (list_all (λ c. not (is_stop close c)) (take n xs)) (ap (λ b. not b) (h 0 (omega arith)))
    (no_stop close xs n (λ k m. h (suc k) (omega (arith, m))) (omega (arith, l)))

stands : (frame : Frame) (c : ℕ) → IsTrue (scalar c) → IsTrue (not (is_stop (close_of frame) c)) → IsTrue (stands_in frame (itself c))
stands frame c h k = and_from (scalar c) (not (is_stop (close_of frame) c)) h k

close_low : (frame : Frame) → close_of frame < 128
close_low Angles = lit< tt
close_low Quotes = lit< tt

all_stand : (frame : Frame) (cs : List ℕ) → scalars cs ≡ true → IsTrue (list_all (λ c. not (is_stop (close_of frame) c)) (encodes cs)) → IsTrue (list_all (stands_in frame) (map itself cs))
all_stand frame [] h k = refl
all_stand frame (c ∷ cs) h k =
    let p = and_parts (scalar c) (scalars cs) h in
    let q = and_parts (list_all (λ x. not (is_stop (close_of frame) x)) (encode c)) (list_all (λ x. not (is_stop (close_of frame) x)) (encodes cs)) (sym (list_all-append (λ x. not (is_stop (close_of frame) x)) (encode c) (encodes cs)) ∙ k) in
    and_from (stands_in frame (itself c)) (list_all (stands_in frame) (map itself cs)) (stands frame c p.0 (at c q.0)) (all_stand frame cs p.1 q.1)
  where
    at : (c : ℕ) → IsTrue (list_all (λ x. not (is_stop (close_of frame) x)) (encode c)) → IsTrue (not (is_stop (close_of frame) c))
    at c m = elim (cases_Bool (is_stop (close_of frame) c)) [
      | inr e ↦ ap (λ b. not b) e
      | inl e ↦ (and_parts (not (is_stop (close_of frame) c)) true (ap (list_all (λ x. not (is_stop (close_of frame) x))) (sym (encode_ascii c (stop_low (close_of frame) c (close_low frame) e))) ∙ m)).0
    ]

pub plain_spelling : (cs : List ℕ) → flat_map spelling (map itself cs) ≡ encodes cs
plain_spelling [] = refl
plain_spelling (c ∷ cs) = ap (λ z. encode c ++ z) (plain_spelling cs)

pub plain_meaning : (cs : List ℕ) → meaning (map itself cs) ≡ encodes cs
plain_meaning [] = refl
plain_meaning (c ∷ cs) = ap (λ z. encode c ++ z) (plain_meaning cs)

pub plain_more : (frame : Frame) (text m : List ℕ) (n k : ℕ) → HaveRead frame text m n → IsPlainFront (close_of frame) (drop n text) k → HaveRead frame text (m ++ take k (drop n text)) (n + k)
plain_more frame text m n k h p =
    let (cs, (ok, spelled)) = p.utf8 in
    joined frame text m (drop k (drop n text)) (take k (drop n text)) n k (map itself cs) h
    (sym (take-append-drop k (drop n text)) ∙ ap (λ z. z ++ drop k (drop n text)) (sym spelled ∙ sym (plain_spelling cs)))
    (sym (ap length (plain_spelling cs ∙ spelled) ∙ length-take-le k (drop n text) p.within))
    (all_stand frame cs ok (subst (λ z. IsTrue (list_all (λ c. not (is_stop (close_of frame) c)) z)) (sym spelled) (no_stop (close_of frame) (drop n text) k p.none p.within)))
    (sym spelled ∙ sym (plain_meaning cs))

-- ---- escapes

escape_stands : (frame : Frame) (w : Written) → IsTrue (is_escape (letters_of frame) w) → IsTrue (stands_in frame w)
escape_stands frame (itself c) h = absurd (false≢true h)
escape_stands frame (letter c) h = h
escape_stands frame (four ds) h = h
escape_stands frame (eight ds) h = h

pub escape_more : (frame : Frame) (text m : List ℕ) (n : ℕ) (e : Escape) → HaveRead frame text m n → StandsFirst (letters_of frame) (drop n text) e → HaveRead frame text (m ++ encode e.code) (n + e.len)
escape_more frame text m n e h s =
    joined frame text m s.back (encode e.code) n e.len (s.written ∷ []) h (s.text_is ∙ ap (λ z. z ++ s.back) (sym (append-nil (spelling s.written)))) (s.len_is ∙ ap length (sym (append-nil (spelling s.written))))
    (and_from (stands_in frame s.written) true (escape_stands frame s.written s.fits) refl) (ap encode s.code_is ∙ sym (append-nil (meant_byte s.written)))

implied : (a b : Bool) → IsTrue (not a || b) → IsTrue a → IsTrue b
implied true b h k = h
implied false b h k = absurd (false≢true k)

-- an escape means a character
pub escape_scalar : (letters : Bool) (text : List ℕ) (e : Escape) → StandsFirst letters text e → IsTrue (scalar e.code)
escape_scalar letters text e s = subst (λ z. IsTrue (scalar z)) (sym s.code_is) (by s.written s.fits)
  where
    by : (w : Written) → IsTrue (is_escape letters w) → IsTrue (scalar (character w))
    by (itself c) h = absurd (false≢true h)
    by (letter c) h = implied (is_some (letter_value c)) (scalar (unwrap_or (letter_value c) 0)) (at_below 128 (λ x. not (is_some (letter_value x)) || scalar (unwrap_or (letter_value x) 0)) c refl (letter_low c (and_parts letters (is_some (letter_value c)) h).1)) (and_parts letters (is_some (letter_value c)) h).1
    by (four ds) h = (uchar_parts 4 ds h).2
    by (eight ds) h = (uchar_parts 8 ds h).2

pub escape_some : (letters : Bool) (text : List ℕ) (e : Escape) → StandsFirst letters text e → 0 < e.len
escape_some letters text e s = omega (arith, s.len_is, has_first s.written)

-- ---- the end of the characters

pub all_read : (frame : Frame) (text m : List ℕ) (n k : ℕ) → HaveRead frame text m (n + k) → IsPlainFront (close_of frame) (drop n text) k → EscapeAt (letters_of frame) (drop (n + k) text) None → AreCharacters frame text (record { meaning = m; len = n + k })
all_read frame text m n k h p e = record {
  written = h.written;
  text_is = h.text_is;
  len_is = h.len_is;
  each = h.each;
  meaning_is = h.meaning_is;
  no_more = none;
}
  where
    none : (w : Written) (back : List ℕ) → IsTrue (stands_in frame w) → drop (n + k) text ≡ spelling w ++ back → ⊥
    none (itself c) back s i =
        let q = and_parts (scalar c) (not (is_stop (close_of frame) c)) s in
        p.no_more c back q.0 (not_true (is_stop (close_of frame) c) q.1) (drop-drop k n text ∙ i)
      where
        not_true : (b : Bool) → IsTrue (not b) → IsFalse b
        not_true true x = absurd (false≢true x)
        not_true false x = refl
    none (letter c) back s i = e (letter c) back s i
    none (four ds) back s i = e (four ds) back s i
    none (eight ds) back s i = e (eight ds) back s i
