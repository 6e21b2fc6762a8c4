-- A run of whole characters that mean themselves.
use Rattle.std.proofs.Common.{inl, inr, ◌≡◌, ℕ, zero, suc, ◌+◌, ◌<◌, ◌≤◌, true, cond, List, [], ◌∷◌, ◌++◌, length, take, refl, sym, ap, ◌∙◌, subst, arith, append_assoc, append-nil, add-zero, Ok, Some, None, IsUtf8}
use Rattle.std.proofs.lemmas.Bool.{false≢true, cases_Bool, ne_eqb, le-leb, lt-leb}
use Rattle.std.proofs.lemmas.Str.{IsUtf8-nil, IsUtf8-from_is_utf8, utf8_valid_len_le, utf8_valid_len-IsUtf8}
use Rattle.std.specs.List.{AllByRecursion, prefix_len, take_while}
use Rattle.std.specs.Str.{is_utf8}
use Rattle.std.proofs.lemmas.List.{length-take}
use Rattle.std.proofs.lemmas.List.Folds.{length-prefix_len}
use Rattle.std.specs.Str.Lossy.{utf8_valid_len, valid_len_up_to}
use Rattle.jl_model.specs.declared.tokens.Token.{Token}
use Rattle.jl_token.specs.declared.opens.Open.{Open}
use Rattle.jl_token.specs.declared.readings.Reading.{Reading}
use Rattle.jl_token.specs.declared.readings.Spot.{Spot}
use Rattle.jl_token.specs.declared.readings.Spot.TheVariants as spots
use Rattle.jl_token.specs.declared.strings.InString.{InString}
use Rattle.jl_token.specs.declared.strings.InString.TheVariants as at
use Rattle.jl_token.specs.declared.states.LexState.{LexState}
use Rattle.jl_model.specs.JsonStrings.{Lead, lead_of, Utf8}
use Rattle.jl_token.specs.StringMachine.{plain_did, lead_did, tail_did, string_did, Utf8Tail}
use Rattle.jl_token.specs.StringMachine.Did.{stays}
use Rattle.jl_token.specs.Machine.{moved, moved_at, token_on, text_goes, key_goes}
use Rattle.jl_token.specs.Lexed.{Stands}
use Rattle.jl_token.specs.Runs.{is_text, plain_len, is_plain_spot, ran, Runs}
use Rattle.jl_token.specs.Stands.{IsAt}
use Rattle.jl_token.proofs.Heads.{head_is, none_left}
use Rattle.jl_token.proofs.OneByte.{step_is_at}
use Rattle.jl_token.proofs.StringMoves.{both, lead_high}
use Rattle.jl_token.proofs.Utf8Moves.{utf8_first, last_rest, tail_rest}
use Rattle.jl_token.proofs.Utf8Moves.Utf8Goes.{short, long}
use Rattle.jl_token.proofs.WholeChars.{utf8_of}

-- ---- what one byte does
text_says : (c : ℕ) → is_text c ≡ true → (c ≡ 34 → ⊥) × (c ≡ 92 → ⊥) × (32 ≤ c)
text_says c e = grind arith

ascii_stays : (c : ℕ) → is_text c ≡ true → c < 128 → plain_did c ≡ stays (c ∷ []) at.Plain
ascii_stays c e l = let s = text_says c e in rw (ne_eqb c 34 s.0, ne_eqb c 92 s.1, both 32 127 c s.2 (omega arith)) refl

lead_stays : (c : ℕ) (l : Lead) → lead_of c ≡ Some l → plain_did c ≡ stays (c ∷ []) (at.Tail l.later l.low l.high)
lead_stays c l e =
    let h = lead_high c l e in
    rw (ne_eqb c 34 (λ q. omega arith), ne_eqb c 92 (λ q. omega arith), le-leb 32 c (omega arith), lt-leb c 127 (omega arith)) (ap (λ o. lead_did c o) e)

last_stays : (l h c : ℕ) → l ≤ c → c ≤ h → tail_did zero l h c ≡ stays (c ∷ []) at.Plain
last_stays l h c a b = rw (both l h c a b) refl

tail_stays : (n l h c : ℕ) → l ≤ c → c ≤ h → tail_did (suc n) l h c ≡ stays (c ∷ []) (at.Tail n 128 191)
tail_stays n l h c a b = rw (both l h c a b) refl

-- the bounds of a later byte
tail_within : (n l h c : ℕ) (t : List ℕ) → Utf8Tail n l h (c ∷ t) → (l ≤ c) × (c ≤ h)
tail_within zero l h c t k =
    let i : c ≡ k.2.0 = head_is c k.2.0 t k.1 (k.3 ∙ ap (λ x. x ++ k.1) k.2.1) in
    (omega (arith, k.2.2), omega (arith, k.2.3))
tail_within (suc n) l h c t k =
    let i : c ≡ k.2.0 = head_is c k.2.0 t (k.2.1 ++ k.1) (k.3 ∙ ap (λ x. x ++ k.1) k.2.2) in
    (omega (arith, k.2.3), omega (arith, k.2.4))

no_tail : (n l h : ℕ) → Utf8Tail n l h [] → ⊥
no_tail zero l h k = let e : ◌≡◌ {A = List ℕ} (k.2.0 ∷ []) [] = sym k.2.1 ∙ none_left k.0 k.1 k.3 in cc
no_tail (suc n) l h k = let e : ◌≡◌ {A = List ℕ} (k.2.0 ∷ k.2.1) [] = sym k.2.2 ∙ none_left k.0 k.1 k.3 in cc

-- ---- what the automaton does
abbrev Moves : (InString → Spot) → Type 0
Moves make = (place to : InString) (s : Reading) (c : ℕ) → s.spot ≡ make place → string_did place c ≡ stays (c ∷ []) to → moved true 256 s c ≡ Ok ([], token_on s (make to) (c ∷ []))

text_moves : Moves spots.InText
unfolding moved
text_moves place to s c i e = ap (λ x. moved_at true 256 x s c) i ∙ ap (λ d. text_goes d place s c) e

key_moves : Moves spots.InKey
unfolding moved
key_moves place to s c i e = ap (λ x. moved_at true 256 x s c) i ∙ ap (λ d. key_goes true d place s c) e

abbrev pub AllText : List ℕ → Type 0
AllText = AllByRecursion (λ c. is_text c ≡ true)

abbrev state : ℕ → ℕ → Spot → List ℕ → List Open → Reading
state at start spot part within = record { at = at; start = start; spot = spot; part = part; within = within }

-- where a text stands behind such bytes
abbrev behind : Reading → Spot → List ℕ → Reading
behind s spot bytes = state (s.at + length bytes) s.start spot (s.part ++ bytes) s.within

behind_none : (s : Reading) (spot : Spot) → s.spot ≡ spot → s ≡ behind s spot []
behind_none s spot e = ap (λ x. state s.at s.start x s.part s.within) e ∙ ap (λ x. state x s.start spot s.part s.within) (sym (add-zero s.at)) ∙ ap (λ x. state (s.at + 0) s.start spot x s.within) (sym (append-nil s.part))

behind_more : (s : Reading) (on spot : Spot) (c : ℕ) (cs : List ℕ) → behind (token_on s on (c ∷ [])) spot cs ≡ behind s spot (c ∷ cs)
behind_more s on spot c cs =
    let a : s.at + 1 + length cs ≡ s.at + suc (length cs) = omega arith in
    let b : (s.part ++ c ∷ []) ++ cs ≡ s.part ++ c ∷ cs = append_assoc s.part (c ∷ []) cs in
    ap (λ x. state x s.start spot ((s.part ++ c ∷ []) ++ cs) s.within) a ∙ ap (λ x. state (s.at + suc (length cs)) s.start spot x s.within) b

module _ (start : ℕ) (given : List Token) (make : InString → Spot) (moves : Moves make) where
  -- one byte, and then others
  on : (place to : InString) (c : ℕ) (cs p : List ℕ) (s : Reading) → s.spot ≡ make place → string_did place c ≡ stays (c ∷ []) to → IsAt start p given s → ((m : Reading) → m.spot ≡ make to → IsAt start (p ++ c ∷ []) given m → IsAt start ((p ++ c ∷ []) ++ cs) given (behind m (make at.Plain) cs)) → IsAt start (p ++ c ∷ cs) given (behind s (make at.Plain) (c ∷ cs))
  on place to c cs p s i e h rest =
      let m = token_on s (make to) (c ∷ []) in
      let one : IsAt start (p ++ c ∷ []) (given ++ []) m = step_is_at start p given s c h ([], m) (moves place to s c i e) in
      let r : IsAt start ((p ++ c ∷ []) ++ cs) given (behind m (make at.Plain) cs) = rest m refl (subst (λ x. IsAt start (p ++ c ∷ []) x m) (append-nil given) one) in
      subst (λ x. IsAt start x given (behind s (make at.Plain) (c ∷ cs))) (append_assoc p (c ∷ []) cs) (subst (λ x. IsAt start ((p ++ c ∷ []) ++ cs) given x) (behind_more s (make to) (make at.Plain) c cs) r)

  mutual
    on_chars : (bytes : List ℕ) → AllText bytes → Utf8 bytes → (p : List ℕ) (s : Reading) → s.spot ≡ make at.Plain → IsAt start p given s → IsAt start (p ++ bytes) given (behind s (make at.Plain) bytes)
    on_chars [] a u p s i h = subst (λ x. IsAt start (p ++ []) given x) (behind_none s (make at.Plain) i) (subst (λ x. IsAt start x given s) (sym (append-nil p)) h)
    on_chars (c ∷ cs) a u p s i h = elim (utf8_first u c cs refl) [
      | short l k ↦ on at.Plain at.Plain c cs p s i (ascii_stays c a.0 l) h (λ m j g. on_chars cs a.1 k (p ++ c ∷ []) m j g)
      | long l e k ↦ on at.Plain (at.Tail l.later l.low l.high) c cs p s i (lead_stays c l e) h (λ m j g. on_tail cs a.1 l.later l.low l.high k (p ++ c ∷ []) m j g)
    ]

    on_tail : (bytes : List ℕ) → AllText bytes → (n l u : ℕ) → Utf8Tail n l u bytes → (p : List ℕ) (s : Reading) → s.spot ≡ make (at.Tail n l u) → IsAt start p given s → IsAt start (p ++ bytes) given (behind s (make at.Plain) bytes)
    on_tail [] a n l u k p s i h = absurd (no_tail n l u k)
    on_tail (c ∷ cs) a zero l u k p s i h =
        let w = tail_within zero l u c cs k in
        on (at.Tail zero l u) at.Plain c cs p s i (last_stays l u c w.0 w.1) h (λ m j g. on_chars cs a.1 ((last_rest l u c w.0 w.1 cs).0 k) (p ++ c ∷ []) m j g)
    on_tail (c ∷ cs) a (suc n) l u k p s i h =
        let w = tail_within (suc n) l u c cs k in
        on (at.Tail (suc n) l u) (at.Tail n 128 191) c cs p s i (tail_stays n l u c w.0 w.1) h (λ m j g. on_tail cs a.1 n 128 191 ((tail_rest n l u c w.0 w.1 cs).0 k) (p ++ c ∷ []) m j g)

-- a run keeps the relation
pub run_is_at : (start : ℕ) (given : List Token) (bytes : List ℕ) → AllText bytes → Utf8 bytes → (p : List ℕ) (s : Reading) (spot : Spot) → s.spot ≡ spot → is_plain_spot spot ≡ true → IsAt start p given s → IsAt start (p ++ bytes) given (behind s spot bytes)
run_is_at start given bytes a u p s (spots.InText at.Plain) i e h = on_chars start given spots.InText text_moves bytes a u p s i h
run_is_at start given bytes a u p s (spots.InKey at.Plain) i e h = on_chars start given spots.InKey key_moves bytes a u p s i h
run_is_at start given bytes a u p s _ i e h = absurd (false≢true e)

pub runs : (old new : LexState) (bytes : List ℕ) → AllText bytes → IsUtf8 bytes → is_plain_spot old.reading.spot ≡ true → new.reading ≡ ran old.reading bytes → new.stopped ≡ None → Runs old new bytes
runs old new bytes a u i e n = λ start p given s. record { reading = subst (IsAt start (p ++ bytes) given) (sym e) (run_is_at start given bytes a (utf8_of bytes u) p old.reading old.reading.spot refl i s.reading); goes_on = n }

pub runs_none : (old new : LexState) → new ≡ old → Runs old new []
runs_none old new e = λ start p given s. subst (Stands start (p ++ []) given) (sym e) (subst (λ x. Stands start x given old) (sym (append-nil p)) s)

-- ---- how many bytes a run takes
pub take_less : (n m : ℕ) (xs : List ℕ) → n ≤ m → take n (take m xs) ≡ take n xs
take_less zero m xs l = refl
take_less (suc n) zero xs l = absurd (omega arith)
take_less (suc n) (suc m) [] l = refl
take_less (suc n) (suc m) (x ∷ xs) l = ap (λ z. x ∷ z) (take_less n m xs (omega arith))

first_text : (n : ℕ) (bytes : List ℕ) → n ≤ prefix_len is_text bytes → AllText (take n bytes)
first_text zero bytes l = tt
first_text (suc n) [] l = absurd (omega arith)
first_text (suc n) (c ∷ cs) l = elim (cases_Bool (is_text c)) [
  | inl e ↦ (e, first_text n cs (let k : suc n ≤ cond (is_text c) (1 + prefix_len is_text cs) 0 = l in let m : suc n ≤ 1 + prefix_len is_text cs = subst (λ b. suc n ≤ cond b (1 + prefix_len is_text cs) 0) e k in omega arith))
  | inr e ↦ absurd (let m : suc n ≤ 0 = subst (λ b. suc n ≤ cond b (1 + prefix_len is_text cs) 0) e l in omega arith)
]

valid_front : (bytes : List ℕ) (n : ℕ) → IsUtf8 (take (valid_len_up_to bytes n) bytes)
valid_front bytes zero = IsUtf8-nil
valid_front bytes (suc n) = elim (cases_Bool (is_utf8 (take (suc n) bytes))) [
  | inl e ↦ subst (λ b. IsUtf8 (take (cond b (suc n) (valid_len_up_to bytes n)) bytes)) (sym e) (IsUtf8-from_is_utf8 (take (suc n) bytes) e)
  | inr e ↦ subst (λ b. IsUtf8 (take (cond b (suc n) (valid_len_up_to bytes n)) bytes)) (sym e) (valid_front bytes n)
]

plain_len_le : (bytes : List ℕ) → plain_len bytes ≤ prefix_len is_text bytes
plain_len_le bytes = omega (arith, utf8_valid_len_le (take_while is_text bytes), length-prefix_len is_text bytes)

prefix_len_le : (bytes : List ℕ) → prefix_len is_text bytes ≤ length bytes
prefix_len_le bytes = omega (arith, length-prefix_len is_text bytes, length-take (prefix_len is_text bytes) bytes)

pub plain_len_within : (bytes : List ℕ) → plain_len bytes ≤ length bytes
plain_len_within bytes = omega (arith, plain_len_le bytes, prefix_len_le bytes)

-- the bytes that a run takes are whole characters
plain_utf8 : (bytes : List ℕ) → IsUtf8 (take (plain_len bytes) bytes)
unfolding utf8_valid_len
plain_utf8 bytes = subst IsUtf8 (take_less (plain_len bytes) (prefix_len is_text bytes) bytes (plain_len_le bytes)) (valid_front (take_while is_text bytes) (length (take_while is_text bytes)))

-- and mean themselves
plain_text : (bytes : List ℕ) → AllText (take (plain_len bytes) bytes)
plain_text bytes = first_text (plain_len bytes) bytes (plain_len_le bytes)

-- also where a part of the bytes is looked at
pub taken_text : (w n : ℕ) (bytes : List ℕ) → n ≡ plain_len (take w bytes) → AllText (take n bytes) × IsUtf8 (take n bytes)
taken_text w n bytes e =
    let l : plain_len (take w bytes) ≤ w = omega (arith, plain_len_within (take w bytes), length-take w bytes) in
    let i : take (plain_len (take w bytes)) (take w bytes) ≡ take n bytes = take_less (plain_len (take w bytes)) w bytes l ∙ ap (λ k. take k bytes) (sym e) in
    (subst AllText i (plain_text (take w bytes)), subst IsUtf8 i (plain_utf8 (take w bytes)))

pub whole_len : (bytes : List ℕ) → IsUtf8 (take_while is_text bytes) → plain_len bytes ≡ prefix_len is_text bytes
whole_len bytes u = utf8_valid_len-IsUtf8 (take_while is_text bytes) u ∙ length-prefix_len is_text bytes

pub front_len : (n : ℕ) (bytes : List ℕ) → n ≡ prefix_len is_text bytes → IsUtf8 (take n bytes) → length (take n bytes) ≡ plain_len bytes
front_len n bytes e u =
    let v : IsUtf8 (take_while is_text bytes) = subst (λ k. IsUtf8 (take k bytes)) e u in
    ap (λ k. length (take k bytes)) e ∙ length-prefix_len is_text bytes ∙ sym (whole_len bytes v)
