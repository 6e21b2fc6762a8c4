-- Whether characters that are cut short may go on, as code tells it.
use Rattle.std.proofs.Common.{◌≡◌, ℕ, zero, suc, ◌+◌, ◌-◌, ◌*◌, ◌<◌, ◌≤◌, inl, inr, Bool, true, false, not, ◌&&◌, ◌||◌, ◌==◌, if◌then◌else◌, nat_lt, nat_le, min, List, [], ◌∷◌, ◌++◌, length, drop, get_or, Option, Some, None, is_some, unwrap_or, IsTrue, IsFalse, append-nil, refl, sym, ap, ◌∙◌, subst, arith, length-append}
use Rattle.std.proofs.lemmas.Bool.{and_parts, and_from, cases_Bool, cases_lt, cases_eq, false≢true, eq-eqb, eqb-true, ne_eqb, le-leb, le-ltb, ltb-false}
use Rattle.std.proofs.Math.Seq.{drop-cons}
use Rattle.std.proofs.lemmas.List.Folds.{list_all-append}
use Rattle.std.proofs.lemmas.Str.{encode_ascii}
use Rattle.std.specs.Char.{is_ascii_alphabetic}
use Rattle.std.specs.List.{list_all}
use lib.Utf8.{encode, scalar}
use Rattle.jl_model.specs.Iris.{is_colon, is_scheme_byte, is_iri_byte}
use Rattle.jl_model.specs.LineTokens.{Written, itself, letter, four, eight, spelling, meant_byte, character, letter_value, is_hex_digit, hex_number, is_uchar}
use Rattle.jl_model.proofs.LineCuts.{ascii_cut}
use Rattle.jl_nquads.specs.CharactersRead.{close_of, letters_of, stands_in}
use Rattle.jl_nquads.specs.CodePoints.{has, BeginsCode, IsAmong}
use Rattle.jl_nquads.specs.EscapesRead.{code_value}
use Rattle.jl_nquads.specs.IriFronts.{begins_iri, goes_on_scheme, GoesOnBy}
use Rattle.jl_nquads.specs.LinesRead.{fine_in, NoneStands, NotClosed}
use Rattle.jl_nquads.specs.Unframed.{after, goes_by, is_class_of, ClassBehind, codes_end, codes_with, no_codes, codes_by, codes_of_digits, codes_of_escapes, first_with, HasSome, BeginsWritten, BeginsBy}
use Rattle.jl_nquads.specs.declared.code_points.Class.{Class}
use Rattle.jl_nquads.specs.declared.code_points.Class.TheVariants.{Any, LabelFirst, LabelLater, Comment, Letter, Scheme, Later}
use Rattle.jl_nquads.specs.declared.framed.Frame.{Frame}
use Rattle.jl_nquads.specs.declared.framed.Frame.TheVariants.{Angles, Quotes}
use Rattle.jl_nquads.proofs.CodeFronts.{has_scalar}
use Rattle.jl_nquads.proofs.Codes.{encode_some}
use Rattle.jl_nquads.proofs.EscapesAt.{uchar_parts}
use Rattle.jl_nquads.proofs.HexNumbers.{over, among_over, over_among, over_digits, digits_over, hex_joined}
use Rattle.jl_nquads.proofs.LabelBytes.{first_high}
use Rattle.jl_nquads.proofs.NoLineEnds.{encode_all}
use Rattle.jl_nquads.proofs.Texts.{head_is, tail_is}
use Rattle.jl_nquads.proofs.TokenBodies.{at_below, letter_low, high_alphabetic, high_scheme, high_iri, scalar_below}

-- ---- one character more

-- a character beyond ASCII has a first byte beyond ASCII
high_first : (c : ℕ) → 128 ≤ c → (b : ℕ) × (bs : List ℕ) × (encode c ≡ b ∷ bs) × (128 ≤ b)
high_first c l = go (encode c) refl (encode_some c)
  where
    go : (t : List ℕ) → encode c ≡ t → 0 < length t → (b : ℕ) × (bs : List ℕ) × (encode c ≡ b ∷ bs) × (128 ≤ b)
    go [] e k = absurd (let z : ⊥ = omega (arith, k) in z)
    go (b ∷ bs) e k = (b, bs, e, first_high c b bs [] l (sym e ∙ sym (append-nil (encode c))))

no_colon : (b : ℕ) → 128 ≤ b → is_colon b ≡ false
no_colon b l = ne_eqb b 58 (λ e. omega (arith, e, l))

and_true : (a : Bool) → (a && true) ≡ a
and_true true = refl
and_true false = refl

scheme_one : (c : ℕ) → goes_on_scheme (c ∷ []) ≡ (is_colon c || is_scheme_byte c)
scheme_one c = by (is_colon c) (is_scheme_byte c)
  where
    by : (a b : Bool) → (if a then true else (b && true)) ≡ (a || b)
    by true b = refl
    by false b = and_true b

-- what a character may stand for is told by it or by its bytes
pub has_goes : (frame : Frame) (k : Class) (c : ℕ) → IsTrue (is_class_of frame k) → IsTrue (scalar c) → has k c ≡ goes_by k (encode c)
has_goes frame Any c f h = h
has_goes frame Letter c f h = elim (cases_lt c 128) [
  | inl l ↦ sym (and_true (is_ascii_alphabetic c)) ∙ ap begins_iri (sym (encode_ascii c l))
  | inr l ↦ let (b, bs, e, m) = high_first c l in high_alphabetic c l ∙ sym (ap begins_iri e ∙ ap (λ z. z && goes_on_scheme bs) (high_alphabetic b m))
]
has_goes frame Scheme c f h = elim (cases_lt c 128) [
  | inl l ↦ sym (scheme_one c) ∙ ap goes_on_scheme (sym (encode_ascii c l))
  | inr l ↦
      let (b, bs, e, m) = high_first c l in
      let left : (is_colon c || is_scheme_byte c) ≡ false = rw (no_colon c l, high_scheme c l) refl in
      let right : goes_on_scheme (b ∷ bs) ≡ false = rw (no_colon b m, high_scheme b m) refl in
      left ∙ sym (ap goes_on_scheme e ∙ right)
]
has_goes frame Later c f h = elim (cases_lt c 128) [
  | inl l ↦ ap (λ z. z && is_iri_byte c) h ∙ sym (and_true (is_iri_byte c)) ∙ ap (list_all is_iri_byte) (sym (encode_ascii c l))
  | inr l ↦ ap (λ z. z && is_iri_byte c) h ∙ high_iri c l ∙ sym (encode_all is_iri_byte c (λ b m. high_iri b m) (λ m. absurd (let z : ⊥ = omega (arith, l, m) in z)))
]
has_goes Angles LabelFirst c f h = absurd (false≢true f)
has_goes Quotes LabelFirst c f h = absurd (false≢true f)
has_goes Angles LabelLater c f h = absurd (false≢true f)
has_goes Quotes LabelLater c f h = absurd (false≢true f)
has_goes Angles Comment c f h = absurd (false≢true f)
has_goes Quotes Comment c f h = absurd (false≢true f)

goes_nothing : (frame : Frame) (k : Class) → IsTrue (is_class_of frame k) → goes_by k [] ≡ true
goes_nothing frame Any f = refl
goes_nothing frame Letter f = refl
goes_nothing frame Scheme f = refl
goes_nothing frame Later f = refl
goes_nothing Angles LabelFirst f = absurd (false≢true f)
goes_nothing Quotes LabelFirst f = absurd (false≢true f)
goes_nothing Angles LabelLater f = absurd (false≢true f)
goes_nothing Quotes LabelLater f = absurd (false≢true f)
goes_nothing Angles Comment f = absurd (false≢true f)
goes_nothing Quotes Comment f = absurd (false≢true f)

no_sign : (k : Class) → IsTrue (is_class_of Angles k) → has k 62 ≡ false
no_sign Any f = absurd (false≢true f)
no_sign Letter f = refl
no_sign Scheme f = refl
no_sign Later f = refl
no_sign LabelFirst f = absurd (false≢true f)
no_sign LabelLater f = absurd (false≢true f)
no_sign Comment f = absurd (false≢true f)

-- ---- one byte more

pub after_some : (k : Class) (b : ℕ) (j : Class) (y : List ℕ) → IsTrue (is_class_of Angles k) → Some j ≡ after k b → IsTrue (is_class_of Angles j) × (goes_by k (b ∷ y) ≡ goes_by j y)
after_some Letter b j y f e = by (is_ascii_alphabetic b) e
  where
    by : (a : Bool) → Some j ≡ (if a then Some Scheme else None) → IsTrue (is_class_of Angles j) × ((a && goes_on_scheme y) ≡ goes_by j y)
    by true e = let i : j ≡ Scheme = cc in subst (λ z. IsTrue (is_class_of Angles z) × (goes_on_scheme y ≡ goes_by z y)) (sym i) (refl, refl)
    by false e = absurd (let z : ⊥ = cc in z)
after_some Scheme b j y f e = by (is_colon b) (is_scheme_byte b) e
  where
    by : (a d : Bool) → Some j ≡ (if a then Some Later else (if d then Some Scheme else None)) → IsTrue (is_class_of Angles j) × ((if a then list_all is_iri_byte y else (d && goes_on_scheme y)) ≡ goes_by j y)
    by true d e = let i : j ≡ Later = cc in subst (λ z. IsTrue (is_class_of Angles z) × (list_all is_iri_byte y ≡ goes_by z y)) (sym i) (refl, refl)
    by false true e = let i : j ≡ Scheme = cc in subst (λ z. IsTrue (is_class_of Angles z) × (goes_on_scheme y ≡ goes_by z y)) (sym i) (refl, refl)
    by false false e = absurd (let z : ⊥ = cc in z)
after_some Later b j y f e = by (is_iri_byte b) e
  where
    by : (a : Bool) → Some j ≡ (if a then Some Later else None) → IsTrue (is_class_of Angles j) × ((a && list_all is_iri_byte y) ≡ goes_by j y)
    by true e = let i : j ≡ Later = cc in subst (λ z. IsTrue (is_class_of Angles z) × (list_all is_iri_byte y ≡ goes_by z y)) (sym i) (refl, refl)
    by false e = absurd (let z : ⊥ = cc in z)
after_some Any b j y f e = absurd (false≢true f)
after_some LabelFirst b j y f e = absurd (false≢true f)
after_some LabelLater b j y f e = absurd (false≢true f)
after_some Comment b j y f e = absurd (false≢true f)

pub after_none : (k : Class) (b : ℕ) (y : List ℕ) → IsTrue (is_class_of Angles k) → None ≡ after k b → goes_by k (b ∷ y) ≡ false
after_none Letter b y f e = by (is_ascii_alphabetic b) e
  where
    by : (a : Bool) → ◌≡◌ {A = Option Class} None (if a then Some Scheme else None) → (a && goes_on_scheme y) ≡ false
    by true e = absurd (let z : ⊥ = cc in z)
    by false e = refl
after_none Scheme b y f e = by (is_colon b) (is_scheme_byte b) e
  where
    by : (a d : Bool) → ◌≡◌ {A = Option Class} None (if a then Some Later else (if d then Some Scheme else None)) → (if a then list_all is_iri_byte y else (d && goes_on_scheme y)) ≡ false
    by true d e = absurd (let z : ⊥ = cc in z)
    by false true e = absurd (let z : ⊥ = cc in z)
    by false false e = refl
after_none Later b y f e = by (is_iri_byte b) e
  where
    by : (a : Bool) → ◌≡◌ {A = Option Class} None (if a then Some Later else None) → (a && list_all is_iri_byte y) ≡ false
    by true e = absurd (let z : ⊥ = cc in z)
    by false e = refl
after_none Any b y f e = absurd (false≢true f)
after_none LabelFirst b y f e = absurd (false≢true f)
after_none LabelLater b y f e = absurd (false≢true f)
after_none Comment b y f e = absurd (false≢true f)

-- ---- escapes by digits

digits_some : (n : ℕ) (es fs : List ℕ) → IsTrue (is_uchar n (es ++ fs)) → IsAmong (codes_of_digits n es) (hex_number 0 (es ++ fs))
digits_some n es fs h =
    let u = uchar_parts n (es ++ fs) h in
    let x : ℕ = hex_number 0 (es ++ fs) in
    let size : n ≡ length es + length fs = sym u.0 ∙ length-append es fs in
    let p = and_parts (list_all is_hex_digit es) (list_all is_hex_digit fs) (sym (list_all-append is_hex_digit es fs) ∙ u.1) in
    let low : x < 1114112 = scalar_below x u.2 in
    let left : over (length fs) x ≡ hex_number 0 es = ap (over (length fs)) (hex_joined 0 es fs) ∙ over_digits fs (hex_number 0 es) p.1 in
    let small : hex_number 0 es ≤ 1114111 = (let m = over_under (length fs) x in omega (arith, m, low, left)) in
    let value : code_value 0 es ≡ Some (hex_number 0 es) = ap (λ b. if b then Some (hex_number 0 es) else None) (and_from (list_all is_hex_digit es) (nat_le (hex_number 0 es) 1114111) p.0 (le-leb (hex_number 0 es) 1114111 small)) in
    let fits : nat_lt n (length es) ≡ false = le-ltb n (length es) (omega (arith, size)) in
    let within : IsAmong (codes_with (hex_number 0 es) (n - length es)) x = subst (λ m. IsAmong (codes_with (hex_number 0 es) m) x) (let z : length fs ≡ n - length es = omega (arith, size) in z) (among_over (length fs) (hex_number 0 es) x low left) in
    subst (λ b. IsAmong (if b then no_codes else codes_by (n - length es) (code_value 0 es)) x) (sym fits) (subst (λ o. IsAmong (codes_by (n - length es) o) x) (sym value) within)
  where
    over_under : (m c : ℕ) → over m c ≤ c
    over_under zero c = omega arith
    over_under (suc m) c = let k = over_under m c in omega (arith, k)

some_digits : (n x : ℕ) (es : List ℕ) → IsTrue (scalar x) → IsAmong (codes_of_digits n es) x → (fs : List ℕ) × IsTrue (is_uchar n (es ++ fs)) × (hex_number 0 (es ++ fs) ≡ x)
some_digits n x es s h = elim (cases_Bool (nat_lt n (length es))) [
  | inl e ↦ absurd (none (subst (λ b. IsAmong (if b then no_codes else codes_by (n - length es) (code_value 0 es)) x) e h))
  | inr e ↦ elim (cases_Bool (list_all is_hex_digit es && nat_le (hex_number 0 es) 1114111)) [
    | inr f ↦ absurd (none (subst (λ b. IsAmong (codes_by (n - length es) (if b then Some (hex_number 0 es) else None)) x) f (subst (λ b. IsAmong (if b then no_codes else codes_by (n - length es) (code_value 0 es)) x) e h)))
    | inl f ↦
        let hex = (and_parts (list_all is_hex_digit es) (nat_le (hex_number 0 es) 1114111) f).0 in
        let k : IsAmong (codes_with (hex_number 0 es) (n - length es)) x = subst (λ b. IsAmong (codes_by (n - length es) (if b then Some (hex_number 0 es) else None)) x) f (subst (λ b. IsAmong (if b then no_codes else codes_by (n - length es) (code_value 0 es)) x) e h) in
        let left = over_among (n - length es) (hex_number 0 es) x (scalar_below x s) k in
        let (fs, l, all, i) = digits_over (n - length es) (hex_number 0 es) x left in
        let num : hex_number 0 (es ++ fs) ≡ x = hex_joined 0 es fs ∙ i in
        let fits : length es ≤ n = ltb-false n (length es) e in
        let size : length (es ++ fs) ≡ n = length-append es fs ∙ (let z : length es + length fs ≡ n = omega (arith, l, fits) in z) in
        (fs, and_from (length (es ++ fs) == n) (list_all is_hex_digit (es ++ fs) && scalar (hex_number 0 (es ++ fs))) (eq-eqb (length (es ++ fs)) n size) (and_from (list_all is_hex_digit (es ++ fs)) (scalar (hex_number 0 (es ++ fs))) (list_all-append is_hex_digit es fs ∙ and_from (list_all is_hex_digit es) (list_all is_hex_digit fs) hex all) (subst (λ z. IsTrue (scalar z)) (sym num) s)), num)
  ]
]
  where
    none : IsAmong no_codes x → ⊥
    none k = let z : ⊥ = omega (arith, k.1) in z

-- ---- the whole

implied : (a b : Bool) → IsTrue (not a || b) → IsTrue a → IsTrue b
implied true b h k = h
implied false b h k = absurd (false≢true k)

pub letter_scalar_of : (letters : Bool) (c : ℕ) → IsTrue (letters && is_some (letter_value c)) → IsTrue (scalar (character (letter c)))
letter_scalar_of letters c s =
    let h = (and_parts letters (is_some (letter_value c)) s).1 in
    implied (is_some (letter_value c)) (scalar (unwrap_or (letter_value c) 0)) (at_below 128 (λ x. not (is_some (letter_value x)) || scalar (unwrap_or (letter_value x) 0)) c refl (letter_low c h)) h

module _ (frame : Frame) (m : List ℕ) (k : Class) (behind : ClassBehind frame m (Some k)) where
  -- a character that may stand next
  may_stand_next : (w : Written) → IsTrue (scalar (character w)) → IsTrue (fine_in frame (m ++ meant_byte w)) → IsTrue (has k (character w))
  may_stand_next w s f = has_goes frame k (character w) behind.0 s ∙ sym (behind.1 (meant_byte w)) ∙ f

  fine_next : (x : ℕ) → IsTrue (scalar x) → IsTrue (has k x) → IsTrue (fine_in frame (m ++ encode x))
  fine_next x s h = behind.1 (encode x) ∙ sym (has_goes frame k x behind.0 s) ∙ h

  -- a written character of which this is the beginning goes on the text
  abbrev Goes : List ℕ → Type 0
  Goes rest = (w : Written) × IsTrue (stands_in frame w) × (IsTrue (fine_in frame (m ++ meant_byte w)) × ((back : List ℕ) × (spelling w ≡ rest ++ back)))

  by_four : (x : ℕ) (t : List ℕ) → IsTrue (scalar x) → IsTrue (has k x) → IsAmong (codes_of_digits 4 t) x → Goes (92 ∷ 117 ∷ t)
  by_four x t s h a =
      let (fs, u, i) = some_digits 4 x t s a in
      (four (t ++ fs), u, (subst (λ z. IsTrue (fine_in frame (m ++ encode z))) (sym i) (fine_next x s h), (fs, refl)))

  by_eight : (x : ℕ) (t : List ℕ) → IsTrue (scalar x) → IsTrue (has k x) → IsAmong (codes_of_digits 8 t) x → Goes (92 ∷ 85 ∷ t)
  by_eight x t s h a =
      let (fs, u, i) = some_digits 8 x t s a in
      (eight (t ++ fs), u, (subst (λ z. IsTrue (fine_in frame (m ++ encode z))) (sym i) (fine_next x s h), (fs, refl)))

  escape_goes : (t : List ℕ) → HasSome k (codes_of_escapes t) → Goes (92 ∷ t)
  escape_goes [] (x, a, s, h) =
      let (w, u, (f, (back, e))) = by_eight x [] s h (among_over 8 0 x (scalar_below x s) (let z : over 8 x ≡ 0 = omega (arith, scalar_below x s) in z)) in
      (w, u, (f, (85 ∷ back, e)))
  escape_goes (d ∷ t) (x, a, s, h) = elim (cases_Bool (d == 117)) [
    | inl e ↦ subst (λ z. Goes (92 ∷ z ∷ t)) (sym (eqb-true d 117 e)) (by_four x t s h (subst (λ b. IsAmong (if b then codes_of_digits 4 t else (if d == 85 then codes_of_digits 8 t else no_codes)) x) e a))
    | inr e ↦
        let a2 = subst (λ b. IsAmong (if b then codes_of_digits 4 t else (if d == 85 then codes_of_digits 8 t else no_codes)) x) e a in
        elim (cases_Bool (d == 85)) [
          | inl f ↦ subst (λ z. Goes (92 ∷ z ∷ t)) (sym (eqb-true d 85 f)) (by_eight x t s h (subst (λ b. IsAmong (if b then codes_of_digits 8 t else no_codes) x) f a2))
          | inr f ↦ absurd (let n = (subst (λ b. IsAmong (if b then codes_of_digits 8 t else no_codes) x) f a2).1 in let z : ⊥ = omega (arith, n) in z)
        ]
  ]

  goes_escape : (w : Written) (t back : List ℕ) → NoneStands frame (92 ∷ t) → IsTrue (stands_in frame w) → IsTrue (fine_in frame (m ++ meant_byte w)) → spelling w ≡ (92 ∷ t) ++ back → HasSome k (codes_of_escapes t)
  goes_escape (itself c) t back n s f e =
      let p = and_parts (scalar c) (not (c == close_of frame || c == 92)) s in
      let i = (byte_is c 92 (t ++ back) (omega arith) e) in
      absurd (false≢true (sym (not_right (c == close_of frame) (c == 92) p.1) ∙ eq-eqb c 92 i))
    where
      byte_is : (c b : ℕ) (y : List ℕ) → b < 128 → encode c ≡ b ∷ y → c ≡ b
      byte_is c b y l e = (ascii_cut c b [] y l (append-nil (encode c) ∙ e)).0

      not_right : (a b : Bool) → IsTrue (not (a || b)) → b ≡ false
      not_right true b h = absurd (false≢true h)
      not_right false true h = absurd (false≢true h)
      not_right false false h = refl
  goes_escape (letter c) [] back n s f e = let h = letter_is c s in (character (letter c), (omega arith, scalar_below (character (letter c)) h), h, may_stand_next (letter c) h f)
    where
      letter_is : (c : ℕ) → IsTrue (stands_in frame (letter c)) → IsTrue (scalar (character (letter c)))
      letter_is c s = letter_scalar_of (letters_of frame) c s
  goes_escape (letter c) (d ∷ t) back n s f e =
      let i : c ≡ d = head_is c d [] (t ++ back) (tail_is 92 92 (c ∷ []) (d ∷ (t ++ back)) e) in
      let j : [] ≡ t ++ back = tail_is c d [] (t ++ back) (tail_is 92 92 (c ∷ []) (d ∷ (t ++ back)) e) in
      absurd (n (letter c) [] s (ap (λ z. 92 ∷ z ∷ t) (sym i) ∙ ap (λ z. 92 ∷ c ∷ z) (nil_left t back j)))
    where
      nil_left : (a b : List ℕ) → [] ≡ a ++ b → a ≡ []
      nil_left [] b e = refl
      nil_left (x ∷ a) b e = absurd (let z : ⊥ = cc in z)
  goes_escape (four ds) [] back n s f e = let u = uchar_parts 4 ds s in (hex_number 0 ds, (omega arith, scalar_below (hex_number 0 ds) u.2), u.2, may_stand_next (four ds) u.2 f)
  goes_escape (four ds) (d ∷ t) back n s f e =
      let i : 117 ≡ d = head_is 117 d ds (t ++ back) (tail_is 92 92 (117 ∷ ds) (d ∷ (t ++ back)) e) in
      let j : ds ≡ t ++ back = tail_is 117 d ds (t ++ back) (tail_is 92 92 (117 ∷ ds) (d ∷ (t ++ back)) e) in
      let u = uchar_parts 4 ds s in
      let a : IsAmong (codes_of_digits 4 t) (hex_number 0 ds) = subst (λ z. IsAmong (codes_of_digits 4 t) (hex_number 0 z)) (sym j) (digits_some 4 t back (subst (λ z. IsTrue (is_uchar 4 z)) j s)) in
      (hex_number 0 ds, subst (λ z. IsAmong (codes_of_escapes (z ∷ t)) (hex_number 0 ds)) i a, u.2, may_stand_next (four ds) u.2 f)
  goes_escape (eight ds) [] back n s f e = let u = uchar_parts 8 ds s in (hex_number 0 ds, (omega arith, scalar_below (hex_number 0 ds) u.2), u.2, may_stand_next (eight ds) u.2 f)
  goes_escape (eight ds) (d ∷ t) back n s f e =
      let i : 85 ≡ d = head_is 85 d ds (t ++ back) (tail_is 92 92 (85 ∷ ds) (d ∷ (t ++ back)) e) in
      let j : ds ≡ t ++ back = tail_is 85 d ds (t ++ back) (tail_is 92 92 (85 ∷ ds) (d ∷ (t ++ back)) e) in
      let u = uchar_parts 8 ds s in
      let a : IsAmong (codes_of_digits 8 t) (hex_number 0 ds) = subst (λ z. IsAmong (codes_of_digits 8 t) (hex_number 0 z)) (sym j) (digits_some 8 t back (subst (λ z. IsTrue (is_uchar 8 z)) j s)) in
      (hex_number 0 ds, subst (λ z. IsAmong (codes_of_escapes (z ∷ t)) (hex_number 0 ds)) i a, u.2, may_stand_next (eight ds) u.2 f)

  code_goes : (c : ℕ) (t : List ℕ) → IsFalse (c == 92) → NotClosed frame m (c ∷ t) → BeginsCode (has k) (c ∷ t) → Goes (c ∷ t)
  code_goes c t n cl (d, h, (back, e)) =
      let s = has_scalar k d h in
      (itself d, and_from (scalar d) (not (d == close_of frame || d == 92)) s (stands d h back e), (fine_next d s h, (back, e)))
    where
      one_byte : (d : ℕ) (back : List ℕ) → d < 128 → encode d ≡ (c ∷ t) ++ back → (d ≡ c) × (t ≡ [])
      one_byte d back l e =
          let f : d ∷ [] ≡ c ∷ (t ++ back) = sym (encode_ascii d l) ∙ e in
          (head_is d c [] (t ++ back) f, nil_left t back (tail_is d c [] (t ++ back) f))
        where
          nil_left : (a b : List ℕ) → [] ≡ a ++ b → a ≡ []
          nil_left [] b e = refl
          nil_left (x ∷ a) b e = absurd (let z : ⊥ = cc in z)

      no_close : (fr : Frame) → IsTrue (is_class_of fr k) → NotClosed fr m (c ∷ t) → (d : ℕ) (back : List ℕ) → IsTrue (has k d) → encode d ≡ (c ∷ t) ++ back → d ≡ close_of fr → ⊥
      no_close Angles f cl d back h e i = false≢true (sym (no_sign k f) ∙ subst (λ z. IsTrue (has k z)) i h)
      no_close Quotes f cl d back h e i = let o = one_byte d back (omega (arith, i)) e in cl [] (ap (λ z. z ∷ t) (sym o.0 ∙ i) ∙ ap (λ z. 34 ∷ z) o.1) refl

      stands : (d : ℕ) → IsTrue (has k d) → (back : List ℕ) → encode d ≡ (c ∷ t) ++ back → IsTrue (not (d == close_of frame || d == 92))
      stands d h back e = elim (cases_eq d (close_of frame)) [
        | inl i ↦ absurd (no_close frame behind.0 cl d back h e i)
        | inr o ↦ elim (cases_eq d 92) [
          | inl i ↦ absurd (false≢true (sym n ∙ eq-eqb c 92 (sym (one_byte d back (omega (arith, i)) e).0 ∙ i)))
          | inr p ↦ rw (ne_eqb d (close_of frame) o, ne_eqb d 92 p) refl
        ]
      ]

  goes_code : (c : ℕ) (t : List ℕ) → IsFalse (c == 92) → Goes (c ∷ t) → BeginsCode (has k) (c ∷ t)
  goes_code c t n (itself d, s, (f, (back, e))) = let p = and_parts (scalar d) (not (d == close_of frame || d == 92)) s in (d, may_stand_next (itself d) p.0 f, (back, e))
  goes_code c t n (letter d, s, (f, (back, e))) = absurd (false≢true (sym n ∙ eq-eqb c 92 (sym (head_is 92 c _ _ e))))
  goes_code c t n (four d, s, (f, (back, e))) = absurd (false≢true (sym n ∙ eq-eqb c 92 (sym (head_is 92 c _ _ e))))
  goes_code c t n (eight d, s, (f, (back, e))) = absurd (false≢true (sym n ∙ eq-eqb c 92 (sym (head_is 92 c _ _ e))))

  fine_now : IsTrue (fine_in frame m)
  fine_now = ap (fine_in frame) (sym (append-nil m)) ∙ behind.1 [] ∙ goes_nothing frame k behind.0

  pub written_goes : (rest : List ℕ) → NoneStands frame rest → NotClosed frame m rest → BeginsWritten k rest → GoesOnBy (stands_in frame) (fine_in frame) m rest
  written_goes [] n cl h = fine_now
  written_goes (c ∷ t) n cl h = elim (cases_Bool (c == 92)) [
    | inl e ↦ subst (λ z. Goes (z ∷ t)) (sym (eqb-true c 92 e)) (escape_goes t (subst (λ b. BeginsBy b k c t) e h))
    | inr e ↦ code_goes c t e cl (subst (λ b. BeginsBy b k c t) e h)
  ]

  pub goes_written : (rest : List ℕ) → NoneStands frame rest → NotClosed frame m rest → GoesOnBy (stands_in frame) (fine_in frame) m rest → BeginsWritten k rest
  goes_written [] n cl h = tt
  goes_written (c ∷ t) n cl h = elim (cases_Bool (c == 92)) [
    | inl e ↦
        let i = eqb-true c 92 e in
        let (w, s, (f, (back, g))) = h in
        subst (λ b. BeginsBy b k c t) (sym e) (goes_escape w t back (subst (λ z. NoneStands frame (z ∷ t)) i n) s f (g ∙ ap (λ z. (z ∷ t) ++ back) i))
    | inr e ↦ subst (λ b. BeginsBy b k c t) (sym e) (goes_code c t e h)
  ]

-- where no class may stand behind, nothing goes on
pub nothing_goes : (frame : Frame) (m rest : List ℕ) → ClassBehind frame m None → GoesOnBy (stands_in frame) (fine_in frame) m rest → ⊥
nothing_goes frame m [] n h = false≢true (sym (n []) ∙ ap (fine_in frame) (append-nil m) ∙ h)
nothing_goes frame m (c ∷ t) n (w, s, (f, e)) = false≢true (sym (n (meant_byte w)) ∙ f)

-- one byte more of the beginning of an IRI
pub class_further : (text : List ℕ) (i : ℕ) (k : Class) (o : Option Class) (j : Class) → i < length text → IsTrue (is_class_of Angles k) → ((x : List ℕ) → begins_iri (text ++ x) ≡ goes_by k (drop i text ++ x)) → o ≡ after k (get_or text i 0) → o ≡ Some j → IsTrue (is_class_of Angles j) × ((x : List ℕ) → begins_iri (text ++ x) ≡ goes_by j (drop (i + 1) text ++ x))
class_further text i k o j l f h e g =
    let next : Some j ≡ after k (get_or text i 0) = sym g ∙ e in
    ((after_some k (get_or text i 0) j [] f next).0, λ x. h x ∙ ap (λ z. goes_by k (z ++ x)) (drop-cons text i 0 l) ∙ (after_some k (get_or text i 0) j (drop (suc i) text ++ x) f next).1 ∙ ap (λ n. goes_by j (drop n text ++ x)) (let z : suc i ≡ i + 1 = omega arith in z))

pub class_no_further : (text : List ℕ) (i : ℕ) (k : Class) → i < length text → IsTrue (is_class_of Angles k) → ((x : List ℕ) → begins_iri (text ++ x) ≡ goes_by k (drop i text ++ x)) → None ≡ after k (get_or text i 0) → (x : List ℕ) → IsFalse (begins_iri (text ++ x))
class_no_further text i k l f h e x = h x ∙ ap (λ z. goes_by k (z ++ x)) (drop-cons text i 0 l) ∙ after_none k (get_or text i 0) (drop (suc i) text ++ x) f e

-- one digit more
pub first_further : (count counter first next number : ℕ) → counter < count → first_with (count - counter) first ≡ first_with count number → next ≡ min (first * 16) codes_end → (next ≤ 1114112) × (first_with (count - (counter + 1)) next ≡ first_with count number)
first_further count counter first next number l h e =
    let step : count - counter ≡ suc (count - (counter + 1)) = omega (arith, l) in
    (omega (arith, e), ap (first_with (count - (counter + 1))) e ∙ ap (λ n. first_with n first) (sym step) ∙ h)
