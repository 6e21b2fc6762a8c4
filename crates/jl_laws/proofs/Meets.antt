-- Two texts of which one begins as the other: what stands at the front of both is the same, and so what is left meets too.
use Rattle.std.proofs.Common.{◌≡◌, ℕ, ◌+◌, Bool, List, [], ◌∷◌, ◌++◌, length, refl, sym, ap, ◌∙◌, subst, arith, append_assoc, append-nil, length-append}
use Rattle.std.proofs.lemmas.List.{append_cancel_left}
use Rattle.std.specs.List.{AllByRecursion}
use Rattle.jl_model.specs.declared.tokens.Token.{Token}
use Rattle.jl_model.specs.JsonText.{Then, Sign, Blanks, IsBlank, KeyText, Inside}
use Rattle.jl_defs.specs.OpenText.{Language}
use Rattle.jl_model.proofs.SameStrings.{head-is, tail-is, strings-same}
use Rattle.jl_laws.proofs.SameScalars.{First, firsts-meet}

-- a text of the one language, and a text of the other that goes on from it by `rest`
pub record Meet (L M : Language) (rest : List ℕ) (at : ℕ) : Type 0 where
  pub us : List Token
  pub vs : List Token
  pub text : List ℕ
  pub whole : List ℕ
  pub goes_on : text ++ rest ≡ whole
  pub left : L at us text
  pub right : M at vs whole

-- the same behind what has been read of both
abbrev pub Further : Language → Language → List ℕ → Type 0
Further L M rest = (at : ℕ) × Meet L M rest at

-- each text of the language begins with a byte of this kind
abbrev pub Starts : (ℕ → Type 0) → Language → Type 0
Starts P L = (at : ℕ) (us : List Token) (t : List ℕ) → L at us t → First P t

abbrev pub Solid : ℕ → Type 0
Solid c = IsBlank c → ⊥

-- ---- languages

pub map-second : (P Q R : Language) → ((at : ℕ) (us : List Token) (t : List ℕ) → Q at us t → R at us t) → (at : ℕ) (us : List Token) (t : List ℕ) → Then P Q at us t → Then P R at us t
map-second P Q R f at us t h = record { front_tokens = h.front_tokens; back_tokens = h.back_tokens; front = h.front; back = h.back; tokens_are = h.tokens_are; text_is = h.text_is; in_first = h.in_first; in_second = f (at + length h.front) h.back_tokens h.back h.in_second }

pub to-right : (P Q R : Language) (at : ℕ) (us : List Token) (t : List ℕ) → Then (Then P Q) R at us t → Then P (Then Q R) at us t
to-right P Q R at us t h =
    let i = h.in_first in
    record {
      front_tokens = i.front_tokens;
      back_tokens = i.back_tokens ++ h.back_tokens;
      front = i.front;
      back = i.back ++ h.back;
      tokens_are = h.tokens_are ∙ ap (λ x. x ++ h.back_tokens) i.tokens_are ∙ append_assoc i.front_tokens i.back_tokens h.back_tokens;
      text_is = h.text_is ∙ ap (λ x. x ++ h.back) i.text_is ∙ append_assoc i.front i.back h.back;
      in_first = i.in_first;
      in_second = record {
        front_tokens = i.back_tokens;
        back_tokens = h.back_tokens;
        front = i.back;
        back = h.back;
        tokens_are = refl;
        text_is = refl;
        in_first = i.in_second;
        in_second = subst (λ n. R n h.back_tokens h.back) (let e : at + length h.front ≡ at + length i.front + length i.back = omega (arith, ap length i.text_is, length-append i.front i.back) in e) h.in_second;
      };
    }

-- ---- first bytes

first-then : (P : ℕ → Type 0) (x y : List ℕ) → First P x → First P (x ++ y)
first-then P [] y f = absurd f
first-then P (c ∷ x) y f = f

pub first-on : (P Q : ℕ → Type 0) (x : List ℕ) → ((c : ℕ) → P c → Q c) → First P x → First Q x
first-on P Q [] g f = f
first-on P Q (c ∷ x) g f = g c f

pub then-starts : (P : ℕ → Type 0) (L M : Language) → Starts P L → Starts P (Then L M)
then-starts P L M f at us t h = subst (First P) (sym h.text_is) (first-then P h.front h.back (f at h.front_tokens h.front h.in_first))

pub sign-starts : (byte : ℕ) (made : ℕ → List Token) → Starts (λ c. c ≡ byte) (Sign byte made)
sign-starts byte made at us t h = subst (First (λ c. c ≡ byte)) (sym h.text_is) refl

pub key-starts : (once : Bool) (had : List (List ℕ)) (place : ℕ) (name : List ℕ) → Starts (λ c. c ≡ 34) (KeyText once had place name)
key-starts once had place name at us t h = subst (First (λ c. c ≡ 34)) (sym h.spelled.1) refl

pub starts-on : (P Q : ℕ → Type 0) (L : Language) → ((c : ℕ) → P c → Q c) → Starts P L → Starts Q L
starts-on P Q L g f at us t h = first-on P Q t g (f at us t h)

-- blanks, and what begins with such a byte
blanks-first : (P : ℕ → Type 0) (x y : List ℕ) → ((c : ℕ) → IsBlank c → P c) → AllByRecursion IsBlank x → First P y → First P (x ++ y)
blanks-first P [] y g b f = f
blanks-first P (c ∷ x) y g b f = g c b.0

pub blanks-starts : (P : ℕ → Type 0) (L : Language) → ((c : ℕ) → IsBlank c → P c) → Starts P L → Starts P (Then Blanks L)
blanks-starts P L g f at us t h =
    subst (First P) (sym h.text_is) (blanks-first P h.front h.back g h.in_first.blank (f (at + length h.front) h.back_tokens h.back h.in_second))

-- what both begin with
pub clash : (P Q : ℕ → Type 0) (L M : Language) (rest : List ℕ) (at : ℕ) → Starts P L → Starts Q M → Meet L M rest at → (c : ℕ) × P c × Q c
clash P Q L M rest at f g m = firsts-meet P Q m.text m.whole rest [] (f at m.us m.text m.left) (g at m.vs m.whole m.right) (m.goes_on ∙ sym (append-nil m.whole))

-- ---- steps

pub map-left : (L N M : Language) (rest : List ℕ) (at : ℕ) → ((us : List Token) (t : List ℕ) → L at us t → N at us t) → Meet L M rest at → Meet N M rest at
map-left L N M rest at f m = record { us = m.us; vs = m.vs; text = m.text; whole = m.whole; goes_on = m.goes_on; left = f m.us m.text m.left; right = m.right }

pub map-right : (L M N : Language) (rest : List ℕ) (at : ℕ) → ((vs : List Token) (t : List ℕ) → M at vs t → N at vs t) → Meet L M rest at → Meet L N rest at
map-right L M N rest at f m = record { us = m.us; vs = m.vs; text = m.text; whole = m.whole; goes_on = m.goes_on; left = m.left; right = f m.vs m.whole m.right }

-- the texts, parted at the front
pub parted : (A B L M : Language) (rest : List ℕ) (at : ℕ) → (m : Meet (Then A L) (Then B M) rest at) → m.left.front ++ (m.left.back ++ rest) ≡ m.right.front ++ m.right.back
parted A B L M rest at m = sym (append_assoc m.left.front m.left.back rest) ∙ ap (λ x. x ++ rest) (sym m.left.text_is) ∙ m.goes_on ∙ m.right.text_is

-- behind two fronts that are the same
pub behind : (A B L M : Language) (rest : List ℕ) (at : ℕ) → (m : Meet (Then A L) (Then B M) rest at) → m.left.front ≡ m.right.front → Meet L M rest (at + length m.left.front)
behind A B L M rest at m e = record {
  us = m.left.back_tokens;
  vs = m.right.back_tokens;
  text = m.left.back;
  whole = m.right.back;
  goes_on = append_cancel_left m.right.front (m.left.back ++ rest) m.right.back (ap (λ x. x ++ (m.left.back ++ rest)) (sym e) ∙ parted A B L M rest at m);
  left = m.left.in_second;
  right = subst (λ x. M (at + length x) m.right.back_tokens m.right.back) (sym e) m.right.in_second;
}

blanks-same : (b c x y : List ℕ) → AllByRecursion IsBlank b → AllByRecursion IsBlank c → First Solid x → First Solid y → b ++ x ≡ c ++ y → b ≡ c
blanks-same [] [] x y f g s o e = refl
blanks-same [] (d ∷ c) x y f g s o e = absurd (subst (First Solid) e s g.0)
blanks-same (d ∷ b) [] x y f g s o e = absurd (subst (First Solid) (sym e) o f.0)
blanks-same (d ∷ b) (d' ∷ c) x y f g s o e =
    ap (λ z. z ∷ b) (head-is d d' (b ++ x) (c ++ y) e) ∙ ap (λ z. d' ∷ z) (blanks-same b c x y f.1 g.1 s o (tail-is d d' (b ++ x) (c ++ y) e))

pub past-blanks : (L M : Language) (rest : List ℕ) (at : ℕ) → Starts Solid L → Starts Solid M → Meet (Then Blanks L) (Then Blanks M) rest at → Further L M rest
past-blanks L M rest at f g m =
    let l = m.left in
    let r = m.right in
    let e = blanks-same l.front r.front (l.back ++ rest) r.back l.in_first.blank r.in_first.blank
    (first-then Solid l.back rest (f (at + length l.front) l.back_tokens l.back l.in_second))
    (g (at + length r.front) r.back_tokens r.back r.in_second)
    (parted Blanks Blanks L M rest at m) in
    (at + length l.front, behind Blanks Blanks L M rest at m e)

pub past-sign : (b c : ℕ) (f g : ℕ → List Token) (L M : Language) (rest : List ℕ) (at : ℕ) → Meet (Then (Sign b f) L) (Then (Sign c g) M) rest at → (b ≡ c) × Further L M rest
past-sign b c f g L M rest at m =
    let l = m.left in
    let r = m.right in
    let e : b ∷ (l.back ++ rest) ≡ c ∷ r.back = ap (λ x. x ++ (l.back ++ rest)) (sym l.in_first.text_is) ∙ parted (Sign b f) (Sign c g) L M rest at m ∙ ap (λ x. x ++ r.back) r.in_first.text_is in
    let i = head-is b c (l.back ++ rest) r.back e in
    (i, (at + length l.front, behind (Sign b f) (Sign c g) L M rest at m (l.in_first.text_is ∙ ap (λ x. x ∷ []) i ∙ sym r.in_first.text_is)))

pub past-key : (o o' : Bool) (had had' : List (List ℕ)) (place place' : ℕ) (name name' : List ℕ) (L M : Language) (rest : List ℕ) (at : ℕ) →
    Meet (Then (KeyText o had place name) L) (Then (KeyText o' had' place' name') M) rest at → (place ≡ place') × (name ≡ name') × Further L M rest
past-key o o' had had' place place' name name' L M rest at m =
    let A = KeyText o had place name in
    let B = KeyText o' had' place' name' in
    let l = m.left in
    let r = m.right in
    let s = strings-same name name' l.front r.front (l.back ++ rest) r.back l.in_first.spelled r.in_first.spelled (parted A B L M rest at m) in
    (l.in_first.place_is ∙ sym r.in_first.place_is, s.0, (at + length l.front, behind A B L M rest at m s.1))

-- a sign behind blanks
pub blank-sign : (b c : ℕ) (f g : ℕ → List Token) (L M : Language) (rest : List ℕ) (at : ℕ) → Solid b → Solid c → Meet (Then Blanks (Then (Sign b f) L)) (Then Blanks (Then (Sign c g) M)) rest at → (b ≡ c) × Further L M rest
blank-sign b c f g L M rest at s o m =
    let A = Then (Sign b f) L in
    let B = Then (Sign c g) M in
    let n = past-blanks A B rest at
    (then-starts Solid (Sign b f) L (starts-on (λ x. x ≡ b) Solid (Sign b f) (λ x e. subst Solid (sym e) s) (sign-starts b f)))
    (then-starts Solid (Sign c g) M (starts-on (λ x. x ≡ c) Solid (Sign c g) (λ x e. subst Solid (sym e) o) (sign-starts c g))) m in
    past-sign b c f g L M rest n.0 n.1

pub solid-quote : (c : ℕ) → c ≡ 34 → Solid c
solid-quote c e b = grind arith

-- regrouped on both sides
pub regroup : (A B L C D M : Language) (rest : List ℕ) (at : ℕ) → Meet (Then (Then A B) L) (Then (Then C D) M) rest at → Meet (Then A (Then B L)) (Then C (Then D M)) rest at
regroup A B L C D M rest at m =
    map-left (Then (Then A B) L) (Then A (Then B L)) (Then C (Then D M)) rest at (to-right A B L at)
    (map-right (Then (Then A B) L) (Then (Then C D) M) (Then C (Then D M)) rest at (to-right C D M at) m)

pub regroup-right : (L C D M : Language) (rest : List ℕ) (at : ℕ) → Meet L (Then (Then C D) M) rest at → Meet L (Then C (Then D M)) rest at
regroup-right L C D M rest at m = map-right L (Then (Then C D) M) (Then C (Then D M)) rest at (to-right C D M at) m

-- the first bytes behind blanks
pub heads : (P Q : ℕ → Type 0) (L M : Language) (rest : List ℕ) (at : ℕ) → ((c : ℕ) → P c → Solid c) → ((c : ℕ) → Q c → Solid c) → Starts P L → Starts Q M → Meet (Then Blanks L) (Then Blanks M) rest at → (c : ℕ) × P c × Q c
heads P Q L M rest at f g s o m =
    let n = past-blanks L M rest at (starts-on P Solid L f s) (starts-on Q Solid M g o) m in
    clash P Q L M rest n.0 s o n.1

-- inside of a container
pub inside-left : (room place : ℕ) (W : ℕ → Language) (M : Language) (rest : List ℕ) (at : ℕ) → Meet (Inside room place W) M rest at → (place ≡ at) × ((n : ℕ) × Meet (W n) M rest at)
inside-left room place W M rest at m =
    (m.left.place_is, (m.left.left, record { us = m.us; vs = m.vs; text = m.text; whole = m.whole; goes_on = m.goes_on; left = m.left.spelled; right = m.right }))

into : (room place : ℕ) (W : ℕ → Language) (L : Language) (at : ℕ) (us : List Token) (t : List ℕ) → (h : Then (Inside room place W) L at us t) → Then (W h.in_first.left) L at us t
into room place W L at us t h = record { front_tokens = h.front_tokens; back_tokens = h.back_tokens; front = h.front; back = h.back; tokens_are = h.tokens_are; text_is = h.text_is; in_first = h.in_first.spelled; in_second = h.in_second }

pub inside-left-then : (room place : ℕ) (W : ℕ → Language) (L M : Language) (rest : List ℕ) (at : ℕ) → Meet (Then (Inside room place W) L) M rest at → (place ≡ at) × ((n : ℕ) × Meet (Then (W n) L) M rest at)
inside-left-then room place W L M rest at m =
    (m.left.in_first.place_is, (m.left.in_first.left, record { us = m.us; vs = m.vs; text = m.text; whole = m.whole; goes_on = m.goes_on; left = into room place W L at m.us m.text m.left; right = m.right }))

pub inside-right-then : (room place : ℕ) (W : ℕ → Language) (L M : Language) (rest : List ℕ) (at : ℕ) → Meet L (Then (Inside room place W) M) rest at → (place ≡ at) × ((n : ℕ) × Meet L (Then (W n) M) rest at)
inside-right-then room place W L M rest at m =
    (m.right.in_first.place_is, (m.right.in_first.left, record { us = m.us; vs = m.vs; text = m.text; whole = m.whole; goes_on = m.goes_on; left = m.left; right = into room place W M at m.vs m.whole m.right }))
