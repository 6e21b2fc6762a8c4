-- Languages one behind another: regrouping them, and the first byte of a text.
use Rattle.std.proofs.Common.{◌≡◌, ℕ, suc, ◌+◌, ◌⊎◌, inl, inr, List, [], ◌∷◌, ◌++◌, length, refl, sym, ap, ◌∙◌, subst, arith, append_assoc, length-append, add-zero}
use Rattle.jl_model.specs.declared.tokens.Token.{Token}
use Rattle.jl_model.specs.JsonText.{Then, Sign, Blanks, IsBlank}
use Rattle.jl_token.proofs.Heads.{head_is, tail_is}

-- the same text at the same place
pub same : (K : ℕ → List Token → List ℕ → Type 0) {at place : ℕ} {us vs : List Token} {t u : List ℕ} → at ≡ place → us ≡ vs → t ≡ u → K at us t → K place vs u
same K {at} {place} {us} {vs} {t} {u} p q r k = subst (λ x. K place vs x) r (subst (λ x. K place x t) q (subst (λ x. K x us t) p k))

pub joined : (P Q : ℕ → List Token → List ℕ → Type 0) {at : ℕ} {us vs : List Token} {t u : List ℕ} → P at us t → Q (at + length t) vs u → Then P Q at (us ++ vs) (t ++ u)
joined P Q {at} {us} {vs} {t} {u} p q = record { front_tokens = us; back_tokens = vs; front = t; back = u; tokens_are = refl; text_is = refl; in_first = p; in_second = q }

pub map_second : {P Q R : ℕ → List Token → List ℕ → Type 0} → ((at : ℕ) (us : List Token) (t : List ℕ) → Q at us t → R at us t) → {at : ℕ} {us : List Token} {t : List ℕ} → Then P Q at us t → Then P R at us t
map_second f h = record { front_tokens = h.front_tokens; back_tokens = h.back_tokens; front = h.front; back = h.back; tokens_are = h.tokens_are; text_is = h.text_is; in_first = h.in_first; in_second = f _ _ _ h.in_second }

pub map_first : {P Q R : ℕ → List Token → List ℕ → Type 0} → ((at : ℕ) (us : List Token) (t : List ℕ) → P at us t → Q at us t) → {at : ℕ} {us : List Token} {t : List ℕ} → Then P R at us t → Then Q R at us t
map_first f h = record { front_tokens = h.front_tokens; back_tokens = h.back_tokens; front = h.front; back = h.back; tokens_are = h.tokens_are; text_is = h.text_is; in_first = f _ _ _ h.in_first; in_second = h.in_second }

pub to_right : {P Q R : ℕ → List Token → List ℕ → Type 0} {at : ℕ} {us : List Token} {t : List ℕ} → Then (Then P Q) R at us t → Then P (Then Q R) at us t
to_right {P} {Q} {R} {at} {us} {t} h =
    let i = h.in_first in
    record {
      front_tokens = i.front_tokens;
      back_tokens = i.back_tokens ++ h.back_tokens;
      front = i.front;
      back = i.back ++ h.back;
      tokens_are = h.tokens_are ∙ ap (λ x. x ++ h.back_tokens) i.tokens_are ∙ append_assoc i.front_tokens i.back_tokens h.back_tokens;
      text_is = h.text_is ∙ ap (λ x. x ++ h.back) i.text_is ∙ append_assoc i.front i.back h.back;
      in_first = i.in_first;
      in_second = record {
        front_tokens = i.back_tokens;
        back_tokens = h.back_tokens;
        front = i.back;
        back = h.back;
        tokens_are = refl;
        text_is = refl;
        in_first = i.in_second;
        in_second = subst (λ n. R n h.back_tokens h.back) (let e : at + length h.front ≡ at + length i.front + length i.back = omega (arith, ap length i.text_is, length-append i.front i.back) in e) h.in_second;
      };
    }

pub to_left : {P Q R : ℕ → List Token → List ℕ → Type 0} {at : ℕ} {us : List Token} {t : List ℕ} → Then P (Then Q R) at us t → Then (Then P Q) R at us t
to_left {P} {Q} {R} {at} {us} {t} h =
    let i = h.in_second in
    record {
      front_tokens = h.front_tokens ++ i.front_tokens;
      back_tokens = i.back_tokens;
      front = h.front ++ i.front;
      back = i.back;
      tokens_are = h.tokens_are ∙ ap (λ x. h.front_tokens ++ x) i.tokens_are ∙ sym (append_assoc h.front_tokens i.front_tokens i.back_tokens);
      text_is = h.text_is ∙ ap (λ x. h.front ++ x) i.text_is ∙ sym (append_assoc h.front i.front i.back);
      in_first = record {
        front_tokens = h.front_tokens;
        back_tokens = i.front_tokens;
        front = h.front;
        back = i.front;
        tokens_are = refl;
        text_is = refl;
        in_first = h.in_first;
        in_second = i.in_first;
      };
      in_second = subst (λ n. R n i.back_tokens i.back) (let e : at + length h.front + length i.front ≡ at + length (h.front ++ i.front) = omega (arith, length-append h.front i.front) in e) i.in_second;
    }

-- blanks in front
pub no_blank : (K : ℕ → List Token → List ℕ → Type 0) → (at : ℕ) (us : List Token) (t : List ℕ) → K at us t → Then Blanks K at us t
no_blank K at us t k = record {
  front_tokens = [];
  back_tokens = us;
  front = [];
  back = t;
  tokens_are = refl;
  text_is = refl;
  in_first = record { tokens_are = refl; blank = tt };
  in_second = subst (λ n. K n us t) (sym (add-zero at)) k;
}

pub one_blank : (K : ℕ → List Token → List ℕ → Type 0) → (c at : ℕ) (us : List Token) (t : List ℕ) → IsBlank c → Then Blanks K (at + 1) us t → Then Blanks K at us (c ∷ t)
one_blank K c at us t b h = record {
  front_tokens = h.front_tokens;
  back_tokens = h.back_tokens;
  front = c ∷ h.front;
  back = h.back;
  tokens_are = h.tokens_are;
  text_is = ap (λ x. c ∷ x) h.text_is;
  in_first = record { tokens_are = h.in_first.tokens_are; blank = (b, h.in_first.blank) };
  in_second = subst (λ n. K n h.back_tokens h.back) (let e : at + 1 + length h.front ≡ at + suc (length h.front) = omega arith in e) h.in_second;
}

pub blank_or : (K : ℕ → List Token → List ℕ → Type 0) → (c at : ℕ) (us : List Token) (t : List ℕ) → Then Blanks K at us (c ∷ t) → (IsBlank c × Then Blanks K (at + 1) us t) ⊎ K at us (c ∷ t)
blank_or K c at us t h = go h.front h.front_tokens h.text_is h.in_first h.in_second
  where
    go : (f : List ℕ) (fs : List Token) → c ∷ t ≡ f ++ h.back → Blanks at h.front_tokens f → K (at + length f) h.back_tokens h.back → (IsBlank c × Then Blanks K (at + 1) us t) ⊎ K at us (c ∷ t)
    go [] fs e b k = inr (same K (add-zero at) (sym (h.tokens_are ∙ ap (λ x. x ++ h.back_tokens) b.tokens_are)) (sym e) k)
    go (x ∷ xs) fs e b k = inl (
      subst IsBlank (sym (head_is c x t (xs ++ h.back) e)) b.blank.0,
      record {
        front_tokens = [];
        back_tokens = h.back_tokens;
        front = xs;
        back = h.back;
        tokens_are = h.tokens_are ∙ ap (λ x. x ++ h.back_tokens) b.tokens_are;
        text_is = tail_is c x t (xs ++ h.back) e;
        in_first = record { tokens_are = refl; blank = b.blank.1 };
        in_second = subst (λ n. K n h.back_tokens h.back) (let e2 : at + suc (length xs) ≡ at + 1 + length xs = omega arith in e2) k;
      },
    )

-- a sign in front
pub sign_on : (byte : ℕ) (made : ℕ → List Token) (K : ℕ → List Token → List ℕ → Type 0) → (at : ℕ) (us : List Token) (t : List ℕ) → K (at + 1) us t → Then (Sign byte made) K at (made at ++ us) (byte ∷ t)
sign_on byte made K at us t k = record {
  front_tokens = made at;
  back_tokens = us;
  front = byte ∷ [];
  back = t;
  tokens_are = refl;
  text_is = refl;
  in_first = record { tokens_are = refl; text_is = refl };
  in_second = k;
}

-- what stands behind the sign
pub record Behind (byte : ℕ) (made : ℕ → List Token) (K : ℕ → List Token → List ℕ → Type 0) (c at : ℕ) (us : List Token) (t : List ℕ) : Type 0 where
  pub is_sign : c ≡ byte
  pub more : List Token
  pub tokens_are : us ≡ made at ++ more
  pub follows : K (at + 1) more t

pub sign_off : (byte : ℕ) (made : ℕ → List Token) (K : ℕ → List Token → List ℕ → Type 0) → (c at : ℕ) (us : List Token) (t : List ℕ) → Then (Sign byte made) K at us (c ∷ t) → Behind byte made K c at us t
sign_off byte made K c at us t h =
    let e : c ∷ t ≡ byte ∷ h.back = h.text_is ∙ ap (λ x. x ++ h.back) h.in_first.text_is in
    record {
      is_sign = head_is c byte t h.back e;
      more = h.back_tokens;
      tokens_are = h.tokens_are ∙ ap (λ x. x ++ h.back_tokens) h.in_first.tokens_are;
      follows = same K (let n : at + length h.front ≡ at + 1 = ap (λ x. at + length x) h.in_first.text_is in n) refl (sym (tail_is c byte t h.back e)) h.in_second;
    }

abbrev pub with_first : {P Q R : ℕ → List Token → List ℕ → Type 0} {at : ℕ} {us : List Token} {t : List ℕ} → (h : Then P Q at us t) → R at h.front_tokens h.front → Then R Q at us t
with_first h r = record { front_tokens = h.front_tokens; back_tokens = h.back_tokens; front = h.front; back = h.back; tokens_are = h.tokens_are; text_is = h.text_is; in_first = r; in_second = h.in_second }

abbrev pub with_second : {P Q R : ℕ → List Token → List ℕ → Type 0} {at : ℕ} {us : List Token} {t : List ℕ} → (h : Then P Q at us t) → R (at + length h.front) h.back_tokens h.back → Then P R at us t
with_second h r = record { front_tokens = h.front_tokens; back_tokens = h.back_tokens; front = h.front; back = h.back; tokens_are = h.tokens_are; text_is = h.text_is; in_first = h.in_first; in_second = r }

-- regroup longer chains
pub out3 : {A B C K : ℕ → List Token → List ℕ → Type 0} {at : ℕ} {us : List Token} {t : List ℕ} → Then (Then A (Then B C)) K at us t → Then A (Then B (Then C K)) at us t
out3 h = map_second (λ _ _ _ x. to_right x) (to_right h)

pub in3 : {A B C K : ℕ → List Token → List ℕ → Type 0} {at : ℕ} {us : List Token} {t : List ℕ} → Then A (Then B (Then C K)) at us t → Then (Then A (Then B C)) K at us t
in3 h = to_left (map_second (λ _ _ _ x. to_left x) h)

pub out4 : {A B C D K : ℕ → List Token → List ℕ → Type 0} {at : ℕ} {us : List Token} {t : List ℕ} → Then (Then A (Then B (Then C D))) K at us t → Then A (Then B (Then C (Then D K))) at us t
out4 h = map_second (λ _ _ _ x. out3 x) (to_right h)

pub in4 : {A B C D K : ℕ → List Token → List ℕ → Type 0} {at : ℕ} {us : List Token} {t : List ℕ} → Then A (Then B (Then C (Then D K))) at us t → Then (Then A (Then B (Then C D))) K at us t
in4 h = to_left (map_second (λ _ _ _ x. in3 x) h)

pub out5 : {A B C D E K : ℕ → List Token → List ℕ → Type 0} {at : ℕ} {us : List Token} {t : List ℕ} → Then (Then A (Then B (Then C (Then D E)))) K at us t → Then A (Then B (Then C (Then D (Then E K)))) at us t
out5 h = map_second (λ _ _ _ x. out4 x) (to_right h)

pub in5 : {A B C D E K : ℕ → List Token → List ℕ → Type 0} {at : ℕ} {us : List Token} {t : List ℕ} → Then A (Then B (Then C (Then D (Then E K)))) at us t → Then (Then A (Then B (Then C (Then D E)))) K at us t
in5 h = to_left (map_second (λ _ _ _ x. in4 x) h)

pub out6 : {A B C D E F K : ℕ → List Token → List ℕ → Type 0} {at : ℕ} {us : List Token} {t : List ℕ} → Then (Then A (Then B (Then C (Then D (Then E F))))) K at us t → Then A (Then B (Then C (Then D (Then E (Then F K))))) at us t
out6 h = map_second (λ _ _ _ x. out5 x) (to_right h)

pub in6 : {A B C D E F K : ℕ → List Token → List ℕ → Type 0} {at : ℕ} {us : List Token} {t : List ℕ} → Then A (Then B (Then C (Then D (Then E (Then F K))))) at us t → Then (Then A (Then B (Then C (Then D (Then E F))))) K at us t
in6 h = to_left (map_second (λ _ _ _ x. in5 x) h)

pub out7 : {A B C D E F G K : ℕ → List Token → List ℕ → Type 0} {at : ℕ} {us : List Token} {t : List ℕ} → Then (Then A (Then B (Then C (Then D (Then E (Then F G)))))) K at us t → Then A (Then B (Then C (Then D (Then E (Then F (Then G K)))))) at us t
out7 h = map_second (λ _ _ _ x. out6 x) (to_right h)

pub in7 : {A B C D E F G K : ℕ → List Token → List ℕ → Type 0} {at : ℕ} {us : List Token} {t : List ℕ} → Then A (Then B (Then C (Then D (Then E (Then F (Then G K)))))) at us t → Then (Then A (Then B (Then C (Then D (Then E (Then F G)))))) K at us t
in7 h = to_left (map_second (λ _ _ _ x. in6 x) h)

pub out8 : {A B C D E F G H K : ℕ → List Token → List ℕ → Type 0} {at : ℕ} {us : List Token} {t : List ℕ} → Then (Then A (Then B (Then C (Then D (Then E (Then F (Then G H))))))) K at us t → Then A (Then B (Then C (Then D (Then E (Then F (Then G (Then H K))))))) at us t
out8 h = map_second (λ _ _ _ x. out7 x) (to_right h)

pub in8 : {A B C D E F G H K : ℕ → List Token → List ℕ → Type 0} {at : ℕ} {us : List Token} {t : List ℕ} → Then A (Then B (Then C (Then D (Then E (Then F (Then G (Then H K))))))) at us t → Then (Then A (Then B (Then C (Then D (Then E (Then F (Then G H))))))) K at us t
in8 h = to_left (map_second (λ _ _ _ x. in7 x) h)

pub out9 : {A B C D E F G H I K : ℕ → List Token → List ℕ → Type 0} {at : ℕ} {us : List Token} {t : List ℕ} → Then (Then A (Then B (Then C (Then D (Then E (Then F (Then G (Then H I)))))))) K at us t → Then A (Then B (Then C (Then D (Then E (Then F (Then G (Then H (Then I K)))))))) at us t
out9 h = map_second (λ _ _ _ x. out8 x) (to_right h)

pub in9 : {A B C D E F G H I K : ℕ → List Token → List ℕ → Type 0} {at : ℕ} {us : List Token} {t : List ℕ} → Then A (Then B (Then C (Then D (Then E (Then F (Then G (Then H (Then I K)))))))) at us t → Then (Then A (Then B (Then C (Then D (Then E (Then F (Then G (Then H I)))))))) K at us t
in9 h = to_left (map_second (λ _ _ _ x. in8 x) h)

-- ---- a token of which more bytes may come

-- a text whose first byte is in its first part, or whose first part is empty
pub data Split (P Q : ℕ → List Token → List ℕ → Type 0) (c at : ℕ) (us : List Token) (r : List ℕ) : Type 0 where
  empty : (fs bs : List Token) → us ≡ fs ++ bs → P at fs [] → Q at bs (c ∷ r) → Split P Q c at us r
  more : (fs bs : List Token) (g b : List ℕ) → us ≡ fs ++ bs → r ≡ g ++ b → P at fs (c ∷ g) → Q (at + 1 + length g) bs b → Split P Q c at us r

pub split : (P Q : ℕ → List Token → List ℕ → Type 0) (c at : ℕ) (us : List Token) (r : List ℕ) → Then P Q at us (c ∷ r) → Split P Q c at us r
split P Q c at us r h = go h.front h.text_is h.in_first h.in_second
  where
    go : (f : List ℕ) → c ∷ r ≡ f ++ h.back → P at h.front_tokens f → Q (at + length f) h.back_tokens h.back → Split P Q c at us r
    go [] e p q = empty h.front_tokens h.back_tokens h.tokens_are p (same Q (add-zero at) refl (sym e) q)
    go (d ∷ g) e p q = more h.front_tokens h.back_tokens g h.back h.tokens_are (tail_is c d r (g ++ h.back) e) (subst (λ x. P at h.front_tokens (x ∷ g)) (sym (head_is c d r (g ++ h.back) e)) p) (subst (λ n. Q n h.back_tokens h.back) (let n : at + suc (length g) ≡ at + 1 + length g = omega arith in n) q)

-- the rest of the token, and then what follows
pub then_rest : (P Q : ℕ → List Token → List ℕ → Type 0) (at : ℕ) (us fs bs : List Token) (r g b : List ℕ) → us ≡ fs ++ bs → r ≡ g ++ b → P (at + 1) fs g → Q (at + 1 + length g) bs b → Then P Q (at + 1) us r
then_rest P Q at us fs bs r g b e t p q = record { front_tokens = fs; back_tokens = bs; front = g; back = b; tokens_are = e; text_is = t; in_first = p; in_second = q }

-- a token that ends with the byte
pub then_ended : (Q : ℕ → List Token → List ℕ → Type 0) (at : ℕ) (bs : List Token) (r g b : List ℕ) → g ≡ [] → r ≡ g ++ b → Q (at + 1 + length g) bs b → Q (at + 1) bs r
then_ended Q at bs r g b e t q = same Q (let n : at + 1 + length g ≡ at + 1 = ap (λ x. at + 1 + length x) e ∙ add-zero (at + 1) in n) refl (sym (t ∙ ap (λ x. x ++ b) e)) q

-- one byte in front of the rest of a token
pub one_more : (P R Q : ℕ → List Token → List ℕ → Type 0) (c at : ℕ) (us : List Token) (r : List ℕ) → ((fs : List Token) (g : List ℕ) → P (at + 1) fs g → R at fs (c ∷ g)) → Then P Q (at + 1) us r → Then R Q at us (c ∷ r)
one_more P R Q c at us r f h = record { front_tokens = h.front_tokens; back_tokens = h.back_tokens; front = c ∷ h.front; back = h.back; tokens_are = h.tokens_are; text_is = ap (λ x. c ∷ x) h.text_is; in_first = f _ _ h.in_first; in_second = subst (λ n. Q n h.back_tokens h.back) (let n : at + 1 + length h.front ≡ at + suc (length h.front) = omega arith in n) h.in_second }

-- a token that is the byte
pub one_only : (R Q : ℕ → List Token → List ℕ → Type 0) (c at : ℕ) (fs us : List Token) (r : List ℕ) → R at fs (c ∷ []) → Q (at + 1) us r → Then R Q at (fs ++ us) (c ∷ r)
one_only R Q c at fs us r p q = record { front_tokens = fs; back_tokens = us; front = c ∷ []; back = r; tokens_are = refl; text_is = refl; in_first = p; in_second = q }

-- a token that ended before the byte
pub none_more : (R Q : ℕ → List Token → List ℕ → Type 0) (at : ℕ) (fs us : List Token) (r : List ℕ) → R at fs [] → Q at us r → Then R Q at (fs ++ us) r
none_more R Q at fs us r p q = record { front_tokens = fs; back_tokens = us; front = []; back = r; tokens_are = refl; text_is = refl; in_first = p; in_second = subst (λ n. Q n us r) (sym (add-zero at)) q }
