-- Texts that are put one after another.
use Rattle.std.proofs.Common.{◌≡◌, ℕ, ◌+◌, ◌-◌, ◌<◌, List, ◌++◌, [], take, drop, length, Option, Some, None, refl, sym, ap, ◌∙◌, subst, arith, append_assoc, append-nil, length-append, length-drop}
use Rattle.std.proofs.lemmas.List.{take-append-drop, take_all}
use Rattle.std.proofs.Math.Seq.{take-add}
use Rattle.jl_io.specs.Outside.{appended}
use Rattle.jl_io.specs.Puts.{PutsFront}

pub appended-appended : (told : Option (List ℕ)) (a b : List ℕ) → appended (appended told a) b ≡ appended told (a ++ b)
appended-appended None a b = refl
appended-appended (Some t) a b = ap Some (append_assoc t a b)

pub appended-nil : (told : Option (List ℕ)) → appended told [] ≡ told
appended-nil None = refl
appended-nil (Some t) = ap Some (append-nil t)

pub appended_piece : (told : Option (List ℕ)) (bytes : List ℕ) (at n : ℕ) → appended (appended told (take at bytes)) (take n (drop at bytes)) ≡ appended told (take (at + n) bytes)
appended_piece told bytes at n = appended-appended told (take at bytes) (take n (drop at bytes)) ∙ ap (λ b. appended told b) (sym (take-add at n bytes))

-- both texts were put
pub put_then : (w0 w1 w2 : Option (List ℕ)) (a b : List ℕ) → w1 ≡ appended w0 a → w2 ≡ appended w1 b → w2 ≡ appended w0 (a ++ b)
put_then w0 w1 w2 a b h k = k ∙ ap (λ w. appended w b) h ∙ appended-appended w0 a b

-- the first text was cut
pub cut_first : (w0 w1 : Option (List ℕ)) (a b : List ℕ) → PutsFront w0 a w1 → PutsFront w0 (a ++ b) w1
cut_first w0 w1 a b h =
    let longer : length (h.back ++ b) ≡ length h.back + length b = length-append h.back b in
    let some : 0 < length h.back = h.some_left in
    record { front = h.front; back = h.back ++ b; text_is = ap (λ t. t ++ b) h.text_is ∙ append_assoc h.front h.back b; some_left = omega arith; put = h.put }

-- the first text was put, and the second was cut
pub cut_then : (w0 w1 w2 : Option (List ℕ)) (a b : List ℕ) → w1 ≡ appended w0 a → PutsFront w1 b w2 → PutsFront w0 (a ++ b) w2
cut_then w0 w1 w2 a b h k =
    record { front = a ++ k.front; back = k.back; text_is = ap (λ t. a ++ t) k.text_is ∙ sym (append_assoc a k.front k.back); some_left = k.some_left; put = put_then w0 w1 w2 a k.front h k.put }

-- the rest of the bytes, as a slice of them
pub rest_of : (bytes : List ℕ) (n : ℕ) → take (length bytes - n) (drop n bytes) ≡ drop n bytes
rest_of bytes n = take_all (length bytes - n) (drop n bytes) (omega (arith, length-drop n bytes))

-- a front of the bytes was put, and the rest of them was cut
pub rest_cut : (w0 w1 w2 : Option (List ℕ)) (bytes : List ℕ) (n : ℕ) → w1 ≡ appended w0 (take n bytes) → PutsFront w1 (take (length bytes - n) (drop n bytes)) w2 → PutsFront w0 bytes w2
rest_cut w0 w1 w2 bytes n h k =
    subst (λ t. PutsFront w0 t w2) (take-append-drop n bytes) (cut_then w0 w1 w2 (take n bytes) (drop n bytes) h (subst (λ t. PutsFront w1 t w2) (rest_of bytes n) k))
