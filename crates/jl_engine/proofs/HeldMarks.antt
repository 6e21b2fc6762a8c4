-- Events that are held, as marks and texts, and quads that are held as their objects.
use Rattle.std.proofs.Common.{◌≡◌, ℕ, suc, ◌+◌, ◌-◌, ◌<◌, ◌≤◌, true, false, List, [], ◌∷◌, ◌++◌, length, take, drop, get_or, Ok, refl, sym, ap, subst, ◌∙◌, arith, length-drop, drop-cons}
use Rattle.std.proofs.lemmas.List.{take-append-le, drop-append-le, take_all}
use Rattle.jl_model.specs.Parts.{Parts, IsObject, with_object}
use Rattle.jl_model.specs.declared.terms.Term.TheVariants.{Iri}
use Rattle.jl_defs.specs.Context.{Context}
use Rattle.jl_defs.specs.Texts.{Text}
use Rattle.jl_frames.specs.Answers.{HasCause}
use Rattle.jl_frames.specs.declared.states.FrameStop.{FrameStop}
use Rattle.jl_engine.specs.Leads.{is_empty}
use Rattle.jl_engine.specs.Marks.{HaveObjects, all_of, at_of, cut, event_at, event_by, itself, len_of, marked, refilled, text_len, with_iri}
use Rattle.jl_engine.specs.Reading.{before, at_step, replay}
use Rattle.jl_engine.specs.declared.events.Event.{Event}
use Rattle.jl_engine.specs.declared.marks.Mark.{Mark}
use Rattle.jl_engine.specs.declared.marks.MarkKind.{MarkKind}
use Rattle.jl_engine.specs.declared.readers.Reader.{Reader}
use Rattle.jl_engine.proofs.Lists.{nothing_left}
use Rattle.jl_engine.proofs.Readings.{replay_more, replay_stops}

drop_len : (n rest : ℕ) (bytes : Text) → n + rest ≡ length bytes → rest ≡ length (drop n bytes)
drop_len n rest bytes e = let d : length (drop n bytes) ≡ length bytes - n = length-drop n bytes in omega (arith, d, e)

-- one more item, with its text
cut_more : {X Y : Type 0} (size : X → ℕ) (make : X → Text → Y) (xs : List X) (x : X) (bytes text : Text) → text_len size xs ≡ length bytes → size x ≡ length text →
    cut size make (xs ++ x ∷ []) (bytes ++ text) ≡ cut size make xs bytes ++ make x text ∷ []
cut_more size make [] x [] text e same = ap (λ t. make x t ∷ []) (take_all (size x) text (let l : length text ≤ size x = omega (arith, same) in l))
cut_more size make [] x (b ∷ bytes) text e same = absurd (omega (arith, e))
cut_more size make (y ∷ ys) x bytes text e same =
    let within : size y ≤ length bytes = omega (arith, e) in
    ap (λ t. make y t ∷ cut size make (ys ++ x ∷ []) (drop (size y) (bytes ++ text))) (take-append-le (size y) bytes text within)
    ∙ ap (λ b. make y (take (size y) bytes) ∷ cut size make (ys ++ x ∷ []) b) (drop-append-le (size y) bytes text within)
    ∙ ap (λ es. make y (take (size y) bytes) ∷ es) (cut_more size make ys x (drop (size y) bytes) text (drop_len (size y) (text_len size ys) bytes e) same)

-- a mark of this kind, at this place
pub marked_with : (ms : List Mark) (m : Mark) (kind : MarkKind) (at : ℕ) (bytes text : Text) → text_len len_of ms ≡ length bytes → m.kind ≡ kind → at_of m ≡ at → len_of m ≡ length text →
    marked (ms ++ m ∷ []) (bytes ++ text) ≡ marked ms bytes ++ event_by kind at text ∷ []
marked_with ms m kind at bytes text e k a same =
    cut_more len_of event_at ms m bytes text e same ∙ ap (λ x. marked ms bytes ++ event_by x (at_of m) text ∷ []) k ∙ ap (λ x. marked ms bytes ++ event_by kind x text ∷ []) a

-- a quad that differs from this one in its object alone
pub refilled_with : (q p : Parts) (sizes : List ℕ) (n : ℕ) (bytes text : Text) → text_len itself sizes ≡ length bytes → n ≡ length text → p ≡ with_object q p.object → p.object ≡ Iri text →
    refilled q (sizes ++ n ∷ []) (bytes ++ text) ≡ refilled q sizes bytes ++ p ∷ []
refilled_with q p sizes n bytes text e same alike object =
    cut_more itself (with_iri q) sizes n bytes text e same ∙ ap (λ o. refilled q sizes bytes ++ with_object q o ∷ []) (sym object) ∙ ap (λ x. refilled q sizes bytes ++ x ∷ []) (sym alike)

pub objects_with : (qs : List Parts) (p : Parts) → HaveObjects qs → IsObject p.object → HaveObjects (qs ++ p ∷ [])
objects_with [] p h o = (o, tt)
objects_with (q ∷ qs) p h o = (h.0, objects_with qs p h.1 o)

pub text_len_more : {X : Type 0} (size : X → ℕ) (xs : List X) (x : X) → text_len size (xs ++ x ∷ []) ≡ text_len size xs + size x
text_len_more size [] x = omega arith
text_len_more size (y ∷ ys) x = let e : text_len size (ys ++ x ∷ []) ≡ text_len size ys + size x = text_len_more size ys x in omega (arith, e)

pub empty_marked : (ms : List Mark) (bytes : Text) → is_empty (marked ms bytes) ≡ is_empty ms
empty_marked [] bytes = refl
empty_marked (m ∷ ms) bytes = refl

not_empty : (es : List Event) (f : Event) (fs : List Event) → false ≡ is_empty (es ++ f ∷ fs)
not_empty [] f fs = refl
not_empty (e ∷ es) f fs = refl

-- runs before a run are empty where it is
pub empty_joined : (full : List (List Event)) (last : List Event) → (last ≡ [] → full ≡ []) → is_empty last ≡ is_empty (all_of full ++ last)
empty_joined full [] h = ap (λ xs. is_empty (all_of xs ++ [])) (sym (h refl))
empty_joined full (e ∷ es) h = not_empty (all_of full) e es

pub none_first : (first : List Parts) (others : List (List Parts)) → (first ≡ [] → others ≡ []) → first ≡ [] → first ++ all_of others ≡ []
none_first first others h e = ap (λ xs. xs ++ all_of others) e ∙ ap all_of (h e)

-- some quads have a first one
pub not_first : (first : List Parts) (others : List (List Parts)) → (first ++ all_of others ≡ [] → ⊥) → (first ≡ [] → others ≡ []) → first ≡ [] → ⊥
not_first first others some h e = some (none_first first others h e)

drop_more : {X : Type 0} (xs : List X) (i : ℕ) (none : X) → i < length xs → drop i xs ≡ get_or xs i none ∷ drop (i + 1) xs
drop_more xs i none within = drop-cons xs i none within ∙ ap (λ n. get_or xs i none ∷ drop n xs) (let e : suc i ≡ i + 1 = omega arith in e)

pub item_more : {X : Type 0} (xs : List X) (i : ℕ) (x : X) → i < length xs → x ≡ get_or xs i x → drop i xs ≡ x ∷ drop (i + 1) xs
item_more xs i x within e = drop_more xs i x within ∙ ap (λ y. y ∷ drop (i + 1) xs) (sym e)

-- what is made of the item at an index, and of those behind it
first_cut : {X Y : Type 0} (size : X → ℕ) (make : X → Text → Y) (xs : List X) (i : ℕ) (none : X) (rest text more : Text) → i < length xs →
    text ≡ take (size (get_or xs i none)) rest → more ≡ drop (size (get_or xs i none)) rest → cut size make (drop i xs) rest ≡ make (get_or xs i none) text ∷ cut size make (drop (i + 1) xs) more
first_cut size make xs i none rest text more within t m =
    ap (λ ys. cut size make ys rest) (drop_more xs i none within)
    ∙ ap (λ x. make (get_or xs i none) x ∷ cut size make (drop (i + 1) xs) (drop (size (get_or xs i none)) rest)) (sym t)
    ∙ ap (λ x. make (get_or xs i none) text ∷ cut size make (drop (i + 1) xs) x) (sym m)

pub first_refilled : (q : Parts) (sizes : List ℕ) (i n : ℕ) (rest text more : Text) → i < length sizes → n ≡ get_or sizes i 0 → text ≡ take n rest → more ≡ drop n rest →
    refilled q (drop i sizes) rest ≡ with_object q (Iri text) ∷ refilled q (drop (i + 1) sizes) more
first_refilled q sizes i n rest text more within e t m = first_cut itself (with_iri q) sizes i 0 rest text more within (t ∙ ap (λ k. take k rest) e) (m ∙ ap (λ k. drop k rest) e)

first_marked : (ms : List Mark) (i : ℕ) (none : Mark) (rest text more : Text) (e : Event) → i < length ms →
    text ≡ take (len_of (get_or ms i none)) rest → more ≡ drop (len_of (get_or ms i none)) rest → e ≡ event_at (get_or ms i none) text →
    marked (drop i ms) rest ≡ e ∷ marked (drop (i + 1) ms) more
first_marked ms i none rest text more e within t m same = first_cut len_of event_at ms i none rest text more within t m ∙ ap (λ x. x ∷ marked (drop (i + 1) ms) more) (sym same)

pub told_more : (c : Context) (ms : List Mark) (i : ℕ) (none : Mark) (rest text more : Text) (e : Event) (quads next : List Parts) (r new : Reader) → i < length ms →
    text ≡ take (len_of (get_or ms i none)) rest → more ≡ drop (len_of (get_or ms i none)) rest → e ≡ event_by (get_or ms i none).kind (at_of (get_or ms i none)) text →
    before quads (at_step c true e r) ≡ Ok (next, new) → before quads (replay c (marked (drop i ms) rest) r) ≡ before next (replay c (marked (drop (i + 1) ms) more) new)
told_more c ms i none rest text more e quads next r new within t m same h =
    ap (λ es. before quads (replay c es r)) (first_marked ms i none rest text more e within t m same)
    ∙ replay_more c e (marked (drop (i + 1) ms) more) quads next r new h

pub told_stops : (c : Context) (ms : List Mark) (i : ℕ) (none : Mark) (rest text more : Text) (e : Event) (r : Reader) (why : FrameStop) → i < length ms →
    text ≡ take (len_of (get_or ms i none)) rest → more ≡ drop (len_of (get_or ms i none)) rest → e ≡ event_by (get_or ms i none).kind (at_of (get_or ms i none)) text →
    HasCause why (at_step c true e r) → HasCause why (replay c (marked (drop i ms) rest) r)
told_stops c ms i none rest text more e r why within t m same h =
    subst (λ es. HasCause why (replay c es r)) (sym (first_marked ms i none rest text more e within t m same)) (replay_stops c e (marked (drop (i + 1) ms) more) r why h)

pub none_after : {X : Type 0} (xs : List X) (i : ℕ) → length xs ≤ i → drop i xs ≡ []
none_after xs i over = nothing_left (drop i xs) (let d : length (drop i xs) ≡ length xs - i = length-drop i xs in omega (arith, d, over))

pub none_cut : {X Y : Type 0} (size : X → ℕ) (make : X → Text → Y) (xs : List X) (i : ℕ) (rest : Text) → length xs ≤ i → cut size make (drop i xs) rest ≡ []
none_cut size make xs i rest over = ap (λ ys. cut size make ys rest) (none_after xs i over)
