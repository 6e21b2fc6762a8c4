-- Members that are held, and those after them.
use Rattle.std.proofs.Common.{ℕ, ◌≡◌, refl, sym, ◌∙◌, ap, List, [], ◌∷◌, Some, None, Ok, Err}
use Rattle.std.specs.Prelude.{Result}
use Rattle.std.proofs.lemmas.List.{append-nil}
use Rattle.jl_model.specs.JsonTree.{Tree, Members, no_member, member}
use Rattle.jl_model.specs.declared.faults.Fault.{Fault}
use Rattle.jl_defs.specs.Texts.{Text}
use Rattle.jl_defs.specs.Trees.{then_members}
use Rattle.jl_defs.specs.Settings.{Settings}
use Rattle.jl_laws.specs.Spots.{Spot}
use Rattle.jl_walk.specs.Frames.{Expected, no_value, property_value, keyword_value, dropped_value, Frame, values, object as object_frame, types, dropped, spot_under}
use Rattle.jl_walk.specs.Steps.{Step, quiet, after_quads, then_goes}
use Rattle.jl_walk.specs.Opening.{Entering, enter_at, object_under, enter}
use Rattle.jl_walk.specs.Feeding.{feed_members, feed}
use Rattle.jl_walk.specs.Keys.{take_key}
use Rattle.jl_walk.specs.Ending.{close}
use Rattle.jl_walk.specs.States.{held_with, Lead, Second}
use Rattle.jl_walk.specs.Running.{top_spot}
use Rattle.jl_walk.proofs.Members.{then-assoc}
use Rattle.jl_walk.proofs.Objects.{object-at-spot}
use Rattle.jl_walk.specs.Phases.{Phase}
use Rattle.jl_defs.specs.ObjectContexts.{Inside}

-- an object that is held, by its parts
abbrev pub lead : Spot → ℕ → Members → Members → List Frame → Lead
lead p b first held k = record { spot = p; place = b; first = first; held = held; frames = k }

-- one in its second run, by its parts
abbrev pub second : Spot → ℕ → Phase → Inside → Phase → Members → List Frame → Second
second p b st i ph hs k = record { spot = p; place = b; start = st; inside = i; phase = ph; held = hs; frames = k }

pub then-same : (r : Step) (f g : List Frame → Step) → ((l : List Frame) → f l ≡ g l) → then_goes r f ≡ then_goes r g
then-same (Ok (q, k)) f g h = ap (after_quads q) (h k)
then-same (Err e) f g h = refl

pub after-none : (r : Step) → after_quads [] r ≡ r
after-none (Ok (q, k)) = refl
after-none (Err e) = refl

pub then-quiet : (r : Step) → then_goes r quiet ≡ r
then-quiet (Ok (q, k)) = ap (λ x. Ok (x, k)) (append-nil q)
then-quiet (Err e) = refl

pub members-both : (s : Settings) (xs ys : Members) (k : List Frame) → feed_members s (then_members xs ys) k ≡ then_goes (feed_members s xs k) (feed_members s ys)
unfolding feed
members-both s no_member ys k = sym (after-none (feed_members s ys k))
members-both s (member a n v rest) ys k =
    then-same (take_key a n k) _ _ (λ l. then-same (feed s v l) _ _ (λ m. members-both s rest ys m) ∙ sym (then-assoc (feed s v l) (feed_members s rest) (feed_members s ys)))
    ∙ sym (then-assoc (take_key a n k) (λ l. then_goes (feed s v l) (feed_members s rest)) (feed_members s ys))

pub held-more : (hs : Members) (a : ℕ) (n : Text) (v : Tree) (xs : Members) → then_members (held_with hs a n v) xs ≡ then_members hs (member a n v xs)
held-more no_member a n v xs = refl
held-more (member b m w rest) a n v xs = ap (λ x. member b m w x) (held-more rest a n v xs)

pub held-none : (hs : Members) → then_members hs no_member ≡ hs
held-none no_member = refl
held-none (member b m w rest) = ap (λ x. member b m w x) (held-none rest)

-- what was held, then the members after it, and the end
abbrev pub and_then : Settings → Members → Members → List Frame → Step
and_then s hs ms l = then_goes (feed_members s hs l) (λ m. then_goes (feed_members s ms m) close)

pub one-more : (s : Settings) (a : ℕ) (n : Text) (v : Tree) (rest : Members) (m : List Frame) →
    then_goes (feed_members s (member a n v no_member) m) (λ z. then_goes (feed_members s rest z) close) ≡ then_goes (feed_members s (member a n v rest) m) close
unfolding feed
one-more s a n v rest m =
    ap (λ r. then_goes r (λ z. then_goes (feed_members s rest z) close)) (then-same (take_key a n m) _ _ (λ l. then-quiet (feed s v l)))
    ∙ (then-assoc (take_key a n m) (feed s v) (λ z. then_goes (feed_members s rest z) close)
    ∙ (then-same (take_key a n m) _ _ (λ l. sym (then-assoc (feed s v l) (feed_members s rest) close))
    ∙ sym (then-assoc (take_key a n m) (λ l. then_goes (feed s v l) (feed_members s rest)) close)))

pub held-one : (s : Settings) (hs : Members) (a : ℕ) (n : Text) (v : Tree) (rest : Members) (l : List Frame) → and_then s (held_with hs a n v) rest l ≡ and_then s hs (member a n v rest) l
held-one s hs a n v rest l =
    ap (λ r. then_goes r (λ z. then_goes (feed_members s rest z) close)) (members-both s hs (member a n v no_member) l)
    ∙ (then-assoc (feed_members s hs l) (feed_members s (member a n v no_member)) (λ z. then_goes (feed_members s rest z) close)
    ∙ then-same (feed_members s hs l) _ _ (λ m. one-more s a n v rest m))

-- ---- the top of the frames

pub enter-unasked : (b : ℕ) (d e : Spot → Result Entering Fault) (k : List Frame) → top_spot k ≡ None → enter b d k ≡ enter b e k
unfolding enter
enter-unasked b d e [] h = refl
enter-unasked b d e (values p ∷ k) h = absurd cc
enter-unasked b d e (object_frame p i o ∷ k) h = by o.expects h
  where
    by : (x : Expected) → spot_under i o x ≡ None → object_under b x d p i o k ≡ object_under b x e p i o k
    by (property_value name iri) y = absurd cc
    by no_value y = refl
    by (keyword_value q a) y = refl
    by dropped_value y = refl
enter-unasked b d e (types x n g a ∷ k) h = refl
enter-unasked b d e (dropped ∷ k) h = refl

pub enter-top : (b : ℕ) (d : Spot → Result Entering Fault) (k : List Frame) (p : Spot) → top_spot k ≡ Some p → enter b d k ≡ enter_at p b (d p) k
enter-top b d [] p h = absurd cc
enter-top b d (f ∷ k) p h = object-at-spot b d f k p h
