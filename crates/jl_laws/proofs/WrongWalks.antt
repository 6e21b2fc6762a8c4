-- Each law is false of a wrong walk or of wrong reported faults, by a document that computes.
use Rattle.std.proofs.Common.{◌≡◌, inl, inr, Bool, true, false, not, ◌||◌, ◌&&◌, ◌==◌, List, [], ◌∷◌, take, filter, map, refl, sym, ap, ◌∙◌, None, codes}
use Rattle.std.specs.List.{list_all, list_any}
use Rattle.std.specs.Str.{bytes_eq}
use Rattle.std.proofs.Math.Bool.{or-true}
use Rattle.std.proofs.lemmas.Bool.{eq-eqb}
use Rattle.std.proofs.lemmas.Slice.Eq.{bytes_eq-Decides}
use Rattle.jl_model.specs.JsonTree.{Tree, scalar, object, Members, no_member, member}
use Rattle.jl_model.specs.Codes.{code_number}
use Rattle.jl_model.specs.Lines.{line, term_text}
use Rattle.jl_model.specs.Parts.{Parts}
use Rattle.jl_model.specs.declared.codes.Code.TheVariants.{NotYet}
use Rattle.jl_model.specs.declared.faults.Fault.{Fault}
use Rattle.jl_model.specs.declared.orders.Order.TheVariants.{Any, Streaming}
use Rattle.jl_model.specs.declared.scalars.Scalar.TheVariants.{Bool as truth, Str}
use Rattle.jl_defs.specs.Trees.{then_members}
use Rattle.jl_defs.specs.Settings.{Settings}
use Rattle.jl_defs.specs.Sets.{Has, IsWithin}
use Rattle.jl_defs.specs.Dataset.{dataset}
use Rattle.jl_defs.specs.Faults.{faults}
use Rattle.jl_defs.specs.ObjectContexts.{fault}
use Rattle.jl_defs.specs.OpenTree.{Open, in_object, Extends}
use Rattle.jl_laws.specs.Spots.{Spot}
use Rattle.jl_defs.proofs.RowWords.{settings, is_fault_among, faults_are_among, says as defined}
use Rattle.jl_laws.specs.Laws.{SaysDatasetBy, MembersMoveBy, FaultsStayBy, FaultsAreBuiltBy}
use Rattle.jl_laws.specs.Says.{walk, says, root_spot}
use Rattle.jl_laws.specs.Reordering.{Reordered}

-- ---- a part of a list, tested by the lines of its quads

abbrev has_line : List Parts → Parts → Bool
has_line ys x = list_any (λ y. bytes_eq (line y) (line x)) ys

has_line-of : (ys : List Parts) (x : Parts) → Has ys x → has_line ys x ≡ true
has_line-of [] x h = absurd h
has_line-of (y ∷ ys) x (inl p) = ap (λ b. b || has_line ys x) ((bytes_eq-Decides (line y) (line x)).1 (ap line p))
has_line-of (y ∷ ys) x (inr h) = ap (λ b. bytes_eq (line y) (line x) || b) (has_line-of ys x h) ∙ or-true (bytes_eq (line y) (line x))

-- a list with a line that the other one lacks is no part of it
no_part : (xs ys : List Parts) → IsWithin xs ys → list_all (has_line ys) xs ≡ false → ⊥
no_part [] ys h e = cc
no_part (x ∷ xs) ys h e = no_part xs ys (λ q k. h q (inr k)) (ap (λ b. b && list_all (has_line ys) xs) (sym (has_line-of ys x (h x (inl refl)))) ∙ e)

-- ---- wrong walks

-- {"@id":"http://a/s","http://a/p":{"@id":"http://a/o","http://a/q":"x"}}
nested : Tree
nested = object 0 (member 1 (codes "@id") (scalar 7 (Str (codes "http://a/s"))) (member 20 (codes "http://a/p") (object 33 (member 34 (codes "@id") (scalar 40 (Str (codes "http://a/o"))) (member 53 (codes "http://a/q") (scalar 66 (Str (codes "x"))) no_member))) no_member))

-- {"@id":"http://a/s","@type":"http://a/T"}
typed : Tree
typed = object 0 (member 1 (codes "@id") (scalar 7 (Str (codes "http://a/s"))) (member 20 (codes "@type") (scalar 28 (Str (codes "http://a/T"))) no_member))

any_order : Settings
any_order = settings Any None []

-- the quads about the subject of the first one
about_first : List Parts → List Parts
about_first [] = []
about_first (q ∷ qs) = filter (λ r. bytes_eq (term_text r.subject) (term_text q.subject)) (q ∷ qs)

-- a walk that forgets nested nodes
abbrev forgetful : Settings → Spot → Tree → List Parts
forgetful s p t = about_first (says s p t)

forgetful_is_wrong : SaysDatasetBy forgetful → ⊥
unfolding defined walk about_first any_order nested
forgetful_is_wrong h = no_part (dataset any_order nested) (forgetful any_order (root_spot any_order) nested) (h any_order nested).1 refl

-- a walk that drops types
abbrev untyped : Settings → Spot → Tree → List Parts
untyped s p t = filter (λ q. not (bytes_eq q.predicate (codes "http://www.w3.org/1999/02/22-rdf-syntax-ns#type"))) (says s p t)

untyped_is_wrong : SaysDatasetBy untyped → ⊥
unfolding defined walk any_order typed
untyped_is_wrong h = no_part (dataset any_order typed) (untyped any_order (root_spot any_order) typed) (h any_order typed).1 refl

-- a walk that links nodes to themselves
abbrev crossed : Settings → Spot → Tree → List Parts
crossed s p t = map (λ q. record { subject = q.object; predicate = q.predicate; object = q.object; graph = q.graph }) (says s p t)

crossed_is_wrong : SaysDatasetBy crossed → ⊥
unfolding defined walk any_order nested
crossed_is_wrong h = no_part (crossed any_order (root_spot any_order) nested) (dataset any_order nested) (h any_order nested).0 refl

-- ---- a walk that hangs on the order of members

-- {"@id":"http://a/s","http://a/p":"x","http://a/q":"y"}, and with its last two members the other way round
forward : Members
forward = member 1 (codes "@id") (scalar 7 (Str (codes "http://a/s"))) (member 20 (codes "http://a/p") (scalar 33 (Str (codes "x"))) (member 37 (codes "http://a/q") (scalar 50 (Str (codes "y"))) no_member))

backward : Members
backward = member 1 (codes "@id") (scalar 7 (Str (codes "http://a/s"))) (member 37 (codes "http://a/q") (scalar 50 (Str (codes "y"))) (member 20 (codes "http://a/p") (scalar 33 (Str (codes "x"))) no_member))

-- a walk that says one quad
abbrev hasty : Settings → Spot → Tree → List Parts
hasty s p t = take 1 (says s p t)

moved : Reordered forward backward
unfolding forward backward
moved = (
  no_member,
  member 37 (codes "http://a/q") (scalar 50 (Str (codes "y"))) (member 20 (codes "http://a/p") (scalar 33 (Str (codes "x"))) no_member),
  refl,
  (member 37 (codes "http://a/q") (scalar 50 (Str (codes "y"))) no_member, no_member, refl, (no_member, no_member, refl, refl)),
)

hasty_is_wrong : MembersMoveBy hasty → ⊥
unfolding defined walk any_order forward backward
hasty_is_wrong h =
    no_part (hasty any_order (root_spot any_order) (object 0 forward)) (hasty any_order (root_spot any_order) (object 0 backward))
    (h any_order (root_spot any_order) 0 forward backward moved (refl, (refl, (refl, tt))) tt refl refl).0 refl

-- ---- faults that are reported too early

fault_among-of : (fs : List Fault) (f : Fault) → Has fs f → is_fault_among fs f ≡ true
fault_among-of [] f h = absurd h
fault_among-of (g ∷ fs) f (inl p) =
    ap (λ x. (code_number x.code == code_number f.code && x.at == f.at) || is_fault_among fs f) p
    ∙ ap (λ b. (b && f.at == f.at) || is_fault_among fs f) (eq-eqb (code_number f.code) (code_number f.code) refl) ∙ ap (λ b. b || is_fault_among fs f) (eq-eqb f.at f.at refl)
fault_among-of (g ∷ fs) f (inr h) = ap (λ b. (code_number g.code == code_number f.code && g.at == f.at) || b) (fault_among-of fs f h) ∙ or-true (code_number g.code == code_number f.code && g.at == f.at)

no_faults_part : (fs gs : List Fault) → IsWithin fs gs → faults_are_among fs gs ≡ false → ⊥
no_faults_part [] gs h e = cc
no_faults_part (f ∷ fs) gs h e = no_faults_part fs gs (λ g k. h g (inr k)) (ap (λ b. b && faults_are_among fs gs) (sym (fault_among-of gs f (h f (inl refl)))) ∙ e)

-- an object between two members is judged as if it were closed
hurried : Settings → Open → List Fault
hurried s (in_object at ms ends) = faults s (object at ms)
hurried s o = []

-- {"@value":true,"@language":"en","http://a/p":"x"}: the language isn't what is wrong in the end
started : Members
started = member 1 (codes "@value") (scalar 10 (truth true)) (member 15 (codes "@language") (scalar 27 (Str (codes "en"))) no_member)

rest : Members
rest = member 32 (codes "http://a/p") (scalar 45 (Str (codes "x"))) no_member

streaming_order : Settings
streaming_order = settings Streaming None []

hurried_is_wrong : FaultsStayBy hurried → ⊥
unfolding defined walk hurried started rest streaming_order Extends
hurried_is_wrong h =
    no_faults_part (faults streaming_order (object 0 started)) (faults streaming_order (object 0 (then_members started rest)))
    (h streaming_order (in_object 0 started []) (object 0 (then_members started rest)) refl (rest, refl)) refl

-- ---- wrong faults of a document

-- a form that isn't built told among them
form_told : FaultsAreBuiltBy (λ s t. fault NotYet 0 ∷ faults s t) → ⊥
form_told law = law streaming_order nested (fault NotYet 0) (inl refl) refl
