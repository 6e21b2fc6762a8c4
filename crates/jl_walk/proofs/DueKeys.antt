-- What is due of an open member has been put by its key and what has been read of its value.
use Rattle.std.proofs.Common.{ℕ, ◌≤◌, ◌≡◌, refl, sym, ◌∙◌, ap, subst, Bool, true, false, List, [], ◌∷◌, ◌++◌, Option, Some, Ok, Err, arith}
use Rattle.jl_model.specs.Parts.{Parts}
use Rattle.jl_model.specs.declared.faults.Fault.{Fault}
use Rattle.jl_model.specs.declared.terms.Term.{Term}
use Rattle.jl_model.specs.declared.graph_scopes.GraphScope.{GraphScope}
use Rattle.jl_defs.specs.Texts.{Text}
use Rattle.jl_defs.specs.Context.{TermDef, term}
use Rattle.jl_defs.specs.Settings.{Settings, property_of, elsewhere, lists}
use Rattle.jl_defs.specs.Keys.{Key, graph, included, list, set, reverse, nest, property, key_of}
use Rattle.jl_defs.specs.ObjectContexts.{Inside}
use Rattle.jl_defs.specs.Kept.{own_member, is_admitted}
use Rattle.jl_defs.specs.MemberFaults.{key_faults}
use Rattle.jl_defs.specs.Expansion.{is_plain_graph, goes_forward}
use Rattle.jl_defs.specs.Maps.{adds_nothing}
use Rattle.jl_defs.specs.Sets.{tally}
use Rattle.jl_defs.specs.OpenTree.{Open, stand_in}
use Rattle.jl_defs.specs.Due as due
use Rattle.jl_defs.specs.Due.{value_due}
use Rattle.jl_laws.specs.Spots.{linked, Spot}
use Rattle.jl_laws.specs.Says.{property_head}
use Rattle.jl_laws.proofs.Counting.{tally-append}
use Rattle.jl_walk.specs.Phases.{follow, phase_faults}
use Rattle.jl_walk.specs.Stage.{is_built_key, is_built_term}
use Rattle.jl_walk.specs.Frames.{Object, Frame, object as object_frame, around_by, property_spot, spot_in}
use Rattle.jl_walk.specs.Steps.{Step, unless_fault, if_built}
use Rattle.jl_walk.specs.Keys.{with_key, seen_by, with_phase, key_of_object, take_key}
use Rattle.jl_walk.specs.States.{State, at, Go, before, from}
use Rattle.jl_walk.specs.Running.{step, run}
use Rattle.jl_walk.specs.Laws.{IsPlain, IsPlainAround, Runs, goes, stops}
use Rattle.jl_walk.specs.Due.{open_events}
use Rattle.jl_walk.proofs.Forms.{built-form, built-lists}
use Rattle.jl_walk.proofs.Goes.{before-none, then-settle}
use Rattle.jl_walk.proofs.Entering.{next_key}
use Rattle.jl_walk.proofs.Parting.{quads_of}
use Rattle.jl_walk.proofs.DueSpots.{due_at, due_spot, IsHung}

-- ---- what a run that doesn't stop brings

-- these quads are among what it brings
abbrev pub Brings : Go → List Parts → Type 0
Brings g quads = (q : List Parts) (z : State) → g ≡ Ok (q, z) → (f : Parts → ℕ) → tally f quads ≤ tally f q

pub brings-none : (g : Go) → Brings g []
brings-none g q z e f = omega arith

pub brings-never : (x : Fault) (quads : List Parts) → Brings (Err x) quads
brings-never x quads q z e f = absurd cc

pub brings-before : (front : List Parts) (g : Go) (xs ys : List Parts) → ((f : Parts → ℕ) → tally f xs ≤ tally f front) → Brings g ys → Brings (before front g) (xs ++ ys)
brings-before front (Ok (more, y)) xs ys a b q z e f =
    omega (arith, a f, b more y refl f, tally-append f xs ys, tally-append f front more, ap (λ r. tally f (quads_of r)) e)
brings-before front (Err x) xs ys a b q z e f = absurd cc

pub brings-front : (front : List Parts) (g : Go) (xs : List Parts) → ((f : Parts → ℕ) → tally f xs ≤ tally f front) → Brings (before front g) xs
brings-front front (Ok (more, y)) xs a q z e f = omega (arith, a f, tally-append f front more, ap (λ r. tally f (quads_of r)) e)
brings-front front (Err x) xs a q z e f = absurd cc

pub brings-same : (g h : Go) (quads : List Parts) → g ≡ h → Brings h quads → Brings g quads
brings-same g h quads e b = subst (λ x. Brings x quads) (sym e) b

pub brings-quiet : (g : Go) (quads : List Parts) → Brings g quads → Brings (before [] g) quads
brings-quiet g quads b = brings-same (before [] g) g quads (before-none g) b

pub brings-run : (fs : List Fault) (ps : List ℕ) (r : Step) (front : List Parts) (k : List Frame) (next : List Frame → Go) (quads : List Parts) → Runs fs ps r front k →
    (fs ≡ [] → ps ≡ [] → Brings (before front (next k)) quads) → Brings (from r next) quads
brings-run fs ps r front k next quads (goes a b e) h = brings-same (from r next) (before front (next k)) quads (ap (λ x. from x next) e) (h a b)
brings-run fs ps r front k next quads (stops x bad e) h = brings-same (from r next) (Err x) quads (ap (λ y. from y next) e) (brings-never x quads)

brings-unless : (fs : List Fault) (r : Unit {0} → Step) (next : List Frame → Go) (quads : List Parts) → Brings (from (r tt) next) quads → Brings (from (unless_fault fs r) next) quads
brings-unless [] r next quads b = b
brings-unless (x ∷ fs) r next quads b = brings-never x quads

-- what is due of an open value at its spot is among what its events bring
abbrev pub OpenBrings : Settings → Open → Type 0
OpenBrings s o =
    (f : Frame) (k : List Frame) (p : Spot) → spot_in f ≡ Some p → IsPlain p → IsHung p.role.hanging → Brings (run s (open_events o) (at (f ∷ k))) (value_due s (due_spot p) o)

-- ---- the values of a property

around-plain : (b : Bool) → IsPlainAround (around_by b)
around-plain true = tt
around-plain false = tt

-- the spot of a property's values, by its parts
abbrev its_spot : Inside → Text → Text → Option Term → GraphScope → due.Listing → Bool → due.Spot
its_spot i name iri subject scope listing wraps = record {
  context = i.final;
  under = property_of name;
  stand = elsewhere;
  scope = scope;
  hang = due.below subject (goes_forward own_member (term i.final name)) iri;
  listing = listing;
  wraps = wraps;
  adds = adds_nothing;
}

listing-none : (b : Bool) → b ≡ false → ◌≡◌ {A = due.Listing} (elim b [ true ↦ due.whole_list | false ↦ due.in_no_list ]) due.in_no_list
listing-none false e = refl
listing-none true e = absurd cc

its-around : (i : Inside) (name iri : Text) (subject : Option Term) (scope : GraphScope) (b : Bool) →
    its_spot i name iri subject scope due.in_no_list b ≡ due_at i.final (property_of name) (around_by b) linked (property_head own_member (term i.final name) iri subject scope)
its-around i name iri subject scope true = refl
its-around i name iri subject scope false = refl

property-so : (i : Inside) (n : due.NodeSpot) (o : Object) (name iri : Text) → n.subject ≡ o.subject → n.scope ≡ o.scope → lists (term i.final name) ≡ false →
    due.property_spot i own_member n name iri ≡ due_spot (property_spot i o name iri)
property-so i n o name iri a b l =
    let t = term i.final name in
    ap (λ x. its_spot i name iri x n.scope (due.listing_of t) (is_plain_graph t)) a
    ∙ (ap (λ x. its_spot i name iri o.subject x (due.listing_of t) (is_plain_graph t)) b
    ∙ (ap (λ x. its_spot i name iri o.subject o.scope x (is_plain_graph t)) (listing-none (lists t) l)
    ∙ its-around i name iri o.subject o.scope (is_plain_graph t)))

-- ---- the key

-- a key and its value
pub key-brings : (s : Settings) (a : ℕ) (n : Text) (next : Open) (p : Spot) (i : Inside) (o : Object) (k : List Frame) (node : due.NodeSpot)
    (mapped : due.Hang → TermDef → List Parts) (nested reversed : Unit {0} → List Parts) → OpenBrings s next →
    is_built_key (key_of i.final n) (term i.final n) ≡ true → node.subject ≡ o.subject → node.scope ≡ o.scope →
    Brings (next_key s a n (open_events next) (object_frame p i o ∷ k)) (due.open_due (due_spot p) i own_member node n next (λ q. value_due s q next) mapped nested reversed)
unfolding run step take_key
key-brings s a n next p i o k node mapped nested reversed ih built same_subject same_scope =
    brings-same _ _ _
    (then-settle (take_key a n (object_frame p i o ∷ k)) (run s (open_events next))
    ∙ ap (λ x. from (if_built x a (λ _. unless_fault (phase_faults o.phase i n a) (λ _. key_of_object (key_of i.final n) a n p i m k))) g) built)
    (brings-unless (phase_faults o.phase i n a) _ g _ (by (key_of i.final n) built))
  where
    g : List Frame → Go
    g l = run s (open_events next) (at l)

    t : Option TermDef
    t = term i.final n

    m : Object
    m = with_phase (follow o.phase i n) o

    goes-on : (q : Key) (quads : List Parts) → Brings (g (object_frame p i (with_key q a n m) ∷ k)) quads → Brings (from (key_of_object q a n p i m k) g) quads
    goes-on q quads b = brings-unless (key_faults q p.under (seen_by m) a) _ g quads (brings-quiet _ quads b)

    value-brings : (iri : Text) → is_built_term t ≡ true →
        Brings (g (object_frame p i (with_key (property iri) a n m) ∷ k))
        (due.key_due (property iri) (due_spot p) i own_member node n next (λ q. value_due s q next) mapped nested reversed)
    value-brings iri c =
        let o' = with_key (property iri) a n m in
        subst (λ x. Brings (g (object_frame p i o' ∷ k)) (due.form_due x t (due.property_spot i own_member node n iri) i next (mapped (due.below node.subject (goes_forward own_member t) iri)) (λ q. value_due s q next)))
        (sym (built-form t (stand_in next) c))
        (subst (λ x. Brings (g (object_frame p i o' ∷ k)) (value_due s x next)) (sym (property-so i node o' n iri same_subject same_scope (built-lists t c)))
        (ih (object_frame p i o') k (property_spot i o' n iri) refl (built-lists t c, around-plain (is_plain_graph t)) tt))

    by : (q : Key) → is_built_key q t ≡ true →
        Brings (from (key_of_object q a n p i m k) g)
        (due.if_so (is_admitted own_member q) (λ _. due.key_due q (due_spot p) i own_member node n next (λ x. value_due s x next) mapped nested reversed))
    by (property iri) c = goes-on (property iri) _ (value-brings iri c)
    by graph c = absurd cc
    by included c = absurd cc
    by list c = absurd cc
    by set c = absurd cc
    by reverse c = absurd cc
    by nest c = absurd cc
    by q c = goes-on q [] (brings-none (g (object_frame p i (with_key q a n m) ∷ k)))
