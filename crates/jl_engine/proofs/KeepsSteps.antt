-- The reader does what the walk does, event by event.
use Rattle.std.proofs.Common.{ℕ, ◌≡◌, refl, sym, ◌∙◌, ap, subst, Bool, true, false, not, ◌&&◌, List, [], ◌∷◌, ◌++◌, Some, append_assoc}
use Rattle.std.specs.Prelude.{zero, suc}
use Rattle.jl_model.specs.JsonTree.{Tree, scalar, array, object, Trees, no_item, Members, no_member, member, item}
use Rattle.jl_model.specs.declared.scalars.Scalar.{Scalar}
use Rattle.jl_defs.specs.Texts.{Text}
use Rattle.jl_defs.specs.Settings.{Settings}
use Rattle.jl_defs.specs.Context.{Context, initial}
use Rattle.jl_defs.specs.Keys.{Key, kind, value, key_of, is_leading, is_kind, is_value}
use Rattle.jl_defs.specs.Rest.{is_scalar}
use Rattle.jl_defs.specs.ObjectContexts.{Inside, look_at_key, last_string}
use Rattle.jl_prelude.specs.Classes.{class_of}
use Rattle.jl_prelude.specs.declared.classes.Class.{Class}
use Rattle.jl_laws.specs.Spots.{Spot, stand_of}
use Rattle.jl_walk.specs.Fits.{Fits, BeginsValue}
use Rattle.jl_walk.specs.States as states
use Rattle.jl_walk.specs.States.{State, in_items, in_members, in_member, Go, go, held_with, add_item, Second, leading_key, running, running_key, then_go, settle, at, leading, context_key}
use Rattle.jl_walk.specs.Events as tree
use Rattle.jl_walk.specs.Running as walk
use Rattle.jl_walk.specs.Running.{if_decided, second_of, run_key, ending_key, may_type, contexts_of, takes, value_step, leads_with}
use Rattle.jl_walk.specs.Phases.{Phase, at_start, in_run, run_until, past, is_rest}
use Rattle.jl_walk.specs.Frames.{Frame}
use Rattle.jl_walk.specs.Steps.{then_goes}
use Rattle.jl_walk.specs.Keys.{take_key}
use Rattle.jl_walk.proofs.Goes.{before-none}
use Rattle.jl_walk.specs.Feeding.{start}
use Rattle.jl_frames.specs.declared.states.StackState.{StackState}
use Rattle.jl_frames.specs.Machine as frames
use Rattle.jl_engine.specs.Keeping.{InsideAt, Shows, Held, lead_by, reader_by, KeepsLead, KeepsRun, PartIs, Between, between, in_types, in_run_value, Agrees, json_text, Told, InTypes, DeepInTypes, InRun, Keeps, deep_in_types, StepsKeep}
use Rattle.jl_engine.specs.Leads.{Admits, holds, shows, opens_whole, array_at, is_json}
use Rattle.jl_engine.specs.Reading as reading
use Rattle.jl_engine.specs.Reading.{Read, still, by_admits, step, at_start as reader_at_start}
use Rattle.jl_engine.specs.TreeEvents.{walked}
use Rattle.jl_engine.specs.KeepsFrames.{plain_inside}
use Rattle.jl_engine.specs.declared.events.Event.{Event}
use Rattle.jl_engine.specs.declared.leads.Lead.{Lead}
use Rattle.jl_engine.specs.declared.leads.LeadPart.{LeadPart}
use Rattle.jl_engine.specs.declared.readers.Reader.{Reader}
use Rattle.jl_engine.proofs.KeepsLeadSteps.{spot-plain, plain_lead, decided_input, lead-decided, types-so, at-steps, lead-steps, run-steps}
use Rattle.jl_engine.proofs.KeepsLeadShown.{key-last, input-shown, shows-scalar, typed-scalar, shows-by, part_after, with_whole, opens-by, IsWhole, shows-whole, kind-whole, kind-other, scalar-json, with_types, shows-types, typed-types, held-more, one-scalar, OpensAs, one-whole, keys-more, lead-more, lead-stays, lead-ends, length-stays, length-ends, scalar-leads, whole-ends, told-more, last-item, one-types, told-whole, whole-string, kind-leads, types-lead}
use Rattle.jl_engine.proofs.KeepsLeadTells.{leads-run, agrees-go, in-lead, in-run}
use Rattle.jl_engine.specs.declared.events.Event.TheVariants as events
use Rattle.jl_engine.specs.declared.leads.LeadPart.TheVariants as parts
use Rattle.jl_engine.specs.declared.leads.LeadSpot.TheVariants as spots
use Rattle.jl_engine.proofs.KeepsFrames.{start-keeps}

-- ==== Inside a value that is held whole only the depth matters.

-- the state after an event
abbrev pub AfterEvent : (State → Type 0) → ℕ → tree.Event → State → Type 0
AfterEvent P d (tree.opens_object b) z = InsideAt P (suc d) z
AfterEvent P d (tree.opens_array b) z = InsideAt P (suc d) z
AfterEvent P zero tree.closes z = P z
AfterEvent P (suc d) tree.closes z = InsideAt P d z
AfterEvent P d (tree.a_key a n) z = InsideAt P d z
AfterEvent P d (tree.a_scalar b v) z = InsideAt P d z

abbrev pub InsideGoes : (State → Type 0) → ℕ → tree.Event → Go → Type 0
InsideGoes P d e g = (z : State) × ((g ≡ go z) × AfterEvent P d e z)

-- what is known of the value as it closes doesn't hang on what is in it
more-items : (P : State → Type 0) (d : ℕ) (b : ℕ) (xs ys : Trees) (back : Tree → State) → InsideAt P d (in_items b xs back) → InsideAt P d (in_items b ys back)
more-items P zero b xs ys back h = h
more-items P (suc d) b xs ys back h = h

its-member : (P : State → Type 0) (d : ℕ) (b : ℕ) (ms : Members) (a : ℕ) (n : Text) (back : Tree → State) → InsideAt P d (in_members b ms back) → InsideAt P d (in_member b ms a n back)
its-member P zero b ms a n back h = h
its-member P (suc d) b ms a n back h = h

past-member : (P : State → Type 0) (d : ℕ) (b : ℕ) (ms ns : Members) (a : ℕ) (n : Text) (back : Tree → State) → InsideAt P d (in_member b ms a n back) → InsideAt P d (in_members b ns back)
past-member P zero b ms ns a n back h = h
past-member P (suc d) b ms ns a n back h = h

items-close : (P : State → Type 0) (d : ℕ) (b : ℕ) (xs : Trees) (back : Tree → State) → InsideAt P d (in_items b xs back) → AfterEvent P d tree.closes (back (array b xs))
items-close P zero b xs back h = h xs
items-close P (suc d) b xs back h = h (array b xs)

members-close : (P : State → Type 0) (d : ℕ) (b : ℕ) (ms : Members) (back : Tree → State) → InsideAt P d (in_members b ms back) → AfterEvent P d tree.closes (back (object b ms))
members-close P zero b ms back h = h ms
members-close P (suc d) b ms back h = h (object b ms)

items-goes : (s : Settings) (P : State → Type 0) (d : ℕ) (e : tree.Event) (b : ℕ) (xs : Trees) (back : Tree → State) → InsideAt P d (in_items b xs back) → Fits (in_items b xs back) e →
    InsideGoes P d e (walk.step s e (in_items b xs back))
unfolding walk.step
items-goes s P d (tree.opens_object c) b xs back h f =
    (in_members c no_member (λ t. in_items b (add_item xs t) back), (refl, λ t. more-items P d b xs (add_item xs t) back h))
items-goes s P d (tree.opens_array c) b xs back h f =
    (in_items c no_item (λ t. in_items b (add_item xs t) back), (refl, λ t. more-items P d b xs (add_item xs t) back h))
items-goes s P d tree.closes b xs back h f = (back (array b xs), (refl, items-close P d b xs back h))
items-goes s P d (tree.a_key a n) b xs back h f = absurd f
items-goes s P d (tree.a_scalar c v) b xs back h f = (in_items b (add_item xs (scalar c v)) back, (refl, more-items P d b xs (add_item xs (scalar c v)) back h))

members-goes : (s : Settings) (P : State → Type 0) (d : ℕ) (e : tree.Event) (b : ℕ) (ms : Members) (back : Tree → State) → InsideAt P d (in_members b ms back) → Fits (in_members b ms back) e →
    InsideGoes P d e (walk.step s e (in_members b ms back))
unfolding walk.step
members-goes s P d tree.closes b ms back h f = (back (object b ms), (refl, members-close P d b ms back h))
members-goes s P d (tree.a_key a n) b ms back h f = (in_member b ms a n back, (refl, its-member P d b ms a n back h))
members-goes s P d x b ms back h f = absurd f

member-goes : (s : Settings) (P : State → Type 0) (d : ℕ) (e : tree.Event) (b : ℕ) (ms : Members) (a : ℕ) (n : Text) (back : Tree → State) → InsideAt P d (in_member b ms a n back) → Fits (in_member b ms a n back) e →
    InsideGoes P d e (walk.step s e (in_member b ms a n back))
unfolding walk.step
member-goes s P d (tree.opens_object c) b ms a n back h f =
    (in_members c no_member (λ t. in_members b (held_with ms a n t) back), (refl, λ t. past-member P d b ms (held_with ms a n t) a n back h))
member-goes s P d (tree.opens_array c) b ms a n back h f =
    (in_items c no_item (λ t. in_members b (held_with ms a n t) back), (refl, λ t. past-member P d b ms (held_with ms a n t) a n back h))
member-goes s P d tree.closes b ms a n back h f = absurd f
member-goes s P d (tree.a_key c m) b ms a n back h f = absurd f
member-goes s P d (tree.a_scalar c v) b ms a n back h f =
    (in_members b (held_with ms a n (scalar c v)) back, (refl, past-member P d b ms (held_with ms a n (scalar c v)) a n back h))

pub inside-goes : (s : Settings) (P : State → Type 0) (d : ℕ) (e : tree.Event) (z : State) → InsideAt P d z → Fits z e → InsideGoes P d e (walk.step s e z)
inside-goes s P d e (in_items b xs back) h f = items-goes s P d e b xs back h f
inside-goes s P d e (in_members b ms back) h f = members-goes s P d e b ms back h f
inside-goes s P d e (in_member b ms a n back) h f = member-goes s P d e b ms a n back h f
inside-goes s P zero e y h f = absurd h
inside-goes s P (suc d) e y h f = absurd h

-- ==== The first event of a value, after a key of an object that is held.

pub inside-map : (P Q : State → Type 0) (d : ℕ) (z : State) → ((y : State) → P y → Q y) → InsideAt P d z → InsideAt Q d z
inside-map P Q zero (in_items b xs back) f h = λ ys. f (back (array b ys)) (h ys)
inside-map P Q zero (in_members b ms back) f h = λ ns. f (back (object b ns)) (h ns)
inside-map P Q zero (in_member b ms a n back) f h = λ ns. f (back (object b ns)) (h ns)
inside-map P Q (suc d) (in_items b xs back) f h = λ t. inside-map P Q d (back t) f (h t)
inside-map P Q (suc d) (in_members b ms back) f h = λ t. inside-map P Q d (back t) f (h t)
inside-map P Q (suc d) (in_member b ms a n back) f h = λ t. inside-map P Q d (back t) f (h t)
inside-map P Q x y f h = absurd h

-- ---- in a value of the second run: only the event that closes it is held

run-on : (s : Settings) (d : ℕ) (e : Event) (z : State) (st : StackState) (place : ℕ) (es : List Event) (part : LeadPart) (m : Lead) (t : Read) →
    (g : (y : State) × ((walk.step s (walked e) z ≡ go y) × InsideAt (λ y. Between s y (reader_by st (lead_by place (es ++ events.Closes ∷ []) part spots.Between m))) d y)) →
    t ≡ still (reader_by st (lead_by place es part (spots.Inside d) m)) → Agrees s (walk.step s (walked e) z) t
run-on s d e z st place es part m t g same =
    agrees-go s (walk.step s (walked e) z) t g.0 (reader_by st (lead_by place es part (spots.Inside d) m)) g.1.0 same
    (in_run_value d (record { stack = st; place = place; held = es; part = part; shown = m; reader = refl; closing = g.1.1 }))

run-goes : (s : Settings) (d : ℕ) (e : Event) (z : State) (st : StackState) (place : ℕ) (es : List Event) (part : LeadPart) (m : Lead) →
    InsideGoes (λ y. Between s y (reader_by st (lead_by place (es ++ events.Closes ∷ []) part spots.Between m))) d (walked e) (walk.step s (walked e) z) →
    Agrees s (walk.step s (walked e) z) (step (initial s.base) e (reader_by st (lead_by place es part (spots.Inside d) m)))
unfolding step
run-goes s d (events.OpensObject b) z st place es part m g = run-on s (suc d) (events.OpensObject b) z st place es part m _ g refl
run-goes s d (events.OpensArray b) z st place es part m g = run-on s (suc d) (events.OpensArray b) z st place es part m _ g refl
run-goes s zero events.Closes z st place es part m g =
    agrees-go s (walk.step s (walked events.Closes) z) _ g.0 (reader_by st (lead_by place (es ++ events.Closes ∷ []) part spots.Between m)) g.1.0 refl (between g.1.1)
run-goes s (suc d) events.Closes z st place es part m g = run-on s d events.Closes z st place es part m _ g refl
run-goes s d (events.Key a n) z st place es part m g = run-on s d (events.Key a n) z st place es part m _ g refl
run-goes s d (events.Value b v) z st place es part m g = run-on s d (events.Value b v) z st place es part m _ g refl

pub in-run-steps : (s : Settings) (d : ℕ) (e : Event) (z : State) (r : Reader) → InRun s d z r → Fits z (walked e) → Agrees s (walk.step s (walked e) z) (step (initial s.base) e r)
in-run-steps s d e z r h f =
    subst (λ x. Agrees s (walk.step s (walked e) z) (step (initial s.base) e x)) (sym h.reader)
    (run-goes s d e z h.stack h.place h.held h.part h.shown
    (inside-goes s (λ y. Between s y (reader_by h.stack (lead_by h.place (h.held ++ events.Closes ∷ []) h.part spots.Between h.shown))) d (walked e) z h.closing f))

-- ---- in a container among types: each event is held

abbrev DeepClosing : Settings → StackState → ℕ → List Event → Lead → State → Type 0
DeepClosing s st place es m y = (more : List Event) → InTypes s y (reader_by st (lead_by place (es ++ more) parts.Prelude (spots.InTypes zero false) m))

deep-more : (s : Settings) (st : StackState) (place : ℕ) (es : List Event) (m : Lead) (e : Event) (d : ℕ) (z : State) → InsideAt (DeepClosing s st place es m) d z → InsideAt (DeepClosing s st place (es ++ e ∷ []) m) d z
deep-more s st place es m e d z h =
    inside-map (DeepClosing s st place es m) (DeepClosing s st place (es ++ e ∷ []) m) d z
    (λ y g more. subst (λ x. InTypes s y (reader_by st (lead_by place x parts.Prelude (spots.InTypes zero false) m))) (sym (append_assoc es (e ∷ []) more)) (g (e ∷ more))) h

deep-on : (s : Settings) (d : ℕ) (e : Event) (z : State) (st : StackState) (place : ℕ) (es : List Event) (m : Lead) (t : Read) →
    (g : (y : State) × ((walk.step s (walked e) z ≡ go y) × InsideAt (DeepClosing s st place es m) d y)) →
    t ≡ still (reader_by st (lead_by place (es ++ e ∷ []) parts.Prelude (spots.InTypes (suc d) false) m)) → Agrees s (walk.step s (walked e) z) t
deep-on s d e z st place es m t g same =
    agrees-go s (walk.step s (walked e) z) t g.0 (reader_by st (lead_by place (es ++ e ∷ []) parts.Prelude (spots.InTypes (suc d) false) m)) g.1.0 same
    (deep_in_types d (record { stack = st; place = place; held = es ++ e ∷ []; shown = m; reader = refl; closing = deep-more s st place es m e d g.0 g.1.1 }))

deep-goes : (s : Settings) (d : ℕ) (e : Event) (z : State) (st : StackState) (place : ℕ) (es : List Event) (m : Lead) →
    InsideGoes (DeepClosing s st place es m) d (walked e) (walk.step s (walked e) z) →
    Agrees s (walk.step s (walked e) z) (step (initial s.base) e (reader_by st (lead_by place es parts.Prelude (spots.InTypes (suc d) false) m)))
unfolding step
deep-goes s d (events.OpensObject b) z st place es m g = deep-on s (suc d) (events.OpensObject b) z st place es m _ g refl
deep-goes s d (events.OpensArray b) z st place es m g = deep-on s (suc d) (events.OpensArray b) z st place es m _ g refl
deep-goes s zero events.Closes z st place es m g =
    agrees-go s (walk.step s (walked events.Closes) z) _ g.0 (reader_by st (lead_by place (es ++ events.Closes ∷ []) parts.Prelude (spots.InTypes zero false) m)) g.1.0 refl (in_types (g.1.1 (events.Closes ∷ [])))
deep-goes s (suc d) events.Closes z st place es m g = deep-on s d events.Closes z st place es m _ g refl
deep-goes s d (events.Key a n) z st place es m g = deep-on s d (events.Key a n) z st place es m _ g refl
deep-goes s d (events.Value b v) z st place es m g = deep-on s d (events.Value b v) z st place es m _ g refl

pub deep-steps : (s : Settings) (d : ℕ) (e : Event) (z : State) (r : Reader) → DeepInTypes s d z r → Fits z (walked e) → Agrees s (walk.step s (walked e) z) (step (initial s.base) e r)
deep-steps s d e z r h f =
    subst (λ x. Agrees s (walk.step s (walked e) z) (step (initial s.base) e x)) (sym h.reader)
    (deep-goes s d e z h.stack h.place h.held h.shown (inside-goes s (DeepClosing s h.stack h.place h.held h.shown) d (walked e) z h.closing f))

-- ---- in the array of types

-- what stands for it, by its parts
types-stand : (s : Settings) (l : states.Lead) (a : ℕ) (n : Text) (b : ℕ) (xs : Trees) (st : StackState) (es own : List Event) (m : Lead) (held : List Event) (last : Bool) →
    KeepsLead s l es m st → is_kind (key_of (initial s.base) n) ≡ true → Told xs own → held ≡ es ++ events.Key a n ∷ (events.OpensArray b ∷ own) → last ≡ json_text (last_string xs) →
    InTypes s (in_items b xs (leads_with l a n)) (reader_by st (lead_by l.place held parts.Prelude (spots.InTypes zero last) m))
types-stand s l a n b xs st es own m held last h k t e j = record {
  lead = l;
  key_at = a;
  key = n;
  place = b;
  items = xs;
  stack = st;
  held = es;
  own = own;
  shown = m;
  state = refl;
  reader =
      ap (λ x. reader_by st (lead_by l.place x parts.Prelude (spots.InTypes zero last) m)) e
      ∙ ap (λ x. reader_by st (lead_by l.place (es ++ events.Key a n ∷ (events.OpensArray b ∷ own)) parts.Prelude (spots.InTypes zero x) m)) j;
  keeps = h;
  kind = k;
  told = t;
}

pub types-begin : (s : Settings) (l : states.Lead) (a : ℕ) (n : Text) (b : ℕ) (st : StackState) (es : List Event) (m : Lead) → KeepsLead s l es m st → is_kind (key_of (initial s.base) n) ≡ true →
    InTypes s (in_items b no_item (leads_with l a n)) (reader_by st (lead_by l.place ((es ++ events.Key a n ∷ []) ++ events.OpensArray b ∷ []) parts.Prelude (spots.InTypes zero false) m))
types-begin s l a n b st es m h k =
    types-stand s l a n b no_item st es [] m ((es ++ events.Key a n ∷ []) ++ events.OpensArray b ∷ []) false h k refl (append_assoc es (events.Key a n ∷ []) (events.OpensArray b ∷ [])) refl

-- one more item, whatever follows a container
types-more : (s : Settings) (l : states.Lead) (a : ℕ) (n : Text) (b : ℕ) (xs : Trees) (st : StackState) (es own : List Event) (m : Lead) (t : Tree) (es2 : List Event) (held : List Event) (last : Bool) →
    KeepsLead s l es m st → is_kind (key_of (initial s.base) n) ≡ true → Told xs own → Told (item t no_item) es2 → held ≡ (es ++ events.Key a n ∷ (events.OpensArray b ∷ own)) ++ es2 →
    last ≡ json_text (last_string (item t no_item)) →
    InTypes s (in_items b (add_item xs t) (leads_with l a n)) (reader_by st (lead_by l.place held parts.Prelude (spots.InTypes zero last) m))
types-more s l a n b xs st es own m t es2 held last h k told one e j =
    types-stand s l a n b (add_item xs t) st es (own ++ es2) m held last h k (told-more xs own t es2 told one)
    (e ∙ append_assoc es (events.Key a n ∷ (events.OpensArray b ∷ own)) es2) (j ∙ ap json_text (sym (last-item xs t)))

-- after a container
types-whole : (s : Settings) (l : states.Lead) (a : ℕ) (n : Text) (b : ℕ) (xs : Trees) (st : StackState) (es own : List Event) (m : Lead) (t : Tree) (e : Event) (more : List Event) →
    KeepsLead s l es m st → is_kind (key_of (initial s.base) n) ≡ true → Told xs own → OpensAs t e →
    InTypes s (in_items b (add_item xs t) (leads_with l a n))
    (reader_by st (lead_by l.place (((es ++ events.Key a n ∷ (events.OpensArray b ∷ own)) ++ e ∷ []) ++ more) parts.Prelude (spots.InTypes zero false) m))
types-whole s l a n b xs st es own m t e more h k told o =
    types-more s l a n b xs st es own m t (e ∷ more) (((es ++ events.Key a n ∷ (events.OpensArray b ∷ own)) ++ e ∷ []) ++ more) false h k told (told-whole t e more o)
    (append_assoc (es ++ events.Key a n ∷ (events.OpensArray b ∷ own)) (e ∷ []) more) (ap json_text (sym (whole-string t e o)))

-- it closes
types-close : (s : Settings) (l : states.Lead) (a : ℕ) (n : Text) (b : ℕ) (xs : Trees) (st : StackState) (es own : List Event) (m : Lead) →
    KeepsLead s l es m st → is_kind (key_of (initial s.base) n) ≡ true → Told xs own →
    Between s (leads_with l a n (array b xs))
    (reader_by st (lead_by l.place ((es ++ events.Key a n ∷ (events.OpensArray b ∷ own)) ++ events.Closes ∷ []) parts.Prelude spots.Between (with_types (json_text (last_string xs)) m)))
types-close s l a n b xs st es own m h k told =
    let c = initial s.base in
    let one = events.Key a n ∷ (events.OpensArray b ∷ (own ++ events.Closes ∷ [])) in
    in-lead s _ (es ++ one) _ (with_types (json_text (last_string xs)) m) st (append_assoc es (events.Key a n ∷ (events.OpensArray b ∷ own)) (events.Closes ∷ [])) (record {
      stands = h.stands;
      first = h.first;
      held = held-more c l.held es a n (array b xs) one h.held (one-types c a n b xs own k told);
      keys = keys-more c l.held a n (array b xs) h.keys (kind-leads (key_of c n) k);
      leads = lead-more c l.held a n (array b xs) h.leads (types-lead c n b xs k);
      shows = shows-types c l.held a n b xs m k h.typed h.shows;
      typed = typed-types c l.held a n (array b xs) k;
    })

types-goes : (s : Settings) (e : Event) (l : states.Lead) (a : ℕ) (n : Text) (b : ℕ) (xs : Trees) (st : StackState) (es own : List Event) (m : Lead) →
    KeepsLead s l es m st → is_kind (key_of (initial s.base) n) ≡ true → Told xs own → Fits (in_items b xs (leads_with l a n)) (walked e) →
    Agrees s (walk.step s (walked e) (in_items b xs (leads_with l a n)))
    (step (initial s.base) e (reader_by st (lead_by l.place (es ++ events.Key a n ∷ (events.OpensArray b ∷ own)) parts.Prelude (spots.InTypes zero (json_text (last_string xs))) m)))
unfolding step walk.step
types-goes s (events.OpensObject d) l a n b xs st es own m h k told f =
    let all = es ++ events.Key a n ∷ (events.OpensArray b ∷ own) in
    agrees-go s _ _ _ (reader_by st (lead_by l.place (all ++ events.OpensObject d ∷ []) parts.Prelude (spots.InTypes (suc zero) false) m)) refl refl (deep_in_types zero (record {
      stack = st;
      place = l.place;
      held = all ++ events.OpensObject d ∷ [];
      shown = m;
      reader = refl;
      closing = λ ns more. types-whole s l a n b xs st es own m (object d ns) (events.OpensObject d) more h k told refl;
    }))
types-goes s (events.OpensArray d) l a n b xs st es own m h k told f =
    let all = es ++ events.Key a n ∷ (events.OpensArray b ∷ own) in
    agrees-go s _ _ _ (reader_by st (lead_by l.place (all ++ events.OpensArray d ∷ []) parts.Prelude (spots.InTypes (suc zero) false) m)) refl refl (deep_in_types zero (record {
      stack = st;
      place = l.place;
      held = all ++ events.OpensArray d ∷ [];
      shown = m;
      reader = refl;
      closing = λ ys more. types-whole s l a n b xs st es own m (array d ys) (events.OpensArray d) more h k told refl;
    }))
types-goes s events.Closes l a n b xs st es own m h k told f =
    agrees-go s _ _ _ (reader_by st (lead_by l.place ((es ++ events.Key a n ∷ (events.OpensArray b ∷ own)) ++ events.Closes ∷ []) parts.Prelude spots.Between (with_types (json_text (last_string xs)) m))) refl refl
    (between (types-close s l a n b xs st es own m h k told))
types-goes s (events.Key d x) l a n b xs st es own m h k told f = absurd f
types-goes s (events.Value d v) l a n b xs st es own m h k told f =
    let all = es ++ events.Key a n ∷ (events.OpensArray b ∷ own) in
    agrees-go s _ _ _ (reader_by st (lead_by l.place (all ++ events.Value d v ∷ []) parts.Prelude (spots.InTypes zero (is_json v)) m)) refl refl
    (in_types (types-more s l a n b xs st es own m (scalar d v) (events.Value d v ∷ []) (all ++ events.Value d v ∷ []) (is_json v) h k told ([], (refl, refl)) refl (scalar-json d v)))

pub in-types-steps : (s : Settings) (e : Event) (z : State) (r : Reader) → InTypes s z r → Fits z (walked e) → Agrees s (walk.step s (walked e) z) (step (initial s.base) e r)
in-types-steps s e z r h =
    subst (λ x. Fits x (walked e) → Agrees s (walk.step s (walked e) x) (step (initial s.base) e r)) (sym h.state)
    (λ f. subst (λ x. Agrees s (walk.step s (walked e) (in_items h.place h.items (leads_with h.lead h.key_at h.key))) (step (initial s.base) e x)) (sym h.reader)
    (types-goes s e h.lead h.key_at h.key h.place h.items h.stack h.held h.own h.shown h.keeps h.kind h.told f))

-- ---- a scalar

-- the reader holds it, and what it shows
scalar-held : (c : Context) (place : ℕ) (es : List Event) (part : LeadPart) (k : Class) (m : Lead) (st : StackState) (b : ℕ) (v : Scalar) →
    step c (events.Value b v) (reader_by st (lead_by place es part (spots.After k) m))
    ≡ still (reader_by st (lead_by place (es ++ events.Value b v ∷ []) part spots.Between (shows c k v m)))
unfolding step
scalar-held c place es part k m st b v =
    ap (λ x. still (reader_by st (reading.held_with (events.Value b v) x))) (shows-by c k v place es part (spots.After k) m)

-- the key and its value
two : (es : List Event) (e f : Event) → (es ++ e ∷ []) ++ f ∷ [] ≡ es ++ e ∷ (f ∷ [])
two es e f = append_assoc es (e ∷ []) (f ∷ [])

three : (es : List Event) (e f g : Event) → ((es ++ e ∷ []) ++ f ∷ []) ++ g ∷ [] ≡ es ++ e ∷ (f ∷ (g ∷ []))
three es e f g = ap (λ x. x ++ g ∷ []) (two es e f) ∙ append_assoc es (e ∷ (f ∷ [])) (g ∷ [])

lead-scalar : (s : Settings) (p : Spot) (place : ℕ) (held : Members) (k : List Frame) (es : List Event) (m : Lead) (st : StackState) (a : ℕ) (n : Text) (b : ℕ) (v : Scalar) →
    KeepsLead s (plain_lead p place held k) es m st → is_leading (key_of (initial s.base) n) ≡ true →
    Between s (leads_with (plain_lead p place held k) a n (scalar b v))
    (reader_by st (lead_by place ((es ++ events.Key a n ∷ []) ++ events.Value b v ∷ []) parts.Prelude spots.Between (shows (initial s.base) (class_of (key_of (initial s.base) n)) v m)))
lead-scalar s p place held k es m st a n b v h e =
    let c = initial s.base in
    let own = events.Key a n ∷ (events.Value b v ∷ []) in
    in-lead s _ (es ++ own) _ (shows c (class_of (key_of c n)) v m) st (two es (events.Key a n) (events.Value b v)) (record {
      stands = h.stands;
      first = h.first;
      held = held-more c held es a n (scalar b v) own h.held (one-scalar c a n b v);
      keys = keys-more c held a n (scalar b v) h.keys e;
      leads = lead-more c held a n (scalar b v) h.leads (scalar-leads c n b v e);
      shows = shows-scalar c held a n b v m e (λ _. h.typed) h.shows;
      typed = typed-scalar c held a n b v m h.typed;
    })

-- ---- an array or an object that begins the second run

-- the second run, with a first member
abbrev first_run : Settings → Spot → ℕ → Members → List Frame → ℕ → Text → Tree → State
first_run s p place held k a n v =
    let i = plain_inside s (decided_input s held (look_at_key n ∷ [])) in
    running (record (second_of (plain_lead p place held k) i) { phase = past in_run i n v; held = held_with held a n v })

lead-begins : (s : Settings) (p : Spot) (place : ℕ) (held : Members) (k : List Frame) (a : ℕ) (n : Text) (e : tree.Event) → p.context ≡ initial s.base → is_leading (key_of (initial s.base) n) ≡ true →
    then_go (ending_key s (plain_lead p place held k) a n) (value_step s e) ≡ takes e (first_run s p place held k a n)
lead-begins s p place held k a n e pc h =
    let l = plain_lead p place held k in
    let more = look_at_key n ∷ [] in
    let i = plain_inside s (decided_input s held more) in
    ap (λ x. then_go (if_decided x (λ j. run_key s (second_of l j) a n)) (value_step s e)) (lead-decided s p place held more pc)
    ∙ (ap (λ x. then_go (elim (is_rest x) [
      | true ↦ settle (then_goes (walk.settles s (second_of l i)) (take_key a n))
      | false ↦ go (running_key (record (second_of l i) { phase = x }) a n)
    ]) (value_step s e)) (leads-run s (decided_input s held more) n h)
    ∙ before-none (takes e (first_run s p place held k a n)))

-- the part of the run after it
part-of : (q : Key) → PartIs (run_until (is_value q && true)) (part_after (class_of q))
part-of value = refl
part-of x = refl

part-so : (q : Key) (v : Tree) → IsWhole q v → PartIs (run_until (is_value q && not (is_scalar v))) (part_after (class_of q))
part-so q (scalar b v) w = absurd w
part-so q (array b xs) w = part-of q
part-so q (object b ms) w = part-of q

lead-whole : (s : Settings) (p : Spot) (place : ℕ) (held : Members) (k : List Frame) (es : List Event) (m : Lead) (st : StackState) (a : ℕ) (n : Text) (v : Tree) (e : Event) →
    KeepsLead s (plain_lead p place held k) es m st → is_leading (key_of (initial s.base) n) ≡ true → IsWhole (key_of (initial s.base) n) v → OpensAs v e →
    Between s (first_run s p place held k a n v)
    (reader_by st (lead_by place (((es ++ events.Key a n ∷ []) ++ e ∷ []) ++ events.Closes ∷ []) (part_after (class_of (key_of (initial s.base) n))) spots.Between (with_whole (class_of (key_of (initial s.base) n)) m)))
lead-whole s p place held k es m st a n v e h ld w o =
    let c = initial s.base in
    let q = key_of c n in
    let own = events.Key a n ∷ (e ∷ (events.Closes ∷ [])) in
    let more = look_at_key n ∷ [] in
    in-run s _ (es ++ own) _ (with_whole (class_of q) m) st (part_after (class_of q)) (three es (events.Key a n) e events.Closes) (record {
      stands = h.stands;
      plain = refl;
      start = ap at_start (length-ends c held a n v h.leads (whole-ends c n v w));
      held = held-more c held es a n v own h.held (one-whole c a n v e (events.Closes ∷ []) w o);
      keys = keys-more c held a n v h.keys ld;
      stops = lead-ends c held a n v (whole-ends c n v w);
      shows = shows-whole c held a n v m ld w h.shows;
      input = input-shown s.base (stand_of p.role.around) held more (key-last c n) ∙ kind-whole c held a n v w;
    }) (part-so q v w)

-- what the reader does, by whether it is an array of types
abbrev kept : Key → ℕ → List Event → LeadPart → Lead → Bool → Admits
kept q place es part m true = holds (lead_by place es part (spots.InTypes zero false) m)
kept q place es part m false = opens_whole (class_of q) (lead_by place es part (spots.After (class_of q)) m)

array-by : (q : Key) (place : ℕ) (es : List Event) (part : LeadPart) (m : Lead) →
    array_at (spots.After (class_of q)) (lead_by place es part (spots.After (class_of q)) m)
    ≡ kept q place es part m (is_kind q)
array-by kind place es part m = refl
array-by x place es part m = refl

-- a value of the second run is held, but not what stands in it
whole-held : (c : Context) (e : Event) (k : Class) (place : ℕ) (es : List Event) (part : LeadPart) (m : Lead) (st : StackState) (x : Admits) → x ≡ opens_whole k (lead_by place es part (spots.After k) m) → (r : Reader) →
    r ≡ reader_by st (lead_by place es part (spots.After k) m) →
    by_admits x c e (lead_by place es part (spots.After k) m) r ≡ still (reader_by st (lead_by place (es ++ e ∷ []) (part_after k) (spots.Inside zero) (with_whole k m)))
whole-held c e k place es part m st x h r g =
    ap (λ y. by_admits y c e (lead_by place es part (spots.After k) m) r) (h ∙ opens-by k place es part (spots.After k) m)
    ∙ ap (λ y. still (record y { lead = Some (lead_by place (es ++ e ∷ []) (part_after k) (spots.Inside zero) (with_whole k m)) })) g

object-held : (c : Context) (q : Key) (place : ℕ) (es : List Event) (part : LeadPart) (m : Lead) (st : StackState) (b : ℕ) →
    step c (events.OpensObject b) (reader_by st (lead_by place es part (spots.After (class_of q)) m))
    ≡ still (reader_by st (lead_by place (es ++ events.OpensObject b ∷ []) (part_after (class_of q)) (spots.Inside zero) (with_whole (class_of q) m)))
unfolding step
object-held c q place es part m st b =
    whole-held c (events.OpensObject b) (class_of q) place es part m st (opens_whole (class_of q) (lead_by place es part (spots.After (class_of q)) m)) refl
    (reader_by st (lead_by place es part (spots.After (class_of q)) m)) refl

array-held : (c : Context) (q : Key) (place : ℕ) (es : List Event) (part : LeadPart) (m : Lead) (st : StackState) (b : ℕ) → is_kind q ≡ false →
    step c (events.OpensArray b) (reader_by st (lead_by place es part (spots.After (class_of q)) m))
    ≡ still (reader_by st (lead_by place (es ++ events.OpensArray b ∷ []) (part_after (class_of q)) (spots.Inside zero) (with_whole (class_of q) m)))
unfolding step
array-held c q place es part m st b e =
    whole-held c (events.OpensArray b) (class_of q) place es part m st (array_at (spots.After (class_of q)) (lead_by place es part (spots.After (class_of q)) m))
    (array-by q place es part m ∙ ap (λ x. kept q place es part m x) e)
    (reader_by st (lead_by place es part (spots.After (class_of q)) m)) refl

types-held : (c : Context) (q : Key) (place : ℕ) (es : List Event) (part : LeadPart) (m : Lead) (st : StackState) (b : ℕ) → is_kind q ≡ true →
    step c (events.OpensArray b) (reader_by st (lead_by place es part (spots.After (class_of q)) m))
    ≡ still (reader_by st (lead_by place (es ++ events.OpensArray b ∷ []) part (spots.InTypes zero false) m))
unfolding step
types-held c q place es part m st b e =
    ap (λ x. by_admits x c (events.OpensArray b) (lead_by place es part (spots.After (class_of q)) m) (reader_by st (lead_by place es part (spots.After (class_of q)) m)))
    (array-by q place es part m ∙ ap (λ x. kept q place es part m x) e)

-- it is held whole
whole-opens : (s : Settings) (q : Key) (place : ℕ) (es : List Event) (part : LeadPart) (m : Lead) (st : StackState) (e : Event) (z : State) →
    InsideAt (λ y. Between s y (reader_by st (lead_by place ((es ++ e ∷ []) ++ events.Closes ∷ []) (part_after (class_of q)) spots.Between (with_whole (class_of q) m)))) zero z →
    Keeps s z (reader_by st (lead_by place (es ++ e ∷ []) (part_after (class_of q)) (spots.Inside zero) (with_whole (class_of q) m)))
whole-opens s q place es part m st e z f =
    in_run_value zero (record { stack = st; place = place; held = es ++ e ∷ []; part = part_after (class_of q); shown = with_whole (class_of q) m; reader = refl; closing = f })

lead-object : (s : Settings) (p : Spot) (place : ℕ) (held : Members) (k : List Frame) (es : List Event) (m : Lead) (st : StackState) (a : ℕ) (n : Text) (b : ℕ) → p.context ≡ initial s.base →
    KeepsLead s (plain_lead p place held k) es m st → is_leading (key_of (initial s.base) n) ≡ true →
    Agrees s (then_go (ending_key s (plain_lead p place held k) a n) (value_step s (tree.opens_object b)))
    (step (initial s.base) (events.OpensObject b) (reader_by st (lead_by place (es ++ events.Key a n ∷ []) parts.Prelude (spots.After (class_of (key_of (initial s.base) n))) m)))
lead-object s p place held k es m st a n b pc h ld =
    let c = initial s.base in
    let q = key_of c n in
    let es1 = es ++ events.Key a n ∷ [] in
    agrees-go s _ _ (in_members b no_member (first_run s p place held k a n)) _ (lead-begins s p place held k a n (tree.opens_object b) pc ld) (object-held c q place es1 parts.Prelude m st b)
    (whole-opens s q place es1 parts.Prelude m st (events.OpensObject b) _ (λ ns. lead-whole s p place held k es m st a n (object b ns) (events.OpensObject b) h ld tt refl))

lead-array : (s : Settings) (p : Spot) (place : ℕ) (held : Members) (k : List Frame) (es : List Event) (m : Lead) (st : StackState) (a : ℕ) (n : Text) (b : ℕ) → p.context ≡ initial s.base →
    KeepsLead s (plain_lead p place held k) es m st → is_leading (key_of (initial s.base) n) ≡ true →
    Agrees s (walk.key_step s (tree.opens_array b) (plain_lead p place held k) a n)
    (step (initial s.base) (events.OpensArray b) (reader_by st (lead_by place (es ++ events.Key a n ∷ []) parts.Prelude (spots.After (class_of (key_of (initial s.base) n))) m)))
lead-array s p place held k es m st a n b pc h ld =
    subst (λ x. Agrees s (goes x) t) (sym (types-so s p place n pc)) (by (is_kind q) refl)
  where
    c : Context
    c = initial s.base

    q : Key
    q = key_of (initial s.base) n

    l : states.Lead
    l = plain_lead p place held k

    t : Read
    t = step (initial s.base) (events.OpensArray b) (reader_by st (lead_by place (es ++ events.Key a n ∷ []) parts.Prelude (spots.After (class_of q)) m))

    goes : Bool → Go
    goes x = elim x [
      | true ↦ go (in_items b no_item (leads_with l a n))
      | false ↦ then_go (ending_key s l a n) (value_step s (tree.opens_array b))
    ]

    es1 : List Event
    es1 = es ++ events.Key a n ∷ []

    by : (x : Bool) → is_kind q ≡ x → Agrees s (goes x) t
    by true e = agrees-go s (goes true) t (in_items b no_item (leads_with l a n)) _ refl (types-held c q place es1 parts.Prelude m st b e) (in_types (types-begin s l a n b st es m h e))
    by false e =
        agrees-go s (goes false) t (in_items b no_item (first_run s p place held k a n)) _ (lead-begins s p place held k a n (tree.opens_array b) pc ld) (array-held c q place es1 parts.Prelude m st b e)
        (whole-opens s q place es1 parts.Prelude m st (events.OpensArray b) _ (λ ys. lead-whole s p place held k es m st a n (array b ys) (events.OpensArray b) h ld e refl))

pub lead-values : (s : Settings) (e : Event) (p : Spot) (place : ℕ) (held : Members) (k : List Frame) (es : List Event) (m : Lead) (st : StackState) (a : ℕ) (n : Text) →
    KeepsLead s (plain_lead p place held k) es m st → is_leading (key_of (initial s.base) n) ≡ true → BeginsValue (walked e) →
    Agrees s (walk.step s (walked e) (leading_key (plain_lead p place held k) a n))
    (step (initial s.base) e (reader_by st (lead_by place (es ++ events.Key a n ∷ []) parts.Prelude (spots.After (class_of (key_of (initial s.base) n))) m)))
unfolding walk.step
lead-values s (events.OpensObject b) p place held k es m st a n h ld f = lead-object s p place held k es m st a n b (spot-plain s k st p h.stands.keeps h.stands.top) h ld
lead-values s (events.OpensArray b) p place held k es m st a n h ld f = lead-array s p place held k es m st a n b (spot-plain s k st p h.stands.keeps h.stands.top) h ld
lead-values s events.Closes p place held k es m st a n h ld f = absurd f
lead-values s (events.Key d x) p place held k es m st a n h ld f = absurd f
lead-values s (events.Value b v) p place held k es m st a n h ld f =
    let c = initial s.base in
    let r = reader_by st (lead_by place ((es ++ events.Key a n ∷ []) ++ events.Value b v ∷ []) parts.Prelude spots.Between (shows c (class_of (key_of c n)) v m)) in
    (r, (scalar-held c place (es ++ events.Key a n ∷ []) parts.Prelude (class_of (key_of c n)) m st b v, between (lead-scalar s p place held k es m st a n b v h ld)))

-- ---- in the second run

run-more : (s : Settings) (q : Second) (es own : List Event) (m m2 : Lead) (st : StackState) (a : ℕ) (n : Text) (v : Tree) (ph : Phase) → KeepsRun s q es m st → is_leading (key_of (initial s.base) n) ≡ true → is_kind (key_of (initial s.base) n) ≡ false →
    Held (initial s.base) (member a n v no_member) own → Shows (initial s.base) (held_with q.held a n v) m2 → KeepsRun s (record q { phase = ph; held = held_with q.held a n v }) (es ++ own) m2 st
run-more s q es own m m2 st a n v ph h ld nk one sh =
    let c = initial s.base in
    record {
      stands = h.stands;
      plain = h.plain;
      start = h.start ∙ ap at_start (length-stays c q.held a n v h.stops);
      held = held-more c q.held es a n v own h.held one;
      keys = keys-more c q.held a n v h.keys ld;
      stops = lead-stays c q.held a n v h.stops;
      shows = sh;
      input = h.input ∙ kind-other c q.held a n v nk;
    }

-- the final context is the initial one
final-so : (s : Settings) (q : Second) (es : List Event) (m : Lead) (st : StackState) → KeepsRun s q es m st → q.inside.final ≡ initial s.base
final-so s q es m st h = ap (λ (i : Inside). i.final) h.plain

past-part : (s : Settings) (q : Second) (n : Text) (v : Tree) (part : LeadPart) → q.phase ≡ in_run → q.inside.final ≡ initial s.base → PartIs (run_until (is_value (key_of (initial s.base) n) && not (is_scalar v))) part →
    PartIs (past q.phase q.inside n v) part
past-part s q n v part e f h =
    subst (λ ph. PartIs (past ph q.inside n v) part) (sym e)
    (subst (λ c. PartIs (run_until (is_value (key_of c n) && not (is_scalar v))) part) (sym f) h)

scalar-part : (x : Bool) → PartIs (run_until (x && false)) parts.Run
scalar-part true = refl
scalar-part false = refl

-- the state after a value
abbrev next_run : Second → ℕ → Text → Tree → State
next_run q a n v = running (record q { phase = past q.phase q.inside n v; held = held_with q.held a n v })

run-scalar : (s : Settings) (q : Second) (es : List Event) (m : Lead) (st : StackState) (a : ℕ) (n : Text) (b : ℕ) (v : Scalar) → KeepsRun s q es m st → q.phase ≡ in_run →
    is_leading (key_of (initial s.base) n) ≡ true → is_kind (key_of (initial s.base) n) ≡ false →
    Between s (next_run q a n (scalar b v))
    (reader_by st (lead_by q.place ((es ++ events.Key a n ∷ []) ++ events.Value b v ∷ []) parts.Run spots.Between (shows (initial s.base) (class_of (key_of (initial s.base) n)) v m)))
run-scalar s q es m st a n b v h ph ld nk =
    let c = initial s.base in
    let own = events.Key a n ∷ (events.Value b v ∷ []) in
    let m2 = shows c (class_of (key_of c n)) v m in
    in-run s _ (es ++ own) _ m2 st parts.Run (two es (events.Key a n) (events.Value b v))
    (run-more s q es own m m2 st a n (scalar b v) (past q.phase q.inside n (scalar b v)) h ld nk (one-scalar c a n b v)
    (shows-scalar c q.held a n b v m ld (λ e. absurd (let z : true ≡ false = sym e ∙ nk in cc)) h.shows))
    (past-part s q n (scalar b v) parts.Run ph (final-so s q es m st h) (scalar-part (is_value (key_of c n))))

run-whole : (s : Settings) (q : Second) (es : List Event) (m : Lead) (st : StackState) (a : ℕ) (n : Text) (v : Tree) (e : Event) → KeepsRun s q es m st → q.phase ≡ in_run →
    is_leading (key_of (initial s.base) n) ≡ true → is_kind (key_of (initial s.base) n) ≡ false → IsWhole (key_of (initial s.base) n) v → OpensAs v e →
    Between s (next_run q a n v)
    (reader_by st (lead_by q.place (((es ++ events.Key a n ∷ []) ++ e ∷ []) ++ events.Closes ∷ []) (part_after (class_of (key_of (initial s.base) n))) spots.Between (with_whole (class_of (key_of (initial s.base) n)) m)))
run-whole s q es m st a n v e h ph ld nk w o =
    let c = initial s.base in
    let key = key_of c n in
    let own = events.Key a n ∷ (e ∷ (events.Closes ∷ [])) in
    in-run s _ (es ++ own) _ (with_whole (class_of key) m) st (part_after (class_of key)) (three es (events.Key a n) e events.Closes)
    (run-more s q es own m (with_whole (class_of key) m) st a n v (past q.phase q.inside n v) h ld nk (one-whole c a n v e (events.Closes ∷ []) w o) (shows-whole c q.held a n v m ld w h.shows))
    (past-part s q n v (part_after (class_of key)) ph (final-so s q es m st h) (part-so key v w))

pub run-values : (s : Settings) (e : Event) (q : Second) (es : List Event) (m : Lead) (st : StackState) (a : ℕ) (n : Text) → KeepsRun s q es m st → q.phase ≡ in_run →
    is_leading (key_of (initial s.base) n) ≡ true → is_kind (key_of (initial s.base) n) ≡ false → BeginsValue (walked e) →
    Agrees s (walk.step s (walked e) (running_key q a n))
    (step (initial s.base) e (reader_by st (lead_by q.place (es ++ events.Key a n ∷ []) parts.Run (spots.After (class_of (key_of (initial s.base) n))) m)))
unfolding walk.step
run-values s (events.OpensObject b) q es m st a n h ph ld nk f =
    let key = key_of (initial s.base) n in
    let es1 = es ++ events.Key a n ∷ [] in
    agrees-go s _ _ (in_members b no_member (next_run q a n)) _ refl (object-held (initial s.base) key q.place es1 parts.Run m st b)
    (whole-opens s key q.place es1 parts.Run m st (events.OpensObject b) _ (λ ns. run-whole s q es m st a n (object b ns) (events.OpensObject b) h ph ld nk tt refl))
run-values s (events.OpensArray b) q es m st a n h ph ld nk f =
    let key = key_of (initial s.base) n in
    let es1 = es ++ events.Key a n ∷ [] in
    agrees-go s _ _ (in_items b no_item (next_run q a n)) _ refl (array-held (initial s.base) key q.place es1 parts.Run m st b nk)
    (whole-opens s key q.place es1 parts.Run m st (events.OpensArray b) _ (λ ys. run-whole s q es m st a n (array b ys) (events.OpensArray b) h ph ld nk nk refl))
run-values s events.Closes q es m st a n h ph ld nk f = absurd f
run-values s (events.Key d x) q es m st a n h ph ld nk f = absurd f
run-values s (events.Value b v) q es m st a n h ph ld nk f =
    let c = initial s.base in
    let r = reader_by st (lead_by q.place ((es ++ events.Key a n ∷ []) ++ events.Value b v ∷ []) parts.Run spots.Between (shows c (class_of (key_of c n)) v m)) in
    (r, (scalar-held c q.place (es ++ events.Key a n ∷ []) parts.Run (class_of (key_of c n)) m st b v, between (run-scalar s q es m st a n b v h ph ld nk)))

-- ==== The reader does what the walk does, event by event.

-- before a document
pub starts-keep : (s : Settings) → Keeps s (at (start s)) reader_at_start
starts-keep s = between (frames.start, (refl, (start-keeps s, (tt, tt))))

-- an object in its prelude has no context of its own
lead-same : (s : Settings) (l : states.Lead) (es : List Event) (m : Lead) (st : StackState) → KeepsLead s l es m st → l ≡ plain_lead l.spot l.place l.held l.frames
lead-same s l es m st h = ap (λ x. record l { first = x }) h.first

lead-plain : (s : Settings) (l : states.Lead) (es : List Event) (m : Lead) (st : StackState) → KeepsLead s l es m st → KeepsLead s (plain_lead l.spot l.place l.held l.frames) es m st
lead-plain s l es m st h = subst (λ x. KeepsLead s x es m st) (lead-same s l es m st h) h

run-same : (s : Settings) (q : Second) (es : List Event) (m : Lead) (st : StackState) → KeepsRun s q es m st → q ≡ record q { inside = plain_inside s q.inside.input }
run-same s q es m st h = ap (λ x. record q { inside = x }) h.plain

run-plain : (s : Settings) (q : Second) (es : List Event) (m : Lead) (st : StackState) → KeepsRun s q es m st → KeepsRun s (record q { inside = plain_inside s q.inside.input }) es m st
run-plain s q es m st h = subst (λ x. KeepsRun s x es m st) (run-same s q es m st h) h

-- between values
between-steps : (s : Settings) (e : Event) (z : State) (r : Reader) → Between s z r → Fits z (walked e) → Agrees s (walk.step s (walked e) z) (step (initial s.base) e r)
between-steps s e (at k) r h f =
    subst (λ x. Agrees s (walk.step s (walked e) (at k)) (step (initial s.base) e x)) (sym h.1.0) (at-steps s e k h.0 h.1.1.0 h.1.1.1 f)
between-steps s e (leading l) r h f =
    let g = h.1.1.1.1 in
    subst (λ x. Agrees s (walk.step s (walked e) (leading l)) (step (initial s.base) e x)) (sym h.1.1.1.0)
    (subst (λ x. Agrees s (walk.step s (walked e) (leading x)) (step (initial s.base) e (reader_by h.0 (lead_by l.place h.1.0 parts.Prelude spots.Between h.1.1.0)))) (sym (lead-same s l h.1.0 h.1.1.0 h.0 g))
    (lead-steps s e l.spot l.place l.held l.frames h.1.0 h.1.1.0 h.0 (lead-plain s l h.1.0 h.1.1.0 h.0 g) f))
between-steps s e (leading_key l a n) r h f =
    let g = h.1.1.1.1.0 in
    subst (λ x. Agrees s (walk.step s (walked e) (leading_key l a n)) (step (initial s.base) e x)) (sym h.1.1.1.0)
    (subst (λ x. Agrees s (walk.step s (walked e) (leading_key x a n))
    (step (initial s.base) e (reader_by h.0 (lead_by l.place (h.1.0 ++ events.Key a n ∷ []) parts.Prelude (spots.After (class_of (key_of (initial s.base) n))) h.1.1.0)))) (sym (lead-same s l h.1.0 h.1.1.0 h.0 g))
    (lead-values s e l.spot l.place l.held l.frames h.1.0 h.1.1.0 h.0 a n (lead-plain s l h.1.0 h.1.1.0 h.0 g) h.1.1.1.1.1 f))
between-steps s e (running q) r h f =
    let g = h.1.1.1.1.1.0 in
    subst (λ x. Agrees s (walk.step s (walked e) (running q)) (step (initial s.base) e x)) (sym h.1.1.1.1.0)
    (subst (λ x. Agrees s (walk.step s (walked e) (running x)) (step (initial s.base) e (reader_by h.0 (lead_by q.place h.1.0 h.1.1.1.0 spots.Between h.1.1.0)))) (sym (run-same s q h.1.0 h.1.1.0 h.0 g))
    (run-steps s e q q.inside.input h.1.0 h.1.1.0 h.0 h.1.1.1.0 (run-plain s q h.1.0 h.1.1.0 h.0 g) h.1.1.1.1.1.1 f))
between-steps s e (running_key q a n) r h f =
    subst (λ x. Agrees s (walk.step s (walked e) (running_key q a n)) (step (initial s.base) e x)) (sym h.1.1.1.0)
    (run-values s e q h.1.0 h.1.1.0 h.0 a n h.1.1.1.1.0 h.1.1.1.1.1.0 h.1.1.1.1.1.1.0 h.1.1.1.1.1.1.1 f)
between-steps s e z r h f = absurd h

pub steps-keep : StepsKeep
steps-keep s e z r o (between h) f = between-steps s e z r h f
steps-keep s e z r o (in_types h) f = in-types-steps s e z r h f
steps-keep s e z r o (deep_in_types d h) f = deep-steps s d e z r h f
steps-keep s e z r o (in_run_value d h) f = in-run-steps s d e z r h f
