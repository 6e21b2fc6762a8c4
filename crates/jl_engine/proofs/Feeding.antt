-- What a byte, a run of bytes, a piece and the end add to what was read and put.
use Rattle.std.proofs.Common.{ℕ, ◌+◌, ◌≤◌, ◌≡◌, refl, sym, ◌∙◌, ap, subst, Bool, false, cond, eqb, List, [], ◌∷◌, ◌++◌, length, filter, take, drop, Option, None, Ok, Err, inl, inr, arith, append_assoc, append-nil, length-append, true, Some, Result, ◌-◌}
use Rattle.std.proofs.lemmas.Bool.{cases_Bool, eqb-true, eqb-false}
use Rattle.std.proofs.lemmas.List.{take-append-drop, take_all, length-drop}
use Rattle.std.proofs.lemmas.List.Elements.{filter-append}
use Rattle.std.proofs.Math.Seq.{take-add}
use Rattle.std.specs.Option.{option_to_list}
use Rattle.std.specs.Prelude.{IfSome, OnOk, IfErr}
use Rattle.jl_model.specs.Parts.{Parts}
use Rattle.jl_model.specs.declared.faults.Fault.{Fault}
use Rattle.jl_model.specs.declared.tokens.Token.{Token}
use Rattle.jl_model.specs.JsonTree.{Tree, scalar, array, object, Trees, no_item, item, Members, no_member, member}
use Rattle.jl_model.specs.JsonText.{Reads}
use Rattle.jl_model.specs.declared.orders.Order.TheVariants.{Streaming}
use Rattle.jl_model.specs.declared.scalars.Scalar.TheVariants.{Number}
use Rattle.jl_model.specs.declared.tokens.Token.TheVariants as tokens
use Rattle.jl_token.specs.Lexed as lexed
use Rattle.jl_token.specs.Lexed.{StopsAt, StopsAtEnd, Ends, IsFormed, IsFormedBy, end_of_places, IsFront, IsNumberToken}
use Rattle.jl_token.specs.declared.states.LexState.{LexState}
use Rattle.jl_token.proofs.LexerCalls.{relation}
use Rattle.jl_token.proofs.OneReading.{one_reading}
use Rattle.jl_token.specs.declared.steps.LexStop.TheVariants as lexing
use Rattle.jl_token.specs.Runs.{Runs}
use Rattle.jl_token.specs.declared.steps.LexStop.{LexStop}
use Rattle.jl_defs.specs.Dataset.{dataset}
use Rattle.jl_defs.specs.Settings.{Settings}
use Rattle.jl_defs.specs.Sets.{SameSet, Has}
use Rattle.jl_defs.specs.Context.{initial}
use Rattle.jl_defs.specs.Faults.{faults}
use Rattle.jl_defs.specs.OpenText.{ReadsAs}
use Rattle.jl_context.specs.Contexts.{context_of}
use Rattle.jl_laws.specs.Says.{says, root_spot}
use Rattle.jl_laws.proofs.Counting.{same-set}
use Rattle.jl_laws.proofs.ContextCodes.{is_not_yet, not-yet-is}
use Rattle.jl_laws.proofs.Equality.{parts_eq}
use Rattle.jl_laws.proofs.FaultCodes.{faults-built}
use Rattle.jl_laws.proofs.Frames.{says-dataset}
use Rattle.jl_walk.specs.Running.{run, step}
use Rattle.jl_walk.specs.Events.{tree_events, Event, opens_object, opens_array, closes, a_key, a_scalar, items_events, members_events}
use Rattle.jl_walk.specs.Feeding.{start}
use Rattle.jl_walk.specs.Laws.{IsCause, Begins, brings, stopped, Reads as WalkReads, reads as walk_reads, refuses, IsRead, finished as last_frames}
use Rattle.jl_walk.specs.Stage.{document_forms}
use Rattle.jl_walk.specs.States.{State, at as at_frames, Go}
use Rattle.jl_walk.proofs.Datasets.{reads-dataset}
use Rattle.jl_walk.proofs.Parting.{quads_of, part-says}
use Rattle.jl_walk.proofs.Reading.{read-says}
use Rattle.jl_walk.specs.Scalars.{take_scalar}
use Rattle.jl_walk.proofs.Fitting.{events-fit}
use Rattle.jl_frames.specs.Formed.{formed}
use Rattle.jl_frames.proofs.AllFormed.{all-formed}
use Rattle.jl_frames.specs.Answers.{HasCause}
use Rattle.jl_frames.specs.declared.states.FrameStop.{FrameStop}
use Rattle.jl_frames.specs.declared.states.FrameStop.TheVariants as framing
use Rattle.jl_engine.specs.Keeping.{Keeps, StepsKeep, Agrees}
use Rattle.jl_engine.specs.Reading.{Read, at_start, steps, before}
use Rattle.jl_engine.specs.Standing.{Stands, AreSure, AreLeft, WerePut, Fed, Refusal, Cause, Stopped, Finished, EndRefusal, EndCause, StoppedAtEnd}
use Rattle.jl_engine.specs.Saying.{brought, StopsSaying, Tells, SaysSome, SaysBy, SaysTo, AreFirst, Says, IsFinished, IsStoppedAtEnd}
use Rattle.jl_engine.specs.Standing.Refusal.{by_text, by_length, by_fault, by_form}
use Rattle.jl_engine.specs.Standing.EndRefusal.{by_end, by_fault as fault_at_end, by_form as form_at_end}
use Rattle.jl_engine.specs.declared.engines.EngineState.{EngineState}
use Rattle.jl_engine.specs.declared.stops.Stop.{Stop}
use Rattle.jl_engine.specs.declared.stops.Stop.TheVariants.{Refused, OutFault, NoMemory}
use Rattle.jl_engine.specs.declared.readers.Reader.{Reader}
use Rattle.jl_engine.proofs.TokensOfTrees.{walk_events, read-events, walk-append}
use Rattle.jl_engine.proofs.Continuing.{EventsFit, walk-more, walk-stops, walk_of, GoesOn, goes-on, tokens-fit}
use Rattle.jl_engine.proofs.Walked.{formed-append, Goes, reader-goes, reader-stops, all-agree}
use Rattle.jl_engine.specs.TreeEvents.{events_of, event_of, walked}
use Rattle.jl_engine.specs.Putting.{Leaves, PutSome, Puts}
use Rattle.jl_engine.specs.Stops.{IsOutside, of_reader, of_lexer}
use Rattle.jl_engine.proofs.Readings.{before_none}
use Rattle.jl_engine.proofs.KeepsSteps.{steps-keep}

-- ==== What a byte, a run of bytes and a piece add to what was read and put.

-- ---- what is sure

-- quads that are sure stay so as more bytes come, and so does a front of them
pub sure-longer : (s : Settings) (p more : List ℕ) (quads : List Parts) → AreSure s p quads → AreSure s (p ++ more) quads
sure-longer s p more quads h rest t r = h (more ++ rest) t (subst (λ x. ReadsAs x t) (append_assoc p more rest) r)

pub has-first : {A : Type 0} (xs ys : List A) (x : A) → Has xs x → Has (xs ++ ys) x
has-first [] ys x h = absurd h
has-first (z ∷ xs) ys x (inl e) = inl e
has-first (z ∷ xs) ys x (inr h) = inr (has-first xs ys x h)

pub sure-front : (s : Settings) (p : List ℕ) (quads more : List Parts) → AreSure s p (quads ++ more) → AreSure s p quads
sure-front s p quads more h rest t r a b x g = h rest t r a b x (has-first quads more x g)

ok-quads : (p q : List Parts) (y z : State) → ◌≡◌ {A = Go} (Ok (p, y)) (Ok (q, z)) → p ≡ q
ok-quads p q y z e = ap quads_of e

-- the well-formed ones of the first quads of a document are in its dataset
front-sure : (s : Settings) (t : Tree) (q more : List Parts) → says s (root_spot s) t ≡ q ++ more → (x : Parts) → Has (formed q) x → Has (dataset s t) x
front-sure s t q more e x h =
    (same-set parts_eq (says s (root_spot s) t) (dataset s t) (λ f. says-dataset f s t)).0 x
    (subst (λ qs. Has qs x) (sym (formed-append q more) ∙ (ap formed (sym e) ∙ all-formed s t)) (has-first (formed q) (formed more) x h))

-- what the walk has brought begins what each accepted document says that goes on so
pub sure-told : (s : Settings) (p : List ℕ) (given : List Token) (q : List Parts) (z : State) → s.order ≡ Streaming → IsFront 0 p given → walk_of s given ≡ Ok (q, z) → AreSure s p (formed q)
sure-told s p given q z o front e rest t r a b = by (part-says s t (walk_events given) g.more o g.events_are)
  where
    g : GoesOn given t
    g = goes-on p given front rest t r

    by : Begins (faults s t) (document_forms s t) (walk_of s given) (says s (root_spot s) t) → (x : Parts) → Has (formed q) x → Has (dataset s t) x
    by (brings w y h more) =
        let same : w ≡ q = ok-quads w q y z (sym h ∙ e) in
        let m = more a b in
        front-sure s t q m.0 (m.1 ∙ ap (λ v. v ++ m.0) same)
    by (stopped f c h) = absurd (let x : ◌≡◌ {A = Go} (Err f) (Ok (q, z)) = sym h ∙ e in cc)

pub sure-now : (s : Settings) (bytes : List ℕ) (quads : List Parts) (e : EngineState) → Stands s bytes quads e → AreSure s bytes quads
sure-now s bytes quads e h =
    subst (AreSure s bytes) (sym h.quads_are) (sure-told s bytes h.tokens h.said h.state h.streaming (relation 0 bytes h.tokens e.lexer h.lexer) h.walked)

-- ---- what stops

fault-same : (f g : Fault) → ◌≡◌ {A = Go} (Err f) (Err g) → f ≡ g
fault-same f g e = cc

-- in each readable text that begins so the fault that the walk stops at has a cause
stop-cause : (s : Settings) (t : Tree) (given : List Token) (f : Fault) → s.order ≡ Streaming → GoesOn given t → walk_of s given ≡ Err f → IsCause (faults s t) (document_forms s t) f
stop-cause s t given f o g e = by (part-says s t (walk_events given) g.more o g.events_are)
  where
    by : Begins (faults s t) (document_forms s t) (walk_of s given) (says s (root_spot s) t) → IsCause (faults s t) (document_forms s t) f
    by (brings w y h more) = absurd (let x : ◌≡◌ {A = Go} (Ok (w, y)) (Err f) = sym h ∙ e in cc)
    by (stopped g c h) = subst (IsCause (faults s t) (document_forms s t)) (fault-same g f (sym h ∙ e)) c

-- by its code it is one of the document's faults, or a form that isn't built stands there
a-fault : (s : Settings) (t : Tree) (f : Fault) → is_not_yet f.code ≡ false → IsCause (faults s t) (document_forms s t) f → Has (faults s t) f
a-fault s t f y (inl h) = h
a-fault s t f y (inr h) = absurd (let e : true ≡ false = sym (ap is_not_yet h.0) ∙ y in cc)

a-form : (s : Settings) (t : Tree) (f : Fault) → is_not_yet f.code ≡ true → IsCause (faults s t) (document_forms s t) f → Has (document_forms s t) f.at
a-form s t f y (inl h) = absurd (let e : true ≡ false = sym y ∙ faults-built s t f h in cc)
a-form s t f y (inr h) = h.1

-- a walk that stops: each readable text that begins so has the fault, or in each a form that isn't built stands there
pub faulty : (s : Settings) (p : List ℕ) (given : List Token) (f : Fault) → s.order ≡ Streaming → IsFront 0 p given → walk_of s given ≡ Err f → Refusal s p f
faulty s p given f o front e = by (is_not_yet f.code) refl
  where
    cause : (rest : List ℕ) (t : Tree) → ReadsAs (p ++ rest) t → IsCause (faults s t) (document_forms s t) f
    cause rest t r = stop-cause s t given f o (goes-on p given front rest t r) e

    by : (b : Bool) → is_not_yet f.code ≡ b → Refusal s p f
    by true y = by_form (record { begins = front.begins; code_is = not-yet-is f.code y; stands = λ rest t r. a-form s t f y (cause rest t r) })
    by false y = by_fault (record { begins = front.begins; faulty = λ rest t r. a-fault s t f y (cause rest t r) })

-- the tokens of a whole-events text give just its events
whole-events : (bytes : List ℕ) (tree : Tree) (given : List Token) → Reads 0 bytes tree given → tree_events tree [] ≡ walk_events given
whole-events bytes tree given read = sym (read-events 0 bytes tree given read)

whole-on : (bytes : List ℕ) (tree : Tree) (given : List Token) → Reads 0 bytes tree given → GoesOn given tree
whole-on bytes tree given read = record { more = []; events_are = whole-events bytes tree given read ∙ sym (append-nil (walk_events given)) }

-- the same where the document has ended
pub faulty-end : (s : Settings) (bytes : List ℕ) (tree : Tree) (given : List Token) (f : Fault) → s.order ≡ Streaming → Reads 0 bytes tree given → walk_of s given ≡ Err f → EndRefusal s bytes f
faulty-end s bytes tree given f o read e = by (is_not_yet f.code) refl
  where
    cause : (t : Tree) → ReadsAs bytes t → IsCause (faults s t) (document_forms s t) f
    cause t r =
        subst (λ t. IsCause (faults s t) (document_forms s t) f) (one_reading 0 bytes tree t given r.0 read r.1).0
        (stop-cause s tree given f o (whole-on bytes tree given read) e)

    by : (b : Bool) → is_not_yet f.code ≡ b → EndRefusal s bytes f
    by true y = form_at_end (record { tree = tree; reads = (given, read); code_is = not-yet-is f.code y; stands = λ t r. a-form s t f y (cause t r) })
    by false y = fault_at_end (record { tree = tree; reads = (given, read); faulty = λ t r. a-fault s t f y (cause t r) })

-- ---- the end

-- where the walk over a whole-events document goes, the document is accepted, and its quads are all well-formed
pub finished : (s : Settings) (bytes : List ℕ) (tree : Tree) (given : List Token) (q : List Parts) (z : State) → s.order ≡ Streaming → Reads 0 bytes tree given → walk_of s given ≡ Ok (q, z) → IsRead s tree (formed q)
finished s bytes tree given q z o read e = subst (IsRead s tree) (sym (by (read-says s tree o))) (reads-dataset s tree q z o goes)
  where
    goes : run s (tree_events tree []) (at_frames (start s)) ≡ Ok (q, z)
    goes = ap (λ es. run s es (at_frames (start s))) (whole-events bytes tree given read) ∙ e

    by : WalkReads (faults s tree) (document_forms s tree) (run s (tree_events tree []) (at_frames (start s))) (says s (root_spot s) tree) (last_frames s tree) → formed q ≡ q
    by (walk_reads a b h) =
        let same : q ≡ says s (root_spot s) tree = ok-quads q (says s (root_spot s) tree) z (at_frames (last_frames s tree)) (sym goes ∙ h) in
        ap formed same ∙ (all-formed s tree ∙ sym same)
    by (refuses f c h) = absurd (let x : ◌≡◌ {A = Go} (Err f) (Ok (q, z)) = sym h ∙ goes in cc)

-- ---- how an engine goes on

pub stands-new : (s : Settings) (e : EngineState) → s.order ≡ Streaming → context_of e.context ≡ initial s.base → lexed.Stands 0 [] [] e.lexer → e.lexer.ended ≡ false → e.reader ≡ at_start → Keeps s (at_frames (start s)) at_start → e.bytes ≡ 0 →
    e.stopped ≡ None → e.ended ≡ false → Stands s [] [] e
unfolding run
stands-new s e o c l live reader keeps count goes going = record {
  streaming = o;
  context = c;
  tokens = [];
  lexer = l;
  live = live;
  said = [];
  state = at_frames (start s);
  walked = refl;
  keeps = subst (Keeps s (at_frames (start s))) (sym reader) keeps;
  quads_are = refl;
  count = count;
  goes_on = goes;
  going = going;
}

-- the reader goes over the tokens that a lexer gives next as the walk does
next-agrees : StepsKeep → EventsFit → (s : Settings) (bytes : List ℕ) (quads : List Parts) (e : EngineState) (tokens : List Token) (t : Tree) → (h : Stands s bytes quads e) → GoesOn (h.tokens ++ tokens) t →
    Agrees s (run s (walk_events tokens) h.state) (brought e tokens)
next-agrees keep fit s bytes quads e tokens t h g =
    subst (λ c. Agrees s (run s (walk_events tokens) h.state) (steps c (events_of tokens) e.reader)) (sym h.context)
    (all-agree keep s (events_of tokens) h.state e.reader h.streaming h.keeps (tokens-fit fit s t h.tokens tokens h.said h.state h.streaming g h.walked))

-- some readable text goes on behind a byte
pub byte-agrees : StepsKeep → EventsFit → (s : Settings) (bytes : List ℕ) (quads : List Parts) (e : EngineState) (byte : ℕ) (tokens : List Token) → (h : Stands s bytes quads e) → IsFront 0 (bytes ++ byte ∷ []) (h.tokens ++ tokens) →
    Agrees s (run s (walk_events tokens) h.state) (brought e tokens)
byte-agrees keep fit s bytes quads e byte tokens h front =
    let b = front.begins in next-agrees keep fit s bytes quads e tokens b.1 h (goes-on (bytes ++ byte ∷ []) (h.tokens ++ tokens) front b.0 b.1 (b.2, b.3))

pub end-agrees : StepsKeep → EventsFit → (s : Settings) (bytes : List ℕ) (quads : List Parts) (e : EngineState) (tokens : List Token) (t : Tree) → (h : Stands s bytes quads e) → Reads 0 bytes t (h.tokens ++ tokens) →
    Agrees s (run s (walk_events tokens) h.state) (brought e tokens)
end-agrees keep fit s bytes quads e tokens t h read = next-agrees keep fit s bytes quads e tokens t h (whole-on bytes t (h.tokens ++ tokens) read)

-- a byte, with the tokens that it gives
pub grows : (s : Settings) (bytes : List ℕ) (quads : List Parts) (old new : EngineState) (byte : ℕ) (tokens : List Token) (more : List Parts) → (h : Stands s bytes quads old) → lexed.Takes old.lexer new.lexer byte tokens →
    new.lexer.ended ≡ false → new.context ≡ old.context → Goes s (run s (walk_events tokens) h.state) more new.reader → new.bytes ≡ old.bytes + 1 → new.stopped ≡ None → new.ended ≡ false →
    Stands s (bytes ++ byte ∷ []) (quads ++ more) new
grows s bytes quads old new byte tokens more h takes live context g count goes going = record {
  streaming = h.streaming;
  context = ap context_of context ∙ h.context;
  tokens = h.tokens ++ tokens;
  lexer = takes 0 bytes h.tokens h.lexer;
  live = live;
  said = h.said ++ g.said;
  state = g.state;
  walked = walk-more s h.tokens tokens h.said g.said h.state g.state h.walked g.goes;
  keeps = g.keeps;
  quads_are = ap (λ q. q ++ more) h.quads_are ∙ (ap (λ q. formed h.said ++ q) g.quads_are ∙ sym (formed-append h.said g.said));
  count = count ∙ (ap (λ n. n + 1) h.count ∙ sym (length-append bytes (byte ∷ [])));
  goes_on = goes;
  going = going;
}

-- ---- what was put

-- two tests that say the same keep the same
filter-same : (f g : Parts → Bool) → ((q : Parts) → g q ≡ f q) → (quads : List Parts) → filter g quads ≡ filter f quads
filter-same f g same [] = refl
filter-same f g same (q ∷ quads) = ap (λ b. cond b (q ∷ filter g quads) (filter g quads)) (same q) ∙ ap (λ rest. cond (f q) (q ∷ rest) rest) (filter-same f g same quads)

pub put-none : (told tells : List Parts → Type 0) (selects : Parts → Bool) → ((all : List Parts) → told all → tells all) → WerePut told tells selects []
put-none told tells selects h all t = subst tells (sym (append-nil all)) (h all t)

pub put-both : (t0 t1 t2 : List Parts → Type 0) (s0 s1 : Parts → Bool) (a b : List Parts) → ((q : Parts) → s1 q ≡ s0 q) → WerePut t0 t1 s0 a → WerePut t1 t2 s1 b → WerePut t0 t2 s0 (a ++ b)
put-both t0 t1 t2 s0 s1 a b same h k all t =
    subst t2 (append_assoc all (filter s0 a) (filter s0 b) ∙ ap (λ x. all ++ x) (sym (filter-append s0 a b)))
    (subst (λ x. t2 ((all ++ filter s0 a) ++ x)) (filter-same s0 s1 same b) (k (all ++ filter s0 a) (h all t)))

-- ---- what was read

-- a run of bytes that give no token
pub run-stands : (s : Settings) (bytes : List ℕ) (quads : List Parts) (run : List ℕ) (old new : EngineState) → Stands s bytes quads old →
    ((place : ℕ) (p : List ℕ) (given : List Token) → lexed.Stands place p given old.lexer → lexed.Stands place (p ++ run) given new.lexer) →
    new.lexer.ended ≡ false → new.context ≡ old.context → new.reader ≡ old.reader → new.bytes ≡ old.bytes + length run → new.stopped ≡ None → new.ended ≡ false → Stands s (bytes ++ run) quads new
run-stands s bytes quads run old new h runs live context reader count goes going = record {
  streaming = h.streaming;
  context = ap context_of context ∙ h.context;
  tokens = h.tokens;
  lexer = runs 0 bytes h.tokens h.lexer;
  live = live;
  said = h.said;
  state = h.state;
  walked = h.walked;
  keeps = subst (Keeps s h.state) (sym reader) h.keeps;
  quads_are = h.quads_are;
  count = count ∙ (ap (λ n. n + length run) h.count ∙ sym (length-append bytes run));
  goes_on = goes;
  going = going;
}

-- what stands was fed, and put was what it says
pub fed-by : (s : Settings) (bytes : List ℕ) (quads : List Parts) (piece : List ℕ) (more : List Parts) (e : EngineState) (told tells : List Parts → Type 0) (selects : Parts → Bool) →
    Stands s (bytes ++ piece) (quads ++ more) e → WerePut told tells selects more → Fed s bytes quads piece e told tells selects
fed-by s bytes quads piece more e told tells selects h p = record { more = more; stands = h; put = p }

pub fed-run : (s : Settings) (bytes : List ℕ) (quads : List Parts) (run : List ℕ) (e : EngineState) (told : List Parts → Type 0) (selects : Parts → Bool) → Stands s (bytes ++ run) quads e → Fed s bytes quads run e told told selects
fed-run s bytes quads run e told selects h = record {
  more = [];
  stands = subst (λ q. Stands s (bytes ++ run) q e) (sym (append-nil quads)) h;
  put = put-none told told selects (λ all t. t);
}

pub fed-none : (s : Settings) (bytes : List ℕ) (quads : List Parts) (e : EngineState) (told : List Parts → Type 0) (selects : Parts → Bool) → Stands s bytes quads e → Fed s bytes quads [] e told told selects
fed-none s bytes quads e told selects h = fed-run s bytes quads [] e told selects (subst (λ b. Stands s b quads e) (sym (append-nil bytes)) h)

-- more of the piece was read
fed-more : (s : Settings) (bytes : List ℕ) (quads : List Parts) (xs ys : List ℕ) (e1 e2 : EngineState) (t0 t1 t2 : List Parts → Type 0) (s0 s1 : Parts → Bool) → ((q : Parts) → s1 q ≡ s0 q) →
    (a : Fed s bytes quads xs e1 t0 t1 s0) → Fed s (bytes ++ xs) (quads ++ a.more) ys e2 t1 t2 s1 → Fed s bytes quads (xs ++ ys) e2 t0 t2 s0
fed-more s bytes quads xs ys e1 e2 t0 t1 t2 s0 s1 same a b = record {
  more = a.more ++ b.more;
  stands = subst (λ x. Stands s x (quads ++ (a.more ++ b.more)) e2) (append_assoc bytes xs ys) (subst (λ q. Stands s ((bytes ++ xs) ++ ys) q e2) (append_assoc quads a.more b.more) b.stands);
  put = put-both t0 t1 t2 s0 s1 a.more b.more same a.put b.put;
}

pub part-fed : (s : Settings) (bytes : List ℕ) (quads : List Parts) (piece : List ℕ) (at n : ℕ) (e1 e2 : EngineState) (t0 t1 t2 : List Parts → Type 0) (s0 s1 : Parts → Bool) → ((q : Parts) → s1 q ≡ s0 q) →
    (a : Fed s bytes quads (take at piece) e1 t0 t1 s0) → Fed s (bytes ++ take at piece) (quads ++ a.more) (take n (drop at piece)) e2 t1 t2 s1 → Fed s bytes quads (take (at + n) piece) e2 t0 t2 s0
part-fed s bytes quads piece at n e1 e2 t0 t1 t2 s0 s1 same a b =
    subst (λ p. Fed s bytes quads p e2 t0 t2 s0) (sym (take-add at n piece)) (fed-more s bytes quads (take at piece) (take n (drop at piece)) e1 e2 t0 t1 t2 s0 s1 same a b)

-- the whole piece was read
pub whole-fed : (s : Settings) (bytes : List ℕ) (quads : List Parts) (piece : List ℕ) (at : ℕ) (e : EngineState) (told tells : List Parts → Type 0) (selects : Parts → Bool) → length piece ≤ at →
    Fed s bytes quads (take at piece) e told tells selects → Fed s bytes quads piece e told tells selects
whole-fed s bytes quads piece at e told tells selects h a = subst (λ p. Fed s bytes quads p e told tells selects) (take_all at piece h) a

-- ---- why the reading stops

-- the lexer refuses a byte
pub byte-refused : (s : Settings) (bytes : List ℕ) (byte : ℕ) (fault : Fault) → StopsAt 0 bytes byte (lexing.Refused fault) → Refusal s (bytes ++ byte ∷ []) fault
byte-refused s bytes byte fault h = elim (cases_Bool (eqb (0 + length bytes) end_of_places)) [
  | inl e ↦
      let full : 0 + length bytes ≡ end_of_places = eqb-true (0 + length bytes) end_of_places e in
      by_length (record { front = bytes; byte = byte; bytes_are = refl; full = omega (arith, full); fault_is = h.too_long full })
  | inr e ↦ by_text (record { front = bytes; byte = byte; bytes_are = refl; breaks = h.breaks (eqb-false (0 + length bytes) end_of_places e) })
]

-- the lexer refuses the end
pub end-refused : (s : Settings) (bytes : List ℕ) (fault : Fault) → StopsAtEnd 0 bytes (lexing.Refused fault) → EndRefusal s bytes fault
end-refused s bytes fault h = by_end h

-- some of the piece was read, and then what is behind it stopped the reading
put-before : (s : Settings) (bytes : List ℕ) (quads : List Parts) (piece : List ℕ) (more : List Parts) (stop : Stop) (e : EngineState) (t0 t1 t2 : List Parts → Type 0) (s0 s1 : Parts → Bool) → ((q : Parts) → s1 q ≡ s0 q) →
    WerePut t0 t1 s0 more → Stopped s bytes (quads ++ more) piece stop e t1 t2 s1 → Stopped s bytes quads piece stop e t0 t2 s0
put-before s bytes quads piece more stop e t0 t1 t2 s0 s1 same put b = record {
  front = b.front;
  back = b.back;
  piece_is = b.piece_is;
  count = b.count;
  more = more ++ b.more;
  left = subst (λ q. AreLeft s (bytes ++ b.front) q stop) (append_assoc quads more b.more) b.left;
  put = put-both t0 t1 t2 s0 s1 more b.more same put b.put;
  cause = b.cause;
}

pub run-stopped : (s : Settings) (bytes : List ℕ) (quads : List Parts) (run piece : List ℕ) (stop : Stop) (e : EngineState) (told tells : List Parts → Type 0) (selects : Parts → Bool) →
    Stopped s (bytes ++ run) quads piece stop e told tells selects → Stopped s bytes quads (run ++ piece) stop e told tells selects
run-stopped s bytes quads run piece stop e told tells selects b =
    let front : (bytes ++ run) ++ b.front ≡ bytes ++ (run ++ b.front) = append_assoc bytes run b.front in
    record {
      front = run ++ b.front;
      back = b.back;
      piece_is = ap (λ x. run ++ x) b.piece_is ∙ sym (append_assoc run b.front b.back);
      count = b.count ∙ ap length front;
      more = b.more;
      left = subst (λ x. AreLeft s x (quads ++ b.more) stop) front b.left;
      put = b.put;
      cause = subst (λ x. Cause s x stop) front b.cause;
    }

-- the same where the piece begins with what stopped it, of an engine that has stopped there
stopped-wide : (s : Settings) (bytes : List ℕ) (quads : List Parts) (ys zs : List ℕ) (stop : Stop) (old new : EngineState) (told tells : List Parts → Type 0) (selects : Parts → Bool) → new.bytes ≡ old.bytes →
    Stopped s bytes quads ys stop old told tells selects → Stopped s bytes quads (ys ++ zs) stop new told tells selects
stopped-wide s bytes quads ys zs stop old new told tells selects same b = record {
  front = b.front;
  back = b.back ++ zs;
  piece_is = ap (λ y. y ++ zs) b.piece_is ∙ append_assoc b.front b.back zs;
  count = same ∙ b.count;
  more = b.more;
  left = b.left;
  put = b.put;
  cause = b.cause;
}

-- what is left of the piece stopped the reading
pub part-stopped : (s : Settings) (bytes : List ℕ) (quads : List Parts) (piece : List ℕ) (at : ℕ) (stop : Stop) (e1 e2 : EngineState) (t0 t1 t2 : List Parts → Type 0) (s0 s1 : Parts → Bool) → ((q : Parts) → s1 q ≡ s0 q) →
    (a : Fed s bytes quads (take at piece) e1 t0 t1 s0) → Stopped s (bytes ++ take at piece) (quads ++ a.more) (drop at piece) stop e2 t1 t2 s1 → Stopped s bytes quads piece stop e2 t0 t2 s0
part-stopped s bytes quads piece at stop e1 e2 t0 t1 t2 s0 s1 same a b =
    put-before s bytes quads piece a.more stop e2 t0 t1 t2 s0 s1 same a.put
    (subst (λ p. Stopped s bytes (quads ++ a.more) p stop e2 t1 t2 s1) (take-append-drop at piece) (run-stopped s bytes (quads ++ a.more) (take at piece) (drop at piece) stop e2 t1 t2 s1 b))

-- ---- a byte that stops the reading

-- what is left where nothing of the byte was put
pub nothing-left : (s : Settings) (bytes : List ℕ) (quads : List Parts) (byte : ℕ) (stop : Stop) (old : EngineState) → Stands s bytes quads old → AreLeft s (bytes ++ byte ∷ []) (quads ++ []) stop
nothing-left s bytes quads byte (Refused f) old h =
    record { front = bytes; byte = byte; bytes_are = refl; said = (old, subst (λ q. Stands s bytes q old) (sym (append-nil quads)) h) }
nothing-left s bytes quads byte OutFault old h = subst (λ q. AreSure s (bytes ++ byte ∷ []) q) (sym (append-nil quads)) (sure-longer s bytes (byte ∷ []) quads (sure-now s bytes quads old h))
nothing-left s bytes quads byte NoMemory old h = subst (λ q. AreSure s (bytes ++ byte ∷ []) q) (sym (append-nil quads)) (sure-longer s bytes (byte ∷ []) quads (sure-now s bytes quads old h))

-- some of the byte's quads were put, or none
stopped-at : (s : Settings) (bytes : List ℕ) (quads : List Parts) (byte : ℕ) (more : List Parts) (stop : Stop) (old new : EngineState) (told tells : List Parts → Type 0) (selects : Parts → Bool) → Stands s bytes quads old →
    new.bytes ≡ old.bytes + 1 → AreLeft s (bytes ++ byte ∷ []) (quads ++ more) stop → WerePut told tells selects more → Cause s (bytes ++ byte ∷ []) stop → Stopped s bytes quads (byte ∷ []) stop new told tells selects
stopped-at s bytes quads byte more stop old new told tells selects h count left put cause = record {
  front = byte ∷ [];
  back = [];
  piece_is = refl;
  count = count ∙ (ap (λ n. n + 1) h.count ∙ sym (length-append bytes (byte ∷ [])));
  more = more;
  left = left;
  put = put;
  cause = cause;
}

pub byte-stopped : (s : Settings) (bytes : List ℕ) (quads : List Parts) (byte : ℕ) (stop : Stop) (old new : EngineState) (told : List Parts → Type 0) (selects : Parts → Bool) → Stands s bytes quads old →
    new.bytes ≡ old.bytes + 1 → Cause s (bytes ++ byte ∷ []) stop → Stopped s bytes quads (byte ∷ []) stop new told told selects
byte-stopped s bytes quads byte stop old new told selects h count cause =
    stopped-at s bytes quads byte [] stop old new told told selects h count (nothing-left s bytes quads byte stop old h) (put-none told told selects (λ all t. t)) cause

-- what is brought isn't refused, so only the out or memory stopped it
some-left : (s : Settings) (bytes : List ℕ) (quads : List Parts) (stop : Stop) (more : List Parts) (new : Reader) (read : Read) → AreSure s bytes quads →
    read ≡ Ok (more, new) → StopsSaying read stop → AreLeft s bytes quads stop
some-left s bytes quads (Refused f) more new read h e stops = absurd (let no : ◌≡◌ {A = Read} (Ok (more, new)) (Err f) = sym e ∙ stops in cc)
some-left s bytes quads OutFault more new read h e stops = h
some-left s bytes quads NoMemory more new read h e stops = h

-- the reader goes over events as the walk does, and the events of tokens fit
module _ (keep : StepsKeep) (fit : EventsFit) where
  -- what the byte's tokens bring
  pub byte-goes : (s : Settings) (bytes : List ℕ) (quads : List Parts) (byte : ℕ) (tokens : List Token) (more : List Parts) (old : EngineState) (lexer : LexState) (new : Reader) → (h : Stands s bytes quads old) → lexed.Takes old.lexer lexer byte tokens →
      brought old tokens ≡ Ok (more, new) → Goes s (run s (walk_events tokens) h.state) more new
  byte-goes s bytes quads byte tokens more old lexer new h takes e =
      let front = relation 0 (bytes ++ byte ∷ []) (h.tokens ++ tokens) lexer (takes 0 bytes h.tokens h.lexer) in
      reader-goes s (run s (walk_events tokens) h.state) (brought old tokens) more new (byte-agrees keep fit s bytes quads old byte tokens h front) e

  -- an event of the byte's tokens is at fault
  pub events-refused : (s : Settings) (bytes : List ℕ) (quads : List Parts) (byte : ℕ) (tokens : List Token) (fault : Fault) (old : EngineState) (lexer : LexState) → Stands s bytes quads old → lexed.Takes old.lexer lexer byte tokens →
      brought old tokens ≡ Err fault → Refusal s (bytes ++ byte ∷ []) fault
  events-refused s bytes quads byte tokens fault old lexer h takes e =
      let front = relation 0 (bytes ++ byte ∷ []) (h.tokens ++ tokens) lexer (takes 0 bytes h.tokens h.lexer) in
      let stops = reader-stops s (run s (walk_events tokens) h.state) (brought old tokens) fault (byte-agrees keep fit s bytes quads old byte tokens h front) e in
      faulty s (bytes ++ byte ∷ []) (h.tokens ++ tokens) fault h.streaming front (walk-stops s h.tokens tokens h.said h.state fault h.walked stops)

  -- some of the byte's quads were put
  pub puts-stopped : (s : Settings) (bytes : List ℕ) (quads : List Parts) (byte : ℕ) (tokens : List Token) (front back : List Parts) (stop : Stop) (old new : EngineState) (lexer : LexState) (reader : Reader) (told tells : List Parts → Type 0) (selects : Parts → Bool) →
      Stands s bytes quads old → lexed.Takes old.lexer lexer byte tokens → brought old tokens ≡ Ok (front ++ back, reader) → new.bytes ≡ old.bytes + 1 → WerePut told tells selects front → Cause s (bytes ++ byte ∷ []) stop →
      StopsSaying (brought old tokens) stop → Stopped s bytes quads (byte ∷ []) stop new told tells selects
  puts-stopped s bytes quads byte tokens front back stop old new lexer reader told tells selects h takes e count put cause stops =
      let g = byte-goes s bytes quads byte tokens (front ++ back) old lexer reader h takes e in
      let all = walk-more s h.tokens tokens h.said g.said h.state g.state h.walked g.goes in
      let same : formed (h.said ++ g.said) ≡ (quads ++ front) ++ back = formed-append h.said g.said ∙ (ap (λ q. q ++ formed g.said) (sym h.quads_are) ∙ (ap (λ q. quads ++ q) (sym g.quads_are) ∙ sym (append_assoc quads front back))) in
      stopped-at s bytes quads byte front stop old new told tells selects h count
      (some-left s (bytes ++ byte ∷ []) (quads ++ front) stop (front ++ back) reader (brought old tokens)
      (sure-front s (bytes ++ byte ∷ []) (quads ++ front) back
      (subst (λ q. AreSure s (bytes ++ byte ∷ []) q) same
      (sure-told s (bytes ++ byte ∷ []) (h.tokens ++ tokens) (h.said ++ g.said) g.state h.streaming (relation 0 (bytes ++ byte ∷ []) (h.tokens ++ tokens) lexer (takes 0 bytes h.tokens h.lexer)) all)))
      e stops)
      put cause

  -- ---- the end

  -- what the token that the end completes brings
  pub end-goes : (s : Settings) (bytes : List ℕ) (quads : List Parts) (token : Option Token) (more : List Parts) (old : EngineState) (new : Reader) → (h : Stands s bytes quads old) → Ends old.lexer token →
      brought old (option_to_list token) ≡ Ok (more, new) → Goes s (run s (walk_events (option_to_list token)) h.state) more new
  end-goes s bytes quads token more old new h ends e =
      let read = ends 0 bytes h.tokens h.lexer in
      reader-goes s (run s (walk_events (option_to_list token)) h.state) (brought old (option_to_list token)) more new (end-agrees keep fit s bytes quads old (option_to_list token) read.0 h read.1) e

  -- the last token went, and its quads were put
  pub ended : (s : Settings) (bytes : List ℕ) (quads : List Parts) (token : Option Token) (more : List Parts) (old : EngineState) (new : Reader) (told tells : List Parts → Type 0) (selects : Parts → Bool) →
      Stands s bytes quads old → Ends old.lexer token → brought old (option_to_list token) ≡ Ok (more, new) → WerePut told tells selects more → AreSure s bytes (quads ++ more) → Finished s bytes quads told tells selects
  ended s bytes quads token more old new told tells selects h ends e put sure_all =
      let read = ends 0 bytes h.tokens h.lexer in
      let g = end-goes s bytes quads token more old new h ends e in
      let all = walk-more s h.tokens (option_to_list token) h.said g.said h.state g.state h.walked g.goes in
      let same : formed (h.said ++ g.said) ≡ quads ++ more = formed-append h.said g.said ∙ (ap (λ q. q ++ formed g.said) (sym h.quads_are) ∙ ap (λ q. quads ++ q) (sym g.quads_are)) in
      let said = finished s bytes read.0 (h.tokens ++ option_to_list token) (h.said ++ g.said) g.state h.streaming read.1 all in
      record {
        more = more;
        tree = read.0;
        reads = (h.tokens ++ option_to_list token, read.1);
        accepted = said.accepted;
        built = said.built;
        quads_are = subst (λ q. SameSet q (dataset s read.0)) same said.quads_are;
        sure = sure_all;
        put = put;
      }

  -- an event of the last token is at fault
  pub end-events-refused : (s : Settings) (bytes : List ℕ) (quads : List Parts) (token : Option Token) (fault : Fault) (old : EngineState) → Stands s bytes quads old → Ends old.lexer token →
      brought old (option_to_list token) ≡ Err fault → EndRefusal s bytes fault
  end-events-refused s bytes quads token fault old h ends e =
      let read = ends 0 bytes h.tokens h.lexer in
      let stops = reader-stops s (run s (walk_events (option_to_list token)) h.state) (brought old (option_to_list token)) fault (end-agrees keep fit s bytes quads old (option_to_list token) read.0 h read.1) e in
      faulty-end s bytes read.0 (h.tokens ++ option_to_list token) fault h.streaming read.1 (walk-stops s h.tokens (option_to_list token) h.said h.state fault h.walked stops)

-- nothing was put at the end
pub end-stopped : (s : Settings) (bytes : List ℕ) (quads : List Parts) (stop : Stop) (old : EngineState) (told : List Parts → Type 0) (selects : Parts → Bool) → Stands s bytes quads old → EndCause s bytes stop →
    StoppedAtEnd s bytes quads stop told told selects
end-stopped s bytes quads stop old told selects h cause = record {
  more = [];
  said = (old, subst (λ q. Stands s bytes q old) (sym (append-nil quads)) h);
  put = put-none told told selects (λ all t. t);
  cause = cause;
}

-- ==== A number that only the end completes is the whole document, and says nothing.

last_of : Event → List Event → Event
last_of d [] = d
last_of d (e ∷ es) = last_of e es

last-append : (d e : Event) (es : List Event) → last_of d (es ++ e ∷ []) ≡ e
unfolding last_of
last-append d e [] = refl
last-append d e (x ∷ es) = last-append x e es

-- events behind others end as they do
abbrev EndsAs : Event → List Event → List Event → Type 0
EndsAs d es more = (e : Event) × (last_of d es ≡ last_of e more)

mutual
  unfolding last_of tree_events items_events members_events

  tree-ends : (t : Tree) (d : Event) (more : List Event) → EndsAs d (tree_events t more) more
  tree-ends (scalar place v) d more = (a_scalar place v, refl)
  tree-ends (array place xs) d more = let r = items-end xs (opens_array place) (closes ∷ more) in (closes, r.1)
  tree-ends (object place ms) d more = let r = members-end ms (opens_object place) (closes ∷ more) in (closes, r.1)

  items-end : (xs : Trees) (d : Event) (more : List Event) → EndsAs d (items_events xs more) more
  items-end no_item d more = (d, refl)
  items-end (item x rest) d more =
      let a = tree-ends x d (items_events rest more) in
      let b = items-end rest a.0 more in
      (b.0, a.1 ∙ b.1)

  members-end : (ms : Members) (d : Event) (more : List Event) → EndsAs d (members_events ms more) more
  members-end no_member d more = (d, refl)
  members-end (member place n v rest) d more =
      let a = tree-ends v (a_key place n) (members_events rest more) in
      let b = members-end rest a.0 more in
      (b.0, a.1 ∙ b.1)

-- what closes is no number
not-closed : (t : Token) → IsNumberToken t → walked (event_of t) ≡ closes → ⊥
not-closed (tokens.Value place v) n e = cc
not-closed x n e = n

nothing-before : (given : List Token) (x y : Event) → walk_events given ++ x ∷ [] ≡ y ∷ [] → given ≡ []
nothing-before [] x y e = refl
nothing-before (g ∷ []) x y e = cc
nothing-before (g ∷ (h ∷ given)) x y e = cc

alone : (given : List Token) (t : Token) (tree : Tree) → IsNumberToken t → walk_events given ++ walked (event_of t) ∷ [] ≡ tree_events tree [] → given ≡ []
unfolding last_of tree_events tree-ends
alone given t (scalar place v) n e = nothing-before given (walked (event_of t)) (a_scalar place v) e
alone given t (array place xs) n e =
    absurd (not-closed t n (sym (last-append closes (walked (event_of t)) (walk_events given)) ∙ (ap (last_of closes) e ∙ (tree-ends (array place xs) closes []).1)))
alone given t (object place ms) n e =
    absurd (not-closed t n (sym (last-append closes (walked (event_of t)) (walk_events given)) ∙ (ap (last_of closes) e ∙ (tree-ends (object place ms) closes []).1)))

-- at the start a number brings nothing
number-brings : (s : Settings) (t : Token) (q : List Parts) (z : State) → IsNumberToken t → run s (walk_events (t ∷ [])) (at_frames (start s)) ≡ Ok (q, z) → q ≡ []
unfolding run step take_scalar
number-brings s (tokens.Value place (Number digits)) q z n e = sym (ok-quads [] q _ z e)
number-brings s x q z n e = absurd n

none-brings : (s : Settings) (y z : State) (q : List Parts) → run s [] y ≡ Ok (q, z) → q ≡ []
unfolding run
none-brings s y z q e = sym (ok-quads [] q y z e)

state-same : (p q : List Parts) (y z : State) → ◌≡◌ {A = Go} (Ok (p, y)) (Ok (q, z)) → y ≡ z
state-same p q y z e = ap (λ x. x.1) (pair e)
  where
    pair : ◌≡◌ {A = Go} (Ok (p, y)) (Ok (q, z)) → ◌≡◌ {A = List Parts × State} (p, y) (q, z)
    pair e = cc

still-at-start : (s : Settings) (given : List Token) (q : List Parts) (z : State) → given ≡ [] → walk_of s given ≡ Ok (q, z) → at_frames (start s) ≡ z
unfolding run
still-at-start s given q z none e = state-same [] q (at_frames (start s)) z (ap (walk_of s) (sym none) ∙ e)

-- the last token that the end completes brings no quads
pub end-quiet : (s : Settings) (bytes : List ℕ) (quads : List Parts) (token : Option Token) (more : List Parts) (old : EngineState) (new : Reader) → (h : Stands s bytes quads old) → Ends old.lexer token → IfSome token IsNumberToken →
    Goes s (run s (walk_events (option_to_list token)) h.state) more new → more ≡ []
end-quiet s bytes quads None more old new h ends n g = g.quads_are ∙ ap formed (none-brings s h.state g.state g.said g.goes)
end-quiet s bytes quads (Some t) more old new h ends n g =
    let read = ends 0 bytes h.tokens h.lexer in
    let none : h.tokens ≡ [] = alone h.tokens t read.0 n (sym (walk-append h.tokens (t ∷ [])) ∙ read-events 0 bytes read.0 (h.tokens ++ t ∷ []) read.1) in
    let here : at_frames (start s) ≡ h.state = still-at-start s h.tokens h.said h.state none h.walked in
    g.quads_are ∙ ap formed (number-brings s t g.said g.state n (ap (run s (walk_events (t ∷ []))) here ∙ g.goes))

-- ==== What is said for some tokens, and how much of it is put.

-- ---- no quads come before what is read

none_before : (none : List Parts) (read : Read) → none ≡ [] → before none read ≡ read
none_before none read empty = ap (λ q. before q read) empty ∙ before_none read

-- ---- stops

read_stops : (why : FrameStop) (read : Read) → HasCause why read → StopsSaying read (of_reader why)
read_stops (framing.Refused f) read h = h
read_stops framing.NoMemory read h = tt

outside_stops : (stop : Stop) (read : Read) → IsOutside stop → StopsSaying read stop
outside_stops (Refused f) read h = absurd h
outside_stops OutFault read h = tt
outside_stops NoMemory read h = tt

-- ---- quads

some_then : (told now later : List Parts → Type 0) (selects mid : Parts → Bool) (all xs ys : List Parts) → all ≡ xs ++ ys → ((p : Parts) → mid p ≡ selects p) → WerePut told now selects xs → PutSome now later mid ys → PutSome told later selects all
some_then told now later selects mid all xs ys is same a b =
    record {
      front = xs ++ b.front;
      back = b.back;
      quads_are = is ∙ ap (λ y. xs ++ y) b.quads_are ∙ sym (append_assoc xs b.front b.back);
      put = put-both told now later selects mid xs b.front same a b.put;
    }

-- the others were put, or some of them
pub put_then : {Out : Type 0} (r : Result (Unit {0}) Stop) (tells : Out → List Parts → Type 0) (selects : Out → Parts → Bool) (out between later : Out) (all xs ys : List Parts) → all ≡ xs ++ ys → ((p : Parts) → selects between p ≡ selects out p) →
    WerePut (tells out) (tells between) (selects out) xs → Puts r ys tells selects between later → Puts r all tells selects out later
put_then (Ok x) tells selects out between later all xs ys is same a b =
    subst (WerePut (tells out) (tells later) (selects out)) (sym is) (put-both (tells out) (tells between) (tells later) (selects out) (selects between) xs ys same a b)
put_then (Err stop) tells selects out between later all xs ys is same a b =
    (some_then (tells out) (tells between) (tells later) (selects out) (selects between) all xs ys is same a b.0, b.1)

-- some quads were put, and whatever comes of the rest comes of all
pub record Going {Out : Type 0} (tells : Out → List Parts → Type 0) (selects : Out → Parts → Bool) (faults : Out → ℕ) (beside : Out → Out → Type 0) (start mid : Out) (all rest : List Parts) : Type 0 where
  pub put : (r : Result (Unit {0}) Stop) (later : Out) → Puts r rest tells selects mid later → Puts r all tells selects start later
  pub test : (q : Parts) → selects mid q ≡ selects start q
  pub counted : faults mid ≡ faults start
  pub kept : beside start mid

pub goes_on : {Out : Type 0} (tells : Out → List Parts → Type 0) (selects : Out → Parts → Bool) (faults : Out → ℕ) (beside : Out → Out → Type 0) (start mid next : Out) (all rest xs ys : List Parts) →
    ((a b c : Out) → beside a b → beside b c → beside a c) → Going tells selects faults beside start mid all rest → rest ≡ xs ++ ys → Puts (Ok tt) xs tells selects mid next → Leaves {T = Unit {0}} (Ok tt) selects faults beside mid next →
    Going tells selects faults beside start next all ys
goes_on tells selects faults beside start mid next all rest xs ys joins g is a out =
    record {
      put = λ r later p. g.put r later (put_then r tells selects mid next later rest xs ys is out.test a p);
      test = λ q. out.test q ∙ g.test q;
      counted = out.cause.others (λ e. absurd cc) ∙ g.counted;
      kept = joins start mid next g.kept out.kept;
    }

pub stops_on : {Out : Type 0} (tells : Out → List Parts → Type 0) (selects : Out → Parts → Bool) (start mid later : Out) (all rest xs ys : List Parts) (why : Stop) → ((r : Result (Unit {0}) Stop) (later : Out) → Puts r rest tells selects mid later → Puts r all tells selects start later) → rest ≡ xs ++ ys →
    Puts (Err why) xs tells selects mid later → Puts (Err why) all tells selects start later
stops_on tells selects start mid later all rest xs ys why g is p =
    g (Err why) later (record { front = p.0.front; back = p.0.back ++ ys; quads_are = is ∙ ap (λ x. x ++ ys) p.0.quads_are ∙ append_assoc p.0.front p.0.back ys; put = p.0.put }, p.1)

pub ends_on : {Out : Type 0} (tells : Out → List Parts → Type 0) (selects : Out → Parts → Bool) (start mid : Out) (all rest : List Parts) → ((r : Result (Unit {0}) Stop) (later : Out) → Puts r rest tells selects mid later → Puts r all tells selects start later) → rest ≡ [] → Puts (Ok tt) all tells selects start mid
ends_on tells selects start mid all rest g e = g (Ok tt) mid (subst (WerePut (tells mid) (tells mid) (selects mid)) (sym e) (put-none (tells mid) (tells mid) (selects mid) (λ all t. t)))

-- ---- what was said

said_nothing : (read : Read) (told : List Parts → Type 0) (selects : Parts → Bool) → SaysSome read told told selects
said_nothing read told selects = record { front = []; first = inl refl; put = put-none told told selects (λ all t. t) }

said_by : {Out : Type 0} (r : Result (Unit {0}) Stop) (read : Read) (new : Reader) (quads : List Parts) (tells : Out → List Parts → Type 0) (selects : Out → Parts → Bool) (out later : Out) → read ≡ Ok (quads, new) →
    Puts r quads tells selects out later → SaysBy r read new (tells out) (tells later) (selects out)
said_by (Ok x) read new quads tells selects out later e put = record { more = quads; read_is = e; put = put }
said_by (Err stop) read new quads tells selects out later e (put, outside) =
    (record { front = put.front; first = inr (put.back, new, e ∙ ap (λ q. Ok (q, new)) put.quads_are); put = put.put }, outside_stops stop read outside)

-- what was told to the engine was put, or some of it
pub says_told : {Out : Type 0} (r : Result (Unit {0}) Stop) (tokens : List Token) (old new : EngineState) (none quads : List Parts) (tells : Out → List Parts → Type 0) (selects : Out → Parts → Bool) (out later : Out) → none ≡ [] →
    Tells (Ok tt) (events_of tokens) none quads old new → Puts r quads tells selects out later → SaysTo r tokens old new tells selects out later
says_told r tokens old new none quads tells selects out later empty h put = record {
  says = said_by r (brought old tokens) new.reader quads tells selects out later (sym (none_before none (brought old tokens) empty) ∙ h.reads) put;
  kept = h.kept;
}

-- the reader stopped, and nothing was put
pub says_none : {Out : Type 0} (why : FrameStop) (stop : Stop) (tokens : List Token) (old new : EngineState) (none quads : List Parts) (tells : Out → List Parts → Type 0) (selects : Out → Parts → Bool) (out : Out) → stop ≡ of_reader why →
    Tells (Err why) (events_of tokens) none quads old new → SaysTo (Err stop) tokens old new tells selects out out
says_none why stop tokens old new none quads tells selects out same h = record {
  says = (said_nothing (brought old tokens) (tells out) (selects out), subst (StopsSaying (brought old tokens)) (sym same) (read_stops why (brought old tokens) h.reads));
  kept = h.kept;
}

-- ==== What one byte and the end say.

-- ---- a byte

-- the lexer stops at it
pub byte-fails : (s : Settings) (bytes : List ℕ) (quads : List Parts) (byte : ℕ) (why : LexStop) (old new : EngineState) (told : List Parts → Type 0) (selects : Parts → Bool) → Stands s bytes quads old →
    new.bytes ≡ old.bytes + 1 → StopsAt 0 bytes byte why → Stopped s bytes quads (byte ∷ []) (of_lexer why) new told told selects
byte-fails s bytes quads byte (lexing.Refused f) old new told selects h count stops =
    byte-stopped s bytes quads byte (Refused f) old new told selects h count (byte-refused s bytes byte f stops)
byte-fails s bytes quads byte lexing.NoMemory old new told selects h count stops =
    byte-stopped s bytes quads byte NoMemory old new told selects h count tt

-- what it completes is said
byte-said : (s : Settings) (bytes : List ℕ) (quads : List Parts) (byte : ℕ) (tokens : List Token) (old new : EngineState) (told tells : List Parts → Type 0) (selects : Parts → Bool) → Stands s bytes quads old →
    lexed.Takes old.lexer new.lexer byte tokens → new.lexer.ended ≡ false → new.context ≡ old.context →
    new.bytes ≡ old.bytes + 1 → new.stopped ≡ old.stopped → new.ended ≡ old.ended → Says (brought old tokens) new.reader told tells selects → Fed s bytes quads (byte ∷ []) new told tells selects
byte-said s bytes quads byte tokens old new told tells selects h takes live context count goes going says =
    fed-by s bytes quads (byte ∷ []) says.more new told tells selects
    (grows s bytes quads old new byte tokens says.more h takes live context (byte-goes steps-keep events-fit s bytes quads byte tokens says.more old new.lexer new.reader h takes says.read_is) count (goes ∙ h.goes_on) (going ∙ h.going)) says.put

pub kept-bytes : (mid new : EngineState) → new ≡ record mid { reader = new.reader } → new.bytes ≡ mid.bytes
kept-bytes mid new kept = ap (λ e. e.bytes) kept

-- the same, where only the reader has changed since the lexer took it
pub byte-kept : (s : Settings) (bytes : List ℕ) (quads : List Parts) (byte : ℕ) (tokens : List Token) (old mid new : EngineState) (told tells : List Parts → Type 0) (selects : Parts → Bool) → Stands s bytes quads old →
    lexed.Takes old.lexer mid.lexer byte tokens → mid.lexer.ended ≡ false → mid.context ≡ old.context → mid.bytes ≡ old.bytes + 1 → mid.stopped ≡ old.stopped → mid.ended ≡ old.ended →
    new ≡ record mid { reader = new.reader } → Says (brought old tokens) new.reader told tells selects →
    Fed s bytes quads (byte ∷ []) new told tells selects
byte-kept s bytes quads byte tokens old mid new told tells selects h takes live context count goes going kept says =
    byte-said s bytes quads byte tokens old new told tells selects h
    (λ place p given st. subst (lexed.Stands place (p ++ byte ∷ []) (given ++ tokens)) (sym (ap (λ e. e.lexer) kept)) (takes place p given st))
    (ap (λ e. e.lexer.ended) kept ∙ live) (ap (λ e. e.context) kept ∙ context) (ap (λ e. e.bytes) kept ∙ count) (ap (λ e. e.stopped) kept ∙ goes) (ap (λ e. e.ended) kept ∙ going) says

-- why what it completes isn't said
unsaid-cause : (s : Settings) (bytes : List ℕ) (quads : List Parts) (byte : ℕ) (tokens : List Token) (stop : Stop) (old : EngineState) (lexer : LexState) → Stands s bytes quads old → lexed.Takes old.lexer lexer byte tokens →
    StopsSaying (brought old tokens) stop → Cause s (bytes ++ byte ∷ []) stop
unsaid-cause s bytes quads byte tokens (Refused f) old lexer h takes e = events-refused steps-keep events-fit s bytes quads byte tokens f old lexer h takes e
unsaid-cause s bytes quads byte tokens OutFault old lexer h takes e = tt
unsaid-cause s bytes quads byte tokens NoMemory old lexer h takes e = tt

pub byte-unsaid : (s : Settings) (bytes : List ℕ) (quads : List Parts) (byte : ℕ) (tokens : List Token) (stop : Stop) (old new : EngineState) (lexer : LexState) (told tells : List Parts → Type 0) (selects : Parts → Bool) → Stands s bytes quads old →
    lexed.Takes old.lexer lexer byte tokens → new.bytes ≡ old.bytes + 1 → SaysSome (brought old tokens) told tells selects → StopsSaying (brought old tokens) stop → Stopped s bytes quads (byte ∷ []) stop new told tells selects
byte-unsaid s bytes quads byte tokens stop old new lexer told tells selects h takes count some stops = by some.front some.first some.put
  where
    cause : Cause s (bytes ++ byte ∷ []) stop
    cause = unsaid-cause s bytes quads byte tokens stop old lexer h takes stops

    by : (front : List Parts) → AreFirst (brought old tokens) front → WerePut told tells selects front → Stopped s bytes quads (byte ∷ []) stop new told tells selects
    by front (inl e) put = stopped-at s bytes quads byte [] stop old new told tells selects h count (nothing-left s bytes quads byte stop old h) (subst (WerePut told tells selects) e put) cause
    by front (inr (back, reader, e)) put = puts-stopped steps-keep events-fit s bytes quads byte tokens front back stop old new lexer reader told tells selects h takes e count put cause stops

-- ---- the end

pub end-fails : (s : Settings) (bytes : List ℕ) (quads : List Parts) (why : LexStop) (old : EngineState) (told : List Parts → Type 0) (selects : Parts → Bool) → Stands s bytes quads old →
    StopsAtEnd 0 bytes why → StoppedAtEnd s bytes quads (of_lexer why) told told selects
end-fails s bytes quads (lexing.Refused f) old told selects h stops = end-stopped s bytes quads (Refused f) old told selects h (end-refused s bytes f stops)
end-fails s bytes quads lexing.NoMemory old told selects h stops = absurd stops

end-said : (s : Settings) (bytes : List ℕ) (quads : List Parts) (token : Option Token) (old : EngineState) (new : Reader) (told tells : List Parts → Type 0) (selects : Parts → Bool) → Stands s bytes quads old →
    Ends old.lexer token → IfSome token IsNumberToken → Says (brought old (option_to_list token)) new told tells selects → Finished s bytes quads told tells selects
end-said s bytes quads token old new told tells selects h ends number all =
    let none : all.more ≡ [] = end-quiet s bytes quads token all.more old new h ends number (end-goes steps-keep events-fit s bytes quads token all.more old new h ends all.read_is) in
    let same_quads : quads ≡ quads ++ all.more = sym (append-nil quads) ∙ ap (λ m. quads ++ m) (sym none) in
    ended steps-keep events-fit s bytes quads token all.more old new told tells selects h ends all.read_is all.put
    (subst (λ q. AreSure s bytes q) same_quads (sure-now s bytes quads old h))

unsaid-end : (s : Settings) (bytes : List ℕ) (quads : List Parts) (token : Option Token) (stop : Stop) (old : EngineState) → Stands s bytes quads old → Ends old.lexer token → StopsSaying (brought old (option_to_list token)) stop → EndCause s bytes stop
unsaid-end s bytes quads token (Refused f) old h ends e = end-events-refused steps-keep events-fit s bytes quads token f old h ends e
unsaid-end s bytes quads token OutFault old h ends e = tt
unsaid-end s bytes quads token NoMemory old h ends e = tt

nothing-first : {A : Type 0} (xs ys : List A) → xs ++ ys ≡ [] → xs ≡ []
nothing-first [] ys e = refl
nothing-first (x ∷ xs) ys e = cc

-- what the end completes brings no quads, so none is put
end-unsaid : (s : Settings) (bytes : List ℕ) (quads : List Parts) (token : Option Token) (stop : Stop) (old : EngineState) (told tells : List Parts → Type 0) (selects : Parts → Bool) → Stands s bytes quads old →
    Ends old.lexer token → IfSome token IsNumberToken → SaysSome (brought old (option_to_list token)) told tells selects → StopsSaying (brought old (option_to_list token)) stop → StoppedAtEnd s bytes quads stop told tells selects
end-unsaid s bytes quads token stop old told tells selects h ends number some stops =
    record {
      more = [];
      said = (old, subst (λ q. Stands s bytes q old) (sym (append-nil quads)) h);
      put = subst (WerePut told tells selects) (none some.front some.first) some.put;
      cause = unsaid-end s bytes quads token stop old h ends stops;
    }
  where
    none : (front : List Parts) → AreFirst (brought old (option_to_list token)) front → front ≡ []
    none front (inl e) = e
    none front (inr (back, new, e)) =
        nothing-first front back (end-quiet s bytes quads token (front ++ back) old new h ends number (end-goes steps-keep events-fit s bytes quads token (front ++ back) old new h ends e))

-- what the end completes is said to an out, by an engine whose lexer has ended
pub end-answers : {Out : Type 0} (r : Result (Unit {0}) Stop) (token : Option Token) (old new : EngineState) (lexer : LexState) (tells : Out → List Parts → Type 0) (selects : Out → Parts → Bool) (out later : Out) →
    Ends old.lexer token → IfSome token IsNumberToken → SaysTo r (option_to_list token) (record old { lexer = lexer }) new tells selects out later → OnOk r (IsFinished old tells selects out later)
end-answers (Ok x) token old new lexer tells selects out later ends number says =
    λ s bytes quads h. end-said s bytes quads token old new.reader (tells out) (tells later) (selects out) h ends number says.says
end-answers (Err stop) token old new lexer tells selects out later ends number says = tt

pub end-stops : {Out : Type 0} (r : Result (Unit {0}) Stop) (token : Option Token) (old new : EngineState) (lexer : LexState) (tells : Out → List Parts → Type 0) (selects : Out → Parts → Bool) (out later : Out) →
    Ends old.lexer token → IfSome token IsNumberToken → SaysTo r (option_to_list token) (record old { lexer = lexer }) new tells selects out later → IfErr r (λ stop. IsStoppedAtEnd stop old tells selects out later)
end-stops (Ok x) token old new lexer tells selects out later ends number says = tt
end-stops (Err stop) token old new lexer tells selects out later ends number says =
    λ s bytes quads h. end-unsaid s bytes quads token stop old (tells out) (tells later) (selects out) h ends number says.says.0 says.says.1

-- ---- bytes that complete no token, and then others

-- an engine whose lexer has read them
abbrev pub run-engine : EngineState → LexState → List ℕ → EngineState
run-engine old lexer run = record old { lexer = lexer; bytes = old.bytes + length run }

pub run-before : (s : Settings) (bytes : List ℕ) (quads : List Parts) (run : List ℕ) (old : EngineState) (lexer : LexState) → Stands s bytes quads old → Runs old.lexer lexer run → lexer.ended ≡ old.lexer.ended →
    Stands s (bytes ++ run) quads (run-engine old lexer run)
run-before s bytes quads run old lexer h runs live = run-stands s bytes quads run old (run-engine old lexer run) h runs (live ∙ h.live) refl refl refl h.goes_on h.going

pub run-fed : (s : Settings) (bytes : List ℕ) (quads : List Parts) (run piece : List ℕ) (e : EngineState) (told tells : List Parts → Type 0) (selects : Parts → Bool) →
    Fed s (bytes ++ run) quads piece e told tells selects → Fed s bytes quads (run ++ piece) e told tells selects
run-fed s bytes quads run piece e told tells selects f = record {
  more = f.more;
  stands = subst (λ b. Stands s b (quads ++ f.more) e) (append_assoc bytes run piece) f.stands;
  put = f.put;
}

-- the front of a piece stopped the reading
pub front-stopped : (s : Settings) (bytes : List ℕ) (quads : List Parts) (n : ℕ) (piece : List ℕ) (stop : Stop) (e : EngineState) (told tells : List Parts → Type 0) (selects : Parts → Bool) →
    Stopped s bytes quads (take n piece) stop e told tells selects → Stopped s bytes quads piece stop e told tells selects
front-stopped s bytes quads n piece stop e told tells selects b =
    subst (λ p. Stopped s bytes quads p stop e told tells selects) (take-append-drop n piece) (stopped-wide s bytes quads (take n piece) (drop n piece) stop e e told tells selects refl b)

-- the rest of a piece, as a slice of it
pub rest_is : (piece : List ℕ) (at : ℕ) → take (length piece - at) (drop at piece) ≡ drop at piece
rest_is piece at = let e : length (drop at piece) ≡ length piece - at = length-drop at piece in take_all (length piece - at) (drop at piece) (omega (arith, e))

-- an engine that has stopped there
pub stopped-there : (s : Settings) (bytes : List ℕ) (quads : List Parts) (piece : List ℕ) (stop : Stop) (old new : EngineState) (told tells : List Parts → Type 0) (selects : Parts → Bool) → new.bytes ≡ old.bytes →
    Stopped s bytes quads piece stop old told tells selects → Stopped s bytes quads piece stop new told tells selects
stopped-there s bytes quads piece stop old new told tells selects same b =
    subst (λ p. Stopped s bytes quads p stop new told tells selects) (append-nil piece) (stopped-wide s bytes quads piece [] stop old new told tells selects same b)
