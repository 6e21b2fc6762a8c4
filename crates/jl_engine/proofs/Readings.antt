-- What readings bring, in parts: of events that were held, and of the tokens of a byte.
use Rattle.std.proofs.Common.{◌≡◌, true, List, [], ◌∷◌, ◌++◌, Result, Ok, Err, refl, sym, ap, ◌∙◌, append_assoc, append-nil, ℕ, ◌+◌, ◌-◌, ◌^◌, ◌≤◌, min, length, take, subst, arith, length-append}
use Rattle.std.proofs.lemmas.List.{length-take}
use Rattle.jl_model.specs.Parts.{Parts}
use Rattle.jl_model.specs.declared.faults.Fault.{Fault}
use Rattle.jl_model.specs.declared.tokens.Token.{Token}
use Rattle.jl_token.specs.declared.states.LexState.{LexState}
use Rattle.jl_token.specs.Lexed as lexed
use Rattle.jl_defs.specs.Context.{Context}
use Rattle.jl_context.specs.Contexts.{context_of}
use Rattle.jl_frames.specs.Answers.{HasCause}
use Rattle.jl_frames.specs.Machine.{Step}
use Rattle.jl_frames.specs.declared.states.FrameStop.{FrameStop}
use Rattle.jl_frames.specs.declared.states.StackState.{StackState}
use Rattle.jl_frames.specs.declared.states.FrameStop.TheVariants as stop
use Rattle.jl_engine.specs.Moves.{after, Moves}
use Rattle.jl_engine.specs.Reading.{Read, before, then_reads, on_stack, Reads, at_step, replay, still, step, steps}
use Rattle.jl_engine.specs.declared.events.Event.{Event}
use Rattle.jl_engine.specs.declared.readers.Reader.{Reader}
use Rattle.jl_engine.specs.Saying.{brings, Tells}
use Rattle.jl_engine.specs.TreeEvents.{events_of}
use Rattle.jl_engine.specs.declared.engines.EngineState.{EngineState}
use Rattle.jl_engine.proofs.TokensOfTrees.{events-of-append}

-- ==== What readings bring, in parts.

pub before_none : (read : Read) → before [] read ≡ read
before_none (Ok (quads, r)) = refl
before_none (Err f) = refl

before_stack : (old : List Parts) (s : Step) (r : Reader) → before old (on_stack s r) ≡ on_stack (after old s) r
before_stack old (Ok (quads, k)) r = refl
before_stack old (Err f) r = refl

-- a move on the stack
pub moved : (result : Result (Unit {0}) FrameStop) (old new : List Parts) (s : Step) (k : StackState) (r : Reader) → Moves result old s new k → Reads result old (on_stack s r) new (record r { stack = k })
moved (Ok done) old new s k r e = before_stack old s r ∙ ap (λ t. on_stack t r) e
moved (Err (stop.Refused f)) old new s k r e = ap (λ t. on_stack t r) e
moved (Err stop.NoMemory) old new s k r e = tt

before_both : (old quads : List Parts) (read : Read) → before old (before quads read) ≡ before (old ++ quads) read
before_both old quads (Ok (more, r)) = ap (λ q. Ok (q, r)) (sym (append_assoc old quads more))
before_both old quads (Err f) = refl

pub before_then : (old : List Parts) (read : Read) (next : Reader → Read) → before old (then_reads read next) ≡ then_reads (before old read) next
before_then old (Ok (quads, r)) next = before_both old quads (next r)
before_then old (Err f) next = refl

-- what stops the first stops both
pub stops_first : (why : FrameStop) (read : Read) (next : Reader → Read) → HasCause why read → HasCause why (then_reads read next)
stops_first (stop.Refused f) read next e = ap (λ t. then_reads t next) e
stops_first stop.NoMemory read next e = tt

err_after : (f : Fault) (old : List Parts) (read : Read) → before old read ≡ Err f → read ≡ Err f
err_after f old (Ok x) e = absurd cc
err_after f old (Err g) e = e

pub stops_after : (why : FrameStop) (old : List Parts) (all rest : Read) (quads : List Parts) → before old all ≡ before quads rest → HasCause why rest → HasCause why all
stops_after (stop.Refused f) old all rest quads same e = err_after f old all (same ∙ ap (before quads) e)
stops_after stop.NoMemory old all rest quads same e = tt

-- ---- what was held

pub replay_more : (c : Context) (e : Event) (es : List Event) (quads more : List Parts) (r next : Reader) → before quads (at_step c true e r) ≡ Ok (more, next) → before quads (replay c (e ∷ es) r) ≡ before more (replay c es next)
unfolding replay
replay_more c e es quads more r next h = before_then quads (at_step c true e r) (replay c es) ∙ ap (λ t. then_reads t (replay c es)) h

pub replay_stops : (c : Context) (e : Event) (es : List Event) (r : Reader) (why : FrameStop) → HasCause why (at_step c true e r) → HasCause why (replay c (e ∷ es) r)
unfolding replay
replay_stops c e es r why h = stops_first why (at_step c true e r) (replay c es) h

pub replay_nothing : (c : Context) (es : List Event) (quads : List Parts) (r : Reader) → es ≡ [] → before quads (replay c es r) ≡ Ok (quads, r)
unfolding replay
replay_nothing c [] quads r e = ap (λ q. Ok (q, r)) (append-nil quads)
replay_nothing c (x ∷ es) quads r e = absurd cc

then_both : (read : Read) (all next last : Reader → Read) → ((r : Reader) → all r ≡ then_reads (next r) last) → then_reads read all ≡ then_reads (then_reads read next) last
then_both (Ok (quads, r)) all next last e = ap (before quads) (e r) ∙ before_then quads (next r) last
then_both (Err f) all next last e = refl

replay_both : (c : Context) (es fs : List Event) (r : Reader) → replay c (es ++ fs) r ≡ then_reads (replay c es r) (replay c fs)
unfolding replay
replay_both c [] fs r = sym (before_none (replay c fs r))
replay_both c (e ∷ es) fs r = then_both (at_step c true e r) (replay c (es ++ fs)) (replay c es) (replay c fs) (replay_both c es fs)

pub run_told : (c : Context) (es fs : List Event) (quads more : List Parts) (r next : Reader) → before quads (replay c es r) ≡ Ok (more, next) → before quads (replay c (es ++ fs) r) ≡ before more (replay c fs next)
run_told c es fs quads more r next h = ap (before quads) (replay_both c es fs r) ∙ before_then quads (replay c es r) (replay c fs) ∙ ap (λ t. then_reads t (replay c fs)) h

pub run_stops : (c : Context) (es fs : List Event) (r : Reader) (why : FrameStop) → HasCause why (replay c es r) → HasCause why (replay c (es ++ fs) r)
run_stops c es fs r why h = subst (HasCause why) (sym (replay_both c es fs r)) (stops_first why (replay c es r) (replay c fs) h)

-- ==== The tokens of a byte, one after another.

-- ---- steps, one after another

then-then : (t : Read) (f g : Reader → Read) → then_reads (then_reads t f) g ≡ then_reads t (λ r. then_reads (f r) g)
then-then (Ok (q, r)) f g = sym (before_then q (f r) g)
then-then (Err e) f g = refl

then-same : (t : Read) (f g : Reader → Read) → ((r : Reader) → f r ≡ g r) → then_reads t f ≡ then_reads t g
then-same (Ok (q, r)) f g h = ap (before q) (h r)
then-same (Err e) f g h = refl

then-still : (t : Read) → then_reads t still ≡ t
then-still (Ok (q, r)) = ap (λ x. Ok (x, r)) (append-nil q)
then-still (Err f) = refl

steps-append : (c : Context) (xs ys : List Event) (r : Reader) → steps c (xs ++ ys) r ≡ then_reads (steps c xs r) (steps c ys)
unfolding steps
steps-append c [] ys r = sym (before_none (steps c ys r))
steps-append c (e ∷ es) ys r =
    then-same (step c e r) (steps c (es ++ ys)) (λ n. then_reads (steps c es n) (steps c ys)) (λ n. steps-append c es ys n) ∙ sym (then-then (step c e r) (steps c es) (steps c ys))

-- one event
one_step : (c : Context) (e : Event) (r : Reader) → steps c (e ∷ []) r ≡ step c e r
unfolding steps
one_step c e r = then-same (step c e r) (steps c []) still (λ n. refl) ∙ then-still (step c e r)

-- ---- the tokens of a byte

tokens_both : (c : Context) (xs ys : List Token) (r : Reader) → steps c (events_of (xs ++ ys)) r ≡ then_reads (steps c (events_of xs) r) (steps c (events_of ys))
tokens_both c xs ys r = ap (λ es. steps c es r) (events-of-append xs ys) ∙ steps-append c (events_of xs) (events_of ys) r

after_first : (old mid : List Parts) (m : Reader) (t : Read) (next : Reader → Read) → before old t ≡ Ok (mid, m) → before old (then_reads t next) ≡ before mid (next m)
after_first old mid m t next e = before_then old t next ∙ ap (λ x. then_reads x next) e

tokens_on : (c d : Context) (xs ys zs : List Token) (r m : Reader) (old mid : List Parts) → d ≡ c → zs ≡ ys → before old (steps c (events_of xs) r) ≡ Ok (mid, m)
    → before old (steps c (events_of (xs ++ ys)) r) ≡ before mid (steps d (events_of zs) m)
tokens_on c d xs ys zs r m old mid same tokens e =
    ap (before old) (tokens_both c xs ys r)
    ∙ (after_first old mid m (steps c (events_of xs) r) (steps c (events_of ys)) e
    ∙ (ap (λ w. before mid (steps w (events_of ys) m)) (sym same) ∙ ap (λ w. before mid (steps d (events_of w) m)) (sym tokens)))

-- what comes behind other events does what all of them do
pub reads_on : (result : Result (Unit {0}) FrameStop) (old mid now : List Parts) (t u : Read) (new : Reader) → before old t ≡ before mid u → Reads result mid u now new → Reads result old t now new
reads_on (Ok x) old mid now t u new e h = e ∙ h
reads_on (Err why) old mid now t u new e h = stops_after why old t u mid e h

-- ---- what is told to an engine

-- nothing
pub tells_none : (e : EngineState) (quads : List Parts) → Tells (Ok tt) [] quads quads e e
unfolding steps
tells_none e quads = record { reads = ap (λ q. Ok (q, e.reader)) (append-nil quads); kept = refl }

-- one event
pub tells_one : (result : Result (Unit {0}) FrameStop) (e : EngineState) (event : Event) (quads now : List Parts) (new : Reader) → Reads result quads (step (context_of e.context) event e.reader) now new →
    Tells result (event ∷ []) quads now e (record e { reader = new })
tells_one result e event quads now new h = record { reads = subst (λ t. Reads result quads t now new) (sym (one_step (context_of e.context) event e.reader)) h; kept = refl }

-- the same of an equal event
pub tells_as : (result : Result (Unit {0}) FrameStop) (e : EngineState) (given event : Event) (quads now : List Parts) (new : Reader) → given ≡ event → Reads result quads (step (context_of e.context) given e.reader) now new →
    Tells result (event ∷ []) quads now e (record e { reader = new })
tells_as result e given event quads now new same h = tells_one result e event quads now new (subst (λ x. Reads result quads (step (context_of e.context) x e.reader) now new) same h)

-- some tokens, and then others
pub tells_both : (result : Result (Unit {0}) FrameStop) (xs ys zs : List Token) (quads mid now : List Parts) (old between new : EngineState) → (h : Tells (Ok tt) (events_of xs) quads mid old between) → zs ≡ ys →
    Tells result (events_of zs) mid now between new → Tells result (events_of (xs ++ ys)) quads now old new
tells_both result xs ys zs quads mid now old between new h same k = record {
  reads =
      reads_on result quads mid now (brings old (events_of (xs ++ ys))) (brings between (events_of zs)) new.reader
      (tokens_on (context_of old.context) (context_of between.context) xs ys zs old.reader between.reader quads mid (ap (λ e. context_of e.context) h.kept) same h.reads) k.reads;
  kept = k.kept ∙ ap {A = EngineState} {B = EngineState} (λ e. record e { reader = new.reader }) h.kept;
}

-- the first of them stop the reader
pub tells_stop : (why : FrameStop) (xs ys : List Token) (quads now later : List Parts) (old new : EngineState) → Tells (Err why) (events_of xs) quads now old new → Tells (Err why) (events_of (xs ++ ys)) quads later old new
tells_stop why xs ys quads now later old new h = record {
  reads =
      subst (HasCause why) (sym (tokens_both (context_of old.context) xs ys old.reader))
      (stops_first why (steps (context_of old.context) (events_of xs) old.reader) (steps (context_of old.context) (events_of ys)) h.reads);
  kept = h.kept;
}

-- ---- the count of bytes

pub run_more : (bytes run : List ℕ) (given : List Token) (l : LexState) (n count : ℕ) → lexed.Stands 0 (bytes ++ run) given l → count ≡ length bytes → n ≡ l.reading.at → n ≡ count + length run
run_more bytes run given l n count h c e =
    let at = h.reading.at_is in
    let all : length (bytes ++ run) ≡ length bytes + length run = length-append bytes run in
    omega (arith, at, all, c, e)

-- a byte behind them
pub last_more : (bytes run : List ℕ) (last : ℕ) (given : List Token) (l : LexState) (n count : ℕ) → lexed.Stands 0 ((bytes ++ run) ++ last ∷ []) given l → count ≡ length bytes → n ≡ l.reading.at → n ≡ count + length run + 1
last_more bytes run last given l n count h c e =
    let at = h.reading.at_is in
    let all : length ((bytes ++ run) ++ last ∷ []) ≡ length (bytes ++ run) + 1 = length-append (bytes ++ run) (last ∷ []) in
    let front : length (bytes ++ run) ≡ length bytes + length run = length-append bytes run in
    omega (arith, at, all, front, c, e)

-- the same at a byte that isn't taken
pub stopped_more : (bytes run : List ℕ) (last some : ℕ) (given : List Token) (l : LexState) (piece : List ℕ) (n count : ℕ) → lexed.Stands 0 bytes given l → take some piece ≡ run ++ last ∷ [] → some ≤ length piece → l.reading.at + some ≤ 2 ^ 40 + 1 →
    count ≡ length bytes → n ≡ min (count + some) (2 ^ 64 - 1) → n ≡ count + length run + 1
stopped_more bytes run last some given l piece n count h is within places c e =
    let at = h.reading.at_is in
    let all : length (take some piece) ≡ length run + 1 = ap length is ∙ length-append run (last ∷ []) in
    let len : length (take some piece) ≡ min some (length piece) = length-take some piece in
    omega (arith, at, all, len, within, places, c, e)
