use Rattle.std.proofs.Common.{◌≡◌, ◌+◌, ◌-◌, ◌≤◌, ◌++◌, [], ◌∷◌, length, refl, subst, sym, ap, ◌∙◌, take, arith}
use Rattle.std.proofs.lemmas.List.{take_all}
use Rattle.std.specs.Prelude.{IfSome}
use Rattle.jl_token.specs.Lexed.{Takes, told}
use Rattle.jl_token.specs.Nexts.{TakesUpTo}
use Rattle.jl_engine.specs.Standing.{Fed, Stopped}
use Rattle.jl_engine.specs.Stops.{of_lexer}
use Rattle.jl_engine.specs.declared.engines.EngineState.{EngineState}
use Rattle.jl_engine.proofs.Feeding.{run-engine, run-before, run-fed, run-stopped, front-stopped, byte-fails, byte-kept, byte-unsaid, kept-bytes, run-stands, fed-run}
use Rattle.jl_engine.proofs.Readings.{run_more, last_more, stopped_more}
use Rattle.jl_engine.proofs.engines.EngineState.feed_some.Goals as goal

pub returns-in-Nothing-clause-fed : goal.returns-in-Nothing-clause-fed
returns-in-Nothing-clause-fed g c = λ s bytes quads h.
    let old = c.args.self.now in
    let piece = c.args.piece.now in
    let new = record old { lexer = c.next.new.self; bytes = c.place-self.result } in
    let runs = c.in-Nothing.ensures.reached h.lexer.goes_on in
    subst (λ p. Fed s bytes quads p new (g.O.QuadOut.tells c.args.out.now) (g.O.QuadOut.tells c.args.out.now) (g.O.QuadOut.selects c.args.out.now)) (sym (take_all (length piece) piece (let l : length piece ≤ length piece = omega arith in l)))
    (fed-run s bytes quads piece new (g.O.QuadOut.tells c.args.out.now) (g.O.QuadOut.selects c.args.out.now)
    (run-stands s bytes quads piece old new h runs c.next.ensures.still_live refl refl
    (run_more bytes piece h.tokens c.next.new.self c.place-self.result old.bytes (runs 0 bytes h.tokens h.lexer) h.count c.place-self.ensures.place) h.goes_on h.going))

pub returns-in-Ok-clause-fed : goal.returns-in-Ok-clause-fed
returns-in-Ok-clause-fed g c = λ s bytes quads h.
    let old = c.args.self.now in
    let lexer = c.next.new.self in
    let new = c.say.new.self in
    let t0 = g.O.QuadOut.tells c.args.out.now in
    let t1 = g.O.QuadOut.tells c.say.new.out in
    let selects = g.O.QuadOut.selects c.args.out.now in
    let r : TakesUpTo old.lexer lexer (take c.in-Completes.count c.args.piece.now) (told c.in-Completes.signs (lexer.reading.at - 1) lexer.reading) = c.in-Completes.ensures.reached h.lexer.goes_on in
    let place : lexer.reading.at - 1 ≡ c.saturating_sub.result = ap (λ n. n - 1) (sym c.place-self-in-Completes.ensures.place) ∙ sym c.saturating_sub.ensures in
    let mid : EngineState = record old { lexer = lexer; bytes = c.place-self-in-Completes.result } in
    let before : EngineState = run-engine old r.before r.front in
    let takes : Takes r.before lexer r.last (told c.in-Completes.signs c.saturating_sub.result lexer.reading) = subst (λ n. Takes r.before lexer r.last (told c.in-Completes.signs n lexer.reading)) place r.takes in
    let count : c.place-self-in-Completes.result ≡ old.bytes + length r.front + 1 =
    last_more bytes r.front r.last _ lexer c.place-self-in-Completes.result old.bytes (takes 0 (bytes ++ r.front) h.tokens (r.runs 0 bytes h.tokens h.lexer)) h.count c.place-self-in-Completes.ensures.place in
    let last : Fed s (bytes ++ r.front) quads (r.last ∷ []) new t0 t1 selects =
    byte-kept s (bytes ++ r.front) quads r.last (told c.in-Completes.signs c.saturating_sub.result lexer.reading) before mid new t0 t1 selects (run-before s bytes quads r.front old r.before h r.runs r.live)
    takes c.next.ensures.still_live refl count refl refl c.in-Ok.ensures.says.kept c.in-Ok.ensures.says.says in
    subst (λ p. Fed s bytes quads p new t0 t1 selects) (sym r.bytes_are) (run-fed s bytes quads r.front (r.last ∷ []) new t0 t1 selects last)

pub returns-in-Err-clause-stopped : goal.returns-in-Err-clause-stopped
returns-in-Err-clause-stopped g c = λ s bytes quads h.
    let old = c.args.self.now in
    let lexer = c.next.new.self in
    let new = c.say.new.self in
    let t0 = g.O.QuadOut.tells c.args.out.now in
    let t1 = g.O.QuadOut.tells c.say.new.out in
    let selects = g.O.QuadOut.selects c.args.out.now in
    let stop = c.in-Err.stop in
    let r : TakesUpTo old.lexer lexer (take c.in-Completes.count c.args.piece.now) (told c.in-Completes.signs (lexer.reading.at - 1) lexer.reading) = c.in-Completes.ensures.reached h.lexer.goes_on in
    let place : lexer.reading.at - 1 ≡ c.saturating_sub.result = ap (λ n. n - 1) (sym c.place-self-in-Completes.ensures.place) ∙ sym c.saturating_sub.ensures in
    let mid : EngineState = record old { lexer = lexer; bytes = c.place-self-in-Completes.result } in
    let before : EngineState = run-engine old r.before r.front in
    let takes : Takes r.before lexer r.last (told c.in-Completes.signs c.saturating_sub.result lexer.reading) = subst (λ n. Takes r.before lexer r.last (told c.in-Completes.signs n lexer.reading)) place r.takes in
    let count : c.place-self-in-Completes.result ≡ old.bytes + length r.front + 1 =
    last_more bytes r.front r.last _ lexer c.place-self-in-Completes.result old.bytes (takes 0 (bytes ++ r.front) h.tokens (r.runs 0 bytes h.tokens h.lexer)) h.count c.place-self-in-Completes.ensures.place in
    let last : Stopped s (bytes ++ r.front) quads (r.last ∷ []) stop new t0 t1 selects =
    byte-unsaid s (bytes ++ r.front) quads r.last (told c.in-Completes.signs c.saturating_sub.result lexer.reading) stop before new lexer t0 t1 selects (run-before s bytes quads r.front old r.before h r.runs r.live)
    takes (kept-bytes mid new c.in-Err.ensures.says.kept ∙ count) c.in-Err.ensures.says.says.0 c.in-Err.ensures.says.says.1 in
    front-stopped s bytes quads c.in-Completes.count c.args.piece.now stop new t0 t1 selects
    (subst (λ p. Stopped s bytes quads p stop new t0 t1 selects) (sym r.bytes_are) (run-stopped s bytes quads r.front (r.last ∷ []) stop new t0 t1 selects last))

pub returns-in-Stopped-clause-stopped : goal.returns-in-Stopped-clause-stopped
returns-in-Stopped-clause-stopped g c = λ s bytes quads h.
    let old = c.args.self.now in
    let lexer = c.next.new.self in
    let piece = c.args.piece.now in
    let new : EngineState = record old { lexer = lexer; bytes = c.saturating_add-self.result } in
    let told = g.O.QuadOut.tells c.args.out.now in
    let selects = g.O.QuadOut.selects c.args.out.now in
    let all = c.in-Stopped.ensures.reached h.lexer.goes_on in
    let why = all.0 in
    let r = all.2 in
    let before : EngineState = run-engine old r.before r.front in
    let is : c.lexer_stop.result ≡ of_lexer why = subst (λ o. IfSome o (λ stop. c.lexer_stop.result ≡ of_lexer stop)) all.1 c.lexer_stop.ensures in
    let count : c.saturating_add-self.result ≡ old.bytes + length r.front + 1 =
    stopped_more bytes r.front r.last c.in-Stopped.count h.tokens old.lexer piece c.saturating_add-self.result old.bytes h.lexer r.bytes_are c.in-Stopped.ensures.bound (c.in-Stopped.ensures.places h.lexer.goes_on) h.count c.saturating_add-self.ensures in
    let last : Stopped s (bytes ++ r.front) quads (r.last ∷ []) (of_lexer why) new told told selects =
    byte-fails s (bytes ++ r.front) quads r.last why before new told selects (run-before s bytes quads r.front old r.before h r.runs r.live) count (r.stops 0 (bytes ++ r.front) h.tokens (r.runs 0 bytes h.tokens h.lexer)) in
    subst (λ stop. Stopped s bytes quads piece stop new told told selects) (sym is)
    (front-stopped s bytes quads c.in-Stopped.count piece (of_lexer why) new told told selects
    (subst (λ p. Stopped s bytes quads p (of_lexer why) new told told selects) (sym r.bytes_are) (run-stopped s bytes quads r.front (r.last ∷ []) (of_lexer why) new told told selects last)))
