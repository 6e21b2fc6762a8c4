-- Bytes up to and with the one that completes a token.
use Rattle.std.proofs.Common.{◌≡◌, ℕ, ◌+◌, ◌-◌, ◌<◌, ◌≤◌, List, [], ◌∷◌, ◌++◌, true, length, take, drop, get_or, refl, sym, ap, ◌∙◌, subst, arith, append_assoc, append-nil, Ok, None}
use Rattle.std.proofs.lemmas.List.{take_more, take_all, length-take, length-drop}
use Rattle.std.proofs.Math.Seq.{take-add}
use Rattle.jl_model.specs.declared.codes.Code.TheVariants.{TooLong}
use Rattle.jl_model.specs.declared.tokens.Token.{Token}
use Rattle.jl_token.specs.declared.states.LexState.{LexState}
use Rattle.jl_token.specs.declared.steps.LexStop.{LexStop}
use Rattle.jl_token.specs.declared.steps.LexStop.TheVariants.{Refused, NoMemory}
use Rattle.jl_token.specs.Machine.{moved}
use Rattle.jl_token.specs.Lexed.{Stands, Takes, Stops, told, end_of_places}
use Rattle.jl_token.specs.declared.steps.Next.{Next}
use Rattle.jl_token.specs.declared.steps.Next.TheVariants as nexts
use Rattle.jl_token.specs.Nexts.{TakesUpTo, StopsUpTo, CountsWithin, Reached, read_len}
use Rattle.jl_token.specs.Runs.{Runs, Passes}
use Rattle.jl_token.proofs.LexerCalls.{takes, whole_tokens}
use Rattle.jl_token.proofs.PlainRuns.{take_less}

-- ---- runs, one after another
pub runs_nothing : (s : LexState) (bytes : List ℕ) → Runs s s (take 0 bytes)
runs_nothing s bytes = λ start p given h. subst (λ x. Stands start x given s) (sym (append-nil p)) h

runs_then : (old mid new : LexState) (xs ys : List ℕ) → Runs old mid xs → Runs mid new ys → Runs old new (xs ++ ys)
runs_then old mid new xs ys f g = λ start p given h. subst (λ x. Stands start x given new) (append_assoc p xs ys) (g start (p ++ xs) given (f start p given h))

-- a byte that completes nothing
byte_runs : (old new : LexState) (byte : ℕ) (tokens : List Token) → Takes old new byte tokens → tokens ≡ [] → Runs old new (byte ∷ [])
byte_runs old new byte tokens t e = λ start p given h.
    subst (λ x. Stands start (p ++ byte ∷ []) x new) (ap (λ x. given ++ x) e ∙ append-nil given) (t start p given h)

-- the rest of the bytes, as a slice of them
rest_is : (bytes : List ℕ) (at : ℕ) → take (length bytes - at) (drop at bytes) ≡ drop at bytes
rest_is bytes at = let e : length (drop at bytes) ≡ length bytes - at = length-drop at bytes in take_all (length bytes - at) (drop at bytes) (omega (arith, e))

pub runs_on : (old mid new : LexState) (bytes : List ℕ) (at n : ℕ) → Runs old mid (take at bytes) → Passes mid.reading new.reading (take n (take (length bytes - at) (drop at bytes))) → new.stopped ≡ None → Runs old new (take (at + n) bytes)
runs_on old mid new bytes at n r p e =
    let q : Passes mid.reading new.reading (take n (drop at bytes)) = subst (λ x. Passes mid.reading new.reading (take n x)) (rest_is bytes at) p in
    let on : Runs mid new (take n (drop at bytes)) = λ start q0 given h. record { reading = q start q0 given h.reading; goes_on = e } in
    subst (λ x. Runs old new x) (sym (take-add at n bytes)) (runs_then old mid new (take at bytes) (take n (drop at bytes)) r on)

pub runs_byte : (old mid new : LexState) (bytes : List ℕ) (at : ℕ) (tokens : List Token) → at < length bytes → Runs old mid (take at bytes) → moved true 256 mid.reading (get_or bytes at 0) ≡ Ok (tokens, new.reading) → tokens ≡ [] → new.stopped ≡ None → Runs old new (take (at + 1) bytes)
runs_byte old mid new bytes at tokens l r e n o =
    subst (λ x. Runs old new x) (sym (take_more bytes at 0 l)) (runs_then old mid new (take at bytes) (get_or bytes at 0 ∷ []) r (byte_runs mid new (get_or bytes at 0) tokens (takes mid new (get_or bytes at 0) tokens e o) n))

pub runs_all : (old new : LexState) (bytes : List ℕ) (at : ℕ) → length bytes ≤ at → Runs old new (take at bytes) → Runs old new bytes
runs_all old new bytes at l r = subst (λ x. Runs old new x) (take_all at bytes l) r

-- ---- the last byte
pub takes_last : (old mid new : LexState) (bytes : List ℕ) (at : ℕ) (tokens : List Token) → at < length bytes → mid.ended ≡ old.ended → Runs old mid (take at bytes) → moved true 256 mid.reading (get_or bytes at 0) ≡ Ok (tokens, new.reading) → (tokens ≡ [] → ⊥) → new.stopped ≡ None → TakesUpTo old new (take (at + 1) bytes) tokens
takes_last old mid new bytes at tokens l live r e some o = record {
  front = take at bytes;
  last = get_or bytes at 0;
  bytes_are = take_more bytes at 0 l;
  before = mid;
  live = live;
  runs = r;
  takes = takes mid new (get_or bytes at 0) tokens e o;
  whole = whole_tokens mid new.reading (get_or bytes at 0) tokens e;
  some = some;
}

pub stops_last : (old mid : LexState) (bytes : List ℕ) (at : ℕ) (stop : LexStop) → at < length bytes → mid.ended ≡ old.ended → Runs old mid (take at bytes) → Stops mid (get_or bytes at 0) stop → StopsUpTo old (take (at + 1) bytes) stop
stops_last old mid bytes at stop l live r s = record {
  front = take at bytes;
  last = get_or bytes at 0;
  bytes_are = take_more bytes at 0 l;
  before = mid;
  live = live;
  runs = r;
  stops = s;
}

pub no_memory : (s : LexState) (byte : ℕ) → Stops s byte NoMemory
no_memory s byte = λ start p given h. tt

-- at the place where no byte may stand
pub too_long : (s : LexState) (byte : ℕ) → s.reading.at ≡ end_of_places → Stops s byte (Refused (record { code = TooLong; at = end_of_places }))
too_long s byte e = λ start p given h. record {
  too_long = λ _. refl;
  breaks = λ n. absurd (n (let a = h.reading.at_is in omega (arith, a, e)));
}

-- ---- a part of the bytes
pub rest_within : (bytes : List ℕ) (at n : ℕ) → at ≤ length bytes → n ≤ length (take (length bytes - at) (drop at bytes)) → at + n ≤ length bytes
rest_within bytes at n l m =
    let e : length (take (length bytes - at) (drop at bytes)) ≡ length bytes - at = ap length (rest_is bytes at) ∙ length-drop at bytes in
    omega (arith, l, m, e)

front_within : (n : ℕ) (bytes : List ℕ) → length (take n bytes) ≤ length bytes
front_within n bytes = omega (arith, length-take n bytes)

-- what was read of the front of the bytes, where not all of it was
pub more_reached : (next : Next) (old new : LexState) (n : ℕ) (bytes : List ℕ) → (next ≡ nexts.Nothing → ⊥) → CountsWithin next (length (take n bytes)) → Reached next old new (take n bytes) → Reached next old new bytes
more_reached nexts.Nothing old new n bytes e l r = absurd (e refl)
more_reached (nexts.Completes count signs) old new n bytes e l r =
    subst (λ x. TakesUpTo old new x (told signs (new.reading.at - 1) new.reading)) (take_less count n bytes (omega (arith, l.1, length-take n bytes))) r
more_reached (nexts.Stopped count) old new n bytes e l r =
    (r.0, r.1, subst (λ x. StopsUpTo old x r.0) (take_less count n bytes (omega (arith, l, length-take n bytes))) r.2)

pub more_bound : (next : Next) (n : ℕ) (bytes : List ℕ) → (next ≡ nexts.Nothing → ⊥) → CountsWithin next (length (take n bytes)) → CountsWithin next (length bytes)
more_bound nexts.Nothing n bytes e l = absurd (e refl)
more_bound (nexts.Completes count signs) n bytes e l = (l.0, omega (arith, l.1, front_within n bytes))
more_bound (nexts.Stopped count) n bytes e l = omega (arith, l, front_within n bytes)

-- where not all of the front was read, the other bytes don't count
pub more_places : (next : Next) (n at end : ℕ) (bytes : List ℕ) → (next ≡ nexts.Nothing → ⊥) → at + read_len next (length (take n bytes)) ≤ end → at + read_len next (length bytes) ≤ end + 1
more_places nexts.Nothing n at end bytes e l = absurd (e refl)
more_places (nexts.Completes count signs) n at end bytes e l = omega (arith, l)
more_places (nexts.Stopped count) n at end bytes e l = omega (arith, l)
