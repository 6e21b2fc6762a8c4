-- What the calls of a lexer promise, from how the automaton moves.
use Rattle.std.proofs.Common.{◌≡◌, ℕ, ◌+◌, ◌^◌, ◌<◌, ◌≤◌, ◌⊎◌, inl, inr, Bool, true, false, List, [], ◌∷◌, ◌++◌, length, refl, sym, ap, ◌∙◌, subst, arith, Result, Ok, Err, Option, Some, None}
use Rattle.std.specs.Option.{option_to_list}
use Rattle.jl_model.specs.declared.codes.Code.TheVariants.{Truncated}
use Rattle.jl_model.specs.declared.faults.Fault.{Fault}
use Rattle.jl_model.specs.declared.tokens.Token.{Token}
use Rattle.jl_model.specs.TextFaults.{IsRow}
use Rattle.jl_token.specs.declared.opens.Open.{Open}
use Rattle.jl_token.specs.declared.readings.Reading.{Reading}
use Rattle.jl_token.specs.declared.readings.Spot.{Spot}
use Rattle.jl_token.specs.declared.readings.Spot.TheVariants as spots
use Rattle.jl_token.specs.declared.moves.Halt.{Halt}
use Rattle.jl_token.specs.declared.moves.Halt.TheVariants as halts
use Rattle.jl_token.specs.declared.states.LexState.{LexState}
use Rattle.jl_token.specs.declared.steps.LexStop.{LexStop}
use Rattle.jl_token.specs.declared.steps.LexStop.TheVariants as stops
use Rattle.jl_token.specs.declared.steps.Sign.{Sign}
use Rattle.jl_token.specs.declared.steps.Sign.TheVariants as signs
use Rattle.jl_token.specs.Machine.{moved, finished, first, ends_in_number, ends_at}
use Rattle.jl_token.specs.NumberMachine.{is_whole}
use Rattle.jl_token.specs.Moves.{Halts, Finishes, stop_of, taken, after_texts}
use Rattle.jl_token.specs.Lexed.{Stands, IsFormedReading, IsFormedBy, IsFormed, IsFront, Refuses, Takes, AreWhole, Stops, Ends, StopsEnd, token_of, number_of}
use Rattle.jl_token.specs.Left.{FormedAt}
use Rattle.jl_token.specs.Stands.{IsAt, PlacedAt}
use Rattle.jl_token.proofs.Between.{Between, Completes, completes, is_at_taken}
use Rattle.jl_token.proofs.OneByte.{step_kept, new_is_at, step_is_at, step_breaks, is_at_begins, end_reads, end_only}

-- the empty text
pub new_stands : (start : ℕ) (s : LexState) → s.reading ≡ first start → s.stopped ≡ None → Stands start [] [] s
new_stands start s e n = record { reading = subst (IsAt start [] []) (sym e) (new_is_at start); goes_on = n }

pub new_formed : (start : ℕ) (r : Reading) → r ≡ first start → start ≤ 2 ^ 40 → IsFormedReading r
new_formed start r e l = subst IsFormedReading (sym e) (record { depth = omega arith; spot = tt; place = l })

pub goes_on_formed : (stopped : Option LexStop) (r : Reading) → IsFormedReading r → IsFormedBy stopped r
goes_on_formed None r f = f
goes_on_formed (Some stop) r f = tt

pub formed_on : (s : LexState) → s.stopped ≡ None → IsFormed s → IsFormedReading s.reading
formed_on s e f = let g : IsFormedBy None s.reading = subst (λ o. IsFormedBy o s.reading) e f in g

pub same_formed : (old new : Reading) → (new.at ≡ old.at) × (new.spot ≡ old.spot) × (new.within ≡ old.within) → IsFormedReading old → IsFormedReading new
same_formed old new e f = record {
  depth = omega (arith, f.depth, ap length e.2);
  spot = subst (λ x. FormedAt x new.within) (sym e.1) (subst (FormedAt old.spot) (sym e.2) f.spot);
  place = omega (arith, f.place, e.0);
}

-- a byte that is taken
pub takes : (old new : LexState) (byte : ℕ) (tokens : List Token) → moved true 256 old.reading byte ≡ Ok (tokens, new.reading) → new.stopped ≡ None → Takes old new byte tokens
takes old new byte tokens e n = λ start p given s. record { reading = step_is_at start p given old.reading byte s.reading (tokens, new.reading) e; goes_on = n }

pub kept_formed : (old new : Reading) (byte : ℕ) (tokens : List Token) → moved true 256 old byte ≡ Ok (tokens, new) → IsFormedReading old → old.at < 2 ^ 40 → IsFormedReading new
kept_formed old new byte tokens e f l =
    let k = step_kept old byte (tokens, new) (record { depth = f.depth; spot = f.spot }) e in
    record { depth = k.0.depth; spot = k.0.spot; place = omega (arith, k.1) }

pub kept_place : (old new : Reading) (byte : ℕ) (tokens : List Token) → moved true 256 old byte ≡ Ok (tokens, new) → IsFormedReading old → new.at ≡ old.at + 1
kept_place old new byte tokens e f = (step_kept old byte (tokens, new) (record { depth = f.depth; spot = f.spot }) e).1

-- a byte that is refused
refused : (start : ℕ) (p : List ℕ) (given : List Token) (old : LexState) (byte : ℕ) (fault : Fault) → Stands start p given old → moved true 256 old.reading byte ≡ Err fault → old.reading.at < 2 ^ 40 → Refuses start p byte fault
refused start p given old byte fault s e l = record {
  too_long = λ q. let a = s.reading.at_is in absurd (omega arith);
  breaks = λ _. step_breaks start p given old.reading byte s.reading fault e;
}

pub halted : (halt : Halt) (old : LexState) (byte : ℕ) → Halts halt old.reading (moved true 256 old.reading byte) → old.reading.at < 2 ^ 40 → Stops old byte (stop_of halt old.reading.at old.reading.start)
halted (halts.AtByte code) old byte h l = λ start p given s. refused start p given old byte _ s h l
halted (halts.AtToken code) old byte h l = λ start p given s. refused start p given old byte _ s h l
halted halts.NoMemory old byte h l = λ start p given s. tt

-- a lexer that has stopped
pub stopped_no_stop : (old : LexState) (byte : ℕ) (stop other : LexStop) → old.stopped ≡ Some stop → Stops old byte other
stopped_no_stop old byte stop other e = λ start p given s. absurd (let q : ◌≡◌ {A = Option LexStop} (Some stop) None = sym e ∙ s.goes_on in let x : ⊥ = cc in x)

pub stopped_no_end : (old : LexState) (stop other : LexStop) → old.stopped ≡ Some stop → StopsEnd old other
stopped_no_end old stop other e = λ start p given s. absurd (let q : ◌≡◌ {A = Option LexStop} (Some stop) None = sym e ∙ s.goes_on in let x : ⊥ = cc in x)

-- the texts of the tokens are taken
text_between : (tokens : List Token) (r : Reading) → Completes (Ok (tokens, r)) → (tokens ≡ [] → ⊥) → Between r.spot
text_between tokens r (inl e) n = absurd (n e)
text_between tokens r (inr b) n = b

some_told : (number : Bool) (sign : Sign) (at : ℕ) (r : Reading) → (after_texts number sign r ≡ r) ⊎ ((after_texts number sign r ≡ taken r) × (number_of number r ++ token_of sign at r ≡ [] → ⊥))
some_told true sign at r = inr (refl, λ e. let x : ⊥ = cc in x)
some_told false signs.Key at r = inr (refl, λ e. let x : ⊥ = cc in x)
some_told false signs.Text at r = inr (refl, λ e. let x : ⊥ = cc in x)
some_told false _ at r = inl refl

pub texts_taken : (old middle new : LexState) (byte at : ℕ) (number : Bool) (sign : Sign) → moved true 256 old.reading byte ≡ Ok (number_of number middle.reading ++ token_of sign at middle.reading, middle.reading) → middle.stopped ≡ None → new.stopped ≡ None → new.reading ≡ after_texts number sign middle.reading → Takes old new byte (number_of number middle.reading ++ token_of sign at middle.reading)
texts_taken old middle new byte at number sign e n o t = go (some_told number sign at middle.reading)
  where
    ts : List Token
    ts = number_of number middle.reading ++ token_of sign at middle.reading

    go : (after_texts number sign middle.reading ≡ middle.reading) ⊎ ((after_texts number sign middle.reading ≡ taken middle.reading) × (ts ≡ [] → ⊥)) → Takes old new byte ts
    go (inl q) = takes old new byte ts (e ∙ ap (λ x. Ok (ts, x)) (sym (t ∙ q))) o
    go (inr q) = λ start p given s.
        let m = step_is_at start p given old.reading byte s.reading (ts, middle.reading) e in
        let b : Between middle.reading.spot = text_between ts middle.reading (subst Completes e (completes true 256 old.reading byte)) q.1 in
        record { reading = subst (IsAt start (p ++ byte ∷ []) (given ++ ts)) (sym (t ∙ q.0)) (is_at_taken start (p ++ byte ∷ []) (given ++ ts) middle.reading b m); goes_on = o }

-- between two tokens stands a row of whole ones
row_between : (spot : Spot) → Between spot → (start : ℕ) (p : List ℕ) (token : ℕ) (part : List ℕ) → PlacedAt spot start p token part → IsRow p
row_between spots.Value b start p token part h = (false, h)
row_between spots.FirstItem b start p token part h = (false, h)
row_between spots.FirstKey b start p token part h = (false, h)
row_between spots.Key b start p token part h = (false, h)
row_between spots.Colon b start p token part h = (false, h)
row_between spots.After b start p token part h = h
row_between (spots.InKey place) b start p token part h = absurd b
row_between (spots.InText place) b start p token part h = absurd b
row_between (spots.InNumber place) b start p token part h = absurd b
row_between (spots.InWord place) b start p token part h = absurd b

-- the tokens of a byte end with it
pub whole_tokens : (old : LexState) (new : Reading) (byte : ℕ) (tokens : List Token) → moved true 256 old.reading byte ≡ Ok (tokens, new) → AreWhole old byte tokens
whole_tokens old new byte tokens e = λ start p given s. elim (subst Completes e (completes true 256 old.reading byte)) [
  | inl none ↦ inl none
  | inr b ↦ let m = step_is_at start p given old.reading byte s.reading (tokens, new) e in inr (row_between new.spot b start (p ++ byte ∷ []) new.start new.part m.placed)
]

pub taken_formed : (number : Bool) (sign : Sign) (r : Reading) → IsFormedReading r → IsFormedReading (after_texts number sign r)
taken_formed true sign r f = record { depth = f.depth; spot = f.spot; place = f.place }
taken_formed false signs.Key r f = record { depth = f.depth; spot = f.spot; place = f.place }
taken_formed false signs.Text r f = record { depth = f.depth; spot = f.spot; place = f.place }
taken_formed false _ r f = f

-- ---- the end
same_err : (f g : Fault) → ◌≡◌ {A = Result (List Token) Fault} (Err f) (Err g) → f ≡ g
same_err f g e = cc

number_truncated : (w : Bool) (s : Reading) (fault : Fault) → ends_in_number w s ≡ Err fault → (fault.code ≡ Truncated) × (fault.at ≡ s.at)
number_truncated true s fault e = cc
number_truncated false s fault e =
    let q : record { code = Truncated; at = s.at } ≡ fault = same_err _ _ e in
    (sym (ap (λ (x : Fault). x.code) q), sym (ap (λ (x : Fault). x.at) q))

truncated_at : (spot : Spot) (within : List Open) (s : Reading) (fault : Fault) → ends_at spot within s ≡ Err fault → (fault.code ≡ Truncated) × (fault.at ≡ s.at)
truncated_at spots.After [] s fault e = cc
truncated_at (spots.InNumber place) [] s fault e = number_truncated (is_whole place) s fault e
truncated_at _ _ s fault e =
    let q : record { code = Truncated; at = s.at } ≡ fault = same_err _ _ e in
    (sym (ap (λ (x : Fault). x.code) q), sym (ap (λ (x : Fault). x.at) q))

pub read_end : (old : LexState) (token : Option Token) → finished old.reading ≡ Ok (option_to_list token) → Ends old token
read_end old token f = λ start p given s. end_reads start p given old.reading s.reading (option_to_list token) f

pub no_end : (stop : LexStop) (old : LexState) → Finishes (Err stop) old.reading → StopsEnd old stop
no_end (stops.Refused fault) old f = λ start p given s.
    let t = truncated_at old.reading.spot old.reading.within old.reading fault f in
    record {
      begins = is_at_begins start p given old.reading s.reading;
      unreadable = λ tree us r.
          let o = end_only start p given old.reading s.reading tree us r in
          let q : ◌≡◌ {A = Result (List Token) Fault} (Ok o.0) (Err fault) = sym o.1 ∙ f in
          cc;
      code = t.0;
      place = t.1 ∙ s.reading.at_is;
    }
no_end stops.NoMemory old f = absurd f

-- ---- what the relation says
pub relation : (start : ℕ) (p : List ℕ) (given : List Token) (s : LexState) → Stands start p given s → IsFront start p given
relation start p given s h = record {
  begins = is_at_begins start p given s.reading h.reading;
  first = λ r tree tokens t. let o = h.reading.strict.only tree tokens r t in (o.0, o.1);
}
