-- What a call of the code says in terms of the automaton.
use Rattle.std.specs.Prelude.{◌≡◌, ℕ, [], Bool, true, false, Result, Ok, Err, Option}
use Rattle.std.specs.Option.{option_to_list}
use Rattle.jl_model.specs.declared.tokens.Token.{Token}
use Rattle.jl_token.specs.declared.readings.Reading.{Reading}
use Rattle.jl_token.specs.declared.moves.Halt.{Halt}
use Rattle.jl_token.specs.declared.moves.Halt.TheVariants.{AtByte, AtToken, NoMemory}
use Rattle.jl_token.specs.declared.steps.LexStop.{LexStop}
use Rattle.jl_token.specs.declared.steps.LexStop.TheVariants as stops
use Rattle.jl_token.specs.declared.steps.Sign.{Sign}
use Rattle.jl_token.specs.declared.steps.Sign.TheVariants.{Key, Text}
use Rattle.jl_token.specs.declared.steps.Signs.{Signs}
use Rattle.jl_token.specs.Machine.{Moved, finished}
use Rattle.jl_token.specs.Lexed.{token_of, told}

-- what a lexer answers from then on
abbrev pub stop_of : Halt → ℕ → ℕ → LexStop
stop_of (AtByte code) at start = stops.Refused (record { code = code; at = at })
stop_of (AtToken code) at start = stops.Refused (record { code = code; at = start })
stop_of NoMemory at start = stops.NoMemory

-- the reading without the text of the last token
abbrev pub taken : Reading → Reading
taken s = record { at = s.at; start = s.start; spot = s.spot; part = []; within = s.within }

-- the reading after the texts of its tokens were taken
abbrev pub after_texts : Bool → Sign → Reading → Reading
after_texts true sign s = taken s
after_texts false Key s = taken s
after_texts false Text s = taken s
after_texts false _ s = s

-- what the end says
abbrev pub Finishes : Result (Option Token) LexStop → Reading → Type 0
Finishes (Ok token) old = finished old ≡ Ok (option_to_list token)
Finishes (Err (stops.Refused fault)) old = finished old ≡ Err fault
Finishes (Err stops.NoMemory) old = ⊥

-- the fault of a halt
abbrev pub Halts : Halt → Reading → Moved → Type 0
Halts (AtByte code) old moved = moved ≡ Err (record { code = code; at = old.at })
Halts (AtToken code) old moved = moved ≡ Err (record { code = code; at = old.start })
Halts NoMemory old moved = Unit {0}

-- the automaton moves so, and gives the token of this sign
abbrev pub MovesBy : Result Sign Halt → Reading → Reading → Moved → Type 0
MovesBy (Ok sign) old new moved = moved ≡ Ok (token_of sign old.at new, new)
MovesBy (Err halt) old new moved = Halts halt old moved

-- the same with the tokens of two signs
abbrev pub Moves : Result Signs Halt → Reading → Reading → Moved → Type 0
Moves (Ok signs) old new moved = moved ≡ Ok (told signs old.at new, new)
Moves (Err halt) old new moved = Halts halt old moved
