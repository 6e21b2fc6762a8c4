-- The lines that a piece puts, and the end.
use Rattle.std.proofs.Common.{◌≡◌, ◌⊎◌, inl, inr, ℕ, ◌+◌, ◌-◌, ◌^◌, ◌≤◌, min, Bool, true, false, List, [], ◌∷◌, ◌++◌, length, filter, Option, Some, None, Result, Err, IfErr, refl, sym, ap, ◌∙◌, subst, arith, append-nil}
use Rattle.std.specs.Option.{IfSome}
use Rattle.jl_io.specs.Outside.{appended}
use Rattle.jl_model.specs.Causes.{Rose}
use Rattle.jl_model.specs.Parts.{Parts}
use Rattle.jl_defs.specs.Settings.{Settings}
use Rattle.jl_engine.specs.Standing.{Stands, AreSure, AreSaid, AreLeft, WerePut, Fed, Stopped, Finished, StoppedAtEnd, Cause, EndCause}
use Rattle.jl_engine.specs.declared.engines.EngineState.{EngineState}
use Rattle.jl_engine.specs.declared.stops.Stop.{Stop}
use Rattle.jl_engine.specs.declared.stops.Stop.TheVariants.{Refused, OutFault, NoMemory}
use Rattle.jl_nquads.specs.LineOuts.{TellsLines}
use Rattle.jl_io.proofs.Fronts.{appended-nil}
use Rattle.jl_top.specs.Blocks.{HandsOn, held_of}
use Rattle.jl_top.specs.Pieces.{IsRead, PutsLines, AddsLines, FedLines, StoppedLines, FinishedLines, AreLeftAtEnd, EndedLines, StopsWithLines, EndsWithLines, is_out_fault}
use Rattle.jl_top.specs.declared.blocks.Block.{Block}
use Rattle.jl_top.proofs.Handing.{hands_same}
use Rattle.jl_top.proofs.LineFronts.{IsClosed, tells_lax, puts_front}
use Rattle.jl_engine.proofs.Feeding.{sure-now}
use Rattle.jl_top.proofs.SureQuads.{sure_front, sure_longer}

filter_all : (quads : List Parts) → filter (λ _. true) quads ≡ quads
filter_all [] = refl
filter_all (q ∷ quads) = ap (λ t. q ∷ t) (filter_all quads)

-- what an out of lines tells
abbrev pub Told : Option (List ℕ) → Bool → List Parts → Type 0
Told put failed quads = IfSome put (TellsLines failed quads)

lax : (w : Option (List ℕ)) (failed : Bool) (quads : List Parts) → Told w failed quads → Told w true quads
lax None failed quads h = tt
lax (Some w) failed quads h = tells_lax failed quads w h

told_by : (w : Option (List ℕ)) (stop : Stop) (quads : List Parts) → Told w false quads → Told w (is_out_fault stop) quads
told_by w (Refused fault) quads h = h
told_by w OutFault quads h = lax w false quads h
told_by w NoMemory quads h = h

-- ---- what an engine put through an out of lines

module _ (Holds : List Parts → Type 0) (quads more : List Parts) (w0 w1 : Option (List ℕ)) (f0 f1 : Bool) (unfailed : f0 ≡ false) (holds : Holds (quads ++ more)) (put : WerePut (Told w0 f0) (Told w1 f1) (λ _. true) more) where
  told_more : Told w0 false quads → Told w1 f1 (quads ++ more)
  told_more told = subst (λ m. Told w1 f1 (quads ++ m)) (filter_all more) (put quads (subst (λ f. Told w0 f quads) (sym unfailed) told))

  pub adds_lines : f1 ≡ false → AddsLines Holds quads w0 w1
  adds_lines e = record { more = more; holds = holds; lines = λ told. subst (λ f. Told w1 f (quads ++ more)) e (told_more told) }

  pub puts_by : (stop : Stop) → f1 ≡ false → Told w0 false quads → PutsLines Holds (is_out_fault stop) w1
  puts_by stop e told = record { quads = quads ++ more; holds = holds; lines = told_by w1 stop (quads ++ more) (subst (λ f. Told w1 f (quads ++ more)) e (told_more told)) }

  pub puts_lax : Told w0 false quads → PutsLines Holds true w1
  puts_lax told = record { quads = quads ++ more; holds = holds; lines = lax w1 f1 (quads ++ more) (told_more told) }

-- what is left is sure
pub left_sure : (s : Settings) (bytes : List ℕ) (stop : Stop) (quads : List Parts) → AreLeft s bytes quads stop → AreSure s bytes quads
left_sure s bytes (Refused fault) quads h = sure_longer s bytes h.front (h.byte ∷ []) quads h.bytes_are (sure-now s h.front quads h.said.0 h.said.1)
left_sure s bytes OutFault quads h = h
left_sure s bytes NoMemory quads h = h

pub end_left_sure : (s : Settings) (bytes : List ℕ) (stop : Stop) (quads : List Parts) → AreLeftAtEnd s bytes quads stop → AreSure s bytes quads
end_left_sure s bytes (Refused fault) quads h = sure-now s bytes quads h.0 h.1
end_left_sure s bytes OutFault quads h = h
end_left_sure s bytes NoMemory quads h = sure-now s bytes quads h.0 h.1

said_left : (s : Settings) (bytes : List ℕ) (stop : Stop) (quads : List Parts) → AreSaid s bytes quads → AreLeftAtEnd s bytes quads stop
said_left s bytes (Refused fault) quads h = h
said_left s bytes OutFault quads h = sure-now s bytes quads h.0 h.1
said_left s bytes NoMemory quads h = h

module _ (s : Settings) (bytes : List ℕ) (quads : List Parts) (w0 w1 : Option (List ℕ)) (f0 f1 : Bool) (unfailed : f0 ≡ false) where
  -- a piece was read, and no line failed
  pub fed_lines : (piece : List ℕ) (e : EngineState) → f1 ≡ false → Fed s bytes quads piece e (Told w0 f0) (Told w1 f1) (λ _. true) → FedLines s bytes quads piece e w0 w1
  fed_lines piece e whole fed = adds_lines (λ all. Stands s (bytes ++ piece) all e) quads fed.more w0 w1 f0 f1 unfailed fed.stands fed.put whole

  -- a line failed, whatever was answered
  pub failed_fed : (piece : List ℕ) (e : EngineState) → Fed s bytes quads piece e (Told w0 f0) (Told w1 f1) (λ _. true) → StoppedLines s bytes quads piece OutFault e w0 w1
  failed_fed piece e fed =
      let sure = sure-now s (bytes ++ piece) (quads ++ fed.more) e fed.stands in
      record {
        front = piece;
        back = [];
        piece_is = sym (append-nil piece);
        cause = tt;
        count = fed.stands.count;
        puts = puts_lax (AreSure s (bytes ++ piece)) quads fed.more w0 w1 f0 f1 unfailed sure fed.put;
      }

  module _ (piece : List ℕ) (stop : Stop) (e : EngineState) (h : Stopped s bytes quads piece stop e (Told w0 f0) (Told w1 f1) (λ _. true)) where
    -- a piece stopped the reading, and no line failed
    pub stopped_lines : f1 ≡ false → StoppedLines s bytes quads piece stop e w0 w1
    stopped_lines whole = record {
      front = h.front;
      back = h.back;
      piece_is = h.piece_is;
      cause = h.cause;
      count = h.count;
      puts = puts_by (λ all. AreLeft s (bytes ++ h.front) all stop) quads h.more w0 w1 f0 f1 unfailed h.left h.put stop whole;
    }

    pub failed_stopped : StoppedLines s bytes quads piece OutFault e w0 w1
    failed_stopped = record {
      front = h.front;
      back = h.back;
      piece_is = h.piece_is;
      cause = tt;
      count = h.count;
      puts = puts_lax (AreSure s (bytes ++ h.front)) quads h.more w0 w1 f0 f1 unfailed (left_sure s (bytes ++ h.front) stop (quads ++ h.more) h.left) h.put;
    }

  read_of : (h : Finished s bytes quads (Told w0 f0) (Told w1 f1) (λ _. true)) → IsRead s bytes (quads ++ h.more)
  read_of h = record { tree = h.tree; reads = h.reads; accepted = h.accepted; built = h.built; quads_are = h.quads_are; sure = h.sure }

  -- the end was read, and no line failed
  pub finished_lines : f1 ≡ false → Finished s bytes quads (Told w0 f0) (Told w1 f1) (λ _. true) → FinishedLines s bytes quads w0 w1
  finished_lines whole h = adds_lines (IsRead s bytes) quads h.more w0 w1 f0 f1 unfailed (read_of h) h.put whole

  pub failed_finished : Finished s bytes quads (Told w0 f0) (Told w1 f1) (λ _. true) → EndedLines s bytes quads OutFault w0 w1
  failed_finished h = record { cause = tt; puts = puts_lax (AreSure s bytes) quads h.more w0 w1 f0 f1 unfailed h.sure h.put }

  -- the end stopped the reading
  pub ended_lines : (stop : Stop) → f1 ≡ false → StoppedAtEnd s bytes quads stop (Told w0 f0) (Told w1 f1) (λ _. true) → EndedLines s bytes quads stop w0 w1
  ended_lines stop whole h = record {
    cause = h.cause;
    puts = puts_by (λ all. AreLeftAtEnd s bytes all stop) quads h.more w0 w1 f0 f1 unfailed (said_left s bytes stop (quads ++ h.more) h.said) h.put stop whole;
  }

  pub failed_ended : (stop : Stop) → StoppedAtEnd s bytes quads stop (Told w0 f0) (Told w1 f1) (λ _. true) → EndedLines s bytes quads OutFault w0 w1
  failed_ended stop h = record { cause = tt; puts = puts_lax (AreSure s bytes) quads h.more w0 w1 f0 f1 unfailed (sure-now s bytes (quads ++ h.more) h.said.0 h.said.1) h.put }

-- ---- what is handed on

-- what was told of the bytes put and held is told of those put, where none is held
pub none_held : (w : Option (List ℕ)) (block : Block) → held_of block ≡ [] → appended w (held_of block) ≡ w
none_held w block h = ap (λ t. appended w t) h ∙ appended-nil w

-- everything was handed on
handed_all : (w0 w1 : Option (List ℕ)) (old new : Block) → HandsOn w0 w1 old new → held_of new ≡ [] → appended w0 (held_of old) ≡ w1
handed_all w0 w1 old new h none = sym (hands_same w0 w1 old new h) ∙ none_held w1 new none

module _ (quads : List Parts) (w0 w1 w2 : Option (List ℕ)) (b0 b1 b2 : Block) (none : held_of b0 ≡ []) (hands : HandsOn w1 w2 b1 b2) where
  told_held : Told w0 false quads → Told (appended w0 (held_of b0)) false quads
  told_held told = subst (λ w. Told w false quads) (sym (none_held w0 b0 none)) told

  -- all lines were handed on
  pub adds_handed : (Holds : List Parts → Type 0) → held_of b2 ≡ [] → AddsLines Holds quads (appended w0 (held_of b0)) (appended w1 (held_of b1)) → AddsLines Holds quads w0 w2
  adds_handed Holds all h =
      subst (λ w. AddsLines Holds quads w w2) (none_held w0 b0 none) (subst (λ w. AddsLines Holds quads (appended w0 (held_of b0)) w) (handed_all w1 w2 b1 b2 hands all) h)

  -- not all were
  pub adds_cut : (Holds Sure : List Parts → Type 0) → IsClosed Sure → ((q : List Parts) → Holds q → Sure q) → AddsLines Holds quads (appended w0 (held_of b0)) (appended w1 (held_of b1)) → Told w0 false quads → PutsLines Sure true w2
  adds_cut Holds Sure closed sure h told =
      let all : PutsLines Sure false (appended w1 (held_of b1)) = record { quads = quads ++ h.more; holds = sure (quads ++ h.more) h.holds; lines = h.lines (told_held told) } in
      puts_front Sure false w2 (held_of b2) closed (subst (λ w. PutsLines Sure false w) (sym (hands_same w1 w2 b1 b2 hands)) all)

  weaken : (Sure Other : List Parts → Type 0) (cut : Bool) (w : Option (List ℕ)) → ((q : List Parts) → Sure q → Other q) → PutsLines Sure cut w → PutsLines Other cut w
  weaken Sure Other cut w h p = record { quads = p.quads; holds = h p.quads p.holds; lines = p.lines }

  -- the lines before a stop were handed on, or the out fails
  pub puts_answered : (Left : Stop → List Parts → Type 0) (stop answer : Stop) → IsClosed (Left OutFault) → ((q : List Parts) → Left stop q → Left OutFault q) → (answer ≡ OutFault) ⊎ ((answer ≡ stop) × (held_of b2 ≡ []))
      → (Told (appended w0 (held_of b0)) false quads → PutsLines (Left stop) (is_out_fault stop) (appended w1 (held_of b1))) → Told w0 false quads → PutsLines (Left answer) (is_out_fault answer) w2
  puts_answered Left stop answer closed weak k puts told =
      let all = puts (told_held told) in
      elim k [
        | inl e ↦ subst (λ a. PutsLines (Left a) (is_out_fault a) w2) (sym e)
            (puts_front (Left OutFault) (is_out_fault stop) w2 (held_of b2) closed
            (weaken (Left stop) (Left OutFault) (is_out_fault stop) (appended w2 (held_of b2)) weak (subst (λ w. PutsLines (Left stop) (is_out_fault stop) w) (sym (hands_same w1 w2 b1 b2 hands)) all)))
        | inr e ↦ subst (λ a. PutsLines (Left a) (is_out_fault a) w2) (sym e.0) (subst (λ w. PutsLines (Left stop) (is_out_fault stop) w) (handed_all w1 w2 b1 b2 hands e.1) all)
      ]

  module _ (s : Settings) (bytes : List ℕ) where
    -- a piece was read, and all its lines handed on
    pub fed_handed : (piece : List ℕ) (e : EngineState) → held_of b2 ≡ [] → FedLines s bytes quads piece e (appended w0 (held_of b0)) (appended w1 (held_of b1)) → FedLines s bytes quads piece e w0 w2
    fed_handed piece e all h = adds_handed (λ q. Stands s (bytes ++ piece) q e) all h

    -- a piece was read, and not all its lines were handed on
    pub fed_cut : (piece : List ℕ) (e : EngineState) → FedLines s bytes quads piece e (appended w0 (held_of b0)) (appended w1 (held_of b1)) → StoppedLines s bytes quads piece OutFault e w0 w2
    fed_cut piece e h =
        record {
          front = piece;
          back = [];
          piece_is = sym (append-nil piece);
          cause = tt;
          count = h.holds.count;
          puts = adds_cut (λ q. Stands s (bytes ++ piece) q e) (AreSure s (bytes ++ piece)) (sure_front s (bytes ++ piece))
              (λ q stands. sure-now s (bytes ++ piece) q e stands) h;
        }

    cause_answered : (b : List ℕ) (stop answer : Stop) → (answer ≡ OutFault) ⊎ ((answer ≡ stop) × (held_of b2 ≡ [])) → Cause s b stop → Cause s b answer
    cause_answered b stop answer (inl e) c = subst (Cause s b) (sym e) tt
    cause_answered b stop answer (inr e) c = subst (Cause s b) (sym e.0) c

    -- a piece stopped the reading
    pub stopped_answered : (piece : List ℕ) (stop answer : Stop) (e : EngineState) → (answer ≡ OutFault) ⊎ ((answer ≡ stop) × (held_of b2 ≡ []))
        → StoppedLines s bytes quads piece stop e (appended w0 (held_of b0)) (appended w1 (held_of b1)) → StoppedLines s bytes quads piece answer e w0 w2
    stopped_answered piece stop answer e k h = record {
      front = h.front;
      back = h.back;
      piece_is = h.piece_is;
      cause = cause_answered (bytes ++ h.front) stop answer k h.cause;
      count = h.count;
      puts = puts_answered (λ x all. AreLeft s (bytes ++ h.front) all x) stop answer (sure_front s (bytes ++ h.front)) (left_sure s (bytes ++ h.front) stop) k h.puts;
    }

    -- the end was read, and all lines handed on, or not all
    pub finished_handed : held_of b2 ≡ [] → FinishedLines s bytes quads (appended w0 (held_of b0)) (appended w1 (held_of b1)) → FinishedLines s bytes quads w0 w2
    finished_handed all h = adds_handed (IsRead s bytes) all h

    pub finished_cut : FinishedLines s bytes quads (appended w0 (held_of b0)) (appended w1 (held_of b1)) → EndedLines s bytes quads OutFault w0 w2
    finished_cut h = record { cause = tt; puts = adds_cut (IsRead s bytes) (AreSure s bytes) (sure_front s bytes) (λ q d. d.sure) h }

    end_answered : (stop answer : Stop) → (answer ≡ OutFault) ⊎ ((answer ≡ stop) × (held_of b2 ≡ [])) → EndCause s bytes stop → EndCause s bytes answer
    end_answered stop answer (inl e) c = subst (EndCause s bytes) (sym e) tt
    end_answered stop answer (inr e) c = subst (EndCause s bytes) (sym e.0) c

    -- the end stopped the reading
    pub ended_answered : (stop answer : Stop) → (answer ≡ OutFault) ⊎ ((answer ≡ stop) × (held_of b2 ≡ []))
        → EndedLines s bytes quads stop (appended w0 (held_of b0)) (appended w1 (held_of b1)) → EndedLines s bytes quads answer w0 w2
    ended_answered stop answer k h = record {
      cause = end_answered stop answer k h.cause;
      puts = puts_answered (λ x all. AreLeftAtEnd s bytes all x) stop answer (sure_front s bytes) (end_left_sure s bytes stop) k h.puts;
    }

-- a count that has risen without calls that were refused
pub rose_alone : (m n r s : ℕ) → r ≡ 0 → s ≡ r → Rose (m + r) (n + s) → Rose m n
rose_alone m n r s none same h = let rose : min ((m + r) + 1) (2 ^ 64 - 1) ≤ n + s = h in omega arith

-- a count that is the same without calls that were refused
pub same_alone : (m n r s : ℕ) → s ≡ r → n + s ≡ m + r → n ≡ m
same_alone m n r s same h = omega (arith, same, h)

-- what holds where a piece stopped the reading
pub at_stop : (result : Result (Unit {0}) Stop) (stop : Stop) (old new : EngineState) (piece : List ℕ) (w0 w1 : Option (List ℕ)) → StopsWithLines result old new piece w0 w1 → result ≡ Err stop
    → (s : Settings) (bytes : List ℕ) (quads : List Parts) → Stands s bytes quads old → StoppedLines s bytes quads piece stop new w0 w1
at_stop result stop old new piece w0 w1 h is =
    subst (λ r. IfErr r (λ x. (s : Settings) (bytes : List ℕ) (quads : List Parts) → Stands s bytes quads old → StoppedLines s bytes quads piece x new w0 w1)) is h.stopped

-- and where the end did
pub at_end_stop : (result : Result (Unit {0}) Stop) (stop : Stop) (old : EngineState) (w0 w1 : Option (List ℕ)) → EndsWithLines result old w0 w1 → result ≡ Err stop
    → (s : Settings) (bytes : List ℕ) (quads : List Parts) → Stands s bytes quads old → EndedLines s bytes quads stop w0 w1
at_end_stop result stop old w0 w1 h is =
    subst (λ r. IfErr r (λ x. (s : Settings) (bytes : List ℕ) (quads : List Parts) → Stands s bytes quads old → EndedLines s bytes quads x w0 w1)) is h.stopped
