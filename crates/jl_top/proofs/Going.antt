-- What the loop over the pieces has done, and how it ends.
use Rattle.std.proofs.Common.{◌≡◌, ◌<◌, ◌≤◌, ℕ, ◌+◌, ◌-◌, ◌^◌, min, nat_lt, Bool, true, false, List, [], ◌∷◌, ◌++◌, length, refl, sym, ap, ◌∙◌, subst, arith, append_assoc, append-nil, length-append, Option, Some, None, Result, Ok, Err, IsErrOf, ◌⊎◌, inl, inr}
use Rattle.std.proofs.lemmas.Bool.{ltb-true, ltb-false}
use Rattle.std.specs.Option.{IfSome}
use Rattle.jl_io.specs.Outside.{appended, Leaves, NoneLeft}
use Rattle.jl_model.specs.Causes.{Rose}
use Rattle.jl_model.specs.Parts.{Parts}
use Rattle.jl_model.specs.declared.faults.Fault.{Fault}
use Rattle.jl_defs.specs.Settings.{Settings}
use Rattle.jl_engine.specs.Standing.{Stands, AreSure, AreSaid, AreSaidBefore, AreLeft, Refusal, Cause, EndCause}
use Rattle.jl_engine.specs.Standing.Refusal.{by_text as text_refused, by_length as length_refused, by_fault as fault_refused, by_form as form_refused}
use Rattle.jl_engine.specs.declared.engines.EngineState.{EngineState}
use Rattle.jl_engine.specs.declared.stops.Stop.{Stop}
use Rattle.jl_engine.specs.declared.stops.Stop.TheVariants as stops
use Rattle.jl_nquads.specs.LineOuts.{TellsLines}
use Rattle.jl_top.specs.Blocks.{held_of, CountsLines, IsEmptyBlock, line_count}
use Rattle.jl_top.specs.Pieces.{PutsLines, HasBegun, FedLines, StoppedLines, FinishedLines, AreLeftAtEnd, EndedLines, is_out_fault}
use Rattle.jl_top.specs.Runs.{IsFresh, Took, ReadsWhole, piece_size, IsAtFault, by_text, by_fault, by_form, in_bytes, at_end, StopsFor, LinesAreSure, is_cut, AnswersRun, HasPut, Going, read_stop_for, piece_stop_for, EndsRun}
use Rattle.jl_top.specs.Words.{settings_with}
use Rattle.jl_top.specs.declared.blocks.Block.{Block}
use Rattle.jl_top.specs.declared.stops.ReadStop.{ReadStop}
use Rattle.jl_top.specs.declared.stops.ReadStop.TheVariants.{Refused, TooLong, TakeFault, OutFault, NoMemory}
use Rattle.jl_engine.proofs.Feeding.{sure-now}
use Rattle.jl_top.proofs.PieceLines.{left_sure, end_left_sure}
use Rattle.jl_top.proofs.SureQuads.{sure_longer}

pub leaves_nil : (left : Option (List ℕ)) → Leaves left [] left
leaves_nil None = tt
leaves_nil (Some bytes) = refl

leaves_more : (a b c : Option (List ℕ)) (xs ys : List ℕ) → Leaves a xs b → Leaves b ys c → Leaves a (xs ++ ys) c
leaves_more None None None xs ys h k = tt
leaves_more (Some a) (Some b) (Some c) xs ys h k = h ∙ ap (λ t. xs ++ t) k ∙ sym (append_assoc xs ys c)
leaves_more None None (Some c) xs ys h k = absurd k
leaves_more None (Some b) c xs ys h k = absurd h
leaves_more (Some a) None c xs ys h k = absurd h
leaves_more (Some a) (Some b) None xs ys h k = absurd k

taken_more : (t0 t1 : Option (List ℕ)) (xs ys : List ℕ) → IfSome t0 (λ told. told ≡ xs) → t1 ≡ appended t0 ys → IfSome t1 (λ told. told ≡ xs ++ ys)
taken_more None t1 xs ys h e = subst (λ t. IfSome t (λ told. told ≡ xs ++ ys)) (sym e) tt
taken_more (Some t) t1 xs ys h e = subst (λ t. IfSome t (λ told. told ≡ xs ++ ys)) (sym e) (ap (λ x. x ++ ys) h)

pub took_more : (xs ys : List ℕ) (t1 t2 l0 l1 l2 : Option (List ℕ)) → Took xs t1 l0 l1 → t2 ≡ appended t1 ys → Leaves l1 ys l2 → Took (xs ++ ys) t2 l0 l2
took_more xs ys t1 t2 l0 l1 l2 took taken left = record { taken_is = taken_more t1 t2 xs ys took.taken_is taken; left_is = leaves_more l0 l1 l2 xs ys took.left_is left }

nothing_told : (put : Option (List ℕ)) → IfSome put (λ bytes. bytes ≡ []) → IfSome put (TellsLines false [])
nothing_told None h = tt
nothing_told (Some w) h = h

nothing_counted : (put : Option (List ℕ)) (lines : ℕ) → IfSome put (λ bytes. bytes ≡ []) → lines ≡ 0 → CountsLines put lines
nothing_counted None lines h e = tt
nothing_counted (Some w) lines h e = subst (λ bytes. lines ≡ line_count bytes) (sym h) e

-- before the first piece
pub going_start : (engine : EngineState) (block : Block) (t l w : Option (List ℕ)) → IsFresh t w → IsEmptyBlock block → Going engine engine block t l l w 0
going_start engine block t l w fresh empty =
    record {
      bytes = [];
      took = record { taken_is = fresh.none_taken; left_is = leaves_nil l };
      puts = λ s stands. record { quads = []; stands = stands; lines = nothing_told w fresh.none_put };
      none_held = empty.nothing_held;
      counts = nothing_counted w block.lines fresh.none_put empty.no_lines;
      many = refl;
    }

-- one more piece
pub going_more : (e0 e1 e2 : EngineState) (b1 b2 : Block) (t1 t2 l0 l1 l2 w1 w2 : Option (List ℕ)) (count count_new : ℕ) (piece : List ℕ) → (g : Going e0 e1 b1 t1 l0 l1 w1 count) → t2 ≡ appended t1 piece → Leaves l1 piece l2
    → ((s : Settings) (bytes : List ℕ) (quads : List Parts) → Stands s bytes quads e1 → FedLines s bytes quads piece e2 w1 w2) → held_of b2 ≡ [] → (CountsLines w1 b1.lines → CountsLines w2 b2.lines) → count_new ≡ count + length piece → Going e0 e2 b2 t2 l0 l2 w2 count_new
going_more e0 e1 e2 b1 b2 t1 t2 l0 l1 l2 w1 w2 count count_new piece g t l fed held counts longer_by =
    let many : count ≡ length g.bytes = g.many in
    let longer : length (g.bytes ++ piece) ≡ length g.bytes + length piece = length-append g.bytes piece in
    record {
      bytes = g.bytes ++ piece;
      took = took_more g.bytes piece t1 t2 l0 l1 l2 g.took t l;
      puts = λ s stands.
          let p = g.puts s stands in
          let f = fed s g.bytes p.quads p.stands in
          record { quads = p.quads ++ f.more; stands = f.holds; lines = f.lines p.lines };
      none_held = held;
      counts = counts g.counts;
      many = omega arith;
    }

-- the engine goes on
pub begun_more : (e1 e2 : EngineState) (piece : List ℕ) (w1 w2 : Option (List ℕ)) → HasBegun e1 → ((s : Settings) (bytes : List ℕ) (quads : List Parts) → Stands s bytes quads e1 → FedLines s bytes quads piece e2 w1 w2) → HasBegun e2
begun_more e1 e2 piece w1 w2 (s, bytes, quads, stands) fed = let f = fed s bytes quads stands in (s, bytes ++ piece, quads ++ f.more, f.holds)

-- an engine that was made for some settings
pub begun_new : (e : EngineState) (base : Option (List ℕ)) → ((s : Settings) → s.order ≡ (settings_with base).order → s.base ≡ base → Stands s [] [] e) → HasBegun e
begun_new e base h = (settings_with base, [], [], h (settings_with base) refl refl)

pub none_left : (l1 l2 : Option (List ℕ)) → Leaves l1 [] l2 → NoneLeft l1 → NoneLeft l2
none_left None None h k = tt
none_left (Some a) (Some b) h k = sym h ∙ k
none_left None (Some b) h k = absurd h
none_left (Some a) None h k = absurd h

-- the bytes taken at the end are those before it
pub took_end : (bytes : List ℕ) (t1 t2 l0 l1 l2 : Option (List ℕ)) → Took bytes t1 l0 l1 → t2 ≡ appended t1 [] → Leaves l1 [] l2 → Took bytes t2 l0 l2
took_end bytes t1 t2 l0 l1 l2 took t l = subst (λ b. Took b t2 l0 l2) (append-nil bytes) (took_more bytes [] t1 t2 l0 l1 l2 took t l)

module _ (e0 e1 : EngineState) (block : Block) (t1 l0 l1 w1 : Option (List ℕ)) (count : ℕ) (g : Going e0 e1 block t1 l0 l1 w1 count) (s : Settings) (start : Stands s [] [] e0) where
  was_put : HasPut s g.bytes e1 w1
  was_put = g.puts s start

  -- what has been put is sure
  pub going_lines : LinesAreSure s false t1 l0 l1 w1
  going_lines = record {
    bytes = g.bytes;
    took = g.took;
    puts = record { quads = was_put.quads; holds = sure-now s g.bytes was_put.quads e1 was_put.stands; lines = was_put.lines };
  }

  -- and is all that was said
  said_lines : PutsLines (AreSaid s g.bytes) false w1
  said_lines = record { quads = was_put.quads; holds = (e1, was_put.stands); lines = was_put.lines }

  -- ---- the end

  module _ (t2 l2 w2 : Option (List ℕ)) (t : t2 ≡ appended t1 []) (l : Leaves l1 [] l2) (none : NoneLeft l1) where
    took : Took g.bytes t2 l0 l2
    took = took_end g.bytes t1 t2 l0 l1 l2 g.took t l

    module _ (h : FinishedLines s g.bytes was_put.quads w1 w2) where
      end_lines : LinesAreSure s false t2 l0 l2 w2
      end_lines = record { bytes = g.bytes; took = took; puts = record { quads = was_put.quads ++ h.more; holds = h.holds.sure; lines = h.lines was_put.lines } }

      end_whole : ReadsWhole s t2 l0 l2 w2
      end_whole = record { bytes = g.bytes; took = took; none_left = none_left l1 l2 l none; quads = was_put.quads ++ h.more; document = h.holds; lines = h.lines was_put.lines }

    cut_is : (x : Stop) → is_cut (Err (read_stop_for x)) ≡ is_out_fault x
    cut_is (stops.Refused fault) = refl
    cut_is stops.OutFault = refl
    cut_is stops.NoMemory = refl

    end_stops : (x : Stop) → EndCause s g.bytes x → PutsLines (λ all. AreLeftAtEnd s g.bytes all x) (is_out_fault x) w2 → StopsFor s (read_stop_for x) t2 l0 l2 w2 true
    end_stops (stops.Refused fault) c p =
        record { bytes = g.bytes; took = took; is_fault = at_end (record { refusal = c; ended = refl; none_left = none_left l1 l2 l none; lines = p }) }
    end_stops stops.OutFault c p = tt
    end_stops stops.NoMemory c p = record {
      front = g.bytes;
      back = [];
      took = subst (λ b. Took b t2 l0 l2) (sym (append-nil g.bytes)) took;
      few = omega arith;
      lines = record { quads = p.quads; holds = sure-now s g.bytes p.quads p.holds.0 p.holds.1; lines = p.lines };
    }

    end_sure : (x : Stop) (cut : Bool) → PutsLines (λ all. AreLeftAtEnd s g.bytes all x) cut w2 → PutsLines (AreSure s g.bytes) cut w2
    end_sure x cut p = record { quads = p.quads; holds = end_left_sure s g.bytes x p.quads p.holds; lines = p.lines }

    end_err : (x : Stop) → EndedLines s g.bytes was_put.quads x w1 w2 → AnswersRun s (Err (read_stop_for x)) t2 l0 l2 w2 true
    end_err x h = record {
      whole = tt;
      ended = tt;
      stops = end_stops x h.cause (h.puts was_put.lines);
      lines = record { bytes = g.bytes; took = took; puts = subst (λ c. PutsLines (AreSure s g.bytes) c w2) (sym (cut_is x)) (end_sure x (is_out_fault x) (h.puts was_put.lines)) };
    }

    -- the answer at the end
    end_true : (result : Result (Unit {0}) ReadStop) → EndsRun result e1 w1 w2 → AnswersRun s result t2 l0 l2 w2 true
    end_true (Ok u) e = let h = e s g.bytes was_put.quads was_put.stands in record { whole = end_whole h; ended = refl; stops = tt; lines = end_lines h }
    end_true (Err stop) e = subst (λ x. AnswersRun s (Err x) t2 l0 l2 w2 true) (sym e.1) (end_err e.0 (e.2 s g.bytes was_put.quads was_put.stands))

    pub end_answers : (result : Result (Unit {0}) ReadStop) (told_end : Bool) → told_end ≡ true → EndsRun result e1 w1 w2 → AnswersRun s result t2 l0 l2 w2 told_end
    end_answers result told_end ended e = subst (λ b. AnswersRun s result t2 l0 l2 w2 b) (sym ended) (end_true result e)

  -- the answer where taking failed
  pub take_answers : (t2 l2 w2 : Option (List ℕ)) (told_end : Bool) → t2 ≡ t1 → l2 ≡ l1 → w2 ≡ w1 → AnswersRun s (Err TakeFault) t2 l0 l2 w2 told_end
  take_answers t2 l2 w2 told_end t l w =
      subst (λ x. AnswersRun s (Err TakeFault) t2 l0 l2 x told_end) (sym w) (subst (λ x. AnswersRun s (Err TakeFault) t2 l0 x w1 told_end) (sym l) (subst (λ x. AnswersRun s (Err TakeFault) x l0 l1 w1 told_end) (sym t)
      (record { whole = tt; ended = tt; stops = record { bytes = g.bytes; took = g.took; lines = said_lines }; lines = going_lines })))

  -- ---- a piece that stops the run

  module _ (t2 l2 w2 : Option (List ℕ)) (piece : List ℕ) (e2 : EngineState) (t : t2 ≡ appended t1 piece) (l : Leaves l1 piece l2) (told_end : Bool) where
    took_piece : Took (g.bytes ++ piece) t2 l0 l2
    took_piece = took_more g.bytes piece t1 t2 l0 l1 l2 g.took t l

    module _ (few : length piece ≤ piece_size) (front back : List ℕ) (piece_is : piece ≡ front ++ back) where
      whole_is : g.bytes ++ piece ≡ (g.bytes ++ front) ++ back
      whole_is = ap (λ p. g.bytes ++ p) piece_is ∙ sym (append_assoc g.bytes front back)

      short_back : length back ≤ piece_size
      short_back = let longer : length piece ≡ length front + length back = ap length piece_is ∙ length-append front back in omega (arith, few)

      -- the bytes taken, split at a byte
      split_at : (before : List ℕ) (byte : ℕ) → g.bytes ++ front ≡ before ++ byte ∷ [] → g.bytes ++ piece ≡ before ++ byte ∷ back
      split_at before byte e = whole_is ∙ (ap (λ x. x ++ back) e ∙ append_assoc before (byte ∷ []) back)

      at_fault : (before : List ℕ) (byte : ℕ) (fault : Fault) → length (before ++ byte ∷ []) ≤ 2 ^ 40 → Refusal s (before ++ byte ∷ []) fault → IsAtFault s (before ++ byte ∷ []) fault
      at_fault before byte fault short (text_refused h) = by_text h
      at_fault before byte fault short (fault_refused h) = by_fault h
      at_fault before byte fault short (form_refused h) = by_form h
      at_fault before byte fault short (length_refused h) =
          let one_longer : length (before ++ byte ∷ []) ≡ length h.front + 1 = ap length h.bytes_are ∙ length-append h.front (h.byte ∷ []) in
          let full : length h.front ≡ 2 ^ 40 = h.full in
          absurd (omega arith)

      refused_at : (fault : Fault) (long : Bool) → (long ≡ true → 2 ^ 40 < length (g.bytes ++ front)) → (long ≡ false → length (g.bytes ++ front) ≤ 2 ^ 40) → Refusal s (g.bytes ++ front) fault →
          (p : PutsLines (λ all. AreSaidBefore s (g.bytes ++ front) all) false w2) → StopsFor s (elim long [ true ↦ TooLong | false ↦ Refused fault ]) t2 l0 l2 w2 told_end
      refused_at fault true many short c p =
          let h = p.holds in
          let one_longer : length (g.bytes ++ front) ≡ length h.front + 1 = ap length h.bytes_are ∙ length-append h.front (h.byte ∷ []) in
          let all : g.bytes ++ piece ≡ h.front ++ h.byte ∷ back = split_at h.front h.byte h.bytes_are in
          let longer : length (h.front ++ h.byte ∷ back) ≡ length h.front + length (h.byte ∷ back) = length-append h.front (h.byte ∷ back) in
          record {
            front = h.front;
            back = h.byte ∷ back;
            took = subst (λ b. Took b t2 l0 l2) all took_piece;
            too_many = omega (arith, many refl);
            long = omega (arith, many refl);
            lines = record { quads = p.quads; holds = h.said; lines = p.lines };
          }
      refused_at fault false many short c p =
          let h = p.holds in
          record {
            bytes = g.bytes ++ piece;
            took = took_piece;
            is_fault = in_bytes (record {
              front = h.front;
              byte = h.byte;
              back = back;
              bytes_are = split_at h.front h.byte h.bytes_are;
              is_fault = at_fault h.front h.byte fault (subst (λ b. length b ≤ 2 ^ 40) h.bytes_are (short refl)) (subst (λ b. Refusal s b fault) h.bytes_are c);
              few = short_back;
              lines = record { quads = p.quads; holds = h.said; lines = p.lines };
            });
          }

      piece_stops : (x : Stop) → e2.bytes ≡ length (g.bytes ++ front) → Cause s (g.bytes ++ front) x → PutsLines (λ all. AreLeft s (g.bytes ++ front) all x) (is_out_fault x) w2 →
          StopsFor s (piece_stop_for x e2.bytes) t2 l0 l2 w2 told_end
      piece_stops (stops.Refused fault) count c p =
          refused_at fault (nat_lt (2 ^ 40) e2.bytes)
          (λ e. let long : 2 ^ 40 < e2.bytes = ltb-true (2 ^ 40) e2.bytes e in omega (arith, count))
          (λ e. let short : e2.bytes ≤ 2 ^ 40 = ltb-false (2 ^ 40) e2.bytes e in omega (arith, count)) c p
      piece_stops stops.OutFault count c p = tt
      piece_stops stops.NoMemory count c p = record {
        front = g.bytes ++ front;
        back = back;
        took = subst (λ b. Took b t2 l0 l2) whole_is took_piece;
        few = short_back;
        lines = p;
      }

      piece_sure : (x : Stop) (cut : Bool) → PutsLines (λ all. AreLeft s (g.bytes ++ front) all x) cut w2 → PutsLines (AreSure s (g.bytes ++ piece)) cut w2
      piece_sure x cut p = record {
        quads = p.quads;
        holds = sure_longer s (g.bytes ++ piece) (g.bytes ++ front) back p.quads whole_is (left_sure s (g.bytes ++ front) x p.quads p.holds);
        lines = p.lines;
      }

    piece_cut : (x : Stop) → is_cut (Err (piece_stop_for x e2.bytes)) ≡ is_out_fault x
    piece_cut (stops.Refused fault) = by (nat_lt (2 ^ 40) e2.bytes)
      where
        by : (b : Bool) → is_cut (Err (elim b [ true ↦ TooLong | false ↦ Refused fault ])) ≡ false
        by true = refl
        by false = refl
    piece_cut stops.OutFault = refl
    piece_cut stops.NoMemory = refl

    -- the answer where a piece stopped the run
    pub piece_answers : (x : Stop) (stop : ReadStop) → length piece ≤ piece_size → ((bytes : List ℕ) (quads : List Parts) → Stands s bytes quads e1 → StoppedLines s bytes quads piece x e2 w1 w2) → stop ≡ piece_stop_for x e2.bytes → AnswersRun s (Err stop) t2 l0 l2 w2 told_end
    piece_answers x stop few stopped e =
        let h = stopped g.bytes was_put.quads was_put.stands in
        let puts = h.puts was_put.lines in
        let after : AnswersRun s (Err (piece_stop_for x e2.bytes)) t2 l0 l2 w2 told_end = record {
          whole = tt;
          ended = tt;
          stops = piece_stops few h.front h.back h.piece_is x h.count h.cause puts;
          lines = record {
            bytes = g.bytes ++ piece;
            took = took_piece;
            puts = subst (λ c. PutsLines (AreSure s (g.bytes ++ piece)) c w2) (sym (piece_cut x)) (piece_sure few h.front h.back h.piece_is x (is_out_fault x) puts);
          };
        } in
        subst (λ r. AnswersRun s (Err r) t2 l0 l2 w2 told_end) (sym e) after

  -- the answer after more bytes than may be read
  pub long_answers : (told_end : Bool) → 2 ^ 40 < count → AnswersRun s (Err TooLong) t1 l0 l1 w1 told_end
  long_answers told_end many =
      let same : count ≡ length g.bytes = g.many in
      let all : g.bytes ++ [] ≡ g.bytes = append-nil g.bytes in
      let long : length (g.bytes ++ []) ≡ length g.bytes = ap length all in
      record {
        whole = tt;
        ended = tt;
        stops = record {
          front = g.bytes;
          back = [];
          took = subst (λ b. Took b t1 l0 l1) (sym all) g.took;
          too_many = omega arith;
          long = omega arith;
          lines = said_lines;
        };
        lines = going_lines;
      }

sure_nothing : (s : Settings) → AreSure s [] []
sure_nothing s rest t reads accepts built x has = absurd has

-- nothing was put
pub memory_lines : (s : Settings) (t l w : Option (List ℕ)) → IsFresh t w → LinesAreSure s false t l l w
memory_lines s t l w fresh =
    record { bytes = []; took = record { taken_is = fresh.none_taken; left_is = leaves_nil l }; puts = record { quads = []; holds = sure_nothing s; lines = nothing_told w fresh.none_put } }

-- no line was put
pub no_lines : (t w : Option (List ℕ)) → IsFresh t w → CountsLines w 0
no_lines t w fresh = nothing_counted w 0 fresh.none_put refl

-- the answer before the first piece
pub memory_answers : (s : Settings) (t l w : Option (List ℕ)) (told_end : Bool) → IsFresh t w → AnswersRun s (Err NoMemory) t l l w told_end
unfolding memory_lines
memory_answers s t l w told_end fresh =
    let none = memory_lines s t l w fresh in
    record { whole = tt; ended = tt; stops = record { front = []; back = []; took = none.took; few = omega arith; lines = none.puts }; lines = none }

pub memory_counts : (w t : Option (List ℕ)) (block : Block) → IsFresh t w → IsEmptyBlock block → CountsLines w block.lines
memory_counts w t block fresh empty = nothing_counted w block.lines fresh.none_put empty.no_lines

-- so many bytes have been taken
pub going_short : (e0 e1 : EngineState) (block : Block) (t1 l0 l1 w1 : Option (List ℕ)) (count : ℕ) → Going e0 e1 block t1 l0 l1 w1 count → count ≤ 2 ^ 40 → (told : List ℕ) → t1 ≡ Some told → length told ≤ 2 ^ 40
going_short e0 e1 block t1 l0 l1 w1 count g short told e =
    let is : told ≡ g.bytes = subst (λ t. IfSome t (λ told. told ≡ g.bytes)) e g.took.taken_is in
    let many : count ≡ length g.bytes = g.many in
    let same : length told ≡ length g.bytes = ap length is in
    omega arith

-- two errors that are the same
pub err_of : (a b : ReadStop) → IsErrOf {T = Unit {0}} (Err a) b → a ≡ b
err_of a b e = cc

pub not_out : IsErrOf {T = Unit {0}} (Err TakeFault) OutFault → ⊥
not_out e = let no : TakeFault ≡ OutFault = err_of TakeFault OutFault e in cc

-- the stop is the out's where the answer is
pub out_fault_from : (x : Stop) → read_stop_for x ≡ OutFault → x ≡ stops.OutFault
out_fault_from (stops.Refused f) e = cc
out_fault_from stops.OutFault e = refl
out_fault_from stops.NoMemory e = cc

pub no_take_fault : (x : Stop) → read_stop_for x ≡ TakeFault → ⊥
no_take_fault (stops.Refused f) e = cc
no_take_fault stops.OutFault e = cc
no_take_fault stops.NoMemory e = cc

refused_other : (f : Fault) (b : Bool) (other : ReadStop) → (other ≡ OutFault) ⊎ (other ≡ TakeFault) → ◌≡◌ {A = ReadStop} (elim b [ true ↦ TooLong | false ↦ Refused f ]) other → ⊥
refused_other f true other (inl e) h = let no : TooLong ≡ OutFault = h ∙ e in cc
refused_other f true other (inr e) h = let no : TooLong ≡ TakeFault = h ∙ e in cc
refused_other f false other (inl e) h = let no : Refused f ≡ OutFault = h ∙ e in cc
refused_other f false other (inr e) h = let no : Refused f ≡ TakeFault = h ∙ e in cc

pub piece_fault_from : (x : Stop) (bytes : ℕ) → piece_stop_for x bytes ≡ OutFault → x ≡ stops.OutFault
piece_fault_from (stops.Refused f) bytes e = absurd (refused_other f (nat_lt (2 ^ 40) bytes) OutFault (inl refl) e)
piece_fault_from stops.OutFault bytes e = refl
piece_fault_from stops.NoMemory bytes e = cc

-- and the answer is the out's where the stop is
pub piece_fault_to : (x : Stop) (bytes : ℕ) (r : ReadStop) → r ≡ piece_stop_for x bytes → x ≡ stops.OutFault → r ≡ OutFault
piece_fault_to x bytes r e is = e ∙ ap (λ y. piece_stop_for y bytes) is

pub stop_of : (a b : Stop) → ◌≡◌ {A = Result (Unit {0}) Stop} (Err a) (Err b) → a ≡ b
stop_of a b e = cc

pub piece_take_fault : (x : Stop) (bytes : ℕ) → piece_stop_for x bytes ≡ TakeFault → ⊥
piece_take_fault (stops.Refused f) bytes e = refused_other f (nat_lt (2 ^ 40) bytes) TakeFault (inr refl) e
piece_take_fault stops.OutFault bytes e = cc
piece_take_fault stops.NoMemory bytes e = cc
