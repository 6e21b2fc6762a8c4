-- What a run of `write` has taken and put.
use Rattle.std.proofs.Common.{◌≡◌, ℕ, ◌+◌, ◌-◌, ◌^◌, ◌<◌, ◌≤◌, Bool, true, List, [], ◌∷◌, ◌++◌, length, Option, Some, None, Result, Ok, Err, refl, sym, ap, ◌∙◌, subst, arith, append-nil, append_assoc, length-append}
use Rattle.std.specs.Option.{IfSome}
use Rattle.jl_model.specs.LineGrammar.{QuadsOf}
use Rattle.jl_model.specs.Parts.{Parts}
use Rattle.jl_model.specs.declared.faults.Fault.{Fault}
use Rattle.jl_defs.specs.WriterText.{open_text, closing_text, writer_text}
use Rattle.jl_engine.specs.declared.stops.Stop.{Stop}
use Rattle.jl_engine.specs.declared.stops.Stop.TheVariants as stops
use Rattle.jl_io.specs.Outside.{appended, Leaves, NoneLeft}
use Rattle.jl_nquads.specs.EndedLines.{LinesEnded}
use Rattle.jl_top.specs.Blocks.{held_of, IsEmptyBlock}
use Rattle.jl_top.specs.ConversionRuns.{GrantsLines, PutsText, ConvertsWhole, IsBadLine, ended, last, HasBadLine, ConvertsTaken, ConvertsTooMany, ConvertsFront, StopsConversion, EndsConversion, AnswersLines, EndsLines, Converting}
use Rattle.jl_top.specs.Conversions.{counted, Converts, AreQuadsOf, of_lines, of_bad, of_all, PutsTextFront, StopsFor, StopsIn, AnswersPiece, ConvertsAll, EndsFor, StopsAtEnd, AnswersEnd}
use Rattle.jl_top.specs.Runs.{IsFresh, Took, piece_size, read_stop_for}
use Rattle.jl_top.specs.declared.blocks.Block.{Block}
use Rattle.jl_top.specs.declared.conversions.Conversion.{Conversion}
use Rattle.jl_top.specs.declared.stops.ReadStop.{ReadStop}
use Rattle.jl_top.specs.declared.stops.ReadStop.TheVariants.{Refused, TooLong, TakeFault, OutFault, NoMemory}
use Rattle.jl_top.proofs.Converting.{open_is_front}
use Rattle.jl_top.proofs.Going.{took_more, took_end, none_left, leaves_nil}

-- ---- what is told of a text that was put where nothing had been

pub fresh_text : (w0 put : Option (List ℕ)) (text : List ℕ) → IfSome w0 (λ bytes. bytes ≡ []) → put ≡ appended w0 text → PutsText put text
fresh_text None put text h e = subst (λ p. PutsText p text) (sym e) tt
fresh_text (Some w) put text h e = subst (λ p. PutsText p text) (sym e) (ap (λ x. x ++ text) h)

abbrev IsFrontOf : List Parts → List ℕ → Type 0
IsFrontOf quads told = (rest : List ℕ) × (writer_text quads ≡ told ++ rest)

fresh_front : (w0 put : Option (List ℕ)) (quads : List Parts) → IfSome w0 (λ bytes. bytes ≡ []) → PutsTextFront w0 quads put → IfSome put (IsFrontOf quads)
fresh_front None put quads h p = subst (λ x. IfSome x (IsFrontOf quads)) (sym p.put_is) tt
fresh_front (Some w) put quads h p = subst (λ x. IfSome x (IsFrontOf quads)) (sym p.put_is) (p.back, p.text_is ∙ ap (λ x. (x ++ p.front) ++ p.back) (sym h))

-- the text is told of the bytes put
told_text : (put : Option (List ℕ)) (p text : List ℕ) → put ≡ Some p → PutsText put text → p ≡ text
told_text put p text e h = subst (λ x. PutsText x text) e h

-- ---- before the first piece

pub converting_start : (c : Conversion) (block : Block) (t l w : Option (List ℕ)) → IsFresh t w → IsEmptyBlock block → Converts w [] [] c w → Converting c block t l l w w 0
converting_start c block t l w fresh empty k = record {
  bytes = [];
  took = record { taken_is = fresh.none_taken; left_is = leaves_nil l };
  quads = [];
  converts = k;
  none_held = empty.nothing_held;
  many = refl;
}

module _ (c : Conversion) (block : Block) (t1 l0 l1 w0 w1 : Option (List ℕ)) (count : ℕ) (g : Converting c block t1 l0 l1 w0 w1 count) where
  -- the reader has read as many bytes as were taken
  pub place_is : c.reader.start + length c.reader.part ≡ count
  place_is = g.converts.reads.place ∙ sym g.many

  -- one more piece
  pub converting_more : (c2 : Conversion) (b2 : Block) (t2 l2 w2 : Option (List ℕ)) (count_new : ℕ) (piece : List ℕ) → t2 ≡ appended t1 piece → Leaves l1 piece l2 → AnswersPiece (Ok tt) piece c c2 w1 w2 → held_of b2 ≡ [] → count_new ≡ count + length piece → Converting c2 b2 t2 l0 l2 w0 w2 count_new
  converting_more c2 b2 t2 l2 w2 count_new piece t l a held longer_by =
      let m = a w0 g.bytes g.quads g.converts in
      record {
        bytes = g.bytes ++ piece;
        took = took_more g.bytes piece t1 t2 l0 l1 l2 g.took t l;
        quads = g.quads ++ m.more;
        converts = m.converts;
        none_held = held;
        many = omega (arith, longer_by, g.many, length-append g.bytes piece);
      }

  -- what is granted may be taken
  pub may_take_more : (may : List ℕ → List ℕ → Type 0) → GrantsLines may → IfSome w0 (λ bytes. bytes ≡ []) → count ≤ 2 ^ 40 → (t p : List ℕ) → t1 ≡ Some t → w1 ≡ Some p → may t p
  may_take_more may grants fresh short t p e f =
      let same : t ≡ g.bytes = subst (λ x. IfSome x (λ told. told ≡ g.bytes)) e g.took.taken_is in
      subst (λ x. may x p) (sym same) (grants g.bytes p c.reader.part g.quads (omega (arith, short, g.many)) g.converts.reads.lines (told_text w1 p (open_text g.quads) f (fresh_text w0 w1 (open_text g.quads) fresh g.converts.writes.text)))

  module _ (fresh : IfSome w0 (λ bytes. bytes ≡ [])) where
    abbrev pub so_far : ConvertsTaken c.quads t1 l0 l1 w1
    so_far = record {
      bytes = g.bytes;
      took = g.took;
      quads = g.quads;
      begun = c.reader.part;
      lines = g.converts.reads.lines;
      text = fresh_text w0 w1 (open_text g.quads) fresh g.converts.writes.text;
      count = g.converts.count;
    }

    pub front_so_far : ConvertsFront c.quads t1 l0 l1 w1
    front_so_far = record {
      front = g.bytes;
      back = [];
      took = subst (λ b. Took b t1 l0 l1) (sym (append-nil g.bytes)) g.took;
      few = omega arith;
      quads = g.quads;
      are_quads = of_lines c.reader.part g.converts.reads.lines;
      text = fresh_front w0 w1 g.quads fresh (open_is_front w0 w1 g.quads g.converts.writes.text);
      count = g.converts.count;
    }

    -- taking failed
    pub take_stops : (t2 l2 w2 : Option (List ℕ)) (told_end : Bool) → t2 ≡ t1 → l2 ≡ l1 → w2 ≡ w1 → AnswersLines (Err TakeFault) c.quads t2 l0 l2 w2 told_end
    take_stops t2 l2 w2 told_end t l w =
        subst (λ x. AnswersLines (Err TakeFault) c.quads t2 l0 l2 x told_end) (sym w) (subst (λ x. AnswersLines (Err TakeFault) c.quads t2 l0 x w1 told_end) (sym l) (subst (λ x. AnswersLines (Err TakeFault) c.quads x l0 l1 w1 told_end) (sym t)
        (record { ends = so_far; front = front_so_far })))

    -- too many bytes were taken
    pub long_stops : (told_end : Bool) → 2 ^ 40 < count → AnswersLines (Err TooLong) c.quads t1 l0 l1 w1 told_end
    long_stops told_end long = record { ends = record { so_far = so_far; too_many = omega (arith, long, g.many) }; front = front_so_far }

    -- ---- a piece stops the run

    module _ (t2 l2 w2 : Option (List ℕ)) (piece : List ℕ) (c2 : Conversion) (t : t2 ≡ appended t1 piece) (l : Leaves l1 piece l2) (told_end : Bool) (few : length piece ≤ piece_size) where
      took_piece : Took (g.bytes ++ piece) t2 l0 l2
      took_piece = took_more g.bytes piece t1 t2 l0 l1 l2 g.took t l

      module _ (stop : Stop) (h : StopsIn w0 g.bytes g.quads piece stop c2 w2) where
        whole_is : g.bytes ++ piece ≡ (g.bytes ++ h.front) ++ h.back
        whole_is = ap (λ p. g.bytes ++ p) h.piece_is ∙ sym (append_assoc g.bytes h.front h.back)

        short_back : length h.back ≤ piece_size
        short_back = omega (arith, few, ap length h.piece_is, length-append h.front h.back)

        front_with : AreQuadsOf (g.bytes ++ h.front) (g.quads ++ h.more) → PutsTextFront w0 (g.quads ++ h.more) w2 → ConvertsFront c2.quads t2 l0 l2 w2
        front_with a p = record {
          front = g.bytes ++ h.front;
          back = h.back;
          took = subst (λ b. Took b t2 l0 l2) whole_is took_piece;
          few = short_back;
          quads = g.quads ++ h.more;
          are_quads = a;
          text = fresh_front w0 w2 (g.quads ++ h.more) fresh p;
          count = h.count;
        }

      pub piece_stops : (stop : Stop) → StopsIn w0 g.bytes g.quads piece stop c2 w2 → AnswersLines (Err (read_stop_for stop)) c2.quads t2 l0 l2 w2 told_end
      piece_stops (stops.Refused fault) h =
          let r = h.stops.0 in
          let whole = whole_is (stops.Refused fault) h in
          record {
            ends = record {
              bytes = g.bytes ++ piece;
              took = took_piece;
              quads = g.quads ++ h.more;
              bad = ended (g.bytes ++ h.front) h.back whole (short_back (stops.Refused fault) h) r;
              text = fresh_text w0 w2 (open_text (g.quads ++ h.more)) fresh h.stops.1;
              count = h.count;
            };
            front = front_with (stops.Refused fault) h (of_bad fault r) (open_is_front w0 w2 (g.quads ++ h.more) h.stops.1);
          }
      piece_stops stops.OutFault h = record { ends = tt; front = front_with stops.OutFault h h.stops.0 h.stops.1 }
      piece_stops stops.NoMemory h = record { ends = tt; front = front_with stops.NoMemory h h.stops.0 h.stops.1 }

    -- ---- the end

    module _ (t2 l2 w2 : Option (List ℕ)) (t : t2 ≡ appended t1 []) (l : Leaves l1 [] l2) (none : NoneLeft l1) (c2 : Conversion) where
      took_all : Took g.bytes t2 l0 l2
      took_all = took_end g.bytes t1 t2 l0 l1 l2 g.took t l

      none_is_left : NoneLeft l2
      none_is_left = none_left l1 l2 l none

      end_front : (quads : List Parts) → AreQuadsOf g.bytes quads → PutsTextFront w0 quads w2 → c2.quads ≡ counted quads → ConvertsFront c2.quads t2 l0 l2 w2
      end_front quads a p k = record {
        front = g.bytes;
        back = [];
        took = subst (λ b. Took b t2 l0 l2) (sym (append-nil g.bytes)) took_all;
        few = omega arith;
        quads = quads;
        are_quads = a;
        text = fresh_front w0 w2 quads fresh p;
        count = k;
      }

      end_whole : ConvertsAll w0 g.bytes g.quads c2 w2 → AnswersLines (Ok tt) c2.quads t2 l0 l2 w2 true
      end_whole h = record {
        ends = (record { bytes = g.bytes; took = took_all; none_left = none_is_left; quads = g.quads ++ h.more; all = h.all; text = fresh_text w0 w2 (writer_text (g.quads ++ h.more)) fresh h.text; count = h.count }, refl);
        front = end_front (g.quads ++ h.more) (of_all h.all) (record { front = writer_text (g.quads ++ h.more); back = []; text_is = sym (append-nil (writer_text (g.quads ++ h.more))); put_is = h.text }) h.count;
      }

      end_stop : (stop : Stop) → StopsAtEnd w0 g.bytes g.quads stop c2 w2 → AnswersLines (Err (read_stop_for stop)) c2.quads t2 l0 l2 w2 true
      end_stop (stops.Refused fault) h =
          let quads = g.quads ++ h.more in
          let put = h.stops.2 in
          record {
            ends = record { bytes = g.bytes; took = took_all; quads = quads; bad = last refl none_is_left h.stops.0 h.stops.1; text = fresh_text w0 w2 (open_text quads) fresh put; count = h.count };
            front = end_front quads h.stops.1 (open_is_front w0 w2 quads put) h.count;
          }
      end_stop stops.OutFault h = record { ends = tt; front = end_front (g.quads ++ h.more) h.stops.0 h.stops.1 h.count }
      end_stop stops.NoMemory h = record { ends = tt; front = end_front (g.quads ++ h.more) h.stops.0 h.stops.1 h.count }

      end_true : (result : Result (Unit {0}) ReadStop) → EndsLines result c c2 w1 w2 → AnswersLines result c2.quads t2 l0 l2 w2 true
      end_true (Ok u) e = end_whole (e w0 g.bytes g.quads g.converts)
      end_true (Err stop) e = subst (λ x. AnswersLines (Err x) c2.quads t2 l0 l2 w2 true) (sym e.1) (end_stop e.0 (e.2 w0 g.bytes g.quads g.converts))

      pub end_lines : (result : Result (Unit {0}) ReadStop) (told_end : Bool) → told_end ≡ true → EndsLines result c c2 w1 w2 → AnswersLines result c2.quads t2 l0 l2 w2 told_end
      end_lines result told_end is e = subst (λ b. AnswersLines result c2.quads t2 l0 l2 w2 b) (sym is) (end_true result e)

-- ---- stops

pub stop_fault_to : (stop : Stop) (now : ReadStop) → now ≡ read_stop_for stop → stop ≡ stops.OutFault → now ≡ OutFault
stop_fault_to stop now e i = e ∙ ap read_stop_for i

pub stop_fault_from : (stop : Stop) → read_stop_for stop ≡ OutFault → stop ≡ stops.OutFault
stop_fault_from (stops.Refused fault) e = absurd (let z : ⊥ = cc in z)
stop_fault_from stops.OutFault e = refl
stop_fault_from stops.NoMemory e = absurd (let z : ⊥ = cc in z)

pub stop_take_fault : (stop : Stop) → read_stop_for stop ≡ TakeFault → ⊥
stop_take_fault (stops.Refused fault) e = cc
stop_take_fault stops.OutFault e = cc
stop_take_fault stops.NoMemory e = cc

-- memory runs out before anything was read
pub memory_stops : (c : Conversion) (block : Block) (t l w : Option (List ℕ)) (told_end : Bool) → IsFresh t w → IsEmptyBlock block → Converts w [] [] c w → AnswersLines (Err NoMemory) c.quads t l l w told_end
memory_stops c block t l w told_end fresh empty k = record { ends = tt; front = front_so_far c block t l l w w 0 (converting_start c block t l w fresh empty k) fresh.none_put }
