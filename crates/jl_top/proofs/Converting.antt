-- From piece to piece: what a conversion has read and put.
use Rattle.std.proofs.Common.{◌≡◌, ℕ, ◌+◌, ◌-◌, ◌^◌, ◌<◌, ◌≤◌, min, List, [], ◌∷◌, ◌++◌, length, take, drop, Option, Some, None, is_some, Result, Ok, Err, refl, sym, ap, ◌∙◌, subst, arith, append-nil, append_assoc, length-append}
use Rattle.std.proofs.lemmas.List.{take-append-drop, length-drop}
use Rattle.std.proofs.Math.Seq.{take-add}
use Rattle.std.specs.Option.{option_to_list}
use Rattle.jl_model.specs.Parts.{Parts}
use Rattle.jl_model.specs.declared.faults.Fault.{Fault}
use Rattle.jl_defs.specs.WriterText.{open_text, closing_text, writer_text}
use Rattle.jl_engine.specs.declared.stops.Stop.{Stop}
use Rattle.jl_engine.specs.declared.stops.Stop.TheVariants as stops
use Rattle.jl_io.specs.Outside.{appended}
use Rattle.jl_nquads.specs.LineReading.{HasRead, Steps, AnswersBytes}
use Rattle.jl_nquads.specs.LineReading as reading
use Rattle.jl_nquads.specs.LineStates.{LineState}
use Rattle.jl_nquads.specs.declared.line_stops.LineStop.{LineStop}
use Rattle.jl_nquads.specs.declared.line_stops.LineStop.TheVariants as lines
use Rattle.jl_nquads.specs.declared.readers.LineStep.{LineStep}
use Rattle.jl_writer.specs.Writing.{IsOpen}
use Rattle.jl_top.specs.Conversions.{counted, Converts, AreQuadsOf, of_lines, of_bad, of_all, PutsTextFront, StopsFor, StopsIn, ConvertsMore, AnswersPiece, ConvertsAll, EndsFor, StopsAtEnd, AnswersEnd}
use Rattle.jl_top.specs.ConversionSteps.{line_stop_for, IsWriteStop, CountsOne, PutsQuad, CutsQuad, AnswersStep, TakesSome, StopsBytes, by_line, by_put, ClosesLast, AnswersLast, ClosesWhole, ClosesCut, ClosesText}
use Rattle.jl_top.specs.declared.conversions.Conversion.{Conversion}

-- ---- counts, and fronts of the text

pub counted_more : (quads : List Parts) (q : Parts) → counted (quads ++ q ∷ []) ≡ min (counted quads + 1) (2 ^ 64 - 1)
counted_more quads q = let longer = length-append quads (q ∷ []) in omega (arith, longer)

pub open_is_front : (before put : Option (List ℕ)) (quads : List Parts) → put ≡ appended before (open_text quads) → PutsTextFront before quads put
unfolding writer_text
open_is_front before put quads e = record { front = open_text quads; back = closing_text quads; text_is = refl; put_is = e }

-- the quads of what was read
pub read_quads : (bytes : List ℕ) (quads : List Parts) (reader : LineState) → HasRead bytes quads reader → AreQuadsOf bytes quads
read_quads bytes quads reader h = of_lines reader.part h.lines

-- ---- a piece

-- what was converted since the call began
pub record HaveConverted (piece : List ℕ) (at : ℕ) (old new : Conversion) (w0 w1 : Option (List ℕ)) : Type 0 where
  pub within : at ≤ length piece
  pub place : new.reader.start + length new.reader.part ≡ old.reader.start + length old.reader.part + at
  pub goes_on : new.writer.stopped ≡ None
  pub converts : (before : Option (List ℕ)) (bytes : List ℕ) (quads : List Parts) → Converts before bytes quads old w0 → ConvertsMore before bytes quads (take at piece) new w1

pub none_converted : (piece : List ℕ) (old : Conversion) (w : Option (List ℕ)) → old.writer.stopped ≡ None → HaveConverted piece 0 old old w w
none_converted piece old w goes = record {
  within = omega arith;
  place = omega arith;
  goes_on = goes;
  converts = λ before bytes quads h. record { more = []; converts = subst (λ b. Converts before b (quads ++ []) old w) (sym (append-nil bytes)) (subst (λ q. Converts before bytes q old w) (sym (append-nil quads)) h) };
}

pub all_converted : (piece : List ℕ) (at : ℕ) (old new : Conversion) (w0 w1 : Option (List ℕ)) → at ≡ length piece → HaveConverted piece at old new w0 w1 → AnswersPiece (Ok tt) piece old new w0 w1
all_converted piece at old new w0 w1 e h = λ before bytes quads k. subst (λ p. ConvertsMore before bytes quads p new w1) (ap (λ n. take n piece) e ∙ take_all piece) (h.converts before bytes quads k)
  where
    take_all : (xs : List ℕ) → take (length xs) xs ≡ xs
    take_all [] = refl
    take_all (x ∷ xs) = ap (λ z. x ∷ z) (take_all xs)

module _ (piece : List ℕ) (at : ℕ) (old mid : Conversion) (w0 w1 : Option (List ℕ)) (h : HaveConverted piece at old mid w0 w1) where
  rest_len : length (drop at piece) ≡ length piece - at
  rest_len = length-drop at piece

  -- what was read before the rest of the piece, and what was read of it
  joined : (k : ℕ) (bytes : List ℕ) → (bytes ++ take at piece) ++ take k (drop at piece) ≡ bytes ++ take (at + k) piece
  joined k bytes = append_assoc bytes (take at piece) (take k (drop at piece)) ∙ ap (λ z. bytes ++ z) (sym (take-add at k piece))

  -- a line without a quad ended, or none did
  pub read_more : (step : LineStep) (reader : LineState) (new : Conversion) → Steps step (drop at piece) mid.reader reader → step.quad ≡ None → new.reader ≡ reader → new.writer ≡ mid.writer → new.quads ≡ mid.quads → HaveConverted piece (at + step.count) old new w0 w1
  read_more step reader new s none r w q = record {
    within = omega (arith, s.within, rest_len, h.within);
    place = omega (arith, h.place, s.place, ap (λ (x : LineState). x.start) r, ap (λ (x : LineState). length x.part) r);
    goes_on = ap (λ x. x.stopped) w ∙ h.goes_on;
    converts = λ before bytes quads k. let m = h.converts before bytes quads k in record {
      more = m.more;
      converts = record {
        fresh = k.fresh;
        reads = subst (λ x. HasRead (bytes ++ take (at + step.count) piece) (quads ++ m.more) x) (sym r) (subst (λ z. HasRead z (quads ++ m.more) reader) (joined step.count bytes) (subst (λ g. HasRead ((bytes ++ take at piece) ++ take step.count (drop at piece)) g reader) (ap (λ o. (quads ++ m.more) ++ option_to_list o) none ∙ append-nil (quads ++ m.more)) (s.reads (bytes ++ take at piece) (quads ++ m.more) m.converts.reads)));
        writes = subst (λ x. IsOpen before x (quads ++ m.more) w1) (sym w) m.converts.writes;
        count = q ∙ m.converts.count;
      };
    };
  }

  -- the reading stopped
  pub read_stops : (stop : LineStop) (reader : LineState) (new : Conversion) → AnswersBytes (Err stop) (drop at piece) mid.reader reader → new.quads ≡ mid.quads → AnswersPiece (Err (line_stop_for stop)) piece old new w0 w1
  read_stops (lines.Refused fault) reader new a q = λ before bytes quads k.
      let m = h.converts before bytes quads k in
      let r = a (bytes ++ take at piece) (quads ++ m.more) m.converts.reads in
      record {
        front = take at piece ++ r.front;
        back = r.back;
        piece_is = sym (take-append-drop at piece) ∙ ap (λ z. take at piece ++ z) r.bytes_are ∙ sym (append_assoc (take at piece) r.front r.back);
        more = m.more;
        stops = (subst (λ z. reading.RefusesLine z (quads ++ m.more) fault) (append_assoc bytes (take at piece) r.front) r.refuses, m.converts.writes.text);
        count = q ∙ m.converts.count;
      }
  read_stops lines.NoMemory reader new a q = λ before bytes quads k.
      let m = h.converts before bytes quads k in
      record {
        front = take at piece;
        back = drop at piece;
        piece_is = sym (take-append-drop at piece);
        more = m.more;
        stops = (read_quads (bytes ++ take at piece) (quads ++ m.more) mid.reader m.converts.reads, open_is_front before w1 (quads ++ m.more) m.converts.writes.text);
        count = q ∙ m.converts.count;
      }

  -- a line with a quad ended
  module _ (step : LineStep) (reader : LineState) (s : Steps step (drop at piece) mid.reader reader) (quad : Parts) (some : step.quad ≡ Some quad) (given : Conversion) (r : given.reader ≡ reader) (w : given.writer ≡ mid.writer) (q : given.quads ≡ mid.quads) where
    grouped : (quads more : List Parts) → (quads ++ more) ++ option_to_list step.quad ≡ quads ++ (more ++ quad ∷ [])
    grouped quads more = ap (λ o. (quads ++ more) ++ option_to_list o) some ∙ append_assoc quads more (quad ∷ [])

    reads_quad : (bytes : List ℕ) (quads more : List Parts) → HasRead (bytes ++ take at piece) (quads ++ more) mid.reader → HasRead (bytes ++ take (at + step.count) piece) (quads ++ (more ++ quad ∷ [])) reader
    reads_quad bytes quads more k = subst (λ g. HasRead (bytes ++ take (at + step.count) piece) g reader) (grouped quads more) (subst (λ z. HasRead z ((quads ++ more) ++ option_to_list step.quad) reader) (joined step.count bytes) (s.reads (bytes ++ take at piece) (quads ++ more) k))

    counts_quad : (new : Conversion) (quads more : List Parts) → CountsOne given new → mid.quads ≡ counted (quads ++ more) → new.quads ≡ counted (quads ++ (more ++ quad ∷ []))
    counts_quad new quads more c k = c ∙ ap (λ n. min (n + 1) (2 ^ 64 - 1)) (q ∙ k) ∙ sym (counted_more (quads ++ more) quad) ∙ ap counted (append_assoc quads more (quad ∷ []))

    pub put_more : (new : Conversion) (w2 : Option (List ℕ)) → PutsQuad quad given new w1 w2 → new.writer.stopped ≡ None → HaveConverted piece (at + step.count) old new w0 w2
    put_more new w2 p goes = record {
      within = omega (arith, s.within, rest_len, h.within);
      place = omega (arith, h.place, s.place, ap (λ (x : LineState). x.start) (p.reader ∙ r), ap (λ (x : LineState). length x.part) (p.reader ∙ r));
      goes_on = goes;
      converts = λ before bytes quads k. let m = h.converts before bytes quads k in record {
        more = m.more ++ quad ∷ [];
        converts = record {
          fresh = k.fresh;
          reads = subst (λ x. HasRead (bytes ++ take (at + step.count) piece) (quads ++ (m.more ++ quad ∷ [])) x) (sym (p.reader ∙ r)) (reads_quad bytes quads m.more m.converts.reads);
          writes = subst (λ g. IsOpen before new.writer g w2) (append_assoc quads m.more (quad ∷ [])) (p.writes before (quads ++ m.more) (subst (λ x. IsOpen before x (quads ++ m.more) w1) (sym w) m.converts.writes));
          count = counts_quad new quads m.more p.count m.converts.count;
        };
      };
    }

    -- what a cut quad leaves
    cut_for : (before : Option (List ℕ)) (bytes : List ℕ) (quads : List Parts) (stop : Stop) (put : Option (List ℕ)) → IsWriteStop stop → AreQuadsOf bytes quads → PutsTextFront before quads put → StopsFor before bytes quads stop put
    cut_for before bytes quads (stops.Refused fault) put i a f = absurd i
    cut_for before bytes quads stops.OutFault put i a f = (a, f)
    cut_for before bytes quads stops.NoMemory put i a f = (a, f)

    pub put_stops : (stop : Stop) (new : Conversion) (w2 : Option (List ℕ)) → CutsQuad quad stop given new w1 w2 → AnswersPiece (Err stop) piece old new w0 w2
    put_stops stop new w2 c = λ before bytes quads k.
        let m = h.converts before bytes quads k in
        let all = quads ++ (m.more ++ quad ∷ []) in
        record {
          front = take (at + step.count) piece;
          back = drop (at + step.count) piece;
          piece_is = sym (take-append-drop (at + step.count) piece);
          more = m.more ++ quad ∷ [];
          stops = cut_for before (bytes ++ take (at + step.count) piece) all stop w2 c.write_stop
              (read_quads (bytes ++ take (at + step.count) piece) all reader (reads_quad bytes quads m.more m.converts.reads))
              (subst (λ g. PutsTextFront before g w2) (append_assoc quads m.more (quad ∷ [])) (c.writes before (quads ++ m.more) (subst (λ x. IsOpen before x (quads ++ m.more) w1) (sym w) m.converts.writes)));
          count = counts_quad new quads m.more c.count m.converts.count;
        }

-- a step of the loop
module _ (piece : List ℕ) (at : ℕ) (old mid : Conversion) (w0 w1 : Option (List ℕ)) (h : HaveConverted piece at old mid w0 w1) (step : LineStep) (reader : LineState) (s : Steps step (drop at piece) mid.reader reader) (given : Conversion) (r : given.reader ≡ reader) (w : given.writer ≡ mid.writer) (q : given.quads ≡ mid.quads) (new : Conversion) (w2 : Option (List ℕ)) where
  pub step_more : AnswersStep (Ok tt) step.quad given new w1 w2 → new.writer.stopped ≡ None → HaveConverted piece (at + step.count) old new w0 w2
  step_more a goes = by step.quad refl a
    where
      by : (o : Option Parts) → step.quad ≡ o → AnswersStep (Ok tt) o given new w1 w2 → HaveConverted piece (at + step.count) old new w0 w2
      by None e b = subst (λ x. HaveConverted piece (at + step.count) old new w0 x) (sym b.1) (read_more piece at old mid w0 w1 h step reader new s e (ap (λ x. x.reader) b.0 ∙ r) (ap (λ x. x.writer) b.0 ∙ w) (ap (λ x. x.quads) b.0 ∙ q))
      by (Some quad) e b = put_more piece at old mid w0 w1 h step reader s quad e given r w q new w2 b goes

  pub step_stops : (stop : Stop) → AnswersStep (Err stop) step.quad given new w1 w2 → AnswersPiece (Err stop) piece old new w0 w2
  step_stops stop a = by step.quad refl a
    where
      by : (o : Option Parts) → step.quad ≡ o → AnswersStep (Err stop) o given new w1 w2 → AnswersPiece (Err stop) piece old new w0 w2
      by None e b = absurd b
      by (Some quad) e b = put_stops piece at old mid w0 w1 h step reader s quad e given r w q stop new w2 b

-- more bytes of the piece
module _ (piece : List ℕ) (at : ℕ) (old mid : Conversion) (w0 w1 : Option (List ℕ)) (h : HaveConverted piece at old mid w0 w1) (new : Conversion) (w2 : Option (List ℕ)) where
  pub takes_more : (count : ℕ) → TakesSome count (drop at piece) mid new w1 w2 → new.writer.stopped ≡ None → HaveConverted piece (at + count) old new w0 w2
  takes_more count t goes = subst (λ n. HaveConverted piece (at + n) old new w0 w2) (sym t.count) (step_more piece at old mid w0 w1 h t.step t.reader t.reads (record mid { reader = t.reader }) refl refl refl new w2 t.puts goes)

  pub takes_stops : (stop : Stop) → StopsBytes stop (drop at piece) mid new w1 w2 → AnswersPiece (Err stop) piece old new w0 w2
  takes_stops stop (by_line x reader i a same put) =
      subst (λ s. AnswersPiece (Err s) piece old new w0 w2) (sym i) (subst (λ w. AnswersPiece (Err (line_stop_for x)) piece old new w0 w) (sym put) (read_stops piece at old mid w0 w1 h x reader new a (ap (λ c. c.quads) same)))
  takes_stops stop (by_put step reader s a) = step_stops piece at old mid w0 w1 h step reader s (record mid { reader = reader }) refl refl refl new w2 stop a

-- each call takes a byte, where there is one
pub takes_some : (count : ℕ) (bytes : List ℕ) (old new : Conversion) (w0 w1 : Option (List ℕ)) → TakesSome count bytes old new w0 w1 → 0 < length bytes → 0 < count
takes_some count bytes old new w0 w1 t l = subst (λ n. 0 < n) (sym t.count) (by t.step.quad refl)
  where
    by : (o : Option Parts) → t.step.quad ≡ o → 0 < t.step.count
    by None e = let all = t.reads.all e in omega (arith, all, l)
    by (Some q) e = t.reads.some (ap is_some e)

-- ---- the end

-- what is left where the closing text is cut, or a last quad
end_cut : (before : Option (List ℕ)) (bytes : List ℕ) (quads : List Parts) (stop : Stop) (put : Option (List ℕ)) → IsWriteStop stop → AreQuadsOf bytes quads → PutsTextFront before quads put → EndsFor before bytes quads stop put
end_cut before bytes quads (stops.Refused fault) put i a f = absurd i
end_cut before bytes quads stops.OutFault put i a f = (a, f)
end_cut before bytes quads stops.NoMemory put i a f = (a, f)

-- the last line isn't read
pub end_refused : (stop : LineStop) (old new : Conversion) (w0 w1 : Option (List ℕ)) → reading.AnswersEnd (Err stop) old.reader → new.quads ≡ old.quads → w1 ≡ w0 → AnswersEnd (Err (line_stop_for stop)) old new w0 w1
end_refused (lines.Refused fault) old new w0 w1 a q w = λ before bytes quads k. record {
  more = [];
  stops = subst (λ g. EndsFor before bytes g (stops.Refused fault) w1) (sym (append-nil quads)) (a bytes quads k.reads, read_quads bytes quads old.reader k.reads, w ∙ k.writes.text);
  count = q ∙ k.count ∙ ap counted (sym (append-nil quads));
}
end_refused lines.NoMemory old new w0 w1 a q w = λ before bytes quads k. record {
  more = [];
  stops = subst (λ g. EndsFor before bytes g stops.NoMemory w1) (sym (append-nil quads)) (read_quads bytes quads old.reader k.reads, open_is_front before w1 quads (w ∙ k.writes.text));
  count = q ∙ k.count ∙ ap counted (sym (append-nil quads));
}

-- the last line has no quad
module _ (old mid new : Conversion) (w0 w1 : Option (List ℕ)) (a : reading.AnswersEnd (Ok None) old.reader) (w : mid.writer ≡ old.writer) (q : mid.quads ≡ old.quads) where
  pub closed : ClosesText (Ok tt) mid new w0 w1 → AnswersEnd (Ok tt) old new w0 w1
  closed c = λ before bytes quads k. record {
    more = [];
    all = a bytes quads k.reads;
    text = c.writes before quads (subst (λ x. IsOpen before x quads w0) (sym w) k.writes) ∙ ap (λ g. appended before (writer_text g)) (sym (append-nil quads));
    count = c.count ∙ q ∙ k.count ∙ ap counted (sym (append-nil quads));
  }

  pub close_cut : (stop : Stop) → ClosesText (Err stop) mid new w0 w1 → AnswersEnd (Err stop) old new w0 w1
  close_cut stop c = λ before bytes quads k. record {
    more = [];
    stops = subst (λ g. EndsFor before bytes g stop w1) (sym (append-nil quads)) (end_cut before bytes quads stop w1 c.write_stop (read_quads bytes quads old.reader k.reads) (c.writes before quads (subst (λ x. IsOpen before x quads w0) (sym w) k.writes)));
    count = c.count ∙ q ∙ k.count ∙ ap counted (sym (append-nil quads));
  }

-- the last line has a quad
module _ (quad : Parts) (old mid : Conversion) (w0 : Option (List ℕ)) (a : reading.AnswersEnd (Ok (Some quad)) old.reader) (w : mid.writer ≡ old.writer) (q : mid.quads ≡ old.quads) where
  counts : (new : Conversion) (quads : List Parts) → CountsOne mid new → old.quads ≡ counted quads → new.quads ≡ counted (quads ++ quad ∷ [])
  counts new quads c k = c ∙ ap (λ n. min (n + 1) (2 ^ 64 - 1)) (q ∙ k) ∙ sym (counted_more quads quad)

  pub last_cut : (stop : Stop) (new : Conversion) (w1 : Option (List ℕ)) → CutsQuad quad stop mid new w0 w1 → AnswersEnd (Err stop) old new w0 w1
  last_cut stop new w1 c = λ before bytes quads k. record {
    more = quad ∷ [];
    stops = end_cut before bytes (quads ++ quad ∷ []) stop w1 c.write_stop (of_all (a bytes quads k.reads)) (c.writes before quads (subst (λ x. IsOpen before x quads w0) (sym w) k.writes));
    count = counts new quads c.count k.count;
  }

  pub last_closed : (new : Conversion) (w1 : Option (List ℕ)) → ClosesLast quad mid new w0 w1 → AnswersEnd (Ok tt) old new w0 w1
  last_closed new w1 c = λ before bytes quads k. record {
    more = quad ∷ [];
    all = a bytes quads k.reads;
    text = c.writes before quads (subst (λ x. IsOpen before x quads w0) (sym w) k.writes);
    count = counts new quads c.count k.count;
  }

-- the last quad, and then the close
module _ (quad : Parts) (old put new : Conversion) (w0 w1 w2 : Option (List ℕ)) (p : PutsQuad quad old put w0 w1) where
  pub then_closed : ClosesWhole put new w1 w2 → ClosesLast quad old new w0 w2
  then_closed c = record { count = c.count ∙ p.count; writes = λ before quads o. c.writes before (quads ++ quad ∷ []) (p.writes before quads o) }

  pub then_cut : (stop : Stop) → ClosesCut stop put new w1 w2 → CutsQuad quad stop old new w0 w2
  then_cut stop c = record { count = c.count ∙ p.count; write_stop = c.write_stop; writes = λ before quads o. c.writes before (quads ++ quad ∷ []) (p.writes before quads o) }

-- what is answered to the last quad, and to the close
pub last_answers : (quad : Parts) (old mid : Conversion) (w0 : Option (List ℕ)) → reading.AnswersEnd (Ok (Some quad)) old.reader → mid.writer ≡ old.writer → mid.quads ≡ old.quads → (result : Result (Unit {0}) Stop) (new : Conversion) (w1 : Option (List ℕ)) → AnswersLast result quad mid new w0 w1 → AnswersEnd result old new w0 w1
last_answers quad old mid w0 a w q (Ok u) new w1 c = last_closed quad old mid w0 a w q new w1 c
last_answers quad old mid w0 a w q (Err stop) new w1 c = last_cut quad old mid w0 a w q stop new w1 c

pub close_answers : (old mid new : Conversion) (w0 w1 : Option (List ℕ)) → reading.AnswersEnd (Ok None) old.reader → mid.writer ≡ old.writer → mid.quads ≡ old.quads → (result : Result (Unit {0}) Stop) → ClosesText result mid new w0 w1 → AnswersEnd result old new w0 w1
close_answers old mid new w0 w1 a w q (Ok u) c = closed old mid new w0 w1 a w q c
close_answers old mid new w0 w1 a w q (Err stop) c = close_cut old mid new w0 w1 a w q stop c

pub then_close : (quad : Parts) (old put new : Conversion) (w0 w1 w2 : Option (List ℕ)) → PutsQuad quad old put w0 w1 → (result : Result (Unit {0}) Stop) → ClosesText result put new w1 w2 → AnswersLast result quad old new w0 w2
then_close quad old put new w0 w1 w2 p (Ok u) c = then_closed quad old put new w0 w1 w2 p c
then_close quad old put new w0 w1 w2 p (Err stop) c = then_cut quad old put new w0 w1 w2 p stop c
