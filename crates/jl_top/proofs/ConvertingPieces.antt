-- What is handed on of a conversion's text after a piece, and after the end.
use Rattle.std.proofs.Common.{◌≡◌, ◌⊎◌, inl, inr, ℕ, List, [], ◌++◌, Option, Some, None, Result, Ok, Err, OnOk, IfErr, refl, sym, ap, ◌∙◌, subst, append-nil, append_assoc}
use Rattle.std.specs.Option.{IfSome}
use Rattle.jl_model.specs.Parts.{Parts}
use Rattle.jl_defs.specs.WriterText.{open_text, writer_text}
use Rattle.jl_engine.specs.declared.stops.Stop.{Stop}
use Rattle.jl_engine.specs.declared.stops.Stop.TheVariants as stops
use Rattle.jl_io.specs.Outside.{appended}
use Rattle.jl_io.proofs.Fronts.{appended-nil}
use Rattle.jl_top.specs.Blocks.{HandsOn, held_of}
use Rattle.jl_top.specs.Conversions.{Converts, AreQuadsOf, of_lines, of_bad, of_all, PutsTextFront, StopsFor, StopsIn, ConvertsMore, AnswersPiece, ConvertsAll, EndsFor, StopsAtEnd, AnswersEnd}
use Rattle.jl_top.specs.declared.blocks.Block.{Block}
use Rattle.jl_top.specs.declared.conversions.Conversion.{Conversion}
use Rattle.jl_top.proofs.Converting.{open_is_front, read_quads}
use Rattle.jl_top.proofs.Handing.{hands_same}

-- without what is still held a front of a text was put, too
pub without_held : (before w : Option (List ℕ)) (held : List ℕ) (quads : List Parts) → IfSome before (λ told. told ≡ []) → PutsTextFront before quads (appended w held) → PutsTextFront before quads w
without_held None None held quads fresh p = record { front = []; back = writer_text quads; text_is = refl; put_is = refl }
without_held None (Some w) held quads fresh p = let e = p.put_is in absurd (let z : ⊥ = cc in z)
without_held (Some b) None held quads fresh p = let e = p.put_is in absurd (let z : ⊥ = cc in z)
without_held (Some b) (Some w) held quads fresh p =
    let same : w ++ held ≡ p.front = some_is (w ++ held) (b ++ p.front) p.put_is ∙ ap (λ x. x ++ p.front) fresh in
    record {
      front = w;
      back = held ++ p.back;
      text_is = p.text_is ∙ ap (λ x. x ++ p.back) (sym same) ∙ append_assoc w held p.back;
      put_is = ap (λ x. Some (x ++ w)) (sym fresh);
    }
  where
    some_is : (x y : List ℕ) → ◌≡◌ {A = Option (List ℕ)} (Some x) (Some y) → x ≡ y
    some_is x y e = cc

module _ (w0 w1 w2 : Option (List ℕ)) (b0 b1 b2 : Block) (none : held_of b0 ≡ []) (h : HandsOn w1 w2 b1 b2) where
  -- what had been put before
  put_before : w0 ≡ appended w0 (held_of b0)
  put_before = sym (appended-nil w0) ∙ ap (λ x. appended w0 x) (sym none)

  -- what is put now, and is still held
  put_now : appended w1 (held_of b1) ≡ appended w2 (held_of b2)
  put_now = sym (hands_same w1 w2 b1 b2 h)

  all_put : held_of b2 ≡ [] → appended w1 (held_of b1) ≡ w2
  all_put all = put_now ∙ ap (λ x. appended w2 x) all ∙ appended-nil w2

  some_put : (before : Option (List ℕ)) (quads : List Parts) → IfSome before (λ told. told ≡ []) → PutsTextFront before quads (appended w1 (held_of b1)) → PutsTextFront before quads w2
  some_put before quads fresh p = without_held before w2 (held_of b2) quads fresh (subst (λ w. PutsTextFront before quads w) put_now p)

  module _ (piece : List ℕ) (old new : Conversion) where
    -- a piece was read
    pub handed_answers : (result : Result (Unit {0}) Stop) → OnOk result (held_of b2 ≡ []) → IfErr result (λ stop. stop ≡ stops.OutFault) → AnswersPiece (Ok tt) piece old new (appended w0 (held_of b0)) (appended w1 (held_of b1)) → AnswersPiece result piece old new w0 w2
    handed_answers (Ok u) all stop a = λ before bytes quads k.
        let m = a before bytes quads (subst (λ w. Converts before bytes quads old w) put_before k) in
        record { more = m.more; converts = subst (λ w. Converts before (bytes ++ piece) (quads ++ m.more) new w) (all_put all) m.converts }
    handed_answers (Err s) all stop a = λ before bytes quads k.
        let m = a before bytes quads (subst (λ w. Converts before bytes quads old w) put_before k) in
        let every = quads ++ m.more in
        record {
          front = piece;
          back = [];
          piece_is = sym (append-nil piece);
          more = m.more;
          stops = subst (λ x. StopsFor before (bytes ++ piece) every x w2) (sym stop) (read_quads (bytes ++ piece) every new.reader m.converts.reads, some_put before every k.fresh (open_is_front before (appended w1 (held_of b1)) every m.converts.writes.text));
          count = m.converts.count;
        }

    -- a piece stopped the reading: where the out fails now, that is told
    cut_for : (before : Option (List ℕ)) (bytes : List ℕ) (quads : List Parts) (stop : Stop) → IfSome before (λ told. told ≡ []) → StopsFor before bytes quads stop (appended w1 (held_of b1)) → StopsFor before bytes quads stops.OutFault w2
    cut_for before bytes quads (stops.Refused fault) fresh s = (of_bad fault s.0, some_put before quads fresh (open_is_front before (appended w1 (held_of b1)) quads s.1))
    cut_for before bytes quads stops.OutFault fresh s = (s.0, some_put before quads fresh s.1)
    cut_for before bytes quads stops.NoMemory fresh s = (s.0, some_put before quads fresh s.1)

    pub stopped_answers : (stop now : Stop) → (now ≡ stops.OutFault) ⊎ ((now ≡ stop) × (held_of b2 ≡ [])) → AnswersPiece (Err stop) piece old new (appended w0 (held_of b0)) (appended w1 (held_of b1)) → AnswersPiece (Err now) piece old new w0 w2
    stopped_answers stop now which a = λ before bytes quads k.
        let s = a before bytes quads (subst (λ w. Converts before bytes quads old w) put_before k) in
        let every = quads ++ s.more in
        let left : StopsFor before (bytes ++ s.front) every now w2 = elim which [
          | inl e ↦ subst (λ x. StopsFor before (bytes ++ s.front) every x w2) (sym e) (cut_for before (bytes ++ s.front) every stop k.fresh s.stops)
          | inr e ↦ subst (λ x. StopsFor before (bytes ++ s.front) every x w2) (sym e.0) (subst (λ w. StopsFor before (bytes ++ s.front) every stop w) (all_put e.1) s.stops)
        ] in
        record { front = s.front; back = s.back; piece_is = s.piece_is; more = s.more; stops = left; count = s.count }

  module _ (old new : Conversion) where
    pub handed_end : (result : Result (Unit {0}) Stop) → OnOk result (held_of b2 ≡ []) → IfErr result (λ stop. stop ≡ stops.OutFault) → AnswersEnd (Ok tt) old new (appended w0 (held_of b0)) (appended w1 (held_of b1)) → AnswersEnd result old new w0 w2
    handed_end (Ok u) all stop a = λ before bytes quads k.
        let m = a before bytes quads (subst (λ w. Converts before bytes quads old w) put_before k) in
        record { more = m.more; all = m.all; text = sym (all_put all) ∙ m.text; count = m.count }
    handed_end (Err s) all stop a = λ before bytes quads k.
        let m = a before bytes quads (subst (λ w. Converts before bytes quads old w) put_before k) in
        let every = quads ++ m.more in
        record {
          more = m.more;
          stops = subst (λ x. EndsFor before bytes every x w2) (sym stop) (of_all m.all, some_put before every k.fresh (record { front = writer_text every; back = []; text_is = sym (append-nil (writer_text every)); put_is = m.text }));
          count = m.count;
        }

    end_cut_for : (before : Option (List ℕ)) (bytes : List ℕ) (quads : List Parts) (stop : Stop) → IfSome before (λ told. told ≡ []) → EndsFor before bytes quads stop (appended w1 (held_of b1)) → EndsFor before bytes quads stops.OutFault w2
    end_cut_for before bytes quads (stops.Refused fault) fresh s = (s.1, some_put before quads fresh (open_is_front before (appended w1 (held_of b1)) quads s.2))
    end_cut_for before bytes quads stops.OutFault fresh s = (s.0, some_put before quads fresh s.1)
    end_cut_for before bytes quads stops.NoMemory fresh s = (s.0, some_put before quads fresh s.1)

    pub stopped_end : (stop now : Stop) → (now ≡ stops.OutFault) ⊎ ((now ≡ stop) × (held_of b2 ≡ [])) → AnswersEnd (Err stop) old new (appended w0 (held_of b0)) (appended w1 (held_of b1)) → AnswersEnd (Err now) old new w0 w2
    stopped_end stop now which a = λ before bytes quads k.
        let s = a before bytes quads (subst (λ w. Converts before bytes quads old w) put_before k) in
        let every = quads ++ s.more in
        let left : EndsFor before bytes every now w2 = elim which [
          | inl e ↦ subst (λ x. EndsFor before bytes every x w2) (sym e) (end_cut_for before bytes every stop k.fresh s.stops)
          | inr e ↦ subst (λ x. EndsFor before bytes every x w2) (sym e.0) (subst (λ w. EndsFor before bytes every stop w) (all_put e.1) s.stops)
        ] in
        record { more = s.more; stops = left; count = s.count }
