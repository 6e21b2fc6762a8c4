-- What a report of `write` says, from what the conversion answers.
use Rattle.std.proofs.Common.{◌≡◌, ◌≢◌, ◌⊎◌, inl, inr, ℕ, ◌+◌, ◌^◌, ◌<◌, ◌≤◌, Bool, true, List, [], ◌++◌, length, Option, Some, None, Result, Ok, Err, IsErrOf, refl, sym, ap, ◌∙◌, subst, arith, append_assoc, length-append}
use Rattle.std.specs.Option.{IfSome}
use Rattle.jl_io.specs.Outside.{Leaves}
use Rattle.jl_model.specs.Causes.{HasCause, Rose}
use Rattle.jl_model.proofs.Causing.{cause_none, cause_as}
use Rattle.jl_model.specs.LineGrammar.{QuadsOf}
use Rattle.jl_model.specs.Parts.{Parts}
use Rattle.jl_model.specs.declared.faults.Fault.{Fault}
use Rattle.jl_top.specs.ConversionRuns.{ConvertsWhole, IsBadLine, ended, last, HasBadLine, ConvertsTaken, ConvertsTooMany, ConvertsFront, AnswersLines, IsCompleteConversion, ConversionAnswers, WriteAnswers}
use Rattle.jl_defs.specs.WriterText.{writer_text}
use Rattle.jl_top.specs.Conversions.{of_lines}
use Rattle.jl_top.specs.Reports.{report_of}
use Rattle.jl_top.specs.Runs.{IsFresh}
use Rattle.jl_top.specs.declared.stops.ReadStop.{ReadStop}
use Rattle.jl_top.specs.declared.stops.ReadStop.TheVariants.{Refused, TooLong, TakeFault, OutFault, NoMemory}
use Rattle.jl_top.proofs.Going.{leaves_nil}
use Rattle.jl_top.proofs.Reporting.{taken_front, all_taken, report_is, no_two, taking_by, writing_by}

-- bytes that are lines of quads have no bad line
no_bad_line : (bytes taken : List ℕ) (quads before : List Parts) (fault : Fault) (told_end : Bool) (left : Option (List ℕ)) → Leaves (Some bytes) taken left → QuadsOf bytes quads → IsBadLine taken before fault told_end left → ⊥
no_bad_line bytes taken quads before fault told_end left h q (ended front back e few r) =
    let t = taken_front bytes taken left h in
    r.begins_none (back ++ t.0, quads, subst (λ b. QuadsOf b quads) (t.1 ∙ ap (λ b. b ++ t.0) e ∙ append_assoc front back t.0) q)
no_bad_line bytes taken quads before fault told_end left h q (last is none r a) =
    r.has_none quads (subst (λ b. QuadsOf b quads) (all_taken bytes taken left h none) q)

module _ (taken left_old left_new put : Option (List ℕ)) (told_end : Bool) (count : ℕ) where
  whole_of : (r : Result (Unit {0}) ReadStop) → AnswersLines r count taken left_old left_new put told_end → (report_of r count).status ≡ 0 → ConvertsWhole (report_of r count).quads taken left_old left_new put
  whole_of (Ok u) h is = h.ends.0
  whole_of (Err (Refused fault)) h is = absurd (omega arith)
  whole_of (Err TooLong) h is = absurd (omega arith)
  whole_of (Err TakeFault) h is = absurd (omega arith)
  whole_of (Err OutFault) h is = absurd (omega arith)
  whole_of (Err NoMemory) h is = absurd (omega arith)

  told_of : (r : Result (Unit {0}) ReadStop) → AnswersLines r count taken left_old left_new put told_end → (report_of r count).status ≡ 0 → told_end ≡ true
  told_of (Ok u) h is = h.ends.1
  told_of (Err (Refused fault)) h is = absurd (omega arith)
  told_of (Err TooLong) h is = absurd (omega arith)
  told_of (Err TakeFault) h is = absurd (omega arith)
  told_of (Err OutFault) h is = absurd (omega arith)
  told_of (Err NoMemory) h is = absurd (omega arith)

  bad_line_of : (r : Result (Unit {0}) ReadStop) → AnswersLines r count taken left_old left_new put told_end → (report_of r count).status ≡ 1
      → IfSome (report_of r count).code (λ code. HasBadLine (record { code = code; at = (report_of r count).at }) (report_of r count).quads taken left_old left_new put told_end)
  bad_line_of (Ok u) h is = absurd (omega arith)
  bad_line_of (Err (Refused fault)) h is = h.ends
  bad_line_of (Err TooLong) h is = absurd (omega arith)
  bad_line_of (Err TakeFault) h is = absurd (omega arith)
  bad_line_of (Err OutFault) h is = absurd (omega arith)
  bad_line_of (Err NoMemory) h is = absurd (omega arith)

  front_of : (r : Result (Unit {0}) ReadStop) → AnswersLines r count taken left_old left_new put told_end → ConvertsFront (report_of r count).quads taken left_old left_new put
  front_of (Ok u) h = h.front
  front_of (Err (Refused fault)) h = h.front
  front_of (Err TooLong) h = h.front
  front_of (Err TakeFault) h = h.front
  front_of (Err OutFault) h = h.front
  front_of (Err NoMemory) h = h.front

  so_far_of : (r : Result (Unit {0}) ReadStop) → AnswersLines r count taken left_old left_new put told_end → (report_of r count).status ≡ 3 → ConvertsTaken (report_of r count).quads taken left_old left_new put
  so_far_of (Ok u) h is = absurd (omega arith)
  so_far_of (Err (Refused fault)) h is = absurd (omega arith)
  so_far_of (Err TooLong) h is = absurd (omega arith)
  so_far_of (Err TakeFault) h is = h.ends
  so_far_of (Err OutFault) h is = absurd (omega arith)
  so_far_of (Err NoMemory) h is = absurd (omega arith)

  too_long_of : (r : Result (Unit {0}) ReadStop) → AnswersLines r count taken left_old left_new put told_end → (report_of r count).status ≡ 8 → ConvertsTooMany (report_of r count).quads taken left_old left_new put
  too_long_of (Ok u) h is = absurd (omega arith)
  too_long_of (Err (Refused fault)) h is = absurd (omega arith)
  too_long_of (Err TooLong) h is = h.ends
  too_long_of (Err TakeFault) h is = absurd (omega arith)
  too_long_of (Err OutFault) h is = absurd (omega arith)
  too_long_of (Err NoMemory) h is = absurd (omega arith)

  complete_of : (r : Result (Unit {0}) ReadStop) (k0 k1 p0 p1 : ℕ) → AnswersLines r count taken left_old left_new put told_end → HasCause k0 k1 (IsErrOf r TakeFault) → HasCause p0 p1 (IsErrOf r OutFault) → IsCompleteConversion (report_of r count) left_old k0 k1 p0 p1
  complete_of (Ok u) k0 k1 p0 p1 h k p = λ bytes left short no_take no_put.
      let w = h.ends.0 in
      let same = all_taken bytes w.bytes left_new (subst (λ l. Leaves l w.bytes left_new) left w.took.left_is) w.none_left in
      (λ quads q. inl refl, λ none. absurd (none w.quads (subst (λ b. QuadsOf b w.quads) (sym same) w.all)))
  complete_of (Err (Refused fault)) k0 k1 p0 p1 h k p = λ bytes left short no_take no_put.
      (λ quads q. absurd (no_bad_line bytes h.ends.bytes quads h.ends.quads fault told_end left_new (subst (λ l. Leaves l h.ends.bytes left_new) left h.ends.took.left_is) q h.ends.bad), λ none. inl refl)
  complete_of (Err TooLong) k0 k1 p0 p1 h k p = λ bytes left short no_take no_put.
      let all = h.ends.so_far.bytes in
      let front = taken_front bytes all left_new (subst (λ l. Leaves l all left_new) left h.ends.so_far.took.left_is) in
      let longer = ap length front.1 ∙ length-append all front.0 in
      let long = h.ends.too_many in
      absurd (omega (arith, longer, long, short))
  complete_of (Err TakeFault) k0 k1 p0 p1 h k p = λ bytes left short no_take no_put. absurd (no_take (k.failed refl))
  complete_of (Err OutFault) k0 k1 p0 p1 h k p = λ bytes left short no_take no_put. absurd (no_put (p.failed refl))
  complete_of (Err NoMemory) k0 k1 p0 p1 h k p = λ bytes left short no_take no_put. (λ quads q. inr refl, λ none. inr refl)

  conversion_of : (r : Result (Unit {0}) ReadStop) (k0 k1 p0 p1 : ℕ) → AnswersLines r count taken left_old left_new put told_end → HasCause k0 k1 (IsErrOf r TakeFault) → HasCause p0 p1 (IsErrOf r OutFault) → ConversionAnswers (report_of r count) taken left_old left_new put told_end k0 k1 p0 p1
  conversion_of r k0 k1 p0 p1 h k p = record {
    whole = whole_of r h;
    bad_line = bad_line_of r h;
    so_far = so_far_of r h;
    too_long = too_long_of r h;
    front = front_of r h;
    complete = complete_of r k0 k1 p0 p1 h k p;
  }

-- all that is said of the run
pub write_answers : (r : Result (Unit {0}) ReadStop) (count : ℕ) (taken left_old left_new put : Option (List ℕ)) (told_end : Bool) (k0 k1 p0 p1 : ℕ) → AnswersLines r count taken left_old left_new put told_end
    → HasCause k0 k1 (IsErrOf r TakeFault) → HasCause p0 p1 (IsErrOf r OutFault) → WriteAnswers (report_of r count) taken left_old left_new put told_end k0 k1 p0 p1
write_answers r count taken left_old left_new put told_end k0 k1 p0 p1 h k p = record {
  conversion = conversion_of taken left_old left_new put told_end count r k0 k1 p0 p1 h k p;
  command = no_two r count;
  ended = told_of taken left_old left_new put told_end count r h;
  taking = taking_by count r k0 k1 k;
  writing = writing_by count r p0 p1 p;
  report = report_is r count;
}

-- the answer where memory runs out before a block is there
pub nothing_written : (t l w : Option (List ℕ)) (e : Bool) (k p : ℕ) → IsFresh t w → WriteAnswers (report_of (Err NoMemory) 0) t l l w e k k p p
nothing_written t l w e k p fresh =
    write_answers (Err NoMemory) 0 t l l w e k k p p (record { ends = tt; front = nothing_front t l w fresh }) (cause_none k k _ refl (λ e. cc)) (cause_none p p _ refl (λ e. cc))
  where
    nothing_told : (w : Option (List ℕ)) → IfSome w (λ bytes. bytes ≡ []) → IfSome w (λ told. (rest : List ℕ) × (writer_text [] ≡ told ++ rest))
    nothing_told None h = tt
    nothing_told (Some w) h = (writer_text [], ap (λ x. x ++ writer_text []) (sym h))

    nothing_front : (t l w : Option (List ℕ)) → IsFresh t w → ConvertsFront 0 t l l w
    nothing_front t l w fresh = record {
      front = [];
      back = [];
      took = record { taken_is = fresh.none_taken; left_is = leaves_nil l };
      few = omega arith;
      quads = [];
      are_quads = of_lines [] (record { ended = []; bytes_are = refl; lines = record { lines = []; spelled = refl; whole = refl; quads_are = refl }; no_end = refl });
      text = nothing_told w fresh.none_put;
      count = refl;
    }
