-- What a report says, from what the reading answers.
use Rattle.std.proofs.Common.{◌≡◌, ◌↔◌, ◌<◌, ◌≤◌, ◌^◌, ◌+◌, inl, inr, ℕ, List, [], ◌∷◌, ◌++◌, length, Bool, true, false, refl, sym, ap, ◌∙◌, subst, arith, append_assoc, append-nil, length-append, Option, Some, None, Result, Ok, Err, IsErrOf, codes}
use Rattle.std.proofs.lemmas.Bool.{false≢true}
use Rattle.std.proofs.lemmas.Slice.Eq.{bytes_eq-Decides}
use Rattle.std.specs.List.{list_all}
use Rattle.std.specs.Option.{IfSome}
use Rattle.std.specs.Str.{is_utf8}
use Rattle.jl_io.specs.Outside.{Leaves, NoneLeft}
use Rattle.jl_model.specs.Causes.{HasCause}
use Rattle.jl_model.proofs.Causing.{cause_none, cause_as}
use Rattle.jl_model.specs.JsonText.{Begins, Reads}
use Rattle.jl_model.specs.JsonTree.{Tree}
use Rattle.jl_model.specs.declared.faults.Fault.{Fault}
use Rattle.jl_defs.specs.Sets.{Has}
use Rattle.jl_defs.specs.Settings.{Settings}
use Rattle.jl_defs.specs.Texts.{Text}
use Rattle.jl_engine.specs.Standing.{EndRefusal}
use Rattle.jl_engine.specs.Standing.EndRefusal.{by_end, by_fault as end_by_fault, by_form as end_by_form}
use Rattle.jl_defs.specs.OpenText.{ReadsAs}
use Rattle.jl_defs.specs.Faults.{faults}
use Rattle.jl_walk.specs.Stage.{document_forms}
use Rattle.jl_top.specs.Blocks.{CountsLines}
use Rattle.jl_top.specs.ConversionRuns.{WriteAnswers}
use Rattle.jl_top.specs.Headline.{AnswersRead, AnswersFault, AnswersTaken, AnswersMemory, AnswersTooLong, Accepts, IsComplete, PutsSureLines, RunAnswers}
use Rattle.jl_top.specs.Reports.{report_of, plain_report, IsReport, IsStatus}
use Rattle.jl_top.specs.Runs.{IsFresh, IsAtFault, by_text, by_fault, by_form, IsFault, in_bytes, at_end, AnswersRun}
use Rattle.jl_top.specs.declared.stops.ReadStop.{ReadStop}
use Rattle.jl_top.specs.declared.stops.ReadStop.TheVariants.{Refused, TooLong, TakeFault, OutFault, NoMemory}
use Rattle.jl_top.specs.Words.{settings_of, read_settings, are_write}
use Rattle.jl_top.specs.declared.reports.Report.{Report}
use Rattle.jl_top.proofs.Going.{memory_answers, no_lines}

-- the bytes taken are a front of those told at the beginning
pub taken_front : (bytes taken : List ℕ) (left : Option (List ℕ)) → Leaves (Some bytes) taken left → (rest : List ℕ) × (bytes ≡ taken ++ rest)
taken_front bytes taken None h = absurd h
taken_front bytes taken (Some rest) h = (rest, h)

pub all_taken : (bytes taken : List ℕ) (left : Option (List ℕ)) → Leaves (Some bytes) taken left → NoneLeft left → bytes ≡ taken
all_taken bytes taken None h k = absurd h
all_taken bytes taken (Some rest) h k = h ∙ ap (λ r. taken ++ r) k ∙ append-nil taken

-- a list that is empty has nothing
none_had : {A : Type 0} (xs : List A) (x : A) → xs ≡ [] → Has xs x → ⊥
none_had xs x e h = subst (λ l. Has l x) e h

-- no byte of an accepted document is at fault
no_refusal : (s : Settings) (front rest bytes : List ℕ) (fault : Fault) → bytes ≡ front ++ rest → Accepts s bytes → IsAtFault s front fault → ⊥
no_refusal s front rest bytes fault e (t, reads, accepts, built) (by_text h) =
    let begins : Begins 0 front = (rest, t, reads.0, subst (λ b. Reads 0 b t reads.0) e reads.1) in
    h.breaks.breaks (subst (Begins 0) h.bytes_are begins)
no_refusal s front rest bytes fault e (t, reads, accepts, built) (by_fault h) = none_had _ fault accepts (h.faulty rest t (subst (λ b. ReadsAs b t) e reads))
no_refusal s front rest bytes fault e (t, reads, accepts, built) (by_form h) = none_had _ fault.at built (h.stands rest t (subst (λ b. ReadsAs b t) e reads))

-- nor is its end
no_end_refusal : (s : Settings) (bytes : List ℕ) (fault : Fault) → Accepts s bytes → EndRefusal s bytes fault → ⊥
no_end_refusal s bytes fault (t, reads, accepts, built) (by_end h) = h.unreadable t reads.0 reads.1
no_end_refusal s bytes fault (t, reads, accepts, built) (end_by_fault h) = none_had (faults s t) fault accepts (h.faulty t reads)
no_end_refusal s bytes fault (t, reads, accepts, built) (end_by_form h) = none_had (document_forms s t) fault.at built (h.stands t reads)

-- an accepted document has no fault
no_fault : (s : Settings) (fault : Fault) (taken bytes : List ℕ) (put : Option (List ℕ)) (told_end : Bool) (left : Option (List ℕ)) → Leaves (Some bytes) taken left → Accepts s bytes → IsFault s taken fault put told_end left → ⊥
no_fault s fault taken bytes put told_end left h accepts (in_bytes f) =
    let t = taken_front bytes taken left h in
    let split : f.front ++ f.byte ∷ f.back ≡ (f.front ++ f.byte ∷ []) ++ f.back = sym (append_assoc f.front (f.byte ∷ []) f.back) in
    no_refusal s (f.front ++ f.byte ∷ []) (f.back ++ t.0) bytes fault
    (t.1 ∙ ap (λ b. b ++ t.0) (f.bytes_are ∙ split) ∙ append_assoc (f.front ++ f.byte ∷ []) f.back t.0) accepts f.is_fault
no_fault s fault taken bytes put told_end left h accepts (at_end f) =
    no_end_refusal s taken fault (subst (Accepts s) (all_taken bytes taken left h f.none_left) accepts) f.refusal

-- ---- counts of failures

pub taking_by : (quads : ℕ) (r : Result (Unit {0}) ReadStop) (m n : ℕ) → HasCause m n (IsErrOf r TakeFault) → HasCause m n ((report_of r quads).status ≡ 3)
taking_by quads (Ok u) m n h = cause_none m n _ (h.others (λ e. cc)) (λ e. omega arith)
taking_by quads (Err (Refused fault)) m n h = cause_none m n _ (h.others (λ e. cc)) (λ e. omega arith)
taking_by quads (Err TooLong) m n h = cause_none m n _ (h.others (λ e. cc)) (λ e. omega arith)
taking_by quads (Err TakeFault) m n h = cause_as m n _ _ (λ e. refl) (λ e. refl) h
taking_by quads (Err OutFault) m n h = cause_none m n _ (h.others (λ e. cc)) (λ e. omega arith)
taking_by quads (Err NoMemory) m n h = cause_none m n _ (h.others (λ e. cc)) (λ e. omega arith)

pub writing_by : (quads : ℕ) (r : Result (Unit {0}) ReadStop) (m n : ℕ) → HasCause m n (IsErrOf r OutFault) → HasCause m n ((report_of r quads).status ≡ 4)
writing_by quads (Ok u) m n h = cause_none m n _ (h.others (λ e. cc)) (λ e. omega arith)
writing_by quads (Err (Refused fault)) m n h = cause_none m n _ (h.others (λ e. cc)) (λ e. omega arith)
writing_by quads (Err TooLong) m n h = cause_none m n _ (h.others (λ e. cc)) (λ e. omega arith)
writing_by quads (Err TakeFault) m n h = cause_none m n _ (h.others (λ e. cc)) (λ e. omega arith)
writing_by quads (Err OutFault) m n h = cause_as m n _ _ (λ e. refl) (λ e. refl) h
writing_by quads (Err NoMemory) m n h = cause_none m n _ (h.others (λ e. cc)) (λ e. omega arith)

module _ (s : Settings) (taken left_old left_new put : Option (List ℕ)) (told_end : Bool) (quads : ℕ) where
  read_of : (r : Result (Unit {0}) ReadStop) → AnswersRun s r taken left_old left_new put told_end → AnswersRead s (report_of r quads) taken left_old left_new put
  read_of (Ok u) h = λ is. h.whole
  read_of (Err (Refused fault)) h = λ is. absurd (omega arith)
  read_of (Err TooLong) h = λ is. absurd (omega arith)
  read_of (Err TakeFault) h = λ is. absurd (omega arith)
  read_of (Err OutFault) h = λ is. absurd (omega arith)
  read_of (Err NoMemory) h = λ is. absurd (omega arith)

  ended_of : (r : Result (Unit {0}) ReadStop) → AnswersRun s r taken left_old left_new put told_end → (report_of r quads).status ≡ 0 → told_end ≡ true
  ended_of (Ok u) h is = h.ended
  ended_of (Err (Refused fault)) h is = absurd (omega arith)
  ended_of (Err TooLong) h is = absurd (omega arith)
  ended_of (Err TakeFault) h is = absurd (omega arith)
  ended_of (Err OutFault) h is = absurd (omega arith)
  ended_of (Err NoMemory) h is = absurd (omega arith)

  fault_of : (r : Result (Unit {0}) ReadStop) → AnswersRun s r taken left_old left_new put told_end → AnswersFault s (report_of r quads) taken left_old left_new put told_end
  fault_of (Ok u) h = λ is. absurd (omega arith)
  fault_of (Err (Refused fault)) h = λ is. h.stops
  fault_of (Err TooLong) h = λ is. absurd (omega arith)
  fault_of (Err TakeFault) h = λ is. absurd (omega arith)
  fault_of (Err OutFault) h = λ is. absurd (omega arith)
  fault_of (Err NoMemory) h = λ is. absurd (omega arith)

  long_of : (r : Result (Unit {0}) ReadStop) → AnswersRun s r taken left_old left_new put told_end → AnswersTooLong s (report_of r quads) taken left_old left_new put
  long_of (Ok u) h = λ is. absurd (omega arith)
  long_of (Err (Refused fault)) h = λ is. absurd (omega arith)
  long_of (Err TooLong) h = λ is. h.stops
  long_of (Err TakeFault) h = λ is. absurd (omega arith)
  long_of (Err OutFault) h = λ is. absurd (omega arith)
  long_of (Err NoMemory) h = λ is. absurd (omega arith)

  taken_of : (r : Result (Unit {0}) ReadStop) → AnswersRun s r taken left_old left_new put told_end → AnswersTaken s (report_of r quads) taken left_old left_new put
  taken_of (Ok u) h = λ is. absurd (omega arith)
  taken_of (Err (Refused fault)) h = λ is. absurd (omega arith)
  taken_of (Err TooLong) h = λ is. absurd (omega arith)
  taken_of (Err TakeFault) h = λ is. h.stops
  taken_of (Err OutFault) h = λ is. absurd (omega arith)
  taken_of (Err NoMemory) h = λ is. absurd (omega arith)

  memory_of : (r : Result (Unit {0}) ReadStop) → AnswersRun s r taken left_old left_new put told_end → AnswersMemory s (report_of r quads) taken left_old left_new put
  memory_of (Ok u) h = λ is. absurd (omega arith)
  memory_of (Err (Refused fault)) h = λ is. absurd (omega arith)
  memory_of (Err TooLong) h = λ is. absurd (omega arith)
  memory_of (Err TakeFault) h = λ is. absurd (omega arith)
  memory_of (Err OutFault) h = λ is. absurd (omega arith)
  memory_of (Err NoMemory) h = λ is. h.stops

  complete_of : (r : Result (Unit {0}) ReadStop) (k0 k1 p0 p1 : ℕ) → AnswersRun s r taken left_old left_new put told_end → HasCause k0 k1 (IsErrOf r TakeFault) → HasCause p0 p1 (IsErrOf r OutFault) → IsComplete s (report_of r quads) left_old k0 k1 p0 p1
  complete_of (Ok u) k0 k1 p0 p1 h k p = λ bytes left accepts short no_take no_put. inl refl
  complete_of (Err (Refused fault)) k0 k1 p0 p1 h k p = λ bytes left accepts short no_take no_put.
      absurd (no_fault s fault h.stops.bytes bytes put told_end left_new (subst (λ l. Leaves l h.stops.bytes left_new) left h.stops.took.left_is) accepts h.stops.is_fault)
  complete_of (Err TooLong) k0 k1 p0 p1 h k p = λ bytes left accepts short no_take no_put.
      let all = h.stops.front ++ h.stops.back in
      let front = taken_front bytes all left_new (subst (λ l. Leaves l all left_new) left h.stops.took.left_is) in
      let longer : length bytes ≡ length all + length front.0 = ap length front.1 ∙ length-append all front.0 in
      let long : 2 ^ 40 < length all = h.stops.too_many in
      absurd (omega arith)
  complete_of (Err TakeFault) k0 k1 p0 p1 h k p = λ bytes left accepts short no_take no_put. absurd (no_take (k.failed refl))
  complete_of (Err OutFault) k0 k1 p0 p1 h k p = λ bytes left accepts short no_take no_put. absurd (no_put (p.failed refl))
  complete_of (Err NoMemory) k0 k1 p0 p1 h k p = λ bytes left accepts short no_take no_put. inr refl

  lines_of : (r : Result (Unit {0}) ReadStop) → AnswersRun s r taken left_old left_new put told_end → PutsSureLines s (report_of r quads) taken left_old left_new put
  lines_of (Ok u) h = h.lines
  lines_of (Err (Refused fault)) h = h.lines
  lines_of (Err TooLong) h = h.lines
  lines_of (Err TakeFault) h = h.lines
  lines_of (Err OutFault) h = h.lines
  lines_of (Err NoMemory) h = h.lines

not_one : (status : ℕ) → (status ≡ 1 → ⊥) → false ≡ true ↔ (status ≡ 1)
not_one status h = (λ e. absurd (cc), λ e. absurd (h e))

-- a report without a fault
pub plain_is : (status quads : ℕ) → IsStatus status → (status ≡ 1 → ⊥) → IsReport (plain_report status quads)
plain_is status quads known h = record { status = known; code = not_one status h; place = λ no. refl; peak = refl; weight = refl; limit = refl }

pub report_is : (r : Result (Unit {0}) ReadStop) (quads : ℕ) → IsReport (report_of r quads)
report_is (Ok u) quads = plain_is 0 quads (inl refl) (λ e. omega arith)
report_is (Err (Refused fault)) quads = record { status = inr (inl refl); code = (λ e. refl, λ e. refl); place = λ no. absurd (no refl); peak = refl; weight = refl; limit = refl }
report_is (Err TooLong) quads = plain_is 8 quads (inr (inr (inr (inr (inr (inr refl)))))) (λ e. omega arith)
report_is (Err TakeFault) quads = plain_is 3 quads (inr (inr (inr (inl refl)))) (λ e. omega arith)
report_is (Err OutFault) quads = plain_is 4 quads (inr (inr (inr (inr (inl refl))))) (λ e. omega arith)
report_is (Err NoMemory) quads = plain_is 5 quads (inr (inr (inr (inr (inr (inl refl)))))) (λ e. omega arith)

pub no_two : (r : Result (Unit {0}) ReadStop) (quads : ℕ) → (report_of r quads).status ≡ 2 → ⊥
no_two (Ok u) quads e = omega arith
no_two (Err (Refused fault)) quads e = omega arith
no_two (Err TooLong) quads e = omega arith
no_two (Err TakeFault) quads e = omega arith
no_two (Err OutFault) quads e = omega arith
no_two (Err NoMemory) quads e = omega arith

quads_are : (r : Result (Unit {0}) ReadStop) (quads : ℕ) → (report_of r quads).quads ≡ quads
quads_are (Ok u) quads = refl
quads_are (Err (Refused fault)) quads = refl
quads_are (Err TooLong) quads = refl
quads_are (Err TakeFault) quads = refl
quads_are (Err OutFault) quads = refl
quads_are (Err NoMemory) quads = refl

not_none : (s : Settings) → ◌≡◌ {A = Option Settings} (Some s) None → ⊥
not_none s e = cc

-- the answer of a reading
pub reading_answers : (words : List Text) (s : Settings) (r : Result (Unit {0}) ReadStop) (quads : ℕ) (t0 t1 l0 l1 w0 w1 : Option (List ℕ)) (e0 e1 : Bool) (k0 k1 p0 p1 : ℕ) → Some s ≡ settings_of words → are_write words ≡ false → AnswersRun s r t1 l0 l1 w1 e1 → CountsLines w1 quads
    → HasCause k0 k1 (IsErrOf r TakeFault) → HasCause p0 p1 (IsErrOf r OutFault) → RunAnswers words (report_of r quads) t0 t1 l0 l1 w0 w1 e0 e1 k0 k1 p0 p1
reading_answers words s r quads t0 t1 l0 l1 w0 w1 e0 e1 k0 k1 p0 p1 is no_write h counts k p = record {
  words = (λ two. absurd (no_two r quads two), λ other. absurd (not_none s (is ∙ other.0)));
  untouched = λ other. absurd (not_none s (is ∙ other.0));
  read = subst (λ o. IfSome o (λ s. AnswersRead s (report_of r quads) t1 l0 l1 w1)) is (read_of s t1 l0 l1 w1 e1 quads r h);
  ended = ended_of s t1 l0 l1 w1 e1 quads r h;
  fault = subst (λ o. IfSome o (λ s. AnswersFault s (report_of r quads) t1 l0 l1 w1 e1)) is (fault_of s t1 l0 l1 w1 e1 quads r h);
  taking = taking_by quads r k0 k1 k;
  writing = writing_by quads r p0 p1 p;
  taken = subst (λ o. IfSome o (λ s. AnswersTaken s (report_of r quads) t1 l0 l1 w1)) is (taken_of s t1 l0 l1 w1 e1 quads r h);
  too_long = subst (λ o. IfSome o (λ s. AnswersTooLong s (report_of r quads) t1 l0 l1 w1)) is (long_of s t1 l0 l1 w1 e1 quads r h);
  memory = subst (λ o. IfSome o (λ s. AnswersMemory s (report_of r quads) t1 l0 l1 w1)) is (memory_of s t1 l0 l1 w1 e1 quads r h);
  complete = subst (λ o. IfSome o (λ s. IsComplete s (report_of r quads) l0 k0 k1 p0 p1)) is (complete_of s t1 l0 l1 w1 e1 quads r k0 k1 p0 p1 h k p);
  lines = subst (λ o. IfSome o (λ s. PutsSureLines s (report_of r quads) t1 l0 l1 w1)) is (lines_of s t1 l0 l1 w1 e1 quads r h);
  write = λ is_write. absurd (false≢true (sym no_write ∙ is_write));
  quads = λ other. subst (λ n. CountsLines w1 n) (sym (quads_are r quads)) counts;
  report = report_is r quads;
}

-- the answer for words that are no command
pub words_answers : (words : List Text) (t l w : Option (List ℕ)) (e : Bool) (k p : ℕ) → None ≡ settings_of words → are_write words ≡ false → CountsLines w 0 → RunAnswers words (plain_report 2 0) t t l l w w e e k k p p
words_answers words t l w e k p is no_write counts = record {
  words = (λ two. (sym is, no_write), λ none. refl);
  untouched = λ none. record { taken = refl; left = refl; put = refl; ended = refl };
  read = subst (λ o. IfSome o (λ s. AnswersRead s (plain_report 2 0) t l l w)) is tt;
  ended = λ zero. absurd (omega arith);
  fault = subst (λ o. IfSome o (λ s. AnswersFault s (plain_report 2 0) t l l w e)) is tt;
  taking = cause_none k k _ refl (λ three. omega arith);
  writing = cause_none p p _ refl (λ four. omega arith);
  taken = subst (λ o. IfSome o (λ s. AnswersTaken s (plain_report 2 0) t l l w)) is tt;
  too_long = subst (λ o. IfSome o (λ s. AnswersTooLong s (plain_report 2 0) t l l w)) is tt;
  memory = subst (λ o. IfSome o (λ s. AnswersMemory s (plain_report 2 0) t l l w)) is tt;
  complete = subst (λ o. IfSome o (λ s. IsComplete s (plain_report 2 0) l k k p p)) is tt;
  lines = subst (λ o. IfSome o (λ s. PutsSureLines s (plain_report 2 0) t l l w)) is tt;
  write = λ is_write. absurd (false≢true (sym no_write ∙ is_write));
  quads = λ other. counts;
  report = plain_is 2 0 (inr (inr (inl refl))) (λ one. omega arith);
}

-- the answer where memory runs out before anything was read
pub memory_reported : (words : List Text) (s : Settings) (t l w : Option (List ℕ)) (e : Bool) (k p : ℕ) → Some s ≡ settings_of words → are_write words ≡ false → IsFresh t w → RunAnswers words (plain_report 5 0) t t l l w w e e k k p p
memory_reported words s t l w e k p is no_write fresh =
    reading_answers words s (Err NoMemory) 0 t t l l w w e e k k p p is no_write (memory_answers s t l w e fresh) (no_lines t w fresh)
    (cause_none k k _ refl (λ e. cc)) (cause_none p p _ refl (λ e. cc))

-- the word `write` sets no reading to anything
write_sets_none : (words : List Text) → are_write words ≡ true → None ≡ settings_of words
write_sets_none [] e = absurd (false≢true e)
write_sets_none (w ∷ []) e = subst (λ x. None ≡ settings_of (x ∷ [])) (sym ((bytes_eq-Decides w (codes "write")).0 e)) (by (list_all is_utf8 (codes "write" ∷ [])))
  where
    by : (b : Bool) → ◌≡◌ {A = Option Settings} None (elim b [ true ↦ read_settings (codes "write") [] | false ↦ None ])
    by true = refl
    by false = refl
write_sets_none (w ∷ v ∷ ws) e = absurd (false≢true e)

-- the answer of `write`
pub writing_answers : (words : List Text) (answer : Report) (t0 t1 l0 l1 w0 w1 : Option (List ℕ)) (e0 e1 : Bool) (k0 k1 p0 p1 : ℕ) → are_write words ≡ true → WriteAnswers answer t1 l0 l1 w1 e1 k0 k1 p0 p1 → RunAnswers words answer t0 t1 l0 l1 w0 w1 e0 e1 k0 k1 p0 p1
writing_answers words answer t0 t1 l0 l1 w0 w1 e0 e1 k0 k1 p0 p1 writes h = record {
  words = (λ two. absurd (h.command two), λ none. absurd (false≢true (sym none.1 ∙ writes)));
  untouched = λ none. absurd (false≢true (sym none.1 ∙ writes));
  read = subst (λ o. IfSome o (λ s. AnswersRead s answer t1 l0 l1 w1)) is tt;
  ended = h.ended;
  fault = subst (λ o. IfSome o (λ s. AnswersFault s answer t1 l0 l1 w1 e1)) is tt;
  taking = h.taking;
  writing = h.writing;
  taken = subst (λ o. IfSome o (λ s. AnswersTaken s answer t1 l0 l1 w1)) is tt;
  too_long = subst (λ o. IfSome o (λ s. AnswersTooLong s answer t1 l0 l1 w1)) is tt;
  memory = subst (λ o. IfSome o (λ s. AnswersMemory s answer t1 l0 l1 w1)) is tt;
  complete = subst (λ o. IfSome o (λ s. IsComplete s answer l0 k0 k1 p0 p1)) is tt;
  lines = subst (λ o. IfSome o (λ s. PutsSureLines s answer t1 l0 l1 w1)) is tt;
  write = λ again. h.conversion;
  quads = λ not. absurd (false≢true (sym not ∙ writes));
  report = h.report;
}
  where
    is : None ≡ settings_of words
    is = write_sets_none words writes
