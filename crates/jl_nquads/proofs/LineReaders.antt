-- From line to line: what a reader of lines has read.
use Rattle.std.proofs.Common.{◌≡◌, ℕ, zero, suc, ◌+◌, ◌-◌, ◌<◌, ◌≤◌, inl, inr, Bool, true, false, not, List, [], ◌∷◌, ◌++◌, length, take, drop, get_or, Option, Some, None, is_some, IsSome, Ok, Err, IsTrue, append-nil, append_assoc, refl, sym, ap, ◌∙◌, subst, arith, length-append}
use Rattle.std.proofs.lemmas.Bool.{and_from, cases_Bool, false≢true}
use Rattle.std.proofs.lemmas.List.{take-append-drop, length-take-le, length-drop, take_more}
use Rattle.std.proofs.lemmas.List.Folds.{list_all-append}
use Rattle.std.proofs.Math.Seq.{take-add}
use Rattle.std.specs.List.{list_all}
use Rattle.std.specs.Option.{option_to_list}
use Rattle.memchr.specs.Find.{Nowhere, Passes, is_byte2}
use Rattle.jl_model.specs.LineFaults.{BadLine}
use Rattle.jl_model.specs.LineGrammar.{QuadsOf}
use Rattle.jl_model.specs.LineTokens.{is_line_end}
use Rattle.jl_model.specs.Parts.{Parts}
use Rattle.jl_model.specs.declared.codes.Code.TheVariants as codes
use Rattle.jl_model.specs.declared.faults.Fault.{Fault}
use Rattle.jl_nquads.specs.EndedLines.{LinesEnded}
use Rattle.jl_nquads.specs.LineReading.{HasRead, RefusesLine, RefusesEnd, RefusesIn, Steps, AnswersBytes, AnswersByte, AnswersEnd}
use Rattle.jl_nquads.specs.LineSteps.{EndsWith, StopsWith, Takes, TakesLine, stop_for, end_place, end_stop_for}
use Rattle.jl_nquads.specs.LinesRead.{ReadsFrom, IsBadFrom, BreaksBy}
use Rattle.jl_nquads.specs.Spots.{begins, not_end}
use Rattle.jl_nquads.specs.declared.halts.BadPlace.{BadPlace}
use Rattle.jl_nquads.specs.declared.halts.LineHalt.{LineHalt}
use Rattle.jl_nquads.specs.declared.halts.LineHalt.TheVariants as halts
use Rattle.jl_nquads.specs.LineStates.{LineState}
use Rattle.jl_nquads.specs.declared.readers.LineStep.{LineStep}
use Rattle.jl_nquads.specs.declared.line_stops.LineStop.{LineStop}
use Rattle.jl_nquads.specs.declared.line_stops.LineStop.TheVariants.{Refused, NoMemory}
use Rattle.jl_nquads.proofs.BadLines.{IsBad, bad_inside, bad_at_end, bad_unfinished, bad_has_none}
use Rattle.jl_nquads.proofs.Documents.{ends_more, quads_of_last}
use Rattle.jl_nquads.proofs.Texts.{head_is}

-- ---- where lines end

-- before the first line end there is none
pub no_end_before : (xs : List ℕ) (n : ℕ) → Nowhere (Passes (is_byte2 10 13) xs) 0 n → n ≤ length xs → IsTrue (list_all not_end (take n xs))
no_end_before xs n h l = go xs n (λ k m. none k m) l
  where
    none : (k : ℕ) → k < n → is_line_end (get_or xs k 0) ≡ false
    none k m = elim (cases_Bool (is_line_end (get_or xs k 0))) [ inl e ↦ absurd (h k (omega arith) m e) | inr e ↦ e ]

    go : (ys : List ℕ) (m : ℕ) → ((k : ℕ) → k < m → is_line_end (get_or ys k 0) ≡ false) → m ≤ length ys → IsTrue (list_all not_end (take m ys))
    go ys zero f l = refl
    go [] (suc m) f l = absurd (let z : ⊥ = omega (arith, l) in z)
    go (y ∷ ys) (suc m) f l =
        and_from (not_end y) (list_all not_end (take m ys)) (ap (λ b. not b) (f 0 (omega arith)))
        (go ys m (λ k i. f (suc k) (omega (arith, i))) (omega (arith, l)))

take_all : (xs : List ℕ) → take (length xs) xs ≡ xs
take_all [] = refl
take_all (x ∷ xs) = ap (λ z. x ∷ z) (take_all xs)

-- bytes without a line end
pub all_in_line : (xs : List ℕ) → Nowhere (Passes (is_byte2 10 13) xs) 0 (length xs) → IsTrue (list_all not_end xs)
all_in_line xs none = subst (λ z. IsTrue (list_all not_end z)) (take_all xs) (no_end_before xs (length xs) none (omega arith))

pub in_line_more : (part xs : List ℕ) → IsTrue (list_all not_end part) → IsTrue (list_all not_end xs) → IsTrue (list_all not_end (part ++ xs))
in_line_more part xs h k = list_all-append not_end part xs ∙ and_from (list_all not_end part) (list_all not_end xs) h k

-- ---- the bytes read

module _ (read : List ℕ) (given : List Parts) (old : LineState) (h : HasRead read given old) (bytes : List ℕ) (n : IsTrue (list_all not_end bytes)) where
  -- what has come of the line, with these bytes
  abbrev pub line : List ℕ
  line = old.part ++ bytes

  no_end : IsTrue (list_all not_end line)
  no_end = in_line_more old.part bytes h.lines.no_end n

  read_is : read ++ bytes ≡ h.lines.ended ++ line
  read_is = ap (λ z. z ++ bytes) h.lines.bytes_are ∙ append_assoc h.lines.ended old.part bytes

  begun : LinesEnded (read ++ bytes) given line
  begun = record { ended = h.lines.ended; bytes_are = read_is; lines = h.lines.lines; no_end = no_end }

  start_is : old.start ≡ length h.lines.ended
  start_is = omega (arith, h.place, ap length h.lines.bytes_are, length-append h.lines.ended old.part)

  -- the line goes on
  pub goes_further : (new : LineState) → new.stopped ≡ None → new.part ≡ line → new.start ≡ old.start → HasRead (read ++ bytes) (given ++ []) new
  goes_further new goes part start = record {
    goes_on = goes;
    lines = subst (λ g. LinesEnded (read ++ bytes) g new.part) (sym (append-nil given)) (subst (λ p. LinesEnded (read ++ bytes) given p) (sym part) begun);
    place = omega (arith, start, start_is, ap length part, ap length read_is, length-append h.lines.ended line);
  }

  -- a line that ends with this byte
  module _ (e : ℕ) (is_end : IsTrue (is_line_end e)) where
    whole_is : read ++ (bytes ++ e ∷ []) ≡ h.lines.ended ++ (line ++ e ∷ [])
    whole_is = sym (append_assoc read bytes (e ∷ [])) ∙ ap (λ z. z ++ e ∷ []) read_is ∙ append_assoc h.lines.ended line (e ∷ [])

    pub line_ends : (quad : Option Parts) (new : LineState) → new.stopped ≡ None → EndsWith quad bytes old new → HasRead (read ++ (bytes ++ e ∷ [])) (given ++ option_to_list quad) new
    line_ends quad new goes ends = record {
      goes_on = goes;
      lines = record {
        ended = h.lines.ended ++ (line ++ e ∷ []);
        bytes_are = whole_is ∙ sym (append-nil (h.lines.ended ++ (line ++ e ∷ []))) ∙ ap (λ z. (h.lines.ended ++ (line ++ e ∷ [])) ++ z) (sym ends.part);
        lines = ends_more h.lines.ended line e given (option_to_list quad) is_end h.lines.lines ends.reads;
        no_end = subst (λ z. IsTrue (list_all not_end z)) (sym ends.part) refl;
      };
      place = omega (arith, ends.start, ap length ends.part, start_is, ap length whole_is, length-append h.lines.ended (line ++ e ∷ []), length-append line (e ∷ []));
    }

    bad_where : (b : Bool) (place : ℕ) → BreaksBy b begins line place → IsBad (h.lines.ended ++ (line ++ e ∷ [])) (length h.lines.ended + place)
    bad_where true place b = bad_at_end h.lines.ended line [] e given place h.lines.lines no_end is_end b
    bad_where false place b = bad_inside h.lines.ended line (e ∷ []) given place h.lines.lines no_end b

    bad_line : (place : BadPlace) → IsBadFrom begins line place → IsBad (read ++ (bytes ++ e ∷ [])) (old.start + (length line - place.left))
    bad_line place b = subst (λ z. IsBad z (old.start + (length line - place.left))) (sym whole_is) (subst (λ z. IsBad (h.lines.ended ++ (line ++ e ∷ [])) (z + (length line - place.left))) (sym start_is) (bad_where place.open (length line - place.left) b.breaks))

    pub line_refused : (fault : Fault) → StopsWith (Refused fault) bytes old → RefusesLine (read ++ (bytes ++ e ∷ [])) given fault
    line_refused fault stops = by stops.halt stops.reads stops.stop_is
      where
        refuses : (place : BadPlace) → IsBadFrom begins line place → RefusesLine (read ++ (bytes ++ e ∷ [])) given (record { code = codes.BadLine; at = old.start + (length line - place.left) })
        refuses place b = let k = bad_line place b in record { before = read ++ bytes; end_byte = e; read_is = sym (append_assoc read bytes (e ∷ [])); line = line; lines = begun; code = refl; bad = k.bad; begins_none = k.begins_none }

        fault_is : (f g : Fault) → Refused f ≡ Refused g → f ≡ g
        fault_is f g i = cc

        by : (halt : LineHalt) → ReadsFrom begins line (Err halt) → Refused fault ≡ stop_for old.start (length line) halt → RefusesLine (read ++ (bytes ++ e ∷ [])) given fault
        by (halts.Bad place) r i = subst (λ f. RefusesLine (read ++ (bytes ++ e ∷ [])) given f) (sym (fault_is _ _ i)) (refuses place r)
        by halts.NoMemory r i = absurd (let z : ⊥ = cc in z)

-- ---- the end

module _ (read : List ℕ) (given : List Parts) (old : LineState) (h : HasRead read given old) where
  pub last_line : (quad : Option Parts) → ReadsFrom begins old.part (Ok quad) → QuadsOf read (given ++ option_to_list quad)
  last_line quad r = subst (λ z. QuadsOf z (given ++ option_to_list quad)) (sym h.lines.bytes_are) (quads_of_last h.lines.ended old.part given (option_to_list quad) h.lines.lines r)

  start_at : old.start ≡ length h.lines.ended
  start_at = omega (arith, h.place, ap length h.lines.bytes_are, length-append h.lines.ended old.part)

  abbrev IsBadEnd : ℕ → Type 0
  IsBadEnd place = BadLine read place × ((quads : List Parts) → QuadsOf read quads → ⊥)

  inside : (place : ℕ) → BreaksBy false begins old.part place → IsBadEnd (old.start + place)
  inside place b =
      let k = subst (λ z. IsBad (h.lines.ended ++ z) (length h.lines.ended + place)) (append-nil old.part) (bad_inside h.lines.ended old.part [] given place h.lines.lines h.lines.no_end b) in
      let m = subst (λ z. IsBad z (length h.lines.ended + place)) (sym h.lines.bytes_are) k in
      let o = subst (λ z. IsBad read (z + place)) (sym start_at) m in
      (o.bad, λ quads q. bad_has_none read (old.start + place) quads o q)

  unfinished : (place : ℕ) → BreaksBy true begins old.part place → IsBadEnd (old.start + length old.part)
  unfinished place b =
      let k = bad_unfinished h.lines.ended old.part given place h.lines.lines h.lines.no_end b in
      let whole = sym h.lines.bytes_are in (
        subst (λ z. BadLine read z) (ap length whole ∙ sym h.place) (subst (λ z. BadLine z (length (h.lines.ended ++ old.part))) whole k.0),
        λ quads q. k.1 quads (subst (λ z. QuadsOf z quads) h.lines.bytes_are q),
      )

  at_end : (b : Bool) (left : ℕ) → BreaksBy b begins old.part (length old.part - left) → IsBadEnd (end_place old.start (length old.part) left b)
  at_end true left b = unfinished (length old.part - left) b
  at_end false left b = inside (length old.part - left) b

  pub end_refused : (halt : LineHalt) (fault : Fault) → ReadsFrom begins old.part (Err halt) → Refused fault ≡ end_stop_for old.start (length old.part) halt → RefusesEnd read fault
  end_refused (halts.Bad place) fault r i =
      let k = at_end place.open place.left r.breaks in
      let same : fault ≡ record { code = codes.BadLine; at = end_place old.start (length old.part) place.left place.open } = cc in
      subst (λ f. RefusesEnd read f) (sym same) (record { code = refl; bad = k.0; has_none = k.1 })
  end_refused halts.NoMemory fault r i = absurd (let z : ⊥ = cc in z)

-- what is answered at the end
pub ends_with : (stop : LineStop) (halt : LineHalt) (old : LineState) → ReadsFrom begins old.part (Err halt) → stop ≡ end_stop_for old.start (length old.part) halt → AnswersEnd (Err stop) old
ends_with (Refused fault) halt old r i = λ read given h. end_refused read given old h halt fault r i
ends_with NoMemory halt old r i = tt

-- ---- one line, or all bytes

-- no line ends in the bytes
pub takes_all : (bytes : List ℕ) (old new : LineState) → Nowhere (Passes (is_byte2 10 13) bytes) 0 (length bytes) → new.stopped ≡ None → new.part ≡ old.part ++ bytes → new.start ≡ old.start → Takes (record { count = length bytes; quad = None }) bytes old new
takes_all bytes old new none goes part start = record {
  within = omega arith;
  some = λ l. l;
  place = omega (arith, start, ap length part, length-append old.part bytes);
  reads = λ read given h.
      subst (λ z. HasRead (read ++ z) (given ++ []) new) (sym (take_all bytes)) (goes_further read given old h bytes (all_in_line bytes none) new goes part start);
}

module _ (bytes : List ℕ) (at : ℕ) (old : LineState) (low : at < length bytes) (none : Nowhere (Passes (is_byte2 10 13) bytes) 0 at) (is_end : Passes (is_byte2 10 13) bytes at) where
  front_no_end : IsTrue (list_all not_end (take at bytes))
  front_no_end = no_end_before bytes at none (omega (arith, low))

  with_end : take (at + 1) bytes ≡ take at bytes ++ get_or bytes at 0 ∷ []
  with_end = take_more bytes at 0 low

  -- a line ends with the byte
  pub takes_line : (quad : Option Parts) (new : LineState) → new.stopped ≡ None → EndsWith quad (take at bytes) old new → Takes (record { count = at + 1; quad = quad }) bytes old new
  takes_line quad new goes ends = record {
    within = omega (arith, low);
    some = λ l. omega arith;
    place = omega (arith, ends.start, ap length ends.part, length-append old.part (take at bytes), length-take-le at bytes (omega (arith, low)));
    reads = λ read given h. subst (λ z. HasRead (read ++ z) (given ++ option_to_list quad) new) (sym with_end) (line_ends read given old h (take at bytes) front_no_end (get_or bytes at 0) is_end quad new goes ends);
  }

  refused_in : (read : List ℕ) (given : List Parts) (fault : Fault) → HasRead read given old → StopsWith (Refused fault) (take at bytes) old → RefusesIn read given bytes fault
  refused_in read given fault h stops = record {
    front = take (at + 1) bytes;
    back = drop (at + 1) bytes;
    bytes_are = sym (take-append-drop (at + 1) bytes);
    some = omega (arith, low, length-take-le (at + 1) bytes (omega (arith, low)));
    refuses = subst (λ z. RefusesLine (read ++ z) given fault) (sym with_end) (line_refused read given old h (take at bytes) front_no_end (get_or bytes at 0) is_end fault stops);
  }

  -- or is bad
  pub stops_line : (stop : LineStop) (new : LineState) → StopsWith stop (take at bytes) old → TakesLine (Err stop) bytes old new
  stops_line (Refused fault) new stops = λ read given h. refused_in read given fault h stops
  stops_line NoMemory new stops = tt

-- ---- line by line

pub no_quad : (quad : Option Parts) → is_some quad ≡ false → quad ≡ None
no_quad None h = refl
no_quad (Some q) h = absurd (false≢true (sym h))

-- what was read since the call began
pub record HaveTaken (bytes : List ℕ) (count : ℕ) (old new : LineState) : Type 0 where
  pub within : count ≤ length bytes
  pub goes_on : new.stopped ≡ None
  pub place : new.start + length new.part ≡ old.start + length old.part + count
  pub reads : (read : List ℕ) (given : List Parts) → HasRead read given old → HasRead (read ++ take count bytes) given new

pub none_taken : (bytes : List ℕ) (old : LineState) → old.stopped ≡ None → HaveTaken bytes 0 old old
none_taken bytes old goes = record { within = omega arith; goes_on = goes; place = omega arith; reads = λ read given h. subst (λ z. HasRead z given old) (sym (append-nil read)) h }

module _ (bytes : List ℕ) (count : ℕ) (old mid : LineState) (h : HaveTaken bytes count old mid) where
  rest_len : length (drop count bytes) ≡ length bytes - count
  rest_len = length-drop count bytes

  joined : (k : ℕ) (read : List ℕ) → (read ++ take count bytes) ++ take k (drop count bytes) ≡ read ++ take (count + k) bytes
  joined k read = append_assoc read (take count bytes) (take k (drop count bytes)) ∙ ap (λ z. read ++ z) (sym (take-add count k bytes))

  module _ (step : LineStep) (new : LineState) (t : Takes step (drop count bytes) mid new) where
    pub within_all : count + step.count ≤ length bytes
    within_all = omega (arith, t.within, rest_len, h.within)

    more : (read : List ℕ) (given : List Parts) → HasRead read given old → HasRead (read ++ take (count + step.count) bytes) (given ++ option_to_list step.quad) new
    more read given k = subst (λ z. HasRead z (given ++ option_to_list step.quad) new) (joined step.count read) (t.reads (read ++ take count bytes) given (h.reads read given k))

    pub taken_more : step.quad ≡ None → new.stopped ≡ None → HaveTaken bytes (count + step.count) old new
    taken_more none goes = record {
      within = within_all;
      goes_on = goes;
      place = omega (arith, h.place, t.place);
      reads = λ read given k. subst (λ g. HasRead (read ++ take (count + step.count) bytes) g new) (ap (λ q. given ++ option_to_list q) none ∙ append-nil given) (more read given k);
    }

    pub steps_to : count < length bytes → IsSome step.quad → Steps (record { count = count + step.count; quad = step.quad }) bytes old new
    steps_to low some = record { within = within_all; some = λ s. omega (arith, t.some (omega (arith, low, rest_len))); all = λ n. absurd (none_of step.quad some n); place = omega (arith, h.place, t.place); reads = more }
      where
        none_of : (q : Option Parts) → IsSome q → q ≡ None → ⊥
        none_of None s n = false≢true s
        none_of (Some q) s n = let z : ⊥ = cc in z

  pub steps_through : (count ≡ length bytes) → Steps (record { count = count; quad = None }) bytes old mid
  steps_through all = record { within = h.within; some = λ s. absurd (false≢true s); all = λ n. all; place = h.place; reads = λ read given k. subst (λ g. HasRead (read ++ take count bytes) g mid) (sym (append-nil given)) (h.reads read given k) }

  pub stops_in : (stop : LineStop) (new : LineState) → TakesLine (Err stop) (drop count bytes) mid new → AnswersBytes (Err stop) bytes old new
  stops_in (Refused fault) new t = λ read given k.
      let r = t (read ++ take count bytes) given (h.reads read given k) in
      record {
        front = take count bytes ++ r.front;
        back = r.back;
        bytes_are = sym (take-append-drop count bytes) ∙ ap (λ z. take count bytes ++ z) r.bytes_are ∙ sym (append_assoc (take count bytes) r.front r.back);
        some = omega (arith, r.some, length-append (take count bytes) r.front);
        refuses = subst (λ z. RefusesLine z given fault) (append_assoc read (take count bytes) r.front) r.refuses;
      }
  stops_in NoMemory new t = tt

-- ---- one byte

-- a call that is given one byte takes it
pub one_byte : (byte : ℕ) (step : LineStep) (old new : LineState) → Steps step (byte ∷ []) old new → AnswersByte (Ok step.quad) byte old new
one_byte byte step old new s = λ read given h. subst (λ z. HasRead (read ++ z) (given ++ option_to_list step.quad) new) (taken step.count (count_is step.quad s.some s.all)) (s.reads read given h)
  where
    count_is : (q : Option Parts) → (IsSome q → 0 < step.count) → (q ≡ None → step.count ≡ 1) → step.count ≡ 1
    count_is None some all = all refl
    count_is (Some q) some all = let l = some refl in omega (arith, l, s.within)

    taken : (n : ℕ) → n ≡ 1 → take n (byte ∷ []) ≡ byte ∷ []
    taken n i = subst (λ k. take k (byte ∷ []) ≡ byte ∷ []) (sym i) refl

-- the byte that ends a bad line is that byte
pub one_stops : (byte : ℕ) (stop : LineStop) (old new : LineState) → AnswersBytes (Err stop) (byte ∷ []) old new → AnswersByte (Err stop) byte old new
one_stops byte (Refused fault) old new a = λ read given h. let r = a read given h in by read given r.front r.back r.bytes_are r.some r.refuses
  where
    whole : (b : ℕ) (front back : List ℕ) → byte ∷ [] ≡ (b ∷ front) ++ back → byte ∷ [] ≡ b ∷ front
    whole b [] back i = ap (λ z. z ∷ []) (head_is byte b [] back i)
    whole b (d ∷ front) back i = absurd (let z : ⊥ = cc in z)

    by : (read : List ℕ) (given : List Parts) (front back : List ℕ) → byte ∷ [] ≡ front ++ back → 0 < length front → RefusesLine (read ++ front) given fault → RefusesLine (read ++ byte ∷ []) given fault
    by read given [] back i some k = absurd (let z : ⊥ = omega (arith, some) in z)
    by read given (b ∷ front) back i some k = subst (λ z. RefusesLine (read ++ z) given fault) (sym (whole b front back i)) k
one_stops byte NoMemory old new a = tt
