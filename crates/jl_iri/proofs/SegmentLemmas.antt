-- The path that is written segment by segment is the path that the definition gives.
use Rattle.std.proofs.Common.{◌≡◌, ℕ, Bool, true, false, not, ◌&&◌, ◌||◌, List, [], ◌∷◌, ◌++◌, length, ap, refl, sym, ◌∙◌, inl, inr, reverse, subst, append_assoc, codes, bytes_eq, flat_map, ◌⊎◌, ◌==◌}
use Rattle.std.proofs.lemmas.Bool.{cases_Bool, cond-true, cond-false, and_parts}
use Rattle.std.proofs.lemmas.List.{reverse-append, reverse-reverse, append-nil}
use Rattle.std.proofs.lemmas.Grind.{flat_map-append}
use Rattle.std.proofs.lemmas.List.Folds.{list_all-append}
use Rattle.std.specs.List.{slice_split, onto_first, list_all}
use Rattle.jl_model.specs.Resolve.{is_slash, is_dots, piece, segments, all_segments, without_last, remove_dot_segments}
use Rattle.jl_iri.specs.Segments.{behind_slash, without_segment, after_segments}

-- no slash stands in the text
abbrev pub HasNoSlash : List ℕ → Type 0
HasNoSlash text = list_all (λ c. not (is_slash c)) text ≡ true

abbrev pub HaveNoSlash : List (List ℕ) → Type 0
HaveNoSlash [] = Unit {0}
HaveNoSlash (s ∷ ss) = HasNoSlash s × HaveNoSlash ss

-- a slash and a segment
pub record IsLed (p : List ℕ) : Type 0 where
  pub segment : List ℕ
  pub is : p ≡ 47 ∷ segment
  pub whole : HasNoSlash segment

-- the pieces of a path, the last one first: the first one may have no slash before it
abbrev pub ArePieces : List (List ℕ) → Type 0
ArePieces [] = Unit {0}
ArePieces (p ∷ []) = IsLed p ⊎ HasNoSlash p
ArePieces (p ∷ q ∷ qs) = IsLed p × ArePieces (q ∷ qs)

-- the path of some pieces
abbrev pub joined : List (List ℕ) → List ℕ
joined done = flat_map piece (reverse done)

joined-cons : (p : List ℕ) (ps : List (List ℕ)) → joined (p ∷ ps) ≡ joined ps ++ p
joined-cons p ps =
    ap (λ pieces. flat_map piece pieces) (reverse-append (p ∷ []) ps)
    ∙ flat_map-append piece (reverse ps) (p ∷ [])
    ∙ ap (λ end. joined ps ++ end) (append-nil p)

-- behind a segment without slashes, read from its end, stands what comes before it
behind_segment : (text rest : List ℕ) → HasNoSlash text → behind_slash (text ++ 47 ∷ rest) ≡ rest
behind_segment [] rest h = refl
behind_segment (c ∷ cs) rest h =
    elim (is_slash c) as (λ b. (not b && list_all (λ c. not (is_slash c)) cs) ≡ true → elim b [ true ↦ cs ++ 47 ∷ rest | false ↦ behind_slash (cs ++ 47 ∷ rest) ] ≡ rest) [
      | true ↦ λ k. cc
      | false ↦ λ k. behind_segment cs rest k
    ] h

behind_nothing : (text : List ℕ) → HasNoSlash text → behind_slash text ≡ []
behind_nothing [] h = refl
behind_nothing (c ∷ cs) h =
    elim (is_slash c) as (λ b. (not b && list_all (λ c. not (is_slash c)) cs) ≡ true → ◌≡◌ {A = List ℕ} (elim b [ true ↦ cs | false ↦ behind_slash cs ]) []) [
      | true ↦ λ k. cc
      | false ↦ λ k. behind_nothing cs k
    ] h

reversed_whole : (text : List ℕ) → HasNoSlash text → HasNoSlash (reverse text)
reversed_whole [] h = h
reversed_whole (c ∷ cs) h =
    let both = and_parts (not (is_slash c)) (list_all (λ c. not (is_slash c)) cs) h in
    subst HasNoSlash (sym (reverse-append (c ∷ []) cs))
    (list_all-append (λ c. not (is_slash c)) (reverse cs) (c ∷ [])
    ∙ ap (λ b. b && (not (is_slash c) && true)) (reversed_whole cs both.1)
    ∙ ap (λ b. b && true) both.0)

reverse-led : (kept segment : List ℕ) → reverse (kept ++ 47 ∷ segment) ≡ reverse segment ++ 47 ∷ reverse kept
reverse-led kept segment =
    reverse-append kept (47 ∷ segment)
    ∙ ap (λ r. r ++ reverse kept) (reverse-append (47 ∷ []) segment)
    ∙ append_assoc (reverse segment) (47 ∷ []) (reverse kept)

without_led : (kept segment : List ℕ) → HasNoSlash segment → without_segment (kept ++ 47 ∷ segment) ≡ kept
without_led kept segment h =
    ap (λ r. reverse (behind_slash r)) (reverse-led kept segment)
    ∙ ap reverse (behind_segment (reverse segment) (reverse kept) (reversed_whole segment h))
    ∙ reverse-reverse kept

without_bare : (text : List ℕ) → HasNoSlash text → without_segment text ≡ []
without_bare text h = ap reverse (behind_nothing (reverse text) (reversed_whole text h))

without_piece : (kept p : List ℕ) → IsLed p → without_segment (kept ++ p) ≡ kept
without_piece kept p led = ap (λ q. without_segment (kept ++ q)) led.is ∙ without_led kept led.segment led.whole

-- the last segment goes away with the last piece
removal : (done : List (List ℕ)) → ArePieces done → without_segment (joined done) ≡ joined (without_last done)
removal [] w = refl
removal (p ∷ []) (inl led) = ap without_segment (joined-cons p []) ∙ without_piece [] p led
removal (p ∷ []) (inr whole) = ap without_segment (joined-cons p []) ∙ without_bare p whole
removal (p ∷ q ∷ qs) w = ap without_segment (joined-cons p (q ∷ qs)) ∙ without_piece (joined (q ∷ qs)) p w.0

fewer_pieces : (done : List (List ℕ)) → ArePieces done → ArePieces (without_last done)
fewer_pieces [] w = w
fewer_pieces (p ∷ []) w = tt
fewer_pieces (p ∷ q ∷ qs) w = w.1

more_pieces : (done : List (List ℕ)) (s : List ℕ) → HasNoSlash s → ArePieces done → ArePieces ((47 ∷ s) ∷ done)
more_pieces [] s h w = inl (record { segment = s; is = refl; whole = h })
more_pieces (q ∷ qs) s h w = (record { segment = s; is = refl; whole = h }, w)

dots_apart : (s : List ℕ) → bytes_eq s (codes ".") ≡ true → bytes_eq s (codes "..") ≡ false
dots_apart [] h = refl
dots_apart (c ∷ []) h = elim (c == 46) as (λ b. (b && false) ≡ false) [ true ↦ refl | false ↦ refl ]
dots_apart (c ∷ d ∷ ds) h = elim (c == 46) as (λ b. (b && false) ≡ true → bytes_eq (c ∷ d ∷ ds) (codes "..") ≡ false) [ true ↦ λ k. cc | false ↦ λ k. cc ] h

-- the last segment, by the two tests of it
follow_last : (a b : Bool) (s : List ℕ) (done : List (List ℕ)) → (a ≡ true → b ≡ false) → ArePieces done
    → joined (elim a [ true ↦ codes "/" ∷ done | false ↦ elim b [ true ↦ codes "/" ∷ without_last done | false ↦ (47 ∷ s) ∷ done ] ])
    ≡ elim (a || b) [
      | true ↦ elim (a || b) [ true ↦ elim b [ true ↦ without_segment (joined done) | false ↦ joined done ] | false ↦ joined done ++ 47 ∷ s ] ++ codes "/"
      | false ↦ elim (a || b) [ true ↦ elim b [ true ↦ without_segment (joined done) | false ↦ joined done ] | false ↦ joined done ++ 47 ∷ s ]
    ]
follow_last true true s done apart w = let k : true ≡ false = apart refl in cc
follow_last true false s done apart w = joined-cons (codes "/") done
follow_last false true s done apart w = joined-cons (codes "/") (without_last done) ∙ ap (λ kept. kept ++ codes "/") (sym (removal done w))
follow_last false false s done apart w = joined-cons (47 ∷ s) done

-- a segment with others behind it
follow_more : (a b : Bool) (s t : List ℕ) (ts done : List (List ℕ)) → (a ≡ true → b ≡ false) → HasNoSlash s → ArePieces done
    → ((others : List (List ℕ)) (dots : Bool) → ArePieces others → joined (segments others (t ∷ ts)) ≡ after_segments true dots (joined others) (t ∷ ts))
    → joined (elim a [ true ↦ segments done (t ∷ ts) | false ↦ elim b [ true ↦ segments (without_last done) (t ∷ ts) | false ↦ segments ((47 ∷ s) ∷ done) (t ∷ ts) ] ])
    ≡ after_segments true (a || b) (elim (a || b) [ true ↦ elim b [ true ↦ without_segment (joined done) | false ↦ joined done ] | false ↦ joined done ++ 47 ∷ s ]) (t ∷ ts)
follow_more true true s t ts done apart h w go = let k : true ≡ false = apart refl in cc
follow_more true false s t ts done apart h w go = go done true w
follow_more false true s t ts done apart h w go =
    go (without_last done) true (fewer_pieces done w) ∙ ap (λ kept. after_segments true true kept (t ∷ ts)) (sym (removal done w))
follow_more false false s t ts done apart h w go =
    go ((47 ∷ s) ∷ done) false (more_pieces done s h w) ∙ ap (λ kept. after_segments true false kept (t ∷ ts)) (joined-cons (47 ∷ s) done)

-- the segments behind the first one that is written
follow : (s : List ℕ) (ss done : List (List ℕ)) (dots : Bool) → ArePieces done → HaveNoSlash (s ∷ ss)
    → joined (segments done (s ∷ ss)) ≡ after_segments true dots (joined done) (s ∷ ss)
follow s [] done dots w h = follow_last (bytes_eq s (codes ".")) (bytes_eq s (codes "..")) s done (dots_apart s) w
follow s (t ∷ ts) done dots w h =
    follow_more (bytes_eq s (codes ".")) (bytes_eq s (codes "..")) s t ts done (dots_apart s) h.0 w (λ others more v. follow t ts others more v h.1)

lead_last : (d dd : Bool) (s : List ℕ) → joined (elim d [ true ↦ [] | false ↦ s ∷ [] ])
    ≡ elim (not d && d) [
      | true ↦ elim d [ true ↦ elim (false && dd) [ true ↦ without_segment [] | false ↦ [] ] | false ↦ [] ++ s ] ++ codes "/"
      | false ↦ elim d [ true ↦ elim (false && dd) [ true ↦ without_segment [] | false ↦ [] ] | false ↦ [] ++ s ]
    ]
lead_last true dd s = refl
lead_last false dd s = joined-cons s []

lead_more : (d dd : Bool) (s t : List ℕ) (ts : List (List ℕ)) → HasNoSlash s → HaveNoSlash (t ∷ ts)
    → joined (all_segments (t ∷ ts)) ≡ after_segments false true [] (t ∷ ts)
    → joined (elim d [ true ↦ all_segments (t ∷ ts) | false ↦ segments (s ∷ []) (t ∷ ts) ])
    ≡ after_segments (not d) d (elim d [ true ↦ elim (false && dd) [ true ↦ without_segment [] | false ↦ [] ] | false ↦ [] ++ s ]) (t ∷ ts)
lead_more true dd s t ts h hs go = go
lead_more false dd s t ts h hs go =
    follow t ts (s ∷ []) false (inr h) hs ∙ ap (λ kept. after_segments true false kept (t ∷ ts)) (joined-cons s [])

-- the segments up to the first one that is written
lead : (s : List ℕ) (ss : List (List ℕ)) (dots : Bool) → HaveNoSlash (s ∷ ss) → joined (all_segments (s ∷ ss)) ≡ after_segments false dots [] (s ∷ ss)
lead s [] dots h = lead_last (is_dots s) (bytes_eq s (codes "..")) s
lead s (t ∷ ts) dots h = lead_more (is_dots s) (bytes_eq s (codes "..")) s t ts h.0 h.1 (lead t ts true h.1)

onto_whole : (c : ℕ) (parts : List (List ℕ)) → is_slash c ≡ false → HaveNoSlash parts → HaveNoSlash (onto_first c parts)
onto_whole c [] e h = (ap (λ b. not b && true) e, tt)
onto_whole c (s ∷ ss) e h = (ap (λ b. not b && list_all (λ c. not (is_slash c)) s) e ∙ h.0, h.1)

whole_parts : (path : List ℕ) → HaveNoSlash (slice_split is_slash path)
whole_parts [] = (refl, tt)
whole_parts (c ∷ cs) =
    elim (cases_Bool (is_slash c)) [
      | inl e ↦ subst HaveNoSlash (sym (cond-true (is_slash c) ([] ∷ slice_split is_slash cs) (onto_first c (slice_split is_slash cs)) e)) (refl, whole_parts cs)
      | inr e ↦ subst HaveNoSlash (sym (cond-false (is_slash c) ([] ∷ slice_split is_slash cs) (onto_first c (slice_split is_slash cs)) e)) (onto_whole c (slice_split is_slash cs) e (whole_parts cs))
    ]

of_parts : (parts : List (List ℕ)) → HaveNoSlash parts → after_segments false false [] parts ≡ joined (all_segments parts)
of_parts [] h = refl
of_parts (s ∷ ss) h = sym (lead s ss false h)

-- writing all segments of a path removes its dot segments
pub all_segments_written : (path : List ℕ) → after_segments false false [] (slice_split is_slash path) ≡ remove_dot_segments path
unfolding remove_dot_segments
all_segments_written path = of_parts (slice_split is_slash path) (whole_parts path)

-- how many segments are to come
abbrev pub room : List (List ℕ) → ℕ
room segments = length segments
