-- IRIs and strings as tokens: one way of reading them, and where they break.
use Rattle.std.proofs.Common.{◌≡◌, ℕ, ◌<◌, ◌≤◌, ◌⊎◌, inl, inr, Bool, List, [], ◌∷◌, ◌++◌, length, flat_map, Some, IsTrue, append-nil, append_assoc, refl, sym, ap, ◌∙◌, subst, arith}
use Rattle.std.proofs.lemmas.Bool.{and_parts, cases_eq}
use Rattle.std.specs.List.{list_all}
use Rattle.jl_model.specs.LineTokens.{Written, spelling, meaning, LineToken, token_bytes, is_token, ends_before, bytes_of}
use Rattle.jl_nquads.specs.IriFronts.{GoesOnBy}
use Rattle.jl_nquads.specs.Spots.{Spot, leads_to, BreaksInside, BreaksAtEnd}
use Rattle.jl_nquads.proofs.Characters.{Body, FrontsBody, characters_behind, same_characters, fronts_behind, fronts_only_behind, fronts_at_end, fine_of_front, fronts_at_close, fronts_within, only_within, decide_fronts}
use Rattle.jl_nquads.proofs.NoLineEnds.{is_inside}
use Rattle.jl_nquads.proofs.SpotRows.{head_is_token}
use Rattle.jl_nquads.proofs.SpotSteps.{Alone, Joins}
use Rattle.jl_nquads.proofs.Texts.{head_is, tail_is}
use Rattle.jl_nquads.proofs.TokenBreaks.{Opens, Fronts, NoToken, token_unfinished, token_broken}

-- tokens of characters between an opening and a closing byte: such a token, and which of them there are
pub record Framed (test : Written → Bool) (close first : ℕ) (good fine : List ℕ → Bool) (token : List Written → LineToken) : Type 0 where
  pub body : Body test close good fine
  pub bytes_are : (ws : List Written) → token_bytes (token ws) ≡ first ∷ (flat_map spelling ws ++ close ∷ [])
  pub from : (ws : List Written) → IsTrue (list_all test ws) → IsTrue (good (meaning ws)) → IsTrue (is_token (token ws))
  pub to : (ws : List Written) → IsTrue (is_token (token ws)) → IsTrue (list_all test ws) × IsTrue (good (meaning ws))
  pub apart : (ws : List Written) (x : List ℕ) → IsTrue (ends_before (token ws) x)
  pub only : (t : LineToken) (x y : List ℕ) → IsTrue (is_token t) → first ∷ x ≡ token_bytes t ++ y → (ws : List Written) × (t ≡ token ws)
  pub some : List Written
  pub some_fits : IsTrue (list_all test some) × IsTrue (good (meaning some))

module _ (test : Written → Bool) (close first : ℕ) (good fine : List ℕ → Bool) (token : List Written → LineToken) (f : Framed test close first good fine token) where
  abbrev pub IsKind : LineToken → Type 0
  IsKind t = (ws : List Written) × (t ≡ token ws)

  -- the token and what stands behind it
  spelled : (ws : List Written) (x : List ℕ) → token_bytes (token ws) ++ x ≡ first ∷ (flat_map spelling ws ++ close ∷ x)
  spelled ws x = ap (λ z. z ++ x) (f.bytes_are ws) ∙ ap (λ z. first ∷ z) (append_assoc (flat_map spelling ws) (close ∷ []) x)

  pub framed_opens : (s : Spot) → ((ws : List Written) → (r : Spot) × (leads_to s (token ws) ≡ Some r)) → Opens s first IsKind
  framed_opens s lead = record { kind_of = λ t r x y h l e. f.only t x y h e; leads = λ t k. let l = lead k.0 in (l.0, ap (leads_to s) k.1 ∙ l.1) }

  -- it is read in one way
  pub framed_alone : (s r : Spot) (ws : List Written) (x : List ℕ) → IsTrue (is_token (token ws)) → Alone s r (token ws) x
  framed_alone s r ws x h behind rest [] w g e = inl (subst (λ z. 0 < length z) (sym (f.bytes_are ws)) (omega arith))
  framed_alone s r ws x h behind rest (u ∷ us) w g e =
      let hu = head_is_token u us rest w in
      let split : first ∷ (flat_map spelling ws ++ close ∷ (x ++ behind)) ≡ token_bytes u ++ (bytes_of us ++ rest) = sym (spelled ws (x ++ behind)) ∙ sym (append_assoc (token_bytes (token ws)) x behind) ∙ e ∙ append_assoc (token_bytes u) (bytes_of us) rest in
      let (vs, i) = f.only u (flat_map spelling ws ++ close ∷ (x ++ behind)) (bytes_of us ++ rest) hu split in
      let hv : IsTrue (is_token (token vs)) = subst (λ z. IsTrue (is_token z)) i hu in
      let j : flat_map spelling ws ++ close ∷ (x ++ behind) ≡ flat_map spelling vs ++ close ∷ (bytes_of us ++ rest) =
      tail_is first first _ _ (split ∙ ap (λ z. token_bytes z ++ (bytes_of us ++ rest)) i ∙ spelled vs (bytes_of us ++ rest)) in
      let k = same_characters test close good fine f.body ws vs (x ++ behind) (bytes_of us ++ rest) (f.to ws h).0 (f.to vs hv).0 j in
      inr (us, ap (λ z. z ∷ us) (i ∙ ap token (sym k.0)), k.1)

  pub framed_joins : (s r : Spot) (ws : List Written) (x : List ℕ) → IsTrue (is_token (token ws)) → leads_to s (token ws) ≡ Some r → Joins s r (token ws) x
  framed_joins s r ws x h l = record { leads = l; token = h; apart = f.apart ws x; alone = framed_alone s r ws x h }

  -- ---- fronts of such tokens

  abbrev Fits : List ℕ → Type 0
  Fits t = FrontsBody test close good fine f.body [] t

  from_body : (t : List ℕ) → Fits t → Fronts IsKind (first ∷ t)
  from_body t k = (token k.characters, k.back, (k.characters, refl), f.from k.characters k.whole.each k.whole.good_meaning, f.bytes_are k.characters ∙ ap (λ z. first ∷ z) (sym k.whole.text_is))

  to_body : (t : List ℕ) → Fronts IsKind (first ∷ t) → Fits t
  to_body t (u, back, (ws, i), h, e) =
      let hw = f.to ws (subst (λ z. IsTrue (is_token z)) i h) in
      record { characters = ws; back = back; whole = record { each = hw.0; good_meaning = hw.1; text_is = tail_is first first _ _ (sym e ∙ ap token_bytes i ∙ f.bytes_are ws) } }

  decide_kind : (t : List ℕ) → Dec (Fronts IsKind t)
  decide_kind [] = yes (token f.some, token_bytes (token f.some), (f.some, refl), f.from f.some f.some_fits.0 f.some_fits.1, refl)
  decide_kind (c ∷ t) = go (cases_eq c first) (decide_fronts test close good fine f.body (length t) [] t (let z : length t ≤ length t = omega arith in z))
    where
      go : (c ≡ first) ⊎ (c ≡ first → ⊥) → Dec (FrontsBody test close good fine f.body [] t) → Dec (Fronts IsKind (c ∷ t))
      go (inl e) (yes k) = yes (subst (λ z. Fronts IsKind (z ∷ t)) (sym e) (from_body t k))
      go (inl e) (no n) = no (λ k. n (to_body t (subst (λ z. Fronts IsKind (z ∷ t)) e k)))
      go (inr n) d = no (λ (u, back, (ws, i), h, e). n (sym (head_is first c _ _ (sym (f.bytes_are ws) ∙ ap token_bytes (sym i) ∙ e))))

  first_front : Fronts IsKind (first ∷ [])
  first_front = from_body [] (record { characters = f.some; back = flat_map spelling f.some ++ close ∷ []; whole = record { each = f.some_fits.0; good_meaning = f.some_fits.1; text_is = refl } })

  -- a text in which characters stand behind the opening byte, and then no further character and no end of a token
  pub record Stopped (text : List ℕ) : Type 0 where
    pub characters : List Written
    pub rest : List ℕ
    pub text_is : text ≡ first ∷ (flat_map spelling characters ++ rest)
    pub each : IsTrue (list_all test characters)
    pub no_character : (w : Written) (x : List ℕ) → IsTrue (test w) → rest ≡ spelling w ++ x → ⊥
    pub not_closed : (x : List ℕ) → rest ≡ close ∷ x → IsTrue (good (meaning characters)) → ⊥

  no_token : (text : List ℕ) → Stopped text → NoToken IsKind text
  no_token text st u x (ws, i) h e =
      let hw = f.to ws (subst (λ z. IsTrue (is_token z)) i h) in
      let j = tail_is first first _ _ (sym st.text_is ∙ e ∙ ap (λ z. token_bytes z ++ x) i ∙ spelled ws x) in
      let (us, g, k, l) = characters_behind test close good fine f.body st.characters ws st.rest x st.each hw.0 j in
      go us g k l hw.1
    where
      go : (us : List Written) → ws ≡ st.characters ++ us → IsTrue (list_all test us) → st.rest ≡ flat_map spelling us ++ close ∷ x → IsTrue (good (meaning ws)) → ⊥
      go [] g k l m = st.not_closed x l (subst (λ z. IsTrue (good (meaning z))) (g ∙ append-nil st.characters) m)
      go (v ∷ vs) g k l m = st.no_character v (flat_map spelling vs ++ close ∷ x) (and_parts (test v) (list_all test vs) k).0 (l ∙ append_assoc (spelling v) (flat_map spelling vs) (close ∷ x))

  -- whether it begins a token is told by what has been read and the rest
  goes_on_front : (m t : List ℕ) → GoesOnBy test fine m t → FrontsBody test close good fine f.body m t
  goes_on_front m [] h = fronts_at_end test close good fine f.body m h
  goes_on_front m (c ∷ t) h = fronts_within test close good fine f.body m (c ∷ t) h

  front_goes_on : (m t : List ℕ) → ((w : Written) (x : List ℕ) → IsTrue (test w) → t ≡ spelling w ++ x → ⊥) → ((x : List ℕ) → t ≡ close ∷ x → IsTrue (good m) → ⊥) → FrontsBody test close good fine f.body m t → GoesOnBy test fine m t
  front_goes_on m [] n o k = fine_of_front test close good fine f.body m [] k
  front_goes_on m (c ∷ t) n o k = only_within test close good fine f.body m c t (λ e. o t (ap (λ z. z ∷ t) e) (fronts_at_close test close good fine f.body m t (subst (λ z. FrontsBody test close good fine f.body m (z ∷ t)) e k)).1) n k

  module _ (s : Spot) (lead : (ws : List Written) → (r : Spot) × (leads_to s (token ws) ≡ Some r)) (inside : (ws : List Written) → IsTrue (is_inside (token ws))) (t : List ℕ) (st : Stopped (first ∷ t)) where
    body_is : t ≡ flat_map spelling st.characters ++ st.rest
    body_is = tail_is first first _ _ st.text_is

    pub framed_unfinished : GoesOnBy test fine (meaning st.characters) st.rest → BreaksAtEnd s (first ∷ t) 0
    framed_unfinished h =
        token_unfinished s first IsKind (framed_opens s lead) (λ u k. subst (λ z. IsTrue (is_inside z)) (sym k.1) (inside k.0)) t (no_token (first ∷ t) st)
        (from_body t (subst (λ z. FrontsBody test close good fine f.body [] z) (sym body_is) (fronts_behind test close good fine f.body [] st.rest st.characters st.each (goes_on_front (meaning st.characters) st.rest h))))

    pub framed_broken : (GoesOnBy test fine (meaning st.characters) st.rest → ⊥) → BreaksInside s (first ∷ t) 0
    framed_broken n =
        token_broken s first IsKind (framed_opens s lead) (λ u k. subst (λ z. IsTrue (is_inside z)) (sym k.1) (inside k.0)) t (no_token (first ∷ t) st) decide_kind first_front
        (λ k. n (front_goes_on (meaning st.characters) st.rest st.no_character st.not_closed (fronts_only_behind test close good fine f.body [] st.rest st.characters st.each (subst (λ z. FrontsBody test close good fine f.body [] z) body_is (to_body t k)))))
