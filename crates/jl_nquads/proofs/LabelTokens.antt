-- Labels as tokens: one way of reading them, and where they break.
use Rattle.std.proofs.Common.{◌≡◌, ℕ, suc, ◌+◌, ◌<◌, ◌≤◌, ◌⊎◌, inl, inr, Bool, false, not, ◌==◌, List, [], ◌∷◌, ◌++◌, length, Option, Some, IsTrue, IsFalse, append-nil, append_assoc, refl, sym, ap, ◌∙◌, subst, arith, lit<, length-append}
use Rattle.std.proofs.lemmas.Bool.{and_parts, and_from, false≢true, eqb-true, ne_eqb}
use Rattle.std.proofs.lemmas.List.Folds.{list_all-append}
use Rattle.std.proofs.lemmas.Str.{encodes-append, encode_ascii}
use Rattle.std.specs.List.{list_all}
use lib.Utf8.{encode, encodes}
use Rattle.jl_model.specs.Parts.{Parts}
use Rattle.jl_model.specs.LineTokens.{LineToken, token_bytes, is_token, ends_before, is_row, bytes_of, is_line_end, is_label, begins_label, goes_on_label}
use Rattle.jl_model.specs.LineTokens as tokens
use Rattle.jl_model.proofs.LineCuts.{opens, only_label, ascii_cut}
use Rattle.jl_nquads.specs.CodePoints.{HasCode, BeginsCode}
use Rattle.jl_nquads.specs.LinesRead.{closes_label}
use Rattle.jl_nquads.specs.Nexts.{opened_by, opening, allows, StopsBehindLabel}
use Rattle.jl_nquads.specs.declared.nexts.Next.TheVariants.{Dot}
use Rattle.jl_nquads.specs.Spots.{Spot, begins, has_subject, has_predicate, has_string, has_carets, has_object, has_graph, has_dot, has_comment, leads_to, goes, Left, StandsAt, Reaches, Breaks, BreaksInside, BreaksAtEnd}
use Rattle.jl_nquads.proofs.Codes.{rows_of, Ends, no_further, none_at_end, none_before_end, code_turns, in_label, encode_some}
use Rattle.jl_nquads.proofs.LabelBytes.{label_opens, label_with, behind_dot, ClosesLabel, not_closed}
use Rattle.jl_nquads.proofs.NoLineEnds.{label_goes_on}
use Rattle.jl_nquads.proofs.SpotRows.{goes_on, goes_where, said_goes, row_from, head_is_token, head_ends, tail_is_row}
use Rattle.jl_nquads.proofs.SpotSteps.{Alone, Joins, whole_at_line_end}
use Rattle.jl_nquads.proofs.Stops.{opening_byte, none_follows, other_stops}
use Rattle.jl_nquads.proofs.Texts.{head_is, tail_is}
use Rattle.jl_nquads.proofs.TokenBreaks.{Opens}

abbrev pub IsLabel : LineToken → Type 0
IsLabel t = (cs : List ℕ) × (t ≡ tokens.label cs)

label_of : (u : LineToken) (x y : List ℕ) → IsTrue (is_token u) → 95 ∷ x ≡ token_bytes u ++ y → IsLabel u
label_of u x y h e = only_label u (opens u 95 y x (lit< tt) h e)

-- a label may stand here
abbrev pub LeadsLabel : Spot → Type 0
LeadsLabel s = (cs : List ℕ) → (r : Spot) × (leads_to s (tokens.label cs) ≡ Some r)

pub label_kind : (s : Spot) → LeadsLabel s → Opens s 95 IsLabel
label_kind s lead = record { kind_of = λ t r x y h l e. label_of t x y h e; leads = λ t k. let l = lead k.0 in (l.0, ap (leads_to s) k.1 ∙ l.1) }

-- ---- what follows where a label might go on

-- behind a dot
dot_leads : (s r : Spot) → leads_to s tokens.dot ≡ Some r → (q : Parts) × (r ≡ has_dot q)
dot_leads begins r h = absurd (let z : ⊥ = cc in z)
dot_leads (has_subject s) r h = absurd (let z : ⊥ = cc in z)
dot_leads (has_predicate s p) r h = absurd (let z : ⊥ = cc in z)
dot_leads (has_string s p t) r h = (_, sym (some_is _ r h))
  where
    some_is : (a b : Spot) → ◌≡◌ {A = Option Spot} (Some a) (Some b) → a ≡ b
    some_is a b e = cc
dot_leads (has_carets s p t) r h = absurd (let z : ⊥ = cc in z)
dot_leads (has_object s p o) r h = (_, sym (some_is _ r h))
  where
    some_is : (a b : Spot) → ◌≡◌ {A = Option Spot} (Some a) (Some b) → a ≡ b
    some_is a b e = cc
dot_leads (has_graph s p o g) r h = (_, sym (some_is _ r h))
  where
    some_is : (a b : Spot) → ◌≡◌ {A = Option Spot} (Some a) (Some b) → a ≡ b
    some_is a b e = cc
dot_leads (has_dot q) r h = absurd (let z : ⊥ = cc in z)
dot_leads (has_comment q) r h = absurd (let z : ⊥ = cc in z)

only_dot_opens : (t : LineToken) → opening t ≡ Dot → t ≡ tokens.dot
only_dot_opens (tokens.iri w) e = absurd (let z : ⊥ = cc in z)
only_dot_opens (tokens.label w) e = absurd (let z : ⊥ = cc in z)
only_dot_opens (tokens.string w) e = absurd (let z : ⊥ = cc in z)
only_dot_opens tokens.carets e = absurd (let z : ⊥ = cc in z)
only_dot_opens (tokens.tag w) e = absurd (let z : ⊥ = cc in z)
only_dot_opens tokens.dot e = refl
only_dot_opens (tokens.comment w) e = absurd (let z : ⊥ = cc in z)
only_dot_opens (tokens.line_end w) e = absurd (let z : ⊥ = cc in z)
only_dot_opens (tokens.blank w) e = absurd (let z : ⊥ = cc in z)

-- a row that begins before a dot is nothing, or a dot and what follows it
at_dot : (s : Spot) (x rest : List ℕ) (row : List LineToken) → IsTrue (is_row row rest) → IsTrue (goes s row) → 46 ∷ x ≡ bytes_of row ++ rest
    → (row ≡ []) ⊎ ((ts : List LineToken) × (q : Parts) × (row ≡ tokens.dot ∷ ts) × IsTrue (is_row ts rest) × IsTrue (goes (has_dot q) ts) × (x ≡ bytes_of ts ++ rest))
at_dot s x rest [] w g e = inl refl
at_dot s x rest (t ∷ ts) w g e =
    let split = e ∙ append_assoc (token_bytes t) (bytes_of ts) rest in
    let i = only_dot_opens t (sym (opening_byte t 46 x (bytes_of ts ++ rest) (head_is_token t ts rest w) split)) in
    let (r, l, k) = goes_where s t ts g in
    let (q, m) = dot_leads s r (ap (leads_to s) (sym i) ∙ l) in
    inr (ts, q, ap (λ z. z ∷ ts) i, tail_is_row t ts rest w, subst (λ z. IsTrue (goes z ts)) m k, tail_is 46 46 x (bytes_of ts ++ rest) (split ∙ ap (λ z. token_bytes z ++ (bytes_of ts ++ rest)) i))

-- a row that follows where a label might go on with the character d is nothing, or a dot
might_go_on : (s : Spot) (d : ℕ) (ds y rest : List ℕ) (row : List LineToken) → IsTrue (goes_on_label d) → (d ≡ 95 → ⊥) → (d ≡ 46 → (c : ℕ) × (es : List ℕ) × (ds ≡ c ∷ es) × IsTrue (goes_on_label c))
    → IsTrue (is_row row rest) → IsTrue (goes s row) → encodes (d ∷ ds) ++ y ≡ bytes_of row ++ rest → (row ≡ []) ⊎ ((row ≡ tokens.dot ∷ []) × (d ≡ 46) × (0 < length (encodes ds)))
might_go_on s d ds y rest row h n m w g e = go (encode d) refl (encode_some d)
  where
    whole : (b : ℕ) (bs : List ℕ) → encode d ≡ b ∷ bs → b ∷ (bs ++ (encodes ds ++ y)) ≡ bytes_of row ++ rest
    whole b bs i = ap (λ z. z ++ (encodes ds ++ y)) (sym i) ∙ sym (append_assoc (encode d) (encodes ds) y) ∙ e

    after_dot : (b : ℕ) (bs : List ℕ) → encode d ≡ b ∷ bs → d ≡ 46 → (row ≡ []) ⊎ ((row ≡ tokens.dot ∷ []) × (d ≡ 46) × (0 < length (encodes ds)))
    after_dot b bs i k =
        let (c, es, j, hc) = m k in
        let e46 : encode d ≡ 46 ∷ [] = ap encode k ∙ encode_ascii 46 (lit< tt) in
        let dotted : 46 ∷ (encodes ds ++ y) ≡ bytes_of row ++ rest = whole 46 [] e46 in
        let long : 0 < length (encodes ds) = omega (arith, ap (λ z. length (encodes z)) j, length-append (encode c) (encodes es), encode_some c) in
        elim (at_dot s (encodes ds ++ y) rest row w g dotted) [
          | inl f ↦ inl f
          | inr (ts, q, f, wt, gt, et) ↦ inr (f ∙ ap (λ z. tokens.dot ∷ z) (last c es q ts j hc wt gt et), k, long)
        ]
      where
        last : (c : ℕ) (es : List ℕ) (q : Parts) (ts : List LineToken) → ds ≡ c ∷ es → IsTrue (goes_on_label c) → IsTrue (is_row ts rest) → IsTrue (goes (has_dot q) ts) → encodes ds ++ y ≡ bytes_of ts ++ rest → ts ≡ []
        last c es q ts j hc wt gt et = by (encode c) refl (encode_some c)
          where
            by : (s : List ℕ) → encode c ≡ s → 0 < length s → ts ≡ []
            by [] i l = absurd (let z : ⊥ = omega (arith, l) in z)
            by (b ∷ bs) i l =
                let f : b ∷ (bs ++ (encodes es ++ y)) ≡ bytes_of ts ++ rest = ap (λ z. z ++ (encodes es ++ y)) (sym i) ∙ sym (append_assoc (encode c) (encodes es) y) ∙ ap (λ z. encodes z ++ y) (sym j) ∙ et in
                none_follows (has_dot q) b (bs ++ (encodes es ++ y)) rest ts (closed b bs i) wt gt f
              where
                closed : (b : ℕ) (bs : List ℕ) → encode c ≡ b ∷ bs → allows (has_dot q) (opened_by b) ≡ false
                closed b bs i = elim (label_opens c b (bs ++ []) [] hc (ap (λ z. z ++ []) (sym i))) [
                  | inl f ↦ ap (allows (has_dot q)) f
                  | inr f ↦ elim f [ inl k ↦ ap (λ z. allows (has_dot q) (opened_by z)) k.1 | inr k ↦ ap (λ z. allows (has_dot q) (opened_by z)) k.1 ]
                ]

    go : (t : List ℕ) → encode d ≡ t → 0 < length t → (row ≡ []) ⊎ ((row ≡ tokens.dot ∷ []) × (d ≡ 46) × (0 < length (encodes ds)))
    go [] i l = absurd (let z : ⊥ = omega (arith, l) in z)
    go (b ∷ bs) i l = elim (label_opens d b (bs ++ []) [] h (ap (λ z. z ++ []) (sym i))) [
      | inl f ↦ inl (none_follows s b (bs ++ (encodes ds ++ y)) rest row (ap (allows s) f ∙ other_stops s) w g (whole b bs i))
      | inr f ↦ elim f [ inl k ↦ absurd (n k.0) | inr k ↦ after_dot b bs i k.0 ]
    ]

abbrev pub is_dot : ℕ → Bool
is_dot c = c == 46

-- ---- rows in a text that begins with a label

module _ (s : Spot) (cs : List ℕ) (label : IsTrue (is_label cs)) where
  -- such a row is nothing; or it begins with the label; or it ends before the label does; or it begins with a longer one
  pub data Row (y rest : List ℕ) (row : List LineToken) : Type 0 where
    short : length (bytes_of row) < suc (suc (length (encodes cs))) → Row y rest row
    same : (ts : List LineToken) → row ≡ tokens.label cs ∷ ts → y ≡ bytes_of ts ++ rest → Row y rest row
    longer : (d : ℕ) (ds : List ℕ) (r : List ℕ) → IsTrue (is_label (cs ++ d ∷ ds)) → y ≡ encodes (d ∷ ds) ++ r → Row y rest row

  row_of : (y rest : List ℕ) (row : List LineToken) → IsTrue (is_row row rest) → IsTrue (goes s row) → 95 ∷ 58 ∷ (encodes cs ++ y) ≡ bytes_of row ++ rest → Row y rest row
  row_of y rest [] w g e = short (omega arith)
  row_of y rest (u ∷ us) w g e =
      let split : 95 ∷ 58 ∷ (encodes cs ++ y) ≡ token_bytes u ++ (bytes_of us ++ rest) = e ∙ append_assoc (token_bytes u) (bytes_of us) rest in
      let (ds, i) = label_of u (58 ∷ (encodes cs ++ y)) (bytes_of us ++ rest) (head_is_token u us rest w) split in
      let h : IsTrue (is_label ds) = subst (λ z. IsTrue (is_token z)) i (head_is_token u us rest w) in
      let a : IsTrue (ends_before (tokens.label ds) (bytes_of us ++ rest)) = subst (λ z. IsTrue (ends_before z (bytes_of us ++ rest))) i (head_ends u us rest w) in
      let f : encodes cs ++ y ≡ encodes ds ++ (bytes_of us ++ rest) = tail_is 58 58 _ _ (tail_is 95 95 _ _ (split ∙ ap (λ z. token_bytes z ++ (bytes_of us ++ rest)) i)) in
      elim (rows_of cs ds y (bytes_of us ++ rest) f) [
        | inl (es, j, k) ↦ beyond es ds i h j k
        | inr (d, es, j, k) ↦ before d es ds i h a j k
      ]
    where
      beyond : (es ds : List ℕ) → u ≡ tokens.label ds → IsTrue (is_label ds) → ds ≡ cs ++ es → y ≡ encodes es ++ (bytes_of us ++ rest) → Row y rest (u ∷ us)
      beyond [] ds i h j k = same us (ap (λ z. z ∷ us) (i ∙ ap tokens.label (j ∙ append-nil cs))) k
      beyond (d ∷ es) ds i h j k = longer d es (bytes_of us ++ rest) (subst (λ z. IsTrue (is_label z)) j h) k

      before : (d : ℕ) (es ds : List ℕ) → u ≡ tokens.label ds → IsTrue (is_label ds) → IsTrue (ends_before (tokens.label ds) (bytes_of us ++ rest)) → cs ≡ ds ++ d ∷ es → bytes_of us ++ rest ≡ encodes (d ∷ es) ++ y → Row y rest (u ∷ us)
      before d es ds i h a j k =
          let (r, l, g2) = goes_where s u us g in
          let all = subst (λ z. IsTrue (list_all goes_on_label z)) j (label_goes_on cs label) in
          let p = and_parts (list_all goes_on_label ds) (list_all goes_on_label (d ∷ es)) (sym (list_all-append goes_on_label ds (d ∷ es)) ∙ all) in
          let hd = (and_parts (goes_on_label d) (list_all goes_on_label es) p.1).0 in
          let len : length (encodes cs) ≡ length (encodes ds) + (length (encode d) + length (encodes es)) = ap (λ z. length (encodes z)) j ∙ ap length (encodes-append ds (d ∷ es)) ∙ length-append (encodes ds) (encodes (d ∷ es)) ∙ ap (λ n. length (encodes ds) + n) (length-append (encode d) (encodes es)) in
          let size : length (bytes_of (u ∷ us)) ≡ suc (suc (length (encodes ds))) + length (bytes_of us) = length-append (token_bytes u) (bytes_of us) ∙ ap (λ z. length (token_bytes z) + length (bytes_of us)) i in
          elim (might_go_on r d es y rest us hd (no_underscore) dotted (tail_is_row u us rest w) g2 (sym k)) [
            | inl f ↦ short (omega (arith, size, ap (λ z. length (bytes_of z)) f, len, encode_some d))
            | inr (f, m, o) ↦ short (omega (arith, size, ap (λ z. length (bytes_of z)) f, len, o, encode_some d))
          ]
        where
          no_underscore : d ≡ 95 → ⊥
          no_underscore m =
              let b : bytes_of us ++ rest ≡ 95 ∷ (encodes es ++ y) = k ∙ append_assoc (encode d) (encodes es) y ∙ ap (λ z. encode z ++ (encodes es ++ y)) m ∙ ap (λ z. z ++ (encodes es ++ y)) (encode_ascii 95 (lit< tt)) in
              false≢true (subst (λ z. IsTrue (ends_before (tokens.label ds) z)) b a)

          dotted : d ≡ 46 → (c : ℕ) × (fs : List ℕ) × (es ≡ c ∷ fs) × IsTrue (goes_on_label c)
          dotted m =
              let (c, fs, n) = behind_dot ds es (subst (λ z. IsTrue (is_label z)) (j ∙ ap (λ z. ds ++ z ∷ es) m) label) in
              let all = subst (λ z. IsTrue (list_all goes_on_label z)) j (label_goes_on cs label) in
              let p = and_parts (list_all goes_on_label ds) (list_all goes_on_label (d ∷ es)) (sym (list_all-append goes_on_label ds (d ∷ es)) ∙ all) in
              let q = subst (λ z. IsTrue (list_all goes_on_label z)) n (and_parts (goes_on_label d) (list_all goes_on_label es) p.1).1 in
              (c, fs, n, (and_parts (goes_on_label c) (list_all goes_on_label fs) q).0)

  goes_of : (d : ℕ) (ds : List ℕ) → IsTrue (is_label (cs ++ d ∷ ds)) → IsTrue (list_all goes_on_label (d ∷ ds))
  goes_of d ds l = (and_parts (list_all goes_on_label cs) (list_all goes_on_label (d ∷ ds)) (sym (list_all-append goes_on_label cs (d ∷ ds)) ∙ label_goes_on (cs ++ d ∷ ds) l)).1

  -- no longer label stands before what closes one
  no_longer : (x behind : List ℕ) → ClosesLabel x → (d : ℕ) (ds r : List ℕ) → IsTrue (is_label (cs ++ d ∷ ds)) → x ++ behind ≡ encodes (d ∷ ds) ++ r → ⊥
  no_longer x behind (c, z, h, inl i) d ds r l e =
      not_closed c d (z ++ behind) (encodes ds ++ r) h (and_parts (goes_on_label d) (list_all goes_on_label ds) (goes_of d ds l)).0 (ap (λ t. t ++ behind) (sym i) ∙ e ∙ append_assoc (encode d) (encodes ds) r)
  no_longer x behind (c, z, h, inr i) d ds r l e =
      let f : 46 ∷ c ∷ (z ++ behind) ≡ encode d ++ (encodes ds ++ r) = ap (λ t. t ++ behind) (sym i) ∙ e ∙ append_assoc (encode d) (encodes ds) r in
      let k = ascii_cut d 46 (encodes ds ++ r) (c ∷ (z ++ behind)) (lit< tt) (sym f) in
      let (d2, es, m) = behind_dot cs ds (subst (λ t. IsTrue (is_label (cs ++ t ∷ ds))) k.0 l) in
      let g = subst (λ t. IsTrue (list_all goes_on_label t)) m (and_parts (goes_on_label d) (list_all goes_on_label ds) (goes_of d ds l)).1 in
      not_closed c d2 (z ++ behind) (encodes es ++ r) h (and_parts (goes_on_label d2) (list_all goes_on_label es) g).0 (sym k.1 ∙ ap (λ t. encodes t ++ r) m ∙ append_assoc (encode d2) (encodes es) r)

  -- before what closes it a label is read in one way
  pub label_joins : (r : Spot) (x : List ℕ) → leads_to s (tokens.label cs) ≡ Some r → ClosesLabel x → Joins s r (tokens.label cs) x
  label_joins r x l k = record { leads = l; token = label; apart = apart k; alone = alone }
    where
      apart : ClosesLabel x → IsTrue (ends_before (tokens.label cs) x)
      apart (c, z, h, inl i) = subst (λ t. IsTrue (ends_before (tokens.label cs) t)) (sym i) (ap (λ b. not b) (ne_eqb c 95 (λ e. false≢true (ap closes_label (sym e) ∙ h))))
      apart (c, z, h, inr i) = subst (λ t. IsTrue (ends_before (tokens.label cs) t)) (sym i) refl

      alone : Alone s r (tokens.label cs) x
      alone behind rest row w g e = go (row_of (x ++ behind) rest row w g (ap (λ z. 95 ∷ 58 ∷ z) (sym (append_assoc (encodes cs) x behind)) ∙ e))
        where
          go : Row (x ++ behind) rest row → (length (bytes_of row) < length (token_bytes (tokens.label cs))) ⊎ ((ts : List LineToken) × (row ≡ tokens.label cs ∷ ts) × (x ++ behind ≡ bytes_of ts ++ rest))
          go (short h) = inl h
          go (same ts i j) = inr (ts, i, j)
          go (longer d ds y m j) = absurd (no_longer x behind k d ds y m j)

  -- ---- a label that might go on, and doesn't

  -- dots lead to what stands behind them
  past_dots : (dots t : List ℕ) (before : List ℕ) (e : ℕ) (es r : List ℕ) → IsTrue (list_all is_dot dots) → IsTrue (is_label (before ++ e ∷ es)) → dots ++ t ≡ encodes (e ∷ es) ++ r → (f : ℕ) × (fs : List ℕ) × IsTrue (goes_on_label f) × (t ≡ encodes (f ∷ fs) ++ r)
  past_dots [] t before e es r h l i = (e, es, (and_parts (goes_on_label e) (list_all goes_on_label es) (and_parts (list_all goes_on_label before) (list_all goes_on_label (e ∷ es)) (sym (list_all-append goes_on_label before (e ∷ es)) ∙ label_goes_on (before ++ e ∷ es) l)).1).0, i)
  past_dots (d ∷ dots) t before e es r h l i =
      let p = and_parts (is_dot d) (list_all is_dot dots) h in
      let f : 46 ∷ (dots ++ t) ≡ encode e ++ (encodes es ++ r) = ap (λ z. z ∷ (dots ++ t)) (sym (eqb-true d 46 p.0)) ∙ i ∙ append_assoc (encode e) (encodes es) r in
      let k = ascii_cut e 46 (encodes es ++ r) (dots ++ t) (lit< tt) (sym f) in
      let (e2, fs, m) = behind_dot before es (subst (λ z. IsTrue (is_label (before ++ z ∷ es))) k.0 l) in
      past_dots dots t (before ++ e ∷ []) e2 fs r p.1 (subst (λ z. IsTrue (is_label z)) (ap (λ z. before ++ e ∷ z) m ∙ sym (append_assoc before (e ∷ []) (e2 ∷ fs))) l) (sym k.1 ∙ ap (λ z. encodes z ++ r) m)

  -- ---- where a text stops behind a label

  encodes_dots : (dots : List ℕ) → IsTrue (list_all is_dot dots) → encodes dots ≡ dots
  encodes_dots [] h = refl
  encodes_dots (d ∷ dots) h =
      let p = and_parts (is_dot d) (list_all is_dot dots) h in
      let e = eqb-true d 46 p.0 in
      ap (λ z. z ++ encodes dots) (encode_ascii d (omega (arith, e))) ∙ ap (λ z. d ∷ z) (encodes_dots dots p.1)

  dots_go_on : (dots : List ℕ) → IsTrue (list_all is_dot dots) → IsTrue (list_all goes_on_label dots)
  dots_go_on [] h = refl
  dots_go_on (d ∷ dots) h = let p = and_parts (is_dot d) (list_all is_dot dots) h in and_from (goes_on_label d) (list_all goes_on_label dots) (ap goes_on_label (eqb-true d 46 p.0)) (dots_go_on dots p.1)

  module _ (lead : LeadsLabel s) (r : Spot) (l : leads_to s (tokens.label cs) ≡ Some r) where
    stands_where : (text : List ℕ) (place : ℕ) → StopsBehindLabel r text place → StandsAt r text place
    stands_where [] place h = absurd h
    stands_where (b ∷ x) place (inl h) = record { row = []; rest = b ∷ x; text_is = refl; whole = refl; fits = refl; place_is = h.2 }
    stands_where (b ∷ []) place (inr h) = absurd h.1
    stands_where (b ∷ c ∷ x) place (inr h) = record { row = tokens.dot ∷ []; rest = c ∷ x; text_is = ap (λ z. z ∷ c ∷ x) h.0; whole = refl; fits = goes_on r (has_dot h.1.0) tokens.dot [] h.1.1; place_is = h.2 }

    reaches_where : (text : List ℕ) (place : ℕ) → StopsBehindLabel r text place → Reaches r text place
    reaches_where [] place h behind rest row w g e = absurd h
    reaches_where (b ∷ x) place (inl h) behind rest row w g e = let i = none_follows r b (x ++ behind) rest row h.1 w g e in omega (arith, ap (λ z. length (bytes_of z)) i)
    reaches_where (b ∷ []) place (inr h) behind rest row w g e = absurd h.1
    reaches_where (b ∷ c ∷ x) place (inr h) behind rest row w g e = elim (at_dot r (c ∷ (x ++ behind)) rest row w g (ap (λ z. z ∷ c ∷ (x ++ behind)) (sym h.0) ∙ e)) [
      | inl i ↦ omega (arith, ap (λ z. length (bytes_of z)) i)
      | inr (ts, q, i, wt, gt, et) ↦ let j = none_follows (has_dot q) c (x ++ behind) rest ts h.1.2 wt gt et in omega (arith, ap (λ z. length (bytes_of z)) (i ∙ ap (λ z. tokens.dot ∷ z) j), h.2)
    ]

    apart_where : (text : List ℕ) (place : ℕ) → StopsBehindLabel r text place → IsTrue (ends_before (tokens.label cs) text)
    apart_where [] place h = absurd h
    apart_where (b ∷ x) place (inl h) = ap (λ z. not z) (ne_eqb b 95 h.0)
    apart_where (b ∷ x) place (inr h) = ap (λ z. not z) (ne_eqb b 95 (λ e. omega (arith, e, h.0)))

    label_breaks : (dots p : List ℕ) (c place d : ℕ) (back : List ℕ) → IsTrue (list_all is_dot dots) → IsTrue (goes_on_label d) → (d ≡ 46 → ⊥) → encode d ≡ p ++ back → Ends goes_on_label in_label (p ++ c ∷ []) → StopsBehindLabel r (dots ++ (p ++ c ∷ [])) place → place ≤ length (dots ++ p)
        → Breaks s (95 ∷ 58 ∷ (encodes cs ++ (dots ++ p))) c (suc (suc (length (encodes cs))) + place)
    label_breaks dots p c place d back h hd n e ends stops inside = record {
      begins = record {
        more = back;
        row = tokens.label (cs ++ (dots ++ d ∷ [])) ∷ [];
        text_is = ap (λ z. 95 ∷ 58 ∷ z) (append_assoc (encodes cs) (dots ++ p) back ∙ ap (λ z. encodes cs ++ z) (append_assoc dots p back ∙ ap (λ z. dots ++ z) (sym e ∙ sym (append-nil (encode d))) ∙ ap (λ z. z ++ encodes (d ∷ [])) (sym (encodes_dots dots h)) ∙ sym (encodes-append dots (d ∷ []))) ∙ sym (encodes-append cs (dots ++ d ∷ []))) ∙ sym (append-nil (95 ∷ 58 ∷ encodes (cs ++ (dots ++ d ∷ []))));
        whole = row_from (tokens.label (cs ++ (dots ++ d ∷ []))) [] [] (label_with cs dots d label (dots_go_on dots h) hd n) refl refl;
        fits = begun;
      };
      stands = let k = stands_where (dots ++ (p ++ c ∷ [])) place stops in record {
        row = tokens.label cs ∷ k.row;
        rest = k.rest;
        text_is = whole ∙ ap (λ z. 95 ∷ 58 ∷ z) (ap (λ z. encodes cs ++ z) k.text_is ∙ sym (append_assoc (encodes cs) (bytes_of k.row) k.rest));
        whole = row_from (tokens.label cs) k.row k.rest label (subst (λ z. IsTrue (ends_before (tokens.label cs) z)) k.text_is (apart_where (dots ++ (p ++ c ∷ [])) place stops)) k.whole;
        fits = goes_on s r (tokens.label cs) k.row l ∙ k.fits;
        place_is = ap (λ n. suc (suc (length (encodes cs))) + n) k.place_is ∙ sym (length-append (95 ∷ 58 ∷ encodes cs) (bytes_of k.row));
      };
      reaches = reach;
      within = omega (arith, inside, length-append (encodes cs) (dots ++ p));
    }
      where
        whole : (95 ∷ 58 ∷ (encodes cs ++ (dots ++ p))) ++ c ∷ [] ≡ 95 ∷ 58 ∷ (encodes cs ++ (dots ++ (p ++ c ∷ [])))
        whole = ap (λ z. 95 ∷ 58 ∷ z) (append_assoc (encodes cs) (dots ++ p) (c ∷ []) ∙ ap (λ z. encodes cs ++ z) (append_assoc dots p (c ∷ [])))

        begun : IsTrue (goes s (tokens.label (cs ++ (dots ++ d ∷ [])) ∷ []))
        begun = let m = lead (cs ++ (dots ++ d ∷ [])) in goes_on s m.0 (tokens.label (cs ++ (dots ++ d ∷ []))) [] m.1

        reach : Reaches s ((95 ∷ 58 ∷ (encodes cs ++ (dots ++ p))) ++ c ∷ []) (suc (suc (length (encodes cs))) + place)
        reach behind rest row w g i = go (row_of ((dots ++ (p ++ c ∷ [])) ++ behind) rest row w g (ap (λ z. 95 ∷ 58 ∷ z) (sym (append_assoc (encodes cs) (dots ++ (p ++ c ∷ [])) behind)) ∙ ap (λ z. z ++ behind) (sym whole) ∙ i))
          where
            go : Row ((dots ++ (p ++ c ∷ [])) ++ behind) rest row → length (bytes_of row) ≤ suc (suc (length (encodes cs))) + place
            go (short k) = omega (arith, k)
            go (same ts j k) =
                let wt = tail_is_row (tokens.label cs) ts rest (subst (λ z. IsTrue (is_row z rest)) j w) in
                let gt = sym (goes_on s r (tokens.label cs) ts l) ∙ subst (λ z. IsTrue (goes s z)) j g in
                let m = reaches_where (dots ++ (p ++ c ∷ [])) place stops behind rest ts wt gt k in
                omega (arith, m, ap (λ z. length (bytes_of z)) j, length-append (95 ∷ 58 ∷ encodes cs) (bytes_of ts))
            go (longer f fs y m k) =
                let (f2, gs, hf, o) = past_dots dots ((p ++ c ∷ []) ++ behind) cs f fs y h m (sym (append_assoc dots (p ++ c ∷ []) behind) ∙ k) in
                absurd (no_further goes_on_label in_label (p ++ c ∷ []) behind f2 gs y ends hf o)

    -- a front that is long enough stops at the same place
    stops_front : (y w text z : List ℕ) (place : ℕ) → y ++ w ≡ text ++ z → StopsBehindLabel r y place → place < length text → StopsBehindLabel r text place
    stops_front [] w text z place e h k = absurd h
    stops_front (b ∷ x) w [] z place e h k = absurd (let n : ⊥ = omega (arith, k) in n)
    stops_front (b ∷ x) w (c ∷ text) z place e (inl h) k =
        let i = head_is b c (x ++ w) (text ++ z) e in
        inl ((λ j. h.0 (i ∙ j)), subst (λ t. IsFalse (allows r (opened_by t))) i h.1, h.2)
    stops_front (b ∷ []) w (c ∷ text) z place e (inr h) k = absurd h.1
    stops_front (b ∷ b2 ∷ x) w (c ∷ []) z place e (inr h) k = absurd (let n : ⊥ = omega (arith, k, h.2) in n)
    stops_front (b ∷ b2 ∷ x) w (c ∷ c2 ∷ text) z place e (inr h) k =
        let i = head_is b c (b2 ∷ (x ++ w)) (c2 ∷ (text ++ z)) e in
        let j = head_is b2 c2 (x ++ w) (text ++ z) (tail_is b c (b2 ∷ (x ++ w)) (c2 ∷ (text ++ z)) e) in
        inr (sym i ∙ h.0, (h.1.0, h.1.1, subst (λ t. IsFalse (allows (has_dot h.1.0) (opened_by t))) j h.1.2), h.2)

    stops_within : (y : List ℕ) (place : ℕ) → StopsBehindLabel r y place → place < length y
    stops_within [] place h = absurd h
    stops_within (b ∷ x) place (inl h) = omega (arith, h.2)
    stops_within (b ∷ []) place (inr h) = absurd h.1
    stops_within (b ∷ c ∷ x) place (inr h) = omega (arith, h.2)

    -- the label, dots behind it, and bytes that are no character of a label
    module _ (dots tail : List ℕ) (place : ℕ) (h : IsTrue (list_all is_dot dots)) (none : HasCode goes_on_label tail → ⊥) (stops : StopsBehindLabel r (dots ++ tail) place) where
      -- a dot stands at the front of the dots alone
      dot_before : (x y : List ℕ) → tail ≡ x ++ y → (back : List ℕ) → encode 46 ≡ x ++ back → 0 < length x → ⊥
      dot_before [] y i back e l = let z : ⊥ = omega (arith, l) in z
      dot_before (b ∷ x) y i back e l =
          let f : 46 ∷ [] ≡ b ∷ (x ++ back) = sym (encode_ascii 46 (lit< tt)) ∙ e in
          let k = head_is 46 b [] (x ++ back) f in
          none (46, refl, (x ++ y, i ∙ ap (λ z. z ∷ (x ++ y)) (sym k) ∙ ap (λ z. z ++ (x ++ y)) (sym (encode_ascii 46 (lit< tt)))))

      -- a front of the tail goes on to a character that is no dot
      Goes : List ℕ → Type 0
      Goes p = (d : ℕ) × IsTrue (goes_on_label d) × (d ≡ 46 → ⊥) × ((back : List ℕ) × (encode d ≡ p ++ back))

      goes_to : (p y : List ℕ) → tail ≡ p ++ y → BeginsCode goes_on_label p → Goes p
      unfolding Goes
      goes_to [] y i k = (97, refl, (λ e. let z : ⊥ = omega (arith, e) in z), (encode 97, refl))
      goes_to (b ∷ p) y i (d, hd, (back, e)) = (d, hd, (λ j. dot_before (b ∷ p) y i back (ap encode (sym j) ∙ e) (omega arith)), (back, e))

      -- the place is within the dots and the tail
      reaches_tail : (p : List ℕ) (c : ℕ) (y w : List ℕ) → tail ++ w ≡ (p ++ c ∷ []) ++ y → StopsBehindLabel r (dots ++ (p ++ c ∷ [])) place × (place ≤ length (dots ++ p))
      reaches_tail p c y w i = (stops_front (dots ++ tail) w (dots ++ (p ++ c ∷ [])) y place (append_assoc dots tail w ∙ ap (λ z. dots ++ z) i ∙ sym (append_assoc dots (p ++ c ∷ []) y)) stops long, near)
        where
          near : place ≤ length (dots ++ p)
          near = by dots tail none stops
            where
              by : (ds t : List ℕ) → (HasCode goes_on_label t → ⊥) → StopsBehindLabel r (ds ++ t) place → place ≤ length (ds ++ p)
              by [] [] n k = absurd k
              by [] (b ∷ t) n (inl k) = omega (arith, k.2)
              by [] (b ∷ t) n (inr k) = absurd (n (46, refl, (t, ap (λ z. z ∷ t) k.0 ∙ ap (λ z. z ++ t) (sym (encode_ascii 46 (lit< tt))))))
              by (d ∷ ds) t n (inl k) = omega (arith, k.2)
              by (d ∷ ds) t n (inr k) = omega (arith, k.2)

          long : place < length (dots ++ (p ++ c ∷ []))
          long = omega (arith, near, length-append dots p, length-append dots (p ++ c ∷ []), length-append p (c ∷ []))

      breaks_at : (p : List ℕ) (c : ℕ) (y w : List ℕ) → tail ++ w ≡ (p ++ c ∷ []) ++ y → Goes p → Ends goes_on_label in_label (p ++ c ∷ []) → Breaks s (95 ∷ 58 ∷ (encodes cs ++ (dots ++ p))) c (suc (suc (length (encodes cs))) + place)
      unfolding Goes
      breaks_at p c y w i (d, hd, n, (back, e)) ends = let k = reaches_tail p c y w i in label_breaks dots p c place d back h hd n e ends k.0 k.1

      pub label_unfinished : BeginsCode goes_on_label tail → BreaksAtEnd s (95 ∷ 58 ∷ (encodes cs ++ (dots ++ tail))) (suc (suc (length (encodes cs))) + place)
      label_unfinished k = record { breaks = at_end; unfinished = unfinished }
        where
          at_end : (e : ℕ) → IsTrue (is_line_end e) → Breaks s (95 ∷ 58 ∷ (encodes cs ++ (dots ++ tail))) e (suc (suc (length (encodes cs))) + place)
          at_end e m =
              breaks_at tail e [] (e ∷ []) (sym (append-nil (tail ++ e ∷ []))) (goes_to tail [] (sym (append-nil tail)) k)
              (record { not_begun = none_at_end goes_on_label in_label tail e m; not_had = none_before_end goes_on_label in_label tail e m none })

          unfinished : (q : List Parts) → Left s (95 ∷ 58 ∷ (encodes cs ++ (dots ++ tail))) q → ⊥
          unfinished q left =
              let far = (at_end 10 refl).reaches [] (10 ∷ []) left.row (whole_at_line_end left.row 10 refl left.whole) (said_goes s left.row q left.says) (append-nil _ ∙ ap (λ z. z ++ 10 ∷ []) left.text_is) in
              let z : ⊥ = omega (arith, far, ap length left.text_is, length-append (encodes cs) (dots ++ tail), stops_within (dots ++ tail) place stops) in
              z

      pub label_broken : (BeginsCode goes_on_label tail → ⊥) → BreaksInside s (95 ∷ 58 ∷ (encodes cs ++ (dots ++ tail))) (suc (suc (length (encodes cs))) + place)
      label_broken n =
          let (front, c, back, e, f, g) = code_turns goes_on_label in_label 97 refl tail n in
          record {
            front = 95 ∷ 58 ∷ (encodes cs ++ (dots ++ front));
            byte = c;
            back = back;
            text_is = ap (λ z. 95 ∷ 58 ∷ z) (ap (λ z. encodes cs ++ (dots ++ z)) e ∙ ap (λ z. encodes cs ++ z) (sym (append_assoc dots front (c ∷ back))) ∙ sym (append_assoc (encodes cs) (dots ++ front) (c ∷ back)));
            breaks =
                breaks_at front c back [] (append-nil tail ∙ e ∙ sym (append_assoc front (c ∷ []) back)) (goes_to front (c ∷ back) e f)
                (record { not_begun = g; not_had = λ (d, hd, (x, i)). none (d, hd, (x ++ back, e ∙ sym (append_assoc front (c ∷ []) back) ∙ ap (λ z. z ++ back) i ∙ append_assoc (encode d) x back)) });
          }
