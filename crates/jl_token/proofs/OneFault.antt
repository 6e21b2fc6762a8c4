-- A text is readable, or it has one fault.
use Rattle.std.proofs.Common.{inl, inr, ◌⊎◌, ◌≡◌, ℕ, suc, true, false, List, [], ◌∷◌, ◌++◌, refl, sym, ap, ◌∙◌, subst, Result, Ok, Err, None, append_assoc, append-nil}
use Rattle.jl_model.specs.declared.codes.Code.{Code}
use Rattle.jl_model.specs.declared.codes.Code.TheVariants.{Syntax, Utf8, TooDeep, DuplicateKey}
use Rattle.jl_model.specs.declared.faults.Fault.{Fault}
use Rattle.jl_model.specs.declared.tokens.Token.{Token}
use Rattle.jl_model.specs.JsonTree.{Tree}
use Rattle.jl_model.specs.JsonText.{Begins, Reads, depth_limit}
use Rattle.jl_model.specs.TextFaults.{Breaks, BreaksRule, TextFault}
use Rattle.jl_token.specs.declared.readings.Reading.{Reading}
use Rattle.jl_token.specs.declared.steps.LexStop.TheVariants.{Refused}
use Rattle.jl_token.specs.Machine.{Moved, moved, first, finished}
use Rattle.jl_token.specs.Stands.{IsAt}
use Rattle.jl_token.proofs.Heads.{head_is, tail_is}
use Rattle.jl_token.proofs.LexerCalls.{no_end}
use Rattle.jl_token.proofs.OneByte.{new_is_at, step_is_at, step_breaks, stuck, rule, end_reads, is_at_begins}
use Rattle.jl_token.proofs.OnePlace.{one_place, one_part}
use Rattle.jl_token.proofs.OneReading.{shorter, reached}
use Rattle.jl_token.proofs.Relaxed.{Relaxed, RelaxedErr, relaxed}
use Rattle.jl_token.proofs.TokenPlaces.{Places, Utf8Says, places}

same_fault : (f g : Fault) → f.code ≡ g.code → f.at ≡ g.at → f ≡ g
same_fault f g k a = let one : record { code = f.code; at = f.at } ≡ record { code = g.code; at = f.at } = ap (λ z. record { code = z; at = f.at }) k in let two : record { code = g.code; at = f.at } ≡ record { code = g.code; at = g.at } = ap (λ z. record { code = g.code; at = z }) a in one ∙ two

-- ---- a byte breaks one rule
module _ (start : ℕ) (p : List ℕ) (given : List Token) (s : Reading) (c : ℕ) (h : IsAt start p given s) where
  alone : (fault : Fault) (part : List ℕ) (code other : Code) → Utf8Says code part c → RelaxedErr code fault (moved true (suc depth_limit) s c) (moved false depth_limit s c) → BreaksRule start p part c other → other ≡ code
  alone fault part TooDeep TooDeep u d b = refl
  alone fault part TooDeep DuplicateKey u d b = absurd (stuck false depth_limit start p given s c fault h.repeated d.1 b)
  alone fault part TooDeep Utf8 u d b = absurd (u b)
  alone fault part TooDeep Syntax u d b = absurd (b.0 (rule start p given s c h fault part TooDeep u d))
  alone fault part TooDeep _ u d b = absurd b
  alone fault part DuplicateKey TooDeep u d b = absurd (stuck true (suc depth_limit) start p given s c fault h.deeper d.1 b)
  alone fault part DuplicateKey DuplicateKey u d b = refl
  alone fault part DuplicateKey Utf8 u d b = absurd (u b)
  alone fault part DuplicateKey Syntax u d b = absurd (b.1 (rule start p given s c h fault part DuplicateKey u d))
  alone fault part DuplicateKey _ u d b = absurd b
  alone fault part Utf8 TooDeep u d b = absurd (stuck true (suc depth_limit) start p given s c fault h.deeper d.0 b)
  alone fault part Utf8 DuplicateKey u d b = absurd (stuck false depth_limit start p given s c fault h.repeated d.1 b)
  alone fault part Utf8 Utf8 u d b = refl
  alone fault part Utf8 Syntax u d b = absurd (b.2 u)
  alone fault part Utf8 _ u d b = absurd b
  alone fault part Syntax TooDeep u d b = absurd (stuck true (suc depth_limit) start p given s c fault h.deeper d.0 b)
  alone fault part Syntax DuplicateKey u d b = absurd (stuck false depth_limit start p given s c fault h.repeated d.1 b)
  alone fault part Syntax Utf8 u d b = absurd (u b)
  alone fault part Syntax Syntax u d b = refl
  alone fault part Syntax _ u d b = absurd b
  alone fault part _ other u d b = absurd d

  -- what breaks the text is what the automaton answers
  answered : (fault : Fault) → moved true depth_limit s c ≡ Err fault → (other : Fault) → Breaks start p c other → other ≡ fault
  answered fault e other x =
      let r : Relaxed (Err fault) (moved true (suc depth_limit) s c) (moved false depth_limit s c) = subst (λ z. Relaxed z (moved true (suc depth_limit) s c) (moved false depth_limit s c)) e (relaxed depth_limit s c h.formed.depth) in
      let q : Places start p c (Err fault) = subst (Places start p c) e (places true depth_limit start p s c h.at_is h.formed.spot h.placed) in
      let u : Utf8Says fault.code x.place.part c = subst (λ z. Utf8Says fault.code z c) (one_part start p fault.at other.at q.0 x.place) q.1 in
      let k : other.code ≡ fault.code = alone fault x.place.part fault.code other.code u r x.code in
      let a : other.at ≡ fault.at = one_place start p other.at fault.at x.place q.0 in
      same_fault other fault k a

-- two fronts of one text, each with the byte behind it
compare : (p q : List ℕ) (c d : ℕ) (r s : List ℕ) → p ++ c ∷ r ≡ q ++ d ∷ s → ((p ≡ q) × (c ≡ d)) ⊎ ((z : List ℕ) × (q ≡ p ++ c ∷ z)) ⊎ ((z : List ℕ) × (p ≡ q ++ d ∷ z))
compare [] [] c d r s e = inl (refl, head_is c d r s e)
compare [] (b ∷ q) c d r s e = inr (inl (q, ap (λ x. x ∷ q) (sym (head_is c b r (q ++ d ∷ s) e))))
compare (a ∷ p) [] c d r s e = inr (inr (p, ap (λ x. x ∷ p) (head_is a d (p ++ c ∷ r) s e)))
compare (a ∷ p) (b ∷ q) c d r s e =
    let i : a ≡ b = head_is a b (p ++ c ∷ r) (q ++ d ∷ s) e in
    elim (compare p q c d r s (tail_is a b (p ++ c ∷ r) (q ++ d ∷ s) e)) [
      | inl k ↦ inl (ap (λ x. x ∷ p) i ∙ ap (λ x. b ∷ x) k.0, k.1)
      | inr k ↦ elim k [
        | inl m ↦ inr (inl (m.0, ap (λ x. x ∷ q) (sym i) ∙ ap (λ x. a ∷ x) m.1))
        | inr m ↦ inr (inr (m.0, ap (λ x. x ∷ p) i ∙ ap (λ x. b ∷ x) m.1))
      ]
    ]

module _ (start : ℕ) where
  one_break : (p : List ℕ) (c : ℕ) (f g : Fault) → Breaks start p c f → Breaks start p c g → f ≡ g
  one_break p c f g x y = go (moved true depth_limit s c) refl
    where
      r : (given : List Token) × (s : Reading) × IsAt start p given s
      r = reached start p [] [] (first start) (new_is_at start) x.begins

      s : Reading
      s = r.1

      go : (m : Moved) → moved true depth_limit s c ≡ m → f ≡ g
      go (Ok m) e = absurd (x.breaks (is_at_begins start (p ++ c ∷ []) (r.0 ++ m.0) m.1 (step_is_at start p r.0 s c r.2 m e)))
      go (Err fault) e = answered start p r.0 s c r.2 fault e f x ∙ sym (answered start p r.0 s c r.2 fault e g y)

  -- A text has one fault.
  pub one_fault : (text : List ℕ) (f g : Fault) → TextFault start text f → TextFault start text g → f ≡ g
  one_fault text f g (inl (p, c, r, e, x)) (inl (q, d, s, i, y)) = elim (compare p q c d r s (sym e ∙ i)) [
    | inl k ↦ one_break p c f g x (subst (λ z. Breaks start p z g) (sym k.1) (subst (λ z. Breaks start z d g) (sym k.0) y))
    | inr k ↦ elim k [
      | inl m ↦ absurd (x.breaks (shorter start p c m.0 (subst (Begins start) m.1 y.begins)))
      | inr m ↦ absurd (y.breaks (shorter start q d m.0 (subst (Begins start) m.1 x.begins)))
    ]
  ]
  one_fault text f g (inl (p, c, r, e, x)) (inr u) = absurd (x.breaks (shorter start p c r (subst (Begins start) e u.begins)))
  one_fault text f g (inr t) (inl (q, d, s, i, y)) = absurd (y.breaks (shorter start q d s (subst (Begins start) i t.begins)))
  one_fault text f g (inr t) (inr u) = same_fault f g (t.code ∙ sym u.code) (t.place ∙ sym u.place)

  -- A text with a fault isn't readable.
  pub unread : (text : List ℕ) (fault : Fault) (tree : Tree) (us : List Token) → TextFault start text fault → Reads start text tree us → ⊥
  unread text fault tree us (inl (p, c, r, e, x)) h = x.breaks (shorter start p c r (subst (Begins start) e ([], tree, us, subst (λ z. Reads start z tree us) (sym (append-nil text)) h)))
  unread text fault tree us (inr t) h = t.unreadable tree us h

  abbrev ReadOrFault : List ℕ → Type 0
  ReadOrFault text = ((tree : Tree) × (us : List Token) × Reads start text tree us) ⊎ ((fault : Fault) × TextFault start text fault)

  at_end : (p : List ℕ) (given : List Token) (s : Reading) → IsAt start p given s → ReadOrFault p
  at_end p given s h = go (finished s) refl
    where
      go : (x : Result (List Token) Fault) → finished s ≡ x → ReadOrFault p
      go (Ok us) e = let r = end_reads start p given s h us e in inl (r.0, given ++ us, r.1)
      go (Err fault) e = inr (fault, inr (no_end (Refused fault) (record { reading = s; stopped = None; ended = false }) e start p given (record { reading = h; goes_on = refl })))

  goes_on : (b p : List ℕ) (given : List Token) (s : Reading) → IsAt start p given s → ReadOrFault (p ++ b)
  goes_on [] p given s h = subst ReadOrFault (sym (append-nil p)) (at_end p given s h)
  goes_on (c ∷ b) p given s h = go (moved true depth_limit s c) refl (λ (m : List Token × Reading) k. goes_on b (p ++ c ∷ []) (given ++ m.0) m.1 k)
    where
      go : (x : Moved) → moved true depth_limit s c ≡ x → ((m : List Token × Reading) → IsAt start (p ++ c ∷ []) (given ++ m.0) m.1 → ReadOrFault ((p ++ c ∷ []) ++ b)) → ReadOrFault (p ++ c ∷ b)
      go (Ok m) e again = subst ReadOrFault (append_assoc p (c ∷ []) b) (again m (step_is_at start p given s c h m e))
      go (Err fault) e again = inr (fault, inl (p, c, b, refl, step_breaks start p given s c h fault e))

  -- A text is readable or has a fault.
  pub read_or_fault : (text : List ℕ) → ReadOrFault text
  read_or_fault text = goes_on text [] [] (first start) (new_is_at start)
