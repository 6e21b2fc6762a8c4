-- One byte, the end, and the empty text.
use Rattle.std.proofs.Common.{zero-le, ◌≡◌, ℕ, suc, ◌+◌, Bool, true, false, List, [], ◌∷◌, ◌++◌, refl, sym, ap, ◌∙◌, subst, arith, append_assoc, Ok, Err, add-zero, append-nil, length-append}
use Rattle.jl_model.specs.declared.codes.Code.{Code}
use Rattle.jl_model.specs.declared.codes.Code.TheVariants.{Syntax, Utf8, TooDeep, DuplicateKey}
use Rattle.jl_model.specs.declared.faults.Fault.{Fault}
use Rattle.jl_model.specs.declared.tokens.Token.{Token}
use Rattle.jl_model.specs.JsonTree.{Tree}
use Rattle.jl_model.specs.JsonText.{Then, Blanks, ValueText, JsonText, BeginsJson, Begins, Reads, depth_limit}
use Rattle.jl_model.specs.TextFaults.{Breaks, BreaksRule}
use Rattle.jl_model.specs.TextFaults.Pieces.{none}
use Rattle.jl_token.specs.declared.readings.Reading.{Reading}
use Rattle.jl_token.specs.Machine.{moved, first, finished}
use Rattle.jl_token.specs.Left.{Formed}
use Rattle.jl_token.specs.Stands.{Holds, IsAt}
use Rattle.jl_token.proofs.Languages.{map_second, map_first, with_first, with_second}
use Rattle.jl_token.proofs.Forward.{Follows, forward}
use Rattle.jl_token.proofs.Back.{Backs, back}
use Rattle.jl_token.proofs.Complete.{some_left}
use Rattle.jl_token.proofs.End.{end, back_end}
use Rattle.jl_token.proofs.Relaxed.{Relaxed, RelaxedErr, relaxed}
use Rattle.jl_token.proofs.TokenPlaces.{Places, Utf8Says, places}

module _ (once : Bool) (limit start : ℕ) where
  new_holds : Holds once limit start [] [] (first start)
  new_holds = record {
    back = λ us r l.
        let h = l.rest in
        let v : Tree = h.in_second.in_first.0 in
        (v, subst (λ n. Then Blanks (Then (ValueText once n v) Blanks) start us r) (let e : l.room ≡ limit = sym (add-zero l.room) ∙ l.room_is in e) (with_second h (with_first h.in_second h.in_second.in_first.1)));
    only = λ tree us r t. (us, refl, record { room = limit; room_is = add-zero limit; rest = map_second (λ _ _ _ x. map_first (λ _ _ _ y. (tree, y)) x) t });
  }

  -- one byte more
  step_holds : (p : List ℕ) (given : List Token) (s : Reading) (c : ℕ) (m : List Token × Reading) → Formed limit s → Holds once limit start p given s → moved once limit s c ≡ Ok m → Holds once limit start (p ++ c ∷ []) (given ++ m.0) m.1
  step_holds p given s c m f h e = record {
    back = λ us r l.
        let b : Backs once limit s c (Ok m) = subst (Backs once limit s c) e (back once limit s c f) in
        let t = h.back (m.0 ++ us) (c ∷ r) (b.2 us r l) in
        (t.0, subst (λ x. JsonText once limit t.0 start (given ++ m.0 ++ us) x) (sym (append_assoc p (c ∷ []) r)) (subst (λ x. JsonText once limit t.0 start x (p ++ c ∷ r)) (sym (append_assoc given m.0 us)) t.1));
    only = λ tree us r t.
        let o = h.only tree us (c ∷ r) (subst (λ x. JsonText once limit tree start us x) (append_assoc p (c ∷ []) r) t) in
        let w : Follows once limit (Ok m) o.0 r = subst (λ x. Follows once limit x o.0 r) e (forward once limit s c o.0 r o.2) in
        (w.0, o.1 ∙ ap (λ x. given ++ x) w.1 ∙ sym (append_assoc given m.0 w.0), w.2);
  }

  -- what holds begins a text
  begins : (p : List ℕ) (given : List Token) (s : Reading) → Formed limit s → Holds once limit start p given s → BeginsJson once limit start p
  begins p given s f h =
      let l = some_left once limit s f in
      let t = h.back l.0 l.1 l.2 in
      (l.1, t.0, given ++ l.0, t.1)

  -- a byte that is refused begins none
  pub stuck : (p : List ℕ) (given : List Token) (s : Reading) (c : ℕ) (fault : Fault) → Holds once limit start p given s → moved once limit s c ≡ Err fault → BeginsJson once limit start (p ++ c ∷ []) → ⊥
  stuck p given s c fault h e b =
      let o = h.only b.1 b.2 (c ∷ b.0) (subst (λ x. JsonText once limit b.1 start b.2 x) (append_assoc p (c ∷ []) b.0) b.3) in
      let w : Follows once limit (Err fault) o.0 b.0 = subst (λ x. Follows once limit x o.0 b.0) e (forward once limit s c o.0 b.0 o.2) in
      w

  kept : (s : Reading) (c : ℕ) (m : List Token × Reading) → Formed limit s → moved once limit s c ≡ Ok m → Formed limit m.1 × (m.1.at ≡ s.at + 1)
  kept s c m f e = (let b : Backs once limit s c (Ok m) = subst (Backs once limit s c) e (back once limit s c f) in (b.0, b.1))

-- the form and the place after a byte
pub step_kept : (s : Reading) (c : ℕ) (m : List Token × Reading) → Formed depth_limit s → moved true depth_limit s c ≡ Ok m → Formed depth_limit m.1 × (m.1.at ≡ s.at + 1)
step_kept s c m f e = kept true depth_limit 0 s c m f e

pub new_is_at : (start : ℕ) → IsAt start [] [] (first start)
new_is_at start = record {
  formed = record { depth = zero-le; spot = tt };
  at_is = sym (add-zero start);
  placed = none;
  strict = new_holds true depth_limit start;
  deeper = new_holds true (suc depth_limit) start;
  repeated = new_holds false depth_limit start;
}

wider : (s : Reading) → Formed depth_limit s → Formed (suc depth_limit) s
wider s f = record { depth = omega (arith, f.depth); spot = f.spot }

module _ (start : ℕ) (p : List ℕ) (given : List Token) (s : Reading) (c : ℕ) (h : IsAt start p given s) where
  -- A byte that is taken keeps the relation.
  pub step_is_at : (m : List Token × Reading) → moved true depth_limit s c ≡ Ok m → IsAt start (p ++ c ∷ []) (given ++ m.0) m.1
  step_is_at m e =
      let r : Relaxed (Ok m) (moved true (suc depth_limit) s c) (moved false depth_limit s c) = subst (λ x. Relaxed x (moved true (suc depth_limit) s c) (moved false depth_limit s c)) e (relaxed depth_limit s c h.formed.depth) in
      let q : Places start p c (Ok m) = subst (Places start p c) e (places true depth_limit start p s c h.at_is h.formed.spot h.placed) in
      let k = kept true depth_limit start s c m h.formed e in
      record {
        formed = k.0;
        at_is = omega (arith, k.1, h.at_is, length-append p (c ∷ []));
        placed = q;
        strict = step_holds true depth_limit start p given s c m h.formed h.strict e;
        deeper = step_holds true (suc depth_limit) start p given s c m (wider s h.formed) h.deeper r.0;
        repeated = step_holds false depth_limit start p given s c m h.formed h.repeated r.1;
      }

  pub rule : (fault : Fault) (part : List ℕ) (code : Code) → Utf8Says code part c → RelaxedErr code fault (moved true (suc depth_limit) s c) (moved false depth_limit s c) → BreaksRule start p part c code
  rule fault part TooDeep u d = begins true (suc depth_limit) start _ _ d.0.0.1 (kept true (suc depth_limit) start s c d.0.0 (wider s h.formed) d.0.1).0 (step_holds true (suc depth_limit) start p given s c d.0.0 (wider s h.formed) h.deeper d.0.1)
  rule fault part DuplicateKey u d = begins false depth_limit start _ _ d.0.0.1 (kept false depth_limit start s c d.0.0 h.formed d.0.1).0 (step_holds false depth_limit start p given s c d.0.0 h.formed h.repeated d.0.1)
  rule fault part Utf8 u d = u
  rule fault part Syntax u d = (stuck true (suc depth_limit) start p given s c fault h.deeper d.0, stuck false depth_limit start p given s c fault h.repeated d.1, u)
  rule fault part _ u d = absurd d

  -- A byte that is refused is where the text stops being readable, with the code and the place.
  pub step_breaks : (fault : Fault) → moved true depth_limit s c ≡ Err fault → Breaks start p c fault
  step_breaks fault e =
      let r : Relaxed (Err fault) (moved true (suc depth_limit) s c) (moved false depth_limit s c) = subst (λ x. Relaxed x (moved true (suc depth_limit) s c) (moved false depth_limit s c)) e (relaxed depth_limit s c h.formed.depth) in
      let q : Places start p c (Err fault) = subst (Places start p c) e (places true depth_limit start p s c h.at_is h.formed.spot h.placed) in
      record {
        begins = begins true depth_limit start p given s h.formed h.strict;
        breaks = stuck true depth_limit start p given s c fault h.strict e;
        place = q.0;
        code = rule fault q.0.part fault.code q.1 r;
      }

module _ (start : ℕ) (p : List ℕ) (given : List Token) (s : Reading) (h : IsAt start p given s) where
  pub is_at_begins : Begins start p
  is_at_begins = begins true depth_limit start p given s h.formed h.strict

  -- At the end the text is read.
  pub end_reads : (us : List Token) → finished s ≡ Ok us → (tree : Tree) × Reads start p tree (given ++ us)
  end_reads us e =
      let t = h.strict.back us [] (back_end true depth_limit s us h.formed e) in
      (t.0, subst (λ x. Reads start x t.0 (given ++ us)) (append-nil p) t.1)

  -- Any reading is the one that the end gives.
  pub end_only : (tree : Tree) (tokens : List Token) → Reads start p tree tokens → (us : List Token) × (finished s ≡ Ok us) × (tokens ≡ given ++ us)
  end_only tree tokens t =
      let o = h.strict.only tree tokens [] (subst (λ x. Reads start x tree tokens) (sym (append-nil p)) t) in
      (o.0, end true depth_limit s o.0 o.2, o.1)
