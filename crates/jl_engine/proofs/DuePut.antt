-- An engine has said all that is due for the bytes that it was fed: the lexer gives a token as soon as its bytes have
-- been read, and a number with the byte behind it.
use Rattle.std.proofs.Common.{ℕ, ◌+◌, ◌≤◌, ◌<◌, ◌≡◌, ◌⊎◌, inl, inr, sym, ◌∙◌, ap, subst, Bool, true, List, [], ◌∷◌, ◌++◌, length, codes, Ok, arith, append_assoc, length-append}
use Rattle.std.proofs.lemmas.Bool.{cases_lt}
use Rattle.jl_model.specs.declared.scalars.Scalar.{Scalar}
use Rattle.jl_model.specs.declared.tokens.Token.{Token}
use Rattle.jl_model.specs.declared.tokens.Token.TheVariants as tokens
use Rattle.jl_model.specs.JsonTree.{Tree}
use Rattle.jl_model.specs.JsonText.{depth_limit}
use Rattle.jl_model.specs.Parts.{Parts}
use Rattle.jl_token.specs.declared.readings.Reading.{Reading}
use Rattle.jl_token.specs.declared.readings.Spot.TheVariants as spots
use Rattle.jl_token.specs.declared.states.LexState.{LexState}
use Rattle.jl_token.specs.declared.words.InWord.{InWord}
use Rattle.jl_token.specs.declared.words.InWord.TheVariants as letters
use Rattle.jl_token.specs.NumberMachine.{letters_read, word_of}
use Rattle.jl_token.specs.Left.{Left, LeftAt}
use Rattle.jl_token.specs.Stands.{PlacedAt, WordPlaced, IsAt}
use Rattle.jl_token.specs.Lexed as lexed
use Rattle.jl_token.proofs.Complete.{some_left}
use Rattle.jl_token.proofs.Ways.{Differ, Ways, none, two, ways}
use Rattle.jl_defs.specs.Settings.{Settings}
use Rattle.jl_defs.specs.Sets.{Has, IsWithin}
use Rattle.jl_defs.specs.Faults.{AcceptsTree}
use Rattle.jl_defs.specs.OpenTree.{Open}
use Rattle.jl_defs.specs.OpenText.{Opens, ReadsAs}
use Rattle.jl_defs.specs.Due.{due}
use Rattle.jl_laws.proofs.OpenGoesOn.{goes-on}
use Rattle.jl_laws.specs.Says.{says, root_spot}
use Rattle.jl_frames.specs.Formed.{formed}
use Rattle.jl_frames.proofs.AllFormed.{walk-fine, AllFormed, all-kept}
use Rattle.jl_walk.specs.Due.{open_events, IsPrompt}
use Rattle.jl_walk.specs.Events.{Event, a_key, a_scalar}
use Rattle.jl_walk.specs.Feeding.{start}
use Rattle.jl_walk.specs.Running.{run}
use Rattle.jl_walk.specs.States.{State, at as on_frames, then_go}
use Rattle.jl_walk.proofs.DueSure.{open-first, parts-prompt}
use Rattle.jl_walk.proofs.Parting.{run-parts, quads_of, longer}
use Rattle.jl_engine.specs.declared.engines.EngineState.{EngineState}
use Rattle.jl_engine.specs.TreeEvents.{event_of, walked}
use Rattle.jl_engine.specs.Standing.{Stands, IsWithinStage}
use Rattle.jl_engine.specs.Prompt.{DueIsSaid}
use Rattle.jl_engine.proofs.Feeding.{has-first}
use Rattle.jl_engine.proofs.Lists.{front-first}
use Rattle.jl_engine.proofs.TokensOfTrees.{walk_events, walk-append, read-events}
use Rattle.jl_engine.proofs.DueWords.{Located, AllLocated, words-located}
use Rattle.jl_engine.proofs.Walked.{formed-append}

-- ---- the lexer isn't late

-- what follows the tokens that were given goes on with the open document's events
follows : (p : List ℕ) (o : Open) (given : List Token) (s : Reading) → Opens p o → IsAt 0 p given s → (us : List Token) (r : List ℕ) → Left true depth_limit s us r → (left : List Event) × ((walk_events given ++ walk_events us) ≡ (open_events o ++ left))
follows p o given s h at us r l =
    let t = at.strict.back us r l in
    let b = open-first o t.0 (goes-on p r o t.0 h (given ++ us, t.1)) [] in
    (b.0, sym (walk-append given us) ∙ (read-events 0 (p ++ r) t.0 (given ++ us) t.1 ∙ b.1))

value-same : (at place : ℕ) (v w : Scalar) → a_scalar at v ≡ a_scalar place w → v ≡ w
value-same at place v w e = cc

key-same : (at place : ℕ) (n m : List ℕ) → a_key at n ≡ a_key place m → n ≡ m
key-same at place n m e = cc

differ-events : (x y : Token) → Differ x y → walked (event_of x) ≡ walked (event_of y) → ⊥
differ-events (tokens.Value at v) (tokens.Value place w) d e = d (value-same at place v w e)
differ-events (tokens.Value at v) (tokens.CloseArray place) d e = cc
differ-events (tokens.Key at n) (tokens.Key place m) d e = d (key-same at place n m e)
differ-events (tokens.Key at n) (tokens.CloseObject place) d e = cc
differ-events x y d e = absurd d

append-same : {A : Type 0} (xs ys zs : List A) → (xs ++ ys) ≡ (xs ++ zs) → ys ≡ zs
append-same [] ys zs e = e
append-same (x ∷ xs) ys zs e = append-same xs ys zs (tail x (xs ++ ys) (xs ++ zs) e)
  where
    tail : {A : Type 0} (x : A) (xs ys : List A) → ◌≡◌ {A = List A} (x ∷ xs) (x ∷ ys) → xs ≡ ys
    tail x xs ys e = cc

head-event : (x y : Event) (xs ys : List Event) → ◌≡◌ {A = List Event} (x ∷ xs) (y ∷ ys) → x ≡ y
head-event x y xs ys e = cc

no-event : (y : Event) (ys : List Event) → ◌≡◌ {A = List Event} [] (y ∷ ys) → ⊥
no-event y ys e = cc

-- a word that is being read hasn't been read whole
too-short : (place : InWord) (p front : List ℕ) (q : ℕ) → p ≡ front ++ letters_read place → q ≡ 0 + length front → Located 0 p (a_scalar q (word_of place)) → ⊥
too-short letters.N p front q t a (f, b, e, z) = omega (arith, a, z, ap length e, ap length t, length-append front (letters_read letters.N), length-append f (codes "null" ++ b), length-append (codes "null") b)
too-short letters.Nu p front q t a (f, b, e, z) = omega (arith, a, z, ap length e, ap length t, length-append front (letters_read letters.Nu), length-append f (codes "null" ++ b), length-append (codes "null") b)
too-short letters.Nul p front q t a (f, b, e, z) = omega (arith, a, z, ap length e, ap length t, length-append front (letters_read letters.Nul), length-append f (codes "null" ++ b), length-append (codes "null") b)
too-short letters.T p front q t a (f, b, e, z) = omega (arith, a, z, ap length e, ap length t, length-append front (letters_read letters.T), length-append f (codes "true" ++ b), length-append (codes "true") b)
too-short letters.Tr p front q t a (f, b, e, z) = omega (arith, a, z, ap length e, ap length t, length-append front (letters_read letters.Tr), length-append f (codes "true" ++ b), length-append (codes "true") b)
too-short letters.Tru p front q t a (f, b, e, z) = omega (arith, a, z, ap length e, ap length t, length-append front (letters_read letters.Tru), length-append f (codes "true" ++ b), length-append (codes "true") b)
too-short letters.F p front q t a (f, b, e, z) = omega (arith, a, z, ap length e, ap length t, length-append front (letters_read letters.F), length-append f (codes "false" ++ b), length-append (codes "false") b)
too-short letters.Fa p front q t a (f, b, e, z) = omega (arith, a, z, ap length e, ap length t, length-append front (letters_read letters.Fa), length-append f (codes "false" ++ b), length-append (codes "false") b)
too-short letters.Fal p front q t a (f, b, e, z) = omega (arith, a, z, ap length e, ap length t, length-append front (letters_read letters.Fal), length-append f (codes "false" ++ b), length-append (codes "false") b)
too-short letters.Fals p front q t a (f, b, e, z) = omega (arith, a, z, ap length e, ap length t, length-append front (letters_read letters.Fals), length-append f (codes "false" ++ b), length-append (codes "false") b)

located-in : (at : ℕ) (t : List ℕ) (xs : List Event) (e : Event) (ys : List Event) → AllLocated at t (xs ++ e ∷ ys) → Located at t e
located-in at t [] e ys l = l.0
located-in at t (x ∷ xs) e ys l = located-in at t xs e ys l.1

word-first : (once : Bool) (limit : ℕ) (s : Reading) (place : InWord) → s.spot ≡ spots.InWord place → (us : List Token) (t : List ℕ) → Left once limit s us t → (vs : List Token) × (us ≡ tokens.Value s.start (word_of place) ∷ vs)
word-first once limit s place q us t l =
    let h = subst (λ x. LeftAt once l.room x s.start s.part s.within s.at us t) q l.rest in (h.back_tokens, h.tokens_are ∙ ap (λ ts. ts ++ h.back_tokens) h.in_first.tokens_are)

-- so no event of what has been read is still to come
not-late : (p : List ℕ) (o : Open) (given : List Token) (s : Reading) → Opens p o → IsAt 0 p given s → (e : Event) (more : List Event) → open_events o ≡ walk_events given ++ e ∷ more → ⊥
not-late p o given s h at e more q = by (ways true depth_limit s at.formed)
  where
    forced : (us : List Token) (r : List ℕ) → Left true depth_limit s us r → (vs : List Event) × (walk_events us ≡ e ∷ vs)
    forced us r l =
        let f = follows p o given s h at us r l in
        (more ++ f.0, append-same (walk_events given) (walk_events us) (e ∷ (more ++ f.0)) (f.1 ∙ (ap (λ zs. zs ++ f.0) q ∙ append_assoc (walk_events given) (e ∷ more) f.0)))

    in_word : (place : InWord) → s.spot ≡ spots.InWord place → ⊥
    in_word place w =
        let some = some_left true depth_limit s at.formed in
        let first = word-first true depth_limit s place w some.0 some.1 some.2 in
        let f = forced some.0 some.1 some.2 in
        let same : a_scalar s.start (word_of place) ≡ e = head-event (a_scalar s.start (word_of place)) e (walk_events first.0) f.0 (sym (ap walk_events first.1) ∙ f.1) in
        let placed : WordPlaced 0 p s.start place = subst (λ x. PlacedAt x 0 p s.start s.part) w at.placed in
        too-short place p placed.front s.start placed.text_is placed.token_is
        (subst (λ x. Located 0 p x) (sym same) (located-in 0 p (walk_events given) e more (subst (AllLocated 0 p) q (words-located p o h))))

    by : Ways (λ a us t. Left true depth_limit s us t) 0 ⊎ ((place : InWord) × (s.spot ≡ spots.InWord place)) → ⊥
    by (inr w) = in_word w.0 w.1
    by (inl (none t l)) = let f = forced [] t l in no-event e f.0 f.1
    by (inl (two x y us vs t u d l m)) =
        let f = forced (x ∷ us) t l in
        let g = forced (y ∷ vs) u m in
        differ-events x y d (head-event (walked (event_of x)) e (walk_events us) f.0 f.1 ∙ sym (head-event (walked (event_of y)) e (walk_events vs) g.0 g.1))

-- the tokens that were given tell the events of what has been read, and perhaps more
opened-given : (p : List ℕ) (o : Open) (given : List Token) (s : LexState) → Opens p o → lexed.Stands 0 p given s → (more : List Event) × (walk_events given ≡ open_events o ++ more)
opened-given p o given s h stands = by (cases_lt (length (walk_events given)) (length (open_events o)))
  where
    r : Reading
    r = s.reading

    at : IsAt 0 p given r
    at = stands.reading

    some : (us : List Token) × ((t : List ℕ) × Left true depth_limit r us t)
    some = let x = some_left true depth_limit r at.formed in (x.0, (x.1, x.2))

    goes : (left : List Event) × ((walk_events given ++ walk_events some.0) ≡ (open_events o ++ left))
    goes = follows p o given r h at some.0 some.1.0 some.1.1

    late : (mid : List Event) → open_events o ≡ walk_events given ++ mid → length (walk_events given) < length (open_events o) → ⊥
    late [] e l = omega (arith, l, ap length e, length-append (walk_events given) [])
    late (x ∷ mid) e l = not-late p o given r h at x mid e

    by : (length (walk_events given) < length (open_events o)) ⊎ (length (open_events o) ≤ length (walk_events given)) → (more : List Event) × (walk_events given ≡ open_events o ++ more)
    by (inl l) = let m = front-first (walk_events given) (walk_events some.0) (open_events o) goes.0 goes.1 (omega (arith, l)) in absurd (late m.0 m.1 l)
    by (inr l) = front-first (open_events o) goes.0 (walk_events given) (walk_events some.0) (sym goes.1) l

-- ---- what is due has been said

front-formed : (xs ys : List Parts) → AllFormed (xs ++ ys) → AllFormed xs
front-formed [] ys h = tt
front-formed (x ∷ xs) ys h = (h.0, front-formed xs ys h.1)

-- the first quads of a document are well-formed
first-formed : (s : Settings) (t : Tree) (q later : List Parts) → says s (root_spot s) t ≡ q ++ later → formed q ≡ q
first-formed s t q later e = all-kept q (front-formed q later (subst AllFormed e (walk-fine s (root_spot s) t (tt, tt) tt).0))

-- what the first events bring comes first of all
brought-first : (s : Settings) (xs more : List Event) (q said : List Parts) (y z : State) → run s xs (on_frames (start s)) ≡ Ok (q, y) → run s (xs ++ more) (on_frames (start s)) ≡ Ok (said, z) → said ≡ q ++ quads_of (run s more y)
brought-first s xs more q said y z first all =
    longer q (run s more y) said z (sym (run-parts s xs more (on_frames (start s)) ∙ ap (λ g. then_go g (run s more)) first) ∙ all)

-- where an accepted document within the stage begins with the bytes
due-put : (s : Settings) (bytes : List ℕ) (quads : List Parts) (e : EngineState) → Stands s bytes quads e → (rest : List ℕ) (t : Tree) → ReadsAs (bytes ++ rest) t → AcceptsTree s t → IsWithinStage s t → (o : Open) → Opens bytes o → IsWithin (due s o) quads
due-put s bytes quads e stands rest t reads accepted within o opens x is_due =
    subst (λ q. Has q x) (sym stands.quads_are)
    (subst (λ q. Has (formed q) x) (sym all)
    (subst (λ q. Has q x) (sym (formed-append prompt.quads rest_of))
    (has-first (formed prompt.quads) (formed rest_of) x (subst (λ q. Has q x) (sym (first-formed s t prompt.quads prompt.later prompt.all_said)) (prompt.all_due x is_due)))))
  where
    prompt : IsPrompt s o t
    prompt = parts-prompt s o t stands.streaming (goes-on bytes rest o t opens reads) accepted within

    given : (more : List Event) × (walk_events stands.tokens ≡ open_events o ++ more)
    given = opened-given bytes o stands.tokens e.lexer opens stands.lexer

    rest_of : List Parts
    rest_of = quads_of (run s given.0 prompt.state)

    all : stands.said ≡ prompt.quads ++ rest_of
    all = brought-first s (open_events o) given.0 prompt.quads stands.said prompt.state stands.state prompt.goes (ap (λ es. run s es (on_frames (start s))) (sym given.1) ∙ stands.walked)

pub due-said : DueIsSaid
due-said s bytes quads e stands q d = due-put s bytes quads e stands d.rest d.tree d.reads d.accepted d.built d.read d.opens q d.is_due
