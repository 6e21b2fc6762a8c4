-- Each step of the list of what waits leaves what it comes to.
use Rattle.std.proofs.Common.{◌≡◌, ◌⊎◌, ℕ, suc, inl, inr, refl, sym, ap, ◌∙◌, Bool, true, false, List, [], ◌∷◌, Option, Some, Result, Ok, Err}
use Rattle.jl_model.specs.declared.codes.Code.{Code}
use Rattle.jl_model.specs.declared.codes.Code.TheVariants as code
use Rattle.jl_defs.specs.Texts.{Text, is_among}
use Rattle.jl_defs.specs.Answers.{◌>>=◌}
use Rattle.jl_defs.specs.TermEntry.{RawEntry, read_entry}
use Rattle.jl_defs.specs.Define.{Entry, LocalMap, Progress, Define, find_entry, define_entry, define_raw, define}
use Rattle.jl_scoped.specs.Faithful.{Faithful}
use Rattle.jl_scoped.specs.Asking.{Ask, done, needs, fails, Ends}
use Rattle.jl_scoped.specs.Waiting.{Waiting, waiting, opened, body, ask_of, comes_to, New, WaitingSteps}
use Rattle.jl_scoped.proofs.Meeting.{at-true, at-false}
use Rattle.jl_scoped.proofs.Growing.{define-faithful, define-step}
use Rattle.jl_scoped.proofs.Tries.{one-after-another}
use Rattle.jl_scoped.proofs.Trials.{body-ends}

ends : (m : LocalMap) (w : Waiting) (p : Progress) → is_among p.pending w.entry.name ≡ true → Ends m p (ask_of m w p) (λ D q. body D m w q)
ends m w p h = body-ends m w p (inr h)

-- what a try comes to, read off
name_in : Text → Ask Progress → Text
name_in other (needs n) = n
name_in other (done x) = other
name_in other (fails c) = other

value_in : Progress → Ask Progress → Progress
value_in other (done x) = x
value_in other (needs n) = other
value_in other (fails c) = other

code_in : Code → Ask Progress → Code
code_in other (fails c) = c
code_in other (done x) = other
code_in other (needs n) = other

needed : (m : LocalMap) (p : Progress) (a : Ask Progress) (n : Text) (F : Define → Progress → Result Progress Code) (D : Define) → Faithful m D → a ≡ needs n → Ends m p a F
    → F D p ≡ (D p n >>= (λ q. F D q))
unfolding name_in
needed m p (needs x) n F D fa e h = h D fa ∙ ap (λ t. D p t >>= (λ q. F D q)) (ap (name_in n) e)
needed m p (done x) n F D fa e h = absurd cc
needed m p (fails c) n F D fa e h = absurd cc

ended : (m : LocalMap) (p : Progress) (a : Ask Progress) (y : Progress) (F : Define → Progress → Result Progress Code) (D : Define) → Faithful m D → a ≡ done y → Ends m p a F → F D p ≡ Ok y
unfolding value_in
ended m p (done x) y F D fa e h = h D p fa refl ∙ ap (λ v. Ok v) (ap (value_in y) e)
ended m p (needs n) y F D fa e h = absurd cc
ended m p (fails c) y F D fa e h = absurd cc

stopped : (m : LocalMap) (p : Progress) (a : Ask Progress) (c : Code) (F : Define → Progress → Result Progress Code) (D : Define) → Faithful m D → a ≡ fails c → Ends m p a F → F D p ≡ Err c
unfolding code_in
stopped m p (fails x) c F D fa e h = h D fa ∙ ap (λ v. Err v) (ap (code_in c) e)
stopped m p (done x) c F D fa e h = absurd cc
stopped m p (needs n) c F D fa e h = absurd cc

-- a new entry is read, and defined by what was read
by-entry : (n : ℕ) (m : LocalMap) (p : Progress) (e : Entry) → New m p e → define (suc n) m p e.name ≡ (read_entry e.name e.value >>= (λ raw. define_raw m (define n m) p e raw))
by-entry n m p e new =
    define-step n m p e.name
    ∙ (at-false (is_among p.defined e.name) _ _ new.undefined ∙ (at-false (is_among p.pending e.name) _ _ new.unopened ∙ ap (define_entry m (define n m) p) new.there))

by-raw : (n : ℕ) (m : LocalMap) (p : Progress) (e : Entry) (raw : RawEntry) → New m p e → read_entry e.name e.value ≡ Ok raw → define (suc n) m p e.name ≡ define_raw m (define n m) p e raw
by-raw n m p e raw new r = by-entry n m p e new ∙ ap (λ x. x >>= (λ raw'. define_raw m (define n m) p e raw')) r

by-body : (n : ℕ) (m : LocalMap) (p : Progress) (e : Entry) (raw : RawEntry) → New m p e → read_entry e.name e.value ≡ Ok raw → raw.ignored ≡ false
    → define (suc n) m p e.name ≡ body (define n m) m (waiting p e raw) (opened p e.name)
by-body n m p e raw new r i = by-raw n m p e raw new r ∙ at-false raw.ignored _ _ i

by-passing : (n : ℕ) (m : LocalMap) (p : Progress) (e : Entry) (raw : RawEntry) → New m p e → read_entry e.name e.value ≡ Ok raw → raw.ignored ≡ true
    → define (suc n) m p e.name ≡ Ok (record p { defined = e.name ∷ p.defined })
by-passing n m p e raw new r i = by-raw n m p e raw new r ∙ at-true raw.ignored _ _ i

as-it-is : (r : Result Progress Code) → (r >>= (λ q. Ok q)) ≡ r
as-it-is (Ok q) = refl
as-it-is (Err c) = refl

begins : (n : ℕ) (m : LocalMap) (p : Progress) (e : Entry) (raw : RawEntry) → New m p e → read_entry e.name e.value ≡ Ok raw → raw.ignored ≡ false
    → define (suc n) m p e.name ≡ comes_to n m (waiting p e raw ∷ []) (opened p e.name)
unfolding comes_to
begins n m p e raw new r i = by-body n m p e raw new r i ∙ sym (as-it-is (body (define n m) m (waiting p e raw) (opened p e.name)))

-- what the innermost needs is defined first
first : (n : ℕ) (m : LocalMap) (w : Waiting) (ws : List Waiting) (p : Progress) (t : Text) → is_among p.pending w.entry.name ≡ true → ask_of m w p ≡ needs t
    → comes_to (suc n) m (w ∷ ws) p ≡ (define (suc n) m p t >>= comes_to (suc n) m (w ∷ ws))
unfolding comes_to
first n m w ws p t h a =
    ap (λ x. x >>= comes_to (suc (suc n)) m ws) (needed m p (ask_of m w p) t (λ D q. body D m w q) (define (suc n) m) (define-faithful n m) a (ends m w p h))
    ∙ one-after-another (define (suc n) m p t) (λ q. body (define (suc n) m) m w q) (comes_to (suc (suc n)) m ws)

opens : (n : ℕ) (m : LocalMap) (w : Waiting) (ws : List Waiting) (p : Progress) (e : Entry) (raw : RawEntry) → is_among p.pending w.entry.name ≡ true
    → ask_of m w p ≡ needs e.name → New m p e → read_entry e.name e.value ≡ Ok raw → raw.ignored ≡ false
    → comes_to (suc n) m (w ∷ ws) p ≡ comes_to n m (waiting p e raw ∷ (w ∷ ws)) (opened p e.name)
unfolding comes_to
opens n m w ws p e raw h a new r i = first n m w ws p e.name h a ∙ ap (λ x. x >>= comes_to (suc n) m (w ∷ ws)) (by-body n m p e raw new r i)

passes : (n : ℕ) (m : LocalMap) (w : Waiting) (ws : List Waiting) (p : Progress) (e : Entry) (raw : RawEntry) → is_among p.pending w.entry.name ≡ true
    → ask_of m w p ≡ needs e.name → New m p e → read_entry e.name e.value ≡ Ok raw → raw.ignored ≡ true
    → comes_to (suc n) m (w ∷ ws) p ≡ comes_to (suc n) m (w ∷ ws) (record p { defined = e.name ∷ p.defined })
passes n m w ws p e raw h a new r i = first n m w ws p e.name h a ∙ ap (λ x. x >>= comes_to (suc n) m (w ∷ ws)) (by-passing n m p e raw new r i)

refuses : (n : ℕ) (m : LocalMap) (w : Waiting) (ws : List Waiting) (p : Progress) (e : Entry) (c : Code) → is_among p.pending w.entry.name ≡ true
    → ask_of m w p ≡ needs e.name → New m p e → read_entry e.name e.value ≡ Err c → comes_to (suc n) m (w ∷ ws) p ≡ Err c
refuses n m w ws p e c h a new r =
    first n m w ws p e.name h a ∙ ap (λ x. x >>= comes_to (suc n) m (w ∷ ws)) (by-entry n m p e new ∙ ap (λ x. x >>= (λ raw. define_raw m (define n m) p e raw)) r)

closes : (n : ℕ) (m : LocalMap) (w : Waiting) (ws : List Waiting) (p q : Progress) → is_among p.pending w.entry.name ≡ true
    → ask_of m w p ≡ done q → comes_to (suc n) m (w ∷ ws) p ≡ comes_to (suc (suc n)) m ws q
unfolding comes_to
closes n m w ws p q h a =
    ap (λ x. x >>= comes_to (suc (suc n)) m ws) (ended m p (ask_of m w p) q (λ D q'. body D m w q') (define (suc n) m) (define-faithful n m) a (ends m w p h))

stops : (n : ℕ) (m : LocalMap) (w : Waiting) (ws : List Waiting) (p : Progress) (c : Code) → is_among p.pending w.entry.name ≡ true
    → ask_of m w p ≡ fails c → comes_to (suc n) m (w ∷ ws) p ≡ Err c
unfolding comes_to
stops n m w ws p c h a =
    ap (λ x. x >>= comes_to (suc (suc n)) m ws) (stopped m p (ask_of m w p) c (λ D q. body D m w q) (define (suc n) m) (define-faithful n m) a (ends m w p h))

pub waiting-steps : WaitingSteps
waiting-steps = record { begins = begins; opens = opens; passes = passes; refuses = refuses; closes = closes; stops = stops }
