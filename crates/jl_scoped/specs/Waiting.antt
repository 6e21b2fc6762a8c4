-- The list of what waits, in place of the recursion of a definition into the names that it needs.
use Rattle.std.specs.Prelude.{◌≡◌, ℕ, suc, Bool, true, false, List, [], ◌∷◌, Option, Some, Result, Ok, Err}
use Rattle.jl_model.specs.declared.codes.Code.{Code}
use Rattle.jl_defs.specs.Texts.{Text, is_among}
use Rattle.jl_defs.specs.Answers.{◌>>=◌}
use Rattle.jl_defs.specs.Context.{TermDef, term, take_out}
use Rattle.jl_defs.specs.TermEntry.{RawEntry, read_entry}
use Rattle.jl_defs.specs.Define.{Entry, LocalMap, Progress, Define, find_entry, type_mapping, define_rest, finish, define}
use Rattle.jl_scoped.specs.Asking.{Ask, done, needs, fails, ask_body}

-- an entry in the middle of its definition; those behind it wait for it
pub record Waiting : Type 0 where
  pub entry : Entry
  pub raw : RawEntry
  -- the terms that were in the middle before it
  pub outer : List Text
  -- its older definition
  pub old : Option TermDef

abbrev pub waiting : Progress → Entry → RawEntry → Waiting
waiting p e raw = record { entry = e; raw = raw; outer = p.pending; old = term p.built e.name }

-- the progress with an entry in the middle of its definition, and its older definition out
abbrev pub opened : Progress → Text → Progress
opened p name = record { built = take_out p.built name; pending = name ∷ p.pending; defined = p.defined }

-- what the definition does with an entry that waits
abbrev pub body : Define → LocalMap → Waiting → Progress → Result Progress Code
body D m w q =
    type_mapping D q w.raw.kind
    >>= (λ typed. define_rest m D w.entry w.raw typed.progress typed.text w.raw.reverse >>= (λ r. finish m w.entry.name w.outer w.old r.0 r.1))

abbrev pub ask_of : LocalMap → Waiting → Progress → Ask Progress
ask_of m w p = ask_body m w.entry w.raw w.outer w.old p

-- what a list of waiting entries comes to, the innermost first, where so many more may be opened inside it
unfoldable pub comes_to : ℕ → LocalMap → List Waiting → Progress → Result Progress Code
comes_to n m [] p = Ok p
comes_to n m (w ∷ ws) p = body (define n m) m w p >>= comes_to (suc n) m ws

-- an entry whose name is neither defined nor in the middle of its definition
pub record New (m : LocalMap) (p : Progress) (e : Entry) : Type 0 where
  pub undefined : is_among p.defined e.name ≡ false
  pub unopened : is_among p.pending e.name ≡ false
  pub there : find_entry m.entries e.name ≡ Some e

-- the steps of the list: each leaves what it comes to
pub record WaitingSteps : Type 0 where
  -- a new entry begins a list
  pub begins : (n : ℕ) (m : LocalMap) (p : Progress) (e : Entry) (raw : RawEntry) → New m p e → read_entry e.name e.value ≡ Ok raw → raw.ignored ≡ false
      → define (suc n) m p e.name ≡ comes_to n m (waiting p e raw ∷ []) (opened p e.name)
  -- what is needed comes first
  pub opens : (n : ℕ) (m : LocalMap) (w : Waiting) (ws : List Waiting) (p : Progress) (e : Entry) (raw : RawEntry) → is_among p.pending w.entry.name ≡ true
      → ask_of m w p ≡ needs e.name → New m p e → read_entry e.name e.value ≡ Ok raw → raw.ignored ≡ false
      → comes_to (suc n) m (w ∷ ws) p ≡ comes_to n m (waiting p e raw ∷ (w ∷ ws)) (opened p e.name)
  -- an entry that is ignored is done at once
  pub passes : (n : ℕ) (m : LocalMap) (w : Waiting) (ws : List Waiting) (p : Progress) (e : Entry) (raw : RawEntry) → is_among p.pending w.entry.name ≡ true
      → ask_of m w p ≡ needs e.name → New m p e → read_entry e.name e.value ≡ Ok raw → raw.ignored ≡ true
      → comes_to (suc n) m (w ∷ ws) p ≡ comes_to (suc n) m (w ∷ ws) (record p { defined = e.name ∷ p.defined })
  -- an entry whose form is at fault
  pub refuses : (n : ℕ) (m : LocalMap) (w : Waiting) (ws : List Waiting) (p : Progress) (e : Entry) (c : Code) → is_among p.pending w.entry.name ≡ true
      → ask_of m w p ≡ needs e.name → New m p e → read_entry e.name e.value ≡ Err c
      → comes_to (suc n) m (w ∷ ws) p ≡ Err c
  -- the innermost is done
  pub closes : (n : ℕ) (m : LocalMap) (w : Waiting) (ws : List Waiting) (p q : Progress) → is_among p.pending w.entry.name ≡ true
      → ask_of m w p ≡ done q → comes_to (suc n) m (w ∷ ws) p ≡ comes_to (suc (suc n)) m ws q
  pub stops : (n : ℕ) (m : LocalMap) (w : Waiting) (ws : List Waiting) (p : Progress) (c : Code) → is_among p.pending w.entry.name ≡ true
      → ask_of m w p ≡ fails c → comes_to (suc n) m (w ∷ ws) p ≡ Err c
