-- Tries and parts of definitions that agree, one after another.
use Rattle.std.proofs.Common.{◌≡◌, ◌⊎◌, inl, inr, refl, sym, ap, subst, ◌∙◌, Bool, true, false, Option, Some, None, Result, Ok, Err}
use Rattle.jl_model.specs.declared.codes.Code.{Code}
use Rattle.jl_model.specs.declared.codes.Code.TheVariants as code
use Rattle.jl_defs.specs.Texts.{Text, is_among}
use Rattle.jl_defs.specs.Answers.{◌>>=◌}
use Rattle.jl_defs.specs.Define.{Entry, LocalMap, Progress, Define, find_entry}
use Rattle.jl_scoped.specs.Faithful.{Meets, Settled, Fixed, Extends, Faithful}
use Rattle.jl_scoped.specs.Asking.{Ask, done, needs, fails, then, asked, AgreesAt, Agrees, Ends, ask, ask_entry}
use Rattle.jl_scoped.proofs.Extending.{itself}

-- what follows an answer may be replaced where the answer has the property
pub meets-same : {A B : Type 0} (P : A → Type 0) (r : Result A Code) (f g : A → Result B Code) → Meets P r → ((x : A) → P x → f x ≡ g x) → (r >>= f) ≡ (r >>= g)
meets-same P (Ok x) f g h k = k x h
meets-same P (Err c) f g h k = refl

pub one-after-another : {A B C : Type 0} (r : Result A Code) (f : A → Result B Code) (g : B → Result C Code) → ((r >>= f) >>= g) ≡ (r >>= (λ x. f x >>= g))
one-after-another (Ok x) f g = refl
one-after-another (Err c) f g = refl

-- each progress of the kind goes on from this one
abbrev pub Reach : LocalMap → (Progress → Type 0) → Progress → Type 0
Reach m At p = (q : Progress) → At q → Extends m p q

-- the two kinds
pub later : (m : LocalMap) (p : Progress) → Reach m (Extends m p) p
later m p = λ q ex. ex

pub here : (m : LocalMap) (p : Progress) → Reach m (λ q. q ≡ p) p
here m p = λ q e. subst (λ x. Extends m p x) (sym e) (itself m p)

-- a part that gives the same
pub agrees-too : {A B : Type 0} (m : LocalMap) (At : Progress → Type 0) (p : Progress) → Reach m At p → (mk : Progress → A → B) (a : Ask A) (F G : Define → Progress → Result B Code)
    → ((D : Define) (q : Progress) → Faithful m D → Extends m p q → G D q ≡ F D q) → AgreesAt m At p mk a F → AgreesAt m At p mk a G
agrees-too m At p reach mk (done x) F G same h = λ D q fa at. same D q fa (reach q at) ∙ h D q fa at
agrees-too m At p reach mk (needs n) F G same h =
    λ D fa. same D p fa (itself m p) ∙ (h D fa ∙ meets-same (Extends m p) (D p n) (λ q. F D q) (λ q. G D q) (fa.extends p n) (λ q ex. sym (same D q fa ex)))
agrees-too m At p reach mk (fails c) F G same h = λ D fa. same D p fa (itself m p) ∙ h D fa

-- one try and another
pub then-agrees : {A B A' B' : Type 0} (m : LocalMap) (At : Progress → Type 0) (p : Progress) → Reach m At p → (mk : Progress → A → B) (mk' : Progress → A' → B') (a : Ask A) (b : A → Ask A')
    (F : Define → Progress → Result B Code) (K : Define → B → Result B' Code)
    → Agrees m p mk a F → ((x : A) → a ≡ done x → AgreesAt m At p mk' (b x) (λ D q. K D (mk q x))) → AgreesAt m At p mk' (then a b) (λ D q. F D q >>= K D)
then-agrees m At p reach mk mk' (done x) b F K h next =
    agrees-too m At p reach mk' (b x) (λ D q. K D (mk q x)) (λ D q. F D q >>= K D) (λ D q fa ex. ap (λ z. z >>= K D) (h D q fa ex)) (next x refl)
then-agrees m At p reach mk mk' (needs n) b F K h next = λ D fa. ap (λ z. z >>= K D) (h D fa) ∙ one-after-another (D p n) (λ q. F D q) (K D)
then-agrees m At p reach mk mk' (fails c) b F K h next = λ D fa. ap (λ z. z >>= K D) (h D fa)

-- a test, and a try
pub test-agrees : {A B C : Type 0} (m : LocalMap) (At : Progress → Type 0) (p : Progress) (mk : Progress → A → B) (r : Result C Code) (b : C → Ask A) (K : Define → Progress → C → Result B Code)
    → ((y : C) → AgreesAt m At p mk (b y) (λ D q. K D q y)) → AgreesAt m At p mk (then (asked r) b) (λ D q. r >>= K D q)
test-agrees m At p mk (Ok y) b K h = h y
test-agrees m At p mk (Err c) b K h = λ D fa. refl

-- a test that stands last
pub test-alone : {A B : Type 0} (m : LocalMap) (At : Progress → Type 0) (p : Progress) (mk : Progress → A → B) (r : Result A Code) → AgreesAt m At p mk (asked r) (λ D q. r >>= (λ x. Ok (mk q x)))
test-alone m At p mk (Ok x) = λ D q fa at. refl
test-alone m At p mk (Err c) = λ D fa. refl

-- what stands last, and defines nothing
pub last-ends : {B : Type 0} (m : LocalMap) (p : Progress) (f : Progress → Result B Code) → Ends m p (asked (f p)) (λ D q. f q)
last-ends {B} m p f = by (f p) refl
  where
    by : (r : Result B Code) → f p ≡ r → Ends m p (asked r) (λ D q. f q)
    by (Ok x) k = λ D q fa e. ap f e ∙ k
    by (Err c) k = λ D fa. k

-- a try that ends, and what defines nothing
pub ends-then : {A B : Type 0} (m : LocalMap) (p : Progress) (a : Ask A) (F : Define → Progress → Result A Code) (f : A → Result B Code) → Ends m p a F
    → Ends m p (then a (λ y. asked (f y))) (λ D q. F D q >>= f)
ends-then {A} {B} m p (done x) F f h = by (f x) refl
  where
    by : (r : Result B Code) → f x ≡ r → Ends m p (asked r) (λ D q. F D q >>= f)
    by (Ok y) k = λ D q fa e. ap (λ z. z >>= f) (h D q fa e) ∙ k
    by (Err c) k = λ D fa. ap (λ z. z >>= f) (h D p fa refl) ∙ k
ends-then m p (needs n) F f h = λ D fa. ap (λ z. z >>= f) (h D fa) ∙ one-after-another (D p n) (λ q. F D q) f
ends-then m p (fails c) F f h = λ D fa. ap (λ z. z >>= f) (h D fa)

-- what is made where only progress is
abbrev pub alone : Progress → Unit {0} → Progress
alone q x = q

some-none : {A : Type 0} {x : A} → Some x ≡ None → ⊥
some-none e = cc

-- a name
ask-absent : (m : LocalMap) (p : Progress) (n : Text) → is_among p.pending n ≡ false → find_entry m.entries n ≡ None → Agrees m p alone (done tt) (λ D q. D q n)
ask-absent m p n h none = λ D q fa ex. by D q fa ex.pending (is_among q.defined n) refl
  where
    by : (D : Define) (q : Progress) → Faithful m D → q.pending ≡ p.pending → (b : Bool) → is_among q.defined n ≡ b → D q n ≡ Ok q
    by D q fa e true k = fa.knows q n k
    by D q fa e false k = fa.absent q n k (ap (λ l. is_among l n) e ∙ h) none

ask-needs : (m : LocalMap) (p : Progress) (n : Text) (e : Entry) → find_entry m.entries n ≡ Some e → Agrees m p alone (needs n) (λ D q. D q n)
ask-needs m p n e there = λ D fa. again D fa (D p n) (fa.settles p n)
  where
    again : (D : Define) → Faithful m D → (r : Result Progress Code) → Meets (Settled m n) r → r ≡ (r >>= (λ q. D q n))
    again D fa (Ok q) (inl h) = sym (fa.knows q n h)
    again D fa (Ok q) (inr h) = absurd (some-none (sym there ∙ h))
    again D fa (Err c) h = refl

pub ask-agrees : (m : LocalMap) (p : Progress) (n : Text) → Agrees m p alone (ask m p n) (λ D q. D q n)
ask-agrees m p n = by (is_among p.defined n) (is_among p.pending n) (find_entry m.entries n) refl refl refl
  where
    by : (a b : Bool) (o : Option Entry) → is_among p.defined n ≡ a → is_among p.pending n ≡ b → find_entry m.entries n ≡ o
        → Agrees m p alone (elim a [ true ↦ done tt | false ↦ elim b [ true ↦ fails code.CyclicIriMapping | false ↦ ask_entry o n ] ]) (λ D q. D q n)
    by true b o e f g = λ D q fa ex. fa.knows q n (ex.defined n e)
    by false true o e f g = λ D fa. fa.cyclic p n e f
    by false false None e f g = ask-absent m p n f g
    by false false (Some x) e f g = ask-needs m p n x g

-- a name that is done is fixed
pub ask-fixed : (m : LocalMap) (p : Progress) (n : Text) → ask m p n ≡ done (tt {0}) → Fixed m p n
ask-fixed m p n h = by (is_among p.defined n) (is_among p.pending n) (find_entry m.entries n) refl refl refl h
  where
    by : (a b : Bool) (o : Option Entry) → is_among p.defined n ≡ a → is_among p.pending n ≡ b → find_entry m.entries n ≡ o
        → elim a [ true ↦ done tt | false ↦ elim b [ true ↦ fails code.CyclicIriMapping | false ↦ ask_entry o n ] ] ≡ done (tt {0}) → Fixed m p n
    by true b o e f g k = inl (inl e)
    by false true o e f g k = inr f
    by false false None e f g k = inl (inr g)
    by false false (Some x) e f g k = absurd cc
