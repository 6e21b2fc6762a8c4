-- Progress that goes on from other progress.
use Rattle.std.proofs.Common.{◌≡◌, ◌⊎◌, inl, inr, refl, sym, ap, subst, ◌∙◌, Bool, true, false, ◌||◌, List, [], ◌∷◌, Option, Some, None, bytes_eq}
use Rattle.jl_defs.specs.Texts.{Text, is_among}
use Rattle.jl_defs.specs.Context.{TermDef, term, put_term, take_out}
use Rattle.jl_defs.specs.Define.{Entry, LocalMap, Progress, find_entry}
use Rattle.jl_scoped.specs.Faithful.{Settled, Fixed, Extends}
use Rattle.jl_scoped.proofs.OtherNames.{same-name, equal-name, other-name, put-other, without-other}

pub itself : (m : LocalMap) (p : Progress) → Extends m p p
itself m p = record { pending = refl; defined = λ n h. h; same = λ n h. refl; vocab = refl; base = refl }

fixed-on : (m : LocalMap) (p q : Progress) (n : Text) → Extends m p q → Fixed m p n → Fixed m q n
fixed-on m p q n ex (inl (inl d)) = inl (inl (ex.defined n d))
fixed-on m p q n ex (inl (inr none)) = inl (inr none)
fixed-on m p q n ex (inr h) = inr (ap (λ l. is_among l n) ex.pending ∙ h)

pub further : (m : LocalMap) (p q r : Progress) → Extends m p q → Extends m q r → Extends m p r
further m p q r a b = record {
  pending = b.pending ∙ a.pending;
  defined = λ n h. b.defined n (a.defined n h);
  same = λ n h. b.same n (fixed-on m p q n a h) ∙ a.same n h;
  vocab = b.vocab ∙ a.vocab;
  base = b.base ∙ a.base;
}

or-second : (a b : Bool) → b ≡ true → (a || b) ≡ true
or-second true b e = refl
or-second false b e = e

or-first : (a b : Bool) → a ≡ true → (a || b) ≡ true
or-first true b e = refl
or-first false b e = absurd cc

-- the progress with an entry in the middle of its definition, and its older definition out
abbrev pub opened : Progress → Text → Progress
opened p name = record { built = take_out p.built name; pending = name ∷ p.pending; defined = p.defined }

-- a name is not known where it is neither defined nor in the middle of its definition
abbrev pub Unknown : Progress → Text → Type 0
Unknown p name = (is_among p.defined name ≡ false) × (is_among p.pending name ≡ false)

no-both : {b : Bool} → b ≡ true → b ≡ false → ⊥
no-both {b = true} h k = cc
no-both {b = false} h k = cc

no-entry : {e : Entry} {o : Option Entry} → o ≡ Some e → o ≡ None → ⊥
no-entry {o = Some x} h k = cc
no-entry {o = None} h k = cc

-- an unknown entry is no name that is fixed
differs : (m : LocalMap) (p : Progress) (e : Entry) (n : Text) → Unknown p e.name → find_entry m.entries e.name ≡ Some e → Fixed m p n → bytes_eq e.name n ≡ false
differs m p e n u there fixed = other-name e.name n (λ q. by (subst (λ x. Fixed m p x) (sym q) fixed))
  where
    by : Fixed m p e.name → ⊥
    by (inl (inl h)) = no-both h u.0
    by (inl (inr none)) = no-entry there none
    by (inr h) = no-both h u.1

fixed-opened : (m : LocalMap) (p : Progress) (name n : Text) → Fixed m p n → Fixed m (opened p name) n
fixed-opened m p name n (inl h) = inl h
fixed-opened m p name n (inr h) = inr (or-second (bytes_eq name n) (is_among p.pending n) h)

-- the definition stands in the context
pub closed : (m : LocalMap) (p q : Progress) (e : Entry) (t : TermDef) → Unknown p e.name → find_entry m.entries e.name ≡ Some e → Extends m (opened p e.name) q
    → Extends m p (record { built = put_term q.built e.name t; pending = p.pending; defined = e.name ∷ q.defined })
closed m p q e t u there ex = record {
  pending = refl;
  defined = λ n h. or-second (bytes_eq e.name n) (is_among q.defined n) (ex.defined n h);
  same = λ n h.
      let other = differs m p e n u there h in
      put-other q.built.level.terms e.name t n other ∙ (ex.same n (fixed-opened m p e.name n h) ∙ without-other p.built.level.terms e.name n other);
  vocab = ex.vocab;
  base = ex.base;
}

-- an entry that is ignored counts as defined
pub passed : (m : LocalMap) (p : Progress) (name : Text) → Extends m p (record p { defined = name ∷ p.defined })
passed m p name = record {
  pending = refl;
  defined = λ n h. or-second (bytes_eq name n) (is_among p.defined n) h;
  same = λ n h. refl;
  vocab = refl;
  base = refl;
}

pub among-first : (name : Text) (l : List Text) → is_among (name ∷ l) name ≡ true
among-first name l = or-first (bytes_eq name name) (is_among l name) (same-name name name refl)

-- an entry is found by its name
pub found-by-name : (es : List Entry) (name : Text) (e : Entry) → find_entry es name ≡ Some e → e.name ≡ name
found-by-name [] name e h = absurd cc
found-by-name (x ∷ es) name e h = by (bytes_eq x.name name) refl h (λ k. found-by-name es name e k)
  where
    name_or : Option Entry → Text
    name_or None = []
    name_or (Some y) = y.name

    by : (b : Bool) → bytes_eq x.name name ≡ b → ◌≡◌ {A = Option Entry} (elim b [ true ↦ Some x | false ↦ find_entry es name ]) (Some e) → (find_entry es name ≡ Some e → e.name ≡ name) → e.name ≡ name
    by true q k next = ap name_or (sym k) ∙ equal-name x.name name q
    by false q k next = next k
