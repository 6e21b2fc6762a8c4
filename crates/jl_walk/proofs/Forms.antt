-- A property whose term is of a form that is built: its values are treated by the plain case.
use Rattle.std.proofs.Common.{◌≡◌, refl, ◌∙◌, ap, Bool, true, false, not, ◌&&◌, ◌||◌, if◌then◌else◌, List, ◌++◌, Option, Some, None}
use Rattle.std.proofs.lemmas.List.{append-nil}
use Rattle.jl_model.specs.JsonTree.{Tree}
use Rattle.jl_model.specs.Parts.{Parts}
use Rattle.jl_model.specs.declared.faults.Fault.{Fault}
use Rattle.jl_defs.specs.Context.{TermDef}
use Rattle.jl_defs.specs.Settings.{lists}
use Rattle.jl_defs.specs.Kept.{json_form, language_form, map_form, plain_form, form_of, is_map, is_json_kind, own_member}
use Rattle.jl_defs.specs.Expansion.{is_plain_graph}
use Rattle.jl_defs.specs.Dataset.{Head}
use Rattle.jl_defs.specs.Faults.{faults_by, turns, if_turned}
use Rattle.jl_laws.specs.Spots.{Around, ordinary, graphs, Content, list_hangs}
use Rattle.jl_laws.specs.Says.{by_form, contained_says, if_given}
use Rattle.jl_walk.specs.Frames.{around_by}
use Rattle.jl_walk.specs.Stage.{is_built_term}

both-of : (a b : Bool) → (not a && b) ≡ true → (a ≡ false) × (b ≡ true)
both-of false b e = (refl, e)
both-of true b e = absurd cc

last-of : (a b : Bool) → (not a && not b) ≡ true → (a ≡ false) × (b ≡ false)
last-of false false e = (refl, refl)
last-of false true e = absurd cc
last-of true b e = absurd cc

-- what the term of a property that is built has not
pub record Plain (t : TermDef) : Type 0 where
  pub json : is_json_kind t.kind ≡ false
  pub forward : t.reverse ≡ false
  pub no_list : t.containers.list ≡ false
  pub no_language : t.containers.language ≡ false
  pub no_index : t.containers.index ≡ false
  pub no_id : t.containers.id ≡ false
  pub no_kind : t.containers.kind ≡ false

pub plain-term : (t : TermDef) → is_built_term (Some t) ≡ true → Plain t
plain-term t e =
    let a = both-of (is_json_kind t.kind) _ e in
    let b = both-of t.reverse _ a.1 in
    let c = both-of t.containers.list _ b.1 in
    let l = both-of t.containers.language _ c.1 in
    let x = both-of t.containers.index _ l.1 in
    let y = last-of t.containers.id t.containers.kind x.1 in
    record { json = a.0; forward = b.0; no_list = c.0; no_language = l.0; no_index = x.0; no_id = y.0; no_kind = y.1 }

plain-by : (m j l x y z : Bool) → j ≡ false → l ≡ false → x ≡ false → y ≡ false → z ≡ false →
    (if j then json_form else (if m && l then language_form else (if m && (x || (y || z)) then map_form else plain_form))) ≡ plain_form
plain-by true false false false false false a b c d e = refl
plain-by false false false false false false a b c d e = refl
plain-by m true l x y z a b c d e = absurd cc
plain-by m false true x y z a b c d e = absurd cc
plain-by m false false true y z a b c d e = absurd cc
plain-by m false false false true z a b c d e = absurd cc
plain-by m false false false false true a b c d e = absurd cc

pub built-form : (t : Option TermDef) (v : Tree) → is_built_term t ≡ true → form_of t v ≡ plain_form
built-form None v e = refl
built-form (Some t) v e =
    let p = plain-term t e in
    plain-by (is_map v) (is_json_kind t.kind) t.containers.language t.containers.index t.containers.id t.containers.kind p.json p.no_language p.no_index p.no_id p.no_kind

pub built-lists : (t : Option TermDef) → is_built_term t ≡ true → lists t ≡ false
built-lists None e = refl
built-lists (Some t) e = (plain-term t e).no_list

pub built-turns : (t : Option TermDef) → is_built_term t ≡ true → turns own_member t ≡ false
built-turns None e = refl
built-turns (Some t) e = (plain-term t e).forward

pub built-faults : (t : Option TermDef) (v : Tree) (n l : Unit {0} → List Fault) (m : TermDef → List Fault) (p x : Unit {0} → List Fault) → is_built_term t ≡ true →
    faults_by (form_of t v) t n l m p ++ if_turned (turns own_member t) x ≡ p tt
built-faults t v n l m p x e =
    ap (λ f. faults_by f t n l m p ++ if_turned (turns own_member t) x) (built-form t v e)
    ∙ (ap (λ b. p tt ++ if_turned b x) (built-turns t e) ∙ append-nil (p tt))

pub built-said : (t : Option TermDef) (v : Tree) (j l : Unit {0} → List Parts) (m : TermDef → List Parts) (il ig : Bool) (h : Head) (c : Content) (around : Around → List Parts) → is_built_term t ≡ true →
    by_form (form_of t v) t j l m (λ _. contained_says t il ig h c around) ≡ around (around_by (is_plain_graph t))
built-said t v j l m il ig h c around e =
    ap (λ f. by_form f t j l m (λ _. contained_says t il ig h c around)) (built-form t v e)
    ∙ (ap (λ b. elim (b && not il) [ true ↦ if_given ig (λ _. list_hangs c h) | false ↦ elim (is_plain_graph t) [ true ↦ around graphs | false ↦ around ordinary ] ]) (built-lists t e)
    ∙ by (is_plain_graph t))
  where
    by : (b : Bool) → ◌≡◌ {A = List Parts} (elim b [ true ↦ around graphs | false ↦ around ordinary ]) (around (around_by b))
    by true = refl
    by false = refl
