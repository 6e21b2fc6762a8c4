-- The quads of a node, by its subject, its graph and the object.
use Rattle.std.proofs.Common.{◌≡◌, refl, sym, ◌∙◌, ap, subst, Bool, true, false, ◌&&◌, List, [], ◌∷◌, inl, inr, Option, Some, None}
use Rattle.std.proofs.lemmas.Bool.{cases_Bool}
use Rattle.std.specs.Str.{is_utf8}
use Rattle.jl_model.specs.Parts.{Parts, parts_of}
use Rattle.jl_model.specs.declared.terms.Lit.{Lit}
use Rattle.jl_model.specs.declared.terms.Term.{Term}
use Rattle.jl_model.specs.declared.terms.Term.TheVariants.{Iri, Blank, Literal}
use Rattle.jl_model.specs.declared.graph_scopes.GraphScope.{GraphScope}
use Rattle.jl_model.specs.declared.graph_scopes.GraphScope.TheVariants.{LeftOut, Main, Named}
use Rattle.jl_defs.specs.Texts.{Text, is_iri}
use Rattle.jl_defs.specs.Dataset.{Head, link, is_subject, quad_in, term_of_literal}
use Rattle.jl_frames.specs.declared.nodes.Node.{Node}
use Rattle.jl_frames.specs.Formed.{is_node, is_language, is_lit, is_object, is_graph, is_formed, formed}
use Rattle.jl_frames.specs.declared.nodes.Pending.{Pending}
use Rattle.jl_frames.specs.declared.nodes.Pending.TheVariants as pending
use Rattle.jl_frames.specs.Machine.{hang_on, subject_of}
use Rattle.jl_frames.specs.Nodes.{hang, hang_under, hang_pending, quad_with}

-- what a quad needs beside its object
abbrev pub head_in : Option Term → Text → GraphScope → Head
head_in s p scope = record { subject = s; predicate = p; scope = scope; forward = true }

-- whatever the predicate, no quads make no quads
nothing-linked : (b : Bool) → formed (elim b [ true ↦ [] | false ↦ [] ]) ≡ []
nothing-linked true = refl
nothing-linked false = refl

-- without a name there is no quad
pub no-subject : (p : Text) (scope : GraphScope) (o : Option Term) → formed (link (head_in None p scope) o) ≡ []
unfolding link
no-subject p scope o = nothing-linked (is_iri p)

-- without an object there is no quad
no-object : (s : Option Term) (p : Text) (scope : GraphScope) → formed (link (head_in s p scope) None) ≡ []
unfolding link
no-object None p scope = nothing-linked (is_iri p)
no-object (Some s) p scope = nothing-linked (is_iri p)

-- a quad with a predicate and a subject that may be none
abbrev linked_by : Bool → Bool → List Parts → List Parts
linked_by i s q = elim i [ true ↦ elim s [ true ↦ q | false ↦ [] ] | false ↦ [] ]

-- the tests of the predicate and of the subject leave out no quad that is well-formed
by-tests : (n i s r : Bool) (q : Parts) → is_formed q ≡ (n && (i && r)) → (n ≡ true → s ≡ true) → formed (linked_by i s (q ∷ [])) ≡ formed (q ∷ [])
by-tests true true true r q e h = refl
by-tests true true false r q e h = absurd (let no = h refl in cc)
by-tests true false s r q e h = sym (rw e refl)
by-tests false true true r q e h = refl
by-tests false true false r q e h = sym (rw e refl)
by-tests false false s r q e h = sym (rw e refl)

-- a well-formed node may be a subject
node-subject : (t : Term) → is_node t ≡ true → is_subject t ≡ true
node-subject (Iri iri) e = refl
node-subject (Blank label) e = refl
node-subject (Literal lit) e = absurd cc

-- a quad is as well-formed as its parts
whole : (s : Term) (p : Text) (o : Term) (g : Option Term) → formed (linked_by (is_iri p) (is_subject s) (parts_of s p o g ∷ [])) ≡ formed (parts_of s p o g ∷ [])
unfolding is_formed
whole s p o g = by-tests (is_node s) (is_iri p) (is_subject s) (is_object o && is_graph g) (parts_of s p o g) refl (node-subject s)

-- nothing, tested, is nothing
left-out : (i s : Bool) → formed (linked_by i s []) ≡ []
left-out true true = refl
left-out true false = refl
left-out false s = refl

-- what a graph makes of a quad
abbrev pub scoped : GraphScope → Term → Text → Term → List Parts
scoped scope s p o = formed (quad_in scope s p o)

-- what a name, a predicate and an object make in a graph
linked_in : (s : Term) (p : Text) (scope : GraphScope) (o : Term) → formed (link (head_in (Some s) p scope) (Some o)) ≡ scoped scope s p o
unfolding link
linked_in s p LeftOut o = left-out (is_iri p) (is_subject s)
linked_in s p Main o = whole s p o None
linked_in s p (Named g) o = whole s p o (Some g)

-- a node whose name isn't well-formed says nothing
pub hang_nobody : (n : Node) (p : Text) (o : Option Term) → n.subject ≡ None → [] ≡ hang n p o
unfolding hang
hang_nobody n p o e = sym (ap (λ s. formed (link (head_in s p n.scope) o)) e ∙ no-subject p n.scope o)

-- where the graph's name isn't well-formed there is no quad
nothing-in : (s : Option Term) (p : Text) (o : Option Term) → formed (link (head_in s p LeftOut) o) ≡ []
nothing-in None p o = no-subject p LeftOut o
nothing-in (Some s) p None = no-object (Some s) p LeftOut
nothing-in (Some s) p (Some o) = linked_in s p LeftOut o

-- nor does one in a graph whose name isn't well-formed
pub hang_left_out : (n : Node) (p : Text) (o : Option Term) → n.scope ≡ LeftOut → [] ≡ hang n p o
unfolding hang
hang_left_out n p o e = sym (ap (λ g. formed (link (head_in n.subject p g) o)) e ∙ nothing-in n.subject p o)

-- what a node says, with its name and its graph at hand
hang-in : (n : Node) (p : Text) (o : Option Term) (s : Term) (g : GraphScope) → n.subject ≡ Some s → n.scope ≡ g → formed (link (head_in (Some s) p g) o) ≡ hang n p o
unfolding hang
hang-in n p o s g e f = sym (ap (λ x. formed (link (head_in x p n.scope) o)) e ∙ ap (λ x. formed (link (head_in (Some s) p x) o)) f)

-- the quad of the default graph, with an object or without
main-quad : (s : Term) (p : Text) (o : Option Term) → quad_with s p o None ≡ formed (link (head_in (Some s) p Main) o)
main-quad s p None = sym (no-object (Some s) p Main)
main-quad s p (Some o) = sym (linked_in s p Main o)

-- the quad of a named graph, with an object or without
named-quad : (s : Term) (p : Text) (o : Option Term) (g : Term) → quad_with s p o (Some g) ≡ formed (link (head_in (Some s) p (Named g)) o)
named-quad s p None g = sym (no-object (Some s) p (Named g))
named-quad s p (Some o) g = sym (linked_in s p (Named g) o)

-- in the default graph a node says the quad of its name
pub hang_main : (n : Node) (p : Text) (o : Option Term) (s : Term) → n.subject ≡ Some s → n.scope ≡ Main → quad_with s p o None ≡ hang n p o
hang_main n p o s e f = main-quad s p o ∙ hang-in n p o s Main e f

-- and in a named graph the quad of its name there
pub hang_named : (n : Node) (p : Text) (o : Option Term) (s g : Term) → n.subject ≡ Some s → n.scope ≡ Named g → quad_with s p o (Some g) ≡ hang n p o
hang_named n p o s g e f = named-quad s p o g ∙ hang-in n p o s (Named g) e f

-- the same of a literal
pub literal_main : (n : Node) (p : Text) (lit : Lit) (s : Term) → n.subject ≡ Some s → n.scope ≡ Main → formed (parts_of s p (Literal lit) None ∷ []) ≡ hang n p (Some (Literal lit))
literal_main n p lit s e f = hang_main n p (Some (Literal lit)) s e f

pub literal_named : (n : Node) (p : Text) (lit : Lit) (s g : Term) → n.subject ≡ Some s → n.scope ≡ Named g → formed (parts_of s p (Literal lit) (Some g) ∷ []) ≡ hang n p (Some (Literal lit))
literal_named n p lit s g e f = hang_named n p (Some (Literal lit)) s g e f

-- a literal that isn't well-formed is left out either way
not-lit : (u d l : Bool) → (d && u) ≡ false → (u && (d && l)) ≡ false
not-lit true true l e = absurd cc
not-lit true false l e = refl
not-lit false d l e = refl

-- a quad whose object isn't well-formed is left out
object-out : (n i o g : Bool) → o ≡ false → (n && (i && (o && g))) ≡ false
object-out true true true g e = absurd cc
object-out true true false g e = refl
object-out true false o g e = refl
object-out false i o g e = refl

-- so is one whose literal isn't
literal-out : (s : Term) (p : Text) (scope : GraphScope) (lit : Lit) → (is_iri lit.datatype && is_utf8 lit.text) ≡ false → scoped scope s p (Literal lit) ≡ []
unfolding is_formed
literal-out s p LeftOut lit e = refl
literal-out s p Main lit e = rw (object-out (is_node s) (is_iri p) (is_lit lit) true (not-lit (is_utf8 lit.text) (is_iri lit.datatype) (is_language lit.datatype lit.language) e)) refl
literal-out s p (Named g) lit e = rw (object-out (is_node s) (is_iri p) (is_lit lit) (is_node g) (not-lit (is_utf8 lit.text) (is_iri lit.datatype) (is_language lit.datatype lit.language) e)) refl

-- a literal makes the quads that its term makes
literal-linked : (s : Option Term) (p : Text) (scope : GraphScope) (lit : Lit) → formed (link (head_in s p scope) (Some (Literal lit))) ≡ formed (link (head_in s p scope) (term_of_literal lit))
literal-linked None p scope lit = no-subject p scope (Some (Literal lit)) ∙ sym (no-subject p scope (term_of_literal lit))
literal-linked (Some s) p scope lit = elim (cases_Bool (is_iri lit.datatype && is_utf8 lit.text)) [
  | inl e ↦ ap (λ b. formed (link (head_in (Some s) p scope) (elim b [ true ↦ Some (Literal lit) | false ↦ None ]))) (sym e)
  | inr e ↦
      linked_in s p scope (Literal lit) ∙ literal-out s p scope lit e
      ∙ sym (ap (λ b. formed (link (head_in (Some s) p scope) (elim b [ true ↦ Some (Literal lit) | false ↦ None ]))) e ∙ no-object (Some s) p scope)
]

-- nothing hangs on a key without an object
under-none : (w : Pending) (n : Node) → [] ≡ hang_under w n None
unfolding hang
under-none (pending.Property p) n = sym (no-object n.subject p n.scope)
under-none w n = refl

-- the same, of the key that is open
pub pending_none : (n : Node) (o : Option Term) → None ≡ o → [] ≡ hang_pending n o
pending_none n o e = subst (λ x. [] ≡ hang_pending n x) e (under-none n.pending n)

-- the same, of any predicate
pub hang_none : (n : Node) (p : Text) (o : Option Term) → None ≡ o → [] ≡ hang n p o
unfolding hang
hang_none n p o e = subst (λ x. [] ≡ hang n p x) e (sym (no-object n.subject p n.scope))

-- a literal hangs on a key as its term does
under-literal : (w : Pending) (n : Node) (lit : Lit) → hang_under w n (Some (Literal lit)) ≡ hang_under w n (term_of_literal lit)
unfolding hang
under-literal (pending.Property p) n lit = literal-linked n.subject p n.scope lit
under-literal w n lit = refl

-- the same, of the key that is open
pub pending_literal : (n : Node) (lit : Lit) → hang_pending n (Some (Literal lit)) ≡ hang_pending n (term_of_literal lit)
pending_literal n lit = under-literal n.pending n lit

-- what gives nothing hangs on nothing
hang-on-none : (outer : Option Node) → [] ≡ hang_on outer None
hang-on-none None = refl
hang-on-none (Some n) = under-none n.pending n

-- where no object is open, nothing hangs on the one round it
pub hang_on_none : (outer inner : Option Node) → inner ≡ None → [] ≡ hang_on outer (subject_of inner)
hang_on_none outer inner e = subst (λ x. [] ≡ hang_on outer (subject_of x)) (sym e) (hang-on-none outer)
