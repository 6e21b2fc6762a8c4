-- The quads of a list whose items come one after another (JSON-LD 1.1 API, section 8.3).
use Rattle.std.specs.Prelude.{◌≡◌, ◌↔◌, ℕ, true, List, [], ◌∷◌, ◌++◌, Option, Some, None, IsSome, IfSome}
use Rattle.jl_model.specs.Parts.{Parts, AreWellFormed}
use Rattle.jl_model.specs.declared.terms.Term.{Term}
use Rattle.jl_model.specs.declared.graph_scopes.GraphScope.{GraphScope}
use Rattle.jl_model.specs.declared.graph_scopes.GraphScope.TheVariants.{LeftOut, Main, Named}
use Rattle.jl_defs.specs.Texts.{Text, is_iri}
use Rattle.jl_defs.specs.Items.{Item, value_at, list_at, node_at, Items, more, item_place}
use Rattle.jl_defs.specs.Dataset as spec
use Rattle.jl_defs.specs.Dataset.{link, cell_at, cell_head, item_quads, list_quads, term_of, rdf_first, rdf_rest}
use Rattle.jl_links.specs.declared.links.Head.{Head}
use Rattle.jl_links.specs.declared.states.Hanging.{Hanging}
use Rattle.jl_links.specs.declared.states.Hanging.TheVariants as hanging
use Rattle.jl_links.specs.declared.states.LinkState.{LinkState}

-- a quad that is said is written where its parts are well-formed (section 8.1), and else left out
abbrev pub IsWritten : Option Parts → List Parts → Type 0
IsWritten quad [] = quad ≡ None
IsWritten quad (q ∷ qs) = (IsSome quad ↔ AreWellFormed q) × IfSome quad (λ made. made ≡ q)

-- a predicate that isn't there is no IRI
abbrev pub predicate_of : Option Text → Text
predicate_of None = []
predicate_of (Some predicate) = predicate

-- the head of a list, as the definitions have it
abbrev pub head_meant : Head → spec.Head
head_meant h = record { subject = h.subject; predicate = predicate_of h.predicate; scope = h.scope; forward = true }

-- quads of this scope are written
abbrev pub IsIn : GraphScope → Type 0
IsIn LeftOut = ⊥
IsIn Main = Unit {0}
IsIn (Named g) = Unit {0}

-- the rule of form: where cells are written, the predicate is an IRI and the graph isn't left out
abbrev pub IsFormedAt : Hanging → GraphScope → Type 0
IsFormedAt hanging.Nowhere scope = Unit {0}
IsFormedAt (hanging.Head s p) scope = (is_iri p ≡ true) × IsIn scope
IsFormedAt (hanging.Cell at) scope = IsIn scope

abbrev pub IsFormed : LinkState → Type 0
IsFormed s = IsFormedAt s.hanging s.scope

-- the head of this subject, predicate and graph
abbrev pub head : Term → Text → GraphScope → spec.Head
head s p scope = record { subject = Some s; predicate = p; scope = scope; forward = true }

-- where the next cell hangs, if cells are written
abbrev pub hangs_by : Hanging → GraphScope → Option spec.Head
hangs_by hanging.Nowhere scope = None
hangs_by (hanging.Head s p) scope = Some (head s p scope)
hangs_by (hanging.Cell at) scope = Some (cell_head scope at rdf_rest)

abbrev pub hangs : LinkState → Option spec.Head
hangs s = hangs_by s.hanging s.scope

-- a head's quad with this object
abbrev pub links : spec.Head → Term → List Parts
links h o = link h (Some o)

-- what is said where cells are written
abbrev pub by_head : Option spec.Head → (spec.Head → List Parts) → List Parts
by_head None says = []
by_head (Some h) says = says h

-- what the list says from here on, where these are the items still to come
abbrev pub still_says : LinkState → Items → List Parts
still_says s xs = by_head (hangs s) (λ h. list_quads h xs)

-- the quad of this object where the next cell hangs
abbrev pub link_says : LinkState → Term → List Parts
link_says s o = by_head (hangs s) (λ h. link h (Some o))

-- the link of the cell of an item at this place
abbrev pub cell_says : LinkState → ℕ → List Parts
cell_says s at = link_says s (cell_at at)

-- the quad of an item with this term, on its cell
abbrev pub term_says : LinkState → ℕ → Option Term → List Parts
term_says s at term = by_head (hangs s) (λ h. link (cell_head h.scope at rdf_first) term)

-- all that an item says on its cell: of a list, its cells
abbrev pub item_says : LinkState → Item → List Parts
item_says s x = by_head (hangs s) (λ h. item_quads (cell_head h.scope (item_place x) rdf_first) x)

-- behind an item at this place: what was to be said with it is the link of its cell, what it says there, and what is still to be said
abbrev pub GoesOn : LinkState → ℕ → LinkState → Type 0
GoesOn old at new = (x : Item) (xs : Items) → item_place x ≡ at → still_says old (more x xs) ≡ cell_says old at ++ (item_says old x ++ still_says new xs)

-- cells that hang here say what the definition says of a list on this head
abbrev pub SaysListAt : Hanging → GraphScope → spec.Head → Type 0
SaysListAt g scope head = (at : ℕ) (xs : Items) → by_head (hangs_by g scope) (λ h. list_quads h xs) ≡ item_quads head (list_at at xs)

-- whatever its items, the list says what the definition says of it on this head
abbrev pub SaysList : LinkState → spec.Head → Type 0
SaysList s head = (at : ℕ) (xs : Items) → still_says s xs ≡ item_quads head (list_at at xs)

-- a value or a node
abbrev pub IsLeaf : Item → Type 0
IsLeaf (value_at at valued) = Unit {0}
IsLeaf (list_at at xs) = ⊥
IsLeaf (node_at at naming entries) = Unit {0}

-- what a value or a node says on its cell is the quad of its term
abbrev pub LeavesSay : Type 0
LeavesSay = (s : LinkState) (x : Item) → IsLeaf x → item_says s x ≡ term_says s (item_place x) (term_of x)
