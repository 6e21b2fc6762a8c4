-- The value of the type `Json` as a tree, and of its lists as lists.
use Rattle.std.specs.Prelude.{ℕ, List, [], ◌∷◌, map}
use Rattle.jl_model.specs.declared.trees.Json.{Json}
use Rattle.jl_model.specs.declared.trees.Member.{Member}
use Rattle.jl_model.specs.declared.trees.Items.{Items, out-Items}
use Rattle.jl_model.specs.declared.trees.Members as rust
use Rattle.jl_model.specs.declared.trees.Members.{out-Members}
use Rattle.jl_model.specs.declared.trees.Node.TheFolds.{fold-Json, fold-Member}
use Rattle.jl_model.specs.declared.trees.Node.TheOpen.{Node-F, Json-F, Member-F, Items-F, Members-F}
use Rattle.jl_model.specs.JsonTree.{Tree, Trees, Members}
use Rattle.jl_model.specs.JsonTree.Tree.{scalar, array, object}
use Rattle.jl_model.specs.JsonTree.Trees.{no_item, item}
use Rattle.jl_model.specs.JsonTree.Members.{no_member, member}

-- the items of a list of items, and the members of a list of members
abbrev pub items_of : Items → List Json
items_of items = (out-Items items).list

abbrev pub members_of : rust.Members → List Member
members_of members = (out-Members members).list

-- a member whose value is seen as a tree
pub record Named : Type 0 where
  pub at : ℕ
  pub name : List ℕ
  pub value : Tree

abbrev pub all_items : List Tree → Trees
all_items [] = no_item
all_items (t ∷ ts) = item t (all_items ts)

abbrev pub all_members : List Named → Members
all_members [] = no_member
all_members (m ∷ ms) = member m.at m.name m.value (all_members ms)

-- one level of each type, where what it holds is seen already; a node gets its place from outside
abbrev pub node_step : Node-F (ℕ → Tree) Trees Tree Named Members → ℕ → Tree
node_step (Node-F.Scalar s) at = scalar at s
node_step (Node-F.Array items) at = array at items
node_step (Node-F.Object members) at = object at members

abbrev pub items_step : Items-F (ℕ → Tree) Trees Tree Named Members → Trees
items_step items = all_items items.list

abbrev pub json_step : Json-F (ℕ → Tree) Trees Tree Named Members → Tree
json_step json = json.node json.at

abbrev pub member_step : Member-F (ℕ → Tree) Trees Tree Named Members → Named
member_step m = record { at = m.at; name = m.name; value = m.value }

abbrev pub members_step : Members-F (ℕ → Tree) Trees Tree Named Members → Members
members_step members = all_members members.list

-- a value as a tree
abbrev pub tree_of : Json → Tree
tree_of = fold-Json (ℕ → Tree) Trees Tree Named Members node_step items_step json_step member_step members_step

abbrev pub named_of : Member → Named
named_of = fold-Member (ℕ → Tree) Trees Tree Named Members node_step items_step json_step member_step members_step

-- lists of values and of members as those of trees
abbrev pub trees : List Json → Trees
trees values = all_items (map tree_of values)

abbrev pub members : List Member → Members
members list = all_members (map named_of list)
