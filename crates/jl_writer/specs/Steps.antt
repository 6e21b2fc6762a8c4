-- What a quad ends of the text that is open, and what it begins.
use Rattle.std.specs.Prelude.{◌≡◌, ◌++◌, codes, Bool, bytes_eq, true, false, Option, Some, None}
use Rattle.jl_model.specs.Parts.{Parts, xsd_string}
use Rattle.jl_model.specs.declared.terms.Term.{Term}
use Rattle.jl_defs.specs.Canon.{string_text}
use Rattle.jl_defs.specs.Texts.{Text}
use Rattle.jl_defs.specs.WriterText.{OpenNode, Next, same_predicate, new_predicate, new_node, new_item, node_name, value_text, member_text, node_text, item_text, node_end, item_end, between_nodes, next_of, added, begins_node, opened}
use Rattle.jl_writer.specs.declared.next.Step.{Step}
use Rattle.jl_writer.specs.declared.next.Step.TheVariants.{Value, Member, Node, Item}

-- the word of the definition
abbrev pub next_word : Step → Next
next_word Value = same_predicate
next_word Member = new_predicate
next_word Node = new_node
next_word Item = new_item

-- what a quad ends in the node that is open, and what stands between
abbrev pub ended : Option Term → Step → Text
ended graph Value = codes ","
ended graph Member = codes "],"
ended graph Node = node_end ++ between_nodes graph
ended graph Item = node_end ++ item_end graph ++ codes ",\n"

-- a predicate with its first value
abbrev pub member_of : Text → Term → Text
member_of predicate object = string_text predicate ++ codes ":[" ++ value_text object

-- a node with its first member
abbrev pub node_of : Term → Text → Term → Text
node_of subject predicate object = codes "{\"@id\":" ++ string_text (node_name subject) ++ codes "," ++ member_of predicate object

-- a graph with its first node
abbrev pub graph_of : Term → Text → Text
graph_of graph node = codes "{\"@id\":" ++ string_text (node_name graph) ++ codes ",\"@graph\":[" ++ node

-- what a quad begins
abbrev pub begun : Parts → Step → Text
begun q Value = value_text q.object
begun q Member = member_text q
begun q Node = node_text q
begun q Item = item_text q

-- a string, with its datatype unless it is plain
abbrev pub typed_unless : Bool → Text → Text → Text
typed_unless true datatype string = string
typed_unless false datatype string = codes "{\"@type\":" ++ string_text datatype ++ codes ",\"@value\":" ++ string ++ codes "}"

-- a literal without a language, by the JSON string of its text
abbrev pub untagged_value : Text → Text → Text
untagged_value datatype string = typed_unless (bytes_eq datatype xsd_string) datatype string

-- a literal with a language, by the JSON string of its text
abbrev pub tagged_value : Text → Text → Text
tagged_value tag string = codes "{\"@language\":" ++ string_text tag ++ codes ",\"@value\":" ++ string ++ codes "}"

-- what a quad adds to the text behind the node that is open, if there is one
abbrev pub added_text : Option OpenNode → Parts → Text
added_text None q = codes "[" ++ item_text q
added_text (Some n) q = added n q (next_of n q)

-- the node that is then open
abbrev pub node_after : Option OpenNode → Parts → OpenNode
node_after None q = begins_node q
node_after (Some n) q = opened n q (next_of n q)

-- what a quad begins behind the node that is open, if there is one
abbrev pub IsStep : Option OpenNode → Parts → Step → Type 0
IsStep None q step = step ≡ Item
IsStep (Some n) q step = next_word step ≡ next_of n q

-- what stands before that
abbrev pub end_before : Option OpenNode → Step → Text
end_before None step = codes "["
end_before (Some n) step = ended n.graph step

-- what closes the text behind the node that is open, if there is one
abbrev pub closing : Option OpenNode → Text
closing None = codes "[]\n"
closing (Some n) = node_end ++ item_end n.graph ++ codes "]\n"
