-- Words for rows: what the definitions say of a document, computed.
use Rattle.std.specs.Prelude.{ℕ, Bool, false, ◌&&◌, ◌||◌, ◌==◌, List, [], ◌∷◌, filter, map, Option, Some, None}
use Rattle.std.specs.List.{list_all}
use Rattle.std.specs.Str.{is_utf8, chars}
use Rattle.std.specs.Fmt.{digits}
use lib.Utf8.{encode}
use Rattle.jl_model.specs.JsonTree.{Tree}
use Rattle.jl_model.specs.Lines.{line}
use Rattle.jl_model.specs.Codes.{code_number}
use Rattle.jl_model.specs.Resolve.{resolve, remove_dot_segments}
use Rattle.jl_model.specs.Ren.{ren}
use Rattle.jl_model.specs.declared.faults.Fault.{Fault}
use Rattle.jl_model.specs.declared.orders.Order.{Order}
use Rattle.jl_model.specs.declared.orders.Order.TheVariants.{Any, Streaming}
use Rattle.jl_defs.specs.Texts.{Text, is_among, is_keyword}
use Rattle.jl_defs.specs.IriExpansion.{expand_iri}
use Rattle.jl_defs.specs.TermEntry.{containers_of, read_entry}
use Rattle.jl_defs.specs.Definitions.{same_tree, same_definition}
use Rattle.jl_defs.specs.Define.{define, define_all}
use Rattle.jl_defs.specs.Process.{Handed, Library, whole_change, remotes, process}
use Rattle.jl_defs.specs.Settings.{Settings}
use Rattle.jl_defs.specs.Keys.{key_of}
use Rattle.jl_defs.specs.ObjectContexts.{final_context, decide}
use Rattle.jl_defs.specs.Numbers.{magnitude}
use Rattle.jl_defs.specs.Canon.{string_text, canon, json_faults}
use Rattle.jl_defs.specs.Values.{literal_of, value_of}
use Rattle.jl_defs.specs.Kept.{keeps}
use Rattle.jl_defs.specs.Expansion.{expand}
use Rattle.jl_defs.specs.NodeMap.{term_of_text, node_map}
use Rattle.jl_defs.specs.Dataset.{link, item_quads, dataset}
use Rattle.jl_defs.specs.MemberFaults.{closing_faults}
use Rattle.jl_defs.specs.Faults.{judged, value_faults, faults}
use Rattle.jl_defs.specs.OpenTree.{Open}
use Rattle.jl_defs.specs.Words.{ReadWords, selects}
use Rattle.jl_defs.specs.Settled.{decided, settled, decided_by_key, settled_by_key}
use Rattle.jl_defs.specs.Reported.{json_reported, seen_behind, items_read, value_reported, reported}
use Rattle.jl_defs.specs.Due.{value_due, due}
use Rattle.jl_defs.specs.Bound.{token, held_bound, part_bound, bound}

abbrev pub settings : Order → Option Text → Library → Settings
settings order base library = record { order = order; base = base; library = library }

-- a readable file that is handed in
abbrev pub handed : Text → Tree → Handed
handed name content = record { name = name; content = Some content }

-- all of these texts are among those
abbrev pub are_among : List Text → List Text → Bool
are_among xs ys = list_all (is_among ys) xs

abbrev pub same_lines : List Text → List Text → Bool
same_lines xs ys = are_among xs ys && are_among ys xs

-- the fault is among these
abbrev pub is_fault_among : List Fault → Fault → Bool
is_fault_among [] f = false
is_fault_among (g ∷ gs) f = (code_number g.code == code_number f.code && g.at == f.at) || is_fault_among gs f

abbrev pub faults_are_among : List Fault → List Fault → Bool
faults_are_among fs gs = list_all (is_fault_among gs) fs

abbrev pub same_faults : List Fault → List Fault → Bool
same_faults fs gs = faults_are_among fs gs && faults_are_among gs fs

-- the document has no faults, and its dataset has these lines, as a set
unfoldable pub says : Settings → Tree → List Text → Bool
unfolding is_utf8 chars digits encode resolve remove_dot_segments ren is_keyword expand_iri containers_of read_entry same_tree same_definition define define_all whole_change remotes process key_of final_context decide magnitude string_text canon json_faults literal_of value_of keeps expand term_of_text node_map link item_quads dataset closing_faults judged value_faults faults
says s t lines = same_faults (faults s t) [] && same_lines (map line (dataset s t)) lines

-- the same in both orders
unfoldable pub says_in_both : Option Text → Library → Tree → List Text → Bool
unfolding says
says_in_both base library t lines = says (settings Any base library) t lines && says (settings Streaming base library) t lines

-- the document has these faults, as a set
unfoldable pub is_refused : Settings → Tree → List Fault → Bool
unfolding says
is_refused s t fs = same_faults (faults s t) fs

unfoldable pub is_refused_in_both : Option Text → Library → Tree → List Fault → Bool
unfolding is_refused
is_refused_in_both base library t fs = is_refused (settings Any base library) t fs && is_refused (settings Streaming base library) t fs

-- what has been read of a document makes the quads of these lines due, as a set
unfoldable pub is_due : Order → Open → List Text → Bool
unfolding says decided settled decided_by_key settled_by_key json_reported seen_behind items_read value_reported reported value_due due
is_due order o lines = same_lines (map line (due (settings order None []) o)) lines

-- these faults are reported of what has been read of a document, as a set
unfoldable pub reports : Order → Open → List Fault → Bool
unfolding is_due
reports order o fs = same_faults (reported (settings order None []) o) fs

-- the bound where so many bytes have been read
unfoldable pub bound_of : Order → ℕ → Open → ℕ
unfolding is_due token held_bound part_bound bound
bound_of order n o = bound (settings order None []) n o

-- the lines that the words select of the dataset, in both orders
unfoldable pub selects_lines : ReadWords → Tree → List Text → Bool
unfolding says
selects_lines w t lines =
    same_lines (map line (filter (selects w) (dataset (settings Any None []) t))) lines
    && same_lines (map line (filter (selects w) (dataset (settings Streaming None []) t))) lines
