-- Rows of words, list files and the lines that are said at the end.
use Rattle.std.specs.Prelude.{◌≡◌, true, false, [], ◌∷◌, Some, None, Ok, Err, codes, refl}
use Rattle.std.specs.Str.{is_utf8, chars}
use Rattle.std.specs.Fmt.{digits}
use lib.Utf8.{encode}
use Rattle.jl_model.specs.declared.orders.Order.TheVariants.{Any, Streaming}
use Rattle.jl_model.specs.declared.codes.Code.TheVariants as code
use Rattle.jl_defs.specs.Numbers.{magnitude}
use Rattle.jl_defs.specs.Words.{reads, writes, generates, tries_itself, options, command}
use Rattle.jl_defs.specs.ListFile.{list_lines, listed}
use Rattle.jl_defs.specs.ReportLine.{report}

-- read --order no
row_1 : command ((codes "read") ∷ (codes "--order") ∷ (codes "no") ∷ []) ≡ None
unfolding command options is_utf8 chars encode
row_1 = refl

-- read --limit=0
row_2 : command ((codes "read") ∷ (codes "--limit=0") ∷ []) ≡ None
unfolding command options is_utf8 chars encode
row_2 = refl

-- read --order any --order any
row_3 : command ((codes "read") ∷ (codes "--order") ∷ (codes "any") ∷ (codes "--order") ∷ (codes "any") ∷ []) ≡ None
unfolding command options is_utf8 chars encode
row_3 = refl

-- write x
row_4 : command ((codes "write") ∷ (codes "x") ∷ []) ≡ None
unfolding command options is_utf8 chars encode
row_4 = refl

-- read --base (empty)
row_5 : command ((codes "read") ∷ (codes "--base") ∷ [] ∷ []) ≡ None
unfolding command options is_utf8 chars encode
row_5 = refl

-- read --base -x
row_6 : command ((codes "read") ∷ (codes "--base") ∷ (codes "-x") ∷ []) ≡ None
unfolding command options is_utf8 chars encode
row_6 = refl

-- read --
row_7 : command ((codes "read") ∷ (codes "--") ∷ []) ≡ None
unfolding command options is_utf8 chars encode
row_7 = refl

-- read -o any
row_8 : command ((codes "read") ∷ (codes "-o") ∷ (codes "any") ∷ []) ≡ None
unfolding command options is_utf8 chars encode
row_8 = refl

-- read --help
row_9 : command ((codes "read") ∷ (codes "--help") ∷ []) ≡ None
unfolding command options is_utf8 chars encode
row_9 = refl

-- --help
row_10 : command ((codes "--help") ∷ []) ≡ None
unfolding command options is_utf8 chars encode
row_10 = refl

-- -h
row_11 : command ((codes "-h") ∷ []) ≡ None
unfolding command options is_utf8 chars encode
row_11 = refl

-- read --limit 01
row_12 : command ((codes "read") ∷ (codes "--limit") ∷ (codes "01") ∷ []) ≡ None
unfolding command options is_utf8 chars encode
row_12 = refl

-- read --stats=1
row_13 : command ((codes "read") ∷ (codes "--stats=1") ∷ []) ≡ None
unfolding command options is_utf8 chars encode
row_13 = refl

-- read --limit +1
row_14 : command ((codes "read") ∷ (codes "--limit") ∷ (codes "+1") ∷ []) ≡ None
unfolding command options is_utf8 chars encode
row_14 = refl

-- gen 1000001
row_15 : command ((codes "gen") ∷ (codes "1000001") ∷ []) ≡ None
unfolding command options is_utf8 chars encode
row_15 = refl

-- read --ord any
row_16 : command ((codes "read") ∷ (codes "--ord") ∷ (codes "any") ∷ []) ≡ None
unfolding command options is_utf8 chars encode
row_16 = refl

-- read --stats --stats
row_17 : command ((codes "read") ∷ (codes "--stats") ∷ (codes "--stats") ∷ []) ≡ None
unfolding command options is_utf8 chars encode
row_17 = refl

-- help
row_18 : command ((codes "help") ∷ []) ≡ None
unfolding command options is_utf8 chars encode
row_18 = refl

-- --version
row_19 : command ((codes "--version") ∷ []) ≡ None
unfolding command options is_utf8 chars encode
row_19 = refl

-- read --contexts=
row_20 : command ((codes "read") ∷ (codes "--contexts=") ∷ []) ≡ None
unfolding command options is_utf8 chars encode
row_20 = refl

-- read --base=no-iri
row_21 : command ((codes "read") ∷ (codes "--base=no-iri") ∷ []) ≡ None
unfolding command options is_utf8 chars encode
row_21 = refl

-- gen
row_22 : command ((codes "gen") ∷ []) ≡ None
unfolding command options is_utf8 chars encode
row_22 = refl

-- gen 1 2
row_23 : command ((codes "gen") ∷ (codes "1") ∷ (codes "2") ∷ []) ≡ None
unfolding command options is_utf8 chars encode
row_23 = refl

-- read x
row_24 : command ((codes "read") ∷ (codes "x") ∷ []) ≡ None
unfolding command options is_utf8 chars encode
row_24 = refl

-- read --limit 1099511627777
row_25 : command ((codes "read") ∷ (codes "--limit") ∷ (codes "1099511627777") ∷ []) ≡ None
unfolding command options is_utf8 chars encode
row_25 = refl

-- gen -1
row_26 : command ((codes "gen") ∷ (codes "-1") ∷ []) ≡ None
unfolding command options is_utf8 chars encode
row_26 = refl

-- self 1 2
row_27 : command ((codes "self") ∷ (codes "1") ∷ (codes "2") ∷ []) ≡ None
unfolding command options is_utf8 chars encode
row_27 = refl

row_28 : command [] ≡ None
unfolding command options is_utf8 chars encode
row_28 = refl

-- reads
row_29 : command ((codes "reads") ∷ []) ≡ None
unfolding command options is_utf8 chars encode
row_29 = refl

-- read --base
row_30 : command ((codes "read") ∷ (codes "--base") ∷ []) ≡ None
unfolding command options is_utf8 chars encode
row_30 = refl

-- read --base --stats
row_31 : command ((codes "read") ∷ (codes "--base") ∷ (codes "--stats") ∷ []) ≡ None
unfolding command options is_utf8 chars encode
row_31 = refl

-- read --order=any --order any
row_32 : command ((codes "read") ∷ (codes "--order=any") ∷ (codes "--order") ∷ (codes "any") ∷ []) ≡ None
unfolding command options is_utf8 chars encode
row_32 = refl

-- read
row_33 : command ((codes "read") ∷ []) ≡ Some (reads (record { order = Any; base = None; contexts = None; limit = 268435456; only_graph = None; only_predicate = None; stats = false }))
unfolding command options is_utf8 chars encode magnitude
row_33 = refl

-- read --order streaming
row_34 : command ((codes "read") ∷ (codes "--order") ∷ (codes "streaming") ∷ []) ≡ Some (reads (record { order = Streaming; base = None; contexts = None; limit = 268435456; only_graph = None; only_predicate = None; stats = false }))
unfolding command options is_utf8 chars encode magnitude
row_34 = refl

-- read --order=any --stats --limit=4096
row_35 : command ((codes "read") ∷ (codes "--order=any") ∷ (codes "--stats") ∷ (codes "--limit=4096") ∷ []) ≡ Some (reads (record { order = Any; base = None; contexts = None; limit = 4096; only_graph = None; only_predicate = None; stats = true }))
unfolding command options is_utf8 chars encode magnitude
row_35 = refl

-- read --base http://a/b --contexts=-x --order=streaming
row_36 : command ((codes "read") ∷ (codes "--base") ∷ (codes "http://a/b") ∷ (codes "--contexts=-x") ∷ (codes "--order=streaming") ∷ []) ≡ Some (reads (record { order = Streaming; base = (Some (codes "http://a/b")); contexts = (Some (codes "-x")); limit = 268435456; only_graph = None; only_predicate = None; stats = false }))
unfolding command options is_utf8 chars encode magnitude
row_36 = refl

-- read --only-graph http://a/g --only-predicate=http://a/p
row_37 : command ((codes "read") ∷ (codes "--only-graph") ∷ (codes "http://a/g") ∷ (codes "--only-predicate=http://a/p") ∷ []) ≡ Some (reads (record { order = Any; base = None; contexts = None; limit = 268435456; only_graph = (Some (codes "http://a/g")); only_predicate = (Some (codes "http://a/p")); stats = false }))
unfolding command options is_utf8 chars encode magnitude
row_37 = refl

-- write
row_38 : command ((codes "write") ∷ []) ≡ Some writes
unfolding command options is_utf8 chars encode magnitude
row_38 = refl

-- gen 0
row_39 : command ((codes "gen") ∷ (codes "0") ∷ []) ≡ Some (generates 0)
unfolding command options is_utf8 chars encode magnitude
row_39 = refl

-- self 1000000
row_40 : command ((codes "self") ∷ (codes "1000000") ∷ []) ≡ Some (tries_itself 1000000)
unfolding command options is_utf8 chars encode magnitude
row_40 = refl

-- one line
row_41 : listed (codes "https://schema.org/ s.json\n") ≡ Ok (record { name = (codes "https://schema.org/"); path = (codes "s.json") } ∷ [])
unfolding listed list_lines is_utf8 chars encode
row_41 = refl

-- empty lines, a path with a space, no last line feed
row_42 : listed (codes "\na:b x y\n\nc:d z") ≡ Ok (record { name = (codes "a:b"); path = (codes "x y") } ∷ record { name = (codes "c:d"); path = (codes "z") } ∷ [])
unfolding listed list_lines is_utf8 chars encode
row_42 = refl

-- no IRI
row_43 : listed (codes "no-iri x") ≡ Err 0
unfolding listed list_lines is_utf8 chars encode
row_43 = refl

-- the same IRI twice
row_44 : listed (codes "a:b x\na:b y\n") ≡ Err 6
unfolding listed list_lines is_utf8 chars encode
row_44 = refl

-- an empty path
row_45 : listed (codes "a:b x\n\nc:d \n") ≡ Err 7
unfolding listed list_lines is_utf8 chars encode
row_45 = refl

-- an empty list
row_46 : listed ([]) ≡ Ok []
unfolding listed list_lines is_utf8 chars encode
row_46 = refl

-- status 0
row_47 : report (Some (reads (record { order = Any; base = None; contexts = None; limit = 268435456; only_graph = None; only_predicate = None; stats = false }))) (record { status = 0; code = None; at = 0; quads = 0; peak = 0; weight = 0; limit = 0 }) ≡ []
unfolding report digits
row_47 = refl

-- status 0 with --stats
row_48 : report (Some (reads (record { order = Any; base = None; contexts = None; limit = 268435456; only_graph = None; only_predicate = None; stats = true }))) (record { status = 0; code = None; at = 0; quads = 1; peak = 300; weight = 0; limit = 0 }) ≡ codes "jl: quads 1 peak 300\n"
unfolding report digits
row_48 = refl

-- status 1
row_49 : report (Some (reads (record { order = Any; base = None; contexts = None; limit = 268435456; only_graph = None; only_predicate = None; stats = false }))) (record { status = 1; code = (Some code.LateContext); at = 9; quads = 0; peak = 0; weight = 0; limit = 0 }) ≡ codes "jl: late context at 9\n"
unfolding report digits
row_49 = refl

-- status 2 without a command
row_50 : report None (record { status = 2; code = None; at = 0; quads = 0; peak = 0; weight = 0; limit = 0 }) ≡ codes "jl: bad words\n"
unfolding report digits
row_50 = refl

-- status 2 with a bad list
row_51 : report (Some (reads (record { order = Any; base = None; contexts = None; limit = 268435456; only_graph = None; only_predicate = None; stats = false }))) (record { status = 2; code = None; at = 7; quads = 0; peak = 0; weight = 0; limit = 0 }) ≡ codes "jl: bad contexts list at 7\n"
unfolding report digits
row_51 = refl

-- status 3
row_52 : report (Some (reads (record { order = Any; base = None; contexts = None; limit = 268435456; only_graph = None; only_predicate = None; stats = false }))) (record { status = 3; code = None; at = 0; quads = 0; peak = 0; weight = 0; limit = 0 }) ≡ codes "jl: reading failed\n"
unfolding report digits
row_52 = refl

-- status 4
row_53 : report (Some (reads (record { order = Any; base = None; contexts = None; limit = 268435456; only_graph = None; only_predicate = None; stats = false }))) (record { status = 4; code = None; at = 0; quads = 0; peak = 0; weight = 0; limit = 0 }) ≡ codes "jl: writing failed\n"
unfolding report digits
row_53 = refl

-- status 5
row_54 : report (Some (reads (record { order = Any; base = None; contexts = None; limit = 268435456; only_graph = None; only_predicate = None; stats = false }))) (record { status = 5; code = None; at = 0; quads = 0; peak = 0; weight = 0; limit = 0 }) ≡ codes "jl: no memory\n"
unfolding report digits
row_54 = refl

-- status 7
row_55 : report (Some (reads (record { order = Any; base = None; contexts = None; limit = 268435456; only_graph = None; only_predicate = None; stats = false }))) (record { status = 7; code = None; at = 0; quads = 0; peak = 0; weight = 0; limit = 0 }) ≡ codes "jl: contexts failed\n"
unfolding report digits
row_55 = refl

-- status 8
row_56 : report (Some (reads (record { order = Any; base = None; contexts = None; limit = 268435456; only_graph = None; only_predicate = None; stats = false }))) (record { status = 8; code = None; at = 0; quads = 0; peak = 0; weight = 0; limit = 0 }) ≡ codes "jl: too long\n"
unfolding report digits
row_56 = refl

-- status 6
row_57 : report (Some (reads (record { order = Any; base = None; contexts = None; limit = 268435456; only_graph = None; only_predicate = None; stats = false }))) (record { status = 6; code = None; at = 0; quads = 0; peak = 0; weight = 4100; limit = 4096 }) ≡ codes "jl: over limit, 4100 of 4096\n"
unfolding report digits
row_57 = refl
