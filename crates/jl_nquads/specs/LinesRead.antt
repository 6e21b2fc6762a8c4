-- A line as it is read, token by token. Only private clauses cite this.
use Rattle.std.specs.Prelude.{◌≡◌, ℕ, ◌+◌, ◌-◌, ◌≤◌, ◌⊎◌, ◌↔◌, Bool, true, false, not, ◌&&◌, ◌||◌, ◌==◌, nat_lt, List, [], ◌∷◌, ◌++◌, length, flat_map, take, drop, Option, Some, None, Result, Ok, Err, if◌then◌else◌, IsTrue, IsFalse}
use Rattle.std.specs.Char.{is_ascii_alphabetic, is_ascii_alphanumeric}
use Rattle.std.specs.List.{list_all}
use Rattle.std.specs.Option.{option_to_list}
use lib.Utf8.{encodes}
use Rattle.jl_model.specs.Iris.{has_iri_form}
use Rattle.jl_model.specs.Parts.{Parts, IsNode, xsd_string}
use Rattle.jl_model.specs.Ren.{ren}
use Rattle.jl_model.specs.Tags.{is_dash, is_language_tag}
use Rattle.jl_model.specs.LineTokens.{Written, spelling, meaning, is_label, goes_on_label, begins_tag}
use Rattle.jl_model.specs.LineTokens as tokens
use Rattle.jl_model.specs.declared.terms.Term.{Term}
use Rattle.jl_model.specs.declared.terms.Term.TheVariants.{Iri, Blank}
use Rattle.jl_nquads.specs.CharactersRead.{close_of, stands_in}
use Rattle.jl_nquads.specs.CodePoints.{HasCode}
use Rattle.jl_nquads.specs.IriFronts.{begins_iri, GoesOnBy}
use Rattle.jl_nquads.specs.Nexts.{next_of, allows}
use Rattle.jl_nquads.specs.Spots.{Spot, has_object, has_dot, has_comment, literal_of, leads_to, not_end, Left, BreaksInside, BreaksAtEnd}
use Rattle.jl_nquads.specs.declared.framed.Frame.{Frame}
use Rattle.jl_nquads.specs.declared.framed.Frame.TheVariants.{Angles, Quotes}
use Rattle.jl_nquads.specs.declared.framed_tokens.FramedToken.{FramedToken}
use Rattle.jl_nquads.specs.declared.halts.BadPlace.{BadPlace}
use Rattle.jl_nquads.specs.declared.halts.LineHalt.{LineHalt}
use Rattle.jl_nquads.specs.declared.halts.LineHalt.TheVariants.{Bad, NoMemory}
use Rattle.jl_nquads.specs.declared.labels.Label.{Label}
use Rattle.jl_nquads.specs.declared.labels.Run.{Run}
use Rattle.jl_nquads.specs.declared.names.TermToken.{TermToken}
use Rattle.jl_nquads.specs.declared.nexts.Next.TheVariants.{Blank as Space, Dot}
use Rattle.jl_nquads.specs.declared.tags.Part.{Part}
use Rattle.jl_nquads.specs.declared.tags.Tag.{Tag}

-- bytes of a line
abbrev pub IsInLine : List ℕ → Type 0
IsInLine text = IsTrue (list_all not_end text)

-- the text breaks at the place: because it ends, or inside
abbrev pub BreaksBy : Bool → Spot → List ℕ → ℕ → Type 0
BreaksBy true s text place = BreaksAtEnd s text place
BreaksBy false s text place = BreaksInside s text place

-- the text is bad at the place, which says how many bytes stand from there on
pub record IsBadFrom (s : Spot) (text : List ℕ) (place : BadPlace) : Type 0 where
  pub within : place.left ≤ length text
  pub breaks : BreaksBy place.open s text (length text - place.left)

-- what the rest of a line says that ends here, or where it is bad
abbrev pub ReadsFrom : Spot → List ℕ → Result (Option Parts) LineHalt → Type 0
ReadsFrom s text (Ok quad) = Left s text (option_to_list quad)
ReadsFrom s text (Err NoMemory) = Unit {0}
ReadsFrom s text (Err (Bad place)) = IsBadFrom s text place

-- what the rest of a line says behind a token is what it says before it
abbrev pub Continues : Spot → List ℕ → Spot → List ℕ → Type 0
Continues s text r rest = (answer : Result (Option Parts) LineHalt) → ReadsFrom r rest answer → ReadsFrom s text answer

-- nothing is left, or no token that may follow begins here
abbrev pub halt_at : List ℕ → LineHalt
halt_at [] = Bad (record { left = 0; «open» = true })
halt_at (c ∷ text) = Bad (record { left = length (c ∷ text); «open» = false })

-- ---- white space

abbrev pub is_blank : ℕ → Bool
is_blank c = c == 32 || c == 9

abbrev pub is_no_blank : ℕ → Bool
is_no_blank c = not (is_blank c)

-- white space leads nowhere else
abbrev pub LeadsBlank : Spot → Type 0
LeadsBlank s = (b : ℕ) → leads_to s (tokens.blank b) ≡ Some s

-- the rest behind white space
pub record BlanksSkipped (text rest : List ℕ) : Type 0 where
  pub in_line : IsInLine rest
  pub apart : next_of rest ≡ Space → ⊥
  pub blanks : ℕ
  pub within : blanks ≤ length text
  pub rest_is : rest ≡ drop blanks text
  pub continues : (s : Spot) → LeadsBlank s → Continues s text s rest

-- ---- IRIs and strings

abbrev pub good_in : Frame → List ℕ → Bool
good_in Angles m = has_iri_form m
good_in Quotes m = true

abbrev pub fine_in : Frame → List ℕ → Bool
fine_in Angles m = begins_iri m
fine_in Quotes m = true

abbrev pub open_of : Frame → ℕ
open_of Angles = 60
open_of Quotes = 34

abbrev pub begins_with : List ℕ → ℕ → Bool
begins_with [] b = false
begins_with (c ∷ text) b = c == b

-- characters between signs, which take this many bytes
pub record IsFramed (frame : Frame) (text m : List ℕ) (len : ℕ) : Type 0 where
  pub written : List Written
  pub text_is : text ≡ open_of frame ∷ (flat_map spelling written ++ close_of frame ∷ drop len text)
  pub within : len ≤ length text
  pub each : IsTrue (list_all (stands_in frame) written)
  pub meaning_is : m ≡ meaning written
  pub good : IsTrue (good_in frame m)

-- a token ends here, with its closing sign
abbrev pub token_ends : Frame → List ℕ → List ℕ → Bool
token_ends frame rest m = begins_with rest (close_of frame) && good_in frame m

-- no character stands at the front
abbrev pub NoneStands : Frame → List ℕ → Type 0
NoneStands frame rest = (w : Written) (back : List ℕ) → IsTrue (stands_in frame w) → rest ≡ spelling w ++ back → ⊥

-- the closing sign doesn't stand there, or not behind this
abbrev pub NotClosed : Frame → List ℕ → List ℕ → Type 0
NotClosed frame m rest = (x : List ℕ) → rest ≡ close_of frame ∷ x → IsTrue (good_in frame m) → ⊥

-- characters behind the opening sign, and then neither a further one nor the end of a token
pub record IsUnframed (frame : Frame) (text : List ℕ) (may_go : Bool) : Type 0 where
  pub written : List Written
  pub rest : List ℕ
  pub text_is : text ≡ open_of frame ∷ (flat_map spelling written ++ rest)
  pub each : IsTrue (list_all (stands_in frame) written)
  pub none : NoneStands frame rest
  pub not_closed : NotClosed frame (meaning written) rest
  pub goes_on : IsTrue may_go ↔ GoesOnBy (stands_in frame) (fine_in frame) (meaning written) rest

abbrev pub FramedRead : Frame → List ℕ → Result FramedToken LineHalt → Type 0
FramedRead frame text (Ok token) = IsFramed frame text token.meaning token.len
FramedRead frame text (Err NoMemory) = Unit {0}
FramedRead frame text (Err (Bad place)) = (place.left ≡ length text) × IsUnframed frame text place.open

-- ---- labels and names

-- whether a dot may follow here
abbrev pub DotsBy : Bool → Spot → Type 0
DotsBy true r = (q : Parts) × (leads_to r tokens.dot ≡ Some (has_dot q))
DotsBy false r = IsFalse (allows r Dot)

-- a name may stand here and leads there, where a dot may follow or not
pub record LeadsName (dotted : Bool) (s : Spot) (to : Term → Spot) : Type 0 where
  pub iri : (ws : List Written) → leads_to s (tokens.iri ws) ≡ Some (to (Iri (meaning ws)))
  pub label : (cs : List ℕ) → leads_to s (tokens.label cs) ≡ Some (to (Blank (ren (encodes cs))))
  pub dots : (term : Term) → DotsBy dotted (to term)

-- ASCII that a label goes on with, but a dot
abbrev pub is_word : ℕ → Bool
is_word c = is_ascii_alphanumeric c || (c == 95 || (c == 58 || c == 45))

abbrev pub is_no_word : ℕ → Bool
is_no_word c = not (is_word c)

-- these have been read: characters of which the last is no dot, and then dots
pub record HasRun (text : List ℕ) (kept len : ℕ) : Type 0 where
  pub characters : List ℕ
  pub dots : List ℕ
  pub text_is : text ≡ encodes characters ++ (dots ++ drop len text)
  pub kept_is : kept ≡ length (encodes characters)
  pub len_is : len ≡ kept + length dots
  pub each : IsTrue (list_all goes_on_label characters)
  pub all_dots : IsTrue (list_all (λ c. c == 46) dots)
  pub no_dot : (cs : List ℕ) → characters ≡ cs ++ 46 ∷ [] → ⊥

-- the characters of a label at the front, without the dots at their end and with them
pub record IsRun (text : List ℕ) (run : Run) : Type 0 where
  pub characters : List ℕ
  pub dots : List ℕ
  pub text_is : text ≡ encodes characters ++ (dots ++ drop run.len text)
  pub kept_is : run.kept ≡ length (encodes characters)
  pub len_is : run.len ≡ run.kept + length dots
  pub each : IsTrue (list_all goes_on_label characters)
  pub all_dots : IsTrue (list_all (λ c. c == 46) dots)
  pub no_dot : (cs : List ℕ) → characters ≡ cs ++ 46 ∷ [] → ⊥
  pub no_more : HasCode goes_on_label (drop run.len text) → ⊥

-- a byte of ASCII that no label goes on with
abbrev pub closes_label : ℕ → Bool
closes_label c = nat_lt c 128 && not (goes_on_label c)

-- nothing, or a byte of ASCII
abbrev pub is_low : List ℕ → Bool
is_low [] = true
is_low (c ∷ x) = nat_lt c 128

-- a colon stands behind the first byte
abbrev pub has_colon : List ℕ → Bool
has_colon (c ∷ d ∷ x) = d == 58
has_colon text = false

-- a second caret stands behind the first byte
abbrev pub has_carets : List ℕ → Bool
has_carets (c ∷ d ∷ x) = d == 94
has_carets text = false

-- the spot behind a string to which nothing is joined
abbrev pub has_plain : Term → List ℕ → List ℕ → Spot
has_plain subject predicate text = has_object subject predicate (literal_of text xsd_string None)

-- a label ends before so many dots and what stands behind them
abbrev pub label_ends : Bool → ℕ → List ℕ → Bool
label_ends dotted dots tail = (dots == 0 || (dotted && dots == 1)) && is_low tail

-- how many of the dots are tokens
abbrev pub dot_len : Bool → ℕ → ℕ
dot_len dotted dots = if dotted && nat_lt 0 dots then 1 else 0

-- what ends a label: nothing, such a byte, and where a dot may follow, a dot before them
abbrev pub Closes : List ℕ → Type 0
Closes [] = Unit {0}
Closes (c ∷ x) = IsTrue (closes_label c)

abbrev pub EndsLabel : Bool → List ℕ → Type 0
EndsLabel dotted rest = Closes rest ⊎ ((x : List ℕ) × (dotted ≡ true) × (rest ≡ 46 ∷ x) × Closes x)

pub record IsLabelRead (dotted : Bool) (text renamed : List ℕ) (len : ℕ) : Type 0 where
  pub characters : List ℕ
  pub text_is : text ≡ 95 ∷ 58 ∷ (encodes characters ++ drop len text)
  pub within : len ≤ length text
  pub label : IsTrue (is_label characters)
  pub renamed_is : renamed ≡ ren (encodes characters)
  pub ends : EndsLabel dotted (drop len text)

abbrev pub LabelRead : Bool → List ℕ → Result Label LineHalt → Type 0
LabelRead dotted text (Ok label) = IsLabelRead dotted text label.renamed label.len
LabelRead dotted text (Err halt) = (s : Spot) (to : Term → Spot) → LeadsName dotted s to → ReadsFrom s text (Err halt)

pub record IsName (dotted : Bool) (text : List ℕ) (term : Term) (len : ℕ) : Type 0 where
  pub within : len ≤ length text
  pub node : IsNode term
  pub continues : (s : Spot) (to : Term → Spot) → LeadsName dotted s to → Continues s text (to term) (drop len text)

abbrev pub NameRead : Bool → List ℕ → Result TermToken LineHalt → Type 0
NameRead dotted text (Ok name) = IsName dotted text name.term name.len
NameRead dotted text (Err halt) = (s : Spot) (to : Term → Spot) → LeadsName dotted s to → ReadsFrom s text (Err halt)

-- ---- language tags

abbrev pub LeadsTag : Spot → Type 0
LeadsTag s = (text : List ℕ) → (r : Spot) × (leads_to s (tokens.tag text) ≡ Some r)

-- what may stand in the first part of a tag, and in a later one
abbrev pub in_part : Bool → ℕ → Bool
in_part true c = is_ascii_alphabetic c
in_part false c = is_ascii_alphanumeric c

-- where the next byte of a tag stands
abbrev pub tag_after : Part → ℕ → Option Part
tag_after part c =
    if is_dash c then (if part.begun then Some (record { first = false; begun = false }) else None)
    else (if in_part part.first c then Some (record { first = part.first; begun = true }) else None)

-- the longest front that may begin a tag
pub record IsTagFront (text : List ℕ) (len : ℕ) : Type 0 where
  pub within : len ≤ length text
  pub begun : IsTrue (begins_tag (take len text))
  pub no_more : (c : ℕ) (x : List ℕ) → drop len text ≡ c ∷ x → IsFalse (begins_tag (take len text ++ c ∷ []))

pub record IsTagRead (text tag : List ℕ) (len : ℕ) : Type 0 where
  pub within : len ≤ length text
  pub is_tag : IsTrue (is_language_tag tag)
  pub continues : (s r : Spot) → leads_to s (tokens.tag tag) ≡ Some r → Continues s text r (drop len text)

abbrev pub TagRead : List ℕ → Result Tag LineHalt → Type 0
TagRead text (Ok tag) = IsTagRead text tag.text tag.len
TagRead text (Err halt) = (s : Spot) → LeadsTag s → ReadsFrom s text (Err halt)

-- ---- comments

abbrev pub LeadsComment : Spot → List Parts → Type 0
LeadsComment s quads = (cs : List ℕ) → leads_to s (tokens.comment cs) ≡ Some (has_comment quads)

abbrev pub CommentRead : List ℕ → Result (Unit {0}) LineHalt → Type 0
CommentRead text (Ok u) = (s : Spot) (quads : List Parts) → LeadsComment s quads → Left s text quads
CommentRead text (Err halt) = (s : Spot) (quads : List Parts) → LeadsComment s quads → ReadsFrom s text (Err halt)
