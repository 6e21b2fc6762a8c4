-- Classes tell what the meanings of a key do.
use Rattle.std.proofs.Common.{◌≡◌, ℕ, ◌==◌, Bool, true, false, not, cond, ◌||◌, List, [], ◌∷◌, ap, refl, sym, ◌∙◌, subst}
use Rattle.std.proofs.lemmas.Bool.{cond-false, ne_eqb}
use Rattle.std.proofs.lemmas.Slice.Eq.{bytes_eq-Decides}
use Rattle.std.specs.List.{list_any}
use Rattle.std.specs.Prelude.{codes, bytes_eq, if◌then◌else◌}
use Rattle.jl_model.specs.JsonTree.{Tree, scalar, array, object}
use Rattle.jl_model.specs.declared.orders.Order.{Order}
use Rattle.jl_model.specs.declared.orders.Order.TheVariants.{Streaming}
use Rattle.jl_defs.specs.Context.{Context}
use Rattle.jl_defs.specs.Keys as keys
use Rattle.jl_defs.specs.Keys.{Key, its_context, id, kind, value, language, direction, index, graph, included, list, set, reverse, nest, other, dropped, property, key_of, keyword_key}
use Rattle.jl_defs.specs.ObjectContexts.{types_in, is_in_prelude}
use Rattle.jl_defs.specs.Texts.{Text}
use Rattle.jl_prelude.specs.Classes as class
use Rattle.jl_prelude.specs.Classes.{class_of, is_aside, some_leading, some_kind, Tell, BeginsWith, leads, ends}
use Rattle.jl_prelude.specs.declared.classes.Class.{Class}
use Rattle.jl_prelude.specs.declared.classes.Class.TheVariants.{Kind, Identifier, Aside, Value, Other}
use Rattle.jl_prelude.specs.declared.classes.Classes.{Classes}

leading_key : (k : Key) → class.is_leading (class_of k) ≡ keys.is_leading k
leading_key its_context = refl
leading_key id = refl
leading_key kind = refl
leading_key value = refl
leading_key language = refl
leading_key direction = refl
leading_key index = refl
leading_key graph = refl
leading_key included = refl
leading_key list = refl
leading_key set = refl
leading_key reverse = refl
leading_key nest = refl
leading_key other = refl
leading_key dropped = refl
leading_key (property name) = refl

kind_key : (k : Key) → class.is_kind (class_of k) ≡ keys.is_kind k
kind_key its_context = refl
kind_key id = refl
kind_key kind = refl
kind_key value = refl
kind_key language = refl
kind_key direction = refl
kind_key index = refl
kind_key graph = refl
kind_key included = refl
kind_key list = refl
kind_key set = refl
kind_key reverse = refl
kind_key nest = refl
kind_key other = refl
kind_key dropped = refl
kind_key (property name) = refl

pub id_key : (k : Key) → class.is_identifier (class_of k) ≡ keys.is_id k
id_key its_context = refl
id_key id = refl
id_key kind = refl
id_key value = refl
id_key language = refl
id_key direction = refl
id_key index = refl
id_key graph = refl
id_key included = refl
id_key list = refl
id_key set = refl
id_key reverse = refl
id_key nest = refl
id_key other = refl
id_key dropped = refl
id_key (property name) = refl

once : (b : Bool) → (b || (b || b)) ≡ (b || false)
once true = refl
once false = refl

-- one context, and the key's class in it three times
pub tell_one : (c : Context) (name : Text) (x : Class) → x ≡ class_of (key_of c name)
    → Tell (c ∷ []) name (record { incoming = x; kept = x; reverted = x })
tell_one c name x e = record {
  leading = once (class.is_leading x) ∙ ap (λ b. b || false) (ap class.is_leading e ∙ leading_key (key_of c name));
  kind = once (class.is_kind x) ∙ ap (λ b. b || false) (ap class.is_kind e ∙ kind_key (key_of c name));
}

-- a member leads exactly where it may stand in the prelude
pub leads_prelude : (cs : List Context) (name : Text) (v : Tree) (classes : Classes) (first : ℕ) → Tell cs name classes → BeginsWith v first
    → leads classes first ≡ is_in_prelude cs name v
leads_prelude cs name (object at ms) classes first t b = subst (λ c. leads classes c ≡ false) (sym b) refl
leads_prelude cs name (array at xs) classes first t b = subst (λ c. leads classes c ≡ list_any (types_in name) cs) (sym b) t.kind
leads_prelude cs name (scalar at x) classes first t b =
    cond-false (first == 123) false (cond (first == 91) (some_kind classes) (some_leading classes)) (ne_eqb first 123 b.0)
    ∙ cond-false (first == 91) (some_kind classes) (some_leading classes) (ne_eqb first 91 b.1)
    ∙ t.leading

-- and in streaming order the first that doesn't ends the prelude
pub ends_prelude : (order : Order) (cs : List Context) (name : Text) (v : Tree) (classes : Classes) (first : ℕ) → order ≡ Streaming → Tell cs name classes
    → BeginsWith v first → ends order classes first ≡ not (is_in_prelude cs name v)
ends_prelude order cs name v classes first o t b =
    ap (λ s. ends s classes first) o ∙ ap not (leads_prelude cs name v classes first t b)

abbrev chosen : Bool → Bool → Bool → Bool → Class
chosen b c d e = if b then Identifier else (if c then Kind else (if d then Value else (if e then Aside else Other)))

by_tests : (a b c d e f g h i j k l m : Bool) → (a ≡ true → chosen b c d (e || (f || g)) ≡ Other) →
    class_of (if a then its_context else (if b then id else (if c then kind else (if d then value else (if e then language else (if f then direction else (if g then index
    else (if h then graph else (if i then included else (if j then list else (if k then set else (if l then reverse else (if m then nest else other))))))))))))) ≡ chosen b c d (e || (f || g))
by_tests true b c d e f g h i j k l m p = sym (p refl)
by_tests false true c d e f g h i j k l m p = refl
by_tests false false true d e f g h i j k l m p = refl
by_tests false false false true e f g h i j k l m p = refl
by_tests false false false false true f g h i j k l m p = refl
by_tests false false false false false true g h i j k l m p = refl
by_tests false false false false false false true h i j k l m p = refl
by_tests false false false false false false false true i j k l m p = refl
by_tests false false false false false false false false true j k l m p = refl
by_tests false false false false false false false false false true k l m p = refl
by_tests false false false false false false false false false false true l m p = refl
by_tests false false false false false false false false false false false true m p = refl
by_tests false false false false false false false false false false false false true p = refl
by_tests false false false false false false false false false false false false false p = refl

-- the class of a keyword, by three tests and that of the class `Aside`
pub keyword_class : (text : List ℕ) → class_of (keyword_key text)
    ≡ chosen (bytes_eq text (codes "@id")) (bytes_eq text (codes "@type")) (bytes_eq text (codes "@value")) (is_aside text)
keyword_class text =
    by_tests (bytes_eq text (codes "@context")) (bytes_eq text (codes "@id")) (bytes_eq text (codes "@type")) (bytes_eq text (codes "@value"))
    (bytes_eq text (codes "@language")) (bytes_eq text (codes "@direction")) (bytes_eq text (codes "@index"))
    (bytes_eq text (codes "@graph")) (bytes_eq text (codes "@included")) (bytes_eq text (codes "@list")) (bytes_eq text (codes "@set")) (bytes_eq text (codes "@reverse")) (bytes_eq text (codes "@nest"))
    (λ e. subst (λ t. chosen (bytes_eq t (codes "@id")) (bytes_eq t (codes "@type")) (bytes_eq t (codes "@value")) (is_aside t) ≡ Other)
    (sym ((bytes_eq-Decides text (codes "@context")).0 e)) refl)
