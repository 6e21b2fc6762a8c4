-- The options of `read`: those that are built, read one after another, say what all of them say.
use Rattle.std.proofs.Common.{◌≡◌, ◌==◌, ◌<◌, ℕ, arith, length, Bool, true, false, not, ◌&&◌, if◌then◌else◌, List, [], ◌∷◌, Option, Some, None, refl, sym, ap, ◌∙◌, subst, inl, inr, IsTrue, ◌↔◌, codes, bytes_eq, is_none}
use Rattle.std.proofs.lemmas.Bool.{cases_Bool, and_parts, false≢true}
use Rattle.std.proofs.lemmas.Slice.Eq.{bytes_eq-Decides}
use Rattle.std.proofs.lemmas.Str.{IsUtf8-from_is_utf8, is_utf8-from_IsUtf8}
use Rattle.std.specs.Str.{IsUtf8, is_utf8}
use Rattle.std.specs.Option.{option_and_then}
use Rattle.jl_model.specs.declared.orders.Order.{Order}
use Rattle.jl_model.specs.declared.orders.Order.TheVariants.{Any, Streaming}
use Rattle.jl_defs.specs.Texts.{Text}
use Rattle.jl_defs.specs.Settings.{Settings}
use Rattle.jl_defs.specs.Words.{Given, Split, options, set_once, set_option, set_stats, is_stats, split_word, order_word, iri_word, file_word, number_within, is_value_word}
use Rattle.jl_top.specs.Words.{settings_with, settings_by, settings_in, is_built, given_by, order_by, set_order, set_base, set_built, settings_then, value_settings, option_settings}

-- ---- what is given beside the order and the base stays given

abbrev is_any : Option Order → Bool
is_any None = false
is_any (Some Any) = true
is_any (Some Streaming) = false

-- so far the options may be built
abbrev may_be_built : Given → Bool
may_be_built g = not (is_any g.order) && is_built g

-- with these options the words are no command that is built
abbrev Spoils : Option Given → Type 0
Spoils r = (h : Given) → r ≡ Some h → may_be_built h ≡ false

same_some : (a b : Given) → ◌≡◌ {A = Option Given} (Some a) (Some b) → a ≡ b
same_some a b e = cc

none_spoils : Spoils None
none_spoils h e = cc

some_spoils : (g : Given) → may_be_built g ≡ false → Spoils (Some g)
some_spoils g s h e = subst (λ x. may_be_built x ≡ false) (same_some g h e) s

once_spoils : {A : Type 0} (old value : Option A) (set : A → Given) → ((x : A) → may_be_built (set x) ≡ false) → Spoils (set_once old value set)
once_spoils (Some old) value set s = none_spoils
once_spoils None None set s = none_spoils
once_spoils None (Some x) set s = some_spoils (set x) (s x)

if_spoils : (b : Bool) (x y : Option Given) → Spoils x → Spoils y → Spoils (if b then x else y)
if_spoils true x y h k = h
if_spoils false x y h k = k

and_false : (a : Bool) → a && false ≡ false
and_false true = refl
and_false false = refl

and_none : (a b : Bool) → b ≡ false → a && b ≡ false
and_none a b e = ap (λ x. a && x) e ∙ and_false a

-- an order that is given doesn't mend it
order_spoils : (g : Given) (x : Order) → g.order ≡ None → may_be_built g ≡ false → may_be_built (record g { order = Some x }) ≡ false
order_spoils g x none s = and_none (not (is_any (Some x))) (is_built g) (sym (ap (λ o. not (is_any o) && is_built g) none) ∙ s)

-- nor does any other option
others_spoil : (g : Given) (a b c d e : Bool) → may_be_built g ≡ false → ((is_built g) ≡ (a && (b && (c && (d && e))))) → not (is_any g.order) && (a && (b && (c && (d && e)))) ≡ false
others_spoil g a b c d e s h = ap (λ x. not (is_any g.order) && x) (sym h) ∙ s

once_given : {A : Type 0} (old value : Option A) (set : A → Given) → (old ≡ None → (x : A) → may_be_built (set x) ≡ false) → Spoils (set_once old value set)
once_given (Some old) value set s = none_spoils
once_given None None set s = none_spoils
once_given None (Some x) set s = some_spoils (set x) (s refl x)

contexts_spoil : (g : Given) (x : Text) → may_be_built (record g { contexts = Some x }) ≡ false
contexts_spoil g x = and_none (not (is_any g.order)) false refl

limit_spoils : (g : Given) (x : ℕ) → may_be_built (record g { limit = Some x }) ≡ false
limit_spoils g x = and_none (not (is_any g.order)) (is_none g.contexts && false) (and_false (is_none g.contexts))

graph_spoils : (g : Given) (x : Text) → may_be_built (record g { only_graph = Some x }) ≡ false
graph_spoils g x =
    and_none (not (is_any g.order)) (is_none g.contexts && (is_none g.limit && false))
    (and_none (is_none g.contexts) (is_none g.limit && false) (and_false (is_none g.limit)))

predicate_spoils : (g : Given) (x : Text) → may_be_built (record g { only_predicate = Some x }) ≡ false
predicate_spoils g x =
    and_none (not (is_any g.order)) (is_none g.contexts && (is_none g.limit && (is_none g.only_graph && false)))
    (and_none (is_none g.contexts) (is_none g.limit && (is_none g.only_graph && false))
    (and_none (is_none g.limit) (is_none g.only_graph && false) (and_false (is_none g.only_graph))))

stats_spoil : (g : Given) → may_be_built (record g { stats = true }) ≡ false
stats_spoil g =
    and_none (not (is_any g.order)) (is_none g.contexts && (is_none g.limit && (is_none g.only_graph && (is_none g.only_predicate && false))))
    (and_none (is_none g.contexts) (is_none g.limit && (is_none g.only_graph && (is_none g.only_predicate && false)))
    (and_none (is_none g.limit) (is_none g.only_graph && (is_none g.only_predicate && false))
    (and_none (is_none g.only_graph) (is_none g.only_predicate && false) (and_false (is_none g.only_predicate)))))

-- the options that aren't built
rest_spoils : (name value : Text) (g : Given)
    → Spoils (if bytes_eq name (codes "--contexts") then set_once g.contexts (file_word value) (λ x. record g { contexts = Some x })
    else (if bytes_eq name (codes "--limit") then set_once g.limit (number_within 1 1099511627776 value) (λ x. record g { limit = Some x })
    else (if bytes_eq name (codes "--only-graph") then set_once g.only_graph (iri_word value) (λ x. record g { only_graph = Some x })
    else (if bytes_eq name (codes "--only-predicate") then set_once g.only_predicate (iri_word value) (λ x. record g { only_predicate = Some x }) else None))))
rest_spoils name value g =
    if_spoils (bytes_eq name (codes "--contexts")) (set_once g.contexts (file_word value) (λ x. record g { contexts = Some x })) _
    (once_spoils g.contexts (file_word value) (λ x. record g { contexts = Some x }) (contexts_spoil g))
    (if_spoils (bytes_eq name (codes "--limit")) (set_once g.limit (number_within 1 1099511627776 value) (λ x. record g { limit = Some x })) _
    (once_spoils g.limit (number_within 1 1099511627776 value) (λ x. record g { limit = Some x }) (limit_spoils g))
    (if_spoils (bytes_eq name (codes "--only-graph")) (set_once g.only_graph (iri_word value) (λ x. record g { only_graph = Some x })) _
    (once_spoils g.only_graph (iri_word value) (λ x. record g { only_graph = Some x }) (graph_spoils g))
    (if_spoils (bytes_eq name (codes "--only-predicate")) (set_once g.only_predicate (iri_word value) (λ x. record g { only_predicate = Some x })) None
    (once_spoils g.only_predicate (iri_word value) (λ x. record g { only_predicate = Some x }) (predicate_spoils g)) none_spoils)))

option_spoils : (name value : Text) (g : Given) → may_be_built g ≡ false → Spoils (set_option name value g)
option_spoils name value g s =
    if_spoils (bytes_eq name (codes "--order")) (set_once g.order (order_word value) (λ x. record g { order = Some x })) _
    (once_given g.order (order_word value) (λ x. record g { order = Some x }) (λ none x. order_spoils g x none s))
    (if_spoils (bytes_eq name (codes "--base")) (set_once g.base (iri_word value) (λ x. record g { base = Some x })) _
    (once_spoils g.base (iri_word value) (λ x. record g { base = Some x }) (λ x. s))
    (rest_spoils name value g))

set_stats_spoils : (g : Given) → Spoils (set_stats g)
set_stats_spoils g = by g.stats
  where
    by : (b : Bool) → Spoils (elim b [ true ↦ None | false ↦ Some (record g { stats = true }) ])
    by true = none_spoils
    by false = some_spoils (record g { stats = true }) (stats_spoil g)

-- no settings come of such options
abbrev IsNone : Option Settings → Type 0
IsNone r = r ≡ None

by_order_none : (o : Option Order) (base : Option Text) (built : Bool) → not (is_any o) && built ≡ false → ◌≡◌ {A = Option Settings} (elim built [ true ↦ settings_by o base | false ↦ None ]) None
by_order_none o base false s = refl
by_order_none None base true s = refl
by_order_none (Some Any) base true s = refl
by_order_none (Some Streaming) base true s = cc

spoilt_none : (g : Given) → may_be_built g ≡ false → settings_in (Some g) ≡ None
spoilt_none g s = by_order_none g.order g.base (is_built g) s

-- the words that follow, where they make no settings of options that can't be built
abbrev Fails : (Given → Option Given) → Type 0
Fails next = (h : Given) → may_be_built h ≡ false → settings_in (next h) ≡ None

then_fails : (r : Option Given) (next : Given → Option Given) → Spoils r → Fails next → settings_in (option_and_then next r) ≡ None
then_fails None next s f = refl
then_fails (Some h) next s f = f h (s h refl)

spoils_none : (r : Option Given) → Spoils r → settings_in r ≡ None
spoils_none None s = refl
spoils_none (Some h) s = spoilt_none h (s h refl)

abbrev own_value : Text → Text → Given → Option Given
own_value w v g = elim (is_value_word v) [ true ↦ set_option w v g | false ↦ None ]

own_spoils : (w v : Text) (g : Given) → may_be_built g ≡ false → Spoils (own_value w v g)
own_spoils w v g s = by (is_value_word v)
  where
    by : (b : Bool) → Spoils (elim b [ true ↦ set_option w v g | false ↦ None ])
    by true = option_spoils w v g s
    by false = none_spoils

one_fails : (w : Text) (h : Given) → may_be_built h ≡ false → (b : Bool) → is_stats (split_word w) ≡ b → (value : Option Text) → (split_word w).value ≡ value → settings_in (options (w ∷ []) h) ≡ None
unfolding options
one_fails w h s true e value f = rw e (spoils_none (set_stats h) (set_stats_spoils h))
one_fails w h s false e None f = rw (e, f) refl
one_fails w h s false e (Some value) f = rw (e, f) (spoils_none (set_option (split_word w).name value h) (option_spoils (split_word w).name value h s))

two_fail : (w v : Text) (ws : List Text) (h : Given) → may_be_built h ≡ false → Fails (options (v ∷ ws)) → Fails (options ws) → (b : Bool) → is_stats (split_word w) ≡ b → (value : Option Text) → (split_word w).value ≡ value
    → settings_in (options (w ∷ v ∷ ws) h) ≡ None
unfolding options
two_fail w v ws h s next behind true e value f = rw e (then_fails (set_stats h) (options (v ∷ ws)) (set_stats_spoils h) next)
two_fail w v ws h s next behind false e None f = rw (e, f) (then_fails (own_value w v h) (options ws) (own_spoils w v h s) behind)
two_fail w v ws h s next behind false e (Some value) f =
    rw (e, f) (then_fails (set_option (split_word w).name value h) (options (v ∷ ws)) (option_spoils (split_word w).name value h s) next)

no_words_fail : Fails (options [])
unfolding options
no_words_fail h s = spoilt_none h s

-- words behind options that can't be built make no settings
words_fail : (ws : List Text) → Fails (options ws)
words_fail [] h s = no_words_fail h s
words_fail (w ∷ []) h s = one_fails w h s (is_stats (split_word w)) refl (split_word w).value refl
words_fail (w ∷ v ∷ ws) h s = two_fail w v ws h s (words_fail (v ∷ ws)) (words_fail ws) (is_stats (split_word w)) refl (split_word w).value refl

one_stats : (w : Text) (h : Given) → is_stats (split_word w) ≡ true → settings_in (options (w ∷ []) h) ≡ None
unfolding options
one_stats w h e = rw e (spoils_none (set_stats h) (set_stats_spoils h))

two_stats : (w v : Text) (ws : List Text) (h : Given) → is_stats (split_word w) ≡ true → settings_in (options (w ∷ v ∷ ws) h) ≡ None
unfolding options
two_stats w v ws h e = rw e (then_fails (set_stats h) (options (v ∷ ws)) (set_stats_spoils h) (words_fail (v ∷ ws)))

-- ---- the options that are built

-- an option that is set is set, and the words behind it are read
settings_after : (r : Option Given) (rest : List Text) → settings_then r rest ≡ settings_in (option_and_then (options rest) r)
settings_after None rest = refl
settings_after (Some g) rest = refl

is_text : (a b : Text) → bytes_eq a b ≡ true → a ≡ b
is_text a b e = (bytes_eq-Decides a b).0 e

not_streaming : (value : Text) → bytes_eq value (codes "any") ≡ true → bytes_eq value (codes "streaming") ≡ false
not_streaming value e = subst (λ v. bytes_eq v (codes "streaming") ≡ false) (sym (is_text value (codes "any") e)) refl

-- the order
any_read : (value : Text) (base : Option Text) (rest : List Text) (any streaming : Bool) → (any ≡ true → streaming ≡ false)
    → settings_then (set_once None (elim streaming [ true ↦ Some Streaming | false ↦ None ]) (λ x. record (given_by false base) { order = Some x })) rest
    ≡ settings_in (option_and_then (options rest) (set_once None (elim any [ true ↦ Some Any | false ↦ elim streaming [ true ↦ Some Streaming | false ↦ None ] ]) (λ x. record (given_by false base) { order = Some x })))
any_read value base rest true true h = absurd (false≢true (sym (h refl)))
any_read value base rest true false h = sym (words_fail rest (record (given_by false base) { order = Some Any }) refl)
any_read value base rest false true h = refl
any_read value base rest false false h = refl

order_read : (value : Text) (streaming : Bool) (base : Option Text) (rest : List Text)
    → settings_then (set_order value (given_by streaming base)) rest
    ≡ settings_in (option_and_then (options rest) (set_once (given_by streaming base).order (order_word value) (λ x. record (given_by streaming base) { order = Some x })))
order_read value true base rest = refl
order_read value false base rest = any_read value base rest (bytes_eq value (codes "any")) (bytes_eq value (codes "streaming")) (not_streaming value)

-- any option
set_read : (name value : Text) (streaming : Bool) (base : Option Text) (rest : List Text)
    → settings_then (set_built name value (given_by streaming base)) rest ≡ settings_in (option_and_then (options rest) (set_option name value (given_by streaming base)))
set_read name value streaming base rest = by (bytes_eq name (codes "--order")) (bytes_eq name (codes "--base"))
  where
    g : Given
    g = given_by streaming base

    others : Option Given
    others =
        if bytes_eq name (codes "--contexts") then set_once g.contexts (file_word value) (λ x. record g { contexts = Some x })
        else (if bytes_eq name (codes "--limit") then set_once g.limit (number_within 1 1099511627776 value) (λ x. record g { limit = Some x })
        else (if bytes_eq name (codes "--only-graph") then set_once g.only_graph (iri_word value) (λ x. record g { only_graph = Some x })
        else (if bytes_eq name (codes "--only-predicate") then set_once g.only_predicate (iri_word value) (λ x. record g { only_predicate = Some x }) else None)))

    by : (is_order is_base : Bool)
        → settings_then (if is_order then set_order value g else (if is_base then set_base value g else None)) rest
        ≡ settings_in (option_and_then (options rest)
        (if is_order then set_once g.order (order_word value) (λ x. record g { order = Some x }) else (if is_base then set_once g.base (iri_word value) (λ x. record g { base = Some x }) else others)))
    by true is_base = order_read value streaming base rest
    by false true = settings_after (set_base value g) rest
    by false false = sym (then_fails others (options rest) (rest_spoils name value g) (words_fail rest))

-- a word without `=` is a name
name_longer : (c : ℕ) (cs : List ℕ) (b : Bool) → (c == 61) ≡ b → ((split_word cs).value ≡ None → (split_word cs).name ≡ cs) → (split_word (c ∷ cs)).value ≡ None → (split_word (c ∷ cs)).name ≡ c ∷ cs
name_longer c cs true f h e =
    let clash : ◌≡◌ {A = Option Text} (Some cs) None = sym (ap (λ b. (elim b as (λ b. Split) [ true ↦ record { name = []; value = Some cs } | false ↦ record { name = c ∷ (split_word cs).name; value = (split_word cs).value } ]).value) f) ∙ e in
    cc
name_longer c cs false f h e =
    let rest : (split_word cs).value ≡ None = sym (ap (λ b. (elim b as (λ b. Split) [ true ↦ record { name = []; value = Some cs } | false ↦ record { name = c ∷ (split_word cs).name; value = (split_word cs).value } ]).value) f) ∙ e in
    ap (λ b. (elim b as (λ b. Split) [ true ↦ record { name = []; value = Some cs } | false ↦ record { name = c ∷ (split_word cs).name; value = (split_word cs).value } ]).name) f ∙ ap (λ n. c ∷ n) (h rest)

whole_name : (w : Text) → (split_word w).value ≡ None → (split_word w).name ≡ w
whole_name [] e = refl
whole_name (c ∷ cs) e = name_longer c cs (c == 61) refl (whole_name cs) e

last_set : (r : Option Given) → settings_in (option_and_then (options []) r) ≡ settings_in r
unfolding options
last_set None = refl
last_set (Some g) = refl

stats_unset : (name value : Text) (g : Given) → bytes_eq name (codes "--stats") ≡ true → set_built name value g ≡ None
stats_unset name value g e = subst (λ n. set_built n value g ≡ None) (sym (is_text name (codes "--stats") e)) refl

value_unset : (name v : Text) (ws : List Text) (g : Given) (b : Bool) → bytes_eq name (codes "--stats") ≡ true → ◌≡◌ {A = Option Settings} (elim b [ true ↦ settings_then (set_built name v g) ws | false ↦ None ]) None
value_unset name v ws g true e = ap (λ r. settings_then r ws) (stats_unset name v g e)
value_unset name v ws g false e = refl

stats_none : (value : Option Text) (name : Text) (ws : List Text) (g : Given) → bytes_eq name (codes "--stats") && is_none value ≡ true → option_settings value name ws g ≡ None
stats_none (Some x) name ws g e = absurd (false≢true (and_parts (bytes_eq name (codes "--stats")) false e).1)
stats_none None name [] g e = refl
stats_none None name (v ∷ ws) g e = value_unset name v ws g (is_value_word v) (and_parts (bytes_eq name (codes "--stats")) true e).0

-- one more option, and the words behind it
option_read : (w : Text) (ws : List Text) (streaming : Bool) (base : Option Text)
    → option_settings (split_word w).value (split_word w).name ws (given_by streaming base) ≡ settings_in (options (w ∷ ws) (given_by streaming base))
unfolding options
option_read w ws streaming base = go ws (is_stats (split_word w)) refl (split_word w).value refl
  where
    g : Given
    g = given_by streaming base

    own_read : (v : Text) (rest : List Text) (b : Bool)
        → ◌≡◌ {A = Option Settings} (elim b [ true ↦ settings_then (set_built w v g) rest | false ↦ None ]) (settings_in (option_and_then (options rest) (elim b [ true ↦ set_option w v g | false ↦ None ])))
    own_read v rest true = set_read w v streaming base rest
    own_read v rest false = refl

    go : (ws : List Text) (b : Bool) → is_stats (split_word w) ≡ b → (value : Option Text) → (split_word w).value ≡ value → option_settings (split_word w).value (split_word w).name ws g ≡ settings_in (options (w ∷ ws) g)
    go [] true e value f = stats_none (split_word w).value (split_word w).name [] g e ∙ sym (one_stats w g e)
    go (v ∷ rest) true e value f = stats_none (split_word w).value (split_word w).name (v ∷ rest) g e ∙ sym (two_stats w v rest g e)
    go [] false e None f = rw (e, f) refl
    go [] false e (Some value) f = rw (e, f) (set_read (split_word w).name value streaming base [] ∙ last_set (set_option (split_word w).name value g))
    go (v ∷ rest) false e None f = rw (e, f) (ap (λ n. value_settings n (v ∷ rest) g) (whole_name w f) ∙ own_read v rest (is_value_word v))
    go (v ∷ rest) false e (Some value) f = rw (e, f) (set_read (split_word w).name value streaming base (v ∷ rest))

-- ---- the end of the options, and the test of their bytes

-- the settings at the end of the words
end_read : (streaming : Bool) (base : Option Text) → settings_in (options [] (given_by streaming base)) ≡ settings_by (order_by streaming) base
unfolding options
end_read streaming base = refl

pub test-is_utf8 : (test : Bool) (text : List ℕ) → (IsTrue test ↔ IsUtf8 text) → test ≡ is_utf8 text
test-is_utf8 true text same = sym (is_utf8-from_IsUtf8 text (same.0 refl))
test-is_utf8 false text same = elim (cases_Bool (is_utf8 text)) [
  | inl e ↦ same.1 (IsUtf8-from_is_utf8 text e) ∙ sym e
  | inr e ↦ sym e
]

-- the same, with the word split
pub split_read : (name : Text) (value : Option Text) (w bytes : Text) (ws : List Text) (streaming : Bool) (base : Option Text) → ◌≡◌ {A = Split} (record { name = name; value = value }) (split_word bytes) → bytes ≡ w
    → option_settings value name ws (given_by streaming base) ≡ settings_in (options (w ∷ ws) (given_by streaming base))
split_read name value w bytes ws streaming base e f =
    ap (λ (x : Split). option_settings x.value x.name ws (given_by streaming base)) (e ∙ ap split_word f) ∙ option_read w ws streaming base

words_end : (rest : List Text) (streaming : Bool) (base : Option Text) → length rest < 1 → settings_in (options rest (given_by streaming base)) ≡ settings_by (order_by streaming) base
words_end [] streaming base short = end_read streaming base
words_end (w ∷ ws) streaming base short = let no : ⊥ = omega (arith, short) in absurd no

-- at the end of the words
pub end_some : (rest : List Text) (whole : Option Settings) (streaming : Bool) (base : Option Text) → length rest < 1 → settings_in (options rest (given_by streaming base)) ≡ whole → streaming ≡ true → Some (settings_with base) ≡ whole
end_some rest whole true base short e is = sym (words_end rest true base short) ∙ e
end_some rest whole false base short e is = absurd (false≢true is)

pub end_none : (rest : List Text) (whole : Option Settings) (streaming : Bool) (base : Option Text) → length rest < 1 → settings_in (options rest (given_by streaming base)) ≡ whole → streaming ≡ false → None ≡ whole
end_none rest whole false base short e is = sym (words_end rest false base short) ∙ e
end_none rest whole true base short e is = absurd (false≢true (sym is))
