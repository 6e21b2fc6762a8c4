-- Words that set a reading to something are a command, which says just that.
use Rattle.std.proofs.Common.{if◌then◌else◌, ◌≡◌, ℕ, Bool, true, false, List, [], ◌∷◌, Option, Some, None, ap, refl, sym, subst, codes, bytes_eq}
use Rattle.std.proofs.lemmas.Bool.{false≢true, and_from}
use Rattle.std.proofs.lemmas.Str.{is_utf8-from_IsUtf8}
use lib.Utf8.{encode}
use Rattle.std.proofs.lemmas.Slice.Eq.{bytes_eq-Decides}
use Rattle.std.specs.List.{list_all}
use Rattle.std.specs.Str.{is_utf8}
use Rattle.jl_model.specs.declared.orders.Order.{Order}
use Rattle.jl_model.specs.declared.orders.Order.TheVariants.{Any, Streaming}
use Rattle.jl_defs.specs.Texts.{Text}
use Rattle.jl_defs.specs.Settings.{Settings}
use Rattle.jl_defs.specs.Words.{Given, Command, reads, writes, command, first_word, no_words, number_command, generates, tries_itself, read_command, nothing_given, options}
use Rattle.jl_top.specs.Words.{AreReadWords, AreWriteWords, settings_in, settings_with, read_settings, words_with}

module _ (s : Settings) where
  no_some : ◌≡◌ {A = Option Settings} None (Some s) → ⊥
  no_some e = cc

  given_command : (order : Option Order) (base contexts : Option Text) (limit : Option ℕ) (graph predicate : Option Text) (stats : Bool)
      → settings_in (Some (record { order = order; base = base; contexts = contexts; limit = limit; only_graph = graph; only_predicate = predicate; stats = stats })) ≡ Some s
      → read_command (Some (record { order = order; base = base; contexts = contexts; limit = limit; only_graph = graph; only_predicate = predicate; stats = stats })) ≡ Some (reads (words_with s))
  given_command order base (Some x) limit graph predicate stats e = absurd (no_some e)
  given_command order base None (Some x) graph predicate stats e = absurd (no_some e)
  given_command order base None None (Some x) predicate stats e = absurd (no_some e)
  given_command order base None None None (Some x) stats e = absurd (no_some e)
  given_command order base None None None None true e = absurd (no_some e)
  given_command None base None None None None false e = absurd (no_some e)
  given_command (Some Any) base None None None None false e = absurd (no_some e)
  given_command (Some Streaming) base None None None None false e = let same : settings_with base ≡ s = cc in ap (λ x. Some (reads (words_with x))) same

  options_command : (o : Option Given) → settings_in o ≡ Some s → read_command o ≡ Some (reads (words_with s))
  options_command None e = absurd (no_some e)
  options_command (Some g) e = given_command g.order g.base g.contexts g.limit g.only_graph g.only_predicate g.stats e

  first_command : (w : Text) (ws : List Text) → read_settings w ws ≡ Some s → first_word w ws ≡ Some (reads (words_with s))
  first_command w ws = by (bytes_eq w (codes "read"))
    where
      by : (b : Bool) → ◌≡◌ {A = Option Settings} (elim b [ true ↦ settings_in (options ws nothing_given) | false ↦ None ]) (Some s)
          → (if b then read_command (options ws nothing_given)
          else (if bytes_eq w (codes "write") then no_words ws
          else (if bytes_eq w (codes "gen") then number_command generates ws
          else (if bytes_eq w (codes "self") then number_command tries_itself ws else None)))) ≡ Some (reads (words_with s))
      by true e = options_command (options ws nothing_given) e
      by false e = absurd (no_some e)

  whole_command : (w : Text) (ws : List Text) (b : Bool) → ◌≡◌ {A = Option Settings} (elim b [ true ↦ read_settings w ws | false ↦ None ]) (Some s)
      → ◌≡◌ {A = Option Command} (elim b [ true ↦ first_word w ws | false ↦ None ]) (Some (reads (words_with s)))
  whole_command w ws true e = first_command w ws e
  whole_command w ws false e = absurd (no_some e)

pub words_command : AreReadWords
unfolding command
words_command [] s e = absurd (no_some s e)
words_command (w ∷ ws) s e = whole_command s w ws (list_all is_utf8 (w ∷ ws)) e

write_utf8 : is_utf8 (codes "write") ≡ true
unfolding encode
write_utf8 = is_utf8-from_IsUtf8 (codes "write") (codes "write", (refl, refl))

pub write_command : AreWriteWords
unfolding command
write_command [] e = absurd (false≢true e)
write_command (w ∷ []) e = subst (λ x. command (x ∷ []) ≡ Some writes) (sym ((bytes_eq-Decides w (codes "write")).0 e)) (by (list_all is_utf8 (codes "write" ∷ [])) (and_from (is_utf8 (codes "write")) true write_utf8 refl))
  where
    by : (b : Bool) → b ≡ true → ◌≡◌ {A = Option Command} (elim b [ true ↦ first_word (codes "write") [] | false ↦ None ]) (Some writes)
    by true i = refl
    by false i = absurd (false≢true i)
write_command (w ∷ v ∷ ws) e = absurd (false≢true e)
