-- IRIs and strings are tokens of characters between signs.
use Rattle.std.proofs.Common.{false, [], ◌∷◌, refl, lit<}
use lib.Utf8.{encode}
use Rattle.jl_model.specs.Iris.{has_iri_form}
use Rattle.jl_model.specs.LineTokens.{itself, is_string_character}
use Rattle.jl_model.specs.LineTokens as tokens
use Rattle.jl_model.proofs.LineCuts.{opens, only_iri, only_string}
use Rattle.jl_nquads.specs.IriFronts.{begins_iri, may_stand}
use Rattle.jl_nquads.proofs.FramedTokens.{Framed}
use Rattle.jl_nquads.proofs.TokenBodies.{iri_body, string_body, any, iri_from, iri_to}

pub iris : Framed (may_stand 62 false) 62 60 has_iri_form begins_iri tokens.iri
unfolding encode
iris = record {
  body = iri_body;
  bytes_are = λ ws. refl;
  from = iri_from;
  to = iri_to;
  apart = λ ws x. refl;
  only = λ t x y h e. only_iri t (opens t 60 y x (lit< tt) h e);
  some = itself 97 ∷ itself 58 ∷ [];
  some_fits = (refl, refl);
}

pub strings : Framed is_string_character 34 34 any any tokens.string
strings = record {
  body = string_body;
  bytes_are = λ ws. refl;
  from = λ ws h k. h;
  to = λ ws h. (h, refl);
  apart = λ ws x. refl;
  only = λ t x y h e. only_string t (opens t 34 y x (lit< tt) h e);
  some = [];
  some_fits = (refl, refl);
}
