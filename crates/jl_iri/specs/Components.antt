-- The components that are lent from a text, as the definition of resolution has them.
use Rattle.std.specs.Option.{option_copied}
use Rattle.jl_model.specs.Resolve.{Components}
use Rattle.jl_iri.specs.declared.parts.Parts.{Parts}

abbrev pub components_in : Parts → Components
components_in p = record {
  scheme = option_copied p.scheme;
  authority = option_copied p.authority;
  path = p.path.now;
  query = option_copied p.query;
  fragment = option_copied p.fragment;
}
