pub mod ClassLemmas
pub mod PreludeLemmas
