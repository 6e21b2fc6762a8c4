pub mod Zeros
pub mod Magnitudes
pub mod ByKind
pub mod ByTerm
