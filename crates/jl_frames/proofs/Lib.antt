pub mod KeyMeanings
pub mod Quads
pub mod Hanging
pub mod TextTerms
pub mod AllFormed
