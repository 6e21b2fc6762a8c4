pub mod Escapes
pub mod Laws
pub mod Steps
pub mod Weights
pub mod Writing
