pub mod Spots
pub mod Says
pub mod Reordering
pub mod Laws
