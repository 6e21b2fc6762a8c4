pub mod Segments
pub mod Components
pub mod Renaming
