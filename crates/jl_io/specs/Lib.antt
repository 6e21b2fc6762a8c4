pub mod Outside
pub mod Shelves
pub mod Memory
pub mod MemoryForm
pub mod Streams
pub mod WholeLines
pub mod Strict
pub mod Puts
