pub mod Faithful
pub mod Asking
pub mod Waiting
