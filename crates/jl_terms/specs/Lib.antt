pub mod Seen
pub mod Views
pub mod Steps
pub mod Keywords
