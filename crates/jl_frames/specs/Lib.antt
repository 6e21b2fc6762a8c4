pub mod Formed
pub mod Nodes
pub mod Closing
pub mod Fronts
pub mod Machine
pub mod Answers
pub mod ReadAs
