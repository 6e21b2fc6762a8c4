pub mod LineCuts
pub mod Told
pub mod Fronts
pub mod Joins
pub mod Outcomes
