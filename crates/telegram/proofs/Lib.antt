pub mod Coding
pub mod Fronts
