pub mod Cuts
pub mod Plainly
pub mod Shapes
pub mod Events
pub mod LowFirst
pub mod Texts
