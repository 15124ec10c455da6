pub mod Same
pub mod Reading
pub mod Decoded
pub mod Recordings
pub mod Fronts
pub mod Packing
