pub mod Cutting
pub mod Numbers
pub mod Commands
pub mod Recording
pub mod Bytes
pub mod Scripts
pub mod Sent
