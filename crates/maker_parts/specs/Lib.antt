pub mod Room
pub mod Ranges
pub mod Parts
