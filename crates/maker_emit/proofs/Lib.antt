pub mod Turns
pub mod Emits
