pub mod Words
pub mod Inputs
pub mod Needs
pub mod Parts
