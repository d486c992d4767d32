pub mod Splits
pub mod Steps
pub mod Joining
pub mod Choosing
pub mod Looping
