pub mod Inputs
pub mod Conclude
pub mod Handed
pub mod Rows
pub mod Small
