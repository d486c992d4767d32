-- The laws of this crate.
pub mod Accepted
pub mod Binding
pub mod Loopless
pub mod Rounds
pub mod Rows
pub mod Scope
pub mod WidthLaws
