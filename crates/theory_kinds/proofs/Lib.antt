-- The laws of this crate.
pub mod Examples
pub mod Inputs
pub mod KindLaws
pub mod Kinded
pub mod KindsHold
