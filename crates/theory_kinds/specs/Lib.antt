pub mod Strict
pub mod Examples
pub mod Kinded
pub mod KindLaws
pub mod KindsHold
pub mod Inputs
