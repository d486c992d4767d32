-- The laws of this crate.
pub mod PlaneBytes
pub mod PlaneFirings
pub mod PlaneOthers
pub mod Planes
