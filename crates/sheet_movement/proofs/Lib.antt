-- The laws of this crate.
pub mod Drifts
pub mod Near
pub mod Numbers
pub mod Outcomes
pub mod Passed
pub mod Ranged
pub mod Sound
pub mod Within
