-- The laws of this crate.
pub mod Counts
pub mod Progress
pub mod Rounds
pub mod Schedules
pub mod Twins
